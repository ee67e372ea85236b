-- Each kind of step that the table offers keeps the rule. The step lemma of the running store serves them all.
use Rattle.std.proofs.Common.{Bool, List, None, Option, Some, [], ap, arith, cond, eq-eqb, eqb, false, get_or-set_other, get_or-set_same, length, length-append, length-set, ne_eqb, refl, subst, suc, sym, true, zero, ℕ, ◌%◌, ◌++◌, ◌+◌, ◌<◌, ◌==◌, ◌^◌, ◌∙◌, ◌∷◌, ◌≡◌, ◌≢◌, inl, inr, is_some}
use Rattle.std.proofs.lemmas.List.{set-get_or}
use Rattle.std.specs.Prelude.{slice_index, slice_set}
use lib.ListN.{get_elem?}
use mathlib.Core.Option as maybe
use native.Mathlib.Decide.{ℕ_discrete}
use prog.Atomic.{either}
use Rattle.atomic_table.specs.Table.{Allows, gives, keeps, Me, put_back, rest, State, takes}
use Rattle.model_core.proofs.Lists.{set_again, set_else}
use Rattle.model_core.specs.{filled, Filling, Fills, flat, flat_page_words, index, lent, next, OnWord, took, word_found, words_after, hand, IsFreeToCheck}
use Rattle.model_core.specs.States as model
use Rattle.model_core.specs.declared.words.Layout.{Layout}
use Rattle.model_core.specs.declared.ops.Answer.{Answer}
use Rattle.model_core.specs.declared.ops.Answer.TheVariants as answer
use Rattle.model_core.specs.declared.ops.Op.{Op}
use Rattle.model_core.specs.declared.ops.Op.TheVariants as op
use Rattle.model_core.specs.declared.words.Word.{Word}
use Rattle.redo_disk.specs.{Call, Seen}
use Rattle.redo_logdev.specs.Part as log
use Rattle.redo_drive.proofs.MayTurn.{holds_sum}
use Rattle.redo_drive.proofs.Played as played
use Rattle.redo_drive.specs.{AreLists, listing_at, Listings, lists_of, HasSamePages, IsPlayed, run_data_side, CallsOn, handed_by}
use Rattle.redo_drive.specs.declared.parts.Parts.{Parts}
use Rattle.redo_flushlist.specs.{Listing}
use Rattle.redo_drive.proofs.Filled.{IsNoRead}
use Rattle.redo_rule.proofs.Filled.{fills_block, handles_filled, IsNoGive, keeps_listed, one_filling}
use Rattle.redo_rule.proofs.Holders as holders
use Rattle.redo_rule.proofs.Kept as kept
use Rattle.redo_rule.proofs.Retook.{one_head}
use Rattle.model_core.proofs.TurnWords.{IsOffTurns, next_off}
use Rattle.redo_rule.proofs.Words.{plain_off, swapped}
use Rattle.atomic_table.proofs.Lists.{set_here}
use Rattle.model_core.proofs.Hands.{Handles}
use Rattle.redo_rule.specs.Handing.{appended_by, with_more}
use Rattle.redo_rule.specs.Plays.{behind, gave, KeepsTexts, list_behind, list_said, ListFits, looked, no_filling, saw, seized, Stepped, TakesList, taking, view_behind}
use Rattle.redo_rule.specs.OwnSide.{Beside, desk_with}
use Rattle.redo_rule.specs.Ruled.{Knows, Ruled, slot_content}
use Rattle.redo_rule.specs.declared.law.About.{About}
use Rattle.redo_rule.specs.declared.law.Desk.{Desk}
use Rattle.redo_rule.specs.declared.law.Errand.{Errand}
use Rattle.redo_rule.specs.declared.law.Keeping.{Keeping}
use Rattle.redo_rule.specs.declared.law.Numbered.{Numbered}
use Rattle.redo_rule.specs.declared.law.Slot.{Slot}
use Rattle.redo_rule.specs.declared.law.Slot.TheVariants as slot
use Rattle.redo_rule.specs.declared.law.View.{View}
use Rattle.redo_store.specs.Part as store
use Rattle.redo_words.specs.{HoldsSum}

-- what a slot has depends on the log part and the lists alone
pub same_content : {L D : Type 0} (p q : Parts L D) (beside : Beside) → p.log ≡ q.log → p.lists ≡ q.lists → (k : ℕ)
    → ◌≡◌ {A = Slot L D} (slot_content p beside k) (slot_content q beside k)
same_content p q beside e f zero = ap (λ (z : log.Part _). slot.Log (desk_with z beside)) e
same_content p q beside e f (suc i) = ap (λ (z : Listings). slot.Pages (listing_at z.lists i)) f

-- an Op on a word leaves what its actor holds
pub word_hand : (o : Op) → OnWord o → (before : Option ℕ) (behind : Answer → Option ℕ) → Handles o before behind → (n : ℕ) → behind (answer.Old n) ≡ before
word_hand (op.Load w) on before behind h n = h n
word_hand (op.Store w x) on before behind h n = h n
word_hand (op.Add w x) on before behind h n = h n
word_hand (op.Swap w x y) on before behind h n = h n
word_hand _ on before behind h n = absurd on

module _ {L D : Type 0} (log_seen : L → Seen) (log_gives : L → Call → L → Type 0) (data_seen : D → Seen)
    (data_gives : D → Call → D → Type 0) (about : About L D) (slots id : ℕ) (me : Me (Slot L D) (View L D)) where
  -- a look
  pub allows_look : (i : ℕ) → Allows (Ruled log_seen log_gives data_seen data_gives about) slots id me i (λ n. n) (looked log_seen data_seen me)
  allows_look i s R wide at small =
      let e : slice_set s.words i (slice_index s.words i) ≡ s.words = set-get_or s.words i 0 in
      let f : ◌≡◌ {A = List (View L D)} (slice_set s.views id me.0) s.views = set_again s.views id me.0 at in (
        me.0,
        keeps,
        tt,
        subst (λ (ws : List ℕ). Ruled log_seen log_gives data_seen data_gives about (record { words = ws; homes = s.homes; views = slice_set s.views id me.0 })) (sym e) (subst (λ (vs : List (View L D)). Ruled log_seen log_gives data_seen data_gives about (record { words = s.words; homes = s.homes; views = vs })) (sym f) R),
        (
          refl,
          λ y is. let known = kept.known log_seen log_gives data_seen data_gives about s R id me.0 y is at in
              kept.may_go log_seen data_seen R.run R.parts R.actors R.runs y.number y.actor (kept.here log_seen
              log_gives data_seen data_gives about s R id me.0 y is at) me.0.layout me.0.held me.0.data_part
              (kept.count log_seen log_gives data_seen data_gives about s R id me.0 y is at)
              (λ desk h mine. kept.same_log desk (desk_with R.parts.log R.beside) (kept.same_slot (slot.Log desk) (slot.Log (desk_with R.parts.log R.beside)) (sym h ∙ kept.holds_content log_seen log_gives data_seen data_gives about s R id me.0 y is at 0
              mine)))
              (λ d h. (known.data_part d h).1) (kept.is_free log_seen log_gives data_seen data_gives about s R id me.0 y is at),
        ),
      )

module _ {L D : Type 0} (log_seen : L → Seen) (log_gives : L → Call → L → Type 0) (data_seen : D → Seen) (data_gives : D → Call → D → Type 0) (about : About L D) (slots id : ℕ) (me : Me (Slot L D) (View L D)) (x : Numbered) (one : me.0.seats ≡ x ∷ [])
    (plain_one : ◌≡◌ {A = Option Errand} x.errand None) where
  abbrev pub Law : State (Slot L D) (View L D) → Type 0
  Law = Ruled log_seen log_gives data_seen data_gives about

  abbrev a : model.Actor
  a = x.actor

  -- a seat's view after an answer, and what it tells
  abbrev pub viewed : Filling → Answer → Option (Slot L D) → Option (Keeping D) → View L D
  viewed f r held stored = view_behind me.0 x f r held stored

  -- its actor, into which nothing is put
  abbrev plain : model.Actor
  plain = filled a no_filling

  fills_none : (o : Op) → next a ≡ o → IsNoGive o → IsFreeToCheck a → Fills a no_filling
  fills_none o is other free = fills_block a no_filling free (subst IsNoGive (sym is) other)

  pub of_any : (P : Numbered → Type 0) → P x → (y : Numbered) → me.0.seats ≡ y ∷ [] → P y
  of_any P p y e = subst P (one_head me.0.seats x y one e) p

  on_word : (o : Op) (i : ℕ) (f : ℕ → ℕ) → next a ≡ o → OnWord o → IsNoGive o → ((k : ℕ) → k < 5 → 7 + k ≢ i) → ((ws :
      List ℕ) → HoldsSum me.0.layout o ws → slice_set ws i (f (slice_index ws i)) ≡ words_after me.0.layout o ws)
      → ((ws : List ℕ) → word_found me.0.layout o ws ≡ slice_index ws i)
      → Allows Law slots id me i f (saw log_seen data_seen me)
  on_word o i f is on other off words found s R wide at small =
      let fills = fills_none o is other (kept.is_free log_seen log_gives data_seen data_gives about s R id me.0 x one
      at) in
      let n : ℕ = slice_index s.words i in
      let r : Answer = answer.Old n in
      let ws : List ℕ = slice_set s.words i (f n) in
      let new : Parts L D = record { words = record { layout = R.parts.words.layout; words = ws }; log = R.parts.log; store = R.parts.store; lists = R.parts.lists } in
      let e : R.parts.words.words ≡ s.words = R.words_are in
      let known : Knows about R.parts R.beside R.actors R.heard R.seat_of R.keeper R.out id me.0 =
      kept.known log_seen log_gives data_seen data_gives about s R id me.0 x one at in
      let layout : Layout = R.parts.words.layout in
      let layout_is : me.0.layout ≡ layout =
      kept.count log_seen log_gives data_seen data_gives about s R id me.0 x one at in
      let sum : HoldsSum me.0.layout o s.words = subst (λ (l : Layout). HoldsSum l o s.words) (sym layout_is)
      (subst (HoldsSum layout o) e (subst (λ (p : Op). HoldsSum layout p R.parts.words.words) is
      (holds_sum layout (lists_of R.parts.lists) (is_some R.parts.log.failed) 0 0 R.parts.words.words a (kept.fits log_seen log_gives data_seen data_gives about s R id me.0 x one at 0 0).log))) in
      let same : HasSamePages R.parts new = record { words = refl; lists = refl } in
      let done : IsPlayed log_seen data_seen R.run (next a) (lent plain) R.parts r new = subst (λ (p : Op). IsPlayed
      log_seen data_seen R.run p (lent plain) R.parts r new) (sym is)
      (played.word_played log_seen data_seen R.run (lent plain) R.parts o new.words r on refl
      (words s.words sum ∙ ap (λ (l : Layout). words_after l o s.words) layout_is ∙ ap (words_after layout o) (sym e))
      (ap answer.Old (sym (found s.words) ∙ ap (λ (l : Layout). word_found l o s.words) layout_is
      ∙ ap (word_found layout o) (sym e)))) in
      let goes : Handles o (hand a) (λ (z : Answer). hand (took plain z)) = subst (λ (p : Op). Handles p (hand a) (λ
      (z : Answer). hand (took plain z))) is (handles_filled a no_filling (kept.is_free log_seen log_gives
      data_seen data_gives about s R id me.0 x one at)) in
      let own : (k : ℕ) → hand (took plain r) ≡ Some k → me.0.held ≡ Some (slot_content new R.beside k) = λ k h.
      kept.holds_content log_seen log_gives data_seen data_gives about s R id me.0 x one at k (sym (word_hand o on
      (hand a) (λ (z : Answer). hand (took plain z)) goes n) ∙ h) ∙ ap (λ (z : Slot L D). Some z) (same_content
      R.parts new R.beside refl refl k) in (
        viewed no_filling r me.0.held me.0.data_part,
        keeps,
        tt,
        kept.kept log_seen log_gives data_seen data_gives about s R id me.0 x one at no_filling fills r new R.beside
            same done plain_one
            (viewed no_filling r me.0.held me.0.data_part) R.out refl refl refl refl own (λ d h. known.data_part d h)
            (λ j c k ne h hold. same_content R.parts new R.beside refl refl k) (λ j u d ne h stored. (R.knows j u
            h).data_part d stored) s.homes R.lists_are R.log_calls R.data_calls refl R.slots
            (λ k l z. R.home k l (sym (get_or-set_other s.words i (7 + k) (f n) 0 (off k l)) ∙ z) ∙ ap (λ (y : Slot L
            D). maybe.some (maybe.some y)) (same_content R.parts new R.beside refl refl k))
            R.data_home
            (λ k l z. inr (
              (λ q. z (get_or-set_other s.words i (7 + k) (f n) 0 (off k l) ∙ q)),
              λ q. word_hand o on
                  (hand a) (λ (y : Answer). hand (took plain y)) goes n ∙ q,
            )),
        of_any (λ (y : Numbered). Stepped log_seen data_seen y no_filling r me.0.held me.0.data_part me.1 me (
          viewed
              no_filling r me.0.held me.0.data_part,
          me.1,
        ))
            (kept.steps log_seen log_gives data_seen data_gives about s R id me.0 x one at no_filling fills r new
            R.beside same done plain_one me.1 me.0.held me.0.data_part me.1 own (λ d h. (known.data_part d h).1)),
      )

  pub allows_load : (w : Word) → next a ≡ op.Load w → Allows Law slots id me (index me.0.layout w) (λ n. n) (saw log_seen data_seen me)
  allows_load w is = on_word (op.Load w) (index me.0.layout w) (λ n. n) is tt tt (plain_off me.0.layout w (subst IsOffTurns is (next_off a)))
      (λ ws _. set-get_or ws (index me.0.layout w) 0) (λ ws. refl)

  pub allows_store : (w : Word) (y : ℕ) → next a ≡ op.Store w y → Allows Law slots id me (index me.0.layout w) (λ _. y) (saw log_seen data_seen me)
  allows_store w y is = on_word (op.Store w y) (index me.0.layout w) (λ _. y) is tt tt (plain_off me.0.layout w (subst IsOffTurns is (next_off
      a))) (λ ws _. refl) (λ ws. refl)

  pub allows_add : (w : Word) (y : ℕ) → next a ≡ op.Add w y → Allows Law slots id me (index me.0.layout w) (λ n. (n + y) % 2 ^ 64) (saw log_seen data_seen me)
  allows_add w y is = on_word (op.Add w y) (index me.0.layout w) (λ n. (n + y) % 2 ^ 64) is tt tt (plain_off me.0.layout w (subst IsOffTurns
      is (next_off a)))
      (λ ws sum. ap (slice_set ws (index me.0.layout w)) (let e : (slice_index ws (index me.0.layout w) + y) % 2 ^ 64 ≡ slice_index ws (index me.0.layout w) + y = omega arith in e)) (λ ws. refl)

  pub allows_swap : (w : Word) (y z : ℕ) → next a ≡ op.Swap w y z → Allows Law slots id me (index me.0.layout w) (λ n. either (eqb n y) z n) (saw log_seen data_seen me)
  allows_swap w y z is = on_word (op.Swap w y z) (index me.0.layout w) (λ n. either (eqb n y) z n) is tt tt (plain_off me.0.layout w (subst
      IsOffTurns is (next_off a))) (λ ws _. swapped ws (index me.0.layout w) y z) (λ ws. refl)

  -- there are words enough
  many : (s : State (Slot L D) (View L D)) (R : Law s) (k : ℕ) → k < 5 → 7 + k < length s.words
  many s R k below =
      let m = R.runs.running.shared in
      let n : length s.words ≡ length (flat m) = ap length (sym R.words_are ∙ R.runs.running.flat_is) in
      let after_cells : List ℕ = m.firsts ++ (m.places ++ flat_page_words m.page_words) in
      let rows = length-append m.lists (m.wlinks ++ (m.clinks ++ (m.cells ++ after_cells))) in
      let lists = R.runs.running.both.logged.sized.lists in
      omega arith

  -- what lies in the log part's slot
  abbrev desk_of : (s : State (Slot L D) (View L D)) → Law s → Desk L
  desk_of s R = desk_with R.parts.log R.beside

  -- whoever takes a turn word that is held
  finds_held : (o : Op) (k : ℕ) → next a ≡ o → IsNoGive o → k < 5 → (hand a ≡ None) → hand (took plain answer.Held) ≡
      None
      → ((s : State (Slot L D) (View L D)) (R : Law s) (new : Parts L D) → slice_index s.words (7 + k) ≢ 0 →
      new.words.layout ≡ R.parts.words.layout → new.words.words ≡ R.parts.words.words → new.log ≡ R.parts.log → new.store ≡ R.parts.store → new.lists ≡
      R.parts.lists → IsPlayed log_seen data_seen R.run o (lent plain) R.parts answer.Held new)
      → (s : State (Slot L D) (View L D)) (R : Law s) → get_elem? s.views id ≡ maybe.some me.0 → slice_index s.words (7 + k) ≢ 0
      → (ws : List ℕ) → ws ≡ s.words
      → Law (record {
        words = ws;
        homes = s.homes;
        views = slice_set s.views id (viewed no_filling answer.Held
            me.0.held me.0.data_part);
      }) × Stepped log_seen data_seen x no_filling answer.Held me.0.held me.0.data_part
      me.1 me (viewed no_filling answer.Held me.0.held me.0.data_part, me.1)
  finds_held o k is other below free held plays s R at busy ws e =
      let fills = fills_none o is other (kept.is_free log_seen log_gives data_seen data_gives about s R id me.0 x one
      at) in
      let new : Parts L D = record { words = record { layout = R.parts.words.layout; words = ws }; log = R.parts.log; store = R.parts.store; lists = R.parts.lists } in
      let known : Knows about R.parts R.beside R.actors R.heard R.seat_of R.keeper R.out id me.0 =
      kept.known log_seen log_gives data_seen data_gives about s R id me.0 x one at in
      let same : HasSamePages R.parts new = record { words = refl; lists = refl } in
      let done : IsPlayed log_seen data_seen R.run (next a) (lent plain) R.parts answer.Held new = subst (λ (p : Op).
      IsPlayed log_seen data_seen R.run p (lent plain) R.parts answer.Held new) (sym is) (plays s R new busy refl (e ∙
      sym R.words_are) refl refl refl) in
      let own : (j : ℕ) → hand (took plain answer.Held) ≡ Some j → me.0.held ≡ Some (slot_content new R.beside j) = λ j
      h. absurd (cc) in (
        kept.kept log_seen log_gives data_seen data_gives about s R id me.0 x one at no_filling fills answer.Held new
            R.beside same done plain_one
            (viewed no_filling answer.Held me.0.held me.0.data_part) R.out refl refl refl refl own (λ d h. known.data_part
            d h)
            (λ j c i ne h hold. same_content R.parts new R.beside refl refl i) (λ j u d ne h stored. (R.knows j u
            h).data_part d stored) s.homes R.lists_are R.log_calls R.data_calls refl R.slots
            (λ i l z. R.home i l (sym (ap (λ (y : List ℕ). slice_index y (7 + i)) e) ∙ z) ∙ ap (λ (y : Slot L D).
            maybe.some (maybe.some y)) (same_content R.parts new R.beside refl refl i))
            R.data_home
            (λ j l z. inr ((λ q. z (ap (λ (y : List ℕ). slice_index y (7 + j)) e ∙ q)), λ q. absurd (cc))),
        kept.steps log_seen log_gives data_seen data_gives about s R id me.0 x one at no_filling fills answer.Held new
            R.beside same done plain_one me.1 me.0.held me.0.data_part me.1 own (λ d h. (known.data_part d h).1),
      )

  -- whoever takes one that is free, and so its slot, in which he makes a change that is to follow
  finds_free : (o : Op) (k : ℕ) (r : Answer) → next a ≡ o → IsNoGive o → k < 5 → hand a ≡ None → hand (took plain r) ≡
      Some k → ((j : ℕ) → hand (took plain r) ≡ Some j → j ≡ k)
      → (s : State (Slot L D) (View L D)) (R : Law s) (new : Parts L D) → get_elem? s.views id ≡ maybe.some me.0 → slice_index s.words (7 + k) ≡ 0
      → new.words.words ≡ slice_set s.words (7 + k) 1 → new.words.layout ≡ R.parts.words.layout → new.lists.pages ≡ R.parts.lists.pages → new.log ≡ R.parts.log → new.store ≡ R.parts.store → AreLists new.lists
      → ((j : ℕ) → j ≢ k → ◌≡◌ {A = Slot L D} (slot_content R.parts R.beside j) (slot_content new R.beside j))
      → IsPlayed log_seen data_seen R.run o (lent plain) R.parts r new
      → Law (record {
        words = new.words.words;
        homes = slice_set s.homes k maybe.none;
        views = slice_set s.views id
            (viewed no_filling r (Some (slot_content new R.beside k)) me.0.data_part);
      })
      × Stepped log_seen data_seen x no_filling r (Some (slot_content new R.beside k)) me.0.data_part ((
        k,
        slot_content
            R.parts R.beside k,
      ) ∷ me.1) me (
        viewed no_filling r (Some (slot_content new R.beside k)) me.0.data_part,
        (
          k,
          slot_content R.parts R.beside k,
        ) ∷ me.1,
      )
  finds_free o k r is other below free_hand gets mine s R new at free words count list_count log_same store_same are
      others plays =
      let fills = fills_none o is other (kept.is_free log_seen log_gives data_seen data_gives about s R id me.0 x one
      at) in
      let known : Knows about R.parts R.beside R.actors R.heard R.seat_of R.keeper R.out id me.0 =
      kept.known log_seen log_gives data_seen data_gives about s R id me.0 x one at in
      let same : HasSamePages R.parts new = record { words = count; lists = list_count } in
      let done : IsPlayed log_seen data_seen R.run (next a) (lent plain) R.parts r new = subst (λ (p : Op). IsPlayed
      log_seen data_seen R.run p (lent plain) R.parts r new) (sym is) plays in
      let own : (j : ℕ) → hand (took plain r) ≡ Some j → Some (slot_content new R.beside k) ≡ Some (slot_content new
      R.beside j) = λ j h. ap (λ (i : ℕ). Some (slot_content new R.beside i)) (sym (mine j h)) in
      -- nobody else holds it, since its word was 0
      let not_held : (n : ℕ) (c : model.Actor) → get_elem? R.actors n ≡ maybe.some c → hand c ≡ Some k → ⊥ = λ n c
      there held.
      let t = (holders.holding log_seen data_seen R.run R.parts R.actors R.runs n c there k held).word_is in let z : slice_index R.parts.words.words (7 + k) ≡ 0 = ap (λ (y : List ℕ). slice_index y (7 + k)) R.words_are ∙ free in omega arith in (
        kept.kept log_seen log_gives data_seen data_gives about s R id me.0 x one at no_filling fills r new R.beside
            same done plain_one
            (viewed no_filling r (Some (slot_content new R.beside k)) me.0.data_part) R.out refl refl refl refl own
            (λ d h. let t = known.data_part d h in (t.0, t.1 ∙ sym store_same, t.2))
            (λ n c j ne there hold. others j (λ z. not_held n c there (hold ∙ ap (λ (i : ℕ). Some i) z))) (λ j u d ne h stored. let t = (R.knows j u h).data_part d stored in (t.0, t.1 ∙ sym store_same, t.2))
            (slice_set s.homes k maybe.none) are (subst (λ (z : log.Part L). CallsOn log_gives about.opened.value.log.dev about.opened.value.log.failed z.dev z.failed) (sym log_same) R.log_calls) (subst (λ (z : store.Part D). CallsOn data_gives about.opened.value.store.dev about.opened.value.store.failed z.dev z.failed) (sym store_same) R.data_calls)
            (ap (λ (z : log.Part L). z.shape) log_same) (length-set s.homes k maybe.none ∙ R.slots)
            (λ j l z. elim (ℕ_discrete j k) [
              | yes here ↦ (let w : slice_index (slice_set s.words (7 + k) 1) (7 + k) ≡ 1 = taken_word s R k below in
                  let q : slice_index (slice_set s.words (7 + k) 1) (7 + k) ≡ 0 = ap (λ (i : ℕ). slice_index (slice_set s.words (7 + k) 1) (7 + i)) (sym here) ∙ sym (ap (λ (y : List ℕ). slice_index y (7 + j)) words) ∙ z in absurd (omega arith))
              | no far ↦ set_else s.homes k j maybe.none far ∙ R.home j l (sym (get_or-set_other s.words (7 + k) (7 + j) 1 0 (λ e. far (omega arith))) ∙ sym (ap (λ (y : List ℕ). slice_index y (7 + j)) words) ∙ z) ∙ ap (λ (y : Slot L D). maybe.some (maybe.some y)) (others j far)
            ])
            (λ z. set_else s.homes k 5 maybe.none (λ e. omega arith) ∙ R.data_home z ∙ ap (λ (d : store.Part D). maybe.some (maybe.some (slot.Data d))) (sym store_same))
            (λ j l z. elim (ℕ_discrete j k) [
              | yes here ↦ inl (gets ∙ ap (λ (i : ℕ). Some i) (sym here))
              | no far ↦ inr ((λ q. z (ap (λ (y : List ℕ). slice_index y (7 + j)) words ∙ get_or-set_other s.words (7 + k) (7 + j) 1 0 (λ e. far (omega arith)) ∙ q)), λ q. absurd (cc))
            ]),
        kept.steps log_seen log_gives data_seen data_gives about s R id me.0 x one at no_filling fills r new R.beside
            same done plain_one me.1 (Some (slot_content new R.beside k)) me.0.data_part ((k, slot_content R.parts R.beside k) ∷
            me.1) own (λ d h. (known.data_part d h).1 ∙ sym store_same),
      )
    where
      taken_word : (s : State (Slot L D) (View L D)) (R : Law s) (k : ℕ) → k < 5 → slice_index (slice_set s.words (7 + k) 1) (7 + k) ≡ 1
      taken_word s R k below = get_or-set_same s.words (7 + k) 1 0 (many s R k below)

  -- what whoever takes a list makes of the parts
  pub record Goes (s : State (Slot L D) (View L D)) (R : Law s) (o : Op) (i : ℕ) (ws : List ℕ) : Type 0 where
    pub new : Parts L D
    pub words : new.words.words ≡ ws
    pub count : new.words.layout ≡ R.parts.words.layout
    pub list_count : new.lists.pages ≡ R.parts.lists.pages
    pub log_same : new.log ≡ R.parts.log
    pub store_same : new.store ≡ R.parts.store
    pub are : AreLists new.lists
    pub others : (j : ℕ) → j ≢ suc i → ◌≡◌ {A = Slot L D} (slot_content R.parts R.beside j) (slot_content new R.beside j)
    pub own : listing_at new.lists.lists i ≡ list_behind o (listing_at R.parts.lists.lists i)
    pub fits : ListFits o (listing_at R.parts.lists.lists i)
    pub plays : IsPlayed log_seen data_seen R.run o (lent plain) R.parts (answer.Taken (list_said o (listing_at
        R.parts.lists.lists i))) new

  -- TakeDevice
  pub allows_take : next a ≡ op.TakeDevice → Allows Law slots id me 7 (λ n. either (eqb n 0) 1 n) (seized log_seen data_seen me)
  allows_take is s R wide at small = elim (ℕ_discrete (slice_index s.words 7) 0) [
    | yes free ↦ (
        let r : Answer = taking (is_some R.parts.log.failed) in
        let ws : List ℕ = slice_set s.words 7 (either (eqb (slice_index s.words 7) 0) 1 (slice_index s.words 7)) in
        let new : Parts L D = record { words = record { layout = R.parts.words.layout; words = ws }; log = R.parts.log; store = R.parts.store; lists = R.parts.lists } in
        let words : ws ≡ slice_set s.words 7 1 = swapped s.words 7 0 1 ∙ ap (λ (b : Bool). cond b (slice_set s.words 7 1) s.words) (eq-eqb (slice_index s.words 7) 0 free) in
        let goes : Handles op.TakeDevice (hand a) (λ (z : Answer). hand (took plain z)) = subst (λ (p : Op). Handles p
        (hand a) (λ (z : Answer). hand (took plain z))) is (handles_filled a no_filling (kept.is_free log_seen
        log_gives data_seen data_gives about s R id me.0 x one at)) in
        let plays = played.took_device log_seen data_seen R.run (lent plain) R.parts new r (record {
          log = refl;
          data_part = refl;
        }) refl op.TakeDevice refl
        (swapped s.words 7 0 1 ∙ ap (λ (y : List ℕ). cond (slice_index y 7 == 0) (slice_set y 7 1) y) (sym R.words_are)) refl
        (λ code mark. sym (ap (λ (b : Bool). cond b (taking (is_some R.parts.log.failed)) answer.Held) (eq-eqb (slice_index R.parts.words.words 7) 0 (ap (λ (y : List ℕ). slice_index y 7) R.words_are ∙ free)))) in
        let k = finds_free op.TakeDevice 0 r is tt (omega arith) goes.0 (took_hand (is_some R.parts.log.failed) (λ (z
        : Answer). hand (took plain z)) goes.1 (goes.2, goes.3)) (λ j h. taken_hand (is_some R.parts.log.failed)
        (λ (z : Answer). hand (took plain z)) goes.1 (goes.2, goes.3) j h) s R new at free words refl refl refl
        refl R.lists_are (λ j ne. same_content R.parts new R.beside refl refl j) plays in (
          viewed no_filling r (Some (slot.Log (desk_of s R))) me.0.data_part,
          takes 0 (slot.Log (desk_of s R)),
          R.home 0 (omega arith) free,
          k.0,
          λ y e. (
            (λ _. (
              desk_of s R,
              of_any (λ (z : Numbered). Stepped log_seen data_seen z no_filling r (Some
                  (slot.Log (desk_of s R))) me.0.data_part ((0, slot.Log (desk_of s R)) ∷ me.1) me (
                    viewed no_filling r
                        (Some (slot.Log (desk_of s R))) me.0.data_part,
                    (0, slot.Log (desk_of s R)) ∷ me.1,
                  )) k.1 y e,
            )),
            λ busy.
                absurd (busy free),
          ),
        ))
    | no busy ↦ (
        let ws : List ℕ = slice_set s.words 7 (either (eqb (slice_index s.words 7) 0) 1 (slice_index s.words 7)) in
        let words : ws ≡ s.words = swapped s.words 7 0 1 ∙ ap (λ (b : Bool). cond b (slice_set s.words 7 1) s.words) (ne_eqb (slice_index s.words 7) 0 busy) in
        let goes : Handles op.TakeDevice (hand a) (λ (z : Answer). hand (took plain z)) = subst (λ (p : Op). Handles p
        (hand a) (λ (z : Answer). hand (took plain z))) is (handles_filled a no_filling (kept.is_free log_seen
        log_gives data_seen data_gives about s R id me.0 x one at)) in
        let k = finds_held op.TakeDevice 0 is tt (omega arith) goes.0 goes.3 held_plays s R at busy ws words in (
          viewed no_filling answer.Held me.0.held me.0.data_part,
          keeps,
          tt,
          k.0,
          λ y e. (
            (λ free. absurd (busy free)),
            λ _. of_any (λ (z : Numbered). Stepped log_seen data_seen z no_filling
                answer.Held me.0.held me.0.data_part me.1 me (
                  viewed no_filling answer.Held me.0.held me.0.data_part,
                  me.1,
                )) k.1 y e,
          ),
        ))
  ]
    where
      taken_hand : (b : Bool) (f : Answer → Option ℕ) → ((n : Option ℕ) → f (answer.Taken n) ≡ Some 0) → (f answer.Broken ≡ Some 0) × (f answer.Held ≡ None) → (j : ℕ) → f (taking b) ≡ Some j → j ≡ 0
      taken_hand true f t b j h = holders.same_number j 0 (sym h ∙ b.0)
      taken_hand false f t b j h = holders.same_number j 0 (sym h ∙ t None)

      took_hand : (b : Bool) (f : Answer → Option ℕ) → ((n : Option ℕ) → f (answer.Taken n) ≡ Some 0) → (f answer.Broken ≡ Some 0) × (f answer.Held ≡ None) → f (taking b) ≡ Some 0
      took_hand true f t b = b.0
      took_hand false f t b = t None

      held_plays : (s : State (Slot L D) (View L D)) (R : Law s) (new : Parts L D) → slice_index s.words 7 ≢ 0 →
          new.words.layout ≡ R.parts.words.layout → new.words.words ≡ R.parts.words.words → new.log ≡ R.parts.log → new.store ≡ R.parts.store → new.lists ≡
          R.parts.lists → IsPlayed log_seen data_seen R.run op.TakeDevice (lent plain) R.parts answer.Held new
      held_plays s R new busy layout words log_same store_same lists_same =
          let w : cond (slice_index R.parts.words.words 7 == 0) (slice_set R.parts.words.words 7 1) R.parts.words.words ≡ R.parts.words.words = ap (λ (b : Bool). cond b (slice_set R.parts.words.words 7 1) R.parts.words.words) (ne_eqb (slice_index R.parts.words.words 7) 0 (λ z. busy (sym (ap (λ (y : List ℕ). slice_index y 7) R.words_are) ∙ z))) in
          played.took_device log_seen data_seen R.run (lent plain) R.parts new answer.Held (record {
            log = log_same;
            data_part = store_same;
          }) layout op.TakeDevice refl (words ∙ sym w) lists_same
          (λ code mark. sym (ap (λ (b : Bool). cond b (taking (is_some R.parts.log.failed)) answer.Held) (ne_eqb (slice_index R.parts.words.words 7) 0 (λ z. busy (sym (ap (λ (y : List ℕ). slice_index y 7) R.words_are) ∙ z)))))

  -- a turn word and its slot are given back
  gives_back : (o : Op) (k : ℕ) (own_slot : Slot L D) (f : Filling) → Fills a f → KeepsTexts a f → next a ≡ o → IsNoRead o → k < 5 →
      hand a ≡ Some k → ((g : Filling) → hand (took (filled a g) (answer.Taken None)) ≡ None) → me.0.held ≡ Some
      own_slot → me.1 ≡ (k, own_slot) ∷ []
      → ((s : State (Slot L D) (View L D)) (R : Law s) (new : Parts L D) → new.words.layout ≡ R.parts.words.layout
      → new.words.words ≡ slice_set R.parts.words.words (7 + k) 0 → new.log ≡ R.parts.log → new.store ≡ R.parts.store → new.lists ≡
      R.parts.lists → (l : model.Lent) → IsPlayed log_seen data_seen R.run o l R.parts (answer.Taken None) new)
      → Allows Law slots id me (7 + k) (λ _. 0) (gave log_seen data_seen me)
  gives_back o k own_slot f fills keeps_f is other below held_k none held carried plays s R wide at small =
      let r : Answer = answer.Taken None in
      let ws : List ℕ = slice_set s.words (7 + k) 0 in
      let new : Parts L D = record { words = record { layout = R.parts.words.layout; words = ws }; log = R.parts.log; store = R.parts.store; lists = R.parts.lists } in
      let known : Knows about R.parts R.beside R.actors R.heard R.seat_of R.keeper R.out id me.0 =
      kept.known log_seen log_gives data_seen data_gives about s R id me.0 x one at in
      let same : HasSamePages R.parts new = record { words = refl; lists = refl } in
      let done : (g : Filling) → IsPlayed log_seen data_seen R.run (next a) (lent (filled a g)) R.parts r new = λ g.
      subst (λ (p : Op). IsPlayed log_seen data_seen R.run p (lent (filled a g)) R.parts r new) (sym is) (plays s
      R new refl (ap (λ (y : List ℕ). slice_set y (7 + k) 0) (sym R.words_are)) refl refl refl (lent (filled a g))) in
      let own : (g : Filling) (j : ℕ) → hand (took (filled a g) r) ≡ Some j → None ≡ Some (slot_content new R.beside j)
      = λ g j h. let n = none g in absurd (cc) in
      let free = kept.is_free log_seen log_gives data_seen data_gives about s R id me.0 x one at in
      let one_way : (g : Filling) → Fills a g → KeepsTexts a g → ◌≡◌ {A = model.Actor} (filled a g) (filled a f) =
      λ g p q. one_filling a g f free (subst IsNoRead (sym is) other) p q fills keeps_f in
      let mine : ◌≡◌ {A = Slot L D} own_slot (slot_content R.parts R.beside k) = kept.same_slot own_slot (slot_content
      R.parts R.beside k) (sym held ∙ kept.holds_content log_seen log_gives data_seen data_gives about s R id me.0
      x one at k held_k) in
      let back : put_back s.homes me.1 ≡ slice_set s.homes k (maybe.some own_slot) = ap (put_back s.homes) carried in (
        viewed f r None me.0.data_part,
        gives,
        tt,
        kept.kept log_seen log_gives data_seen data_gives about s R id me.0 x one at f fills r new R.beside same (done f) plain_one
            (viewed f r None me.0.data_part) R.out refl refl refl refl (own f) (λ d h. known.data_part d h)
            (λ n c j ne h hold. same_content R.parts new R.beside refl refl j) (λ j u d ne h stored. (R.knows j u
            h).data_part d stored) (put_back s.homes me.1) R.lists_are R.log_calls R.data_calls refl
            (ap length back ∙ length-set s.homes k (maybe.some own_slot) ∙ R.slots)
            (λ j l z. ap (λ (y : List (maybe.Option (Slot L D))). get_elem? y j) back ∙ elim (ℕ_discrete j k) [
              | yes here ↦ (ap (get_elem? (slice_set s.homes k (maybe.some own_slot))) here ∙ set_here s.homes k
                  (maybe.some own_slot) (let n = R.slots in omega arith) ∙ ap (λ (y : Slot L D). maybe.some
                  (maybe.some y)) (mine ∙ ap (slot_content R.parts R.beside) (sym here) ∙ same_content R.parts new
                  R.beside refl refl j))
              | no far ↦ set_else s.homes k j (maybe.some own_slot) far ∙ R.home j l (sym (get_or-set_other s.words (7
                  + k) (7 + j) 0 0 (λ e. far (omega arith))) ∙ z) ∙ ap (λ (y : Slot L D). maybe.some (maybe.some y))
                  (same_content R.parts new R.beside refl refl j)
            ])
            (λ z. ap (λ (y : List (maybe.Option (Slot L D))). get_elem? y 5) back ∙ set_else s.homes k 5 (maybe.some own_slot) (λ e. omega arith) ∙ R.data_home z)
            (λ j l z. elim (ℕ_discrete j k) [
              | yes here ↦ absurd (z (ap (λ (i : ℕ). slice_index (slice_set s.words (7 + k) 0) (7 + i)) here ∙ get_or-set_same s.words (7 + k) 0 0 (many s R k below)))
              | no far ↦ inr ((λ q. z (get_or-set_other s.words (7 + k) (7 + j) 0 0 (λ e. far (omega arith)) ∙ q)), λ q. absurd (far (holders.same_number j k (sym q ∙ held_k))))
            ]),
        λ y g e fills_y keeps_y. of_any (λ (z : Numbered). Fills z.actor g → KeepsTexts z.actor g
            → Stepped log_seen data_seen z g r None me.0.data_part (rest me.1) me (
              viewed f r None me.0.data_part,
              rest me.1,
            ))
            (λ p q. subst (Stepped log_seen data_seen x g r None me.0.data_part (rest me.1) me)
            (ap (λ (z : model.Actor). left z) (one_way g p q))
            (kept.steps log_seen log_gives data_seen data_gives about s R id me.0 x one at g p r new R.beside same
            (done g) plain_one me.1 None me.0.data_part (rest me.1) (own g) (λ d h. (known.data_part d h).1)))
            y e fills_y keeps_y,
      )
    where
      left : model.Actor → Me (Slot L D) (View L D)
      left z = (
        record {
          about = me.0.about;
          layout = me.0.layout;
          seats = (record {
            number = x.number;
            actor = took z (answer.Taken None);
            heard = with_more x.heard (handed_by z) (appended_by x.actor);
            errand = x.errand;
          }) ∷ [];
          held = None;
          data_part = me.0.data_part;
        },
        rest me.1,
      )

  pub allows_give : (own_slot : Slot L D) (f : Filling) → Fills a f → KeepsTexts a f → next a ≡ op.GiveDevice → IsFreeToCheck a →
      me.0.held ≡ Some own_slot → me.1 ≡ (0, own_slot) ∷ [] → Allows Law slots id me 7 (λ _. 0) (gave log_seen
      data_seen me)
  allows_give own_slot f fills keeps_f is free held carried =
      let goes : (g : Filling) → Handles op.GiveDevice (hand a) (λ (z : Answer). hand (took (filled a g) z)) = λ g.
      subst (λ (p : Op). Handles p (hand a) (λ (z : Answer). hand (took (filled a g) z))) is (handles_filled a g
      free) in
      gives_back op.GiveDevice 0 own_slot f fills keeps_f is tt (omega arith) (goes f).0 (λ g. (goes g).1) held carried
      (λ s R new layout words log_same store_same lists_same l. record {
        code = 0;
        log_served = log_same;
        own_served = tt;
        layout = layout;
        data_served =
            played.untouched (run_data_side log_seen data_seen R.run) R.parts.store new.store l op.GiveDevice 0 tt
            store_same;
        words = words;
        lists = ap lists_of lists_same;
        answered = refl;
      })

  pub allows_give_list : (i : ℕ) (own_slot : Slot L D) → next a ≡ op.GiveList i → i < 4 → IsFreeToCheck a → me.0.held ≡ Some own_slot → me.1 ≡ (suc i, own_slot) ∷ [] → Allows Law slots id me (8 + i) (λ _. 0) (gave log_seen data_seen me)
  allows_give_list i own_slot is below free held carried =
      let goes : (g : Filling) → Handles (op.GiveList i) (hand a) (λ (z : Answer). hand (took (filled a g) z)) = λ g.
      subst (λ (p : Op). Handles p (hand a) (λ (z : Answer). hand (took (filled a g) z))) is (handles_filled a g
      free) in
      let word : 7 + suc i ≡ 8 + i = omega arith in
      subst (λ (n : ℕ). Allows Law slots id me n (λ _. 0) (gave log_seen data_seen me)) word
      (gives_back (op.GiveList i) (suc i) own_slot no_filling (fills_none (op.GiveList i) is tt free) (keeps_listed a
      no_filling i is) is tt (omega
      arith) (goes no_filling).0 (λ g. (goes g).1) held carried
      (λ s R new layout words log_same store_same lists_same l. record {
        code = 0;
        log_served = log_same;
        own_served = tt;
        layout = layout;
        data_served = played.untouched (run_data_side log_seen data_seen R.run) R.parts.store new.store l (op.GiveList
            i) 0 tt store_same;
        words = words ∙ ap (λ (n : ℕ). slice_set R.parts.words.words n 0) word;
        lists = ap lists_of lists_same;
        answered = refl;
      }))

  -- TakeAdd, TakeRemove, TakeOldest: whoever finds the list free makes its call after the step
  pub takes_list : (o : Op) (i : ℕ) → next a ≡ o → IsNoGive o → TakesList o (suc i) → i < 4 → (hand a ≡ None) × ((n :
      Option ℕ) → hand (took plain (answer.Taken n)) ≡ Some (suc i)) × (hand (took plain answer.Held) ≡ None)
      → ((s : State (Slot L D) (View L D)) (R : Law s) (new : Parts L D) → slice_index s.words (7 + suc i) ≢ 0 →
      new.words.layout ≡ R.parts.words.layout → new.words.words ≡ R.parts.words.words → new.log ≡ R.parts.log → new.store ≡ R.parts.store → new.lists ≡
      R.parts.lists → IsPlayed log_seen data_seen R.run o (lent plain) R.parts answer.Held new)
      → ((s : State (Slot L D) (View L D)) (R : Law s) (ws : List ℕ) → ws ≡ cond (slice_index R.parts.words.words (8 +
      i) == 0) (slice_set R.parts.words.words (8 + i) 1) R.parts.words.words → slice_index R.parts.words.words (8
      + i) ≡ 0 → get_elem? R.actors x.number ≡ maybe.some a
      → Goes s R o i ws)
      → Allows Law slots id me (8 + i) (λ n. either (eqb n 0) 1 n) (λ n m'. (n ≡ 0 → (l : Listing) × ListFits o l ×
      Stepped log_seen data_seen x no_filling (answer.Taken (list_said o l)) (Some (slot.Pages (list_behind o l)))
      me.0.data_part ((suc i, slot.Pages l) ∷ me.1) me m') × (n ≢ 0 → Stepped log_seen data_seen x no_filling
      answer.Held me.0.held me.0.data_part me.1 me m'))
  takes_list o i is other takes_it below goes held_plays free_plays s R wide at small = elim (ℕ_discrete (slice_index
      s.words (8 + i)) 0) [
        | yes free ↦ (
            let word : 7 + suc i ≡ 8 + i = omega arith in
            let ws : List ℕ = slice_set s.words (8 + i) (either (eqb (slice_index s.words (8 + i)) 0) 1 (slice_index s.words (8 + i))) in
            let l : Listing = listing_at R.parts.lists.lists i in
            let r : Answer = answer.Taken (list_said o l) in
            let words : ws ≡ slice_set s.words (8 + i) 1 = swapped s.words (8 + i) 0 1 ∙ ap (λ (b : Bool). cond b (slice_set s.words (8 + i) 1) s.words) (eq-eqb (slice_index s.words (8 + i)) 0 free) in
            let there = kept.here log_seen log_gives data_seen data_gives about s R id me.0 x one at in
            let g = free_plays s R ws (swapped s.words (8 + i) 0 1 ∙ ap (λ (y : List ℕ). cond (slice_index y (8 + i) == 0) (slice_set y (8 + i) 1) y) (sym R.words_are)) (ap (λ (y : List ℕ). slice_index y (8 + i)) R.words_are ∙ free) there in
            let new : Parts L D = g.new in
            let k = finds_free o (suc i) r is other (omega arith) goes.0 (goes.1 (list_said o l)) (λ j h.
            holders.same_number j (suc i) (sym h ∙ goes.1 (list_said o l))) s R new at (ap (slice_index s.words) word
            ∙ free) (g.words ∙ words ∙ ap (λ (n : ℕ). slice_set s.words n 1) (sym word)) g.count g.list_count
            g.log_same g.store_same g.are g.others g.plays in
            let held : ◌≡◌ {A = Slot L D} (slot_content new R.beside (suc i)) (slot.Pages (list_behind o l)) = ap
            slot.Pages g.own in (
              viewed no_filling r (Some (slot.Pages (list_behind o l))) me.0.data_part,
              takes (suc i) (slot.Pages l),
              R.home (suc i) (omega arith) (ap (slice_index s.words) word ∙ free),
              subst (λ (z : List ℕ). Law (record {
                words = z;
                homes = slice_set s.homes (suc i) maybe.none;
                views =
                    slice_set s.views id (viewed no_filling r (Some (slot.Pages (list_behind o l))) me.0.data_part);
              }))
                  g.words
                  (subst (λ (z : Slot L D). Law (record {
                    words = new.words.words;
                    homes = slice_set s.homes (suc i)
                        maybe.none;
                    views = slice_set s.views id (viewed no_filling r (Some z) me.0.data_part);
                  })) held k.0),
              (
                (λ _. (
                  l,
                  g.fits,
                  subst (λ (z : Slot L D). Stepped log_seen data_seen x no_filling r (Some z)
                      me.0.data_part ((suc i, slot.Pages l) ∷ me.1) me (
                        viewed no_filling r (Some z) me.0.data_part,
                        (
                          suc i,
                          slot.Pages l,
                        ) ∷ me.1,
                      )) held k.1,
                )),
                λ busy. absurd (busy free),
              ),
            ))
        | no busy ↦ (
            let word : 7 + suc i ≡ 8 + i = omega arith in
            let ws : List ℕ = slice_set s.words (8 + i) (either (eqb (slice_index s.words (8 + i)) 0) 1 (slice_index s.words (8 + i))) in
            let words : ws ≡ s.words = swapped s.words (8 + i) 0 1 ∙ ap (λ (b : Bool). cond b (slice_set s.words (8 + i) 1) s.words) (ne_eqb (slice_index s.words (8 + i)) 0 busy) in
            let k = finds_held o (suc i) is other (omega arith) goes.0 goes.2 held_plays s R at (λ z. busy (sym (ap
            (slice_index s.words) word) ∙ z)) ws words in (
              viewed no_filling answer.Held me.0.held me.0.data_part,
              keeps,
              tt,
              k.0,
              ((λ free. absurd (busy free)), λ _. k.1),
            ))
      ]
