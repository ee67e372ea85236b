-- A user that writes for itself takes a flush list as any user, and that keeps the rule.
use Rattle.std.proofs.Common.{Bool, List, None, Option, Some, [], ap, arith, cond, eq-eqb, eqb, false, get_or-set_other, get_or-set_same, inl, inr, length-set, ne_eqb, refl, subst, suc, sym, true, zero, ℕ, ◌%◌, ◌+◌, ◌==◌, ◌∙◌, ◌∷◌, ◌≡◌, ◌≢◌}
use Rattle.std.specs.Prelude.{slice_index, slice_set, ◌++◌}
use lib.ListN.{get_elem?}
use mathlib.Core.Option as maybe
use native.Mathlib.Decide.{ℕ_discrete}
use prog.Atomic.{either}
use Rattle.atomic_table.specs.Table.{Allows, keeps, Me, State, takes}
use Rattle.model_core.proofs.Lists.{set_else}
use Rattle.model_core.specs.States as model
use Rattle.model_core.specs.{hand, list_word, took, user_op}
use Rattle.model_core.specs.declared.ops.Answer.{Answer}
use Rattle.model_core.specs.declared.ops.Answer.TheVariants as answer
use Rattle.model_core.specs.declared.ops.Op.{Op}
use Rattle.model_core.specs.declared.ops.Op.TheVariants as op
use Rattle.model_own.specs.{LogWork, own_goes_on, own_lends, own_next, OwnUser, helps_at, has_work}
use Rattle.redo_disk.specs.{Call, Seen}
use Rattle.redo_drive.proofs.Played as played
use Rattle.redo_drive.specs.{listing_at, lists_of, added, no_list, HasSamePages, IsPlayed, run_data_side, run_log_side}
use Rattle.redo_drive.specs.declared.parts.Parts.{Parts}
use Rattle.redo_ownrule.proofs.OwnOps as ops
use Rattle.redo_ownrule.proofs.OwnTurns as turns
use Rattle.redo_ownrule.proofs.OwnUserHands as hands
use Rattle.redo_ownrule.specs.OwnPlays.{HasWork, IsOwn, own_view, WorkInHand, OwnStepped, own_seized_list}
use Rattle.redo_rule.proofs.Holders as holders
use Rattle.redo_rule.proofs.Words.{swapped}
use Rattle.redo_rule.specs.OwnSide.{Beside, work_of}
use Rattle.redo_rule.specs.Ruled.{Ruled, slot_content}
use Rattle.redo_rule.specs.declared.law.About.{About}
use Rattle.redo_rule.specs.declared.law.Numbered.{Numbered}
use Rattle.redo_rule.specs.declared.law.Slot.{Slot}
use Rattle.redo_rule.specs.declared.law.Slot.TheVariants as slot
use Rattle.redo_rule.specs.declared.law.View.{View}
use Rattle.model_core.proofs.Hands.{Handles}
use Rattle.model_running.proofs.ListsReady.{list_ready}
use Rattle.model_running.specs.Ready.{ListReady}
use Rattle.redo_drive.proofs.Listings.{add_left}
use Rattle.redo_flushlist.specs.{Listing}
use Rattle.redo_flushlist.specs.declared.dirty.Dirty.{Dirty}
use Rattle.redo_ownrule.proofs.OwnAllowed as allowed
use Rattle.redo_ownrule.proofs.OwnAllowed.{by_slot}
use Rattle.redo_ownrule.proofs.OwnTurns.{many}
use Rattle.redo_rule.proofs.AllowedLists.{with_are, with_others}
use Rattle.redo_rule.proofs.Filled.{handles_filled}
use Rattle.redo_rule.specs.Plays.{list_behind, ListFits, no_filling, TakesList}

-- what lies beside the log part alone
beside_same : {L D : Type 0} (parts : Parts L D) (b c : Beside) → c.block ≡ b.block
    → ◌≡◌ {A = Option LogWork} (work_of c.own) (work_of b.own) → (k : ℕ)
    → ◌≡◌ {A = Slot L D} (slot_content parts b k) (slot_content parts c k)
beside_same parts b c block work zero =
    ap (λ (z : List ℕ). slot.Log (record { part = parts.log; block = z; work = work_of b.own })) (sym block)
    ∙ ap (λ (w : Option LogWork). slot.Log (record { part = parts.log; block = c.block; work = w })) (sym work)
beside_same parts b c block work (suc i) = refl

module _ {L D : Type 0} (log_seen : L → Seen) (log_gives : L → Call → L → Type 0) (data_seen : D → Seen)
    (data_gives : D → Call → D → Type 0) (about : About L D) (slots id : ℕ) (me : Me (Slot L D) (View L D))
    (x : Numbered) (one : me.0.seats ≡ x ∷ []) (o : OwnUser) (its : IsOwn x o) where
  abbrev Law : State (Slot L D) (View L D) → Type 0
  Law = Ruled log_seen log_gives data_seen data_gives about

  module _ (p y : ℕ) (asks : (k : LogWork) → HasWork me.0.held o k → own_next o k ≡ op.TakeAdd p y)
      (s : State (Slot L D) (View L D)) (R : Law s) (at : get_elem? s.views id ≡ maybe.some me.0) where
    abbrev i : ℕ
    i = p % 4

    abbrev W : LogWork
    W = allowed.Work log_seen log_gives data_seen data_gives about slots id me x one o its s R at

    abbrev ws : List ℕ
    ws = slice_set s.words (8 + i) (either (eqb (slice_index s.words (8 + i)) 0) 1 (slice_index s.words (8 + i)))

    its_op : own_next o W ≡ op.TakeAdd p y
    its_op = asks W (turns.has_it log_seen log_gives data_seen data_gives about s R id me.0 x one at o its)

    pub hold : WorkInHand o.errand W
    hold = allowed.serves_hand log_seen log_gives data_seen data_gives about slots id me x one o its s R at

    pub home : ops.AtHome o W hold (op.TakeAdd p y)
    home = ops.list_home o W hold (op.TakeAdd p y) tt its_op

    helps : helps_at o.user.step ≡ false
    helps = hands.add_helps o.user o.user.step p y home.its_op

    handles : Handles (op.TakeAdd p y) (hand (model.User o.user)) (λ (z : Answer). hand (took (model.User o.user) z))
    handles = subst (λ (q : Op). Handles q (hand (model.User o.user)) (λ (z : Answer). hand (took (model.User o.user) z)))
        home.user_next (handles_filled (model.User o.user) no_filling
        (allowed.user_free log_seen log_gives data_seen data_gives about slots id me x one o its s R at))

    goes : (r : Answer) → has_work (own_goes_on o W r).0.errand ≡ false
    goes r = ap (λ (z : OwnUser × LogWork). has_work z.0.errand) (hands.list_goes o W r home.asks home.errand helps)
        ∙ ap has_work home.errand

    leaves : (r : Answer) → (own_goes_on o W r).1 ≡ W
    leaves r = ap (λ (z : OwnUser × LogWork). z.1) (hands.list_goes o W r home.asks home.errand helps)

    has_then : (r : Answer) → hand (model.User (own_goes_on o W r).0.user) ≡ hand (took (model.User o.user) r)
    has_then r = ap hand (hands.list_user o W r home.asks home.errand helps)

    words_by : ws ≡ cond (slice_index R.parts.words.words (8 + i) == 0) (slice_set R.parts.words.words (8 + i) 1)
        R.parts.words.words
    words_by = swapped s.words (8 + i) 0 1
        ∙ ap (λ (z : List ℕ). cond (slice_index z (8 + i) == 0) (slice_set z (8 + i) 1) z) (sym R.words_are)

    beside_is : (r : Answer) → ◌≡◌ {A = Option LogWork} (Some (own_goes_on o W r).1) (work_of R.beside.own)
    beside_is r = ap (λ (k : LogWork). Some k) (leaves r)
        ∙ sym (turns.beside_work log_seen log_gives data_seen data_gives about s R id me.0 x one at o its)

    -- free
    module _ (free : slice_index s.words (8 + i) ≡ 0) where
      abbrev r : Answer
      r = answer.Taken None

      abbrev entries : List Dirty
      entries = (listing_at R.parts.lists.lists i).entries ++ (record { page = p; oldest = y }) ∷ []

      abbrev new : Parts L D
      new = record {
        words = record { layout = R.parts.words.layout; words = ws };
        log = R.parts.log;
        store = R.parts.store;
        lists = added R.parts.lists p y;
      }

      abbrev same : HasSamePages R.parts new
      same = record { words = refl; lists = refl }

      is_free : slice_index R.parts.words.words (8 + i) ≡ 0
      is_free = ap (λ (z : List ℕ). slice_index z (8 + i)) R.words_are ∙ free

      plays : IsPlayed log_seen data_seen R.run (op.TakeAdd p y) (own_lends o W) R.parts r new
      plays =
          let f = eq-eqb (slice_index R.parts.words.words (8 + i)) 0 is_free in
          played.took_add log_seen data_seen R.run (own_lends o W) R.parts new r (record { log = refl; data_part = refl })
          refl (op.TakeAdd p y) p y refl words_by
          (add_left R.parts.lists new.lists (list_word R.parts.words.words) p y R.lists_are
          (sym (ap (λ (b : Bool). cond b (added R.parts.lists p y) R.parts.lists) f)))
          (sym (ap (λ (b : Bool). cond b (answer.Taken None) answer.Held) f))

      pub done : IsPlayed log_seen data_seen R.run (own_next o W) (own_lends o W) R.parts r new
      done = subst (λ (q : Op). IsPlayed log_seen data_seen R.run q (own_lends o W) R.parts r new) (sym its_op) plays

      abbrev then : OwnUser
      then = (own_goes_on o W r).0

      abbrev l : Listing
      l = listing_at R.parts.lists.lists i

      abbrev held : Option (Slot L D)
      held = Some (slot.Pages (list_behind (op.TakeAdd p y) l))

      abbrev beside : Beside
      beside = turns.beside log_seen log_gives data_seen data_gives about s R id me.0 x one at o its r new same done
          R.beside.block

      own_list : ◌≡◌ {A = Slot L D} (slot_content new beside (suc i)) (slot.Pages (list_behind (op.TakeAdd p y) l))
      own_list = ap (λ (z : Listing). slot.Pages z)
          (get_or-set_same R.parts.lists.lists i (record { pages = l.pages; entries = entries }) no_list
          (let n = R.lists_are.count in omega arith))

      others : (k : ℕ) → k ≢ suc i → ◌≡◌ {A = Slot L D} (slot_content R.parts R.beside k) (slot_content new beside k)
      others k ne = with_others R.parts new R.beside i entries refl refl k ne
          ∙ beside_same new R.beside beside refl (beside_is r) k

      words : ws ≡ slice_set s.words (8 + i) 1
      words = swapped s.words (8 + i) 0 1
          ∙ ap (λ (b : Bool). cond b (slice_set s.words (8 + i) 1) s.words) (eq-eqb (slice_index s.words (8 + i)) 0 free)

      far : (k : ℕ) → k ≢ suc i → slice_index ws (7 + k) ≡ slice_index s.words (7 + k)
      far k ne = ap (λ (z : List ℕ). slice_index z (7 + k)) words
          ∙ get_or-set_other s.words (8 + i) (7 + k) 1 0 (λ e. ne (omega arith))

      taken_word : slice_index ws (8 + i) ≡ 1
      taken_word = ap (λ (z : List ℕ). slice_index z (8 + i)) words
          ∙ get_or-set_same s.words (8 + i) 1 0
          (let m = many log_seen log_gives data_seen data_gives about s R (suc i) (omega arith) in omega arith)

      pub fits : ListFits (op.TakeAdd p y) l
      fits =
          let U = R.runs.running in
          let ready : ListReady R.run.setup.pages (lists_of R.parts.lists) (op.TakeAdd p y) =
          subst (λ (q : Op). ListReady R.run.setup.pages (lists_of R.parts.lists) q) home.user_next
          (list_ready (run_log_side log_seen data_seen R.run) (run_data_side log_seen data_seen R.run) R.run.setup U.shared
          U.log_ghost U.page_ghost (lists_of R.parts.lists) R.parts.log R.parts.store R.actors x.number U.both
          (model.User o.user) (turns.here log_seen log_gives data_seen data_gives about s R id me.0 x one at o its)) in (
            (let a1 = ready.0 in let a2 = R.lists_are.its_pages i (omega arith) in let a3 = R.runs.list_pages in
                omega arith),
            ready.1,
            ready.2,
            R.runs.running.both.paged.paged.lists.real i,
          )

      abbrev Free : Type 0
      Free = Law (record {
        words = ws;
        homes = slice_set s.homes (suc i) maybe.none;
        views = slice_set s.views id (own_view me.0 x then held);
      }) × OwnStepped log_seen data_seen x o W r held ((suc i, slot.Pages l) ∷ me.1) me.0
          (own_view me.0 x then held, (suc i, slot.Pages l) ∷ me.1)

      pub finds_free : Free
      finds_free = (
        turns.own_kept log_seen log_gives data_seen data_gives about s R id me.0 x one at o its r new same done
            R.beside.block (inl refl) held
            (λ k h. let same_k = holders.same_number (suc i) k (sym (has_then r ∙ handles.1 None) ∙ h) in
            ap (λ (z : Slot L D). Some z) (sym own_list)
            ∙ ap (λ (n : ℕ). Some (slot_content new beside n)) same_k)
            (λ has. let z : true ≡ false = sym has ∙ goes r in absurd (cc))
            (λ k. elim (ℕ_discrete k (suc i)) [
              | yes here ↦ inr (subst (λ (n : ℕ). turns.Alone log_seen log_gives data_seen data_gives about s R id me.0 x one
                  at o its n) (sym here)
                  (turns.free_alone log_seen log_gives data_seen data_gives about s R id me.0 x one at o its (suc i)
                  (ap (slice_index s.words) (let w : 7 + suc i ≡ 8 + i = omega arith in w) ∙ free)))
              | no ne ↦ inl (others k ne)
            ])
            (inl (others 0 (λ e. omega arith))) refl (slice_set s.homes (suc i) maybe.none)
            (with_are R.parts.lists i entries R.lists_are (omega arith)) R.log_calls refl
            (length-set s.homes (suc i) maybe.none ∙ R.slots)
            (λ k m z. elim (ℕ_discrete k (suc i)) [
              | yes here ↦ (let t = taken_word in
                  let w : 7 + k ≡ 8 + i = omega arith in
                  let q : slice_index ws (8 + i) ≡ 0 = ap (slice_index ws) (sym w) ∙ z in absurd (omega arith))
              | no ne ↦ set_else s.homes (suc i) k maybe.none ne ∙ R.home k m (sym (far k ne) ∙ z)
                  ∙ ap (λ (v : Slot L D). maybe.some (maybe.some v)) (others k ne)
            ])
            (λ z. set_else s.homes (suc i) 5 maybe.none (λ e. omega arith) ∙ R.data_home z)
            (λ k m busy. by_slot (λ (j : ℕ). slice_index ws (7 + j) ≢ 0
            → turns.Turned log_seen log_gives data_seen data_gives about s R id me.0 x one at o its r new same done
            R.beside.block j)
            (λ busy. far 0 (λ e. omega arith) ∙ allowed.busy_device log_seen log_gives data_seen data_gives about slots id
            me x one o its s R at (λ z. busy (far 0 (λ e. omega arith) ∙ z)))
            (λ j busy. elim (ℕ_discrete j i) [
              | yes here ↦ inl (has_then r ∙ handles.1 None ∙ ap (λ (n : ℕ). Some (suc n)) (sym here))
              | no ne ↦ inr (
                (λ z. busy (far (suc j) (λ e. ne (omega arith)) ∙ z)),
                λ h. let z : None ≡ Some (suc j) = sym handles.0 ∙ h in absurd (cc),
              )
            ]) k busy),
        turns.steps log_seen log_gives data_seen data_gives about s R id me.0 x one at o its r new same done
            R.beside.block held ((suc i, slot.Pages l) ∷ me.1)
            (λ d is has. let z : true ≡ false = sym has ∙ goes r in absurd (cc)),
      )

    -- held
    module _ (busy : slice_index s.words (8 + i) ≢ 0) where
      abbrev new_held : Parts L D
      new_held = record {
        words = record { layout = R.parts.words.layout; words = ws };
        log = R.parts.log;
        store = R.parts.store;
        lists = R.parts.lists;
      }

      abbrev same_held : HasSamePages R.parts new_held
      same_held = record { words = refl; lists = refl }

      is_busy : slice_index R.parts.words.words (8 + i) ≢ 0
      is_busy z = busy (sym (ap (λ (v : List ℕ). slice_index v (8 + i)) R.words_are) ∙ z)

      plays_held : IsPlayed log_seen data_seen R.run (op.TakeAdd p y) (own_lends o W) R.parts answer.Held new_held
      plays_held =
          let f = ne_eqb (slice_index R.parts.words.words (8 + i)) 0 is_busy in
          played.took_add log_seen data_seen R.run (own_lends o W) R.parts new_held answer.Held
          (record { log = refl; data_part = refl }) refl (op.TakeAdd p y) p y refl words_by
          (add_left R.parts.lists new_held.lists (list_word R.parts.words.words) p y R.lists_are
          (sym (ap (λ (b : Bool). cond b (added R.parts.lists p y) R.parts.lists) f)))
          (sym (ap (λ (b : Bool). cond b (answer.Taken None) answer.Held) f))

      pub done_held : IsPlayed log_seen data_seen R.run (own_next o W) (own_lends o W) R.parts answer.Held new_held
      done_held = subst (λ (q : Op). IsPlayed log_seen data_seen R.run q (own_lends o W) R.parts answer.Held new_held)
          (sym its_op) plays_held

      abbrev then_held : OwnUser
      then_held = (own_goes_on o W answer.Held).0

      abbrev beside_held : Beside
      beside_held = turns.beside log_seen log_gives data_seen data_gives about s R id me.0 x one at o its answer.Held
          new_held same_held done_held R.beside.block

      same_words : ws ≡ s.words
      same_words = swapped s.words (8 + i) 0 1
          ∙ ap (λ (b : Bool). cond b (slice_set s.words (8 + i) 1) s.words) (ne_eqb (slice_index s.words (8 + i)) 0 busy)

      word_still : (k : ℕ) → slice_index ws (7 + k) ≡ slice_index s.words (7 + k)
      word_still k = ap (λ (v : List ℕ). slice_index v (7 + k)) same_words

      content_held : (k : ℕ) → ◌≡◌ {A = Slot L D} (slot_content R.parts R.beside k) (slot_content new_held beside_held k)
      content_held = allowed.same_content log_seen log_gives data_seen data_gives about slots id me x one o its s R at
          new_held beside_held refl refl refl (beside_is answer.Held)

      none_left : hand (model.User then_held.user) ≡ None
      none_left = has_then answer.Held ∙ handles.2

      abbrev Busy : Type 0
      Busy = Law (record {
        words = ws;
        homes = s.homes;
        views = slice_set s.views id (own_view me.0 x then_held me.0.held);
      }) × OwnStepped log_seen data_seen x o W answer.Held me.0.held me.1 me.0 (own_view me.0 x then_held me.0.held, me.1)

      pub finds_held : Busy
      finds_held = (
        turns.own_kept log_seen log_gives data_seen data_gives about s R id me.0 x one at o its answer.Held new_held
            same_held done_held R.beside.block (inl refl) me.0.held
            (λ k h. let z : None ≡ Some k = sym none_left ∙ h in absurd (cc))
            (λ has. let z : true ≡ false = sym has ∙ goes answer.Held in absurd (cc))
            (λ k. inl (content_held k)) (inl (content_held 0)) refl s.homes R.lists_are R.log_calls refl R.slots
            (λ k m z. R.home k m (sym (word_still k) ∙ z)
            ∙ ap (λ (v : Slot L D). maybe.some (maybe.some v)) (content_held k))
            R.data_home
            (λ k m b. by_slot (λ (j : ℕ). slice_index ws (7 + j) ≢ 0
            → turns.Turned log_seen log_gives data_seen data_gives about s R id me.0 x one at o its answer.Held new_held
            same_held done_held R.beside.block j)
            (λ b. word_still 0 ∙ allowed.busy_device log_seen log_gives data_seen data_gives about slots id me x one o its
            s R at (λ z. b (word_still 0 ∙ z)))
            (λ j b. inr (
              (λ z. b (word_still (suc j) ∙ z)),
              λ h. let z : None ≡ Some (suc j) = sym handles.0 ∙ h in absurd (cc),
            )) k b),
        turns.steps log_seen log_gives data_seen data_gives about s R id me.0 x one at o its answer.Held new_held
            same_held done_held R.beside.block me.0.held me.1
            (λ d is has. let z : true ≡ false = sym has ∙ goes answer.Held in absurd (cc)),
      )

  -- what the step tells, by the Op that the user asks for
  abbrev Told : Op → (Numbered → OwnUser → ℕ → ℕ → Me (Slot L D) (View L D) → Type 0)
  Told a z u k n m' = (n ≡ 0 → (l : Listing) × (j : LogWork) × ListFits a l
      × OwnStepped log_seen data_seen z u j (answer.Taken None) (Some (slot.Pages (list_behind a l)))
      ((k, slot.Pages l) ∷ me.1) me.0 m')
      × (n ≢ 0 → (j : LogWork) × OwnStepped log_seen data_seen z u j answer.Held me.0.held me.1 me.0 m')

  tells : (p y n : ℕ) (m' : Me (Slot L D) (View L D)) → user_op o.user o.user.step ≡ op.TakeAdd p y
      → Told (op.TakeAdd p y) x o (suc (p % 4)) n m' → own_seized_list log_seen data_seen me n m'
  tells p y n m' is told z u k seats own list =
      allowed.of_own log_seen log_gives data_seen data_gives about slots id me x one o its
      (λ (z : Numbered) (u : OwnUser). TakesList (user_op u.user u.user.step) k
      → Told (user_op u.user u.user.step) z u k n m')
      (λ list. subst (λ (a : Op). TakesList a k → Told a x o k n m') (sym is)
      (λ list. subst (λ (j : ℕ). Told (op.TakeAdd p y) x o j n m') (sym list) told) list)
      z u seats own list

  -- TakeAdd
  pub own_take_add : (p y : ℕ) → ((k : LogWork) → HasWork me.0.held o k → own_next o k ≡ op.TakeAdd p y)
      → Allows Law slots id me (8 + p % 4) (λ n. either (eqb n 0) 1 n) (own_seized_list log_seen data_seen me)
  own_take_add p y asks s R wide at small = elim (ℕ_discrete (slice_index s.words (8 + p % 4)) 0) [
    | yes free ↦ (
        let h = finds_free p y asks s R at free in
        let k : LogWork = W p y asks s R at in
        let list : Listing = l p y asks s R at free in
        let v : View L D = own_view me.0 x (own_goes_on o k (answer.Taken None)).0
        (Some (slot.Pages (list_behind (op.TakeAdd p y) list))) in (
          v,
          takes (suc (p % 4)) (slot.Pages list),
          R.home (suc (p % 4)) (omega arith)
              (ap (slice_index s.words) (let w : 7 + suc (p % 4) ≡ 8 + p % 4 = omega arith in w) ∙ free),
          h.0,
          tells p y (slice_index s.words (8 + p % 4)) (v, (suc (p % 4), slot.Pages list) ∷ me.1)
              (home p y asks s R at).its_op
              ((λ _. (list, k, fits p y asks s R at free, h.1)), λ busy. absurd (busy free)),
        ))
    | no busy ↦ (
        let h = finds_held p y asks s R at busy in
        let k : LogWork = W p y asks s R at in
        let v : View L D = own_view me.0 x (own_goes_on o k answer.Held).0 me.0.held in (
          v,
          keeps,
          tt,
          h.0,
          tells p y (slice_index s.words (8 + p % 4)) (v, me.1) (home p y asks s R at).its_op
              ((λ free. absurd (busy free)), λ _. (k, h.1)),
        ))
  ]
