-- The step that ends a device call keeps the rule: by it the seat's view takes what became of the part.
use Rattle.std.proofs.Common.{Bool, List, None, Option, Some, [], ap, arith, false, get_or, length, length-set, refl, subst, suc, sym, true, zero, ⊎_elim, ℕ, ◌+◌, ◌<◌, ◌∙◌, ◌∷◌, ◌≡◌, ◌≢◌, inr}
use Rattle.std.proofs.lemmas.List.{set-get_or}
use Rattle.std.specs.Prelude.{slice_index, slice_set}
use lib.ListN.{get_elem?}
use mathlib.Core.Option as maybe
use Rattle.atomic_table.specs.Table.{Allows, gives, keeps, Me, put_back, rest, State, takes}
use Rattle.atomic_table.proofs.Lists.{set_here}
use Rattle.model_core.proofs.Lists.{at_set, set_else}
use Rattle.model_core.specs.{DataServed, filled, Filling, lent, LogServed, lsn, next, took, hand, IsFreeToCheck}
use Rattle.model_core.specs.States as model
use Rattle.model_core.specs.declared.ops.Answer.{Answer}
use Rattle.model_core.specs.declared.ops.Answer.TheVariants as answer
use Rattle.model_core.specs.declared.ops.Op.{Op}
use Rattle.model_core.specs.declared.ops.Op.TheVariants as op
use Rattle.model_own.specs.{LogWork}
use Rattle.redo_disk.specs.{Call, EndWith, MakesCalls, Seen}
use Rattle.redo_disk.specs.declared.error.DevError.{DevError}
use Rattle.redo_logdev.specs.Part as log
use Rattle.redo_drive.proofs.ShapeStays.{served_shape}
use Rattle.redo_drive.specs.LogPartSide as log_part
use Rattle.redo_drive.proofs.CallsOn.{calls_then}
use Rattle.redo_drive.proofs.Played as played
use Rattle.redo_drive.proofs.Played.{CallsLog}
use Rattle.redo_drive.specs.{CallsOn, call_answer, listing_at, Listings, call_code, code_of, HasSamePages, IsPlayed, run_data_side, run_log_side, RunOf, told_by}
use Rattle.redo_drive.specs.declared.device.Device.TheVariants.{Data, Log}
use Rattle.redo_drive.specs.declared.parts.Parts.{Parts}
use Rattle.redo_rule.proofs.Allowed as allowed
use Rattle.redo_rule.proofs.Filled.{fills_block, handles_filled, IsNoGive}
use Rattle.redo_rule.proofs.Holders as holders
use Rattle.redo_rule.proofs.Kept as kept
use Rattle.redo_rule.proofs.Retook.{one_head}
use Rattle.model_core.proofs.Hands.{Handles}
use Rattle.redo_rule.specs.OwnSide.{Beside, desk_with}
use Rattle.redo_rule.specs.Plays.{batched, block_filling, called, no_filling, reached, Stepped, view_behind, view_reaching}
use Rattle.redo_rule.specs.Ruled.{Knows, Ruled, slot_content}
use Rattle.redo_rule.specs.declared.law.About.{About}
use Rattle.redo_rule.specs.declared.law.Desk.{Desk}
use Rattle.redo_rule.specs.declared.law.Errand.{Errand}
use Rattle.redo_rule.specs.declared.law.Keeping.{Keeping}
use Rattle.redo_rule.specs.declared.law.Numbered.{Numbered}
use Rattle.redo_rule.specs.declared.law.Slot.{Slot}
use Rattle.redo_rule.specs.declared.law.Slot.TheVariants as slot
use Rattle.redo_rule.specs.declared.law.View.{View}
use Rattle.redo_store.specs.Part as store

-- an actor that calls the log part holds it, and holds it after the answer
by_answer : (after : Answer → Option ℕ) → ((n : ℕ) → after (answer.Called n) ≡ Some 0) → ((c : ℕ) → after (answer.Failed c) ≡ Some 0) → (met : Option DevError) (n : ℕ) → after (call_answer Log met n) ≡ Some 0
by_answer after called failed None n = called n
by_answer after called failed (Some fault) n = failed (code_of Log fault)

pub hand_of : (o : Op) → CallsLog o → (before : Option ℕ) (after : Answer → Option ℕ) → Handles o before after → (before ≡ Some 0) × ((met : Option DevError) (n : ℕ) → after (call_answer Log met n) ≡ Some 0)
hand_of (op.WriteTo t) calls before after h = (h.0, by_answer after h.1 h.2)
hand_of op.Sync calls before after h = (h.0, by_answer after h.1 h.2)
hand_of (op.Checkpoint x) calls before after h = (h.0, by_answer after h.1 h.2)
hand_of (op.ReadBlock x) calls before after h = (h.0, by_answer after h.1 h.2)
hand_of _ calls before after h = absurd calls

-- what is in a list of one slot
pub one_slot : {L D : Type 0} (k : ℕ) (x y : Slot L D) (l : List (ℕ × Slot L D)) → l ≡ (k, x) ∷ [] → l ≡ (k, y) ∷ [] → ◌≡◌ {A = Slot L D} x y
one_slot {L} {D} k x y l e f = ap (λ (z : List (ℕ × Slot L D)). (get_or z 0 (k, x)).1) (sym e ∙ f)

-- what is known of the data part
abbrev part_or : {D : Type 0} → store.Part D → Option (Keeping D) → store.Part D
part_or d None = d
part_or d (Some k) = k.part

abbrev is_out : {D : Type 0} → Option (Keeping D) → Bool
is_out None = false
is_out (Some k) = k.out

module _ {L D : Type 0} (log_seen : L → Seen) (log_gives : L → Call → L → Type 0) (data_seen : D → Seen) (data_gives : D → Call → D → Type 0) (about : About L D) (slots id : ℕ) (me : Me (Slot L D) (View L D)) (x : Numbered) (one : me.0.seats ≡ x ∷ [])
    (plain_one : ◌≡◌ {A = Option Errand} x.errand None) where
  abbrev Law : State (Slot L D) (View L D) → Type 0
  Law = Ruled log_seen log_gives data_seen data_gives about

  abbrev a : model.Actor
  a = x.actor

  abbrev plain : model.Actor
  plain = filled a no_filling

  pub allows_called : (i : ℕ) (o : Op) (p q : Desk L) → next a ≡ o → CallsLog o → IsFreeToCheck a → me.0.held ≡ Some
      (slot.Log p) → me.1 ≡ (0, slot.Log q) ∷ []
      → ((run : RunOf L D) → LogServed (run_log_side log_seen data_seen run) p.part (lent (filled a (block_filling
      q.block))) o (call_code Log q.part.failed) q.part) → MakesCalls log_gives p.part.dev q.part.dev (EndWith
      q.part.failed) → p.part.failed ≡ None → ◌≡◌ {A = Option LogWork} q.work p.work
      → Allows Law slots id me i (λ n. n) (called log_seen data_seen me)
  allows_called i o p q is calls_log free held carried served calls live work s R wide at small =
      let f : Filling = block_filling q.block in
      let b : model.Actor = filled a f in
      let goes : Handles o (hand a) (λ (z : Answer). hand (took b z)) = subst (λ (j : Op). Handles j (hand a) (λ (z :
      Answer). hand (took b z))) is (handles_filled a f free) in
      let fills = fills_block a f free (subst IsNoGive (sym is) (no_give o calls_log)) in
      let mine = hand_of o calls_log (hand a) (λ (z : Answer). hand (took b z)) goes in
      let known : Knows about R.parts R.beside R.actors R.heard R.seat_of R.keeper R.out id me.0 =
      kept.known log_seen log_gives data_seen data_gives about s R id me.0 x one at in
      let its_desk : ◌≡◌ {A = Slot L D} (slot.Log p) (slot.Log (desk_with R.parts.log R.beside)) =
      kept.same_slot (slot.Log p) (slot.Log (desk_with R.parts.log R.beside))
      (sym held ∙ kept.holds_content log_seen log_gives data_seen data_gives about s R id me.0 x one at 0 mine.0) in
      let was : ◌≡◌ {A = log.Part L} p.part R.parts.log = kept.same_log p (desk_with R.parts.log R.beside) its_desk in
      let beside : Beside = record { block = q.block; own = R.beside.own } in
      let q_is : ◌≡◌ {A = Desk L} q (desk_with q.part beside) =
      ap (λ (k : Option LogWork). record { part = q.part; block = q.block; work = k })
      (work ∙ ap (λ (z : Desk L). z.work) (kept.same_desk p (desk_with R.parts.log R.beside) its_desk)) in
      let e : slice_set s.words i (slice_index s.words i) ≡ s.words = set-get_or s.words i 0 in
      let new : Parts L D = record {
        words = record {
          layout = R.parts.words.layout;
          words = slice_set s.words i
              (slice_index s.words i);
        };
        log = q.part;
        store = R.parts.store;
        lists = R.parts.lists;
      } in
      let r : Answer = call_answer Log q.part.failed (told_by o q.part.marks.stable) in
      let same : HasSamePages R.parts new = record { words = refl; lists = refl } in
      let done_o : IsPlayed log_seen data_seen R.run o (lent b) R.parts r new = played.log_played log_seen data_seen
      R.run (lent b) R.parts o new r refl (e ∙ sym R.words_are) refl o refl calls_log refl (subst (λ (z : log.Part L).
      LogServed (run_log_side log_seen data_seen R.run) z (lent b) o (call_code Log q.part.failed) q.part) was
      (served R.run)) refl in
      let done : IsPlayed log_seen data_seen R.run (next a) (lent b) R.parts r new = subst (λ (j : Op). IsPlayed
      log_seen data_seen R.run j (lent b) R.parts r new) (sym is) done_o in
      let own : (k : ℕ) → hand (took b r) ≡ Some k → Some (slot.Log q) ≡ Some (slot_content new beside k) = λ k h.
      ap (λ (z : Desk L). Some (slot.Log z)) q_is
      ∙ ap (λ (j : ℕ). Some (slot_content new beside j)) (holders.same_number 0 k (sym (mine.1 q.part.failed (told_by o
      q.part.marks.stable)) ∙ h)) in
      let holder = holders.holding log_seen data_seen R.run R.parts R.actors R.runs x.number a (kept.here log_seen
      log_gives data_seen data_gives about s R id me.0 x one at) 0 mine.0 in
      let others : (n : ℕ) (c : model.Actor) (k : ℕ) → n ≢ x.number → get_elem? R.actors n ≡ maybe.some c → hand c ≡
      Some k → ◌≡◌ {A = Slot L D} (slot_content R.parts R.beside k) (slot_content new beside k) = λ n c k ne there
      hold. by_slot R.parts new R.beside beside refl k
      (λ z. ne (holders.one_holder log_seen data_seen R.run R.parts R.actors R.runs n x.number c a 0 there (kept.here
      log_seen log_gives data_seen data_gives about s R id me.0 x one at) (hold ∙ ap (λ (j : ℕ). Some j) z)
      mine.0)) in (
        view_behind me.0 x f r (Some (slot.Log q)) me.0.data_part,
        keeps,
        tt,
        kept.kept log_seen log_gives data_seen data_gives about s R id me.0 x one at f fills r new beside same done plain_one
            (view_behind me.0 x f r (Some (slot.Log q)) me.0.data_part) R.out refl refl refl refl own
            (λ d h. known.data_part d h)
            others (λ j u d ne h stored. (R.knows j u h).data_part d stored) s.homes R.lists_are
            (calls_then log_gives about.opened.value.log.dev R.parts.log.dev q.part.dev about.opened.value.log.failed
            R.parts.log.failed q.part.failed R.log_calls
            (subst (λ (z : log.Part L). CallsOn log_gives z.dev z.failed q.part.dev q.part.failed) was (record {
              live
                  = λ none. calls;
              over = λ some. absurd (some live);
            })))
            R.data_calls
            (served_shape log_seen (log_seen R.run.first_log.dev).faults R.run.first_log.marks.number
            (log_part.HasBegun log_seen (lsn R.run.setup.base) R.run.first_log) p.part q.part (call_code Log
            q.part.failed) (lent b) o (served R.run) ∙ ap (λ (z : log.Part L). z.shape) was)
            R.slots
            (λ k l z. home_of s R new beside refl k l holder.word_is (sym (ap (λ (y : List ℕ). slice_index y (7 + k))
            e) ∙ z))
            R.data_home
            (λ k l z. inr (
              (λ u. z (ap (λ (y : List ℕ). slice_index y (7 + k)) e ∙ u)),
              λ u. mine.1 q.part.failed
                  (told_by o q.part.marks.stable) ∙ sym mine.0 ∙ u,
            )),
        λ y z one_y carries. subst (λ (j : Desk L). Stepped log_seen data_seen y (block_filling j.block)
            (call_answer Log j.part.failed (told_by (next y.actor) j.part.marks.stable))
            (Some (slot.Log j)) me.0.data_part me.1 me (
              view_behind me.0 x f r (Some (slot.Log q)) me.0.data_part,
              me.1,
            ))
            (kept.same_desk q z (one_slot 0 (slot.Log q) (slot.Log z) me.1 carried carries))
            (subst (λ (j : Numbered). Stepped log_seen data_seen j f
            (call_answer Log q.part.failed (told_by (next j.actor) q.part.marks.stable))
            (Some (slot.Log q)) me.0.data_part me.1 me
            (view_behind me.0 x f r (Some (slot.Log q)) me.0.data_part, me.1))
            (one_head me.0.seats x y one one_y)
            (subst (λ (j : Op). Stepped log_seen data_seen x f (call_answer Log q.part.failed (told_by j
            q.part.marks.stable))
            (Some (slot.Log q)) me.0.data_part me.1 me
            (view_behind me.0 x f r (Some (slot.Log q)) me.0.data_part, me.1)) (sym is)
            (kept.steps log_seen log_gives data_seen data_gives about s R id me.0 x one at f fills r new beside same
            done plain_one me.1 (Some (slot.Log q)) me.0.data_part me.1 own (λ d h. (known.data_part d h).1)))),
      )
    where
      no_give : (o : Op) → CallsLog o → IsNoGive o
      no_give op.GiveDevice calls = absurd calls
      no_give _ calls = tt

      by_slot : (old new : Parts L D) (was now : Beside) → new.lists ≡ old.lists → (k : ℕ) → (k ≡ 0 → ⊥)
          → ◌≡◌ {A = Slot L D} (slot_content old was k) (slot_content new now k)
      by_slot old new was now same zero ne = absurd (ne refl)
      by_slot old new was now same (suc j) ne = ap (λ (z : Listings). slot.Pages (listing_at z.lists j)) (sym same)

      home_of : (s : State (Slot L D) (View L D)) (R : Law s) (new : Parts L D) (now : Beside) → new.lists ≡
          R.parts.lists → (k : ℕ) → k < 5 → slice_index R.parts.words.words (7 + 0) ≡ 1 → slice_index s.words (7 + k)
          ≡ 0 → get_elem? s.homes k ≡ maybe.some (maybe.some (slot_content new now k))
      home_of s R new now same zero l taken z = let t : slice_index s.words 7 ≡ 1 = sym (ap (λ (y : List ℕ).
          slice_index y 7) R.words_are) ∙ taken in absurd (omega arith)
      home_of s R new now same (suc j) l taken z = R.home (suc j) l z ∙ ap (λ (y : Slot L D). maybe.some (maybe.some
          y)) (by_slot R.parts new R.beside now same (suc j) (λ e. omega arith))

  -- WriteBatch: the data part is taken out of its slot
  pub allows_reach : (i : ℕ) (d : store.Part D) → me.0.data_part ≡ Some (record { part = d; out = false }) → Allows Law slots id me i (λ n. n) (reached me)
  allows_reach i d has s R wide at small =
      let e : slice_set s.words i (slice_index s.words i) ≡ s.words = set-get_or s.words i 0 in
      let K : Knows about R.parts R.beside R.actors R.heard R.seat_of R.keeper R.out id me.0 =
      kept.known log_seen log_gives data_seen data_gives about s R id me.0 x one at in
      let mine = K.data_part (record { part = d; out = false }) has in
      let w : View L D = view_reaching me.0 d in
      let out_is : (f : Keeping D) → Some (record { part = d; out = true }) ≡ Some f → (◌≡◌ {A = store.Part D} d f.part) × (true ≡ f.out) = λ f h.
      (ap (λ (o : Option (Keeping D)). part_or d o) h, ap (λ (o : Option (Keeping D)). is_out o) h) in
      let here : Knows about R.parts R.beside R.actors R.heard R.seat_of R.keeper true id w = record {
        told = K.told;
        layout = K.layout;
        mine = K.mine;
        free = K.free;
        held = K.held;
        errand = K.errand;
        work = K.work;
        data_part = λ f h. (mine.0, sym (out_is f h).0 ∙ mine.1, (out_is f h).1);
      } in
      let others : (j : ℕ) (u : View L D) → j ≢ id → get_elem? s.views j ≡ maybe.some u
      → Knows about R.parts R.beside R.actors R.heard R.seat_of R.keeper true j u = λ j u ne h. let N = R.knows j u h
      in record {
        told = N.told;
        layout = N.layout;
        mine = N.mine;
        free = N.free;
        held = N.held;
        errand = N.errand;
        work = N.work;
        data_part = λ f g. absurd (ne (sym (N.data_part f g).0 ∙ mine.0));
      } in
      let new : Law (record { words = s.words; homes = slice_set s.homes 5 maybe.none; views = slice_set s.views id w }) = record {
        run = R.run;
        is_about = R.is_about;
        parts = R.parts;
        beside = R.beside;
        own_is = R.own_is;
        own = R.own;
        actors = R.actors;
        heard = R.heard;
        words_are = R.words_are;
        lists_are = R.lists_are;
        runs = R.runs;
        hears = R.hears;
        reads = R.reads;
        loaded = R.loaded;
        count = R.count;
        log_calls = R.log_calls;
        data_calls = R.data_calls;
        log_shape = R.log_shape;
        slots = length-set s.homes 5 maybe.none ∙ R.slots;
        home = λ k l z. set_else s.homes 5 k maybe.none (λ f. omega arith) ∙ R.home k l z;
        seat_of = R.seat_of;
        keeper = R.keeper;
        out = true;
        data_home = λ z. absurd (cc);
        told = R.told;
        taken = R.taken;
        knows = λ j u h. ⊎_elim (λ t. subst (λ (z : View L D). Knows about R.parts R.beside R.actors R.heard R.seat_of
            R.keeper true j z)
            t.1 (subst (λ (n : ℕ). Knows about R.parts R.beside R.actors R.heard R.seat_of R.keeper true n w) (sym t.0)
            here))
            (λ t. others j u t.0 t.1) (at_set s.views id j w u h);
      } in (
        w,
        takes 5 (slot.Data d),
        R.data_home mine.2 ∙ ap (λ (z : store.Part D). maybe.some (maybe.some (slot.Data z))) (sym mine.1),
        subst (λ (ws : List ℕ). Law (record { words = ws; homes = slice_set s.homes 5 maybe.none; views = slice_set s.views id w })) (sym e) new,
        λ f g. ap (λ (z : store.Part D). let m : Me (Slot L D) (View L D) =
            (view_reaching me.0 z, (5, slot.Data z) ∷ me.1) in m)
            (ap (λ (o : Option (Keeping D)). part_or d o) (sym has ∙ g)),
      )

  -- and after its call it is back
  pub allows_batched : (i : ℕ) (d e : store.Part D) → next a ≡ op.WriteBatch → IsFreeToCheck a → me.0.data_part ≡ Some (record { part = d; out = true }) → me.1 ≡ (5, slot.Data e) ∷ []
      → ((run : RunOf L D) → DataServed (run_data_side log_seen data_seen run) d (lent plain) op.WriteBatch (call_code
      Data e.failed) e) → MakesCalls data_gives d.dev e.dev (EndWith e.failed) → d.failed ≡ None
      → Allows Law slots id me i (λ n. n) (batched log_seen data_seen me)
  allows_batched i d e is free has carried served calls live s R wide at small =
      let goes : Handles op.WriteBatch (hand a) (λ (z : Answer). hand (took plain z)) = subst (λ (j : Op). Handles j
      (hand a) (λ (z : Answer). hand (took plain z))) is (handles_filled a no_filling free) in
      let fills = fills_block a no_filling free (subst IsNoGive (sym is) tt) in
      let known : Knows about R.parts R.beside R.actors R.heard R.seat_of R.keeper R.out id me.0 =
      kept.known log_seen log_gives data_seen data_gives about s R id me.0 x one at in
      let mine = known.data_part (record { part = d; out = true }) has in
      let was : ◌≡◌ {A = store.Part D} d R.parts.store = mine.1 in
      let q : slice_set s.words i (slice_index s.words i) ≡ s.words = set-get_or s.words i 0 in
      let new : Parts L D = record { words = record { layout = R.parts.words.layout; words = slice_set s.words i (slice_index s.words i) }; log = R.parts.log; store = e; lists = R.parts.lists } in
      let r : Answer = call_answer Data e.failed 0 in
      let same : HasSamePages R.parts new = record { words = refl; lists = refl } in
      let done : IsPlayed log_seen data_seen R.run (next a) (lent plain) R.parts r new = subst (λ (j : Op). IsPlayed
      log_seen data_seen R.run j (lent plain) R.parts r new) (sym is)
      (played.batch_played log_seen data_seen R.run (lent plain) R.parts op.WriteBatch new r refl (q ∙ sym R.words_are)
      refl refl refl (subst (λ (z : store.Part D). DataServed (run_data_side log_seen data_seen R.run) z (lent
      plain) op.WriteBatch (call_code Data e.failed) e) was (served R.run)) refl) in
      let kept_now : Option (Keeping D) = Some (record { part = e; out = false }) in
      let w : View L D = view_behind me.0 x no_filling r me.0.held kept_now in
      let own : (k : ℕ) → hand (took plain r) ≡ Some k → me.0.held ≡ Some (slot_content new R.beside k) = λ k h. let n
      = goes.1 r in absurd (cc) in
      let left : (z : Keeping D) → kept_now ≡ Some z → (◌≡◌ {A = store.Part D} z.part e) × (false ≡ z.out) = λ z h.
      (sym (ap (λ (o : Option (Keeping D)). part_or e o) h), ap (λ (o : Option (Keeping D)). is_out o) h) in
      let back : put_back s.homes me.1 ≡ slice_set s.homes 5 (maybe.some (slot.Data e)) = ap (put_back s.homes) carried in (
        w,
        gives,
        tt,
        kept.kept log_seen log_gives data_seen data_gives about s R id me.0 x one at no_filling fills r new R.beside
            same done plain_one w false refl refl
            refl refl own (λ z h. (mine.0, (left z h).0, (left z h).1))
            (λ n c k ne h hold. allowed.same_content R.parts new R.beside refl refl k) (λ j u z ne h stored. absurd (ne
            (sym ((R.knows j u h).data_part z stored).0 ∙ mine.0))) (put_back s.homes me.1) R.lists_are
            R.log_calls
            (calls_then data_gives about.opened.value.store.dev R.parts.store.dev e.dev about.opened.value.store.failed R.parts.store.failed e.failed R.data_calls
            (subst (λ (z : store.Part D). CallsOn data_gives z.dev z.failed e.dev e.failed) was (record { live = λ none. calls; over = λ some. absurd (some live) })))
            refl (ap length back ∙ length-set s.homes 5 (maybe.some (slot.Data e)) ∙ R.slots)
            (λ k l z. ap (λ (y : List (maybe.Option (Slot L D))). get_elem? y k) back ∙ set_else s.homes 5 k (maybe.some (slot.Data e)) (λ f. omega arith)
            ∙ R.home k l (sym (ap (λ (y : List ℕ). slice_index y (7 + k)) q) ∙ z) ∙ ap (λ (y : Slot L D). maybe.some
            (maybe.some y)) (allowed.same_content R.parts new R.beside refl refl k))
            (λ z. ap (λ (y : List (maybe.Option (Slot L D))). get_elem? y 5) back ∙ set_here s.homes 5 (maybe.some (slot.Data e)) (let n = R.slots in omega arith))
            (λ k l z. inr ((λ u. z (ap (λ (y : List ℕ). slice_index y (7 + k)) q ∙ u)), λ u. let n = goes.0 in absurd (cc))),
        λ y f one_y carries. subst (λ (j : store.Part D). Stepped log_seen data_seen y no_filling (call_answer Data
            j.failed 0) me.0.held (Some (record { part = j; out = false })) (rest me.1) me (w, rest me.1))
            (kept.same_data e f (one_slot 5 (slot.Data e) (slot.Data f) me.1 carried carries))
            (subst (λ (j : Numbered). Stepped log_seen data_seen j no_filling r me.0.held kept_now (rest me.1) me
            (view_behind me.0 x no_filling r me.0.held kept_now, rest me.1)) (one_head me.0.seats x y one one_y)
            (kept.steps log_seen log_gives data_seen data_gives about s R id me.0 x one at no_filling fills r new
            R.beside same done plain_one me.1 me.0.held kept_now (rest me.1) own (λ z h. (left z h).0))),
      )
