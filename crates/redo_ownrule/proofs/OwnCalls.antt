-- A call of the log part by a user that has the log's work in hand keeps the rule.
use Rattle.std.proofs.Common.{List, None, Option, Some, [], ap, false, inl, inr, refl, subst, suc, sym, true, ℕ, ◌+◌, ◌<◌, ◌∙◌, ◌∷◌, ◌≡◌, ◌≢◌, ◌⊎◌}
use Rattle.std.proofs.lemmas.List.{set-get_or}
use Rattle.std.specs.Prelude.{slice_index, slice_set}
use lib.ListN.{get_elem?}
use mathlib.Core.Option as maybe
use Rattle.atomic_table.specs.Table.{Allows, keeps, Me, State}
use Rattle.model_core.specs.declared.ops.Answer.{Answer}
use Rattle.model_core.specs.declared.ops.Op.{Op}
use Rattle.model_core.specs.declared.ops.Op.TheVariants as op
use Rattle.model_own.specs.{LogWork, own_goes_on, own_lends, own_next, OwnUser, has_work}
use Rattle.redo_disk.specs.{Call, EndWith, MakesCalls, Seen}
use Rattle.redo_drive.proofs.Played as played
use Rattle.redo_drive.specs.{HasSamePages, IsPlayed, run_log_side, RunOf, told_by, CallsOn, call_answer, call_code}
use Rattle.redo_drive.specs.declared.parts.Parts.{Parts}
use Rattle.redo_logdev.specs.Part as log
use Rattle.redo_ownrule.proofs.OwnOps as ops
use Rattle.redo_ownrule.proofs.OwnTurns as turns
use Rattle.redo_ownrule.proofs.OwnUserHands as hands
use Rattle.redo_ownrule.specs.OwnPlays.{HasWork, IsOwn, own_view, WorkInHand, OwnStepped, with_work, own_called}
use Rattle.redo_rule.proofs.AllowedCalls.{one_slot}
use Rattle.redo_rule.proofs.Kept as kept
use Rattle.redo_rule.specs.OwnSide.{Beside, desk_with}
use Rattle.redo_rule.specs.Ruled.{Ruled, slot_content}
use Rattle.redo_rule.specs.declared.law.About.{About}
use Rattle.redo_rule.specs.declared.law.Desk.{Desk}
use Rattle.redo_rule.specs.declared.law.Numbered.{Numbered}
use Rattle.redo_rule.specs.declared.law.Slot.{Slot}
use Rattle.redo_rule.specs.declared.law.Slot.TheVariants as slot
use Rattle.redo_rule.specs.declared.law.View.{View}
use Rattle.model_core.specs.{LogServed, lsn}
use Rattle.redo_drive.proofs.CallsOn.{calls_then}
use Rattle.redo_drive.proofs.Played.{CallsLog}
use Rattle.redo_drive.proofs.ShapeStays.{served_shape}
use Rattle.redo_drive.specs.LogPartSide as log_part
use Rattle.redo_drive.specs.declared.device.Device.TheVariants.{Log}
use Rattle.redo_ownrule.proofs.OwnAllowed as allowed
use Rattle.redo_ownrule.proofs.OwnAllowed.{by_slot}

-- a call that a user with the log's work in hand makes
abbrev pub IsWorkCall : Op → Type 0
IsWorkCall (op.WriteTo t) = Unit {0}
IsWorkCall op.Sync = Unit {0}
IsWorkCall _ = ⊥

calls_log : (a : Op) → IsWorkCall a → CallsLog a
calls_log (op.WriteTo t) is = tt
calls_log op.Sync is = tt
calls_log _ is = absurd is

pub call_work : (o : OwnUser) (k : LogWork) → WorkInHand o.errand k → (a : Op) → IsWorkCall a → own_next o k ≡ a
    → has_work o.errand ≡ true
call_work o k hold (op.WriteTo t) is e = (ops.part_work o k hold (op.WriteTo t) tt e).0
call_work o k hold op.Sync is e = (ops.part_work o k hold op.Sync tt e).0
call_work o k hold _ is e = absurd is

pub call_keeps : (o : OwnUser) (k : LogWork) → WorkInHand o.errand k → (a : Op) → IsWorkCall a → own_next o k ≡ a
    → (r : Answer) → has_work (own_goes_on o k r).0.errand ≡ true
call_keeps o k hold (op.WriteTo t) is e r = ops.write_keeps o k hold t r e
call_keeps o k hold op.Sync is e r = ops.sync_keeps o k hold r e
call_keeps o k hold _ is e r = absurd is

abbrev pub answer_by : {L : Type 0} → Desk L → Op → Answer
answer_by q a = call_answer Log q.part.failed (told_by a q.part.marks.stable)

module _ {L D : Type 0} (log_seen : L → Seen) (log_gives : L → Call → L → Type 0) (data_seen : D → Seen)
    (data_gives : D → Call → D → Type 0) (about : About L D) (slots id : ℕ) (me : Me (Slot L D) (View L D))
    (x : Numbered) (one : me.0.seats ≡ x ∷ []) (o : OwnUser) (its : IsOwn x o) where
  abbrev Law : State (Slot L D) (View L D) → Type 0
  Law = Ruled log_seen log_gives data_seen data_gives about

  module _ (i : ℕ) (a : Op) (is_call : IsWorkCall a) (p q : Desk L) (k : LogWork)
      (asks : (k : LogWork) → HasWork me.0.held o k → own_next o k ≡ a)
      (held : me.0.held ≡ Some (slot.Log p)) (has : p.work ≡ Some k) (carried : me.1 ≡ (0, slot.Log q) ∷ [])
      (served : (run : RunOf L D) → LogServed (run_log_side log_seen data_seen run) p.part (own_lends o k) a
      (call_code Log q.part.failed) q.part)
      (calls : MakesCalls log_gives p.part.dev q.part.dev (EndWith q.part.failed)) (live : p.part.failed ≡ None) where
    module _ (s : State (Slot L D) (View L D)) (R : Law s) (at : get_elem? s.views id ≡ maybe.some me.0) where
      abbrev W : LogWork
      W = allowed.Work log_seen log_gives data_seen data_gives about slots id me x one o its s R at

      abbrev ws : List ℕ
      ws = slice_set s.words i (slice_index s.words i)

      abbrev new : Parts L D
      new = record {
        words = record { layout = R.parts.words.layout; words = ws };
        log = q.part;
        store = R.parts.store;
        lists = R.parts.lists;
      }

      abbrev same : HasSamePages R.parts new
      same = record { words = refl; lists = refl }

      words_same : ws ≡ s.words
      words_same = set-get_or s.words i 0

      hold : WorkInHand o.errand W
      hold = allowed.serves_hand log_seen log_gives data_seen data_gives about slots id me x one o its s R at

      pub its_op : own_next o W ≡ a
      its_op = asks W (turns.has_it log_seen log_gives data_seen data_gives about s R id me.0 x one at o its)

      has_one : has_work o.errand ≡ true
      has_one = call_work o W hold a is_call its_op

      abbrev r : Answer
      r = answer_by q (own_next o W)

      its_desk : ◌≡◌ {A = Desk L} p (desk_with R.parts.log R.beside)
      its_desk = kept.same_desk p (desk_with R.parts.log R.beside)
          (kept.same_slot (slot.Log p) (slot.Log (desk_with R.parts.log R.beside)) (sym held
          ∙ turns.has_desk log_seen log_gives data_seen data_gives about s R id me.0 x one at o its has_one))

      was : ◌≡◌ {A = log.Part L} p.part R.parts.log
      was = ap (λ (z : Desk L). z.part) its_desk

      k_is : k ≡ W
      k_is = turns.the_work log_seen log_gives data_seen data_gives about s R id me.0 x one at o its k
          (λ _. (p, held, has)) has_one

      its_served : LogServed (run_log_side log_seen data_seen R.run) R.parts.log (own_lends o W) a
          (call_code Log q.part.failed) q.part
      its_served = subst (λ (z : log.Part L). LogServed (run_log_side log_seen data_seen R.run) z (own_lends o W) a
          (call_code Log q.part.failed) q.part) was
          (subst (λ (j : LogWork). LogServed (run_log_side log_seen data_seen R.run) p.part (own_lends o j) a
          (call_code Log q.part.failed) q.part) k_is (served R.run))

      pub done_by : IsPlayed log_seen data_seen R.run (own_next o W) (own_lends o W) R.parts r new
      done_by = subst (λ (z : Op). IsPlayed log_seen data_seen R.run z (own_lends o W) R.parts (answer_by q z) new)
          (sym its_op)
          (played.log_played log_seen data_seen R.run (own_lends o W) R.parts a new (answer_by q a)
          refl (words_same ∙ sym R.words_are) refl a refl (calls_log a is_call) refl its_served refl)

      abbrev then : OwnUser
      then = (own_goes_on o W r).0

      abbrev left : LogWork
      left = (own_goes_on o W r).1

      abbrev held_now : Option (Slot L D)
      held_now = Some (slot.Log (with_work q left))

      abbrev beside : Beside
      beside = turns.beside log_seen log_gives data_seen data_gives about s R id me.0 x one at o its r new same done_by
          q.block

      has_then : has_work then.errand ≡ true
      has_then = call_keeps o W hold a is_call its_op r

      abbrev Called : Type 0
      Called = Law (record { words = ws; homes = s.homes; views = slice_set s.views id (own_view me.0 x then held_now) })
          × OwnStepped log_seen data_seen x o W r held_now me.1 me.0 (own_view me.0 x then held_now, me.1)

      pub after_call : Called
      after_call =
          let fit = (turns.serves log_seen log_gives data_seen data_gives about s R id me.0 x one at o its).stands in
          let none_now = hands.work_holds o W has_one fit in
          let none_then = hands.work_leaves o W r has_one fit in
          let content : (i : ℕ) → ◌≡◌ {A = Slot L D} (slot_content R.parts R.beside (suc i)) (slot_content new beside (suc i)) =
          allowed.list_content log_seen log_gives data_seen data_gives about slots id me x one o its s R at new beside refl in
          let still : (k : ℕ) → slice_index ws (7 + k) ≡ slice_index s.words (7 + k) =
          λ k. ap (λ (y : List ℕ). slice_index y (7 + k)) words_same in
          let busy : slice_index s.words (7 + 0) ≡ 0 → ⊥ = λ free.
          let none : has_work o.errand ≡ false =
          turns.free_none log_seen log_gives data_seen data_gives about s R id me.0 x one at o its free in
          let z : true ≡ false = sym has_one ∙ none in absurd (cc) in (
            turns.own_kept log_seen log_gives data_seen data_gives about s R id me.0 x one at o its r new same done_by
                q.block (inr has_one) held_now
                (λ k h. let z : None ≡ Some k = sym none_then ∙ h in absurd (cc))
                (λ _. refl)
                (λ k. by_slot (λ (j : ℕ). (◌≡◌ {A = Slot L D} (slot_content R.parts R.beside j) (slot_content new beside j))
                ⊎ turns.Alone log_seen log_gives data_seen data_gives about s R id me.0 x one at o its j)
                (inr (turns.in_hand_alone log_seen log_gives data_seen data_gives about s R id me.0 x one at o its has_one))
                (λ i. inl (content i)) k)
                (inr (turns.in_hand_work log_seen log_gives data_seen data_gives about s R id me.0 x one at o its has_one))
                refl s.homes R.lists_are
                (calls_then log_gives about.opened.value.log.dev R.parts.log.dev q.part.dev about.opened.value.log.failed
                R.parts.log.failed q.part.failed R.log_calls
                (subst (λ (z : log.Part L). CallsOn log_gives z.dev z.failed q.part.dev q.part.failed) was
                (record { live = λ none. calls; over = λ some. absurd (some live) })))
                (served_shape log_seen (log_seen R.run.first_log.dev).faults R.run.first_log.marks.number
                (log_part.HasBegun log_seen (lsn R.run.setup.base) R.run.first_log) R.parts.log q.part
                (call_code Log q.part.failed) (own_lends o W) a its_served)
                R.slots
                (λ k l z. by_slot (λ (j : ℕ). j < 5 → slice_index ws (7 + j) ≡ 0
                → get_elem? s.homes j ≡ maybe.some (maybe.some (slot_content new beside j)))
                (λ l z. absurd (busy (sym (still 0) ∙ z)))
                (λ i l z. R.home (suc i) l (sym (still (suc i)) ∙ z)
                ∙ ap (λ (y : Slot L D). maybe.some (maybe.some y)) (content i)) k l z)
                R.data_home
                (λ k l b. by_slot (λ (j : ℕ). slice_index ws (7 + j) ≢ 0
                → turns.Turned log_seen log_gives data_seen data_gives about s R id me.0 x one at o its r new same done_by
                q.block j)
                (λ b. still 0 ∙ allowed.busy_device log_seen log_gives data_seen data_gives about slots id me x one o its s
                R at (λ z. b (still 0 ∙ z)))
                (λ i b. inr (
                  (λ z. b (still (suc i) ∙ z)),
                  λ h. let z : None ≡ Some (suc i) = sym none_now ∙ h in absurd (cc),
                )) k b),
            turns.steps log_seen log_gives data_seen data_gives about s R id me.0 x one at o its r new same done_by
                q.block held_now me.1
                (λ d is has. kept.same_log d (with_work q left)
                (kept.same_slot (slot.Log d) (slot.Log (with_work q left)) (sym is))),
          )

    pub own_calls : Allows Law slots id me i (λ n. n) (own_called log_seen data_seen me)
    own_calls s R wide at small =
        let h = after_call s R at in
        let w : LogWork = W s R at in
        let z : Answer = answer_by q (own_next o w) in
        let v : View L D = own_view me.0 x (own_goes_on o w z).0 (Some (slot.Log (with_work q (own_goes_on o w z).1))) in (
          v,
          keeps,
          tt,
          h.0,
          λ y u d seats is there. subst (λ (e : Desk L). (j : LogWork) × HasWork me.0.held u j
              × OwnStepped log_seen data_seen y u j (answer_by e (own_next u j))
              (Some (slot.Log (with_work e (own_goes_on u j (answer_by e (own_next u j))).1))) me.1 me.0 (v, me.1))
              (kept.same_desk q d (one_slot 0 (slot.Log q) (slot.Log d) me.1 carried there))
              (allowed.of_own log_seen log_gives data_seen data_gives about slots id me x one o its
              (λ (y : Numbered) (u : OwnUser). (j : LogWork) × HasWork me.0.held u j
              × OwnStepped log_seen data_seen y u j (answer_by q (own_next u j))
              (Some (slot.Log (with_work q (own_goes_on u j (answer_by q (own_next u j))).1))) me.1 me.0 (v, me.1))
              (w, turns.has_it log_seen log_gives data_seen data_gives about s R id me.0 x one at o its, h.1) y u seats is),
        )
