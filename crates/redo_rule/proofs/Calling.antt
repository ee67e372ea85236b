-- What a call of the log part asks and leaves, for the functions of `device`.
use Rattle.std.proofs.Common.{List, Result, None, Option, Some, [], ap, arith, get_or, refl, subst, sym, ℕ, ◌<◌, ◌∙◌, ◌∷◌, ◌≡◌}
use Rattle.atomic_table.specs.Seated.{TableId}
use Rattle.atomic_table.specs.Table.{Allows, Me, rest}
use Rattle.atomic_table.specs.declared.shared.Seat.{Seat}
use Rattle.model_core.specs.{filled, Filling, Given, lent, LogServed, lsn, next, took, AnswerFits, hand, IsFreeToCheck}
use Rattle.model_core.specs.States as model
use Rattle.model_core.specs.declared.ops.Answer.{Answer}
use Rattle.model_core.specs.declared.ops.Op.{Op}
use Rattle.model_core.specs.declared.ops.Op.TheVariants as op
use Rattle.model_core.specs.declared.ops.Step.{Step}
use Rattle.redo_disk.specs.{Call, error_of, Seen}
use Rattle.redo_disk.specs.declared.error.DevError.{DevError}
use Rattle.redo_logdev.specs.Part as log
use Rattle.redo_drive.specs.LogPartSide as log_part
use Rattle.redo_drive.proofs.Played.{CallsLog}
use Rattle.redo_drive.specs.{call_code, call_answer, LogReady, MayWriteLent, run_log_side, RunOf, told_by, HasTaken, MarkFits, view_of}
use Rattle.redo_drive.specs.declared.actor.Actor.{Actor}
use Rattle.redo_drive.specs.declared.device.Device.TheVariants.{Log}
use Rattle.redo_rule.proofs.AllowedCalls.{allows_called, hand_of}
use Rattle.redo_rule.proofs.Filled.{IsPlainOp, plain_filled}
use Rattle.redo_rule.proofs.Kept as kept
use Rattle.redo_rule.proofs.Stepping as stepping
use Rattle.redo_rule.proofs.Took.{may_take, steps, took_plain, TookWith}
use Rattle.redo_rule.specs.Mine.{Mine}
use Rattle.redo_rule.specs.Ops.{HasPlayedOp, MayPlay}
use Rattle.redo_rule.specs.Plays.{block_filling, called, Carries, Stepped}
use Rattle.redo_rule.specs.Ruled.{Ruled}
use Rattle.redo_rule.specs.Slots.{IsCalled}
use Rattle.redo_rule.specs.declared.law.About.{About}
use Rattle.redo_rule.specs.declared.law.Desk.{Desk}
use Rattle.redo_rule.specs.declared.law.Slot.{Slot}
use Rattle.redo_rule.specs.declared.law.Slot.TheVariants as slot
use Rattle.redo_rule.specs.declared.law.View.{View}
use Rattle.redo_words.specs.{Lends}
use Rattle.redo_words.specs.declared.lent.Lent.{Lent}
use Rattle.redo_words.specs.declared.lent.Lent.TheVariants as lending

pub write_live : {L : Type 0} (p : log.Part L) (t : ℕ) (l : Lent) → MayWriteLent p t l → p.failed ≡ None
write_live p t (lending.Blocks bytes firsts) may = may.live
write_live p t lending.Nothing may = absurd may
write_live p t (lending.Batch pages frames) may = absurd may

live_of : {L : Type 0} (p : log.Part L) (o : Op) (l : Lent) → CallsLog o → LogReady p l o → p.failed ≡ None
live_of p (op.WriteTo t) l calls may = write_live p t l may
live_of p op.Sync l calls may = may
live_of p (op.Checkpoint x) l calls may = may.0
live_of p (op.ReadBlock x) l calls may = may.live
live_of p _ l calls may = absurd calls

module _ {L D R : Type 0} {table : TableId} {seat : Seat (Slot L D) (View L D)} (old : Actor R) {o : Op}
    (may : MayPlay table seat (view_of old) o) (calls_log : CallsLog o) where
  abbrev a : model.Actor
  a = view_of old

  abbrev mine : Mine table seat a
  mine = may.seat.mine

  hands : (f : Filling) → (hand a ≡ Some 0)
      × ((met : Option DevError) (n : ℕ) → hand (took (filled a f) (call_answer Log met n)) ≡ Some 0)
  hands f = hand_of o calls_log (hand a) (λ r. hand (took (filled a f) r)) (stepping.goes mine o may.asks f)

  holds : hand a ≡ Some 0
  holds = (hands (block_filling [])).0

  abbrev own : Carries (Some 0) seat.me
  own = stepping.carried_log mine o may.asks holds

  -- the slot can be lent
  pub lends_slot : (seat.table_id ≡ table) × ((y : Slot L D) × (seat.me.1 ≡ (0, y) ∷ rest seat.me.1))
  lends_slot = (
    mine.of,
    (slot.Log own.0, own.1 ∙ ap (λ (z : List (ℕ × Slot L D)). (0, slot.Log own.0) ∷ rest z) (sym own.1)),
  )

  module _ (y : Slot L D) (here : seat.me.1 ≡ (0, y) ∷ rest seat.me.1) where
    is_log : ◌≡◌ {A = Slot L D} y (slot.Log own.0)
    is_log = sym (ap (λ (z : List (ℕ × Slot L D)). (get_or z 0 (0, y)).1) here)
        ∙ ap (λ (z : List (ℕ × Slot L D)). (get_or z 0 (0, y)).1) own.1

    -- its part may be called so
    pub may_call : (l : Lent) → Lends l (lent a) → (desk : Desk L) × (y ≡ slot.Log desk) × LogReady desk.part l o
    may_call l lends = (own.0, is_log, subst (LogReady own.0.part l) may.asks (mine.may.log own.0 own.2 holds l lends))

    -- it was called
    module _ {log_gives : L → Call → L → Type 0} (z : Slot L D) (ended : Result (Unit {0}) DevError)
        (Served : log.Part L → log.Part L → Type 0) (e : IsCalled log_gives y z ended Served) where
      abbrev p : Desk L
      p = e.was

      abbrev q : Desk L
      q = e.now

      abbrev f : Filling
      f = block_filling q.block

      -- the seat, which has the slot as the call left it
      abbrev pub having : Me (Slot L D) (View L D)
      having = (seat.me.0, (0, z) ∷ rest seat.me.1)

      had : ◌≡◌ {A = Desk L} p own.0
      had = kept.same_desk p own.0 (sym e.old_is ∙ is_log)

      bare : (0, z) ∷ rest seat.me.1 ≡ (0, slot.Log q) ∷ []
      bare = ap (λ (w : Slot L D). (0, w) ∷ rest seat.me.1) e.new_is
          ∙ ap (λ (w : List (ℕ × Slot L D)). (0, slot.Log q) ∷ rest w) own.1

      pub called_ok : (log_seen : L → Seen) (data_seen : D → Seen) (data_gives : D → Call → D → Type 0)
          (about : About L D) (l : Lent) → Lends l (lent a)
          → ((faults start : ℕ) (first : log.Part L) → LogServed (log_part.log_side log_seen faults first.marks.number
          (log_part.HasBegun log_seen start first)) p.part (lent (filled a f)) o (call_code Log q.part.failed) q.part)
          → (seat.table_id ≡ table) × (0 < table.words)
          × Allows (Ruled log_seen log_gives data_seen data_gives about) table.slots seat.id having 0 (λ n. n)
          (called log_seen data_seen having)
      called_ok log_seen data_seen data_gives about l lends served =
          let asks : next mine.who.actor ≡ o = ap next mine.state ∙ may.asks in
          let free : IsFreeToCheck mine.who.actor = subst IsFreeToCheck (sym mine.state) mine.may.free in
          let live : p.part.failed ≡ None = live_of p.part o l calls_log (subst (λ (w : Desk L). LogReady w.part l o)
          (sym had) (subst (LogReady own.0.part l) may.asks (mine.may.log own.0 own.2 holds l lends))) in
          let done : (run : RunOf L D) → LogServed (run_log_side log_seen data_seen run) p.part
          (lent (filled mine.who.actor f)) o (call_code Log q.part.failed) q.part = λ run.
          subst (λ (w : model.Actor). LogServed (run_log_side log_seen data_seen run) p.part (lent (filled w f)) o
          (call_code Log q.part.failed) q.part) (sym mine.state) (served (log_seen run.first_log.dev).faults
          (lsn run.setup.base) run.first_log) in
          let held : seat.me.0.held ≡ Some (slot.Log p) = own.2 ∙ ap (λ (w : Desk L). Some (slot.Log w)) (sym had) in (
            mine.of,
            (let w = mine.words in omega arith),
            allows_called log_seen log_gives data_seen data_gives about table.slots seat.id having mine.who mine.one
                mine.plain 0 o p q asks calls_log free held bare done e.calls live e.work,
          )

      module _ (log_seen : L → Seen) (data_seen : D → Seen) (after : Seat (Slot L D) (View L D)) (n : ℕ)
          (made : (after.table_id ≡ seat.table_id) × (after.id ≡ seat.id) × called log_seen data_seen having n after.me)
          (r : Answer) (r_is : r ≡ call_answer Log (error_of ended) (told_by o q.part.marks.stable)) where
        answers : r ≡ call_answer Log q.part.failed (told_by o q.part.marks.stable)
        answers = r_is ∙ ap (λ (met : Option DevError). call_answer Log met (told_by o q.part.marks.stable))
            (sym e.told)

        stepped : Stepped log_seen data_seen mine.who f r (Some (slot.Log q)) seat.me.0.data_part
            ((0, z) ∷ rest seat.me.1) having after.me
        stepped = subst (λ (w : Answer). Stepped log_seen data_seen mine.who f w (Some (slot.Log q))
            seat.me.0.data_part ((0, z) ∷ rest seat.me.1) having after.me)
            (ap (λ (j : Op). call_answer Log q.part.failed (told_by j q.part.marks.stable))
            (ap next mine.state ∙ may.asks) ∙ sym answers) (made.2 mine.who q mine.one bare)

        pub called_fits : AnswerFits a r × MarkFits a r
        called_fits = may_take log_seen data_seen mine.who a f r (Some (slot.Log q)) seat.me.0.data_part
            ((0, z) ∷ rest seat.me.1) having after.me mine.state stepped

        pub called_leaves : (stands : R → List Given → Type 0) (step : Step) (new : Actor R)
            → TookWith stands f old r step new → HasPlayedOp log_seen data_seen stands table seat old step after new
        called_leaves stands step new t =
            let still : hand (took (filled a f) r) ≡ Some 0 = ap (λ (w : Answer). hand (took (filled a f) w)) answers
            ∙ (hands f).1 q.part.failed (told_by o q.part.marks.stable) in
            (steps table log_seen data_seen stands seat mine.who old new step f r (Some (slot.Log q))
            seat.me.0.data_part ((0, z) ∷ rest seat.me.1) ((0, z) ∷ rest seat.me.1) after.me mine.slots mine.words
            mine.one mine.state mine.plain stepped t after (made.0 ∙ mine.of)
            (ap (λ (m : Me (Slot L D) (View L D)). m.0) stepped.is)
            (subst (λ (w : Option ℕ). Carries w after.me) (sym still) (
              q,
              ap (λ (m : Me (Slot L D) (View L D)). m.1) stepped.is ∙ bare,
              ap (λ (m : Me (Slot L D) (View L D)). m.0.held) stepped.is,
            ))
            made.1 may.seat refl).done

        -- into whoever doesn't read nothing is put
        pub plain_leaves : (stands : R → List Given → Type 0) (step : Step) (new : Actor R) → IsPlainOp o
            → HasTaken stands old r step new → HasPlayedOp log_seen data_seen stands table seat old step after new
        plain_leaves stands step new plain h = called_leaves stands step new
            (took_plain stands r step new f old o may.asks plain mine.may.free h)

  -- whoever doesn't read lends the same with whatever is put into it
  pub lends_same : (f : Filling) → IsPlainOp o → ◌≡◌ {A = model.Actor} (filled a f) a
  lends_same f plain = plain_filled a f mine.may.free (subst IsPlainOp (sym may.asks) plain)
