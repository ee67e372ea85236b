-- What a call of the data part asks and leaves.
use Rattle.std.proofs.Common.{List, None, Option, Some, [], ap, arith, false, get_or, subst, sym, true, ℕ, ◌<◌, ◌∙◌, ◌∷◌, ◌≡◌}
use Rattle.atomic_table.specs.Seated.{TableId}
use Rattle.atomic_table.specs.Table.{Allows, Me, rest}
use Rattle.atomic_table.specs.declared.shared.Seat.{Seat}
use Rattle.model_base.specs.declared.shape.Shape.{Shape}
use Rattle.model_core.specs.{DataServed, filled, Given, KeptPage, lent, next, word_count, AnswerFits, IsFreeToCheck}
use Rattle.model_core.specs.States as model
use Rattle.model_core.specs.declared.ops.Answer.{Answer}
use Rattle.model_core.specs.declared.ops.Op.{Op}
use Rattle.model_core.specs.declared.ops.Op.TheVariants as op
use Rattle.model_core.specs.declared.ops.Step.{Step}
use Rattle.redo_drive.specs.DataPartSide as data_part
use Rattle.redo_disk.specs.{Call, EndWith, MakesCalls, Seen}
use Rattle.redo_drive.specs.{call_code, call_answer, DataReady, HasWholePages, MayBatchLent, run_data_side, RunOf, HasTaken, MarkFits, view_of}
use Rattle.redo_drive.specs.declared.actor.Actor.{Actor}
use Rattle.redo_drive.specs.declared.device.Device.TheVariants.{Data}
use Rattle.redo_rule.proofs.AllowedCalls.{allows_batched, allows_reach}
use Rattle.redo_rule.proofs.Behind.{batch_behind, batch_cleaner}
use Rattle.redo_rule.proofs.Filled.{IsPlainOp, plain_filled}
use Rattle.redo_rule.proofs.Kept as kept
use Rattle.redo_rule.proofs.Stepping as stepping
use Rattle.redo_rule.proofs.Took.{leaves, may_take, took_plain}
use Rattle.redo_rule.specs.Mine.{HasPlayed, IsSameSeat}
use Rattle.redo_rule.specs.Ops.{HasPlayedOp}
use Rattle.redo_rule.specs.Plays.{batched, Carries, no_filling, reached, Stepped, view_reaching}
use Rattle.redo_rule.specs.Ruled.{Ruled}
use Rattle.redo_rule.specs.declared.law.About.{About}
use Rattle.redo_rule.specs.Seating.{HasPart, IsSeatOf}
use Rattle.redo_rule.specs.Slots.{IsData}
use Rattle.redo_rule.specs.declared.law.Slot.{Slot}
use Rattle.redo_rule.specs.declared.law.Slot.TheVariants as slot
use Rattle.redo_rule.specs.declared.law.View.{View}
use Rattle.redo_store.specs.Part as store
use Rattle.redo_words.specs.{Lends}
use Rattle.redo_words.specs.declared.lent.Lent.{Lent}
use Rattle.redo_words.specs.declared.lent.Lent.TheVariants as lending

live_of : {D : Type 0} (d : store.Part D) (l : Lent) → MayBatchLent d l → d.failed ≡ None
live_of d (lending.Batch pages frames) may = may.0
live_of d lending.Nothing may = absurd may
live_of d (lending.Blocks bytes firsts) may = absurd may

module _ {L D R : Type 0} {table : TableId} {seat : Seat (Slot L D) (View L D)} (old : Actor R)
    (was : IsSeatOf table seat (view_of old)) (is : next (view_of old) ≡ op.WriteBatch) where
  abbrev a : model.Actor
  a = view_of old

  -- the cleaner's seat keeps the data part
  abbrev pub part : HasPart seat.me.0
  part = was.cleaner (batch_cleaner a is)

  abbrev pub d : store.Part D
  d = part.0

  abbrev has : seat.me.0.data_part ≡ Some (record { part = d; out = false })
  has = part.1

  -- the seat that has reached for the data part
  abbrev pub reaching : Me (Slot L D) (View L D)
  reaching = (view_reaching seat.me.0 d, (5, slot.Data d) ∷ seat.me.1)

  pub reach_ok : (log_seen : L → Seen) (log_gives : L → Call → L → Type 0) (data_seen : D → Seen) (data_gives : D → Call → D → Type 0) (about : About L D)
      → (seat.table_id ≡ table) × (0 < table.words) × Allows (Ruled log_seen log_gives data_seen data_gives about) table.slots seat.id seat.me 0 (λ n. n) (reached seat.me)
  reach_ok log_seen log_gives data_seen data_gives about = (
    was.mine.of,
    (let w = was.mine.words in omega arith),
    allows_reach log_seen log_gives data_seen data_gives about
        table.slots seat.id seat.me was.mine.who was.mine.one was.mine.plain 0 d has,
  )

  none : seat.me.1 ≡ []
  none = let g = stepping.goes was.mine op.WriteBatch is no_filling in subst (λ (h : Option ℕ). Carries h
      seat.me) g.0 was.mine.carries

  pub may_batch : (l : Lent) → Lends l (lent a) → MayBatchLent d l
  may_batch l lends = subst (DataReady d l) is (was.mine.may.data_part (record { part = d; out = false }) has l lends)

  module _ (out : Seat (Slot L D) (View L D)) (n : ℕ)
      (made : (out.table_id ≡ seat.table_id) × (out.id ≡ seat.id) × reached seat.me n out.me) where
    out_is : out.me ≡ reaching
    out_is = made.2 d has

    carries_part : out.me.1 ≡ (5, slot.Data d) ∷ []
    carries_part = ap (λ (m : Me (Slot L D) (View L D)). m.1) out_is ∙ ap (λ (z : List (ℕ × Slot L D)). (5, slot.Data d) ∷ z) none

    -- its slot can be lent
    pub lends_part : (out.table_id ≡ table) × ((y : Slot L D) × (out.me.1 ≡ (5, y) ∷ rest out.me.1))
    lends_part = (
      made.0 ∙ was.mine.of,
      (
        slot.Data d,
        carries_part ∙ ap (λ (z : List (ℕ × Slot L D)).
            (5, slot.Data d) ∷ rest z) (sym carries_part),
      ),
    )

    module _ (y : Slot L D) (here : out.me.1 ≡ (5, y) ∷ rest out.me.1) where
      pub is_data : ◌≡◌ {A = Slot L D} y (slot.Data d)
      is_data = sym (ap (λ (z : List (ℕ × Slot L D)). (get_or z 0 (5, y)).1) here) ∙ ap (λ (z : List (ℕ × Slot L D)). (get_or z 0 (5, y)).1) carries_part

      pub may_call : (l : Lent) → Lends l (lent a) → IsData y (λ p. MayBatchLent p l)
      may_call l lends = (d, is_data, may_batch l lends)

      module _ (z : Slot L D) (p e : store.Part D) (y_is : y ≡ slot.Data p) (z_is : z ≡ slot.Data e) where
        had : ◌≡◌ {A = store.Part D} p d
        had = kept.same_data p d (sym y_is ∙ is_data)

        bare : (5, z) ∷ rest out.me.1 ≡ (5, slot.Data e) ∷ []
        bare = ap (λ (w : Slot L D). (5, w) ∷ rest out.me.1) z_is ∙ ap (λ (w : List (ℕ × Slot L D)). (5, slot.Data e) ∷ rest w) carries_part

        abbrev Served : (D → Seen) → Lent → Type 0
        Served data_seen l = (faults : ℕ) (shape : Shape) (opened : ℕ → KeptPage) (first : store.Part D) (ml : model.Lent) → Lends l ml → HasWholePages p.shape op.WriteBatch ml → DataServed (data_part.data_side data_seen faults shape (data_part.HasBegun data_seen opened first)) p ml op.WriteBatch (call_code Data e.failed) e

        whole : HasWholePages p.shape op.WriteBatch (lent a)
        whole = subst (λ (o : Op). HasWholePages p.shape o (lent a)) is
            (subst (λ (w : store.Part D). HasWholePages w.shape (next a) (lent a)) (sym had) (was.mine.may.whole
            (record { part = d; out = false }) has))

        may_p : (l : Lent) → Lends l (lent a) → MayBatchLent p l
        may_p l lends = subst (λ (w : store.Part D). MayBatchLent w l) (sym had) (may_batch l lends)

        pub batched_ok : (log_seen : L → Seen) (log_gives : L → Call → L → Type 0) (data_seen : D → Seen) (data_gives : D → Call → D → Type 0) (about : About L D) (l : Lent) → Lends l (lent a) → Served data_seen l
            → MakesCalls data_gives p.dev e.dev (EndWith e.failed)
            → (out.table_id ≡ table) × (0 < table.words) × Allows (Ruled log_seen log_gives data_seen data_gives about) table.slots out.id (out.me.0, (5, z) ∷ rest out.me.1) 0 (λ n. n) (batched log_seen data_seen (out.me.0, (5, z) ∷ rest out.me.1))
        batched_ok log_seen log_gives data_seen data_gives about l lends served calls =
            let asks : next was.mine.who.actor ≡ op.WriteBatch = ap next was.mine.state ∙ is in
            let free : IsFreeToCheck was.mine.who.actor = subst IsFreeToCheck (sym was.mine.state) was.mine.may.free in
            let done : (run : RunOf L D) → DataServed (run_data_side log_seen data_seen run) p (lent (filled
            was.mine.who.actor no_filling)) op.WriteBatch (call_code Data e.failed) e = λ run.
            subst (λ (w : model.Actor). DataServed (run_data_side log_seen data_seen run) p (lent (filled w
            no_filling)) op.WriteBatch (call_code Data e.failed) e) (sym was.mine.state)
            (subst (λ (w : model.Actor). DataServed (run_data_side log_seen data_seen run) p (lent w) op.WriteBatch
            (call_code Data e.failed) e) (sym (plain_filled a no_filling was.mine.may.free (subst IsPlainOp (sym is)
            tt)))
            (served (data_seen run.first_data.dev).faults run.shape run.setup.opened run.first_data (lent a) lends
            whole)) in
            let one : out.me.0.seats ≡ was.mine.who ∷ [] = ap (λ (m : Me (Slot L D) (View L D)). m.0.seats) out_is
            ∙ was.mine.one in
            let keeps : out.me.0.data_part ≡ Some (record { part = p; out = true }) = ap (λ (m : Me (Slot L D)
            (View L D)). m.0.data_part) out_is ∙ ap (λ (w : store.Part D). Some (record { part = w; out = true }))
            (sym had) in (
              made.0 ∙ was.mine.of,
              (let w = was.mine.words in omega arith),
              allows_batched log_seen log_gives data_seen data_gives about table.slots out.id (
                out.me.0,
                (5, z) ∷ rest out.me.1,
              ) was.mine.who one was.mine.plain 0 p e asks free keeps bare done calls
                  (live_of p l (may_p l lends)),
            )

        module _ (log_seen : L → Seen) (data_seen : D → Seen) (after : Seat (Slot L D) (View L D)) (m : ℕ)
            (back : (after.table_id ≡ out.table_id) × (after.id ≡ out.id) × batched log_seen data_seen (
              out.me.0,
              (5, z) ∷ rest out.me.1,
            ) m after.me)
            (r : Answer) (r_is : r ≡ call_answer Data e.failed 0) where
          stepped : Stepped log_seen data_seen was.mine.who no_filling r out.me.0.held (Some (record {
            part = e;
            out =
                false;
          })) (rest out.me.1) (out.me.0, (5, z) ∷ rest out.me.1) after.me
          stepped = subst (λ (w : Answer). Stepped log_seen data_seen was.mine.who no_filling w out.me.0.held (Some
              (record { part = e; out = false })) (rest out.me.1) (out.me.0, (5, z) ∷ rest out.me.1) after.me) (sym
              r_is)
              (back.2 was.mine.who e (ap (λ (w : Me (Slot L D) (View L D)). w.0.seats) out_is ∙ was.mine.one) bare)

          pub batched_fits : AnswerFits a r × MarkFits a r
          batched_fits = may_take log_seen data_seen was.mine.who a no_filling r out.me.0.held
              (Some (record { part = e; out = false })) (rest out.me.1) (out.me.0, (5, z) ∷ rest out.me.1) after.me
              was.mine.state
              stepped

          keeps_part : HasPart after.me.0
          keeps_part = (e, ap (λ (w : Me (Slot L D) (View L D)). w.0.data_part) stepped.is)

          module _ (stands : R → List Given → Type 0) (step : Step) (new : Actor R) (h : HasTaken stands old r step
              new) where
            left : HasPlayedOp log_seen data_seen stands table out old step after new
            left =
                let g = stepping.goes was.mine op.WriteBatch is no_filling in
                let one : out.me.0.seats ≡ was.mine.who ∷ [] = ap (λ (w : Me (Slot L D) (View L D)). w.0.seats) out_is ∙
                was.mine.one in
                let layout : out.me.0.layout ≡ seat.me.0.layout = ap (λ (w : Me (Slot L D) (View L D)). w.0.layout) out_is
                in
                leaves table log_seen data_seen stands out was.mine.who old new step no_filling r out.me.0.held
                (Some (record { part = e; out = false })) (rest out.me.1)
                ((5, z) ∷ rest out.me.1) after.me was.mine.slots
                (was.mine.words ∙ ap word_count (sym layout)) one was.mine.state was.mine.plain stepped
                (took_plain stands r step new no_filling old op.WriteBatch is tt was.mine.may.free h) after
                (back.0 ∙ made.0 ∙ was.mine.of) (ap (λ (w : Me (Slot L D) (View L D)). w.0) stepped.is)
                (subst (λ (w : Option ℕ). Carries w after.me) (sym (g.1 r))
                (ap (λ (w : Me (Slot L D) (View L D)). w.1) stepped.is ∙ ap rest carries_part)) back.1
                (λ mine. batch_behind table after (view_of new) mine keeps_part)

            -- what it leaves of its actor and of the seat that reached for the data part
            pub batched_leaves : HasPlayedOp log_seen data_seen stands table seat old step after new
            batched_leaves = record {
              id = back.1 ∙ made.1;
              seat = left.seat;
              same = still (subst (λ (w : Me (Slot L D) (View L D)). IsSameSeat stands w.0 old after.me.0 new) out_is
                  left.same);
              played = turn (subst (λ (w : Me (Slot L D) (View L D)). HasPlayed log_seen data_seen w.0
                  (view_of old) step
                  (view_of new)) out_is left.played);
            }
              where
                still : IsSameSeat stands (view_reaching seat.me.0 d) old after.me.0 new
                    → IsSameSeat stands seat.me.0 old after.me.0 new
                still l = record {
                  about = l.about;
                  number = l.number;
                  layout = l.layout;
                  same = l.same;
                  since = l.since;
                  heard = l.heard;
                  appended = l.appended;
                  blocks = l.blocks;
                  got = l.got;
                  reads = l.reads;
                }

                turn : HasPlayed log_seen data_seen (view_reaching seat.me.0 d) (view_of old) step (view_of new)
                    → HasPlayed log_seen data_seen seat.me.0 (view_of old) step (view_of new)
                turn l = record { answer = l.answer; shown = l.shown; is = l.is; ends = l.ends }
