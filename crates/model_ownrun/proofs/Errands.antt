-- Who has the log's work in hand, after an Op.
use Rattle.std.proofs.Common.{Bool, List, ap, arith, false, inl, inr, length, refl, set, subst, sym, true, ℕ, ⊎_elim, ◌+◌, ◌∙◌, ◌≡◌, ◌≢◌, ◌≤◌, ◌⊎◌}
use lib.ListN.{get_elem?}
use mathlib.Core.Option.{some, some-injective}
use Rattle.model_core.proofs.Lists.{at_set, set_at, set_else}
use Rattle.model_core.specs.{Actor, Batch, Blocks, flusher_holds, holds, Lent, lent, Listed, LogServed, next, Nothing, Room, SharedWords, writer_holds, DataSide, LogSide, Setup}
use Rattle.model_core.specs.declared.ops.Op.{Op}
use Rattle.model_core.specs.declared.steps.FlusherStep.{FlusherStep}
use Rattle.model_core.specs.declared.steps.WriterStep.{WriterStep}
use Rattle.model_core.specs.declared.ops.Op.TheVariants as op
use Rattle.model_core.specs.declared.steps.AdvanceStep.TheVariants as advance_step
use Rattle.model_core.specs.declared.steps.FlusherStep.TheVariants as flusher_step
use Rattle.model_core.specs.declared.steps.WriterStep.TheVariants as writer_step
use Rattle.model_core.specs.States as actor
use Rattle.model_logcore.specs.LogFacts.{LogGhost}
use Rattle.model_logcore.specs.LogLaws.{LogLaws}
use Rattle.model_logcore.specs.Ready.{CanLend, Ready}
use Rattle.model_own.specs.{all_actors, LogWork, OwnUser, has_work}
use Rattle.model_own.specs.ErrandFits.{ErrandFits}
use Rattle.model_own.specs.declared.errand.ErrandStep.{ErrandStep}
use Rattle.model_own.specs.declared.errand.ErrandStep.TheVariants as errand_step
use Rattle.model_ownrun.proofs.Moves.{Runs}
use Rattle.model_ownrun.proofs.Seats.{flusher_seat, flusher_seat_is, flusher_there, writer_seat, writer_seat_is, writer_there}
use Rattle.model_ownrun.specs.OwnRunning.{Errands, FlushesAt, IsFlusherAtRest, IsWriterAtRest, NobodyAtWork, SomebodyAtWork, WorkAt, WorkFits, WritesAt}
use Rattle.model_pagecore.specs.DataLaws.{DataLaws}
use Rattle.model_running.proofs.BothReady.{log_ready}

module _ (D : LogSide) where
  -- a user on no errand, or that asks for the log part, has nothing in hand
  at_rest : (p : D.Part) (x : ErrandStep) (w : WriterStep) (f : FlusherStep) → has_work x ≡ false → WorkAt D p x w f
      → WorkAt D p errand_step.Done w f
  at_rest p errand_step.Done w f none z = z
  at_rest p errand_step.TakeDevice w f none z = z
  at_rest p _ w f none z = absurd (cc)

  -- with the log's work in hand, the flusher or the writer has the log part
  writes_held : (p : D.Part) (w : WriterStep) (f : FlusherStep) → WritesAt D p w f
      → (flusher_holds f ≡ true) ⊎ (writer_holds w ≡ true)
  writes_held p (writer_step.Advance v) f z = inl (ap flusher_holds z.0)
  writes_held p writer_step.LoadCheckpoint f z = inl (ap flusher_holds z.0)
  writes_held p writer_step.LoadFirst f z = inl (ap flusher_holds z.0)
  writes_held p writer_step.ClearFirst f z = inl (ap flusher_holds z.0)
  writes_held p writer_step.LoadCell f z = inl (ap flusher_holds z.0)
  writes_held p writer_step.ClearCell f z = inl (ap flusher_holds z.0)
  writes_held p writer_step.WriteTo f z = inr refl
  writes_held p writer_step.StoreWrite f z = inr refl
  writes_held p writer_step.StoreFailed f z = inr refl
  writes_held p writer_step.GiveFailed f z = inr refl
  writes_held p _ f z = absurd z

  flushes_held : (p : D.Part) (f : FlusherStep) → FlushesAt D p f → flusher_holds f ≡ true
  flushes_held p flusher_step.Sync z = refl
  flushes_held p flusher_step.StoreFlushed z = refl
  flushes_held p flusher_step.GiveDevice z = refl
  flushes_held p flusher_step.StoreFailed z = refl
  flushes_held p flusher_step.GiveFailed z = refl
  flushes_held p _ z = absurd z

  work_held : (p : D.Part) (x : ErrandStep) (w : WriterStep) (f : FlusherStep) → has_work x ≡ true → WorkAt D p x w f
      → (flusher_holds f ≡ true) ⊎ (writer_holds w ≡ true)
  work_held p errand_step.GiveBroken w f some_work z = inl (ap flusher_holds z.1)
  work_held p errand_step.Write w f some_work z = writes_held p w f z
  work_held p errand_step.Flush w f some_work z = inl (flushes_held p f z.1)
  work_held p _ w f some_work z = absurd (cc)

  module _ (p : D.Part) (users : List OwnUser) (k : LogWork) (errands : Errands D p users k) where
    -- the user that has it in hand is this one, and no other
    pub in_hand : (i : ℕ) (o : OwnUser) → get_elem? users i ≡ some o → has_work o.errand ≡ true
        → WorkFits D p o.errand k
    in_hand i o at has = ⊎_elim nobody somebody errands.work
      where
        nobody : NobodyAtWork D p users k → WorkFits D p o.errand k
        nobody z = let n : true ≡ false = sym has ∙ z.0 i o at in absurd (cc)

        somebody : SomebodyAtWork D p users k → WorkFits D p o.errand k
        somebody (j, x, there, busy, work) =
            let same : j ≡ i = errands.alone j i x o there at busy has in
            let here : get_elem? users j ≡ some o = subst (λ (n : ℕ). get_elem? users n ≡ some o) (sym same) at in
            subst (λ (y : OwnUser). WorkFits D p y.errand k) (some-injective x o (sym there ∙ here)) work

    pub others_have_none : (i : ℕ) (o : OwnUser) → get_elem? users i ≡ some o → has_work o.errand ≡ true
        → (j : ℕ) (x : OwnUser) → j ≢ i → get_elem? users j ≡ some x → has_work x.errand ≡ false
    others_have_none i o at has j x ne there = by (has_work x.errand) refl
      where
        by : (b : Bool) → has_work x.errand ≡ b → has_work x.errand ≡ false
        by true z = absurd (ne (errands.alone j i x o there at z has))
        by false z = z

    module _ (i : ℕ) (o : OwnUser) (at : get_elem? users i ≡ some o) (q : D.Part) (x : OwnUser)
        (fits : ErrandFits x.user x.errand) where
      abbrev now : List OwnUser
      now = set users i x

      abbrev OneAtWork : List OwnUser → Type 0
      OneAtWork us = (a b : ℕ) (y z : OwnUser) → get_elem? us a ≡ some y → get_elem? us b ≡ some z
          → has_work y.errand ≡ true → has_work z.errand ≡ true → a ≡ b

      all_fit : (j : ℕ) (y : OwnUser) → get_elem? now j ≡ some y → ErrandFits y.user y.errand
      all_fit j y e = ⊎_elim
          (λ t. subst (λ (z : OwnUser). ErrandFits z.user z.errand) t.1 fits)
          (λ t. errands.fits j y t.1)
          (at_set users i j x y e)

      all_idle : has_work x.errand ≡ false
          → ((j : ℕ) (y : OwnUser) → j ≢ i → get_elem? users j ≡ some y → has_work y.errand ≡ false)
          → (j : ℕ) (y : OwnUser) → get_elem? now j ≡ some y → has_work y.errand ≡ false
      all_idle this none j y e = ⊎_elim
          (λ t. ap (λ (v : OwnUser). has_work v.errand) (sym t.1) ∙ this)
          (λ t. none j y t.0 t.1)
          (at_set users i j x y e)

      -- this user's Op was one of the log's work, which is in its hand or in the slot
      pub mine : ((j : ℕ) (y : OwnUser) → j ≢ i → get_elem? users j ≡ some y → has_work y.errand ≡ false)
          → (k' : LogWork) → WorkFits D q x.errand k' → Errands D q now k'
      mine none k' work = record { fits = all_fit; alone = one; work = by (has_work x.errand) refl }
        where
          is_mine : (j : ℕ) (y : OwnUser) → get_elem? now j ≡ some y → has_work y.errand ≡ true → j ≡ i
          is_mine j y e has = ⊎_elim (λ t. t.0)
              (λ t. let n : true ≡ false = sym has ∙ none j y t.0 t.1 in absurd (cc))
              (at_set users i j x y e)

          one : OneAtWork now
          one a b y z ya zb hy hz = is_mine a y ya hy ∙ sym (is_mine b z zb hz)

          by : (b : Bool) → has_work x.errand ≡ b → NobodyAtWork D q now k' ⊎ SomebodyAtWork D q now k'
          by true z = inr (i, x, set_at users i o x at, z, work)
          by false z = inl (
            all_idle z none,
            record {
              writer_goes_on = work.writer_goes_on;
              flusher_goes_on = work.flusher_goes_on;
              step = at_rest q x.errand k'.writer.step k'.flusher.step z work.step;
            },
          )

      -- it was none, and the work stays where it was
      pub aside : has_work o.errand ≡ false → has_work x.errand ≡ false → ◌≡◌ {A = D.Part} q p → Errands D q now k
      aside before after v =
          subst (λ (r : D.Part). Errands D r now k) (sym v)
          (record { fits = all_fit; alone = one; work = ⊎_elim idle busy errands.work })
        where
          older : (j : ℕ) (y : OwnUser) → get_elem? now j ≡ some y → has_work y.errand ≡ true
              → get_elem? users j ≡ some y
          older j y e has = ⊎_elim
              (λ t. let n : true ≡ false = sym has ∙ ap (λ (v : OwnUser). has_work v.errand) (sym t.1) ∙ after in
              absurd (cc))
              (λ t. t.1)
              (at_set users i j x y e)

          one : OneAtWork now
          one a b y z ya zb hy hz = errands.alone a b y z (older a y ya hy) (older b z zb hz) hy hz

          idle : NobodyAtWork D p users k → NobodyAtWork D p now k ⊎ SomebodyAtWork D p now k
          idle z = inl (all_idle after (λ j y ne there. z.0 j y there), z.1)

          busy : SomebodyAtWork D p users k → NobodyAtWork D p now k ⊎ SomebodyAtWork D p now k
          busy (j, y, there, has, work) = inr (j, y, set_else users i j x ne ∙ there, has, work)
            where
              ne : j ≢ i
              ne e =
                  let here : get_elem? users j ≡ some o = subst (λ (n : ℕ). get_elem? users n ≡ some o) (sym e) at in
                  let same : ◌≡◌ {A = OwnUser} y o = some-injective y o (sym there ∙ here) in
                  let n : true ≡ false = sym has ∙ ap (λ (v : OwnUser). has_work v.errand) same ∙ before in absurd (cc)

-- A call of the log part is made by whoever has it, and the part hasn't failed.
lends_sound : (D : LogSide) (c : Setup) (g : LogGhost) (p : D.Part) (a : Actor) (l : Lent) (t : ℕ)
    → CanLend D c g p a l t
    → D.failed p ≡ false
lends_sound D c g p a (Blocks x y) t z = z.1.sound
lends_sound D c g p a Nothing t z = absurd z
lends_sound D c g p a (Batch b) t z = absurd z
lends_sound D c g p a (Room b) t z = absurd z

called_by : (D : LogSide) (c : Setup) (g : LogGhost) (p q : D.Part) (a : Actor) (l : Lent) (code : ℕ) (o : Op)
    → Ready D c g p a o → LogServed D p l o code q → (◌≡◌ {A = D.Part} q p) ⊎ ((holds a ≡ true) × (D.failed p ≡ false))
called_by D c g p q a l code (op.WriteTo t) r v = inr (r.0, lends_sound D c g p a (lent a) t r.1)
called_by D c g p q a l code op.Sync r v = inr r
called_by D c g p q a l code (op.ReadBlock b) r v = inr r
called_by D c g p q a l code (op.Checkpoint x) r v = inr (r.0, r.1.sound)
called_by D c g p q a l code _ r v = inl v

module _ (D : LogSide) (L : LogLaws D) (E : DataSide) (EL : DataLaws E) (c : Setup) (m : SharedWords)
    (ls : ℕ → List Listed) (p : D.Part) (d : E.Part) (users : List OwnUser) (k : LogWork) (others : List Actor)
    (runs : Runs D E c m ls p d (all_actors users k others)) (errands : Errands D p users k) where
  -- whoever has the log part, the turn word and the holder's seat say so
  has_flusher : flusher_holds k.flusher.step ≡ true → (m.device ≡ 1) × (runs.0.holder ≡ flusher_seat users)
  has_flusher h =
      let t = runs.2.logged.turns (flusher_seat users) (actor.Flusher k.flusher) (flusher_there users k others) h in
      (t.0, sym t.1)

  has_writer : writer_holds k.writer.step ≡ true → (m.device ≡ 1) × (runs.0.holder ≡ writer_seat users)
  has_writer h =
      let t = runs.2.logged.turns (writer_seat users) (actor.Writer k.writer) (writer_there users k others) h in
      (t.0, sym t.1)

  -- with the log's work in hand no other seat has the log part
  work_alone : (x : ErrandStep) → has_work x ≡ true → WorkFits D p x k → (seat : ℕ) (a : Actor)
      → get_elem? (all_actors users k others) seat ≡ some a → holds a ≡ true
      → (seat ≡ writer_seat users) ⊎ (seat ≡ flusher_seat users)
  work_alone x has work seat a at h = ⊎_elim
      (λ f. inr ((runs.2.logged.turns seat a at h).1 ∙ (has_flusher f).1))
      (λ w. inl ((runs.2.logged.turns seat a at h).1 ∙ (has_writer w).1))
      (work_held D p x k.writer.step k.flusher.step has work.step)

  -- where the word of DEVICE is 0 nobody has it in hand
  pub nobody_has : m.device ≡ 0 → NobodyAtWork D p users k
  nobody_has free = ⊎_elim (λ z. z) (λ z. absurd (somebody z)) errands.work
    where
      somebody : SomebodyAtWork D p users k → ⊥
      somebody (j, x, there, has, work) = ⊎_elim
          (λ f. let one = (has_flusher f).0 in omega arith)
          (λ w. let one = (has_writer w).0 in omega arith)
          (work_held D p x.errand k.writer.step k.flusher.step has work.step)

  -- The turn of an actor after the users leaves the log's work where it is, and as it is.
  pub other_keeps : (seat : ℕ) (a : Actor) → get_elem? (all_actors users k others) seat ≡ some a
      → length users + 2 ≤ seat
      → (l : Lent) (code : ℕ) (q : D.Part) → LogServed D p l (next a) code q → Errands D q users k
  other_keeps seat a at after l code q served =
      let ready = log_ready D L E EL c m runs.0 runs.1 ls p d (all_actors users k others) seat runs.2 a at in
      ⊎_elim (λ v. subst (λ (r : D.Part). Errands D r users k) (sym v) errands) called
      (called_by D c runs.0 p q a l code (next a) ready served)
    where
      apart : (seat ≡ writer_seat users) ⊎ (seat ≡ flusher_seat users) → ⊥
      apart z = let w = writer_seat_is users in let f = flusher_seat_is users in
          ⊎_elim (λ e. omega arith) (λ e. omega arith) z

      writer_rests : D.failed p ≡ false → (w : WriterStep) → IsWriterAtRest D p w → IsWriterAtRest D q w
      writer_rests sound (writer_step.Advance advance_step.LoadTail) z = tt
      writer_rests sound writer_step.Failed z = let n : true ≡ false = sym z ∙ sound in absurd (cc)
      writer_rests sound (writer_step.Advance advance_step.TakeTail) z = absurd z
      writer_rests sound (writer_step.Advance advance_step.LoadLink) z = absurd z
      writer_rests sound (writer_step.Advance advance_step.ClearLink) z = absurd z
      writer_rests sound (writer_step.Advance advance_step.FreeTail) z = absurd z
      writer_rests sound _ z = absurd z

      flusher_rests : D.failed p ≡ false → (f : FlusherStep) → IsFlusherAtRest D p f → IsFlusherAtRest D q f
      flusher_rests sound flusher_step.LoadWrite z = tt
      flusher_rests sound flusher_step.Failed z = let n : true ≡ false = sym z ∙ sound in absurd (cc)
      flusher_rests sound _ z = absurd z

      idle : D.failed p ≡ false → NobodyAtWork D p users k → Errands D q users k
      idle sound z = record {
        fits = errands.fits;
        alone = errands.alone;
        work = inl (
          z.0,
          record {
            writer_goes_on = z.1.writer_goes_on;
            flusher_goes_on = z.1.flusher_goes_on;
            step = (writer_rests sound k.writer.step z.1.step.0, flusher_rests sound k.flusher.step z.1.step.1);
          },
        );
      }

      called : (holds a ≡ true) × (D.failed p ≡ false) → Errands D q users k
      called (has, sound) = ⊎_elim (idle sound)
          (λ z. absurd (apart (work_alone z.1.errand z.3 z.4 seat a at has)))
          errands.work
