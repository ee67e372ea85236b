-- What an actor's Op leaves of the log part: the part as it was, or what the law of the call says.
use Rattle.std.proofs.Common.{Bool, List, ap, arith, cond, false, refl, subst, true, ℕ, ◌≡◌, ◌≤◌}
use lib.ListN.{get_elem?}
use mathlib.Core.Option.{some}
use Rattle.model_core.specs.{Actor, Batch, Blocks, checkpointer_op, CheckpointerState, cleaner_op, CleanerState, closer_op, CloserState, flusher_op, FlusherState, Lent, lent, Listed, LogServed, lsn, next, next_block, Nothing, reader_op, ReaderState, SharedWords, user_op, UserState, writer_op, WriterState, Room, DataSide, LogSide, Setup}
use Rattle.model_core.specs.declared.ops.Op.{Op}
use Rattle.model_core.specs.declared.steps.CheckpointerStep.{CheckpointerStep}
use Rattle.model_core.specs.declared.steps.CleanerStep.{CleanerStep}
use Rattle.model_core.specs.declared.steps.CloserStep.{CloserStep}
use Rattle.model_core.specs.declared.steps.FlusherStep.{FlusherStep}
use Rattle.model_core.specs.declared.steps.ReaderStep.{ReaderStep}
use Rattle.model_core.specs.declared.steps.UserStep.{UserStep}
use Rattle.model_core.specs.declared.steps.WriterStep.{WriterStep}
use Rattle.model_logcore.proofs.DeviceSteps.{can_write}
use Rattle.model_logcore.specs.{LogGhost}
use Rattle.model_logcore.specs.LogLaws.{AfterCheckpoint, AfterRead, AfterSync, AfterWrite, LogLaws}
use Rattle.model_pagecore.specs.DataLaws.{DataLaws}
use Rattle.model_pagecore.specs.{PageGhost}
use Rattle.model_running.proofs.CallConditions.{can_checkpoint}
use Rattle.model_running.specs.Watermarks.{BothHalves}
use Rattle.model_core.specs.declared.steps.AdvanceStep.TheVariants as advance_step
use Rattle.model_core.specs.States as actor
use Rattle.model_core.specs.declared.ops.Op.TheVariants as op
use Rattle.model_core.specs.declared.steps.CheckpointerStep.TheVariants as checkpointer_step
use Rattle.model_core.specs.declared.steps.CleanerStep.TheVariants as cleaner_step
use Rattle.model_core.specs.declared.steps.CloserStep.TheVariants as closer_step
use Rattle.model_core.specs.declared.steps.FlusherStep.TheVariants as flusher_step
use Rattle.model_core.specs.declared.steps.ReaderStep.TheVariants as reader_step
use Rattle.model_core.specs.declared.steps.UserStep.TheVariants as user_step
use Rattle.model_core.specs.declared.steps.WriterStep.TheVariants as writer_step
use Rattle.model_core.specs.declared.words.Word.TheVariants as word
use Rattle.model_logcore.specs.LogFits as marks

module _ (D : LogSide) (L : LogLaws D) (E : DataSide) (EL : DataLaws E) (c : Setup) (m : SharedWords)
    (g : LogGhost) (h : PageGhost) (ls : ℕ → List Listed) (p : D.Part) (d : E.Part) (actors : List Actor) (seat : ℕ)
    (both : BothHalves D E c m g h ls p d actors) (code : ℕ) (q : D.Part) where
  -- something that each of these gives
  module _ (Then : Type 0) (still : ◌≡◌ {A = D.Part} q p → Then)
      (wrote : (t : ℕ) → AfterWrite D c.blocks c.base g.log t code p q → Then)
      (synced : AfterSync D c.blocks c.base g.log code p q → Then)
      (taken : (t : CheckpointerState) → get_elem? actors seat ≡ some (actor.Checkpointer t)
      → t.step ≡ checkpointer_step.Checkpoint → AfterCheckpoint D c.blocks c.base g.log t.to code p q → Then)
      (read : AfterRead D c.blocks c.base g.log code p q → Then) where
    by_user : (u : UserState) (f : UserStep) → LogServed D p Nothing (user_op u f) code q → Then
    by_user u (user_step.AdvanceWritten advance_step.LoadTail) w = still w
    by_user u (user_step.AdvanceClosed advance_step.LoadTail) w = still w
    by_user u _ w = still w

    by_writer : (s : WriterState) → get_elem? actors seat ≡ some (actor.Writer s) → (f : WriterStep)
        → marks.WriterAt D c m g p seat s f → LogServed D p (Blocks s.kept s.firsts) (writer_op s f) code q → Then
    by_writer s at writer_step.WriteTo k w =
        let S : marks.WriterFits D c m g p seat s = both.logged.each seat (actor.Writer s) at in
        wrote (lsn g.target) (L.writes c.blocks c.base g.log g.write g.target code s.kept s.firsts p q
        both.logged.global.part.holds (can_write D L c m g p actors seat s both.logged at k)
        (subst (λ (t : ℕ). D.Wrote t s.kept s.firsts code p q) S.tail w))
    by_writer s at (writer_step.Advance advance_step.LoadTail) k w = still w
    by_writer s at _ k w = still w

    by_flusher : (t : FlusherState) (f : FlusherStep) → marks.FlusherAt D c m g p t f
        → LogServed D p Nothing (flusher_op t f) code q → Then
    by_flusher t flusher_step.Sync k w =
        synced (L.syncs c.blocks c.base g.log code p q both.logged.global.part.holds k w)
    by_flusher t flusher_step.LoadWrite k w = still w
    by_flusher t _ k w = still w

    by_reader : (t : ReaderState) (f : ReaderStep) → marks.ReaderAt D c m g p t f
        → LogServed D p (Room t.block) (reader_op t f) code q → Then
    by_reader t reader_step.ReadBlock k w =
        read (L.reads c.blocks c.base g.log (next_block t) code t.block p q both.logged.global.part.holds k w)
    by_reader t reader_step.LoadFlushed k w = still w
    by_reader t _ k w = still w

    by_closer : (t : CloserState) (f : CloserStep) → LogServed D p Nothing (closer_op t f) code q → Then
    by_closer t (closer_step.Advance advance_step.LoadTail) w = still w
    by_closer t _ w = still w

    by_cleaner : (v : CleanerState) (f : CleanerStep) → LogServed D p (Batch v.batch) (cleaner_op v f) code q → Then
    by_cleaner v cleaner_step.LoadFlushed w = still w
    by_cleaner v _ w = still w

    by_checkpointer : (t : CheckpointerState) → get_elem? actors seat ≡ some (actor.Checkpointer t)
        → (f : CheckpointerStep) → t.step ≡ f → LogServed D p Nothing (checkpointer_op t f) code q → Then
    by_checkpointer t at checkpointer_step.Checkpoint is w =
        taken t at is (L.checkpoints c.blocks c.base g.log t.to code p q both.logged.global.part.holds
        (can_checkpoint D L E EL c m g h ls p d actors seat both t at is) w)
    by_checkpointer t at checkpointer_step.LoadCtail is w = still w
    by_checkpointer t at _ is w = still w

    checking : (l : Lent) (b : Bool) (o : Op) → (LogServed D p l o code q → Then)
        → LogServed D p l (cond b (op.Load word.Failed) o) code q → Then
    checking l true o so w = still w
    checking l false o so w = so w

    -- whatever the actor's next Op is
    pub after_call : (a : Actor) → get_elem? actors seat ≡ some a → LogServed D p (lent a) (next a) code q → Then
    after_call (actor.User u) at w = checking Nothing u.checks (user_op u u.step) (by_user u u.step) w
    after_call (actor.Writer s) at w =
        let S : marks.WriterFits D c m g p seat s = both.logged.each seat (actor.Writer s) at in
        checking (Blocks s.kept s.firsts) s.checks (writer_op s s.step) (by_writer s at s.step S.step) w
    after_call (actor.Flusher t) at w =
        let T : marks.FlusherFits D c m g p seat t = both.logged.each seat (actor.Flusher t) at in
        checking Nothing t.checks (flusher_op t t.step) (by_flusher t t.step T.step) w
    after_call (actor.Reader t) at w =
        let T : marks.ReaderFits D c m g p seat t = both.logged.each seat (actor.Reader t) at in
        checking (Room t.block) t.checks (reader_op t t.step) (by_reader t t.step T.step) w
    after_call (actor.Closer t) at w = checking Nothing t.checks (closer_op t t.step) (by_closer t t.step) w
    after_call (actor.Cleaner v) at w = checking (Batch v.batch) v.checks (cleaner_op v v.step) (by_cleaner v v.step) w
    after_call (actor.Checkpointer t) at w =
        checking Nothing t.checks (checkpointer_op t t.step) (by_checkpointer t at t.step refl) w

  -- No checkpoint is asked for above a bound that holds for the last one and for a candidate that is about to be given.
  pub asked_bound : (bound : ℕ) → D.asked p ≤ bound
      → ((t : CheckpointerState) → get_elem? actors seat ≡ some (actor.Checkpointer t)
      → t.step ≡ checkpointer_step.Checkpoint → t.to ≤ bound)
      → (a : Actor) → get_elem? actors seat ≡ some a → LogServed D p (lent a) (next a) code q → D.asked q ≤ bound
  asked_bound bound before under =
      after_call (D.asked q ≤ bound) (λ same. let z = ap D.asked same in omega arith)
      (λ t A. let z = A.asked in omega arith) (λ A. let z = A.asked in omega arith)
      (λ t at is A. let z = A.asked in let low = under t at is in omega arith) (λ A. let z = A.asked in omega arith)

  -- a log device that still tells what it means did so before
  pub told_before : D.Tells q → (a : Actor) → get_elem? actors seat ≡ some a → LogServed D p (lent a) (next a) code q
      → D.Tells p
  told_before told = after_call (D.Tells p) (λ same. subst D.Tells same told) (λ t A. A.told told) (λ A. A.told told)
      (λ t at is A. A.told told) (λ A. A.told told)
