-- Who asks for the log part doesn't have it; who gives it back or calls it has it, and the call's conditions hold.
use Rattle.std.proofs.Common.{Bool, List, ap, cond, false, refl, true, ℕ, ◌≡◌}
use lib.ListN.{get_elem?}
use Rattle.model_core.specs.{Actor, Advance, advance_op, checkpointer_holds, checkpointer_op, CheckpointerState, cleaner_op, CleanerState, closer_op, CloserState, flusher_holds, flusher_op, FlusherState, next, SharedWords, user_op, UserState, writer_holds, writer_op, WriterState, reader_holds, reader_op, ReaderState, LogSide, Setup}
use Rattle.model_core.specs.declared.ops.Op.{Op}
use Rattle.model_core.specs.declared.steps.AdvanceStep.{AdvanceStep}
use Rattle.model_core.specs.declared.words.LinkBuffer.{LinkBuffer}
use Rattle.model_core.specs.declared.steps.CheckpointerStep.{CheckpointerStep}
use Rattle.model_core.specs.declared.steps.CleanerStep.{CleanerStep}
use Rattle.model_core.specs.declared.steps.CloserStep.{CloserStep}
use Rattle.model_core.specs.declared.steps.FlusherStep.{FlusherStep}
use Rattle.model_core.specs.declared.steps.ReaderStep.{ReaderStep}
use Rattle.model_core.specs.declared.steps.UserStep.{UserStep}
use Rattle.model_core.specs.declared.steps.WriterStep.{WriterStep}
use Rattle.model_logcore.proofs.DeviceSteps.{can_write}
use Rattle.model_logcore.specs.LogFacts.{LogGhost}
use Rattle.model_logcore.specs.LogFits.{FlusherAt, FlusherFits, WriterAt, WriterFits, ReaderAt, ReaderFits, LogHalf}
use Rattle.model_logcore.specs.LogLaws.{CanCheckpoint, LogLaws}
use Rattle.model_logcore.specs.Ready.{Ready}
use Rattle.model_core.specs.declared.words.Word.TheVariants as word
use Rattle.model_core.specs.declared.ops.Op.TheVariants as op
use Rattle.model_core.specs.declared.steps.AdvanceStep.TheVariants as advance_step
use Rattle.model_core.specs.declared.words.LinkBuffer.TheVariants as link_buffer
use Rattle.model_core.specs.declared.steps.UserStep.TheVariants as user_step
use Rattle.model_core.specs.declared.steps.WriterStep.TheVariants as writer_step
use Rattle.model_core.specs.declared.steps.FlusherStep.TheVariants as flusher_step
use Rattle.model_core.specs.declared.steps.ReaderStep.TheVariants as reader_step
use Rattle.model_core.specs.declared.steps.CloserStep.TheVariants as closer_step
use Rattle.model_core.specs.declared.steps.CleanerStep.TheVariants as cleaner_step
use Rattle.model_core.specs.declared.steps.CheckpointerStep.TheVariants as checkpointer_step
use Rattle.model_core.specs.States as actor
use mathlib.Core.Option as maybe

module _ (D : LogSide) (L : LogLaws D) (c : Setup) (m : SharedWords) (g : LogGhost) (p : D.Part) (actors : List Actor) (seat : ℕ) (before : LogHalf D c m g p actors) where
  advance_ready : (a : Actor) (b : LinkBuffer) (v : Advance) (s : AdvanceStep) → Ready D c g p a (advance_op b v s)
  advance_ready a b v advance_step.LoadTail = tt
  advance_ready a b v _ = tt

  user_ready : (u : UserState) (f : UserStep) → Ready D c g p (actor.User u) (user_op u f)
  user_ready u user_step.LoadCheckpoint = tt
  user_ready u (user_step.AdvanceWritten s) = advance_ready (actor.User u) link_buffer.Written u.advance s
  user_ready u (user_step.AdvanceClosed s) = advance_ready (actor.User u) link_buffer.Closed u.advance s
  user_ready u _ = tt

  writer_ready : (s : WriterState) → get_elem? actors seat ≡ maybe.some (actor.Writer s) → (f : WriterStep) → s.step ≡ f → WriterAt D c m g p seat s f → Ready D c g p (actor.Writer s) (writer_op s f)
  writer_ready s at (writer_step.Advance v) is h = advance_ready (actor.Writer s) link_buffer.Written s.advance v
  writer_ready s at writer_step.TakeDevice is h = ap writer_holds is
  writer_ready s at writer_step.GiveBroken is h = ap writer_holds is
  writer_ready s at writer_step.WriteTo is h = let mine : WriterFits D c m g p seat s = before.each seat (actor.Writer s) at in (ap writer_holds is, (mine.tail, can_write D L c m g p actors seat s before at h))
  writer_ready s at writer_step.GiveDevice is h = ap writer_holds is
  writer_ready s at writer_step.GiveFailed is h = ap writer_holds is
  writer_ready s at _ is h = tt

  flusher_ready : (f : FlusherState) (w : FlusherStep) → f.step ≡ w → FlusherAt D c m g p f w → Ready D c g p (actor.Flusher f) (flusher_op f w)
  flusher_ready f flusher_step.TakeDevice is h = ap flusher_holds is
  flusher_ready f flusher_step.GiveBroken is h = ap flusher_holds is
  flusher_ready f flusher_step.Sync is h = (ap flusher_holds is, h)
  flusher_ready f flusher_step.GiveDevice is h = ap flusher_holds is
  flusher_ready f flusher_step.GiveFailed is h = ap flusher_holds is
  flusher_ready f _ is h = tt

  reader_ready : (f : ReaderState) (w : ReaderStep) → f.step ≡ w → ReaderAt D c m g p f w → Ready D c g p (actor.Reader f) (reader_op f w)
  reader_ready f reader_step.TakeDevice is h = ap reader_holds is
  reader_ready f reader_step.GiveBroken is h = ap reader_holds is
  reader_ready f reader_step.ReadBlock is h = (ap reader_holds is, h)
  reader_ready f reader_step.GiveDevice is h = ap reader_holds is
  reader_ready f reader_step.GiveFailed is h = ap reader_holds is
  reader_ready f _ is h = tt

  closer_ready : (t : CloserState) (f : CloserStep) → Ready D c g p (actor.Closer t) (closer_op t f)
  closer_ready t (closer_step.Advance v) = advance_ready (actor.Closer t) link_buffer.Closed t.advance v
  closer_ready t closer_step.Failed = tt

  cleaner_ready : (v : CleanerState) (f : CleanerStep) → Ready D c g p (actor.Cleaner v) (cleaner_op v f)
  cleaner_ready v cleaner_step.LoadFlushed = tt
  cleaner_ready v _ = tt

  checkpointer_ready : (t : CheckpointerState) (f : CheckpointerStep) → t.step ≡ f → (f ≡ checkpointer_step.Checkpoint → CanCheckpoint D c.blocks c.base g.log t.to p) → Ready D c g p (actor.Checkpointer t) (checkpointer_op t f)
  checkpointer_ready t checkpointer_step.TakeDevice is can = ap checkpointer_holds is
  checkpointer_ready t checkpointer_step.GiveBroken is can = ap checkpointer_holds is
  checkpointer_ready t checkpointer_step.Checkpoint is can = (ap checkpointer_holds is, can refl)
  checkpointer_ready t checkpointer_step.GiveDevice is can = ap checkpointer_holds is
  checkpointer_ready t checkpointer_step.GiveFailed is can = ap checkpointer_holds is
  checkpointer_ready t _ is can = tt

  checking_ready : (a : Actor) (b : Bool) (o : Op) → Ready D c g p a o → Ready D c g p a (cond b (op.Load word.Failed) o)
  checking_ready a true o h = tt
  checking_ready a false o h = h

  -- The conditions of an actor's next Op. Those of a checkpoint are the page half's to show
  pub ready : (a : Actor) → get_elem? actors seat ≡ maybe.some a → ((t : CheckpointerState) → a ≡ actor.Checkpointer t → t.step ≡ checkpointer_step.Checkpoint → CanCheckpoint D c.blocks c.base g.log t.to p) → Ready D c g p a (next a)
  ready (actor.User u) at can = checking_ready (actor.User u) u.checks (user_op u u.step) (user_ready u u.step)
  ready (actor.Writer s) at can = let h : WriterFits D c m g p seat s = before.each seat (actor.Writer s) at in checking_ready (actor.Writer s) s.checks (writer_op s s.step) (writer_ready s at s.step refl h.step)
  ready (actor.Flusher f) at can = let h : FlusherFits D c m g p seat f = before.each seat (actor.Flusher f) at in checking_ready (actor.Flusher f) f.checks (flusher_op f f.step) (flusher_ready f f.step refl h.step)
  ready (actor.Reader f) at can = let h : ReaderFits D c m g p seat f = before.each seat (actor.Reader f) at in checking_ready (actor.Reader f) f.checks (reader_op f f.step) (reader_ready f f.step refl h.step)
  ready (actor.Closer t) at can = checking_ready (actor.Closer t) t.checks (closer_op t t.step) (closer_ready t t.step)
  ready (actor.Cleaner v) at can = checking_ready (actor.Cleaner v) v.checks (cleaner_op v v.step) (cleaner_ready v v.step)
  ready (actor.Checkpointer t) at can = checking_ready (actor.Checkpointer t) t.checks (checkpointer_op t t.step) (checkpointer_ready t t.step refl (can t refl))
