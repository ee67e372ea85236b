-- The conditions of each call of both parts, where an actor asks for it.
use Rattle.model_core.specs.{Room, Actor, Batch, Blocks, checkpointer_op, CheckpointerState, cleaner_op, CleanerState, closer_op, CloserState, flusher_op, FlusherState, Lent, lent, Listed, next, Nothing, SharedWords, user_op, UserState, writer_op, WriterState, reader_op, ReaderState, DataSide, LogSide, Setup}
use Rattle.std.proofs.Common.{Bool, List, ap, cond, false, refl, true, ℕ, ◌∙◌, ◌≡◌}
use lib.ListN.{get_elem?}
use mathlib.Core.Option.{some}
use Rattle.model_core.specs.declared.ops.Op.{Op}
use Rattle.model_core.specs.declared.steps.CheckpointerStep.{CheckpointerStep}
use Rattle.model_core.specs.declared.steps.CleanerStep.{CleanerStep}
use Rattle.model_core.specs.declared.steps.CloserStep.{CloserStep}
use Rattle.model_core.specs.declared.steps.FlusherStep.{FlusherStep}
use Rattle.model_core.specs.declared.steps.ReaderStep.{ReaderStep}
use Rattle.model_core.specs.declared.steps.UserStep.{UserStep}
use Rattle.model_core.specs.declared.steps.WriterStep.{WriterStep}
use Rattle.model_logcore.proofs.Ready.{ready}
use Rattle.model_logcore.specs.{LogGhost}
use Rattle.model_logcore.specs.LogLaws.{LogLaws}
use Rattle.model_logcore.specs.Ready.{Ready}
use Rattle.model_pagecore.specs.DataLaws.{DataLaws}
use Rattle.model_pagecore.specs.{PageGhost}
use Rattle.model_running.proofs.CallConditions.{all_written, can_checkpoint, can_write_batch}
use Rattle.model_running.specs.Ready.{BatchReady}
use Rattle.model_running.specs.Watermarks.{BothHalves}
use Rattle.model_core.specs.declared.words.Word.TheVariants as word
use Rattle.model_core.specs.declared.ops.Op.TheVariants as op
use Rattle.model_core.specs.declared.steps.UserStep.TheVariants as user_step
use Rattle.model_core.specs.declared.steps.WriterStep.TheVariants as writer_step
use Rattle.model_core.specs.declared.steps.FlusherStep.TheVariants as flusher_step
use Rattle.model_core.specs.declared.steps.ReaderStep.TheVariants as reader_step
use Rattle.model_core.specs.declared.steps.CloserStep.TheVariants as closer_step
use Rattle.model_core.specs.declared.steps.CleanerStep.TheVariants as cleaner_step
use Rattle.model_core.specs.declared.steps.CheckpointerStep.TheVariants as checkpointer_step
use Rattle.model_core.specs.declared.steps.AdvanceStep.TheVariants as advance_step
use Rattle.model_core.specs.States as actor

module _ (D : LogSide) (L : LogLaws D) (E : DataSide) (EL : DataLaws E) (c : Setup) (m : SharedWords) (g : LogGhost) (h : PageGhost) (ls : ℕ → List Listed) (p : D.Part) (d : E.Part) (actors : List Actor) (seat : ℕ) (both : BothHalves D E c m g h ls p d actors) where
  pub log_ready : (a : Actor) → get_elem? actors seat ≡ some a → Ready D c g p a (next a)
  log_ready a at = ready D L c m g p actors seat both.logged a at (λ t is step. can_checkpoint D L E EL c m g h ls p d actors seat both t (at ∙ ap some is) step)

  cleaner_ready : (v : CleanerState) → get_elem? actors seat ≡ some (actor.Cleaner v) → (f : CleanerStep) → v.step ≡ f → BatchReady E c h.kept_page (Batch v.batch) d (cleaner_op v f)
  cleaner_ready v at cleaner_step.WriteBatch is = (
    all_written D L E EL c m g h ls p d actors seat both v at is,
    can_write_batch D L E EL c m g h ls p d actors seat both v at is,
  )
  cleaner_ready v at _ is = tt

  checking : (l : Lent) (b : Bool) (o : Op) → BatchReady E c h.kept_page l d o → BatchReady E c h.kept_page l d (cond b (op.Load word.Failed) o)
  checking l true o ready = tt
  checking l false o ready = ready

  user_data : (l : Lent) (u : UserState) (f : UserStep) → BatchReady E c h.kept_page l d (user_op u f)
  user_data l u (user_step.AdvanceWritten advance_step.LoadTail) = tt
  user_data l u (user_step.AdvanceClosed advance_step.LoadTail) = tt
  user_data l u _ = tt

  writer_data : (l : Lent) (s : WriterState) (f : WriterStep) → BatchReady E c h.kept_page l d (writer_op s f)
  writer_data l s (writer_step.Advance advance_step.LoadTail) = tt
  writer_data l s _ = tt

  flusher_data : (l : Lent) (t : FlusherState) (f : FlusherStep) → BatchReady E c h.kept_page l d (flusher_op t f)
  flusher_data l t flusher_step.LoadWrite = tt
  flusher_data l t _ = tt

  reader_data : (l : Lent) (t : ReaderState) (f : ReaderStep) → BatchReady E c h.kept_page l d (reader_op t f)
  reader_data l t reader_step.LoadFlushed = tt
  reader_data l t _ = tt

  closer_data : (l : Lent) (t : CloserState) (f : CloserStep) → BatchReady E c h.kept_page l d (closer_op t f)
  closer_data l t (closer_step.Advance advance_step.LoadTail) = tt
  closer_data l t _ = tt

  checkpointer_data : (l : Lent) (t : CheckpointerState) (f : CheckpointerStep) → BatchReady E c h.kept_page l d (checkpointer_op t f)
  checkpointer_data l t checkpointer_step.LoadCtail = tt
  checkpointer_data l t _ = tt

  pub data_ready : (a : Actor) → get_elem? actors seat ≡ some a → BatchReady E c h.kept_page (lent a) d (next a)
  data_ready (actor.User u) at = checking Nothing u.checks (user_op u u.step) (user_data Nothing u u.step)
  data_ready (actor.Writer s) at = checking (Blocks s.kept s.firsts) s.checks (writer_op s s.step) (writer_data (Blocks s.kept s.firsts) s s.step)
  data_ready (actor.Flusher t) at = checking Nothing t.checks (flusher_op t t.step) (flusher_data Nothing t t.step)
  data_ready (actor.Reader t) at = checking (Room t.block) t.checks (reader_op t t.step) (reader_data (Room t.block) t t.step)
  data_ready (actor.Closer t) at = checking Nothing t.checks (closer_op t t.step) (closer_data Nothing t t.step)
  data_ready (actor.Cleaner v) at = checking (Batch v.batch) v.checks (cleaner_op v v.step) (cleaner_ready v at v.step refl)
  data_ready (actor.Checkpointer t) at = checking Nothing t.checks (checkpointer_op t t.step) (checkpointer_data Nothing t t.step)
