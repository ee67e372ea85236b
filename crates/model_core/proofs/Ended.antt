-- An actor that has ended asks for nothing, and stays as it is.
use Rattle.std.proofs.Common.{ap, refl, ℕ, ◌≡◌}
use Rattle.model_core.specs.States.{Actor, CheckpointerState, CleanerState, CloserState, FlusherState, UserState, WriterState, ReaderState}
use Rattle.model_core.specs.ActorProgram.{heard}
use Rattle.model_core.specs.PagePrograms.{checkpointer_ending, checkpointer_op, checkpointer_took, cleaner_ending, cleaner_op, cleaner_took}
use Rattle.model_core.specs.LogPrograms.{closer_ending, closer_op, closer_took, flusher_ending, flusher_op, flusher_took, writer_ending, writer_op, writer_took}
use Rattle.model_core.specs.ReaderProgram.{reader_ending, reader_op, reader_took}
use Rattle.model_core.specs.Program.{own_op, own_took}
use Rattle.model_core.specs.UserProgram.{user_ending, user_op, user_took}
use Rattle.model_core.specs.Hands.{HasStopped}
use Rattle.model_core.specs.declared.ops.Answer.{Answer}
use Rattle.model_core.specs.declared.ops.Op.{Op}
use Rattle.model_core.specs.declared.steps.CheckpointerStep.{CheckpointerStep}
use Rattle.model_core.specs.declared.steps.CleanerStep.{CleanerStep}
use Rattle.model_core.specs.declared.steps.CloserStep.{CloserStep}
use Rattle.model_core.specs.declared.steps.FlusherStep.{FlusherStep}
use Rattle.model_core.specs.declared.steps.ReaderStep.{ReaderStep}
use Rattle.model_core.specs.declared.steps.UserStep.{UserStep}
use Rattle.model_core.specs.declared.steps.WriterStep.{WriterStep}
use Rattle.model_core.specs.States as actor
use Rattle.model_core.specs.declared.ops.Op.TheVariants as op
use Rattle.model_core.specs.declared.ops.Step.TheVariants as step
use Rattle.model_core.specs.declared.steps.CheckpointerStep.TheVariants as checkpointer_step
use Rattle.model_core.specs.declared.steps.CleanerStep.TheVariants as cleaner_step
use Rattle.model_core.specs.declared.steps.CloserStep.TheVariants as closer_step
use Rattle.model_core.specs.declared.steps.FlusherStep.TheVariants as flusher_step
use Rattle.model_core.specs.declared.steps.ReaderStep.TheVariants as reader_step
use Rattle.model_core.specs.declared.steps.UserStep.TheVariants as user_step
use Rattle.model_core.specs.declared.steps.WriterStep.TheVariants as writer_step

user_rests : (u : UserState) (n code : ℕ) (s : UserStep) → (user_ending code s ≡ step.Moved → ⊥) → (◌≡◌ {A = Op} (user_op u s) op.Rest) × ◌≡◌ {A = UserState} (user_took u n s) u
user_rests u n code user_step.Done e = (refl, refl)
user_rests u n code user_step.Failed e = (refl, refl)
user_rests u n code _ e = absurd (e refl)

writer_rests : (s : WriterState) (a : Answer) (code : ℕ) (f : WriterStep) → (writer_ending code f ≡ step.Moved → ⊥) → (◌≡◌ {A = Op} (writer_op s f) op.Rest) × ◌≡◌ {A = WriterState} (writer_took s a f) s
writer_rests s a code writer_step.Failed e = (refl, refl)
writer_rests s a code _ e = absurd (e refl)

flusher_rests : (f : FlusherState) (a : Answer) (code : ℕ) (s : FlusherStep) → (flusher_ending code s ≡ step.Moved → ⊥) → (◌≡◌ {A = Op} (flusher_op f s) op.Rest) × ◌≡◌ {A = FlusherState} (flusher_took f a s) f
flusher_rests f a code flusher_step.Failed e = (refl, refl)
flusher_rests f a code _ e = absurd (e refl)

reader_rests : (f : ReaderState) (a : Answer) (code : ℕ) (s : ReaderStep) → (reader_ending code s ≡ step.Moved → ⊥) → (◌≡◌ {A = Op} (reader_op f s) op.Rest) × ◌≡◌ {A = ReaderState} (reader_took f a s) f
reader_rests f a code reader_step.Failed e = (refl, refl)
reader_rests f a code _ e = absurd (e refl)

closer_rests : (t : CloserState) (a : Answer) (code : ℕ) (s : CloserStep) → (closer_ending code s ≡ step.Moved → ⊥) → (◌≡◌ {A = Op} (closer_op t s) op.Rest) × ◌≡◌ {A = CloserState} (closer_took t a s) t
closer_rests t a code closer_step.Failed e = (refl, refl)
closer_rests t a code _ e = absurd (e refl)

cleaner_rests : (v : CleanerState) (a : Answer) (code : ℕ) (s : CleanerStep) → (cleaner_ending code s ≡ step.Moved → ⊥) → (◌≡◌ {A = Op} (cleaner_op v s) op.Rest) × ◌≡◌ {A = CleanerState} (cleaner_took v a s) v
cleaner_rests v a code cleaner_step.Failed e = (refl, refl)
cleaner_rests v a code _ e = absurd (e refl)

checkpointer_rests : (t : CheckpointerState) (a : Answer) (code : ℕ) (s : CheckpointerStep) → (checkpointer_ending code s ≡ step.Moved → ⊥) → (◌≡◌ {A = Op} (checkpointer_op t s) op.Rest) × ◌≡◌ {A = CheckpointerState} (checkpointer_took t a s) t
checkpointer_rests t a code checkpointer_step.Failed e = (refl, refl)
checkpointer_rests t a code _ e = absurd (e refl)

pub ended_rests : (a : Actor) (r : Answer) → HasStopped a → (◌≡◌ {A = Op} (own_op a) op.Rest) × ◌≡◌ {A = Actor} (own_took a r) a
ended_rests (actor.User u) r e = let k = user_rests u (heard r) u.code u.step e in (k.0, ap actor.User k.1)
ended_rests (actor.Writer s) r e = let k = writer_rests s r s.code s.step e in (k.0, ap actor.Writer k.1)
ended_rests (actor.Flusher f) r e = let k = flusher_rests f r f.code f.step e in (k.0, ap actor.Flusher k.1)
ended_rests (actor.Reader f) r e = let k = reader_rests f r f.code f.step e in (k.0, ap actor.Reader k.1)
ended_rests (actor.Closer t) r e = let k = closer_rests t r t.code t.step e in (k.0, ap actor.Closer k.1)
ended_rests (actor.Cleaner v) r e = let k = cleaner_rests v r v.code v.step e in (k.0, ap actor.Cleaner k.1)
ended_rests (actor.Checkpointer t) r e = let k = checkpointer_rests t r t.code t.step e in (k.0, ap actor.Checkpointer k.1)
