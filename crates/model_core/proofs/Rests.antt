-- An actor that asks for nothing stays as it is.
use Rattle.std.proofs.Common.{Bool, ap, cond, false, refl, true, ℕ, ◌≡◌}
use Rattle.model_core.specs.{Actor, checked_of, checkpointer_op, checkpointer_program, checkpointer_took, CheckpointerState, cleaner_op, cleaner_program, cleaner_took, CleanerState, closer_op, closer_program, closer_took, CloserState, flusher_op, flusher_program, flusher_took, FlusherState, heard, next, old_of, took, user_op, user_program, user_took, UserState, writer_op, writer_program, writer_took, WriterState, reader_op, reader_program, reader_took, ReaderState}
use Rattle.model_core.specs.States as actor
use Rattle.model_core.specs.declared.ops.Answer.{Answer}
use Rattle.model_core.specs.declared.ops.Op.{Op}
use Rattle.model_core.specs.declared.ops.Op.TheVariants as op
use Rattle.model_core.specs.declared.words.Word.TheVariants as word
use Rattle.model_core.specs.declared.steps.CheckpointerStep.{CheckpointerStep}
use Rattle.model_core.specs.declared.steps.CheckpointerStep.TheVariants as checkpointer_step
use Rattle.model_core.specs.declared.steps.CleanerStep.{CleanerStep}
use Rattle.model_core.specs.declared.steps.CleanerStep.TheVariants as cleaner_step
use Rattle.model_core.specs.declared.steps.CloserStep.{CloserStep}
use Rattle.model_core.specs.declared.steps.CloserStep.TheVariants as closer_step
use Rattle.model_core.specs.declared.steps.FlusherStep.{FlusherStep}
use Rattle.model_core.specs.declared.steps.ReaderStep.{ReaderStep}
use Rattle.model_core.specs.declared.steps.FlusherStep.TheVariants as flusher_step
use Rattle.model_core.specs.declared.steps.ReaderStep.TheVariants as reader_step
use Rattle.model_core.specs.declared.steps.UserStep.{UserStep}
use Rattle.model_core.specs.declared.steps.UserStep.TheVariants as user_step
use Rattle.model_core.specs.declared.steps.WriterStep.{WriterStep}
use Rattle.model_core.specs.declared.steps.WriterStep.TheVariants as writer_step
use Rattle.model_core.specs.declared.words.LinkBuffer.TheVariants as link_buffer
use Rattle.model_core.proofs.TurnWords.{advance_asks}

-- an actor whose Op is Rest stays as it is
user_rests : (u : UserState) (n : ℕ) (f : UserStep) → user_op u f ≡ op.Rest → ◌≡◌ {A = UserState} (user_took u n f) u
user_rests u n (user_step.AdvanceWritten s) rest = absurd (advance_asks link_buffer.Written u.advance s op.Rest rest)
user_rests u n (user_step.AdvanceClosed s) rest = absurd (advance_asks link_buffer.Closed u.advance s op.Rest rest)
user_rests u n user_step.Done rest = refl
user_rests u n user_step.Failed rest = refl
user_rests u n _ rest = absurd (cc)

writer_rests : (s : WriterState) (r : Answer) (f : WriterStep) → writer_op s f ≡ op.Rest → ◌≡◌ {A = WriterState} (writer_took s r f) s
writer_rests s r (writer_step.Advance v) rest = absurd (advance_asks link_buffer.Written s.advance v op.Rest rest)
writer_rests s r writer_step.Failed rest = refl
writer_rests s r _ rest = absurd (cc)

flusher_rests : (t : FlusherState) (r : Answer) (f : FlusherStep) → flusher_op t f ≡ op.Rest → ◌≡◌ {A = FlusherState} (flusher_took t r f) t
flusher_rests t r flusher_step.Failed rest = refl
flusher_rests t r _ rest = absurd (cc)

reader_rests : (t : ReaderState) (r : Answer) (f : ReaderStep) → reader_op t f ≡ op.Rest → ◌≡◌ {A = ReaderState} (reader_took t r f) t
reader_rests t r reader_step.Failed rest = refl
reader_rests t r _ rest = absurd (cc)

closer_rests : (t : CloserState) (r : Answer) (f : CloserStep) → closer_op t f ≡ op.Rest → ◌≡◌ {A = CloserState} (closer_took t r f) t
closer_rests t r (closer_step.Advance v) rest = absurd (advance_asks link_buffer.Closed t.advance v op.Rest rest)
closer_rests t r closer_step.Failed rest = refl

cleaner_rests : (v : CleanerState) (r : Answer) (f : CleanerStep) → cleaner_op v f ≡ op.Rest → ◌≡◌ {A = CleanerState} (cleaner_took v r f) v
cleaner_rests v r cleaner_step.Failed rest = refl
cleaner_rests v r _ rest = absurd (cc)

checkpointer_rests : (t : CheckpointerState) (r : Answer) (f : CheckpointerStep) → checkpointer_op t f ≡ op.Rest → ◌≡◌ {A = CheckpointerState} (checkpointer_took t r f) t
checkpointer_rests t r checkpointer_step.Failed rest = refl
checkpointer_rests t r _ rest = absurd (cc)

by_rest : {S : Type 0} (wrap : S → Actor) (o : Op) (x goes own : S) (b : Bool) → cond b (op.Load word.Failed) o ≡ op.Rest → (o ≡ op.Rest → ◌≡◌ {A = S} own x) → ◌≡◌ {A = Actor} (cond b (wrap goes) (wrap own)) (wrap x)
by_rest wrap o x goes own true rest same = absurd (cc)
by_rest wrap o x goes own false rest same = ap wrap (same rest)

pub rests : (a : Actor) → next a ≡ op.Rest → (r : Answer) → ◌≡◌ {A = Actor} (took a r) a
rests (actor.User u) rest r = by_rest actor.User (user_op u u.step) u (checked_of user_program u (old_of r)) (user_took u (heard r) u.step) u.checks rest (user_rests u (heard r) u.step)
rests (actor.Writer s) rest r = by_rest actor.Writer (writer_op s s.step) s (checked_of writer_program s (old_of r)) (writer_took s r s.step) s.checks rest (writer_rests s r s.step)
rests (actor.Flusher t) rest r = by_rest actor.Flusher (flusher_op t t.step) t (checked_of flusher_program t (old_of r)) (flusher_took t r t.step) t.checks rest (flusher_rests t r t.step)
rests (actor.Reader t) rest r = by_rest actor.Reader (reader_op t t.step) t (checked_of reader_program t (old_of r)) (reader_took t r t.step) t.checks rest (reader_rests t r t.step)
rests (actor.Closer t) rest r = by_rest actor.Closer (closer_op t t.step) t (checked_of closer_program t (old_of r)) (closer_took t r t.step) t.checks rest (closer_rests t r t.step)
rests (actor.Cleaner v) rest r = by_rest actor.Cleaner (cleaner_op v v.step) v (checked_of cleaner_program v (old_of r)) (cleaner_took v r v.step) v.checks rest (cleaner_rests v r v.step)
rests (actor.Checkpointer t) rest r = by_rest actor.Checkpointer (checkpointer_op t t.step) t (checked_of checkpointer_program t (old_of r)) (checkpointer_took t r t.step) t.checks rest (checkpointer_rests t r t.step)
