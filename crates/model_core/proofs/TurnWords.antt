-- The words that Ops name: none that is loaded, stored, added to or swapped is a turn word.
use Rattle.std.proofs.Common.{Bool, cond, false, subst, true, ◌==◌, ◌≡◌}
use Rattle.model_core.specs.{Advance, checkpointer_op, CheckpointerState, cleaner_op, CleanerState, closer_op, CloserState, flusher_op, FlusherState, mode, next, user_op, UserState, writer_op, WriterState, reader_op, ReaderState}
use Rattle.model_core.specs.States as model
use Rattle.model_core.specs.LogPrograms.{advance_op}
use Rattle.model_core.specs.declared.ops.Op.{Op}
use Rattle.model_core.specs.declared.ops.Op.TheVariants as op
use Rattle.model_core.specs.declared.steps.AdvanceStep.{AdvanceStep}
use Rattle.model_core.specs.declared.steps.AdvanceStep.TheVariants as advance_step
use Rattle.model_core.specs.declared.steps.CheckpointerStep.{CheckpointerStep}
use Rattle.model_core.specs.declared.steps.CheckpointerStep.TheVariants as checkpointer_step
use Rattle.model_core.specs.declared.steps.CleanerStep.{CleanerStep}
use Rattle.model_core.specs.declared.steps.CleanerStep.TheVariants as cleaner_step
use Rattle.model_core.specs.declared.steps.CloserStep.{CloserStep}
use Rattle.model_core.specs.declared.steps.CloserStep.TheVariants as closer_step
use Rattle.model_core.specs.declared.steps.FlusherStep.{FlusherStep}
use Rattle.model_core.specs.declared.steps.ReaderStep.{ReaderStep}
use Rattle.model_core.specs.declared.steps.FlusherStep.TheVariants as flusher_step
use Rattle.model_core.specs.declared.steps.ReaderStep.TheVariants as reader_step
use Rattle.model_core.specs.declared.steps.UserStep.{UserStep}
use Rattle.model_core.specs.declared.steps.UserStep.TheVariants as user_step
use Rattle.model_core.specs.declared.steps.WriterStep.{WriterStep}
use Rattle.model_core.specs.declared.steps.WriterStep.TheVariants as writer_step
use Rattle.model_core.specs.declared.words.LinkBuffer.{LinkBuffer}
use Rattle.model_core.specs.declared.words.LinkBuffer.TheVariants as link_buffer
use Rattle.model_core.specs.declared.words.Word.{Word}
use Rattle.model_core.specs.declared.words.Word.TheVariants as word

-- the word is no turn word
abbrev pub IsPlain : Word → Type 0
IsPlain word.Device = ⊥
IsPlain (word.List i) = ⊥
IsPlain _ = Unit {0}

abbrev pub IsOffTurns : Op → Type 0
IsOffTurns (op.Load w) = IsPlain w
IsOffTurns (op.Store w x) = IsPlain w
IsOffTurns (op.Add w x) = IsPlain w
IsOffTurns (op.Swap w x y) = IsPlain w
IsOffTurns _ = Unit {0}

-- an Op on such a word: each that an advance asks for is one
abbrev pub IsWordOp : Op → Type 0
IsWordOp (op.Load w) = IsPlain w
IsWordOp (op.Store w x) = IsPlain w
IsWordOp (op.Swap w x y) = IsPlain w
IsWordOp _ = ⊥

advance_plain : (b : LinkBuffer) (v : Advance) (s : AdvanceStep) → IsWordOp (advance_op b v s)
advance_plain link_buffer.Written v advance_step.LoadTail = tt
advance_plain link_buffer.Written v _ = tt
advance_plain link_buffer.Closed v advance_step.LoadTail = tt
advance_plain link_buffer.Closed v _ = tt

pub advance_asks : (b : LinkBuffer) (v : Advance) (s : AdvanceStep) (o : Op) → advance_op b v s ≡ o → IsWordOp o
advance_asks b v s o e = subst IsWordOp e (advance_plain b v s)

word_off : (o : Op) → IsWordOp o → IsOffTurns o
word_off (op.Load w) is = is
word_off (op.Store w x) is = is
word_off (op.Swap w x y) is = is
word_off _ is = absurd is

mark_off : (b : Bool) → IsPlain (cond b word.Flushed word.Write)
mark_off true = tt
mark_off false = tt

user_off : (u : UserState) (f : UserStep) → IsOffTurns (user_op u f)
user_off u user_step.AwaitMark = mark_off (mode u == 1)
user_off u (user_step.AdvanceWritten s) = word_off (advance_op link_buffer.Written u.advance s) (advance_plain link_buffer.Written u.advance s)
user_off u (user_step.AdvanceClosed s) = word_off (advance_op link_buffer.Closed u.advance s) (advance_plain link_buffer.Closed u.advance s)
user_off u _ = tt

writer_off : (s : WriterState) (f : WriterStep) → IsOffTurns (writer_op s f)
writer_off s (writer_step.Advance v) = word_off (advance_op link_buffer.Written s.advance v) (advance_plain link_buffer.Written s.advance v)
writer_off s _ = tt

flusher_off : (t : FlusherState) (f : FlusherStep) → IsOffTurns (flusher_op t f)
flusher_off t flusher_step.LoadWrite = tt
flusher_off t _ = tt

reader_off : (t : ReaderState) (f : ReaderStep) → IsOffTurns (reader_op t f)
reader_off t reader_step.LoadFlushed = tt
reader_off t _ = tt

closer_off : (t : CloserState) (f : CloserStep) → IsOffTurns (closer_op t f)
closer_off t (closer_step.Advance v) = word_off (advance_op link_buffer.Closed t.advance v) (advance_plain link_buffer.Closed t.advance v)
closer_off t closer_step.Failed = tt

cleaner_off : (v : CleanerState) (f : CleanerStep) → IsOffTurns (cleaner_op v f)
cleaner_off v cleaner_step.LoadFlushed = tt
cleaner_off v _ = tt

checkpointer_off : (t : CheckpointerState) (f : CheckpointerStep) → IsOffTurns (checkpointer_op t f)
checkpointer_off t checkpointer_step.LoadCtail = tt
checkpointer_off t _ = tt

checking : (b : Bool) (o : Op) → IsOffTurns o → IsOffTurns (cond b (op.Load word.Failed) o)
checking true o off = tt
checking false o off = off

pub next_off : (a : model.Actor) → IsOffTurns (next a)
next_off (model.User u) = checking u.checks (user_op u u.step) (user_off u u.step)
next_off (model.Writer s) = checking s.checks (writer_op s s.step) (writer_off s s.step)
next_off (model.Flusher t) = checking t.checks (flusher_op t t.step) (flusher_off t t.step)
next_off (model.Reader t) = checking t.checks (reader_op t t.step) (reader_off t t.step)
next_off (model.Closer t) = checking t.checks (closer_op t t.step) (closer_off t t.step)
next_off (model.Cleaner v) = checking v.checks (cleaner_op v v.step) (cleaner_off v v.step)
next_off (model.Checkpointer t) = checking t.checks (checkpointer_op t t.step) (checkpointer_off t t.step)
