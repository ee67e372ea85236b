-- What the Op that an actor asks for tells of it: that it holds nothing, that it is the cleaner, that it is a user.
use Rattle.std.proofs.Common.{Bool, None, cond, false, inl, inr, refl, true, ◌≡◌, ◌⊎◌}
use Rattle.model_core.specs.{Actor, Advance, checkpointer_op, CheckpointerState, cleaner_op, CleanerState, closer_op, CloserState, flusher_op, FlusherState, next, user_op, UserState, writer_op, WriterState, reader_op, ReaderState}
use Rattle.model_core.specs.States as actor
use Rattle.model_core.specs.LogPrograms.{advance_op}
use Rattle.model_core.specs.Hands.{advance_holds, closer_holds_tail, user_holds_tail, writer_holds_tail, HoldsNothing, IsFreeOp, IsFreeToCheck, checkpointer_hand, cleaner_hand, flusher_hand, user_hand, writer_hand, reader_hand}
use Rattle.model_core.specs.declared.ops.Op.{Op}
use Rattle.model_core.specs.declared.ops.Op.TheVariants as op
use Rattle.model_core.specs.declared.words.Word.TheVariants as word
use Rattle.model_core.specs.declared.steps.AdvanceStep.{AdvanceStep}
use Rattle.model_core.specs.declared.steps.AdvanceStep.TheVariants as advance_step
use Rattle.model_core.specs.declared.steps.CheckpointerStep.{CheckpointerStep}
use Rattle.model_core.specs.declared.steps.CheckpointerStep.TheVariants as checkpointer_step
use Rattle.model_core.specs.declared.steps.CleanerStep.{CleanerStep}
use Rattle.model_core.specs.declared.steps.CleanerStep.TheVariants as cleaner_step
use Rattle.model_core.specs.declared.steps.CloserStep.{CloserStep}
use Rattle.model_core.specs.declared.steps.CloserStep.TheVariants as closer_step
use Rattle.model_core.specs.declared.steps.FlusherStep.{FlusherStep}
use Rattle.model_core.specs.declared.steps.ReaderStep.{ReaderStep}
use Rattle.model_core.specs.declared.steps.FlusherStep.TheVariants as flusher_step
use Rattle.model_core.specs.declared.steps.ReaderStep.TheVariants as reader_step
use Rattle.model_core.specs.declared.steps.UserStep.{UserStep}
use Rattle.model_core.specs.declared.steps.UserStep.TheVariants as user_step
use Rattle.model_core.specs.declared.steps.WriterStep.{WriterStep}
use Rattle.model_core.specs.declared.steps.WriterStep.TheVariants as writer_step
use Rattle.model_core.specs.declared.words.LinkBuffer.{LinkBuffer}
use Rattle.model_core.specs.declared.words.LinkBuffer.TheVariants as link_buffer
use Rattle.model_core.proofs.TurnWords.{advance_asks}

-- whoever asks for such an Op holds no slot
user_frees : (u : UserState) (f : UserStep) → IsFreeOp (user_op u f) → user_hand u f ≡ None
user_frees u user_step.StoreOldest is = absurd is
user_frees u user_step.GiveList is = absurd is
user_frees u _ is = refl

writer_frees : (s : WriterState) (f : WriterStep) → IsFreeOp (writer_op s f) → writer_hand f ≡ None
writer_frees s writer_step.GiveBroken is = absurd is
writer_frees s writer_step.WriteTo is = absurd is
writer_frees s writer_step.StoreWrite is = absurd is
writer_frees s writer_step.GiveDevice is = absurd is
writer_frees s writer_step.StoreFailed is = absurd is
writer_frees s writer_step.GiveFailed is = absurd is
writer_frees s _ is = refl

flusher_frees : (t : FlusherState) (f : FlusherStep) → IsFreeOp (flusher_op t f) → flusher_hand f ≡ None
flusher_frees t flusher_step.GiveBroken is = absurd is
flusher_frees t flusher_step.Sync is = absurd is
flusher_frees t flusher_step.StoreFlushed is = absurd is
flusher_frees t flusher_step.GiveDevice is = absurd is
flusher_frees t flusher_step.StoreFailed is = absurd is
flusher_frees t flusher_step.GiveFailed is = absurd is
flusher_frees t _ is = refl

reader_frees : (t : ReaderState) (f : ReaderStep) → IsFreeOp (reader_op t f) → reader_hand f ≡ None
reader_frees t reader_step.GiveBroken is = absurd is
reader_frees t reader_step.ReadBlock is = absurd is
reader_frees t reader_step.StorePlace is = absurd is
reader_frees t reader_step.GiveDevice is = absurd is
reader_frees t reader_step.StoreFailed is = absurd is
reader_frees t reader_step.GiveFailed is = absurd is
reader_frees t reader_step.StoreLost is = absurd is
reader_frees t _ is = refl

cleaner_frees : (v : CleanerState) (f : CleanerStep) → IsFreeOp (cleaner_op v f) → cleaner_hand v f ≡ None
cleaner_frees v cleaner_step.ClearOldest is = absurd is
cleaner_frees v cleaner_step.GiveList is = absurd is
cleaner_frees v _ is = refl

checkpointer_frees : (t : CheckpointerState) (f : CheckpointerStep) → IsFreeOp (checkpointer_op t f) → checkpointer_hand t f ≡ None
checkpointer_frees t checkpointer_step.GiveList is = absurd is
checkpointer_frees t checkpointer_step.GiveBroken is = absurd is
checkpointer_frees t checkpointer_step.Checkpoint is = absurd is
checkpointer_frees t checkpointer_step.StoreCheckpoint is = absurd is
checkpointer_frees t checkpointer_step.GiveDevice is = absurd is
checkpointer_frees t checkpointer_step.StoreFailed is = absurd is
checkpointer_frees t checkpointer_step.GiveFailed is = absurd is
checkpointer_frees t _ is = refl

-- nor a tail
advance_loose : (b : LinkBuffer) (v : Advance) (s : AdvanceStep) → IsFreeOp (advance_op b v s) → advance_holds s ≡ false
advance_loose b v advance_step.LoadTail is = refl
advance_loose b v advance_step.TakeTail is = refl
advance_loose link_buffer.Written v advance_step.LoadLink is = absurd is
advance_loose link_buffer.Closed v advance_step.LoadLink is = absurd is
advance_loose b v advance_step.ClearLink is = absurd is
advance_loose b v advance_step.FreeTail is = absurd is

user_loose : (u : UserState) (f : UserStep) → IsFreeOp (user_op u f) → (b : LinkBuffer) → user_holds_tail b f ≡ false
user_loose u (user_step.AdvanceWritten s) is link_buffer.Written = advance_loose link_buffer.Written u.advance s is
user_loose u (user_step.AdvanceClosed s) is link_buffer.Closed = advance_loose link_buffer.Closed u.advance s is
user_loose u _ is link_buffer.Written = refl
user_loose u _ is link_buffer.Closed = refl

writer_loose : (s : WriterState) (f : WriterStep) → IsFreeOp (writer_op s f) → (b : LinkBuffer) → writer_holds_tail b f ≡ false
writer_loose s (writer_step.Advance v) is link_buffer.Written = advance_loose link_buffer.Written s.advance v is
writer_loose s _ is link_buffer.Written = refl
writer_loose s _ is link_buffer.Closed = refl

closer_loose : (t : CloserState) (f : CloserStep) → IsFreeOp (closer_op t f) → (b : LinkBuffer) → closer_holds_tail b f ≡ false
closer_loose t (closer_step.Advance v) is link_buffer.Closed = advance_loose link_buffer.Closed t.advance v is
closer_loose t _ is link_buffer.Closed = refl
closer_loose t _ is link_buffer.Written = refl

free_by : (b : Bool) (o : Op) (a : Actor) → (b ≡ true → HoldsNothing a) → (IsFreeOp o → HoldsNothing a) → IsFreeOp (cond b (op.Load word.Failed) o) → HoldsNothing a
free_by true o a checking own is = checking refl
free_by false o a checking own is = own is

pub frees : (a : Actor) → IsFreeToCheck a → IsFreeOp (next a) → HoldsNothing a
frees (actor.User u) free is = free_by u.checks (user_op u u.step) (actor.User u) free (λ o. record { no_slot = user_frees u u.step o; no_tail = user_loose u u.step o }) is
frees (actor.Writer s) free is = free_by s.checks (writer_op s s.step) (actor.Writer s) free (λ o. record { no_slot = writer_frees s s.step o; no_tail = writer_loose s s.step o }) is
frees (actor.Flusher t) free is = free_by t.checks (flusher_op t t.step) (actor.Flusher t) free (λ o. record { no_slot = flusher_frees t t.step o; no_tail = λ b. refl }) is
frees (actor.Reader t) free is = free_by t.checks (reader_op t t.step) (actor.Reader t) free (λ o. record { no_slot = reader_frees t t.step o; no_tail = λ b. refl }) is
frees (actor.Closer t) free is = free_by t.checks (closer_op t t.step) (actor.Closer t) free (λ o. record { no_slot = refl; no_tail = closer_loose t t.step o }) is
frees (actor.Cleaner v) free is = free_by v.checks (cleaner_op v v.step) (actor.Cleaner v) free (λ o. record { no_slot = cleaner_frees v v.step o; no_tail = λ b. refl }) is
frees (actor.Checkpointer t) free is = free_by t.checks (checkpointer_op t t.step) (actor.Checkpointer t) free (λ o. record { no_slot = checkpointer_frees t t.step o; no_tail = λ b. refl }) is

-- the cleaner alone writes batches
user_batch : (u : UserState) (f : UserStep) → user_op u f ≡ op.WriteBatch → ⊥
user_batch u (user_step.AdvanceWritten s) e = advance_asks link_buffer.Written u.advance s op.WriteBatch e
user_batch u (user_step.AdvanceClosed s) e = advance_asks link_buffer.Closed u.advance s op.WriteBatch e
user_batch u _ e = absurd (cc)

writer_batch : (s : WriterState) (f : WriterStep) → writer_op s f ≡ op.WriteBatch → ⊥
writer_batch s (writer_step.Advance v) e = advance_asks link_buffer.Written s.advance v op.WriteBatch e
writer_batch s _ e = absurd (cc)

flusher_batch : (t : FlusherState) (f : FlusherStep) → flusher_op t f ≡ op.WriteBatch → ⊥
flusher_batch t flusher_step.LoadWrite e = absurd (cc)
flusher_batch t _ e = absurd (cc)

reader_batch : (t : ReaderState) (f : ReaderStep) → reader_op t f ≡ op.WriteBatch → ⊥
reader_batch t reader_step.LoadFlushed e = absurd (cc)
reader_batch t _ e = absurd (cc)

closer_batch : (t : CloserState) (f : CloserStep) → closer_op t f ≡ op.WriteBatch → ⊥
closer_batch t (closer_step.Advance v) e = advance_asks link_buffer.Closed t.advance v op.WriteBatch e
closer_batch t closer_step.Failed e = absurd (cc)

checkpointer_batch : (t : CheckpointerState) (f : CheckpointerStep) → checkpointer_op t f ≡ op.WriteBatch → ⊥
checkpointer_batch t checkpointer_step.LoadCtail e = absurd (cc)
checkpointer_batch t _ e = absurd (cc)

own_batch : (b : Bool) (o : Op) → cond b (op.Load word.Failed) o ≡ op.WriteBatch → o ≡ op.WriteBatch
own_batch true o e = absurd (cc)
own_batch false o e = e

pub batch_writer : (a : Actor) → next a ≡ op.WriteBatch → (v : CleanerState) × (a ≡ actor.Cleaner v)
batch_writer (actor.User u) e = absurd (user_batch u u.step (own_batch u.checks (user_op u u.step) e))
batch_writer (actor.Writer s) e = absurd (writer_batch s s.step (own_batch s.checks (writer_op s s.step) e))
batch_writer (actor.Flusher t) e = absurd (flusher_batch t t.step (own_batch t.checks (flusher_op t t.step) e))
batch_writer (actor.Reader t) e = absurd (reader_batch t t.step (own_batch t.checks (reader_op t t.step) e))
batch_writer (actor.Closer t) e = absurd (closer_batch t t.step (own_batch t.checks (closer_op t t.step) e))
batch_writer (actor.Cleaner v) e = (v, refl)
batch_writer (actor.Checkpointer t) e = absurd (checkpointer_batch t t.step (own_batch t.checks (checkpointer_op t t.step) e))

-- a user alone adds to a word
abbrev pub IsNoAddition : Op → Type 0
IsNoAddition (op.Add w x) = ⊥
IsNoAddition _ = Unit {0}

writer_adds_not : (s : WriterState) (f : WriterStep) → IsNoAddition (writer_op s f)
writer_adds_not s (writer_step.Advance advance_step.LoadTail) = tt
writer_adds_not s _ = tt

flusher_adds_not : (t : FlusherState) (f : FlusherStep) → IsNoAddition (flusher_op t f)
flusher_adds_not t flusher_step.LoadWrite = tt
flusher_adds_not t _ = tt

reader_adds_not : (t : ReaderState) (f : ReaderStep) → IsNoAddition (reader_op t f)
reader_adds_not t reader_step.LoadFlushed = tt
reader_adds_not t _ = tt

closer_adds_not : (t : CloserState) (f : CloserStep) → IsNoAddition (closer_op t f)
closer_adds_not t (closer_step.Advance advance_step.LoadTail) = tt
closer_adds_not t _ = tt

cleaner_adds_not : (v : CleanerState) (f : CleanerStep) → IsNoAddition (cleaner_op v f)
cleaner_adds_not v cleaner_step.LoadFlushed = tt
cleaner_adds_not v _ = tt

checkpointer_adds_not : (t : CheckpointerState) (f : CheckpointerStep) → IsNoAddition (checkpointer_op t f)
checkpointer_adds_not t checkpointer_step.LoadCtail = tt
checkpointer_adds_not t _ = tt

checking_adds_not : (b : Bool) (o : Op) → IsNoAddition o → IsNoAddition (cond b (op.Load word.Failed) o)
checking_adds_not true o is = tt
checking_adds_not false o is = is

pub user_or_no_addition : (a : Actor) → ((u : UserState) × (a ≡ actor.User u)) ⊎ IsNoAddition (next a)
user_or_no_addition (actor.User u) = inl (u, refl)
user_or_no_addition (actor.Writer s) = inr (checking_adds_not s.checks (writer_op s s.step) (writer_adds_not s s.step))
user_or_no_addition (actor.Flusher t) = inr (checking_adds_not t.checks (flusher_op t t.step) (flusher_adds_not t t.step))
user_or_no_addition (actor.Reader t) = inr (checking_adds_not t.checks (reader_op t t.step) (reader_adds_not t t.step))
user_or_no_addition (actor.Closer t) = inr (checking_adds_not t.checks (closer_op t t.step) (closer_adds_not t t.step))
user_or_no_addition (actor.Cleaner v) = inr (checking_adds_not v.checks (cleaner_op v v.step) (cleaner_adds_not v v.step))
user_or_no_addition (actor.Checkpointer t) = inr (checking_adds_not t.checks (checkpointer_op t t.step) (checkpointer_adds_not t t.step))
