-- An actor that has done nothing holds no slot and no tail.
use Rattle.model_core.specs.{ReaderState, reader_hand, checkpointer_hand, cleaner_hand, flusher_hand, hand, HoldsNothing, user_hand, writer_hand, closer_holds_tail, user_holds_tail, writer_holds_tail, CheckpointerState, CleanerState, CloserState, FlusherState, holds_tail, new_user, UserState, WriterState, Setup}
use Rattle.std.proofs.Common.{Bool, None, ap, cond, false, length, refl, true, ℕ, ◌==◌, ◌∙◌, ◌≡◌}
use Rattle.model_core.specs.States as model
use Rattle.model_core.specs.declared.steps.AdvanceStep.TheVariants as advance_step
use Rattle.model_core.specs.declared.steps.CloserStep.TheVariants as closer_step
use Rattle.model_core.specs.declared.steps.UserStep.TheVariants as user_step
use Rattle.model_core.specs.declared.steps.WriterStep.TheVariants as writer_step
use Rattle.model_core.specs.declared.words.LinkBuffer.{LinkBuffer}
use Rattle.model_core.specs.declared.words.LinkBuffer.TheVariants as link_buffer
use Rattle.model_logcore.specs.Start.{StartActor}

-- a new actor holds nothing
user_none : (u : UserState) (b : Bool) → user_hand u (cond b user_step.Done user_step.LoadCheckpoint) ≡ None
user_none u true = refl
user_none u false = refl

pub start_hand : (c : Setup) (seat_of : ℕ → ℕ) (writer n : ℕ) (a : model.Actor) → StartActor c seat_of writer n a → hand a ≡ None
start_hand c seat_of writer n (model.User u) is = ap (λ (z : UserState). user_hand z z.step) is.1.is ∙ user_none (new_user u.user c.blocks (c.script u.user)) (length (c.script u.user) == 0)
start_hand c seat_of writer n (model.Writer s) is = ap (λ (z : WriterState). writer_hand z.step) is.1
start_hand c seat_of writer n (model.Flusher t) is = ap (λ (z : FlusherState). flusher_hand z.step) is.1
start_hand c seat_of writer n (model.Closer t) is = refl
start_hand c seat_of writer n (model.Cleaner v) is = ap (λ (z : CleanerState). cleaner_hand z z.step) is.1
start_hand c seat_of writer n (model.Checkpointer t) is = ap (λ (z : CheckpointerState). checkpointer_hand z z.step) is.1
start_hand c seat_of writer n (model.Reader t) is = ap (λ (z : ReaderState). reader_hand z.step) is.3

user_free : (b : Bool) (l : LinkBuffer) → user_holds_tail l (cond b user_step.Done user_step.LoadCheckpoint) ≡ false
user_free true link_buffer.Written = refl
user_free true link_buffer.Closed = refl
user_free false link_buffer.Written = refl
user_free false link_buffer.Closed = refl

writer_free : (l : LinkBuffer) → writer_holds_tail l (writer_step.Advance advance_step.LoadTail) ≡ false
writer_free link_buffer.Written = refl
writer_free link_buffer.Closed = refl

closer_free : (l : LinkBuffer) → closer_holds_tail l (closer_step.Advance advance_step.LoadTail) ≡ false
closer_free link_buffer.Written = refl
closer_free link_buffer.Closed = refl

pub start_tail : (c : Setup) (seat_of : ℕ → ℕ) (writer n : ℕ) (a : model.Actor) → StartActor c seat_of writer n a → (l : LinkBuffer) → holds_tail l a ≡ false
start_tail c seat_of writer n (model.User u) is l = ap (λ (z : UserState). user_holds_tail l z.step) is.1.is ∙ user_free (length (c.script u.user) == 0) l
start_tail c seat_of writer n (model.Writer s) is l = ap (λ (z : WriterState). writer_holds_tail l z.step) is.1 ∙ writer_free l
start_tail c seat_of writer n (model.Closer t) is l = ap (λ (z : CloserState). closer_holds_tail l z.step) is.1 ∙ closer_free l
start_tail c seat_of writer n (model.Flusher t) is l = refl
start_tail c seat_of writer n (model.Cleaner v) is l = refl
start_tail c seat_of writer n (model.Checkpointer t) is l = refl
start_tail c seat_of writer n (model.Reader t) is l = refl

pub start_empty : (c : Setup) (seat_of : ℕ → ℕ) (writer n : ℕ) (a : model.Actor) → StartActor c seat_of writer n a → HoldsNothing a
start_empty c seat_of writer n a is = record { no_slot = start_hand c seat_of writer n a is; no_tail = start_tail c seat_of writer n a is }
