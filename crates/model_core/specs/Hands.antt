-- Which actor holds the log part, and which a tail. Which slot an actor holds: slot 0 has the log part, and slot suc i the flush
-- list i; and how it tells a failed device call.
use Rattle.std.specs.Prelude.{Bool, List, false, true, ℕ, ◌≡◌, ◌⊎◌, None, Option, Some, suc, ◌%◌}
use lib.ListN.{get_elem?}
use mathlib.Core.Option.{some}
use Rattle.model_core.specs.States.{Actor, Advance, no_advance, CheckpointerState, CleanerState, UserState}
use Rattle.model_core.specs.Program.{is_checking, ending}
use Rattle.model_core.specs.declared.steps.CheckpointerStep.{CheckpointerStep}
use Rattle.model_core.specs.declared.steps.CloserStep.{CloserStep}
use Rattle.model_core.specs.declared.steps.UserStep.{UserStep}
use Rattle.model_core.specs.declared.steps.ReaderStep.{ReaderStep}
use Rattle.model_core.specs.declared.steps.ReaderStep.TheVariants as reader_step
use Rattle.model_core.specs.declared.steps.WriterStep.{WriterStep}
use Rattle.model_core.specs.declared.words.LinkBuffer.{LinkBuffer}
use Rattle.model_core.specs.declared.steps.FlusherStep.{FlusherStep}
use Rattle.model_core.specs.declared.steps.CloserStep.TheVariants as closer_step
use Rattle.model_core.specs.declared.steps.UserStep.TheVariants as user_step
use Rattle.model_core.specs.declared.steps.WriterStep.TheVariants as writer_step
use Rattle.model_core.specs.declared.words.LinkBuffer.TheVariants as link_buffer
use Rattle.model_core.specs.declared.steps.FlusherStep.TheVariants as flusher_step
use Rattle.model_core.specs.declared.steps.CheckpointerStep.TheVariants as checkpointer_step
use Rattle.model_core.specs.States as actor
use Rattle.model_core.specs.declared.ops.Step.TheVariants as step
use Rattle.model_core.specs.declared.steps.AdvanceStep.TheVariants as advance_step
use Rattle.model_core.specs.declared.steps.CleanerStep.TheVariants as cleaner_step
use Rattle.model_core.specs.declared.steps.AdvanceStep.{AdvanceStep}
use Rattle.model_core.specs.PagePrograms.{first_of_batch}
use Rattle.model_core.specs.UserProgram.{current_page}
use Rattle.model_core.specs.declared.limits.TheConstants.{FLUSH_LISTS}
use Rattle.model_core.specs.declared.ops.Op.{Op}
use Rattle.model_core.specs.declared.ops.Op.TheVariants as op
use Rattle.model_core.specs.declared.steps.CleanerStep.{CleanerStep}
use Rattle.model_core.specs.declared.words.Word.TheVariants as word

-- it holds the tail
abbrev pub advance_holds : AdvanceStep → Bool
advance_holds advance_step.LoadTail = false
advance_holds advance_step.TakeTail = false
advance_holds _ = true

-- The cleaner is about to release a latch, since a group on its page isn't flushed; or the actor is about to free a tail. A
-- user and the closer then store the tail that they have loaded.
abbrev pub IsFreeing : Actor → Type 0
IsFreeing (actor.User u) = ((u.step ≡ user_step.AdvanceWritten advance_step.FreeTail) ⊎ (u.step ≡ user_step.AdvanceClosed advance_step.FreeTail)) × (u.advance.place ≡ u.advance.tail)
IsFreeing (actor.Writer s) = s.step ≡ writer_step.Advance advance_step.FreeTail
IsFreeing (actor.Closer t) = (t.step ≡ closer_step.Advance advance_step.FreeTail) × (t.advance.place ≡ t.advance.tail)
IsFreeing (actor.Cleaner v) = v.step ≡ cleaner_step.ReleaseSkipped
IsFreeing _ = ⊥

-- the actor has ended, well or by a failure
abbrev pub HasStopped : Actor → Type 0
HasStopped a = ending a ≡ step.Moved → ⊥

abbrev pub writer_holds : WriterStep → Bool
writer_holds writer_step.GiveBroken = true
writer_holds writer_step.WriteTo = true
writer_holds writer_step.StoreWrite = true
writer_holds writer_step.GiveDevice = true
writer_holds writer_step.StoreFailed = true
writer_holds writer_step.GiveFailed = true
writer_holds _ = false

abbrev pub flusher_holds : FlusherStep → Bool
flusher_holds flusher_step.GiveBroken = true
flusher_holds flusher_step.Sync = true
flusher_holds flusher_step.StoreFlushed = true
flusher_holds flusher_step.GiveDevice = true
flusher_holds flusher_step.StoreFailed = true
flusher_holds flusher_step.GiveFailed = true
flusher_holds _ = false

abbrev pub checkpointer_holds : CheckpointerStep → Bool
checkpointer_holds checkpointer_step.GiveBroken = true
checkpointer_holds checkpointer_step.Checkpoint = true
checkpointer_holds checkpointer_step.StoreCheckpoint = true
checkpointer_holds checkpointer_step.GiveDevice = true
checkpointer_holds checkpointer_step.StoreFailed = true
checkpointer_holds checkpointer_step.GiveFailed = true
checkpointer_holds _ = false

abbrev pub reader_holds : ReaderStep → Bool
reader_holds reader_step.GiveBroken = true
reader_holds reader_step.ReadBlock = true
reader_holds reader_step.GiveDevice = true
reader_holds reader_step.StoreFailed = true
reader_holds reader_step.GiveFailed = true
reader_holds _ = false

-- whether an actor holds the log part
abbrev pub holds : Actor → Bool
holds (actor.Writer s) = writer_holds s.step
holds (actor.Flusher f) = flusher_holds f.step
holds (actor.Checkpointer t) = checkpointer_holds t.step
holds (actor.Reader r) = reader_holds r.step
holds _ = false

-- whether an actor holds the tail of a link buffer: only while it advances it
abbrev pub user_holds_tail : LinkBuffer → UserStep → Bool
user_holds_tail link_buffer.Written (user_step.AdvanceWritten s) = advance_holds s
user_holds_tail link_buffer.Closed (user_step.AdvanceClosed s) = advance_holds s
user_holds_tail _ _ = false

abbrev pub writer_holds_tail : LinkBuffer → WriterStep → Bool
writer_holds_tail link_buffer.Written (writer_step.Advance v) = advance_holds v
writer_holds_tail _ _ = false

abbrev pub closer_holds_tail : LinkBuffer → CloserStep → Bool
closer_holds_tail link_buffer.Closed (closer_step.Advance v) = advance_holds v
closer_holds_tail _ _ = false

abbrev pub holds_tail : LinkBuffer → Actor → Bool
holds_tail b (actor.User u) = user_holds_tail b u.step
holds_tail b (actor.Writer s) = writer_holds_tail b s.step
holds_tail b (actor.Closer t) = closer_holds_tail b t.step
holds_tail b _ = false

-- an actor holds it
abbrev pub HasHolder : LinkBuffer → List Actor → Type 0
HasHolder b actors = (seat : ℕ) × (a : Actor) × (get_elem? actors seat ≡ some a) × (holds_tail b a ≡ true)

-- the advance that an actor makes
abbrev pub advance_of : Actor → Advance
advance_of (actor.User u) = u.advance
advance_of (actor.Writer s) = s.advance
advance_of (actor.Closer t) = t.advance
advance_of _ = no_advance

-- an actor that checks for a failure holds no tail
abbrev pub ChecksWithoutTail : Actor → Type 0
ChecksWithoutTail a = is_checking a ≡ true → (b : LinkBuffer) → holds_tail b a ≡ false

abbrev pub user_hand : UserState → UserStep → Option ℕ
user_hand u user_step.StoreOldest = Some (suc (current_page u % FLUSH_LISTS))
user_hand u user_step.GiveList = Some (suc (current_page u % FLUSH_LISTS))
user_hand u _ = None

abbrev pub writer_hand : WriterStep → Option ℕ
writer_hand writer_step.GiveBroken = Some 0
writer_hand writer_step.WriteTo = Some 0
writer_hand writer_step.StoreWrite = Some 0
writer_hand writer_step.GiveDevice = Some 0
writer_hand writer_step.StoreFailed = Some 0
writer_hand writer_step.GiveFailed = Some 0
writer_hand _ = None

abbrev pub flusher_hand : FlusherStep → Option ℕ
flusher_hand flusher_step.GiveBroken = Some 0
flusher_hand flusher_step.Sync = Some 0
flusher_hand flusher_step.StoreFlushed = Some 0
flusher_hand flusher_step.GiveDevice = Some 0
flusher_hand flusher_step.StoreFailed = Some 0
flusher_hand flusher_step.GiveFailed = Some 0
flusher_hand _ = None

abbrev pub cleaner_hand : CleanerState → CleanerStep → Option ℕ
cleaner_hand v cleaner_step.ClearOldest = Some (suc (first_of_batch v % FLUSH_LISTS))
cleaner_hand v cleaner_step.GiveList = Some (suc (first_of_batch v % FLUSH_LISTS))
cleaner_hand v _ = None

abbrev pub checkpointer_hand : CheckpointerState → CheckpointerStep → Option ℕ
checkpointer_hand t checkpointer_step.GiveList = Some (suc t.list)
checkpointer_hand t checkpointer_step.GiveBroken = Some 0
checkpointer_hand t checkpointer_step.Checkpoint = Some 0
checkpointer_hand t checkpointer_step.StoreCheckpoint = Some 0
checkpointer_hand t checkpointer_step.GiveDevice = Some 0
checkpointer_hand t checkpointer_step.StoreFailed = Some 0
checkpointer_hand t checkpointer_step.GiveFailed = Some 0
checkpointer_hand t _ = None

abbrev pub reader_hand : ReaderStep → Option ℕ
reader_hand reader_step.GiveBroken = Some 0
reader_hand reader_step.ReadBlock = Some 0
reader_hand reader_step.GiveDevice = Some 0
reader_hand reader_step.StoreFailed = Some 0
reader_hand reader_step.GiveFailed = Some 0
reader_hand _ = None

-- the slot that an actor holds
abbrev pub hand : Actor → Option ℕ
hand (actor.User u) = user_hand u u.step
hand (actor.Writer s) = writer_hand s.step
hand (actor.Flusher f) = flusher_hand f.step
hand (actor.Closer t) = None
hand (actor.Cleaner v) = cleaner_hand v v.step
hand (actor.Checkpointer t) = checkpointer_hand t t.step
hand (actor.Reader r) = reader_hand r.step

-- an actor holds no slot, and the tail of no link buffer
pub record HoldsNothing (a : Actor) : Type 0 where
  pub no_slot : hand a ≡ None
  pub no_tail : (b : LinkBuffer) → holds_tail b a ≡ false

-- who checks for a failure holds nothing
abbrev pub IsFreeToCheck : Actor → Type 0
IsFreeToCheck a = is_checking a ≡ true → HoldsNothing a

-- an Op for which its actor holds nothing: links are loaded by whoever holds their tail
abbrev pub IsFreeOp : Op → Type 0
IsFreeOp (op.Load (word.Wlink i)) = ⊥
IsFreeOp (op.Load (word.Clink i)) = ⊥
IsFreeOp (op.Store w x) = ⊥
IsFreeOp (op.Add w x) = ⊥
IsFreeOp (op.Swap w x y) = ⊥
IsFreeOp op.GiveDevice = ⊥
IsFreeOp (op.GiveList i) = ⊥
IsFreeOp (op.WriteTo t) = ⊥
IsFreeOp op.Sync = ⊥
IsFreeOp (op.Checkpoint x) = ⊥
IsFreeOp (op.ReadBlock b) = ⊥
IsFreeOp _ = Unit {0}

-- its call of the log device has failed with this code, it has stored that in FAILED, and gives the log part back
abbrev pub GivesFailed : Actor → ℕ → Type 0
GivesFailed (actor.Writer s) code = (s.step ≡ writer_step.GiveFailed) × (s.code ≡ code)
GivesFailed (actor.Flusher f) code = (f.step ≡ flusher_step.GiveFailed) × (f.code ≡ code)
GivesFailed (actor.Checkpointer t) code = (t.step ≡ checkpointer_step.GiveFailed) × (t.code ≡ code)
GivesFailed (actor.Reader r) code = (r.step ≡ reader_step.GiveFailed) × (r.code ≡ code)
GivesFailed _ code = ⊥

-- its call of the data device, or of its own, has failed with this code, and it stores that in FAILED
abbrev pub StoresFailed : Actor → ℕ → Type 0
StoresFailed (actor.Cleaner v) code = (v.step ≡ cleaner_step.StoreFailed) × (v.code ≡ code)
StoresFailed (actor.Reader r) code = (r.step ≡ reader_step.StoreLost) × (r.code ≡ code)
StoresFailed _ code = ⊥
