-- The programs of the writer, the flusher and the closer; and before them an advance of a tail, by whoever needs space past it or
-- follows it: it takes the tail's word where that is free, follows the links from the tail on, clearing each, and frees the word with
-- the place to which they lead.
use Rattle.std.specs.Prelude.{Bool, cond, false, nat_lt, true, ℕ, ◌%◌, ◌+◌, ◌==◌, [], drop, length, nat_le, ◌*◌, ◌++◌, ◌-◌, ◌/◌, ◌∷◌}
use Rattle.model_core.specs.States.{Advance, WriterState, FlusherState, CloserState}
use Rattle.model_core.specs.Lanes.{is_held, tail_of, tail_word, cell_of, lane_of, left_in_word, ceiling, lsn}
use Rattle.model_core.specs.declared.ops.Op.{Op}
use Rattle.model_core.specs.declared.steps.AdvanceStep.{AdvanceStep}
use Rattle.model_core.specs.declared.words.LinkBuffer.{LinkBuffer}
use Rattle.model_core.specs.declared.words.Word.{Word}
use Rattle.model_core.specs.declared.ops.Op.TheVariants as op
use Rattle.model_core.specs.declared.steps.AdvanceStep.TheVariants as advance_step
use Rattle.model_core.specs.declared.words.LinkBuffer.TheVariants as link_buffer
use Rattle.model_core.specs.declared.words.Word.TheVariants as word
use Rattle.model_core.specs.declared.limits.TheConstants.{ADVANCE_PLACES, CLOSED_LINKS, WRITTEN_LINKS, BUFFER_BLOCKS}
use Rattle.model_core.specs.ActorProgram.{ActorProgram, opposite, on_call, code_of, old_of, on_take}
unfoldable use Rattle.model_core.specs.Lanes.{lanes}
use Rattle.model_core.specs.declared.ops.Answer.{Answer}
use Rattle.model_core.specs.declared.ops.Step.{Step}
use Rattle.model_core.specs.declared.steps.WriterStep.{WriterStep}
use Rattle.model_core.specs.declared.ops.Step.TheVariants as step
use Rattle.model_core.specs.declared.steps.WriterStep.TheVariants as writer_step
use Rattle.model_base.specs.declared.limits.TheConstants.{BLOCK_SIZE}
use Rattle.model_log.specs.declared.layout.TheConstants.{BLOCK_DATA}
use Rattle.model_core.specs.declared.steps.FlusherStep.{FlusherStep}
use Rattle.model_core.specs.declared.steps.FlusherStep.TheVariants as flusher_step
use Rattle.model_core.specs.declared.steps.CloserStep.{CloserStep}
use Rattle.model_core.specs.declared.steps.CloserStep.TheVariants as closer_step

-- a buffer's tail, and the slot of the link that starts at a place
abbrev pub tail_at : LinkBuffer → Word
tail_at link_buffer.Written = word.Wtail
tail_at link_buffer.Closed = word.Ctail

abbrev pub slot_at : LinkBuffer → ℕ → Word
slot_at link_buffer.Written place = word.Wlink (place % WRITTEN_LINKS)
slot_at link_buffer.Closed place = word.Clink (place % CLOSED_LINKS)

abbrev pub advance_op : LinkBuffer → Advance → AdvanceStep → Op
advance_op b v advance_step.LoadTail = op.Load (tail_at b)
advance_op b v advance_step.TakeTail = op.Swap (tail_at b) (tail_word v.tail false) (tail_word v.tail true)
advance_op b v advance_step.LoadLink = op.Load (slot_at b v.place)
advance_op b v advance_step.ClearLink = op.Store (slot_at b v.place) 0
advance_op b v advance_step.FreeTail = op.Store (tail_at b) (tail_word v.place false)

abbrev pub advance_took : Advance → ℕ → AdvanceStep → Advance
advance_took v n advance_step.LoadTail = record v { tail = tail_of n }
advance_took v n advance_step.TakeTail = record v { place = v.tail }
advance_took v n advance_step.LoadLink = record v { link = n }
advance_took v n advance_step.ClearLink = record v { place = v.place + v.link; link = 0 }
advance_took v n advance_step.FreeTail = v

-- the tail loaded last, where that was t before this step: an advance loads it anew
abbrev pub loaded_tail : (t : ℕ) → ℕ → AdvanceStep → ℕ
loaded_tail t n advance_step.LoadTail = tail_of n
loaded_tail t n _ = t

-- its next step, where it goes on
abbrev pub advance_next : Advance → ℕ → AdvanceStep → AdvanceStep
advance_next v n advance_step.LoadTail = advance_step.TakeTail
advance_next v n advance_step.TakeTail = advance_step.LoadLink
advance_next v n advance_step.LoadLink = cond (n == 0) advance_step.FreeTail advance_step.ClearLink
advance_next v n advance_step.ClearLink = cond (nat_lt (v.place + v.link) (v.tail + ADVANCE_PLACES)) advance_step.LoadLink advance_step.FreeTail
advance_next v n advance_step.FreeTail = advance_step.LoadTail

-- it ends with the tail where it was: the tail is held, the compare-exchange finds another word, or no link stood at the tail
abbrev pub stays_put : Advance → ℕ → AdvanceStep → Bool
stays_put v n advance_step.LoadTail = is_held n
stays_put v n advance_step.TakeTail = cond (n == tail_word v.tail false) false true
stays_put v n advance_step.FreeTail = v.place == v.tail
stays_put v n _ = false

-- it frees the tail, and so ends
abbrev pub frees : AdvanceStep → Bool
frees advance_step.FreeTail = true
frees _ = false

abbrev pub ends : Advance → ℕ → AdvanceStep → Bool
ends v n s = cond (frees s) true (stays_put v n s)

abbrev pub read_place : WriterState → ℕ
read_place s = s.from + length s.kept

-- it stands at a block that it hasn't entered
abbrev pub stands_outside : WriterState → Bool
stands_outside s = length s.kept == BLOCK_DATA * length s.firsts

abbrev pub full_blocks : WriterState → ℕ
full_blocks s = length s.kept / BLOCK_DATA

abbrev pub writer_op : WriterState → WriterStep → Op
writer_op s (writer_step.Advance v) = advance_op link_buffer.Written s.advance v
writer_op s writer_step.LoadCheckpoint = op.Load word.Ckpt
writer_op s writer_step.LoadFirst = op.Load (word.First (lsn (read_place s) / BLOCK_SIZE % BUFFER_BLOCKS))
writer_op s writer_step.ClearFirst = op.Store (word.First (lsn (read_place s) / BLOCK_SIZE % BUFFER_BLOCKS)) 0
writer_op s writer_step.LoadCell = op.Load (word.Cell (cell_of (read_place s)))
writer_op s writer_step.ClearCell = op.Store (word.Cell (cell_of (read_place s))) 0
writer_op s writer_step.TakeDevice = op.TakeDevice
writer_op s writer_step.GiveBroken = op.GiveDevice
writer_op s writer_step.WriteTo = op.WriteTo s.tail
writer_op s writer_step.StoreWrite = op.Store word.Write s.tail
writer_op s writer_step.GiveDevice = op.GiveDevice
writer_op s writer_step.StoreFailed = op.Store word.Failed s.code
writer_op s writer_step.GiveFailed = op.GiveDevice
writer_op s writer_step.Failed = op.Rest

-- the place after the last byte in the word of the read place; and whether all bytes there are below the tail
abbrev pub word_end : WriterState → ℕ
word_end s = read_place s + left_in_word (read_place s)

abbrev pub has_whole_word : WriterState → Bool
has_whole_word s = nat_le (left_in_word (read_place s)) (s.tail - lsn (read_place s))

-- the log has space up to its tail, where CKPT is this
abbrev pub has_log_space : WriterState → ℕ → Bool
has_log_space s n = nat_le (ceiling s.tail) (n + BLOCK_SIZE * s.blocks)

-- the tail with which it goes on: that which an advance has loaded, or that which it leaves
abbrev pub tail_after : WriterState → ℕ → AdvanceStep → ℕ
tail_after s n advance_step.LoadTail = tail_of n
tail_after s n advance_step.FreeTail = s.advance.place
tail_after s n _ = s.tail

-- an advance ends, and that isn't above its last stored mark
abbrev pub finds_no_more : WriterState → ℕ → AdvanceStep → Bool
finds_no_more s n v = cond (ends s.advance n v) (nat_le (tail_after s n v) s.write) false

abbrev pub writer_took : WriterState → Answer → WriterStep → WriterState
writer_took s a (writer_step.Advance v) = record s {
  advance = advance_took s.advance (old_of a) v;
  tail = tail_after s (old_of a) v;
  checks = finds_no_more s (old_of a) v;
  step = cond (finds_no_more s (old_of a) v) (writer_step.Advance advance_step.LoadTail) (cond (ends s.advance (old_of a) v) writer_step.LoadCheckpoint (writer_step.Advance (advance_next s.advance (old_of a) v)));
}
writer_took s a writer_step.LoadCheckpoint =
    cond (has_log_space s (old_of a))
    (record s { ckpt = old_of a; step = cond (stands_outside s) writer_step.LoadFirst writer_step.LoadCell })
    (record s { ckpt = old_of a; checks = true; step = writer_step.LoadCheckpoint })
writer_took s a writer_step.LoadFirst = record s { first = old_of a; step = writer_step.ClearFirst }
writer_took s a writer_step.ClearFirst = record s { firsts = s.firsts ++ s.first ∷ []; first = 0; step = writer_step.LoadCell }
writer_took s a writer_step.LoadCell =
    cond (has_whole_word s)
    (record s { word = old_of a; step = writer_step.ClearCell })
    (record s { kept = s.kept ++ lanes (lane_of (read_place s)) (s.tail - lsn (read_place s)) (old_of a); step = writer_step.TakeDevice })
writer_took s a writer_step.ClearCell = record s {
  kept = s.kept ++ lanes (lane_of (read_place s)) (left_in_word (read_place s)) s.word;
  word = 0;
  step = cond (lsn (word_end s) == s.tail) writer_step.TakeDevice (cond (length s.kept + left_in_word (read_place s) == BLOCK_DATA * length s.firsts) writer_step.LoadFirst writer_step.LoadCell);
}
writer_took s a writer_step.TakeDevice = record s { checks = on_take a false false true; step = on_take a writer_step.WriteTo writer_step.GiveBroken writer_step.TakeDevice }
writer_took s a writer_step.GiveBroken = record s { checks = true; step = writer_step.TakeDevice }
writer_took s a writer_step.WriteTo = record s { code = code_of a; step = on_call a writer_step.StoreWrite writer_step.StoreFailed }
writer_took s a writer_step.StoreWrite = record s {
  write = s.tail;
  from = s.from + BLOCK_DATA * full_blocks s;
  kept = drop (BLOCK_DATA * full_blocks s) s.kept;
  firsts = drop (full_blocks s) s.firsts;
  step = writer_step.GiveDevice;
}
writer_took s a writer_step.GiveDevice = record s { step = writer_step.Advance advance_step.LoadTail }
writer_took s a writer_step.StoreFailed = record s { step = writer_step.GiveFailed }
writer_took s a writer_step.GiveFailed = record s { step = writer_step.Failed }
writer_took s a writer_step.Failed = s

-- it waits for a tail above WRITE, for space in the log, for the log part
abbrev pub writer_waits : WriterState → Answer → WriterStep → Bool
writer_waits s a (writer_step.Advance v) = finds_no_more s (old_of a) v
writer_waits s a writer_step.LoadCheckpoint = opposite (has_log_space s (old_of a))
writer_waits s a writer_step.TakeDevice = on_take a false false true
writer_waits s a _ = false

abbrev pub writer_ending : ℕ → WriterStep → Step
writer_ending code writer_step.Failed = step.Failed code
writer_ending code _ = step.Moved

abbrev pub writer_program : ActorProgram WriterState
writer_program = record {
  checks = λ s. s.checks;
  goes_on = λ s. record s { checks = false };
  fails = λ s n. record s { code = n; step = writer_step.Failed };
  op = λ s. writer_op s s.step;
  took = λ s a. writer_took s a s.step;
  waits = λ s a. writer_waits s a s.step;
  ending = λ s. writer_ending s.code s.step;
}

abbrev pub flusher_op : FlusherState → FlusherStep → Op
flusher_op f flusher_step.LoadWrite = op.Load word.Write
flusher_op f flusher_step.TakeDevice = op.TakeDevice
flusher_op f flusher_step.GiveBroken = op.GiveDevice
flusher_op f flusher_step.Sync = op.Sync
flusher_op f flusher_step.StoreFlushed = op.Store word.Flushed f.mark
flusher_op f flusher_step.GiveDevice = op.GiveDevice
flusher_op f flusher_step.StoreFailed = op.Store word.Failed f.code
flusher_op f flusher_step.GiveFailed = op.GiveDevice
flusher_op f flusher_step.Failed = op.Rest

abbrev pub flusher_took : FlusherState → Answer → FlusherStep → FlusherState
flusher_took f a flusher_step.LoadWrite = cond (old_of a == f.last) (record f { write = old_of a; checks = true; step = flusher_step.LoadWrite }) (record f { write = old_of a; step = flusher_step.TakeDevice })
flusher_took f a flusher_step.TakeDevice = record f { checks = on_take a false false true; step = on_take a flusher_step.Sync flusher_step.GiveBroken flusher_step.TakeDevice }
flusher_took f a flusher_step.GiveBroken = record f { checks = true; step = flusher_step.TakeDevice }
flusher_took f a flusher_step.Sync = record f { mark = old_of a; code = code_of a; step = on_call a flusher_step.StoreFlushed flusher_step.StoreFailed }
flusher_took f a flusher_step.StoreFlushed = record f { last = f.mark; step = flusher_step.GiveDevice }
flusher_took f a flusher_step.GiveDevice = record f { step = flusher_step.LoadWrite }
flusher_took f a flusher_step.StoreFailed = record f { step = flusher_step.GiveFailed }
flusher_took f a flusher_step.GiveFailed = record f { step = flusher_step.Failed }
flusher_took f a flusher_step.Failed = f

-- it waits for something written, for the log part
abbrev pub flusher_waits : FlusherState → Answer → FlusherStep → Bool
flusher_waits f a flusher_step.LoadWrite = old_of a == f.last
flusher_waits f a flusher_step.TakeDevice = on_take a false false true
flusher_waits f a _ = false

abbrev pub flusher_ending : ℕ → FlusherStep → Step
flusher_ending code flusher_step.Failed = step.Failed code
flusher_ending code _ = step.Moved

abbrev pub flusher_program : ActorProgram FlusherState
flusher_program = record {
  checks = λ f. f.checks;
  goes_on = λ f. record f { checks = false };
  fails = λ f n. record f { code = n; step = flusher_step.Failed };
  op = λ f. flusher_op f f.step;
  took = λ f a. flusher_took f a f.step;
  waits = λ f a. flusher_waits f a f.step;
  ending = λ f. flusher_ending f.code f.step;
}

abbrev pub closer_op : CloserState → CloserStep → Op
closer_op t (closer_step.Advance v) = advance_op link_buffer.Closed t.advance v
closer_op t closer_step.Failed = op.Rest

abbrev pub closer_took : CloserState → Answer → CloserStep → CloserState
closer_took t a (closer_step.Advance v) = record t {
  advance = advance_took t.advance (old_of a) v;
  checks = stays_put t.advance (old_of a) v;
  step = closer_step.Advance (cond (ends t.advance (old_of a) v) advance_step.LoadTail (advance_next t.advance (old_of a) v));
}
closer_took t a closer_step.Failed = t

-- it waits for a link
abbrev pub closer_waits : CloserState → Answer → CloserStep → Bool
closer_waits t a (closer_step.Advance v) = stays_put t.advance (old_of a) v
closer_waits t a _ = false

abbrev pub closer_ending : ℕ → CloserStep → Step
closer_ending code closer_step.Failed = step.Failed code
closer_ending code _ = step.Moved

abbrev pub closer_program : ActorProgram CloserState
closer_program = record {
  checks = λ t. t.checks;
  goes_on = λ t. record t { checks = false };
  fails = λ t n. record t { code = n; step = closer_step.Failed };
  op = λ t. closer_op t t.step;
  took = λ t a. closer_took t a t.step;
  waits = λ t a. closer_waits t a t.step;
  ending = λ t. closer_ending t.code t.step;
}
