-- The programs of the cleaner and the checkpointer.
use Rattle.std.specs.Prelude.{Bool, [], cond, drop, false, get_or, length, nat_le, true, ℕ, ◌%◌, ◌++◌, ◌+◌, ◌-◌, ◌/◌, ◌==◌, ◌∷◌, None, Option, Some, min, nat_lt}
use Rattle.model_core.specs.ActorProgram.{ActorProgram, opposite, on_call, code_of, old_of, has_taken, oldest_in, on_take}
use Rattle.model_core.specs.States.{CleanerState, BatchPage, CheckpointerState}
use Rattle.model_core.specs.declared.ops.Answer.{Answer}
use Rattle.model_core.specs.declared.ops.Op.{Op}
use Rattle.model_core.specs.declared.ops.Step.{Step}
use Rattle.model_core.specs.declared.steps.CleanerStep.{CleanerStep}
use Rattle.model_core.specs.declared.words.Word.TheVariants as word
use Rattle.model_core.specs.declared.ops.Op.TheVariants as op
use Rattle.model_core.specs.declared.ops.Step.TheVariants as step
use Rattle.model_core.specs.declared.steps.CleanerStep.TheVariants as cleaner_step
use Rattle.model_core.specs.declared.limits.TheConstants.{FLUSH_LISTS, WORD_LANES, CLOSED_LINKS}
unfoldable use Rattle.model_core.specs.Lanes.{lanes}
use Rattle.model_core.specs.Lanes.{floor, tail_of}
use Rattle.model_core.specs.declared.steps.CheckpointerStep.{CheckpointerStep}
use Rattle.model_core.specs.declared.steps.CheckpointerStep.TheVariants as checkpointer_step

abbrev pub no_page : BatchPage
no_page = record { page = 0; lsn = 0; bytes = [] }

-- the page of the first of the batch
abbrev pub first_of_batch : CleanerState → ℕ
first_of_batch v = (get_or v.batch 0 no_page).page

abbrev pub cleaner_op : CleanerState → CleanerStep → Op
cleaner_op v cleaner_step.LoadFlushed = op.Load word.Flushed
cleaner_op v cleaner_step.LoadOldest = op.Load (word.Oldest v.page)
cleaner_op v cleaner_step.TakeLatch = op.Swap (word.Latch v.page) 0 1
cleaner_op v cleaner_step.LoadNewest = op.Load (word.Newest v.page)
cleaner_op v cleaner_step.ReleaseSkipped = op.Store (word.Latch v.page) 0
cleaner_op v cleaner_step.LoadFrame = op.Load (word.Frame v.page (length v.kept / WORD_LANES))
cleaner_op v cleaner_step.WriteBatch = op.WriteBatch
cleaner_op v cleaner_step.RemoveFromList = op.TakeRemove (first_of_batch v)
cleaner_op v cleaner_step.ClearOldest = op.Store (word.Oldest (first_of_batch v)) 0
cleaner_op v cleaner_step.GiveList = op.GiveList (first_of_batch v % FLUSH_LISTS)
cleaner_op v cleaner_step.ReleaseLatch = op.Store (word.Latch (first_of_batch v)) 0
cleaner_op v cleaner_step.StoreFailed = op.Store word.Failed v.code
cleaner_op v cleaner_step.Failed = op.Rest

-- the round is over
abbrev pub end_round : CleanerState → CleanerState
end_round v = cond (length v.batch == 0) (record v { checks = true; step = cleaner_step.LoadFlushed }) (record v { step = cleaner_step.WriteBatch })

-- it goes on to the next page
abbrev pub next_in_round : CleanerState → CleanerState
next_in_round v = cond (cond (v.left == 1) true (length v.batch == v.slots))
    (end_round (record v { page = cond (v.page + 1 == v.pages) 0 (v.page + 1); left = v.left - 1; kept = [] }))
    (record v { page = cond (v.page + 1 == v.pages) 0 (v.page + 1); left = v.left - 1; kept = []; step = cleaner_step.LoadOldest })

abbrev pub page_loaded : CleanerState → ℕ → BatchPage
page_loaded v n = record { page = v.page; lsn = v.newest; bytes = v.kept ++ lanes 0 WORD_LANES n }

abbrev pub cleaner_took : CleanerState → Answer → CleanerStep → CleanerState
cleaner_took v a cleaner_step.LoadFlushed = record v { flushed = old_of a; left = v.pages; batch = []; step = cleaner_step.LoadOldest }
cleaner_took v a cleaner_step.LoadOldest = cond (old_of a == 0) (next_in_round v) (record v { step = cleaner_step.TakeLatch })
cleaner_took v a cleaner_step.TakeLatch = cond (old_of a == 0) (record v { step = cleaner_step.LoadNewest }) (next_in_round v)
cleaner_took v a cleaner_step.LoadNewest = cond (nat_le (old_of a) v.flushed) (record v { newest = old_of a; kept = []; step = cleaner_step.LoadFrame }) (record v { step = cleaner_step.ReleaseSkipped })
cleaner_took v a cleaner_step.ReleaseSkipped = next_in_round v
cleaner_took v a cleaner_step.LoadFrame = cond (length v.kept + WORD_LANES == v.page_size) (next_in_round (record v { batch = v.batch ++ page_loaded v (old_of a) ∷ [] })) (record v { kept = v.kept ++ lanes 0 WORD_LANES (old_of a); step = cleaner_step.LoadFrame })
cleaner_took v a cleaner_step.WriteBatch = record v { code = code_of a; step = on_call a cleaner_step.RemoveFromList cleaner_step.StoreFailed }
cleaner_took v a cleaner_step.RemoveFromList = cond (has_taken a) (record v { step = cleaner_step.ClearOldest }) (record v { checks = true; step = cleaner_step.RemoveFromList })
cleaner_took v a cleaner_step.ClearOldest = record v { step = cleaner_step.GiveList }
cleaner_took v a cleaner_step.GiveList = record v { step = cleaner_step.ReleaseLatch }
cleaner_took v a cleaner_step.ReleaseLatch = record v { batch = drop 1 v.batch; step = cond (length v.batch == 1) cleaner_step.LoadFlushed cleaner_step.RemoveFromList }
cleaner_took v a cleaner_step.StoreFailed = record v { step = cleaner_step.Failed }
cleaner_took v a cleaner_step.Failed = v

-- the round ends with no page to write
abbrev pub finds_none : CleanerState → Bool
finds_none v = cond (v.left == 1) (length v.batch == 0) false

-- it waits for a page to write, where its round ends without one; for a flush list
abbrev pub cleaner_waits : CleanerState → Answer → CleanerStep → Bool
cleaner_waits v a cleaner_step.LoadOldest = cond (old_of a == 0) (finds_none v) false
cleaner_waits v a cleaner_step.TakeLatch = cond (old_of a == 0) false (finds_none v)
cleaner_waits v a cleaner_step.ReleaseSkipped = finds_none v
cleaner_waits v a cleaner_step.RemoveFromList = opposite (has_taken a)
cleaner_waits v a _ = false

abbrev pub cleaner_ending : ℕ → CleanerStep → Step
cleaner_ending code cleaner_step.Failed = step.Failed code
cleaner_ending code _ = step.Moved

abbrev pub cleaner_program : ActorProgram CleanerState
cleaner_program = record {
  checks = λ v. v.checks;
  goes_on = λ v. record v { checks = false };
  fails = λ v n. record v { code = n; step = cleaner_step.Failed };
  op = λ v. cleaner_op v v.step;
  took = λ v a. cleaner_took v a v.step;
  waits = λ v a. cleaner_waits v a v.step;
  ending = λ v. cleaner_ending v.code v.step;
}

abbrev pub checkpointer_op : CheckpointerState → CheckpointerStep → Op
checkpointer_op t checkpointer_step.LoadCtail = op.Load word.Ctail
checkpointer_op t checkpointer_step.LoadPlace = op.Load (word.Place t.reader)
checkpointer_op t checkpointer_step.ReadList = op.TakeOldest t.list
checkpointer_op t checkpointer_step.GiveList = op.GiveList t.list
checkpointer_op t checkpointer_step.LoadFlushed = op.Load word.Flushed
checkpointer_op t checkpointer_step.TakeDevice = op.TakeDevice
checkpointer_op t checkpointer_step.GiveBroken = op.GiveDevice
checkpointer_op t checkpointer_step.Checkpoint = op.Checkpoint t.to
checkpointer_op t checkpointer_step.StoreCheckpoint = op.Store word.Ckpt t.to
checkpointer_op t checkpointer_step.GiveDevice = op.GiveDevice
checkpointer_op t checkpointer_step.StoreFailed = op.Store word.Failed t.code
checkpointer_op t checkpointer_step.GiveFailed = op.GiveDevice
checkpointer_op t checkpointer_step.Failed = op.Rest

-- the candidate under a list's oldest end
abbrev pub lowered : ℕ → Option ℕ → ℕ
lowered x None = x
lowered x (Some a) = min x (a - CLOSED_LINKS)

-- its candidate, where FLUSHED is this, and whether that is above its last checkpoint
abbrev pub candidate : CheckpointerState → ℕ → ℕ
candidate t n = floor (min t.to n)

abbrev pub is_above : CheckpointerState → ℕ → Bool
is_above t n = nat_lt t.own (candidate t n)

abbrev pub checkpointer_took : CheckpointerState → Answer → CheckpointerStep → CheckpointerState
checkpointer_took t a checkpointer_step.LoadCtail = record t { ctail = tail_of (old_of a); to = tail_of (old_of a); list = 0; reader = t.first; step = cond (t.first == t.last) checkpointer_step.ReadList checkpointer_step.LoadPlace }
checkpointer_took t a checkpointer_step.LoadPlace = record t { to = min t.to (old_of a); reader = t.reader + 1; step = cond (t.reader + 1 == t.last) checkpointer_step.ReadList checkpointer_step.LoadPlace }
checkpointer_took t a checkpointer_step.ReadList = cond (has_taken a) (record t { to = lowered t.to (oldest_in a); step = checkpointer_step.GiveList }) (record t { checks = true; step = checkpointer_step.ReadList })
checkpointer_took t a checkpointer_step.GiveList = record t { list = t.list + 1; step = cond (t.list + 1 == FLUSH_LISTS) checkpointer_step.LoadFlushed checkpointer_step.ReadList }
checkpointer_took t a checkpointer_step.LoadFlushed = cond (is_above t (old_of a)) (record t { flushed = old_of a; to = candidate t (old_of a); step = checkpointer_step.TakeDevice }) (record t { flushed = old_of a; checks = true; step = checkpointer_step.LoadCtail })
checkpointer_took t a checkpointer_step.TakeDevice = record t { checks = on_take a false false true; step = on_take a checkpointer_step.Checkpoint checkpointer_step.GiveBroken checkpointer_step.TakeDevice }
checkpointer_took t a checkpointer_step.GiveBroken = record t { checks = true; step = checkpointer_step.TakeDevice }
checkpointer_took t a checkpointer_step.Checkpoint = record t { code = code_of a; step = on_call a checkpointer_step.StoreCheckpoint checkpointer_step.StoreFailed }
checkpointer_took t a checkpointer_step.StoreCheckpoint = record t { own = t.to; step = checkpointer_step.GiveDevice }
checkpointer_took t a checkpointer_step.GiveDevice = record t { step = checkpointer_step.LoadCtail }
checkpointer_took t a checkpointer_step.StoreFailed = record t { step = checkpointer_step.GiveFailed }
checkpointer_took t a checkpointer_step.GiveFailed = record t { step = checkpointer_step.Failed }
checkpointer_took t a checkpointer_step.Failed = t

-- it waits for a flush list, for a higher checkpoint, for the log part
abbrev pub checkpointer_waits : CheckpointerState → Answer → CheckpointerStep → Bool
checkpointer_waits t a checkpointer_step.ReadList = opposite (has_taken a)
checkpointer_waits t a checkpointer_step.LoadFlushed = opposite (is_above t (old_of a))
checkpointer_waits t a checkpointer_step.TakeDevice = on_take a false false true
checkpointer_waits t a _ = false

abbrev pub checkpointer_ending : ℕ → CheckpointerStep → Step
checkpointer_ending code checkpointer_step.Failed = step.Failed code
checkpointer_ending code _ = step.Moved

abbrev pub checkpointer_program : ActorProgram CheckpointerState
checkpointer_program = record {
  checks = λ t. t.checks;
  goes_on = λ t. record t { checks = false };
  fails = λ t n. record t { code = n; step = checkpointer_step.Failed };
  op = λ t. checkpointer_op t t.step;
  took = λ t a. checkpointer_took t a t.step;
  waits = λ t a. checkpointer_waits t a t.step;
  ending = λ t. checkpointer_ending t.code t.step;
}
