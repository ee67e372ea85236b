-- The answers that an actor may be given: with these no number of its own wraps, no byte is lost, and no list outgrows its
-- room.
use Rattle.std.specs.Prelude.{cond, false, length, ℕ, ◌*◌, ◌+◌, ◌-◌, ◌<◌, ◌^◌, ◌≡◌, ◌≤◌, true}
use Rattle.model_core.specs.States.{Actor, Advance, WriterState, UserState, CloserState}
use Rattle.model_core.specs.ActorProgram.{old_of}
use Rattle.model_core.specs.Program.{is_checking}
use Rattle.model_core.specs.Lanes.{tail_of, lane_of, left_in_word, lsn}
use Rattle.model_core.specs.UserProgram.{copy_place, group_bytes, next_bytes}
unfoldable use Rattle.model_core.specs.Lanes.{packed}
use Rattle.model_core.specs.LogPrograms.{full_blocks, has_whole_word, read_place}
use Rattle.model_core.specs.declared.ops.Answer.{Answer}
use Rattle.model_core.specs.declared.steps.AdvanceStep.{AdvanceStep}
use Rattle.model_core.specs.declared.steps.UserStep.{UserStep}
use Rattle.model_core.specs.declared.steps.WriterStep.{WriterStep}
use Rattle.model_core.specs.States as actor
use Rattle.model_core.specs.declared.steps.AdvanceStep.TheVariants as advance_step
use Rattle.model_core.specs.declared.steps.UserStep.TheVariants as user_step
use Rattle.model_core.specs.declared.steps.WriterStep.TheVariants as writer_step
use Rattle.model_base.specs.declared.limits.TheConstants.{BLOCK_SIZE, LSN_LIMIT}
use Rattle.model_core.specs.declared.limits.TheConstants.{BUFFER_BLOCKS}
use Rattle.model_log.specs.declared.layout.TheConstants.{BLOCK_DATA}
use Rattle.model_core.specs.declared.steps.CleanerStep.{CleanerStep}
use Rattle.model_core.specs.declared.steps.CloserStep.{CloserStep}
use Rattle.model_core.specs.declared.steps.CloserStep.TheVariants as closer_step

-- each lsn in an answer is below this, and each sn
abbrev pub answer_limit : ℕ
answer_limit = LSN_LIMIT + 2 ^ 30

abbrev pub advance_fits : Advance → ℕ → AdvanceStep → Type 0
advance_fits v n advance_step.LoadTail = tail_of n < answer_limit
advance_fits v n advance_step.LoadLink = v.place + n < answer_limit
advance_fits v n _ = Unit {0}

abbrev pub user_fits : UserState → ℕ → UserStep → Type 0
user_fits u n user_step.LoadCheckpoint = n < answer_limit
user_fits u n user_step.LoadSn = n < answer_limit
user_fits u n user_step.Reserve = n + length (group_bytes u) < answer_limit
user_fits u n user_step.LoadWrite = n < answer_limit
user_fits u n user_step.AddCell = n + packed (lane_of (copy_place u)) (next_bytes u) < 2 ^ 64
user_fits u n user_step.LoadWtail = tail_of n < answer_limit
user_fits u n (user_step.AdvanceWritten s) = advance_fits u.advance n s
user_fits u n user_step.ReloadWtail = tail_of n < answer_limit
user_fits u n _ = Unit {0}

abbrev pub writer_fits : WriterState → ℕ → WriterStep → Type 0
writer_fits s n (writer_step.Advance v) = advance_fits s.advance n v
writer_fits s n writer_step.LoadCheckpoint = n < answer_limit
writer_fits s n writer_step.LoadFirst = n < BLOCK_SIZE
writer_fits s n writer_step.ClearFirst = length s.firsts < BUFFER_BLOCKS
writer_fits s n writer_step.LoadCell = has_whole_word s ≡ false → length s.kept + (s.tail - lsn (read_place s)) ≤ BLOCK_DATA * BUFFER_BLOCKS
writer_fits s n writer_step.ClearCell = length s.kept + left_in_word (read_place s) ≤ BLOCK_DATA * BUFFER_BLOCKS
writer_fits s n writer_step.StoreWrite = (full_blocks s ≤ length s.firsts) × (s.from + length s.kept < answer_limit)
writer_fits s n _ = Unit {0}

abbrev pub own_fits : Actor → ℕ → Type 0
own_fits (actor.User u) n = user_fits u n u.step
own_fits (actor.Writer s) n = writer_fits s n s.step
own_fits _ n = Unit {0}

abbrev pub Fitting : Actor → Answer → Type 0
Fitting a r = cond (is_checking a) (Unit {0}) (own_fits a (old_of r))

-- of a user: of the tail of the recent-closed buffer
abbrev pub user_page_fits : UserState → ℕ → UserStep → Type 0
user_page_fits u n (user_step.AdvanceClosed s) = advance_fits u.advance n s
user_page_fits u n _ = Unit {0}

abbrev pub closer_fits : CloserState → ℕ → CloserStep → Type 0
closer_fits t n (closer_step.Advance v) = advance_fits t.advance n v
closer_fits t n _ = Unit {0}

abbrev pub cleaner_fits : ℕ → CleanerStep → Type 0
cleaner_fits n _ = Unit {0}

abbrev pub page_fits : Actor → ℕ → Type 0
page_fits (actor.User u) n = user_page_fits u n u.step
page_fits (actor.Closer t) n = closer_fits t n t.step
page_fits (actor.Cleaner v) n = cleaner_fits n v.step
page_fits _ n = Unit {0}

-- what it is given of the pages
abbrev pub PageFitting : Actor → Answer → Type 0
PageFitting a r = cond (is_checking a) (Unit {0}) (page_fits a (old_of r))

pub record AnswerFits (a : Actor) (r : Answer) : Type 0 where
  pub log : Fitting a r
  pub pages : PageFitting a r
  -- FAILED holds a code
  pub code : is_checking a ≡ true → old_of r < 2 ^ 32
