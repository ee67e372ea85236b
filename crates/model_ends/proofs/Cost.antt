-- What is left to do of a run with the log alone: of each actor, and of the words.
use Rattle.std.proofs.Common.{Bool, List, [], cond, drop, length, ltb, ℕ, ◌*◌, ◌+◌, ◌-◌, ◌∷◌}
use Rattle.model_core.specs.{Actor, FlusherState, Line, SharedWords, UserState, WriterState, group_bytes, lsn, read_place}
use Rattle.model_core.specs.declared.steps.AdvanceStep.{AdvanceStep}
use Rattle.model_core.specs.declared.steps.FlusherStep.{FlusherStep}
use Rattle.model_core.specs.declared.steps.UserStep.{UserStep}
use Rattle.model_core.specs.declared.steps.WriterStep.{WriterStep}
use Rattle.model_ends.proofs.Links.{links}
use Rattle.model_core.specs.States as actor
use Rattle.model_core.specs.declared.steps.AdvanceStep.TheVariants as advance_step
use Rattle.model_core.specs.declared.steps.FlusherStep.TheVariants as flusher_step
use Rattle.model_core.specs.declared.steps.UserStep.TheVariants as user_step
use Rattle.model_core.specs.declared.steps.WriterStep.TheVariants as writer_step

-- the steps that a user goes on by in its lines, waits apart: one for each byte, and at most twelve more
abbrev pub lines_steps : List Line → ℕ
lines_steps [] = 0
lines_steps (l ∷ ls) = 12 + length l.bytes + lines_steps ls

abbrev pub steps_of : Actor → ℕ
steps_of (actor.User u) = lines_steps u.lines
steps_of _ = 0

-- the steps of the lines after the one in hand
abbrev pub rest : UserState → ℕ
rest u = lines_steps (drop (u.k + 1) u.lines)

-- the steps that a user still goes on by: a wait is none
abbrev pub user_cost : UserState → UserStep → ℕ
user_cost u user_step.LoadCheckpoint = rest u + (12 + length (group_bytes u))
user_cost u user_step.LoadSn = rest u + (11 + length (group_bytes u))
user_cost u user_step.Reserve = rest u + (10 + length (group_bytes u))
user_cost u user_step.LoadWrite = rest u + (9 + length (group_bytes u))
user_cost u user_step.AddCell = rest u + (8 + (length (group_bytes u) - u.copied))
user_cost u user_step.StoreFirst = rest u + 7
user_cost u user_step.LoadWtail = rest u + 6
user_cost u (user_step.AdvanceWritten advance_step.ClearLink) = rest u + 5
user_cost u (user_step.AdvanceWritten _) = rest u + 6
user_cost u user_step.ReloadWtail = rest u + 6
user_cost u user_step.StoreLink = rest u + 4
user_cost u user_step.AwaitMark = rest u + 1
user_cost u _ = 0

-- of the writer's advance, where its tail is above its last stored mark, and where it isn't
abbrev pub busy_cost : AdvanceStep → ℕ
busy_cost advance_step.LoadTail = 15
busy_cost advance_step.TakeTail = 14
busy_cost advance_step.LoadLink = 13
busy_cost advance_step.ClearLink = 12
busy_cost advance_step.FreeTail = 11

abbrev pub idle_cost : AdvanceStep → ℕ
idle_cost advance_step.ClearLink = 0
idle_cost _ = 1

abbrev pub is_busy : WriterState → Bool
is_busy s = ltb s.write s.tail

abbrev pub writer_here : WriterState → WriterStep → ℕ
writer_here s (writer_step.Advance v) = cond (is_busy s) (busy_cost v) (idle_cost v)
writer_here s writer_step.LoadCheckpoint = 10
writer_here s writer_step.LoadFirst = 9
writer_here s writer_step.ClearFirst = 8
writer_here s writer_step.LoadCell = 7
writer_here s writer_step.ClearCell = 6
writer_here s writer_step.TakeDevice = 5
writer_here s writer_step.WriteTo = 4
writer_here s writer_step.StoreWrite = 3
writer_here s writer_step.StoreFailed = 3
writer_here s writer_step.GiveDevice = 2
writer_here s _ = 0

-- the script's last group ends at `last`
module _ (last : ℕ) where
  abbrev pub writer_cost : WriterState → WriterStep → ℕ
  writer_cost s f = 16 * (last - s.tail) + 4 * (last - lsn (read_place s)) + writer_here s f

  abbrev pub flusher_here : FlusherStep → ℕ
  flusher_here flusher_step.LoadWrite = 4
  flusher_here flusher_step.TakeDevice = 3
  flusher_here flusher_step.Sync = 2
  flusher_here flusher_step.StoreFlushed = 1
  flusher_here flusher_step.StoreFailed = 1
  flusher_here flusher_step.GiveDevice = 5
  flusher_here _ = 0

  abbrev pub flusher_cost : FlusherState → FlusherStep → ℕ
  flusher_cost f st = 5 * (last - f.last) + flusher_here st

  abbrev pub cost : Actor → ℕ
  cost (actor.User u) = user_cost u u.step
  cost (actor.Writer s) = writer_cost s s.step
  cost (actor.Flusher f) = flusher_cost f f.step
  cost _ = 0

  -- of the words: the links that stand, and how far the tail still goes
  abbrev pub words_cost : SharedWords → ℕ
  words_cost m = 2 * links m.wlinks + (last - m.wtail)

-- what users alone have left
abbrev pub user_part : Actor → ℕ
user_part (actor.User u) = user_cost u u.step
user_part _ = 0
