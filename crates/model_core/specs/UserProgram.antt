-- The program of a user: its next Op, and its state after the answer.
use Rattle.std.specs.Prelude.{Bool, List, [], cond, drop, false, get_or, length, min, nat_le, nat_lt, slice_set, suc, take, true, ℕ, ◌%◌, ◌*◌, ◌++◌, ◌+◌, ◌-◌, ◌/◌, ◌==◌, ◌∷◌}
use Rattle.model_core.specs.ActorProgram.{ActorProgram, opposite, heard}
use Rattle.model_core.specs.LogPrograms.{advance_next, advance_op, advance_took, frees, loaded_tail, stays_put}
use Rattle.model_core.specs.States.{PageChange, CellWrite, Line, LoadedMarks, UserState}
use Rattle.model_core.specs.Lanes.{cell_of, lane_of, left_in_word, floor, lsn, tail_of}
unfoldable use Rattle.model_core.specs.Lanes.{lanes, packed}
use Rattle.model_core.specs.declared.ops.Op.{Op}
use Rattle.model_core.specs.declared.ops.Step.{Step}
use Rattle.model_core.specs.declared.steps.AdvanceStep.{AdvanceStep}
use Rattle.model_core.specs.declared.steps.UserStep.{UserStep}
use Rattle.model_core.specs.declared.words.Word.TheVariants as word
use Rattle.model_core.specs.declared.ops.Op.TheVariants as op
use Rattle.model_core.specs.declared.ops.Step.TheVariants as step
use Rattle.model_core.specs.declared.steps.AdvanceStep.TheVariants as advance_step
use Rattle.model_core.specs.declared.steps.UserStep.TheVariants as user_step
use Rattle.model_core.specs.declared.words.LinkBuffer.TheVariants as link_buffer
use Rattle.model_base.specs.declared.limits.TheConstants.{BLOCK_SIZE}
use Rattle.model_log.specs.declared.layout.TheConstants.{BLOCK_DATA}
use Rattle.model_core.specs.declared.limits.TheConstants.{BUFFER_BLOCKS, CLOSED_LINKS, FLUSH_LISTS, FREE_MARGIN, LOG_BUFFER, WORD_LANES, WRITTEN_LINKS}

abbrev pub line_at : List Line → ℕ → Line
line_at lines k = get_or lines k (record { mode = 0; bytes = []; changes = [] })

abbrev pub line : UserState → Line
line u = line_at u.lines u.k

-- the bytes of the group in hand, where it ends, and whether it ends in another block
abbrev pub group_bytes : UserState → List ℕ
group_bytes u = (line_at u.lines u.k).bytes

-- the pages that it touches, the one that it is at, and the cell that it is at there
abbrev pub changes : UserState → List PageChange
changes u = (line_at u.lines u.k).changes

abbrev pub change_at : List PageChange → ℕ → PageChange
change_at cs i = get_or cs i (record { page = 0; cells = [] })

abbrev pub current_page : UserState → ℕ
current_page u = (change_at (changes u) u.page).page

abbrev pub cells_of : UserState → List CellWrite
cells_of u = (change_at (changes u) u.page).cells

abbrev pub put_of : UserState → CellWrite
put_of u = get_or (cells_of u) u.cell (record { at = 0; value = 0 })

-- how many of these cells, from the first on, lie in this word of a frame
abbrev pub same_word : ℕ → List CellWrite → ℕ
same_word q [] = 0
same_word q (x ∷ xs) = cond (x.at / WORD_LANES == q) (suc (same_word q xs)) 0

-- the word of the frame in which the next changed cell lies; how many of the next cells lie there, and which
abbrev pub frame_word : UserState → ℕ
frame_word u = (put_of u).at / WORD_LANES

abbrev pub frame_count : UserState → ℕ
frame_count u = same_word (frame_word u) (drop u.cell (cells_of u))

abbrev pub next_puts : UserState → List CellWrite
next_puts u = take (frame_count u) (drop u.cell (cells_of u))

-- from a cell on all lanes of its word change; where some stay, the word is loaded first
abbrev pub is_whole : List CellWrite → ℕ → Bool
is_whole cells i = nat_le WORD_LANES (same_word ((get_or cells i (record { at = 0; value = 0 })).at / WORD_LANES) (drop i cells))

abbrev pub word_step : List CellWrite → ℕ → UserStep
word_step cells i = cond (is_whole cells i) user_step.StoreFrame user_step.LoadFrame

-- eight lanes with these cells stored in theirs
abbrev pub put_lanes : List CellWrite → List ℕ → List ℕ
put_lanes [] lanes = lanes
put_lanes (x ∷ xs) lanes = put_lanes xs (slice_set lanes (x.at % WORD_LANES) x.value)

-- the word that it has loaded, with those
abbrev pub stored_word : UserState → ℕ
stored_word u = packed 0 (put_lanes (next_puts u) (lanes 0 WORD_LANES u.word))

abbrev pub group_end : UserState → ℕ
group_end u = u.start + length (group_bytes u)

abbrev pub mode : UserState → ℕ
mode u = (line_at u.lines u.k).mode

-- where the next byte of the group goes; how many bytes go into one word from there, and which
abbrev pub copy_place : UserState → ℕ
copy_place u = u.start + u.copied

abbrev pub next_count : UserState → ℕ
next_count u = min (left_in_word (copy_place u)) (length (group_bytes u) - u.copied)

abbrev pub next_bytes : UserState → List ℕ
next_bytes u = take (next_count u) (drop u.copied (group_bytes u))

abbrev pub user_op : UserState → UserStep → Op
user_op u user_step.LoadCheckpoint = op.Load word.Ckpt
user_op u user_step.LoadSn = op.Load word.Sn
user_op u user_step.TakeLatch = op.Swap (word.Latch (current_page u)) 0 1
user_op u user_step.Reserve = op.Add word.Sn (length (group_bytes u))
user_op u user_step.LoadWrite = op.Load word.Write
user_op u user_step.AddCell = op.Add (word.Cell (cell_of (copy_place u))) (packed (lane_of (copy_place u)) (next_bytes u))
user_op u user_step.StoreFirst = op.Store (word.First (lsn (group_end u) / BLOCK_SIZE % BUFFER_BLOCKS)) (lsn (group_end u) % BLOCK_SIZE)
user_op u user_step.LoadWtail = op.Load word.Wtail
user_op u (user_step.AdvanceWritten s) = advance_op link_buffer.Written u.advance s
user_op u user_step.ReloadWtail = op.Load word.Wtail
user_op u user_step.StoreLink = op.Store (word.Wlink (lsn u.start % WRITTEN_LINKS)) (lsn (group_end u) - lsn u.start)
user_op u user_step.LoadCtail = op.Load word.Ctail
user_op u (user_step.AdvanceClosed s) = advance_op link_buffer.Closed u.advance s
user_op u user_step.ReloadCtail = op.Load word.Ctail
user_op u user_step.LoadFrame = op.Load (word.Frame (current_page u) (frame_word u))
user_op u user_step.StoreFrame = op.Store (word.Frame (current_page u) (frame_word u)) (stored_word u)
user_op u user_step.StoreNewest = op.Store (word.Newest (current_page u)) (lsn (group_end u))
user_op u user_step.LoadOldest = op.Load (word.Oldest (current_page u))
user_op u user_step.AddToList = op.TakeAdd (current_page u) (lsn u.start)
user_op u user_step.StoreOldest = op.Store (word.Oldest (current_page u)) (lsn u.start)
user_op u user_step.GiveList = op.GiveList (current_page u % FLUSH_LISTS)
user_op u user_step.StoreClosedLink = op.Store (word.Clink (lsn u.start % CLOSED_LINKS)) (lsn (group_end u) - lsn u.start)
user_op u user_step.ReleaseLatch = op.Store (word.Latch (current_page u)) 0
user_op u user_step.AwaitMark = op.Load (cond (mode u == 1) word.Flushed word.Write)
user_op u user_step.Done = op.Rest
user_op u user_step.Failed = op.Rest

-- the log has space beyond this SN for groups that have begun
abbrev pub has_space : UserState → ℕ → Bool
has_space u n = nat_le (lsn n + FREE_MARGIN) (u.loaded.ckpt + BLOCK_SIZE * u.blocks)

-- the log buffer has room for the group in hand, where WRITE is this
abbrev pub has_room : UserState → ℕ → Bool
has_room u n = nat_lt (lsn (group_end u)) (floor n + LOG_BUFFER)

-- the recent-written buffer has the place of its link, where its tail is this; the recent-closed buffer, where its tail is this
abbrev pub can_link : UserState → ℕ → Bool
can_link u n = nat_lt (lsn u.start) (n + WRITTEN_LINKS)

abbrev pub can_close : UserState → ℕ → Bool
can_close u n = nat_lt (lsn u.start) (n + CLOSED_LINKS)

-- the mark that it awaits has passed its end
abbrev pub has_passed : UserState → ℕ → Bool
has_passed u n = nat_le (lsn (group_end u)) n

-- the commit of the group in hand is answered
abbrev pub answered : UserState → UserState
answered u = record u { k = u.k + 1; checks = cond (u.k + 1 == length u.lines) false true; step = cond (u.k + 1 == length u.lines) user_step.Done user_step.LoadCheckpoint }

-- the group is linked, and closed where it has pages
abbrev pub after_link : UserState → UserState
after_link u = cond (mode u == 0) (answered u) (record u { step = user_step.AwaitMark })

-- with the mark that it awaits, loaded
abbrev pub with_mark : UserState → ℕ → LoadedMarks
with_mark u n = cond (mode u == 1) (record u.loaded { flushed = n }) (record u.loaded { write = n })

-- it is done with the page that it is at
abbrev pub to_next_page : UserState → UserState
to_next_page u = record u { page = u.page + 1; cell = 0; step = cond (u.page + 1 == length (changes u)) user_step.StoreClosedLink (cond (0 == length (change_at (changes u) (u.page + 1)).cells) user_step.StoreNewest (word_step (change_at (changes u) (u.page + 1)).cells 0)) }

-- it has found room in the recent-written buffer, where the word WTAIL is this; it hasn't
abbrev pub with_link_room : UserState → ℕ → UserState
with_link_room u n = record u { loaded = record u.loaded { wtail = tail_of n }; step = user_step.StoreLink }

abbrev pub without_link_room : UserState → ℕ → Bool → UserStep → UserState
without_link_room u n waits s = record u { loaded = record u.loaded { wtail = tail_of n }; checks = waits; step = s }

-- the same of the recent-closed buffer, where the word CTAIL is this
abbrev pub with_close_room : UserState → ℕ → UserState
with_close_room u n = record u { loaded = record u.loaded { ctail = tail_of n }; step = cond (u.cell == length (cells_of u)) user_step.StoreNewest (word_step (cells_of u) u.cell) }

abbrev pub without_close_room : UserState → ℕ → Bool → UserStep → UserState
without_close_room u n waits s = record u { loaded = record u.loaded { ctail = tail_of n }; checks = waits; step = s }

-- It advances a tail, with these marks as the last that it has loaded. Where the tail has moved it loads it again; where it
-- hasn't it waits, and then begins with the first load of it.
abbrev pub user_advanced : UserState → ℕ → AdvanceStep → (loaded : LoadedMarks) → (on moved first : UserStep) → UserState
user_advanced u n s loaded on moved first = record u {
  loaded = loaded;
  advance = advance_took u.advance n s;
  checks = stays_put u.advance n s;
  step = cond (stays_put u.advance n s) first (cond (frees s) moved on);
}

abbrev pub user_took : UserState → ℕ → UserStep → UserState
user_took u n user_step.LoadCheckpoint = record u { loaded = record u.loaded { ckpt = n }; step = user_step.LoadSn }
user_took u n user_step.LoadSn = cond (has_space u n) (record u { page = 0; cell = 0; step = cond (length (changes u) == 0) user_step.Reserve user_step.TakeLatch }) (record u { checks = true; step = user_step.LoadCheckpoint })
user_took u n user_step.TakeLatch = cond (n == 0) (record u { page = u.page + 1; step = cond (u.page + 1 == length (changes u)) user_step.Reserve user_step.TakeLatch }) (record u { checks = true; step = user_step.TakeLatch })
user_took u n user_step.Reserve = record u { starts = u.starts ++ n ∷ []; start = n; copied = 0; page = 0; cell = 0; step = user_step.LoadWrite }
user_took u n user_step.LoadWrite = cond (has_room u n) (record u { loaded = record u.loaded { write = n }; step = user_step.AddCell }) (record u { loaded = record u.loaded { write = n }; checks = true; step = user_step.LoadWrite })
user_took u n user_step.AddCell = record u { copied = u.copied + next_count u; step = cond (u.copied + next_count u == length (group_bytes u)) (cond (nat_lt (u.start / BLOCK_DATA) (group_end u / BLOCK_DATA)) user_step.StoreFirst user_step.LoadWtail) user_step.AddCell }
user_took u n user_step.StoreFirst = record u { step = user_step.LoadWtail }
user_took u n user_step.LoadWtail = cond (can_link u (tail_of n)) (with_link_room u n) (without_link_room u n false (user_step.AdvanceWritten advance_step.LoadTail))
user_took u n (user_step.AdvanceWritten s) = user_advanced u n s (record u.loaded { wtail = loaded_tail u.loaded.wtail n s }) (user_step.AdvanceWritten (advance_next u.advance n s)) user_step.ReloadWtail user_step.LoadWtail
user_took u n user_step.ReloadWtail = cond (can_link u (tail_of n)) (with_link_room u n) (without_link_room u n true user_step.LoadWtail)
user_took u n user_step.StoreLink = cond (length (changes u) == 0) (after_link u) (record u { step = user_step.LoadCtail })
user_took u n user_step.LoadCtail = cond (can_close u (tail_of n)) (with_close_room u n) (without_close_room u n false (user_step.AdvanceClosed advance_step.LoadTail))
user_took u n (user_step.AdvanceClosed s) = user_advanced u n s (record u.loaded { ctail = loaded_tail u.loaded.ctail n s }) (user_step.AdvanceClosed (advance_next u.advance n s)) user_step.ReloadCtail user_step.LoadCtail
user_took u n user_step.ReloadCtail = cond (can_close u (tail_of n)) (with_close_room u n) (without_close_room u n true user_step.LoadCtail)
user_took u n user_step.LoadFrame = record u { word = n; step = user_step.StoreFrame }
user_took u n user_step.StoreFrame = record u { cell = u.cell + frame_count u; word = 0; step = cond (u.cell + frame_count u == length (cells_of u)) user_step.StoreNewest (word_step (cells_of u) (u.cell + frame_count u)) }
user_took u n user_step.StoreNewest = record u { step = user_step.LoadOldest }
user_took u n user_step.LoadOldest = cond (n == 0) (record u { step = user_step.AddToList }) (to_next_page u)
user_took u n user_step.AddToList = record u { checks = cond (n == 0) false true; step = cond (n == 0) user_step.StoreOldest user_step.AddToList }
user_took u n user_step.StoreOldest = record u { step = user_step.GiveList }
user_took u n user_step.GiveList = to_next_page u
user_took u n user_step.StoreClosedLink = record u { page = 0; step = user_step.ReleaseLatch }
user_took u n user_step.ReleaseLatch = cond (u.page + 1 == length (changes u)) (after_link u) (record u { page = u.page + 1; step = user_step.ReleaseLatch })
user_took u n user_step.AwaitMark = cond (has_passed u n) (answered (record u { loaded = with_mark u n })) (record u { loaded = with_mark u n; checks = true; step = user_step.AwaitMark })
user_took u n user_step.Done = u
user_took u n user_step.Failed = u

-- it waits for space in the log, a latch, room in the three buffers, a flush list, its mark
abbrev pub user_waits : UserState → ℕ → UserStep → Bool
user_waits u n user_step.LoadSn = opposite (has_space u n)
user_waits u n user_step.TakeLatch = opposite (n == 0)
user_waits u n user_step.LoadWrite = opposite (has_room u n)
user_waits u n (user_step.AdvanceWritten s) = stays_put u.advance n s
user_waits u n user_step.ReloadWtail = opposite (can_link u (tail_of n))
user_waits u n (user_step.AdvanceClosed s) = stays_put u.advance n s
user_waits u n user_step.ReloadCtail = opposite (can_close u (tail_of n))
user_waits u n user_step.AddToList = opposite (n == 0)
user_waits u n user_step.AwaitMark = opposite (has_passed u n)
user_waits u n _ = false

-- whether it has ended, and how
abbrev pub user_ending : ℕ → UserStep → Step
user_ending code user_step.Done = step.Ended
user_ending code user_step.Failed = step.Failed code
user_ending code _ = step.Moved

abbrev pub user_program : ActorProgram UserState
user_program = record {
  checks = λ u. u.checks;
  goes_on = λ u. record u { checks = false };
  fails = λ u n. record u { code = n; step = user_step.Failed };
  op = λ u. user_op u u.step;
  took = λ u a. user_took u (heard a) u.step;
  waits = λ u a. user_waits u (heard a) u.step;
  ending = λ u. user_ending u.code u.step;
}
