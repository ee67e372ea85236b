-- Which turns of an actor end by a failure, by its program.
use Rattle.std.proofs.Common.{Bool, List, [], ap, cond, false, inl, inr, length, refl, sym, true, ℕ, ⊎_elim, ◌*◌, ◌++◌, ◌+◌, ◌-◌, ◌/◌, ◌==◌, ◌∙◌, ◌∷◌, ◌≡◌, ◌⊎◌}
use Rattle.std.specs.Prelude.{nat_le, nat_lt}
use Rattle.model_core.specs.LogPrograms.{flusher_ending, closer_ending, finds_no_more, writer_ending, advance_next, ends, frees, stays_put}
use Rattle.model_core.specs.ReaderProgram.{archives, followed, has_all, is_none, reader_ending, to_append}
use Rattle.model_core.specs.PagePrograms.{cleaner_ending, checkpointer_ending}
use Rattle.model_core.specs.ActorProgram.{on_call, on_take}
use Rattle.model_core.specs.States.{CellWrite, Actor}
use Rattle.model_core.specs.{after_link, answered, can_close, can_link, candidate, cells_of, change_at, changes, checkpointer_op, checkpointer_took, CheckpointerState, cleaner_op, cleaner_took, CleanerState, closer_op, closer_took, CloserState, end_round, flusher_op, flusher_took, FlusherState, frame_count, group_bytes, group_end, has_log_space, has_passed, has_room, has_space, has_taken, has_whole_word, heard, is_above, is_checking, is_whole, lane_of, lanes, left_in_word, lowered, lsn, mode, next_count, next_in_round, old_of, oldest_in, page_loaded, read_place, stands_outside, step_of, to_next_page, user_op, user_took, UserState, with_mark, word_end, word_step, writer_op, writer_took, WriterState, reader_op, reader_took, ReaderState, own_op, own_took}
use Rattle.model_core.specs.States as actor
use Rattle.model_core.specs.Lanes.{tail_of}
use Rattle.model_core.specs.UserProgram.{user_ending, with_close_room, with_link_room, without_close_room, without_link_room}
use Rattle.model_core.specs.Program.{ending, waits}
use Rattle.model_core.specs.declared.limits.TheConstants.{WORD_LANES}
use Rattle.model_core.specs.declared.ops.Answer.{Answer}
use Rattle.model_core.specs.declared.ops.Answer.TheVariants as answer
use Rattle.model_core.specs.declared.ops.Op.TheVariants as op
use Rattle.model_core.specs.declared.ops.Step.{Step}
use Rattle.model_core.specs.declared.ops.Step.TheVariants as step
use Rattle.model_core.specs.declared.steps.AdvanceStep.TheVariants as advance_step
use Rattle.model_core.specs.declared.steps.CheckpointerStep.{CheckpointerStep}
use Rattle.model_core.specs.declared.steps.CheckpointerStep.TheVariants as checkpointer_step
use Rattle.model_core.specs.declared.steps.CleanerStep.{CleanerStep}
use Rattle.model_core.specs.declared.steps.CleanerStep.TheVariants as cleaner_step
use Rattle.model_core.specs.declared.steps.CloserStep.{CloserStep}
use Rattle.model_core.specs.declared.steps.CloserStep.TheVariants as closer_step
use Rattle.model_core.specs.declared.steps.FlusherStep.{FlusherStep}
use Rattle.model_core.specs.declared.steps.ReaderStep.{ReaderStep}
use Rattle.model_core.specs.declared.steps.FlusherStep.TheVariants as flusher_step
use Rattle.model_core.specs.declared.steps.ReaderStep.TheVariants as reader_step
use Rattle.model_core.specs.declared.steps.UserStep.{UserStep}
use Rattle.model_core.specs.declared.steps.UserStep.TheVariants as user_step
use Rattle.model_core.specs.declared.steps.WriterStep.{WriterStep}
use Rattle.model_core.specs.declared.steps.WriterStep.TheVariants as writer_step
use Rattle.model_log.specs.declared.layout.TheConstants.{BLOCK_DATA}
use Rattle.model_core.specs.Hands.{GivesFailed, StoresFailed}

-- one of two, one of three
either_one : {S : Type 0} (P : S → Type 0) (b : Bool) (x y : S) → P x → P y → P (cond b x y)
either_one P true x y p q = p
either_one P false x y p q = q

on_take_one : {S : Type 0} (P : S → Type 0) (r : Answer) (x y z : S) → P x → P y → P z → P (on_take r x y z)
on_take_one P (answer.Taken n) x y z p q t = p
on_take_one P answer.Broken x y z p q t = q
on_take_one P (answer.Old n) x y z p q t = t
on_take_one P answer.Held x y z p q t = t
on_take_one P (answer.Called n) x y z p q t = t
on_take_one P (answer.Failed c) x y z p q t = t
on_take_one P answer.Rested x y z p q t = t

on_call_one : {S : Type 0} (P : S → Type 0) (r : Answer) (x y : S) → P x → P y → P (on_call r x y)
on_call_one P (answer.Failed c) x y p q = q
on_call_one P (answer.Taken n) x y p q = p
on_call_one P answer.Broken x y p q = p
on_call_one P (answer.Old n) x y p q = p
on_call_one P answer.Held x y p q = p
on_call_one P (answer.Called n) x y p q = p
on_call_one P answer.Rested x y p q = p

-- steps that don't tell a failure
abbrev user_quiet : UserStep → Type 0
user_quiet user_step.Failed = ⊥
user_quiet _ = Unit {0}

abbrev quiet_user : UserState → Type 0
quiet_user u = user_quiet u.step

abbrev pub writer_quiet : WriterStep → Type 0
writer_quiet writer_step.GiveFailed = ⊥
writer_quiet writer_step.Failed = ⊥
writer_quiet _ = Unit {0}

abbrev pub quiet_writer : WriterState → Type 0
quiet_writer s = writer_quiet s.step

abbrev pub flusher_quiet : FlusherStep → Type 0
flusher_quiet flusher_step.GiveFailed = ⊥
flusher_quiet flusher_step.Failed = ⊥
flusher_quiet _ = Unit {0}

abbrev pub reader_quiet : ReaderStep → Type 0
reader_quiet reader_step.GiveFailed = ⊥
reader_quiet reader_step.Failed = ⊥
reader_quiet _ = Unit {0}

abbrev pub quiet_flusher : FlusherState → Type 0
quiet_flusher t = flusher_quiet t.step

abbrev pub quiet_reader : ReaderState → Type 0
quiet_reader t = reader_quiet t.step

abbrev cleaner_quiet : CleanerStep → Type 0
cleaner_quiet cleaner_step.Failed = ⊥
cleaner_quiet _ = Unit {0}

abbrev quiet_cleaner : CleanerState → Type 0
quiet_cleaner v = cleaner_quiet v.step

abbrev pub checkpointer_quiet : CheckpointerStep → Type 0
checkpointer_quiet checkpointer_step.GiveFailed = ⊥
checkpointer_quiet checkpointer_step.Failed = ⊥
checkpointer_quiet _ = Unit {0}

abbrev pub quiet_checkpointer : CheckpointerState → Type 0
quiet_checkpointer t = checkpointer_quiet t.step

-- which of them lead only to such
abbrev user_near : UserStep → Type 0
user_near user_step.Done = ⊥
user_near user_step.Failed = ⊥
user_near _ = Unit {0}

abbrev pub writer_near : WriterStep → Type 0
writer_near writer_step.StoreFailed = ⊥
writer_near writer_step.GiveFailed = ⊥
writer_near writer_step.Failed = ⊥
writer_near _ = Unit {0}

abbrev pub flusher_near : FlusherStep → Type 0
flusher_near flusher_step.StoreFailed = ⊥
flusher_near flusher_step.GiveFailed = ⊥
flusher_near flusher_step.Failed = ⊥
flusher_near _ = Unit {0}

abbrev pub reader_near : ReaderStep → Type 0
reader_near reader_step.StoreFailed = ⊥
reader_near reader_step.GiveFailed = ⊥
reader_near reader_step.StoreLost = ⊥
reader_near reader_step.Failed = ⊥
reader_near _ = Unit {0}

abbrev cleaner_near : CleanerStep → Type 0
cleaner_near cleaner_step.StoreFailed = ⊥
cleaner_near cleaner_step.Failed = ⊥
cleaner_near _ = Unit {0}

abbrev pub checkpointer_near : CheckpointerStep → Type 0
checkpointer_near checkpointer_step.StoreFailed = ⊥
checkpointer_near checkpointer_step.GiveFailed = ⊥
checkpointer_near checkpointer_step.Failed = ⊥
checkpointer_near _ = Unit {0}

answered_on : (u : UserState) → quiet_user (answered u)
answered_on u = either_one user_quiet (u.k + 1 == length u.lines) user_step.Done user_step.LoadCheckpoint tt tt

linked_on : (u : UserState) → quiet_user (after_link u)
linked_on u = either_one quiet_user (mode u == 0) (answered u) (record u { step = user_step.AwaitMark }) (answered_on u) tt

word_on : (cells : List CellWrite) (i : ℕ) → user_quiet (word_step cells i)
word_on cells i = either_one user_quiet (is_whole cells i) user_step.StoreFrame user_step.LoadFrame tt tt

turned_on : (u : UserState) → quiet_user (to_next_page u)
turned_on u = either_one user_quiet (u.page + 1 == length (changes u)) user_step.StoreClosedLink (cond (0 == length (change_at (changes u) (u.page + 1)).cells) user_step.StoreNewest (word_step (change_at (changes u) (u.page + 1)).cells 0)) tt
    (either_one user_quiet (0 == length (change_at (changes u) (u.page + 1)).cells) user_step.StoreNewest (word_step (change_at (changes u) (u.page + 1)).cells 0) tt (word_on (change_at (changes u) (u.page + 1)).cells 0))

advanced_on : (stays freed : Bool) (on moved first : UserStep) → user_quiet on → user_quiet moved → user_quiet first → user_quiet (cond stays first (cond freed moved on))
advanced_on stays freed on moved first p q t = either_one user_quiet stays first (cond freed moved on) t (either_one user_quiet freed moved on q p)

with_room_on : (u : UserState) (n : ℕ) → quiet_user (with_close_room u n)
with_room_on u n = either_one user_quiet (u.cell == length (cells_of u)) user_step.StoreNewest (word_step (cells_of u) u.cell) tt (word_on (cells_of u) u.cell)

user_on : (u : UserState) (n : ℕ) (f : UserStep) → user_near f → quiet_user (user_took u n f)
user_on u n user_step.LoadCheckpoint near = tt
user_on u n user_step.LoadSn near = either_one quiet_user (has_space u n) (record u { page = 0; cell = 0; step = cond (length (changes u) == 0) user_step.Reserve user_step.TakeLatch }) (record u { checks = true; step = user_step.LoadCheckpoint })
    (either_one user_quiet (length (changes u) == 0) user_step.Reserve user_step.TakeLatch tt tt) tt
user_on u n user_step.TakeLatch near = either_one quiet_user (n == 0) (record u { page = u.page + 1; step = cond (u.page + 1 == length (changes u)) user_step.Reserve user_step.TakeLatch }) (record u { checks = true; step = user_step.TakeLatch })
    (either_one user_quiet (u.page + 1 == length (changes u)) user_step.Reserve user_step.TakeLatch tt tt) tt
user_on u n user_step.Reserve near = tt
user_on u n user_step.LoadWrite near = either_one quiet_user (has_room u n) (record u { loaded = record u.loaded { write = n }; step = user_step.AddCell }) (record u { loaded = record u.loaded { write = n }; checks = true; step = user_step.LoadWrite }) tt tt
user_on u n user_step.AddCell near = either_one user_quiet (u.copied + next_count u == length (group_bytes u)) (cond (nat_lt (u.start / BLOCK_DATA) (group_end u / BLOCK_DATA)) user_step.StoreFirst user_step.LoadWtail) user_step.AddCell
    (either_one user_quiet (nat_lt (u.start / BLOCK_DATA) (group_end u / BLOCK_DATA)) user_step.StoreFirst user_step.LoadWtail tt tt) tt
user_on u n user_step.StoreFirst near = tt
user_on u n user_step.LoadWtail near = either_one quiet_user (can_link u (tail_of n)) (with_link_room u n) (without_link_room u n false (user_step.AdvanceWritten advance_step.LoadTail)) tt tt
user_on u n (user_step.AdvanceWritten s) near = advanced_on (stays_put u.advance n s) (frees s) (user_step.AdvanceWritten (advance_next u.advance n s)) user_step.ReloadWtail user_step.LoadWtail tt tt tt
user_on u n user_step.ReloadWtail near = either_one quiet_user (can_link u (tail_of n)) (with_link_room u n) (without_link_room u n true user_step.LoadWtail) tt tt
user_on u n user_step.StoreLink near = either_one quiet_user (length (changes u) == 0) (after_link u) (record u { step = user_step.LoadCtail }) (linked_on u) tt
user_on u n user_step.LoadCtail near = either_one quiet_user (can_close u (tail_of n)) (with_close_room u n) (without_close_room u n false (user_step.AdvanceClosed advance_step.LoadTail)) (with_room_on u n) tt
user_on u n (user_step.AdvanceClosed s) near = advanced_on (stays_put u.advance n s) (frees s) (user_step.AdvanceClosed (advance_next u.advance n s)) user_step.ReloadCtail user_step.LoadCtail tt tt tt
user_on u n user_step.ReloadCtail near = either_one quiet_user (can_close u (tail_of n)) (with_close_room u n) (without_close_room u n true user_step.LoadCtail) (with_room_on u n) tt
user_on u n user_step.LoadFrame near = tt
user_on u n user_step.StoreFrame near = either_one user_quiet (u.cell + frame_count u == length (cells_of u)) user_step.StoreNewest (word_step (cells_of u) (u.cell + frame_count u)) tt (word_on (cells_of u) (u.cell + frame_count u))
user_on u n user_step.StoreNewest near = tt
user_on u n user_step.LoadOldest near = either_one quiet_user (n == 0) (record u { step = user_step.AddToList }) (to_next_page u) tt (turned_on u)
user_on u n user_step.AddToList near = either_one user_quiet (n == 0) user_step.StoreOldest user_step.AddToList tt tt
user_on u n user_step.StoreOldest near = tt
user_on u n user_step.GiveList near = turned_on u
user_on u n user_step.StoreClosedLink near = tt
user_on u n user_step.ReleaseLatch near = either_one quiet_user (u.page + 1 == length (changes u)) (after_link u) (record u { page = u.page + 1; step = user_step.ReleaseLatch }) (linked_on u) tt
user_on u n user_step.AwaitMark near = either_one quiet_user (has_passed u n) (answered (record u { loaded = with_mark u n })) (record u { loaded = with_mark u n; checks = true; step = user_step.AwaitMark }) (answered_on (record u { loaded = with_mark u n })) tt
user_on u n user_step.Done near = absurd near
user_on u n user_step.Failed near = absurd near

pub writer_on : (s : WriterState) (r : Answer) (f : WriterStep) → writer_near f → quiet_writer (writer_took s r f)
writer_on s r (writer_step.Advance v) near = either_one writer_quiet (finds_no_more s (old_of r) v) (writer_step.Advance advance_step.LoadTail) (cond (ends s.advance (old_of r) v) writer_step.LoadCheckpoint (writer_step.Advance (advance_next s.advance (old_of r) v))) tt
    (either_one writer_quiet (ends s.advance (old_of r) v) writer_step.LoadCheckpoint (writer_step.Advance (advance_next s.advance (old_of r) v)) tt tt)
writer_on s r writer_step.LoadCheckpoint near = either_one quiet_writer (has_log_space s (old_of r)) (record s { ckpt = old_of r; step = cond (stands_outside s) writer_step.LoadFirst writer_step.LoadCell }) (record s { ckpt = old_of r; checks = true; step = writer_step.LoadCheckpoint })
    (either_one writer_quiet (stands_outside s) writer_step.LoadFirst writer_step.LoadCell tt tt) tt
writer_on s r writer_step.LoadFirst near = tt
writer_on s r writer_step.ClearFirst near = tt
writer_on s r writer_step.LoadCell near = either_one quiet_writer (has_whole_word s) (record s { word = old_of r; step = writer_step.ClearCell })
    (record s { kept = s.kept ++ lanes (lane_of (read_place s)) (s.tail - lsn (read_place s)) (old_of r); step = writer_step.TakeDevice }) tt tt
writer_on s r writer_step.ClearCell near = either_one writer_quiet (lsn (word_end s) == s.tail) writer_step.TakeDevice (cond (length s.kept + left_in_word (read_place s) == BLOCK_DATA * length s.firsts) writer_step.LoadFirst writer_step.LoadCell) tt
    (either_one writer_quiet (length s.kept + left_in_word (read_place s) == BLOCK_DATA * length s.firsts) writer_step.LoadFirst writer_step.LoadCell tt tt)
writer_on s r writer_step.TakeDevice near = on_take_one writer_quiet r writer_step.WriteTo writer_step.GiveBroken writer_step.TakeDevice tt tt tt
writer_on s r writer_step.GiveBroken near = tt
writer_on s r writer_step.WriteTo near = on_call_one writer_quiet r writer_step.StoreWrite writer_step.StoreFailed tt tt
writer_on s r writer_step.StoreWrite near = tt
writer_on s r writer_step.GiveDevice near = tt
writer_on s r writer_step.StoreFailed near = absurd near
writer_on s r writer_step.GiveFailed near = absurd near
writer_on s r writer_step.Failed near = absurd near

pub flusher_on : (t : FlusherState) (r : Answer) (f : FlusherStep) → flusher_near f → quiet_flusher (flusher_took t r f)
flusher_on t r flusher_step.LoadWrite near = either_one quiet_flusher (old_of r == t.last) (record t { write = old_of r; checks = true; step = flusher_step.LoadWrite }) (record t { write = old_of r; step = flusher_step.TakeDevice }) tt tt
flusher_on t r flusher_step.TakeDevice near = on_take_one flusher_quiet r flusher_step.Sync flusher_step.GiveBroken flusher_step.TakeDevice tt tt tt
flusher_on t r flusher_step.GiveBroken near = tt
flusher_on t r flusher_step.Sync near = on_call_one flusher_quiet r flusher_step.StoreFlushed flusher_step.StoreFailed tt tt
flusher_on t r flusher_step.StoreFlushed near = tt
flusher_on t r flusher_step.GiveDevice near = tt
flusher_on t r flusher_step.StoreFailed near = absurd near
flusher_on t r flusher_step.GiveFailed near = absurd near
flusher_on t r flusher_step.Failed near = absurd near

pub reader_on : (t : ReaderState) (r : Answer) (f : ReaderStep) → reader_near f → quiet_reader (reader_took t r f)
reader_on t r reader_step.LoadFlushed near = either_one quiet_reader (has_all t (old_of r)) (record t { mark = old_of r; checks = true; step = reader_step.LoadFlushed }) (record t { mark = old_of r; step = reader_step.TakeDevice }) tt tt
reader_on t r reader_step.TakeDevice near = on_take_one reader_quiet r reader_step.ReadBlock reader_step.GiveBroken reader_step.TakeDevice tt tt tt
reader_on t r reader_step.GiveBroken near = tt
reader_on t r reader_step.ReadBlock near = on_call_one reader_quiet r reader_step.GiveDevice reader_step.StoreFailed tt tt
reader_on t r reader_step.Append near = on_call_one reader_quiet r reader_step.StorePlace reader_step.StoreLost tt tt
reader_on t r reader_step.StorePlace near = tt
reader_on t r reader_step.GiveDevice near = either_one quiet_reader (archives t) (to_append t) (followed t) tt (either_one reader_quiet (is_none t.texts) reader_step.LoadFlushed reader_step.StorePlace tt tt)
reader_on t r reader_step.StoreFailed near = absurd near
reader_on t r reader_step.GiveFailed near = absurd near
reader_on t r reader_step.StoreLost near = absurd near
reader_on t r reader_step.Failed near = absurd near

round_on : (v : CleanerState) → quiet_cleaner (next_in_round v)
round_on v =
    let x : CleanerState = record v { page = cond (v.page + 1 == v.pages) 0 (v.page + 1); left = v.left - 1; kept = [] } in
    either_one quiet_cleaner (cond (v.left == 1) true (length v.batch == v.slots)) (end_round x) (record x { step = cleaner_step.LoadOldest })
    (either_one quiet_cleaner (length v.batch == 0) (record x { checks = true; step = cleaner_step.LoadFlushed }) (record x { step = cleaner_step.WriteBatch }) tt tt) tt

cleaner_on : (v : CleanerState) (r : Answer) (f : CleanerStep) → cleaner_near f → quiet_cleaner (cleaner_took v r f)
cleaner_on v r cleaner_step.LoadFlushed near = tt
cleaner_on v r cleaner_step.LoadOldest near = either_one quiet_cleaner (old_of r == 0) (next_in_round v) (record v { step = cleaner_step.TakeLatch }) (round_on v) tt
cleaner_on v r cleaner_step.TakeLatch near = either_one quiet_cleaner (old_of r == 0) (record v { step = cleaner_step.LoadNewest }) (next_in_round v) tt (round_on v)
cleaner_on v r cleaner_step.LoadNewest near = either_one quiet_cleaner (nat_le (old_of r) v.flushed) (record v { newest = old_of r; kept = []; step = cleaner_step.LoadFrame }) (record v { step = cleaner_step.ReleaseSkipped }) tt tt
cleaner_on v r cleaner_step.ReleaseSkipped near = round_on v
cleaner_on v r cleaner_step.LoadFrame near = either_one quiet_cleaner (length v.kept + WORD_LANES == v.page_size) (next_in_round (record v { batch = v.batch ++ page_loaded v (old_of r) ∷ [] })) (record v { kept = v.kept ++ lanes 0 WORD_LANES (old_of r); step = cleaner_step.LoadFrame }) (round_on (record v { batch = v.batch ++ page_loaded v (old_of r) ∷ [] })) tt
cleaner_on v r cleaner_step.WriteBatch near = on_call_one cleaner_quiet r cleaner_step.RemoveFromList cleaner_step.StoreFailed tt tt
cleaner_on v r cleaner_step.RemoveFromList near = either_one quiet_cleaner (has_taken r) (record v { step = cleaner_step.ClearOldest }) (record v { checks = true; step = cleaner_step.RemoveFromList }) tt tt
cleaner_on v r cleaner_step.ClearOldest near = tt
cleaner_on v r cleaner_step.GiveList near = tt
cleaner_on v r cleaner_step.ReleaseLatch near = either_one cleaner_quiet (length v.batch == 1) cleaner_step.LoadFlushed cleaner_step.RemoveFromList tt tt
cleaner_on v r cleaner_step.StoreFailed near = absurd near
cleaner_on v r cleaner_step.Failed near = absurd near

pub checkpointer_on : (t : CheckpointerState) (r : Answer) (f : CheckpointerStep) → checkpointer_near f → quiet_checkpointer (checkpointer_took t r f)
checkpointer_on t r checkpointer_step.LoadCtail near = either_one checkpointer_quiet (t.first == t.last) checkpointer_step.ReadList checkpointer_step.LoadPlace tt tt
checkpointer_on t r checkpointer_step.LoadPlace near = either_one checkpointer_quiet (t.reader + 1 == t.last) checkpointer_step.ReadList checkpointer_step.LoadPlace tt tt
checkpointer_on t r checkpointer_step.ReadList near = either_one quiet_checkpointer (has_taken r) (record t { to = lowered t.to (oldest_in r); step = checkpointer_step.GiveList }) (record t { checks = true; step = checkpointer_step.ReadList }) tt tt
checkpointer_on t r checkpointer_step.GiveList near = either_one checkpointer_quiet (t.list + 1 == 4) checkpointer_step.LoadFlushed checkpointer_step.ReadList tt tt
checkpointer_on t r checkpointer_step.LoadFlushed near = either_one quiet_checkpointer (is_above t (old_of r)) (record t { flushed = old_of r; to = candidate t (old_of r); step = checkpointer_step.TakeDevice }) (record t { flushed = old_of r; checks = true; step = checkpointer_step.LoadCtail }) tt tt
checkpointer_on t r checkpointer_step.TakeDevice near = on_take_one checkpointer_quiet r checkpointer_step.Checkpoint checkpointer_step.GiveBroken checkpointer_step.TakeDevice tt tt tt
checkpointer_on t r checkpointer_step.GiveBroken near = tt
checkpointer_on t r checkpointer_step.Checkpoint near = on_call_one checkpointer_quiet r checkpointer_step.StoreCheckpoint checkpointer_step.StoreFailed tt tt
checkpointer_on t r checkpointer_step.StoreCheckpoint near = tt
checkpointer_on t r checkpointer_step.GiveDevice near = tt
checkpointer_on t r checkpointer_step.StoreFailed near = absurd near
checkpointer_on t r checkpointer_step.GiveFailed near = absurd near
checkpointer_on t r checkpointer_step.Failed near = absurd near

-- what an end says
abbrev code_or : Step → ℕ
code_or (step.Failed n) = n
code_or _ = 0

same_code : (n code : ℕ) → step.Failed n ≡ step.Failed code → n ≡ code
same_code n code e = ap code_or e

moved_not : (code : ℕ) → step.Moved ≡ step.Failed code → ⊥
moved_not code e = absurd (cc)

ended_not : (code : ℕ) → step.Ended ≡ step.Failed code → ⊥
ended_not code e = absurd (cc)

user_never : (n code : ℕ) (f : UserStep) → user_quiet f → user_ending n f ≡ step.Failed code → ⊥
user_never n code user_step.Failed quiet e = absurd quiet
user_never n code _ quiet e = absurd (cc)

writer_never : (n code : ℕ) (f : WriterStep) → writer_quiet f → writer_ending n f ≡ step.Failed code → ⊥
writer_never n code writer_step.Failed quiet e = absurd quiet
writer_never n code _ quiet e = absurd (cc)

flusher_never : (n code : ℕ) (f : FlusherStep) → flusher_quiet f → flusher_ending n f ≡ step.Failed code → ⊥
flusher_never n code flusher_step.Failed quiet e = absurd quiet
flusher_never n code _ quiet e = absurd (cc)

reader_never : (n code : ℕ) (f : ReaderStep) → reader_quiet f → reader_ending n f ≡ step.Failed code → ⊥
reader_never n code reader_step.Failed quiet e = absurd quiet
reader_never n code _ quiet e = absurd (cc)

cleaner_never : (n code : ℕ) (f : CleanerStep) → cleaner_quiet f → cleaner_ending n f ≡ step.Failed code → ⊥
cleaner_never n code cleaner_step.Failed quiet e = absurd quiet
cleaner_never n code _ quiet e = absurd (cc)

checkpointer_never : (n code : ℕ) (f : CheckpointerStep) → checkpointer_quiet f → checkpointer_ending n f ≡ step.Failed code → ⊥
checkpointer_never n code checkpointer_step.Failed quiet e = absurd quiet
checkpointer_never n code _ quiet e = absurd (cc)

user_near_or : (f : UserStep) → user_near f ⊎ ((f ≡ user_step.Done) ⊎ (f ≡ user_step.Failed))
user_near_or user_step.Done = inr (inl refl)
user_near_or user_step.Failed = inr (inr refl)
user_near_or _ = inl tt

pub writer_near_or : (f : WriterStep) → writer_near f ⊎ ((f ≡ writer_step.StoreFailed) ⊎ ((f ≡ writer_step.GiveFailed) ⊎ (f ≡ writer_step.Failed)))
writer_near_or writer_step.StoreFailed = inr (inl refl)
writer_near_or writer_step.GiveFailed = inr (inr (inl refl))
writer_near_or writer_step.Failed = inr (inr (inr refl))
writer_near_or _ = inl tt

pub flusher_near_or : (f : FlusherStep) → flusher_near f ⊎ ((f ≡ flusher_step.StoreFailed) ⊎ ((f ≡ flusher_step.GiveFailed) ⊎ (f ≡ flusher_step.Failed)))
flusher_near_or flusher_step.StoreFailed = inr (inl refl)
flusher_near_or flusher_step.GiveFailed = inr (inr (inl refl))
flusher_near_or flusher_step.Failed = inr (inr (inr refl))
flusher_near_or _ = inl tt

pub reader_near_or : (f : ReaderStep) → reader_near f ⊎ ((f ≡ reader_step.StoreFailed) ⊎ ((f ≡ reader_step.GiveFailed) ⊎ ((f ≡ reader_step.StoreLost) ⊎ (f ≡ reader_step.Failed))))
reader_near_or reader_step.StoreFailed = inr (inl refl)
reader_near_or reader_step.GiveFailed = inr (inr (inl refl))
reader_near_or reader_step.StoreLost = inr (inr (inr (inl refl)))
reader_near_or reader_step.Failed = inr (inr (inr (inr refl)))
reader_near_or _ = inl tt

closer_near_or : (t : CloserState) (r : Answer) (code : ℕ) (f : CloserStep) → closer_ending (closer_took t r f).code (closer_took t r f).step ≡ step.Failed code → f ≡ closer_step.Failed
closer_near_or t r code closer_step.Failed e = refl
closer_near_or t r code (closer_step.Advance v) e = absurd (moved_not code e)

cleaner_near_or : (f : CleanerStep) → cleaner_near f ⊎ ((f ≡ cleaner_step.StoreFailed) ⊎ (f ≡ cleaner_step.Failed))
cleaner_near_or cleaner_step.StoreFailed = inr (inl refl)
cleaner_near_or cleaner_step.Failed = inr (inr refl)
cleaner_near_or _ = inl tt

pub checkpointer_near_or : (f : CheckpointerStep) → checkpointer_near f ⊎ ((f ≡ checkpointer_step.StoreFailed) ⊎ ((f ≡ checkpointer_step.GiveFailed) ⊎ (f ≡ checkpointer_step.Failed)))
checkpointer_near_or checkpointer_step.StoreFailed = inr (inl refl)
checkpointer_near_or checkpointer_step.GiveFailed = inr (inr (inl refl))
checkpointer_near_or checkpointer_step.Failed = inr (inr (inr refl))
checkpointer_near_or _ = inl tt

-- A step of an actor's own that ends by this code: the actor gives the log part back after its failed call, or stores the code
-- of a batch's or an append's, or had ended before.
abbrev pub HadEnded : Actor → ℕ → Type 0
HadEnded a code = (own_op a ≡ op.Rest) × (ending a ≡ step.Failed code)

abbrev pub OwnFails : Actor → ℕ → Type 0
OwnFails a code = GivesFailed a code ⊎ (StoresFailed a code ⊎ HadEnded a code)

own_fails : (a : Actor) (r : Answer) (code : ℕ) → ending (own_took a r) ≡ step.Failed code → OwnFails a code
own_fails (actor.User u) r code e =
    let W : UserStep → Step = λ f. user_ending (user_took u (heard r) f).code (user_took u (heard r) f).step in
    ⊎_elim
    (λ near. absurd (user_never (user_took u (heard r) u.step).code code (user_took u (heard r) u.step).step (user_on u (heard r) u.step near) e))
    (λ t. ⊎_elim
    (λ q. absurd (ended_not code (sym (ap (user_ending u.code) q) ∙ (sym (ap W q) ∙ e))))
    (λ q. inr (inr (ap (user_op u) q, sym (ap W q) ∙ e)))
    t)
    (user_near_or u.step)
own_fails (actor.Writer s) r code e =
    let W : WriterStep → Step = λ f. writer_ending (writer_took s r f).code (writer_took s r f).step in
    ⊎_elim
    (λ near. absurd (writer_never (writer_took s r s.step).code code (writer_took s r s.step).step (writer_on s r s.step near) e))
    (λ t. ⊎_elim
    (λ q. absurd (moved_not code (sym (ap W q) ∙ e)))
    (λ u. ⊎_elim
    (λ q. inl (q, same_code s.code code (sym (ap W q) ∙ e)))
    (λ q. inr (inr (ap (writer_op s) q, sym (ap W q) ∙ e)))
    u)
    t)
    (writer_near_or s.step)
own_fails (actor.Flusher s) r code e =
    let W : FlusherStep → Step = λ f. flusher_ending (flusher_took s r f).code (flusher_took s r f).step in
    ⊎_elim
    (λ near. absurd (flusher_never (flusher_took s r s.step).code code (flusher_took s r s.step).step (flusher_on s r s.step near) e))
    (λ t. ⊎_elim
    (λ q. absurd (moved_not code (sym (ap W q) ∙ e)))
    (λ u. ⊎_elim
    (λ q. inl (q, same_code s.code code (sym (ap W q) ∙ e)))
    (λ q. inr (inr (ap (flusher_op s) q, sym (ap W q) ∙ e)))
    u)
    t)
    (flusher_near_or s.step)
own_fails (actor.Reader s) r code e =
    let W : ReaderStep → Step = λ f. reader_ending (reader_took s r f).code (reader_took s r f).step in
    ⊎_elim
    (λ near. absurd (reader_never (reader_took s r s.step).code code (reader_took s r s.step).step (reader_on s r s.step near) e))
    (λ t. ⊎_elim
    (λ q. absurd (moved_not code (sym (ap W q) ∙ e)))
    (λ u. ⊎_elim
    (λ q. inl (q, same_code s.code code (sym (ap W q) ∙ e)))
    (λ v. ⊎_elim
    (λ q. inr (inl (q, same_code s.code code (sym (ap W q) ∙ e))))
    (λ q. inr (inr (ap (reader_op s) q, sym (ap W q) ∙ e)))
    v)
    u)
    t)
    (reader_near_or s.step)
own_fails (actor.Closer t) r code e =
    let W : CloserStep → Step = λ f. closer_ending (closer_took t r f).code (closer_took t r f).step in
    let q = closer_near_or t r code t.step e in
    inr (inr (ap (closer_op t) q, sym (ap W q) ∙ e))
own_fails (actor.Cleaner v) r code e =
    let W : CleanerStep → Step = λ f. cleaner_ending (cleaner_took v r f).code (cleaner_took v r f).step in
    ⊎_elim
    (λ near. absurd (cleaner_never (cleaner_took v r v.step).code code (cleaner_took v r v.step).step (cleaner_on v r v.step near) e))
    (λ t. ⊎_elim
    (λ q. inr (inl (q, same_code v.code code (sym (ap W q) ∙ e))))
    (λ q. inr (inr (ap (cleaner_op v) q, sym (ap W q) ∙ e)))
    t)
    (cleaner_near_or v.step)
own_fails (actor.Checkpointer s) r code e =
    let W : CheckpointerStep → Step = λ f. checkpointer_ending (checkpointer_took s r f).code (checkpointer_took s r f).step in
    ⊎_elim
    (λ near. absurd (checkpointer_never (checkpointer_took s r s.step).code code (checkpointer_took s r s.step).step (checkpointer_on s r s.step near) e))
    (λ t. ⊎_elim
    (λ q. absurd (moved_not code (sym (ap W q) ∙ e)))
    (λ u. ⊎_elim
    (λ q. inl (q, same_code s.code code (sym (ap W q) ∙ e)))
    (λ q. inr (inr (ap (checkpointer_op s) q, sym (ap W q) ∙ e)))
    u)
    t)
    (checkpointer_near_or s.step)

by_flags : (checks zero waiting : Bool) (n code : ℕ) (ends : Step) → cond checks (cond zero step.Moved (step.Failed n)) (cond waiting step.Idle ends) ≡ step.Failed code → ((checks ≡ true) × (n ≡ code)) ⊎ ((checks ≡ false) × (ends ≡ step.Failed code))
by_flags true true waiting n code ends e = absurd (cc)
by_flags true false waiting n code ends e = inl (refl, same_code n code e)
by_flags false zero true n code ends e = absurd (cc)
by_flags false zero false n code ends e = inr (refl, e)

-- A turn ends by this code only where the actor finds it in FAILED, or by a step of its own.
pub turn_fails : (a : Actor) (r : Answer) (code : ℕ) → step_of a r ≡ step.Failed code → ((is_checking a ≡ true) × (old_of r ≡ code)) ⊎ ((is_checking a ≡ false) × OwnFails a code)
turn_fails a r code e = ⊎_elim
    (λ t. inl t)
    (λ t. inr (t.0, own_fails a r code t.1))
    (by_flags (is_checking a) (old_of r == 0) (waits a r) (old_of r) code (ending (own_took a r)) e)
