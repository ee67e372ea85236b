-- What each Op does with what its actor holds.
use Rattle.std.proofs.Common.{Bool, List, None, Option, Some, suc, ◌%◌, [], cond, drop, false, inl, inr, length, refl, sym, true, ℕ, ⊎_elim, ◌*◌, ◌++◌, ◌+◌, ◌-◌, ◌/◌, ◌==◌, ◌∙◌, ◌∷◌, ◌≡◌, ◌⊎◌}
use Rattle.std.specs.Prelude.{min, nat_le, nat_lt}
use Rattle.model_core.specs.ActorProgram.{on_take}
use Rattle.model_core.specs.declared.limits.TheConstants.{FLUSH_LISTS, WORD_LANES}
use Rattle.model_core.specs.States.{CellWrite}
use Rattle.model_core.specs.{Actor, Advance, after_link, answered, can_close, can_link, cells_of, change_at, changes, checkpointer_op, checkpointer_took, CheckpointerState, cleaner_op, cleaner_took, CleanerState, closer_op, closer_took, CloserState, candidate, end_round, flusher_op, flusher_took, FlusherState, group_bytes, group_end, frame_count, has_log_space, has_passed, has_room, has_space, has_taken, has_whole_word, is_whole, lane_of, lanes, left_in_word, next_count, word_end, word_step, heard, is_above, is_checking, lowered, lsn, mode, next, next_in_round, old_of, oldest_in, page_loaded, read_place, stands_outside, to_next_page, took, user_op, user_took, UserState, with_mark, writer_op, writer_took, WriterState, reader_op, reader_took, ReaderState}
use Rattle.model_core.specs.ReaderProgram.{archives, followed, has_all, is_none, to_append}
use Rattle.model_core.specs.States as actor
use Rattle.model_core.proofs.TailsFree.{took_free}
use Rattle.model_core.specs.LogPrograms.{advance_next, advance_op, ends, frees, stays_put, finds_no_more}
use Rattle.model_core.specs.Lanes.{tail_of}
use Rattle.model_core.specs.UserProgram.{with_close_room, with_link_room, without_close_room, without_link_room}
use Rattle.model_core.specs.declared.ops.Answer.{Answer}
use Rattle.model_core.specs.declared.ops.Answer.TheVariants as answer
use Rattle.model_core.specs.declared.ops.Op.{Op}
use Rattle.model_core.specs.declared.ops.Op.TheVariants as op
use Rattle.model_core.specs.declared.words.Word.TheVariants as word
use Rattle.model_core.specs.declared.steps.AdvanceStep.{AdvanceStep}
use Rattle.model_core.specs.declared.steps.AdvanceStep.TheVariants as advance_step
use Rattle.model_core.specs.declared.steps.CheckpointerStep.{CheckpointerStep}
use Rattle.model_core.specs.declared.steps.CheckpointerStep.TheVariants as checkpointer_step
use Rattle.model_core.specs.declared.steps.CleanerStep.{CleanerStep}
use Rattle.model_core.specs.declared.steps.CleanerStep.TheVariants as cleaner_step
use Rattle.model_core.specs.declared.steps.CloserStep.{CloserStep}
use Rattle.model_core.specs.declared.steps.CloserStep.TheVariants as closer_step
use Rattle.model_core.specs.declared.steps.FlusherStep.{FlusherStep}
use Rattle.model_core.specs.declared.steps.ReaderStep.{ReaderStep}
use Rattle.model_core.specs.declared.steps.FlusherStep.TheVariants as flusher_step
use Rattle.model_core.specs.declared.steps.ReaderStep.TheVariants as reader_step
use Rattle.model_core.specs.declared.steps.UserStep.{UserStep}
use Rattle.model_core.specs.declared.steps.UserStep.TheVariants as user_step
use Rattle.model_core.specs.declared.steps.WriterStep.{WriterStep}
use Rattle.model_core.specs.declared.steps.WriterStep.TheVariants as writer_step
use Rattle.model_core.specs.declared.words.LinkBuffer.{LinkBuffer}
use Rattle.model_core.specs.declared.words.LinkBuffer.TheVariants as link_buffer
use Rattle.model_log.specs.declared.layout.TheConstants.{BLOCK_DATA}
use Rattle.model_core.specs.Hands.{IsFreeToCheck, checkpointer_hand, cleaner_hand, flusher_hand, hand, user_hand, writer_hand, reader_hand}

-- what an Op does with what its actor holds, which is `before`, and after an answer `behind` of it
abbrev pub Handles : Op → Option ℕ → (Answer → Option ℕ) → Type 0
Handles op.TakeDevice before behind = (before ≡ None) × ((n : Option ℕ) → behind (answer.Taken n) ≡ Some 0) × (behind answer.Broken ≡ Some 0) × (behind answer.Held ≡ None)
Handles op.GiveDevice before behind = (before ≡ Some 0) × (behind (answer.Taken None) ≡ None)
Handles (op.TakeAdd p x) before behind = (before ≡ None) × ((n : Option ℕ) → behind (answer.Taken n) ≡ Some (suc (p % FLUSH_LISTS))) × (behind answer.Held ≡ None)
Handles (op.TakeRemove p) before behind = (before ≡ None) × ((n : Option ℕ) → behind (answer.Taken n) ≡ Some (suc (p % FLUSH_LISTS))) × (behind answer.Held ≡ None)
Handles (op.TakeOldest i) before behind = (before ≡ None) × ((n : Option ℕ) → behind (answer.Taken n) ≡ Some (suc i)) × (behind answer.Held ≡ None)
Handles (op.GiveList i) before behind = (before ≡ Some (suc i)) × (behind (answer.Taken None) ≡ None)
Handles (op.WriteTo t) before behind = (before ≡ Some 0) × ((n : ℕ) → behind (answer.Called n) ≡ Some 0) × ((c : ℕ) → behind (answer.Failed c) ≡ Some 0)
Handles (op.ReadBlock b) before behind = (before ≡ Some 0) × ((n : ℕ) → behind (answer.Called n) ≡ Some 0) × ((c : ℕ) → behind (answer.Failed c) ≡ Some 0)
Handles op.Sync before behind = (before ≡ Some 0) × ((n : ℕ) → behind (answer.Called n) ≡ Some 0) × ((c : ℕ) → behind (answer.Failed c) ≡ Some 0)
Handles (op.Checkpoint x) before behind = (before ≡ Some 0) × ((n : ℕ) → behind (answer.Called n) ≡ Some 0) × ((c : ℕ) → behind (answer.Failed c) ≡ Some 0)
Handles op.WriteBatch before behind = (before ≡ None) × ((r : Answer) → behind r ≡ None)
Handles (op.Append x) before behind = (before ≡ None) × ((n : ℕ) → behind (answer.Called n) ≡ None) × ((c : ℕ) → behind (answer.Failed c) ≡ None)
Handles op.Rest before behind = Unit {0}
Handles _ before behind = (n : ℕ) → behind (answer.Old n) ≡ before

-- one of two states, by what it holds
pick : {S : Type 0} (h : S → Option ℕ) (n : Option ℕ) (b : Bool) (x y : S) → h x ≡ n → h y ≡ n → h (cond b x y) ≡ n
pick h n true x y e f = e
pick h n false x y e f = f

abbrev of_user : UserState → Option ℕ
of_user u = user_hand u u.step

abbrev of_cleaner : CleanerState → Option ℕ
of_cleaner v = cleaner_hand v v.step

abbrev of_checkpointer : CheckpointerState → Option ℕ
of_checkpointer t = checkpointer_hand t t.step

-- at one of two steps a user holds nothing
user_pick : (u : UserState) (b : Bool) (f g : UserStep) → user_hand u f ≡ None → user_hand u g ≡ None → user_hand u (cond b f g) ≡ None
user_pick u b f g e h = pick (user_hand u) None b f g e h

answered_none : (u : UserState) → of_user (answered u) ≡ None
answered_none u = user_pick (answered u) (u.k + 1 == length u.lines) user_step.Done user_step.LoadCheckpoint refl refl

linked_none : (u : UserState) → of_user (after_link u) ≡ None
linked_none u = pick of_user None (mode u == 0) (answered u) (record u { step = user_step.AwaitMark }) (answered_none u) refl

-- the word of a frame is next
word_none : (u : UserState) (cells : List CellWrite) (i : ℕ) → user_hand u (word_step cells i) ≡ None
word_none u cells i = user_pick u (is_whole cells i) user_step.StoreFrame user_step.LoadFrame refl refl

turned_none : (u : UserState) → of_user (to_next_page u) ≡ None
turned_none u = user_pick (to_next_page u) (u.page + 1 == length (changes u)) user_step.StoreClosedLink (cond (0 == length (change_at (changes u) (u.page + 1)).cells) user_step.StoreNewest (word_step (change_at (changes u) (u.page + 1)).cells 0)) refl
    (user_pick (to_next_page u) (0 == length (change_at (changes u) (u.page + 1)).cells) user_step.StoreNewest (word_step (change_at (changes u) (u.page + 1)).cells 0) refl (word_none (to_next_page u) (change_at (changes u) (u.page + 1)).cells 0))

with_room_none : (u : UserState) (n : ℕ) → of_user (with_close_room u n) ≡ None
with_room_none u n = user_pick (with_close_room u n) (u.cell == length (cells_of u)) user_step.StoreNewest (word_step (cells_of u) u.cell) refl (word_none (with_close_room u n) (cells_of u) u.cell)

-- an advance asks for words, and leaves what its actor holds
plain_advance : (b : LinkBuffer) (v : Advance) (s : AdvanceStep) (before : Option ℕ) (behind : Answer → Option ℕ) → ((n : ℕ) → behind (answer.Old n) ≡ before) → Handles (advance_op b v s) before behind
plain_advance b v advance_step.LoadTail before behind same = same
plain_advance b v _ before behind same = same

advanced_none : (u : UserState) (stays freed : Bool) (on moved first : UserStep) → user_hand u on ≡ None → user_hand u moved ≡ None → user_hand u first ≡ None → user_hand u (cond stays first (cond freed moved on)) ≡ None
advanced_none u stays freed on moved first e h k = user_pick u stays first (cond freed moved on) k (user_pick u freed moved on h e)

written_none : (u : UserState) (n : ℕ) (s : AdvanceStep) → of_user (user_took u n (user_step.AdvanceWritten s)) ≡ None
written_none u n s = advanced_none (user_took u n (user_step.AdvanceWritten s)) (stays_put u.advance n s) (frees s) (user_step.AdvanceWritten (advance_next u.advance n s)) user_step.ReloadWtail user_step.LoadWtail refl refl refl

closed_none : (u : UserState) (n : ℕ) (s : AdvanceStep) → of_user (user_took u n (user_step.AdvanceClosed s)) ≡ None
closed_none u n s = advanced_none (user_took u n (user_step.AdvanceClosed s)) (stays_put u.advance n s) (frees s) (user_step.AdvanceClosed (advance_next u.advance n s)) user_step.ReloadCtail user_step.LoadCtail refl refl refl

user_own : (u : UserState) (f : UserStep) → Handles (user_op u f) (user_hand u f) (λ r. of_user (user_took u (heard r) f))
user_own u user_step.LoadCheckpoint = λ n. refl
user_own u user_step.LoadSn = λ n. pick of_user None (has_space u n) (record u { page = 0; cell = 0; step = cond (length (changes u) == 0) user_step.Reserve user_step.TakeLatch }) (record u { checks = true; step = user_step.LoadCheckpoint })
    (user_pick (record u { page = 0; cell = 0 }) (length (changes u) == 0) user_step.Reserve user_step.TakeLatch refl refl) refl
user_own u user_step.TakeLatch = λ n. pick of_user None (n == 0) (record u { page = u.page + 1; step = cond (u.page + 1 == length (changes u)) user_step.Reserve user_step.TakeLatch }) (record u { checks = true; step = user_step.TakeLatch })
    (user_pick (record u { page = u.page + 1 }) (u.page + 1 == length (changes u)) user_step.Reserve user_step.TakeLatch refl refl) refl
user_own u user_step.Reserve = λ n. refl
user_own u user_step.LoadWrite = λ n. pick of_user None (has_room u n) (record u { loaded = record u.loaded { write = n }; step = user_step.AddCell }) (record u { loaded = record u.loaded { write = n }; checks = true; step = user_step.LoadWrite }) refl refl
user_own u user_step.AddCell = λ n. user_pick (record u { copied = u.copied + next_count u }) (u.copied + next_count u == length (group_bytes u)) (cond (nat_lt (u.start / BLOCK_DATA) (group_end u / BLOCK_DATA)) user_step.StoreFirst user_step.LoadWtail) user_step.AddCell
    (user_pick (record u { copied = u.copied + next_count u }) (nat_lt (u.start / BLOCK_DATA) (group_end u / BLOCK_DATA)) user_step.StoreFirst user_step.LoadWtail refl refl) refl
user_own u user_step.StoreFirst = λ n. refl
user_own u user_step.LoadWtail = λ n. pick of_user None (can_link u (tail_of n)) (with_link_room u n) (without_link_room u n false (user_step.AdvanceWritten advance_step.LoadTail)) refl refl
user_own u (user_step.AdvanceWritten s) = plain_advance link_buffer.Written u.advance s None (λ r. of_user (user_took u (heard r) (user_step.AdvanceWritten s))) (λ n. written_none u n s)
user_own u user_step.ReloadWtail = λ n. pick of_user None (can_link u (tail_of n)) (with_link_room u n) (without_link_room u n true user_step.LoadWtail) refl refl
user_own u user_step.StoreLink = λ n. pick of_user None (length (changes u) == 0) (after_link u) (record u { step = user_step.LoadCtail }) (linked_none u) refl
user_own u user_step.LoadCtail = λ n. pick of_user None (can_close u (tail_of n)) (with_close_room u n) (without_close_room u n false (user_step.AdvanceClosed advance_step.LoadTail)) (with_room_none u n) refl
user_own u (user_step.AdvanceClosed s) = plain_advance link_buffer.Closed u.advance s None (λ r. of_user (user_took u (heard r) (user_step.AdvanceClosed s))) (λ n. closed_none u n s)
user_own u user_step.ReloadCtail = λ n. pick of_user None (can_close u (tail_of n)) (with_close_room u n) (without_close_room u n true user_step.LoadCtail) (with_room_none u n) refl
user_own u user_step.LoadFrame = λ n. refl
user_own u user_step.StoreFrame = λ n. user_pick (record u { cell = u.cell + frame_count u; word = 0 }) (u.cell + frame_count u == length (cells_of u)) user_step.StoreNewest (word_step (cells_of u) (u.cell + frame_count u)) refl
    (word_none (record u { cell = u.cell + frame_count u; word = 0 }) (cells_of u) (u.cell + frame_count u))
user_own u user_step.StoreNewest = λ n. refl
user_own u user_step.LoadOldest = λ n. pick of_user None (n == 0) (record u { step = user_step.AddToList }) (to_next_page u) refl (turned_none u)
user_own u user_step.AddToList = (refl, λ n. refl, refl)
user_own u user_step.StoreOldest = λ n. refl
user_own u user_step.GiveList = (refl, turned_none u)
user_own u user_step.StoreClosedLink = λ n. refl
user_own u user_step.ReleaseLatch = λ n. pick of_user None (u.page + 1 == length (changes u)) (after_link u) (record u { page = u.page + 1; step = user_step.ReleaseLatch }) (linked_none u) refl
user_own u user_step.AwaitMark = λ n. pick of_user None (has_passed u n) (answered (record u { loaded = with_mark u n })) (record u { loaded = with_mark u n; checks = true; step = user_step.AwaitMark }) (answered_none (record u { loaded = with_mark u n })) refl
user_own u user_step.Done = tt
user_own u user_step.Failed = tt

followed_none : (s : WriterState) (n : ℕ) (v : AdvanceStep) → writer_hand (cond (finds_no_more s n v) (writer_step.Advance advance_step.LoadTail) (cond (ends s.advance n v) writer_step.LoadCheckpoint (writer_step.Advance (advance_next s.advance n v)))) ≡ None
followed_none s n v = pick writer_hand None (finds_no_more s n v) (writer_step.Advance advance_step.LoadTail) (cond (ends s.advance n v) writer_step.LoadCheckpoint (writer_step.Advance (advance_next s.advance n v))) refl
    (pick writer_hand None (ends s.advance n v) writer_step.LoadCheckpoint (writer_step.Advance (advance_next s.advance n v)) refl refl)

writer_own : (s : WriterState) (f : WriterStep) → Handles (writer_op s f) (writer_hand f) (λ r. writer_hand (writer_took s r f).step)
writer_own s (writer_step.Advance v) = plain_advance link_buffer.Written s.advance v None (λ r. writer_hand (writer_took s r (writer_step.Advance v)).step) (λ n. followed_none s n v)
writer_own s writer_step.LoadCheckpoint = λ n. pick (λ (z : WriterState). writer_hand z.step) None (has_log_space s n) (record s { ckpt = n; step = cond (stands_outside s) writer_step.LoadFirst writer_step.LoadCell }) (record s { ckpt = n; checks = true; step = writer_step.LoadCheckpoint })
    (pick writer_hand None (stands_outside s) writer_step.LoadFirst writer_step.LoadCell refl refl) refl
writer_own s writer_step.LoadFirst = λ n. refl
writer_own s writer_step.ClearFirst = λ n. refl
writer_own s writer_step.LoadCell = λ n. pick (λ (z : WriterState). writer_hand z.step) None (has_whole_word s) (record s { word = n; step = writer_step.ClearCell })
    (record s { kept = s.kept ++ lanes (lane_of (read_place s)) (s.tail - lsn (read_place s)) n; step = writer_step.TakeDevice }) refl refl
writer_own s writer_step.ClearCell = λ n. pick writer_hand None (lsn (word_end s) == s.tail) writer_step.TakeDevice (cond (length s.kept + left_in_word (read_place s) == BLOCK_DATA * length s.firsts) writer_step.LoadFirst writer_step.LoadCell) refl
    (pick writer_hand None (length s.kept + left_in_word (read_place s) == BLOCK_DATA * length s.firsts) writer_step.LoadFirst writer_step.LoadCell refl refl)
writer_own s writer_step.TakeDevice = (refl, λ n. refl, refl, refl)
writer_own s writer_step.GiveBroken = (refl, refl)
writer_own s writer_step.WriteTo = (refl, λ n. refl, λ c. refl)
writer_own s writer_step.StoreWrite = λ n. refl
writer_own s writer_step.GiveDevice = (refl, refl)
writer_own s writer_step.StoreFailed = λ n. refl
writer_own s writer_step.GiveFailed = (refl, refl)
writer_own s writer_step.Failed = tt

flusher_own : (t : FlusherState) (f : FlusherStep) → Handles (flusher_op t f) (flusher_hand f) (λ r. flusher_hand (flusher_took t r f).step)
flusher_own t flusher_step.LoadWrite = λ n. pick (λ (z : FlusherState). flusher_hand z.step) None (n == t.last) (record t { write = n; checks = true; step = flusher_step.LoadWrite }) (record t { write = n; step = flusher_step.TakeDevice }) refl refl
flusher_own t flusher_step.TakeDevice = (refl, λ n. refl, refl, refl)
flusher_own t flusher_step.GiveBroken = (refl, refl)
flusher_own t flusher_step.Sync = (refl, λ n. refl, λ c. refl)
flusher_own t flusher_step.StoreFlushed = λ n. refl
flusher_own t flusher_step.GiveDevice = (refl, refl)
flusher_own t flusher_step.StoreFailed = λ n. refl
flusher_own t flusher_step.GiveFailed = (refl, refl)
flusher_own t flusher_step.Failed = tt

reader_own : (t : ReaderState) (f : ReaderStep) → Handles (reader_op t f) (reader_hand f) (λ r. reader_hand (reader_took t r f).step)
reader_own t reader_step.LoadFlushed = λ n. pick (λ (z : ReaderState). reader_hand z.step) None (has_all t n) (record t { mark = n; checks = true; step = reader_step.LoadFlushed }) (record t { mark = n; step = reader_step.TakeDevice }) refl refl
reader_own t reader_step.TakeDevice = (refl, λ n. refl, refl, refl)
reader_own t reader_step.GiveBroken = (refl, refl)
reader_own t reader_step.ReadBlock = (refl, λ n. refl, λ c. refl)
reader_own t reader_step.Append = (refl, λ n. refl, λ c. refl)
reader_own t reader_step.StorePlace = λ n. refl
reader_own t reader_step.GiveDevice = (refl, pick (λ (z : ReaderState). reader_hand z.step) None (archives t) (to_append t) (followed t) refl (pick reader_hand None (is_none t.texts) reader_step.LoadFlushed reader_step.StorePlace refl refl))
reader_own t reader_step.StoreFailed = λ n. refl
reader_own t reader_step.GiveFailed = (refl, refl)
reader_own t reader_step.StoreLost = λ n. refl
reader_own t reader_step.Failed = tt

closer_own : (t : CloserState) (f : CloserStep) → Handles (closer_op t f) None (λ r. None)
closer_own t (closer_step.Advance v) = plain_advance link_buffer.Closed t.advance v None (λ r. None) (λ n. refl)
closer_own t closer_step.Failed = tt

round_none : (v : CleanerState) → of_cleaner (next_in_round v) ≡ None
round_none v =
    let x : CleanerState = record v { page = cond (v.page + 1 == v.pages) 0 (v.page + 1); left = v.left - 1; kept = [] } in
    pick of_cleaner None (cond (v.left == 1) true (length v.batch == v.slots)) (end_round x) (record x { step = cleaner_step.LoadOldest })
    (pick of_cleaner None (length v.batch == 0) (record x { checks = true; step = cleaner_step.LoadFlushed }) (record x { step = cleaner_step.WriteBatch }) refl refl) refl

called_none : (v : CleanerState) (r : Answer) → cleaner_hand (cleaner_took v r cleaner_step.WriteBatch) (cleaner_took v r cleaner_step.WriteBatch).step ≡ None
called_none v (answer.Old n) = refl
called_none v (answer.Taken n) = refl
called_none v answer.Held = refl
called_none v answer.Broken = refl
called_none v (answer.Called n) = refl
called_none v (answer.Failed c) = refl
called_none v answer.Rested = refl

cleaner_own : (v : CleanerState) (f : CleanerStep) → Handles (cleaner_op v f) (cleaner_hand v f) (λ r. of_cleaner (cleaner_took v r f))
cleaner_own v cleaner_step.LoadFlushed = λ n. refl
cleaner_own v cleaner_step.LoadOldest = λ n. pick of_cleaner None (n == 0) (next_in_round v) (record v { step = cleaner_step.TakeLatch }) (round_none v) refl
cleaner_own v cleaner_step.TakeLatch = λ n. pick of_cleaner None (n == 0) (record v { step = cleaner_step.LoadNewest }) (next_in_round v) refl (round_none v)
cleaner_own v cleaner_step.LoadNewest = λ n. pick of_cleaner None (nat_le n v.flushed) (record v { newest = n; kept = []; step = cleaner_step.LoadFrame }) (record v { step = cleaner_step.ReleaseSkipped }) refl refl
cleaner_own v cleaner_step.ReleaseSkipped = λ n. round_none v
cleaner_own v cleaner_step.LoadFrame = λ n. pick of_cleaner None (length v.kept + WORD_LANES == v.page_size) (next_in_round (record v { batch = v.batch ++ page_loaded v n ∷ [] })) (record v { kept = v.kept ++ lanes 0 WORD_LANES n; step = cleaner_step.LoadFrame }) (round_none (record v { batch = v.batch ++ page_loaded v n ∷ [] })) refl
cleaner_own v cleaner_step.WriteBatch = (refl, λ r. called_none v r)
cleaner_own v cleaner_step.RemoveFromList = (refl, λ n. refl, refl)
cleaner_own v cleaner_step.ClearOldest = λ n. refl
cleaner_own v cleaner_step.GiveList = (refl, refl)
cleaner_own v cleaner_step.ReleaseLatch = λ n. pick (cleaner_hand (record v { batch = drop 1 v.batch })) None (length v.batch == 1) cleaner_step.LoadFlushed cleaner_step.RemoveFromList refl refl
cleaner_own v cleaner_step.StoreFailed = λ n. refl
cleaner_own v cleaner_step.Failed = tt

checkpointer_own : (t : CheckpointerState) (f : CheckpointerStep) → Handles (checkpointer_op t f) (checkpointer_hand t f) (λ r. of_checkpointer (checkpointer_took t r f))
checkpointer_own t checkpointer_step.LoadCtail = λ n. pick (checkpointer_hand (record t { ctail = tail_of n; to = tail_of n; list = 0; reader = t.first })) None (t.first == t.last) checkpointer_step.ReadList checkpointer_step.LoadPlace refl refl
checkpointer_own t checkpointer_step.LoadPlace = λ n. pick (checkpointer_hand (record t { to = min t.to n; reader = t.reader + 1 })) None (t.reader + 1 == t.last) checkpointer_step.ReadList checkpointer_step.LoadPlace refl refl
checkpointer_own t checkpointer_step.ReadList = (refl, λ n. refl, refl)
checkpointer_own t checkpointer_step.GiveList = (refl, pick (checkpointer_hand (record t { list = t.list + 1 })) None (t.list + 1 == 4) checkpointer_step.LoadFlushed checkpointer_step.ReadList refl refl)
checkpointer_own t checkpointer_step.LoadFlushed = λ n. pick of_checkpointer None (is_above t n) (record t { flushed = n; to = candidate t n; step = checkpointer_step.TakeDevice }) (record t { flushed = n; checks = true; step = checkpointer_step.LoadCtail }) refl refl
checkpointer_own t checkpointer_step.TakeDevice = (refl, λ n. refl, refl, refl)
checkpointer_own t checkpointer_step.GiveBroken = (refl, refl)
checkpointer_own t checkpointer_step.Checkpoint = (refl, λ n. refl, λ c. refl)
checkpointer_own t checkpointer_step.StoreCheckpoint = λ n. refl
checkpointer_own t checkpointer_step.GiveDevice = (refl, refl)
checkpointer_own t checkpointer_step.StoreFailed = λ n. refl
checkpointer_own t checkpointer_step.GiveFailed = (refl, refl)
checkpointer_own t checkpointer_step.Failed = tt

-- a load of FAILED: whoever checks holds nothing, then as before
module _ {S : Type 0} (wrap : S → Actor) (o : Op) (heard_checks : S) (heard_fails : ℕ → S) (own : Answer → S) where
  by_check : (b : Bool) → (before : Option ℕ) → (b ≡ true → before ≡ None) → hand (wrap heard_checks) ≡ before → ((n : ℕ) → hand (wrap (heard_fails n)) ≡ None) → Handles o before (λ r. hand (wrap (own r)))
      → Handles (cond b (op.Load word.Failed) o) before (λ r. hand (cond b (wrap (cond (old_of r == 0) heard_checks (heard_fails (old_of r)))) (wrap (own r))))
  by_check true before free same none goes = λ n. pick (λ (z : S). hand (wrap z)) before (n == 0) heard_checks (heard_fails n) same (none n ∙ sym (free refl))
  by_check false before free same none goes = goes

user_same : (u : UserState) (f : UserStep) → user_hand (record u { checks = false }) f ≡ user_hand u f
user_same u user_step.StoreOldest = refl
user_same u user_step.GiveList = refl
user_same u user_step.LoadCheckpoint = refl
user_same u _ = refl

cleaner_same : (v : CleanerState) (f : CleanerStep) → cleaner_hand (record v { checks = false }) f ≡ cleaner_hand v f
cleaner_same v cleaner_step.ClearOldest = refl
cleaner_same v cleaner_step.GiveList = refl
cleaner_same v _ = refl

checkpointer_same : (t : CheckpointerState) (f : CheckpointerStep) → checkpointer_hand (record t { checks = false }) f ≡ checkpointer_hand t f
checkpointer_same t checkpointer_step.GiveList = refl
checkpointer_same t _ = refl

pub handles : (a : Actor) → IsFreeToCheck a → Handles (next a) (hand a) (λ r. hand (took a r))
handles (actor.User u) free = by_check actor.User (user_op u u.step) (record u { checks = false }) (λ n. record u { checks = false; code = n; step = user_step.Failed }) (λ r. user_took u (heard r) u.step) u.checks (user_hand u u.step) (λ c. (free c).no_slot) (user_same u u.step) (λ n. refl) (user_own u u.step)
handles (actor.Writer s) free = by_check actor.Writer (writer_op s s.step) (record s { checks = false }) (λ n. record s { checks = false; code = n; step = writer_step.Failed }) (λ r. writer_took s r s.step) s.checks (writer_hand s.step) (λ c. (free c).no_slot) refl (λ n. refl) (writer_own s s.step)
handles (actor.Flusher t) free = by_check actor.Flusher (flusher_op t t.step) (record t { checks = false }) (λ n. record t { checks = false; code = n; step = flusher_step.Failed }) (λ r. flusher_took t r t.step) t.checks (flusher_hand t.step) (λ c. (free c).no_slot) refl (λ n. refl) (flusher_own t t.step)
handles (actor.Reader t) free = by_check actor.Reader (reader_op t t.step) (record t { checks = false }) (λ n. record t { checks = false; code = n; step = reader_step.Failed }) (λ r. reader_took t r t.step) t.checks (reader_hand t.step) (λ c. (free c).no_slot) refl (λ n. refl) (reader_own t t.step)
handles (actor.Closer t) free = by_check actor.Closer (closer_op t t.step) (record t { checks = false }) (λ n. record t { checks = false; code = n; step = closer_step.Failed }) (λ r. closer_took t r t.step) t.checks None (λ c. (free c).no_slot) refl (λ n. refl) (closer_own t t.step)
handles (actor.Cleaner v) free = by_check actor.Cleaner (cleaner_op v v.step) (record v { checks = false }) (λ n. record v { checks = false; code = n; step = cleaner_step.Failed }) (λ r. cleaner_took v r v.step) v.checks (cleaner_hand v v.step) (λ c. (free c).no_slot) (cleaner_same v v.step) (λ n. refl) (cleaner_own v v.step)
handles (actor.Checkpointer t) free = by_check actor.Checkpointer (checkpointer_op t t.step) (record t { checks = false }) (λ n. record t { checks = false; code = n; step = checkpointer_step.Failed }) (λ r. checkpointer_took t r t.step) t.checks (checkpointer_hand t t.step) (λ c. (free c).no_slot) (checkpointer_same t t.step) (λ n. refl) (checkpointer_own t t.step)

-- and who checks after it holds nothing
abbrev IsFree : Bool → Option ℕ → Type 0
IsFree checks held = (checks ≡ false) ⊎ (held ≡ None)

choose : {S : Type 0} (checks : S → Bool) (h : S → Option ℕ) (b : Bool) (x y : S) → IsFree (checks x) (h x) → IsFree (checks y) (h y) → IsFree (checks (cond b x y)) (h (cond b x y))
choose checks h true x y e f = e
choose checks h false x y e f = f

abbrev FreeUser : UserState → Type 0
FreeUser u = IsFree u.checks (user_hand u u.step)

user_free : (u : UserState) → u.checks ≡ false → (n : ℕ) (f : UserStep) → FreeUser (user_took u n f)
user_free u quiet n user_step.LoadSn = choose (λ (z : UserState). z.checks) of_user (has_space u n) (record u { page = 0; cell = 0; step = cond (length (changes u) == 0) user_step.Reserve user_step.TakeLatch }) (record u { checks = true; step = user_step.LoadCheckpoint }) (inl quiet) (inr refl)
user_free u quiet n user_step.TakeLatch = choose (λ (z : UserState). z.checks) of_user (n == 0) (record u { page = u.page + 1; step = cond (u.page + 1 == length (changes u)) user_step.Reserve user_step.TakeLatch }) (record u { checks = true; step = user_step.TakeLatch }) (inl quiet) (inr refl)
user_free u quiet n user_step.LoadWrite = choose (λ (z : UserState). z.checks) of_user (has_room u n) (record u { loaded = record u.loaded { write = n }; step = user_step.AddCell }) (record u { loaded = record u.loaded { write = n }; checks = true; step = user_step.LoadWrite }) (inl quiet) (inr refl)
user_free u quiet n user_step.LoadWtail = choose (λ (z : UserState). z.checks) of_user (can_link u (tail_of n)) (with_link_room u n) (without_link_room u n false (user_step.AdvanceWritten advance_step.LoadTail)) (inl quiet) (inl refl)
user_free u quiet n (user_step.AdvanceWritten s) = inr (written_none u n s)
user_free u quiet n user_step.ReloadWtail = choose (λ (z : UserState). z.checks) of_user (can_link u (tail_of n)) (with_link_room u n) (without_link_room u n true user_step.LoadWtail) (inl quiet) (inr refl)
user_free u quiet n user_step.StoreLink = choose (λ (z : UserState). z.checks) of_user (length (changes u) == 0) (after_link u) (record u { step = user_step.LoadCtail }) (inr (linked_none u)) (inl quiet)
user_free u quiet n user_step.LoadCtail = choose (λ (z : UserState). z.checks) of_user (can_close u (tail_of n)) (with_close_room u n) (without_close_room u n false (user_step.AdvanceClosed advance_step.LoadTail)) (inl quiet) (inl refl)
user_free u quiet n (user_step.AdvanceClosed s) = inr (closed_none u n s)
user_free u quiet n user_step.ReloadCtail = choose (λ (z : UserState). z.checks) of_user (can_close u (tail_of n)) (with_close_room u n) (without_close_room u n true user_step.LoadCtail) (inl quiet) (inr refl)
user_free u quiet n user_step.LoadOldest = choose (λ (z : UserState). z.checks) of_user (n == 0) (record u { step = user_step.AddToList }) (to_next_page u) (inl quiet) (inl quiet)
user_free u quiet n user_step.AddToList = by (n == 0)
  where
    by : (b : Bool) → IsFree (cond b false true) (user_hand (record u { checks = cond b false true; step = cond b user_step.StoreOldest user_step.AddToList }) (cond b user_step.StoreOldest user_step.AddToList))
    by true = inl refl
    by false = inr refl
user_free u quiet n user_step.ReleaseLatch = choose (λ (z : UserState). z.checks) of_user (u.page + 1 == length (changes u)) (after_link u) (record u { page = u.page + 1; step = user_step.ReleaseLatch }) (inr (linked_none u)) (inl quiet)
user_free u quiet n user_step.AwaitMark = choose (λ (z : UserState). z.checks) of_user (has_passed u n) (answered (record u { loaded = with_mark u n })) (record u { loaded = with_mark u n; checks = true; step = user_step.AwaitMark }) (inr (answered_none (record u { loaded = with_mark u n }))) (inr refl)
user_free u quiet n _ = inl quiet

on_take_free : (r : Answer) → (held : Answer → Option ℕ) → (held answer.Held ≡ None) → ((n : ℕ) → held (answer.Old n) ≡ None) → ((n : ℕ) → held (answer.Called n) ≡ None) → ((n : ℕ) → held (answer.Failed n) ≡ None) → held answer.Rested ≡ None → IsFree (on_take r false false true) (held r)
on_take_free (answer.Taken n) held a b c d e = inl refl
on_take_free answer.Broken held a b c d e = inl refl
on_take_free answer.Held held a b c d e = inr a
on_take_free (answer.Old n) held a b c d e = inr (b n)
on_take_free (answer.Called n) held a b c d e = inr (c n)
on_take_free (answer.Failed n) held a b c d e = inr (d n)
on_take_free answer.Rested held a b c d e = inr e

writer_free : (s : WriterState) → s.checks ≡ false → (r : Answer) (f : WriterStep) → IsFree (writer_took s r f).checks (writer_hand (writer_took s r f).step)
writer_free s quiet r (writer_step.Advance v) = inr (followed_none s (old_of r) v)
writer_free s quiet r writer_step.LoadCheckpoint = choose (λ (z : WriterState). z.checks) (λ (z : WriterState). writer_hand z.step) (has_log_space s (old_of r)) (record s { ckpt = old_of r; step = cond (stands_outside s) writer_step.LoadFirst writer_step.LoadCell }) (record s { ckpt = old_of r; checks = true; step = writer_step.LoadCheckpoint }) (inl quiet) (inr refl)
writer_free s quiet r writer_step.LoadCell = choose (λ (z : WriterState). z.checks) (λ (z : WriterState). writer_hand z.step) (has_whole_word s) (record s { word = old_of r; step = writer_step.ClearCell })
    (record s { kept = s.kept ++ lanes (lane_of (read_place s)) (s.tail - lsn (read_place s)) (old_of r); step = writer_step.TakeDevice }) (inl quiet) (inl quiet)
writer_free s quiet r writer_step.TakeDevice = on_take_free r (λ z. writer_hand (on_take z writer_step.WriteTo writer_step.GiveBroken writer_step.TakeDevice)) refl (λ n. refl) (λ n. refl) (λ n. refl) refl
writer_free s quiet r writer_step.GiveBroken = inr refl
writer_free s quiet r _ = inl quiet

flusher_free : (t : FlusherState) → t.checks ≡ false → (r : Answer) (f : FlusherStep) → IsFree (flusher_took t r f).checks (flusher_hand (flusher_took t r f).step)
flusher_free t quiet r flusher_step.LoadWrite = choose (λ (z : FlusherState). z.checks) (λ (z : FlusherState). flusher_hand z.step) (old_of r == t.last) (record t { write = old_of r; checks = true; step = flusher_step.LoadWrite }) (record t { write = old_of r; step = flusher_step.TakeDevice }) (inr refl) (inr refl)
flusher_free t quiet r flusher_step.TakeDevice = on_take_free r (λ z. flusher_hand (on_take z flusher_step.Sync flusher_step.GiveBroken flusher_step.TakeDevice)) refl (λ n. refl) (λ n. refl) (λ n. refl) refl
flusher_free t quiet r flusher_step.GiveBroken = inr refl
flusher_free t quiet r _ = inl quiet

reader_free : (t : ReaderState) → t.checks ≡ false → (r : Answer) (f : ReaderStep) → IsFree (reader_took t r f).checks (reader_hand (reader_took t r f).step)
reader_free t quiet r reader_step.LoadFlushed = choose (λ (z : ReaderState). z.checks) (λ (z : ReaderState). reader_hand z.step) (has_all t (old_of r)) (record t { mark = old_of r; checks = true; step = reader_step.LoadFlushed }) (record t { mark = old_of r; step = reader_step.TakeDevice }) (inr refl) (inr refl)
reader_free t quiet r reader_step.TakeDevice = on_take_free r (λ z. reader_hand (on_take z reader_step.ReadBlock reader_step.GiveBroken reader_step.TakeDevice)) refl (λ n. refl) (λ n. refl) (λ n. refl) refl
reader_free t quiet r reader_step.GiveBroken = inr refl
reader_free t quiet r reader_step.GiveDevice = choose (λ (z : ReaderState). z.checks) (λ (z : ReaderState). reader_hand z.step) (archives t) (to_append t) (followed t) (inl quiet) (inl quiet)
reader_free t quiet r _ = inl quiet

cleaner_free : (v : CleanerState) → v.checks ≡ false → (r : Answer) (f : CleanerStep) → IsFree (cleaner_took v r f).checks (of_cleaner (cleaner_took v r f))
cleaner_free v quiet r cleaner_step.LoadOldest = choose (λ (z : CleanerState). z.checks) of_cleaner (old_of r == 0) (next_in_round v) (record v { step = cleaner_step.TakeLatch }) (inr (round_none v)) (inl quiet)
cleaner_free v quiet r cleaner_step.TakeLatch = choose (λ (z : CleanerState). z.checks) of_cleaner (old_of r == 0) (record v { step = cleaner_step.LoadNewest }) (next_in_round v) (inl quiet) (inr (round_none v))
cleaner_free v quiet r cleaner_step.LoadNewest = choose (λ (z : CleanerState). z.checks) of_cleaner (nat_le (old_of r) v.flushed) (record v { newest = old_of r; kept = []; step = cleaner_step.LoadFrame }) (record v { step = cleaner_step.ReleaseSkipped }) (inl quiet) (inl quiet)
cleaner_free v quiet r cleaner_step.ReleaseSkipped = inr (round_none v)
cleaner_free v quiet r cleaner_step.LoadFrame = choose (λ (z : CleanerState). z.checks) of_cleaner (length v.kept + WORD_LANES == v.page_size) (next_in_round (record v { batch = v.batch ++ page_loaded v (old_of r) ∷ [] })) (record v { kept = v.kept ++ lanes 0 WORD_LANES (old_of r); step = cleaner_step.LoadFrame }) (inr (round_none (record v { batch = v.batch ++ page_loaded v (old_of r) ∷ [] }))) (inl quiet)
cleaner_free v quiet r cleaner_step.RemoveFromList = choose (λ (z : CleanerState). z.checks) of_cleaner (has_taken r) (record v { step = cleaner_step.ClearOldest }) (record v { checks = true; step = cleaner_step.RemoveFromList }) (inl quiet) (inr refl)
cleaner_free v quiet r _ = inl quiet

checkpointer_free : (t : CheckpointerState) → t.checks ≡ false → (r : Answer) (f : CheckpointerStep) → IsFree (checkpointer_took t r f).checks (of_checkpointer (checkpointer_took t r f))
checkpointer_free t quiet r checkpointer_step.ReadList = choose (λ (z : CheckpointerState). z.checks) of_checkpointer (has_taken r) (record t { to = lowered t.to (oldest_in r); step = checkpointer_step.GiveList }) (record t { checks = true; step = checkpointer_step.ReadList }) (inl quiet) (inr refl)
checkpointer_free t quiet r checkpointer_step.LoadFlushed = choose (λ (z : CheckpointerState). z.checks) of_checkpointer (is_above t (old_of r)) (record t { flushed = old_of r; to = candidate t (old_of r); step = checkpointer_step.TakeDevice }) (record t { flushed = old_of r; checks = true; step = checkpointer_step.LoadCtail }) (inl quiet) (inr refl)
checkpointer_free t quiet r checkpointer_step.TakeDevice = on_take_free r (λ z. checkpointer_hand t (on_take z checkpointer_step.Checkpoint checkpointer_step.GiveBroken checkpointer_step.TakeDevice)) refl (λ n. refl) (λ n. refl) (λ n. refl) refl
checkpointer_free t quiet r checkpointer_step.GiveBroken = inr refl
checkpointer_free t quiet r _ = inl quiet

-- after a check nobody checks
abbrev ChecksWithoutSlot : Actor → Type 0
ChecksWithoutSlot a = is_checking a ≡ true → hand a ≡ None

module _ {S : Type 0} (wrap : S → Actor) (checks : S → Bool) (goes fails own : S) (same : (x : S) → is_checking (wrap x) ≡ checks x) where
  by_free : (b zero : Bool) → checks goes ≡ false → checks fails ≡ false → (b ≡ false → IsFree (checks own) (hand (wrap own))) → ChecksWithoutSlot (cond b (wrap (cond zero goes fails)) (wrap own))
  by_free true true a f own_free is = let z = same goes in absurd (cc)
  by_free true false a f own_free is = let z = same fails in absurd (cc)
  by_free false zero a f own_free is = let z = same own in ⊎_elim (λ e. absurd (cc)) (λ e. e) (own_free refl)

stays_empty : (a : Actor) (r : Answer) → ChecksWithoutSlot (took a r)
stays_empty (actor.User u) r = by_free actor.User (λ (z : UserState). z.checks) (record u { checks = false }) (record u { checks = false; code = old_of r; step = user_step.Failed }) (user_took u (heard r) u.step) (λ z. refl) u.checks (old_of r == 0) refl refl (λ quiet. user_free u quiet (heard r) u.step)
stays_empty (actor.Writer s) r = by_free actor.Writer (λ (z : WriterState). z.checks) (record s { checks = false }) (record s { checks = false; code = old_of r; step = writer_step.Failed }) (writer_took s r s.step) (λ z. refl) s.checks (old_of r == 0) refl refl (λ quiet. writer_free s quiet r s.step)
stays_empty (actor.Flusher t) r = by_free actor.Flusher (λ (z : FlusherState). z.checks) (record t { checks = false }) (record t { checks = false; code = old_of r; step = flusher_step.Failed }) (flusher_took t r t.step) (λ z. refl) t.checks (old_of r == 0) refl refl (λ quiet. flusher_free t quiet r t.step)
stays_empty (actor.Reader t) r = by_free actor.Reader (λ (z : ReaderState). z.checks) (record t { checks = false }) (record t { checks = false; code = old_of r; step = reader_step.Failed }) (reader_took t r t.step) (λ z. refl) t.checks (old_of r == 0) refl refl (λ quiet. reader_free t quiet r t.step)
stays_empty (actor.Closer t) r = by_free actor.Closer (λ (z : CloserState). z.checks) (record t { checks = false }) (record t { checks = false; code = old_of r; step = closer_step.Failed }) (closer_took t r t.step) (λ z. refl) t.checks (old_of r == 0) refl refl (λ quiet. inr refl)
stays_empty (actor.Cleaner v) r = by_free actor.Cleaner (λ (z : CleanerState). z.checks) (record v { checks = false }) (record v { checks = false; code = old_of r; step = cleaner_step.Failed }) (cleaner_took v r v.step) (λ z. refl) v.checks (old_of r == 0) refl refl (λ quiet. cleaner_free v quiet r v.step)
stays_empty (actor.Checkpointer t) r = by_free actor.Checkpointer (λ (z : CheckpointerState). z.checks) (record t { checks = false }) (record t { checks = false; code = old_of r; step = checkpointer_step.Failed }) (checkpointer_took t r t.step) (λ z. refl) t.checks (old_of r == 0) refl refl (λ quiet. checkpointer_free t quiet r t.step)

pub stays_free : (a : Actor) (r : Answer) → IsFreeToCheck (took a r)
stays_free a r checks = record { no_slot = stays_empty a r checks; no_tail = took_free a r checks }
