-- The margin: of the log there is always space for what users may still reserve after their last check for it, and more.
use Rattle.std.proofs.Common.{Bool, List, arith, cond, eqb, false, length, refl, true, ℕ, ◌%◌, ◌*◌, ◌+◌, ◌/◌, ◌==◌, ◌≡◌, ◌≤◌}
use Rattle.std.specs.Prelude.{nat_lt, slice_index, slice_set}
use Rattle.model_base.specs.declared.limits.TheConstants.{BLOCK_SIZE}
use Rattle.model_core.specs.{Actor, Advance, advance_next, advance_op, after_link, answered, can_close, can_link, cells_of, change_at, changes, checkpointer_op, CheckpointerState, cleaner_op, CleanerState, closer_op, CloserState, current_page, first_of_batch, flusher_op, FlusherState, frame_count, frees, group_bytes, group_end, has_passed, has_room, is_whole, lsn, mode, next_count, page_words_at, read, reader_op, ReaderState, shared_left, SharedWords, stays_put, tail_of, tail_word, to_next_page, user_op, user_took, UserState, with_mark, with_page_words, word_step, writer_op, WriterState, wrote, CellWrite, Setup}
use Rattle.model_core.specs.UserProgram.{with_close_room, with_link_room, without_close_room, without_link_room}
use Rattle.model_core.specs.declared.ops.Op.{Op}
use Rattle.model_core.specs.declared.steps.CheckpointerStep.{CheckpointerStep}
use Rattle.model_core.specs.declared.steps.CleanerStep.{CleanerStep}
use Rattle.model_core.specs.declared.steps.CloserStep.{CloserStep}
use Rattle.model_core.specs.declared.steps.FlusherStep.{FlusherStep}
use Rattle.model_core.specs.declared.steps.ReaderStep.{ReaderStep}
use Rattle.model_core.specs.declared.steps.UserStep.{UserStep}
use Rattle.model_core.specs.declared.steps.WriterStep.{WriterStep}
use Rattle.model_core.specs.declared.words.LinkBuffer.{LinkBuffer}
use Rattle.model_log.specs.declared.layout.TheConstants.{BLOCK_DATA}
use Rattle.model_logcore.specs.{sum_over_actors}
use Rattle.model_core.specs.States as actor
use Rattle.model_core.specs.declared.ops.Op.TheVariants as op
use Rattle.model_core.specs.declared.steps.AdvanceStep.TheVariants as advance_step
use Rattle.model_core.specs.declared.steps.CheckpointerStep.TheVariants as checkpointer_step
use Rattle.model_core.specs.declared.steps.CleanerStep.TheVariants as cleaner_step
use Rattle.model_core.specs.declared.steps.CloserStep.TheVariants as closer_step
use Rattle.model_core.specs.declared.steps.FlusherStep.TheVariants as flusher_step
use Rattle.model_core.specs.declared.steps.ReaderStep.TheVariants as reader_step
use Rattle.model_core.specs.declared.steps.UserStep.TheVariants as user_step
use Rattle.model_core.specs.declared.steps.WriterStep.TheVariants as writer_step
use Rattle.model_core.specs.declared.words.LinkBuffer.TheVariants as link_buffer
use Rattle.model_core.specs.declared.words.Word.TheVariants as word

-- the bytes that a user may reserve without another check: those of its next group, once it has found space for it
abbrev pub user_pledge : UserState → UserStep → ℕ
user_pledge u user_step.TakeLatch = length (group_bytes u)
user_pledge u user_step.Reserve = length (group_bytes u)
user_pledge u _ = 0

abbrev pub pledge : Actor → ℕ
pledge (actor.User u) = user_pledge u u.step
pledge _ = 0

abbrev pub is_user : Actor → ℕ
is_user (actor.User u) = 1
is_user _ = 0

-- There are at most 16 users. The log's round from the checkpoint on has space past SN for what they may reserve, and for
-- 143,216 bytes more: 16 groups of 8,192 bytes take at most 135,312 of the 278,528 that each check asks for.
pub record HasMargin (c : Setup) (m : SharedWords) (actors : List Actor) : Type 0 where
  pub few : sum_over_actors is_user actors ≤ 16
  pub space : lsn (m.sn + sum_over_actors pledge actors) + 143_216 ≤ m.ckpt + BLOCK_SIZE * c.blocks

-- 16 groups are no longer than that in lsns
pub groups_near : (x n : ℕ) → n ≤ 131_072 → lsn (x + n) ≤ lsn x + 135_312
unfolding lsn
groups_near x n h = omega arith

-- WHAT A USER'S TURN LEAVES
abbrev pub state_pledge : UserState → ℕ
state_pledge u = user_pledge u u.step

none_by : (b : Bool) (x y : UserState) → state_pledge x ≡ 0 → state_pledge y ≡ 0 → state_pledge (cond b x y) ≡ 0
none_by true x y h k = h
none_by false x y h k = k

step_by : (u : UserState) (b : Bool) (f g : UserStep) → user_pledge u f ≡ 0 → user_pledge u g ≡ 0 → user_pledge u (cond b f g) ≡ 0
step_by u true f g h k = h
step_by u false f g h k = k

answered_none : (u : UserState) → state_pledge (answered u) ≡ 0
answered_none u = step_by (answered u) (u.k + 1 == length u.lines) user_step.Done user_step.LoadCheckpoint refl refl

linked_none : (u : UserState) → state_pledge (after_link u) ≡ 0
linked_none u = none_by (mode u == 0) (answered u) (record u { step = user_step.AwaitMark }) (answered_none u) refl

word_none : (u : UserState) (cells : List CellWrite) (i : ℕ) → user_pledge u (word_step cells i) ≡ 0
word_none u cells i = step_by u (is_whole cells i) user_step.StoreFrame user_step.LoadFrame refl refl

turned_none : (u : UserState) → state_pledge (to_next_page u) ≡ 0
turned_none u = step_by (to_next_page u) (u.page + 1 == length (changes u)) user_step.StoreClosedLink (cond (0 == length (change_at (changes u) (u.page + 1)).cells) user_step.StoreNewest (word_step (change_at (changes u) (u.page + 1)).cells 0)) refl
    (step_by (to_next_page u) (0 == length (change_at (changes u) (u.page + 1)).cells) user_step.StoreNewest (word_step (change_at (changes u) (u.page + 1)).cells 0) refl (word_none (to_next_page u) (change_at (changes u) (u.page + 1)).cells 0))

with_room_none : (u : UserState) (n : ℕ) → state_pledge (with_close_room u n) ≡ 0
with_room_none u n = step_by (with_close_room u n) (u.cell == length (cells_of u)) user_step.StoreNewest (word_step (cells_of u) u.cell) refl (word_none (with_close_room u n) (cells_of u) u.cell)

advanced_none : (u : UserState) (stays freed : Bool) (on moved first : UserStep) → user_pledge u on ≡ 0 → user_pledge u moved ≡ 0 → user_pledge u first ≡ 0 → user_pledge u (cond stays first (cond freed moved on)) ≡ 0
advanced_none u stays freed on moved first e h k = step_by u stays first (cond freed moved on) k (step_by u freed moved on h e)

-- a step of a user with which it pledges nothing, and after which it doesn't
pub took_none : (u : UserState) (n : ℕ) (f : UserStep) → (f ≡ user_step.LoadSn → ⊥) → (f ≡ user_step.TakeLatch → ⊥) → (f ≡ user_step.Done → ⊥) → (f ≡ user_step.Failed → ⊥) → state_pledge (user_took u n f) ≡ 0
took_none u n user_step.LoadCheckpoint a b c d = refl
took_none u n user_step.LoadSn a b c d = absurd (a (λ i. user_step.LoadSn))
took_none u n user_step.TakeLatch a b c d = absurd (b (λ i. user_step.TakeLatch))
took_none u n user_step.Reserve a b c d = refl
took_none u n user_step.LoadWrite a b c d = none_by (has_room u n) (record u { loaded = record u.loaded { write = n }; step = user_step.AddCell }) (record u { loaded = record u.loaded { write = n }; checks = true; step = user_step.LoadWrite }) refl refl
took_none u n user_step.AddCell a b c d = step_by (record u { copied = u.copied + next_count u }) (u.copied + next_count u == length (group_bytes u)) (cond (nat_lt (u.start / BLOCK_DATA) (group_end u / BLOCK_DATA)) user_step.StoreFirst user_step.LoadWtail) user_step.AddCell
    (step_by (record u { copied = u.copied + next_count u }) (nat_lt (u.start / BLOCK_DATA) (group_end u / BLOCK_DATA)) user_step.StoreFirst user_step.LoadWtail refl refl) refl
took_none u n user_step.StoreFirst a b c d = refl
took_none u n user_step.LoadWtail a b c d = none_by (can_link u (tail_of n)) (with_link_room u n) (without_link_room u n false (user_step.AdvanceWritten advance_step.LoadTail)) refl refl
took_none u n (user_step.AdvanceWritten s) a b c d = advanced_none (user_took u n (user_step.AdvanceWritten s)) (stays_put u.advance n s) (frees s) (user_step.AdvanceWritten (advance_next u.advance n s)) user_step.ReloadWtail user_step.LoadWtail refl refl refl
took_none u n user_step.ReloadWtail a b c d = none_by (can_link u (tail_of n)) (with_link_room u n) (without_link_room u n true user_step.LoadWtail) refl refl
took_none u n user_step.StoreLink a b c d = none_by (length (changes u) == 0) (after_link u) (record u { step = user_step.LoadCtail }) (linked_none u) refl
took_none u n user_step.LoadCtail a b c d = none_by (can_close u (tail_of n)) (with_close_room u n) (without_close_room u n false (user_step.AdvanceClosed advance_step.LoadTail)) (with_room_none u n) refl
took_none u n (user_step.AdvanceClosed s) a b c d = advanced_none (user_took u n (user_step.AdvanceClosed s)) (stays_put u.advance n s) (frees s) (user_step.AdvanceClosed (advance_next u.advance n s)) user_step.ReloadCtail user_step.LoadCtail refl refl refl
took_none u n user_step.ReloadCtail a b c d = none_by (can_close u (tail_of n)) (with_close_room u n) (without_close_room u n true user_step.LoadCtail) (with_room_none u n) refl
took_none u n user_step.LoadFrame a b c d = refl
took_none u n user_step.StoreFrame a b c d = step_by (record u { cell = u.cell + frame_count u; word = 0 }) (u.cell + frame_count u == length (cells_of u)) user_step.StoreNewest (word_step (cells_of u) (u.cell + frame_count u)) refl
    (word_none (record u { cell = u.cell + frame_count u; word = 0 }) (cells_of u) (u.cell + frame_count u))
took_none u n user_step.StoreNewest a b c d = refl
took_none u n user_step.LoadOldest a b c d = none_by (n == 0) (record u { step = user_step.AddToList }) (to_next_page u) refl (turned_none u)
took_none u n user_step.AddToList a b c d = step_by (record u { checks = cond (n == 0) false true }) (n == 0) user_step.StoreOldest user_step.AddToList refl refl
took_none u n user_step.StoreOldest a b c d = refl
took_none u n user_step.GiveList a b c d = turned_none u
took_none u n user_step.StoreClosedLink a b c d = refl
took_none u n user_step.ReleaseLatch a b c d = none_by (u.page + 1 == length (changes u)) (after_link u) (record u { page = u.page + 1; step = user_step.ReleaseLatch }) (linked_none u) refl
took_none u n user_step.AwaitMark a b c d = none_by (has_passed u n) (answered (record u { loaded = with_mark u n })) (record u { loaded = with_mark u n; checks = true; step = user_step.AwaitMark }) (answered_none (record u { loaded = with_mark u n })) refl
took_none u n user_step.Done a b c d = absurd (c (λ i. user_step.Done))
took_none u n user_step.Failed a b c d = absurd (d (λ i. user_step.Failed))

module _ (m : SharedWords) where
  -- the words keep SN and CKPT
  abbrev pub Same : SharedWords → Type 0
  Same after = (after.sn ≡ m.sn) × (after.ckpt ≡ m.ckpt)

  either : (b : Bool) (x : SharedWords) → Same x → Same (cond b x m)
  either true x same = same
  either false x same = (refl, refl)

  taken : (b : LinkBuffer) (v : Advance) → Same (shared_left m (advance_op b v advance_step.TakeTail))
  taken link_buffer.Written v = either (eqb (read m word.Wtail) (tail_word v.tail false)) (wrote m word.Wtail (tail_word v.tail true)) (refl, refl)
  taken link_buffer.Closed v = either (eqb (read m word.Ctail) (tail_word v.tail false)) (wrote m word.Ctail (tail_word v.tail true)) (refl, refl)

  pub user_same : (u : UserState) (f : UserStep) → (f ≡ user_step.Reserve → ⊥) → Same (shared_left m (user_op u f))
  user_same u user_step.Reserve other = absurd (other (λ i. user_step.Reserve))
  user_same u (user_step.AdvanceWritten advance_step.TakeTail) other = taken link_buffer.Written u.advance
  user_same u (user_step.AdvanceClosed advance_step.TakeTail) other = taken link_buffer.Closed u.advance
  user_same u user_step.TakeLatch other = let w = page_words_at m.page_words (current_page u) in either (eqb w.latch 0) (with_page_words m (current_page u) (record w { latch = 1 })) (refl, refl)
  user_same u user_step.AddToList other = let i : ℕ = current_page u % 4 in either (eqb (slice_index m.lists i) 0) (record m { lists = slice_set m.lists i 1 }) (refl, refl)
  user_same u _ other = (refl, refl)

  pub writer_same : (s : WriterState) (f : WriterStep) → Same (shared_left m (writer_op s f))
  writer_same s (writer_step.Advance advance_step.TakeTail) = taken link_buffer.Written s.advance
  writer_same s writer_step.TakeDevice = either (eqb m.device 0) (record m { device = 1 }) (refl, refl)
  writer_same s _ = (refl, refl)

  pub flusher_same : (t : FlusherState) (f : FlusherStep) → Same (shared_left m (flusher_op t f))
  flusher_same t flusher_step.TakeDevice = either (eqb m.device 0) (record m { device = 1 }) (refl, refl)
  flusher_same t _ = (refl, refl)

  pub reader_same : (t : ReaderState) (f : ReaderStep) → Same (shared_left m (reader_op t f))
  reader_same t reader_step.TakeDevice = either (eqb m.device 0) (record m { device = 1 }) (refl, refl)
  reader_same t _ = (refl, refl)

  pub closer_same : (t : CloserState) (f : CloserStep) → Same (shared_left m (closer_op t f))
  closer_same t (closer_step.Advance advance_step.TakeTail) = taken link_buffer.Closed t.advance
  closer_same t _ = (refl, refl)

  pub cleaner_same : (v : CleanerState) (f : CleanerStep) → Same (shared_left m (cleaner_op v f))
  cleaner_same v cleaner_step.TakeLatch = let w = page_words_at m.page_words v.page in either (eqb w.latch 0) (with_page_words m v.page (record w { latch = 1 })) (refl, refl)
  cleaner_same v cleaner_step.RemoveFromList = let i : ℕ = first_of_batch v % 4 in either (eqb (slice_index m.lists i) 0) (record m { lists = slice_set m.lists i 1 }) (refl, refl)
  cleaner_same v _ = (refl, refl)

  pub checkpointer_same : (t : CheckpointerState) (f : CheckpointerStep) → (f ≡ checkpointer_step.StoreCheckpoint → ⊥) → Same (shared_left m (checkpointer_op t f))
  checkpointer_same t checkpointer_step.StoreCheckpoint other = absurd (other (λ i. checkpointer_step.StoreCheckpoint))
  checkpointer_same t checkpointer_step.ReadList other = either (eqb (slice_index m.lists t.list) 0) (record m { lists = slice_set m.lists t.list 1 }) (refl, refl)
  checkpointer_same t checkpointer_step.TakeDevice other = either (eqb m.device 0) (record m { device = 1 }) (refl, refl)
  checkpointer_same t _ other = (refl, refl)

  pub checking_same : (b : Bool) (o : Op) → Same (shared_left m o) → Same (shared_left m (cond b (op.Load word.Failed) o))
  checking_same true o same = (refl, refl)
  checking_same false o same = same
