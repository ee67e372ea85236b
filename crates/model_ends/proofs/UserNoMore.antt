-- No turn of a user makes more of what is left to do with pages.
use lib.ListN.{get_elem?}
use mathlib.Core.Option.{some}
use Rattle.std.proofs.Common.{Bool, List, None, arith, cond, eqb, false, length, ltb, refl, true, ℕ, ◌%◌, ◌+◌, ◌-◌, ◌/◌, ◌==◌, ◌≡◌, ◌≤◌}
use Rattle.std.specs.Prelude.{slice_index, slice_set}
use Rattle.model_core.specs.{Actor, advance_next, advance_op, after_link, answered, appended, can_close, can_link, cells_of, changes, current_page, frame_count, frame_word, frees, group_bytes, group_end, has_passed, has_room, has_space, heard, Listed, lists_left, lsn, next, next_count, page_words_at, PageWords, shared_answer, shared_left, SharedWords, stays_put, stored_word, tail_of, to_next_page, took, user_op, user_took, UserState, with_mark, with_page_words, DataSide, LogSide, Setup}
use Rattle.model_core.specs.UserProgram.{with_close_room, with_link_room, without_close_room, without_link_room}
use Rattle.model_core.specs.declared.limits.TheConstants.{CLOSED_LINKS, FLUSH_LISTS, WRITTEN_LINKS}
use Rattle.model_core.specs.declared.ops.Op.{Op}
use Rattle.model_core.specs.declared.steps.AdvanceStep.{AdvanceStep}
use Rattle.model_core.specs.declared.steps.UserStep.{UserStep}
use Rattle.model_log.specs.declared.layout.TheConstants.{BLOCK_DATA}
use Rattle.model_logcore.specs.{LogGhost, UserAt, UserFits}
use Rattle.model_pagecore.specs.{PageGhost, UserPageFits}
use Rattle.model_pagecore.specs.PageHalf.{UserClosingAt, UserPagesAt}
use Rattle.model_running.specs.Watermarks.{BothHalves}
use Rattle.model_ends.proofs.Links.{links_more}
use Rattle.model_ends.proofs.PageCost.{appended_more, from_pages, listed_by, marked, marked_more, marked_same, user_steps, words_steps}
use Rattle.model_ends.proofs.TailsLess as tails
use Rattle.model_ends.proofs.UserLess.{advanced_less, answered_less, closed_less, closing_less, left, linked_less, stored_less, turned_less}
use Rattle.model_core.specs.States as actor
use Rattle.model_core.specs.declared.ops.Answer.TheVariants as answer
use Rattle.model_core.specs.declared.steps.AdvanceStep.TheVariants as advance_step
use Rattle.model_core.specs.declared.steps.UserStep.TheVariants as user_step
use Rattle.model_core.specs.declared.words.LinkBuffer.TheVariants as link_buffer

-- what is left of the actor that a user becomes
abbrev pub left_of : Actor → ℕ
left_of (actor.User u) = left u
left_of _ = 0

-- whether it checks says nothing of what is left to it
steps_same : (u : UserState) (b d : Bool) (f : UserStep) → user_steps (record u { checks = b; step = f }) f ≡ user_steps (record u { checks = d; step = f }) f
steps_same u b d (user_step.AdvanceWritten advance_step.ClearLink) = refl
steps_same u b d (user_step.AdvanceClosed advance_step.ClearLink) = refl
steps_same u b d _ = refl

written_cost : (u : UserState) (s : AdvanceStep) → from_pages u + 7 ≤ user_steps u (user_step.AdvanceWritten s) + tails.cleared_by s
written_cost u advance_step.ClearLink = omega arith
written_cost u _ = omega arith

closed_cost : (u : UserState) (s : AdvanceStep) → from_pages u + 2 ≤ user_steps u (user_step.AdvanceClosed s) + tails.cleared_by s
closed_cost u advance_step.ClearLink = omega arith
closed_cost u _ = omega arith

module _ (D : LogSide) (E : DataSide) (c : Setup) (m : SharedWords) (g : LogGhost) (h : PageGhost) (ls : ℕ → List Listed) (p : D.Part) (d : E.Part) (actors : List Actor) (both : BothHalves D E c m g h ls p d actors) (last : ℕ) (seat : ℕ) (u : UserState) (broken : Bool) (code mark : ℕ) where
  abbrev own : UserStep → UserState
  own f = record u { checks = false; step = f }

  abbrev lists_then : Op → ℕ → List Listed
  lists_then o = lists_left ls (λ i. slice_index m.lists i) o

  -- no more is left after
  abbrev End : SharedWords → (ℕ → List Listed) → UserStep → UserState → Type 0
  End after lists f w = left w + words_steps last after lists ≤ user_steps (own f) f + words_steps last m ls

  abbrev Turned : UserStep → Type 0
  Turned f = End (shared_left m (user_op (own f) f)) (lists_then (user_op (own f) f)) f (user_took (own f) (heard (shared_answer ls broken code mark m (user_op (own f) f))) f)

  words_by : (f : UserStep) (b : Bool) (x y : UserState) → End m ls f x → End m ls f y → End m ls f (cond b x y)
  words_by f true x y k l = k
  words_by f false x y k l = l

  -- a page's words but OLDEST change
  page_same : (w : PageWords) → w.oldest ≡ (page_words_at m.page_words (current_page u)).oldest → marked (with_page_words m (current_page u) w).page_words ≡ marked m.page_words
  page_same w same = marked_same m.page_words (current_page u) w same

  user_own : (f : UserStep) → UserAt D c m g p seat (own f) f → UserPagesAt E c m g.log h ls d seat u f → UserClosingAt E c m g.log h ls d seat u.advance f → Turned f
  user_own user_step.LoadCheckpoint a b k = omega arith
  user_own user_step.LoadSn a b k = by (has_space (own user_step.LoadSn) m.sn) (eqb (length (changes u)) 0)
    where
      by : (b d : Bool) → End m ls user_step.LoadSn (cond b (record (own user_step.LoadSn) { page = 0; cell = 0; step = cond d user_step.Reserve user_step.TakeLatch }) (record (own user_step.LoadSn) { checks = true; step = user_step.LoadCheckpoint }))
      by true true = omega arith
      by true false = omega arith
      by false d = omega arith
  user_own user_step.TakeLatch a b k = by (eqb (page_words_at m.page_words (current_page u)).latch 0) refl (u.page + 1 == length (changes u))
    where
      by : (b : Bool) → eqb (page_words_at m.page_words (current_page u)).latch 0 ≡ b → (d : Bool)
          → End (cond b (with_page_words m (current_page u) (record (page_words_at m.page_words (current_page u)) { latch = 1 })) m) ls user_step.TakeLatch
          (cond b (record (own user_step.TakeLatch) { page = u.page + 1; step = cond d user_step.Reserve user_step.TakeLatch }) (record (own user_step.TakeLatch) { checks = true; step = user_step.TakeLatch }))
      by true e true = let z = page_same (record (page_words_at m.page_words (current_page u)) { latch = 1 }) refl in omega arith
      by true e false = let z = page_same (record (page_words_at m.page_words (current_page u)) { latch = 1 }) refl in omega arith
      by false e d = omega arith
  user_own user_step.Reserve a b k = omega arith
  user_own user_step.LoadWrite a b k = words_by user_step.LoadWrite (has_room (own user_step.LoadWrite) m.write) (record (own user_step.LoadWrite) { loaded = record u.loaded { write = m.write }; step = user_step.AddCell }) (record (own user_step.LoadWrite) { loaded = record u.loaded { write = m.write }; checks = true; step = user_step.LoadWrite }) (omega arith) (omega arith)
  user_own user_step.AddCell a b k = by (u.copied + next_count u == length (group_bytes u)) (ltb (u.start / BLOCK_DATA) (group_end u / BLOCK_DATA))
    where
      by : (b d : Bool) → End (shared_left m (user_op (own user_step.AddCell) user_step.AddCell)) ls user_step.AddCell (record (own user_step.AddCell) { copied = u.copied + next_count u; step = cond b (cond d user_step.StoreFirst user_step.LoadWtail) user_step.AddCell })
      by true true = omega arith
      by true false = omega arith
      by false d = omega arith
  user_own user_step.StoreFirst a b k = omega arith
  user_own user_step.LoadWtail a b k = by (heard (shared_answer ls broken code mark m (user_op (own user_step.LoadWtail) user_step.LoadWtail)))
    where
      by : (n : ℕ) → End m ls user_step.LoadWtail (user_took (own user_step.LoadWtail) n user_step.LoadWtail)
      by n = words_by user_step.LoadWtail (can_link (own user_step.LoadWtail) (tail_of n)) (with_link_room (own user_step.LoadWtail) n) (without_link_room (own user_step.LoadWtail) n false (user_step.AdvanceWritten advance_step.LoadTail)) (omega arith) (omega arith)
  user_own (user_step.AdvanceWritten s) a b k = by (heard (shared_answer ls broken code mark m (advance_op link_buffer.Written u.advance s)))
    where
      by : (n : ℕ) → left (user_took (own (user_step.AdvanceWritten s)) n (user_step.AdvanceWritten s)) + words_steps last (shared_left m (advance_op link_buffer.Written u.advance s)) (lists_then (advance_op link_buffer.Written u.advance s)) ≤ user_steps (own (user_step.AdvanceWritten s)) (user_step.AdvanceWritten s) + words_steps last m ls
      by n =
          let low = advanced_less (user_took (own (user_step.AdvanceWritten s)) n (user_step.AdvanceWritten s)) (stays_put u.advance n s) (frees s) (advance_next u.advance n s) in
          let words = tails.written_less last m ls D c g p actors both.logged seat u.advance s a.1 in
          let high = written_cost (own (user_step.AdvanceWritten s)) s in
          let same = plain_lists s in
          omega arith
        where
          plain_lists : (s : AdvanceStep) → words_steps last (shared_left m (advance_op link_buffer.Written u.advance s)) (lists_then (advance_op link_buffer.Written u.advance s)) ≡ words_steps last (shared_left m (advance_op link_buffer.Written u.advance s)) ls
          plain_lists advance_step.LoadTail = refl
          plain_lists _ = refl
  user_own user_step.ReloadWtail a b k = by (heard (shared_answer ls broken code mark m (user_op (own user_step.ReloadWtail) user_step.ReloadWtail)))
    where
      by : (n : ℕ) → End m ls user_step.ReloadWtail (user_took (own user_step.ReloadWtail) n user_step.ReloadWtail)
      by n = words_by user_step.ReloadWtail (can_link (own user_step.ReloadWtail) (tail_of n)) (with_link_room (own user_step.ReloadWtail) n) (without_link_room (own user_step.ReloadWtail) n true user_step.LoadWtail) (omega arith) (omega arith)
  user_own user_step.StoreLink a b k = by (length (changes u) == 0)
    where
      by : (b : Bool) → End (shared_left m (user_op (own user_step.StoreLink) user_step.StoreLink)) ls user_step.StoreLink (cond b (after_link (own user_step.StoreLink)) (record (own user_step.StoreLink) { step = user_step.LoadCtail }))
      by true = let low = linked_less (own user_step.StoreLink) a.1 in let few = links_more m.wlinks (lsn u.start % WRITTEN_LINKS) (lsn (group_end u) - lsn u.start) in omega arith
      by false = let few = links_more m.wlinks (lsn u.start % WRITTEN_LINKS) (lsn (group_end u) - lsn u.start) in omega arith
  user_own user_step.LoadCtail a b k = by (heard (shared_answer ls broken code mark m (user_op (own user_step.LoadCtail) user_step.LoadCtail)))
    where
      by : (n : ℕ) → End m ls user_step.LoadCtail (user_took (own user_step.LoadCtail) n user_step.LoadCtail)
      by n = words_by user_step.LoadCtail (can_close (own user_step.LoadCtail) (tail_of n)) (with_close_room (own user_step.LoadCtail) n) (without_close_room (own user_step.LoadCtail) n false (user_step.AdvanceClosed advance_step.LoadTail))
          (let low = closing_less (own user_step.LoadCtail) n b.0.1 b.0.2 b.1 in omega arith) (omega arith)
  user_own (user_step.AdvanceClosed s) a b k = by (heard (shared_answer ls broken code mark m (advance_op link_buffer.Closed u.advance s)))
    where
      by : (n : ℕ) → left (user_took (own (user_step.AdvanceClosed s)) n (user_step.AdvanceClosed s)) + words_steps last (shared_left m (advance_op link_buffer.Closed u.advance s)) (lists_then (advance_op link_buffer.Closed u.advance s)) ≤ user_steps (own (user_step.AdvanceClosed s)) (user_step.AdvanceClosed s) + words_steps last m ls
      by n =
          let low = closed_less (user_took (own (user_step.AdvanceClosed s)) n (user_step.AdvanceClosed s)) (stays_put u.advance n s) (frees s) (advance_next u.advance n s) in
          let words = tails.closing_less last m ls E c g h d both.paged.paged.closed_links seat u.advance s k in
          let high = closed_cost (own (user_step.AdvanceClosed s)) s in
          let same = plain_lists s in
          omega arith
        where
          plain_lists : (s : AdvanceStep) → words_steps last (shared_left m (advance_op link_buffer.Closed u.advance s)) (lists_then (advance_op link_buffer.Closed u.advance s)) ≡ words_steps last (shared_left m (advance_op link_buffer.Closed u.advance s)) ls
          plain_lists advance_step.LoadTail = refl
          plain_lists _ = refl
  user_own user_step.ReloadCtail a b k = by (heard (shared_answer ls broken code mark m (user_op (own user_step.ReloadCtail) user_step.ReloadCtail)))
    where
      by : (n : ℕ) → End m ls user_step.ReloadCtail (user_took (own user_step.ReloadCtail) n user_step.ReloadCtail)
      by n = words_by user_step.ReloadCtail (can_close (own user_step.ReloadCtail) (tail_of n)) (with_close_room (own user_step.ReloadCtail) n) (without_close_room (own user_step.ReloadCtail) n true user_step.LoadCtail)
          (let low = closing_less (own user_step.ReloadCtail) n b.0.1 b.0.2 b.1 in omega arith) (omega arith)
  user_own user_step.LoadFrame a b k = omega arith
  user_own user_step.StoreFrame a b k =
      let low = stored_less (own user_step.StoreFrame) b.2 (u.cell + frame_count u == length (cells_of u)) in
      let same = page_same (record (page_words_at m.page_words (current_page u)) { frame = slice_set (page_words_at m.page_words (current_page u)).frame (frame_word u) (stored_word (own user_step.StoreFrame)) }) refl in
      omega arith
  user_own user_step.StoreNewest a b k = let same = page_same (record (page_words_at m.page_words (current_page u)) { newest = lsn (group_end u) }) refl in omega arith
  user_own user_step.LoadOldest a b k = by (heard (shared_answer ls broken code mark m (user_op (own user_step.LoadOldest) user_step.LoadOldest)))
    where
      by : (n : ℕ) → End m ls user_step.LoadOldest (user_took (own user_step.LoadOldest) n user_step.LoadOldest)
      by n = words_by user_step.LoadOldest (n == 0) (record (own user_step.LoadOldest) { step = user_step.AddToList }) (to_next_page (own user_step.LoadOldest)) (omega arith) (let low = turned_less (own user_step.LoadOldest) b.1.1 in omega arith)
  user_own user_step.AddToList a b k = by (eqb (slice_index m.lists (current_page u % FLUSH_LISTS)) 0)
    where
      by : (b : Bool) → End (cond b (record m { lists = slice_set m.lists (current_page u % FLUSH_LISTS) 1 }) m) (λ i. cond (eqb i (current_page u % FLUSH_LISTS)) (cond b (appended (ls i) (current_page u) (lsn u.start)) (ls i)) (ls i)) user_step.AddToList (user_took (own user_step.AddToList) (heard (cond b (answer.Taken None) answer.Held)) user_step.AddToList)
      by true = let few = listed_by ls (λ l. appended l (current_page u) (lsn u.start)) 1 (current_page u % FLUSH_LISTS) (omega arith) (λ l. appended_more true (current_page u) (lsn u.start) l) in omega arith
      by false = let few = listed_by ls (λ l. l) 0 (current_page u % FLUSH_LISTS) (omega arith) (λ l. omega arith) in omega arith
  user_own user_step.StoreOldest a b k = let more = marked_more m.page_words (current_page u) (record (page_words_at m.page_words (current_page u)) { oldest = lsn u.start }) in omega arith
  user_own user_step.GiveList a b k = let low = turned_less (own user_step.GiveList) b.1.1 in omega arith
  user_own user_step.StoreClosedLink a b k = let few = links_more m.clinks (lsn u.start % CLOSED_LINKS) (lsn (group_end u) - lsn u.start) in omega arith
  user_own user_step.ReleaseLatch a b k = by (u.page + 1 == length (changes u)) (page_same (record (page_words_at m.page_words (current_page u)) { latch = 0 }) refl)
    where
      by : (b : Bool) → marked (with_page_words m (current_page u) (record (page_words_at m.page_words (current_page u)) { latch = 0 })).page_words ≡ marked m.page_words
          → End (with_page_words m (current_page u) (record (page_words_at m.page_words (current_page u)) { latch = 0 })) ls user_step.ReleaseLatch (cond b (after_link (own user_step.ReleaseLatch)) (record (own user_step.ReleaseLatch) { page = u.page + 1; step = user_step.ReleaseLatch }))
      by true same = let low = linked_less (own user_step.ReleaseLatch) a.1 in let within = b.1 in omega arith
      by false same = omega arith
  user_own user_step.AwaitMark a b k = by (heard (shared_answer ls broken code mark m (user_op (own user_step.AwaitMark) user_step.AwaitMark)))
    where
      by : (n : ℕ) → End m ls user_step.AwaitMark (user_took (own user_step.AwaitMark) n user_step.AwaitMark)
      by n = words_by user_step.AwaitMark (has_passed (own user_step.AwaitMark) n) (answered (record (own user_step.AwaitMark) { loaded = with_mark (own user_step.AwaitMark) n })) (record (own user_step.AwaitMark) { loaded = with_mark (own user_step.AwaitMark) n; checks = true; step = user_step.AwaitMark })
          (let low = answered_less (record (own user_step.AwaitMark) { loaded = with_mark (own user_step.AwaitMark) n }) a.1 in omega arith) (omega arith)
  user_own user_step.Done a b k = omega arith
  user_own user_step.Failed a b k = omega arith

  user_by : (b : Bool) (f : UserStep) → UserAt D c m g p seat (record u { checks = b; step = f }) f → UserPagesAt E c m g.log h ls d seat u f → UserClosingAt E c m g.log h ls d seat u.advance f
      → left_of (took (actor.User (record u { checks = b; step = f })) (shared_answer ls broken code mark m (next (actor.User (record u { checks = b; step = f }))))) + words_steps last (shared_left m (next (actor.User (record u { checks = b; step = f })))) (lists_then (next (actor.User (record u { checks = b; step = f })))) ≤ user_steps (record u { checks = b; step = f }) f + words_steps last m ls
  user_by true f a b k = by (eqb m.failed 0)
    where
      by : (b : Bool) → left (cond b (record u { checks = false; step = f }) (record u { checks = false; code = m.failed; step = user_step.Failed })) + words_steps last m ls ≤ user_steps (record u { checks = true; step = f }) f + words_steps last m ls
      by true = let z = steps_same u true false f in omega arith
      by false = omega arith
  user_by false f a b k = user_own f a b k

  -- NO TURN OF A USER MAKES MORE
  pub user_no_more : get_elem? actors seat ≡ some (actor.User u) → left_of (took (actor.User u) (shared_answer ls broken code mark m (next (actor.User u)))) + words_steps last (shared_left m (next (actor.User u))) (lists_then (next (actor.User u))) ≤ left u + words_steps last m ls
  user_no_more at =
      let fits : UserFits D c m g p seat u = both.logged.each seat (actor.User u) at in
      let pages : UserPageFits E c m g.log h ls d seat u = both.paged.each seat (actor.User u) at in
      user_by u.checks u.step fits.step pages.step pages.closing
