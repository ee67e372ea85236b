-- Once FAILED has a code, a turn of an open user makes less of what is left to do with pages, or it waits, and is nearer to its
-- check of FAILED.
use lib.ListN.{get_elem?}
use mathlib.Core.Option.{some}
use Rattle.std.proofs.Common.{Bool, List, None, arith, cond, eqb, eqb-true, false, inl, inr, length, ltb, refl, subst, sym, true, ⊎_elim, ℕ, ◌%◌, ◌+◌, ◌-◌, ◌/◌, ◌<◌, ◌==◌, ◌≡◌, ◌≤◌, ◌⊎◌}
use Rattle.std.specs.Prelude.{slice_index, slice_set}
use Rattle.model_core.specs.{Actor, advance_next, advance_op, advance_took, loaded_tail, after_link, answered, appended, can_close, can_link, cells_of, changes, current_page, frame_count, frame_word, frees, group_bytes, group_end, has_passed, has_room, has_space, heard, Listed, lists_left, lsn, next, next_count, page_words_at, PageWords, shared_answer, shared_left, SharedWords, stays_put, stored_word, tail_of, to_next_page, took, user_op, user_took, UserState, with_mark, with_page_words, DataSide, LogSide, Setup}
use Rattle.model_core.specs.UserProgram.{with_close_room, with_link_room, without_close_room, without_link_room}
use Rattle.model_core.specs.declared.limits.TheConstants.{CLOSED_LINKS, FLUSH_LISTS, WRITTEN_LINKS}
use Rattle.model_core.specs.declared.ops.Op.{Op}
use Rattle.model_core.specs.declared.steps.AdvanceStep.{AdvanceStep}
use Rattle.model_core.specs.declared.steps.UserStep.{UserStep}
use Rattle.model_log.specs.declared.layout.TheConstants.{BLOCK_DATA}
use Rattle.model_logcore.specs.{LogGhost, UserAt, UserFits}
use Rattle.model_pagecore.specs.{PageGhost, UserPageFits}
use Rattle.model_pagecore.specs.PageHalf.{UserClosingAt, UserPagesAt}
use Rattle.model_running.specs.Watermarks.{BothHalves}
use Rattle.model_ends.proofs.Links.{links_more}
use Rattle.model_ends.proofs.PageCost.{appended_more, listed_by, marked, marked_more, marked_same, user_steps, words_steps}
use Rattle.model_ends.proofs.TailsLess as tails
use Rattle.model_ends.proofs.Outcome.{IsOpenStep}
use Rattle.model_ends.proofs.UserNoMore.{left_of}
use Rattle.model_core.proofs.Lanes.{next_some}
use Rattle.model_ends.proofs.UserLess.{advanced_less, answered_less, closed_less, closing_less, left, linked_less, stored_less, turned_less}
use Rattle.model_core.specs.States as actor
use Rattle.model_core.specs.declared.ops.Answer.TheVariants as answer
use Rattle.model_core.specs.declared.steps.AdvanceStep.TheVariants as advance_step
use Rattle.model_core.specs.declared.steps.UserStep.TheVariants as user_step
use Rattle.model_core.specs.declared.words.LinkBuffer.TheVariants as link_buffer

-- within so many turns of its own, where nothing falls, it checks FAILED
abbrev pub step_leaves : UserStep → ℕ
step_leaves user_step.LoadCheckpoint = 3
step_leaves user_step.LoadWtail = 7
step_leaves (user_step.AdvanceWritten advance_step.LoadTail) = 6
step_leaves (user_step.AdvanceWritten advance_step.TakeTail) = 5
step_leaves (user_step.AdvanceWritten advance_step.FreeTail) = 3
step_leaves (user_step.AdvanceWritten _) = 4
step_leaves user_step.LoadCtail = 7
step_leaves (user_step.AdvanceClosed advance_step.LoadTail) = 6
step_leaves (user_step.AdvanceClosed advance_step.TakeTail) = 5
step_leaves (user_step.AdvanceClosed advance_step.FreeTail) = 3
step_leaves (user_step.AdvanceClosed _) = 4
step_leaves _ = 2

abbrev pub leaving : UserState → ℕ
leaving u = cond u.checks 1 (step_leaves u.step)

pub leaving_few : (u : UserState) → leaving u ≤ 7
leaving_few u = by u.checks u.step
  where
    by : (b : Bool) (f : UserStep) → cond b 1 (step_leaves f) ≤ 7
    by true f = omega arith
    by false (user_step.AdvanceWritten advance_step.LoadTail) = omega arith
    by false (user_step.AdvanceClosed advance_step.LoadTail) = omega arith
    by false _ = omega arith

some_left : (u : UserState) (f : UserStep) → IsOpenStep f → 0 < user_steps u f
some_left u user_step.Done live = absurd live
some_left u user_step.Failed live = absurd live
some_left u (user_step.AdvanceWritten advance_step.ClearLink) live = omega arith
some_left u (user_step.AdvanceClosed advance_step.ClearLink) live = omega arith
some_left u _ live = omega arith

module _ (D : LogSide) (E : DataSide) (c : Setup) (m : SharedWords) (g : LogGhost) (h : PageGhost) (ls : ℕ → List Listed) (p : D.Part) (d : E.Part) (actors : List Actor) (both : BothHalves D E c m g h ls p d actors) (last : ℕ) (seat : ℕ) (u : UserState) (broken : Bool) (code mark : ℕ) where
  abbrev own : UserStep → UserState
  own f = record u { checks = false; step = f }

  abbrev lists_then : Op → ℕ → List Listed
  lists_then o = lists_left ls (λ i. slice_index m.lists i) o

  -- less is left after, or it waits
  abbrev End : SharedWords → (ℕ → List Listed) → UserStep → UserState → Type 0
  End after lists f w = (left w + words_steps last after lists < user_steps (own f) f + words_steps last m ls) ⊎ ((left w + words_steps last after lists ≤ user_steps (own f) f + words_steps last m ls) × IsOpenStep w.step × (leaving w < step_leaves f))

  abbrev Turned : UserStep → Type 0
  Turned f = End (shared_left m (user_op (own f) f)) (lists_then (user_op (own f) f)) f (user_took (own f) (heard (shared_answer ls broken code mark m (user_op (own f) f))) f)

  words_by : (f : UserStep) (b : Bool) (x y : UserState) → End m ls f x → End m ls f y → End m ls f (cond b x y)
  words_by f true x y k l = k
  words_by f false x y k l = l

  -- a page's words but OLDEST change
  page_same : (w : PageWords) → w.oldest ≡ (page_words_at m.page_words (current_page u)).oldest → marked (with_page_words m (current_page u) w).page_words ≡ marked m.page_words
  page_same w same = marked_same m.page_words (current_page u) w same

  abbrev written_state : AdvanceStep → ℕ → Bool → Bool → AdvanceStep → UserState
  written_state s n b d r = record (own (user_step.AdvanceWritten s)) { loaded = (record u.loaded { wtail = loaded_tail u.loaded.wtail n s }); advance = advance_took u.advance n s; checks = b; step = cond b user_step.LoadWtail (cond d user_step.ReloadWtail (user_step.AdvanceWritten r)) }

  written_settles : (s : AdvanceStep) (n : ℕ) → words_steps last (shared_left m (advance_op link_buffer.Written u.advance s)) ls + tails.cleared_by s ≤ words_steps last m ls → (b d : Bool) (r : AdvanceStep) → b ≡ stays_put u.advance n s → d ≡ frees s → r ≡ advance_next u.advance n s → End (shared_left m (advance_op link_buffer.Written u.advance s)) ls (user_step.AdvanceWritten s) (written_state s n b d r)
  written_settles advance_step.LoadTail n words true d r x y z = inr (omega arith, tt, omega arith)
  written_settles advance_step.LoadTail n words false true r x y z = absurd (cc)
  written_settles advance_step.TakeTail n words true d r x y z = inr (omega arith, tt, omega arith)
  written_settles advance_step.TakeTail n words false true r x y z = absurd (cc)
  written_settles advance_step.LoadLink n words true d r x y z = inr (omega arith, tt, omega arith)
  written_settles advance_step.LoadLink n words false true r x y z = absurd (cc)
  written_settles advance_step.LoadTail n words false false r x y z = subst (λ (v : AdvanceStep). End (shared_left m (advance_op link_buffer.Written u.advance advance_step.LoadTail)) ls (user_step.AdvanceWritten advance_step.LoadTail) (written_state advance_step.LoadTail n false false v)) (sym z) (inr (omega arith, tt, omega arith))
  written_settles advance_step.TakeTail n words false false r x y z = subst (λ (v : AdvanceStep). End (shared_left m (advance_op link_buffer.Written u.advance advance_step.TakeTail)) ls (user_step.AdvanceWritten advance_step.TakeTail) (written_state advance_step.TakeTail n false false v)) (sym z) (inr (omega arith, tt, omega arith))
  written_settles advance_step.LoadLink n words false false r x y z = subst (λ (v : AdvanceStep). End (shared_left m (advance_op link_buffer.Written u.advance advance_step.LoadLink)) ls (user_step.AdvanceWritten advance_step.LoadLink) (written_state advance_step.LoadLink n false false v)) (sym z) (by (n == 0))
    where
      by : (b : Bool) → End m ls (user_step.AdvanceWritten advance_step.LoadLink) (written_state advance_step.LoadLink n false false (cond b advance_step.FreeTail advance_step.ClearLink))
      by true = inr (omega arith, tt, omega arith)
      by false = inl (omega arith)
  written_settles advance_step.ClearLink n words b d r x y z = inl (let low = advanced_less (written_state advance_step.ClearLink n b d r) b d r in omega arith)
  written_settles advance_step.FreeTail n words true d r x y z = inr (omega arith, tt, omega arith)
  written_settles advance_step.FreeTail n words false true r x y z = inr (omega arith, tt, omega arith)
  written_settles advance_step.FreeTail n words false false r x y z = absurd (cc)

  abbrev closed_state : AdvanceStep → ℕ → Bool → Bool → AdvanceStep → UserState
  closed_state s n b d r = record (own (user_step.AdvanceClosed s)) { loaded = (record u.loaded { ctail = loaded_tail u.loaded.ctail n s }); advance = advance_took u.advance n s; checks = b; step = cond b user_step.LoadCtail (cond d user_step.ReloadCtail (user_step.AdvanceClosed r)) }

  closed_settles : (s : AdvanceStep) (n : ℕ) → words_steps last (shared_left m (advance_op link_buffer.Closed u.advance s)) ls + tails.cleared_by s ≤ words_steps last m ls → (b d : Bool) (r : AdvanceStep) → b ≡ stays_put u.advance n s → d ≡ frees s → r ≡ advance_next u.advance n s → End (shared_left m (advance_op link_buffer.Closed u.advance s)) ls (user_step.AdvanceClosed s) (closed_state s n b d r)
  closed_settles advance_step.LoadTail n words true d r x y z = inr (omega arith, tt, omega arith)
  closed_settles advance_step.LoadTail n words false true r x y z = absurd (cc)
  closed_settles advance_step.TakeTail n words true d r x y z = inr (omega arith, tt, omega arith)
  closed_settles advance_step.TakeTail n words false true r x y z = absurd (cc)
  closed_settles advance_step.LoadLink n words true d r x y z = inr (omega arith, tt, omega arith)
  closed_settles advance_step.LoadLink n words false true r x y z = absurd (cc)
  closed_settles advance_step.LoadTail n words false false r x y z = subst (λ (v : AdvanceStep). End (shared_left m (advance_op link_buffer.Closed u.advance advance_step.LoadTail)) ls (user_step.AdvanceClosed advance_step.LoadTail) (closed_state advance_step.LoadTail n false false v)) (sym z) (inr (omega arith, tt, omega arith))
  closed_settles advance_step.TakeTail n words false false r x y z = subst (λ (v : AdvanceStep). End (shared_left m (advance_op link_buffer.Closed u.advance advance_step.TakeTail)) ls (user_step.AdvanceClosed advance_step.TakeTail) (closed_state advance_step.TakeTail n false false v)) (sym z) (inr (omega arith, tt, omega arith))
  closed_settles advance_step.LoadLink n words false false r x y z = subst (λ (v : AdvanceStep). End (shared_left m (advance_op link_buffer.Closed u.advance advance_step.LoadLink)) ls (user_step.AdvanceClosed advance_step.LoadLink) (closed_state advance_step.LoadLink n false false v)) (sym z) (by (n == 0))
    where
      by : (b : Bool) → End m ls (user_step.AdvanceClosed advance_step.LoadLink) (closed_state advance_step.LoadLink n false false (cond b advance_step.FreeTail advance_step.ClearLink))
      by true = inr (omega arith, tt, omega arith)
      by false = inl (omega arith)
  closed_settles advance_step.ClearLink n words b d r x y z = inl (let low = closed_less (closed_state advance_step.ClearLink n b d r) b d r in omega arith)
  closed_settles advance_step.FreeTail n words true d r x y z = inr (omega arith, tt, omega arith)
  closed_settles advance_step.FreeTail n words false true r x y z = inr (omega arith, tt, omega arith)
  closed_settles advance_step.FreeTail n words false false r x y z = absurd (cc)

  user_own : (f : UserStep) → UserAt D c m g p seat (own f) f → UserPagesAt E c m g.log h ls d seat u f → UserClosingAt E c m g.log h ls d seat u.advance f → IsOpenStep f → Turned f
  user_own user_step.LoadCheckpoint a q k live = inr (omega arith, tt, omega arith)
  user_own user_step.LoadSn a q k live = by (has_space (own user_step.LoadSn) m.sn) (eqb (length (changes u)) 0)
    where
      by : (b d : Bool) → End m ls user_step.LoadSn (cond b (record (own user_step.LoadSn) { page = 0; cell = 0; step = cond d user_step.Reserve user_step.TakeLatch }) (record (own user_step.LoadSn) { checks = true; step = user_step.LoadCheckpoint }))
      by true true = inl (omega arith)
      by true false = inl (omega arith)
      by false d = inr (omega arith, tt, omega arith)
  user_own user_step.TakeLatch a q k live = by (eqb (page_words_at m.page_words (current_page u)).latch 0) refl (u.page + 1 == length (changes u))
    where
      by : (b : Bool) → eqb (page_words_at m.page_words (current_page u)).latch 0 ≡ b → (d : Bool)
          → End (cond b (with_page_words m (current_page u) (record (page_words_at m.page_words (current_page u)) { latch = 1 })) m) ls user_step.TakeLatch
          (cond b (record (own user_step.TakeLatch) { page = u.page + 1; step = cond d user_step.Reserve user_step.TakeLatch }) (record (own user_step.TakeLatch) { checks = true; step = user_step.TakeLatch }))
      by true e true = inl (let within = q.1 in let z = page_same (record (page_words_at m.page_words (current_page u)) { latch = 1 }) refl in omega arith)
      by true e false = inl (let within = q.1 in let z = page_same (record (page_words_at m.page_words (current_page u)) { latch = 1 }) refl in omega arith)
      by false e d = inr (omega arith, tt, omega arith)
  user_own user_step.Reserve a q k live = inl (omega arith)
  user_own user_step.LoadWrite a q k live = words_by user_step.LoadWrite (has_room (own user_step.LoadWrite) m.write) (record (own user_step.LoadWrite) { loaded = record u.loaded { write = m.write }; step = user_step.AddCell }) (record (own user_step.LoadWrite) { loaded = record u.loaded { write = m.write }; checks = true; step = user_step.LoadWrite }) (inl (omega arith)) (inr (omega arith, tt, omega arith))
  user_own user_step.AddCell a q k live = by (u.copied + next_count u == length (group_bytes u)) (ltb (u.start / BLOCK_DATA) (group_end u / BLOCK_DATA))
    where
      by : (b d : Bool) → End (shared_left m (user_op (own user_step.AddCell) user_step.AddCell)) ls user_step.AddCell (record (own user_step.AddCell) { copied = u.copied + next_count u; step = cond b (cond d user_step.StoreFirst user_step.LoadWtail) user_step.AddCell })
      by true true = inl (omega arith)
      by true false = inl (omega arith)
      by false d = inl (let less = a.3 in let some = next_some u less in omega arith)
  user_own user_step.StoreFirst a q k live = inl (omega arith)
  user_own user_step.LoadWtail a q k live = by (heard (shared_answer ls broken code mark m (user_op (own user_step.LoadWtail) user_step.LoadWtail)))
    where
      by : (n : ℕ) → End m ls user_step.LoadWtail (user_took (own user_step.LoadWtail) n user_step.LoadWtail)
      by n = words_by user_step.LoadWtail (can_link (own user_step.LoadWtail) (tail_of n)) (with_link_room (own user_step.LoadWtail) n) (without_link_room (own user_step.LoadWtail) n false (user_step.AdvanceWritten advance_step.LoadTail)) (inl (omega arith)) (inr (omega arith, tt, omega arith))
  user_own (user_step.AdvanceWritten advance_step.LoadTail) a q k live =
      let n : ℕ = heard (shared_answer ls broken code mark m (advance_op link_buffer.Written u.advance advance_step.LoadTail)) in
      written_settles advance_step.LoadTail n (tails.written_less last m ls D c g p actors both.logged seat u.advance advance_step.LoadTail a.1) (stays_put u.advance n advance_step.LoadTail) (frees advance_step.LoadTail) (advance_next u.advance n advance_step.LoadTail) refl refl refl
  user_own (user_step.AdvanceWritten advance_step.TakeTail) a q k live =
      let n : ℕ = heard (shared_answer ls broken code mark m (advance_op link_buffer.Written u.advance advance_step.TakeTail)) in
      written_settles advance_step.TakeTail n (tails.written_less last m ls D c g p actors both.logged seat u.advance advance_step.TakeTail a.1) (stays_put u.advance n advance_step.TakeTail) (frees advance_step.TakeTail) (advance_next u.advance n advance_step.TakeTail) refl refl refl
  user_own (user_step.AdvanceWritten advance_step.LoadLink) a q k live =
      let n : ℕ = heard (shared_answer ls broken code mark m (advance_op link_buffer.Written u.advance advance_step.LoadLink)) in
      written_settles advance_step.LoadLink n (tails.written_less last m ls D c g p actors both.logged seat u.advance advance_step.LoadLink a.1) (stays_put u.advance n advance_step.LoadLink) (frees advance_step.LoadLink) (advance_next u.advance n advance_step.LoadLink) refl refl refl
  user_own (user_step.AdvanceWritten advance_step.ClearLink) a q k live =
      let n : ℕ = heard (shared_answer ls broken code mark m (advance_op link_buffer.Written u.advance advance_step.ClearLink)) in
      written_settles advance_step.ClearLink n (tails.written_less last m ls D c g p actors both.logged seat u.advance advance_step.ClearLink a.1) (stays_put u.advance n advance_step.ClearLink) (frees advance_step.ClearLink) (advance_next u.advance n advance_step.ClearLink) refl refl refl
  user_own (user_step.AdvanceWritten advance_step.FreeTail) a q k live =
      let n : ℕ = heard (shared_answer ls broken code mark m (advance_op link_buffer.Written u.advance advance_step.FreeTail)) in
      written_settles advance_step.FreeTail n (tails.written_less last m ls D c g p actors both.logged seat u.advance advance_step.FreeTail a.1) (stays_put u.advance n advance_step.FreeTail) (frees advance_step.FreeTail) (advance_next u.advance n advance_step.FreeTail) refl refl refl
  user_own user_step.ReloadWtail a q k live = by (heard (shared_answer ls broken code mark m (user_op (own user_step.ReloadWtail) user_step.ReloadWtail)))
    where
      by : (n : ℕ) → End m ls user_step.ReloadWtail (user_took (own user_step.ReloadWtail) n user_step.ReloadWtail)
      by n = words_by user_step.ReloadWtail (can_link (own user_step.ReloadWtail) (tail_of n)) (with_link_room (own user_step.ReloadWtail) n) (without_link_room (own user_step.ReloadWtail) n true user_step.LoadWtail) (inl (omega arith)) (inr (omega arith, tt, omega arith))
  user_own user_step.StoreLink a q k live = by (length (changes u) == 0)
    where
      by : (b : Bool) → End (shared_left m (user_op (own user_step.StoreLink) user_step.StoreLink)) ls user_step.StoreLink (cond b (after_link (own user_step.StoreLink)) (record (own user_step.StoreLink) { step = user_step.LoadCtail }))
      by true = inl (let low = linked_less (own user_step.StoreLink) a.1 in let few = links_more m.wlinks (lsn u.start % WRITTEN_LINKS) (lsn (group_end u) - lsn u.start) in omega arith)
      by false = inl (let few = links_more m.wlinks (lsn u.start % WRITTEN_LINKS) (lsn (group_end u) - lsn u.start) in omega arith)
  user_own user_step.LoadCtail a q k live = by (heard (shared_answer ls broken code mark m (user_op (own user_step.LoadCtail) user_step.LoadCtail)))
    where
      by : (n : ℕ) → End m ls user_step.LoadCtail (user_took (own user_step.LoadCtail) n user_step.LoadCtail)
      by n = words_by user_step.LoadCtail (can_close (own user_step.LoadCtail) (tail_of n)) (with_close_room (own user_step.LoadCtail) n) (without_close_room (own user_step.LoadCtail) n false (user_step.AdvanceClosed advance_step.LoadTail))
          (inl (let low = closing_less (own user_step.LoadCtail) n q.0.1 q.0.2 q.1 in omega arith)) (inr (omega arith, tt, omega arith))
  user_own (user_step.AdvanceClosed advance_step.LoadTail) a q k live =
      let n : ℕ = heard (shared_answer ls broken code mark m (advance_op link_buffer.Closed u.advance advance_step.LoadTail)) in
      closed_settles advance_step.LoadTail n (tails.closing_less last m ls E c g h d both.paged.paged.closed_links seat u.advance advance_step.LoadTail k) (stays_put u.advance n advance_step.LoadTail) (frees advance_step.LoadTail) (advance_next u.advance n advance_step.LoadTail) refl refl refl
  user_own (user_step.AdvanceClosed advance_step.TakeTail) a q k live =
      let n : ℕ = heard (shared_answer ls broken code mark m (advance_op link_buffer.Closed u.advance advance_step.TakeTail)) in
      closed_settles advance_step.TakeTail n (tails.closing_less last m ls E c g h d both.paged.paged.closed_links seat u.advance advance_step.TakeTail k) (stays_put u.advance n advance_step.TakeTail) (frees advance_step.TakeTail) (advance_next u.advance n advance_step.TakeTail) refl refl refl
  user_own (user_step.AdvanceClosed advance_step.LoadLink) a q k live =
      let n : ℕ = heard (shared_answer ls broken code mark m (advance_op link_buffer.Closed u.advance advance_step.LoadLink)) in
      closed_settles advance_step.LoadLink n (tails.closing_less last m ls E c g h d both.paged.paged.closed_links seat u.advance advance_step.LoadLink k) (stays_put u.advance n advance_step.LoadLink) (frees advance_step.LoadLink) (advance_next u.advance n advance_step.LoadLink) refl refl refl
  user_own (user_step.AdvanceClosed advance_step.ClearLink) a q k live =
      let n : ℕ = heard (shared_answer ls broken code mark m (advance_op link_buffer.Closed u.advance advance_step.ClearLink)) in
      closed_settles advance_step.ClearLink n (tails.closing_less last m ls E c g h d both.paged.paged.closed_links seat u.advance advance_step.ClearLink k) (stays_put u.advance n advance_step.ClearLink) (frees advance_step.ClearLink) (advance_next u.advance n advance_step.ClearLink) refl refl refl
  user_own (user_step.AdvanceClosed advance_step.FreeTail) a q k live =
      let n : ℕ = heard (shared_answer ls broken code mark m (advance_op link_buffer.Closed u.advance advance_step.FreeTail)) in
      closed_settles advance_step.FreeTail n (tails.closing_less last m ls E c g h d both.paged.paged.closed_links seat u.advance advance_step.FreeTail k) (stays_put u.advance n advance_step.FreeTail) (frees advance_step.FreeTail) (advance_next u.advance n advance_step.FreeTail) refl refl refl
  user_own user_step.ReloadCtail a q k live = by (heard (shared_answer ls broken code mark m (user_op (own user_step.ReloadCtail) user_step.ReloadCtail)))
    where
      by : (n : ℕ) → End m ls user_step.ReloadCtail (user_took (own user_step.ReloadCtail) n user_step.ReloadCtail)
      by n = words_by user_step.ReloadCtail (can_close (own user_step.ReloadCtail) (tail_of n)) (with_close_room (own user_step.ReloadCtail) n) (without_close_room (own user_step.ReloadCtail) n true user_step.LoadCtail)
          (inl (let low = closing_less (own user_step.ReloadCtail) n q.0.1 q.0.2 q.1 in omega arith)) (inr (omega arith, tt, omega arith))
  user_own user_step.LoadFrame a q k live = inl (omega arith)
  user_own user_step.StoreFrame a q k live =
      let low = stored_less (own user_step.StoreFrame) q.2 (u.cell + frame_count u == length (cells_of u)) in
      inl (let same = page_same (record (page_words_at m.page_words (current_page u)) { frame = slice_set (page_words_at m.page_words (current_page u)).frame (frame_word u) (stored_word (own user_step.StoreFrame)) }) refl in
      omega arith)
  user_own user_step.StoreNewest a q k live = inl (let same = page_same (record (page_words_at m.page_words (current_page u)) { newest = lsn (group_end u) }) refl in omega arith)
  user_own user_step.LoadOldest a q k live = by (heard (shared_answer ls broken code mark m (user_op (own user_step.LoadOldest) user_step.LoadOldest)))
    where
      by : (n : ℕ) → End m ls user_step.LoadOldest (user_took (own user_step.LoadOldest) n user_step.LoadOldest)
      by n = words_by user_step.LoadOldest (n == 0) (record (own user_step.LoadOldest) { step = user_step.AddToList }) (to_next_page (own user_step.LoadOldest)) (inl (omega arith)) (inl (let low = turned_less (own user_step.LoadOldest) q.1.1 in omega arith))
  user_own user_step.AddToList a q k live = by (eqb (slice_index m.lists (current_page u % FLUSH_LISTS)) 0)
    where
      by : (b : Bool) → End (cond b (record m { lists = slice_set m.lists (current_page u % FLUSH_LISTS) 1 }) m) (λ i. cond (eqb i (current_page u % FLUSH_LISTS)) (cond b (appended (ls i) (current_page u) (lsn u.start)) (ls i)) (ls i)) user_step.AddToList (user_took (own user_step.AddToList) (heard (cond b (answer.Taken None) answer.Held)) user_step.AddToList)
      by true = inl (let few = listed_by ls (λ l. appended l (current_page u) (lsn u.start)) 1 (current_page u % FLUSH_LISTS) (omega arith) (λ l. appended_more true (current_page u) (lsn u.start) l) in omega arith)
      by false = let few = listed_by ls (λ l. l) 0 (current_page u % FLUSH_LISTS) (omega arith) (λ l. omega arith) in inr (omega arith, tt, omega arith)
  user_own user_step.StoreOldest a q k live = inl (let more = marked_more m.page_words (current_page u) (record (page_words_at m.page_words (current_page u)) { oldest = lsn u.start }) in omega arith)
  user_own user_step.GiveList a q k live = inl (let low = turned_less (own user_step.GiveList) q.1.1 in omega arith)
  user_own user_step.StoreClosedLink a q k live = inl (let few = links_more m.clinks (lsn u.start % CLOSED_LINKS) (lsn (group_end u) - lsn u.start) in omega arith)
  user_own user_step.ReleaseLatch a q k live = by (u.page + 1 == length (changes u)) (page_same (record (page_words_at m.page_words (current_page u)) { latch = 0 }) refl)
    where
      by : (b : Bool) → marked (with_page_words m (current_page u) (record (page_words_at m.page_words (current_page u)) { latch = 0 })).page_words ≡ marked m.page_words
          → End (with_page_words m (current_page u) (record (page_words_at m.page_words (current_page u)) { latch = 0 })) ls user_step.ReleaseLatch (cond b (after_link (own user_step.ReleaseLatch)) (record (own user_step.ReleaseLatch) { page = u.page + 1; step = user_step.ReleaseLatch }))
      by true same = inl (let low = linked_less (own user_step.ReleaseLatch) a.1 in let within = q.1 in omega arith)
      by false same = inl (let within = q.1 in omega arith)
  user_own user_step.AwaitMark a q k live = by (heard (shared_answer ls broken code mark m (user_op (own user_step.AwaitMark) user_step.AwaitMark)))
    where
      by : (n : ℕ) → End m ls user_step.AwaitMark (user_took (own user_step.AwaitMark) n user_step.AwaitMark)
      by n = words_by user_step.AwaitMark (has_passed (own user_step.AwaitMark) n) (answered (record (own user_step.AwaitMark) { loaded = with_mark (own user_step.AwaitMark) n })) (record (own user_step.AwaitMark) { loaded = with_mark (own user_step.AwaitMark) n; checks = true; step = user_step.AwaitMark })
          (inl (let low = answered_less (record (own user_step.AwaitMark) { loaded = with_mark (own user_step.AwaitMark) n }) a.1 in omega arith)) (inr (omega arith, tt, omega arith))
  user_own user_step.Done a q k live = absurd live
  user_own user_step.Failed a q k live = absurd live

  -- A TURN OF AN OPEN USER, ONCE FAILED HAS A CODE
  abbrev pub Settles : Actor → SharedWords → (ℕ → List Listed) → UserState → Type 0
  Settles b after lists v = (left_of b + words_steps last after lists < left v + words_steps last m ls) ⊎ ((left_of b + words_steps last after lists ≤ left v + words_steps last m ls) × ((w : UserState) × (b ≡ actor.User w) × IsOpenStep w.step × (leaving w < leaving v)))

  user_by : 0 < m.failed → (b : Bool) (f : UserStep) → UserAt D c m g p seat (record u { checks = b; step = f }) f → UserPagesAt E c m g.log h ls d seat u f → UserClosingAt E c m g.log h ls d seat u.advance f → IsOpenStep f
      → Settles (took (actor.User (record u { checks = b; step = f })) (shared_answer ls broken code mark m (next (actor.User (record u { checks = b; step = f }))))) (shared_left m (next (actor.User (record u { checks = b; step = f })))) (lists_then (next (actor.User (record u { checks = b; step = f })))) (record u { checks = b; step = f })
  user_by failed true f a q k live = inl (by (eqb m.failed 0) refl)
    where
      by : (b : Bool) → eqb m.failed 0 ≡ b → left (cond b (record u { checks = false; step = f }) (record u { checks = false; code = m.failed; step = user_step.Failed })) + words_steps last m ls < user_steps (record u { checks = true; step = f }) f + words_steps last m ls
      by true e = let z = eqb-true m.failed 0 e in absurd (omega arith)
      by false e = let z = some_left (record u { checks = true; step = f }) f live in omega arith
  user_by failed false f a q k live = ⊎_elim (λ z. inl z) (λ z. inr (z.0, (user_took (own f) (heard (shared_answer ls broken code mark m (user_op (own f) f))) f, refl, z.1, z.2))) (user_own f a q k live)

  pub user_settles : get_elem? actors seat ≡ some (actor.User u) → 0 < m.failed → IsOpenStep u.step → Settles (took (actor.User u) (shared_answer ls broken code mark m (next (actor.User u)))) (shared_left m (next (actor.User u))) (lists_then (next (actor.User u))) u
  user_settles at failed live =
      let fits : UserFits D c m g p seat u = both.logged.each seat (actor.User u) at in
      let pages : UserPageFits E c m g.log h ls d seat u = both.paged.each seat (actor.User u) at in
      user_by failed u.checks u.step fits.step pages.step pages.closing live
