-- A user's turn keeps the page half.
use Rattle.std.proofs.Common.{Bool, List, ap, arith, cond, eq-eqb, eqb, eqb-true, false, length, ltb, ne_eqb, refl, set, subst, true, ℕ, ◌%◌, ◌*◌, ◌+◌, ◌-◌, ◌/◌, ◌≡◌, ◌≤◌}
use Rattle.std.proofs.lemmas.Bool.{eqb-false}
use Rattle.std.specs.Prelude.{None, nat_le, slice_index, slice_set}
use lib.ListN.{get_elem?}
use mathlib.Core.Option.{some}
unfoldable use Rattle.model_core.specs.{packed}
use Rattle.model_core.specs.{Actor, after_link, answered, cell_of, changes, copy_place, lane_of, next_bytes, next_count, checked, DataServed, Entry, floor, found, group_bytes, group_end, heard, appended, Listed, lists_left, LogServed, lsn, mode, Nothing, old_of, own_took, current_page, page_words_at, phase_log, shared_answer, shared_left, SharedWords, user_op, user_took, UserState, with_mark, with_page_words, advance_next, advance_op, advance_took, after, can_link, frees, stays_put, tail_of, tail_word, with_link_room, without_link_room, wrote, DataSide, LogSide, Setup}
use Rattle.model_core.specs.declared.steps.UserStep.{UserStep}
use Rattle.model_logcore.specs.{LogGhost, UserAt, UserFits}
use Rattle.model_pagecore.proofs.ClosingSteps.{keeps_close}
use Rattle.model_pagecore.proofs.ListSteps.{keeps_add}
use Rattle.model_pagecore.proofs.Holders.{user_still_holds}
use Rattle.model_pagecore.proofs.PageStep.{page_quiet}
use Rattle.model_pagecore.proofs.UserPageSteps.{keeps_store_frame, keeps_release_latch, keeps_give_list, keeps_take_latch, keeps_store_newest, keeps_load_oldest, keeps_store_oldest, keeps_load_frame, closing_by, tied_fits}
use Rattle.model_pagecore.proofs.UserRoomSteps.{keeps_advance_closed, keeps_load_ctail, keeps_reload_ctail}
use Rattle.model_pagecore.proofs.ReserveSteps.{keeps_page_reserve}
use Rattle.model_pagecore.specs.{Grows, HasUntouchedPages, PageGhost, UserPageFits, UserPagesAt, UserClosingAt}
use Rattle.model_pagecore.specs.PageHalf.{PageHalf}
use Rattle.model_running.specs.Watermarks.{BothHalves}
use Rattle.model_core.specs.declared.ops.Answer.TheVariants as answer
use Rattle.model_core.specs.declared.steps.UserStep.TheVariants as user_step
use Rattle.model_core.specs.declared.steps.AdvanceStep.TheVariants as advance_step
use Rattle.model_core.specs.declared.words.LinkBuffer.TheVariants as link_buffer
use Rattle.model_core.specs.declared.words.LinkBuffer.{LinkBuffer}
use Rattle.model_core.specs.declared.steps.AdvanceStep.{AdvanceStep}
use Rattle.model_core.specs.States as actor
use Rattle.model_core.specs.declared.words.Word.TheVariants as word
use Rattle.model_core.specs.declared.ops.Op.TheVariants as op
use Rattle.model_core.specs.declared.limits.TheConstants.{BUFFER_BLOCKS, FREE_MARGIN, LOG_BUFFER, WRITTEN_LINKS}
use Rattle.model_log.specs.declared.layout.TheConstants.{BLOCK_DATA}
use Rattle.model_base.specs.declared.limits.TheConstants.{BLOCK_SIZE}
use Rattle.model_running.proofs.LatchesKeep.{held_by}
use Rattle.model_running.proofs.PageTurn.{PageDone, as_is, away, away_user, laid_of, lists_kept, mates, rested, unmoved}

module _ (D : LogSide) (E : DataSide) (c : Setup) (m : SharedWords) (g : LogGhost) (h : PageGhost) (ls : ℕ → List Listed) (p : D.Part) (d : E.Part) (actors : List Actor) (seat : ℕ) (both : BothHalves D E c m g h ls p d actors) (code : ℕ) (q : D.Part) (e : E.Part) where
  abbrev Kept : SharedWords → List Entry → (ℕ → List Listed) → Actor → Type 0
  Kept m' l ls' b = PageDone D E c m h actors seat p d m' l ls' b

  abbrev Done : SharedWords → List Entry → (ℕ → List Listed) → Actor → Type 0
  Done m' l ls' b = PageDone D E c m h actors seat q e m' l ls' b

  module _ (u : UserState) (at : get_elem? actors seat ≡ some (actor.User u)) where
    F : UserPageFits E c m g.log h ls d seat u
    F = both.paged.each seat (actor.User u) at

    M1 : UserFits D c m g p seat u
    M1 = both.logged.each seat (actor.User u) at

    quiet_to : (w : UserState) → UserPageFits E c m g.log h ls d seat w → PageHalf E c m g.log (D.stable p) h ls d (set actors seat (actor.User w))
    quiet_to w f = page_quiet E c g.seat_of m g.log (D.stable p) h ls d actors seat both.paged (mates both) (actor.User w) f

    total_by : (b d0 : Bool) → eqb (length (changes u)) 0 ≡ d0 → Kept m g.log ls (actor.User (cond b (record u { page = 0; cell = 0; step = cond d0 user_step.Reserve user_step.TakeLatch }) (record u { checks = true; step = user_step.LoadCheckpoint })))
    total_by true true f = (h, quiet_to (record u { page = 0; cell = 0; step = user_step.Reserve }) (record { there = F.there; apart = F.apart; within = F.within; ascending = F.ascending; are_bytes = F.are_bytes; loaded = F.loaded; closing = tt; step = (λ k lo hi. let z = eqb-true (length (changes u)) 0 f in absurd (omega arith)) }), unmoved)
    total_by true false f = (h, quiet_to (record u { page = 0; cell = 0; step = user_step.TakeLatch }) (record { there = F.there; apart = F.apart; within = F.within; ascending = F.ascending; are_bytes = F.are_bytes; loaded = F.loaded; closing = tt; step = ((λ k lo hi. absurd (omega arith)), (let z = eqb-false (length (changes u)) 0 f in omega arith)) }), unmoved)
    total_by false d0 f = (h, quiet_to (record u { checks = true; step = user_step.LoadCheckpoint }) (record { there = F.there; apart = F.apart; within = F.within; ascending = F.ascending; are_bytes = F.are_bytes; loaded = F.loaded; closing = tt; step = tt }), unmoved)

    latch_by : (b : Bool) → eqb (page_words_at m.page_words (current_page u)).latch 0 ≡ b → u.step ≡ user_step.TakeLatch → UserPagesAt E c m g.log h ls d seat u user_step.TakeLatch
        → Kept (cond b (with_page_words m (current_page u) (record (page_words_at m.page_words (current_page u)) { latch = 1 })) m) g.log ls (actor.User (cond b (record u { page = u.page + 1; step = cond (eqb (u.page + 1) (length (changes u))) user_step.Reserve user_step.TakeLatch }) (record u { checks = true; step = user_step.TakeLatch })))
    latch_by true f is o = keeps_take_latch E c g.seat_of m g.log (D.stable p) h ls d actors seat both.paged (mates both) (laid_of both) u at both.logged.sized.page_words is (eqb-true (page_words_at m.page_words (current_page u)).latch 0 f)
    latch_by false f is o = (h, quiet_to (record u { checks = true; step = user_step.TakeLatch }) (record { there = F.there; apart = F.apart; within = F.within; ascending = F.ascending; are_bytes = F.are_bytes; loaded = F.loaded; closing = tt; step = o }), unmoved)

    room_by : (b : Bool) → HasUntouchedPages E c m g.log h ls d seat u → Kept m g.log ls (actor.User (cond b (record u { loaded = record u.loaded { write = m.write }; step = user_step.AddCell }) (record u { loaded = record u.loaded { write = m.write }; checks = true; step = user_step.LoadWrite })))
    room_by true o = (h, quiet_to (record u { loaded = record u.loaded { write = m.write }; step = user_step.AddCell }) (record { there = F.there; apart = F.apart; within = F.within; ascending = F.ascending; are_bytes = F.are_bytes; loaded = F.loaded; closing = tt; step = o }), unmoved)
    room_by false o = (h, quiet_to (record u { loaded = record u.loaded { write = m.write }; checks = true; step = user_step.LoadWrite }) (record { there = F.there; apart = F.apart; within = F.within; ascending = F.ascending; are_bytes = F.are_bytes; loaded = F.loaded; closing = tt; step = o }), unmoved)

    space_by : (b waits : Bool) (f : UserStep) → HasUntouchedPages E c m g.log h ls d seat u → UserPagesAt E c m g.log h ls d seat (without_link_room u (tail_word m.wtail m.wheld) waits f) f → UserClosingAt E c m g.log h ls d seat u.advance f
        → Kept m g.log ls (actor.User (cond b (with_link_room u (tail_word m.wtail m.wheld)) (without_link_room u (tail_word m.wtail m.wheld) waits f)))
    space_by true waits f o again closing = (h, quiet_to (with_link_room u (tail_word m.wtail m.wheld)) (record { there = F.there; apart = F.apart; within = F.within; ascending = F.ascending; are_bytes = F.are_bytes; loaded = F.loaded; closing = tt; step = o }), unmoved)
    space_by false waits f o again closing = (h, quiet_to (without_link_room u (tail_word m.wtail m.wheld) waits f) (record { there = F.there; apart = F.apart; within = F.within; ascending = F.ascending; are_bytes = F.are_bytes; loaded = F.loaded; closing = closing; step = again }), unmoved)

    -- it advances WTAIL: it waits (w), has freed the tail (f), or goes on
    abbrev written_step : Bool → Bool → AdvanceStep → UserStep
    written_step w f r = cond w user_step.LoadWtail (cond f user_step.ReloadWtail (user_step.AdvanceWritten r))

    advanced_fits : (n : ℕ) (s : AdvanceStep) → HasUntouchedPages E c m g.log h ls d seat u → UserPageFits E c m g.log h ls d seat (user_took u n (user_step.AdvanceWritten s))
    advanced_fits n s o = let w : Bool = stays_put u.advance n s in let r : AdvanceStep = advance_next u.advance n s in
        record { there = F.there; apart = F.apart; within = F.within; ascending = F.ascending; are_bytes = F.are_bytes; loaded = F.loaded; closing = closing w (frees s) r; step = go w (frees s) r }
      where
        go : (w f : Bool) (r : AdvanceStep) → UserPagesAt E c m g.log h ls d seat (user_took u n (user_step.AdvanceWritten s)) (written_step w f r)
        go true f r = o
        go false true r = o
        go false false r = o

        closing : (w f : Bool) (r : AdvanceStep) → UserClosingAt E c m g.log h ls d seat (advance_took u.advance n s) (written_step w f r)
        closing true f r = tt
        closing false true r = tt
        closing false false r = tt

    abbrev advance_found : LinkBuffer → AdvanceStep → ℕ
    advance_found b s = found (advance_op b u.advance s) m

    advance_written : (s : AdvanceStep) → HasUntouchedPages E c m g.log h ls d seat u → Kept (after (advance_op link_buffer.Written u.advance s) m) g.log ls (actor.User (user_took u (advance_found link_buffer.Written s) (user_step.AdvanceWritten s)))
    advance_written advance_step.TakeTail o = by (eqb (tail_word m.wtail m.wheld) (tail_word u.advance.tail false))
      where
        by : (b : Bool) → Kept (cond b (wrote m word.Wtail (tail_word u.advance.tail true)) m) g.log ls (actor.User (user_took u (tail_word m.wtail m.wheld) (user_step.AdvanceWritten advance_step.TakeTail)))
        by true = (h, away_user both seat (wrote m word.Wtail (tail_word u.advance.tail true)) (user_took u (tail_word m.wtail m.wheld) (user_step.AdvanceWritten advance_step.TakeTail)) M1.own_seat (advanced_fits (tail_word m.wtail m.wheld) advance_step.TakeTail o) refl refl refl refl refl refl refl, unmoved)
        by false = (h, quiet_to (user_took u (tail_word m.wtail m.wheld) (user_step.AdvanceWritten advance_step.TakeTail)) (advanced_fits (tail_word m.wtail m.wheld) advance_step.TakeTail o), unmoved)
    advance_written s o = (h, away_user both seat (after (advance_op link_buffer.Written u.advance s) m) (user_took u (advance_found link_buffer.Written s) (user_step.AdvanceWritten s)) M1.own_seat (advanced_fits (advance_found link_buffer.Written s) s o) refl refl refl refl refl refl refl, unmoved)

    advance_closed : (s : AdvanceStep) → u.step ≡ user_step.AdvanceClosed s → Kept (after (advance_op link_buffer.Closed u.advance s) m) g.log ls (actor.User (user_took u (advance_found link_buffer.Closed s) (user_step.AdvanceClosed s)))
    advance_closed s is = keeps_advance_closed E c g.seat_of m g.log (D.stable p) h ls d actors seat both.paged (mates both) (laid_of both) u at s is both.logged.sized.clinks

    copy_by : (b k : Bool) → HasUntouchedPages E c m g.log h ls d seat u
        → Kept (record m { cells = slice_set m.cells (cell_of (copy_place u)) (slice_index m.cells (cell_of (copy_place u)) + packed (lane_of (copy_place u)) (next_bytes u)) }) g.log ls (actor.User (record u { copied = u.copied + next_count u; step = cond b (cond k user_step.StoreFirst user_step.LoadWtail) user_step.AddCell }))
    copy_by b k o = (h, away_user both seat (record m { cells = slice_set m.cells (cell_of (copy_place u)) (slice_index m.cells (cell_of (copy_place u)) + packed (lane_of (copy_place u)) (next_bytes u)) }) (record u { copied = u.copied + next_count u; step = cond b (cond k user_step.StoreFirst user_step.LoadWtail) user_step.AddCell }) M1.own_seat (record { there = F.there; apart = F.apart; within = F.within; ascending = F.ascending; are_bytes = F.are_bytes; loaded = F.loaded; closing = closing_by E c m g.log h ls d seat u.advance b (cond k user_step.StoreFirst user_step.LoadWtail) user_step.AddCell (closing_by E c m g.log h ls d seat u.advance k user_step.StoreFirst user_step.LoadWtail tt tt) tt; step = go b k }) refl refl refl refl refl refl refl, unmoved)
      where
        go : (b k : Bool) → UserPagesAt E c m g.log h ls d seat (record u { copied = u.copied + next_count u; step = cond b (cond k user_step.StoreFirst user_step.LoadWtail) user_step.AddCell }) (cond b (cond k user_step.StoreFirst user_step.LoadWtail) user_step.AddCell)
        go true true = o
        go true false = o
        go false k = o

    tie_by : (b : Bool) → eqb (length (changes u)) 0 ≡ b → HasUntouchedPages E c m g.log h ls d seat u
        → Kept (record m { wlinks = slice_set m.wlinks (lsn u.start % WRITTEN_LINKS) (lsn (group_end u) - lsn u.start) }) g.log ls (actor.User (cond b (after_link u) (record u { step = user_step.LoadCtail })))
    tie_by true f o = (h, away both seat (record m { wlinks = slice_set m.wlinks (lsn u.start % WRITTEN_LINKS) (lsn (group_end u) - lsn u.start) }) (actor.User (after_link u)) (tied_fits E c g.seat_of m g.log (D.stable p) h ls d actors seat both.paged (mates both) (laid_of both) u at (record m { wlinks = slice_set m.wlinks (lsn u.start % WRITTEN_LINKS) (lsn (group_end u) - lsn u.start) }) h ls F.loaded (eqb (mode u) 0) refl) refl refl refl refl refl refl refl, unmoved)
    tie_by false f o = (h, away_user both seat (record m { wlinks = slice_set m.wlinks (lsn u.start % WRITTEN_LINKS) (lsn (group_end u) - lsn u.start) }) (record u { step = user_step.LoadCtail }) M1.own_seat (record { there = F.there; apart = F.apart; within = F.within; ascending = F.ascending; are_bytes = F.are_bytes; loaded = F.loaded; closing = tt; step = (o, (let z = eqb-false (length (changes u)) 0 f in omega arith)) }) refl refl refl refl refl refl refl, unmoved)

    list_by : (b : Bool) → eqb (slice_index m.lists (current_page u % 4)) 0 ≡ b → u.step ≡ user_step.AddToList → u.checks ≡ false → UserPagesAt E c m g.log h ls d seat u user_step.AddToList
        → Kept (cond b (record m { lists = slice_set m.lists (current_page u % 4) 1 }) m) g.log (λ i. cond (eqb i (current_page u % 4)) (cond b (appended (ls i) (current_page u) (lsn u.start)) (ls i)) (ls i)) (actor.User (user_took u (heard (cond b (answer.Taken None) answer.Held)) user_step.AddToList))
    list_by true f is checks o = keeps_add E c g.seat_of m g.log (D.stable p) h ls d actors seat both.paged (mates both) (laid_of both) u at (λ i. cond (eqb i (current_page u % 4)) (appended (ls i) (current_page u) (lsn u.start)) (ls i))
        (ap (λ (z : Bool). cond z (appended (ls (current_page u % 4)) (current_page u) (lsn u.start)) (ls (current_page u % 4))) (eq-eqb (current_page u % 4) (current_page u % 4) refl))
        (λ i n. ap (λ (z : Bool). cond z (appended (ls i) (current_page u) (lsn u.start)) (ls i)) (ne_eqb i (current_page u % 4) n))
        both.logged.sized.lists (eqb-true (slice_index m.lists (current_page u % 4)) 0 f) checks is
    list_by false f is checks o = subst (λ (z : ℕ → List Listed). (k : PageGhost) × PageHalf E c m g.log (D.stable p) k z d (set actors seat (actor.User (user_took u 1 user_step.AddToList))) × Grows m h k) (lists_kept ls (current_page u % 4)) (h, quiet_to (user_took u 1 user_step.AddToList) (record { there = F.there; apart = F.apart; within = F.within; ascending = F.ascending; are_bytes = F.are_bytes; loaded = F.loaded; closing = tt; step = o }), unmoved)

    mark_ctail : (n : ℕ) (b : Bool) → (cond b (record u.loaded { flushed = n }) (record u.loaded { write = n })).ctail ≤ m.ctail
    mark_ctail n true = F.loaded
    mark_ctail n false = F.loaded

    await_by : (n : ℕ) (b : Bool) → Kept m g.log ls (actor.User (cond b (answered (record u { loaded = with_mark u n })) (record u { loaded = with_mark u n; checks = true; step = user_step.AwaitMark })))
    await_by n false = (h, quiet_to (record u { loaded = with_mark u n; checks = true; step = user_step.AwaitMark }) (record { there = F.there; apart = F.apart; within = F.within; ascending = F.ascending; are_bytes = F.are_bytes; loaded = mark_ctail n (eqb (mode u) 1); closing = tt; step = tt }), unmoved)
    await_by n true = (h, quiet_to (answered (record u { loaded = with_mark u n })) (record { there = F.there; apart = F.apart; within = F.within; ascending = F.ascending; are_bytes = F.are_bytes; loaded = mark_ctail n (eqb (mode u) 1); closing = closing_by E c m g.log h ls d seat u.advance (eqb (u.k + 1) (length u.lines)) user_step.Done user_step.LoadCheckpoint tt tt; step = go (eqb (u.k + 1) (length u.lines)) }), unmoved)
      where
        go : (b : Bool) → UserPagesAt E c m g.log h ls d seat (record u { loaded = with_mark u n; k = u.k + 1; checks = cond b false true; step = cond b user_step.Done user_step.LoadCheckpoint }) (cond b user_step.Done user_step.LoadCheckpoint)
        go true = tt
        go false = tt

    -- each step of a user that doesn't check
    user_page : (f : UserStep) → u.step ≡ f → UserPagesAt E c m g.log h ls d seat u f → UserAt D c m g p seat u f → u.checks ≡ false
        → Kept (shared_left m (user_op u f)) (phase_log g.log m.sn u f) (lists_left ls (λ i. slice_index m.lists i) (user_op u f)) (actor.User (user_took u (heard (shared_answer ls (D.failed p) code (D.stable q) m (user_op u f))) f))
    user_page user_step.LoadCheckpoint is o a checks = (h, quiet_to (record u { loaded = record u.loaded { ckpt = m.ckpt }; step = user_step.LoadSn }) (record { there = F.there; apart = F.apart; within = F.within; ascending = F.ascending; are_bytes = F.are_bytes; loaded = F.loaded; closing = tt; step = tt }), unmoved)
    user_page user_step.LoadSn is o a checks = total_by (nat_le (lsn m.sn + FREE_MARGIN) (u.loaded.ckpt + BLOCK_SIZE * u.blocks)) (eqb (length (changes u)) 0) refl
    user_page user_step.TakeLatch is o a checks = latch_by (eqb (page_words_at m.page_words (current_page u)).latch 0) refl is o
    user_page user_step.Reserve is o a checks = (h, keeps_page_reserve E c g.seat_of m g.log (D.stable p) h ls d actors seat both.paged (mates both) (laid_of both) u at is (M1.sound u.k a.1).0, unmoved)
    user_page user_step.LoadWrite is o a checks = room_by (ltb (lsn (group_end u)) (floor m.write + LOG_BUFFER)) o
    user_page user_step.AddCell is o a checks = copy_by (eqb (u.copied + next_count u) (length (group_bytes u))) (ltb (u.start / BLOCK_DATA) (group_end u / BLOCK_DATA)) o
    user_page user_step.StoreFirst is o a checks = (h, away_user both seat (record m { firsts = slice_set m.firsts (lsn (group_end u) / BLOCK_SIZE % BUFFER_BLOCKS) (lsn (group_end u) % BLOCK_SIZE) }) (record u { step = user_step.LoadWtail }) M1.own_seat (record { there = F.there; apart = F.apart; within = F.within; ascending = F.ascending; are_bytes = F.are_bytes; loaded = F.loaded; closing = tt; step = o }) refl refl refl refl refl refl refl, unmoved)
    user_page user_step.LoadWtail is o a checks = space_by (can_link u (tail_of (tail_word m.wtail m.wheld))) false (user_step.AdvanceWritten advance_step.LoadTail) o o tt
    user_page (user_step.AdvanceWritten advance_step.LoadTail) is o a checks = advance_written advance_step.LoadTail o
    user_page (user_step.AdvanceWritten advance_step.TakeTail) is o a checks = advance_written advance_step.TakeTail o
    user_page (user_step.AdvanceWritten advance_step.LoadLink) is o a checks = advance_written advance_step.LoadLink o
    user_page (user_step.AdvanceWritten advance_step.ClearLink) is o a checks = advance_written advance_step.ClearLink o
    user_page (user_step.AdvanceWritten advance_step.FreeTail) is o a checks = advance_written advance_step.FreeTail o
    user_page user_step.ReloadWtail is o a checks = space_by (can_link u (tail_of (tail_word m.wtail m.wheld))) true user_step.LoadWtail o o tt
    user_page user_step.StoreLink is o a checks = tie_by (eqb (length (changes u)) 0) refl o
    user_page user_step.LoadCtail is o a checks = (h, keeps_load_ctail E c g.seat_of m g.log (D.stable p) h ls d actors seat both.paged (mates both) (laid_of both) u at is, unmoved)
    user_page (user_step.AdvanceClosed advance_step.LoadTail) is o a checks = advance_closed advance_step.LoadTail is
    user_page (user_step.AdvanceClosed advance_step.TakeTail) is o a checks = advance_closed advance_step.TakeTail is
    user_page (user_step.AdvanceClosed advance_step.LoadLink) is o a checks = advance_closed advance_step.LoadLink is
    user_page (user_step.AdvanceClosed advance_step.ClearLink) is o a checks = advance_closed advance_step.ClearLink is
    user_page (user_step.AdvanceClosed advance_step.FreeTail) is o a checks = advance_closed advance_step.FreeTail is
    user_page user_step.ReloadCtail is o a checks = (h, keeps_reload_ctail E c g.seat_of m g.log (D.stable p) h ls d actors seat both.paged (mates both) (laid_of both) u at is, unmoved)
    user_page user_step.LoadFrame is o a checks = (h, keeps_load_frame E c g.seat_of m g.log (D.stable p) h ls d actors seat both.paged (mates both) (laid_of both) u at is, unmoved)
    user_page user_step.StoreFrame is o a checks = (h, keeps_store_frame E c g.seat_of m g.log (D.stable p) h ls d actors seat both.paged (mates both) (laid_of both) u at both.script.page_size both.logged.sized.page_words both.logged.sized.frames is, unmoved)
    user_page user_step.StoreNewest is o a checks = (h, keeps_store_newest E c g.seat_of m g.log (D.stable p) h ls d actors seat both.paged (mates both) (laid_of both) u at both.logged.sized.page_words is, unmoved)
    user_page user_step.StoreOldest is o a checks = (h, keeps_store_oldest E c g.seat_of m g.log (D.stable p) h ls d actors seat both.paged (mates both) (laid_of both) u at both.logged.sized.page_words is, unmoved)
    user_page user_step.ReleaseLatch is o a checks = (h, keeps_release_latch E c g.seat_of m g.log (D.stable p) h ls d actors seat both.paged (mates both) (laid_of both) u at both.logged.sized.page_words is, unmoved)
    user_page user_step.LoadOldest is o a checks = (h, keeps_load_oldest E c g.seat_of m g.log (D.stable p) h ls d actors seat both.paged (mates both) (laid_of both) u at is, unmoved)
    user_page user_step.AddToList is o a checks = list_by (eqb (slice_index m.lists (current_page u % 4)) 0) refl is checks o
    user_page user_step.GiveList is o a checks = (h, keeps_give_list E c g.seat_of m g.log (D.stable p) h ls d actors seat both.paged (mates both) (laid_of both) u at both.logged.sized.lists is, unmoved)
    user_page user_step.StoreClosedLink is o a checks = keeps_close E c g.seat_of m g.log (D.stable p) h ls d actors seat both.paged (mates both) (laid_of both) u at both.logged.sized.clinks is
    user_page user_step.AwaitMark is o a checks = await_by (found (user_op u user_step.AwaitMark) m) (nat_le (lsn (group_end u)) (found (user_op u user_step.AwaitMark) m))
    user_page user_step.Done is o a checks = rested both seat (actor.User u) at
    user_page user_step.Failed is o a checks = rested both seat (actor.User u) at

    user_hears : (b : Bool) → Kept m g.log ls (actor.User (cond b (record u { checks = false }) (record u { checks = false; code = m.failed; step = user_step.Failed })))
    user_hears true = (h, quiet_to (record u { checks = false }) (record { there = F.there; apart = F.apart; within = F.within; ascending = F.ascending; are_bytes = F.are_bytes; loaded = F.loaded; closing = F.closing; step = F.step }), unmoved)
    user_hears false = (h, quiet_to (record u { checks = false; code = m.failed; step = user_step.Failed }) (record { there = F.there; apart = F.apart; within = F.within; ascending = F.ascending; are_bytes = F.are_bytes; loaded = F.loaded; closing = tt; step = user_still_holds E c m g.log h ls d seat u u.step (held_by D E c m g h ls p d actors seat both (actor.User u) at) F.step }), unmoved)

  user_served : (u : UserState) (f : UserStep) → LogServed D p Nothing (user_op u f) code q → ◌≡◌ {A = D.Part} q p
  user_served u (user_step.AdvanceWritten advance_step.LoadTail) s = s
  user_served u (user_step.AdvanceClosed advance_step.LoadTail) s = s
  user_served u _ s = s

  user_stored : (u : UserState) (f : UserStep) → DataServed E d Nothing (user_op u f) code e → ◌≡◌ {A = E.Part} e d
  user_stored u (user_step.AdvanceWritten advance_step.LoadTail) s = s
  user_stored u (user_step.AdvanceClosed advance_step.LoadTail) s = s
  user_stored u _ s = s

  pub user_turn : (u : UserState) → get_elem? actors seat ≡ some (actor.User u) → (b : Bool) → u.checks ≡ b → LogServed D p Nothing (cond b (op.Load word.Failed) (user_op u u.step)) code q → DataServed E d Nothing (cond b (op.Load word.Failed) (user_op u u.step)) code e
      → Done (shared_left m (cond b (op.Load word.Failed) (user_op u u.step))) (cond b g.log (phase_log g.log m.sn u u.step)) (lists_left ls (λ i. slice_index m.lists i) (cond b (op.Load word.Failed) (user_op u u.step)))
      (cond b (checked (actor.User u) (old_of (shared_answer ls (D.failed p) code (D.stable q) m (cond b (op.Load word.Failed) (user_op u u.step))))) (own_took (actor.User u) (shared_answer ls (D.failed p) code (D.stable q) m (cond b (op.Load word.Failed) (user_op u u.step)))))
  user_turn u at true k s v = as_is D E c m h actors seat p q d e _ s v (user_hears u at (eqb m.failed 0))
  user_turn u at false k s v = as_is D E c m h actors seat p q d e _ (user_served u u.step s) (user_stored u u.step v) (user_page u at u.step refl (F u at).step (M1 u at).step k)
