-- A user's step keeps what its state says of the closed groups.
use Rattle.std.proofs.Common.{Bool, List, arith, cond, eqb, eqb-true, false, length, ltb, refl, subst, sym, true, ℕ, ◌+◌, ◌/◌, ◌<◌, ◌∙◌, ◌≡◌}
use lib.ListN.{get_elem?}
use mathlib.Core.Option.{some}
use native.Mathlib.Decide.{ℕ_discrete}
use Rattle.model_core.specs.{advance_next, after_link, answered, can_close, can_link, cells_of, change_at, changes, checked_of, entry, Entry, frame_count, frees, group_bytes, group_end, has_passed, has_room, has_space, is_whole, line, LoadedMarks, mode, next_count, stays_put, tail_of, to_next_page, user_program, user_took, UserState, with_close_room, with_link_room, with_mark, without_close_room, without_link_room, word_step, Setup}
use Rattle.model_core.specs.declared.steps.UserStep.{UserStep}
use Rattle.model_log.specs.declared.layout.TheConstants.{BLOCK_DATA}
use Rattle.model_logcore.proofs.UserGroups.{rank_same}
use Rattle.model_logcore.specs.{Place, Tiled}
use Rattle.model_running.specs.Watermarks.{HandIsClosed, UserClosed}
use Rattle.model_core.specs.declared.steps.AdvanceStep.TheVariants as advance_step
use Rattle.model_core.specs.declared.steps.UserStep.TheVariants as user_step

pick : (P : UserStep → Type 0) (b : Bool) (f g : UserStep) → P f → P g → P (cond b f g)
pick P true f g x y = x
pick P false f g x y = y

module _ (c : Setup) (sn : ℕ) (log : List Entry) (place : ℕ → Place) (tiled : Tiled c sn log place) (closed later : ℕ → Bool) (more : (x : ℕ) → closed x ≡ true → later x ≡ true) (u : UserState) (before : UserClosed log closed u) where
  -- the group in hand stands in the log
  abbrev pub InLog : Type 0
  InLog = (i : ℕ) × (get_elem? log i ≡ some (entry u.user u.k u.start (line u)))

  -- it is closed if it changes a page
  abbrev IsHere : Type 0
  IsHere = 0 < length (changes u) → later u.start ≡ true

  keep : (w : UserState) → w.user ≡ u.user → w.k ≡ u.k → HandIsClosed later w w.step → UserClosed log later w
  keep w own same hand = record { answered = λ i e is mine below some_page. more e.start (before.answered i e is (mine ∙ own) (omega arith) some_page); in_hand = hand }

  next : InLog → IsHere → (w : UserState) → w.user ≡ u.user → w.k ≡ u.k + 1 → HandIsClosed later w w.step → UserClosed log later w
  next there here w own one hand = record {
    answered = λ i e is mine below some_page. elim (ℕ_discrete e.k u.k) [
      | yes last ↦ (let same : ◌≡◌ {A = Entry} (entry u.user u.k u.start (line u)) e = rank_same c sn log place there.0 i (entry u.user u.k u.start (line u)) e tiled there.1 is (sym (mine ∙ own)) (sym last) in
          subst (λ (z : Entry). 0 < length z.changes → later z.start ≡ true) same here some_page)
      | no earlier ↦ more e.start (before.answered i e is (mine ∙ own) (omega arith) some_page)
    ];
    in_hand = hand;
  }

  either : (b : Bool) (x y : UserState) → UserClosed log later x → UserClosed log later y → UserClosed log later (cond b x y)
  either true x y p q = p
  either false x y p q = q

  goes_on : InLog → IsHere → (marks : LoadedMarks) → UserClosed log later (answered (record u { loaded = marks }))
  goes_on there here marks = next there here (answered (record u { loaded = marks })) refl refl
      (pick (HandIsClosed later (answered (record u { loaded = marks }))) (eqb (u.k + 1) (length u.lines)) user_step.Done user_step.LoadCheckpoint tt tt)

  linked : InLog → IsHere → UserClosed log later (after_link u)
  linked there here = either (eqb (mode u) 0) (answered u) (record u { step = user_step.AwaitMark }) (goes_on there here u.loaded) (keep (record u { step = user_step.AwaitMark }) refl refl here)

  turns : UserClosed log later (to_next_page u)
  turns = keep (to_next_page u) refl refl
      (pick (HandIsClosed later (to_next_page u)) (eqb (u.page + 1) (length (changes u))) user_step.StoreClosedLink (cond (eqb 0 (length (change_at (changes u) (u.page + 1)).cells)) user_step.StoreNewest (word_step (change_at (changes u) (u.page + 1)).cells 0)) tt
      (pick (HandIsClosed later (to_next_page u)) (eqb 0 (length (change_at (changes u) (u.page + 1)).cells)) user_step.StoreNewest (word_step (change_at (changes u) (u.page + 1)).cells 0) tt (pick (HandIsClosed later (to_next_page u)) (is_whole (change_at (changes u) (u.page + 1)).cells 0) user_step.StoreFrame user_step.LoadFrame tt tt)))

  -- of a step whose group is in the log, where it is; what is closed by the store of its link
  abbrev pub Needs : UserStep → Type 0
  Needs user_step.StoreLink = InLog
  Needs user_step.StoreClosedLink = later u.start ≡ true
  Needs user_step.ReleaseLatch = InLog
  Needs user_step.AwaitMark = InLog
  Needs _ = Unit {0}

  no_pages : (b : Bool) → eqb (length (changes u)) 0 ≡ b → InLog → UserClosed log later (cond b (after_link u) (record u { step = user_step.LoadCtail }))
  no_pages true none there = linked there (λ some_page. let z = eqb-true (length (changes u)) 0 none in absurd (omega arith))
  no_pages false none there = keep (record u { step = user_step.LoadCtail }) refl refl tt

  -- a step of an advance
  advanced : (x : UserState) → x.user ≡ u.user → x.k ≡ u.k → (w f : Bool) (first again on : UserStep) → x.step ≡ cond w first (cond f again on) → HandIsClosed later x first → HandIsClosed later x again → HandIsClosed later x on → UserClosed log later x
  advanced x own same w f first again on is a b c = keep x own same (subst (HandIsClosed later x) (sym is) (pick (HandIsClosed later x) w first (cond f again on) a (pick (HandIsClosed later x) f again on b c)))

  -- it has found room in the recent-closed buffer, and begins with the cells of its page
  begins : (n : ℕ) → UserClosed log later (with_close_room u n)
  begins n = let w : UserState = with_close_room u n in
      keep w refl refl (pick (HandIsClosed later w) (eqb u.cell (length (cells_of u))) user_step.StoreNewest (word_step (cells_of u) u.cell) tt (pick (HandIsClosed later w) (is_whole (cells_of u) u.cell) user_step.StoreFrame user_step.LoadFrame tt tt))

  -- each step but the reservation, which adds a group
  pub closes : (n : ℕ) (f : UserStep) → u.step ≡ f → (f ≡ user_step.Reserve → ⊥) → HandIsClosed closed u f → Needs f → UserClosed log later (user_took u n f)
  closes n user_step.LoadCheckpoint is not hand needs = keep (user_took u n user_step.LoadCheckpoint) refl refl tt
  closes n user_step.LoadSn is not hand needs =
      let w : UserState = record u { page = 0; cell = 0; step = cond (eqb (length (changes u)) 0) user_step.Reserve user_step.TakeLatch } in
      either (has_space u n) w (record u { checks = true; step = user_step.LoadCheckpoint })
      (keep w refl refl (pick (HandIsClosed later w) (eqb (length (changes u)) 0) user_step.Reserve user_step.TakeLatch tt tt)) (keep (record u { checks = true; step = user_step.LoadCheckpoint }) refl refl tt)
  closes n user_step.TakeLatch is not hand needs =
      let w : UserState = record u { page = u.page + 1; step = cond (eqb (u.page + 1) (length (changes u))) user_step.Reserve user_step.TakeLatch } in
      either (eqb n 0) w (record u { checks = true; step = user_step.TakeLatch })
      (keep w refl refl (pick (HandIsClosed later w) (eqb (u.page + 1) (length (changes u))) user_step.Reserve user_step.TakeLatch tt tt)) (keep (record u { checks = true; step = user_step.TakeLatch }) refl refl tt)
  closes n user_step.Reserve is not hand needs = absurd (not refl)
  closes n user_step.LoadWrite is not hand needs = either (has_room u n) (record u { loaded = record u.loaded { write = n }; step = user_step.AddCell }) (record u { loaded = record u.loaded { write = n }; checks = true; step = user_step.LoadWrite })
      (keep (record u { loaded = record u.loaded { write = n }; step = user_step.AddCell }) refl refl tt) (keep (record u { loaded = record u.loaded { write = n }; checks = true; step = user_step.LoadWrite }) refl refl tt)
  closes n user_step.AddCell is not hand needs =
      let w : UserState = user_took u n user_step.AddCell in
      keep w refl refl (pick (HandIsClosed later w) (eqb (u.copied + next_count u) (length (group_bytes u))) (cond (ltb (u.start / BLOCK_DATA) (group_end u / BLOCK_DATA)) user_step.StoreFirst user_step.LoadWtail) user_step.AddCell (pick (HandIsClosed later w) (ltb (u.start / BLOCK_DATA) (group_end u / BLOCK_DATA)) user_step.StoreFirst user_step.LoadWtail tt tt) tt)
  closes n user_step.StoreFirst is not hand needs = keep (user_took u n user_step.StoreFirst) refl refl tt
  closes n user_step.LoadWtail is not hand needs = either (can_link u (tail_of n)) (with_link_room u n) (without_link_room u n false (user_step.AdvanceWritten advance_step.LoadTail)) (keep (with_link_room u n) refl refl tt) (keep (without_link_room u n false (user_step.AdvanceWritten advance_step.LoadTail)) refl refl tt)
  closes n (user_step.AdvanceWritten s) is not hand needs = advanced (user_took u n (user_step.AdvanceWritten s)) refl refl (stays_put u.advance n s) (frees s) user_step.LoadWtail user_step.ReloadWtail (user_step.AdvanceWritten (advance_next u.advance n s)) refl tt tt tt
  closes n user_step.ReloadWtail is not hand needs = either (can_link u (tail_of n)) (with_link_room u n) (without_link_room u n true user_step.LoadWtail) (keep (with_link_room u n) refl refl tt) (keep (without_link_room u n true user_step.LoadWtail) refl refl tt)
  closes n user_step.StoreLink is not hand needs = no_pages (eqb (length (changes u)) 0) refl needs
  closes n user_step.LoadCtail is not hand needs = either (can_close u (tail_of n)) (with_close_room u n) (without_close_room u n false (user_step.AdvanceClosed advance_step.LoadTail)) (begins n) (keep (without_close_room u n false (user_step.AdvanceClosed advance_step.LoadTail)) refl refl tt)
  closes n (user_step.AdvanceClosed s) is not hand needs = advanced (user_took u n (user_step.AdvanceClosed s)) refl refl (stays_put u.advance n s) (frees s) user_step.LoadCtail user_step.ReloadCtail (user_step.AdvanceClosed (advance_next u.advance n s)) refl tt tt tt
  closes n user_step.ReloadCtail is not hand needs = either (can_close u (tail_of n)) (with_close_room u n) (without_close_room u n true user_step.LoadCtail) (begins n) (keep (without_close_room u n true user_step.LoadCtail) refl refl tt)
  closes n user_step.LoadFrame is not hand needs = keep (user_took u n user_step.LoadFrame) refl refl tt
  closes n user_step.StoreFrame is not hand needs =
      let w : UserState = user_took u n user_step.StoreFrame in
      keep w refl refl (pick (HandIsClosed later w) (eqb (u.cell + frame_count u) (length (cells_of u))) user_step.StoreNewest (word_step (cells_of u) (u.cell + frame_count u)) tt (pick (HandIsClosed later w) (is_whole (cells_of u) (u.cell + frame_count u)) user_step.StoreFrame user_step.LoadFrame tt tt))
  closes n user_step.StoreNewest is not hand needs = keep (user_took u n user_step.StoreNewest) refl refl tt
  closes n user_step.LoadOldest is not hand needs = either (eqb n 0) (record u { step = user_step.AddToList }) (to_next_page u) (keep (record u { step = user_step.AddToList }) refl refl tt) turns
  closes n user_step.AddToList is not hand needs =
      let w : UserState = user_took u n user_step.AddToList in
      keep w refl refl (pick (HandIsClosed later w) (eqb n 0) user_step.StoreOldest user_step.AddToList tt tt)
  closes n user_step.StoreOldest is not hand needs = keep (user_took u n user_step.StoreOldest) refl refl tt
  closes n user_step.GiveList is not hand needs = turns
  closes n user_step.StoreClosedLink is not hand needs = keep (user_took u n user_step.StoreClosedLink) refl refl needs
  closes n user_step.ReleaseLatch is not hand needs = either (eqb (u.page + 1) (length (changes u))) (after_link u) (record u { page = u.page + 1; step = user_step.ReleaseLatch })
      (linked needs (λ some_page. more u.start hand)) (keep (record u { page = u.page + 1; step = user_step.ReleaseLatch }) refl refl (more u.start hand))
  closes n user_step.AwaitMark is not hand needs = either (has_passed u n) (answered (record u { loaded = with_mark u n })) (record u { loaded = with_mark u n; checks = true; step = user_step.AwaitMark })
      (goes_on needs (λ some_page. more u.start (hand some_page)) (with_mark u n)) (keep (record u { loaded = with_mark u n; checks = true; step = user_step.AwaitMark }) refl refl (λ some_page. more u.start (hand some_page)))
  closes n user_step.Done is not hand needs = keep u refl refl (subst (HandIsClosed later u) (sym is) tt)
  closes n user_step.Failed is not hand needs = keep u refl refl (subst (HandIsClosed later u) (sym is) tt)

  still : (f : UserStep) → HandIsClosed closed u f → HandIsClosed later (record u { checks = false }) f
  still user_step.ReleaseLatch hand = more u.start hand
  still user_step.AwaitMark hand = λ some_page. more u.start (hand some_page)
  still _ hand = tt

  -- a load of FAILED
  pub closes_checked : (n : ℕ) → UserClosed log later (checked_of user_program u n)
  closes_checked n = either (eqb n 0) (record u { checks = false }) (record u { checks = false; code = n; step = user_step.Failed })
      (keep (record u { checks = false }) refl refl (still u.step before.in_hand)) (keep (record u { checks = false; code = n; step = user_step.Failed }) refl refl tt)
