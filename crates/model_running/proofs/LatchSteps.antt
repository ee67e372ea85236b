-- After a step an actor holds the latches that it held, but for the one that it frees.
use Rattle.std.proofs.Common.{Bool, List, [], arith, cond, drop, eqb, eqb-true, false, inl, inr, leb, length, ltb, refl, subst, suc, sym, true, zero, ℕ, ⊎_elim, ◌++◌, ◌+◌, ◌-◌, ◌/◌, ◌<◌, ◌∙◌, ◌∷◌, ◌≡◌, ◌≢◌, ◌⊎◌}
use lib.ListN.{get_elem?}
use mathlib.Core.Option.{some, some-injective, some-ne-none}
use native.Mathlib.Decide.{ℕ_discrete}
use Rattle.model_core.proofs.Lists.{at_last, at_longer}
unfoldable use Rattle.model_core.specs.{lanes}
use Rattle.model_core.specs.{advance_next, after_link, BatchPage, can_close, can_link, cells_of, change_at, changes, checked_of, cleaner_program, cleaner_took, CleanerState, current_page, end_round, first_of_batch, frame_count, frees, group_bytes, group_end, has_room, has_taken, is_whole, next_count, next_in_round, old_of, page_loaded, stays_put, tail_of, to_next_page, user_program, user_took, UserState, with_close_room, with_link_room, without_close_room, without_link_room, word_step}
use Rattle.model_core.specs.declared.ops.Answer.{Answer}
use Rattle.model_core.specs.declared.steps.CleanerStep.{CleanerStep}
use Rattle.model_core.specs.declared.steps.UserStep.{UserStep}
use Rattle.model_log.specs.declared.layout.TheConstants.{BLOCK_DATA}
use Rattle.model_pagecore.specs.{CleanerHasLatch, HasLatch, IsAmong, IsInBatch, UserHasLatch}
use Rattle.model_core.specs.declared.steps.AdvanceStep.TheVariants as advance_step
use Rattle.model_core.specs.States as actor
use Rattle.model_core.specs.declared.ops.Answer.TheVariants as answer
use Rattle.model_core.specs.declared.steps.CleanerStep.TheVariants as cleaner_step
use Rattle.model_core.specs.declared.steps.UserStep.TheVariants as user_step

module _ (u : UserState) (p : ℕ) where
  abbrev pub UserHas : UserState → Type 0
  UserHas x = HasLatch (actor.User x) p

  user_either : (b : Bool) (x y : UserState) → UserHas x → UserHas y → UserHas (cond b x y)
  user_either true x y a b = a
  user_either false x y a b = b

  -- what is held with one step of two
  abbrev At : UserState → UserStep → Type 0
  At x f = (f ≡ user_step.Failed) ⊎ UserHasLatch x f p

  pick : (x : UserState) (b : Bool) (f g : UserStep) → At x f → At x g → At x (cond b f g)
  pick x true f g a b = a
  pick x false f g a b = b

  -- a page of its group
  abbrev IsOwn : Type 0
  IsOwn = IsAmong (changes u) 0 (length (changes u)) p

  turns : IsOwn → UserHas (to_next_page u)
  turns own = pick (to_next_page u) (eqb (u.page + 1) (length (changes u))) user_step.StoreClosedLink (cond (eqb 0 (length (change_at (changes u) (u.page + 1)).cells)) user_step.StoreNewest (word_step (change_at (changes u) (u.page + 1)).cells 0)) (inr own)
      (pick (to_next_page u) (eqb 0 (length (change_at (changes u) (u.page + 1)).cells)) user_step.StoreNewest (word_step (change_at (changes u) (u.page + 1)).cells 0) (inr own) (pick (to_next_page u) (is_whole (change_at (changes u) (u.page + 1)).cells 0) user_step.StoreFrame user_step.LoadFrame (inr own) (inr own)))

  -- it takes the latch of its page: it holds that one, and those that it held
  pub latch_taken : (b : Bool) → eqb (u.page + 1) (length (changes u)) ≡ b → IsAmong (changes u) 0 (u.page + 1) p → UserHas (record u { page = u.page + 1; step = cond b user_step.Reserve user_step.TakeLatch })
  latch_taken true all held = let z = eqb-true (u.page + 1) (length (changes u)) all in inr (held.0, held.1, (let l = held.2 in omega arith), held.3)
  latch_taken false more held = inr held

  -- with its group linked; a group without pages holds none
  linked : (b : Bool) → eqb (length (changes u)) 0 ≡ b → IsOwn → UserHas (cond b (after_link u) (record u { step = user_step.LoadCtail }))
  linked true none own = let z = eqb-true (length (changes u)) 0 none in let l = own.2 in absurd (omega arith)
  linked false some_pages own = inr own

  -- it frees the latch of its page, which isn't this one's
  freed : (b : Bool) → eqb (u.page + 1) (length (changes u)) ≡ b → current_page u ≢ p → IsAmong (changes u) u.page (length (changes u)) p → UserHas (cond b (after_link u) (record u { page = u.page + 1; step = user_step.ReleaseLatch }))
  freed b last other held = elim (ℕ_discrete held.0 u.page) [
    | yes here ↦ absurd (other (subst (λ (k : ℕ). (change_at (changes u) k).page ≡ p) here held.3))
    | no more ↦ by b last held more
  ]
    where
      by : (b : Bool) → eqb (u.page + 1) (length (changes u)) ≡ b → (held : IsAmong (changes u) u.page (length (changes u)) p) → held.0 ≢ u.page → UserHas (cond b (after_link u) (record u { page = u.page + 1; step = user_step.ReleaseLatch }))
      by true last held more = let z = eqb-true (u.page + 1) (length (changes u)) last in let a = held.1 in let l = held.2 in absurd (more (omega arith))
      by false last held more = inr (held.0, (let a = held.1 in omega arith), held.2, held.3)

  -- its next step after one of an advance
  advanced : (x : UserState) (w f : Bool) (first again on : UserStep) → At x first → At x again → At x on → At x (cond w first (cond f again on))
  advanced x w f first again on a b c = pick x w first (cond f again on) a (pick x f again on b c)

  -- it has found room in the recent-closed buffer, and begins with the cells of its page
  begins : (n : ℕ) → IsOwn → UserHas (with_close_room u n)
  begins n own = let x : UserState = with_close_room u n in
      pick x (eqb u.cell (length (cells_of u))) user_step.StoreNewest (word_step (cells_of u) u.cell) (inr own) (pick x (is_whole (cells_of u) u.cell) user_step.StoreFrame user_step.LoadFrame (inr own) (inr own))

  pub user_goes : (n : ℕ) (f : UserStep) → (f ≡ user_step.ReleaseLatch → current_page u ≢ p) → UserHasLatch u f p → UserHas (user_took u n f)
  user_goes n user_step.LoadCheckpoint other held = absurd held
  user_goes n user_step.LoadSn other held = absurd held
  user_goes n user_step.TakeLatch other held = user_either (eqb n 0) (record u { page = u.page + 1; step = cond (eqb (u.page + 1) (length (changes u))) user_step.Reserve user_step.TakeLatch }) (record u { checks = true; step = user_step.TakeLatch })
      (latch_taken (eqb (u.page + 1) (length (changes u))) refl (held.0, held.1, (let l = held.2 in omega arith), held.3)) (inr held)
  user_goes n user_step.Reserve other held = inr held
  user_goes n user_step.LoadWrite other held = user_either (has_room u n) (record u { loaded = record u.loaded { write = n }; step = user_step.AddCell }) (record u { loaded = record u.loaded { write = n }; checks = true; step = user_step.LoadWrite }) (inr held) (inr held)
  user_goes n user_step.AddCell other held =
      let x : UserState = user_took u n user_step.AddCell in
      pick x (eqb (u.copied + next_count u) (length (group_bytes u))) (cond (ltb (u.start / BLOCK_DATA) (group_end u / BLOCK_DATA)) user_step.StoreFirst user_step.LoadWtail) user_step.AddCell (pick x (ltb (u.start / BLOCK_DATA) (group_end u / BLOCK_DATA)) user_step.StoreFirst user_step.LoadWtail (inr held) (inr held)) (inr held)
  user_goes n user_step.StoreFirst other held = inr held
  user_goes n user_step.LoadWtail other held = user_either (can_link u (tail_of n)) (with_link_room u n) (without_link_room u n false (user_step.AdvanceWritten advance_step.LoadTail)) (inr held) (inr held)
  user_goes n (user_step.AdvanceWritten s) other held = advanced (user_took u n (user_step.AdvanceWritten s)) (stays_put u.advance n s) (frees s) user_step.LoadWtail user_step.ReloadWtail (user_step.AdvanceWritten (advance_next u.advance n s)) (inr held) (inr held) (inr held)
  user_goes n user_step.ReloadWtail other held = user_either (can_link u (tail_of n)) (with_link_room u n) (without_link_room u n true user_step.LoadWtail) (inr held) (inr held)
  user_goes n user_step.StoreLink other held = linked (eqb (length (changes u)) 0) refl held
  user_goes n user_step.LoadCtail other held = user_either (can_close u (tail_of n)) (with_close_room u n) (without_close_room u n false (user_step.AdvanceClosed advance_step.LoadTail)) (begins n held) (inr held)
  user_goes n (user_step.AdvanceClosed s) other held = advanced (user_took u n (user_step.AdvanceClosed s)) (stays_put u.advance n s) (frees s) user_step.LoadCtail user_step.ReloadCtail (user_step.AdvanceClosed (advance_next u.advance n s)) (inr held) (inr held) (inr held)
  user_goes n user_step.ReloadCtail other held = user_either (can_close u (tail_of n)) (with_close_room u n) (without_close_room u n true user_step.LoadCtail) (begins n held) (inr held)
  user_goes n user_step.LoadFrame other held = inr held
  user_goes n user_step.StoreFrame other held = pick (user_took u n user_step.StoreFrame) (eqb (u.cell + frame_count u) (length (cells_of u))) user_step.StoreNewest (word_step (cells_of u) (u.cell + frame_count u)) (inr held) (pick (user_took u n user_step.StoreFrame) (is_whole (cells_of u) (u.cell + frame_count u)) user_step.StoreFrame user_step.LoadFrame (inr held) (inr held))
  user_goes n user_step.StoreNewest other held = inr held
  user_goes n user_step.LoadOldest other held = user_either (eqb n 0) (record u { step = user_step.AddToList }) (to_next_page u) (inr held) (turns held)
  user_goes n user_step.AddToList other held = pick (user_took u n user_step.AddToList) (eqb n 0) user_step.StoreOldest user_step.AddToList (inr held) (inr held)
  user_goes n user_step.StoreOldest other held = inr held
  user_goes n user_step.GiveList other held = turns held
  user_goes n user_step.StoreClosedLink other held = inr held
  user_goes n user_step.ReleaseLatch other held = freed (eqb (u.page + 1) (length (changes u))) refl (other refl) held
  user_goes n user_step.AwaitMark other held = absurd held
  user_goes n user_step.Done other held = absurd held
  user_goes n user_step.Failed other held = absurd held

  -- a load of FAILED
  pub user_hears : (n : ℕ) → UserHas u → UserHas (checked_of user_program u n)
  user_hears n held = user_either (eqb n 0) (record u { checks = false }) (record u { checks = false; code = n; step = user_step.Failed }) held (inl refl)

front : (batch : List BatchPage) (x : BatchPage) → get_elem? batch 0 ≡ some x → (v : CleanerState) → ◌≡◌ {A = List BatchPage} v.batch batch → first_of_batch v ≡ x.page
front [] x at v is = absurd (some-ne-none x (sym at))
front (y ∷ ys) x at v is = cc (some-injective y x at)

behind : (batch : List BatchPage) (i : ℕ) (x : BatchPage) → get_elem? batch (suc i) ≡ some x → (get_elem? (drop 1 batch) i ≡ some x) × (1 < length batch)
behind [] i x at = absurd (some-ne-none x (sym at))
behind (y ∷ []) i x at = absurd (some-ne-none x (sym at))
behind (y ∷ (z ∷ zs)) i x at = (at, omega arith)

module _ (v : CleanerState) (p : ℕ) where
  abbrev pub CleanerHas : CleanerState → Type 0
  CleanerHas x = HasLatch (actor.Cleaner x) p

  cleaner_either : (b : Bool) (x y : CleanerState) → CleanerHas x → CleanerHas y → CleanerHas (cond b x y)
  cleaner_either true x y a b = a
  cleaner_either false x y a b = b

  some_batch : (batch : List BatchPage) → IsInBatch batch p → 0 < length batch
  some_batch [] held = absurd (some-ne-none held.1 (sym held.2))
  some_batch (y ∷ ys) held = omega arith

  ends : (x : CleanerState) → IsInBatch x.batch p → CleanerHas (end_round x)
  ends x held = by (eqb (length x.batch) 0) refl
    where
      by : (b : Bool) → eqb (length x.batch) 0 ≡ b → CleanerHas (cond b (record x { checks = true; step = cleaner_step.LoadFlushed }) (record x { step = cleaner_step.WriteBatch }))
      by true none = let z = eqb-true (length x.batch) 0 none in let some_pages = some_batch x.batch held in absurd (omega arith)
      by false some_pages = inr held

  -- it goes on to the next page, with its batch
  goes_on : (x : CleanerState) → IsInBatch x.batch p → CleanerHas (next_in_round x)
  goes_on x held =
      let page : ℕ = cond (eqb (x.page + 1) x.pages) 0 (x.page + 1) in
      cleaner_either (cond (eqb x.left 1) true (eqb (length x.batch) x.slots)) (end_round (record x { page = page; left = x.left - 1; kept = [] })) (record x { page = page; left = x.left - 1; kept = []; step = cleaner_step.LoadOldest })
      (ends (record x { page = page; left = x.left - 1; kept = [] }) held) (inr held)

  -- its page enters the batch
  enters : (t : BatchPage) → t.page ≡ v.page → (v.page ≡ p) ⊎ IsInBatch v.batch p → IsInBatch (v.batch ++ t ∷ []) p
  enters t own held = ⊎_elim (λ here. (length v.batch, t, at_last v.batch t (length v.batch) refl, own ∙ here)) (λ z. (z.0, z.1, at_longer v.batch (t ∷ []) z.0 z.1 z.2, z.3)) held

  called : (r : Answer) → IsInBatch v.batch p → CleanerHas (cleaner_took v r cleaner_step.WriteBatch)
  called (answer.Failed n) held = inr held
  called _ held = inr held

  -- the first page leaves the batch
  leaves : IsInBatch v.batch p → first_of_batch v ≢ p → (b : Bool) → eqb (length v.batch) 1 ≡ b → CleanerHas (record v { batch = drop 1 v.batch; step = cond b cleaner_step.LoadFlushed cleaner_step.RemoveFromList })
  leaves held other b one = by held.0 held.1 held.2 held.3 b one
    where
      by : (i : ℕ) (x : BatchPage) → get_elem? v.batch i ≡ some x → x.page ≡ p → (b : Bool) → eqb (length v.batch) 1 ≡ b → CleanerHas (record v { batch = drop 1 v.batch; step = cond b cleaner_step.LoadFlushed cleaner_step.RemoveFromList })
      by zero x at is b one = absurd (other (front v.batch x at v refl ∙ is))
      by (suc i) x at is true one = let z = eqb-true (length v.batch) 1 one in let more = (behind v.batch i x at).1 in absurd (omega arith)
      by (suc i) x at is false one = inr (i, x, (behind v.batch i x at).0, is)

  pub cleaner_goes : (r : Answer) (f : CleanerStep) → (f ≡ cleaner_step.ReleaseSkipped → v.page ≢ p) → (f ≡ cleaner_step.ReleaseLatch → first_of_batch v ≢ p) → CleanerHasLatch v f p → CleanerHas (cleaner_took v r f)
  cleaner_goes r cleaner_step.LoadFlushed skipped released held = absurd held
  cleaner_goes r cleaner_step.LoadOldest skipped released held = cleaner_either (eqb (old_of r) 0) (next_in_round v) (record v { step = cleaner_step.TakeLatch }) (goes_on v held) (inr held)
  cleaner_goes r cleaner_step.TakeLatch skipped released held = cleaner_either (eqb (old_of r) 0) (record v { step = cleaner_step.LoadNewest }) (next_in_round v) (inr (inr held)) (goes_on v held)
  cleaner_goes r cleaner_step.LoadNewest skipped released held = cleaner_either (leb (old_of r) v.flushed) (record v { newest = old_of r; kept = []; step = cleaner_step.LoadFrame }) (record v { step = cleaner_step.ReleaseSkipped }) (inr held) (inr held)
  cleaner_goes r cleaner_step.ReleaseSkipped skipped released held = ⊎_elim (λ here. absurd (skipped refl here)) (λ z. goes_on v z) held
  cleaner_goes r cleaner_step.LoadFrame skipped released held =
      let x : CleanerState = record v { batch = v.batch ++ page_loaded v (old_of r) ∷ [] } in
      cleaner_either (eqb (length v.kept + 8) v.page_size) (next_in_round x) (record v { kept = v.kept ++ lanes 0 8 (old_of r); step = cleaner_step.LoadFrame }) (goes_on x (enters (page_loaded v (old_of r)) refl held)) (inr held)
  cleaner_goes r cleaner_step.WriteBatch skipped released held = called r held
  cleaner_goes r cleaner_step.RemoveFromList skipped released held = cleaner_either (has_taken r) (record v { step = cleaner_step.ClearOldest }) (record v { checks = true; step = cleaner_step.RemoveFromList }) (inr held) (inr held)
  cleaner_goes r cleaner_step.ClearOldest skipped released held = inr held
  cleaner_goes r cleaner_step.GiveList skipped released held = inr held
  cleaner_goes r cleaner_step.ReleaseLatch skipped released held = leaves held (released refl) (eqb (length v.batch) 1) refl
  cleaner_goes r cleaner_step.StoreFailed skipped released held = inl refl
  cleaner_goes r cleaner_step.Failed skipped released held = absurd held

  -- a load of FAILED
  pub cleaner_hears : (n : ℕ) → CleanerHas v → CleanerHas (checked_of cleaner_program v n)
  cleaner_hears n held = cleaner_either (eqb n 0) (record v { checks = false }) (record v { checks = false; code = n; step = cleaner_step.Failed }) held (inl refl)
