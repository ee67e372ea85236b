-- A user's advance of WTAIL keeps the invariant.
use Rattle.std.proofs.Common.{Bool, List, arith, cond, eqb, eqb-true, false, ltb, refl, set, true, ℕ, ◌%◌, ◌+◌, ◌∙◌, ◌≡◌, ◌≤◌}
use Rattle.std.proofs.lemmas.Bool.{eqb-false}
use Rattle.std.specs.Prelude.{slice_index, slice_set}
use lib.ListN.{get_elem?}
use mathlib.Core.Option.{some}
use Rattle.model_core.proofs.Tails.{held_in, tail_in}
use Rattle.model_core.specs.{Actor, Advance, Entry, is_held, SharedWords, tail_of, tail_word, user_took, UserState, LogSide, Setup}
use Rattle.model_core.specs.declared.steps.AdvanceStep.{AdvanceStep}
use Rattle.model_core.specs.declared.steps.UserStep.{UserStep}
use Rattle.model_core.specs.declared.limits.TheConstants.{ADVANCE_PLACES, WRITTEN_LINKS}
use Rattle.model_logcore.proofs.AdvanceSteps.{clears_link, frees_tail, holds_it, is_free, Moves, stays, takes_tail}
use Rattle.model_logcore.proofs.Frame.{Kept}
use Rattle.model_logcore.proofs.RingSteps.{refit_advance, steps}
use Rattle.model_logcore.proofs.Same.{still_same}
use Rattle.model_logcore.specs.LogFacts.{LogGhost}
use Rattle.model_logcore.specs.LogFits.{AdvanceAt, HasAllCopied, HoldsWtail, UserAt, UserFits, LogHalf}
use Rattle.model_core.specs.declared.steps.AdvanceStep.TheVariants as advance_step
use Rattle.model_core.specs.declared.steps.UserStep.TheVariants as user_step
use Rattle.model_core.specs.States as actor

module _ (D : LogSide) (c : Setup) (m : SharedWords) (g : LogGhost) (p : D.Part) (actors : List Actor) (seat : ℕ) (u : UserState) (before : LogHalf D c m g p actors) (at : get_elem? actors seat ≡ some (actor.User u)) where
  mine : UserFits D c m g p seat u
  mine = before.each seat (actor.User u) at

  -- it has loaded this tail last, and is at this step of its advance, or past it
  abbrev stood : ℕ → Advance → Bool → UserStep → UserState
  stood t advance checks st = record u { loaded = record u.loaded { wtail = t }; advance = advance; checks = checks; step = st }

  -- a step of it: it goes on; or it ends, and the user loads the tail, after a wait where that hasn't moved
  module _ (wtail : ℕ) (wheld : Bool) (wlinks : List ℕ) (gwtail tail advancer : ℕ) where
    abbrev words : SharedWords
    words = record m { wtail = wtail; wheld = wheld; wlinks = wlinks }

    abbrev ghosts : LogGhost
    ghosts = record g { wtail = gwtail; tail = tail; advancer = advancer }

    moved_to : Moves D c m g p seat words ghosts → (t : ℕ) → t ≤ m.wtail → (advance : Advance) (checks : Bool) (st : UserStep) → UserAt D c words ghosts p seat (stood t advance checks st) st
        → Kept D c words ghosts p (set actors seat (actor.User (stood t advance checks st)))
    moved_to M t low advance checks st h = steps D c m g p actors seat u before at words ghosts (stood t advance checks st) M.sized M.facts
        (refit_advance D c m g p actors seat u before at words ghosts (record u.loaded { wtail = t }) advance checks st refl refl refl (record { ckpt_below = mine.loaded.ckpt_below; write_below = mine.loaded.write_below; wtail_below = (let y = M.later.wtail in omega arith); flushed_below = mine.loaded.flushed_below }) h)
        M.later (still_same D c m g p (omega arith) (λ z. z) refl)
        refl refl refl refl refl refl refl (omega arith)

    goes_on : Moves D c m g p seat words ghosts → (t : ℕ) → t ≤ m.wtail → (advance : Advance) (put over : Bool) (x : AdvanceStep) → HasAllCopied D c m g p seat u → (put ≡ false → over ≡ false → AdvanceAt D c words ghosts p seat advance x)
        → Kept D c words ghosts p (set actors seat (actor.User (stood t advance put (cond put user_step.LoadWtail (cond over user_step.ReloadWtail (user_step.AdvanceWritten x))))))
    goes_on M t low advance true over x h on = moved_to M t low advance true user_step.LoadWtail h
    goes_on M t low advance false true x h on = moved_to M t low advance false user_step.ReloadWtail h
    goes_on M t low advance false false x h on = moved_to M t low advance false (user_step.AdvanceWritten x) (h, on refl refl)

  abbrev Advanced : SharedWords → UserState → Type 0
  Advanced m' w = (h : LogGhost) × Kept D c m' h p (set actors seat (actor.User w)) × (◌≡◌ {A = List Entry} (h.log) (g.log))

  -- the words stay
  quiet : (t : ℕ) → t ≤ m.wtail → (advance : Advance) (put over : Bool) (x : AdvanceStep) → HasAllCopied D c m g p seat u → (put ≡ false → over ≡ false → AdvanceAt D c m g p seat advance x)
      → Advanced m (stood t advance put (cond put user_step.LoadWtail (cond over user_step.ReloadWtail (user_step.AdvanceWritten x))))
  quiet t low advance put over x h on = (g, goes_on m.wtail m.wheld m.wlinks g.wtail g.tail g.advancer (stays D c m g p actors before seat) t low advance put over x h on, refl)

  pub keeps_load_tail : HasAllCopied D c m g p seat u → Advanced m (user_took u (tail_word m.wtail m.wheld) (user_step.AdvanceWritten advance_step.LoadTail))
  keeps_load_tail h = quiet (tail_of (tail_word m.wtail m.wheld)) (let z = tail_in m.wtail m.wheld in omega arith) (record u.advance { tail = tail_of (tail_word m.wtail m.wheld) }) (is_held (tail_word m.wtail m.wheld)) false advance_step.TakeTail h (λ _ _. tt)

  -- it takes the tail, or finds another word
  pub keeps_take_tail : HasAllCopied D c m g p seat u
      → Advanced (cond (eqb (tail_word m.wtail m.wheld) (tail_word u.advance.tail false)) (record m { wtail = tail_of (tail_word u.advance.tail true); wheld = is_held (tail_word u.advance.tail true) }) m) (user_took u (tail_word m.wtail m.wheld) (user_step.AdvanceWritten advance_step.TakeTail))
  keeps_take_tail h = by (eqb (tail_word m.wtail m.wheld) (tail_word u.advance.tail false)) refl
    where
      by : (b : Bool) → eqb (tail_word m.wtail m.wheld) (tail_word u.advance.tail false) ≡ b
          → Advanced (cond b (record m { wtail = tail_of (tail_word u.advance.tail true); wheld = is_held (tail_word u.advance.tail true) }) m)
          (stood u.loaded.wtail (record u.advance { place = u.advance.tail }) (cond b false true) (cond (cond b false true) user_step.LoadWtail (user_step.AdvanceWritten advance_step.LoadLink)))
      by true e =
          let k = is_free m u.advance.tail (eqb-true (tail_word m.wtail m.wheld) (tail_word u.advance.tail false) e) in
          let t : ℕ = tail_of (tail_word u.advance.tail true) in
          let held : Bool = is_held (tail_word u.advance.tail true) in
          let t_is : t ≡ m.wtail = tail_in u.advance.tail true ∙ k.1 in
          let held_is : held ≡ true = held_in u.advance.tail true in (
            record g { advancer = seat },
            goes_on t held m.wlinks g.wtail g.tail seat (takes_tail D c m g p actors before seat u.advance t held t_is held_is k.0) u.loaded.wtail mine.loaded.wtail_below (record u.advance { place = u.advance.tail }) false false advance_step.LoadLink h
                (λ _ _. holds_it D c m g p actors before seat u.advance t held t_is held_is k.0 k.1),
            refl,
          )
      by false e = quiet u.loaded.wtail mine.loaded.wtail_below (record u.advance { place = u.advance.tail }) true false advance_step.LoadLink h (λ z. absurd (cc))

  pub keeps_load_link : HasAllCopied D c m g p seat u → HoldsWtail D c m g p seat u.advance → Advanced m (user_took u (slice_index m.wlinks (u.advance.place % WRITTEN_LINKS)) (user_step.AdvanceWritten advance_step.LoadLink))
  keeps_load_link h holds =
      by (slice_index m.wlinks (u.advance.place % WRITTEN_LINKS)) refl (eqb (slice_index m.wlinks (u.advance.place % WRITTEN_LINKS)) 0) refl
    where
      by : (n : ℕ) → slice_index m.wlinks (u.advance.place % WRITTEN_LINKS) ≡ n → (b : Bool) → eqb n 0 ≡ b → Advanced m (stood u.loaded.wtail (record u.advance { link = n }) false (user_step.AdvanceWritten (cond b advance_step.FreeTail advance_step.ClearLink)))
      by n v true e = quiet u.loaded.wtail mine.loaded.wtail_below (record u.advance { link = n }) false false advance_step.FreeTail h (λ _ _. holds)
      by n v false e = quiet u.loaded.wtail mine.loaded.wtail_below (record u.advance { link = n }) false false advance_step.ClearLink h (λ _ _. (holds, (let k = eqb-false n 0 e in omega arith), v))

  pub keeps_clear_link : HasAllCopied D c m g p seat u → AdvanceAt D c m g p seat u.advance advance_step.ClearLink
      → Advanced (record m { wlinks = slice_set m.wlinks (u.advance.place % WRITTEN_LINKS) 0 }) (user_took u (slice_index m.wlinks (u.advance.place % WRITTEN_LINKS)) (user_step.AdvanceWritten advance_step.ClearLink))
  keeps_clear_link h holds = by (ltb (u.advance.place + u.advance.link) (u.advance.tail + ADVANCE_PLACES))
    where
      by : (b : Bool) → Advanced (record m { wlinks = slice_set m.wlinks (u.advance.place % WRITTEN_LINKS) 0 }) (stood u.loaded.wtail (record u.advance { place = u.advance.place + u.advance.link; link = 0 }) false (user_step.AdvanceWritten (cond b advance_step.LoadLink advance_step.FreeTail)))
      by b = let k = clears_link D c m g p actors before seat u.advance (u.advance.place % WRITTEN_LINKS) refl holds.0 holds.1 holds.2 in
          (record g { tail = k.0 }, goes_on m.wtail m.wheld (slice_set m.wlinks (u.advance.place % WRITTEN_LINKS) 0) g.wtail k.0 g.advancer k.1 u.loaded.wtail mine.loaded.wtail_below (record u.advance { place = u.advance.place + u.advance.link; link = 0 }) false false (cond b advance_step.LoadLink advance_step.FreeTail) h (λ _ _. next b k.0 k.2), refl)
        where
          next : (b : Bool) (to : ℕ) → HoldsWtail D c (record m { wlinks = slice_set m.wlinks (u.advance.place % WRITTEN_LINKS) 0 }) (record g { tail = to }) p seat (record u.advance { place = u.advance.place + u.advance.link; link = 0 })
              → AdvanceAt D c (record m { wlinks = slice_set m.wlinks (u.advance.place % WRITTEN_LINKS) 0 }) (record g { tail = to }) p seat (record u.advance { place = u.advance.place + u.advance.link; link = 0 }) (cond b advance_step.LoadLink advance_step.FreeTail)
          next true to k = k
          next false to k = k

  -- it frees the tail
  pub keeps_free_tail : HasAllCopied D c m g p seat u → HoldsWtail D c m g p seat u.advance
      → Advanced (record m { wtail = tail_of (tail_word u.advance.place false); wheld = is_held (tail_word u.advance.place false) }) (user_took u (tail_word m.wtail m.wheld) (user_step.AdvanceWritten advance_step.FreeTail))
  keeps_free_tail h holds =
      let t : ℕ = tail_of (tail_word u.advance.place false) in
      let held : Bool = is_held (tail_word u.advance.place false) in
      let O = before.global.order in let r1 = O.target_wtail in let r2 = O.wtail_tail in
      let M = frees_tail D c m g p actors before seat u.advance t held g.target (tail_in u.advance.place false) (held_in u.advance.place false) holds (omega arith) (omega arith) O.target_bound in
      (record g { wtail = g.tail }, goes_on t held m.wlinks g.tail g.tail g.advancer M u.loaded.wtail mine.loaded.wtail_below u.advance (eqb u.advance.place u.advance.tail) true advance_step.LoadTail h (λ _ z. absurd (cc)), refl)
