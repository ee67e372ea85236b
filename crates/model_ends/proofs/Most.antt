-- How much is left to do at most, in whatever state the run is.
use Rattle.std.proofs.Common.{List, [], arith, drop, length, refl, suc, zero, ℕ, ⊎_elim, ◌*◌, ◌+◌, ◌-◌, ◌<◌, ◌∷◌, ◌≡◌, ◌≢◌, ◌≤◌}
use lib.ListN.{get_elem?}
use mathlib.Core.Option.{some}
use Rattle.model_core.proofs.Lsns.{lsn_le}
use Rattle.model_core.specs.{Actor, Entry, FlusherState, group_bytes, IsBound, Line, lsn, read_place, SharedWords, UserState, WriterState, LogSide, Setup}
use Rattle.model_core.specs.declared.limits.TheConstants.{WRITTEN_LINKS}
use Rattle.model_core.specs.declared.steps.UserStep.{UserStep}
use Rattle.model_logcore.specs.{FlusherFits, LogGhost, sum_over_actors, UserAt, UserFits, WriterFits, LogHalf}
use Rattle.model_ends.proofs.Cost.{cost, flusher_cost, flusher_here, lines_steps, rest, steps_of, user_cost, words_cost, writer_cost}
use Rattle.model_ends.proofs.Further.{Further}
use Rattle.model_ends.proofs.Links.{links_few}
use Rattle.model_ends.proofs.Rank.{rank, rank_most}
use Rattle.model_ends.proofs.Sizes.{sum_less}
use Rattle.model_ends.proofs.UserTurns.{steps_from}
use Rattle.model_ends.proofs.WriterTurns.{here_most}
use Rattle.model_core.specs.States as actor
use Rattle.model_core.specs.declared.steps.AdvanceStep.TheVariants as advance_step
use Rattle.model_core.specs.declared.steps.FlusherStep.TheVariants as flusher_step
use Rattle.model_core.specs.declared.steps.FlusherStep.{FlusherStep}
use Rattle.model_core.specs.declared.steps.UserStep.TheVariants as user_step

lines_drop : (lines : List Line) (k : ℕ) → lines_steps (drop k lines) ≤ lines_steps lines
lines_drop [] zero = omega arith
lines_drop [] (suc k) = omega arith
lines_drop (x ∷ xs) zero = omega arith
lines_drop (x ∷ xs) (suc k) = let z = lines_drop xs k in omega arith

bound_low : (log : List Entry) (s x : ℕ) → IsBound s log x → s ≤ x
bound_low [] s x is = omega arith
bound_low (e ∷ es) s x is = ⊎_elim (λ z. omega arith) (λ z. let y = bound_low es (s + length e.bytes) x z in omega arith) is

all_none : (f : Actor → ℕ) (actors : List Actor) → ((i : ℕ) (a : Actor) → get_elem? actors i ≡ some a → f a ≡ 0) → sum_over_actors f actors ≡ 0
all_none f [] none = refl
all_none f (x ∷ xs) none = let here = none 0 x refl in let more = all_none f xs (λ i a at. none (suc i) a at) in omega arith

-- what one seat alone has, added up
only_one : (f : Actor → ℕ) (most w : ℕ) (actors : List Actor) → ((i : ℕ) (a : Actor) → get_elem? actors i ≡ some a → i ≢ w → f a ≡ 0) → ((i : ℕ) (a : Actor) → get_elem? actors i ≡ some a → f a ≤ most) → sum_over_actors f actors ≤ most
only_one f most w [] none few = omega arith
only_one f most zero (x ∷ xs) none few = let here = few 0 x refl in let more = all_none f xs (λ i a at. none (suc i) a at (λ e. omega arith)) in omega arith
only_one f most (suc w) (x ∷ xs) none few = let here = none 0 x refl (λ e. omega arith) in let more = only_one f most w xs (λ i a at n. none (suc i) a at (λ e. n (omega arith))) (λ i a at. few (suc i) a at) in omega arith

sum_three : (f h k : Actor → ℕ) (actors : List Actor) → sum_over_actors (λ a. f a + h a + k a) actors ≡ sum_over_actors f actors + sum_over_actors h actors + sum_over_actors k actors
sum_three f h k [] = omega arith
sum_three f h k (x ∷ xs) = let z = sum_three f h k xs in omega arith

flusher_few : (f : FlusherStep) → flusher_here 0 f ≤ 5
flusher_few flusher_step.LoadWrite = omega arith
flusher_few _ = omega arith

module _ (last : ℕ) where
  abbrev writer_share : Actor → ℕ
  writer_share (actor.Writer s) = writer_cost last s s.step
  writer_share _ = 0

  abbrev flusher_share : Actor → ℕ
  flusher_share (actor.Flusher t) = flusher_cost last t t.step
  flusher_share _ = 0

module _ (D : LogSide) (c : Setup) (m : SharedWords) (g : LogGhost) (p : D.Part) (actors : List Actor) (half : LogHalf D c m g p actors) (F : Further D c m p actors) (last : ℕ) where
  in_line : (u : UserState) (n : ℕ) → u.k < length u.lines → n ≤ rest u + (12 + length (group_bytes u)) → n ≤ lines_steps u.lines
  in_line u n less le = let z = steps_from u.lines u.k less in let y = lines_drop u.lines u.k in omega arith

  user_most : (seat : ℕ) (u : UserState) (f : UserStep) → UserAt D c m g p seat u f → user_cost u f ≤ lines_steps u.lines
  user_most seat u user_step.LoadCheckpoint h = in_line u (user_cost u user_step.LoadCheckpoint) h.1 (omega arith)
  user_most seat u user_step.LoadSn h = in_line u (user_cost u user_step.LoadSn) h.1 (omega arith)
  user_most seat u user_step.Reserve h = in_line u (user_cost u user_step.Reserve) h.1 (omega arith)
  user_most seat u user_step.LoadWrite h = in_line u (user_cost u user_step.LoadWrite) h.1 (omega arith)
  user_most seat u user_step.AddCell h = in_line u (user_cost u user_step.AddCell) h.1 (omega arith)
  user_most seat u user_step.StoreFirst h = in_line u (user_cost u user_step.StoreFirst) h.1 (omega arith)
  user_most seat u user_step.LoadWtail h = in_line u (user_cost u user_step.LoadWtail) h.1 (omega arith)
  user_most seat u (user_step.AdvanceWritten advance_step.ClearLink) h = in_line u (rest u + 5) h.0.1 (omega arith)
  user_most seat u (user_step.AdvanceWritten advance_step.LoadTail) h = in_line u (rest u + 6) h.0.1 (omega arith)
  user_most seat u (user_step.AdvanceWritten advance_step.TakeTail) h = in_line u (rest u + 6) h.0.1 (omega arith)
  user_most seat u (user_step.AdvanceWritten advance_step.LoadLink) h = in_line u (rest u + 6) h.0.1 (omega arith)
  user_most seat u (user_step.AdvanceWritten advance_step.FreeTail) h = in_line u (rest u + 6) h.0.1 (omega arith)
  user_most seat u user_step.ReloadWtail h = in_line u (user_cost u user_step.ReloadWtail) h.1 (omega arith)
  user_most seat u user_step.StoreLink h = in_line u (user_cost u user_step.StoreLink) h.1 (omega arith)
  user_most seat u user_step.AwaitMark h = in_line u (user_cost u user_step.AwaitMark) h.1 (omega arith)
  user_most seat u _ h = omega arith

  abbrev span : ℕ
  span = last - lsn c.base

  base_read : c.base ≤ g.read
  base_read = let O = half.global.order in let a = O.base_write in let b = O.write_read in omega arith

  writer_most : (seat : ℕ) (s : WriterState) → WriterFits D c m g p seat s → writer_cost last s s.step ≤ 20 * span + 15
  writer_most seat s f =
      let O = half.global.order in
      let low = base_read in let rt = O.read_target in
      let a = lsn_le c.base g.target (omega arith) in
      let t = f.tail in
      let b = lsn_le c.base (read_place s) (let l = f.long in omega arith) in
      let few = here_most s s.step in
      omega arith

  flusher_most : (seat : ℕ) (t : FlusherState) → FlusherFits D c m g p seat t → flusher_cost last t t.step ≤ 5 * span + 5
  flusher_most seat t f =
      let O = half.global.order in
      let low = bound_low g.log c.base g.flushed O.flushed_bound in
      let a = lsn_le c.base g.flushed low in
      let is = O.flushed_is in
      let l = f.last in
      let few = flusher_few t.step in
      omega arith

  share : (i : ℕ) (a : Actor) → get_elem? actors i ≡ some a → cost last a ≤ steps_of a + writer_share last a + flusher_share last a
  share i (actor.User u) at = let f : UserFits D c m g p i u = half.each i (actor.User u) at in let z = user_most i u u.step f.step in omega arith
  share i (actor.Writer s) at = omega arith
  share i (actor.Flusher s) at = omega arith
  share i _ at = omega arith

  writer_alone : (i : ℕ) (a : Actor) → get_elem? actors i ≡ some a → i ≢ g.writer → writer_share last a ≡ 0
  writer_alone i (actor.Writer s) at n = let f : WriterFits D c m g p i s = half.each i (actor.Writer s) at in absurd (n f.alone)
  writer_alone i _ at n = refl

  writer_few : (i : ℕ) (a : Actor) → get_elem? actors i ≡ some a → writer_share last a ≤ 20 * span + 15
  writer_few i (actor.Writer s) at = writer_most i s (half.each i (actor.Writer s) at)
  writer_few i _ at = omega arith

  flusher_alone : (i : ℕ) (a : Actor) → get_elem? actors i ≡ some a → i ≢ g.writer + 1 → flusher_share last a ≡ 0
  flusher_alone i (actor.Flusher s) at n = let f : FlusherFits D c m g p i s = half.each i (actor.Flusher s) at in absurd (n f.alone)
  flusher_alone i _ at n = refl

  flusher_less : (i : ℕ) (a : Actor) → get_elem? actors i ≡ some a → flusher_share last a ≤ 5 * span + 5
  flusher_less i (actor.Flusher s) at = flusher_most i s (half.each i (actor.Flusher s) at)
  flusher_less i _ at = omega arith

  words_most : words_cost last m ≤ 2 * WRITTEN_LINKS + span
  words_most =
      let few = links_few m.wlinks in
      let long = half.sized.wlinks in
      let O = half.global.order in
      let low = base_read in
      let up = lsn_le c.base g.wtail (let a = O.read_target in let b = O.target_wtail in omega arith) in
      let is = O.wtail_is in
      omega arith

  pub most : rank last m actors ≤ sum_over_actors steps_of actors + 26 * (last - lsn c.base) + 2 * WRITTEN_LINKS + 21
  most =
      let r = rank_most last m actors in
      let all = sum_less (cost last) (λ a. steps_of a + writer_share last a + flusher_share last a) actors share in
      let three = sum_three steps_of (writer_share last) (flusher_share last) actors in
      let w = only_one (writer_share last) (20 * span + 15) g.writer actors writer_alone writer_few in
      let f = only_one (flusher_share last) (5 * span + 5) (g.writer + 1) actors flusher_alone flusher_less in
      let words = words_most in
      omega arith
