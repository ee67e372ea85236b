-- Who helps: an actor whose try goes on, or that takes WTAIL where a link stands, or frees it; and who has a group.
use Rattle.std.proofs.Common.{Bool, List, [], arith, cond, false, inl, length, refl, suc, sym, true, ℕ, ⊎_elim, ◌+◌, ◌<◌, ◌∙◌, ◌∷◌, ◌≡◌, ◌≤◌, ◌⊎◌}
use lib.ListN.{get_elem?}
use mathlib.Core.Option.{some}
use native.Mathlib.Decide.{dec_le, ℕ_discrete}
use Rattle.model_core.specs.{Actor, Advance, entries, entries_from, Entry, entry, IsBound, Line, line_at, SharedWords, sum_of, Tiles}
use Rattle.model_core.specs.declared.steps.AdvanceStep.{AdvanceStep}
use Rattle.model_core.specs.declared.steps.UserStep.{UserStep}
use Rattle.model_core.specs.declared.steps.WriterStep.{WriterStep}
use Rattle.model_logcore.proofs.UserGroups.{none_of}
use Rattle.model_logcore.specs.{count_of, sum_over_actors}
use Rattle.model_ends.proofs.Outcome.{AdvanceCan, Can, IsAtFree, IsOpen, leaves, Takes, takes_in, takes_tries, tries, user_tries, writer_tries}
use Rattle.model_core.specs.States as actor
use Rattle.model_core.specs.declared.steps.AdvanceStep.TheVariants as advance_step
use Rattle.model_core.specs.declared.steps.UserStep.TheVariants as user_step
use Rattle.model_core.specs.declared.steps.WriterStep.TheVariants as writer_step

-- How an actor helps, and how far it is from that, as a weight. While FAILED is 0 its try goes on, or it takes WTAIL, or it
-- frees that; else it is a user that will check FAILED.
abbrev pub Help : SharedWords → Actor → ℕ → Type 0
Help m a weight = ((m.failed ≡ 0) × ((Can m a × (tries a ≤ weight)) ⊎ ((Takes m a × (10 + takes_in a ≤ weight)) ⊎ (IsAtFree a × (20 ≤ weight)))))
    ⊎ ((0 < m.failed) × IsOpen a × (leaves a ≤ weight))

pub record Helper (m : SharedWords) (actors : List Actor) : Type 0 where
  pub seat : ℕ
  pub who : Actor
  pub at : get_elem? actors seat ≡ some who
  pub weight : ℕ
  pub help : Help m who weight
  pub light : weight ≤ 20

-- and where WTAIL is free nobody helps by freeing it
pub record Found (m : SharedWords) (actors : List Actor) : Type 0 where
  pub helper : Helper m actors
  pub by_free : m.wheld ≡ false → helper.weight ≤ 14

pub tries_few : (a : Actor) → tries a ≤ 7
tries_few (actor.User u) = by u.step u.checks
  where
    by : (f : UserStep) (b : Bool) → user_tries f + cond b 1 0 ≤ 7
    by (user_step.AdvanceWritten advance_step.LoadTail) true = omega arith
    by _ true = omega arith
    by (user_step.AdvanceWritten advance_step.LoadTail) false = omega arith
    by _ false = omega arith
tries_few (actor.Writer s) = by s.step s.checks
  where
    by : (f : WriterStep) (b : Bool) → writer_tries f + cond b 1 0 ≤ 7
    by (writer_step.Advance advance_step.LoadTail) true = omega arith
    by _ true = omega arith
    by (writer_step.Advance advance_step.LoadTail) false = omega arith
    by _ false = omega arith
tries_few (actor.Flusher t) = by t.checks
  where
    by : (b : Bool) → 1 + cond b 1 0 ≤ 7
    by true = omega arith
    by false = omega arith
tries_few _ = omega arith

pub takes_low : (a : Actor) → takes_in a ≤ 4
takes_low (actor.Writer s) = by s.step s.checks
  where
    by : (f : WriterStep) (b : Bool) → takes_tries f + cond b 1 0 ≤ 4
    by (writer_step.Advance advance_step.LoadTail) true = omega arith
    by _ true = omega arith
    by (writer_step.Advance advance_step.LoadTail) false = omega arith
    by _ false = omega arith
takes_low _ = omega arith

-- one of the actors has what all have together
pub seat_from : (h : Entry → ℕ) (actors : List Actor) → 0 < sum_over_actors (λ a. sum_of h (entries a)) actors → (seat : ℕ) × (a : Actor) × (get_elem? actors seat ≡ some a) × (0 < sum_of h (entries a))
seat_from h [] more = absurd (omega arith)
seat_from h (x ∷ xs) more = elim (dec_le 1 (sum_of h (entries x))) [
  | yes d ↦ (0, x, refl, omega arith)
  | no n ↦ (let r = seat_from h xs (omega arith) in (suc r.0, r.1, r.2, r.3))
]

pub own_user : (user v : ℕ) (lines : List Line) (k : ℕ) (starts : List ℕ) → 0 < count_of v (entries_from user lines k starts) → user ≡ v
own_user user v lines k [] more = absurd (omega arith)
own_user user v lines k (s ∷ ss) more = elim (ℕ_discrete user v) [
  | yes e ↦ e
  | no n ↦ own_user user v lines (k + 1) ss (let z = none_of v (entry user k s (line_at lines k)) n in omega arith)
]

-- a group starts at each boundary below the end
pub group_at : (log : List Entry) (s n x : ℕ) → Tiles s log n → IsBound s log x → x < n → (i : ℕ) × (e : Entry) × (get_elem? log i ≡ some e) × (e.start ≡ x)
group_at [] s n x t bound less = absurd (omega arith)
group_at (e ∷ es) s n x t bound less = ⊎_elim
    (λ here. (0, e, refl, t.0 ∙ sym here))
    (λ more. let r = group_at es (s + length e.bytes) n x t.3 more less in (suc r.0, r.1, r.2, r.3))
    bound

pub up_can : (m : SharedWords) (Up : Type 0) (v : Advance) (f : AdvanceStep) → Up → AdvanceCan m Up v f
up_can m Up v advance_step.LoadTail up = up
up_can m Up v advance_step.TakeTail up = up
up_can m Up v advance_step.LoadLink up = inl up
up_can m Up v advance_step.ClearLink up = tt
up_can m Up v advance_step.FreeTail up = inl up
