-- A run with the log alone never spends the greatest number of turns that may be asked for.
use Rattle.std.proofs.Math.Nat.{mul-le-mul_right}
use Rattle.std.proofs.Common.{List, [], arith, length, suc, ℕ, ◌*◌, ◌+◌, ◌<◌, ◌∷◌, ◌≤◌}
use native.Mathlib.Decide.{dec_le}
use Rattle.model_base.specs.declared.limits.TheConstants.{BLOCK_SIZE, MAX_LOG_BLOCKS}
use Rattle.model_core.proofs.Lsns.{lsn_wide}
use Rattle.model_core.specs.{Actor, Core, Line, line_at, DataSide, LogSide, Setup}
use Rattle.model_logcore.proofs.NewUsers.{new_user_is}
use Rattle.model_logcore.specs.{StartActor, sum_over_actors, lengths}
use Rattle.model_logcore.specs.LogLaws.{LogLaws}
use Rattle.model_pagecore.specs.DataLaws.{DataLaws}
use Rattle.model_running.specs.PlainStore.{plain_store}
use Rattle.model_running.specs.Schedule.{IsSpent}
use Rattle.model_script.specs.declared.misfit.TheConstants.{MAX_USERS}
use Rattle.model_script.specs.declared.words.TheConstants.{MAX_TURNS}
use Rattle.model_ends.proofs.Sizes.{sum_less}
use Rattle.model_ends.proofs.Starts.{never_spent}
use Rattle.model_ends.specs.Alone.{CanReach, StartsAlone}
use Rattle.model_ends.specs.Bound.{bytes_of, lines_of, most_turns}
use Rattle.model_core.specs.States as actor

-- lines of which each has a byte are no more than their bytes
no_more_lines : (lines : List Line) → ((j : ℕ) → j < length lines → 0 < length (line_at lines j).bytes) → length lines ≤ lengths lines
no_more_lines [] some = omega arith
no_more_lines (x ∷ xs) some = let here = some 0 (omega arith) in let more = no_more_lines xs (λ j there. some (suc j) (omega arith)) in omega arith

of_actor : (c : Setup) (seat_of : ℕ → ℕ) (writer seat : ℕ) (a : Actor) → StartActor c seat_of writer seat a → lines_of a ≤ bytes_of a
of_actor c seat_of writer seat (actor.User u) h = no_more_lines u.lines (λ j there. ((new_user_is c u h.1).sound j there).0)
of_actor c seat_of writer seat (actor.Writer s) h = omega arith
of_actor c seat_of writer seat (actor.Flusher t) h = omega arith
of_actor c seat_of writer seat (actor.Closer t) h = omega arith
of_actor c seat_of writer seat (actor.Cleaner t) h = omega arith
of_actor c seat_of writer seat (actor.Checkpointer t) h = omega arith
of_actor c seat_of writer seat (actor.Reader t) h = omega arith

-- so few turns end the run of a script that fits the longest log
few_turns : (actors : List Actor) → length actors ≤ MAX_USERS + 3 → sum_over_actors lines_of actors ≤ sum_over_actors bytes_of actors
    → sum_over_actors bytes_of actors ≤ BLOCK_SIZE * MAX_LOG_BLOCKS → 2 * most_turns actors < MAX_TURNS
few_turns actors seats lines bytes =
    let one : ℕ = 12 * sum_over_actors lines_of actors + 28 * sum_over_actors bytes_of actors + 66_000 in
    let low : one ≤ 40 * (BLOCK_SIZE * MAX_LOG_BLOCKS) + 66_000 = omega arith in
    let all : one * (21 * length actors) ≤ (40 * (BLOCK_SIZE * MAX_LOG_BLOCKS) + 66_000) * (21 * length actors) = mul-le-mul_right (21 * length actors) low in
    omega arith

module _ (D : LogSide) (E : DataSide) (L : LogLaws D) (EL : DataLaws E) (c : Setup) (first : Core D E) (S : StartsAlone D E c first)
    (blocks : c.blocks ≤ MAX_LOG_BLOCKS) (seats : length first.actors ≤ MAX_USERS + 3) where
  few_bytes : sum_over_actors bytes_of first.actors ≤ BLOCK_SIZE * MAX_LOG_BLOCKS
  few_bytes = let wide = lsn_wide c.base (sum_over_actors bytes_of first.actors) in let room = S.room in omega arith

  -- the run's twice as many turns are fewer than the greatest number
  pub below_greatest : 2 * most_turns first.actors < MAX_TURNS
  below_greatest = few_turns first.actors seats
      (sum_less lines_of bytes_of first.actors (λ seat a at. of_actor c S.seat_of S.writer seat a (S.store.each seat a at))) few_bytes

  -- SO TURNS THAT ARE SPENT ARE FEWER than the greatest number that may be asked for.
  pub spent_are_fewer : (any seed max user : ℕ) (reached last : Core D E) → CanReach D E any first reached → IsSpent (plain_store D E) seed max user reached last → max < MAX_TURNS
  spent_are_fewer any seed max user reached last reach spent = elim (dec_le MAX_TURNS max) [
    | yes most ↦ absurd (let below = below_greatest in never_spent D E L EL c first S any seed max user reached last reach (omega arith) spent)
    | no few ↦ omega arith
  ]
