-- A run with the log alone starts, and so ends.
use Rattle.std.proofs.Math.Nat.{mul-le-mul_right}
use Rattle.std.proofs.Common.{List, [], arith, drop, inl, length, refl, subst, suc, sym, zero, ℕ, ◌*◌, ◌+◌, ◌-◌, ◌/◌, ◌<◌, ◌∷◌, ◌≡◌, ◌≤◌}
use Rattle.model_base.specs.declared.limits.TheConstants.{LSN_LIMIT}
use Rattle.model_core.proofs.Lsns.{lsn_below}
use Rattle.model_core.specs.{Actor, Core, FlusherState, Line, Listed, lsn, WriterState, DataSide, LogSide, Setup}
use Rattle.model_core.specs.declared.limits.TheConstants.{WRITTEN_LINKS}
use Rattle.model_logcore.proofs.NewUsers.{new_step}
use Rattle.model_logcore.proofs.StartHolds.{start}
use Rattle.model_logcore.specs.{StartActor, sum_over_actors, left_to_reserve, lengths}
use Rattle.model_logcore.specs.LogLaws.{LogLaws}
use Rattle.model_pagecore.specs.DataLaws.{DataLaws}
use Rattle.model_running.proofs.StartRunning.{both_start, start_pages}
use Rattle.model_running.specs.Watermarks.{BothHalves}
use Rattle.model_running.specs.PlainStore.{plain_store}
use Rattle.model_running.specs.Schedule.{IsSpent, TakesTurns}
use Rattle.model_ends.proofs.Cost.{lines_steps, steps_of}
use Rattle.model_ends.proofs.Further.{FlusherTold, Further, Told, UserTold, WriterTold}
use Rattle.model_ends.proofs.Runs.{can_reach, few_turns, Reached}
use Rattle.model_ends.proofs.Sizes.{sum_less}
use Rattle.model_ends.specs.Alone.{CanReach, IsLogActor, StartsAlone}
use Rattle.model_ends.specs.Bound.{bytes_of, last_lsn, lines_of, most_turns}
use Rattle.model_core.specs.States as actor

-- the steps of all lines by their number and bytes, and how far so many bytes reach in lsns
steps_are : (lines : List Line) → lines_steps lines ≡ 12 * length lines + lengths lines
steps_are [] = omega arith
steps_are (x ∷ xs) = let z = steps_are xs in omega arith

of_actor : (a : Actor) → steps_of a ≡ 12 * lines_of a + bytes_of a
of_actor (actor.User u) = steps_are u.lines
of_actor _ = omega arith

all_steps_are : (actors : List Actor) → sum_over_actors steps_of actors ≡ 12 * sum_over_actors lines_of actors + sum_over_actors bytes_of actors
all_steps_are [] = omega arith
all_steps_are (x ∷ xs) = let here = of_actor x in let more = all_steps_are xs in omega arith

lsn_far : (x n : ℕ) → 26 * (lsn (x + n) - lsn x) ≤ 27 * n + 416
unfolding lsn
lsn_far x n = omega arith

lengths_drop : (lines : List Line) (k : ℕ) → lengths (drop k lines) ≤ lengths lines
lengths_drop [] zero = omega arith
lengths_drop [] (suc k) = omega arith
lengths_drop (x ∷ xs) zero = omega arith
lengths_drop (x ∷ xs) (suc k) = let z = lengths_drop xs k in omega arith

left_few : (a : Actor) → left_to_reserve a ≤ bytes_of a
left_few (actor.User u) = lengths_drop u.lines (length u.starts)
left_few _ = omega arith

starts_told : (c : Setup) (seat_of : ℕ → ℕ) (writer seat failed : ℕ) (a : Actor) → IsLogActor a → StartActor c seat_of writer seat a → Told c failed a
starts_told c seat_of writer seat failed (actor.User u) log h = new_step c u h.1 (UserTold c u) tt tt
starts_told c seat_of writer seat failed (actor.Writer s) log h = subst (λ (z : WriterState). WriterTold failed z z.step) (sym h.1) tt
starts_told c seat_of writer seat failed (actor.Flusher t) log h = subst (λ (z : FlusherState). FlusherTold failed z z.step) (sym h.1) tt
starts_told c seat_of writer seat failed (actor.Closer t) log h = absurd log
starts_told c seat_of writer seat failed (actor.Cleaner t) log h = absurd log
starts_told c seat_of writer seat failed (actor.Checkpointer t) log h = absurd log
starts_told c seat_of writer seat failed (actor.Reader t) log h = absurd log

module _ (D : LogSide) (E : DataSide) (L : LogLaws D) (EL : DataLaws E) (c : Setup) (first : Core D E) (S : StartsAlone D E c first) where
  further_starts : Further D c S.words first.log_part first.actors
  further_starts = record {
    each = λ seat a at. starts_told c S.seat_of S.writer seat S.words.failed a (S.actors.each seat a at) (S.store.each seat a at);
    writer = S.actors.writer;
    flusher = S.actors.flusher;
    stable = λ _. (let a = S.store.log_part.stable in let b = S.store.words.write in omega arith);
    parts = λ _. inl S.sound;
  }

  both_starts : BothHalves D E c S.words (start D c S.words first.log_part S.seat_of S.writer S.store.words S.store.log_part) (start_pages c) first.lists first.log_part first.data_part first.actors
  both_starts = subst (λ (ls : ℕ → List Listed). BothHalves D E c S.words (start D c S.words first.log_part S.seat_of S.writer S.store.words S.store.log_part) (start_pages c) ls first.log_part first.data_part first.actors) (sym S.lists)
      (both_start D E c S.words first.log_part first.data_part S.seat_of S.writer first.actors S.store
      (let few = sum_less left_to_reserve bytes_of first.actors (λ i a at. left_few a) in
      lsn_below (c.base + sum_over_actors left_to_reserve first.actors) (c.base + sum_over_actors bytes_of first.actors) LSN_LIMIT (omega arith) S.short))

  reached_first : Reached D E c L EL S.log_only (last_lsn c first.actors) S.room (length first.actors) (sum_over_actors steps_of first.actors) first
  reached_first = record {
    words = S.words;
    state = record { log_ghost = start D c S.words first.log_part S.seat_of S.writer S.store.words S.store.log_part; page_ghost = start_pages c; layout_is = S.layout_is; flat_is = S.flat_is; both = both_starts; further = further_starts };
    last_is = refl;
    seats = refl;
    steps_are = refl;
  }

  -- FROM EACH STATE THAT THE RUN CAN REACH, by whatever turns and whatever its device calls answer, a run by turns takes at
  -- most so many in their second half, in which they go from seat to seat: then each user has ended.
  pub run_ends : (any n seed max : ℕ) (reached last : Core D E) → CanReach D E any first reached → TakesTurns (plain_store D E) seed max n reached last → n ≤ max / 2 + most_turns first.actors
  run_ends any n seed max reached last reach turns =
      let few = few_turns D E c L EL S.log_only (last_lsn c first.actors) S.room (length first.actors) (sum_over_actors steps_of first.actors) seed max reached
      (can_reach D E c L EL S.log_only (last_lsn c first.actors) S.room (length first.actors) (sum_over_actors steps_of first.actors) any first reached reached_first reach) n last turns in
      let all : ℕ = sum_over_actors steps_of first.actors + 26 * (last_lsn c first.actors - lsn c.base) + 2 * WRITTEN_LINKS in
      let low : all + 22 ≤ 12 * sum_over_actors lines_of first.actors + 28 * sum_over_actors bytes_of first.actors + 66_000 = (let steps = all_steps_are first.actors in let wide = lsn_far c.base (sum_over_actors bytes_of first.actors) in omega arith) in
      let more : (all + 22) * (21 * length first.actors) ≤ (12 * sum_over_actors lines_of first.actors + 28 * sum_over_actors bytes_of first.actors + 66_000) * (21 * length first.actors) = mul-le-mul_right (21 * length first.actors) low in
      omega arith

  -- and with more than twice as many turns they are never spent
  pub never_spent : (any seed max user : ℕ) (reached last : Core D E) → CanReach D E any first reached → 2 * most_turns first.actors < max → IsSpent (plain_store D E) seed max user reached last → ⊥
  never_spent any seed max user reached last reach more spent = let z = run_ends any max seed max reached last reach spent.turns in omega arith
