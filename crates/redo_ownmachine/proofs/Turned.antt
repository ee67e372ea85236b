-- What was played for whoever had its turn is a turn of the definition, and the run goes on.
use Rattle.std.proofs.Common.{Bool, List, ap, arith, get_or, inl, inr, length, refl, set, subst, sym, ℕ, ⊎_elim, ◌+◌, ◌-◌, ◌<◌, ◌∙◌, ◌≡◌, ◌≤◌, ◌⊎◌}
use Rattle.std.proofs.lemmas.List.{map-set}
use lib.ListN.{get_elem?}
use mathlib.Core.Option.{some, some-injective}
use Rattle.model_core.specs.States as model
use Rattle.model_core.specs.{DataSide, LogSide, filled, Given, HasLost, lent, next, took}
use Rattle.model_core.specs.Program.{Turn}
use Rattle.model_core.specs.declared.ops.Answer.{Answer}
use Rattle.model_core.specs.declared.ops.Step.{Step}
use Rattle.model_core.specs.declared.ops.Step.TheVariants as step_is
use Rattle.model_own.specs.{OtherTurn, OwnTurn, UserTurn, all_actors, LogWork, OwnUser, own_lends, own_next}
use Rattle.model_ownrun.proofs.AloneKeeps.{alone_turns}
use Rattle.model_ownrun.proofs.OwnKeeps.{own_turn_keeps}
use Rattle.model_ownrun.proofs.OwnSeats.{own_turn_keeps_seats}
use Rattle.redo_disk.specs.{Call, Seen}
use Rattle.redo_drive.specs.{AskOfBoth, HasSamePages, RunOf, run_data_side, run_log_side, FailedHasCause, IsServed, code_in, core_of, view_of, views_of}
use Rattle.redo_drive.specs.declared.actor.Actor.{Actor}
use Rattle.redo_drive.specs.declared.parts.Parts.{Parts}
use Rattle.redo_drive.proofs.Viewed.{view_at}
use Rattle.redo_ownmachine.proofs.Failing.{own_failed_turn_has_some}
use Rattle.redo_ownmachine.proofs.Places.{behind, behind_seat, other_at, other_put, sits_below}
use Rattle.redo_ownmachine.proofs.Serves.{its_data_laws, its_log_laws}
use Rattle.redo_ownmachine.specs.OwnSeats.{OwnSeats, actors_of}
use Rattle.redo_ownmachine.specs.OwnStore.{own_core_of, OwnAlone, OwnRunsWith, TakesOwnTurn}
use Rattle.redo_ownmachine.specs.Serving.{IsUserServed}

module _ {L D : Type 0} (log_seen : L → Seen) (data_seen : D → Seen) (run : RunOf L D) (old new : Parts L D)
    (seats after : OwnSeats) (seat : ℕ) (answer : Answer) (step : Step) where
  abbrev pub A : LogSide
  A = run_log_side log_seen data_seen run

  abbrev pub B : DataSide
  B = run_data_side log_seen data_seen run

  abbrev pub ATurn : Type 0
  ATurn = OwnTurn A B (own_core_of log_seen data_seen run old seats) seat answer step
      (own_core_of log_seen data_seen run new after)

  -- the run goes on
  pub runs_then : {archive : Bool} → HasSamePages old new → ATurn → OwnRunsWith log_seen data_seen run archive old seats
      → OwnRunsWith log_seen data_seen run archive new after
  runs_then same t R =
      let left = own_turn_keeps A (its_log_laws log_seen data_seen run) B (its_data_laws log_seen data_seen run)
      run.setup (own_core_of log_seen data_seen run old seats) (own_core_of log_seen data_seen run new after) seat
      answer step (record { running = R.runs.running; errands = R.errands }) t in
      record {
        runs = record {
          limits = R.runs.limits;
          started = R.runs.started;
          its_pages = R.runs.its_pages;
          its_page_size = R.runs.its_page_size;
          its_slots = R.runs.its_slots;
          followers = R.runs.followers;
          bytes = R.runs.bytes;
          list_pages = same.lists ∙ R.runs.list_pages;
          running = left.running;
          seated = own_turn_keeps_seats A B run.setup (own_core_of log_seen data_seen run old seats)
              (own_core_of log_seen data_seen run new after) seat answer step R.runs.seated t;
        };
        errands = left.errands;
      }

  -- alone it isn't idle
  pub alone_then : ATurn → OwnAlone log_seen data_seen run old seats
      → (step ≡ step_is.Idle → ⊥) × OwnAlone log_seen data_seen run new after
  alone_then t alone =
      let left = alone_turns A (its_log_laws log_seen data_seen run) B (its_data_laws log_seen data_seen run)
      run.setup alone.log_only (own_core_of log_seen data_seen run old seats)
      (own_core_of log_seen data_seen run new after) seat answer step alone t in
      (left.1, left.0)

  -- where it ends by a failure, FAILED's code has a cause
  pub cause_then : {archive : Bool} → HasSamePages old new → ATurn → OwnRunsWith log_seen data_seen run archive old seats
      → (code : ℕ) → step ≡ step_is.Failed code
      → FailedHasCause log_seen data_seen run new ⊎ HasLost (actors_of after) (code_in new)
  cause_then same t R code failed =
      ⊎_elim (λ cause. inl (inl cause)) (⊎_elim (λ cause. inl (inr cause)) (λ lost. inr lost))
      (own_failed_turn_has_some A (its_log_laws log_seen data_seen run) B (its_data_laws log_seen data_seen run)
      run.setup (own_core_of log_seen data_seen run old seats) (own_core_of log_seen data_seen run new after) seat
      answer step (runs_then same t R).runs.running t code failed)

-- THE TURN OF A USER.
module _ {L D : Type 0} (log_seen : L → Seen) (data_seen : D → Seen) (run : RunOf L D) (old new : Parts L D)
    (users : List OwnUser) (work left : LogWork) (others : List model.Actor) (seat : ℕ) (who then : OwnUser)
    (step : Step) (at : get_elem? users seat ≡ some who)
    (served : IsUserServed log_seen data_seen run old who work step new then left) where
  abbrev pub seats : OwnSeats
  seats = record { users = users; work = work; others = others }

  abbrev pub after : OwnSeats
  after = record { users = set users seat then; work = left; others = others }

  abbrev pub user_turn : UserTurn (run_log_side log_seen data_seen run) (run_data_side log_seen data_seen run)
      (own_core_of log_seen data_seen run old seats) seat served.answer step
      (own_core_of log_seen data_seen run new after)
  user_turn = let played = served.played in record {
    who = who;
    who_is = at;
    code = played.code;
    log_served = played.log_served;
    data_served = played.data_served;
    layout = played.layout;
    words = played.words;
    lists = played.lists;
    answered = played.answered;
    users = ap (λ (o : OwnUser). set users seat o) served.user;
    work = served.its_work;
    others = refl;
    ends = served.ends;
  }

  -- with what it asked of both devices
  module _ (log_gives : L → Call → L → Type 0) (data_gives : D → Call → D → Type 0)
      (asked : AskOfBoth log_gives data_gives (own_lends who work) (own_next who work) old new) where
    pub user_takes : TakesOwnTurn log_seen log_gives data_seen data_gives run old seats seat step new after
    user_takes = record {
      answer = served.answer;
      turn = inl user_turn;
      asked = record {
        user = λ o there. subst (λ (x : OwnUser). AskOfBoth log_gives data_gives (own_lends x work) (own_next x work)
            old new) (some-injective who o (sym at ∙ there)) asked;
        other = λ a past there. absurd (let low = sits_below users seat who at in omega arith);
      };
    }

-- THE TURN OF ANOTHER ACTOR.
module _ {L D R : Type 0} (log_seen : L → Seen) (log_gives : L → Call → L → Type 0) (data_seen : D → Seen)
    (data_gives : D → Call → D → Type 0) (stands : R → List Given → Type 0) (run : RunOf L D) (old new : Parts L D)
    (users : List OwnUser) (work : LogWork) (actors : List (Actor R)) (seat j : ℕ) (d then : Actor R) (step : Step)
    (past : length users ≤ seat) (place : j ≡ seat - length users) (below : j < length actors)
    (served : IsServed log_seen data_seen stands run old (get_or actors j d) step new then)
    (asked : AskOfBoth log_gives data_gives (lent (view_of (get_or actors j d))) (next (view_of (get_or actors j d))) old
    new) where
  pub its_seat : behind users j ≡ seat + 2
  its_seat = ap (behind users) place ∙ behind_seat users seat past

  abbrev who : Actor R
  who = get_or actors j d

  abbrev before : OwnSeats
  before = record { users = users; work = work; others = views_of actors }

  abbrev later : OwnSeats
  later = record { users = users; work = work; others = views_of (set actors j then) }

  abbrev landed_at : (n : ℕ) → behind users j ≡ n
      → Turn (run_log_side log_seen data_seen run) (run_data_side log_seen data_seen run)
      (core_of log_seen data_seen run old (actors_of before)) n served.answer step
      (core_of log_seen data_seen run new (actors_of later))
  landed_at n is = let played = served.played in record {
    who = view_of who;
    who_is = ap (get_elem? (actors_of before)) (sym is) ∙ other_at work users (views_of actors) j
        ∙ view_at actors j d below;
    filling = served.filling;
    fills = served.fills;
    code = played.code;
    log_served = played.log_served;
    data_served = played.data_served;
    own_served = played.own_served;
    layout = played.layout;
    words = played.words;
    lists = played.lists;
    answered = played.answered;
    actors =
        let took_so : model.Actor = took (filled (view_of who) served.filling) served.answer in
        ap (λ (l : List model.Actor). all_actors users work l) (map-set view_of actors j then
        ∙ ap (λ (z : model.Actor). set (views_of actors) j z) served.took)
        ∙ sym (other_put work users (views_of actors) j took_so)
        ∙ ap (λ (i : ℕ). set (actors_of before) i took_so) is;
    ends = served.ends;
  }

  abbrev pub other_turn : OtherTurn (run_log_side log_seen data_seen run) (run_data_side log_seen data_seen run)
      (own_core_of log_seen data_seen run old before) seat served.answer step
      (own_core_of log_seen data_seen run new later)
  other_turn = record {
    after = past;
    turn = landed_at (seat + 2) its_seat;
    users = refl;
    work = refl;
  }

  pub other_takes : TakesOwnTurn log_seen log_gives data_seen data_gives run old before seat step new later
  other_takes = record {
    answer = served.answer;
    turn = inr other_turn;
    asked = record {
      user = λ o there. absurd (let low = sits_below users seat o there in omega arith);
      other = λ a after there. subst (λ (x : model.Actor). AskOfBoth log_gives data_gives (lent x) (next x) old new)
          (some-injective (view_of who) a
          (sym (landed_at (seat + 2) its_seat).who_is ∙ there)) asked;
    };
  }
