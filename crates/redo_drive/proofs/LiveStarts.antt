-- The run of a script, and a live run, can begin; what memory was taken for begins so.
use Rattle.std.proofs.Common.{Bool, Err, List, Ok, Result, [], ap, arith, false, refl, subst, sym, true, ℕ, ◌+◌, ◌<◌, ◌∙◌, ◌≡◌}
use Rattle.std.specs.Prelude.{IfOk}
use mathlib.Core.Option.{some-ne-none}
use Rattle.model_base.specs.declared.limits.TheConstants.{LSN_LIMIT}
use Rattle.model_core.specs.{lsn}
use Rattle.model_log.specs.{run_layout, sn_of}
use Rattle.model_logcore.specs.{left_to_reserve, sum_over_actors}
use Rattle.model_script.specs.declared.script.ScriptLine.{ScriptLine}
use Rattle.redo_drive.proofs.FirstUsers.{are_idle, idle_seat, script_users, seat_of_user}
use Rattle.redo_drive.proofs.RunStarts.{CanBegin, lsn_at_start}
use Rattle.redo_drive.proofs.ScriptRoom.{live_reserve, room_for_all}
use Rattle.redo_drive.specs.LiveActors.{idle_users, live_actors, live_plan}
use Rattle.redo_drive.specs.Begins.{begun_on, BeginsSo}
use Rattle.redo_drive.specs.Setups.{users_of}
use Rattle.redo_drive.specs.Startable.{HasNewFollowers, MayBegin}
use Rattle.redo_drive.specs.declared.making.Beginning.{Beginning}
use Rattle.redo_drive.specs.declared.memory.Own.{Own}
use Rattle.redo_drive.specs.declared.plan.Plan.{Plan}
use Rattle.redo_follow.specs.Following.{Following}
use Rattle.redo_store.specs.{IsRunnable}
use Rattle.redo_store.specs.declared.opened.Opened.{Opened}

-- the run of a script, with the users that have lines
pub script_begins : {L D R : Type 0} (opened : Opened L D) (script : List ScriptLine) (plan : Plan)
    (followers : List (Following R)) → MayBegin opened script plan.log_only
    → HasNewFollowers plan opened.start followers
    → CanBegin opened script false plan followers (seat_of_user opened.shape plan.log_only script)
    (users_of opened.shape plan.log_only script)
script_begins opened script plan followers may new = record {
  runnable = may.runnable;
  lines = may.lines;
  fits = may.fits.lines;
  new = new;
  firsts = script_users opened.shape script plan.log_only may.lines may.fits.lines;
  room = room_for_all opened.shape script opened.start plan may.fits.lines may.fits.end;
}

-- no followers are new ones
none_new : {R : Type 0} (log_only : Bool) (start : ℕ) → HasNewFollowers {R = R} (live_plan log_only) start []
none_new log_only start = record {
  new = record { few = omega arith; each = λ i follower at. absurd (some-ne-none follower (sym at)) };
  many = refl;
}

-- a live run, with users that have no lines yet
pub live_begins : {L D R : Type 0} (opened : Opened L D) (users : ℕ) (log_only : Bool) → IsRunnable opened
    → opened.start < LSN_LIMIT
    → CanBegin {L = L} {D = D} {R = R} opened [] true (live_plan log_only) [] idle_seat
    (idle_users (run_layout opened.shape).blocks users)
live_begins opened users log_only runnable below = record {
  runnable = runnable;
  lines = tt;
  fits = tt;
  new = none_new log_only opened.start;
  firsts = are_idle opened.shape users log_only;
  room =
      let none : sum_over_actors left_to_reserve (live_actors opened.shape users opened.start (live_plan log_only))
      ≡ 0 =
      live_reserve opened.shape users opened.start (live_plan log_only) in
      let end : sn_of opened.start
      + sum_over_actors left_to_reserve (live_actors opened.shape users opened.start (live_plan log_only))
      ≡ sn_of opened.start = omega arith in
      subst (λ (n : ℕ). n < LSN_LIMIT) (sym (ap lsn end ∙ lsn_at_start opened.start runnable.place)) below;
}

-- what holds of each run that begins with what memory was taken for holds of this one
pub if_made : {L D R E F : Type 0} (opened : Opened L D) (made : Result (Own R) E) (result : Result (Beginning L D R) F)
    (P : Own R → Type 0) (Q : Beginning L D R → Type 0) → IfOk result (BeginsSo opened made) → IfOk made P
    → ((own : Own R) → P own → Q (begun_on opened own)) → IfOk result Q
if_made opened (Ok own) (Ok start) P Q so is all = subst Q (sym so) (all own is)
if_made opened (Err e) (Ok start) P Q so is all = absurd so
if_made opened made (Err e) P Q so is all = tt
