-- A turn of another actor, beside an archive or none: it is one of the store with the users, a writer and a flusher.
use Rattle.std.proofs.Common.{Bool, List, Option, ap, arith, get_or, length, set, subst, sym, ℕ, ◌-◌, ◌<◌, ◌∙◌, ◌≡◌, ◌≤◌}
use Rattle.std.specs.Prelude.{is_some}
use Rattle.model_core.specs.States as model
use Rattle.model_core.specs.{Given, next, ReaderState}
use Rattle.model_core.specs.declared.ops.Op.TheVariants as op
use Rattle.model_core.specs.declared.ops.Step.{Step}
use Rattle.model_own.specs.{LogWork, OwnUser}
use Rattle.redo_archive.specs.Part.{Part}
use Rattle.redo_archiver.specs.{KeepsPace, MayAppendBlock}
use Rattle.redo_disk.specs.{Call, Seen}
use Rattle.redo_drive.proofs.TurnsOf.{runs_from}
use Rattle.redo_drive.proofs.Viewed.{own_at}
use Rattle.redo_drive.specs.{IsBeside, HasSamePages, RunOf, RunsWith, views_of}
use Rattle.redo_drive.specs.declared.actor.Actor.{Actor}
use Rattle.redo_drive.specs.declared.parts.Parts.{Parts}
use Rattle.redo_machine.proofs.Beside.{serves_with}
use Rattle.redo_machine.proofs.TurnBeside as turned
use Rattle.redo_machine.specs.Reading.{AreNumbered, IsServedWith, MayServeWith}
use Rattle.redo_ownmachine.proofs.Comes.{HasComeWith}
use Rattle.redo_ownmachine.proofs.Places.{behind, behind_seat, crew_get, crew_length, crew_put, crew_views}
use Rattle.redo_ownmachine.proofs.Serves.{its_data_laws, its_log_laws}
use Rattle.redo_ownmachine.specs.OwnCrew.{crew}
use Rattle.redo_ownmachine.specs.OwnSeats.{OwnSeats, actors_of}
use Rattle.redo_ownmachine.specs.OwnStore.{OwnRunsWith}

module _ {R : Type 0} (users : List OwnUser) (work : LogWork) (actors : List (Actor R)) (seat j : ℕ)
    (past : length users ≤ seat) (place : j ≡ seat - length users) (below : j < length actors) where
  in_crew : behind users j < length (crew users work actors)
  in_crew =
      let at = ap (behind users) place ∙ behind_seat users seat past in
      let long = crew_length work users actors in omega arith

  module _ {L D X : Type 0} {archive : Bool} (log_seen : L → Seen) (data_seen : D → Seen) (seen : X → Seen)
      (run : RunOf L D) (parts : Parts L D)
      (runs : OwnRunsWith log_seen data_seen run archive parts
      (record { users = users; work = work; others = views_of actors })) where
    abbrev pub seats : OwnSeats
    seats = record { users = users; work = work; others = views_of actors }

    pub crew_runs : RunsWith log_seen data_seen run archive parts (views_of (crew users work actors))
    crew_runs = subst (λ (l : List model.Actor). RunsWith log_seen data_seen run archive parts l)
        (sym (crew_views work users actors)) runs.runs

    crew_beside : (part : Option (Part X)) → IsBeside seen run.setup parts.words.words (actors_of seats) part
        → IsBeside seen run.setup parts.words.words (views_of (crew users work actors)) part
    crew_beside part = subst (λ (l : List model.Actor). IsBeside seen run.setup parts.words.words l part)
        (sym (crew_views work users actors))

    -- IT MAY HAVE ITS TURN.
    pub may_serve_other : (law : (limit flushed mark : ℕ) (r : ReaderState) (part : Part X)
        → next (model.Reader r) ≡ op.Append mark → KeepsPace seen limit flushed r part → MayAppendBlock seen part mark)
        (d : Actor R) (numbered : AreNumbered (crew users work actors)) (part : Option (Part X))
        → IsBeside seen run.setup parts.words.words (actors_of seats) part
        → MayServeWith seen parts part (get_or actors j d)
    may_serve_other law d numbered part beside = subst (λ (z : Actor R). MayServeWith seen parts part z)
        (crew_get work users actors j d)
        (serves_with log_seen data_seen seen run parts (crew users work actors) crew_runs
        (its_log_laws log_seen data_seen run) (its_data_laws log_seen data_seen run) law (behind users j)
        (get_or (crew users work actors) (behind users j) d) (own_at (crew users work actors) (behind users j) d in_crew)
        numbered part (crew_beside part beside))

module _ {L D X R : Type 0} {gives : X → Call → X → Type 0} (log_seen : L → Seen) (data_seen : D → Seen)
    (seen : X → Seen) (stands : R → List Given → Type 0) (run : RunOf L D) (old new : Parts L D) (users : List OwnUser)
    (work : LogWork)
    (actors : List (Actor R)) (seat j : ℕ) (d then : Actor R) (step : Step) (past : length users ≤ seat)
    (place : j ≡ seat - length users) (below : j < length actors) (before after : Option (Part X))
    (served : IsServedWith log_seen data_seen seen gives stands run old before (get_or actors j d) step new after then)
    (same : HasSamePages old new) where
  abbrev crew_now : List (Actor R)
  crew_now = crew users work actors

  its_place : behind users j < length crew_now
  its_place = in_crew users work actors seat j past place below

  in_its_seat : IsServedWith log_seen data_seen seen gives stands run old before (get_or crew_now (behind users j) d)
      step new after then
  in_its_seat = subst
      (λ (z : Actor R). IsServedWith log_seen data_seen seen gives stands run old before z step new after then)
      (sym (crew_get work users actors j d)) served

  put : ◌≡◌ {A = List (Actor R)} (set crew_now (behind users j) then) (crew users work (set actors j then))
  put = crew_put work users actors j then

  -- which archives there are is as it was
  pub some_stays : is_some after ≡ is_some before
  some_stays = turned.some_stays log_seen data_seen seen stands run old new crew_now (behind users j) d then step its_place
      before after in_its_seat (its_log_laws log_seen data_seen run) (its_data_laws log_seen data_seen run) same

  pub numbered : AreNumbered crew_now → AreNumbered (crew users work (set actors j then))
  numbered are = subst AreNumbered put (turned.numbered log_seen data_seen seen stands run old new crew_now
      (behind users j) d then step its_place before after in_its_seat (its_log_laws log_seen data_seen run)
      (its_data_laws log_seen data_seen run) same are)

  -- THE ARCHIVE STANDS BESIDE THE ACTORS.
  pub beside_other : {archive : Bool} → OwnRunsWith log_seen data_seen run archive old
      (record { users = users; work = work; others = views_of actors })
      → IsBeside seen run.setup old.words.words
      (actors_of (record { users = users; work = work; others = views_of actors })) before
      → IsBeside seen run.setup new.words.words
      (actors_of (record { users = users; work = work; others = views_of (set actors j then) })) after
  beside_other runs beside = subst (λ (l : List model.Actor). IsBeside seen run.setup new.words.words l after)
      (ap views_of put ∙ crew_views work users (set actors j then))
      (turned.beside_then log_seen data_seen seen stands run old new crew_now (behind users j) d then step its_place before
      after in_its_seat (its_log_laws log_seen data_seen run) (its_data_laws log_seen data_seen run) same
      (crew_runs users work actors seat j past place below log_seen data_seen seen run old runs)
      (crew_beside users work actors seat j past place below log_seen data_seen seen run old runs before beside))

  -- THE RUN THAT CAME TO THE MACHINE has come to it then.
  pub come_other : (archive : Bool) (starts : List (Actor R)) (first : Option (Part X))
      → HasComeWith log_seen data_seen seen gives stands run archive starts first old crew_now before
      → HasComeWith log_seen data_seen seen gives stands run archive starts first new
      (crew users work (set actors j then)) after
  come_other archive starts first C = subst
      (λ (l : List (Actor R)). HasComeWith log_seen data_seen seen gives stands run archive starts first new l after)
      put (
        runs_from log_seen data_seen stands run old new crew_now (behind users j) d then step its_place in_its_seat.served
            (its_log_laws log_seen data_seen run) (its_data_laws log_seen data_seen run) same starts C.0,
        turned.come_then log_seen data_seen seen stands run old new crew_now (behind users j) d then step its_place before
            after in_its_seat (its_log_laws log_seen data_seen run) (its_data_laws log_seen data_seen run) same
            C.0.runs first C.1,
      )
