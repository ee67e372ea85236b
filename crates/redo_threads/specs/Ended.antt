-- What a run in threads comes to, in plain words.
use Rattle.std.specs.Prelude.{List, ◌≡◌}
use Rattle.std.specs.List.{AllZip}
use Rattle.model_core.specs.States as model
use Rattle.model_core.specs.{IsSameActor}
use Rattle.model_running.specs.Schedule.{HaveEnded}
use Rattle.redo_drive.specs.{ListsInOrder}
use Rattle.redo_drive.specs.declared.closed.Closed.{Closed}
use Rattle.redo_threads.specs.InThreads.{HaveAnswered}

-- The actors stand in their order. Each user has ended, and has answered all of its lines where the code tells of no failure.
-- The history lists the groups of these actors.
pub record HaveRun {L D : Type 0} (starts ends : List model.Actor) (closed : Closed L D) : Type 0 where
  pub each : AllZip IsSameActor starts ends
  pub ended : HaveEnded ends
  pub answered : closed.code ≡ 0 → HaveAnswered ends
  pub listed : ListsInOrder closed.marks ends closed.history
