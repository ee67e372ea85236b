-- The store that has an actor at each seat, of whose turns nothing else is told.
use Rattle.std.specs.Prelude.{ℕ}
use Rattle.model_core.specs.{DataSide, LogSide}
use Rattle.model_core.specs.declared.ops.Step.{Step}
use Rattle.model_running.specs.Schedule.{TurnStore, actor_store}

abbrev pub tells_nothing : {S : Type 0} → S → ℕ → Step → S → Type 0
tells_nothing old seat how new = Unit {0}

abbrev pub plain_store : (D : LogSide) (E : DataSide) → TurnStore D E
plain_store D E = actor_store D E tells_nothing
