-- What the marks and the code that a run leaves tell of its actors.
use Rattle.std.specs.Prelude.{List, ℕ, ◌<◌, ◌≡◌}
use lib.ListN.{get_elem?}
use mathlib.Core.Option.{some}
use Rattle.model_core.specs.States as model
use Rattle.model_logcore.specs.{HasMetFailure}
use Rattle.model_running.specs.Watermarks.{HasMarksWithin}
use Rattle.redo_drive.specs.declared.closed.Closed.{Closed}

module _ {L D : Type 0} where
  -- THE MARKS AND THE CODE REACH WHAT THE ACTORS SAW. The code is 0 only where no actor has loaded or stored another one.
  pub record ReachesAll (actors : List model.Actor) (closed : Closed L D) : Type 0 where
    pub marks : (i : ℕ) (a : model.Actor) → get_elem? actors i ≡ some a → HasMarksWithin closed.marks a
    pub code : (i : ℕ) (a : model.Actor) → get_elem? actors i ≡ some a → HasMetFailure a → 0 < closed.code
