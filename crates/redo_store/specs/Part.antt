-- A data part as its callers see it, what each of its calls leaves, and what they ask of its device, in which order.
use Rattle.std.specs.Prelude.{◌≡◌, Option, Result, List, [], ◌∷◌, ◌++◌, map, ◌+◌}
use Rattle.model_base.specs.declared.shape.Shape.{Shape}
use Rattle.redo_disk.specs.{error_of, HasCause, put_requests, Request, ToSync, ToWrite, Seen}
use Rattle.redo_disk.specs.declared.error.DevError.{DevError}
use Rattle.model_parts.specs.{Fresh, place_writes, slots_write}
use Rattle.model_device.specs.declared.write.Write.{Write}

-- a data part: its device, the sizes of the store, and what the call answered that failed
pub record Part (D : Type 0) : Type 0 where
  pub dev : D
  pub shape : Shape
  pub failed : Option DevError

-- What each call of a part leaves: the same sizes, and its own answer as the part's failure, which has its cause.
pub record PartStep {D T : Type 0} (seen : D → Seen) (old : Part D) (result : Result T DevError) (new : Part D) : Type 0 where
  pub shape : new.shape ≡ old.shape
  pub size : (seen new.dev).size ≡ (seen old.dev).size
  pub failed : new.failed ≡ error_of result
  pub cause : HasCause (seen old.dev).faults (seen new.dev).faults result

-- writes in their order, and a sync after them
abbrev pub all_put : List Write → List Request
all_put writes = map ToWrite writes ++ ToSync ∷ []

-- A batch is written: its slots by one write, with a sync, and each page into its place, with a sync after the last.
abbrev pub batch_requests : Shape → List Fresh → List Request
batch_requests shape batch = put_requests (slots_write shape batch) ++ all_put (place_writes shape batch)
