-- What a bank asks of its store.
use Rattle.std.specs.Prelude.{◌≡◌, ◌<◌}
use Rattle.model_base.specs.{default_shape}
use Rattle.model_base.specs.declared.limits.TheConstants.{LSN_LIMIT}
use Rattle.redo_store.specs.{IsRunnable}
use Rattle.redo_store.specs.declared.opened.Opened.{Opened}

-- A bank can open on this store: a run can start on it, it has the sizes of a new one, and its log isn't at its end.
pub record IsBank {L D : Type 0} (opened : Opened L D) : Type 0 where
  pub runnable : IsRunnable opened
  pub shape : opened.shape ≡ default_shape
  pub below : opened.start < LSN_LIMIT
