-- What holds of the data part when a run starts.
use Rattle.std.proofs.Common.{None, Option, [], ap, arith, false, is_some, subst, sym, ℕ, ◌≡◌}
use Rattle.std.specs.Prelude.{IfSome}
use Rattle.model_base.specs.{run_shape}
use Rattle.model_base.specs.declared.shape.Shape.{Shape}
use Rattle.model_core.specs.{DataSide, KeptPage, Setup}
use Rattle.model_parts.specs.{IsUpTo, read_as}
use Rattle.model_parts.specs.Stored.{Stored}
use Rattle.model_running.specs.{contents_of}
use Rattle.model_page.specs.declared.content.Content.{Content}
use Rattle.model_store.specs.{Reading}
use Rattle.redo_drive.specs.DataPartSide.{HasBegun, data_side}
use Rattle.redo_disk.specs.{Seen}
use Rattle.redo_disk.specs.declared.error.DevError.{DevError}
use Rattle.redo_store.specs.{PartStores}
use Rattle.redo_store.specs.Part.{Part}

-- what a store asks of the data part at its start
pub record StartsHolding (E : DataSide) (c : Setup) (d : E.Part) : Type 0 where
  pub stored : E.Holds c.opened [] d
  pub sound : E.failed d ≡ false

-- a part that hasn't failed, over whatever device
pub part_starts : {D : Type 0} (seen : D → Seen) (c : Setup) (shape : Shape) (d : Part D) → d.shape ≡ shape → d.failed ≡ None
    → StartsHolding (data_side seen (seen d.dev).faults shape (HasBegun seen c.opened d)) c d
part_starts seen c shape d shape_is live = record {
  stored = record { shape_is = shape_is; later = omega arith; pages = λ begun. begun };
  sound = ap is_some live;
}

-- on the device of a store that was opened, the run begins with the pages as they were read
pub opened_begins : {D : Type 0} (seen : D → Seen) (opened : ℕ → KeptPage) (reading : Reading) (d : Part D) → d.shape ≡ run_shape reading.shape → d.failed ≡ None → ((p : ℕ) → contents_of opened p ≡ read_as reading p)
    → IfSome (seen d.dev).tells (Stored (run_shape reading.shape) (IsUpTo (read_as reading)) (read_as reading) [] false) → HasBegun seen opened d
opened_begins seen opened reading d shape_is live same stored =
    let pages : ◌≡◌ {A = ℕ → Content} (contents_of opened) (read_as reading) = λ i p. same p i in
    subst (λ (f : ℕ → Content). PartStores seen f f [] d) (sym pages)
    (subst (λ (s : Shape). IfSome (seen d.dev).tells (Stored s (IsUpTo (read_as reading)) (read_as reading) [] (is_some d.failed))) (sym shape_is)
    (subst (λ (f : Option DevError). IfSome (seen d.dev).tells (Stored (run_shape reading.shape) (IsUpTo (read_as reading)) (read_as reading) [] (is_some f))) (sym live) stored))
