-- Calls that write and sync, and don't read.
use Rattle.std.specs.Prelude.{List, Option}
use Rattle.std.specs.List.{AllByRecursion}
use Rattle.model_device.specs.declared.write.Write.{Write}
use Rattle.redo_disk.specs.{Call, EndWith, Reads, Syncs, Writes}
use Rattle.redo_disk.specs.declared.error.DevError.{DevError}

-- the call is such a write, or a sync
abbrev pub IsWriteOrSync : (Write → Type 0) → Call → Type 0
IsWriteOrSync IsSuch (Reads at before answer after) = ⊥
IsWriteOrSync IsSuch (Writes write answer) = IsSuch write
IsWriteOrSync IsSuch (Syncs answer) = Unit {0}

-- none of the calls is a read, each write is such a one, and they end so
pub record PutsWhere (IsSuch : Write → Type 0) (error : Option DevError) (calls : List Call) : Type 0 where
  pub puts : AllByRecursion (IsWriteOrSync IsSuch) calls
  pub ends : EndWith error calls

-- none of the calls is a read, and each write is such a one
abbrev pub ArePuts : (Write → Type 0) → List Call → Type 0
ArePuts IsSuch = AllByRecursion (IsWriteOrSync IsSuch)
