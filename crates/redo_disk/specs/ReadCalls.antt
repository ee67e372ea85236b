-- Calls that only read, and how many of some calls failed or changed the device.
use Rattle.std.specs.Prelude.{ℕ, ◌≡◌, ◌+◌, ◌⊎◌, List, [], ◌∷◌, Option, Some, None}
use Rattle.std.specs.List.{AllByRecursion}
use Rattle.redo_disk.specs.declared.error.DevError.{DevError}
use Rattle.redo_disk.specs.declared.error.DevError.TheVariants.{Failed, NoMemory}
use Rattle.redo_disk.specs.Calls.{Call, device_answer, EndWith, error_of, Reads, Syncs, Writes}

-- the call is a read
abbrev pub IsRead : Call → Type 0
IsRead (Reads at before answer after) = Unit {0}
IsRead (Writes write answer) = ⊥
IsRead (Syncs answer) = ⊥

abbrev pub AreReads : List Call → Type 0
AreReads = AllByRecursion IsRead

-- whether an error counts as a failure of the device
abbrev pub failures : Option DevError → ℕ
failures None = 0
failures (Some Failed) = 1
failures (Some NoMemory) = 0

-- how many of the calls answered that the device failed
abbrev pub failed_calls : List Call → ℕ
failed_calls [] = 0
failed_calls (call ∷ calls) = failures (error_of (device_answer call)) + failed_calls calls

-- whether a call may change the device
abbrev pub call_changes : Call → ℕ
call_changes (Reads at before answer after) = 0
call_changes (Writes write answer) = 1
call_changes (Syncs answer) = 1

-- how many of the calls are writes or syncs
abbrev pub changing_calls : List Call → ℕ
changing_calls [] = 0
changing_calls (call ∷ calls) = call_changes call + changing_calls calls

-- The same of code that may run out of memory by itself: then the calls all answered Ok.
abbrev pub MayEndWith : Option DevError → List Call → Type 0
MayEndWith error calls = EndWith error calls ⊎ (EndWith None calls × (error ≡ Some NoMemory))

-- the calls are reads, and end so
pub record ReadsEndWith (error : Option DevError) (calls : List Call) : Type 0 where
  pub reads : AreReads calls
  pub ends : EndWith error calls

-- the same of code that may run out of memory by itself
pub record ReadsMayEndWith (error : Option DevError) (calls : List Call) : Type 0 where
  pub reads : AreReads calls
  pub ends : MayEndWith error calls
