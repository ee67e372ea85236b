-- The calls on a file with what they came to, and what the file means after them, if it held some bytes at first and
-- each read gave what it then meant.
use Rattle.std.specs.Prelude.{ℕ, ◌+◌, ◌%◌, ◌++◌, ◌-◌, ◌==◌, nat_le, Bool, true, false, ◌&&◌, if◌then◌else◌, List, [], ◌∷◌, length, take, replicate, bytes_eq, Option, Some, None, option_and_then}
use Rattle.model_base.specs.{overwritten}
use Rattle.model_base.specs.declared.limits.TheConstants.{BLOCK_SIZE}
use Rattle.model_device.specs.{settled, synced, written, Disk}
use Rattle.model_device.specs.declared.write.Write.{Write}
use Rattle.redo_disk.specs.{part, write_at}
use Rattle.redo_memdisk.specs.declared.record.Event.{Event}
use Rattle.redo_memdisk.specs.declared.record.Event.TheVariants.{Read, Unsynced, Written, Missed, Synced, Crashed, Lost}

-- a call with what it came to, and the bytes that it gave or was given
pub record Note : Type 0 where
  pub event : Event
  pub bytes : List ℕ

abbrev pub note : Event → List ℕ → Note
note event bytes = record { event = event; bytes = bytes }

-- the first bytes of these, so many, and zeros where there are fewer
abbrev pub filled : ℕ → List ℕ → List ℕ
filled count left = take count left ++ replicate (count - length left) 0

-- the write is of whole sectors, and lies within so many bytes
abbrev pub is_sector_write : ℕ → Write → Bool
is_sector_write size write =
    (write.at % BLOCK_SIZE == 0) && (length write.bytes % BLOCK_SIZE == 0)
    && nat_le (write.at + length write.bytes) size

-- A write that failed is pending, and reads give those of its bytes that were taken, so many from the first on.
abbrev pub missed : ℕ → Disk → Write → Disk
missed taken old write = record {
  base = old.base;
  writes = old.writes ++ write ∷ [];
  reads = overwritten write.at (take taken write.bytes) old.reads;
}

-- what the file means after a write that does this, if it is a write of the device
abbrev pub after_put : (Disk → Write → Disk) → Write → Disk → Option Disk
after_put puts write disk = if is_sector_write (length disk.base) write then Some (puts disk write) else None

-- what the file means after a call with these bytes, if it can have given them
abbrev pub after_event : Event → List ℕ → Disk → Option Disk
after_event (Read at) bytes disk = if bytes_eq bytes (part disk.reads at (length bytes)) then Some disk else None
after_event Unsynced bytes disk = None
after_event (Written at) bytes disk = after_put written (write_at at bytes) disk
after_event (Missed at taken) bytes disk = after_put (missed taken) (write_at at bytes) disk
after_event Synced bytes disk = Some (synced disk)
after_event Crashed bytes disk = Some (synced disk)
after_event Lost bytes disk = None

-- what a file means that held these bytes, after these calls, the newest of which comes first; None where one of the
-- reads gave other bytes than the file meant
abbrev pub replay : List ℕ → List Note → Option Disk
replay start [] = Some (settled start)
replay start (note ∷ earlier) = option_and_then (after_event note.event note.bytes) (replay start earlier)

-- the call is a crash
abbrev pub is_crash : Event → Bool
is_crash Crashed = true
is_crash Lost = true
is_crash event = false

-- what it meant just before the last crash
abbrev pub crash_met : List ℕ → List Note → Option Disk
crash_met start [] = None
crash_met start (note ∷ earlier) = if is_crash note.event then replay start earlier else crash_met start earlier
