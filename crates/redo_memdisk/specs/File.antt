-- What a device in a file shows.
use Rattle.std.specs.Prelude.{true, false, List, ℕ, ◌≡◌, [], ◌∷◌, ◌++◌, Ok, Err}
use Rattle.redo_io.specs.{saturating_next}
use Rattle.redo_disk.specs.{Answer, Call, Reads, Syncs, Writes, Seen}
use Rattle.redo_disk.specs.Calls.{device_answer}
use Rattle.redo_disk.specs.declared.error.DevError.TheVariants.{Failed, NoMemory}
use Rattle.redo_memdisk.specs.Notes.{Note, crash_met, filled, note, replay}
use Rattle.redo_memdisk.specs.declared.file.Access.{Access}
use Rattle.redo_memdisk.specs.declared.file.Access.TheVariants.{Writing, Reading}
use Rattle.redo_memdisk.specs.declared.file.FileDisk.{FileDisk}
use Rattle.redo_memdisk.specs.declared.file.Opening.{Opening}
use Rattle.redo_memdisk.specs.declared.file.Opening.TheVariants.{ForWriting, ForReading}
use Rattle.redo_memdisk.specs.declared.file.TheConstants.{FILE_DISK_LEN}
use Rattle.redo_memdisk.specs.declared.record.Event.{Event}
use Rattle.redo_memdisk.specs.declared.record.Event.TheVariants.{Read, Unsynced, Written, Missed, Synced, Crashed, Lost}

-- how often its calls have failed
abbrev pub file_faults : {R S F D : Type 0} → FileDisk R S F D → ℕ
file_faults device = device.faults

-- what it was made for
abbrev pub file_access : {R S F D : Type 0} → FileDisk R S F D → Access
file_access device = elim device.opening [ ForWriting ↦ Writing | ForReading is_synced ↦ Reading ]

-- its calls, the newest first
abbrev pub file_notes : {R S F D : Type 0} → FileDisk R S F D → List Note
file_notes device = device.calls.notes

-- The device, as its readers see it: what a file that held these bytes means after its calls, if it gave what it meant.
abbrev pub file_seen : {R S F D : Type 0} → List ℕ → FileDisk R S F D → Seen
file_seen bytes device = record {
  size = FILE_DISK_LEN;
  tells = replay (filled FILE_DISK_LEN bytes) device.calls.notes;
  crashed_from = crash_met (filled FILE_DISK_LEN bytes) device.calls.notes;
  faults = device.faults;
}

-- the count of failures after a call that answered so: one more where it failed, which is never for want of memory
abbrev pub CountsFailure : ℕ → Answer → ℕ → Type 0
CountsFailure old (Ok done) new = new ≡ old
CountsFailure old (Err Failed) new = new ≡ saturating_next old
CountsFailure old (Err NoMemory) new = ⊥

-- What is noted of a read from this offset on. Only a file for reading may be open that couldn't be synced.
abbrev pub read_event : Opening → ℕ → Event
read_event ForWriting at = Read at
read_event (ForReading true) at = Read at
read_event (ForReading false) at = Unsynced

-- what is noted of a call, by what the file is open for; of a write that failed, that so many of its bytes were taken
abbrev pub notes_of : Opening → ℕ → Call → List Note
notes_of opening taken (Reads at before (Ok done) after) = note (read_event opening at) after ∷ []
notes_of opening taken (Reads at before (Err error) after) = []
notes_of opening taken (Writes write (Ok done)) = note (Written write.at) write.bytes ∷ []
notes_of opening taken (Writes write (Err error)) = note (Missed write.at taken) write.bytes ∷ []
notes_of opening taken (Syncs (Ok done)) = note Synced [] ∷ []
notes_of opening taken (Syncs (Err error)) = []

-- a call, the first of which opens the file
pub record FileGives {R S F D : Type 0} (old : FileDisk R S F D) (call : Call) (new : FileDisk R S F D) : Type 0 where
  pub counts : CountsFailure old.faults (device_answer call) new.faults
  pub same_access : file_access new ≡ file_access old
  pub taken : ℕ
  pub noted : file_notes new ≡ notes_of new.opening taken call ++ file_notes old

-- what is noted of a crash whose sync answered so
abbrev pub crash_event : Answer → Event
crash_event (Ok done) = Crashed
crash_event (Err error) = Lost

-- a crash
pub record FileCrash {R S F D : Type 0} (old : FileDisk R S F D) (pick : ℕ) (new : FileDisk R S F D) : Type 0 where
  pub synced : Answer
  pub counts : CountsFailure old.faults synced new.faults
  pub same_access : file_access new ≡ file_access old
  pub noted : file_notes new ≡ note (crash_event synced) [] ∷ file_notes old
