-- The two files of a call, as its first call of each finds them.
use Rattle.std.specs.Prelude.{ℕ, ◌≡◌, List, [], Some}
use Rattle.model_device.specs.{settled}
use Rattle.redo_memdisk.specs.File.{file_faults, file_notes, file_seen}
use Rattle.redo_memdisk.specs.Notes.{filled}
use Rattle.redo_memdisk.specs.declared.file.FileDisk.{FileDisk}
use Rattle.redo_memdisk.specs.declared.file.TheConstants.{FILE_DISK_LEN}
use Rattle.redo_lab.specs.Call.{IsSettledAtEntry}

-- no call has reached the file, and none has failed
pub record IsUncalled {R S F D : Type 0} (device : FileDisk R S F D) : Type 0 where
  pub notes : file_notes device ≡ []
  pub faults : file_faults device ≡ 0

-- It means just these bytes, with zeros after them, and nothing is unsynced.
pub record IsAtRestWith {R S F D : Type 0} (bytes : List ℕ) (device : FileDisk R S F D) : Type 0 where
  pub means : (file_seen bytes device).tells ≡ Some (settled (filled FILE_DISK_LEN bytes))
  pub settled_at_entry : IsSettledAtEntry (settled (filled FILE_DISK_LEN bytes)) (file_faults device)
