-- What stays as it is while a device in a file serves a call.
use Rattle.std.specs.Prelude.{◌≡◌}
use Rattle.redo_memdisk.specs.File.{file_access, file_faults, file_notes}
use Rattle.redo_memdisk.specs.declared.file.FileDisk.{FileDisk}

-- a step before the call is answered
pub record IsWithinCall {R S F D : Type 0} (old new : FileDisk R S F D) : Type 0 where
  pub faults : file_faults new ≡ file_faults old
  pub notes : file_notes new ≡ file_notes old
  pub access : file_access new ≡ file_access old
