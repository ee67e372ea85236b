pub mod Grouped
pub mod Part
pub mod Restoring
pub use Rattle.redo_archive.specs.Part.{DiskArchives, IsBeginFault, IsBegun, IsNotBegun, KeepsArchive, MayAppend, PartArchives, Stays}
pub use Rattle.redo_archive.specs.Restoring.{device_error_of, HasRestoreCause, restore_refusal}
