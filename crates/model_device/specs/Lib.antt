pub mod Crash
pub mod Disks
pub mod MayHold
pub use Rattle.model_device.specs.Disks.{Crashes, FailsWrite, IsSameBeside, synced, written, Covers, HasOneImage, IsCovered, IsImage, after_write, after_writes, sector, settled, IsValid, AreSectorWrites, IsSectorWrite, IsWithin, Disk}
pub use Rattle.model_device.specs.MayHold.{IsPutOrNot, IsWrittenBy, written_sector, Adds, AreWithin}
pub use Rattle.model_device.specs.Crash.{crash_image, crashed, cut_to, left_of, sector_writes, sectors_from, survives}
