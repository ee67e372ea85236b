pub mod Blank
pub mod Chain
pub mod Clear
pub mod Devices
pub mod Enlarge
pub mod Erase
pub mod Mark
pub mod Mend
pub mod Opening
pub mod Places
pub mod Put
pub mod Puts
pub mod Rewrite
pub mod Store
pub mod Zeroing
pub use Rattle.redo_open.specs.Devices.{AreCalled, IsNotOpened, WhereBothTell}
pub use Rattle.redo_open.specs.Opening.{FormatCalls, HasFormatCause, JudgesLengths, WritesInside, HasFaultCause, IsOpenedReady, IsOpeningOf, OpensInside, OpensLog, OpensSafely}
