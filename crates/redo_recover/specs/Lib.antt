pub mod Blocks
pub mod Devices
pub mod Full
pub mod Groups
pub mod Pages
pub mod Piece
pub mod Reading
pub mod Recovery
pub mod Runs
pub mod Start
pub mod Taking
pub use Rattle.redo_recover.specs.Devices.{HasCauseIn, HasLengthCause, IsUnchanged, OnContents, data_fault_of, log_fault_of, refusal_of, IsLogRead, IsOnlyRead, ReadsLog, data_error, data_error_of, log_error, log_error_of}
pub use Rattle.redo_recover.specs.Groups.{IsEndOf}
pub use Rattle.redo_recover.specs.Pages.{AreNotAhead, AreFoundOn, ArePlacesOf, HaveSlots, IsFoundAt}
pub use Rattle.redo_recover.specs.Reading.{IsOfDevices, IsTailFound, reading_of}
pub use Rattle.redo_recover.specs.Recovery.{IsCaused, IsRecovered, Recovers}
pub use Rattle.redo_recover.specs.Start.{IsLengthFault}
