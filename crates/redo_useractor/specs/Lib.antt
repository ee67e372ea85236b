pub mod BookView
pub mod Books
pub mod CellsStep
pub mod Ending
pub mod Handing
pub mod Lines
pub mod Places
pub mod Program
pub mod Runs
pub mod ToLink
pub mod UserView
pub mod Words
pub mod Written
pub use Rattle.redo_useractor.specs.Ending.{has_ended}
pub use Rattle.redo_useractor.specs.Handing.{with_line}
pub use Rattle.redo_useractor.specs.Lines.{AreUserLines, IsUserLine}
pub use Rattle.redo_useractor.specs.Program.{program_lines}
