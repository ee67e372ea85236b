pub mod Left
pub mod Read
pub use Rattle.redo_report.specs.Read.{read_of}
