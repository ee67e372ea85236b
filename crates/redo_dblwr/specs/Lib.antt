pub mod Requests
pub use Rattle.redo_dblwr.specs.Requests.{slots_read, stretch_read}
