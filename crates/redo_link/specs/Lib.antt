pub mod Course
pub mod Links
pub use Rattle.redo_link.specs.Course.{FindsLsn, IsAdvance, LeadsToLsn}
