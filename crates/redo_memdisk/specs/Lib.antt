pub mod Arming
pub mod Before
pub mod Counted
pub mod File
pub mod Fused
pub mod Memory
pub mod Notes
pub mod WithinCall
pub use Rattle.redo_memdisk.specs.Counted.{after_calls, after_crash, before_arming, counted, while_stopping}
pub use Rattle.redo_memdisk.specs.Fused.{fails_next, has_passed_all, is_failed, with_change, CallsThrough, ReadsThrough, SyncsThrough, WritesThrough, armed_at, armed_from, entry_of, fuse_of, inner_of, seen_through}
pub use Rattle.redo_memdisk.specs.Arming.{crashed_with, armed, fresh, CrashesThrough}
