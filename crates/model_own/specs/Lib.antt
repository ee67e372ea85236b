pub mod ErrandFits
pub mod OwnWrites
pub use Rattle.model_own.specs.ErrandFits.{MayHelpAt, has_work}
pub use Rattle.model_own.specs.OwnWrites.{LogWork, OtherTurn, OwnCore, OwnTurn, OwnUser, UserTurn, after_flusher, after_writer, all_actors, asks_again, begins_again, errand_lends, errand_op, errand_took, errand_waits, flusher_from, flushes_at, given_back, has_failed, helps_at, keeps_helped, loads_again, own_checked, own_goes_on, own_lends, own_next, own_step_of, own_stepped, rested_writer, sets_out, taken_up, waiting, with_writer, written}
