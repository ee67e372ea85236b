pub mod Appending
pub mod Bounds
pub mod Finished
pub mod Histories
pub mod History
pub mod OpenLines
pub mod OpenedPages
pub mod PlainStore
pub mod ReadHalf
pub mod Ready
pub mod Schedule
pub mod Script
pub mod Seated
pub mod StartStore
pub mod Watermarks
pub use Rattle.model_running.specs.Schedule.{AskAt, Asks, TurnTaken, actor_store, HasEnded, HaveEnded, IsDone, IsSpent, LastTurn, TakesTurns, TurnStore, seat_of_turn, ArePageActors}
pub use Rattle.model_running.specs.Appending.{IsNoAppend}
pub use Rattle.model_running.specs.Bounds.{HasBytes, HaveSmallCodes}
pub use Rattle.model_running.specs.Finished.{DataTells, LogTells, CausesAreFailures, HasFailedPart, ArePrefixes}
pub use Rattle.model_running.specs.Ready.{CanLendBatch}
pub use Rattle.model_running.specs.History.{history_entry, marks_in, new_content}
pub use Rattle.model_running.specs.Histories.{AreWholesOf, history_of, word_marks, run_of}
pub use Rattle.model_running.specs.OpenLines.{LeavesOpen}
pub use Rattle.model_running.specs.OpenedPages.{HasItsPages, content_in, contents_of, kept_content}
pub use Rattle.model_running.specs.PlainStore.{plain_store, tells_nothing}
pub use Rattle.model_running.specs.Watermarks.{BothHalves, IsRunning, HasWatermarks}
pub use Rattle.model_running.specs.Script.{IsOfScript}
pub use Rattle.model_running.specs.Seated.{AreSeated}
