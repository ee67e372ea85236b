pub mod DataLaws
pub mod Latches
pub mod PageFacts
pub mod PageHalf
pub mod Pages
pub use Rattle.model_pagecore.specs.DataLaws.{AfterBatch, AreApart, CanBatch, kept_in, renewed}
pub use Rattle.model_pagecore.specs.PageFacts.{Grows, AreUnfinished, ClosedLink, ClosedLinks, PageGhost, UnfinishedPage, listed_lsn}
pub use Rattle.model_pagecore.specs.Latches.{CleanerHasLatch, HasLatch, IsAmong, IsInBatch, UserHasLatch}
pub use Rattle.model_pagecore.specs.PageHalf.{At, CheckpointerPageFits, CheckpointerPagesAt, CleanerAt, CleanerFits, CleanerHolds, CloserAt, CloserFits, ClosingAt, HasUntouchedPages, HoldsCtail, HoldsOnly, PageFits, Unlisting, UserClosingAt, UserHolds, UserPageFits, UserPagesAt, rests, runs}
pub use Rattle.model_pagecore.specs.Pages.{Agree, All, EndsAt, InWordOnly, Laid, Last, ListingStage, PageIs, Passed, StartsAt, Unlisted, applied_all, applied_upto, cells_on, end_lsn, is_changed_page, none_in_hand, start_lsn, write_cells}
