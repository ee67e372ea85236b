pub mod Archiving
pub mod Asking
pub mod Beginning
pub mod Begins
pub mod Calls
pub mod DataPartSide
pub mod Drive
pub mod Followed
pub mod History
pub mod Leaving
pub mod Lists
pub mod LiveActors
pub mod LogPartSide
pub mod Receiving
pub mod Reserved
pub mod Running
pub mod Setups
pub mod Sides
pub mod StartWords
pub mod Startable
pub mod Steps
pub use Rattle.redo_drive.specs.Calls.{AskOfBoth, CallOnBoth, CallsOn, HasFailedBy, call_answer}
pub use Rattle.redo_drive.specs.Startable.{HasNewFollowers, HasReading, room_from, AreNewFollowers, IsNewArchive, MayBegin, plan_with}
pub use Rattle.redo_drive.specs.Drive.{ComesToRun, HasMemory, HoldsRun, IsOwedSynced, Owes, closed_run}
pub use Rattle.redo_drive.specs.Asking.{checkpoint_requests, read_requests, sync_requests, write_requests, AskOf, AskOfParts, call_code, code_of, device_code, lent_pages, lent_writes, turn_data_side, turn_log_side}
pub use Rattle.redo_drive.specs.Archiving.{Appends, ArchivesRun, AsksUpTo, FinishesArchive, HasArchived, HasCome, HasComeTo, HasNoArchiver, HaveArchived, HoldsFrom, IsBeside, IsReadBack, IsSameArchive, StandsBeside}
pub use Rattle.redo_drive.specs.History.{ListsInOrder, all_listed, followers_in, listed, view_of, views_of}
pub use Rattle.redo_drive.specs.Lists.{AreLists, Listings, added, listed_of, listing_at, lists_of, no_list, removed, with_list}
pub use Rattle.redo_drive.specs.Receiving.{HasGot, HasTaken, IsSameFollower, MarkFits, filling_of, follower_of, handed_by}
pub use Rattle.redo_drive.specs.Running.{AreOnRun, DataReady, FailedHasCause, HasSameDevices, HasSamePages, HasWholePages, IsPlayable, IsPlayed, IsServed, LogReady, MayBatchLent, MayServe, MayWriteLent, RunOf, RunsFromWith, RunsWith, TakesTurn, code_in, core_of, groups_of, run_data_side, run_log_side, told_by}
