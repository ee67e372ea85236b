mod Alone
pub mod ArchiveEnds
pub mod ArchiveStarts
pub mod Beside
pub mod Ended
pub mod EndsAs
pub mod FollowsRun
pub mod PlayedNext
pub mod RunLeft
pub mod Runs
pub mod StartLayout
pub mod TurnBeside
pub mod UserSeats
pub mod WriteAsks
