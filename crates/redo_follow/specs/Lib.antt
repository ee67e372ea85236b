pub mod Following
pub mod Handing
pub mod Lending
pub use Rattle.redo_follow.specs.Following.{HasTally, Kept, joined_given}
pub use Rattle.redo_follow.specs.Handing.{Followed, FollowerFits, IsToFollow, StandsFor, TookAnswer, follower_fits}
