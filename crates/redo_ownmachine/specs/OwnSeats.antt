-- Who is in a store whose users write for themselves.
use Rattle.std.specs.Prelude.{List}
use Rattle.model_core.specs.States as model
use Rattle.model_own.specs.{all_actors, LogWork, OwnUser}
pub use Rattle.model_ownrun.specs.OwnRuns.{AreAtHome}

-- the users, the log's work, and the other actors, as the definitions see them
pub record OwnSeats : Type 0 where
  pub users : List OwnUser
  pub work : LogWork
  pub others : List model.Actor

-- all of them as actors of a store that has a writer and a flusher
abbrev pub actors_of : OwnSeats → List model.Actor
actors_of seats = all_actors seats.users seats.work seats.others
