-- Users and workers that have gone on beside one another.
use Rattle.std.specs.Prelude.{List, length, slice_index_or, ℕ, ◌<◌, ◌≡◌}
use Rattle.redo_live.specs.Holding.{AreUsersOf, AreWorkersOf, IsUserOf}
use Rattle.redo_live.specs.declared.store.Store.{Store}
use Rattle.redo_live.specs.declared.user.User.{User}
use Rattle.redo_live.specs.declared.worker.Worker.{Worker}
use Rattle.redo_rule.specs.Mine.{number_of}

module _ {L D : Type 0} (store : Store L D) where
  -- the user, whatever it was answered, is one of the store's, in the place that it had
  pub record Stays (old new : User L D) : Type 0 where
    pub user : IsUserOf store new
    pub place : number_of new.seat.me.0 ≡ number_of old.seat.me.0

  -- these are as many workers of the store as before, with the same numbers
  pub record HaveWorked (old new : List (Worker L D)) : Type 0 where
    pub count : length new ≡ length old
    pub still : (first : ℕ) → AreWorkersOf store first old → AreWorkersOf store first new

  -- these are as many users of the store as before, and each has done its work
  pub record HaveServed (does : ℕ → User L D → User L D → Type 0) (old new : List (User L D)) : Type 0 where
    pub count : length new ≡ length old
    pub users : AreUsersOf store new
    pub each : (i : ℕ) (d : User L D) → i < length old → does i (slice_index_or old i d) (slice_index_or new i d)
