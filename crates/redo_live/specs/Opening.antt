-- A store as it is opened.
use Rattle.std.specs.Prelude.{Bool, List, [], length, ℕ, ◌+◌, ◌≡◌}
use lib.ListN.{get_elem?}
use mathlib.Core.Option.{some}
use Rattle.model_core.specs.{new_user}
use Rattle.model_log.specs.{run_layout}
use Rattle.redo_live.specs.Holding.{AreUsersOf, AreWorkersOf, IsOpen, state_of}
use Rattle.redo_live.specs.Quota.{share_of}
use Rattle.redo_live.specs.declared.store.Store.{Store}
use Rattle.redo_live.specs.declared.user.User.{User}
use Rattle.redo_live.specs.declared.worker.Worker.{Worker}
use Rattle.redo_ownrule.specs.LiveClosing.{user_count}
use Rattle.redo_ownrule.specs.Sharing.{opened_of, starts_of}
use Rattle.redo_store.specs.declared.opened.Opened.{Opened}

-- THE STORE IS OPEN on this opened one, with so many users, numbered from 1, of which none has a line yet, and its
-- workers behind them. They are all that play in it, and each user may have its share of what is left of the lsns.
pub record IsNewlyOpened {L D : Type 0} (opened : Opened L D) (users : ℕ) (log_only : Bool) (store : Store L D)
    (all_users : List (User L D)) (workers : List (Worker L D)) : Type 0 where
  pub is_open : IsOpen store
  pub opened_is : opened_of store.shared ≡ opened
  pub log_only_is : store.log_only ≡ log_only
  pub user_count_is : user_count store.shared ≡ users
  pub count : length all_users ≡ users
  pub users_are : AreUsersOf store all_users
  pub idle : (i : ℕ) (user : User L D) → get_elem? all_users i ≡ some user
      → state_of user ≡ new_user (i + 1) (run_layout opened.shape).blocks []
  pub workers_are : AreWorkersOf store users workers
  pub all : users + length workers ≡ length (starts_of store.shared)
  pub share : store.quota ≡ share_of opened.shape opened.start log_only (users + length workers)
