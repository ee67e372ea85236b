-- A store is closed.
use Rattle.std.specs.Prelude.{List, length, map, ℕ, ◌+◌, ◌<◌, ◌≡◌, ◌≤◌}
use lib.ListN.{get_elem?}
use mathlib.Core.Option.{some}
use Rattle.atomic_table.specs.declared.shared.Seat.{Seat}
use Rattle.model_core.specs.{UserState}
use Rattle.model_core.specs.States as model
use Rattle.model_reads.specs.declared.read.ReadEnd.{ReadEnd}
use Rattle.redo_disk.specs.{Call}
use Rattle.redo_disk.specs.Sight.{Seen}
use Rattle.redo_follow.specs.declared.tally.Tally.{Tally}
use Rattle.redo_live.specs.Holding.{AreWorkersOf, IsOpen, IsUserOf, reads_of, state_of}
use Rattle.redo_live.specs.declared.store.Store.{Store}
use Rattle.redo_live.specs.declared.user.User.{User}
use Rattle.redo_live.specs.declared.worker.Worker.{Worker}
use Rattle.redo_ownrule.specs.LiveClosing.{user_count}
use Rattle.redo_ownrule.specs.LiveLeaving.{LeavesLive}
use Rattle.redo_ownrule.specs.Sharing.{opened_of, starts_of}
use Rattle.redo_ownrule.specs.declared.player.Player.{Player}
use Rattle.redo_rule.specs.Mine.{number_of}
use Rattle.redo_rule.specs.declared.closing.Left.{Left}
use Rattle.redo_rule.specs.declared.law.Slot.{Slot}
use Rattle.redo_rule.specs.declared.law.View.{View}
use Rattle.redo_threads.specs.Working.{AtEnd}

module _ {L D : Type 0} where
  -- the seats and the players of users and of workers
  abbrev pub seats_of : List (User L D) → List (Seat (Slot L D) (View L D))
  seats_of users = map (λ (user : User L D). user.seat) users

  abbrev pub players_of : List (User L D) → List (Player Tally)
  players_of users = map (λ (user : User L D). user.player) users

  abbrev pub worker_seats : List (Worker L D) → List (Seat (Slot L D) (View L D))
  worker_seats workers = map (λ (worker : Worker L D). worker.seat) workers

  abbrev pub worker_players : List (Worker L D) → List (Player Tally)
  worker_players workers = map (λ (worker : Worker L D). worker.player) workers

  -- each worker has come to its end
  abbrev pub HaveEnded : List (Worker L D) → Type 0
  HaveEnded workers = (i : ℕ) (worker : Worker L D) → get_elem? workers i ≡ some worker → AtEnd worker.player

  -- THE STORE MAY BE CLOSED with these: users of it, in any order, and all its workers, in the order in which it gave
  -- them. A user that isn't among them was dropped.
  pub record MayClose (store : Store L D) (users : List (User L D)) (workers : List (Worker L D)) : Type 0 where
    pub is_open : IsOpen store
    pub users_are : (i : ℕ) (user : User L D) → get_elem? users i ≡ some user → IsUserOf store user
    pub few : length users ≤ user_count store.shared
    pub workers_are : AreWorkersOf store (user_count store.shared) workers
    pub all_workers : user_count store.shared + length workers ≡ length (starts_of store.shared)

  -- THESE ARE ALL USERS AND WORKERS OF THE STORE, in the order in which it gave them.
  pub record AreAllOf (store : Store L D) (users : List (User L D)) (workers : List (Worker L D)) : Type 0 where
    pub may_close : MayClose store users workers
    pub in_order : (i : ℕ) (user : User L D) → get_elem? users i ≡ some user → number_of user.seat.me.0 ≡ i
    pub all_users : length users ≡ user_count store.shared

  -- WHAT THE STORE LEAVES is what a live run leaves. Each user that was given back is among its actors, by its number, as it
  -- was. A user that was dropped is among them in whatever state: of its last group no more is told than of any group of the
  -- history, that it is there whole or not at all.
  pub record LeavesStore (log_seen : L → Seen) (log_gives : L → Call → L → Type 0) (data_seen : D → Seen)
      (data_gives : D → Call → D → Type 0) (store : Store L D) (users : List (User L D))
      (left : Left L D) : Type 0 where
    pub actors : List model.Actor
    pub of_users : (i : ℕ) (user : User L D) → get_elem? users i ≡ some user
        → get_elem? actors (number_of user.seat.me.0) ≡ some (model.User (state_of user))
    pub no_other : (n : ℕ) (u : UserState) → get_elem? actors n ≡ some (model.User u) → n < user_count store.shared
    pub reads : ℕ → List ReadEnd
    pub of_reads : (i : ℕ) (user : User L D) → get_elem? users i ≡ some user
        → ◌≡◌ {A = List ReadEnd} (reads (number_of user.seat.me.0)) (reads_of user)
    pub leaves : LeavesLive log_seen log_gives data_seen data_gives (opened_of store.shared) store.log_only actors reads
        left
