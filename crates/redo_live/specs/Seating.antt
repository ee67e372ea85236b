-- The users and workers of a store, each in its seat.
use Rattle.std.specs.Prelude.{List, [], length, vec_capacity, ℕ, ◌+◌, ◌<◌, ◌≡◌, ◌≤◌}
use lib.ListN.{get_elem?}
use mathlib.Core.Option.{some}
use Rattle.atomic_table.specs.Seated.{TableId}
use Rattle.atomic_table.specs.declared.shared.Seat.{Seat}
use Rattle.model_core.specs.{new_user, UserState}
use Rattle.model_core.specs.declared.words.Layout.{Layout}
use Rattle.redo_drive.specs.declared.actor.Actor.{Actor}
use Rattle.redo_live.specs.Holding.{IsPlayedBy}
use Rattle.redo_live.specs.declared.seating.Rooms.{Rooms}
use Rattle.redo_live.specs.declared.user.User.{User}
use Rattle.redo_live.specs.declared.worker.Worker.{Worker}
use Rattle.redo_ownrule.specs.Playing.{IsPlayerSeat}
use Rattle.redo_ownrule.specs.declared.player.Player.{Player}
use Rattle.redo_ownrule.specs.declared.player.Player.TheVariants as player
use Rattle.redo_rule.specs.Mine.{number_of}
use Rattle.redo_rule.specs.declared.law.Slot.{Slot}
use Rattle.redo_rule.specs.declared.law.View.{View}

module _ {L D : Type 0} where
  -- there is room for so many users, and for all players
  pub record HaveRoom (users actors : ℕ) (rooms : Rooms L D) : Type 0 where
    pub no_users : rooms.users.items ≡ []
    pub users_fit : users ≤ vec_capacity rooms.users
    pub no_workers : rooms.workers.items ≡ []
    pub workers_fit : actors ≤ vec_capacity rooms.workers
    pub no_seats : rooms.seats.items ≡ []
    pub seats_fit : actors ≤ vec_capacity rooms.seats
    pub no_players : rooms.players.items ≡ []
    pub players_fit : actors ≤ vec_capacity rooms.players

-- a player by its own program
abbrev pub IsPlain : {R : Type 0} → Player R → Type 0
IsPlain {R} p = (a : Actor R) × (◌≡◌ {A = Player R} p (player.Plain a))

-- How the players of a store are seated: at which table, with which words, how many blocks the log has, and how many of
-- them are users.
pub record Plan : Type 0 where
  pub table : TableId
  pub layout : Layout
  pub blocks : ℕ
  pub users : ℕ

-- the user of this place as a live run begins
abbrev pub idle_at : Plan → ℕ → UserState
idle_at plan number = new_user (number + 1) plan.blocks []

module _ {L D R : Type 0} where
  -- the seat is the player's, which has this number, and is a user without lines if that is below that of the users, and
  -- else no user
  pub record IsSeatedAt (plan : Plan) (number : ℕ) (seat : Seat (Slot L D) (View L D)) (p : Player R) : Type 0 where
    pub sits : IsPlayerSeat plan.table seat p
    pub layout_is : seat.me.0.layout ≡ plan.layout
    pub number_is : number_of seat.me.0 ≡ number
    pub plain : IsPlain p
    pub user : number < plan.users → IsPlayedBy (idle_at plan number) p
    pub no_user : plan.users ≤ number → (u : UserState) → IsPlayedBy u p → ⊥

  -- these are the seats of these players, by their numbers from this one on
  pub record AreSeatedFrom (plan : Plan) (first : ℕ) (seats : List (Seat (Slot L D) (View L D))) (players : List
      (Player R))
      : Type 0 where
    pub count : length seats ≡ length players
    pub each : (i : ℕ) (seat : Seat (Slot L D) (View L D)) (p : Player R) → get_elem? seats i ≡ some seat
        → get_elem? players i ≡ some p → IsSeatedAt plan (first + i) seat p

module _ {L D : Type 0} where
  -- these are the users, by their numbers; and these the workers, by their numbers from this one on
  abbrev pub AreSeatedUsers : Plan → List (User L D) → Type 0
  AreSeatedUsers plan users = (i : ℕ) (user : User L D) → get_elem? users i ≡ some user
      → IsSeatedAt plan i user.seat user.player × (user.used ≡ 0)

  abbrev pub AreSeatedWorkers : Plan → (first : ℕ) → List (Worker L D) → Type 0
  AreSeatedWorkers plan first workers = (i : ℕ) (worker : Worker L D) → get_elem? workers i ≡ some worker
      → IsSeatedAt plan (first + i) worker.seat worker.player
