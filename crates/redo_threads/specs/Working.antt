-- Players in their seats, and how they go on to their ends.
use Rattle.std.specs.Prelude.{List, [], length, slice_index_or, vec_capacity, ℕ, ◌<◌, ◌∷◌, ◌≡◌, ◌≤◌}
use Rattle.std.specs.List.{AllZip, insert, remove}
use lib.ListN.{get_elem?}
use mathlib.Core.Option.{some}
use Rattle.atomic_table.specs.Seated.{TableId}
use Rattle.atomic_table.specs.declared.shared.Seat.{Seat}
use Rattle.model_core.specs.{Given}
use Rattle.model_core.specs.States as model
use Rattle.model_running.specs.Schedule.{HasEnded}
use Rattle.redo_drive.specs.{view_of}
use Rattle.redo_ownrule.specs.Players.{actor_of, IsAtRest, IsSamePlayer}
use Rattle.redo_ownrule.specs.Playing.{IsPlayerSeat}
use Rattle.redo_ownrule.specs.declared.player.Player.{Player}
use Rattle.redo_rule.specs.Mine.{IsSameSeat}
use Rattle.redo_rule.specs.declared.law.Slot.{Slot}
use Rattle.redo_rule.specs.declared.law.View.{View}
use Rattle.redo_threads.specs.declared.crew.Crew.{Crew}

-- a user has ended
abbrev pub IsUserOver : model.Actor → Type 0
IsUserOver (model.User u) = HasEnded u
IsUserOver _ = Unit {0}

module _ {F : Type 0} where
  abbrev pub IsOver : Player F → Type 0
  IsOver p = IsUserOver (view_of (actor_of p))

  -- a player is at rest, and a user has ended
  pub record AtEnd (p : Player F) : Type 0 where
    pub rests : IsAtRest p
    pub over : IsOver p

  abbrev pub AreAtEnd : List (Player F) → Type 0
  AreAtEnd players = (i : ℕ) (p : Player F) → get_elem? players i ≡ some p → AtEnd p

-- a player in its seat
pub record Sitting (L D F : Type 0) : Type 0 where
  pub seat : Seat (Slot L D) (View L D)
  pub player : Player F

module _ {L D F : Type 0} where
  -- each of these players has one of these seats, whatever the seat's number
  abbrev pub AreSeated : TableId → List (Seat (Slot L D) (View L D)) → List (Player F) → Type 0
  AreSeated table = AllZip (IsPlayerSeat table)

  -- each of these players in its seat of these
  abbrev pub workers : List (Seat (Slot L D) (View L D)) → List (Player F) → List (Sitting L D F)
  workers [] players = []
  workers (seat ∷ seats) [] = []
  workers (seat ∷ seats) (player ∷ players) = record { seat = seat; player = player } ∷ workers seats players

module _ {L D F : Type 0} (stands : F → List Given → Type 0) (table : TableId) where
  -- The same player, later, in the same seat of this table; and what the seat has heard since, its receiver got.
  pub record GoesOn (before : Seat (Slot L D) (View L D)) (p : Player F) (after : Seat (Slot L D) (View L D)) (q : Player F) : Type 0 where
    pub seat : IsPlayerSeat table after q
    pub same : IsSameSeat stands before.me.0 (actor_of p) after.me.0 (actor_of q)
    pub player : IsSamePlayer p q

  -- a player in its seat, later
  abbrev pub IsLater : Sitting L D F → Sitting L D F → Type 0
  IsLater before after = GoesOn before.seat before.player after.seat after.player

  -- the same players, later, each in the seat that it had, with room for as many as they were
  pub record KeepOn (old new : Crew L D F) : Type 0 where
    pub count : length new.seats.items ≡ length new.players.items
    pub all : AllZip IsLater (workers old.seats.items old.players.items) (workers new.seats.items new.players.items)
    pub seats_fit : vec_capacity old.seats ≤ vec_capacity new.seats
    pub players_fit : vec_capacity old.players ≤ vec_capacity new.players

module _ {L D F : Type 0} where
  -- the player at this place was taken out in its seat, and there is room for it
  pub record IsTakenOut (old : Crew L D F) (place : ℕ) (s : Seat (Slot L D) (View L D)) (p : Player F) (new : Crew L D F) : Type 0 where
    pub there : place < length old.players.items
    pub seat : s ≡ slice_index_or old.seats.items place s
    pub player : p ≡ slice_index_or old.players.items place p
    pub seats : new.seats.items ≡ remove old.seats.items place
    pub players : new.players.items ≡ remove old.players.items place
    pub seats_fit : vec_capacity new.seats ≡ vec_capacity old.seats
    pub players_fit : vec_capacity new.players ≡ vec_capacity old.players
    pub seats_room : length new.seats.items < vec_capacity new.seats
    pub players_room : length new.players.items < vec_capacity new.players

  -- a player has room at this place
  pub record HasPlace (crew : Crew L D F) (place : ℕ) : Type 0 where
    pub seats : place ≤ length crew.seats.items
    pub players : place ≤ length crew.players.items
    pub seats_room : length crew.seats.items < vec_capacity crew.seats
    pub players_room : length crew.players.items < vec_capacity crew.players

  -- a player was put in at this place, in its seat
  pub record IsPutBack (old : Crew L D F) (place : ℕ) (s : Seat (Slot L D) (View L D)) (p : Player F) (new : Crew L D F) : Type 0 where
    pub seats : new.seats.items ≡ insert old.seats.items place s
    pub players : new.players.items ≡ insert old.players.items place p
    pub seats_fit : vec_capacity new.seats ≡ vec_capacity old.seats
    pub players_fit : vec_capacity new.players ≡ vec_capacity old.players
