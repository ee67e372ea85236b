-- The seats while they are cut off the first one, and while they are taken in again.
use Rattle.std.specs.Prelude.{List, drop, length, ℕ, ◌≡◌, ◌≤◌, ◌∷◌}
use lib.ListN.{get_elem?}
use mathlib.Core.Option.{some}
use Rattle.atomic_table.specs.Seated.{TableId}
use Rattle.atomic_table.specs.declared.shared.Seat.{Seat}
use Rattle.redo_drive.specs.{view_of}
use Rattle.redo_ownrule.specs.OwnMine.{OwnMine}
use Rattle.redo_ownrule.specs.Players.{numbered_as, seated}
use Rattle.redo_ownrule.specs.Playing.{IsPlayerSeat}
use Rattle.redo_ownrule.specs.declared.player.Player.{Player}
use Rattle.redo_ownrule.specs.declared.player.Player.TheVariants as player
use Rattle.redo_rule.specs.Cutting.{IsApart, IsFirst}
use Rattle.redo_rule.specs.Mine.{heard_of, Mine, number_of}
use Rattle.redo_rule.specs.declared.law.Heard.{Heard}
use Rattle.redo_rule.specs.declared.law.Numbered.{Numbered}
use Rattle.redo_rule.specs.declared.law.Slot.{Slot}
use Rattle.redo_rule.specs.declared.law.View.{View}

module _ {L D R : Type 0} where
  -- the player is the first of those that have no seat, and has a number of its own
  pub record IsHeadOf (v : View L D) (p : Player R) : Type 0 where
    pub number : ℕ
    pub heard : Heard
    pub others : List Numbered
    pub are : v.seats ≡ numbered_as number heard p ∷ others
    pub apart : IsApart number others

  -- it is the player's seat, whatever is known of the data part
  abbrev pub HasPlayer : TableId → Seat (Slot L D) (View L D) → Player R → Type 0
  HasPlayer table seat (player.Plain a) = Mine table seat (view_of a)
  HasPlayer table seat (player.Own o) = OwnMine table seat o

  -- Of the players, who have handed on this, the first so many have these seats, and the first seat has the others.
  pub record AreHandedOut (table : TableId) (number : ℕ → ℕ) (heard : ℕ → Heard) (players : List (Player R))
      (first : Seat (Slot L D) (View L D)) (seats : List (Seat (Slot L D) (View L D))) : Type 0 where
    pub is_first : IsFirst table first
    pub few : length seats ≤ length players
    pub others : first.me.0.seats ≡ seated number heard (length seats) (drop (length seats) players)
    pub each : (i : ℕ) (seat : Seat (Slot L D) (View L D)) (p : Player R) → get_elem? seats i ≡ some seat
        → get_elem? players i ≡ some p
        → IsPlayerSeat table seat p × (number_of seat.me.0 ≡ number i) × (heard_of seat.me.0 ≡ heard i)
