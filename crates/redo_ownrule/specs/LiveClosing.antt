-- A live store as it is closed, where users may have been dropped with their seats.
use Rattle.std.specs.Prelude.{Bool, List, None, Option, Some, length, ℕ, ◌<◌, ◌≡◌, ◌≤◌}
use lib.ListN.{get_elem?}
use mathlib.Core.Option.{some}
use Rattle.atomic_table.specs.Seated.{TableId}
use Rattle.atomic_table.specs.declared.shared.Seat.{Seat}
use Rattle.model_core.specs.{UserState}
use Rattle.model_core.specs.States as model
use Rattle.model_reads.specs.declared.read.ReadEnd.{ReadEnd}
use Rattle.redo_disk.specs.{Call}
use Rattle.redo_disk.specs.Sight.{Seen}
use Rattle.redo_drive.specs.History.{view_of}
use Rattle.redo_ownrule.specs.LiveLeaving.{LeavesLive}
use Rattle.redo_ownrule.specs.Players.{actor_of}
use Rattle.redo_ownrule.specs.Playing.{IsPlayerSeat}
use Rattle.redo_ownrule.specs.Sharing.{key_of}
use Rattle.redo_ownrule.specs.declared.player.Player.{Player}
use Rattle.redo_ownrule.specs.declared.shared.Shared.{Shared}
use Rattle.redo_rule.specs.Mine.{heard_of, number_of}
use Rattle.redo_rule.specs.declared.closing.Left.{Left}
use Rattle.redo_rule.specs.declared.law.Live.{Live}
use Rattle.redo_rule.specs.declared.law.Slot.{Slot}
use Rattle.redo_rule.specs.declared.law.View.{View}
use Rattle.redo_store.specs.declared.opened.Opened.{Opened}

-- how many users a run has to whom lines may be handed in: those of a live run
abbrev pub users_in : Option Live → ℕ
users_in None = 0
users_in (Some live) = live.users

module _ {L D R : Type 0} where
  abbrev pub user_count : Shared L D R → ℕ
  user_count shared = users_in (key_of shared).live

  -- these are seats of these players, one of each, in their order
  pub record AreTheirSeats (table : TableId) (seats : List (Seat (Slot L D) (View L D))) (players : List (Player R))
      : Type 0 where
    pub count : length seats ≡ length players
    pub each : (i : ℕ) (seat : Seat (Slot L D) (View L D)) (p : Player R) → get_elem? seats i ≡ some seat
        → get_elem? players i ≡ some p → IsPlayerSeat table seat p

-- each actor from this number on, of so many, has its seat among these
abbrev pub HaveAllFrom : {L D : Type 0} → (first count : ℕ) → List (Seat (Slot L D) (View L D)) → Type 0
HaveAllFrom {L} {D} first count seats = (n : ℕ) → first ≤ n → n < count
    → (i : ℕ) × (seat : Seat (Slot L D) (View L D)) × (get_elem? seats i ≡ some seat) × (number_of seat.me.0 ≡ n)

-- WHAT A LIVE RUN LEAVES OF THOSE WHO ARE GIVEN BACK: what it leaves of some actors, among which each of these players stands at
-- the number of its seat, and its reads came to what its seat has heard. Only those before this number are users, of whom one that isn't
-- given back is in whatever state.
pub record LeavesGiven {L D R : Type 0} (log_seen : L → Seen) (log_gives : L → Call → L → Type 0) (data_seen : D → Seen)
    (data_gives : D → Call → D → Type 0) (opened : Opened L D) (log_only : Bool) (users : ℕ)
    (seats : List (Seat (Slot L D) (View L D))) (players : List (Player R)) (left : Left L D) : Type 0 where
  pub actors : List model.Actor
  pub given : (i : ℕ) (seat : Seat (Slot L D) (View L D)) (p : Player R) → get_elem? seats i ≡ some seat
      → get_elem? players i ≡ some p → get_elem? actors (number_of seat.me.0) ≡ some (view_of (actor_of p))
  pub reads : ℕ → List ReadEnd
  pub of_reads : (i : ℕ) (seat : Seat (Slot L D) (View L D)) → get_elem? seats i ≡ some seat
      → ◌≡◌ {A = List ReadEnd} (reads (number_of seat.me.0)) (heard_of seat.me.0).reads
  pub no_other : (n : ℕ) (u : UserState) → get_elem? actors n ≡ some (model.User u) → n < users
  pub leaves : LeavesLive log_seen log_gives data_seen data_gives opened log_only actors reads left
