-- A shared store whose players are given their turns by hand.
use Rattle.std.specs.Prelude.{List, false, length, ℕ, ◌+◌, ◌≡◌}
use lib.ListN.{get_elem?}
use mathlib.Core.Option.{some}
use Rattle.atomic_table.specs.Seated.{TableId}
use Rattle.atomic_table.specs.declared.shared.Seat.{Seat}
use Rattle.model_core.specs.declared.words.Layout.{Layout}
use Rattle.redo_ownrule.specs.Players.{ArePlain, MayRest, workers}
use Rattle.redo_ownrule.specs.Sharing.{AreSeatsOf, IsFixed, IsSeated, own_of, starts_of, table_of}
use Rattle.redo_ownrule.specs.declared.player.Player.{Player}
use Rattle.redo_ownrule.specs.declared.shared.Shared.{Shared}
use Rattle.redo_rule.specs.Sharing.{AreLaidOut}
use Rattle.redo_rule.specs.declared.law.Slot.{Slot}
use Rattle.redo_rule.specs.declared.law.View.{View}

-- each of these may rest
abbrev pub AllMayRest : {R : Type 0} → List (Player R) → Type 0
AllMayRest {R} players = (i : ℕ) (p : Player R) → get_elem? players i ≡ some p → MayRest p

module _ {L D R : Type 0} where
  -- these are seats of these players, none of which writes for itself, one of each, in their order; and which words
  -- there are
  pub record ArePlaying (table : TableId) (layout : Layout) (tokens : List (Seat (Slot L D) (View L D)))
      (players : List (Player R)) : Type 0 where
    pub seats : AreSeatsOf table false tokens players
    pub laid : AreLaidOut layout tokens
    pub plain : ArePlain players

  -- each player of the store has its seat, none writes for itself, there is no archive, and the script was told
  pub record IsPlaying (shared : Shared L D R) (seats : List (Seat (Slot L D) (View L D))) (players : List
      (Player R)) : Type 0 where
    pub seated : IsSeated shared
    pub own : own_of shared ≡ false
    pub plays : ArePlaying (table_of shared) shared.layout seats players
    pub all : length players + workers (own_of shared) ≡ length (starts_of shared)
    pub apart : shared.board.shared.key.plan.archive ≡ false
    pub fixed : IsFixed shared
