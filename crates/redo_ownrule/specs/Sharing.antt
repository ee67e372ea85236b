-- A store that its players share, as its run begins, and with all its seats given.
use Rattle.std.specs.Prelude.{Bool, IfSome, IsSome, List, None, Option, Some, [], is_some, length, map, true, vec_capacity, ℕ, ◌+◌, ◌≡◌, ◌≤◌}
use lib.ListN.{get_elem?}
use mathlib.Core.Option.{some}
use Rattle.atomic_table.specs.Seated.{TableId}
use Rattle.atomic_table.specs.declared.shared.Seat.{Seat}
use Rattle.model_core.specs.States as model
use Rattle.model_own.specs.{LogWork}
use Rattle.model_script.specs.declared.script.ScriptLine.{ScriptLine}
use Rattle.redo_drive.specs.Begins.{EndsWithReaders}
use Rattle.redo_drive.specs.LiveActors.{live_plan}
use Rattle.redo_drive.specs.{MayBegin, views_of}
use Rattle.redo_drive.specs.declared.actor.Actor.{Actor}
use Rattle.redo_drive.specs.declared.plan.Plan.{Plan}
use Rattle.redo_follow.specs.Following.{Following}
use Rattle.redo_ownrule.specs.Players.{actor_of, AreInOrder, crew, IsAtRest, place, seated, workers}
use Rattle.redo_ownrule.specs.Playing.{IsPlayerSeat}
use Rattle.redo_ownrule.specs.declared.player.Player.{Player}
use Rattle.redo_ownrule.specs.declared.shared.Shared.{Shared}
use Rattle.redo_rule.specs.Cutting.{IsFirst}
use Rattle.redo_rule.specs.Gathering.{HasOneCleaner}
use Rattle.redo_rule.specs.Mine.{number_of}
use Rattle.redo_rule.specs.Ruled.{none_heard, starts_about}
use Rattle.redo_rule.specs.Seating.{HasPart, IsCleaner}
use Rattle.redo_rule.specs.declared.law.About.{About}
use Rattle.redo_rule.specs.declared.law.Live.{Live}
use Rattle.redo_rule.specs.declared.law.Slot.{Slot}
use Rattle.redo_rule.specs.declared.law.View.{View}
use Rattle.redo_store.specs.{IsRunnable}
use Rattle.redo_store.specs.declared.opened.Opened.{Opened}

-- each of them is at rest
abbrev pub AllAtRest : {R : Type 0} → List (Player R) → Type 0
AllAtRest {R} players = (i : ℕ) (p : Player R) → get_elem? players i ≡ some p → IsAtRest p

-- The actors that the run leaves are those of the players, with the log's work, wherever that came to.
pub record AreActorsOf {R : Type 0} (own : Bool) (players : List (Player R)) (actors : List (Actor R)) : Type 0 where
  pub work : Option LogWork
  pub works : is_some work ≡ own
  pub are : ◌≡◌ {A = List (Actor R)} actors (crew work players)

module _ {L D R : Type 0} where
  -- what a store that is shared was told
  abbrev pub key_of : Shared L D R → About L D
  key_of shared = shared.board.shared.key

  abbrev pub opened_of : Shared L D R → Opened L D
  opened_of shared = shared.board.shared.key.opened.value

  abbrev pub shared_script : Shared L D R → List ScriptLine
  shared_script shared = shared.board.shared.key.script.value

  abbrev pub starts_of : Shared L D R → List model.Actor
  starts_of shared = starts_about shared.board.shared.key

  abbrev pub own_of : Shared L D R → Bool
  own_of shared = shared.board.shared.key.own_writes

  abbrev pub table_of : Shared L D R → TableId
  table_of shared = shared.board.shared.table_id

  -- these are seats of these players, one of each, in their order, and each seat has the number of its player's actor
  pub record AreSeatsOf (table : TableId) (own : Bool) (seats : List (Seat (Slot L D) (View L D))) (players : List (Player R)) : Type 0 where
    pub count : length seats ≡ length players
    pub each : (i : ℕ) (seat : Seat (Slot L D) (View L D)) (p : Player R) → get_elem? seats i ≡ some seat
        → get_elem? players i ≡ some p → IsPlayerSeat table seat p × (number_of seat.me.0 ≡ place own players i)

  -- No line is handed in to the run: its script was told as it began.
  abbrev pub IsFixed : Shared L D R → Type 0
  IsFixed shared = shared.board.shared.key.live ≡ None

  -- THE RUN IS A LIVE ONE: its lines are handed in while it goes on, and none was told as it began. Nobody reads its log.
  pub record IsLive (shared : Shared L D R) : Type 0 where
    pub live : Live
    pub is_live : shared.board.shared.key.live ≡ Some live
    pub no_script : shared_script shared ≡ []
    pub plan_is : shared.board.shared.key.plan ≡ live_plan shared.board.shared.key.plan.log_only

  -- A run can start on the store, and there is room for the actors that it leaves. Where its script was told, that may begin,
  -- and there is room for its history.
  pub record HasRoomToBegin (shared : Shared L D R) : Type 0 where
    pub runnable : IsRunnable (opened_of shared)
    pub may : IsFixed shared → MayBegin (opened_of shared) (shared_script shared) shared.board.shared.key.plan.log_only
    pub no_entries : shared.entries.items ≡ []
    pub room : IsFixed shared → length (shared_script shared) ≤ vec_capacity shared.entries
    pub no_actors : shared.actors.items ≡ []
    pub actors_fit : length (starts_of shared) ≤ vec_capacity shared.actors

  -- NO PLAYER HAS A SEAT YET. These are the players as they begin, and there is room for their seats.
  pub record IsUnseated (shared : Shared L D R) (players : List (Player R)) : Type 0 where
    pub ready : HasRoomToBegin shared
    pub order : AreInOrder (own_of shared) players
    pub count : length players + workers (own_of shared) ≡ length (starts_of shared)
    pub one_cleaner : HasOneCleaner (views_of (map actor_of players))
    pub no_cleaner : shared.board.shared.key.plan.log_only ≡ true → (i : ℕ) (a : model.Actor)
        → get_elem? (views_of (map actor_of players)) i ≡ some a → IsCleaner a → ⊥
    pub first : IsFirst (table_of shared) shared.first
    pub told : shared.first.me.0.about ≡ Some shared.board.shared.key
    pub layout : shared.first.me.0.layout ≡ shared.layout
    pub all : shared.first.me.0.seats ≡ seated (place (own_of shared) players) none_heard 0 players
    pub part : HasPart shared.first.me.0
    pub has_room : IsSome shared.seats
    pub seats_fit : IfSome shared.seats (λ v. (v.items ≡ []) × (length players ≤ vec_capacity v))

  -- The store is shared as the run of this script on this opened store begins, by this plan, with these followers; where
  -- `own_writes` is set its users write for themselves. With the log's work as it begins the players are all actors of the run.
  pub record IsNewlyShared (opened : Opened L D) (script : List ScriptLine) (plan : Plan) (own_writes : Bool)
      (followers : List (Following R)) (shared : Shared L D R) (players : List (Player R)) : Type 0 where
    pub opened_is : opened_of shared ≡ opened
    pub script_is : shared_script shared ≡ script
    pub plan_is : shared.board.shared.key.plan ≡ plan
    pub own_is : own_of shared ≡ own_writes
    pub followers_are : shared.board.shared.key.plan.followers ≡ length followers
    pub fixed : IsFixed shared
    pub work : Option LogWork
    pub works : is_some work ≡ own_writes
    pub actors_are : starts_of shared ≡ views_of (crew work players)
    pub readers : EndsWithReaders opened.start plan.archive (crew work players) followers
    pub unseated : IsUnseated shared players

  -- EACH PLAYER HAS ITS SEAT. Where the log runs alone the first seat keeps the data part.
  pub record IsSeated (shared : Shared L D R) : Type 0 where
    pub ready : HasRoomToBegin shared
    pub first : IsFirst (table_of shared) shared.first
    pub none : shared.first.me.0.seats ≡ []
    pub alone : shared.board.shared.key.plan.log_only ≡ true → HasPart shared.first.me.0
