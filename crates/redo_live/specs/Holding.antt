-- A store, its users and its workers, while nobody plays them.
use Rattle.std.specs.Prelude.{List, [], false, length, vec_capacity, ℕ, ◌+◌, ◌<◌, ◌^◌, ◌≡◌, ◌≤◌}
use lib.ListN.{get_elem?}
use mathlib.Core.Option.{some}
use Rattle.model_base.specs.{IsWithinLimits}
use Rattle.model_base.specs.declared.shape.Shape.{Shape}
use Rattle.model_core.specs.{new_user, UserState}
use Rattle.model_core.specs.declared.words.Layout.{Layout}
use Rattle.model_logcore.specs.{lengths}
use Rattle.model_reads.specs.declared.read.ReadEnd.{ReadEnd}
use Rattle.model_running.specs.Schedule.{HasEnded}
use Rattle.model_script.specs.{IsScriptLine}
use Rattle.model_script.specs.declared.item.Item.{Item}
use Rattle.model_script.specs.declared.misfit.TheConstants.{MAX_USERS}
use Rattle.model_script.specs.declared.script.ScriptLine.{ScriptLine}
use Rattle.redo_drive.specs.declared.actor.Actor.{Actor}
use Rattle.redo_drive.specs.declared.actor.Actor.TheVariants as actor
use Rattle.redo_live.specs.declared.store.Store.{Store}
use Rattle.redo_live.specs.declared.user.User.{User}
use Rattle.redo_live.specs.declared.worker.Worker.{Worker}
use Rattle.redo_ownrule.specs.Players.{IsSamePlayer}
use Rattle.redo_ownrule.specs.Playing.{IsPlayerSeat}
use Rattle.redo_ownrule.specs.Sharing.{IsLive, IsSeated, key_of, opened_of, own_of, starts_of, table_of}
use Rattle.redo_ownrule.specs.declared.player.Player.{Player}
use Rattle.redo_ownrule.specs.declared.player.Player.TheVariants as player
use Rattle.redo_rule.specs.Mine.{heard_of, number_of}
use Rattle.redo_rule.specs.declared.law.About.{About}
use Rattle.redo_words.specs.{shape_layout}

-- the player is a user, whose state is this
abbrev pub IsPlayedBy : {R : Type 0} → UserState → Player R → Type 0
IsPlayedBy {R} u p = ◌≡◌ {A = Player R} p (player.Plain (actor.User u))

-- the state of the user that plays
abbrev pub state_in : {R : Type 0} → Player R → UserState
state_in (player.Plain (actor.User u)) = u
state_in _ = new_user 0 0 []

module _ {L D : Type 0} where
  abbrev pub state_of : User L D → UserState
  state_of user = state_in user.player

  -- what its reads came to
  abbrev pub reads_of : User L D → List ReadEnd
  reads_of user = (heard_of user.seat.me.0).reads

  -- a line of the user, of this mode and these operations
  abbrev pub line_by : User L D → (mode : ℕ) → List Item → ScriptLine
  line_by user mode items = record { user = (state_of user).user; mode = mode; items = items }

  -- what the store's table was told, and the shape of the store
  abbrev pub about_of : Store L D → About L D
  about_of store = key_of store.shared

  abbrev pub shape_of : Store L D → Shape
  shape_of store = (opened_of store.shared).shape

  -- THE STORE IS OPEN: its run is a live one, all players have their seats, and there is room for them once they come
  -- back.
  pub record IsOpen (store : Store L D) : Type 0 where
    pub seated : IsSeated store.shared
    pub alive : IsLive store.shared
    pub quota_is : store.quota ≡ alive.live.quota
    pub quota_small : store.quota < 2 ^ 64
    pub plain : own_of store.shared ≡ false
    pub log_only_is : store.log_only ≡ (about_of store).plan.log_only
    pub shape_is : store.shape ≡ shape_of store
    pub limits : IsWithinLimits store.shape
    pub layout_is : ◌≡◌ {A = Layout} store.shared.layout (shape_layout (shape_of store))
    pub no_seats : store.seats.items ≡ []
    pub seats_fit : length (starts_of store.shared) ≤ vec_capacity store.seats
    pub no_players : store.players.items ≡ []
    pub players_fit : length (starts_of store.shared) ≤ vec_capacity store.players

  -- THE USER IS ONE OF THE STORE'S, by its number, and has come to its end: it has done all its lines, or has failed.
  pub record IsUserOf (store : Store L D) (user : User L D) : Type 0 where
    pub is_open : IsOpen store
    pub plays : IsPlayedBy (state_of user) user.player
    pub sits : IsPlayerSeat (table_of store.shared) user.seat user.player
    pub layout : user.seat.me.0.layout ≡ store.shared.layout
    pub number : (state_of user).user ≡ number_of user.seat.me.0 + 1
    pub few : (state_of user).user ≤ MAX_USERS
    pub ended : HasEnded (state_of user)
    pub used : user.used ≡ lengths (state_of user).lines
    pub within : user.used ≤ store.quota

  -- the line is one of the user
  pub record IsLineOf (user : User L D) (line : ScriptLine) : Type 0 where
    pub number : line.user ≡ (state_of user).user
    pub in_range : IsScriptLine line

  -- THE WORKER IS ONE OF THE STORE'S, and no user.
  pub record IsWorkerOf (store : Store L D) (worker : Worker L D) : Type 0 where
    pub is_open : IsOpen store
    pub plain : (a : Actor _) × (worker.player ≡ player.Plain a)
    pub no_user : (u : UserState) → IsPlayedBy u worker.player → ⊥
    pub sits : IsPlayerSeat (table_of store.shared) worker.seat worker.player
    pub layout : worker.seat.me.0.layout ≡ store.shared.layout

  -- the same worker, later
  pub record IsSameWorker (old new : Worker L D) : Type 0 where
    pub player : IsSamePlayer old.player new.player
    pub number : number_of new.seat.me.0 ≡ number_of old.seat.me.0

  -- these are users of the store, numbered in their order; and workers, the first of which has this number
  abbrev pub AreUsersOf : Store L D → List (User L D) → Type 0
  AreUsersOf store users = (i : ℕ) (user : User L D) → get_elem? users i ≡ some user
      → IsUserOf store user × (number_of user.seat.me.0 ≡ i)

  abbrev pub AreWorkersOf : Store L D → (first : ℕ) → List (Worker L D) → Type 0
  AreWorkersOf store first workers = (i : ℕ) (worker : Worker L D) → get_elem? workers i ≡ some worker
      → IsWorkerOf store worker × (number_of worker.seat.me.0 ≡ first + i)
