-- A live store that its players share, as its run begins.
use Rattle.std.specs.Prelude.{Bool, List, Option, Some, [], false, map, ◌≡◌}
use Rattle.model_core.specs.States as model
use Rattle.model_core.specs.declared.words.Layout.{Layout}
use Rattle.redo_drive.specs.LiveActors.{live_actors, live_plan}
use Rattle.redo_drive.specs.History.{views_of}
use Rattle.redo_ownrule.specs.Players.{actor_of}
use Rattle.redo_ownrule.specs.Sharing.{IsUnseated, key_of, opened_of, own_of, shared_script}
use Rattle.redo_ownrule.specs.declared.player.Player.{Player}
use Rattle.redo_ownrule.specs.declared.shared.Shared.{Shared}
use Rattle.redo_rule.specs.declared.law.Live.{Live}
use Rattle.redo_store.specs.declared.opened.Opened.{Opened}
use Rattle.redo_words.specs.{shape_layout}

-- THE STORE IS SHARED AS A LIVE RUN BEGINS on this opened store: with so many users, none of which has a line yet, and
-- with the actors beside them as its players, none of which has its seat.
pub record IsNewlyLive {L D R : Type 0} (opened : Opened L D) (live : Live) (log_only : Bool) (shared : Shared L D R)
    (players : List (Player R)) : Type 0 where
  pub opened_is : opened_of shared ≡ opened
  pub is_live : ◌≡◌ {A = Option Live} (key_of shared).live (Some live)
  pub no_script : shared_script shared ≡ []
  pub plan_is : (key_of shared).plan ≡ live_plan log_only
  pub own_is : own_of shared ≡ false
  pub layout_is : ◌≡◌ {A = Layout} shared.layout (shape_layout opened.shape)
  pub actors_are : ◌≡◌ {A = List model.Actor} (views_of (map actor_of players))
      (live_actors opened.shape live.users opened.start (live_plan log_only))
  pub unseated : IsUnseated shared players
