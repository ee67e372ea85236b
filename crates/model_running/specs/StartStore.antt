-- What stands at the start of a run, from which both halves of the invariant hold.
use Rattle.std.specs.Prelude.{[], false, ℕ, ◌<◌, ◌≡◌, List}
use lib.ListN.{get_elem?}
use mathlib.Core.Option.{some}
use Rattle.model_core.specs.{Actor, CheckpointerState, IsScripted, SharedWords, DataSide, LogSide, Setup, StartPageWords, StartWords}
use Rattle.model_logcore.specs.{StartActor, StartPart}
use Rattle.model_core.specs.States as actor

pub record StartStore (D : LogSide) (E : DataSide) (c : Setup) (m : SharedWords) (p : D.Part) (d : E.Part) (seat_of : ℕ → ℕ) (writer : ℕ) (actors : List Actor) : Type 0 where
  pub script : IsScripted c
  pub some_page : 0 < c.pages
  pub words : StartWords c m
  pub page_words : StartPageWords c m
  pub log_part : StartPart D c p
  pub stored : E.Holds c.opened [] d
  pub sound : E.failed d ≡ false
  pub each : (seat : ℕ) (a : Actor) → get_elem? actors seat ≡ some a → StartActor c seat_of writer seat a
  -- where the log runs alone there is no checkpointer
  pub with_pages : (seat : ℕ) (t : CheckpointerState) → get_elem? actors seat ≡ some (actor.Checkpointer t) → c.log_only ≡ false
