-- Which actor has which seat: the users that have lines, by their numbers, then the writer and the flusher, and then,
-- unless the log runs alone, the closer, the cleaner and the checkpointer; and at last the readers of the log.
use Rattle.std.specs.Prelude.{Bool, List, false, length, map, suc, true, ℕ, ◌++◌, ◌+◌, ◌<◌, ◌∷◌, ◌≡◌}
use lib.ListN.{get_elem?}
use mathlib.Core.Option.{some}
use Rattle.model_core.specs.{Actor, FlusherState, UserState, WriterState, Setup}
use Rattle.model_core.specs.States as actor
use Rattle.model_running.specs.Schedule.{ArePageActors}

pub record AreSeated (live : Bool) (c : Setup) (actors : List Actor) : Type 0 where
  pub users : List UserState
  pub writer : WriterState
  pub flusher : FlusherState
  pub others : List Actor
  pub are : ◌≡◌ {A = List Actor} actors (map actor.User users ++ actor.Writer writer ∷ actor.Flusher flusher ∷ others)
  pub page_actors : ArePageActors c.log_only others
  pub ascending : (i : ℕ) (u v : UserState) → get_elem? users i ≡ some u → get_elem? users (suc i) ≡ some v
      → u.user < v.user
  -- exactly the users that have lines, and of a live run those that may get some
  pub have_lines : live ≡ false → (i : ℕ) (u : UserState) → get_elem? users i ≡ some u → 0 < length (c.script u.user)
  -- unless the run is a live one each keeps all its lines
  pub keep : live ≡ false → (i : ℕ) (u : UserState) → get_elem? users i ≡ some u → u.keeps ≡ true
  pub all : (user : ℕ) → 0 < length (c.script user)
      → (i : ℕ) × (u : UserState) × (get_elem? users i ≡ some u) × (u.user ≡ user)
  pub closer : c.closer ≡ length users + 2
  pub cleaner : c.cleaner ≡ length users + 3
  pub checkpointer : c.checkpointer ≡ length users + 4
