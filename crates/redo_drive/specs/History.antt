-- The actors as the definitions see them, and the history of a run, as its users tell it.
use Rattle.std.specs.Prelude.{IsPermutation, List, [], map, ℕ, ◌∷◌}
use Rattle.std.specs.List.{flat_map}
use Rattle.std.specs.List.Sorted.{IsNonDecreasingBy}
use Rattle.model_core.specs.States as model
use Rattle.model_core.specs.{entries_from, UserState}
use Rattle.model_running.specs.{history_entry}
use Rattle.model_report.specs.declared.entry.Entry.{Entry}
use Rattle.model_report.specs.declared.entry.Marks.{Marks}
use Rattle.redo_drive.specs.declared.actor.Actor.{Actor}
use Rattle.redo_drive.specs.declared.actor.Actor.TheVariants as own
use Rattle.redo_follow.specs.Following.{Following}

-- its groups from the k-th line on, which start at these places
abbrev pub listed_from : Marks → UserState → ℕ → List ℕ → List Entry
listed_from marks u k starts = map (history_entry (λ user. u.k) marks) (entries_from u.user u.lines k starts)

-- the groups of an actor, and those of all
abbrev pub listed : Marks → model.Actor → List Entry
listed marks (model.User u) = listed_from marks u 0 u.starts
listed marks _ = []

abbrev pub all_listed : Marks → List model.Actor → List Entry
all_listed marks actors = flat_map (listed marks) actors

-- the history lists the groups of all, in lsn order
pub record ListsInOrder (marks : Marks) (actors : List model.Actor) (history : List Entry) : Type 0 where
  pub all : IsPermutation (all_listed marks actors) history
  pub in_order : IsNonDecreasingBy (λ entry. entry.start) history

abbrev pub view_of : {R : Type 0} → Actor R → model.Actor
view_of (own.User user) = model.User user
view_of (own.Writer writer) = model.Writer writer
view_of (own.Flusher flusher) = model.Flusher flusher
view_of (own.Closer closer) = model.Closer closer
view_of (own.Cleaner cleaner) = model.Cleaner cleaner
view_of (own.Checkpointer checkpointer) = model.Checkpointer checkpointer
view_of (own.Archiver archiver) = model.Reader archiver
view_of (own.Follower follower) = model.Reader follower.state

abbrev pub views_of : {R : Type 0} → List (Actor R) → List model.Actor
views_of actors = map view_of actors

-- the followers among some actors, in their order
abbrev pub followers_in : {R : Type 0} → List (Actor R) → List (Following R)
followers_in [] = []
followers_in (own.Follower f ∷ actors) = f ∷ followers_in actors
followers_in (_ ∷ actors) = followers_in actors
