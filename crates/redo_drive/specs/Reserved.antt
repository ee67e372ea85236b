-- What a user has reserved for the history of a run.
use Rattle.std.specs.Prelude.{length, slice_index, true, ℕ, ◌+◌, ◌<◌, ◌^◌, ◌≡◌}
use Rattle.model_core.specs.States as model
use Rattle.model_core.specs.{entry, line_at, UserState}
use Rattle.model_running.specs.{history_entry}
use Rattle.model_report.specs.declared.entry.Entry.{Entry}
use Rattle.model_report.specs.declared.entry.Marks.{Marks}

-- the user has reserved a group for its k-th line, which ends at an sn
pub record HasReserved (u : UserState) (k : ℕ) : Type 0 where
  pub start : k < length u.starts
  pub line : k < length u.lines
  pub small : slice_index u.starts k + length (line_at u.lines k).bytes < 2 ^ 61

-- of each start that a user has
abbrev pub HasGroups : model.Actor → Type 0
HasGroups (model.User u) = (k : ℕ) → k < length u.starts → HasReserved u k
HasGroups _ = Unit {0}

-- it can tell all its groups, if it is a user
abbrev pub KeepsAll : model.Actor → Type 0
KeepsAll (model.User u) = u.keeps ≡ true
KeepsAll _ = Unit {0}

-- the group of a user's k-th line, which starts there, as the history lists it
abbrev pub listed_group : Marks → UserState → ℕ → ℕ → Entry
listed_group marks u k start = history_entry (λ user. u.k) marks (entry u.user k start (line_at u.lines k))
