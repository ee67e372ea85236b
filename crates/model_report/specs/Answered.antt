-- The state of a commit that was answered.
use Rattle.std.specs.Prelude.{ℕ, ◌≡◌, ◌≤◌, List, slice_get, Some}
use Rattle.model_report.specs.declared.entry.Entry.{Entry}
use Rattle.model_report.specs.declared.entry.Marks.{Marks}
use Rattle.model_report.specs.declared.entry.State.TheVariants.{Lost}

-- The marks are as far as a commit of the mode waits for: one of mode 1 for the flush, one of mode 2 for the write.
pub record IsAnswered (marks : Marks) (mode end : ℕ) : Type 0 where
  pub flushed : mode ≡ 1 → end ≤ marks.flushed
  pub written : mode ≡ 2 → end ≤ marks.write

-- none of these commits is lost
abbrev pub HasNoLost : List Entry → Type 0
HasNoLost entries = (i : ℕ) (entry : Entry) → slice_get entries i ≡ Some entry → entry.state ≡ Lost → ⊥
