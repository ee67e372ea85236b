use Rattle.std.proofs.Common.{◌≡◌, ◌<◌, ◌≤◌, ℕ, Some}
use Rattle.std.specs.List.{slice_get}
use Rattle.model_page.specs.declared.content.Content.{Content}
use Rattle.redo_recover.proofs.pages.check_ahead.Given as goal

abbrev pub invariant-loop-number : goal.invariant-loop-number
invariant-loop-number l =
    (p : ℕ) (page : Content) → p < l.number → slice_get l.pages p ≡ Some page → page.lsn ≤ l.end
