-- whatever is restored by the groups before is restored by these too, and no more bytes are left
use Rattle.std.proofs.Common.{◌≡◌, ◌≤◌, ◌+◌, ℕ, List, length}
use Rattle.model_log.specs.{sn_of}
use Rattle.redo_apply.specs.{ArePagesOf}
use Rattle.redo_archive.specs.Grouped.{Aim, IsApplied}
use Rattle.redo_archive.proofs.groups.apply_groups.Given as goal

abbrev pub invariant-groups : goal.invariant-groups
invariant-groups l = record {
  goes_on : (aim : Aim) (whole : List ℕ) → aim.shape ≡ l.shape → aim.lsn ≡ l.lsn
      → IsApplied aim whole l.fn.at l.fn.bytes l.fn.restored → IsApplied aim whole l.at l.rest l.restored;
  lsns : sn_of l.at + length l.rest ≤ sn_of l.fn.at + length l.fn.bytes;
  numbers : l.restored.n + length l.rest ≤ l.fn.restored.n + length l.fn.bytes;
  its_pages : ArePagesOf l.shape l.restored.pages;
}

abbrev pub decreases-groups : goal.decreases-groups
decreases-groups l = length l.rest
