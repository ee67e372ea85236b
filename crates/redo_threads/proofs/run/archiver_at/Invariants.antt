use Rattle.std.proofs.Common.{ℕ, ◌<◌, ◌≡◌}
use lib.ListN.{get_elem?}
use mathlib.Core.Option.{some}
use Rattle.redo_ownrule.specs.declared.player.Player.{Player as ThePlayer}
use Rattle.redo_threads.specs.Archiving.{IsArchiving}
use Rattle.redo_threads.proofs.run.archiver_at.Given as goal

-- none before this place is the archiver
abbrev pub invariant-loop-place : goal.invariant-loop-place
invariant-loop-place g l = (i : ℕ) (p : ThePlayer g.row.F.Denot) → i < l.place → get_elem? l.players i ≡ some p
    → IsArchiving p → ⊥
