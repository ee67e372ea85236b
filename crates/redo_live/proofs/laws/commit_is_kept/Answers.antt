use Rattle.std.proofs.Common.{ap, arith, ◌∙◌}
use Rattle.model_core.specs.{UserState}
use Rattle.model_core.specs.States as model
use Rattle.redo_live.proofs.KeptCommit as kept
use Rattle.redo_live.proofs.laws.commit_is_kept.Goals as goal
use Rattle.redo_live.specs.Holding.{state_of}
use Rattle.redo_rule.specs.Mine.{number_of}

pub returns-clause-kept : goal.returns-clause-kept
returns-clause-kept g c store users left old new last i mode end items is_open committed on at leaves =
    kept.commit_is_kept g.L.Sectors.seen g.L.Sectors.gives g.D.Sectors.seen g.D.Sectors.gives store users left old new
    last i mode end items is_open committed on at leaves

pub returns-clause-failed : goal.returns-clause-failed
returns-clause-failed g c store users left old new last i mode code items so on at leaves =
    let step = ap (λ (u : UserState). u.step) (on.failed so.failed) ∙ so.failed in
    let shown = leaves.leaves.reaches.code (number_of last.seat.me.0) (model.User (state_of last))
    (leaves.of_users i last at) step in
    λ none. omega arith
