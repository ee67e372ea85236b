use Rattle.std.proofs.Common.{rules, tests}
use Rattle.std.proofs.lemmas.Iterator.{cases_from_any, YieldsList-from_slice}
use Rattle.redo_memdisk.proofs.Writers.{IsCovered-from_cases, Over}
use Rattle.redo_memdisk.proofs.image.is_covered.Goals as goal

pub returns : goal.returns
returns c =
    let Here = Over c.args.k in
    IsCovered-from_cases _ c.args.writes.now c.args.k
    (cases_from_any _ _ _ Here (λ write. Here write → ⊥) c.any.ensures.ran (YieldsList-from_slice c.args.writes.now cc) (λ x q k. search (rules, tests)) (λ x q k. search (rules, tests)))
