use Rattle.std.proofs.Common.{subst, rules}
use Rattle.model_log.specs.{GivesGroup}
use Rattle.redo_recover.proofs.Grouping.{unfit-gives_bad, bad-gives_bad}
use Rattle.redo_recover.proofs.groups.read_storable.Goals as goal

pub returns-else-fits : goal.returns-else-fits
returns-else-fits c =
    let begins = subst (λ got. GivesGroup c.args.bytes.now got) c.in-Value.is c.in_ok-group.ensures in
    unfit-gives_bad c.one_group.ensures c.args.shape.now c.args.bytes.now c.in-Value.group c.in-Value.taken begins (search rules)

pub returns-in-Bad : goal.returns-in-Bad
returns-in-Bad c =
    bad-gives_bad c.args.shape.now c.args.bytes.now (subst (λ got. GivesGroup c.args.bytes.now got) c.in-Bad.is c.in_ok-group.ensures)
