use Rattle.std.proofs.Common.{◌+◌, ap, subst, sym, ◌∙◌}
use Rattle.std.proofs.lemmas.List.{take_rest}
use Rattle.model_log.specs.{lsn_of}
use Rattle.redo_recover.specs.Groups.{GivesStorable}
use Rattle.redo_recover.specs.Runs.{AreGroupsSoFar}
use Rattle.redo_recover.proofs.Grouping.{AreGroupsSoFar-push, rest-shorter, taken-some}
use Rattle.redo_recover.proofs.Joining.{front-so_far}
use Rattle.redo_recover.proofs.groups.scan_groups.Goals as goal

pub groups-init : goal.groups-init
groups-init c =
    subst (λ rest. AreGroupsSoFar c.args.shape.now c.args.bytes.now c.args.start c.args.front.wholes.items c.args.front.end rest)
    (sym (take_rest c.args.bytes.now c.args.front.to))
    (front-so_far c.args.shape.now c.args.bytes.now c.args.start c.args.front c.requires.front)

pub groups-smaller : goal.groups-smaller
groups-smaller c =
    let got = subst (λ got. GivesStorable c.args.shape.now c.groups.rest.now got) c.in-Value.is c.in_ok-group.ensures in
    let some = taken-some c.args.shape.now c.in-Value.group c.groups.rest.now c.in-Value.taken got in
    rest-shorter c.groups.rest.now c.in-Value.taken some got.1

pub groups-preserved : goal.groups-preserved
groups-preserved c =
    let got = subst (λ got. GivesStorable c.args.shape.now c.groups.rest.now got) c.in-Value.is c.in_ok-group.ensures in
    AreGroupsSoFar-push c.lsn_and_sn.ensures.back c.args.shape.now c.args.bytes.now c.args.start c.groups.wholes.items c.groups.end c.groups.rest.now
    c.in-Value.group c.in-Value.taken c.groups.invariant got _ _ _ c.in_ok-push-in-Value.ensures.items (c.lsn_of-next.ensures ∙ ap (λ n. lsn_of (n + c.in-Value.taken)) c.sn_of.ensures)
    (take_rest c.groups.rest.now c.in-Value.taken)
