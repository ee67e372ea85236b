use Rattle.std.proofs.Common.{ap, ◌∙◌}
use Rattle.model_core.specs.{filled, lent}
use Rattle.redo_drive.proofs.SomeLent.{some_lent}
use Rattle.redo_drive.specs.{call_answer, view_of}
use Rattle.redo_drive.specs.declared.device.Device.TheVariants.{Log}
use Rattle.redo_rule.proofs.Calling.{called_fits, called_ok, lends_slot, may_call, plain_leaves}
use Rattle.redo_rule.specs.Plays.{block_filling}
use Rattle.redo_rule.proofs.device.sync.Goals as goal

pub slot_mut-requires : goal.slot_mut-requires
slot_mut-requires g c = lends_slot c.args.actor.now c.requires tt

pub sync_slot-ended-requires : goal.sync_slot-ended-requires
sync_slot-ended-requires g c =
    let given = some_lent (lent (view_of c.args.actor.now)) in
    may_call c.args.actor.now c.requires tt c.slot_mut.result.now c.slot_mut.ensures.value given.0 given.1

pub load-requires : goal.load-requires
load-requires g c =
    let e = c.sync_slot-ended.ensures.called in
    let given = some_lent (lent (view_of c.args.actor.now)) in
    called_ok c.args.actor.now c.requires tt c.slot_mut.result.now c.slot_mut.ensures.value _ _ _ e g.L.Sectors.seen
    g.D.Sectors.seen
    g.D.Sectors.gives c.args.table.now.key given.0 given.1
    (λ faults start first. e.served faults start first
    (lent (filled (view_of c.args.actor.now) (block_filling e.now.block))))

pub took-requires : goal.took-requires
took-requires g c =
    let may = called_fits c.args.actor.now c.requires tt c.slot_mut.result.now c.slot_mut.ensures.value _ _ _
    c.sync_slot-ended.ensures.called g.L.Sectors.seen g.D.Sectors.seen c.load.new.seat c.load.result c.load.ensures
    c.answer_of.result (c.answer_of.ensures
    ∙ ap (call_answer Log _) (c.sync_slot-ended.ensures.stable c.sync_slot-ended.ensures.called.now
    c.sync_slot-ended.ensures.called.new_is)) in
    record { fits = may.0; mark = may.1 }

pub returns : goal.returns
returns g c = plain_leaves c.args.actor.now c.requires tt c.slot_mut.result.now c.slot_mut.ensures.value _ _ _
    c.sync_slot-ended.ensures.called g.L.Sectors.seen g.D.Sectors.seen c.load.new.seat c.load.result c.load.ensures
    c.answer_of.result (c.answer_of.ensures
    ∙ ap (call_answer Log _) (c.sync_slot-ended.ensures.stable c.sync_slot-ended.ensures.called.now
    c.sync_slot-ended.ensures.called.new_is)) g.R.Receiver.stands_for c.took.result
    c.took.new.self tt c.took.ensures
