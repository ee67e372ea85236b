use Rattle.std.proofs.Common.{subst, sym}
use Rattle.model_core.specs.{filled, lent}
use Rattle.model_core.specs.States as model
use Rattle.redo_drive.specs.{view_of}
use Rattle.redo_rule.proofs.Calling.{called_fits, called_ok, lends_same, lends_slot, may_call, plain_leaves}
use Rattle.redo_rule.specs.Plays.{block_filling}
use Rattle.redo_words.specs.{Lends}
use Rattle.redo_rule.proofs.device.write_to.Goals as goal

pub slot_mut-requires : goal.slot_mut-requires
slot_mut-requires g c = lends_slot c.args.actor.now c.requires tt

pub write_slot-ended-requires : goal.write_slot-ended-requires
write_slot-ended-requires g c = may_call c.args.actor.now c.requires tt c.slot_mut.result.now
    c.slot_mut.ensures.value c.lent.result
    c.lent.ensures

pub load-requires : goal.load-requires
load-requires g c =
    let e = c.write_slot-ended.ensures in
    let f = block_filling e.now.block in
    called_ok c.args.actor.now c.requires tt c.slot_mut.result.now c.slot_mut.ensures.value _ _ _ e g.L.Sectors.seen
    g.D.Sectors.seen
    g.D.Sectors.gives c.args.table.now.key c.lent.result c.lent.ensures
    (λ faults start first. e.served faults start first (lent (filled (view_of c.args.actor.now) f))
    (subst (λ (z : model.Actor). Lends c.lent.result (lent z)) (sym (lends_same c.args.actor.now c.requires tt f tt))
    c.lent.ensures))

pub took-requires : goal.took-requires
took-requires g c =
    let may = called_fits c.args.actor.now c.requires tt c.slot_mut.result.now c.slot_mut.ensures.value _ _ _
    c.write_slot-ended.ensures g.L.Sectors.seen g.D.Sectors.seen c.load.new.seat c.load.result c.load.ensures
    c.answer_of.result c.answer_of.ensures in
    record { fits = may.0; mark = may.1 }

pub returns : goal.returns
returns g c = plain_leaves c.args.actor.now c.requires tt c.slot_mut.result.now c.slot_mut.ensures.value _ _ _
    c.write_slot-ended.ensures g.L.Sectors.seen g.D.Sectors.seen c.load.new.seat c.load.result c.load.ensures
    c.answer_of.result c.answer_of.ensures g.R.Receiver.stands_for c.took.result
    c.took.new.self tt c.took.ensures
