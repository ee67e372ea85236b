use Rattle.std.proofs.Common.{Option, ap, sym, ◌∙◌}
use Rattle.redo_disk.specs.declared.error.DevError.{DevError}
use Rattle.redo_drive.specs.{call_answer}
use Rattle.redo_drive.specs.declared.device.Device.TheVariants.{Data}
use Rattle.redo_rule.proofs.Batching.{batched_fits, batched_leaves, batched_ok, lends_part, may_call, reach_ok}
use Rattle.redo_rule.proofs.batch.write_batch.Goals as goal

pub load-requires : goal.load-requires
load-requires g c = reach_ok c.args.actor.now c.requires.seat c.requires.asks g.L.Sectors.seen g.L.Sectors.gives
    g.D.Sectors.seen g.D.Sectors.gives c.args.table.now.key

pub slot_mut-requires : goal.slot_mut-requires
slot_mut-requires g c = lends_part c.args.actor.now c.requires.seat c.requires.asks c.load.new.seat c.load.result
    c.load.ensures

pub batch_slot-ended-requires : goal.batch_slot-ended-requires
batch_slot-ended-requires g c = may_call c.args.actor.now c.requires.seat c.requires.asks c.load.new.seat
    c.load.result c.load.ensures
    c.slot_mut.result.now c.slot_mut.ensures.value c.lent.result c.lent.ensures

pub load-requires-2 : goal.load-requires-2
load-requires-2 g c =
    let e = c.batch_slot-ended.ensures in
    batched_ok c.args.actor.now c.requires.seat c.requires.asks c.load.new.seat c.load.result c.load.ensures
    c.slot_mut.result.now c.slot_mut.ensures.value c.batch_slot-ended.new.slot e.was e.now e.old_is e.new_is
    g.L.Sectors.seen g.L.Sectors.gives g.D.Sectors.seen g.D.Sectors.gives c.args.table.now.key c.lent.result
    c.lent.ensures e.served e.calls

pub took-requires : goal.took-requires
took-requires g c =
    let e = c.batch_slot-ended.ensures in
    let may = batched_fits c.args.actor.now c.requires.seat c.requires.asks c.load.new.seat c.load.result c.load.ensures
    c.slot_mut.result.now c.slot_mut.ensures.value c.batch_slot-ended.new.slot e.was e.now e.old_is e.new_is
    g.L.Sectors.seen g.D.Sectors.seen c.load-2.new.seat c.load-2.result c.load-2.ensures c.answer_of.result
    (c.answer_of.ensures ∙ ap (λ (met : Option DevError). call_answer Data met 0) (sym e.told)) in
    record { fits = may.0; mark = may.1 }

pub returns : goal.returns
returns g c =
    let e = c.batch_slot-ended.ensures in
    batched_leaves c.args.actor.now c.requires.seat c.requires.asks c.load.new.seat c.load.result c.load.ensures
    c.slot_mut.result.now c.slot_mut.ensures.value c.batch_slot-ended.new.slot e.was e.now e.old_is e.new_is
    g.L.Sectors.seen g.D.Sectors.seen c.load-2.new.seat c.load-2.result c.load-2.ensures c.answer_of.result
    (c.answer_of.ensures ∙ ap (λ (met : Option DevError). call_answer Data met 0) (sym e.told))
    g.R.Receiver.stands_for c.took.result c.took.new.self c.took.ensures
