use Rattle.std.proofs.Common.{List, ap, subst, sym, ℕ, ◌∙◌}
use Rattle.model_core.specs.{lent, LogServed}
use Rattle.model_core.specs.States as model
use Rattle.model_core.specs.declared.ops.Op.TheVariants as op
use Rattle.redo_drive.proofs.SomeLent.{some_lent}
use Rattle.redo_drive.specs.{call_code, view_of}
use Rattle.redo_drive.specs.LogPartSide as log_part
use Rattle.redo_drive.specs.declared.device.Device.TheVariants.{Log}
use Rattle.redo_rule.proofs.Calling.{called_leaves, called_ok, lends_slot, may_call}
use Rattle.redo_rule.proofs.Filled.{lent_read}
use Rattle.redo_rule.proofs.Took.{took_block, TookWith}
use Rattle.redo_rule.specs.Plays.{block_filling}
use Rattle.redo_rule.specs.Slots.{block_of}
use Rattle.redo_rule.proofs.device.read_block.Goals as goal

pub slot_mut-requires : goal.slot_mut-requires
slot_mut-requires g c = lends_slot c.args.actor.now c.requires tt

pub read_slot-ended-requires : goal.read_slot-ended-requires
read_slot-ended-requires g c =
    let given = some_lent (lent (view_of c.args.actor.now)) in
    may_call c.args.actor.now c.requires tt c.slot_mut.result.now c.slot_mut.ensures.value given.0 given.1

pub load-requires : goal.load-requires
load-requires g c =
    let e = c.read_slot-ended.ensures.called in
    let given = some_lent (lent (view_of c.args.actor.now)) in
    let put = lent_read (view_of c.args.actor.now) e.now.block c.args.lsn c.requires.asks
    ∙ sym (ap model.Room (c.read_slot-ended.ensures.block ∙ ap block_of e.new_is)) in
    called_ok c.args.actor.now c.requires tt c.slot_mut.result.now c.slot_mut.ensures.value _ _ _ e
    g.L.Sectors.seen g.D.Sectors.seen g.D.Sectors.gives c.args.table.now.key given.0 given.1
    (λ faults start first. subst (λ (l : model.Lent).
    LogServed (log_part.log_side g.L.Sectors.seen faults first.marks.number (log_part.HasBegun g.L.Sectors.seen start
    first)) e.was.part l (op.ReadBlock c.args.lsn) (call_code Log e.now.part.failed) e.now.part)
    (sym put) (e.served faults start first))

pub returns : goal.returns
returns g c =
    let e = c.read_slot-ended.ensures.called in
    called_leaves c.args.actor.now c.requires tt c.slot_mut.result.now c.slot_mut.ensures.value _ _ _ e
    g.L.Sectors.seen g.D.Sectors.seen c.load.new.seat c.load.result c.load.ensures c.answer_of.result
    c.answer_of.ensures g.R.Receiver.stands_for c.took.result c.took.new.self
    (subst (λ (b : List ℕ). TookWith g.R.Receiver.stands_for (block_filling b) c.args.actor.now c.answer_of.result
    c.took.result c.took.new.self) (c.read_slot-ended.ensures.block ∙ ap block_of e.new_is)
    (took_block g.R.Receiver.stands_for c.answer_of.result c.took.result c.took.new.self c.args.actor.now
    c.put_block.new.actor c.read_slot-ended.new.room c.args.lsn c.put_block.ensures c.requires.asks c.took.ensures))
