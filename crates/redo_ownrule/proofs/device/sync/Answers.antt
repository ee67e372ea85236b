use Rattle.std.proofs.Common.{Option, ap, sym, ◌∙◌}
use Rattle.model_core.specs.declared.ops.Op.TheVariants as op
use Rattle.redo_disk.specs.declared.error.DevError.{DevError}
use Rattle.redo_drive.specs.{call_answer}
use Rattle.redo_drive.specs.declared.device.Device.TheVariants.{Log}
use Rattle.redo_ownrule.proofs.OwnDevice.{call_has, call_ok, called, lends_work, sync_live, sync_takes}
use Rattle.model_own.specs.{own_lends}
use Rattle.redo_ownrule.proofs.OwnStepping.{work_there}
use Rattle.redo_ownrule.proofs.OwnPlaying.{op_played}
use Rattle.redo_ownrule.proofs.device.sync.Goals as goal

pub slot_mut-requires : goal.slot_mut-requires
slot_mut-requires g c = lends_work c.requires.seat.mine (call_has c.requires.seat.mine op.Sync tt c.requires.asks)

pub sync_slot-ended-requires : goal.sync_slot-ended-requires
sync_slot-ended-requires g c = sync_takes c.requires.seat.mine c.requires.asks c.slot_mut.result.now
    c.slot_mut.ensures.value

pub load-requires : goal.load-requires
load-requires g c = let e = c.sync_slot-ended.ensures.called in call_ok c.requires.seat.mine op.Sync tt
    c.requires.asks c.slot_mut.result.now c.slot_mut.ensures.value c.sync_slot-ended.new.slot e.was e.now
    e.old_is e.new_is g.L.Sectors.seen g.L.Sectors.gives g.D.Sectors.seen g.D.Sectors.gives c.args.table.now.key
    (λ faults start first. e.served faults start first (own_lends c.args.user.now (work_there c.requires.seat.mine
    (call_has c.requires.seat.mine op.Sync tt c.requires.asks)).1)) e.calls
    (sync_live c.requires.seat.mine c.requires.asks c.slot_mut.result.now
    c.slot_mut.ensures.value e.was e.old_is)

pub answered_at-requires : goal.answered_at-requires
answered_at-requires g c = let e = c.sync_slot-ended.ensures.called in (
  c.args.token.now.me.0,
  called c.requires.seat.mine op.Sync tt c.requires.asks
      c.slot_mut.result.now c.slot_mut.ensures.value c.sync_slot-ended.new.slot e.was e.now e.old_is e.new_is
      g.L.Sectors.seen g.D.Sectors.seen c.load.new.seat c.load.ensures.0 c.load.result c.load.ensures.2 e.work
      c.answer_of.result
      (c.answer_of.ensures ∙ ap (λ (met : Option DevError). call_answer Log met c.sync_slot-ended.result.1) (sym
      e.told)
      ∙ ap (call_answer Log e.now.part.failed) (c.sync_slot-ended.ensures.stable e.now e.new_is)),
)

pub returns : goal.returns
returns g c =
    let e = c.sync_slot-ended.ensures.called in op_played c.requires.seat c.answered_at.ensures.mine
    (c.answered_at.ensures.played
    c.args.token.now.me.0 (called c.requires.seat.mine op.Sync tt c.requires.asks
    c.slot_mut.result.now c.slot_mut.ensures.value c.sync_slot-ended.new.slot e.was e.now e.old_is e.new_is
    g.L.Sectors.seen g.D.Sectors.seen c.load.new.seat c.load.ensures.0 c.load.result c.load.ensures.2 e.work
    c.answer_of.result
    (c.answer_of.ensures ∙ ap (λ (met : Option DevError). call_answer Log met c.sync_slot-ended.result.1) (sym e.told)
    ∙ ap (call_answer Log e.now.part.failed) (c.sync_slot-ended.ensures.stable e.now e.new_is))))
