use Rattle.std.proofs.Common.{Option, ap, sym, ◌∙◌}
use Rattle.model_core.specs.declared.ops.Op.TheVariants as op
use Rattle.redo_disk.specs.declared.error.DevError.{DevError}
use Rattle.redo_drive.specs.{call_answer}
use Rattle.redo_drive.specs.declared.device.Device.TheVariants.{Log}
use Rattle.redo_ownrule.proofs.OwnDevice.{call_has, call_ok, called, lends_work, p_work, write_takes}
use Rattle.redo_ownrule.proofs.OwnPlaying.{op_played}
use Rattle.redo_ownrule.proofs.device.write_to.Goals as goal

pub slot_mut-requires : goal.slot_mut-requires
slot_mut-requires g c = lends_work c.requires.seat.mine (call_has c.requires.seat.mine (op.WriteTo c.args.mark) tt
    c.requires.asks)

pub write_at-ended-requires : goal.write_at-ended-requires
write_at-ended-requires g c = write_takes c.requires.seat.mine c.args.mark c.requires.asks c.slot_mut.result.now
    c.slot_mut.ensures.value

pub load-requires : goal.load-requires
load-requires g c =
    let e = c.write_at-ended.ensures in
    let work = p_work c.requires.seat.mine (op.WriteTo c.args.mark) tt
    c.requires.asks c.slot_mut.result.now c.slot_mut.ensures.value c.write_at-ended.new.slot e.was e.now e.old_is
    e.new_is
    in
    let d = e.written _ work in
    call_ok c.requires.seat.mine (op.WriteTo c.args.mark) tt c.requires.asks
    c.slot_mut.result.now c.slot_mut.ensures.value c.write_at-ended.new.slot e.was e.now e.old_is e.new_is
    g.L.Sectors.seen g.L.Sectors.gives g.D.Sectors.seen g.D.Sectors.gives c.args.table.now.key d.served d.calls d.live

pub answered_at-requires : goal.answered_at-requires
answered_at-requires g c =
    let e = c.write_at-ended.ensures in
    let work = p_work c.requires.seat.mine (op.WriteTo c.args.mark) tt
    c.requires.asks c.slot_mut.result.now c.slot_mut.ensures.value c.write_at-ended.new.slot e.was e.now e.old_is
    e.new_is
    in
    let d = e.written _ work in (
      c.args.token.now.me.0,
      called c.requires.seat.mine (op.WriteTo c.args.mark) tt c.requires.asks
          c.slot_mut.result.now c.slot_mut.ensures.value c.write_at-ended.new.slot e.was e.now e.old_is e.new_is
          g.L.Sectors.seen g.D.Sectors.seen c.load.new.seat c.load.ensures.0 c.load.result c.load.ensures.2
          d.work_stays
          c.answer_of.result
          (c.answer_of.ensures ∙ ap (λ (met : Option DevError). call_answer Log met 0) (sym d.told)),
    )

pub returns : goal.returns
returns g c =
    let e = c.write_at-ended.ensures in
    let work = p_work c.requires.seat.mine (op.WriteTo c.args.mark) tt
    c.requires.asks c.slot_mut.result.now c.slot_mut.ensures.value c.write_at-ended.new.slot e.was e.now e.old_is
    e.new_is
    in
    let d = e.written _ work in
    op_played c.requires.seat c.answered_at.ensures.mine
    (c.answered_at.ensures.played c.args.token.now.me.0
    (called c.requires.seat.mine (op.WriteTo c.args.mark) tt c.requires.asks
    c.slot_mut.result.now c.slot_mut.ensures.value c.write_at-ended.new.slot e.was e.now e.old_is e.new_is
    g.L.Sectors.seen g.D.Sectors.seen c.load.new.seat c.load.ensures.0 c.load.result c.load.ensures.2 d.work_stays
    c.answer_of.result
    (c.answer_of.ensures ∙ ap (λ (met : Option DevError). call_answer Log met 0) (sym d.told))))
