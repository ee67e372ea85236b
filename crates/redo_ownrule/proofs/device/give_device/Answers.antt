use Rattle.redo_ownrule.proofs.OwnDevice.{gave_mine, gave_played, give_has, give_ok, give_takes, lends_work}
use Rattle.redo_ownrule.proofs.OwnPlaying.{op_played}
use Rattle.redo_ownrule.proofs.device.give_device.Goals as goal

pub slot_mut-requires : goal.slot_mut-requires
slot_mut-requires g c = lends_work c.requires.seat.mine (give_has c.requires.seat.mine c.requires.asks)

pub took_at-step-requires : goal.took_at-step-requires
took_at-step-requires g c = give_takes c.requires.seat.mine c.requires.asks c.slot_mut.result.now
    c.slot_mut.ensures.value

pub store-requires : goal.store-requires
store-requires g c = give_ok c.requires.seat.mine c.requires.asks
    c.slot_mut.result.now c.slot_mut.ensures.value c.took_at-step.new.slot c.took_at-step.new.user
    c.took_at-step.result
    c.took_at-step.ensures g.L.Sectors.seen g.L.Sectors.gives g.D.Sectors.seen g.D.Sectors.gives c.args.table.now.key

pub returns : goal.returns
returns g c = op_played c.requires.seat
    (gave_mine c.requires.seat.mine c.requires.asks c.slot_mut.result.now c.slot_mut.ensures.value
    c.took_at-step.new.slot c.took_at-step.new.user c.took_at-step.result c.took_at-step.ensures g.L.Sectors.seen
    g.D.Sectors.seen c.store.new.seat c.store.ensures.0 0 c.store.ensures.2)
    (gave_played c.requires.seat.mine c.requires.asks c.slot_mut.result.now c.slot_mut.ensures.value
    c.took_at-step.new.slot c.took_at-step.new.user c.took_at-step.result c.took_at-step.ensures g.L.Sectors.seen
    g.D.Sectors.seen c.store.new.seat c.store.ensures.0 0 c.store.ensures.2)
