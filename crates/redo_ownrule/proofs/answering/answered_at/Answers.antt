use Rattle.redo_ownrule.proofs.OwnAnswers.{ends_so, has_played, keeps_seat, lends_slot, may_take, mine_at, x_is}
use Rattle.redo_ownrule.proofs.answering.answered_at.Goals as goal

pub slot_mut-requires : goal.slot_mut-requires
slot_mut-requires g c = lends_slot g.L.Sectors.seen g.D.Sectors.seen c.args.table.now.table_id c.requires.0
    c.args.token.now c.args.user.now c.args.answer c.requires.1

pub took_at-requires : goal.took_at-requires
took_at-requires g c = may_take g.L.Sectors.seen g.D.Sectors.seen c.args.table.now.table_id c.requires.0
    c.args.token.now c.args.user.now c.args.answer c.requires.1 c.slot_mut.result.now c.slot_mut.ensures.value

pub returns-clause-mine : goal.returns-clause-mine
returns-clause-mine g c = mine_at g.L.Sectors.seen g.D.Sectors.seen c.args.table.now.table_id c.requires.0
    c.args.token.now c.args.user.now c.args.answer c.requires.1 c.slot_mut.result.now c.slot_mut.ensures.value
    c.took_at.new.slot c.took_at.new.user c.took_at.result c.took_at.ensures

pub returns-clause-played : goal.returns-clause-played
returns-clause-played g c = λ v I. (
  has_played g.L.Sectors.seen g.D.Sectors.seen c.args.table.now.table_id v c.args.token.now c.args.user.now
      c.args.answer I.step c.took_at.new.user c.took_at.result
      (x_is g.L.Sectors.seen g.D.Sectors.seen c.args.table.now.table_id v c.args.token.now c.args.user.now c.args.answer I
      c.slot_mut.result.now c.slot_mut.ensures.value c.took_at.new.slot c.took_at.new.user c.took_at.result
      c.took_at.ensures)
      (ends_so g.L.Sectors.seen g.D.Sectors.seen c.args.table.now.table_id v c.args.token.now c.args.user.now
      c.args.answer I c.slot_mut.result.now c.slot_mut.ensures.value c.took_at.new.slot c.took_at.new.user c.took_at.result
      c.took_at.ensures),
  keeps_seat g.L.Sectors.seen g.D.Sectors.seen c.args.table.now.table_id v c.args.token.now c.args.user.now
      c.args.answer I.step,
)
