use Rattle.std.proofs.Common.{Option, Some, subst, sym}
use Rattle.redo_archive.specs.Part.{Part}
use Rattle.redo_ownrule.specs.declared.player.Player.{Player}
use Rattle.redo_ownrule.specs.declared.player.Player.TheVariants as player
use Rattle.redo_threads.proofs.ArchiverPlays.{no_append, with_appended, with_none, with_played}
use Rattle.redo_threads.proofs.archiving.play_with.Goals as goal
use Rattle.redo_threads.specs.Archiving.{GoesOnWith}

pub returns-in_default : goal.returns-in_default
returns-in_default g c = with_played g.L.Sectors.seen g.D.Sectors.seen g.A.Sectors.seen g.A.Sectors.gives
    g.F.Receiver.stands_for
    c.args.table.now.table_id c.args.seat.now c.play.new.seat c.play.result c.args.op c.args.player.now c.play.new.player
    c.args.archive.now c.play.ensures.seat c.play.ensures.same c.play.ensures.player c.play.ensures.played c.requires.asks
    (no_append c.args.op c.in_default.not-Append)

pub returns-in-Plain : goal.returns-in-Plain
returns-in-Plain g c =
    let t = c.append_to.new.seat in
    let q = player.Plain c.append_to.new.actor in
    let later = Some c.append_to.new.part in
    let table = c.args.table.now.table_id in
    let s = c.args.seat.now in
    subst (λ (p : Player g.row.F.Denot). GoesOnWith g.A.Sectors.seen g.A.Sectors.gives g.F.Receiver.stands_for table s p
    c.args.archive.now t q later) (sym c.in-Plain.is)
    (subst (λ (a : Option (Part g.row.A.Denot)). GoesOnWith g.A.Sectors.seen g.A.Sectors.gives g.F.Receiver.stands_for
    table s (player.Plain c.in-Plain.actor) a t q later) (sym c.in-Some.is)
    (with_appended g.L.Sectors.seen g.D.Sectors.seen g.A.Sectors.seen g.A.Sectors.gives g.F.Receiver.stands_for table s
    t c.in-Plain.actor c.append_to.new.actor c.in-Append.mark c.in-Some.part c.append_to.new.part c.append_to.ensures))

pub returns-in-None : goal.returns-in-None
returns-in-None g c = with_none g.L.Sectors.seen g.D.Sectors.seen g.A.Sectors.seen g.A.Sectors.gives
    g.F.Receiver.stands_for
    c.args.table.now.table_id c.args.seat.now c.play-in-None.new.seat c.play-in-None.result c.args.op c.args.player.now
    c.play-in-None.new.player c.args.archive.now c.play-in-None.ensures.seat c.play-in-None.ensures.same
    c.play-in-None.ensures.player c.in-None.is
