use Rattle.std.proofs.Common.{Option, ap, refl, subst, sym, ◌∙◌}
use Rattle.model_core.specs.States as model
use Rattle.model_core.specs.declared.ops.Op.TheVariants as op
use Rattle.redo_archiver.specs.Lending as archiving
use Rattle.redo_disk.specs.declared.error.DevError.{DevError}
use Rattle.redo_drive.proofs.Played as played
use Rattle.redo_drive.specs.{call_answer}
use Rattle.redo_drive.specs.declared.actor.Actor.{Actor}
use Rattle.redo_drive.specs.declared.actor.Actor.TheVariants as own
use Rattle.redo_drive.specs.declared.device.Device.TheVariants.{Log}
use Rattle.redo_follow.specs.Lending as following
use Rattle.redo_machine.proofs.PlayedNext.{no_other_reads}
use Rattle.redo_machine.specs.Reading.{HasBlock}
use Rattle.redo_machine.proofs.turning.read_block.Goals as goal

pub returns-in-Archiver-clause-read : goal.returns-in-Archiver-clause-read
returns-in-Archiver-clause-read g c =
    let old = c.args.parts.now in
    let call = c.call_read-ended in
    let after : Actor g.row.R.Denot = own.Archiver (archiving.with_block c.in-Archiver.archiver call.new.room) in
    record {
      asks = c.requires.asks;
      bytes = call.new.room;
      has = subst (λ (z : Actor g.row.R.Denot). HasBlock call.new.room z after) (sym c.in-Archiver.is) refl;
      played = λ run. played.log_played g.L.Sectors.seen g.D.Sectors.seen run (model.Room call.new.room) old
          (op.ReadBlock c.args.lsn)
          (record { words = old.words; log = call.new.log; store = old.store; lists = old.lists }) c.answer_of.result
          refl refl refl (op.ReadBlock c.args.lsn) refl tt refl call.ensures.read
          (c.answer_of.ensures ∙ ap (λ (e : Option DevError). call_answer Log e 0) (sym call.ensures.ended));
    }

pub returns-in-Follower-clause-read : goal.returns-in-Follower-clause-read
returns-in-Follower-clause-read g c =
    let old = c.args.parts.now in
    let call = c.call_read-ended-in-Follower in
    let after : Actor g.row.R.Denot = own.Follower (following.with_block c.in-Follower.follower call.new.room) in
    record {
      asks = c.requires.asks;
      bytes = call.new.room;
      has = subst (λ (z : Actor g.row.R.Denot). HasBlock call.new.room z after) (sym c.in-Follower.is) refl;
      played = λ run. played.log_played g.L.Sectors.seen g.D.Sectors.seen run (model.Room call.new.room) old
          (op.ReadBlock c.args.lsn)
          (record { words = old.words; log = call.new.log; store = old.store; lists = old.lists })
          c.answer_of-in-Follower.result
          refl refl refl (op.ReadBlock c.args.lsn) refl tt refl call.ensures.read
          (c.answer_of-in-Follower.ensures ∙ ap (λ (e : Option DevError). call_answer Log e 0) (sym call.ensures.ended));
    }

pub unreachable-requires : goal.unreachable-requires
unreachable-requires g c = no_other_reads c.args.actor.now c.args.lsn c.requires.asks c.in_default.not-Archiver
    c.in_default.not-Follower
