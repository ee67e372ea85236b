use Rattle.std.proofs.Common.{inl, sym}
use Rattle.redo_machine.proofs.PlayedNext.{may_read}
use Rattle.redo_machine.proofs.turning.play_next.Goals as goal

pub read_block-requires-clause-may : goal.read_block-requires-clause-may
read_block-requires-clause-may g c =
    may_read c.args.parts.now c.args.actor.now c.in-ReadBlock.lsn c.requires (sym c.in-ReadBlock.ensures)

pub returns-in-ReadBlock-clause-played : goal.returns-in-ReadBlock-clause-played
returns-in-ReadBlock-clause-played g c = inl (c.in-ReadBlock.lsn, c.read_block.ensures.read)
