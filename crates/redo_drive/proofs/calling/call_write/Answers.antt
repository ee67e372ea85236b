use Rattle.std.proofs.Common.{Option, refl, subst, sym}
use Rattle.model_parts.specs.{after_given, after_written, tails_written}
use Rattle.redo_disk.proofs.Made.{serves_end}
use Rattle.redo_disk.specs.{MakesCalls, Serve}
use Rattle.redo_disk.specs.declared.error.DevError.{DevError}
use Rattle.redo_drive.proofs.Asked.{write_asked}
use Rattle.redo_drive.proofs.Served.{blocks_lent, log_called, write_served}
use Rattle.redo_drive.proofs.calling.call_write.Given as given
use Rattle.redo_drive.proofs.calling.call_write.Goals as goal
use Rattle.redo_drive.specs.LogPartSide.{HasBegun}
use Rattle.redo_drive.specs.Asking.{write_requests}

-- what was asked of the device, by the part's own error
asked : (g : given.Over) (c : goal.After-write_to g) → MakesCalls g.L.Sectors.gives c.args.log.now.dev c.write_to.new.self.dev (Serve (write_requests c.args.log.now c.in-Blocks.bytes.now c.in-Blocks.firsts.now) c.write_to.new.self.failed)
asked g c =
    subst (λ (e : Option DevError). MakesCalls g.L.Sectors.gives c.args.log.now.dev c.write_to.new.self.dev (Serve (write_requests c.args.log.now c.in-Blocks.bytes.now c.in-Blocks.firsts.now) e))
    (sym c.write_to.ensures.stays.failed) c.write_to.ensures.calls

pub returns-clause-served : goal.returns-clause-served
returns-clause-served g c = λ faults start first l lends.
    let p = c.args.log.now in let e = c.write_to.ensures in
    write_served g.L.Sectors.seen faults first.marks.number (HasBegun g.L.Sectors.seen start first) c.args.mark c.in-Blocks.bytes.now c.in-Blocks.firsts.now p c.write_to.new.self l
    (blocks_lent c.args.lent c.in-Blocks.bytes c.in-Blocks.firsts c.in-Blocks.is l lends)
    (record {
      called = log_called g.L.Sectors.seen c.write_to.result p c.write_to.new.self (after_written c.args.mark p.marks) (after_given c.args.mark p.marks) (tails_written c.args.mark p.tails) p.tails e.ok e.err e.stays refl;
      holds = e.holds;
    })

pub returns-clause-ended : goal.returns-clause-ended
returns-clause-ended g c = c.write_to.ensures.stays.failed

pub returns-clause-asked : goal.returns-clause-asked
returns-clause-asked g c = λ l lends.
    write_asked g.L.Sectors.gives c.in-Blocks.bytes.now c.in-Blocks.firsts.now c.args.log.now c.write_to.new.self l (blocks_lent c.args.lent c.in-Blocks.bytes c.in-Blocks.firsts c.in-Blocks.is l lends) (asked g c)

pub returns-clause-calls : goal.returns-clause-calls
returns-clause-calls g c = serves_end (asked g c)
