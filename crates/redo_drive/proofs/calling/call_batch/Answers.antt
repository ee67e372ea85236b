use Rattle.std.proofs.Common.{Option, subst, sym}
use Rattle.model_parts.specs.{batch_of}
use Rattle.redo_disk.proofs.Made.{serves_end}
use Rattle.redo_disk.specs.{MakesCalls, Serve}
use Rattle.redo_disk.specs.declared.error.DevError.{DevError}
use Rattle.redo_drive.proofs.Asked.{batch_asked}
use Rattle.redo_drive.proofs.Served.{batch_lent, batch_served}
use Rattle.redo_drive.proofs.calling.call_batch.Given as given
use Rattle.redo_drive.proofs.calling.call_batch.Goals as goal
use Rattle.redo_drive.specs.DataPartSide.{HasBegun}
use Rattle.redo_store.specs.Part.{batch_requests}

-- what was asked of the device, by the part's own error
asked : (g : given.Over) (c : goal.After-write_batch g) → MakesCalls g.D.Sectors.gives c.args.store.now.dev c.write_batch.new.self.dev (Serve (batch_requests c.args.store.now.shape (batch_of c.args.store.now.shape c.in-Batch.pages.now c.in-Batch.frames.now)) c.write_batch.new.self.failed)
asked g c =
    subst (λ (e : Option DevError). MakesCalls g.D.Sectors.gives c.args.store.now.dev c.write_batch.new.self.dev (Serve (batch_requests c.args.store.now.shape (batch_of c.args.store.now.shape c.in-Batch.pages.now c.in-Batch.frames.now)) e))
    (sym c.write_batch.ensures.step.failed) c.write_batch.ensures.calls

pub returns-clause-served : goal.returns-clause-served
returns-clause-served g c = λ faults shape opened first l lends whole. let e = c.write_batch.ensures in
    batch_served g.D.Sectors.seen faults shape (HasBegun g.D.Sectors.seen opened first) c.in-Batch.pages.now c.in-Batch.frames.now c.write_batch.result c.args.store.now c.write_batch.new.self l
    (batch_lent c.args.lent c.in-Batch.pages c.in-Batch.frames c.in-Batch.is l lends) whole e.step e.keeps e.ok

pub returns-clause-ended : goal.returns-clause-ended
returns-clause-ended g c = c.write_batch.ensures.step.failed

pub returns-clause-asked : goal.returns-clause-asked
returns-clause-asked g c = λ l lends whole.
    batch_asked g.D.Sectors.gives c.in-Batch.pages.now c.in-Batch.frames.now c.args.store.now c.write_batch.new.self l (batch_lent c.args.lent c.in-Batch.pages c.in-Batch.frames c.in-Batch.is l lends) whole (asked g c)

pub returns-clause-calls : goal.returns-clause-calls
returns-clause-calls g c = serves_end (asked g c)
