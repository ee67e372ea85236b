use Rattle.std.proofs.Common.{Option, [], arith, length, refl, subst, sym, ℕ, ◌∷◌, ◌≡◌}
use Rattle.std.specs.Prelude.{IfSome, OnOk}
use Rattle.model_device.specs.{Disk}
use Rattle.model_parts.specs.declared.marks.TailMarks.{TailMarks}
use Rattle.redo_disk.specs.{part, MakesCalls, Serve, ToRead}
use Rattle.model_parts.specs.declared.marks.LogMarks.{LogMarks}
use Rattle.redo_disk.proofs.Made.{call_serves}
use Rattle.redo_disk.specs.declared.error.DevError.{DevError}
use Rattle.redo_logdev.specs.{block_place}
use Rattle.redo_drive.proofs.Served.{off_any, on_any}
use Rattle.redo_drive.proofs.calling.call_read.Goals as goal

pub returns-clause-read : goal.returns-clause-read
returns-clause-read g c =
    let p = c.args.log.now in
    let e = c.read_block.ensures in
    let long : length c.args.room.now ≡ 512 = omega (arith, c.fits-room) in record {
      called = record {
        result = c.read_block.result;
        code_is = refl;
        on_ok = on_any c.read_block.result (◌≡◌ {A = LogMarks} c.read_block.new.self.marks p.marks) e.marks.marks;
        on_err = off_any c.read_block.result (◌≡◌ {A = LogMarks} c.read_block.new.self.marks p.marks) e.marks.marks;
        tails_ok = on_any c.read_block.result (◌≡◌ {A = TailMarks} c.read_block.new.self.tails p.tails) e.marks.tails;
        tails_err = off_any c.read_block.result (◌≡◌ {A = TailMarks} c.read_block.new.self.tails p.tails) e.marks.tails;
        stays = e.stays;
      };
      given = subst (λ (n : ℕ). OnOk c.read_block.result (IfSome (g.L.Sectors.seen c.read_block.new.self.dev).tells
          (λ (disk : Disk). c.read_block.new.out ≡ part disk.reads (block_place p c.args.lsn) n)))
          long e.step.bytes;
      told = e.step.same;
      holds = e.holds;
      block = e.block;
    }

pub returns-clause-ended : goal.returns-clause-ended
returns-clause-ended g c = c.read_block.ensures.stays.failed

pub returns-clause-calls : goal.returns-clause-calls
returns-clause-calls g c =
    let p = c.args.log.now in
    let q = c.read_block.new.self in
    let long : length c.args.room.now ≡ 512 = omega (arith, c.fits-room) in
    let made = call_serves c.read_block.ensures.call in
    let Made : ℕ → Option DevError → Type 0 = λ n e.
    MakesCalls g.L.Sectors.gives p.dev q.dev (Serve (ToRead (block_place p c.args.lsn) n ∷ []) e) in
    subst (λ (n : ℕ). Made n q.failed) long
    (subst (Made (length c.args.room.now)) (sym c.read_block.ensures.stays.failed) made)
