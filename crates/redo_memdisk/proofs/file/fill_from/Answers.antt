use Rattle.std.proofs.Common.{length, rules, subst, sym, take, ℕ, ◌-◌}
use Rattle.std.specs.Io.KnownBytes.{Consumes}
use borrow.Rule.Slice.PartMut.{put_mid}
use Rattle.redo_memdisk.proofs.ReadOn.{reads_none, reads_on}
use Rattle.redo_memdisk.proofs.file.fill_from.Goals.{in-Ok, in-Err}
use Rattle.redo_memdisk.proofs.file.fill_from.Goals as goal

pub loop-preserved : goal.loop-preserved
loop-preserved g c =
    let within = c.loop.invariant.1 in
    elim c.match-read.branch [
      | in-Ok w ↦ (
        search rules,
        search rules,
        subst (λ (to : ℕ). Consumes (g.F.Read.remaining c.args.file.now) (g.F.Read.remaining c.read.new.self) (take to (put_mid c.loop.at (length c.loop.out - c.loop.at) c.loop.out c.read.new.buf))) (sym w.at-is)
            (reads_on _ _ _ c.loop.at w.in-Ok.count c.loop.out c.read.new.buf within w.in-Ok.ensures.bound.0 c.loop.invariant.2 w.in-Ok.ensures.bytes.0),
      )
      | in-Err w ↦ (
        search rules,
        search rules,
        subst (λ (to : ℕ). Consumes (g.F.Read.remaining c.args.file.now) (g.F.Read.remaining c.read.new.self) (take to (put_mid c.loop.at (length c.loop.out - c.loop.at) c.loop.out c.read.new.buf))) (sym w.at-is)
            (reads_none _ _ _ c.loop.at c.loop.out c.read.new.buf within c.loop.invariant.2 w.in-Err.ensures.bytes),
      )
    ]
