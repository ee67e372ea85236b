use Rattle.std.proofs.Common.{◌∙◌, ℕ, List, Some, None, arith}
use Rattle.std.proofs.lemmas.Result.{err_from_is_err_and}
use Rattle.redo_disk.specs.declared.error.DevError.TheVariants.{NoMemory}
use Rattle.redo_recover.specs.Full.{AreFullIn}
use Rattle.redo_recover.specs.Piece.{IsPieceOf}
use Rattle.redo_recover.specs.Taking.{AreTailsOf}
use Rattle.redo_recover.proofs.Contents.{content-any}
use Rattle.redo_recover.proofs.Only.{only-none, only-own, only-then}
use Rattle.redo_recover.proofs.Stretching.{bounds-all, bounds-within, full-all}
use Rattle.redo_recover.proofs.Unchanged.{content-after}
use Rattle.redo_recover.proofs.ahead.read_ahead.Goals.{else-loop-test, then-loop-test+then-layout-taken, then-loop-test+else-layout-taken+in_ok-piece+in_ok-stretches+in_ok-join_all+then-len-taken}
use Rattle.redo_recover.proofs.ahead.read_ahead.Goals as goal

pub loop-init : goal.loop-init
loop-init g c =
    let told = (g.L.Sectors.seen c.args.log.now).tells in
    record {
      reads = only-none c.args.log.now;
      tails = c.requires.tails;
      piece = content-any told (IsPieceOf c.none-piece.result) c.none-piece.ensures;
      full = content-any told (AreFullIn c.args.layout.now c.none-full.result) (λ image. c.none-full.ensures.full c.args.layout.now image);
      bounds = c.none-full.ensures.bounds;
      few = omega (arith, c.none-full.ensures.few);
      lsn = c.none-full.ensures.lsn;
    }

pub loop-preserved : goal.loop-preserved
loop-preserved g c =
    let middle = g.L.Sectors.seen c.loop.log in
    let new = g.L.Sectors.seen c.read_over.new.device in
    let step = c.in_ok-piece.ensures.reads.unchanged in
    let layout = c.args.layout.now in
    let tails : List ℕ = c.args.tails.now in
    let before = c.loop.invariant in
    let stretches = c.in_ok-stretches.stretches.items in
    let made = c.in_ok-stretches.ensures in
    let of_tails = content-after middle new (AreTailsOf layout.format tails) step before.tails in
    record {
      reads = only-then c.args.log.now c.loop.log c.read_over.new.device None before.reads c.in_ok-piece.ensures.reads;
      tails = of_tails;
      piece = c.in_ok-piece.ensures.content;
      full = full-all new.tells layout c.in_ok-piece.piece tails c.loop.full c.join_all.new.self stretches c.in_ok-join_all.ensures.full made
          c.in_ok-piece.ensures.content of_tails (content-after middle new (AreFullIn layout c.loop.full) step before.full);
      bounds = c.in_ok-join_all.ensures.bounds before.bounds (bounds-all layout c.in_ok-piece.piece tails stretches made);
      few = c.in_ok-join_all.ensures.kept.0;
      lsn = c.in_ok-join_all.ensures.kept.1 ∙ before.lsn;
    }

-- THE END.

pub returns-clause-full : goal.returns-clause-full
returns-clause-full g c =
    let middle = g.L.Sectors.seen c.loop.log in
    let layout = c.args.layout.now in
    let tails : List ℕ = c.args.tails.now in
    let before = c.loop.invariant in
    elim c.loop-test.branch [
      | else-loop-test w ↦ rw (w.log-is, w.full-is) before.full
      | then-loop-test+then-layout-taken w ↦ rw (w.log-is, w.full-is) before.full
      | then-loop-test+else-layout-taken+in_ok-piece+in_ok-stretches+in_ok-join_all+then-len-taken w ↦ (
          let new = g.L.Sectors.seen w.read_over.new.device in
          let step = w.in_ok-piece.ensures.reads.unchanged in
          rw (w.log-is, w.full-is) (full-all new.tells layout w.in_ok-piece.piece tails c.loop.full w.join_all.new.self w.in_ok-stretches.stretches.items
          w.in_ok-join_all.ensures.full w.in_ok-stretches.ensures w.in_ok-piece.ensures.content
          (content-after middle new (AreTailsOf layout.format tails) step before.tails) (content-after middle new (AreFullIn layout c.loop.full) step before.full)))
    ]

pub returns-clause-bounded : goal.returns-clause-bounded
returns-clause-bounded g c =
    let layout = c.args.layout.now in
    let before = c.loop.invariant in
    elim c.loop-test.branch [
      | else-loop-test w ↦ rw w.full-is (bounds-within c.loop.full layout.blocks before.bounds before.few)
      | then-loop-test+then-layout-taken w ↦ rw w.full-is (bounds-within c.loop.full layout.blocks before.bounds before.few)
      | then-loop-test+else-layout-taken+in_ok-piece+in_ok-stretches+in_ok-join_all+then-len-taken w ↦
          rw w.full-is (bounds-within w.join_all.new.self layout.blocks
          (w.in_ok-join_all.ensures.bounds before.bounds (bounds-all layout w.in_ok-piece.piece c.args.tails.now w.in_ok-stretches.stretches.items w.in_ok-stretches.ensures))
          w.in_ok-join_all.ensures.kept.0)
    ]

pub returns-clause-reads : goal.returns-clause-reads
returns-clause-reads g c =
    let before = c.loop.invariant in
    elim c.loop-test.branch [
      | else-loop-test w ↦ rw w.log-is before.reads
      | then-loop-test+then-layout-taken w ↦ rw w.log-is before.reads
      | then-loop-test+else-layout-taken+in_ok-piece+in_ok-stretches+in_ok-join_all+then-len-taken w ↦
          rw w.log-is (only-then c.args.log.now c.loop.log w.read_over.new.device None before.reads w.in_ok-piece.ensures.reads)
    ]

-- WHERE A READ FAILS or memory runs out.

pub returns-in_err-piece-clause-reads : goal.returns-in_err-piece-clause-reads
returns-in_err-piece-clause-reads g c =
    let p = err_from_is_err_and c.from_residual.result c.from_residual.ensures.1 in
    rw (p.1, p.2) (only-then c.args.log.now c.loop.log c.read_over.new.device _ c.loop.invariant.reads c.in_err-piece.ensures.reads)

pub returns-in_err-stretches-clause-reads : goal.returns-in_err-stretches-clause-reads
returns-in_err-stretches-clause-reads g c =
    let p = err_from_is_err_and c.from_residual-in_err-stretches.result c.from_residual-in_err-stretches.ensures.1 in
    rw (p.1, p.2) (only-own c.args.log.now c.read_over.new.device (Some NoMemory) tt
    (only-then c.args.log.now c.loop.log c.read_over.new.device None c.loop.invariant.reads c.in_ok-piece.ensures.reads))

pub returns-in_err-join_all-clause-reads : goal.returns-in_err-join_all-clause-reads
returns-in_err-join_all-clause-reads g c =
    let p = err_from_is_err_and c.from_residual-in_err-join_all.result c.from_residual-in_err-join_all.ensures.1 in
    rw (p.1, p.2) (only-own c.args.log.now c.read_over.new.device (Some NoMemory) tt
    (only-then c.args.log.now c.loop.log c.read_over.new.device None c.loop.invariant.reads c.in_ok-piece.ensures.reads))
