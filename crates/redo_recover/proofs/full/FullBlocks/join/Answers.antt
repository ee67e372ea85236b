use Rattle.std.proofs.Common.{◌≡◌, length, refl, arith}
use Rattle.model_log.specs.{lsn_at}
use Rattle.redo_recover.proofs.Stretching.{bounds-join, full-join}
use Rattle.redo_recover.proofs.full.FullBlocks.join.Goals.{then-next-self+then-len-most+in_ok-append+in_ok-append-2, else-next-self}
use Rattle.redo_recover.proofs.full.FullBlocks.join.Goals as goal

pub returns-clause-full : goal.returns-clause-full
returns-clause-full c = λ layout image front back.
    elim c.if-next-self.branch [
      | then-next-self+then-len-most+in_ok-append+in_ok-append-2 w ↦ (
          let meets : c.args.next.lsn ≡ lsn_at c.args.self.now.lsn (length c.args.self.now.views.items) =
          omega (arith, w.if-next-self.true, c.len-count.ensures, c.args.self.now.views.ok.0) in
          rw w.self-is (full-join layout image c.args.self.now c.args.next _ meets refl w.in_ok-append.ensures.items w.in_ok-append-2.ensures.items front back))
      | else-next-self w ↦ rw w.self-is front
    ]

pub returns-clause-bounds : goal.returns-clause-bounds
returns-clause-bounds c = λ front back.
    elim c.if-next-self.branch [
      | then-next-self+then-len-most+in_ok-append+in_ok-append-2 w ↦
          rw w.self-is (bounds-join c.args.self.now c.args.next (record { lsn = c.args.self.now.lsn; views = w.append.new.self; joined = w.append-then-len-most.new.self }) w.in_ok-append.ensures.items w.in_ok-append-2.ensures.items front back)
      | else-next-self w ↦ rw w.self-is front
    ]
