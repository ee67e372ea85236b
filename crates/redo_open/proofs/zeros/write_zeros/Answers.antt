-- A front of the piece is as many zeros.
use Rattle.std.proofs.Common.{ℕ, List, sym, subst}
use Rattle.redo_disk.specs.{IsRange, MakesCall, write_at, Writes, WriteStep}
use Rattle.redo_open.proofs.Rows.{front-of, length-front}
use Rattle.redo_open.proofs.zeros.write_zeros.Goals as goal

pub slice_bounds-write-end : goal.slice_bounds-write-end
slice_bounds-write-end g c = sym (length-front c.args.count 65536 c.zero_piece-piece.result c.zero_piece-piece.ensures c.requires.few)

pub write-requires : goal.write-requires
write-requires g c =
    subst (λ (count : ℕ). IsRange (g.D.Sectors.seen c.args.device.now).size c.args.at count)
    (sym (length-front c.args.count 65536 c.zero_piece-piece.result c.zero_piece-piece.ensures c.requires.few)) c.requires.range

pub returns-clause-step : goal.returns-clause-step
returns-clause-step g c =
    subst (λ (bytes : List ℕ). WriteStep (write_at c.args.at bytes) (g.D.Sectors.seen c.args.device.now) c.write.result (g.D.Sectors.seen c.write.new.self))
    (front-of c.args.count 65536 c.zero_piece-piece.result c.zero_piece-piece.ensures c.requires.few) c.write.ensures.step

pub returns-clause-gives : goal.returns-clause-gives
returns-clause-gives g c =
    subst (λ (bytes : List ℕ). MakesCall g.D.Sectors.gives c.args.device.now (Writes (write_at c.args.at bytes) c.write.result) c.write.new.self)
    (front-of c.args.count 65536 c.zero_piece-piece.result c.zero_piece-piece.ensures c.requires.few) c.write.ensures.gives
