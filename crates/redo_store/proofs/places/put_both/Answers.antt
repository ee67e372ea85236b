use Rattle.std.proofs.Common.{ℕ, length, subst, sym, arith}
use Rattle.std.proofs.lemmas.Result.{err_from_is_err_and}
use Rattle.redo_dblwr.proofs.Ranges.{front-range}
use Rattle.redo_disk.specs.{IsRange}
use Rattle.redo_disk.proofs.Made.{serves_then, serves_cut}
use Rattle.redo_store.specs.Places.{text_writes}
use Rattle.redo_store.specs.Part.{all_put}
use Rattle.redo_store.proofs.places.put_both.Goals as goal

pub returns-in_err-write_and_sync-clause-calls : goal.returns-in_err-write_and_sync-clause-calls
returns-in_err-write_and_sync-clause-calls g c =
    let p = err_from_is_err_and c.from_residual.result c.from_residual.ensures.1 in
    rw (p.1, p.2) (serves_cut (all_put (text_writes c.args.shape.now c.args.batch.now c.args.texts.now)) c.in_err-write_and_sync.ensures.calls)

pub returns-clause-calls : goal.returns-clause-calls
returns-clause-calls g c = serves_then c.in_ok-write_and_sync.ensures.calls c.put_texts.ensures.calls

pub write_and_sync-requires : goal.write_and_sync-requires
write_and_sync-requires g c =
    let shape = c.args.shape.now in
    let size = (g.D.Sectors.seen c.args.device.now).size in
    subst (λ (n : ℕ). IsRange size 0 n) (sym c.requires.count)
    (front-range shape size (length c.args.batch.now) c.requires.limits.page_size c.requires.long (omega (arith, c.requires.few)))
