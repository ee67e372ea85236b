-- One sector is written, and a sync makes that stay.
use Rattle.std.proofs.Common.{◌≡◌, ◌*◌, sym, subst, ap, ◌∙◌, ⊎_elim}
use Rattle.std.proofs.lemmas.Result.{on_err_weaker, on_ok_weaker}
use Rattle.model_device.specs.{IsPutOrNot, synced, written, Disk}
use Rattle.model_device.specs.declared.write.Write.{Write}
use Rattle.redo_disk.specs.{write_at}
use Rattle.redo_disk.proofs.Told.{told-as}
use Rattle.redo_open.specs.Put.{block_write, end_of_block, HasPut, IsAtRestTo, PutsBlock}
use Rattle.redo_open.proofs.PutBlocks.{has-put, not-put, put-puts}
use Rattle.redo_open.proofs.Told.{either-way}
use Rattle.redo_open.proofs.put.put_block.Goals as goal

pub returns-clause-step : goal.returns-clause-step
returns-clause-step g c =
    let k = c.args.k in
    let bytes = c.args.bytes.now in
    let long = c.told-bytes in
    let write : Write = write_at (512 * c.from.result) bytes in
    let same : write ≡ block_write k bytes = ap (λ n. write_at (512 * n) bytes) c.from.ensures in
    let Keeps : Disk → Disk → Type 0 = λ old new. IsAtRestTo (end_of_block k) old → PutsBlock k bytes old.reads new in
    let Put : Disk → Disk → Type 0 = λ old new. IsAtRestTo (end_of_block k) old → HasPut k bytes old.reads new in
    let put : (a b : Disk) → b ≡ synced (written a write) → Put a b = λ a b is rests.
    subst (HasPut k bytes a.reads) (sym (is ∙ ap (λ (w : Write). synced (written a w)) same)) (has-put k bytes a long rests) in
    record {
      keeps = either-way c.write_and_sync.result _ _ _
          (told-as _ _ (λ (old new : Disk). new ≡ synced (written old write)) Keeps (λ a b is rests. put-puts k bytes a.reads b (put a b is rests)))
          (told-as _ _ (IsPutOrNot write) Keeps (λ a b calls rests. not-put k bytes a b long rests (subst (λ (w : Write). IsPutOrNot w a b) same calls)))
          c.write_and_sync.ensures.ok c.write_and_sync.ensures.err;
      ok = on_ok_weaker c.write_and_sync.result (told-as _ _ (λ (old new : Disk). new ≡ synced (written old write)) Put put) c.write_and_sync.ensures.ok;
      unmoved = on_err_weaker c.write_and_sync.result
          (told-as _ _ (IsPutOrNot write) (λ (old new : Disk). new.base ≡ old.base)
          (λ a b calls. ⊎_elim (λ fails. fails.base) (λ pending. ap (λ (disk : Disk). disk.base) pending) calls))
          c.write_and_sync.ensures.err;
      size = c.write_and_sync.ensures.size;
      cause = c.write_and_sync.ensures.cause;
    }
