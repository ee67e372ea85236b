-- A copy that was read before is put into the place of its page.
use Rattle.std.proofs.Common.{◌≡◌, ℕ, inr, List, ap, subst, ◌∙◌}
use Rattle.model_base.specs.declared.shape.Shape.{Shape}
use Rattle.model_parts.proofs.Repairs.{HasRepaired, copy-put_done, put-back_failed}
use Rattle.model_parts.specs.{IsCopyPut, IsRepairable, KeepsAll, place_at, repair_write}
use Rattle.model_device.specs.{IsPutOrNot, synced, written, Disk}
use Rattle.model_device.specs.declared.write.Write.{Write}
use Rattle.model_page.specs.{slot_bytes}
use Rattle.redo_disk.specs.{write_at}
use Rattle.redo_store.proofs.Entered.{IsReady}
use Rattle.redo_store.specs.Copies.{IsCopyToPut}

repairable : (shape : Shape) (page : ℕ) (bytes : List ℕ) (disk : Disk) → IsCopyToPut shape page bytes disk → IsRepairable shape page disk
repairable shape page bytes disk copy = record { broken = copy.broken; slot = copy.slot; lsn = copy.lsn; below = copy.best.below; passes = copy.best.passes }

-- the write as the code makes it
write-is : (shape : Shape) (page at : ℕ) (bytes : List ℕ) (disk : Disk) → at ≡ place_at shape page → (copy : IsCopyToPut shape page bytes disk)
    → write_at at bytes ≡ repair_write shape page (slot_bytes shape copy.slot disk.reads)
write-is shape page at bytes disk at_is copy = ap (write_at at) copy.copy ∙ ap (λ n. write_at n (slot_bytes shape copy.slot disk.reads)) at_is

pub is-put : (shape : Shape) (page at : ℕ) (bytes : List ℕ) (old new : Disk) → at ≡ place_at shape page → IsCopyToPut shape page bytes old
    → new ≡ synced (written old (write_at at bytes)) → IsCopyPut shape page old new
is-put shape page at bytes old new at_is copy done = record {
  slot = copy.slot;
  lsn = copy.lsn;
  best = copy.best;
  put = done ∙ ap (λ (w : Write). synced (written old w)) (write-is shape page at bytes old at_is copy);
}

pub put-keeps : (shape : Shape) (page at : ℕ) (bytes : List ℕ) (old new : Disk) → at ≡ place_at shape page → IsReady shape page (IsCopyToPut shape page bytes) old
    → new ≡ synced (written old (write_at at bytes)) → HasRepaired shape page old new
put-keeps shape page at bytes old new at_is ready done =
    copy-put_done shape page old new ready.limits ready.below ready.long ready.nothing (repairable shape page bytes old ready.known)
    (is-put shape page at bytes old new at_is ready.known done)

pub put-fails : (shape : Shape) (page at : ℕ) (bytes : List ℕ) (old new : Disk) → at ≡ place_at shape page → IsReady shape page (IsCopyToPut shape page bytes) old
    → IsPutOrNot (write_at at bytes) old new → KeepsAll shape old new
put-fails shape page at bytes old new at_is ready fails =
    let copy = ready.known in
    put-back_failed shape page old new ready.limits ready.below ready.long ready.nothing (repairable shape page bytes old copy)
    (inr (record { slot = copy.slot; lsn = copy.lsn; best = copy.best; calls = subst (λ (w : Write). IsPutOrNot w old new) (write-is shape page at bytes old at_is copy) fails }))
