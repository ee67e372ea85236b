use Rattle.std.proofs.Common.{◌≡◌, ◌<◌, ◌+◌, ◌-◌, ◌*◌, ℕ, List, take, drop, arith}
use Rattle.std.proofs.lemmas.Result.{err_from_is_err_and, on_ok_weaker, on_err_weaker}
use Rattle.model_parts.specs.{FailsPutBack, IsPutBack, SameSlots}
use Rattle.model_device.specs.{IsPutOrNot, synced, written, Disk}
use Rattle.redo_dblwr.proofs.Ranges.{length-row, place-range}
use Rattle.redo_disk.specs.{error_of, write_at}
use Rattle.redo_store.proofs.Repaired.{slot-part, put-back, put-failed, read-then, repair-unread, repair-none, repair-put}
use Rattle.redo_store.proofs.mend.put_back.Goals as goal

pub returns-in_err-read_slots-clause-calls : goal.returns-in_err-read_slots-clause-calls
returns-in_err-read_slots-clause-calls g c =
    let p = err_from_is_err_and c.from_residual.result c.from_residual.ensures.1 in
    let slots = c.read_slots.new.slots in
    let error = c.in_err-read_slots.field-0.0 in
    rw (p.1, p.2)
    (repair-unread g.D.Sectors.gives c.args.device.now c.read_slots.new.device c.args.shape.now c.args.page
    c.args.slots.now slots error c.requires.room c.in_err-read_slots.ensures.call)

pub returns-in-None-clause-calls : goal.returns-in-None-clause-calls
returns-in-None-clause-calls g c =
    repair-none g.D.Sectors.gives c.args.device.now c.read_slots.new.device c.args.shape.now c.args.page
    c.args.slots.now c.read_slots.new.slots c.in_ok-read_slots.field-0 c.requires.room c.in-None.ensures
    c.in_ok-read_slots.ensures.call

pub returns-in-Some-clause-ok : goal.returns-in-Some-clause-ok
returns-in-Some-clause-ok g c =
    let shape = c.args.shape.now in
    let slots = c.read_slots.new.slots in
    let slot = c.in-Some.slot in
    let from = slot * shape.page_size in
    let bytes : List ℕ = take (from + shape.page_size - from) (drop from slots) in
    let seen = g.D.Sectors.seen in
    let R : Disk → Disk → Type 0 = λ a b. b ≡ synced (written a (write_at c.place_at.result bytes)) in
    on_ok_weaker c.write_and_sync.result
    (read-then (seen c.args.device.now).tells (seen c.read_slots.new.device).tells
    (seen c.write_and_sync.new.device).tells (λ (disk : Disk). SameSlots shape disk.reads slots) R
    (IsPutBack shape c.args.page)
    (λ a b same is. put-back shape c.args.page slot c.in-Some.field-0-1 c.place_at.result slots bytes a b same
    c.in-Some.ensures c.place_at.ensures (slot-part shape slot slots) is)
    c.in_ok-read_slots.ensures.same c.in_ok-read_slots.ensures.bytes)
    c.write_and_sync.ensures.ok

pub returns-in-Some-clause-err : goal.returns-in-Some-clause-err
returns-in-Some-clause-err g c =
    let shape = c.args.shape.now in
    let slots = c.read_slots.new.slots in
    let slot = c.in-Some.slot in
    let from = slot * shape.page_size in
    let bytes : List ℕ = take (from + shape.page_size - from) (drop from slots) in
    let seen = g.D.Sectors.seen in
    let R : Disk → Disk → Type 0 = IsPutOrNot (write_at c.place_at.result bytes) in
    on_err_weaker c.write_and_sync.result
    (read-then (seen c.args.device.now).tells (seen c.read_slots.new.device).tells
    (seen c.write_and_sync.new.device).tells (λ (disk : Disk). SameSlots shape disk.reads slots) R
    (FailsPutBack shape c.args.page)
    (λ a b same is. put-failed shape c.args.page slot c.in-Some.field-0-1 c.place_at.result slots bytes a b same
    c.in-Some.ensures c.place_at.ensures (slot-part shape slot slots) is)
    c.in_ok-read_slots.ensures.same c.in_ok-read_slots.ensures.bytes)
    c.write_and_sync.ensures.err

pub returns-in-Some-clause-calls : goal.returns-in-Some-clause-calls
returns-in-Some-clause-calls g c =
    let shape = c.args.shape.now in
    let slots = c.read_slots.new.slots in
    let slot = c.in-Some.slot in
    let from = slot * shape.page_size in
    let bytes : List ℕ = take (from + shape.page_size - from) (drop from slots) in
    repair-put g.D.Sectors.gives c.args.device.now c.read_slots.new.device c.write_and_sync.new.device shape c.args.page
    slot c.in-Some.field-0-1 c.place_at.result c.args.slots.now slots bytes c.in_ok-read_slots.field-0
    (error_of c.write_and_sync.result) c.requires.room c.in-Some.ensures c.place_at.ensures
    (slot-part shape slot slots) c.in_ok-read_slots.ensures.call
    c.write_and_sync.ensures.calls

pub write_and_sync-requires : goal.write_and_sync-requires
write_and_sync-requires g c =
    let shape = c.args.shape.now in
    let slots = c.read_slots.new.slots in
    let slot = c.in-Some.slot in
    let below : slot < shape.slots = c.in-Some.ensures.below in
    place-range shape _ c.args.page c.place_at.result _ c.requires.limits.page_size
    (omega (arith, c.in_ok-read_slots.ensures.size, c.requires.long)) c.requires.inside c.place_at.ensures
    (length-row slot shape.slots shape.page_size slots below (omega (arith, c.read_slots.auto.slots, c.requires.room)))
