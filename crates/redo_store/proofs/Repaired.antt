-- A repair: the slots are read, and the copy that counts by what was read is put into its place.
use Rattle.std.proofs.Common.{◌≡◌, ◌+◌, ◌-◌, ◌*◌, ℕ, inl, inr, List, [], ◌∷◌, length, take, drop, IfSome, Option, Some, None, Ok, Err, refl, sym, ap, subst, ◌∙◌, arith}
use Rattle.model_base.specs.declared.shape.Shape.{Shape}
use Rattle.model_parts.proofs.Repairs.{HasRepaired, copy-put, copy-put_done, put-back_failed, same-best}
use Rattle.model_parts.proofs.Stretches.{stretch-piece}
use Rattle.model_parts.specs.{FailsPutBack, IsPutBack, IsRepairable, KeepsAll, place_at, repair_write, SameSlots}
use Rattle.model_device.specs.{IsPutOrNot, synced, written, Disk}
use Rattle.model_device.specs.declared.write.Write.{Write}
use Rattle.model_page.specs.{HasNoCopy, IsBestCopy, slot_bytes}
use Rattle.redo_dblwr.specs.{slots_read}
use Rattle.redo_disk.proofs.Calls.{EndWith-append}
use Rattle.redo_disk.proofs.Made.{EndWith-one, call_serves}
use Rattle.redo_disk.proofs.Told.{OnTold-weaker, where-still, where-then, where-told}
use Rattle.redo_disk.specs.{Answer, Call, error_of, MakesCall, MakesCalls, OnTold, put_requests, Reads, Serve, StillTells, ToRead, WhereTold, write_at}
use Rattle.redo_disk.specs.declared.error.DevError.{DevError}
use Rattle.redo_store.proofs.Entered.{IsReady}
use Rattle.redo_store.specs.RepairRequests.{RepairCalls}

-- the part of the buffer that holds a slot
pub slot-part : (shape : Shape) (slot : ℕ) (slots : List ℕ)
    → take (slot * shape.page_size + shape.page_size - slot * shape.page_size) (drop (slot * shape.page_size) slots) ≡ slot_bytes shape slot slots
slot-part shape slot slots =
    let at : ℕ = slot * shape.page_size in
    let count : at + shape.page_size - at ≡ shape.page_size = omega arith in
    ap (λ n. take n (drop at slots)) count ∙ sym (stretch-piece shape slot slots)

-- the write as the code makes it
record IsMade (shape : Shape) (page slot lsn : ℕ) (slots : List ℕ) (write : Write) (disk : Disk) : Type 0 where
  best : IsBestCopy shape disk.reads page slot lsn
  is : write ≡ repair_write shape page (slot_bytes shape slot disk.reads)

made-from : (shape : Shape) (page slot lsn at : ℕ) (slots bytes : List ℕ) (disk : Disk) → SameSlots shape disk.reads slots → IsBestCopy shape slots page slot lsn
    → at ≡ place_at shape page → bytes ≡ slot_bytes shape slot slots → IsMade shape page slot lsn slots (write_at at bytes) disk
made-from shape page slot lsn at slots bytes disk same best at_is bytes_is = record {
  best = same-best shape slots disk.reads page slot lsn (λ other below. sym (same other below)) best;
  is = ap (write_at at) (bytes_is ∙ same slot best.below) ∙ ap (λ n. write_at n (slot_bytes shape slot disk.reads)) at_is;
}

pub put-back : (shape : Shape) (page slot lsn at : ℕ) (slots bytes : List ℕ) (old new : Disk) → SameSlots shape old.reads slots → IsBestCopy shape slots page slot lsn
    → at ≡ place_at shape page → bytes ≡ slot_bytes shape slot slots → new ≡ synced (written old (write_at at bytes)) → IsPutBack shape page old new
put-back shape page slot lsn at slots bytes old new same best at_is bytes_is done =
    let made : IsMade shape page slot lsn slots (write_at at bytes) old = made-from shape page slot lsn at slots bytes old same best at_is bytes_is in
    inl (record { slot = slot; lsn = lsn; best = made.best; put = done ∙ ap (λ (w : Write). synced (written old w)) made.is })

pub put-failed : (shape : Shape) (page slot lsn at : ℕ) (slots bytes : List ℕ) (old new : Disk) → SameSlots shape old.reads slots → IsBestCopy shape slots page slot lsn
    → at ≡ place_at shape page → bytes ≡ slot_bytes shape slot slots → IsPutOrNot (write_at at bytes) old new → FailsPutBack shape page old new
put-failed shape page slot lsn at slots bytes old new same best at_is bytes_is fails =
    let made : IsMade shape page slot lsn slots (write_at at bytes) old = made-from shape page slot lsn at slots bytes old same best at_is bytes_is in
    inr (record { slot = slot; lsn = lsn; best = made.best; calls = subst (λ (w : Write). IsPutOrNot w old new) made.is fails })

-- what is read, and a call that rests on it
pub read-then : (old middle new : Option Disk) (P : Disk → Type 0) (R S : Disk → Disk → Type 0)
    → ((a b : Disk) → P a → R a b → S a b) → StillTells old middle → IfSome middle P → OnTold middle new R
    → WhereTold old new S
read-then old middle new P R S weaker still known told =
    let step : WhereTold middle new S = where-told middle new S (OnTold-weaker middle new P R S weaker known told) in
    where-then old middle new ◌≡◌ S S (λ a b c same is. subst (λ (disk : Disk). S disk c) (sym same) is)
    (where-still old middle ◌≡◌ (λ disk. refl) still) step

pub back-keeps : (shape : Shape) (page : ℕ) (old new : Disk) → IsReady shape page (IsRepairable shape page) old → IsPutBack shape page old new → HasRepaired shape page old new
back-keeps shape page old new ready done =
    copy-put_done shape page old new ready.limits ready.below ready.long ready.nothing ready.known (copy-put shape page old new ready.known done)

pub back-fails : (shape : Shape) (page : ℕ) (old new : Disk) → IsReady shape page (IsRepairable shape page) old → FailsPutBack shape page old new → KeepsAll shape old new
back-fails shape page old new ready fails = put-back_failed shape page old new ready.limits ready.below ready.long ready.nothing ready.known fails

-- THE CALLS.

-- all slots are asked for
pub slots-asked : {D : Type 0} (gives : D → Call → D → Type 0) (old new : D) (shape : Shape) (before after : List ℕ) (answer : Answer) → length before ≡ shape.slots * shape.page_size
    → MakesCall gives old (Reads 0 before answer after) new → MakesCalls gives old new (Serve (slots_read shape ∷ []) (error_of answer))
slots-asked gives old new shape before after answer size given =
    subst (λ (n : ℕ). MakesCalls gives old new (Serve (ToRead 0 n ∷ []) (error_of answer))) size (call_serves given)

-- the read failed
pub repair-unread : {D : Type 0} (gives : D → Call → D → Type 0) (old new : D) (shape : Shape) (page : ℕ) (before slots : List ℕ) (error : DevError) → length before ≡ shape.slots * shape.page_size
    → MakesCall gives old (Reads 0 before (Err error) slots) new → MakesCalls gives old new (RepairCalls shape page (Some error))
repair-unread gives old new shape page before slots error size given = record {
  calls = Reads 0 before (Err error) slots ∷ [];
  made = (new, given, refl);
  are = record {
    before = before;
    answer = Err error;
    slots = slots;
    rest = [];
    all = refl;
    size = size;
    ends = EndWith-one (Reads 0 before (Err error) slots);
    then = tt;
  };
}

-- no copy passes
pub repair-none : {D : Type 0} (gives : D → Call → D → Type 0) (old new : D) (shape : Shape) (page : ℕ) (before slots : List ℕ) (done : Unit {0}) → length before ≡ shape.slots * shape.page_size
    → HasNoCopy shape slots page → MakesCall gives old (Reads 0 before (Ok done) slots) new → MakesCalls gives old new (RepairCalls shape page None)
repair-none gives old new shape page before slots done size none given = record {
  calls = Reads 0 before (Ok done) slots ∷ [];
  made = (new, given, refl);
  are = record {
    before = before;
    answer = Ok done;
    slots = slots;
    rest = [];
    all = refl;
    size = size;
    ends = EndWith-one (Reads 0 before (Ok done) slots);
    then = inr (none, refl);
  };
}

-- a copy counts, and is put into its place
pub repair-put : {D : Type 0} (gives : D → Call → D → Type 0) (old middle new : D) (shape : Shape) (page slot lsn at : ℕ) (before slots bytes : List ℕ) (done : Unit {0}) (error : Option DevError)
    → length before ≡ shape.slots * shape.page_size → IsBestCopy shape slots page slot lsn → at ≡ place_at shape page → bytes ≡ slot_bytes shape slot slots
    → MakesCall gives old (Reads 0 before (Ok done) slots) middle → MakesCalls gives middle new (Serve (put_requests (write_at at bytes)) error)
    → MakesCalls gives old new (RepairCalls shape page error)
repair-put gives old middle new shape page slot lsn at before slots bytes done error size best at_is bytes_is given made =
    let write_is : write_at at bytes ≡ repair_write shape page (slot_bytes shape slot slots) =
    ap (write_at at) bytes_is ∙ ap (λ n. write_at n (slot_bytes shape slot slots)) at_is in
    record {
      calls = Reads 0 before (Ok done) slots ∷ made.calls;
      made = (middle, given, made.made);
      are = record {
        before = before;
        answer = Ok done;
        slots = slots;
        rest = made.calls;
        all = refl;
        size = size;
        ends = EndWith-append error (Reads 0 before (Ok done) slots ∷ []) made.calls (EndWith-one (Reads 0 before (Ok done) slots)) made.are.ends;
        then = inl (record { slot = slot; lsn = lsn; best = best; serve = subst (λ (w : Write). Serve (put_requests w) error made.calls) write_is made.are });
      };
    }
