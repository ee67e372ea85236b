-- What a device in a file means after each of its calls.
use Rattle.std.proofs.Common.{ℕ, ◌≡◌, ◌-◌, ◌%◌, Bool, true, false, if◌then◌else◌, List, [], ◌∷◌, length, take, replicate, IfSome, Option, Some, None, IsTrue, refl, sym, ap, subst, ◌∙◌, arith, inr, eq-eqb, length-append, length-take}
use Rattle.std.specs.Prelude.{bytes_eq, option_and_then}
use Rattle.std.proofs.lemmas.Bool.{and_parts, and_from, eqb-true, leb-true, le-leb, false≢true}
use Rattle.std.proofs.lemmas.List.{length-replicate}
use Rattle.model_base.specs.declared.limits.TheConstants.{BLOCK_SIZE}
use Rattle.model_device.specs.{Crashes, FailsWrite, IsSectorWrite, IsValid, written, Disk}
use Rattle.model_device.specs.declared.write.Write.{Write}
use Rattle.model_device.proofs.Valid.{IsValid-failed, IsValid-settled, IsValid-synced, IsValid-written}
use Rattle.redo_disk.specs.{HasSize, IsRange, OnTold, WhereTold, part, write_at}
use Rattle.redo_memdisk.specs.Notes.{Note, after_event, after_put, filled, is_sector_write, missed, note, replay}
use Rattle.redo_memdisk.specs.declared.file.TheConstants.{FILE_DISK_LEN}
use Rattle.redo_memdisk.specs.declared.record.Event.{Event}
use Rattle.redo_memdisk.specs.declared.record.Event.TheVariants.{Read, Unsynced, Written, Missed, Synced, Crashed, Lost}
use Rattle.redo_memdisk.proofs.Writes.{IsSameBeside-cut}

pub length-filled : (count : ℕ) (bytes : List ℕ) → length (filled count bytes) ≡ count
length-filled count bytes =
    let zeros = length-replicate {A = ℕ} (count - length bytes) 0 in
    omega (arith, length-append (take count bytes) (replicate (count - length bytes) 0), length-take count bytes, zeros)

sector-write : (size : ℕ) (write : Write) → IsTrue (is_sector_write size write) → IsSectorWrite size write
sector-write size write is =
    let outer = and_parts _ _ is in
    let inner = and_parts _ _ outer.0 in
    record { aligned = eqb-true _ _ inner.0; whole = eqb-true _ _ inner.1; within = leb-true _ _ outer.1 }

write-sector : (size : ℕ) (write : Write) → IsSectorWrite size write → IsTrue (is_sector_write size write)
write-sector size write is =
    and_from _ _ (and_from _ _ (eq-eqb _ _ is.aligned) (eq-eqb _ _ is.whole)) (le-leb _ _ is.within)

-- a device of this size, as one in a file is
abbrev IsSized : Disk → Type 0
IsSized disk = IsValid disk × (length disk.base ≡ FILE_DISK_LEN)

-- the write is one of the device
abbrev Takes : Write → Disk → Type 0
Takes write disk = IsSectorWrite (length disk.base) write

FailsWrite-missed : (taken : ℕ) (write : Write) (disk : Disk) → IsSized disk → Takes write disk
    → FailsWrite write disk (missed taken disk write)
FailsWrite-missed taken write disk sized takes =
    let on_reads = subst (λ (n : ℕ). IsSectorWrite n write) (sym sized.0.reads.same_length) takes in
    record { base = refl; pending = inr (refl, IsSameBeside-cut taken write disk.reads on_reads) }

if-true : {A : Type 0} (b : Bool) (x : A) (P : A → Type 0) → (IsTrue b → P x) → IfSome (if b then Some x else None) P
if-true true x P holds = holds refl
if-true false x P holds = tt

-- a write that is noted leaves a device of whole sectors
put-sized : (puts : Disk → Write → Disk) (write : Write) (disk : Disk) → (Takes write disk → IsSized (puts disk write))
    → IfSome (after_put puts write disk) IsSized
put-sized puts write disk keeps =
    if-true (is_sector_write (length disk.base) write) (puts disk write) IsSized (λ is. keeps (sector-write _ write is))

after-sized : (event : Event) (bytes : List ℕ) (disk : Disk) → IsSized disk
    → IfSome (after_event event bytes disk) IsSized
after-sized (Read at) bytes disk sized =
    if-true (bytes_eq bytes (part disk.reads at (length bytes))) disk IsSized (λ _. sized)
after-sized Unsynced bytes disk sized = tt
after-sized (Written at) bytes disk sized =
    let write = write_at at bytes in
    put-sized written write disk (λ takes. (IsValid-written disk write sized.0 takes, sized.1))
after-sized (Missed at taken) bytes disk sized =
    let write = write_at at bytes in
    put-sized (missed taken) write disk (λ takes.
    let fails = FailsWrite-missed taken write disk sized takes in
    (IsValid-failed disk (missed taken disk write) write sized.0 takes fails, sized.1))
after-sized Synced bytes disk sized = (IsValid-synced disk sized.0, sized.0.reads.same_length ∙ sized.1)
after-sized Crashed bytes disk sized = (IsValid-synced disk sized.0, sized.0.reads.same_length ∙ sized.1)
after-sized Lost bytes disk sized = tt

then-known : (told : Option Disk) (step : Disk → Option Disk) (P : Disk → Type 0)
    → ((disk : Disk) → P disk → IfSome (step disk) P) → IfSome told P → IfSome (option_and_then step told) P
then-known None step P keeps known = tt
then-known (Some disk) step P keeps known = keeps disk known

-- what a file means is a device of whole sectors, whatever was noted
pub replay-sized : (bytes : List ℕ) (notes : List Note) → IfSome (replay (filled FILE_DISK_LEN bytes) notes) IsSized
replay-sized bytes [] =
    let long = length-filled FILE_DISK_LEN bytes in
    (IsValid-settled (filled FILE_DISK_LEN bytes) (ap (λ n. n % BLOCK_SIZE) long), long)
replay-sized bytes (one ∷ earlier) =
    let before = replay (filled FILE_DISK_LEN bytes) earlier in
    then-known before (after_event one.event one.bytes) IsSized (after-sized one.event one.bytes)
    (replay-sized bytes earlier)

known-size : (told : Option Disk) → IfSome told IsSized → IfSome told (HasSize FILE_DISK_LEN)
known-size None sized = tt
known-size (Some disk) sized = record { base = sized.1; reads = sized.0.reads.same_length ∙ sized.1 }

pub replay-size : (bytes : List ℕ) (notes : List Note)
    → IfSome (replay (filled FILE_DISK_LEN bytes) notes) (HasSize FILE_DISK_LEN)
replay-size bytes notes = known-size _ (replay-sized bytes notes)

-- what the file means after one more call
abbrev pub told_after : Event → List ℕ → Option Disk → Option Disk
told_after event bytes told = option_and_then (after_event event bytes) told

if-told : (b : Bool) (disk after : Disk) (R : Disk → Disk → Type 0) → IsTrue b → R disk after
    → OnTold (Some disk) (if b then Some after else None) R
if-told true disk after R is holds = (after, refl, holds)
if-told false disk after R is holds = absurd (false≢true is)

takes-range : (at : ℕ) (bytes : List ℕ) (disk : Disk) → IsRange FILE_DISK_LEN at (length bytes) → IsSized disk
    → Takes (write_at at bytes) disk
takes-range at bytes disk range sized =
    record { aligned = range.from_sector; whole = range.whole_sectors; within = omega (arith, range.within, sized.1) }

-- a write of the device
put-told : (puts : Disk → Write → Disk) (at : ℕ) (bytes : List ℕ) (told : Option Disk) (R : Disk → Disk → Type 0)
    → IsRange FILE_DISK_LEN at (length bytes) → IfSome told IsSized
    → ((disk : Disk) → IsSized disk → Takes (write_at at bytes) disk → R disk (puts disk (write_at at bytes)))
    → OnTold told (option_and_then (after_put puts (write_at at bytes)) told) R
put-told puts at bytes None R range sized does = refl
put-told puts at bytes (Some disk) R range sized does =
    let write = write_at at bytes in
    let takes = takes-range at bytes disk range sized in
    if-told (is_sector_write (length disk.base) write) disk (puts disk write) R (write-sector _ write takes)
    (does disk sized takes)

-- what a file means that held these bytes
abbrev pub meant : List ℕ → List Note → Option Disk
meant bytes notes = replay (filled FILE_DISK_LEN bytes) notes

-- a write that is noted as one that answered Ok, and one that is noted as failed
pub write-told : (start : List ℕ) (at : ℕ) (bytes : List ℕ) (old new : List Note)
    → IsRange FILE_DISK_LEN at (length bytes) → new ≡ note (Written at) bytes ∷ old
    → OnTold (meant start old) (meant start new) (λ a b. b ≡ written a (write_at at bytes))
write-told start at bytes old new range noted =
    let write = write_at at bytes in
    subst (λ (notes : List Note). OnTold (meant start old) (meant start notes) (λ a b. b ≡ written a write)) (sym noted)
    (put-told written at bytes (meant start old) _ range (replay-sized start old) (λ disk sized takes. refl))

pub miss-told : {taken : ℕ} (start : List ℕ) (at : ℕ) (bytes : List ℕ) (old new : List Note)
    → IsRange FILE_DISK_LEN at (length bytes) → new ≡ note (Missed at taken) bytes ∷ old
    → OnTold (meant start old) (meant start new) (FailsWrite (write_at at bytes))
miss-told {taken = taken} start at bytes old new range noted =
    let write = write_at at bytes in
    subst (λ (notes : List Note). OnTold (meant start old) (meant start notes) (FailsWrite write)) (sym noted)
    (put-told (missed taken) at bytes (meant start old) _ range (replay-sized start old)
    (λ disk. FailsWrite-missed taken write disk))

synced-crash : (told : Option Disk) → IfSome told IsSized → WhereTold told (told_after Crashed [] told) Crashes
synced-crash None sized = tt
synced-crash (Some disk) sized = (disk, refl, record { image = disk.reads; possible = sized.0.reads; left = refl })

-- a crash at which the file was synced
pub crash-told : (start : List ℕ) (old new : List Note) → new ≡ note Crashed [] ∷ old
    → WhereTold (meant start old) (meant start new) Crashes
crash-told start old new noted =
    subst (λ (notes : List Note). WhereTold (meant start old) (meant start notes) Crashes) (sym noted)
    (synced-crash (meant start old) (replay-sized start old))

-- one more call is noted after those that were
pub noted-on : {one : Note} {old middle new : List Note} → new ≡ one ∷ middle → middle ≡ old → new ≡ one ∷ old
noted-on {one = one} noted same = noted ∙ ap (λ notes. one ∷ notes) same
