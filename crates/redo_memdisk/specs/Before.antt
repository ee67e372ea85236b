-- A device that tells after a call told before it.
use Rattle.std.specs.Prelude.{ℕ, zero, suc, ◌≡◌, ◌≢◌, ◌<◌, ◌++◌, Bool, true, false, List, [], ◌∷◌, Option, Some, None, Ok, Err, option_and_then}
use Rattle.std.proofs.Common.{refl, sym, ap, subst}
use native.Mathlib.Nat.{zero-lt-suc}
use Rattle.model_device.specs.{Disk}
use Rattle.model_device.specs.declared.write.Write.{Write}
use Rattle.redo_disk.specs.{Answer, Call, Reads, Syncs, SyncStep, Writes, WriteStep, OnTold, Seen, StillTells}
use Rattle.redo_memdisk.specs.File.{FileGives, file_seen, notes_of, read_event}
use Rattle.redo_memdisk.specs.Fused.{fails_next, CallsThrough, ReadsThrough, SyncsThrough, WritesThrough}
use Rattle.redo_memdisk.specs.Memory.{MemGives, MemState, mem_seen}
use Rattle.redo_memdisk.specs.Notes.{Note, after_event, filled, note, replay}
use Rattle.redo_memdisk.specs.declared.file.FileDisk.{FileDisk}
use Rattle.redo_memdisk.specs.declared.file.Opening.{Opening}
use Rattle.redo_memdisk.specs.declared.file.TheConstants.{FILE_DISK_LEN}
use Rattle.redo_memdisk.specs.declared.fused.Fused.{Fused}
use Rattle.redo_memdisk.specs.declared.record.Event.TheVariants.{Written, Missed, Synced}

-- whether it tells
abbrev Tells : Option Disk → Type 0
Tells None = ⊥
Tells (Some disk) = Unit {0}

some-none : (disk : Disk) → Some disk ≡ None → ⊥
some-none disk same = subst Tells same tt

some-before : (disk : Disk) (new : Option Disk) → new ≢ None → Some disk ≢ None
some-before disk new told same = some-none disk same

same-before : (old new : Option Disk) → new ≡ old → new ≢ None → old ≢ None
same-before old new same told = subst (λ (one : Option Disk). one ≢ None) same told

still-before : (old new : Option Disk) → StillTells old new → new ≢ None → old ≢ None
still-before old None still told = absurd (told refl)
still-before old (Some disk) still told =
    subst (λ (one : Option Disk). one ≢ None) (sym still) (some-none disk)

on-before : (old new : Option Disk) (R : Disk → Disk → Type 0) → OnTold old new R → new ≢ None → old ≢ None
on-before None new R step told = absurd (told step)
on-before (Some disk) new R step told = some-none disk

write-before : (write : Write) (old new : Seen) (answer : Answer) → WriteStep write old answer new
    → new.tells ≢ None → old.tells ≢ None
write-before write old new (Ok done) step = on-before old.tells new.tells _ step.ok
write-before write old new (Err error) step = on-before old.tells new.tells _ step.err

sync-before : (old new : Seen) (answer : Answer) → SyncStep old answer new → new.tells ≢ None → old.tells ≢ None
sync-before old new (Ok done) step = on-before old.tells new.tells _ step.ok
sync-before old new (Err error) step = same-before old.tells new.tells step.err

pub mem-before : (old new : MemState) (call : Call) → MemGives old call new
    → (mem_seen new).tells ≢ None → (mem_seen old).tells ≢ None
mem-before old new call given = some-before old.disk (Some new.disk)

note-before : (start : List ℕ) (one : Note) (notes : List Note)
    → replay start (one ∷ notes) ≢ None → replay start notes ≢ None
note-before start one notes now same =
    now (ap (λ (told : Option Disk). option_and_then (after_event one.event one.bytes) told) same)

notes-before : (start : List ℕ) (opening : Opening) (taken : ℕ) (call : Call) (notes : List Note)
    → replay start (notes_of opening taken call ++ notes) ≢ None → replay start notes ≢ None
notes-before start opening taken (Reads at before (Ok done) after) notes now =
    note-before start (note (read_event opening at) after) notes now
notes-before start opening taken (Reads at before (Err error) after) notes now = now
notes-before start opening taken (Writes write (Ok done)) notes now =
    note-before start (note (Written write.at) write.bytes) notes now
notes-before start opening taken (Writes write (Err error)) notes now =
    note-before start (note (Missed write.at taken) write.bytes) notes now
notes-before start opening taken (Syncs (Ok done)) notes now = note-before start (note Synced []) notes now
notes-before start opening taken (Syncs (Err error)) notes now = now

pub file-before : {R S F D : Type 0} (bytes : List ℕ) (old new : FileDisk R S F D) (call : Call)
    → FileGives old call new → (file_seen bytes new).tells ≢ None → (file_seen bytes old).tells ≢ None
file-before bytes old new call given told =
    let start = filled FILE_DISK_LEN bytes in
    notes-before start new.opening given.taken call old.calls.notes
    (subst (λ (notes : List Note). replay start notes ≢ None) given.noted told)

module _ {D : Type 0} (seen : D → Seen) (gives : D → Call → D → Type 0) (old new : Fused D) where
  -- what the device behind the fuse tells
  abbrev tells : Fused D → Option Disk
  tells fused = (seen fused.inner).tells

  same-inner : new.inner ≡ old.inner → tells new ≢ None → tells old ≢ None
  same-inner same = same-before _ _ (ap (λ device. (seen device).tells) same)

  read-before : (at : ℕ) (before after : List ℕ) (answer : Answer) (fails : Bool) → fails_next old.fuse ≡ fails
      → ReadsThrough seen gives old at before answer after new → tells new ≢ None → tells old ≢ None
  read-before at before after answer true is through = same-inner (through.same_inner is)
  read-before at before after answer false is through = still-before _ _ (through.passed_step is).same

  stopped-before : (write : Write) (answer : Answer) (own : ℕ) → old.fuse.own ≡ own → fails_next old.fuse ≡ true
      → WritesThrough seen gives old write answer new → tells new ≢ None → tells old ≢ None
  stopped-before write answer zero none is through =
      let first = through.first is none in
      write-before write (seen old.inner) (seen new.inner) first.0 first.2
  stopped-before write answer (suc n) some is through =
      same-inner (through.later is (subst (λ (m : ℕ). 0 < m) (sym some) (zero-lt-suc n)))

  writes-before : (write : Write) (answer : Answer) (fails : Bool) → fails_next old.fuse ≡ fails
      → WritesThrough seen gives old write answer new → tells new ≢ None → tells old ≢ None
  writes-before write answer true is through = stopped-before write answer old.fuse.own refl is through
  writes-before write answer false is through = write-before write _ _ answer (through.passed_step is)

  syncs-before : (answer : Answer) (fails : Bool) → fails_next old.fuse ≡ fails → SyncsThrough seen gives old answer new
      → tells new ≢ None → tells old ≢ None
  syncs-before answer true is through = same-inner (through.same_inner is)
  syncs-before answer false is through = sync-before _ _ answer (through.passed_step is)

  pub fused-before : (call : Call) → CallsThrough seen gives old call new
      → (seen new.inner).tells ≢ None → (seen old.inner).tells ≢ None
  fused-before (Reads at before answer after) through =
      read-before at before after answer (fails_next old.fuse) refl through
  fused-before (Writes write answer) through = writes-before write answer (fails_next old.fuse) refl through
  fused-before (Syncs answer) through = syncs-before answer (fails_next old.fuse) refl through
