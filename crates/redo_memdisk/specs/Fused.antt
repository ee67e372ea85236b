-- A fuse lets so many calls of a device through and fails those after them, from when it is armed to the crash.
-- What a device with a fuse shows, and what its calls are of the calls of the device behind the fuse: each is passed on,
-- once and as it is, or the fuse fails it and the device doesn't notice, but for the first such call where that is a
-- write.
use Rattle.std.specs.Prelude.{ℕ, nat_le, Bool, true, false, if◌then◌else◌, Option, Some, None, Result, Ok, Err, ◌≡◌, ◌<◌, ◌+◌, List, length, IsTrue}
use Rattle.redo_io.specs.{next_count_if, saturating_next}
use Rattle.redo_disk.specs.declared.error.DevError.{DevError}
use Rattle.redo_disk.specs.declared.error.DevError.TheVariants.{Failed, NoMemory}
use Rattle.redo_memdisk.specs.declared.fuse.Fuse.{Fuse}
use Rattle.redo_memdisk.specs.declared.fuse.Stage.{Stage}
use Rattle.redo_memdisk.specs.declared.fuse.Stage.TheVariants.{Before, Stopping, Crashed}
use Rattle.std.specs.Option.{option_map, option_and_then}
use Rattle.model_device.specs.{Disk}
use Rattle.model_device.specs.declared.write.Write.{Write}
use Rattle.redo_disk.specs.{Call, MakesCall, Reads, ReadStep, Syncs, SyncStep, Writes, WriteStep, Seen}
use Rattle.redo_memdisk.specs.declared.fused.Fused.{Fused}

-- the call answered that the device failed
abbrev pub is_failed : {T : Type 0} → Result T DevError → Bool
is_failed (Ok value) = false
is_failed (Err Failed) = true
is_failed (Err NoMemory) = false

-- a stop at this point has passed as many calls as it is to
abbrev pub has_passed_all : Stage → Option ℕ → ℕ → Bool
has_passed_all Before limit passed = false
has_passed_all Stopping None passed = false
has_passed_all Stopping (Some limit) passed = nat_le limit passed
has_passed_all Crashed limit passed = false

-- the fuse fails the next call itself
abbrev pub fails_next : Fuse → Bool
fails_next fuse = has_passed_all fuse.stage fuse.limit fuse.passed

-- the fuse after it failed a call itself
abbrev pub after_own : Fuse → Fuse
after_own fuse = record fuse { mid = saturating_next fuse.mid; own = saturating_next fuse.own }

-- the fuse after it passed a call on, by whether that answered Failed
abbrev pub after_passed : Stage → Fuse → Bool → Fuse
after_passed Before fuse failed = record fuse { early_calls = saturating_next fuse.early_calls; early = next_count_if failed fuse.early }
after_passed Stopping fuse failed = record fuse { passed = saturating_next fuse.passed; mid = next_count_if failed fuse.mid }
after_passed Crashed fuse failed = record fuse { late = next_count_if failed fuse.late }

-- the fuse after a call, by whether it answered Failed
abbrev pub after_call : Fuse → Bool → Fuse
after_call fuse failed = if fails_next fuse then after_own fuse else after_passed fuse.stage fuse failed

-- a write, a sync or a crash is counted, also by itself where it comes after the crash
abbrev pub with_change : Stage → Fuse → Fuse
with_change Before fuse = record fuse { changes = saturating_next fuse.changes }
with_change Stopping fuse = record fuse { changes = saturating_next fuse.changes }
with_change Crashed fuse = record fuse { late_changes = saturating_next fuse.late_changes; changes = saturating_next fuse.changes }

-- the fuse after a write or a sync, by whether it answered Failed
abbrev pub after_change : Fuse → Bool → Fuse
after_change fuse failed = after_call (with_change fuse.stage fuse) failed

-- the device without the fuse
abbrev pub inner_of : {D : Type 0} → Fused D → D
inner_of fused = fused.inner

-- what its fuse was to do, and what it did
abbrev pub fuse_of : {D : Type 0} → Fused D → Fuse
fuse_of fused = fused.fuse

-- the device that was handed in
abbrev pub entry_of : {D : Type 0} → Fused D → D
entry_of fused = fused.entry.value

-- the device without the fuse as it was when the fuse was armed
abbrev pub armed_at : {D : Type 0} → Fused D → Option D
armed_at fused = option_map (λ found. found.value) fused.armed_at

-- what the device meant when the fuse was armed, where it was armed and the device tells
abbrev pub armed_from : {D : Type 0} → (D → Seen) → Fused D → Option Disk
armed_from seen fused = option_and_then (λ device. (seen device).tells) (armed_at fused)

-- The device with its fuse, as its readers see it. The fuse's own failures count as the device's.
abbrev pub seen_through : {D : Type 0} → (D → Seen) → Fused D → Seen
seen_through seen fused = record {
  size = (seen fused.inner).size;
  tells = (seen fused.inner).tells;
  crashed_from = (seen fused.inner).crashed_from;
  faults = (seen fused.inner).faults + fused.fuse.own;
}

pub record ReadsThrough {D : Type 0} (seen : D → Seen) (gives : D → Call → D → Type 0)
    (old : Fused D) (at : ℕ) (before : List ℕ) (result : Result (Unit {0}) DevError) (out : List ℕ) (new : Fused D) : Type 0 where
  pub passed : fails_next old.fuse ≡ false → MakesCall gives old.inner (Reads at before result out) new.inner
  pub passed_step : fails_next old.fuse ≡ false → ReadStep at (length before) (seen old.inner) result out (seen new.inner)
  pub failed : IsTrue (fails_next old.fuse) → result ≡ Err Failed
  pub same_out : IsTrue (fails_next old.fuse) → out ≡ before
  pub same_inner : IsTrue (fails_next old.fuse) → new.inner ≡ old.inner
  pub same_armed : armed_at new ≡ armed_at old
  pub same_entry : entry_of new ≡ entry_of old
  pub counts : new.fuse ≡ after_call old.fuse (is_failed result)

-- A write through the fuse. The first call that the fuse fails still reaches the device if it is a write, and nobody
-- hears the answer.
pub record WritesThrough {D : Type 0} (seen : D → Seen) (gives : D → Call → D → Type 0)
    (old : Fused D) (write : Write) (result : Result (Unit {0}) DevError) (new : Fused D) : Type 0 where
  pub passed : fails_next old.fuse ≡ false → MakesCall gives old.inner (Writes write result) new.inner
  pub passed_step : fails_next old.fuse ≡ false → WriteStep write (seen old.inner) result (seen new.inner)
  pub failed : IsTrue (fails_next old.fuse) → result ≡ Err Failed
  pub first : IsTrue (fails_next old.fuse) → old.fuse.own ≡ 0 →
      (unheard : Result (Unit {0}) DevError) × MakesCall gives old.inner (Writes write unheard) new.inner × WriteStep write (seen old.inner) unheard (seen new.inner)
  pub later : IsTrue (fails_next old.fuse) → 0 < old.fuse.own → new.inner ≡ old.inner
  pub same_armed : armed_at new ≡ armed_at old
  pub same_entry : entry_of new ≡ entry_of old
  pub counts : new.fuse ≡ after_change old.fuse (is_failed result)

pub record SyncsThrough {D : Type 0} (seen : D → Seen) (gives : D → Call → D → Type 0)
    (old : Fused D) (result : Result (Unit {0}) DevError) (new : Fused D) : Type 0 where
  pub passed : fails_next old.fuse ≡ false → MakesCall gives old.inner (Syncs result) new.inner
  pub passed_step : fails_next old.fuse ≡ false → SyncStep (seen old.inner) result (seen new.inner)
  pub failed : IsTrue (fails_next old.fuse) → result ≡ Err Failed
  pub same_inner : IsTrue (fails_next old.fuse) → new.inner ≡ old.inner
  pub same_armed : armed_at new ≡ armed_at old
  pub same_entry : entry_of new ≡ entry_of old
  pub counts : new.fuse ≡ after_change old.fuse (is_failed result)

abbrev pub CallsThrough : {D : Type 0} → (D → Seen) → (D → Call → D → Type 0) → Fused D → Call → Fused D → Type 0
CallsThrough seen gives old (Reads at before answer after) new = ReadsThrough seen gives old at before answer after new
CallsThrough seen gives old (Writes write answer) new = WritesThrough seen gives old write answer new
CallsThrough seen gives old (Syncs answer) new = SyncsThrough seen gives old answer new
