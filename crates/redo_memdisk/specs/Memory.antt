-- A device in memory: what it means, and what its calls do to it.
use Rattle.std.specs.Prelude.{ℕ, ◌≡◌, if◌then◌else◌, List, length, replicate, Option, Some, None, Result, Ok, Err, OnOk, OnErr}
use Rattle.model_device.specs.{after_writes, crashed, settled, synced, written, Disk}
use Rattle.model_device.specs.declared.write.Write.{Write}
use Rattle.redo_io.specs.{fails_now, plan_after_call, Planned, unused}
use Rattle.redo_disk.specs.{Call, part, Reads, Syncs, Writes, Seen}
use Rattle.redo_disk.specs.declared.error.DevError.{DevError}
use Rattle.redo_disk.specs.declared.error.DevError.TheVariants.{Failed, NoMemory}

-- what a device in memory shows
pub record MemState : Type 0 where
  pub disk : Disk
  -- what it meant just before its last crash
  pub crashed_from : Option Disk
  -- which calls fail; reads, writes and syncs are numbered together
  pub plan : Planned
  -- how many of the first bytes of a sector's write a crash leaves where the write doesn't survive
  pub cut : ℕ

-- a device of so many zeros, which tears sectors after so many bytes, and fails the calls of these numbers
abbrev pub new_memory : ℕ → ℕ → List ℕ → MemState
new_memory len cut calls = record { disk = settled (replicate len 0); crashed_from = None; plan = unused calls; cut = cut }

-- the device, as its readers see it
abbrev pub mem_seen : MemState → Seen
mem_seen state = record {
  size = length state.disk.base;
  tells = Some state.disk;
  crashed_from = state.crashed_from;
  faults = state.plan.faults;
}

-- what these bytes at the last good sync and these writes since mean
abbrev pub pending_disk : List ℕ → List Write → Disk
pending_disk base writes = record { base = base; writes = writes; reads = after_writes base writes }

-- what the next call answers
abbrev pub next_answer : Planned → Result (Unit {0}) DevError
next_answer plan = if fails_now plan then Err Failed else Ok tt

-- a read, which leaves the buffer as it was where it fails
pub record ReadsMemory (old : MemState) (at : ℕ) (before : List ℕ) (result : Result (Unit {0}) DevError) (out : List ℕ) (new : MemState) : Type 0 where
  pub answer : result ≡ next_answer old.plan
  pub ok : OnOk result (out ≡ part old.disk.reads at (length before))
  pub err : OnErr result (out ≡ before)
  pub after : new ≡ record old { plan = plan_after_call old.plan }

-- A write that finds no memory changes nothing. Any other is pending, whether it fails or not.
abbrev pub WritesMemory : MemState → Write → Result (Unit {0}) DevError → MemState → Type 0
WritesMemory old write (Err NoMemory) new = new ≡ old
WritesMemory old write answer new =
    (answer ≡ next_answer old.plan) × (new ≡ record old { disk = written old.disk write; plan = plan_after_call old.plan })

-- a sync, which does nothing where it fails
pub record SyncsMemory (old : MemState) (result : Result (Unit {0}) DevError) (new : MemState) : Type 0 where
  pub answer : result ≡ next_answer old.plan
  pub after : new ≡ record old { disk = if fails_now old.plan then old.disk else synced old.disk; plan = plan_after_call old.plan }

-- a call
abbrev pub MemGives : MemState → Call → MemState → Type 0
MemGives old (Reads at before answer after) new = ReadsMemory old at before answer after new
MemGives old (Writes write answer) new = WritesMemory old write answer new
MemGives old (Syncs answer) new = SyncsMemory old answer new

-- a crash with this pick
abbrev pub CrashesMemory : MemState → ℕ → MemState → Type 0
CrashesMemory old pick new = new ≡ record old { disk = crashed old.cut pick old.disk; crashed_from = Some old.disk }
