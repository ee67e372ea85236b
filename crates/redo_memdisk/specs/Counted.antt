-- What a fuse tells after calls through it.
use Rattle.std.specs.Prelude.{ℕ, zero, suc, ◌≡◌, ◌≢◌, ◌≤◌, ◌<◌, ◌+◌, ◌⊎◌, List, [], ◌∷◌, length, IsTrue, None, IfSome}
use Rattle.model_base.specs.{HasRisen}
use Rattle.redo_io.specs.{saturating_next}
use Rattle.redo_disk.specs.{Call, changing_calls, failed_calls, Reads, Syncs, Writes, Seen}
use Rattle.redo_memdisk.specs.Fused.{after_call, after_change, fails_next, is_failed, armed_at, entry_of}
use Rattle.redo_memdisk.specs.declared.fuse.Fuse.{Fuse}
use Rattle.redo_memdisk.specs.declared.fuse.Stage.{Stage}
use Rattle.redo_memdisk.specs.declared.fuse.Stage.TheVariants.{Before, Stopping, Crashed}
use Rattle.redo_memdisk.specs.declared.fused.Fused.{Fused}

-- the fuse after one call
abbrev pub after_one : Fuse → Call → Fuse
after_one fuse (Reads at before answer after) = after_call fuse (is_failed answer)
after_one fuse (Writes write answer) = after_change fuse (is_failed answer)
after_one fuse (Syncs answer) = after_change fuse (is_failed answer)

-- the fuse after calls
abbrev pub after_calls : Fuse → List Call → Fuse
after_calls fuse [] = fuse
after_calls fuse (call ∷ calls) = after_calls (after_one fuse call) calls

-- a count after so many more
abbrev pub counted : ℕ → ℕ → ℕ
counted zero count = count
counted (suc more) count = counted more (saturating_next count)

-- so many before the fuse is armed, and none at other times
abbrev pub before_arming : Stage → ℕ → ℕ
before_arming Before more = more
before_arming Stopping more = 0
before_arming Crashed more = 0

-- so many from the arming to the crash
abbrev pub while_stopping : Stage → ℕ → ℕ
while_stopping Before more = 0
while_stopping Stopping more = more
while_stopping Crashed more = 0

-- so many after the crash
abbrev pub after_crash : Stage → ℕ → ℕ
after_crash Before more = 0
after_crash Stopping more = 0
after_crash Crashed more = more

-- What a fuse tells after so many calls through it, of which so many answered Failed and so many were writes or syncs.
-- Each count goes on in its own part of the run.
pub record CountsCalls (old : Fuse) (calls failed changing : ℕ) (new : Fuse) : Type 0 where
  pub stage : new.stage ≡ old.stage
  pub limit : new.limit ≡ old.limit
  pub pick : new.pick ≡ old.pick
  pub early_calls : new.early_calls ≡ counted (before_arming old.stage calls) old.early_calls
  pub early : new.early ≡ counted (before_arming old.stage failed) old.early
  pub mid : new.mid ≡ counted (while_stopping old.stage failed) old.mid
  pub late : new.late ≡ counted (after_crash old.stage failed) old.late
  pub late_changes : new.late_changes ≡ counted (after_crash old.stage changing) old.late_changes
  pub changes : new.changes ≡ counted changing old.changes
  -- it passes on no more calls than its limit says
  pub within : IfSome old.limit (λ limit. old.passed ≤ limit → new.passed ≤ limit)
  -- what it has passed on stays so
  pub passed : 0 < old.passed → 0 < new.passed
  -- once it fails calls it goes on
  pub stays : IsTrue (fails_next old) → IsTrue (fails_next new)
  -- while it fails none it has failed none
  pub own : (IsTrue (fails_next new) → ⊥) → new.own ≡ old.own
  -- from the arming to the crash each call is passed on, or it fails
  pub some : 0 < while_stopping old.stage calls → 0 < new.passed + new.mid

-- What calls through a fuse leave of the device behind it: the size, and what it was at first and at the arming, are
-- the same. One that tells now told before. Its count of faults never falls, and it has risen where a call failed, or the
-- fuse has passed on all that it was to.
pub record KeepsBehind {D : Type 0} (seen : D → Seen) (old : Fused D) (failed : ℕ) (new : Fused D) : Type 0 where
  pub size : (seen new.inner).size ≡ (seen old.inner).size
  pub armed : armed_at new ≡ armed_at old
  pub entry : entry_of new ≡ entry_of old
  pub told : (seen new.inner).tells ≢ None → (seen old.inner).tells ≢ None
  pub later : (seen old.inner).faults ≤ (seen new.inner).faults
  pub cause : 0 < failed → HasRisen (seen old.inner).faults (seen new.inner).faults ⊎ IsTrue (fails_next new.fuse)

-- What calls through a fuse leave that are so: what the fuse tells, and what of the device behind it.
pub record Through {D : Type 0} (seen : D → Seen) (old new : Fused D) (Are : List Call → Type 0) : Type 0 where
  pub calls : List Call
  pub are : Are calls
  pub counts : CountsCalls old.fuse (length calls) (failed_calls calls) (changing_calls calls) new.fuse
  pub behind : KeepsBehind seen old (failed_calls calls) new
