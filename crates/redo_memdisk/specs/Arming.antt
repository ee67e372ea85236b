-- A fuse before its first call, as it is armed, and at a crash.
use Rattle.std.specs.Prelude.{ℕ, Option, None, ◌≡◌, Some}
use Rattle.redo_memdisk.specs.declared.fuse.Fuse.{Fuse}
use Rattle.redo_memdisk.specs.declared.fuse.Stage.TheVariants.{Before, Stopping, Crashed}
use Rattle.redo_disk.specs.{CrashStep, Seen}
use Rattle.redo_memdisk.specs.declared.fused.Fused.{Fused}
use Rattle.redo_memdisk.specs.Fused.{armed_at, entry_of, with_change}

-- the fuse after a crash with this pick; a crash that follows another is a change like any other
abbrev pub crashed_with : ℕ → Fuse → Fuse
crashed_with pick fuse = record (with_change fuse.stage fuse) { stage = Crashed; pick = Some pick }

-- a fuse that was never armed, and saw no call
abbrev pub fresh : Fuse
fresh = record {
  stage = Before;
  limit = None;
  passed = 0;
  own = 0;
  pick = None;
  early_calls = 0;
  early = 0;
  mid = 0;
  late = 0;
  late_changes = 0;
  changes = 0;
}

-- the fuse as it begins the stop
abbrev pub armed : Option ℕ → Fuse → Fuse
armed limit fuse = record fuse { stage = Stopping; limit = limit }

-- A crash, with the same pick. It ends the stop.
pub record CrashesThrough {D : Type 0} (seen : D → Seen) (gives : D → ℕ → D → Type 0) (old : Fused D) (pick : ℕ) (new : Fused D) : Type 0 where
  pub passed : gives old.inner pick new.inner
  pub passed_step : CrashStep (seen old.inner) (seen new.inner)
  pub same_armed : armed_at new ≡ armed_at old
  pub same_entry : entry_of new ≡ entry_of old
  pub notes : new.fuse ≡ crashed_with pick old.fuse
