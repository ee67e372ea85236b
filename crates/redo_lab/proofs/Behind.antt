-- A device stays the one that was handed in, behind the fuse that was armed, through calls and a crash.
use Rattle.std.proofs.Common.{ℕ, ◌≡◌, List, refl, ap, ◌∙◌}
use Rattle.redo_disk.specs.{Call, MakesCalls, Seen}
use Rattle.redo_memdisk.proofs.Behind.{counts-calls, keeps-behind}
use Rattle.redo_memdisk.specs.{CallsThrough, CrashesThrough, with_change}
use Rattle.redo_memdisk.specs.declared.fuse.Fuse.{Fuse}
use Rattle.redo_memdisk.specs.declared.fuse.Stage.{Stage}
use Rattle.redo_memdisk.specs.declared.fuse.Stage.TheVariants.{Before, Stopping, Crashed}
use Rattle.redo_memdisk.specs.declared.fused.Fused.{Fused}
use Rattle.redo_lab.specs.Call.{IsSameFused}

pub same-fused : {D : Type 0} (device : Fused D) → IsSameFused device device
same-fused device = record { entry = refl; armed = refl; limit = refl }

pub same-then : {D : Type 0} {old met new : Fused D} → IsSameFused old met → IsSameFused met new → IsSameFused old new
same-then first then = record {
  entry = then.entry ∙ first.entry;
  armed = then.armed ∙ first.armed;
  limit = then.limit ∙ first.limit;
}

pub calls-same : {D : Type 0} {seen : D → Seen} {gives : D → Call → D → Type 0} {old new : Fused D} {Are : List Call → Type 0}
    → MakesCalls (CallsThrough seen gives) old new Are → IsSameFused old new
calls-same {seen = seen} {gives = gives} {old = old} {new = new} made =
    let kept = keeps-behind seen gives old new made.calls made.made in
    record {
      entry = kept.entry;
      armed = kept.armed;
      limit = (counts-calls seen gives old new made.calls made.made).limit;
    }

-- a change is no change of the limit
change-limit : (stage : Stage) (fuse : Fuse) → (with_change stage fuse).limit ≡ fuse.limit
change-limit Before fuse = refl
change-limit Stopping fuse = refl
change-limit Crashed fuse = refl

pub crash-same : {D : Type 0} {seen : D → Seen} {crash_gives : D → ℕ → D → Type 0} {pick : ℕ} {old new : Fused D}
    → CrashesThrough seen crash_gives old pick new → IsSameFused old new
crash-same {old = old} crash = record {
  entry = crash.same_entry;
  armed = crash.same_armed;
  limit = ap (λ (fuse : Fuse). fuse.limit) crash.notes ∙ change-limit old.fuse.stage old.fuse;
}
