-- Calls through a fuse, and what the device behind it tells.
use Rattle.std.proofs.Common.{ℕ, ◌≡◌, Bool, true, false, List, [], ◌∷◌, refl, ap, ◌∙◌}
use Rattle.redo_disk.specs.{Answer, AreReads, Call, Makes, Reads, StillTells, Syncs, Writes, Seen}
use Rattle.redo_disk.proofs.Told.{still-same, still-then}
use Rattle.redo_memdisk.specs.{CallsThrough, fails_next, ReadsThrough}
use Rattle.redo_memdisk.specs.declared.fused.Fused.{Fused}

-- a device means what it meant, if it still tells, and what it meant just before its last crash is told as it was
pub record IsKeptBehind (old new : Seen) : Type 0 where
  pub tells : StillTells old.tells new.tells
  pub crashed_from : new.crashed_from ≡ old.crashed_from

kept-read : {D : Type 0} (seen : D → Seen) (gives : D → Call → D → Type 0) (old new : Fused D) (at : ℕ) (before after : List ℕ) (answer : Answer) (fails : Bool)
    → fails_next old.fuse ≡ fails → ReadsThrough seen gives old at before answer after new → IsKeptBehind (seen old.inner) (seen new.inner)
kept-read seen gives old new at before after answer true is through = record {
  tells = still-same _ _ (ap (λ device. (seen device).tells) (through.same_inner is));
  crashed_from = ap (λ device. (seen device).crashed_from) (through.same_inner is);
}
kept-read seen gives old new at before after answer false is through = record {
  tells = (through.passed_step is).same;
  crashed_from = (through.passed_step is).same_crash;
}

-- Reads keep what it means.
pub reads-keep : {D : Type 0} (seen : D → Seen) (gives : D → Call → D → Type 0) (old new : Fused D) (calls : List Call)
    → AreReads calls → Makes (CallsThrough seen gives) old calls new → IsKeptBehind (seen old.inner) (seen new.inner)
reads-keep seen gives old new [] reads made = record {
  tells = still-same _ _ (ap (λ (fused : Fused _). (seen fused.inner).tells) made);
  crashed_from = ap (λ (fused : Fused _). (seen fused.inner).crashed_from) made;
}
reads-keep seen gives old new (Reads at before answer after ∷ calls) reads made =
    let rest = reads-keep seen gives made.0 new calls reads.1 made.2 in
    let first = kept-read seen gives old made.0 at before after answer (fails_next old.fuse) refl made.1.given in
    record { tells = still-then _ _ _ first.tells rest.tells; crashed_from = rest.crashed_from ∙ first.crashed_from }
reads-keep seen gives old new (Writes write answer ∷ calls) reads made = absurd reads.0
reads-keep seen gives old new (Syncs answer ∷ calls) reads made = absurd reads.0
