use Rattle.std.proofs.Common.{◌≡◌, ◌≤◌, ℕ, List, All, length}
use Rattle.model_log.specs.declared.layout.Layout.{Layout}
use Rattle.redo_recover.specs.Full.{AreFullIn, HasBounds}
use Rattle.redo_recover.specs.declared.full.FullBlocks.{FullBlocks}
use Rattle.redo_recover.proofs.full.FullBlocks.join_all.Given as goal

-- the stretches so far are joined, as far as they meet
abbrev pub invariant-loop-stretch : goal.invariant-loop-stretch
invariant-loop-stretch l = record {
  full : (layout : Layout) (image : List ℕ) → AreFullIn layout l.initial.self image → All (λ (full : FullBlocks). AreFullIn layout full image) l.yielded → AreFullIn layout l.self image;
  bounds : HasBounds l.initial.self → All HasBounds l.yielded → HasBounds l.self;
  few : length l.self.views.items ≤ l.most;
  lsn : l.self.lsn ≡ l.initial.self.lsn;
}
