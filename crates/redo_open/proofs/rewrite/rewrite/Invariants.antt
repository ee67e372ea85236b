-- The pages so far are written or gathered, and no call has failed.
use Rattle.std.proofs.Common.{◌≡◌, ◌≤◌, ℕ, None}
use Rattle.model_device.specs.{IsWithin}
use Rattle.model_page.specs.{data_device_length}
use Rattle.model_page.specs.declared.content.Content.{Content}
use Rattle.redo_disk.specs.{MakesCalls}
use Rattle.redo_open.specs.Rewrite.{AreGathered, IsGatheredTo, AreTop, IsWrittenTo}
use Rattle.redo_open.specs.Puts.{PutsWhere}
use Rattle.redo_open.proofs.rewrite.rewrite.Given as goal

abbrev pub invariant-loop-page : goal.invariant-loop-page
invariant-loop-page g l = record {
  live : l.part.failed ≡ None;
  shape : l.part.shape ≡ l.fn.part.shape;
  size : (g.D.Sectors.seen l.part.dev).size ≡ (g.D.Sectors.seen l.fn.part.dev).size;
  later : (g.D.Sectors.seen l.fn.part.dev).faults ≤ (g.D.Sectors.seen l.part.dev).faults;
  gathered : AreGathered l.shape l.pages l.page l.batch;
  told : (top start : ℕ → Content) → AreTop l.pages l.places.found.items top start → IsWrittenTo l.shape top start 0 (g.D.Sectors.seen l.fn.part.dev).tells
      → IsGatheredTo l.shape top start l.page l.batch (g.D.Sectors.seen l.part.dev).tells;
  calls : MakesCalls g.D.Sectors.gives l.fn.part.dev l.part.dev (PutsWhere (IsWithin (data_device_length l.shape)) None);
}
