use Rattle.std.proofs.Common.{◌≡◌, ◌<◌, ◌≤◌, ℕ, length, map, take, None, Some}
use Rattle.std.specs.List.{slice_get}
use Rattle.model_page.specs.{FitsPage}
use Rattle.model_page.specs.declared.content.Content.{Content}
use Rattle.redo_archive.proofs.Sealing.{AreWritten}
use Rattle.redo_archive.specs.Part.{base_writes}
use Rattle.redo_disk.specs.{MakesCalls, OnTold, Serve, ToWrite}
use Rattle.redo_archive.proofs.pages.write_base.Given as goal

abbrev pub invariant-loop-page : goal.invariant-loop-page
invariant-loop-page g l = record {
  room : length l.text ≡ l.shape.page_size;
  told : OnTold (g.A.Sectors.seen l.fn.device).tells (g.A.Sectors.seen l.device).tells
      (AreWritten l.shape l.pages l.page);
  size : (g.A.Sectors.seen l.device).size ≡ (g.A.Sectors.seen l.fn.device).size;
  later : (g.A.Sectors.seen l.fn.device).faults ≤ (g.A.Sectors.seen l.device).faults;
  fit : (p : ℕ) (page : Content) → p < l.page → slice_get l.pages p ≡ Some page
      → FitsPage p l.shape.space page.lsn page.user;
  calls : MakesCalls g.A.Sectors.gives l.fn.device l.device
      (Serve (map ToWrite (base_writes l.shape 0 (take l.page l.pages))) None);
}
