-- The pages so far are as they are kept, and were found so. There is room for the others.
use Rattle.std.proofs.Common.{◌≡◌, ◌≤◌, None, vec_capacity, vec_len}
use Rattle.redo_apply.specs.{ArePagesOf}
use Rattle.redo_recover.proofs.Paging.{AreKeptFirst}
use Rattle.redo_recover.specs.Devices.{OnContent, IsOnlyRead}
use Rattle.redo_recover.specs.Pages.{AreFoundAt, AreFoundWith}
use Rattle.redo_recover.proofs.kept.keep_pages.Given as goal

abbrev pub invariant-loop-page : goal.invariant-loop-page
invariant-loop-page g l = record {
  its_pages : ArePagesOf l.shape l.pages;
  reads : IsOnlyRead g.D.Sectors.seen g.D.Sectors.gives l.fn.device None l.device;
  room : l.shape.pages ≤ vec_capacity l.found;
  filled : vec_len l.found ≡ l.page;
  with : AreFoundWith l.shape l.page l.found.items l.pages;
  found : OnContent (g.D.Sectors.seen l.device).tells (AreFoundAt l.shape l.found.items);
  kept : OnContent (g.D.Sectors.seen l.device).tells (λ content. AreKeptFirst l.shape content l.page l.pages);
}
