use Rattle.std.proofs.Common.{◌≡◌, [], None, refl, arith}
use Rattle.model_device.specs.{settled, Disk}
use Rattle.model_archive.specs.{base_text, begun_bytes, begun_marks}
use Rattle.redo_disk.specs.{HasSize}
use Rattle.redo_disk.proofs.Told.{told-step}
use Rattle.redo_archive.specs.Part.{DiskArchives}
use Rattle.redo_archive.proofs.Appends.{begun-part}
use Rattle.redo_archive.proofs.part.ArchPart.begin.Goals as goal

pub returns-in-Ok-clause-begun : goal.returns-in-Ok-clause-begun
returns-in-Ok-clause-begun g c =
    let shape = c.args.shape.now in
    let start = c.args.start in
    let pages = c.args.pages.now in
    let size = (g.A.Sectors.seen c.args.dev).size in
    let now = (g.A.Sectors.seen c.put_archive.new.device).size in
    record {
      shape_is = refl;
      start_is = refl;
      marks_are = refl;
      live = refl;
      holds = told-step _ _ (HasSize size) (DiskArchives now shape start pages [] (begun_marks start) None)
          (λ (old new : Disk). new ≡ settled (begun_bytes shape start (base_text 0 shape.space pages) old.reads))
          (λ a b sized is. begun-part size now shape start pages (base_text 0 shape.space pages) a b c.requires.limits
          c.requires.run_start c.in-Ok.ensures.ok.0 c.requires.its_pages.count
          (omega (arith, c.if-len-asked.false, c.pages_end-asked.ensures.value, c.len.ensures.size)) sized
          c.put_archive.ensures.size refl is) c.len.ensures.told c.in-Ok.ensures.ok.1;
      size = c.put_archive.ensures.size;
      later = omega (arith, c.put_archive.ensures.cause.later);
      calls = c.in-Ok.ensures.calls;
    }
