use Rattle.std.proofs.Common.{◌≡◌, ◌%◌, ◌*◌, ℕ, length, sym, ap, ◌∙◌, arith}
use Rattle.model_base.specs.{default_shape}
use Rattle.model_base.specs.declared.shape.Shape.{Shape}
use Rattle.model_archive.specs.{archive_length}
use Rattle.model_archive.specs.declared.marks.ArchMarks.{ArchMarks}
use Rattle.model_log.specs.{blocks_between}
use Rattle.tests_archive.proofs.archives.of_one_group.Goals as goal

pub append-result-requires : goal.append-result-requires
append-result-requires g c =
    let part = c.in-Ok-begin.part in
    let begun = c.in-Ok-begin.ensures.begun in
    let mark : part.marks.mark ≡ 8204 = ap (λ (m : ArchMarks). m.mark) begun.marks_are in
    let long : archive_length part.shape part.start 8210 ≡ 34816 =
    ap (λ (s : Shape). archive_length s part.start 8210) (begun.shape_is ∙ c.default_shape-shape.ensures.shape)
    ∙ ap (λ (n : ℕ). archive_length default_shape n 8210) begun.start_is in
    let count : length c.fill.new.out ≡ 512 = omega arith in
    record {
      live = begun.live;
      at_start = ap (λ n. n % 512) mark;
      place = (omega arith, omega arith);
      later = omega (arith, mark);
      small = omega arith;
      count = count ∙ ap (λ n. 512 * blocks_between n 8210) (sym mark);
      room = omega (arith, long, begun.size);
    }
