use Rattle.std.proofs.Common.{ap, ap₂, sym, ◌∙◌}
use Rattle.model_log.specs.{newer}
use Rattle.model_archive.specs.{read_archive_head, read_mark}
use Rattle.model_archive.proofs.Passing.{head-passes, IsMarkLsn, mark-passes, newest-passes}
use Rattle.redo_archive.proofs.extent.extent_in.Goals as goal

pub returns-clause-names : goal.returns-clause-names
returns-clause-names c = record {
  head = ap read_archive_head (sym c.sector_at.ensures) ∙ sym c.read_archive_head.ensures ∙ c.in_ok-start.was;
  number = c.in_ok-mark.field-0-0;
  newest =
      ap₂ newer (ap (read_mark 1 c.in_ok-start.start) (sym c.sector_at-2.ensures) ∙ sym c.read_mark-first.ensures)
      (ap (read_mark 2 c.in_ok-start.start) (sym c.sector_at-3.ensures) ∙ sym c.read_mark-second.ensures)
      ∙ sym c.newer.ensures ∙ c.in_ok-mark.was;
}

pub returns-clause-sound : goal.returns-clause-sound
returns-clause-sound c =
    let start = c.in_ok-start.start in
    let head = head-passes c.sector_at.result.now start c.in_ok-start.shape
    (sym c.read_archive_head.ensures ∙ c.in_ok-start.was) in
    let mark : IsMarkLsn start c.in_ok-mark.mark =
    newest-passes start c.in_ok-mark.field-0-0 c.in_ok-mark.mark c.read_mark-first.result c.read_mark-second.result
    (λ pair is. mark-passes 1 start c.sector_at-2.result.now pair (sym c.read_mark-first.ensures ∙ is))
    (λ pair is. mark-passes 2 start c.sector_at-3.result.now pair (sym c.read_mark-second.ensures ∙ is))
    (sym c.newer.ensures ∙ c.in_ok-mark.was) in
    record { limits = head.0; run_start = head.1; place = mark.place; from = mark.from; small = mark.small }
