use Rattle.redo_lab.proofs.laws.laws.Goals as goal

pub returns : goal.returns
returns c = record {
  one_answer = c.one_answer.ensures.read;
  one_reading = c.one_reading.ensures;
  openable = c.openable_reads.ensures;
  formatted = c.formatted_is_openable.ensures;
  held_reads = c.held_run_reads.ensures.read;
  held_opened = c.held_run_is_opened.ensures.opened;
  no_misfit = c.unfit_is_misfit.ensures;
  base_fair = c.base_is_fair.ensures;
}
