use Rattle.redo_lab.proofs.Followers.{told-seen}
use Rattle.redo_lab.proofs.closing.close_run.Goals as goal

pub returns-in-Ok-clause-closed : goal.returns-in-Ok-clause-closed
returns-in-Ok-clause-closed g c = rw c.in-Ok.is (record {
  after = c.finish_run-driven.result.0;
  archive_now = c.finish_run-driven.result.1;
  finished = c.finish_run-driven.ensures;
  follows = c.told_of-follows.result;
  told = λ none fits. told-seen _ c.as_slice.result.now c.in-Ok.actors.items c.told_of-follows.result.items c.as_slice.ensures.value
      (c.told_of-follows.ensures none) fits;
  course = rw c.failed_of.ensures at c.close-ran.ensures.course;
  log = c.close-ran.ensures.log;
  store = c.close-ran.ensures.store;
  device_is = c.device_of.ensures;
})
