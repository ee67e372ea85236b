use Rattle.tests_threads.proofs.runs.left_by.Goals as goal

pub drive_in_threads-requires-clause-new : goal.drive_in_threads-requires-clause-new
drive_in_threads-requires-clause-new g c _ _ = c.no_followers.ensures c.in_ok-opened.field-0.opened.start
