use Rattle.std.proofs.Common.{refl, inl, inr, lit≤, true}
use Rattle.model_script.specs.declared.asked.Command.TheVariants.{Gen}
use Rattle.redo_lab.proofs.Ends.{ends-failed, uncrashing-gen}
use Rattle.redo_lab.proofs.Entered.{entries-then}
use Rattle.redo_lab.proofs.RunEnds.{ends-stopped, only-failed}
use Rattle.redo_lab.specs.Call.{drive_of_seed, call_on}
use Rattle.redo_lab.specs.Runs.{CommandRuns}
use Rattle.redo_lab.proofs.gen_command.run_script.Goals as goal
use Rattle.redo_lab.proofs.gen_command.run_script.Goals.{in-Ended2, in-None, in-Played, in-Some}

pub play_unarchived-course-requires-clause-few : goal.play_unarchived-course-requires-clause-few
play_unarchived-course-requires-clause-few g c = λ κs live. rw c.drive_of_seed-drive.ensures (lit≤ tt)

pub returns : goal.returns
returns g c = λ users groups is. record {
  ends = λ handed unread.
      let seed = c.args.seed in
      let max = c.args.max in
      let running : CommandRuns handed.source handed.source_now (Gen seed users groups true max) (drive_of_seed seed max) c.args.script.now =
      record { asked = refl; is_script = is; unread = λ plain. unread } in
      let comes_to = rw c.drive_of_seed-drive.ensures at c.play_unarchived-course.ensures.comes_to handed
      (Gen seed users groups true max) running in
      elim c.match-course.branch [
        | in-Ended2 w ↦ rw (w.outcome-is, w.log-is, w.store-is) (elim w.in-Ended.is [
          | inl ended ↦ rw ended at comes_to
          | inr stopped ↦ ends-stopped _ (Gen seed users groups true max) (drive_of_seed seed max) c.args.script.now running c.laws.ensures
              (uncrashing-gen _ seed users groups max) w.in-Ended.fault (rw stopped at comes_to)
        ])
        | in-Played w ↦ rw (w.outcome-is, w.log-is, w.store-is) (elim w.match-ended.branch [
          | in-Some cut ↦ rw (cut.outcome-is, cut.log-is, cut.store-is)
              (let was = rw (w.in-Played.is, cut.in-Some.is) at comes_to in
              ends-failed _ (Gen seed users groups true max) (drive_of_seed seed max) c.args.script.now running c.laws.ensures
              (uncrashing-gen _ seed users groups max) cut.in-Some.fault was.0 tt
              (only-failed (call_on g.L.Sectors.seen g.L.Sectors.gives g.D.Sectors.seen g.D.Sectors.gives handed c.args.log c.args.store
              c.play_unarchived-course.result.log c.play_unarchived-course.result.store) (drive_of_seed seed max) refl cut.in-Some.fault was.2))
          | in-None done ↦ rw (done.outcome-is, done.log-is, done.store-is)
              (done.read_after.ensures.ends handed c.args.log c.args.store seed users groups max c.args.script.now running (rw (w.in-Played.is, done.in-None.is) at comes_to))
        ])
      ];
  entered =
      elim c.match-course.branch [
        | in-Ended2 w ↦ rw (w.log-is, w.store-is) c.play_unarchived-course.ensures.entered
        | in-Played w ↦ rw (w.log-is, w.store-is) (elim w.match-ended.branch [
          | in-Some cut ↦ rw (cut.log-is, cut.store-is) c.play_unarchived-course.ensures.entered
          | in-None done ↦ rw (done.log-is, done.store-is) (entries-then c.play_unarchived-course.ensures.entered done.read_after.ensures.entered)
        ])
      ];
}
