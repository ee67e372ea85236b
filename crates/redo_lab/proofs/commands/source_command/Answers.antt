use Rattle.std.proofs.Common.{ap, refl}
use Rattle.redo_lab.proofs.Alone.{scripted-unscripted}
use Rattle.redo_lab.proofs.AskedLimits.{within-followers, within-run, within-workers}
use Rattle.redo_lab.proofs.Begun.{back-is, back-kept, back-unfused, handed-on, handed-one, well-back}
use Rattle.redo_lab.proofs.Ends.{runs-scripted}
use Rattle.redo_lab.proofs.Unarchived.{never-restores, spares-either, spares-untouched, uncalled-alone, well-untouched}
use Rattle.redo_lab.specs.Call.{unfused, handed_of}
use Rattle.redo_lab.specs.Runs.{SparedBy, command_with}
use Rattle.redo_lab.proofs.commands.source_command.Goals as goal

pub play-ran-requires-clause-lines : goal.play-ran-requires-clause-lines
play-ran-requires-clause-lines g c = λ κs live.
    c.read_lines_are_ranged.ensures c.in-Ok.ensures.script.text c.in-Ok.script c.in-Ok.ensures.script.is_script

pub play-ran-requires-clause-few : goal.play-ran-requires-clause-few
play-ran-requires-clause-few g c = λ κs live. within-followers c.args.drive c.args.crash c.requires.within

pub play-ran-requires-clause-archives : goal.play-ran-requires-clause-archives
play-ran-requires-clause-archives g c = λ κs live.
    handed-on c.args.arch c.args.drive.archive c.hand_on-on.result.0 c.hand_on-on.ensures.on

pub after_run-done-requires-clause-workers : goal.after_run-done-requires-clause-workers
after_run-done-requires-clause-workers g c = λ κs live. within-workers c.args.drive c.args.crash c.requires.within

pub take_back-requires : goal.take_back-requires
take_back-requires g c = record {
  one = handed-one g.A.Sectors.seen (SparedBy c.play-ran.result.0.course) c.args.arch c.args.drive.archive
      c.hand_on-on.result.0 c.hand_on-on.result.1 c.play-ran.result.1 c.hand_on-on.ensures.on c.hand_on-on.ensures.kept c.play-ran.ensures.given_back;
}

pub returns-in-Ok : goal.returns-in-Ok
returns-in-Ok g c =
    let drive = c.args.drive in
    let crash = c.args.crash in
    let seen = g.A.Sectors.seen in
    let course = c.play-ran.result.0.course in
    let archive = unfused seen c.args.arch c.take_back.result in
    let kept = back-kept seen (SparedBy course) c.args.arch drive.archive c.hand_on-on.result.1 c.take_back.result
    c.hand_on-on.ensures.kept in record {
      ends = λ words.
          let handed = handed_of words archive _ _ in
          c.after_run-done.ensures.ends drive handed c.args.log c.args.store
          (rw c.stops_of-stops.ensures at c.play-ran.ensures.comes_to handed _
          (runs-scripted drive crash c.in-Ok.ensures.script)
          (λ archived. ap (command_with drive) (within-run drive crash c.requires.within archived))
          (back-unfused seen (SparedBy course) c.args.arch drive.archive c.hand_on-on.result.0 c.play-ran.result.1
          c.take_back.result
          c.hand_on-on.ensures.on c.play-ran.ensures.given_back c.take_back.ensures.left))
          c.in-Ok.ensures.script c.requires.within;
      restores = λ words to is. absurd (never-restores drive crash to is);
      spares = λ run is. spares-either drive.archive archive _
          (λ archived. c.after_run-done.ensures.spares (within-run drive crash c.requires.within archived) archive
          (back-is seen (SparedBy course) c.args.arch drive.archive c.hand_on-on.result.0 c.play-ran.result.1
          c.take_back.result
          c.hand_on-on.ensures.on archived c.play-ran.ensures.given_back c.take_back.ensures.left))
          (λ alone. ap seen (kept alone c.take_back.ensures.kept));
      untouched = λ calls. kept (uncalled-alone drive crash c.requires.within calls) c.take_back.ensures.kept;
      well = well-back seen (SparedBy course) c.args.arch g.A.Sectors.gives course drive.archive
          c.hand_on-on.result.0 c.play-ran.result.1 c.take_back.result c.after_run-done.result.outcome
          c.hand_on-on.ensures.on c.play-ran.ensures.given_back c.take_back.ensures.left
          (λ alone. kept alone c.take_back.ensures.kept)
          (λ archived. c.after_run-done.ensures.uncut (within-run drive crash c.requires.within archived))
          c.play-ran.ensures.well;
      entered = c.after_run-done.ensures.entered c.args.log c.args.store c.play-ran.ensures.entered;
      taken = c.in-Ok.ensures.taken;
    }

pub returns-in-Err : goal.returns-in-Err
returns-in-Err g c =
    let unasked = c.unasked.ensures in record {
      ends = λ words. rw unasked.outcome_is (scripted-unscripted _ c.args.drive c.args.crash c.in-Err.fault (
        record { seen = ap g.L.Sectors.seen unasked.log_inner; fuse = unasked.log_fuse },
        record { seen = ap g.D.Sectors.seen unasked.data_inner; fuse = unasked.data_fuse },
      )
          c.in-Err.ensures.fault c.laws.ensures);
      restores = λ words to is. absurd (never-restores c.args.drive c.args.crash to is);
      spares = λ drive is. spares-untouched (unfused g.A.Sectors.seen c.args.arch c.args.arch) _ refl;
      untouched = λ calls. refl;
      well = well-untouched g.A.Sectors.gives c.args.arch _;
      entered = unasked.entered;
      taken = c.in-Err.ensures.taken;
    }
