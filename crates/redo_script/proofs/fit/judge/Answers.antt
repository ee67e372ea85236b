use Rattle.std.proofs.Common.{◌∙◌, ◌+◌, ◌∷◌, [], sym, ap, length, map, subst}
use Rattle.model_log.specs.{lsn_of, sn_of, stream_of}
use Rattle.model_script.specs.{archive_misfit, archive_need, first_misfit_of, group_of, line_misfit, lsn_misfit, total_misfit}
use Rattle.redo_script.specs.Judged.{AreUnfitLines}
use Rattle.redo_script.proofs.Misfits.{script-end, unfit-lines}
use Rattle.redo_script.proofs.fit.judge.Goals as goal

pub returns-in-Err-clause-unfit : goal.returns-in-Err-clause-unfit
returns-in-Err-clause-unfit c = unfit-lines c.args.shape.now c.args.start c.args.room_end c.args.archive c.args.script.now c.in-Err.unfit
    (subst (λ lines. AreUnfitLines c.args.shape.now lines c.in-Err.unfit) (c.as_slice.ensures.value ∙ c.script.view_is) c.in-Err.ensures.unfit)

pub returns-in-None-clause-fits : goal.returns-in-None-clause-fits
returns-in-None-clause-fits c =
    let fits = ap (λ lines. first_misfit_of (map (line_misfit c.args.shape.now) lines)) (sym (c.as_slice.ensures.value ∙ c.script.view_is)) ∙ c.in-Ok.ensures.fits in
    let long = c.in-Ok.ensures.length ∙ ap (λ lines. length (stream_of (map (group_of c.args.shape.now.space) lines))) (c.as_slice.ensures.value ∙ c.script.view_is) in
    let end = c.in-Ok-end_behind.ensures.end ∙ ap (λ n. lsn_of (sn_of c.args.start + n)) long in
    script-end c.args.shape.now c.args.start c.args.room_end c.args.archive c.args.script.now fits
    ∙ ap (λ e. first_misfit_of (lsn_misfit e ∷ total_misfit c.args.room_end e
    ∷ archive_misfit c.args.archive (archive_need c.args.shape.now c.args.start e) ∷ [])) (sym end) ∙ sym c.judge_end.ensures ∙ c.in-None.is

pub returns-in-Some-clause-unfit : goal.returns-in-Some-clause-unfit
returns-in-Some-clause-unfit c =
    let fits = ap (λ lines. first_misfit_of (map (line_misfit c.args.shape.now) lines)) (sym (c.as_slice.ensures.value ∙ c.script.view_is)) ∙ c.in-Ok.ensures.fits in
    let long = c.in-Ok.ensures.length ∙ ap (λ lines. length (stream_of (map (group_of c.args.shape.now.space) lines))) (c.as_slice.ensures.value ∙ c.script.view_is) in
    let end = c.in-Ok-end_behind.ensures.end ∙ ap (λ n. lsn_of (sn_of c.args.start + n)) long in
    script-end c.args.shape.now c.args.start c.args.room_end c.args.archive c.args.script.now fits
    ∙ ap (λ e. first_misfit_of (lsn_misfit e ∷ total_misfit c.args.room_end e
    ∷ archive_misfit c.args.archive (archive_need c.args.shape.now c.args.start e) ∷ [])) (sym end) ∙ sym c.judge_end.ensures ∙ c.in-Some.is
