use Rattle.std.proofs.lemmas.Result.{IfOk-weaker}
use Rattle.std.proofs.Common.{◌∙◌, ◌-◌, ℕ, drop, List, Some, sym, ap, subst}
use Rattle.model_base.specs.declared.limits.TheConstants.{MAX_LOG_BLOCKS}
use Rattle.model_log.specs.{sn_of}
use Rattle.model_store.specs.{groups_start}
use Rattle.redo_recover.specs.Groups.{EndAt, IsEndOf}
use Rattle.redo_recover.proofs.Bounds.{parsed-end}
use Rattle.redo_recover.proofs.groups.parse.Goals as goal

pub returns-clause-end : goal.returns-clause-end
returns-clause-end g c layout within =
    IfOk-weaker c.scan_groups.result (λ found. EndAt c.args.shape.now c.data_from-bytes.result.now c.in-Some.start found.0.items found.1)
    (λ found. IsEndOf layout c.args.ckpt found.0.items found.1)
    (λ found is. parsed-end c.args.shape.now layout MAX_LOG_BLOCKS c.args.ckpt c.args.blocks.now.views.items c.args.blocks.now.joined.items (Some c.in-Some.start) found.0.items found.1
    c.requires.aligned c.requires.bounded (ap (groups_start c.args.ckpt) (sym c.as_slice.ensures.value) ∙ sym c.groups_start.ensures.start ∙ c.in-Some.is) (subst (λ (bytes : List ℕ). EndAt c.args.shape.now bytes c.in-Some.start found.0.items found.1)
    (c.data_from-bytes.ensures ∙ ap (drop (sn_of c.in-Some.start - sn_of c.args.ckpt)) c.as_slice-2.ensures.value) is) within)
    c.scan_groups.ensures.groups
