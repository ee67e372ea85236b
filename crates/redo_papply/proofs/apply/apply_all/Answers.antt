use Rattle.std.proofs.Common.{◌<◌, ap, length, List, rules, subst, sym, ◌∙◌, arith}
use Rattle.model_page.specs.declared.content.Content.{Content}
use Rattle.redo_papply.proofs.Cutting.{frames-joined, frames-long, frames-pages, frames-replayed, frames-sized}
use Rattle.redo_papply.specs.Runs.{HaveSizes}
use Rattle.redo_papply.proofs.apply.apply_all.Goals as goal

pub put_frames-requires : goal.put_frames-requires
put_frames-requires g c =
    let pages = c.args.pages.now in
    let frames = c.as_slice-2.result.now in
    let some : 0 < c.div_ceil-size.result = search rules in
    let all = frames-joined c.args.groups.now pages c.as_slice.result.now c.div_ceil-size.result c.in_ok-runs.runs.items frames some
    (c.as_slice.ensures.value ∙ c.in_ok-numbers.ensures) c.in_ok-runs.ensures (c.as_slice-2.ensures.value ∙ c.in_ok-frames.ensures) in
    let copied = c.in_ok-after.ensures in
    record {
      few = omega (arith, ap length copied, c.requires.fit.its_pages.count, c.requires.fit.limits.few_pages);
      count = frames-long c.args.groups.now pages 0 (length pages) frames all ∙ sym (ap length copied);
      sizes = subst (λ (xs : List Content). HaveSizes frames xs) (sym copied) (frames-sized c.args.groups.now pages frames all);
    }

pub returns : goal.returns
returns g c =
    let pages = c.args.pages.now in
    let frames = c.as_slice-2.result.now in
    let some : 0 < c.div_ceil-size.result = search rules in
    let all = frames-joined c.args.groups.now pages c.as_slice.result.now c.div_ceil-size.result c.in_ok-runs.runs.items frames some
    (c.as_slice.ensures.value ∙ c.in_ok-numbers.ensures) c.in_ok-runs.ensures (c.as_slice-2.ensures.value ∙ c.in_ok-frames.ensures) in
    record {
      replayed = frames-replayed c.args.groups.now pages c.put_frames.new.pages frames all c.put_frames.ensures;
      its_pages = frames-pages c.args.groups.now pages c.put_frames.new.pages frames all c.put_frames.ensures;
    }
