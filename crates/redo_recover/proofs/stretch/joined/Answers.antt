use Rattle.std.proofs.Common.{◌≡◌, List, All, subst, sym, ◌∙◌}
use Rattle.std.proofs.lemmas.Iterator.Adapters.{YieldsList-from_vec}
use Rattle.std.proofs.lemmas.Iterator.Consumers.{YieldsList-end}
use Rattle.std.proofs.lemmas.List.{map-id}
use Rattle.redo_recover.specs.Runs.{HasRunGroups}
use Rattle.redo_recover.specs.declared.run.Run.{Run}
use Rattle.redo_recover.proofs.Joining.{all-front, front-join}
use Rattle.redo_recover.proofs.stretch.joined.Goals as goal

pub loop-run-init : goal.loop-run-init
loop-run-init c = λ shape bytes all. c.none-all.ensures shape bytes

pub loop-run-preserved : goal.loop-run-preserved
loop-run-preserved c = λ shape bytes all.
    let split = all-front (HasRunGroups shape bytes) c.loop-run.yielded c.in-Some.run' all in
    front-join shape bytes c.args.start c.loop-run.all c.in-Some.run' c.join.new.self c.in_ok-join.ensures.run c.in_ok-join.ensures.first c.in_ok-join.ensures.at
    (c.loop-run.invariant shape bytes split.0) split.1

pub returns : goal.returns
returns c = λ shape bytes all.
    let gives = c.into_iter-run-iterator.ensures.into_iter_gives in
    let end = YieldsList-end (YieldsList-from_vec c.args.runs.items gives.0 (gives.1 ∙ c.args.runs.ok.0)) c.loop-run.yielded c.loop-run.run-iterator c.loop-run.yielded_by c.next.result c.next.new.self c.in-None.is c.next.ensures.steps in
    let whole : c.loop-run.yielded ≡ c.args.runs.items = sym (map-id c.loop-run.yielded) ∙ end.0 in
    c.loop-run.invariant shape bytes (subst (λ (rs : List Run). All (HasRunGroups shape bytes) rs) (sym whole) all)
