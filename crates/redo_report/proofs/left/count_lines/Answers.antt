use Rattle.std.proofs.Common.{◌≡◌, ℕ, ◌≤◌, length, take, arith, ap, ◌∙◌}
use Rattle.std.specs.Option.{unwrap_or}
use Rattle.model_report.specs.{lines_of_user}
use Rattle.redo_report.proofs.Remaining.{lines-few}
use Rattle.redo_report.proofs.left.count_lines.Goals as goal

pub overflow_add-count : goal.overflow_add-count
overflow_add-count c =
    let i : ℕ = c.loop-line.line-index in
    let user : ℕ = c.line-item.result.user in
    let is : c.unwrap_or-count.result ≡ length (lines_of_user user (take i c.args.script.now)) =
    c.unwrap_or-count.ensures ∙ ap (λ o. unwrap_or o 0) (c.copied.ensures ∙ c.get.ensures.value) ∙ c.loop-line.invariant user in
    let few : length (lines_of_user user (take i c.args.script.now)) ≤ i = lines-few user i c.args.script.now (omega arith) in
    omega arith
