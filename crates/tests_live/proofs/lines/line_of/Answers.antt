use Rattle.std.proofs.Common.{List, rules, subst, ◌++◌, ◌≡◌}
use Rattle.std.specs.List.{AllByRecursion}
use Rattle.std.specs.Prelude.{IfSome, None, Option, Some, option_to_list}
use Rattle.model_script.specs.{IsScriptLine}
use Rattle.tests_live.proofs.lines.line_of.Goals as goal

-- what holds of each element holds of the first one
of_first : {X : Type 0} (P : X → Type 0) (first : Option X) (rest : List X) → AllByRecursion P (option_to_list first ++ rest)
    → IfSome first P
of_first P None rest all = tt
of_first P (Some x) rest all = all.0

pub returns-in-Ok : goal.returns-in-Ok
returns-in-Ok c =
    let lines = c.into_iter.result.rest.items in
    let is : c.in-Ok.script ≡ lines = search rules in
    let all = subst (AllByRecursion IsScriptLine) is (c.read_lines_are_ranged.ensures _ _ c.in-Ok.ensures.script) in
    of_first IsScriptLine c.next.result _ (subst (AllByRecursion IsScriptLine) c.next.ensures.items all)
