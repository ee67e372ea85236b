-- The counts of the map are what is left.
use Rattle.std.proofs.Common.{◌≡◌, List, sym, ◌∙◌, subst}
use Rattle.model_report.specs.{IsLeft}
use Rattle.model_report.specs.declared.entry.Entry.{Entry}
use Rattle.model_script.specs.declared.script.ScriptLine.{ScriptLine}
use Rattle.redo_report.proofs.Counted.{left-from}
use Rattle.redo_report.proofs.left.left_of.Goals as goal

pub returns : goal.returns
returns c =
    let script_is : c.as_slice.result.now ≡ c.args.script.now = c.as_slice.ensures.value ∙ c.script.view_is in
    let entries_is : c.as_slice-2.result.now ≡ c.args.history.now = c.as_slice-2.ensures.value ∙ c.history.view_is in
    let left : IsLeft c.as_slice.result.now c.as_slice-2.result.now c.in_ok-counted.field-0.items =
    subst (IsLeft c.as_slice.result.now c.as_slice-2.result.now) (sym c.in_ok-counted.ensures.pairs)
    (left-from c.take_entries.new.counts c.as_slice.result.now c.as_slice-2.result.now c.in_ok-counted.ensures.ordered
    (c.in_ok-take_entries.ensures c.as_slice.result.now c.in_ok-counts.ensures)) in
    subst (λ (script : List ScriptLine). IsLeft script c.args.history.now c.in_ok-counted.field-0.items) script_is
    (subst (λ (entries : List Entry). IsLeft c.as_slice.result.now entries c.in_ok-counted.field-0.items) entries_is left)
