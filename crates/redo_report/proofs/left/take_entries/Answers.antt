-- One entry more.
use Rattle.std.proofs.Common.{◌≡◌, ◌==◌, ℕ, ◌+◌, Bool, length, take, get_or, cond, Some, ap, ◌∙◌, refl}
use Rattle.std.specs.BTreeMap as tree
use Rattle.std.specs.Option.{unwrap_or}
use Rattle.std.specs.Ordering.{nat_cmp}
use Rattle.model_report.specs.{entries_of_user, lines_of_user}
use Rattle.model_report.specs.declared.entry.Entry.{Entry}
use Rattle.model_report.specs.declared.entry.State.TheVariants.{Lost}
use Rattle.redo_report.specs.Left.{mapped_count}
use Rattle.redo_report.proofs.Remaining.{at-same, entries-more, left-step, same-key}
use Rattle.redo_report.proofs.left.take_entries.Goals as goal

pub loop-entry-preserved : goal.loop-entry-preserved
loop-entry-preserved c lines counted user =
    let i : ℕ = c.loop-entry.entry-index in
    let none : Entry = record { user = 0; k = 0; start = 0; end = 0; state = Lost } in
    let entry : Entry = get_or c.args.entries.now i none in
    let b : Bool = entry.user == user in
    let count_is : c.unwrap_or-count.result ≡ mapped_count c.loop-entry.counts entry.user =
    c.unwrap_or-count.ensures ∙ ap (λ o. unwrap_or o 0) (c.copied.ensures ∙ c.get.ensures.value) in
    left-step (tree.get nat_cmp c.insert.new.self user) (tree.get nat_cmp c.loop-entry.counts user) b c.unwrap_or-count.result
    (length (lines_of_user user lines)) (length (entries_of_user user (take i c.args.entries.now))) (length (entries_of_user user (take (i + 1) c.args.entries.now)))
    (c.in_ok-insert.ensures.updates.0 user
    ∙ ap (λ t. cond t (Some c.saturating_sub.result) (tree.get nat_cmp c.loop-entry.counts user)) (at-same entry.user user)
    ∙ ap (λ n. cond b (Some n) (tree.get nat_cmp c.loop-entry.counts user)) c.saturating_sub.ensures)
    (λ own. count_is ∙ ap (mapped_count c.loop-entry.counts) (same-key entry.user user own))
    (c.loop-entry.invariant lines counted user)
    (entries-more user i c.args.entries.now entry none c.loop-entry-test.true refl)
