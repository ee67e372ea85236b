-- Where the vector has room for all groups, what the users tell in lsn order is the history of each run that this machine is on.
use Rattle.std.proofs.Common.{List, ap, arith, get_or, length, slice_index, subst, sym, ℕ, ◌<◌, ◌∙◌, ◌≡◌}
use Rattle.model_core.specs.{failed_at}
use Rattle.model_running.proofs.Finished.{marks_same}
use Rattle.model_running.specs.{word_marks}
use Rattle.model_report.specs.declared.entry.Marks.{Marks}
use Rattle.redo_drive.proofs.FailureCode.{small_code}
use Rattle.redo_drive.proofs.Told.{as_many, have_groups, have_kept, history_is}
use Rattle.redo_drive.specs.{ListsInOrder, all_listed, view_of, views_of}
use Rattle.redo_drive.specs.Reserved.{HasGroups, KeepsAll}
use Rattle.redo_drive.specs.declared.actor.Actor.{Actor}
use Rattle.redo_machine.proofs.machine.Machine.finish.Goals as goal

pub overflow_cast-code : goal.overflow_cast-code
overflow_cast-code g c =
    let R = c.requires in
    let small = small_code g.L.Sectors.seen g.D.Sectors.seen R.run c.args.self.parts
    (views_of c.args.self.actors.items) R.runs in
    let value : c.word-code.result ≡ slice_index c.args.self.parts.words.words failed_at = c.word-code.ensures.value ∙ ap (λ (ws : List ℕ). slice_index ws failed_at) c.marks_in-marks.ensures.words in
    omega arith

pub history_of-history-requires : goal.history_of-history-requires
history_of-history-requires g c = let R = c.requires in
    subst (λ (z : List (Actor g.row.R.Denot)). (seat : ℕ) (actor : Actor g.row.R.Denot) → seat < length z
    → HasGroups (view_of (get_or z seat actor))) (sym c.as_slice.ensures.value)
    (have_groups g.L.Sectors.seen g.D.Sectors.seen R.run c.args.self.parts c.args.self.actors.items R.runs)

-- there is room for the groups of all
lists : goal.returns-clause-listed
lists g c = λ run archive runs fixed empty room.
    let actors = c.args.self.actors.items in
    let marks : Marks = word_marks runs.running.shared in
    let marks_are : ◌≡◌ {A = Marks} c.marks_in-marks.result marks = c.marks_in-marks.ensures.marks ∙ marks_same c.args.self.parts.words.words runs.running.shared runs.running.flat_is in
    let many = as_many g.L.Sectors.seen g.D.Sectors.seen run c.args.self.parts (views_of actors) runs in
    let same : length (all_listed c.marks_in-marks.result (views_of c.as_slice.result.now)) ≡ length
    (all_listed marks (views_of actors)) =
    ap (λ (z : Marks). length (all_listed z (views_of c.as_slice.result.now))) marks_are
    ∙ ap (λ (z : List (Actor g.row.R.Denot)). length (all_listed marks (views_of z))) c.as_slice.ensures.value in
    let keep = subst (λ (z : List (Actor g.row.R.Denot)). (seat : ℕ) (actor : Actor g.row.R.Denot) → seat < length z
    → KeepsAll (view_of (get_or z seat actor))) (sym c.as_slice.ensures.value)
    (have_kept g.L.Sectors.seen g.D.Sectors.seen run c.args.self.parts actors runs fixed) in
    subst (λ (z : List (Actor g.row.R.Denot)). ListsInOrder c.marks_in-marks.result (views_of z)
    c.history_of-history.result) c.as_slice.ensures.value (c.history_of-history.ensures keep empty (omega arith))

pub returns-clause-listed : goal.returns-clause-listed
returns-clause-listed g c = lists g c

pub returns-clause-history : goal.returns-clause-history
returns-clause-history g c = λ run archive runs fixed empty room.
    let actors = c.args.self.actors.items in
    let marks : Marks = word_marks runs.running.shared in
    let marks_are : ◌≡◌ {A = Marks} c.marks_in-marks.result marks = c.marks_in-marks.ensures.marks ∙ marks_same c.args.self.parts.words.words runs.running.shared runs.running.flat_is in
    history_is g.L.Sectors.seen g.D.Sectors.seen run c.args.self.parts (views_of actors) runs
    c.history_of-history.result
    (subst (λ (z : Marks). ListsInOrder z (views_of actors) c.history_of-history.result) marks_are
    (lists g c run archive runs fixed empty room))
