use Rattle.std.proofs.Common.{List, ap, arith, length, sym, ◌++◌, ◌∙◌, ◌≡◌}
use Rattle.model_report.specs.declared.entry.Entry.{Entry}
use Rattle.redo_drive.proofs.ListGrows.{length_from}
use Rattle.redo_drive.specs.History.{listed, listed_from, view_of}
use Rattle.redo_drive.proofs.history.add_actor.Goals as goal

pub returns-in-Some-clause-added : goal.returns-in-Some-clause-added
returns-in-Some-clause-added g c = λ keeps room.
    let u = c.in-Some.user.now in
    let same : listed c.args.marks.now (view_of c.args.actor.now) ≡ listed_from c.args.marks.now u 0 u.starts = ap (listed c.args.marks.now) c.in-Some.ensures in
    let long = length_from c.args.marks.now u 0 u.starts in
    let longs : length (listed c.args.marks.now (view_of c.args.actor.now)) ≡ length (listed_from c.args.marks.now u 0 u.starts) = ap length same in
    c.add_user.ensures.added (omega arith) ∙ ap (λ (z : List Entry). c.args.entries.now.items ++ z) (sym same)
