-- The actors that are given back are those of a running store, and it ends as any does.
use Rattle.std.proofs.Common.{List, [], ap, false, is_some, length, subst, sym, vec_capacity, ◌∙◌, ◌≡◌, ◌≤◌}
use Rattle.model_core.specs.States as model
use Rattle.model_running.specs.{history_of, word_marks}
use Rattle.redo_drive.specs.{ListsInOrder, views_of, RunsWith}
use Rattle.redo_drive.specs.declared.actor.Actor.{Actor}
use Rattle.redo_ownmachine.proofs.Places.{crew_views}
use Rattle.redo_ownmachine.proofs.machine.OwnMachine.finish.Goals as goal

pub finish-requires : goal.finish-requires
finish-requires g c =
    let m = c.args.self in let R = c.requires.on_run in record {
      run = R.run;
      archive = is_some m.archive;
      runs = subst (λ (l : List model.Actor). RunsWith g.L.Sectors.seen g.D.Sectors.seen R.run (is_some m.archive) m.parts l)
          (sym (ap views_of c.give_seats-actors.ensures ∙ crew_views m.work m.users.items m.others.items))
          R.runs.runs;
    }

pub returns-clause-kept : goal.returns-clause-kept
returns-clause-kept g c = let kept = c.finish.ensures.kept in (kept.0 ∙ c.give_seats-actors.ensures, kept.1, kept.2)

pub returns-clause-history : goal.returns-clause-history
returns-clause-history g c = λ run archive. let m = c.args.self in
    subst (λ (l : List (Actor g.row.R.Denot)).
    (runs : RunsWith g.L.Sectors.seen g.D.Sectors.seen run archive m.parts (views_of l)) → run.live ≡ false
    → m.entries.items ≡ []
    → length runs.running.log_ghost.log ≤ vec_capacity m.entries
    → c.finish.result.0.history ≡ history_of runs.running.log_ghost.answered (word_marks runs.running.shared)
    runs.running.log_ghost.log) c.give_seats-actors.ensures (c.finish.ensures.history run archive)

pub returns-clause-listed : goal.returns-clause-listed
returns-clause-listed g c = λ run archive. let m = c.args.self in
    subst (λ (l : List (Actor g.row.R.Denot)).
    (runs : RunsWith g.L.Sectors.seen g.D.Sectors.seen run archive m.parts (views_of l)) → run.live ≡ false
    → m.entries.items ≡ []
    → length runs.running.log_ghost.log ≤ vec_capacity m.entries
    → ListsInOrder c.finish.result.0.marks (views_of l) c.finish.result.0.history) c.give_seats-actors.ensures
    (c.finish.ensures.listed run archive)
