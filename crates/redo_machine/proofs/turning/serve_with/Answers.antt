use Rattle.std.proofs.Common.{ap, inl, subst, sym, ◌∙◌, ◌≡◌}
use Rattle.model_core.specs.{lent, next}
use Rattle.model_core.specs.declared.ops.Answer.{Answer}
use Rattle.model_core.specs.declared.ops.Op.{Op}
use Rattle.model_core.specs.declared.ops.Op.TheVariants as op
use Rattle.redo_drive.proofs.Filled.{serves_by}
use Rattle.redo_drive.specs.{AskOfParts, view_of}
use Rattle.redo_drive.specs.declared.actor.Actor.{Actor}
use Rattle.redo_machine.proofs.Beside.{append_played}
use Rattle.redo_machine.proofs.WriteAsks.{not_asked}
use Rattle.redo_machine.proofs.turning.serve_with.Goals as goal
use Rattle.redo_machine.specs.Reading.{ServesArchive}

pub append-answer-requires-clause-archiver : goal.append-answer-requires-clause-archiver
append-answer-requires-clause-archiver g c = (c.requires.append c.in-Append.mark (sym c.in-Append.ensures)).1

pub returns-in-Append-clause-served : goal.returns-in-Append-clause-served
returns-in-Append-clause-served g c = λ run.
    let parts = c.args.parts.now in
    let actor = c.args.actor.now in
    let h = c.append-answer.ensures in
    let asks : next (view_of actor) ≡ op.Append h.appends.mark =
    ap (λ (z : Actor g.row.R.Denot). next (view_of z)) h.is ∙ h.appends.asks in
    let s = serves_by g.L.Sectors.seen g.D.Sectors.seen g.R.Receiver.stands_for run parts parts actor c.took.new.self
    c.append-answer.result c.took.result
    (append_played g.L.Sectors.seen g.D.Sectors.seen g.A.Sectors.seen run parts (lent (view_of actor))
    (next (view_of actor)) h.appends.mark h.before h.after c.append-answer.result asks h.appends.appended)
    c.took.ensures in
    record {
      served = s.0;
      archives = subst (λ (r : Answer). ServesArchive g.A.Sectors.seen g.A.Sectors.gives c.args.archive.now actor r
          c.append-answer.new.archive) (sym s.1) (inl h);
    }

pub returns-in-Append-clause-asked : goal.returns-in-Append-clause-asked
returns-in-Append-clause-asked g c =
    let parts = c.args.parts.now in
    subst (λ (o : Op). AskOfParts g.L.Sectors.gives g.D.Sectors.gives (lent (view_of c.args.actor.now)) o parts.log
    parts.log parts.store parts.store) c.in-Append.ensures
    (record {
      log = not_asked g.L.Sectors.gives parts.log.dev parts.log.failed;
      data_part = not_asked g.D.Sectors.gives parts.store.dev parts.store.failed;
    })
