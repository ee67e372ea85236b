use Rattle.std.proofs.Common.{List, Option, ap, subst, sym, ◌∙◌, ◌≡◌}
use Rattle.model_core.specs.{next, took}
use Rattle.model_core.specs.States as model
use Rattle.model_core.specs.declared.ops.Answer.{Answer}
use Rattle.model_core.specs.declared.ops.Op.TheVariants as op
use Rattle.redo_archiver.specs.{append_answer, IsAppended, KeepsBlock}
use Rattle.redo_disk.proofs.Made.{serves_end}
use Rattle.redo_disk.specs.declared.error.DevError.{DevError}
use Rattle.redo_drive.specs.{view_of}
use Rattle.redo_drive.specs.declared.actor.Actor.{Actor}
use Rattle.redo_threads.proofs.archiving.append_to.Goals as goal

pub returns : goal.returns
returns g c =
    let r = c.in-Archiver.archiver in
    let mark = c.args.mark in
    let old = c.args.part.now in
    let new = c.append_block.new.part in
    let asks : next (model.Reader r) ≡ op.Append mark =
    ap (λ (z : Actor g.row.F.Denot). next (view_of z)) (sym c.in-Archiver.is) ∙ c.requires.asks in
    let holds = subst (λ (block : List _). KeepsBlock g.A.Sectors.seen old mark block new)
    c.block.ensures c.append_block.ensures.holds in
    let appended = subst (λ (z : Answer). IsAppended g.A.Sectors.seen old mark z new)
    c.append_block.ensures.appended.answer_is c.append_block.ensures.appended in
    record {
      archiver = r;
      is = c.in-Archiver.is;
      asks = asks;
      appends = record {
        mark = mark;
        asks = asks;
        appended = appended;
        calls = record {
          live = λ none. serves_end c.append_block.ensures.calls;
          over = λ some. absurd (some c.requires.may.live);
        };
        pace = λ limit flushed filling. c.archiver_appends.ensures.pace limit flushed mark r old new filling
            (append_answer new.failed) asks appended;
        archives = λ limit flushed pages early late pace run full kept. c.archiver_appends.ensures.archives limit flushed
            mark pages early late r old new asks pace run full holds kept;
      };
      sits = c.append.ensures.seat;
      same = c.append.ensures.same;
      took = c.append.ensures.took
          ∙ ap (λ (z : Option DevError). took (view_of c.args.actor.now) (append_answer z)) c.failed.ensures;
      blocks = c.append.ensures.appends;
    }
