use Rattle.std.proofs.Common.{List, Option, ap, refl, subst, sym, ◌∙◌, ◌≡◌}
use Rattle.model_core.specs.States as model
use Rattle.model_core.specs.{next}
use Rattle.model_core.specs.declared.ops.Op.TheVariants as op
use Rattle.redo_archive.specs.Part.{Part}
use Rattle.redo_archiver.specs.{KeepsBlock, MayAppendBlock}
use Rattle.redo_disk.proofs.Made.{serves_end}
use Rattle.redo_drive.specs.{view_of}
use Rattle.redo_drive.specs.declared.actor.Actor.{Actor}
use Rattle.redo_machine.proofs.turning.append.Goals as goal
use Rattle.redo_machine.specs.Reading.{MayAppendTo}

pub returns : goal.returns
returns g c =
    let r = c.in-Archiver.archiver in
    let mark = c.args.mark in
    let asks : next (model.Reader r) ≡ op.Append mark =
    ap (λ (z : Actor g.row.R.Denot). next (view_of z)) (sym c.in-Archiver.is) ∙ c.requires.asks in
    let may : MayAppendBlock g.A.Sectors.seen c.in-Some.part mark =
    subst (λ (a : Option (Part g.row.A.Denot)). MayAppendTo g.A.Sectors.seen a mark) c.in-Some.is c.requires.may in
    let holds = subst (λ (block : List _). KeepsBlock g.A.Sectors.seen c.in-Some.part mark block c.append_block.new.part)
    c.block.ensures c.append_block.ensures.holds in
    record {
      archiver = r;
      is = c.in-Archiver.is;
      before = c.in-Some.part;
      before_is = c.in-Some.is;
      after = c.append_block.new.part;
      after_is = refl;
      appends = record {
        mark = mark;
        asks = asks;
        appended = c.append_block.ensures.appended;
        calls = record {
          live = λ none. serves_end c.append_block.ensures.calls;
          over = λ some. absurd (some may.live);
        };
        pace = λ limit flushed filling. c.archiver_appends.ensures.pace limit flushed mark r c.in-Some.part
            c.append_block.new.part filling c.append_block.result asks c.append_block.ensures.appended;
        archives = λ limit flushed pages early late pace run full kept. c.archiver_appends.ensures.archives limit flushed
            mark pages early late r c.in-Some.part c.append_block.new.part asks pace run full holds kept;
      };
    }
