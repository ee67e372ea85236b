use Rattle.std.proofs.Common.{None, ap, arith, is_some, min, subst, sym, ℕ, ◌+◌, ◌∙◌, ◌≡◌}
use Rattle.model_base.specs.declared.limits.TheConstants.{BLOCK_SIZE}
use Rattle.model_log.specs.{block_of}
use Rattle.redo_archiver.specs.{finishing_mark, IsAppended, KeepsBlock}
use Rattle.redo_drive.specs.{call_code}
use Rattle.redo_drive.specs.LogPartSide.{LogRead}
use Rattle.redo_drive.specs.declared.device.Device.TheVariants.{Log}
use Rattle.redo_finish.proofs.Blocks.{appended_one, no_err, no_error, read_back}
use Rattle.redo_finish.proofs.finishing.append_next.Goals as goal

pub call_read-requires : goal.call_read-requires
call_read-requires g c =
    let block = c.block_of.ensures in
    let from = c.mark-from.ensures in
    let counted = c.requires.finish.counted c.requires.lacks in
    let started = c.requires.started in
    let at = c.requires.finish.start in
    record {
      live = no_error c.args.log.now.failed (ap is_some (sym c.failed.ensures) ∙ sym c.is_some.ensures ∙ c.if-is_some.false);
      aligned = omega arith;
      started = omega arith;
    }

pub returns-clause-finishes : goal.returns-clause-finishes
returns-clause-finishes g c =
    let part = c.args.part.now in
    let flushed = c.args.flushed in
    let log_live : c.args.log.now.failed ≡ None = no_error c.args.log.now.failed
    (ap is_some (sym c.failed.ensures) ∙ sym c.is_some.ensures ∙ c.if-is_some.false) in
    let live : part.failed ≡ None = no_error part.failed
    (ap is_some (sym c.failed-else-is_some.ensures) ∙ sym c.is_some-else-is_some.ensures ∙ c.if-is_some-2.false) in
    let good : c.call_read.new.log.failed ≡ None =
    c.call_read.ensures.ended ∙ no_err c.call_read.result (sym c.is_err.ensures.value ∙ c.if-is_err.false) in
    let at : c.block_of.result ≡ block_of part.marks.mark = c.block_of.ensures ∙ ap block_of c.mark-from.ensures in
    let mark : c.min-mark.result ≡ finishing_mark flushed part =
    c.min-mark.ensures ∙ ap (λ (n : ℕ). min (n + BLOCK_SIZE) flushed) c.mark-from.ensures in
    let read = subst (λ (n : ℕ). LogRead g.L.Sectors.seen n c.call_read.new.room
    (call_code Log c.call_read.new.log.failed) c.args.log.now c.call_read.new.log) at
    c.call_read.ensures.read in
    let appended = subst (λ (n : ℕ). IsAppended g.A.Sectors.seen part n c.append_block.result c.append_block.new.part) mark
    c.append_block.ensures.appended in
    let holds = subst (λ (n : ℕ). KeepsBlock g.A.Sectors.seen part n c.call_read.new.room c.append_block.new.part) mark
    c.append_block.ensures.holds in
    let law = c.archive_finishes.ensures in
    let lacks = c.requires.finish in
    let less = c.requires.lacks in
    appended_one g.L.Sectors.seen g.L.Sectors.gives g.A.Sectors.seen g.A.Sectors.gives flushed c.args.log.now
    c.call_read.new.log part c.append_block.new.part (call_code Log c.call_read.new.log.failed) c.call_read.new.room c.append_block.result lacks less
    live
    (law.may flushed part live less lacks)
    (read_back g.L.Sectors.seen g.L.Sectors.gives g.A.Sectors.seen g.A.Sectors.gives flushed (block_of part.marks.mark)
    (call_code Log c.call_read.new.log.failed)
    c.call_read.new.room _ c.args.log.now c.call_read.new.log log_live read c.call_read.ensures.calls)
    read good appended _ c.append_block.ensures.calls
    (law.goes_on flushed part c.append_block.new.part c.append_block.result less appended lacks)
    (λ m pages wholes run boundary high block had. law.archives flushed m pages wholes part c.append_block.new.part
    c.call_read.new.room less lacks run boundary high block holds had)
