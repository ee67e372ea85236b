use Rattle.std.proofs.Common.{length, arith}
use Rattle.model_store.specs.{groups_start}
use Rattle.std.proofs.lemmas.Result.{err_from_is_err_and}
use Rattle.redo_recover.specs.Devices.{log_error}
use Rattle.redo_recover.proofs.Only.{only-log, only-own}
use Rattle.redo_recover.proofs.Owning.{parse-own}
use Rattle.redo_recover.proofs.Parsing.{parsed-behind, parsed-fit}
use Rattle.redo_recover.proofs.scan.scan_log.Goals as goal

pub parse-requires-clause-bounded : goal.parse-requires-clause-bounded
parse-requires-clause-bounded g c =
    let bounded = c.in-Ok.ensures.bounded in
    record { few = omega (arith, bounded.few, c.requires.is_layout.few_blocks); short = bounded.short; firsts = bounded.firsts }

pub returns-clause-scanned : goal.returns-clause-scanned
returns-clause-scanned g c =
    let views = c.in-Ok.blocks.views.items in
    let bytes = c.in-Ok.blocks.joined.items in
    let parsed = c.in_ok-groups.ensures.parsed in
    record {
      few_views = c.in-Ok.ensures.bounded.few;
      tail = c.in-Ok.ensures.found;
      end = c.in_ok-groups.ensures.end c.args.layout.now c.in-Ok.ensures.bounded.few;
      fit = parsed-fit c.args.ckpt (length views) c.args.shape.now bytes (groups_start c.args.ckpt views) c.in_ok-groups.groups.items c.in_ok-groups.end parsed;
      rise = parsed-behind c.args.ckpt (length views) c.args.shape.now bytes (groups_start c.args.ckpt views) c.in_ok-groups.groups.items c.in_ok-groups.end parsed;
    }

pub returns-in-Err-clause-reads : goal.returns-in-Err-clause-reads
returns-in-Err-clause-reads g c = only-log _ _ c.in-Err.error _ c.log_fault.ensures c.in-Err.ensures.reads

pub returns-in_err-groups-clause-reads : goal.returns-in_err-groups-clause-reads
returns-in_err-groups-clause-reads g c =
    let fault = c.in_err-groups.field-0.0 in
    let own = parse-own c.args.ckpt c.args.shape.now c.in-Ok.blocks.joined.items (groups_start c.args.ckpt c.in-Ok.blocks.views.items) fault c.in_err-groups.ensures.fault in
    let p = err_from_is_err_and c.from_residual.result c.from_residual.ensures.1 in rw (p.1, p.2) (only-own _ _ (log_error fault) own.0 c.in-Ok.ensures.reads)
