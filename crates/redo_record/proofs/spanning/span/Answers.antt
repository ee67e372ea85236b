use Rattle.std.proofs.Common.{take, refl, subst, arith}
use Rattle.model_log.specs.{IsGroupText}
use Rattle.model_log.proofs.Several.{one_group}
use Rattle.redo_record.specs.Reading.{stop_of, Stops}
use Rattle.redo_record.specs.declared.no_text.NoText.{NoText}
use Rattle.redo_record.proofs.Limit.{front_none, too_long}
use Rattle.redo_record.proofs.spanning.span.Goals as goal

pub returns-in-Err-Short-2 : goal.returns-in-Err-Short-2
returns-in-Err-Short-2 c =
    let front = take c.min.result c.args.bytes.now in
    too_long c.args.bytes.now front c.min.result refl (omega arith) one_group c.if-bytes-limit.false
    (subst (λ (w : NoText). Stops IsGroupText front (stop_of w)) c.in-Err-Short.field-0-is c.in-Err-Short.ensures)

pub returns-in-Err-Bad : goal.returns-in-Err-Bad
returns-in-Err-Bad c =
    let front = take c.min.result c.args.bytes.now in
    front_none c.args.bytes.now front c.min.result refl (omega arith)
    (subst (λ (w : NoText). Stops IsGroupText front (stop_of w)) c.in-Err-Bad.field-0-is c.in-Err-Bad.ensures)
