-- One link, and the others after it.
use Rattle.std.proofs.Common.{◌∙◌, Option, Ok, sym, subst}
use Rattle.std.specs.Prelude.{IfSome}
use Rattle.model_log.specs.declared.head.Format.{Format}
use Rattle.model_log.specs.declared.head.Format.TheVariants.{Three}
use Rattle.model_store.specs.{Reading}
use Rattle.redo_open.proofs.Asked.{called_then}
use Rattle.redo_open.proofs.Chains.{last-format, link-then, no-link}
use Rattle.redo_open.proofs.Inside.{inside_behind}
use Rattle.redo_open.specs.Chain.{LinkStep}
use Rattle.redo_recover.specs.{reading_of}
use Rattle.redo_open.proofs.chain.+migrate_from.Goals as goal

pub returns-in-None-clause-step : goal.returns-in-None-clause-step
returns-in-None-clause-step g t c =
    no-link (reading_of c.args.recovered.now) c.args.format (g.L.Sectors.seen c.args.log.now)
    (g.D.Sectors.seen c.args.data_device.now) (last-format c.args.format (sym c.next.ensures ∙ c.in-None.is))

pub returns-clause-step : goal.returns-clause-step
returns-clause-step g t c =
    let opened : Reading = reading_of c.args.recovered.now in
    let after = c.in-Some.after in
    let log_old = g.L.Sectors.seen c.args.log.now in
    let data_old = g.D.Sectors.seen c.args.data_device.now in
    let log_mid = g.L.Sectors.seen c.migrate.new.log in
    let data_mid = g.D.Sectors.seen c.migrate.new.data_device in
    let first = c.in-Ok.ensures.called in
    let last = c.migrate_from.ensures in
    let step : LinkStep c.args.format after opened log_old data_old (Ok tt) log_mid data_mid =
    subst (λ (o : Option Format). IfSome o (λ f. LinkStep c.args.format f opened log_old data_old
    (Ok tt) log_mid data_mid))
    (sym c.next.ensures ∙ c.in-Some.is) c.in-Ok.ensures.step in
    link-then c.args.format after Three opened log_old data_old log_mid data_mid tt c.migrate_from.result
    (g.L.Sectors.seen c.migrate_from.new.log) (g.D.Sectors.seen c.migrate_from.new.data_device) step
    first.log.later first.data_device.later last.called.log.later last.called.data_device.later last.step

pub returns-clause-called : goal.returns-clause-called
returns-clause-called g t c = called_then c.in-Ok.ensures.called c.migrate_from.ensures.called

pub returns-clause-inside : goal.returns-clause-inside
returns-clause-inside g t c = inside_behind c.in-Ok.ensures.inside c.migrate_from.ensures.inside
