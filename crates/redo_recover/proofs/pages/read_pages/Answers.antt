-- The slots are read and then each place, and the kept pages are judged and replayed.
use Rattle.std.proofs.Common.{None, rules, subst, sym}
use Rattle.std.proofs.lemmas.Result.{err_from_is_err_and}
use Rattle.model_store.specs.{AreReadPages}
use Rattle.redo_recover.proofs.Bounds.{replayed-not_ahead}
use Rattle.redo_recover.proofs.Contents.{content-weaker}
use Rattle.redo_recover.proofs.Fronts.{ahead-fault, ahead-own, device-fault, lost-fault}
use Rattle.redo_recover.proofs.Keeping.{slots-range}
use Rattle.redo_recover.proofs.Only.{only-data, only-own, only-then}
use Rattle.redo_recover.proofs.Paging.{pages-read}
use Rattle.redo_recover.proofs.Placing.{found-read, places-of}
use Rattle.redo_recover.specs.Devices.{data_error}
use Rattle.redo_recover.specs.Pages.{AreKept, IsPageFault}
use Rattle.redo_recover.specs.declared.fault.RecFault.TheVariants.{NoMemory}
use Rattle.redo_recover.proofs.pages.read_pages.Goals as goal

pub read_part-requires : goal.read_part-requires
read_part-requires g c = record { range = slots-range c.args.shape.now (g.D.Sectors.seen c.args.device.now).size c.requires.limits c.requires.long }

pub returns-in-Err-clause-fault : goal.returns-in-Err-clause-fault
returns-in-Err-clause-fault g c =
    let told = (g.D.Sectors.seen c.read_part.new.device).tells in
    subst (IsPageFault c.args.shape.now c.args.end told) (sym c.data_fault.ensures) (device-fault c.args.shape.now c.args.end told c.in-Err.error)

pub returns-in_err-pages-clause-fault : goal.returns-in_err-pages-clause-fault
returns-in_err-pages-clause-fault g c =
    let fault = c.in_err-pages.field-0.0 in
    let known = lost-fault c.args.shape.now c.args.end (g.D.Sectors.seen c.keep_pages.new.device).tells fault c.in_err-pages.ensures.fault in
    search rules

pub returns-in_err-check_ahead-clause-fault : goal.returns-in_err-check_ahead-clause-fault
returns-in_err-check_ahead-clause-fault g c =
    let shape = c.args.shape.now in
    let fault = c.in_err-check_ahead.field-0.0 in
    let now = g.D.Sectors.seen c.keep_pages.new.device in
    let ahead = ahead-fault shape c.args.end c.in_ok-pages.pages now.tells fault
    c.in_ok-pages.ensures.kept c.in_err-check_ahead.ensures.fault in
    search rules

pub returns-clause-pages : goal.returns-clause-pages
returns-clause-pages g c =
    let shape = c.args.shape.now in
    let told = (g.D.Sectors.seen c.keep_pages.new.device).tells in
    content-weaker told (λ content. AreKept shape content c.in_ok-pages.pages) (λ content. AreReadPages shape content c.args.groups.now c.args.end c.replay.new.pages)
    (λ content kept. pages-read shape content c.args.groups.now c.args.end c.in_ok-pages.pages c.replay.new.pages
    kept c.in_ok-check_ahead.ensures.fine c.in_ok-replay.ensures.replayed)
    c.in_ok-pages.ensures.kept

pub returns-clause-its_places : goal.returns-clause-its_places
returns-clause-its_places g c =
    places-of c.args.shape.now (record { slots = c.in-Ok.slots; found = c.in_ok-pages.found }) c.args.groups.now c.in_ok-pages.pages c.replay.new.pages
    (search rules) c.requires.rise c.in_ok-pages.ensures.lsns c.in_ok-replay.ensures.replayed c.in_ok-replay.ensures.its_pages

pub returns-clause-found : goal.returns-clause-found
returns-clause-found g c =
    let shape = c.args.shape.now in
    let now = g.D.Sectors.seen c.keep_pages.new.device in
    found-read shape (record { slots = c.in-Ok.slots; found = c.in_ok-pages.found }) c.args.groups.now c.in_ok-pages.pages c.replay.new.pages now.tells
    c.requires.rise c.in_ok-pages.ensures.lsns c.in_ok-replay.ensures.replayed
    (search rules)
    c.in_ok-pages.ensures.kept
    c.in_ok-pages.ensures.found

pub returns-clause-not_ahead : goal.returns-clause-not_ahead
returns-clause-not_ahead g c =
    replayed-not_ahead c.args.groups.now c.in_ok-pages.pages c.replay.new.pages c.args.end c.requires.ends c.in_ok-check_ahead.ensures.fine
    c.in_ok-replay.ensures.replayed

pub returns-in-Err-clause-reads : goal.returns-in-Err-clause-reads
returns-in-Err-clause-reads g c = only-data _ _ c.in-Err.error _ c.data_fault.ensures c.in-Err.ensures.reads

pub returns-in_err-pages-clause-reads : goal.returns-in_err-pages-clause-reads
returns-in_err-pages-clause-reads g c =
    let p = err_from_is_err_and c.from_residual.result c.from_residual.ensures.1 in
    rw (p.1, p.2) (only-then _ _ _ _ c.in-Ok.ensures.reads c.in_err-pages.ensures.reads)

pub returns-in_err-check_ahead-clause-reads : goal.returns-in_err-check_ahead-clause-reads
returns-in_err-check_ahead-clause-reads g c =
    let fault = c.in_err-check_ahead.field-0.0 in
    let p = err_from_is_err_and c.from_residual-in_err-check_ahead.result c.from_residual-in_err-check_ahead.ensures.1 in
    rw (p.1, p.2) (only-own _ _ (data_error fault) (ahead-own c.in_ok-pages.pages c.args.end fault c.in_err-check_ahead.ensures.fault).1
    (only-then _ _ _ None c.in-Ok.ensures.reads c.in_ok-pages.ensures.reads))

pub returns-in_err-replay-clause-reads : goal.returns-in_err-replay-clause-reads
returns-in_err-replay-clause-reads g c =
    let p = err_from_is_err_and c.from_residual-in_err-replay.result c.from_residual-in_err-replay.ensures.1 in
    rw (p.1, p.2) (only-own _ _ (data_error NoMemory) tt (only-then _ _ _ None c.in-Ok.ensures.reads c.in_ok-pages.ensures.reads))

pub returns-clause-reads : goal.returns-clause-reads
returns-clause-reads g c = only-then _ _ _ None c.in-Ok.ensures.reads c.in_ok-pages.ensures.reads
