-- One page after another.
use Rattle.std.proofs.Common.{Some, None, arith, rules}
use Rattle.std.proofs.lemmas.Result.{err_from_is_err_and}
use Rattle.redo_disk.specs.declared.error.DevError.TheVariants.{NoMemory}
use Rattle.redo_recover.proofs.Contents.{content-any}
use Rattle.redo_recover.proofs.Keeping.{kept-all, kept-next, lost-first}
use Rattle.redo_recover.proofs.Only.{only-none, only-own, only-then}
use Rattle.redo_recover.proofs.Placing.{at-next, at-none, with-next, with-none}
use Rattle.redo_recover.proofs.Unchanged.{content-after}
use Rattle.redo_recover.proofs.Paging.{AreKeptFirst}
use Rattle.redo_recover.specs.Pages.{HoldsSlots, IsFirstLostFault, AreFoundAt}
use Rattle.redo_recover.proofs.kept.keep_pages.Goals as goal

pub returns-in_err-one-clause-fault : goal.returns-in_err-one-clause-fault
returns-in_err-one-clause-fault g c =
    let shape = c.args.shape.now in
    let middle = g.D.Sectors.seen c.loop-page.device in
    let new = g.D.Sectors.seen c.keep_page.new.device in
    let fault = c.in_err-one.field-0.0 in
    let kept = content-after middle new (λ content. AreKeptFirst shape content c.loop-page.page c.loop-page.pages) c.in_err-one.ensures.reads.unchanged c.loop-page.invariant.kept in
    let first : IsFirstLostFault shape new.tells fault = lost-first shape c.loop-page.pages c.loop-page.page new.tells fault (omega arith) kept c.in_err-one.ensures.fault in
    search rules

pub keep_page-requires-clause-slots : goal.keep_page-requires-clause-slots
keep_page-requires-clause-slots g c = content-after _ _ (HoldsSlots c.args.shape.now c.args.slots.now) c.loop-page.invariant.reads.unchanged c.requires.slots

pub loop-page-init : goal.loop-page-init
loop-page-init g c =
    let old = g.D.Sectors.seen c.args.device.now in
    record {
      its_pages = c.in_ok-pages.ensures.its_pages;
      reads = only-none c.args.device.now;
      room = omega (arith, c.in_ok-found.ensures.exact);
      filled = c.in_ok-found.ensures.len;
      with = with-none c.args.shape.now c.in_ok-found.found.items c.in_ok-pages.pages c.in_ok-found.ensures.items;
      found = content-any old.tells (AreFoundAt c.args.shape.now c.in_ok-found.found.items)
          (λ content. at-none c.args.shape.now c.in_ok-found.found.items content c.in_ok-found.ensures.items);
      kept = search rules;
    }

pub loop-page-preserved : goal.loop-page-preserved
loop-page-preserved g c =
    let shape = c.args.shape.now in
    let middle = g.D.Sectors.seen c.loop-page.device in
    let new = g.D.Sectors.seen c.keep_page.new.device in
    let step = c.in_ok-one.ensures.reads.unchanged in
    record {
      its_pages = c.in_ok-one.ensures.its_pages;
      reads = only-then c.args.device.now c.loop-page.device c.keep_page.new.device None c.loop-page.invariant.reads c.in_ok-one.ensures.reads;
      room = omega (arith, c.loop-page.invariant.room, c.push_reserved.ensures.capacity);
      filled = omega (arith, c.loop-page.invariant.filled, c.push_reserved.ensures.len);
      with = with-next shape c.loop-page.found.items c.push_reserved.new.self.items c.loop-page.pages c.keep_page.new.pages c.loop-page.page c.in_ok-one.one
          c.push_reserved.ensures.items c.loop-page.invariant.with c.in_ok-one.ensures.puts;
      found = at-next shape c.loop-page.found.items c.push_reserved.new.self.items c.loop-page.page c.in_ok-one.one new.tells c.loop-page.invariant.with.many
          c.push_reserved.ensures.items (content-after middle new (AreFoundAt shape c.loop-page.found.items) step c.loop-page.invariant.found) c.in_ok-one.ensures.found;
      kept = kept-next shape c.loop-page.pages c.keep_page.new.pages c.loop-page.page new.tells c.in_ok-one.ensures.its_pages
          (content-after middle new (λ content. AreKeptFirst shape content c.loop-page.page c.loop-page.pages) step c.loop-page.invariant.kept) c.in_ok-one.ensures.kept;
    }

pub returns-clause-kept : goal.returns-clause-kept
returns-clause-kept g c =
    kept-all c.args.shape.now c.loop-page.pages c.loop-page.page (g.D.Sectors.seen c.loop-page.device).tells (omega arith) c.loop-page.invariant.kept

pub returns-in_err-pages-clause-reads : goal.returns-in_err-pages-clause-reads
returns-in_err-pages-clause-reads g c =
    let p = err_from_is_err_and c.from_residual.result c.from_residual.ensures.1 in
    rw (p.1, p.2) (only-own c.args.device.now c.args.device.now (Some NoMemory) tt (only-none c.args.device.now))

pub returns-in_err-found-clause-reads : goal.returns-in_err-found-clause-reads
returns-in_err-found-clause-reads g c =
    let p = err_from_is_err_and c.from_residual-in_err-found.result c.from_residual-in_err-found.ensures.1 in
    rw (p.1, p.2) (only-own c.args.device.now c.args.device.now (Some NoMemory) tt (only-none c.args.device.now))

pub returns-in_err-one-clause-reads : goal.returns-in_err-one-clause-reads
returns-in_err-one-clause-reads g c =
    let p = err_from_is_err_and c.from_residual-in_err-one.result c.from_residual-in_err-one.ensures.1 in
    rw (p.1, p.2) (only-then c.args.device.now c.loop-page.device c.keep_page.new.device _ c.loop-page.invariant.reads c.in_err-one.ensures.reads)

pub returns-clause-reads : goal.returns-clause-reads
returns-clause-reads g c = c.loop-page.invariant.reads
