use Rattle.std.proofs.Common.{◌≡◌, IfSome, List, [], None, is_some, ap, sym, subst, arith}
use Rattle.model_base.specs.declared.shape.Shape.{Shape}
use Rattle.model_device.specs.{Disk}
use Rattle.model_parts.specs.{after_batch, after_both, batch_of, FailsBoth, Fresh, IsBatch, IsLater, IsSteady, IsUpTo, IsWritable, Keeps, KeepsPages, place_writes, slots_write}
use Rattle.model_parts.specs.Stored.{Stored}
use Rattle.redo_disk.proofs.Told.{told-step}
use Rattle.model_parts.proofs.Parts.{tied-write, tied-keeps, tied-failed, before-done, before-keeps, before-failed}
use Rattle.redo_store.specs.Part.{Part}
use Rattle.redo_store.specs.Holding.{PartStores}
use Rattle.redo_store.proofs.Buffered.{fresh-batch, live-stored, back-stored}
use Rattle.redo_store.proofs.Entered.{told_batch}
use Rattle.redo_store.proofs.part.DataPart.write_batch.Goals as goal

pub returns-in-Ok-clause-keeps : goal.returns-in-Ok-clause-keeps
returns-in-Ok-clause-keeps g c top was known later =
    let part = c.self.inside in
    let pairs = c.args.batch.now in
    let users = c.args.frames.now in
    let batch : List Fresh = batch_of part.shape pairs users in
    let is_batch : IsBatch part.shape batch =
    fresh-batch part.shape pairs users (subst (λ (p : Part _). IsWritable p.shape pairs users) (sym c.self.view_is) c.requires.batch) (λ j. omega (arith, c.type_inv.frames j)) in
    let live : part.failed ≡ None = subst (λ (p : Part _). p.failed ≡ None) (sym c.self.view_is) c.requires.live in
    let same : batch ≡ batch_of c.args.self.now.shape pairs users =
    ap (λ (p : Part _). batch_of p.shape pairs users) c.self.view_is in
    subst (λ (b : List Fresh). IfSome (g.D.Sectors.seen c.put_pages.new.device).tells
    (Keeps part.shape (IsUpTo top) was b)) same
    (told-step _ _ (Stored part.shape (IsUpTo top) was [] (is_some part.failed)) (Keeps part.shape (IsUpTo top) was batch)
    (λ (old new : Disk). new ≡ after_both (slots_write part.shape batch) (place_writes part.shape batch) old)
    (λ a b before is. tied-keeps part.shape top was batch a b c.self.invariant.limits is_batch (live-stored part.shape top was [] part.failed a live before) is)
    (subst (λ (p : Part _). PartStores g.D.Sectors.seen top was [] p) (sym c.self.view_is) known) c.in-Ok.ensures.ok)

pub returns-in-Ok-clause-ok : goal.returns-in-Ok-clause-ok
returns-in-Ok-clause-ok g c top was known later =
    let part = c.self.inside in
    let pairs = c.args.batch.now in
    let users = c.args.frames.now in
    let batch : List Fresh = batch_of part.shape pairs users in
    let is_batch : IsBatch part.shape batch =
    fresh-batch part.shape pairs users (subst (λ (p : Part _). IsWritable p.shape pairs users) (sym c.self.view_is) c.requires.batch) (λ j. omega (arith, c.type_inv.frames j)) in
    let live : part.failed ≡ None = subst (λ (p : Part _). p.failed ≡ None) (sym c.self.view_is) c.requires.live in
    let same : batch ≡ batch_of c.args.self.now.shape pairs users =
    ap (λ (p : Part _). batch_of p.shape pairs users) c.self.view_is in
    subst (λ (b : List Fresh). IfSome (g.D.Sectors.seen c.put_pages.new.device).tells
    (Stored part.shape (IsUpTo (after_batch b top)) (after_batch b was) [] (is_some part.failed))) same
    (told-step _ _ (Stored part.shape (IsUpTo top) was [] (is_some part.failed)) (Stored part.shape (IsUpTo (after_batch batch top)) (after_batch batch was) [] (is_some part.failed))
    (λ (old new : Disk). new ≡ after_both (slots_write part.shape batch) (place_writes part.shape batch) old)
    (λ a b before is. back-stored part.shape (after_batch batch top) (after_batch batch was) [] part.failed b live
    (tied-write part.shape top was batch a b c.self.invariant.limits is_batch (subst (λ (b : List Fresh). IsLater top b) (sym same) later) (live-stored part.shape top was [] part.failed a live before) is))
    (subst (λ (p : Part _). PartStores g.D.Sectors.seen top was [] p) (sym c.self.view_is) known) c.in-Ok.ensures.ok)

pub returns-in-Ok-clause-pages : goal.returns-in-Ok-clause-pages
returns-in-Ok-clause-pages g c was =
    let part = c.self.inside in
    let pairs = c.args.batch.now in
    let users = c.args.frames.now in
    let batch : List Fresh = batch_of part.shape pairs users in
    let is_batch : IsBatch part.shape batch =
    fresh-batch part.shape pairs users (subst (λ (p : Part _). IsWritable p.shape pairs users) (sym c.self.view_is) c.requires.batch) (λ j. omega (arith, c.type_inv.frames j)) in
    told_batch g.D.Sectors.seen _ _ c.put_pages.new.device was (λ shape. batch_of shape pairs users) _
    (λ (shape : Shape) (old new : Disk). new ≡ after_both (slots_write shape (batch_of shape pairs users))
    (place_writes shape (batch_of shape pairs users)) old)
    (λ shape. KeepsPages shape was (batch_of shape pairs users))
    (λ a b long before is. before-keeps _ was batch a b c.self.invariant.limits is_batch long before is) c.self.view_is c.self.invariant c.len-size.ensures.told c.in-Ok.ensures.ok

pub returns-in-Ok-clause-done : goal.returns-in-Ok-clause-done
returns-in-Ok-clause-done g c was =
    let part = c.self.inside in
    let pairs = c.args.batch.now in
    let users = c.args.frames.now in
    let batch : List Fresh = batch_of part.shape pairs users in
    let is_batch : IsBatch part.shape batch =
    fresh-batch part.shape pairs users (subst (λ (p : Part _). IsWritable p.shape pairs users) (sym c.self.view_is) c.requires.batch) (λ j. omega (arith, c.type_inv.frames j)) in
    told_batch g.D.Sectors.seen _ _ c.put_pages.new.device was (λ shape. batch_of shape pairs users) _
    (λ (shape : Shape) (old new : Disk). new ≡ after_both (slots_write shape (batch_of shape pairs users))
    (place_writes shape (batch_of shape pairs users)) old)
    (λ shape. IsSteady shape (after_batch (batch_of shape pairs users) was))
    (λ a b long before is. before-done _ was batch a b c.self.invariant.limits is_batch long before is) c.self.view_is c.self.invariant c.len-size.ensures.told c.in-Ok.ensures.ok

pub returns-in-Err-clause-keeps : goal.returns-in-Err-clause-keeps
returns-in-Err-clause-keeps g c top was known later =
    let part = c.self.inside in
    let pairs = c.args.batch.now in
    let users = c.args.frames.now in
    let batch : List Fresh = batch_of part.shape pairs users in
    let is_batch : IsBatch part.shape batch =
    fresh-batch part.shape pairs users (subst (λ (p : Part _). IsWritable p.shape pairs users) (sym c.self.view_is) c.requires.batch) (λ j. omega (arith, c.type_inv.frames j)) in
    let live : part.failed ≡ None = subst (λ (p : Part _). p.failed ≡ None) (sym c.self.view_is) c.requires.live in
    let same : batch ≡ batch_of c.args.self.now.shape pairs users =
    ap (λ (p : Part _). batch_of p.shape pairs users) c.self.view_is in
    subst (λ (b : List Fresh). IfSome (g.D.Sectors.seen c.put_pages.new.device).tells
    (Keeps part.shape (IsUpTo top) was b)) same
    (told-step _ _ (Stored part.shape (IsUpTo top) was [] (is_some part.failed)) (Keeps part.shape (IsUpTo top) was batch)
    (FailsBoth (slots_write part.shape batch) (place_writes part.shape batch))
    (λ a b before is. tied-failed part.shape top was batch a b c.self.invariant.limits is_batch (subst (λ (b : List Fresh). IsLater top b) (sym same) later) (live-stored part.shape top was [] part.failed a live before) is)
    (subst (λ (p : Part _). PartStores g.D.Sectors.seen top was [] p) (sym c.self.view_is) known) c.in-Err.ensures.err)

pub returns-in-Err-clause-pages : goal.returns-in-Err-clause-pages
returns-in-Err-clause-pages g c was =
    let part = c.self.inside in
    let pairs = c.args.batch.now in
    let users = c.args.frames.now in
    let batch : List Fresh = batch_of part.shape pairs users in
    let is_batch : IsBatch part.shape batch =
    fresh-batch part.shape pairs users (subst (λ (p : Part _). IsWritable p.shape pairs users) (sym c.self.view_is) c.requires.batch) (λ j. omega (arith, c.type_inv.frames j)) in
    told_batch g.D.Sectors.seen _ _ c.put_pages.new.device was (λ shape. batch_of shape pairs users) _
    (λ shape. FailsBoth (slots_write shape (batch_of shape pairs users)) (place_writes shape (batch_of shape pairs users)))
    (λ shape. KeepsPages shape was (batch_of shape pairs users))
    (λ a b long before is. before-failed _ was batch a b c.self.invariant.limits is_batch long before is) c.self.view_is c.self.invariant c.len-size.ensures.told c.in-Err.ensures.err
