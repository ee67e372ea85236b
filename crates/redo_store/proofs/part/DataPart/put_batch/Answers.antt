use Rattle.std.proofs.Common.{◌≡◌, IfSome, List, [], None, true, is_some, ap, sym, subst, arith}
use Rattle.model_device.specs.{Disk, IsPutOrNot, synced, written}
use Rattle.model_parts.specs.{batch_of, Fresh, IsBatch, IsUpTo, IsWritable, slots_write}
use Rattle.model_parts.specs.Stored.{Stored}
use Rattle.redo_disk.proofs.Told.{told-step}
use Rattle.model_parts.proofs.Parts.{tied-put, tied-put_failed}
use Rattle.redo_store.specs.Part.{Part}
use Rattle.redo_store.specs.Holding.{PartStores}
use Rattle.redo_store.proofs.Buffered.{fresh-batch, live-stored, back-stored}
use Rattle.redo_store.proofs.part.DataPart.put_batch.Goals as goal

pub returns-in-Ok-clause-stores : goal.returns-in-Ok-clause-stores
returns-in-Ok-clause-stores g c top was known =
    let part = c.self.inside in
    let pairs = c.args.batch.now in
    let users = c.args.frames.now in
    let batch : List Fresh = batch_of part.shape pairs users in
    let is_batch : IsBatch part.shape batch =
    fresh-batch part.shape pairs users (subst (λ (p : Part _). IsWritable p.shape pairs users) (sym c.self.view_is) c.requires.batch) (λ j. omega (arith, c.type_inv.frames j)) in
    let live : part.failed ≡ None = subst (λ (p : Part _). p.failed ≡ None) (sym c.self.view_is) c.requires.live in
    let same : batch ≡ batch_of c.args.self.now.shape pairs users =
    ap (λ (p : Part _). batch_of p.shape pairs users) c.self.view_is in
    subst (λ (b : List Fresh). IfSome (g.D.Sectors.seen c.put_slots.new.device).tells
    (Stored part.shape (IsUpTo top) was b (is_some part.failed))) same
    (told-step _ _ (Stored part.shape (IsUpTo top) was [] (is_some part.failed)) (Stored part.shape (IsUpTo top) was batch (is_some part.failed))
    (λ (old new : Disk). new ≡ synced (written old (slots_write part.shape batch)))
    (λ a b before is. back-stored part.shape top was batch part.failed b live (tied-put part.shape top was batch a b c.self.invariant.limits is_batch (live-stored part.shape top was [] part.failed a live before) is))
    (subst (λ (p : Part _). PartStores g.D.Sectors.seen top was [] p) (sym c.self.view_is) known) c.in-Ok.ensures.ok)

pub returns-in-Err-clause-stores : goal.returns-in-Err-clause-stores
returns-in-Err-clause-stores g c top was known =
    let part = c.self.inside in
    let pairs = c.args.batch.now in
    let users = c.args.frames.now in
    let batch : List Fresh = batch_of part.shape pairs users in
    let is_batch : IsBatch part.shape batch =
    fresh-batch part.shape pairs users (subst (λ (p : Part _). IsWritable p.shape pairs users) (sym c.self.view_is) c.requires.batch) (λ j. omega (arith, c.type_inv.frames j)) in
    let live : part.failed ≡ None = subst (λ (p : Part _). p.failed ≡ None) (sym c.self.view_is) c.requires.live in
    let same : batch ≡ batch_of c.args.self.now.shape pairs users =
    ap (λ (p : Part _). batch_of p.shape pairs users) c.self.view_is in
    subst (λ (b : List Fresh). IfSome (g.D.Sectors.seen c.put_slots.new.device).tells
    (Stored part.shape (IsUpTo top) was b true)) same
    (told-step _ _ (Stored part.shape (IsUpTo top) was [] (is_some part.failed)) (Stored part.shape (IsUpTo top) was batch true)
    (IsPutOrNot (slots_write part.shape batch))
    (λ a b before is. tied-put_failed part.shape top was batch a b c.self.invariant.limits is_batch (live-stored part.shape top was [] part.failed a live before) is)
    (subst (λ (p : Part _). PartStores g.D.Sectors.seen top was [] p) (sym c.self.view_is) known) c.in-Err.ensures.err)
