use Rattle.std.proofs.Common.{◌≡◌, ◌<◌, ap, sym, subst, ◌∙◌}
use Rattle.model_base.specs.declared.shape.Shape.{Shape}
use Rattle.model_parts.specs.{IsRepaired, KeepsAll}
use Rattle.model_device.specs.{IsPutOrNot, synced, written, Disk}
use Rattle.redo_dblwr.proofs.Ranges.{place-range}
use Rattle.redo_disk.proofs.Told.{OnTold-weaker}
use Rattle.redo_disk.specs.{OnTold, write_at}
use Rattle.redo_store.proofs.Copies.{put-fails, put-keeps}
use Rattle.redo_store.proofs.Entered.{told_ready}
use Rattle.redo_store.specs.Copies.{IsCopyToPut}
use Rattle.redo_store.specs.Part.{Part}
use Rattle.redo_store.proofs.part.DataPart.put_copy.Goals as goal

pub returns-in-Ok-clause-keeps : goal.returns-in-Ok-clause-keeps
returns-in-Ok-clause-keeps g c =
    let page = c.args.page in
    let copy = c.args.copy.now in
    let at = c.place_at.result in
    told_ready g.D.Sectors.seen OnTold OnTold-weaker _ _ c.write_and_sync.new.device page _
    (λ shape. IsCopyToPut shape page copy)
    (λ (shape : Shape) (a b : Disk). b ≡ synced (written a (write_at at copy))) KeepsAll
    (λ a b ready done. (put-keeps _ page at copy a b c.place_at.ensures ready done).keeps) c.self.view_is c.self.invariant c.len-size.ensures.told c.in-Ok.ensures.ok
    c.requires.page c.requires.counts

pub returns-in-Ok-clause-ok : goal.returns-in-Ok-clause-ok
returns-in-Ok-clause-ok g c =
    let page = c.args.page in
    let copy = c.args.copy.now in
    let at = c.place_at.result in
    told_ready g.D.Sectors.seen OnTold OnTold-weaker _ _ c.write_and_sync.new.device page _
    (λ shape. IsCopyToPut shape page copy) (λ (shape : Shape) (a b : Disk). b ≡ synced (written a (write_at at copy)))
    (λ shape. IsRepaired shape page)
    (λ a b ready done. (put-keeps _ page at copy a b c.place_at.ensures ready done).repaired) c.self.view_is c.self.invariant c.len-size.ensures.told c.in-Ok.ensures.ok
    c.requires.page c.requires.counts

pub returns-in-Err-clause-keeps : goal.returns-in-Err-clause-keeps
returns-in-Err-clause-keeps g c =
    let page = c.args.page in
    let copy = c.args.copy.now in
    let at = c.place_at.result in
    told_ready g.D.Sectors.seen OnTold OnTold-weaker _ _ c.write_and_sync.new.device page _
    (λ shape. IsCopyToPut shape page copy) (λ (shape : Shape). IsPutOrNot (write_at at copy)) KeepsAll
    (λ a b ready fails. put-fails _ page at copy a b c.place_at.ensures ready fails) c.self.view_is c.self.invariant c.len-size.ensures.told c.in-Err.ensures.err
    c.requires.page c.requires.counts

pub write_and_sync-requires : goal.write_and_sync-requires
write_and_sync-requires g c =
    let same = ap (λ (p : Part _). p.shape) c.self.view_is in
    place-range c.self.inside.shape _ c.args.page c.place_at.result _ c.self.invariant.limits.page_size c.self.invariant.long
    (subst (λ (shape : Shape). c.args.page < shape.pages) (sym same) c.requires.page) c.place_at.ensures
    (c.requires.copy ∙ sym (ap (λ (shape : Shape). shape.page_size) same))
