use Rattle.model_parts.specs.{FailsPutBack, IsPutBack, IsRepairable, IsRepaired, KeepsAll}
use Rattle.redo_disk.specs.{WhereTold}
use Rattle.redo_store.proofs.Entered.{told_ready, where-weaker}
use Rattle.redo_store.proofs.Repaired.{back-fails, back-keeps}
use Rattle.redo_store.proofs.part.DataPart.repair.Goals as goal

pub returns-in-Ok-clause-keeps : goal.returns-in-Ok-clause-keeps
returns-in-Ok-clause-keeps g c =
    let page = c.args.page in
    told_ready g.D.Sectors.seen WhereTold where-weaker _ _ c.put_back.new.device page _
    (λ shape. IsRepairable shape page) (λ shape. IsPutBack shape page) KeepsAll
    (λ a b ready done. (back-keeps _ page a b ready done).keeps)
    c.self.view_is c.self.invariant c.len-size.ensures.told c.in-Ok.ensures.ok c.requires.page c.requires.repairable

pub returns-in-Ok-clause-ok : goal.returns-in-Ok-clause-ok
returns-in-Ok-clause-ok g c =
    let page = c.args.page in
    told_ready g.D.Sectors.seen WhereTold where-weaker _ _ c.put_back.new.device page _
    (λ shape. IsRepairable shape page) (λ shape. IsPutBack shape page)
    (λ shape. IsRepaired shape page) (λ a b ready done. (back-keeps _ page a b ready done).repaired)
    c.self.view_is c.self.invariant c.len-size.ensures.told c.in-Ok.ensures.ok c.requires.page c.requires.repairable

pub returns-in-Err-clause-keeps : goal.returns-in-Err-clause-keeps
returns-in-Err-clause-keeps g c =
    let page = c.args.page in
    told_ready g.D.Sectors.seen WhereTold where-weaker _ _ c.put_back.new.device page _
    (λ shape. IsRepairable shape page) (λ shape. FailsPutBack shape page) KeepsAll
    (λ a b ready fails. back-fails _ page a b ready fails)
    c.self.view_is c.self.invariant c.len-size.ensures.told c.in-Err.ensures.err c.requires.page c.requires.repairable
