-- Pages that are kept as they were last written, or as the batch at hand has them.
use Rattle.std.proofs.Common.{ℕ, ◌≤◌, inl, inr, List, Some, None, Option, arith, sym, ap, subst, ⊎_elim}
use Rattle.model_base.specs.declared.shape.Shape.{Shape}
use Rattle.model_log.specs.declared.group.Whole.{Whole}
use Rattle.model_device.specs.{Disk}
use Rattle.model_page.specs.declared.content.Content.{Content}
use Rattle.model_theorem.specs.Kept.{IsKeptPrefix, DataHolds, copy_of, IsEither, IsBatchPrefix, IsPageStored, IsStored}
use Rattle.model_theorem.proofs.Later.{passed-on}

-- what either content is
either-prefix : (page : Content) (wholes : List Whole) (stable ckpt p : ℕ) (was : Content) (batch : Option Content) (content : Content)
    → IsKeptPrefix page wholes stable ckpt p was → IsBatchPrefix page wholes stable p was batch → IsEither was batch content
    → IsKeptPrefix page wholes stable ckpt p content × (was.lsn ≤ content.lsn)
either-prefix page wholes stable ckpt p was None content last next is =
    (subst (IsKeptPrefix page wholes stable ckpt p) (sym is) last, omega (arith, ap (λ (c : Content). c.lsn) is))
either-prefix page wholes stable ckpt p was (Some new) content last next is =
    ⊎_elim (λ old. let kept : IsKeptPrefix page wholes stable ckpt p content = subst (IsKeptPrefix page wholes stable ckpt p) (sym old) last in
    (kept, omega (arith, ap (λ (c : Content). c.lsn) old)))
    (λ now.
    let fresh : IsKeptPrefix page wholes stable ckpt p new =
    record { is_prefix = next.0; passed = passed-on p ckpt was.lsn new.lsn wholes next.1 last.passed } in
    let kept : IsKeptPrefix page wholes stable ckpt p content = subst (IsKeptPrefix page wholes stable ckpt p) (sym now) fresh in
    (kept, omega (arith, next.1, ap (λ (c : Content). c.lsn) now))) is

pub stored-holds : (shape : Shape) (opened : List Content) (wholes : List Whole) (stable ckpt : ℕ) (was : ℕ → Content) (batch : ℕ → Option Content) (disk : Disk)
    → IsStored shape opened wholes stable ckpt was batch disk → DataHolds shape opened wholes stable ckpt disk
stored-holds shape opened wholes stable ckpt was batch disk is = record {
  long = is.long;
  keeps = λ image fair p page at.
      let here : IsPageStored shape page wholes stable ckpt p (was p) (batch p) disk = is.each p page at in
      let found = here.kept image fair in
      let kept = either-prefix page wholes stable ckpt p (was p) (batch p) found.0 here.last here.next found.2 in
      record {
        content = found.0;
        kept = found.1;
        is_prefix = kept.0;
        copies = λ slot lsn below copy. ⊎_elim (λ older. inl (omega (arith, kept.1)))
            (λ either. (
            let one = either-prefix page wholes stable ckpt p (was p) (batch p) (copy_of shape image slot lsn) here.last here.next either in
            let prefix : IsKeptPrefix page wholes stable ckpt p (copy_of shape image slot lsn) = one.0 in
            inr prefix.is_prefix))
            (here.copies image slot lsn fair below copy);
      };
}
