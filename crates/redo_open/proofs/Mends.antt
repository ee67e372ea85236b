-- Repairs, one page after another.
use Rattle.std.proofs.Common.{◌≡◌, ◌≢◌, ◌<◌, ◌⊎◌, ℕ, suc, inl, inr, List, None, refl, sym, subst, ap, ◌∙◌, ⊎_elim, arith}
use Rattle.std.proofs.lemmas.Bool.{cases_lt}
use Rattle.model_base.specs.declared.shape.Shape.{Shape}
use Rattle.model_device.specs.{IsImage, settled, Disk}
use Rattle.model_device.proofs.Images.{settled_images}
use Rattle.model_page.specs.{place_lsn, slot_bytes}
use Rattle.model_parts.specs.{IsRepaired, KeepsAll, KeepsSame}
use Rattle.model_parts.proofs.Kept.{same-place_lsn}
use Rattle.model_store.specs.{IsFair}
use Rattle.model_store.proofs.Fairness.{base-fair}
use Rattle.redo_open.specs.Mend.{IsSettledData, StaysKept, IsMended, AreMended}

same-or : (a b : ℕ) → (a ≡ b) ⊎ (a ≢ b)
same-or a b = ⊎_elim (λ less. inr (λ same. absurd (omega arith))) (λ not_less. ⊎_elim (λ more. inr (λ same. absurd (omega arith))) (λ not_more. inl (omega arith)) (cases_lt b a)) (cases_lt a b)

fair-settled : (shape : Shape) (disk : Disk) (image : List ℕ) → disk ≡ settled disk.base → IsFair shape disk image → image ≡ disk.base
fair-settled shape disk image same fair = (settled_images disk.base).1 image (subst (λ (d : Disk). IsImage d image) same fair.possible)

same-kept : (shape : Shape) (bytes : List ℕ) → KeepsSame shape bytes bytes
same-kept shape bytes p content below = (λ is. is, λ is. is)

then-kept : (shape : Shape) (a b c : List ℕ) → KeepsSame shape a b → KeepsSame shape b c → KeepsSame shape a c
then-kept shape a b c first second p content below =
    (λ is. (second p content below).0 ((first p content below).0 is), λ is. (first p content below).1 ((second p content below).1 is))

-- a device on which nothing is pending keeps all
pub settled-keeps : (shape : Shape) (disk : Disk) → IsSettledData shape disk → KeepsAll shape disk disk
settled-keeps shape disk is = record {
  long = refl;
  same = λ image fair. subst (KeepsSame shape disk.base) (sym (fair-settled shape disk image is.nothing_pending fair)) (same-kept shape disk.base);
  slots = λ image fair slot below. ap (slot_bytes shape slot) (fair-settled shape disk image is.nothing_pending fair);
}

stays-same : (shape : Shape) (disk : Disk) → IsSettledData shape disk → StaysKept shape disk disk
stays-same shape disk is = record {
  nothing_pending = is.nothing_pending;
  same_length = refl;
  same = same-kept shape disk.base;
  slots = λ slot below. refl;
}

-- a place that passes needs no repair
pub mended-same : (shape : Shape) (page : ℕ) (disk : Disk) → IsSettledData shape disk → place_lsn shape disk.base page ≢ None → IsMended shape page disk disk
mended-same shape page disk is passes = record { stays = stays-same shape disk is; passes = passes; others = λ p below other. refl }

-- and one that was repaired passes
pub mended-repaired : (shape : Shape) (page : ℕ) (old new : Disk) → KeepsAll shape old new → IsRepaired shape page old new → IsMended shape page old new
mended-repaired shape page old new keeps repaired = record {
  stays = record {
    nothing_pending = repaired.nothing_pending;
    same_length = keeps.long;
    same = keeps.same new.base (base-fair shape new);
    slots = repaired.slots;
  };
  passes = repaired.passes;
  others = repaired.others;
}

-- ONE AFTER ANOTHER.

pub mended-none : (shape : Shape) (disk : Disk) → IsSettledData shape disk → AreMended shape 0 disk disk
mended-none shape disk is = record { stays = stays-same shape disk is; pass = λ p below. absurd (omega arith); others = λ p inside from. refl }

then-stays : (shape : Shape) (a b c : Disk) → StaysKept shape a b → StaysKept shape b c → StaysKept shape a c
then-stays shape a b c first second = record {
  nothing_pending = second.nothing_pending;
  same_length = second.same_length ∙ first.same_length;
  same = then-kept shape a.base b.base c.base first.same second.same;
  slots = λ slot below. second.slots slot below ∙ first.slots slot below;
}

pub mended-more : (shape : Shape) (count : ℕ) (a b c : Disk) → count < shape.pages → AreMended shape count a b → IsMended shape count b c → AreMended shape (suc count) a c
mended-more shape count a b c inside first second = record {
  stays = then-stays shape a b c first.stays second.stays;
  pass = λ p below. ⊎_elim (λ same. subst (λ (n : ℕ). place_lsn shape c.base n ≢ None) same second.passes)
      (λ other. λ none. first.pass p (omega (arith, other_below count p below other))
      (sym (same-place_lsn shape b.base c.base p (second.others p (omega arith) (λ same. other (sym same)))) ∙ none)) (same-or count p);
  others = λ p within from. second.others p within (λ same. absurd (omega arith)) ∙ first.others p within (omega arith);
}
  where
    other_below : (n p : ℕ) → p < suc n → n ≢ p → p < n
    other_below n p below other = ⊎_elim (λ less. less) (λ not_less. absurd (other (omega arith))) (cases_lt p n)

pub keeps-behind : (shape : Shape) (count : ℕ) (a b c : Disk) → AreMended shape count a b → KeepsAll shape b c → KeepsAll shape a c
keeps-behind shape count a b c first second = record {
  long = second.long ∙ first.stays.same_length;
  same = λ image fair. then-kept shape a.base b.base image first.stays.same (second.same image fair);
  slots = λ image fair slot below. second.slots image fair slot below ∙ first.stays.slots slot below;
}

pub settled-behind : (shape : Shape) (count : ℕ) (a b : Disk) → IsSettledData shape a → AreMended shape count a b → IsSettledData shape b
settled-behind shape count a b is mended = record { nothing_pending = mended.stays.nothing_pending; long = omega (arith, is.long, mended.stays.same_length) }
