-- Device calls in a row, where the device tells what it means.
use Rattle.std.proofs.Common.{◌≡◌, ◌≤◌, ℕ, inl, inr, Option, Some, None, sym, subst, ◌∙◌, ⊎_elim, arith}
use Rattle.std.specs.Prelude.{Result, Ok, Err, OnOk, OnErr, IfSome}
use Rattle.std.proofs.lemmas.Bool.{cases_lt}
use Rattle.model_base.specs.{HasRisen, last_count}
use Rattle.model_device.specs.{Disk}
use Rattle.redo_disk.specs.{HasCause, OnTold}
use Rattle.redo_disk.specs.declared.error.DevError.{DevError}

-- WHAT FAILED.

pub risen-since : (first before now : ℕ) → first ≤ before → before ≤ now → HasRisen before now → HasRisen first now
risen-since first before now later rises risen =
    ⊎_elim (λ more. inl (omega arith)) (λ full. ⊎_elim (λ less. inl (omega arith)) (λ not_less. inr not_less) (cases_lt first last_count)) risen

-- a call after calls that went well
pub cause-since : {T : Type 0} (first before now : ℕ) (result : Result T DevError) → first ≤ before → HasCause before now result → HasCause first now result
cause-since first before now result later cause = record {
  later = omega (arith, cause.later);
  failed = λ is. risen-since first before now later cause.later (cause.failed is);
}

-- BOTH WAYS.

-- what holds after an Ok and after an error holds
pub either-way : {T E : Type 0} (result : Result T E) (A B P : Type 0) → (A → P) → (B → P) → OnOk result A → OnErr result B → P
either-way (Ok value) A B P ok err holds fails = ok holds
either-way (Err error) A B P ok err holds fails = err fails

-- WHAT IS KNOWN OF THE DEVICE BEFORE.

pub told-known : (old new : Option Disk) (P : Disk → Type 0) (R : Disk → Disk → Type 0) → ((a : Disk) → P a → R a a) → IfSome old P → new ≡ old → OnTold old new R
told-known None new P R step known same = same
told-known (Some a) new P R step known same = (a, same, step a known)

-- two facts of one call
pub told-both : (old new : Option Disk) (R S T : Disk → Disk → Type 0) → ((a b : Disk) → R a b → S a b → T a b) → OnTold old new R → OnTold old new S → OnTold old new T
told-both None new R S T step first second = first
told-both (Some a) new R S T step first second =
    let same : Some first.0 ≡ Some second.0 = sym first.1 ∙ second.1 in
    let one : first.0 ≡ second.0 = cc in
    (first.0, first.1, step a first.0 first.2 (subst (λ (b : Disk). S a b) (sym one) second.2))
