-- What a device tells after calls.
use Rattle.std.proofs.Common.{◌≡◌, Option, Some, None, IfSome, refl, subst, sym}
use Rattle.std.specs.Prelude.{Result, Ok, Err, OnErr}
use Rattle.model_device.specs.{Disk}
use Rattle.redo_disk.specs.Sight.{OnTold, StillTells, WhereTold}

-- two calls, the second on what the first left
pub OnTold-then : (old middle new : Option Disk) (R S T : Disk → Disk → Type 0) → ((a b c : Disk) → R a b → S b c → T a c) → OnTold old middle R → OnTold middle new S → OnTold old new T
OnTold-then None middle new R S T joins first second = subst (λ (told : Option Disk). OnTold told new S) first second
OnTold-then (Some a) middle new R S T joins first second =
    let after : OnTold (Some first.0) new S = subst (λ (told : Option Disk). OnTold told new S) first.1 second in
    (after.0, after.1, joins a first.0 after.0 first.2 after.2)

-- a call of which less is known, where something is known of the device before
pub OnTold-weaker : (old new : Option Disk) (P : Disk → Type 0) (R S : Disk → Disk → Type 0) → ((a b : Disk) → P a → R a b → S a b) → IfSome old P → OnTold old new R → OnTold old new S
OnTold-weaker None new P R S weaker known told = told
OnTold-weaker (Some a) new P R S weaker known told = (told.0, told.1, weaker a told.0 known told.2)

-- a call of which less is known
pub told-as : (old new : Option Disk) (R S : Disk → Disk → Type 0) → ((a b : Disk) → R a b → S a b) → OnTold old new R → OnTold old new S
told-as None new R S step told = told
told-as (Some a) new R S step told = (told.0, told.1, step a told.0 told.2)

-- a call that changes nothing
pub told-same : (old new : Option Disk) (R : Disk → Disk → Type 0) → ((a : Disk) → R a a) → new ≡ old → OnTold old new R
told-same None new R step same = same
told-same (Some a) new R step same = (a, same, step a)

-- what is known of the device after a call, where something is known of it before
pub told-step : (old new : Option Disk) (P Q : Disk → Type 0) (R : Disk → Disk → Type 0) → ((a b : Disk) → P a → R a b → Q b)
    → IfSome old P → OnTold old new R → IfSome new Q
told-step None new P Q R step known told = subst (λ (o : Option Disk). IfSome o Q) (sym told) tt
told-step (Some a) new P Q R step known told = subst (λ (o : Option Disk). IfSome o Q) (sym told.1) (step a told.0 known told.2)

-- what is known of a device, and what follows from it
pub known-as : (told : Option Disk) (P Q : Disk → Type 0) → ((a : Disk) → P a → Q a) → IfSome told P → IfSome told Q
known-as None P Q step known = tt
known-as (Some a) P Q step known = step a known

pub known-both : (told : Option Disk) (P Q R : Disk → Type 0) → ((a : Disk) → P a → Q a → R a) → IfSome told P → IfSome told Q → IfSome told R
known-both None P Q R step first second = tt
known-both (Some a) P Q R step first second = step a first second

-- what holds anyway holds after an error
pub on-err : {T E : Type 0} (result : Result T E) (P : Type 0) → P → OnErr result P
on-err (Ok value) P holds = tt
on-err (Err error) P holds = holds

-- Where the device tells in the end, it told before.
pub still-then : (old middle new : Option Disk) → StillTells old middle → StillTells middle new → StillTells old new
still-then old middle None first second = tt
still-then old middle (Some c) first second = subst (λ (told : Option Disk). IfSome told (λ disk. old ≡ Some disk)) second first

pub still-same : (old new : Option Disk) → new ≡ old → StillTells old new
still-same old None same = tt
still-same old (Some disk) same = sym same

-- what was known of the device before is known of it now, where it still tells
pub still-known : (old new : Option Disk) (P : Disk → Type 0) → StillTells old new → IfSome old P → IfSome new P
still-known old None P still known = tt
still-known old (Some disk) P still known = subst (λ (told : Option Disk). IfSome told P) still known

-- a call that goes on telling, seen from its end
pub where-told : (old new : Option Disk) (R : Disk → Disk → Type 0) → OnTold old new R → WhereTold old new R
where-told None new R told = subst (λ (told : Option Disk). WhereTold None told R) (sym told) tt
where-told (Some a) new R told = subst (λ (now : Option Disk). WhereTold (Some a) now R) (sym told.1) (a, refl, told.2)

pub where-still : (old new : Option Disk) (R : Disk → Disk → Type 0) → ((disk : Disk) → R disk disk) → StillTells old new → WhereTold old new R
where-still old None R same still = tt
where-still old (Some disk) R same still = (disk, still, same disk)

pub where-then : (old middle new : Option Disk) (R S T : Disk → Disk → Type 0) → ((a b c : Disk) → R a b → S b c → T a c) → WhereTold old middle R → WhereTold middle new S → WhereTold old new T
where-then old middle None R S T joins first second = tt
where-then old middle (Some c) R S T joins first second =
    let before : WhereTold old (Some second.0) R = subst (λ (told : Option Disk). WhereTold old told R) second.1 first in
    (before.0, before.1, joins before.0 second.0 c before.2 second.2)

pub where-as : (old new : Option Disk) (R S : Disk → Disk → Type 0) → ((a b : Disk) → R a b → S a b) → WhereTold old new R → WhereTold old new S
where-as old None R S step told = tt
where-as old (Some b) R S step told = (told.0, told.1, step told.0 b told.2)

pub where-still-tells : (old new : Option Disk) (R : Disk → Disk → Type 0) → WhereTold old new R → (disk : Disk) → new ≡ Some disk → (before : Disk) × (old ≡ Some before) × R before disk
where-still-tells old new R told disk is = subst (λ (now : Option Disk). WhereTold old now R) is told
