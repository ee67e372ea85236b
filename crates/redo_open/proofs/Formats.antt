-- Both devices at the exits of formatting.
use Rattle.std.proofs.Common.{◌≡◌, ℕ, inl, inr, List, Option, Some, None, refl, sym, subst, ◌∙◌, ⊎_elim}
use Rattle.std.specs.Prelude.{IfSome}
use Rattle.model_base.specs.declared.shape.Shape.{Shape}
use Rattle.model_device.specs.{IsImage, Disk}
use Rattle.model_parts.specs.{IsFormatted, IsFormattedData, IsFormattedLog, KeepsNoStore}
use Rattle.model_parts.proofs.Formatted.{unsealed-refused}
use Rattle.model_store.specs.{Refuses}
use Rattle.model_store.specs.declared.refusal.Refusal.TheVariants.{NotFormatted}
use Rattle.redo_disk.specs.{HasSize, OnTold}
use Rattle.redo_disk.proofs.Told.{known-as, told-step}
use Rattle.redo_open.specs.Blank.{HasBlankPages, HasNewLog, HasNoBlocks, HasNoHead, IsHeadless, IsStillLog, LosesHead, LostHead, MayBeNewLog}
use Rattle.redo_open.specs.Devices.{WhereBothTell}
use Rattle.redo_open.proofs.Blanks.{no_blocks-headless}
use Rattle.redo_open.proofs.Rests.{reads-settled, rests-settled, settled-image}

-- WHAT IS KNOWN OF A DEVICE, step by step.

-- a call after which more is known
pub known-step : (old new : Option Disk) (P Q : Disk → Type 0) → IfSome old P → OnTold old new (λ a b. P a → Q b) → IfSome new Q
known-step old new P Q known told = told-step old new P Q (λ a b. P a → Q b) (λ a b is step. step is) known told

-- and one on a device of its own size
pub lost-step : (old new : Option Disk) (size own : ℕ) (Q : Disk → Type 0) → own ≡ size → IfSome old (LostHead size)
    → OnTold old new (λ a b. LostHead own a → Q b) → IfSome new Q
lost-step old new size own Q same known told = known-step old new (LostHead own) Q (subst (λ (n : ℕ). IfSome old (LostHead n)) (sym same) known) told

pub blocks-headless : (shape : Shape) (told : Option Disk) → IfSome told (HasNoBlocks shape) → IfSome told IsHeadless
blocks-headless shape told known = known-as told (HasNoBlocks shape) IsHeadless (λ disk is. no_blocks-headless shape disk is) known

-- BOTH DEVICES.

-- where one of them doesn't tell, nothing is owed
both-told : (log_old data_old log_new data_new : Option Disk) (R : Disk → Disk → Disk → Disk → Type 0)
    → ((a b c d : Disk) → log_old ≡ Some a → data_old ≡ Some b → log_new ≡ Some c → data_new ≡ Some d → R a b c d)
    → WhereBothTell log_old data_old (λ a b. WhereBothTell log_new data_new (R a b))
both-told None data_old log_new data_new R all = tt
both-told (Some a) None log_new data_new R all = tt
both-told (Some a) (Some b) None data_new R all = tt
both-told (Some a) (Some b) (Some c) None R all = tt
both-told (Some a) (Some b) (Some c) (Some d) R all = all a b c d refl refl refl refl

known-at : (told : Option Disk) (disk : Disk) (P : Disk → Type 0) → told ≡ Some disk → IfSome told P → P disk
known-at told disk P is known = subst (λ (o : Option Disk). IfSome o P) is known

told-at : (old new : Option Disk) (a b : Disk) (R : Disk → Disk → Type 0) → old ≡ Some a → new ≡ Some b → OnTold old new R → R a b
told-at old new a b R old_is new_is told =
    let first : OnTold (Some a) new R = subst (λ (o : Option Disk). OnTold o new R) old_is told in
    let both : Some first.0 ≡ Some b = sym first.1 ∙ new_is in
    let same : first.0 ≡ b = cc in
    subst (R a) same first.2

refused : (log_bytes data_bytes : List ℕ) → HasNoHead log_bytes → Refuses log_bytes data_bytes NotFormatted
refused log_bytes data_bytes none = unsealed-refused log_bytes data_bytes none.long none.first none.second

pub keeps-losing : (shape : Shape) (size : ℕ) (log_old data_old log_new data_new : Option Disk) → IfSome log_old (HasSize size)
    → OnTold log_old log_new (λ a b. HasSize size a → LosesHead a b) → data_new ≡ data_old
    → WhereBothTell log_old data_old (λ a b. WhereBothTell log_new data_new (KeepsNoStore shape a b))
keeps-losing shape size log_old data_old log_new data_new known told same =
    both-told log_old data_old log_new data_new (KeepsNoStore shape)
    (λ a b c d a_is b_is c_is d_is log_bytes data_bytes log_fair data_image. (
    let sized : HasSize size a = known-at log_old a (HasSize size) a_is known in
    let loses : LosesHead a c = told-at log_old log_new a c (λ x y. HasSize size x → LosesHead x y) a_is c_is told sized in
    let both : Some d ≡ Some b = sym d_is ∙ same ∙ b_is in
    let data_same : d ≡ b = cc in
    ⊎_elim
    (λ (before : IsStillLog a log_bytes). inl (record {
      was = before.was;
      log = before.log;
      kept = before.kept;
      pages = subst (λ (disk : Disk). IsImage disk data_bytes) data_same data_image;
    }))
    (λ none. inr (inl (refused log_bytes data_bytes none))) (loses log_bytes log_fair)))

pub keeps-headless : (shape : Shape) (log_old data_old log_new data_new : Option Disk) → IfSome log_new IsHeadless
    → WhereBothTell log_old data_old (λ a b. WhereBothTell log_new data_new (KeepsNoStore shape a b))
keeps-headless shape log_old data_old log_new data_new known =
    both-told log_old data_old log_new data_new (KeepsNoStore shape)
    (λ a b c d a_is b_is c_is d_is log_bytes data_bytes log_fair data_image.
    inr (inl (refused log_bytes data_bytes (known-at log_new c IsHeadless c_is known log_bytes log_fair))))

blank-image : (shape : Shape) (disk : Disk) (image : List ℕ) → HasBlankPages shape disk → IsImage disk image → IsFormattedData shape image
blank-image shape disk image has is = subst (IsFormattedData shape) (sym (settled-image disk image has.nothing_pending is)) has.zeros

pub keeps-new : (shape : Shape) (log_old data_old log_new data_new : Option Disk) → IfSome log_new (MayBeNewLog shape) → IfSome data_new (HasBlankPages shape)
    → WhereBothTell log_old data_old (λ a b. WhereBothTell log_new data_new (KeepsNoStore shape a b))
keeps-new shape log_old data_old log_new data_new known blank =
    both-told log_old data_old log_new data_new (KeepsNoStore shape)
    (λ a b c d a_is b_is c_is d_is log_bytes data_bytes log_fair data_image.
    ⊎_elim (λ none. inr (inl (refused log_bytes data_bytes none)))
    (λ new. inr (inr (new data_bytes (blank-image shape d data_bytes (known-at data_new d (HasBlankPages shape) d_is blank) data_image))))
    (known-at log_new c (MayBeNewLog shape) c_is known log_bytes log_fair))

pub formatted-both : (shape : Shape) (log data_told : Option Disk) → IfSome log (HasNewLog shape) → IfSome data_told (HasBlankPages shape)
    → WhereBothTell log data_told (IsFormatted shape)
formatted-both shape None data_told first second = tt
formatted-both shape (Some l) None first second = tt
formatted-both shape (Some l) (Some d) first second = record {
  log_rests = rests-settled l first.nothing_pending;
  data_rests = rests-settled d second.nothing_pending;
  log = subst (IsFormattedLog shape) (sym (reads-settled l first.nothing_pending)) first.log;
  pages = subst (IsFormattedData shape) (sym (reads-settled d second.nothing_pending)) second.zeros;
}
