-- The device of a part at the entry of a call that writes pages.
use Rattle.std.proofs.Common.{◌≡◌, ◌≤◌, ◌<◌, IfSome, ℕ, List, length, Option, Some, None, subst, arith}
use Rattle.model_base.specs.{IsWithinLimits}
use Rattle.model_base.specs.declared.shape.Shape.{Shape}
use Rattle.model_parts.specs.{Fresh, HasNothingPending, IsBefore}
use Rattle.model_device.specs.{Disk}
use Rattle.model_page.specs.{data_device_length}
use Rattle.model_page.specs.declared.content.Content.{Content}
use Rattle.redo_disk.proofs.Told.{told-step}
use Rattle.redo_disk.specs.{HasSize, OnTold, WhereTold, Seen}
use Rattle.redo_store.proofs.Buffered.{long-known}
use Rattle.redo_store.specs.Part.{Part}
use Rattle.redo_store.specs.Holding.{IsFitted}

-- a device that is as long as the store asks, on which nothing is pending, and of which this is known for one of the pages
pub record IsReady (shape : Shape) (page : ℕ) (Known : Disk → Type 0) (disk : Disk) : Type 0 where
  pub limits : IsWithinLimits shape
  pub below : page < shape.pages
  pub long : data_device_length shape ≤ length disk.base
  pub nothing : HasNothingPending disk
  pub known : Known disk

ready : (told : Option Disk) (shape : Shape) (page size : ℕ) (Known : Disk → Type 0) → IsWithinLimits shape → page < shape.pages → data_device_length shape ≤ size
    → IfSome told (HasSize size) → IfSome told HasNothingPending → IfSome told Known → IfSome told (IsReady shape page Known)
ready None shape page size Known limits below enough sized nothing known = tt
ready (Some disk) shape page size Known limits below enough sized nothing known =
    record { limits = limits; below = below; long = omega (arith, sized.base, enough); nothing = nothing; known = known }

-- Relates what a device told before to what it tells after.
abbrev pub Telling : Type 1
Telling = Option Disk → Option Disk → (Disk → Disk → Type 0) → Type 0

-- Less may be said of the two, and what is known of the device before may be used.
abbrev pub MayWeaken : Telling → Type 1
MayWeaken Told = (old new : Option Disk) (P : Disk → Type 0) (R S : Disk → Disk → Type 0)
    → ((a b : Disk) → P a → R a b → S a b) → IfSome old P → Told old new R → Told old new S

pub where-weaker : MayWeaken WhereTold
where-weaker old None P R S weaker known told = tt
where-weaker old (Some b) P R S weaker known told =
    let before : P told.0 = subst (λ (o : Option Disk). IfSome o P) told.1 known in
    (told.0, told.1, weaker told.0 b before told.2)

-- what a call leaves on such a device, said of the part that its caller names
pub told_ready : {D : Type 0} (seen : D → Seen) (Told : Telling) → MayWeaken Told → (part old : Part D) (new : D)
    (page room : ℕ) (Known : Shape → Disk → Type 0) (R S : Shape → Disk → Disk → Type 0)
    → ((a b : Disk) → IsReady part.shape page (Known part.shape) a → R part.shape a b → S part.shape a b) → part ≡ old
    → IsFitted seen part.dev part.shape room → IfSome (seen part.dev).tells (HasSize (seen part.dev).size)
    → Told (seen part.dev).tells (seen new).tells (R part.shape)
    → page < old.shape.pages → IfSome (seen old.dev).tells (Known old.shape) → IfSome (seen old.dev).tells HasNothingPending
    → Told (seen old.dev).tells (seen new).tells (S old.shape)
told_ready {D = D} seen Told weaker part old new page room Known R S step is fitted sized done =
    let told = (seen part.dev).tells in
    let Ready : Disk → Type 0 = IsReady part.shape page (Known part.shape) in
    subst (λ (p : Part D). page < p.shape.pages → IfSome (seen p.dev).tells (Known p.shape)
    → IfSome (seen p.dev).tells HasNothingPending → Told (seen p.dev).tells (seen new).tells (S p.shape)) is
    (λ below known nothing. weaker told (seen new).tells Ready (R part.shape) (S part.shape) step
    (ready told part.shape page (seen part.dev).size
    (Known part.shape) fitted.limits below fitted.long sized nothing known)
    done)

-- what a call leaves that is given a batch, said of the part that its caller names
pub told_batch : {D : Type 0} (seen : D → Seen) (part old : Part D) (new : D) (was : ℕ → Content) (batch : Shape → List Fresh) (room : ℕ) (R : Shape → Disk → Disk → Type 0) (S : Shape → Disk → Type 0)
    → ((a b : Disk) → data_device_length part.shape ≤ length a.base → IsBefore part.shape was (batch part.shape) a → R part.shape a b → S part.shape b) → part ≡ old
    → IsFitted seen part.dev part.shape room → IfSome (seen part.dev).tells (HasSize (seen part.dev).size) → OnTold (seen part.dev).tells (seen new).tells (R part.shape)
    → IfSome (seen old.dev).tells (IsBefore old.shape was (batch old.shape)) → IfSome (seen new).tells (S old.shape)
told_batch {D = D} seen part old new was batch room R S step is fitted sized done =
    subst (λ (p : Part D). IfSome (seen p.dev).tells (IsBefore p.shape was (batch p.shape)) → IfSome (seen new).tells (S p.shape)) is
    (λ known. told-step _ _ (λ (disk : Disk). (data_device_length part.shape ≤ length disk.base) × IsBefore part.shape was (batch part.shape) disk) (S part.shape) (R part.shape)
    (λ a b before. step a b before.0 before.1) (long-known (seen part.dev).tells part.shape (seen part.dev).size (IsBefore part.shape was (batch part.shape)) fitted.long sized known) done)
