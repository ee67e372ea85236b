-- What a crash leaves of a store's data device.
use Rattle.std.proofs.Common.{ℕ, List, subst, arith}
use Rattle.model_base.specs.declared.shape.Shape.{Shape}
use Rattle.model_page.specs.declared.content.Content.{Content}
use Rattle.model_device.specs.{Disk}
use Rattle.model_store.specs.{IsFair}
use Rattle.model_parts.specs.Batch.{Fresh}
use Rattle.model_parts.specs.Stored.{IsOldOrNew, KeepsPage, ImageHolds, Keeps, IsUpTo, CrashKeeps}
use Rattle.model_page.proofs.Kept.{same_kept, kept-not_lost}

pub crash-keeps : (shape : Shape) (top was : ℕ → Content) (batch : List Fresh) (disk : Disk) (image : List ℕ) → Keeps shape (IsUpTo top) was batch disk → IsFair shape disk image → CrashKeeps shape top was batch image
crash-keeps shape top was batch disk image keeps fair =
    let holds : ImageHolds shape (IsUpTo top) was batch image = keeps.each image fair in
    record {
      long = omega (arith, keeps.long, fair.possible.same_length);
      pages = holds.pages;
      only = λ p content below kept. let page : KeepsPage shape was batch image p = holds.pages p below in
          subst (λ (c : Content). IsOldOrNew was batch p c) (same_kept shape image p page.content content page.kept kept) page.which;
      not_lost = λ p below lost. let page : KeepsPage shape was batch image p = holds.pages p below in kept-not_lost shape image p page.content page.kept lost;
      known = holds.known;
    }
