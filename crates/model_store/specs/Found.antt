-- Where the blocks stand that the scan of a log took: in their places, but the last of them may stand in a tail block. And the
-- pages of a store as they are read.
use Rattle.std.specs.Prelude.{ℕ, suc, ◌≡◌, ◌≢◌, ◌<◌, List, length, Option, Some, None, slice_get}
use Rattle.model_log.specs.{header_block, IsTailPlace, log_block, lsn_at}
use Rattle.model_log.specs.declared.block.BlockView.{BlockView}
use Rattle.model_log.specs.declared.head.Format.TheVariants.{One}
use Rattle.model_log.specs.declared.layout.Layout.{Layout}
use Rattle.model_store.specs.Scan.{taken_from, read_full, read_tail, taken, IsReadPage}
use Rattle.model_store.specs.declared.tail.Tail.{Tail}
use Rattle.model_base.specs.declared.shape.Shape.{Shape}
use Rattle.model_log.specs.declared.group.Whole.{Whole}
use Rattle.model_page.specs.declared.content.Content.{Content}

-- full blocks stand in their places from the checkpoint on, so many
abbrev pub AreInPlace : Layout → List ℕ → ℕ → ℕ → Type 0
AreInPlace layout image ckpt n =
    (i : ℕ) → i < n → (view : BlockView) × (read_full (lsn_at ckpt i) (log_block layout (lsn_at ckpt i) image) ≡ Some view)

-- the last of the blocks that the scan took stands in the tail block, and the others in their places
pub record IsInTail (layout : Layout) (image : List ℕ) (ckpt : ℕ) (views : List BlockView) (tail : Tail) : Type 0 where
  pub format : layout.format ≢ One
  pub place : IsTailPlace tail.which
  pub last : ℕ
  pub is_last : suc last ≡ length views
  pub lsn_is : tail.lsn ≡ lsn_at ckpt last
  pub before : AreInPlace layout image ckpt last
  pub unread : read_full tail.lsn (log_block layout tail.lsn image) ≡ None
  pub view : BlockView
  pub fits : read_tail tail.lsn (header_block tail.which image) ≡ Some view
  pub is_taken : taken layout image tail.lsn ≡ taken_from (header_block tail.which image) (Some view)

-- where the blocks stand that the scan took
abbrev pub AreFoundIn : Layout → List ℕ → ℕ → List BlockView → Option Tail → Type 0
AreFoundIn layout image ckpt views None = layout.format ≢ One → AreInPlace layout image ckpt (length views)
AreFoundIn layout image ckpt views (Some tail) = IsInTail layout image ckpt views tail

-- the block is that tail block
abbrev pub IsTakenTail : Option Tail → ℕ → Type 0
IsTakenTail None k = ⊥
IsTakenTail (Some tail) k = k ≡ tail.which

-- the pages of a store as they are read
pub record AreReadPages (shape : Shape) (data_bytes : List ℕ) (wholes : List Whole) (end : ℕ) (pages : List Content) : Type 0 where
  pub count : length pages ≡ shape.pages
  pub each : (p : ℕ) (page : Content) → slice_get pages p ≡ Some page → IsReadPage shape data_bytes wholes end p page
