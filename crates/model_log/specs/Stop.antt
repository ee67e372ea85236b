-- Why 512 bytes are no block of an lsn; and where and why the reading of a log's blocks from a checkpoint on ends.
use Rattle.std.specs.Prelude.{ℕ, List, if◌then◌else◌, suc, ◌≡◌, ◌<◌, nat_lt, true, false, length, slice_get, Some}
use Rattle.model_log.specs.Block.{block_view, fits_checksum, fits_number, is_first, is_length, is_full, lsn_at}
use Rattle.model_log.specs.declared.fit.Fit.{Fit}
use Rattle.model_log.specs.declared.fit.Fit.TheVariants.{Whole, Number, Length, First, Checksum}
use Rattle.model_base.specs.declared.limits.TheConstants.{LSN_LIMIT}
use Rattle.model_log.specs.Device.{log_block}
use Rattle.model_log.specs.declared.block.BlockView.{BlockView}
use Rattle.model_log.specs.declared.cause.Cause.{Cause}
use Rattle.model_log.specs.declared.cause.Cause.TheVariants.{Partial, Round, End, Misfit}
use Rattle.model_log.specs.declared.layout.Layout.{Layout}

-- the first that doesn't fit: the number, the length, the first offset, the checksum
abbrev pub fit_of : ℕ → List ℕ → Fit
fit_of lsn bytes =
    if fits_number lsn bytes
    then (if is_length (block_view bytes).length
    then (if is_first (block_view bytes).length (block_view bytes).first
    then (if fits_checksum bytes then Whole else Checksum)
    else First)
    else Length)
    else Number

abbrev pub AreFull : List BlockView → Type 0
AreFull views = (i : ℕ) (view : BlockView) → slice_get views i ≡ Some view → is_full view ≡ true

-- the last of the blocks isn't full, and this is its lsn
pub record IsPart (ckpt : ℕ) (views : List BlockView) (lsn : ℕ) : Type 0 where
  pub last : ℕ
  pub view : BlockView
  pub at : slice_get views last ≡ Some view
  pub is_last : suc last ≡ length views
  pub part : is_full view ≡ false
  pub lsn_is : lsn ≡ lsn_at ckpt last

-- what of a block in its place doesn't fit; where all of it does and no block is read, it isn't full
abbrev pub misfit_of : Fit → Fit
misfit_of Whole = Length
misfit_of fit = fit

-- why the bytes in the place of the block of an lsn aren't read
abbrev pub cause_at : ℕ → List ℕ → Cause
cause_at lsn block = if nat_lt lsn LSN_LIMIT then Misfit (misfit_of (fit_of lsn block)) else End

-- the blocks are full and fewer than the ring has, and this is why what stands in the next one's place isn't read
pub record IsUnread (layout : Layout) (ckpt : ℕ) (views : List BlockView) (lsn : ℕ) (cause : Cause) (image : List ℕ) : Type 0 where
  pub full : AreFull views
  pub few : length views < layout.blocks
  pub lsn_is : lsn ≡ lsn_at ckpt (length views)
  pub cause_is : cause ≡ cause_at lsn (log_block layout lsn image)

-- the blocks are full and as many as the ring has
pub record IsRound (layout : Layout) (ckpt : ℕ) (views : List BlockView) (lsn : ℕ) : Type 0 where
  pub full : AreFull views
  pub all : length views ≡ layout.blocks
  pub lsn_is : lsn ≡ lsn_at ckpt (length views)

-- no block is read past these of the log's content, for this cause at this lsn
abbrev pub IsStop : Layout → ℕ → List BlockView → ℕ × Cause → List ℕ → Type 0
IsStop layout ckpt views (lsn, Partial) image = IsPart ckpt views lsn
IsStop layout ckpt views (lsn, Round) image = IsRound layout ckpt views lsn
IsStop layout ckpt views (lsn, cause) image = IsUnread layout ckpt views lsn cause image
