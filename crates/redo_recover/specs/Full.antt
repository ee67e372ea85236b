-- Full blocks of a log, one after another.
use Rattle.std.specs.Prelude.{ℕ, ◌≡◌, ◌≢◌, true, List, length, slice_get, Some}
use Rattle.model_log.specs.{is_full, lsn_at}
use Rattle.model_log.specs.declared.block.BlockView.{BlockView}
use Rattle.model_log.specs.declared.head.Format.TheVariants.{One}
use Rattle.model_log.specs.declared.layout.Layout.{Layout}
use Rattle.model_store.specs.{AreInPlace, joined, Source, taken, view_at}
use Rattle.redo_recover.specs.Blocks.{AreBounded}
use Rattle.redo_recover.specs.Piece.{IsPieceOf}
use Rattle.redo_recover.specs.Taking.{AreTailsOf}
use Rattle.redo_recover.specs.declared.full.FullBlocks.{FullBlocks}
use Rattle.redo_recover.specs.declared.piece.Piece.{Piece}

-- so many blocks are read, all of them full, and this is their data
pub record AreBlocksSoFar (ckpt : ℕ) (views : List BlockView) (bytes : List ℕ) (count : ℕ) (source : Source) : Type 0 where
  pub many : length views ≡ count
  pub each : (i : ℕ) (view : BlockView) → slice_get views i ≡ Some view → view_at source (lsn_at ckpt i) ≡ Some view
  pub full : (i : ℕ) (view : BlockView) → slice_get views i ≡ Some view → is_full view ≡ true
  pub bytes_are : bytes ≡ joined source ckpt views

-- in formats 2 and 3 so many blocks stand in their places
abbrev pub AreStanding : Layout → ℕ → ℕ → List ℕ → Type 0
AreStanding layout ckpt count image = layout.format ≢ One → AreInPlace layout image ckpt count

-- the blocks are those of the log's content, and in formats 2 and 3 stand in their places
pub record AreFullIn (layout : Layout) (full : FullBlocks) (image : List ℕ) : Type 0 where
  pub so_far : AreBlocksSoFar full.lsn full.views.items full.joined.items (length full.views.items) (taken layout image)
  pub standing : AreStanding layout full.lsn (length full.views.items) image

-- what is known of them whatever the device tells
abbrev pub HasBounds : FullBlocks → Type 0
HasBounds full = AreBounded (length full.views.items) full.views.items full.joined.items

-- they were taken out of a piece of the log device and the tail blocks
pub record AreFullOf (layout : Layout) (piece : Piece) (tails : List ℕ) (full : FullBlocks) : Type 0 where
  pub bounds : HasBounds full
  pub in_log : (image : List ℕ) → IsPieceOf piece image → AreTailsOf layout.format tails image → AreFullIn layout full image
