-- The blocks of a log that were read from a checkpoint on.
use Rattle.std.specs.Prelude.{ℕ, ◌≡◌, ◌≢◌, ◌≤◌, ◌<◌, ◌*◌, List, length, slice_get, Some}
use Rattle.model_log.specs.declared.layout.TheConstants.{BLOCK_HEADER, BLOCK_DATA, BLOCK_DATA_END}
use Rattle.model_log.specs.declared.block.BlockView.{BlockView}
use Rattle.model_store.specs.{AreBlocks, joined, Source}

-- these are the blocks of a source from the checkpoint on, and their data joined
pub record AreBlocksOf (most ckpt : ℕ) (views : List BlockView) (bytes : List ℕ) (source : Source) : Type 0 where
  pub views_are : AreBlocks most source ckpt views
  pub bytes_are : bytes ≡ joined source ckpt views

-- the first offset, where there is one, is that of a data byte
abbrev pub HasFirst : BlockView → Type 0
HasFirst view = view.first ≢ 0 → (BLOCK_HEADER ≤ view.first) × (view.first < BLOCK_DATA_END)

-- there are at most so many blocks, no more data than they have room for, and the first offset of each is within it
pub record AreBounded (most : ℕ) (views : List BlockView) (bytes : List ℕ) : Type 0 where
  pub few : length views ≤ most
  pub short : length bytes ≤ BLOCK_DATA * length views
  pub firsts : (i : ℕ) (view : BlockView) → slice_get views i ≡ Some view → HasFirst view
