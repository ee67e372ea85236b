-- The log device while a store is opened: every log block outside a kept range is cleared away, so that none of them can
-- fit later by its number, and those go that hold only an unfinished group.
use Rattle.std.specs.Prelude.{ℕ, ◌≡◌, ◌≢◌, ◌≤◌, ◌<◌, ◌⊎◌, List, Option, Some, None}
use Rattle.model_log.specs.{block_of, IsInRound, IsTailPlace, sector_of}
use Rattle.model_log.specs.declared.head.Format.TheVariants.{One}
use Rattle.model_log.specs.declared.layout.Layout.{Layout}
use Rattle.model_store.specs.{IsTakenTail}
use Rattle.model_store.specs.declared.tail.Tail.{Tail}
use Rattle.model_parts.specs.Changes.{IsErased, IsErasing}

-- the kept range: from the checkpoint's block to the block before that of the lsn at which the run will start
pub record IsInKeptRange (layout : Layout) (ckpt start b : ℕ) : Type 0 where
  pub in_round : IsInRound layout ckpt b
  pub before : b < block_of start

-- the other log blocks
pub record IsOutside (layout : Layout) (ckpt start b : ℕ) : Type 0 where
  pub in_round : IsInRound layout ckpt b
  pub from : block_of start ≤ b

-- what is cleared first: each tail block but the one that was taken
pub record IsStaleTail (layout : Layout) (tail : Option Tail) (k : ℕ) : Type 0 where
  pub format : layout.format ≢ One
  pub place : IsTailPlace k
  pub not_taken : IsTakenTail tail k → ⊥

-- the place in the ring of the block that was taken from a tail block, and that tail block, where its block isn't kept
abbrev pub IsOfTail : Layout → ℕ → Option Tail → ℕ → Type 0
IsOfTail layout start None k = ⊥
IsOfTail layout start (Some tail) k =
    (k ≡ sector_of layout tail.lsn) ⊎ ((k ≡ tail.which) × (block_of start ≤ tail.lsn))

-- what is cleared then: these, and the places of the blocks outside the kept range
abbrev pub IsPastKept : Layout → ℕ → ℕ → Option Tail → ℕ → Type 0
IsPastKept layout ckpt start tail k =
    ((b : ℕ) × IsOutside layout ckpt start b × (k ≡ sector_of layout b)) ⊎ IsOfTail layout start tail k

-- an image while the log is cleared, in either stage
abbrev pub IsClearing : Layout → ℕ → ℕ → Option Tail → List ℕ → List ℕ → Type 0
IsClearing layout ckpt start tail old new =
    IsErasing (IsStaleTail layout tail) old new
    ⊎ ((middle : List ℕ) × IsErased (IsStaleTail layout tail) old middle × IsErasing (IsPastKept layout ckpt start tail) middle new)

-- and once it is
pub record IsCleared (layout : Layout) (ckpt start : ℕ) (tail : Option Tail) (old new : List ℕ) : Type 0 where
  pub middle : List ℕ
  pub first : IsErased (IsStaleTail layout tail) old middle
  pub then : IsErased (IsPastKept layout ckpt start tail) middle new
