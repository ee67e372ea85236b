-- When a group may be applied to the pages of a store.
use Rattle.std.specs.Prelude.{ℕ, ◌≡◌, ◌≤◌, ◌<◌, ◌+◌, ◌-◌, ◌^◌, List, length}
use Rattle.std.specs.List.{AllByRecursion}
use Rattle.model_base.specs.declared.shape.Shape.{Shape}
use Rattle.model_base.specs.declared.limits.TheConstants.{USER_START}
use Rattle.model_log.specs.declared.rec.Rec.{Rec}
use Rattle.model_log.specs.declared.rec.Rec.TheVariants.{Num, Text, Init}

-- where a page's user bytes end: after them stand the checksum and the low half of the lsn
abbrev pub user_end : Shape → ℕ
user_end shape = shape.page_size - 8

-- so many bytes from the offset on are user bytes
pub record IsUserWrite (shape : Shape) (offset count : ℕ) : Type 0 where
  pub after_header : USER_START ≤ offset
  pub before_trailer : offset + count ≤ user_end shape

-- a page of the store
pub record IsPage (shape : Shape) (space page : ℕ) : Type 0 where
  pub own_space : space ≡ shape.space
  pub below : page < shape.pages

-- The record names a page of the store and writes user bytes; a number has room in its width. An Init has no write
-- to judge.
abbrev pub RecordFits : Shape → Rec → Type 0
RecordFits shape (Num width space page offset value) =
    IsPage shape space page × (value < 256 ^ width) × IsUserWrite shape offset width
RecordFits shape (Text space page offset bytes) = IsPage shape space page × IsUserWrite shape offset (length bytes)
RecordFits shape (Init space page) = IsPage shape space page

-- each of its records does
abbrev pub GroupFits : Shape → List Rec → Type 0
GroupFits shape group = AllByRecursion (RecordFits shape) group
