-- What has room on a page, and that a slot holds the copy of a page that counts.
use Rattle.std.specs.Prelude.{ℕ, ◌<◌, ◌^◌, List, slice_index}
use Rattle.model_base.specs.declared.shape.Shape.{Shape}
use Rattle.model_page.specs.Page.{IsBestCopy}

-- the fields of a page fit their places, and the user bytes are bytes
pub record FitsPage (number space lsn : ℕ) (user : List ℕ) : Type 0 where
  pub small_number : number < 2 ^ 32
  pub small_space : space < 2 ^ 32
  pub small_lsn : lsn < 2 ^ 64
  pub bytes : (i : ℕ) → slice_index user i < 256

-- a slot holds the copy of the page that counts
pub record HasBestCopy (shape : Shape) (image : List ℕ) (page : ℕ) : Type 0 where
  pub slot : ℕ
  pub lsn : ℕ
  pub best : IsBestCopy shape image page slot lsn
