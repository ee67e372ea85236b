-- The rows of the table of spellings. In a row each spelling, read as a number, is one more than the one before it.
use Rattle.std.specs.Prelude.{ℕ, ◌≡◌, ◌≢◌, ◌≤◌, ◌<◌, ◌+◌, ◌-◌, ◌^◌, List, slice_index}
use Rattle.std.specs.Int.{bytes_high_first}
use Rattle.model_base.specs.declared.table.Row.{Row}
use Rattle.model_base.specs.Spelling.{spelling32}

-- the spelling of a number of the row
abbrev pub spelling_in : Row → ℕ → List ℕ
spelling_in row n = bytes_high_first row.length (row.text + (n - row.first))

-- the bytes spell this number of the row
pub record SpellsIn (row : Row) (bytes : List ℕ) (n : ℕ) : Type 0 where
  pub low : row.first ≤ n
  pub high : n ≤ row.last
  pub spelled : bytes ≡ spelling_in row n

-- the row is one of the table
pub record IsRow (row : Row) : Type 0 where
  pub some_bytes : 1 ≤ row.length
  pub few_bytes : row.length ≤ 5
  pub ordered : row.first ≤ row.last
  pub small : row.last < 2 ^ 32
  pub fits : row.text + (row.last - row.first) < 256 ^ row.length
  pub spelled : (n : ℕ) → row.first ≤ n → n ≤ row.last → spelling32 n ≡ spelling_in row n

-- the number is one of this row of the table
pub record IsRowOf (n : ℕ) (row : Row) : Type 0 where
  pub is_row : IsRow row
  pub low : row.first ≤ n
  pub high : n ≤ row.last

-- every number whose spelling begins with the byte is one of this row of the table
pub record HasAllFrom (byte : ℕ) (row : Row) : Type 0 where
  pub is_row : IsRow row
  pub low : (n : ℕ) → n < 2 ^ 32 → slice_index (spelling32 n) 0 ≡ byte → row.first ≤ n
  pub high : (n : ℕ) → n < 2 ^ 32 → slice_index (spelling32 n) 0 ≡ byte → n ≤ row.last

-- no spelling begins with the byte
abbrev pub BeginsNone : ℕ → Type 0
BeginsNone byte = (n : ℕ) → n < 2 ^ 32 → slice_index (spelling32 n) 0 ≢ byte
