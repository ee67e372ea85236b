-- What the bytes at hand say of a number that begins with them.
use Rattle.std.proofs.Common.{◌≡◌, ◌≢◌, ℕ, zero, suc, ◌+◌, ◌-◌, ◌*◌, ◌%◌, ◌^◌, ◌<◌, ◌≤◌, ◌⊎◌, List, [], ◌∷◌, ◌++◌, length, take, min, refl, sym, ap, ◌∙◌, arith, length-append, slice_index, lt-ltb}
use Rattle.std.proofs.Math.Nat.{mul-le-mul_right}
use Rattle.std.proofs.lemmas.List.{append-nil, take_all, length-take-le}
use Rattle.std.proofs.lemmas.Nat.{pow-add}
use Rattle.std.specs.Int.{bytes_high_first}
use Rattle.model_base.specs.declared.got.Got.{Got}
use Rattle.model_base.specs.declared.got.Got.TheVariants.{Value, Short, Bad}
use Rattle.model_base.specs.declared.table.Row.{Row}
use Rattle.model_base.specs.{BeginsNone, BeginsWith, Gives, HasAllFrom, IsFrontOf, IsRow, spelling32, Spells32, SpellsIn}
use Rattle.model_base.proofs.ByteLemmas.{AreBytes, AreBytes-of_number, AreBytes-back, AreBytes-take, bytes-number, bytes-parts, length-bytes_high_first, number_onto, number-append, number-bytes, number-lt, pow256_le, pow256_pos}
use Rattle.model_base.proofs.SpellingLemmas.{length-spelling_in, length-spelling32, slice_index-append}

-- The numbers of so many bytes that begin with the bytes at hand meet those of the row.
pub record Meets (row : Row) (front rest : List ℕ) : Type 0 where
  pub len : length front + length rest ≡ row.length
  pub above : number_onto 0 front * 256 ^ length rest ≤ row.text + (row.last - row.first)
  pub below : row.text < number_onto 0 front * 256 ^ length rest + 256 ^ length rest

pub meets : (row : Row) → IsRow row → (front rest : List ℕ) (n : ℕ) → SpellsIn row (front ++ rest) n → Meets row front rest
meets row is_row front rest n spells =
    let text = row.text + (n - row.first) in
    let low = spells.low in
    let high = spells.high in
    let fits = is_row.fits in
    let all : AreBytes (front ++ rest) = rw spells.spelled (AreBytes-of_number row.length text) in
    let number : number_onto 0 (front ++ rest) ≡ text = ap (number_onto 0) spells.spelled ∙ number-bytes row.length text (omega arith) in
    let parts = number-append front rest in
    let last = number-lt rest (AreBytes-back front rest all) in
    record {
      len = sym (length-append front rest) ∙ ap length spells.spelled ∙ length-spelling_in row n;
      above = omega arith;
      below = omega arith;
    }

-- as many of the bytes as a spelling of the row has
abbrev pub given : Row → List ℕ → ℕ
given row bytes = min (length bytes) row.length

-- how many texts begin with these bytes
abbrev pub following : Row → List ℕ → ℕ
following row bytes = 256 ^ (row.length - given row bytes)

-- the lowest number of the row's length that begins with these bytes
abbrev pub lowest : Row → List ℕ → ℕ
lowest row bytes = number_onto 0 (take (given row bytes) bytes) * following row bytes

-- where there are bytes enough, one text begins with them
pub following_whole : (row : Row) (bytes : List ℕ) → row.length ≤ length bytes → following row bytes ≡ 1
following_whole row bytes long =
    let whole : given row bytes ≡ row.length = omega arith in
    let none : row.length - row.length ≡ 0 = omega arith in
    rw (whole, none) refl

pub lowest_whole : (row : Row) (bytes : List ℕ) → row.length ≤ length bytes → lowest row bytes ≡ number_onto 0 (take row.length bytes)
lowest_whole row bytes long =
    let whole : given row bytes ≡ row.length = omega arith in
    let one = following_whole row bytes long in
    let low : lowest row bytes ≡ number_onto 0 (take row.length bytes) * 1 = rw (one, whole) refl in
    omega arith

-- where the bytes are cut off, all of them are given
pub following_cut : (row : Row) (bytes : List ℕ) → length bytes < row.length → following row bytes ≡ 256 ^ (row.length - length bytes)
following_cut row bytes short =
    let all : given row bytes ≡ length bytes = omega arith in
    rw all refl

pub lowest_cut : (row : Row) (bytes : List ℕ) → length bytes < row.length
    → lowest row bytes ≡ number_onto 0 bytes * 256 ^ (row.length - length bytes)
lowest_cut row bytes short =
    let all : given row bytes ≡ length bytes = omega arith in
    rw (all, take_all (length bytes) bytes (omega arith)) refl

not_begun : (row : Row) → IsRow row → (bytes : List ℕ)
    → (lowest row bytes + following row bytes ≤ row.text) ⊎ (row.text + (row.last - row.first) < lowest row bytes)
    → (n len : ℕ) → BeginsWith (SpellsIn row) bytes n len → ⊥
not_begun row is_row bytes apart n len begins =
    let front = take len bytes in
    let spells : SpellsIn row (front ++ []) n = rw (append-nil front) begins.1 in
    let meet = meets row is_row front [] n spells in
    let size : length front ≡ len = length-take-le len bytes begins.0 in
    let within = begins.0 in
    let same : len ≡ row.length = omega (arith, meet.len) in
    let whole : given row bytes ≡ len = omega arith in
    let one : following row bytes ≡ 1 = rw whole (let none : row.length - len ≡ 0 = omega arith in rw none refl) in
    let low : lowest row bytes ≡ number_onto 0 front * 1 = rw (one, whole) refl in
    let above = meet.above in
    let below = meet.below in
    grind arith

not_unfinished : (row : Row) → IsRow row → (bytes : List ℕ)
    → (lowest row bytes + following row bytes ≤ row.text) ⊎ (row.text + (row.last - row.first) < lowest row bytes)
    → IsFrontOf (SpellsIn row) bytes → ⊥
not_unfinished row is_row bytes apart unfinished =
    let rest = unfinished.0 in
    let n = unfinished.1 in
    let meet = meets row is_row bytes rest n unfinished.3 in
    let len = meet.len in
    let whole : given row bytes ≡ length bytes = omega arith in
    let missing : row.length - length bytes ≡ length rest = omega arith in
    let unit : following row bytes ≡ 256 ^ length rest = rw (whole, missing) refl in
    let low : lowest row bytes ≡ number_onto 0 bytes * 256 ^ length rest = rw (unit, whole, take_all (length bytes) bytes (omega arith)) refl in
    let above = meet.above in
    let below = meet.below in
    grind arith

pub row_bad : (row : Row) → IsRow row → (bytes : List ℕ)
    → (lowest row bytes + following row bytes ≤ row.text) ⊎ (row.text + (row.last - row.first) < lowest row bytes)
    → Gives (SpellsIn row) bytes Bad
row_bad row is_row bytes apart = (not_begun row is_row bytes apart, not_unfinished row is_row bytes apart)

pub not_nil : (xs : List ℕ) → 0 < length xs → xs ≢ []
not_nil xs some is = let none = ap length is in omega arith

-- so many bytes with these after them are a spelling
spells_on : (row : Row) → IsRow row → (bytes : List ℕ) → AreBytes bytes → (missing text rest : ℕ) → length bytes + missing ≡ row.length
    → rest < 256 ^ missing → text ≡ number_onto 0 bytes * 256 ^ missing + rest → row.text ≤ text → text ≤ row.text + (row.last - row.first)
    → SpellsIn row (bytes ++ bytes_high_first missing rest) (row.first + (text - row.text))
spells_on row is_row bytes all missing text rest len small is above below =
    let ordered = is_row.ordered in
    let number : row.text + ((row.first + (text - row.text)) - row.first) ≡ number_onto 0 bytes * 256 ^ missing + rest = omega arith in
    let parts = bytes-parts (length bytes) missing (number_onto 0 bytes) rest (number-lt bytes all) small in
    record {
      low = omega arith;
      high = omega arith;
      spelled = rw (number, sym len, parts, bytes-number bytes all) refl;
    }

pub row_short : (row : Row) → IsRow row → (bytes : List ℕ) → AreBytes bytes → length bytes < row.length
    → row.text < lowest row bytes + following row bytes → lowest row bytes ≤ row.text + (row.last - row.first)
    → Gives (SpellsIn row) bytes Short
row_short row is_row bytes all short above below =
    let missing = row.length - length bytes in
    let whole : given row bytes ≡ length bytes = omega arith in
    let unit : following row bytes ≡ 256 ^ missing = rw whole refl in
    let low : lowest row bytes ≡ number_onto 0 bytes * 256 ^ missing = rw (whole, take_all (length bytes) bytes (omega arith)) refl in
    let some = pow256_pos missing in
    let left = row.text - number_onto 0 bytes * 256 ^ missing in
    let text = number_onto 0 bytes * 256 ^ missing + left in
    let behind = bytes_high_first missing left in
    let size = length-bytes_high_first missing left in (
      behind,
      row.first + (text - row.text),
      not_nil behind (omega arith),
      spells_on row is_row bytes all missing text left (omega arith) (omega arith) refl (omega arith) (omega arith),
    )

pub row_value : (row : Row) → IsRow row → (bytes : List ℕ) → AreBytes (take row.length bytes) → row.length ≤ length bytes
    → row.text < lowest row bytes + following row bytes → lowest row bytes ≤ row.text + (row.last - row.first)
    → Gives (SpellsIn row) bytes (Value (row.first + (lowest row bytes - row.text)) row.length)
row_value row is_row bytes all long above below =
    let front = take row.length bytes in
    let whole : given row bytes ≡ row.length = omega arith in
    let none : row.length - row.length ≡ 0 = omega arith in
    let low : lowest row bytes ≡ number_onto 0 front * 256 ^ 0 + 0 = rw (whole, none) (omega arith) in
    let one : following row bytes ≡ 256 ^ 0 = rw (whole, none) refl in
    let size : length front ≡ row.length = length-take-le row.length bytes long in
    let spells = spells_on row is_row front all 0 (lowest row bytes) 0 (omega arith) (omega arith) low (omega arith) below in
    (long, rw (append-nil front) at spells)

from_row : (row : Row) → IsRow row → (bytes : List ℕ) (n : ℕ) → SpellsIn row bytes n → Spells32 bytes n
from_row row is_row bytes n spells = record {
  small = let high = spells.high in let last = is_row.small in omega arith;
  spelled = spells.spelled ∙ sym (is_row.spelled n spells.low spells.high);
}

to_row : (byte : ℕ) (row : Row) → HasAllFrom byte row → (bytes : List ℕ) (n : ℕ) → slice_index bytes 0 ≡ byte → Spells32 bytes n → SpellsIn row bytes n
to_row byte row has bytes n first spells =
    let head : slice_index (spelling32 n) 0 ≡ byte = ap (λ (s : List ℕ). slice_index s 0) (sym spells.spelled) ∙ first in
    let is_row : IsRow row = has.is_row in
    let low = has.low n spells.small head in
    let high = has.high n spells.small head in
    record { low = low; high = high; spelled = spells.spelled ∙ is_row.spelled n low high }

-- some bytes that are a spelling are not none
some_bytes : (bytes : List ℕ) (n : ℕ) → Spells32 bytes n → 1 ≤ length bytes
some_bytes bytes n spells =
    let len = length-spelling32 n spells.small in
    let same = ap length spells.spelled in
    omega (arith, len.0)

slice_index-take : (len : ℕ) (bytes : List ℕ) → 1 ≤ length (take len bytes) → slice_index (take len bytes) 0 ≡ slice_index bytes 0
slice_index-take zero bytes some = absurd (omega arith)
slice_index-take (suc len) [] some = refl
slice_index-take (suc len) (x ∷ bytes) some = refl

-- a number that the row at the first byte gives is what the table gives
pub read_row : (byte : ℕ) (row : Row) → HasAllFrom byte row → (bytes : List ℕ) → 1 ≤ length bytes → slice_index bytes 0 ≡ byte
    → (got : Got ℕ) → Gives (SpellsIn row) bytes got → Gives Spells32 bytes got
read_row byte row has bytes some first (Value n len) gives =
    (gives.0, from_row row has.is_row (take len bytes) n gives.1)
read_row byte row has bytes some first Short gives =
    (gives.0, gives.1, gives.2, from_row row has.is_row (bytes ++ gives.0) gives.1 gives.3)
read_row byte row has bytes some first Bad gives = (
  λ n len begins.
      let spells = begins.1 in
      let head = slice_index-take len bytes (some_bytes (take len bytes) n spells) ∙ first in
      gives.0 n len (begins.0, to_row byte row has (take len bytes) n head spells),
  λ unfinished.
      let head = slice_index-append bytes unfinished.0 some ∙ first in
      gives.1 (unfinished.0, unfinished.1, unfinished.2, to_row byte row has (bytes ++ unfinished.0) unfinished.1 head unfinished.3),
)

pub read_none : (byte : ℕ) → BeginsNone byte → (bytes : List ℕ) → 1 ≤ length bytes → slice_index bytes 0 ≡ byte → Gives Spells32 bytes Bad
read_none byte none bytes some first = (
  λ n len begins.
      let spells = begins.1 in
      let head = slice_index-take len bytes (some_bytes (take len bytes) n spells) ∙ first in
      none n spells.small (ap (λ (s : List ℕ). slice_index s 0) (sym spells.spelled) ∙ head),
  λ unfinished.
      let spells = unfinished.3 in
      let head = slice_index-append bytes unfinished.0 some ∙ first in
      none unfinished.1 spells.small (ap (λ (s : List ℕ). slice_index s 0) (sym spells.spelled) ∙ head),
)

-- nothing at hand can become the spelling of 0
pub read_empty : Gives Spells32 [] Short
unfolding spelling32
read_empty = (0 ∷ [], 0, not_nil (0 ∷ []) (omega arith), record { small = omega arith; spelled = refl })

-- what is computed of a row fits a word
pub following_fits : (row : Row) → IsRow row → (bytes : List ℕ) → following row bytes ≤ 256 ^ 5
following_fits row is_row bytes = let few = is_row.few_bytes in pow256_le (row.length - given row bytes) 5 (omega arith)

pub lowest_fits : (row : Row) → IsRow row → (bytes : List ℕ) → AreBytes bytes → lowest row bytes + following row bytes ≤ 256 ^ 5
lowest_fits row is_row bytes all =
    let front = take (given row bytes) bytes in
    let missing = row.length - given row bytes in
    let below = number-lt front (AreBytes-take (given row bytes) bytes all) in
    let size : length front ≡ given row bytes = length-take-le (given row bytes) bytes (omega arith) in
    let unit = 256 ^ missing in
    let top : (number_onto 0 front + 1) * unit ≤ 256 ^ length front * unit = mul-le-mul_right unit (omega arith) in
    let whole : 256 ^ (length front + missing) ≡ 256 ^ length front * unit = pow-add 256 (length front) missing in
    let few = is_row.few_bytes in
    let most = pow256_le (length front + missing) 5 (omega arith) in
    omega arith

pub text_fits : (row : Row) → IsRow row → row.text + (row.last - row.first) < 256 ^ 5
text_fits row is_row =
    let few = is_row.few_bytes in
    let most = pow256_le row.length 5 few in
    let fits = is_row.fits in
    omega arith

-- a byte without a mark spells itself
pub read_one : (byte : ℕ) (bytes : List ℕ) → byte < 0x80 → 1 ≤ length bytes → slice_index bytes 0 ≡ byte → Gives Spells32 bytes (Value byte 1)
unfolding spelling32
read_one byte [] small some first = absurd (omega arith)
read_one byte (x ∷ bytes) small some first = (
  some,
  record { small = omega arith; spelled = let same : x ≡ byte = first in let low : byte % 256 ≡ byte = omega arith in rw (lt-ltb byte 0x80 small, same) (ap (λ (b : ℕ). b ∷ []) (sym low)) },
)
