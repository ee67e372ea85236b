-- The texts of a record's parts.
use Rattle.std.specs.Prelude.{ℕ, ◌≡◌, ◌≤◌, ◌<◌, ◌+◌, ◌^◌, List, ◌∷◌, ◌++◌, length, All}
use Rattle.std.specs.Int.{bytes_high_first}
use Rattle.model_base.specs.{spelling32}
use Rattle.model_log.specs.declared.place.Place.{Place}
use Rattle.model_log.specs.declared.place.Spot.{Spot}
use Rattle.model_log.specs.declared.rec.Rec.{Rec}
use Rattle.model_log.specs.Group.{type_of, after_type, value_text, HasText, HasSpelling, IsByte}

-- a number in two bytes
pub record IsShort (text : List ℕ) (number : ℕ) : Type 0 where
  pub small : number < 2 ^ 16
  pub spelled : text ≡ bytes_high_first 2 number

-- the length of a string in two bytes; there is no empty string
pub record IsLength (text : List ℕ) (number : ℕ) : Type 0 where
  pub some : 1 ≤ number
  pub short : IsShort text number

-- the string itself, of so many bytes
pub record IsBody (number : ℕ) (text string : List ℕ) : Type 0 where
  pub long : length string ≡ number
  pub each : All IsByte string
  pub spelled : text ≡ string

-- a value that is written in so many bytes
pub record IsValue (width : ℕ) (text : List ℕ) (value : ℕ) : Type 0 where
  pub has_spelling : HasSpelling width value
  pub spelled : text ≡ value_text width value

-- a string after its length
pub record IsString (text string : List ℕ) : Type 0 where
  pub some : 1 ≤ length string
  pub short : length string < 2 ^ 16
  pub each : All IsByte string
  pub spelled : text ≡ bytes_high_first 2 (length string) ++ string

-- a space id and a page number
pub record IsPlace (text : List ℕ) (place : Place) : Type 0 where
  pub space : place.space < 2 ^ 32
  pub page : place.page < 2 ^ 32
  pub spelled : text ≡ spelling32 place.space ++ spelling32 place.page

-- a page and an offset in it
pub record IsSpot (text : List ℕ) (spot : Spot) : Type 0 where
  pub space : spot.place.space < 2 ^ 32
  pub page : spot.place.page < 2 ^ 32
  pub offset : spot.offset < 2 ^ 16
  pub spelled : text ≡ spelling32 spot.place.space ++ spelling32 spot.place.page ++ bytes_high_first 2 spot.offset

-- what follows the type byte of a record of this type
pub record IsAfterType (kind : ℕ) (text : List ℕ) (rec : Rec) : Type 0 where
  pub has_type : type_of rec ≡ kind
  pub has_text : HasText rec
  pub spelled : text ≡ after_type rec

-- a whole record, with this flag in its type
pub record IsRecord (flag : ℕ) (text : List ℕ) (rec : Rec) : Type 0 where
  pub has_text : HasText rec
  pub spelled : text ≡ (flag + type_of rec) ∷ after_type rec
