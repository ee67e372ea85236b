-- A printed operation is read as that operation.
use Rattle.std.proofs.Common.{ℕ, ◌≡◌, ◌+◌, ◌^◌, ◌<◌, ◌≤◌, inl, inr, false, List, [], ◌∷◌, codes, map, length, get_or, Some, refl, ap, ◌∙◌, arith}
use Rattle.std.specs.List.{All, AllByRecursion}
use Rattle.std.specs.Fmt.{decimal}
use Rattle.std.specs.Str.{bytes_eq}
use Rattle.std.proofs.lemmas.Bool.{cases_lt, ne_eqb}
use Rattle.std.proofs.lemmas.Fmt.{decimal_digit}
use Rattle.std.proofs.lemmas.List.{get_or_past}
use Rattle.hex.specs.Hex.{IsBytes, encode_lower, lower_digits}
use Rattle.hex.proofs.HexLemmas.{decode_of-encode_lower, length-encode_with}
use Rattle.model_log.specs.{IsByte, IsWidth}
use Rattle.model_script.specs.{hex_bytes, IsInRange, item_of, item_text, item_words, items_of, number_name, width_of, words_of}
use Rattle.model_script.specs.declared.item.Item.{Item}
use Rattle.model_script.specs.declared.item.Item.TheVariants.{Num, Text, Init}
use Rattle.redo_script.proofs.Joining.{slice_split-joined}
use Rattle.redo_script.proofs.PlainBytes.{IsApart, IsPlain, apart_below, lacks_plain, plain_decimal, plain_hex, plain_init_name, plain_number_name, plain_string_name}
use Rattle.redo_script.proofs.PrintedNumbers.{number_below-decimal}
use Rattle.redo_script.specs.Cut.{Lacks}

bytes_are : (bytes : List ℕ) → All IsByte bytes → IsBytes bytes
bytes_are bytes are i = elim (cases_lt i (length bytes)) [
  | inl here ↦ are i 0 here
  | inr past ↦ let none : get_or bytes i 0 ≡ 0 = get_or_past bytes i 0 past in rw none (omega arith)
]

number_fits : (width value : ℕ) → IsWidth width → value < 256 ^ width → value < 2 ^ 64
number_fits width value (inl is) below = let small : value < 256 ^ 1 = rw is at below in omega (arith, small)
number_fits width value (inr (inl is)) below = let small : value < 256 ^ 2 = rw is at below in omega (arith, small)
number_fits width value (inr (inr (inl is))) below = let small : value < 256 ^ 4 = rw is at below in omega (arith, small)
number_fits width value (inr (inr (inr is))) below = let small : value < 256 ^ 8 = rw is at below in omega (arith, small)

width_fits : (width : ℕ) → IsWidth width → width < 2 ^ 64
width_fits width is = grind arith

-- the words of an operation have no byte that parts them
pub plain_words : (item : Item) → IsInRange item → AllByRecursion (All IsPlain) (item_words item)
plain_words (Num width page offset value) is = (
  plain_number_name width (width_fits width is.0),
  (
    plain_decimal page (omega (arith, is.1)),
    (plain_decimal offset (omega (arith, is.2)), (plain_decimal value (number_fits width value is.0 is.3), tt)),
  ),
)
plain_words (Text page offset bytes) is = (
  plain_string_name,
  (
    plain_decimal page (omega (arith, is.0)),
    (plain_decimal offset (omega (arith, is.1)), (plain_hex bytes (bytes_are bytes is.3), tt)),
  ),
)
plain_words (Init page) is = (plain_init_name, (plain_decimal page (omega (arith, is)), tt))

pub lacks_words : (apart : ℕ) (words : List (List ℕ)) → IsApart apart → AllByRecursion (All IsPlain) words
    → AllByRecursion (Lacks apart) words
lacks_words apart [] is plain = tt
lacks_words apart (word ∷ words) is plain = (lacks_plain apart word is plain.0, lacks_words apart words is plain.1)

-- the width that a name was made of
name_of_width : (width : ℕ) → width < 10 → number_name width ≡ 98 ∷ (48 + width) ∷ []
name_of_width width below = ap (λ digits. 98 ∷ digits) (decimal_digit width below)

record IsNumberName (width : ℕ) (name : List ℕ) : Type 0 where
  no_string : bytes_eq name (codes "s") ≡ false
  read : width_of name ≡ Some width

number_name_read : (width : ℕ) → IsWidth width → IsNumberName width (number_name width)
number_name_read width (inl is) = rw (is, name_of_width 1 (omega arith)) (record { no_string = refl; read = refl })
number_name_read width (inr (inl is)) = rw (is, name_of_width 2 (omega arith)) (record { no_string = refl; read = refl })
number_name_read width (inr (inr (inl is))) = rw (is, name_of_width 4 (omega arith)) (record { no_string = refl; read = refl })
number_name_read width (inr (inr (inr is))) = rw (is, name_of_width 8 (omega arith)) (record { no_string = refl; read = refl })

hex_bytes-encode_lower : (bytes : List ℕ) → 1 ≤ length bytes → IsBytes bytes
    → hex_bytes (encode_lower bytes) ≡ Some bytes
unfolding hex_bytes
hex_bytes-encode_lower bytes some are =
    let long = length-encode_with lower_digits bytes in
    rw (ne_eqb (length (encode_lower bytes)) 0 (λ none. omega (arith, long)), decode_of-encode_lower bytes are) refl

pub item_of-words : (item : Item) → IsInRange item → item_of (item_words item) ≡ Some item
unfolding item_of
item_of-words (Num width page offset value) is =
    let name = number_name_read width is.0 in
    rw (
      name.no_string,
      name.read,
      number_below-decimal (2 ^ 32) page is.1 (omega (arith, is.1)),
      number_below-decimal (2 ^ 16) offset is.2 (omega (arith, is.2)),
      number_below-decimal (256 ^ width) value is.3 (number_fits width value is.0 is.3),
    ) refl
item_of-words (Text page offset bytes) is =
    rw (
      number_below-decimal (2 ^ 32) page is.0 (omega (arith, is.0)),
      number_below-decimal (2 ^ 16) offset is.1 (omega (arith, is.1)),
      hex_bytes-encode_lower bytes is.2 (bytes_are bytes is.3),
    ) refl
item_of-words (Init page) is = rw (number_below-decimal (2 ^ 32) page is (omega (arith, is))) refl

words_of-item_text : (item : Item) → IsInRange item → words_of (item_text item) ≡ item_words item
unfolding item_text
words_of-item_text (Num width page offset value) is =
    let item = Num width page offset value in
    let lack = lacks_words 32 (item_words item) (apart_below 32 (omega arith)) (plain_words item is) in
    slice_split-joined 32 (number_name width) (decimal page ∷ decimal offset ∷ decimal value ∷ []) lack.0 lack.1
words_of-item_text (Text page offset bytes) is =
    let item = Text page offset bytes in
    let lack = lacks_words 32 (item_words item) (apart_below 32 (omega arith)) (plain_words item is) in
    slice_split-joined 32 (codes "s") (decimal page ∷ decimal offset ∷ encode_lower bytes ∷ []) lack.0 lack.1
words_of-item_text (Init page) is =
    let lack = lacks_words 32 (item_words (Init page)) (apart_below 32 (omega arith)) (plain_words (Init page) is) in
    slice_split-joined 32 (codes "i") (decimal page ∷ []) lack.0 lack.1

pub items_of-texts : (items : List Item) → AllByRecursion IsInRange items → items_of (map item_text items) ≡ Some items
items_of-texts [] are = refl
items_of-texts (item ∷ items) are =
    rw (words_of-item_text item are.0, item_of-words item are.0, items_of-texts items are.1) refl

pub item_of-item_text : (item : Item) → IsInRange item → item_of (words_of (item_text item)) ≡ Some item
item_of-item_text item is = ap item_of (words_of-item_text item is) ∙ item_of-words item is
