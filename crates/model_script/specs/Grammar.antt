-- The grammar of scripts, and how a line is printed. A line is `USER MODE OP;OP;..`, with single spaces in and between the
-- fields and no other spaces. MODE is f, w or n. OP is `b1|b2|b4|b8 PAGE OFFSET VALUE`, `s PAGE OFFSET HEX` or `i PAGE`. An
-- empty line and a line that begins with # are skipped but counted. In print numbers are in decimal without leading zeros,
-- strings in lower-case hex digits.
use Rattle.std.specs.Prelude.{ℕ, ◌+◌, ◌-◌, ◌*◌, ◌^◌, ◌==◌, ◌&&◌, nat_lt, nat_le, if◌then◌else◌, Bool, true, List, [], ◌∷◌, length, fold, codes, Option, Some, None, option_and_then, Result, Ok, Err, ◌++◌, map}
use Rattle.std.specs.List.{enumerate_from, slice_split, list_all, flat_map, join_with_byte}
use Rattle.std.specs.Char.{is_ascii_digit}
use Rattle.std.specs.Str.{bytes_eq}
use Rattle.std.specs.Result.{result_ok}
use Rattle.hex.specs.Hex.{decode_of, encode_lower}
use Rattle.model_base.specs.{lines_of}
use Rattle.model_script.specs.declared.item.Item.{Item}
use Rattle.model_script.specs.declared.item.Item.TheVariants.{Num, Text, Init}
use Rattle.model_script.specs.declared.script.ScriptLine.{ScriptLine}
use Rattle.std.specs.Fmt.{decimal}

-- the parts of a text between spaces, and between semicolons
abbrev pub words_of : List ℕ → List (List ℕ)
words_of text = slice_split (λ byte. byte == 32) text

abbrev pub operations_of : List ℕ → List (List ℕ)
operations_of text = slice_split (λ byte. byte == 59) text

abbrev pub digits_value : List ℕ → ℕ
digits_value digits = fold (λ value digit. 10 * value + (digit - 48)) 0 digits

-- A number has 1 to 20 decimal digits and no sign; zeros may lead it.
abbrev pub is_number : List ℕ → Bool
is_number text = nat_le 1 (length text) && (nat_le (length text) 20 && list_all is_ascii_digit text)

-- the number below the limit that the text is
unfoldable pub number_below : ℕ → List ℕ → Option ℕ
number_below limit text =
    if is_number text && nat_lt (digits_value text) limit then Some (digits_value text) else None

-- the bytes that hex digits of either case name: an even number of digits, at least two
unfoldable pub hex_bytes : List ℕ → Option (List ℕ)
hex_bytes text = if length text == 0 then None else result_ok (decode_of text)

-- the width that the name of an operation gives
abbrev pub width_of : List ℕ → Option ℕ
width_of name =
    if bytes_eq name (codes "b1") then Some 1
    else (if bytes_eq name (codes "b2") then Some 2
    else (if bytes_eq name (codes "b4") then Some 4
    else (if bytes_eq name (codes "b8") then Some 8 else None)))

-- the operation that writes a number of this width
abbrev pub number_item : ℕ → List ℕ → List ℕ → List ℕ → Option Item
number_item width page offset value =
    option_and_then (λ page. option_and_then (λ offset. option_and_then (λ value.
    Some (Num width page offset value))
    (number_below (256 ^ width) value)) (number_below (2 ^ 16) offset)) (number_below (2 ^ 32) page)

-- the operation that writes a string
abbrev pub text_item : List ℕ → List ℕ → List ℕ → Option Item
text_item page offset digits =
    option_and_then (λ page. option_and_then (λ offset. option_and_then (λ bytes. Some (Text page offset bytes))
    (hex_bytes digits)) (number_below (2 ^ 16) offset)) (number_below (2 ^ 32) page)

-- the operation of these words
unfoldable pub item_of : List (List ℕ) → Option Item
item_of (name ∷ page ∷ []) =
    if bytes_eq name (codes "i") then option_and_then (λ page. Some (Init page)) (number_below (2 ^ 32) page) else None
item_of (name ∷ page ∷ offset ∷ value ∷ []) =
    if bytes_eq name (codes "s") then text_item page offset value
    else option_and_then (λ width. number_item width page offset value) (width_of name)
item_of words = None

-- the operations of these texts, each of which has to be one
abbrev pub items_of : List (List ℕ) → Option (List Item)
items_of [] = Some []
items_of (text ∷ texts) =
    option_and_then (λ item. option_and_then (λ items. Some (item ∷ items)) (items_of texts)) (item_of (words_of text))

-- f is answered once flushed, w once written, n at once
abbrev pub mode_of : List ℕ → Option ℕ
mode_of name =
    if bytes_eq name (codes "f") then Some 1
    else (if bytes_eq name (codes "w") then Some 2 else (if bytes_eq name (codes "n") then Some 0 else None))

-- the line of a user, a mode, the words of the first operation, and the texts of the others
abbrev pub line_from : List ℕ → List ℕ → List (List ℕ) → List (List ℕ) → Option ScriptLine
line_from user mode words texts =
    option_and_then (λ user. option_and_then (λ mode. option_and_then (λ item. option_and_then (λ items.
    Some (record { user = user; mode = mode; items = item ∷ items }))
    (items_of texts)) (item_of words)) (mode_of mode)) (number_below (2 ^ 32) user)

-- the line whose parts between semicolons these are; user and mode stand before the first operation
abbrev pub line_of_parts : List (List ℕ) → List (List ℕ) → Option ScriptLine
line_of_parts (user ∷ mode ∷ words) texts = line_from user mode words texts
line_of_parts words texts = None

-- what the text of a line says
unfoldable pub script_line_of : List ℕ → Option ScriptLine
script_line_of text = elim (operations_of text) [ [] ↦ None | first ∷ texts ↦ line_of_parts (words_of first) texts ]

-- an empty line, or a comment
abbrev pub is_skipped : List ℕ → Bool
is_skipped [] = true
is_skipped (byte ∷ bytes) = byte == 35

-- a line before the others
abbrev pub with_line : ScriptLine → Result (List ScriptLine) ℕ → Result (List ScriptLine) ℕ
with_line line (Ok lines) = Ok (line ∷ lines)
with_line line (Err n) = Err n

-- the lines of these texts, each of which stands after its number; or the number of the first that is no line
abbrev pub script_from : List (ℕ × List ℕ) → Result (List ScriptLine) ℕ
script_from [] = Ok []
script_from (text ∷ texts) =
    if is_skipped text.1 then script_from texts
    else elim (script_line_of text.1) [ None ↦ Err text.0 | Some line ↦ with_line line (script_from texts) ]

-- The script that a text is, or the number of its first bad line, counted from 1.
unfoldable pub script_of : List ℕ → Result (List ScriptLine) ℕ
script_of text = script_from (enumerate_from 1 (lines_of text))

-- words with single spaces between them
abbrev pub spaced : List (List ℕ) → List ℕ
spaced words = join_with_byte 32 words

-- the name of the operation that writes a number: `b` and its width in bytes
abbrev pub number_name : ℕ → List ℕ
number_name width = codes "b" ++ decimal width

-- the words of an operation
abbrev pub item_words : Item → List (List ℕ)
item_words (Num width page offset value) = number_name width ∷ decimal page ∷ decimal offset ∷ decimal value ∷ []
item_words (Text page offset bytes) = codes "s" ∷ decimal page ∷ decimal offset ∷ encode_lower bytes ∷ []
item_words (Init page) = codes "i" ∷ decimal page ∷ []

unfoldable pub item_text : Item → List ℕ
item_text item = spaced (item_words item)

-- f is answered once flushed, w once written, n at once
abbrev pub mode_name : ℕ → List ℕ
mode_name mode = if mode == 1 then codes "f" else (if mode == 2 then codes "w" else codes "n")

-- the operations with semicolons between them
abbrev pub items_text : List Item → List ℕ
items_text items = join_with_byte 59 (map item_text items)

-- a line without its line feed
unfoldable pub script_line_text : ScriptLine → List ℕ
script_line_text line = spaced (decimal line.user ∷ mode_name line.mode ∷ items_text line.items ∷ [])

-- the lines of a script, each with its line feed
unfoldable pub script_text : List ScriptLine → List ℕ
script_text lines = flat_map (λ line. script_line_text line ++ 10 ∷ []) lines
