-- The lines that are read from a text are in the ranges of their fields.
use Rattle.std.proofs.Common.{ℕ, ◌≡◌, ◌<◌, ◌≤◌, ◌*◌, ◌==◌, ◌^◌, ◌&&◌, ◌⊎◌, nat_lt, inl, inr, Bool, true, false, List, [], ◌∷◌, length, Option, Some, None, option_and_then, Result, Ok, Err, IfSome, IfOk, refl, subst, arith}
use Rattle.std.specs.Prelude.{if◌then◌else◌, codes}
use Rattle.std.specs.List.{All, AllByRecursion, enumerate_from}
use Rattle.std.specs.Result.{result_ok}
use Rattle.std.specs.Str.{bytes_eq}
use Rattle.std.proofs.lemmas.Bool.{and_parts, eqb-false, ltb-true}
use Rattle.std.proofs.lemmas.List.{get_or_default}
use Rattle.hex.specs.Hex.{decode_of}
use Rattle.hex.specs.declared.error.FromHexError.{FromHexError}
use Rattle.hex.proofs.HexLemmas.{decode_of-ok}
use Rattle.model_base.specs.{lines_of}
use Rattle.model_log.specs.{IsByte, IsWidth}
use Rattle.model_script.specs.Grammar.{digits_value, hex_bytes, is_number, is_skipped, item_of, items_of, line_from, line_of_parts, mode_of, number_below, number_item, operations_of, script_from, script_line_of, script_of, text_item, width_of, with_line, words_of}
use Rattle.model_script.specs.Fits.{IsInRange, IsScriptLine}
use Rattle.model_script.specs.declared.item.Item.TheVariants.{Init}
use Rattle.model_script.specs.declared.script.ScriptLine.{ScriptLine}

-- what holds of the value after each of two steps
and_then-if : {A B : Type 0} (P : A → Type 0) (Q : B → Type 0) (next : A → Option B) (first : Option A) → IfSome first P
    → ((value : A) → P value → IfSome (next value) Q) → IfSome (option_and_then next first) Q
and_then-if P Q next None holds keeps = tt
and_then-if P Q next (Some value) holds keeps = keeps value holds

either-if : {A : Type 0} (P : A → Type 0) (test : Bool) (one other : Option A) → IfSome one P → IfSome other P
    → IfSome (if test then one else other) P
either-if P true one other holds otherwise = holds
either-if P false one other holds otherwise = otherwise

where-if : {A : Type 0} (P : A → Type 0) (test : Bool) (value : A) → (test ≡ true → P value)
    → IfSome (if test then Some value else None) P
where-if P true value holds = holds refl
where-if P false value holds = tt

number_below-small : (limit : ℕ) (text : List ℕ) → IfSome (number_below limit text) (λ n. n < limit)
unfolding number_below
number_below-small limit text =
    where-if (λ n. n < limit) (is_number text && nat_lt (digits_value text) limit) (digits_value text)
    (λ test. ltb-true (digits_value text) limit (and_parts (is_number text) (nat_lt (digits_value text) limit) test).1)

-- a string that hex digits name: bytes, and one at least
record IsString (bytes : List ℕ) : Type 0 where
  some : 1 ≤ length bytes
  each : All IsByte bytes

is_string : (text bytes : List ℕ) → (length text ≡ 0 → ⊥) → decode_of text ≡ Ok bytes → IsString bytes
is_string text bytes some is =
    let facts = decode_of-ok text bytes is in
    let twice : length text ≡ 2 * length bytes = facts.2 in
    let below = facts.3 in
    record { some = omega arith; each = λ i default here. subst IsByte (get_or_default bytes i 0 default here) (below i) }

decoded-is : (text : List ℕ) (none : Bool) (result : Result (List ℕ) FromHexError) → (length text == 0) ≡ none
    → decode_of text ≡ result → IfSome (if none then None else result_ok result) IsString
decoded-is text true result test is = tt
decoded-is text false (Err error) test is = tt
decoded-is text false (Ok bytes) test is = is_string text bytes (eqb-false (length text) 0 test) is

hex_bytes-are : (text : List ℕ) → IfSome (hex_bytes text) IsString
unfolding hex_bytes
hex_bytes-are text = decoded-is text (length text == 0) (decode_of text) refl refl

width_of-is : (name : List ℕ) → IfSome (width_of name) IsWidth
width_of-is name =
    either-if IsWidth (bytes_eq name (codes "b1")) (Some 1) _ (inl refl)
    (either-if IsWidth (bytes_eq name (codes "b2")) (Some 2) _ (inr (inl refl))
    (either-if IsWidth (bytes_eq name (codes "b4")) (Some 4) _ (inr (inr (inl refl)))
    (where-if IsWidth (bytes_eq name (codes "b8")) 8 (λ test. inr (inr (inr refl))))))

number_item-ranged : (width : ℕ) (page offset value : List ℕ) → IsWidth width
    → IfSome (number_item width page offset value) IsInRange
number_item-ranged width page offset value is =
    and_then-if (λ page. page < 2 ^ 32) IsInRange _ (number_below (2 ^ 32) page) (number_below-small (2 ^ 32) page) (λ page low.
    and_then-if (λ offset. offset < 2 ^ 16) IsInRange _ (number_below (2 ^ 16) offset) (number_below-small (2 ^ 16) offset) (λ offset short.
    and_then-if (λ value. value < 256 ^ width) IsInRange _ (number_below (256 ^ width) value) (number_below-small (256 ^ width) value) (λ value small.
    (is, low, short, small))))

text_item-ranged : (page offset digits : List ℕ) → IfSome (text_item page offset digits) IsInRange
text_item-ranged page offset digits =
    and_then-if (λ page. page < 2 ^ 32) IsInRange _ (number_below (2 ^ 32) page) (number_below-small (2 ^ 32) page) (λ page low.
    and_then-if (λ offset. offset < 2 ^ 16) IsInRange _ (number_below (2 ^ 16) offset) (number_below-small (2 ^ 16) offset) (λ offset short.
    and_then-if IsString IsInRange _ (hex_bytes digits) (hex_bytes-are digits) (λ bytes is.
    (low, short, is.some, is.each))))

init_item-ranged : (page : List ℕ) → IfSome (option_and_then (λ page. Some (Init page)) (number_below (2 ^ 32) page)) IsInRange
init_item-ranged page =
    and_then-if (λ page. page < 2 ^ 32) IsInRange _ (number_below (2 ^ 32) page) (number_below-small (2 ^ 32) page) (λ page low. low)

item_of-ranged : (words : List (List ℕ)) → IfSome (item_of words) IsInRange
unfolding item_of
item_of-ranged [] = tt
item_of-ranged (name ∷ []) = tt
item_of-ranged (name ∷ page ∷ []) = either-if IsInRange (bytes_eq name (codes "i")) _ None (init_item-ranged page) tt
item_of-ranged (name ∷ page ∷ offset ∷ []) = tt
item_of-ranged (name ∷ page ∷ offset ∷ value ∷ []) =
    either-if IsInRange (bytes_eq name (codes "s")) (text_item page offset value) _ (text_item-ranged page offset value)
    (and_then-if IsWidth IsInRange _ (width_of name) (width_of-is name) (λ width is. number_item-ranged width page offset value is))
item_of-ranged (name ∷ page ∷ offset ∷ value ∷ more ∷ words) = tt

items_of-ranged : (texts : List (List ℕ)) → IfSome (items_of texts) (AllByRecursion IsInRange)
items_of-ranged [] = tt
items_of-ranged (text ∷ texts) =
    and_then-if IsInRange (AllByRecursion IsInRange) _ (item_of (words_of text)) (item_of-ranged (words_of text)) (λ item here.
    and_then-if (AllByRecursion IsInRange) (AllByRecursion IsInRange) _ (items_of texts) (items_of-ranged texts) (λ items there.
    (here, there)))

abbrev IsMode : ℕ → Type 0
IsMode mode = (mode ≡ 1) ⊎ (mode ≡ 2) ⊎ (mode ≡ 0)

mode_of-is : (name : List ℕ) → IfSome (mode_of name) IsMode
mode_of-is name =
    either-if IsMode (bytes_eq name (codes "f")) (Some 1) _ (inl refl)
    (either-if IsMode (bytes_eq name (codes "w")) (Some 2) _ (inr (inl refl))
    (where-if IsMode (bytes_eq name (codes "n")) 0 (λ test. inr (inr refl))))

line_from-ranged : (user mode : List ℕ) (words texts : List (List ℕ)) → IfSome (line_from user mode words texts) IsScriptLine
line_from-ranged user mode words texts =
    and_then-if (λ user. user < 2 ^ 32) IsScriptLine _ (number_below (2 ^ 32) user) (number_below-small (2 ^ 32) user) (λ user small.
    and_then-if IsMode IsScriptLine _ (mode_of mode) (mode_of-is mode) (λ mode is.
    and_then-if IsInRange IsScriptLine _ (item_of words) (item_of-ranged words) (λ item here.
    and_then-if (AllByRecursion IsInRange) IsScriptLine _ (items_of texts) (items_of-ranged texts) (λ items there.
    record { user = small; mode = is; some = λ none. cc; each = (here, there) }))))

line_of_parts-ranged : (words texts : List (List ℕ)) → IfSome (line_of_parts words texts) IsScriptLine
line_of_parts-ranged [] texts = tt
line_of_parts-ranged (user ∷ []) texts = tt
line_of_parts-ranged (user ∷ mode ∷ words) texts = line_from-ranged user mode words texts

line_of_operations-ranged : (parts : List (List ℕ))
    → IfSome (elim parts as (λ parts. Option ScriptLine) [ [] ↦ None | first ∷ texts ↦ line_of_parts (words_of first) texts ]) IsScriptLine
line_of_operations-ranged [] = tt
line_of_operations-ranged (first ∷ texts) = line_of_parts-ranged (words_of first) texts

script_line_of-ranged : (text : List ℕ) → IfSome (script_line_of text) IsScriptLine
unfolding script_line_of
script_line_of-ranged text = line_of_operations-ranged (operations_of text)

with_line-ranged : (line : ScriptLine) (others : Result (List ScriptLine) ℕ) → IsScriptLine line
    → IfOk others (AllByRecursion IsScriptLine) → IfOk (with_line line others) (AllByRecursion IsScriptLine)
with_line-ranged line (Ok lines) here there = (here, there)
with_line-ranged line (Err n) here there = tt

-- a line that was read, before the others
next-ranged : (n : ℕ) (line : Option ScriptLine) (others : Result (List ScriptLine) ℕ) → IfSome line IsScriptLine
    → IfOk others (AllByRecursion IsScriptLine)
    → IfOk (elim line as (λ line. Result (List ScriptLine) ℕ) [ None ↦ Err n | Some line ↦ with_line line others ]) (AllByRecursion IsScriptLine)
next-ranged n None others here there = tt
next-ranged n (Some line) others here there = with_line-ranged line others here there

skipped-ranged : (skipped : Bool) (one other : Result (List ScriptLine) ℕ) → IfOk one (AllByRecursion IsScriptLine)
    → IfOk other (AllByRecursion IsScriptLine) → IfOk (if skipped then one else other) (AllByRecursion IsScriptLine)
skipped-ranged true one other holds otherwise = holds
skipped-ranged false one other holds otherwise = otherwise

script_from-ranged : (texts : List (ℕ × List ℕ)) → IfOk (script_from texts) (AllByRecursion IsScriptLine)
script_from-ranged [] = tt
script_from-ranged (text ∷ texts) =
    skipped-ranged (is_skipped text.1) (script_from texts) _ (script_from-ranged texts)
    (next-ranged text.0 (script_line_of text.1) (script_from texts) (script_line_of-ranged text.1) (script_from-ranged texts))

pub script_of-ranged : (text : List ℕ) (script : List ScriptLine) → script_of text ≡ Ok script → AllByRecursion IsScriptLine script
unfolding script_of
script_of-ranged text script is =
    let P : Result (List ScriptLine) ℕ → Type 0 = λ said. IfOk said (AllByRecursion IsScriptLine) in
    subst P is (script_from-ranged (enumerate_from 1 (lines_of text)))
