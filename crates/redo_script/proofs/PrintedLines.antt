-- A printed line is read as that line.
use Rattle.std.proofs.Common.{ℕ, ◌≡◌, ◌≢◌, ◌==◌, ◌^◌, ◌<◌, ◌⊎◌, inl, inr, false, List, [], ◌∷◌, ◌++◌, map, Option, Some, None, refl, ap, sym, ◌∙◌, append_assoc, arith}
use Rattle.std.specs.List.{AllByRecursion, join_with_byte}
use Rattle.std.specs.Fmt.{decimal}
use Rattle.model_script.specs.{IsInRange, IsScriptLine, item_text, item_words, items_text, line_of_parts, mode_name, mode_of, operations_of, script_line_of, script_line_text, spaced, words_of}
use Rattle.model_script.specs.declared.item.Item.{Item}
use Rattle.model_script.specs.declared.item.Item.TheVariants.{Num, Text, Init}
use Rattle.model_script.specs.declared.script.ScriptLine.{ScriptLine}
use Rattle.redo_script.proofs.Joining.{joined_behind, lacks_joined, slice_split-joined}
use Rattle.redo_script.proofs.PlainBytes.{IsApart, apart_below, apart_semicolon, lacks_plain, plain_decimal, plain_mode}
use Rattle.redo_script.proofs.PrintedItems.{item_of-words, items_of-texts, lacks_words, plain_words}
use Rattle.redo_script.proofs.PrintedNumbers.{number_below-decimal}
use Rattle.redo_script.specs.Cut.{Lacks}

-- the mode is one that has a name
abbrev pub IsMode : ℕ → Type 0
IsMode mode = (mode ≡ 1) ⊎ (mode ≡ 2) ⊎ (mode ≡ 0)

mode_of-name : (mode : ℕ) → IsMode mode → mode_of (mode_name mode) ≡ Some mode
mode_of-name mode (inl is) = rw is refl
mode_of-name mode (inr (inl is)) = rw is refl
mode_of-name mode (inr (inr is)) = rw is refl

lacks_item_text : (apart : ℕ) (item : Item) → IsApart apart → (32 == apart) ≡ false → IsInRange item
    → Lacks apart (item_text item)
unfolding item_text
lacks_item_text apart item is other ranged =
    lacks_joined apart 32 (item_words item) other (lacks_words apart (item_words item) is (plain_words item ranged))

lacks_item_texts : (apart : ℕ) (items : List Item) → IsApart apart → (32 == apart) ≡ false
    → AllByRecursion IsInRange items → AllByRecursion (Lacks apart) (map item_text items)
lacks_item_texts apart [] is other ranged = tt
lacks_item_texts apart (item ∷ items) is other ranged =
    (lacks_item_text apart item is other ranged.0, lacks_item_texts apart items is other ranged.1)

-- no byte of a line's text but its spaces and semicolons parts anything
pub lacks_line_text : (apart : ℕ) (line : ScriptLine) → IsApart apart → (32 == apart) ≡ false → (59 == apart) ≡ false
    → IsScriptLine line → Lacks apart (script_line_text line)
unfolding script_line_text
lacks_line_text apart line is space semicolon ranged =
    lacks_joined apart 32 (decimal line.user ∷ mode_name line.mode ∷ items_text line.items ∷ []) space (
      lacks_plain apart (decimal line.user) is (plain_decimal line.user (omega (arith, ranged.user))),
      (
        lacks_plain apart (mode_name line.mode) is (plain_mode line.mode ranged.mode),
        (lacks_joined apart 59 (map item_text line.items) semicolon (lacks_item_texts apart line.items is space ranged.each), tt),
      ),
    )

two_words_before : (user mode rest : List ℕ)
    → (user ++ 32 ∷ (mode ++ 32 ∷ [])) ++ rest ≡ user ++ 32 ∷ (mode ++ 32 ∷ rest)
two_words_before user mode rest =
    append_assoc user (32 ∷ (mode ++ 32 ∷ [])) rest
    ∙ ap (λ text. user ++ 32 ∷ text) (append_assoc mode (32 ∷ []) rest)

-- user and mode stand before the first operation
before_first : (user mode : List ℕ) (first : Item) (others : List Item)
    → spaced (user ∷ mode ∷ items_text (first ∷ others) ∷ [])
    ≡ join_with_byte 59 (spaced (user ∷ mode ∷ item_text first ∷ []) ∷ map item_text others)
before_first user mode first others =
    let front = user ++ 32 ∷ (mode ++ 32 ∷ []) in
    sym (two_words_before user mode (items_text (first ∷ others)))
    ∙ joined_behind 59 front (item_text first) (map item_text others)
    ∙ ap (λ text. join_with_byte 59 (text ∷ map item_text others)) (two_words_before user mode (item_text first))

first_spaced : (user mode : List ℕ) (item : Item)
    → spaced (user ∷ mode ∷ item_text item ∷ []) ≡ spaced (user ∷ mode ∷ item_words item)
unfolding item_text
first_spaced user mode (Num width page offset value) = refl
first_spaced user mode (Text page offset bytes) = refl
first_spaced user mode (Init page) = refl

line_of-words : (user mode : ℕ) (first : Item) (others : List Item) → user < 2 ^ 32 → IsMode mode → IsInRange first
    → AllByRecursion IsInRange others
    → line_of_parts (decimal user ∷ mode_name mode ∷ item_words first) (map item_text others)
    ≡ Some (record { user = user; mode = mode; items = first ∷ others })
line_of-words user mode first others small is here there =
    rw (
      number_below-decimal (2 ^ 32) user small (omega (arith, small)),
      mode_of-name mode is,
      item_of-words first here,
      items_of-texts others there,
    ) refl

-- a line of these operations, of which the first has these words before it
script_line_of-operations : (text front : List ℕ) (texts words : List (List ℕ)) → operations_of text ≡ front ∷ texts
    → words_of front ≡ words → script_line_of text ≡ line_of_parts words texts
unfolding script_line_of
script_line_of-operations text front texts words operations are =
    let line_of_operations = λ (parts : List (List ℕ)). elim parts as (λ parts. Option ScriptLine) [
      | [] ↦ None
      | first ∷ others ↦ line_of_parts (words_of first) others
    ] in
    ap line_of_operations operations
    ∙ ap (λ words. line_of_parts words texts) are

line_read : (user mode : ℕ) (items : List Item) → user < 2 ^ 32 → IsMode mode → items ≢ []
    → AllByRecursion IsInRange items
    → script_line_of (spaced (decimal user ∷ mode_name mode ∷ items_text items ∷ []))
    ≡ Some (record { user = user; mode = mode; items = items })
line_read user mode [] small is some each = absurd (some refl)
line_read user mode (first ∷ others) small is some each =
    let number = decimal user in
    let name = mode_name mode in
    let plain_number = plain_decimal user (omega (arith, small)) in
    let plain_name = plain_mode mode is in
    let texts = map item_text others in
    let front = spaced (number ∷ name ∷ item_text first ∷ []) in
    let front_lacks = lacks_joined 59 32 (number ∷ name ∷ item_text first ∷ []) refl (
      lacks_plain 59 number apart_semicolon plain_number,
      (lacks_plain 59 name apart_semicolon plain_name, (lacks_item_text 59 first apart_semicolon refl each.0, tt)),
    ) in
    let operations : operations_of (spaced (number ∷ name ∷ items_text (first ∷ others) ∷ [])) ≡ front ∷ texts =
    ap operations_of (before_first number name first others)
    ∙ slice_split-joined 59 front texts front_lacks (lacks_item_texts 59 others apart_semicolon refl each.1) in
    let apart_space = apart_below 32 (omega arith) in
    let words : words_of front ≡ number ∷ name ∷ item_words first =
    ap words_of (first_spaced number name first)
    ∙ slice_split-joined 32 number (name ∷ item_words first) (lacks_plain 32 number apart_space plain_number)
    (lacks_plain 32 name apart_space plain_name, lacks_words 32 (item_words first) apart_space (plain_words first each.0)) in
    let text = spaced (number ∷ name ∷ items_text (first ∷ others) ∷ []) in
    script_line_of-operations text front texts (number ∷ name ∷ item_words first) operations words
    ∙ line_of-words user mode first others small is each.0 each.1

pub script_line_of-text : (line : ScriptLine) → IsScriptLine line → script_line_of (script_line_text line) ≡ Some line
unfolding script_line_text
script_line_of-text line ranged = line_read line.user line.mode line.items ranged.user ranged.mode ranged.some ranged.each
