-- The operations of a line, one on.
use Rattle.std.proofs.Common.{ℕ, ◌≡◌, ◌+◌, ◌^◌, ◌<◌, List, [], ◌∷◌, ◌++◌, Option, Some, None, Bor, length, refl, ap, sym, ◌∙◌, append_assoc, append-nil, length-append, arith}
use Rattle.std.specs.Option.{option_and_then}
use Rattle.redo_script.specs.Cut.{IsCut}
use Rattle.model_script.specs.{item_of, items_of, line_from, mode_of, number_below, words_of}
use Rattle.redo_script.specs.Progress.{after_items, left_after}
use Rattle.model_script.specs.declared.item.Item.{Item}
use Rattle.model_script.specs.declared.script.ScriptLine.{ScriptLine}

after_items-push : (done : List Item) (item : Item) (others : Option (List Item)) → after_items done (option_and_then (λ items. Some (item ∷ items)) others) ≡ after_items (done ++ item ∷ []) others
after_items-push done item None = refl
after_items-push done item (Some others) = ap (λ items. Some items) (sym (append_assoc done (item ∷ []) others))

-- an operation
pub after_item : (done : List Item) (text : List ℕ) (texts : List (List ℕ)) (item : Item) → item_of (words_of text) ≡ Some item → after_items done (items_of (text ∷ texts)) ≡ after_items (done ++ item ∷ []) (items_of texts)
after_item done text texts item is =
    ap (λ found. after_items done (option_and_then (λ item. option_and_then (λ items. Some (item ∷ items)) (items_of texts)) found)) is
    ∙ after_items-push done item (items_of texts)

-- no operation
pub after_none : (done : List Item) (text : List ℕ) (texts : List (List ℕ)) → item_of (words_of text) ≡ None → after_items done (items_of (text ∷ texts)) ≡ None
after_none done text texts is =
    ap (λ found. after_items done (option_and_then (λ item. option_and_then (λ items. Some (item ∷ items)) (items_of texts)) found)) is

-- the end of the line
pub after_all : (done : List Item) → after_items done (items_of []) ≡ Some done
after_all done = ap (λ items. Some items) (append-nil done)

-- what stands after a cut is shorter
pub left_after-cut : (byte : ℕ) (text front : List ℕ) (behind : Option (Bor (List ℕ))) → IsCut byte text front behind → left_after behind < length text + 1
left_after-cut byte text front None is = omega arith
left_after-cut byte text front (Some rest) is =
    omega (arith, ap length is.0, length-append front (byte ∷ rest.now))

pub ruleset steps = (after_item, after_none, after_all, left_after-cut)

abbrev line_of_fields : ℕ → ℕ → Item → List Item → ScriptLine
line_of_fields user mode item items = record { user = user; mode = mode; items = item ∷ items }

-- where there is no user, mode or operation there is no line
no_line : (user mode : Option ℕ) (item : Option Item) (others : Option (List Item)) → item ≡ None → option_and_then (λ user. option_and_then (λ mode. option_and_then (λ item. option_and_then (λ items. Some (line_of_fields user mode item items)) others) item) mode) user ≡ None
no_line None mode item others none = refl
no_line (Some user) None item others none = refl
no_line (Some user) (Some mode) item others none = rw none refl

-- a line needs an operation
pub line_from-no_words : (user mode : List ℕ) (texts : List (List ℕ)) → line_from user mode [] texts ≡ None
unfolding item_of
line_from-no_words user mode texts = no_line (number_below (2 ^ 32) user) (mode_of mode) None (items_of texts) refl

pub ruleset no_words = (line_from-no_words)
