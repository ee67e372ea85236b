-- Operations that are printed.
use Rattle.std.proofs.Common.{ℕ, ◌≡◌, List, [], ◌∷◌, ◌++◌, ap, sym, ◌∙◌, append_assoc, append-nil}
use Rattle.std.specs.List.{flat_map}
use Rattle.model_script.specs.{item_text, items_text}
use Rattle.model_script.specs.declared.item.Item.{Item}

items_text_apart : (first : Item) (others : List Item) → items_text (first ∷ others) ≡ item_text first ++ flat_map (λ item. 59 ∷ item_text item) others
items_text_apart first [] = sym (append-nil (item_text first))
items_text_apart first (second ∷ others) = ap (λ rest. item_text first ++ 59 ∷ rest) (items_text_apart second others)

-- the first operation, and each other after a semicolon
pub items_text_joined : (done : List ℕ) (first : Item) (others : List Item) → done ++ items_text (first ∷ others) ≡ (done ++ item_text first) ++ flat_map (λ item. 59 ∷ item_text item) others
items_text_joined done first others =
    ap (λ text. done ++ text) (items_text_apart first others) ∙ sym (append_assoc done (item_text first) (flat_map (λ item. 59 ∷ item_text item) others))

pub items_text_none : (done : List ℕ) → done ++ items_text [] ≡ done
items_text_none done = append-nil done

pub ruleset joined = (items_text_joined, items_text_none)
