use Rattle.std.proofs.Common.{◌≡◌, ◌∷◌, ◌++◌, take}
use Rattle.std.specs.List.{flat_map}
use Rattle.std.specs.String.{string_bytes}
use Rattle.model_script.specs.{item_text}
use Rattle.redo_script.proofs.printing.push_others.Given as goal

abbrev pub invariant-loop-item : goal.invariant-loop-item
invariant-loop-item l =
    string_bytes l.text ≡ string_bytes l.initial.text ++ flat_map (λ item. 59 ∷ item_text item) (take l.item-index l.items)
