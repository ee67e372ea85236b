-- A record as a listing names it.
use Rattle.std.specs.Prelude.{codes, List, [], ℕ, Some, ◌∷◌, ◌≡◌}
use Rattle.model_report.specs.Listing.{line_text}
use Rattle.model_script.specs.{item_of, words_of}
use Rattle.model_script.specs.declared.item.Item.{Item}

-- the line names the operation: after the word `rec` stands a text that a script reads as it
pub record NamesOperation (line : List ℕ) (item : Item) : Type 0 where
  pub text : List ℕ
  pub line_is : line ≡ line_text (codes "rec" ∷ text ∷ [])
  pub is_read : item_of (words_of text) ≡ Some item
