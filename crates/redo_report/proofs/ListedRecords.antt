-- The records of a store that is read, as a script's operations.
use Rattle.std.proofs.Common.{ℕ, ◌≡◌, List, [], ◌∷◌, map, refl, ap, ◌∙◌}
use Rattle.model_base.specs.declared.shape.Shape.{Shape}
use Rattle.model_log.specs.{HasText, RecordFits}
use Rattle.model_log.specs.declared.rec.Rec.{Rec}
use Rattle.model_log.specs.declared.rec.Rec.TheVariants as rec
use Rattle.model_report.specs.{item_of_record}
use Rattle.model_script.specs.{group_of, IsInRange, record_of}
use Rattle.model_script.specs.declared.item.Item.{Item}
use Rattle.model_script.specs.declared.item.Item.TheVariants.{Num, Text, Init}
use Rattle.model_script.specs.declared.script.ScriptLine.{ScriptLine}

pub ranged : (shape : Shape) (logged : Rec) → HasText logged → RecordFits shape logged → IsInRange (item_of_record logged)
ranged shape (rec.Num width space page offset value) text fits = (text.0, text.2, text.3, fits.1)
ranged shape (rec.Text space page offset bytes) text fits = (text.1, text.2, text.3, text.5)
ranged shape (rec.Init space page) text fits = text.1

item_of-record_of : (space : ℕ) (item : Item) → item_of_record (record_of space item) ≡ item
item_of-record_of space (Num width page offset value) = refl
item_of-record_of space (Text page offset bytes) = refl
item_of-record_of space (Init page) = refl

items_of-records : (space : ℕ) (items : List Item) → map item_of_record (map (record_of space) items) ≡ items
items_of-records space [] = refl
items_of-records space (item ∷ items) =
    ap (λ first. first ∷ map item_of_record (map (record_of space) items)) (item_of-record_of space item)
    ∙ ap (λ others. item ∷ others) (items_of-records space items)

pub items_of-group : (space : ℕ) (line : ScriptLine) → map item_of_record (group_of space line) ≡ line.items
items_of-group space line = items_of-records space line.items
