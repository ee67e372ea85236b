-- Passing over a text in front of some bytes.
use Rattle.std.specs.Prelude.{ℕ, ◌≡◌, List, Result, Ok, Err}
use Rattle.model_base.specs.declared.got.Got.{Got}
use Rattle.model_base.specs.declared.got.Got.TheVariants.{Value, Short, Bad}
use Rattle.model_log.specs.{GivesGroup}
use Rattle.model_log.specs.declared.rec.Rec.{Rec}
use Rattle.redo_record.specs.Reading.{Begins, stop_of, Stops}
use Rattle.redo_record.specs.declared.no_text.NoText.{NoText}

-- What passing over a text gives: the bytes that are left after a text of some value, or why there is none.
abbrev pub Skips : {X A : Type 0} → (X → List ℕ) → (List ℕ → A → Type 0) → List ℕ → Result X NoText → Type 0
Skips {A = A} view IsText bytes (Ok left) = (value : A) × Begins IsText bytes value (view left)
Skips view IsText bytes (Err given) = Stops IsText bytes (stop_of given)

-- What `decode` gives of the bytes, with the length of the group's text in place of the group.
abbrev pub GivesSpan : List ℕ → Got ℕ → Type 0
GivesSpan bytes (Value length taken) = (length ≡ taken) × (group : List Rec) × GivesGroup bytes (Value group taken)
GivesSpan bytes Short = GivesGroup bytes Short
GivesSpan bytes Bad = GivesGroup bytes Bad
