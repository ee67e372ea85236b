-- What passing over a text gives: the bytes that are left, or why there is none.
use Rattle.std.proofs.Common.{◌≡◌, ℕ, ◌-◌, ◌<◌, ◌≤◌, List, [], ◌∷◌, length, get_or, take, drop, refl, sym, subst}
use Rattle.std.proofs.lemmas.List.{take_rest}
use Rattle.std.specs.Prelude.{IsErrAnd, Result, Ok, Err}
use Rattle.model_log.specs.{IsBody, IsGroupText, IsRecord}
use Rattle.model_log.proofs.Sequence.{OneText, IsThen}
use Rattle.redo_record.specs.Reading.{Begins, stop_of, Stops}
use Rattle.redo_record.specs.Skipping.{Skips}
use Rattle.redo_record.specs.declared.no_text.NoText.{NoText}
use Rattle.redo_record.proofs.Groups.{single_begins, single_stops}
use Rattle.redo_record.proofs.Leaves.{body_begins}
use Rattle.redo_record.proofs.Sequence.{both_begin, second_stops}

-- what the exit of a `?` gives
pub skipped_on : {X A : Type 0} (view : X → List ℕ) (IsText : List ℕ → A → Type 0) (bytes : List ℕ)
    (result : Result X NoText) (why : NoText) → IsErrAnd result (λ given. given ≡ why)
    → Stops IsText bytes (stop_of why) → Skips view IsText bytes result
skipped_on view IsText bytes (Ok x) why is h = absurd is
skipped_on view IsText bytes (Err given) why is h = subst (λ (w : NoText). Stops IsText bytes (stop_of w)) (sym is) h

-- what passing over the second gives is what passing over both gives
pub last_skips : {X A B C : Type 0} {IsFirst : List ℕ → A → Type 0} {IsSecond : A → List ℕ → B → Type 0}
    {IsWhole : List ℕ → C → Type 0} {join : A → B → C} (then : IsThen IsFirst IsSecond IsWhole join)
    (one : OneText IsFirst) (view : X → List ℕ) (bytes rest : List ℕ) (a : A) → Begins IsFirst bytes a rest
    → (result : Result X NoText) → Skips view (IsSecond a) rest result → Skips view IsWhole bytes result
last_skips {join} then one view bytes rest a first (Ok left) h =
    (join a h.0, both_begin then bytes rest (view left) a h.0 first h.1)
last_skips then one view bytes rest a first (Err why) h = second_stops then one bytes rest a first (stop_of why) h

-- enough bytes begin with a string
pub string_begins : (number : ℕ) (bytes : List ℕ) → ((i : ℕ) → get_or bytes i 0 < 256) → number ≤ length bytes
    → (value : List ℕ) × Begins (IsBody number) bytes value (take (length bytes - number) (drop number bytes))
string_begins number bytes fits long =
    let front : List ℕ = take number bytes in
    let begins : Begins (IsBody number) bytes front (drop number bytes) = body_begins number bytes front fits long refl in
    (front, subst (Begins (IsBody number) bytes front) (sym (take_rest bytes number)) begins)

-- what passing over a record alone gives is what passing over the group gives
pub single_skips : {X : Type 0} (view : X → List ℕ) (bytes : List ℕ) → 128 ≤ get_or bytes 0 0
    → (result : Result X NoText) → Skips view (IsRecord 128) bytes result → Skips view IsGroupText bytes result
single_skips view bytes flag (Ok left) h = (h.0 ∷ [], single_begins bytes (view left) h.0 h.1)
single_skips view bytes flag (Err why) h = single_stops bytes flag (stop_of why) h
