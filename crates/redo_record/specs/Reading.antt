-- Reading a text off the front of some bytes.
use Rattle.std.specs.Prelude.{ℕ, ◌≡◌, ◌≢◌, List, [], ◌++◌, Result, Ok, Err}
use Rattle.redo_record.specs.declared.no_text.NoText.{NoText}
use Rattle.redo_record.specs.declared.no_text.NoText.TheVariants as no_text
use Rattle.redo_record.specs.declared.stop.Stop.{Stop}
use Rattle.redo_record.specs.declared.stop.Stop.TheVariants.{Memory, Short, Bad}

-- the bytes begin with a text of the value, and these are left
pub record Begins {A : Type 0} (IsText : List ℕ → A → Type 0) (bytes : List ℕ) (value : A) (rest : List ℕ) : Type 0 where
  pub text : List ℕ
  pub is_text : IsText text value
  pub parts : bytes ≡ text ++ rest

-- the bytes are less than a whole text: something can follow with which they are one
pub record IsPartOf {A : Type 0} (IsText : List ℕ → A → Type 0) (bytes : List ℕ) : Type 0 where
  pub more : List ℕ
  pub value : A
  pub some : more ≢ []
  pub is_text : IsText (bytes ++ more) value

-- no text begins so: none goes on as the bytes do, whatever follows each
abbrev pub IsNone : {A : Type 0} → (List ℕ → A → Type 0) → List ℕ → Type 0
IsNone {A} IsText bytes = (text rest more : List ℕ) (value : A) → IsText text value → text ++ rest ≡ bytes ++ more → ⊥

-- what comes of reading in place of a value
abbrev pub Stops : {A : Type 0} → (List ℕ → A → Type 0) → List ℕ → Stop → Type 0
Stops IsText bytes Memory = Unit {0}
Stops IsText bytes Short = IsPartOf IsText bytes
Stops IsText bytes Bad = IsNone IsText bytes

-- What reading a text off the front of the bytes gives: the value and the bytes that are left, as view has them, or
-- why there is none.
abbrev pub Reads : {X A : Type 0} → (X → A × List ℕ) → (List ℕ → A → Type 0) → List ℕ → Result X Stop → Type 0
Reads view IsText bytes (Ok found) = Begins IsText bytes (view found).0 (view found).1
Reads view IsText bytes (Err stop) = Stops IsText bytes stop

-- why there is none, where reading takes no memory
abbrev pub stop_of : NoText → Stop
stop_of no_text.Short = Short
stop_of no_text.Bad = Bad

-- What such reading gives.
abbrev pub Takes : {X A : Type 0} → (X → A × List ℕ) → (List ℕ → A → Type 0) → List ℕ → Result X NoText → Type 0
Takes view IsText bytes (Ok found) = Begins IsText bytes (view found).0 (view found).1
Takes view IsText bytes (Err given) = Stops IsText bytes (stop_of given)
