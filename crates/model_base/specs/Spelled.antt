-- What stands at the front of bytes off which a number is read: a spelling of one, less than that, or none.
use Rattle.std.specs.Prelude.{ℕ, ◌≡◌, ◌≢◌, ◌≤◌, ◌<◌, ◌+◌, ◌^◌, List, [], ◌++◌, length, take}
use Rattle.model_base.specs.declared.got.Got.{Got}
use Rattle.model_base.specs.declared.got.Got.TheVariants.{Value, Short, Bad}
use Rattle.model_base.specs.Spelling.{spelling32, spelling64}

-- the bytes spell the number of 32 bits
pub record Spells32 (bytes : List ℕ) (n : ℕ) : Type 0 where
  pub small : n < 2 ^ 32
  pub spelled : bytes ≡ spelling32 n

-- the bytes spell the number of 64 bits
pub record Spells64 (bytes : List ℕ) (n : ℕ) : Type 0 where
  pub small : n < 2 ^ 64
  pub spelled : bytes ≡ spelling64 n

-- the bytes are less than a whole spelling: something can follow with which they are one
abbrev pub IsFrontOf : (List ℕ → ℕ → Type 0) → List ℕ → Type 0
IsFrontOf Spells bytes = (rest : List ℕ) × (n : ℕ) × (rest ≢ []) × Spells (bytes ++ rest) n

-- so many bytes at the front are a spelling of the number
abbrev pub BeginsWith : (List ℕ → ℕ → Type 0) → List ℕ → ℕ → ℕ → Type 0
BeginsWith Spells bytes n len = (len ≤ length bytes) × Spells (take len bytes) n

-- What reading a number off the front of the bytes gives: the number and the length of its spelling, or that more
-- bytes have to come, or that no spelling begins so.
abbrev pub Gives : (List ℕ → ℕ → Type 0) → List ℕ → Got ℕ → Type 0
Gives Spells bytes (Value n len) = BeginsWith Spells bytes n len
Gives Spells bytes Short = IsFrontOf Spells bytes
Gives Spells bytes Bad =
    ((n len : ℕ) → BeginsWith Spells bytes n len → ⊥) × (IsFrontOf Spells bytes → ⊥)
