-- A follower of the log, and what a tally keeps of a list of groups.
use Rattle.model_core.specs.{ReaderState, Given}
use Rattle.std.specs.Prelude.{List, [], length, ℕ, ◌%◌, ◌++◌, ◌^◌, ◌∷◌, ◌≡◌}
use Rattle.model_base.specs.{all_ones, register_after}

-- a follower: the state of its program, and who takes the groups
pub record Following (R : Type 0) : Type 0 where
  pub state : ReaderState
  pub receiver : R

pub record Kept : Type 0 where
  pub count : ℕ
  pub register : ℕ

-- their texts, joined
abbrev pub joined_given : List Given → List ℕ
joined_given [] = []
joined_given (g ∷ gs) = g.text ++ joined_given gs

-- a list that has the count and the checksum
abbrev pub HasTally : Kept → List Given → Type 0
HasTally t got = (t.count ≡ length got % 2 ^ 64) × (t.register ≡ register_after all_ones (joined_given got))
