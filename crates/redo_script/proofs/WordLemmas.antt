-- Words that are no operation.
use Rattle.std.proofs.Common.{ℕ, ◌≡◌, Bool, true, false, cond, List, [], ◌∷◌, None, refl}
use Rattle.std.specs.List.{slice_split, onto_first}
use Rattle.model_script.specs.{item_of}

item_of-more : (name page offset value : List ℕ) (words : List (List ℕ)) (byte : ℕ) → item_of (name ∷ page ∷ offset ∷ value ∷ onto_first byte words) ≡ None
unfolding item_of
item_of-more name page offset value [] byte = refl
item_of-more name page offset value (word ∷ words) byte = refl

-- five words or more
pub item_of_five : (name page offset value : List ℕ) (separates : ℕ → Bool) (rest : List ℕ) → item_of (name ∷ page ∷ offset ∷ value ∷ slice_split separates rest) ≡ None
unfolding item_of
item_of_five name page offset value separates [] = refl
item_of_five name page offset value separates (byte ∷ bytes) =
    elim (separates byte) as (λ cuts. item_of (name ∷ page ∷ offset ∷ value ∷ cond cuts ([] ∷ slice_split separates bytes) (onto_first byte (slice_split separates bytes))) ≡ None)
    [ true ↦ refl | false ↦ item_of-more name page offset value (slice_split separates bytes) byte ]

-- three
pub item_of_three : (name page offset : List ℕ) → item_of (name ∷ page ∷ offset ∷ []) ≡ None
unfolding item_of
item_of_three name page offset = refl

-- one
pub item_of_one : (name : List ℕ) → item_of (name ∷ []) ≡ None
unfolding item_of
item_of_one name = refl

pub ruleset other_words = (item_of_five, item_of_three, item_of_one)
