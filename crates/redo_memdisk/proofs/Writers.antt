-- A write that covers a sector stands at some place of the row.
use Rattle.std.proofs.Common.{ℕ, zero, suc, ◌<◌, inl, inr, Bool, true, false, IsTrue, ◌↔◌, MatchBool, List, [], ◌∷◌, length, refl, arith}
use Rattle.std.specs.List.{HoldsAt, AllWithin}
use Rattle.std.proofs.lemmas.Bool.{false≢true}
use Rattle.model_device.specs.declared.write.Write.{Write}
use Rattle.model_device.specs.{Covers, IsCovered}

-- the write covers the sector
abbrev pub Over : ℕ → Write → Type 0
Over k write = Covers write k

IsCovered-from_place : (writes : List Write) (k : ℕ) (i : ℕ) → i < length writes → HoldsAt (Over k) writes i → IsCovered writes k
IsCovered-from_place [] k i inside covers = absurd (omega arith)
IsCovered-from_place (write ∷ writes) k zero inside covers = inl (covers write)
IsCovered-from_place (write ∷ writes) k (suc i) inside covers = inr (IsCovered-from_place writes k i (omega arith) covers)

IsCovered-nowhere : (writes : List Write) (k : ℕ) → AllWithin (λ write. Over k write → ⊥) writes 0 (length writes) → IsCovered writes k → ⊥
IsCovered-nowhere [] k none h = h
IsCovered-nowhere (write ∷ writes) k none h =
    elim h [
      | inl here ↦ none 0 write (omega arith) (omega arith) here
      | inr there ↦ IsCovered-nowhere writes k (λ i d from below. none (suc i) d (omega arith) (omega arith)) there
    ]

-- the answer of a search through the writes
pub IsCovered-from_cases : (found : Bool) (writes : List Write) (k : ℕ) → MatchBool found ((i : ℕ) × (i < length writes) × HoldsAt (Over k) writes i) (AllWithin (λ write. Over k write → ⊥) writes 0 (length writes)) → IsTrue found ↔ IsCovered writes k
IsCovered-from_cases true writes k h = (λ _. IsCovered-from_place writes k h.0 h.1 h.2, λ _. refl)
IsCovered-from_cases false writes k h = (λ e. absurd (false≢true e), λ covered. absurd (IsCovered-nowhere writes k h covered))
