-- The calls that are made for a list of writes, one more at a time, and for a repair.
use Rattle.std.proofs.Common.{◌≡◌, ◌+◌, ℕ, zero, suc, List, [], ◌∷◌, ◌++◌, take, drop, map, Some, None, Err, sym, ap, subst, ◌∙◌, add-one}
use Rattle.std.specs.List.{slice_get}
use Rattle.std.proofs.lemmas.List.{map-append, take-append-drop}
use Rattle.model_device.specs.declared.write.Write.{Write}
use Rattle.redo_disk.specs.{Answer, Call, error_of, MakesCall, MakesCalls, Request, Serve, ToWrite, Writes}
use Rattle.redo_disk.specs.declared.error.DevError.{DevError}
use Rattle.redo_disk.proofs.Made.{call_serves, serves_then, serves_cut}

take-more : (writes : List Write) (i : ℕ) (write : Write) → slice_get writes i ≡ Some write → take (suc i) writes ≡ take i writes ++ write ∷ []
take-more [] i write at = absurd cc
take-more (first ∷ writes) zero write at = let same : first ≡ write = cc in ap (λ w. w ∷ []) same
take-more (first ∷ writes) (suc i) write at = ap (λ ws. first ∷ ws) (take-more writes i write at)

asked-more : (writes : List Write) (i : ℕ) (write : Write) → slice_get writes i ≡ Some write → map ToWrite (take i writes) ++ ToWrite write ∷ [] ≡ map ToWrite (take (i + 1) writes)
asked-more writes i write at = sym (map-append ToWrite (take i writes) (write ∷ [])) ∙ ap (map ToWrite) (sym (take-more writes i write at) ∙ ap (λ n. take n writes) (sym (add-one i)))

asked-all : (writes : List Write) (i : ℕ) → map ToWrite (take i writes) ++ map ToWrite (drop i writes) ≡ map ToWrite writes
asked-all writes i = sym (map-append ToWrite (take i writes) (drop i writes)) ∙ ap (map ToWrite) (take-append-drop i writes)

-- one more of the writes
pub writes-more : {D : Type 0} (gives : D → Call → D → Type 0) (old middle new : D) (writes : List Write) (i : ℕ) (write : Write) (answer : Answer) → slice_get writes i ≡ Some write
    → MakesCalls gives old middle (Serve (map ToWrite (take i writes)) None) → MakesCall gives middle (Writes write answer) new
    → MakesCalls gives old new (Serve (map ToWrite (take (i + 1) writes)) (error_of answer))
writes-more gives old middle new writes i write answer at before given =
    subst (λ (asked : List Request). MakesCalls gives old new (Serve asked (error_of answer))) (asked-more writes i write at) (serves_then before (call_serves given))

-- and it failed
pub writes-cut : {D : Type 0} (gives : D → Call → D → Type 0) (old middle new : D) (writes : List Write) (i : ℕ) (write : Write) (error : DevError) → slice_get writes i ≡ Some write
    → MakesCalls gives old middle (Serve (map ToWrite (take i writes)) None) → MakesCall gives middle (Writes write (Err error)) new
    → MakesCalls gives old new (Serve (map ToWrite writes) (Some error))
writes-cut gives old middle new writes i write error at before given =
    subst (λ (asked : List Request). MakesCalls gives old new (Serve asked (Some error))) (asked-all writes (i + 1))
    (serves_cut (map ToWrite (drop (i + 1) writes)) (writes-more gives old middle new writes i write (Err error) at before given))
