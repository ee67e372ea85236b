-- Texts that are joined by a byte are cut there again.
use Rattle.std.proofs.Common.{ℕ, ◌≡◌, ◌==◌, false, List, [], ◌∷◌, ◌++◌, refl, ap, sym, ◌∙◌, append_assoc}
use Rattle.std.specs.List.{AllByRecursion, join_with_byte, slice_split}
use Rattle.std.proofs.lemmas.Bool.{eq-eqb}
use Rattle.std.proofs.lemmas.List.Elements.{All-append, All-cons, All-nil}
use Rattle.std.proofs.lemmas.List.Splits.{slice_split_none, slice_split_at}
use Rattle.redo_script.specs.Cut.{Lacks}

-- a byte that neither the texts have nor joins them
pub lacks_joined : (byte joint : ℕ) (texts : List (List ℕ)) → (joint == byte) ≡ false
    → AllByRecursion (Lacks byte) texts → Lacks byte (join_with_byte joint texts)
lacks_joined byte joint [] other lack = All-nil (λ each. (each == byte) ≡ false)
lacks_joined byte joint (text ∷ []) other lack = lack.0
lacks_joined byte joint (text ∷ second ∷ texts) other lack =
    let rest = join_with_byte joint (second ∷ texts) in
    All-append (λ each. (each == byte) ≡ false) text (joint ∷ rest) lack.0
    (All-cons (λ each. (each == byte) ≡ false) joint rest other (lacks_joined byte joint (second ∷ texts) other lack.1))

pub slice_split-joined : (joint : ℕ) (text : List ℕ) (texts : List (List ℕ)) → Lacks joint text
    → AllByRecursion (Lacks joint) texts
    → slice_split (λ byte. byte == joint) (join_with_byte joint (text ∷ texts)) ≡ text ∷ texts
slice_split-joined joint text [] lacks lack = slice_split_none (λ byte. byte == joint) text lacks
slice_split-joined joint text (second ∷ texts) lacks lack =
    slice_split_at (λ byte. byte == joint) text joint (join_with_byte joint (second ∷ texts)) lacks (eq-eqb joint joint refl)
    ∙ ap (λ parts. text ∷ parts) (slice_split-joined joint second texts lack.0 lack.1)

-- what stands before the texts belongs to the first
pub joined_behind : (joint : ℕ) (front text : List ℕ) (texts : List (List ℕ))
    → front ++ join_with_byte joint (text ∷ texts) ≡ join_with_byte joint ((front ++ text) ∷ texts)
joined_behind joint front text [] = refl
joined_behind joint front text (second ∷ texts) = sym (append_assoc front text (joint ∷ join_with_byte joint (second ∷ texts)))
