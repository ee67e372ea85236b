-- Where a text is cut.
use Rattle.std.proofs.Common.{ℕ, ◌≡◌, ◌==◌, ◌+◌, ◌-◌, ◌<◌, ◌≤◌, Bool, true, false, not, cond, ltb, List, [], ◌∷◌, ◌++◌, Some, None, length, take, drop, get_or, refl, ap, sym, ◌∙◌, arith}
use Rattle.std.specs.List.{position, position_or_len, slice_split}
use Rattle.std.proofs.lemmas.Bool.{eqb-true, eq-eqb}
use Rattle.std.proofs.lemmas.Bool.Decides.{nat_tests}
use Rattle.std.proofs.lemmas.List.{take-append-drop, drop_more, take_rest, get_or-take, get_or_default, length-take-le}
use Rattle.std.proofs.lemmas.List.Quantifiers.{position-Some}
use Rattle.std.proofs.lemmas.List.Splits.{slice_split_none, slice_split_at}
use Rattle.std.proofs.lemmas.List.Sums.{prefix_len_passes}
use Rattle.redo_script.specs.Cut.{Lacks}

-- the text is cut where the byte first stands
pub cut_at : (text : List ℕ) (byte at : ℕ) → position (λ other. other == byte) text ≡ Some at → (text ≡ take at text ++ byte ∷ take (length text - (at + 1)) (drop (at + 1) text)) × Lacks byte (take at text)
cut_at text byte at found =
    let facts = position-Some (λ other. other == byte) text at 0 found in
    let here : get_or text at 0 ≡ byte = eqb-true (get_or text at 0) byte facts.1 in
    let behind = drop_more text at 0 facts.0 ∙ ap (λ other. other ∷ drop (at + 1) text) here ∙ ap (λ rest. byte ∷ rest) (sym (take_rest text (at + 1))) in
    let long : length (take at text) ≡ at = length-take-le at text (omega arith) in (
      sym (take-append-drop at text) ∙ ap (λ rest. take at text ++ rest) behind,
      λ k d below.
          let before : k < at = omega arith in
          let read = get_or-take at text k d before ∙ get_or_default text k d 0 (omega arith) in
          ap (λ other. other == byte) read ∙ facts.2 k before,
    )

not_true : (b : Bool) → not b ≡ true → b ≡ false
not_true true e = sym e
not_true false e = refl

all_before : (here long : ℕ) → cond (ltb here long) (Some here) None ≡ None → long ≤ here
all_before here long none = grind (arith, nat_tests)

-- it isn't cut
pub cut_none : (text : List ℕ) (byte : ℕ) → position (λ other. other == byte) text ≡ None → Lacks byte text
cut_none text byte none k d below =
    let over = all_before (position_or_len (λ other. other == byte) text) (length text) none in
    not_true (get_or text k d == byte) (prefix_len_passes (λ other. not (other == byte)) text k d (omega arith))

-- the parts of a text that is cut
pub slice_split-cut_at : (text : List ℕ) (byte at : ℕ) → position (λ other. other == byte) text ≡ Some at → slice_split (λ other. other == byte) text ≡ take at text ∷ slice_split (λ other. other == byte) (take (length text - (at + 1)) (drop (at + 1) text))
slice_split-cut_at text byte at found =
    let facts = cut_at text byte at found in
    ap (slice_split (λ other. other == byte)) facts.0
    ∙ slice_split_at (λ other. other == byte) (take at text) byte (take (length text - (at + 1)) (drop (at + 1) text)) facts.1 (eq-eqb byte byte refl)

pub slice_split-cut_none : (text : List ℕ) (byte : ℕ) → position (λ other. other == byte) text ≡ None → slice_split (λ other. other == byte) text ≡ text ∷ []
slice_split-cut_none text byte none = slice_split_none (λ other. other == byte) text (cut_none text byte none)

pub ruleset cuts = (cut_at, cut_none)
