-- The first line of a text, and the end of a line.
use Rattle.std.proofs.Common.{◌≡◌, ℕ, suc, zero, ◌+◌, ◌<◌, ◌≤◌, Bool, true, false, not, cond, eqb, List, [], ◌∷◌, ◌++◌, length, map, take, drop, None, Some, position, refl, sym, ap, subst, ◌∙◌, arith, add-one}
use Rattle.std.proofs.lemmas.Bool.{eq-eqb, ne_eqb, ltb-false}
use Rattle.std.proofs.lemmas.List.{take_all, drop_all, nil_from_length, length-map}
use Rattle.std.proofs.lemmas.List.FromFn.{length-enumerate_from}
use Rattle.std.proofs.lemmas.Option.{none-some, cond_some}
use Rattle.std.specs.List.{position_or_len, enumerate_from}
use Rattle.model_base.specs.{fed_lines, lines_of, onto_first, without_return}
use Rattle.redo_io.specs.Lines.{numbered_from}

-- the place of the first line feed, or the length
abbrev end_of : List ℕ → ℕ
end_of text = position_or_len (λ byte. eqb byte 10) text

-- the first line ends before the first line feed
fed_lines_first : (byte : ℕ) (bytes : List ℕ) →
    fed_lines (byte ∷ bytes) ≡ take (end_of (byte ∷ bytes)) (byte ∷ bytes) ∷ fed_lines (drop (suc (end_of (byte ∷ bytes))) (byte ∷ bytes))
fed_lines_first byte [] =
    elim (eqb byte 10) as (λ feed.
    cond feed ([] ∷ []) ((byte ∷ []) ∷ [])
    ≡ take (cond (not feed) (suc zero) zero) (byte ∷ []) ∷ fed_lines (drop (suc (cond (not feed) (suc zero) zero)) (byte ∷ [])))
    [ true ↦ refl | false ↦ refl ]
fed_lines_first byte (next ∷ bytes) =
    let text = next ∷ bytes in
    let one_on : 1 + end_of text ≡ suc (end_of text) = omega arith in
    elim (eqb byte 10) as (λ feed.
    cond feed ([] ∷ fed_lines text) (onto_first byte (fed_lines text))
    ≡ take (cond (not feed) (1 + end_of text) 0) (byte ∷ text) ∷ fed_lines (drop (suc (cond (not feed) (1 + end_of text) 0)) (byte ∷ text)))
    [ true ↦ refl | false ↦ rw one_on (ap (onto_first byte) (fed_lines_first next bytes)) ]

onto_either : (b : Bool) (x : ℕ) (xs ys : List ℕ) → x ∷ cond b xs ys ≡ cond b (x ∷ xs) (x ∷ ys)
onto_either true x xs ys = refl
onto_either false x xs ys = refl

-- the last byte of a line decides
without_return_last : (front : List ℕ) (last : ℕ) → without_return (front ++ last ∷ []) ≡ cond (eqb last 13) front (front ++ last ∷ [])
without_return_last [] last = refl
without_return_last (x ∷ []) last = onto_either (eqb last 13) x [] (last ∷ [])
without_return_last (x ∷ y ∷ front) last =
    ap (λ line. x ∷ line) (without_return_last (y ∷ front) last) ∙ onto_either (eqb last 13) x (y ∷ front) (y ∷ (front ++ last ∷ []))

pub return_dropped : (line front : List ℕ) (last : ℕ) → line ≡ front ++ last ∷ [] → last ≡ 13 → front ≡ without_return line
return_dropped line front last is returns =
    sym (ap without_return is ∙ without_return_last front last ∙ ap (λ b. cond b front (front ++ last ∷ [])) (eq-eqb last 13 returns))

pub nothing_dropped : (line front : List ℕ) (last : ℕ) → line ≡ front ++ last ∷ [] → (last ≡ 13 → ⊥) → line ≡ without_return line
nothing_dropped line front last is other =
    is ∙ sym (ap without_return is ∙ without_return_last front last ∙ ap (λ b. cond b front (front ++ last ∷ [])) (ne_eqb last 13 other))

-- what stands before the first line feed, and the text after it
pub first_line_at : (text : List ℕ) (end : ℕ) → position (λ byte. eqb byte 10) text ≡ Some end → fed_lines text ≡ take end text ∷ fed_lines (drop (end + 1) text)
first_line_at [] end found = absurd (none-some end found)
first_line_at (byte ∷ bytes) end found =
    let text = byte ∷ bytes in
    let first : fed_lines text ≡ take end text ∷ fed_lines (drop (suc end) text) =
    subst (λ k. fed_lines text ≡ take k text ∷ fed_lines (drop (suc k) text)) (cond_some _ _ _ found).1 (fed_lines_first byte bytes) in
    rw add-one first

false_from_cond_none : (b : Bool) (x : ℕ) → cond b (Some x) None ≡ None → b ≡ false
false_from_cond_none true x none = absurd (none-some x (sym none))
false_from_cond_none false x none = refl

-- a text without a line feed is one line
pub only_line : (text : List ℕ) → position (λ byte. eqb byte 10) text ≡ None → 0 < length text → fed_lines text ≡ text ∷ []
only_line [] none some = absurd (omega arith)
only_line (byte ∷ bytes) none some =
    let text = byte ∷ bytes in
    let past : length text ≤ end_of text = ltb-false _ _ (false_from_cond_none _ _ none) in
    fed_lines_first byte bytes
    ∙ ap (λ line. line ∷ fed_lines (drop (suc (end_of text)) text)) (take_all (end_of text) text past)
    ∙ ap (λ rest. text ∷ fed_lines rest) (drop_all (suc (end_of text)) text (omega arith))

-- an empty text has no line
pub numbered_none : (number : ℕ) (text : List ℕ) → length text ≡ 0 → numbered_from number text ≡ []
unfolding lines_of
numbered_none number text none = ap (numbered_from number) (nil_from_length text none)

-- the first line has the first number, and the lines of what stands after it go on from the next
pub numbered_first : (number : ℕ) (text line rest shown : List ℕ) → fed_lines text ≡ line ∷ fed_lines rest → shown ≡ without_return line
    → numbered_from number text ≡ (number, shown) ∷ numbered_from (number + 1) rest
unfolding lines_of
numbered_first number text line rest shown first is =
    ap (λ lines. enumerate_from number (map without_return lines)) first
    ∙ ap (λ bytes. (number, bytes) ∷ numbered_from (number + 1) rest) (sym is)

few_onto_first : (byte : ℕ) (lines : List (List ℕ)) → length (onto_first byte lines) ≤ suc (length lines)
few_onto_first byte [] = omega arith
few_onto_first byte (line ∷ lines) = omega arith

few_fed_lines : (text : List ℕ) → length (fed_lines text) ≤ length text
few_fed_lines [] = omega arith
few_fed_lines (byte ∷ bytes) =
    elim (eqb byte 10) as (λ feed. length (cond feed ([] ∷ fed_lines bytes) (onto_first byte (fed_lines bytes))) ≤ suc (length bytes))
    [ true ↦ omega (arith, few_fed_lines bytes) | false ↦ omega (arith, few_fed_lines bytes, few_onto_first byte (fed_lines bytes)) ]

-- each line takes a byte at least
pub few_lines : (number : ℕ) (text : List ℕ) → length (numbered_from number text) ≤ length text
unfolding lines_of
few_lines number text =
    omega (arith, length-enumerate_from number (map without_return (fed_lines text)), length-map (fed_lines text) without_return, few_fed_lines text)
