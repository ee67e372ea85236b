-- A text, and after it another, put into a sink.
use Rattle.std.proofs.Common.{◌≡◌, ℕ, ◌+◌, ◌≤◌, ◌<◌, ◌++◌, List, length, Option, Some, None, refl, sym, ap, ◌∙◌, arith, inl, inr, append_assoc, ⊎_elim}
use Rattle.std.specs.Prelude.{take}
use Rattle.std.proofs.Math.Seq.{take-append-add}
use Rattle.std.proofs.lemmas.List.{length-append, take-append-le}
use Rattle.std.proofs.lemmas.Bool.{cases_lt}
use Rattle.model_base.specs.{HasRisen, last_count}
use Rattle.redo_io.specs.{SinkSeen, TakesPart, with_taken}
use Rattle.redo_lab.specs.Cause.{IsPutOut}

-- what is taken in two goes
taken-twice : (old : Option (List ℕ)) (first second : List ℕ) → with_taken (with_taken old first) second ≡ with_taken old (first ++ second)
taken-twice None first second = refl
taken-twice (Some taken) first second = ap Some (append_assoc taken first second)

at-last : (a b c : ℕ) → a ≤ b → b ≤ c → last_count ≤ b → HasRisen a c
at-last a b c later rest last = ⊎_elim (λ (more : a < b). inl (omega arith)) (λ (same : b ≤ a). inr (omega arith)) (cases_lt a b)

-- a count that rose after another one that didn't fall has risen
pub risen-later : (a b c : ℕ) → a ≤ b → b ≤ c → HasRisen b c → HasRisen a c
risen-later a b c later rest risen = ⊎_elim (λ (more : b < c). inl (omega arith)) (λ (last : last_count ≤ b). at-last a b c later rest last) risen

-- the whole text was put, and then the other as far as that went
pub put-behind : (old middle new : SinkSeen) (text line : List ℕ) → middle.taken ≡ with_taken old.taken text → old.faults ≤ middle.faults
    → middle.faults ≤ new.faults → IsPutOut line middle new → IsPutOut (text ++ line) old new
put-behind old middle new text line put later rest is = ⊎_elim
    (λ (all : new.taken ≡ with_taken middle.taken line). inl (all ∙ ap (λ taken. with_taken taken line) put ∙ taken-twice old.taken text line))
    (λ part. inr (
      risen-later old.faults middle.faults new.faults later rest part.0,
      (
        length text + part.1.0,
        omega (arith, length-append text line, part.1.1),
        part.1.2 ∙ ap (λ taken. with_taken taken (take part.1.0 line)) put ∙ taken-twice old.taken text (take part.1.0 line)
            ∙ ap (with_taken old.taken) (sym (take-append-add text line part.1.0)),
      ),
    ))
    is

-- only a part of the text was put
pub put-part : (old new : SinkSeen) (text line : List ℕ) → HasRisen old.faults new.faults → TakesPart old.taken text new.taken
    → IsPutOut (text ++ line) old new
put-part old new text line risen part = inr (
  risen,
  (
    part.0,
    omega (arith, length-append text line, part.1),
    part.2 ∙ ap (with_taken old.taken) (sym (take-append-le part.0 text line (omega (arith, part.1)))),
  ),
)
