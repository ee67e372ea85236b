-- The fields of a record, one by one.
use Rattle.std.proofs.Common.{◌≡◌, ℕ, ◌+◌, ◌-◌, ◌*◌, ◌/◌, ◌%◌, ◌<◌, ◌≤◌, List, [], ◌∷◌, ◌++◌, length, get_or, take, drop, replicate, All, inl, inr, refl, sym, ap, subst, ◌∙◌, arith, length-append}
use Rattle.std.specs.Int.{bytes_high_first}
use Rattle.std.proofs.lemmas.List.{take_at, length-replicate, take-append-drop, length-take}
use Rattle.std.proofs.lemmas.List.Elements.{All-append, All-replicate, All-from_get_or, All-take}
use Rattle.model_base.specs.{BeginsWith, IsFrontOf, spelling32}
use Rattle.model_log.specs.{IsBody, IsByte, IsLength, IsRecord, IsShort}
use Rattle.redo_record.specs.Reading.{Begins, IsPartOf, IsNone}
use Rattle.model_log.specs.declared.rec.Rec.TheVariants.{Init}
use Rattle.model_log.proofs.Records.{IsNothing}
use Rattle.redo_record.proofs.Sequence.{front_cases}

-- no spelling goes on as the bytes do, where none begins them and they are no front of one
pub spelled_none : (Spells : List ℕ → ℕ → Type 0) (bytes : List ℕ) → ((n len : ℕ) → BeginsWith Spells bytes n len → ⊥) → (IsFrontOf Spells bytes → ⊥) → IsNone Spells bytes
spelled_none Spells bytes none whole = λ text rest more n is e.
    elim (front_cases text rest bytes more e) [
      | inl w ↦
          let long : length text ≤ length bytes = omega (arith, ap length w.1, length-append text w.0) in
          let front : text ≡ take (length text) bytes = sym (ap (take (length text)) w.1 ∙ take_at text w.0 (length text) refl) in
          none n (length text) (long, subst (λ (t : List ℕ). Spells t n) front is)
      | inr w ↦ whole (w.0, n, w.1, subst (λ (t : List ℕ). Spells t n) w.2 is)
    ]

-- the two bytes of a number
two_bytes : (high low : ℕ) → high < 256 → low < 256 → high ∷ low ∷ [] ≡ bytes_high_first 2 (256 * high + low)
two_bytes high low hi lo =
    let first : high ≡ (256 * high + low) / 256 % 256 = omega arith in
    let second : low ≡ (256 * high + low) % 256 = omega arith in
    cc

-- less than two bytes are a front of two
pub short_part : (bytes : List ℕ) → ((i : ℕ) → get_or bytes i 0 < 256) → length bytes < 2 → IsPartOf IsShort bytes
short_part [] fits below = record { more = 0 ∷ 0 ∷ []; value = 0; some = λ e. absurd cc; is_text = record { small = omega arith; spelled = refl } }
short_part (high ∷ []) fits below =
    let byte : high < 256 = fits 0 in
    record {
      more = 0 ∷ [];
      value = 256 * high + 0;
      some = λ e. absurd cc;
      is_text = record { small = omega arith; spelled = two_bytes high 0 byte (omega arith) };
    }
short_part (high ∷ low ∷ bytes) fits below = absurd (omega arith)

-- less than two bytes are a front of a length, which isn't 0
pub length_part : (bytes : List ℕ) → ((i : ℕ) → get_or bytes i 0 < 256) → length bytes < 2 → IsPartOf IsLength bytes
length_part [] fits below = record { more = 0 ∷ 1 ∷ []; value = 1; some = λ e. absurd cc; is_text = record { some = omega arith; short = record { small = omega arith; spelled = refl } } }
length_part (high ∷ []) fits below =
    let byte : high < 256 = fits 0 in
    record {
      more = 1 ∷ [];
      value = 256 * high + 1;
      some = λ e. absurd cc;
      is_text = record { some = omega arith; short = record { small = omega arith; spelled = two_bytes high 1 byte (omega arith) } };
    }
length_part (high ∷ low ∷ bytes) fits below = absurd (omega arith)

-- the bytes of a slice are bytes
pub are_bytes : (bytes : List ℕ) → ((i : ℕ) → get_or bytes i 0 < 256) → All IsByte bytes
are_bytes bytes fits = All-from_get_or IsByte bytes 0 (λ i below. fits i)

-- fewer bytes than the string has are a front of one
pub body_part : (number : ℕ) (bytes : List ℕ) → ((i : ℕ) → get_or bytes i 0 < 256) → length bytes < number → IsPartOf (IsBody number) bytes
body_part number bytes fits below =
    let zeros : List ℕ = replicate (number - length bytes) 0 in
    let count : length zeros ≡ number - length bytes = length-replicate (number - length bytes) 0 in
    record {
      more = zeros;
      value = bytes ++ zeros;
      some = λ e. absurd (omega (arith, count, ap length e));
      is_text = record {
        long = omega (arith, length-append bytes zeros, count);
        each = All-append IsByte bytes zeros (are_bytes bytes fits) (All-replicate IsByte (number - length bytes) 0 (omega arith));
        spelled = refl;
      };
    }

-- enough bytes begin with a string
pub body_begins : (number : ℕ) (bytes string : List ℕ) → ((i : ℕ) → get_or bytes i 0 < 256) → number ≤ length bytes → string ≡ take number bytes → Begins (IsBody number) bytes string (drop number bytes)
body_begins number bytes string fits long is =
    record {
      text = take number bytes;
      is_text = record {
        long = omega (arith, ap length is, length-take number bytes);
        each = subst (All IsByte) (sym is) (All-take IsByte number bytes (are_bytes bytes fits));
        spelled = sym is;
      };
      parts = sym (take-append-drop number bytes);
    }

-- nothing, in front of anything
pub nothing_begins : (rest : List ℕ) → Begins IsNothing rest tt rest
nothing_begins rest = record { text = []; is_text = record { empty = refl }; parts = refl }

-- nothing is the front of a record
pub record_part : (flag : ℕ) (bytes : List ℕ) → length bytes < 1 → IsPartOf (IsRecord flag) bytes
record_part flag [] below = record {
  more = (flag + 59) ∷ (spelling32 0 ++ spelling32 0 ++ []);
  value = Init 0 0;
  some = λ e. absurd cc;
  is_text = record { has_text = (omega arith, omega arith); spelled = refl };
}
record_part flag (byte ∷ bytes) below = absurd (omega arith)
