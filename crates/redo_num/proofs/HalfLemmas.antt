-- What the bytes at hand say of a number of two halves that begins with them.
use Rattle.std.proofs.Common.{◌≡◌, ℕ, ◌+◌, ◌-◌, ◌*◌, ◌/◌, ◌%◌, ◌^◌, ◌<◌, ◌≤◌, List, ◌++◌, length, take, drop, refl, sym, ap, ◌∙◌, arith, inl, inr, length-append}
use Rattle.std.proofs.lemmas.Bool.{cases_lt}
use Rattle.std.proofs.lemmas.List.{append_assoc, take_at, take-take, length-take, length-take-le, length-drop, take-append-drop, take-append-le, drop-take}
use Rattle.std.specs.Int.{bytes_high_first}
use Rattle.model_base.specs.declared.got.Got.TheVariants.{Value, Short, Bad}
use Rattle.model_base.specs.{Gives, spelling32, spelling64, Spells32, Spells64}
use Rattle.model_base.proofs.ByteLemmas.{AreBytes, AreBytes-of_number, AreBytes-append, AreBytes-drop, AreBytes-take, bytes-number, length-bytes_high_first, number_onto, number-lt, pow256_le}
use Rattle.redo_num.proofs.ReadLemmas.{not_nil}

-- the spelling of a number by its halves
spells_halves : (front behind : List ℕ) (high low : ℕ) → Spells32 front high → low < 2 ^ 32 → behind ≡ bytes_high_first 4 low
    → Spells64 (front ++ behind) (high * 2 ^ 32 + low)
unfolding spelling64
spells_halves front behind high low spells small is =
    let n = high * 2 ^ 32 + low in
    let top : n / 2 ^ 32 ≡ high = omega arith in
    let bottom : n % 2 ^ 32 ≡ low = omega arith in
    let below = spells.small in
    record { small = omega arith; spelled = rw (top, bottom, spells.spelled, is) refl }

four_bytes : (bytes : List ℕ) → AreBytes bytes → length bytes ≡ 4 → (number_onto 0 bytes < 2 ^ 32) × (bytes ≡ bytes_high_first 4 (number_onto 0 bytes))
four_bytes bytes all len =
    let below = number-lt bytes all in
    let size : 256 ^ length bytes ≡ 2 ^ 32 = rw len refl in
    (omega arith, sym (rw len at (bytes-number bytes all)))

take-parts : (j m : ℕ) (xs : List ℕ) → take (j + m) xs ≡ take j xs ++ take m (drop j xs)
take-parts j m xs = sym (take-append-drop j (take (j + m) xs)) ∙ rw (take-take j (j + m) xs (omega arith), drop-take j m xs) refl

pub read_both : (bytes : List ℕ) → AreBytes bytes → (high len : ℕ) → Gives Spells32 bytes (Value high len) → len + 4 ≤ length bytes
    → Gives Spells64 bytes (Value (high * 2 ^ 32 + number_onto 0 (take 4 (drop len bytes))) (len + 4))
read_both bytes all high len gives long =
    let behind = take 4 (drop len bytes) in
    let tail = length-drop len bytes in
    let size : length behind ≡ 4 = length-take-le 4 (drop len bytes) (omega arith) in
    let four = four_bytes behind (AreBytes-take 4 (drop len bytes) (AreBytes-drop len bytes all)) size in
    (long, rw (take-parts len 4 bytes) (spells_halves (take len bytes) behind high (number_onto 0 behind) gives.1 four.0 four.1))

pub read_half : (bytes : List ℕ) → AreBytes bytes → (high len : ℕ) → Gives Spells32 bytes (Value high len) → length bytes < len + 4
    → Gives Spells64 bytes Short
read_half bytes all high len gives short =
    let behind = drop len bytes in
    let tail = length-drop len bytes in
    let within = gives.0 in
    let missing = 4 - length behind in
    let pad = bytes_high_first missing 0 in
    let size = length-bytes_high_first missing 0 in
    let whole : length (behind ++ pad) ≡ 4 = omega (arith, length-append behind pad) in
    let bytes4 = AreBytes-append behind pad (AreBytes-drop len bytes all) (AreBytes-of_number missing 0) in
    let four = four_bytes (behind ++ pad) bytes4 whole in
    let spells = spells_halves (take len bytes) (behind ++ pad) high (number_onto 0 (behind ++ pad)) gives.1 four.0 four.1 in
    let join : bytes ++ pad ≡ take len bytes ++ (behind ++ pad) =
    ap (λ (s : List ℕ). s ++ pad) (sym (take-append-drop len bytes)) ∙ append_assoc (take len bytes) behind pad in
    (pad, high * 2 ^ 32 + number_onto 0 (behind ++ pad), not_nil pad (omega arith), rw join spells)

pub read_front : (bytes : List ℕ) → Gives Spells32 bytes Short → Gives Spells64 bytes Short
read_front bytes gives =
    let rest = gives.0 in
    let high = gives.1 in
    let behind = bytes_high_first 4 0 in
    let spells = spells_halves (bytes ++ rest) behind high 0 gives.3 (omega arith) refl in
    let join : bytes ++ (rest ++ behind) ≡ bytes ++ rest ++ behind = sym (append_assoc bytes rest behind) in
    (rest ++ behind, high * 2 ^ 32 + 0, not_nil (rest ++ behind) (omega (arith, length-append rest behind)), rw join spells)

-- the high half of a spelling
high_half : (bytes : List ℕ) (n : ℕ) → Spells64 bytes n → (bytes ≡ spelling32 (n / 2 ^ 32) ++ bytes_high_first 4 (n % 2 ^ 32)) × (n / 2 ^ 32 < 2 ^ 32)
unfolding spelling64
high_half bytes n spells = let small = spells.small in (spells.spelled, omega arith)

pub read_bad : (bytes : List ℕ) → Gives Spells32 bytes Bad → Gives Spells64 bytes Bad
read_bad bytes gives = (
  λ n len begins.
      let half = high_half (take len bytes) n begins.1 in
      let high = n / 2 ^ 32 in
      let s = spelling32 high in
      let low = bytes_high_first 4 (n % 2 ^ 32) in
      let size = length-take-le len bytes begins.0 in
      let within = begins.0 in
      let len_is : len ≡ length s + 4 = sym size ∙ ap length half.0 ∙ length-append s low in
      let front : take (length s) bytes ≡ s =
      sym (take-take (length s) len bytes (omega arith)) ∙ ap (take (length s)) half.0 ∙ take_at s low (length s) refl in
      gives.0 high (length s) (omega arith, record { small = half.1; spelled = front }),
  λ unfinished.
      let rest = unfinished.0 in
      let n = unfinished.1 in
      let half = high_half (bytes ++ rest) n unfinished.3 in
      let high = n / 2 ^ 32 in
      let s = spelling32 high in
      let low = bytes_high_first 4 (n % 2 ^ 32) in
      elim (cases_lt (length bytes) (length s)) [
        | inl short ↦
            let front : bytes ≡ take (length bytes) s =
            sym (take_at bytes rest (length bytes) refl) ∙ ap (take (length bytes)) half.0 ∙ take-append-le (length bytes) s low (omega arith) in
            let left = drop (length bytes) s in
            let size = length-drop (length bytes) s in
            let join : bytes ++ left ≡ s = ap (λ (x : List ℕ). x ++ left) front ∙ take-append-drop (length bytes) s in
            gives.1 (left, high, not_nil left (omega arith), record { small = half.1; spelled = join })
        | inr long ↦
            let front : take (length s) bytes ≡ s =
            sym (take-append-le (length s) bytes rest long) ∙ ap (take (length s)) half.0 ∙ take_at s low (length s) refl in
            gives.0 high (length s) (long, record { small = half.1; spelled = front })
      ],
)

-- four bytes are below 2^32
pub low_half_fits : (bytes : List ℕ) → AreBytes bytes → (at : ℕ) → number_onto 0 (take 4 (drop at bytes)) < 2 ^ 32
low_half_fits bytes all at =
    let behind = take 4 (drop at bytes) in
    let below = number-lt behind (AreBytes-take 4 (drop at bytes) (AreBytes-drop at bytes all)) in
    let few : length behind ≤ 4 = omega (arith, length-take 4 (drop at bytes)) in
    let most = pow256_le (length behind) 4 few in
    omega arith
