-- The bytes of a number, the highest first, and the number that bytes make.
use Rattle.std.proofs.Common.{◌≡◌, ℕ, zero, suc, ◌+◌, ◌-◌, ◌*◌, ◌%◌, ◌^◌, ◌<◌, ◌≤◌, List, [], ◌∷◌, ◌++◌, length, get_or, take, drop, fold, Fits, w8, refl, sym, ap, ◌∙◌, arith, inl, inr, pow-suc, mul_comm, length-append}
use Rattle.std.proofs.Math.Nat.{pow-succ', pow-le-pow_right, one-le-pow, mul-le-mul_right, mod-eq_of_lt}
use Rattle.std.proofs.Math.Arith.{mod-mul}
use Rattle.std.proofs.lemmas.Bool.{cases_lt}
use Rattle.std.proofs.lemmas.List.{length-take-le, take-append-drop}
use Rattle.std.proofs.lemmas.List.Sums.{fold-append, fold_more}
use Rattle.std.proofs.lemmas.Nat.{pow-add, same_from_place}
use Rattle.std.specs.Int.{byte_at, bytes_high_first}

-- the number that these bytes make after those that made `high`
abbrev pub number_onto : ℕ → List ℕ → ℕ
number_onto high bytes = fold (λ number byte. number * 256 + byte) high bytes

-- each is a byte
abbrev pub AreBytes : List ℕ → Type 0
AreBytes bytes = (i : ℕ) → get_or bytes i 0 < 256

pub AreBytes-tail : (byte : ℕ) (bytes : List ℕ) → AreBytes (byte ∷ bytes) → AreBytes bytes
AreBytes-tail byte bytes all = λ i. all (suc i)

pub AreBytes-cons : (byte : ℕ) (bytes : List ℕ) → byte < 256 → AreBytes bytes → AreBytes (byte ∷ bytes)
AreBytes-cons byte bytes first rest zero = first
AreBytes-cons byte bytes first rest (suc i) = rest i

pub byte_at-lt : (k n : ℕ) → byte_at k n < 256
byte_at-lt zero n = omega arith
byte_at-lt (suc k) n = omega arith

pub AreBytes-of_number : (k n : ℕ) → AreBytes (bytes_high_first k n)
AreBytes-of_number zero n = λ i. omega arith
AreBytes-of_number (suc k) n =
    AreBytes-cons (byte_at k n) (bytes_high_first k n) (byte_at-lt k n) (AreBytes-of_number k n)

pub length-bytes_high_first : (k n : ℕ) → length (bytes_high_first k n) ≡ k
length-bytes_high_first zero n = refl
length-bytes_high_first (suc k) n = ap suc (length-bytes_high_first k n)

pub pow256_pos : (k : ℕ) → 0 < 256 ^ k
pow256_pos k = let some = one-le-pow k 256 (omega arith) in omega arith

-- one more byte in front of the low k bytes
byte_on : (k n high : ℕ) → (high * 256 + byte_at k n) * 256 ^ k + n % 256 ^ k ≡ high * 256 ^ suc k + n % 256 ^ suc k
byte_on zero n high = omega arith
byte_on (suc k) n high =
    let unit = 256 ^ suc k in
    let wider : 256 ^ suc (suc k) ≡ 256 * unit = pow-suc 256 (suc k) ∙ mul_comm unit 256 in
    rw (wider, mod-mul n {m = 256} {c = unit} (omega arith) (pow256_pos (suc k))) (omega arith)

-- the number that the lowest k bytes of a number make
pub number_onto-bytes : (k n high : ℕ) → number_onto high (bytes_high_first k n) ≡ high * 256 ^ k + n % 256 ^ k
number_onto-bytes zero n high = omega arith
number_onto-bytes (suc k) n high = number_onto-bytes k n (high * 256 + byte_at k n) ∙ byte_on k n high

pub number-bytes : (k n : ℕ) → n < 256 ^ k → number_onto 0 (bytes_high_first k n) ≡ n
number-bytes k n small = number_onto-bytes k n 0 ∙ omega (arith, mod-eq_of_lt small)

pub number_onto-high : (high : ℕ) (bytes : List ℕ) → number_onto high bytes ≡ high * 256 ^ length bytes + number_onto 0 bytes
number_onto-high high [] = omega arith
number_onto-high high (byte ∷ bytes) =
    let unit = 256 ^ length bytes in
    let wider = pow-succ' 256 (length bytes) in
    let here = number_onto-high (high * 256 + byte) bytes in
    let low = number_onto-high (0 * 256 + byte) bytes in
    rw (here, low, wider) (omega arith)

pub number-append : (xs ys : List ℕ) → number_onto 0 (xs ++ ys) ≡ number_onto 0 xs * 256 ^ length ys + number_onto 0 ys
number-append xs ys = fold-append (λ number byte. number * 256 + byte) 0 xs ys ∙ number_onto-high (number_onto 0 xs) ys

pub number-lt : (bytes : List ℕ) → AreBytes bytes → number_onto 0 bytes < 256 ^ length bytes
number-lt [] all = omega arith
number-lt (byte ∷ bytes) all =
    let first = all 0 in
    let rest = number-lt bytes (AreBytes-tail byte bytes all) in
    let unit = 256 ^ length bytes in
    let wider = pow-succ' 256 (length bytes) in
    let low = number_onto-high (0 * 256 + byte) bytes in
    let top : byte * unit ≤ 255 * unit = mul-le-mul_right unit (omega arith) in
    rw (low, wider) (omega arith)

-- bytes are known by their length and their number
pub same_bytes : (xs ys : List ℕ) → AreBytes xs → AreBytes ys → length xs ≡ length ys → number_onto 0 xs ≡ number_onto 0 ys → xs ≡ ys
same_bytes [] [] bx by len number = refl
same_bytes [] (y ∷ ys) bx by len number = absurd (omega arith)
same_bytes (x ∷ xs) [] bx by len number = absurd (omega arith)
same_bytes (x ∷ xs) (y ∷ ys) bx by len number =
    let ax = AreBytes-tail x xs bx in
    let ay = AreBytes-tail y ys by in
    let same : length xs ≡ length ys = omega arith in
    let lx = number-lt xs ax in
    let ly : number_onto 0 ys < 256 ^ length xs = rw same (number-lt ys ay) in
    let hx = number_onto-high (0 * 256 + x) xs in
    let hy : number_onto (0 * 256 + y) ys ≡ (0 * 256 + y) * 256 ^ length xs + number_onto 0 ys = rw same (number_onto-high (0 * 256 + y) ys) in
    let parts = same_from_place x (number_onto 0 xs) y (number_onto 0 ys) (256 ^ length xs) lx ly (omega arith) in
    let rest = same_bytes xs ys ax ay same parts.1 in
    rw (parts.0, rest) refl

-- bytes are those of their number
pub bytes-number : (bytes : List ℕ) → AreBytes bytes → bytes_high_first (length bytes) (number_onto 0 bytes) ≡ bytes
bytes-number bytes all =
    let n = number_onto 0 bytes in
    same_bytes (bytes_high_first (length bytes) n) bytes (AreBytes-of_number (length bytes) n) all (length-bytes_high_first (length bytes) n) (number-bytes (length bytes) n (number-lt bytes all))

pub AreBytes-append : (xs ys : List ℕ) → AreBytes xs → AreBytes ys → AreBytes (xs ++ ys)
AreBytes-append [] ys bx by = by
AreBytes-append (x ∷ xs) ys bx by =
    AreBytes-cons x (xs ++ ys) (bx 0) (AreBytes-append xs ys (AreBytes-tail x xs bx) by)

pub AreBytes-front : (xs ys : List ℕ) → AreBytes (xs ++ ys) → AreBytes xs
AreBytes-front [] ys all = λ i. omega arith
AreBytes-front (x ∷ xs) ys all =
    AreBytes-cons x xs (all 0) (AreBytes-front xs ys (AreBytes-tail x (xs ++ ys) all))

pub AreBytes-back : (xs ys : List ℕ) → AreBytes (xs ++ ys) → AreBytes ys
AreBytes-back [] ys all = all
AreBytes-back (x ∷ xs) ys all = AreBytes-back xs ys (AreBytes-tail x (xs ++ ys) all)

-- the bytes of a number of two parts
pub bytes-parts : (j m high low : ℕ) → high < 256 ^ j → low < 256 ^ m
    → bytes_high_first (j + m) (high * 256 ^ m + low) ≡ bytes_high_first j high ++ bytes_high_first m low
bytes-parts j m high low small_high small_low =
    let front = bytes_high_first j high in
    let back = bytes_high_first m low in
    let lf = length-bytes_high_first j high in
    let lb = length-bytes_high_first m low in
    let top : (high + 1) * 256 ^ m ≤ 256 ^ j * 256 ^ m = mul-le-mul_right (256 ^ m) (omega arith) in
    let all : 256 ^ (j + m) ≡ 256 ^ j * 256 ^ m = pow-add 256 j m in
    let fits : high * 256 ^ m + low < 256 ^ (j + m) = rw all (omega arith) in
    let len : length (bytes_high_first (j + m) (high * 256 ^ m + low)) ≡ length (front ++ back) =
    length-bytes_high_first (j + m) (high * 256 ^ m + low) ∙ omega (arith, length-append front back) in
    let nf = number-bytes j high small_high in
    let nb = number-bytes m low small_low in
    let whole = number-bytes (j + m) (high * 256 ^ m + low) fits in
    let number : number_onto 0 (front ++ back) ≡ high * 256 ^ m + low = rw (number-append front back, lb, nf, nb) refl in
    same_bytes (bytes_high_first (j + m) (high * 256 ^ m + low)) (front ++ back) (AreBytes-of_number (j + m) (high * 256 ^ m + low)) (AreBytes-append front back (AreBytes-of_number j high) (AreBytes-of_number m low)) len (whole ∙ sym number)

-- the lowest k bytes stand at the end of more
pub drop-bytes_high_first : (all k n : ℕ) → k ≤ all → drop (all - k) (bytes_high_first all n) ≡ bytes_high_first k n
drop-bytes_high_first zero k n within = let none : k ≡ 0 = omega arith in rw none refl
drop-bytes_high_first (suc all) k n within = elim (cases_lt all k) [
  | inl top ↦
      let whole : k ≡ suc all = omega arith in
      let none : suc all - k ≡ 0 = omega arith in
      rw (none, whole) refl
  | inr lower ↦
      let more : suc all - k ≡ suc (all - k) = omega arith in
      rw more (drop-bytes_high_first all k n lower)
]

pub AreBytes-take : (j : ℕ) (bytes : List ℕ) → AreBytes bytes → AreBytes (take j bytes)
AreBytes-take j bytes all = AreBytes-front (take j bytes) (drop j bytes) (rw (take-append-drop j bytes) all)

pub AreBytes-drop : (j : ℕ) (bytes : List ℕ) → AreBytes bytes → AreBytes (drop j bytes)
AreBytes-drop j bytes all = AreBytes-back (take j bytes) (drop j bytes) (rw (take-append-drop j bytes) all)

pub pow256_le : (j k : ℕ) → j ≤ k → 256 ^ j ≤ 256 ^ k
pow256_le j k within = pow-le-pow_right {n = 256} (omega arith) {i = j} {j = k} within

-- one byte more keeps the number of at most eight bytes within a word
pub number_fits : (bytes : List ℕ) → AreBytes bytes → length bytes ≤ 8 → (i : ℕ) → i < length bytes
    → number_onto 0 (take i bytes) * 256 + get_or bytes i 0 < 2 ^ 64
number_fits bytes all few i within =
    let more = fold_more (λ number byte. number * 256 + byte) 0 bytes i 0 within in
    let below = number-lt (take (i + 1) bytes) (AreBytes-take (i + 1) bytes all) in
    let size : length (take (i + 1) bytes) ≡ i + 1 = length-take-le (i + 1) bytes (omega arith) in
    let top = pow256_le (length (take (i + 1) bytes)) 8 (omega arith) in
    omega arith

pub AreBytes-from_fits : (bytes : List ℕ) → ((i : ℕ) → Fits w8 (get_or bytes i 0)) → AreBytes bytes
AreBytes-from_fits bytes fits = λ i. omega (arith, fits i)
