-- Lists of eight bytes as the lanes of a word.
use Rattle.std.proofs.Common.{List, [], ap, arith, drop, length, length-append, refl, suc, sym, take, ℕ, ◌++◌, ◌+◌, ◌-◌, ◌∙◌, ◌∷◌, ◌≡◌, ◌≤◌}
use Rattle.std.proofs.lemmas.List.{append-nil, drop-replicate, length-replicate, take-append-drop, take-replicate}
use Rattle.std.proofs.lemmas.Slice.{drop-put_mid, take-put_mid}
use Rattle.std.specs.Int.{from_le_bytes, w64}
use Rattle.std.specs.Prelude.{replicate}
use borrow.Rule.Slice.PartMut.{put_mid}
use Rattle.model_core.proofs.Lanes.{lanes_long, lanes_next, packed_is}
unfoldable use Rattle.model_core.specs.{lane, lanes, packed}

append-assoc' : (xs ys zs : List ℕ) → xs ++ (ys ++ zs) ≡ (xs ++ ys) ++ zs
append-assoc' [] ys zs = refl
append-assoc' (x ∷ xs) ys zs = ap (λ (l : List ℕ). x ∷ l) (append-assoc' xs ys zs)

-- bytes copied into eight zeros
pub filled : (a k : ℕ) (bytes ys : List ℕ) → ys ≡ bytes → length bytes ≡ k → a + k ≤ 8 → from_le_bytes w64 (put_mid a k (replicate 8 0) ys) ≡ packed a bytes
filled a k bytes ys is bytes_long fits =
    let z : List ℕ = replicate 8 0 in
    let long : length ys ≡ k = ap length is ∙ bytes_long in
    let eight : length z ≡ 8 = length-replicate {A = ℕ} 8 0 in
    let before : take (a + k) (put_mid a k z ys) ≡ replicate a 0 ++ ys = take-put_mid a k z ys (a + k) (omega arith) (omega arith) ∙ ap (λ (l : List ℕ). l ++ ys) (take-replicate {X = ℕ} a 8 0 (omega arith)) in
    let behind : drop (a + k) (put_mid a k z ys) ≡ replicate (8 - (a + k)) 0 = drop-put_mid a k z ys (a + k) (omega arith) (omega arith) long ∙ drop-replicate {X = ℕ} (a + k) 8 0 in
    ap (from_le_bytes w64) (sym (take-append-drop (a + k) (put_mid a k z ys)))
    ∙ ap (λ (l : List ℕ). from_le_bytes w64 (l ++ drop (a + k) (put_mid a k z ys))) before
    ∙ ap (λ (l : List ℕ). from_le_bytes w64 ((replicate a 0 ++ ys) ++ l)) behind
    ∙ ap (λ (l : List ℕ). from_le_bytes w64 ((replicate a 0 ++ l) ++ replicate (8 - (a + k)) 0)) is
    ∙ packed_is a (8 - (a + k)) bytes

-- lanes pushed one by one
pub pushed_none : (bytes : List ℕ) (j w : ℕ) → bytes ≡ bytes ++ lanes j 0 w
unfolding lanes
pushed_none bytes j w = sym (append-nil bytes)

pub pushed_next : (bytes before after : List ℕ) (j i w b : ℕ) → before ≡ bytes ++ lanes j i w → after ≡ before ++ b ∷ [] → b ≡ lane (j + i) w → after ≡ bytes ++ lanes j (i + 1) w
pushed_next bytes before after j i w b is next b_is =
    next ∙ ap (λ (l : List ℕ). l ++ b ∷ []) is ∙ sym (append-assoc' bytes (lanes j i w) (b ∷ [])) ∙ ap (λ (x : ℕ). bytes ++ (lanes j i w ++ x ∷ [])) b_is
    ∙ ap (λ (l : List ℕ). bytes ++ l) (sym (lanes_next j i w)) ∙ ap (λ (n : ℕ). bytes ++ lanes j n w) (let e : suc i ≡ i + 1 = omega arith in e)

pub pushed_long : (bytes before : List ℕ) (j i w : ℕ) → before ≡ bytes ++ lanes j i w → length before ≡ length bytes + i
pushed_long bytes before j i w is = ap length is ∙ length-append bytes (lanes j i w) ∙ ap (λ (n : ℕ). length bytes + n) (lanes_long j i w)
