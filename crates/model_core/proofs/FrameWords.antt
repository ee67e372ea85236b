-- The words of a frame: cells stored in the lanes of a word are stored in the frame's bytes.
use Rattle.std.proofs.Common.{Bool, List, [], ap, arith, cond, eq-eqb, eqb, eqb-true, get_or-set_other, get_or-set_same, length, length-append, length-set, length-take-le, ne_eqb, refl, subst, suc, sym, take, true, false, zero, ℕ, ◌%◌, ◌*◌, ◌++◌, ◌+◌, ◌-◌, ◌/◌, ◌<◌, ◌∙◌, ◌∷◌, ◌≡◌, ◌≢◌, ◌≤◌}
use Rattle.std.proofs.lemmas.List.{ext_get_or, get_or-take}
use Rattle.std.proofs.lemmas.Nat.{le_bytes_8}
use Rattle.std.specs.Int.{from_le_bytes, w64}
use Rattle.std.specs.Prelude.{get_or, slice_index, slice_set}
use native.Mathlib.Decide.{dec_le, ℕ_discrete}
use Rattle.model_base.specs.{IsPageSize}
use Rattle.model_core.proofs.Groups.{back, front}
use Rattle.model_core.proofs.Lanes.{lane_of_zero, lane_read, lane_small, lanes_are, lanes_long}
use Rattle.model_core.proofs.PageSizes.{frame_fills}
unfoldable use Rattle.model_core.specs.Packing.{lane}
unfoldable use Rattle.model_core.specs.Lanes.{lanes, packed}
use Rattle.model_core.specs.States.{CellWrite}
use Rattle.model_core.specs.Layout.{frame_words}
use Rattle.model_core.specs.Packing.{frame_bytes, framed_page}
use Rattle.model_core.specs.UserProgram.{put_lanes, same_word}

-- A FRAME'S BYTE is that lane of its word
pub frame_long : (frame : List ℕ) → length (frame_bytes frame) ≡ 8 * length frame
frame_long [] = refl
frame_long (w ∷ ws) = let a = length-append (lanes 0 8 w) (frame_bytes ws) in let b = lanes_long 0 8 w in let c = frame_long ws in omega arith

pub frame_byte : (frame : List ℕ) (i : ℕ) → slice_index (frame_bytes frame) i ≡ lane (i % 8) (slice_index frame (i / 8))
frame_byte [] i = sym (lane_of_zero (i % 8))
frame_byte (w ∷ ws) i = elim (dec_le 8 i) [
  | yes d ↦ (let j : ℕ = i - 8 in let is : 8 + j ≡ i = omega arith in
      subst (λ (k : ℕ). slice_index (lanes 0 8 w ++ frame_bytes ws) k ≡ lane (k % 8) (slice_index (w ∷ ws) (k / 8))) is
      (back (lanes 0 8 w) (frame_bytes ws) 8 j (sym (lanes_long 0 8 w)) ∙ frame_byte ws j ∙ ap (λ (k : ℕ). lane k (slice_index ws (j / 8))) (let e : j % 8 ≡ (8 + j) % 8 = omega arith in e) ∙ ap (λ (k : ℕ). lane ((8 + j) % 8) (slice_index (w ∷ ws) k)) (let e : suc (j / 8) ≡ (8 + j) / 8 = omega arith in e)))
  | no d ↦ front (lanes 0 8 w) (frame_bytes ws) i (omega (arith, lanes_long 0 8 w)) ∙ lanes_are 0 8 w i (omega arith) ∙ ap (λ (k : ℕ). lane k w) (let e : 0 + i ≡ i % 8 = omega arith in e) ∙ ap (λ (k : ℕ). lane (i % 8) (slice_index (w ∷ ws) k)) (let e : zero ≡ i / 8 = omega arith in e)
]

-- A PAGE IN ITS FRAME has all its bytes, each in that lane of its word
pub framed_long : (n : ℕ) (frame : List ℕ) → IsPageSize n → length frame ≡ frame_words n
    → length (framed_page n frame) ≡ n
framed_long n frame size long = length-take-le n (frame_bytes frame) (omega (arith, frame_long frame, frame_fills n size))

pub framed_byte : (n : ℕ) (frame : List ℕ) (i : ℕ) → i < n
    → slice_index (framed_page n frame) i ≡ lane (i % 8) (slice_index frame (i / 8))
framed_byte n frame i below = get_or-take n (frame_bytes frame) i 0 below ∙ frame_byte frame i

-- and the next word of a longer one
pub framed_next : (frame : List ℕ) (q : ℕ) → q < length frame
    → framed_page (8 * q + 8) frame ≡ framed_page (8 * q) frame ++ lanes 0 8 (slice_index frame q)
framed_next frame q l = ext_get_or 0 _ _ (long_of) (λ i lt. by i lt (dec_le (8 * q) i))
  where
    bytes : List ℕ
    bytes = frame_bytes frame

    taken : (n : ℕ) → n ≤ 8 * length frame → length (take n (frame_bytes frame)) ≡ n
    taken n le = length-take-le n (frame_bytes frame) (omega (arith, frame_long frame))

    long_of : length (take (8 * q + 8) (frame_bytes frame)) ≡ length (take (8 * q) (frame_bytes frame) ++ lanes 0 8 (slice_index frame q))
    long_of = taken (8 * q + 8) (omega arith) ∙ sym (length-append (take (8 * q) (frame_bytes frame)) (lanes 0 8 (slice_index frame q)) ∙ omega (arith, taken (8 * q) (omega arith), lanes_long 0 8 (slice_index frame q)))

    by : (i : ℕ) → i < length (take (8 * q + 8) (frame_bytes frame)) → Dec (8 * q ≤ i) → get_or (take (8 * q + 8) (frame_bytes frame)) i 0 ≡ get_or (take (8 * q) (frame_bytes frame) ++ lanes 0 8 (slice_index frame q)) i 0
    by i lt (no d) = get_or-take (8 * q + 8) (frame_bytes frame) i 0 (omega arith) ∙ sym (front (take (8 * q) (frame_bytes frame)) (lanes 0 8 (slice_index frame q)) i (omega (arith, taken (8 * q) (omega arith))) ∙ get_or-take (8 * q) (frame_bytes frame) i 0 (omega arith))
    by i lt (yes d) =
        let t = taken (8 * q + 8) (omega arith) in
        let j : ℕ = i - 8 * q in let is : 8 * q + j ≡ i = omega arith in
        get_or-take (8 * q + 8) (frame_bytes frame) i 0 (omega arith) ∙ frame_byte frame i ∙ ap (λ (k : ℕ). lane k (slice_index frame (i / 8))) (let e : i % 8 ≡ 0 + j = omega arith in e) ∙ ap (λ (k : ℕ). lane (0 + j) (slice_index frame k)) (let e : i / 8 ≡ q = omega arith in e)
        ∙ sym (subst (λ (k : ℕ). slice_index (take (8 * q) (frame_bytes frame) ++ lanes 0 8 (slice_index frame q)) k ≡ lane (0 + j) (slice_index frame q)) is
        (back (take (8 * q) (frame_bytes frame)) (lanes 0 8 (slice_index frame q)) (8 * q) j (sym (taken (8 * q) (omega arith))) ∙ lanes_are 0 8 (slice_index frame q) j (omega arith)))

-- STORED CELLS, byte by byte
abbrev pub put_at : List CellWrite → ℕ → ℕ → ℕ
put_at [] i v = v
put_at (x ∷ xs) i v = put_at xs i (cond (eqb x.at i) x.value v)

-- cells of bytes in one word
abbrev pub InWord : ℕ → List CellWrite → Type 0
InWord q [] = Unit {0}
InWord q (x ∷ xs) = (x.at / 8 ≡ q) × (x.value < 256) × InWord q xs

pub put_elsewhere : (q : ℕ) (xs : List CellWrite) (i v : ℕ) → InWord q xs → i / 8 ≢ q → put_at xs i v ≡ v
put_elsewhere q [] i v h n = refl
put_elsewhere q (x ∷ xs) i v h n = put_elsewhere q xs i (cond (eqb x.at i) x.value v) h.2 n ∙ ap (λ (b : Bool). let k : ℕ = cond b x.value v in k) (ne_eqb x.at i (λ e. n (ap (λ (k : ℕ). k / 8) (sym e) ∙ h.0)))

-- one store
pub set_at : (l : List ℕ) (j k v : ℕ) → k < length l → slice_index (slice_set l j v) k ≡ cond (eqb j k) v (slice_index l k)
set_at l j k v lt = elim (ℕ_discrete k j) [
  | yes e ↦ subst (λ (y : ℕ). slice_index (slice_set l j v) y ≡ v) (sym e) (get_or-set_same l j v 0 (omega arith)) ∙ sym (ap (λ (b : Bool). let n : ℕ = cond b v (slice_index l k) in n) (eq-eqb j k (sym e)))
  | no n ↦ get_or-set_other l j k v 0 n ∙ sym (ap (λ (b : Bool). let m : ℕ = cond b v (slice_index l k) in m) (ne_eqb j k (λ e. n (sym e))))
]

pub lanes_put : (q : ℕ) (xs : List CellWrite) (l : List ℕ) (i : ℕ) → InWord q xs → length l ≡ 8 → i / 8 ≡ q → slice_index (put_lanes xs l) (i % 8) ≡ put_at xs i (slice_index l (i % 8))
lanes_put q [] l i h long is = refl
lanes_put q (x ∷ xs) l i h long is = lanes_put q xs (slice_set l (x.at % 8) x.value) i h.2 (length-set l (x.at % 8) x.value ∙ long) is
    ∙ ap (put_at xs i) (set_at l (x.at % 8) (i % 8) x.value (omega arith) ∙ ap (λ (b : Bool). let k : ℕ = cond b x.value (slice_index l (i % 8)) in k) (same (ℕ_discrete x.at i)))
  where
    same : Dec (x.at ≡ i) → eqb (x.at % 8) (i % 8) ≡ eqb x.at i
    same (yes e) = eq-eqb (x.at % 8) (i % 8) (ap (λ (k : ℕ). k % 8) e) ∙ sym (eq-eqb x.at i e)
    same (no n) = ne_eqb (x.at % 8) (i % 8) (λ e. n (let h0 = h.0 in omega arith)) ∙ sym (ne_eqb x.at i n)

pub put_long : (xs : List CellWrite) (l : List ℕ) → length (put_lanes xs l) ≡ length l
put_long [] l = refl
put_long (x ∷ xs) l = put_long xs (slice_set l (x.at % 8) x.value) ∙ length-set l (x.at % 8) x.value

pub put_small : (q : ℕ) (xs : List CellWrite) (l : List ℕ) → InWord q xs → ((i : ℕ) → slice_index l i < 256) → (i : ℕ) → slice_index (put_lanes xs l) i < 256
put_small q [] l h small i = small i
put_small q (x ∷ xs) l h small i = put_small q xs (slice_set l (x.at % 8) x.value) h.2 (λ j. stored j (ℕ_discrete j (x.at % 8)) (dec_le (length l) (x.at % 8))) i
  where
    stored : (j : ℕ) → Dec (j ≡ x.at % 8) → Dec (length l ≤ x.at % 8) → slice_index (slice_set l (x.at % 8) x.value) j < 256
    stored j (yes e) (no d) = let z : slice_index (slice_set l (x.at % 8) x.value) j ≡ x.value = subst (λ (y : ℕ). slice_index (slice_set l (x.at % 8) x.value) y ≡ x.value) (sym e) (get_or-set_same l (x.at % 8) x.value 0 (omega arith)) in let v = h.1 in omega arith
    stored j (yes e) (yes d) = let z : slice_index (slice_set l (x.at % 8) x.value) j ≡ 0 = beyond (slice_set l (x.at % 8) x.value) j (omega (arith, length-set l (x.at % 8) x.value)) in omega arith
      where
        beyond : (ys : List ℕ) (k : ℕ) → length ys ≤ k → slice_index ys k ≡ 0
        beyond [] k le = refl
        beyond (y ∷ ys) zero le = absurd (omega arith)
        beyond (y ∷ ys) (suc k) le = beyond ys k (omega arith)
    stored j (no n) d = let z : slice_index (slice_set l (x.at % 8) x.value) j ≡ slice_index l j = get_or-set_other l (x.at % 8) j x.value 0 n in let s = small j in omega arith

-- the cells that are counted lie in the word
pub counted_in_word : (q : ℕ) (xs : List CellWrite) → ((i : ℕ) → (get_or xs i (record { at = 0; value = 0 })).value < 256) → InWord q (take (same_word q xs) xs)
counted_in_word q [] small = tt
counted_in_word q (x ∷ xs) small = by (eqb (x.at / 8) q) refl (counted_in_word q xs (λ i. small (suc i)))
  where
    by : (b : Bool) → eqb (x.at / 8) q ≡ b → InWord q (take (same_word q xs) xs) → InWord q (take (cond b (suc (same_word q xs)) 0) (x ∷ xs))
    by true e more = (eqb-true (x.at / 8) q e, small 0, more)
    by false e more = tt

-- eight bytes as a word, and its lanes
pub packed_lane : (l : List ℕ) (j : ℕ) → length l ≡ 8 → ((i : ℕ) → slice_index l i < 256) → j < 8 → lane j (packed 0 l) ≡ slice_index l j
unfolding packed
packed_lane l j long small lt = sym (lane_read j (from_le_bytes w64 l) lt) ∙ ap (λ (ys : List ℕ). slice_index ys j) (le_bytes_8 l (from_le_bytes w64 l) long small refl)

pub lanes_small : (w i : ℕ) → slice_index (lanes 0 8 w) i < 256
lanes_small w i = elim (dec_le 8 i) [
  | yes d ↦ (let z : slice_index (lanes 0 8 w) i ≡ 0 = beyond (lanes 0 8 w) i (omega (arith, lanes_long 0 8 w)) in omega arith)
  | no d ↦ (let z = lanes_are 0 8 w i (omega arith) in let s = lane_small (0 + i) w in omega arith)
]
  where
    beyond : (ys : List ℕ) (k : ℕ) → length ys ≤ k → slice_index ys k ≡ 0
    beyond [] k le = refl
    beyond (y ∷ ys) zero le = absurd (omega arith)
    beyond (y ∷ ys) (suc k) le = beyond ys k (omega arith)

-- A WORD STORED WITH CELLS IN ITS LANES: a byte of the page then
pub word_byte : (n : ℕ) (frame : List ℕ) (q : ℕ) (xs : List CellWrite) (i : ℕ) → i < n → q < length frame → InWord q xs
    → slice_index (framed_page n (slice_set frame q (packed 0 (put_lanes xs (lanes 0 8 (slice_index frame q)))))) i
    ≡ put_at xs i (slice_index (framed_page n frame) i)
word_byte n frame q xs i below lt h =
    framed_byte n (slice_set frame q new) i below ∙ by (ℕ_discrete (i / 8) q) ∙ ap (put_at xs i) (sym (framed_byte n frame i below))
  where
    old : List ℕ
    old = lanes 0 8 (slice_index frame q)

    new : ℕ
    new = packed 0 (put_lanes xs (lanes 0 8 (slice_index frame q)))

    by : Dec (i / 8 ≡ q) → lane (i % 8) (slice_index (slice_set frame q new) (i / 8)) ≡ put_at xs i (lane (i % 8) (slice_index frame (i / 8)))
    by (yes e) =
        ap (lane (i % 8)) (subst (λ (k : ℕ). slice_index (slice_set frame q new) k ≡ new) (sym e) (get_or-set_same frame q new 0 lt))
        ∙ packed_lane (put_lanes xs old) (i % 8) (put_long xs old ∙ lanes_long 0 8 (slice_index frame q)) (put_small q xs old h (lanes_small (slice_index frame q))) (omega arith)
        ∙ lanes_put q xs old i h (lanes_long 0 8 (slice_index frame q)) e
        ∙ ap (put_at xs i) (lanes_are 0 8 (slice_index frame q) (i % 8) (omega arith) ∙ ap (λ (k : ℕ). lane k (slice_index frame q)) (let z : 0 + i % 8 ≡ i % 8 = omega arith in z) ∙ ap (λ (k : ℕ). lane (i % 8) (slice_index frame k)) (sym e))
    by (no n) = ap (lane (i % 8)) (get_or-set_other frame q (i / 8) new 0 n) ∙ sym (put_elsewhere q xs i (lane (i % 8) (slice_index frame (i / 8))) h n)

-- EIGHT CELLS THAT ASCEND IN ONE WORD FILL IT, so that it doesn't matter what stood there
abbrev pub cell_at : List CellWrite → ℕ → CellWrite
cell_at xs i = get_or xs i (record { at = 0; value = 0 })

abbrev pub Ascend : List CellWrite → Type 0
Ascend xs = (a b : ℕ) → a < b → b < length xs → (cell_at xs a).at < (cell_at xs b).at

in_word_at : (q : ℕ) (xs : List CellWrite) (j : ℕ) → InWord q xs → j < length xs → (cell_at xs j).at / 8 ≡ q
in_word_at q [] j h l = absurd (omega arith)
in_word_at q (x ∷ xs) zero h l = h.0
in_word_at q (x ∷ xs) (suc j) h l = in_word_at q xs j h.2 (omega arith)

not_below : (q : ℕ) (xs : List CellWrite) (j : ℕ) → InWord q xs → Ascend xs → j < length xs → 8 * q + j ≤ (cell_at xs j).at
not_below q xs zero h up l = let z = in_word_at q xs zero h l in omega arith
not_below q xs (suc j) h up l = let z = not_below q xs j h up (omega arith) in let y = up j (suc j) (omega arith) l in omega arith

not_above : (q : ℕ) (xs : List CellWrite) (k : ℕ) → InWord q xs → Ascend xs → 8 ≤ length xs → k ≤ 7 → (cell_at xs (7 - k)).at + k ≤ 8 * q + 7
not_above q xs zero h up l le = let z = in_word_at q xs 7 h (omega arith) in ap_at (7 - zero) 7 refl (omega arith)
  where
    ap_at : (a b : ℕ) → a ≡ b → (cell_at xs b).at + 0 ≤ 8 * q + 7 → (cell_at xs a).at + 0 ≤ 8 * q + 7
    ap_at a b e h = subst (λ (n : ℕ). (cell_at xs n).at + 0 ≤ 8 * q + 7) (sym e) h
not_above q xs (suc k) h up l le =
    let z = not_above q xs k h up l (omega arith) in
    let y = up (7 - suc k) (7 - k) (omega arith) (omega arith) in omega arith

pub lane_filled : (q : ℕ) (xs : List CellWrite) (j : ℕ) → InWord q xs → Ascend xs → 8 ≤ length xs → j < 8 → (cell_at xs j).at ≡ 8 * q + j
lane_filled q xs j h up l lt =
    let low = not_below q xs j h up (omega arith) in
    let high = subst (λ (n : ℕ). (cell_at xs n).at + (7 - j) ≤ 8 * q + 7) (let e : 7 - (7 - j) ≡ j = omega arith in e) (not_above q xs (7 - j) h up l (omega arith)) in omega arith

pub put_covered : (xs : List CellWrite) (j i v w : ℕ) → j < length xs → (cell_at xs j).at ≡ i → put_at xs i v ≡ put_at xs i w
put_covered [] j i v w l e = absurd (omega arith)
put_covered (x ∷ xs) zero i v w l e = ap (λ (b : Bool). put_at xs i (cond b x.value v)) (eq-eqb x.at i e) ∙ sym (ap (λ (b : Bool). put_at xs i (cond b x.value w)) (eq-eqb x.at i e))
put_covered (x ∷ xs) (suc j) i v w l e = put_covered xs j i (cond (eqb x.at i) x.value v) (cond (eqb x.at i) x.value w) (omega arith) e

pub whole_word_put : (q : ℕ) (xs : List CellWrite) (l m : List ℕ) → InWord q xs → Ascend xs → 8 ≤ length xs → length l ≡ 8 → length m ≡ 8 → put_lanes xs l ≡ put_lanes xs m
whole_word_put q xs l m h up eight long same_long = ext_get_or 0 (put_lanes xs l) (put_lanes xs m) (put_long xs l ∙ long ∙ sym (put_long xs m ∙ same_long)) (λ j lt. by j (omega (arith, lt, put_long xs l)))
  where
    by : (j : ℕ) → j < 8 → get_or (put_lanes xs l) j 0 ≡ get_or (put_lanes xs m) j 0
    by j lt =
        let i : ℕ = 8 * q + j in
        let r : i % 8 ≡ j = omega arith in
        subst (λ (n : ℕ). get_or (put_lanes xs l) n 0 ≡ get_or (put_lanes xs m) n 0) r
        (lanes_put q xs l i h long (omega arith) ∙ put_covered xs j i (slice_index l (i % 8)) (slice_index m (i % 8)) (omega arith) (lane_filled q xs j h up eight lt) ∙ sym (lanes_put q xs m i h same_long (omega arith)))
