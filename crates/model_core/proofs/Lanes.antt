-- Facts on the eight lanes of a word: what stands there after an addition onto lanes that are 0, and which places of the stream
-- share a word.
use Rattle.std.proofs.Common.{List, [], ap, arith, drop, length, length-drop, length-take-le, refl, subst, suc, sym, zero, ℕ, ⊎_elim, ◌%◌, ◌*◌, ◌++◌, ◌+◌, ◌-◌, ◌/◌, ◌<◌, ◌^◌, ◌∙◌, ◌∷◌, ◌≡◌, ◌≤◌, ◌⊎◌}
use Rattle.std.proofs.Math.Nat.{zero-div}
use Rattle.std.proofs.lemmas.List.{get_or-drop, get_or-replicate, get_or-take, length-replicate}
use Rattle.std.proofs.lemmas.Nat.{from_le_bytes-to_le_bytes_8, le_bytes_8}
use Rattle.std.specs.Int.{byte_at, bytes_low_first, from_le_bytes, to_le_bytes, w64}
use Rattle.std.specs.Prelude.{get_or, min, replicate, slice_index}
use native.Mathlib.Decide.{dec_le}
use Rattle.model_core.proofs.Groups.{back, front}
use Rattle.model_core.proofs.Lsns.{ring_same}
use Rattle.model_core.specs.Lanes.{cell_of, lane_of, left_in_word, floor, lsn}
unfoldable use Rattle.model_core.specs.Packing.{lane}
unfoldable use Rattle.model_core.specs.Lanes.{lanes, packed}
use Rattle.model_core.specs.States.{UserState}
use Rattle.model_core.specs.UserProgram.{copy_place, group_bytes, next_bytes, next_count}
use Rattle.model_core.specs.declared.limits.TheConstants.{BUFFER_WORDS, LOG_BUFFER}
use Rattle.model_log.specs.declared.layout.TheConstants.{BLOCK_DATA}

-- ON LANES. What stands in a lane is a byte
pub lane_small : (j w : ℕ) → lane j w < 256
unfolding lane
lane_small zero w = omega arith
lane_small (suc j) w = omega arith

pub lane_of_zero : (j : ℕ) → lane j 0 ≡ 0
unfolding lane
lane_of_zero zero = refl
lane_of_zero (suc j) = ap (λ (k : ℕ). k % 256) (zero-div (256 ^ suc j))

-- eight sums
added : (w a0 a1 a2 a3 a4 a5 a6 a7 d0 d1 d2 d3 d4 d5 d6 d7 : ℕ)
    → w ≡ from_le_bytes w64 (a0 ∷ a1 ∷ a2 ∷ a3 ∷ a4 ∷ a5 ∷ a6 ∷ a7 ∷ [])
    → w + from_le_bytes w64 (d0 ∷ d1 ∷ d2 ∷ d3 ∷ d4 ∷ d5 ∷ d6 ∷ d7 ∷ []) ≡ from_le_bytes w64 ((a0 + d0) ∷ (a1 + d1) ∷ (a2 + d2) ∷ (a3 + d3) ∷ (a4 + d4) ∷ (a5 + d5) ∷ (a6 + d6) ∷ (a7 + d7) ∷ [])
added w a0 a1 a2 a3 a4 a5 a6 a7 d0 d1 d2 d3 d4 d5 d6 d7 is = omega arith

-- eight bytes make a word
worth : (b0 b1 b2 b3 b4 b5 b6 b7 : ℕ) → b0 < 256 → b1 < 256 → b2 < 256 → b3 < 256 → b4 < 256 → b5 < 256 → b6 < 256 → b7 < 256
    → from_le_bytes w64 (b0 ∷ b1 ∷ b2 ∷ b3 ∷ b4 ∷ b5 ∷ b6 ∷ b7 ∷ []) < 2 ^ 64
worth b0 b1 b2 b3 b4 b5 b6 b7 l0 l1 l2 l3 l4 l5 l6 l7 = omega arith

pub lane_read : (j w : ℕ) → j < 8 → slice_index (to_le_bytes w64 w) j ≡ lane j w
unfolding lane
lane_read zero w l = refl
lane_read (suc zero) w l = refl
lane_read (suc (suc zero)) w l = refl
lane_read (suc (suc (suc zero))) w l = refl
lane_read (suc (suc (suc (suc zero)))) w l = refl
lane_read (suc (suc (suc (suc (suc zero))))) w l = refl
lane_read (suc (suc (suc (suc (suc (suc zero)))))) w l = refl
lane_read (suc (suc (suc (suc (suc (suc (suc zero))))))) w l = refl
lane_read (suc (suc (suc (suc (suc (suc (suc (suc j)))))))) w l = absurd (omega arith)

-- THE LANES OF A SUM: where each lane of the sum holds both bytes, none carries into its neighbour
module _ (w : ℕ) (xs : List ℕ) (wide : w < 2 ^ 64) (small : (j : ℕ) → j < 8 → lane j w + slice_index xs j < 256) where
  abbrev sums : List ℕ
  sums = (lane 0 w + slice_index xs 0) ∷ (lane 1 w + slice_index xs 1) ∷ (lane 2 w + slice_index xs 2) ∷ (lane 3 w + slice_index xs 3) ∷ (lane 4 w + slice_index xs 4) ∷ (lane 5 w + slice_index xs 5) ∷ (lane 6 w + slice_index xs 6) ∷ (lane 7 w + slice_index xs 7) ∷ []

  of_lanes : w ≡ from_le_bytes w64 (lane 0 w ∷ lane 1 w ∷ lane 2 w ∷ lane 3 w ∷ lane 4 w ∷ lane 5 w ∷ lane 6 w ∷ lane 7 w ∷ [])
  unfolding lane
  of_lanes = sym (from_le_bytes-to_le_bytes_8 w wide)

  sum_is : w + from_le_bytes w64 xs ≡ from_le_bytes w64 sums
  sum_is = added w (lane 0 w) (lane 1 w) (lane 2 w) (lane 3 w) (lane 4 w) (lane 5 w) (lane 6 w) (lane 7 w) (slice_index xs 0) (slice_index xs 1) (slice_index xs 2) (slice_index xs 3) (slice_index xs 4) (slice_index xs 5) (slice_index xs 6) (slice_index xs 7) of_lanes

  each_byte : (i : ℕ) → get_or sums i 0 < 256
  each_byte zero = small 0 (omega arith)
  each_byte (suc zero) = small 1 (omega arith)
  each_byte (suc (suc zero)) = small 2 (omega arith)
  each_byte (suc (suc (suc zero))) = small 3 (omega arith)
  each_byte (suc (suc (suc (suc zero)))) = small 4 (omega arith)
  each_byte (suc (suc (suc (suc (suc zero))))) = small 5 (omega arith)
  each_byte (suc (suc (suc (suc (suc (suc zero)))))) = small 6 (omega arith)
  each_byte (suc (suc (suc (suc (suc (suc (suc zero))))))) = small 7 (omega arith)
  each_byte (suc (suc (suc (suc (suc (suc (suc (suc i)))))))) = omega arith

  summed : (j : ℕ) → j < 8 → slice_index sums j ≡ lane j w + slice_index xs j
  summed zero l = refl
  summed (suc zero) l = refl
  summed (suc (suc zero)) l = refl
  summed (suc (suc (suc zero))) l = refl
  summed (suc (suc (suc (suc zero)))) l = refl
  summed (suc (suc (suc (suc (suc zero))))) l = refl
  summed (suc (suc (suc (suc (suc (suc zero)))))) l = refl
  summed (suc (suc (suc (suc (suc (suc (suc zero))))))) l = refl
  summed (suc (suc (suc (suc (suc (suc (suc (suc j)))))))) l = absurd (omega arith)

  pub sum_wide : w + from_le_bytes w64 xs < 2 ^ 64
  sum_wide = let k = worth (lane 0 w + slice_index xs 0) (lane 1 w + slice_index xs 1) (lane 2 w + slice_index xs 2) (lane 3 w + slice_index xs 3) (lane 4 w + slice_index xs 4) (lane 5 w + slice_index xs 5) (lane 6 w + slice_index xs 6) (lane 7 w + slice_index xs 7) (small 0 (omega arith)) (small 1 (omega arith)) (small 2 (omega arith)) (small 3 (omega arith)) (small 4 (omega arith)) (small 5 (omega arith)) (small 6 (omega arith)) (small 7 (omega arith)) in
      subst (λ (n : ℕ). n < 2 ^ 64) (sym sum_is) k

  pub lane_sum : (j : ℕ) → j < 8 → lane j (w + from_le_bytes w64 xs) ≡ lane j w + slice_index xs j
  lane_sum j l = sym (lane_read j (w + from_le_bytes w64 xs) l) ∙ ap (λ (ys : List ℕ). slice_index ys j) (le_bytes_8 sums (w + from_le_bytes w64 xs) refl each_byte sum_is) ∙ summed j l

-- the lanes of packed bytes
packed_before : (k : ℕ) (bytes : List ℕ) (j : ℕ) → j < k → slice_index (replicate k 0 ++ bytes) j ≡ 0
packed_before k bytes j l = front (replicate k 0) bytes j (omega (arith, length-replicate {A = ℕ} k 0)) ∙ get_or-replicate k j 0 0 l

packed_at : (k : ℕ) (bytes : List ℕ) (i : ℕ) → slice_index (replicate k 0 ++ bytes) (k + i) ≡ slice_index bytes i
packed_at k bytes i = back (replicate k 0) bytes k i (sym (length-replicate {A = ℕ} k 0))

-- ADDING BYTES ONTO LANES THAT ARE 0: there they stand then, and each other lane is as before; and the word holds the sum
module _ (w k : ℕ) (bytes : List ℕ) (wide : w < 2 ^ 64) (few : k + length bytes ≤ 8) (are_bytes : (i : ℕ) → i < length bytes → slice_index bytes i < 256) (bare : (i : ℕ) → i < length bytes → lane (k + i) w ≡ 0) where
  beyond : (i : ℕ) → length bytes ≤ i → slice_index bytes i ≡ 0
  beyond i l = past bytes i l
    where
      past : (xs : List ℕ) (i : ℕ) → length xs ≤ i → slice_index xs i ≡ 0
      past [] i l = refl
      past (x ∷ xs) zero l = absurd (omega arith)
      past (x ∷ xs) (suc i) l = past xs i (omega arith)

  fits : (j : ℕ) → j < 8 → lane j w + slice_index (replicate k 0 ++ bytes) j < 256
  fits j l = elim (dec_le k j) [
    | yes d ↦ (let i : ℕ = j - k in
        let is : k + i ≡ j = omega arith in
        let here : slice_index (replicate k 0 ++ bytes) j ≡ slice_index bytes i = subst (λ (y : ℕ). slice_index (replicate k 0 ++ bytes) y ≡ slice_index bytes i) is (packed_at k bytes i) in
        elim (dec_le (length bytes) i) [
          | yes q ↦ (let z = beyond i q in let s = lane_small j w in omega arith)
          | no q ↦ (let b = are_bytes i (omega arith) in let z : lane j w ≡ 0 = subst (λ (y : ℕ). lane y w ≡ 0) is (bare i (omega arith)) in omega arith)
        ])
    | no d ↦ (let z = packed_before k bytes j (omega arith) in let s = lane_small j w in omega arith)
  ]

  pub add_wide : w + packed k bytes < 2 ^ 64
  unfolding packed
  add_wide = sum_wide w (replicate k 0 ++ bytes) wide fits

  pub add_here : (i : ℕ) → i < length bytes → lane (k + i) (w + packed k bytes) ≡ slice_index bytes i
  unfolding packed
  add_here i l = let z = lane_sum w (replicate k 0 ++ bytes) wide fits (k + i) (omega arith) in let p = packed_at k bytes i in let b = bare i l in omega arith

  pub add_else : (j : ℕ) → j < 8 → (j < k) ⊎ (k + length bytes ≤ j) → lane j (w + packed k bytes) ≡ lane j w
  unfolding packed
  add_else j l out = let z = lane_sum w (replicate k 0 ++ bytes) wide fits j l in ⊎_elim
      (λ q. let p = packed_before k bytes j q in omega arith)
      (λ q. let i : ℕ = j - k in let is : k + i ≡ j = omega arith in
      let here : slice_index (replicate k 0 ++ bytes) j ≡ slice_index bytes i = subst (λ (y : ℕ). slice_index (replicate k 0 ++ bytes) y ≡ slice_index bytes i) is (packed_at k bytes i) in
      let p = beyond i (omega arith) in omega arith)
      out

-- so many lanes, read
pub lanes_long : (j n w : ℕ) → length (lanes j n w) ≡ n
unfolding lanes
lanes_long j zero w = refl
lanes_long j (suc n) w = ap suc (lanes_long (suc j) n w)

pub lanes_are : (j n w i : ℕ) → i < n → slice_index (lanes j n w) i ≡ lane (j + i) w
unfolding lane lanes
lanes_are j zero w i l = absurd (omega arith)
lanes_are j (suc n) w zero l = ap (λ (k : ℕ). byte_at k w) (let z : j ≡ j + 0 = omega arith in z)
lanes_are j (suc n) w (suc i) l = lanes_are (suc j) n w i (omega arith) ∙ ap (λ (k : ℕ). byte_at k w) (let z : suc j + i ≡ j + suc i = omega arith in z)

pub lanes_next : (j n w : ℕ) → lanes j (suc n) w ≡ lanes j n w ++ lane (j + n) w ∷ []
unfolding lane lanes
lanes_next j zero w = ap (λ (k : ℕ). byte_at k w ∷ []) (let e : j ≡ j + 0 = omega arith in e)
lanes_next j (suc n) w = ap (λ (l : List ℕ). byte_at j w ∷ l) (lanes_next (suc j) n w) ∙ ap (λ (k : ℕ). byte_at j w ∷ (bytes_low_first (suc j) n w ++ byte_at k w ∷ [])) (let e : suc j + n ≡ j + suc n = omega arith in e)

-- ON PLACES OF THE STREAM. The places that are left in a word stand in its next lanes
pub left_some : (x : ℕ) → 0 < left_in_word x
unfolding lsn
left_some x = omega arith

pub left_fits : (x : ℕ) → lane_of x + left_in_word x ≤ 8
unfolding lsn
left_fits x = omega arith

pub same_word : (x i : ℕ) → i < left_in_word x → lsn (x + i) / 8 ≡ lsn x / 8
unfolding lsn
same_word x i l = omega arith

pub next_lanes : (x i : ℕ) → i < left_in_word x → lsn (x + i) % 8 ≡ lsn x % 8 + i
unfolding lsn
next_lanes x i l = omega arith

-- after them the next word begins
pub later_word : (x y : ℕ) → x + left_in_word x ≤ y → lsn x / 8 < lsn y / 8
unfolding lsn
later_word x y h = omega arith

pub in_later_word : (x y : ℕ) → lsn x / 8 < lsn y / 8 → x + left_in_word x ≤ y
unfolding lsn
in_later_word x y h = omega arith

pub word_grows : (x y : ℕ) → x ≤ y → lsn x / 8 ≤ lsn y / 8
unfolding lsn
word_grows x y h = omega arith

-- NO TWO LIVE PLACES IN ONE LANE: in the window two places in one cell are in one word of the log, and in one lane they are one
pub cell_word : (x y mark : ℕ) → floor mark ≤ lsn x → floor mark ≤ lsn y → lsn x < floor mark + LOG_BUFFER → lsn y < floor mark + LOG_BUFFER → cell_of x ≡ cell_of y → lsn x / 8 ≡ lsn y / 8
cell_word x y mark lx ly hx hy e = ring_same (lsn x / 8) (lsn y / 8) (floor mark / 8) BUFFER_WORDS (omega arith) (omega arith) (omega arith) (omega arith) e

-- a place from a word on is from the block floor of that word's places on
pub word_up : (w x : ℕ) → lsn w / 8 ≤ lsn x / 8 → floor (lsn w) ≤ lsn x
word_up w x h = omega arith

-- the run's start begins a word
pub base_word : (base read x : ℕ) → base % BLOCK_DATA ≡ 0 → base ≤ read → lsn read / 8 ≤ lsn x / 8 → base ≤ x
unfolding lsn
base_word base read x even le h = omega arith

-- a tail beyond the bytes of the word, or within
pub whole_word : (k t : ℕ) → k ≤ t → left_in_word k ≤ lsn t - lsn k → k + left_in_word k ≤ t
unfolding lsn
whole_word k t le h = omega arith

pub part_word : (k t : ℕ) → k ≤ t → lsn t - lsn k < left_in_word k → k + (lsn t - lsn k) ≡ t
unfolding lsn
part_word k t le h = omega arith

pub left_block : (k : ℕ) → k + left_in_word k ≤ (k / BLOCK_DATA + 1) * BLOCK_DATA
left_block k = omega arith

-- one turn of the log buffer ago the same lane stood for another place
pub turn_before : (x : ℕ) → 63488 ≤ x → lsn (x - 63488) + LOG_BUFFER ≡ lsn x
unfolding lsn
turn_before x h = omega arith

pub turned_far : (x mark : ℕ) → floor mark + LOG_BUFFER ≤ lsn x → 63488 ≤ x
unfolding lsn
turned_far x mark h = omega arith

-- ON THE BYTES THAT A USER COPIES NEXT
module _ (u : UserState) where
  pub next_some : u.copied < length (group_bytes u) → 0 < next_count u
  next_some l = let s = left_some (copy_place u) in some_of (left_in_word (copy_place u)) (length (group_bytes u)) s l
    where
      some_of : (a b : ℕ) → 0 < a → u.copied < b → 0 < min a (b - u.copied)
      some_of a b s l = omega arith

  pub next_few : u.copied ≤ length (group_bytes u) → u.copied + next_count u ≤ length (group_bytes u)
  next_few l = few_of (left_in_word (copy_place u)) (length (group_bytes u)) l
    where
      few_of : (a b : ℕ) → u.copied ≤ b → u.copied + min a (b - u.copied) ≤ b
      few_of a b l = omega arith

  pub next_within : next_count u ≤ left_in_word (copy_place u)
  next_within = within_of (left_in_word (copy_place u)) (length (group_bytes u))
    where
      within_of : (a b : ℕ) → min a (b - u.copied) ≤ a
      within_of a b = omega arith

  pub next_long : u.copied ≤ length (group_bytes u) → length (next_bytes u) ≡ next_count u
  next_long l = length-take-le (next_count u) (drop u.copied (group_bytes u)) (let f = next_few l in omega (arith, length-drop u.copied (group_bytes u)))

  pub next_are : (j : ℕ) → j < next_count u → slice_index (next_bytes u) j ≡ slice_index (group_bytes u) (u.copied + j)
  next_are j l = get_or-take (next_count u) (drop u.copied (group_bytes u)) j 0 l ∙ get_or-drop u.copied (group_bytes u) j 0

-- words whose lanes are the same are one
pub lanes_decide : (xs ys : List ℕ) → ((i : ℕ) → slice_index xs i ≡ slice_index ys i) → from_le_bytes w64 xs ≡ from_le_bytes w64 ys
lanes_decide xs ys h = omega (arith, h 0, h 1, h 2, h 3, h 4, h 5, h 6, h 7)

-- zeros at the end change nothing
pub zeros_behind : (xs : List ℕ) (n i : ℕ) → slice_index (xs ++ replicate n 0) i ≡ slice_index xs i
zeros_behind [] zero i = refl
zeros_behind [] (suc n) zero = refl
zeros_behind [] (suc n) (suc i) = zeros_behind [] n i
zeros_behind (x ∷ xs) n zero = refl
zeros_behind (x ∷ xs) n (suc i) = zeros_behind xs n i

pub packed_is : (a n : ℕ) (bytes : List ℕ) → from_le_bytes w64 ((replicate a 0 ++ bytes) ++ replicate n 0) ≡ packed a bytes
unfolding packed
packed_is a n bytes = lanes_decide ((replicate a 0 ++ bytes) ++ replicate n 0) (replicate a 0 ++ bytes) (zeros_behind (replicate a 0 ++ bytes) n)
