-- A page's frame, packed eight bytes a word.
use Rattle.std.proofs.Common.{List, [], ap, arith, drop, get_or, length, length-append, refl, replicate, subst, suc, sym, take, zero, ℕ, ◌*◌, ◌++◌, ◌+◌, ◌-◌, ◌<◌, ◌∙◌, ◌∷◌, ◌≡◌, ◌≤◌, length-drop, length-take-le}
use Rattle.std.proofs.Math.Seq.{take-append-add}
use Rattle.std.proofs.lemmas.List.{ext_get_or, get_or-drop, get_or-replicate, get_or-take, get_or_past, length-replicate, length-take, take-append-drop}
use Rattle.std.specs.Prelude.{max, min, slice_index}
use native.Mathlib.Decide.{dec_le}
use Rattle.model_base.specs.{frame_length, IsPageSize}
use Rattle.model_base.specs.declared.limits.TheConstants.{PAGE_TRAILER, USER_START}
use Rattle.model_core.proofs.FrameWords.{packed_lane}
use Rattle.model_core.proofs.Groups.{back, front}
use Rattle.model_core.proofs.Lanes.{lanes_are, lanes_decide, lanes_long}
use Rattle.model_core.proofs.PageSizes.{frame_fills}
use Rattle.model_core.specs.{frame_bytes, frame_words, framed_page}
unfoldable use Rattle.model_core.specs.{lane, lanes, packed}
use Rattle.redo_drive.proofs.StartWordsPages.{page_cells-length, page_cells-small}
unfoldable use Rattle.redo_drive.specs.Setups.{page_cells, page_frame}
unfoldable use Rattle.redo_drive.specs.StartWords.{cells_word}
use Rattle.redo_drive.specs.Setups.{packed_words}

words_of-length : (n : ℕ) (bytes : List ℕ) → length (packed_words n bytes) ≡ n
words_of-length zero bytes = refl
words_of-length (suc n) bytes = ap suc (words_of-length n (drop 8 bytes))

words_of-at : (n : ℕ) (bytes : List ℕ) (q : ℕ) → q < n → slice_index (packed_words n bytes) q ≡ packed 0 (take 8 (drop (8 * q) bytes))
words_of-at zero bytes q l = absurd (omega arith)
words_of-at (suc n) bytes zero l = refl
words_of-at (suc n) bytes (suc q) l = words_of-at n (drop 8 bytes) q (omega arith) ∙ ap (λ (xs : List ℕ). packed 0 (take 8 xs)) (further bytes (8 * q)) ∙ ap (λ (k : ℕ). packed 0 (take 8 (drop k bytes))) (let e : 8 + 8 * q ≡ 8 * suc q = omega arith in e)
  where
    further : (xs : List ℕ) (k : ℕ) → drop k (drop 8 xs) ≡ drop (8 + k) xs
    further xs k = ext_get_or 0 (drop k (drop 8 xs)) (drop (8 + k) xs) (omega (arith, length-drop k (drop 8 xs), length-drop 8 xs, length-drop (8 + k) xs))
        (λ i _. get_or-drop k (drop 8 xs) i 0 ∙ get_or-drop 8 xs (k + i) 0 ∙ ap (λ (j : ℕ). get_or xs j 0) (let e : 8 + (k + i) ≡ 8 + k + i = omega arith in e) ∙ sym (get_or-drop (8 + k) xs i 0))

-- eight bytes are the lanes of their word
eight_lanes : (xs : List ℕ) → length xs ≡ 8 → ((i : ℕ) → slice_index xs i < 256) → lanes 0 8 (packed 0 xs) ≡ xs
eight_lanes xs long small = ext_get_or 0 (lanes 0 8 (packed 0 xs)) xs (lanes_long 0 8 (packed 0 xs) ∙ sym long)
    (λ i l. let lt : i < 8 = omega (arith, lanes_long 0 8 (packed 0 xs)) in lanes_are 0 8 (packed 0 xs) i lt ∙ ap (λ (k : ℕ). lane k (packed 0 xs)) (let e : 0 + i ≡ i = omega arith in e) ∙ packed_lane xs i long small lt)

-- THE BYTES OF THE PACKED WORDS, which may be more than the bytes fill
words_of-bytes : (n m : ℕ) (bytes : List ℕ) → m ≤ n → length bytes ≡ 8 * m → ((i : ℕ) → slice_index bytes i < 256) → take (8 * m) (frame_bytes (packed_words n bytes)) ≡ bytes
words_of-bytes n zero [] le long small = refl
words_of-bytes n zero (x ∷ xs) le long small = absurd (omega arith)
words_of-bytes zero (suc m) bytes le long small = absurd (omega arith)
words_of-bytes (suc n) (suc m) bytes le long small =
    ap (λ (k : ℕ). take k (frame_bytes (packed_words (suc n) bytes))) (let e : 8 * suc m ≡ length first + 8 * m = omega (arith, first_long) in e)
    ∙ ap (λ (xs : List ℕ). take (length first + 8 * m) (xs ++ frame_bytes (packed_words n rest))) (eight_lanes first first_long few)
    ∙ take-append-add first (frame_bytes (packed_words n rest)) (8 * m)
    ∙ ap (λ (xs : List ℕ). first ++ xs) (words_of-bytes n m rest (omega arith) (omega (arith, length-drop 8 bytes)) (λ i. let z = get_or-drop 8 bytes i 0 in let s = small (8 + i) in omega arith))
    ∙ take-append-drop 8 bytes
  where
    first : List ℕ
    first = take 8 bytes

    rest : List ℕ
    rest = drop 8 bytes

    first_long : length (take 8 bytes) ≡ 8
    first_long = length-take-le 8 bytes (omega arith)

    few : (i : ℕ) → slice_index (take 8 bytes) i < 256
    few i = elim (dec_le 8 i) [
      | yes past ↦ (let z = get_or_past (take 8 bytes) i 0 (omega (arith, length-take-le 8 bytes (omega arith))) in omega arith)
      | no there ↦ (let z = get_or-take 8 bytes i 0 (omega arith) in let s = small i in omega arith)
    ]

pub page_frame-length : (n : ℕ) (user : List ℕ) → length (page_frame n user) ≡ frame_words n
unfolding page_frame
page_frame-length n user = words_of-length (frame_words n) (page_cells user)

pub page_frame-at : (n : ℕ) (user : List ℕ) (q : ℕ) → q < frame_words n
    → slice_index (page_frame n user) q ≡ cells_word user q
unfolding page_frame cells_word
page_frame-at n user q there = words_of-at (frame_words n) (page_cells user) q there

-- a page of full size stands in its frame
pub page_frame-bytes : (n : ℕ) (user : List ℕ) → IsPageSize n → length user + frame_length ≡ n
    → ((i : ℕ) → slice_index user i < 256) → framed_page n (page_frame n user) ≡ page_cells user
unfolding page_frame
page_frame-bytes n user size full small =
    let m : ℕ = frame_words n in
    let e : n ≡ 8 * m = sym (frame_fills n size) in
    ap (λ (k : ℕ). take k (frame_bytes (packed_words m (page_cells user)))) e
    ∙ words_of-bytes m m (page_cells user) (omega arith) (omega (arith, page_cells-length user, frame_fills n size))
    (page_cells-small 256 user (omega arith) small)

-- WHAT STANDS IN A PAGE'S CELLS
module _ (user : List ℕ) where
  abbrev head : List ℕ
  head = replicate USER_START 0 ++ user

  -- the user bytes end here
  abbrev end : ℕ
  end = USER_START + length user

  head_long : length head ≡ end
  head_long = length-append (replicate USER_START 0) user ∙ omega (arith, length-replicate {A = ℕ} USER_START 0)

  cell_before : (i : ℕ) → i < 38 → slice_index (page_cells user) i ≡ 0
  unfolding page_cells
  cell_before i l = front head (replicate PAGE_TRAILER 0) i (omega (arith, head_long)) ∙ front (replicate USER_START 0) user i (omega (arith, length-replicate {A = ℕ} USER_START 0)) ∙ get_or-replicate 38 i 0 0 l

  cell_user : (i : ℕ) → i < length user → slice_index (page_cells user) (38 + i) ≡ slice_index user i
  unfolding page_cells
  cell_user i l = front head (replicate PAGE_TRAILER 0) (38 + i) (omega (arith, head_long)) ∙ back (replicate USER_START 0) user 38 i (sym (length-replicate {A = ℕ} USER_START 0))

  cell_behind : (i : ℕ) → slice_index (page_cells user) (end + i) ≡ 0
  unfolding page_cells
  cell_behind i = back head (replicate PAGE_TRAILER 0) end i (sym head_long) ∙ elim (dec_le 8 i) [
    | yes past ↦ get_or_past (replicate PAGE_TRAILER 0) i 0 (omega (arith, length-replicate {A = ℕ} PAGE_TRAILER 0))
    | no there ↦ get_or-replicate 8 i 0 0 (omega arith)
  ]

  module _ (q : ℕ) where
    abbrev eight : List ℕ
    eight = take 8 (drop (8 * q) (page_cells user))

    eight_long : length eight ≤ 8
    eight_long = omega (arith, length-take 8 (drop (8 * q) (page_cells user)))

    eight_at : (i : ℕ) → i < 8 → slice_index eight i ≡ slice_index (page_cells user) (8 * q + i)
    eight_at i l = get_or-take 8 (drop (8 * q) (page_cells user)) i 0 l ∙ get_or-drop (8 * q) (page_cells user) i 0

    frame_at : cells_word user q ≡ packed 0 eight
    unfolding cells_word
    frame_at = refl

    -- a word that holds user bytes: some lanes before them are 0, and those after
    pub some_there : (from to : ℕ) (ys : List ℕ) → 8 * q ≤ from → 38 ≤ from → (8 * q < from → from ≡ 38) → from < to → to ≤ 8 * q + 8 → to ≤ end → (to < 8 * q + 8 → to ≡ end)
        → length ys ≡ to - from → ((i : ℕ) → i < to - from → slice_index ys i ≡ slice_index user (from - 38 + i)) → packed (from - 8 * q) ys ≡ cells_word user q
    unfolding packed
    some_there from to ys a b c d e f g long are = lanes_decide (replicate (from - 8 * q) 0 ++ ys) eight each ∙ sym frame_at
      where
        k : ℕ
        k = from - 8 * q

        zeros_long : length (replicate {A = ℕ} (from - 8 * q) 0) ≡ from - 8 * q
        zeros_long = length-replicate {A = ℕ} (from - 8 * q) 0

        each : (i : ℕ) → slice_index (replicate (from - 8 * q) 0 ++ ys) i ≡ slice_index eight i
        each i = elim (dec_le (from - 8 * q) i) [
          | no low ↦ front (replicate (from - 8 * q) 0) ys i (omega (arith, zeros_long)) ∙ get_or-replicate (from - 8 * q) i 0 0 (omega arith) ∙ sym (eight_at i (omega arith) ∙ cell_before (8 * q + i) (let z = c (omega arith) in omega arith))
          | yes up ↦ (let j : ℕ = i - (from - 8 * q) in let is : from - 8 * q + j ≡ i = omega arith in
              let z : slice_index (replicate (from - 8 * q) 0 ++ ys) i ≡ slice_index ys j = subst (λ (n : ℕ). slice_index (replicate (from - 8 * q) 0 ++ ys) n ≡ slice_index ys j) is (back (replicate (from - 8 * q) 0) ys (from - 8 * q) j (sym zeros_long)) in
              z ∙ elim (dec_le (to - from) j) [
                | no within ↦ are j (omega arith) ∙ sym (eight_at i (omega arith) ∙ ap (slice_index (page_cells user)) (let n : 8 * q + i ≡ 38 + (from - 38 + j) = omega arith in n) ∙ cell_user (from - 38 + j) (omega arith))
                | yes past ↦ get_or_past ys j 0 (omega arith) ∙ sym (elim (dec_le 8 i) [
                  | yes out ↦ get_or_past eight i 0 (omega (arith, eight_long))
                  | no lt ↦ eight_at i (omega arith) ∙ ap (slice_index (page_cells user)) (let y = g (omega arith) in let n : 8 * q + i ≡ end + (8 * q + i - end) = omega arith in n) ∙ cell_behind (8 * q + i - end)
                ])
              ])
        ]

    -- and one that holds none
    pub none_there : min (8 * q + 8) end ≤ max (8 * q) 38 → 0 ≡ cells_word user q
    unfolding packed
    none_there out = zero_word ∙ sym frame_at
      where
        cell : (c : ℕ) → 8 * q ≤ c → c < 8 * q + 8 → slice_index (page_cells user) c ≡ 0
        cell c from below = elim (dec_le 38 c) [
          | no low ↦ cell_before c (omega arith)
          | yes up ↦ ap (slice_index (page_cells user)) (let n : c ≡ end + (c - end) = omega arith in n) ∙ cell_behind (c - end)
        ]

        each : (i : ℕ) → 0 ≡ slice_index eight i
        each i = elim (dec_le 8 i) [
          | yes past ↦ sym (get_or_past eight i 0 (omega (arith, eight_long)))
          | no lt ↦ sym (eight_at i (omega arith) ∙ cell (8 * q + i) (omega arith) (omega arith))
        ]

        zero_word : 0 ≡ packed 0 eight
        zero_word = lanes_decide [] eight (λ i. each i)

    pub some_in : (f from to w : ℕ) (ys : List ℕ) → f ≡ q * 8 → from ≡ max f 38 → to ≡ min (f + 8) end → from < to → ys ≡ take (to - 38 - (from - 38)) (drop (from - 38) user) → w ≡ packed (from - f) ys → w ≡ cells_word user q
    some_in f from to w ys fe a b lt is we = we ∙ ap (λ (k : ℕ). packed k ys) (let e : from - f ≡ from - 8 * q = omega arith in e)
        ∙ some_there from to ys (omega arith) (omega arith) (λ h. omega arith) lt (omega arith) (omega arith) (λ h. omega arith)
        (ap length is ∙ length-take-le (to - 38 - (from - 38)) (drop (from - 38) user) (omega (arith, length-drop (from - 38) user)) ∙ (let e : to - 38 - (from - 38) ≡ to - from = omega arith in e))
        (λ i l. ap (λ (xs : List ℕ). slice_index xs i) is ∙ get_or-take (to - 38 - (from - 38)) (drop (from - 38) user) i 0 (omega arith) ∙ get_or-drop (from - 38) user i 0)
