-- What a follower takes from its block.
use Rattle.std.proofs.Common.{Bool, List, None, Some, [], ap, arith, cond, drop, eqb-true, false, min, refl, suc, sym, take, true, zero, ℕ, ◌%◌, ◌+◌, ◌-◌, ◌<◌, ◌∙◌, ◌∷◌, ◌≡◌, ◌≤◌, ◌^◌}
use Rattle.std.proofs.lemmas.List.{drop-drop}
use Rattle.model_core.specs.{archives, block_end, floor, lsn, next_block, next_piece, read_to, ReaderState}
use Rattle.model_log.specs.{sn_of, block_view, data_of, is_block_at, read_block}
use Rattle.model_log.specs.declared.block.BlockView.{BlockView}
use Rattle.model_log.specs.declared.layout.TheConstants.{BLOCK_DATA, BLOCK_DATA_END}
use Rattle.model_log.proofs.BoundaryLengths.{sn_of-rises}

-- a follower isn't the archiver, so it goes on in the block of the place that it has read up to
pub next_block_is : (r : ReaderState) → 0 < r.number → floor (lsn (read_to r)) ≡ next_block r
next_block_is r some = by (archives r) refl
  where
    by : (b : Bool) → archives r ≡ b → floor (lsn (read_to r)) ≡ cond b r.place (floor (lsn (read_to r)))
    by true is = let none : r.number ≡ 0 = eqb-true r.number 0 is in absurd (omega arith)
    by false is = refl

-- where the data in use of a block ends, as far as it is one of the lsn
abbrev pub end_at : ℕ → List ℕ → ℕ
end_at x bytes = cond (is_block_at x bytes) (min (block_view bytes).length BLOCK_DATA_END) 0

-- that of a block that is read, or isn't
pub end_of_read : (x : ℕ) (bytes : List ℕ) (view : BlockView) → read_block x bytes ≡ Some view
    → min view.length BLOCK_DATA_END ≡ end_at x bytes
unfolding read_block
end_of_read x bytes view read = by (is_block_at x bytes) read
  where
    by : (b : Bool) → cond b (Some (block_view bytes)) None ≡ Some view
        → min view.length BLOCK_DATA_END ≡ cond b (min (block_view bytes).length BLOCK_DATA_END) 0
    by true is = let same : view ≡ block_view bytes = cc in ap (λ (v : BlockView). min v.length BLOCK_DATA_END) same
    by false is = absurd (cc)

pub end_of_none : (x : ℕ) (bytes : List ℕ) → read_block x bytes ≡ None → 0 ≡ end_at x bytes
unfolding read_block
end_of_none x bytes read = by (is_block_at x bytes) read
  where
    by : (b : Bool) → cond b (Some (block_view bytes)) None ≡ None
        → 0 ≡ cond b (min (block_view bytes).length BLOCK_DATA_END) 0
    by true is = absurd (cc)
    by false is = refl

drop_take : (k m : ℕ) (xs : List ℕ) → drop k (take m xs) ≡ take (m - k) (drop k xs)
drop_take zero m xs = let e : m ≡ m - 0 = omega arith in ap (λ (i : ℕ). take i xs) e
drop_take (suc k) zero xs = let e : 0 ≡ 0 - suc k = omega arith in ap (λ (i : ℕ). take i (drop (suc k) xs)) e
drop_take (suc k) (suc m) [] = nothing (suc m - suc k)
  where
    nothing : (i : ℕ) → ◌≡◌ {A = List ℕ} [] (take i (drop (suc k) []))
    nothing zero = refl
    nothing (suc i) = refl
drop_take (suc k) (suc m) (x ∷ xs) =
    let e : m - k ≡ suc m - suc k = omega arith in drop_take k m xs ∙ ap (λ (i : ℕ). take i (drop k xs)) e

take_take : (n m : ℕ) (xs : List ℕ) → take n (take m xs) ≡ take (min m n) xs
take_take zero m xs = let e : 0 ≡ min m 0 = omega arith in ap (λ (i : ℕ). take i xs) e
take_take (suc n) zero xs = let e : 0 ≡ min 0 (suc n) = omega arith in ap (λ (i : ℕ). take i xs) e
take_take (suc n) (suc m) [] =
    let e : suc (min m n) ≡ min (suc m) (suc n) = omega arith in ap (λ (i : ℕ). take i []) e
take_take (suc n) (suc m) (x ∷ xs) =
    let e : suc (min m n) ≡ min (suc m) (suc n) = omega arith in
    ap (λ (l : List ℕ). x ∷ l) (take_take n m xs) ∙ ap (λ (i : ℕ). take i (x ∷ xs)) e

-- of a block's data up to a place, so many bytes are as many of the block as stand below that place
up_to : (n k end : ℕ) (bytes : List ℕ)
    → take (min (end - (12 + k)) n) (drop (12 + k) bytes) ≡ take n (drop k (take (end - 12) (drop 12 bytes)))
up_to n k end bytes =
    let left : end - 12 - k ≡ end - (12 + k) = omega arith in
    sym (ap (take n) (drop_take k (end - 12) (drop 12 bytes)) ∙ take_take n (end - 12 - k) (drop k (drop 12 bytes))
    ∙ ap (take (min (end - 12 - k) n)) (drop-drop k 12 bytes)
    ∙ ap (λ (i : ℕ). take (min i n) (drop (12 + k) bytes)) left)

-- what it takes
pub piece_is : (r : ReaderState) (from end held n : ℕ) → from ≡ read_to r → end ≡ block_end r
    → held ≡ end_at (next_block r) r.block → n ≡ min (held - (12 + from % BLOCK_DATA)) (end - from)
    → take n (drop (12 + from % BLOCK_DATA) r.block) ≡ next_piece r
piece_is r from end held n from_is end_is held_is n_is =
    rw (n_is, held_is, end_is, from_is) (by (is_block_at (next_block r) r.block))
  where
    k : ℕ
    k = read_to r % BLOCK_DATA

    left : ℕ
    left = block_end r - read_to r

    data_end : ℕ
    data_end = min (block_view r.block).length BLOCK_DATA_END

    by : (b : Bool) → take (min (cond b data_end 0 - (12 + k)) left) (drop (12 + k) r.block)
        ≡ cond b (take left (drop k (data_of (block_view r.block) r.block))) []
    by true = up_to left k data_end r.block
    by false =
        let none : min (0 - (12 + k)) left ≡ 0 = omega arith in ap (λ (i : ℕ). take i (drop (12 + k) r.block)) none

-- below a mark that is below 2^61 stand less than 2^61 bytes, so does the block's lsn
pub marked_low : (mark : ℕ) → mark < 2 ^ 61 → sn_of mark ≤ 2_233_785_415_175_766_016
marked_low mark low = sn_of-rises mark (2 ^ 61) (omega arith)

pub next_low : (r : ReaderState) (end : ℕ) → 0 < r.number → read_to r < end → end ≤ sn_of r.mark → r.mark < 2 ^ 61
    → next_block r < 2 ^ 61
unfolding lsn
next_low r end some more low marked =
    let top = marked_low r.mark marked in
    let is = next_block_is r some in
    omega arith
