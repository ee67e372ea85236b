-- A word of a frame that is stored with changed cells in its lanes: these cells are stored in the frame's bytes, and no other.
use Rattle.std.proofs.Common.{List, [], ap, arith, drop, length, length-set, min, refl, sym, take, ℕ, ◌*◌, ◌++◌, ◌+◌, ◌<◌, ◌∙◌, ◌∷◌, ◌≡◌}
use Rattle.std.proofs.Math.Seq.{take-add}
use Rattle.std.proofs.lemmas.List.{ext_get_or, length-take}
use Rattle.std.specs.Prelude.{slice_index, slice_set}
use Rattle.model_core.proofs.FrameWords.{frame_long, InWord, put_at, set_at, word_byte}
unfoldable use Rattle.model_core.specs.{lanes, packed}
use Rattle.model_core.specs.{CellWrite, frame_bytes, framed_page, put_lanes}
use Rattle.model_pagecore.specs.Pages.{write_cells}

pub write_long : (xs : List CellWrite) (b : List ℕ) → length (write_cells xs b) ≡ length b
write_long [] b = refl
write_long (x ∷ xs) b = write_long xs (slice_set b x.at x.value) ∙ length-set b x.at x.value

write_at : (xs : List CellWrite) (b : List ℕ) (i : ℕ) → i < length b → slice_index (write_cells xs b) i ≡ put_at xs i (slice_index b i)
write_at [] b i l = refl
write_at (x ∷ xs) b i l = write_at xs (slice_set b x.at x.value) i (omega (arith, length-set b x.at x.value)) ∙ ap (put_at xs i) (set_at b x.at i x.value l)

pub word_stored : (n : ℕ) (frame : List ℕ) (q : ℕ) (xs : List CellWrite) → q < length frame → InWord q xs
    → framed_page n (slice_set frame q (packed 0 (put_lanes xs (lanes 0 8 (slice_index frame q))))) ≡ write_cells xs (framed_page n frame)
word_stored n frame q xs lt h = ext_get_or 0 new (write_cells xs old) (long ∙ sym (write_long xs old))
    (λ i l. word_byte n frame q xs i (omega (arith, length-take n (frame_bytes stored))) lt h ∙ sym (write_at xs old i (omega (arith, l, long))))
  where
    stored : List ℕ
    stored = slice_set frame q (packed 0 (put_lanes xs (lanes 0 8 (slice_index frame q))))

    old : List ℕ
    old = framed_page n frame

    new : List ℕ
    new = framed_page n stored

    long : length new ≡ length old
    long = length-take n (frame_bytes stored)
        ∙ ap (min n) (frame_long stored ∙ ap (λ (k : ℕ). 8 * k) (length-set frame q (packed 0 (put_lanes xs (lanes 0 8 (slice_index frame q))))) ∙ sym (frame_long frame))
        ∙ sym (length-take n (frame_bytes frame))

pub writes_append : (xs ys : List CellWrite) (b : List ℕ) → write_cells (xs ++ ys) b ≡ write_cells ys (write_cells xs b)
writes_append [] ys b = refl
writes_append (x ∷ xs) ys b = writes_append xs ys (slice_set b x.at x.value)

-- the cells up to a place, and so many more
pub writes_next : (xs : List CellWrite) (n k : ℕ) (b : List ℕ) → write_cells (take (n + k) xs) b ≡ write_cells (take k (drop n xs)) (write_cells (take n xs) b)
writes_next xs n k b = ap (λ (l : List CellWrite). write_cells l b) (take-add n k xs) ∙ writes_append (take n xs) (take k (drop n xs)) b
