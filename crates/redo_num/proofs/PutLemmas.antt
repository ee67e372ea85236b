-- A write of bytes, and of more after them.
use Rattle.std.proofs.Common.{◌≡◌, ℕ, ◌+◌, ◌≤◌, List, ◌++◌, length, take, drop, refl, sym, ap, ◌∙◌, arith, length-append}
use Rattle.std.proofs.lemmas.List.{append_assoc, take_at, drop_at, drop-drop, length-take-le}
use borrow.Rule.Slice.PartMut.{put_mid}
use Rattle.model_base.specs.{overwritten}

-- bytes put at an offset
pub put_mid-overwritten : (at count : ℕ) (bytes old : List ℕ) → count ≡ length bytes → put_mid at count old bytes ≡ overwritten at bytes old
put_mid-overwritten at count bytes old same =
    rw (drop-drop count at old, same) (sym (append_assoc (take at old) bytes (drop (at + length bytes) old)))

-- a write after a write is one write
pub overwritten-behind : (at : ℕ) (front behind old : List ℕ) → at ≤ length old
    → overwritten (at + length front) behind (overwritten at front old) ≡ overwritten at (front ++ behind) old
overwritten-behind at front behind old within =
    let head = take at old ++ front in
    let rest = drop (at + length front) old in
    let size : length head ≡ at + length front = length-append (take at old) front ∙ ap (λ (n : ℕ). n + length front) (length-take-le at old within) in
    let before : take (at + length front) (head ++ rest) ≡ head = take_at head rest (at + length front) size in
    let after : drop (at + length front + length behind) (head ++ rest) ≡ drop (at + length (front ++ behind)) old =
    sym (drop-drop (length behind) (at + length front) (head ++ rest))
    ∙ ap (drop (length behind)) (drop_at head rest (at + length front) size)
    ∙ drop-drop (length behind) (at + length front) old
    ∙ ap (λ (n : ℕ). drop n old) (omega (arith, length-append front behind)) in
    rw (before, after, append_assoc (take at old) front behind) refl
