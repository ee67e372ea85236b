-- The texts of a batch as they are put side by side.
use Rattle.std.proofs.Common.{◌≡◌, ◌≤◌, ◌+◌, ◌*◌, ℕ, zero, suc, List, [], ◌∷◌, ◌++◌, length, take, drop, Some, sym, ap, ◌∙◌, length-take-le, length-drop, length-append, append_assoc, add-one, drop-drop, arith}
use Rattle.std.proofs.Math.Nat.{suc-mul}
use Rattle.std.specs.List.{slice_get}
use Rattle.std.proofs.lemmas.List.{append-nil}
use Rattle.std.proofs.lemmas.Slice.{drop-put_mid, take-put_mid}
use borrow.Rule.Slice.PartMut.{put_mid}
use Rattle.model_base.specs.declared.shape.Shape.{Shape}
use Rattle.model_page.specs.{page_text}
use Rattle.model_parts.specs.{batch_of, batch_text, Fresh, new_text}
use Rattle.model_parts.proofs.Joined.{batch-at, fresh_of, nth_user}

-- a part that is written over keeps the length
pub length-put : (at k : ℕ) (old new : List ℕ) → length new ≡ k → at + k ≤ length old → length (put_mid at k old new) ≡ length old
length-put at k old new same within =
    omega (arith, length-append (take at old) (new ++ drop k (drop at old)), length-append new (drop k (drop at old)), length-take-le at old (omega arith), length-drop k (drop at old), length-drop at old)

batch_text-push : (shape : Shape) (batch : List Fresh) (i : ℕ) (new : Fresh) → slice_get batch i ≡ Some new → batch_text shape (take (suc i) batch) ≡ batch_text shape (take i batch) ++ new_text shape new
batch_text-push shape [] i new at = absurd cc
batch_text-push shape (first ∷ batch) zero new at = let same : first ≡ new = cc in simp append-nil (ap (new_text shape) same)
batch_text-push shape (first ∷ batch) (suc i) new at =
    ap (λ l. new_text shape first ++ l) (batch_text-push shape batch i new at) ∙ sym (append_assoc (new_text shape first) (batch_text shape (take i batch)) (new_text shape new))

row-after : (i n : ℕ) → (i + 1) * n ≡ i * n + n
row-after i n = ap (λ (k : ℕ). k * n) (add-one i) ∙ suc-mul i n

pub texts-more : (shape : Shape) (pairs : List (ℕ × ℕ)) (users user out page : List ℕ) (i k : ℕ) (pair : ℕ × ℕ)
    → slice_get pairs i ≡ Some pair → user ≡ nth_user shape i users → page ≡ page_text pair.0 shape.space pair.1 user
    → length page ≡ shape.page_size → i * shape.page_size ≤ length out
    → take (i * shape.page_size) out ≡ batch_text shape (take i (batch_of shape pairs users))
    → take ((i + 1) * shape.page_size) (put_mid (i * shape.page_size) k out page) ≡ batch_text shape (take (i + 1) (batch_of shape pairs users))
texts-more shape pairs users user out page i k pair at user_is page_is long within so_far =
    let size : ℕ = shape.page_size in
    let new : Fresh = fresh_of pair (nth_user shape i users) in
    let text : page ≡ new_text shape new = page_is ∙ ap (page_text pair.0 shape.space pair.1) user_is in
    take-put_mid (i * size) k out page ((i + 1) * size) (row-after i size ∙ ap (λ n. i * size + n) (sym long)) within
    ∙ ap (λ l. l ++ page) so_far ∙ ap (λ l. batch_text shape (take i (batch_of shape pairs users)) ++ l) text
    ∙ sym (batch_text-push shape (batch_of shape pairs users) i new (batch-at shape pairs users i pair at))
    ∙ ap (λ n. batch_text shape (take n (batch_of shape pairs users))) (sym (add-one i))

-- what stands after the pages so far stays
pub behind-more : (size i k : ℕ) (out old page : List ℕ) → k ≡ size → length page ≡ size → i * size ≤ length out
    → drop (i * size) out ≡ drop (i * size) old
    → drop ((i + 1) * size) (put_mid (i * size) k out page) ≡ drop ((i + 1) * size) old
behind-more size i k out old page whole long within so_far =
    let next : (i + 1) * size ≡ i * size + size = row-after i size in
    drop-put_mid (i * size) k out page ((i + 1) * size) (omega arith) within (long ∙ sym whole)
    ∙ ap (λ n. drop n out) next ∙ sym (drop-drop size (i * size) out)
    ∙ ap (drop size) so_far
    ∙ drop-drop size (i * size) old ∙ ap (λ n. drop n old) (sym next)
