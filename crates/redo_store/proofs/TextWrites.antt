-- The writes of texts that stand side by side.
use Rattle.std.proofs.Common.{◌≡◌, ◌+◌, ◌-◌, ◌*◌, ℕ, zero, suc, List, [], ◌∷◌, ◌++◌, length, take, drop, Some, refl, sym, ap, ◌∙◌, arith}
use Rattle.std.specs.List.{slice_get}
use Rattle.std.proofs.lemmas.List.{take_at, drop_at, drop-drop}
use Rattle.model_base.specs.{IsPageSize, user_length}
use Rattle.model_base.specs.declared.shape.Shape.{Shape}
use Rattle.model_device.specs.declared.write.Write.{Write}
use Rattle.model_parts.specs.{batch_of, batch_text, Fresh, IsFreshPage, new_text, place_at, place_write, place_writes}
use Rattle.model_parts.proofs.Batches.{length-new_text}
use Rattle.redo_store.specs.Places.{text_writes}
use Rattle.model_parts.proofs.Joined.{fresh_of}

pub writes-at : (shape : Shape) (pairs : List (ℕ × ℕ)) (texts : List ℕ) (i : ℕ) (pair : ℕ × ℕ) → slice_get pairs i ≡ Some pair
    → slice_get (text_writes shape pairs texts) i ≡ Some (record { at = place_at shape pair.0; bytes = take shape.page_size (drop (i * shape.page_size) texts) })
writes-at shape [] texts i pair at = absurd cc
writes-at shape (first ∷ pairs) texts zero pair at =
    let same : first ≡ pair = cc in
    let none : 0 ≡ 0 * shape.page_size = omega arith in
    ap (λ (x : ℕ × ℕ). Some (let w : Write = record { at = place_at shape x.0; bytes = take shape.page_size texts } in w)) same
    ∙ ap (λ n. Some (let w : Write = record { at = place_at shape pair.0; bytes = take shape.page_size (drop n texts) } in w)) none
writes-at shape (first ∷ pairs) texts (suc i) pair at =
    let next : i * shape.page_size + shape.page_size ≡ suc i * shape.page_size = omega arith in
    let skip : drop (i * shape.page_size) (drop shape.page_size texts) ≡ drop (suc i * shape.page_size) texts =
    drop-drop (i * shape.page_size) shape.page_size texts ∙ ap (λ n. drop n texts) (omega arith) in
    writes-at shape pairs (drop shape.page_size texts) i pair at ∙ ap (λ t. Some (let w : Write = record { at = place_at shape pair.0; bytes = take shape.page_size t } in w)) skip

pub length-text_writes : (shape : Shape) (pairs : List (ℕ × ℕ)) (texts : List ℕ) → length (text_writes shape pairs texts) ≡ length pairs
length-text_writes shape [] texts = refl
length-text_writes shape (first ∷ pairs) texts = ap suc (length-text_writes shape pairs (drop shape.page_size texts))

-- of the batch's own texts they are the writes of its places
pub text_writes-batch : (shape : Shape) (pairs : List (ℕ × ℕ)) (users : List ℕ) → IsPageSize shape.page_size
    → ((i : ℕ) (new : Fresh) → slice_get (batch_of shape pairs users) i ≡ Some new → IsFreshPage shape new)
    → text_writes shape pairs (batch_text shape (batch_of shape pairs users)) ≡ place_writes shape (batch_of shape pairs users)
text_writes-batch shape [] users size each = refl
text_writes-batch shape (first ∷ pairs) users size each =
    let new : Fresh = fresh_of first (take (user_length shape) users) in
    let others : List ℕ = drop (user_length shape) users in
    let rest : List ℕ = batch_text shape (batch_of shape pairs others) in
    let long : length (new_text shape new) ≡ shape.page_size = length-new_text shape new size (each 0 new refl).long in
    ap (λ t. (let w : Write = record { at = place_at shape first.0; bytes = t } in w) ∷ text_writes shape pairs (drop shape.page_size (new_text shape new ++ rest))) (take_at (new_text shape new) rest shape.page_size long)
    ∙ ap (λ t. place_write shape new ∷ text_writes shape pairs t) (drop_at (new_text shape new) rest shape.page_size long)
    ∙ ap (λ ws. place_write shape new ∷ ws) (text_writes-batch shape pairs others size (λ i other at. each (suc i) other at))

-- the i-th write as the code makes it
pub write-made : (shape : Shape) (pairs : List (ℕ × ℕ)) (texts : List ℕ) (i at : ℕ) (pair : ℕ × ℕ)
    → slice_get pairs i ≡ Some pair → at ≡ place_at shape pair.0
    → slice_get (text_writes shape pairs texts) i ≡ Some (record {
      at = at;
      bytes = take (i * shape.page_size + shape.page_size - i * shape.page_size) (drop (i * shape.page_size) texts);
    })
write-made shape pairs texts i at pair there place =
    let from : ℕ = i * shape.page_size in
    let count : shape.page_size ≡ from + shape.page_size - from = omega arith in
    writes-at shape pairs texts i pair there
    ∙ ap (λ n. Some (let w : Write = record { at = place_at shape pair.0; bytes = take n (drop from texts) } in w)) count
    ∙ ap (λ a. Some (let w : Write = record { at = a; bytes = take (from + shape.page_size - from) (drop from texts) } in w)) (sym place)
