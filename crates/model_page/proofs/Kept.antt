-- What is kept of a page is determined, and a page that is kept isn't lost.
use Rattle.std.proofs.Common.{◌≡◌, ℕ, ◌<◌, ◌≤◌, inl, inr, List, arith, sym, ap, ◌∙◌}
use Rattle.model_base.specs.declared.shape.Shape.{Shape}
use Rattle.model_page.specs.Page.{user_part, IsKept, IsBestCopy, IsLost, slot_bytes}
use Rattle.model_page.specs.declared.content.Content.{Content}

-- what a page holds is its lsn and its user bytes
pub same_content : (c d : Content) → c.lsn ≡ d.lsn → c.user ≡ d.user → c ≡ d
same_content c d l u = λ i. record { lsn = l i; user = u i }

-- one slot holds the copy that counts, and it has one lsn
pub same_best : (shape : Shape) (image : List ℕ) (p a b m n : ℕ) → IsBestCopy shape image p a m → IsBestCopy shape image p b n
    → (a ≡ b) × (m ≡ n)
same_best shape image p a b m n x y =
    let up : m ≤ n = y.greatest a m x.below x.passes in
    let down : n ≤ m = x.greatest b n y.below y.passes in
    let above : a < b → ⊥ = λ h. let less : m < n = y.lowest a m h x.passes in omega arith in
    let below : b < a → ⊥ = λ h. let less : n < m = x.lowest b n h y.passes in omega arith in
    (omega (arith, above, below), omega arith)

-- a page's kept content is one
pub same_kept : (shape : Shape) (image : List ℕ) (p : ℕ) (c d : Content) → IsKept shape image p c → IsKept shape image p d → c ≡ d
same_kept shape image p c d (inl x) (inl y) =
    let lsn : c.lsn ≡ d.lsn = cc (x.passes, y.passes) in
    same_content c d lsn (x.user ∙ sym y.user)
same_kept shape image p c d (inl x) (inr y) = let none = y.broken in let some = x.passes in cc
same_kept shape image p c d (inr x) (inl y) = let none = x.broken in let some = y.passes in cc
same_kept shape image p c d (inr x) (inr y) =
    let same = same_best shape image p x.slot y.slot c.lsn d.lsn x.best y.best in
    same_content c d same.1 (x.user ∙ ap (λ slot. user_part (slot_bytes shape slot image)) same.0 ∙ sym y.user)

-- a page isn't both kept and lost
pub kept-not_lost : (shape : Shape) (image : List ℕ) (p : ℕ) (c : Content) → IsKept shape image p c → IsLost shape image p → ⊥
kept-not_lost shape image p c (inl x) lost = let none = lost.broken in let some = x.passes in cc
kept-not_lost shape image p c (inr x) lost =
    let none = lost.no_copy x.slot x.best.below in let some = x.best.passes in cc
