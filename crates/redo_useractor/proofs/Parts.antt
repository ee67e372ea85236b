-- What is collected below a number, part by part.
use Rattle.std.proofs.Common.{List, [], ap, append_assoc, arith, length, length-append, refl, subst, suc, sym, zero, ℕ, ◌++◌, ◌+◌, ◌-◌, ◌<◌, ◌∙◌, ◌≡◌, ◌≤◌}
use Rattle.std.proofs.lemmas.List.{append-nil}
use native.Mathlib.Decide.{dec_le}
unfoldable use Rattle.model_core.specs.Changes.{collected}

pub collected_none : {A : Type 0} (f : ℕ → List A) → collected f 0 ≡ []
unfolding collected
collected_none f = refl

pub collected_suc : {A : Type 0} (f : ℕ → List A) (n : ℕ) → collected f (suc n) ≡ collected f n ++ f n
unfolding collected
collected_suc f n = refl

pub collected_add : {A : Type 0} (f : ℕ → List A) (a n : ℕ) → collected f (a + n) ≡ collected f a ++ collected (λ (i : ℕ). f (a + i)) n
collected_add f a zero = ap (collected f) (let e : a + 0 ≡ a = omega arith in e) ∙ sym (append-nil (collected f a)) ∙ ap (λ xs. collected f a ++ xs) (sym (collected_none (λ (i : ℕ). f (a + i))))
collected_add f a (suc n) =
    ap (collected f) (let e : a + suc n ≡ suc (a + n) = omega arith in e) ∙ collected_suc f (a + n) ∙ ap (λ xs. xs ++ f (a + n)) (collected_add f a n)
    ∙ append_assoc (collected f a) (collected (λ (i : ℕ). f (a + i)) n) (f (a + n)) ∙ ap (λ xs. collected f a ++ xs) (sym (collected_suc (λ (i : ℕ). f (a + i)) n))

pub collected_same : {A : Type 0} (f g : ℕ → List A) (n : ℕ) → ((k : ℕ) → k < n → f k ≡ g k) → collected f n ≡ collected g n
collected_same f g zero same = collected_none f ∙ sym (collected_none g)
collected_same f g (suc n) same =
    collected_suc f n ∙ ap (λ xs. xs ++ f n) (collected_same f g n (λ k h. same k (omega arith))) ∙ ap (λ xs. collected g n ++ xs) (same n (omega arith)) ∙ sym (collected_suc g n)

pub collected_empty : {A : Type 0} (f : ℕ → List A) (n : ℕ) → ((k : ℕ) → k < n → f k ≡ []) → collected f n ≡ []
collected_empty f zero none = collected_none f
collected_empty f (suc n) none =
    collected_suc f n ∙ ap (λ xs. xs ++ f n) (collected_empty f n (λ k h. none k (omega arith))) ∙ none n (omega arith)

-- nothing is collected from a up to b
pub collected_skip : {A : Type 0} (f : ℕ → List A) (a b : ℕ) → a ≤ b → ((k : ℕ) → a ≤ k → k < b → f k ≡ []) → collected f b ≡ collected f a
collected_skip f a b le none =
    ap (collected f) (let e : b ≡ a + (b - a) = omega arith in e) ∙ collected_add f a (b - a)
    ∙ ap (λ xs. collected f a ++ xs) (collected_empty (λ (i : ℕ). f (a + i)) (b - a) (λ k h. none (a + k) (omega arith) (omega arith))) ∙ append-nil (collected f a)

-- something is
pub collected_some : {A : Type 0} (f : ℕ → List A) (n k : ℕ) → k < n → 0 < length (f k) → 0 < length (collected f n)
collected_some f zero k h some = absurd (omega arith)
collected_some f (suc n) k h some = by (dec_le n k)
    (λ less. collected_some f n k less some)
  where
    long : length (collected f (suc n)) ≡ length (collected f n) + length (f n)
    long = ap length (collected_suc f n) ∙ length-append (collected f n) (f n)

    by : Dec (n ≤ k) → (k < n → 0 < length (collected f n)) → 0 < length (collected f (suc n))
    by (yes d) more = (let e : k ≡ n = omega arith in let s = subst (λ (i : ℕ). 0 < length (f i)) e some in omega (arith, long))
    by (no d) more = (let s = more (omega arith) in omega (arith, long))
