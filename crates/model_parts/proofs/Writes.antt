-- Which stretches the writes of a batch touch.
use Rattle.std.proofs.Common.{◌≡◌, ◌≢◌, ◌≤◌, ◌<◌, ◌+◌, ◌-◌, ◌*◌, ◌⊎◌, ℕ, zero, suc, inl, inr, List, [], ◌∷◌, length, take, drop, Some, refl, sym, ap, subst, ◌∙◌, ⊎_elim, ◌==◌, Bool, true, false, eq-eqb, arith}
use Rattle.std.specs.Prelude.{if◌then◌else◌}
use Rattle.std.specs.List.{slice_get}
use Rattle.std.proofs.lemmas.Bool.{cases_lt}
use Rattle.std.proofs.lemmas.Bool.Decides.{nat_tests}
use Rattle.std.proofs.lemmas.Option.{slice_get_within}
use Rattle.std.proofs.lemmas.List.{take_all}
use Rattle.std.proofs.Math.Nat.{mul-le-mul_right}
use Rattle.model_base.specs.{IsPageSize, IsWithinLimits}
use Rattle.model_base.specs.declared.shape.Shape.{Shape}
use Rattle.model_page.specs.{data_device_length}
use Rattle.model_page.specs.declared.content.Content.{Content}
use Rattle.model_parts.specs.Batch.{Fresh, new_text, batch_text, slots_write, place_write, place_writes}
use Rattle.model_parts.specs.Stored.{after_batch}
use Rattle.model_parts.specs.BatchFits.{IsFreshPage, IsBatch}
use Rattle.model_parts.proofs.Stretches.{IsApart, IsPut, AreApart, ArePut, HasPut}
use Rattle.model_parts.proofs.Batches.{length-new_text, length-batch_text, text-at}
use Rattle.model_parts.proofs.Rows.{row_ends}

-- what each lemma needs of the sizes
pub record HasSizes (shape : Shape) (long : ℕ) : Type 0 where
  pub page_size : IsPageSize shape.page_size
  pub room : data_device_length shape ≤ long

pub sizes-from : (shape : Shape) (long : ℕ) → IsWithinLimits shape → data_device_length shape ≤ long
    → HasSizes shape long
sizes-from shape long is within = record { page_size = is.page_size; room = within }

-- each stretch of the device ends within it
pub stretch-ends : (shape : Shape) (n long : ℕ) → HasSizes shape long → n < shape.slots + shape.pages
    → n * shape.page_size + shape.page_size ≤ long
stretch-ends shape n long sizes below =
    omega (arith, row_ends n (shape.slots + shape.pages) shape.page_size below, sizes.room)

-- bytes of as many rows as there are before another row, on a device that has the slots
slots-end : (shape : Shape) (count long : ℕ) → HasSizes shape long → count ≤ shape.slots
    → count * shape.page_size ≤ long
slots-end shape count long sizes few =
    let all : count * shape.page_size ≤ (shape.slots + shape.pages) * shape.page_size =
    mul-le-mul_right shape.page_size (omega arith) in
    omega (arith, all, sizes.room)

pub slots-apart : (shape : Shape) (batch : List Fresh) (n long : ℕ) → HasSizes shape long → IsBatch shape batch → length batch ≤ n
    → IsApart shape.page_size (n * shape.page_size) long (slots_write shape batch)
slots-apart shape batch n long sizes is behind =
    let count : length (batch_text shape batch) ≡ length batch * shape.page_size =
    length-batch_text shape batch sizes.page_size is.each in
    let before : length batch * shape.page_size ≤ n * shape.page_size = mul-le-mul_right shape.page_size behind in
    record { within = omega (arith, slots-end shape (length batch) long sizes is.few); beside = inr (omega arith) }

pub slots-put : (shape : Shape) (batch : List Fresh) (n long : ℕ) (new : Fresh) → HasSizes shape long → IsBatch shape batch → slice_get batch n ≡ Some new
    → IsPut shape.page_size (n * shape.page_size) long (new_text shape new) (slots_write shape batch)
slots-put shape batch n long new sizes is at =
    let count : length (batch_text shape batch) ≡ length batch * shape.page_size =
    length-batch_text shape batch sizes.page_size is.each in
    let below : n < length batch = slice_get_within batch n new at in
    let none : n * shape.page_size - 0 ≡ n * shape.page_size = omega arith in
    record {
      within = omega (arith, slots-end shape (length batch) long sizes is.few);
      from = omega arith;
      up_to = omega (arith, row_ends n (length batch) shape.page_size below);
      same = ap (λ k. take shape.page_size (drop k (batch_text shape batch))) none
          ∙ text-at shape batch n new sizes.page_size is.each at;
    }

-- a write of one whole stretch leaves each other one alone
pub stretch-apart : (shape : Shape) (long n m : ℕ) (text : List ℕ) → HasSizes shape long → m < shape.slots + shape.pages
    → length text ≡ shape.page_size → (m ≡ n → ⊥)
    → IsApart shape.page_size (n * shape.page_size) long (record { at = m * shape.page_size; bytes = text })
stretch-apart shape long n m text sizes below count other = record {
  within = omega (arith, stretch-ends shape m long sizes below);
  beside = ⊎_elim (λ before. inr (omega (arith, row_ends m n shape.page_size before)))
      (λ not_before. ⊎_elim (λ behind. inl (row_ends n m shape.page_size behind)) (λ same. absurd (other (omega arith)))
      (cases_lt n m))
      (cases_lt m n);
}

-- and makes it those bytes
pub stretch-put : (shape : Shape) (long m : ℕ) (text : List ℕ) → HasSizes shape long → m < shape.slots + shape.pages
    → length text ≡ shape.page_size
    → IsPut shape.page_size (m * shape.page_size) long text (record { at = m * shape.page_size; bytes = text })
stretch-put shape long m text sizes below count =
    let none : m * shape.page_size - m * shape.page_size ≡ 0 = omega arith in
    record {
      within = omega (arith, stretch-ends shape m long sizes below);
      from = omega arith;
      up_to = omega arith;
      same = ap (λ k. take shape.page_size (drop k text)) none ∙ take_all shape.page_size text (omega arith);
    }

place-apart : (shape : Shape) (new : Fresh) (n long : ℕ) → HasSizes shape long → IsFreshPage shape new
    → (shape.slots + new.page ≡ n → ⊥)
    → IsApart shape.page_size (n * shape.page_size) long (place_write shape new)
place-apart shape new n long sizes fresh other =
    stretch-apart shape long n (shape.slots + new.page) (new_text shape new) sizes (omega (arith, fresh.below))
    (length-new_text shape new sizes.page_size fresh.long) other

pub place-put : (shape : Shape) (new : Fresh) (long : ℕ) → HasSizes shape long → IsFreshPage shape new
    → IsPut shape.page_size ((shape.slots + new.page) * shape.page_size) long (new_text shape new) (place_write shape new)
place-put shape new long sizes fresh =
    stretch-put shape long (shape.slots + new.page) (new_text shape new) sizes (omega (arith, fresh.below))
    (length-new_text shape new sizes.page_size fresh.long)

pub places-apart : (shape : Shape) (batch : List Fresh) (n long : ℕ) → HasSizes shape long
    → ((i : ℕ) (new : Fresh) → slice_get batch i ≡ Some new → IsFreshPage shape new)
    → ((i : ℕ) (new : Fresh) → slice_get batch i ≡ Some new → shape.slots + new.page ≡ n → ⊥)
    → AreApart shape.page_size (n * shape.page_size) long (place_writes shape batch)
places-apart shape [] n long sizes each other = tt
places-apart shape (new ∷ batch) n long sizes each other = (
  place-apart shape new n long sizes (each 0 new refl) (other 0 new refl),
  places-apart shape batch n long sizes (λ i more at. each (suc i) more at) (λ i more at. other (suc i) more at),
)

pub places-put : (shape : Shape) (batch : List Fresh) (p long : ℕ) (text : List ℕ) → HasSizes shape long
    → ((i : ℕ) (new : Fresh) → slice_get batch i ≡ Some new → IsFreshPage shape new)
    → ((i : ℕ) (new : Fresh) → slice_get batch i ≡ Some new → new.page ≡ p → new_text shape new ≡ text)
    → ArePut shape.page_size ((shape.slots + p) * shape.page_size) long text (place_writes shape batch)
places-put shape [] p long text sizes each same = tt
places-put shape (new ∷ batch) p long text sizes each same =
    let here : (new.page ≡ p) ⊎ (shape.slots + new.page ≡ shape.slots + p → ⊥) =
    ⊎_elim (λ less. inr (λ is. absurd (omega arith))) (λ not_less. ⊎_elim (λ more. inr (λ is. absurd (omega arith))) (λ not_more. inl (omega arith)) (cases_lt p new.page)) (cases_lt new.page p) in (
      ⊎_elim (λ is. inr (subst (λ (x : List ℕ). IsPut shape.page_size ((shape.slots + p) * shape.page_size) long x (place_write shape new)) (same 0 new refl is)
          (subst (λ (q : ℕ). IsPut shape.page_size ((shape.slots + q) * shape.page_size) long (new_text shape new) (place_write shape new)) is (place-put shape new long sizes (each 0 new refl)))))
          (λ apart. inl (place-apart shape new (shape.slots + p) long sizes (each 0 new refl) apart)) here,
      places-put shape batch p long text sizes (λ i more at. each (suc i) more at) (λ i more at. same (suc i) more at),
    )

pub places-has : (shape : Shape) (batch : List Fresh) (i long : ℕ) (new : Fresh) → HasSizes shape long
    → ((i : ℕ) (new : Fresh) → slice_get batch i ≡ Some new → IsFreshPage shape new)
    → slice_get batch i ≡ Some new
    → HasPut shape.page_size ((shape.slots + new.page) * shape.page_size) long (new_text shape new) (place_writes shape batch)
places-has shape [] i long new sizes each at = absurd cc
places-has shape (first ∷ batch) zero long new sizes each at =
    let same : first ≡ new = cc in
    inl (subst (λ (x : Fresh). IsPut shape.page_size ((shape.slots + x.page) * shape.page_size) long (new_text shape x) (place_write shape first)) same (place-put shape first long sizes (each 0 first refl)))
places-has shape (first ∷ batch) (suc i) long new sizes each at =
    inr (places-has shape batch i long new sizes (λ j more here. each (suc j) more here) at)

pub record IsIn (batch : List Fresh) (p : ℕ) : Type 0 where
  pub i : ℕ
  pub new : Fresh
  pub at : slice_get batch i ≡ Some new
  pub page : new.page ≡ p

pub in-or : (batch : List Fresh) (p : ℕ) → IsIn batch p ⊎ ((i : ℕ) (new : Fresh) → slice_get batch i ≡ Some new → new.page ≡ p → ⊥)
in-or [] p = inr (λ i new at page. absurd cc)
in-or (first ∷ batch) p =
    let here : (first.page ≡ p) ⊎ (first.page ≡ p → ⊥) =
    ⊎_elim (λ less. inr (λ is. absurd (omega arith))) (λ not_less. ⊎_elim (λ more. inr (λ is. absurd (omega arith))) (λ not_more. inl (omega arith)) (cases_lt p first.page)) (cases_lt first.page p) in
    ⊎_elim (λ is. inl (record { i = 0; new = first; at = refl; page = is }))
    (λ not. ⊎_elim (λ there. inl (record { i = suc there.i; new = there.new; at = there.at; page = there.page }))
    (λ none. inr (not-first first batch p not none)) (in-or batch p)) here
  where
    not-first : (first : Fresh) (batch : List Fresh) (p : ℕ) → (first.page ≡ p → ⊥) → ((i : ℕ) (new : Fresh) → slice_get batch i ≡ Some new → new.page ≡ p → ⊥)
        → (i : ℕ) (new : Fresh) → slice_get (first ∷ batch) i ≡ Some new → new.page ≡ p → ⊥
    not-first first batch p not none zero new at page = let same : first ≡ new = cc in not (ap (λ (x : Fresh). x.page) same ∙ page)
    not-first first batch p not none (suc i) new at page = none i new at page

pub after-none : (batch : List Fresh) (was : ℕ → Content) (p : ℕ) → ((i : ℕ) (new : Fresh) → slice_get batch i ≡ Some new → new.page ≡ p → ⊥) → after_batch batch was p ≡ was p
after-none [] was p none = refl
after-none (first ∷ batch) was p none =
    let other : first.page ≢ p = none 0 first refl in
    let rest : after_batch batch was p ≡ was p = after-none batch was p (λ i new at. none (suc i) new at) in
    grind (arith, nat_tests)

chosen : (b : Bool) (x y : Content) → b ≡ true → (if b then x else y) ≡ x
chosen true x y is = refl
chosen false x y is = absurd cc

pub after-some : (batch : List Fresh) (was : ℕ → Content) (p i : ℕ) (new : Fresh)
    → ((i j : ℕ) (new other : Fresh) → slice_get batch i ≡ Some new → slice_get batch j ≡ Some other → new.page ≡ other.page → i ≡ j)
    → slice_get batch i ≡ Some new → new.page ≡ p → after_batch batch was p ≡ new.content
after-some [] was p i new different at page = absurd cc
after-some (first ∷ batch) was p zero new different at page =
    let same : first ≡ new = cc in
    let is : first.page ≡ p = ap (λ (x : Fresh). x.page) same ∙ page in
    chosen (first.page == p) first.content (after_batch batch was p) (eq-eqb first.page p is) ∙ ap (λ (x : Fresh). x.content) same
after-some (first ∷ batch) was p (suc i) new different at page =
    let other : first.page ≢ p = λ is. let zero_is : 0 ≡ suc i = different 0 (suc i) first new refl at (is ∙ sym page) in absurd (omega arith) in
    let rest : after_batch batch was p ≡ new.content = after-some batch was p i new (λ j k a b at_j at_k pages. let next : suc j ≡ suc k = different (suc j) (suc k) a b at_j at_k pages in omega arith) at page in
    grind (arith, nat_tests)
