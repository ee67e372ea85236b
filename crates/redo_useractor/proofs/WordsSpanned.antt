-- How many words the bytes of a group fill, by the numbers of the words.
use Rattle.std.proofs.Common.{Bool, ap, arith, cond, eq-eqb, ne_eqb, subst, suc, sym, zero, ℕ, ⊎_elim, ◌+◌, ◌-◌, ◌/◌, ◌<◌, ◌==◌, ◌∙◌, ◌≡◌, ◌≢◌, ◌≤◌}
use Rattle.std.proofs.lemmas.Bool.{cases_eq}
use Rattle.model_core.proofs.WordCounts.{data_word, last_number, next_number, numbers_grow, same_number, same_word_of}
use Rattle.model_core.specs.{left_in_word, lsn}
unfoldable use Rattle.redo_useractor.specs.ToLink.{words_spanned}

-- one byte further the number is the same, where the word is, or the next
one_further : (x : ℕ) → data_word x + cond (lsn x / 8 == lsn (x + 1) / 8) 0 1 ≡ data_word (x + 1)
one_further x = ⊎_elim
    (λ same. ap (λ (b : Bool). data_word x + cond b 0 1) (eq-eqb (lsn x / 8) (lsn (x + 1) / 8) same) ∙ (let e = same_number x (x + 1) same in omega arith))
    (λ other. ap (λ (b : Bool). data_word x + cond b 0 1) (ne_eqb (lsn x / 8) (lsn (x + 1) / 8) other) ∙ (let ne : data_word x ≢ data_word (x + 1) = λ h. other (same_word_of x (x + 1) h) in omega arith))
    (cases_eq (lsn x / 8) (lsn (x + 1) / 8))

added : (w c first last next : ℕ) → w ≡ last + 1 - first → last + c ≡ next → first ≤ last → w + c ≡ next + 1 - first
added w c first last next a b grows = omega arith

-- as many words as numbers, from the first byte's to the last one's
pub spanned : (x n : ℕ) → words_spanned x n ≡ data_word (x + n) + 1 - data_word x
unfolding words_spanned
spanned x zero = omega arith
spanned x (suc n) = added (words_spanned x n) (cond (lsn (x + n) / 8 == lsn (x + n + 1) / 8) 0 1) (data_word x) (data_word (x + n)) (data_word (x + suc n))
    (spanned x n) (one_further (x + n) ∙ ap data_word (let e : x + n + 1 ≡ x + suc n = omega arith in e)) (numbers_grow x (x + n) (omega arith))

fewer : (first last next : ℕ) → next ≡ first + 1 → next ≤ last → last + 1 - first ≡ last + 1 - next + 1
fewer first last next is grows = omega arith

-- past the bytes of one word there is one word less
pub one_word_less : (x n m : ℕ) → n ≡ left_in_word x → n < m → words_spanned x (m - 1) ≡ words_spanned (x + n) (m - n - 1) + 1
one_word_less x n m all few =
    spanned x (m - 1)
    ∙ fewer (data_word x) (data_word (x + (m - 1))) (data_word (x + n))
    (subst (λ (k : ℕ). data_word (x + k) ≡ data_word x + 1) (sym all) (next_number x)) (numbers_grow (x + n) (x + (m - 1)) (within x n m few))
    ∙ ap (λ (k : ℕ). k + 1) (sym (spanned (x + n) (m - n - 1) ∙ ap (λ (k : ℕ). data_word k + 1 - data_word (x + n)) (ends x n m few)))
  where
    within : (x n m : ℕ) → n < m → x + n ≤ x + (m - 1)
    within x n m few = omega arith

    ends : (x n m : ℕ) → n < m → x + n + (m - n - 1) ≡ x + (m - 1)
    ends x n m few = omega arith

-- bytes of one word fill one
pub last_word : (x n : ℕ) → 0 < n → n ≤ left_in_word x → words_spanned x (n - 1) ≡ 1
last_word x n some few = spanned x (n - 1) ∙ one (data_word x) (data_word (x + (n - 1))) (ap data_word (ends x n some) ∙ last_number x n some few)
  where
    ends : (x n : ℕ) → 0 < n → x + (n - 1) ≡ x + n - 1
    ends x n some = omega arith

    one : (first last : ℕ) → last ≡ first → last + 1 - first ≡ 1
    one first last is = omega arith

-- from the numbers of the first and of the last
pub by_numbers : (x n end a b : ℕ) → x + n ≡ end → a ≡ data_word end → b ≡ data_word x → a + 1 - b ≡ words_spanned x n
by_numbers x n end a b ends last first = ap (λ (k : ℕ). k + 1 - b) last ∙ ap (λ (k : ℕ). data_word end + 1 - k) first ∙ ap (λ (k : ℕ). data_word k + 1 - data_word x) (sym ends) ∙ sym (spanned x n)
