-- The changed cells of a page, word by word.
use Rattle.std.proofs.Common.{Bool, List, None, Option, Some, [], ap, arith, cond, drop, eqb, false, get_or, length, length-append, ltb, refl, subst, suc, sym, take, true, zero, ℕ, ◌*◌, ◌++◌, ◌+◌, ◌-◌, ◌/◌, ◌<◌, ◌∙◌, ◌∷◌, ◌≡◌, ◌≤◌}
use Rattle.std.specs.List.{AllByRecursion}
use Rattle.std.proofs.Math.Seq.{drop-append_seam, take-append_seam}
use Rattle.std.proofs.lemmas.Bool.{eq-eqb, eqb-true, le-leb, le-ltb, lt-leb, lt-ltb, ne_eqb}
use Rattle.model_base.specs.{user_length}
use Rattle.model_base.specs.declared.limits.TheConstants.{MAX_PAGE_SIZE}
use Rattle.model_base.specs.declared.shape.Shape.{Shape}
use Rattle.model_core.specs.{after_from, cell_where_same, changed_cells, CellWrite, is_whole, same_word, word_step}
unfoldable use Rattle.model_core.specs.Changes.{collected}
use Rattle.std.specs.Prelude.{nat_le}
use Rattle.model_core.specs.declared.steps.UserStep.{UserStep}
use Rattle.model_core.specs.declared.steps.UserStep.TheVariants as user_step
use Rattle.model_log.specs.declared.rec.Rec.{Rec}
use Rattle.redo_apply.specs.{WritesWithin}
use Rattle.redo_useractor.proofs.Parts.{collected_add, collected_empty, collected_none, collected_same, collected_some, collected_skip, collected_suc}
use Rattle.redo_useractor.proofs.RecordBytes.{cell_same, written_past}
use Rattle.redo_useractor.specs.CellsStep.{cells_step}
use Rattle.redo_useractor.specs.Places.{cells_before, cells_in, IsNextCell, word_at}
use Rattle.redo_useractor.specs.Words.{word_cells}
use Rattle.redo_useractor.specs.Written.{as_cell, cell_byte, cell_list, recorded_byte, words_end}

-- THE CELLS of a page, counted from its header on
module _ (n p : ℕ) (recs : List Rec) where
  pub header_none : (c : ℕ) → c < 38 → cell_list n p recs c ≡ []
  header_none c h = ap (λ (b : Bool). let o : Option ℕ = cond b None (recorded_byte n p recs (c - 38) None) in as_cell c o) (lt-ltb c 38 h)

  behind_header : (j : ℕ) → cell_list n p recs (38 + j) ≡ as_cell (38 + j) (recorded_byte n p recs j None)
  behind_header j =
      ap (λ (b : Bool). let o : Option ℕ = cond b None (recorded_byte n p recs (38 + j - 38) None) in as_cell (38 + j) o) (le-ltb (38 + j) 38 (omega arith))
      ∙ ap (λ (k : ℕ). as_cell (38 + j) (recorded_byte n p recs k None)) (let e : 38 + j - 38 ≡ j = omega arith in e)

  none_past : AllByRecursion (WritesWithin n) recs → (c : ℕ) → 38 + n ≤ c → cell_list n p recs c ≡ []
  none_past w c past =
      ap (λ (b : Bool). let o : Option ℕ = cond b None (recorded_byte n p recs (c - 38) None) in as_cell c o) (le-ltb c 38 (omega arith))
      ∙ ap (as_cell c) (written_past n p recs (c - 38) None w (omega arith))

module _ (shape : Shape) (p : ℕ) (recs : List Rec) (w : AllByRecursion (WritesWithin (user_length shape)) recs) where
  abbrev n : ℕ
  n = user_length shape

  abbrev cell_at : ℕ → List CellWrite
  cell_at = cell_list n p recs

  users_are : changed_cells shape p recs ≡ collected (λ (j : ℕ). as_cell (38 + j) (recorded_byte n p recs j None)) n
  users_are = collected_same (cell_where_same (after_from shape 0 p recs) (after_from shape 255 p recs)) (λ (j : ℕ). as_cell (38 + j) (recorded_byte n p recs j None)) n
      (λ j h. cell_same shape p recs j w h)

  pub cells_are : 38 + n ≤ MAX_PAGE_SIZE → changed_cells shape p recs ≡ collected cell_at MAX_PAGE_SIZE
  cells_are short =
      users_are ∙ collected_same (λ (j : ℕ). as_cell (38 + j) (recorded_byte n p recs j None)) (λ (j : ℕ). cell_at (38 + j)) n (λ j h. sym (behind_header n p recs j))
      ∙ sym (collected_add cell_at 38 n ∙ ap (λ xs. xs ++ collected (λ (j : ℕ). cell_at (38 + j)) n) (collected_empty cell_at 38 (λ c h. header_none n p recs c h)))
      ∙ sym (collected_skip cell_at (38 + n) MAX_PAGE_SIZE short (λ c past below. none_past n p recs w c past))

-- CELLS BETWEEN two places
abbrev pub Between : ℕ → ℕ → List CellWrite → Type 0
Between lo hi [] = Unit {0}
Between lo hi (x ∷ xs) = (lo ≤ x.at) × (x.at < hi) × Between lo hi xs

between_append : (lo hi : ℕ) (xs ys : List CellWrite) → Between lo hi xs → Between lo hi ys → Between lo hi (xs ++ ys)
between_append lo hi [] ys a b = b
between_append lo hi (x ∷ xs) ys a b = (a.0, a.1, between_append lo hi xs ys a.2 b)

between_wider : (lo hi more : ℕ) (xs : List CellWrite) → hi ≤ more → Between lo hi xs → Between lo more xs
between_wider lo hi more [] le b = tt
between_wider lo hi more (x ∷ xs) le b = (b.0, (let l = b.1 in omega arith), between_wider lo hi more xs le b.2)

between_one : (lo c : ℕ) (o : Option ℕ) → lo ≤ c → Between lo (suc c) (as_cell c o)
between_one lo c None le = tt
between_one lo c (Some v) le = (le, omega arith, tt)

between : (g : ℕ → Option ℕ) (a n : ℕ) → Between a (a + n) (collected (λ (i : ℕ). as_cell (a + i) (g (a + i))) n)
between g a zero = subst (Between a (a + 0)) (sym (collected_none (λ (i : ℕ). as_cell (a + i) (g (a + i))))) tt
between g a (suc n) = subst (Between a (a + suc n)) (sym (collected_suc (λ (i : ℕ). as_cell (a + i) (g (a + i))) n))
    (between_append a (a + suc n) (collected (λ (i : ℕ). as_cell (a + i) (g (a + i))) n) (as_cell (a + n) (g (a + n)))
    (between_wider a (a + n) (a + suc n) (collected (λ (i : ℕ). as_cell (a + i) (g (a + i))) n) (omega arith) (between g a n))
    (subst (λ (h : ℕ). Between a h (as_cell (a + n) (g (a + n)))) (let e : suc (a + n) ≡ a + suc n = omega arith in e) (between_one a (a + n) (g (a + n)) (omega arith))))

-- counted by words
before_split : (q hi : ℕ) (xs ys : List CellWrite) → Between 0 (8 * q) xs → Between (8 * q) hi ys → cells_before q (xs ++ ys) ≡ length xs
before_split q hi [] [] a b = refl
before_split q hi [] (y ∷ ys) a b = ap (λ (t : Bool). cond t (suc (cells_before q ys)) 0) (le-ltb (y.at / 8) q (let l = b.0 in omega arith))
before_split q hi (x ∷ xs) ys a b = ap (λ (t : Bool). cond t (suc (cells_before q (xs ++ ys))) 0) (lt-ltb (x.at / 8) q (let l = a.1 in omega arith)) ∙ ap suc (before_split q hi xs ys a.2 b)

same_split : (q hi : ℕ) (xs ys : List CellWrite) → Between (8 * q) (8 * q + 8) xs → Between (8 * q + 8) hi ys → same_word q (xs ++ ys) ≡ length xs
same_split q hi [] [] a b = refl
same_split q hi [] (y ∷ ys) a b = ap (λ (t : Bool). cond t (suc (same_word q ys)) 0) (ne_eqb (y.at / 8) q (λ e. let l = b.0 in absurd (omega arith)))
same_split q hi (x ∷ xs) ys a b = ap (λ (t : Bool). cond t (suc (same_word q (xs ++ ys))) 0) (eq-eqb (x.at / 8) q (let l = a.0 in let m = a.1 in omega arith)) ∙ ap suc (same_split q hi xs ys a.2 b)

-- the cells of a page, up to a word and from there on
module _ (n p : ℕ) (recs : List Rec) where
  abbrev all_cells : List CellWrite
  all_cells = collected (cell_list n p recs) MAX_PAGE_SIZE

  split_at : (q : ℕ) → q ≤ words_end → all_cells ≡ collected (cell_list n p recs) (8 * q) ++ collected (λ (i : ℕ). cell_list n p recs (8 * q + i)) (MAX_PAGE_SIZE - 8 * q)
  split_at q le = ap (collected (cell_list n p recs)) (let e : MAX_PAGE_SIZE ≡ 8 * q + (MAX_PAGE_SIZE - 8 * q) = omega arith in e) ∙ collected_add (cell_list n p recs) (8 * q) (MAX_PAGE_SIZE - 8 * q)

  split_word : (q : ℕ) → q < words_end → collected (λ (i : ℕ). cell_list n p recs (8 * q + i)) (MAX_PAGE_SIZE - 8 * q) ≡ word_cells n p recs q ++ collected (λ (i : ℕ). cell_list n p recs (8 * q + (8 + i))) (MAX_PAGE_SIZE - 8 * q - 8)
  split_word q lt = ap (collected (λ (i : ℕ). cell_list n p recs (8 * q + i))) (let e : MAX_PAGE_SIZE - 8 * q ≡ 8 + (MAX_PAGE_SIZE - 8 * q - 8) = omega arith in e) ∙ collected_add (λ (i : ℕ). cell_list n p recs (8 * q + i)) 8 (MAX_PAGE_SIZE - 8 * q - 8)

  before_is : (q : ℕ) → q ≤ words_end → cells_before q all_cells ≡ length (collected (cell_list n p recs) (8 * q))
  before_is q le = ap (cells_before q) (split_at q le) ∙ before_split q (8 * q + (MAX_PAGE_SIZE - 8 * q)) (collected (cell_list n p recs) (8 * q)) (collected (λ (i : ℕ). cell_list n p recs (8 * q + i)) (MAX_PAGE_SIZE - 8 * q))
      front (between (cell_byte n p recs) (8 * q) (MAX_PAGE_SIZE - 8 * q))
    where
      front : Between 0 (8 * q) (collected (cell_list n p recs) (8 * q))
      front = subst (λ (h : ℕ). Between 0 h (collected (cell_list n p recs) (8 * q))) (let e : 0 + 8 * q ≡ 8 * q = omega arith in e)
          (subst (Between 0 (0 + 8 * q)) (collected_same (λ (i : ℕ). cell_list n p recs (0 + i)) (cell_list n p recs) (8 * q) (λ i h. ap (cell_list n p recs) (let e : 0 + i ≡ i = omega arith in e))) (between (cell_byte n p recs) 0 (8 * q)))

  dropped : (q : ℕ) → q < words_end → drop (cells_before q all_cells) all_cells ≡ word_cells n p recs q ++ collected (λ (i : ℕ). cell_list n p recs (8 * q + (8 + i))) (MAX_PAGE_SIZE - 8 * q - 8)
  dropped q lt =
      ap (λ (k : ℕ). drop k all_cells) (before_is q (omega arith)) ∙ ap (drop (length (collected (cell_list n p recs) (8 * q)))) (split_at q (omega arith))
      ∙ drop-append_seam (collected (cell_list n p recs) (8 * q)) (collected (λ (i : ℕ). cell_list n p recs (8 * q + i)) (MAX_PAGE_SIZE - 8 * q)) ∙ split_word q lt

  counted : (q : ℕ) → q < words_end → same_word q (word_cells n p recs q ++ collected (λ (i : ℕ). cell_list n p recs (8 * q + (8 + i))) (MAX_PAGE_SIZE - 8 * q - 8)) ≡ length (word_cells n p recs q)
  counted q lt = same_split q (8 * q + 8 + (MAX_PAGE_SIZE - 8 * q - 8)) (word_cells n p recs q) (collected (λ (i : ℕ). cell_list n p recs (8 * q + (8 + i))) (MAX_PAGE_SIZE - 8 * q - 8)) (between (cell_byte n p recs) (8 * q) 8)
      (subst (Between (8 * q + 8) (8 * q + 8 + (MAX_PAGE_SIZE - 8 * q - 8))) (collected_same (λ (i : ℕ). cell_list n p recs (8 * q + 8 + i)) (λ (i : ℕ). cell_list n p recs (8 * q + (8 + i))) (MAX_PAGE_SIZE - 8 * q - 8)
      (λ i h. ap (cell_list n p recs) (let e : 8 * q + 8 + i ≡ 8 * q + (8 + i) = omega arith in e))) (between (cell_byte n p recs) (8 * q + 8) (MAX_PAGE_SIZE - 8 * q - 8)))

  same_is : (q : ℕ) → q < words_end → same_word q (drop (cells_before q all_cells) all_cells) ≡ length (word_cells n p recs q)
  same_is q lt = ap (same_word q) (dropped q lt) ∙ counted q lt

  -- the next cells in a word are those that the records write there
  next_cells : (q : ℕ) → q < words_end → take (length (word_cells n p recs q)) (drop (cells_before q all_cells) all_cells) ≡ word_cells n p recs q
  next_cells q lt = ap (take (length (word_cells n p recs q))) (dropped q lt) ∙ take-append_seam (word_cells n p recs q) (collected (λ (i : ℕ). cell_list n p recs (8 * q + (8 + i))) (MAX_PAGE_SIZE - 8 * q - 8))

  next_is : (q : ℕ) → q < words_end → cells_before (q + 1) all_cells ≡ cells_before q all_cells + length (word_cells n p recs q)
  next_is q lt =
      before_is (q + 1) (omega arith) ∙ ap length (ap (collected (cell_list n p recs)) (let e : 8 * (q + 1) ≡ 8 * q + 8 = omega arith in e) ∙ collected_add (cell_list n p recs) (8 * q) 8)
      ∙ length-append (collected (cell_list n p recs) (8 * q)) (word_cells n p recs q) ∙ ap (λ (k : ℕ). k + length (word_cells n p recs q)) (sym (before_is q (omega arith)))

  last_is : cells_before words_end all_cells ≡ length all_cells
  last_is = before_is words_end (omega arith)

before_most : (q : ℕ) (cells : List CellWrite) → cells_before q cells ≤ length cells
before_most q [] = omega arith
before_most q (x ∷ xs) = by (ltb (x.at / 8) q) (before_most q xs)
  where
    by : (b : Bool) → cells_before q xs ≤ length xs → cond b (suc (cells_before q xs)) 0 ≤ suc (length xs)
    by true most = omega arith
    by false most = omega arith

-- a page has no more cells than user bytes
few : (f : ℕ → Option ℕ) (a n : ℕ) → length (collected (λ (i : ℕ). as_cell (a + i) (f i)) n) ≤ n
few f a zero = omega (arith, ap length (collected_none (λ (i : ℕ). as_cell (a + i) (f i))))
few f a (suc n) =
    let rest = few f a n in
    omega (arith, ap length (collected_suc (λ (i : ℕ). as_cell (a + i) (f i)) n) ∙ length-append (collected (λ (i : ℕ). as_cell (a + i) (f i)) n) (as_cell (a + n) (f n)), one (f n))
  where
    one : (o : Option ℕ) → length (as_cell (a + n) o) ≤ 1
    one None = omega arith
    one (Some v) = omega arith

-- WHERE A USER IS: the records write nothing from this word up to the next
pub record IsNext (n p : ℕ) (recs : List Rec) (q next : ℕ) : Type 0 where
  pub above : q ≤ next
  pub within : next ≤ words_end
  pub none : (c : ℕ) → 8 * q ≤ c → c < 8 * next → cell_list n p recs c ≡ []
  pub some : next < words_end → (c : ℕ) × (8 * next ≤ c) × (c < 8 * next + 8) × (0 < length (cell_list n p recs c))

pub place_is : (shape : Shape) (p : ℕ) (recs : List Rec) (q next count : ℕ) → AllByRecursion (WritesWithin (user_length shape)) recs → 38 + user_length shape ≤ MAX_PAGE_SIZE
    → IsNext (user_length shape) p recs q next → (next < words_end → count ≡ length (word_cells (user_length shape) p recs next))
    → IsNextCell (changed_cells shape p recs) next count (cells_before q (changed_cells shape p recs))
place_is shape p recs q next count w short is count_is = subst (λ (cells : List CellWrite). IsNextCell cells next count (cells_before q cells)) (sym (cells_are shape p recs w short)) (record {
  before = before;
  within = is.within;
  counted = λ lt. count_is lt ∙ sym (ap (λ (k : ℕ). same_word next (drop k all)) before ∙ same_is (user_length shape) p recs next lt);
  some = λ lt. (let s = is.some lt in
      let c = s.0 in
      let le = s.1 in
      let less = s.2 in
      let k : ℕ = c - 8 * next in
      let has = subst (λ (n : ℕ). 0 < length (cell_list (user_length shape) p recs n)) (let e : c ≡ 8 * next + k = omega arith in e) s.3 in
      let more = collected_some (λ (i : ℕ). cell_list (user_length shape) p recs (8 * next + i)) 8 k (omega arith) has in
      let e = count_is lt in omega arith);
  next = λ lt. next_is (user_length shape) p recs next lt ∙ ap (λ (k : ℕ). k + length (word_cells (user_length shape) p recs next)) (sym before) ∙ ap (λ (k : ℕ). cells_before q all + k) (sym (count_is lt));
  last = λ end. before ∙ ap (λ (k : ℕ). cells_before k all) end ∙ last_is (user_length shape) p recs;
  few = λ lt. (let most = before_most (next + 1) all in
      let cells = few_cells in
      let more : cells_before (next + 1) all ≡ cells_before q all + count = next_is (user_length shape) p recs next lt ∙ ap (λ (k : ℕ). k + length (word_cells (user_length shape) p recs next)) (sym before) ∙ ap (λ (k : ℕ). cells_before q all + k) (sym (count_is lt)) in omega arith);
})
  where
    all : List CellWrite
    all = collected (cell_list (user_length shape) p recs) MAX_PAGE_SIZE

    le_q : q ≤ words_end
    le_q = let a = is.above in let b = is.within in omega arith

    before : cells_before q (collected (cell_list (user_length shape) p recs) MAX_PAGE_SIZE) ≡ cells_before next (collected (cell_list (user_length shape) p recs) MAX_PAGE_SIZE)
    before =
        before_is (user_length shape) p recs q le_q
        ∙ ap length (sym (collected_skip (cell_list (user_length shape) p recs) (8 * q) (8 * next) (let a = is.above in omega arith) is.none))
        ∙ sym (before_is (user_length shape) p recs next is.within)

    few_cells : length (collected (cell_list (user_length shape) p recs) MAX_PAGE_SIZE) ≤ user_length shape
    few_cells = omega (arith, ap length (sym (cells_are shape p recs w short) ∙ users_are shape p recs w), few (λ (j : ℕ). recorded_byte (user_length shape) p recs j None) 38 (user_length shape))

-- the next cell lies in the word that it is at
pub next_in_word : (cells : List CellWrite) (word count number : ℕ) → IsNextCell cells word count number → word < words_end → (number < length cells) × ((get_or cells number (record { at = 0; value = 0 })).at / 8 ≡ word)
next_in_word cells word count number is lt = let some = is.some lt in let e = is.counted lt in at_front word cells number (omega arith)
  where
    at_front : (q : ℕ) (xs : List CellWrite) (i : ℕ) → 0 < same_word q (drop i xs) → (i < length xs) × ((get_or xs i (record { at = 0; value = 0 })).at / 8 ≡ q)
    at_front q [] zero some = absurd (omega arith)
    at_front q [] (suc i) some = absurd (omega arith)
    at_front q (x ∷ xs) zero some = (omega arith, by (eqb (x.at / 8) q) refl some)
      where
        by : (b : Bool) → eqb (x.at / 8) q ≡ b → 0 < cond b (suc (same_word q xs)) 0 → x.at / 8 ≡ q
        by true e s = eqb-true (x.at / 8) q e
        by false e s = absurd (omega arith)
    at_front q (x ∷ xs) (suc i) some = let r = at_front q xs i some in (let l = r.0 in omega arith, r.1)

-- WHAT A USER DOES THERE
module _ (cells : List CellWrite) (word count number : ℕ) (is : IsNextCell cells word count number) where
  pub step_end : word ≡ words_end → user_step.StoreNewest ≡ cells_step cells number
  step_end end = sym (ap (λ (b : Bool). let s : UserStep = cond b user_step.StoreNewest (word_step cells number) in s) (eq-eqb number (length cells) (is.last end)))

  in_word : (word ≡ words_end → ⊥) → word < words_end
  in_word not = let w = is.within in omega arith

  whole_is : word < words_end → is_whole cells number ≡ nat_le 8 count
  whole_is lt = ap (λ (q : ℕ). nat_le 8 (same_word q (drop number cells))) (next_in_word cells word count number is lt).1 ∙ ap (nat_le 8) (sym (is.counted lt))

  goes : word < words_end → cells_step cells number ≡ cond (nat_le 8 count) user_step.StoreFrame user_step.LoadFrame
  goes lt =
      ap (λ (b : Bool). let s : UserStep = cond b user_step.StoreNewest (word_step cells number) in s) (ne_eqb number (length cells) (λ e. let l = (next_in_word cells word count number is lt).0 in absurd (omega arith)))
      ∙ ap (λ (b : Bool). let s : UserStep = cond b user_step.StoreFrame user_step.LoadFrame in s) (whole_is lt)

  pub step_part : (word ≡ words_end → ⊥) → count < 8 → user_step.LoadFrame ≡ cells_step cells number
  step_part not few = sym (goes (in_word not) ∙ ap (λ (b : Bool). let s : UserStep = cond b user_step.StoreFrame user_step.LoadFrame in s) (lt-leb 8 count few))

  pub step_whole : (word ≡ words_end → ⊥) → 8 ≤ count → user_step.StoreFrame ≡ cells_step cells number
  step_whole not many = sym (goes (in_word not) ∙ ap (λ (b : Bool). let s : UserStep = cond b user_step.StoreFrame user_step.LoadFrame in s) (le-leb 8 count many))

-- the next cells in its word are those that the records write there
pub cells_in_is : (shape : Shape) (p : ℕ) (recs : List Rec) (word count number : ℕ) → AllByRecursion (WritesWithin (user_length shape)) recs → 38 + user_length shape ≤ MAX_PAGE_SIZE
    → word < words_end → IsNextCell (changed_cells shape p recs) word count number
    → cells_in (word_at (changed_cells shape p recs) number) number (changed_cells shape p recs) ≡ word_cells (user_length shape) p recs word
cells_in_is shape p recs word count number w short lt is =
    ap (λ (q : ℕ). cells_in q number (changed_cells shape p recs)) (next_in_word (changed_cells shape p recs) word count number is lt).1
    ∙ ap (λ (k : ℕ). cells_in word k (changed_cells shape p recs)) is.before
    ∙ subst (λ (cells : List CellWrite). cells_in word (cells_before word cells) cells ≡ word_cells (user_length shape) p recs word) (sym (cells_are shape p recs w short))
    (ap (λ (k : ℕ). take k (drop (cells_before word all) all)) (same_is (user_length shape) p recs word lt) ∙ next_cells (user_length shape) p recs word lt)
  where
    all : List CellWrite
    all = collected (cell_list (user_length shape) p recs) MAX_PAGE_SIZE

-- no cell stands before the first word
pub none_before : (cells : List CellWrite) → cells_before 0 cells ≡ 0
none_before [] = refl
none_before (x ∷ xs) = ap (λ (b : Bool). cond b (suc (cells_before 0 xs)) 0) (le-ltb (x.at / 8) 0 (omega arith))
