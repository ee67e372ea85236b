-- Storing the cells that a group changes is applying the group to the page.
use Rattle.std.proofs.Common.{Bool, List, [], ap, arith, cond, drop, eq-eqb, eqb, false, get_or, get_or-set_other, get_or-set_same, length, refl, set, subst, suc, sym, true, zero, ℕ, ◌++◌, ◌+◌, ◌-◌, ◌<◌, ◌∙◌, ◌∷◌, ◌≡◌, ◌≢◌, ◌≤◌}
use Rattle.std.proofs.Common.{length-drop, length-take, ne_eqb}
use Rattle.std.proofs.lemmas.List.{ext_get_or, get_or-drop, get_or-take, length-set}
use native.Mathlib.Decide.{ℕ_discrete}
use Rattle.model_base.proofs.ShapeLimits.{whole_sectors}
use Rattle.model_base.specs.{frame_length, IsWithinLimits, user_length}
use Rattle.model_base.specs.declared.shape.Shape.{Shape}
use Rattle.model_core.proofs.Bytewise.{decided, user_long}
use Rattle.model_core.proofs.Collected.{collected_none}
use Rattle.model_core.specs.{after_from, cell_where_same, changed_cells, change_on, changes_of, collected, value_at, writes, CellWrite, PageChange}
use Rattle.model_page.specs.{user_part}
use Rattle.model_pagecore.proofs.PageHistory.{none_on}
use Rattle.model_pagecore.specs.{cells_on, write_cells}
use Rattle.model_log.specs.{GroupFits}
use Rattle.model_log.specs.declared.rec.Rec.{Rec}
use Rattle.model_store.specs.{user_after}
use Rattle.model_pagecore.specs.Pages as pages_of
use Rattle.model_store.specs.Apply as apply

-- THE CHANGE OF ONE PAGE, of those that a group makes.

abbrev changed : ℕ → List PageChange → Bool
changed p cs = pages_of.is_changed_page p cs

cells_front : (p : ℕ) (xs ys : List PageChange) → changed p ys ≡ false → ◌≡◌ {A = List CellWrite} (cells_on p (xs ++ ys)) (cells_on p xs)
cells_front p [] ys none = none_on p ys none
cells_front p (c ∷ cs) ys none = ap (λ (z : List CellWrite). cond (eqb c.page p) c.cells z) (cells_front p cs ys none)

cells_behind : (p : ℕ) (xs ys : List PageChange) → changed p xs ≡ false → ◌≡◌ {A = List CellWrite} (cells_on p (xs ++ ys)) (cells_on p ys)
cells_behind p [] ys none = refl
cells_behind p (c ∷ cs) ys none = by (eqb c.page p) none (λ z. cells_behind p cs ys z)
  where
    by : (b : Bool) → cond b true (changed p cs) ≡ false → (changed p cs ≡ false → ◌≡◌ {A = List CellWrite} (cells_on p (cs ++ ys)) (cells_on p ys)) → ◌≡◌ {A = List CellWrite} (cond b c.cells (cells_on p (cs ++ ys))) (cells_on p ys)
    by true none more = absurd (cc)
    by false none more = more none

changed_front : (p : ℕ) (xs ys : List PageChange) → changed p ys ≡ false → changed p (xs ++ ys) ≡ changed p xs
changed_front p [] ys none = none
changed_front p (c ∷ cs) ys none = ap (λ (z : Bool). cond (eqb c.page p) true z) (changed_front p cs ys none)

changed_behind : (p : ℕ) (xs ys : List PageChange) → changed p xs ≡ false → changed p (xs ++ ys) ≡ changed p ys
changed_behind p [] ys none = refl
changed_behind p (c ∷ cs) ys none = by (eqb c.page p) none (λ z. changed_behind p cs ys z)
  where
    by : (b : Bool) → cond b true (changed p cs) ≡ false → (changed p cs ≡ false → changed p (cs ++ ys) ≡ changed p ys) → cond b true (changed p (cs ++ ys)) ≡ changed p ys
    by true none more = absurd (cc)
    by false none more = more none

-- of page p they change the cells that the group decides, if it touches the page
pub record IsChangeOn (shape : Shape) (p : ℕ) (group : List Rec) (cs : List PageChange) : Type 0 where
  pub touched : pages_of.is_changed_page p cs ≡ apply.touches p group
  pub cells : ◌≡◌ {A = List CellWrite} (cells_on p cs) (cond (apply.touches p group) (changed_cells shape p group) [])

-- of one page
abbrev only : Shape → Bool → ℕ → List Rec → List PageChange
only shape b k group = cond b (record { page = k; cells = changed_cells shape k group } ∷ []) []

own_touched : (shape : Shape) (group : List Rec) (p : ℕ) (b : Bool) → changed p (only shape b p group) ≡ b
own_touched shape group p true = ap (λ (z : Bool). cond z true false) (eq-eqb p p refl)
own_touched shape group p false = refl

own_cells : (shape : Shape) (group : List Rec) (p : ℕ) (b : Bool) → ◌≡◌ {A = List CellWrite} (cells_on p (only shape b p group)) (cond b (changed_cells shape p group) [])
own_cells shape group p true = ap (λ (z : Bool). cond z (changed_cells shape p group) []) (eq-eqb p p refl)
own_cells shape group p false = refl

other_untouched : (shape : Shape) (group : List Rec) (k p : ℕ) → k ≢ p → (b : Bool) → changed p (only shape b k group) ≡ false
other_untouched shape group k p other true = ap (λ (z : Bool). cond z true false) (ne_eqb k p other)
other_untouched shape group k p other false = refl

next_collected : (shape : Shape) (group : List Rec) (n : ℕ) → ◌≡◌ {A = List PageChange} (collected (change_on shape group) (suc n)) (collected (change_on shape group) n ++ change_on shape group n)
unfolding collected
next_collected shape group n = refl

untouched_below : (shape : Shape) (group : List Rec) (p n : ℕ) → n ≤ p → changed p (collected (change_on shape group) n) ≡ false
untouched_below shape group p zero low = ap (changed p) (collected_none (change_on shape group))
untouched_below shape group p (suc n) low =
    let rest = untouched_below shape group p n (omega arith) in
    let last : changed p (change_on shape group n) ≡ false = other_untouched shape group n p (λ e. absurd (omega arith)) (apply.touches n group) in
    ap (changed p) (next_collected shape group n) ∙ changed_front p (collected (change_on shape group) n) (change_on shape group n) last ∙ rest

pub change_of_page : (shape : Shape) (group : List Rec) (p n : ℕ) → p < n → IsChangeOn shape p group (collected (change_on shape group) n)
change_of_page shape group p zero low = absurd (omega arith)
change_of_page shape group p (suc n) low = elim (ℕ_discrete n p) [
  | yes e ↦ here (untouched_below shape group p n (omega arith)) e
  | no other ↦ before (change_of_page shape group p n (omega arith)) (other_untouched shape group n p other (apply.touches n group))
]
  where
    front : List PageChange
    front = collected (change_on shape group) n

    here : changed p front ≡ false → n ≡ p → IsChangeOn shape p group (collected (change_on shape group) (suc n))
    here none e = record {
      touched = ap (changed p) (next_collected shape group n) ∙ changed_behind p front (change_on shape group n) none ∙ ap (λ (k : ℕ). changed p (change_on shape group k)) e ∙ own_touched shape group p (apply.touches p group);
      cells = ap (cells_on p) (next_collected shape group n) ∙ cells_behind p front (change_on shape group n) none ∙ ap (λ (k : ℕ). cells_on p (change_on shape group k)) e ∙ own_cells shape group p (apply.touches p group);
    }

    before : IsChangeOn shape p group front → changed p (change_on shape group n) ≡ false → IsChangeOn shape p group (collected (change_on shape group) (suc n))
    before is none = record {
      touched = ap (changed p) (next_collected shape group n) ∙ changed_front p front (change_on shape group n) none ∙ is.touched;
      cells = ap (cells_on p) (next_collected shape group n) ∙ cells_front p front (change_on shape group n) none ∙ is.cells;
    }

-- WHAT STANDS IN A CELL, once the cells of a page are stored.

abbrev byte : List ℕ → ℕ → ℕ
byte l j = get_or l j 0

writes_append : (xs ys : List CellWrite) (b : List ℕ) → write_cells (xs ++ ys) b ≡ write_cells ys (write_cells xs b)
writes_append [] ys b = refl
writes_append (x ∷ xs) ys b = writes_append xs ys (set b x.at x.value)

pub writes_long : (xs : List CellWrite) (b : List ℕ) → length (write_cells xs b) ≡ length b
writes_long [] b = refl
writes_long (x ∷ xs) b = writes_long xs (set b x.at x.value) ∙ length-set b x.at x.value

module _ (low high : List ℕ) where
  abbrev cells : ℕ → List CellWrite
  cells n = collected (cell_where_same low high) n

  abbrev same : ℕ → Bool
  same j = eqb (byte low j) (byte high j)

  cells_next : (n : ℕ) → ◌≡◌ {A = List CellWrite} (cells (suc n)) (cells n ++ cell_where_same low high n)
  unfolding collected
  cells_next n = refl

  stores_next : (n : ℕ) (b : List ℕ) → write_cells (cells (suc n)) b ≡ write_cells (cell_where_same low high n) (write_cells (cells n) b)
  stores_next n b = ap (λ (z : List CellWrite). write_cells z b) (cells_next n) ∙ writes_append (cells n) (cell_where_same low high n) b

  abbrev stored : Bool → ℕ → List ℕ → List ℕ
  stored t n b = write_cells (cond t (record { at = 38 + n; value = byte low n } ∷ []) []) b

  here : (t : Bool) (n : ℕ) (b : List ℕ) → 38 + n < length b → byte (stored t n b) (38 + n) ≡ cond t (byte low n) (byte b (38 + n))
  here true n b within = get_or-set_same b (38 + n) (byte low n) 0 within
  here false n b within = refl

  elsewhere : (t : Bool) (n j : ℕ) (b : List ℕ) → j ≢ n → byte (stored t n b) (38 + j) ≡ byte b (38 + j)
  elsewhere true n j b other = get_or-set_other b (38 + n) (38 + j) (byte low n) 0 (λ e. other (omega arith))
  elsewhere false n j b other = refl

  beyond : (n j : ℕ) (b : List ℕ) → n ≤ j → byte (write_cells (cells n) b) (38 + j) ≡ byte b (38 + j)
  beyond zero j b far = ap (λ (z : List CellWrite). byte (write_cells z b) (38 + j)) (collected_none (cell_where_same low high))
  beyond (suc n) j b far = ap (λ (z : List ℕ). byte z (38 + j)) (stores_next n b) ∙ elsewhere (same n) n j (write_cells (cells n) b) (λ e. absurd (omega arith)) ∙ beyond n j b (omega arith)

  pub cell_stored : (n j : ℕ) (b : List ℕ) → j < n → 38 + n ≤ length b → byte (write_cells (cells n) b) (38 + j) ≡ cond (same j) (byte low j) (byte b (38 + j))
  cell_stored zero j b below long = absurd (omega arith)
  cell_stored (suc n) j b below long = ap (λ (z : List ℕ). byte z (38 + j)) (stores_next n b) ∙ elim (ℕ_discrete j n) [
    | yes e ↦ subst (λ (k : ℕ). byte (stored (same n) n front) (38 + k) ≡ cond (same k) (byte low k) (byte b (38 + k))) (sym e) last
    | no other ↦ elsewhere (same n) n j front other ∙ cell_stored n j b (omega arith) (omega arith)
  ]
    where
      front : List ℕ
      front = write_cells (cells n) b

      last : byte (stored (same n) n front) (38 + n) ≡ cond (same n) (byte low n) (byte b (38 + n))
      last = let l = writes_long (cells n) b in here (same n) n front (omega arith) ∙ ap (λ (k : ℕ). cond (same n) (byte low n) k) (beyond n n b (omega arith))

-- THE USER BYTES OF A PAGE.

pub user_part_long : (shape : Shape) (b : List ℕ) → length b ≡ shape.page_size → length (user_part b) ≡ user_length shape
user_part_long shape b long = omega (arith, long, length-drop 38 b, length-take (length b - 8 - 38) (drop 38 b))

user_at : (b : List ℕ) (j : ℕ) → j < length b - frame_length → byte (user_part b) j ≡ byte b (38 + j)
user_at b j below = get_or-take (length b - 8 - 38) (drop 38 b) j 0 (omega arith) ∙ get_or-drop 38 b j 0

-- a page with the changed cells of a group is the page with the group applied
pub cells_apply : (shape : Shape) (group : List Rec) (p : ℕ) (b : List ℕ) → IsWithinLimits shape → GroupFits shape group
    → p < shape.pages → length b ≡ shape.page_size → user_part (write_cells (cells_on p (changes_of shape group)) b)
    ≡ cond (apply.touches p group) (user_after p group (user_part b)) (user_part b)
cells_apply shape group p b limits fits there long =
    ap (λ (z : List CellWrite). user_part (write_cells z b)) (change_of_page shape group p shape.pages there).cells ∙ by (apply.touches p group)
  where
    n : ℕ
    n = user_length shape

    low : List ℕ
    low = after_from shape 0 p group

    high : List ℕ
    high = after_from shape 255 p group

    new : List ℕ
    new = write_cells (cells low high n) b

    new_long : length new ≡ shape.page_size
    new_long = writes_long (cells low high n) b ∙ long

    room : 38 + n ≤ length b
    room = let s = (whole_sectors shape limits).least in omega arith

    each : (j : ℕ) → j < length (user_part new) → byte (user_part new) j ≡ byte (user_after p group (user_part b)) j
    each j below =
        let l = user_part_long shape new new_long in
        let m = user_part_long shape b long in
        let here : j < n = omega arith in
        user_at new j (omega (arith, here, new_long)) ∙ cell_stored low high n j b here room
        ∙ ap (λ (k : ℕ). cond (writes shape p group j) (value_at shape p group j) k) (sym (user_at b j (omega (arith, here, long))))
        ∙ sym (decided shape group p j (user_part b) fits m here)

    by : (t : Bool) → user_part (write_cells (cond t (changed_cells shape p group) []) b) ≡ cond t (user_after p group (user_part b)) (user_part b)
    by true = ext_get_or 0 (user_part new) (user_after p group (user_part b)) (user_part_long shape new new_long ∙ sym (user_long shape group p (user_part b) fits (user_part_long shape b long))) each
    by false = refl
