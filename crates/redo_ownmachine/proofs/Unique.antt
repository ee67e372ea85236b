-- THE LOG OF A RUN IS THAT OF ITS USERS: where each number of their groups has a sum that is no less, the log only goes on.
use Rattle.std.proofs.Common.{Bool, List, [], ap, arith, cond, eqb, length, refl, subst, suc, sym, ℕ, ◌++◌, ◌+◌, ◌-◌, ◌<◌, ◌∙◌, ◌∷◌, ◌≡◌, ◌≢◌, ◌≤◌, false, nat_le}
use Rattle.std.proofs.lemmas.Bool.{eq-eqb, ne_eqb}
use Rattle.std.proofs.lemmas.Bool.Decides.{nat_tests}
use lib.ListN.{get_elem?}
use mathlib.Core.Option.{some}
use Rattle.model_core.specs.{end_of, Entry, Given, Line, line_at, lsn, PageChange, sum_of, Tiles, Setup}
use Rattle.model_running.specs.ReadHalf.{groups_upto}

-- a number of the groups that start there
abbrev at : ℕ → (Entry → ℕ) → Entry → ℕ
at s f e = cond (eqb e.start s) (f e) 0

here : (s : ℕ) (f : Entry → ℕ) (e : Entry) → e.start ≡ s → at s f e ≡ f e
here s f e is = ap (λ (b : Bool). let k : ℕ = cond b (f e) 0 in k) (eq-eqb e.start s is)

elsewhere : (s : ℕ) (f : Entry → ℕ) (e : Entry) → e.start ≢ s → at s f e ≡ 0
elsewhere s f e other = ap (λ (b : Bool). let k : ℕ = cond b (f e) 0 in k) (ne_eqb e.start s other)

-- no group of those behind a place starts before it
none_before : (s n m : ℕ) (f : Entry → ℕ) (log : List Entry) → s < n → Tiles n log m → sum_of (at s f) log ≡ 0
none_before s n m f [] l tiles = refl
none_before s n m f (e ∷ es) l tiles =
    let start = tiles.0 in
    let a = elsewhere s f e (λ same. absurd (omega arith)) in
    let r = none_before s (n + length e.bytes) m f es (omega arith) tiles.3 in
    omega arith

-- each is a line's
abbrev pub HasLine : Setup → Entry → Type 0
HasLine c e = (e.bytes ≡ (line_at (c.script e.user) e.k).bytes)
    × ◌≡◌ {A = List PageChange} e.changes (line_at (c.script e.user) e.k).changes

abbrev pub AreLines : Setup → List Entry → Type 0
AreLines c log = (i : ℕ) (e : Entry) → get_elem? log i ≡ some e → HasLine c e

abbrev pub AtLeast : List Entry → List Entry → Type 0
AtLeast log more = (h : Entry → ℕ) → sum_of h log ≤ sum_of h more

same_group : (c : Setup) (x y : Entry) → x.user ≡ y.user → x.k ≡ y.k → x.start ≡ y.start → HasLine c x → HasLine c y
    → ◌≡◌ {A = Entry} x y
same_group c x y user k start of_x of_y =
    let lines : ◌≡◌ {A = Line} (line_at (c.script x.user) x.k) (line_at (c.script y.user) y.k) =
    ap (λ (u : ℕ). line_at (c.script u) x.k) user ∙ ap (line_at (c.script y.user)) k in
    let bytes : x.bytes ≡ y.bytes = of_x.0 ∙ ap (λ (l : Line). l.bytes) lines ∙ sym of_y.0 in
    let changes : ◌≡◌ {A = List PageChange} x.changes y.changes =
    of_x.1 ∙ ap (λ (l : Line). l.changes) lines ∙ sym of_y.1 in
    λ i. record { user = user i; k = k i; start = start i; bytes = bytes i; changes = changes i }

module _ (c : Setup) (x y : Entry) (xs ys : List Entry) (s n m : ℕ) (tiles : Tiles s (x ∷ xs) n)
    (tiles_y : Tiles s (y ∷ ys) m) (more : AtLeast (x ∷ xs) (y ∷ ys)) where
  no_less : (f : Entry → ℕ) → f x ≤ f y
  no_less f =
      let sums : at s f x + sum_of (at s f) xs ≤ at s f y + sum_of (at s f) ys = more (at s f) in
      let a = here s f x tiles.0 in
      let b = here s f y tiles_y.0 in
      let bytes = tiles_y.1 in
      let none = none_before s (s + length y.bytes) m f ys (omega arith) tiles_y.3 in
      omega arith

  same_number : (f : Entry → ℕ) → f x ≡ f y
  same_number f =
      let up = no_less f in
      let down : f x + f y - f x ≤ f x + f y - f y = no_less (λ e. f x + f y - f e) in
      omega arith

  pub same_first : HasLine c x → HasLine c y → ◌≡◌ {A = Entry} x y
  same_first of_x of_y = same_group c x y (same_number (λ e. e.user)) (same_number (λ e. e.k))
      (tiles.0 ∙ sym tiles_y.0) of_x of_y

  pub rest_more : AtLeast xs ys
  rest_more h = let sums : h x + sum_of h xs ≤ h y + sum_of h ys = more h in let same = same_number h in omega arith

  pub same_long : length x.bytes ≡ length y.bytes
  same_long = same_number (λ e. length e.bytes)

-- the log goes on
abbrev pub GoesOn : List Entry → List Entry → ℕ → ℕ → Type 0
GoesOn log more n m = (rest : List Entry) × ◌≡◌ {A = List Entry} more (log ++ rest) × Tiles n rest m

pub log_goes_on : (c : Setup) (s n m : ℕ) (log more : List Entry) → Tiles s log n → Tiles s more m → AreLines c log
    → AreLines c more → AtLeast log more → GoesOn log more n m
log_goes_on c s n m [] more tiles tiles_more lines lines_more up =
    (more, refl, subst (λ (k : ℕ). Tiles k more m) tiles tiles_more)
log_goes_on c s n m (x ∷ xs) [] tiles tiles_more lines lines_more up =
    absurd (let z : 1 + sum_of (λ e. 1) xs ≤ 0 = up (λ e. 1) in omega arith)
log_goes_on c s n m (x ∷ xs) (y ∷ ys) tiles tiles_more lines lines_more up =
    let first = same_first c x y xs ys s n m tiles tiles_more up (lines 0 x refl) (lines_more 0 y refl) in
    let long = same_long c x y xs ys s n m tiles tiles_more up in
    let rest = log_goes_on c (s + length x.bytes) n m xs ys tiles.3
    (subst (λ (k : ℕ). Tiles (s + k) ys m) (sym long) tiles_more.3) (λ i e is. lines (suc i) e is)
    (λ i e is. lines_more (suc i) e is) (rest_more c x y xs ys s n m tiles tiles_more up) in (
      rest.0,
      ap (λ (e : Entry). e ∷ ys) (sym first) ∙ ap (λ (l : List Entry). x ∷ l) rest.1,
      rest.2,
    )

-- so the groups up to a place are the same
none_upto : (x n m : ℕ) (rest : List Entry) → x ≤ n → Tiles n rest m → ◌≡◌ {A = List Given} (groups_upto x rest) []
none_upto x n m [] low tiles = refl
none_upto x n m (e ∷ es) low tiles =
    let start = tiles.0 in
    let bytes = tiles.1 in
    let test : nat_le (end_of e) x ≡ false = grind (arith, nat_tests) in
    let none = none_upto x (n + length e.bytes) m es (omega arith) tiles.3 in
    ap (λ (b : Bool). let l : List Given = cond b ((record { start = lsn e.start; end = lsn (end_of e); text = e.bytes })
    ∷ groups_upto x es) (groups_upto x es) in l) test ∙ none

upto_on : (x n m : ℕ) (log rest : List Entry) → x ≤ n → Tiles n rest m
    → ◌≡◌ {A = List Given} (groups_upto x (log ++ rest)) (groups_upto x log)
upto_on x n m [] rest low tiles = none_upto x n m rest low tiles
upto_on x n m (e ∷ es) rest low tiles = ap (λ (l : List Given).
    cond (nat_le (end_of e) x) ((record { start = lsn e.start; end = lsn (end_of e); text = e.bytes }) ∷ l) l)
    (upto_on x n m es rest low tiles)

pub groups_stay : (x n m : ℕ) (log more : List Entry) → x ≤ n → GoesOn log more n m
    → ◌≡◌ {A = List Given} (groups_upto x more) (groups_upto x log)
groups_stay x n m log more low on = ap (groups_upto x) on.1 ∙ upto_on x n m log on.0 low on.2
