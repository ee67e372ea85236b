-- What one word says, to `clap` and to the definition.
use Rattle.std.proofs.Common.{◌≡◌, ◌∙◌, ◌&&◌, ◌||◌, ◌+◌, ◌<◌, ◌^◌, refl, sym, ap, arith, ℕ, Bool, cond, not, true, false, suc, List, [], ◌∷◌, length, drop, Option, Some, None, is_some, true≢false, lt-ltb, le-ltb}
use Rattle.std.specs.Prelude.{if◌then◌else◌, option_and_then, find, nat_lt, nat_le, ◌==◌, unwrap_or, position}
use Rattle.std.specs.Char.{is_ascii_digit}
use Rattle.std.specs.List.{list_all, list_any, position_or_len}
use Rattle.std.specs.Str.{bytes_eq}
use Rattle.std.proofs.Math.Bool.{and-false}
use Rattle.std.proofs.lemmas.Bool.{eqb-true}
use Rattle.std.proofs.lemmas.Slice.Eq.{bytes_eq-Decides}
use Rattle.clap.specs.Lexer.{long_of, long_of_rest, name_and_value, strip_byte}
use Rattle.clap.specs.Walk.{Text}
use Rattle.model_script.specs.{number_below, digits_value, name_of, spelling, word_number}
use Rattle.model_script.specs.Words.{every_name}
use Rattle.model_script.specs.declared.words.Name.{Name}
use Rattle.model_script.specs.declared.words.Name.TheVariants as name
use Rattle.model_words.proofs.Rules.{id}

-- ---- names

find_passes : (p : Name → Bool) (names : List Name) (m : Name) → find p names ≡ Some m → p m ≡ true
find_passes p [] m e = absurd (true≢false (ap is_some (sym e)))
find_passes p (n ∷ ns) m e = go (p n) refl e (find_passes p ns m)
  where
    go : (b : Bool) → p n ≡ b → cond b (Some n) (find p ns) ≡ Some m → (find p ns ≡ Some m → p m ≡ true) → p m ≡ true
    go true h e ih = ap (λ o. p (unwrap_or o n)) (sym e) ∙ h
    go false h e ih = ih e

find_fails : (p : Name → Bool) (names : List Name) → find p names ≡ None → list_any p names ≡ false
find_fails p [] e = refl
find_fails p (n ∷ ns) e = go (p n) refl e (find_fails p ns)
  where
    go : (b : Bool) → p n ≡ b → cond b (Some n) (find p ns) ≡ None → (find p ns ≡ None → list_any p ns ≡ false) → (p n || list_any p ns) ≡ false
    go true h e ih = absurd (true≢false (ap is_some e))
    go false h e ih = ap (λ b. b || list_any p ns) h ∙ ih e

find_any : (p : Name → Bool) (names : List Name) (m : Name) → find p names ≡ Some m → list_any p names ≡ true
find_any p [] m e = absurd (true≢false (ap is_some (sym e)))
find_any p (n ∷ ns) m e = go (p n) refl e (find_any p ns m)
  where
    go : (b : Bool) → p n ≡ b → cond b (Some n) (find p ns) ≡ Some m → (find p ns ≡ Some m → list_any p ns ≡ true) → (p n || list_any p ns) ≡ true
    go true h e ih = ap (λ b. b || list_any p ns) h
    go false h e ih = ap (λ b. b || list_any p ns) h ∙ ih e

pub spelled : (n : Name) → spelling n ≡ 45 ∷ 45 ∷ id n
spelled name.Files = refl
spelled _ = refl

pub name_at : (n : Name) → name_of (spelling n) ≡ Some n
unfolding name_of
name_at name.Files = refl
name_at _ = refl

pub name_says : (t : Text) (m : Name) → name_of t ≡ Some m → t ≡ spelling m
unfolding name_of
name_says t m e = (bytes_eq-Decides t (spelling m)).0 (find_passes (λ n. bytes_eq t (spelling n)) every_name m e)

pub bytes_sym : (xs ys : Text) → bytes_eq xs ys ≡ bytes_eq ys xs
bytes_sym xs ys = go (bytes_eq xs ys) (bytes_eq ys xs) refl refl
  where
    go : (a b : Bool) → bytes_eq xs ys ≡ a → bytes_eq ys xs ≡ b → a ≡ b
    go true true e f = refl
    go false false e f = refl
    go true false e f = sym ((bytes_eq-Decides ys xs).1 (sym ((bytes_eq-Decides xs ys).0 e))) ∙ f
    go false true e f = sym e ∙ (bytes_eq-Decides xs ys).1 (sym ((bytes_eq-Decides ys xs).0 f))

abbrev pub is_member : List Name → Name → Bool
is_member names m = list_any (λ n. bytes_eq (spelling m) (spelling n)) names

-- the name of another option of the command
member_test : (m n : Name) → bytes_eq (spelling m) (spelling n) ≡ bytes_eq (id n) (id m)
member_test m n =
    ap (λ x. bytes_eq x (spelling n)) (spelled m) ∙ ap (λ x. bytes_eq (45 ∷ 45 ∷ id m) x) (spelled n) ∙ bytes_sym (id m) (id n)

list_any_same : (p q : Name → Bool) (names : List Name) → ((n : Name) → p n ≡ q n) → list_any p names ≡ list_any q names
list_any_same p q [] e = refl
list_any_same p q (n ∷ ns) e = (λ i. e n i || list_any_same p q ns e i)

member_is : (names : List Name) (m : Name) → is_member names m ≡ list_any (λ n. bytes_eq (id n) (id m)) names
member_is names m = list_any_same _ _ names (member_test m)

-- the option of the command that is named so, and the option of any command
pub name_found : (names : List Name) (t : Text) (n : Name) → find (λ n. bytes_eq (id n) t) names ≡ Some n → (name_of (45 ∷ 45 ∷ t) ≡ Some n) × (is_member names n ≡ true)
name_found names t n e =
    let same : id n ≡ t = (bytes_eq-Decides (id n) t).0 (find_passes (λ n. bytes_eq (id n) t) names n e) in (
      ap (λ x. name_of (45 ∷ 45 ∷ x)) (sym same) ∙ ap name_of (sym (spelled n)) ∙ name_at n,
      member_is names n ∙ ap (λ x. list_any (λ n. bytes_eq (id n) x) names) same ∙ find_any (λ n. bytes_eq (id n) t) names n e,
    )

pub name_other : (names : List Name) (t : Text) (m : Name) → find (λ n. bytes_eq (id n) t) names ≡ None → name_of (45 ∷ 45 ∷ t) ≡ Some m → is_member names m ≡ false
name_other names t m e f =
    let same : id m ≡ t = ap (drop 2) (sym (name_says (45 ∷ 45 ∷ t) m f ∙ spelled m)) in
    member_is names m ∙ ap (λ x. list_any (λ n. bytes_eq (id n) x) names) same ∙ find_fails (λ n. bytes_eq (id n) t) names e

-- ---- the place of `=`

abbrev pub is_equals : ℕ → Bool
is_equals x = x == 61

abbrev pub place : Text → ℕ
place t = position_or_len is_equals t

pub place_on : (x : ℕ) (xs : Text) → is_equals x ≡ false → place (x ∷ xs) ≡ suc (place xs)
place_on x xs e = ap (λ b. cond (not b) (1 + place xs) 0) e ∙ omega arith

pub no_place : (t : Text) → list_any is_equals t ≡ false → place t ≡ length t
no_place [] e = refl
no_place (x ∷ xs) e = go (is_equals x) refl e (no_place xs)
  where
    go : (b : Bool) → is_equals x ≡ b → (b || list_any is_equals xs) ≡ false → (list_any is_equals xs ≡ false → place xs ≡ length xs) → place (x ∷ xs) ≡ suc (length xs)
    go true h e ih = absurd (true≢false e)
    go false h e ih = place_on x xs h ∙ ap suc (ih e)

some_place : (t : Text) → list_any is_equals t ≡ true → place t < length t
some_place [] e = absurd (true≢false (sym e))
some_place (x ∷ xs) e = go (is_equals x) refl e (some_place xs)
  where
    go : (b : Bool) → is_equals x ≡ b → (b || list_any is_equals xs) ≡ true → (list_any is_equals xs ≡ true → place xs < length xs) → place (x ∷ xs) < suc (length xs)
    go true h e ih = let here : place (x ∷ xs) ≡ 0 = ap (λ b. cond (not b) (1 + place xs) 0) h in omega (arith, here)
    go false h e ih = omega (arith, place_on x xs h, ih e)

pub position_none : (t : Text) → list_any is_equals t ≡ false → position is_equals t ≡ None
position_none t e = ap (λ b. cond b (Some (place t)) None) (le-ltb (place t) (length t) (omega (arith, no_place t e)))

pub position_some : (t : Text) → list_any is_equals t ≡ true → position is_equals t ≡ Some (place t)
position_some t e = ap (λ b. cond b (Some (place t)) None) (lt-ltb (place t) (length t) (some_place t e))

-- ---- numbers

pub number_by : (t : Text) → list_all is_ascii_digit t ≡ false → word_number t ≡ None
unfolding number_below
number_by t e =
    ap (λ b. if (nat_le 1 (length t) && (nat_le (length t) 20 && b)) && nat_lt (digits_value t) (2 ^ 64) then Some (digits_value t) else None) e
    ∙ ap (λ b. if (nat_le 1 (length t) && b) && nat_lt (digits_value t) (2 ^ 64) then Some (digits_value t) else None) (and-false (nat_le (length t) 20))
    ∙ ap (λ b. if b && nat_lt (digits_value t) (2 ^ 64) then Some (digits_value t) else None) (and-false (nat_le 1 (length t)))

pub dash_none : (r : Text) → word_number (45 ∷ r) ≡ None
dash_none r = number_by (45 ∷ r) refl

pub equals_digits : (t : Text) → list_any is_equals t ≡ true → list_all is_ascii_digit t ≡ false
equals_digits [] e = absurd (true≢false (sym e))
equals_digits (x ∷ xs) e = go (is_equals x) refl e (equals_digits xs)
  where
    go : (b : Bool) → is_equals x ≡ b → (b || list_any is_equals xs) ≡ true → (list_any is_equals xs ≡ true → list_all is_ascii_digit xs ≡ false) → list_all is_ascii_digit (x ∷ xs) ≡ false
    go true h e ih = ap (λ y. list_all is_ascii_digit (y ∷ xs)) (eqb-true x 61 h)
    go false h e ih = ap (λ b. is_ascii_digit x && b) (ih e) ∙ and-false (is_ascii_digit x)

-- ---- the shape of a word

pub strip_says : (k : ℕ) (t r : Text) → strip_byte k t ≡ Some r → t ≡ k ∷ r
strip_says k [] r e = absurd (true≢false (ap is_some (sym e)))
strip_says k (x ∷ xs) r e = go (x == k) refl e
  where
    go : (b : Bool) → (x == k) ≡ b → (if b then Some xs else None) ≡ Some r → x ∷ xs ≡ k ∷ r
    go true h e = (λ i. eqb-true x k h i ∷ unwrap_or (e i) xs)
    go false h e = absurd (true≢false (ap is_some (sym e)))

pub then_says : {X Y : Type 0} (f : X → Option Y) (o : Option X) (y : Y) → option_and_then f o ≡ Some y → (x : X) × (o ≡ Some x) × (f x ≡ Some y)
then_says f None y e = absurd (true≢false (ap is_some (sym e)))
then_says f (Some x) y e = (x, refl, e)

rest_says : (r : Text) (l : Text × Option Text) → long_of_rest r ≡ Some l → (x : ℕ) × (xs : Text) × (r ≡ x ∷ xs) × (l ≡ name_and_value (x ∷ xs))
rest_says [] l e = absurd (true≢false (ap is_some (sym e)))
rest_says (x ∷ xs) l e = (x, xs, refl, ap (λ o. unwrap_or o l) (sym e))

-- what a word with two dashes is
pub long_shape : (t : Text) (l : Text × Option Text) → long_of t ≡ Some l → (x : ℕ) × (xs : Text) × (t ≡ 45 ∷ 45 ∷ x ∷ xs) × (l ≡ name_and_value (x ∷ xs))
long_shape t l e =
    let outer = then_says long_of_rest (option_and_then (strip_byte 45) (strip_byte 45 t)) l e in
    let inner = then_says (strip_byte 45) (strip_byte 45 t) outer.0 outer.1 in
    let rest = rest_says outer.0 l outer.2 in
    (rest.0, rest.1, strip_says 45 t inner.0 inner.1 ∙ ap (λ y. 45 ∷ y) (strip_says 45 inner.0 outer.0 inner.2) ∙ ap (λ y. 45 ∷ 45 ∷ y) rest.2, rest.3)
