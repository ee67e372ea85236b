-- What is read of uses, and what they say.
use Rattle.std.proofs.Common.{◌≡◌, ◌∙◌, ◌||◌, ◌⊎◌, inl, inr, refl, sym, ap, ℕ, Bool, cond, not, true, false, List, [], ◌∷◌, ◌++◌, map, Option, Some, None, is_some, option_map, true≢false}
use Rattle.std.specs.Prelude.{if◌then◌else◌, option_and_then, find, fold, slice_get, unwrap_or}
use Rattle.std.specs.List.{list_all}
use Rattle.std.specs.Str.{bytes_eq}
use Rattle.std.proofs.lemmas.Slice.Eq.{bytes_eq-Decides}
use Rattle.clap.specs.Walk.{Row, Rule, Text, default_rows, first_of, has_row, with_default, reading_by, at_row, more_values}
use Rattle.clap.specs.declared.parser.matches.ValueSource.TheVariants.{DefaultValue}
use Rattle.clap.proofs.WalkLemmas.{both}
use Rattle.model_script.specs.{is_flag, with_option, with_value, word_number}
use Rattle.model_script.specs.declared.words.Name.{Name}
use Rattle.model_words.specs.Found.{is_true}
use Rattle.model_words.proofs.Rules.{Place, all_read, has_values, id, one_read, plain, two_read, zero_read}
use Rattle.model_words.proofs.Lookups.{Ok, added}
use Rattle.model_words.proofs.Said.{conv}
use Rattle.model_words.proofs.Spelled.{is_member}
use Rattle.model_words.proofs.Uses.{Use, adds, flagged, numbered, use_id, use_row, use_text, value_id, valued}

-- ---- defaults

abbrev has_id : Text → Row → Bool
has_id i r = bytes_eq r.id i

find_none : (i : Text) (rows : List Row) → has_row i rows ≡ false → find (has_id i) rows ≡ None
find_none i [] e = refl
find_none i (r ∷ rs) e = go (has_id i r) refl e (find_none i rs)
  where
    go : (b : Bool) → has_id i r ≡ b → (has_id i r || has_row i rs) ≡ false → (has_row i rs ≡ false → find (has_id i) rs ≡ None) → cond (has_id i r) (Some r) (find (has_id i) rs) ≡ None
    go true h e ih = absurd (true≢false (sym (ap (λ b. b || has_row i rs) h) ∙ e))
    go false h e ih = ap (λ b. cond b (Some r) (find (has_id i) rs)) h ∙ ih (sym (ap (λ b. b || has_row i rs) h) ∙ e)

find_first : (i : Text) (rows : List Row) (r : Row) (rest : List Row) → has_row i rows ≡ false → has_id i r ≡ true → find (has_id i) (rows ++ r ∷ rest) ≡ Some r
find_first i [] r rest e h = ap (λ b. cond b (Some r) (find (has_id i) rest)) h
find_first i (x ∷ xs) r rest e h = go (has_id i x) refl e (λ none. find_first i xs r rest none h)
  where
    go : (b : Bool) → has_id i x ≡ b → (has_id i x || has_row i xs) ≡ false → (has_row i xs ≡ false → find (has_id i) (xs ++ r ∷ rest) ≡ Some r)
        → cond (has_id i x) (Some x) (find (has_id i) (xs ++ r ∷ rest)) ≡ Some r
    go true k e ih = absurd (true≢false (sym (ap (λ b. b || has_row i xs) k) ∙ e))
    go false k e ih = ap (λ b. cond b (Some x) (find (has_id i) (xs ++ r ∷ rest))) k ∙ ih (sym (ap (λ b. b || has_row i xs) k) ∙ e)

find_skip : (i : Text) (rows : List Row) (r : Row) → has_id i r ≡ false → find (has_id i) (rows ++ r ∷ []) ≡ find (has_id i) rows
find_skip i [] r h = ap (λ b. cond b (Some r) None) h
find_skip i (x ∷ xs) r h = ap (cond (has_id i x) (Some x)) (find_skip i xs r h)

at_missing : (i : Text) (change : Row → List Row) (missing rows : List Row) → has_row i rows ≡ false → at_row i change missing rows ≡ rows ++ missing
at_missing i change missing [] e = refl
at_missing i change missing (r ∷ rs) e = go (bytes_eq r.id i) refl e (at_missing i change missing rs)
  where
    go : (b : Bool) → bytes_eq r.id i ≡ b → (bytes_eq r.id i || has_row i rs) ≡ false → (has_row i rs ≡ false → at_row i change missing rs ≡ rs ++ missing)
        → (if bytes_eq r.id i then change r ++ rs else r ∷ at_row i change missing rs) ≡ r ∷ (rs ++ missing)
    go true h e ih = absurd (true≢false (sym (ap (λ b. b || has_row i rs) h) ∙ e))
    go false h e ih =
        ap (λ b. if b then change r ++ rs else r ∷ at_row i change missing rs) h
        ∙ ap (λ xs. r ∷ xs) (ih (sym (ap (λ b. b || has_row i rs) h) ∙ e))

abbrev text_of_row : Option Row → Option Text
text_of_row = option_and_then (λ r. slice_get r.values 0)

-- an argument that was not used gets a row after the others
abbrev DefaultIs : List Row → Rule → List Text → Type 0
DefaultIs rows a [] = with_default rows a ≡ rows
DefaultIs rows a (d ∷ ds) = (with_default rows a ≡ rows) ⊎ ((r : Row) × (r.id ≡ a.id) × (r.values ≡ d ∷ ds) × (has_row a.id rows ≡ false) × (with_default rows a ≡ rows ++ r ∷ []))

default_is : (rows : List Row) (a : Rule) (ds : List Text) → a.defaults ≡ ds → DefaultIs rows a ds
default_is rows a [] e = go (has_row a.id rows)
  where
    go : (b : Bool) → (if b then rows else default_rows a.id (reading_by a) a.defaults rows) ≡ rows
    go true = refl
    go false = ap (λ ds. default_rows a.id (reading_by a) ds rows) e
default_is rows a (d ∷ ds) e = go (has_row a.id rows) refl
  where
    new : Row
    new = record { id = a.id; values = d ∷ ds; count = None; source = Some DefaultValue; reading = reading_by a }

    go : (b : Bool) → has_row a.id rows ≡ b → DefaultIs rows a (d ∷ ds)
    go true h = inl (ap (λ b. if b then rows else default_rows a.id (reading_by a) a.defaults rows) h)
    go false h =
        inr (
          new,
          refl,
          refl,
          h,
          ap (λ b. if b then rows else default_rows a.id (reading_by a) a.defaults rows) h
              ∙ ap (λ ds. default_rows a.id (reading_by a) ds rows) e ∙ at_missing a.id (more_values DefaultValue (d ∷ ds)) (new ∷ []) rows h,
        )

abbrev keeps_texts : Text → Text → List Text → Bool
keeps_texts i name [] = true
keeps_texts i name (d ∷ ds) = not (bytes_eq name i)

abbrev pub keeps : Text → Rule → Bool
keeps i a = keeps_texts i a.id a.defaults

not_true : (b : Bool) → not b ≡ true → b ≡ false
not_true true e = sym e
not_true false e = refl

number_default : (i : Text) (rows : List Row) (a : Rule) (ds : List Text) → a.defaults ≡ ds → keeps i a ≡ true → first_of i (with_default rows a) ≡ first_of i rows
number_default i rows a [] e keep = ap (first_of i) (default_is rows a [] e)
number_default i rows a (d ∷ ds) e keep = go (default_is rows a (d ∷ ds) e)
  where
    other : bytes_eq a.id i ≡ false
    other = not_true (bytes_eq a.id i) (ap (keeps_texts i a.id) (sym e) ∙ keep)

    go : DefaultIs rows a (d ∷ ds) → first_of i (with_default rows a) ≡ first_of i rows
    go (inl same) = ap (first_of i) same
    go (inr m) = ap (first_of i) m.4 ∙ ap text_of_row (find_skip i rows m.0 (ap (λ x. bytes_eq x i) m.1 ∙ other))

pub number_kept : (i : Text) (c : List Rule) (rows : List Row) → list_all (keeps i) c ≡ true → first_of i (fold with_default rows c) ≡ first_of i rows
number_kept i [] rows e = refl
number_kept i (a ∷ more) rows e =
    let parts = both (keeps i a) (list_all (keeps i) more) e in
    number_kept i more (with_default rows a) parts.1 ∙ number_default i rows a a.defaults refl parts.0

row_default : (i : Text) (rows : List Row) (a : Rule) (ds : List Text) → a.defaults ≡ ds → keeps i a ≡ true → find (has_id i) (with_default rows a) ≡ find (has_id i) rows
row_default i rows a [] e keep = ap (find (has_id i)) (default_is rows a [] e)
row_default i rows a (d ∷ ds) e keep = go (default_is rows a (d ∷ ds) e)
  where
    other : bytes_eq a.id i ≡ false
    other = not_true (bytes_eq a.id i) (ap (keeps_texts i a.id) (sym e) ∙ keep)

    go : DefaultIs rows a (d ∷ ds) → find (has_id i) (with_default rows a) ≡ find (has_id i) rows
    go (inl same) = ap (find (has_id i)) same
    go (inr m) = ap (find (has_id i)) m.4 ∙ find_skip i rows m.0 (ap (λ x. bytes_eq x i) m.1 ∙ other)

pub row_kept : (i : Text) (c : List Rule) (rows : List Row) → list_all (keeps i) c ≡ true → find (λ r. bytes_eq r.id i) (fold with_default rows c) ≡ find (λ r. bytes_eq r.id i) rows
row_kept i [] rows e = refl
row_kept i (a ∷ more) rows e =
    let parts = both (keeps i a) (list_all (keeps i) more) e in
    row_kept i more (with_default rows a) parts.1 ∙ row_default i rows a a.defaults refl parts.0

abbrev pub stays : Rule → Bool
stays a = not (is_true (slice_get a.defaults 0))

flag_default : (i : Text) (rows : List Row) (a : Rule) (ds : List Text) → a.defaults ≡ ds → stays a ≡ true → is_true (first_of i (with_default rows a)) ≡ is_true (first_of i rows)
flag_default i rows a [] e stay = ap (λ rs. is_true (first_of i rs)) (default_is rows a [] e)
flag_default i rows a (d ∷ ds) e stay = go (default_is rows a (d ∷ ds) e)
  where
    at : (m : (r : Row) × (r.id ≡ a.id) × (r.values ≡ d ∷ ds) × (has_row a.id rows ≡ false) × (with_default rows a ≡ rows ++ r ∷ [])) (b : Bool) → bytes_eq a.id i ≡ b
        → is_true (first_of i (with_default rows a)) ≡ is_true (first_of i rows)
    at m false h = ap (λ rs. is_true (first_of i rs)) m.4 ∙ ap (λ o. is_true (text_of_row o)) (find_skip i rows m.0 (ap (λ x. bytes_eq x i) m.1 ∙ h))
    at m true h =
        let same : a.id ≡ i = (bytes_eq-Decides a.id i).0 h in
        let none : has_row i rows ≡ false = ap (λ x. has_row x rows) (sym same) ∙ m.3 in
        ap (λ rs. is_true (first_of i rs)) m.4 ∙ ap (λ o. is_true (text_of_row o)) (find_first i rows m.0 [] none (ap (λ x. bytes_eq x i) m.1 ∙ h))
        ∙ ap (λ vs. is_true (slice_get vs 0)) (m.2 ∙ sym e) ∙ not_true (is_true (slice_get a.defaults 0)) stay
        ∙ sym (ap (λ o. is_true (text_of_row o)) (find_none i rows none))

    go : DefaultIs rows a (d ∷ ds) → is_true (first_of i (with_default rows a)) ≡ is_true (first_of i rows)
    go (inl same) = ap (λ rs. is_true (first_of i rs)) same
    go (inr m) = at m (bytes_eq a.id i) refl

pub flag_kept : (i : Text) (c : List Rule) (rows : List Row) → list_all stays c ≡ true → is_true (first_of i (fold with_default rows c)) ≡ is_true (first_of i rows)
flag_kept i [] rows e = refl
flag_kept i (a ∷ more) rows e =
    let parts = both (stays a) (list_all stays more) e in
    flag_kept i more (with_default rows a) parts.1 ∙ flag_default i rows a a.defaults refl parts.0

-- ---- a use whose number is none

pub map_says : {X Y : Type 0} (f : X → Y) (o : Option X) (y : Y) → option_map f o ≡ Some y → (x : X) × (o ≡ Some x) × (y ≡ f x)
map_says f None y e = absurd (true≢false (ap is_some (sym e)))
map_says f (Some x) y e = (x, refl, ap (λ o. unwrap_or o y) (sym e))

map_none : {X Y : Type 0} (f : X → Y) (o : Option X) → option_map f o ≡ None → o ≡ None
map_none f None e = refl
map_none f (Some x) e = absurd (true≢false (ap is_some e))

adds_says : (rows : List Row) (u : Use) (us : List Use) (now : List Row) → adds rows (u ∷ us) ≡ Some now → (has_row (use_id u) rows ≡ false) × (adds (rows ++ use_row u ∷ []) us ≡ Some now)
adds_says rows u us now e = go (has_row (use_id u) rows) refl e
  where
    go : (b : Bool) → has_row (use_id u) rows ≡ b → (if has_row (use_id u) rows then None else adds (rows ++ use_row u ∷ []) us) ≡ Some now
        → (has_row (use_id u) rows ≡ false) × (adds (rows ++ use_row u ∷ []) us ≡ Some now)
    go true h e = absurd (true≢false (ap is_some (sym (sym (ap (λ b. if b then None else adds (rows ++ use_row u ∷ []) us) h) ∙ e))))
    go false h e = (h, sym (ap (λ b. if b then None else adds (rows ++ use_row u ∷ []) us) h) ∙ e)

text_here : (rows : List Row) (u : Use) (us : List Use) (now : List Row) → adds rows (u ∷ us) ≡ Some now → first_of (use_id u) now ≡ Some (use_text u)
text_here rows u us now e =
    let is = adds_says rows u us now e in
    ap (first_of (use_id u)) (added rows (u ∷ us) now e)
    ∙ ap text_of_row (find_first (use_id u) rows (use_row u) (map use_row us) is.0 ((bytes_eq-Decides (use_id u) (use_id u)).1 refl))

abbrev pub takes_value : Place → Bool
takes_value plain = false
takes_value zero_read = true
takes_value one_read = true
takes_value two_read = true
takes_value all_read = false

-- an option or a number by itself whose text is no number
abbrev pub Bad : List Name → Place → List Row → Type 0
Bad names p now =
    ((n : Name) × (t : Text) × (is_member names n ≡ true) × (is_flag n ≡ false) × (first_of (id n) now ≡ Some t) × (word_number t ≡ None))
    ⊎ ((q : Place) × (t : Text) × (has_values p ≡ true) × (takes_value q ≡ true) × (first_of (value_id q) now ≡ Some t) × (word_number t ≡ None))

number_none : {Y : Type 0} (o : Option ℕ) (k : Option Y) (f : ℕ → Y → Y) → option_and_then (λ x. option_map (f x) k) o ≡ None → (o ≡ None) ⊎ (k ≡ None)
number_none None k f e = inl refl
number_none (Some x) k f e = inr (map_none (f x) k e)

bad_value : (names : List Name) (p r q : Place) (t : Text) (us : List Use) (rows now : List Row) → has_values p ≡ true → takes_value q ≡ true → conv (valued q t ∷ us) ≡ None
    → adds rows (valued q t ∷ us) ≡ Some now → (conv us ≡ None → adds (rows ++ use_row (valued q t) ∷ []) us ≡ Some now → Bad names r now) → Bad names p now
bad_value names p r q t us rows now hp hq none e ih = go (number_none (word_number t) (conv us) (λ x. with_value x) none)
  where
    widen : Bad names r now → Bad names p now
    widen (inl b) = inl b
    widen (inr b) = inr (b.0, b.1, hp, b.3, b.4, b.5)

    go : (word_number t ≡ None) ⊎ (conv us ≡ None) → Bad names p now
    go (inl h) = inr (q, t, hp, hq, text_here rows (valued q t) us now e, h)
    go (inr h) = widen (ih h (adds_says rows (valued q t) us now e).1)

pub bad_in : (names : List Name) (p : Place) (us : List Use) (rows now : List Row) → Ok names p us → conv us ≡ None → adds rows us ≡ Some now → Bad names p now
bad_in names p [] rows now ok none e = absurd (true≢false (ap is_some none))
bad_in names p (flagged n ∷ us) rows now ok none e = bad_in names p us (rows ++ use_row (flagged n) ∷ []) now ok.2 (map_none (with_option n None) (conv us) none) (adds_says rows (flagged n) us now e).1
bad_in names p (numbered n t ∷ us) rows now ok none e = go (number_none (word_number t) (conv us) (λ x. with_option n (Some x)) none) (bad_in names p us (rows ++ use_row (numbered n t) ∷ []) now ok.2)
  where
    go : (word_number t ≡ None) ⊎ (conv us ≡ None) → (conv us ≡ None → adds (rows ++ use_row (numbered n t) ∷ []) us ≡ Some now → Bad names p now) → Bad names p now
    go (inl h) ih = inl (n, t, ok.0, ok.1, text_here rows (numbered n t) us now e, h)
    go (inr h) ih = ih h (adds_says rows (numbered n t) us now e).1
bad_in names zero_read (valued zero_read t ∷ us) rows now ok none e = bad_value names zero_read one_read zero_read t us rows now refl refl none e (bad_in names one_read us (rows ++ use_row (valued zero_read t) ∷ []) now ok)
bad_in names one_read (valued one_read t ∷ us) rows now ok none e = bad_value names one_read two_read one_read t us rows now refl refl none e (bad_in names two_read us (rows ++ use_row (valued one_read t) ∷ []) now ok)
bad_in names two_read (valued two_read t ∷ us) rows now ok none e = bad_value names two_read all_read two_read t us rows now refl refl none e (bad_in names all_read us (rows ++ use_row (valued two_read t) ∷ []) now ok)
bad_in names p (valued q t ∷ us) rows now ok none e = absurd ok
