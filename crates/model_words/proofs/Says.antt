-- The words of one command as uses, and as what they say.
use Rattle.std.proofs.Common.{◌≡◌, ◌∙◌, ◌+◌, refl, sym, ap, arith, ℕ, Bool, true, false, suc, [], ◌∷◌, ◌++◌, length, take, drop, Option, Some, None, is_some, option_map, true≢false}
use Rattle.std.specs.Prelude.{if◌then◌else◌, option_and_then, ◌==◌, position}
use Rattle.std.specs.List.{list_any, after_first}
use Rattle.std.specs.Str.{bytes_eq}
use Rattle.std.proofs.lemmas.List.{take-append-drop}
use Rattle.clap.specs.Lexer.{long_of, name_and_value, short_of, short_of_rest, strip_byte}
use Rattle.clap.specs.Walk.{Text}
use Rattle.model_script.specs.{joined_word, name_of, name_word, spelling, word_number, word_of, word_with}
use Rattle.model_script.specs.declared.words.Name.{Name}
use Rattle.model_script.specs.declared.words.Name.TheVariants as name
use Rattle.model_script.specs.declared.words.Word.{Word}
use Rattle.model_script.specs.declared.words.Word.TheVariants.{Value, End}
use Rattle.model_words.proofs.Spelled.{dash_none, equals_digits, is_equals, long_shape, name_says, number_by, place, position_none, position_some, place_on, no_place, strip_says, then_says}
use Rattle.model_words.proofs.Uses.{is_bare}

-- ---- what a word says

long_spelled : (m : Name) (r : Text) → is_some (long_of (spelling m ++ r)) ≡ true
long_spelled name.Files r = refl
long_spelled _ r = refl

long_spelling : (m : Name) → is_some (long_of (spelling m)) ≡ true
long_spelling name.Files = refl
long_spelling _ = refl

no_equals : (m : Name) → list_any is_equals (spelling m) ≡ false
no_equals name.Files = refl
no_equals _ = refl

name_bare : (t : Text) (o : Option Name) → name_of t ≡ o → long_of t ≡ None → name_of t ≡ None
name_bare t None e long = e
name_bare t (Some m) e long = absurd (true≢false (sym (long_spelling m) ∙ ap (λ x. is_some (long_of x)) (sym (name_says t m e)) ∙ ap is_some long))

name_before : (t : Text) (k : ℕ) (o : Option Name) → name_of (take k t) ≡ o → long_of t ≡ None → name_of (take k t) ≡ None
name_before t k None e long = e
name_before t k (Some m) e long =
    absurd (true≢false (sym (long_spelled m (drop k t)) ∙ ap (λ x. is_some (long_of (x ++ drop k t))) (sym (name_says (take k t) m e))
    ∙ ap (λ x. is_some (long_of x)) (take-append-drop k t) ∙ ap is_some long))

name_without : (t : Text) (o : Option Name) → name_of t ≡ o → list_any is_equals t ≡ true → name_of t ≡ None
name_without t None e has = e
name_without t (Some m) e has = absurd (true≢false (sym has ∙ ap (list_any is_equals) (name_says t m e) ∙ no_equals m))

abbrev word_named : Text → Option Name → Option ℕ → Option Word
word_named t (Some n) at = Some (name_word n)
word_named t None at = word_with t at

word_is : (t : Text) → bytes_eq t (45 ∷ 45 ∷ []) ≡ false → word_of t ≡ word_named t (name_of t) (position is_equals t)
unfolding word_of
word_is t e = ap (λ b. if b then Some End else other) e ∙ same (name_of t)
  where
    other : Option Word
    other = elim (name_of t) [ Some name ↦ Some (name_word name) | None ↦ word_with t (position (λ byte. byte == 61) t) ]

    same : (o : Option Name) → elim o [ Some name ↦ Some (name_word name) | None ↦ word_with t (position (λ byte. byte == 61) t) ] ≡ word_named t o (position is_equals t)
    same (Some n) = refl
    same None = refl

-- a word that is no option
pub word_bare : (t : Text) → bytes_eq t (45 ∷ 45 ∷ []) ≡ false → long_of t ≡ None → word_of t ≡ option_map Value (word_number t)
word_bare t e long = word_is t e ∙ ap (λ o. word_named t o (position is_equals t)) (name_bare t (name_of t) refl long) ∙ go (list_any is_equals t) refl
  where
    go : (b : Bool) → list_any is_equals t ≡ b → word_with t (position is_equals t) ≡ option_map Value (word_number t)
    go false h = ap (word_with t) (position_none t h)
    go true h =
        ap (word_with t) (position_some t h)
        ∙ ap (option_and_then (λ name. option_and_then (joined_word name) (word_number (drop (place t + 1) t)))) (name_before t (place t) (name_of (take (place t) t)) refl long)
        ∙ sym (ap (option_map Value) (number_by t (equals_digits t h)))

abbrev pub saying : Option Text → Option Name → Option Word
saying v None = None
saying None (Some m) = Some (name_word m)
saying (Some x) (Some m) = option_and_then (joined_word m) (word_number x)

take_all : (t : Text) → take (length t) t ≡ t
take_all [] = refl
take_all (x ∷ xs) = ap (λ ys. x ∷ ys) (take_all xs)

long_says : (x : ℕ) (xs : Text) (b : Bool) → list_any is_equals (x ∷ xs) ≡ b
    → word_of (45 ∷ 45 ∷ x ∷ xs) ≡ saying (name_and_value (x ∷ xs)).1 (name_of (45 ∷ 45 ∷ (name_and_value (x ∷ xs)).0))
long_says x xs false h =
    let t : Text = 45 ∷ 45 ∷ x ∷ xs in
    let whole : take (place (x ∷ xs)) (x ∷ xs) ≡ x ∷ xs = ap (λ k. take k (x ∷ xs)) (no_place (x ∷ xs) h) ∙ take_all (x ∷ xs) in
    word_is t refl ∙ ap (word_named t (name_of t)) (position_none t h) ∙ go (name_of t)
    ∙ (λ i. saying (if sym h i then Some (after_first is_equals (x ∷ xs)) else None) (name_of (45 ∷ 45 ∷ sym whole i)))
  where
    go : (o : Option Name) → word_named (45 ∷ 45 ∷ x ∷ xs) o None ≡ saying None o
    go (Some m) = refl
    go None = ap (option_map Value) (dash_none (45 ∷ x ∷ xs))
long_says x xs true h =
    let t : Text = 45 ∷ 45 ∷ x ∷ xs in
    let at : place t ≡ suc (suc (place (x ∷ xs))) = place_on 45 (45 ∷ x ∷ xs) refl ∙ ap suc (place_on 45 (x ∷ xs) refl) in
    let on : suc (suc (place (x ∷ xs))) + 1 ≡ suc (suc (place (x ∷ xs) + 1)) = omega arith in
    word_is t refl ∙ ap (λ o. word_named t o (position is_equals t)) (name_without t (name_of t) refl h) ∙ ap (word_with t) (position_some t h ∙ ap (λ k. Some k) at)
    ∙ ap (λ k. option_and_then (λ name. option_and_then (joined_word name) (word_number (drop k t))) (name_of (take (suc (suc (place (x ∷ xs)))) t))) on
    ∙ go (name_of (45 ∷ 45 ∷ take (place (x ∷ xs)) (x ∷ xs)))
    ∙ (λ i. saying (if sym h i then Some (after_first is_equals (x ∷ xs)) else None) (name_of (45 ∷ 45 ∷ take (place (x ∷ xs)) (x ∷ xs))))
  where
    go : (o : Option Name) → option_and_then (λ name. option_and_then (joined_word name) (word_number (drop (place (x ∷ xs) + 1) (x ∷ xs)))) o ≡ saying (Some (after_first is_equals (x ∷ xs))) o
    go (Some m) = refl
    go None = refl

-- a word with two dashes
pub word_long : (t : Text) (l : Text × Option Text) → long_of t ≡ Some l → word_of t ≡ saying l.1 (name_of (45 ∷ 45 ∷ l.0))
word_long t l e =
    let shape = long_shape t l e in
    ap word_of shape.2 ∙ long_says shape.0 shape.1 (list_any is_equals (shape.0 ∷ shape.1)) refl
    ∙ ap (λ (p : Text × Option Text). saying p.1 (name_of (45 ∷ 45 ∷ p.0))) (sym shape.3)

pub word_end : (t : Text) → bytes_eq t (45 ∷ 45 ∷ []) ≡ true → word_of t ≡ Some End
unfolding word_of
word_end t e = ap (λ b. if b then Some End else other) e
  where
    other : Option Word
    other = elim (name_of t) [ Some name ↦ Some (name_word name) | None ↦ word_with t (position (λ byte. byte == 61) t) ]

pub dashed_number : (t : Text) → is_bare (short_of t) ≡ false → word_number t ≡ None
dashed_number t e = go (short_of t) refl e
  where
    go : (o : Option Text) → short_of t ≡ o → is_bare o ≡ false → word_number t ≡ None
    go None f e = absurd (true≢false e)
    go (Some flags) f e =
        let parts = then_says short_of_rest (strip_byte 45 t) flags f in
        ap word_number (strip_says 45 t parts.0 parts.1) ∙ dash_none parts.0
