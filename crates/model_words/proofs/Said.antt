-- What the words of one command say, by their uses.
use Rattle.std.proofs.Common.{◌≡◌, ◌∙◌, ◌&&◌, refl, sym, ap, ℕ, Bool, not, true, false, List, [], ◌∷◌, Option, Some, None, is_some, option_map, true≢false}
use Rattle.std.specs.Prelude.{if◌then◌else◌, option_and_then, find}
use Rattle.std.specs.List.{list_all}
use Rattle.std.specs.Str.{bytes_eq}
use Rattle.std.proofs.Math.Bool.{and-false}
use Rattle.std.proofs.lemmas.Slice.Eq.{bytes_eq-Decides}
use Rattle.clap.specs.Lexer.{long_of, short_of}
use Rattle.clap.specs.Walk.{Text}
use Rattle.model_script.specs.{Said, is_flag, name_of, nothing_said, said_from, said_with, with_option, with_value, word_number, word_of}
use Rattle.model_script.specs.declared.words.Expected.{Expected}
use Rattle.model_script.specs.declared.words.Expected.TheVariants.{Any, Number, Numbers}
use Rattle.model_script.specs.declared.words.Given.{Given}
use Rattle.model_script.specs.declared.words.Name.{Name}
use Rattle.model_script.specs.declared.words.Word.TheVariants.{Flag, Open, Joined, Value}
use Rattle.model_words.proofs.Rules.{Place, all_read, id, one_read, plain, two_read, zero_read}
use Rattle.model_words.proofs.Spelled.{dash_none, is_member, long_shape, name_found, name_other}
use Rattle.model_words.proofs.Says.{dashed_number, saying, word_bare, word_end, word_long}
use Rattle.model_words.proofs.Uses.{joined_word as joined_use, Mode, Use, any, end_word, flag_word, flagged, is_bare, is_value, named, number_of, numbered, open_word, other_word, raw_from, raw_value, raw_with, trailing, value_word, valued, with_use}

-- what uses say, where each of their numbers is one
abbrev pub conv : List Use → Option Said
conv [] = Some nothing_said
conv (flagged n ∷ us) = option_map (with_option n None) (conv us)
conv (numbered n t ∷ us) = option_and_then (λ number. option_map (with_option n (Some number)) (conv us)) (word_number t)
conv (valued p t ∷ us) = option_and_then (λ number. option_map (with_value number) (conv us)) (word_number t)

abbrev pub fits : Place → List ℕ → Bool
fits p [] = true
fits plain (x ∷ xs) = false
fits zero_read (x ∷ xs) = fits one_read xs
fits one_read (x ∷ xs) = fits two_read xs
fits two_read (x ∷ xs) = fits all_read xs
fits all_read (x ∷ xs) = false

abbrev pub are_members : List Name → List Given → Bool
are_members names = list_all (λ g. is_member names g.name)

-- what is said, where the options are the command's and no number is too many
abbrev pub fit : List Name → Place → Said → Option Said
fit names p said = if are_members names said.options && fits p said.values then Some said else None

pub none_then : {X Y : Type 0} (o : Option X) → option_and_then (λ x. None) o ≡ (let none : Option Y = None in none)
none_then None = refl
none_then (Some x) = refl

conv_flag : (n : Name) (found : Option (List Use)) → option_and_then conv (with_use (flagged n) found) ≡ option_map (with_option n None) (option_and_then conv found)
conv_flag n None = refl
conv_flag n (Some us) = refl

conv_number : (n : Name) (t : Text) (found : Option (List Use))
    → option_and_then conv (with_use (numbered n t) found) ≡ option_and_then (λ number. option_map (with_option n (Some number)) (option_and_then conv found)) (word_number t)
conv_number n t None = sym (none_then (word_number t))
conv_number n t (Some us) = refl

conv_value : (p : Place) (t : Text) (found : Option (List Use))
    → option_and_then conv (with_use (valued p t) found) ≡ option_and_then (λ number. option_map (with_value number) (option_and_then conv found)) (word_number t)
conv_value p t None = sym (none_then (word_number t))
conv_value p t (Some us) = refl

module _ (names : List Name) where
  fit_option : (n : Name) (number : Option ℕ) (p : Place) (y : Option Said) → is_member names n ≡ true
      → option_map (with_option n number) (option_and_then (fit names p) y) ≡ option_and_then (fit names p) (option_map (with_option n number) y)
  fit_option n number p None e = refl
  fit_option n number p (Some said) e =
      go (are_members names said.options && fits p said.values)
      ∙ ap (λ b. if (b && are_members names said.options) && fits p said.values then Some (with_option n number said) else None) (sym e)
    where
      go : (b : Bool) → option_map (with_option n number) (if b then Some said else None) ≡ (if b then Some (with_option n number said) else None)
      go true = refl
      go false = refl

  fit_not : (n : Name) (number : Option ℕ) (p : Place) (y : Option Said) → is_member names n ≡ false → option_and_then (fit names p) (option_map (with_option n number) y) ≡ None
  fit_not n number p None e = refl
  fit_not n number p (Some said) e = ap (λ b. if (b && are_members names said.options) && fits p said.values then Some (with_option n number said) else None) e

  -- a number more, at the next place
  fit_next : (x : ℕ) (p q : Place) (y : Option Said) → ((xs : List ℕ) → fits p (x ∷ xs) ≡ fits q xs)
      → option_map (with_value x) (option_and_then (fit names q) y) ≡ option_and_then (fit names p) (option_map (with_value x) y)
  fit_next x p q None e = refl
  fit_next x p q (Some said) e =
      go (are_members names said.options && fits q said.values)
      ∙ ap (λ b. if are_members names said.options && b then Some (with_value x said) else None) (sym (e said.values))
    where
      go : (b : Bool) → option_map (with_value x) (if b then Some said else None) ≡ (if b then Some (with_value x said) else None)
      go true = refl
      go false = refl

  fit_full : (x : ℕ) (p : Place) (y : Option Said) → ((xs : List ℕ) → fits p (x ∷ xs) ≡ false) → None ≡ option_and_then (fit names p) (option_map (with_value x) y)
  fit_full x p None e = refl
  fit_full x p (Some said) e =
      sym (ap (λ b. if are_members names said.options && b then Some (with_value x said) else None) (e said.values)
      ∙ ap (λ b. if b then Some (with_value x said) else None) (and-false (are_members names said.options)))

  -- a number by itself
  valued_is : (p q : Place) (t : Text) (k : Option (List Use)) (y : Option Said) → ((x : ℕ) (xs : List ℕ) → fits p (x ∷ xs) ≡ fits q xs)
      → option_and_then conv k ≡ option_and_then (fit names q) y
      → option_and_then conv (with_use (valued p t) k) ≡ option_and_then (fit names p) (option_and_then (λ number. option_map (with_value number) y) (word_number t))
  valued_is p q t k y e same = conv_value p t k ∙ ap (λ o. option_and_then (λ number. option_map (with_value number) o) (word_number t)) same ∙ go (word_number t)
    where
      go : (o : Option ℕ) → option_and_then (λ number. option_map (with_value number) (option_and_then (fit names q) y)) o
          ≡ option_and_then (fit names p) (option_and_then (λ number. option_map (with_value number) y) o)
      go None = refl
      go (Some x) = fit_next x p q y (e x)

  too_many : (p : Place) (t : Text) (y : Option Said) → ((x : ℕ) (xs : List ℕ) → fits p (x ∷ xs) ≡ false)
      → None ≡ option_and_then (fit names p) (option_and_then (λ number. option_map (with_value number) y) (word_number t))
  too_many p t y e = go (word_number t)
    where
      go : (o : Option ℕ) → None ≡ option_and_then (fit names p) (option_and_then (λ number. option_map (with_value number) y) o)
      go None = refl
      go (Some x) = fit_full x p y (e x)

  value_is : (p : Place) (t : Text) (k : Place → Option (List Use)) (y : Option Said) → ((q : Place) → option_and_then conv (k q) ≡ option_and_then (fit names q) y)
      → option_and_then conv (raw_value p t k) ≡ option_and_then (fit names p) (option_and_then (λ number. option_map (with_value number) y) (word_number t))
  value_is plain t k y same = too_many plain t y (λ x xs. refl)
  value_is all_read t k y same = too_many all_read t y (λ x xs. refl)
  value_is zero_read t k y same = valued_is zero_read one_read t (k one_read) y (λ x xs. refl) (same one_read)
  value_is one_read t k y same = valued_is one_read two_read t (k two_read) y (λ x xs. refl) (same two_read)
  value_is two_read t k y same = valued_is two_read all_read t (k all_read) y (λ x xs. refl) (same all_read)

  -- the number of an option
  option_is : (p : Place) (n : Name) (t : Text) (k : Option (List Use)) (y : Option Said) → is_member names n ≡ true → option_and_then conv k ≡ option_and_then (fit names p) y
      → option_and_then conv (with_use (numbered n t) k) ≡ option_and_then (fit names p) (option_and_then (λ number. option_map (with_option n (Some number)) y) (word_number t))
  option_is p n t k y member same = conv_number n t k ∙ ap (λ o. option_and_then (λ number. option_map (with_option n (Some number)) o) (word_number t)) same ∙ go (word_number t)
    where
      go : (o : Option ℕ) → option_and_then (λ number. option_map (with_option n (Some number)) (option_and_then (fit names p) y)) o
          ≡ option_and_then (fit names p) (option_and_then (λ number. option_map (with_option n (Some number)) y) o)
      go None = refl
      go (Some x) = fit_option n (Some x) p y member

  option_not : (p : Place) (n : Name) (o : Option ℕ) (y : Option Said) → is_member names n ≡ false
      → None ≡ option_and_then (fit names p) (option_and_then (λ number. option_map (with_option n (Some number)) y) o)
  option_not p n None y other = refl
  option_not p n (Some x) y other = sym (fit_not n (Some x) p y other)

  abbrev Says : List Text → Type 0
  Says ts = ((p : Place) → option_and_then conv (raw_from names any p ts) ≡ option_and_then (fit names p) (said_from Any ts))
      × ((p : Place) → option_and_then conv (raw_from names trailing p ts) ≡ option_and_then (fit names p) (said_from Numbers ts))
      × ((p : Place) (n : Name) → is_member names n ≡ true → option_and_then conv (raw_from names (number_of n) p ts) ≡ option_and_then (fit names p) (said_from (Number n) ts))

  module _ (t : Text) (ts : List Text) (ih : Says ts) (p : Place) where
    abbrev others : Mode → Place → Option (List Use)
    others mode q = raw_from names mode q ts

    abbrev afters : Expected → Option Said
    afters expected = said_from expected ts

    -- an option of the command
    member_step : (n : Name) (b : Bool) → is_flag n ≡ b → is_member names n ≡ true → (val : Option Text)
        → option_and_then conv (raw_with p t (named val n) others) ≡ option_and_then (fit names p) (said_with (saying val (Some n)) afters)
    member_step n true e member None =
        ap (λ b. option_and_then conv (raw_with p t (Some (if b then flag_word n else open_word n)) others)) e
        ∙ conv_flag n (others any p) ∙ ap (option_map (with_option n None)) (ih.0 p) ∙ fit_option n None p (afters Any) member
        ∙ ap (λ b. option_and_then (fit names p) (said_with (Some (if b then Flag n else Open n)) afters)) (sym e)
    member_step n false e member None =
        ap (λ b. option_and_then conv (raw_with p t (Some (if b then flag_word n else open_word n)) others)) e
        ∙ ih.2 p n member
        ∙ ap (λ b. option_and_then (fit names p) (said_with (Some (if b then Flag n else Open n)) afters)) (sym e)
    member_step n true e member (Some x) =
        ap (λ b. option_and_then conv (raw_with p t (if b then None else Some (joined_use n x)) others)) e
        ∙ ap (λ o. option_and_then (fit names p) (said_with o afters)) (sym (none_then (word_number x)))
        ∙ ap (λ b. option_and_then (fit names p) (said_with (option_and_then (λ number. if b then None else Some (Joined n number)) (word_number x)) afters)) (sym e)
    member_step n false e member (Some x) =
        ap (λ b. option_and_then conv (raw_with p t (if b then None else Some (joined_use n x)) others)) e
        ∙ option_is p n x (others any p) (afters Any) member (ih.0 p) ∙ go (word_number x)
        ∙ ap (λ b. option_and_then (fit names p) (said_with (option_and_then (λ number. if b then None else Some (Joined n number)) (word_number x)) afters)) (sym e)
      where
        go : (o : Option ℕ) → option_and_then (fit names p) (option_and_then (λ number. option_map (with_option n (Some number)) (afters Any)) o)
            ≡ option_and_then (fit names p) (said_with (option_and_then (λ number. Some (Joined n number)) o) afters)
        go None = refl
        go (Some number) = refl

    open_not : (n : Name) → is_member names n ≡ false → (ws : List Text) → None ≡ option_and_then (fit names p) (said_from (Number n) ws)
    unfolding said_from
    open_not n other [] = refl
    open_not n other (w ∷ ws) = option_not p n (word_number w) (said_from Any ws) other

    -- an option of another command
    other_option : (n : Name) (b : Bool) → is_flag n ≡ b → is_member names n ≡ false → (val : Option Text)
        → None ≡ option_and_then (fit names p) (said_with (saying val (Some n)) afters)
    other_option n true e other None =
        sym (fit_not n None p (afters Any) other) ∙ ap (λ b. option_and_then (fit names p) (said_with (Some (if b then Flag n else Open n)) afters)) (sym e)
    other_option n false e other None =
        open_not n other ts ∙ ap (λ b. option_and_then (fit names p) (said_with (Some (if b then Flag n else Open n)) afters)) (sym e)
    other_option n b e other (Some x) = go (word_number x) (is_flag n)
      where
        go : (o : Option ℕ) (c : Bool) → None ≡ option_and_then (fit names p) (said_with (option_and_then (λ number. if c then None else Some (Joined n number)) o) afters)
        go None c = refl
        go (Some number) true = refl
        go (Some number) false = sym (fit_not n (Some number) p (afters Any) other)

    other_name : (l : Text × Option Text) → find (λ n. bytes_eq (id n) l.0) names ≡ None → (o : Option Name) → name_of (45 ∷ 45 ∷ l.0) ≡ o
        → None ≡ option_and_then (fit names p) (said_with (saying l.1 o) afters)
    other_name l e None f = refl
    other_name l e (Some m) f = other_option m (is_flag m) refl (name_other names l.0 m e f) l.1

    long_named : (l : Text × Option Text) (found : Option Name) → find (λ n. bytes_eq (id n) l.0) names ≡ found
        → option_and_then conv (raw_with p t (option_and_then (named l.1) found) others) ≡ option_and_then (fit names p) (said_with (saying l.1 (name_of (45 ∷ 45 ∷ l.0))) afters)
    long_named l None e = other_name l e (name_of (45 ∷ 45 ∷ l.0)) refl
    long_named l (Some n) e =
        let is = name_found names l.0 n e in
        member_step n (is_flag n) refl is.1 l.1 ∙ ap (λ o. option_and_then (fit names p) (said_with (saying l.1 o) afters)) (sym is.0)

    bare_said : (b : Bool) → is_bare (short_of t) ≡ b
        → option_and_then conv (raw_with p t (if b then Some value_word else None) others) ≡ option_and_then (fit names p) (said_with (option_map Value (word_number t)) afters)
    bare_said true e = value_is p t (others any) (afters Any) ih.0 ∙ go (word_number t)
      where
        go : (o : Option ℕ) → option_and_then (fit names p) (option_and_then (λ number. option_map (with_value number) (afters Any)) o)
            ≡ option_and_then (fit names p) (said_with (option_map Value o) afters)
        go None = refl
        go (Some number) = refl
    bare_said false e = ap (λ o. option_and_then (fit names p) (said_with (option_map Value o) afters)) (sym (dashed_number t e))

    other_said : bytes_eq t (45 ∷ 45 ∷ []) ≡ false → (l : Option (Text × Option Text)) → long_of t ≡ l
        → option_and_then conv (raw_with p t (other_word names l (short_of t)) others) ≡ option_and_then (fit names p) (said_with (word_of t) afters)
    other_said dashes None long =
        bare_said (is_bare (short_of t)) refl ∙ ap (λ w. option_and_then (fit names p) (said_with w afters)) (sym (word_bare t dashes long))
    other_said dashes (Some l) long =
        long_named l (find (λ n. bytes_eq (id n) l.0) names) refl ∙ ap (λ w. option_and_then (fit names p) (said_with w afters)) (sym (word_long t l long))

    any_by : (b : Bool) → bytes_eq t (45 ∷ 45 ∷ []) ≡ b
        → option_and_then conv (raw_with p t (if b then Some end_word else other_word names (long_of t) (short_of t)) others) ≡ option_and_then (fit names p) (said_with (word_of t) afters)
    any_by true dashes = ih.1 p ∙ ap (λ w. option_and_then (fit names p) (said_with w afters)) (sym (word_end t dashes))
    any_by false dashes = other_said dashes (long_of t) refl

    any_said : option_and_then conv (raw_from names any p (t ∷ ts)) ≡ option_and_then (fit names p) (said_from Any (t ∷ ts))
    unfolding raw_from said_from
    any_said = any_by (bytes_eq t (45 ∷ 45 ∷ [])) refl

    trailing_said : option_and_then conv (raw_from names trailing p (t ∷ ts)) ≡ option_and_then (fit names p) (said_from Numbers (t ∷ ts))
    unfolding raw_from said_from
    trailing_said = value_is p t (others trailing) (afters Numbers) ih.1

    not_value : (b : Bool) → bytes_eq t (45 ∷ 45 ∷ []) ≡ b → (l : Option (Text × Option Text)) → long_of t ≡ l → (c : Bool) → is_bare (short_of t) ≡ c
        → (not b && (not (is_some l) && c)) ≡ false → word_number t ≡ None
    not_value b dashes (Some l) long c bare e = let shape = long_shape t l long in ap word_number shape.2 ∙ dash_none (45 ∷ shape.0 ∷ shape.1)
    not_value b dashes None long false bare e = dashed_number t bare
    not_value true dashes None long true bare e = ap word_number ((bytes_eq-Decides t (45 ∷ 45 ∷ [])).0 dashes) ∙ dash_none (45 ∷ [])
    not_value false dashes None long true bare e = absurd (true≢false e)

    number_said : (n : Name) → is_member names n ≡ true → option_and_then conv (raw_from names (number_of n) p (t ∷ ts)) ≡ option_and_then (fit names p) (said_from (Number n) (t ∷ ts))
    unfolding raw_from said_from
    number_said n member = go (is_value t) refl
      where
        go : (b : Bool) → is_value t ≡ b
            → option_and_then conv (if b then with_use (numbered n t) (others any p) else None)
            ≡ option_and_then (fit names p) (option_and_then (λ number. option_map (with_option n (Some number)) (afters Any)) (word_number t))
        go true e = option_is p n t (others any p) (afters Any) member (ih.0 p)
        go false e =
            ap (λ o. option_and_then (fit names p) (option_and_then (λ number. option_map (with_option n (Some number)) (afters Any)) o))
            (sym (not_value (bytes_eq t (45 ∷ 45 ∷ [])) refl (long_of t) refl (is_bare (short_of t)) refl e))

  said_none : Says []
  unfolding raw_from said_from
  said_none = (λ p. refl, λ p. refl, λ p n member. refl)

  pub says : (ts : List Text) → Says ts
  says [] = said_none
  says (t ∷ ts) = (λ p. any_said t ts (says ts) p, λ p. trailing_said t ts (says ts) p, λ p n member. number_said t ts (says ts) p n member)
