-- What is read of the uses of a command is what they say.
use Rattle.std.proofs.Common.{◌≡◌, ◌∙◌, ◌&&◌, ◌||◌, ◌-◌, ◌^◌, ◌<◌, arith, refl, sym, ap, ap₂, subst, ℕ, Bool, cond, true, false, List, [], ◌∷◌, map, codes, Option, Some, None, is_some, option_map, true≢false, ltb-true, le-leb}
use Rattle.std.specs.Prelude.{if◌then◌else◌, option_and_then, find, fold, unwrap_or, nat_lt}
use Rattle.std.specs.Str.{bytes_eq}
use Rattle.clap.specs.Walk.{Row, Text, with_default}
use Rattle.clap.proofs.WalkLemmas.{both}
use Rattle.model_script.specs.{digits_value, is_number, number_below, Said, are_different, named_command, given_number, is_flag, is_given, is_named, number_or, number_within, page_size_or, allowed_page_size, said_from, with_option, with_value, word_number}
use Rattle.model_script.specs.declared.asked.Asked.{Asked}
use Rattle.model_script.specs.declared.words.Expected.TheVariants.{Any}
use Rattle.model_script.specs.declared.words.Given.{Given}
use Rattle.model_script.specs.declared.words.Name.{Name}
use Rattle.model_script.specs.declared.words.Name.TheVariants as name
use Rattle.model_words.specs.Found.{asked_with, is_true, text_number, text_number_or, text_number_within, text_page_size}
use Rattle.model_words.proofs.Rules.{Place, id, leaf, rules}
use Rattle.model_words.proofs.Leaf.{check}
use Rattle.model_words.proofs.Lookups.{Ok, added, goes, same_name, text_in, text_more}
use Rattle.model_words.proofs.Defaults.{Bad, bad_in, map_says}
use Rattle.model_words.proofs.Different.{adds_distinct, different_is, distinct, named_test, value_on, value_other}
use Rattle.model_words.proofs.Said.{are_members, conv, fit, fits, says}
use Rattle.model_words.proofs.Spelled.{then_says}
use Rattle.model_words.proofs.Uses.{Use, adds, any, flagged, numbered, raw_from, use_row, valued}

-- ---- options

clash : (m n : Name) (b c : Bool) → is_flag m ≡ b → is_flag n ≡ c → bytes_eq (id m) (id n) ≡ true → b ≡ c
clash m n b c e f same = sym e ∙ ap is_flag (same_name m n same) ∙ f

abbrev number_at : Option Given → Option ℕ
number_at = option_and_then (λ given. given.number)

pub number_in : (names : List Name) (p : Place) (n : Name) (us : List Use) (said : Said) → is_flag n ≡ false → Ok names p us → conv us ≡ Some said
    → text_number (text_in (id n) us) ≡ Some (given_number n said.options)
number_in names p n [] said takes ok e = ap (λ (o : Option Said). Some (given_number n (unwrap_or o said).options)) e
number_in names p n (flagged m ∷ us) said takes ok e =
    let is = map_says (with_option m None) (conv us) said e in
    ap text_number (text_more (id n) (flagged m) us) ∙ go is.0.options (bytes_eq (id m) (id n)) refl (number_in names p n us is.0 takes ok.2 is.1)
    ∙ ap (λ b. Some (number_at (cond b (Some (record { name = m; number = None })) (find (is_named n) is.0.options)))) (sym (named_test m n))
    ∙ ap (λ (x : Said). Some (given_number n x.options)) (sym is.2)
  where
    go : (rest : List Given) → (b : Bool) → bytes_eq (id m) (id n) ≡ b → text_number (text_in (id n) us) ≡ Some (given_number n rest)
        → text_number (cond b (Some (codes "true")) (text_in (id n) us)) ≡ Some (number_at (cond b (Some (record { name = m; number = None })) (find (is_named n) rest)))
    go rest true h ih = absurd (true≢false (clash m n true false ok.1 takes h))
    go rest false h ih = ih
number_in names p n (numbered m t ∷ us) said takes ok e =
    let outer = then_says (λ number. option_map (with_option m (Some number)) (conv us)) (word_number t) said e in
    let is = map_says (with_option m (Some outer.0)) (conv us) said outer.2 in
    ap text_number (text_more (id n) (numbered m t) us) ∙ go is.0.options outer.0 outer.1 (bytes_eq (id m) (id n)) (number_in names p n us is.0 takes ok.2 is.1)
    ∙ ap (λ b. Some (number_at (cond b (Some (record { name = m; number = Some outer.0 })) (find (is_named n) is.0.options)))) (sym (named_test m n))
    ∙ ap (λ (x : Said). Some (given_number n x.options)) (sym is.2)
  where
    go : (rest : List Given) → (x : ℕ) → word_number t ≡ Some x → (b : Bool) → text_number (text_in (id n) us) ≡ Some (given_number n rest)
        → text_number (cond b (Some t) (text_in (id n) us)) ≡ Some (number_at (cond b (Some (record { name = m; number = Some x })) (find (is_named n) rest)))
    go rest x h true ih = ap (option_map Some) h
    go rest x h false ih = ih
number_in names p n (valued q t ∷ us) said takes ok e =
    let outer = then_says (λ number. option_map (with_value number) (conv us)) (word_number t) said e in
    let is = map_says (with_value outer.0) (conv us) said outer.2 in
    let on = value_on names p q t us ok in
    ap text_number (text_more (id n) (valued q t) us ∙ ap (λ b. cond b (Some t) (text_in (id n) us)) (value_other names p q t us ok n))
    ∙ number_in names on.0 n us is.0 takes on.1 is.1 ∙ ap (λ (x : Said). Some (given_number n x.options)) (sym is.2)

pub flag_in : (names : List Name) (p : Place) (n : Name) (us : List Use) (said : Said) → is_flag n ≡ true → Ok names p us → conv us ≡ Some said
    → is_true (text_in (id n) us) ≡ is_given n said.options
flag_in names p n [] said takes ok e = ap (λ (o : Option Said). is_given n (unwrap_or o said).options) e
flag_in names p n (flagged m ∷ us) said takes ok e =
    let is = map_says (with_option m None) (conv us) said e in
    ap is_true (text_more (id n) (flagged m) us) ∙ go is.0.options (bytes_eq (id m) (id n)) (flag_in names p n us is.0 takes ok.2 is.1)
    ∙ ap (λ b. b || is_given n is.0.options) (sym (named_test m n)) ∙ ap (λ (x : Said). is_given n x.options) (sym is.2)
  where
    go : (rest : List Given) → (b : Bool) → is_true (text_in (id n) us) ≡ is_given n rest → is_true (cond b (Some (codes "true")) (text_in (id n) us)) ≡ (b || is_given n rest)
    go rest true ih = refl
    go rest false ih = ih
flag_in names p n (numbered m t ∷ us) said takes ok e =
    let outer = then_says (λ number. option_map (with_option m (Some number)) (conv us)) (word_number t) said e in
    let is = map_says (with_option m (Some outer.0)) (conv us) said outer.2 in
    ap is_true (text_more (id n) (numbered m t) us) ∙ go is.0.options (bytes_eq (id m) (id n)) refl (flag_in names p n us is.0 takes ok.2 is.1)
    ∙ ap (λ b. b || is_given n is.0.options) (sym (named_test m n)) ∙ ap (λ (x : Said). is_given n x.options) (sym is.2)
  where
    go : (rest : List Given) → (b : Bool) → bytes_eq (id m) (id n) ≡ b → is_true (text_in (id n) us) ≡ is_given n rest → is_true (cond b (Some t) (text_in (id n) us)) ≡ (b || is_given n rest)
    go rest true h ih = absurd (true≢false (sym (clash m n false true ok.1 takes h)))
    go rest false h ih = ih
flag_in names p n (valued q t ∷ us) said takes ok e =
    let outer = then_says (λ number. option_map (with_value number) (conv us)) (word_number t) said e in
    let is = map_says (with_value outer.0) (conv us) said outer.2 in
    let on = value_on names p q t us ok in
    ap is_true (text_more (id n) (valued q t) us ∙ ap (λ b. cond b (Some t) (text_in (id n) us)) (value_other names p q t us ok n))
    ∙ flag_in names on.0 n us is.0 takes on.1 is.1 ∙ ap (λ (x : Said). is_given n x.options) (sym is.2)

-- ---- numbers within limits

pub or_is : (least greatest default : ℕ) (o : Option Text) (n : Option ℕ) → text_number o ≡ Some n → text_number_or least greatest default o ≡ number_or least greatest default n
or_is least greatest default None n e = ap (λ x. number_or least greatest default (unwrap_or x n)) e
or_is least greatest default (Some t) n e =
    let is = map_says Some (word_number t) n e in
    ap (option_and_then (number_within least greatest)) is.1 ∙ ap (number_or least greatest default) (sym is.2)

pub page_size_is : (o : Option Text) (n : Option ℕ) → text_number o ≡ Some n → text_page_size o ≡ page_size_or n
page_size_is None n e = ap (λ x. page_size_or (unwrap_or x n)) e
page_size_is (Some t) n e =
    let is = map_says Some (word_number t) n e in
    ap (option_and_then allowed_page_size) is.1 ∙ ap page_size_or (sym is.2)

pub within_is : (least greatest : ℕ) (o : Option Text) (n : Option ℕ) → text_number o ≡ Some n → text_number_within least greatest o ≡ option_and_then (number_within least greatest) n
within_is least greatest None n e = ap (λ x. option_and_then (number_within least greatest) (unwrap_or x n)) e
within_is least greatest (Some t) n e =
    let is = map_says Some (word_number t) n e in
    ap (option_and_then (number_within least greatest)) is.1 ∙ ap (option_and_then (number_within least greatest)) (sym is.2)

word_bound : (t : Text) (x : ℕ) → word_number t ≡ Some x → number_within 0 (2 ^ 64 - 1) x ≡ Some x
unfolding number_below
word_bound t x e = go (is_number t && nat_lt (digits_value t) (2 ^ 64)) refl e
  where
    go : (b : Bool) → (is_number t && nat_lt (digits_value t) (2 ^ 64)) ≡ b → (if is_number t && nat_lt (digits_value t) (2 ^ 64) then Some (digits_value t) else None) ≡ Some x
        → number_within 0 (2 ^ 64 - 1) x ≡ Some x
    go false h e = absurd (true≢false (ap is_some (sym (sym (ap (λ b. if b then Some (digits_value t) else None) h) ∙ e))))
    go true h e =
        let same : digits_value t ≡ x = ap (λ o. unwrap_or o x) (sym (ap (λ b. if b then Some (digits_value t) else None) h) ∙ e) in
        let below : x < 2 ^ 64 = subst (λ n. n < 2 ^ 64) same (ltb-true (digits_value t) (2 ^ 64) (both (is_number t) (nat_lt (digits_value t) (2 ^ 64)) h).1) in
        ap₂ (λ a b. if a && b then Some x else None) (le-leb 0 x (omega arith)) (le-leb x (2 ^ 64 - 1) (omega (arith, below)))

-- any number of a word
pub whole_is : (o : Option Text) (n : Option ℕ) → text_number o ≡ Some n → text_number_or 0 (2 ^ 64 - 1) 0 o ≡ Some (unwrap_or n 0)
whole_is None n e = ap (λ x. Some (unwrap_or (unwrap_or x n) 0)) e
whole_is (Some t) n e =
    let is = map_says Some (word_number t) n e in
    ap (option_and_then (number_within 0 (2 ^ 64 - 1))) is.1 ∙ word_bound t is.0 is.1 ∙ ap (λ x. Some (unwrap_or x 0)) (sym is.2)

pub whole_value : (o : Option Text) (n : Option ℕ) → text_number o ≡ Some n → text_number_within 0 (2 ^ 64 - 1) o ≡ n
whole_value None n e = ap (λ x. unwrap_or x n) e
whole_value (Some t) n e =
    let is = map_says Some (word_number t) n e in
    ap (option_and_then (number_within 0 (2 ^ 64 - 1))) is.1 ∙ word_bound t is.0 is.1 ∙ sym is.2

-- ---- one command

module _ (nm : Text) (names : List Name) (v : Bool) (p : Place) where
  abbrev pub finish : List Row → Option Asked
  finish rows = asked_with nm (fold with_default rows (rules names v))

  abbrev pub read : List Row → Option Asked
  read rows = option_and_then finish (check (leaf nm names v) rows)

  abbrev pub answer : Said → Option Asked
  answer said = option_map (λ command. record { command = command; files = is_given name.Files said.options }) (named_command nm said.options said.values)

  abbrev pub reads : Option (List Use) → Option Asked
  reads found = option_and_then finish (option_and_then (check (leaf nm names v)) (option_and_then (adds []) found))

  pub record Command : Type 0 where
    pub good : (us : List Use) (said : Said) → Ok names p us → conv us ≡ Some said → distinct us ≡ true → (are_members names said.options && fits p said.values) ≡ true
        → read (map use_row us) ≡ answer said
    pub bad : (rows : List Row) → Bad names p rows → read rows ≡ None
    pub other : (said : Said) → (are_members names said.options && fits p said.values) ≡ false → answer said ≡ None
    pub twice : (said : Said) → are_different said.options ≡ false → answer said ≡ None

  module _ (is : Command) where
    unfit : (y : Option Said) → option_and_then (fit names p) y ≡ None → option_and_then answer y ≡ None
    unfit None e = refl
    unfit (Some said) e = go (are_members names said.options && fits p said.values) refl e
      where
        go : (b : Bool) → (are_members names said.options && fits p said.values) ≡ b → (if are_members names said.options && fits p said.values then Some said else None) ≡ None → answer said ≡ None
        go true h e = absurd (true≢false (ap is_some (sym (ap (λ b. if b then Some said else None) h) ∙ e)))
        go false h e = is.other said h

    fitting : (y : Option Said) (said : Said) → option_and_then (fit names p) y ≡ Some said → (option_and_then answer y ≡ answer said) × ((are_members names said.options && fits p said.values) ≡ true)
    fitting None said e = absurd (true≢false (ap is_some (sym e)))
    fitting (Some x) said e = go (are_members names x.options && fits p x.values) refl e
      where
        go : (b : Bool) → (are_members names x.options && fits p x.values) ≡ b → (if are_members names x.options && fits p x.values then Some x else None) ≡ Some said
            → (answer x ≡ answer said) × ((are_members names said.options && fits p said.values) ≡ true)
        go true h e =
            let same : x ≡ said = ap (λ o. unwrap_or o x) (sym (ap (λ b. if b then Some x else None) h) ∙ e) in
            (ap answer same, ap (λ (y : Said). are_members names y.options && fits p y.values) (sym same) ∙ h)
        go false h e = absurd (true≢false (ap is_some (sym (sym (ap (λ b. if b then Some x else None) h) ∙ e))))

    added_reads : (us : List Use) (said : Said) (y : Option Said) → Ok names p us → conv us ≡ Some said → option_and_then (fit names p) y ≡ Some said
        → (a : Option (List Row)) → adds [] us ≡ a → option_and_then finish (option_and_then (check (leaf nm names v)) a) ≡ option_and_then answer y
    added_reads us said y ok e f None h =
        sym ((fitting y said f).0 ∙ is.twice said (different_is names p us said ok e ∙ sym (adds_distinct us) ∙ ap is_some h))
    added_reads us said y ok e f (Some rows) h =
        ap read (added [] us rows h) ∙ is.good us said ok e (sym (adds_distinct us) ∙ ap is_some h) (fitting y said f).1 ∙ sym (fitting y said f).0

    bad_reads : (us : List Use) → Ok names p us → conv us ≡ None → (a : Option (List Row)) → adds [] us ≡ a → option_and_then finish (option_and_then (check (leaf nm names v)) a) ≡ None
    bad_reads us ok e None h = refl
    bad_reads us ok e (Some rows) h = is.bad rows (bad_in names p us [] rows ok e h)

    said_reads : (us : List Use) (y : Option Said) → Ok names p us → (o : Option Said) → conv us ≡ o → o ≡ option_and_then (fit names p) y → reads (Some us) ≡ option_and_then answer y
    said_reads us y ok None e f = bad_reads us ok e (adds [] us) refl ∙ sym (unfit y (sym f))
    said_reads us y ok (Some said) e f = added_reads us said y ok e (sym f) (adds [] us) refl

    all_reads : (found : Option (List Use)) (y : Option Said) → ((us : List Use) → found ≡ Some us → Ok names p us) → option_and_then conv found ≡ option_and_then (fit names p) y
        → reads found ≡ option_and_then answer y
    all_reads None y ok f = sym (unfit y (sym f))
    all_reads (Some us) y ok f = said_reads us y (ok us refl) (conv us) refl f

    -- the words of the command
    pub command_reads : (ts : List Text) → reads (raw_from names any p ts) ≡ option_and_then answer (said_from Any ts)
    command_reads ts = all_reads (raw_from names any p ts) (said_from Any ts) (λ us e. (goes names ts).0 p us e) ((says names ts).0 p)
