-- What uses say of each option.
use Rattle.std.proofs.Common.{◌≡◌, ◌∙◌, ◌&&◌, ◌||◌, refl, sym, ap, ap₂, Bool, not, true, false, List, [], ◌∷◌, ◌++◌, codes, Option, Some, None, is_some, option_map}
use Rattle.std.specs.Prelude.{if◌then◌else◌, unwrap_or}
use Rattle.std.specs.List.{list_all, list_any}
use Rattle.std.specs.Str.{bytes_eq}
use Rattle.std.proofs.Math.Bool.{or-false}
use Rattle.std.proofs.lemmas.List.Folds.{list_any-append}
use Rattle.clap.specs.Walk.{Row, Text, has_row}
use Rattle.model_script.specs.{Said, are_different, is_named, spelling, with_option, with_value, word_number}
use Rattle.model_script.specs.declared.words.Name.{Name}
use Rattle.model_words.proofs.Rules.{Place, all_read, id, one_read, plain, two_read, zero_read}
use Rattle.model_words.proofs.Leaf.{not_groups, not_seed, not_users}
use Rattle.model_words.proofs.Lookups.{Ok}
use Rattle.model_words.proofs.Defaults.{map_says}
use Rattle.model_words.proofs.Said.{conv}
use Rattle.model_words.proofs.Spelled.{bytes_sym, spelled, then_says}
use Rattle.model_words.proofs.Uses.{Use, adds, flagged, numbered, use_id, use_row, value_id, valued}

-- ---- uses of different ids

abbrev same_id : Use → Use → Bool
same_id u w = bytes_eq (use_id w) (use_id u)

abbrev pub distinct : List Use → Bool
distinct [] = true
distinct (u ∷ us) = not (list_any (same_id u) us) && distinct us

abbrev fresh : List Row → List Use → Bool
fresh rows = list_all (λ u. not (has_row (use_id u) rows))

fresh_more : (rows : List Row) (u : Use) (us : List Use) → fresh (rows ++ use_row u ∷ []) us ≡ (fresh rows us && not (list_any (same_id u) us))
fresh_more rows u [] = refl
fresh_more rows u (w ∷ ws) =
    ap₂ (λ b k. not b && k) (list_any-append (λ (r : Row). bytes_eq r.id (use_id w)) rows (use_row u ∷ []) ∙ ap (λ b. has_row (use_id w) rows || b) (or-false (bytes_eq (use_id u) (use_id w)) ∙ bytes_sym (use_id u) (use_id w))) (fresh_more rows u ws)
    ∙ shuffle (has_row (use_id w) rows) (bytes_eq (use_id w) (use_id u)) (fresh rows ws) (list_any (same_id u) ws)
  where
    shuffle : (a b f k : Bool) → (not (a || b) && (f && not k)) ≡ ((not a && f) && not (b || k))
    shuffle true b f k = refl
    shuffle false true true k = refl
    shuffle false true false k = refl
    shuffle false false f k = refl

adds_is : (rows : List Row) (us : List Use) → is_some (adds rows us) ≡ (fresh rows us && distinct us)
adds_is rows [] = refl
adds_is rows (u ∷ us) = go (has_row (use_id u) rows) (adds_is (rows ++ use_row u ∷ []) us)
  where
    shuffle : (f k d : Bool) → ((f && not k) && d) ≡ (f && (not k && d))
    shuffle true k d = refl
    shuffle false k d = refl

    go : (b : Bool) → is_some (adds (rows ++ use_row u ∷ []) us) ≡ (fresh (rows ++ use_row u ∷ []) us && distinct us)
        → is_some (if b then None else adds (rows ++ use_row u ∷ []) us) ≡ ((not b && fresh rows us) && (not (list_any (same_id u) us) && distinct us))
    go true ih = refl
    go false ih = ih ∙ ap (λ b. b && distinct us) (fresh_more rows u us) ∙ shuffle (fresh rows us) (list_any (same_id u) us) (distinct us)

fresh_none : (us : List Use) → fresh [] us ≡ true
fresh_none [] = refl
fresh_none (u ∷ us) = fresh_none us

pub adds_distinct : (us : List Use) → is_some (adds [] us) ≡ distinct us
adds_distinct us = adds_is [] us ∙ ap (λ b. b && distinct us) (fresh_none us)

-- ---- names

pub named_test : (m n : Name) → is_named n (record { name = m; number = None }) ≡ bytes_eq (id m) (id n)
named_test m n = ap (λ x. bytes_eq x (spelling n)) (spelled m) ∙ ap (λ x. bytes_eq (45 ∷ 45 ∷ id m) x) (spelled n)

-- the numbers by themselves have other ids
pub value_other : (names : List Name) (p q : Place) (t : Text) (us : List Use) → Ok names p (valued q t ∷ us) → (n : Name) → bytes_eq (value_id q) (id n) ≡ false
value_other names zero_read zero_read t us ok n = bytes_sym (codes "seed") (id n) ∙ not_seed n
value_other names one_read one_read t us ok n = bytes_sym (codes "users") (id n) ∙ not_users n
value_other names two_read two_read t us ok n = bytes_sym (codes "groups") (id n) ∙ not_groups n
value_other names p q t us ok n = absurd ok

pub value_on : (names : List Name) (p q : Place) (t : Text) (us : List Use) → Ok names p (valued q t ∷ us) → (r : Place) × Ok names r us
value_on names zero_read zero_read t us ok = (one_read, ok)
value_on names one_read one_read t us ok = (two_read, ok)
value_on names two_read two_read t us ok = (all_read, ok)
value_on names p q t us ok = absurd ok

-- the same options
any_is : (names : List Name) (p : Place) (n : Name) (us : List Use) (said : Said) → Ok names p us → conv us ≡ Some said
    → list_any (is_named n) said.options ≡ list_any (λ w. bytes_eq (use_id w) (id n)) us
any_is names p n [] said ok e = ap (λ (o : Option Said). list_any (is_named n) (unwrap_or o said).options) (sym e)
any_is names p n (flagged m ∷ us) said ok e =
    let is = map_says (with_option m None) (conv us) said e in
    ap (λ (x : Said). list_any (is_named n) x.options) is.2 ∙ ap₂ (λ a b. a || b) (named_test m n) (any_is names p n us is.0 ok.2 is.1)
any_is names p n (numbered m t ∷ us) said ok e =
    let outer = then_says (λ number. option_map (with_option m (Some number)) (conv us)) (word_number t) said e in
    let is = map_says (with_option m (Some outer.0)) (conv us) said outer.2 in
    ap (λ (x : Said). list_any (is_named n) x.options) is.2 ∙ ap₂ (λ a b. a || b) (named_test m n) (any_is names p n us is.0 ok.2 is.1)
any_is names p n (valued q t ∷ us) said ok e =
    let outer = then_says (λ number. option_map (with_value number) (conv us)) (word_number t) said e in
    let is = map_says (with_value outer.0) (conv us) said outer.2 in
    let on = value_on names p q t us ok in
    ap (λ (x : Said). list_any (is_named n) x.options) is.2 ∙ any_is names on.0 n us is.0 on.1 is.1
    ∙ ap (λ b. b || list_any (λ w. bytes_eq (use_id w) (id n)) us) (sym (value_other names p q t us ok n))

-- no later number has the id of an earlier one
abbrev Later : Place → Place → Type 0
Later zero_read one_read = Unit {0}
Later zero_read two_read = Unit {0}
Later zero_read all_read = Unit {0}
Later one_read two_read = Unit {0}
Later one_read all_read = Unit {0}
Later two_read all_read = Unit {0}
Later _ _ = ⊥

not_value_id : (q r : Place) → Later q r → (n : Name) → bytes_eq (id n) (value_id q) ≡ false
not_value_id zero_read r l n = not_seed n
not_value_id one_read r l n = not_users n
not_value_id two_read r l n = not_groups n
not_value_id plain r l n = absurd l
not_value_id all_read r l n = absurd l

value_fresh : (names : List Name) (q r : Place) (us : List Use) → Later q r → Ok names r us → list_any (λ w. bytes_eq (use_id w) (value_id q)) us ≡ false
value_fresh names q r [] l ok = refl
value_fresh names q r (flagged m ∷ us) l ok = ap₂ (λ a b. a || b) (not_value_id q r l m) (value_fresh names q r us l ok.2)
value_fresh names q r (numbered m t ∷ us) l ok = ap₂ (λ a b. a || b) (not_value_id q r l m) (value_fresh names q r us l ok.2)
value_fresh names zero_read one_read (valued one_read t ∷ us) l ok = value_fresh names zero_read two_read us tt ok
value_fresh names zero_read two_read (valued two_read t ∷ us) l ok = value_fresh names zero_read all_read us tt ok
value_fresh names one_read two_read (valued two_read t ∷ us) l ok = value_fresh names one_read all_read us tt ok
value_fresh names zero_read one_read (valued q t ∷ us) l ok = absurd ok
value_fresh names zero_read two_read (valued q t ∷ us) l ok = absurd ok
value_fresh names zero_read all_read (valued q t ∷ us) l ok = absurd ok
value_fresh names one_read two_read (valued q t ∷ us) l ok = absurd ok
value_fresh names one_read all_read (valued q t ∷ us) l ok = absurd ok
value_fresh names two_read all_read (valued q t ∷ us) l ok = absurd ok
value_fresh names q r (valued k t ∷ us) l ok = absurd l

value_step : (names : List Name) (p r : Place) (t : Text) (us : List Use) (said : Said) → conv (valued p t ∷ us) ≡ Some said → Later p r → Ok names r us
    → ((x : Said) → Ok names r us → conv us ≡ Some x → are_different x.options ≡ distinct us) → are_different said.options ≡ distinct (valued p t ∷ us)
value_step names p r t us said e l ok ih =
    let outer = then_says (λ number. option_map (with_value number) (conv us)) (word_number t) said e in
    let is = map_says (with_value outer.0) (conv us) said outer.2 in
    ap (λ (x : Said). are_different x.options) is.2 ∙ ih is.0 ok is.1 ∙ ap (λ b. not b && distinct us) (sym (value_fresh names p r us l ok))

pub different_is : (names : List Name) (p : Place) (us : List Use) (said : Said) → Ok names p us → conv us ≡ Some said → are_different said.options ≡ distinct us
different_is names p [] said ok e = ap (λ (o : Option Said). are_different (unwrap_or o said).options) (sym e)
different_is names p (flagged m ∷ us) said ok e =
    let is = map_says (with_option m None) (conv us) said e in
    ap (λ (x : Said). are_different x.options) is.2 ∙ ap₂ (λ a b. not a && b) (any_is names p m us is.0 ok.2 is.1) (different_is names p us is.0 ok.2 is.1)
different_is names p (numbered m t ∷ us) said ok e =
    let outer = then_says (λ number. option_map (with_option m (Some number)) (conv us)) (word_number t) said e in
    let is = map_says (with_option m (Some outer.0)) (conv us) said outer.2 in
    ap (λ (x : Said). are_different x.options) is.2 ∙ ap₂ (λ a b. not a && b) (any_is names p m us is.0 ok.2 is.1) (different_is names p us is.0 ok.2 is.1)
different_is names zero_read (valued zero_read t ∷ us) said ok e = value_step names zero_read one_read t us said e tt ok (different_is names one_read us)
different_is names one_read (valued one_read t ∷ us) said ok e = value_step names one_read two_read t us said e tt ok (different_is names two_read us)
different_is names two_read (valued two_read t ∷ us) said ok e = value_step names two_read all_read t us said e tt ok (different_is names all_read us)
different_is names p (valued q t ∷ us) said ok e = absurd ok
