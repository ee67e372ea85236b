-- The command with three numbers by themselves.
use Rattle.std.proofs.Common.{◌≡◌, ◌∙◌, ◌&&◌, ◌||◌, ◌-◌, ◌^◌, inl, inr, refl, sym, ap, ap₂, subst, ℕ, Bool, cond, not, true, false, List, [], ◌∷◌, map, codes, Option, Some, None, is_some, option_map, true≢false}
use Rattle.std.specs.Prelude.{if◌then◌else◌, option_and_then, find, fold, slice_get, unwrap_or}
use Rattle.std.specs.Option.{option_map_or}
use Rattle.std.specs.Str.{bytes_eq}
use Rattle.std.proofs.Math.Bool.{and-false}
use Rattle.clap.specs.Facts.{explicit_source}
use Rattle.clap.specs.Takes.{is_given as was_given}
use Rattle.clap.specs.Walk.{Row, Rule, Text, first_of, with_default}
use Rattle.clap.specs.declared.error.kind.ErrorKind.TheVariants as kind
use Rattle.model_script.specs.declared.misfit.TheConstants.{MAX_USERS}
use Rattle.model_script.specs.{Said, are_different, given_gen, is_flag, is_given, with_option, with_value, word_number}
use Rattle.model_script.specs.declared.asked.Asked.{Asked}
use Rattle.model_script.specs.declared.asked.Command.{Command}
use Rattle.model_script.specs.declared.asked.Command.TheVariants as asked
use Rattle.model_script.specs.declared.words.Given.{Given}
use Rattle.model_script.specs.declared.words.Name.{Name}
use Rattle.model_script.specs.declared.words.Name.TheVariants as name
use Rattle.model_script.specs.declared.words.TheConstants.{DEFAULT_TURNS, MAX_GENERATED, MAX_TURNS}
use Rattle.model_words.specs.Found.{is_true, text_number, text_number_or, text_number_within}
use Rattle.model_words.proofs.Asked.{answer, finish, or_is, read, whole_value, within_is}
use Rattle.model_words.proofs.Asked.{Command as Reads}
use Rattle.model_words.proofs.Commands.{as_asked, given_is, or_bad, text_is, within_bad}
use Rattle.model_words.proofs.Defaults.{Bad, takes_value, flag_kept, map_says, number_kept, row_kept}
use Rattle.model_words.proofs.Different.{different_is}
use Rattle.model_words.proofs.Leaf.{not_groups, not_seed, not_users, result_of}
use Rattle.model_words.proofs.Lookups.{Ok, text_in, text_more}
use Rattle.model_words.proofs.Rules.{Place, all_read, gen_names, id, one_read, plain, rules, two_read, zero_read}
use Rattle.model_words.proofs.Said.{are_members, conv, fits, none_then}
use Rattle.model_words.proofs.Spelled.{is_member, then_says}
use Rattle.model_words.proofs.Uses.{Use, flagged, numbered, use_id, use_row, use_text, value_id, valued}

-- ---- the numbers by themselves

abbrev NumberIs : Text → List Use → Option ℕ → Type 0
NumberIs i us n = text_number (text_in i us) ≡ Some n

abbrev ValuesAre : Place → List Use → List ℕ → Type 0
ValuesAre zero_read us xs = NumberIs (codes "seed") us (slice_get xs 0) × NumberIs (codes "users") us (slice_get xs 1) × NumberIs (codes "groups") us (slice_get xs 2)
ValuesAre one_read us xs = NumberIs (codes "users") us (slice_get xs 0) × NumberIs (codes "groups") us (slice_get xs 1)
ValuesAre two_read us xs = NumberIs (codes "groups") us (slice_get xs 0)
ValuesAre all_read us xs = Unit {0}
ValuesAre plain us xs = Unit {0}

none_are : (p : Place) → ValuesAre p [] []
none_are zero_read = (refl, refl, refl)
none_are one_read = (refl, refl)
none_are two_read = refl
none_are all_read = tt
none_are plain = tt

pass : (i : Text) (u : Use) (us : List Use) (n : Option ℕ) → bytes_eq (use_id u) i ≡ false → NumberIs i us n → NumberIs i (u ∷ us) n
pass i u us n e h = ap text_number (text_more i u us ∙ ap (λ b. cond b (Some (use_text u)) (text_in i us)) e) ∙ h

take : (i : Text) (u : Use) (us : List Use) (x : ℕ) → bytes_eq (use_id u) i ≡ true → word_number (use_text u) ≡ Some x → NumberIs i (u ∷ us) (Some x)
take i u us x e h = ap text_number (text_more i u us ∙ ap (λ b. cond b (Some (use_text u)) (text_in i us)) e) ∙ ap (option_map Some) h

option_passed : (p : Place) (m : Name) (u : Use) (us : List Use) (xs : List ℕ) → use_id u ≡ id m → ValuesAre p us xs → ValuesAre p (u ∷ us) xs
option_passed zero_read m u us xs e h = (
  pass _ u us _ (ap (λ x. bytes_eq x (codes "seed")) e ∙ not_seed m) h.0,
  pass _ u us _ (ap (λ x. bytes_eq x (codes "users")) e ∙ not_users m) h.1,
  pass _ u us _ (ap (λ x. bytes_eq x (codes "groups")) e ∙ not_groups m) h.2,
)
option_passed one_read m u us xs e h =
    (pass _ u us _ (ap (λ x. bytes_eq x (codes "users")) e ∙ not_users m) h.0, pass _ u us _ (ap (λ x. bytes_eq x (codes "groups")) e ∙ not_groups m) h.1)
option_passed two_read m u us xs e h = pass _ u us _ (ap (λ x. bytes_eq x (codes "groups")) e ∙ not_groups m) h
option_passed all_read m u us xs e h = tt
option_passed plain m u us xs e h = tt

values_in : (names : List Name) (p : Place) (us : List Use) (said : Said) → Ok names p us → conv us ≡ Some said → ValuesAre p us said.values
values_in names p [] said ok e = subst (λ (o : Option Said). ValuesAre p [] (unwrap_or o said).values) e (none_are p)
values_in names p (flagged m ∷ us) said ok e =
    let is = map_says (with_option m None) (conv us) said e in
    subst (λ (x : Said). ValuesAre p (flagged m ∷ us) x.values) (sym is.2) (option_passed p m (flagged m) us is.0.values refl (values_in names p us is.0 ok.2 is.1))
values_in names p (numbered m t ∷ us) said ok e =
    let outer = then_says (λ number. option_map (with_option m (Some number)) (conv us)) (word_number t) said e in
    let is = map_says (with_option m (Some outer.0)) (conv us) said outer.2 in
    subst (λ (x : Said). ValuesAre p (numbered m t ∷ us) x.values) (sym is.2) (option_passed p m (numbered m t) us is.0.values refl (values_in names p us is.0 ok.2 is.1))
values_in names zero_read (valued zero_read t ∷ us) said ok e =
    let outer = then_says (λ number. option_map (with_value number) (conv us)) (word_number t) said e in
    let is = map_says (with_value outer.0) (conv us) said outer.2 in
    let ih = values_in names one_read us is.0 ok is.1 in
    subst (λ (x : Said). ValuesAre zero_read (valued zero_read t ∷ us) x.values) (sym is.2)
    (take (codes "seed") (valued zero_read t) us outer.0 refl outer.1, pass (codes "users") (valued zero_read t) us _ refl ih.0, pass (codes "groups") (valued zero_read t) us _ refl ih.1)
values_in names one_read (valued one_read t ∷ us) said ok e =
    let outer = then_says (λ number. option_map (with_value number) (conv us)) (word_number t) said e in
    let is = map_says (with_value outer.0) (conv us) said outer.2 in
    let ih = values_in names two_read us is.0 ok is.1 in
    subst (λ (x : Said). ValuesAre one_read (valued one_read t ∷ us) x.values) (sym is.2)
    (take (codes "users") (valued one_read t) us outer.0 refl outer.1, pass (codes "groups") (valued one_read t) us _ refl ih)
values_in names two_read (valued two_read t ∷ us) said ok e =
    let outer = then_says (λ number. option_map (with_value number) (conv us)) (word_number t) said e in
    let is = map_says (with_value outer.0) (conv us) said outer.2 in
    subst (λ (x : Said). ValuesAre two_read (valued two_read t ∷ us) x.values) (sym is.2) (take (codes "groups") (valued two_read t) us outer.0 refl outer.1)
values_in names p (valued q t ∷ us) said ok e = absurd ok

-- ---- what has to be given

given_in : (i : Text) (us : List Use) → was_given i (map use_row us) ≡ is_some (text_in i us)
given_in i [] = refl
given_in i (u ∷ us) = go (bytes_eq (use_id u) i) (given_in i us) ∙ ap is_some (sym (text_more i u us))
  where
    go : (b : Bool) → was_given i (map use_row us) ≡ is_some (text_in i us)
        → option_map_or (λ (r : Row). explicit_source r.source) (cond b (Some (use_row u)) (find (λ r. bytes_eq r.id i) (map use_row us))) false ≡ is_some (cond b (Some (use_text u)) (text_in i us))
    go true ih = refl
    go false ih = ih

some_text : (o : Option Text) (x : ℕ) → text_number o ≡ Some (Some x) → is_some o ≡ true
some_text None x e = absurd (true≢false (sym (ap (λ o. is_some (unwrap_or o None)) e)))
some_text (Some t) x e = refl

abbrev gen_rules : List Rule
gen_rules = rules gen_names true

given_at : (i : Text) (us : List Use) (x : ℕ) → find (λ r. bytes_eq r.id i) (fold with_default (map use_row us) gen_rules) ≡ find (λ r. bytes_eq r.id i) (map use_row us)
    → NumberIs i us (Some x) → was_given i (fold with_default (map use_row us) gen_rules) ≡ true
given_at i us x kept h = ap (λ o. option_map_or (λ (r : Row). explicit_source r.source) o false) kept ∙ given_in i us ∙ some_text (text_in i us) x h

abbrev gen_with : Bool → Bool → Option ℕ → Option ℕ → Option ℕ → Option ℕ → Option Asked
gen_with files run seed users groups max =
    as_asked files (option_and_then (λ seed. option_and_then (λ users. option_and_then (λ groups. option_map (λ max. asked.Gen seed users groups run max) max) groups) users) seed)

abbrev checks : Bool → Bool → Bool → List Row → Option Asked
checks seed users groups rows0 =
    option_and_then (finish (codes "gen") gen_names true zero_read) (result_of (if not seed || (not users || (not groups || false)) then kind.MissingRequiredArgument ∷ [] else []) rows0)

checks_none : (seed users groups : Bool) (rows0 : List Row) → finish (codes "gen") gen_names true zero_read rows0 ≡ None → checks seed users groups rows0 ≡ None
checks_none seed users groups rows0 e = go (not seed || (not users || (not groups || false)))
  where
    go : (b : Bool) → option_and_then (finish (codes "gen") gen_names true zero_read) (result_of (if b then kind.MissingRequiredArgument ∷ [] else []) rows0) ≡ None
    go true = refl
    go false = e

module _ (rows0 : List Row) where
  abbrev at : Text → Option Text
  at i = first_of i (fold with_default rows0 gen_rules)

  abbrev given : Text → Bool
  given i = was_given i (fold with_default rows0 gen_rules)

  abbrev fs : Bool
  fs = is_true (at (codes "files"))

  abbrev run_at : Bool
  run_at = is_true (at (codes "run"))

  abbrev seed_at : Option ℕ
  seed_at = text_number_within 0 (2 ^ 64 - 1) (at (codes "seed"))

  abbrev users_at : Option ℕ
  users_at = text_number_within 1 MAX_USERS (at (codes "users"))

  abbrev groups_at : Option ℕ
  groups_at = text_number_within 0 MAX_GENERATED (at (codes "groups"))

  abbrev max_at : Option ℕ
  max_at = text_number_or 0 MAX_TURNS DEFAULT_TURNS (at (codes "max"))

  no_seed : seed_at ≡ None → gen_with fs run_at seed_at users_at groups_at max_at ≡ None
  no_seed e = ap (λ o. gen_with fs run_at o users_at groups_at max_at) e

  no_users : users_at ≡ None → gen_with fs run_at seed_at users_at groups_at max_at ≡ None
  no_users e = ap (λ o. gen_with fs run_at seed_at o groups_at max_at) e ∙ ap (as_asked fs) (none_then seed_at)

  no_groups : groups_at ≡ None → gen_with fs run_at seed_at users_at groups_at max_at ≡ None
  no_groups e =
      ap (λ o. gen_with fs run_at seed_at users_at o max_at) e ∙ ap (λ o. as_asked fs (option_and_then (λ x. o) seed_at)) (none_then users_at) ∙ ap (as_asked fs) (none_then seed_at)

  no_max : max_at ≡ None → gen_with fs run_at seed_at users_at groups_at max_at ≡ None
  no_max e =
      ap (λ o. gen_with fs run_at seed_at users_at groups_at o) e ∙ ap (λ o. as_asked fs (option_and_then (λ x. option_and_then (λ y. o) users_at) seed_at)) (none_then groups_at)
      ∙ ap (λ o. as_asked fs (option_and_then (λ x. o) seed_at)) (none_then users_at) ∙ ap (as_asked fs) (none_then seed_at)

  then_none : gen_with fs run_at seed_at users_at groups_at max_at ≡ None → read (codes "gen") gen_names true zero_read rows0 ≡ None
  then_none e = checks_none (given (codes "seed")) (given (codes "users")) (given (codes "groups")) rows0 e

gen_bad : (rows0 : List Row) → Bad gen_names zero_read rows0 → read (codes "gen") gen_names true zero_read rows0 ≡ None
gen_bad rows0 (inr b) = go b.0 b.1 b.3 b.4 b.5
  where
    go : (q : Place) (t : Text) → takes_value q ≡ true → first_of (value_id q) rows0 ≡ Some t → word_number t ≡ None → read (codes "gen") gen_names true zero_read rows0 ≡ None
    go plain t h e none = absurd (true≢false (sym h))
    go zero_read t h e none = then_none rows0 (no_seed rows0 (within_bad 0 (2 ^ 64 - 1) (at rows0 (codes "seed")) t (number_kept (codes "seed") gen_rules rows0 refl ∙ e) none))
    go one_read t h e none = then_none rows0 (no_users rows0 (within_bad 1 MAX_USERS (at rows0 (codes "users")) t (number_kept (codes "users") gen_rules rows0 refl ∙ e) none))
    go two_read t h e none = then_none rows0 (no_groups rows0 (within_bad 0 MAX_GENERATED (at rows0 (codes "groups")) t (number_kept (codes "groups") gen_rules rows0 refl ∙ e) none))
    go all_read t h e none = absurd (true≢false (sym h))
gen_bad rows0 (inl b) = go b.0 b.1 b.2 b.3 b.4 b.5
  where
    go : (n : Name) (t : Text) → is_member gen_names n ≡ true → is_flag n ≡ false → first_of (id n) rows0 ≡ Some t → word_number t ≡ None → read (codes "gen") gen_names true zero_read rows0 ≡ None
    go name.Max t m f e none = then_none rows0 (no_max rows0 (or_bad 0 MAX_TURNS DEFAULT_TURNS (at rows0 (codes "max")) t (number_kept (codes "max") gen_rules rows0 refl ∙ e) none))
    go name.Files t m f e none = absurd (true≢false f)
    go name.Run t m f e none = absurd (true≢false f)
    go _ t m f e none = absurd (true≢false (sym m))

abbrev gen_answer : Bool → Bool → Bool → Option Command → Option Asked
gen_answer files members different command = as_asked files (if members && different then command else None)

gen_short : (rows0 : List Row) (files members different : Bool) (said : Said) → given_gen said.options said.values ≡ None
    → gen_with (fs rows0) (run_at rows0) (seed_at rows0) (users_at rows0) (groups_at rows0) (max_at rows0) ≡ None
    → read (codes "gen") gen_names true zero_read rows0 ≡ gen_answer files members different (given_gen said.options said.values)
gen_short rows0 files members different said none e =
    then_none rows0 e ∙ sym (ap (gen_answer files members different) none ∙ go (members && different))
  where
    go : (b : Bool) → as_asked files (if b then None else None) ≡ None
    go true = refl
    go false = refl

members_true : (a : Bool) → (a && true) ≡ true → a ≡ true
members_true true e = refl
members_true false e = e

-- where no more than three numbers stand by themselves
gen_values : (us : List Use) (said : Said) (values : List ℕ) → said.values ≡ values → Ok gen_names zero_read us → conv us ≡ Some said → (are_members gen_names said.options && fits zero_read values) ≡ true
    → are_different said.options ≡ true → read (codes "gen") gen_names true zero_read (map use_row us) ≡ answer (codes "gen") gen_names true zero_read said
gen_values us said [] v ok e m d =
    let are = subst (ValuesAre zero_read us) v (values_in gen_names zero_read us said ok e) in
    gen_short (map use_row us) (is_given name.Files said.options) (are_members gen_names said.options) (are_different said.options) said (ap (given_gen said.options) v)
    (no_seed (map use_row us) (whole_value _ _ (ap text_number (number_kept (codes "seed") gen_rules (map use_row us) refl) ∙ are.0)))
gen_values us said (a ∷ []) v ok e m d =
    let are = subst (ValuesAre zero_read us) v (values_in gen_names zero_read us said ok e) in
    gen_short (map use_row us) (is_given name.Files said.options) (are_members gen_names said.options) (are_different said.options) said (ap (given_gen said.options) v)
    (no_users (map use_row us) (within_is 1 MAX_USERS _ _ (ap text_number (number_kept (codes "users") gen_rules (map use_row us) refl) ∙ are.1)))
gen_values us said (a ∷ b ∷ []) v ok e m d =
    let are = subst (ValuesAre zero_read us) v (values_in gen_names zero_read us said ok e) in
    gen_short (map use_row us) (is_given name.Files said.options) (are_members gen_names said.options) (are_different said.options) said (ap (given_gen said.options) v)
    (no_groups (map use_row us) (within_is 0 MAX_GENERATED _ _ (ap text_number (number_kept (codes "groups") gen_rules (map use_row us) refl) ∙ are.2)))
gen_values us said (a ∷ b ∷ g ∷ []) v ok e m d =
    let are = subst (ValuesAre zero_read us) v (values_in gen_names zero_read us said ok e) in
    let text = text_is gen_names gen_rules zero_read us said ok e in
    let given = given_is gen_names gen_rules zero_read us said ok e in
    (λ i. checks (given_at (codes "seed") us a (row_kept (codes "seed") gen_rules (map use_row us) refl) are.0 i)
    (given_at (codes "users") us b (row_kept (codes "users") gen_rules (map use_row us) refl) are.1 i)
    (given_at (codes "groups") us g (row_kept (codes "groups") gen_rules (map use_row us) refl) are.2 i) (map use_row us))
    ∙ (λ i. gen_with (given name.Files refl (flag_kept (codes "files") gen_rules (map use_row us) refl) i) (given name.Run refl (flag_kept (codes "run") gen_rules (map use_row us) refl) i)
    (whole_value _ _ (ap text_number (number_kept (codes "seed") gen_rules (map use_row us) refl) ∙ are.0) i)
    (within_is 1 MAX_USERS _ _ (ap text_number (number_kept (codes "users") gen_rules (map use_row us) refl) ∙ are.1) i)
    (within_is 0 MAX_GENERATED _ _ (ap text_number (number_kept (codes "groups") gen_rules (map use_row us) refl) ∙ are.2) i)
    (or_is 0 MAX_TURNS DEFAULT_TURNS _ _ (text name.Max refl (number_kept (codes "max") gen_rules (map use_row us) refl)) i))
    ∙ ap (λ vs. as_asked (is_given name.Files said.options) (given_gen said.options vs)) (sym v)
    ∙ ap₂ (λ x y. gen_answer (is_given name.Files said.options) x y (given_gen said.options said.values)) (sym (members_true (are_members gen_names said.options) m)) (sym d)
gen_values us said (a ∷ b ∷ g ∷ x ∷ xs) v ok e m d = absurd (true≢false (sym m ∙ and-false (are_members gen_names said.options)))

gen_other : (members different files : Bool) (options : List Given) (values : List ℕ) → (members && fits zero_read values) ≡ false → gen_answer files members different (given_gen options values) ≡ None
gen_other false different files options values e = refl
gen_other true different files options [] e = absurd (true≢false e)
gen_other true different files options (a ∷ []) e = absurd (true≢false e)
gen_other true different files options (a ∷ b ∷ []) e = absurd (true≢false e)
gen_other true different files options (a ∷ b ∷ g ∷ []) e = absurd (true≢false e)
gen_other true different files options (a ∷ b ∷ g ∷ x ∷ xs) e = go different
  where
    go : (b : Bool) → as_asked files (if b then None else None) ≡ None
    go true = refl
    go false = refl

gen_twice : (members different files : Bool) (command : Option Command) → different ≡ false → gen_answer files members different command ≡ None
gen_twice members different files command e =
    ap (λ b. as_asked files (if members && b then command else None)) e ∙ ap (λ b. as_asked files (if b then command else None)) (and-false members)

pub gen_is : Reads (codes "gen") gen_names true zero_read
gen_is = record {
  good = λ us said ok e d m. gen_values us said said.values refl ok e m (different_is gen_names zero_read us said ok e ∙ d);
  bad = gen_bad;
  other = λ said e. gen_other (are_members gen_names said.options) (are_different said.options) (is_given name.Files said.options) said.options said.values e;
  twice = λ said e. gen_twice (are_members gen_names said.options) (are_different said.options) (is_given name.Files said.options) (given_gen said.options said.values) e;
}
