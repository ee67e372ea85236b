-- `clap`'s walk over the words of one command.
use Rattle.std.proofs.Common.{◌≡◌, ◌∙◌, ◌&&◌, ◌||◌, ◌+◌, refl, sym, ap, ℕ, Bool, cond, not, true, false, List, [], ◌∷◌, ◌++◌, length, min, codes, Option, Some, None, is_some, option_map, true≢false}
use Rattle.std.specs.Prelude.{if◌then◌else◌, option_and_then, slice_get, find, fold, nat_lt, ⊤, drop, encode_utf8, ◌==◌, unwrap_or}
use Rattle.std.specs.Option.{option_map_or}
use Rattle.std.specs.Str.{bytes_eq, chars}
use Rattle.std.proofs.Math.Bool.{and-false, or-false}
use Rattle.std.proofs.lemmas.Slice.Eq.{bytes_eq-Decides}
use Rattle.clap.specs.Lexer.{long_of, short_of, usize_max}
use Rattle.clap.specs.Kinds.{Kinds, or_else}
use Rattle.clap.specs.Walk.{Held, Row, Rule, Text, Waiting, Walk, arg_by_id, arg_by_index, arg_by_long, arg_by_short, finished, has_long, has_row, has_short, idle, option, plain_word, reacted, settled, short_or_plain, short_word, after_flag, after_step, is_pending, pushed, to_positional, plain as plain_outcome, takes_values, value as value_step, next as next_step, option_word, trailing as trailing_step, long_met, long_or_other, used, walked, with_default, with_values, without, word_met}
use Rattle.clap.specs.Simple.{Shape}
use Rattle.clap.specs.Faults.{bundle_fault, bundle_step_fault, check_fault, flag_word_fault, option_fault, react_fault, default_fault, defaults_fault, positional_fault, short_fault, step_fault, flags_fault, long_fault, repeat_fault, settle_fault, turn_fault, use_fault, walk_fault, word_fault}
use Rattle.clap.specs.declared.builder.value_parser.Reading.TheVariants as reading
use Rattle.clap.specs.declared.parser.matches.ValueSource.TheVariants.{CommandLine}
use Rattle.clap.specs.declared.error.kind.ErrorKind.{ErrorKind}
use Rattle.clap.specs.declared.error.kind.ErrorKind.TheVariants as kind
use Rattle.clap.proofs.WalkLemmas.{bundle_ends}
use Rattle.model_script.specs.{is_flag}
use Rattle.model_script.specs.declared.words.Name.{Name}
use Rattle.model_script.specs.declared.words.Name.TheVariants as name
use Rattle.model_words.proofs.Rules.{Place, all_read, flag_set, has_values, id, leaf, one_read, option_of, option_rule, plain, rules, set_rule, two_read, values_of, zero_read}
use Rattle.model_words.proofs.Uses.{Mode, Use, Word, after, any, end_word, flag_word, flagged, joined_word, named, open_word, other_word, raw_with, value_word, is_bare, number_of, numbered, raw_from, raw_value, read_split, read_to, read_with, repeats, text_row, trailing, use_id, use_row, use_text, value_id, valued, with_use}

-- ---- what comes of a walk

abbrev pub result_of : Kinds → List Row → Option (List Row)
result_of [] rows = Some rows
result_of (k ∷ ks) rows = None

abbrev pub check : Shape → List Row → Option (List Row)
check s rows = result_of (check_fault s (fold with_default rows s.rules) false) rows

abbrev pub end_fault : Shape → Held → Kinds
end_fault s h =
    or_else (settle_fault s.rules false h) (or_else (defaults_fault (settled s.rules h).rows s.rules) (check_fault s (finished s.rules h) false))

abbrev pub outcome : Shape → Walk → List Text → Option (List Row)
outcome s w ws =
    result_of (or_else (walk_fault s [] w ws) (end_fault s (fold (walked s.rules []) w ws).held)) (settled s.rules (fold (walked s.rules []) w ws).held).rows

-- the same, after a fault of the word before
abbrev past : Shape → Walk → List Text → Kinds → Option (List Row)
past s w ws k =
    result_of (or_else (or_else k (walk_fault s [] w ws)) (end_fault s (fold (walked s.rules []) w ws).held)) (settled s.rules (fold (walked s.rules []) w ws).held).rows

module _ (s : Shape) (w : Walk) (t : Text) (ts : List Text) where
  step_none : (k : _) (ks : Kinds) → turn_fault s [] w t ≡ k ∷ ks → outcome s w (t ∷ ts) ≡ None
  unfolding walk_fault
  step_none k ks e = rw e refl

  step_next : (v : Walk) → turn_fault s [] w t ≡ [] → walked s.rules [] w t ≡ v → outcome s w (t ∷ ts) ≡ outcome s v ts
  unfolding walk_fault
  step_next v e f = ap (past s (walked s.rules [] w t) ts) e ∙ ap (λ x. outcome s x ts) f

-- ---- rows

more_row : (name : Text) (text : Text) (r : Row) (rs : List Row) (b : Bool) → bytes_eq r.id name ≡ b → has_row name (r ∷ rs) ≡ false
    → (has_row name rs ≡ false → with_values name reading.AsWritten CommandLine (text ∷ []) (without name rs) ≡ rs ++ text_row name text ∷ [])
    → with_values name reading.AsWritten CommandLine (text ∷ []) (without name (r ∷ rs)) ≡ r ∷ (rs ++ text_row name text ∷ [])
more_row name text r rs true e none tail = absurd (true≢false (rw e at none))
more_row name text r rs false e none tail = rw e (rw e (ap (λ xs. r ∷ xs) (tail (rw e at none))))

add_row : (name : Text) (text : Text) (rows : List Row) → has_row name rows ≡ false
    → with_values name reading.AsWritten CommandLine (text ∷ []) (without name rows) ≡ rows ++ text_row name text ∷ []
add_row name text [] none = refl
add_row name text (r ∷ rs) none = more_row name text r rs (bytes_eq r.id name) refl none (add_row name text rs)

-- ---- one use

or_else_nil : (k : Kinds) → or_else k [] ≡ k
or_else_nil [] = refl
or_else_nil (k ∷ ks) = refl

-- the fault of a use that is repeated
abbrev fault_if : Bool → Kinds
fault_if true = kind.ArgumentConflict ∷ []
fault_if false = []

repeat_is : (name : Text) (rows : List Row) → repeat_fault false name rows ≡ fault_if (has_row name rows)
repeat_is name rows = go (has_row name rows)
  where
    go : (b : Bool) → (if b && true then kind.ArgumentConflict ∷ [] else []) ≡ fault_if b
    go true = refl
    go false = refl

-- what takes one text, with its text
use_set : (i : Option ℕ) (l : Option Text) (r : Bool) (name text : Text) (rows : List Row)
    → use_fault false (set_rule i l r name) (text ∷ []) rows ≡ fault_if (has_row name rows)
use_set i l r name text rows = or_else_nil (repeat_fault false name rows) ∙ repeat_is name rows

use_flag : (name : Text) (rows : List Row) → use_fault false (flag_set name) [] rows ≡ fault_if (has_row name rows)
use_flag name rows = or_else_nil (repeat_fault false name rows) ∙ repeat_is name rows

abbrev held : List Row → Option (Text × List Text) → Held
held rows pending = record { rows = rows; pending = pending; skip = 0 }

abbrev pending : Option Use → Option (Text × List Text)
pending = option_map (λ u. (use_id u, use_text u ∷ []))

-- the use is one of an argument that takes a text
abbrev IsKnown : List Rule → Option Use → Type 0
IsKnown c None = ⊤
IsKnown c (Some u) = (i : Option ℕ) × (l : Option Text) × (r : Bool) × (arg_by_id c (use_id u) ≡ Some (set_rule i l r (use_id u)))

settle_is : (c : List Rule) (pend : Option Use) (rows : List Row) → IsKnown c pend → settle_fault c false (held rows (pending pend)) ≡ fault_if (repeats pend rows)
settle_is c None rows known = refl
settle_is c (Some u) rows known = rw known.3 (use_set known.0 known.1 known.2 (use_id u) (use_text u) rows)

settled_is : (c : List Rule) (pend : Option Use) (rows : List Row) → IsKnown c pend → repeats pend rows ≡ false
    → settled c (held rows (pending pend)) ≡ held (after pend rows) None
settled_is c None rows known none = refl
settled_is c (Some u) rows known none = rw known.3 (ap (λ (rs : List Row). held rs None) (add_row (use_id u) (use_text u) rows none))

-- ---- the arguments by their names

long_test : (b : Bool) (i t : Text) → (not (is_some (option_of b i).index) && has_long (option_of b i) t) ≡ bytes_eq i t
long_test true i t = or-false (bytes_eq i t)
long_test false i t = or-false (bytes_eq i t)

either_found : (b : Bool) (n : Name) (x : Option Rule) (y : Option Name) → x ≡ option_map option_rule y → cond b (Some (option_rule n)) x ≡ option_map option_rule (cond b (Some n) y)
either_found true n x y e = refl
either_found false n x y e = e

pub long_found : (names : List Name) (v : Bool) (t : Text) → arg_by_long (rules names v) t ≡ option_map option_rule (find (λ n. bytes_eq (id n) t) names)
long_found [] false t = refl
long_found [] true t = refl
long_found (n ∷ ns) v t =
    ap (λ b. cond b (Some (option_rule n)) (arg_by_long (rules ns v) t)) (long_test (is_flag n) (id n) t)
    ∙ either_found (bytes_eq (id n) t) n _ _ (long_found ns v t)

id_test : (b : Bool) (i t : Text) → bytes_eq (option_of b i).id t ≡ bytes_eq i t
id_test true i t = refl
id_test false i t = refl

found_there : (b : Bool) (n m : Name) (x : Option Rule) (y : Option Name) → cond b (Some n) y ≡ Some m → (y ≡ Some m → x ≡ Some (option_rule m))
    → cond b (Some (option_rule n)) x ≡ Some (option_rule m)
found_there true n m x y e ih = ap (option_map option_rule) e
found_there false n m x y e ih = ih e

id_in : (names : List Name) (v : Bool) (t : Text) (m : Name) → find (λ n. bytes_eq (id n) t) names ≡ Some m → arg_by_id (rules names v) t ≡ Some (option_rule m)
id_in [] v t m e = absurd (true≢false (ap is_some (sym e)))
id_in (n ∷ ns) v t m e =
    ap (λ b. cond b (Some (option_rule n)) (arg_by_id (rules ns v) t)) (id_test (is_flag n) (id n) t)
    ∙ found_there (bytes_eq (id n) t) n m _ _ e (id_in ns v t m)

find_holds : (t : Text) (names : List Name) (m : Name) → find (λ n. bytes_eq (id n) t) names ≡ Some m → bytes_eq (id m) t ≡ true
find_holds t [] m e = absurd (true≢false (ap is_some (sym e)))
find_holds t (n ∷ ns) m e = go (bytes_eq (id n) t) refl e (find_holds t ns m)
  where
    go : (b : Bool) → bytes_eq (id n) t ≡ b → cond b (Some n) (find (λ n. bytes_eq (id n) t) ns) ≡ Some m
        → (find (λ n. bytes_eq (id n) t) ns ≡ Some m → bytes_eq (id m) t ≡ true) → bytes_eq (id m) t ≡ true
    go true h e ih = ap (λ o. bytes_eq (id (unwrap_or o n)) t) (sym e) ∙ h
    go false h e ih = ih e

pub id_is : (t : Text) (names : List Name) (m : Name) → find (λ n. bytes_eq (id n) t) names ≡ Some m → id m ≡ t
id_is t names m e = (bytes_eq-Decides (id m) t).0 (find_holds t names m e)

number_known : (names : List Name) (v : Bool) (t : Text) (m : Name) → find (λ n. bytes_eq (id n) t) names ≡ Some m → is_flag m ≡ false
    → arg_by_id (rules names v) (id m) ≡ Some (set_rule None (Some (id m)) false (id m))
number_known names v t m e takes =
    id_in names v (id m) m (ap (λ x. find (λ n. bytes_eq (id n) x) names) (id_is t names m e) ∙ e) ∙ ap (λ b. Some (option_of b (id m))) takes

abbrev position : Place → ℕ
position plain = 1
position zero_read = 1
position one_read = 2
position two_read = 3
position all_read = 4

index_test : (b : Bool) (i : Text) (k : ℕ) → option_map_or (λ j. j == k) (option_of b i).index false ≡ false
index_test true i k = refl
index_test false i k = refl

index_found : (names : List Name) (v : Bool) (k : ℕ) → arg_by_index (rules names v) k ≡ arg_by_index (values_of v) k
index_found [] v k = refl
index_found (n ∷ ns) v k =
    ap (λ b. cond b (Some (option_rule n)) (arg_by_index (rules ns v) k)) (index_test (is_flag n) (id n) k) ∙ index_found ns v k

id_past : (names : List Name) (v : Bool) (t : Text) → ((n : Name) → bytes_eq (id n) t ≡ false) → arg_by_id (rules names v) t ≡ arg_by_id (values_of v) t
id_past [] v t other = refl
id_past (n ∷ ns) v t other =
    ap (λ b. cond b (Some (option_rule n)) (arg_by_id (rules ns v) t)) (id_test (is_flag n) (id n) t ∙ other n) ∙ id_past ns v t other

pub not_seed : (n : Name) → bytes_eq (id n) (codes "seed") ≡ false
not_seed name.Files = refl
not_seed _ = refl

pub not_users : (n : Name) → bytes_eq (id n) (codes "users") ≡ false
not_users name.Files = refl
not_users _ = refl

pub not_groups : (n : Name) → bytes_eq (id n) (codes "groups") ≡ false
not_groups name.Files = refl
not_groups _ = refl

short_test : (b : Bool) (i : Text) (x : ℕ) → (not (is_some (option_of b i).index) && has_short (option_of b i) x) ≡ false
short_test true i x = refl
short_test false i x = refl

no_short : (names : List Name) (v : Bool) (x : ℕ) → arg_by_short (rules names v) x ≡ None
no_short [] false x = refl
no_short [] true x = refl
no_short (n ∷ ns) v x = ap (λ b. cond b (Some (option_rule n)) (arg_by_short (rules ns v) x)) (short_test (is_flag n) (id n) x) ∙ no_short ns v x

default_set : (i : Option ℕ) (l : Option Text) (r : Bool) (name : Text) (rows : List Row) → default_fault rows (set_rule i l r name) ≡ []
default_set i l r name rows = go (has_row name rows || true)
  where
    go : (b : Bool) → (if b then [] else []) ≡ (let none : Kinds = [] in none)
    go true = refl
    go false = refl

default_nil : (b : Bool) (i : Text) (rows : List Row) → default_fault rows (option_of b i) ≡ []
default_nil true i rows = go (has_row i rows || false)
  where
    go : (b : Bool) → (if b then [] else []) ≡ (let none : Kinds = [] in none)
    go true = refl
    go false = refl
default_nil false i rows = default_set None (Some i) false i rows

defaults_nil : (names : List Name) (v : Bool) (rows : List Row) → defaults_fault rows (rules names v) ≡ []
unfolding defaults_fault
defaults_nil [] false rows = refl
defaults_nil [] true rows =
    let a = set_rule (Some 1) None true (codes "seed") in
    let b = set_rule (Some 2) None true (codes "users") in
    let c = set_rule (Some 3) None true (codes "groups") in
    ap (λ k. or_else k (defaults_fault (with_default rows a) (b ∷ c ∷ []))) (default_set (Some 1) None true (codes "seed") rows)
    ∙ ap (λ k. or_else k (defaults_fault (with_default (with_default rows a) b) (c ∷ []))) (default_set (Some 2) None true (codes "users") (with_default rows a))
    ∙ ap (λ k. or_else k []) (default_set (Some 3) None true (codes "groups") (with_default (with_default rows a) b))
defaults_nil (n ∷ ns) v rows =
    ap (λ k. or_else k (defaults_fault (with_default rows (option_rule n)) (rules ns v))) (default_nil (is_flag n) (id n) rows)
    ∙ defaults_nil ns v (with_default rows (option_rule n))

-- ---- words

pub read_none : (pend : Option Use) (rows : List Row) (found : Option (List Use)) → repeats pend rows ≡ true → read_to pend rows found ≡ None
read_none pend rows found e = read_split pend rows found ∙ ap (λ b. cond b None (read_to None (after pend rows) found)) e

pub read_next : (pend : Option Use) (rows : List Row) (found : Option (List Use)) → repeats pend rows ≡ false
    → read_to pend rows found ≡ read_to None (after pend rows) found
read_next pend rows found e = read_split pend rows found ∙ ap (λ b. cond b None (read_to None (after pend rows) found)) e

-- a bundle is refused, or is no bundle
bundle_refused : (names : List Name) (v : Bool) (flags : Text) (x : ℕ) (h : Held) → slice_get (chars flags) 0 ≡ Some x → h.skip ≡ 0
    → bundle_fault (rules names v) false flags h ≡ kind.UnknownArgument ∷ []
unfolding flags_fault chars
bundle_refused names v [] x h first none = absurd (true≢false (ap is_some (sym first)))
bundle_refused names v (y ∷ ys) x h first none =
    ap (λ o. bundle_step_fault (rules names v) false o (y ∷ ys) h.skip (record h { skip = 0 }) (flags_fault (rules names v) false (length ys))) first
    ∙ ap (λ k. bundle_step_fault (rules names v) false (Some x) (y ∷ ys) k (record h { skip = 0 }) (flags_fault (rules names v) false (length ys))) none
    ∙ ap (λ o. short_fault (rules names v) false o (drop (length (encode_utf8 x)) (y ∷ ys)) (record h { skip = 0 })
    (flags_fault (rules names v) false (length ys) (drop (length (encode_utf8 x)) (y ∷ ys)) 0)) (no_short names v x)

bundle_bare : (names : List Name) (v : Bool) (flags : Text) (h : Held) → slice_get (chars flags) 0 ≡ None → bundle_fault (rules names v) false flags h ≡ []
unfolding flags_fault
bundle_bare names v [] h first = refl
bundle_bare names v (y ∷ ys) h first = ap (λ o. bundle_step_fault (rules names v) false o (y ∷ ys) h.skip (record h { skip = 0 }) (flags_fault (rules names v) false (length ys))) first

module _ (text : Text) (names : List Name) (v : Bool) where
  abbrev c : List Rule
  c = rules names v

  abbrev s : Shape
  s = leaf text names v

  abbrev state : Held → Waiting → Place → Bool → Walk
  state h waiting p tr = record { held = h; waiting = waiting; position = position p; is_trailing = tr; stopped = None }

  -- a word with a dash in front that is no `--`
  pub bare_bundle : (t : Text) (h : Held) → h.skip ≡ 0 → is_bare (short_of t) ≡ true → option_map_or (λ flags. bundle_fault c false flags h) (short_of t) [] ≡ []
  bare_bundle t h none bare = go (short_of t) bare
    where
      go : (o : Option Text) → is_bare o ≡ true → option_map_or (λ flags. bundle_fault c false flags h) o [] ≡ []
      go None e = refl
      go (Some flags) e = at_first (slice_get (chars flags) 0) refl e
        where
          at_first : (o : Option ℕ) → slice_get (chars flags) 0 ≡ o → not (is_some (slice_get (chars flags) 0)) ≡ true → bundle_fault c false flags h ≡ []
          at_first None f e = bundle_bare names v flags h f
          at_first (Some x) f e = absurd (true≢false (sym (ap (λ o. not (is_some o)) (sym f) ∙ e)))

  pub dashed_bundle : (t : Text) (h : Held) → h.skip ≡ 0 → is_bare (short_of t) ≡ false
      → option_map_or (λ flags. bundle_fault c false flags h) (short_of t) [] ≡ kind.UnknownArgument ∷ []
  dashed_bundle t h none bare = go (short_of t) bare
    where
      go : (o : Option Text) → is_bare o ≡ false → option_map_or (λ flags. bundle_fault c false flags h) o [] ≡ kind.UnknownArgument ∷ []
      go None e = absurd (true≢false e)
      go (Some flags) e = at_first (slice_get (chars flags) 0) refl e
        where
          at_first : (o : Option ℕ) → slice_get (chars flags) 0 ≡ o → not (is_some (slice_get (chars flags) 0)) ≡ false → bundle_fault c false flags h ≡ kind.UnknownArgument ∷ []
          at_first None f e = absurd (true≢false (ap (λ o. not (is_some o)) (sym f) ∙ e))
          at_first (Some x) f e = bundle_refused names v flags x h f none

  -- a word that is no flag
  pub bare_met : (waiting : Waiting) (t : Text) (h : Held) → h.skip ≡ 0 → is_bare (short_of t) ≡ true → short_or_plain c waiting t (short_of t) h ≡ plain_word c waiting t h
  bare_met waiting t h none bare = go (short_of t) bare
    where
      go : (o : Option Text) → is_bare o ≡ true → short_or_plain c waiting t o h ≡ plain_word c waiting t h
      go None e = refl
      go (Some flags) e = at_first (slice_get (chars flags) 0) refl e
        where
          at_first : (o : Option ℕ) → slice_get (chars flags) 0 ≡ o → not (is_some (slice_get (chars flags) 0)) ≡ true → short_word c waiting t flags h ≡ plain_word c waiting t h
          at_first None f e =
              ap (λ m. after_flag c waiting t m.0 m.1) (sym (bundle_ends c (length flags) flags h.skip plain_outcome (record h { skip = 0 }) (sym f)))
              ∙ ap (λ k. plain_word c waiting t (record h { skip = k })) (sym none)
          at_first (Some x) f e = absurd (true≢false (sym (ap (λ o. not (is_some o)) (sym f) ∙ e)))

  abbrev checked : Option (List Row) → Option (List Row)
  checked = option_and_then (check s)

  value_met : (waiting : Waiting) (p : Place) (tr : Bool) (t : Text) (h : Held) → word_fault s [] tr waiting t h ≡ [] → word_met c [] tr waiting (position p) t h ≡ (h, value_step)
      → turn_fault s [] (state h waiting p tr) t ≡ step_fault s (position p) h value_step
  value_met waiting p tr t h passes met = λ i. or_else (passes i) (step_fault s (position p) (met i).0 (met i).1)

  value_stray : (h : Held) (waiting : Waiting) (p : Place) (tr : Bool) (t : Text) (ts : List Text) → word_fault s [] tr waiting t h ≡ []
      → word_met c [] tr waiting (position p) t h ≡ (h, value_step) → arg_by_index c (position p) ≡ None → outcome s (state h waiting p tr) (t ∷ ts) ≡ None
  value_stray h waiting p tr t ts passes met at =
      step_none s (state h waiting p tr) t ts kind.UnknownArgument []
      (value_met waiting p tr t h passes met ∙ ap (λ o. option_map_or (λ a. positional_fault c false a h) o (kind.UnknownArgument ∷ [])) at)

  -- where the word goes to an argument that takes one text
  module _ (h : Held) (waiting : Waiting) (p q : Place) (tr : Bool) (t : Text) (ts : List Text) (j : Option ℕ) (name : Text)
      (passes : word_fault s [] tr waiting t h ≡ []) (met : word_met c [] tr waiting (position p) t h ≡ (h, value_step))
      (at : arg_by_index c (position p) ≡ Some (set_rule j None true name)) where
    value_turn : turn_fault s [] (state h waiting p tr) t ≡ settle_fault c false h
    value_turn =
        value_met waiting p tr t h passes met ∙ ap (λ o. option_map_or (λ a. positional_fault c false a h) o (kind.UnknownArgument ∷ [])) at
        ∙ ap (λ b. if b then [] else settle_fault c false h) (and-false (is_pending (set_rule j None true name) h.pending))

    value_walked : (below : List Row) → settled c h ≡ held below None → min (position p + 1) usize_max ≡ position q
        → walked c [] (state h waiting p tr) t ≡ state (held below (Some (name, t ∷ []))) idle q tr
    unfolding walked
    value_walked below settles next =
        ap (λ m. after_step c t (state h waiting p tr) m.0 m.1) met ∙ ap (λ o. to_positional c o t (state h waiting p tr) h) at
        ∙ ap (λ b. record {
          held = pushed name t (if b then h else settled c h);
          waiting = idle;
          position = min (position p + 1) usize_max;
          is_trailing = tr || false;
          stopped = None;
        }) (and-false (is_pending (set_rule j None true name) h.pending))
        ∙ (λ i. record {
          held = pushed name t (settles i);
          waiting = idle;
          position = next i;
          is_trailing = or-false tr i;
          stopped = None;
        })

  module _ (pend : Option Use) (known : IsKnown c pend) (rows : List Row) where
    abbrev now : Held
    now = held rows (pending pend)

    value_read : (p q : Place) (j : Option ℕ) → has_values q ≡ v → arg_by_index c (position p) ≡ Some (set_rule j None true (value_id p))
        → arg_by_id c (value_id p) ≡ Some (set_rule j None true (value_id p)) → min (position p + 1) usize_max ≡ position q
        → (waiting : Waiting) (tr : Bool) (t : Text) (ts : List Text) (k : Place → Option (List Use)) → word_fault s [] tr waiting t now ≡ []
        → word_met c [] tr waiting (position p) t now ≡ (now, value_step)
        → ((r : Place) → has_values r ≡ v → (u : Use) → IsKnown c (Some u) → outcome s (state (held (after pend rows) (pending (Some u))) idle r tr) ts ≡ checked (read_to (Some u) (after pend rows) (k r)))
        → outcome s (state now waiting p tr) (t ∷ ts) ≡ checked (read_to pend rows (with_use (valued p t) (k q)))
    value_read p q j isq at here on waiting tr t ts k passes met next = go (repeats pend rows) refl
      where
        turn : turn_fault s [] (state now waiting p tr) t ≡ fault_if (repeats pend rows)
        turn = value_turn now waiting p q tr t ts j (value_id p) passes met at ∙ settle_is c pend rows known

        go : (b : Bool) → repeats pend rows ≡ b → outcome s (state now waiting p tr) (t ∷ ts) ≡ checked (read_to pend rows (with_use (valued p t) (k q)))
        go true e =
            step_none s (state now waiting p tr) t ts kind.ArgumentConflict [] (turn ∙ ap fault_if e)
            ∙ sym (ap checked (read_none pend rows (with_use (valued p t) (k q)) e))
        go false e =
            step_next s (state now waiting p tr) t ts (state (held (after pend rows) (Some (value_id p, t ∷ []))) idle q tr) (turn ∙ ap fault_if e)
            (value_walked now waiting p q tr t ts j (value_id p) passes met at (after pend rows) (settled_is c pend rows known e) on)
            ∙ next q isq (valued p t) (j, None, true, here)
            ∙ sym (ap checked (read_next pend rows (with_use (valued p t) (k q)) e ∙ read_with (valued p t) (after pend rows) (k q)))

    value_word_of : (p : Place) → has_values p ≡ v → (waiting : Waiting) (tr : Bool) (t : Text) (ts : List Text) (k : Place → Option (List Use)) → word_fault s [] tr waiting t now ≡ []
        → word_met c [] tr waiting (position p) t now ≡ (now, value_step)
        → ((r : Place) → has_values r ≡ v → (u : Use) → IsKnown c (Some u) → outcome s (state (held (after pend rows) (pending (Some u))) idle r tr) ts ≡ checked (read_to (Some u) (after pend rows) (k r)))
        → outcome s (state now waiting p tr) (t ∷ ts) ≡ checked (read_to pend rows (raw_value p t k))
    value_word_of plain is waiting tr t ts k passes met next = value_stray now waiting plain tr t ts passes met (index_found names v 1 ∙ ap (λ b. arg_by_index (values_of b) 1) (sym is))
    value_word_of all_read is waiting tr t ts k passes met next = value_stray now waiting all_read tr t ts passes met (index_found names v 4 ∙ ap (λ b. arg_by_index (values_of b) 4) (sym is))
    value_word_of zero_read is waiting tr t ts k passes met next =
        value_read zero_read one_read (Some 1) is (index_found names v 1 ∙ ap (λ b. arg_by_index (values_of b) 1) (sym is))
        (id_past names v (codes "seed") not_seed ∙ ap (λ b. arg_by_id (values_of b) (codes "seed")) (sym is)) refl waiting tr t ts k passes met next
    value_word_of one_read is waiting tr t ts k passes met next =
        value_read one_read two_read (Some 2) is (index_found names v 2 ∙ ap (λ b. arg_by_index (values_of b) 2) (sym is))
        (id_past names v (codes "users") not_users ∙ ap (λ b. arg_by_id (values_of b) (codes "users")) (sym is)) refl waiting tr t ts k passes met next
    value_word_of two_read is waiting tr t ts k passes met next =
        value_read two_read all_read (Some 3) is (index_found names v 3 ∙ ap (λ b. arg_by_index (values_of b) 3) (sym is))
        (id_past names v (codes "groups") not_groups ∙ ap (λ b. arg_by_id (values_of b) (codes "groups")) (sym is)) refl waiting tr t ts k passes met next

    -- a use that is put down at once
    react_word : (p : Place) (a : Rule) (values : List Text) (u : Use) → ((rs : List Row) → use_fault false a values rs ≡ fault_if (has_row (use_id u) rs))
        → ((rs : List Row) → has_row (use_id u) rs ≡ false → used a values rs ≡ rs ++ use_row u ∷ [])
        → (t : Text) (ts : List Text) (k : Option (List Use))
        → turn_fault s [] (state now idle p false) t ≡ or_else (or_else (settle_fault c false now) (use_fault false a values (settled c now).rows)) []
        → walked c [] (state now idle p false) t ≡ state (reacted c a values now) idle p false
        → outcome s (state (held (after pend rows ++ use_row u ∷ []) None) idle p false) ts ≡ checked (read_to None (after pend rows ++ use_row u ∷ []) k)
        → outcome s (state now idle p false) (t ∷ ts) ≡ checked (read_to pend rows (with_use u k))
    react_word p a values u faults uses t ts k turn walks next = go (repeats pend rows) refl
      where
        once : (b : Bool) → repeats pend rows ≡ false → has_row (use_id u) (after pend rows) ≡ b → outcome s (state now idle p false) (t ∷ ts) ≡ checked (read_to pend rows (with_use u k))
        once true e f =
            step_none s (state now idle p false) t ts kind.ArgumentConflict []
            (turn ∙ (λ i. or_else (or_else ((settle_is c pend rows known ∙ ap fault_if e) i) (use_fault false a values (settled_is c pend rows known e i).rows)) [])
            ∙ ap (λ x. or_else x []) (faults (after pend rows) ∙ ap fault_if f))
            ∙ sym (ap checked (read_next pend rows (with_use u k) e ∙ read_with u (after pend rows) k ∙ read_none (Some u) (after pend rows) k f))
        once false e f =
            step_next s (state now idle p false) t ts (state (held (after pend rows ++ use_row u ∷ []) None) idle p false)
            (turn ∙ (λ i. or_else (or_else ((settle_is c pend rows known ∙ ap fault_if e) i) (use_fault false a values (settled_is c pend rows known e i).rows)) [])
            ∙ ap (λ x. or_else x []) (faults (after pend rows) ∙ ap fault_if f))
            (walks ∙ (λ i. state (held (used a values (settled_is c pend rows known e i).rows) None) idle p false)
            ∙ ap (λ rs. state (held rs None) idle p false) (uses (after pend rows) f))
            ∙ next
            ∙ sym (ap checked (read_next pend rows (with_use u k) e ∙ read_with u (after pend rows) k ∙ read_next (Some u) (after pend rows) k f))

        go : (b : Bool) → repeats pend rows ≡ b → outcome s (state now idle p false) (t ∷ ts) ≡ checked (read_to pend rows (with_use u k))
        go true e =
            step_none s (state now idle p false) t ts kind.ArgumentConflict []
            (turn ∙ ap (λ x. or_else (or_else x (use_fault false a values (settled c now).rows)) []) (settle_is c pend rows known ∙ ap fault_if e))
            ∙ sym (ap checked (read_none pend rows (with_use u k) e))
        go false e = once (has_row (use_id u) (after pend rows)) e refl

    -- an option whose number is the next word
    open_at : (p : Place) (name : Text) (t : Text) (ts : List Text) (k : Option (List Use))
        → turn_fault s [] (state now idle p false) t ≡ or_else (settle_fault c false now) []
        → walked c [] (state now idle p false) t ≡ state (record (settled c now) { pending = Some (name, []) }) (option name) p false
        → outcome s (state (held (after pend rows) (Some (name, []))) (option name) p false) ts ≡ checked (read_to None (after pend rows) k)
        → outcome s (state now idle p false) (t ∷ ts) ≡ checked (read_to pend rows k)
    open_at p name t ts k turn walks next = go (repeats pend rows) refl
      where
        go : (b : Bool) → repeats pend rows ≡ b → outcome s (state now idle p false) (t ∷ ts) ≡ checked (read_to pend rows k)
        go true e =
            step_none s (state now idle p false) t ts kind.ArgumentConflict []
            (turn ∙ ap (λ x. or_else x []) (settle_is c pend rows known ∙ ap fault_if e)) ∙ sym (ap checked (read_none pend rows k e))
        go false e =
            step_next s (state now idle p false) t ts (state (held (after pend rows) (Some (name, []))) (option name) p false)
            (turn ∙ ap (λ x. or_else x []) (settle_is c pend rows known ∙ ap fault_if e))
            (walks ∙ (λ i. state (record (settled_is c pend rows known e i) { pending = Some (name, []) }) (option name) p false))
            ∙ next ∙ sym (ap checked (read_next pend rows k e))

    abbrev close : Kinds → Kinds → Held → Option (List Row)
    close x y h = result_of (or_else [] (or_else x (or_else y (check_fault s (fold with_default h.rows c) false)))) h.rows

    -- where no word is left
    ended : (waiting : Waiting) (p : Place) (tr : Bool) → outcome s (state now waiting p tr) [] ≡ checked (read_to pend rows (Some []))
    unfolding walk_fault
    ended waiting p tr = go (repeats pend rows) refl
      where
        go : (b : Bool) → repeats pend rows ≡ b → close (settle_fault c false now) (defaults_fault (settled c now).rows c) (settled c now) ≡ checked (read_to pend rows (Some []))
        go true e =
            ap (λ x. close x (defaults_fault (settled c now).rows c) (settled c now)) (settle_is c pend rows known ∙ ap fault_if e)
            ∙ sym (ap checked (read_none pend rows (Some []) e))
        go false e =
            (λ i. close ((settle_is c pend rows known ∙ ap fault_if e) i) (defaults_nil names v (settled c now).rows i) (settled_is c pend rows known e i))
            ∙ sym (ap checked (read_next pend rows (Some []) e))

    -- a word with two dashes
    long_turn : (p : Place) (t : Text) (l : Text × Option Text) (found : Option Rule) → bytes_eq t (45 ∷ 45 ∷ []) ≡ false → long_of t ≡ Some l
        → arg_by_long c l.0 ≡ found
        → turn_fault s [] (state now idle p false) t
        ≡ or_else (long_fault c false found l.1 now) (step_fault s (position p) (after_flag c idle t (long_met c found l.1 now).0 (long_met c found l.1 now).1).0
        (after_flag c idle t (long_met c found l.1 now).0 (long_met c found l.1 now).1).1)
    long_turn p t l found dashes long is =
        ap (λ b. or_else (if b then [] else flag_word_fault c false (long_of t) t now)
        (step_fault s (position p) (if b then (now, trailing_step (position p)) else long_or_other c idle t (long_of t) now).0 (if b then (now, trailing_step (position p)) else long_or_other c idle t (long_of t) now).1)) dashes
        ∙ ap (λ o. or_else (flag_word_fault c false o t now) (step_fault s (position p) (long_or_other c idle t o now).0 (long_or_other c idle t o now).1)) long
        ∙ ap (λ found. or_else (long_fault c false found l.1 now) (step_fault s (position p) (after_flag c idle t (long_met c found l.1 now).0 (long_met c found l.1 now).1).0
        (after_flag c idle t (long_met c found l.1 now).0 (long_met c found l.1 now).1).1)) is

    long_walked : (p : Place) (t : Text) (l : Text × Option Text) (found : Option Rule) → bytes_eq t (45 ∷ 45 ∷ []) ≡ false → long_of t ≡ Some l
        → arg_by_long c l.0 ≡ found
        → walked c [] (state now idle p false) t ≡ after_step c t (state now idle p false) (after_flag c idle t (long_met c found l.1 now).0 (long_met c found l.1 now).1).0
        (after_flag c idle t (long_met c found l.1 now).0 (long_met c found l.1 now).1).1
    unfolding walked
    long_walked p t l found dashes long is =
        (λ i. after_step c t (state now idle p false) (if dashes i then (now, trailing_step (position p)) else long_or_other c idle t (long_of t) now).0
        (if dashes i then (now, trailing_step (position p)) else long_or_other c idle t (long_of t) now).1)
        ∙ ap (λ o. after_step c t (state now idle p false) (long_or_other c idle t o now).0 (long_or_other c idle t o now).1) long
        ∙ ap (λ found. after_step c t (state now idle p false) (after_flag c idle t (long_met c found l.1 now).0 (long_met c found l.1 now).1).0
        (after_flag c idle t (long_met c found l.1 now).0 (long_met c found l.1 now).1).1) is

  abbrev AnyClaim : List Text → Type 0
  AnyClaim ts =
      (p : Place) → has_values p ≡ v → (pend : Option Use) → IsKnown c pend → (rows : List Row)
      → outcome s (state (held rows (pending pend)) idle p false) ts ≡ checked (read_to pend rows (raw_from names any p ts))

  abbrev TrailingClaim : List Text → Type 0
  TrailingClaim ts =
      (p : Place) → has_values p ≡ v → (waiting : Waiting) → (pend : Option Use) → IsKnown c pend → (rows : List Row)
      → outcome s (state (held rows (pending pend)) waiting p true) ts ≡ checked (read_to pend rows (raw_from names trailing p ts))

  abbrev NumberClaim : List Text → Type 0
  NumberClaim ts =
      (p : Place) → has_values p ≡ v → (n : Name) → arg_by_id c (id n) ≡ Some (set_rule None (Some (id n)) false (id n)) → (rows : List Row)
      → outcome s (state (held rows (Some (id n, []))) (option (id n)) p false) ts ≡ checked (read_to None rows (raw_from names (number_of n) p ts))

  abbrev Claims : List Text → Type 0
  Claims ts = AnyClaim ts × TrailingClaim ts × NumberClaim ts

  -- how the words go on
  abbrev others : List Text → Mode → Place → Option (List Use)
  others ts mode p = raw_from names mode p ts

  abbrev named_as : Bool → Option Text → Name → Option Word
  named_as true None n = Some (flag_word n)
  named_as true (Some x) n = None
  named_as false None n = Some (open_word n)
  named_as false (Some x) n = Some (joined_word n x)

  named_is : (b : Bool) (val : Option Text) (n : Name) → is_flag n ≡ b → named val n ≡ named_as b val n
  named_is true None n e = ap (λ b. Some (if b then flag_word n else open_word n)) e
  named_is false None n e = ap (λ b. Some (if b then flag_word n else open_word n)) e
  named_is true (Some x) n e = ap (λ b. if b then None else Some (joined_word n x)) e
  named_is false (Some x) n e = ap (λ b. if b then None else Some (joined_word n x)) e

  module _ (t : Text) (ts : List Text) (ih : Claims ts) where
    named_step : (p : Place) → has_values p ≡ v → (pend : Option Use) (known : IsKnown c pend) (rows : List Row) (n : Name) (b : Bool)
        → (b ≡ false → arg_by_id c (id n) ≡ Some (set_rule None (Some (id n)) false (id n)))
        → (val : Option Text)
        → turn_fault s [] (state (held rows (pending pend)) idle p false) t
        ≡ or_else (long_fault c false (Some (option_of b (id n))) val (held rows (pending pend)))
        (step_fault s (position p) (after_flag c idle t (long_met c (Some (option_of b (id n))) val (held rows (pending pend))).0 (long_met c (Some (option_of b (id n))) val (held rows (pending pend))).1).0
        (after_flag c idle t (long_met c (Some (option_of b (id n))) val (held rows (pending pend))).0 (long_met c (Some (option_of b (id n))) val (held rows (pending pend))).1).1)
        → walked c [] (state (held rows (pending pend)) idle p false) t
        ≡ after_step c t (state (held rows (pending pend)) idle p false) (after_flag c idle t (long_met c (Some (option_of b (id n))) val (held rows (pending pend))).0 (long_met c (Some (option_of b (id n))) val (held rows (pending pend))).1).0
        (after_flag c idle t (long_met c (Some (option_of b (id n))) val (held rows (pending pend))).0 (long_met c (Some (option_of b (id n))) val (held rows (pending pend))).1).1
        → outcome s (state (held rows (pending pend)) idle p false) (t ∷ ts) ≡ checked (read_to pend rows (raw_with p t (named_as b val n) (others ts)))
    named_step p is pend known rows n true there None turn walks =
        react_word pend known rows p (flag_set (id n)) [] (flagged n) (use_flag (id n)) (add_row (id n) (codes "true")) t ts (others ts any p) turn walks
        (ih.0 p is None tt (after pend rows ++ use_row (flagged n) ∷ []))
    named_step p is pend known rows n true there (Some x) turn walks =
        step_none s (state (held rows (pending pend)) idle p false) t ts kind.TooManyValues [] turn
    named_step p is pend known rows n false there None turn walks =
        open_at pend known rows p (id n) t ts (others ts (number_of n) p) turn walks (ih.2 p is n (there refl) (after pend rows))
    named_step p is pend known rows n false there (Some x) turn walks =
        react_word pend known rows p (set_rule None (Some (id n)) false (id n)) (x ∷ []) (numbered n x) (use_set None (Some (id n)) false (id n) x) (add_row (id n) x) t ts
        (others ts any p) turn walks (ih.0 p is None tt (after pend rows ++ use_row (numbered n x) ∷ []))

    long_step : (p : Place) → has_values p ≡ v → (pend : Option Use) (known : IsKnown c pend) (rows : List Row) (l : Text × Option Text) → bytes_eq t (45 ∷ 45 ∷ []) ≡ false
        → long_of t ≡ Some l → (found : Option Name) → find (λ n. bytes_eq (id n) l.0) names ≡ found
        → outcome s (state (held rows (pending pend)) idle p false) (t ∷ ts) ≡ checked (read_to pend rows (raw_with p t (option_and_then (named l.1) found) (others ts)))
    long_step p is pend known rows l dashes long None e =
        step_none s (state (held rows (pending pend)) idle p false) t ts kind.UnknownArgument []
        (long_turn pend known rows p t l None dashes long (long_found names v l.0 ∙ ap (option_map option_rule) e))
    long_step p is pend known rows l dashes long (Some n) e =
        let found : arg_by_long c l.0 ≡ Some (option_rule n) = long_found names v l.0 ∙ ap (option_map option_rule) e in
        named_step p is pend known rows n (is_flag n) (number_known names v l.0 n e) l.1 (long_turn pend known rows p t l (Some (option_rule n)) dashes long found)
        (long_walked pend known rows p t l (Some (option_rule n)) dashes long found)
        ∙ ap (λ w. checked (read_to pend rows (raw_with p t w (others ts)))) (sym (named_is (is_flag n) l.1 n refl))

    bare_step : (p : Place) → has_values p ≡ v → (pend : Option Use) (known : IsKnown c pend) (rows : List Row) → bytes_eq t (45 ∷ 45 ∷ []) ≡ false → long_of t ≡ None
        → (b : Bool) → is_bare (short_of t) ≡ b
        → outcome s (state (held rows (pending pend)) idle p false) (t ∷ ts) ≡ checked (read_to pend rows (raw_with p t (if b then Some value_word else None) (others ts)))
    bare_step p is pend known rows dashes long true bare =
        let h : Held = held rows (pending pend) in
        value_word_of pend known rows p is idle false t ts (others ts any)
        (ap (λ b. if b then [] else flag_word_fault c false (long_of t) t h) dashes ∙ ap (λ o. flag_word_fault c false o t h) long ∙ bare_bundle t h refl bare)
        (ap (λ b. if b then (h, trailing_step (position p)) else long_or_other c idle t (long_of t) h) dashes ∙ ap (λ o. long_or_other c idle t o h) long ∙ bare_met idle t h refl bare)
        (λ r isr u ku. ih.0 r isr (Some u) ku (after pend rows))
    bare_step p is pend known rows dashes long false bare =
        let h : Held = held rows (pending pend) in
        step_none s (state h idle p false) t ts kind.UnknownArgument []
        (ap (λ k. or_else k (step_fault s (position p) (word_met c [] false idle (position p) t h).0 (word_met c [] false idle (position p) t h).1))
        (ap (λ b. if b then [] else flag_word_fault c false (long_of t) t h) dashes ∙ ap (λ o. flag_word_fault c false o t h) long ∙ dashed_bundle t h refl bare))

    other_step : (p : Place) → has_values p ≡ v → (pend : Option Use) (known : IsKnown c pend) (rows : List Row) → bytes_eq t (45 ∷ 45 ∷ []) ≡ false
        → (l : Option (Text × Option Text)) → long_of t ≡ l
        → outcome s (state (held rows (pending pend)) idle p false) (t ∷ ts) ≡ checked (read_to pend rows (raw_with p t (other_word names l (short_of t)) (others ts)))
    other_step p is pend known rows dashes None long = bare_step p is pend known rows dashes long (is_bare (short_of t)) refl
    other_step p is pend known rows dashes (Some l) long = long_step p is pend known rows l dashes long (find (λ n. bytes_eq (id n) l.0) names) refl

    any_by : (p : Place) → has_values p ≡ v → (pend : Option Use) (known : IsKnown c pend) (rows : List Row) (b : Bool) → bytes_eq t (45 ∷ 45 ∷ []) ≡ b
        → outcome s (state (held rows (pending pend)) idle p false) (t ∷ ts)
        ≡ checked (read_to pend rows (raw_with p t (if b then Some end_word else other_word names (long_of t) (short_of t)) (others ts)))
    unfolding walked
    any_by p is pend known rows true dashes =
        let h : Held = held rows (pending pend) in
        step_next s (state h idle p false) t ts (state h idle p true)
        (ap (λ b. or_else (if b then [] else flag_word_fault c false (long_of t) t h)
        (step_fault s (position p) (if b then (h, trailing_step (position p)) else long_or_other c idle t (long_of t) h).0 (if b then (h, trailing_step (position p)) else long_or_other c idle t (long_of t) h).1)) dashes)
        (ap (λ b. after_step c t (state h idle p false) (if b then (h, trailing_step (position p)) else long_or_other c idle t (long_of t) h).0
        (if b then (h, trailing_step (position p)) else long_or_other c idle t (long_of t) h).1) dashes)
        ∙ ih.1 p is idle pend known rows
    any_by p is pend known rows false dashes = other_step p is pend known rows dashes (long_of t) refl

    any_claim : AnyClaim (t ∷ ts)
    unfolding raw_from
    any_claim p is pend known rows = any_by p is pend known rows (bytes_eq t (45 ∷ 45 ∷ [])) refl

    trailing_claim : TrailingClaim (t ∷ ts)
    unfolding raw_from
    trailing_claim p is waiting pend known rows =
        value_word_of pend known rows p is waiting true t ts (others ts trailing) refl refl (λ r isr u ku. ih.1 r isr idle (Some u) ku (after pend rows))

  -- while the number of an option is open
  module _ (n : Name) (known : arg_by_id c (id n) ≡ Some (set_rule None (Some (id n)) false (id n))) (rows : List Row) where
    abbrev opened : Held
    opened = held rows (Some (id n, []))

    empty_settle : settle_fault c false opened ≡ kind.InvalidValue ∷ []
    empty_settle = ap (λ o. option_map_or (λ a. use_fault false a [] rows) o []) known

    abbrev closing : Kinds → Option (List Row)
    closing x =
        result_of (or_else [] (or_else x (or_else (defaults_fault (settled c opened).rows c) (check_fault s (fold with_default (settled c opened).rows c) false)))) (settled c opened).rows

    dangling : (p : Place) → has_values p ≡ v → (waiting : Waiting) (ts : List Text) → outcome s (state opened waiting p true) ts ≡ None
    unfolding walk_fault
    dangling p is waiting [] = ap closing empty_settle
    dangling plain is waiting (t ∷ ts) = value_stray opened waiting plain true t ts refl refl (index_found names v 1 ∙ ap (λ b. arg_by_index (values_of b) 1) (sym is))
    dangling all_read is waiting (t ∷ ts) = value_stray opened waiting all_read true t ts refl refl (index_found names v 4 ∙ ap (λ b. arg_by_index (values_of b) 4) (sym is))
    dangling zero_read is waiting (t ∷ ts) =
        step_none s (state opened waiting zero_read true) t ts kind.InvalidValue []
        (value_turn opened waiting zero_read one_read true t ts (Some 1) (codes "seed") refl refl (index_found names v 1 ∙ ap (λ b. arg_by_index (values_of b) 1) (sym is)) ∙ empty_settle)
    dangling one_read is waiting (t ∷ ts) =
        step_none s (state opened waiting one_read true) t ts kind.InvalidValue []
        (value_turn opened waiting one_read two_read true t ts (Some 2) (codes "users") refl refl (index_found names v 2 ∙ ap (λ b. arg_by_index (values_of b) 2) (sym is)) ∙ empty_settle)
    dangling two_read is waiting (t ∷ ts) =
        step_none s (state opened waiting two_read true) t ts kind.InvalidValue []
        (value_turn opened waiting two_read all_read true t ts (Some 3) (codes "groups") refl refl (index_found names v 3 ∙ ap (λ b. arg_by_index (values_of b) 3) (sym is)) ∙ empty_settle)

    abbrev long_by : Bool → Rule → Option Text → Kinds
    long_by b a val = if b then option_fault c false a val opened else (if is_some val then kind.TooManyValues ∷ [] else react_fault c false a [] opened)

    long_by_fails : (b : Bool) (a : Rule) (val : Option Text) → (k : ErrorKind) × (ks : Kinds) × (long_by b a val ≡ k ∷ ks)
    long_by_fails true a None = (kind.InvalidValue, [], empty_settle)
    long_by_fails true a (Some x) = (kind.InvalidValue, [], ap (λ k. or_else k (use_fault false a (x ∷ []) (settled c opened).rows)) empty_settle)
    long_by_fails false a None = (kind.InvalidValue, [], ap (λ k. or_else k (use_fault false a [] (settled c opened).rows)) empty_settle)
    long_by_fails false a (Some x) = (kind.TooManyValues, [], refl)

    long_fails : (found : Option Rule) (val : Option Text) → (k : ErrorKind) × (ks : Kinds) × (long_fault c false found val opened ≡ k ∷ ks)
    long_fails None val = (kind.UnknownArgument, [], refl)
    long_fails (Some a) val = long_by_fails (takes_values a) a val

    module _ (p : Place) (is : has_values p ≡ v) (t : Text) (ts : List Text) (ih : Claims ts) where
      abbrev at_number : Walk
      at_number = state opened (option (id n)) p false

      -- what a fault of the word gives
      abbrev then_fails : Kinds → Kinds
      then_fails x = or_else x (step_fault s (position p) (word_met c [] false (option (id n)) (position p) t opened).0 (word_met c [] false (option (id n)) (position p) t opened).1)

      number_bare : bytes_eq t (45 ∷ 45 ∷ []) ≡ false → long_of t ≡ None → (b : Bool) → is_bare (short_of t) ≡ b
          → outcome s at_number (t ∷ ts) ≡ checked (read_to None rows (if b then with_use (numbered n t) (raw_from names any p ts) else None))
      unfolding walked
      number_bare dashes long true bare =
          let passes : word_fault s [] false (option (id n)) t opened ≡ [] =
          ap (λ b. if b then [] else flag_word_fault c false (long_of t) t opened) dashes ∙ ap (λ o. flag_word_fault c false o t opened) long ∙ bare_bundle t opened refl bare in
          let met : word_met c [] false (option (id n)) (position p) t opened ≡ (held rows (Some (id n, t ∷ [])), next_step idle) =
          ap (λ b. if b then (opened, trailing_step (position p)) else long_or_other c (option (id n)) t (long_of t) opened) dashes
          ∙ ap (λ o. long_or_other c (option (id n)) t o opened) long ∙ bare_met (option (id n)) t opened refl bare
          ∙ ap (λ o. ((option_word o (id n) t opened).0, next_step (option_word o (id n) t opened).1)) known
          ∙ ap (λ b. (held rows (Some (id n, t ∷ [])), next_step (if nat_lt (if b then 1 else 0) 1 then option (id n) else idle))) ((bytes_eq-Decides (id n) (id n)).1 refl) in
          step_next s at_number t ts (state (held rows (Some (id n, t ∷ []))) idle p false)
          (λ i. or_else (passes i) (step_fault s (position p) (met i).0 (met i).1))
          (ap (λ m. after_step c t at_number m.0 m.1) met)
          ∙ ih.0 p is (Some (numbered n t)) (None, Some (id n), false, known) rows ∙ ap checked (sym (read_with (numbered n t) rows (raw_from names any p ts)))
      number_bare dashes long false bare =
          step_none s at_number t ts kind.UnknownArgument []
          (ap then_fails (ap (λ b. if b then [] else flag_word_fault c false (long_of t) t opened) dashes ∙ ap (λ o. flag_word_fault c false o t opened) long ∙ dashed_bundle t opened refl bare))

      number_other : bytes_eq t (45 ∷ 45 ∷ []) ≡ false → (l : Option (Text × Option Text)) → long_of t ≡ l
          → outcome s at_number (t ∷ ts) ≡ checked (read_to None rows (if not (is_some l) && is_bare (short_of t) then with_use (numbered n t) (raw_from names any p ts) else None))
      number_other dashes None long = number_bare dashes long (is_bare (short_of t)) refl
      number_other dashes (Some l) long =
          let fails = long_fails (arg_by_long c l.0) l.1 in
          step_none s at_number t ts fails.0 fails.1
          (ap then_fails (ap (λ b. if b then [] else flag_word_fault c false (long_of t) t opened) dashes ∙ ap (λ o. flag_word_fault c false o t opened) long ∙ fails.2))

      number_by : (b : Bool) → bytes_eq t (45 ∷ 45 ∷ []) ≡ b
          → outcome s at_number (t ∷ ts)
          ≡ checked (read_to None rows (if not b && (not (is_some (long_of t)) && is_bare (short_of t)) then with_use (numbered n t) (raw_from names any p ts) else None))
      unfolding walked
      number_by true dashes =
          step_next s at_number t ts (state opened (option (id n)) p true)
          (ap (λ b. or_else (if b then [] else flag_word_fault c false (long_of t) t opened)
          (step_fault s (position p) (if b then (opened, trailing_step (position p)) else long_or_other c (option (id n)) t (long_of t) opened).0 (if b then (opened, trailing_step (position p)) else long_or_other c (option (id n)) t (long_of t) opened).1)) dashes)
          (ap (λ b. after_step c t at_number (if b then (opened, trailing_step (position p)) else long_or_other c (option (id n)) t (long_of t) opened).0
          (if b then (opened, trailing_step (position p)) else long_or_other c (option (id n)) t (long_of t) opened).1) dashes)
          ∙ dangling p is (option (id n)) ts
      number_by false dashes = number_other dashes (long_of t) refl

      number_more : outcome s at_number (t ∷ ts) ≡ checked (read_to None rows (raw_from names (number_of n) p (t ∷ ts)))
      unfolding raw_from
      number_more = number_by (bytes_eq t (45 ∷ 45 ∷ [])) refl

    number_ended : (p : Place) → outcome s (state opened (option (id n)) p false) [] ≡ checked (read_to None rows (raw_from names (number_of n) p []))
    unfolding walk_fault raw_from
    number_ended p = ap closing empty_settle

  any_ended : AnyClaim []
  unfolding raw_from
  any_ended p is pend known rows = ended pend known rows idle p false

  trailing_ended : TrailingClaim []
  unfolding raw_from
  trailing_ended p is waiting pend known rows = ended pend known rows waiting p true

  pub claims : (ts : List Text) → Claims ts
  claims [] = (any_ended, trailing_ended, λ p is n known rows. number_ended n known rows p)
  claims (t ∷ ts) = (any_claim t ts (claims ts), trailing_claim t ts (claims ts), λ p is n known rows. number_more n known rows p is t ts (claims ts))
