-- `clap`'s walk over all the words of a call.
use Rattle.std.proofs.Common.{◌≡◌, ◌∙◌, arith, ne_eqb, refl, sym, ap, ap₂, Bool, true, false, List, [], ◌∷◌, ◌++◌, length, Option, Some, None, is_some, option_map}
use Rattle.std.specs.Prelude.{if◌then◌else◌, option_and_then, find, fold}
use Rattle.std.specs.Option.{option_map_or}
use Rattle.std.specs.Str.{bytes_eq}
use Rattle.clap.specs.Lexer.{long_of, short_of}
use Rattle.clap.specs.Kinds.{Kinds, or_else}
use Rattle.clap.specs.Walk.{Names, Row, Rule, Text, Walk, after_step, answers_to, finished, is_empty, nothing_held, settled, walk, walk_from, walked, with_default, idle, long_or_other, short_or_plain, subcommand_or_other, trailing as trailing_step}
use Rattle.clap.specs.Simple.{App, Shape, entered, label_of, names_of, rows_at}
use Rattle.clap.specs.Faults.{built_fault, check_fault, defaults_fault, entered_fault, flag_word_fault, other_fault, level_fault, settle_fault, step_fault, turn_fault, walk_fault}
use Rattle.clap.specs.declared.error.kind.ErrorKind.{ErrorKind}
use Rattle.clap.specs.declared.error.kind.ErrorKind.TheVariants as kind
use Rattle.clap.proofs.WalkLemmas.{walk_stopped}
use Rattle.model_script.specs.declared.asked.Asked.{Asked}
use Rattle.model_script.specs.declared.words.Name.{Name}
use Rattle.model_words.specs.Found.{asked_from, asked_with, walked_asked}
use Rattle.model_words.proofs.Leaf.{bare_bundle, bare_met, dashed_bundle, outcome, result_of}
use Rattle.model_words.proofs.Uses.{is_bare}
use Rattle.model_words.proofs.Rules.{app_built, built_app, leaf, leaves}

abbrev top : Shape
top = built_app.top

abbrev names : Names
names = names_of built_app

abbrev start : Walk
start = walk_from nothing_held

abbrev stopped_at : Text → List Text → Walk
stopped_at nm ts = record start { stopped = Some (nm, ts) }

-- past a subcommand's name no word is a fault
stopped_free : (nm : Text) (seen ts : List Text) → walk_fault top names (stopped_at nm seen) ts ≡ []
unfolding walk_fault walked
stopped_free nm seen [] = refl
stopped_free nm seen (t ∷ ts) = stopped_free nm (seen ++ t ∷ []) ts

-- the rest of the faults, by where the walk stands and what it met
abbrev whole_fault : Walk → Kinds → Kinds
whole_fault w k =
    or_else k (or_else (entered_fault built_app w.stopped) (or_else (settle_fault [] false w.held)
    (or_else (defaults_fault (settled [] w.held).rows []) (check_fault top (finished [] w.held) (is_some (entered built_app w.stopped))))))

abbrev asked_at : Kinds → Option (Text × List Row) → Option Asked
asked_at k found = if is_empty k then asked_from found else None

walked_is : (ws : List Text) → walked_asked ws
    ≡ asked_at (whole_fault (walk [] names nothing_held ws) (walk_fault top names start ws)) (entered built_app (walk [] names nothing_held ws).stopped)
walked_is ws = ap (λ (a : App). asked_at (built_fault a nothing_held ws) (entered a (walk a.top.rules (names_of a) nothing_held ws).stopped)) app_built

asked_by : (k : Kinds) (nm : Text) (c : List Rule) (rows : List Row)
    → (if is_empty (or_else k []) then asked_with nm (fold with_default rows c) else None) ≡ option_and_then (λ rs. asked_with nm (fold with_default rs c)) (result_of k rows)
asked_by [] nm c rows = refl
asked_by (x ∷ xs) nm c rows = ap (λ b. if b then asked_with nm (fold with_default rows c) else None) (ne_eqb (length (x ∷ xs)) 0 (λ e. absurd (omega (arith, e))))

-- where the first word names a command
pub named_asked : (nm : Text) (ns : List Name) (v : Bool) (ts : List Text) → walked [] names start nm ≡ stopped_at nm [] → turn_fault top names start nm ≡ []
    → find (λ s. answers_to nm (label_of s)) leaves ≡ Some (leaf nm ns v)
    → walked_asked (nm ∷ ts) ≡ option_and_then (λ rows. asked_with nm (fold with_default rows (leaf nm ns v).rules)) (outcome (leaf nm ns v) start ts)
unfolding walk_fault defaults_fault
named_asked nm ns v ts stops free found =
    let stands : walk [] names nothing_held (nm ∷ ts) ≡ stopped_at nm ts = ap (λ w. fold (walked [] names) w ts) stops ∙ sym (walk_stopped [] names start nm [] ts) in
    let passes : walk_fault top names start (nm ∷ ts) ≡ [] =
    ap₂ (λ k w. or_else k (walk_fault top names w ts)) free stops ∙ stopped_free nm [] ts in
    walked_is (nm ∷ ts) ∙ ap₂ (λ w k. asked_at (whole_fault w k) (entered built_app w.stopped)) stands passes
    ∙ ap (λ o. asked_at (or_else (option_map_or (λ s. level_fault s [] nothing_held ts false []) o []) (check_fault top [] (is_some (option_map (λ s. rows_at s ts) o)))) (option_map (λ s. rows_at s ts) o)) found
    ∙ asked_by (level_fault (leaf nm ns v) [] nothing_held ts false []) nm (leaf nm ns v).rules (settled (leaf nm ns v).rules (walk (leaf nm ns v).rules [] nothing_held ts).held).rows

-- ---- where no command is named

abbrev fails : List Text → Type 0
fails ws = walked_asked ws ≡ None

asked_none : (k : ErrorKind) (ks : Kinds) (found : Option (Text × List Row)) → asked_at (k ∷ ks) found ≡ None
asked_none k ks found = ap (λ b. if b then asked_from found else None) (ne_eqb (length (k ∷ ks)) 0 (λ e. absurd (omega (arith, e))))

pub nothing_asked : fails []
unfolding walk_fault defaults_fault
nothing_asked = walked_is [] ∙ asked_none kind.MissingSubcommand [] None

-- a first word that is a fault
first_fails : (t : Text) (ts : List Text) (k : ErrorKind) (ks : Kinds) → turn_fault top names start t ≡ k ∷ ks → fails (t ∷ ts)
unfolding walk_fault
first_fails t ts k ks e =
    let w = walk [] names nothing_held (t ∷ ts) in
    walked_is (t ∷ ts)
    ∙ ap (λ x. asked_at (whole_fault w (or_else x (walk_fault top names (walked [] names start t) ts))) (entered built_app w.stopped)) e
    ∙ asked_none k _ (entered built_app w.stopped)

-- the walk after `--`
abbrev trailing_start : Walk
trailing_start = record start { is_trailing = true }

dashes_fail : (t : Text) (ts : List Text) → walked [] names start t ≡ trailing_start → turn_fault top names start t ≡ [] → fails (t ∷ ts)
unfolding walk_fault defaults_fault
dashes_fail t [] stands free =
    walked_is (t ∷ []) ∙ ap₂ (λ w k. asked_at (whole_fault w (or_else k [])) (entered built_app w.stopped)) stands free
    ∙ asked_none kind.MissingSubcommand [] None
dashes_fail t (u ∷ us) stands free =
    let after_all = λ (w : Walk). fold (walked [] names) w (u ∷ us) in
    walked_is (t ∷ u ∷ us)
    ∙ ap₂ (λ w k. asked_at (whole_fault (fold (walked [] names) w (u ∷ us)) (or_else k (walk_fault top names w (u ∷ us)))) (entered built_app (fold (walked [] names) w (u ∷ us)).stopped)) stands free
    ∙ asked_none kind.UnknownArgument (kind.InvalidSubcommand ∷ []) (entered built_app (fold (walked [] names) trailing_start (u ∷ us)).stopped)

abbrev unnamed : Text → Type 0
unnamed t = find (answers_to t) names ≡ None

module _ (t : Text) (ts : List Text) (other : unnamed t) where
  -- what the word is to the command itself
  abbrev turn_of : Option Text → Bool → Kinds
  turn_of o b =
      or_else (other_fault top o t nothing_held)
      (step_fault top 1 (subcommand_or_other [] o idle 1 t nothing_held).0 (subcommand_or_other [] o idle 1 t nothing_held).1)

  turn_is : turn_fault top names start t ≡ turn_of None false
  turn_is = ap (λ o. turn_of (option_map (λ s. s.0) o) false) other

  abbrev by_dashes : Bool → Kinds
  by_dashes b =
      or_else (if b then [] else flag_word_fault [] false (long_of t) t nothing_held)
      (step_fault top 1 (if b then (nothing_held, trailing_step 1) else long_or_other [] idle t (long_of t) nothing_held).0
      (if b then (nothing_held, trailing_step 1) else long_or_other [] idle t (long_of t) nothing_held).1)

  bare_fails : (b : Bool) → bytes_eq t (45 ∷ 45 ∷ []) ≡ false → long_of t ≡ None → is_bare (short_of t) ≡ b → fails (t ∷ ts)
  bare_fails false dashes long bare =
      first_fails t ts kind.UnknownArgument []
      (turn_is ∙ ap by_dashes dashes
      ∙ ap (λ o. or_else (flag_word_fault [] false o t nothing_held) (step_fault top 1 (long_or_other [] idle t o nothing_held).0 (long_or_other [] idle t o nothing_held).1)) long
      ∙ ap (λ k. or_else k (step_fault top 1 (short_or_plain [] idle t (short_of t) nothing_held).0 (short_or_plain [] idle t (short_of t) nothing_held).1)) (dashed_bundle [] [] false t nothing_held refl bare))
  bare_fails true dashes long bare =
      first_fails t ts kind.UnknownArgument (kind.InvalidSubcommand ∷ [])
      (turn_is ∙ ap by_dashes dashes
      ∙ ap (λ o. or_else (flag_word_fault [] false o t nothing_held) (step_fault top 1 (long_or_other [] idle t o nothing_held).0 (long_or_other [] idle t o nothing_held).1)) long
      ∙ ap₂ (λ k m. or_else k (step_fault top 1 m.0 m.1)) (bare_bundle [] [] false t nothing_held refl bare) (bare_met [] [] false idle t nothing_held refl bare))

  long_or_bare : (l : Option (Text × Option Text)) → bytes_eq t (45 ∷ 45 ∷ []) ≡ false → long_of t ≡ l → fails (t ∷ ts)
  long_or_bare None dashes long = bare_fails (is_bare (short_of t)) dashes long refl
  long_or_bare (Some l) dashes long =
      first_fails t ts kind.UnknownArgument []
      (turn_is ∙ ap by_dashes dashes
      ∙ ap (λ o. or_else (flag_word_fault [] false o t nothing_held) (step_fault top 1 (long_or_other [] idle t o nothing_held).0 (long_or_other [] idle t o nothing_held).1)) long)

  by_word : (b : Bool) → bytes_eq t (45 ∷ 45 ∷ []) ≡ b → fails (t ∷ ts)
  unfolding walked
  by_word false dashes = long_or_bare (long_of t) dashes refl
  by_word true dashes =
      dashes_fail t ts
      (ap (λ o. after_step [] t start (subcommand_or_other [] (option_map (λ s. s.0) o) idle 1 t nothing_held).0 (subcommand_or_other [] (option_map (λ s. s.0) o) idle 1 t nothing_held).1) other
      ∙ ap (λ b. after_step [] t start (if b then (nothing_held, trailing_step 1) else long_or_other [] idle t (long_of t) nothing_held).0 (if b then (nothing_held, trailing_step 1) else long_or_other [] idle t (long_of t) nothing_held).1) dashes)
      (turn_is ∙ ap by_dashes dashes)

  -- the first word is no command's name
  pub unnamed_asked : walked_asked (t ∷ ts) ≡ None
  unnamed_asked = by_word (bytes_eq t (45 ∷ 45 ∷ [])) refl
