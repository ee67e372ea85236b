-- A command without numbers by themselves: what it asks, and what is read of its uses.
use Rattle.std.proofs.Common.{◌≡◌, ◌∙◌, ◌&&◌, refl, sym, ap, ℕ, Bool, true, false, List, [], ◌∷◌, map, Option, Some, None, option_map, true≢false}
use Rattle.std.specs.Prelude.{if◌then◌else◌, option_and_then, fold}
use Rattle.std.proofs.Math.Bool.{and-false}
use Rattle.clap.specs.Walk.{Row, Rule, Text, first_of, with_default}
use Rattle.model_script.specs.{Said, allowed_page_size, given_number, is_flag, is_given, number_within, word_number}
use Rattle.model_script.specs.declared.asked.Asked.{Asked}
use Rattle.model_script.specs.declared.asked.Command.{Command}
use Rattle.model_script.specs.declared.words.Name.{Name}
use Rattle.model_words.specs.Found.{is_true, text_number, text_number_or, text_number_within, text_page_size}
use Rattle.model_words.proofs.Asked.{flag_in, number_in}
use Rattle.model_words.proofs.Lookups.{Ok, text_in}
use Rattle.model_words.proofs.Rules.{Place, id, plain}
use Rattle.model_words.proofs.Said.{conv, fits}
use Rattle.model_words.proofs.Uses.{Use, use_row}

-- ---- what a command with options alone asks

abbrev pub as_asked : Bool → Option Command → Option Asked
as_asked files = option_map (λ command. record { command = command; files = files })

abbrev pub only_options : Bool → Bool → List ℕ → Option Command → Option Command
only_options members different values command = elim values [ [] ↦ if members && different then command else None | value ∷ others ↦ None ]

pub unfit_options : (members different files : Bool) (values : List ℕ) (command : Option Command) → (members && fits plain values) ≡ false → as_asked files (only_options members different values command) ≡ None
unfit_options false different files [] command e = refl
unfit_options true different files [] command e = absurd (true≢false e)
unfit_options members different files (x ∷ xs) command e = refl

pub twice_options : (members different files : Bool) (values : List ℕ) (command : Option Command) → different ≡ false → as_asked files (only_options members different values command) ≡ None
twice_options members different files [] command e =
    ap (λ b. as_asked files (if members && b then command else None)) e ∙ ap (λ b. as_asked files (if b then command else None)) (and-false members)
twice_options members different files (x ∷ xs) command e = refl

pub good_options : (members different files : Bool) (values : List ℕ) (command : Option Command) → (members && fits plain values) ≡ true → different ≡ true
    → as_asked files command ≡ as_asked files (only_options members different values command)
good_options true different files [] command e d = ap (λ b. as_asked files (if b then command else None)) (sym d)
good_options false different files [] command e d = absurd (true≢false (sym e))
good_options false different files (x ∷ xs) command e d = absurd (true≢false (sym e))
good_options true different files (x ∷ xs) command e d = absurd (true≢false (sym e))

-- ---- what is read of uses

module _ (names : List Name) (c : List Rule) (p : Place) (us : List Use) (said : Said) (ok : Ok names p us) (says : conv us ≡ Some said) where
  abbrev rows : List Row
  rows = fold with_default (map use_row us) c

  pub text_is : (n : Name) → is_flag n ≡ false → first_of (id n) rows ≡ text_in (id n) us → text_number (first_of (id n) rows) ≡ Some (given_number n said.options)
  text_is n takes kept = ap text_number kept ∙ number_in names p n us said takes ok says

  pub given_is : (n : Name) → is_flag n ≡ true → is_true (first_of (id n) rows) ≡ is_true (text_in (id n) us) → is_true (first_of (id n) rows) ≡ is_given n said.options
  given_is n takes kept = kept ∙ flag_in names p n us said takes ok says

pub or_bad : (least greatest default : ℕ) (o : Option Text) (t : Text) → o ≡ Some t → word_number t ≡ None → text_number_or least greatest default o ≡ None
or_bad least greatest default o t e none = ap (text_number_or least greatest default) e ∙ ap (option_and_then (number_within least greatest)) none

pub page_size_bad : (o : Option Text) (t : Text) → o ≡ Some t → word_number t ≡ None → text_page_size o ≡ None
page_size_bad o t e none = ap text_page_size e ∙ ap (option_and_then allowed_page_size) none

pub within_bad : (least greatest : ℕ) (o : Option Text) (t : Text) → o ≡ Some t → word_number t ≡ None → text_number_within least greatest o ≡ None
within_bad least greatest o t e none = ap (text_number_within least greatest) e ∙ ap (option_and_then (number_within least greatest)) none

pub number_bad : (o : Option Text) (t : Text) → o ≡ Some t → word_number t ≡ None → text_number o ≡ None
number_bad o t e none = ap text_number e ∙ ap (option_map Some) none
