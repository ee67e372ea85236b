-- What the parse says of the words.
use Rattle.std.proofs.Common.{◌≡◌, arith, length, ne_eqb, refl, sym, ap, true, false, true≢false, List, [], ◌∷◌, Option, Some, None, is_some, option_map}
use Rattle.std.specs.Prelude.{Box, if◌then◌else◌, unwrap_or}
use Rattle.std.specs.Box.{box_value}
use Rattle.clap.specs.Kinds.{IsAmong, Kinds}
use Rattle.clap.specs.Walk.{Row, Text, is_empty}
use Rattle.clap.specs.Simple.{is_simple, subcommand_of, subcommand_rows}
use Rattle.clap.specs.Faults.{fault_of, is_simple_and_free}
use Rattle.clap.specs.declared.error.kind.ErrorKind.{ErrorKind}
use Rattle.clap.specs.declared.parser.matches.ArgMatches.TheViews.{out-SubCommand}
use Rattle.clap.specs.declared.parser.matches.SubCommand.{SubCommand}
use Rattle.clap.proofs.OnLiterals.{clap_on_literals}
use Rattle.model_words.specs.App.{redolab_app}
use Rattle.model_words.specs.Found.{asked_from, walked_asked}

pub app_free : is_simple_and_free redolab_app ≡ true
unfolding clap_on_literals
app_free = refl

pub app_simple : is_simple redolab_app ≡ true
unfolding clap_on_literals
app_simple = refl

not_empty : (k : ErrorKind) (kinds : Kinds) → IsAmong k kinds → is_empty kinds ≡ false
not_empty k [] h = absurd h
not_empty k (x ∷ xs) h = ne_eqb (length (x ∷ xs)) 0 (λ e. absurd (omega (arith, e)))

pub failed : (words : List Text) (k : ErrorKind) → IsAmong k (fault_of redolab_app words) → walked_asked words ≡ None
failed words k h = ap (λ b. if b then asked_from (subcommand_of redolab_app words) else None) (not_empty k (fault_of redolab_app words) h)

pub passed : (words : List Text) → fault_of redolab_app words ≡ [] → walked_asked words ≡ asked_from (subcommand_of redolab_app words)
passed words e = ap (λ k. if is_empty k then asked_from (subcommand_of redolab_app words) else None) e

module _ {Z : Type 0} where
  pub entered_is : (sub : Option (Box SubCommand Z)) (n : Text) (rs : List Row) → Some n ≡ option_map (λ b. (out-SubCommand (box_value b)).name.now) sub
      → Some rs ≡ option_map (λ p. p.1) (subcommand_rows sub) → subcommand_rows sub ≡ Some (n, rs)
  entered_is None n rs e f = absurd (true≢false (ap is_some e))
  entered_is (Some b) n rs e f = λ i. Some (unwrap_or (sym e i) n, unwrap_or (sym f i) rs)
