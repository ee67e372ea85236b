use Rattle.std.proofs.Common.{◌≡◌, ◌∙◌, sym, ap, subst, List, [], map, ⊎_elim}
use Rattle.std.specs.String.{string_bytes}
use Rattle.clap.specs.Words.{app_of, found_of, rows_of, subcommand_rows_of}
use Rattle.clap.specs.Kinds.{IsAmong}
use Rattle.clap.specs.Walk.{Text}
use Rattle.clap.specs.Simple.{App, is_simple, subcommand_of}
use Rattle.clap.specs.Faults.{fault_of, is_simple_and_free}
use Rattle.clap.specs.Values.{kind_of}
use Rattle.clap.specs.declared.parser.matches.ArgMatches.TheViews.{out-ArgMatches}
use Rattle.model_words.specs.App.{redolab_app}
use Rattle.model_words.specs.Found.{asked_from}
use Rattle.model_words.proofs.Whole.{same}
use Rattle.redo_command.proofs.Walked.{app_free, app_simple, entered_is, failed, passed}
use Rattle.redo_command.proofs.words.read_words.Goals as goal

pub returns-in_default : goal.returns-in_default
returns-in_default c =
    let words : List Text = map (λ word. string_bytes word) c.args.words.now in
    let app_is : app_of c.in_ok-command.command ≡ redolab_app = c.in_ok-command.ensures.0 in
    let kinds = c.in-Err.ensures.kinds (ap is_simple_and_free app_is ∙ app_free) in
    record {
      asked = tt;
      fault = ⊎_elim (λ m. absurd (c.in_default.not-OutOfMemory (c.kind.ensures ∙ m)))
          (λ among. sym (same words) ∙ failed words (kind_of c.in-Err.error) (subst (λ (a : App). IsAmong (kind_of c.in-Err.error) (fault_of a words)) app_is among)) kinds;
    }

pub returns-in-Some-read_asked-clause-asked : goal.returns-in-Some-read_asked-clause-asked
returns-in-Some-read_asked-clause-asked c =
    let words : List Text = map (λ word. string_bytes word) c.args.words.now in
    let app_is : app_of c.in_ok-command.command ≡ redolab_app = c.in_ok-command.ensures.0 in
    let none : fault_of redolab_app words ≡ [] = ap (λ (a : App). fault_of a words) (sym app_is) ∙ c.in-Ok.ensures.kinds (ap is_simple_and_free app_is ∙ app_free) in
    let found : subcommand_rows_of c.in-Ok.matches ≡ subcommand_of redolab_app words =
    (c.in-Ok.ensures.matches (ap is_simple app_is ∙ app_simple)).1 ∙ ap (λ (a : App). subcommand_of a words) app_is in
    sym (same words) ∙ passed words none ∙ ap asked_from (sym found ∙ entered_is (out-ArgMatches c.in-Ok.matches).subcommand c.in-Some.name.now (rows_of (found_of c.in-Some.found.now)) c.in-Some.ensures.name c.in-Some.ensures.rows) ∙ sym c.read_asked.ensures ∙ c.in-Some-read_asked.is

pub returns-clause-fault : goal.returns-clause-fault
returns-clause-fault c =
    let words : List Text = map (λ word. string_bytes word) c.args.words.now in
    let app_is : app_of c.in_ok-command.command ≡ redolab_app = c.in_ok-command.ensures.0 in
    let none : fault_of redolab_app words ≡ [] = ap (λ (a : App). fault_of a words) (sym app_is) ∙ c.in-Ok.ensures.kinds (ap is_simple_and_free app_is ∙ app_free) in
    let found : subcommand_rows_of c.in-Ok.matches ≡ subcommand_of redolab_app words =
    (c.in-Ok.ensures.matches (ap is_simple app_is ∙ app_simple)).1 ∙ ap (λ (a : App). subcommand_of a words) app_is in
    sym (same words) ∙ passed words none ∙ ap asked_from (sym found ∙ entered_is (out-ArgMatches c.in-Ok.matches).subcommand c.in-Some.name.now (rows_of (found_of c.in-Some.found.now)) c.in-Some.ensures.name c.in-Some.ensures.rows) ∙ sym c.read_asked.ensures ∙ c.in-None.is
