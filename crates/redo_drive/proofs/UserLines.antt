-- The lines that a user has of a script that fits the store.
use Rattle.std.proofs.Common.{Bool, List, Some, [], ap, arith, cond, eqb, false, length, map, refl, slice_get, subst, suc, sym, true, zero, ℕ, ◌+◌, ◌<◌, ◌∙◌, ◌∷◌, ◌≡◌, ◌≤◌}
use Rattle.std.proofs.lemmas.Bool.{eqb-true}
use Rattle.std.proofs.lemmas.List.{length-map}
use Rattle.std.proofs.lemmas.Option.{get_or_from_slice_get, same_Some, slice_get-map, slice_get_within}
use Rattle.std.specs.List.{AllByRecursion}
use Rattle.std.specs.Option.{option_map}
use native.Mathlib.Decide.{dec_le}
use Rattle.model_base.specs.declared.shape.Shape.{Shape}
use Rattle.model_core.specs.{Line, line_of}
use Rattle.model_core.specs.declared.limits.TheConstants.{READERS}
use Rattle.model_running.proofs.Groups.{line_below}
use Rattle.model_running.specs.{IsOfScript}
use Rattle.model_report.specs.{lines_of_user}
use Rattle.model_page.specs.declared.content.Content.{Content}
use Rattle.model_log.specs.declared.rec.Rec.{Rec}
use Rattle.model_script.specs.{group_of, IsScriptLine, LineFits}
use Rattle.model_script.specs.declared.misfit.TheConstants.{MAX_USERS}
use Rattle.model_script.specs.declared.script.ScriptLine.{ScriptLine}
use Rattle.redo_drive.specs.Setups.{first_reader, programs_of, user_lines}
use Rattle.redo_drive.specs.StartWords.{setup_of}
use Rattle.redo_drive.specs.declared.seating.TheConstants.{FIRST_FOLLOWER}
use Rattle.redo_drive.specs.declared.plan.Plan.{Plan}
use Rattle.redo_useractor.specs.{AreUserLines, IsUserLine}

-- what holds of each line of a script holds of a user's, which are its own
pub of_user : (P : ScriptLine → Type 0) (script : List ScriptLine) (user k : ℕ) (one : ScriptLine) → AllByRecursion P script
    → slice_get (lines_of_user user script) k ≡ Some one → P one × (one.user ≡ user)
of_user P [] user k one all at = absurd (cc)
of_user P (line ∷ lines) user k one all at = by (eqb line.user user) (λ same. eqb-true line.user user same) (λ i it. of_user P lines user i one all.1 it) k at
  where
    by : (b : Bool) → (b ≡ true → line.user ≡ user) → ((i : ℕ) → slice_get (lines_of_user user lines) i ≡ Some one → P one × (one.user ≡ user))
        → (i : ℕ) → slice_get (cond b (line ∷ lines_of_user user lines) (lines_of_user user lines)) i ≡ Some one → P one × (one.user ≡ user)
    by true own others zero it = subst (λ (z : ScriptLine). P z × (z.user ≡ user)) (same_Some line one it) (all.0, own refl)
    by true own others (suc i) it = others i it
    by false own others i it = others i it

-- a mode is one of three
pub few_modes : (line : ScriptLine) → IsScriptLine line → line.mode < 3
few_modes line is = let mode = is.mode in omega arith

-- the lines of a user are lines that it may have
module _ (shape : Shape) (script : List ScriptLine) (lines : AllByRecursion IsScriptLine script) (fits : AllByRecursion (LineFits shape) script) where
  pub user_line : (user k : ℕ) (one : ScriptLine) → slice_get (lines_of_user user script) k ≡ Some one → IsUserLine shape (one.mode, group_of shape.space one)
  user_line user k one at =
      let fit : LineFits shape one = (of_user (LineFits shape) script user k one fits at).0 in
      record {
        mode = few_modes one (of_user IsScriptLine script user k one lines at).0;
        is_group = fit.has_text;
        short = fit.short;
        fits = fit.fits;
      }

  pub are_user_lines : (user : ℕ) → AreUserLines shape (user_lines shape.space script user)
  are_user_lines user i line at =
      let own : List ScriptLine = lines_of_user user script in
      let spelled : ScriptLine → ℕ × List Rec = λ one. (one.mode, group_of shape.space one) in
      let there : i < length own = omega (arith, slice_get_within (map spelled own) i line at, length-map own spelled) in
      let one = line_below own i there in
      let same : spelled one.0 ≡ line = same_Some (spelled one.0) line (sym (slice_get-map spelled own i ∙ ap (option_map spelled) one.1) ∙ at) in
      subst (IsUserLine shape) same (user_line user i one.0 one.1)

  -- users are numbered from 1 to the greatest number
  pub numbered : (user : ℕ) → 0 < length (lines_of_user user script) → (1 ≤ user) × (user ≤ MAX_USERS)
  numbered user some =
      let one = line_below (lines_of_user user script) 0 some in
      let own = of_user (LineFits shape) script user 0 one.0 fits one.1 in
      let from = own.0.user_from in
      let to = own.0.user_to in (omega arith, omega arith)

-- as many lines as the program of a user has
pub program_length : (shape : Shape) (log_only : Bool) (script : List ScriptLine) (user : ℕ) → length (programs_of shape log_only script user) ≡ length (user_lines shape.space script user)
program_length shape log_only script user = length-map (user_lines shape.space script user) (λ (line : ℕ × List Rec). line_of log_only shape line.0 line.1)

-- no other number has a program
pub no_program : (shape : Shape) (script : List ScriptLine) → AllByRecursion IsScriptLine script → AllByRecursion (LineFits shape) script
    → (log_only : Bool) (user : ℕ) → ((1 ≤ user) × (user ≤ MAX_USERS) → ⊥) → length (programs_of shape log_only script user) ≡ 0
no_program shape script lines fits log_only user outside = elim (dec_le 1 (length (lines_of_user user script))) [
  | yes some ↦ absurd (outside (numbered shape script lines fits user some))
  | no none ↦ program_length shape log_only script user ∙ length-map (lines_of_user user script) (λ (one : ScriptLine). (one.mode, group_of shape.space one)) ∙ omega arith
]

-- the users' programs are those of the script
pub of_script : (shape : Shape) (pages : List Content) (start : ℕ) (script : List ScriptLine) (users : ℕ)
    (plan : Plan) → FIRST_FOLLOWER + plan.followers ≤ READERS
    → IsOfScript (setup_of shape pages start script users plan) script shape
of_script shape pages start script users plan few = record {
  count = λ user. length-map (map spelled (lines_of_user user script)) program ∙ length-map (lines_of_user user script) spelled;
  readers = in_order plan.archive;
  few_readers = few;
  each = λ user k one at. get_or_from_slice_get (programs_of shape plan.log_only script user) k (program (spelled one))
      (record { mode = 0; bytes = []; changes = [] })
      (slice_get-map program (map spelled (lines_of_user user script)) k ∙ ap (option_map program) (slice_get-map spelled (lines_of_user user script) k ∙ ap (option_map spelled) at));
}
  where
    in_order : (b : Bool) → first_reader b ≤ FIRST_FOLLOWER + plan.followers
    in_order true = omega arith
    in_order false = omega arith

    spelled : ScriptLine → ℕ × List Rec
    spelled one = (one.mode, group_of shape.space one)

    program : ℕ × List Rec → Line
    program line = line_of plan.log_only shape line.0 line.1
