-- The groups of a history that fit the store.
use Rattle.std.proofs.Common.{◌≡◌, ℕ, ◌==◌, List, [], ◌∷◌, Some, slice_get, sym, subst}
use Rattle.std.specs.List.{AllByRecursion}
use Rattle.model_base.specs.declared.shape.Shape.{Shape}
use Rattle.model_log.specs.{groups_of}
use Rattle.model_store.specs.{IsStorable}
use Rattle.model_script.specs.{group_of, LineFits}
use Rattle.model_script.specs.declared.script.ScriptLine.{ScriptLine}
use Rattle.model_report.specs.{IsOfLine, lines_of_user, wholes_of}
use Rattle.model_report.specs.declared.entry.Entry.{Entry}
use Rattle.model_report.proofs.Filters.{filter-place}
use Rattle.model_report.proofs.Groups.{HasLine, all-at, group-is}

-- a line of a user fits, as each of the script does
pub line-fits : (shape : Shape) (script : List ScriptLine) (user k : ℕ) (line : ScriptLine) → AllByRecursion (LineFits shape) script
    → slice_get (lines_of_user user script) k ≡ Some line → LineFits shape line
line-fits shape script user k line fits at =
    let place = filter-place (λ (line : ScriptLine). line.user == user) script k line at in
    all-at (LineFits shape) script place.0 line fits place.1

pub good-from : (shape : Shape) (script : List ScriptLine) (entries : List Entry) → AllByRecursion (LineFits shape) script
    → AllByRecursion (HasLine script shape.space) entries → AllByRecursion (IsStorable shape) (groups_of (wholes_of script shape.space entries))
good-from shape script [] fits lines = tt
good-from shape script (entry ∷ entries) fits lines =
    let line : ScriptLine = lines.0.line in
    let of_line : IsOfLine script shape.space entry line = lines.0.of_line in
    let fit : LineFits shape line = line-fits shape script entry.user entry.k line fits of_line.line_is in
    let good : IsStorable shape (group_of shape.space line) = record { has_text = fit.has_text; short = fit.short; fits = fit.fits } in (
      subst (IsStorable shape) (sym (group-is script shape.space entry line of_line)) good,
      good-from shape script entries fits lines.1,
    )
