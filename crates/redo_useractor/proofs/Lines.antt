-- A line as it is made, and that each line of a list may be.
use Rattle.std.proofs.Common.{Bool, List, Some, [], ap, cond, false, get_or, length, sym, true, ℕ, ◌<◌, ◌∙◌, ◌≡◌}
use Rattle.std.proofs.lemmas.Option.{slice_get-get_or}
use Rattle.model_base.specs.declared.shape.Shape.{Shape}
use Rattle.model_core.specs.{line_of, Line}
unfoldable use Rattle.model_core.specs.Changes.{collected}
use Rattle.model_log.specs.{group_text}
use Rattle.model_log.specs.declared.rec.Rec.{Rec}
use Rattle.redo_useractor.proofs.Pages.{changes_are}
use Rattle.redo_useractor.specs.Lines.{AreUserLines, IsUserLine}
use Rattle.redo_useractor.specs.Places.{changes_on, page_if_touched}

pub line_is : (log_only : Bool) (shape : Shape) (mode : ℕ) (group : List Rec) (text touched : List ℕ) → text ≡ group_text group
    → touched ≡ cond log_only [] (collected (page_if_touched group) shape.pages)
    → ◌≡◌ {A = Line} (record { mode = mode; bytes = text; changes = changes_on shape group touched }) (line_of log_only shape mode group)
line_is true shape mode group text touched t p = λ i. record { mode = mode; bytes = t i; changes = changes_on shape group (p i) }
line_is false shape mode group text touched t p =
    let q = ap (changes_on shape group) p ∙ changes_are shape group shape.pages in λ i. record { mode = mode; bytes = t i; changes = q i }

pub line_here : (shape : Shape) (lines : List (ℕ × List Rec)) (k : ℕ) (line : ℕ × List Rec) → AreUserLines shape lines → k < length lines → line ≡ get_or lines k line → IsUserLine shape line
line_here shape lines k line are lt is = are k line (slice_get-get_or lines k line lt ∙ ap Some (sym is))
