-- What is judged of a script after its lines; and that a script which fits a store has no misfit.
use Rattle.std.proofs.Common.{ℕ, ◌≡◌, ◌≤◌, ◌<◌, ◌+◌, ◌||◌, Bool, true, false, nat_lt, nat_le, List, [], ◌∷◌, ◌++◌, length, map, Option, Some, None, IfSome, Ok, refl, subst}
use Rattle.std.specs.Prelude.{if◌then◌else◌}
use Rattle.std.specs.List.{AllByRecursion}
use Rattle.std.proofs.lemmas.Bool.{le-ltb, lt-leb, or_from}
use Rattle.model_base.specs.{IsWithinLimits}
use Rattle.model_base.specs.declared.shape.Shape.{Shape}
use Rattle.model_base.specs.declared.limits.TheConstants.{LSN_LIMIT, MAX_GROUP, USER_START}
use Rattle.model_log.specs.{group_length, IsUserWrite, RecordFits, user_end}
use Rattle.model_script.proofs.Fitting.{EndFits, end_misfits, ends_fit, none-head, script_fits}
use Rattle.model_script.proofs.ReadLines.{script_of-ranged}
use Rattle.model_script.specs.Fits.{ArchiveFits, Fits, LineFits, ScriptFits}
use Rattle.model_script.specs.Fit.{archive_misfit, archive_need, first_misfit, first_misfit_of, group_misfit, item_misfit, line_misfit, lsn_misfit, misfit_if, page_misfit, script_end, total_misfit, user_misfit, write_misfit, group_of, record_of}
use Rattle.model_script.specs.Grammar.{script_of}
use Rattle.model_script.specs.declared.item.Item.{Item}
use Rattle.model_script.specs.declared.item.Item.TheVariants.{Num, Text, Init}
use Rattle.model_script.specs.declared.misfit.Misfit.{Misfit}
use Rattle.model_script.specs.declared.misfit.Quantity.{Quantity}
use Rattle.model_script.specs.declared.misfit.TheConstants.{MARGIN, MAX_USERS}
use Rattle.model_script.specs.declared.script.ScriptLine.{ScriptLine}

none-behind : (before behind : List (Option Misfit)) → first_misfit_of (before ++ behind) ≡ None → first_misfit_of behind ≡ None
none-behind [] behind none = none
none-behind (first ∷ before) behind none = none-behind before behind (none-head first (before ++ behind) none).1

pub end_fits : (shape : Shape) (start : ℕ) (room_end archive : Option ℕ) (script : List ScriptLine)
    → first_misfit shape start room_end archive script ≡ None → EndFits shape start room_end archive script
unfolding first_misfit
end_fits shape start room_end archive script none =
    ends_fit shape start room_end archive script
    (none-behind (map (line_misfit shape) script) (end_misfits shape start room_end archive script) none)

pub archive_fits : (shape : Shape) (start : ℕ) (room_end archive : Option ℕ) (script : List ScriptLine)
    → first_misfit shape start room_end archive script ≡ None → ArchiveFits shape start archive script
archive_fits shape start room_end archive script none = (end_fits shape start room_end archive script none).archived

pub text_fits : (shape : Shape) (start : ℕ) (room_end archive : Option ℕ) (text : List ℕ) (script : List ScriptLine)
    → IsWithinLimits shape → script_of text ≡ Ok script → first_misfit shape start room_end archive script ≡ None
    → ScriptFits shape start room_end script
text_fits shape start room_end archive text script limits is none =
    script_fits shape start room_end archive script limits (script_of-ranged text script is) none

pub lines-fit : (shape : Shape) (start room : ℕ) (log_only : Bool) (archive : Option ℕ) (text : List ℕ)
    (script : List ScriptLine) → IsWithinLimits shape → script_of text ≡ Ok script
    → Fits shape start room log_only archive script → AllByRecursion (LineFits shape) script
lines-fit shape start room log_only archive text script limits is fits =
    (text_fits shape start (if log_only then Some room else None) archive text script limits is fits.no_misfit).lines

pub end-fits : (shape : Shape) (start room : ℕ) (log_only : Bool) (archive : Option ℕ) (script : List ScriptLine)
    → Fits shape start room log_only archive script → script_end shape start script < LSN_LIMIT
end-fits shape start room log_only archive script fits =
    (end_fits shape start (if log_only then Some room else None) archive script fits.no_misfit).end

pub room-fits : (shape : Shape) (start room : ℕ) (log_only : Bool) (archive : Option ℕ) (script : List ScriptLine)
    → Fits shape start room log_only archive script → log_only ≡ true → script_end shape start script + MARGIN ≤ room
room-fits shape start room log_only archive script fits is =
    let P : Bool → Type 0 = λ log_only.
    first_misfit shape start (if log_only then Some room else None) archive script ≡ None in
    (end_fits shape start (Some room) archive script (subst P is fits.no_misfit)).room

pub archive-fits : (shape : Shape) (start room size : ℕ) (log_only : Bool) (script : List ScriptLine)
    → Fits shape start room log_only (Some size) script → archive_need shape start (script_end shape start script) ≤ size
archive-fits shape start room size log_only script fits =
    (end_fits shape start (if log_only then Some room else None) (Some size) script fits.no_misfit).archived

-- THE OTHER WAY.

inside-none : (outside : Bool) (what : Quantity) (n : ℕ) → outside ≡ false → misfit_if outside what n ≡ None
inside-none true what n inside = absurd (cc)
inside-none false what n inside = refl

both-none : (first : Option Misfit) (others : List (Option Misfit)) → first ≡ None → first_misfit_of others ≡ None
    → first_misfit_of (first ∷ others) ≡ None
both-none None others here there = there
both-none (Some misfit) others here there = cc

user-none : (user : ℕ) → 1 ≤ user → user ≤ MAX_USERS → user_misfit user ≡ None
user-none user from to =
    inside-none (nat_lt user 1 || nat_lt MAX_USERS user) _ user (or_from _ _ (le-ltb user 1 from) (le-ltb MAX_USERS user to))

page-none : (shape : Shape) (page : ℕ) → page < shape.pages → page_misfit shape page ≡ None
page-none shape page below = inside-none (nat_le shape.pages page) _ page (lt-leb shape.pages page below)

write-none : (shape : Shape) (offset count : ℕ) → IsUserWrite shape offset count → write_misfit shape offset count ≡ None
write-none shape offset count is =
    inside-none (nat_lt offset USER_START || nat_lt (user_end shape) (offset + count)) _ offset
    (or_from _ _ (le-ltb offset USER_START is.after_header) (le-ltb (user_end shape) (offset + count) is.before_trailer))

item-none : (shape : Shape) (item : Item) → RecordFits shape (record_of shape.space item) → item_misfit shape item ≡ None
item-none shape (Num width page offset value) fits =
    both-none (page_misfit shape page) (write_misfit shape offset width ∷ []) (page-none shape page fits.0.below)
    (both-none (write_misfit shape offset width) [] (write-none shape offset width fits.2) refl)
item-none shape (Text page offset bytes) fits =
    both-none (page_misfit shape page) (write_misfit shape offset (length bytes) ∷ []) (page-none shape page fits.0.below)
    (both-none (write_misfit shape offset (length bytes)) [] (write-none shape offset (length bytes) fits.1) refl)
item-none shape (Init page) fits = page-none shape page fits.below

items-none : (shape : Shape) (items : List Item) (behind : List (Option Misfit))
    → AllByRecursion (RecordFits shape) (map (record_of shape.space) items) → first_misfit_of behind ≡ None
    → first_misfit_of (map (item_misfit shape) items ++ behind) ≡ None
items-none shape [] behind fit none = none
items-none shape (item ∷ items) behind fit none =
    both-none (item_misfit shape item) (map (item_misfit shape) items ++ behind) (item-none shape item fit.0)
    (items-none shape items behind fit.1 none)

line-none : (shape : Shape) (line : ScriptLine) → LineFits shape line → line_misfit shape line ≡ None
unfolding line_misfit
line-none shape line fits =
    let group = group_length (group_of shape.space line) in
    let short = inside-none (nat_lt MAX_GROUP group) _ group (le-ltb MAX_GROUP group fits.short) in
    both-none (user_misfit line.user) (map (item_misfit shape) line.items ++ group_misfit shape line ∷ [])
    (user-none line.user fits.user_from fits.user_to)
    (items-none shape line.items (group_misfit shape line ∷ []) fits.fits (both-none (group_misfit shape line) [] short refl))

lines-none : (shape : Shape) (script : List ScriptLine) (behind : List (Option Misfit)) → AllByRecursion (LineFits shape) script
    → first_misfit_of behind ≡ None → first_misfit_of (map (line_misfit shape) script ++ behind) ≡ None
lines-none shape [] behind fit none = none
lines-none shape (line ∷ script) behind fit none =
    both-none (line_misfit shape line) (map (line_misfit shape) script ++ behind) (line-none shape line fit.0)
    (lines-none shape script behind fit.1 none)

room-none : (room_end : Option ℕ) (end : ℕ) → IfSome room_end (λ room_end. end + MARGIN ≤ room_end) → total_misfit room_end end ≡ None
room-none None end fits = refl
room-none (Some room_end) end fits = inside-none (nat_lt room_end (end + MARGIN)) _ end (le-ltb room_end (end + MARGIN) fits)

archive-none : (archive : Option ℕ) (need : ℕ) → IfSome archive (λ size. need ≤ size) → archive_misfit archive need ≡ None
archive-none None need fits = refl
archive-none (Some size) need fits = inside-none (nat_lt size need) _ need (le-ltb size need fits)

pub fitting-none : (shape : Shape) (start : ℕ) (room_end archive : Option ℕ) (script : List ScriptLine)
    → ScriptFits shape start room_end script → ArchiveFits shape start archive script
    → first_misfit shape start room_end archive script ≡ None
unfolding first_misfit
fitting-none shape start room_end archive script fits archived =
    let end = script_end shape start script in
    let need = archive_need shape start end in
    let below = inside-none (nat_le LSN_LIMIT end) _ end (lt-leb LSN_LIMIT end fits.end) in
    lines-none shape script (end_misfits shape start room_end archive script) fits.lines
    (both-none (lsn_misfit end) (total_misfit room_end end ∷ archive_misfit archive need ∷ []) below
    (both-none (total_misfit room_end end) (archive_misfit archive need ∷ []) (room-none room_end end fits.room)
    (both-none (archive_misfit archive need) [] (archive-none archive need archived) refl)))
