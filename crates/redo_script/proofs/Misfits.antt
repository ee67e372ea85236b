-- What of some things, judged one after another, is the first that doesn't fit.
use Rattle.std.proofs.Common.{◌≡◌, ℕ, zero, suc, ◌<◌, ◌+◌, List, [], ◌∷◌, ◌++◌, map, take, length, slice_index_or, Option, Some, None, refl, sym, ap, ◌∙◌, subst, arith}
use Rattle.std.proofs.lemmas.List.{length-append}
use Rattle.model_log.specs.{group_length, group_text, stream_of}
use Rattle.model_script.proofs.Fitting.{end_misfits, none-head}
use Rattle.model_base.specs.declared.shape.Shape.{Shape}
use Rattle.model_script.specs.{first_misfit, first_misfit_of, group_misfit, group_of, item_misfit, line_misfit, user_misfit}
use Rattle.model_script.specs.declared.script.ScriptLine.{ScriptLine}
use Rattle.model_script.specs.declared.misfit.Misfit.{Misfit}
use Rattle.redo_script.specs.Judged.{AreUnfitLines, IsUnfitLine, IsUnfitScript}
use Rattle.redo_script.specs.declared.unfit.Unfit.{Unfit}
use Rattle.redo_script.specs.declared.unfit.Unfit.TheVariants as unfit

pub behind-none : (first : Option Misfit) (others : List (Option Misfit)) → first ≡ None → first_misfit_of (first ∷ others) ≡ first_misfit_of others
behind-none None others none = refl
behind-none (Some misfit) others none = absurd (cc)

pub first-some : (first : Option Misfit) (misfit : Misfit) (others : List (Option Misfit)) → first ≡ Some misfit → first_misfit_of (first ∷ others) ≡ Some misfit
first-some None misfit others some = absurd (cc)
first-some (Some one) misfit others some = some

-- what fits up to here, and doesn't here
pub first-here : {A : Type 0} (f : A → Option Misfit) (xs : List A) (i : ℕ) (x : A) (misfit : Misfit) → first_misfit_of (map f (take i xs)) ≡ None
    → i < length xs → x ≡ slice_index_or xs i x → f x ≡ Some misfit → first_misfit_of (map f xs) ≡ Some misfit
first-here f [] i x misfit none below is some = absurd (omega arith)
first-here f (y ∷ ys) zero x misfit none below is some = first-some (f y) misfit (map f ys) (ap f (sym is) ∙ some)
first-here f (y ∷ ys) (suc i) x misfit none below is some =
    let parts = none-head (f y) (map f (take i ys)) none in
    behind-none (f y) (map f ys) parts.0 ∙ first-here f ys i x misfit parts.1 (omega (arith, below)) is some

-- what fits up to here, and here too
none-next : {A : Type 0} (f : A → Option Misfit) (xs : List A) (i : ℕ) (x : A) → first_misfit_of (map f (take i xs)) ≡ None
    → i < length xs → x ≡ slice_index_or xs i x → f x ≡ None → first_misfit_of (map f (take (suc i) xs)) ≡ None
none-next f [] i x none below is fits = absurd (omega arith)
none-next f (y ∷ ys) zero x none below is fits = behind-none (f y) [] (ap f (sym is) ∙ fits)
none-next f (y ∷ ys) (suc i) x none below is fits =
    let parts = none-head (f y) (map f (take i ys)) none in
    behind-none (f y) (map f (take (suc i) ys)) parts.0 ∙ none-next f ys i x parts.1 (omega (arith, below)) is fits

pub none-more : {A : Type 0} (f : A → Option Misfit) (xs : List A) (i : ℕ) (x : A) → first_misfit_of (map f (take i xs)) ≡ None
    → i < length xs → x ≡ slice_index_or xs i x → f x ≡ None → first_misfit_of (map f (take (i + 1) xs)) ≡ None
none-more f xs i x none below is fits =
    let next : suc i ≡ i + 1 = omega arith in
    subst (λ n. first_misfit_of (map f (take n xs)) ≡ None) next (none-next f xs i x none below is fits)

-- what is judged after others
pub some-append : (firsts others : List (Option Misfit)) (misfit : Misfit) → first_misfit_of firsts ≡ Some misfit → first_misfit_of (firsts ++ others) ≡ Some misfit
some-append [] others misfit some = absurd (cc)
some-append (None ∷ firsts) others misfit some = some-append firsts others misfit some
some-append (Some one ∷ firsts) others misfit some = some

pub none-append : (firsts others : List (Option Misfit)) → first_misfit_of firsts ≡ None → first_misfit_of (firsts ++ others) ≡ first_misfit_of others
none-append [] others none = refl
none-append (None ∷ firsts) others none = none-append firsts others none
none-append (Some one ∷ firsts) others none = absurd (cc)

-- one thing alone
pub only-misfit : (one : Option Misfit) → first_misfit_of (one ∷ []) ≡ one
only-misfit None = refl
only-misfit (Some misfit) = refl

-- A LINE: its user, then its operations, then its group.
pub line-items : (shape : Shape) (line : ScriptLine) (misfit : Misfit) → user_misfit line.user ≡ None
    → first_misfit_of (map (item_misfit shape) line.items) ≡ Some misfit → line_misfit shape line ≡ Some misfit
unfolding line_misfit
line-items shape line misfit user some =
    behind-none (user_misfit line.user) (map (item_misfit shape) line.items ++ group_misfit shape line ∷ []) user
    ∙ some-append (map (item_misfit shape) line.items) (group_misfit shape line ∷ []) misfit some

pub line-group : (shape : Shape) (line : ScriptLine) → user_misfit line.user ≡ None
    → first_misfit_of (map (item_misfit shape) line.items) ≡ None → line_misfit shape line ≡ group_misfit shape line
unfolding line_misfit
line-group shape line user items =
    behind-none (user_misfit line.user) (map (item_misfit shape) line.items ++ group_misfit shape line ∷ []) user
    ∙ none-append (map (item_misfit shape) line.items) (group_misfit shape line ∷ []) items ∙ only-misfit (group_misfit shape line)

-- A SCRIPT: its lines, then its end.
pub script-lines : (shape : Shape) (start : ℕ) (room_end archive : Option ℕ) (script : List ScriptLine) (misfit : Misfit)
    → first_misfit_of (map (line_misfit shape) script) ≡ Some misfit
    → first_misfit shape start room_end archive script ≡ Some misfit
unfolding first_misfit
script-lines shape start room_end archive script misfit some = some-append (map (line_misfit shape) script) _ misfit some

pub script-end : (shape : Shape) (start : ℕ) (room_end archive : Option ℕ) (script : List ScriptLine)
    → first_misfit_of (map (line_misfit shape) script) ≡ None
    → first_misfit shape start room_end archive script ≡ first_misfit_of (end_misfits shape start room_end archive script)
unfolding first_misfit
script-end shape start room_end archive script none = none-append (map (line_misfit shape) script) _ none

-- the texts of the groups, one more line on
length-next : (space : ℕ) (lines : List ScriptLine) (i : ℕ) (line : ScriptLine) → i < length lines → line ≡ slice_index_or lines i line
    → length (stream_of (map (group_of space) (take (suc i) lines))) ≡ length (stream_of (map (group_of space) (take i lines))) + group_length (group_of space line)
unfolding stream_of
length-next space [] i line below is = absurd (omega arith)
length-next space (first ∷ lines) zero line below is =
    let same : group_length (group_of space first) ≡ group_length (group_of space line) = ap (λ (one : ScriptLine). group_length (group_of space one)) (sym is) in
    omega (arith, same, length-append (group_text (group_of space first)) [])
length-next space (first ∷ lines) (suc i) line below is =
    omega (
      arith,
      length-next space lines i line (omega (arith, below)) is,
      length-append (group_text (group_of space first)) (stream_of (map (group_of space) (take (suc i) lines))),
      length-append (group_text (group_of space first)) (stream_of (map (group_of space) (take i lines))),
    )

pub length-more : (space : ℕ) (lines : List ScriptLine) (i : ℕ) (line : ScriptLine) → i < length lines → line ≡ slice_index_or lines i line
    → length (stream_of (map (group_of space) (take (i + 1) lines))) ≡ length (stream_of (map (group_of space) (take i lines))) + group_length (group_of space line)
length-more space lines i line below is =
    let next : suc i ≡ i + 1 = omega arith in
    subst (λ n. length (stream_of (map (group_of space) (take n lines))) ≡ length (stream_of (map (group_of space) (take i lines))) + group_length (group_of space line))
    next (length-next space lines i line below is)

pub length-none : (space : ℕ) → 0 ≡ length (stream_of (map (group_of space) []))
unfolding stream_of
length-none space = refl

-- lines that fit up to here, where one doesn't, or there was no memory to judge it
pub unfit-here : (shape : Shape) (lines : List ScriptLine) (i : ℕ) (line : ScriptLine) (unfit : Unfit)
    → first_misfit_of (map (line_misfit shape) (take i lines)) ≡ None → i < length lines → line ≡ slice_index_or lines i line
    → IsUnfitLine shape line unfit → AreUnfitLines shape lines unfit
unfit-here shape lines i line (unfit.Misfit misfit) none below is some = first-here (line_misfit shape) lines i line misfit none below is some
unfit-here shape lines i line unfit.NoMemory none below is some = tt

-- a script whose lines don't fit
pub unfit-lines : (shape : Shape) (start : ℕ) (room_end archive : Option ℕ) (script : List ScriptLine) (unfit : Unfit)
    → AreUnfitLines shape script unfit → IsUnfitScript shape start room_end archive script unfit
unfit-lines shape start room_end archive script (unfit.Misfit misfit) some =
    script-lines shape start room_end archive script misfit some
unfit-lines shape start room_end archive script unfit.NoMemory some = tt
