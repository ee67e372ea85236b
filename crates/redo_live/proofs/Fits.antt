-- A line that is no misfit is a script that fits, and so fits the store.
use Rattle.std.proofs.Common.{Bool, List, None, Option, Some, [], ap, arith, false, length, length-append, map, refl}
use Rattle.std.proofs.Common.{true, ℕ}
use Rattle.std.proofs.Common.{◌++◌, ◌<◌, ◌∙◌, ◌∷◌, ◌≡◌, ◌≤◌}
use Rattle.std.proofs.lemmas.Bool.Decides.{nat_tests}
use Rattle.std.specs.Prelude.{nat_le, nat_lt}
use Rattle.model_base.specs.declared.limits.TheConstants.{LSN_LIMIT, MAX_GROUP}
use Rattle.model_base.specs.declared.shape.Shape.{Shape}
use Rattle.model_log.specs.{group_length}
use Rattle.model_log.specs.Group.{stream_of}
use Rattle.model_log.specs.declared.rec.Rec.{Rec}
use Rattle.model_script.proofs.Fitting.{none-misfit_if}
use Rattle.model_script.specs.{first_misfit_of, group_misfit, group_of, item_misfit, lsn_misfit, misfit_if}
use Rattle.model_script.specs.{script_end, user_misfit}
use Rattle.model_script.specs.Fit.{first_misfit, line_misfit}
use Rattle.model_script.specs.declared.misfit.Misfit.{Misfit}
use Rattle.model_script.specs.declared.misfit.Quantity.{Quantity}
use Rattle.model_script.specs.declared.misfit.Quantity.TheVariants.{Lsn}
use Rattle.model_script.specs.declared.script.ScriptLine.{ScriptLine}

-- the last of what is judged is no misfit either
last_none : (ms : List (Option Misfit)) (m : Option Misfit) → first_misfit_of (ms ++ m ∷ []) ≡ None → m ≡ None
last_none [] None none = refl
last_none [] (Some x) none = absurd (cc)
last_none (None ∷ ms) m none = last_none ms m none
last_none (Some x ∷ ms) m none = absurd (cc)

at_most : (a b : ℕ) → nat_lt a b ≡ false → b ≤ a
at_most a b e = grind (arith, nat_tests)

above : (a b : ℕ) → b < a → nat_le a b ≡ false
above a b e = grind (arith, nat_tests)

no_misfit : (outside : Bool) (what : Quantity) (n : ℕ) → outside ≡ false → misfit_if outside what n ≡ None
no_misfit true what n e = absurd (cc)
no_misfit false what n e = refl

short : (shape : Shape) (line : ScriptLine) → line_misfit shape line ≡ None
    → group_length (group_of shape.space line) ≤ MAX_GROUP
unfolding line_misfit
short shape line none =
    let all = user_misfit line.user ∷ map (item_misfit shape) line.items in
    at_most MAX_GROUP (group_length (group_of shape.space line))
    (none-misfit_if _ _ _ (last_none all (group_misfit shape line) none))

-- the text of one group
one_stream : (group : List Rec) → length (stream_of (group ∷ [])) ≡ group_length group
unfolding stream_of
one_stream group = grind (arith, length-append)

-- it ends below the limit of the lsns
ends_low : (shape : Shape) (line : ScriptLine) → group_length (group_of shape.space line) ≤ MAX_GROUP
    → script_end shape 0 (line ∷ []) < LSN_LIMIT
ends_low shape line few =
    let n = one_stream (group_of shape.space line) in
    let low : length (stream_of (group_of shape.space line ∷ [])) ≤ MAX_GROUP = omega arith in
    omega arith

pub one_fits : (shape : Shape) (line : ScriptLine) → line_misfit shape line ≡ None
    → first_misfit shape 0 None None (line ∷ []) ≡ None
unfolding first_misfit
one_fits shape line none =
    let end = script_end shape 0 (line ∷ []) in
    let lsn : lsn_misfit end ≡ None =
    no_misfit (nat_le LSN_LIMIT end) Lsn end (above LSN_LIMIT end (ends_low shape line (short shape line none))) in
    ap (λ (m : Option Misfit). first_misfit_of (m ∷ lsn_misfit end ∷ None ∷ None ∷ [])) none
    ∙ ap (λ (m : Option Misfit). first_misfit_of (m ∷ None ∷ None ∷ [])) lsn
