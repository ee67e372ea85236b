-- The groups that end at or below an lsn are the same among all groups and among those up to a mark at or above it.
use Rattle.std.proofs.Common.{◌≡◌, ◌≤◌, ◌<◌, ℕ, inr, Bool, true, false, cond, List, [], ◌∷◌, ◌++◌, refl, sym, ap, subst, ◌∙◌, ⊎_elim, arith}
use Rattle.std.specs.Prelude.{nat_le}
use Rattle.std.specs.List.{AllByRecursion}
use Rattle.std.proofs.lemmas.List.{append-nil}
use Rattle.std.proofs.lemmas.Bool.{cases_lt}
use Rattle.std.proofs.lemmas.Bool.Decides.{nat_tests}
use Rattle.model_base.specs.declared.shape.Shape.{Shape}
use Rattle.model_log.specs.declared.group.Whole.{Whole}
use Rattle.model_log.specs.{groups_of, IsBoundary, IsDataLsn, IsRunOf, last_span_end, Span, spans_of}
use Rattle.model_log.proofs.Runs.{boundary-back, boundary-start, First, first-of, run-back, run-first, spans_of-append}
use Rattle.model_parts.proofs.Splits.{all-behind, Cuts, end-reached, first-ends}
use Rattle.model_store.specs.{IsStorable}
use Rattle.model_archive.specs.Restore.{ending_by}

either-append : (t : Bool) (whole : Whole) (xs ys : List Whole)
    → cond t (whole ∷ (xs ++ ys)) (xs ++ ys) ≡ cond t (whole ∷ xs) xs ++ ys
either-append true whole xs ys = refl
either-append false whole xs ys = refl

pub ending-append : (lsn : ℕ) (front back : List Whole)
    → ending_by lsn (front ++ back) ≡ ending_by lsn front ++ ending_by lsn back
ending-append lsn [] back = refl
ending-append lsn (whole ∷ front) back =
    ap (λ (groups : List Whole). cond (nat_le whole.end lsn) (whole ∷ groups) groups) (ending-append lsn front back)
    ∙ either-append (nat_le whole.end lsn) whole (ending_by lsn front) (ending_by lsn back)

above : (lsn end : ℕ) → lsn < end → nat_le end lsn ≡ false
above lsn end less = grind (arith, nat_tests)

pub ending-none : (lsn mark : ℕ) (wholes : List Whole) → lsn ≤ mark
    → AllByRecursion (λ (whole : Whole). mark < whole.end) wholes → ending_by lsn wholes ≡ []
ending-none lsn mark [] low all = refl
ending-none lsn mark (whole ∷ wholes) low all =
    ap (λ t. cond t (whole ∷ ending_by lsn wholes) (ending_by lsn wholes)) (above lsn whole.end (omega (arith, all.0)))
    ∙ ending-none lsn mark wholes low all.1

-- the groups after a cut end above its mark
good-drop : (shape : Shape) (before after : List Whole) → AllByRecursion (IsStorable shape)
    (groups_of (before ++ after)) → AllByRecursion (IsStorable shape) (groups_of after)
good-drop shape [] after good = good
good-drop shape (whole ∷ before) after good = good-drop shape before after good.1

after-above : (shape : Shape) (t mark : ℕ) (after : List Whole) → IsDataLsn t → IsRunOf t after
    → AllByRecursion (IsStorable shape) (groups_of after)
    → ((n : ℕ) → IsBoundary t (spans_of after) n → n ≤ mark → n ≤ t)
    → AllByRecursion (λ (whole : Whole). mark < whole.end) after
after-above shape t mark [] place run good last = tt
after-above shape t mark (whole ∷ after) place run good last =
    let first : First t whole = first-of t whole after place run in
    let ends : t < whole.end = first-ends shape t whole place first good.0 in
    let over : mark < whole.end = ⊎_elim (λ h. h) (λ low.
    let back : whole.end ≤ t = last whole.end (inr (boundary-start whole.end (spans_of after))) low in
    absurd (omega arith)) (cases_lt mark whole.end) in
    (over, all-behind shape mark whole.end after first.place (run-first run).2 good.1 (omega arith))

pub cut-ending : (shape : Shape) (s : ℕ) (wholes : List Whole) (mark lsn : ℕ) → IsDataLsn s → IsRunOf s wholes
    → AllByRecursion (IsStorable shape) (groups_of wholes)
    → (cut : Cuts shape s wholes mark) → lsn ≤ mark → ending_by lsn cut.middle ≡ ending_by lsn wholes
cut-ending shape s wholes mark lsn place run good cut low =
    let t : ℕ = last_span_end s (spans_of cut.middle) in
    let both : IsRunOf s (cut.middle ++ cut.after) = subst (λ (ws : List Whole). IsRunOf s ws) cut.parts run in
    let goods : AllByRecursion (IsStorable shape) (groups_of (cut.middle ++ cut.after)) =
    subst (λ (ws : List Whole). AllByRecursion (IsStorable shape) (groups_of ws)) cut.parts good in
    let last : (n : ℕ) → IsBoundary t (spans_of cut.after) n → n ≤ mark → n ≤ t = λ n is within.
    cut.last n (subst (λ (ws : List Whole). IsBoundary s (spans_of ws) n) (sym cut.parts)
    (subst (λ (spans : List Span). IsBoundary s spans n) (sym (spans_of-append cut.middle cut.after))
    (boundary-back s (spans_of cut.middle) (spans_of cut.after) n is))) within in
    let all : AllByRecursion (λ (whole : Whole). mark < whole.end) cut.after =
    after-above shape t mark cut.after (end-reached s cut.middle place cut.run).place
    (run-back s cut.middle cut.after both) (good-drop shape cut.middle cut.after goods) last in
    sym (append-nil (ending_by lsn cut.middle))
    ∙ ap (λ (ws : List Whole). ending_by lsn cut.middle ++ ws) (sym (ending-none lsn mark cut.after low all))
    ∙ sym (ending-append lsn cut.middle cut.after)
    ∙ ap (ending_by lsn) (sym cut.parts)
