-- Lsns between the groups of a run, and the lsn of a page with some of them applied.
use Rattle.std.proofs.Common.{◌≡◌, ℕ, ◌<◌, ◌≤◌, ◌⊎◌, inl, inr, cond, List, [], ◌∷◌, ◌++◌, arith, refl, sym, ap, ◌∙◌, subst, ⊎_elim}
use Rattle.std.specs.Prelude.{nat_le}
use Rattle.std.specs.List.{AllByRecursion}
use Rattle.model_base.specs.declared.shape.Shape.{Shape}
use Rattle.model_log.specs.declared.group.Whole.{Whole}
use Rattle.model_log.specs.{groups_of, IsBoundary, IsDataLsn, IsRunOf, spans_of}
use Rattle.model_page.specs.declared.content.Content.{Content}
use Rattle.model_store.specs.{IsStorable, page_after, upto}
use Rattle.model_log.proofs.Runs.{First, first-of, run-first, boundary-reached, boundary-start}
use Rattle.model_parts.proofs.Splits.{first-ends, all-behind, all-from}
use Rattle.model_store.proofs.Folding.{step-lsn}
use Rattle.model_theorem.proofs.Pages.{IsBetween}

-- parts of a list of which something holds of each
pub all-parts : {X : Type 0} (P : X → Type 0) (xs ys : List X) → AllByRecursion P (xs ++ ys) → AllByRecursion P xs × AllByRecursion P ys
all-parts P [] ys all = (tt, all)
all-parts P (x ∷ xs) ys all = let others = all-parts P xs ys all.1 in ((all.0, others.0), others.1)

pub good-parts : (shape : Shape) (xs ys : List Whole) → AllByRecursion (IsStorable shape) (groups_of (xs ++ ys))
    → AllByRecursion (IsStorable shape) (groups_of xs) × AllByRecursion (IsStorable shape) (groups_of ys)
good-parts shape [] ys all = (tt, all)
good-parts shape (x ∷ xs) ys all = let others = good-parts shape xs ys all.1 in ((all.0, others.0), others.1)

pub all-above : (q mark : ℕ) (wholes : List Whole) → q ≤ mark → AllByRecursion (λ (whole : Whole). mark < whole.end) wholes
    → AllByRecursion (λ (whole : Whole). q < whole.end) wholes
all-above q mark [] low all = tt
all-above q mark (whole ∷ wholes) low all = (omega (arith, all.0), all-above q mark wholes low all.1)

-- the lsn doesn't lie within the group
abbrev pub IsOutside : ℕ → Whole → Type 0
IsOutside q whole = (whole.end ≤ q) ⊎ (q ≤ whole.start)

-- a boundary, or an lsn before the start, lies within none of the groups
pub outside-from : (shape : Shape) (s q : ℕ) (wholes : List Whole) → IsDataLsn s → IsRunOf s wholes → AllByRecursion (IsStorable shape) (groups_of wholes)
    → (q ≤ s) ⊎ IsBoundary s (spans_of wholes) q → AllByRecursion (IsOutside q) wholes
outside-from shape s q [] place tiled good at = tt
outside-from shape s q (whole ∷ wholes) place tiled good at =
    let first : First s whole = first-of s whole wholes place tiled in
    let before : q ≤ s → AllByRecursion (IsOutside q) (whole ∷ wholes) = λ low. (
      inr (omega (arith, first.start)),
      outside-from shape whole.end q wholes first.place (run-first tiled).2 good.1 (inl (omega (arith, first.rises))),
    ) in
    ⊎_elim before (λ boundary. ⊎_elim (λ same. before (omega arith)) (λ later. (
      inl (boundary-reached whole.end wholes q first.place (run-first tiled).2 later).behind,
      outside-from shape whole.end q wholes first.place (run-first tiled).2 good.1 (inr later),
    )) boundary) at

pub between-from : (shape : Shape) (s q : ℕ) (wholes : List Whole) → IsDataLsn s → IsRunOf s wholes → AllByRecursion (IsStorable shape) (groups_of wholes)
    → AllByRecursion (IsOutside q) wholes → IsBetween q wholes
between-from shape s q [] place tiled good outside = record { before = []; behind = []; parts = refl; done = tt; starts = tt; ends = tt }
between-from shape s q (whole ∷ wholes) place tiled good outside =
    let first : First s whole = first-of s whole wholes place tiled in
    let rises : s < whole.end = first-ends shape s whole place first good.0 in
    let start : whole.start ≡ s = first.start in
    ⊎_elim (λ done.
    let others : IsBetween q wholes = between-from shape whole.end q wholes first.place (run-first tiled).2 good.1 outside.1 in
    record {
      before = whole ∷ others.before;
      behind = others.behind;
      parts = ap (λ (ws : List Whole). whole ∷ ws) others.parts;
      done = ((omega arith, done), others.done);
      starts = others.starts;
      ends = others.ends;
    })
    (λ later. record {
      before = [];
      behind = whole ∷ wholes;
      parts = refl;
      done = tt;
      starts = all-from q s (whole ∷ wholes) place tiled (omega arith);
      ends = all-behind shape q s (whole ∷ wholes) place tiled good (omega arith);
    }) outside.0

-- the lsn of a page with some of the groups applied is its old one, or a boundary
pub upto-lsn : (p q s : ℕ) (wholes : List Whole) (page : Content)
    → ((upto p q wholes page).lsn ≡ page.lsn) ⊎ IsBoundary s (spans_of wholes) (upto p q wholes page).lsn
upto-lsn p q s [] page = inl refl
upto-lsn p q s (whole ∷ wholes) page =
    let next : Content = cond (nat_le whole.end q) (page_after p whole.group whole.end page) page in
    ⊎_elim (λ same. ⊎_elim
    (λ end. inr (inr (subst (IsBoundary whole.end (spans_of wholes)) (sym (same ∙ end)) (boundary-start whole.end (spans_of wholes)))))
    (λ old. inl (same ∙ old)) (step-lsn p whole page (nat_le whole.end q)))
    (λ boundary. inr (inr boundary)) (upto-lsn p q whole.end wholes next)
