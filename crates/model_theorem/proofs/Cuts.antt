-- The pages that are read of a run that a scan cuts.
use Rattle.std.proofs.Common.{◌≡◌, ℕ, ◌<◌, ◌≤◌, ◌⊎◌, inl, inr, true, List, [], ◌∷◌, ◌++◌, Some, arith, sym, ap, ◌∙◌, subst, ⊎_elim, append_assoc}
use Rattle.std.specs.List.{AllByRecursion}
use Rattle.model_base.specs.declared.shape.Shape.{Shape}
use Rattle.model_log.specs.declared.group.Whole.{Whole}
use Rattle.model_log.specs.{groups_of, IsBoundary, IsDataLsn, IsRunOf, last_span_end, spans_of}
use Rattle.model_page.specs.declared.content.Content.{Content}
use Rattle.model_store.specs.{IsNoNewerCopy, IsReadPage, IsStorable, page_folded, replayed, touches, upto}
use Rattle.model_page.specs.{copy_lsn}
use Rattle.model_theorem.proofs.Later.{copy-old, copy-older}
use Rattle.model_log.proofs.Runs.{run-front, run-back}
use Rattle.model_parts.proofs.Splits.{end-reached}
use Rattle.model_theorem.specs.Kept.{HasPassed, IsKeptPrefix, KeepsPrefix}
use Rattle.model_theorem.proofs.Pages.{IsBetween, folded-append, upto-append, upto-none, upto-passed, upto-replayed}
use Rattle.model_theorem.proofs.Between.{IsOutside, all-above, all-parts, good-parts, outside-from, between-from, upto-lsn}

-- A run cut by a scan: what starts before the checkpoint, what is read, what ends past the mark.
pub record IsCut (shape : Shape) (s : ℕ) (before middle after : List Whole) (ckpt mark : ℕ) : Type 0 where
  pub place : IsDataLsn s
  pub run : IsRunOf s (before ++ (middle ++ after))
  pub good : AllByRecursion (IsStorable shape) (groups_of (before ++ (middle ++ after)))
  pub starts : AllByRecursion (λ (whole : Whole). whole.start < ckpt) before
  pub other_ends : AllByRecursion (λ (whole : Whole). mark < whole.end) after

-- the page that is read of a cut run
pub read-page : (shape : Shape) (s : ℕ) (before middle after : List Whole) (ckpt mark p q : ℕ) (page : Content)
    → IsCut shape s before middle after ckpt mark → q ≤ mark → (q ≤ s) ⊎ IsBoundary s (spans_of (before ++ (middle ++ after))) q
    → HasPassed p (before ++ (middle ++ after)) ckpt q
    → replayed p q middle (upto p q (before ++ (middle ++ after)) page) ≡ page_folded p (before ++ middle) page
read-page shape s before middle after ckpt mark p q page cut low at passed =
    let outside : AllByRecursion (IsOutside q) (before ++ (middle ++ after)) = outside-from shape s q (before ++ (middle ++ after)) cut.place cut.run cut.good at in
    let outside_middle : AllByRecursion (IsOutside q) middle =
    (all-parts (IsOutside q) middle after (all-parts (IsOutside q) before (middle ++ after) outside).1).0 in
    let run_before : IsRunOf s before = run-front s before (middle ++ after) cut.run in
    let run_middle : IsRunOf (last_span_end s (spans_of before)) middle =
    run-front (last_span_end s (spans_of before)) middle after (run-back s before (middle ++ after) cut.run) in
    let good_middle : AllByRecursion (IsStorable shape) (groups_of middle) =
    (good-parts shape middle after (good-parts shape before (middle ++ after) cut.good).1).0 in
    let place : IsDataLsn (last_span_end s (spans_of before)) = (end-reached s before cut.place run_before).place in
    let between : IsBetween q middle = between-from shape (last_span_end s (spans_of before)) q middle place run_middle good_middle outside_middle in
    let first : Content = page_folded p before page in
    let passed_before : HasPassed p before ckpt q =
    (all-parts (λ (whole : Whole). touches p whole.group ≡ true → whole.start < ckpt → whole.end ≤ q) before (middle ++ after) passed).0 in
    let kept : upto p q (before ++ (middle ++ after)) page ≡ upto p q middle first =
    upto-append p q before (middle ++ after) page
    ∙ ap (upto p q (middle ++ after)) (upto-passed p q ckpt before page cut.starts passed_before)
    ∙ upto-append p q middle after first
    ∙ upto-none p q after (upto p q middle first) (all-above q mark after low cut.other_ends) in
    ap (replayed p q middle) kept ∙ upto-replayed p q middle first between ∙ sym (folded-append p before middle page)

-- where the lsn of a kept page may stand
prefix-lsn : (page content : Content) (wholes : List Whole) (stable ckpt p s : ℕ) → page.lsn ≤ s → IsKeptPrefix page wholes stable ckpt p content
    → (content.lsn ≤ s) ⊎ IsBoundary s (spans_of wholes) content.lsn
prefix-lsn page content wholes stable ckpt p s old kept =
    let same : content.lsn ≡ (upto p content.lsn wholes page).lsn = ap (λ (c : Content). c.lsn) kept.is_prefix.prefix in
    ⊎_elim (λ first. inl (omega arith))
    (λ boundary. inr (subst (IsBoundary s (spans_of wholes)) (sym same) boundary)) (upto-lsn p content.lsn s wholes page)

same-passed : (p q low high : ℕ) (wholes : List Whole) → low ≤ high → HasPassed p wholes high q → HasPassed p wholes low q
same-passed p q low high [] below passed = tt
same-passed p q low high (whole ∷ wholes) below passed =
    (λ found starts. passed.0 found (omega arith), same-passed p q low high wholes below passed.1)

-- the page of a cut run that a fair image keeps, and that is replayed
pub kept-page : (shape : Shape) (s : ℕ) (wholes before middle after : List Whole) (stable most ckpt mark p : ℕ) (store : List ℕ) (page : Content)
    → wholes ≡ before ++ (middle ++ after) → IsCut shape s before middle after ckpt mark → stable ≤ mark → ckpt ≤ most → page.lsn ≤ s
    → KeepsPrefix shape store page wholes stable most p → IsReadPage shape store middle mark p (page_folded p (before ++ middle) page)
kept-page shape s wholes before middle after stable most ckpt mark p store page parts cut low below old keeps =
    let content : Content = keeps.content in
    let kept : IsKeptPrefix page wholes stable most p content = keeps.is_prefix in
    let q : ℕ = content.lsn in
    let up : q ≤ mark = omega (arith, kept.is_prefix.behind) in
    let at : (q ≤ s) ⊎ IsBoundary s (spans_of (before ++ (middle ++ after))) q =
    subst (λ (ws : List Whole). (q ≤ s) ⊎ IsBoundary s (spans_of ws) q) parts (prefix-lsn page content wholes stable most p s old kept) in
    let passed : HasPassed p (before ++ (middle ++ after)) ckpt q =
    same-passed p q ckpt most (before ++ (middle ++ after)) below (subst (λ (ws : List Whole). HasPassed p ws most q) parts kept.passed) in
    let is : content ≡ upto p q (before ++ (middle ++ after)) page = kept.is_prefix.prefix ∙ ap (λ (ws : List Whole). upto p q ws page) parts in
    record {
      kept = content;
      is_kept = keeps.kept;
      not_ahead = up;
      replay = sym (ap (replayed p q middle) is ∙ read-page shape s before middle after ckpt mark p q page cut up at passed);
    }

-- the copies in a fair image are no newer than the pages that are read
pub copies-old : (shape : Shape) (s : ℕ) (wholes before middle after : List Whole) (stable most ckpt mark p slot lsn : ℕ) (store : List ℕ) (page : Content)
    → wholes ≡ before ++ (middle ++ after) → IsCut shape s before middle after ckpt mark → stable ≤ mark → page.lsn ≤ s
    → KeepsPrefix shape store page wholes stable most p → slot < shape.slots → copy_lsn shape store p slot ≡ Some lsn
    → IsNoNewerCopy shape store slot lsn (page_folded p (before ++ middle) page)
copies-old shape s wholes before middle after stable most ckpt mark p slot lsn store page parts cut low old keeps below copy =
    let front : List Whole = before ++ middle in
    let whole_parts : wholes ≡ front ++ after = parts ∙ sym (append_assoc before middle after) in
    let run : IsRunOf s front = run-front s front after (subst (IsRunOf s) (sym (append_assoc before middle after)) cut.run) in
    ⊎_elim (λ older. copy-older shape s wholes front after stable mark p slot lsn store page keeps.content whole_parts cut.place run cut.other_ends low old
    keeps.is_prefix.is_prefix.prefix keeps.is_prefix.is_prefix.behind older)
    (λ prefix. copy-old shape s wholes front after stable mark p slot lsn store page whole_parts cut.place run cut.other_ends low old prefix)
    (keeps.copies slot lsn below copy)
