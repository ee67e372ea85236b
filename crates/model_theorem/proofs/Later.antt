-- What the data device holds of a run it holds of a longer one, and which contents of a page are prefixes of a run.
use Rattle.std.proofs.Common.{◌≡◌, ℕ, ◌<◌, ◌≤◌, ◌⊎◌, inl, inr, Bool, true, false, cond, List, [], ◌∷◌, ◌++◌, arith, refl, sym, ap, ◌∙◌, ⊎_elim}
use Rattle.std.specs.Prelude.{nat_le}
use Rattle.std.specs.List.{AllByRecursion}
use Rattle.model_base.specs.declared.shape.Shape.{Shape}
use Rattle.model_log.specs.declared.group.Whole.{Whole}
use Rattle.model_log.specs.{groups_of, IsDataLsn, IsRunOf, last_span_end, spans_of}
use Rattle.model_device.specs.{Disk}
use Rattle.model_page.specs.declared.content.Content.{Content}
use Rattle.model_store.specs.{IsNoNewerCopy, IsStorable, page_after, page_folded, touches, upto, user_after}
use Rattle.model_log.proofs.Runs.{First, first-of, run-first, run-front, run-back}
use Rattle.model_parts.proofs.Splits.{all-behind, all-from, end-reached}
use Rattle.model_theorem.specs.Kept.{HasPassed, IsKeptPrefix, IsPrefixOf, KeepsPrefix, DataHolds, copy_of}
use Rattle.model_theorem.proofs.Pages.{upto-append, upto-none, taken, page_after-other}
use Rattle.model_theorem.proofs.Between.{good-parts, all-above}

-- a later page has passed what an earlier one has
pub passed-on : (p x q r : ℕ) (wholes : List Whole) → q ≤ r → HasPassed p wholes x q → HasPassed p wholes x r
passed-on p x q r [] later passed = tt
passed-on p x q r (whole ∷ wholes) later passed =
    (λ found below. (let end : whole.end ≤ q = passed.0 found below in omega arith), passed-on p x q r wholes later passed.1)

passed-more : (p x q : ℕ) (wholes more : List Whole) → AllByRecursion (λ (whole : Whole). x ≤ whole.start) more → HasPassed p wholes x q → HasPassed p (wholes ++ more) x q
passed-more p x q [] [] starts passed = tt
passed-more p x q [] (whole ∷ more) starts passed = (λ found below. absurd (omega (arith, starts.0)), passed-more p x q [] more starts.1 tt)
passed-more p x q (whole ∷ wholes) more starts passed = (passed.0, passed-more p x q wholes more starts passed.1)

-- groups after the run change no prefix of it
prefix_of-more : (shape : Shape) (page : Content) (s : ℕ) (wholes more : List Whole) (stable p : ℕ) (content : Content) → IsDataLsn s → IsRunOf s (wholes ++ more)
    → AllByRecursion (IsStorable shape) (groups_of (wholes ++ more)) → stable ≤ last_span_end s (spans_of wholes)
    → IsPrefixOf page wholes stable p content → IsPrefixOf page (wholes ++ more) stable p content
prefix_of-more shape page s wholes more stable p content place run good stable_low kept =
    let end : IsDataLsn (last_span_end s (spans_of wholes)) = (end-reached s wholes place (run-front s wholes more run)).place in
    let good_more : AllByRecursion (IsStorable shape) (groups_of more) = (good-parts shape wholes more good).1 in
    let above : AllByRecursion (λ (whole : Whole). content.lsn < whole.end) more =
    all-behind shape content.lsn (last_span_end s (spans_of wholes)) more end (run-back s wholes more run) good_more (omega (arith, kept.behind)) in
    record {
      prefix = kept.prefix ∙ sym (upto-append p content.lsn wholes more page ∙ upto-none p content.lsn more (upto p content.lsn wholes page) above);
      behind = kept.behind;
    }

pub prefix-more : (shape : Shape) (page : Content) (s : ℕ) (wholes more : List Whole) (stable ckpt p : ℕ) (content : Content) → IsDataLsn s → IsRunOf s (wholes ++ more)
    → AllByRecursion (IsStorable shape) (groups_of (wholes ++ more)) → stable ≤ last_span_end s (spans_of wholes) → ckpt ≤ last_span_end s (spans_of wholes)
    → IsKeptPrefix page wholes stable ckpt p content → IsKeptPrefix page (wholes ++ more) stable ckpt p content
prefix-more shape page s wholes more stable ckpt p content place run good stable_low ckpt_low kept =
    let end : IsDataLsn (last_span_end s (spans_of wholes)) = (end-reached s wholes place (run-front s wholes more run)).place in
    record {
      is_prefix = prefix_of-more shape page s wholes more stable p content place run good stable_low kept.is_prefix;
      passed = passed-more p ckpt content.lsn wholes more (all-from ckpt (last_span_end s (spans_of wholes)) more end (run-back s wholes more run) ckpt_low) kept.passed;
    }

pub data-more : (shape : Shape) (opened : List Content) (s : ℕ) (wholes more : List Whole) (stable ckpt : ℕ) (disk : Disk) → IsDataLsn s → IsRunOf s (wholes ++ more)
    → AllByRecursion (IsStorable shape) (groups_of (wholes ++ more)) → stable ≤ last_span_end s (spans_of wholes) → ckpt ≤ last_span_end s (spans_of wholes)
    → DataHolds shape opened wholes stable ckpt disk → DataHolds shape opened (wholes ++ more) stable ckpt disk
data-more shape opened s wholes more stable ckpt disk place tiled good stable_low ckpt_low holds = record {
  long = holds.long;
  keeps = λ image fair p page at.
      let old : KeepsPrefix shape image page wholes stable ckpt p = holds.keeps image fair p page at in
      record {
        content = old.content;
        kept = old.kept;
        is_prefix = prefix-more shape page s wholes more stable ckpt p old.content place tiled good stable_low ckpt_low old.is_prefix;
        copies = λ slot lsn below copy. ⊎_elim (λ older. inl older)
            (λ prefix. inr (prefix_of-more shape page s wholes more stable p (copy_of shape image slot lsn) place tiled good stable_low prefix))
            (old.copies slot lsn below copy);
      };
}

-- with all groups applied a page is a prefix of its own lsn

after-is : (p : ℕ) (whole : Whole) (page : Content) (b : Bool) → touches p whole.group ≡ b
    → (((page_after p whole.group whole.end page).lsn ≡ whole.end) ⊎ (page_after p whole.group whole.end page ≡ page))
after-is p whole page true found =
    inl (ap (λ b. (cond b (record { lsn = whole.end; user = user_after p whole.group page.user }) page).lsn) found)
after-is p whole page false none = inr (page_after-other p whole.group whole.end page none)

-- the lsn of a page only grows
lsn-grows : (p s : ℕ) (wholes : List Whole) (page : Content) → IsDataLsn s → IsRunOf s wholes → page.lsn ≤ s → page.lsn ≤ (page_folded p wholes page).lsn
lsn-grows p s [] page place tiled low = omega arith
lsn-grows p s (whole ∷ wholes) page place tiled low =
    let first : First s whole = first-of s whole wholes place tiled in
    let next : Content = page_after p whole.group whole.end page in
    ⊎_elim (λ end. let others = lsn-grows p whole.end wholes next first.place (run-first tiled).2 (omega arith) in omega (arith, first.rises))
    (λ same. let lsn : next.lsn ≡ page.lsn = ap (λ (c : Content). c.lsn) same in
    let others = lsn-grows p whole.end wholes next first.place (run-first tiled).2 (omega (arith, first.rises)) in omega arith)
    (after-is p whole page (touches p whole.group) refl)

either-way : {X : Type 0} (b : Bool) (x y : X) → x ≡ y → cond b x y ≡ x
either-way true x y same = refl
either-way false x y same = sym same

pub folded-prefix : (p s : ℕ) (wholes : List Whole) (page : Content) → IsDataLsn s → IsRunOf s wholes → page.lsn ≤ s
    → page_folded p wholes page ≡ upto p (page_folded p wholes page).lsn wholes page
folded-prefix p s [] page place tiled low = refl
folded-prefix p s (whole ∷ wholes) page place tiled low =
    let first : First s whole = first-of s whole wholes place tiled in
    let next : Content = page_after p whole.group whole.end page in
    let q : ℕ = (page_folded p wholes next).lsn in
    ⊎_elim (λ end.
    let up : next.lsn ≤ q = lsn-grows p whole.end wholes next first.place (run-first tiled).2 (omega arith) in
    folded-prefix p whole.end wholes next first.place (run-first tiled).2 (omega arith)
    ∙ ap (upto p q wholes) (sym (taken whole.end q next page (omega arith))))
    (λ same.
    let lsn : next.lsn ≡ page.lsn = ap (λ (c : Content). c.lsn) same in
    folded-prefix p whole.end wholes next first.place (run-first tiled).2 (omega (arith, first.rises))
    ∙ ap (upto p q wholes) (sym (either-way (nat_le whole.end q) next page same)))
    (after-is p whole page (touches p whole.group) refl)

-- the lsn of a prefix is at most that of the page with all groups applied
own-lsn : (p : ℕ) (whole : Whole) (page : Content) → touches p whole.group ≡ true → (page_after p whole.group whole.end page).lsn ≡ whole.end
own-lsn p whole page found = ap (λ b. (cond b (record { lsn = whole.end; user = user_after p whole.group page.user }) page).lsn) found

other-lsn : (p : ℕ) (whole : Whole) (page : Content) → touches p whole.group ≡ false → (page_after p whole.group whole.end page).lsn ≡ page.lsn
other-lsn p whole page none = ap (λ (c : Content). c.lsn) (page_after-other p whole.group whole.end page none)

step-below : (p : ℕ) (whole : Whole) (x y : Content) (b t : Bool) → touches p whole.group ≡ t → y.lsn ≤ whole.end → x.lsn ≤ y.lsn
    → ((cond b (page_after p whole.group whole.end x) x).lsn ≤ (page_after p whole.group whole.end y).lsn)
    × ((page_after p whole.group whole.end y).lsn ≤ whole.end)
step-below p whole x y true true found low less = (omega (arith, own-lsn p whole x found, own-lsn p whole y found), omega (arith, own-lsn p whole y found))
step-below p whole x y false true found low less = (omega (arith, own-lsn p whole y found), omega (arith, own-lsn p whole y found))
step-below p whole x y true false none low less = (omega (arith, other-lsn p whole x none, other-lsn p whole y none), omega (arith, other-lsn p whole y none))
step-below p whole x y false false none low less = (omega (arith, other-lsn p whole y none), omega (arith, other-lsn p whole y none))

upto-below : (p q s : ℕ) (wholes : List Whole) (x y : Content) → IsDataLsn s → IsRunOf s wholes → x.lsn ≤ y.lsn → y.lsn ≤ s
    → (upto p q wholes x).lsn ≤ (page_folded p wholes y).lsn
upto-below p q s [] x y place tiled less low = less
upto-below p q s (whole ∷ wholes) x y place tiled less low =
    let first : First s whole = first-of s whole wholes place tiled in
    let b : Bool = nat_le whole.end q in
    let next : Content = page_after p whole.group whole.end y in
    let moved = step-below p whole x y b (touches p whole.group) refl (omega (arith, first.rises)) less in
    upto-below p q whole.end wholes (cond b (page_after p whole.group whole.end x) x) next first.place (run-first tiled).2 moved.0 moved.1

-- a prefix of a run cut at a mark, which its lsn doesn't pass, is one of the run's front
front-prefix : (p q mark : ℕ) (front after : List Whole) (page : Content) → q ≤ mark → AllByRecursion (λ (whole : Whole). mark < whole.end) after
    → upto p q (front ++ after) page ≡ upto p q front page
front-prefix p q mark front after page low above =
    upto-append p q front after page ∙ upto-none p q after (upto p q front page) (all-above q mark after low above)

-- no copy is ahead of the page that is read
pub copy-old : (shape : Shape) (s : ℕ) (wholes front after : List Whole) (stable mark p slot lsn : ℕ) (store : List ℕ) (page : Content)
    → wholes ≡ front ++ after → IsDataLsn s → IsRunOf s front → AllByRecursion (λ (whole : Whole). mark < whole.end) after → stable ≤ mark → page.lsn ≤ s
    → IsPrefixOf page wholes stable p (copy_of shape store slot lsn) → IsNoNewerCopy shape store slot lsn (page_folded p front page)
copy-old shape s wholes front after stable mark p slot lsn store page parts place tiled above low old copy =
    let content : Content = copy_of shape store slot lsn in
    let behind : lsn ≤ stable = copy.behind in
    let is : content ≡ upto p lsn front page =
    copy.prefix ∙ ap (λ (ws : List Whole). upto p lsn ws page) parts ∙ front-prefix p lsn mark front after page (omega arith) above in
    let grows : (upto p lsn front page).lsn ≤ (page_folded p front page).lsn = upto-below p lsn s front page page place tiled (omega arith) old in
    record {
      no_newer = omega (arith, ap (λ (c : Content). c.lsn) is);
      same = λ same. ap (λ (c : Content). c.user) is ∙ ap (λ q. (upto p q front page).user) same
          ∙ sym (ap (λ (c : Content). c.user) (folded-prefix p s front page place tiled old));
    }

-- and a copy that is older than a kept page is older than that
pub copy-older : (shape : Shape) (s : ℕ) (wholes front after : List Whole) (stable mark p slot lsn : ℕ) (store : List ℕ) (page content : Content)
    → wholes ≡ front ++ after → IsDataLsn s → IsRunOf s front → AllByRecursion (λ (whole : Whole). mark < whole.end) after → stable ≤ mark → page.lsn ≤ s
    → content ≡ upto p content.lsn wholes page → content.lsn ≤ stable → lsn < content.lsn → IsNoNewerCopy shape store slot lsn (page_folded p front page)
copy-older shape s wholes front after stable mark p slot lsn store page content parts place tiled above low old prefix behind less =
    let is : content ≡ upto p content.lsn front page =
    prefix ∙ ap (λ (ws : List Whole). upto p content.lsn ws page) parts ∙ front-prefix p content.lsn mark front after page (omega arith) above in
    let grows : (upto p content.lsn front page).lsn ≤ (page_folded p front page).lsn = upto-below p content.lsn s front page page place tiled (omega arith) old in
    let up : content.lsn ≤ (page_folded p front page).lsn = omega (arith, ap (λ (c : Content). c.lsn) is) in
    record { no_newer = omega arith; same = λ same. absurd (omega arith) }
