-- One page of a fold, and the lsn that a page gets.
use Rattle.std.proofs.Common.{◌≡◌, ℕ, zero, suc, ◌+◌, ◌≤◌, ◌⊎◌, inl, inr, Bool, true, false, cond, List, [], ◌∷◌, length, Option, Some, None, arith, refl, sym, ap, subst, ◌∙◌, ⊎_elim}
use Rattle.std.specs.Prelude.{nat_le}
use Rattle.std.specs.List.{slice_get, AllByRecursion}
use Rattle.std.proofs.lemmas.Bool.Decides.{nat_tests}
use Rattle.model_base.specs.declared.shape.Shape.{Shape}
use Rattle.model_log.specs.declared.rec.Rec.{Rec}
use Rattle.model_log.specs.declared.group.Whole.{Whole}
use Rattle.model_log.specs.{group_length, IsRunOf, last_span_end, layout_of, lsn_of, sn_of, spans_of}
use Rattle.model_log.proofs.Runs.{run-first}
use Rattle.model_log.specs.declared.block.BlockView.{BlockView}
use Rattle.model_page.specs.declared.content.Content.{Content}
use Rattle.model_store.specs.Apply.{page_after, pages_after_from, applied, folded, touches, user_after}
use Rattle.model_store.specs.UpTo.{page_folded}
use Rattle.model_store.specs.Scan.{Reading, IsReading, IsReadPage, replayed, AreGroupsOf, groups_start, Source, taken}

pub length-pages_after_from : (p : ℕ) (recs : List Rec) (end : ℕ) (xs : List Content) → length (pages_after_from p recs end xs) ≡ length xs
length-pages_after_from p recs end [] = refl
length-pages_after_from p recs end (x ∷ xs) = ap suc (length-pages_after_from (p + 1) recs end xs)

-- page p of some pages of which the first has the number n
get-after : (n p : ℕ) (recs : List Rec) (end : ℕ) (pages : List Content) (page : Content) → slice_get pages p ≡ Some page
    → slice_get (pages_after_from n recs end pages) p ≡ Some (page_after (n + p) recs end page)
get-after n p recs end [] page at = absurd (cc)
get-after n zero recs end (first ∷ pages) page at =
    let same : first ≡ page = cc in
    ap (λ (c : Content). Some (page_after n recs end c)) same ∙ ap (λ k. Some (page_after k recs end page)) (omega arith)
get-after n (suc p) recs end (first ∷ pages) page at =
    get-after (n + 1) p recs end pages page at ∙ ap (λ k. Some (page_after k recs end page)) (omega arith)

pub length-applied : (recs : List Rec) (end : ℕ) (pages : List Content) → length (applied recs end pages) ≡ length pages
unfolding applied
length-applied recs end pages = length-pages_after_from 0 recs end pages

pub get-applied : (p : ℕ) (recs : List Rec) (end : ℕ) (pages : List Content) (page : Content) → slice_get pages p ≡ Some page
    → slice_get (applied recs end pages) p ≡ Some (page_after p recs end page)
unfolding applied
get-applied p recs end pages page at =
    get-after 0 p recs end pages page at ∙ ap (λ k. Some (page_after k recs end page)) (omega arith)

pub length-folded : (pages : List Content) (wholes : List Whole) → length (folded pages wholes) ≡ length pages
length-folded pages [] = refl
length-folded pages (whole ∷ wholes) =
    length-folded (applied whole.group whole.end pages) wholes ∙ length-applied whole.group whole.end pages

-- page p of a fold is that page with each of the groups applied
pub get-folded : (p : ℕ) (pages : List Content) (wholes : List Whole) (page : Content) → slice_get pages p ≡ Some page
    → slice_get (folded pages wholes) p ≡ Some (page_folded p wholes page)
get-folded p pages [] page at = at
get-folded p pages (whole ∷ wholes) page at =
    get-folded p (applied whole.group whole.end pages) wholes (page_after p whole.group whole.end page)
    (get-applied p whole.group whole.end pages page at)

after-lsn : (p : ℕ) (whole : Whole) (page : Content) (b : Bool) → touches p whole.group ≡ b
    → ((page_after p whole.group whole.end page).lsn ≡ whole.end) ⊎ ((page_after p whole.group whole.end page).lsn ≡ page.lsn)
after-lsn p whole page true found =
    inl (ap (λ b. (cond b (record { lsn = whole.end; user = user_after p whole.group page.user }) page).lsn) found)
after-lsn p whole page false none =
    inr (ap (λ b. (cond b (record { lsn = whole.end; user = user_after p whole.group page.user }) page).lsn) none)

-- a page that a group is applied to, or isn't, has the group's end as its lsn, or its own
pub step-lsn : (p : ℕ) (whole : Whole) (page : Content) (b : Bool)
    → ((cond b (page_after p whole.group whole.end page) page).lsn ≡ whole.end) ⊎ ((cond b (page_after p whole.group whole.end page) page).lsn ≡ page.lsn)
step-lsn p whole page true = after-lsn p whole page (touches p whole.group) refl
step-lsn p whole page false = inr refl

-- a group ends no earlier than it starts, wherever that is
lsn-later : (start len : ℕ) → start ≤ lsn_of (sn_of start + len)
lsn-later start len = grind (arith, nat_tests)

ends-after : (start : ℕ) (wholes : List Whole) → IsRunOf start wholes → start ≤ last_span_end start (spans_of wholes)
ends-after start [] tiled = omega arith
ends-after start (whole ∷ wholes) tiled =
    let rises : whole.start ≤ lsn_of (sn_of whole.start + group_length whole.group) = lsn-later whole.start (group_length whole.group) in
    let others : whole.end ≤ last_span_end whole.end (spans_of wholes) = ends-after whole.end wholes (run-first tiled).2 in
    omega (arith, (run-first tiled).0, (run-first tiled).1)

-- each of some groups ends at or below the end of the last of them
pub ends-below : (start : ℕ) (wholes : List Whole) → IsRunOf start wholes → AllByRecursion (λ (whole : Whole). whole.end ≤ last_span_end start (spans_of wholes)) wholes
ends-below start [] tiled = tt
ends-below start (whole ∷ wholes) tiled = (ends-after whole.end wholes (run-first tiled).2, ends-below whole.end wholes (run-first tiled).2)

-- replayed, a page has its own lsn or the end of a group
pub replayed-below : (p q end : ℕ) (wholes : List Whole) (page : Content) → AllByRecursion (λ (whole : Whole). whole.end ≤ end) wholes → page.lsn ≤ end
    → (replayed p q wholes page).lsn ≤ end
replayed-below p q end [] page below low = low
replayed-below p q end (whole ∷ wholes) page below low =
    let next : Content = cond (nat_le q whole.start) (page_after p whole.group whole.end page) page in
    let fine : next.lsn ≤ end = ⊎_elim (λ own. omega (arith, below.0)) (λ old. omega arith) (step-lsn p whole page (nat_le q whole.start)) in
    replayed-below p q end wholes next below.1 fine

groups-below : (shape : Shape) (source : Source) (ckpt : ℕ) (views : List BlockView) (start : Option ℕ) (wholes : List Whole) (end : ℕ)
    → AreGroupsOf shape source ckpt views start wholes end → AllByRecursion (λ (whole : Whole). whole.end ≤ end) wholes
groups-below shape source ckpt views None wholes end (none, at) =
    subst (AllByRecursion (λ (whole : Whole). whole.end ≤ end)) (sym none) tt
groups-below shape source ckpt views (Some start) wholes end (rest, groups, front, at) =
    subst (λ n. AllByRecursion (λ (whole : Whole). whole.end ≤ n) wholes) (sym at) (ends-below start wholes groups.run)

-- no page that is read is ahead of the log's end
pub read-not_ahead : (log data_bytes : List ℕ) (reading : Reading) → IsReading log data_bytes reading
    → (p : ℕ) (page : Content) → slice_get reading.pages p ≡ Some page → page.lsn ≤ reading.end
read-not_ahead log data_bytes reading reads p page at =
    let read : IsReadPage reading.shape data_bytes reading.wholes reading.end p page = reads.each p page at in
    let below = groups-below reading.shape (taken (layout_of reading.format reading.shape) log) reading.ckpt reading.views (groups_start reading.ckpt reading.views) reading.wholes reading.end reads.scan.scan.groups in
    let kept = replayed-below p read.kept.lsn reading.end reading.wholes read.kept below read.not_ahead in
    omega (arith, ap (λ (c : Content). c.lsn) read.replay)
