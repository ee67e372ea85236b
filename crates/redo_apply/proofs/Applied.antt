-- The frames after a record.
use Rattle.std.proofs.Common.{◌≡◌, ◌≤◌, ◌<◌, ◌+◌, ◌*◌, ℕ, List, [], ◌∷◌, ◌++◌, length, take, drop, set, get_or, sym, ap, ap₂, ◌∙◌, arith}
use Rattle.std.specs.Prelude.{Some, slice_get}
use borrow.Rule.Slice.PartMut.{put_mid}
use Rattle.model_log.specs.declared.rec.Rec.{Rec}
use Rattle.model_log.specs.{page_of}
use Rattle.model_page.specs.declared.content.Content.{Content}
use Rattle.model_store.specs.{applied, user_after_own}
use Rattle.redo_apply.specs.Frames.{contents}
use Rattle.redo_apply.proofs.Frames.{length-contents, slice_get-contents, contents-put, frame-within, length-put_mid, written-all}
use Rattle.redo_apply.proofs.Records.{applied-one}

-- one of the pages
pub page-at : (size p d : ℕ) (lsns users : List ℕ) (pages : List Content) → contents size lsns users ≡ pages → p < length pages
    → slice_get pages p ≡ Some (record { lsn = get_or lsns p d; user = take size (drop (p * size) users) })
page-at size p d lsns users pages are below =
    let inside : p < length lsns = omega (arith, ap length are, length-contents size lsns users) in
    ap (λ xs. slice_get xs p) (sym are) ∙ slice_get-contents size lsns users p d inside

-- the frame and the lsn of a page are written
pub frame-written : (size p count end long : ℕ) (lsns users lent new : List ℕ) (pages : List Content) → contents size lsns users ≡ pages
    → p < length pages → length users ≡ size * length lsns → long ≡ length users → lent ≡ users → count ≡ size → length new ≡ size
    → contents size (set lsns p end) (take long (put_mid (p * size) count lent new ++ drop (length (put_mid (p * size) count lent new)) users))
    ≡ set pages p (record { lsn = end; user = new })
frame-written size p count end long lsns users lent new pages are below whole all same full sized =
    let inside : p < length lsns = omega (arith, ap length are, length-contents size lsns users) in
    let within : p * size + size ≤ length users = frame-within size p (length lsns) (length users) inside whole in
    let kept : length (put_mid (p * size) size users new) ≡ length users = length-put_mid (p * size) size users new within sized in
    ap₂ (λ k text. contents size (set lsns p end) (take long (put_mid (p * size) k text new ++ drop (length (put_mid (p * size) k text new)) users))) full same
    ∙ ap (contents size (set lsns p end)) (written-all long users (put_mid (p * size) size users new) all kept)
    ∙ contents-put size p end lsns users new inside whole sized
    ∙ ap (λ xs. set xs p (let x : Content = record { lsn = end; user = new } in x)) are

-- a record's page is written
pub record-applied : (size p count end : ℕ) (lsns users lent new : List ℕ) (pages : List Content) (rec : Rec) → contents size lsns users ≡ pages
    → p ≡ page_of rec → page_of rec < length pages → lent ≡ users → count ≡ size → new ≡ user_after_own rec (take count (drop (p * size) lent))
    → set pages p (record { lsn = end; user = new }) ≡ applied (rec ∷ []) end pages
record-applied size p count end lsns users lent new pages rec are on below same full written =
    let page : Content = record { lsn = get_or lsns p 0; user = take size (drop (p * size) users) } in
    let at : slice_get pages (page_of rec) ≡ Some page = ap (slice_get pages) (sym on) ∙ page-at size p 0 lsns users pages are (omega arith) in
    let own : new ≡ user_after_own rec page.user = written ∙ ap₂ (λ k text. user_after_own rec (take k (drop (p * size) text))) full same in
    ap (λ text. set pages p (let x : Content = record { lsn = end; user = text } in x)) own
    ∙ ap (λ n. set pages n (let x : Content = record { lsn = end; user = user_after_own rec page.user } in x)) on
    ∙ sym (applied-one rec end pages page at)
