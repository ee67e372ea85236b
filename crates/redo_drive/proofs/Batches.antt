-- The pages of a batch, as a running store has them and as the device gets them.
use Rattle.std.proofs.Common.{Bool, List, Some, [], ap, cond, eqb, false, length, refl, subst, suc, sym, true, zero, ℕ, ◌∙◌, ◌∷◌, ◌≡◌, ◌≤◌}
use Rattle.std.specs.List.{slice_get}
use lib.ListN.{get_elem?}
use mathlib.Core.Option.{some}
use Rattle.model_core.specs.{BatchPage, KeptPage}
use Rattle.model_parts.specs.{after_batch, Fresh, IsLater}
use Rattle.model_running.specs.{contents_of, kept_content, new_content}
use Rattle.model_page.specs.{user_part}
use Rattle.model_page.specs.declared.content.Content.{Content}
use Rattle.model_pagecore.specs.{kept_in, renewed}
use Rattle.redo_drive.specs.DataPartSide.{fresh_batch, fresh_page}

-- which page of the batch the device gets there
pub fresh_at : (batch : List BatchPage) (i : ℕ) (new : Fresh) → slice_get (fresh_batch batch) i ≡ Some new → (x : BatchPage) × (get_elem? batch i ≡ some x) × ◌≡◌ {A = Fresh} (fresh_page x) new
fresh_at [] i new at = absurd cc
fresh_at (x ∷ xs) zero new at = (x, refl, (let same : fresh_page x ≡ new = cc in same))
fresh_at (x ∷ xs) (suc i) new at = fresh_at xs i new at

pub fresh_length : (batch : List BatchPage) → length (fresh_batch batch) ≡ length batch
fresh_length [] = refl
fresh_length (x ∷ xs) = ap suc (fresh_length xs)

-- of one lsn and the same bytes
same_content : (kept : KeptPage) (x : BatchPage) → kept.lsn ≡ x.lsn → kept.bytes ≡ x.bytes → kept_content kept ≡ new_content x
same_content kept x lsn bytes =
    ap (λ (n : ℕ). let z : Content = record { lsn = n; user = user_part kept.bytes } in z) lsn
    ∙ ap (λ (b : List ℕ). let z : Content = record { lsn = x.lsn; user = user_part b } in z) bytes

-- a batch in which no page goes back, and none has two contents for one lsn, is no older than what is kept
pub later : (kept_page : ℕ → KeptPage) (batch : List BatchPage)
    → ((i : ℕ) (x : BatchPage) → get_elem? batch i ≡ some x → ((kept_page x.page).lsn ≤ x.lsn) × ((kept_page x.page).lsn ≡ x.lsn → (kept_page x.page).bytes ≡ x.bytes))
    → IsLater (contents_of kept_page) (fresh_batch batch)
later kept_page batch newer = record {
  no_older = λ p new is.
      let r = fresh_at batch is.i (record { page = p; content = new }) is.at in
      let page : r.0.page ≡ p = ap (λ (z : Fresh). z.page) r.2 in
      let content : new_content r.0 ≡ new = ap (λ (z : Fresh). z.content) r.2 in
      subst (λ (q : ℕ). (kept_page q).lsn ≤ new.lsn) page (subst (λ (z : Content). (kept_page r.0.page).lsn ≤ z.lsn) content (newer is.i r.0 r.1).0);
  same = λ p new is lsn.
      let r = fresh_at batch is.i (record { page = p; content = new }) is.at in
      let page : r.0.page ≡ p = ap (λ (z : Fresh). z.page) r.2 in
      let content : new_content r.0 ≡ new = ap (λ (z : Fresh). z.content) r.2 in
      let here : (kept_page r.0.page).lsn ≡ r.0.lsn = ap (λ (q : ℕ). (kept_page q).lsn) page ∙ lsn ∙ sym (ap (λ (z : Content). z.lsn) content) in
      let bytes : (kept_page r.0.page).bytes ≡ r.0.bytes = (newer is.i r.0 r.1).1 here in
      subst (λ (q : ℕ). kept_content (kept_page q) ≡ new) page (same_content (kept_page r.0.page) r.0 here bytes ∙ content);
}

-- what is kept with the batch is what the device holds after it
after_kept : (batch : List BatchPage) (k : KeptPage) (was : ℕ → Content) (p : ℕ) → was p ≡ kept_content k → kept_content (kept_in batch p k) ≡ after_batch (fresh_batch batch) was p
after_kept [] k was p is = sym is
after_kept (x ∷ xs) k was p is = by (eqb x.page p) (after_kept xs k was p is)
  where
    by : (b : Bool) → kept_content (kept_in xs p k) ≡ after_batch (fresh_batch xs) was p
        → kept_content (cond b (record { lsn = x.lsn; bytes = x.bytes }) (kept_in xs p k)) ≡ cond b (new_content x) (after_batch (fresh_batch xs) was p)
    by true rest = refl
    by false rest = rest

pub renewed_is : (kept_page : ℕ → KeptPage) (batch : List BatchPage) → ◌≡◌ {A = ℕ → Content} (contents_of (renewed kept_page batch)) (after_batch (fresh_batch batch) (contents_of kept_page))
renewed_is kept_page batch i p = after_kept batch (kept_page p) (contents_of kept_page) p refl i
