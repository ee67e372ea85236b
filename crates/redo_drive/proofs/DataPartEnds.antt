-- What the data part's device holds of a run, at any moment and so at its end.
use Rattle.std.proofs.Common.{Bool, List, None, Option, Some, [], ap, arith, cond, eq-eqb, inl, inr, ne_eqb, refl, subst, suc, sym, zero, ⊎_elim, ℕ, ◌<◌, ◌∙◌, ◌∷◌, ◌≡◌, ◌≢◌, ◌⊎◌}
use Rattle.std.specs.List.{slice_get}
use Rattle.std.specs.Prelude.{IfSome, is_some}
use lib.ListN.{get_elem?}
use mathlib.Core.Option.{some}
use Rattle.model_base.specs.declared.shape.Shape.{Shape}
use Rattle.model_core.specs.{BatchPage, KeptPage, Setup}
use Rattle.model_parts.specs.{Fresh, IsKnown, IsOldOrNew, IsUpTo, Keeps, KeepsPage}
use Rattle.model_parts.specs.Stored.{Stored}
use Rattle.model_device.specs.{Disk}
use Rattle.model_running.specs.{ArePrefixes, content_in, contents_of, DataTells, HasItsPages, new_content}
use Rattle.model_page.specs.declared.content.Content.{Content}
use Rattle.model_pagecore.specs.{AreApart}
use Rattle.model_log.specs.declared.group.Whole.{Whole}
use Rattle.model_theorem.proofs.Stored.{stored-holds}
use Rattle.model_theorem.specs.{copy_of, DataHolds, IsEither, IsStored, Opened}
use Rattle.redo_drive.specs.DataPartSide.{HoldsPages, data_side, fresh_batch, fresh_page}
use Rattle.redo_disk.specs.{Seen}
use Rattle.redo_store.specs.Part.{Part}

-- the page that the device gets at that place
new_page : (batch : List BatchPage) (i p : ℕ) (content : Content) → slice_get (fresh_batch batch) i ≡ Some (record { page = p; content = content }) → (y : BatchPage) × (get_elem? batch i ≡ some y) × (y.page ≡ p)
new_page [] i p content at = absurd cc
new_page (x ∷ xs) zero p content at = (x, refl, (let same : ◌≡◌ {A = Fresh} (fresh_page x) (record { page = p; content = content }) = cc in ap (λ (z : Fresh). z.page) same))
new_page (x ∷ xs) (suc i) p content at = new_page xs i p content at

-- what the device gets for a page is what the batch has for it
new_in : (batch : List BatchPage) (i p : ℕ) (content : Content) → slice_get (fresh_batch batch) i ≡ Some (record { page = p; content = content }) → AreApart batch → content_in batch p ≡ Some content
new_in [] i p content at apart = absurd cc
new_in (x ∷ xs) zero p content at apart =
    let same : ◌≡◌ {A = Fresh} (fresh_page x) (record { page = p; content = content }) = cc in
    ap (λ (b : Bool). cond b (Some (new_content x)) (content_in xs p)) (eq-eqb x.page p (ap (λ (z : Fresh). z.page) same)) ∙ ap (λ (z : Fresh). Some z.content) same
new_in (x ∷ xs) (suc i) p content at apart =
    let y = new_page xs i p content at in
    let other : x.page ≢ p = λ e. apart zero (suc i) x y.0 refl y.1 (omega arith) (e ∙ sym y.2) in
    ap (λ (b : Bool). cond b (Some (new_content x)) (content_in xs p)) (ne_eqb x.page p other) ∙ new_in xs i p content at (λ a b v w at_v at_w less. apart (suc a) (suc b) v w at_v at_w (omega arith))

either_old : (was content : Content) (new : Option Content) → content ≡ was → IsEither was new content
either_old was content None same = same
either_old was content (Some new) same = inl same

either_new : (was content : Content) (new : Option Content) → new ≡ Some content → IsEither was new content
either_new was content None same = absurd (cc)
either_new was content (Some new) same = inr (let equal : new ≡ content = cc in sym equal)

module _ (shape : Shape) (was : ℕ → Content) (batch : List BatchPage) (apart : AreApart batch) where
  either : (p : ℕ) (content : Content) → IsOldOrNew was (fresh_batch batch) p content → IsEither (was p) (content_in batch p) content
  either p content which = ⊎_elim (λ old. either_old (was p) content (content_in batch p) old) (λ new. either_new (was p) content (content_in batch p) (new_in batch new.i p content new.at apart)) which

  known : (p : ℕ) (content : Content) → IsKnown (IsUpTo was) (fresh_batch batch) p content → (content.lsn < (was p).lsn) ⊎ IsEither (was p) (content_in batch p) content
  known p content is = ⊎_elim (λ up_to. ⊎_elim (λ older. inl older) (λ same. inr (either p content (inl same))) up_to) (λ new. inr (either p content (inr new))) is

  -- what a device keeps, as a run says it
  pub kept_is_stored : (pages : List Content) (wholes : List Whole) (stable ckpt : ℕ) (disk : Disk) → ((p : ℕ) (page : Content) → slice_get pages p ≡ Some page → p < shape.pages)
      → ArePrefixes pages wholes stable ckpt was (content_in batch) → Keeps shape (IsUpTo was) was (fresh_batch batch) disk → IsStored shape pages wholes stable ckpt was (content_in batch) disk
  kept_is_stored pages wholes stable ckpt disk there prefixes keeps = record {
    long = keeps.long;
    each = λ p page at. record {
      last = prefixes.last p page at;
      next = prefixes.next p page at;
      kept = λ image fair. let held : KeepsPage shape was (fresh_batch batch) image p = (keeps.each image fair).pages p (there p page at) in (held.content, held.kept, either p held.content held.which);
      copies = λ image slot lsn fair below copy. known p (copy_of shape image slot lsn) ((keeps.each image fair).known p slot lsn (there p page at) below copy);
    };
  }

module _ {D : Type 0} (seen : D → Seen) (faults : ℕ) (shape : Shape) (Begun : Type 0) where
  -- what the part holds, on a device that tells
  pub held_is_stored : (kept_page : ℕ → KeptPage) (unfinished : List BatchPage) (part : Part D) (pages : List Content) (wholes : List Whole) (stable ckpt : ℕ) (disk : Disk) → HoldsPages seen faults shape Begun kept_page unfinished part → Begun
      → AreApart unfinished → ((p : ℕ) (page : Content) → slice_get pages p ≡ Some page → p < shape.pages) → ArePrefixes pages wholes stable ckpt (contents_of kept_page) (content_in unfinished) → (seen part.dev).tells ≡ Some disk
      → IsStored shape pages wholes stable ckpt (contents_of kept_page) (content_in unfinished) disk
  held_is_stored kept_page unfinished part pages wholes stable ckpt disk holds begun apart there prefixes tells =
      let was : ℕ → Content = contents_of kept_page in
      let here : Stored part.shape (IsUpTo was) was (fresh_batch unfinished) (is_some part.failed) disk =
      subst (λ (o : Option Disk). IfSome o (Stored part.shape (IsUpTo was) was (fresh_batch unfinished) (is_some part.failed))) tells (holds.pages begun) in
      kept_is_stored shape was unfinished apart pages wholes stable ckpt disk there prefixes (subst (λ (s : Shape). Keeps s (IsUpTo was) was (fresh_batch unfinished) disk) holds.shape_is here.keeps)

  -- so the device holds the pages that the part does, if it was as it should be when the run began
  pub data_tells : (c : Setup) (opened : Opened) (part : Part D) (disk : Disk) → HasItsPages c opened → ◌≡◌ {A = Shape} opened.shape shape → Begun → (seen part.dev).tells ≡ Some disk → DataTells (data_side seen faults shape Begun) opened part disk
  data_tells c opened part disk pages same begun tells =
      let there : (p : ℕ) (page : Content) → slice_get opened.pages p ≡ Some page → p < shape.pages =
      (λ p page at. let t = (pages.each p page at).there in let n : c.pages ≡ shape.pages = pages.count ∙ ap (λ (z : Shape). z.pages) same in omega arith) in
      record {
        holds = λ kept_page unfinished wholes stable ckpt held apart prefixes.
            subst (λ (z : Shape). DataHolds z opened.pages wholes stable ckpt disk) (sym same)
            (stored-holds shape opened.pages wholes stable ckpt (contents_of kept_page) (content_in unfinished) disk
            (held_is_stored kept_page unfinished part opened.pages wholes stable ckpt disk held begun apart there prefixes tells));
      }
