-- Where the cleaner writes a batch, the part's condition holds.
use Rattle.std.proofs.Common.{List, None, Some, ap, arith, length, subst, sym, ℕ, ◌∙◌, ◌≡◌}
use Rattle.std.specs.List.{slice_get}
use lib.ListN.{get_elem?}
use mathlib.Core.Option.{some}
use native.Mathlib.Decide.{dec_le, ℕ_discrete}
use Rattle.model_base.specs.{IsWithinLimits}
use Rattle.model_base.specs.declared.shape.Shape.{Shape}
use Rattle.model_core.specs.{BatchPage, KeptPage, Setup}
use Rattle.model_parts.proofs.Joined.{batch-at, length-batch_of}
use Rattle.model_parts.specs.{Fresh, IsWritable}
use Rattle.model_pagecore.specs.{CanBatch}
use Rattle.redo_drive.proofs.Batches.{fresh_at, fresh_length}
use Rattle.redo_drive.proofs.Outcome.{not_failed}
use Rattle.redo_drive.specs.DataPartSide.{HoldsPages, IsBatchOf, data_side}
use Rattle.redo_disk.specs.{Seen}
use Rattle.redo_store.specs.Part.{Part}

-- the page of the batch that a pair is of
pub record IsPageOf (batch : List BatchPage) (i : ℕ) (pair : ℕ × ℕ) : Type 0 where
  pub x : BatchPage
  pub at : get_elem? batch i ≡ some x
  pub page : x.page ≡ pair.0
  pub lsn : x.lsn ≡ pair.1

page_of : (shape : Shape) (pairs : List (ℕ × ℕ)) (users : List ℕ) (batch : List BatchPage) → IsBatchOf shape pairs users batch → (i : ℕ) (pair : ℕ × ℕ) → slice_get pairs i ≡ Some pair → IsPageOf batch i pair
page_of shape pairs users batch is i pair at =
    let new = batch-at shape pairs users i pair at in
    let r = fresh_at batch i _ (ap (λ (z : List Fresh). slice_get z i) is.pages ∙ new) in
    record { x = r.0; at = r.1; page = ap (λ (z : Fresh). z.page) r.2; lsn = ap (λ (z : Fresh). z.content.lsn) r.2 }

module _ {D : Type 0} (seen : D → Seen) (faults : ℕ) (shape : Shape) (Begun : Type 0) where
  pub may_write_batch : (c : Setup) (kept_page : ℕ → KeptPage) (unfinished batch : List BatchPage) (pairs : List (ℕ × ℕ)) (users : List ℕ) (d : Part D) → IsWithinLimits shape → shape.pages ≡ c.pages → shape.slots ≡ c.slots
      → HoldsPages seen faults shape Begun kept_page unfinished d → CanBatch (data_side seen faults shape Begun) c kept_page batch d → IsBatchOf shape pairs users batch
      → (d.failed ≡ None) × IsWritable d.shape pairs users
  may_write_batch c kept_page unfinished batch pairs users d limits its_pages its_slots H C is = (
    not_failed d.failed C.sound,
    subst (λ (s : Shape). IsWritable s pairs users) (sym H.shape_is) (record {
      few = (let a = C.few in let b : length pairs ≡ length batch = sym (length-batch_of shape pairs users) ∙ sym (ap length is.pages) ∙ fresh_length batch in omega arith);
      count = is.count;
      below = λ i pair at. let p = page_of shape pairs users batch is i pair at in let t = (C.each i p.x p.at).there in let e = p.page in omega arith;
      small_lsn = λ i pair at. let p = page_of shape pairs users batch is i pair at in let t = (C.each i p.x p.at).small in let e = p.lsn in omega arith;
      different = λ i j pair other at at_other same.
          let p = page_of shape pairs users batch is i pair at in
          let o = page_of shape pairs users batch is j other at_other in
          let equal : p.x.page ≡ o.x.page = p.page ∙ same ∙ sym o.page in
          elim (ℕ_discrete i j) [
            | yes e ↦ e
            | no n ↦ elim (dec_le i j) [
              | yes l ↦ absurd (C.apart i j p.x o.x p.at o.at (omega arith) equal)
              | no l ↦ absurd (C.apart j i o.x p.x o.at p.at (omega arith) (sym equal))
            ]
          ];
    }),
  )
