-- The data part meets the laws by which the running store speaks of it.
use Rattle.std.proofs.Common.{Err, List, None, Ok, Result, Some, [], ap, arith, cond, inl, inr, is_some, refl, subst, sym, true, ℕ, ◌==◌, ◌∙◌, ◌≡◌}
use Rattle.std.specs.Prelude.{OnOk}
use Rattle.model_base.specs.declared.shape.Shape.{Shape}
use Rattle.model_core.specs.{DataSide, Setup, BatchPage, IsDataCode, KeptPage}
use Rattle.model_parts.specs.{after_batch, Fresh, IsLater, IsUpTo, Keeps}
use Rattle.model_parts.specs.Stored.{Stored}
use Rattle.model_running.specs.{contents_of}
use Rattle.model_page.specs.declared.content.Content.{Content}
use Rattle.model_pagecore.specs.{AfterBatch, CanBatch, renewed}
use Rattle.model_pagecore.specs.DataLaws.{DataLaws}
use Rattle.redo_drive.proofs.Batches.{later, renewed_is}
use Rattle.redo_drive.proofs.Devices.{code_is_small, failed_by, no_cause}
use Rattle.redo_drive.proofs.Outcome.{not_failed}
use Rattle.redo_drive.specs.DataPartSide.{DataWrote, HoldsPages, data_side, fresh_batch}
use Rattle.redo_drive.specs.Asking.{call_code, code_of}
use Rattle.redo_drive.specs.declared.device.Device.TheVariants.{Data}
use Rattle.redo_disk.proofs.Told.{known-as}
use Rattle.redo_disk.specs.{error_of, Seen}
use Rattle.redo_disk.specs.declared.error.DevError.{DevError}
use Rattle.redo_disk.specs.declared.error.DevError.TheVariants.{Failed, NoMemory}
use Rattle.redo_store.specs.{PartKeeps, PartStep, PartStores}
use Rattle.redo_store.specs.Part.{Part}

fault_is : (fault : DevError) → IsDataCode (code_of Data fault)
fault_is Failed = inl refl
fault_is NoMemory = inr refl

-- a part that has failed stores what its device keeps
stores_failed : {D : Type 0} (seen : D → Seen) (top was : ℕ → Content) (batch : List Fresh) (part : Part D) (fault : DevError) → part.failed ≡ Some fault → PartKeeps seen top was batch part → PartStores seen top was batch part
stores_failed seen top was batch part fault failed keeps =
    let broken : is_some part.failed ≡ true = ap is_some failed in
    known-as (seen part.dev).tells (Keeps part.shape (IsUpTo top) was batch) (Stored part.shape (IsUpTo top) was batch (is_some part.failed))
    (λ disk kept. record { keeps = kept; steady = λ live. absurd (cc) }) keeps

module _ {D : Type 0} (seen : D → Seen) (faults : ℕ) (shape : Shape) (Begun : Type 0) where
  abbrev side : DataSide
  side = data_side seen faults shape Begun

  abbrev Holds : (ℕ → KeptPage) → List BatchPage → Part D → Type 0
  Holds = HoldsPages seen faults shape Begun

  codes : (d : Part D) (code : ℕ) → side.Cause d code → IsDataCode code
  codes d code cause = subst IsDataCode (sym cause.code_is) (fault_is cause.fault)

  broken : (d : Part D) (code : ℕ) → side.Cause d code → is_some d.failed ≡ true
  broken d code cause = ap is_some cause.failed

  abbrev HeldBy : (ℕ → KeptPage) → List BatchPage → Part D → ℕ → Type 0
  HeldBy kept_page batch e k = Holds (cond (k == 0) (renewed kept_page batch) kept_page) (cond (k == 0) [] batch) e

  batches : (c : Setup) (kept_page : ℕ → KeptPage) (batch : List BatchPage) (code : ℕ) (d e : Part D) → Holds kept_page [] d → CanBatch side c kept_page batch d → DataWrote seen batch code d e → AfterBatch side kept_page batch code d e
  batches c kept_page batch code d e H C W = by W.result (W.code_is ∙ ap (call_code Data) W.step.failed) W.step (λ begun. W.ok was was (H.pages begun) up_to)
    where
      was : ℕ → Content
      was = contents_of kept_page

      live : d.failed ≡ None
      live = not_failed d.failed C.sound

      up_to : IsLater was (fresh_batch batch)
      up_to = later kept_page batch C.newer

      unfinished : (fault : DevError) → code ≡ code_of Data fault → PartStep {T = Unit {0}} seen d (Err fault) e → HeldBy kept_page batch e (code_of Data fault)
      unfinished fault code_is step = by_fault fault (record {
        shape_is = step.shape ∙ H.shape_is;
        later = (let z = step.cause.later in let y = H.later in omega arith);
        pages = λ begun. stores_failed seen was was (fresh_batch batch) e fault step.failed (W.keeps was was (H.pages begun) up_to);
      })
        where
          by_fault : (fault : DevError) → Holds kept_page batch e → HeldBy kept_page batch e (code_of Data fault)
          by_fault Failed held = held
          by_fault NoMemory held = held

      by : (result : Result (Unit {0}) DevError) → code ≡ call_code Data (error_of result) → PartStep seen d result e
          → (Begun → OnOk result (PartStores seen (after_batch (fresh_batch batch) was) (after_batch (fresh_batch batch) was) [] e)) → AfterBatch side kept_page batch code d e
      by (Ok done) code_is step stores = record {
        holds = subst (HeldBy kept_page batch e) (sym code_is) (record {
          shape_is = step.shape ∙ H.shape_is;
          later = (let z = step.cause.later in let y = H.later in omega arith);
          pages = λ begun. subst (λ (f : ℕ → Content). PartStores seen f f [] e) (sym (renewed_is kept_page batch)) (stores begun);
        });
        sound = λ good. ap is_some step.failed;
        broken = λ some. absurd (omega arith);
        causes = λ x cause. absurd (no_cause seen Data faults d.dev d.failed x live cause);
        cause = λ some. absurd (omega arith);
      }
      by (Err fault) code_is step stores = let some = (code_is_small Data fault).0 in record {
        holds = subst (HeldBy kept_page batch e) (sym code_is) (unfinished fault code_is step);
        sound = λ good. absurd (omega arith);
        broken = λ _. ap is_some step.failed;
        causes = λ x cause. absurd (no_cause seen Data faults d.dev d.failed x live cause);
        cause = λ _. failed_by seen Data faults d.dev e.dev e.failed code fault step.failed code_is H.later step.cause;
      }

  pub data_laws : DataLaws side
  data_laws = record { codes = codes; broken = broken; batches = batches }
