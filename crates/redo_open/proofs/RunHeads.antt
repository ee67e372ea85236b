-- The headers of a run are put, step by step.
use Rattle.std.proofs.Common.{◌≡◌, ◌<◌, ℕ, inl, inr, List, length, ap, subst, ◌∙◌, arith}
use Rattle.std.specs.Prelude.{Result, Ok, Err}
use Rattle.model_base.specs.{run_shape}
use Rattle.model_base.specs.declared.shape.Shape.{Shape}
use Rattle.model_device.specs.{IsWithin, sector, Disk}
use Rattle.model_log.specs.{head_text, run_format}
use Rattle.model_log.specs.declared.layout.TheConstants.{HEADER_BYTES}
use Rattle.model_parts.specs.{IsHeaded, IsHeading, IsPut, IsPutting, run_head}
use Rattle.redo_disk.specs.{Seen}
use Rattle.redo_disk.specs.declared.error.DevError.{DevError}
use Rattle.redo_disk.proofs.Told.{told-as}
use Rattle.redo_open.specs.Enlarge.{HasRunHeads, HeadStep, PutsRunHeads}
use Rattle.redo_open.specs.Put.{block_write, HasPut, IsAtRestTo, PutsBlock, PutStep}
use Rattle.redo_open.proofs.Lengths.{length-head}
use Rattle.redo_open.proofs.Migrates.{Come, come-put, come-puts, come-stays, HasCome}
use Rattle.redo_open.proofs.Rests.{base-image}
use Rattle.redo_open.proofs.Told.{cause-since}

-- the header, by the shape that the code has
pub run-put : (shape run : Shape) (k : ℕ) (old : Seen) (result : Result (Unit {0}) DevError) (new : Seen)
    → run ≡ run_shape shape
    → PutStep k (head_text (run_format run) run) old result new → PutStep k (run_head shape) old result new
run-put shape run k old result new is = subst (λ (s : Shape). PutStep k (head_text (run_format s) s) old result new) is

-- it lies in the header blocks
pub run-within : (run : Shape) (k : ℕ) → k < 4 → IsWithin HEADER_BYTES (block_write k (head_text (run_format run) run))
run-within run k low =
    let long : length (head_text (run_format run) run) ≡ 512 = length-head (run_format run) run in omega
    (arith, long, low)

-- IN THE SECOND BLOCK.

abbrev pub IsSecondHead : Shape → List ℕ → List ℕ → Type 0
IsSecondHead shape content now = IsPut 2 (run_head shape) content now

pub second-come : (shape : Shape) (old : Seen) (done : Unit {0}) (new : Seen)
    → PutStep 2 (run_head shape) old (Ok done) new → Come (IsSecondHead shape) 1536 old new
second-come shape old done new step = record {
  told = told-as old.tells new.tells (λ before after. IsAtRestTo 1536 before
      → HasPut 2 (run_head shape) before.reads after)
      (λ before after. IsAtRestTo 1536 before → HasCome (IsSecondHead shape) before.reads after)
      (λ a b has rests. (
      let put = has rests in
      record { nothing_pending = put.nothing_pending; same_length = put.put.same_length; is = put.put })) step.ok;
  size = step.size;
  later = step.cause.later;
}

pub second-fails : (shape : Shape) (old : Seen) (error : DevError) (new : Seen)
    → PutStep 2 (run_head shape) old (Err error) new → HeadStep shape old (Err error) new
second-fails shape old error new step = record {
  keeps = told-as old.tells new.tells (λ before after. IsAtRestTo 1536 before
      → PutsBlock 2 (run_head shape) before.reads after)
      (λ before after. IsAtRestTo 1536 before → PutsRunHeads shape before.reads after)
      (λ a b puts rests image fair. inl (puts rests image fair)) step.keeps;
  ok = tt;
  unmoved = told-as old.tells new.tells (λ (before after : Disk). after.base ≡ before.base)
      (λ before after. IsAtRestTo 1536 before → sector 0 after.base ≡ sector 0 before.reads)
      (λ a b same rests. ap (sector 0) (same ∙ rests.rests.one_image a.base (base-image a))) step.unmoved;
  size = step.size;
  cause = step.cause;
}

-- AND IN THE FIRST ONE.

second-zero : (shape : Shape) (content now : List ℕ) → IsSecondHead shape content now → sector 0 now ≡ sector 0 content
second-zero shape content now is = is.others 0 (λ same. omega (arith, same))

putting-images : (shape : Shape) (content was image : List ℕ) → IsSecondHead shape content was
    → IsPutting 0 (run_head shape) was image → IsHeading shape content image
putting-images shape content was image second putting = inr (was, second, putting)

pub first-ends : (shape : Shape) (old mid : Seen) (result : Result (Unit {0}) DevError) (new : Seen)
    → Come (IsSecondHead shape) 1536 old mid
    → PutStep 0 (run_head shape) mid result new → HeadStep shape old result new
first-ends shape old mid (Err error) new come step = record {
  keeps = come-puts (IsSecondHead shape) (IsHeading shape) 1536 0 (run_head shape) old mid (Err error) new (omega arith)
      (putting-images shape) come step;
  ok = tt;
  unmoved = told-as old.tells new.tells (λ before after. IsAtRestTo 1536 before
      → IsSecondHead shape before.reads after.base)
      (λ before after. IsAtRestTo 1536 before → sector 0 after.base ≡ sector 0 before.reads)
      (λ a b is rests. second-zero shape a.reads b.base (is rests))
      (come-stays (IsSecondHead shape) 1536 0 (run_head shape) old mid error new come step);
  size = step.size ∙ come.size;
  cause = cause-since old.faults mid.faults new.faults (Err error) come.later step.cause;
}
first-ends shape old mid (Ok done) new come step =
    let last : Come (IsHeaded shape) 1536 old new =
    come-put (IsSecondHead shape) (IsHeaded shape) 1536 0 (run_head shape) old mid done new (omega arith)
    (λ content was now second put. record { second = was; is_second = second; first = put }) come step in
    record {
      keeps = come-puts (IsSecondHead shape) (IsHeading shape) 1536 0 (run_head shape) old mid (Ok done) new
          (omega arith) (putting-images shape) come step;
      ok = told-as old.tells new.tells (λ before after. IsAtRestTo 1536 before
          → HasCome (IsHeaded shape) before.reads after)
          (λ before after. IsAtRestTo 1536 before → HasRunHeads shape before.reads after)
          (λ a b is rests. record { nothing_pending = (is rests).nothing_pending; headed = (is rests).is }) last.told;
      unmoved = tt;
      size = last.size;
      cause = cause-since old.faults mid.faults new.faults (Ok done) come.later step.cause;
    }
