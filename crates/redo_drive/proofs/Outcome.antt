-- How a call of the log part ends, by its code.
use Rattle.std.proofs.Common.{Bool, Err, None, Ok, Option, Result, Some, ap, arith, cond, false, refl, sym, true, ℕ, ◌<◌, ◌==◌, ◌∙◌, ◌≡◌, ◌≤◌, is_some}
use Rattle.std.specs.Prelude.{OnErr, OnOk}
use Rattle.model_parts.specs.declared.marks.LogMarks.{LogMarks}
use Rattle.model_parts.specs.declared.marks.TailMarks.{TailMarks}
use Rattle.redo_disk.specs.{error_of, Seen}
use Rattle.redo_disk.specs.declared.error.DevError.{DevError}
use Rattle.redo_disk.specs.declared.error.DevError.TheVariants.{Failed, NoMemory}
use Rattle.redo_logdev.specs.{Stays}
use Rattle.redo_logdev.specs.Part.{Part}
use Rattle.redo_drive.proofs.Devices.{failed_by}
use Rattle.redo_drive.specs.Asking.{call_code, LogCalled}
use Rattle.redo_drive.specs.Calls.{HasFailedBy}
use Rattle.redo_drive.specs.declared.device.Device.TheVariants.{Log}

pub not_failed : (failed : Option DevError) → is_some failed ≡ false → failed ≡ None
not_failed None e = refl
not_failed (Some fault) e = absurd (cc)

pub is_live : (failed : Option DevError) → failed ≡ None → is_some failed ≡ false
is_live failed e = ap is_some e

-- a choice of two records is a choice of their fields
pub pick : {A B : Type 0} (f : A → B) (b : Bool) (x y : A) → ◌≡◌ {A = B} (f (cond b x y)) (cond b (f x) (f y))
pick f true x y = refl
pick f false x y = refl

module _ {L : Type 0} (seen : L → Seen) (faults : ℕ) where
  -- what a call leaves, by its code
  pub record IsOutcome (code : ℕ) (ok err : LogMarks) (old new : Part L) : Type 0 where
    pub marks : ◌≡◌ {A = LogMarks} new.marks (cond (code == 0) ok err)
    pub live : new.failed ≡ None → code ≡ 0
    pub sound : code ≡ 0 → is_some new.failed ≡ false
    pub cause : 0 < code → HasFailedBy seen Log faults new.dev new.failed code
    pub later : faults ≤ (seen new.dev).faults

  pub outcome : (code : ℕ) (ok err : LogMarks) (old new : Part L) → faults ≤ (seen old.dev).faults → {tails : TailMarks}
      → LogCalled seen code ok err tails old new → IsOutcome code ok err old new
  outcome code ok err old new early called = by called.result (called.code_is ∙ ap (call_code Log) called.stays.failed) called.on_ok called.on_err called.stays
    where
      by : (result : Result (Unit {0}) DevError) → code ≡ call_code Log (error_of result) → OnOk result (new.marks ≡ ok) → OnErr result (new.marks ≡ err) → Stays seen old result new → IsOutcome code ok err old new
      by (Ok done) code_is on_ok on_err stays = record {
        marks = on_ok ∙ sym (ap (λ (k : ℕ). let z : LogMarks = cond (k == 0) ok err in z) code_is);
        live = λ none. code_is;
        sound = λ _. is_live new.failed stays.failed;
        cause = λ some. absurd (omega arith);
        later = (let z = stays.cause.later in omega arith);
      }
      by (Err Failed) code_is on_ok on_err stays = record {
        marks = on_err ∙ sym (ap (λ (k : ℕ). let z : LogMarks = cond (k == 0) ok err in z) code_is);
        live = λ none. let z : None ≡ Some Failed = sym none ∙ stays.failed in absurd (cc);
        sound = λ none. absurd (omega arith);
        cause = λ some. failed_by seen Log faults old.dev new.dev new.failed code Failed stays.failed code_is early stays.cause;
        later = (let z = stays.cause.later in omega arith);
      }
      by (Err NoMemory) code_is on_ok on_err stays = record {
        marks = on_err ∙ sym (ap (λ (k : ℕ). let z : LogMarks = cond (k == 0) ok err in z) code_is);
        live = λ none. let z : None ≡ Some NoMemory = sym none ∙ stays.failed in absurd (cc);
        sound = λ none. absurd (omega arith);
        cause = λ some. failed_by seen Log faults old.dev new.dev new.failed code NoMemory stays.failed code_is early stays.cause;
        later = (let z = stays.cause.later in omega arith);
      }
