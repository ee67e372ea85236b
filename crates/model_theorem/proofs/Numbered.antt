-- The newest checkpoint in whatever a crash leaves of a log device that holds a run.
use Rattle.std.proofs.Common.{◌≡◌, Bool, true, false, cond, inl, inr, ℕ, ◌<◌, ◌≤◌, List, Option, Some, None, refl, sym, ap, ◌∙◌, subst, ⊎_elim, arith}
use Rattle.std.proofs.lemmas.Bool.{cases_lt}
use Rattle.model_base.specs.declared.shape.Shape.{Shape}
use Rattle.model_log.specs.declared.group.Whole.{Whole}
use Rattle.model_device.specs.{sector, Disk}
use Rattle.model_log.specs.{fits_checksum, head_among, head_of, newer, newest_checkpoint, place_of, read_checkpoint, read_head, run_layout, run_format}
use Rattle.model_log.specs.declared.head.Head.{Head}
use Rattle.model_log.specs.declared.head.Head.TheVariants.{Good}
use Rattle.model_log.specs.declared.layout.Layout.{Layout}
use Rattle.model_store.specs.{IsFairLog}
use Rattle.model_parts.specs.{LogHoldsWith, MayStand}
use Rattle.model_parts.specs.declared.marks.TailMarks.{TailMarks}
use Rattle.model_parts.proofs.Torn.{stands-sector}
use Rattle.model_parts.specs.declared.marks.LogMarks.{LogMarks}
use Rattle.model_parts.proofs.LogImages.{header-below, place-cases, when_less, when_not_less}
use Rattle.model_theorem.specs.Older.{HeldOlder}
use Rattle.model_theorem.specs.Run.{HasCheckpointFrom, IsOpenedBefore}
use Rattle.model_theorem.specs.Closed.{Held, IsHeld, groups_of_run}
use Rattle.model_log.specs.declared.layout.TheConstants.{HEADER_BLOCKS}
use Rattle.model_log.proofs.Formats.{of_run}

-- this is a checkpoint, and its number isn't below that
record IsFrom (lowest : ℕ) (found : Option (ℕ × ℕ)) : Type 0 where
  number : ℕ
  ckpt : ℕ
  is : found ≡ Some (number, ckpt)
  from : lowest ≤ number

-- of two the newer one isn't below either
from-first : (number ckpt : ℕ) (second : Option (ℕ × ℕ)) → IsFrom number (newer (Some (number, ckpt)) second)
from-first number ckpt None = record { number = number; ckpt = ckpt; is = refl; from = omega arith }
from-first number ckpt (Some second) = ⊎_elim
    (λ less. record {
      number = second.0;
      ckpt = second.1;
      is = when_less number second.0 (Some (number, ckpt)) (Some second) less;
      from = omega arith;
    })
    (λ more. record {
      number = number;
      ckpt = ckpt;
      is = when_not_less number second.0 (Some (number, ckpt)) (Some second) more;
      from = omega arith;
    })
    (cases_lt number second.0)

from-second : (first : Option (ℕ × ℕ)) (number ckpt : ℕ) → IsFrom number (newer first (Some (number, ckpt)))
from-second None number ckpt = record { number = number; ckpt = ckpt; is = refl; from = omega arith }
from-second (Some first) number ckpt = ⊎_elim
    (λ less. record {
      number = number;
      ckpt = ckpt;
      is = when_less first.0 number (Some first) (Some (number, ckpt)) less;
      from = omega arith;
    })
    (λ more. record {
      number = first.0;
      ckpt = first.1;
      is = when_not_less first.0 number (Some first) (Some (number, ckpt)) more;
      from = more;
    })
    (cases_lt first.0 number)

-- so the newest isn't below the one in its own place
newest-from : (layout : Layout) (number ckpt : ℕ) (image : List ℕ)
    → read_checkpoint (place_of number) layout (sector (place_of number) image) ≡ Some (number, ckpt) → IsFrom number (newest_checkpoint layout image)
newest-from layout number ckpt image own =
    let At : ℕ → Option (ℕ × ℕ) = λ which. read_checkpoint which layout (sector which image) in
    ⊎_elim
    (λ even. subst (λ (found : Option (ℕ × ℕ)). IsFrom number (newer found (At 3))) (sym (sym (ap At even.0) ∙ own)) (from-first number ckpt (At 3)))
    (λ odd. subst (λ (found : Option (ℕ × ℕ)). IsFrom number (newer (At 1) found)) (sym (sym (ap At odd.0) ∙ own)) (from-second (At 1) number ckpt))
    (place-cases number)

-- both header blocks say the same, and so they say it together
either-head : (first_fits : Bool) (first second head : Head) → first ≡ head → second ≡ head → cond first_fits first second ≡ head
either-head true first second head one two = one
either-head false first second head one two = two

heads-good : (head : Head) (first second : List ℕ) → read_head first ≡ head → read_head second ≡ head → head_among first second ≡ head
heads-good head first second one two = either-head (fits_checksum first) (read_head first) (read_head second) head one two

-- WHAT A FAIR IMAGE of a log device that holds a run has
holds-checkpoint : (shape : Shape) (s : ℕ) (wholes : List Whole) (marks : LogMarks) (tails : TailMarks) (disk : Disk) (image : List ℕ)
    → LogHoldsWith shape s wholes marks tails disk → IsFairLog disk image → HasCheckpointFrom shape marks.number image
holds-checkpoint shape s wholes marks tails disk image holds fair =
    let place : ℕ = place_of marks.number in
    let low : place < HEADER_BLOCKS = (header-below marks.number).0 in
    let at : (k : ℕ) → k < HEADER_BLOCKS → MayStand disk k (sector k image) =
    λ k below. stands-sector disk image k holds.sectors fair (omega (arith, holds.long)) in
    let found : IsFrom marks.number (newest_checkpoint (run_layout shape) image) =
    newest-from (run_layout shape) marks.number marks.ckpt image (holds.checkpoint (sector place image) (at place low)) in
    let head : head_of image ≡ Good (run_format shape) shape = heads-good (Good (run_format shape) shape) (sector 0 image) (sector 2 image)
    (holds.heads 0 (inl refl) (sector 0 image) (at 0 (omega arith))) (holds.heads 2 (inr refl) (sector 2 image) (at 2 (omega arith))) in
    record {
      number = found.number;
      ckpt = found.ckpt;
      newest = record {
        head = head;
        newest = of_run (λ (layout : Layout). newest_checkpoint layout image ≡ Some (found.number, found.ckpt)) shape found.is;
      };
      from = found.from;
    }

-- and where both devices hold it
pub held-number : (held : Held) (log : List ℕ) → IsHeld held → IsFairLog held.log_disk log
    → HasCheckpointFrom held.opened.shape held.number log
held-number held log is fair =
    let found : HasCheckpointFrom held.opened.shape is.log_marks.number log =
    holds-checkpoint held.opened.shape held.run.start (groups_of_run held) is.log_marks is.log_holds.tails held.log_disk log is.log_holds.holds fair in
    record { number = found.number; ckpt = found.ckpt; newest = found.newest; from = omega (arith, is.number_kept, found.from) }

-- so opening came to its end
pub held-opened : (held : Held) (armed_from : Disk) → IsHeld held → HeldOlder held.opened.shape held.number armed_from
    → IsOpenedBefore held.opened.shape armed_from held.log_disk (Some held.run)
held-opened held armed_from is older = record {
  was = older.was;
  number = older.found;
  ckpt = older.ckpt;
  found = older.newest;
  ends = λ image fair.
      (let has : HasCheckpointFrom held.opened.shape held.number image = held-number held image is fair in
      record { number = has.number; ckpt = has.ckpt; newest = has.newest; from = omega (arith, older.older, has.from) });
}
