-- What holds of the log part when a run starts.
use Rattle.std.proofs.Common.{List, [], None, ap, arith, refl, subst, sym, ℕ, ◌%◌, ◌-◌, ◌<◌, ◌^◌, ◌∙◌, ◌∷◌, ◌≡◌}
use Rattle.model_core.proofs.Lsns.{lsn_offset}
use Rattle.model_core.specs.{lsn, Setup}
use Rattle.model_running.specs.{AreWholesOf}
use Rattle.model_logcore.specs.{StartPart}
use Rattle.model_parts.specs.{first_marks}
use Rattle.model_parts.specs.declared.marks.LogMarks.{LogMarks}
use Rattle.model_log.specs.declared.group.Whole.{Whole}
use Rattle.model_log.specs.declared.layout.TheConstants.{BLOCK_DATA}
use Rattle.redo_disk.specs.{Seen}
use Rattle.redo_logdev.specs.{PartHolds}
use Rattle.redo_logdev.specs.Part.{Part}
use Rattle.redo_drive.specs.LogPartSide.{HasBegun, log_side}
use Rattle.model_log.specs.{run_layout}

no_wholes : (wholes : List Whole) → AreWholesOf [] wholes → wholes ≡ []
no_wholes [] are = refl
no_wholes (w ∷ ws) are = absurd are

-- a new part at the sn base, over whatever device
pub part_starts : {L : Type 0} (seen : L → Seen) (c : Setup) (number : ℕ) (p : Part L) → c.base % BLOCK_DATA ≡ 0 → lsn c.base < 2 ^ 61 → (run_layout p.shape).blocks ≡ c.blocks → p.failed ≡ None → ◌≡◌ {A = LogMarks} p.marks (first_marks (lsn c.base) number)
    → StartPart (log_side seen (seen p.dev).faults p.marks.number (HasBegun seen (lsn c.base) p)) c p
part_starts seen c number p even small blocks live marks =
    let stable : p.marks.stable ≡ lsn c.base = ap (λ (z : LogMarks). z.stable) marks in
    let written : p.marks.written ≡ lsn c.base = ap (λ (z : LogMarks). z.written) marks in
    let given : p.marks.given ≡ lsn c.base = ap (λ (z : LogMarks). z.given) marks in
    let ckpt : p.marks.ckpt ≡ lsn c.base - 12 = ap (λ (z : LogMarks). z.ckpt) marks in
    let asked : p.marks.asked ≡ lsn c.base - 12 = ap (λ (z : LogMarks). z.asked) marks in
    let o = lsn_offset c.base in
    record {
      holds = record {
        blocks_are = blocks;
        later = omega arith;
        all_given = λ _. given ∙ sym written;
        all_asked = λ _. asked ∙ sym ckpt;
        aligned = (let z : (lsn c.base - 12) % 512 ≡ 0 = omega arith in ap (λ (k : ℕ). k % 512) ckpt ∙ z);
        ckpt_stable = omega arith;
        stable_written = omega arith;
        small = omega arith;
        few = λ begun. begun.few;
        number_kept = λ begun. omega arith;
        groups = λ begun wholes are. subst (λ (z : List Whole). PartHolds seen (lsn c.base) z p) (sym (no_wholes wholes are)) begun.holds;
      };
      written = written;
      stable = stable;
      given = given;
      ckpt = ckpt;
      asked = asked;
    }
