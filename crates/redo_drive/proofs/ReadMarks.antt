-- What reads give of a log device on which no call failed: the run up to the written mark, from the newest checkpoint
-- on.
use Rattle.std.proofs.Common.{List, ap, arith, inl, refl, subst, ℕ, ◌∙◌, ◌≡◌, Some}
use Rattle.model_base.specs.declared.shape.Shape.{Shape}
use Rattle.model_device.specs.{synced, Disk}
use Rattle.model_log.proofs.Several.{one_group}
use Rattle.model_log.specs.{newest_checkpoint, run_layout, run_format}
use Rattle.model_log.specs.declared.group.Whole.{Whole}
use Rattle.model_log.specs.declared.layout.Layout.{Layout}
use Rattle.model_log.proofs.Formats.{run_format-layout}
use Rattle.model_parts.proofs.Checkpoints.{synced-live}
use Rattle.model_parts.proofs.LogCrash.{crash-reads}
use Rattle.model_parts.specs.{after_synced, CrashReads, FitsStore, IsLive, LogHolds, tails_synced}
use Rattle.model_parts.specs.declared.marks.LogMarks.{LogMarks}
use Rattle.model_parts.specs.declared.marks.TailMarks.{TailMarks}
use Rattle.model_store.proofs.OneReading.{same_head}
use Rattle.model_store.proofs.OneScan.{same_scan}
use Rattle.model_store.proofs.Places.{same_some}
use Rattle.model_store.specs.{HasScan, IsFairLog, IsReading, IsScan, taken, Reading}

-- what a synced device has is a fair image of it
synced_fair : (disk : Disk) → IsFairLog (synced disk) disk.reads
synced_fair disk = record {
  possible = record { same_length = refl; each = λ k within. inl refl };
  each = λ k within fits. record { count = 0; some = omega arith; same = refl };
}

pub read_to_marks : (shape : Shape) (s : ℕ) (wholes : List Whole) (marks : LogMarks) (tails : TailMarks) (disk : Disk)
    → (data_bytes : List ℕ) (left : Reading) → FitsStore shape wholes marks → IsLive shape s wholes marks tails disk
    → marks.asked ≡ marks.ckpt → IsReading disk.reads data_bytes left
    → (left.end ≡ marks.written) × (left.ckpt ≡ marks.ckpt)
read_to_marks shape s wholes marks tails disk data_bytes left fits live asked is =
    let log : List ℕ = disk.reads in
    let layout : Layout = run_layout shape in
    let after = synced-live shape s wholes marks tails disk live in
    let small : FitsStore shape wholes (after_synced marks) = record {
      good = fits.good;
      small = fits.small;
      some_blocks = fits.some_blocks;
      few_blocks = fits.few_blocks;
    } in
    let held : LogHolds shape s wholes (after_synced marks) (synced disk) = record {
      tails = tails_synced marks.written tails;
      holds = after.holds;
    } in
    let reads : CrashReads shape s wholes (after_synced marks) log =
    crash-reads one_group shape s wholes (after_synced marks) (synced disk) log small held (synced_fair disk) in
    let head = same_head log left.format (run_format shape) left.shape shape is.scan.devices.head reads.head in
    let on_shape : HasScan log data_bytes left.format shape left.number left.ckpt left.views left.wholes left.end =
    subst (λ z. HasScan log data_bytes left.format z left.number left.ckpt left.views left.wholes left.end) head.1
    is.scan in
    let found : HasScan log data_bytes (run_format shape) shape left.number left.ckpt left.views left.wholes left.end =
    subst (λ f. HasScan log data_bytes f shape left.number left.ckpt left.views left.wholes left.end) head.0 on_shape in
    let checkpoint : newest_checkpoint layout log ≡ Some (left.number, left.ckpt) =
    subst (λ (l : Layout). newest_checkpoint l log ≡ Some (left.number, left.ckpt)) (run_format-layout shape)
    found.checkpoint in
    let newest = same_some (newest_checkpoint layout log) (left.number, left.ckpt) (reads.number, reads.ckpt)
    checkpoint reads.newest in
    let ckpt : left.ckpt ≡ reads.ckpt = ap (λ pair. pair.1) newest in
    let own : IsScan shape layout.blocks (taken layout log) left.ckpt left.views left.wholes left.end =
    subst (λ (l : Layout). IsScan shape l.blocks (taken l log) left.ckpt left.views left.wholes left.end)
    (run_format-layout shape) found.scan in
    let scan = subst (λ from. IsScan shape layout.blocks (taken layout log) from left.views left.wholes left.end) ckpt
    own in
    let same = same_scan one_group shape layout.blocks (taken layout log) reads.ckpt left.views reads.scan.views
    left.wholes reads.scan.middle left.end reads.scan.mark scan reads.scan.scan in
    let from = reads.scan.from in
    let up_to = reads.scan.up_to in
    let given = live.is_written.all_given in
    let least = reads.from in
    let most = reads.up_to in (
      same.2 ∙ (let e : reads.scan.mark ≡ marks.written = omega arith in e),
      ckpt ∙ (let e : reads.ckpt ≡ marks.ckpt = omega arith in e),
    )
