-- What a crash of a log device leaves to be read.
use Rattle.std.proofs.Common.{◌≤◌, ℕ, List, arith}
use Rattle.std.specs.List.{All}
use Rattle.model_base.specs.declared.shape.Shape.{Shape}
use Rattle.model_device.specs.{Disk}
use Rattle.model_log.specs.declared.group.Whole.{Whole}
use Rattle.model_log.specs.{groups_of, IsByte, run_layout, stream_of}
use Rattle.model_log.proofs.Places.{HasBlocks}
use Rattle.model_store.specs.{IsFairLog, Source, taken}
use Rattle.model_store.proofs.OneAnswer.{scan-not_bad}
use Rattle.model_store.proofs.OneScan.{OneGroup}
use Rattle.model_parts.specs.declared.marks.LogMarks.{LogMarks}
use Rattle.model_parts.specs.declared.marks.TailMarks.{TailMarks}
use Rattle.model_parts.specs.Held.{AreInOrder, LogHolds, LogHoldsWith}
use Rattle.model_parts.specs.Reads.{CrashReads, FitsStore, ScansTo}
use Rattle.model_parts.proofs.Bytes.{stream-bytes}
use Rattle.model_parts.proofs.LogImages.{ImageHolds, image-holds}
use Rattle.model_parts.proofs.LogRows.{IsBounded}
use Rattle.model_parts.proofs.Scans.{scans-to}
use Rattle.model_parts.proofs.Tails.{IsRunWithBytes}

-- a scan up to a later mark is one up to an earlier one
scans-lower : (shape : Shape) (most s : ℕ) (wholes : List Whole) (low lower high ckpt : ℕ) (source : Source) → lower ≤ low
    → ScansTo shape most s wholes low high ckpt source → ScansTo shape most s wholes lower high ckpt source
scans-lower shape most s wholes low lower high ckpt source below scan = record {
  views = scan.views;
  before = scan.before;
  middle = scan.middle;
  after = scan.after;
  mark = scan.mark;
  parts = scan.parts;
  scan = scan.scan;
  boundary = scan.boundary;
  ends = scan.ends;
  from = omega (arith, scan.from);
  up_to = scan.up_to;
  starts = scan.starts;
  from_ckpt = scan.from_ckpt;
  read_end = scan.read_end;
  other_ends = scan.other_ends;
}

pub has-blocks : (shape : Shape) (wholes : List Whole) (marks : LogMarks) → FitsStore shape wholes marks → HasBlocks (run_layout shape)
has-blocks shape wholes marks fits = record { some = fits.some_blocks; few = omega (arith, fits.few_blocks) }

crash-reads_with : OneGroup → (shape : Shape) (s : ℕ) (wholes : List Whole) (marks : LogMarks) (tails : TailMarks) (disk : Disk) (image : List ℕ) → FitsStore shape wholes marks
    → LogHoldsWith shape s wholes marks tails disk → IsFairLog disk image → CrashReads shape s wholes marks image
crash-reads_with one shape s wholes marks tails disk image fits holds fair =
    let bytes : All IsByte (stream_of (groups_of wholes)) = stream-bytes shape wholes fits.good in
    let order : AreInOrder (run_layout shape) s wholes marks = holds.order in
    let run : IsRunWithBytes s wholes = record { starts = order.starts; run = order.run; bytes = bytes } in
    let kept : ImageHolds shape s wholes marks tails.kept image = image-holds shape s wholes marks tails disk image (has-blocks shape wholes marks fits) run fits.small holds fair in
    let bounded : IsBounded shape s wholes tails.kept marks.given = record {
      starts = order.starts;
      run = order.run;
      good = fits.good;
      bytes = bytes;
      low_is = holds.kept.boundary;
      high_is = order.given;
      low_high = omega (arith, holds.kept.up_to, order.written_given);
      small = fits.small;
    } in
    let most : ℕ = (run_layout shape).blocks in
    let source : Source = taken (run_layout shape) image in
    let scan : ScansTo shape most s wholes tails.kept marks.given kept.ckpt source =
    scans-to shape most s wholes tails.kept marks.given kept.ckpt source bounded kept.aligned (omega (arith, order.ckpt_from, kept.from))
    (omega (arith, kept.up_to, order.asked_stable, holds.kept.from)) (omega (arith, order.room, kept.from)) kept.takes in
    record {
      number = kept.number;
      ckpt = kept.ckpt;
      head = kept.head;
      newest = kept.newest;
      from = kept.from;
      up_to = kept.up_to;
      scan = scans-lower shape most s wholes tails.kept marks.stable marks.given kept.ckpt source holds.kept.from scan;
      not_refused = λ lsn bad. scan-not_bad one shape most source kept.ckpt scan.views scan.middle scan.mark lsn scan.scan bad;
    }

-- THE READING THEOREM.
pub crash-reads : OneGroup → (shape : Shape) (s : ℕ) (wholes : List Whole) (marks : LogMarks) (disk : Disk) (image : List ℕ) → FitsStore shape wholes marks
    → LogHolds shape s wholes marks disk → IsFairLog disk image → CrashReads shape s wholes marks image
crash-reads one shape s wholes marks disk image fits held fair = crash-reads_with one shape s wholes marks held.tails disk image fits held.holds fair
