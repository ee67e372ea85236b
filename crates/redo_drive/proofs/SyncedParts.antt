-- What a sync would leave of the devices of two parts of which no call failed: what their run has so far.
use Rattle.std.proofs.Common.{List, None, Option, Some, ap, arith, false, refl, subst, sym, ℕ, ◌∙◌, ◌≡◌}
use Rattle.std.specs.Prelude.{IfSome, is_some}
use Rattle.model_base.specs.declared.shape.Shape.{Shape}
use Rattle.model_core.specs.{BatchPage, KeptPage, lsn, Setup}
use Rattle.model_parts.specs.{after_synced, IsLive, IsUpTo, LogHoldsWith, tails_synced}
use Rattle.model_parts.specs.Stored.{Stored}
use Rattle.model_device.specs.{settled, synced, Disk}
use Rattle.model_running.specs.{contents_of, LogTells}
use Rattle.model_parts.proofs.Checkpoints.{synced-live}
use Rattle.model_parts.proofs.LogImages.{beside-kept}
use Rattle.model_parts.specs.declared.marks.LogMarks.{LogMarks}
use Rattle.model_parts.specs.declared.marks.TailMarks.{TailMarks}
use Rattle.model_log.specs.declared.group.Whole.{Whole}
use Rattle.redo_drive.specs.DataPartSide.{HoldsPages, fresh_batch}
use Rattle.redo_disk.specs.{Seen}
use Rattle.redo_logdev.specs.{DiskHolds}
use Rattle.redo_logdev.specs.Part as log
use Rattle.redo_drive.specs.LogPartSide.{log_side}
use Rattle.redo_store.specs.Part as store

-- by the marks of then, the log device holds the run also after a sync
synced_by_marks : (shape : Shape) (s : ℕ) (wholes : List Whole) (marks : LogMarks) (tails : TailMarks) (disk : Disk) → IsLive shape s wholes marks tails disk
    → LogHoldsWith shape s wholes marks (tails_synced marks.written tails) (synced disk)
synced_by_marks shape s wholes marks tails disk live =
    let kept : TailMarks = tails_synced marks.written tails in
    let synced_disk : Disk = synced disk in
    let past : IsLive shape s wholes (after_synced marks) kept synced_disk = synced-live shape s wholes marks tails disk live in
    let held : LogHoldsWith shape s wholes (after_synced marks) kept synced_disk = past.holds in
    record {
      long = held.long;
      sectors = held.sectors;
      heads = held.heads;
      order = live.holds.order;
      kept = record { boundary = held.kept.boundary; from = live.holds.order.stable_written; up_to = held.kept.up_to; place = held.kept.place };
      blocks = held.blocks;
      tail_blocks = held.tail_blocks;
      kept_tail = held.kept_tail;
      checkpoint = held.checkpoint;
      beside = λ bytes may. beside-kept (after_synced marks) marks refl refl (omega arith) _ (held.beside bytes may);
    }

pub log_tells_synced : {L : Type 0} (seen : L → Seen) (faults number : ℕ) (Begun : Type 0) (c : Setup) (shape : Shape) (p : log.Part L) (disk : Disk) → Begun → ◌≡◌ {A = Shape} p.shape shape → (seen p.dev).tells ≡ Some disk
    → p.failed ≡ None → LogTells (log_side seen faults number Begun) c shape number p (synced disk)
log_tells_synced seen faults number Begun c shape p disk begun same tells live = record {
  marks = p.marks;
  stable = refl;
  given = refl;
  ckpt = refl;
  asked = refl;
  number_kept = λ log held. held.number_kept begun;
  holds = λ log wholes held are.
      let here : DiskHolds p.shape (lsn c.base) wholes p.marks p.tails p.failed disk =
      subst (λ (o : Option Disk). IfSome o (DiskHolds p.shape (lsn c.base) wholes p.marks p.tails p.failed)) tells (held.groups begun wholes are) in
      record {
        tails = tails_synced p.marks.written p.tails;
        holds = subst (λ (z : Shape). LogHoldsWith z (lsn c.base) wholes p.marks (tails_synced p.marks.written p.tails) (synced disk)) same
            (synced_by_marks p.shape (lsn c.base) wholes p.marks p.tails disk (record { holds = here.holds; is_written = here.live live }));
      };
}

-- the data device has nothing pending, so that a sync leaves it as it is
pub data_is_synced : {D : Type 0} (seen : D → Seen) (faults : ℕ) (shape : Shape) (Begun : Type 0) (kept_page : ℕ → KeptPage) (unfinished : List BatchPage) (p : store.Part D) (disk : Disk)
    → HoldsPages seen faults shape Begun kept_page unfinished p → Begun → (seen p.dev).tells ≡ Some disk → p.failed ≡ None → disk ≡ synced disk
data_is_synced seen faults shape Begun kept_page unfinished p disk holds begun tells live =
    let here : Stored p.shape (IsUpTo (contents_of kept_page)) (contents_of kept_page) (fresh_batch unfinished) (is_some p.failed) disk =
    subst (λ (o : Option Disk). IfSome o (Stored p.shape (IsUpTo (contents_of kept_page)) (contents_of kept_page) (fresh_batch unfinished) (is_some p.failed))) tells (holds.pages begun) in
    let well : is_some p.failed ≡ false = ap is_some live in
    let nothing_pending : disk ≡ settled disk.base = (here.steady well).nothing_pending in
    let reads : disk.reads ≡ disk.base = ap (λ (d : Disk). d.reads) nothing_pending in
    nothing_pending ∙ ap settled (sym reads)
