-- What the calls of a part keep of what its device holds.
use Rattle.std.proofs.Common.{◌≡◌, ◌≤◌, ◌<◌, ◌+◌, ◌-◌, ◌*◌, ◌%◌, ◌^◌, ℕ, List, [], length, take, Option, Some, None, sym, ap, subst, ◌∙◌, ⊎_elim, arith}
use Rattle.std.proofs.lemmas.Bool.{cases_lt}
use Rattle.model_base.specs.declared.shape.Shape.{Shape}
use Rattle.model_base.specs.declared.limits.TheConstants.{FIRST_DATA_LSN, MAX_LOG_BLOCKS, MIN_LOG_BLOCKS}
use Rattle.model_device.specs.{IsPutOrNot, synced, written, Disk}
use Rattle.model_log.specs.declared.group.Whole.{Whole}
use Rattle.model_log.specs.declared.head.Format.TheVariants.{Two}
use Rattle.model_log.specs.declared.layout.Layout.{Layout}
use Rattle.model_log.specs.declared.layout.TheConstants.{BLOCK_DATA}
use Rattle.model_log.specs.{block_of, checkpoint_text, IsDataLsn, IsGivenTo, IsLayout, other_tail, place_of, run_layout, sn_of}
use Rattle.model_log.proofs.BoundaryLengths.{sn_of-block, sn_of-rises}
use Rattle.model_log.proofs.CutStream.{some-below}
use Rattle.model_log.proofs.Layouts.{has-blocks, is_layout_of}
use Rattle.model_parts.specs.declared.marks.LogMarks.{LogMarks}
use Rattle.model_parts.specs.declared.marks.TailMarks.{TailMarks}
use Rattle.model_parts.specs.{after_asked, after_checkpoint, after_given, after_synced, after_written, first_marks, first_tails, HasNextNumber, IsFresh, IsLive, MayBeNext, next_number, other_place, tails_synced, tails_written}
use Rattle.model_parts.proofs.Checkpoints.{checkpoint-adds, checkpointed-live, next-place, synced-live, WritesSector}
use Rattle.model_parts.proofs.LogFresh.{fresh-live}
use Rattle.model_parts.proofs.Torn.{put-torn}
use Rattle.redo_disk.specs.{Call, MakesCalls, Serve, write_at}
use Rattle.redo_disk.specs.declared.error.DevError.{DevError}
use Rattle.redo_logdev.specs.Part.{block_writes, framed_full_blocks, full_count, last_block, Part}
use Rattle.redo_logdev.specs.Writing.{FailsBlocks, written_blocks}
use Rattle.redo_logdev.specs.Holding.{DiskHolds}
use Rattle.redo_logdev.specs.PartConditions.{IsSoundLogPart, MayWrite}
use Rattle.redo_logdev.proofs.Cuts.{count-firsts, IsCut}
use Rattle.redo_logdev.proofs.WriteTo.{write_to-err, write_to-ok}

live-of : (shape : Shape) (s : ℕ) (wholes : List Whole) (marks : LogMarks) (tails : TailMarks) (failed : Option DevError) (disk : Disk) → failed ≡ None
    → DiskHolds shape s wholes marks tails failed disk → IsLive shape s wholes marks tails disk
live-of shape s wholes marks tails failed disk live before = record { holds = before.holds; is_written = before.live live }

disk-of : (shape : Shape) (s : ℕ) (wholes : List Whole) (marks : LogMarks) (tails : TailMarks) (failed : Option DevError) (disk : Disk)
    → IsLive shape s wholes marks tails disk → DiskHolds shape s wholes marks tails failed disk
disk-of shape s wholes marks tails failed disk live = record { holds = live.holds; live = λ same. live.is_written }

-- the layout of a part's device
pub run-is_layout : (shape : Shape) → MIN_LOG_BLOCKS ≤ shape.log_blocks → shape.log_blocks ≤ MAX_LOG_BLOCKS → IsLayout (run_layout shape)
run-is_layout shape many few = is_layout_of Two shape many few

-- A PART THAT STARTS.

pub fresh-part : (shape : Shape) (start number : ℕ) (disk : Disk) → MIN_LOG_BLOCKS ≤ shape.log_blocks → shape.log_blocks ≤ MAX_LOG_BLOCKS
    → start % 512 ≡ 12 → FIRST_DATA_LSN ≤ start
    → IsFresh shape start number disk → DiskHolds shape start [] (first_marks start number) (first_tails start) None disk
fresh-part shape start number disk many few place low fresh =
    disk-of shape start [] (first_marks start number) (first_tails start) None disk
    (fresh-live shape start number disk (has-blocks (run_layout shape) (run-is_layout shape many few)) place low fresh)

-- A SYNC.

pub sync-ok : (shape : Shape) (s : ℕ) (wholes : List Whole) (marks : LogMarks) (tails : TailMarks) (failed : Option DevError) (a b : Disk) → failed ≡ None
    → DiskHolds shape s wholes marks tails failed a → b ≡ synced a → DiskHolds shape s wholes (after_synced marks) (tails_synced marks.written tails) failed b
sync-ok shape s wholes marks tails failed a b live before is =
    subst (λ (disk : Disk). DiskHolds shape s wholes (after_synced marks) (tails_synced marks.written tails) failed disk) (sym is)
    (disk-of shape s wholes (after_synced marks) (tails_synced marks.written tails) failed (synced a)
    (synced-live shape s wholes marks tails a (live-of shape s wholes marks tails failed a live before)))

-- A CHECKPOINT.

-- the number that the code makes, where it doesn't go round
pub same-number : (number : ℕ) → number + 1 < 2 ^ 64 → next_number number ≡ number + 1
same-number number small = omega arith

-- the write of the next checkpoint, whose number hasn't gone round
pub checkpoint-write : (layout : Layout) (marks : LogMarks) (lsn place : ℕ) (block : List ℕ) → HasNextNumber marks → place ≡ place_of (next_number marks.number)
    → block ≡ checkpoint_text (next_number marks.number) lsn layout → length block ≡ 512
    → WritesSector (other_place marks.number) (checkpoint_text (marks.number + 1) lsn layout) (write_at (512 * place) block)
checkpoint-write layout marks lsn place block small place_is text long =
    let same : next_number marks.number ≡ marks.number + 1 = same-number marks.number small in
    let text_is : block ≡ checkpoint_text (marks.number + 1) lsn layout = text ∙ ap (λ n. checkpoint_text n lsn layout) same in
    record {
      at_place = ap (λ k. 512 * k) (place_is ∙ ap place_of same ∙ next-place marks.number);
      bytes = text_is;
      long = ap length (sym text_is) ∙ long;
    }

-- the write or the sync failed
pub checkpoint-failed : (shape : Shape) (s : ℕ) (wholes : List Whole) (marks : LogMarks) (tails : TailMarks) (failed : Option DevError) (error : DevError) (lsn at : ℕ) (block : List ℕ) (a b : Disk) → IsLayout (run_layout shape)
    → MayBeNext marks lsn → HasNextNumber marks → WritesSector (other_place marks.number) (checkpoint_text (marks.number + 1) lsn (run_layout shape)) (write_at at block)
    → DiskHolds shape s wholes marks tails failed a → IsPutOrNot (write_at at block) a b → DiskHolds shape s wholes (after_asked lsn marks) tails (Some error) b
checkpoint-failed shape s wholes marks tails failed error lsn at block a b is_layout next small writes before calls = record {
  holds = checkpoint-adds shape s wholes marks tails a b lsn (write_at at block) is_layout before.holds next small writes (put-torn (write_at at block) a b calls);
  live = λ same. absurd cc;
}

-- both are made
pub checkpoint-made : (shape : Shape) (s : ℕ) (wholes : List Whole) (marks : LogMarks) (tails : TailMarks) (failed : Option DevError) (lsn at : ℕ) (block : List ℕ) (a b : Disk) → IsLayout (run_layout shape)
    → failed ≡ None → MayBeNext marks lsn → HasNextNumber marks → WritesSector (other_place marks.number) (checkpoint_text (marks.number + 1) lsn (run_layout shape)) (write_at at block)
    → DiskHolds shape s wholes marks tails failed a → b ≡ synced (written a (write_at at block))
    → DiskHolds shape s wholes (after_checkpoint (next_number marks.number) lsn marks) (tails_synced marks.written tails) failed b
checkpoint-made shape s wholes marks tails failed lsn at block a b is_layout live next small writes before is =
    let after = checkpointed-live shape s wholes marks tails a lsn (write_at at block) is_layout (live-of shape s wholes marks tails failed a live before) next small writes in
    let made : DiskHolds shape s wholes (after_checkpoint (marks.number + 1) lsn marks) (tails_synced marks.written tails) failed (synced (written a (write_at at block)))
    = disk-of shape s wholes (after_checkpoint (marks.number + 1) lsn marks) (tails_synced marks.written tails) failed (synced (written a (write_at at block))) after in
    subst (λ (number : ℕ). DiskHolds shape s wholes (after_checkpoint number lsn marks) (tails_synced marks.written tails) failed b) (sym (same-number marks.number small))
    (subst (λ (disk : Disk). DiskHolds shape s wholes (after_checkpoint (marks.number + 1) lsn marks) (tails_synced marks.written tails) failed disk) (sym is) made)

-- WRITING.

-- what a part knows when `write_to` is called
pub cut-from : {L : Type 0} (part : Part L) (mark ckpt : ℕ) (bytes firsts : List ℕ) (size room : ℕ) → IsSoundLogPart size part.shape part.marks part.tails room
    → MayWrite part mark bytes firsts → ckpt < 2 ^ 32 → IsCut part.shape part.marks mark ckpt (full_count bytes) bytes firsts
cut-from part mark ckpt bytes firsts size room sound may small = record {
  some_blocks = omega (arith, sound.many_blocks);
  few_blocks = omega (arith, sound.few_blocks);
  place = may.place;
  later = may.later;
  room = may.room;
  ckpt_small = small;
  count = may.count;
  fit = may.fit;
  low = omega arith;
  high = omega arith;
  small = may.small;
}

-- a call of `write_to` has at most 128 blocks
pub few-blocks : {L : Type 0} (part : Part L) (mark : ℕ) (bytes firsts : List ℕ) → MayWrite part mark bytes firsts → length firsts ≤ 128
few-blocks part mark bytes firsts may =
    let from : ℕ = block_of part.marks.written in
    let aligned : from % 512 ≡ 0 = omega arith in
    let counts = count-firsts bytes firsts may.fit in
    let end : sn_of (from + 512 * 128) ≡ sn_of from + BLOCK_DATA * 128 = sn_of-block from 128 aligned in
    let below : sn_of mark ≤ sn_of (from + 512 * 128) = sn_of-rises mark (from + 512 * 128) (omega (arith, may.near)) in
    omega (arith, counts.0, may.count)

-- and they end below the limit
pub ends-small : {L : Type 0} (part : Part L) (mark : ℕ) (bytes firsts : List ℕ) → MayWrite part mark bytes firsts
    → block_of part.marks.written + 512 * length firsts < 2 ^ 61 + 512
ends-small part mark bytes firsts may =
    let from : ℕ = block_of part.marks.written in
    let aligned : from % 512 ≡ 0 = omega arith in
    let counts = count-firsts bytes firsts may.fit in
    ⊎_elim (λ none. omega (arith, may.later, may.small))
    (λ some.
    let last : ℕ = length firsts - 1 in
    let low : from + 512 * last + 12 < mark = some-below from mark last aligned (omega (arith, counts.0, may.count)) in
    omega (arith, may.small)) (cases_lt (length firsts) 1)

-- the writes of `write_to`, given the texts that the code made
pub record AreTexts (marks : LogMarks) (tails : TailMarks) (ckpt : ℕ) (bytes firsts : List ℕ) (from at : ℕ) (full last : List ℕ) : Type 0 where
  pub from_is : from ≡ block_of marks.written
  pub at_is : at ≡ 512 * other_tail tails.tail
  pub full_is : full ≡ framed_full_blocks (block_of marks.written) bytes firsts ckpt
  pub last_is : last ≡ last_block (block_of marks.written) bytes firsts

pub texts-of : (marks : LogMarks) (tails : TailMarks) (ckpt : ℕ) (bytes firsts : List ℕ) (from k count : ℕ) (seen room last : List ℕ) → from ≡ block_of marks.written → k ≡ other_tail tails.tail → seen ≡ room
    → take count room ≡ framed_full_blocks from bytes firsts ckpt → last ≡ last_block from bytes firsts → AreTexts marks tails ckpt bytes firsts from (512 * k) (take count seen) last
texts-of marks tails ckpt bytes firsts from k count seen room last from_is k_is same full last_is = record {
  from_is = from_is;
  at_is = ap (λ n. 512 * n) k_is;
  full_is = ap (take count) same ∙ full ∙ ap (λ b. framed_full_blocks b bytes firsts ckpt) from_is;
  last_is = last_is ∙ ap (λ b. last_block b bytes firsts) from_is;
}

-- so those calls are made
pub texts_served : {D : Type 0} {gives : D → Call → D → Type 0} {old new : D} {error : Option DevError} (shape : Shape) (marks : LogMarks) (tails : TailMarks) (ckpt : ℕ) (bytes firsts : List ℕ)
    (layout : Layout) (from at : ℕ) (full last : List ℕ) → layout ≡ run_layout shape → AreTexts marks tails ckpt bytes firsts from at full last
    → MakesCalls gives old new (Serve (block_writes layout from full at last) error)
    → MakesCalls gives old new (Serve (block_writes (run_layout shape) (block_of marks.written) (framed_full_blocks (block_of marks.written) bytes firsts ckpt) (512 * other_tail tails.tail) (last_block (block_of marks.written) bytes firsts)) error)
texts_served {gives = gives} {old = old} {new = new} {error = error} shape marks tails ckpt bytes firsts layout from at full last layout_is texts made =
    let here : ℕ = block_of marks.written in
    let there : ℕ = 512 * other_tail tails.tail in
    let whole : List ℕ = framed_full_blocks here bytes firsts ckpt in
    let Made : Layout → ℕ → List ℕ → ℕ → List ℕ → Type 0 = λ layout from full at last. MakesCalls gives old new (Serve (block_writes layout from full at last) error) in
    subst (λ (x : List ℕ). Made (run_layout shape) here whole there x) texts.last_is
    (subst (λ (n : ℕ). Made (run_layout shape) here whole n last) texts.at_is
    (subst (λ (x : List ℕ). Made (run_layout shape) here x at last) texts.full_is
    (subst (λ (n : ℕ). Made (run_layout shape) n full at last) texts.from_is
    (subst (λ (l : Layout). Made l from full at last) layout_is made))))

pub write-ok : (shape : Shape) (s : ℕ) (wholes : List Whole) (marks : LogMarks) (tails : TailMarks) (failed : Option DevError) (mark ckpt : ℕ) (bytes firsts : List ℕ) (from at : ℕ) (full last : List ℕ) (a b : Disk)
    → failed ≡ None → IsDataLsn marks.written → IsCut shape marks mark ckpt (full_count bytes) bytes firsts → IsGivenTo s wholes (block_of marks.written) mark bytes firsts
    → AreTexts marks tails ckpt bytes firsts from at full last
    → DiskHolds shape s wholes marks tails failed a → b ≡ written_blocks (run_layout shape) from full at last a → DiskHolds shape s wholes (after_written mark marks) (tails_written mark tails) failed b
write-ok shape s wholes marks tails failed mark ckpt bytes firsts from at full last a b live place cut given texts before is =
    let here : ℕ = block_of marks.written in
    let there : ℕ = 512 * other_tail tails.tail in
    let whole : List ℕ = framed_full_blocks here bytes firsts ckpt in
    let same : b ≡ written_blocks (run_layout shape) here whole there (last_block here bytes firsts) a =
    is ∙ ap (λ n. written_blocks (run_layout shape) n full at last a) texts.from_is
    ∙ ap (λ (x : List ℕ). written_blocks (run_layout shape) here x at last a) texts.full_is
    ∙ ap (λ n. written_blocks (run_layout shape) here whole n last a) texts.at_is
    ∙ ap (λ (x : List ℕ). written_blocks (run_layout shape) here whole there x a) texts.last_is in
    disk-of shape s wholes (after_written mark marks) (tails_written mark tails) failed b
    (write_to-ok shape s wholes marks tails mark ckpt (full_count bytes) bytes firsts a b place cut given (live-of shape s wholes marks tails failed a live before) same)

pub write-err : (shape : Shape) (s : ℕ) (wholes : List Whole) (marks : LogMarks) (tails : TailMarks) (failed : Option DevError) (error : DevError) (mark ckpt : ℕ) (bytes firsts : List ℕ) (from at : ℕ) (full last : List ℕ) (a b : Disk)
    → failed ≡ None → IsDataLsn marks.written → IsCut shape marks mark ckpt (full_count bytes) bytes firsts → IsGivenTo s wholes (block_of marks.written) mark bytes firsts
    → AreTexts marks tails ckpt bytes firsts from at full last
    → DiskHolds shape s wholes marks tails failed a → FailsBlocks (run_layout shape) from full at last a b → DiskHolds shape s wholes (after_given mark marks) tails (Some error) b
write-err shape s wholes marks tails failed error mark ckpt bytes firsts from at full last a b live place cut given texts before fails =
    let here : ℕ = block_of marks.written in
    let there : ℕ = 512 * other_tail tails.tail in
    let whole : List ℕ = framed_full_blocks here bytes firsts ckpt in
    let same : FailsBlocks (run_layout shape) here whole there (last_block here bytes firsts) a b =
    subst (λ (x : List ℕ). FailsBlocks (run_layout shape) here whole there x a b) texts.last_is
    (subst (λ (n : ℕ). FailsBlocks (run_layout shape) here whole n last a b) texts.at_is
    (subst (λ (x : List ℕ). FailsBlocks (run_layout shape) here x at last a b) texts.full_is
    (subst (λ (n : ℕ). FailsBlocks (run_layout shape) n full at last a b) texts.from_is fails))) in
    record {
      holds = write_to-err shape s wholes marks tails mark ckpt (full_count bytes) bytes firsts a b place cut given (live-of shape s wholes marks tails failed a live before) same;
      live = λ same. absurd cc;
    }
