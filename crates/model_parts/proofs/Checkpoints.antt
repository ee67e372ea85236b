-- A sync and a checkpoint keep what a log device holds.
use Rattle.std.proofs.Common.{◌≡◌, ◌&&◌, ◌==◌, ◌≤◌, ◌+◌, ◌-◌, ◌*◌, ◌%◌, ◌⊎◌, ℕ, inl, inr, false, cond, List, length, take, drop, Option, Some, None, refl, sym, ap, subst, ◌∙◌, ⊎_elim, arith}
use Rattle.std.specs.Prelude.{nat_le, nat_lt}
use Rattle.std.proofs.lemmas.List.{take_all}
use Rattle.std.proofs.lemmas.Bool.Decides.{nat_tests}
use Rattle.model_base.specs.{field}
use Rattle.model_base.specs.declared.limits.TheConstants.{BLOCK_SIZE, LSN_LIMIT, START_LSN}
use Rattle.model_base.specs.declared.shape.Shape.{Shape}
use Rattle.model_device.specs.{after_write, Covers, IsSectorWrite, sector, synced, written, written_sector, Disk}
use Rattle.model_device.specs.declared.write.Write.{Write}
use Rattle.model_device.proofs.Overwritten.{length-overwritten, part-overwritten_inside}
use Rattle.model_log.specs.declared.group.Whole.{Whole}
use Rattle.model_log.specs.declared.layout.Layout.{Layout}
use Rattle.model_log.specs.{checkpoint_text, fits_checksum, IsInRound, IsLayout, IsTailPlace, log_device_length, place_in, place_of, read_checkpoint, read_head, run_layout, sector_of}
use Rattle.model_log.proofs.CheckpointRound.{checkpoint-reads_back}
use Rattle.model_log.proofs.Layouts.{has-blocks}
use Rattle.model_log.proofs.Places.{HasBlocks}
use Rattle.model_parts.specs.declared.marks.LogMarks.{LogMarks}
use Rattle.model_parts.specs.declared.marks.TailMarks.{TailMarks}
use Rattle.model_parts.specs.Held.{AreInOrder, HoldsTail, IsBeside, IsBlockPlace, IsLive, IsTail, IsWritten, LogHoldsWith, MayStand, other_place}
use Rattle.model_parts.specs.Marks.{after_asked, after_checkpoint, after_synced, tails_synced}
use Rattle.model_parts.specs.NextMarks.{HasNextNumber, MayBeNext}
use Rattle.model_parts.proofs.LogImages.{beside-kept, header-below, place-cases, places-on}
use Rattle.model_parts.proofs.Puts.{adds-holds, HasToStay, place-past, place-wider, PutsWell, tail-wider}
use Rattle.model_parts.proofs.Torn.{AddsTorn, synced-stands}
use Rattle.model_parts.proofs.Writing.{stays}
use Rattle.std.proofs.lemmas.List.Elements.{All-nil}

-- A SYNC.

-- a device with no write since a good sync holds what reads give, and the written mark is kept
settled-holds : (shape : Shape) (s : ℕ) (wholes : List Whole) (marks : LogMarks) (tails : TailMarks) (disk : Disk) → AreInOrder (run_layout shape) s wholes marks
    → IsWritten shape s wholes marks tails disk → LogHoldsWith shape s wholes marks (tails_synced marks.written tails) (synced disk)
settled-holds shape s wholes marks tails disk order is =
    let only : (k : ℕ) (bytes : List ℕ) → MayStand (synced disk) k bytes → bytes ≡ sector k disk.reads = λ k bytes may. synced-stands disk k bytes may in
    record {
      long = is.long;
      sectors = All-nil (IsSectorWrite (length disk.reads));
      heads = λ k at bytes may. ap read_head (only k bytes may) ∙ is.heads k at;
      order = order;
      kept = record { boundary = order.written; from = order.stable_written; up_to = omega arith; place = is.place };
      blocks = λ b in_round bytes may. subst (λ (x : List ℕ). IsBlockPlace s wholes marks.written marks.given b x) (sym (only (sector_of (run_layout shape) b) bytes may))
          (place-wider s wholes marks.written marks.written marks.written marks.given b (sector (sector_of (run_layout shape) b) disk.reads) (omega arith) order.written_given (is.blocks b in_round));
      tail_blocks = λ k at bytes may. subst (λ (x : List ℕ). IsTail s wholes marks.given marks.ckpt x) (sym (only k bytes may))
          (tail-wider s wholes marks.written marks.given marks.ckpt marks.ckpt (sector k disk.reads) order.written_given (omega arith) (is.tail_blocks k at));
      kept_tail = λ bytes may. subst (λ (x : List ℕ). HoldsTail s wholes marks.written x) (sym (only tails.newest bytes may)) is.newest_tail;
      checkpoint = λ bytes may. ap (read_checkpoint (place_of marks.number) (run_layout shape)) (only (place_of marks.number) bytes may) ∙ is.checkpoint;
      beside = λ bytes may. subst (λ (x : List ℕ). IsBeside marks (read_checkpoint (other_place marks.number) (run_layout shape) x)) (sym (only (other_place marks.number) bytes may)) is.beside;
    }

settled-live : (shape : Shape) (s : ℕ) (wholes : List Whole) (marks : LogMarks) (tails : TailMarks) (disk : Disk) → AreInOrder (run_layout shape) s wholes marks
    → IsWritten shape s wholes marks tails disk → IsLive shape s wholes marks (tails_synced marks.written tails) (synced disk)
settled-live shape s wholes marks tails disk order is = record {
  holds = settled-holds shape s wholes marks tails disk order is;
  is_written = record {
    long = is.long;
    heads = is.heads;
    all_given = is.all_given;
    place = is.place;
    blocks = is.blocks;
    tail_blocks = is.tail_blocks;
    newest_tail = is.newest_tail;
    checkpoint = is.checkpoint;
    beside = is.beside;
  };
}

in_order-synced : (layout : Layout) (s : ℕ) (wholes : List Whole) (marks : LogMarks) → AreInOrder layout s wholes marks → AreInOrder layout s wholes (after_synced marks)
in_order-synced layout s wholes marks order = record {
  starts = order.starts;
  run = order.run;
  stable = order.written;
  written = order.written;
  given = order.given;
  stable_written = omega arith;
  written_given = order.written_given;
  ckpt_aligned = order.ckpt_aligned;
  ckpt_started = order.ckpt_started;
  ckpt_from = order.ckpt_from;
  ckpt_asked = order.ckpt_asked;
  asked_stable = omega (arith, order.asked_stable, order.stable_written);
  room = order.room;
}

-- a good sync
pub synced-live : (shape : Shape) (s : ℕ) (wholes : List Whole) (marks : LogMarks) (tails : TailMarks) (disk : Disk) → IsLive shape s wholes marks tails disk
    → IsLive shape s wholes (after_synced marks) (tails_synced marks.written tails) (synced disk)
synced-live shape s wholes marks tails disk live =
    let is : IsWritten shape s wholes marks tails disk = live.is_written in
    settled-live shape s wholes (after_synced marks) tails disk (in_order-synced (run_layout shape) s wholes marks live.holds.order) (record {
      long = is.long;
      heads = is.heads;
      all_given = is.all_given;
      place = is.place;
      blocks = is.blocks;
      tail_blocks = is.tail_blocks;
      newest_tail = is.newest_tail;
      checkpoint = is.checkpoint;
      beside = beside-kept marks (after_synced marks) refl refl (omega arith) (read_checkpoint (other_place marks.number) (run_layout shape) (sector (other_place marks.number) disk.reads)) is.beside;
    })

-- A CHECKPOINT.

-- a write of one sector
pub record WritesSector (k : ℕ) (text : List ℕ) (write : Write) : Type 0 where
  pub at_place : write.at ≡ 512 * k
  pub bytes : write.bytes ≡ text
  pub long : length text ≡ 512

only-sector : (k j : ℕ) (text : List ℕ) (write : Write) → WritesSector k text write → Covers write j → j ≡ k
only-sector k j text write writes covers = omega (arith, covers.from, covers.up_to, writes.at_place, ap length writes.bytes, writes.long)

sector-text : (k : ℕ) (text : List ℕ) (write : Write) → WritesSector k text write → written_sector write k ≡ text
sector-text k text write writes =
    let skip : 512 * k - write.at ≡ 0 = omega (arith, writes.at_place) in
    ap (λ n. take 512 (drop n write.bytes)) skip ∙ ap (take 512) writes.bytes ∙ take_all 512 text (omega (arith, writes.long))

sector-sectors : (k n : ℕ) (text : List ℕ) (write : Write) → WritesSector k text write → 512 * k + 512 ≤ n → IsSectorWrite n write
sector-sectors k n text write writes within = record {
  aligned = omega (arith, writes.at_place);
  whole = omega (arith, ap length writes.bytes, writes.long);
  within = omega (arith, ap length writes.bytes, writes.long, writes.at_place);
}

pub next-place : (number : ℕ) → place_of (number + 1) ≡ other_place number
next-place number = grind (arith, nat_tests)

next-other : (number : ℕ) → other_place (number + 1) ≡ place_of number
next-other number = grind (arith, nat_tests)

places-differ : (number : ℕ) → place_of number ≡ other_place number → ⊥
places-differ number same = ⊎_elim (λ e. omega (arith, e.0, e.1)) (λ o. omega (arith, o.0, o.1)) (place-cases number)

other-odd : (number : ℕ) → (other_place number ≡ 1) ⊎ (other_place number ≡ 3)
other-odd number = ⊎_elim (λ e. inr e.1) (λ o. inl o.1) (place-cases number)

next-read : (layout : Layout) (marks : LogMarks) (lsn : ℕ) → IsLayout layout → START_LSN ≤ lsn → MayBeNext marks lsn → HasNextNumber marks
    → read_checkpoint (other_place marks.number) layout (checkpoint_text (marks.number + 1) lsn layout) ≡ Some (marks.number + 1, lsn)
next-read layout marks lsn is_layout started next small =
    ap (λ k. read_checkpoint k layout (checkpoint_text (marks.number + 1) lsn layout)) (sym (next-place marks.number))
    ∙ checkpoint-reads_back (marks.number + 1) lsn layout is_layout small started next.small next.aligned

-- no checkpoint passes whose checksum doesn't fit
broken-checkpoint : (which : ℕ) (layout : Layout) (bytes : List ℕ) → fits_checksum bytes ≡ false → read_checkpoint which layout bytes ≡ None
unfolding read_checkpoint
broken-checkpoint which layout bytes broken =
    ap (λ t. cond t (Some (field 8 0 bytes, field 8 8 bytes)) None)
    (ap (λ t. t && place_of (field 8 0 bytes) == which
    && field 8 8 bytes % BLOCK_SIZE == 0 && nat_le START_LSN (field 8 8 bytes) && nat_lt (field 8 8 bytes) LSN_LIMIT
    && field 8 16 bytes == place_in layout (field 8 8 bytes)) broken)

in_order-asked : (layout : Layout) (s : ℕ) (wholes : List Whole) (marks : LogMarks) (lsn : ℕ) → AreInOrder layout s wholes marks → MayBeNext marks lsn
    → AreInOrder layout s wholes (after_asked lsn marks)
in_order-asked layout s wholes marks lsn order next = record {
  starts = order.starts;
  run = order.run;
  stable = order.stable;
  written = order.written;
  given = order.given;
  stable_written = order.stable_written;
  written_given = order.written_given;
  ckpt_aligned = order.ckpt_aligned;
  ckpt_started = order.ckpt_started;
  ckpt_from = order.ckpt_from;
  ckpt_asked = omega (arith, order.ckpt_asked, next.from);
  asked_stable = next.up_to;
  room = order.room;
}

-- the write of a checkpoint covers no sector but its own
no-other : (number j : ℕ) → (j ≡ 0) ⊎ (j ≡ 2) ⊎ (4 ≤ j) → j ≡ other_place number → ⊥
no-other number j is same =
    ⊎_elim (λ o. ⊎_elim (λ a. omega arith) (λ r. ⊎_elim (λ b. omega arith) (λ c. omega arith) r) is)
    (λ t. ⊎_elim (λ a. omega arith) (λ r. ⊎_elim (λ b. omega arith) (λ c. omega arith) r) is) (other-odd number)

spared : (marks : LogMarks) (tails : TailMarks) (j : ℕ) → IsTailPlace tails.tail → HasToStay marks tails j → j ≡ other_place marks.number → ⊥
spared marks tails j place is same =
    ⊎_elim (λ head. no-other marks.number j (⊎_elim (λ a. inl a) (λ b. inr (inl b)) head) same)
    (λ q. ⊎_elim (λ own. places-differ marks.number (sym own ∙ same))
    (λ tail. no-other marks.number j (inr (inr (⊎_elim (λ e. omega arith) (λ o. omega arith) place))) same) q) is

-- what it leaves beside the newest good one, whole or torn
asked-beside : (layout : Layout) (marks : LogMarks) (lsn : ℕ) (text bytes : List ℕ) → marks.ckpt ≤ lsn → MayBeNext marks lsn
    → read_checkpoint (other_place marks.number) layout text ≡ Some (marks.number + 1, lsn) → (bytes ≡ text) ⊎ (fits_checksum bytes ≡ false)
    → IsBeside (after_asked lsn marks) (read_checkpoint (other_place marks.number) layout bytes)
asked-beside layout marks lsn text bytes later next reads is =
    ⊎_elim
    (λ whole.
    let found : read_checkpoint (other_place marks.number) layout bytes ≡ Some (marks.number + 1, lsn) = ap (read_checkpoint (other_place marks.number) layout) whole ∙ reads in
    subst (λ (found : Option (ℕ × ℕ)). IsBeside (after_asked lsn marks) found) (sym found) (inr (record { next = refl; from = later; up_to = omega arith; aligned = next.aligned })))
    (λ broken. subst (λ (found : Option (ℕ × ℕ)). IsBeside (after_asked lsn marks) found) (sym (broken-checkpoint (other_place marks.number) layout bytes broken)) tt) is

-- its write, Ok or not, and a sync of it that fails, keep what holds
pub checkpoint-adds : (shape : Shape) (s : ℕ) (wholes : List Whole) (marks : LogMarks) (tails : TailMarks) (old new : Disk) (lsn : ℕ) (write : Write) → IsLayout (run_layout shape)
    → LogHoldsWith shape s wholes marks tails old → MayBeNext marks lsn → HasNextNumber marks
    → WritesSector (other_place marks.number) (checkpoint_text (marks.number + 1) lsn (run_layout shape)) write
    → AddsTorn write old new → LogHoldsWith shape s wholes (after_asked lsn marks) tails new
checkpoint-adds shape s wholes marks tails old new lsn write is_layout holds next small writes adds =
    let order : AreInOrder (run_layout shape) s wholes marks = holds.order in
    let later : marks.ckpt ≤ lsn = omega (arith, order.ckpt_asked, next.from) in
    let k : ℕ = other_place marks.number in
    let text : List ℕ = checkpoint_text (marks.number + 1) lsn (run_layout shape) in
    let only : (j : ℕ) → Covers write j → j ≡ k = λ j covers. only-sector k j text write writes covers in
    let blocks : HasBlocks (run_layout shape) = has-blocks (run_layout shape) is_layout in
    let limits = header-below marks.number in
    let puts : PutsWell shape s wholes (after_asked lsn marks) tails write = record {
      sectors = sector-sectors k (log_device_length shape) text write writes (omega (arith, limits.1, blocks.some));
      spares = λ j is covers. spared marks tails j holds.kept.place is (only j covers);
      blocks = λ b in_round covers bytes is. (
          let past : 6 ≤ sector_of (run_layout shape) b = place-past shape b in
          absurd (no-other marks.number (sector_of (run_layout shape) b) (inr (inr (omega arith))) (only (sector_of (run_layout shape) b) covers)));
      tail_blocks = λ j at covers bytes is. absurd (no-other marks.number j (inr (inr (⊎_elim (λ e. omega arith) (λ o. omega arith) at))) (only j covers));
      beside = λ covers bytes is. asked-beside (run_layout shape) marks lsn text bytes later next
          (next-read (run_layout shape) marks lsn is_layout (omega (arith, order.ckpt_started)) next small)
          (⊎_elim (λ whole. inl (whole ∙ sector-text k text write writes)) (λ broken. inr broken) is);
    } in
    adds-holds shape s wholes marks (after_asked lsn marks) tails old new write holds
    (record { same_stable = refl; same_written = refl; same_number = refl; same_ckpt = refl; given = omega arith; asked = next.from })
    (in_order-asked (run_layout shape) s wholes marks lsn order next) puts adds

in_order-checkpoint : (layout : Layout) (s : ℕ) (wholes : List Whole) (marks : LogMarks) (lsn : ℕ) → AreInOrder layout s wholes marks → MayBeNext marks lsn
    → AreInOrder layout s wholes (after_checkpoint (marks.number + 1) lsn marks)
in_order-checkpoint layout s wholes marks lsn order next = record {
  starts = order.starts;
  run = order.run;
  stable = order.stable;
  written = order.written;
  given = order.given;
  stable_written = order.stable_written;
  written_given = order.written_given;
  ckpt_aligned = next.aligned;
  ckpt_started = omega (arith, order.ckpt_started, order.ckpt_asked, next.from);
  ckpt_from = omega (arith, order.ckpt_from, order.ckpt_asked, next.from);
  ckpt_asked = omega arith;
  asked_stable = next.up_to;
  room = omega (arith, order.room, order.ckpt_asked, next.from);
}

-- its write and its sync, both good
pub checkpointed-live : (shape : Shape) (s : ℕ) (wholes : List Whole) (marks : LogMarks) (tails : TailMarks) (disk : Disk) (lsn : ℕ) (write : Write) → IsLayout (run_layout shape)
    → IsLive shape s wholes marks tails disk → MayBeNext marks lsn → HasNextNumber marks
    → WritesSector (other_place marks.number) (checkpoint_text (marks.number + 1) lsn (run_layout shape)) write
    → IsLive shape s wholes (after_checkpoint (marks.number + 1) lsn marks) (tails_synced marks.written tails) (synced (written disk write))
checkpointed-live shape s wholes marks tails disk lsn write is_layout live next small writes =
    let is : IsWritten shape s wholes marks tails disk = live.is_written in
    let order : AreInOrder (run_layout shape) s wholes marks = live.holds.order in
    let later : marks.ckpt ≤ lsn = omega (arith, order.ckpt_asked, next.from) in
    let blocks : HasBlocks (run_layout shape) = has-blocks (run_layout shape) is_layout in
    let long : log_device_length shape ≤ length disk.reads = is.long in
    let k : ℕ = other_place marks.number in
    let text : List ℕ = checkpoint_text (marks.number + 1) lsn (run_layout shape) in
    let limits = header-below marks.number in
    let reads : List ℕ = after_write disk.reads write in
    let sectors : IsSectorWrite (length disk.reads) write = sector-sectors k (length disk.reads) text write writes (omega (arith, limits.1, blocks.some)) in
    let kept : (j : ℕ) → (j ≡ k → ⊥) → sector j reads ≡ sector j disk.reads = λ j other.
    stays disk.reads write j sectors (λ covers. other (only-sector k j text write writes covers)) in
    let past : (j : ℕ) → 4 ≤ j → sector j reads ≡ sector j disk.reads = λ j far. kept j (λ same. no-other marks.number j (inr (inr far)) same) in
    let put : sector k reads ≡ text =
    part-overwritten_inside 512 (512 * k) write.at write.bytes disk.reads (omega (arith, writes.at_place)) (omega (arith, ap length writes.bytes, writes.long, writes.at_place)) sectors.within
    ∙ sector-text k text write writes in
    let own : read_checkpoint k (run_layout shape) (sector k reads) ≡ Some (marks.number + 1, lsn) =
    ap (read_checkpoint k (run_layout shape)) put ∙ next-read (run_layout shape) marks lsn is_layout (omega (arith, order.ckpt_started)) next small in
    let older : read_checkpoint (other_place (marks.number + 1)) (run_layout shape) (sector (other_place (marks.number + 1)) reads) ≡ Some (marks.number, marks.ckpt) =
    ap (λ j. read_checkpoint j (run_layout shape) (sector j reads)) (next-other marks.number)
    ∙ ap (read_checkpoint (place_of marks.number) (run_layout shape)) (kept (place_of marks.number) (λ same. places-differ marks.number same)) ∙ is.checkpoint in
    let places : (b : ℕ) → IsInRound (run_layout shape) lsn b → IsBlockPlace s wholes marks.written marks.written b (sector (sector_of (run_layout shape) b) disk.reads) =
    places-on (run_layout shape) s wholes marks marks.written marks.written lsn (λ j. sector j disk.reads) blocks order order.stable_written
    (omega (arith, order.written_given, order.room)) next.aligned later next.up_to is.blocks in
    settled-live shape s wholes (after_checkpoint (marks.number + 1) lsn marks) tails (written disk write) (in_order-checkpoint (run_layout shape) s wholes marks lsn order next) (record {
      long = omega (arith, length-overwritten write.at write.bytes disk.reads sectors.within);
      heads = λ j at. ap read_head (kept j (λ same. no-other marks.number j (⊎_elim (λ a. inl a) (λ b. inr (inl b)) at) same)) ∙ is.heads j at;
      all_given = is.all_given;
      place = is.place;
      blocks = λ b in_round. (
          let low : 6 ≤ sector_of (run_layout shape) b = place-past shape b in
          subst (λ (x : List ℕ). IsBlockPlace s wholes marks.written marks.written b x) (sym (past (sector_of (run_layout shape) b) (omega arith))) (places b in_round));
      tail_blocks = λ j at. subst (λ (x : List ℕ). IsTail s wholes marks.written lsn x) (sym (past j (⊎_elim (λ e. omega arith) (λ o. omega arith) at)))
          (tail-wider s wholes marks.written marks.written marks.ckpt lsn (sector j disk.reads) (omega arith) later (is.tail_blocks j at));
      newest_tail = subst (λ (x : List ℕ). HoldsTail s wholes marks.written x) (sym (past tails.newest (⊎_elim (λ e. omega arith) (λ o. omega arith) is.place))) is.newest_tail;
      checkpoint = ap (λ j. read_checkpoint j (run_layout shape) (sector j reads)) (next-place marks.number) ∙ own;
      beside = subst (λ (found : Option (ℕ × ℕ)). IsBeside (after_checkpoint (marks.number + 1) lsn marks) found) (sym older) (inl (omega arith));
    })
