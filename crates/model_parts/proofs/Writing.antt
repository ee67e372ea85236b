-- What reads give while `write_to` writes.
use Rattle.std.proofs.Common.{◌≡◌, ◌≤◌, ◌<◌, ◌+◌, ◌-◌, ◌*◌, ◌/◌, ◌⊎◌, ℕ, inl, inr, true, false, cond, List, length, take, drop, Some, None, refl, sym, ap, subst, ◌∙◌, ⊎_elim, arith}
use Rattle.std.specs.Prelude.{nat_lt}
use Rattle.std.proofs.lemmas.Bool.{cases_lt}
use Rattle.std.proofs.lemmas.Bool.Decides.{nat_tests}
use Rattle.model_base.specs.declared.shape.Shape.{Shape}
use Rattle.model_base.specs.declared.limits.TheConstants.{START_LSN}
use Rattle.model_device.specs.{after_write, Covers, IsSectorWrite, sector, written, written_sector, Disk}
use Rattle.model_device.specs.declared.write.Write.{Write}
use Rattle.model_device.proofs.Images.{sector-after_write}
use Rattle.model_device.proofs.Overwritten.{length-overwritten, part-overwritten_inside}
use Rattle.model_log.specs.declared.group.Whole.{Whole}
use Rattle.model_log.specs.declared.head.Head.TheVariants.{Good}
use Rattle.model_log.specs.declared.layout.Layout.{Layout}
use Rattle.model_log.specs.{block_of, IsBoundary, IsBoundaryBlock, IsInRound, IsTailPlace, log_device_length, other_tail, place_in, place_of, read_checkpoint, read_head, round_of, run_layout, sector_of, spans_of, run_format}
use Rattle.model_log.proofs.Places.{place-on, sector-place}
use Rattle.model_log.proofs.Runs.{boundary-reached, data-start}
use Rattle.model_store.specs.{read_full}
use Rattle.model_parts.specs.declared.marks.LogMarks.{LogMarks}
use Rattle.model_parts.specs.declared.marks.TailMarks.{TailMarks}
use Rattle.model_parts.specs.Held.{AreInOrder, HoldsTail, IsBeside, IsFullBlock, IsHeadPlace, IsLive, IsTail, IsTailBlock, IsWritten, LogHoldsWith, other_place}
use Rattle.model_parts.specs.Marks.{after_given, after_written, tails_written}
use Rattle.model_parts.proofs.LogImages.{beside-kept, header-below}
use Rattle.model_parts.proofs.Puts.{adds-holds, covered, full-puts, full-wider, IsOneOf, MovesOn, not-below, only-tail, place-past, place-wider, tail-puts, tail-text, tail-wider, WritesFull, WritesTail}
use Rattle.model_parts.proofs.Tails.{tail-is}
use Rattle.model_parts.proofs.Torn.{AddsTorn, adds-torn}

-- Each place once the blocks below p are written for the mark: the mark's full block, or no full one, and that from p on.
abbrev pub IsPlaceUpTo : ℕ → List Whole → ℕ → ℕ → ℕ → List ℕ → Type 0
IsPlaceUpTo s wholes mark p b bytes = IsFullBlock s wholes mark b bytes ⊎ ((p ≤ b) × (read_full b bytes ≡ None))

-- A part in the midst of `write_to`: the full blocks below p are written for the mark.
pub record IsWriting (shape : Shape) (s : ℕ) (wholes : List Whole) (marks : LogMarks) (tails : TailMarks) (mark p : ℕ) (disk : Disk) : Type 0 where
  pub holds : LogHoldsWith shape s wholes (after_given mark marks) tails disk
  pub long : log_device_length shape ≤ length disk.reads
  pub heads : (k : ℕ) → IsHeadPlace k → read_head (sector k disk.reads) ≡ Good (run_format shape) shape
  pub later : marks.written ≤ mark
  pub place : IsTailPlace tails.newest
  pub blocks : (b : ℕ) → IsInRound (run_layout shape) marks.ckpt b → IsPlaceUpTo s wholes mark p b (sector (sector_of (run_layout shape) b) disk.reads)
  pub tail_blocks : (k : ℕ) → IsTailPlace k → IsTail s wholes mark marks.ckpt (sector k disk.reads)
  pub checkpoint : read_checkpoint (place_of marks.number) (run_layout shape) (sector (place_of marks.number) disk.reads) ≡ Some (marks.number, marks.ckpt)
  pub beside : IsBeside marks (read_checkpoint (other_place marks.number) (run_layout shape) (sector (other_place marks.number) disk.reads))

in_order-given : (layout : Layout) (s : ℕ) (wholes : List Whole) (marks : LogMarks) (mark : ℕ) → AreInOrder layout s wholes marks → IsBoundary s (spans_of wholes) mark
    → marks.given ≤ mark → mark ≤ marks.ckpt + round_of layout → AreInOrder layout s wholes (after_given mark marks)
in_order-given layout s wholes marks mark order boundary later room = record {
  starts = order.starts;
  run = order.run;
  stable = order.stable;
  written = order.written;
  given = boundary;
  stable_written = order.stable_written;
  written_given = omega (arith, order.written_given);
  ckpt_aligned = order.ckpt_aligned;
  ckpt_started = order.ckpt_started;
  ckpt_from = order.ckpt_from;
  ckpt_asked = order.ckpt_asked;
  asked_stable = order.asked_stable;
  room = room;
}

moves-given : (marks : LogMarks) (mark : ℕ) → marks.given ≤ mark → MovesOn marks (after_given mark marks)
moves-given marks mark later = record {
  same_stable = refl;
  same_written = refl;
  same_number = refl;
  same_ckpt = refl;
  given = later;
  asked = omega arith;
}

-- the mark is given, and nothing is written yet
given-holds : (shape : Shape) (s : ℕ) (wholes : List Whole) (marks : LogMarks) (tails : TailMarks) (disk : Disk) (mark : ℕ) → LogHoldsWith shape s wholes marks tails disk
    → IsBoundary s (spans_of wholes) mark → marks.given ≤ mark → mark ≤ marks.ckpt + round_of (run_layout shape) → LogHoldsWith shape s wholes (after_given mark marks) tails disk
given-holds shape s wholes marks tails disk mark holds boundary later room = record {
  long = holds.long;
  sectors = holds.sectors;
  heads = holds.heads;
  order = in_order-given (run_layout shape) s wholes marks mark holds.order boundary later room;
  kept = record { boundary = holds.kept.boundary; from = holds.kept.from; up_to = holds.kept.up_to; place = holds.kept.place };
  blocks = λ b in_round bytes is. place-wider s wholes tails.kept marks.given tails.kept mark b bytes (omega arith) later (holds.blocks b in_round bytes is);
  tail_blocks = λ k at bytes is. tail-wider s wholes marks.given mark marks.ckpt marks.ckpt bytes later (omega arith) (holds.tail_blocks k at bytes is);
  kept_tail = holds.kept_tail;
  checkpoint = holds.checkpoint;
  beside = λ bytes is. beside-kept marks (after_given mark marks) refl refl (omega arith) (read_checkpoint (other_place marks.number) (run_layout shape) bytes) (holds.beside bytes is);
}

pub writing-begin : (shape : Shape) (s : ℕ) (wholes : List Whole) (marks : LogMarks) (tails : TailMarks) (disk : Disk) (mark : ℕ) → IsLive shape s wholes marks tails disk
    → IsBoundary s (spans_of wholes) mark → marks.written ≤ mark → mark ≤ marks.ckpt + round_of (run_layout shape)
    → IsWriting shape s wholes marks tails mark (block_of marks.written) disk
writing-begin shape s wholes marks tails disk mark live boundary later room =
    let holds : LogHoldsWith shape s wholes marks tails disk = live.holds in
    let is : IsWritten shape s wholes marks tails disk = live.is_written in
    let after = boundary-reached s wholes marks.written (data-start s holds.order.starts) holds.order.run holds.order.written in
    record {
      holds = given-holds shape s wholes marks tails disk mark holds boundary (omega (arith, is.all_given)) room;
      long = is.long;
      heads = is.heads;
      later = later;
      place = is.place;
      blocks = λ b in_round. ⊎_elim
          (λ full. inl (full-wider s wholes marks.written mark b (sector (sector_of (run_layout shape) b) disk.reads) later full))
          (λ none. inr (omega (arith, none.none_below, in_round.aligned, after.place), none.unread)) (is.blocks b in_round);
      tail_blocks = λ k at. tail-wider s wholes marks.written mark marks.ckpt marks.ckpt (sector k disk.reads) later (omega arith) (is.tail_blocks k at);
      checkpoint = is.checkpoint;
      beside = is.beside;
    }

-- A WRITE IN PLACE.

-- such a write, Ok or not
pub full-adds : (shape : Shape) (s : ℕ) (wholes : List Whole) (marks : LogMarks) (tails : TailMarks) (mark p count : ℕ) (write : Write) (old new : Disk) → 1 ≤ (run_layout shape).blocks
    → IsWriting shape s wholes marks tails mark p old → WritesFull shape s wholes tails.kept mark marks.ckpt p count write → AddsTorn write old new
    → LogHoldsWith shape s wholes (after_given mark marks) tails new
full-adds shape s wholes marks tails mark p count write old new some is writes adds =
    adds-holds shape s wholes (after_given mark marks) (after_given mark marks) tails old new write is.holds (moves-given (after_given mark marks) mark (omega arith)) is.holds.order
    (full-puts shape s wholes (after_given mark marks) tails p count write some is.holds.kept.place is.holds.order.ckpt_started writes) adds

full-within : (shape : Shape) (s : ℕ) (wholes : List Whole) (kept mark ckpt p count : ℕ) (write : Write) (reads : List ℕ) → 1 ≤ (run_layout shape).blocks
    → WritesFull shape s wholes kept mark ckpt p count write → log_device_length shape ≤ length reads → IsSectorWrite (length reads) write
full-within shape s wholes kept mark ckpt p count write reads some writes long =
    let first : 512 * sector_of (run_layout shape) p ≡ place_in (run_layout shape) p = sector-place (run_layout shape) p in
    record {
      aligned = omega (arith, writes.at_place);
      whole = omega (arith, writes.long);
      within = omega (arith, writes.long, writes.within_log);
    }

-- sectors that it doesn't cover stay
pub stays : (reads : List ℕ) (write : Write) (k : ℕ) → IsSectorWrite (length reads) write → (Covers write k → ⊥) → sector k (after_write reads write) ≡ sector k reads
stays reads write k sectors none = ⊎_elim (λ new. absurd (none new.0)) (λ same. same) (sector-after_write reads write k sectors)

-- the place of a block that is written
put-full : (shape : Shape) (s : ℕ) (wholes : List Whole) (mark p count b : ℕ) (kept ckpt : ℕ) (write : Write) (bytes : List ℕ)
    → WritesFull shape s wholes kept mark ckpt p count write → IsOneOf (run_layout shape) p count b write → bytes ≡ written_sector write (sector_of (run_layout shape) b)
    → IsFullBlock s wholes mark b bytes
put-full shape s wholes mark p count b kept ckpt write bytes writes one put =
    let text : bytes ≡ take 512 (drop (512 * one.i) write.bytes) = put ∙ one.bytes in
    record {
      full = omega (arith, one.is, writes.full one.i one.below);
      block = subst (λ (c : ℕ). IsBoundaryBlock s wholes mark c bytes) (sym one.is)
          (subst (λ (x : List ℕ). IsBoundaryBlock s wholes mark (p + 512 * one.i) x) (sym text) (writes.each one.i one.below));
    }

blocks-more : (shape : Shape) (s : ℕ) (wholes : List Whole) (kept mark ckpt p count b : ℕ) (write : Write) (reads : List ℕ) → START_LSN ≤ ckpt → 1 ≤ (run_layout shape).blocks → log_device_length shape ≤ length reads
    → WritesFull shape s wholes kept mark ckpt p count write → IsInRound (run_layout shape) ckpt b → IsPlaceUpTo s wholes mark p b (sector (sector_of (run_layout shape) b) reads)
    → IsPlaceUpTo s wholes mark (p + 512 * count) b (sector (sector_of (run_layout shape) b) (after_write reads write))
blocks-more shape s wholes kept mark ckpt p count b write reads started some long writes in_round is =
    let sectors : IsSectorWrite (length reads) write = full-within shape s wholes kept mark ckpt p count write reads some writes long in
    let k : ℕ = sector_of (run_layout shape) b in
    let here : 512 * k ≡ place_in (run_layout shape) b = sector-place (run_layout shape) b in
    ⊎_elim
    (λ new. inl (put-full shape s wholes mark p count b kept ckpt write (sector k (after_write reads write)) writes
    (covered shape s wholes kept mark ckpt p count b write started writes in_round new.0) new.1))
    (λ same.
    ⊎_elim (λ full. inl (subst (λ (x : List ℕ). IsFullBlock s wholes mark b x) (sym same) full))
    (λ none. ⊎_elim
    (λ inside.
    let i : ℕ = (b - p) / 512 in
    let at : b ≡ p + 512 * i = omega (arith, in_round.aligned, writes.aligned, none.0) in
    let below : i < count = omega arith in
    let next : place_in (run_layout shape) (p + 512 * i) ≡ place_in (run_layout shape) p + 512 * i =
    place-on (run_layout shape) p i count writes.aligned (omega (arith, writes.started)) below (omega (arith, writes.at_place, writes.within_log)) in
    let place : place_in (run_layout shape) b ≡ write.at + 512 * i = ap (place_in (run_layout shape)) at ∙ next ∙ ap (λ n. n + 512 * i) (sym writes.at_place) in
    let covers : Covers write k = record { from = omega arith; up_to = omega (arith, writes.long) } in
    let put : sector k (after_write reads write) ≡ written_sector write k =
    part-overwritten_inside 512 (512 * k) write.at write.bytes reads covers.from covers.up_to sectors.within in
    inl (put-full shape s wholes mark p count b kept ckpt write (sector k (after_write reads write)) writes
    (covered shape s wholes kept mark ckpt p count b write started writes in_round covers) put))
    (λ past. inr (past, ap (read_full b) same ∙ none.1)) (cases_lt b (p + 512 * count))) is)
    (sector-after_write reads write k sectors)

pub writing-more : (shape : Shape) (s : ℕ) (wholes : List Whole) (marks : LogMarks) (tails : TailMarks) (mark p count : ℕ) (write : Write) (disk : Disk) → 1 ≤ (run_layout shape).blocks
    → IsWriting shape s wholes marks tails mark p disk → WritesFull shape s wholes tails.kept mark marks.ckpt p count write
    → IsWriting shape s wholes marks tails mark (p + 512 * count) (written disk write)
writing-more shape s wholes marks tails mark p count write disk some is writes =
    let sectors : IsSectorWrite (length disk.reads) write = full-within shape s wholes tails.kept mark marks.ckpt p count write disk.reads some writes is.long in
    let limits = header-below marks.number in
    let same : (k : ℕ) → k < 6 → sector k (after_write disk.reads write) ≡ sector k disk.reads = λ k below.
    stays disk.reads write k sectors (λ covers. not-below shape s wholes tails.kept mark marks.ckpt p count k write writes below covers) in
    record {
      holds = full-adds shape s wholes marks tails mark p count write disk (written disk write) some is writes (adds-torn write disk);
      long = omega (arith, is.long, length-overwritten write.at write.bytes disk.reads sectors.within);
      heads = λ k at. ap read_head (same k (⊎_elim (λ a. omega arith) (λ b. omega arith) at)) ∙ is.heads k at;
      later = is.later;
      place = is.place;
      blocks = λ b in_round. blocks-more shape s wholes tails.kept mark marks.ckpt p count b write disk.reads is.holds.order.ckpt_started some is.long writes in_round (is.blocks b in_round);
      tail_blocks = λ k at. subst (λ (x : List ℕ). IsTail s wholes mark marks.ckpt x) (sym (same k (⊎_elim (λ e. omega arith) (λ o. omega arith) at))) (is.tail_blocks k at);
      checkpoint = ap (read_checkpoint (place_of marks.number) (run_layout shape)) (same (place_of marks.number) (omega (arith, limits.0))) ∙ is.checkpoint;
      beside = subst (λ (x : List ℕ). IsBeside marks (read_checkpoint (other_place marks.number) (run_layout shape) x)) (sym (same (other_place marks.number) (omega (arith, limits.1)))) is.beside;
    }

-- A WRITE OF A TAIL BLOCK.

-- such a write, Ok or not
pub tail-adds : (shape : Shape) (s : ℕ) (wholes : List Whole) (marks : LogMarks) (tails : TailMarks) (mark p : ℕ) (write : Write) (old new : Disk) → 1 ≤ (run_layout shape).blocks
    → IsWriting shape s wholes marks tails mark p old → WritesTail s wholes mark (other_tail tails.tail) write → AddsTorn write old new
    → LogHoldsWith shape s wholes (after_given mark marks) tails new
tail-adds shape s wholes marks tails mark p write old new some is writes adds =
    adds-holds shape s wholes (after_given mark marks) (after_given mark marks) tails old new write is.holds (moves-given (after_given mark marks) mark (omega arith)) is.holds.order
    (tail-puts shape s wholes (after_given mark marks) tails write some is.holds.order.given is.holds.kept.place writes) adds

-- THE END.

in_order-written : (layout : Layout) (s : ℕ) (wholes : List Whole) (marks : LogMarks) (mark : ℕ) → AreInOrder layout s wholes (after_given mark marks) → marks.written ≤ mark
    → AreInOrder layout s wholes (after_written mark marks)
in_order-written layout s wholes marks mark order later = record {
  starts = order.starts;
  run = order.run;
  stable = order.stable;
  written = order.given;
  given = order.given;
  stable_written = omega (arith, order.stable_written);
  written_given = omega arith;
  ckpt_aligned = order.ckpt_aligned;
  ckpt_started = order.ckpt_started;
  ckpt_from = order.ckpt_from;
  ckpt_asked = order.ckpt_asked;
  asked_stable = order.asked_stable;
  room = order.room;
}

-- once all is written below the mark, and the newest tail is that of its incomplete block
ends : (shape : Shape) (s : ℕ) (wholes : List Whole) (marks : LogMarks) (tails : TailMarks) (mark p : ℕ) (disk : Disk) (newest : ℕ) → mark < p + 524
    → IsWriting shape s wholes marks tails mark p disk → IsTailPlace newest → HoldsTail s wholes mark (sector newest disk.reads)
    → let now : TailMarks = record tails { newest = newest } in IsLive shape s wholes (after_written mark marks) now disk
ends shape s wholes marks tails mark p disk newest reached is place tail =
    record {
      holds = record {
        long = is.holds.long;
        sectors = is.holds.sectors;
        heads = is.holds.heads;
        order = in_order-written (run_layout shape) s wholes marks mark is.holds.order is.later;
        kept = record {
          boundary = is.holds.kept.boundary;
          from = is.holds.kept.from;
          up_to = omega (arith, is.holds.kept.up_to, is.later);
          place = is.holds.kept.place;
        };
        blocks = is.holds.blocks;
        tail_blocks = is.holds.tail_blocks;
        kept_tail = is.holds.kept_tail;
        checkpoint = is.holds.checkpoint;
        beside = λ bytes may. beside-kept (after_given mark marks) (after_written mark marks) refl refl (omega arith)
            (read_checkpoint (other_place marks.number) (run_layout shape) bytes) (is.holds.beside bytes may);
      };
      is_written = record {
        long = is.long;
        heads = is.heads;
        all_given = refl;
        place = place;
        blocks = λ b in_round. ⊎_elim (λ full. inl full)
            (λ none. inr (record { none_below = omega (arith, none.0); unread = none.1 })) (is.blocks b in_round);
        tail_blocks = is.tail_blocks;
        newest_tail = tail;
        checkpoint = is.checkpoint;
        beside = beside-kept marks (after_written mark marks) refl refl (omega arith) (read_checkpoint (other_place marks.number) (run_layout shape) (sector (other_place marks.number) disk.reads)) is.beside;
      };
    }

test-none : (mark : ℕ) → mark ≤ block_of mark + 12 → nat_lt (block_of mark + 12) mark ≡ false
test-none mark none = grind (arith, nat_tests)

test-some : (mark : ℕ) → block_of mark + 12 < mark → nat_lt (block_of mark + 12) mark ≡ true
test-some mark some = grind (arith, nat_tests)

-- the end, where the mark has no incomplete block
pub writing-end : (shape : Shape) (s : ℕ) (wholes : List Whole) (marks : LogMarks) (tails : TailMarks) (mark p : ℕ) (disk : Disk) → mark < p + 524 → mark ≤ block_of mark + 12
    → IsWriting shape s wholes marks tails mark p disk → IsLive shape s wholes (after_written mark marks) (tails_written mark tails) disk
writing-end shape s wholes marks tails mark p disk reached none is =
    let same : tails ≡ tails_written mark tails = ap (λ t. cond t (record tails { newest = other_tail tails.tail }) tails) (sym (test-none mark none)) in
    subst (λ (now : TailMarks). IsLive shape s wholes (after_written mark marks) now disk) same
    (ends shape s wholes marks tails mark p disk tails.newest reached is is.place (inl none))

other-place : (k : ℕ) → IsTailPlace k → IsTailPlace (other_tail k)
other-place k is = ⊎_elim (λ e. inr (omega arith)) (λ o. inl (omega arith)) is

one-of-two : (k j : ℕ) → IsTailPlace k → IsTailPlace j → (j ≡ k) ⊎ (j ≡ other_tail k)
one-of-two k j (inl e) (inl f) = inl (omega arith)
one-of-two k j (inl e) (inr f) = inr (omega arith)
one-of-two k j (inr e) (inl f) = inr (omega arith)
one-of-two k j (inr e) (inr f) = inl (omega arith)

tails-differ : (k : ℕ) → IsTailPlace k → k ≡ other_tail k → ⊥
tails-differ k is same = ⊎_elim (λ e. omega arith) (λ o. omega arith) is

-- the end, with the write of the tail block
pub writing-tail : (shape : Shape) (s : ℕ) (wholes : List Whole) (marks : LogMarks) (tails : TailMarks) (mark p : ℕ) (write : Write) (disk : Disk) → 1 ≤ (run_layout shape).blocks → mark < p + 524
    → IsWriting shape s wholes marks tails mark p disk → WritesTail s wholes mark (other_tail tails.tail) write
    → IsLive shape s wholes (after_written mark marks) (tails_written mark tails) (written disk write)
writing-tail shape s wholes marks tails mark p write disk some reached is writes =
    let k : ℕ = other_tail tails.tail in
    let tail_place : IsTailPlace k = other-place tails.tail is.holds.kept.place in
    let sectors : IsSectorWrite (length disk.reads) write = record {
      aligned = omega (arith, writes.at_place);
      whole = omega (arith, writes.long);
      within = ⊎_elim (λ e. omega (arith, writes.at_place, writes.long, is.long)) (λ o. omega (arith, writes.at_place, writes.long, is.long)) tail_place;
    } in
    let limits = header-below marks.number in
    let reads : List ℕ = after_write disk.reads write in
    let same : (j : ℕ) → (j ≡ k → ⊥) → sector j reads ≡ sector j disk.reads = λ j other.
    stays disk.reads write j sectors (λ covers. other (only-tail s wholes mark k j write writes covers)) in
    let low : (j : ℕ) → j < 4 → j ≡ k → ⊥ = λ j below equal. ⊎_elim (λ e. omega arith) (λ o. omega arith) tail_place in
    let put : sector k reads ≡ write.bytes =
    part-overwritten_inside 512 (512 * k) write.at write.bytes disk.reads (omega (arith, writes.at_place)) (omega (arith, writes.at_place, writes.long)) sectors.within
    ∙ tail-text s wholes mark k write writes in
    let now : IsWriting shape s wholes marks tails mark p (written disk write) = record {
      holds = tail-adds shape s wholes marks tails mark p write disk (written disk write) some is writes (adds-torn write disk);
      long = omega (arith, is.long, length-overwritten write.at write.bytes disk.reads sectors.within);
      heads = λ j at. ap read_head (same j (low j (⊎_elim (λ a. omega arith) (λ b. omega arith) at))) ∙ is.heads j at;
      later = is.later;
      place = is.place;
      blocks = λ b in_round. (
          let past : 6 ≤ sector_of (run_layout shape) b = place-past shape b in
          subst (λ (x : List ℕ). IsPlaceUpTo s wholes mark p b x) (sym (same (sector_of (run_layout shape) b) (λ equal. ⊎_elim (λ e. omega arith) (λ o. omega arith) tail_place))) (is.blocks b in_round));
      tail_blocks = λ j at. ⊎_elim
          (λ other. subst (λ (x : List ℕ). IsTail s wholes mark marks.ckpt x) (sym (same j (λ equal. tails-differ tails.tail is.holds.kept.place (sym other ∙ equal)))) (is.tail_blocks j at))
          (λ here. subst (λ (i : ℕ). IsTail s wholes mark marks.ckpt (sector i reads)) (sym here)
          (subst (λ (x : List ℕ). IsTail s wholes mark marks.ckpt x) (sym put) (tail-is s wholes mark mark marks.ckpt write.bytes is.holds.order.given (omega arith) writes.some writes.is)))
          (one-of-two tails.tail j is.holds.kept.place at);
      checkpoint = ap (read_checkpoint (place_of marks.number) (run_layout shape)) (same (place_of marks.number) (low (place_of marks.number) limits.0)) ∙ is.checkpoint;
      beside = subst (λ (x : List ℕ). IsBeside marks (read_checkpoint (other_place marks.number) (run_layout shape) x)) (sym (same (other_place marks.number) (low (other_place marks.number) limits.1))) is.beside;
    } in
    let same_tails : record tails { newest = k } ≡ tails_written mark tails = ap (λ t. cond t (record tails { newest = other_tail tails.tail }) tails) (sym (test-some mark writes.some)) in
    subst (λ (after : TailMarks). IsLive shape s wholes (after_written mark marks) after (written disk write)) same_tails
    (ends shape s wholes marks tails mark p (written disk write) k reached now tail_place (inr (subst (λ (x : List ℕ). IsTailBlock s wholes mark x) (sym put) writes.is)))
