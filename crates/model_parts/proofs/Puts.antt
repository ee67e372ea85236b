-- The writes of `write_to` keep what a log device holds.
use Rattle.std.proofs.Common.{◌≡◌, ◌≤◌, ◌<◌, ◌+◌, ◌-◌, ◌*◌, ◌%◌, ◌⊎◌, ℕ, inl, inr, List, length, take, drop, Some, refl, sym, ap, subst, ◌∙◌, ⊎_elim, arith}
use Rattle.std.proofs.lemmas.List.{take_all}
use Rattle.model_base.specs.declared.limits.TheConstants.{BLOCK_SIZE, START_LSN}
use Rattle.model_base.specs.declared.shape.Shape.{Shape}
use Rattle.model_device.specs.{Covers, IsSectorWrite, written_sector, Disk}
use Rattle.model_device.specs.declared.write.Write.{Write}
use Rattle.model_log.specs.declared.group.Whole.{Whole}
use Rattle.model_log.specs.declared.layout.Layout.{Layout}
use Rattle.model_log.specs.declared.layout.TheConstants.{BLOCK_HEADER}
use Rattle.model_log.specs.{block_of, IsBoundary, IsBoundaryBlock, IsInRound, IsTailPlace, log_device_length, other_tail, place_in, place_of, read_checkpoint, ring_start, round_of, run_layout, sector_of, spans_of}
use Rattle.model_log.proofs.BoundaryRound.{block-later}
use Rattle.model_log.proofs.Places.{one-place_each, place-from, place-on, sector-place}
use Rattle.model_parts.specs.declared.marks.LogMarks.{LogMarks}
use Rattle.model_parts.specs.declared.marks.TailMarks.{TailMarks}
use Rattle.model_parts.specs.Held.{AreInOrder, IsBeside, IsBlockPlace, IsFullBlock, IsHeadPlace, IsTail, IsTailBlock, LogHoldsWith, MayStand, other_place}
use Rattle.model_parts.specs.Marks.{NEXT_DATA}
use Rattle.model_parts.proofs.LogImages.{beside-kept, header-below}
use Rattle.model_parts.proofs.Tails.{broken-place, broken-tail, tail-is}
use Rattle.model_parts.proofs.Torn.{AddsTorn, IsWhole}

-- BETWEEN OTHER MARKS.

pub full-wider : (s : ℕ) (wholes : List Whole) (high most b : ℕ) (bytes : List ℕ) → high ≤ most → IsFullBlock s wholes high b bytes → IsFullBlock s wholes most b bytes
full-wider s wholes high most b bytes later is = record {
  full = omega (arith, is.full);
  block = block-later s wholes high most b bytes (omega (arith, is.full)) later is.block;
}

pub place-wider : (s : ℕ) (wholes : List Whole) (low high least most b : ℕ) (bytes : List ℕ) → least ≤ low → high ≤ most → IsBlockPlace s wholes low high b bytes → IsBlockPlace s wholes least most b bytes
place-wider s wholes low high least most b bytes lower later is =
    ⊎_elim (λ full. inl (full-wider s wholes high most b bytes later full))
    (λ none. inr (record { none_below = omega (arith, none.none_below); unread = none.unread })) is

pub tail-wider : (s : ℕ) (wholes : List Whole) (high most from later_from : ℕ) (bytes : List ℕ) → high ≤ most → from ≤ later_from → IsTail s wholes high from bytes → IsTail s wholes most later_from bytes
tail-wider s wholes high most from later_from bytes later lower is b aligned low =
    ⊎_elim (λ none. inl none)
    (λ part. inr (record {
      mark = part.mark;
      boundary = part.boundary;
      up_to = omega (arith, part.up_to);
      some = part.some;
      part = part.part;
      block = part.block;
    })) (is b aligned (omega arith))

-- A WRITE OF SOME SECTORS.

-- marks of which only the one given and the one asked for move
pub record MovesOn (old new : LogMarks) : Type 0 where
  pub same_stable : new.stable ≡ old.stable
  pub same_written : new.written ≡ old.written
  pub same_number : new.number ≡ old.number
  pub same_ckpt : new.ckpt ≡ old.ckpt
  pub given : old.given ≤ new.given
  pub asked : old.asked ≤ new.asked

-- the sectors that have to stay
abbrev pub HasToStay : LogMarks → TailMarks → ℕ → Type 0
HasToStay marks tails k = IsHeadPlace k ⊎ (k ≡ place_of marks.number) ⊎ (k ≡ tails.tail)

-- What a write lets stand is as the marks want it, and it doesn't cover what has to stay.
pub record PutsWell (shape : Shape) (s : ℕ) (wholes : List Whole) (marks : LogMarks) (tails : TailMarks) (write : Write) : Type 0 where
  pub sectors : IsSectorWrite (log_device_length shape) write
  pub spares : (k : ℕ) → HasToStay marks tails k → Covers write k → ⊥
  pub blocks : (b : ℕ) → IsInRound (run_layout shape) marks.ckpt b → Covers write (sector_of (run_layout shape) b) → (bytes : List ℕ) → IsWhole write (sector_of (run_layout shape) b) bytes
      → IsBlockPlace s wholes tails.kept marks.given b bytes
  pub tail_blocks : (k : ℕ) → IsTailPlace k → Covers write k → (bytes : List ℕ) → IsWhole write k bytes → IsTail s wholes marks.given marks.ckpt bytes
  pub beside : Covers write (other_place marks.number) → (bytes : List ℕ) → IsWhole write (other_place marks.number) bytes
      → IsBeside marks (read_checkpoint (other_place marks.number) (run_layout shape) bytes)

sectors-longer : (n m : ℕ) (write : Write) → n ≤ m → IsSectorWrite n write → IsSectorWrite m write
sectors-longer n m write longer is = record { aligned = is.aligned; whole = is.whole; within = omega (arith, is.within) }

-- such a write, Ok or not, keeps what holds
pub adds-holds : (shape : Shape) (s : ℕ) (wholes : List Whole) (old_marks marks : LogMarks) (tails : TailMarks) (old new : Disk) (write : Write)
    → LogHoldsWith shape s wholes old_marks tails old → MovesOn old_marks marks → AreInOrder (run_layout shape) s wholes marks → PutsWell shape s wholes marks tails write
    → AddsTorn write old new → LogHoldsWith shape s wholes marks tails new
adds-holds shape s wholes old_marks marks tails old new write holds moves order puts adds =
    let stay : (k : ℕ) (bytes : List ℕ) → HasToStay marks tails k → MayStand new k bytes → MayStand old k bytes = λ k bytes has is.
    ⊎_elim (λ before. before) (λ here. absurd (puts.spares k has here.0)) (adds.each k bytes is) in
    record {
      long = omega (arith, holds.long, adds.same_length);
      sectors = adds.sectors (sectors-longer (log_device_length shape) (length old.base) write holds.long puts.sectors) holds.sectors;
      heads = λ k at bytes is. holds.heads k at bytes (stay k bytes (inl at) is);
      order = order;
      kept = record {
        boundary = holds.kept.boundary;
        from = omega (arith, holds.kept.from, moves.same_stable);
        up_to = omega (arith, holds.kept.up_to, moves.same_written);
        place = holds.kept.place;
      };
      blocks = λ b in_round bytes is. ⊎_elim
          (λ before. place-wider s wholes tails.kept old_marks.given tails.kept marks.given b bytes (omega arith) moves.given
          (holds.blocks b (record { aligned = in_round.aligned; from = omega (arith, in_round.from, moves.same_ckpt); below = omega (arith, in_round.below, moves.same_ckpt) }) bytes before))
          (λ here. puts.blocks b in_round here.0 bytes here.1) (adds.each (sector_of (run_layout shape) b) bytes is);
      tail_blocks = λ k at bytes is. ⊎_elim
          (λ before. tail-wider s wholes old_marks.given marks.given old_marks.ckpt marks.ckpt bytes moves.given (omega (arith, moves.same_ckpt)) (holds.tail_blocks k at bytes before))
          (λ here. puts.tail_blocks k at here.0 bytes here.1) (adds.each k bytes is);
      kept_tail = λ bytes is. holds.kept_tail bytes (stay tails.tail bytes (inr (inr refl)) is);
      checkpoint = λ bytes is. (
          let before : MayStand old (place_of marks.number) bytes = stay (place_of marks.number) bytes (inr (inl refl)) is in
          let old_one = holds.checkpoint bytes (subst (λ (n : ℕ). MayStand old (place_of n) bytes) moves.same_number before) in
          subst (λ (m : ℕ). read_checkpoint (place_of marks.number) (run_layout shape) bytes ≡ Some (marks.number, m)) (sym moves.same_ckpt)
          (subst (λ (n : ℕ). read_checkpoint (place_of n) (run_layout shape) bytes ≡ Some (n, old_marks.ckpt)) (sym moves.same_number) old_one));
      beside = λ bytes is. ⊎_elim
          (λ before.
          let old_one = holds.beside bytes (subst (λ (n : ℕ). MayStand old (other_place n) bytes) moves.same_number before) in
          subst (λ (n : ℕ). IsBeside marks (read_checkpoint (other_place n) (run_layout shape) bytes)) (sym moves.same_number)
          (beside-kept old_marks marks moves.same_number moves.same_ckpt moves.asked (read_checkpoint (other_place old_marks.number) (run_layout shape) bytes) old_one))
          (λ here. puts.beside here.0 bytes here.1) (adds.each (other_place marks.number) bytes is);
    }

-- WRITES IN PLACE.

-- The write is of so many full blocks side by side from the lsn on, the mark's, none of which the kept mark has reached.
pub record WritesFull (shape : Shape) (s : ℕ) (wholes : List Whole) (kept mark ckpt from count : ℕ) (write : Write) : Type 0 where
  pub aligned : from % BLOCK_SIZE ≡ 0
  pub started : ckpt ≤ from
  pub not_kept : kept < from + NEXT_DATA
  pub within_round : from + BLOCK_SIZE * count ≤ ckpt + round_of (run_layout shape)
  pub at_place : write.at ≡ place_in (run_layout shape) from
  pub within_log : write.at + BLOCK_SIZE * count ≤ ring_start (run_layout shape) + round_of (run_layout shape)
  pub long : length write.bytes ≡ BLOCK_SIZE * count
  pub full : (i : ℕ) → i < count → from + BLOCK_SIZE * i + NEXT_DATA ≤ mark
  pub each : (i : ℕ) → i < count → IsBoundaryBlock s wholes mark (from + BLOCK_SIZE * i) (take BLOCK_SIZE (drop (BLOCK_SIZE * i) write.bytes))

-- the block at b is one of those that are written
pub record IsOneOf (layout : Layout) (from count b : ℕ) (write : Write) : Type 0 where
  pub i : ℕ
  pub below : i < count
  pub is : b ≡ from + 512 * i
  pub bytes : written_sector write (sector_of layout b) ≡ take 512 (drop (512 * i) write.bytes)

pub covered : (shape : Shape) (s : ℕ) (wholes : List Whole) (kept mark ckpt from count b : ℕ) (write : Write) → START_LSN ≤ ckpt
    → WritesFull shape s wholes kept mark ckpt from count write → IsInRound (run_layout shape) ckpt b → Covers write (sector_of (run_layout shape) b) → IsOneOf (run_layout shape) from count b write
covered shape s wholes kept mark ckpt from count b write started writes in_round covers =
    let here : 512 * sector_of (run_layout shape) b ≡ place_in (run_layout shape) b = sector-place (run_layout shape) b in
    let first : 512 * sector_of (run_layout shape) from ≡ place_in (run_layout shape) from = sector-place (run_layout shape) from in
    let low : write.at ≤ 512 * sector_of (run_layout shape) b = covers.from in
    let high : 512 * sector_of (run_layout shape) b + 512 ≤ write.at + length write.bytes = covers.up_to in
    let i : ℕ = sector_of (run_layout shape) b - sector_of (run_layout shape) from in
    let below : i < count = omega (arith, writes.at_place, writes.long) in
    let offset : 512 * sector_of (run_layout shape) b - write.at ≡ 512 * i = omega (arith, writes.at_place) in
    let next : place_in (run_layout shape) (from + 512 * i) ≡ place_in (run_layout shape) from + 512 * i =
    place-on (run_layout shape) from i count writes.aligned (omega (arith, writes.started)) below (omega (arith, writes.at_place, writes.within_log)) in
    let there : IsInRound (run_layout shape) ckpt (from + 512 * i) = record {
      aligned = omega (arith, writes.aligned);
      from = omega (arith, writes.started);
      below = omega (arith, writes.within_round);
    } in
    record {
      i = i;
      below = below;
      is = one-place_each (run_layout shape) ckpt b (from + 512 * i) started in_round there (omega (arith, writes.at_place));
      bytes = ap (λ n. take 512 (drop n write.bytes)) offset;
    }

-- the places of blocks stand past the headers and the tail blocks
pub place-past : (shape : Shape) (b : ℕ) → 6 ≤ sector_of (run_layout shape) b
place-past shape b =
    let low : ring_start (run_layout shape) ≤ place_in (run_layout shape) b = place-from (run_layout shape) b in
    let one : 512 * sector_of (run_layout shape) b ≡ place_in (run_layout shape) b = sector-place (run_layout shape) b in
    omega arith

-- a write in place covers no header and no tail block
pub not-below : (shape : Shape) (s : ℕ) (wholes : List Whole) (kept mark ckpt from count k : ℕ) (write : Write) → WritesFull shape s wholes kept mark ckpt from count write → k < 6 → Covers write k → ⊥
not-below shape s wholes kept mark ckpt from count k write writes below covers =
    let low : ring_start (run_layout shape) ≤ place_in (run_layout shape) from = place-from (run_layout shape) from in
    omega (arith, covers.from, writes.at_place)

below-six : (marks : LogMarks) (tails : TailMarks) (k : ℕ) → IsTailPlace tails.tail → HasToStay marks tails k → k < 6
below-six marks tails k place is =
    let limits = header-below marks.number in
    ⊎_elim (λ head. ⊎_elim (λ a. omega arith) (λ b. omega arith) head)
    (λ q. ⊎_elim (λ c. omega (arith, limits.0)) (λ d. ⊎_elim (λ e. omega arith) (λ o. omega arith) place) q) is

full-sectors : (shape : Shape) (s : ℕ) (wholes : List Whole) (kept mark ckpt from count : ℕ) (write : Write) → 1 ≤ (run_layout shape).blocks
    → WritesFull shape s wholes kept mark ckpt from count write → IsSectorWrite (log_device_length shape) write
full-sectors shape s wholes kept mark ckpt from count write some writes =
    let first : 512 * sector_of (run_layout shape) from ≡ place_in (run_layout shape) from = sector-place (run_layout shape) from in
    record {
      aligned = omega (arith, writes.at_place);
      whole = omega (arith, writes.long);
      within = omega (arith, writes.long, writes.within_log);
    }

pub full-puts : (shape : Shape) (s : ℕ) (wholes : List Whole) (marks : LogMarks) (tails : TailMarks) (from count : ℕ) (write : Write) → 1 ≤ (run_layout shape).blocks
    → IsTailPlace tails.tail → START_LSN ≤ marks.ckpt → WritesFull shape s wholes tails.kept marks.given marks.ckpt from count write → PutsWell shape s wholes marks tails write
full-puts shape s wholes marks tails from count write some place started writes =
    let limits = header-below marks.number in
    let none : (k : ℕ) → k < 6 → Covers write k → ⊥ = λ k below covers. not-below shape s wholes tails.kept marks.given marks.ckpt from count k write writes below covers in
    record {
      sectors = full-sectors shape s wholes tails.kept marks.given marks.ckpt from count write some writes;
      spares = λ k is covers. none k (below-six marks tails k place is) covers;
      blocks = λ b in_round covers bytes is. (
          let one : IsOneOf (run_layout shape) from count b write = covered shape s wholes tails.kept marks.given marks.ckpt from count b write started writes in_round covers in
          ⊎_elim
          (λ whole.
          let text : bytes ≡ take 512 (drop (512 * one.i) write.bytes) = whole ∙ one.bytes in
          inl (record {
            full = omega (arith, one.is, writes.full one.i one.below);
            block = subst (λ (c : ℕ). IsBoundaryBlock s wholes marks.given c bytes) (sym one.is)
                (subst (λ (x : List ℕ). IsBoundaryBlock s wholes marks.given (from + 512 * one.i) x) (sym text) (writes.each one.i one.below));
          }))
          (λ broken. inr (record { none_below = omega (arith, one.is, writes.not_kept); unread = broken-place b bytes broken })) is);
      tail_blocks = λ k at covers bytes is. absurd (none k (⊎_elim (λ e. omega arith) (λ o. omega arith) at) covers);
      beside = λ covers bytes is. absurd (none (other_place marks.number) (omega (arith, limits.1)) covers);
    }

-- A WRITE OF A TAIL BLOCK.

-- the write is of the mark's incomplete block, to this tail block
pub record WritesTail (s : ℕ) (wholes : List Whole) (mark k : ℕ) (write : Write) : Type 0 where
  pub at_place : write.at ≡ BLOCK_SIZE * k
  pub long : length write.bytes ≡ BLOCK_SIZE
  pub some : block_of mark + BLOCK_HEADER < mark
  pub is : IsTailBlock s wholes mark write.bytes

pub only-tail : (s : ℕ) (wholes : List Whole) (mark k j : ℕ) (write : Write) → WritesTail s wholes mark k write → Covers write j → j ≡ k
only-tail s wholes mark k j write writes covers = omega (arith, covers.from, covers.up_to, writes.at_place, writes.long)

pub tail-text : (s : ℕ) (wholes : List Whole) (mark k : ℕ) (write : Write) → WritesTail s wholes mark k write → written_sector write k ≡ write.bytes
tail-text s wholes mark k write writes =
    let skip : 512 * k - write.at ≡ 0 = omega (arith, writes.at_place) in
    ap (λ n. take 512 (drop n write.bytes)) skip ∙ take_all 512 write.bytes (omega (arith, writes.long))

pub tail-puts : (shape : Shape) (s : ℕ) (wholes : List Whole) (marks : LogMarks) (tails : TailMarks) (write : Write) → 1 ≤ (run_layout shape).blocks
    → IsBoundary s (spans_of wholes) marks.given → IsTailPlace tails.tail
    → WritesTail s wholes marks.given (other_tail tails.tail) write → PutsWell shape s wholes marks tails write
tail-puts shape s wholes marks tails write some boundary place writes =
    let limits = header-below marks.number in
    let only : (j : ℕ) → Covers write j → j ≡ other_tail tails.tail = λ j covers. only-tail s wholes marks.given (other_tail tails.tail) j write writes covers in
    let none : (j : ℕ) → j < 4 → Covers write j → ⊥ = λ j below covers. let same = only j covers in ⊎_elim (λ e. omega arith) (λ o. omega arith) place in
    record {
      sectors = record {
        aligned = omega (arith, writes.at_place);
        whole = omega (arith, writes.long);
        within = ⊎_elim (λ e. omega (arith, writes.at_place, writes.long)) (λ o. omega (arith, writes.at_place, writes.long)) place;
      };
      spares = λ k is covers. ⊎_elim (λ head. ⊎_elim (λ a. none k (omega arith) covers) (λ b. none k (omega arith) covers) head)
          (λ q. ⊎_elim (λ c. none k (omega (arith, limits.0)) covers) (λ d. let same = only k covers in ⊎_elim (λ e. omega arith) (λ o. omega arith) place) q) is;
      blocks = λ b in_round covers bytes is. (
          let low : 6 ≤ sector_of (run_layout shape) b = place-past shape b in
          let same = only (sector_of (run_layout shape) b) covers in
          absurd (⊎_elim (λ e. omega arith) (λ o. omega arith) place));
      tail_blocks = λ k at covers bytes is. (
          let same : k ≡ other_tail tails.tail = only k covers in
          ⊎_elim (λ whole.
          let text : bytes ≡ write.bytes = whole ∙ ap (written_sector write) same ∙ tail-text s wholes marks.given (other_tail tails.tail) write writes in
          subst (λ (x : List ℕ). IsTail s wholes marks.given marks.ckpt x) (sym text)
          (tail-is s wholes marks.given marks.given marks.ckpt write.bytes boundary (omega arith) writes.some writes.is))
          (λ broken. broken-tail s wholes marks.given marks.ckpt bytes broken) is);
      beside = λ covers bytes is. absurd (none (other_place marks.number) limits.1 covers);
    }
