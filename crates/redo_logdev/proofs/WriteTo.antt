-- What `write_to` writes, as up to three device writes.
use Rattle.std.proofs.Common.{◌≡◌, ◌≤◌, ◌<◌, ◌+◌, ◌*◌, ◌%◌, ◌⊎◌, ℕ, inl, inr, List, [], ◌∷◌, length, take, drop, refl, sym, subst, ⊎_elim, length-drop, arith}
use Rattle.std.proofs.lemmas.Bool.{cases_lt}
use Rattle.model_base.specs.declared.shape.Shape.{Shape}
use Rattle.model_device.specs.{Covers, FailsWrite, Disk}
use Rattle.model_device.specs.declared.write.Write.{Write}
use Rattle.model_log.specs.declared.group.Whole.{Whole}
use Rattle.model_log.specs.declared.layout.TheConstants.{BLOCK_DATA}
use Rattle.model_log.specs.{block_of, framed, IsDataLsn, IsGivenTo, IsTailPlace, log_device_length, other_tail, place_in, ring_start, round_of, run_layout, sector_of, turn_of}
use Rattle.model_log.proofs.CutStream.{length-framed}
use Rattle.model_log.proofs.Places.{place-within, sector-place}
use Rattle.model_parts.specs.declared.marks.LogMarks.{LogMarks}
use Rattle.model_parts.specs.declared.marks.TailMarks.{TailMarks}
use Rattle.model_parts.specs.{after_given, after_written, AreInOrder, IsLive, LogHoldsWith, tails_written}
use Rattle.model_parts.proofs.Puts.{adds-holds, WritesFull, WritesTail}
use Rattle.model_parts.proofs.Torn.{AddsTorn, fails-torn}
use Rattle.model_parts.proofs.Writing.{full-adds, IsWriting, tail-adds, writing-begin, writing-end, writing-more, writing-tail}
use Rattle.redo_disk.specs.{write_at}
use Rattle.redo_logdev.specs.Part.{back_of, front_of}
use Rattle.redo_logdev.specs.Writing.{FailsBlocks, written_blocks, written_if, written_round}
use Rattle.redo_logdev.proofs.Cuts.{Cuts, cuts-of, Ends, ends-of, IsCut, tail-writes}

-- a write of no bytes changes nothing
empty-adds : (shape : Shape) (s : ℕ) (wholes : List Whole) (marks : LogMarks) (tails : TailMarks) (write : Write) (old new : Disk) → length write.bytes ≡ 0 → write.at % 512 ≡ 0 → write.at ≤ log_device_length shape
    → AddsTorn write old new → LogHoldsWith shape s wholes marks tails old → LogHoldsWith shape s wholes marks tails new
empty-adds shape s wholes marks tails write old new none aligned within adds holds =
    let never : (k : ℕ) → Covers write k → ⊥ = λ k covers. omega (arith, covers.from, covers.up_to) in
    adds-holds shape s wholes marks marks tails old new write holds
    (record { same_stable = refl; same_written = refl; same_number = refl; same_ckpt = refl; given = omega arith; asked = omega arith }) holds.order
    (record {
      sectors = record { aligned = aligned; whole = omega arith; within = omega arith };
      spares = λ k is covers. never k covers;
      blocks = λ b in_round covers bytes is. absurd (never _ covers);
      tail_blocks = λ k at covers bytes is. absurd (never k covers);
      beside = λ covers bytes is. absurd (never _ covers);
    }) adds

-- a write of full blocks, if there are any
writing-if : (shape : Shape) (s : ℕ) (wholes : List Whole) (marks : LogMarks) (tails : TailMarks) (mark p count at : ℕ) (bytes : List ℕ) (disk : Disk) → 1 ≤ (run_layout shape).blocks → length bytes ≡ 512 * count
    → (1 ≤ count → WritesFull shape s wholes tails.kept mark marks.ckpt p count (write_at at bytes)) → IsWriting shape s wholes marks tails mark p disk
    → IsWriting shape s wholes marks tails mark (p + 512 * count) (written_if at bytes disk)
writing-if shape s wholes marks tails mark p count at [] disk some long writes is =
    let same : p ≡ p + 512 * count = omega arith in subst (λ (q : ℕ). IsWriting shape s wholes marks tails mark q disk) same is
writing-if shape s wholes marks tails mark p count at (byte ∷ bytes) disk some long writes is =
    writing-more shape s wholes marks tails mark p count (write_at at (byte ∷ bytes)) disk some is (writes (omega arith))

writing-fails : (shape : Shape) (s : ℕ) (wholes : List Whole) (marks : LogMarks) (tails : TailMarks) (mark p count at : ℕ) (bytes : List ℕ) (old new : Disk) → 1 ≤ (run_layout shape).blocks → length bytes ≡ 512 * count
    → at % 512 ≡ 0 → at ≤ log_device_length shape → (1 ≤ count → WritesFull shape s wholes tails.kept mark marks.ckpt p count (write_at at bytes)) → IsWriting shape s wholes marks tails mark p old
    → FailsWrite (write_at at bytes) old new → LogHoldsWith shape s wholes (after_given mark marks) tails new
writing-fails shape s wholes marks tails mark p count at bytes old new some_blocks long aligned within writes is fails =
    ⊎_elim (λ none. empty-adds shape s wholes (after_given mark marks) tails (write_at at bytes) old new (omega arith) aligned within (fails-torn (write_at at bytes) old new fails) is.holds)
    (λ some. full-adds shape s wholes marks tails mark p count (write_at at bytes) old new some_blocks is (writes some) (fails-torn (write_at at bytes) old new fails)) (cases_lt count 1)

-- after the writes in place
half-written : (shape : Shape) (s : ℕ) (wholes : List Whole) (marks : LogMarks) (tails : TailMarks) (mark from full : ℕ) (all : List ℕ) (old : Disk) → 1 ≤ (run_layout shape).blocks
    → (cuts : Cuts shape s wholes marks tails.kept mark from full all) → IsWriting shape s wholes marks tails mark from old
    → IsWriting shape s wholes marks tails mark (from + 512 * full) (written_round (run_layout shape) from all old)
half-written shape s wholes marks tails mark from full all old some cuts begun =
    let at : ℕ = place_in (run_layout shape) from in
    let front : List ℕ = front_of (run_layout shape) from all in
    let back : List ℕ = back_of (run_layout shape) from all in
    let half : IsWriting shape s wholes marks tails mark (from + 512 * cuts.first) (written_if at front old) =
    writing-if shape s wholes marks tails mark from cuts.first at front old some cuts.front_long cuts.front_writes begun in
    let whole : IsWriting shape s wholes marks tails mark (from + 512 * cuts.first + 512 * cuts.second) (written_if (ring_start (run_layout shape)) back (written_if at front old)) =
    writing-if shape s wholes marks tails mark (from + 512 * cuts.first) cuts.second (ring_start (run_layout shape)) back (written_if at front old) some cuts.back_long cuts.back_writes half in
    let same : from + 512 * cuts.first + 512 * cuts.second ≡ from + 512 * full = omega (arith, cuts.both) in
    subst (λ (p : ℕ). IsWriting shape s wholes marks tails mark p (written_round (run_layout shape) from all old)) same whole

-- the end of `write_to`: with the tail block's write, if there is one
ended : (shape : Shape) (s : ℕ) (wholes : List Whole) (marks : LogMarks) (tails : TailMarks) (mark p at : ℕ) (part : List ℕ) (disk : Disk) → 1 ≤ (run_layout shape).blocks → mark < p + 524
    → ((length part ≡ 0) × (mark ≤ block_of mark + 12)) ⊎ ((1 ≤ length part) × WritesTail s wholes mark (other_tail tails.tail) (write_at at part))
    → IsWriting shape s wholes marks tails mark p disk → IsLive shape s wholes (after_written mark marks) (tails_written mark tails) (written_if at part disk)
ended shape s wholes marks tails mark p at [] disk some reached (inl none) is = writing-end shape s wholes marks tails mark p disk reached none.1 is
ended shape s wholes marks tails mark p at [] disk some reached (inr more) is = absurd (omega (arith, more.0))
ended shape s wholes marks tails mark p at (byte ∷ part) disk some reached (inl none) is = absurd (omega (arith, none.0))
ended shape s wholes marks tails mark p at (byte ∷ part) disk some reached (inr more) is =
    writing-tail shape s wholes marks tails mark p (write_at at (byte ∷ part)) disk some reached is more.1

-- whether there is one
tail-cases : (shape : Shape) (s : ℕ) (wholes : List Whole) (marks : LogMarks) (mark ckpt full k : ℕ) (bytes firsts : List ℕ) → AreInOrder (run_layout shape) s wholes marks → IsDataLsn marks.written
    → IsCut shape marks mark ckpt full bytes firsts → IsGivenTo s wholes (block_of marks.written) mark bytes firsts
    → let part : List ℕ = framed (drop (BLOCK_DATA * full) bytes) (block_of marks.written + 512 * full) (drop full firsts) (turn_of (block_of marks.written + 512 * full)) in
    ((length part ≡ 0) × (mark ≤ block_of mark + 12)) ⊎ ((1 ≤ length part) × WritesTail s wholes mark k (write_at (512 * k) part))
tail-cases shape s wholes marks mark ckpt full k bytes firsts order written_place cut given =
    let b : ℕ = block_of marks.written + 512 * full in
    let ends : Ends shape marks mark full bytes firsts = ends-of shape marks mark ckpt full bytes firsts written_place cut in
    let long : length (framed (drop (BLOCK_DATA * full) bytes) b (drop full firsts) (turn_of b)) ≡ 512 * length (drop full firsts) = length-framed (drop (BLOCK_DATA * full) bytes) (drop full firsts) b (turn_of b) in
    ⊎_elim (λ more. let at = ends.some more in
    inr (omega (arith, at.2, length-drop full firsts), tail-writes shape s wholes marks mark ckpt full k bytes firsts order written_place cut given more))
    (λ not_more. let same : length bytes ≡ BLOCK_DATA * full = omega (arith, cut.low) in let at = ends.none same in
    inl (omega (arith, at.1, length-drop full firsts), at.0)) (cases_lt (BLOCK_DATA * full) (length bytes))

pub write_to-ok : (shape : Shape) (s : ℕ) (wholes : List Whole) (marks : LogMarks) (tails : TailMarks) (mark ckpt full : ℕ) (bytes firsts : List ℕ) (old new : Disk)
    → IsDataLsn marks.written → IsCut shape marks mark ckpt full bytes firsts → IsGivenTo s wholes (block_of marks.written) mark bytes firsts → IsLive shape s wholes marks tails old
    → let from : ℕ = block_of marks.written in
    new ≡ written_blocks (run_layout shape) from (framed (take (BLOCK_DATA * full) bytes) from (take full firsts) ckpt) (512 * other_tail tails.tail) (framed (drop (BLOCK_DATA * full) bytes) (from + 512 * full) (drop full firsts) (turn_of (from + 512 * full))) old
    → IsLive shape s wholes (after_written mark marks) (tails_written mark tails) new
write_to-ok shape s wholes marks tails mark ckpt full bytes firsts old new written_place cut given live same =
    let from : ℕ = block_of marks.written in
    let all : List ℕ = framed (take (BLOCK_DATA * full) bytes) from (take full firsts) ckpt in
    let k : ℕ = other_tail tails.tail in
    let part : List ℕ = framed (drop (BLOCK_DATA * full) bytes) (from + 512 * full) (drop full firsts) (turn_of (from + 512 * full)) in
    let ends : Ends shape marks mark full bytes firsts = ends-of shape marks mark ckpt full bytes firsts written_place cut in
    let begun : IsWriting shape s wholes marks tails mark from old = writing-begin shape s wholes marks tails old mark live given.boundary cut.later cut.room in
    let cuts : Cuts shape s wholes marks tails.kept mark from full all = cuts-of shape s wholes marks tails.kept mark ckpt full bytes firsts live.holds.order live.holds.kept.up_to written_place cut given in
    let whole : IsWriting shape s wholes marks tails mark (from + 512 * full) (written_round (run_layout shape) from all old) = half-written shape s wholes marks tails mark from full all old cut.some_blocks cuts begun in
    subst (λ (disk : Disk). IsLive shape s wholes (after_written mark marks) (tails_written mark tails) disk) (sym same)
    (ended shape s wholes marks tails mark (from + 512 * full) (512 * k) part (written_round (run_layout shape) from all old) cut.some_blocks ends.reached
    (tail-cases shape s wholes marks mark ckpt full k bytes firsts live.holds.order written_place cut given) whole)

pub write_to-err : (shape : Shape) (s : ℕ) (wholes : List Whole) (marks : LogMarks) (tails : TailMarks) (mark ckpt full : ℕ) (bytes firsts : List ℕ) (old new : Disk)
    → IsDataLsn marks.written → IsCut shape marks mark ckpt full bytes firsts → IsGivenTo s wholes (block_of marks.written) mark bytes firsts → IsLive shape s wholes marks tails old
    → let from : ℕ = block_of marks.written in
    FailsBlocks (run_layout shape) from (framed (take (BLOCK_DATA * full) bytes) from (take full firsts) ckpt) (512 * other_tail tails.tail) (framed (drop (BLOCK_DATA * full) bytes) (from + 512 * full) (drop full firsts) (turn_of (from + 512 * full))) old new
    → LogHoldsWith shape s wholes (after_given mark marks) tails new
write_to-err shape s wholes marks tails mark ckpt full bytes firsts old new written_place cut given live fails =
    let from : ℕ = block_of marks.written in
    let all : List ℕ = framed (take (BLOCK_DATA * full) bytes) from (take full firsts) ckpt in
    let at : ℕ = place_in (run_layout shape) from in
    let front : List ℕ = front_of (run_layout shape) from all in
    let back : List ℕ = back_of (run_layout shape) from all in
    let k : ℕ = other_tail tails.tail in
    let part : List ℕ = framed (drop (BLOCK_DATA * full) bytes) (from + 512 * full) (drop full firsts) (turn_of (from + 512 * full)) in
    let begun : IsWriting shape s wholes marks tails mark from old = writing-begin shape s wholes marks tails old mark live given.boundary cut.later cut.room in
    let cuts : Cuts shape s wholes marks tails.kept mark from full all = cuts-of shape s wholes marks tails.kept mark ckpt full bytes firsts live.holds.order live.holds.kept.up_to written_place cut given in
    let half : IsWriting shape s wholes marks tails mark (from + 512 * cuts.first) (written_if at front old) =
    writing-if shape s wholes marks tails mark from cuts.first at front old cut.some_blocks cuts.front_long cuts.front_writes begun in
    let whole : IsWriting shape s wholes marks tails mark (from + 512 * full) (written_round (run_layout shape) from all old) = half-written shape s wholes marks tails mark from full all old cut.some_blocks cuts begun in
    let place : 512 * sector_of (run_layout shape) from ≡ at = sector-place (run_layout shape) from in
    let within : at + 512 ≤ ring_start (run_layout shape) + round_of (run_layout shape) = place-within (run_layout shape) from (record { some = cut.some_blocks; few = cut.few_blocks }) in
    let free : IsTailPlace k = ⊎_elim (λ e. inr (omega arith)) (λ o. inl (omega arith)) live.holds.kept.place in
    ⊎_elim
    (λ in_place. ⊎_elim
    (λ here. writing-fails shape s wholes marks tails mark from cuts.first at front old new cut.some_blocks cuts.front_long (omega arith) (omega (arith, cut.some_blocks)) cuts.front_writes begun here)
    (λ there. writing-fails shape s wholes marks tails mark (from + 512 * cuts.first) cuts.second (ring_start (run_layout shape)) back (written_if at front old) new cut.some_blocks cuts.back_long
    (omega arith) (omega (arith, cut.some_blocks)) cuts.back_writes half there) in_place)
    (λ in_tail. ⊎_elim
    (λ none. empty-adds shape s wholes (after_given mark marks) tails (write_at (512 * k) part) (written_round (run_layout shape) from all old) new none.0
    (omega arith) (⊎_elim (λ e. omega (arith, cut.some_blocks)) (λ o. omega (arith, cut.some_blocks)) free) (fails-torn (write_at (512 * k) part) (written_round (run_layout shape) from all old) new in_tail) whole.holds)
    (λ more. tail-adds shape s wholes marks tails mark (from + 512 * full) (write_at (512 * k) part) (written_round (run_layout shape) from all old) new cut.some_blocks whole more.1 (fails-torn (write_at (512 * k) part) (written_round (run_layout shape) from all old) new in_tail))
    (tail-cases shape s wholes marks mark ckpt full k bytes firsts live.holds.order written_place cut given)) fails
