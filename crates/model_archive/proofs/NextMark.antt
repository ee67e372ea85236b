-- What the write of the next mark does to an archive, as `append` makes it.
use Rattle.std.proofs.Common.{◌≡◌, ◌≤◌, ◌<◌, ◌+◌, ◌-◌, ◌*◌, ◌%◌, ◌^◌, ℕ, inl, inr, List, length, take, drop, Option, Some, refl, sym, ap, subst, ◌∙◌, ⊎_elim, arith}
use Rattle.std.proofs.lemmas.List.{take_all}
use Rattle.std.proofs.lemmas.List.Elements.{All-nil}
use Rattle.model_base.specs.declared.shape.Shape.{Shape}
use Rattle.model_device.specs.{after_write, Covers, IsPutOrNot, IsSectorWrite, sector, settled, synced, written, written_sector, Disk}
use Rattle.model_device.specs.declared.write.Write.{Write}
use Rattle.model_device.proofs.Overwritten.{part-overwritten_inside}
use Rattle.model_log.specs.declared.group.Whole.{Whole}
use Rattle.model_log.specs.{IsDataLsn}
use Rattle.model_page.specs.declared.content.Content.{Content}
use Rattle.model_parts.proofs.Torn.{synced-stands}
use Rattle.model_archive.specs.Holds.{ArchiveHolds, HoldsUpTo, IsBesideMark, IsOlderMark, IsSteadyArchive}
use Rattle.model_archive.specs.Restore.{archive_length, mark_place, read_mark}
use Rattle.model_archive.specs.Marks.{after_append, after_asking}
use Rattle.model_archive.specs.declared.marks.ArchMarks.{ArchMarks}
use Rattle.model_archive.specs.Texts.{mark_text, other_mark_place}
use Rattle.model_archive.proofs.Newest.{mark-is}
use Rattle.model_archive.proofs.RoundTrips.{length-mark_text, mark-broken, mark-reads_back, next-other, next-place}
use Rattle.model_archive.proofs.Writes.{older-beside, Pends, put-pends, Spares, pended-holds, pended-archive, kept-sector, stays-holds, synced-written}
use Rattle.model_archive.proofs.Appending.{Step}

-- the write of the next mark
abbrev pub mark_write : ArchMarks → ℕ → Write
mark_write marks asked = record { at = 512 * mark_place (marks.number + 1); bytes = mark_text (marks.number + 1) asked }

mark-covers : (k at : ℕ) (bytes : List ℕ) → length bytes ≡ 512
    → (let write : Write = record { at = 512 * at; bytes = bytes } in Covers write k) → k ≡ at
mark-covers k at bytes long covers = omega (arith, covers.from, covers.up_to)

mark-sector : (k : ℕ) (bytes : List ℕ) → length bytes ≡ 512
    → (let write : Write = record { at = 512 * k; bytes = bytes } in written_sector write k ≡ bytes)
mark-sector k bytes long = let none : 512 * k - 512 * k ≡ 0 = omega arith in ap (λ n. take 512 (drop n bytes)) none
    ∙ take_all 512 bytes (omega arith)

mark-spares : (shape : Shape) (s mark : ℕ) (marks : ArchMarks) (asked : ℕ)
    → Spares shape s mark (mark_write marks asked)
mark-spares shape s mark marks asked k one two below covers =
    let same : k ≡ mark_place (marks.number + 1) = mark-covers k (mark_place (marks.number + 1))
    (mark_text (marks.number + 1) asked) (length-mark_text (marks.number + 1) asked) covers in
    ⊎_elim (λ first. one (same ∙ first)) (λ second. two (same ∙ second)) (mark-is (marks.number + 1))

pub mark-sectors : (shape : Shape) (s mark long : ℕ) (marks : ArchMarks) (asked : ℕ)
    → archive_length shape s mark ≤ long → IsSectorWrite long (mark_write marks asked)
mark-sectors shape s mark long marks asked within =
    let text : length (mark_text (marks.number + 1) asked) ≡ 512 = length-mark_text (marks.number + 1) asked in
    record {
      aligned = omega arith;
      whole = omega arith;
      within = ⊎_elim (λ one. omega arith) (λ two. omega arith) (mark-is (marks.number + 1));
    }

own-place : (number : ℕ) → mark_place number ≡ mark_place (number + 1) → ⊥
own-place number same = ⊎_elim (λ one. omega (arith, next-place number)) (λ two. omega (arith, next-place number))
    (mark-is number)

-- what the next mark is read as
next-read : (s : ℕ) (marks : ArchMarks) (asked : ℕ) → marks.number + 1 < 2 ^ 64 → IsDataLsn asked → s ≤ asked
    → asked < 2 ^ 60
    → read_mark (mark_place (marks.number + 1)) s (mark_text (marks.number + 1) asked) ≡ Some (marks.number + 1, asked)
next-read s marks asked small place from below = mark-reads_back s (marks.number + 1) asked small place from below

-- the mark was written, or the call failed there
pub mark-put : (shape : Shape) (s : ℕ) (pages : List Content) (wholes : List Whole) (marks : ArchMarks) (asked : ℕ)
    (old new : Disk) → marks.number + 1 < 2 ^ 64 → ArchiveHolds shape s pages wholes marks old
    → Step shape s pages wholes marks asked old → IsPutOrNot (mark_write marks asked) old new
    → ArchiveHolds shape s pages wholes (after_asking asked marks) new
mark-put shape s pages wholes marks asked old new small holds step calls =
    let write : Write = mark_write marks asked in
    let other : ℕ = other_mark_place marks.number in
    let next : ℕ = mark_place (marks.number + 1) in
    let text : List ℕ = mark_text (marks.number + 1) asked in
    let long : length text ≡ 512 = length-mark_text (marks.number + 1) asked in
    let pends : Pends write old new = put-pends write old new calls in
    let there : HoldsUpTo shape s pages wholes asked new =
    pended-holds shape s pages wholes asked write old new step.up_to pends
    (mark-spares shape s asked marks asked) in
    pended-archive shape s pages wholes marks asked write old new holds step.steady calls
    (mark-sectors shape s marks.mark (length old.base) marks asked holds.holds.long)
    (mark-spares shape s marks.mark marks asked)
    (λ covers. own-place marks.number (mark-covers (mark_place marks.number) next text long covers))
    (λ covers bytes whole. ⊎_elim
    (λ same.
    let at : other ≡ next = sym (next-place marks.number) in
    let content : bytes ≡ text = same ∙ ap (written_sector write) at ∙ mark-sector next text long in
    let read : read_mark other s bytes ≡ Some (marks.number + 1, asked) =
    ap (λ (b : List ℕ). read_mark other s b) content ∙ ap (λ k. read_mark k s text) at
    ∙ next-read s marks asked small step.up_to.place step.up_to.from step.up_to.small in
    subst (λ (o : Option (ℕ × ℕ)). IsBesideMark shape s pages wholes (after_asking asked marks) new o) (sym read)
    (inr (refl, refl, there)))
    (λ broken. subst (λ (o : Option (ℕ × ℕ)). IsBesideMark shape s pages wholes (after_asking asked marks) new o)
    (sym (mark-broken other s bytes broken)) tt) whole)

next-number : (number : ℕ) → number + 1 < 2 ^ 64 → (number + 1) % 2 ^ 64 ≡ number + 1
next-number number small = omega arith

pub mark-stays : (shape : Shape) (s : ℕ) (pages : List Content) (wholes : List Whole) (marks : ArchMarks) (asked : ℕ)
    (old : Disk) → marks.number + 1 < 2 ^ 64 → ArchiveHolds shape s pages wholes marks old
    → Step shape s pages wholes marks asked old
    → ArchiveHolds shape s pages wholes (after_append asked marks) (synced (written old (mark_write marks asked)))
    × IsSteadyArchive s (after_append asked marks) (synced (written old (mark_write marks asked)))
mark-stays shape s pages wholes marks asked old small holds step =
    let write : Write = mark_write marks asked in
    let number : ℕ = marks.number + 1 in
    let next : ℕ = mark_place number in
    let text : List ℕ = mark_text number asked in
    let long : length text ≡ 512 = length-mark_text number asked in
    let sectors : IsSectorWrite (length old.base) write =
    mark-sectors shape s marks.mark (length old.base) marks asked holds.holds.long in
    let new : List ℕ = after_write old.base write in
    let new_marks : ArchMarks = record { number = number; mark = asked; asked = asked } in
    let up_to : HoldsUpTo shape s pages wholes asked (settled new) =
    stays-holds shape s pages wholes asked write old holds.limits step.up_to sectors
    (mark-spares shape s asked marks asked) in
    let own : sector next new ≡ text = part-overwritten_inside 512 (512 * next) (512 * next) text old.base (omega arith)
    (omega arith) sectors.within ∙ mark-sector next text long in
    let beside : sector (mark_place marks.number) new ≡ sector (mark_place marks.number) old.base =
    kept-sector old.base write (mark_place marks.number) sectors
    (λ covers. own-place marks.number (mark-covers (mark_place marks.number) next text long covers)) in
    let was : read_mark (mark_place marks.number) s (sector (mark_place marks.number) old.base) ≡ Some
    (marks.number, marks.mark) = holds.newest (sector (mark_place marks.number) old.base) (inl (inl refl)) in
    let at : other_mark_place number ≡ mark_place marks.number = next-other marks.number in
    let read : read_mark (other_mark_place number) s (sector (other_mark_place number) new) ≡ Some
    (marks.number, marks.mark) =
    ap (λ k. read_mark k s (sector k new)) at ∙ ap (read_mark (mark_place marks.number) s) beside ∙ was in
    let older : IsOlderMark new_marks (read_mark (other_mark_place number) s (sector (other_mark_place number) new)) =
    subst (λ (o : Option (ℕ × ℕ)). IsOlderMark new_marks o) (sym read) (omega arith) in
    let archive : ArchiveHolds shape s pages wholes new_marks (settled new) = record {
      limits = holds.limits;
      start = holds.start;
      run = holds.run;
      sectors = All-nil (IsSectorWrite (length new));
      holds = up_to;
      newest = λ bytes stands. ap (read_mark next s) (synced-stands (settled new) next bytes stands ∙ own)
          ∙ next-read s marks asked small step.up_to.place step.up_to.from step.up_to.small;
      beside = λ bytes stands. older-beside shape s pages wholes new_marks asked (settled new)
          (read_mark (other_mark_place number) s bytes)
          (subst (λ (b : List ℕ). IsOlderMark new_marks (read_mark (other_mark_place number) s b))
          (sym (synced-stands (settled new) (other_mark_place number) bytes stands)) older);
    } in
    let steady : IsSteadyArchive s new_marks (settled new) = record { nothing_pending = refl; beside = older } in
    let same : new_marks ≡ after_append asked marks =
    ap (λ n. number-marks n asked) (sym (next-number marks.number small)) in
    let disk : settled new ≡ synced (written old write) =
    sym (synced-written write old step.steady.nothing_pending) in (
      subst (λ (m : ArchMarks). ArchiveHolds shape s pages wholes m (synced (written old write))) same
          (subst (λ (d : Disk). ArchiveHolds shape s pages wholes new_marks d) disk archive),
      subst (λ (m : ArchMarks). IsSteadyArchive s m (synced (written old write))) same
          (subst (λ (d : Disk). IsSteadyArchive s new_marks d) disk steady),
    )
  where
    number-marks : ℕ → ℕ → ArchMarks
    number-marks n asked = record { number = n; mark = asked; asked = asked }
