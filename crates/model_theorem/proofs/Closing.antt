-- What two devices that hold a run leave to be read.
use Rattle.std.proofs.Common.{◌≡◌, ℕ, ◌^◌, ◌<◌, ◌≤◌, List, ◌++◌, length, Some, slice_get, arith, sym, ap, ◌∙◌, subst, append_assoc, refl}
use Rattle.std.specs.List.{AllByRecursion}
use Rattle.std.proofs.lemmas.Option.{slice_get_within}
use Rattle.std.proofs.lemmas.Bool.Decides.{nat_tests}
use Rattle.model_base.specs.declared.shape.Shape.{Shape}
use Rattle.model_base.specs.{IsWithinLimits}
use Rattle.model_log.specs.declared.group.Whole.{Whole}
use Rattle.model_log.specs.{groups_of, IsAtDataStart, IsRunOf, run_layout, start_after, run_format, newest_checkpoint}
use Rattle.model_device.specs.{Disk}
use Rattle.model_log.specs.declared.block.BlockView.{BlockView}
use Rattle.model_log.proofs.Formats.{of_run}
use Rattle.model_log.specs.declared.layout.Layout.{Layout}
use Rattle.model_page.specs.declared.content.Content.{Content}
use Rattle.model_store.specs.{folded, HasScan, IsFair, IsFairLog, IsNoNewerCopy, IsReadPage, IsStorable, page_folded, taken, IsScan, Reading}
use Rattle.model_page.specs.{copy_lsn}
use Rattle.model_theorem.proofs.Cuts.{IsCut, kept-page, copies-old}
use Rattle.model_store.proofs.Places.{has_place}
use Rattle.model_script.specs.declared.script.ScriptLine.{ScriptLine}
use Rattle.model_report.specs.{FitsMarks, IsLegal, IsLegalEntry}
use Rattle.model_report.specs.declared.entry.Entry.{Entry}
use Rattle.model_report.specs.declared.entry.Marks.{Marks}
use Rattle.model_report.specs.declared.entry.State.TheVariants.{Flushed}
use Rattle.model_theorem.specs.Run.{ReadsPrefix, Opened, Ran}
use Rattle.model_parts.specs.{CrashReads, FitsStore, LogHolds, LogHoldsWith, ScansTo}
use Rattle.model_parts.specs.declared.marks.LogMarks.{LogMarks}
use Rattle.model_theorem.specs.Kept.{DataHolds}
use Rattle.model_theorem.specs.Given.{AreGiven}
use Rattle.model_theorem.specs.Closed.{Held, IsHeld, AreMarksBehind, groups_of_run}
use Rattle.model_store.proofs.Folding.{length-folded, get-folded}
use Rattle.model_report.proofs.Groups.{have-lines, run-from, first-front, reached}
use Rattle.model_theorem.proofs.Fitting.{good-from}
use Rattle.model_theorem.proofs.Sizes.{run-alike}

-- what the log part's law says
abbrev pub LogLaw : Type 0
LogLaw = (shape : Shape) (s : ℕ) (wholes : List Whole) (marks : LogMarks) (disk : Disk) (image : List ℕ)
    → FitsStore shape wholes marks → LogHolds shape s wholes marks disk
    → IsFairLog disk image → CrashReads shape s wholes marks image

-- a log's end is at or before the start of the next run
pub end-start : (end : ℕ) → end ≤ start_after end
end-start end = grind (arith, nat_tests)

pub few-blocks : (shape : Shape) → IsWithinLimits shape → (run_layout shape).blocks < 2 ^ 30
few-blocks shape limits = omega (arith, limits.few_blocks)

pub some-blocks : (shape : Shape) → IsWithinLimits shape → 1 ≤ (run_layout shape).blocks
some-blocks shape limits = omega (arith, limits.many_blocks)

-- the groups of a run that is held
groups-good : (held : Held) → IsHeld held → AllByRecursion (IsStorable held.opened.shape) (groups_of (groups_of_run held))
groups-good held is =
    good-from held.opened.shape held.script held.run.entries is.given.fits
    (have-lines held.script held.opened.shape.space held.run.start held.run.marks held.run.entries is.is_run.legal)

groups-run : (held : Held) → IsHeld held → IsRunOf held.run.start (groups_of_run held)
groups-run held is = run-from held.script held.opened.shape.space held.run.start held.run.marks held.run.entries is.is_run.legal

-- what the log image gives of a run that is held, and the page side of it
record IsRead (held : Held) (log store : List ℕ) : Type 0 where
  number : ℕ
  ckpt : ℕ
  end : ℕ
  middle : List Whole
  before : List Whole
  after : List Whole
  views : List BlockView
  parts : groups_of_run held ≡ before ++ (middle ++ after)
  scan : HasScan log store (run_format held.opened.shape) held.opened.shape number ckpt views middle end
  read_end : AllByRecursion (λ (whole : Whole). whole.end ≤ end) (before ++ middle)
  other_ends : AllByRecursion (λ (whole : Whole). end < whole.end) after
  each : (p : ℕ) (page : Content) → slice_get held.opened.pages p ≡ Some page
      → IsReadPage held.opened.shape store middle end p (page_folded p (before ++ middle) page)
  old_copies : (p slot lsn : ℕ) (page : Content) → slot < held.opened.shape.slots → slice_get held.opened.pages p ≡ Some page
      → copy_lsn held.opened.shape store p slot ≡ Some lsn → IsNoNewerCopy held.opened.shape store slot lsn (page_folded p (before ++ middle) page)

is-read : LogLaw → (held : Held) (log store : List ℕ)
    → (is : IsHeld held) → IsFairLog held.log_disk log → IsFair held.opened.shape held.data_disk store
    → (found : IsRead held log store) × (is.log_marks.ckpt ≤ found.ckpt) × (is.log_marks.stable ≤ found.end)
is-read law held log store is log_fair fair =
    let opened : Opened = held.opened in
    let run : Ran = held.run in
    let shape : Shape = opened.shape in
    let wholes : List Whole = groups_of_run held in
    let marks : LogMarks = is.log_marks in
    let given : AreGiven held.script opened = is.given in
    let fit : AreMarksBehind run.marks marks = is.marks in
    let some_tails : LogHolds shape run.start wholes marks held.log_disk = is.log_holds in
    let holds : LogHoldsWith shape run.start wholes marks some_tails.tails held.log_disk = some_tails.holds in
    let good : AllByRecursion (IsStorable shape) (groups_of wholes) = groups-good held is in
    let fits : FitsStore shape wholes marks = record { good = good; small = fit.small; some_blocks = some-blocks shape given.shape; few_blocks = few-blocks shape given.shape } in
    let reads : CrashReads shape run.start wholes marks log = law shape run.start wholes marks held.log_disk log fits some_tails log_fair in
    let scan : ScansTo shape (run_layout shape).blocks run.start wholes marks.stable marks.given reads.ckpt (taken (run_layout shape) log) = reads.scan in
    let below : reads.ckpt ≤ marks.asked = reads.up_to in
    let start : IsAtDataStart run.start = holds.order.starts in
    let cut : IsCut shape run.start scan.before scan.middle scan.after reads.ckpt scan.mark = record {
      place = (omega arith, omega arith);
      run = subst (IsRunOf run.start) scan.parts (groups-run held is);
      good = subst (λ (ws : List Whole). AllByRecursion (IsStorable shape) (groups_of ws)) scan.parts good;
      starts = scan.starts;
      other_ends = scan.other_ends;
    } in
    let pages_held : DataHolds shape opened.pages wholes marks.stable marks.asked held.data_disk = is.data_holds in (
      record {
        number = reads.number;
        ckpt = reads.ckpt;
        end = scan.mark;
        middle = scan.middle;
        before = scan.before;
        after = scan.after;
        views = scan.views;
        parts = scan.parts;
        scan = record {
          devices = record {
            head = reads.head;
            log_long = omega (arith, holds.long, log_fair.possible.same_length);
            data_long = omega (arith, pages_held.long, fair.possible.same_length);
          };
          checkpoint = of_run (λ (layout : Layout). newest_checkpoint layout log ≡ Some (reads.number, reads.ckpt)) shape reads.newest;
          scan = of_run (λ (layout : Layout). IsScan shape layout.blocks (taken layout log) reads.ckpt scan.views scan.middle scan.mark) shape scan.scan;
        };
        read_end = scan.read_end;
        other_ends = scan.other_ends;
        each = λ p page at.
            let old : page.lsn ≤ opened.end = given.not_ahead p page at in
            let later : opened.end ≤ start_after opened.end = end-start opened.end in
            kept-page shape run.start wholes scan.before scan.middle scan.after marks.stable marks.asked reads.ckpt scan.mark p store page
            scan.parts cut scan.from below (omega (arith, is.is_run.start)) (pages_held.keeps store fair p page at);
        old_copies = λ p slot lsn page within at copy.
            let old : page.lsn ≤ opened.end = given.not_ahead p page at in
            let later : opened.end ≤ start_after opened.end = end-start opened.end in
            copies-old shape run.start wholes scan.before scan.middle scan.after marks.stable marks.asked reads.ckpt scan.mark p slot lsn store page
            scan.parts cut scan.from (omega (arith, is.is_run.start)) (pages_held.keeps store fair p page at) within copy;
      },
      reads.from,
      scan.from,
    )

reading-of : (held : Held) (log store : List ℕ) → IsRead held log store → Reading
reading-of held log store found = record {
  format = run_format held.opened.shape;
  shape = held.opened.shape;
  number = found.number;
  ckpt = found.ckpt;
  views = found.views;
  wholes = found.middle;
  end = found.end;
  pages = folded held.opened.pages (found.before ++ found.middle);
}

-- an element of a fold comes from one of the pages
from-page : (pages : List Content) (wholes : List Whole) (p : ℕ) (page : Content) → slice_get (folded pages wholes) p ≡ Some page
    → (old : Content) × (slice_get pages p ≡ Some old) × (page ≡ page_folded p wholes old)
from-page pages wholes p page at =
    let within : p < length (folded pages wholes) = slice_get_within (folded pages wholes) p page at in
    let old = has_place pages p (omega (arith, length-folded pages wholes)) in
    let there = get-folded p pages wholes old.0 old.1 in
    let same : page ≡ page_folded p wholes old.0 = cc in
    (old.0, old.1, same)

flushed-end : (script : List ScriptLine) (space s i : ℕ) (marks : Marks) (entries : List Entry) (entry : Entry) → IsLegal script space s marks entries
    → slice_get entries i ≡ Some entry → entry.state ≡ Flushed → entry.end ≤ marks.flushed
flushed-end script space s i marks entries entry legal at is =
    let here : IsLegalEntry script space marks entry = legal.each i entry at in
    subst (FitsMarks marks entry.end) is here.marks_say

-- whatever a crash leaves is read as a prefix
pub reads-prefix : LogLaw → (held : Held) (log store : List ℕ)
    → IsHeld held → IsFairLog held.log_disk log → IsFair held.opened.shape held.data_disk store
    → ReadsPrefix held.script held.opened (Some held.run) log store
unfolding reading-of
reads-prefix law held log store is log_fair fair =
    let opened : Opened = held.opened in
    let run : Ran = held.run in
    let whole = is-read law held log store is log_fair fair in
    let found : IsRead held log store = whole.0 in
    let front : List Whole = found.before ++ found.middle in
    let parts : groups_of_run held ≡ front ++ found.after = found.parts ∙ sym (append_assoc found.before found.middle found.after) in
    record {
      reading = reading-of held log store found;
      is_read = record {
        scan = found.scan;
        count = length-folded opened.pages front ∙ is.given.count;
        each = λ p page at.
            let from = from-page opened.pages front p page at in
            subst (IsReadPage opened.shape store found.middle found.end p) (sym from.2) (found.each p from.0 from.1);
      };
      old_copies = λ p slot lsn page within at copy.
          let from = from-page opened.pages front p page at in
          subst (IsNoNewerCopy opened.shape store slot lsn) (sym from.2) (found.old_copies p slot lsn from.0 within from.1 copy);
      prefix = record {
        shape = run-alike opened.shape is.given.slots;
        shape_of_run = refl;
        first_groups_whole = ap (folded opened.pages) (sym (first-front held.script opened.shape.space found.end run.entries front found.after parts found.read_end found.other_ends));
        reaching_flushed = λ i entry at state.
            let low : entry.end ≤ run.marks.flushed = flushed-end held.script opened.shape.space run.start i run.marks run.entries entry is.is_run.legal at state in
            reached held.script opened.shape.space found.end i run.entries entry front found.after parts found.read_end found.other_ends at
            (omega (arith, is.marks.flushed, whole.2));
        marks = record {
          flushed = omega (arith, is.marks.flushed, whole.2);
          checkpoint = omega (arith, is.marks.ckpt, whole.1);
        };
      };
    }
