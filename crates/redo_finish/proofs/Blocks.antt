-- One block more of what an archive lacks, and then others.
use Rattle.std.proofs.Common.{Err, None, Ok, Option, Result, Some, ap, arith, false, is_err, is_some, List, refl, subst, sym, ℕ, ◌+◌, ◌<◌, ◌∙◌, ◌≡◌, ◌≤◌}
use Rattle.std.proofs.Math.Nat.{min-le_right}
use Rattle.std.specs.Prelude.{IfSome, OnErr, OnOk}
use Rattle.model_archive.specs.declared.marks.ArchMarks.{ArchMarks}
use Rattle.model_base.specs.declared.limits.TheConstants.{BLOCK_SIZE}
use Rattle.model_core.specs.declared.ops.Answer.{Answer}
use Rattle.model_device.specs.{Disk}
use Rattle.model_log.specs.{block_of, IsBoundary, IsBoundaryBlock, IsRunOf, spans_of}
use Rattle.model_log.specs.declared.group.Whole.{Whole}
use Rattle.model_page.specs.declared.content.Content.{Content}
use Rattle.model_parts.specs.declared.marks.LogMarks.{LogMarks}
use Rattle.redo_archive.specs.Part.{Part, PartArchives}
use Rattle.redo_archiver.specs.{finishing_mark, IsAppended, IsToFinish, marks_after, MayAppendBlock}
use Rattle.redo_disk.proofs.Made.{serves_end}
use Rattle.redo_disk.specs.{Call, error_of, MakesCalls, Request, Serve, Seen, StillTells}
use Rattle.redo_disk.specs.declared.error.DevError.{DevError}
use Rattle.redo_disk.specs.declared.error.DevError.TheVariants.{Failed}
use Rattle.redo_drive.proofs.ArchiveGroups.{risen_since}
use Rattle.redo_drive.proofs.ArchiveTurns.{asked_then}
use Rattle.redo_drive.proofs.CallsOn.{calls_then, not_called}
use Rattle.redo_drive.specs.{HoldsFrom, IsReadBack, IsSameArchive}
use Rattle.redo_drive.specs.LogPartSide.{LogRead}
use Rattle.redo_finish.specs.{Finishes}
use Rattle.redo_logdev.specs.{DiskHolds, HoldsBlock}
use Rattle.redo_logdev.specs.Part as log

-- what a device tells
told_same : (tells : Option Disk) → StillTells tells tells
told_same None = tt
told_same (Some disk) = refl

told_then : (old middle new : Option Disk) → StillTells old middle → StillTells middle new → StillTells old new
told_then old middle None one two = tt
told_then old middle (Some disk) one two = subst (λ (m : Option Disk). IfSome m (λ d. old ≡ Some d)) two one

if_told : (tells : Option Disk) (Is : Disk → Type 0) → ((disk : Disk) → tells ≡ Some disk → Is disk) → IfSome tells Is
if_told None Is each = tt
if_told (Some disk) Is each = each disk refl

as_told : (tells : Option Disk) (Is : Disk → Type 0) (disk : Disk) → tells ≡ Some disk → IfSome tells Is → Is disk
as_told tells Is disk told is = subst (λ (o : Option Disk). IfSome o Is) told is

-- a call that was good, by what its part tells
was_ok : (result : Result (Unit {0}) DevError) (P : Type 0) → error_of result ≡ None → OnOk result P → P
was_ok (Ok done) P live is = is
was_ok (Err error) P live is = absurd (cc)

either_way : (result : Result (Unit {0}) DevError) (P : Type 0) → OnOk result P → OnErr result P → P
either_way (Ok done) P ok err = ok
either_way (Err error) P ok err = err

module _ {L A : Type 0} (log_seen : L → Seen) (gives : L → Call → L → Type 0) (seen : A → Seen)
    (arch_gives : A → Call → A → Type 0) (flushed : ℕ) where
  not_read : (p : log.Part L) → IsReadBack log_seen gives p p
  not_read p = record {
    shape = refl;
    marks = refl;
    told = told_same (log_seen p.dev).tells;
    later = omega arith;
    calls = not_called gives p.dev p.failed;
    holds = λ s wholes holds. holds;
  }

  pub read_back : (lsn code : ℕ) (bytes : List ℕ) (requests : List Request) (old new : log.Part L) → old.failed ≡ None
      → LogRead log_seen lsn bytes code old new → MakesCalls gives old.dev new.dev (Serve requests new.failed)
      → IsReadBack log_seen gives old new
  read_back lsn code bytes requests old new live read calls = record {
    shape = read.called.stays.shape;
    marks = either_way read.called.result (new.marks ≡ old.marks) read.called.on_ok read.called.on_err;
    told = read.told;
    later = read.called.stays.cause.later;
    calls = record { live = λ none. serves_end calls; over = λ some. absurd (some live) };
    holds = read.holds;
  }

  same_archive : (part : Part A) → part.failed ≡ None → IsSameArchive seen arch_gives part part
  same_archive part live = record {
    shape = refl;
    start = refl;
    size = refl;
    later = omega arith;
    risen = λ failed. let z : None ≡ Some Failed = sym live ∙ failed in absurd (cc);
    calls = not_called arch_gives part.dev part.failed;
  }

  -- THE LOG WAS READ ALONE.
  pub only_read : (old new : log.Part L) (part : Part A) → IsToFinish seen flushed part → IsReadBack log_seen gives old new
      → Finishes log_seen gives seen arch_gives flushed old new part part
  only_read old new part lacks read = record {
    to_finish = lacks;
    start = refl;
    up = omega arith;
    asked = λ asked. asked;
    log = read;
    same = same_archive part;
    over = λ some. refl;
    archives = λ pages wholes holds archives. if_told (log_seen new.dev).tells (λ disk. PartArchives seen pages wholes part)
        (λ disk told. archives);
  }

  pub nothing : (p : log.Part L) (part : Part A) → IsToFinish seen flushed part
      → Finishes log_seen gives seen arch_gives flushed p p part part
  nothing p part lacks = only_read p p part lacks (not_read p)

  -- A BLOCK WAS APPENDED.
  pub appended_one : (old new : log.Part L) (part later : Part A) (code : ℕ) (bytes : List ℕ) (answer : Answer)
      → IsToFinish seen flushed part → part.marks.mark < flushed → part.failed ≡ None
      → MayAppendBlock seen part (finishing_mark flushed part)
      → IsReadBack log_seen gives old new → LogRead log_seen (block_of part.marks.mark) bytes code old new
      → new.failed ≡ None
      → IsAppended seen part (finishing_mark flushed part) answer later
      → (asks : List Request) → MakesCalls arch_gives part.dev later.dev (Serve asks later.failed)
      → IsToFinish seen flushed later
      → ((m : ℕ) (pages : List Content) (wholes : List Whole) → IsRunOf part.start wholes
      → IsBoundary part.start (spans_of wholes) m → flushed ≤ m
      → IsBoundaryBlock part.start wholes m (block_of part.marks.mark) bytes
      → PartArchives seen pages wholes part → PartArchives seen pages wholes later)
      → Finishes log_seen gives seen arch_gives flushed old new part later
  appended_one old new part later code bytes answer lacks less live may read_so read good appended asks calls then archives =
      let low = may.later in
      let high = min-le_right (part.marks.mark + BLOCK_SIZE) flushed in
      record {
        to_finish = then;
        start = appended.start;
        up = up later.failed appended.marks;
        asked = λ asked. asked_then flushed (finishing_mark flushed part) part later appended.marks (omega arith) high;
        log = read_so;
        same = λ none. record {
          shape = appended.shape;
          start = appended.start;
          size = appended.size;
          later = appended.later;
          risen = appended.risen;
          calls = record { live = λ live. serves_end calls; over = λ some. absurd (some none) };
        };
        over = λ some. absurd (some live);
        archives = λ pages wholes holds had. if_told (log_seen new.dev).tells (λ disk. PartArchives seen pages wholes later)
            (λ disk told. by pages wholes holds had disk told);
      }
    where
      up : (failed : Option DevError) → later.marks ≡ marks_after (finishing_mark flushed part) failed part.marks
          → part.marks.mark ≤ later.marks.mark
      up None is =
          let e : later.marks.mark ≡ finishing_mark flushed part = ap (λ (z : ArchMarks). z.mark) is in
          let low = may.later in omega arith
      up (Some error) is = let e : later.marks.mark ≡ part.marks.mark = ap (λ (z : ArchMarks). z.mark) is in omega arith

      by : (pages : List Content) (wholes : List Whole)
          → HoldsFrom log_seen part.start wholes (block_of part.marks.mark) flushed old
          → PartArchives seen pages wholes part → (disk : Disk) → (log_seen new.dev).tells ≡ Some disk
          → PartArchives seen pages wholes later
      by pages wholes H had disk told =
          let before : (log_seen old.dev).tells ≡ Some disk =
          as_told (log_seen new.dev).tells (λ d. (log_seen old.dev).tells ≡ Some d) disk told read.told in
          let here : DiskHolds old.shape part.start wholes old.marks old.tails old.failed disk =
          as_told (log_seen old.dev).tells (DiskHolds old.shape part.start wholes old.marks old.tails old.failed) disk before
          H.holds in
          let order = here.holds.order in
          let stable = H.stable in
          let written = order.stable_written in
          let at = may.at_start in
          let found : HoldsBlock old (block_of part.marks.mark) = record { from = H.ckpt; some = omega arith } in
          let gives_so = was_ok read.called.result _ (sym read.called.stays.failed ∙ good)
          (read.block found part.start wholes) in
          let block : IsBoundaryBlock part.start wholes old.marks.written (block_of part.marks.mark) bytes =
          as_told (log_seen new.dev).tells (λ d. DiskHolds old.shape part.start wholes old.marks old.tails old.failed d
          → IsBoundaryBlock part.start wholes old.marks.written (block_of part.marks.mark) bytes) disk told gives_so here in
          archives old.marks.written pages wholes H.run order.written (omega arith) block had

  -- ONE AFTER THE OTHER.
  pub both : (old middle new : log.Part L) (part next later : Part A)
      → Finishes log_seen gives seen arch_gives flushed old middle part next
      → Finishes log_seen gives seen arch_gives flushed middle new next later
      → Finishes log_seen gives seen arch_gives flushed old new part later
  both old middle new part next later one two = record {
    to_finish = two.to_finish;
    start = two.start ∙ one.start;
    up = (let x = one.up in let y = two.up in omega arith);
    asked = λ asked. two.asked (one.asked asked);
    log = record {
      shape = two.log.shape ∙ one.log.shape;
      marks = two.log.marks ∙ one.log.marks;
      told = told_then (log_seen old.dev).tells (log_seen middle.dev).tells (log_seen new.dev).tells one.log.told two.log.told;
      later = (let x = one.log.later in let y = two.log.later in omega arith);
      calls = calls_then gives old.dev middle.dev new.dev old.failed middle.failed new.failed one.log.calls two.log.calls;
      holds = λ s wholes holds. two.log.holds s wholes (one.log.holds s wholes holds);
    };
    same = λ live. same_then live next.failed refl;
    over = λ some. let still = one.over some in
        two.over (λ none. some (ap (λ (p : Part A). p.failed) (sym still) ∙ none)) ∙ still;
    archives = λ pages wholes H had. if_told (log_seen new.dev).tells (λ disk. PartArchives seen pages wholes later)
        (λ disk told. by pages wholes H had disk told);
  }
    where
      same_then : part.failed ≡ None → (failed : Option DevError) → next.failed ≡ failed
          → IsSameArchive seen arch_gives part later
      same_then live None is =
          let x = one.same live in
          let y = two.same is in
          record {
            shape = y.shape ∙ x.shape;
            start = y.start ∙ x.start;
            size = y.size ∙ x.size;
            later = (let a = x.later in let b = y.later in omega arith);
            risen = λ failed. risen_since (seen part.dev).faults (seen next.dev).faults (seen later.dev).faults x.later y.later
                (y.risen failed);
            calls = calls_then arch_gives part.dev next.dev later.dev part.failed next.failed later.failed x.calls y.calls;
          }
      same_then live (Some error) is =
          let still = two.over (λ none. let z : Some error ≡ None = sym is ∙ none in absurd (cc)) in
          subst (IsSameArchive seen arch_gives part) (sym still) (one.same live)

      by : (pages : List Content) (wholes : List Whole)
          → HoldsFrom log_seen part.start wholes (block_of part.marks.mark) flushed old
          → PartArchives seen pages wholes part → (disk : Disk) → (log_seen new.dev).tells ≡ Some disk
          → PartArchives seen pages wholes later
      by pages wholes H had disk told =
          let before : (log_seen middle.dev).tells ≡ Some disk =
          as_told (log_seen new.dev).tells (λ d. (log_seen middle.dev).tells ≡ Some d) disk told two.log.told in
          let first : PartArchives seen pages wholes next =
          as_told (log_seen middle.dev).tells (λ d. PartArchives seen pages wholes next) disk before
          (one.archives pages wholes H had) in
          let more : HoldsFrom log_seen part.start wholes (block_of next.marks.mark) flushed middle = record {
            run = H.run;
            holds = one.log.holds part.start wholes H.holds;
            ckpt = (let low = H.ckpt in let up = one.up in
                let same : middle.marks.ckpt ≡ old.marks.ckpt = ap (λ (m : LogMarks). m.ckpt) one.log.marks in omega arith);
            stable = (let high = H.stable in
                let same : middle.marks.stable ≡ old.marks.stable = ap (λ (m : LogMarks). m.stable) one.log.marks in
                omega arith);
          } in
          as_told (log_seen new.dev).tells (λ d. PartArchives seen pages wholes later) disk told
          (two.archives pages wholes
          (subst (λ (s : ℕ). HoldsFrom log_seen s wholes (block_of next.marks.mark) flushed middle) (sym one.start) more) first)

-- what tests of both parts say
pub no_error : (failed : Option DevError) → is_some failed ≡ false → failed ≡ None
no_error None is = refl
no_error (Some error) is = absurd (cc)

pub no_err : (result : Result (Unit {0}) DevError) → is_err result ≡ false → error_of result ≡ None
no_err (Ok done) is = refl
no_err (Err error) is = absurd (cc)
