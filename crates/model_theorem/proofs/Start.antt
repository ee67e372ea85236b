-- A store that opening made ready.
use Rattle.std.proofs.Common.{◌≡◌, ◌≢◌, ℕ, ◌+◌, ◌<◌, ◌≤◌, inl, inr, List, [], Some, slice_get, arith, refl, sym, subst, ⊎_elim}
use Rattle.std.proofs.lemmas.Bool.{cases_lt}
use Rattle.model_base.proofs.ShapeLimits.{run_within}
use Rattle.model_base.specs.{run_shape}
use Rattle.model_base.specs.declared.shape.Shape.{Shape}
use Rattle.model_device.specs.{Disk}
use Rattle.model_log.specs.{IsLayout, run_layout}
use Rattle.model_log.specs.declared.head.Format.TheVariants.{Two}
use Rattle.model_log.proofs.Layouts.{has-blocks, is_layout_of}
use Rattle.model_parts.specs.{first_marks, first_tails, IsLive, IsRewritten, LogHolds, numbers_taken, start_block, start_of}
use Rattle.model_page.specs.declared.content.Content.{Content}
use Rattle.model_store.specs.{IsFair, IsNoNewerCopy, Reading}
use Rattle.model_script.specs.declared.script.ScriptLine.{ScriptLine}
use Rattle.model_report.specs.{IsLeft}
use Rattle.model_parts.proofs.LogFresh.{fresh-live}
use Rattle.model_parts.proofs.Pages.{stored-image}
use Rattle.model_parts.proofs.Reread.{IsLogRead, log-read, HasNext, has-next}
use Rattle.model_store.proofs.Folding.{read-not_ahead}
use Rattle.model_theorem.specs.Closed.{IsClosed}
use Rattle.model_theorem.specs.Given.{AreGiven}
use Rattle.model_theorem.specs.Kept.{copy_of, DataHolds, HasOpenedPages, IsPrefixOf}
use Rattle.model_theorem.specs.Start.{IsStart, opened_as, unplayed}
use Rattle.model_theorem.proofs.Closing.{end-start}

-- what a run is given
pub start-given : (reading : Reading) (script : List ScriptLine) (log_disk data_disk : Disk) → IsStart reading script log_disk data_disk
    → AreGiven script (opened_as reading)
start-given reading script log_disk data_disk is =
    let log : IsLogRead is.log_bytes reading = log-read is.log_bytes is.data_bytes reading is.orderly.reads in
    record {
      shape = run_within reading.shape log.limits;
      slots = refl;
      count = is.orderly.reads.count;
      not_ahead = read-not_ahead is.log_bytes is.data_bytes reading is.orderly.reads;
      fits = is.fits;
    }

-- the log device
pub start-live : (reading : Reading) (script : List ScriptLine) (log_disk data_disk : Disk) → IsStart reading script log_disk data_disk
    → IsLive (run_shape reading.shape) (start_of reading) []
    (first_marks (start_of reading) (reading.number + numbers_taken reading.format)) (first_tails (start_of reading))
    log_disk
start-live reading script log_disk data_disk is =
    let log : IsLogRead is.log_bytes reading = log-read is.log_bytes is.data_bytes reading is.orderly.reads in
    let shape : Shape = run_shape reading.shape in
    let layout : IsLayout (run_layout shape) = is_layout_of Two shape log.limits.many_blocks log.limits.few_blocks in
    fresh-live shape (start_of reading) (reading.number + numbers_taken reading.format) log_disk
    (has-blocks (run_layout shape) layout) log.log.place (omega (arith, log.log.started, log.log.low)) is.ready.log

-- the reading, with the sizes of a run
abbrev as-run : Reading → Reading
as-run reading = record {
  format = reading.format;
  shape = run_shape reading.shape;
  number = reading.number;
  ckpt = reading.ckpt;
  views = reading.views;
  wholes = reading.wholes;
  end = reading.end;
  pages = reading.pages;
}

-- the data device
pub start-unwritten : (reading : Reading) (script : List ScriptLine) (log_disk data_disk : Disk) → IsStart reading script log_disk data_disk
    → HasOpenedPages (run_shape reading.shape) reading.pages data_disk
start-unwritten reading script log_disk data_disk is =
    let shape : Shape = run_shape reading.shape in
    let rewritten : (image : List ℕ) → IsFair shape data_disk image → IsRewritten (as-run reading) image =
    λ image fair. stored-image (as-run reading) data_disk image is.orderly.reads.count is.ready.pages fair in
    record {
      long = is.ready.pages.keeps.long;
      keeps = λ image fair. (rewritten image fair).each;
      copies = λ image fair. (rewritten image fair).old_copies;
    }

-- pages that nobody wrote, where the run has no group
unwritten-holds : (shape : Shape) (opened : List Content) (stable ckpt : ℕ) (disk : Disk) → ((p : ℕ) (page : Content) → slice_get opened p ≡ Some page → page.lsn ≤ stable) → HasOpenedPages shape opened disk
    → DataHolds shape opened [] stable ckpt disk
unwritten-holds shape opened stable ckpt disk old is = record {
  long = is.long;
  keeps = λ image fair p page at.
      let low : page.lsn ≤ stable = old p page at in
      record {
        content = page;
        kept = is.keeps image fair p page at;
        is_prefix = record { is_prefix = record { prefix = refl; behind = low }; passed = tt };
        copies = λ slot lsn slot_below copy.
            let old_copy : IsNoNewerCopy shape image slot lsn page = is.copies image fair p slot lsn page slot_below at copy in
            ⊎_elim (λ older. inl older) (λ later.
            let same : lsn ≡ page.lsn = omega (arith, old_copy.no_newer) in
            let one : copy_of shape image slot lsn ≡ page = (λ i. record { lsn = same i; user = old_copy.same same i }) in
            inr (subst (IsPrefixOf page [] stable p) (sym one) (record { prefix = refl; behind = low })))
            (cases_lt lsn page.lsn);
      };
}

-- AN OPENED STORE on which no line was played is a closed run
pub opened-closed : (failures : ℕ) (reading : Reading) (script : List ScriptLine) (left : List (ℕ × ℕ)) (log_disk data_disk : Disk)
    → IsStart reading script log_disk data_disk → IsLeft script [] left → (left ≢ [] → 0 < failures)
    → IsClosed failures (unplayed reading script left log_disk data_disk)
opened-closed failures reading script left log_disk data_disk is left_is failed =
    let s : ℕ = start_of reading in
    let shape : Shape = run_shape reading.shape in
    let next : HasNext reading = has-next is.log_bytes is.data_bytes reading is.orderly in
    let number : ℕ = reading.number + numbers_taken reading.format in
    let live : IsLive shape s [] (first_marks s number) (first_tails s) log_disk =
    start-live reading script log_disk data_disk is in
    let held : LogHolds shape s [] (first_marks s number) log_disk =
    record { tails = first_tails s; holds = live.holds } in
    let given : AreGiven script (opened_as reading) = start-given reading script log_disk data_disk is in
    let later : reading.end ≤ s = end-start reading.end in
    record {
      holds = record {
        given = given;
        is_run = record {
          start = refl;
          legal = record { tiled = tt; each = λ i entry at. absurd (cc); in_order = λ user i entry at. absurd (cc); lost_last = λ user i entry at lost. absurd (cc) };
          wtail = refl;
          write = refl;
          flushed = refl;
          write_within = omega arith;
        };
        log_marks = first_marks s number;
        marks = record { flushed = omega arith; ckpt = omega arith; small = omega (arith, next.small, next.aligned) };
        number_kept = omega arith;
        log_holds = held;
        data_holds = unwritten-holds shape reading.pages s (start_block reading) data_disk
            (λ p page at. (let old : page.lsn ≤ reading.end = given.not_ahead p page at in omega arith)) (start-unwritten reading script log_disk data_disk is);
      };
      left_is = left_is;
      loses = record { lost = λ i entry at lost. absurd (cc); left = failed; stopped = λ none. absurd (cc) };
    }
