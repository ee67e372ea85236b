-- Where a store was ready, both its devices hold just what was opened.
use Rattle.std.proofs.Common.{List, None, Option, Some, [], ap, arith, false, get_or, subst, sym, ℕ, ◌+◌, ◌-◌, ◌/◌, ◌<◌, ◌^◌, ◌∙◌, ◌≡◌, ◌≤◌}
use Rattle.std.specs.Prelude.{IfSome}
use Rattle.model_base.specs.{run_shape}
use Rattle.model_base.specs.declared.shape.Shape.{Shape}
use Rattle.model_base.specs.declared.limits.TheConstants.{START_LSN}
use Rattle.model_parts.specs.{first_marks, first_tails, IsLive, IsUpTo, numbers_taken, read_as, start_of}
use Rattle.model_parts.specs.Stored.{Stored}
use Rattle.model_device.specs.{Disk}
use Rattle.model_log.specs.declared.head.Format.{Format}
use Rattle.model_log.specs.declared.head.Format.TheVariants.{One, Two, Three}
use Rattle.model_running.specs.{kept_content}
use Rattle.model_parts.specs.declared.marks.LogMarks.{LogMarks}
use Rattle.model_parts.specs.declared.marks.TailMarks.{TailMarks}
use Rattle.model_page.specs.{blank_page}
use Rattle.model_page.specs.declared.content.Content.{Content}
use Rattle.model_theorem.proofs.Start.{start-live}
use Rattle.model_theorem.specs.{IsStart}
use Rattle.model_script.specs.declared.script.ScriptLine.{ScriptLine}
use Rattle.model_store.specs.{Reading}
use Rattle.redo_drive.proofs.DataPartStarts.{opened_begins}
use Rattle.redo_drive.specs.DataPartSide as data_part
use Rattle.redo_disk.specs.{Seen}
use Rattle.redo_logdev.specs.{DiskHolds}
use Rattle.redo_logdev.specs.Part as log
use Rattle.redo_drive.specs.LogPartSide as log_part
use Rattle.redo_drive.proofs.StartWordsPages.{content_of-kept_page_of}
use Rattle.redo_drive.specs.StartWords.{opened_page}
use Rattle.redo_store.specs.Part as store

-- the pages that the run finds are those that were read
pages_as_read : (shape : Shape) (pages : List Content) (reading : Reading) → shape ≡ run_shape reading.shape → pages ≡ reading.pages
    → (p : ℕ) → kept_content (opened_page shape pages p) ≡ read_as reading p
pages_as_read shape pages reading same_shape same_pages p =
    content_of-kept_page_of (get_or pages p (blank_page shape))
    ∙ ap (λ (page : Content). get_or pages p page) (ap blank_page same_shape)
    ∙ ap (λ (ps : List Content). get_or ps p (blank_page reading.shape)) same_pages

-- the numbers of checkpoints that opening makes are far from going round
few_numbers : (format : Format) (found number ckpt : ℕ) → number ≡ found + numbers_taken format → found < 2 ^ 63 → START_LSN ≤ ckpt
    → number ≤ 2 ^ 63 + ckpt / 512
few_numbers One found number ckpt is left started = omega arith
few_numbers Two found number ckpt is left started = omega arith
few_numbers Three found number ckpt is left started = omega arith

module _ (reading : Reading) (script : List ScriptLine) (log_disk data_disk : Disk) (is : IsStart reading script log_disk data_disk) where
  -- the log device
  pub log_begun : {L : Type 0} (seen : L → Seen) (part : log.Part L) → part.shape ≡ run_shape reading.shape → part.failed ≡ None
      → ◌≡◌ {A = LogMarks} part.marks (first_marks (start_of reading) (reading.number + numbers_taken reading.format))
      → ◌≡◌ {A = TailMarks} part.tails (first_tails (start_of reading)) → (seen part.dev).tells ≡ Some log_disk
      → log_part.HasBegun seen (start_of reading) part
  log_begun seen part shape live marks tails tells =
      let number : ℕ = reading.number + numbers_taken reading.format in
      let held : IsLive (run_shape reading.shape) (start_of reading) [] (first_marks (start_of reading) number) (first_tails (start_of reading)) log_disk =
      start-live reading script log_disk data_disk is in
      let fresh : DiskHolds (run_shape reading.shape) (start_of reading) [] (first_marks (start_of reading) number) (first_tails (start_of reading)) part.failed log_disk =
      record { holds = held.holds; live = λ _. held.is_written } in
      record {
        holds = subst (λ (o : Option Disk). IfSome o (DiskHolds part.shape (start_of reading) [] part.marks part.tails part.failed)) (sym tells)
            (subst (λ (s : Shape). DiskHolds s (start_of reading) [] part.marks part.tails part.failed log_disk) (sym shape)
            (subst (λ (t : TailMarks). DiskHolds (run_shape reading.shape) (start_of reading) [] part.marks t part.failed log_disk) (sym tails)
            (subst (λ (m : LogMarks). DiskHolds (run_shape reading.shape) (start_of reading) [] m (first_tails (start_of reading)) part.failed log_disk) (sym marks) fresh)));
        few = (let ckpt : part.marks.ckpt ≡ start_of reading - 12 = ap (λ (m : LogMarks). m.ckpt) marks in
            few_numbers reading.format reading.number part.marks.number part.marks.ckpt (ap (λ (m : LogMarks). m.number) marks) is.orderly.numbers_left
            (omega (arith, held.holds.order.ckpt_started)));
      }

  -- the data device
  pub data_begun : {D : Type 0} (seen : D → Seen) (shape : Shape) (pages : List Content) (part : store.Part D) → shape ≡ run_shape reading.shape → pages ≡ reading.pages
      → part.shape ≡ shape → part.failed ≡ None → (seen part.dev).tells ≡ Some data_disk → data_part.HasBegun seen (opened_page shape pages) part
  data_begun seen shape pages part same_shape same_pages its_shape live tells =
      opened_begins seen (opened_page shape pages) reading part (its_shape ∙ same_shape) live (pages_as_read shape pages reading same_shape same_pages)
      (subst (λ (o : Option Disk). IfSome o (Stored (run_shape reading.shape) (IsUpTo (read_as reading)) (read_as reading) [] false)) (sym tells) is.ready.pages)
