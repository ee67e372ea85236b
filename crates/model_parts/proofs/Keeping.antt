-- What opening leaves on the two devices, step by step, is read with the opened pages.
use Rattle.std.proofs.Common.{◌≡◌, ◌⊎◌, ◌%◌, ℕ, ◌+◌, inl, inr, false, List, [], length, refl, sym, ap, subst, ◌∙◌, ⊎_elim, Option, arith, Some, None}
use Rattle.std.specs.List.{slice_index_or as get_or}
use Rattle.model_base.specs.{run_shape}
use Rattle.model_base.specs.declared.shape.Shape.{Shape}
use Rattle.model_device.specs.{IsImage, sector, settled, Disk}
use Rattle.model_device.proofs.Images.{settled_images}
use Rattle.model_log.specs.{checkpoint_text, IsInRound, place_of, run_layout, run_format, newest_checkpoint}
use Rattle.model_log.specs.declared.head.Format.TheVariants.{One}
use Rattle.model_log.proofs.Formats.{of_run}
use Rattle.model_log.specs.declared.layout.Layout.{Layout}
use Rattle.model_page.specs.{blank_page, stretch_at}
use Rattle.model_page.specs.declared.content.Content.{Content}
use Rattle.model_store.specs.{AreFoundIn, IsFair, IsFairLog, IsOrderly, IsReading, read_full, taken, Reading}
use Rattle.model_store.specs.declared.tail.Tail.{Tail}
use Rattle.model_store.proofs.Taking.{taken-none_two}
use Rattle.model_parts.specs.Changes.{IsPut, IsPutting}
use Rattle.model_parts.specs.Formatted.{KeepsHead}
use Rattle.model_parts.specs.Cleared.{IsCleared, IsClearing}
use Rattle.model_parts.specs.Held.{IsFresh}
use Rattle.model_parts.specs.Migrating.{IsMigrating}
use Rattle.model_parts.specs.Opened.{found_layout, IsOpenable, KeepsOpened, numbers_taken, ReadsOpened, start_block, start_of}
use Rattle.model_parts.specs.Ready.{IsReadyBy}
use Rattle.model_parts.specs.Rewritten.{IsRewriting, IsRewritten}
use Rattle.model_parts.specs.Stored.{HasNothingPending, IsUpTo, Stored, read_as}
use Rattle.model_parts.proofs.Alike.{kept-head_reads}
use Rattle.model_parts.proofs.Clearing.{block-sector}
use Rattle.model_parts.proofs.Fresh.{marking-reads, some-taken}
use Rattle.model_parts.proofs.Migration.{head-first, migrating-reads}
use Rattle.model_parts.proofs.Pages.{stored-image}
use Rattle.model_parts.proofs.Reread.{by_shape, clearing-reads, IsForSameRun, IsLogRead, IsNextFound, log-read, next-reads_by, same-log_blocks, same-pages}

pub kept-head_keeps : (opened : Reading) (log_bytes data_bytes : List ℕ) (log_disk data_disk : Disk) → IsReading log_bytes data_bytes opened
    → ((image : List ℕ) → IsFairLog log_disk image → KeepsHead log_bytes image)
    → ((image : List ℕ) → IsFair opened.shape data_disk image → IsRewriting opened data_bytes image)
    → KeepsOpened opened log_disk data_disk
kept-head_keeps opened log_bytes data_bytes log_disk data_disk reads keeps rewrites log data_image is fair =
    kept-head_reads opened log_bytes data_bytes log data_image reads (keeps log is) (rewrites data_image fair)

pub clearing-keeps : (opened : Reading) (log_bytes data_bytes : List ℕ) (tail : Option Tail) (log_disk data_disk : Disk) → IsReading log_bytes data_bytes opened
    → AreFoundIn (found_layout opened) log_bytes opened.ckpt opened.views tail
    → ((image : List ℕ) → IsFairLog log_disk image → IsClearing (found_layout opened) opened.ckpt (start_of opened) tail log_bytes image)
    → ((image : List ℕ) → IsFair opened.shape data_disk image → IsRewriting opened data_bytes image)
    → KeepsOpened opened log_disk data_disk
clearing-keeps opened log_bytes data_bytes tail log_disk data_disk reads found clears rewrites log data_image is fair =
    clearing-reads opened log_bytes data_bytes log data_image tail reads found (clears log is) (rewrites data_image fair)

pub marking-keeps : (opened : Reading) (log_bytes data_bytes old_log : List ℕ) (tail : Option Tail) (log_disk data_disk : Disk) → IsOrderly log_bytes data_bytes opened
    → AreFoundIn (found_layout opened) log_bytes opened.ckpt opened.views tail
    → IsCleared (found_layout opened) opened.ckpt (start_of opened) tail log_bytes old_log
    → ((image : List ℕ) → IsFairLog log_disk image
    → IsPutting (place_of (opened.number + 1)) (checkpoint_text (opened.number + 1) (start_block opened) (found_layout opened)) old_log image)
    → Stored opened.shape (IsUpTo (read_as opened)) (read_as opened) [] false data_disk
    → KeepsOpened opened log_disk data_disk
marking-keeps opened log_bytes data_bytes old_log tail log_disk data_disk orderly found cleared marks stored log data_image is fair =
    marking-reads opened log_bytes data_bytes old_log log data_image tail orderly found cleared (marks log is)
    (stored-image opened data_disk data_image orderly.reads.count stored fair)

pub migrating-keeps : (opened : Reading) (log_bytes data_bytes old_log marked : List ℕ) (tail : Option Tail) (log_disk data_disk : Disk) → IsOrderly log_bytes data_bytes opened
    → AreFoundIn (found_layout opened) log_bytes opened.ckpt opened.views tail → sector 2 log_bytes ≡ sector 0 log_bytes → opened.format ≡ One
    → IsCleared (found_layout opened) opened.ckpt (start_of opened) tail log_bytes old_log
    → IsPut (place_of (opened.number + 1)) (checkpoint_text (opened.number + 1) (start_block opened) (found_layout opened)) old_log marked
    → ((image : List ℕ) → IsFairLog log_disk image → IsMigrating opened.shape (opened.number + 2) (start_block opened) marked image)
    → Stored opened.shape (IsUpTo (read_as opened)) (read_as opened) [] false data_disk
    → KeepsOpened opened log_disk data_disk
migrating-keeps opened log_bytes data_bytes old_log marked tail log_disk data_disk orderly found alike format cleared put migrates stored log data_image is fair =
    migrating-reads opened log_bytes data_bytes old_log marked log data_image tail orderly found alike format cleared put (migrates log is)
    (stored-image opened data_disk data_image orderly.reads.count stored fair)

-- ONCE A RUN CAN START.

-- the log is read from the last checkpoint of opening on
pub fresh-next : (opened : Reading) (shape : Shape) (log_bytes data_bytes : List ℕ) (disk : Disk)
    → IsReading log_bytes data_bytes opened → IsForSameRun shape opened
    → IsFresh shape (start_of opened) (opened.number + numbers_taken opened.format) disk
    → IsNextFound (by_shape shape opened) (run_format shape) (opened.number + numbers_taken opened.format) disk.reads
fresh-next opened shape log_bytes data_bytes disk reads sizes fresh =
    let log : IsLogRead log_bytes opened = log-read log_bytes data_bytes opened reads in
    let lsn : ℕ = start_block opened in
    let aligned : lsn % 512 ≡ 0 = omega (arith, log.log.place) in
    let here : IsInRound (run_layout shape) lsn lsn = record {
      aligned = aligned;
      from = omega arith;
      below = omega (arith, log.limits.many_blocks, same-log_blocks shape opened sizes);
    } in
    record {
      long = fresh.long;
      head = head-first disk.reads (run_format shape) shape (fresh.heads 0 (inl refl));
      later = (let some = some-taken opened.format in omega arith);
      up_to = omega arith;
      newest = of_run
          (λ (l : Layout). newest_checkpoint l disk.reads ≡ Some (opened.number + numbers_taken opened.format, lsn))
          shape fresh.newest;
      none = of_run (λ (l : Layout). taken l disk.reads lsn ≡ None) shape
          (taken-none_two (run_layout shape) disk.reads lsn refl
          (ap (read_full lsn) (block-sector (run_layout shape) lsn disk.reads) ∙ fresh.unread lsn here)
          (fresh.no_tail 4 (inl refl) lsn aligned (omega arith))
          (fresh.no_tail 5 (inr refl) lsn aligned (omega arith)));
    }

fresh-image : (disk : Disk) (image : List ℕ) → disk ≡ settled disk.reads → IsFairLog disk image → image ≡ disk.reads
fresh-image disk image nothing is = (settled_images disk.reads).1 image (subst (λ (d : Disk). IsImage d image) nothing is.possible)

-- where nothing is pending, an image is fair by any sizes
fair-by : (one other : Shape) (disk : Disk) (image : List ℕ) → HasNothingPending disk
    → IsFair one disk image → IsFair other disk image
fair-by one other disk image nothing fair =
    let is : image ≡ disk.base =
    (settled_images disk.base).1 image (subst (λ (d : Disk). IsImage d image) nothing fair.possible) in
    record {
      possible = fair.possible;
      each = λ n below passes. record { count = 0; some = omega arith; same = ap (stretch_at other n) is };
    }

-- a page that was never written is as long by those sizes
same-blank : (shape : Shape) (opened : Reading) → IsForSameRun shape opened → blank_page shape ≡ blank_page opened.shape
same-blank shape opened sizes = ap blank_page sizes

-- so where each place holds its page by those sizes, the device is rewritten by them
pub stored-image_by : (opened : Reading) (shape : Shape) (disk : Disk) (image : List ℕ)
    → length opened.pages ≡ opened.shape.pages → IsForSameRun shape opened
    → Stored shape (IsUpTo (read_as opened)) (read_as opened) [] false disk → IsFair opened.shape disk image
    → IsRewritten (by_shape shape opened) image
stored-image_by opened shape disk image count sizes stored fair =
    stored-image (by_shape shape opened) disk image (count ∙ sym (same-pages shape opened sizes))
    (subst (λ (blank : Content).
    let pages : ℕ → Content = λ p. get_or opened.pages p blank in Stored shape (IsUpTo pages) pages [] false disk)
    (sym (same-blank shape opened sizes)) stored)
    (fair-by opened.shape shape disk image (stored.steady refl).nothing_pending fair)

-- by its own sizes or by those of a run
ready-reads : (opened : Reading) (log_bytes data_bytes : List ℕ) (shape : Shape) (log_disk data_disk : Disk)
    → IsOrderly log_bytes data_bytes opened → IsForSameRun shape opened
    → IsReadyBy shape opened log_disk data_disk → KeepsOpened opened log_disk data_disk
ready-reads opened log_bytes data_bytes shape log_disk data_disk orderly sizes ready log data_image is fair =
    let log_is : log ≡ log_disk.reads = fresh-image log_disk log ready.log.nothing_pending is in
    subst (λ (bytes : List ℕ). ReadsOpened opened bytes data_image) (sym log_is)
    (next-reads_by opened shape (run_format shape) (opened.number + numbers_taken opened.format) log_bytes data_bytes
    log_disk.reads data_image orderly.reads sizes
    (fresh-next opened shape log_bytes data_bytes log_disk orderly.reads sizes ready.log)
    (stored-image_by opened shape data_disk data_image orderly.reads.count sizes ready.pages fair))

pub ready-keeps : (opened : Reading) (log_bytes data_bytes : List ℕ) (shape : Shape) (log_disk data_disk : Disk)
    → IsOrderly log_bytes data_bytes opened → (shape ≡ opened.shape) ⊎ (shape ≡ run_shape opened.shape)
    → IsReadyBy shape opened log_disk data_disk → KeepsOpened opened log_disk data_disk
ready-keeps opened log_bytes data_bytes shape log_disk data_disk orderly which =
    ready-reads opened log_bytes data_bytes shape log_disk data_disk orderly
    (⊎_elim (λ own. ap run_shape own) (λ run. ap run_shape run) which)

-- BEFORE THE FIRST STEP.

pub openable-keeps : (opened : Reading) (log_disk data_disk : Disk) → IsOpenable opened log_disk data_disk → KeepsOpened opened log_disk data_disk
openable-keeps opened log_disk data_disk is log data_image image fair =
    let log_is : log ≡ log_disk.reads = is.log_rests.one_image log image.possible in
    let data_is : data_image ≡ data_disk.reads = is.data_rests.one_image data_image fair.possible in
    subst (λ (bytes : List ℕ). ReadsOpened opened bytes data_image) (sym log_is)
    (subst (ReadsOpened opened log_disk.reads) (sym data_is) (record {
      reading = opened;
      is_read = is.orderly.reads;
      old_copies = is.orderly.copies;
      shape = refl;
      pages = refl;
      log = inl (record { format = refl; number = refl; ckpt = refl; wholes = refl; end = refl });
    }))
