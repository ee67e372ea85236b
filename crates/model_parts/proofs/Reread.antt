-- What is read off the devices of a store while it is opened, and once a checkpoint of opening stands.
use Rattle.std.proofs.Common.{◌≡◌, ◌≤◌, ◌<◌, ◌+◌, ◌*◌, ◌%◌, ◌^◌, ℕ, inl, inr, List, [], length, Option, Some, None, refl, sym, ap, subst, ◌∙◌, ⊎_elim, arith}
use Rattle.std.specs.List.{slice_get}
use Rattle.model_base.specs.declared.shape.Shape.{Shape}
use Rattle.model_base.specs.declared.limits.TheConstants.{START_LSN}
use Rattle.model_base.specs.{IsWithinLimits, run_shape}
use Rattle.model_device.specs.{sector}
use Rattle.model_log.specs.declared.group.Whole.{Whole}
use Rattle.model_log.specs.declared.head.Format.{Format}
use Rattle.model_log.specs.declared.head.Head.TheVariants.{Good}
use Rattle.model_log.specs.declared.layout.Layout.{Layout}
use Rattle.model_log.specs.{head_among, head_of, header_block, layout_of, log_device_length, newer, newest_checkpoint, read_checkpoint}
use Rattle.model_log.specs.declared.block.BlockView.{BlockView}
use Rattle.model_log.proofs.Layouts.{is_layout_of}
use Rattle.model_page.specs.{IsKept}
use Rattle.model_page.specs.declared.content.Content.{Content}
use Rattle.model_page.proofs.Kept.{same_kept}
use Rattle.model_store.specs.{AreFoundIn, AreGroupsOf, groups_start, IsOrderly, IsReading, IsReadPage, IsScan, replayed, Source, taken, Reading}
use Rattle.model_store.specs.declared.tail.Tail.{Tail}
use Rattle.model_store.proofs.Ending.{EndsWithin, IsGroupsStart, StartsBehind, start-within, starts-behind}
use Rattle.model_store.proofs.Folding.{read-not_ahead}
use Rattle.model_store.proofs.Heads.{checkpoint-bounds, head-limits}
use Rattle.model_store.proofs.Sources.{AreTaken, empty-scan, ends-within, groups-start, IsSoundSource}
use Rattle.model_store.proofs.Taking.{store-sound}
use Rattle.model_parts.specs.Cleared.{IsClearing}
use Rattle.model_parts.specs.Opened.{found_layout, numbers_taken, ReadsOpened, start_block, start_of}
use Rattle.model_parts.specs.Rewritten.{IsRewriting, IsRewritten, KeepsEither}
use Rattle.model_parts.proofs.Clearing.{clearing-header, clearing-length, first-of, IsLog, IsTailIn}
use Rattle.model_parts.proofs.Dropping.{cleared-scan, Rescans}
use Rattle.model_parts.proofs.Lessening.{clearing-drops, tail-in}
use Rattle.model_parts.proofs.Replay.{replay-again}

-- WHAT A READING SAYS OF ITS LOG.

pub record IsLogRead (log_bytes : List ℕ) (opened : Reading) : Type 0 where
  pub limits : IsWithinLimits opened.shape
  pub log : IsLog (found_layout opened) opened.ckpt (start_of opened)
  pub long : log_device_length opened.shape ≤ length log_bytes
  pub sound : IsSoundSource (taken (found_layout opened) log_bytes)
  pub small : opened.ckpt < 2 ^ 60
  pub ends : EndsWithin opened.ckpt opened.end opened.views
  pub past : opened.end ≤ start_of opened
  pub among : start_of opened ≤ opened.ckpt + 512 * length opened.views + 12

pub log-read : (log_bytes data_bytes : List ℕ) (opened : Reading) → IsReading log_bytes data_bytes opened → IsLogRead log_bytes opened
log-read log_bytes data_bytes opened reads =
    let limits : IsWithinLimits opened.shape = head-limits (header_block 0 log_bytes) (header_block 2 log_bytes) opened.format opened.shape reads.scan.devices.head.head in
    let bounds = checkpoint-bounds (found_layout opened) log_bytes opened.number opened.ckpt reads.scan.checkpoint in
    let sound : IsSoundSource (taken (found_layout opened) log_bytes) = store-sound opened.format opened.shape log_bytes limits reads.scan.devices.log_long in
    let ends : EndsWithin opened.ckpt opened.end opened.views =
    ends-within opened.shape (taken (found_layout opened) log_bytes) opened.ckpt opened.views (groups_start opened.ckpt opened.views) opened.wholes opened.end
    sound bounds.0 reads.scan.scan.blocks.each refl reads.scan.scan.groups in
    let start : StartsBehind opened.end = starts-behind opened.end ends.place in
    let most : start_of opened ≤ opened.ckpt + 512 * length opened.views + 12 = start-within opened.ckpt opened.end opened.views bounds.0 ends in
    record {
      limits = limits;
      log = record {
        is_layout = is_layout_of opened.format opened.shape limits.many_blocks limits.few_blocks;
        first = first-of opened.format opened.shape;
        aligned = bounds.0;
        started = bounds.1;
        place = start.aligned;
        low = omega (arith, ends.from, start.behind);
        high = omega (arith, reads.scan.scan.blocks.few);
      };
      long = reads.scan.devices.log_long;
      sound = sound;
      small = bounds.2;
      ends = ends;
      past = start.behind;
      among = most;
    }

pub tail-read : (log_bytes data_bytes : List ℕ) (opened : Reading) (tail : Option Tail) → IsReading log_bytes data_bytes opened
    → AreFoundIn (found_layout opened) log_bytes opened.ckpt opened.views tail → IsTailIn (found_layout opened) opened.ckpt tail
tail-read log_bytes data_bytes opened tail reads found =
    let log : IsLogRead log_bytes opened = log-read log_bytes data_bytes opened reads in
    tail-in opened.format opened.shape opened.shape log_bytes opened.ckpt opened.views opened.wholes opened.end tail log.log.aligned reads.scan.scan found

-- WHERE BLOCKS STAY, THE SAME IS READ OF THEM.

pub same-head_of : (old new : List ℕ) → sector 0 new ≡ sector 0 old → sector 2 new ≡ sector 2 old → head_of new ≡ head_of old
same-head_of old new first second =
    ap (λ (bytes : List ℕ). head_among bytes (sector 2 new)) first ∙ ap (head_among (sector 0 old)) second

pub same-newest : (layout : Layout) (old new : List ℕ) → sector 1 new ≡ sector 1 old → sector 3 new ≡ sector 3 old → newest_checkpoint layout new ≡ newest_checkpoint layout old
same-newest layout old new first second =
    ap (λ (bytes : List ℕ). newer (read_checkpoint 1 layout bytes) (read_checkpoint 3 layout (sector 3 new))) first
    ∙ ap (λ (bytes : List ℕ). newer (read_checkpoint 1 layout (sector 1 old)) (read_checkpoint 3 layout bytes)) second

-- THE LOG AS IT WAS, THE PAGES AS THEY WERE OR AS THEY ARE READ.

-- a page as it is read is read again as itself
read-again : (shape : Shape) (source : Source) (ckpt p q : ℕ) (views : List BlockView) (start : Option ℕ) (wholes : List Whole) (end : ℕ) (kept page : Content) → IsSoundSource source → ckpt % 512 ≡ 0
    → AreTaken source ckpt views → groups_start ckpt views ≡ start → AreGroupsOf shape source ckpt views start wholes end
    → kept.lsn ≡ q → page ≡ replayed p q wholes kept → replayed p page.lsn wholes page ≡ page
read-again shape source ckpt p q views None wholes end kept page sound aligned each found (none, at) lsn is =
    subst (λ (ws : List Whole). replayed p page.lsn ws page ≡ page) (sym none) refl
read-again shape source ckpt p q views (Some start) wholes end kept page sound aligned each found (rest, groups, front, at) lsn is =
    let starts : IsGroupsStart ckpt start views = groups-start source ckpt start views sound aligned each found in
    replay-again shape p q start wholes kept page starts.place groups.run groups.each (inl lsn) is

page-rewriting : (log_bytes old new : List ℕ) (opened : Reading) (p : ℕ) (page : Content) → IsReading log_bytes old opened → slice_get opened.pages p ≡ Some page
    → KeepsEither opened.shape old new p page → IsReadPage opened.shape new opened.wholes opened.end p page
page-rewriting log_bytes old new opened p page reads at keeps =
    let read : IsReadPage opened.shape old opened.wholes opened.end p page = reads.each p page at in
    ⊎_elim
    (λ before.
    let same : read.kept ≡ keeps.kept = same_kept opened.shape old p read.kept keeps.kept read.is_kept before in
    record {
      kept = keeps.kept;
      is_kept = keeps.is_kept;
      not_ahead = subst (λ (c : Content). c.lsn ≤ opened.end) same read.not_ahead;
      replay = subst (λ (c : Content). page ≡ replayed p c.lsn opened.wholes c) same read.replay;
    })
    (λ is.
    let log : IsLogRead log_bytes opened = log-read log_bytes old opened reads in
    let again : replayed p page.lsn opened.wholes page ≡ page =
    read-again opened.shape (taken (found_layout opened) log_bytes) opened.ckpt p read.kept.lsn opened.views (groups_start opened.ckpt opened.views) opened.wholes opened.end read.kept page
    log.sound log.log.aligned reads.scan.scan.blocks.each refl reads.scan.scan.groups refl read.replay in
    record {
      kept = page;
      is_kept = subst (λ (c : Content). IsKept opened.shape new p c) is keeps.is_kept;
      not_ahead = read-not_ahead log_bytes old opened reads p page at;
      replay = sym again;
    }) keeps.which

-- the log is read again from the same checkpoint, with the same groups and the same end
pub record IsFoundAgain (opened : Reading) (image : List ℕ) : Type 0 where
  pub long : log_device_length opened.shape ≤ length image
  pub head : head_of image ≡ Good opened.format opened.shape
  pub newest : newest_checkpoint (found_layout opened) image ≡ Some (opened.number, opened.ckpt)
  pub scan : Rescans opened.shape (found_layout opened).blocks opened.ckpt opened.wholes opened.end (taken (found_layout opened) image)

pub again-reads : (opened : Reading) (log_bytes data_bytes new_log new_data : List ℕ) → IsReading log_bytes data_bytes opened → IsFoundAgain opened new_log
    → IsRewriting opened data_bytes new_data → ReadsOpened opened new_log new_data
again-reads opened log_bytes data_bytes new_log new_data reads again rewriting =
    let log : IsLogRead log_bytes opened = log-read log_bytes data_bytes opened reads in
    record {
      reading = record opened { views = again.scan.views };
      is_read = record {
        scan = record {
          devices = record {
            head = record { long = omega (arith, again.long, log.limits.many_blocks); head = again.head };
            log_long = again.long;
            data_long = rewriting.long;
          };
          checkpoint = again.newest;
          scan = again.scan.scan;
        };
        count = reads.count;
        each = λ p page at. page-rewriting log_bytes data_bytes new_data opened p page reads at (rewriting.each p page at);
      };
      old_copies = rewriting.old_copies;
      shape = refl;
      pages = refl;
      log = inl (record { format = refl; number = refl; ckpt = refl; wholes = refl; end = refl });
    }

pub clearing-found : (opened : Reading) (log_bytes data_bytes new_log : List ℕ) (tail : Option Tail) → IsReading log_bytes data_bytes opened
    → AreFoundIn (found_layout opened) log_bytes opened.ckpt opened.views tail → IsClearing (found_layout opened) opened.ckpt (start_of opened) tail log_bytes new_log
    → IsFoundAgain opened new_log
clearing-found opened log_bytes data_bytes new_log tail reads found clearing =
    let layout : Layout = found_layout opened in
    let log : IsLogRead log_bytes opened = log-read log_bytes data_bytes opened reads in
    let is : IsTailIn layout opened.ckpt tail = tail-read log_bytes data_bytes opened tail reads found in
    let long : length new_log ≡ length log_bytes = clearing-length layout opened.ckpt (start_of opened) tail log_bytes new_log clearing in
    let header : (k : ℕ) → k < 4 → sector k new_log ≡ sector k log_bytes = λ k below.
    clearing-header layout opened.ckpt (start_of opened) tail log_bytes new_log k log.log is below clearing in
    record {
      long = omega (arith, log.long);
      head = same-head_of log_bytes new_log (header 0 (omega arith)) (header 2 (omega arith)) ∙ reads.scan.devices.head.head;
      newest = same-newest layout log_bytes new_log (header 1 (omega arith)) (header 3 (omega arith)) ∙ reads.scan.checkpoint;
      scan = cleared-scan opened.shape layout.blocks opened.ckpt opened.views opened.wholes opened.end (taken layout log_bytes) (taken layout new_log)
          log.sound log.log.aligned reads.scan.scan
          (clearing-drops opened.format opened.shape opened.shape opened.ckpt (start_of opened) opened.views opened.wholes opened.end tail log_bytes new_log log.log reads.scan.scan found clearing);
    }

pub clearing-reads : (opened : Reading) (log_bytes data_bytes new_log new_data : List ℕ) (tail : Option Tail) → IsReading log_bytes data_bytes opened
    → AreFoundIn (found_layout opened) log_bytes opened.ckpt opened.views tail → IsClearing (found_layout opened) opened.ckpt (start_of opened) tail log_bytes new_log
    → IsRewriting opened data_bytes new_data → ReadsOpened opened new_log new_data
clearing-reads opened log_bytes data_bytes new_log new_data tail reads found clearing rewriting =
    again-reads opened log_bytes data_bytes new_log new_data reads (clearing-found opened log_bytes data_bytes new_log tail reads found clearing) rewriting

-- A CHECKPOINT OF OPENING, FROM WHICH ON NOTHING IS READ, AND THE PAGES AS THEY ARE READ.

-- the log is read from such a checkpoint
pub record IsNextFound (opened : Reading) (format : Format) (number : ℕ) (image : List ℕ) : Type 0 where
  pub long : log_device_length opened.shape ≤ length image
  pub head : head_of image ≡ Good format opened.shape
  pub later : opened.number < number
  pub up_to : number ≤ opened.number + numbers_taken opened.format
  pub newest : newest_checkpoint (layout_of format opened.shape) image ≡ Some (number, start_block opened)
  pub none : taken (layout_of format opened.shape) image (start_block opened) ≡ None

-- the opened store by these sizes: by its own, or by those of a run on it, which differ in the slots alone
abbrev pub by_shape : Shape → Reading → Reading
by_shape shape opened = record opened { shape = shape }

abbrev pub IsForSameRun : Shape → Reading → Type 0
IsForSameRun shape opened = run_shape shape ≡ run_shape opened.shape

pub same-log_blocks : (shape : Shape) (opened : Reading) → IsForSameRun shape opened
    → shape.log_blocks ≡ opened.shape.log_blocks
same-log_blocks shape opened sizes = ap (λ (s : Shape). s.log_blocks) sizes

pub same-pages : (shape : Shape) (opened : Reading) → IsForSameRun shape opened → shape.pages ≡ opened.shape.pages
same-pages shape opened sizes = ap (λ (s : Shape). s.pages) sizes

pub next-reads_by : (opened : Reading) (shape : Shape) (format : Format) (number : ℕ)
    (log_bytes data_bytes new_log new_data : List ℕ) → IsReading log_bytes data_bytes opened
    → IsForSameRun shape opened → IsNextFound (by_shape shape opened) format number new_log
    → IsRewritten (by_shape shape opened) new_data → ReadsOpened opened new_log new_data
next-reads_by opened shape format number log_bytes data_bytes new_log new_data reads sizes next rewritten =
    let log : IsLogRead log_bytes opened = log-read log_bytes data_bytes opened reads in
    let layout : Layout = layout_of format shape in
    let at : start_block opened + 12 ≡ start_of opened = omega (arith, log.log.low) in
    let scan : IsScan shape layout.blocks (taken layout new_log) (start_block opened) [] [] (start_of opened) =
    subst (λ (end : ℕ). IsScan shape layout.blocks (taken layout new_log) (start_block opened) [] [] end) at
    (empty-scan shape layout.blocks (taken layout new_log) (start_block opened) next.none) in
    record {
      reading = record opened {
        format = format;
        shape = shape;
        number = number;
        ckpt = start_block opened;
        views = [];
        wholes = [];
        end = start_of opened;
      };
      is_read = record {
        scan = record {
          devices = record {
            head = record {
              long = omega (arith, next.long, log.limits.many_blocks, same-log_blocks shape opened sizes);
              head = next.head;
            };
            log_long = next.long;
            data_long = rewritten.long;
          };
          checkpoint = next.newest;
          scan = scan;
        };
        count = reads.count ∙ sym (same-pages shape opened sizes);
        each = λ p page at_page. record {
          kept = page;
          is_kept = rewritten.each p page at_page;
          not_ahead = (let below : page.lsn ≤ opened.end = read-not_ahead log_bytes data_bytes opened reads p page at_page in omega (arith, log.past));
          replay = refl;
        };
      };
      old_copies = rewritten.old_copies;
      shape = sizes;
      pages = refl;
      log = inr (record { later = next.later; up_to = next.up_to; ckpt = refl; wholes = refl; end = refl });
    }

pub next-reads : (opened : Reading) (format : Format) (number : ℕ) (log_bytes data_bytes new_log new_data : List ℕ) → IsReading log_bytes data_bytes opened
    → IsNextFound opened format number new_log → IsRewritten opened new_data → ReadsOpened opened new_log new_data
next-reads opened format number log_bytes data_bytes new_log new_data reads next rewritten =
    next-reads_by opened opened.shape format number log_bytes data_bytes new_log new_data reads refl next rewritten

-- the next checkpoint has a number and an lsn within the limits
pub record HasNext (opened : Reading) : Type 0 where
  pub number : opened.number + 2 < 2 ^ 64
  pub aligned : start_block opened % 512 ≡ 0
  pub started : START_LSN ≤ start_block opened
  pub small : start_block opened < 2 ^ 60

pub has-next : (log_bytes data_bytes : List ℕ) (opened : Reading) → IsOrderly log_bytes data_bytes opened → HasNext opened
has-next log_bytes data_bytes opened orderly =
    let log : IsLogRead log_bytes opened = log-read log_bytes data_bytes opened orderly.reads in
    record {
      number = omega (arith, orderly.numbers_left);
      aligned = omega (arith, log.log.place);
      started = omega (arith, log.log.low, log.log.started);
      small = omega (arith, log.log.high, log.log.is_layout.few_blocks, orderly.lsns_left);
    }
