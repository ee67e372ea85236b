-- The header of a run is put on the log device, first into block 2 and then into block 0: at each moment its log is
-- read as empty from the last checkpoint of opening on, by the sizes that the header in block 0 gives, or the one in
-- block 2 where nothing is read of that.
use Rattle.std.proofs.Common.{◌≡◌, ◌+◌, ◌≤◌, ◌⊎◌, ℕ, inl, inr, cond, false, List, [], length, Some, None, refl, sym, ap, subst, ◌∙◌, ⊎_elim, arith}
use Rattle.model_base.proofs.ShapeLimits.{run_within}
use Rattle.model_base.specs.declared.shape.Shape.{Shape}
use Rattle.model_base.specs.{IsWithinLimits, run_shape}
use Rattle.model_device.specs.{sector, settled, Disk}
use Rattle.model_log.specs.declared.head.Head.TheVariants.{Good}
use Rattle.model_log.specs.declared.layout.Layout.{Layout}
use Rattle.model_log.specs.{head_of, layout_of, log_block, newest_checkpoint, read_head, run_format, run_layout, sector_of}
use Rattle.model_log.proofs.Formats.{run_format-layout, run_format-sizes}
use Rattle.model_log.proofs.HeadRound.{head-reads_back}
use Rattle.model_store.specs.{IsFairLog, IsOrderly, read_full, read_tail, taken, Reading}
use Rattle.model_store.proofs.Taking.{taken-same}
use Rattle.model_parts.specs.Stored.{read_as, IsUpTo, Stored}
use Rattle.model_parts.specs.Changes.{IsPut, IsPutting}
use Rattle.model_parts.specs.Enlarging.{IsHeaded, IsHeading, run_head}
use Rattle.model_parts.specs.Held.{IsHeadPlace, IsFresh}
use Rattle.model_parts.specs.Opened.{KeepsOpened, numbers_taken, ReadsOpened, start_block, start_of}
use Rattle.model_parts.proofs.Clearing.{block-sector, ring-from}
use Rattle.model_parts.proofs.Keeping.{fresh-next, stored-image_by}
use Rattle.model_parts.proofs.Migration.{head-first}
use Rattle.model_parts.proofs.Reread.{by_shape, IsForSameRun, IsNextFound, log-read, next-reads_by, same-log_blocks, same-newest}

-- all but the two blocks of the header is as it was
record IsSameButHeads (old new : List ℕ) : Type 0 where
  same_length : length new ≡ length old
  others : (j : ℕ) → (IsHeadPlace j → ⊥) → sector j new ≡ sector j old

-- so it is with a block from the third on
same-from : (old new : List ℕ) (j : ℕ) → IsSameButHeads old new → 3 ≤ j → sector j new ≡ sector j old
same-from old new j same from = same.others j (⊎_elim (λ zero. omega arith) (λ two. omega arith))

same-first : (old new : List ℕ) → IsSameButHeads old new → sector 1 new ≡ sector 1 old
same-first old new same = same.others 1 (⊎_elim (λ zero. omega arith) (λ two. omega arith))

-- and with a block of the ring
same-block : (layout : Layout) (b : ℕ) (old new : List ℕ) → IsSameButHeads old new → 4 ≤ layout.first
    → sector (sector_of layout b) new ≡ sector (sector_of layout b) old
same-block layout b old new same first =
    let from : layout.first ≤ sector_of layout b = ring-from layout b in
    same-from old new (sector_of layout b) same (omega arith)

second-same : (shape : Shape) (old second : List ℕ) → IsPut 2 (run_head shape) old second → IsSameButHeads old second
second-same shape old second put = record {
  same_length = put.same_length;
  others = λ j other. put.others j (λ two. other (inr two));
}

-- the header of a run is read back
run_head-reads_back : (shape : Shape) → IsWithinLimits shape
    → read_head (run_head shape) ≡ Good (run_format (run_shape shape)) (run_shape shape)
run_head-reads_back shape limits =
    let run : IsWithinLimits (run_shape shape) = run_within shape limits in
    head-reads_back (run_format (run_shape shape)) (run_shape shape) run (run_format-sizes (run_shape shape) run)

-- ONCE BOTH STAND a run can start.

headed-same : (shape : Shape) (old new : List ℕ) → IsHeaded shape old new → IsSameButHeads old new
headed-same shape old new headed =
    let second : IsSameButHeads old headed.second = second-same shape old headed.second headed.is_second in
    record {
      same_length = headed.first.same_length ∙ second.same_length;
      others = λ j other. headed.first.others j (λ zero. other (inl zero)) ∙ second.others j other;
    }

pub headed-fresh : (shape : Shape) (start number : ℕ) (old new : List ℕ) → IsWithinLimits shape
    → IsFresh shape start number (settled old) → IsHeaded shape old new
    → IsFresh (run_shape shape) start number (settled new)
headed-fresh shape start number old new limits fresh headed =
    let layout : Layout = run_layout shape in
    let same : IsSameButHeads old new = headed-same shape old new headed in
    let run : Shape = run_shape shape in
    let good : read_head (run_head shape) ≡ Good (run_format run) run = run_head-reads_back shape limits in
    let zero : read_head (sector 0 new) ≡ Good (run_format run) run = ap read_head headed.first.at ∙ good in
    let two : read_head (sector 2 new) ≡ Good (run_format run) run =
    ap read_head (headed.first.others 2 (λ same_place. omega arith) ∙ headed.is_second.at) ∙ good in
    record {
      long = omega (arith, fresh.long, same.same_length);
      heads = λ k place. (
          let same_place : (j : ℕ) → k ≡ j → read_head (sector k new) ≡ read_head (sector j new) =
          λ j is. ap (λ (i : ℕ). read_head (sector i new)) is in
          ⊎_elim (λ e. same_place 0 e ∙ zero) (λ o. same_place 2 o ∙ two) place);
      nothing_pending = refl;
      newest = same-newest layout old new (same-first old new same) (same-from old new 3 same (omega arith))
          ∙ fresh.newest;
      unread = λ b in_round.
          ap (read_full b) (same-block layout b old new same (omega arith)) ∙ fresh.unread b in_round;
      no_tail = λ k place b aligned from. (
          let there : 3 ≤ k = ⊎_elim (λ e. omega arith) (λ o. omega arith) place in
          ap (read_tail b) (same-from old new k same there) ∙ fresh.no_tail k place b aligned from);
    }

-- WHILE THEY ARE PUT.

-- the layouts of two runs are the same where their sizes differ in the slots alone
same-layout : (one other : Shape) → run_shape one ≡ run_shape other
    → layout_of (run_format one) one ≡ layout_of (run_format other) other
same-layout one other sizes =
    let same : run_layout one ≡ run_layout other = ap run_layout sizes in
    run_format-layout one ∙ same ∙ sym (run_format-layout other)

-- the log is read from the same checkpoint on, by whichever of those sizes the header gives
heading-next : (opened : Reading) (shape : Shape) (number : ℕ) (old new : List ℕ) → IsForSameRun shape opened
    → IsNextFound (by_shape opened.shape opened) (run_format opened.shape) number old → IsSameButHeads old new
    → head_of new ≡ Good (run_format shape) shape → IsNextFound (by_shape shape opened) (run_format shape) number new
heading-next opened shape number old new sizes before same head =
    let own : Layout = layout_of (run_format opened.shape) opened.shape in
    let layout : Layout = layout_of (run_format shape) shape in
    let lsn : ℕ = start_block opened in
    let is : own ≡ layout = same-layout opened.shape shape (sym sizes) in
    let six : own.first ≡ 6 = ap (λ (l : Layout). l.first) (run_format-layout opened.shape) in
    let first : 4 ≤ own.first = omega arith in
    let block : log_block own lsn new ≡ log_block own lsn old =
    block-sector own lsn new ∙ same-block own lsn old new same first ∙ sym (block-sector own lsn old) in
    record {
      long = omega (arith, before.long, same.same_length, same-log_blocks shape opened sizes);
      head = head;
      later = before.later;
      up_to = before.up_to;
      newest = subst (λ (l : Layout). newest_checkpoint l new ≡ Some (number, lsn)) is
          (same-newest own old new (same-first old new same) (same-from old new 3 same (omega arith)) ∙ before.newest);
      none = subst (λ (l : Layout). taken l new lsn ≡ None) is
          (taken-same own old new lsn block (same-from old new 4 same (omega arith))
          (same-from old new 5 same (omega arith)) ∙ before.none);
    }

-- an image: all but the two blocks is as it was, and the header is the old one or that of a run
record IsHeadedBy (opened : Reading) (old new : List ℕ) : Type 0 where
  same : IsSameButHeads old new
  head : (head_of new ≡ Good (run_format opened.shape) opened.shape)
      ⊎ (head_of new ≡ Good (run_format (run_shape opened.shape)) (run_shape opened.shape))

heading-head : (opened : Reading) (old new : List ℕ) → IsWithinLimits opened.shape
    → read_head (sector 0 old) ≡ Good (run_format opened.shape) opened.shape
    → IsHeading opened.shape old new → IsHeadedBy opened old new
heading-head opened old new limits head heading =
    let shape : Shape = opened.shape in
    let run : Shape = run_shape shape in
    let good : read_head (run_head shape) ≡ Good (run_format run) run = run_head-reads_back shape limits in
    ⊎_elim
    (λ putting. record {
      same = record {
        same_length = putting.same_length;
        others = λ j other. putting.others j (λ two. other (inr two));
      };
      head = inl (head-first new (run_format shape) shape
          (ap read_head (putting.others 0 (λ same. omega arith)) ∙ head));
    })
    (λ later.
    let second : List ℕ = later.0 in
    let put : IsPut 2 (run_head shape) old second = later.1 in
    let putting : IsPutting 0 (run_head shape) second new = later.2 in
    let before : IsSameButHeads old second = second-same shape old second put in
    let two : read_head (sector 2 new) ≡ Good (run_format run) run =
    ap read_head (putting.others 2 (λ same. omega arith) ∙ put.at) ∙ good in
    record {
      same = record {
        same_length = putting.same_length ∙ before.same_length;
        others = λ j other. putting.others j (λ zero. other (inl zero)) ∙ before.others j other;
      };
      head = ⊎_elim
          (λ stays. inl (head-first new (run_format shape) shape
          (ap read_head (stays ∙ put.others 0 (λ same. omega arith)) ∙ head)))
          (λ more. ⊎_elim
          (λ broken. inr (ap (λ t. cond t (read_head (sector 0 new)) (read_head (sector 2 new))) broken ∙ two))
          (λ full. inr (head-first new (run_format run) run (ap read_head full ∙ good))) more) putting.at;
    }) heading

pub heading-keeps : (opened : Reading) (log_bytes data_bytes old_log : List ℕ) (log_disk data_disk : Disk)
    → IsOrderly log_bytes data_bytes opened
    → IsFresh opened.shape (start_of opened) (opened.number + numbers_taken opened.format) (settled old_log)
    → ((image : List ℕ) → IsFairLog log_disk image → IsHeading opened.shape old_log image)
    → Stored opened.shape (IsUpTo (read_as opened)) (read_as opened) [] false data_disk
    → Stored (run_shape opened.shape) (IsUpTo (read_as opened)) (read_as opened) [] false data_disk
    → KeepsOpened opened log_disk data_disk
heading-keeps opened log_bytes data_bytes old_log log_disk data_disk orderly fresh headings stored run_stored =
    λ log data_image is fair.
    let number : ℕ = opened.number + numbers_taken opened.format in
    let limits : IsWithinLimits opened.shape = (log-read log_bytes data_bytes opened orderly.reads).limits in
    let before : IsNextFound (by_shape opened.shape opened) (run_format opened.shape) number old_log =
    fresh-next opened opened.shape log_bytes data_bytes (settled old_log) orderly.reads refl fresh in
    let now : IsHeadedBy opened old_log log =
    heading-head opened old_log log limits (fresh.heads 0 (inl refl)) (headings log is) in
    let read_by : (shape : Shape) → IsForSameRun shape opened → head_of log ≡ Good (run_format shape) shape
    → Stored shape (IsUpTo (read_as opened)) (read_as opened) [] false data_disk
    → ReadsOpened opened log data_image = λ shape sizes head pages.
    next-reads_by opened shape (run_format shape) number log_bytes data_bytes log data_image orderly.reads sizes
    (heading-next opened shape number old_log log sizes before now.same head)
    (stored-image_by opened shape data_disk data_image orderly.reads.count sizes pages fair) in
    ⊎_elim (λ own. read_by opened.shape refl own stored)
    (λ run. read_by (run_shape opened.shape) refl run run_stored) now.head
