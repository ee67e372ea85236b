-- What is read of a store that was just formatted.
use Rattle.std.proofs.Common.{◌≡◌, ◌≤◌, ◌<◌, ◌+◌, ◌-◌, ◌*◌, ◌/◌, ◌%◌, ◌++◌, ℕ, zero, suc, inl, inr, cond, List, [], length, take, drop, replicate, Some, None, refl, sym, ap, ◌∙◌, ⊎_elim, arith, lit≤, lit<}
use Rattle.std.proofs.Math.Seq.{take-add}
use Rattle.std.specs.List.{slice_get}
use Rattle.std.proofs.lemmas.Bool.{cases_Bool}
use Rattle.std.proofs.lemmas.List.{drop-take, take-take, length-replicate, replicate-append-replicate}
use Rattle.model_base.proofs.ShapeLimits.{whole_sectors}
use Rattle.model_base.specs.{IsWithinLimits}
use Rattle.model_base.specs.declared.shape.Shape.{Shape}
use Rattle.model_base.specs.declared.limits.TheConstants.{BLOCK_SIZE, FIRST_DATA_LSN, MIN_LOG_BLOCKS, START_LSN}
use Rattle.model_device.specs.{sector, settled, Disk}
use Rattle.model_log.specs.{checkpoint_text, fits_checksum, head_of, head_text, IsLayout, log_block, log_device_length, newer, newest_checkpoint, place_in, read_block, read_checkpoint, read_head, ring_start, round_of, run_layout, sector_of, run_format}
use Rattle.model_log.specs.declared.head.Format.TheVariants.{Two}
use Rattle.model_log.specs.declared.head.Head.{Head}
use Rattle.model_log.specs.declared.head.Head.TheVariants.{Good, Unformatted}
use Rattle.model_log.specs.declared.layout.Layout.{Layout}
use Rattle.model_log.specs.declared.layout.TheConstants.{HEADER_BYTES}
use Rattle.model_log.proofs.CheckpointRound.{checkpoint-reads_back}
use Rattle.model_log.proofs.HeadRound.{head-reads_back}
use Rattle.model_log.proofs.Layouts.{has-blocks, is_layout_of}
use Rattle.model_log.proofs.Places.{HasBlocks, place-from, place-within, sector-place}
use Rattle.model_log.proofs.Formats.{of_run, run_format-sizes}
use Rattle.model_page.specs.{blank_page, copy_lsn, copy_lsn_by, data_device_length, IsInPlace, page_check, place_lsn_by, stretch_at, user_part}
use Rattle.model_page.specs.declared.content.Content.{Content}
use Rattle.model_store.specs.{HasDevices, IsOrderly, IsReading, IsReadPage, IsUnused, Refuses, taken, IsScan}
use Rattle.model_store.specs.declared.refusal.Refusal.TheVariants.{NotFormatted}
use Rattle.model_store.proofs.Sources.{empty-scan}
use Rattle.model_store.proofs.Taking.{taken-none}
use Rattle.model_parts.specs.Changes.{IsUnsealed}
use Rattle.model_parts.specs.FormattedDevices.{zero_block, IsFormattedLog, IsFormattedData, IsFormatted}
use Rattle.model_parts.specs.Formatted.{formatted_store}
use Rattle.model_parts.specs.Opened.{IsOpenable}
use Rattle.model_parts.specs.Stored.{copied, IsUpTo, IsOpened}
use Rattle.model_parts.proofs.Rows.{row_ends, row-sector}
use Rattle.model_parts.proofs.Stretches.{stretch-piece}
use Rattle.model_parts.proofs.Unread.{unsealed-checkpoint, unsealed-head, unsealed-unread, zeros-unsealed}
use Rattle.model_parts.proofs.Zeros.{zeros-opened}

-- HEADER BLOCKS OF WHICH NOTHING IS READ are no header.

pub unsealed-refused : (log_bytes data_bytes : List ℕ) → HEADER_BYTES ≤ length log_bytes → IsUnsealed (sector 0 log_bytes) → IsUnsealed (sector 2 log_bytes)
    → Refuses log_bytes data_bytes NotFormatted
unsealed-refused log_bytes data_bytes long first second =
    (long, ap (λ t. cond t (read_head (sector 0 log_bytes)) (read_head (sector 2 log_bytes))) first ∙ unsealed-head (sector 2 log_bytes) second)

-- nor are those of an unused log device
pub zeros-refused : (log_bytes data_bytes : List ℕ) → HEADER_BYTES ≤ length log_bytes → IsUnused log_bytes → Refuses log_bytes data_bytes NotFormatted
zeros-refused log_bytes data_bytes long unused =
    unsealed-refused log_bytes data_bytes long (ap fits_checksum unused.first ∙ zeros-unsealed) (ap fits_checksum unused.second ∙ zeros-unsealed)

-- THE LOG: its header, its newest checkpoint, which is the first, and no block from it on.

-- A log that is formatted but for its second header block. Whatever stands in that one, the first one is read.
pub record IsBegunLog (shape : Shape) (bytes : List ℕ) : Type 0 where
  pub long : log_device_length shape ≤ length bytes
  pub first : sector 0 bytes ≡ head_text (run_format shape) shape
  pub checkpoint : sector 1 bytes ≡ checkpoint_text 0 START_LSN (run_layout shape)
  pub blocks : (k : ℕ) → 3 ≤ k → 512 * k < log_device_length shape → sector k bytes ≡ zero_block

pub formatted-begun : (shape : Shape) (bytes : List ℕ) → IsFormattedLog shape bytes → IsBegunLog shape bytes
formatted-begun shape bytes is = record { long = is.long; first = is.heads 0 (inl refl); checkpoint = is.checkpoint; blocks = is.blocks }

unformatted-good : (shape : Shape) (head : Head) → head ≡ Unformatted → head ≡ Good (run_format shape) shape → ⊥
unformatted-good shape head none good = let both : Unformatted ≡ Good (run_format shape) shape = sym none ∙ good in absurd cc

formatted-head : (shape : Shape) (log : List ℕ) → IsWithinLimits shape → IsBegunLog shape log → head_of log ≡ Good (run_format shape) shape
formatted-head shape log limits is =
    let first : read_head (sector 0 log) ≡ Good (run_format shape) shape = ap read_head is.first ∙ head-reads_back (run_format shape) shape limits (run_format-sizes shape limits) in
    ⊎_elim (λ fits. ap (λ t. cond t (read_head (sector 0 log)) (read_head (sector 2 log))) fits ∙ first)
    (λ broken. absurd (unformatted-good shape (read_head (sector 0 log)) (unsealed-head (sector 0 log) broken) first)) (cases_Bool (fits_checksum (sector 0 log)))

zero-block : (shape : Shape) (log : List ℕ) (k : ℕ) → IsBegunLog shape log → 3 ≤ k → 512 * k < log_device_length shape → IsUnsealed (sector k log)
zero-block shape log k is low high = ap fits_checksum (is.blocks k low high) ∙ zeros-unsealed

first-checkpoint : (shape : Shape) (log : List ℕ) → IsWithinLimits shape → IsBegunLog shape log → newest_checkpoint (run_layout shape) log ≡ Some (0, START_LSN)
first-checkpoint shape log limits is =
    let layout : Layout = run_layout shape in
    let is_layout : IsLayout layout = is_layout_of Two shape limits.many_blocks limits.few_blocks in
    let even : read_checkpoint 1 layout (sector 1 log) ≡ Some (0, START_LSN) =
    ap (read_checkpoint 1 layout) is.checkpoint ∙ checkpoint-reads_back 0 START_LSN layout is_layout (lit< tt) (lit≤ tt) (lit< tt) refl in
    let odd : read_checkpoint 3 layout (sector 3 log) ≡ None =
    unsealed-checkpoint 3 layout (sector 3 log) (zero-block shape log 3 is (lit≤ tt) (omega (arith, limits.many_blocks))) in
    ap (λ first. newer first (read_checkpoint 3 layout (sector 3 log))) even ∙ ap (newer (Some (0, START_LSN))) odd

log_block-sector : (layout : Layout) (b : ℕ) (log : List ℕ) → log_block layout b log ≡ sector (sector_of layout b) log
unfolding log_block
log_block-sector layout b log = ap (λ at. take 512 (drop at log)) (sym (sector-place layout b))

none-unread : (bytes : List ℕ) → IsUnsealed bytes → read_block START_LSN bytes ≡ None
none-unread bytes broken = unsealed-unread START_LSN bytes broken

none-taken : (shape : Shape) (log : List ℕ) → IsWithinLimits shape → IsBegunLog shape log → taken (run_layout shape) log START_LSN ≡ None
none-taken shape log limits is =
    let layout : Layout = run_layout shape in
    let many : MIN_LOG_BLOCKS ≤ shape.log_blocks = limits.many_blocks in
    let blocks : HasBlocks layout = has-blocks layout (is_layout_of Two shape many limits.few_blocks) in
    let k : ℕ = sector_of layout START_LSN in
    let at : 512 * k ≡ place_in layout START_LSN = sector-place layout START_LSN in
    let low : ring_start layout ≤ place_in layout START_LSN = place-from layout START_LSN in
    let high : place_in layout START_LSN + 512 ≤ ring_start layout + round_of layout = place-within layout START_LSN blocks in
    taken-none layout log START_LSN
    (ap (read_block START_LSN) (log_block-sector layout START_LSN log) ∙ none-unread (sector k log) (zero-block shape log k is (omega arith) (omega arith)))
    (none-unread (sector 4 log) (zero-block shape log 4 is (lit≤ tt) (omega arith)))
    (none-unread (sector 5 log) (zero-block shape log 5 is (lit≤ tt) (omega arith)))

-- THE PAGES are blank.

zeros-front : (n : ℕ) (bytes : List ℕ) → ((k : ℕ) → k < n → sector k bytes ≡ zero_block) → take (512 * n) bytes ≡ replicate (512 * n) 0
zeros-front zero bytes zeros = refl
zeros-front (suc n) bytes zeros =
    let next : 512 * suc n ≡ 512 * n + 512 = omega arith in
    ap (λ m. take m bytes) next ∙ take-add (512 * n) 512 bytes
    ∙ ap (λ front. front ++ take 512 (drop (512 * n) bytes)) (zeros-front n bytes (λ k below. zeros k (omega arith)))
    ∙ ap (λ back. replicate (512 * n) 0 ++ back) (zeros n (omega arith))
    ∙ replicate-append-replicate (512 * n) 512 0 ∙ ap (λ m. replicate m 0) (sym next)

-- a stretch that ends within the front of the bytes
stretch-front : (shape : Shape) (n all : ℕ) (bytes : List ℕ) → n * shape.page_size + shape.page_size ≤ all
    → stretch_at shape n bytes ≡ stretch_at shape n (take all bytes)
stretch-front shape n all bytes within =
    let size : ℕ = shape.page_size in
    let at : ℕ = n * size in
    let rest : ℕ = all - at in
    let sum : at + rest ≡ all = omega arith in
    let inside : take size (drop at (take all bytes)) ≡ take size (drop at bytes) =
    ap (λ m. take size (drop at (take m bytes))) (sym sum) ∙ ap (take size) (drop-take at rest bytes)
    ∙ take-take size rest (drop at bytes) (omega arith) in
    stretch-piece shape n bytes ∙ sym inside ∙ sym (stretch-piece shape n (take all bytes))

blank-front : (shape : Shape) (data_bytes : List ℕ) → IsWithinLimits shape → IsFormattedData shape data_bytes → (n : ℕ) → n < shape.slots + shape.pages
    → stretch_at shape n data_bytes ≡ stretch_at shape n (replicate (data_device_length shape) 0)
blank-front shape data_bytes limits is n below =
    let all : ℕ = data_device_length shape in
    let whole : all % BLOCK_SIZE ≡ 0 =
    row-sector (shape.slots + shape.pages) shape.page_size (whole_sectors shape limits).sectors in
    let count : ℕ = all / BLOCK_SIZE in
    let sectors : BLOCK_SIZE * count ≡ all = omega arith in
    let front : take all data_bytes ≡ replicate all 0 =
    ap (λ m. take m data_bytes) (sym sectors) ∙ zeros-front count data_bytes (λ k inside. is.zeros k (omega arith)) ∙ ap (λ m. replicate m 0) sectors in
    stretch-front shape n all data_bytes (row_ends n (shape.slots + shape.pages) shape.page_size below)
    ∙ ap (stretch_at shape n) front

blank-place : (shape : Shape) (data_bytes : List ℕ) (p : ℕ) → IsWithinLimits shape → IsFormattedData shape data_bytes → p < shape.pages
    → IsInPlace shape data_bytes p (blank_page shape)
blank-place shape data_bytes p limits is below =
    let opened : IsOpened shape (λ q. blank_page shape) (λ q. blank_page shape) (settled (replicate (data_device_length shape) 0)) =
    zeros-opened shape (data_device_length shape) limits (omega arith) in
    let same = blank-front shape data_bytes limits is (shape.slots + p) (omega arith) in
    let place : IsInPlace shape (replicate (data_device_length shape) 0) p (blank_page shape) = opened.places p below in
    record { passes = ap (λ bytes. place_lsn_by shape p (page_check bytes)) same ∙ place.passes; user = place.user ∙ sym (ap user_part same) }

-- a copy in a slot would be one on the device of zeros
no-copy : (shape : Shape) (data_bytes : List ℕ) (p slot lsn : ℕ) → IsWithinLimits shape → IsFormattedData shape data_bytes → p < shape.pages → slot < shape.slots
    → copy_lsn shape data_bytes p slot ≡ Some lsn → IsUpTo (λ q. blank_page shape) p (copied shape data_bytes slot lsn)
no-copy shape data_bytes p slot lsn limits is page_below below copy =
    let opened : IsOpened shape (λ q. blank_page shape) (λ q. blank_page shape) (settled (replicate (data_device_length shape) 0)) =
    zeros-opened shape (data_device_length shape) limits (omega arith) in
    let same = blank-front shape data_bytes limits is slot (omega arith) in
    let there : copy_lsn shape (replicate (data_device_length shape) 0) p slot ≡ Some lsn = sym (ap (λ bytes. copy_lsn_by shape p (page_check bytes)) same) ∙ copy in
    ⊎_elim (λ older. inl older)
    (λ equal. inr (ap (λ bytes. record_of lsn (user_part bytes)) same ∙ equal))
    (opened.known p slot lsn page_below below there)
  where
    record_of : ℕ → List ℕ → Content
    record_of lsn user = record { lsn = lsn; user = user }

slice_get-replicate : (n p : ℕ) (x y : Content) → slice_get (replicate n x) p ≡ Some y → (p < n) × (y ≡ x)
slice_get-replicate zero p x y e = absurd cc
slice_get-replicate (suc n) zero x y e = (omega arith, cc)
slice_get-replicate (suc n) (suc p) x y e =
    let found : (p < n) × (y ≡ x) = slice_get-replicate n p x y e in (omega (arith, found.0), found.1)

-- SO BOTH ARE READ.

formatted-devices : (shape : Shape) (log_bytes data_bytes : List ℕ) → IsWithinLimits shape → IsBegunLog shape log_bytes → IsFormattedData shape data_bytes
    → HasDevices log_bytes data_bytes (run_format shape) shape
formatted-devices shape log_bytes data_bytes limits log pages = record {
  head = record { long = omega (arith, log.long); head = formatted-head shape log_bytes limits log };
  log_long = log.long;
  data_long = pages.long;
}

formatted-page : (shape : Shape) (data_bytes : List ℕ) (p : ℕ) (page : Content) → IsWithinLimits shape → IsFormattedData shape data_bytes
    → slice_get (replicate shape.pages (blank_page shape)) p ≡ Some page → IsReadPage shape data_bytes [] FIRST_DATA_LSN p page
formatted-page shape data_bytes p page limits is at =
    let found = slice_get-replicate shape.pages p (blank_page shape) page at in
    record { kept = blank_page shape; is_kept = inl (blank-place shape data_bytes p limits is found.0); not_ahead = lit≤ tt; replay = found.1 }

formatted-read : (shape : Shape) (log_bytes data_bytes : List ℕ) → IsWithinLimits shape → IsBegunLog shape log_bytes → IsFormattedData shape data_bytes
    → IsReading log_bytes data_bytes (formatted_store shape)
formatted-read shape log_bytes data_bytes limits log pages = record {
  scan = record {
    devices = formatted-devices shape log_bytes data_bytes limits log pages;
    checkpoint = of_run (λ (l : Layout). newest_checkpoint l log_bytes ≡ Some (0, START_LSN)) shape (first-checkpoint shape log_bytes limits log);
    scan = of_run (λ (l : Layout). IsScan shape l.blocks (taken l log_bytes) START_LSN [] [] FIRST_DATA_LSN) shape
        (empty-scan shape (run_layout shape).blocks (taken (run_layout shape) log_bytes) START_LSN (none-taken shape log_bytes limits log));
  };
  count = length-replicate shape.pages (blank_page shape);
  each = λ p page at. formatted-page shape data_bytes p page limits pages at;
}

pub formatted-orderly : (shape : Shape) (log_bytes data_bytes : List ℕ) → IsWithinLimits shape → IsBegunLog shape log_bytes → IsFormattedData shape data_bytes
    → IsOrderly log_bytes data_bytes (formatted_store shape)
formatted-orderly shape log_bytes data_bytes limits log pages = record {
  reads = formatted-read shape log_bytes data_bytes limits log pages;
  copies = λ p slot lsn page below at copy. (
      let found = slice_get-replicate shape.pages p (blank_page shape) page at in
      ⊎_elim (λ older. absurd (omega (arith, older)))
      (λ equal. (let whole : copied shape data_bytes slot lsn ≡ page = equal ∙ sym found.1 in
      record { no_newer = omega (arith, ap (λ (c : Content). c.lsn) whole); same = λ same_lsn. ap (λ (c : Content). c.user) whole }))
      (no-copy shape data_bytes p slot lsn limits pages found.0 below copy));
  numbers_left = lit< tt;
  lsns_left = lit< tt;
}

pub formatted-openable : (shape : Shape) (log_disk data_disk : Disk) → IsWithinLimits shape → IsFormatted shape log_disk data_disk
    → IsOpenable (formatted_store shape) log_disk data_disk
formatted-openable shape log_disk data_disk limits is = record {
  log_rests = is.log_rests;
  data_rests = is.data_rests;
  orderly = formatted-orderly shape log_disk.reads data_disk.reads limits (formatted-begun shape log_disk.reads is.log) is.pages;
}
