-- Formatting, step by step.
use Rattle.std.proofs.Common.{◌≡◌, ◌≢◌, ◌≤◌, ◌<◌, ◌*◌, ◌⊎◌, ℕ, inl, inr, true, cond, List, length, refl, sym, ap, subst, ◌∙◌, ⊎_elim, arith, lit≤, lit<}
use Rattle.std.proofs.lemmas.Bool.{cases_Bool}
use Rattle.model_base.specs.{IsWithinLimits}
use Rattle.model_base.specs.declared.shape.Shape.{Shape}
use Rattle.model_base.specs.declared.limits.TheConstants.{START_LSN}
use Rattle.model_device.specs.{sector, settled, synced, Disk}
use Rattle.model_log.specs.{checkpoint_text, fits_checksum, head_of, head_text, log_device_length, read_head, run_layout, run_format}
use Rattle.model_log.specs.declared.layout.TheConstants.{HEADER_BYTES}
use Rattle.model_page.specs.{data_device_length}
use Rattle.model_parts.specs.{IsPut, IsPutting, IsUnsealed, KeepsHead, zero_block, IsHeadPlace}
use Rattle.model_parts.proofs.Formatted.{formatted-orderly, IsBegunLog}
use Rattle.model_parts.proofs.Unread.{zeros-unsealed}
use Rattle.redo_disk.specs.{HasSize}
use Rattle.redo_open.specs.Blank.{HasBlankPages, HasNewLog, HasNoBlocks, HasNoHead, IsHeadless, IsNewLog, IsStillLog, LosesHead, LostHead, MayBeNewLog}
use Rattle.redo_open.specs.Erase.{ErasesIn, HasErased, HasZeros, Reaches}
use Rattle.redo_open.specs.Put.{HasPut, IsAtRestTo, PutsBlock}
use Rattle.redo_open.proofs.Rests.{reads-settled, rests-settled, settled-image, settled-rests}

-- a device on which nothing is pending, in the words of a step
settled-to : (end : ℕ) (disk : Disk) → disk ≡ settled disk.base → end ≤ length disk.base → IsAtRestTo end disk
settled-to end disk same long = record { rests = rests-settled disk same; long = omega (arith, ap length (reads-settled disk same)) }

-- THE HEADER GOES.

keeps-same : (bytes : List ℕ) → KeepsHead bytes bytes
keeps-same bytes = record { same_length = refl; head = refl; others = λ k first second. refl }

-- where nothing came of a call
pub still-before : (old : Disk) → LosesHead old old
still-before old image fair = inl (record { was = image; log = inl fair; kept = keeps-same image })

first-read : (bytes : List ℕ) → fits_checksum (sector 0 bytes) ≡ true → head_of bytes ≡ read_head (sector 0 bytes)
first-read bytes fits = ap (λ t. cond t (read_head (sector 0 bytes)) (read_head (sector 2 bytes))) fits

both-read : (old new : List ℕ) → sector 0 new ≡ sector 0 old → sector 2 new ≡ sector 2 old → head_of new ≡ head_of old
both-read old new first second =
    ap (λ (bytes : List ℕ). cond (fits_checksum bytes) (read_head bytes) (read_head (sector 2 new))) first
    ∙ ap (λ (bytes : List ℕ). cond (fits_checksum (sector 0 old)) (read_head (sector 0 old)) (read_head bytes)) second

-- where the first header block is as it was, it is read, or none is
still-first : (old : Disk) (image : List ℕ) → HEADER_BYTES ≤ length image → length image ≡ length old.reads → sector 0 image ≡ sector 0 old.reads
    → IsUnsealed (sector 2 image) → ((k : ℕ) → k ≢ 0 → k ≢ 2 → sector k image ≡ sector k old.reads) → IsStillLog old image ⊎ HasNoHead image
still-first old image long same_length first second others =
    ⊎_elim
    (λ fits. inl (record {
      was = old.reads;
      log = inr refl;
      kept = record {
        same_length = same_length;
        head = first-read image fits ∙ ap read_head first ∙ sym (first-read old.reads (sym (ap fits_checksum first) ∙ fits));
        others = others;
      };
    }))
    (λ broken. inr (record { long = long; first = broken; second = second })) (cases_Bool (fits_checksum (sector 0 image)))

apart : (k j : ℕ) → k < j → k ≢ j
apart k j less same = absurd (omega (arith, same))

-- while the second block goes
pub second-goes : (old new : Disk) → HEADER_BYTES ≤ length old.reads → PutsBlock 2 zero_block old.reads new → LosesHead old new
second-goes old new long puts image fair =
    let is : IsPutting 2 zero_block old.reads image = puts image fair in
    let first : sector 0 image ≡ sector 0 old.reads = is.others 0 (apart 0 2 (lit< tt)) in
    let without : IsUnsealed (sector 2 image) → IsStillLog old image ⊎ HasNoHead image = λ broken.
    still-first old image (omega (arith, is.same_length)) is.same_length first broken (λ k not_first not_second. is.others k not_second) in
    ⊎_elim
    (λ same. inl (record {
      was = old.reads;
      log = inr refl;
      kept = record { same_length = is.same_length; head = both-read old.reads image first same; others = λ k not_first not_second. is.others k not_second };
    }))
    (λ other. ⊎_elim without (λ zeros. without (ap fits_checksum zeros ∙ zeros-unsealed)) other) is.at

-- and then the first
pub first-goes : (old mid new : Disk) → HEADER_BYTES ≤ length old.reads → HasPut 2 zero_block old.reads mid → PutsBlock 0 zero_block mid.reads new → LosesHead old new
first-goes old mid new long gone puts image fair =
    let reads : mid.reads ≡ mid.base = reads-settled mid gone.nothing_pending in
    let is : IsPutting 0 zero_block mid.base image = subst (λ (bytes : List ℕ). IsPutting 0 zero_block bytes image) reads (puts image fair) in
    let same_length : length image ≡ length old.reads = is.same_length ∙ gone.put.same_length in
    let second : IsUnsealed (sector 2 image) =
    ap fits_checksum (is.others 2 (λ same. apart 0 2 (lit< tt) (sym same)) ∙ gone.put.at) ∙ zeros-unsealed in
    let without : IsUnsealed (sector 0 image) → IsStillLog old image ⊎ HasNoHead image = λ broken.
    inr (record { long = omega arith; first = broken; second = second }) in
    ⊎_elim
    (λ same. still-first old image (omega arith) same_length (same ∙ gone.put.others 0 (apart 0 2 (lit< tt))) second
    (λ k not_first not_second. is.others k not_first ∙ gone.put.others k not_second))
    (λ other. ⊎_elim without (λ zeros. without (ap fits_checksum zeros ∙ zeros-unsealed)) other) is.at

pub both-gone : (size : ℕ) (old mid new : Disk) → HEADER_BYTES ≤ size → length old.reads ≡ size → HasPut 2 zero_block old.reads mid → HasPut 0 zero_block mid.reads new
    → LostHead size new
both-gone size old mid new room sized second first =
    let reads : mid.reads ≡ mid.base = reads-settled mid second.nothing_pending in
    let put : IsPut 0 zero_block mid.base new.base = subst (λ (bytes : List ℕ). IsPut 0 zero_block bytes new.base) reads first.put in
    let long : length new.base ≡ size = put.same_length ∙ second.put.same_length ∙ sized in
    record {
      nothing_pending = first.nothing_pending;
      sized = long;
      no_head = record {
        long = omega arith;
        first = ap fits_checksum put.at ∙ zeros-unsealed;
        second = ap fits_checksum (put.others 2 (λ same. apart 0 2 (lit< tt) (sym same)) ∙ second.put.at) ∙ zeros-unsealed;
      };
    }

-- what the steps take: the device after the first sync, and after the second block's zeros
pub synced-to : (size end : ℕ) (old : Disk) → HasSize size old → end ≤ size → IsAtRestTo end (synced old)
synced-to size end old sized within = record { rests = settled-rests old.reads; long = omega (arith, sized.reads) }

pub put-to : (size end k : ℕ) (bytes content : List ℕ) (disk : Disk) → length content ≡ size → end ≤ size → HasPut k bytes content disk → IsAtRestTo end disk
put-to size end k bytes content disk sized within has = settled-to end disk has.nothing_pending (omega (arith, has.put.same_length))

-- THE BLOCKS GO.

pub lost-to : (size end : ℕ) (disk : Disk) → end ≤ size → LostHead size disk → IsAtRestTo end disk
lost-to size end disk within is = settled-to end disk is.nothing_pending (omega (arith, is.sized))

pub erasing-headless : (size end : ℕ) (old new : Disk) → LostHead size old → ErasesIn 1024 end old.reads new → IsHeadless new
erasing-headless size end old new lost erases image fair =
    let erasing = subst (λ (bytes : List ℕ). ErasesIn 1024 end bytes new) (reads-settled old lost.nothing_pending) erases image fair in
    record {
      long = omega (arith, erasing.same_length, lost.no_head.long);
      first = ⊎_elim (λ same. ap fits_checksum same ∙ lost.no_head.first) (λ gone. gone.1) (erasing.each 0);
      second = ⊎_elim (λ same. ap fits_checksum same ∙ lost.no_head.second) (λ gone. gone.1) (erasing.each 2);
    }

pub no-blocks : (shape : Shape) (size end : ℕ) (old new : Disk) → end ≡ log_device_length shape → log_device_length shape ≤ size → IsWithinLimits shape → LostHead size old
    → HasZeros 1024 end old.reads new → HasNoBlocks shape new
no-blocks shape size end old new end_is room limits lost has =
    let is : HasZeros 1024 end old.base new = subst (λ (bytes : List ℕ). HasZeros 1024 end bytes new) (reads-settled old lost.nothing_pending) has in
    record {
      nothing_pending = is.nothing_pending;
      long = omega (arith, is.same_length, lost.sized);
      no_head = record {
        long = omega (arith, is.same_length, lost.no_head.long);
        first = ap fits_checksum (is.others 0 (λ inside. absurd (omega (arith, inside.low)))) ∙ lost.no_head.first;
        second = ap fits_checksum (is.zeros 2 (record { low = lit≤ tt; high = omega (arith, end_is, limits.many_blocks) })) ∙ zeros-unsealed;
      };
      blocks = λ k low high. is.zeros k (record { low = omega arith; high = omega (arith, end_is) });
    }

pub no_blocks-headless : (shape : Shape) (disk : Disk) → HasNoBlocks shape disk → IsHeadless disk
no_blocks-headless shape disk is image fair = subst HasNoHead (sym (settled-image disk image is.nothing_pending fair.possible)) is.no_head

-- THE PAGES GO.

pub reaches-sized : (size end : ℕ) (disk : Disk) → end ≤ size → HasSize size disk → Reaches end disk
reaches-sized size end disk within sized = record { base = omega (arith, sized.base); reads = omega (arith, sized.reads) }

pub synced-blank : (shape : Shape) (size end : ℕ) (old mid : Disk) → end ≡ data_device_length shape → end ≤ size → HasSize size old → HasErased 0 end old mid
    → HasBlankPages shape (synced mid)
synced-blank shape size end old mid end_is room sized is = record {
  nothing_pending = refl;
  zeros = record {
    long = omega (arith, is.erases.same_length, sized.reads, end_is);
    zeros = λ k inside. is.zeros k (record { low = omega arith; high = omega (arith, end_is) });
  };
}

-- A NEW LOG COMES.

pub no_blocks-to : (shape : Shape) (end : ℕ) (disk : Disk) → end ≤ log_device_length shape → HasNoBlocks shape disk → IsAtRestTo end disk
no_blocks-to shape end disk within is = settled-to end disk is.nothing_pending (omega (arith, is.long))

abbrev first_text : Shape → List ℕ
first_text shape = checkpoint_text 0 START_LSN (run_layout shape)

-- while the first checkpoint is put
pub checkpoint-comes : (shape : Shape) (old new : Disk) → HasNoBlocks shape old → PutsBlock 1 (first_text shape) old.reads new → MayBeNewLog shape new
checkpoint-comes shape old new none puts image fair =
    let is : IsPutting 1 (first_text shape) old.base image =
    subst (λ (bytes : List ℕ). IsPutting 1 (first_text shape) bytes image) (reads-settled old none.nothing_pending) (puts image fair) in
    inl (record {
      long = omega (arith, is.same_length, none.no_head.long);
      first = ap fits_checksum (is.others 0 (apart 0 1 (lit< tt))) ∙ none.no_head.first;
      second = ap fits_checksum (is.others 2 (λ same. apart 1 2 (lit< tt) (sym same))) ∙ none.no_head.second;
    })

-- the log with its first checkpoint
pub record HasFirstCheckpoint (shape : Shape) (disk : Disk) : Type 0 where
  pub no_blocks : HasNoBlocks shape disk
  pub checkpoint : sector 1 disk.base ≡ first_text shape

pub checkpoint-there : (shape : Shape) (old new : Disk) → HasNoBlocks shape old → HasPut 1 (first_text shape) old.reads new → HasFirstCheckpoint shape new
checkpoint-there shape old new none has =
    let is : IsPut 1 (first_text shape) old.base new.base =
    subst (λ (bytes : List ℕ). IsPut 1 (first_text shape) bytes new.base) (reads-settled old none.nothing_pending) has.put in
    record {
      no_blocks = record {
        nothing_pending = has.nothing_pending;
        long = omega (arith, is.same_length, none.long);
        no_head = record {
          long = omega (arith, is.same_length, none.no_head.long);
          first = ap fits_checksum (is.others 0 (apart 0 1 (lit< tt))) ∙ none.no_head.first;
          second = ap fits_checksum (is.others 2 (λ same. apart 1 2 (lit< tt) (sym same))) ∙ none.no_head.second;
        };
        blocks = λ k low high. is.others k (λ same. absurd (omega (arith, same))) ∙ none.blocks k low high;
      };
      checkpoint = is.at;
    }

begun-new : (shape : Shape) (bytes : List ℕ) → IsWithinLimits shape → IsBegunLog shape bytes → IsNewLog shape bytes
begun-new shape bytes limits begun data_bytes pages = formatted-orderly shape bytes data_bytes limits begun pages

headed : (shape : Shape) (content bytes : List ℕ) → log_device_length shape ≤ length content → length bytes ≡ length content → sector 0 bytes ≡ head_text (run_format shape) shape
    → ((k : ℕ) → k ≢ 0 → sector k bytes ≡ sector k content) → sector 1 content ≡ first_text shape
    → ((k : ℕ) → 3 ≤ k → 512 * k < log_device_length shape → sector k content ≡ zero_block) → IsBegunLog shape bytes
headed shape content bytes long same_length first others checkpoint blocks = record {
  long = omega arith;
  first = first;
  checkpoint = others 1 (λ same. apart 0 1 (lit< tt) (sym same)) ∙ checkpoint;
  blocks = λ k low high. others k (λ same. absurd (omega (arith, same))) ∙ blocks k low high;
}

-- while the header is put into the first block
pub first-comes : (shape : Shape) (old new : Disk) → IsWithinLimits shape → HasFirstCheckpoint shape old → PutsBlock 0 (head_text (run_format shape) shape) old.reads new → MayBeNewLog shape new
first-comes shape old new limits has puts image fair =
    let none : HasNoBlocks shape old = has.no_blocks in
    let is : IsPutting 0 (head_text (run_format shape) shape) old.base image =
    subst (λ (bytes : List ℕ). IsPutting 0 (head_text (run_format shape) shape) bytes image) (reads-settled old none.nothing_pending) (puts image fair) in
    let without : IsUnsealed (sector 0 image) → HasNoHead image = λ broken. record {
      long = omega (arith, is.same_length, none.no_head.long);
      first = broken;
      second = ap fits_checksum (is.others 2 (λ same. apart 0 2 (lit< tt) (sym same))) ∙ none.no_head.second;
    } in
    ⊎_elim (λ same. inl (without (ap fits_checksum same ∙ none.no_head.first)))
    (λ other. ⊎_elim (λ broken. inl (without broken))
    (λ head. inr (begun-new shape image limits (headed shape old.base image none.long is.same_length head is.others has.checkpoint none.blocks))) other) is.at

pub record HasFirstHead (shape : Shape) (disk : Disk) : Type 0 where
  pub nothing_pending : disk ≡ settled disk.base
  pub log : IsBegunLog shape disk.base

pub first-there : (shape : Shape) (old new : Disk) → HasFirstCheckpoint shape old → HasPut 0 (head_text (run_format shape) shape) old.reads new → HasFirstHead shape new
first-there shape old new has put =
    let none : HasNoBlocks shape old = has.no_blocks in
    let is : IsPut 0 (head_text (run_format shape) shape) old.base new.base =
    subst (λ (bytes : List ℕ). IsPut 0 (head_text (run_format shape) shape) bytes new.base) (reads-settled old none.nothing_pending) put.put in
    record {
      nothing_pending = put.nothing_pending;
      log = headed shape old.base new.base none.long is.same_length is.at is.others has.checkpoint none.blocks;
    }

second-headed : (shape : Shape) (content bytes : List ℕ) → IsBegunLog shape content → length bytes ≡ length content
    → ((k : ℕ) → k ≢ 2 → sector k bytes ≡ sector k content) → IsBegunLog shape bytes
second-headed shape content bytes begun same_length others = record {
  long = omega (arith, begun.long);
  first = others 0 (apart 0 2 (lit< tt)) ∙ begun.first;
  checkpoint = others 1 (apart 1 2 (lit< tt)) ∙ begun.checkpoint;
  blocks = λ k low high. others k (λ same. absurd (omega (arith, same))) ∙ begun.blocks k low high;
}

-- while it is put into the second
pub second-comes : (shape : Shape) (old new : Disk) → IsWithinLimits shape → HasFirstHead shape old → PutsBlock 2 (head_text (run_format shape) shape) old.reads new → MayBeNewLog shape new
second-comes shape old new limits has puts image fair =
    let is : IsPutting 2 (head_text (run_format shape) shape) old.base image =
    subst (λ (bytes : List ℕ). IsPutting 2 (head_text (run_format shape) shape) bytes image) (reads-settled old has.nothing_pending) (puts image fair) in
    inr (begun-new shape image limits (second-headed shape old.base image has.log is.same_length is.others))

either-head : (shape : Shape) (bytes : List ℕ) → sector 0 bytes ≡ head_text (run_format shape) shape → sector 2 bytes ≡ head_text (run_format shape) shape
    → (k : ℕ) → IsHeadPlace k → sector k bytes ≡ head_text (run_format shape) shape
either-head shape bytes first second k place =
    ⊎_elim (λ zero. subst (λ (n : ℕ). sector n bytes ≡ head_text (run_format shape) shape) (sym zero) first)
    (λ two. subst (λ (n : ℕ). sector n bytes ≡ head_text (run_format shape) shape) (sym two) second) place

pub second-there : (shape : Shape) (old new : Disk) → HasFirstHead shape old → HasPut 2 (head_text (run_format shape) shape) old.reads new → HasNewLog shape new
second-there shape old new has put =
    let is : IsPut 2 (head_text (run_format shape) shape) old.base new.base =
    subst (λ (bytes : List ℕ). IsPut 2 (head_text (run_format shape) shape) bytes new.base) (reads-settled old has.nothing_pending) put.put in
    let begun : IsBegunLog shape new.base = second-headed shape old.base new.base has.log is.same_length is.others in
    record {
      nothing_pending = put.nothing_pending;
      log = record { long = begun.long; heads = either-head shape new.base begun.first is.at; checkpoint = begun.checkpoint; blocks = begun.blocks };
    }

-- what the steps take
pub checkpoint-to : (shape : Shape) (end : ℕ) (disk : Disk) → end ≤ log_device_length shape → HasFirstCheckpoint shape disk → IsAtRestTo end disk
checkpoint-to shape end disk within is = no_blocks-to shape end disk within is.no_blocks

pub first-to : (shape : Shape) (end : ℕ) (disk : Disk) → end ≤ log_device_length shape → HasFirstHead shape disk → IsAtRestTo end disk
first-to shape end disk within is = settled-to end disk is.nothing_pending (omega (arith, is.log.long))
