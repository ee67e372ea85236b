-- The data device in opening, image by image: places repaired, batches written, and all pages as they were read.
use Rattle.std.proofs.Common.{◌≡◌, ◌<◌, ℕ, zero, suc, inl, inr, false, List, [], ◌∷◌, length, Some, sym, ap, subst, ◌∙◌, ⊎_elim, arith}
use Rattle.std.specs.List.{slice_get, slice_index_or as get_or}
use Rattle.model_device.specs.{Disk}
use Rattle.model_page.specs.{blank_page, copy_lsn, IsKept, slot_bytes, user_part}
use Rattle.model_page.specs.declared.content.Content.{Content}
use Rattle.model_parts.specs.Batch.{Fresh}
use Rattle.model_parts.specs.Stored.{IsNew, copied, ImageHolds, IsUpTo, Keeps, KeepsPage, Stored, read_as, IsWrittenOver}
use Rattle.model_parts.specs.Repair.{KeepsAll}
use Rattle.model_parts.proofs.Kept.{same-copy}
use Rattle.model_store.specs.{HasOldCopies, IsFair, IsNoNewerCopy, IsOrderly, IsReading, IsReadPage, Reading}
use Rattle.model_parts.specs.Rewritten.{IsRewriting, IsRewritten}

-- the page of that number, as it was read
page-at : (pages : List Content) (p : ℕ) (other page : Content) → slice_get pages p ≡ Some page → get_or pages p other ≡ page
page-at [] p other page at = absurd cc
page-at (first ∷ pages) zero other page at = cc
page-at (first ∷ pages) (suc p) other page at = page-at pages p other page at

pub read-page : (opened : Reading) (p : ℕ) (page : Content) → slice_get opened.pages p ≡ Some page → read_as opened p ≡ page
read-page opened p page at = page-at opened.pages p (blank_page opened.shape) page at

pub page-below : (pages : List Content) (p : ℕ) (page : Content) → slice_get pages p ≡ Some page → p < length pages
page-below [] p page at = absurd cc
page-below (first ∷ pages) zero page at = omega arith
page-below (first ∷ pages) (suc p) page at = let later : p < length pages = page-below pages p page at in omega arith

-- WHILE PLACES ARE REPAIRED.

pub repairing-image : (opened : Reading) (log_bytes : List ℕ) (old new : Disk) (image : List ℕ) → IsOrderly log_bytes old.base opened
    → KeepsAll opened.shape old new → IsFair opened.shape new image → IsRewriting opened old.base image
repairing-image opened log_bytes old new image orderly keeps fair = record {
  long = omega (arith, fair.possible.same_length, keeps.long, orderly.reads.scan.devices.data_long);
  each = λ p page at. (
      let read : IsReadPage opened.shape old.base opened.wholes opened.end p page = orderly.reads.each p page at in
      let below : p < opened.shape.pages = omega (arith, page-below opened.pages p page at, orderly.reads.count) in
      record { kept = read.kept; is_kept = (keeps.same image fair p read.kept below).0 read.is_kept; which = inl read.is_kept });
  old_copies = λ p slot lsn page below at copy. (
      let same : slot_bytes opened.shape slot image ≡ slot_bytes opened.shape slot old.base = keeps.slots image fair slot below in
      let there : copy_lsn opened.shape old.base p slot ≡ Some lsn = sym (same-copy opened.shape old.base image p slot same) ∙ copy in
      let older : IsNoNewerCopy opened.shape old.base slot lsn page = orderly.copies p slot lsn page below at there in
      record { no_newer = older.no_newer; same = λ lsn_is. ap user_part same ∙ older.same lsn_is });
}

-- WHILE BATCHES ARE WRITTEN.

copy-from : (opened : Reading) (image : List ℕ) (p slot lsn : ℕ) (page : Content) → read_as opened p ≡ page
    → IsUpTo (read_as opened) p (copied opened.shape image slot lsn) → IsNoNewerCopy opened.shape image slot lsn page
copy-from opened image p slot lsn page is up_to =
    ⊎_elim
    (λ older. (let below : lsn < page.lsn = omega (arith, ap (λ (c : Content). c.lsn) is) in record { no_newer = omega arith; same = λ equal. absurd (omega arith) }))
    (λ same. (let whole : copied opened.shape image slot lsn ≡ page = same ∙ is in
    record { no_newer = omega (arith, ap (λ (c : Content). c.lsn) whole); same = λ equal. ap (λ (c : Content). c.user) whole }))
    up_to

copies-from : (opened : Reading) (was : ℕ → Content) (batch : List Fresh) (image : List ℕ) → length opened.pages ≡ opened.shape.pages
    → ((p : ℕ) (content : Content) → IsNew batch p content → content ≡ read_as opened p)
    → ImageHolds opened.shape (IsUpTo (read_as opened)) was batch image → HasOldCopies image opened
copies-from opened was batch image count as_read holds p slot lsn page below at copy =
    let is : read_as opened p ≡ page = read-page opened p page at in
    let inside : p < opened.shape.pages = omega (arith, page-below opened.pages p page at) in
    ⊎_elim (λ up_to. copy-from opened image p slot lsn page is up_to)
    (λ new. copy-from opened image p slot lsn page is (inr (as_read p (copied opened.shape image slot lsn) new)))
    (holds.known p slot lsn inside below copy)

pub writing-image : (opened : Reading) (log_bytes old : List ℕ) (was : ℕ → Content) (batch : List Fresh) (disk : Disk) (image : List ℕ) → IsReading log_bytes old opened
    → IsWrittenOver opened old was batch → Keeps opened.shape (IsUpTo (read_as opened)) was batch disk → IsFair opened.shape disk image
    → IsRewriting opened old image
writing-image opened log_bytes old was batch disk image reads over keeps fair =
    let holds : ImageHolds opened.shape (IsUpTo (read_as opened)) was batch image = keeps.each image fair in
    record {
      long = omega (arith, fair.possible.same_length, keeps.long);
      each = λ p page at. (
          let is : read_as opened p ≡ page = read-page opened p page at in
          let inside : p < opened.shape.pages = omega (arith, page-below opened.pages p page at, reads.count) in
          let kept : KeepsPage opened.shape was batch image p = holds.pages p inside in
          record {
            kept = kept.content;
            is_kept = kept.kept;
            which = ⊎_elim
                (λ before. ⊎_elim (λ there. inl (subst (IsKept opened.shape old p) (sym before) there)) (λ read. inr (before ∙ read ∙ is)) (over.before p inside))
                (λ new. inr (over.as_read p kept.content new ∙ is)) kept.which;
          });
      old_copies = copies-from opened was batch image reads.count over.as_read holds;
    }

-- ONCE ALL ARE WRITTEN.

pub stored-image : (opened : Reading) (disk : Disk) (image : List ℕ) → length opened.pages ≡ opened.shape.pages
    → Stored opened.shape (IsUpTo (read_as opened)) (read_as opened) [] false disk → IsFair opened.shape disk image → IsRewritten opened image
stored-image opened disk image count stored fair =
    let holds : ImageHolds opened.shape (IsUpTo (read_as opened)) (read_as opened) [] image = stored.keeps.each image fair in
    let none : (p : ℕ) (content : Content) → IsNew [] p content → content ≡ read_as opened p = λ p content new. (let at = new.at in absurd cc) in
    record {
      long = omega (arith, fair.possible.same_length, stored.keeps.long);
      each = λ p page at. (
          let is : read_as opened p ≡ page = read-page opened p page at in
          let inside : p < opened.shape.pages = omega (arith, page-below opened.pages p page at) in
          let kept : KeepsPage opened.shape (read_as opened) [] image p = holds.pages p inside in
          let same : kept.content ≡ page = ⊎_elim (λ before. before ∙ is) (λ new. none p kept.content new ∙ is) kept.which in
          subst (IsKept opened.shape image p) same kept.kept);
      old_copies = copies-from opened (read_as opened) [] image count none holds;
    }
