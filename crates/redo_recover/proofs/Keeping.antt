-- Kept pages, off the slots and one place after another.
use Rattle.std.proofs.Common.{◌≡◌, ℕ, zero, suc, ◌+◌, ◌-◌, ◌*◌, ◌%◌, ◌<◌, ◌≤◌, inr, List, length, take, drop, Option, Some, None, arith, refl, sym, ap, subst, ◌∙◌}
use Rattle.std.proofs.lemmas.List.{drop-take, length-drop, length-take, length-take-le, take-take}
use Rattle.std.proofs.Math.Nat.{le-add_right, mul-le-mul_right, suc-mul, zero-mul}
use Rattle.model_base.proofs.ShapeLimits.{whole_sectors}
use Rattle.model_base.specs.{IsWithinLimits, user_length}
use Rattle.model_base.specs.declared.limits.TheConstants.{BLOCK_SIZE}
use Rattle.model_base.specs.declared.shape.Shape.{Shape}
use Rattle.model_page.specs.{copy_lsn, copy_lsn_by, data_device_length, HasNoCopy, IsBestCopy, IsKept, IsLost, page_check, place_bytes, place_lsn, place_lsn_by, slot_bytes, stretch_at, user_part}
use Rattle.model_page.specs.declared.content.Content.{Content}
use Rattle.model_device.specs.{Disk}
use Rattle.redo_apply.specs.{ArePagesOf}
use Rattle.redo_disk.specs.{IsRange, part}
use Rattle.redo_recover.proofs.Contents.{content-both, content-weaker}
use Rattle.redo_recover.proofs.Paging.{AreKeptFirst, all-kept, first_lost, kept-put}
use Rattle.redo_recover.specs.Devices.{OnContent}
use Rattle.redo_recover.specs.Pages.{AreKept, HoldsSlots, IsFirstLost, IsFirstLostFault, IsLostFault, PutsKept, IsFoundAt}
use Rattle.redo_recover.specs.declared.fault.RecFault.{RecFault}
use Rattle.redo_recover.specs.declared.fault.RecFault.TheVariants.{SmallLog, NotFormatted, BadFormat, SmallData, NoCheckpoint, BadRecord, PageLost, PageAhead, LogDev, DataDev, NoMemory}

pub user-size : (shape : Shape) (page : List ℕ) → length page ≡ shape.page_size → length (user_part page) ≡ user_length shape
user-size shape page long = omega (arith, length-take (length page - 8 - 38) (drop 38 page), length-drop 38 page)

room : (slots n size : ℕ) → n < slots → n * size + size ≤ slots * size
room slots n size h = grind arith

-- stretches of whole sectors begin with sectors
sector-of : (n size : ℕ) → size % BLOCK_SIZE ≡ 0 → (n * size) % BLOCK_SIZE ≡ 0
sector-of zero size whole = ap (λ (m : ℕ). m % BLOCK_SIZE) (zero-mul size)
sector-of (suc n) size whole = let before : (n * size) % BLOCK_SIZE ≡ 0 = sector-of n size whole in omega (arith, suc-mul n size)

-- the slots and each place may be read
pub slots-range : (shape : Shape) (long : ℕ) → IsWithinLimits shape → data_device_length shape ≤ long → IsRange long 0 (shape.slots * shape.page_size)
slots-range shape long limits within =
    let whole = whole_sectors shape limits in
    record {
      from_sector = refl;
      whole_sectors = sector-of shape.slots shape.page_size whole.sectors;
      within = (let front = mul-le-mul_right shape.page_size (le-add_right shape.slots shape.pages) in omega arith);
    }

pub place-range : (shape : Shape) (page long : ℕ) → IsWithinLimits shape → page < shape.pages → data_device_length shape ≤ long
    → IsRange long ((shape.slots + page) * shape.page_size) shape.page_size
place-range shape page long limits below within =
    let whole = whole_sectors shape limits in
    record {
      from_sector = sector-of (shape.slots + page) shape.page_size whole.sectors;
      whole_sectors = whole.sectors;
      within = (let inside = room (shape.slots + shape.pages) (shape.slots + page) shape.page_size (omega arith) in omega arith);
    }

-- a slot, as all slots were read and as it stands on the device
pub slot-same : (shape : Shape) (slots image : List ℕ) (n : ℕ) → HoldsSlots shape slots image → n < shape.slots → slot_bytes shape n slots ≡ slot_bytes shape n image
unfolding stretch_at
slot-same shape slots image n is h =
    let size = shape.page_size in
    let len = shape.slots * size in
    let inside : n * size + size ≤ len = room shape.slots n size h in
    let rest : len ≡ n * size + (len - n * size) = omega (arith, inside) in
    ap (λ l. take size (drop (n * size) l)) is
    ∙ ap (λ k. take size (drop (n * size) (take k image))) rest
    ∙ ap (take size) (drop-take (n * size) (len - n * size) image)
    ∙ take-take size (len - n * size) (drop (n * size) image) (omega (arith, inside))

copy-same : (shape : Shape) (slots image : List ℕ) (p n : ℕ) → HoldsSlots shape slots image → n < shape.slots → copy_lsn shape slots p n ≡ copy_lsn shape image p n
copy-same shape slots image p n is h = ap (λ bytes. copy_lsn_by shape p (page_check bytes)) (slot-same shape slots image n is h)

broken-off : (shape : Shape) (place image : List ℕ) (p : ℕ) (found : Option ℕ) → place ≡ place_bytes shape p image
    → place_lsn_by shape p (page_check place) ≡ found → place_lsn shape image p ≡ found
broken-off shape place image p found at is = sym (ap (λ bytes. place_lsn_by shape p (page_check bytes)) at) ∙ is

best-off : (shape : Shape) (slots image : List ℕ) (p slot lsn : ℕ) → HoldsSlots shape slots image → IsBestCopy shape slots p slot lsn → IsBestCopy shape image p slot lsn
best-off shape slots image p slot lsn is best = record {
  below = best.below;
  passes = sym (copy-same shape slots image p slot is best.below) ∙ best.passes;
  greatest = λ other found h there. best.greatest other found h (copy-same shape slots image p other is h ∙ there);
  lowest = λ other found h there. (
      let low : other < shape.slots = omega (arith, best.below) in
      best.lowest other found h (copy-same shape slots image p other is low ∙ there));
}

-- the place doesn't pass, and a copy counts
pub slot-found : (shape : Shape) (slots place image : List ℕ) (p slot lsn : ℕ) → HoldsSlots shape slots image → place ≡ place_bytes shape p image
    → place_lsn_by shape p (page_check place) ≡ None → IsBestCopy shape slots p slot lsn → IsFoundAt shape image p (record { lsn = lsn; slot = Some slot })
slot-found shape slots place image p slot lsn is at broken best =
    (broken-off shape place image p None at broken, best-off shape slots image p slot lsn is best)

pub lost-off : (shape : Shape) (slots place image : List ℕ) (p : ℕ) → HoldsSlots shape slots image → place ≡ place_bytes shape p image
    → place_lsn_by shape p (page_check place) ≡ None → HasNoCopy shape slots p → IsLost shape image p
lost-off shape slots place image p is at broken none = record {
  broken = broken-off shape place image p None at broken;
  no_copy = λ slot low. sym (copy-same shape slots image p slot is low) ∙ none slot low;
}

pub slot-off : (shape : Shape) (slots place image user : List ℕ) (p slot lsn : ℕ) → HoldsSlots shape slots image → place ≡ place_bytes shape p image
    → place_lsn_by shape p (page_check place) ≡ None → IsBestCopy shape slots p slot lsn → user ≡ user_part (slot_bytes shape slot slots)
    → IsKept shape image p (record { lsn = lsn; user = user })
slot-off shape slots place image user p slot lsn is at broken best user_is = inr (record {
  broken = broken-off shape place image p None at broken;
  slot = slot;
  best = best-off shape slots image p slot lsn is best;
  user = user_is ∙ ap user_part (slot-same shape slots image slot is best.below);
})

-- A STRETCH, as it is cut out and as it is read

pub slice-is : (shape : Shape) (slots : List ℕ) (slot : ℕ)
    → take ((slot * shape.page_size + shape.page_size) - slot * shape.page_size) (drop (slot * shape.page_size) slots) ≡ slot_bytes shape slot slots
unfolding stretch_at
slice-is shape slots slot = ap (λ n. take n (drop (slot * shape.page_size) slots)) (omega arith)

pub slot-size : (shape : Shape) (slots : List ℕ) (slot : ℕ) → length slots ≡ shape.slots * shape.page_size → slot < shape.slots → length (slot_bytes shape slot slots) ≡ shape.page_size
unfolding stretch_at
slot-size shape slots slot long h =
    length-take-le shape.page_size (drop (slot * shape.page_size) slots) (omega (arith, length-drop (slot * shape.page_size) slots, room shape.slots slot shape.page_size h))

pub part-is : (shape : Shape) (content : List ℕ) (p at : ℕ) → at ≡ (shape.slots + p) * shape.page_size → part content at shape.page_size ≡ place_bytes shape p content
unfolding stretch_at
part-is shape content p at is = ap (λ n. take shape.page_size (drop n content)) is

-- ONE PAGE AFTER ANOTHER

-- the page that isn't kept is the first one
pub lost-first : (shape : Shape) (pages : List Content) (page : ℕ) (told : Option Disk) (fault : RecFault) → page < shape.pages
    → OnContent told (λ content. AreKeptFirst shape content page pages) → IsLostFault shape page told fault → IsFirstLostFault shape told fault
lost-first shape pages page told (PageLost p) below kept lost =
    content-both told (λ content. AreKeptFirst shape content page pages) (λ content. IsLost shape content page) (λ content. IsFirstLost shape content p)
    (λ content first is. subst (λ q. IsFirstLost shape content q) (sym lost.0) (first_lost shape content pages page first below is)) kept lost.1
lost-first shape pages page told DataDev below kept lost = tt
lost-first shape pages page told NoMemory below kept lost = tt
lost-first shape pages page told (SmallLog n) below kept none = absurd none
lost-first shape pages page told NotFormatted below kept none = absurd none
lost-first shape pages page told (BadFormat n) below kept none = absurd none
lost-first shape pages page told (SmallData n) below kept none = absurd none
lost-first shape pages page told NoCheckpoint below kept none = absurd none
lost-first shape pages page told (BadRecord lsn) below kept none = absurd none
lost-first shape pages page told (PageAhead p lsn) below kept none = absurd none
lost-first shape pages page told LogDev below kept none = absurd none

pub kept-next : (shape : Shape) (old new : List Content) (page : ℕ) (told : Option Disk) → ArePagesOf shape new
    → OnContent told (λ content. AreKeptFirst shape content page old) → OnContent told (PutsKept shape page old new)
    → OnContent told (λ content. AreKeptFirst shape content (page + 1) new)
kept-next shape old new page told its first puts =
    content-both told (λ content. AreKeptFirst shape content page old) (PutsKept shape page old new) (λ content. AreKeptFirst shape content (page + 1) new)
    (λ content kept put. kept-put shape content page old new put.kept kept put.is_kept put.put its) first puts

pub kept-all : (shape : Shape) (pages : List Content) (count : ℕ) (told : Option Disk) → shape.pages ≤ count
    → OnContent told (λ content. AreKeptFirst shape content count pages) → OnContent told (λ content. AreKept shape content pages)
kept-all shape pages count told all = content-weaker told (λ content. AreKeptFirst shape content count pages) (λ content. AreKept shape content pages)
    (λ content first. all-kept shape content pages count first all)
