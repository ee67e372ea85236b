-- The pages of a store while it is read: as they are kept, judged, and with the scanned groups applied.
-- Where the pages of a store were found on its data device.
use Rattle.std.specs.Prelude.{ℕ, ◌≡◌, ◌≤◌, ◌<◌, ◌*◌, List, length, take, slice_get, slice_set, Option, Some, ⊤, None, IfSome, MatchOption}
use Rattle.model_device.specs.{Disk}
use Rattle.model_base.specs.declared.shape.Shape.{Shape}
use Rattle.model_page.specs.{IsKept, IsLost, IsBestCopy, place_lsn}
use Rattle.model_page.specs.declared.content.Content.{Content}
use Rattle.model_store.specs.{AreKeptBelow, AreNotAheadBelow, IsKeptAt}
use Rattle.redo_recover.specs.Devices.{OnContent}
use Rattle.redo_recover.specs.declared.fault.RecFault.{RecFault}
use Rattle.redo_recover.specs.declared.fault.RecFault.TheVariants.{DataDev, PageLost, PageAhead, NoMemory}
use Rattle.redo_apply.specs.{ArePagesOf}
use Rattle.redo_recover.specs.declared.places.Found.{Found}
use Rattle.redo_recover.specs.declared.places.Places.{Places}

-- the pages of the store as they are kept
pub record AreKept (shape : Shape) (data_bytes : List ℕ) (pages : List Content) : Type 0 where
  pub count : length pages ≡ shape.pages
  pub each : (p : ℕ) (page : Content) → slice_get pages p ≡ Some page → IsKept shape data_bytes p page

-- the first page of the store that isn't kept
pub record IsFirstLost (shape : Shape) (data_bytes : List ℕ) (p : ℕ) : Type 0 where
  pub below : p < shape.pages
  pub lost : IsLost shape data_bytes p
  pub kept : AreKeptBelow shape data_bytes p

-- the slots of the data device
abbrev pub HoldsSlots : Shape → List ℕ → List ℕ → Type 0
HoldsSlots shape slots content = slots ≡ take (shape.slots * shape.page_size) content

-- one page is put among the others as it is kept
pub record PutsKept (shape : Shape) (p : ℕ) (old new : List Content) (data_bytes : List ℕ) : Type 0 where
  pub kept : Content
  pub is_kept : IsKept shape data_bytes p kept
  pub put : new ≡ slice_set old p kept

-- why one page isn't kept: it is lost, where the device tells, the device failed, or memory ran out
abbrev pub IsLostFault : Shape → ℕ → Option Disk → RecFault → Type 0
IsLostFault shape page told (PageLost p) = (p ≡ page) × OnContent told (λ content. IsLost shape content page)
IsLostFault shape page told DataDev = ⊤
IsLostFault shape page told NoMemory = ⊤
IsLostFault shape page told _ = ⊥

-- why the pages aren't all kept
abbrev pub IsFirstLostFault : Shape → Option Disk → RecFault → Type 0
IsFirstLostFault shape told (PageLost p) = OnContent told (λ content. IsFirstLost shape content p)
IsFirstLostFault shape told DataDev = ⊤
IsFirstLostFault shape told NoMemory = ⊤
IsFirstLostFault shape told _ = ⊥

-- no page has an lsn above the end
abbrev pub AreNotAhead : List Content → ℕ → Type 0
AreNotAhead pages end = (p : ℕ) (page : Content) → slice_get pages p ≡ Some page → page.lsn ≤ end

-- the first page that has one, and its lsn
pub record IsFirstAhead (pages : List Content) (end p lsn : ℕ) : Type 0 where
  pub page : Content
  pub at : slice_get pages p ≡ Some page
  pub same : lsn ≡ page.lsn
  pub ahead : end < lsn
  pub first : (q : ℕ) (other : Content) → q < p → slice_get pages q ≡ Some other → other.lsn ≤ end

-- that a page is ahead
abbrev pub IsAheadFault : List Content → ℕ → RecFault → Type 0
IsAheadFault pages end (PageAhead p lsn) = IsFirstAhead pages end p lsn
IsAheadFault pages end _ = ⊥

-- why the pages of a store aren't read whose log ends there: one isn't kept, or else a kept one is ahead
abbrev pub IsPageFault : Shape → ℕ → Option Disk → RecFault → Type 0
IsPageFault shape end told (PageAhead p lsn) = OnContent told (λ data_bytes. AreKeptBelow shape data_bytes shape.pages
    × (p < shape.pages) × IsKeptAt shape data_bytes p lsn × (end < lsn) × AreNotAheadBelow shape data_bytes end p)
IsPageFault shape end told fault = IsFirstLostFault shape told fault

-- the page's place passes, with this lsn; or it doesn't, and this slot has the copy that counts, with this lsn
abbrev pub IsFoundAt : Shape → List ℕ → ℕ → Found → Type 0
IsFoundAt shape image page found = MatchOption found.slot (place_lsn shape image page ≡ Some found.lsn)
    (λ slot. (place_lsn shape image page ≡ None) × IsBestCopy shape image page slot found.lsn)

-- These are the slots of the image, and each page was found there. A page that was read and has still the lsn with which it
-- was found is as the image keeps it.
pub record AreFoundOn (shape : Shape) (places : Places) (pages : List Content) (image : List ℕ) : Type 0 where
  pub slots : HoldsSlots shape places.slots.items image
  pub each : (p : ℕ) (found : Found) → slice_get places.found.items p ≡ Some found → IsFoundAt shape image p found
  pub same : (p : ℕ) (found : Found) (page : Content) → slice_get places.found.items p ≡ Some found
      → slice_get pages p ≡ Some page → found.lsn ≡ page.lsn → IsKept shape image p page

-- the slot is one that the store has, where a slot is named
abbrev pub HasItsSlot : Shape → Found → Type 0
HasItsSlot shape found = IfSome found.slot (λ slot. slot < shape.slots)

-- These are all slots, and each of the pages is in its place or in one of them.
pub record HaveSlots (shape : Shape) (places : Places) : Type 0 where
  pub room : length places.slots.items ≡ shape.slots * shape.page_size
  pub count : length places.found.items ≡ shape.pages
  pub below : (p : ℕ) (found : Found) → slice_get places.found.items p ≡ Some found → HasItsSlot shape found

-- Known whatever the device tells: the slots and the pages are there, and no page's lsn has fallen since it was found.
pub record ArePlacesOf (shape : Shape) (places : Places) (pages : List Content) : Type 0 where
  pub have_slots : HaveSlots shape places
  pub its_pages : ArePagesOf shape pages
  pub risen : (p : ℕ) (found : Found) (page : Content) → slice_get places.found.items p ≡ Some found
      → slice_get pages p ≡ Some page → found.lsn ≤ page.lsn

-- WHILE THEY ARE READ.

-- each of the pages was found there
abbrev pub AreFoundAt : Shape → List Found → List ℕ → Type 0
AreFoundAt shape found image = (p : ℕ) (one : Found) → slice_get found p ≡ Some one → IsFoundAt shape image p one

-- one page is put among the others, with the lsn with which it was found, in its place or in a slot that the store has
pub record PutsFound (shape : Shape) (p : ℕ) (old new : List Content) (found : Found) : Type 0 where
  pub slot : HasItsSlot shape found
  pub user : List ℕ
  pub put : new ≡ slice_set old p (record { lsn = found.lsn; user = user })

-- That many pages were found, each with the lsn that it has, and none in a slot that the store doesn't have.
pub record AreFoundWith (shape : Shape) (count : ℕ) (found : List Found) (pages : List Content) : Type 0 where
  pub many : length found ≡ count
  pub slots : (p : ℕ) (one : Found) → slice_get found p ≡ Some one → HasItsSlot shape one
  pub lsns : (p : ℕ) (one : Found) (page : Content) → slice_get found p ≡ Some one → slice_get pages p ≡ Some page → one.lsn ≡ page.lsn
