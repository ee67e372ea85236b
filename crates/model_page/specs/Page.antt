-- The bytes of a page, as InnoDB's fil0fil has them: checksum (4 bytes), page number (4), neighbours (8), page lsn (8),
-- type (2), flush lsn (8), space id (4), user bytes, checksum (4), the low half of the page lsn (4). Both checksums are
-- the CRC-32C of all that stands between them, which is this project's own.
-- On the data device stand first the doublewrite slots and then the page places, each of page size. A slot holds the bytes
-- of a page and nothing else. What is said of both is said of pages below the shape's number, on a device that is as long
-- as the shape asks.
use Rattle.std.specs.Prelude.{ℕ, ◌+◌, ◌-◌, ◌%◌, ◌^◌, ◌==◌, ◌&&◌, if◌then◌else◌, Bool, List, ◌++◌, length, take, drop, ◌≡◌, ◌<◌, ◌≤◌, ◌*◌, ◌⊎◌, Option, Some, None, replicate}
use Rattle.std.specs.List.{list_all}
use Rattle.std.specs.Int.{bytes_high_first}
use Rattle.model_base.specs.declared.limits.TheConstants.{PAGE_TRAILER, USER_START}
use Rattle.model_base.specs.{crc_of, field, user_length}
use Rattle.model_page.specs.declared.page.PageState.{PageState}
use Rattle.model_page.specs.declared.page.PageState.TheVariants.{Blank, Sound, Broken}
use Rattle.model_page.specs.declared.page.TheConstants.{NUMBER_START, LSN_START, SPACE_START}
use Rattle.model_base.specs.declared.shape.Shape.{Shape}
use Rattle.model_page.specs.declared.content.Content.{Content}

-- what the checksums are of: all but the first four bytes and the last eight
abbrev pub checked_part : List ℕ → List ℕ
checked_part bytes = take (length bytes - PAGE_TRAILER - NUMBER_START) (drop NUMBER_START bytes)

abbrev pub user_part : List ℕ → List ℕ
user_part bytes = take (length bytes - PAGE_TRAILER - USER_START) (drop USER_START bytes)

-- from the page number up to the user bytes' end; neighbours, type and flush lsn are 0
abbrev pub middle_text : ℕ → ℕ → ℕ → List ℕ → List ℕ
middle_text number space lsn user =
    bytes_high_first 4 number ++ bytes_high_first 8 0 ++ bytes_high_first 8 lsn ++ bytes_high_first 2 0
    ++ bytes_high_first 8 0 ++ bytes_high_first 4 space ++ user

-- the bytes of the page with this number, space, lsn and user bytes
unfoldable pub page_text : ℕ → ℕ → ℕ → List ℕ → List ℕ
page_text number space lsn user =
    bytes_high_first 4 (crc_of (middle_text number space lsn user)) ++ middle_text number space lsn user
    ++ bytes_high_first 4 (crc_of (middle_text number space lsn user)) ++ bytes_high_first 4 (lsn % 2 ^ 32)

abbrev pub is_blank : List ℕ → Bool
is_blank bytes = list_all (λ byte. byte == 0) bytes

-- both checksums fit, and the low half of the lsn is that of the lsn
abbrev pub is_sound : List ℕ → Bool
is_sound bytes =
    field 4 0 bytes == crc_of (checked_part bytes)
    && field 4 (length bytes - PAGE_TRAILER) bytes == crc_of (checked_part bytes)
    && field 4 (length bytes - 4) bytes == field 8 LSN_START bytes % 2 ^ 32

-- what the check of a page's bytes finds
unfoldable pub page_check : List ℕ → PageState
page_check bytes =
    if is_blank bytes then Blank
    else (if is_sound bytes then Sound (field 4 NUMBER_START bytes) (field 4 SPACE_START bytes) (field 8 LSN_START bytes) else Broken)

-- how long a data device has to be
abbrev pub data_device_length : Shape → ℕ
data_device_length shape = (shape.slots + shape.pages) * shape.page_size

-- the n-th stretch of page size on the device: the slots come first, and then the places
unfoldable pub stretch_at : Shape → ℕ → List ℕ → List ℕ
stretch_at shape n image = take shape.page_size (drop (n * shape.page_size) image)

-- the bytes in a slot of the doublewrite area
abbrev pub slot_bytes : Shape → ℕ → List ℕ → List ℕ
slot_bytes shape slot image = stretch_at shape slot image

abbrev pub place_bytes : Shape → ℕ → List ℕ → List ℕ
place_bytes shape page image = stretch_at shape (shape.slots + page) image

-- the lsn of a copy of the page, where it passes: it is sound with the page's number and the store's space
abbrev pub copy_lsn_by : Shape → ℕ → PageState → Option ℕ
copy_lsn_by shape page (Sound number space lsn) = if number == page && space == shape.space then Some lsn else None
copy_lsn_by shape page state = None

-- the lsn of a page's place, where the place passes: it is blank, or sound as a copy is
abbrev pub place_lsn_by : Shape → ℕ → PageState → Option ℕ
place_lsn_by shape page Blank = Some 0
place_lsn_by shape page state = copy_lsn_by shape page state

abbrev pub place_lsn : Shape → List ℕ → ℕ → Option ℕ
place_lsn shape image page = place_lsn_by shape page (page_check (place_bytes shape page image))

abbrev pub copy_lsn : Shape → List ℕ → ℕ → ℕ → Option ℕ
copy_lsn shape image page slot = copy_lsn_by shape page (page_check (slot_bytes shape slot image))

-- The slot holds the copy of the page that counts: the passing one with the greatest lsn, in the lowest slot on a tie.
pub record IsBestCopy (shape : Shape) (image : List ℕ) (page slot lsn : ℕ) : Type 0 where
  pub below : slot < shape.slots
  pub passes : copy_lsn shape image page slot ≡ Some lsn
  pub greatest : (other found : ℕ) → other < shape.slots → copy_lsn shape image page other ≡ Some found → found ≤ lsn
  pub lowest : (other found : ℕ) → other < slot → copy_lsn shape image page other ≡ Some found → found < lsn

-- no slot holds a copy of the page that passes
abbrev pub HasNoCopy : Shape → List ℕ → ℕ → Type 0
HasNoCopy shape image page = (slot : ℕ) → slot < shape.slots → copy_lsn shape image page slot ≡ None

-- the place passes, and this is what it holds
pub record IsInPlace (shape : Shape) (image : List ℕ) (page : ℕ) (content : Content) : Type 0 where
  pub passes : place_lsn shape image page ≡ Some content.lsn
  pub user : content.user ≡ user_part (place_bytes shape page image)

-- the place doesn't pass, and this is what the copy that counts holds
pub record IsInSlot (shape : Shape) (image : List ℕ) (page : ℕ) (content : Content) : Type 0 where
  pub broken : place_lsn shape image page ≡ None
  pub slot : ℕ
  pub best : IsBestCopy shape image page slot content.lsn
  pub user : content.user ≡ user_part (slot_bytes shape slot image)

-- The kept page: what the place holds if it passes, else what the copy that counts holds.
abbrev pub IsKept : Shape → List ℕ → ℕ → Content → Type 0
IsKept shape image page content = IsInPlace shape image page content ⊎ IsInSlot shape image page content

-- there is no kept page: neither the place nor a copy passes
pub record IsLost (shape : Shape) (image : List ℕ) (page : ℕ) : Type 0 where
  pub broken : place_lsn shape image page ≡ None
  pub no_copy : HasNoCopy shape image page

-- a page that was never written
abbrev pub blank_page : Shape → Content
blank_page shape = record { lsn = 0; user = replicate (user_length shape) 0 }

-- the pages of a store that was just formatted
abbrev pub blank_pages : Shape → List Content
blank_pages shape = replicate shape.pages (blank_page shape)
