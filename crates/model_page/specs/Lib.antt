pub mod Fits
pub mod Page
pub use Rattle.model_page.specs.Page.{blank_page, blank_pages, HasNoCopy, IsBestCopy, IsInPlace, IsInSlot, IsKept, IsLost, copy_lsn, copy_lsn_by, data_device_length, place_bytes, place_lsn, place_lsn_by, slot_bytes, is_blank, is_sound, middle_text, user_part}
pub use Rattle.model_page.specs.Fits.{HasBestCopy, FitsPage}
unfoldable pub use Rattle.model_page.specs.Page.{stretch_at, page_check, page_text}
