-- The head and the marks of an archive, which were read off the front of a device.
use Rattle.std.proofs.Common.{◌≡◌, ◌≤◌, ◌<◌, ◌+◌, ◌*◌, ℕ, inl, inr, List, length, Option, Some, None, IfSome, sym, ap, ap₂, ◌∙◌, ⊎_elim, arith}
use Rattle.model_device.specs.{Disk}
use Rattle.model_log.specs.{header_block, newer, sector_at}
use Rattle.model_archive.specs.{archive_length, HasExtent, IsMissing, newest_mark, read_archive_head, read_mark}
use Rattle.model_archive.specs.declared.extent.Extent.{Extent}
use Rattle.redo_disk.specs.{HasSize, part}
use Rattle.redo_disk.specs.declared.error.DevError.{DevError}
use Rattle.redo_disk.specs.declared.error.DevError.TheVariants as device
use Rattle.redo_recover.specs.Devices.{OnContent}
use Rattle.redo_recover.proofs.Contents.{content-weaker}
use Rattle.redo_recover.proofs.Starting.{sector-part}
use Rattle.redo_archive.specs.Restoring.{IsExtentFault, NamesExtent, NamesNone, restore_fault}
use Rattle.redo_archive.specs.declared.restored.RestoreFault.TheVariants.{Missing}

-- WHAT IT NAMES.

front-header : (k : ℕ) (header image : List ℕ) → header ≡ part image 0 1536 → 512 * k + 512 ≤ 1536
    → header_block k header ≡ header_block k image
front-header k header image is within =
    ap (header_block k) is ∙ sector-part image 0 1536 (512 * k) within ∙ ap (λ n. sector_at n image) (omega arith)

front-marks : (s : ℕ) (header image : List ℕ) → header ≡ part image 0 1536 → newest_mark s header ≡ newest_mark s image
front-marks s header image is =
    ap₂ newer (ap (read_mark 1 s) (front-header 1 header image is (omega arith)))
    (ap (read_mark 2 s) (front-header 2 header image is (omega arith)))

pub front-names : (header image : List ℕ) (extent : Extent) → header ≡ part image 0 1536 → NamesExtent header extent
    → NamesExtent image extent
front-names header image extent is names = record {
  head = ap read_archive_head (sym (front-header 0 header image is (omega arith))) ∙ names.head;
  number = names.number;
  newest = sym (front-marks extent.start header image is) ∙ names.newest;
}

pub front-none : (header image : List ℕ) → header ≡ part image 0 1536 → NamesNone header → NamesNone image
front-none header image is none =
    ⊎_elim (λ head. inl (ap read_archive_head (sym (front-header 0 header image is (omega arith))) ∙ head))
    (λ marks. inr (
      marks.0,
      marks.1,
      ap read_archive_head (sym (front-header 0 header image is (omega arith)))
          ∙ marks.2,
      sym (front-marks marks.0 header image is) ∙ marks.3,
    )) none

-- WHAT WAS READ OF IT.

-- the front that was read is that of the content, which has the device's size
pub record IsFrontOf (size count : ℕ) (bytes image : List ℕ) : Type 0 where
  pub front : bytes ≡ part image 0 count
  pub size_is : length image ≡ size

pub front-of : (told : Option Disk) (size count : ℕ) (bytes : List ℕ) → IfSome told (HasSize size)
    → OnContent told (λ image. bytes ≡ part image 0 count) → OnContent told (λ image. IsFrontOf size count bytes image)
front-of None size count bytes sized read = tt
front-of (Some disk) size count bytes sized read = record { front = read; size_is = sized.reads }

-- the device has no room for a head and marks
pub short-missing : (told : Option Disk) (size : ℕ) → IfSome told (HasSize size) → size < 1536
    → IsExtentFault told Missing
short-missing None size sized short = tt
short-missing (Some disk) size sized short = inl (omega (arith, sized.reads))

-- the head doesn't pass, or no mark does
pub none-missing : (told : Option Disk) (size : ℕ) (header : List ℕ)
    → OnContent told (λ image. IsFrontOf size 1536 header image) → 1536 ≤ size → NamesNone header
    → IsExtentFault told Missing
none-missing told size header front long none =
    content-weaker told (λ image. IsFrontOf size 1536 header image) IsMissing (λ image is.
    let there : NamesNone image = front-none header image is.front none in
    let room : 1536 ≤ length image = omega (arith, is.size_is) in
    ⊎_elim (λ head. inr (inl (room, head))) (λ marks. inr (inr (inl (marks.0, marks.1, room, marks.2, marks.3))))
    there) front

-- the device is shorter than they ask
pub long-missing : (told : Option Disk) (size : ℕ) (header : List ℕ) (extent : Extent)
    → OnContent told (λ image. IsFrontOf size 1536 header image) → 1536 ≤ size → NamesExtent header extent
    → size < archive_length extent.shape extent.start extent.mark → IsExtentFault told Missing
long-missing told size header extent front long names short =
    content-weaker told (λ image. IsFrontOf size 1536 header image) IsMissing (λ image is.
    let there : NamesExtent image extent = front-names header image extent is.front names in
    inr (inr
    (inr (
      extent.start,
      extent.shape,
      there.number,
      extent.mark,
      omega (arith, is.size_is),
      there.head,
      there.newest,
      omega (arith, is.size_is),
    )))) front

pub extent-is : (told : Option Disk) (size : ℕ) (header : List ℕ) (extent : Extent)
    → OnContent told (λ image. IsFrontOf size 1536 header image) → 1536 ≤ size → NamesExtent header extent
    → archive_length extent.shape extent.start extent.mark ≤ size → OnContent told (λ image. HasExtent image extent)
extent-is told size header extent front long names all =
    content-weaker told (λ image. IsFrontOf size 1536 header image) (λ image. HasExtent image extent) (λ image is.
    let there : NamesExtent image extent = front-names header image extent is.front names in
    record {
      long = omega (arith, is.size_is);
      head = there.head;
      number = there.number;
      newest = there.newest;
      all = omega (arith, is.size_is);
    }) front

-- the device didn't answer
pub device-extent : (told : Option Disk) (error : DevError) → IsExtentFault told (restore_fault error)
device-extent told device.Failed = tt
device-extent told device.NoMemory = tt
