-- Which faults are no device's.
use Rattle.std.proofs.Common.{◌≢◌, ℕ, List, Option, Some, None, refl, subst}
use Rattle.model_base.specs.declared.shape.Shape.{Shape}
use Rattle.model_device.specs.{Disk}
use Rattle.redo_disk.specs.declared.error.DevError.{DevError}
use Rattle.redo_disk.specs.declared.error.DevError.TheVariants as device
use Rattle.redo_recover.specs.Devices.{log_fault_of, HasLengthCause, data_error, log_error}
use Rattle.model_log.specs.declared.layout.Layout.{Layout}
use Rattle.redo_recover.specs.Groups.{IsParseFault, IsScanFault}
use Rattle.redo_recover.specs.Pages.{IsPageFault}
use Rattle.redo_recover.proofs.Only.{MayBeOwn}
use Rattle.redo_recover.specs.Start.{IsHeadFault, IsLengthFault}
use Rattle.redo_recover.specs.declared.fault.RecFault.{RecFault}
use Rattle.redo_recover.specs.declared.fault.RecFault.TheVariants.{SmallLog, NotFormatted, BadFormat, SmallData, BadRecord, PageLost, PageAhead, LogDev, DataDev, NoMemory}

abbrev pub AreBothOwn : RecFault → Type 0
AreBothOwn fault = MayBeOwn (log_error fault) × MayBeOwn (data_error fault)

-- a fault that is none of the data device, and none that it answers
pub own-apart : (fault : RecFault) → fault ≢ DataDev → MayBeOwn (data_error fault)
own-apart DataDev other = absurd (other refl)
own-apart _ other = tt

pub apart-own : (fault : RecFault) → MayBeOwn (data_error fault) → fault ≢ DataDev
apart-own fault own is = subst (λ (f : RecFault). MayBeOwn (data_error f)) is own

pub log-apart : (error : DevError) → log_fault_of error ≢ DataDev
log-apart device.Failed is = absurd cc
log-apart device.NoMemory is = absurd cc

pub head-own : (header : List ℕ) (fault : RecFault) → IsHeadFault header fault → AreBothOwn fault
head-own header NotFormatted is = (tt, tt)
head-own header (BadFormat n) is = (tt, tt)
head-own header _ none = absurd none

pub length-own : (shape : Shape) (log_size data_size : ℕ) (fault : RecFault) → IsLengthFault shape log_size data_size fault → AreBothOwn fault
length-own shape log_size data_size (SmallLog n) is = (tt, tt)
length-own shape log_size data_size (SmallData n) is = (tt, tt)
length-own shape log_size data_size _ none = absurd none

pub parse-own : (ckpt : ℕ) (shape : Shape) (bytes : List ℕ) (start : Option ℕ) (fault : RecFault) → IsParseFault ckpt shape bytes start fault → AreBothOwn fault
parse-own ckpt shape bytes None fault none = absurd none
parse-own ckpt shape bytes (Some start) (BadRecord lsn) is = (tt, tt)
parse-own ckpt shape bytes (Some start) NoMemory is = (tt, tt)
parse-own ckpt shape bytes (Some start) _ none = absurd none

-- A scan's fault is no data device's and names no length.
pub scan-apart : (shape : Shape) (layout : Layout) (ckpt : ℕ) (told : Option Disk) (fault : RecFault) → IsScanFault shape layout ckpt told fault → MayBeOwn (data_error fault)
scan-apart shape layout ckpt told (BadRecord lsn) is = tt
scan-apart shape layout ckpt told LogDev is = tt
scan-apart shape layout ckpt told NoMemory is = tt
scan-apart shape layout ckpt told _ none = absurd none

pub scan-lengths : (shape : Shape) (layout : Layout) (ckpt : ℕ) (told : Option Disk) (fault : RecFault) (log_size data_size : ℕ) → IsScanFault shape layout ckpt told fault
    → HasLengthCause log_size data_size fault
scan-lengths shape layout ckpt told (BadRecord lsn) log_size data_size is = tt
scan-lengths shape layout ckpt told LogDev log_size data_size is = tt
scan-lengths shape layout ckpt told NoMemory log_size data_size is = tt
scan-lengths shape layout ckpt told _ log_size data_size none = absurd none

-- A page's fault is no log device's and names no length.
pub page-apart : (shape : Shape) (end : ℕ) (told : Option Disk) (fault : RecFault) → IsPageFault shape end told fault → MayBeOwn (log_error fault)
page-apart shape end told (PageLost p) is = tt
page-apart shape end told (PageAhead p lsn) is = tt
page-apart shape end told DataDev is = tt
page-apart shape end told NoMemory is = tt
page-apart shape end told _ none = absurd none

pub page-lengths : (shape : Shape) (end : ℕ) (told : Option Disk) (fault : RecFault) (log_size data_size : ℕ) → IsPageFault shape end told fault
    → HasLengthCause log_size data_size fault
page-lengths shape end told (PageLost p) log_size data_size is = tt
page-lengths shape end told (PageAhead p lsn) log_size data_size is = tt
page-lengths shape end told DataDev log_size data_size is = tt
page-lengths shape end told NoMemory log_size data_size is = tt
page-lengths shape end told _ log_size data_size none = absurd none
