-- Why pages that are kept aren't read.
use Rattle.std.proofs.Common.{ℕ, List, Option}
use Rattle.model_base.specs.declared.shape.Shape.{Shape}
use Rattle.model_device.specs.{Disk}
use Rattle.model_page.specs.declared.content.Content.{Content}
use Rattle.redo_disk.specs.declared.error.DevError.{DevError}
use Rattle.redo_disk.specs.declared.error.DevError.TheVariants as device
use Rattle.redo_recover.specs.Devices.{OnContent, data_fault_of}
use Rattle.redo_recover.specs.Pages.{AreKept, IsAheadFault, IsFirstLostFault, IsPageFault}
use Rattle.redo_recover.proofs.Contents.{content-weaker}
use Rattle.redo_recover.proofs.Owning.{AreBothOwn}
use Rattle.redo_recover.specs.declared.fault.RecFault.{RecFault}
use Rattle.redo_recover.specs.declared.fault.RecFault.TheVariants as fault
use Rattle.redo_recover.proofs.Paging.{IsFirstKeptAhead, ahead-refused}

-- WHICH CAUSE A FAULT HAS

pub device-fault : (shape : Shape) (end : ℕ) (told : Option Disk) (error : DevError) → IsPageFault shape end told (data_fault_of error)
device-fault shape end told device.Failed = tt
device-fault shape end told device.NoMemory = tt

pub lost-fault : (shape : Shape) (end : ℕ) (told : Option Disk) (found : RecFault) → IsFirstLostFault shape told found → IsPageFault shape end told found
lost-fault shape end told (fault.PageLost p) lost = lost
lost-fault shape end told fault.DataDev is = tt
lost-fault shape end told fault.NoMemory is = tt
lost-fault shape end told _ none = absurd none

pub ahead-fault : (shape : Shape) (end : ℕ) (pages : List Content) (told : Option Disk) (found : RecFault) → OnContent told (λ content. AreKept shape content pages)
    → IsAheadFault pages end found → IsPageFault shape end told found
ahead-fault shape end pages told (fault.PageAhead p lsn) kept is =
    content-weaker told (λ content. AreKept shape content pages) (IsFirstKeptAhead shape end p lsn)
    (λ content are. ahead-refused shape content pages end p lsn are is) kept
ahead-fault shape end pages told _ kept none = absurd none

-- it is no device's
pub ahead-own : (pages : List Content) (end : ℕ) (found : RecFault) → IsAheadFault pages end found → AreBothOwn found
ahead-own pages end (fault.PageAhead p lsn) is = (tt, tt)
ahead-own pages end _ none = absurd none
