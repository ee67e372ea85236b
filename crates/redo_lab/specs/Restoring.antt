-- Why a call restores nothing.
use Rattle.model_report.specs.declared.fault.Fault.{Fault}
use Rattle.model_report.specs.declared.fault.Fault.TheVariants as fault
use Rattle.redo_archive.specs.declared.restored.RestoreFault.{RestoreFault}
use Rattle.redo_archive.specs.declared.restored.RestoreFault.TheVariants.{Missing, To, Page, Block, Record, Dev, NoMemory}
use Rattle.model_archive.specs.declared.refusal.RestoreRefusal.TheVariants as refusal

-- the fault of a call that restores nothing
abbrev pub unrestored : RestoreFault → Fault
unrestored Missing = fault.Archive refusal.Missing
unrestored (To lsn) = fault.Archive (refusal.To lsn)
unrestored (Page p) = fault.Archive (refusal.Page p)
unrestored (Block lsn) = fault.Archive (refusal.Block lsn)
unrestored (Record lsn) = fault.Archive (refusal.Record lsn)
unrestored Dev = fault.ArchiveDevice
unrestored NoMemory = fault.Memory
