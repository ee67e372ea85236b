-- The statuses and the fault lines. Status 0 has no fault.
use Rattle.std.specs.Prelude.{ℕ, List, [], ◌∷◌, codes}
use Rattle.std.specs.Fmt.{decimal}
use Rattle.model_archive.specs.declared.refusal.RestoreRefusal.{RestoreRefusal}
use Rattle.model_archive.specs.declared.refusal.RestoreRefusal.TheVariants.{Missing, To, Page, Block, Record}
use Rattle.model_store.specs.declared.refusal.Refusal.{Refusal}
use Rattle.model_store.specs.declared.refusal.Refusal.TheVariants.{SmallLog, NotFormatted, BadFormat, SmallData, NoCheckpoint, BadRecord, PageLost, PageAhead}
use Rattle.model_script.specs.declared.misfit.Quantity.{Quantity}
use Rattle.model_script.specs.declared.misfit.Quantity.TheVariants as quantity
use Rattle.model_report.specs.Listing.{line_text}
use Rattle.model_report.specs.declared.fault.Fault.{Fault}
use Rattle.model_report.specs.declared.fault.Fault.TheVariants as fault

-- a store that is refused has status 8; a device that is too short is a quantity that doesn't fit, with status 10
abbrev pub refusal_status : Refusal → ℕ
refusal_status (SmallLog n) = 10
refusal_status (SmallData n) = 10
refusal_status refusal = 8

-- an archive from which nothing is restored has status 12; an lsn that it doesn't reach is a quantity that doesn't fit
abbrev pub restore_status : RestoreRefusal → ℕ
restore_status (To lsn) = 10
restore_status refusal = 12

abbrev pub status_of : Fault → ℕ
status_of fault.Memory = 1
status_of fault.Words = 2
status_of (fault.Script n) = 3
status_of fault.Source = 4
status_of fault.Sink = 5
status_of fault.LogDevice = 6
status_of fault.DataDevice = 7
status_of fault.ArchiveDevice = 11
status_of (fault.Store refusal) = refusal_status refusal
status_of (fault.Archive refusal) = restore_status refusal
status_of (fault.Turns n user) = 9
status_of (fault.Fit misfit) = 10

abbrev pub quantity_word : Quantity → List ℕ
quantity_word quantity.Script = codes "script"
quantity_word quantity.Log = codes "log"
quantity_word quantity.Store = codes "store"
quantity_word quantity.User = codes "user"
quantity_word quantity.Page = codes "page"
quantity_word quantity.Offset = codes "offset"
quantity_word quantity.Group = codes "group"
quantity_word quantity.Lsn = codes "lsn"
quantity_word quantity.Total = codes "total"
quantity_word quantity.Archive = codes "archive"
quantity_word quantity.To = codes "to"

-- the words for a quantity that doesn't fit, after `fault`
abbrev pub misfit_words : Quantity → ℕ → List (List ℕ)
misfit_words what n = codes "fit" ∷ quantity_word what ∷ decimal n ∷ []

-- the words of a refusal's line after `fault`
abbrev pub refusal_words : Refusal → List (List ℕ)
refusal_words (SmallLog n) = misfit_words quantity.Log n
refusal_words NotFormatted = codes "store" ∷ codes "unformatted" ∷ []
refusal_words (BadFormat n) = codes "store" ∷ codes "format" ∷ decimal n ∷ []
refusal_words (SmallData n) = misfit_words quantity.Store n
refusal_words NoCheckpoint = codes "store" ∷ codes "checkpoint" ∷ []
refusal_words (BadRecord lsn) = codes "store" ∷ codes "record" ∷ decimal lsn ∷ []
refusal_words (PageLost p) = codes "store" ∷ codes "lost" ∷ decimal p ∷ []
refusal_words (PageAhead p lsn) = codes "store" ∷ codes "ahead" ∷ decimal p ∷ decimal lsn ∷ []

abbrev pub restore_words : RestoreRefusal → List (List ℕ)
restore_words Missing = codes "archive" ∷ codes "none" ∷ []
restore_words (To lsn) = misfit_words quantity.To lsn
restore_words (Page p) = codes "archive" ∷ codes "page" ∷ decimal p ∷ []
restore_words (Block lsn) = codes "archive" ∷ codes "block" ∷ decimal lsn ∷ []
restore_words (Record lsn) = codes "archive" ∷ codes "record" ∷ decimal lsn ∷ []

-- the words of a fault's line after `fault`
abbrev pub fault_words : Fault → List (List ℕ)
fault_words fault.Memory = codes "memory" ∷ []
fault_words fault.Words = codes "words" ∷ []
fault_words (fault.Script n) = codes "script" ∷ codes "line" ∷ decimal n ∷ []
fault_words fault.Source = codes "source" ∷ []
fault_words fault.Sink = []
fault_words fault.LogDevice = codes "log" ∷ codes "device" ∷ []
fault_words fault.DataDevice = codes "data" ∷ codes "device" ∷ []
fault_words fault.ArchiveDevice = codes "archive" ∷ codes "device" ∷ []
fault_words (fault.Store refusal) = refusal_words refusal
fault_words (fault.Archive refusal) = restore_words refusal
fault_words (fault.Turns n user) = codes "turns" ∷ decimal n ∷ codes "user" ∷ decimal user ∷ []
fault_words (fault.Fit misfit) = misfit_words misfit.quantity misfit.number

-- the line that is printed for a fault; a sink that failed gets none
unfoldable pub fault_line : Fault → List ℕ
fault_line fault.Sink = []
fault_line cause = line_text (codes "fault" ∷ fault_words cause)
