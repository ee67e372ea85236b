-- The devices behind the fuses are those that were handed in.
use Rattle.std.proofs.Common.{◌≡◌, List, Result, Ok, Err, refl, ap, ◌∙◌, ⊎_elim}
use Rattle.model_script.specs.declared.script.ScriptLine.{ScriptLine}
use Rattle.redo_disk.specs.{Call, MakesCalls, Seen}
use Rattle.redo_memdisk.specs.{CallsThrough, entry_of}
use Rattle.redo_memdisk.specs.declared.fused.Fused.{Fused}
use Rattle.redo_open.specs.{FormatCalls}
use Rattle.redo_store.specs.declared.opened.Opened.{Opened}
use Rattle.redo_recover.specs.declared.fault.RecFault.{RecFault}
use Rattle.redo_recover.specs.declared.fault.RecFault.TheVariants.{LogDev, DataDev, NoMemory}
use Rattle.redo_drive.specs.declared.drive.Driven.{Driven}
use Rattle.redo_lab.proofs.Behind.{calls-same}
use Rattle.redo_lab.proofs.Owed.{IsOwed}
use Rattle.redo_lab.specs.declared.playing.Ran.{Ran}
use Rattle.redo_lab.specs.Call.{AreOf}
use Rattle.redo_lab.specs.Runs.{AreEntered}

pub calls-entry : {D : Type 0} {seen : D → Seen} {gives : D → Call → D → Type 0} {old new : Fused D} {Are : List Call → Type 0}
    → MakesCalls (CallsThrough seen gives) old new Are → entry_of new ≡ entry_of old
calls-entry made = (calls-same made).entry

same-entry : {D : Type 0} {old new : Fused D} → new ≡ old → entry_of new ≡ entry_of old
same-entry same = ap entry_of same

pub both-entries : {L D : Type 0} {log_seen : L → Seen} {log_gives : L → Call → L → Type 0} {data_seen : D → Seen} {data_gives : D → Call → D → Type 0}
    {log_old log_new : Fused L} {data_old data_new : Fused D} {AreLog AreData : List Call → Type 0}
    → MakesCalls (CallsThrough log_seen log_gives) log_old log_new AreLog → MakesCalls (CallsThrough data_seen data_gives) data_old data_new AreData
    → AreOf (entry_of log_old) (entry_of data_old) log_new data_new
both-entries log_made data_made = record { log_device = calls-entry log_made; data_device = calls-entry data_made }

pub both-same : {L D : Type 0} {log_old log_new : Fused L} {data_old data_new : Fused D} → log_new ≡ log_old → data_new ≡ data_old
    → AreOf (entry_of log_old) (entry_of data_old) log_new data_new
both-same log_same data_same = record { log_device = same-entry log_same; data_device = same-entry data_same }

-- one after the other
pub entries-then : {L D : Type 0} {log : L} {store : D} {log_old log_new : Fused L} {data_old data_new : Fused D}
    → AreOf log store log_old data_old → AreOf (entry_of log_old) (entry_of data_old) log_new data_new → AreOf log store log_new data_new
entries-then first then = record { log_device = then.log_device ∙ first.log_device; data_device = then.data_device ∙ first.data_device }

-- formatting
pub format-entries : {L D : Type 0} (log_seen : L → Seen) (log_gives : L → Call → L → Type 0) (data_seen : D → Seen) (data_gives : D → Call → D → Type 0)
    (log_old log_new : Fused L) (data_old data_new : Fused D) (r : Result (Unit {0}) RecFault)
    → FormatCalls (CallsThrough log_seen log_gives) (CallsThrough data_seen data_gives) log_old log_new data_old data_new r
    → AreOf (entry_of log_old) (entry_of data_old) log_new data_new
format-entries log_seen log_gives data_seen data_gives log_old log_new data_old data_new (Ok done) both = both-entries both.log both.data_device
format-entries log_seen log_gives data_seen data_gives log_old log_new data_old data_new (Err LogDev) both = both-entries both.log both.data_device
format-entries log_seen log_gives data_seen data_gives log_old log_new data_old data_new (Err DataDev) both = both-entries both.log both.data_device
format-entries log_seen log_gives data_seen data_gives log_old log_new data_old data_new (Err NoMemory) either = ⊎_elim (λ both. both-entries both.log both.data_device) (λ both. both-entries both.log both.data_device) either
format-entries log_seen log_gives data_seen data_gives log_old log_new data_old data_new (Err f) same = both-same same.0 same.1

-- the lines of a script
pub owed-entries : {L D : Type 0} {see_log : Fused L → Seen} {see_data : Fused D → Seen} {log_seen : L → Seen} {log_gives : L → Call → L → Type 0}
    {data_seen : D → Seen} {data_gives : D → Call → D → Type 0}
    {opened : Opened (Fused L) (Fused D)} {script : List ScriptLine} {driven : Driven (Fused L) (Fused D)}
    → IsOwed see_log (CallsThrough log_seen log_gives) see_data (CallsThrough data_seen data_gives) opened script driven
    → AreOf (entry_of opened.log.dev) (entry_of opened.store.dev) driven.closed.log.dev driven.closed.store.dev
owed-entries owes = record { log_device = calls-entry (owes.log_calls.live refl); data_device = calls-entry (owes.data_calls.live refl) }

-- and devices that were handed in before
pub entered-then : {L D : Type 0} {log : L} {store : D} (log_old : Fused L) (data_old : Fused D) (r : Result (Opened (Fused L) (Fused D)) (Ran L D))
    → AreOf log store log_old data_old → AreEntered (entry_of log_old) (entry_of data_old) r → AreEntered log store r
entered-then log_old data_old (Ok opened) first then = entries-then first then
entered-then log_old data_old (Err ran) first then = entries-then first then
