-- Devices that still tell in the end: what they told before.
use Rattle.std.proofs.Common.{◌≡◌, ◌≢◌, ◌∙◌, ℕ, List, [], ◌∷◌, Option, Some, None, refl, sym, subst}
use Rattle.model_device.specs.{Disk}
use Rattle.model_store.specs.{IsReading, Reading}
use Rattle.redo_disk.specs.{Call, Makes, OnTold, StillTells, Seen}
use Rattle.redo_recover.specs.{OnContents}
use Rattle.redo_recover.specs.Devices.{OnContent}

-- it told the same
pub still-equal : (old new : Option Disk) → StillTells old new → new ≢ None → new ≡ old
still-equal old None still told = absurd (told refl)
still-equal old (Some disk) still told = sym still

pub same-back : (old new : Option Disk) → new ≡ old → new ≢ None → old ≢ None
same-back old new same told none = told (same ∙ none)

pub still-on : (old new : Option Disk) → StillTells old new → new ≢ None → old ≢ None
still-on old new still told = same-back old new (still-equal old new still told) told

pub told-back : (old new : Option Disk) (R : Disk → Disk → Type 0) → OnTold old new R → new ≢ None → old ≢ None
told-back None new R step told none = told step
told-back (Some disk) new R step told none = cc

-- a device that tells after calls told before them, where that is so of each call
pub made-back : {D : Type 0} (seen : D → Seen) (gives : D → Call → D → Type 0)
    → ((old new : D) (call : Call) → gives old call new → (seen new).tells ≢ None → (seen old).tells ≢ None)
    → (old new : D) (calls : List Call) → Makes gives old calls new → (seen new).tells ≢ None → (seen old).tells ≢ None
made-back {D} seen gives law old new [] made told = subst (λ (device : D). (seen device).tells ≢ None) made told
made-back seen gives law old new (call ∷ calls) made told =
    law old made.0 call made.1.given (made-back seen gives law made.0 new calls made.2 told)

pub content-same : (P : List ℕ → Type 0) (old new : Option Disk) → new ≡ old → OnContent new P → OnContent old P
content-same P old new same known = subst (λ (told : Option Disk). OnContent told P) same known

pub contents-same : (P : List ℕ → List ℕ → Type 0) (log log_new data_told data_new : Option Disk) → log_new ≡ log → data_new ≡ data_told
    → OnContents log_new data_new P → OnContents log data_told P
contents-same P log log_new data_told data_new log_same data_same known =
    subst (λ (told : Option Disk). OnContents log told P) data_same (subst (λ (told : Option Disk). OnContents told data_new P) log_same known)

-- what was read is what the devices told at first, which were only read since
pub contents-back : (P : List ℕ → List ℕ → Type 0) (log log_read log_now data_told data_now : Option Disk)
    → StillTells log log_read
    → StillTells log_read log_now → StillTells data_told data_now → log_now ≢ None → data_now ≢ None
    → OnContents log_read data_now P → OnContents log data_told P
contents-back P log log_read log_now data_told data_now log_first log_then data_first log_on data_on =
    contents-same P log log_read data_told data_now
    (still-equal log log_read log_first (still-on log_read log_now log_then log_on))
    (still-equal data_told data_now data_first data_on)

pub reading-back : (reading : Reading) (log log_read log_now data_told data_now : Option Disk) → StillTells log log_read
    → StillTells log_read log_now → StillTells data_told data_now → log_now ≢ None → data_now ≢ None
    → OnContents log_read data_now (λ log_bytes data_bytes. IsReading log_bytes data_bytes reading)
    → OnContents log data_told (λ log_bytes data_bytes. IsReading log_bytes data_bytes reading)
reading-back reading = contents-back (λ log_bytes data_bytes. IsReading log_bytes data_bytes reading)
