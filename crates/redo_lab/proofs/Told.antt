-- What is so of devices that tell what they mean.
use Rattle.std.proofs.Common.{ℕ, ◌≡◌, List, Option, Some, None, IfSome, subst, ◌≢◌, refl, sym, ◌∙◌}
use Rattle.model_device.specs.{Disk}
use Rattle.redo_disk.specs.{StillTells, WhereTold}
use Rattle.redo_open.specs.{WhereBothTell}
use Rattle.redo_recover.specs.{OnContents}

-- what is read of told devices, by cases
pub on-contents : (log data_told : Option Disk) (P : List ℕ → List ℕ → Type 0) → OnContents log data_told P
    → (log_disk data_disk : Disk) → log ≡ Some log_disk → data_told ≡ Some data_disk → P log_disk.reads data_disk.reads
on-contents None data_told P holds log_disk data_disk log_is data_is = cc
on-contents (Some log) None P holds log_disk data_disk log_is data_is = cc
on-contents (Some log) (Some data_told) P holds log_disk data_disk log_is data_is =
    let same_log : log ≡ log_disk = cc in
    let same_data : data_told ≡ data_disk = cc in
    subst (λ (d : Disk). P log_disk.reads d.reads) same_data (subst (λ (d : Disk). P d.reads data_told.reads) same_log holds)

-- what is so of two that tell
pub both-told : (log data_told : Option Disk) (R : Disk → Disk → Type 0) → IfSome log (λ log_disk. IfSome data_told (λ data_disk. R log_disk data_disk))
    → (log_disk data_disk : Disk) → log ≡ Some log_disk → data_told ≡ Some data_disk → R log_disk data_disk
both-told None data_told R holds log_disk data_disk log_is data_is = cc
both-told (Some log) None R holds log_disk data_disk log_is data_is = cc
both-told (Some log) (Some data_told) R holds log_disk data_disk log_is data_is =
    let same_log : log ≡ log_disk = cc in
    let same_data : data_told ≡ data_disk = cc in
    subst (λ (d : Disk). R log_disk d) same_data (subst (λ (d : Disk). R d data_told) same_log holds)

-- and told in a weaker way
pub weaker-both : {P Q : Disk → Disk → Type 0} (log data_told : Option Disk) → ((log data_disk : Disk) → P log data_disk → Q log data_disk)
    → WhereBothTell log data_told P → WhereBothTell log data_told Q
weaker-both None data_told weaker holds = tt
weaker-both (Some log) None weaker holds = tt
weaker-both (Some log) (Some data_told) weaker holds = weaker log data_told holds

-- what is so where one tells
pub one-told : (log data_told : Option Disk) (R : Disk → Type 0) → IfSome log R → WhereBothTell log data_told (λ log_disk data_disk. R log_disk)
one-told None data_told R holds = tt
one-told (Some log) None R holds = tt
one-told (Some log) (Some data_told) R holds = holds

-- DEVICES THAT STILL TELL.

pub some-told : (o : Option Disk) → o ≢ None → (disk : Disk) × (o ≡ Some disk)
some-told None tells = absurd (tells refl)
some-told (Some disk) tells = (disk, refl)

pub some-tells : (o : Option Disk) (disk : Disk) → o ≡ Some disk → o ≢ None
some-tells o disk is none = cc

pub still-equal : (old new : Option Disk) → StillTells old new → new ≢ None → new ≡ old
still-equal old None still told = absurd (told refl)
still-equal old (Some disk) still told = sym still

pub still-back : (old new : Option Disk) → StillTells old new → new ≢ None → old ≢ None
still-back old None still told none = told refl
still-back old (Some disk) still told none = cc

pub where-back : (old new : Option Disk) (R : Disk → Disk → Type 0) → WhereTold old new R → new ≢ None → old ≢ None
where-back old None R told tells none = tells refl
where-back old (Some disk) R told tells none = let e = told.1 in cc

pub where-after : (old mid new : Option Disk) (R : Disk → Disk → Type 0) → WhereTold old mid R → StillTells mid new → WhereTold old new R
where-after old mid None R told still = tt
where-after old mid (Some disk) R told still = subst (λ (o : Option Disk). WhereTold old o R) still told

pub moved : {old new : Option Disk} → new ≡ old → old ≢ None → new ≢ None
moved same on none = on (sym same ∙ none)

pub still-at : (old new : Option Disk) (disk : Disk) → StillTells old new → new ≡ Some disk → old ≡ Some disk
still-at old None disk still is = cc
still-at old (Some now) disk still is = still ∙ is

keeps-by : (log data_told : Option Disk) (R : Disk → Disk → Type 0) → (log ≢ None → data_told ≢ None → WhereBothTell log data_told R) → WhereBothTell log data_told R
keeps-by None data_told R holds = tt
keeps-by (Some l) None R holds = tt
keeps-by (Some l) (Some d) R holds = holds (some-tells (Some l) l refl) (some-tells (Some d) d refl)

if-by : (o : Option Disk) (Q : Disk → Type 0) → (o ≢ None → IfSome o Q) → IfSome o Q
if-by None Q holds = tt
if-by (Some disk) Q holds = holds (some-tells (Some disk) disk refl)

-- what is said where two devices still tell, of those that told before
pub still-keeps : (log data_told log_now data_now : Option Disk) (Q R : Disk → Disk → Type 0)
    → (log_now ≢ None → data_now ≢ None → WhereBothTell log data_told (λ l d. Q l d → WhereBothTell log_now data_now R))
    → WhereBothTell log data_told (λ l d. Q l d → WhereBothTell log_now data_now R)
still-keeps None data_told log_now data_now Q R holds = tt
still-keeps (Some l) None log_now data_now Q R holds = tt
still-keeps (Some l) (Some d) log_now data_now Q R holds = λ is. keeps-by log_now data_now R (λ log_on data_on. holds log_on data_on is)

pub still-moves : (log data_told log_now data_now : Option Disk) (Q : Disk → Disk → Type 0) (N : Type 0) (R : Disk → Type 0)
    → (log_now ≢ None → data_now ≢ None → WhereBothTell log data_told (λ l d. Q l d → N → IfSome log_now R))
    → WhereBothTell log data_told (λ l d. Q l d → N → data_now ≢ None → IfSome log_now R)
still-moves None data_told log_now data_now Q N R holds = tt
still-moves (Some l) None log_now data_now Q N R holds = tt
still-moves (Some l) (Some d) log_now data_now Q N R holds = λ is so data_on. if-by log_now R (λ log_on. holds log_on data_on is so)
