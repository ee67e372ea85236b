-- What a command leaves alone that archives no run.
use Rattle.std.proofs.Common.{ℕ, ◌≡◌, true, false, if◌then◌else◌, Bool, Option, Some, None, refl, sym, ap}
use Rattle.model_report.specs.declared.fault.Fault.TheVariants as fault
use Rattle.model_script.specs.declared.asked.Command.{Command}
use Rattle.model_script.specs.declared.asked.Command.TheVariants.{Restore}
use Rattle.model_script.specs.declared.asked.Drive.{Drive}
use Rattle.redo_disk.proofs.Made.{none_ends}
use Rattle.redo_disk.specs.{Call, Seen}
use Rattle.redo_io.specs.{SourceSeen}
use Rattle.redo_lab.proofs.Alone.{all-left}
use Rattle.redo_lab.specs.Cause.{SparesArchive, WhereDone, archive_size}
use Rattle.redo_lab.specs.declared.crash_command.Crashing.{Crashing}
use Rattle.redo_lab.specs.declared.outcome.Done.{Done}
use Rattle.redo_lab.specs.declared.outcome.Outcome.{Outcome}
use Rattle.redo_lab.specs.declared.outcome.Outcome.TheVariants as outcome
use Rattle.redo_lab.specs.Allowed.{HasAllowedNumbers}
use Rattle.redo_lab.specs.Call.{calls_archive, IsWellCalled, Unfused, unfused}
use Rattle.redo_lab.specs.Done.{IsDoneBy, IsUnreadEnd}
use Rattle.redo_lab.specs.Runs.{command_with}

-- its script isn't judged by the archive's device
pub no-archive : (archive : Unfused) (drive : Drive) → drive.archive ≡ false → None ≡ archive_size archive drive
no-archive archive drive is = sym (ap (λ (archived : Bool). if archived then Some archive.entry.size else None) is)

-- a run of a script, and its crash, restore nothing
pub never-restores : (drive : Drive) (crash : Option Crashing) (to : ℕ) → command_with drive crash ≡ Restore to → ⊥
never-restores drive None to is = cc
never-restores drive (Some crash) to is = cc

-- an archive's device that is as it was is spared
pub spares-untouched : (archive : Unfused) (o : Outcome) → archive.now ≡ archive.entry → SparesArchive archive o
spares-untouched archive (outcome.Text text) same = tt
spares-untouched archive (outcome.Report text f) same = tt
spares-untouched archive (outcome.Fault fault.Memory) same = tt
spares-untouched archive (outcome.Fault fault.ArchiveDevice) same = tt
spares-untouched archive (outcome.Fault (fault.Turns turns user)) same = tt
spares-untouched archive (outcome.Fault f) same = same

-- one that calls no archive's device archives nothing
pub uncalled-alone : (drive : Drive) (crash : Option Crashing) → HasAllowedNumbers (command_with drive crash)
    → calls_archive (Some (command_with drive crash)) ≡ false → drive.archive ≡ false
uncalled-alone drive None within uncalled = uncalled
uncalled-alone drive (Some crash) within uncalled = within.1

-- a device is spared by what is so of a run that is archived, and where it is as it was
pub spares-either : (archived : Bool) (archive : Unfused) (o : Outcome) → (archived ≡ true → SparesArchive archive o)
    → (archived ≡ false → archive.now ≡ archive.entry) → SparesArchive archive o
spares-either true archive o archived alone = archived refl
spares-either false archive o archived alone = spares-untouched archive o (alone refl)

-- and no call of it answered an error
pub well-untouched : {A : Type 0} (gives : A → Call → A → Type 0) (device : A) (o : Outcome)
    → WhereDone o (IsWellCalled gives device device)
well-untouched gives device (outcome.Text text) = none_ends gives device
well-untouched gives device (outcome.Report text cut) = tt
well-untouched gives device (outcome.Fault cut) = tt

-- A COMMAND THAT READS NO SOURCE and calls no archive's device
pub left-done : {L D A : Type 0} {log_seen : L → Seen} {log_gives : L → Call → L → Type 0} {data_seen : D → Seen}
    {data_gives : D → Call → D → Type 0} {log : L} {store : D} (seen : A → Seen) (gives : A → Call → A → Type 0)
    (source : SourceSeen) (arch : A) (command : Command) (done : Done L D) → ((to : ℕ) → command ≡ Restore to → ⊥)
    → IsUnreadEnd log_seen log_gives data_seen data_gives log store command done
    → IsDoneBy log_seen log_gives data_seen data_gives log store seen gives source source arch command done arch
left-done seen gives source arch command done never end = record {
  ends = λ words. end.ends _ refl;
  restores = λ words to is. absurd (never to is);
  spares = λ drive is. spares-untouched (unfused seen arch arch) done.outcome refl;
  untouched = λ calls. refl;
  well = well-untouched gives arch done.outcome;
  entered = end.entered;
  taken = all-left source.left;
}
