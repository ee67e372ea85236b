-- What is known of a command that was done, whatever its call was handed beside these devices.
use Rattle.std.specs.Prelude.{ℕ, ◌≡◌, ◌+◌, false, List, Some}
use Rattle.model_base.specs.declared.limits.TheConstants.{MAX_SCRIPT}
use Rattle.model_script.specs.declared.asked.Command.{Command}
use Rattle.model_script.specs.declared.asked.Command.TheVariants.{Restore, Run}
use Rattle.model_script.specs.declared.asked.Drive.{Drive}
use Rattle.redo_disk.specs.{Call, Seen}
use Rattle.redo_io.specs.{SourceSeen, TakesAtMost}
use Rattle.redo_io.specs.declared.read.TheConstants.{PIECE}
use Rattle.redo_lab.specs.Call.{calls_archive, IsWellCalled, LabCall, unfused, AreOf, Handed, call_on, handed_of}
use Rattle.redo_lab.specs.Cause.{EndsWith, OnlyReadsArchive, SparesArchive, WhereDone}
use Rattle.redo_lab.specs.declared.outcome.Done.{Done}

module _ {L D : Type 0} (log_seen : L → Seen) (log_gives : L → Call → L → Type 0) (data_seen : D → Seen)
    (data_gives : D → Call → D → Type 0) (log : L) (store : D) where
  -- A COMMAND THAT READS NO SOURCE ends so, and gives back the two devices.
  pub record IsUnreadEnd (command : Command) (done : Done L D) : Type 0 where
    pub ends : (handed : Handed) → handed.source_now ≡ handed.source
        → EndsWith (call_on log_seen log_gives data_seen data_gives handed log store done.log done.store) command
        done.outcome
    pub entered : AreOf log store done.log done.store

  -- A COMMAND ENDS SO, which takes no more of the source than a script may have. The archive's device is only read by
  -- `restore`, spared where a run is ended before its archive is begun, and left alone by each other command.
  module _ {A : Type 0} (seen : A → Seen) (gives : A → Call → A → Type 0) (source source_now : SourceSeen) where
    abbrev pub call_beside : A → A → Done L D → List (List ℕ) → LabCall
    call_beside arch arch_now done words = call_on log_seen log_gives data_seen data_gives
        (handed_of words (unfused seen arch arch_now) source source_now) log store done.log done.store

    pub record IsDoneBy (arch : A) (command : Command) (done : Done L D) (arch_now : A) : Type 0 where
      pub ends : (words : List (List ℕ)) → EndsWith (call_beside arch arch_now done words) command done.outcome
      pub restores : (words : List (List ℕ)) (to : ℕ) → command ≡ Restore to
          → OnlyReadsArchive (call_beside arch arch_now done words)
      pub spares : (drive : Drive) → command ≡ Run drive → SparesArchive (unfused seen arch arch_now) done.outcome
      pub untouched : calls_archive (Some command) ≡ false → arch_now ≡ arch
      pub well : WhereDone done.outcome (IsWellCalled gives arch arch_now)
      pub entered : AreOf log store done.log done.store
      pub taken : TakesAtMost (MAX_SCRIPT + PIECE) source.left source_now.left
