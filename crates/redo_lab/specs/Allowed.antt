-- What is asked of a command that was read, and why its script couldn't be.
use Rattle.std.specs.Prelude.{◌≤◌, false, ◌≡◌, ⊤}
use Rattle.model_base.specs.declared.limits.TheConstants.{MAX_LOG_BLOCKS, MAX_PAGES, MIN_LOG_BLOCKS}
use Rattle.model_script.specs.declared.asked.Command.{Command}
use Rattle.model_script.specs.declared.asked.Command.TheVariants.{Format, Run, Crash, Recover, Gen}
use Rattle.model_script.specs.declared.words.TheConstants.{MAX_FOLLOWERS, MAX_WORKERS}
use Rattle.model_script.specs.declared.misfit.TheConstants.{MAX_USERS}
use Rattle.model_base.specs.{HasRisen, IsPageSize}
use Rattle.model_report.specs.declared.fault.Fault.{Fault}
use Rattle.model_report.specs.declared.fault.Fault.TheVariants.{Memory, Source, Fit}
use Rattle.model_report.specs.declared.fault.Fault.TheVariants as fault
use Rattle.redo_io.specs.{SourceSeen}
use Rattle.redo_lab.specs.Call.{IsBadLine, IsLongScript}

-- the numbers of the command are within its limits, and it archives nothing but the run of a script
abbrev pub HasAllowedNumbers : Command → Type 0
HasAllowedNumbers (Format page_size pages space log_blocks) =
    IsPageSize page_size × (1 ≤ pages) × (pages ≤ MAX_PAGES) × (MIN_LOG_BLOCKS ≤ log_blocks)
    × (log_blocks ≤ MAX_LOG_BLOCKS)
HasAllowedNumbers (Run drive) = drive.followers ≤ MAX_FOLLOWERS
HasAllowedNumbers (Crash drive stop_log stop_data pick workers) =
    (drive.followers ≤ MAX_FOLLOWERS) × (drive.archive ≡ false) × (1 ≤ workers) × (workers ≤ MAX_WORKERS)
HasAllowedNumbers (Recover workers) = (1 ≤ workers) × (workers ≤ MAX_WORKERS)
HasAllowedNumbers (Gen seed users groups run max) = (1 ≤ users) × (users ≤ MAX_USERS)
HasAllowedNumbers command = Unit {0}

-- why no script was read
abbrev pub IsScriptFault : SourceSeen → SourceSeen → Fault → Type 0
IsScriptFault source source_now Memory = ⊤
IsScriptFault source source_now Source = HasRisen source.faults source_now.faults
IsScriptFault source source_now (fault.Script n) = IsBadLine source source_now n
IsScriptFault source source_now (Fit misfit) = IsLongScript source misfit
IsScriptFault source source_now _ = ⊥
