-- What is read of the matches. A value is a text to `clap`, and its number is read after: a number parser of `clap` takes
-- `+5`.
use Rattle.std.specs.Prelude.{ℕ, ◌^◌, ◌-◌, if◌then◌else◌, Bool, false, List, codes, Option, Some, None, option_map, option_and_then}
use Rattle.std.specs.Str.{bytes_eq}
use Rattle.clap.specs.Words.{Row, Text, fault_of, first_of, subcommand_of}
use Rattle.clap.specs.Walk.{is_empty}
use Rattle.model_base.specs.declared.limits.TheConstants.{DEFAULT_LOG_BLOCKS, DEFAULT_PAGES, DEFAULT_SPACE, MAX_LOG_BLOCKS, MAX_PAGES, MIN_LOG_BLOCKS, PAGE_SIZE}
use Rattle.model_script.specs.declared.misfit.TheConstants.{MAX_USERS}
use Rattle.model_script.specs.{allowed_page_size, number_within, word_number}
use Rattle.model_script.specs.declared.asked.Asked.{Asked}
use Rattle.model_script.specs.declared.asked.Command.{Command}
use Rattle.model_script.specs.declared.asked.Command.TheVariants.{Format, Run, Crash, Recover, Dump, Restore, Gen}
use Rattle.model_script.specs.declared.asked.Drive.{Drive}
use Rattle.model_script.specs.declared.words.TheConstants.{DEFAULT_TURNS, MAX_FOLLOWERS, MAX_GENERATED, MAX_TURNS, MAX_WORKERS}
use Rattle.model_words.specs.App.{redolab_app}

-- a flag's text is `true` where it was given
abbrev pub is_true : Option Text → Bool
is_true None = false
is_true (Some text) = bytes_eq text (codes "true")

-- the number of a text within its limits, or what stands for it where there is no text
abbrev pub text_number_or : ℕ → ℕ → ℕ → Option Text → Option ℕ
text_number_or least greatest default None = Some default
text_number_or least greatest default (Some text) = option_and_then (number_within least greatest) (word_number text)

-- the number of a text, if a page may have so many bytes, or 4,096 where there is no text
abbrev pub text_page_size : Option Text → Option ℕ
text_page_size None = Some PAGE_SIZE
text_page_size (Some text) = option_and_then allowed_page_size (word_number text)

-- the number of a text within its limits; there has to be one
abbrev pub text_number_within : ℕ → ℕ → Option Text → Option ℕ
text_number_within least greatest text = option_and_then (λ text. option_and_then (number_within least greatest) (word_number text)) text

-- the number of a text, if there is one
abbrev pub text_number : Option Text → Option (Option ℕ)
text_number None = Some None
text_number (Some text) = option_map Some (word_number text)

-- a command's parts, each from the texts of its options
abbrev pub followers_from : List Row → Option ℕ
followers_from rows = text_number_or 1 MAX_FOLLOWERS 0 (first_of (codes "followers") rows)

abbrev pub drive_from : Bool → List Row → Option Drive
drive_from archive rows =
    option_and_then (λ seed. option_and_then (λ max. option_map (λ followers. record {
      seed = seed;
      max = max;
      threads = is_true (first_of (codes "threads") rows);
      log_only = is_true (first_of (codes "log-only") rows);
      own_writes = is_true (first_of (codes "own-writes") rows);
      followers = followers;
      archive = archive;
    }) (followers_from rows))
    (text_number_or 0 MAX_TURNS DEFAULT_TURNS (first_of (codes "max") rows)))
    (text_number_or 0 (2 ^ 64 - 1) 0 (first_of (codes "turns") rows))

abbrev pub run_from : List Row → Option Command
run_from rows = option_map Run (drive_from (is_true (first_of (codes "archive") rows)) rows)

abbrev pub format_from : List Row → Option Command
format_from rows =
    option_and_then (λ page_size. option_and_then (λ pages. option_and_then (λ space.
    option_map (λ log_blocks. Format page_size pages space log_blocks)
    (text_number_or MIN_LOG_BLOCKS MAX_LOG_BLOCKS DEFAULT_LOG_BLOCKS (first_of (codes "log-blocks") rows)))
    (text_number_or 0 (2 ^ 32 - 1) DEFAULT_SPACE (first_of (codes "space") rows)))
    (text_number_or 1 MAX_PAGES DEFAULT_PAGES (first_of (codes "pages") rows)))
    (text_page_size (first_of (codes "page-size") rows))

abbrev pub workers_from : List Row → Option ℕ
workers_from rows = text_number_or 1 MAX_WORKERS 1 (first_of (codes "workers") rows)

abbrev pub crash_from : List Row → Option Command
crash_from rows =
    option_and_then (λ drive. option_and_then (λ stop_log. option_and_then (λ stop_data. option_and_then (λ pick. option_map (λ workers. Crash drive stop_log stop_data pick workers)
    (workers_from rows))
    (text_number_or 0 (2 ^ 64 - 1) 0 (first_of (codes "pick") rows)))
    (text_number (first_of (codes "stop-data") rows)))
    (text_number (first_of (codes "stop-log") rows)))
    (drive_from false rows)

abbrev pub restore_from : List Row → Option Command
restore_from rows = option_map Restore (text_number_within 0 (2 ^ 64 - 1) (first_of (codes "to") rows))

abbrev pub gen_from : List Row → Option Command
gen_from rows =
    option_and_then (λ seed. option_and_then (λ users. option_and_then (λ groups. option_map (λ max. Gen seed users groups (is_true (first_of (codes "run") rows)) max)
    (text_number_or 0 MAX_TURNS DEFAULT_TURNS (first_of (codes "max") rows)))
    (text_number_within 0 MAX_GENERATED (first_of (codes "groups") rows)))
    (text_number_within 1 MAX_USERS (first_of (codes "users") rows)))
    (text_number_within 0 (2 ^ 64 - 1) (first_of (codes "seed") rows))

-- the command of this name with these matches
abbrev pub command_from : Text → List Row → Option Command
command_from name rows =
    if bytes_eq name (codes "format") then format_from rows
    else (if bytes_eq name (codes "run") then run_from rows
    else (if bytes_eq name (codes "crash") then crash_from rows
    else (if bytes_eq name (codes "recover") then option_map Recover (workers_from rows)
    else (if bytes_eq name (codes "dump") then Some (Dump (is_true (first_of (codes "why") rows)))
    else (if bytes_eq name (codes "restore") then restore_from rows
    else (if bytes_eq name (codes "gen") then gen_from rows else None))))))

abbrev pub asked_with : Text → List Row → Option Asked
asked_with name rows = option_map (λ command. record { command = command; files = is_true (first_of (codes "files") rows) }) (command_from name rows)

abbrev pub asked_from : Option (Text × List Row) → Option Asked
asked_from found = option_and_then (λ p. asked_with p.0 p.1) found

-- what the words ask for, as `clap` walks over them
abbrev pub walked_asked : List Text → Option Asked
walked_asked words = if is_empty (fault_of redolab_app words) then asked_from (subcommand_of redolab_app words) else None
