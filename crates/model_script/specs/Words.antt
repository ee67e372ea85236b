-- The words after a command's name: options, each with its number where it takes one, and numbers by themselves, in
-- any order. The number of an option is the next word, or stands after `=` in the same one. After the word `--` stand
-- numbers alone.
-- The seven commands. After a command's name stand its options, in any order and each at most once, and for `gen` three
-- numbers. Words that aren't one of these commands ask for nothing.
use Rattle.std.specs.Prelude.{ℕ, ◌==◌, ◌+◌, ◌^◌, if◌then◌else◌, Bool, true, false, List, [], ◌∷◌, take, drop, codes, find, position, Option, Some, None, option_map, option_and_then, ◌-◌, ◌&&◌, ◌||◌, nat_le, not, unwrap_or}
use Rattle.std.specs.Str.{bytes_eq}
use Rattle.model_script.specs.Grammar.{number_below}
use Rattle.model_script.specs.declared.words.Expected.{Expected}
use Rattle.model_script.specs.declared.words.Expected.TheVariants.{Any, Number, Numbers}
use Rattle.model_script.specs.declared.words.Given.{Given}
use Rattle.model_script.specs.declared.words.Name.{Name}
use Rattle.model_script.specs.declared.words.Name.TheVariants as name
use Rattle.model_script.specs.declared.words.Word.{Word}
use Rattle.model_script.specs.declared.words.Word.TheVariants.{Flag, Open, Joined, Value, End}
use Rattle.std.specs.List.{list_all, list_any}
use Rattle.model_base.specs.{is_page_size}
use Rattle.model_base.specs.declared.limits.TheConstants.{DEFAULT_LOG_BLOCKS, DEFAULT_PAGES, DEFAULT_SPACE, MAX_LOG_BLOCKS, MAX_PAGES, MIN_LOG_BLOCKS, PAGE_SIZE}
use Rattle.model_script.specs.declared.misfit.TheConstants.{MAX_USERS}
use Rattle.model_script.specs.declared.asked.Asked.{Asked}
use Rattle.model_script.specs.declared.asked.Command.{Command}
use Rattle.model_script.specs.declared.asked.Command.TheVariants.{Format, Run, Crash, Recover, Dump, Restore, Gen}
use Rattle.model_script.specs.declared.asked.Drive.{Drive}
use Rattle.model_script.specs.declared.words.TheConstants.{DEFAULT_TURNS, MAX_FOLLOWERS, MAX_GENERATED, MAX_TURNS, MAX_WORKERS}

abbrev pub spelling : Name → List ℕ
spelling name.Archive = codes "--archive"
spelling name.Files = codes "--files"
spelling name.Followers = codes "--followers"
spelling name.LogBlocks = codes "--log-blocks"
spelling name.LogOnly = codes "--log-only"
spelling name.Max = codes "--max"
spelling name.OwnWrites = codes "--own-writes"
spelling name.PageSize = codes "--page-size"
spelling name.Pages = codes "--pages"
spelling name.Pick = codes "--pick"
spelling name.Run = codes "--run"
spelling name.Space = codes "--space"
spelling name.StopData = codes "--stop-data"
spelling name.StopLog = codes "--stop-log"
spelling name.Threads = codes "--threads"
spelling name.To = codes "--to"
spelling name.Turns = codes "--turns"
spelling name.Why = codes "--why"
spelling name.Workers = codes "--workers"

abbrev pub every_name : List Name
every_name =
    name.Archive ∷ name.Files ∷ name.Followers ∷ name.LogBlocks ∷ name.LogOnly ∷ name.Max ∷ name.OwnWrites
    ∷ name.PageSize ∷ name.Pages ∷ name.Pick ∷ name.Run ∷ name.Space ∷ name.StopData ∷ name.StopLog ∷ name.Threads
    ∷ name.To ∷ name.Turns ∷ name.Why ∷ name.Workers ∷ []

-- the option that is spelled so
unfoldable pub name_of : List ℕ → Option Name
name_of text = find (λ name. bytes_eq text (spelling name)) every_name

-- the options that take no number
abbrev pub is_flag : Name → Bool
is_flag name.Archive = true
is_flag name.Files = true
is_flag name.LogOnly = true
is_flag name.OwnWrites = true
is_flag name.Run = true
is_flag name.Threads = true
is_flag name.Why = true
is_flag _ = false

-- every number of a call is below 2^64; most have a lower limit besides
abbrev pub word_number : List ℕ → Option ℕ
word_number text = number_below (2 ^ 64) text

-- an option and its number in one word
abbrev pub joined_word : Name → ℕ → Option Word
joined_word name number = if is_flag name then None else Some (Joined name number)

-- a word with `=` in it, which parts an option and its number, or else a number by itself
abbrev pub word_with : List ℕ → Option ℕ → Option Word
word_with text None = option_map Value (word_number text)
word_with text (Some at) =
    option_and_then (λ name. option_and_then (joined_word name) (word_number (drop (at + 1) text))) (name_of (take at text))

-- the word that is an option's name
abbrev pub name_word : Name → Word
name_word name = if is_flag name then Flag name else Open name

-- what a word says by itself
unfoldable pub word_of : List ℕ → Option Word
word_of text =
    if bytes_eq text (codes "--") then Some End
    else elim (name_of text) [
      | Some name ↦ Some (name_word name)
      | None ↦ word_with text (position (λ byte. byte == 61) text)
    ]

-- what stands after a command's name: the options that are given and the numbers by themselves, each in order
pub record Said : Type 0 where
  pub options : List Given
  pub values : List ℕ

abbrev pub nothing_said : Said
nothing_said = record { options = []; values = [] }

-- an option before what the other words say
abbrev pub with_option : Name → Option ℕ → Said → Said
with_option name number said = record said { options = record { name = name; number = number } ∷ said.options }

-- a number before what the other words say
abbrev pub with_value : ℕ → Said → Said
with_value number said = record said { values = number ∷ said.values }

-- what words say of which the first says this by itself, and the others what they say where this is expected of them
abbrev pub said_with : Option Word → (Expected → Option Said) → Option Said
said_with None others = None
said_with (Some (Flag name)) others = option_map (with_option name None) (others Any)
said_with (Some (Open name)) others = others (Number name)
said_with (Some (Joined name number)) others = option_map (with_option name (Some number)) (others Any)
said_with (Some (Value number)) others = option_map (with_value number) (others Any)
said_with (Some End) others = others Numbers

-- What words say where the first of them is expected to be this; none where they are no arguments of any command.
unfoldable pub said_from : Expected → List (List ℕ) → Option Said
said_from Any [] = Some nothing_said
said_from (Number name) [] = None
said_from Numbers [] = Some nothing_said
said_from Any (text ∷ texts) = said_with (word_of text) (λ expected. said_from expected texts)
said_from (Number name) (text ∷ texts) =
    option_and_then (λ number. option_map (with_option name (Some number)) (said_from Any texts)) (word_number text)
said_from Numbers (text ∷ texts) =
    option_and_then (λ number. option_map (with_value number) (said_from Numbers texts)) (word_number text)

abbrev pub is_named : Name → Given → Bool
is_named name given = bytes_eq (spelling given.name) (spelling name)

-- each option at most once
abbrev pub are_different : List Given → Bool
are_different [] = true
are_different (given ∷ others) = not (list_any (is_named given.name) others) && are_different others

-- the option is one of a command's, or `--files`, which every command has
abbrev pub is_among : List Name → Given → Bool
is_among names given = is_named name.Files given || list_any (λ name. is_named name given) names

abbrev pub are_among : List Name → List Given → Bool
are_among names options = list_all (is_among names) options

abbrev pub is_given : Name → List Given → Bool
is_given name options = list_any (is_named name) options

-- the number of an option, if it is given
abbrev pub given_number : Name → List Given → Option ℕ
given_number name options = option_and_then (λ given. given.number) (find (is_named name) options)

-- the number, if it lies within these limits, both included
abbrev pub number_within : ℕ → ℕ → ℕ → Option ℕ
number_within least greatest n = if nat_le least n && nat_le n greatest then Some n else None

-- the number of an option within its limits, or what stands for it where the option isn't given
abbrev pub number_or : ℕ → ℕ → ℕ → Option ℕ → Option ℕ
number_or least greatest default None = Some default
number_or least greatest default (Some n) = number_within least greatest n

-- the number, if a page may have so many bytes
abbrev pub allowed_page_size : ℕ → Option ℕ
allowed_page_size n = if is_page_size n then Some n else None

-- how many bytes a page has: 4,096 where nothing else is asked
abbrev pub page_size_or : Option ℕ → Option ℕ
page_size_or None = Some PAGE_SIZE
page_size_or (Some n) = allowed_page_size n

-- how many followers read the log back: none where nothing else is asked
abbrev pub given_followers : List Given → Option ℕ
given_followers options = number_or 1 MAX_FOLLOWERS 0 (given_number name.Followers options)

-- how a script is run, and whether the run is archived: by turns of the seed 0 where nothing else is asked
abbrev pub given_drive : Bool → List Given → Option Drive
given_drive archive options =
    option_and_then (λ max. option_map (λ followers. record {
      seed = unwrap_or (given_number name.Turns options) 0;
      max = max;
      threads = is_given name.Threads options;
      log_only = is_given name.LogOnly options;
      own_writes = is_given name.OwnWrites options;
      followers = followers;
      archive = archive;
    }) (given_followers options)) (number_or 0 MAX_TURNS DEFAULT_TURNS (given_number name.Max options))

abbrev pub drive_names : List Name
drive_names = name.Turns ∷ name.Max ∷ name.Threads ∷ name.LogOnly ∷ name.OwnWrites ∷ name.Followers ∷ []

abbrev pub given_format : List Given → Option Command
given_format options =
    option_and_then (λ page_size. option_and_then (λ pages. option_and_then (λ space.
    option_map (λ log_blocks. Format page_size pages space log_blocks)
    (number_or MIN_LOG_BLOCKS MAX_LOG_BLOCKS DEFAULT_LOG_BLOCKS (given_number name.LogBlocks options)))
    (number_or 0 (2 ^ 32 - 1) DEFAULT_SPACE (given_number name.Space options)))
    (number_or 1 MAX_PAGES DEFAULT_PAGES (given_number name.Pages options)))
    (page_size_or (given_number name.PageSize options))

-- how many workers apply the groups of the log: one where nothing else is asked
abbrev pub given_workers : List Given → Option ℕ
given_workers options = number_or 1 MAX_WORKERS 1 (given_number name.Workers options)

abbrev pub given_crash : List Given → Option Command
given_crash options =
    option_and_then (λ drive. option_map (λ workers. Crash drive (given_number name.StopLog options) (given_number name.StopData options)
    (unwrap_or (given_number name.Pick options) 0) workers) (given_workers options)) (given_drive false options)

-- the drive of a run, which may be archived
abbrev pub given_run : List Given → Option Command
given_run options = option_map Run (given_drive (is_given name.Archive options) options)

-- the seed, the number of users and the number of groups
abbrev pub given_gen : List Given → List ℕ → Option Command
given_gen options (seed ∷ users ∷ groups ∷ []) =
    option_and_then (λ users. option_and_then (λ groups. option_map (λ max. Gen seed users groups (is_given name.Run options) max)
    (number_or 0 MAX_TURNS DEFAULT_TURNS (given_number name.Max options)))
    (number_within 0 MAX_GENERATED groups)) (number_within 1 MAX_USERS users)
given_gen options values = None

-- the command, where its options are among those that it has
abbrev pub where_allowed : List Name → List Given → Option Command → Option Command
where_allowed names options command = if are_among names options && are_different options then command else None

-- the command of this name, which has no number by itself
abbrev pub plain_command : List ℕ → List Given → Option Command
plain_command text options =
    if bytes_eq text (codes "format")
    then where_allowed (name.PageSize ∷ name.Pages ∷ name.Space ∷ name.LogBlocks ∷ []) options (given_format options)
    else (if bytes_eq text (codes "run") then where_allowed (name.Archive ∷ drive_names) options (given_run options)
    else (if bytes_eq text (codes "crash") then where_allowed (name.StopLog ∷ name.StopData ∷ name.Pick ∷ name.Workers ∷ drive_names) options (given_crash options)
    else (if bytes_eq text (codes "recover") then where_allowed (name.Workers ∷ []) options (option_map Recover (given_workers options))
    else (if bytes_eq text (codes "dump") then where_allowed (name.Why ∷ []) options (Some (Dump (is_given name.Why options)))
    else (if bytes_eq text (codes "restore") then where_allowed (name.To ∷ []) options (option_map Restore (given_number name.To options)) else None)))))

-- the command of this name with these options and these numbers by themselves
abbrev pub named_command : List ℕ → List Given → List ℕ → Option Command
named_command text options values =
    if bytes_eq text (codes "gen") then where_allowed (name.Run ∷ name.Max ∷ []) options (given_gen options values)
    else elim values [ [] ↦ plain_command text options | value ∷ others ↦ None ]

-- What the words of a call ask for, without the name of the program.
unfoldable pub asked_of : List (List ℕ) → Option Asked
asked_of [] = None
asked_of (text ∷ texts) =
    option_and_then (λ (said : Said). option_map (λ command. record { command = command; files = is_given name.Files said.options })
    (named_command text said.options said.values)) (said_from Any texts)
