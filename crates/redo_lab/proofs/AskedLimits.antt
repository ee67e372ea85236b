-- The numbers of a command that is asked for are within its limits.
use Rattle.std.proofs.Common.{ℕ, ◌≡◌, ◌≤◌, ◌-◌, ◌^◌, ◌&&◌, Bool, true, false, nat_le, if◌then◌else◌, List, [], ◌∷◌, codes, Option, Some, None, IfSome, refl, subst, sym, ◌∙◌, arith, lit≤}
use Rattle.std.proofs.lemmas.Bool.{false≢true}
use Rattle.std.specs.Option.{option_map, option_and_then}
use Rattle.std.specs.Str.{bytes_eq}
use Rattle.model_base.proofs.ShapeLimits.{default_page_size, page_size_test}
use Rattle.model_base.specs.{is_page_size, IsPageSize}
use Rattle.model_base.specs.declared.limits.TheConstants.{DEFAULT_LOG_BLOCKS, DEFAULT_PAGES, DEFAULT_SPACE, MAX_LOG_BLOCKS, MAX_PAGES, MIN_LOG_BLOCKS, PAGE_SIZE}
use Rattle.model_script.specs.Words as commands
use Rattle.model_script.specs.{are_among, are_different, asked_of, given_crash, drive_names, given_drive, given_followers, given_format, given_gen, given_number, given_run, number_or, number_within, page_size_or, is_given, plain_command, said_from, where_allowed, given_workers}
use Rattle.model_script.specs.declared.asked.Asked.{Asked}
use Rattle.model_script.specs.declared.asked.Command.{Command}
use Rattle.model_script.specs.declared.asked.Command.TheVariants.{Run, Recover, Dump, Restore}
use Rattle.model_script.specs.declared.words.Given.{Given}
use Rattle.model_script.specs.declared.words.TheConstants.{DEFAULT_TURNS, MAX_FOLLOWERS, MAX_TURNS, MAX_WORKERS}
use Rattle.model_script.specs.declared.words.Name.{Name}
use Rattle.model_script.specs.declared.words.Name.TheVariants as name
use Rattle.model_script.specs.declared.words.Expected.TheVariants.{Any}
use Rattle.model_script.specs.declared.misfit.TheConstants.{MAX_USERS}
use borrow.Author.Tests.{leb-true}
use Rattle.model_script.specs.declared.asked.Drive.{Drive}
use Rattle.redo_lab.specs.declared.crash_command.Crashing.{Crashing}
use Rattle.redo_lab.specs.Call.{command_of}
use Rattle.redo_lab.specs.Allowed.{HasAllowedNumbers}
use Rattle.redo_lab.specs.Runs.{command_with}

-- the number is between these
abbrev IsBetween : ℕ → ℕ → ℕ → Type 0
IsBetween least greatest n = (least ≤ n) × (n ≤ greatest)

abbrev HasValue : {A B : Type 0} → (A → Option B) → Option A → B → Type 0
HasValue {A = A} f o b = (a : A) × (o ≡ Some a) × (f a ≡ Some b)

and_then-some : {A B : Type 0} (f : A → Option B) (o : Option A) (b : B) → option_and_then f o ≡ Some b → HasValue f o b
and_then-some f None b is = cc
and_then-some f (Some a) b is = (a, refl, is)

abbrev IsMapped : {A B : Type 0} → (A → B) → Option A → B → Type 0
IsMapped {A = A} f o b = (a : A) × (o ≡ Some a) × (f a ≡ b)

map-some : {A B : Type 0} (f : A → B) (o : Option A) (b : B) → option_map f o ≡ Some b → IsMapped f o b
map-some f None b is = cc
map-some f (Some a) b is = (a, refl, cc)

if-between : (least greatest n m : ℕ) (low high : Bool) → nat_le least n ≡ low → nat_le n greatest ≡ high
    → (if low && high then Some n else None) ≡ Some m → IsBetween least greatest m
if-between least greatest n m true true low high is =
    let same : n ≡ m = cc in (omega (arith, leb-true least n low), omega (arith, leb-true n greatest high))
if-between least greatest n m true false low high is = cc
if-between least greatest n m false high low high' is = cc

within-between : (least greatest n m : ℕ) → number_within least greatest n ≡ Some m → IsBetween least greatest m
within-between least greatest n m is = if-between least greatest n m _ _ refl refl is

or-at-most : (least greatest default m : ℕ) (o : Option ℕ) → default ≤ greatest
    → number_or least greatest default o ≡ Some m → m ≤ greatest
or-at-most least greatest default m None within is = let same : default ≡ m = cc in omega arith
or-at-most least greatest default m (Some n) within is = (within-between least greatest n m is).1

or-between : (least greatest default m : ℕ) (o : Option ℕ) → IsBetween least greatest default → number_or least greatest default o ≡ Some m
    → IsBetween least greatest m
or-between least greatest default m None between is = let same : default ≡ m = cc in (omega arith, omega arith)
or-between least greatest default m (Some n) between is = within-between least greatest n m is

-- so many bytes a page may have
if-page_size : (n m : ℕ) (passes : Bool) → is_page_size n ≡ passes → (if passes then Some n else None) ≡ Some m
    → IsPageSize m
if-page_size n m true tested is = let same : n ≡ m = cc in subst IsPageSize same (page_size_test n tested)
if-page_size n m false tested is = cc

or-page_size : (m : ℕ) (o : Option ℕ) → page_size_or o ≡ Some m → IsPageSize m
or-page_size m None is = let same : PAGE_SIZE ≡ m = cc in subst IsPageSize same default_page_size
or-page_size m (Some n) is = if-page_size n m _ refl is

allowed-some : (among different : Bool) (o : Option Command) (command : Command) → (if among && different then o else None) ≡ Some command → o ≡ Some command
allowed-some true true o command is = is
allowed-some true false o command is = cc
allowed-some false different o command is = cc

allowed-command : (names : List Name) (options : List Given) (o : Option Command) (command : Command) → where_allowed names options o ≡ Some command → o ≡ Some command
allowed-command names options o command is = allowed-some (are_among names options) (are_different options) o command is

format-within : (options : List Given) (command : Command) → given_format options ≡ Some command → HasAllowedNumbers command
format-within options command is =
    let size = and_then-some _ (page_size_or (given_number name.PageSize options)) command is in
    let pages = and_then-some _ (number_or 1 MAX_PAGES DEFAULT_PAGES (given_number name.Pages options)) command size.2 in
    let space = and_then-some _ (number_or 0 (2 ^ 32 - 1) DEFAULT_SPACE (given_number name.Space options)) command pages.2 in
    let blocks = map-some _ (number_or MIN_LOG_BLOCKS MAX_LOG_BLOCKS DEFAULT_LOG_BLOCKS (given_number name.LogBlocks options)) command space.2 in
    let some : IsBetween 1 MAX_PAGES pages.0 = or-between 1 MAX_PAGES DEFAULT_PAGES pages.0 (given_number name.Pages options) (lit≤ tt, lit≤ tt) pages.1 in
    let many : IsBetween MIN_LOG_BLOCKS MAX_LOG_BLOCKS blocks.0 =
    or-between MIN_LOG_BLOCKS MAX_LOG_BLOCKS DEFAULT_LOG_BLOCKS blocks.0 (given_number name.LogBlocks options) (lit≤ tt, lit≤ tt) blocks.1 in
    let allowed = or-page_size size.0 (given_number name.PageSize options) size.1 in
    subst HasAllowedNumbers blocks.2 (allowed, some.0, some.1, many.0, many.1)

-- the drive's followers are few, and it archives its run just where that is asked
abbrev IsDriveOf : Bool → Drive → Type 0
IsDriveOf archive drive = (drive.followers ≤ MAX_FOLLOWERS) × (drive.archive ≡ archive)

drive-within : (archive : Bool) (options : List Given) (drive : Drive) → given_drive archive options ≡ Some drive → IsDriveOf archive drive
drive-within archive options drive is =
    let max = and_then-some _ (number_or 0 MAX_TURNS DEFAULT_TURNS (given_number name.Max options)) drive is in
    let followers = map-some _ (given_followers options) drive max.2 in
    subst (IsDriveOf archive) followers.2
    (or-at-most 1 MAX_FOLLOWERS 0 followers.0 (given_number name.Followers options) (lit≤ tt) followers.1, refl)

run-within : (options : List Given) (command : Command) → given_run options ≡ Some command → HasAllowedNumbers command
run-within options command is =
    let run = map-some Run (given_drive (is_given name.Archive options) options) command is in
    subst HasAllowedNumbers run.2 (drive-within (is_given name.Archive options) options run.0 run.1).0

workers-within : (options : List Given) (workers : ℕ) → given_workers options ≡ Some workers → IsBetween 1 MAX_WORKERS workers
workers-within options workers is = or-between 1 MAX_WORKERS 1 workers (given_number name.Workers options) (lit≤ tt, lit≤ tt) is

crash-within : (options : List Given) (command : Command) → given_crash options ≡ Some command → HasAllowedNumbers command
crash-within options command is =
    let drive = and_then-some _ (given_drive false options) command is in
    let workers = map-some _ (given_workers options) command drive.2 in
    let between = workers-within options workers.0 workers.1 in
    let its = drive-within false options drive.0 drive.1 in
    subst HasAllowedNumbers workers.2 (its.0, its.1, between.0, between.1)

recover-within : (options : List Given) (command : Command) → option_map Recover (given_workers options) ≡ Some command → HasAllowedNumbers command
recover-within options command is =
    let workers = map-some Recover (given_workers options) command is in
    subst HasAllowedNumbers workers.2 (workers-within options workers.0 workers.1)

dump-within : (why : Bool) (command : Command) → Some (Dump why) ≡ Some command → HasAllowedNumbers command
dump-within why command is = let same : Dump why ≡ command = cc in subst HasAllowedNumbers same tt

restore-within : (to : Option ℕ) (command : Command) → option_map Restore to ≡ Some command → HasAllowedNumbers command
restore-within to command is = let restore = map-some Restore to command is in subst HasAllowedNumbers restore.2 tt

gen-within : (options : List Given) (values : List ℕ) (command : Command) → given_gen options values ≡ Some command → HasAllowedNumbers command
gen-within options [] command is = cc
gen-within options (seed ∷ []) command is = cc
gen-within options (seed ∷ users ∷ []) command is = cc
gen-within options (seed ∷ users ∷ groups ∷ []) command is =
    let some = and_then-some _ (number_within 1 MAX_USERS users) command is in
    let many = and_then-some _ (number_within 0 _ groups) command some.2 in
    let max = map-some _ (number_or 0 _ _ (given_number name.Max options)) command many.2 in
    let between = within-between 1 MAX_USERS users some.0 some.1 in
    subst HasAllowedNumbers max.2 (between.0, between.1)
gen-within options (seed ∷ users ∷ groups ∷ more ∷ values) command is = cc

plain-within : (is_format is_run is_crash is_recover is_dump is_restore : Bool) (format run crash recover dump restore : Option Command) (command : Command)
    → (format ≡ Some command → HasAllowedNumbers command) → (run ≡ Some command → HasAllowedNumbers command) → (crash ≡ Some command → HasAllowedNumbers command)
    → (recover ≡ Some command → HasAllowedNumbers command) → (dump ≡ Some command → HasAllowedNumbers command) → (restore ≡ Some command → HasAllowedNumbers command)
    → (if is_format then format else (if is_run then run else (if is_crash then crash else (if is_recover then recover else (if is_dump then dump
    else (if is_restore then restore else None)))))) ≡ Some command
    → HasAllowedNumbers command
plain-within true is_run is_crash is_recover is_dump is_restore format run crash recover dump restore command a b c d e f is = a is
plain-within false true is_crash is_recover is_dump is_restore format run crash recover dump restore command a b c d e f is = b is
plain-within false false true is_recover is_dump is_restore format run crash recover dump restore command a b c d e f is = c is
plain-within false false false true is_dump is_restore format run crash recover dump restore command a b c d e f is = d is
plain-within false false false false true is_restore format run crash recover dump restore command a b c d e f is = e is
plain-within false false false false false true format run crash recover dump restore command a b c d e f is = f is
plain-within false false false false false false format run crash recover dump restore command a b c d e f is = cc

abbrev format_names : List Name
format_names = name.PageSize ∷ name.Pages ∷ name.Space ∷ name.LogBlocks ∷ []

abbrev run_names : List Name
run_names = name.Archive ∷ drive_names

abbrev crash_names : List Name
crash_names = name.StopLog ∷ name.StopData ∷ name.Pick ∷ name.Workers ∷ drive_names

command-within : (text : List ℕ) (options : List Given) (values : List ℕ) (is_gen : Bool) (command : Command)
    → (if is_gen then where_allowed (name.Run ∷ name.Max ∷ []) options (given_gen options values)
    else elim values [ [] ↦ plain_command text options | value ∷ others ↦ None ]) ≡ Some command → HasAllowedNumbers command
command-within text options values true command is = gen-within options values command (allowed-command (name.Run ∷ name.Max ∷ []) options (given_gen options values) command is)
command-within text options [] false command is = plain-within
    (bytes_eq text (codes "format")) (bytes_eq text (codes "run")) (bytes_eq text (codes "crash")) (bytes_eq text (codes "recover")) (bytes_eq text (codes "dump"))
    (bytes_eq text (codes "restore"))
    (where_allowed format_names options (given_format options)) (where_allowed run_names options (given_run options))
    (where_allowed crash_names options (given_crash options)) (where_allowed (name.Workers ∷ []) options (option_map Recover (given_workers options)))
    (where_allowed (name.Why ∷ []) options (Some (Dump (is_given name.Why options))))
    (where_allowed (name.To ∷ []) options (option_map Restore (given_number name.To options))) command
    (λ is. format-within options command (allowed-command format_names options (given_format options) command is))
    (λ is. run-within options command (allowed-command run_names options (given_run options) command is))
    (λ is. crash-within options command (allowed-command crash_names options (given_crash options) command is))
    (λ is. recover-within options command (allowed-command (name.Workers ∷ []) options (option_map Recover (given_workers options)) command is))
    (λ is. dump-within (is_given name.Why options) command (allowed-command (name.Why ∷ []) options (Some (Dump (is_given name.Why options))) command is))
    (λ is. restore-within (given_number name.To options) command (allowed-command (name.To ∷ []) options (option_map Restore (given_number name.To options)) command is))
    is
command-within text options (value ∷ others) false command is = cc

-- what is asked for is within its limits
asked-within : (words : List (List ℕ)) (asked : Asked) → asked_of words ≡ Some asked → HasAllowedNumbers asked.command
unfolding asked_of
asked-within [] asked is = cc
asked-within (text ∷ texts) asked is =
    let said = and_then-some _ (said_from Any texts) asked is in
    let command = map-some _ (commands.named_command text said.0.options said.0.values) asked said.2 in
    subst (λ (asked : Asked). HasAllowedNumbers asked.command) command.2 (command-within text said.0.options said.0.values _ command.0 command.1)

pub command-of-within : (words : List (List ℕ)) (command : Command) → command_of words ≡ Some command → HasAllowedNumbers command
command-of-within words command is =
    let asked = map-some (λ (asked : Asked). asked.command) (asked_of words) command is in
    subst HasAllowedNumbers asked.2 (asked-within words asked.0 asked.1)

-- of a script's crash
pub within-workers : (asked : Drive) (crash : Option Crashing) → HasAllowedNumbers (command_with asked crash)
    → IfSome crash (λ crash. (1 ≤ crash.workers) × (crash.workers ≤ MAX_WORKERS))
within-workers asked None is = tt
within-workers asked (Some crash) is = (is.2, is.3)

-- the followers of a script's run
pub within-followers : (asked : Drive) (crash : Option Crashing) → HasAllowedNumbers (command_with asked crash)
    → asked.followers ≤ MAX_FOLLOWERS
within-followers asked None is = is
within-followers asked (Some crash) is = is.0

-- a run that is archived isn't crashed
pub within-run : (asked : Drive) (crash : Option Crashing) → HasAllowedNumbers (command_with asked crash) → asked.archive ≡ true
    → crash ≡ None
within-run asked None is archived = refl
within-run asked (Some crash) is archived = absurd (false≢true (sym is.1 ∙ archived))
