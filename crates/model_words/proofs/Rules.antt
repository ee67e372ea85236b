-- The application as `clap` builds it.
use Rattle.std.proofs.Common.{◌≡◌, refl, ℕ, Bool, true, false, List, [], ◌∷◌, ◌++◌, map, codes, Option, Some, None}
use Rattle.clap.specs.Walk.{Rule, Text}
use Rattle.clap.specs.Simple.{App, Shape, built, new_rule, new_shape}
use Rattle.clap.specs.declared.builder.action.ArgAction.TheVariants.{Set, SetTrue}
use Rattle.clap.specs.declared.builder.range.ValueRange.{ValueRange}
use Rattle.clap.specs.declared.builder.value_parser.ValueParser.TheVariants as vp
use Rattle.clap.proofs.OnLiterals.{clap_on_literals}
use Rattle.model_script.specs.{is_flag}
use Rattle.model_script.specs.declared.words.Name.{Name}
use Rattle.model_script.specs.declared.words.Name.TheVariants as name
use Rattle.model_words.specs.App.{redolab_app}

-- an option's name without its dashes
abbrev pub id : Name → Text
id name.Archive = codes "archive"
id name.Files = codes "files"
id name.Followers = codes "followers"
id name.LogBlocks = codes "log-blocks"
id name.LogOnly = codes "log-only"
id name.Max = codes "max"
id name.OwnWrites = codes "own-writes"
id name.PageSize = codes "page-size"
id name.Pages = codes "pages"
id name.Pick = codes "pick"
id name.Run = codes "run"
id name.Space = codes "space"
id name.StopData = codes "stop-data"
id name.StopLog = codes "stop-log"
id name.Threads = codes "threads"
id name.To = codes "to"
id name.Turns = codes "turns"
id name.Why = codes "why"
id name.Workers = codes "workers"

abbrev pub width : ℕ → ValueRange
width n = record { start_inclusive = n; end_inclusive = n }

-- what takes one text
abbrev pub set_rule : Option ℕ → Option Text → Bool → Text → Rule
set_rule index long required name = record (new_rule name) {
  long = long;
  index = index;
  action = Some Set;
  range = Some (width 1);
  parser = Some vp.String;
  required = required;
}

abbrev pub flag_set : Text → Rule
flag_set name = record (new_rule name) {
  long = Some name;
  action = Some SetTrue;
  range = Some (width 0);
  defaults = codes "false" ∷ [];
  missing = codes "true" ∷ [];
  parser = Some vp.Bool;
}

abbrev pub option_of : Bool → Text → Rule
option_of true name = flag_set name
option_of false name = set_rule None (Some name) false name

abbrev pub option_rule : Name → Rule
option_rule n = option_of (is_flag n) (id n)

-- how many numbers stand by themselves so far; `plain` where none may
pub data Place : Type 0 where
  plain zero_read one_read two_read all_read : Place

abbrev pub has_values : Place → Bool
has_values plain = false
has_values _ = true

abbrev pub values_of : Bool → List Rule
values_of false = []
values_of true =
    set_rule (Some 1) None true (codes "seed") ∷ set_rule (Some 2) None true (codes "users") ∷ set_rule (Some 3) None true (codes "groups") ∷ []

abbrev pub rules : List Name → Bool → List Rule
rules names values = map option_rule names ++ values_of values

abbrev pub leaf : Text → List Name → Bool → Shape
leaf text names values = record (new_shape text) {
  rules = rules names values;
  no_binary_name = true;
  disable_help_flag = true;
  disable_help_subcommand = true;
  disable_version_flag = true;
  is_built = true;
}

abbrev pub format_names : List Name
format_names = name.Files ∷ name.PageSize ∷ name.Pages ∷ name.Space ∷ name.LogBlocks ∷ []

abbrev pub run_names : List Name
run_names =
    name.Files ∷ name.Archive ∷ name.Turns ∷ name.Max ∷ name.Threads ∷ name.LogOnly ∷ name.OwnWrites ∷ name.Followers ∷ []

abbrev pub crash_names : List Name
crash_names =
    name.Files ∷ name.StopLog ∷ name.StopData ∷ name.Pick ∷ name.Workers ∷ name.Turns ∷ name.Max ∷ name.Threads
    ∷ name.LogOnly ∷ name.OwnWrites ∷ name.Followers ∷ []

abbrev pub recover_names : List Name
recover_names = name.Files ∷ name.Workers ∷ []

abbrev pub dump_names : List Name
dump_names = name.Files ∷ name.Why ∷ []

abbrev pub restore_names : List Name
restore_names = name.Files ∷ name.To ∷ []

abbrev pub gen_names : List Name
gen_names = name.Files ∷ name.Run ∷ name.Max ∷ []

abbrev pub leaves : List Shape
leaves =
    leaf (codes "format") format_names false ∷ leaf (codes "run") run_names false ∷ leaf (codes "crash") crash_names false
    ∷ leaf (codes "recover") recover_names false ∷ leaf (codes "dump") dump_names false ∷ leaf (codes "restore") restore_names false
    ∷ leaf (codes "gen") gen_names true ∷ []

abbrev pub built_app : App
built_app = record {
  top = record (new_shape (codes "redolab")) {
    is_leaf = false;
    no_binary_name = true;
    disable_help_flag = true;
    disable_help_subcommand = true;
    disable_version_flag = true;
    subcommand_required = true;
    is_built = true;
  };
  subs = leaves;
}

pub app_built : built redolab_app ≡ built_app
unfolding clap_on_literals
app_built = refl
