-- The application whose words `clap` reads.
use Rattle.std.specs.Prelude.{◌≡◌, [], Some, true, false, codes}
use Rattle.clap.specs.Words.{App, Rule, Text, app_of, new_app, new_rule, with_rule, with_subcommand}
use Rattle.clap.specs.declared.builder.action.ArgAction.TheVariants.{Set, SetTrue}
use Rattle.clap.specs.declared.builder.command.Command.{Command}
use Rattle.clap.specs.declared.builder.command.Command.TheViews.{out-Command}

-- an option with a number
abbrev pub number_rule : Text → Rule
number_rule name = record (new_rule name) { long = Some name; action = Some Set }

-- an option without
abbrev pub flag_rule : Text → Rule
flag_rule name = record (new_rule name) { long = Some name; action = Some SetTrue }

-- a number by itself
abbrev pub value_rule : Text → Rule
value_rule name = record (new_rule name) { required = true }

-- no argument of the command is global
abbrev pub IsLocal : Command → Type 0
IsLocal command = (out-Command command).has_globals ≡ false

-- the command has this value, and no argument of it is global
abbrev pub IsApp : App → Command → Type 0
IsApp app command = (app_of command ≡ app) × IsLocal command

-- every command has `--files`
abbrev pub plain_app : Text → App
plain_app name = with_rule (new_app name) (flag_rule (codes "files"))

-- the options that say in what order a run's steps are taken
abbrev pub with_turns : App → App
with_turns app =
    with_rule (with_rule (with_rule app (number_rule (codes "turns"))) (number_rule (codes "max"))) (flag_rule (codes "threads"))

-- the options that say which actors take them
abbrev pub with_actors : App → App
with_actors app =
    with_rule (with_rule (with_rule app (flag_rule (codes "log-only"))) (flag_rule (codes "own-writes"))) (number_rule (codes "followers"))

abbrev pub with_drive : App → App
with_drive app = with_actors (with_turns app)

abbrev pub with_workers : App → App
with_workers app = with_rule app (number_rule (codes "workers"))

abbrev pub format_app : App
format_app =
    with_rule (with_rule (with_rule (with_rule (plain_app (codes "format")) (number_rule (codes "page-size")))
    (number_rule (codes "pages"))) (number_rule (codes "space"))) (number_rule (codes "log-blocks"))

abbrev pub run_app : App
run_app = with_drive (with_rule (plain_app (codes "run")) (flag_rule (codes "archive")))

abbrev pub crash_app : App
crash_app =
    with_drive (with_workers (with_rule (with_rule (with_rule (plain_app (codes "crash")) (number_rule (codes "stop-log"))) (number_rule (codes "stop-data"))) (number_rule (codes "pick"))))

abbrev pub recover_app : App
recover_app = with_workers (plain_app (codes "recover"))

abbrev pub dump_app : App
dump_app = with_rule (plain_app (codes "dump")) (flag_rule (codes "why"))

abbrev pub restore_app : App
restore_app = with_rule (plain_app (codes "restore")) (number_rule (codes "to"))

abbrev pub with_values : App → App
with_values app = with_rule (with_rule (with_rule app (value_rule (codes "seed"))) (value_rule (codes "users"))) (value_rule (codes "groups"))

abbrev pub gen_app : App
gen_app = with_values (with_rule (with_rule (plain_app (codes "gen")) (flag_rule (codes "run"))) (number_rule (codes "max")))

-- no help and no version
abbrev pub top_app : App
top_app = record {
  top = record (new_app (codes "redolab")).top {
    no_binary_name = true;
    disable_help_flag = true;
    disable_help_subcommand = true;
    disable_version_flag = true;
    subcommand_required = true;
  };
  subs = [];
}

abbrev pub with_runs : App → App
with_runs app = with_subcommand (with_subcommand (with_subcommand app format_app.top) run_app.top) crash_app.top

abbrev pub with_others : App → App
with_others app =
    with_subcommand (with_subcommand (with_subcommand (with_subcommand app recover_app.top) dump_app.top) restore_app.top) gen_app.top

abbrev pub redolab_app : App
redolab_app = with_others (with_runs top_app)
