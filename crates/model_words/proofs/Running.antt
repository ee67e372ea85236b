-- The commands `run` and `crash`.
use Rattle.std.proofs.Common.{◌≡◌, ◌∙◌, ◌-◌, ◌^◌, inl, inr, refl, sym, ap, ℕ, Bool, true, false, List, map, codes, Option, Some, None, option_map, true≢false}
use Rattle.std.specs.Prelude.{option_and_then, fold}
use Rattle.clap.specs.Walk.{Row, Text, first_of, with_default}
use Rattle.model_script.specs.{are_different, given_crash, given_run, is_flag, is_given, word_number}
use Rattle.model_script.specs.declared.asked.Asked.{Asked}
use Rattle.model_script.specs.declared.asked.Command.TheVariants as asked
use Rattle.model_script.specs.declared.asked.Drive.{Drive}
use Rattle.model_script.specs.declared.words.Name.{Name}
use Rattle.model_script.specs.declared.words.Name.TheVariants as name
use Rattle.model_script.specs.declared.words.TheConstants.{DEFAULT_TURNS, MAX_FOLLOWERS, MAX_TURNS, MAX_WORKERS}
use Rattle.model_words.specs.Found.{is_true, text_number, text_number_or}
use Rattle.model_words.proofs.Asked.{or_is, read, whole_is}
use Rattle.model_words.proofs.Asked.{Command as Reads}
use Rattle.model_words.proofs.Commands.{as_asked, given_is, good_options, number_bad, or_bad, text_is, twice_options, unfit_options}
use Rattle.model_words.proofs.Different.{different_is}
use Rattle.model_words.proofs.Said.{none_then}
use Rattle.model_words.proofs.Defaults.{Bad, flag_kept, number_kept}
use Rattle.model_words.proofs.Rules.{crash_names, id, plain, rules, run_names}
use Rattle.model_words.proofs.Said.{are_members}
use Rattle.model_words.proofs.Spelled.{is_member}
use Rattle.model_words.proofs.Uses.{use_row}

abbrev drive_with : (threads log_only own_writes archive : Bool) → (seed max followers : Option ℕ) → Option Drive
drive_with threads log_only own_writes archive seed max followers =
    option_and_then (λ seed. option_and_then (λ max. option_map (λ followers. record {
      seed = seed;
      max = max;
      threads = threads;
      log_only = log_only;
      own_writes = own_writes;
      followers = followers;
      archive = archive;
    }) followers) max) seed

no_drive : (threads log_only own_writes archive : Bool) (seed followers : Option ℕ)
    → drive_with threads log_only own_writes archive seed None followers ≡ None
no_drive threads log_only own_writes archive seed followers = none_then seed

no_followers : (threads log_only own_writes archive : Bool) (seed max : Option ℕ)
    → drive_with threads log_only own_writes archive seed max None ≡ None
no_followers threads log_only own_writes archive None max = refl
no_followers threads log_only own_writes archive (Some seed) max = none_then max

abbrev run_with : Bool → Option Drive → Option Asked
run_with files drive = as_asked files (option_map asked.Run drive)

abbrev crash_with : Bool → Option Drive → Option (Option ℕ) → Option (Option ℕ) → Option ℕ → Option ℕ → Option Asked
crash_with files drive stop_log stop_data pick workers =
    as_asked files (option_and_then (λ drive. option_and_then (λ stop_log. option_and_then (λ stop_data. option_and_then (λ pick. option_map (λ workers. asked.Crash drive stop_log stop_data pick workers)
    workers) pick) stop_data) stop_log) drive)

no_workers : (files : Bool) (drive : Option Drive) (stop_log stop_data : Option (Option ℕ)) (pick : Option ℕ) → crash_with files drive stop_log stop_data pick None ≡ None
no_workers files None a b c = refl
no_workers files (Some drive) None b c = refl
no_workers files (Some drive) (Some x) None c = refl
no_workers files (Some drive) (Some x) (Some y) None = refl
no_workers files (Some drive) (Some x) (Some y) (Some z) = refl

no_pick : (files : Bool) (drive : Option Drive) (stop_log stop_data : Option (Option ℕ)) (workers : Option ℕ) → crash_with files drive stop_log stop_data None workers ≡ None
no_pick files None a b d = refl
no_pick files (Some drive) None b d = refl
no_pick files (Some drive) (Some x) None d = refl
no_pick files (Some drive) (Some x) (Some y) d = refl

no_stop_data : (files : Bool) (drive : Option Drive) (stop_log : Option (Option ℕ)) (pick workers : Option ℕ) → crash_with files drive stop_log None pick workers ≡ None
no_stop_data files None a c d = refl
no_stop_data files (Some drive) None c d = refl
no_stop_data files (Some drive) (Some x) c d = refl

no_stop_log : (files : Bool) (drive : Option Drive) (stop_data : Option (Option ℕ)) (pick workers : Option ℕ) → crash_with files drive None stop_data pick workers ≡ None
no_stop_log files None b c d = refl
no_stop_log files (Some drive) b c d = refl

module _ (names : List Name) (rows0 : List Row) where
  abbrev at : Text → Option Text
  at i = first_of i (fold with_default rows0 (rules names false))

  abbrev flag_at : Text → Bool
  flag_at i = is_true (at i)

  abbrev seed_at : Option ℕ
  seed_at = text_number_or 0 (2 ^ 64 - 1) 0 (at (codes "turns"))

  abbrev max_at : Option ℕ
  max_at = text_number_or 0 MAX_TURNS DEFAULT_TURNS (at (codes "max"))

  abbrev followers_at : Option ℕ
  followers_at = text_number_or 1 MAX_FOLLOWERS 0 (at (codes "followers"))

  module _ (archive : Bool) where
    abbrev drive_of : Option ℕ → Option ℕ → Option ℕ → Option Drive
    drive_of = drive_with (flag_at (codes "threads")) (flag_at (codes "log-only")) (flag_at (codes "own-writes")) archive

    abbrev drive_at : Option Drive
    drive_at = drive_of seed_at max_at followers_at

    seed_bad : (t : Text) → at (codes "turns") ≡ Some t → word_number t ≡ None → drive_at ≡ None
    seed_bad t e none = ap (λ o. drive_of o max_at followers_at) (or_bad 0 (2 ^ 64 - 1) 0 (at (codes "turns")) t e none)

    max_bad : (t : Text) → at (codes "max") ≡ Some t → word_number t ≡ None → drive_at ≡ None
    max_bad t e none =
        ap (λ o. drive_of seed_at o followers_at) (or_bad 0 MAX_TURNS DEFAULT_TURNS (at (codes "max")) t e none)
        ∙ no_drive (flag_at (codes "threads")) (flag_at (codes "log-only")) (flag_at (codes "own-writes")) archive seed_at followers_at

    followers_bad : (t : Text) → at (codes "followers") ≡ Some t → word_number t ≡ None → drive_at ≡ None
    followers_bad t e none =
        ap (λ o. drive_of seed_at max_at o) (or_bad 1 MAX_FOLLOWERS 0 (at (codes "followers")) t e none)
        ∙ no_followers (flag_at (codes "threads")) (flag_at (codes "log-only")) (flag_at (codes "own-writes")) archive seed_at max_at

run_bad : (rows0 : List Row) → Bad run_names plain rows0 → read (codes "run") run_names false plain rows0 ≡ None
run_bad rows0 (inr b) = absurd (true≢false (sym b.2))
run_bad rows0 (inl b) = go b.0 b.1 b.2 b.3 b.4 b.5
  where
    archive : Bool
    archive = flag_at run_names rows0 (codes "archive")

    go : (n : Name) (t : Text) → is_member run_names n ≡ true → is_flag n ≡ false → first_of (id n) rows0 ≡ Some t → word_number t ≡ None
        → read (codes "run") run_names false plain rows0 ≡ None
    go name.Turns t m f e none = ap (run_with (flag_at run_names rows0 (codes "files"))) (seed_bad run_names rows0 archive t (number_kept (codes "turns") (rules run_names false) rows0 refl ∙ e) none)
    go name.Max t m f e none = ap (run_with (flag_at run_names rows0 (codes "files"))) (max_bad run_names rows0 archive t (number_kept (codes "max") (rules run_names false) rows0 refl ∙ e) none)
    go name.Followers t m f e none =
        ap (run_with (flag_at run_names rows0 (codes "files")))
        (followers_bad run_names rows0 archive t (number_kept (codes "followers") (rules run_names false) rows0 refl ∙ e) none)
    go name.Archive t m f e none = absurd (true≢false f)
    go name.Files t m f e none = absurd (true≢false f)
    go name.LogOnly t m f e none = absurd (true≢false f)
    go name.OwnWrites t m f e none = absurd (true≢false f)
    go name.Threads t m f e none = absurd (true≢false f)
    go _ t m f e none = absurd (true≢false (sym m))

pub run_is : Reads (codes "run") run_names false plain
run_is = record {
  good = λ us said ok e d m.
      let text = text_is run_names (rules run_names false) plain us said ok e in
      let given = given_is run_names (rules run_names false) plain us said ok e in
      (λ i. run_with (given name.Files refl (flag_kept (codes "files") (rules run_names false) (map use_row us) refl) i)
      (drive_with (given name.Threads refl (flag_kept (codes "threads") (rules run_names false) (map use_row us) refl) i)
      (given name.LogOnly refl (flag_kept (codes "log-only") (rules run_names false) (map use_row us) refl) i)
      (given name.OwnWrites refl (flag_kept (codes "own-writes") (rules run_names false) (map use_row us) refl) i)
      (given name.Archive refl (flag_kept (codes "archive") (rules run_names false) (map use_row us) refl) i)
      (whole_is _ _ (text name.Turns refl (number_kept (codes "turns") (rules run_names false) (map use_row us) refl)) i)
      (or_is 0 MAX_TURNS DEFAULT_TURNS _ _
      (text name.Max refl (number_kept (codes "max") (rules run_names false) (map use_row us) refl)) i)
      (or_is 1 MAX_FOLLOWERS 0 _ _
      (text name.Followers refl (number_kept (codes "followers") (rules run_names false) (map use_row us) refl)) i)))
      ∙ good_options (are_members run_names said.options) (are_different said.options) (is_given name.Files said.options) said.values (given_run said.options) m
      (different_is run_names plain us said ok e ∙ d);
  bad = run_bad;
  other = λ said e. unfit_options (are_members run_names said.options) (are_different said.options) (is_given name.Files said.options) said.values (given_run said.options) e;
  twice = λ said e. twice_options (are_members run_names said.options) (are_different said.options) (is_given name.Files said.options) said.values (given_run said.options) e;
}

crash_bad : (rows0 : List Row) → Bad crash_names plain rows0 → read (codes "crash") crash_names false plain rows0 ≡ None
crash_bad rows0 (inr b) = absurd (true≢false (sym b.2))
crash_bad rows0 (inl b) = go b.0 b.1 b.2 b.3 b.4 b.5
  where
    fs : Bool
    fs = flag_at crash_names rows0 (codes "files")

    drive : Option Drive
    drive = drive_at crash_names rows0 false

    stop_log : Option (Option ℕ)
    stop_log = text_number (at crash_names rows0 (codes "stop-log"))

    stop_data : Option (Option ℕ)
    stop_data = text_number (at crash_names rows0 (codes "stop-data"))

    pick : Option ℕ
    pick = text_number_or 0 (2 ^ 64 - 1) 0 (at crash_names rows0 (codes "pick"))

    workers : Option ℕ
    workers = text_number_or 1 MAX_WORKERS 1 (at crash_names rows0 (codes "workers"))

    go : (n : Name) (t : Text) → is_member crash_names n ≡ true → is_flag n ≡ false → first_of (id n) rows0 ≡ Some t → word_number t ≡ None
        → read (codes "crash") crash_names false plain rows0 ≡ None
    go name.Turns t m f e none =
        ap (λ o. crash_with fs o stop_log stop_data pick workers) (seed_bad crash_names rows0 false t (number_kept (codes "turns") (rules crash_names false) rows0 refl ∙ e) none)
    go name.Max t m f e none =
        ap (λ o. crash_with fs o stop_log stop_data pick workers) (max_bad crash_names rows0 false t (number_kept (codes "max") (rules crash_names false) rows0 refl ∙ e) none)
    go name.Followers t m f e none =
        ap (λ o. crash_with fs o stop_log stop_data pick workers)
        (followers_bad crash_names rows0 false t
        (number_kept (codes "followers") (rules crash_names false) rows0 refl ∙ e) none)
    go name.StopLog t m f e none =
        ap (λ o. crash_with fs drive o stop_data pick workers)
        (number_bad (at crash_names rows0 (codes "stop-log")) t (number_kept (codes "stop-log") (rules crash_names false) rows0 refl ∙ e) none)
        ∙ no_stop_log fs drive stop_data pick workers
    go name.StopData t m f e none =
        ap (λ o. crash_with fs drive stop_log o pick workers)
        (number_bad (at crash_names rows0 (codes "stop-data")) t (number_kept (codes "stop-data") (rules crash_names false) rows0 refl ∙ e) none)
        ∙ no_stop_data fs drive stop_log pick workers
    go name.Pick t m f e none =
        ap (λ o. crash_with fs drive stop_log stop_data o workers)
        (or_bad 0 (2 ^ 64 - 1) 0 (at crash_names rows0 (codes "pick")) t (number_kept (codes "pick") (rules crash_names false) rows0 refl ∙ e) none)
        ∙ no_pick fs drive stop_log stop_data workers
    go name.Workers t m f e none =
        ap (λ o. crash_with fs drive stop_log stop_data pick o)
        (or_bad 1 MAX_WORKERS 1 (at crash_names rows0 (codes "workers")) t (number_kept (codes "workers") (rules crash_names false) rows0 refl ∙ e) none)
        ∙ no_workers fs drive stop_log stop_data pick
    go name.Files t m f e none = absurd (true≢false f)
    go name.LogOnly t m f e none = absurd (true≢false f)
    go name.OwnWrites t m f e none = absurd (true≢false f)
    go name.Threads t m f e none = absurd (true≢false f)
    go _ t m f e none = absurd (true≢false (sym m))

pub crash_is : Reads (codes "crash") crash_names false plain
crash_is = record {
  good = λ us said ok e d m.
      let text = text_is crash_names (rules crash_names false) plain us said ok e in
      let given = given_is crash_names (rules crash_names false) plain us said ok e in
      (λ i. crash_with (given name.Files refl (flag_kept (codes "files") (rules crash_names false) (map use_row us) refl) i)
      (drive_with (given name.Threads refl (flag_kept (codes "threads") (rules crash_names false) (map use_row us) refl) i)
      (given name.LogOnly refl (flag_kept (codes "log-only") (rules crash_names false) (map use_row us) refl) i)
      (given name.OwnWrites refl (flag_kept (codes "own-writes") (rules crash_names false) (map use_row us) refl) i)
      false
      (whole_is _ _ (text name.Turns refl (number_kept (codes "turns") (rules crash_names false) (map use_row us) refl)) i)
      (or_is 0 MAX_TURNS DEFAULT_TURNS _ _
      (text name.Max refl (number_kept (codes "max") (rules crash_names false) (map use_row us) refl)) i)
      (or_is 1 MAX_FOLLOWERS 0 _ _
      (text name.Followers refl (number_kept (codes "followers") (rules crash_names false) (map use_row us) refl)) i))
      (text name.StopLog refl (number_kept (codes "stop-log") (rules crash_names false) (map use_row us) refl) i)
      (text name.StopData refl (number_kept (codes "stop-data") (rules crash_names false) (map use_row us) refl) i)
      (whole_is _ _ (text name.Pick refl (number_kept (codes "pick") (rules crash_names false) (map use_row us) refl)) i)
      (or_is 1 MAX_WORKERS 1 _ _ (text name.Workers refl (number_kept (codes "workers") (rules crash_names false) (map use_row us) refl)) i))
      ∙ good_options (are_members crash_names said.options) (are_different said.options) (is_given name.Files said.options) said.values (given_crash said.options) m
      (different_is crash_names plain us said ok e ∙ d);
  bad = crash_bad;
  other = λ said e. unfit_options (are_members crash_names said.options) (are_different said.options) (is_given name.Files said.options) said.values (given_crash said.options) e;
  twice = λ said e. twice_options (are_members crash_names said.options) (are_different said.options) (is_given name.Files said.options) said.values (given_crash said.options) e;
}
