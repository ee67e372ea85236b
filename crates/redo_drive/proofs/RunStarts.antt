-- New actors, the words of a start and empty lists stand at the beginning of a run.
use Rattle.std.proofs.Common.{Bool, List, None, Option, Some, [], ap, append-nil, arith, cond, false, length, ltb, map, refl, slice_get, slice_index, subst, suc, sym, true, zero, ℕ, ◌%◌, ◌*◌, ◌+◌, ◌-◌, ◌/◌, ◌<◌, ◌∙◌, ◌∷◌, ◌≡◌, ◌≤◌}
use Rattle.std.proofs.lemmas.Bool.{le-ltb}
use Rattle.std.proofs.lemmas.List.{get_or_past}
use Rattle.std.specs.List.{AllByRecursion}
use Rattle.std.specs.Prelude.{IfSome}
use lib.ListN.{get_elem?}
use mathlib.Core.Option.{some, some-injective}
use native.Mathlib.Decide.{dec_le}
use Rattle.model_base.specs.declared.limits.TheConstants.{LSN_LIMIT}
use Rattle.model_base.specs.declared.shape.Shape.{Shape}
use Rattle.model_core.proofs.Groups.{tiles_le}
use Rattle.model_core.specs.{Actor, archives, change_at, changes_of, Entry, flat, Given, layout_of, Line, line_at, Listed, lsn, Tiles, UserState, DataSide, LogSide, Setup}
use Rattle.model_core.specs.States as actor
use Rattle.model_core.specs.declared.words.Layout.{Layout}
use Rattle.model_device.specs.{Disk}
use Rattle.model_running.proofs.Groups.{line_below}
use Rattle.model_running.proofs.Scripted.{scripted}
use Rattle.model_report.specs.{lines_of_user}
use Rattle.model_logcore.specs.{left_to_reserve, StartPart, sum_over_actors}
use Rattle.model_parts.specs.{first_marks, first_tails, start_of}
use Rattle.model_parts.specs.declared.marks.LogMarks.{LogMarks}
use Rattle.model_log.specs.{IsAtDataStart, lsn_of, run_layout, sn_of}
use Rattle.model_log.specs.declared.layout.TheConstants.{BLOCK_DATA}
use Rattle.model_page.specs.declared.content.Content.{Content}
use Rattle.model_theorem.specs.{IsStart}
use Rattle.model_running.proofs.StartRunning.{store_starts}
use Rattle.model_running.specs.{AreSeated, IsRunning}
use Rattle.model_running.specs.Watermarks.{RunningStore}
use Rattle.model_running.specs.StartStore.{StartStore}
use Rattle.model_script.specs.{group_of, IsScriptLine, LineFits}
use Rattle.model_script.specs.declared.script.ScriptLine.{ScriptLine}
use Rattle.model_store.specs.{Reading}
use Rattle.redo_drive.proofs.DataPartStarts as data_starting
use Rattle.redo_drive.proofs.DataPartStarts.{StartsHolding}
use Rattle.redo_disk.specs.{Seen}
use Rattle.redo_drive.proofs.LogPartStarts as log_starting
use Rattle.redo_drive.specs.LogPartSide as log_side
use Rattle.redo_drive.proofs.Begun.{data_begun, log_begun}
use Rattle.model_running.proofs.LineBytes.{GetsBytes, changes_get_bytes}
use Rattle.redo_drive.proofs.FirstUsers.{AreFirstUsers}
use Rattle.redo_drive.proofs.StartActors.{IsNew, are_new, are_seated}
use Rattle.redo_drive.proofs.StartWordsPages.{has_opened_pages}
use Rattle.redo_drive.proofs.UserLines.{of_script, of_user}
use Rattle.redo_drive.specs.Beginning.{HaveBegun}
use Rattle.redo_drive.specs.Startable.{HasNewFollowers, HasReading}
use Rattle.redo_drive.specs.Begins.{BeginsOn, begun_on, IsOwnOf}
use Rattle.redo_drive.specs.LiveActors.{live_plan}
use Rattle.redo_drive.specs.Lists.{Listings, empty_lists, lists_of}
use Rattle.redo_drive.specs.Running.{RunOf, run_data_side, run_log_side, groups_of, RunsFromWith, RunsWith, core_of}
use Rattle.redo_drive.specs.Receiving.{follower_of, HasGot, IsSameFollower}
use Rattle.redo_drive.specs.Setups.{first_reader, programs_of, with_others}
use Rattle.redo_drive.specs.StartWords.{setup_of, AreStartWords, StartsOn}
use Rattle.redo_drive.specs.History.{view_of, views_of}
use Rattle.redo_drive.specs.declared.actor.Actor as own_actor
use Rattle.redo_drive.specs.declared.making.Beginning.{Beginning}
use Rattle.redo_drive.specs.declared.memory.Own.{Own}
use Rattle.redo_drive.specs.declared.plan.Plan.{Plan}
use Rattle.redo_drive.specs.declared.seating.TheConstants.{FIRST_FOLLOWER}
use Rattle.model_core.specs.declared.limits.TheConstants.{READERS}
use Rattle.redo_follow.specs.Following.{Following}
use Rattle.redo_store.specs.{IsRunnable}
use Rattle.redo_store.specs.declared.opened.Opened.{Opened}

-- no page is in an empty list
none_listed : (pages i : ℕ) → ◌≡◌ {A = List Listed} (lists_of (empty_lists pages) i) []
none_listed pages zero = refl
none_listed pages (suc zero) = refl
none_listed pages (suc (suc zero)) = refl
none_listed pages (suc (suc (suc zero))) = refl
none_listed pages (suc (suc (suc (suc i)))) = refl

-- the first data byte of a block has as many before it as the blocks before
sn_at_start : (start : ℕ) → IsAtDataStart start → sn_of start ≡ start / 512 * BLOCK_DATA
sn_at_start start place =
    let first : ltb (start % 512) 12 ≡ false = le-ltb (start % 512) 12 (omega arith) in
    let last : ltb 508 (start % 512) ≡ false = le-ltb 508 (start % 512) (omega arith) in
    ap (λ (b : Bool). start / 512 * BLOCK_DATA + cond b 0 (cond (ltb 508 (start % 512)) BLOCK_DATA (start % 512 - 12))) first
    ∙ ap (λ (b : Bool). start / 512 * BLOCK_DATA + cond b BLOCK_DATA (start % 512 - 12)) last ∙ omega arith

-- so its lsn comes back from its sn
pub lsn_at_start : (start : ℕ) → IsAtDataStart start → lsn (sn_of start) ≡ start
unfolding lsn
lsn_at_start start place = ap lsn_of (sn_at_start start place) ∙ omega arith

-- the cells that lines change get bytes
lines_get_bytes : (shape : Shape) (pages : List Content) (start : ℕ) (script : List ScriptLine) (log_only : Bool)
    → AllByRecursion (LineFits shape) script
    → (user j k : ℕ) → GetsBytes (change_at (line_at (programs_of shape log_only script user) j).changes k)
lines_get_bytes shape pages start script log_only fits user j k = elim (dec_le (length (programs_of shape log_only script user)) j) [
  | yes past ↦ subst (λ (line : Line). GetsBytes (change_at line.changes k)) (sym (get_or_past (programs_of shape log_only script user) j (record { mode = 0; bytes = []; changes = [] }) past)) (λ i. omega arith)
  | no there ↦ (
      let is = of_script shape pages start script 0 (live_plan log_only) (omega arith) in
      let count = is.count user in
      let one = line_below (lines_of_user user script) j (omega arith) in
      subst (λ (line : Line). GetsBytes (change_at line.changes k)) (sym (is.each user j one.0 one.1)) (by log_only one.0 (of_user (LineFits shape) script user j one.0 fits one.1).0))
]
  where
    by : (b : Bool) (one : ScriptLine) → LineFits shape one → GetsBytes (change_at (cond b [] (changes_of shape (group_of shape.space one))) k)
    by true one fit = λ i. omega arith
    by false one fit = changes_get_bytes shape (group_of shape.space one) fit.has_text.each k

-- what holds of what both devices tell
if_told : (log_told data_told : Option Disk) (P : Disk → Disk → Type 0) → ((log_disk data_disk : Disk) → log_told ≡ Some log_disk → data_told ≡ Some data_disk → P log_disk data_disk)
    → IfSome log_told (λ log_disk. IfSome data_told (λ data_disk. P log_disk data_disk))
if_told None data_told P is = tt
if_told (Some log_disk) None P is = tt
if_told (Some log_disk) (Some data_disk) P is = is log_disk data_disk refl refl

-- a log that ends where it begins has no group
pub no_log : (s n : ℕ) (log : List Entry) → Tiles s log n → n ≡ s → ◌≡◌ {A = List Entry} log []
no_log s n [] tiles is = refl
no_log s n (e ∷ es) tiles is =
    absurd (let some = tiles.1 in let up = tiles_le es (s + length e.bytes) n tiles.3 in omega arith)

-- so no groups of it are handed on
none_of_log : (a : Actor) → ◌≡◌ {A = List Given} (groups_of a []) []
none_of_log (actor.Reader r) = by (archives r)
  where
    by : (b : Bool) → ◌≡◌ {A = List Given} (cond b [] []) []
    by true = refl
    by false = refl
none_of_log (actor.User u) = refl
none_of_log (actor.Writer s) = refl
none_of_log (actor.Flusher t) = refl
none_of_log (actor.Closer t) = refl
none_of_log (actor.Cleaner v) = refl
none_of_log (actor.Checkpointer t) = refl

same_follower : {R : Type 0} (f : Option (Following R)) → IsSameFollower f f
same_follower None = tt
same_follower (Some f) = refl

got_none : {R : Type 0} (stands : R → List Given → Type 0) (f : Option (Following R)) → HasGot stands f [] f
got_none stands None = tt
got_none stands (Some f) = λ before is. subst (λ (l : List Given). stands f.receiver l) (sym (append-nil before)) is

-- A RUN OF A SCRIPT CAN BEGIN on the store, a live one or not, with these users.
pub record CanBegin {L D R : Type 0} (opened : Opened L D) (script : List ScriptLine) (live : Bool) (plan : Plan)
    (followers : List (Following R)) (seat_of : ℕ → ℕ) (users : List UserState) : Type 0 where
  pub runnable : IsRunnable opened
  pub lines : AllByRecursion IsScriptLine script
  pub fits : AllByRecursion (LineFits opened.shape) script
  pub new : HasNewFollowers plan opened.start followers
  pub firsts : AreFirstUsers live (run_layout opened.shape).blocks (programs_of opened.shape plan.log_only script)
      seat_of users
  -- the log has room for all that the actors may reserve
  pub room : lsn (sn_of opened.start + sum_over_actors left_to_reserve (with_others (map actor.User users) opened.shape
      opened.start plan)) < LSN_LIMIT

module _ {L D R : Type 0} (log_seen : L → Seen) (data_seen : D → Seen) (stands : R → List Given → Type 0)
    (opened : Opened L D) (script : List ScriptLine) (live : Bool) (plan : Plan) (followers : List (Following R))
    (seat_of : ℕ → ℕ) (users : List UserState) (can : CanBegin opened script live plan followers seat_of users)
    (own : Own R) (owns : IsOwnOf opened.shape opened.pages opened.start (with_others (map actor.User users)
    opened.shape opened.start plan) plan.archive followers (length script) own) where
  -- the run
  abbrev setup : Setup
  setup = setup_of opened.shape opened.pages opened.start script (length users) plan

  abbrev run : RunOf L D
  run = record { setup = setup; live = live; shape = opened.shape; first_log = opened.log; first_data = opened.store }

  abbrev log_part : LogSide
  log_part = run_log_side log_seen data_seen run

  abbrev data_part : DataSide
  data_part = run_data_side log_seen data_seen run

  abbrev writer : ℕ
  writer = length users

  abbrev start : Beginning L D R
  start = begun_on opened own

  few : FIRST_FOLLOWER + plan.followers ≤ READERS
  few = let all = can.new.new.few in let many = can.new.many in omega arith

  place : lsn setup.base ≡ opened.start
  place = lsn_at_start opened.start can.runnable.place

  even : setup.base % BLOCK_DATA ≡ 0
  even = let e = sn_at_start opened.start can.runnable.place in omega arith

  starts_on : StartsOn opened.start opened.shape opened.pages setup
  starts_on = record {
    begins = place;
    count = sym can.runnable.its_pages.count;
    page_size = refl;
    opened = λ p there. refl;
    early = can.runnable.not_ahead;
  }

  -- the words and the actors are those of the start
  words : AreStartWords own.words.words setup
  words = owns.words setup starts_on

  fit : (user k : ℕ) (one : ScriptLine) → slice_get (lines_of_user user script) k ≡ Some one → LineFits opened.shape one
  fit user k one at = (of_user (LineFits opened.shape) script user k one can.fits at).0

  new_actors : (seat : ℕ) (a : Actor) → get_elem? (views_of own.actors.items) seat ≡ some a → IsNew setup seat_of writer seat a
  new_actors seat a at = are_new opened.shape opened.pages opened.start script live plan
      few can.lines can.fits seat_of users can.firsts place seat a
      (subst (λ (actors : List Actor). get_elem? actors seat ≡ some a) owns.actors at)

  -- and so are both parts
  log_starts : StartPart log_part setup opened.log
  log_starts = log_starting.part_starts log_seen setup opened.log.marks.number opened.log even
      (let small = can.runnable.small in let z = place in omega arith)
      (ap (λ (s : Shape). (run_layout s).blocks) can.runnable.log_shape) can.runnable.log_live
      (can.runnable.log_marks ∙ ap (λ (n : ℕ). let marks : LogMarks = first_marks n opened.log.marks.number in marks) (sym place))

  data_starts : StartsHolding data_part setup opened.store
  data_starts = data_starting.part_starts data_seen setup opened.shape opened.store can.runnable.data_shape can.runnable.data_live

  -- what stands at its start
  store_start : StartStore log_part data_part setup words.by_name opened.log opened.store seat_of writer (views_of own.actors.items)
  store_start = record {
    script = scripted setup script opened.shape can.runnable.limits refl refl refl (of_script opened.shape opened.pages
        opened.start script (length users) plan few) fit;
    some_page = can.runnable.limits.some_pages;
    words = words.of_log;
    page_words = words.of_pages;
    log_part = log_starts;
    stored = data_starts.stored;
    sound = data_starts.sound;
    each = λ seat a at. (new_actors seat a at).start;
    with_pages = λ seat t at. (new_actors seat (actor.Checkpointer t) at).with_pages;
  }

  none_at : (i : ℕ) → ◌≡◌ {A = List Listed} (lists_of own.lists i) []
  none_at i = ap (λ (lists : Listings). let l : List Listed = lists_of lists i in l) owns.lists ∙ none_listed opened.shape.pages i

  -- the invariant holds
  is_running : IsRunning log_part data_part setup (core_of log_seen data_seen run start.parts (views_of own.actors.items))
  is_running =
      let room : lsn (setup.base + sum_over_actors left_to_reserve (views_of own.actors.items)) < LSN_LIMIT =
      subst (λ (actors : List Actor). lsn (setup.base + sum_over_actors left_to_reserve actors) < LSN_LIMIT) (sym owns.actors)
      can.room in
      let none : ◌≡◌ {A = ℕ → List Listed} (lists_of own.lists) (λ _. []) = λ k i. none_at i k in
      subst (λ (layout : Layout). RunningStore log_part data_part setup layout own.words.words (lists_of own.lists) opened.log
      opened.store (views_of own.actors.items)) (sym owns.layout)
      (subst (λ (lists : ℕ → List Listed). RunningStore log_part data_part setup (layout_of setup) own.words.words lists opened.log
      opened.store (views_of own.actors.items)) (sym none)
      (store_starts log_part data_part setup words.by_name opened.log opened.store seat_of writer (views_of own.actors.items) store_start own.words.words words.in_order room))

  runs : RunsWith log_seen data_seen run plan.archive start.parts (views_of own.actors.items)
  runs = record {
    limits = can.runnable.limits;
    started = (let low = can.runnable.first in omega (arith, place));
    its_pages = refl;
    its_page_size = refl;
    followers = none_archives plan.archive;
    bytes = record {
      opened = owns.bytes;
      cells = λ user j k i. lines_get_bytes opened.shape opened.pages opened.start
          script plan.log_only can.fits user j k i;
    };
    its_slots = refl;
    list_pages = ap (λ (lists : Listings). lists.pages) owns.lists;
    running = is_running;
    seated = subst (AreSeated live setup) (sym owns.actors) (are_seated opened.shape opened.pages opened.start script
        live plan few can.lines can.fits seat_of users can.firsts);
  }
    where
      none_archives : (b : Bool) → cond b (Unit {0}) (0 < first_reader b)
      none_archives true = tt
      none_archives false = omega arith

  -- nothing has been handed on
  empty : ◌≡◌ {A = List Entry} runs.running.log_ghost.log []
  empty =
      let W = runs.running in
      let words_same : ◌≡◌ {A = List ℕ} (flat W.shared) (flat words.by_name) = sym W.flat_is ∙ words.in_order in
      let sn : W.shared.sn ≡ words.by_name.sn = ap (λ (ws : List ℕ). slice_index ws 0) words_same in
      no_log setup.base W.shared.sn W.log_ghost.log W.both.logged.global.tiled.tiles (sn ∙ words.of_log.sn)

  from : RunsFromWith log_seen data_seen stands run plan.archive own.actors.items start.parts own.actors.items
  from = record {
    runs = runs;
    count = refl;
    same = λ seat a b at there. subst (λ (z : own_actor.Actor R). IsSameFollower (follower_of a) (follower_of z))
        (some-injective a b (sym at ∙ there)) (same_follower (follower_of a));
    got = λ told seat a b at there. subst (λ (z : own_actor.Actor R).
        HasGot stands (follower_of a) (groups_of (view_of z) runs.running.log_ghost.log) (follower_of z))
        (some-injective a b (sym at ∙ there))
        (subst (λ (l : List Given). HasGot stands (follower_of a) l (follower_of a))
        (sym (ap (groups_of (view_of a)) empty ∙ none_of_log (view_of a))) (got_none stands (follower_of a)));
  }

  -- where the store was ready, its devices hold what was opened
  holds_opened : (reading : Reading) (log_disk data_disk : Disk) → HasReading reading opened
      → (log_seen opened.log.dev).tells ≡ Some log_disk → (data_seen opened.store.dev).tells ≡ Some data_disk
      → IsStart reading script log_disk data_disk → HaveBegun log_seen data_seen run
  holds_opened reading log_disk data_disk reads log_tells data_tells is =
      let start : opened.start ≡ start_of reading = reads.start in record {
        log = subst (λ (n : ℕ). log_side.HasBegun log_seen n opened.log) (sym (place ∙ start))
            (log_begun reading script log_disk data_disk is log_seen opened.log (can.runnable.log_shape ∙ reads.shape) can.runnable.log_live
            (can.runnable.log_marks ∙ ap (λ (n : ℕ). let marks : LogMarks = first_marks n opened.log.marks.number in marks) start ∙ ap (λ (n : ℕ). let marks : LogMarks = first_marks (start_of reading) n in marks) reads.number)
            (can.runnable.log_tails ∙ ap first_tails start) log_tells);
        data_part = data_begun reading script log_disk data_disk is data_seen opened.shape opened.pages opened.store reads.shape reads.pages can.runnable.data_shape can.runnable.data_live data_tells;
      }

  -- its parts and actors stand at the beginning of the run
  pub begins : BeginsOn log_seen data_seen stands opened script live plan followers
      (with_others (map actor.User users) opened.shape opened.start plan) start
  begins = record {
    run = run;
    is_run = record {
      shape = refl;
      first_log = refl;
      first_data = refl;
      start = place;
      live_is = refl;
      log_only_is = refl;
      first_is = refl;
      last_reader = refl;
      of_script = of_script opened.shape opened.pages opened.start script (length users) plan few;
      its_pages = has_opened_pages setup (record { shape = opened.shape; pages = opened.pages; end = 0 }) can.runnable.limits can.runnable.its_pages (sym can.runnable.its_pages.count) refl (λ p there. refl);
    };
    at_start = record {
      words = words.by_name;
      words_are = words.in_order;
      seat_of = seat_of;
      writer = writer;
      starts = store_start;
      none_listed = none_at;
    };
    stands = record {
      words = words;
      are_new = owns.actors;
      log = refl;
      data_part = refl;
      none_listed = none_at;
    };
    from = from;
    many = can.new.many;
    followers = owns.readers;
    words = owns.first;
    log = refl;
    data_part = refl;
    no_entries = owns.no_entries;
    room = owns.room;
    begun = λ reading reads. if_told (log_seen opened.log.dev).tells (data_seen opened.store.dev).tells (λ log_disk data_disk. IsStart reading script log_disk data_disk → HaveBegun log_seen data_seen run)
        (λ log_disk data_disk log_tells data_tells is.
        holds_opened reading log_disk data_disk reads log_tells data_tells is);
  }
