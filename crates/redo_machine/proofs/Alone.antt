-- A run with the log alone and without archiver and followers starts as one that ends, so the turns that it spends are fewer than the
-- greatest number.
use Rattle.std.proofs.Common.{Bool, List, [], ap, arith, cond, drop, false, length, length-append, map, refl, subst, suc, sym, true, zero, ℕ, ◌++◌, ◌+◌, ◌<◌, ◌==◌, ◌∙◌, ◌∷◌, ◌≡◌, ◌≤◌}
use Rattle.std.specs.Prelude.{IfSome, is_some}
use lib.ListN.{get_elem?}
use mathlib.Core.Option.{some, some-injective, some-ne-none}
use Rattle.model_base.specs.declared.limits.TheConstants.{MAX_LOG_BLOCKS}
use Rattle.model_core.proofs.Lsns.{lsn_le}
use Rattle.model_core.specs.{Actor, collected, Core, FlusherState, Given, Line, lsn, new_flusher, new_user, new_writer, UserState, WriterState, Setup}
use Rattle.model_core.specs.States as actor
use Rattle.model_ends.proofs.Greatest as greatest
use Rattle.model_ends.proofs.Sizes.{sum_less}
use Rattle.model_ends.specs.Alone.{AreLogActors, IsLogActor, StartsAlone}
use Rattle.model_ends.specs.Bound.{bytes_of, last_lsn}
use Rattle.model_log.specs.{lsn_of, run_layout, sn_of, stream_of}
use Rattle.model_logcore.proofs.NewUsers.{new_user_is}
use Rattle.model_logcore.specs.{left_to_reserve, StartActor, sum_over_actors, lengths}
use Rattle.model_running.proofs.Places.{lsn_is, sn_back}
use Rattle.model_running.specs.{IsSpent, plain_store}
use Rattle.model_script.specs.{group_of, script_end}
use Rattle.model_script.specs.declared.misfit.TheConstants.{MARGIN, MAX_USERS}
use Rattle.model_script.specs.declared.script.ScriptLine.{ScriptLine}
use Rattle.model_script.specs.declared.words.TheConstants.{MAX_TURNS}
use Rattle.redo_disk.specs.{Seen}
use Rattle.redo_drive.proofs.DataPartLaws.{data_laws}
use Rattle.redo_drive.proofs.LogPartLaws.{log_laws}
use Rattle.redo_drive.proofs.ScriptRoom.{actors_reserve}
use Rattle.redo_drive.specs.Begins.{BeginsWith}
use Rattle.redo_drive.specs.DataPartSide as data_part
use Rattle.redo_drive.specs.LogPartSide as log_part
use Rattle.redo_drive.specs.{RunOf, run_data_side, run_log_side, core_of, MayBegin, room_from, views_of}
use Rattle.redo_drive.specs.Setups.{programs_of, seated_actors, user_of, users_below, users_of}
use Rattle.redo_drive.specs.declared.making.Beginning.{Beginning}
use Rattle.redo_drive.specs.declared.plan.Plan.{Plan}
use Rattle.redo_follow.specs.Following.{Following}
use Rattle.redo_store.specs.declared.opened.Opened.{Opened}

-- the users, and behind them the writer and the flusher
abbrev in_seats : List UserState → WriterState → FlusherState → List Actor
in_seats users s t = (map actor.User users ++ actor.Writer s ∷ actor.Flusher t ∷ []) ++ []

each_at : (users : List UserState) (s : WriterState) (t : FlusherState) (seat : ℕ) (a : Actor) → get_elem? (in_seats users s t) seat ≡ some a → IsLogActor a
each_at [] s t zero a at = subst IsLogActor (some-injective (actor.Writer s) a at) tt
each_at [] s t (suc zero) a at = subst IsLogActor (some-injective (actor.Flusher t) a at) tt
each_at [] s t (suc (suc i)) a at = absurd (some-ne-none a (sym at))
each_at (u ∷ users) s t zero a at = subst IsLogActor (some-injective (actor.User u) a at) tt
each_at (u ∷ users) s t (suc i) a at = each_at users s t i a at

writer_at : (users : List UserState) (s : WriterState) (t : FlusherState) → get_elem? (in_seats users s t) (length users) ≡ some (actor.Writer s)
writer_at [] s t = refl
writer_at (u ∷ users) s t = writer_at users s t

flusher_at : (users : List UserState) (s : WriterState) (t : FlusherState) → get_elem? (in_seats users s t) (suc (length users)) ≡ some (actor.Flusher t)
flusher_at [] s t = refl
flusher_at (u ∷ users) s t = flusher_at users s t

as_many : (users : List UserState) (s : WriterState) (t : FlusherState) → length (in_seats users s t) ≡ length users + 2
as_many [] s t = refl
as_many (u ∷ users) s t = let z = as_many users s t in omega arith

one_user : (b : Bool) (u : UserState) → length (cond b [] (u ∷ [])) ≤ 1
one_user true u = omega arith
one_user false u = omega arith

few_users : (blocks : ℕ) (programs : ℕ → List Line) (n : ℕ) → length (users_below blocks programs n) ≤ n
unfolding collected
few_users blocks programs zero = omega arith
few_users blocks programs (suc n) =
    let before = few_users blocks programs n in
    let one = one_user (length (programs n) == 0) (new_user n blocks (programs n)) in
    let long = length-append (users_below blocks programs n) (user_of blocks programs n) in omega arith

-- a new actor may still reserve all its bytes
all_left : (lines : List Line) → lengths (drop 0 lines) ≡ lengths lines
all_left [] = refl
all_left (x ∷ xs) = refl

of_actor : (c : Setup) (seat_of : ℕ → ℕ) (writer seat : ℕ) (a : Actor) → StartActor c seat_of writer seat a → bytes_of a ≤ left_to_reserve a
of_actor c seat_of writer seat (actor.User u) h =
    let all = ap (λ (starts : List ℕ). lengths (drop (length starts) u.lines)) (new_user_is c u h.1).starts ∙ all_left u.lines in omega arith
of_actor c seat_of writer seat (actor.Writer s) h = omega arith
of_actor c seat_of writer seat (actor.Flusher t) h = omega arith
of_actor c seat_of writer seat (actor.Closer t) h = omega arith
of_actor c seat_of writer seat (actor.Cleaner t) h = omega arith
of_actor c seat_of writer seat (actor.Checkpointer t) h = omega arith
of_actor c seat_of writer seat (actor.Reader t) h = omega arith

-- WHAT THE LINES COME TO ends where the script does.
module _ {L D R : Type 0} (log_seen : L → Seen) (data_seen : D → Seen) (stands : R → List Given → Type 0)
    (opened : Opened L D) (script : List ScriptLine) (plan : Plan) (followers : List (Following R))
    (start : Beginning L D R)
    (begins : BeginsWith log_seen data_seen stands opened script plan followers start)
    (may : MayBegin opened script plan.log_only) where
  pub lines_end : last_lsn begins.run.setup (views_of start.actors.items) ≤ script_end opened.shape opened.start script
  lines_end =
      let c : Setup = begins.run.setup in
      let actors : List Actor = views_of start.actors.items in
      let text : ℕ = length (stream_of (map (group_of opened.shape.space) script)) in
      let base : c.base ≡ sn_of opened.start = sym (sn_back c.base) ∙ ap sn_of begins.is_run.start in
      let all = ap (sum_over_actors left_to_reserve) begins.stands.are_new
      ∙ actors_reserve opened.shape script opened.start plan may.fits.lines in
      let less = sum_less bytes_of left_to_reserve actors (λ seat a at. of_actor c begins.at_start.seat_of begins.at_start.writer seat a (begins.at_start.starts.each seat a at)) in
      let low = lsn_le (c.base + sum_over_actors bytes_of actors) (c.base + text) (omega arith) in
      let same = lsn_is (c.base + text) ∙ ap (λ (n : ℕ). lsn_of (n + text)) base in omega arith

module _ {L D R : Type 0} (log_seen : L → Seen) (data_seen : D → Seen) (stands : R → List Given → Type 0)
    (opened : Opened L D) (script : List ScriptLine) (plan : Plan) (followers : List (Following R))
    (start : Beginning L D R)
    (begins : BeginsWith log_seen data_seen stands opened script plan followers start)
    (may : MayBegin opened script plan.log_only)
    (alone : plan.log_only ≡ true) (unarchived : plan.archive ≡ false) (none : plan.followers ≡ 0) where
  abbrev run : RunOf L D
  run = begins.run

  abbrev c : Setup
  c = run.setup

  abbrev actors : List Actor
  actors = views_of start.actors.items

  abbrev first : Core (run_log_side log_seen data_seen run) (run_data_side log_seen data_seen run)
  first = core_of log_seen data_seen run start.parts actors

  abbrev users : List UserState
  users = users_of opened.shape true script

  abbrev writer : WriterState
  writer = new_writer (run_layout opened.shape).blocks opened.start

  abbrev flusher : FlusherState
  flusher = new_flusher opened.start

  only : c.log_only ≡ true
  only = begins.is_run.log_only_is ∙ alone

  only_log : plan ≡ record { log_only = true; archive = false; followers = 0 }
  only_log = λ i. record { log_only = alone i; archive = unarchived i; followers = none i }

  actors_are : ◌≡◌ {A = List Actor} actors (in_seats users writer flusher)
  actors_are = begins.stands.are_new
      ∙ ap (λ (p : Plan). seated_actors opened.shape script opened.start p) only_log

  are_log_actors : AreLogActors actors
  are_log_actors = subst AreLogActors (sym actors_are) (record {
    each = each_at users writer flusher;
    writer = (length users, writer, writer_at users writer flusher);
    flusher = (suc (length users), flusher, flusher_at users writer flusher);
  })

  seats : length actors ≤ MAX_USERS + 3
  seats = let same = ap (λ (l : List Actor). length l) actors_are ∙ as_many users writer flusher in omega (arith, few_users (run_layout opened.shape).blocks (programs_of opened.shape true script) (MAX_USERS + 1))

  its_blocks : c.blocks ≡ (run_layout opened.shape).blocks
  its_blocks =
      let at = subst (λ (l : List Actor). get_elem? l (length users) ≡ some (actor.Writer writer)) (sym actors_are) (writer_at users writer flusher) in
      sym (ap (λ (s : WriterState). s.blocks) (begins.at_start.starts.each (length users) (actor.Writer writer) at).1)

  few_blocks : c.blocks ≤ MAX_LOG_BLOCKS
  few_blocks = let same = its_blocks in let few = may.runnable.limits.few_blocks in omega arith

  starts_alone : StartsAlone (run_log_side log_seen data_seen run) (run_data_side log_seen data_seen run) c first
  starts_alone = record {
    log_only = only;
    words = begins.at_start.words;
    layout_is = begins.from.runs.running.layout_is;
    flat_is = begins.at_start.words_are;
    seat_of = begins.at_start.seat_of;
    writer = begins.at_start.writer;
    store = begins.at_start.starts;
    lists = λ k i. begins.at_start.none_listed i k;
    actors = are_log_actors;
    sound = ap (λ (p : _). is_some p.failed) begins.log ∙ ap is_some may.runnable.log_live;
    short = (let by = lines_end log_seen data_seen stands opened script plan followers start begins
        may in let end = may.fits.end in omega arith);
    room =
        let by = lines_end log_seen data_seen stands opened script plan followers start begins may in
        let place = begins.is_run.start in
        let blocks = its_blocks in
        let fits = subst (λ (b : Bool). IfSome (room_from b opened.shape opened.start) (λ end. script_end opened.shape opened.start script + MARGIN ≤ end)) alone may.fits.room in
        omega arith;
  }

  pub spent_are_fewer : (seed max user : ℕ) (last : Core (run_log_side log_seen data_seen run) (run_data_side log_seen data_seen run))
      → IsSpent (plain_store (run_log_side log_seen data_seen run) (run_data_side log_seen data_seen run)) seed max user
      first last → max < MAX_TURNS
  spent_are_fewer seed max user last = greatest.spent_are_fewer (run_log_side log_seen data_seen run) (run_data_side log_seen data_seen run)
      (log_laws log_seen (log_seen run.first_log.dev).faults run.first_log.marks.number (log_part.HasBegun log_seen (lsn c.base) run.first_log))
      (data_laws data_seen (data_seen run.first_data.dev).faults run.shape (data_part.HasBegun data_seen c.opened run.first_data))
      c first starts_alone few_blocks seats 0 seed max user first last refl
