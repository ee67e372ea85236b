-- A run whose users write for themselves begins as any run does.
use Rattle.std.proofs.Common.{Bool, List, [], ap, append_assoc, arith, false, length, map, refl, subst, suc, sym, true, zero, ℕ, ◌++◌, ◌+◌, ◌<◌, ◌∙◌, ◌∷◌, ◌≡◌, ◌≤◌}
use Rattle.std.specs.Prelude.{IfSome}
use Rattle.model_base.specs.declared.limits.TheConstants.{LSN_LIMIT}
use Rattle.model_core.specs.States as model
use Rattle.model_core.specs.{Setup, Given, lsn, new_flusher, new_writer, FlusherState, UserState, WriterState}
use Rattle.model_log.specs.{lsn_of, run_layout, sn_of, stream_of}
use Rattle.model_logcore.specs.{left_to_reserve, sum_over_actors}
use Rattle.model_logcore.specs.Start.{flusher_start, writer_start}
use Rattle.model_own.specs.{all_actors, LogWork, OwnUser}
use Rattle.model_ownrun.proofs.OwnRuns.{alone_starts, own_starts}
use Rattle.model_ownrun.proofs.Seats.{flusher_seat, flusher_there, writer_seat, writer_there}
use Rattle.model_ownrun.specs.OwnStart.{OwnStart}
use Rattle.model_running.proofs.Places.{lsn_is, sn_back}
use Rattle.model_running.specs.StartStore.{StartStore}
use Rattle.model_script.specs.{group_of, script_end}
use Rattle.model_script.specs.declared.misfit.TheConstants.{MARGIN}
use Rattle.model_script.specs.declared.script.ScriptLine.{ScriptLine}
use Rattle.redo_disk.specs.{Seen}
use Rattle.redo_drive.proofs.ScriptRoom.{actors_reserve, room_for_all}
use Rattle.redo_drive.specs.Begins.{BeginsWith}
use Rattle.redo_drive.specs.{RunOf, run_data_side, run_log_side, RunsWith, MayBegin, room_from, views_of}
use Rattle.redo_drive.specs.Setups.{followers_from, page_actors, readers_of, users_of}
use Rattle.redo_drive.specs.declared.actor.Actor.{Actor}
use Rattle.redo_drive.specs.declared.making.Beginning.{Beginning}
use Rattle.redo_drive.specs.declared.parts.Parts.{Parts}
use Rattle.redo_drive.specs.declared.seating.TheConstants.{FIRST_FOLLOWER}
use Rattle.redo_drive.specs.declared.plan.Plan.{Plan}
use Rattle.redo_follow.specs.Following.{Following}
use Rattle.redo_ownmachine.proofs.OpenSeats.{same_rest, tail_of}
use Rattle.redo_ownmachine.proofs.Places.{crew_views}
use Rattle.redo_ownmachine.proofs.Serves.{its_data_laws, its_log_laws}
use Rattle.redo_ownmachine.proofs.Sorting.{AreOtherViews, by_views}
use Rattle.redo_ownmachine.specs.OwnStore.{OwnBeginsRun, own_core_of, OwnAlone, OwnRunsWith}
use Rattle.redo_ownmachine.specs.OwnCrew.{HasRoom, HaveWorkers, crew, crew_of, seats_of}
use Rattle.redo_ownmachine.specs.OwnSeats.{AreAtHome, OwnSeats, actors_of}
use Rattle.redo_ownmachine.specs.declared.machine.OwnMachine.{OwnMachine}
use Rattle.redo_store.specs.declared.opened.Opened.{Opened}

-- the followers, and the actors of the pages, are others
followers_other : (start number n : ℕ) → AreOtherViews (followers_from start number n)
followers_other start number zero = tt
followers_other start number (suc n) = (tt, followers_other start (number + 1) n)

readers_other : (start : ℕ) (plan : Plan) → AreOtherViews (readers_of start plan)
readers_other start plan = by plan.archive
  where
    by : (b : Bool) → AreOtherViews (readers_of start (record plan { archive = b }))
    by true = (tt, followers_other start FIRST_FOLLOWER plan.followers)
    by false = followers_other start FIRST_FOLLOWER plan.followers

module _ {L D R : Type 0} (log_seen : L → Seen) (data_seen : D → Seen) (stands : R → List Given → Type 0)
    (opened : Opened L D) (script : List ScriptLine) (plan : Plan) (followers : List (Following R))
    (start : Beginning L D R)
    (begins : BeginsWith log_seen data_seen stands opened script plan followers start) where
  abbrev run : RunOf L D
  run = begins.run

  abbrev c : Setup
  c = run.setup

  abbrev pages : Bool → List model.Actor
  pages b = page_actors opened.shape opened.start (record plan { log_only = b }) ++ readers_of opened.start plan

  pages_other : (b : Bool) → AreOtherViews (pages b)
  pages_other true = readers_other opened.start plan
  pages_other false = (tt, (tt, (tt, readers_other opened.start plan)))

  -- the log alone has no actors of pages
  no_pages : (b : Bool) → ◌≡◌ {A = List model.Actor} (pages b) [] → b ≡ true
  no_pages true none = refl
  no_pages false none = absurd (cc)

  abbrev users : List UserState
  users = users_of opened.shape plan.log_only script

  abbrev writer : WriterState
  writer = new_writer (run_layout opened.shape).blocks opened.start

  abbrev flusher : FlusherState
  flusher = new_flusher opened.start

  views_are : ◌≡◌ {A = List model.Actor} (views_of start.actors.items)
      (map model.User users ++ model.Writer writer ∷ model.Flusher flusher ∷ pages plan.log_only)
  views_are = begins.stands.are_new ∙ append_assoc (map model.User users)
      (model.Writer writer ∷ model.Flusher flusher ∷ page_actors opened.shape opened.start plan)
      (readers_of opened.start plan)

  pub have_workers : HaveWorkers start.actors.items
  have_workers = by_views start.actors.items users writer flusher (pages plan.log_only) views_are
      (pages_other plan.log_only)

  -- where these are the actors
  module _ (may : MayBegin opened script plan.log_only) (us : List OwnUser) (k : LogWork) (os : List (Actor R))
      (are : ◌≡◌ {A = List (Actor R)} (crew us k os) start.actors.items) (home : AreAtHome us) where
    abbrev seats : OwnSeats
    seats = record { users = us; work = k; others = views_of os }

    views : ◌≡◌ {A = List model.Actor} (views_of start.actors.items) (actors_of seats)
    views = ap views_of (sym are) ∙ crew_views k us os

    store : StartStore (run_log_side log_seen data_seen run) (run_data_side log_seen data_seen run) c
        begins.at_start.words start.parts.log start.parts.store begins.at_start.seat_of begins.at_start.writer
        (actors_of seats)
    store = subst (λ (l : List model.Actor). StartStore (run_log_side log_seen data_seen run)
        (run_data_side log_seen data_seen run) c begins.at_start.words start.parts.log start.parts.store
        begins.at_start.seat_of begins.at_start.writer l) views begins.at_start.starts

    work_is : k ≡ record { writer = writer_start c; flusher = flusher_start c }
    work_is =
        let w = (store.each (writer_seat us) (model.Writer k.writer) (writer_there us k (views_of os))).1 in
        let f = (store.each (flusher_seat us) (model.Flusher k.flusher) (flusher_there us k (views_of os))).1 in
        λ i. record { writer = w i; flusher = f i }

    base : c.base ≡ sn_of opened.start
    base = sym (sn_back c.base) ∙ ap sn_of begins.is_run.start

    reserve : sum_over_actors left_to_reserve (actors_of seats)
        ≡ length (stream_of (map (group_of opened.shape.space) script))
    reserve = ap (sum_over_actors left_to_reserve) (sym views ∙ begins.stands.are_new)
        ∙ actors_reserve opened.shape script opened.start plan may.fits.lines

    own_start : OwnStart (run_log_side log_seen data_seen run) (run_data_side log_seen data_seen run) c
        (own_core_of log_seen data_seen run start.parts seats)
    own_start = record {
      shared = begins.at_start.words;
      layout_is = begins.from.runs.running.layout_is;
      flat_is = begins.at_start.words_are;
      lists_are = λ i n. begins.at_start.none_listed n i;
      seat_of = begins.at_start.seat_of;
      writer = begins.at_start.writer;
      store = store;
      work = work_is;
      users = home;
      room = subst (λ (n : ℕ). lsn (n + sum_over_actors left_to_reserve (actors_of seats)) < LSN_LIMIT) (sym base)
          (subst (λ (l : List model.Actor). lsn (sn_of opened.start + sum_over_actors left_to_reserve l) < LSN_LIMIT)
          (sym begins.stands.are_new ∙ views)
          (room_for_all opened.shape script opened.start plan may.fits.lines may.fits.end));
    }

    pub runs : OwnRunsWith log_seen data_seen run plan.archive start.parts seats
    runs = record {
      runs = subst (λ (l : List model.Actor). RunsWith log_seen data_seen run plan.archive start.parts l) views
          begins.from.runs;
      errands = (own_starts (run_log_side log_seen data_seen run) (its_log_laws log_seen data_seen run)
          (run_data_side log_seen data_seen run) (its_data_laws log_seen data_seen run) c
          (own_core_of log_seen data_seen run start.parts seats) own_start).errands;
    }

    -- with one user and no other actor
    module _ (o : OwnUser) (one : us ≡ o ∷ []) (no_others : ◌≡◌ {A = List model.Actor} (views_of os) []) where
      in_order : (k.writer ≡ writer) × ◌≡◌ {A = List model.Actor} (model.Flusher k.flusher ∷ views_of os)
          (model.Flusher flusher ∷ pages plan.log_only)
      in_order = same_rest us users k.writer writer (model.Flusher k.flusher ∷ views_of os)
          (model.Flusher flusher ∷ pages plan.log_only) (sym views ∙ views_are)

      log_only_is : plan.log_only ≡ true
      log_only_is = no_pages plan.log_only (sym (ap tail_of in_order.1) ∙ no_others)

      its_blocks : c.blocks ≡ (run_layout opened.shape).blocks
      its_blocks = sym (ap (λ (w : LogWork). w.writer.blocks) work_is) ∙ ap (λ (w : WriterState). w.blocks) in_order.0

      all_its : left_to_reserve (model.User o.user) + 0 ≡ length (stream_of (map (group_of opened.shape.space) script))
      all_its = sym (ap (λ (l : List OwnUser). sum_over_actors left_to_reserve (all_actors l k (views_of os))) one
          ∙ ap (λ (l : List model.Actor). sum_over_actors left_to_reserve (all_actors (o ∷ []) k l)) no_others)
          ∙ reserve

      ends_by : lsn (c.base + left_to_reserve (model.User o.user)) ≡ script_end opened.shape opened.start script
      ends_by =
          let text : ℕ = length (stream_of (map (group_of opened.shape.space) script)) in
          let all = all_its in
          lsn_is (c.base + left_to_reserve (model.User o.user))
          ∙ ap (λ (n : ℕ). lsn_of (n + left_to_reserve (model.User o.user))) base
          ∙ ap (λ (n : ℕ). lsn_of (sn_of opened.start + n))
          (let z : left_to_reserve (model.User o.user) ≡ text = omega arith in z)

      pub alone : OwnAlone log_seen data_seen run start.parts seats
      alone = alone_starts (run_log_side log_seen data_seen run) (its_log_laws log_seen data_seen run)
          (run_data_side log_seen data_seen run) (its_data_laws log_seen data_seen run) c
          (own_core_of log_seen data_seen run start.parts seats) own_start o (begins.is_run.log_only_is ∙ log_only_is)
          one no_others
          (let by = ends_by in
          let place = begins.is_run.start in
          let blocks = its_blocks in
          let fits = subst (λ (b : Bool). IfSome (room_from b opened.shape opened.start)
          (λ end. script_end opened.shape opened.start script + MARGIN ≤ end))
          log_only_is may.fits.room in
          omega arith)

-- So the machine stands at the beginning of the run.
module _ {L D A R : Type 0} (log_seen : L → Seen) (data_seen : D → Seen)
    (stands : R → List Given → Type 0) (opened : Opened L D) (script : List ScriptLine) (plan : Plan)
    (followers : List (Following R)) (start : Beginning L D R)
    (begins : BeginsWith log_seen data_seen stands opened script plan followers start)
    (may : MayBegin opened script plan.log_only) (m : OwnMachine L D A R) (parts : m.parts ≡ start.parts)
    (entries : m.entries ≡ start.entries) (are : ◌≡◌ {A = List (Actor R)} (crew_of m) start.actors.items)
    (home : AreAtHome m.users.items) (room : HasRoom m) where
  pub own_begins : OwnBeginsRun log_seen data_seen stands opened script plan followers m
  own_begins = record {
    start = start;
    begins = begins;
    parts = parts;
    entries = entries;
    crew = are;
    at_home = home;
    has_room = room;
    runs = subst (λ (p : Parts L D). OwnRunsWith log_seen data_seen begins.run plan.archive p (seats_of m)) (sym parts)
        (runs log_seen data_seen stands opened script plan followers start begins may m.users.items m.work
        m.others.items are home);
    alone = λ o one none. subst (λ (p : Parts L D). OwnAlone log_seen data_seen begins.run p (seats_of m)) (sym parts)
        (alone log_seen data_seen stands opened script plan followers start begins may m.users.items m.work
        m.others.items are home o one none);
  }
