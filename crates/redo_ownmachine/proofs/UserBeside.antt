-- A turn of a user leaves the archive beside the actors of its run.
use Rattle.std.proofs.Common.{Bool, List, None, Option, Some, [], ap, arith, length, refl, set, slice_index, subst, suc, sym, zero, ℕ, ⊎_elim, ◌++◌, ◌+◌, ◌∙◌, ◌∷◌, ◌≡◌, ◌≤◌}
use Rattle.std.proofs.lemmas.List.{length-set}
use lib.ListN.{get_elem?}
use mathlib.Core.Option.{some, some-injective, some-ne-none}
use Rattle.model_core.specs.States as model
use Rattle.model_core.specs.{DataSide, LogSide, Entry, flat, layout_of, lsn, next, ReaderState, shared_left, SharedWords, words_left}
use Rattle.model_core.specs.declared.ops.Step.{Step}
use Rattle.model_core.specs.declared.words.Layout.{Layout}
use Rattle.model_ends.proofs.Sizes.{sn_within}
use Rattle.model_ends.specs.Bound.{bytes_of, last_lsn}
use Rattle.model_log.specs.{IsRunOf}
use Rattle.model_log.specs.declared.group.Whole.{Whole}
use Rattle.model_logcore.specs.{sum_over_actors, lengths}
use Rattle.model_own.specs.{all_actors, LogWork, OwnUser, own_next}
use Rattle.model_ownrun.proofs.OwnSeats.{own_same}
use Rattle.model_running.proofs.ArchiverStays.{rises}
use Rattle.model_running.proofs.FlatWords.{flat_left}
use Rattle.model_running.proofs.Groups.{run_of_log}
use Rattle.model_running.proofs.Turns.{next_words}
use Rattle.model_running.specs.Histories.{AreWholesOf}
use Rattle.redo_archive.specs.Part.{Part, PartArchives}
use Rattle.redo_archiver.proofs.Longer.{part-longer}
use Rattle.redo_archiver.specs.{KeepsPace}
use Rattle.redo_disk.specs.{Call, Seen}
use Rattle.redo_drive.proofs.ArchiveGroups.{front_of}
use Rattle.redo_drive.proofs.ArchiveTurns.{flushed_reserved}
use Rattle.redo_drive.specs.{HasComeTo, IsBeside, StandsBeside, lists_of, RunOf, run_data_side, run_log_side, views_of}
use Rattle.redo_drive.specs.declared.actor.Actor.{Actor}
use Rattle.redo_drive.specs.declared.parts.Parts.{Parts}
use Rattle.redo_ownmachine.proofs.From.{log_on, told_earlier}
use Rattle.redo_ownmachine.proofs.Plays.{IsOpOf, plays_as}
use Rattle.redo_ownmachine.specs.OwnSeats.{OwnSeats, actors_of}
use Rattle.redo_ownmachine.specs.OwnStore.{OwnRunsWith}
use Rattle.redo_ownmachine.specs.Serving.{IsUserServed}

-- the readers of the log sit behind the users, the writer and the flusher
reader_stays : (users left : List OwnUser) (k k' : LogWork) (os : List model.Actor) → length left ≡ length users
    → (j : ℕ) (r : ReaderState) → get_elem? (all_actors users k os) j ≡ some (model.Reader r)
    → get_elem? (all_actors left k' os) j ≡ some (model.Reader r)
reader_stays [] [] k k' os same zero r at =
    let z = some-injective (model.Writer k.writer) (model.Reader r) at in absurd (cc)
reader_stays [] [] k k' os same (suc zero) r at =
    let z = some-injective (model.Flusher k.flusher) (model.Reader r) at in absurd (cc)
reader_stays [] [] k k' os same (suc (suc j)) r at = at
reader_stays [] (y ∷ ys) k k' os same j r at = absurd (omega arith)
reader_stays (x ∷ xs) [] k k' os same j r at = absurd (omega arith)
reader_stays (x ∷ xs) (y ∷ ys) k k' os same zero r at =
    let z = some-injective (model.User x.user) (model.Reader r) at in absurd (cc)
reader_stays (x ∷ xs) (y ∷ ys) k k' os same (suc j) r at = reader_stays xs ys k k' os (omega arith) j r at

-- the lines of the users stay
work_aside : (k left : LogWork) (os : List model.Actor) (users : List OwnUser)
    → sum_over_actors bytes_of (all_actors users left os) ≡ sum_over_actors bytes_of (all_actors users k os)
work_aside k left os [] = refl
work_aside k left os (x ∷ xs) = ap (λ (n : ℕ). bytes_of (model.User x.user) + n) (work_aside k left os xs)

lines_stay : (k left : LogWork) (os : List model.Actor) (users : List OwnUser) (seat : ℕ) (o x : OwnUser)
    → get_elem? users seat ≡ some o → bytes_of (model.User x.user) ≡ bytes_of (model.User o.user)
    → sum_over_actors bytes_of (all_actors (set users seat x) left os) ≡ sum_over_actors bytes_of (all_actors users k os)
lines_stay k left os [] seat o x at same = absurd (some-ne-none o (sym at))
lines_stay k left os (y ∷ ys) zero o x at same =
    let rest = work_aside k left os ys in
    let who : bytes_of (model.User y.user) ≡ bytes_of (model.User o.user) =
    ap (λ (z : OwnUser). bytes_of (model.User z.user)) (some-injective y o at) in
    omega arith
lines_stay k left os (y ∷ ys) (suc seat) o x at same =
    ap (λ (n : ℕ). bytes_of (model.User y.user) + n) (lines_stay k left os ys seat o x at same)

module _ {L D R : Type 0} {archive : Bool} (log_seen : L → Seen) (data_seen : D → Seen) (run : RunOf L D)
    (old new : Parts L D) (users : List OwnUser) (work left : LogWork) (others : List (Actor R)) (seat : ℕ)
    (who then : OwnUser) (step : Step) (at : get_elem? users seat ≡ some who)
    (served : IsUserServed log_seen data_seen run old who work step new then left)
    (before : OwnRunsWith log_seen data_seen run archive old
    (record { users = users; work = work; others = views_of others }))
    (later : OwnRunsWith log_seen data_seen run archive new
    (record { users = set users seat then; work = left; others = views_of others })) where
  abbrev E : LogSide
  E = run_log_side log_seen data_seen run

  abbrev F : DataSide
  F = run_data_side log_seen data_seen run

  abbrev seats : OwnSeats
  seats = record { users = users; work = work; others = views_of others }

  abbrev after : OwnSeats
  after = record { users = set users seat then; work = left; others = views_of others }

  many : length (set users seat then) ≡ length users
  many = length-set users seat then

  abbrev before_flushed : ℕ
  before_flushed = slice_index old.words.words 3

  abbrev now_flushed : ℕ
  now_flushed = slice_index new.words.words 3

  -- FLUSHED doesn't go back: each of its Ops is one of a running store, or leaves it
  up : before_flushed ≤ now_flushed
  up = ⊎_elim stays by_actor (plays_as E old.log users work (views_of others) before.errands seat who at old.words.layout
      old.words.words 3 (λ e. omega arith))
    where
      stays : slice_index (words_left old.words.layout old.words.words (own_next who work)) 3 ≡ before_flushed → before_flushed ≤ now_flushed
      stays same =
          let now : now_flushed ≡ slice_index (words_left old.words.layout old.words.words (own_next who work)) 3 =
          ap (λ (ws : List ℕ). slice_index ws 3) served.played.words in
          omega arith

      by_actor : IsOpOf users work (views_of others) who → before_flushed ≤ now_flushed
      by_actor is =
          let W = before.runs.running in
          let m : SharedWords = W.shared in
          let there = next_words E F run.setup m W.log_ghost W.page_ghost (lists_of old.lists) old.log old.store
          (actors_of seats) is.seat W.both is.who is.there in
          let words : ◌≡◌ {A = List ℕ} new.words.words (flat (shared_left m (next is.who))) =
          served.played.words ∙ ap (words_left old.words.layout old.words.words) is.ops
          ∙ ap (λ (ws : List ℕ). words_left old.words.layout ws (next is.who)) W.flat_is
          ∙ ap (λ (l : Layout). words_left l (flat m) (next is.who)) W.layout_is
          ∙ flat_left (layout_of run.setup) m W.both.logged.sized (next is.who) there in
          let now : now_flushed ≡ (shared_left m (next is.who)).flushed = ap (λ (ws : List ℕ). slice_index ws 3) words in
          let was : before_flushed ≡ m.flushed = ap (λ (ws : List ℕ). slice_index ws 3) W.flat_is in
          let rise = rises E F run.setup m W.log_ghost W.page_ghost (lists_of old.lists) old.log old.store
          (actors_of seats) is.seat W.both served.played.code new.log is.who is.there in
          omega arith

  lines_same : last_lsn run.setup (actors_of after) ≡ last_lsn run.setup (actors_of seats)
  lines_same = ap (λ (n : ℕ). lsn (run.setup.base + n)) (lines_stay work left (views_of others) users seat who then at
      (ap (λ (o : OwnUser). bytes_of (model.User o.user)) served.user ∙ ap lengths (own_same who work served.answer).1))

  within : (limit : ℕ) → last_lsn run.setup (actors_of seats) ≤ limit → now_flushed ≤ limit
  within limit all =
      let W = later.runs.running in
      let low = flushed_reserved log_seen data_seen run new (actors_of after) later.runs in
      let most = sn_within E run.setup W.shared W.log_ghost new.log (actors_of after) W.both.logged in
      let lines = lines_same in omega arith

  stays_there : (j : ℕ) (r : ReaderState) → get_elem? (actors_of seats) j ≡ some (model.Reader r)
      → get_elem? (actors_of after) j ≡ some (model.Reader r)
  stays_there = reader_stays users (set users seat then) work left (views_of others) many

  was_there : (j : ℕ) (r : ReaderState) → get_elem? (actors_of after) j ≡ some (model.Reader r)
      → get_elem? (actors_of seats) j ≡ some (model.Reader r)
  was_there = reader_stays (set users seat then) users left work (views_of others) (sym many)

  module _ {X : Type 0} (seen : X → Seen)
      (law : (limit flushed more : ℕ) (r : ReaderState) (part : Part X) → flushed ≤ more → more ≤ limit
      → KeepsPace seen limit flushed r part → KeepsPace seen limit more r part) where
    stands : (part : Part X) → StandsBeside seen run.setup old.words.words (actors_of seats) part
        → StandsBeside seen run.setup new.words.words (actors_of after) part
    stands part S = record {
      seat = S.seat;
      archiver = S.archiver;
      at = stays_there S.seat S.archiver S.at;
      only = λ j r there kind. S.only j r (was_there j r there) kind;
      start = S.start;
      limit = S.limit;
      all = (let e = lines_same in let z = S.all in omega arith);
      pace = law S.limit before_flushed now_flushed S.archiver part up (within S.limit S.all) S.pace;
      asked = record {
        later = S.asked.later;
        most = (let high = S.asked.most in let risen = up in omega arith);
      };
    }

    -- THE ARCHIVE STANDS BESIDE THE ACTORS.
    pub beside_user : (part : Option (Part X)) → IsBeside seen run.setup old.words.words (actors_of seats) part
        → IsBeside seen run.setup new.words.words (actors_of after) part
    beside_user None none = λ j r there. none j r (was_there j r there)
    beside_user (Some part) S = stands part S

    -- THE RUN THAT CAME TO THE MACHINE has come to it then.
    pub come_user : (gives : X → Call → X → Type 0) (first part : Option (Part X))
        → HasComeTo log_seen data_seen seen gives run old (actors_of seats) before.runs first part
        → HasComeTo log_seen data_seen seen gives run new (actors_of after) later.runs first part
    come_user gives None None none = λ j r there. none j r (was_there j r there)
    come_user gives None (Some part) come = absurd come
    come_user gives (Some first) None come = absurd come
    come_user gives (Some first) (Some part) C = record {
      beside = stands part C.beside;
      same = C.same;
      archives = λ told pages begun wholes are.
          let goes = log_on log_seen data_seen run old new users work left (views_of others) seat who then step at served
          before later in
          let V = later.runs.running in
          let f = front_of before.runs.running.log_ghost.log goes.0 wholes
          (subst (λ (l : List Entry). AreWholesOf l wholes) goes.1 are) in
          let runs : IsRunOf (lsn run.setup.base) (f.early ++ f.more) = subst (IsRunOf (lsn run.setup.base)) f.are
          (run_of_log V.log_ghost.log run.setup.base V.shared.sn wholes V.both.logged.global.tiled.tiles are) in
          subst (λ (l : List Whole). PartArchives seen pages l part) (sym f.are)
          (part-longer seen pages f.early f.more part
          (subst (λ (s : ℕ). IsRunOf s (f.early ++ f.more)) (sym C.beside.start) runs)
          (C.archives (told_earlier log_seen data_seen run old new users work left (views_of others) seat who then step
          at served before later told) pages begun f.early f.of_log));
    }
