-- A turn of a user leaves the groups of the log, and those that followers have handed on.
use Rattle.std.proofs.Common.{Bool, List, [], arith, cond, false, refl, set, subst, sym, true, ℕ, ◌≡◌, ◌≤◌}
use lib.ListN.{get_elem?}
use mathlib.Core.Option.{some}
use Rattle.model_core.specs.States as model
use Rattle.model_core.specs.{DataSide, LogSide, archives, Entry, flusher_op, Given, lent, LogServed, next, writer_op}
use Rattle.model_core.specs.declared.ops.Op.TheVariants as op
use Rattle.model_core.specs.declared.ops.Step.{Step}
use Rattle.model_core.specs.declared.words.Word.TheVariants as word
use Rattle.model_own.specs.{LogWork, OwnUser, errand_lends, errand_op}
use Rattle.model_own.specs.declared.errand.ErrandStep.{ErrandStep}
use Rattle.model_own.specs.declared.errand.ErrandStep.TheVariants as errand_step
use Rattle.model_ownrun.proofs.Seats.{flusher_seat, flusher_there, writer_seat, writer_there}
use Rattle.model_ownrun.proofs.UserPart.{user_keeps_part}
use Rattle.model_running.proofs.Following.{bound_upto}
use Rattle.model_running.proofs.LogCalls.{told_before}
use Rattle.model_running.specs.ReadHalf.{FollowerHas, groups_upto, HasByKind, ReaderHas}
use Rattle.redo_disk.specs.{Seen}
use Rattle.redo_drive.specs.{RunOf, run_data_side, run_log_side, groups_of}
use Rattle.redo_drive.specs.declared.parts.Parts.{Parts}
use Rattle.redo_ownmachine.proofs.Grows.{all_no_fewer, groups_sum, no_fewer}
use Rattle.redo_ownmachine.proofs.Serves.{goes_on, its_data_laws, its_log_laws}
use Rattle.redo_ownmachine.proofs.Unique.{AtLeast, GoesOn, groups_stay, log_goes_on}
use Rattle.redo_ownmachine.specs.OwnSeats.{OwnSeats, actors_of}
use Rattle.redo_ownmachine.specs.OwnStore.{OwnRunsWith}
use Rattle.redo_ownmachine.specs.Serving.{IsUserServed}
use Rattle.redo_ownuser.specs.OwnFits.{WorkGoesOn}

module _ {L D : Type 0} {archive : Bool} (log_seen : L → Seen) (data_seen : D → Seen) (run : RunOf L D) (old new : Parts L D)
    (users : List OwnUser) (work left : LogWork) (os : List model.Actor) (seat : ℕ) (who then : OwnUser) (step : Step)
    (at : get_elem? users seat ≡ some who)
    (served : IsUserServed log_seen data_seen run old who work step new then left)
    (before : OwnRunsWith log_seen data_seen run archive old (record { users = users; work = work; others = os }))
    (later : OwnRunsWith log_seen data_seen run archive new (record { users = set users seat then; work = left; others = os }))
  where
    abbrev A : LogSide
    A = run_log_side log_seen data_seen run

    abbrev B : DataSide
    B = run_data_side log_seen data_seen run

    abbrev seats : OwnSeats
    seats = record { users = users; work = work; others = os }

    abbrev log : List Entry
    log = before.runs.running.log_ghost.log

    abbrev log_now : List Entry
    log_now = later.runs.running.log_ghost.log

    -- where the log device tells after it, it told before it
    told_at : (i : ℕ) (a : model.Actor) → get_elem? (actors_of seats) i ≡ some a → A.Tells new.log
        → LogServed A old.log (lent a) (next a) served.played.code new.log → A.Tells old.log
    told_at i a there told by_it =
        let W = before.runs.running in
        told_before A (its_log_laws log_seen data_seen run) B (its_data_laws log_seen data_seen run) run.setup W.shared
        W.log_ghost W.page_ghost _ old.log old.store (actors_of seats) i W.both served.played.code new.log told a there
        by_it

    told_by : A.Tells new.log → (b : Bool) (x : ErrandStep) → who.user.checks ≡ b → WorkGoesOn x work
        → LogServed A old.log (errand_lends work x) (cond b (op.Load word.Failed) (errand_op who work x))
        served.played.code new.log → A.Tells old.log
    told_by told true x is on by_it = subst A.Tells by_it told
    told_by told false errand_step.Done is on by_it =
        subst A.Tells (user_keeps_part A old.log new.log served.played.code who.user who.user.step by_it) told
    told_by told false errand_step.TakeDevice is on by_it = subst A.Tells by_it told
    told_by told false errand_step.GiveBroken is on by_it = subst A.Tells by_it told
    told_by told false errand_step.Write is on by_it =
        told_at (writer_seat users) (model.Writer work.writer) (writer_there users work os) told
        (subst (λ (z : Bool). LogServed A old.log (model.Blocks work.writer.kept work.writer.firsts)
        (cond z (op.Load word.Failed) (writer_op work.writer work.writer.step)) served.played.code new.log) (sym on) by_it)
    told_by told false errand_step.Flush is on by_it =
        told_at (flusher_seat users) (model.Flusher work.flusher) (flusher_there users work os) told
        (subst (λ (z : Bool). LogServed A old.log model.Nothing
        (cond z (op.Load word.Failed) (flusher_op work.flusher work.flusher.step)) served.played.code new.log) (sym on)
        by_it)

    pub told_earlier : A.Tells new.log → A.Tells old.log
    told_earlier told = told_by told who.user.checks who.errand refl
        (goes_on log_seen data_seen run old seats before seat who at who.errand refl) served.played.log_served

    -- the log only goes on
    more : AtLeast log log_now
    more h =
        let all = all_no_fewer h work left os users seat who then at
        (subst (λ (o : OwnUser). groups_sum h (model.User who.user) ≤ groups_sum h (model.User o.user)) (sym served.user)
        (no_fewer h who work served.answer)) in
        let one = before.runs.running.both.logged.counted h in
        let two = later.runs.running.both.logged.counted h in omega arith

    pub log_on : GoesOn log log_now before.runs.running.shared.sn later.runs.running.shared.sn
    log_on =
        let W = before.runs.running in
        let V = later.runs.running in
        let tiled = W.both.logged.global.tiled in
        let tiled_now = V.both.logged.global.tiled in
        log_goes_on run.setup run.setup.base W.shared.sn V.shared.sn log log_now tiled.tiles tiled_now.tiles
        (λ i e is. let l = tiled.lines i e is in (l.1, l.2)) (λ i e is. let l = tiled_now.lines i e is in (l.1, l.2)) more

    -- so the groups that a follower has handed on stay the same
    pub groups_same : A.Tells new.log → (j : ℕ) (a : model.Actor) → get_elem? (actors_of seats) j ≡ some a
        → ◌≡◌ {A = List Given} (groups_of a log_now) (groups_of a log)
    groups_same told j (model.Reader r) there = by (archives r) refl
      where
        by : (b : Bool) → archives r ≡ b
            → ◌≡◌ {A = List Given} (cond b [] (groups_upto r.at log_now)) (cond b [] (groups_upto r.at log))
        by true kind = refl
        by false kind =
            let W = before.runs.running in
            let V = later.runs.running in
            let tiled = W.both.logged.global.tiled in
            let H : ReaderHas run.setup W.shared log j r =
            (W.both.reading (told_earlier told)).each j (model.Reader r) there in
            let F : FollowerHas run.setup W.shared log r =
            subst (λ (b : Bool). HasByKind run.setup W.shared log b r) kind H.has in
            groups_stay r.at W.shared.sn V.shared.sn log log_now
            (bound_upto log run.setup.base W.shared.sn r.at tiled.tiles F.bound) log_on
    groups_same told j (model.User u) there = refl
    groups_same told j (model.Writer s) there = refl
    groups_same told j (model.Flusher t) there = refl
    groups_same told j (model.Closer t) there = refl
    groups_same told j (model.Cleaner v) there = refl
    groups_same told j (model.Checkpointer t) there = refl
