-- A turn of a user that writes for itself takes FLUSHED no further back, and the log only goes on.
use Rattle.std.proofs.Common.{Bool, List, ap, arith, cond, eqb, false, refl, set, slice_index, subst, sym, true, ℕ, ◌∙◌, ◌≡◌, ◌≤◌}
use lib.ListN.{get_elem?}
use mathlib.Core.Option.{some}
use Rattle.model_core.specs.States as model
use Rattle.model_core.specs.{DataSide, LogSide, Entry, flat, flusher_op, layout_of, next, OpWords, shared_left, SharedWords, words_left, writer_op}
use Rattle.model_core.specs.declared.words.Layout.{Layout}
use Rattle.model_core.specs.declared.ops.Op.{Op}
use Rattle.model_core.specs.declared.ops.Op.TheVariants as op
use Rattle.model_core.specs.declared.ops.Step.{Step}
use Rattle.model_core.specs.declared.words.Word.TheVariants as word
use Rattle.model_own.specs.{errand_op, LogWork, OwnUser}
use Rattle.model_own.specs.declared.errand.ErrandStep.{ErrandStep}
use Rattle.model_own.specs.declared.errand.ErrandStep.TheVariants as errand_step
use Rattle.model_ownrun.proofs.Seats.{flusher_seat, flusher_there, user_there, writer_seat, writer_there}
use Rattle.model_running.proofs.ArchiverStays.{rises}
use Rattle.model_running.proofs.FlatWords.{flat_left}
use Rattle.model_running.proofs.Turns.{next_words}
use Rattle.redo_disk.specs.{Seen}
use Rattle.redo_drive.specs.{lists_of, run_data_side, run_log_side, RunOf}
use Rattle.redo_drive.specs.declared.parts.Parts.{Parts}
use Rattle.redo_ownmachine.proofs.Grows.{all_no_fewer, groups_sum, no_fewer}
use Rattle.redo_ownmachine.proofs.Serves.{goes_on}
use Rattle.redo_ownmachine.proofs.Unique.{AtLeast, GoesOn, log_goes_on}
use Rattle.redo_ownmachine.specs.OwnSeats.{actors_of, OwnSeats}
use Rattle.redo_ownmachine.specs.OwnStore.{OwnRunsWith}
use Rattle.redo_ownmachine.specs.Serving.{IsUserServed}
use Rattle.redo_ownuser.specs.OwnFits.{WorkGoesOn}

module _ {L D : Type 0} {archive : Bool} (log_seen : L → Seen) (data_seen : D → Seen) (run : RunOf L D) (old new : Parts L D)
    (users : List OwnUser) (work left : LogWork) (os : List model.Actor) (seat : ℕ) (who then : OwnUser) (step : Step)
    (at : get_elem? users seat ≡ some who)
    (served : IsUserServed log_seen data_seen run old who work step new then left)
    (before : OwnRunsWith log_seen data_seen run archive old (record { users = users; work = work; others = os }))
    (later : OwnRunsWith log_seen data_seen run archive new (record { users = set users seat then; work = left; others = os }))
  where
    abbrev A : LogSide
    A = run_log_side log_seen data_seen run

    abbrev B : DataSide
    B = run_data_side log_seen data_seen run

    abbrev seats : OwnSeats
    seats = record { users = users; work = work; others = os }

    abbrev m : SharedWords
    m = before.runs.running.shared

    abbrev Up : Op → Type 0
    Up o = slice_index old.words.words 3 ≤ slice_index (words_left old.words.layout old.words.words o) 3

    -- by what an Op leaves of FLUSHED
    up_by : (o : Op) → OpWords (layout_of run.setup) o → m.flushed ≤ (shared_left m o).flushed → Up o
    up_by o there rise =
        let W = before.runs.running in
        let words : ◌≡◌ {A = List ℕ} (words_left old.words.layout old.words.words o) (flat (shared_left m o)) =
        ap (λ (ws : List ℕ). words_left old.words.layout ws o) W.flat_is
        ∙ ap (λ (l : Layout). words_left l (flat m) o) W.layout_is ∙ flat_left (layout_of run.setup) m W.both.logged.sized o there in
        let now : slice_index (words_left old.words.layout old.words.words o) 3 ≡ (shared_left m o).flushed =
        ap (λ (ws : List ℕ). slice_index ws 3) words in
        let was : slice_index old.words.words 3 ≡ m.flushed = ap (λ (ws : List ℕ). slice_index ws 3) W.flat_is in
        omega arith

    -- an Op that an actor asks for
    up_of : (i : ℕ) (a : model.Actor) → get_elem? (actors_of seats) i ≡ some a → Up (next a)
    up_of i a there =
        let W = before.runs.running in
        up_by (next a)
        (next_words A B run.setup m W.log_ghost W.page_ghost (lists_of old.lists) old.log old.store (actors_of seats) i W.both
        a there)
        (rises A B run.setup m W.log_ghost W.page_ghost (lists_of old.lists) old.log old.store (actors_of seats) i W.both
        served.played.code new.log a there)

    up_taking : (b : Bool) → m.flushed ≤ (cond b (record m { device = 1 }) m).flushed
    up_taking true = omega arith
    up_taking false = omega arith

    up_errand : (b : Bool) (x : ErrandStep) → who.user.checks ≡ b → WorkGoesOn x work
        → Up (cond b (op.Load word.Failed) (errand_op who work x))
    up_errand true x is on = omega arith
    up_errand false errand_step.Done is on =
        subst (λ (b : Bool). Up (cond b (op.Load word.Failed) (errand_op who work errand_step.Done))) is
        (up_of seat (model.User who.user) (user_there users work os seat who at))
    up_errand false errand_step.TakeDevice is on = up_by op.TakeDevice tt (up_taking (eqb m.device 0))
    up_errand false errand_step.GiveBroken is on = up_by op.GiveDevice tt (omega arith)
    up_errand false errand_step.Write is on =
        subst (λ (b : Bool). Up (cond b (op.Load word.Failed) (writer_op work.writer work.writer.step))) on
        (up_of (writer_seat users) (model.Writer work.writer) (writer_there users work os))
    up_errand false errand_step.Flush is on =
        subst (λ (b : Bool). Up (cond b (op.Load word.Failed) (flusher_op work.flusher work.flusher.step))) on
        (up_of (flusher_seat users) (model.Flusher work.flusher) (flusher_there users work os))

    pub flushed_up : slice_index old.words.words 3 ≤ slice_index new.words.words 3
    flushed_up = subst (λ (ws : List ℕ). slice_index old.words.words 3 ≤ slice_index ws 3) (sym served.played.words)
        (up_errand who.user.checks who.errand refl
        (goes_on log_seen data_seen run old seats before seat who at who.errand refl))

    abbrev log : List Entry
    log = before.runs.running.log_ghost.log

    abbrev log_now : List Entry
    log_now = later.runs.running.log_ghost.log

    more : AtLeast log log_now
    more h =
        let all = all_no_fewer h work left os users seat who then at
        (subst (λ (o : OwnUser). groups_sum h (model.User who.user) ≤ groups_sum h (model.User o.user)) (sym served.user)
        (no_fewer h who work served.answer)) in
        let one = before.runs.running.both.logged.counted h in
        let two = later.runs.running.both.logged.counted h in omega arith

    pub log_longer : GoesOn log log_now before.runs.running.shared.sn later.runs.running.shared.sn
    log_longer =
        let W = before.runs.running in
        let V = later.runs.running in
        let tiled = W.both.logged.global.tiled in
        let tiled_now = V.both.logged.global.tiled in
        log_goes_on run.setup run.setup.base W.shared.sn V.shared.sn log log_now tiled.tiles tiled_now.tiles
        (λ i e is. let l = tiled.lines i e is in (l.1, l.2)) (λ i e is. let l = tiled_now.lines i e is in (l.1, l.2))
        more
