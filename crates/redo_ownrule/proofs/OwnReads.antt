-- A turn of a user that writes for itself leaves what was read of pages.
use Rattle.std.proofs.Common.{Bool, List, ap, arith, cond, eqb, false, inl, length-set, refl, set, subst, sym, true, ℕ}
use Rattle.std.proofs.Common.{◌%◌, ◌+◌, ◌<◌, ◌∙◌, ◌≡◌, ◌≤◌}
use Rattle.std.specs.Prelude.{slice_index, slice_set}
use lib.ListN.{get_elem?}
use mathlib.Core.Option.{some}
use Rattle.model_core.proofs.Groups.{tiles_at, tiles_le}
use Rattle.model_core.proofs.Lsns.{lsn_less}
use Rattle.model_core.specs.States as model
use Rattle.model_core.specs.Sides.{DataSide, LogSide}
use Rattle.model_core.specs.declared.words.Layout.{Layout}
use Rattle.model_core.specs.declared.words.Word.{Word}
use Rattle.model_core.specs.declared.ops.Op.{Op}
use Rattle.model_core.specs.declared.ops.Op.TheVariants as op
use Rattle.model_core.specs.declared.ops.Step.{Step}
use Rattle.model_core.specs.declared.words.Word.TheVariants as word
use Rattle.model_core.specs.{end_of, flat, flusher_op, index, IsSized, layout_of, lsn, next, OpWords, page_words_at, read, shared_left, SharedWords, sn_at, words_left, writer_op, wrote}
use Rattle.model_logcore.proofs.Same.{cells_sized, clinks_sized, firsts_sized, lists_sized, numbers_sized, page_sized, places_sized, wlinks_sized}
use Rattle.model_own.specs.OwnWrites.{errand_op, LogWork, OwnUser}
use Rattle.model_own.specs.declared.errand.ErrandStep.{ErrandStep}
use Rattle.model_own.specs.declared.errand.ErrandStep.TheVariants as errand_step
use Rattle.model_ownrun.proofs.Seats.{flusher_seat, flusher_there, user_there, writer_seat, writer_there}
use Rattle.model_pagecore.specs.{end_lsn}
use Rattle.model_reads.proofs.Lasting.{HasGoneOn}
use Rattle.model_reads.proofs.Rising.{newest_of, newest_rises}
use Rattle.model_reads.specs.{newest_in}
use Rattle.model_running.proofs.FlatWords.{flat_left, flat_read}
use Rattle.model_running.proofs.Turns.{next_words}
use Rattle.redo_disk.specs.Sight.{Seen}
use Rattle.redo_drive.specs.Lists.{lists_of}
use Rattle.redo_drive.specs.Running.{run_data_side, run_log_side, RunOf}
use Rattle.redo_drive.specs.declared.parts.Parts.{Parts}
use Rattle.redo_ownmachine.proofs.Failing.{own_turn_keeps_failed}
use Rattle.redo_ownmachine.proofs.Serves.{goes_on}
use Rattle.redo_ownmachine.proofs.Turned as turned
use Rattle.redo_ownmachine.specs.OwnSeats.{actors_of, OwnSeats}
use Rattle.redo_ownmachine.specs.OwnStore.{own_core_of, OwnRunsWith}
use Rattle.redo_ownmachine.specs.Serving.{IsUserServed}
use Rattle.redo_ownrule.proofs.OwnLoading.{log_longer}
use Rattle.redo_ownuser.specs.OwnFits.{WorkGoesOn}

-- as many words of each kind
wrote_sized : (layout : Layout) (m : SharedWords) (w : Word) (x : ℕ) → IsSized layout m → IsSized layout (wrote m w x)
wrote_sized layout m (word.List i) x sized = lists_sized i x sized
wrote_sized layout m (word.Wlink i) x sized = wlinks_sized i x sized
wrote_sized layout m (word.Clink i) x sized = clinks_sized i x sized
wrote_sized layout m (word.Cell i) x sized = cells_sized i x sized
wrote_sized layout m (word.First i) x sized = firsts_sized i x sized
wrote_sized layout m (word.Place i) x sized = places_sized i x sized
wrote_sized layout m (word.Latch p) x sized = page_sized p (record (page_words_at m.page_words p) { latch = x }) refl sized
wrote_sized layout m (word.Newest p) x sized =
    page_sized p (record (page_words_at m.page_words p) { newest = x }) refl sized
wrote_sized layout m (word.Oldest p) x sized =
    page_sized p (record (page_words_at m.page_words p) { oldest = x }) refl sized
wrote_sized layout m (word.Frame p i) x sized = page_sized p
    (record (page_words_at m.page_words p) { frame = slice_set (page_words_at m.page_words p).frame i x })
    (length-set (page_words_at m.page_words p).frame i x) sized
wrote_sized layout m _ x sized = numbers_sized sized

module _ (layout : Layout) (m : SharedWords) (sized : IsSized layout m) where
  one_sized : (b : Bool) (x : SharedWords) → IsSized layout x → IsSized layout (cond b x m)
  one_sized true x z = z
  one_sized false x z = sized

  left_sized : (o : Op) → IsSized layout (shared_left m o)
  left_sized (op.Store w x) = wrote_sized layout m w x sized
  left_sized (op.Add w k) = wrote_sized layout m w (read m w + k) sized
  left_sized (op.Swap w a b) = one_sized (eqb (read m w) a) (wrote m w b) (wrote_sized layout m w b sized)
  left_sized op.TakeDevice = one_sized (eqb m.device 0) (record m { device = 1 }) (numbers_sized sized)
  left_sized op.GiveDevice = numbers_sized sized
  left_sized (op.TakeAdd p x) = one_sized (eqb (slice_index m.lists (p % 4)) 0)
      (record m { lists = slice_set m.lists (p % 4) 1 }) (lists_sized (p % 4) 1 sized)
  left_sized (op.TakeRemove p) = one_sized (eqb (slice_index m.lists (p % 4)) 0)
      (record m { lists = slice_set m.lists (p % 4) 1 }) (lists_sized (p % 4) 1 sized)
  left_sized (op.TakeOldest i) = one_sized (eqb (slice_index m.lists i) 0)
      (record m { lists = slice_set m.lists i 1 }) (lists_sized i 1 sized)
  left_sized (op.GiveList i) = lists_sized i 0 sized
  left_sized _ = sized

module _ {L D : Type 0} {archive : Bool} (log_seen : L → Seen) (data_seen : D → Seen) (run : RunOf L D) (old new : Parts L D)
    (users : List OwnUser) (work left : LogWork) (os : List model.Actor) (seat : ℕ) (who then : OwnUser) (step : Step)
    (at : get_elem? users seat ≡ some who)
    (served : IsUserServed log_seen data_seen run old who work step new then left)
    (before : OwnRunsWith log_seen data_seen run archive old (record { users = users; work = work; others = os }))
    (later : OwnRunsWith log_seen data_seen run archive new (record { users = set users seat then; work = left; others = os }))
  where
    abbrev A : LogSide
    A = run_log_side log_seen data_seen run

    abbrev B : DataSide
    B = run_data_side log_seen data_seen run

    abbrev seats : OwnSeats
    seats = record { users = users; work = work; others = os }

    abbrev left_seats : OwnSeats
    left_seats = record { users = set users seat then; work = left; others = os }

    abbrev m : SharedWords
    m = before.runs.running.shared

    abbrev after_op : Op → List ℕ
    after_op o = words_left old.words.layout old.words.words o

    abbrev Up : Op → Type 0
    Up o = (q : ℕ) → q < run.setup.pages → newest_in run.setup old.words.words q ≤ newest_in run.setup (after_op o) q

    -- by what an Op leaves of NEWEST
    up_by : (o : Op) → OpWords (layout_of run.setup) o
        → ((q : ℕ) → newest_of m q ≤ newest_of (shared_left m o) q) → Up o
    up_by o named rise q there =
        let W = before.runs.running in
        let sized = W.both.logged.sized in
        let i : ℕ = index (layout_of run.setup) (word.Newest q) in
        let words : ◌≡◌ {A = List ℕ} (after_op o) (flat (shared_left m o)) =
        ap (λ (ws : List ℕ). words_left old.words.layout ws o) W.flat_is
        ∙ ap (λ (l : Layout). words_left l (flat m) o) W.layout_is ∙ flat_left (layout_of run.setup) m sized o named in
        let now = ap (λ (ws : List ℕ). slice_index ws i) words ∙ flat_read (layout_of run.setup) (shared_left m o)
        (left_sized (layout_of run.setup) m sized o) (word.Newest q) there in
        let was = ap (λ (ws : List ℕ). slice_index ws i) W.flat_is
        ∙ flat_read (layout_of run.setup) m sized (word.Newest q) there in
        let up = rise q in
        omega arith

    -- an Op that an actor asks for
    up_of : (i : ℕ) (a : model.Actor) → get_elem? (actors_of seats) i ≡ some a → Up (next a)
    up_of i a there =
        let W = before.runs.running in
        up_by (next a)
        (next_words A B run.setup m W.log_ghost W.page_ghost (lists_of old.lists) old.log old.store (actors_of seats) i W.both
        a there)
        (newest_rises A B run.setup m W.log_ghost W.page_ghost (lists_of old.lists) old.log old.store (actors_of seats) i
        W.both a there)

    up_taking : (b : Bool) (q : ℕ) → newest_of m q ≤ newest_of (cond b (record m { device = 1 }) m) q
    up_taking true q = omega arith
    up_taking false q = omega arith

    up_errand : (b : Bool) (x : ErrandStep) → who.user.checks ≡ b → WorkGoesOn x work
        → Up (cond b (op.Load word.Failed) (errand_op who work x))
    up_errand true x is on = up_by (op.Load word.Failed) tt (λ q. omega arith)
    up_errand false errand_step.Done is on =
        subst (λ (b : Bool). Up (cond b (op.Load word.Failed) (errand_op who work errand_step.Done))) is
        (up_of seat (model.User who.user) (user_there users work os seat who at))
    up_errand false errand_step.TakeDevice is on = up_by op.TakeDevice tt (up_taking (eqb m.device 0))
    up_errand false errand_step.GiveBroken is on = up_by op.GiveDevice tt (λ q. omega arith)
    up_errand false errand_step.Write is on =
        subst (λ (b : Bool). Up (cond b (op.Load word.Failed) (writer_op work.writer work.writer.step))) on
        (up_of (writer_seat users) (model.Writer work.writer) (writer_there users work os))
    up_errand false errand_step.Flush is on =
        subst (λ (b : Bool). Up (cond b (op.Load word.Failed) (flusher_op work.flusher work.flusher.step))) on
        (up_of (flusher_seat users) (model.Flusher work.flusher) (flusher_there users work os))

    newest_up : (q : ℕ) → q < run.setup.pages
        → newest_in run.setup old.words.words q ≤ newest_in run.setup new.words.words q
    newest_up q there = subst (λ (ws : List ℕ). newest_in run.setup old.words.words q ≤ newest_in run.setup ws q)
        (sym served.played.words)
        (up_errand who.user.checks who.errand refl
        (goes_on log_seen data_seen run old seats before seat who at who.errand refl) q there)

    -- THE RUN GOES ON, for whoever reads
    pub reads_go_on : HasGoneOn run.setup old.words.words new.words.words before.runs.running.log_ghost.log
        later.runs.running.log_ghost.log
    reads_go_on =
        let W = before.runs.running in
        let V = later.runs.running in
        let longer = log_longer log_seen data_seen run old new users work left os seat who then step at served before later in
        let was : slice_index old.words.words sn_at ≡ W.shared.sn = ap (λ (ws : List ℕ). slice_index ws sn_at) W.flat_is in
        let is : slice_index new.words.words sn_at ≡ V.shared.sn = ap (λ (ws : List ℕ). slice_index ws sn_at) V.flat_is in
        record {
          more_sn = (let up = tiles_le longer.0 W.shared.sn V.shared.sn longer.2 in omega arith);
          rises = newest_up;
          fails = λ failed. own_turn_keeps_failed A B run.setup (own_core_of log_seen data_seen run old seats)
              (own_core_of log_seen data_seen run new left_seats) seat served.answer step
              (record { running = W; errands = before.errands }) failed
              (inl (turned.user_turn log_seen data_seen run old new users work left os seat who then step at served));
          rest = longer.0;
          grown = longer.1;
          late = λ i e there.
              let t = tiles_at longer.0 W.shared.sn V.shared.sn i e longer.2 there in
              let from = t.0 in let long = t.2 in
              subst (λ (n : ℕ). lsn n < end_lsn e) (sym was) (lsn_less W.shared.sn (end_of e) (omega arith));
        }
