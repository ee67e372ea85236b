-- Through each turn the archive stands beside the actors of its run.
use Rattle.std.proofs.Common.{Bool, List, None, Option, Some, ap, arith, cond, false, refl, set, slice_index, subst, sym, true, ⊎_elim, ℕ, ◌+◌, ◌==◌, ◌∙◌, ◌≡◌, ◌≢◌, ◌≤◌, ◌⊎◌, is_some}
use native.Mathlib.Decide.{ℕ_discrete}
use lib.ListN.{get_elem?}
use mathlib.Core.Option.{some, some-injective}
use Rattle.model_core.proofs.Later.{took_later}
use Rattle.model_core.proofs.Lists.{set_at, set_else}
use Rattle.model_core.proofs.Lsns.{lsn_le, lsn_offset}
use Rattle.model_core.specs.States as model
use Rattle.model_core.specs.{DataSide, LogSide, Setup, after_of, answer_of, archives, filled, flat, flushed_at, layout_of, Listed, LostAt, lsn, next, next_mark, old_of, reader_op, reader_program, ReaderState, shared_left, SharedWords, took, words_left}
use Rattle.model_core.specs.ReaderProgram.{Filling, reader_filled}
use Rattle.model_core.specs.Program.{Turn}
use Rattle.model_core.specs.declared.ops.Answer.{Answer}
use Rattle.model_core.specs.declared.ops.Op.TheVariants as op
use Rattle.model_core.specs.declared.ops.Step.{Step}
use Rattle.model_core.specs.declared.steps.ReaderStep.{ReaderStep}
use Rattle.model_core.specs.declared.steps.ReaderStep.TheVariants as reader_step
use Rattle.model_core.specs.declared.words.Word.TheVariants as word
use Rattle.model_core.specs.declared.words.Layout.{Layout}
use Rattle.model_ends.proofs.Sizes.{bytes_same, sn_within}
use Rattle.model_ends.specs.Bound.{bytes_of, last_lsn}
use Rattle.model_log.specs.{IsDataLsn}
use Rattle.model_logcore.proofs.Frame.{total_set}
use Rattle.model_logcore.specs.{sum_over_actors}
use Rattle.model_logcore.specs.LogLaws.{LogLaws}
use Rattle.model_pagecore.specs.DataLaws.{DataLaws}
use Rattle.model_running.proofs.Archiving.{took_reader}
use Rattle.model_running.proofs.ArchiverStays.{rises}
use Rattle.model_running.proofs.FlatWords.{flat_left}
use Rattle.model_running.proofs.Turns.{next_words}
use Rattle.model_running.specs.{IsNoAppend}
use Rattle.model_running.specs.ReadHalf.{ReadsInRun}
use Rattle.redo_archive.specs.Part.{Part}
use Rattle.redo_archiver.proofs.Turning.{pace-turns}
use Rattle.redo_archiver.specs.Appending.{appends_at, heard_at, RoundAt}
use Rattle.redo_archiver.specs.{AppendsNothing, HearsFlushed, KeepsPace, marks_after}
use Rattle.redo_disk.specs.{Call, Seen}
use Rattle.redo_disk.specs.declared.error.DevError.{DevError}
use Rattle.model_archive.specs.declared.marks.ArchMarks.{ArchMarks}
use Rattle.redo_drive.proofs.TurnsOf.{IsKind, kept_kind, runs_then}
use Rattle.redo_drive.specs.Archiving.{Appends, AsksUpTo, HasNoArchiver, StandsBeside}
use Rattle.redo_drive.specs.Lists.{lists_of}
use Rattle.redo_drive.specs.Running.{HasSamePages, RunOf, run_data_side, run_log_side, RunsWith, core_of}
use Rattle.redo_drive.specs.declared.parts.Parts.{Parts}

-- FLUSHED is at most what is reserved, and the place of a byte
module _ {L D : Type 0} {archive : Bool} (log_seen : L → Seen) (data_seen : D → Seen) (run : RunOf L D) (parts : Parts L D)
    (actors : List model.Actor) (R : RunsWith log_seen data_seen run archive parts actors) where
  abbrev pub flushed_in : ℕ
  flushed_in = slice_index parts.words.words flushed_at

  pub flushed_word : flushed_in ≡ R.running.shared.flushed
  flushed_word = ap (λ (ws : List ℕ). slice_index ws 3) R.running.flat_is

  pub flushed_place : IsDataLsn flushed_in
  flushed_place =
      let W = R.running in
      let is = flushed_word in
      let at = W.both.logged.global.order.flushed_is in
      let offset = lsn_offset W.log_ghost.flushed in
      (omega arith, omega arith)

  pub flushed_reserved : flushed_in ≤ lsn R.running.shared.sn
  flushed_reserved =
      let W = R.running in
      let O = W.both.logged.global.order in
      let P = W.both.logged.global.part in
      let is = flushed_word in
      let flushed = P.flushed_stable in
      let stable = P.stable_written in
      let written = P.written_wtail in
      let wtail = O.wtail_is in
      let tail = O.wtail_tail in
      let sn = O.tail_sn in
      let up = lsn_le W.log_ghost.wtail W.shared.sn (omega arith) in
      omega arith

-- an actor keeps its lines, whatever its turn puts into it
lines_stay : (a : model.Actor) (f : Filling) (y : Answer) → bytes_of (took (filled a f) y) ≡ bytes_of a
lines_stay (model.Reader r) f y = ap bytes_of (took_reader (reader_filled r f r.step) y)
lines_stay (model.User u) f y = bytes_same (model.User u) (took (model.User u) y) (took_later (model.User u) y)
lines_stay (model.Writer s) f y = bytes_same (model.Writer s) (took (model.Writer s) y) (took_later (model.Writer s) y)
lines_stay (model.Flusher s) f y = bytes_same (model.Flusher s) (took (model.Flusher s) y) (took_later (model.Flusher s) y)
lines_stay (model.Closer s) f y = bytes_same (model.Closer s) (took (model.Closer s) y) (took_later (model.Closer s) y)
lines_stay (model.Cleaner s) f y = bytes_same (model.Cleaner s) (took (model.Cleaner s) y) (took_later (model.Cleaner s) y)
lines_stay (model.Checkpointer s) f y =
    bytes_same (model.Checkpointer s) (took (model.Checkpointer s) y) (took_later (model.Checkpointer s) y)

-- what asks for no append does so by its step
appends_none : (r : ReaderState) → IsNoAppend (next (model.Reader r)) → AppendsNothing r
appends_none r none = by r.checks r.step none
  where
    by : (b : Bool) (st : ReaderStep) → IsNoAppend (cond b (op.Load word.Failed) (reader_op r st))
        → cond b (Unit {0}) (appends_at st)
    by true st none = tt
    by false reader_step.Append none = absurd none
    by false reader_step.LoadFlushed none = tt
    by false _ none = tt

-- and what a load of FLUSHED tells is the word
module _ (layout : Layout) (ls : ℕ → List Listed) (broken : Bool) (code mark : ℕ) (ws : List ℕ) (place : IsDataLsn (slice_index ws 3)) where
  hears : (r : ReaderState) → HearsFlushed (slice_index ws 3) r (answer_of layout ls broken code mark ws (next (model.Reader r)))
  hears r = by r.checks r.step
    where
      by : (b : Bool) (st : ReaderStep) → cond b (Unit {0})
          (heard_at (slice_index ws 3) (old_of (answer_of layout ls broken code mark ws (cond b (op.Load word.Failed) (reader_op r st)))) st)
      by true st = tt
      by false reader_step.LoadFlushed = (omega arith, place)
      by false reader_step.TakeDevice = tt
      by false reader_step.GiveBroken = tt
      by false reader_step.ReadBlock = tt
      by false reader_step.GiveDevice = tt
      by false reader_step.Append = tt
      by false reader_step.StorePlace = tt
      by false reader_step.StoreFailed = tt
      by false reader_step.GiveFailed = tt
      by false reader_step.StoreLost = tt
      by false reader_step.Failed = tt

-- whoever appends is the archiver
pub who_appends : (c : Setup) (r : ReaderState) → ReadsInRun c r → (mark : ℕ) → next (model.Reader r) ≡ op.Append mark → archives r ≡ true
who_appends c r I mark asks = by r.checks r.step refl asks
  where
    by : (b : Bool) (st : ReaderStep) → r.step ≡ st → cond b (op.Load word.Failed) (reader_op r st) ≡ op.Append mark
        → archives r ≡ true
    by true st is e = absurd (cc)
    by false reader_step.Append is e = let z : LostAt r reader_step.Append = subst (LostAt r) is I.lost in z.0
    by false reader_step.LoadFlushed is e = absurd (cc)
    by false reader_step.TakeDevice is e = absurd (cc)
    by false reader_step.GiveBroken is e = absurd (cc)
    by false reader_step.ReadBlock is e = absurd (cc)
    by false reader_step.GiveDevice is e = absurd (cc)
    by false reader_step.StorePlace is e = absurd (cc)
    by false reader_step.StoreFailed is e = absurd (cc)
    by false reader_step.GiveFailed is e = absurd (cc)
    by false reader_step.StoreLost is e = absurd (cc)
    by false reader_step.Failed is e = absurd (cc)

-- and at its append
pub step_appends : (r : ReaderState) (mark : ℕ) → next (model.Reader r) ≡ op.Append mark → r.step ≡ reader_step.Append
step_appends r mark asks = by r.checks r.step refl asks
  where
    by : (b : Bool) (st : ReaderStep) → r.step ≡ st → cond b (op.Load word.Failed) (reader_op r st) ≡ op.Append mark
        → r.step ≡ reader_step.Append
    by true st is e = absurd (cc)
    by false reader_step.Append is e = is
    by false reader_step.LoadFlushed is e = absurd (cc)
    by false reader_step.TakeDevice is e = absurd (cc)
    by false reader_step.GiveBroken is e = absurd (cc)
    by false reader_step.ReadBlock is e = absurd (cc)
    by false reader_step.GiveDevice is e = absurd (cc)
    by false reader_step.StorePlace is e = absurd (cc)
    by false reader_step.StoreFailed is e = absurd (cc)
    by false reader_step.GiveFailed is e = absurd (cc)
    by false reader_step.StoreLost is e = absurd (cc)
    by false reader_step.Failed is e = absurd (cc)

-- up to the end of its next block
mark_appends : (r : ReaderState) (mark : ℕ) → next (model.Reader r) ≡ op.Append mark → mark ≡ next_mark r
mark_appends r mark asks = by r.checks r.step asks
  where
    by : (b : Bool) (st : ReaderStep) → cond b (op.Load word.Failed) (reader_op r st) ≡ op.Append mark → mark ≡ next_mark r
    by true st e = absurd (cc)
    by false reader_step.Append e = cc
    by false reader_step.LoadFlushed e = absurd (cc)
    by false reader_step.TakeDevice e = absurd (cc)
    by false reader_step.GiveBroken e = absurd (cc)
    by false reader_step.ReadBlock e = absurd (cc)
    by false reader_step.GiveDevice e = absurd (cc)
    by false reader_step.StorePlace e = absurd (cc)
    by false reader_step.StoreFailed e = absurd (cc)
    by false reader_step.GiveFailed e = absurd (cc)
    by false reader_step.StoreLost e = absurd (cc)
    by false reader_step.Failed e = absurd (cc)

-- an append asks for a mark
pub asked_then : {A : Type 0} (flushed mark : ℕ) (old new : Part A) → new.marks ≡ marks_after mark new.failed old.marks
    → old.marks.mark ≤ mark → mark ≤ flushed → AsksUpTo flushed new
asked_then {A} flushed mark old new is low high = by new.failed is
  where
    by : (failed : Option DevError) → new.marks ≡ marks_after mark failed old.marks → AsksUpTo flushed new
    by None e =
        let one : new.marks.mark ≡ mark = ap (λ (z : ArchMarks). z.mark) e in
        let two : new.marks.asked ≡ mark = ap (λ (z : ArchMarks). z.asked) e in
        record { later = omega arith; most = omega arith }
    by (Some error) e =
        let one : new.marks.mark ≡ old.marks.mark = ap (λ (z : ArchMarks). z.mark) e in
        let two : new.marks.asked ≡ mark = ap (λ (z : ArchMarks). z.asked) e in
        record { later = omega arith; most = omega arith }

pub one_reader : (x y : ReaderState) → model.Reader x ≡ model.Reader y → ◌≡◌ {A = ReaderState} x y
one_reader x y e = cc

-- the archive is as far where more is flushed
flushed_later : {A : Type 0} (seen : A → Seen) (limit flushed later : ℕ) (r : ReaderState) (part : Part A) → flushed ≤ later
    → later ≤ limit → KeepsPace seen limit flushed r part → KeepsPace seen limit later r part
flushed_later seen limit flushed later r part up within pace = record {
  kind = pace.kind;
  start = pace.start;
  mark = pace.mark;
  counted = pace.counted;
  lost = pace.lost;
  round = pace.round;
  loaded = (let z = pace.loaded in omega arith);
  up_to = (let z = pace.up_to in omega arith);
  within = within;
  small = pace.small;
  room = pace.room;
}

module _ {L D : Type 0} {archive : Bool} (log_seen : L → Seen) (data_seen : D → Seen) (run : RunOf L D) (old new : Parts L D)
    (actors after : List model.Actor) (seat : ℕ) (answer : Answer) (step : Step)
    (log_laws : LogLaws (run_log_side log_seen data_seen run))
    (data_laws : DataLaws (run_data_side log_seen data_seen run)) (same : HasSamePages old new)
    (R : RunsWith log_seen data_seen run archive old actors)
    (t : Turn (run_log_side log_seen data_seen run) (run_data_side log_seen data_seen run)
    (core_of log_seen data_seen run old actors) seat answer step (core_of log_seen data_seen run new after)) where
  abbrev E : LogSide
  E = run_log_side log_seen data_seen run

  abbrev F : DataSide
  F = run_data_side log_seen data_seen run

  abbrev then : RunsWith log_seen data_seen run archive new after
  then = (runs_then log_seen data_seen run old new actors after seat answer step log_laws data_laws same R t).runs

  abbrev before_flushed : ℕ
  before_flushed = flushed_in log_seen data_seen run old actors R

  abbrev now_flushed : ℕ
  now_flushed = flushed_in log_seen data_seen run new after then

  -- FLUSHED doesn't go back
  up : before_flushed ≤ now_flushed
  up =
      let W = R.running in
      let m : SharedWords = W.shared in
      let there = next_words E F run.setup m W.log_ghost W.page_ghost (lists_of old.lists) old.log old.store actors seat
      W.both t.who t.who_is in
      let words : ◌≡◌ {A = List ℕ} new.words.words (flat (shared_left m (next t.who))) =
      t.words ∙ ap (λ (ws : List ℕ). words_left old.words.layout ws (next t.who)) W.flat_is
      ∙ ap (λ (l : Layout). words_left l (flat m) (next t.who)) W.layout_is
      ∙ flat_left (layout_of run.setup) m W.both.logged.sized (next t.who) there in
      let now : now_flushed ≡ (shared_left m (next t.who)).flushed = ap (λ (ws : List ℕ). slice_index ws 3) words in
      let old_is = flushed_word log_seen data_seen run old actors R in
      let rise = rises E F run.setup m W.log_ghost W.page_ghost (lists_of old.lists) old.log old.store actors seat W.both
      t.code new.log t.who t.who_is in
      omega arith

  -- and the actors' lines stay
  lines_same : last_lsn run.setup after ≡ last_lsn run.setup actors
  lines_same =
      let who : model.Actor = took (filled t.who t.filling) answer in
      let sum = total_set bytes_of actors seat t.who who t.who_is in
      let one = lines_stay t.who t.filling answer in
      ap (λ (l : List model.Actor). last_lsn run.setup l) t.actors
      ∙ ap (λ (n : ℕ). lsn (run.setup.base + n)) (let e : sum_over_actors bytes_of (set actors seat who)
      ≡ sum_over_actors bytes_of actors = omega arith in e)

  -- the archiver's own turn, as its program has it
  reader_then : (r : ReaderState) → t.who ≡ model.Reader r
      → get_elem? after seat ≡ some (model.Reader (after_of reader_program (reader_filled r t.filling r.step) answer))
  reader_then r is =
      let who : model.Actor = took (filled t.who t.filling) answer in
      ap (λ (l : List model.Actor). get_elem? l seat) t.actors ∙ set_at actors seat t.who who t.who_is
      ∙ ap (λ (a : model.Actor). some (took (filled a t.filling) answer)) is
      ∙ ap some (took_reader (reader_filled r t.filling r.step) answer)

  -- who archives after the turn did so before
  archived_before : (j : ℕ) (w : ReaderState) → get_elem? after j ≡ some (model.Reader w) → archives w ≡ true
      → (r : ReaderState) × (get_elem? actors j ≡ some (model.Reader r)) × (archives r ≡ true)
  archived_before j w later kind = elim (ℕ_discrete j seat) [
    | yes here ↦ (
        let at : get_elem? actors j ≡ some t.who = ap (get_elem? actors) here ∙ t.who_is in
        let k = by t.who at (kept_kind log_seen data_seen run old new actors after seat answer step log_laws data_laws same
        R t j t.who (model.Reader w) at later) in k)
    | no other ↦ (
        let who : model.Actor = took (filled t.who t.filling) answer in
        (w, sym (set_else actors seat j who other) ∙ ap (λ (l : List model.Actor). get_elem? l j) (sym t.actors) ∙ later, kind))
  ]
    where
      by : (a : model.Actor) → get_elem? actors j ≡ some a → IsKind a (model.Reader w)
          → (r : ReaderState) × (get_elem? actors j ≡ some (model.Reader r)) × (archives r ≡ true)
      by (model.Reader r) at k =
          let is : ◌≡◌ {A = ReaderState} w k.0 = one_reader w k.0 k.1 in
          (r, at, ap (λ (n : ℕ). n == 0) (sym k.2) ∙ ap archives (sym is) ∙ kind)
      by (model.User u) at k = absurd k
      by (model.Writer s) at k = absurd k
      by (model.Flusher s) at k = absurd k
      by (model.Closer s) at k = absurd k
      by (model.Cleaner s) at k = absurd k
      by (model.Checkpointer s) at k = absurd k

  -- WHERE NONE ARCHIVES none does after the turn.
  pub none_beside : HasNoArchiver actors → HasNoArchiver after
  none_beside none j w later = by (archives w) refl
    where
      by : (b : Bool) → archives w ≡ b → b ≡ false
      by true is =
          let k = archived_before j w later is in
          let z : true ≡ false = sym k.2 ∙ none j k.0 k.1 in absurd (cc)
      by false is = refl

  module _ {A : Type 0} (seen : A → Seen) where
    within : (limit : ℕ) → last_lsn run.setup actors ≤ limit → now_flushed ≤ limit
    within limit all =
        let W = then.running in
        let low = flushed_reserved log_seen data_seen run new after then in
        let most = sn_within E run.setup W.shared W.log_ghost new.log after W.both.logged in
        let lines = lines_same in omega arith

    -- THE ARCHIVE STAYS BESIDE, at a turn that appends nothing, and at an append.
    pub stands : {gives : A → Call → A → Type 0} (part later : Part A)
        → StandsBeside seen run.setup old.words.words actors part
        → ((r : ReaderState) × (t.who ≡ model.Reader r) × Appends seen gives r part answer later)
        ⊎ (IsNoAppend (next t.who) × (later ≡ part))
        → StandsBeside seen run.setup new.words.words after later
    stands {gives} part later S served = elim (ℕ_discrete S.seat seat) [
      | yes here ↦ ⊎_elim (λ z. appended here z.0 z.1 z.2)
          (λ z. subst (StandsBeside seen run.setup new.words.words after) (sym z.1) (turned here z.0)) served
      | no other ↦ ⊎_elim (λ z. absurd (none_else other z.0 z.1 z.2))
          (λ z. subst (StandsBeside seen run.setup new.words.words after) (sym z.1) (left other)) served
    ]
      where
        who : model.Actor
        who = took (filled t.who t.filling) answer

        make : (next_part : Part A) (w : ReaderState) → get_elem? after S.seat ≡ some (model.Reader w)
            → KeepsPace seen S.limit before_flushed w next_part → AsksUpTo before_flushed next_part
            → next_part.start ≡ part.start
            → StandsBeside seen run.setup new.words.words after next_part
        make next_part w at pace asked start = record {
          seat = S.seat;
          archiver = w;
          at = at;
          only = λ j x there kind. let k = archived_before j x there kind in S.only j k.0 k.1 k.2;
          start = start ∙ S.start;
          limit = S.limit;
          all = (let e = lines_same in let z = S.all in omega arith);
          pace = flushed_later seen S.limit before_flushed now_flushed w next_part up (within S.limit S.all) pace;
          asked = record { later = asked.later; most = (let high = asked.most in let risen = up in omega arith) };
        }

        -- its own turn
        its : S.seat ≡ seat → t.who ≡ model.Reader S.archiver
        its here = some-injective t.who (model.Reader S.archiver) (sym t.who_is ∙ ap (get_elem? actors) (sym here) ∙ S.at)

        appended : S.seat ≡ seat → (r : ReaderState) → t.who ≡ model.Reader r → Appends seen gives r part answer later
            → StandsBeside seen run.setup new.words.words after later
        appended here r is appends =
            let same : ◌≡◌ {A = ReaderState} S.archiver r = one_reader S.archiver r (sym (its here) ∙ is) in
            let pace = subst (λ (x : ReaderState). KeepsPace seen S.limit before_flushed x part) same S.pace in
            make later (after_of reader_program (reader_filled r t.filling r.step) answer)
            (ap (get_elem? after) here ∙ reader_then r is) (appends.pace S.limit before_flushed t.filling pace)
            (let here = subst (RoundAt r) (step_appends r appends.mark appends.asks) pace.round in
            let mark = mark_appends r appends.mark appends.asks in
            let at = pace.mark in
            let loaded = pace.loaded in
            let next = here.1 in
            asked_then before_flushed appends.mark part later appends.appended.marks (omega arith) (omega arith))
            appends.appended.start

        turned : S.seat ≡ seat → IsNoAppend (next t.who) → StandsBeside seen run.setup new.words.words after part
        turned here none =
            let r : ReaderState = S.archiver in
            let is = its here in
            let said : ◌≡◌ {A = Answer} answer (answer_of old.words.layout (lists_of old.lists) (is_some old.log.failed) t.code
            new.log.marks.stable old.words.words (next (model.Reader r))) =
            t.answered ∙ ap {B = Answer} (λ (a : model.Actor). answer_of old.words.layout (lists_of old.lists) (is_some old.log.failed) t.code
            new.log.marks.stable old.words.words (next a)) is in
            let heard : HearsFlushed before_flushed r answer =
            subst (λ (a : Answer). HearsFlushed before_flushed r a) (sym said)
            (hears old.words.layout (lists_of old.lists) (is_some old.log.failed) t.code new.log.marks.stable old.words.words
            (flushed_place log_seen data_seen run old actors R) r) in
            make part (after_of reader_program (reader_filled r t.filling r.step) answer)
            (ap (get_elem? after) here ∙ reader_then r is)
            (pace-turns seen S.limit before_flushed part r t.filling answer
            (appends_none r (subst (λ (a : model.Actor). IsNoAppend (next a)) is none)) heard S.pace) S.asked refl

        -- another's turn
        left : S.seat ≢ seat → StandsBeside seen run.setup new.words.words after part
        left other = make part S.archiver
            (ap (λ (l : List model.Actor). get_elem? l S.seat) t.actors ∙ set_else actors seat S.seat who other ∙ S.at)
            S.pace S.asked refl

        none_else : S.seat ≢ seat → (r : ReaderState) → t.who ≡ model.Reader r → Appends seen gives r part answer later → ⊥
        none_else other r is appends =
            let at : get_elem? actors seat ≡ some (model.Reader r) = t.who_is ∙ ap some is in
            let kind = who_appends run.setup r (R.running.both.in_run seat (model.Reader r) at) appends.mark appends.asks in
            other (sym (S.only seat r at kind))
