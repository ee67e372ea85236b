-- Whoever has a turn may take it: the conditions of what an actor asks for follow from the invariant of the running store.
use Rattle.std.proofs.Common.{Bool, List, [], ap, arith, cond, false, length, subst, sym, true, ℕ, ⊎_elim, ◌%◌, ◌<◌, ◌^◌, ◌∙◌, ◌≡◌, ◌≤◌, is_some}
use lib.ListN.{get_elem?}
use mathlib.Core.Option.{some}
use Rattle.model_core.proofs.Asks.{IsNoAddition, user_or_no_addition}
use Rattle.model_core.proofs.Lsns.{lsn_le}
use Rattle.model_base.specs.{IsWithinLimits}
use Rattle.model_base.specs.declared.limits.TheConstants.{BLOCK_SIZE, START_LSN}
use Rattle.model_base.specs.declared.shape.Shape.{Shape}
use Rattle.model_core.specs.States as model
use Rattle.model_core.specs.Fitting.{Fitting}
use Rattle.model_core.specs.{AnswerFits, DataSide, LogSide, answer_of, BatchPage, flat, KeptPage, layout_of, lent, Listed, lsn, next, old_of, OpWords, shared_answer, SharedWords, user_fits, user_op, UserState, reader_op, ReaderState, Setup}
use Rattle.model_core.specs.declared.ops.Answer.{Answer}
use Rattle.model_core.specs.declared.ops.Op.{Op}
use Rattle.model_core.specs.declared.ops.Op.TheVariants as op
use Rattle.model_core.specs.declared.words.Word.TheVariants as word
use Rattle.model_logcore.proofs.AnswersFit.{small_sn}
use Rattle.model_logcore.specs.{CanLend, LogGhost, ReaderFits}
use Rattle.model_logcore.specs.LogLaws.{LogLaws}
use Rattle.model_logcore.specs.Ready.{Ready}
use Rattle.model_pagecore.specs.{CanBatch}
use Rattle.model_pagecore.specs.DataLaws.{DataLaws}
use Rattle.model_running.proofs.AnswersFitAll.{answer_fits}
use Rattle.model_running.proofs.BothReady as both_ready
use Rattle.model_running.proofs.FlatWords.{flat_answer}
use Rattle.model_running.proofs.InRun.{next_in_run}
use Rattle.model_running.specs.ReadHalf.{ReadsInRun, StaysInRun}
use Rattle.model_core.specs.declared.words.Layout.{Layout}
use Rattle.model_core.specs.declared.steps.ReaderStep.{ReaderStep}
use Rattle.model_core.specs.declared.steps.ReaderStep.TheVariants as reader_step
use Rattle.model_running.proofs.ListsReady.{list_ready}
use Rattle.model_running.proofs.Turns.{next_words}
use Rattle.model_running.specs.{HaveSmallCodes, IsNoAppend}
use Rattle.model_running.specs.Ready as running
use Rattle.model_running.specs.Ready.{ListReady}
use Rattle.redo_drive.proofs.Lent.{lent_batch}
use Rattle.redo_drive.proofs.DataMayCall.{may_write_batch}
use Rattle.redo_drive.proofs.Devices.{code_is_small}
use Rattle.redo_drive.specs.DataPartSide as data_part
use Rattle.redo_disk.specs.{Seen}
use Rattle.redo_logdev.specs.{MayWrite}
use Rattle.redo_logdev.specs.Part as log
use Rattle.redo_drive.proofs.LogMayCall.{may_checkpoint, may_sync, may_write}
use Rattle.redo_drive.proofs.Filled.{IsNoRead, reader_or_no_read}
use Rattle.redo_drive.proofs.Outcome.{not_failed}
use Rattle.redo_drive.specs.LogPartSide as log_part
use Rattle.redo_drive.specs.Lists.{lists_of}
use Rattle.redo_drive.specs.Running.{DataReady, HasWholePages, IsPlayable, LogReady, MayBatchLent, MayWriteLent, RunOf, run_data_side, run_log_side, RunsWith, MayServe}
use Rattle.redo_drive.specs.Receiving.{MarkFits}
use Rattle.redo_drive.specs.declared.device.Device.TheVariants.{Data, Log}
use Rattle.redo_drive.specs.declared.parts.Parts.{Parts}
use Rattle.redo_follow.specs.{follower_fits}
use Rattle.redo_store.specs.Part as store
use Rattle.redo_words.specs.{HoldsSum, Lends}
use Rattle.redo_words.specs.declared.lent.Lent.{Lent}
use Rattle.redo_words.specs.declared.lent.Lent.TheVariants as lending
use Rattle.model_core.specs.declared.steps.UserStep.{UserStep}
use Rattle.model_core.specs.declared.steps.AdvanceStep.TheVariants as advance_step
use Rattle.model_core.specs.declared.steps.UserStep.TheVariants as user_step

-- a word holds the sum: a reservation adds to SN, which stays below its limit, and a user adds bytes onto lanes that are 0
module _ (layout : Layout) (ls : ℕ → List Listed) (broken : Bool) (code mark : ℕ) (ws : List ℕ) where
  user_sum : (u : UserState) (f : UserStep) → user_fits u (old_of (answer_of layout ls broken code mark ws (user_op u f))) f → HoldsSum layout (user_op u f) ws
  user_sum u (user_step.AdvanceWritten advance_step.LoadTail) fit = tt
  user_sum u (user_step.AdvanceClosed advance_step.LoadTail) fit = tt
  user_sum u user_step.Reserve fit = omega arith
  user_sum u user_step.AddCell fit = fit
  user_sum u _ fit = tt

  checking_user : (b : Bool) (u : UserState) → cond {A = Type 0} b (Unit {0}) (user_fits u (old_of (answer_of layout ls broken code mark ws (cond b (op.Load word.Failed) (user_op u u.step)))) u.step)
      → HoldsSum layout (cond b (op.Load word.Failed) (user_op u u.step)) ws
  checking_user true u fit = tt
  checking_user false u fit = user_sum u u.step fit

  other_sum : (o : Op) → IsNoAddition o → HoldsSum layout o ws
  other_sum (op.Add w x) is = absurd is
  other_sum _ is = tt

  pub holds_sum : (a : model.Actor) → Fitting a (answer_of layout ls broken code mark ws (next a)) → HoldsSum layout (next a) ws
  holds_sum a fit = ⊎_elim
      (λ t. subst (λ (z : model.Actor). Fitting z (answer_of layout ls broken code mark ws (next z)) → HoldsSum layout (next z) ws) (sym t.1) (checking_user t.0.checks t.0) fit)
      (λ t. other_sum (next a) t)
      (user_or_no_addition a)

-- a read is of a block that a log may have
abbrev ReadsBlock : Op → Type 0
ReadsBlock (op.ReadBlock x) = (x % BLOCK_SIZE ≡ 0) × (START_LSN ≤ x)
ReadsBlock _ = Unit {0}

reads_none : (o : Op) → IsNoRead o → ReadsBlock o
reads_none (op.ReadBlock x) none = absurd none
reads_none _ none = tt

reader_reads : (c : Setup) (r : ReaderState) → ReadsInRun c r → START_LSN ≤ lsn c.base
    → (f : ReaderStep) → ReadsBlock (reader_op r f)
reader_reads c r in_run started reader_step.ReadBlock =
    let next = next_in_run c r in_run in (next.0, let low = next.1 in omega arith)
reader_reads c r in_run started reader_step.LoadFlushed = tt
reader_reads c r in_run started _ = tt

checking_reads : (b : Bool) (o : Op) → ReadsBlock o → ReadsBlock (cond b (op.Load word.Failed) o)
checking_reads true o is = tt
checking_reads false o is = is

-- the calls of the log part
module _ {L : Type 0} (seen : L → Seen) (faults number : ℕ) (Begun : Type 0) (c : Setup) (g : LogGhost) (p : log.Part L) (a : model.Actor) (H : log_part.HoldsLog seen faults number Begun c.blocks c.base g.log p) (small : p.marks.stable < 2 ^ 60) where
  abbrev side : LogSide
  side = log_part.log_side seen faults number Begun

  write_ready : (ml : model.Lent) (l : Lent) (t : ℕ) → Lends l ml → CanLend side c g p a ml t → MayWriteLent p t l
  write_ready model.Nothing l t lends can = absurd can
  write_ready (model.Batch batch) l t lends can = absurd can
  write_ready (model.Room kept) l t lends can = absurd can
  write_ready (model.Blocks kept offsets) lending.Nothing t lends can = absurd lends
  write_ready (model.Blocks kept offsets) (lending.Batch pages frames) t lends can = absurd lends
  write_ready (model.Blocks kept offsets) (lending.Blocks bytes firsts) t lends can =
      subst (λ (n : ℕ). MayWrite p n bytes.now firsts.now) (sym can.0)
      (subst (λ (b : List ℕ). MayWrite p (lsn g.target) b firsts.now) (sym lends.0)
      (subst (λ (f : List ℕ). MayWrite p (lsn g.target) kept f) (sym lends.1)
      (may_write seen faults number Begun c.blocks c.base g.log g.write g.target kept offsets p H can.1)))

  pub log_call : (o : Op) (l : Lent) → Lends l (lent a) → Ready side c g p a o → ReadsBlock o → LogReady p l o
  log_call (op.ReadBlock x) l lends can place =
      record { live = not_failed p.failed can.1; aligned = place.0; started = place.1 }
  log_call (op.WriteTo t) l lends can place = write_ready (lent a) l t lends can.1
  log_call op.Sync l lends can place = may_sync seen faults number Begun p can.1
  log_call (op.Checkpoint x) l lends can place = (
    not_failed p.failed can.1.sound,
    may_checkpoint seen faults number Begun c.blocks c.base g.log x p H can.1 small,
  )
  log_call _ l lends can place = tt

-- the call of the data part
module _ {D : Type 0} (seen : D → Seen) (faults : ℕ) (shape : Shape) (Begun : Type 0) (c : Setup) (its_pages : shape.pages ≡ c.pages) (its_page_size : shape.page_size ≡ c.page_size) (its_slots : shape.slots ≡ c.slots) (limits : IsWithinLimits shape)
    (kept_page : ℕ → KeptPage) (d : store.Part D) where
  abbrev data_side : DataSide
  data_side = data_part.data_side seen faults shape Begun

  whole_by : (batch : List BatchPage) → CanBatch data_side c kept_page batch d → (i : ℕ) (x : BatchPage) → get_elem? batch i ≡ some x → length x.bytes ≡ shape.page_size
  whole_by batch can i x at = (can.each i x at).whole ∙ sym its_page_size

  batch_ready : (ml : model.Lent) (l : Lent) → Lends l ml → running.CanLendBatch data_side c kept_page ml d → MayBatchLent d l
  batch_ready model.Nothing l lends can = absurd can
  batch_ready (model.Blocks kept offsets) l lends can = absurd can
  batch_ready (model.Room kept) l lends can = absurd can
  batch_ready (model.Batch batch) lending.Nothing lends can = absurd lends
  batch_ready (model.Batch batch) (lending.Blocks bytes firsts) lends can = absurd lends
  batch_ready (model.Batch batch) (lending.Batch pairs frames) lends can =
      may_write_batch seen faults shape Begun c kept_page [] batch pairs.now frames.now d limits its_pages its_slots can.0 can.1
      (lent_batch shape batch pairs.now frames.now (whole_by batch can.1) lends.0 lends.1)

  pub data_call : (o : Op) (ml : model.Lent) (l : Lent) → Lends l ml → running.BatchReady data_side c kept_page ml d o → DataReady d l o
  data_call op.WriteBatch ml l lends can = batch_ready ml l lends can
  data_call _ ml l lends can = tt

  pub whole_pages : (o : Op) (ml : model.Lent) → running.BatchReady data_side c kept_page ml d o → HasWholePages d.shape o ml
  whole_pages op.WriteBatch (model.Batch batch) can = λ i x at. whole_by batch can.1 i x at ∙ ap (λ (z : Shape). z.page_size) (sym can.0.shape_is)
  whole_pages op.WriteBatch model.Nothing can = tt
  whole_pages op.WriteBatch (model.Blocks kept offsets) can = tt
  whole_pages op.WriteBatch (model.Room kept) can = tt
  whole_pages _ ml can = tt

-- a mark that a reader is given is FLUSHED
mark_given : (ls : ℕ → List Listed) (broken : Bool) (code mark : ℕ) (m : SharedWords) → m.flushed < 2 ^ 61
    → (r : ReaderState) (b : Bool) (s : ReaderStep)
    → cond b (Unit {0}) (follower_fits r (old_of (shared_answer ls broken code mark m
    (cond b (op.Load word.Failed) (reader_op r s)))) s)
mark_given ls broken code mark m low r true s = tt
mark_given ls broken code mark m low r false reader_step.LoadFlushed = low
mark_given ls broken code mark m low r false reader_step.TakeDevice = tt
mark_given ls broken code mark m low r false reader_step.GiveBroken = tt
mark_given ls broken code mark m low r false reader_step.ReadBlock = tt
mark_given ls broken code mark m low r false reader_step.GiveDevice = tt
mark_given ls broken code mark m low r false reader_step.StorePlace = tt
mark_given ls broken code mark m low r false reader_step.StoreFailed = tt
mark_given ls broken code mark m low r false reader_step.GiveFailed = tt
mark_given ls broken code mark m low r false reader_step.Failed = tt
mark_given ls broken code mark m low r false reader_step.Append = tt
mark_given ls broken code mark m low r false reader_step.StoreLost = tt

module _ {L D : Type 0} {archive : Bool} (log_seen : L → Seen) (data_seen : D → Seen) (run : RunOf L D) (parts : Parts L D) (actors : List model.Actor) (R : RunsWith log_seen data_seen run archive parts actors)
    (log_laws : LogLaws (run_log_side log_seen data_seen run)) (data_laws : DataLaws (run_data_side log_seen data_seen run)) where
  abbrev A : LogSide
  A = run_log_side log_seen data_seen run

  abbrev B : DataSide
  B = run_data_side log_seen data_seen run

  abbrev c : Setup
  c = run.setup

  codes : HaveSmallCodes A B
  codes = record {
    log = λ p x cause. (let z = (code_is_small Log cause.fault).1 in let e = cause.code_is in omega arith);
    data_part = λ d x cause. (let z = (code_is_small Data cause.fault).1 in let e = cause.code_is in omega arith);
  }

  low_stable : parts.log.marks.stable < 2 ^ 60
  low_stable =
      let half = R.running.both.logged in
      let P = half.global.part in let O = half.global.order in
      let a = P.stable_written in let b = P.written_wtail in let e = O.wtail_is in
      let l = lsn_le R.running.log_ghost.wtail R.running.shared.sn (let x = O.wtail_tail in let y = O.tail_sn in omega arith) in
      let s = small_sn A c R.running.shared R.running.log_ghost parts.log actors 0 half in
      omega arith

  module _ (seat : ℕ) (who : model.Actor) (at : get_elem? actors seat ≡ some who) where
    abbrev ls : ℕ → List Listed
    ls = lists_of parts.lists

    words : OpWords (layout_of c) (next who)
    words = let W = R.running in next_words A B c W.shared W.log_ghost W.page_ghost ls parts.log parts.store actors seat W.both who at

    answer_is : (code mark : ℕ) → ◌≡◌ {A = Answer} (answer_of parts.words.layout ls (is_some parts.log.failed) code mark parts.words.words (next who)) (shared_answer ls (is_some parts.log.failed) code mark R.running.shared (next who))
    answer_is code mark = let W = R.running in
        ap (λ (ws : List ℕ). answer_of parts.words.layout ls (is_some parts.log.failed) code mark ws (next who)) W.flat_is
        ∙ ap (λ (l : Layout). answer_of l ls (is_some parts.log.failed) code mark (flat W.shared) (next who)) W.layout_is
        ∙ flat_answer (layout_of c) W.shared W.both.logged.sized ls (is_some parts.log.failed) code mark (next who) words

    pub fits : (code mark : ℕ) → AnswerFits who (answer_of parts.words.layout ls (is_some parts.log.failed) code mark parts.words.words (next who))
    fits code mark = let W = R.running in
        subst (λ (r : Answer). AnswerFits who r) (sym (answer_is code mark))
        (answer_fits A B c W.shared W.log_ghost W.page_ghost ls parts.log parts.store actors seat W.both R.bytes codes (is_some parts.log.failed) code mark who at)

    pub mark_fits : (code mark : ℕ)
        → MarkFits who (answer_of parts.words.layout ls (is_some parts.log.failed) code mark parts.words.words (next who))
    mark_fits code mark = let W = R.running in
        subst (λ (r : Answer). MarkFits who r) (sym (answer_is code mark)) (by who at)
      where
        low_flushed : R.running.shared.flushed < 2 ^ 61
        low_flushed =
            let low = low_stable in
            let flushed = R.running.both.logged.global.part.flushed_stable in omega arith

        by : (a : model.Actor) → get_elem? actors seat ≡ some a
            → MarkFits a (shared_answer ls (is_some parts.log.failed) code mark R.running.shared (next a))
        by (model.Reader r) there =
            let F : ReaderFits A c R.running.shared R.running.log_ghost parts.log seat r =
            R.running.both.logged.each seat (model.Reader r) there in (
              mark_given ls (is_some parts.log.failed) code mark R.running.shared low_flushed r r.checks r.step,
              F.no_device_while_checking,
            )
        by (model.User u) there = tt
        by (model.Writer s) there = tt
        by (model.Flusher x) there = tt
        by (model.Closer x) there = tt
        by (model.Cleaner v) there = tt
        by (model.Checkpointer x) there = tt

    data_can : running.BatchReady B c R.running.page_ghost.kept_page (lent who) parts.store (next who)
    data_can = let W = R.running in both_ready.data_ready A log_laws B data_laws c W.shared W.log_ghost W.page_ghost ls parts.log parts.store actors seat W.both who at

    reads : ReadsBlock (next who)
    reads = ⊎_elim
        (λ reader. let r = reader.0 in
        let k : ReadsInRun c r = subst (StaysInRun c) reader.1 (R.running.both.in_run seat who at) in
        subst (λ (a : model.Actor). ReadsBlock (next a)) (sym reader.1)
        (checking_reads r.checks (reader_op r r.step) (reader_reads c r k R.started r.step)))
        (reads_none (next who))
        (reader_or_no_read who)

    playable : IsNoAppend (next who) → (l : Lent) → Lends l (lent who) → IsPlayable parts (next who) l
    playable none l lends = let W = R.running in record {
      there = subst (λ (l : Layout). OpWords l (next who)) (sym W.layout_is) words;
      sum = holds_sum parts.words.layout ls (is_some parts.log.failed) 0 0 parts.words.words who (fits 0 0).log;
      listing = subst (λ (n : ℕ). ListReady n ls (next who)) (sym R.list_pages) (list_ready A B c W.shared W.log_ghost W.page_ghost ls parts.log parts.store actors seat W.both who at);
      real = W.both.paged.paged.lists.real;
      log = log_call log_seen (log_seen run.first_log.dev).faults run.first_log.marks.number (log_part.HasBegun log_seen (lsn c.base) run.first_log) c W.log_ghost parts.log who W.both.logged.global.part.holds low_stable (next who) l lends
          (both_ready.log_ready A log_laws B data_laws c W.shared W.log_ghost W.page_ghost ls parts.log parts.store
          actors seat W.both who at) reads;
      own = none;
      data_part = data_call data_seen (data_seen run.first_data.dev).faults run.shape (data_part.HasBegun data_seen c.opened run.first_data) c R.its_pages R.its_page_size R.its_slots R.limits W.page_ghost.kept_page parts.store (next who) (lent who) l lends data_can;
    }

    pub serves_other : IsNoAppend (next who) → MayServe parts who
    serves_other none = record {
      playable = playable none;
      whole = whole_pages data_seen (data_seen run.first_data.dev).faults run.shape (data_part.HasBegun data_seen c.opened run.first_data) c R.its_pages R.its_page_size R.its_slots R.limits R.running.page_ghost.kept_page parts.store (next who) (lent who) data_can;
      fits = fits;
      mark = mark_fits;
    }
