-- What the readers of the log have loaded of FLUSHED is at most that, after a turn too.
use Rattle.std.proofs.Common.{Bool, List, ap, arith, cond, false, refl, slice_index, subst, sym, true, ⊎_elim, ℕ, inl, inr, ◌==◌, ◌∙◌, ◌≡◌, ◌≤◌, ◌⊎◌, is_some}
use lib.ListN.{get_elem?}
use mathlib.Core.Option.{some}
use Rattle.model_core.proofs.Lists.{at_set}
use Rattle.model_core.specs.States as model
use Rattle.model_core.specs.{DataSide, LogSide, after_of, answer_of, archives, checked_of, filled, flat, followed, has_all, layout_of, Listed, next, old_of, reader_op, reader_program, reader_took, ReaderState, shared_left, SharedWords, to_append, took, words_left}
use Rattle.model_core.specs.ReaderProgram.{Filling, reader_filled}
use Rattle.model_core.specs.Program.{Turn}
use Rattle.model_core.specs.declared.ops.Answer.{Answer}
use Rattle.model_core.specs.declared.ops.Op.TheVariants as op
use Rattle.model_core.specs.declared.ops.Step.{Step}
use Rattle.model_core.specs.declared.steps.ReaderStep.{ReaderStep}
use Rattle.model_core.specs.declared.steps.ReaderStep.TheVariants as reader_step
use Rattle.model_core.specs.declared.words.Layout.{Layout}
use Rattle.model_core.specs.declared.words.Word.TheVariants as word
use Rattle.model_running.proofs.Archiving.{reader_is, stays_other, took_reader}
use Rattle.model_running.proofs.ArchiverStays.{rises}
use Rattle.model_running.proofs.FlatWords.{flat_left}
use Rattle.model_running.proofs.Turns.{next_words}
use Rattle.redo_disk.specs.{Seen}
use Rattle.redo_drive.specs.{lists_of, RunOf, run_data_side, run_log_side, RunsWith, core_of}
use Rattle.redo_drive.specs.declared.parts.Parts.{Parts}
use Rattle.redo_rule.specs.Handing.{HaveLoaded}

-- it has the mark that it had, or what a load of FLUSHED has told
abbrev pub Loads : ReaderState → Bool → ReaderStep → Answer → ReaderState → Type 0
Loads r checks st answer w =
    (w.mark ≡ r.mark) ⊎ ((checks ≡ false) × (st ≡ reader_step.LoadFlushed) × (w.mark ≡ old_of answer))

module _ (answer : Answer) where
  own_loads : (r : ReaderState) (st : ReaderStep) → Loads r false st answer (reader_took r answer st)
  own_loads r reader_step.LoadFlushed = by (has_all r (old_of answer))
    where
      by : (b : Bool) → Loads r false reader_step.LoadFlushed answer
          (cond b (record r { mark = old_of answer; checks = true; step = reader_step.LoadFlushed })
          (record r { mark = old_of answer; step = reader_step.TakeDevice }))
      by true = inr (refl, refl, refl)
      by false = inr (refl, refl, refl)
  own_loads r reader_step.TakeDevice = inl refl
  own_loads r reader_step.GiveBroken = inl refl
  own_loads r reader_step.ReadBlock = inl refl
  own_loads r reader_step.GiveDevice = by (archives r)
    where
      by : (b : Bool) → Loads r false reader_step.GiveDevice answer (cond b (to_append r) (followed r))
      by true = inl refl
      by false = inl refl
  own_loads r reader_step.Append = inl refl
  own_loads r reader_step.StorePlace = inl refl
  own_loads r reader_step.StoreFailed = inl refl
  own_loads r reader_step.GiveFailed = inl refl
  own_loads r reader_step.StoreLost = inl refl
  own_loads r reader_step.Failed = inl refl

  loads : (r : ReaderState) → Loads r r.checks r.step answer (after_of reader_program r answer)
  loads r = by r.checks r.step
    where
      by : (b : Bool) (st : ReaderStep)
          → Loads r b st answer (cond b (checked_of reader_program r (old_of answer)) (reader_took r answer st))
      by true st = either (old_of answer == 0)
        where
          either : (z : Bool) → Loads r true st answer (cond z (record r { checks = false })
              (record r { checks = false; code = old_of answer; step = reader_step.Failed }))
          either true = inl refl
          either false = inl refl
      by false st = own_loads r st

filled_loads : (r : ReaderState) (f : Filling) (answer : Answer) (w : ReaderState) (st : ReaderStep)
    → Loads (reader_filled r f st) (reader_filled r f st).checks (reader_filled r f st).step answer w
    → r.step ≡ st → Loads r r.checks r.step answer w
filled_loads r f answer w reader_step.ReadBlock l is = l
filled_loads r f answer w reader_step.GiveDevice l is = l
filled_loads r f answer w _ l is = l

-- so a reader keeps its mark through its turn, or gets what a load of FLUSHED has told
pub reader_loads : (r : ReaderState) (f : Filling) (answer : Answer)
    → Loads r r.checks r.step answer (after_of reader_program (reader_filled r f r.step) answer)
reader_loads r f answer =
    let s : ReaderState = reader_filled r f r.step in
    filled_loads r f answer (after_of reader_program s answer) r.step (loads answer s) refl

-- a load of FLUSHED tells the word
told_flushed : (layout : Layout) (ls : ℕ → List Listed) (broken : Bool) (code mark : ℕ) (ws : List ℕ) (r : ReaderState) (b : Bool) (st : ReaderStep)
    → b ≡ false → st ≡ reader_step.LoadFlushed
    → old_of (answer_of layout ls broken code mark ws (cond b (op.Load word.Failed) (reader_op r st))) ≡ slice_index ws 3
told_flushed layout ls broken code mark ws r b st unchecked is =
    ap (λ (z : Bool). old_of (answer_of layout ls broken code mark ws (cond z (op.Load word.Failed) (reader_op r st)))) unchecked
    ∙ ap (λ (z : ReaderStep). old_of (answer_of layout ls broken code mark ws (reader_op r z))) is

module _ {L D : Type 0} {archive : Bool} (log_seen : L → Seen) (data_seen : D → Seen) (run : RunOf L D) (old new : Parts L D)
    (actors after : List model.Actor) (seat : ℕ) (answer : Answer) (step : Step)
    (R : RunsWith log_seen data_seen run archive old actors)
    (t : Turn (run_log_side log_seen data_seen run) (run_data_side log_seen data_seen run)
    (core_of log_seen data_seen run old actors) seat answer step (core_of log_seen data_seen run new after)) where
  abbrev E : LogSide
  E = run_log_side log_seen data_seen run

  abbrev F : DataSide
  F = run_data_side log_seen data_seen run

  -- FLUSHED doesn't go back
  up : slice_index old.words.words 3 ≤ slice_index new.words.words 3
  up =
      let W = R.running in
      let m : SharedWords = W.shared in
      let there = next_words E F run.setup m W.log_ghost W.page_ghost (lists_of old.lists) old.log old.store actors seat
      W.both t.who t.who_is in
      let words : ◌≡◌ {A = List ℕ} new.words.words (flat (shared_left m (next t.who))) =
      t.words ∙ ap (λ (ws : List ℕ). words_left old.words.layout ws (next t.who)) W.flat_is
      ∙ ap (λ (l : Layout). words_left l (flat m) (next t.who)) W.layout_is
      ∙ flat_left (layout_of run.setup) m W.both.logged.sized (next t.who) there in
      let now : slice_index new.words.words 3 ≡ (shared_left m (next t.who)).flushed =
      ap (λ (ws : List ℕ). slice_index ws 3) words in
      let old_is : slice_index old.words.words 3 ≡ m.flushed = ap (λ (ws : List ℕ). slice_index ws 3) W.flat_is in
      let rise = rises E F run.setup m W.log_ghost W.page_ghost (lists_of old.lists) old.log old.store actors seat W.both
      t.code new.log t.who t.who_is in
      omega arith

  -- the reader whose turn it is
  its : HaveLoaded old.words.words actors → (a : model.Actor) → t.who ≡ a → (w : ReaderState)
      → took (filled a t.filling) answer ≡ model.Reader w → w.mark ≤ slice_index new.words.words 3
  its loaded (model.Reader r) is w left =
      let rise = up in
      let s : ReaderState = reader_filled r t.filling r.step in
      let same : ◌≡◌ {A = ReaderState} (after_of reader_program s answer) w =
      reader_is (after_of reader_program s answer) w (sym (took_reader s answer) ∙ left) in
      let l : Loads r r.checks r.step answer w =
      subst (Loads r r.checks r.step answer) same (reader_loads r t.filling answer) in
      let low = loaded seat r (t.who_is ∙ ap some is) in
      ⊎_elim (λ e. omega arith)
      (λ e.
      let said = t.answered ∙ ap {B = Answer} (λ (a : model.Actor). answer_of old.words.layout (lists_of old.lists)
      (is_some old.log.failed) t.code
      new.log.marks.stable old.words.words (next a)) is in
      let told : old_of answer ≡ slice_index old.words.words 3 =
      ap old_of said ∙ told_flushed old.words.layout (lists_of old.lists) (is_some old.log.failed) t.code new.log.marks.stable old.words.words
      r r.checks r.step e.0 e.1 in
      let mark = e.2 in omega arith) l
  its loaded (model.User u) is w left = absurd (stays_other (model.User u) answer tt w left)
  its loaded (model.Writer s) is w left = absurd (stays_other (model.Writer s) answer tt w left)
  its loaded (model.Flusher s) is w left = absurd (stays_other (model.Flusher s) answer tt w left)
  its loaded (model.Closer s) is w left = absurd (stays_other (model.Closer s) answer tt w left)
  its loaded (model.Cleaner s) is w left = absurd (stays_other (model.Cleaner s) answer tt w left)
  its loaded (model.Checkpointer s) is w left = absurd (stays_other (model.Checkpointer s) answer tt w left)

  pub loaded_then : HaveLoaded old.words.words actors → HaveLoaded new.words.words after
  loaded_then loaded n w at = ⊎_elim
      (λ here. its loaded t.who refl w here.1)
      (λ other. let low = loaded n w other.1 in let rise = up in omega arith)
      (at_set actors seat n (took (filled t.who t.filling) answer) (model.Reader w)
      (ap (λ (l : List model.Actor). get_elem? l n) (sym t.actors) ∙ at))
