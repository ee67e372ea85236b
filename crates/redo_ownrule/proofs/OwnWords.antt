-- An Op on a word: a user that has the log's work in hand has it after that, and one that hasn't leaves the work as it is.
use Rattle.std.proofs.Common.{Bool, Some, cond, false, length, refl, true, ℕ, ◌*◌, ◌++◌, ◌+◌, ◌-◌, ◌==◌, ◌≡◌}
use Rattle.model_core.specs.{FlusherState, flusher_op, flusher_took, OnWord, UserState, writer_op, writer_took, WriterState, user_hand}
use Rattle.model_core.specs.LogPrograms.{advance_next, ends, finds_no_more, has_log_space, has_whole_word, read_place, stands_outside, word_end}
use Rattle.model_core.specs.Lanes.{lane_of, left_in_word, lanes, lsn}
use Rattle.model_core.specs.declared.ops.Answer.TheVariants as answer
use Rattle.model_core.specs.declared.ops.Op.TheVariants as op
use Rattle.model_core.specs.declared.steps.AdvanceStep.TheVariants as advance_step
use Rattle.model_core.specs.declared.steps.FlusherStep.{FlusherStep}
use Rattle.model_core.specs.declared.steps.FlusherStep.TheVariants as flusher_step
use Rattle.model_core.specs.declared.steps.UserStep.{UserStep}
use Rattle.model_core.specs.declared.steps.UserStep.TheVariants as user_step
use Rattle.model_core.specs.declared.steps.WriterStep.{WriterStep}
use Rattle.model_core.specs.declared.steps.WriterStep.TheVariants as writer_step
use Rattle.model_core.specs.declared.words.Word.TheVariants as word
use Rattle.model_log.specs.declared.layout.TheConstants.{BLOCK_DATA}
use Rattle.model_own.specs.{after_flusher, after_writer, errand_op, errand_took, LogWork, own_checked, own_goes_on, own_next, own_stepped, OwnUser, sets_out, written, has_work}
use Rattle.model_own.specs.declared.errand.ErrandStep.{ErrandStep}
use Rattle.model_own.specs.declared.errand.ErrandStep.TheVariants as errand_step

-- no user holds the log part by its own step
pub holds_no_log : (u : UserState) (s : UserStep) → user_hand u s ≡ Some 0 → ⊥
holds_no_log u user_step.StoreOldest e = absurd (cc)
holds_no_log u user_step.GiveList e = absurd (cc)
holds_no_log u _ e = absurd (cc)

-- the writer, and the flusher, ends by a failure only after it has given the log part back
abbrev WriterGoes : WriterStep → Type 0
WriterGoes writer_step.Failed = ⊥
WriterGoes _ = Unit {0}

abbrev FlusherGoes : FlusherStep → Type 0
FlusherGoes flusher_step.Failed = ⊥
FlusherGoes flusher_step.LoadWrite = ⊥
FlusherGoes _ = Unit {0}

two : (b : Bool) (x y : WriterStep) → WriterGoes x → WriterGoes y → WriterGoes (cond b x y)
two true x y p q = p
two false x y p q = q

one_of : (b : Bool) (x y : WriterState) → WriterGoes x.step → WriterGoes y.step → WriterGoes (cond b x y).step
one_of true x y p q = p
one_of false x y p q = q

writer_goes : (s : WriterState) (n : ℕ) (st : WriterStep) → OnWord (writer_op s st)
    → WriterGoes (writer_took s (answer.Old n) st).step
writer_goes s n (writer_step.Advance v) on =
    let there : Bool = ends s.advance n v in
    let next : WriterStep = writer_step.Advance (advance_next s.advance n v) in
    two (finds_no_more s n v) (writer_step.Advance advance_step.LoadTail) (cond there writer_step.LoadCheckpoint next) tt
    (two there writer_step.LoadCheckpoint next tt tt)
writer_goes s n writer_step.LoadCheckpoint on =
    let outside : Bool = stands_outside s in
    let then : WriterStep = cond outside writer_step.LoadFirst writer_step.LoadCell in
    one_of (has_log_space s n) (record s { ckpt = n; step = then })
    (record s { ckpt = n; checks = true; step = writer_step.LoadCheckpoint })
    (two outside writer_step.LoadFirst writer_step.LoadCell tt tt) tt
writer_goes s n writer_step.LoadFirst on = tt
writer_goes s n writer_step.ClearFirst on = tt
writer_goes s n writer_step.LoadCell on = one_of (has_whole_word s) (record s { word = n; step = writer_step.ClearCell })
    (record s {
      kept = s.kept ++ lanes (lane_of (read_place s)) (s.tail - lsn (read_place s)) n;
      step = writer_step.TakeDevice;
    }) tt tt
writer_goes s n writer_step.ClearCell on =
    let full : Bool = length s.kept + left_in_word (read_place s) == BLOCK_DATA * length s.firsts in
    let then : WriterStep = cond full writer_step.LoadFirst writer_step.LoadCell in
    two (lsn (word_end s) == s.tail) writer_step.TakeDevice then tt
    (two full writer_step.LoadFirst writer_step.LoadCell tt tt)
writer_goes s n writer_step.StoreWrite on = tt
writer_goes s n writer_step.StoreFailed on = tt
writer_goes s n _ on = absurd on

flusher_goes : (f : FlusherState) (n : ℕ) (st : FlusherStep) → (st ≡ flusher_step.LoadWrite → ⊥)
    → OnWord (flusher_op f st) → FlusherGoes (flusher_took f (answer.Old n) st).step
flusher_goes f n flusher_step.LoadWrite no_load on = absurd (no_load refl)
flusher_goes f n flusher_step.StoreFlushed no_load on = tt
flusher_goes f n flusher_step.StoreFailed no_load on = tt
flusher_goes f n _ no_load on = absurd on

module _ (o : OwnUser) (k : LogWork) where
  writer_keeps : (s : WriterState) (st : WriterStep) → WriterGoes st → has_work o.errand ≡ true
      → has_work (after_writer o k s st).0.errand ≡ true
  writer_keeps s (writer_step.Advance v) goes has = pick s.checks
    where
      pick : (b : Bool) → has_work (cond b (written o k s) (o, record k { writer = s })).0.errand ≡ true
      pick true = refl
      pick false = has
  writer_keeps s writer_step.LoadCheckpoint goes has = pick s.checks
    where
      pick : (b : Bool) → has_work (cond b (written o k s) (o, record k { writer = s })).0.errand ≡ true
      pick true = refl
      pick false = has
  writer_keeps s writer_step.Failed goes has = absurd goes
  writer_keeps s writer_step.GiveDevice goes has = refl
  writer_keeps s _ goes has = has

  flusher_keeps : (f : FlusherState) (st : FlusherStep) → FlusherGoes st → has_work o.errand ≡ true
      → has_work (after_flusher o k f st).0.errand ≡ true
  flusher_keeps f flusher_step.LoadWrite goes has = absurd goes
  flusher_keeps f flusher_step.Failed goes has = absurd goes
  flusher_keeps f _ goes has = has

  errand_keeps : (x : ErrandStep) (n : ℕ) → has_work x ≡ true → (k.flusher.step ≡ flusher_step.LoadWrite → x ≡ errand_step.Flush → ⊥)
      → has_work o.errand ≡ true → OnWord (errand_op o k x) → has_work (errand_took o k (answer.Old n) x).0.errand ≡ true
  errand_keeps errand_step.Write n has flushing own on =
      let s = writer_took k.writer (answer.Old n) k.writer.step in
      writer_keeps s s.step (writer_goes k.writer n k.writer.step on) own
  errand_keeps errand_step.Flush n has flushing own on =
      let f = flusher_took k.flusher (answer.Old n) k.flusher.step in
      flusher_keeps f f.step (flusher_goes k.flusher n k.flusher.step (λ e. flushing e refl) on) own
  errand_keeps errand_step.GiveBroken n has flushing own on = absurd on
  errand_keeps _ n has flushing own on = absurd (cc)

  -- WITH THE WORK IN HAND it has it after an Op on a word
  pub keeps_work : (n : ℕ) → has_work o.errand ≡ true → o.user.checks ≡ false
      → (k.flusher.step ≡ flusher_step.LoadWrite → o.errand ≡ errand_step.Flush → ⊥) → OnWord (own_next o k)
      → has_work (own_goes_on o k (answer.Old n)).0.errand ≡ true
  keeps_work n has asks flushing on = by o.user.checks asks on
    where
      by : (b : Bool) → b ≡ false → OnWord (cond b (op.Load word.Failed) (errand_op o k o.errand))
          → has_work (cond b (own_checked o n, k) (errand_took o k (answer.Old n) o.errand)).0.errand ≡ true
      by true z on = absurd (cc)
      by false z on = errand_keeps o.errand n has flushing has on

  -- WITHOUT IT, it has none after that either, and the work is as it was
  abbrev Aside : OwnUser × LogWork → Type 0
  Aside x = (has_work x.0.errand ≡ false) × (x.1 ≡ k)

  stepped_aside : (n : ℕ) → has_work o.errand ≡ false → has_work (own_stepped o n).errand ≡ false
  stepped_aside n none = pick (sets_out o n) _ _ refl none
    where
      pick : (b : Bool) (x y : OwnUser) → has_work x.errand ≡ false → has_work y.errand ≡ false
          → has_work (cond b x y).errand ≡ false
      pick true x y p q = p
      pick false x y p q = q

  checked_aside : (n : ℕ) → has_work o.errand ≡ false → Aside (own_checked o n, k)
  checked_aside n none = (pick (n == 0), refl)
    where
      pick : (b : Bool) → has_work (cond b o.errand errand_step.Done) ≡ false
      pick true = none
      pick false = refl

  errand_aside : (x : ErrandStep) (n : ℕ) → has_work x ≡ false → has_work o.errand ≡ false → OnWord (errand_op o k x)
      → Aside (errand_took o k (answer.Old n) x)
  errand_aside errand_step.Done n none own on = (stepped_aside n own, refl)
  errand_aside errand_step.TakeDevice n none own on = absurd on
  errand_aside _ n none own on = absurd (cc)

  pub stays_aside : (n : ℕ) → has_work o.errand ≡ false → OnWord (own_next o k)
      → Aside (own_goes_on o k (answer.Old n))
  stays_aside n none on = by o.user.checks on
    where
      by : (b : Bool) → OnWord (cond b (op.Load word.Failed) (errand_op o k o.errand))
          → Aside (cond b (own_checked o n, k) (errand_took o k (answer.Old n) o.errand))
      by true on = checked_aside n none
      by false on = errand_aside o.errand n none none on
