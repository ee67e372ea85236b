-- FAILED has a cause: it is stored only by an actor whose device call or append failed, and no later step takes a cause
-- back.
use Rattle.model_core.specs.ReaderProgram.{next_block}
use Rattle.model_core.specs.{Room, Actor, Batch, Blocks, checkpointer_op, CheckpointerState, cleaner_op, CleanerState, closer_op, CloserState, DataServed, flusher_op, FlusherState, lent, Listed, LogServed, next, Nothing, read, shared_left, SharedWords, user_op, UserState, writer_op, WriterState, wrote, HasLost, reader_op, ReaderState, DataSide, LogSide, Setup}
use Rattle.std.proofs.Common.{Bool, List, cond, eqb, false, inl, inr, refl, subst, sym, true, ℕ, ◌+◌, ◌%◌, ◌<◌, ◌≡◌, ◌⊎◌, ⊎_elim}
use Rattle.std.specs.Prelude.{slice_index, slice_set}
use lib.ListN.{get_elem?}
use mathlib.Core.Option.{some}
use Rattle.model_core.specs.declared.steps.CleanerStep.{CleanerStep}
use Rattle.model_core.specs.declared.steps.CloserStep.{CloserStep}
use Rattle.model_core.specs.declared.steps.UserStep.{UserStep}
use Rattle.model_core.specs.declared.steps.CheckpointerStep.{CheckpointerStep}
use Rattle.model_core.specs.declared.steps.WriterStep.{WriterStep}
use Rattle.model_core.specs.declared.steps.FlusherStep.{FlusherStep}
use Rattle.model_core.specs.declared.steps.ReaderStep.{ReaderStep}
use Rattle.model_logcore.proofs.DeviceSteps.{can_write}
use Rattle.model_logcore.specs.{LogGhost}
use Rattle.model_logcore.specs.LogLaws.{LogLaws}
use Rattle.model_pagecore.specs.DataLaws.{DataLaws}
use Rattle.model_pagecore.specs.{CleanerFits, PageGhost}
use Rattle.model_running.specs.Watermarks.{BothHalves}
use Rattle.model_core.specs.declared.steps.UserStep.TheVariants as user_step
use Rattle.model_core.specs.declared.steps.CloserStep.TheVariants as closer_step
use Rattle.model_core.specs.declared.steps.CleanerStep.TheVariants as cleaner_step
use Rattle.model_core.specs.declared.steps.CheckpointerStep.TheVariants as checkpointer_step
use Rattle.model_core.specs.declared.steps.AdvanceStep.TheVariants as advance_step
use Rattle.model_core.specs.States as actor
use Rattle.model_core.specs.declared.words.Word.TheVariants as word
use Rattle.model_core.specs.declared.ops.Op.TheVariants as op
use Rattle.model_core.specs.declared.steps.WriterStep.TheVariants as writer_step
use Rattle.model_core.specs.declared.steps.FlusherStep.TheVariants as flusher_step
use Rattle.model_core.specs.declared.steps.ReaderStep.TheVariants as reader_step
use Rattle.model_logcore.specs.LogFits as marks
use Rattle.model_core.specs.declared.ops.Op.{Op}
use Rattle.model_core.specs.declared.words.Word.{Word}
use Rattle.model_running.proofs.CallConditions.{after_batch, can_checkpoint}

module _ (D : LogSide) (L : LogLaws D) (E : DataSide) (EL : DataLaws E) (c : Setup) (m : SharedWords) (g : LogGhost) (h : PageGhost) (ls : ℕ → List Listed) (p : D.Part) (d : E.Part) (actors : List Actor) (seat : ℕ) (both : BothHalves D E c m g h ls p d actors) (code : ℕ) (q : D.Part) (e : E.Part)
    (now : List Actor) (lost : (x : ℕ) → HasLost actors x → HasLost now x) where
  -- `now` are the actors then
  abbrev Caused : ℕ → Type 0
  Caused x = D.Cause q x ⊎ E.Cause e x ⊎ HasLost now x

  abbrev CausedBy : Op → Type 0
  CausedBy o = 0 < (shared_left m o).failed → Caused (shared_left m o).failed

  -- FAILED stays, and so do causes
  stays : (o : Op) → (shared_left m o).failed ≡ m.failed → ((x : ℕ) → D.Cause p x → D.Cause q x) → ((x : ℕ) → E.Cause d x → E.Cause e x) → CausedBy o
  stays o same log_causes data_causes nonzero =
      let before = both.cause (subst (λ (k : ℕ). 0 < k) same nonzero) in
      subst Caused (sym same) (⊎_elim (λ z. inl (log_causes m.failed z)) (⊎_elim (λ z. inr (inl (data_causes m.failed z))) (λ z. inr (inr (lost m.failed z)))) before)

  abbrev IsOther : Word → Type 0
  IsOther word.Failed = ⊥
  IsOther _ = Unit {0}

  wrote_failed : (w : Word) (x : ℕ) → IsOther w → (wrote m w x).failed ≡ m.failed
  wrote_failed word.Failed x o = absurd o
  wrote_failed _ x o = refl

  abbrev LeavesFailed : Op → Type 0
  LeavesFailed (op.Store w x) = IsOther w
  LeavesFailed (op.Add w n) = IsOther w
  LeavesFailed (op.Swap w a b) = IsOther w
  LeavesFailed _ = Unit {0}

  device_by : (b : Bool) → (cond b (record m { device = 1 }) m).failed ≡ m.failed
  device_by true = refl
  device_by false = refl

  list_by : (i : ℕ) (b : Bool) → (cond b (record m { lists = slice_set m.lists i 1 }) m).failed ≡ m.failed
  list_by i true = refl
  list_by i false = refl

  swap_by : (w : Word) (x : ℕ) (b : Bool) → IsOther w → (cond b (wrote m w x) m).failed ≡ m.failed
  swap_by w x true o = wrote_failed w x o
  swap_by w x false o = refl

  left_failed : (o : Op) → LeavesFailed o → (shared_left m o).failed ≡ m.failed
  left_failed (op.Store w x) o = wrote_failed w x o
  left_failed (op.Add w n) o = wrote_failed w (read m w + n) o
  left_failed (op.Swap w a b) o = swap_by w b (eqb (read m w) a) o
  left_failed op.TakeDevice o = device_by (eqb m.device 0)
  left_failed (op.TakeAdd r x) o = list_by (r % 4) (eqb (slice_index m.lists (r % 4)) 0)
  left_failed (op.TakeRemove r) o = list_by (r % 4) (eqb (slice_index m.lists (r % 4)) 0)
  left_failed (op.TakeOldest i) o = list_by i (eqb (slice_index m.lists i) 0)
  left_failed _ o = refl

  -- neither part is called
  quiet : (o : Op) → LeavesFailed o → ◌≡◌ {A = D.Part} q p → ◌≡◌ {A = E.Part} e d → CausedBy o
  quiet o other s v = stays o (left_failed o other) (λ x z. subst (λ (y : D.Part). D.Cause y x) (sym s) z) (λ x z. subst (λ (y : E.Part). E.Cause y x) (sym v) z)

  -- the log part alone is called, or the data part
  log_called : (o : Op) → LeavesFailed o → ((x : ℕ) → D.Cause p x → D.Cause q x) → ◌≡◌ {A = E.Part} e d → CausedBy o
  log_called o other causes v = stays o (left_failed o other) causes (λ x z. subst (λ (y : E.Part). E.Cause y x) (sym v) z)

  data_called : (o : Op) → LeavesFailed o → ◌≡◌ {A = D.Part} q p → ((x : ℕ) → E.Cause d x → E.Cause e x) → CausedBy o
  data_called o other s causes = stays o (left_failed o other) (λ x z. subst (λ (y : D.Part). D.Cause y x) (sym s) z) causes

  user_caused : (u : UserState) (f : UserStep) → LogServed D p Nothing (user_op u f) code q → DataServed E d Nothing (user_op u f) code e → CausedBy (user_op u f)
  user_caused u (user_step.AdvanceWritten advance_step.LoadTail) s v = quiet (user_op u (user_step.AdvanceWritten advance_step.LoadTail)) tt s v
  user_caused u (user_step.AdvanceClosed advance_step.LoadTail) s v = quiet (user_op u (user_step.AdvanceClosed advance_step.LoadTail)) tt s v
  user_caused u f s v = quiet (user_op u f) tt s v

  writer_caused : (s : WriterState) → get_elem? actors seat ≡ some (actor.Writer s) → (f : WriterStep) → marks.WriterAt D c m g p seat s f → LogServed D p (Blocks s.kept s.firsts) (writer_op s f) code q → DataServed E d (Blocks s.kept s.firsts) (writer_op s f) code e → CausedBy (writer_op s f)
  writer_caused s at (writer_step.Advance advance_step.LoadTail) k w v = quiet (writer_op s (writer_step.Advance advance_step.LoadTail)) tt w v
  writer_caused s at writer_step.WriteTo k w v =
      let S : marks.WriterFits D c m g p seat s = both.logged.each seat (actor.Writer s) at in
      let A = L.writes c.blocks c.base g.log g.write g.target code s.kept s.firsts p q both.logged.global.part.holds (can_write D L c m g p actors seat s both.logged at k) (subst (λ (t : ℕ). D.Wrote t s.kept s.firsts code p q) S.tail w) in
      log_called (writer_op s writer_step.WriteTo) tt A.causes v
  writer_caused s at writer_step.StoreFailed k w v = λ _. inl (subst (λ (y : D.Part). D.Cause y s.code) (sym w) k.1)
  writer_caused s at f k w v = quiet (writer_op s f) tt w v

  flusher_caused : (t : FlusherState) (f : FlusherStep) → marks.FlusherAt D c m g p t f → LogServed D p Nothing (flusher_op t f) code q → DataServed E d Nothing (flusher_op t f) code e → CausedBy (flusher_op t f)
  flusher_caused t flusher_step.Sync k w v = log_called (flusher_op t flusher_step.Sync) tt (L.syncs c.blocks c.base g.log code p q both.logged.global.part.holds k w).causes v
  flusher_caused t flusher_step.StoreFailed k w v = λ _. inl (subst (λ (y : D.Part). D.Cause y t.code) (sym w) k.1)
  flusher_caused t f k w v = quiet (flusher_op t f) tt w v

  reader_caused : (t : ReaderState) → get_elem? actors seat ≡ some (actor.Reader t) → (f : ReaderStep) → marks.ReaderAt D c m g p t f → LogServed D p (Room t.block) (reader_op t f) code q → DataServed E d (Room t.block) (reader_op t f) code e → CausedBy (reader_op t f)
  reader_caused t at reader_step.ReadBlock k w v = log_called (reader_op t reader_step.ReadBlock) tt (L.reads c.blocks c.base g.log (next_block t) code t.block p q both.logged.global.part.holds k w).causes v
  reader_caused t at reader_step.StoreFailed k w v = λ _. inl (subst (λ (y : D.Part). D.Cause y t.code) (sym w) k.1)
  reader_caused t at reader_step.StoreLost k w v = λ _. inr (inr (lost t.lost (record { seat = seat; archiver = t; at = at; lost = refl; some_code = k })))
  reader_caused t at f k w v = quiet (reader_op t f) tt w v

  closer_caused : (t : CloserState) (f : CloserStep) → LogServed D p Nothing (closer_op t f) code q → DataServed E d Nothing (closer_op t f) code e → CausedBy (closer_op t f)
  closer_caused t (closer_step.Advance advance_step.LoadTail) w v = quiet (closer_op t (closer_step.Advance advance_step.LoadTail)) tt w v
  closer_caused t f w v = quiet (closer_op t f) tt w v

  cleaner_caused : (x : CleanerState) → get_elem? actors seat ≡ some (actor.Cleaner x) → (f : CleanerStep) → x.step ≡ f → LogServed D p (Batch x.batch) (cleaner_op x f) code q → DataServed E d (Batch x.batch) (cleaner_op x f) code e → CausedBy (cleaner_op x f)
  cleaner_caused x at cleaner_step.WriteBatch is w v = data_called (cleaner_op x cleaner_step.WriteBatch) tt w (after_batch D L E EL c m g h ls p d actors seat both x at is code e v).causes
  cleaner_caused x at cleaner_step.StoreFailed is w v =
      let X : CleanerFits E c m g.log h ls d seat x = both.paged.each seat (actor.Cleaner x) at in
      λ _. inr (inl (subst (λ (y : E.Part). E.Cause y x.code) (sym v) (X.cause is)))
  cleaner_caused x at f is w v = quiet (cleaner_op x f) tt w v

  checkpointer_caused : (t : CheckpointerState) → get_elem? actors seat ≡ some (actor.Checkpointer t) → (f : CheckpointerStep) → t.step ≡ f → marks.CheckpointerAt D c m g p t f → LogServed D p Nothing (checkpointer_op t f) code q → DataServed E d Nothing (checkpointer_op t f) code e → CausedBy (checkpointer_op t f)
  checkpointer_caused t at checkpointer_step.Checkpoint is k w v = log_called (checkpointer_op t checkpointer_step.Checkpoint) tt (L.checkpoints c.blocks c.base g.log t.to code p q both.logged.global.part.holds (can_checkpoint D L E EL c m g h ls p d actors seat both t at is) w).causes v
  checkpointer_caused t at checkpointer_step.StoreFailed is k w v = λ _. inl (subst (λ (y : D.Part). D.Cause y t.code) (sym w) k.1)
  checkpointer_caused t at f is k w v = quiet (checkpointer_op t f) tt w v

  -- after the actor's next Op, whatever it is, FAILED has a cause
  pub caused : (a : Actor) → get_elem? actors seat ≡ some a → LogServed D p (lent a) (next a) code q → DataServed E d (lent a) (next a) code e → CausedBy (next a)
  caused (actor.User u) at w v = by u.checks w v
    where
      by : (b : Bool) → LogServed D p Nothing (cond b (op.Load word.Failed) (user_op u u.step)) code q → DataServed E d Nothing (cond b (op.Load word.Failed) (user_op u u.step)) code e → CausedBy (cond b (op.Load word.Failed) (user_op u u.step))
      by true w v = quiet (op.Load word.Failed) tt w v
      by false w v = user_caused u u.step w v
  caused (actor.Writer s) at w v = by s.checks w v
    where
      by : (b : Bool) → LogServed D p (Blocks s.kept s.firsts) (cond b (op.Load word.Failed) (writer_op s s.step)) code q → DataServed E d (Blocks s.kept s.firsts) (cond b (op.Load word.Failed) (writer_op s s.step)) code e → CausedBy (cond b (op.Load word.Failed) (writer_op s s.step))
      by true w v = quiet (op.Load word.Failed) tt w v
      by false w v = let S : marks.WriterFits D c m g p seat s = both.logged.each seat (actor.Writer s) at in writer_caused s at s.step S.step w v
  caused (actor.Flusher t) at w v = by t.checks w v
    where
      by : (b : Bool) → LogServed D p Nothing (cond b (op.Load word.Failed) (flusher_op t t.step)) code q → DataServed E d Nothing (cond b (op.Load word.Failed) (flusher_op t t.step)) code e → CausedBy (cond b (op.Load word.Failed) (flusher_op t t.step))
      by true w v = quiet (op.Load word.Failed) tt w v
      by false w v = let T : marks.FlusherFits D c m g p seat t = both.logged.each seat (actor.Flusher t) at in flusher_caused t t.step T.step w v
  caused (actor.Reader t) at w v = by t.checks w v
    where
      by : (b : Bool) → LogServed D p (Room t.block) (cond b (op.Load word.Failed) (reader_op t t.step)) code q → DataServed E d (Room t.block) (cond b (op.Load word.Failed) (reader_op t t.step)) code e → CausedBy (cond b (op.Load word.Failed) (reader_op t t.step))
      by true w v = quiet (op.Load word.Failed) tt w v
      by false w v = let T : marks.ReaderFits D c m g p seat t = both.logged.each seat (actor.Reader t) at in reader_caused t at t.step T.step w v
  caused (actor.Closer t) at w v = by t.checks w v
    where
      by : (b : Bool) → LogServed D p Nothing (cond b (op.Load word.Failed) (closer_op t t.step)) code q → DataServed E d Nothing (cond b (op.Load word.Failed) (closer_op t t.step)) code e → CausedBy (cond b (op.Load word.Failed) (closer_op t t.step))
      by true w v = quiet (op.Load word.Failed) tt w v
      by false w v = closer_caused t t.step w v
  caused (actor.Cleaner x) at w v = by x.checks w v
    where
      by : (b : Bool) → LogServed D p (Batch x.batch) (cond b (op.Load word.Failed) (cleaner_op x x.step)) code q → DataServed E d (Batch x.batch) (cond b (op.Load word.Failed) (cleaner_op x x.step)) code e → CausedBy (cond b (op.Load word.Failed) (cleaner_op x x.step))
      by true w v = quiet (op.Load word.Failed) tt w v
      by false w v = cleaner_caused x at x.step refl w v
  caused (actor.Checkpointer t) at w v = by t.checks w v
    where
      by : (b : Bool) → LogServed D p Nothing (cond b (op.Load word.Failed) (checkpointer_op t t.step)) code q → DataServed E d Nothing (cond b (op.Load word.Failed) (checkpointer_op t t.step)) code e → CausedBy (cond b (op.Load word.Failed) (checkpointer_op t t.step))
      by true w v = quiet (op.Load word.Failed) tt w v
      by false w v = let N : marks.CheckpointerFits D c m g p seat t = both.logged.each seat (actor.Checkpointer t) at in checkpointer_caused t at t.step refl N.step w v
