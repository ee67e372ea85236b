-- FAILED never goes back to 0.
use Rattle.std.proofs.Common.{Bool, List, ap, arith, cond, false, get_or-set_other, get_or-set_same, inl, inr, length, refl, subst, true, ℕ, ⊎_elim, ◌%◌, ◌+◌, ◌<◌, ◌==◌, ◌∙◌, ◌≡◌, ◌≢◌, ◌⊎◌}
use Rattle.std.specs.Prelude.{slice_index, slice_set}
use lib.ListN.{get_elem?}
use mathlib.Core.Option.{some}
use Rattle.model_core.specs.{Actor, checkpointer_op, CheckpointerState, cleaner_op, CleanerState, closer_op, CloserState, Core, flat, flusher_op, FlusherState, index, is_checking, next, own_op, SharedWords, user_op, UserState, words_left, writer_op, WriterState, reader_op, ReaderState, DataSide, LogSide, Setup}
use Rattle.model_core.specs.Program.{Turn}
use Rattle.model_core.specs.declared.ops.Answer.{Answer}
use Rattle.model_core.specs.declared.ops.Op.{Op}
use Rattle.model_core.specs.declared.ops.Step.{Step}
use Rattle.model_core.specs.declared.steps.CheckpointerStep.{CheckpointerStep}
use Rattle.model_core.specs.declared.steps.CleanerStep.{CleanerStep}
use Rattle.model_core.specs.declared.steps.CloserStep.{CloserStep}
use Rattle.model_core.specs.declared.steps.FlusherStep.{FlusherStep}
use Rattle.model_core.specs.declared.steps.ReaderStep.{ReaderStep}
use Rattle.model_core.specs.declared.steps.UserStep.{UserStep}
use Rattle.model_core.specs.declared.steps.WriterStep.{WriterStep}
use Rattle.model_core.specs.declared.words.Layout.{Layout}
use Rattle.model_core.specs.declared.words.Word.{Word}
use Rattle.model_logcore.proofs.WriterSteps.{own}
use Rattle.model_logcore.specs.{CheckpointerAt, CheckpointerFits, CleanerTold, FlusherAt, FlusherFits, LogGhost, WriterAt, WriterFits, ReaderAt, ReaderFits, LogHalf}
use Rattle.model_running.specs.Watermarks.{IsRunning}
use Rattle.model_core.specs.declared.words.Word.TheVariants as word
use Rattle.model_core.specs.declared.ops.Op.TheVariants as op
use Rattle.model_core.specs.declared.steps.UserStep.TheVariants as user_step
use Rattle.model_core.specs.declared.steps.WriterStep.TheVariants as writer_step
use Rattle.model_core.specs.declared.steps.FlusherStep.TheVariants as flusher_step
use Rattle.model_core.specs.declared.steps.ReaderStep.TheVariants as reader_step
use Rattle.model_core.specs.declared.steps.CloserStep.TheVariants as closer_step
use Rattle.model_core.specs.declared.steps.CleanerStep.TheVariants as cleaner_step
use Rattle.model_core.specs.declared.steps.CheckpointerStep.TheVariants as checkpointer_step
use Rattle.model_core.specs.declared.steps.AdvanceStep.TheVariants as advance_step
use Rattle.model_core.specs.States as actor

-- the Op doesn't add to FAILED, nor swaps it
abbrev LeavesFailed : Op → Type 0
LeavesFailed (op.Add word.Failed k) = ⊥
LeavesFailed (op.Swap word.Failed x y) = ⊥
LeavesFailed _ = Unit {0}

-- what an Op leaves of FAILED: as it was, or what it stores there
abbrev FailedLeft : Layout → List ℕ → Op → Type 0
FailedLeft layout ws o = (slice_index (words_left layout ws o) 6 ≡ slice_index ws 6) ⊎ ((x : ℕ) × (o ≡ op.Store word.Failed x) × (slice_index (words_left layout ws o) 6 ≡ x))

else_set : (ws : List ℕ) (i x : ℕ) → 6 ≢ i → slice_index (slice_set ws i x) 6 ≡ slice_index ws 6
else_set ws i x ne = get_or-set_other ws i 6 x 0 ne

else_by : (ws : List ℕ) (i x : ℕ) (b : Bool) → 6 ≢ i → slice_index (cond b (slice_set ws i x) ws) 6 ≡ slice_index ws 6
else_by ws i x true ne = else_set ws i x ne
else_by ws i x false ne = refl

other_word : (layout : Layout) (w : Word) → (w ≡ word.Failed) ⊎ (6 ≢ index layout w)
other_word layout word.Failed = inl refl
other_word layout word.Sn = inr (λ e. omega arith)
other_word layout word.Write = inr (λ e. omega arith)
other_word layout word.Wtail = inr (λ e. omega arith)
other_word layout word.Flushed = inr (λ e. omega arith)
other_word layout word.Ckpt = inr (λ e. omega arith)
other_word layout word.Ctail = inr (λ e. omega arith)
other_word layout word.Device = inr (λ e. omega arith)
other_word layout (word.List i) = inr (λ e. omega arith)
other_word layout (word.Wlink i) = inr (λ e. omega arith)
other_word layout (word.Clink i) = inr (λ e. omega arith)
other_word layout (word.Cell i) = inr (λ e. omega arith)
other_word layout (word.First i) = inr (λ e. omega arith)
other_word layout (word.Place i) = inr (λ e. omega arith)
other_word layout (word.Latch p) = inr (λ e. omega arith)
other_word layout (word.Newest p) = inr (λ e. omega arith)
other_word layout (word.Oldest p) = inr (λ e. omega arith)
other_word layout (word.Frame p i) = inr (λ e. omega arith)

failed_left : (layout : Layout) (ws : List ℕ) → 6 < length ws → (o : Op) → LeavesFailed o → FailedLeft layout ws o
failed_left layout ws long (op.Load w) leaves = inl refl
failed_left layout ws long (op.Store w x) leaves = ⊎_elim
    (λ is. inr (x, ap (λ (z : Word). op.Store z x) is, ap (λ (z : Word). slice_index (slice_set ws (index layout z) x) 6) is ∙ get_or-set_same ws 6 x 0 long))
    (λ ne. inl (else_set ws (index layout w) x ne)) (other_word layout w)
failed_left layout ws long (op.Add w k) leaves = ⊎_elim (λ is. absurd (subst (λ (z : Word). LeavesFailed (op.Add z k)) is leaves)) (λ ne. inl (else_set ws (index layout w) (slice_index ws (index layout w) + k) ne)) (other_word layout w)
failed_left layout ws long (op.Swap w x y) leaves = ⊎_elim (λ is. absurd (subst (λ (z : Word). LeavesFailed (op.Swap z x y)) is leaves)) (λ ne. inl (else_by ws (index layout w) y (slice_index ws (index layout w) == x) ne)) (other_word layout w)
failed_left layout ws long op.TakeDevice leaves = inl (else_by ws 7 1 (slice_index ws 7 == 0) (λ e. omega arith))
failed_left layout ws long op.GiveDevice leaves = inl (else_set ws 7 0 (λ e. omega arith))
failed_left layout ws long (op.TakeAdd p x) leaves = inl (else_by ws (8 + p % 4) 1 (slice_index ws (8 + p % 4) == 0) (λ e. omega arith))
failed_left layout ws long (op.TakeRemove p) leaves = inl (else_by ws (8 + p % 4) 1 (slice_index ws (8 + p % 4) == 0) (λ e. omega arith))
failed_left layout ws long (op.TakeOldest i) leaves = inl (else_by ws (8 + i) 1 (slice_index ws (8 + i) == 0) (λ e. omega arith))
failed_left layout ws long (op.GiveList i) leaves = inl (else_set ws (8 + i) 0 (λ e. omega arith))
failed_left layout ws long (op.WriteTo t) leaves = inl refl
failed_left layout ws long (op.ReadBlock b) leaves = inl refl
failed_left layout ws long op.Sync leaves = inl refl
failed_left layout ws long (op.Checkpoint x) leaves = inl refl
failed_left layout ws long op.WriteBatch leaves = inl refl
failed_left layout ws long (op.Append x) leaves = inl refl
failed_left layout ws long op.Rest leaves = inl refl

-- no program adds to FAILED, nor swaps it
user_leaves : (u : UserState) (f : UserStep) → LeavesFailed (user_op u f)
user_leaves u (user_step.AdvanceWritten advance_step.LoadTail) = tt
user_leaves u (user_step.AdvanceClosed advance_step.LoadTail) = tt
user_leaves u _ = tt

writer_leaves : (s : WriterState) (f : WriterStep) → LeavesFailed (writer_op s f)
writer_leaves s (writer_step.Advance advance_step.LoadTail) = tt
writer_leaves s _ = tt

flusher_leaves : (t : FlusherState) (f : FlusherStep) → LeavesFailed (flusher_op t f)
flusher_leaves t flusher_step.LoadWrite = tt
flusher_leaves t _ = tt

reader_leaves : (t : ReaderState) (f : ReaderStep) → LeavesFailed (reader_op t f)
reader_leaves t reader_step.LoadFlushed = tt
reader_leaves t _ = tt

closer_leaves : (t : CloserState) (f : CloserStep) → LeavesFailed (closer_op t f)
closer_leaves t (closer_step.Advance advance_step.LoadTail) = tt
closer_leaves t _ = tt

cleaner_leaves : (v : CleanerState) (f : CleanerStep) → LeavesFailed (cleaner_op v f)
cleaner_leaves v cleaner_step.LoadFlushed = tt
cleaner_leaves v _ = tt

checkpointer_leaves : (t : CheckpointerState) (f : CheckpointerStep) → LeavesFailed (checkpointer_op t f)
checkpointer_leaves t checkpointer_step.LoadCtail = tt
checkpointer_leaves t _ = tt

own_leaves : (a : Actor) → LeavesFailed (own_op a)
own_leaves (actor.User u) = user_leaves u u.step
own_leaves (actor.Writer s) = writer_leaves s s.step
own_leaves (actor.Flusher t) = flusher_leaves t t.step
own_leaves (actor.Reader t) = reader_leaves t t.step
own_leaves (actor.Closer t) = closer_leaves t t.step
own_leaves (actor.Cleaner v) = cleaner_leaves v v.step
own_leaves (actor.Checkpointer t) = checkpointer_leaves t t.step

checking_leaves : (b : Bool) (o : Op) → LeavesFailed o → LeavesFailed (cond b (op.Load word.Failed) o)
checking_leaves true o leaves = tt
checking_leaves false o leaves = leaves

-- what an actor stores in FAILED isn't 0
module _ (D : LogSide) (c : Setup) (m : SharedWords) (g : LogGhost) (p : D.Part) (actors : List Actor) (seat : ℕ) (half : LogHalf D c m g p actors) (x : ℕ) where
  user_stores : (u : UserState) (f : UserStep) → user_op u f ≡ op.Store word.Failed x → 0 < x
  user_stores u (user_step.AdvanceWritten advance_step.LoadTail) is = absurd (cc)
  user_stores u (user_step.AdvanceClosed advance_step.LoadTail) is = absurd (cc)
  user_stores u _ is = absurd (cc)

  writer_stores : (s : WriterState) (f : WriterStep) → WriterAt D c m g p seat s f → writer_op s f ≡ op.Store word.Failed x → 0 < x
  writer_stores s (writer_step.Advance advance_step.LoadTail) at is = absurd (cc)
  writer_stores s writer_step.StoreFailed at is = let code : s.code ≡ x = cc in subst (λ (k : ℕ). 0 < k) code at.0
  writer_stores s _ at is = absurd (cc)

  flusher_stores : (t : FlusherState) (f : FlusherStep) → FlusherAt D c m g p t f → flusher_op t f ≡ op.Store word.Failed x → 0 < x
  flusher_stores t flusher_step.StoreFailed at is = let code : t.code ≡ x = cc in subst (λ (k : ℕ). 0 < k) code at.0
  flusher_stores t _ at is = absurd (cc)

  reader_stores : (t : ReaderState) (f : ReaderStep) → ReaderAt D c m g p t f → reader_op t f ≡ op.Store word.Failed x → 0 < x
  reader_stores t reader_step.StoreFailed at is = let code : t.code ≡ x = cc in subst (λ (k : ℕ). 0 < k) code at.0
  reader_stores t reader_step.StoreLost at is = let code : t.lost ≡ x = cc in subst (λ (k : ℕ). 0 < k) code at
  reader_stores t _ at is = absurd (cc)

  closer_stores : (t : CloserState) (f : CloserStep) → closer_op t f ≡ op.Store word.Failed x → 0 < x
  closer_stores t (closer_step.Advance advance_step.LoadTail) is = absurd (cc)
  closer_stores t _ is = absurd (cc)

  cleaner_stores : (v : CleanerState) (f : CleanerStep) → v.step ≡ f → CleanerTold D c m g p v → cleaner_op v f ≡ op.Store word.Failed x → 0 < x
  cleaner_stores v cleaner_step.StoreFailed step told is = let code : v.code ≡ x = cc in subst (λ (k : ℕ). 0 < k) code (told.1 step)
  cleaner_stores v _ step told is = absurd (cc)

  checkpointer_stores : (t : CheckpointerState) (f : CheckpointerStep) → CheckpointerAt D c m g p t f → checkpointer_op t f ≡ op.Store word.Failed x → 0 < x
  checkpointer_stores t checkpointer_step.StoreFailed at is = let code : t.code ≡ x = cc in subst (λ (k : ℕ). 0 < k) code at.0
  checkpointer_stores t _ at is = absurd (cc)

  checking_stores : (b : Bool) (o : Op) → (o ≡ op.Store word.Failed x → 0 < x) → cond b (op.Load word.Failed) o ≡ op.Store word.Failed x → 0 < x
  checking_stores true o own is = absurd (cc)
  checking_stores false o own is = own is

  stores : (a : Actor) → get_elem? actors seat ≡ some a → next a ≡ op.Store word.Failed x → 0 < x
  stores (actor.User u) at = checking_stores u.checks (user_op u u.step) (user_stores u u.step)
  stores (actor.Writer s) at = let f : WriterFits D c m g p seat s = half.each seat (actor.Writer s) at in checking_stores s.checks (writer_op s s.step) (writer_stores s s.step f.step)
  stores (actor.Flusher t) at = let f : FlusherFits D c m g p seat t = half.each seat (actor.Flusher t) at in checking_stores t.checks (flusher_op t t.step) (flusher_stores t t.step f.step)
  stores (actor.Reader t) at = let f : ReaderFits D c m g p seat t = half.each seat (actor.Reader t) at in checking_stores t.checks (reader_op t t.step) (reader_stores t t.step f.step)
  stores (actor.Closer t) at = checking_stores t.checks (closer_op t t.step) (closer_stores t t.step)
  stores (actor.Cleaner v) at = checking_stores v.checks (cleaner_op v v.step) (cleaner_stores v v.step refl (half.each seat (actor.Cleaner v) at))
  stores (actor.Checkpointer t) at = let f : CheckpointerFits D c m g p seat t = half.each seat (actor.Checkpointer t) at in checking_stores t.checks (checkpointer_op t t.step) (checkpointer_stores t t.step f.step)

-- FAILED never goes back to 0
pub turn_keeps_failed : (D : LogSide) (E : DataSide) (c : Setup) (old new : Core D E) (seat : ℕ) (answer : Answer) (step : Step) → IsRunning D E c old → Turn D E old seat answer step new → 0 < slice_index old.words 6 → 0 < slice_index new.words 6
turn_keeps_failed D E c old new seat answer step before t failed =
    let a : Actor = t.who in
    let m : SharedWords = before.shared in
    let long : 6 < length old.words = (let n : length old.words ≡ length (flat m) = ap length before.flat_is in omega arith) in
    let words : slice_index new.words 6 ≡ slice_index (words_left old.layout old.words (next a)) 6 = ap (λ (ws : List ℕ). slice_index ws 6) t.words in
    ⊎_elim (λ same. omega arith)
    (λ stored. let s = stored.2 in let some = stores D c m before.log_ghost old.log_part old.actors seat before.both.logged stored.0 a t.who_is stored.1 in omega arith)
    (failed_left old.layout old.words long (next a) (checking_leaves (is_checking a) (own_op a) (own_leaves a)))
