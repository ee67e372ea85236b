-- What holds between any two turns of a store whose users write for themselves.
-- One user that writes for itself, the log alone, and no other actor: what holds between any two turns beside the
-- invariant, so that after an errand its condition holds.
use Rattle.std.specs.Prelude.{List, false, true, ℕ, ◌≡◌, ◌⊎◌, Bool, [], ◌*◌, ◌+◌, ◌∷◌, ◌≤◌}
use lib.ListN.{get_elem?}
use mathlib.Core.Option.{some}
use Rattle.model_core.specs.{DataSide, LogSide, Setup, group_end, lsn, SharedWords, UserState, WriterState, FlusherState, Actor}
use Rattle.model_core.specs.declared.steps.FlusherStep.{FlusherStep}
use Rattle.model_core.specs.declared.steps.WriterStep.{WriterStep}
use Rattle.model_own.specs.{OwnCore, with_writer, LogWork, OwnUser, flushes_at, has_work}
use Rattle.model_own.specs.ErrandFits.{ErrandFits}
use Rattle.model_own.specs.declared.errand.ErrandStep.{ErrandStep}
use Rattle.model_running.specs.Watermarks.{IsRunning}
use Rattle.model_core.specs.declared.steps.AdvanceStep.TheVariants as advance_step
use Rattle.model_core.specs.declared.steps.FlusherStep.TheVariants as flusher_step
use Rattle.model_core.specs.declared.steps.WriterStep.TheVariants as writer_step
use Rattle.model_own.specs.declared.errand.ErrandStep.TheVariants as errand_step
use Rattle.model_core.specs.declared.limits.TheConstants.{FREE_MARGIN, WRITTEN_LINKS}
use Rattle.model_base.specs.declared.limits.TheConstants.{BLOCK_SIZE}
use Rattle.model_core.specs.declared.steps.UserStep.{UserStep}
use Rattle.model_logcore.specs.{left_to_reserve}
use Rattle.model_core.specs.States as actor
use Rattle.model_core.specs.declared.steps.UserStep.TheVariants as user_step

module _ (D : LogSide) (p : D.Part) where
  -- the writer, and the flusher, before a round, or after the failure of a call of the part
  abbrev pub IsWriterAtRest : WriterStep → Type 0
  IsWriterAtRest (writer_step.Advance advance_step.LoadTail) = Unit {0}
  IsWriterAtRest writer_step.Failed = D.failed p ≡ true
  IsWriterAtRest _ = ⊥

  abbrev pub IsFlusherAtRest : FlusherStep → Type 0
  IsFlusherAtRest flusher_step.LoadWrite = Unit {0}
  IsFlusherAtRest flusher_step.Failed = D.failed p ≡ true
  IsFlusherAtRest _ = ⊥

  -- while the writer reads, the flusher has the log part; and then the writer has it, until WRITE or a failure is
  -- stored
  abbrev pub WritesAt : WriterStep → FlusherStep → Type 0
  WritesAt (writer_step.Advance v) f = (f ≡ flusher_step.GiveDevice) × (D.failed p ≡ false)
  WritesAt writer_step.LoadCheckpoint f = (f ≡ flusher_step.GiveDevice) × (D.failed p ≡ false)
  WritesAt writer_step.LoadFirst f = (f ≡ flusher_step.GiveDevice) × (D.failed p ≡ false)
  WritesAt writer_step.ClearFirst f = (f ≡ flusher_step.GiveDevice) × (D.failed p ≡ false)
  WritesAt writer_step.LoadCell f = (f ≡ flusher_step.GiveDevice) × (D.failed p ≡ false)
  WritesAt writer_step.ClearCell f = (f ≡ flusher_step.GiveDevice) × (D.failed p ≡ false)
  WritesAt writer_step.WriteTo f = (f ≡ flusher_step.LoadWrite) × (D.failed p ≡ false)
  WritesAt writer_step.StoreWrite f = (f ≡ flusher_step.LoadWrite) × (D.failed p ≡ false)
  WritesAt writer_step.StoreFailed f = (f ≡ flusher_step.LoadWrite) × (D.failed p ≡ true)
  WritesAt writer_step.GiveFailed f = (f ≡ flusher_step.LoadWrite) × (D.failed p ≡ true)
  WritesAt _ f = ⊥

  abbrev pub FlushesAt : FlusherStep → Type 0
  FlushesAt flusher_step.Sync = Unit {0}
  FlushesAt flusher_step.StoreFlushed = Unit {0}
  FlushesAt flusher_step.GiveDevice = Unit {0}
  FlushesAt flusher_step.StoreFailed = D.failed p ≡ true
  FlushesAt flusher_step.GiveFailed = D.failed p ≡ true
  FlushesAt _ = ⊥

  -- how far the log's work is while a user has it in hand, and while nobody has
  abbrev pub WorkAt : ErrandStep → WriterStep → FlusherStep → Type 0
  WorkAt errand_step.GiveBroken w f = IsWriterAtRest w × (f ≡ flusher_step.GiveDevice)
  WorkAt errand_step.Write w f = WritesAt w f
  WorkAt errand_step.Flush w f = (w ≡ writer_step.Advance advance_step.LoadTail) × FlushesAt f
  WorkAt _ w f = IsWriterAtRest w × IsFlusherAtRest f

  pub record WorkFits (errand : ErrandStep) (k : LogWork) : Type 0 where
    pub writer_goes_on : k.writer.checks ≡ false
    pub flusher_goes_on : k.flusher.checks ≡ false
    pub step : WorkAt errand k.writer.step k.flusher.step

  -- nobody has it in hand, or one user has
  abbrev pub NobodyAtWork : List OwnUser → LogWork → Type 0
  NobodyAtWork users k = ((seat : ℕ) (o : OwnUser) → get_elem? users seat ≡ some o → has_work o.errand ≡ false)
      × WorkFits errand_step.Done k

  abbrev pub SomebodyAtWork : List OwnUser → LogWork → Type 0
  SomebodyAtWork users k = (seat : ℕ) × (o : OwnUser) × (get_elem? users seat ≡ some o) × (has_work o.errand ≡ true)
      × WorkFits o.errand k

  pub record Errands (users : List OwnUser) (k : LogWork) : Type 0 where
    pub fits : (seat : ℕ) (o : OwnUser) → get_elem? users seat ≡ some o → ErrandFits o.user o.errand
    pub alone : (i j : ℕ) (o x : OwnUser) → get_elem? users i ≡ some o → get_elem? users j ≡ some x
        → has_work o.errand ≡ true → has_work x.errand ≡ true → i ≡ j
    pub work : NobodyAtWork users k ⊎ SomebodyAtWork users k

-- A RUNNING STORE WHOSE USERS WRITE FOR THEMSELVES. With the states of writer and flusher, in DEVICE's slot or in the
-- hand of the user that has DEVICE, it is a running store; one user at most has them in hand.
pub record OwnRunning (D : LogSide) (E : DataSide) (c : Setup) (s : OwnCore D E) : Type 0 where
  pub running : IsRunning D E c (with_writer s)
  pub errands : Errands D s.log_part s.users s.work

-- up to where all groups are linked, as an sn
abbrev pub top : SharedWords → UserState → UserStep → ℕ
top m u user_step.LoadCheckpoint = m.sn
top m u user_step.LoadSn = m.sn
top m u user_step.AwaitMark = group_end u
top m u _ = u.start

-- What the user knows at its step: where it advances the tail itself, that finds room.
abbrev pub UserAlone : SharedWords → UserState → UserStep → Type 0
UserAlone m u user_step.LoadSn = u.loaded.ckpt ≡ m.ckpt
UserAlone m u (user_step.AdvanceWritten advance_step.LoadTail) = m.wtail + WRITTEN_LINKS ≤ lsn u.start
UserAlone m u (user_step.AdvanceWritten advance_step.TakeTail) = (m.wtail + WRITTEN_LINKS ≤ lsn u.start)
    × (u.advance.tail ≡ m.wtail)
UserAlone m u (user_step.AdvanceWritten advance_step.LoadLink) = m.wtail + WRITTEN_LINKS ≤ lsn u.start
UserAlone m u (user_step.AdvanceWritten advance_step.ClearLink) = m.wtail + WRITTEN_LINKS ≤ lsn u.start
UserAlone m u (user_step.AdvanceWritten advance_step.FreeTail) = (m.wtail + WRITTEN_LINKS ≤ lsn u.start)
    × (lsn u.start ≤ u.advance.place)
UserAlone m u user_step.ReloadWtail = lsn u.start ≤ m.wtail
UserAlone m u _ = Unit {0}

-- the steps at which it is on an errand: it never lacks room in the recent-written buffer
abbrev pub OutAt : UserStep → Type 0
OutAt user_step.LoadCheckpoint = Unit {0}
OutAt user_step.LoadWrite = Unit {0}
OutAt user_step.AwaitMark = Unit {0}
OutAt _ = ⊥

-- The writer follows all links, reads and writes all that is linked; the flusher flushes that, if it is to.
abbrev pub WriterAlone : SharedWords → ℕ → WriterState → WriterStep → Type 0
WriterAlone m n s (writer_step.Advance advance_step.LoadTail) = Unit {0}
WriterAlone m n s (writer_step.Advance advance_step.TakeTail) = s.advance.tail ≡ m.wtail
WriterAlone m n s (writer_step.Advance advance_step.LoadLink) = Unit {0}
WriterAlone m n s (writer_step.Advance advance_step.ClearLink) = Unit {0}
WriterAlone m n s (writer_step.Advance advance_step.FreeTail) = n ≤ s.advance.place
WriterAlone m n s writer_step.LoadCheckpoint = n ≤ s.tail
WriterAlone m n s writer_step.LoadFirst = n ≤ s.tail
WriterAlone m n s writer_step.ClearFirst = n ≤ s.tail
WriterAlone m n s writer_step.LoadCell = n ≤ s.tail
WriterAlone m n s writer_step.ClearCell = n ≤ s.tail
WriterAlone m n s writer_step.WriteTo = n ≤ s.tail
WriterAlone m n s writer_step.StoreWrite = n ≤ s.tail
WriterAlone m n s _ = Unit {0}

abbrev pub FlusherAlone : SharedWords → ℕ → Bool → FlusherState → FlusherStep → Type 0
FlusherAlone m n flushes f flusher_step.StoreFlushed = n ≤ f.mark
FlusherAlone m n flushes f flusher_step.GiveDevice = flushes ≡ true → n ≤ m.flushed
FlusherAlone m n flushes f _ = Unit {0}

abbrev pub ErrandAlone : SharedWords → UserState → LogWork → ErrandStep → Type 0
ErrandAlone m u k errand_step.Write = WriterAlone m (lsn (top m u u.step)) k.writer k.writer.step
ErrandAlone m u k errand_step.Flush = (lsn (top m u u.step) ≤ m.write)
    × FlusherAlone m (lsn (top m u u.step)) (flushes_at u u.step) k.flusher k.flusher.step
ErrandAlone m u k _ = Unit {0}

-- After its errand its condition holds.
abbrev pub HasHelped : SharedWords → UserState → UserStep → Type 0
HasHelped m u s = (lsn (top m u s) ≤ m.write) × (flushes_at u s ≡ true → lsn (top m u s) ≤ m.flushed)

pub record Alone (c : Setup) (m : SharedWords) (o : OwnUser) (k : LogWork) : Type 0 where
  -- the log has space for all groups, as the fit list asks
  pub room : lsn (m.sn + left_to_reserve (actor.User o.user)) + FREE_MARGIN ≤ m.ckpt + BLOCK_SIZE * c.blocks
  pub user : UserAlone m o.user o.user.step
  pub errand : ErrandAlone m o.user k o.errand
  pub out : (o.errand ≡ errand_step.Done) ⊎ (OutAt o.user.step × (o.helped ≡ false))
  pub helped : o.helped ≡ true → HasHelped m o.user o.user.step × (o.user.checks ≡ false)

-- A running store of one such user, with the log alone.
pub record AloneRunning (D : LogSide) (E : DataSide) (c : Setup) (s : OwnCore D E) : Type 0 where
  pub log_only : c.log_only ≡ true
  pub own : OwnRunning D E c s
  pub who : OwnUser
  pub users : s.users ≡ who ∷ []
  pub others : ◌≡◌ {A = List Actor} s.others []
  pub alone : Alone c own.running.shared who s.work
