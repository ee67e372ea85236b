-- What a turn comes to: something falls that is left to do, or nothing does and the actor waits, or FAILED has a code.
use Rattle.std.proofs.Common.{cond, false, true, ℕ, ◌%◌, ◌+◌, ◌<◌, ◌==◌, ◌≡◌, ◌≢◌, ◌≤◌, ◌⊎◌}
use Rattle.std.specs.Prelude.{slice_index}
use Rattle.model_core.specs.{Actor, can_link, FlusherState, has_passed, has_room, mode, read, SharedWords, UserState, WriterState, Advance}
use Rattle.model_core.specs.declared.limits.TheConstants.{WRITTEN_LINKS}
use Rattle.model_core.specs.declared.steps.AdvanceStep.{AdvanceStep}
use Rattle.model_core.specs.declared.steps.FlusherStep.{FlusherStep}
use Rattle.model_core.specs.declared.steps.UserStep.{UserStep}
use Rattle.model_core.specs.declared.steps.WriterStep.{WriterStep}
use Rattle.model_ends.proofs.Cost.{cost, user_part, words_cost}
use Rattle.model_core.specs.States as actor
use Rattle.model_core.specs.declared.steps.AdvanceStep.TheVariants as advance_step
use Rattle.model_core.specs.declared.steps.FlusherStep.TheVariants as flusher_step
use Rattle.model_core.specs.declared.steps.UserStep.TheVariants as user_step
use Rattle.model_core.specs.declared.steps.WriterStep.TheVariants as writer_step
use Rattle.model_core.specs.declared.words.Word.TheVariants as word

-- a link stands at a place
abbrev pub Stands : SharedWords → ℕ → Type 0
Stands m place = 0 < slice_index m.wlinks (place % WRITTEN_LINKS)

-- Of an advance: where the actor comes to its next try anyway (`Up`), or has found, or will find, a link.
abbrev pub AdvanceCan : SharedWords → Type 0 → Advance → AdvanceStep → Type 0
AdvanceCan m Up v advance_step.LoadTail = Up
AdvanceCan m Up v advance_step.TakeTail = Up
AdvanceCan m Up v advance_step.LoadLink = Up ⊎ (Stands m v.place ⊎ (v.place ≢ v.tail))
AdvanceCan m Up v advance_step.ClearLink = Unit {0}
AdvanceCan m Up v advance_step.FreeTail = Up ⊎ (v.place ≢ v.tail)

-- what an actor waits for has come: its next try goes on
abbrev pub UserCan : SharedWords → UserState → UserStep → Type 0
UserCan m u user_step.LoadCheckpoint = Unit {0}
UserCan m u user_step.LoadSn = Unit {0}
UserCan m u user_step.Reserve = Unit {0}
UserCan m u user_step.LoadWrite = has_room u m.write ≡ true
UserCan m u user_step.AddCell = Unit {0}
UserCan m u user_step.StoreFirst = Unit {0}
UserCan m u user_step.LoadWtail = can_link u m.wtail ≡ true
UserCan m u (user_step.AdvanceWritten v) = AdvanceCan m (can_link u m.wtail ≡ true) u.advance v
UserCan m u user_step.ReloadWtail = can_link u m.wtail ≡ true
UserCan m u user_step.StoreLink = Unit {0}
UserCan m u user_step.AwaitMark = has_passed u (read m (cond (mode u == 1) word.Flushed word.Write)) ≡ true
UserCan m u _ = ⊥

-- the writer goes on with a tail above WRITE, or will find one
abbrev pub IsUp : SharedWords → WriterState → Type 0
IsUp m s = (s.write < s.tail) ⊎ (s.tail < m.wtail)

abbrev pub WriterCan : SharedWords → WriterState → WriterStep → Type 0
WriterCan m s (writer_step.Advance v) = AdvanceCan m (IsUp m s) s.advance v
WriterCan m s writer_step.TakeDevice = m.device ≡ 0
WriterCan m s writer_step.GiveBroken = ⊥
WriterCan m s writer_step.GiveFailed = ⊥
WriterCan m s writer_step.Failed = ⊥
WriterCan m s _ = Unit {0}

abbrev pub FlusherCan : SharedWords → FlusherState → FlusherStep → Type 0
FlusherCan m f flusher_step.LoadWrite = m.write ≢ f.last
FlusherCan m f flusher_step.TakeDevice = m.device ≡ 0
FlusherCan m f flusher_step.GiveBroken = ⊥
FlusherCan m f flusher_step.GiveFailed = ⊥
FlusherCan m f flusher_step.Failed = ⊥
FlusherCan m f _ = Unit {0}

abbrev pub Can : SharedWords → Actor → Type 0
Can m (actor.User u) = UserCan m u u.step
Can m (actor.Writer s) = WriterCan m s s.step
Can m (actor.Flusher f) = FlusherCan m f f.step
Can m _ = ⊥

-- within so many turns of its own
abbrev pub advance_tries : AdvanceStep → ℕ
advance_tries advance_step.LoadTail = 6
advance_tries advance_step.TakeTail = 5
advance_tries advance_step.LoadLink = 4
advance_tries advance_step.ClearLink = 4
advance_tries advance_step.FreeTail = 3

abbrev pub user_tries : UserStep → ℕ
user_tries (user_step.AdvanceWritten v) = advance_tries v
user_tries _ = 1

abbrev pub writer_tries : WriterStep → ℕ
writer_tries (writer_step.Advance advance_step.LoadTail) = 1
writer_tries (writer_step.Advance v) = advance_tries v
writer_tries _ = 1

abbrev pub tries : Actor → ℕ
tries (actor.User u) = user_tries u.step + cond u.checks 1 0
tries (actor.Writer s) = writer_tries s.step + cond s.checks 1 0
tries (actor.Flusher f) = 1 + cond f.checks 1 0
tries _ = 1

-- the user hasn't ended; and within so many turns of its own, where nothing falls, it checks FAILED
abbrev pub IsOpenStep : UserStep → Type 0
IsOpenStep user_step.Done = ⊥
IsOpenStep user_step.Failed = ⊥
IsOpenStep _ = Unit {0}

abbrev pub IsOpen : Actor → Type 0
IsOpen (actor.User u) = IsOpenStep u.step
IsOpen _ = ⊥

abbrev pub user_leaves : UserStep → ℕ
user_leaves user_step.LoadWtail = 7
user_leaves (user_step.AdvanceWritten v) = advance_tries v
user_leaves user_step.ReloadWtail = 3
user_leaves _ = 2

abbrev pub leaves : Actor → ℕ
leaves (actor.User u) = cond u.checks 1 (user_leaves u.step)
leaves _ = 0

-- WTAIL is free, a link stands there, and the writer takes the tail within so many turns of its own
abbrev pub HasLinkFree : SharedWords → Type 0
HasLinkFree m = (m.wheld ≡ false) × Stands m m.wtail

abbrev pub WriterTakes : SharedWords → WriterState → WriterStep → Type 0
WriterTakes m s (writer_step.Advance advance_step.LoadTail) = HasLinkFree m
WriterTakes m s (writer_step.Advance advance_step.TakeTail) = HasLinkFree m × (s.advance.tail ≡ m.wtail)
WriterTakes m s _ = ⊥

abbrev pub Takes : SharedWords → Actor → Type 0
Takes m (actor.Writer s) = WriterTakes m s s.step
Takes m _ = ⊥

abbrev pub takes_tries : WriterStep → ℕ
takes_tries (writer_step.Advance advance_step.LoadTail) = 3
takes_tries _ = 1

abbrev pub takes_in : Actor → ℕ
takes_in (actor.Writer s) = takes_tries s.step + cond s.checks 1 0
takes_in _ = 0

-- the actor is about to free WTAIL
abbrev pub IsAtFree : Actor → Type 0
IsAtFree (actor.User u) = (u.step ≡ user_step.AdvanceWritten advance_step.FreeTail) × (u.checks ≡ false)
IsAtFree (actor.Writer s) = (s.step ≡ writer_step.Advance advance_step.FreeTail) × (s.checks ≡ false)
IsAtFree _ = ⊥

-- the words stay, but for whether WTAIL is held
abbrev pub SameButHeld : SharedWords → SharedWords → Type 0
SameButHeld m after = ◌≡◌ {A = SharedWords} after (record m { wheld = after.wheld })

-- who takes WTAIL, where a link stands there, has found it
abbrev pub TailTurn : SharedWords → SharedWords → Actor → Type 0
TailTurn m after b = (after.wheld ≡ m.wheld) ⊎ (((m.wheld ≡ false) × (Stands m m.wtail → Can after b)) ⊎ (after.wheld ≡ false))

module _ (last : ℕ) (m after : SharedWords) (a b : Actor) where
  -- Nothing falls, and the actor waits. Where what it waits for has come it is nearer to its try, and so is one that takes
  -- WTAIL, and one that will check FAILED.
  pub record Waits : Type 0 where
    pub same_cost : cost last b ≤ cost last a
    pub words : SameButHeld m after
    pub tail : TailTurn m after b
    pub nearer : Can m a → Can after b × (tries b < tries a)
    pub leaving : 0 < m.failed → IsOpen a → IsOpen b × (leaves b < leaves a)
    pub taking : Takes m a → Can after b ⊎ (Takes after b × (takes_in b < takes_in a))
    pub freeing : IsAtFree a → after.wheld ≡ false

  abbrev pub Falls : Type 0
  Falls = cost last b + words_cost last after < cost last a + words_cost last m

  -- the actor has stored a code in FAILED
  abbrev pub HasTold : Type 0
  HasTold = (0 < after.failed) × (words_cost last after ≤ words_cost last m) × (user_part b ≤ user_part a)

  -- of a user
  abbrev pub Settled : Type 0
  Settled = Falls ⊎ Waits

  -- of any actor
  abbrev pub Outcome : Type 0
  Outcome = Falls ⊎ (Waits ⊎ HasTold)
