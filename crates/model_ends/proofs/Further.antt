-- What holds of a run with the log alone beside its invariant, of each actor and of the whole; and an actor's own part after
-- its turn.
use Rattle.std.proofs.Common.{Bool, List, arith, cond, eqb, false, length, refl, true, ℕ, ◌*◌, ◌+◌, ◌++◌, ◌-◌, ◌/◌, ◌<◌, ◌==◌, ◌≡◌, ◌≤◌, ◌⊎◌}
use Rattle.std.proofs.lemmas.Bool.{eqb-false}
use Rattle.std.specs.Prelude.{nat_le, nat_lt}
use lib.ListN.{get_elem?}
use mathlib.Core.Option.{some}
unfoldable use Rattle.model_core.specs.{lanes}
use Rattle.model_core.specs.{Actor, advance_next, answered, can_link, changes, flusher_took, FlusherState, frees, group_bytes, group_end, has_log_space, has_passed, has_room, has_space, has_whole_word, heard, is_held, lane_of, left_in_word, lsn, mode, next_count, old_of, read_place, SharedWords, stands_outside, stays_put, tail_of, took, user_took, UserState, with_link_room, with_mark, without_link_room, word_end, writer_took, WriterState, LogSide, Setup, start_checkpoint}
use Rattle.model_core.specs.declared.ops.Answer.{Answer}
use Rattle.model_core.specs.declared.steps.AdvanceStep.{AdvanceStep}
use Rattle.model_core.specs.declared.steps.FlusherStep.{FlusherStep}
use Rattle.model_core.specs.declared.steps.UserStep.{UserStep}
use Rattle.model_core.specs.declared.steps.WriterStep.{WriterStep}
use Rattle.model_core.specs.declared.limits.TheConstants.{ADVANCE_PLACES}
use Rattle.model_log.specs.declared.layout.TheConstants.{BLOCK_DATA}
use Rattle.model_ends.proofs.UserTurns.{IsLogStep}
use Rattle.model_core.specs.States as actor
use Rattle.model_core.specs.declared.ops.Answer.TheVariants as answer
use Rattle.model_core.specs.declared.steps.AdvanceStep.TheVariants as advance_step
use Rattle.model_core.specs.declared.steps.CheckpointerStep.TheVariants as checkpointer_step
use Rattle.model_core.specs.declared.steps.FlusherStep.TheVariants as flusher_step
use Rattle.model_core.specs.declared.steps.UserStep.TheVariants as user_step
use Rattle.model_core.specs.declared.steps.WriterStep.TheVariants as writer_step

-- a user takes no page, and has loaded the one checkpoint that there is
abbrev pub UserTold : Setup → UserState → UserStep → Type 0
UserTold c u user_step.LoadSn = u.loaded.ckpt ≡ start_checkpoint c
UserTold c u f = IsLogStep f

-- the writer goes on with the tail that it has loaded; it finds a broken log part only where FAILED has a code
abbrev pub WriterTold : ℕ → WriterState → WriterStep → Type 0
WriterTold failed s (writer_step.Advance advance_step.TakeTail) = s.advance.tail ≡ s.tail
WriterTold failed s writer_step.GiveBroken = 0 < failed
WriterTold failed s _ = Unit {0}

-- the flusher goes on with a mark above its last one
abbrev pub FlusherTold : ℕ → FlusherState → FlusherStep → Type 0
FlusherTold failed t flusher_step.TakeDevice = failed ≡ 0 → t.last < t.write
FlusherTold failed t flusher_step.Sync = failed ≡ 0 → t.last < t.write
FlusherTold failed t flusher_step.StoreFlushed = failed ≡ 0 → t.last < t.mark
FlusherTold failed t flusher_step.GiveBroken = 0 < failed
FlusherTold failed t _ = Unit {0}

abbrev pub Told : Setup → ℕ → Actor → Type 0
Told c failed (actor.User u) = UserTold c u u.step
Told c failed (actor.Writer s) = WriterTold failed s s.step
Told c failed (actor.Flusher t) = FlusherTold failed t t.step
Told c failed _ = ⊥

-- an actor is about to store the code of its call that failed
abbrev pub StoresCode : Actor → Type 0
StoresCode (actor.Writer s) = s.step ≡ writer_step.StoreFailed
StoresCode (actor.Flusher t) = t.step ≡ flusher_step.StoreFailed
StoresCode (actor.Checkpointer t) = t.step ≡ checkpointer_step.StoreFailed
StoresCode _ = ⊥

abbrev pub HasStorer : List Actor → Type 0
HasStorer actors = (seat : ℕ) × (a : Actor) × (get_elem? actors seat ≡ some a) × StoresCode a

abbrev pub HasWriter : List Actor → Type 0
HasWriter actors = (seat : ℕ) × (s : WriterState) × (get_elem? actors seat ≡ some (actor.Writer s))

abbrev pub HasFlusher : List Actor → Type 0
HasFlusher actors = (seat : ℕ) × (t : FlusherState) × (get_elem? actors seat ≡ some (actor.Flusher t))

-- While FAILED is 0, no more is stable than WRITE says, and the log part has failed only where that is about to be told.
pub record Further (D : LogSide) (c : Setup) (m : SharedWords) (p : D.Part) (actors : List Actor) : Type 0 where
  pub each : (seat : ℕ) (a : Actor) → get_elem? actors seat ≡ some a → Told c m.failed a
  pub writer : HasWriter actors
  pub flusher : HasFlusher actors
  pub stable : m.failed ≡ 0 → D.stable p ≤ m.write
  pub parts : m.failed ≡ 0 → (D.failed p ≡ false) ⊎ HasStorer actors

-- AN ACTOR'S OWN PART AFTER ITS TURN
pub is_log : (c : Setup) (u : UserState) (f : UserStep) → UserTold c u f → IsLogStep f
is_log c u user_step.LoadSn told = tt
is_log c u (user_step.AdvanceWritten advance_step.LoadTail) told = told
is_log c u _ told = told

module _ (c : Setup) (u : UserState) (no_page : eqb (length (changes u)) 0 ≡ true) where
  abbrev own : UserStep → UserState
  own f = record u { checks = false; step = f }

  abbrev Kept : UserState → Type 0
  Kept w = UserTold c w w.step

  answered_told : (v : UserState) → UserTold c (answered v) (answered v).step
  answered_told v = by (v.k + 1 == length v.lines)
    where
      by : (b : Bool) → UserTold c (answered v) (cond b user_step.Done user_step.LoadCheckpoint)
      by true = tt
      by false = tt

  user_by : (b : Bool) (x y : UserState) → Kept x → Kept y → Kept (cond b x y)
  user_by true x y h k = h
  user_by false x y h k = k

  user_own : (f : UserStep) (n : ℕ) → UserTold c (own f) f → (f ≡ user_step.LoadCheckpoint → n ≡ start_checkpoint c) → Kept (user_took (own f) n f)
  user_own user_step.LoadCheckpoint n told loads = loads refl
  user_own user_step.LoadSn n told loads = by (has_space (own user_step.LoadSn) n) (eqb (length (changes u)) 0) no_page
    where
      by : (b d : Bool) → d ≡ true → Kept (cond b (record (own user_step.LoadSn) { page = 0; cell = 0; step = cond d user_step.Reserve user_step.TakeLatch }) (record (own user_step.LoadSn) { checks = true; step = user_step.LoadCheckpoint }))
      by true true e = tt
      by true false e = absurd (cc)
      by false d e = tt
  user_own user_step.Reserve n told loads = tt
  user_own user_step.LoadWrite n told loads = user_by (has_room (own user_step.LoadWrite) n) (record (own user_step.LoadWrite) { loaded = record u.loaded { write = n }; step = user_step.AddCell }) (record (own user_step.LoadWrite) { loaded = record u.loaded { write = n }; checks = true; step = user_step.LoadWrite }) tt tt
  user_own user_step.AddCell n told loads = by (u.copied + next_count u == length (group_bytes u)) (nat_lt (u.start / BLOCK_DATA) (group_end u / BLOCK_DATA))
    where
      by : (b d : Bool) → UserTold c (record (own user_step.AddCell) { copied = u.copied + next_count u; step = cond b (cond d user_step.StoreFirst user_step.LoadWtail) user_step.AddCell }) (cond b (cond d user_step.StoreFirst user_step.LoadWtail) user_step.AddCell)
      by true true = tt
      by true false = tt
      by false d = tt
  user_own user_step.StoreFirst n told loads = tt
  user_own user_step.LoadWtail n told loads = user_by (can_link (own user_step.LoadWtail) (tail_of n)) (with_link_room (own user_step.LoadWtail) n) (without_link_room (own user_step.LoadWtail) n false (user_step.AdvanceWritten advance_step.LoadTail)) tt tt
  user_own (user_step.AdvanceWritten v) n told loads = by (stays_put u.advance n v) (frees v) (advance_next u.advance n v)
    where
      by : (b d : Bool) (r : AdvanceStep) → UserTold c (user_took (own (user_step.AdvanceWritten v)) n (user_step.AdvanceWritten v)) (cond b user_step.LoadWtail (cond d user_step.ReloadWtail (user_step.AdvanceWritten r)))
      by true d r = tt
      by false true r = tt
      by false false r = tt
  user_own user_step.ReloadWtail n told loads = user_by (can_link (own user_step.ReloadWtail) (tail_of n)) (with_link_room (own user_step.ReloadWtail) n) (without_link_room (own user_step.ReloadWtail) n true user_step.LoadWtail) tt tt
  user_own user_step.StoreLink n told loads = by (eqb (length (changes u)) 0) no_page (mode u == 0)
    where
      by : (b : Bool) → b ≡ true → (d : Bool) → Kept (cond b (cond d (answered (own user_step.StoreLink)) (record (own user_step.StoreLink) { step = user_step.AwaitMark })) (record (own user_step.StoreLink) { step = user_step.LoadCtail }))
      by true e true = answered_told (own user_step.StoreLink)
      by true e false = tt
      by false e d = absurd (cc)
  user_own user_step.AwaitMark n told loads = user_by (has_passed (own user_step.AwaitMark) n) (answered (record (own user_step.AwaitMark) { loaded = with_mark (own user_step.AwaitMark) n })) (record (own user_step.AwaitMark) { loaded = with_mark (own user_step.AwaitMark) n; checks = true; step = user_step.AwaitMark }) (answered_told (record (own user_step.AwaitMark) { loaded = with_mark (own user_step.AwaitMark) n })) tt
  user_own user_step.Done n told loads = tt
  user_own user_step.Failed n told loads = tt
  user_own _ n told loads = absurd told

  same_told : (b : Bool) (f : UserStep) → UserTold c (record u { checks = b; step = f }) f → UserTold c (own f) f
  same_told b (user_step.AdvanceWritten advance_step.LoadTail) told = told
  same_told b _ told = told

  user_took_by : (b : Bool) (f : UserStep) (failed : ℕ) (r : Answer) → UserTold c (record u { checks = b; step = f }) f → (b ≡ false → f ≡ user_step.LoadCheckpoint → heard r ≡ start_checkpoint c) → Told c failed (took (actor.User (record u { checks = b; step = f })) r)
  user_took_by true f failed r told loads = user_by (old_of r == 0) (own f) (record u { checks = false; code = old_of r; step = user_step.Failed }) (same_told true f told) tt
  user_took_by false f failed r told loads = user_own f (heard r) told (loads refl)

  pub user_tells : (failed : ℕ) (r : Answer) → UserTold c u u.step → (u.checks ≡ false → u.step ≡ user_step.LoadCheckpoint → heard r ≡ start_checkpoint c) → Told c failed (took (actor.User u) r)
  user_tells = user_took_by u.checks u.step

module _ (failed : ℕ) (s : WriterState) where
  abbrev now : WriterStep → WriterState
  now f = record s { checks = false; step = f }

  abbrev Says : WriterState → Type 0
  Says w = WriterTold failed w w.step

  writer_own : (f : WriterStep) (r : Answer) → (f ≡ writer_step.TakeDevice → r ≡ answer.Broken → 0 < failed) → Says (writer_took (now f) r f)
  writer_own (writer_step.Advance advance_step.LoadTail) r broken = by (is_held (old_of r)) (nat_le (tail_of (old_of r)) s.write)
    where
      by : (held low : Bool) → WriterTold failed (writer_took (now (writer_step.Advance advance_step.LoadTail)) r (writer_step.Advance advance_step.LoadTail)) (cond (cond held low false) (writer_step.Advance advance_step.LoadTail) (cond held writer_step.LoadCheckpoint (writer_step.Advance advance_step.TakeTail)))
      by true true = tt
      by true false = tt
      by false low = refl
  writer_own (writer_step.Advance advance_step.TakeTail) r broken = by (stays_put s.advance (old_of r) advance_step.TakeTail) (nat_le s.tail s.write)
    where
      by : (held low : Bool) → WriterTold failed (writer_took (now (writer_step.Advance advance_step.TakeTail)) r (writer_step.Advance advance_step.TakeTail)) (cond (cond held low false) (writer_step.Advance advance_step.LoadTail) (cond held writer_step.LoadCheckpoint (writer_step.Advance advance_step.LoadLink)))
      by true true = tt
      by true false = tt
      by false low = tt
  writer_own (writer_step.Advance advance_step.LoadLink) r broken = by (old_of r == 0)
    where
      by : (b : Bool) → WriterTold failed (writer_took (now (writer_step.Advance advance_step.LoadLink)) r (writer_step.Advance advance_step.LoadLink)) (writer_step.Advance (cond b advance_step.FreeTail advance_step.ClearLink))
      by true = tt
      by false = tt
  writer_own (writer_step.Advance advance_step.ClearLink) r broken = by (nat_lt (s.advance.place + s.advance.link) (s.advance.tail + ADVANCE_PLACES))
    where
      by : (b : Bool) → WriterTold failed (writer_took (now (writer_step.Advance advance_step.ClearLink)) r (writer_step.Advance advance_step.ClearLink)) (writer_step.Advance (cond b advance_step.LoadLink advance_step.FreeTail))
      by true = tt
      by false = tt
  writer_own (writer_step.Advance advance_step.FreeTail) r broken = by (nat_le s.advance.place s.write)
    where
      by : (b : Bool) → WriterTold failed (writer_took (now (writer_step.Advance advance_step.FreeTail)) r (writer_step.Advance advance_step.FreeTail)) (cond b (writer_step.Advance advance_step.LoadTail) writer_step.LoadCheckpoint)
      by true = tt
      by false = tt
  writer_own writer_step.LoadCheckpoint r broken = by (has_log_space s (old_of r)) (stands_outside s)
    where
      by : (b d : Bool) → Says (cond b (record (now writer_step.LoadCheckpoint) { ckpt = old_of r; step = cond d writer_step.LoadFirst writer_step.LoadCell }) (record (now writer_step.LoadCheckpoint) { ckpt = old_of r; checks = true; step = writer_step.LoadCheckpoint }))
      by true true = tt
      by true false = tt
      by false d = tt
  writer_own writer_step.LoadFirst r broken = tt
  writer_own writer_step.ClearFirst r broken = tt
  writer_own writer_step.LoadCell r broken = by (has_whole_word s)
    where
      by : (b : Bool) → Says (cond b (record (now writer_step.LoadCell) { word = old_of r; step = writer_step.ClearCell }) (record (now writer_step.LoadCell) { kept = s.kept ++ lanes (lane_of (read_place s)) (s.tail - lsn (read_place s)) (old_of r); step = writer_step.TakeDevice }))
      by true = tt
      by false = tt
  writer_own writer_step.ClearCell r broken = by (eqb (lsn (word_end s)) s.tail) (eqb (length s.kept + left_in_word (read_place s)) (BLOCK_DATA * length s.firsts))
    where
      by : (b d : Bool) → WriterTold failed (writer_took (now writer_step.ClearCell) r writer_step.ClearCell) (cond b writer_step.TakeDevice (cond d writer_step.LoadFirst writer_step.LoadCell))
      by true d = tt
      by false true = tt
      by false false = tt
  writer_own writer_step.TakeDevice (answer.Taken n) broken = tt
  writer_own writer_step.TakeDevice answer.Broken broken = broken refl refl
  writer_own writer_step.TakeDevice _ broken = tt
  writer_own writer_step.GiveBroken r broken = tt
  writer_own writer_step.WriteTo (answer.Failed n) broken = tt
  writer_own writer_step.WriteTo _ broken = tt
  writer_own writer_step.StoreWrite r broken = tt
  writer_own writer_step.GiveDevice r broken = tt
  writer_own writer_step.StoreFailed r broken = tt
  writer_own writer_step.GiveFailed r broken = tt
  writer_own writer_step.Failed r broken = tt

  writer_same : (b : Bool) (f : WriterStep) → WriterTold failed (record s { checks = b; step = f }) f → WriterTold failed (now f) f
  writer_same b (writer_step.Advance advance_step.TakeTail) told = told
  writer_same b _ told = told

  writer_took_by : (c : Setup) (b : Bool) (f : WriterStep) (r : Answer) → WriterTold failed (record s { checks = b; step = f }) f → (b ≡ false → f ≡ writer_step.TakeDevice → r ≡ answer.Broken → 0 < failed) → Told c failed (took (actor.Writer (record s { checks = b; step = f })) r)
  writer_took_by c true f r told broken = by (old_of r == 0)
    where
      by : (b : Bool) → Told c failed (actor.Writer (cond b (now f) (record s { checks = false; code = old_of r; step = writer_step.Failed })))
      by true = writer_same true f told
      by false = tt
  writer_took_by c false f r told broken = writer_own f r (broken refl)

  pub writer_tells : (c : Setup) (r : Answer) → WriterTold failed s s.step → (s.checks ≡ false → s.step ≡ writer_step.TakeDevice → r ≡ answer.Broken → 0 < failed) → Told c failed (took (actor.Writer s) r)
  writer_tells c = writer_took_by c s.checks s.step

-- a call that hasn't failed
abbrev pub IsGood : Answer → Type 0
IsGood (answer.Failed n) = ⊥
IsGood _ = Unit {0}

module _ (failed : ℕ) (t : FlusherState) where
  abbrev flusher_now : FlusherStep → FlusherState
  flusher_now f = record t { checks = false; step = f }

  abbrev FlusherSays : FlusherState → Type 0
  FlusherSays w = FlusherTold failed w w.step

  flusher_own : (f : FlusherStep) (r : Answer) → FlusherTold failed (flusher_now f) f → (f ≡ flusher_step.LoadWrite → failed ≡ 0 → t.last ≤ old_of r) → (f ≡ flusher_step.TakeDevice → r ≡ answer.Broken → 0 < failed) → (f ≡ flusher_step.Sync → IsGood r → failed ≡ 0 → t.last < old_of r)
      → FlusherSays (flusher_took (flusher_now f) r f)
  flusher_own flusher_step.LoadWrite r told up broken synced = by (old_of r == t.last) refl
    where
      by : (b : Bool) → (old_of r == t.last) ≡ b → FlusherSays (cond b (record (flusher_now flusher_step.LoadWrite) { write = old_of r; checks = true; step = flusher_step.LoadWrite }) (record (flusher_now flusher_step.LoadWrite) { write = old_of r; step = flusher_step.TakeDevice }))
      by true e = tt
      by false e = λ sound. (let ne = eqb-false (old_of r) t.last e in let le = up refl sound in omega arith)
  flusher_own flusher_step.TakeDevice answer.Broken told up broken synced = broken refl refl
  flusher_own flusher_step.TakeDevice _ told up broken synced = told
  flusher_own flusher_step.GiveBroken r told up broken synced = λ sound. absurd (omega arith)
  flusher_own flusher_step.Sync (answer.Failed n) told up broken synced = tt
  flusher_own flusher_step.Sync _ told up broken synced = synced refl tt
  flusher_own flusher_step.StoreFlushed r told up broken synced = tt
  flusher_own flusher_step.GiveDevice r told up broken synced = tt
  flusher_own flusher_step.StoreFailed r told up broken synced = tt
  flusher_own flusher_step.GiveFailed r told up broken synced = tt
  flusher_own flusher_step.Failed r told up broken synced = tt

  flusher_same : (b : Bool) (f : FlusherStep) → FlusherTold failed (record t { checks = b; step = f }) f → FlusherTold failed (flusher_now f) f
  flusher_same b _ told = told

  flusher_took_by : (c : Setup) (b : Bool) (f : FlusherStep) (r : Answer) → FlusherTold failed (record t { checks = b; step = f }) f → (f ≡ flusher_step.LoadWrite → b ≡ false → failed ≡ 0 → t.last ≤ old_of r) → (f ≡ flusher_step.TakeDevice → b ≡ false → r ≡ answer.Broken → 0 < failed) → (f ≡ flusher_step.Sync → b ≡ false → IsGood r → failed ≡ 0 → t.last < old_of r)
      → Told c failed (took (actor.Flusher (record t { checks = b; step = f })) r)
  flusher_took_by c true f r told up broken synced = by (old_of r == 0)
    where
      by : (b : Bool) → Told c failed (actor.Flusher (cond b (flusher_now f) (record t { checks = false; code = old_of r; step = flusher_step.Failed })))
      by true = flusher_same true f told
      by false = tt
  flusher_took_by c false f r told up broken synced = flusher_own f r (flusher_same false f told) (λ e. up e refl) (λ e. broken e refl) (λ e. synced e refl)

  pub flusher_tells : (c : Setup) (r : Answer) → FlusherTold failed t t.step → (t.step ≡ flusher_step.LoadWrite → t.checks ≡ false → failed ≡ 0 → t.last ≤ old_of r) → (t.step ≡ flusher_step.TakeDevice → t.checks ≡ false → r ≡ answer.Broken → 0 < failed) → (t.step ≡ flusher_step.Sync → t.checks ≡ false → IsGood r → failed ≡ 0 → t.last < old_of r)
      → Told c failed (took (actor.Flusher t) r)
  flusher_tells c = flusher_took_by c t.checks t.step
