-- What a wait leaves: the actor checks FAILED next, and then takes the same step again, or begins its round anew.
use Rattle.std.proofs.Common.{Bool, [], cond, eqb, false, length, refl, true, ℕ, ◌+◌, ◌-◌, ◌≡◌}
use Rattle.model_core.specs.ActorProgram.{opposite, has_taken, heard, old_of, on_take}
use Rattle.model_core.specs.States.{Actor, Advance, CheckpointerState, CleanerState, CloserState, FlusherState, UserState, WriterState, ReaderState}
use Rattle.model_core.specs.LogPrograms.{advance_took, frees, stays_put, closer_took, closer_waits, flusher_took, flusher_waits, finds_no_more, has_log_space, stands_outside, tail_after, writer_took, writer_waits}
use Rattle.model_core.specs.PagePrograms.{checkpointer_took, checkpointer_waits, is_above, cleaner_took, cleaner_waits, finds_none, next_in_round}
use Rattle.model_core.specs.ReaderProgram.{has_all, reader_took, reader_waits}
use Rattle.model_core.specs.Program.{is_checking, own_took, waits}
use Rattle.model_core.specs.Lanes.{tail_of}
use Rattle.model_core.specs.UserProgram.{can_close, can_link, has_passed, has_room, has_space, user_took, user_waits}
use Rattle.model_core.specs.declared.ops.Answer.{Answer}
use Rattle.model_core.specs.declared.steps.AdvanceStep.{AdvanceStep}
use Rattle.model_core.specs.declared.steps.CheckpointerStep.{CheckpointerStep}
use Rattle.model_core.specs.declared.steps.CleanerStep.{CleanerStep}
use Rattle.model_core.specs.declared.steps.CloserStep.{CloserStep}
use Rattle.model_core.specs.declared.steps.FlusherStep.{FlusherStep}
use Rattle.model_core.specs.declared.steps.ReaderStep.{ReaderStep}
use Rattle.model_core.specs.declared.steps.UserStep.{UserStep}
use Rattle.model_core.specs.declared.steps.WriterStep.{WriterStep}
use Rattle.model_core.specs.States as actor
use Rattle.model_core.specs.declared.ops.Answer.TheVariants as answer
use Rattle.model_core.specs.declared.steps.AdvanceStep.TheVariants as advance_step
use Rattle.model_core.specs.declared.steps.CheckpointerStep.TheVariants as checkpointer_step
use Rattle.model_core.specs.declared.steps.CleanerStep.TheVariants as cleaner_step
use Rattle.model_core.specs.declared.steps.CloserStep.TheVariants as closer_step
use Rattle.model_core.specs.declared.steps.FlusherStep.TheVariants as flusher_step
use Rattle.model_core.specs.declared.steps.ReaderStep.TheVariants as reader_step
use Rattle.model_core.specs.declared.steps.UserStep.TheVariants as user_step
use Rattle.model_core.specs.declared.steps.WriterStep.TheVariants as writer_step

-- Which rounds begin anew: after a wait a user checks the free space again from its first part, and loads a tail again from
-- the first; an advance begins anew; the cleaner goes round again, and the checkpointer seeks another candidate. Every other
-- wait repeats its step.
abbrev pub user_again : UserStep → UserStep
user_again user_step.LoadSn = user_step.LoadCheckpoint
user_again (user_step.AdvanceWritten s) = user_step.LoadWtail
user_again user_step.ReloadWtail = user_step.LoadWtail
user_again (user_step.AdvanceClosed s) = user_step.LoadCtail
user_again user_step.ReloadCtail = user_step.LoadCtail
user_again s = s

abbrev pub writer_again : WriterStep → WriterStep
writer_again (writer_step.Advance v) = writer_step.Advance advance_step.LoadTail
writer_again s = s

abbrev pub closer_again : CloserStep → CloserStep
closer_again (closer_step.Advance v) = closer_step.Advance advance_step.LoadTail
closer_again s = s

abbrev pub cleaner_again : CleanerStep → CleanerStep
cleaner_again cleaner_step.RemoveFromList = cleaner_step.RemoveFromList
cleaner_again s = cleaner_step.LoadFlushed

abbrev pub checkpointer_again : CheckpointerStep → CheckpointerStep
checkpointer_again checkpointer_step.LoadFlushed = checkpointer_step.LoadCtail
checkpointer_again s = s

-- a user that waits checks, at the step that it takes again
abbrev UserIs : UserState → UserStep → Type 0
UserIs u s = (u.checks ≡ true) × (u.step ≡ s)

user_else : (b : Bool) (x y : UserState) (s : UserStep) → opposite b ≡ true → UserIs y s → UserIs (cond b x y) s
user_else true x y s e h = absurd (cc)
user_else false x y s e h = h

-- an advance of a user that leaves the tail where it was
stayed : (u : UserState) (v : Advance) (on first : UserStep) (b : Bool) → b ≡ true → UserIs (record u { advance = v; checks = b; step = cond b first on }) first
stayed u v on first true e = (refl, refl)
stayed u v on first false e = absurd (cc)

pub user_wait : (u : UserState) (n : ℕ) (s : UserStep) → user_waits u n s ≡ true → UserIs (user_took u n s) (user_again s)
user_wait u n user_step.LoadSn e = user_else (has_space u n) _ _ user_step.LoadCheckpoint e (refl, refl)
user_wait u n user_step.TakeLatch e = user_else (eqb n 0) _ _ user_step.TakeLatch e (refl, refl)
user_wait u n user_step.LoadWrite e = user_else (has_room u n) _ _ user_step.LoadWrite e (refl, refl)
user_wait u n (user_step.AdvanceWritten s) e = stayed u (advance_took u.advance n s) _ user_step.LoadWtail (stays_put u.advance n s) e
user_wait u n user_step.ReloadWtail e = user_else (can_link u (tail_of n)) _ _ user_step.LoadWtail e (refl, refl)
user_wait u n (user_step.AdvanceClosed s) e = stayed u (advance_took u.advance n s) _ user_step.LoadCtail (stays_put u.advance n s) e
user_wait u n user_step.ReloadCtail e = user_else (can_close u (tail_of n)) _ _ user_step.LoadCtail e (refl, refl)
user_wait u n user_step.AddToList e = by (eqb n 0) e
  where
    by : (b : Bool) → opposite b ≡ true → UserIs (record u { checks = cond b false true; step = cond b user_step.StoreOldest user_step.AddToList }) user_step.AddToList
    by true e = absurd (cc)
    by false e = (refl, refl)
user_wait u n user_step.AwaitMark e = user_else (has_passed u n) _ _ user_step.AwaitMark e (refl, refl)
user_wait u n _ e = absurd (cc)

abbrev WriterIs : WriterState → WriterStep → Type 0
WriterIs s f = (s.checks ≡ true) × (s.step ≡ f)

pub writer_wait : (s : WriterState) (a : Answer) (f : WriterStep) → writer_waits s a f ≡ true → WriterIs (writer_took s a f) (writer_again f)
writer_wait s a (writer_step.Advance v) e = by (advance_took s.advance (old_of a) v) (tail_after s (old_of a) v) _ (finds_no_more s (old_of a) v) e
  where
    by : (w : Advance) (t : ℕ) (on : WriterStep) (b : Bool) → b ≡ true → WriterIs (record s { advance = w; tail = t; checks = b; step = cond b (writer_step.Advance advance_step.LoadTail) on }) (writer_step.Advance advance_step.LoadTail)
    by w t on true e = (refl, refl)
    by w t on false e = absurd (cc)
writer_wait s a writer_step.LoadCheckpoint e = by (has_log_space s (old_of a)) (stands_outside s) e
  where
    by : (b d : Bool) → opposite b ≡ true → WriterIs (cond b (record s { ckpt = old_of a; step = cond d writer_step.LoadFirst writer_step.LoadCell }) (record s { ckpt = old_of a; checks = true; step = writer_step.LoadCheckpoint })) writer_step.LoadCheckpoint
    by true d e = absurd (cc)
    by false d e = (refl, refl)
writer_wait s a writer_step.TakeDevice e = by a e
  where
    by : (r : Answer) → on_take r false false true ≡ true → WriterIs (record s { checks = on_take r false false true; step = on_take r writer_step.WriteTo writer_step.GiveBroken writer_step.TakeDevice }) writer_step.TakeDevice
    by (answer.Taken n) e = absurd (cc)
    by answer.Broken e = absurd (cc)
    by _ e = (refl, refl)
writer_wait s a _ e = absurd (cc)

abbrev FlusherIs : FlusherState → FlusherStep → Type 0
FlusherIs f s = (f.checks ≡ true) × (f.step ≡ s)

abbrev ReaderIs : ReaderState → ReaderStep → Type 0
ReaderIs f s = (f.checks ≡ true) × (f.step ≡ s)

pub flusher_wait : (f : FlusherState) (a : Answer) (s : FlusherStep) → flusher_waits f a s ≡ true → FlusherIs (flusher_took f a s) s
flusher_wait f a flusher_step.LoadWrite e = by (eqb (old_of a) f.last) e
  where
    by : (b : Bool) → b ≡ true → FlusherIs (cond b (record f { write = old_of a; checks = true; step = flusher_step.LoadWrite }) (record f { write = old_of a; step = flusher_step.TakeDevice })) flusher_step.LoadWrite
    by true e = (refl, refl)
    by false e = absurd (cc)
flusher_wait f a flusher_step.TakeDevice e = by a e
  where
    by : (r : Answer) → on_take r false false true ≡ true → FlusherIs (record f { checks = on_take r false false true; step = on_take r flusher_step.Sync flusher_step.GiveBroken flusher_step.TakeDevice }) flusher_step.TakeDevice
    by (answer.Taken n) e = absurd (cc)
    by answer.Broken e = absurd (cc)
    by _ e = (refl, refl)
flusher_wait f a _ e = absurd (cc)

pub reader_wait : (f : ReaderState) (a : Answer) (s : ReaderStep) → reader_waits f a s ≡ true → ReaderIs (reader_took f a s) s
reader_wait f a reader_step.LoadFlushed e = by (has_all f (old_of a)) e
  where
    by : (b : Bool) → b ≡ true → ReaderIs (cond b (record f { mark = old_of a; checks = true; step = reader_step.LoadFlushed }) (record f { mark = old_of a; step = reader_step.TakeDevice })) reader_step.LoadFlushed
    by true e = (refl, refl)
    by false e = absurd (cc)
reader_wait f a reader_step.TakeDevice e = by a e
  where
    by : (r : Answer) → on_take r false false true ≡ true → ReaderIs (record f { checks = on_take r false false true; step = on_take r reader_step.ReadBlock reader_step.GiveBroken reader_step.TakeDevice }) reader_step.TakeDevice
    by (answer.Taken n) e = absurd (cc)
    by answer.Broken e = absurd (cc)
    by _ e = (refl, refl)
reader_wait f a _ e = absurd (cc)

abbrev CloserIs : CloserState → CloserStep → Type 0
CloserIs t s = (t.checks ≡ true) × (t.step ≡ s)

pub closer_wait : (t : CloserState) (a : Answer) (s : CloserStep) → closer_waits t a s ≡ true → CloserIs (closer_took t a s) (closer_again s)
closer_wait t a (closer_step.Advance v) e = by (advance_took t.advance (old_of a) v) (frees v) _ (stays_put t.advance (old_of a) v) e
  where
    by : (w : Advance) (f : Bool) (on : AdvanceStep) (b : Bool) → b ≡ true → CloserIs (record t { advance = w; checks = b; step = closer_step.Advance (cond (cond f true b) advance_step.LoadTail on) }) (closer_step.Advance advance_step.LoadTail)
    by w true on true e = (refl, refl)
    by w false on true e = (refl, refl)
    by w f on false e = absurd (cc)
closer_wait t a _ e = absurd (cc)

abbrev CleanerIs : CleanerState → CleanerStep → Type 0
CleanerIs v s = (v.checks ≡ true) × (v.step ≡ s)

-- its round ends with no page to write, and begins anew
none_found : (v : CleanerState) → finds_none v ≡ true → CleanerIs (next_in_round v) cleaner_step.LoadFlushed
none_found v e = by (eqb v.left 1) (eqb (length v.batch) 0) (eqb (length v.batch) v.slots) e
  where
    next : CleanerState
    next = record v { page = cond (eqb (v.page + 1) v.pages) 0 (v.page + 1); left = v.left - 1; kept = [] }

    by : (b d f : Bool) → cond b d false ≡ true → CleanerIs (cond (cond b true f) (cond d (record next { checks = true; step = cleaner_step.LoadFlushed }) (record next { step = cleaner_step.WriteBatch })) (record next { step = cleaner_step.LoadOldest })) cleaner_step.LoadFlushed
    by true true f e = (refl, refl)
    by true false f e = absurd (cc)
    by false d f e = absurd (cc)

pub cleaner_wait : (v : CleanerState) (a : Answer) (s : CleanerStep) → cleaner_waits v a s ≡ true → CleanerIs (cleaner_took v a s) (cleaner_again s)
cleaner_wait v a cleaner_step.LoadOldest e = by (eqb (old_of a) 0) e
  where
    by : (b : Bool) → cond b (finds_none v) false ≡ true → CleanerIs (cond b (next_in_round v) (record v { step = cleaner_step.TakeLatch })) cleaner_step.LoadFlushed
    by true e = none_found v e
    by false e = absurd (cc)
cleaner_wait v a cleaner_step.TakeLatch e = by (eqb (old_of a) 0) e
  where
    by : (b : Bool) → cond b false (finds_none v) ≡ true → CleanerIs (cond b (record v { step = cleaner_step.LoadNewest }) (next_in_round v)) cleaner_step.LoadFlushed
    by true e = absurd (cc)
    by false e = none_found v e
cleaner_wait v a cleaner_step.ReleaseSkipped e = none_found v e
cleaner_wait v a cleaner_step.RemoveFromList e = by (has_taken a) e
  where
    by : (b : Bool) → opposite b ≡ true → CleanerIs (cond b (record v { step = cleaner_step.ClearOldest }) (record v { checks = true; step = cleaner_step.RemoveFromList })) cleaner_step.RemoveFromList
    by true e = absurd (cc)
    by false e = (refl, refl)
cleaner_wait v a _ e = absurd (cc)

abbrev CheckpointerIs : CheckpointerState → CheckpointerStep → Type 0
CheckpointerIs t s = (t.checks ≡ true) × (t.step ≡ s)

checkpointer_else : (b : Bool) (x y : CheckpointerState) (s : CheckpointerStep) → opposite b ≡ true → CheckpointerIs y s → CheckpointerIs (cond b x y) s
checkpointer_else true x y s e h = absurd (cc)
checkpointer_else false x y s e h = h

pub checkpointer_wait : (t : CheckpointerState) (a : Answer) (s : CheckpointerStep) → checkpointer_waits t a s ≡ true → CheckpointerIs (checkpointer_took t a s) (checkpointer_again s)
checkpointer_wait t a checkpointer_step.ReadList e = checkpointer_else (has_taken a) _ _ checkpointer_step.ReadList e (refl, refl)
checkpointer_wait t a checkpointer_step.LoadFlushed e = checkpointer_else (is_above t (old_of a)) _ _ checkpointer_step.LoadCtail e (refl, refl)
checkpointer_wait t a checkpointer_step.TakeDevice e = by a e
  where
    by : (r : Answer) → on_take r false false true ≡ true → CheckpointerIs (record t { checks = on_take r false false true; step = on_take r checkpointer_step.Checkpoint checkpointer_step.GiveBroken checkpointer_step.TakeDevice }) checkpointer_step.TakeDevice
    by (answer.Taken n) e = absurd (cc)
    by answer.Broken e = absurd (cc)
    by _ e = (refl, refl)
checkpointer_wait t a _ e = absurd (cc)

-- an actor that waits checks FAILED next
pub wait_checks : (a : Actor) (r : Answer) → waits a r ≡ true → is_checking (own_took a r) ≡ true
wait_checks (actor.User u) r e = (user_wait u (heard r) u.step e).0
wait_checks (actor.Writer s) r e = (writer_wait s r s.step e).0
wait_checks (actor.Flusher f) r e = (flusher_wait f r f.step e).0
wait_checks (actor.Reader f) r e = (reader_wait f r f.step e).0
wait_checks (actor.Closer t) r e = (closer_wait t r t.step e).0
wait_checks (actor.Cleaner v) r e = (cleaner_wait v r v.step e).0
wait_checks (actor.Checkpointer t) r e = (checkpointer_wait t r t.step e).0
