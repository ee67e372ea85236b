-- An actor that checks for a failure holds no tail, and one that has ended holds none.
use Rattle.std.proofs.Common.{Bool, cond, eqb, false, length, nat_lt, refl, true, ℕ, ◌+◌, ◌/◌, ◌≡◌}
use Rattle.model_core.specs.States.{Actor, Advance, CloserState, UserState, WriterState}
use Rattle.model_core.specs.ActorProgram.{ActorProgram, checked_of, heard, old_of, on_call, on_take}
use Rattle.model_core.specs.LogPrograms.{advance_took, frees, stays_put, flusher_program, closer_ending, closer_program, closer_took, finds_no_more, has_log_space, has_whole_word, stands_outside, tail_after, writer_ending, writer_program, writer_took}
use Rattle.model_core.specs.Hands.{advance_holds, ChecksWithoutTail, closer_holds_tail, holds_tail, user_holds_tail, writer_holds_tail, HasStopped}
use Rattle.model_core.specs.PagePrograms.{checkpointer_program, cleaner_program}
use Rattle.model_core.specs.ReaderProgram.{reader_program}
use Rattle.model_core.specs.Program.{checked, is_checking, own_took, took}
use Rattle.model_core.specs.Lanes.{tail_of}
use Rattle.model_core.specs.UserProgram.{answered, can_close, can_link, cells_of, change_at, changes, frame_count, group_bytes, group_end, has_passed, has_room, has_space, is_whole, mode, next_count, to_next_page, user_ending, user_program, user_took, with_mark, word_step}
use Rattle.model_core.specs.declared.ops.Answer.{Answer}
use Rattle.model_core.specs.declared.steps.AdvanceStep.{AdvanceStep}
use Rattle.model_core.specs.declared.steps.CloserStep.{CloserStep}
use Rattle.model_core.specs.declared.steps.UserStep.{UserStep}
use Rattle.model_core.specs.declared.steps.WriterStep.{WriterStep}
use Rattle.model_core.specs.declared.words.LinkBuffer.{LinkBuffer}
use Rattle.model_core.specs.States as actor
use Rattle.model_core.specs.declared.ops.Answer.TheVariants as answer
use Rattle.model_core.specs.declared.ops.Step.TheVariants as step
use Rattle.model_core.specs.declared.steps.AdvanceStep.TheVariants as advance_step
use Rattle.model_core.specs.declared.steps.CloserStep.TheVariants as closer_step
use Rattle.model_core.specs.declared.steps.UserStep.TheVariants as user_step
use Rattle.model_core.specs.declared.steps.WriterStep.TheVariants as writer_step
use Rattle.model_core.specs.declared.words.LinkBuffer.TheVariants as link_buffer
use Rattle.model_log.specs.declared.layout.TheConstants.{BLOCK_DATA}

-- A USER at a step holds a tail of either buffer
abbrev user_holds_one : UserStep → Bool
user_holds_one (user_step.AdvanceWritten s) = advance_holds s
user_holds_one (user_step.AdvanceClosed s) = advance_holds s
user_holds_one _ = false

user_holds_none : (b : LinkBuffer) (s : UserStep) → user_holds_one s ≡ false → user_holds_tail b s ≡ false
user_holds_none link_buffer.Written (user_step.AdvanceWritten s) e = e
user_holds_none link_buffer.Closed (user_step.AdvanceClosed s) e = e
user_holds_none link_buffer.Written _ e = refl
user_holds_none link_buffer.Closed _ e = refl

abbrev UserFree : UserState → Type 0
UserFree u = u.checks ≡ true → user_holds_one u.step ≡ false

either_state : (b : Bool) (x y : UserState) → UserFree x → UserFree y → UserFree (cond b x y)
either_state true x y p q = p
either_state false x y p q = q

either_step : (b : Bool) (x y : UserStep) → user_holds_one x ≡ false → user_holds_one y ≡ false → user_holds_one (cond b x y) ≡ false
either_step true x y p q = p
either_step false x y p q = q

answered_free : (u : UserState) → UserFree (answered u)
answered_free u e = either_step (eqb (u.k + 1) (length u.lines)) user_step.Done user_step.LoadCheckpoint refl refl

word_free : (u : UserState) (page cell : ℕ) → user_holds_one (word_step (change_at (changes u) page).cells cell) ≡ false
word_free u page cell = either_step (is_whole (change_at (changes u) page).cells cell) user_step.StoreFrame user_step.LoadFrame refl refl

next_page_free : (u : UserState) → UserFree (to_next_page u)
next_page_free u e = either_step (eqb (u.page + 1) (length (changes u))) _ _ refl
    (either_step (eqb 0 (length (change_at (changes u) (u.page + 1)).cells)) _ _ refl (word_free u (u.page + 1) 0))

-- an advance that stays put checks, and then begins with the first load
advanced_free : (u : UserState) (v : Advance) (on first : UserStep) (b : Bool) → user_holds_one first ≡ false → UserFree (record u { advance = v; checks = b; step = cond b first on })
advanced_free u v on first true free e = free
advanced_free u v on first false free e = absurd (cc)

user_free : (u : UserState) (n : ℕ) (s : UserStep) → u.checks ≡ false → UserFree (user_took u n s)
user_free u n user_step.LoadCheckpoint own = λ e. refl
user_free u n user_step.LoadSn own = either_state (has_space u n) _ _ (λ e. either_step (eqb (length (changes u)) 0) user_step.Reserve user_step.TakeLatch refl refl) (λ e. refl)
user_free u n user_step.TakeLatch own = either_state (eqb n 0) _ _ (λ e. either_step (eqb (u.page + 1) (length (changes u))) user_step.Reserve user_step.TakeLatch refl refl) (λ e. refl)
user_free u n user_step.Reserve own = λ e. refl
user_free u n user_step.LoadWrite own = either_state (has_room u n) _ _ (λ e. refl) (λ e. refl)
user_free u n user_step.AddCell own = λ e. either_step (eqb (u.copied + next_count u) (length (group_bytes u))) _ _
    (either_step (nat_lt (u.start / BLOCK_DATA) (group_end u / BLOCK_DATA)) user_step.StoreFirst user_step.LoadWtail refl refl) refl
user_free u n user_step.StoreFirst own = λ e. refl
user_free u n user_step.LoadWtail own = either_state (can_link u (tail_of n)) _ _ (λ e. refl) (λ e. refl)
user_free u n (user_step.AdvanceWritten s) own = advanced_free u (advance_took u.advance n s) _ user_step.LoadWtail (stays_put u.advance n s) refl
user_free u n user_step.ReloadWtail own = either_state (can_link u (tail_of n)) _ _ (λ e. refl) (λ e. refl)
user_free u n user_step.StoreLink own = either_state (eqb (length (changes u)) 0) _ _ (either_state (eqb (mode u) 0) _ _ (answered_free u) (λ e. refl)) (λ e. refl)
user_free u n user_step.LoadCtail own = either_state (can_close u (tail_of n)) _ _ (λ e. either_step (eqb u.cell (length (cells_of u))) _ _ refl (word_free u u.page u.cell)) (λ e. refl)
user_free u n (user_step.AdvanceClosed s) own = advanced_free u (advance_took u.advance n s) _ user_step.LoadCtail (stays_put u.advance n s) refl
user_free u n user_step.ReloadCtail own = either_state (can_close u (tail_of n)) _ _ (λ e. either_step (eqb u.cell (length (cells_of u))) _ _ refl (word_free u u.page u.cell)) (λ e. refl)
user_free u n user_step.LoadFrame own = λ e. refl
user_free u n user_step.StoreFrame own = λ e. either_step (eqb (u.cell + frame_count u) (length (cells_of u))) _ _ refl (word_free u u.page (u.cell + frame_count u))
user_free u n user_step.StoreNewest own = λ e. refl
user_free u n user_step.LoadOldest own = either_state (eqb n 0) _ _ (λ e. refl) (next_page_free u)
user_free u n user_step.AddToList own = λ e. either_step (eqb n 0) user_step.StoreOldest user_step.AddToList refl refl
user_free u n user_step.StoreOldest own = λ e. refl
user_free u n user_step.GiveList own = next_page_free u
user_free u n user_step.StoreClosedLink own = λ e. refl
user_free u n user_step.ReleaseLatch own = either_state (eqb (u.page + 1) (length (changes u))) _ _ (either_state (eqb (mode u) 0) _ _ (answered_free u) (λ e. refl)) (λ e. refl)
user_free u n user_step.AwaitMark own = either_state (has_passed u n) _ _ (answered_free (record u { loaded = with_mark u n })) (λ e. refl)
user_free u n user_step.Done own = λ e. absurd (cc)
user_free u n user_step.Failed own = λ e. absurd (cc)

-- THE WRITER
abbrev writer_holds_one : WriterStep → Bool
writer_holds_one (writer_step.Advance v) = advance_holds v
writer_holds_one _ = false

writer_holds_none : (b : LinkBuffer) (f : WriterStep) → writer_holds_one f ≡ false → writer_holds_tail b f ≡ false
writer_holds_none link_buffer.Written (writer_step.Advance v) e = e
writer_holds_none link_buffer.Written _ e = refl
writer_holds_none link_buffer.Closed _ e = refl

abbrev WriterFree : WriterState → Type 0
WriterFree s = s.checks ≡ true → writer_holds_one s.step ≡ false

either_writer : (b : Bool) (x y : WriterState) → WriterFree x → WriterFree y → WriterFree (cond b x y)
either_writer true x y p q = p
either_writer false x y p q = q

either_write : (b : Bool) (x y : WriterStep) → writer_holds_one x ≡ false → writer_holds_one y ≡ false → writer_holds_one (cond b x y) ≡ false
either_write true x y p q = p
either_write false x y p q = q

on_take_free : (a : Answer) (x y z : WriterStep) → writer_holds_one x ≡ false → writer_holds_one y ≡ false → writer_holds_one z ≡ false → writer_holds_one (on_take a x y z) ≡ false
on_take_free (answer.Taken n) x y z p q r = p
on_take_free answer.Broken x y z p q r = q
on_take_free _ x y z p q r = r

on_call_free : (a : Answer) (x y : WriterStep) → writer_holds_one x ≡ false → writer_holds_one y ≡ false → writer_holds_one (on_call a x y) ≡ false
on_call_free (answer.Failed c) x y p q = q
on_call_free _ x y p q = p

writer_free : (s : WriterState) (a : Answer) (f : WriterStep) → s.checks ≡ false → WriterFree (writer_took s a f)
writer_free s a (writer_step.Advance v) own = by (advance_took s.advance (old_of a) v) (tail_after s (old_of a) v) _ (finds_no_more s (old_of a) v)
  where
    by : (w : Advance) (t : ℕ) (on : WriterStep) (b : Bool) → WriterFree (record s { advance = w; tail = t; checks = b; step = cond b (writer_step.Advance advance_step.LoadTail) on })
    by w t on true e = refl
    by w t on false e = absurd (cc)
writer_free s a writer_step.LoadCheckpoint own = either_writer (has_log_space s (old_of a)) _ _ (λ e. either_write (stands_outside s) writer_step.LoadFirst writer_step.LoadCell refl refl) (λ e. refl)
writer_free s a writer_step.LoadFirst own = λ e. refl
writer_free s a writer_step.ClearFirst own = λ e. refl
writer_free s a writer_step.LoadCell own = either_writer (has_whole_word s) _ _ (λ e. refl) (λ e. refl)
writer_free s a writer_step.ClearCell own = λ e. absurd (cc)
writer_free s a writer_step.TakeDevice own = λ e. on_take_free a writer_step.WriteTo writer_step.GiveBroken writer_step.TakeDevice refl refl refl
writer_free s a writer_step.GiveBroken own = λ e. refl
writer_free s a writer_step.WriteTo own = λ e. on_call_free a writer_step.StoreWrite writer_step.StoreFailed refl refl
writer_free s a writer_step.StoreWrite own = λ e. refl
writer_free s a writer_step.GiveDevice own = λ e. refl
writer_free s a writer_step.StoreFailed own = λ e. refl
writer_free s a writer_step.GiveFailed own = λ e. refl
writer_free s a writer_step.Failed own = λ e. absurd (cc)

-- THE CLOSER
abbrev closer_holds_one : CloserStep → Bool
closer_holds_one (closer_step.Advance v) = advance_holds v
closer_holds_one _ = false

closer_holds_none : (b : LinkBuffer) (s : CloserStep) → closer_holds_one s ≡ false → closer_holds_tail b s ≡ false
closer_holds_none link_buffer.Closed (closer_step.Advance v) e = e
closer_holds_none link_buffer.Closed _ e = refl
closer_holds_none link_buffer.Written _ e = refl

abbrev CloserFree : CloserState → Type 0
CloserFree t = t.checks ≡ true → closer_holds_one t.step ≡ false

closer_free : (t : CloserState) (a : Answer) (s : CloserStep) → t.checks ≡ false → CloserFree (closer_took t a s)
closer_free t a (closer_step.Advance v) own = by (advance_took t.advance (old_of a) v) (frees v) _ (stays_put t.advance (old_of a) v)
  where
    by : (w : Advance) (f : Bool) (on : AdvanceStep) (b : Bool) → CloserFree (record t { advance = w; checks = b; step = closer_step.Advance (cond (cond f true b) advance_step.LoadTail on) })
    by w true on true e = refl
    by w false on true e = refl
    by w f on false e = absurd (cc)
closer_free t a closer_step.Failed own = λ e. absurd (cc)

-- AN ACTOR that takes the Op of its own step
own_free : (a : Actor) (r : Answer) → is_checking a ≡ false → ChecksWithoutTail (own_took a r)
own_free (actor.User u) r own = λ e b. user_holds_none b _ (user_free u (heard r) u.step own e)
own_free (actor.Writer s) r own = λ e b. writer_holds_none b _ (writer_free s r s.step own e)
own_free (actor.Closer t) r own = λ e b. closer_holds_none b _ (closer_free t r t.step own e)
own_free _ r own = λ e b. refl

-- or has loaded FAILED, and checks no more
checks_no_more : {S : Type 0} (p : ActorProgram S) (s : S) (n : ℕ) → p.checks (p.goes_on s) ≡ false → p.checks (p.fails (p.goes_on s) n) ≡ false → p.checks (checked_of p s n) ≡ false
checks_no_more p s n on ends = by (eqb n 0)
  where
    by : (b : Bool) → p.checks (cond b (p.goes_on s) (p.fails (p.goes_on s) n)) ≡ false
    by true = on
    by false = ends

checked_free : (a : Actor) (n : ℕ) → is_checking a ≡ true → is_checking (checked a n) ≡ false
checked_free (actor.User u) n e = checks_no_more user_program u n refl refl
checked_free (actor.Writer s) n e = checks_no_more writer_program s n refl refl
checked_free (actor.Flusher f) n e = checks_no_more flusher_program f n refl refl
checked_free (actor.Reader f) n e = checks_no_more reader_program f n refl refl
checked_free (actor.Closer t) n e = checks_no_more closer_program t n refl refl
checked_free (actor.Cleaner v) n e = checks_no_more cleaner_program v n refl refl
checked_free (actor.Checkpointer t) n e = checks_no_more checkpointer_program t n refl refl

pub took_free : (a : Actor) (r : Answer) → ChecksWithoutTail (took a r)
took_free a r = by (is_checking a) (checked_free a (old_of r)) (own_free a r)
  where
    by : (b : Bool) → (b ≡ true → is_checking (checked a (old_of r)) ≡ false) → (b ≡ false → ChecksWithoutTail (own_took a r)) → ChecksWithoutTail (cond b (checked a (old_of r)) (own_took a r))
    by true checks own = λ e. absurd (let no = checks refl in cc)
    by false checks own = own refl

user_stopped : (code : ℕ) (s : UserStep) → (user_ending code s ≡ step.Moved → ⊥) → user_holds_one s ≡ false
user_stopped code user_step.Done e = refl
user_stopped code user_step.Failed e = refl
user_stopped code _ e = absurd (e refl)

writer_stopped : (code : ℕ) (f : WriterStep) → (writer_ending code f ≡ step.Moved → ⊥) → writer_holds_one f ≡ false
writer_stopped code writer_step.Failed e = refl
writer_stopped code _ e = absurd (e refl)

closer_stopped : (code : ℕ) (s : CloserStep) → (closer_ending code s ≡ step.Moved → ⊥) → closer_holds_one s ≡ false
closer_stopped code closer_step.Failed e = refl
closer_stopped code _ e = absurd (e refl)

pub stopped_free : (a : Actor) → HasStopped a → (b : LinkBuffer) → holds_tail b a ≡ false
stopped_free (actor.User u) e b = user_holds_none b u.step (user_stopped u.code u.step e)
stopped_free (actor.Writer s) e b = writer_holds_none b s.step (writer_stopped s.code s.step e)
stopped_free (actor.Closer t) e b = closer_holds_none b t.step (closer_stopped t.code t.step e)
stopped_free _ e b = refl
