-- After each turn a tail that is held has a holder.
use Rattle.std.proofs.Common.{Bool, List, cond, eqb, false, nat_lt, refl, set, subst, sym, true, ℕ, ap, nat_le, ◌+◌, ◌∙◌, ◌≡◌, ◌≢◌}
use lib.ListN.{get_elem?}
use mathlib.Core.Option.{some, some-injective}
use Rattle.model_core.proofs.Lists.{set_at, set_else}
use Rattle.model_core.proofs.Tails.{held_in}
use Rattle.model_core.specs.States.{Actor, Advance, CheckpointerState, CleanerState, CloserState, FlusherState, UserState, WriterState, ReaderState}
use Rattle.model_core.specs.LogPrograms.{advance_next, advance_op, ends, frees, stays_put, tail_at, closer_op, closer_took, flusher_op, tail_after, writer_op, writer_took}
use Rattle.model_core.specs.Hands.{advance_holds, HasHolder, closer_holds_tail, holds_tail, user_holds_tail, writer_holds_tail, ChecksWithoutTail}
use Rattle.model_core.specs.ActorProgram.{heard, old_of}
use Rattle.model_core.specs.PagePrograms.{checkpointer_op, cleaner_op}
use Rattle.model_core.specs.Program.{Listed, checked, is_checking, next, own_op, own_took, took}
use Rattle.model_core.specs.ReaderProgram.{reader_op}
use Rattle.model_core.specs.Layout.{SharedWords}
use Rattle.model_core.specs.NamedWords.{read, wrote}
use Rattle.model_core.specs.Lanes.{tail_word}
use Rattle.model_core.specs.UserProgram.{user_op, user_took}
use Rattle.model_core.specs.NamedTurn.{found, shared_answer, shared_left}
use Rattle.model_core.specs.declared.ops.Answer.{Answer}
use Rattle.model_core.specs.declared.ops.Op.{Op}
use Rattle.model_core.specs.declared.steps.AdvanceStep.{AdvanceStep}
use Rattle.model_core.specs.declared.steps.CheckpointerStep.{CheckpointerStep}
use Rattle.model_core.specs.declared.steps.CleanerStep.{CleanerStep}
use Rattle.model_core.specs.declared.steps.CloserStep.{CloserStep}
use Rattle.model_core.specs.declared.steps.FlusherStep.{FlusherStep}
use Rattle.model_core.specs.declared.steps.ReaderStep.{ReaderStep}
use Rattle.model_core.specs.declared.steps.UserStep.{UserStep}
use Rattle.model_core.specs.declared.steps.WriterStep.{WriterStep}
use Rattle.model_core.specs.declared.words.LinkBuffer.{LinkBuffer}
use Rattle.model_core.specs.declared.words.Word.{Word}
use Rattle.model_core.specs.States as actor
use Rattle.model_core.specs.declared.limits.TheConstants.{ADVANCE_PLACES}
use Rattle.model_core.specs.declared.ops.Answer.TheVariants as answer
use Rattle.model_core.specs.declared.ops.Op.TheVariants as op
use Rattle.model_core.specs.declared.steps.AdvanceStep.TheVariants as advance_step
use Rattle.model_core.specs.declared.steps.CheckpointerStep.TheVariants as checkpointer_step
use Rattle.model_core.specs.declared.steps.CleanerStep.TheVariants as cleaner_step
use Rattle.model_core.specs.declared.steps.CloserStep.TheVariants as closer_step
use Rattle.model_core.specs.declared.steps.FlusherStep.TheVariants as flusher_step
use Rattle.model_core.specs.declared.steps.ReaderStep.TheVariants as reader_step
use Rattle.model_core.specs.declared.steps.UserStep.TheVariants as user_step
use Rattle.model_core.specs.declared.steps.WriterStep.TheVariants as writer_step
use Rattle.model_core.specs.declared.words.LinkBuffer.TheVariants as link_buffer
use Rattle.model_core.specs.declared.words.Word.TheVariants as word

-- whether a tail is held
abbrev pub tail_held : LinkBuffer → SharedWords → Bool
tail_held link_buffer.Written m = m.wheld
tail_held link_buffer.Closed m = m.cheld

-- a word that isn't the tail's, and an Op that stores none there
abbrev is_else : LinkBuffer → Word → Bool
is_else link_buffer.Written word.Wtail = false
is_else link_buffer.Closed word.Ctail = false
is_else _ _ = true

abbrev spares : LinkBuffer → Op → Bool
spares b (op.Store w x) = is_else b w
spares b (op.Add w k) = is_else b w
spares b (op.Swap w x y) = is_else b w
spares b _ = true

wrote_else : (b : LinkBuffer) (m : SharedWords) (w : Word) (x : ℕ) → is_else b w ≡ true → tail_held b (wrote m w x) ≡ tail_held b m
wrote_else link_buffer.Written m word.Wtail x e = absurd (cc)
wrote_else link_buffer.Written m _ x e = refl
wrote_else link_buffer.Closed m word.Ctail x e = absurd (cc)
wrote_else link_buffer.Closed m _ x e = refl

either_words : (b : LinkBuffer) (d : Bool) (m x y : SharedWords) → tail_held b x ≡ tail_held b m → tail_held b y ≡ tail_held b m → tail_held b (cond d x y) ≡ tail_held b m
either_words b true m x y p q = p
either_words b false m x y p q = q

device_same : (b : LinkBuffer) (m : SharedWords) (d : ℕ) → tail_held b (record m { device = d }) ≡ tail_held b m
device_same link_buffer.Written m d = refl
device_same link_buffer.Closed m d = refl

lists_same : (b : LinkBuffer) (m : SharedWords) (l : List ℕ) → tail_held b (record m { lists = l }) ≡ tail_held b m
lists_same link_buffer.Written m l = refl
lists_same link_buffer.Closed m l = refl

left_same : (b : LinkBuffer) (m : SharedWords) (o : Op) → spares b o ≡ true → tail_held b (shared_left m o) ≡ tail_held b m
left_same b m op.TakeDevice e = either_words b (eqb m.device 0) m _ m (device_same b m 1) refl
left_same b m op.GiveDevice e = device_same b m 0
left_same b m (op.TakeAdd p x) e = either_words b _ m _ m (lists_same b m _) refl
left_same b m (op.TakeRemove p) e = either_words b _ m _ m (lists_same b m _) refl
left_same b m (op.TakeOldest i) e = either_words b _ m _ m (lists_same b m _) refl
left_same b m (op.GiveList i) e = lists_same b m _
left_same b m (op.Store w x) e = wrote_else b m w x e
left_same b m (op.Add w k) e = wrote_else b m w _ e
left_same b m (op.Swap w x y) e = either_words b (eqb (read m w) x) m _ m (wrote_else b m w y e) refl
left_same b m _ e = refl

-- AN ADVANCE that doesn't hold its tail, where that is held, didn't hold it before
module _ (m : SharedWords) where
  abbrev HeldBefore : LinkBuffer → Bool → Type 0
  HeldBefore b holds = (tail_held b m ≡ true) × (holds ≡ false)

  abbrev advance_found : LinkBuffer → Advance → AdvanceStep → ℕ
  advance_found b v s = found (advance_op b v s) m

  freed : (b : LinkBuffer) (v : Advance) → tail_held b (shared_left m (advance_op b v advance_step.FreeTail)) ≡ false
  freed link_buffer.Written v = held_in v.place false
  freed link_buffer.Closed v = held_in v.place false

  advance_holder : (b : LinkBuffer) (v : Advance) (s : AdvanceStep) → cond (ends v (advance_found b v s) s) false (advance_holds (advance_next v (advance_found b v s) s)) ≡ false
      → tail_held b (shared_left m (advance_op b v s)) ≡ true → HeldBefore b (advance_holds s)
  advance_holder b v advance_step.LoadTail rests h = (h, refl)
  advance_holder b v advance_step.TakeTail rests h = by (eqb (read m (tail_at b)) (tail_word v.tail false)) rests h
    where
      by : (d : Bool) → cond (cond d false true) false true ≡ false → tail_held b (cond d (wrote m (tail_at b) (tail_word v.tail true)) m) ≡ true → HeldBefore b false
      by true rests h = absurd (cc)
      by false rests h = (h, refl)
  advance_holder b v advance_step.LoadLink rests h = absurd (by (eqb (advance_found b v advance_step.LoadLink) 0) rests)
    where
      by : (d : Bool) → advance_holds (cond d advance_step.FreeTail advance_step.ClearLink) ≡ false → ⊥
      by true rests = cc
      by false rests = cc
  advance_holder b v advance_step.ClearLink rests h = absurd (by (nat_lt (v.place + v.link) (v.tail + ADVANCE_PLACES)) rests)
    where
      by : (d : Bool) → advance_holds (cond d advance_step.LoadLink advance_step.FreeTail) ≡ false → ⊥
      by true rests = cc
      by false rests = cc
  advance_holder b v advance_step.FreeTail rests h = absurd (let z : false ≡ true = sym (freed b v) ∙ h in cc)

  -- an Op of an advance of the other tail
  spares_closed : (v : Advance) (s : AdvanceStep) → spares link_buffer.Written (advance_op link_buffer.Closed v s) ≡ true
  spares_closed v advance_step.LoadTail = refl
  spares_closed v advance_step.TakeTail = refl
  spares_closed v advance_step.LoadLink = refl
  spares_closed v advance_step.ClearLink = refl
  spares_closed v advance_step.FreeTail = refl

  spares_written : (v : Advance) (s : AdvanceStep) → spares link_buffer.Closed (advance_op link_buffer.Written v s) ≡ true
  spares_written v advance_step.LoadTail = refl
  spares_written v advance_step.TakeTail = refl
  spares_written v advance_step.LoadLink = refl
  spares_written v advance_step.ClearLink = refl
  spares_written v advance_step.FreeTail = refl

  module _ (ls : ℕ → List Listed) (broken : Bool) (code mark : ℕ) where
    told : (b : LinkBuffer) (v : Advance) (s : AdvanceStep) → shared_answer ls broken code mark m (advance_op b v s) ≡ answer.Old (advance_found b v s)
    told b v advance_step.LoadTail = refl
    told b v advance_step.TakeTail = refl
    told b v advance_step.LoadLink = refl
    told b v advance_step.ClearLink = refl
    told b v advance_step.FreeTail = refl

    -- a step that doesn't store the tail's word, of an actor that doesn't hold it
    beside : (b : LinkBuffer) (o : Op) → spares b o ≡ true → tail_held b (shared_left m o) ≡ true → HeldBefore b false
    beside b o e h = (sym (left_same b m o e) ∙ h, refl)

    module _ (u : UserState) where
      abbrev user_answer : UserStep → Answer
      user_answer s = shared_answer ls broken code mark m (user_op u s)

      user_by : (p f : Bool) (x : AdvanceStep) → user_holds_tail link_buffer.Written (cond p user_step.LoadWtail (cond f user_step.ReloadWtail (user_step.AdvanceWritten x))) ≡ false → cond (cond f true p) false (advance_holds x) ≡ false
      user_by true true x rests = refl
      user_by true false x rests = refl
      user_by false true x rests = refl
      user_by false false x rests = rests

      closing_by : (p f : Bool) (x : AdvanceStep) → user_holds_tail link_buffer.Closed (cond p user_step.LoadCtail (cond f user_step.ReloadCtail (user_step.AdvanceClosed x))) ≡ false → cond (cond f true p) false (advance_holds x) ≡ false
      closing_by true true x rests = refl
      closing_by true false x rests = refl
      closing_by false true x rests = refl
      closing_by false false x rests = rests

      user_holder : (b : LinkBuffer) (s : UserStep) → user_holds_tail b (user_took u (heard (user_answer s)) s).step ≡ false → tail_held b (shared_left m (user_op u s)) ≡ true → HeldBefore b (user_holds_tail b s)
      user_holder link_buffer.Written (user_step.AdvanceWritten s) rests h = advance_holder link_buffer.Written u.advance s
          (user_by (stays_put u.advance (advance_found link_buffer.Written u.advance s) s) (frees s) (advance_next u.advance (advance_found link_buffer.Written u.advance s) s)
          (subst (λ (r : Answer). user_holds_tail link_buffer.Written (user_took u (heard r) (user_step.AdvanceWritten s)).step ≡ false) (told link_buffer.Written u.advance s) rests)) h
      user_holder link_buffer.Written (user_step.AdvanceClosed s) rests h = beside link_buffer.Written (advance_op link_buffer.Closed u.advance s) (spares_closed u.advance s) h
      user_holder link_buffer.Written s rests h = beside link_buffer.Written (user_op u s) refl h
      user_holder link_buffer.Closed (user_step.AdvanceClosed s) rests h = advance_holder link_buffer.Closed u.advance s
          (closing_by (stays_put u.advance (advance_found link_buffer.Closed u.advance s) s) (frees s) (advance_next u.advance (advance_found link_buffer.Closed u.advance s) s)
          (subst (λ (r : Answer). user_holds_tail link_buffer.Closed (user_took u (heard r) (user_step.AdvanceClosed s)).step ≡ false) (told link_buffer.Closed u.advance s) rests)) h
      user_holder link_buffer.Closed (user_step.AdvanceWritten s) rests h = beside link_buffer.Closed (advance_op link_buffer.Written u.advance s) (spares_written u.advance s) h
      user_holder link_buffer.Closed s rests h = beside link_buffer.Closed (user_op u s) refl h

    module _ (s : WriterState) where
      abbrev writer_answer : WriterStep → Answer
      writer_answer f = shared_answer ls broken code mark m (writer_op s f)

      writer_by : (e low : Bool) (x : AdvanceStep) → writer_holds_tail link_buffer.Written (cond (cond e low false) (writer_step.Advance advance_step.LoadTail) (cond e writer_step.LoadCheckpoint (writer_step.Advance x))) ≡ false → cond e false (advance_holds x) ≡ false
      writer_by true low x rests = refl
      writer_by false low x rests = rests

      writer_holder : (b : LinkBuffer) (f : WriterStep) → writer_holds_tail b (writer_took s (writer_answer f) f).step ≡ false → tail_held b (shared_left m (writer_op s f)) ≡ true → HeldBefore b (writer_holds_tail b f)
      writer_holder link_buffer.Written (writer_step.Advance v) rests h = advance_holder link_buffer.Written s.advance v
          (writer_by (ends s.advance (advance_found link_buffer.Written s.advance v) v) (nat_le (tail_after s (advance_found link_buffer.Written s.advance v) v) s.write) (advance_next s.advance (advance_found link_buffer.Written s.advance v) v)
          (subst (λ (r : Answer). writer_holds_tail link_buffer.Written (writer_took s r (writer_step.Advance v)).step ≡ false) (told link_buffer.Written s.advance v) rests)) h
      writer_holder link_buffer.Written f rests h = beside link_buffer.Written (writer_op s f) refl h
      writer_holder link_buffer.Closed (writer_step.Advance v) rests h = beside link_buffer.Closed (advance_op link_buffer.Written s.advance v) (spares_written s.advance v) h
      writer_holder link_buffer.Closed f rests h = beside link_buffer.Closed (writer_op s f) refl h

    module _ (t : CloserState) where
      closer_by : (e : Bool) (x : AdvanceStep) → advance_holds (cond e advance_step.LoadTail x) ≡ false → cond e false (advance_holds x) ≡ false
      closer_by true x rests = refl
      closer_by false x rests = rests

      closer_holder : (b : LinkBuffer) (f : CloserStep) → closer_holds_tail b (closer_took t (shared_answer ls broken code mark m (closer_op t f)) f).step ≡ false → tail_held b (shared_left m (closer_op t f)) ≡ true → HeldBefore b (closer_holds_tail b f)
      closer_holder link_buffer.Closed (closer_step.Advance v) rests h = advance_holder link_buffer.Closed t.advance v
          (closer_by (ends t.advance (advance_found link_buffer.Closed t.advance v) v) (advance_next t.advance (advance_found link_buffer.Closed t.advance v) v)
          (subst (λ (r : Answer). closer_holds_tail link_buffer.Closed (closer_took t r (closer_step.Advance v)).step ≡ false) (told link_buffer.Closed t.advance v) rests)) h
      closer_holder link_buffer.Written (closer_step.Advance v) rests h = beside link_buffer.Written (advance_op link_buffer.Closed t.advance v) (spares_closed t.advance v) h
      closer_holder b closer_step.Failed rests h = ended b h
        where
          ended : (b : LinkBuffer) → tail_held b m ≡ true → HeldBefore b (closer_holds_tail b closer_step.Failed)
          ended link_buffer.Written h = (h, refl)
          ended link_buffer.Closed h = (h, refl)

    flusher_spares : (b : LinkBuffer) (f : FlusherState) (s : FlusherStep) → spares b (flusher_op f s) ≡ true
    flusher_spares link_buffer.Written f flusher_step.LoadWrite = refl
    flusher_spares link_buffer.Written f _ = refl
    flusher_spares link_buffer.Closed f flusher_step.LoadWrite = refl
    flusher_spares link_buffer.Closed f _ = refl

    reader_spares : (b : LinkBuffer) (f : ReaderState) (s : ReaderStep) → spares b (reader_op f s) ≡ true
    reader_spares link_buffer.Written f reader_step.LoadFlushed = refl
    reader_spares link_buffer.Written f _ = refl
    reader_spares link_buffer.Closed f reader_step.LoadFlushed = refl
    reader_spares link_buffer.Closed f _ = refl

    cleaner_spares : (b : LinkBuffer) (v : CleanerState) (s : CleanerStep) → spares b (cleaner_op v s) ≡ true
    cleaner_spares link_buffer.Written v cleaner_step.LoadFlushed = refl
    cleaner_spares link_buffer.Written v _ = refl
    cleaner_spares link_buffer.Closed v cleaner_step.LoadFlushed = refl
    cleaner_spares link_buffer.Closed v _ = refl

    checkpointer_spares : (b : LinkBuffer) (t : CheckpointerState) (s : CheckpointerStep) → spares b (checkpointer_op t s) ≡ true
    checkpointer_spares link_buffer.Written t checkpointer_step.LoadCtail = refl
    checkpointer_spares link_buffer.Written t _ = refl
    checkpointer_spares link_buffer.Closed t checkpointer_step.LoadCtail = refl
    checkpointer_spares link_buffer.Closed t _ = refl

    own_holder : (b : LinkBuffer) (a : Actor) → holds_tail b (own_took a (shared_answer ls broken code mark m (own_op a))) ≡ false → tail_held b (shared_left m (own_op a)) ≡ true → HeldBefore b (holds_tail b a)
    own_holder b (actor.User u) rests h = user_holder u b u.step rests h
    own_holder b (actor.Writer s) rests h = writer_holder s b s.step rests h
    own_holder b (actor.Flusher f) rests h = beside b (flusher_op f f.step) (flusher_spares b f f.step) h
    own_holder b (actor.Reader f) rests h = beside b (reader_op f f.step) (reader_spares b f f.step) h
    own_holder b (actor.Closer t) rests h = closer_holder t b t.step rests h
    own_holder b (actor.Cleaner v) rests h = beside b (cleaner_op v v.step) (cleaner_spares b v v.step) h
    own_holder b (actor.Checkpointer t) rests h = beside b (checkpointer_op t t.step) (checkpointer_spares b t t.step) h

    next_holder : (b : LinkBuffer) (a : Actor) → ChecksWithoutTail a → holds_tail b (took a (shared_answer ls broken code mark m (next a))) ≡ false → tail_held b (shared_left m (next a)) ≡ true → HeldBefore b (holds_tail b a)
    next_holder b a free = by (is_checking a) refl
      where
        by : (d : Bool) → is_checking a ≡ d
            → holds_tail b (cond d (checked a (old_of (shared_answer ls broken code mark m (cond d (op.Load word.Failed) (own_op a))))) (own_took a (shared_answer ls broken code mark m (cond d (op.Load word.Failed) (own_op a))))) ≡ false
            → tail_held b (shared_left m (cond d (op.Load word.Failed) (own_op a))) ≡ true → HeldBefore b (holds_tail b a)
        by true checks rests h = (h, free checks b)
        by false checks rests h = own_holder b a rests h

    -- the turn of the actor at a seat
    pub holder_stays : (b : LinkBuffer) (actors : List Actor) (seat : ℕ) (a : Actor) → get_elem? actors seat ≡ some a → ChecksWithoutTail a → (tail_held b m ≡ true → HasHolder b actors)
        → tail_held b (shared_left m (next a)) ≡ true → HasHolder b (set actors seat (took a (shared_answer ls broken code mark m (next a))))
    holder_stays b actors seat a at free before h = by (holds_tail b (took a (shared_answer ls broken code mark m (next a)))) refl
      where
        by : (d : Bool) → holds_tail b (took a (shared_answer ls broken code mark m (next a))) ≡ d → HasHolder b (set actors seat (took a (shared_answer ls broken code mark m (next a))))
        by true holds = (seat, took a (shared_answer ls broken code mark m (next a)), set_at actors seat a _ at, holds)
        by false rests =
            let k = next_holder b a free rests h in
            let t = before k.0 in
            let other : t.0 ≢ seat = (λ e. let here : get_elem? actors seat ≡ some t.1 = subst (λ (i : ℕ). get_elem? actors i ≡ some t.1) e t.2 in
            let z : false ≡ true = sym k.1 ∙ ap (holds_tail b) (some-injective a t.1 (sym at ∙ here)) ∙ t.3 in cc) in
            (t.0, t.1, set_else actors seat t.0 _ other ∙ t.2, t.3)
