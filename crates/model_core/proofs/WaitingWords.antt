-- A wait changes no word, but that the cleaner may have released a latch, and an advance freed its tail.
use Rattle.std.proofs.Common.{Bool, List, ap, cond, eqb, eqb-true, false, inl, inr, refl, subst, true, ℕ, ◌%◌, ◌+◌, ◌≡◌, ◌⊎◌}
use Rattle.std.proofs.Math.Logic.{⊎_map}
use Rattle.std.specs.Prelude.{None, slice_index, slice_set}
use Rattle.model_core.specs.ActorProgram.{opposite, has_taken, heard, old_of, on_take}
use Rattle.model_core.specs.States.{Actor, Advance, CheckpointerState, CleanerState, CloserState, FlusherState, UserState, WriterState, ReaderState}
use Rattle.model_core.specs.LogPrograms.{advance_op, frees, stays_put, tail_at, closer_op, closer_waits, flusher_op, flusher_waits, finds_no_more, writer_op, writer_waits}
use Rattle.model_core.specs.PagePrograms.{checkpointer_op, checkpointer_waits, cleaner_op, cleaner_waits, finds_none, first_of_batch}
use Rattle.model_core.specs.Program.{Listed, oldest_end, answer_of, word_found, words_left, own_op, waits}
use Rattle.model_core.specs.ReaderProgram.{reader_op, reader_waits}
use Rattle.model_core.specs.Layout.{device_at, index, lists_at}
use Rattle.model_core.specs.Lanes.{tail_word}
use Rattle.model_core.specs.UserProgram.{current_page, user_op, user_waits}
use Rattle.model_core.specs.Hands.{IsFreeing}
use Rattle.model_core.specs.declared.limits.TheConstants.{FLUSH_LISTS}
use Rattle.model_core.specs.declared.steps.AdvanceStep.{AdvanceStep}
use Rattle.model_core.specs.declared.steps.CheckpointerStep.{CheckpointerStep}
use Rattle.model_core.specs.declared.steps.CleanerStep.{CleanerStep}
use Rattle.model_core.specs.declared.steps.CloserStep.{CloserStep}
use Rattle.model_core.specs.declared.steps.FlusherStep.{FlusherStep}
use Rattle.model_core.specs.declared.steps.ReaderStep.{ReaderStep}
use Rattle.model_core.specs.declared.steps.UserStep.{UserStep}
use Rattle.model_core.specs.declared.steps.WriterStep.{WriterStep}
use Rattle.model_core.specs.declared.words.Layout.{Layout}
use Rattle.model_core.specs.declared.words.LinkBuffer.{LinkBuffer}
use Rattle.model_core.specs.declared.words.LinkBuffer.TheVariants as link_buffer
use Rattle.model_core.specs.declared.words.Word.TheVariants as word
use Rattle.model_core.specs.States as actor
use Rattle.model_core.specs.declared.ops.Answer.TheVariants as answer
use Rattle.model_core.specs.declared.steps.AdvanceStep.TheVariants as advance_step
use Rattle.model_core.specs.declared.steps.CheckpointerStep.TheVariants as checkpointer_step
use Rattle.model_core.specs.declared.steps.CleanerStep.TheVariants as cleaner_step
use Rattle.model_core.specs.declared.steps.CloserStep.TheVariants as closer_step
use Rattle.model_core.specs.declared.steps.FlusherStep.TheVariants as flusher_step
use Rattle.model_core.specs.declared.steps.ReaderStep.TheVariants as reader_step
use Rattle.model_core.specs.declared.steps.UserStep.TheVariants as user_step
use Rattle.model_core.specs.declared.steps.WriterStep.TheVariants as writer_step

-- a turn word that is held stays as it is
held_list : (ws : List ℕ) (i : ℕ) (b : Bool) → opposite (has_taken (cond b (answer.Taken None) answer.Held)) ≡ true → ◌≡◌ {A = List ℕ} (cond b (slice_set ws i 1) ws) ws
held_list ws i true e = absurd (cc)
held_list ws i false e = refl

module _ (layout : Layout) (ls : ℕ → List Listed) (broken : Bool) (code mark : ℕ) (ws : List ℕ) where
  held_device : (b : Bool) → on_take (cond b (cond broken answer.Broken (answer.Taken None)) answer.Held) false false true ≡ true → ◌≡◌ {A = List ℕ} (cond b (slice_set ws device_at 1) ws) ws
  held_device true e = by broken e
    where
      by : (d : Bool) → on_take (cond d answer.Broken (answer.Taken None)) false false true ≡ true → ◌≡◌ {A = List ℕ} (slice_set ws device_at 1) ws
      by true e = absurd (cc)
      by false e = absurd (cc)
  held_device false e = refl

  -- the word of a tail that isn't the loaded one stays as it is
  lost : (i w : ℕ) (b : Bool) → cond b false true ≡ true → ◌≡◌ {A = List ℕ} (cond b (slice_set ws i w) ws) ws
  lost i w true e = absurd (cc)
  lost i w false e = refl

  -- what the word of an Op of an advance was
  abbrev found_at : LinkBuffer → Advance → AdvanceStep → ℕ
  found_at b v s = word_found layout (advance_op b v s) ws

  advance_words : (b : LinkBuffer) (v : Advance) (s : AdvanceStep) → stays_put v (found_at b v s) s ≡ true → (◌≡◌ {A = List ℕ} (words_left layout ws (advance_op b v s)) ws) ⊎ ((s ≡ advance_step.FreeTail) × (v.place ≡ v.tail))
  advance_words b v advance_step.LoadTail e = inl refl
  advance_words b v advance_step.TakeTail e = inl (lost (index layout (tail_at b)) (tail_word v.tail true) (eqb (slice_index ws (index layout (tail_at b))) (tail_word v.tail false)) e)
  advance_words b v advance_step.LoadLink e = absurd (cc)
  advance_words b v advance_step.ClearLink e = absurd (cc)
  advance_words b v advance_step.FreeTail e = inr (refl, eqb-true v.place v.tail e)

  -- it is answered with that
  told : (b : LinkBuffer) (v : Advance) (s : AdvanceStep) → answer_of layout ls broken code mark ws (advance_op b v s) ≡ answer.Old (found_at b v s)
  told b v advance_step.LoadTail = refl
  told b v advance_step.TakeTail = refl
  told b v advance_step.LoadLink = refl
  told b v advance_step.ClearLink = refl
  told b v advance_step.FreeTail = refl

  -- a user may free a tail that it hasn't moved
  abbrev UserFrees : Advance → UserStep → Type 0
  UserFrees v s = ((s ≡ user_step.AdvanceWritten advance_step.FreeTail) ⊎ (s ≡ user_step.AdvanceClosed advance_step.FreeTail)) × (v.place ≡ v.tail)

  user_words : (u : UserState) (s : UserStep) → user_waits u (heard (answer_of layout ls broken code mark ws (user_op u s))) s ≡ true → (◌≡◌ {A = List ℕ} (words_left layout ws (user_op u s)) ws) ⊎ UserFrees u.advance s
  user_words u user_step.LoadSn e = inl refl
  user_words u (user_step.AdvanceWritten s) e = ⊎_map (λ same. same) (λ freed. (inl (ap user_step.AdvanceWritten freed.0), freed.1))
      (advance_words link_buffer.Written u.advance s (subst (λ a. stays_put u.advance (heard a) s ≡ true) (told link_buffer.Written u.advance s) e))
  user_words u (user_step.AdvanceClosed s) e = ⊎_map (λ same. same) (λ freed. (inr (ap user_step.AdvanceClosed freed.0), freed.1))
      (advance_words link_buffer.Closed u.advance s (subst (λ a. stays_put u.advance (heard a) s ≡ true) (told link_buffer.Closed u.advance s) e))
  user_words u user_step.TakeLatch e = inl (by (eqb (slice_index ws (index layout (word.Latch (current_page u)))) 0) e)
    where
      by : (b : Bool) → opposite b ≡ true → ◌≡◌ {A = List ℕ} (cond b (slice_set ws (index layout (word.Latch (current_page u))) 1) ws) ws
      by true e = absurd (cc)
      by false e = refl
  user_words u user_step.LoadWrite e = inl refl
  user_words u user_step.ReloadWtail e = inl refl
  user_words u user_step.ReloadCtail e = inl refl
  user_words u user_step.AddToList e = inl (by (eqb (slice_index ws (lists_at + current_page u % FLUSH_LISTS)) 0) e)
    where
      by : (b : Bool) → opposite (eqb (heard (cond b (answer.Taken None) answer.Held)) 0) ≡ true → ◌≡◌ {A = List ℕ} (cond b (slice_set ws (lists_at + current_page u % FLUSH_LISTS) 1) ws) ws
      by true e = absurd (cc)
      by false e = refl
  user_words u user_step.AwaitMark e = inl refl
  user_words u _ e = absurd (cc)

  writer_words : (s : WriterState) (f : WriterStep) → writer_waits s (answer_of layout ls broken code mark ws (writer_op s f)) f ≡ true → (◌≡◌ {A = List ℕ} (words_left layout ws (writer_op s f)) ws) ⊎ (f ≡ writer_step.Advance advance_step.FreeTail)
  writer_words s (writer_step.Advance v) e = ⊎_map (λ same. same) (ap writer_step.Advance)
      (ended s.advance v _ (subst (λ a. finds_no_more s (old_of a) v ≡ true) (told link_buffer.Written s.advance v) e))
    where
      ended : (w : Advance) (v : AdvanceStep) (more : Bool) → cond (cond (frees v) true (stays_put w (found_at link_buffer.Written w v) v)) more false ≡ true
          → (◌≡◌ {A = List ℕ} (words_left layout ws (advance_op link_buffer.Written w v)) ws) ⊎ (v ≡ advance_step.FreeTail)
      ended w advance_step.LoadTail more e = inl refl
      ended w advance_step.TakeTail more e = by (stays_put w (found_at link_buffer.Written w advance_step.TakeTail) advance_step.TakeTail) refl e
        where
          by : (b : Bool) → stays_put w (found_at link_buffer.Written w advance_step.TakeTail) advance_step.TakeTail ≡ b → cond b more false ≡ true
              → (◌≡◌ {A = List ℕ} (words_left layout ws (advance_op link_buffer.Written w advance_step.TakeTail)) ws) ⊎ (advance_step.TakeTail ≡ advance_step.FreeTail)
          by true put e = ⊎_map (λ same. same) (λ freed. freed.0) (advance_words link_buffer.Written w advance_step.TakeTail put)
          by false put e = absurd (cc)
      ended w advance_step.LoadLink more e = absurd (cc)
      ended w advance_step.ClearLink more e = absurd (cc)
      ended w advance_step.FreeTail more e = inr refl
  writer_words s writer_step.LoadCheckpoint e = inl refl
  writer_words s writer_step.TakeDevice e = inl (held_device (eqb (slice_index ws device_at) 0) e)
  writer_words s _ e = absurd (cc)

  flusher_words : (f : FlusherState) (s : FlusherStep) → flusher_waits f (answer_of layout ls broken code mark ws (flusher_op f s)) s ≡ true → ◌≡◌ {A = List ℕ} (words_left layout ws (flusher_op f s)) ws
  flusher_words f flusher_step.LoadWrite e = refl
  flusher_words f flusher_step.TakeDevice e = held_device (eqb (slice_index ws device_at) 0) e
  flusher_words f _ e = absurd (cc)

  reader_words : (f : ReaderState) (s : ReaderStep) → reader_waits f (answer_of layout ls broken code mark ws (reader_op f s)) s ≡ true → ◌≡◌ {A = List ℕ} (words_left layout ws (reader_op f s)) ws
  reader_words f reader_step.LoadFlushed e = refl
  reader_words f reader_step.TakeDevice e = held_device (eqb (slice_index ws device_at) 0) e
  reader_words f _ e = absurd (cc)

  closer_words : (t : CloserState) (s : CloserStep) → closer_waits t (answer_of layout ls broken code mark ws (closer_op t s)) s ≡ true → (◌≡◌ {A = List ℕ} (words_left layout ws (closer_op t s)) ws) ⊎ ((s ≡ closer_step.Advance advance_step.FreeTail) × (t.advance.place ≡ t.advance.tail))
  closer_words t (closer_step.Advance v) e = ⊎_map (λ same. same) (λ freed. (ap closer_step.Advance freed.0, freed.1))
      (advance_words link_buffer.Closed t.advance v (subst (λ a. stays_put t.advance (old_of a) v ≡ true) (told link_buffer.Closed t.advance v) e))
  closer_words t _ e = absurd (cc)

  cleaner_words : (v : CleanerState) (s : CleanerStep) → cleaner_waits v (answer_of layout ls broken code mark ws (cleaner_op v s)) s ≡ true → (◌≡◌ {A = List ℕ} (words_left layout ws (cleaner_op v s)) ws) ⊎ (s ≡ cleaner_step.ReleaseSkipped)
  cleaner_words v cleaner_step.LoadOldest e = inl refl
  cleaner_words v cleaner_step.TakeLatch e = inl (by (eqb (slice_index ws (index layout (word.Latch v.page))) 0) e)
    where
      by : (b : Bool) → cond b false (finds_none v) ≡ true → ◌≡◌ {A = List ℕ} (cond b (slice_set ws (index layout (word.Latch v.page)) 1) ws) ws
      by true e = absurd (cc)
      by false e = refl
  cleaner_words v cleaner_step.ReleaseSkipped e = inr refl
  cleaner_words v cleaner_step.RemoveFromList e = inl (held_list ws (lists_at + first_of_batch v % FLUSH_LISTS) (eqb (slice_index ws (lists_at + first_of_batch v % FLUSH_LISTS)) 0) e)
  cleaner_words v _ e = absurd (cc)

  checkpointer_words : (t : CheckpointerState) (s : CheckpointerStep) → checkpointer_waits t (answer_of layout ls broken code mark ws (checkpointer_op t s)) s ≡ true → ◌≡◌ {A = List ℕ} (words_left layout ws (checkpointer_op t s)) ws
  checkpointer_words t checkpointer_step.ReadList e = by (eqb (slice_index ws (lists_at + t.list)) 0) e
    where
      by : (b : Bool) → opposite (has_taken (cond b (answer.Taken (oldest_end (ls t.list))) answer.Held)) ≡ true → ◌≡◌ {A = List ℕ} (cond b (slice_set ws (lists_at + t.list) 1) ws) ws
      by true e = absurd (cc)
      by false e = refl
  checkpointer_words t checkpointer_step.LoadFlushed e = refl
  checkpointer_words t checkpointer_step.TakeDevice e = held_device (eqb (slice_index ws device_at) 0) e
  checkpointer_words t _ e = absurd (cc)

  pub wait_words : (a : Actor) → waits a (answer_of layout ls broken code mark ws (own_op a)) ≡ true → (◌≡◌ {A = List ℕ} (words_left layout ws (own_op a)) ws) ⊎ IsFreeing a
  wait_words (actor.User u) e = user_words u u.step e
  wait_words (actor.Writer s) e = writer_words s s.step e
  wait_words (actor.Flusher f) e = inl (flusher_words f f.step e)
  wait_words (actor.Reader f) e = inl (reader_words f f.step e)
  wait_words (actor.Closer t) e = closer_words t t.step e
  wait_words (actor.Cleaner v) e = cleaner_words v v.step e
  wait_words (actor.Checkpointer t) e = inl (checkpointer_words t t.step e)
