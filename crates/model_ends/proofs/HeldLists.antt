-- A flush list whose turn word isn't 0 is in the hand of an actor: each turn keeps that.
use Rattle.std.proofs.Common.{Bool, List, None, Option, Some, [], ap, arith, cond, eqb, false, get_or-set_other, inl, inr, refl, set, subst, suc, sym, true, zero, ℕ, ⊎_elim, ◌%◌, ◌+◌, ◌<◌, ◌∙◌, ◌∷◌, ◌≡◌, ◌⊎◌}
use Rattle.std.specs.Prelude.{slice_index, slice_set}
use lib.ListN.{get_elem?}
use mathlib.Core.Option.{some, some-injective}
use native.Mathlib.Decide.{ℕ_discrete}
use Rattle.model_core.proofs.Hands.{Handles, handles, stays_free}
use Rattle.model_core.proofs.Lists.{at_set, set_at, set_else}
use Rattle.model_core.proofs.TurnWords.{IsOffTurns, IsPlain, next_off}
use Rattle.model_core.specs.{Actor, checkpointer_op, CheckpointerState, cleaner_op, CleanerState, flusher_op, FlusherState, Listed, next, read, reader_op, ReaderState, shared_answer, shared_left, SharedWords, took, user_op, UserState, writer_op, WriterState, wrote, checkpointer_hand, cleaner_hand, flusher_hand, hand, IsFreeToCheck, reader_hand, user_hand, writer_hand}
use Rattle.model_core.specs.declared.limits.TheConstants.{FLUSH_LISTS}
use Rattle.model_core.specs.declared.ops.Answer.{Answer}
use Rattle.model_core.specs.declared.ops.Op.{Op}
use Rattle.model_core.specs.declared.steps.CheckpointerStep.{CheckpointerStep}
use Rattle.model_core.specs.declared.steps.CleanerStep.{CleanerStep}
use Rattle.model_core.specs.declared.steps.FlusherStep.{FlusherStep}
use Rattle.model_core.specs.declared.steps.ReaderStep.{ReaderStep}
use Rattle.model_core.specs.declared.steps.UserStep.{UserStep}
use Rattle.model_core.specs.declared.steps.WriterStep.{WriterStep}
use Rattle.model_core.specs.declared.words.Word.{Word}
use Rattle.model_running.proofs.SlotHolders.{same_number}
use Rattle.model_core.specs.States as actor
use Rattle.model_core.specs.declared.ops.Answer.TheVariants as answer
use Rattle.model_core.specs.declared.ops.Op.TheVariants as op
use Rattle.model_core.specs.declared.steps.CheckpointerStep.TheVariants as checkpointer_step
use Rattle.model_core.specs.declared.steps.CleanerStep.TheVariants as cleaner_step
use Rattle.model_core.specs.declared.steps.FlusherStep.TheVariants as flusher_step
use Rattle.model_core.specs.declared.steps.ReaderStep.TheVariants as reader_step
use Rattle.model_core.specs.declared.steps.UserStep.TheVariants as user_step
use Rattle.model_core.specs.declared.steps.WriterStep.TheVariants as writer_step
use Rattle.model_core.specs.declared.words.Word.TheVariants as word

-- an actor holds the slot
abbrev pub HasHand : List Actor → ℕ → Type 0
HasHand actors k = (seat : ℕ) × (a : Actor) × (get_elem? actors seat ≡ some a) × (hand a ≡ Some k)

-- who checks holds nothing; and slot suc i, where the turn word of list i isn't 0, is in the hand of an actor
pub record ListsAreInHand (m : SharedWords) (actors : List Actor) : Type 0 where
  pub free : (seat : ℕ) (a : Actor) → get_elem? actors seat ≡ some a → IsFreeToCheck a
  pub held : (i : ℕ) → 0 < slice_index m.lists i → HasHand actors (suc i)

-- AN ACTOR THAT HAS ENDED HOLDS NO SLOT
resting : (b : Bool) (o : Op) → cond b (op.Load word.Failed) o ≡ op.Rest → o ≡ op.Rest
resting true o e = absurd (cc)
resting false o e = e

user_rests : (u : UserState) (f : UserStep) → user_op u f ≡ op.Rest → user_hand u f ≡ None
user_rests u user_step.StoreOldest e = absurd (cc)
user_rests u user_step.GiveList e = absurd (cc)
user_rests u _ e = refl

writer_rests : (s : WriterState) (f : WriterStep) → writer_op s f ≡ op.Rest → writer_hand f ≡ None
writer_rests s writer_step.GiveBroken e = absurd (cc)
writer_rests s writer_step.WriteTo e = absurd (cc)
writer_rests s writer_step.StoreWrite e = absurd (cc)
writer_rests s writer_step.GiveDevice e = absurd (cc)
writer_rests s writer_step.StoreFailed e = absurd (cc)
writer_rests s writer_step.GiveFailed e = absurd (cc)
writer_rests s _ e = refl

flusher_rests : (t : FlusherState) (f : FlusherStep) → flusher_op t f ≡ op.Rest → flusher_hand f ≡ None
flusher_rests t flusher_step.GiveBroken e = absurd (cc)
flusher_rests t flusher_step.Sync e = absurd (cc)
flusher_rests t flusher_step.StoreFlushed e = absurd (cc)
flusher_rests t flusher_step.GiveDevice e = absurd (cc)
flusher_rests t flusher_step.StoreFailed e = absurd (cc)
flusher_rests t flusher_step.GiveFailed e = absurd (cc)
flusher_rests t _ e = refl

reader_rests : (t : ReaderState) (f : ReaderStep) → reader_op t f ≡ op.Rest → reader_hand f ≡ None
reader_rests t reader_step.GiveBroken e = absurd (cc)
reader_rests t reader_step.ReadBlock e = absurd (cc)
reader_rests t reader_step.GiveDevice e = absurd (cc)
reader_rests t reader_step.StoreFailed e = absurd (cc)
reader_rests t reader_step.GiveFailed e = absurd (cc)
reader_rests t _ e = refl

cleaner_rests : (v : CleanerState) (f : CleanerStep) → cleaner_op v f ≡ op.Rest → cleaner_hand v f ≡ None
cleaner_rests v cleaner_step.ClearOldest e = absurd (cc)
cleaner_rests v cleaner_step.GiveList e = absurd (cc)
cleaner_rests v _ e = refl

checkpointer_rests : (t : CheckpointerState) (f : CheckpointerStep) → checkpointer_op t f ≡ op.Rest → checkpointer_hand t f ≡ None
checkpointer_rests t checkpointer_step.GiveList e = absurd (cc)
checkpointer_rests t checkpointer_step.GiveBroken e = absurd (cc)
checkpointer_rests t checkpointer_step.Checkpoint e = absurd (cc)
checkpointer_rests t checkpointer_step.StoreCheckpoint e = absurd (cc)
checkpointer_rests t checkpointer_step.GiveDevice e = absurd (cc)
checkpointer_rests t checkpointer_step.StoreFailed e = absurd (cc)
checkpointer_rests t checkpointer_step.GiveFailed e = absurd (cc)
checkpointer_rests t _ e = refl

rests : (a : Actor) → next a ≡ op.Rest → hand a ≡ None
rests (actor.User u) e = user_rests u u.step (resting u.checks (user_op u u.step) e)
rests (actor.Writer s) e = writer_rests s s.step (resting s.checks (writer_op s s.step) e)
rests (actor.Flusher t) e = flusher_rests t t.step (resting t.checks (flusher_op t t.step) e)
rests (actor.Reader t) e = reader_rests t t.step (resting t.checks (reader_op t t.step) e)
rests (actor.Closer t) e = refl
rests (actor.Cleaner v) e = cleaner_rests v v.step (resting v.checks (cleaner_op v v.step) e)
rests (actor.Checkpointer t) e = checkpointer_rests t t.step (resting t.checks (checkpointer_op t t.step) e)

-- WHAT AN OP LEAVES OF THE TURN WORDS OF LISTS
cleared : (l : List ℕ) (j : ℕ) → slice_index (slice_set l j 0) j ≡ 0
cleared [] j = refl
cleared (x ∷ xs) zero = refl
cleared (x ∷ xs) (suc j) = cleared xs j

none_some : (k : ℕ) (h : Option ℕ) → h ≡ None → h ≡ Some k → ⊥
none_some k h e f = let z : None ≡ Some k = sym e ∙ f in absurd (cc)

plain_lists : (m : SharedWords) (w : Word) (x : ℕ) → IsPlain w → (wrote m w x).lists ≡ m.lists
plain_lists m word.Device x plain = absurd plain
plain_lists m (word.List i) x plain = absurd plain
plain_lists m word.Sn x plain = refl
plain_lists m _ x plain = refl

module _ (m : SharedWords) (ls : ℕ → List Listed) (broken : Bool) (code mark : ℕ) (before : Option ℕ) (behind : Answer → Option ℕ) (i : ℕ) where
  -- the actor holds it then; or its turn word was so before, and the actor holds it still if it did
  abbrev Holding : SharedWords → Answer → Type 0
  Holding after r = 0 < slice_index after.lists i → (behind r ≡ Some (suc i)) ⊎ ((0 < slice_index m.lists i) × (before ≡ Some (suc i) → behind r ≡ Some (suc i)))

  abbrev Held : Op → Type 0
  Held o = Holding (shared_left m o) (shared_answer ls broken code mark m o)

  -- no turn word of a list changes
  as_was : (after : SharedWords) (r : Answer) → after.lists ≡ m.lists → (before ≡ Some (suc i) → behind r ≡ Some (suc i)) → Holding after r
  as_was after r same keeps up = inr ((let z = ap (λ (l : List ℕ). slice_index l i) same in omega arith), keeps)

  plain : (after : SharedWords) (n : ℕ) → after.lists ≡ m.lists → ((k : ℕ) → behind (answer.Old k) ≡ before) → Holding after (answer.Old n)
  plain after n same keeps = as_was after (answer.Old n) same (λ e. keeps n ∙ e)

  no_hand : (after : SharedWords) (r : Answer) → after.lists ≡ m.lists → before ≡ None → Holding after r
  no_hand after r same none = as_was after r same (λ e. absurd (none_some (suc i) before none e))

  device : (after : SharedWords) (r : Answer) → after.lists ≡ m.lists → before ≡ Some 0 → Holding after r
  device after r same is = as_was after r same (λ e. let z = same_number 0 (suc i) (sym is ∙ e) in absurd (omega arith))

  swapped : (b : Bool) (w : Word) (x : ℕ) → IsPlain w → (cond b (wrote m w x) m).lists ≡ m.lists
  swapped true w x off = plain_lists m w x off
  swapped false w x off = refl

  takes_device : (b : Bool) → (cond b (record m { device = 1 }) m).lists ≡ m.lists
  takes_device true = refl
  takes_device false = refl

  -- a list is taken
  takes : (j : ℕ) (n : Option ℕ) → before ≡ None → ((k : Option ℕ) → behind (answer.Taken k) ≡ Some (suc j)) → (b : Bool) → Holding (cond b (record m { lists = slice_set m.lists j 1 }) m) (cond b (answer.Taken n) answer.Held)
  takes j n none taken false up = no_hand m answer.Held refl none up
  takes j n none taken true up = elim (ℕ_discrete i j) [
    | yes e ↦ inl (taken n ∙ ap (λ (k : ℕ). Some (suc k)) (sym e))
    | no ne ↦ inr ((let z = get_or-set_other m.lists j i 1 0 ne in omega arith), λ e. absurd (none_some (suc i) before none e))
  ]

  -- and given back
  gives : (j : ℕ) → before ≡ Some (suc j) → Holding (record m { lists = slice_set m.lists j 0 }) (answer.Taken None)
  gives j is up = elim (ℕ_discrete i j) [
    | yes e ↦ (let z = cleared m.lists j in let y = ap (λ (k : ℕ). slice_index (slice_set m.lists j 0) k) e in absurd (omega arith))
    | no ne ↦ inr ((let z = get_or-set_other m.lists j i 0 0 ne in omega arith), λ e. absurd (ne (let z = same_number (suc j) (suc i) (sym is ∙ e) in omega arith)))
  ]

  held_after : (o : Op) → IsOffTurns o → (o ≡ op.Rest → before ≡ None) → Handles o before behind → Held o
  held_after (op.Load w) off rest h = plain m (read m w) refl h
  held_after (op.Store w x) off rest h = plain (wrote m w x) (read m w) (plain_lists m w x off) h
  held_after (op.Add w x) off rest h = plain (wrote m w (read m w + x)) (read m w) (plain_lists m w (read m w + x) off) h
  held_after (op.Swap w x y) off rest h = plain (cond (eqb (read m w) x) (wrote m w y) m) (read m w) (swapped (eqb (read m w) x) w y off) h
  held_after op.TakeDevice off rest h = no_hand (cond (eqb m.device 0) (record m { device = 1 }) m) (shared_answer ls broken code mark m op.TakeDevice) (takes_device (eqb m.device 0)) h.0
  held_after op.GiveDevice off rest h = device (record m { device = 0 }) (answer.Taken None) refl h.0
  held_after (op.TakeAdd p x) off rest h = takes (p % FLUSH_LISTS) None h.0 h.1 (eqb (slice_index m.lists (p % FLUSH_LISTS)) 0)
  held_after (op.TakeRemove p) off rest h = takes (p % FLUSH_LISTS) None h.0 h.1 (eqb (slice_index m.lists (p % FLUSH_LISTS)) 0)
  held_after (op.TakeOldest j) off rest h = takes j _ h.0 h.1 (eqb (slice_index m.lists j) 0)
  held_after (op.GiveList j) off rest h = gives j h.0
  held_after (op.WriteTo t) off rest h = device m (shared_answer ls broken code mark m (op.WriteTo t)) refl h.0
  held_after op.Sync off rest h = device m (shared_answer ls broken code mark m op.Sync) refl h.0
  held_after (op.Checkpoint x) off rest h = device m (shared_answer ls broken code mark m (op.Checkpoint x)) refl h.0
  held_after (op.ReadBlock b) off rest h = device m (shared_answer ls broken code mark m (op.ReadBlock b)) refl h.0
  held_after op.WriteBatch off rest h = no_hand m (shared_answer ls broken code mark m op.WriteBatch) refl h.0
  held_after (op.Append x) off rest h = no_hand m (shared_answer ls broken code mark m (op.Append x)) refl h.0
  held_after op.Rest off rest h = no_hand m answer.Rested refl (rest refl)

-- EACH TURN KEEPS IT
pub lists_kept : (m : SharedWords) (actors : List Actor) (ls : ℕ → List Listed) (broken : Bool) (code mark : ℕ) → ListsAreInHand m actors → (seat : ℕ) (a : Actor) → get_elem? actors seat ≡ some a
    → ListsAreInHand (shared_left m (next a)) (set actors seat (took a (shared_answer ls broken code mark m (next a))))
lists_kept m actors ls broken code mark H seat a at = record {
  free = λ j x is. ⊎_elim (λ z. subst IsFreeToCheck z.1 (stays_free a said)) (λ z. H.free j x z.1) (at_set actors seat j b x is);
  held = λ i up. ⊎_elim (λ mine. (seat, b, set_at actors seat a b at, mine)) (λ z. still i z.1 (H.held i z.0))
      (held_after m ls broken code mark (hand a) (λ r. hand (took a r)) i (next a) (next_off a) (rests a) (handles a (H.free seat a at)) up);
}
  where
    said : Answer
    said = shared_answer ls broken code mark m (next a)

    b : Actor
    b = took a (shared_answer ls broken code mark m (next a))

    still : (i : ℕ) → (hand a ≡ Some (suc i) → hand (took a (shared_answer ls broken code mark m (next a))) ≡ Some (suc i)) → HasHand actors (suc i) → HasHand (set actors seat (took a (shared_answer ls broken code mark m (next a)))) (suc i)
    still i keeps w = elim (ℕ_discrete w.0 seat) [
      | yes e ↦ (
          let here : get_elem? actors seat ≡ some w.1 = subst (λ (k : ℕ). get_elem? actors k ≡ some w.1) e w.2 in
          let same : ◌≡◌ {A = Actor} w.1 a = some-injective w.1 a (sym here ∙ at) in
          (seat, took a (shared_answer ls broken code mark m (next a)), set_at actors seat a (took a (shared_answer ls broken code mark m (next a))) at, keeps (sym (ap hand same) ∙ w.3)))
      | no n ↦ (w.0, w.1, set_else actors seat w.0 (took a (shared_answer ls broken code mark m (next a))) n ∙ w.2, w.3)
    ]
