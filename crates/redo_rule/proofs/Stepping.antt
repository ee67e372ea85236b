-- What a step asks of the table and leaves of the seat, for each function of `steps`.
use Rattle.std.proofs.Common.{Bool, List, None, Option, Some, [], ap, arith, false, refl, subst, suc, sym, true, zero, ℕ, ◌%◌, ◌+◌, ◌<◌, ◌==◌, ◌^◌, ◌∙◌, ◌∷◌, ◌≡◌}
use prog.Atomic.{either}
use Rattle.atomic_table.specs.Seated.{TableId}
use Rattle.atomic_table.specs.Table.{Allows, Me, rest}
use Rattle.atomic_table.specs.declared.shared.Seat.{Seat}
use Rattle.model_core.proofs.WordNumbers.{index_below}
use Rattle.model_core.specs.{filled, Filling, Fills, Given, index, IsWord, next, OnWord, OpWords, took, AnswerFits, hand, IsFreeToCheck}
use Rattle.model_core.specs.States as model
use Rattle.model_core.specs.declared.ops.Answer.{Answer}
use Rattle.model_core.specs.declared.ops.Answer.TheVariants as answer
use Rattle.model_core.specs.declared.ops.Op.{Op}
use Rattle.model_core.specs.declared.ops.Op.TheVariants as op
use Rattle.model_core.specs.declared.ops.Step.{Step}
use Rattle.model_core.specs.declared.words.Word.{Word}
use Rattle.redo_archiver.specs.{append_answer}
use Rattle.redo_disk.specs.{Call, Seen}
use Rattle.redo_disk.specs.declared.error.DevError.{DevError}
use Rattle.redo_flushlist.specs.{Listing}
use Rattle.redo_drive.specs.{filling_of, HasTaken, MarkFits, view_of}
use Rattle.redo_drive.specs.declared.actor.Actor.{Actor}
use Rattle.redo_rule.proofs.Allowed.{allows_add, allows_give, allows_give_list, allows_load, allows_store, allows_swap, allows_take, word_hand}
use Rattle.redo_rule.proofs.AllowedLists.{allows_take_add, allows_take_oldest, allows_take_remove}
use Rattle.redo_rule.proofs.AllowedAppends.{allows_appended, append_hand}
use Rattle.redo_rule.proofs.Filled.{fills_block, handles_filled, IsNoGive, IsPlainOp, keeps_listed}
use Rattle.redo_rule.proofs.Took.{may_take, Steps, steps, took_given, took_plain, TookWith}
use Rattle.model_core.proofs.Hands.{Handles}
use Rattle.redo_rule.specs.Ruled.{Ruled}
use Rattle.redo_rule.specs.declared.law.About.{About}
use Rattle.redo_rule.specs.Mine.{Mine}
use Rattle.redo_rule.specs.Readers.{HasGivenBack}
use Rattle.redo_rule.specs.Ops.{HasPlayedOp}
use Rattle.redo_rule.specs.Seating.{Appends, IsSeatOf}
use Rattle.redo_rule.specs.Plays.{appended, Carries, gave, KeepsTexts, list_behind, list_said, ListFits, no_filling, saw, seized, seized_list, Stepped, TakesList, taking, view_behind}
use Rattle.redo_rule.specs.declared.law.Slot.{Slot}
use Rattle.redo_rule.specs.declared.law.Slot.TheVariants as slot
use Rattle.redo_rule.specs.declared.law.View.{View}

-- what is carried depends on what is held and carried alone
pub carries_same : {L D : Type 0} (h : Option ℕ) (m n : Me (Slot L D) (View L D)) → m.1 ≡ n.1 → m.0.held ≡ n.0.held → Carries h m → Carries h n
carries_same None m n e f c = sym e ∙ c
carries_same (Some zero) m n e f c = (c.0, sym e ∙ c.1, sym f ∙ c.2)
carries_same (Some (suc i)) m n e f c = (c.0, sym e ∙ c.1, sym f ∙ c.2)

module _ {L D : Type 0} {table : TableId} {seat : Seat (Slot L D) (View L D)} {a : model.Actor}
    (mine : Mine table seat a) where
  -- the actor, into which nothing is put
  abbrev plain : model.Actor
  plain = filled a no_filling

  -- the word that it asks for is one of the table's
  pub word_below : (o : Op) (w : Word) → next a ≡ o → (OpWords seat.me.0.layout o → IsWord seat.me.0.layout w) → index seat.me.0.layout w < table.words
  word_below o w is names = subst (λ (n : ℕ). index seat.me.0.layout w < n) (sym mine.words) (index_below seat.me.0.layout w (names (subst (OpWords seat.me.0.layout) is mine.may.there)))

  asks : (o : Op) → next a ≡ o → next mine.who.actor ≡ o
  asks o e = ap next mine.state ∙ e

  -- the list that it takes or gives is one of four
  pub give_below : (i : ℕ) → next a ≡ op.GiveList i → i < 4
  give_below i e = subst (OpWords seat.me.0.layout) e mine.may.there

  pub oldest_below : (i : ℕ) → next a ≡ op.TakeOldest i → i < 4
  oldest_below i e = subst (OpWords seat.me.0.layout) e mine.may.there

  -- what its actor's Op does with what it holds
  pub goes : (o : Op) → next a ≡ o → (f : Filling) → Handles o (hand a) (λ r. hand (took (filled a f) r))
  goes o e f = subst (λ (p : Op). Handles p (hand a) (λ r. hand (took (filled a f) r))) e (handles_filled a f
      mine.may.free)

  -- whoever gets the log part holds it
  pub taking_holds : next a ≡ op.TakeDevice → (b : Bool) → hand (took plain (taking b)) ≡ Some 0
  taking_holds is true = (goes op.TakeDevice is no_filling).2
  taking_holds is false = (goes op.TakeDevice is no_filling).1 None

  -- what is told of a list, by the Op
  pub takes : (o : Op) (k : ℕ) → next a ≡ o → TakesList o k → TakesList (next mine.who.actor) k
  takes o k e t = subst (λ (p : Op). TakesList p k) (sym (asks o e)) t

  pub listed : (o : Op) → next a ≡ o → (log_seen : L → Seen) (data_seen : D → Seen) (k : ℕ) (m' : Me (Slot L D) (View L D))
      → ((l : Listing) × ListFits (next mine.who.actor) l × Stepped log_seen data_seen mine.who no_filling
      (answer.Taken (list_said (next mine.who.actor) l)) (Some (slot.Pages (list_behind (next mine.who.actor) l)))
      seat.me.0.data_part ((k, slot.Pages l) ∷ seat.me.1) seat.me m')
      → (l : Listing) × ListFits o l × Stepped log_seen data_seen mine.who no_filling (answer.Taken (list_said o l))
      (Some (slot.Pages (list_behind o l))) seat.me.0.data_part ((k, slot.Pages l) ∷ seat.me.1) seat.me m'
  listed o e log_seen data_seen k m' t = subst (λ (p : Op). (l : Listing) × ListFits p l × Stepped log_seen data_seen
      mine.who no_filling (answer.Taken (list_said p l)) (Some (slot.Pages (list_behind p l))) seat.me.0.data_part
      ((k, slot.Pages l) ∷ seat.me.1) seat.me m') (asks o e) t

  -- a step on a word leaves what is carried
  pub word_carries : (o : Op) → next a ≡ o → OnWord o → (n : ℕ)
      → Carries (hand (took plain (answer.Old n)))
      (view_behind seat.me.0 mine.who no_filling (answer.Old n) seat.me.0.held seat.me.0.data_part, seat.me.1)
  word_carries o e on n =
      let me' : Me (Slot L D) (View L D) = (
        view_behind seat.me.0 mine.who no_filling (answer.Old n) seat.me.0.held seat.me.0.data_part,
        seat.me.1,
      ) in
      subst (λ (h : Option ℕ). Carries h me')
      (sym (word_hand o on (hand a) (λ r. hand (took plain r)) (goes o e no_filling) n))
      (carries_same (hand a) seat.me me' refl refl mine.carries)

  -- nor does an append change it
  pub append_carries : (x : ℕ) → next a ≡ op.Append x → (met : Option DevError)
      → Carries (hand (took plain (append_answer met)))
      (view_behind seat.me.0 mine.who no_filling (append_answer met) seat.me.0.held seat.me.0.data_part, seat.me.1)
  append_carries x e met =
      let me' : Me (Slot L D) (View L D) = (
        view_behind seat.me.0 mine.who no_filling (append_answer met) seat.me.0.held seat.me.0.data_part,
        seat.me.1,
      ) in
      subst (λ (h : Option ℕ). Carries h me')
      (sym (append_hand (hand a) (λ r. hand (took plain r)) x (goes (op.Append x) e no_filling) met))
      (carries_same (hand a) seat.me me' refl refl mine.carries)

  -- the slot that it carries
  pub carried_log : (o : Op) → next a ≡ o → hand a ≡ Some 0 → Carries (Some 0) seat.me
  carried_log o e h = subst (λ (z : Option ℕ). Carries z seat.me) h mine.carries

  -- nothing is carried after a giving
  gave_carries : (k : ℕ) (y : Slot L D) (f : Filling) → hand (took (filled a f) (answer.Taken None)) ≡ None
      → seat.me.1 ≡ (k, y) ∷ [] → Carries (hand (took (filled a f) (answer.Taken None)))
      (view_behind seat.me.0 mine.who f (answer.Taken None) None seat.me.0.data_part, rest seat.me.1)
  gave_carries k y f none carried = subst (λ (z : Option ℕ). Carries z
      (view_behind seat.me.0 mine.who f (answer.Taken None) None seat.me.0.data_part, rest seat.me.1)) (sym none)
      (ap rest carried)

  pub gave_device_carries : next a ≡ op.GiveDevice → (f : Filling)
      → Carries (hand (took (filled a f) (answer.Taken None)))
      (view_behind seat.me.0 mine.who f (answer.Taken None) None seat.me.0.data_part, rest seat.me.1)
  gave_device_carries is f =
      let h = goes op.GiveDevice is f in
      let c = carried_log op.GiveDevice is h.0 in
      gave_carries 0 (slot.Log c.0) f h.1 c.1

  pub gave_list_carries : (i : ℕ) → next a ≡ op.GiveList i → (f : Filling)
      → Carries (hand (took (filled a f) (answer.Taken None)))
      (view_behind seat.me.0 mine.who f (answer.Taken None) None seat.me.0.data_part, rest seat.me.1)
  gave_list_carries i is f =
      let h = goes (op.GiveList i) is f in
      let c : Carries (Some (suc i)) seat.me = subst (λ (z : Option ℕ). Carries z seat.me) h.0 mine.carries in
      gave_carries (suc i) (slot.Pages c.0) f h.1 c.1

  -- nor where a turn word was held
  pub held_carries : hand a ≡ None → hand (took plain answer.Held) ≡ None
      → Carries (hand (took plain answer.Held)) (
        view_behind seat.me.0 mine.who no_filling answer.Held seat.me.0.held
            seat.me.0.data_part,
        seat.me.1,
      )
  held_carries before after = subst (λ (z : Option ℕ). Carries z
      (view_behind seat.me.0 mine.who no_filling answer.Held seat.me.0.held seat.me.0.data_part, seat.me.1)) (sym after)
      (subst (λ (z : Option ℕ). Carries z seat.me) before mine.carries)

  module _ (log_seen : L → Seen) (log_gives : L → Call → L → Type 0) (data_seen : D → Seen) (data_gives : D → Call → D → Type 0) (about : About L D) where
    abbrev pub Asks : ℕ → (ℕ → ℕ) → (ℕ → Me (Slot L D) (View L D) → Type 0) → Type 0
    Asks i f then = (seat.table_id ≡ table) × (i < table.words) × Allows (Ruled log_seen log_gives data_seen data_gives about) table.slots seat.id seat.me i f then

    asks_word : (o : Op) (w : Word) (i : ℕ) (f : ℕ → ℕ) → next a ≡ o → (OpWords seat.me.0.layout o → IsWord seat.me.0.layout w) → i ≡ index seat.me.0.layout w → Allows (Ruled log_seen log_gives data_seen data_gives about) table.slots seat.id seat.me (index seat.me.0.layout w) f (saw log_seen data_seen seat.me) → Asks i f (saw log_seen data_seen seat.me)
    asks_word o w i f is names e allows = (mine.of, (let b = word_below o w is names in omega arith), subst (λ (k : ℕ). Allows (Ruled log_seen log_gives data_seen data_gives about) table.slots seat.id seat.me k f (saw log_seen data_seen seat.me)) (sym e) allows)

    pub load_ok : (w : Word) (i : ℕ) → next a ≡ op.Load w → i ≡ index seat.me.0.layout w → Asks i (λ n. n) (saw log_seen data_seen seat.me)
    load_ok w i is e = asks_word (op.Load w) w i (λ n. n) is (λ z. z) e (allows_load log_seen log_gives data_seen data_gives about table.slots seat.id seat.me mine.who mine.one mine.plain w (asks (op.Load w) is))

    pub store_ok : (w : Word) (x i : ℕ) → next a ≡ op.Store w x → i ≡ index seat.me.0.layout w → Asks i (λ _. x) (saw log_seen data_seen seat.me)
    store_ok w x i is e = asks_word (op.Store w x) w i (λ _. x) is (λ z. z) e (allows_store log_seen log_gives data_seen data_gives about table.slots seat.id seat.me mine.who mine.one mine.plain w x (asks (op.Store w x) is))

    pub add_ok : (w : Word) (x i : ℕ) → next a ≡ op.Add w x → i ≡ index seat.me.0.layout w → Asks i (λ n. (n + x) % 2 ^ 64) (saw log_seen data_seen seat.me)
    add_ok w x i is e = asks_word (op.Add w x) w i (λ n. (n + x) % 2 ^ 64) is (λ z. z) e (allows_add log_seen log_gives data_seen data_gives about table.slots seat.id seat.me mine.who mine.one mine.plain w x (asks (op.Add w x) is))

    pub swap_ok : (w : Word) (x y i : ℕ) → next a ≡ op.Swap w x y → i ≡ index seat.me.0.layout w → Asks i (λ n. either (n == x) y n) (saw log_seen data_seen seat.me)
    swap_ok w x y i is e = asks_word (op.Swap w x y) w i (λ n. either (n == x) y n) is (λ z. z) e (allows_swap log_seen log_gives data_seen data_gives about table.slots seat.id seat.me mine.who mine.one mine.plain w x y (asks (op.Swap w x y) is))

    pub append_ok : (met : Option DevError) → Appends a → Asks 0 (λ n. n) (appended log_seen data_seen met seat.me)
    append_ok met t = (
      mine.of,
      (let w = mine.words in omega arith),
      allows_appended log_seen log_gives data_seen data_gives about table.slots seat.id seat.me mine.who mine.one mine.plain 0
          t.0 met (asks (op.Append t.0) t.1),
    )

    pub give_ok : next a ≡ op.GiveDevice → (f : Filling) → Fills a f → KeepsTexts a f → Asks 7 (λ _. 0) (gave log_seen data_seen seat.me)
    give_ok is f fills keeps_f = let c : Carries (Some 0) seat.me = subst (λ (h : Option ℕ). Carries h seat.me) (goes
        op.GiveDevice is f).0 mine.carries in (
          mine.of,
          (let w = mine.words in omega arith),
          allows_give log_seen log_gives data_seen data_gives about
              table.slots seat.id seat.me mine.who mine.one mine.plain (slot.Log c.0) f (subst (λ (z : model.Actor). Fills z f)
              (sym mine.state) fills) (subst (λ (z : model.Actor). KeepsTexts z f) (sym mine.state) keeps_f) (asks op.GiveDevice is) (subst IsFreeToCheck (sym mine.state) mine.may.free) c.2
              c.1,
        )

    pub give_list_ok : (i k : ℕ) → next a ≡ op.GiveList i → k ≡ 8 + i → i < 4 → Asks k (λ _. 0) (gave log_seen data_seen seat.me)
    give_list_ok i k is e below = let c : Carries (Some (suc i)) seat.me = subst (λ (h : Option ℕ). Carries h seat.me)
        (goes (op.GiveList i) is no_filling).0 mine.carries in (
          mine.of,
          (let w = mine.words in omega arith),
          subst (λ (n : ℕ). Allows (Ruled log_seen log_gives data_seen data_gives about) table.slots seat.id seat.me n (λ _. 0) (gave log_seen data_seen seat.me)) (sym e)
              (allows_give_list log_seen log_gives data_seen data_gives about table.slots seat.id seat.me mine.who mine.one mine.plain i (slot.Pages c.0) (asks (op.GiveList i) is) below (subst IsFreeToCheck (sym mine.state) mine.may.free) c.2 c.1),
        )

    pub take_add_ok : (p y k : ℕ) → next a ≡ op.TakeAdd p y → k ≡ 8 + p % 4 → Asks k (λ n. either (n == 0) 1 n) (seized_list log_seen data_seen seat.me)
    take_add_ok p y k is e = (
      mine.of,
      (let w = mine.words in omega arith),
      subst (λ (n : ℕ). Allows (Ruled log_seen log_gives data_seen data_gives about) table.slots seat.id seat.me n (λ n. either (n == 0) 1 n) (seized_list log_seen data_seen seat.me)) (sym e)
          (allows_take_add log_seen log_gives data_seen data_gives about table.slots seat.id seat.me mine.who mine.one mine.plain p y (asks (op.TakeAdd p y) is) (subst IsFreeToCheck (sym mine.state) mine.may.free)),
    )

    pub take_remove_ok : (p k : ℕ) → next a ≡ op.TakeRemove p → k ≡ 8 + p % 4 → Asks k (λ n. either (n == 0) 1 n) (seized_list log_seen data_seen seat.me)
    take_remove_ok p k is e = (
      mine.of,
      (let w = mine.words in omega arith),
      subst (λ (n : ℕ). Allows (Ruled log_seen log_gives data_seen data_gives about) table.slots seat.id seat.me n (λ n. either (n == 0) 1 n) (seized_list log_seen data_seen seat.me)) (sym e)
          (allows_take_remove log_seen log_gives data_seen data_gives about table.slots seat.id seat.me mine.who mine.one mine.plain p (asks (op.TakeRemove p) is) (subst IsFreeToCheck (sym mine.state) mine.may.free)),
    )

    pub take_oldest_ok : (i k : ℕ) → next a ≡ op.TakeOldest i → k ≡ 8 + i → i < 4 → Asks k (λ n. either (n == 0) 1 n) (seized_list log_seen data_seen seat.me)
    take_oldest_ok i k is e below = (
      mine.of,
      (let w = mine.words in omega arith),
      subst (λ (n : ℕ). Allows (Ruled log_seen log_gives data_seen data_gives about) table.slots seat.id seat.me n (λ n. either (n == 0) 1 n) (seized_list log_seen data_seen seat.me)) (sym e)
          (allows_take_oldest log_seen log_gives data_seen data_gives about table.slots seat.id seat.me mine.who mine.one mine.plain i (asks (op.TakeOldest i) is) below (subst IsFreeToCheck (sym mine.state) mine.may.free)),
    )

    pub take_ok : next a ≡ op.TakeDevice → Asks 7 (λ n. either (n == 0) 1 n) (seized log_seen data_seen seat.me)
    take_ok is = (mine.of, (let w = mine.words in omega arith), allows_take log_seen log_gives data_seen data_gives about table.slots seat.id seat.me mine.who mine.one mine.plain (asks op.TakeDevice is))

-- a turn word of a list is given back: nothing is put into the actor
module _ {L D R : Type 0} {table : TableId} {seat : Seat (Slot L D) (View L D)} (old : Actor R)
    (was : IsSeatOf table seat (view_of old)) (log_seen : L → Seen) (data_seen : D → Seen)
    (after : Seat (Slot L D) (View L D)) where
  gave_list_steps : (i : ℕ) → next (view_of old) ≡ op.GiveList i → (n : ℕ) → gave log_seen data_seen seat.me n after.me
      → Stepped log_seen data_seen was.mine.who no_filling (answer.Taken None) None seat.me.0.data_part (rest seat.me.1)
      seat.me after.me
  gave_list_steps i is n told = told was.mine.who no_filling was.mine.one
      (fills_block was.mine.who.actor no_filling (subst IsFreeToCheck (sym was.mine.state) was.mine.may.free)
      (subst IsNoGive (sym (ap next was.mine.state ∙ is)) tt))
      (keeps_listed was.mine.who.actor no_filling i (ap next was.mine.state ∙ is))

  pub give_list_fits : (i : ℕ) → next (view_of old) ≡ op.GiveList i → (n : ℕ) → gave log_seen data_seen seat.me n
      after.me
      → AnswerFits (view_of old) (answer.Taken None) × MarkFits (view_of old) (answer.Taken None)
  give_list_fits i is n told = may_take log_seen data_seen was.mine.who (view_of old) no_filling
      (answer.Taken None) None
      seat.me.0.data_part (rest seat.me.1) seat.me after.me was.mine.state (gave_list_steps i is n told)

-- WHAT EACH STEP LEAVES of the seat and its actor
module _ {L D R : Type 0} {table : TableId} {seat : Seat (Slot L D) (View L D)} (old : Actor R)
    (was : IsSeatOf table seat (view_of old)) (log_seen : L → Seen) (data_seen : D → Seen)
    (stands : R → List Given → Type 0) (after : Seat (Slot L D) (View L D)) (same : after.table_id ≡ seat.table_id)
    (id : after.id ≡ seat.id) (new : Actor R) (step : Step) where
  step_leaves : (f : Filling) (r : Answer) (held : Option (Slot L D)) (carried : List (ℕ × Slot L D))
      → Stepped log_seen data_seen was.mine.who f r held seat.me.0.data_part carried seat.me after.me
      → Carries (hand (took (filled (view_of old) f) r))
      (view_behind seat.me.0 was.mine.who f r held seat.me.0.data_part, carried)
      → TookWith stands f old r step new
      → Steps log_seen data_seen stands table seat old step after new
  step_leaves f r held carried stepped carries t = steps table log_seen data_seen stands seat was.mine.who old new
      step f r
      held seat.me.0.data_part carried seat.me.1 after.me was.mine.slots was.mine.words was.mine.one was.mine.state
      was.mine.plain stepped t after
      (same ∙ was.mine.of) (ap (λ (m : Me (Slot L D) (View L D)). m.0) stepped.is)
      (subst (Carries (hand (took (filled (view_of old) f) r))) (sym stepped.is) carries) id was refl

  pub word_leaves : (o : Op) → next (view_of old) ≡ o → OnWord o → IsPlainOp o → (n : ℕ)
      → saw log_seen data_seen seat.me n after.me → HasTaken stands old (answer.Old n) step new
      → HasPlayedOp log_seen data_seen stands table seat old step after new
  word_leaves o is on plain n told h = (step_leaves no_filling (answer.Old n) seat.me.0.held seat.me.1
      (told was.mine.who was.mine.one) (word_carries was.mine o is on n)
      (took_plain stands (answer.Old n) step new no_filling old o is plain was.mine.may.free h)).done

  pub held_leaves : (o : Op) → next (view_of old) ≡ o → IsPlainOp o → hand (view_of old) ≡ None
      → hand (took (filled (view_of old) no_filling) answer.Held) ≡ None
      → Stepped log_seen data_seen was.mine.who no_filling answer.Held seat.me.0.held seat.me.0.data_part seat.me.1
      seat.me
      after.me
      → HasTaken stands old answer.Held step new → HasPlayedOp log_seen data_seen stands table seat old step after new
  held_leaves o is plain before behind stepped h = (step_leaves no_filling answer.Held seat.me.0.held seat.me.1 stepped
      (held_carries was.mine before behind)
      (took_plain stands answer.Held step new no_filling old o is plain was.mine.may.free h)).done

  pub append_leaves : (t : Appends (view_of old)) (met : Option DevError) (n : ℕ)
      → appended log_seen data_seen met seat.me n after.me → HasTaken stands old (append_answer met) step new
      → Steps log_seen data_seen stands table seat old step after new
  append_leaves t met n told h = step_leaves no_filling (append_answer met) seat.me.0.held seat.me.1
      (told was.mine.who was.mine.one) (append_carries was.mine t.0 t.1 met)
      (took_plain stands (append_answer met) step new no_filling old (op.Append t.0) t.1 tt was.mine.may.free h)

  pub gave_leaves : next (view_of old) ≡ op.GiveDevice → (n : ℕ) → gave log_seen data_seen seat.me n after.me
      → HasGivenBack stands old step new
      → HasPlayedOp log_seen data_seen stands table seat old step after new
  gave_leaves is n told given =
      let h = given.taken in
      let f : Filling = filling_of (view_of old) h.texts in
      (step_leaves f (answer.Taken None) None (rest seat.me.1)
      (told was.mine.who f was.mine.one (subst (λ (z : model.Actor). Fills z f) (sym was.mine.state) h.fills)
      (subst (λ (z : model.Actor). KeepsTexts z f) (sym was.mine.state) given.texts))
      (gave_device_carries was.mine is f) (took_given stands (answer.Taken None) step new old h)).done

  pub gave_list_leaves : (i : ℕ) → next (view_of old) ≡ op.GiveList i → (n : ℕ)
      → gave log_seen data_seen seat.me n after.me → HasTaken stands old (answer.Taken None) step new
      → HasPlayedOp log_seen data_seen stands table seat old step after new
  gave_list_leaves i is n told h = (step_leaves no_filling (answer.Taken None) None (rest seat.me.1)
      (gave_list_steps old was log_seen data_seen after i is n told) (gave_list_carries was.mine i is no_filling)
      (took_plain stands (answer.Taken None) step new no_filling old (op.GiveList i) is tt was.mine.may.free h)).done
