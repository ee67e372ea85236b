-- What the taking of a slot leaves, once its call is made.
use Rattle.std.proofs.Common.{List, None, Option, Some, [], ap, get_or, is_some, refl, subst, suc, sym, ℕ, ◌%◌, ◌∙◌, ◌∷◌, ◌≡◌}
use Rattle.atomic_table.specs.Lent.{seat_with}
use Rattle.atomic_table.specs.Seated.{TableId}
use Rattle.atomic_table.specs.Table.{Me, rest}
use Rattle.atomic_table.specs.declared.shared.Seat.{Seat}
use Rattle.model_core.specs.{filled, Given, next, took, AnswerFits, hand}
use Rattle.model_core.specs.States as model
use Rattle.model_core.specs.declared.ops.Answer.{Answer}
use Rattle.model_core.specs.declared.ops.Answer.TheVariants as answer
use Rattle.model_core.specs.declared.ops.Op.{Op}
use Rattle.model_core.specs.declared.ops.Op.TheVariants as op
use Rattle.model_core.specs.declared.ops.Step.{Step}
use Rattle.redo_disk.specs.{Seen}
use Rattle.redo_flushlist.specs.{Listing}
use Rattle.redo_drive.specs.{HasTaken, MarkFits, view_of}
use Rattle.redo_drive.specs.declared.actor.Actor.{Actor}
use Rattle.redo_rule.proofs.Filled.{IsPlainOp}
use Rattle.redo_rule.proofs.Kept.{same_pages}
use Rattle.redo_rule.proofs.Stepping.{goes, held_leaves, listed, takes, taking_holds}
use Rattle.redo_rule.proofs.Took.{may_take, steps, took_plain}
use Rattle.model_core.proofs.Hands.{Handles}
use Rattle.model_core.specs.declared.limits.TheConstants.{FLUSH_LISTS}
use Rattle.redo_rule.specs.Mine.{Mine}
use Rattle.redo_rule.specs.Ops.{HasPlayedOp, MayPlay}
use Rattle.redo_rule.specs.Plays.{Carries, list_behind, list_said, ListFits, no_filling, seized, seized_list, Stepped, TakesList, taking}
use Rattle.redo_rule.specs.Seating.{IsSeatOf}
use Rattle.redo_rule.specs.Slots.{IsLog, IsPages}
use Rattle.redo_rule.specs.declared.law.Desk.{Desk}
use Rattle.redo_rule.specs.declared.law.Slot.{Slot}
use Rattle.redo_rule.specs.declared.law.Slot.TheVariants as slot
use Rattle.redo_rule.specs.declared.law.View.{View}

-- what is carried, by its kind
pub carries_log : {L D : Type 0} (p : Desk L) (m : Me (Slot L D) (View L D)) → m.1 ≡ (0, slot.Log p) ∷ [] → m.0.held ≡
    Some (slot.Log p) → Carries (Some 0) m
carries_log p m e f = (p, e, f)

pub carries_list : {L D : Type 0} (k i : ℕ) (l : Listing) → k ≡ suc i → (m : Me (Slot L D) (View L D)) → m.1 ≡ (k, slot.Pages l) ∷ [] → m.0.held ≡ Some (slot.Pages l) → Carries (Some (suc i)) m
carries_list {L} k i l is m e f = (l, e ∙ ap (λ (n : ℕ). (n, slot.Pages l) ∷ []) is, f)

module _ {L D : Type 0} {table : TableId} {seat : Seat (Slot L D) (View L D)} {a : model.Actor}
    (mine : Mine table seat a) (free : hand a ≡ None) (log_seen : L → Seen) (data_seen : D → Seen)
    (after : Seat (Slot L D) (View L D)) (same : after.table_id ≡ seat.table_id) (k : ℕ) (x z : Slot L D) (r : Answer)
    (stepped : Stepped log_seen data_seen mine.who no_filling r (Some z) seat.me.0.data_part ((k, x) ∷ seat.me.1)
    seat.me after.me) where
  pub none : seat.me.1 ≡ []
  none = subst (λ (h : Option ℕ). Carries h seat.me) free mine.carries

  pub bare : after.me.1 ≡ (k, x) ∷ []
  bare = ap (λ (m : Me (Slot L D) (View L D)). m.1) stepped.is ∙ ap (λ (l : List (ℕ × Slot L D)). (k, x) ∷ l) none

  pub lends_taken : (after.table_id ≡ table) × ((y : Slot L D) × (after.me.1 ≡ (k, y) ∷ rest after.me.1))
  lends_taken = (same ∙ mine.of, (x, bare ∙ ap (λ (l : List (ℕ × Slot L D)). (k, x) ∷ rest l) (sym bare)))

  pub is_taken : (y : Slot L D) → after.me.1 ≡ (k, y) ∷ rest after.me.1 → ◌≡◌ {A = Slot L D} y x
  is_taken y e = sym (ap (λ (l : List (ℕ × Slot L D)). (get_or l 0 (k, y)).1) e) ∙ ap (λ (l : List (ℕ × Slot L D)). (get_or l 0 (k, y)).1) bare

module _ {L D R : Type 0} {table : TableId} {seat : Seat (Slot L D) (View L D)} (old : Actor R)
    (was : IsSeatOf table seat (view_of old)) (free : hand (view_of old) ≡ None) (log_seen : L → Seen)
    (data_seen : D → Seen) (stands : R → List Given → Type 0) (after : Seat (Slot L D) (View L D))
    (same : after.table_id ≡ seat.table_id)
    (id : after.id ≡ seat.id) (k : ℕ)
    (x z : Slot L D) (r : Answer) (new : Actor R) (step : Step)
    (stepped : Stepped log_seen data_seen was.mine.who no_filling r (Some z) seat.me.0.data_part ((k, x) ∷ seat.me.1)
    seat.me
    after.me) where
  -- what is taken lies in the slot as the call left it
  pub taken_leaves : (w : Slot L D) → w ≡ z → (j : ℕ) → hand (took (filled (view_of old) no_filling) r) ≡ Some j
      → ((m : Me (Slot L D) (View L D)) → m.1 ≡ (k, z) ∷ [] → m.0.held ≡ Some z → Carries (Some j) m)
      → (o : Op) → next (view_of old) ≡ o → IsPlainOp o → (said : Answer) → said ≡ r → HasTaken stands old said step new
      → HasPlayedOp log_seen data_seen stands table seat old step (seat_with after k w) new
  taken_leaves w w_is j holds carries o is plain said said_is h =
      let me' : Me (Slot L D) (View L D) = (after.me.0, (k, w) ∷ rest after.me.1) in
      (steps table log_seen data_seen stands seat was.mine.who old new step no_filling r (Some z) seat.me.0.data_part
      ((k, x) ∷ seat.me.1) seat.me.1 after.me was.mine.slots was.mine.words was.mine.one was.mine.state was.mine.plain
      stepped (took_plain stands r step new no_filling old o is plain was.mine.may.free
      (subst (λ (z : Answer). HasTaken stands old z step new) said_is h)) (seat_with after k w) (same ∙ was.mine.of)
      (ap (λ (m : Me (Slot L D) (View L D)). m.0) stepped.is)
      (subst (λ (h : Option ℕ). Carries h me') (sym holds) (carries me'
      (ap (λ (y : Slot L D). (k, y) ∷ rest after.me.1) w_is
      ∙ ap (λ (l : List (ℕ × Slot L D)). (k, z) ∷ rest l)
      (bare was.mine free log_seen data_seen after same k x z r stepped))
      (ap (λ (m : Me (Slot L D) (View L D)). m.0.held) stepped.is))) id was refl).done

-- what the taking of a list makes of what its actor holds
record ListHands (o : Op) (k : ℕ) (before : Option ℕ) (behind : Answer → Option ℕ) : Type 0 where
  pub list : ℕ
  pub is : k ≡ suc list
  pub none : before ≡ None
  pub taken : (m : Option ℕ) → behind (answer.Taken m) ≡ Some (suc list)
  pub held : behind answer.Held ≡ None
  pub plain : IsPlainOp o

list_hands : (o : Op) (k : ℕ) (before : Option ℕ) (behind : Answer → Option ℕ) → TakesList o k
    → Handles o before behind → ListHands o k before behind
list_hands (op.TakeAdd p x) k before behind takes g =
    record { list = p % FLUSH_LISTS; is = takes; none = g.0; taken = g.1; held = g.2; plain = tt }
list_hands (op.TakeRemove p) k before behind takes g =
    record { list = p % FLUSH_LISTS; is = takes; none = g.0; taken = g.1; held = g.2; plain = tt }
list_hands (op.TakeOldest i) k before behind takes g =
    record { list = i; is = takes; none = g.0; taken = g.1; held = g.2; plain = tt }
list_hands _ k before behind takes g = absurd takes

-- THE TAKING OF A LIST, whose call follows
module _ {L D R : Type 0} {table : TableId} {seat : Seat (Slot L D) (View L D)} (old : Actor R) {o : Op}
    (may : MayPlay table seat (view_of old) o) (log_seen : L → Seen) (data_seen : D → Seen) (k : ℕ)
    (takes_it : TakesList o k) (after : Seat (Slot L D) (View L D)) (n : ℕ)
    (made : (after.table_id ≡ seat.table_id) × (after.id ≡ seat.id)
    × seized_list log_seen data_seen seat.me n after.me) where
  abbrev a : model.Actor
  a = view_of old

  abbrev mine : Mine table seat a
  mine = may.seat.mine

  hands : ListHands o k (hand a) (λ r. hand (took (filled a no_filling) r))
  hands = list_hands o k (hand a) (λ r. hand (took (filled a no_filling) r)) takes_it (goes mine o may.asks no_filling)

  -- it was held
  module _ (busy : n ≡ 0 → ⊥) where
    refused : Stepped log_seen data_seen mine.who no_filling answer.Held seat.me.0.held seat.me.0.data_part seat.me.1
        seat.me after.me
    refused = (made.2 mine.who k mine.one (takes mine o k may.asks takes_it)).1 busy

    pub held_fits : AnswerFits a answer.Held × MarkFits a answer.Held
    held_fits = may_take log_seen data_seen mine.who a no_filling answer.Held seat.me.0.held seat.me.0.data_part
        seat.me.1 seat.me after.me mine.state refused

    pub list_held : (stands : R → List Given → Type 0) (step : Step) (new : Actor R)
        → HasTaken stands old answer.Held step new → HasPlayedOp log_seen data_seen stands table seat old step after new
    list_held stands step new h = held_leaves old may.seat log_seen data_seen stands after made.0 made.1 new step o
        may.asks hands.plain hands.none hands.held refused h

  -- it was free
  module _ (was_free : n ≡ 0) where
    found : (l : Listing) × ListFits o l × Stepped log_seen data_seen mine.who no_filling (answer.Taken (list_said o l))
        (Some (slot.Pages (list_behind o l))) seat.me.0.data_part ((k, slot.Pages l) ∷ seat.me.1) seat.me after.me
    found = listed mine o may.asks log_seen data_seen k after.me
        ((made.2 mine.who k mine.one (takes mine o k may.asks takes_it)).0 was_free)

    its : Listing
    its = found.0

    its_fits : ListFits o its
    unfolding its
    its_fits = found.1

    abbrev said : Answer
    said = answer.Taken (list_said o its)

    stepped : Stepped log_seen data_seen mine.who no_filling said (Some (slot.Pages (list_behind o its)))
        seat.me.0.data_part ((k, slot.Pages its) ∷ seat.me.1) seat.me after.me
    unfolding its
    stepped = found.2

    pub list_lent : (after.table_id ≡ table) × ((y : Slot L D) × (after.me.1 ≡ (k, y) ∷ rest after.me.1))
    list_lent = lends_taken mine hands.none log_seen data_seen after made.0 k (slot.Pages its)
        (slot.Pages (list_behind o its)) said stepped

    module _ (y : Slot L D) (here : after.me.1 ≡ (k, y) ∷ rest after.me.1) where
      list_is : ◌≡◌ {A = Slot L D} y (slot.Pages its)
      list_is = is_taken mine hands.none log_seen data_seen after made.0 k (slot.Pages its)
          (slot.Pages (list_behind o its)) said stepped y here

      -- the list may be called so
      pub list_called : IsPages y (ListFits o)
      list_called = (its, list_is, its_fits)

      module _ (l : Listing) (y_is : y ≡ slot.Pages l) (r : Answer) (r_is : r ≡ answer.Taken (list_said o l)) where
        is_its : l ≡ its
        is_its = same_pages l its (sym y_is ∙ list_is)

        answers : r ≡ said
        answers = r_is ∙ ap (λ (z : Listing). answer.Taken (list_said o z)) is_its

        pub list_fits : AnswerFits a r × MarkFits a r
        list_fits = subst (λ (z : Answer). AnswerFits a z × MarkFits a z) (sym answers)
            (may_take log_seen data_seen mine.who a no_filling said (Some (slot.Pages (list_behind o its)))
            seat.me.0.data_part ((k, slot.Pages its) ∷ seat.me.1) seat.me after.me mine.state stepped)

        -- the slot is as the call left it
        pub list_leaves : (w : Slot L D) → w ≡ slot.Pages (list_behind o l) → (stands : R → List Given → Type 0)
            (step : Step) (new : Actor R) → HasTaken stands old r step new
            → HasPlayedOp log_seen data_seen stands table seat old step (seat_with after k w) new
        list_leaves w w_is stands step new h = taken_leaves old may.seat hands.none log_seen data_seen stands after
            made.0 made.1 k (slot.Pages its) (slot.Pages (list_behind o its)) said new step stepped w
            (w_is ∙ ap (λ (z : Listing). slot.Pages (list_behind o z)) is_its) (suc hands.list)
            (hands.taken (list_said o its)) (carries_list k hands.list (list_behind o its) hands.is) o may.asks
            hands.plain r answers h

-- THE TAKING OF THE LOG PART
module _ {L D R : Type 0} {table : TableId} {seat : Seat (Slot L D) (View L D)} (old : Actor R)
    (may : MayPlay table seat (view_of old) op.TakeDevice) (log_seen : L → Seen) (data_seen : D → Seen)
    (after : Seat (Slot L D) (View L D)) (n : ℕ)
    (made : (after.table_id ≡ seat.table_id) × (after.id ≡ seat.id)
    × seized log_seen data_seen seat.me n after.me) where
  abbrev taker : model.Actor
  taker = view_of old

  abbrev sits : Mine table seat taker
  sits = may.seat.mine

  its_hands : Handles op.TakeDevice (hand taker) (λ r. hand (took (filled taker no_filling) r))
  its_hands = goes sits op.TakeDevice may.asks no_filling

  -- another has it
  module _ (busy : n ≡ 0 → ⊥) where
    not_taken : Stepped log_seen data_seen sits.who no_filling answer.Held seat.me.0.held seat.me.0.data_part seat.me.1
        seat.me after.me
    not_taken = (made.2 sits.who sits.one).1 busy

    pub busy_fits : AnswerFits taker answer.Held × MarkFits taker answer.Held
    busy_fits = may_take log_seen data_seen sits.who taker no_filling answer.Held seat.me.0.held seat.me.0.data_part
        seat.me.1 seat.me after.me sits.state not_taken

    pub busy_leaves : (stands : R → List Given → Type 0) (step : Step) (new : Actor R)
        → HasTaken stands old answer.Held step new → HasPlayedOp log_seen data_seen stands table seat old step after new
    busy_leaves stands step new h = held_leaves old may.seat log_seen data_seen stands after made.0 made.1 new step
        op.TakeDevice may.asks tt its_hands.0 its_hands.3 not_taken h

  -- it was free
  module _ (was_free : n ≡ 0) where
    desk_found : (desk : Desk L) × Stepped log_seen data_seen sits.who no_filling (taking (is_some desk.part.failed))
        (Some (slot.Log desk)) seat.me.0.data_part ((0, slot.Log desk) ∷ seat.me.1) seat.me after.me
    desk_found = (made.2 sits.who sits.one).0 was_free

    abbrev desk : Desk L
    desk = desk_found.0

    abbrev told : Answer
    told = taking (is_some desk.part.failed)

    pub log_lent : (after.table_id ≡ table) × ((y : Slot L D) × (after.me.1 ≡ (0, y) ∷ rest after.me.1))
    log_lent = lends_taken sits its_hands.0 log_seen data_seen after made.0 0 (slot.Log desk) (slot.Log desk) told
        desk_found.1

    module _ (y : Slot L D) (here : after.me.1 ≡ (0, y) ∷ rest after.me.1) where
      log_is : ◌≡◌ {A = Slot L D} y (slot.Log desk)
      log_is = is_taken sits its_hands.0 log_seen data_seen after made.0 0 (slot.Log desk) (slot.Log desk) told
          desk_found.1 y here

      pub log_there : IsLog y (λ p. Unit {0})
      log_there = (desk, log_is, tt)

      module _ (r : Answer) (r_is : (d : Desk L) → y ≡ slot.Log d → r ≡ taking (is_some d.part.failed)) where
        pub log_fits : AnswerFits taker r × MarkFits taker r
        log_fits = subst (λ (z : Answer). AnswerFits taker z × MarkFits taker z) (sym (r_is desk log_is))
            (may_take log_seen data_seen sits.who taker no_filling told (Some (slot.Log desk)) seat.me.0.data_part
            ((0, slot.Log desk) ∷ seat.me.1) seat.me after.me sits.state desk_found.1)

        pub log_leaves : (stands : R → List Given → Type 0) (step : Step) (new : Actor R)
            → HasTaken stands old r step new
            → HasPlayedOp log_seen data_seen stands table seat old step (seat_with after 0 y) new
        log_leaves stands step new h = taken_leaves old may.seat its_hands.0 log_seen data_seen stands after made.0
            made.1
            0 (slot.Log desk) (slot.Log desk) told new step desk_found.1 y log_is 0
            (taking_holds sits may.asks (is_some desk.part.failed)) (carries_log desk) op.TakeDevice may.asks tt r
            (r_is desk log_is) h
