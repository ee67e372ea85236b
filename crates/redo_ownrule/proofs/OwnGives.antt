-- A user that writes for itself gives back what it took, or calls the log part: both keep the rule.
use Rattle.std.proofs.Common.{List, None, Some, [], ap, arith, false, get_or-set_other, get_or-set_same, inl, inr, length, length-set, refl, subst, suc, sym, true, ℕ, ◌+◌, ◌<◌, ◌∙◌, ◌∷◌, ◌≡◌, ◌≢◌, ◌⊎◌}
use Rattle.std.specs.Prelude.{slice_index, slice_set}
use lib.ListN.{get_elem?}
use mathlib.Core.Option as maybe
use native.Mathlib.Decide.{ℕ_discrete}
use Rattle.atomic_table.specs.Table.{Allows, Me, State, Act, carried_after, gives, put_back, rest, stepped, Valid}
use Rattle.model_core.proofs.Lists.{set_else}
use Rattle.model_core.specs.States as model
use Rattle.model_core.specs.{hand, took}
use Rattle.model_core.specs.declared.ops.Answer.{Answer}
use Rattle.model_core.specs.declared.ops.Answer.TheVariants as answer
use Rattle.model_core.specs.declared.ops.Op.{Op}
use Rattle.model_core.specs.declared.ops.Op.TheVariants as op
use Rattle.model_own.specs.{LogWork, own_goes_on, own_lends, own_next, OwnUser, helps_at, has_work}
use Rattle.redo_disk.specs.{Call, Seen}
use Rattle.redo_drive.proofs.Played as played
use Rattle.redo_drive.specs.{HasSamePages, IsPlayed, run_data_side}
use Rattle.redo_drive.specs.declared.parts.Parts.{Parts}
use Rattle.redo_ownrule.proofs.OwnOps as ops
use Rattle.redo_ownrule.proofs.OwnTurns as turns
use Rattle.redo_ownrule.proofs.OwnUserHands as hands
use Rattle.redo_ownrule.specs.OwnPlays.{HasWork, IsOwn, own_view, OwnStepped, with_work, own_gave}
use Rattle.redo_rule.proofs.Holders as holders
use Rattle.redo_rule.proofs.Kept as kept
use Rattle.redo_rule.specs.OwnSide.{Beside, desk_with}
use Rattle.redo_rule.specs.Ruled.{Ruled, slot_content}
use Rattle.redo_rule.specs.declared.law.About.{About}
use Rattle.redo_rule.specs.declared.law.Desk.{Desk}
use Rattle.redo_rule.specs.declared.law.Numbered.{Numbered}
use Rattle.redo_rule.specs.declared.law.Slot.{Slot}
use Rattle.redo_rule.specs.declared.law.Slot.TheVariants as slot
use Rattle.redo_rule.specs.declared.law.View.{View}
use Rattle.atomic_table.proofs.Lists.{set_here}
use Rattle.model_core.proofs.Hands.{Handles}
use Rattle.redo_rule.proofs.Filled.{handles_filled}
use Rattle.redo_rule.specs.Plays.{no_filling}
use Rattle.redo_drive.proofs.Played.{CallsLog}
use Rattle.redo_ownrule.proofs.OwnAllowed as allowed
use Rattle.redo_ownrule.proofs.OwnAllowed.{by_slot}
use Rattle.redo_ownrule.proofs.OwnTurns.{many}

module _ {L D : Type 0} (log_seen : L → Seen) (log_gives : L → Call → L → Type 0) (data_seen : D → Seen)
    (data_gives : D → Call → D → Type 0) (about : About L D) (slots id : ℕ) (me : Me (Slot L D) (View L D))
    (x : Numbered) (one : me.0.seats ≡ x ∷ []) (o : OwnUser) (its : IsOwn x o) where
  abbrev Law : State (Slot L D) (View L D) → Type 0
  Law = Ruled log_seen log_gives data_seen data_gives about

  -- A TURN WORD AND ITS SLOT ARE GIVEN BACK
  module _ (a : Op) (j : ℕ) (own_slot : Slot L D) (asks : (k : LogWork) → HasWork me.0.held o k → own_next o k ≡ a)
      (below : j < 5) (carried : me.1 ≡ (j, own_slot) ∷ [])
      (s : State (Slot L D) (View L D)) (R : Law s) (at : get_elem? s.views id ≡ maybe.some me.0) where
    abbrev r : Answer
    r = answer.Taken None

    abbrev W : LogWork
    W = allowed.Work log_seen log_gives data_seen data_gives about slots id me x one o its s R at

    abbrev ws : List ℕ
    ws = slice_set s.words (7 + j) 0

    abbrev new : Parts L D
    new = record {
      words = record { layout = R.parts.words.layout; words = ws };
      log = R.parts.log;
      store = R.parts.store;
      lists = R.parts.lists;
    }

    abbrev same : HasSamePages R.parts new
    same = record { words = refl; lists = refl }

    pub its_op : own_next o W ≡ a
    its_op = asks W (turns.has_it log_seen log_gives data_seen data_gives about s R id me.0 x one at o its)

    abbrev then : OwnUser
    then = (own_goes_on o W r).0

    abbrev left : LogWork
    left = (own_goes_on o W r).1

    abbrev hs : List (maybe.Option (Slot L D))
    hs = put_back s.homes me.1

    back : hs ≡ slice_set s.homes j (maybe.some own_slot)
    back = ap (put_back s.homes) carried

    module _ (plays : (l : model.Lent) → IsPlayed log_seen data_seen R.run a l R.parts r new) where
      abbrev done : IsPlayed log_seen data_seen R.run (own_next o W) (own_lends o W) R.parts r new
      done = subst (λ (p : Op). IsPlayed log_seen data_seen R.run p (own_lends o W) R.parts r new) (sym its_op)
          (plays (own_lends o W))

      abbrev beside : Beside
      beside = turns.beside log_seen log_gives data_seen data_gives about s R id me.0 x one at o its r new same done
          R.beside.block

      abbrev Given : Type 0
      Given = Law (record { words = ws; homes = hs; views = slice_set s.views id (own_view me.0 x then None) })
          × OwnStepped log_seen data_seen x o W r None (rest me.1) me.0 (own_view me.0 x then None, rest me.1)

      far : (k : ℕ) → k ≢ j → slice_index ws (7 + k) ≡ slice_index s.words (7 + k)
      far k ne = get_or-set_other s.words (7 + j) (7 + k) 0 0 (λ e. ne (omega arith))

      freed : slice_index ws (7 + j) ≡ 0
      freed = get_or-set_same s.words (7 + j) 0 0 (many log_seen log_gives data_seen data_gives about s R j below)

      pub given : (hand (model.User then.user) ≡ None) → (has_work then.errand ≡ false)
          → ◌≡◌ {A = Slot L D} own_slot (slot_content new beside j)
          → ((k : ℕ) → k ≢ j → ◌≡◌ {A = Slot L D} (slot_content R.parts R.beside k) (slot_content new beside k))
          → ((◌≡◌ {A = Slot L D} (slot_content R.parts R.beside j) (slot_content new beside j))
          ⊎ turns.Alone log_seen log_gives data_seen data_gives about s R id me.0 x one at o its j)
          → ((◌≡◌ {A = Slot L D} (slot_content R.parts R.beside 0) (slot_content new beside 0))
          ⊎ turns.AloneAtWork log_seen log_gives data_seen data_gives about s R id me.0 x one at o its)
          → ((i : ℕ) → suc i ≢ j → hand (model.User o.user) ≡ Some (suc i) → ⊥) → Given
      given none no_work mine others own its_content holds_no = (
        turns.own_kept log_seen log_gives data_seen data_gives about s R id me.0 x one at o its r new same done
            R.beside.block (inl refl) None
            (λ k h. let z : None ≡ Some k = sym none ∙ h in absurd (cc))
            (λ has. let z : true ≡ false = sym has ∙ no_work in absurd (cc))
            (λ k. elim (ℕ_discrete k j) [
              | yes here ↦ subst (λ (i : ℕ). (◌≡◌ {A = Slot L D} (slot_content R.parts R.beside i) (slot_content new beside i))
                  ⊎ turns.Alone log_seen log_gives data_seen data_gives about s R id me.0 x one at o its i) (sym here) own
              | no ne ↦ inl (others k ne)
            ])
            its_content refl hs R.lists_are R.log_calls refl
            (ap length back ∙ length-set s.homes j (maybe.some own_slot) ∙ R.slots)
            (λ k l z. ap (λ (y : List (maybe.Option (Slot L D))). get_elem? y k) back ∙ elim (ℕ_discrete k j) [
              | yes here ↦ (ap (get_elem? (slice_set s.homes j (maybe.some own_slot))) here
                  ∙ set_here s.homes j (maybe.some own_slot) (let n = R.slots in omega arith)
                  ∙ ap (λ (y : Slot L D). maybe.some (maybe.some y)) (mine ∙ ap (slot_content new beside) (sym here)))
              | no ne ↦ set_else s.homes j k (maybe.some own_slot) ne ∙ R.home k l (sym (far k ne) ∙ z)
                  ∙ ap (λ (y : Slot L D). maybe.some (maybe.some y)) (others k ne)
            ])
            (λ z. ap (λ (y : List (maybe.Option (Slot L D))). get_elem? y 5) back
            ∙ set_else s.homes j 5 (maybe.some own_slot) (λ e. omega arith) ∙ R.data_home z)
            (λ k l busy. elim (ℕ_discrete k j) [
              | yes here ↦ absurd (busy (ap (λ (i : ℕ). slice_index ws (7 + i)) here ∙ freed))
              | no ne ↦ by_slot (λ (i : ℕ). i ≢ j → slice_index ws (7 + i) ≢ 0
                  → turns.Turned log_seen log_gives data_seen data_gives about s R id me.0 x one at o its r new same done
                  R.beside.block i)
                  (λ ne busy. far 0 ne ∙ allowed.busy_device log_seen log_gives data_seen data_gives about slots id me x
                  one o its s R at (λ z. busy (far 0 ne ∙ z)))
                  (λ i ne busy. inr ((λ z. busy (far (suc i) ne ∙ z)), λ h. absurd (holds_no i ne h))) k ne busy
            ]),
        turns.steps log_seen log_gives data_seen data_gives about s R id me.0 x one at o its r new same done
            R.beside.block None (rest me.1) (λ d is has. let z : true ≡ false = sym has ∙ no_work in absurd (cc)),
      )

  -- GiveDevice
  module _ (desk : Desk L) (k : LogWork) (asks : (k : LogWork) → HasWork me.0.held o k → own_next o k ≡ op.GiveDevice)
      (held : me.0.held ≡ Some (slot.Log desk)) (has : desk.work ≡ Some k) where
    abbrev slot_left : Slot L D
    slot_left = slot.Log (with_work desk (own_goes_on o k (answer.Taken None)).1)

    pub own_give : me.1 ≡ (0, slot_left) ∷ [] → Allows Law slots id me 7 (λ _. 0) (own_gave log_seen data_seen me)
    own_give carried s R wide at small =
        let w : LogWork = allowed.Work log_seen log_gives data_seen data_gives about slots id me x one o its s R at in
        let q : Answer = answer.Taken None in
        let hold = allowed.serves_hand log_seen log_gives data_seen data_gives about slots id me x one o its s R at in
        let is_op : own_next o w ≡ op.GiveDevice = asks w
        (turns.has_it log_seen log_gives data_seen data_gives about s R id me.0 x one at o its) in
        let part = ops.part_work o w hold op.GiveDevice tt is_op in
        let fit = (turns.serves log_seen log_gives data_seen data_gives about s R id me.0 x one at o its).stands in
        let k_is : k ≡ w = turns.the_work log_seen log_gives data_seen data_gives about s R id me.0 x one at o its k
        (λ _. (desk, held, has)) part.0 in
        let desk_is : ◌≡◌ {A = Desk L} desk (desk_with R.parts.log R.beside) =
        kept.same_desk desk (desk_with R.parts.log R.beside)
        (kept.same_slot (slot.Log desk) (slot.Log (desk_with R.parts.log R.beside)) (sym held
        ∙ turns.has_desk log_seen log_gives data_seen data_gives about s R id me.0 x one at o its part.0)) in
        let now : Parts L D = new op.GiveDevice 0 slot_left asks (omega arith) carried s R at in
        let plays : (l : model.Lent) → IsPlayed log_seen data_seen R.run op.GiveDevice l R.parts q now =
        λ l. played.gave_device log_seen data_seen R.run l R.parts op.GiveDevice refl now.words q refl refl
        (ap (λ (y : List ℕ). slice_set y 7 0) (sym R.words_are)) in
        let behind : Beside = beside op.GiveDevice 0 slot_left asks (omega arith) carried s R at plays in
        let none_now = hands.work_holds o w part.0 fit in
        let h = given op.GiveDevice 0 slot_left asks (omega arith) carried s R at plays
        (hands.work_leaves o w q part.0 fit) (ops.gives_up o w hold is_op)
        (ap (λ (z : Desk L). slot.Log (with_work z (own_goes_on o k q).1)) desk_is
        ∙ ap (λ (z : LogWork). slot.Log (with_work (desk_with R.parts.log R.beside) (own_goes_on o z q).1)) k_is)
        (λ i ne. by_slot (λ (i : ℕ). i ≢ 0
        → ◌≡◌ {A = Slot L D} (slot_content R.parts R.beside i) (slot_content now behind i))
        (λ ne. absurd (ne refl))
        (λ i ne. allowed.list_content log_seen log_gives data_seen data_gives about slots id me x one o its s R at now
        behind refl i) i ne)
        (inr (turns.in_hand_alone log_seen log_gives data_seen data_gives about s R id me.0 x one at o its part.0))
        (inr (turns.in_hand_work log_seen log_gives data_seen data_gives about s R id me.0 x one at o its part.0))
        (λ i ne e. let z : None ≡ Some (suc i) = sym none_now ∙ e in absurd (cc)) in
        let v : View L D = own_view me.0 x (own_goes_on o w q).0 None in (
          v,
          gives,
          tt,
          h.0,
          allowed.of_own log_seen log_gives data_seen data_gives about slots id me x one o its
              (λ (z : Numbered) (u : OwnUser). (j : LogWork) × HasWork me.0.held u j
              × OwnStepped log_seen data_seen z u j q None (rest me.1) me.0 (v, rest me.1))
              (w, turns.has_it log_seen log_gives data_seen data_gives about s R id me.0 x one at o its, h.1),
        )

  -- GiveList
  pub own_give_list : (i : ℕ) (own_slot : Slot L D)
      → ((k : LogWork) → HasWork me.0.held o k → own_next o k ≡ op.GiveList i) → i < 4
      → me.0.held ≡ Some own_slot → me.1 ≡ (suc i, own_slot) ∷ []
      → Allows Law slots id me (8 + i) (λ _. 0) (own_gave log_seen data_seen me)
  own_give_list i own_slot asks below held carried s R wide at small =
      let w : LogWork = allowed.Work log_seen log_gives data_seen data_gives about slots id me x one o its s R at in
      let q : Answer = answer.Taken None in
      let hold = allowed.serves_hand log_seen log_gives data_seen data_gives about slots id me x one o its s R at in
      let is_op : own_next o w ≡ op.GiveList i = asks w
      (turns.has_it log_seen log_gives data_seen data_gives about s R id me.0 x one at o its) in
      let home = ops.list_home o w hold (op.GiveList i) tt is_op in
      let helps : helps_at o.user.step ≡ false = hands.give_helps o.user o.user.step i home.its_op in
      let goes = hands.list_goes o w q home.asks home.errand helps in
      let handles : Handles (op.GiveList i) (hand (model.User o.user)) (λ (z : Answer). hand (took (model.User o.user) z)) =
      subst (λ (p : Op). Handles p (hand (model.User o.user)) (λ (z : Answer). hand (took (model.User o.user) z)))
      home.user_next (handles_filled (model.User o.user) no_filling
      (allowed.user_free log_seen log_gives data_seen data_gives about slots id me x one o its s R at)) in
      let none : hand (model.User (own_goes_on o w q).0.user) ≡ None =
      ap hand (hands.list_user o w q home.asks home.errand helps) ∙ handles.1 in
      let no_work : has_work (own_goes_on o w q).0.errand ≡ false =
      ap (λ (z : OwnUser × LogWork). has_work z.0.errand) goes ∙ ap has_work home.errand in
      let word : 7 + suc i ≡ 8 + i = omega arith in
      let now : Parts L D = new (op.GiveList i) (suc i) own_slot asks (omega arith) carried s R at in
      let plays : (l : model.Lent) → IsPlayed log_seen data_seen R.run (op.GiveList i) l R.parts q now = λ l. record {
        code = 0;
        log_served = refl;
        data_served = played.untouched (run_data_side log_seen data_seen R.run) R.parts.store R.parts.store l (op.GiveList i) 0
            tt refl;
        own_served = tt;
        layout = refl;
        words = ap (λ (y : List ℕ). slice_set y (7 + suc i) 0) (sym R.words_are)
            ∙ ap (λ (n : ℕ). slice_set R.parts.words.words n 0) word;
        lists = refl;
        answered = refl;
      } in
      let behind : Beside = beside (op.GiveList i) (suc i) own_slot asks (omega arith) carried s R at plays in
      let content : (k : ℕ) → ◌≡◌ {A = Slot L D} (slot_content R.parts R.beside k) (slot_content now behind k) =
      allowed.same_content log_seen log_gives data_seen data_gives about slots id me x one o its s R at now behind refl refl
      refl (ap (λ (z : OwnUser × LogWork). Some z.1) goes
      ∙ sym (turns.beside_work log_seen log_gives data_seen data_gives about s R id me.0 x one at o its)) in
      let mine : ◌≡◌ {A = Slot L D} own_slot (slot_content R.parts R.beside (suc i)) =
      kept.same_slot own_slot (slot_content R.parts R.beside (suc i)) (sym held
      ∙ turns.holds_list log_seen log_gives data_seen data_gives about s R id me.0 x one at o its (suc i) handles.0) in
      let h = given (op.GiveList i) (suc i) own_slot asks (omega arith) carried s R at plays none no_work
      (mine ∙ content (suc i)) (λ k ne. content k) (inl (content (suc i))) (inl (content 0))
      (λ n ne e. ne (holders.same_number (suc n) (suc i) (sym e ∙ handles.0))) in
      let v : View L D = own_view me.0 x (own_goes_on o w q).0 None in
      subst (λ (n : ℕ). (z : View L D) × (act : Act (Slot L D)) × Valid s.homes me.1 act
      × Law (stepped s n 0 id me.1 z act) × own_gave log_seen data_seen me (slice_index s.words n) (z, carried_after me.1 act)) word (
        v,
        gives,
        tt,
        h.0,
        allowed.of_own log_seen log_gives data_seen data_gives about slots id me x one o its
            (λ (z : Numbered) (u : OwnUser). (j : LogWork) × HasWork me.0.held u j
            × OwnStepped log_seen data_seen z u j q None (rest me.1) me.0 (v, rest me.1))
            (w, turns.has_it log_seen log_gives data_seen data_gives about s R id me.0 x one at o its, h.1),
      )
