-- A user that takes an answer has its seat still.
use Rattle.std.proofs.Common.{Bool, List, Some, [], ap, false, get_or, refl, subst, sym, true, ℕ, ◌∙◌, ◌∷◌, ◌≡◌}
use Rattle.atomic_table.specs.Seated.{TableId}
use Rattle.atomic_table.specs.Table.{Me, rest}
use Rattle.atomic_table.specs.declared.shared.Seat.{Seat}
use Rattle.model_core.specs.{word_count}
use Rattle.model_core.specs.States as model
use Rattle.model_core.specs.declared.ops.Answer.{Answer}
use Rattle.model_core.specs.declared.ops.Step.{Step}
use Rattle.model_own.specs.{LogWork, own_goes_on, own_step_of, OwnUser, has_work}
use Rattle.redo_disk.specs.{Seen}
use Rattle.redo_ownrule.proofs.OwnDesk.{same_work}
use Rattle.redo_ownrule.proofs.OwnFree.{own_free}
use Rattle.redo_ownrule.proofs.OwnOps as ops
use Rattle.redo_ownrule.specs.OwnMine.{CarriesWork, HasStepped, IsAnswering, KeepsOwnSeat, OwnHasPlayed, OwnMine}
use Rattle.redo_ownrule.specs.OwnPlays.{HasWork, own_behind, own_view, OwnMayGo, OwnShown, with_work}
use Rattle.redo_ownrule.specs.OwnSlots.{MayTakeIn, TookIn}
use Rattle.redo_rule.proofs.Kept.{same_desk, same_slot}
use Rattle.redo_rule.specs.Mine.{heard_in, number_in, number_of}
use Rattle.redo_rule.specs.declared.law.Desk.{Desk}
use Rattle.redo_rule.specs.declared.law.Slot.{Slot}
use Rattle.redo_rule.specs.declared.law.Slot.TheVariants as slot
use Rattle.redo_rule.specs.declared.law.View.{View}

-- the same seat with these slots
abbrev pub seat_with : {L D : Type 0} → Seat (Slot L D) (View L D) → List (ℕ × Slot L D) → Seat (Slot L D) (View L D)
seat_with token carried =
    record { marker = token.marker; table_id = token.table_id; id = token.id; me = (token.me.0, carried) }

-- what is first in a list of slots
pub head_is : {L D : Type 0} (k : ℕ) (x y : Slot L D) (l : List (ℕ × Slot L D)) → l ≡ (k, y) ∷ rest l → l ≡ (k, x) ∷ []
    → ◌≡◌ {A = Slot L D} y x
head_is {L} {D} k x y l e f = sym (ap (λ (z : List (ℕ × Slot L D)). (get_or z 0 (k, y)).1) e)
    ∙ ap (λ (z : List (ℕ × Slot L D)). (get_or z 0 (k, y)).1) f

module _ {L D : Type 0} (log_seen : L → Seen) (data_seen : D → Seen) (table : TableId) (v : View L D)
    (token : Seat (Slot L D) (View L D)) (o : OwnUser) (r : Answer)
    (I : HasStepped log_seen data_seen table v token o r) where
  abbrev then : OwnUser
  then = (own_goes_on o I.work r).0

  abbrev left : LogWork
  left = (own_goes_on o I.work r).1

  view_is : token.me.0 ≡ own_view v I.who then I.held
  view_is = ap (λ (m : Me (Slot L D) (View L D)). m.0) I.stepped.is

  pub carried_is : token.me.1 ≡ I.carried
  carried_is = ap (λ (m : Me (Slot L D) (View L D)). m.1) I.stepped.is

  pub held_is : token.me.0.held ≡ I.held
  held_is = ap (λ (w : View L D). w.held) view_is

  go : OwnMayGo token.me.0.layout token.me.0.held then left
  go = subst (λ (w : View L D). OwnMayGo w.layout w.held then left) (sym view_is) I.stepped.may

  number_is : I.who.number ≡ number_of v
  number_is = sym (ap number_in I.was)

  pub keeps_seat : KeepsOwnSeat v token.me.0
  keeps_seat = record {
    about = ap (λ (w : View L D). w.about) view_is;
    number = ap (λ (w : View L D). number_in w.seats) view_is ∙ number_is;
    layout = ap (λ (w : View L D). w.layout) view_is;
    heard = ap (λ (w : View L D). heard_in w.seats) view_is ∙ sym (ap heard_in I.was);
    data_part = ap (λ (w : View L D). w.data_part) view_is;
  }

  pub has_played : (x : OwnUser) (step : Step) → x ≡ then → step ≡ own_step_of o I.work r
      → OwnHasPlayed log_seen data_seen v o step x
  has_played x step is ends = record {
    work = I.work;
    answer = r;
    shown = subst (λ (n : ℕ). OwnShown log_seen data_seen v.about n o I.work r) number_is I.stepped.shown;
    is = is;
    ends = ends;
  }

  pub mine_with : (carried : List (ℕ × Slot L D)) → CarriesWork (has_work then.errand) (model.User then.user) (token.me.0, carried)
      → ((j : LogWork) → HasWork token.me.0.held then j → has_work then.errand ≡ true → j ≡ left)
      → OwnMine table (seat_with token carried) then
  mine_with carried carries only = record {
    of = I.of;
    slots = I.slots;
    words = I.words ∙ ap word_count (sym (ap (λ (w : View L D). w.layout) view_is));
    who = own_behind I.who then;
    one = ap (λ (w : View L D). w.seats) view_is;
    own = record { state = refl; errand = refl };
    carries = carries;
    stands = I.stepped.may.stands;
    free = own_free o I.work r I.stands;
    may = λ j has. ops.any_work then left j token.me.0.layout token.me.0.held go (only j has);
  }

-- without the log's work in hand
module _ {L D : Type 0} (log_seen : L → Seen) (data_seen : D → Seen) (table : TableId) (v : View L D)
    (token : Seat (Slot L D) (View L D)) (o : OwnUser) (r : Answer)
    (I : IsAnswering log_seen data_seen table false v token o r) (x : OwnUser)
    (x_is : x ≡ (own_goes_on o I.step.work r).0) where
  pub mine_alone : OwnMine table token x
  mine_alone =
      let none = I.has.2 in
      subst (OwnMine table token) (sym x_is)
      (mine_with log_seen data_seen table v token o r I.step token.me.1
      (subst (λ (c : Bool). CarriesWork c (model.User (own_goes_on o I.step.work r).0.user) token.me) (sym none) I.has.1)
      (λ j has with. let z : true ≡ false = sym with ∙ none in absurd (cc)))

-- with it
module _ {L D : Type 0} (log_seen : L → Seen) (data_seen : D → Seen) (table : TableId) (v : View L D)
    (token : Seat (Slot L D) (View L D)) (o : OwnUser) (r : Answer)
    (I : IsAnswering log_seen data_seen table true v token o r) where
  abbrev desk : Desk L
  desk = I.has.0

  carries_desk : token.me.1 ≡ (0, slot.Log desk) ∷ []
  carries_desk = carried_is log_seen data_seen table v token o r I.step ∙ I.has.2

  pub lends_slot : (token.table_id ≡ table) × ((y : Slot L D) × (token.me.1 ≡ (0, y) ∷ rest token.me.1))
  lends_slot = (
    I.step.of,
    (slot.Log desk, carries_desk ∙ ap (λ (l : List (ℕ × Slot L D)). (0, slot.Log desk) ∷ rest l) (sym carries_desk)),
  )

  module _ (y : Slot L D) (there : token.me.1 ≡ (0, y) ∷ rest token.me.1) where
    y_is : ◌≡◌ {A = Slot L D} y (slot.Log desk)
    y_is = head_is 0 (slot.Log desk) y token.me.1 there carries_desk

    pub may_take : MayTakeIn y o r
    may_take = record {
      work = I.step.work;
      lies = record { desk = desk; is = y_is; its = I.has.1 };
      fits = I.step.stepped.fits;
      stands = I.step.stands;
    }

    module _ (z : Slot L D) (x : OwnUser) (step : Step) (T : TookIn y z o x r step) where
      pub desk_same : ◌≡◌ {A = Desk L} T.lies.desk desk
      desk_same = same_desk T.lies.desk desk (sym T.lies.is ∙ y_is)

      work_same : T.work ≡ I.step.work
      work_same = same_work T.work I.step.work (sym T.lies.its ∙ ap (λ (d : Desk L). d.work) desk_same ∙ I.has.1)

      pub x_is : x ≡ (own_goes_on o I.step.work r).0
      x_is = T.user ∙ ap (λ (k : LogWork). (own_goes_on o k r).0) work_same

      pub ends_so : step ≡ own_step_of o I.step.work r
      ends_so = T.ends ∙ ap (λ (k : LogWork). own_step_of o k r) work_same

      abbrev now : Desk L
      now = with_work desk (own_goes_on o I.step.work r).1

      z_is : ◌≡◌ {A = Slot L D} z (slot.Log now)
      z_is = T.now
          ∙ ap (λ (d : Desk L). slot.Log (with_work d (own_goes_on o T.work r).1)) desk_same
          ∙ ap (λ (k : LogWork). slot.Log (with_work desk (own_goes_on o k r).1)) work_same

      rest_none : rest token.me.1 ≡ []
      rest_none = ap rest carries_desk

      held_now : token.me.0.held ≡ Some (slot.Log now)
      held_now = held_is log_seen data_seen table v token o r I.step ∙ I.has.3

      abbrev carried : List (ℕ × Slot L D)
      carried = (0, z) ∷ rest token.me.1

      carried_now : carried ≡ (0, slot.Log now) ∷ []
      carried_now = ap (λ (q : Slot L D). (0, q) ∷ rest token.me.1) z_is
          ∙ ap (λ (l : List (ℕ × Slot L D)). (0, slot.Log now) ∷ l) rest_none

      pub mine_at : OwnMine table (seat_with token carried) x
      mine_at = subst (OwnMine table (seat_with token carried)) (sym x_is)
          (mine_with log_seen data_seen table v token o r I.step carried
          (subst (λ (c : Bool). CarriesWork c (model.User (own_goes_on o I.step.work r).0.user) (token.me.0, carried))
          (sym I.has.4) (now, (own_goes_on o I.step.work r).1, refl, carried_now, held_now))
          (λ j has with. let d = has with in
          same_work j (own_goes_on o I.step.work r).1 (sym d.2
          ∙ ap (λ (q : Desk L). q.work) (same_desk d.0 now (same_slot (slot.Log d.0) (slot.Log now) (sym d.1 ∙ held_now))))))
