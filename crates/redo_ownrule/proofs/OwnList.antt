-- What the taking and the giving of a flush list ask of the table and leave of a user's seat.
use Rattle.std.proofs.Common.{List, None, Option, Some, [], ap, arith, false, refl, subst, suc, sym, ℕ, ◌%◌, ◌+◌, ◌<◌, ◌==◌, ◌∙◌, ◌∷◌, ◌≡◌, ◌≢◌}
use prog.Atomic.{either}
use Rattle.atomic_table.specs.Seated.{TableId}
use Rattle.atomic_table.specs.Table.{Allows, Me, rest}
use Rattle.atomic_table.specs.declared.shared.Seat.{Seat}
use Rattle.model_core.specs.{next, OpWords, took, user_op, hand}
use Rattle.model_core.specs.States as model
use Rattle.model_core.specs.declared.ops.Answer.{Answer}
use Rattle.model_core.specs.declared.ops.Answer.TheVariants as answer
use Rattle.model_core.specs.declared.ops.Op.{Op}
use Rattle.model_core.specs.declared.ops.Op.TheVariants as op
use Rattle.model_core.proofs.Hands.{Handles}
use Rattle.model_own.specs.{helps_at, LogWork, own_goes_on, OwnUser, has_work}
use Rattle.model_own.specs.declared.errand.ErrandStep.{ErrandStep}
use Rattle.model_own.specs.declared.errand.ErrandStep.TheVariants as errand_step
use Rattle.redo_disk.specs.{Call, Seen}
use Rattle.redo_flushlist.specs.{Listing}
use Rattle.redo_ownrule.proofs.OwnAnswers as answers
use Rattle.redo_ownrule.proofs.OwnGives.{own_give_list}
use Rattle.redo_ownrule.proofs.OwnListed.{own_take_add}
use Rattle.redo_ownrule.proofs.OwnOps as ops
use Rattle.redo_ownrule.proofs.OwnUserHands as hands
use Rattle.redo_ownrule.specs.OwnMine.{IsAnswering, OwnMine}
use Rattle.redo_ownrule.specs.OwnPlays.{own_gave, own_seized_list, OwnStepped}
use Rattle.redo_ownrule.specs.Playing.{OwnAsks}
use Rattle.redo_ownuser.specs.OwnFits.{AloneFits, OwnAnswerFits}
use Rattle.redo_rule.proofs.Filled.{handles_filled}
use Rattle.redo_rule.proofs.Kept.{same_pages}
use Rattle.redo_rule.specs.Plays.{Carries, list_behind, ListFits, no_filling, TakesList}
use Rattle.redo_rule.specs.Ruled.{Ruled}
use Rattle.redo_rule.specs.declared.law.About.{About}
use Rattle.redo_rule.specs.declared.law.Slot.{Slot}
use Rattle.redo_rule.specs.declared.law.Slot.TheVariants as slot
use Rattle.redo_rule.specs.declared.law.View.{View}
use Rattle.redo_ownrule.proofs.OwnStepping as stepping
use Rattle.redo_rule.specs.Slots.{IsPages}

-- on no errand
abbrev is_off : ErrandStep → Type 0
is_off errand_step.Done = Unit {0}
is_off _ = ⊥

module _ {L D : Type 0} {table : TableId} {seat : Seat (Slot L D) (View L D)} {o : OwnUser}
    (mine : OwnMine table seat o) where
  abbrev k0 : LogWork
  k0 = (stepping.some_work mine).0

  -- by its own program, as any user
  abbrev HandledAs : Op → Type 0
  HandledAs a = Handles a (hand (model.User o.user)) (λ (z : Answer). hand (took (model.User o.user) z))

  handled : (a : Op) → next (model.User o.user) ≡ a → HandledAs a
  handled a is = subst HandledAs is (handles_filled (model.User o.user) no_filling mine.free)

  module _ (helps : helps_at o.user.step ≡ false) (errand : o.errand ≡ errand_step.Done) (asks_now : o.user.checks ≡ false) where
    none : has_work o.errand ≡ false
    none = ap has_work errand

    no_work : (k : LogWork) (r : Answer) → has_work (own_goes_on o k r).0.errand ≡ false
    no_work k r = ap (λ (z : OwnUser × LogWork). has_work z.0.errand) (hands.list_goes o k r asks_now errand helps) ∙ none

    hand_then : (k : LogWork) (r : Answer) → hand (model.User (own_goes_on o k r).0.user) ≡ hand (took (model.User o.user) r)
    hand_then k r = ap hand (hands.list_user o k r asks_now errand helps)

    alone : (k : LogWork) (r : Answer) → OwnAnswerFits o k r → AloneFits o r
    alone k r fits = stepping.alone_fits o k r none
        (λ e c. absurd (off errand_step.TakeDevice (sym errand ∙ e))) fits
      where
        off : (x : ErrandStep) → errand_step.Done ≡ x → is_off x
        off x e = subst is_off e tt

  -- TakeAdd
  module _ (p y : ℕ) (asks : OwnAsks seat.me.0 o (op.TakeAdd p y)) where
    abbrev i : ℕ
    i = p % 4

    home : ops.AtHome o k0 (stepping.go mine).in_hand (op.TakeAdd p y)
    home = ops.list_home o k0 (stepping.go mine).in_hand (op.TakeAdd p y) tt
        (stepping.its_op mine (op.TakeAdd p y) asks)

    helps_not : helps_at o.user.step ≡ false
    helps_not = hands.add_helps o.user o.user.step p y home.its_op

    takes_hand : HandledAs (op.TakeAdd p y)
    takes_hand = handled (op.TakeAdd p y) home.user_next

    pub bare : seat.me.1 ≡ []
    bare = subst (λ (h : Option ℕ). Carries h seat.me) takes_hand.0
        (stepping.list_there mine (ap has_work home.errand))

    pub take_add_ok : (log_seen : L → Seen) (log_gives : L → Call → L → Type 0) (data_seen : D → Seen)
        (data_gives : D → Call → D → Type 0) (about : About L D) (k : ℕ) → k ≡ 8 + i
        → stepping.Asks mine (op.TakeAdd p y) asks log_seen log_gives data_seen data_gives about k
        (λ n. either (n == 0) 1 n) (own_seized_list log_seen data_seen seat.me)
    take_add_ok log_seen log_gives data_seen data_gives about k e = (
      mine.of,
      (let w = mine.words in omega arith),
      subst (λ (n : ℕ). Allows (Ruled log_seen log_gives data_seen data_gives about) table.slots seat.id seat.me n
          (λ n. either (n == 0) 1 n) (own_seized_list log_seen data_seen seat.me)) (sym e)
          (own_take_add log_seen log_gives data_seen data_gives about table.slots seat.id seat.me mine.who mine.one o mine.own
          p y asks),
    )

    module _ (log_seen : L → Seen) (data_seen : D → Seen) (after : Seat (Slot L D) (View L D))
        (same : after.table_id ≡ seat.table_id) (n : ℕ) (told : own_seized_list log_seen data_seen seat.me n after.me) where
      abbrev said : (n ≡ 0 → (l : Listing) × (j : LogWork) × ListFits (user_op o.user o.user.step) l
          × OwnStepped log_seen data_seen mine.who o j (answer.Taken None)
          (Some (slot.Pages (list_behind (user_op o.user o.user.step) l))) ((suc i, slot.Pages l) ∷ seat.me.1) seat.me.0
          after.me)
          × (n ≢ 0 → (j : LogWork) × OwnStepped log_seen data_seen mine.who o j answer.Held seat.me.0.held seat.me.1
          seat.me.0 after.me)
      said = told mine.who o (suc i) mine.one mine.own
          (subst (λ (a : Op). TakesList a (suc i)) (sym home.its_op) refl)

      pub list_held : n ≢ 0 → IsAnswering log_seen data_seen table false seat.me.0 after o answer.Held
      list_held busy =
          let t = said.1 busy in
          record {
            step = stepping.has_stepped mine log_seen data_seen after same t.0 answer.Held seat.me.0.held
                seat.me.1 t.1;
            has = (
              alone helps_not home.errand home.asks t.0 answer.Held t.1.fits,
              subst (λ (h : Option ℕ). Carries h after.me)
                  (sym (hand_then helps_not home.errand home.asks t.0 answer.Held ∙ takes_hand.2))
                  (ap (λ (m : Me (Slot L D) (View L D)). m.1) t.1.is ∙ bare),
              no_work helps_not home.errand home.asks t.0 answer.Held,
            );
          }

      module _ (free : n ≡ 0) (k : ℕ) (k_is : k ≡ suc i) where
        pub got : (l : Listing) × (j : LogWork) × ListFits (op.TakeAdd p y) l
            × OwnStepped log_seen data_seen mine.who o j (answer.Taken None)
            (Some (slot.Pages (list_behind (op.TakeAdd p y) l))) ((suc i, slot.Pages l) ∷ seat.me.1) seat.me.0 after.me
        got = subst (λ (a : Op). (l : Listing) × (j : LogWork) × ListFits a l
            × OwnStepped log_seen data_seen mine.who o j (answer.Taken None)
            (Some (slot.Pages (list_behind a l))) ((suc i, slot.Pages l) ∷ seat.me.1) seat.me.0 after.me) home.its_op
            (said.0 free)

        got_slot : after.me.1 ≡ (k, slot.Pages got.0) ∷ []
        got_slot = ap (λ (m : Me (Slot L D) (View L D)). m.1) got.3.is
            ∙ ap (λ (l : List (ℕ × Slot L D)). (suc i, slot.Pages got.0) ∷ l) bare
            ∙ ap (λ (n : ℕ). (n, slot.Pages got.0) ∷ []) (sym k_is)

        pub lends_list : (after.table_id ≡ table) × ((y : Slot L D) × (after.me.1 ≡ (k, y) ∷ rest after.me.1))
        lends_list = (
          same ∙ mine.of,
          (slot.Pages got.0, got_slot ∙ ap (λ (l : List (ℕ × Slot L D)). (k, slot.Pages got.0) ∷ rest l) (sym got_slot)),
        )

        module _ (v : Slot L D) (there : after.me.1 ≡ (k, v) ∷ rest after.me.1) where
          v_is : ◌≡◌ {A = Slot L D} v (slot.Pages got.0)
          v_is = answers.head_is k (slot.Pages got.0) v after.me.1 there got_slot

          pub list_fits : IsPages v (ListFits (op.TakeAdd p y))
          list_fits = (got.0, v_is, got.2)

          module _ (z : Slot L D) (z_is : IsPages v (λ l. z ≡ slot.Pages (list_behind (op.TakeAdd p y) l))) where
            abbrev now : Seat (Slot L D) (View L D)
            now = answers.seat_with after ((k, z) ∷ rest after.me.1)

            pages_same : ◌≡◌ {A = Listing} z_is.0 got.0
            pages_same = same_pages z_is.0 got.0 (sym z_is.1 ∙ v_is)

            carried_now : now.me.1 ≡ (suc i, slot.Pages (list_behind (op.TakeAdd p y) got.0)) ∷ []
            carried_now = ap (λ (q : Slot L D). (k, q) ∷ rest after.me.1)
                (z_is.2 ∙ ap (λ (l : Listing). slot.Pages (list_behind (op.TakeAdd p y) l)) pages_same)
                ∙ ap (λ (l : List (ℕ × Slot L D)). (k, slot.Pages (list_behind (op.TakeAdd p y) got.0)) ∷ rest l) got_slot
                ∙ ap (λ (n : ℕ). (n, slot.Pages (list_behind (op.TakeAdd p y) got.0)) ∷ []) k_is

            pub list_taken : IsAnswering log_seen data_seen table false seat.me.0 now o (answer.Taken None)
            list_taken = record {
              step = stepping.has_stepped mine log_seen data_seen now same got.1 (answer.Taken None)
                  (Some (slot.Pages (list_behind (op.TakeAdd p y) got.0))) now.me.1
                  (record {
                    fits = got.3.fits;
                    shown = got.3.shown;
                    is = ap (λ (m : Me (Slot L D) (View L D)). (m.0, now.me.1)) got.3.is;
                    may = got.3.may;
                  });
              has = (
                alone helps_not home.errand home.asks got.1 (answer.Taken None) got.3.fits,
                subst (λ (h : Option ℕ). Carries h now.me)
                    (sym (hand_then helps_not home.errand home.asks got.1 (answer.Taken None) ∙ takes_hand.1 None)) (
                      list_behind (op.TakeAdd p y) got.0,
                      carried_now,
                      ap (λ (m : Me (Slot L D) (View L D)). m.0.held) got.3.is,
                    ),
                no_work helps_not home.errand home.asks got.1 (answer.Taken None),
              );
            }

  -- GiveList
  module _ (j : ℕ) (asks : OwnAsks seat.me.0 o (op.GiveList j)) where
    home_give : ops.AtHome o k0 (stepping.go mine).in_hand (op.GiveList j)
    home_give = ops.list_home o k0 (stepping.go mine).in_hand (op.GiveList j) tt
        (stepping.its_op mine (op.GiveList j) asks)

    helps_none : helps_at o.user.step ≡ false
    helps_none = hands.give_helps o.user o.user.step j home_give.its_op

    gives_hand : HandledAs (op.GiveList j)
    gives_hand = handled (op.GiveList j) home_give.user_next

    own_list : Carries (Some (suc j)) seat.me
    own_list = subst (λ (h : Option ℕ). Carries h seat.me) gives_hand.0
        (stepping.list_there mine (ap has_work home_give.errand))

    pub give_below : j < 4
    give_below = subst (OpWords seat.me.0.layout) (stepping.its_op mine (op.GiveList j) asks)
        (stepping.go mine).there

    pub give_list_ok : (log_seen : L → Seen) (log_gives : L → Call → L → Type 0) (data_seen : D → Seen)
        (data_gives : D → Call → D → Type 0) (about : About L D) (k : ℕ) → k ≡ 8 + j
        → stepping.Asks mine (op.GiveList j) asks log_seen log_gives data_seen data_gives about k (λ _. 0)
        (own_gave log_seen data_seen seat.me)
    give_list_ok log_seen log_gives data_seen data_gives about k e = (
      mine.of,
      (let w = mine.words in let b = give_below in omega arith),
      subst (λ (n : ℕ). Allows (Ruled log_seen log_gives data_seen data_gives about) table.slots seat.id seat.me n (λ _. 0)
          (own_gave log_seen data_seen seat.me)) (sym e)
          (own_give_list log_seen log_gives data_seen data_gives about table.slots seat.id seat.me mine.who mine.one o
          mine.own j (slot.Pages own_list.0) asks give_below own_list.2 own_list.1),
    )

    pub list_given : (log_seen : L → Seen) (data_seen : D → Seen) (after : Seat (Slot L D) (View L D))
        → after.table_id ≡ seat.table_id → (n : ℕ) → own_gave log_seen data_seen seat.me n after.me
        → IsAnswering log_seen data_seen table false seat.me.0 after o (answer.Taken None)
    list_given log_seen data_seen after same n told =
        let t = told mine.who o mine.one mine.own in
        record {
          step = stepping.has_stepped mine log_seen data_seen after same t.0 (answer.Taken None) None
              (rest seat.me.1) t.2;
          has = (
            alone helps_none home_give.errand home_give.asks t.0 (answer.Taken None) t.2.fits,
            subst (λ (h : Option ℕ). Carries h after.me)
                (sym (hand_then helps_none home_give.errand home_give.asks t.0 (answer.Taken None) ∙ gives_hand.1))
                (ap (λ (m : Me (Slot L D) (View L D)). m.1) t.2.is ∙ ap rest own_list.1),
            no_work helps_none home_give.errand home_give.asks t.0 (answer.Taken None),
          );
        }
