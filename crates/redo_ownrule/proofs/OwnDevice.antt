-- What the taking and the giving of DEVICE, and a call of the log part, ask of the table and leave of a user's seat.
use Rattle.std.proofs.Common.{Bool, List, None, Option, Some, [], ap, arith, false, is_some, refl, subst, sym, true, ℕ, ◌<◌, ◌==◌, ◌∙◌, ◌∷◌, ◌≡◌, ◌≢◌}
use prog.Atomic.{either}
use Rattle.atomic_table.specs.Seated.{TableId}
use Rattle.atomic_table.specs.Table.{Allows, Me, rest}
use Rattle.atomic_table.specs.declared.shared.Seat.{Seat}
use Rattle.model_core.specs.{LogServed, lsn}
use Rattle.model_core.specs.States as model
use Rattle.model_core.specs.declared.ops.Answer.{Answer}
use Rattle.model_core.specs.declared.ops.Answer.TheVariants as answer
use Rattle.model_core.specs.declared.ops.Op.{Op}
use Rattle.model_core.specs.declared.ops.Op.TheVariants as op
use Rattle.model_own.specs.{LogWork, own_goes_on, own_lends, own_next, OwnUser, errand_lends, own_step_of, has_work}
use Rattle.model_own.specs.declared.errand.ErrandStep.{ErrandStep}
use Rattle.model_own.specs.declared.errand.ErrandStep.TheVariants as errand_step
use Rattle.redo_disk.specs.{Call, EndWith, MakesCalls, Seen}
use Rattle.redo_drive.specs.{call_code, LogReady}
use Rattle.redo_drive.specs.LogPartSide as log_part
use Rattle.redo_drive.specs.declared.device.Device.TheVariants.{Log}
use Rattle.redo_logdev.specs.Part as log
use Rattle.redo_ownrule.proofs.OwnAnswers as answers
use Rattle.redo_ownrule.proofs.OwnCalls.{answer_by, IsWorkCall, own_calls}
use Rattle.redo_ownrule.proofs.OwnCalls as calls
use Rattle.redo_ownrule.proofs.OwnDesk.{same_work}
use Rattle.redo_ownrule.proofs.OwnGives.{own_give}
use Rattle.redo_ownrule.proofs.OwnOps as ops
use Rattle.redo_ownrule.proofs.OwnTakes as takes
use Rattle.redo_ownrule.proofs.OwnUserHands as hands
use Rattle.redo_ownrule.specs.OwnMine.{CarriesWork, HasStepped, IsAnswering, KeepsOwnSeat, OwnHasPlayed, OwnMine}
use Rattle.redo_ownrule.specs.OwnPlays.{HasWork, own_called, own_gave, own_seized, OwnMayGo, OwnStepped, with_work}
use Rattle.redo_ownrule.specs.OwnSlots.{MayTakeIn, TookIn, MayWriteIn}
use Rattle.redo_ownrule.specs.Playing.{OwnAsks}
use Rattle.redo_rule.proofs.Kept.{same_desk, same_slot}
use Rattle.redo_rule.specs.Plays.{Carries, taking}
use Rattle.redo_rule.specs.Ruled.{Ruled}
use Rattle.redo_rule.specs.declared.law.About.{About}
use Rattle.redo_rule.specs.declared.law.Desk.{Desk}
use Rattle.redo_rule.specs.declared.law.Slot.{Slot}
use Rattle.redo_rule.specs.declared.law.Slot.TheVariants as slot
use Rattle.redo_rule.specs.declared.law.View.{View}
use Rattle.redo_ownrule.proofs.OwnStepping as stepping
use Rattle.redo_rule.specs.Slots.{IsLog}
use Rattle.redo_words.specs.{Lends}
use Rattle.redo_words.specs.declared.lent.Lent.{Lent}
use Rattle.redo_words.specs.declared.lent.Lent.TheVariants as lent
use Rattle.model_core.specs.declared.ops.Step.{Step}

module _ {L D : Type 0} {table : TableId} {seat : Seat (Slot L D) (View L D)} {o : OwnUser}
    (mine : OwnMine table seat o) where
  abbrev k0 : LogWork
  k0 = (stepping.some_work mine).0

  -- TakeDevice
  module _ (asks : OwnAsks seat.me.0 o op.TakeDevice) where
    taking_it : (o.errand ≡ errand_step.TakeDevice) × (o.user.checks ≡ false)
    taking_it = ops.takes_it o k0 (stepping.go mine).in_hand (stepping.its_op mine op.TakeDevice asks)

    none : has_work o.errand ≡ false
    none = ap has_work taking_it.0

    pub bare : seat.me.1 ≡ []
    bare = subst (λ (h : Option ℕ). Carries h seat.me) (hands.device_holds o k0 taking_it.0 mine.stands)
        (stepping.list_there mine none)

    pub take_ok : (log_seen : L → Seen) (log_gives : L → Call → L → Type 0) (data_seen : D → Seen)
        (data_gives : D → Call → D → Type 0) (about : About L D)
        → stepping.Asks mine op.TakeDevice asks log_seen log_gives data_seen data_gives about 7
        (λ n. either (n == 0) 1 n) (own_seized log_seen data_seen seat.me)
    take_ok log_seen log_gives data_seen data_gives about = (
      mine.of,
      (let w = mine.words in omega arith),
      takes.own_take log_seen log_gives data_seen data_gives about table.slots seat.id seat.me mine.who mine.one o mine.own
          asks,
    )

    module _ (log_seen : L → Seen) (data_seen : D → Seen) (after : Seat (Slot L D) (View L D))
        (same : after.table_id ≡ seat.table_id) (n : ℕ) (told : own_seized log_seen data_seen seat.me n after.me) where
      pub took_held : n ≢ 0 → IsAnswering log_seen data_seen table false seat.me.0 after o answer.Held
      took_held busy =
          let t = (told mine.who o mine.one mine.own).1 busy in
          let none_then = hands.device_leaves o t.0 answer.Held taking_it.1 taking_it.0 mine.stands in
          record {
            step = stepping.has_stepped mine log_seen data_seen after same t.0 answer.Held seat.me.0.held
                seat.me.1 t.1;
            has = (
              stepping.alone_fits o t.0 answer.Held none (λ e c. tt) t.1.fits,
              subst (λ (h : Option ℕ). Carries h after.me) (sym none_then)
                  (ap (λ (m : Me (Slot L D) (View L D)). m.1) t.1.is ∙ bare),
              ap (λ (z : OwnUser × LogWork). has_work z.0.errand) (takes.waits o t.0 taking_it.1 taking_it.0),
            );
          }

      module _ (free : n ≡ 0) where
        abbrev got : (desk : Desk L) × (k : LogWork) × (desk.work ≡ Some k)
            × OwnStepped log_seen data_seen mine.who o k (taking (is_some desk.part.failed))
            (Some (slot.Log (with_work desk (own_goes_on o k (taking (is_some desk.part.failed))).1)))
            ((0, slot.Log desk) ∷ seat.me.1) seat.me.0 after.me
        got = (told mine.who o mine.one mine.own).0 free

        pub desk : Desk L
        desk = got.0

        abbrev said : Answer
        said = taking (is_some got.0.part.failed)

        pub got_slot : after.me.1 ≡ (0, slot.Log got.0) ∷ []
        got_slot = ap (λ (m : Me (Slot L D) (View L D)). m.1) got.3.is
            ∙ ap (λ (l : List (ℕ × Slot L D)). (0, slot.Log got.0) ∷ l) bare

        pub lends_got : (after.table_id ≡ table) × ((y : Slot L D) × (after.me.1 ≡ (0, y) ∷ rest after.me.1))
        lends_got = (
          same ∙ mine.of,
          (slot.Log got.0, got_slot ∙ ap (λ (l : List (ℕ × Slot L D)). (0, slot.Log got.0) ∷ rest l) (sym got_slot)),
        )

        module _ (y : Slot L D) (there : after.me.1 ≡ (0, y) ∷ rest after.me.1) where
          pub y_is : ◌≡◌ {A = Slot L D} y (slot.Log got.0)
          y_is = answers.head_is 0 (slot.Log got.0) y after.me.1 there got_slot

          pub is_log : IsLog y (λ p. Unit {0})
          is_log = (got.0, y_is, tt)

          pub took_free : (r : Answer) → ((d : Desk L) → y ≡ slot.Log d → r ≡ taking (is_some d.part.failed))
              → IsAnswering log_seen data_seen table true seat.me.0 (answers.seat_with after ((0, y) ∷ rest after.me.1)) o r
          took_free r r_is =
              subst (λ (l : List (ℕ × Slot L D)).
              IsAnswering log_seen data_seen table true seat.me.0 (answers.seat_with after l) o r) there
              (subst (λ (z : Answer). IsAnswering log_seen data_seen table true seat.me.0 after o z) (sym (r_is got.0 y_is))
              (record {
                step = stepping.has_stepped mine log_seen data_seen after same got.1 said
                    (Some (slot.Log (with_work got.0 (own_goes_on o got.1 said).1))) ((0, slot.Log got.0) ∷ seat.me.1) got.3;
                has = (
                  got.0,
                  got.2,
                  ap (λ (l : List (ℕ × Slot L D)). (0, slot.Log got.0) ∷ l) bare,
                  refl,
                  takes.took o got.1 (is_some got.0.part.failed) taking_it.1 taking_it.0,
                );
              }))

  -- with the log's work in hand
  module _ (has : has_work o.errand ≡ true) where
    abbrev w : (desk : Desk L) × (k : LogWork) × (desk.work ≡ Some k) × (seat.me.1 ≡ (0, slot.Log desk) ∷ [])
        × (seat.me.0.held ≡ Some (slot.Log desk))
    w = stepping.work_there mine has

    pub has_w : HasWork seat.me.0.held o w.1
    has_w z = (w.0, w.4, w.2)

    pub lends_work : (seat.table_id ≡ table) × ((y : Slot L D) × (seat.me.1 ≡ (0, y) ∷ rest seat.me.1))
    lends_work = (
      mine.of,
      (slot.Log w.0, w.3 ∙ ap (λ (l : List (ℕ × Slot L D)). (0, slot.Log w.0) ∷ rest l) (sym w.3)),
    )

    pub the_slot : (y : Slot L D) → seat.me.1 ≡ (0, y) ∷ rest seat.me.1 → ◌≡◌ {A = Slot L D} y (slot.Log w.0)
    the_slot y there = answers.head_is 0 (slot.Log w.0) y seat.me.1 there w.3

    pub only_work : (k : LogWork) → HasWork seat.me.0.held o k → k ≡ w.1
    only_work k h = let d = h has in
        same_work k w.1 (sym d.2 ∙ ap (λ (q : Desk L). q.work) (same_desk d.0 w.0 (same_slot (slot.Log d.0) (slot.Log w.0)
        (sym d.1 ∙ w.4))) ∙ w.2)

    rest_none : rest seat.me.1 ≡ []
    rest_none = ap rest w.3

    pub carried_with : (z : Slot L D) (d : Desk L) → z ≡ slot.Log d → (0, z) ∷ rest seat.me.1 ≡ (0, slot.Log d) ∷ []
    carried_with z d is = ap (λ (q : Slot L D). (0, q) ∷ rest seat.me.1) is
        ∙ ap (λ (l : List (ℕ × Slot L D)). (0, slot.Log d) ∷ l) rest_none

  -- GiveDevice
  module _ (asks : OwnAsks seat.me.0 o op.GiveDevice) where
    giving : (has_work o.errand ≡ true) × (o.user.checks ≡ false)
    giving = ops.part_work o k0 (stepping.go mine).in_hand op.GiveDevice tt
        (stepping.its_op mine op.GiveDevice asks)

    pub give_has : has_work o.errand ≡ true
    give_has = giving.0

    abbrev d : (desk : Desk L) × (k : LogWork) × (desk.work ≡ Some k) × (seat.me.1 ≡ (0, slot.Log desk) ∷ [])
        × (seat.me.0.held ≡ Some (slot.Log desk))
    d = w give_has

    its_give : own_next o d.1 ≡ op.GiveDevice
    its_give = asks d.1 (has_w give_has)

    go_give : OwnMayGo seat.me.0.layout seat.me.0.held o d.1
    go_give = mine.may d.1 (has_w give_has)

    abbrev q : Answer
    q = answer.Taken None

    module _ (y : Slot L D) (there : seat.me.1 ≡ (0, y) ∷ rest seat.me.1) where
      pub give_takes : MayTakeIn y o q
      give_takes = record {
        work = d.1;
        lies = record { desk = d.0; is = the_slot give_has y there; its = d.2 };
        fits = go_give.give its_give;
        stands = mine.stands;
      }

      module _ (z : Slot L D) (x : OwnUser) (step : Step) (T : TookIn y z o x q step) where
        desk_same : ◌≡◌ {A = Desk L} T.lies.desk d.0
        desk_same = same_desk T.lies.desk d.0 (sym T.lies.is ∙ the_slot give_has y there)

        work_same : T.work ≡ d.1
        work_same = same_work T.work d.1 (sym T.lies.its ∙ ap (λ (e : Desk L). e.work) desk_same ∙ d.2)

        z_is : ◌≡◌ {A = Slot L D} z (slot.Log (with_work d.0 (own_goes_on o d.1 q).1))
        z_is = T.now
            ∙ ap (λ (e : Desk L). slot.Log (with_work e (own_goes_on o T.work q).1)) desk_same
            ∙ ap (λ (k : LogWork). slot.Log (with_work d.0 (own_goes_on o k q).1)) work_same

        abbrev me_now : Me (Slot L D) (View L D)
        me_now = (seat.me.0, (0, z) ∷ rest seat.me.1)

        pub give_ok : (log_seen : L → Seen) (log_gives : L → Call → L → Type 0) (data_seen : D → Seen)
            (data_gives : D → Call → D → Type 0) (about : About L D)
            → (seat.table_id ≡ table) × (7 < table.words)
            × Allows (Ruled log_seen log_gives data_seen data_gives about) table.slots seat.id me_now 7 (λ _. 0)
            (own_gave log_seen data_seen me_now)
        give_ok log_seen log_gives data_seen data_gives about = (
          mine.of,
          (let w = mine.words in omega arith),
          own_give log_seen log_gives data_seen data_gives about table.slots seat.id me_now mine.who mine.one o mine.own
              d.0 d.1 asks d.4 d.2 (carried_with give_has z (with_work d.0 (own_goes_on o d.1 q).1) z_is),
        )

        module _ (log_seen : L → Seen) (data_seen : D → Seen) (after : Seat (Slot L D) (View L D))
            (same : after.table_id ≡ seat.table_id) (n : ℕ) (told : own_gave log_seen data_seen me_now n after.me) where
          abbrev t : (k : LogWork) × HasWork seat.me.0.held o k
              × OwnStepped log_seen data_seen mine.who o k q None (rest me_now.1) seat.me.0 after.me
          t = told mine.who o mine.one mine.own

          abbrev H : HasStepped log_seen data_seen table seat.me.0 after o q
          H = stepping.has_stepped mine log_seen data_seen after same t.0 q None (rest me_now.1) t.2

          same_t : T.work ≡ t.0
          same_t = work_same ∙ sym (only_work give_has t.0 t.1)

          x_is : x ≡ (own_goes_on o t.0 q).0
          x_is = T.user ∙ ap (λ (k : LogWork). (own_goes_on o k q).0) same_t

          no_work : has_work (own_goes_on o t.0 q).0.errand ≡ false
          no_work = ops.gives_up o t.0 (mine.may t.0 t.1).in_hand (asks t.0 t.1)

          pub gave_mine : OwnMine table after x
          gave_mine = subst (OwnMine table after) (sym x_is)
              (answers.mine_with log_seen data_seen table seat.me.0 after o q H after.me.1
              (subst (λ (b : Bool). CarriesWork b (model.User (own_goes_on o t.0 q).0.user) after.me) (sym no_work)
              (subst (λ (h : Option ℕ). Carries h after.me) (sym (hands.work_leaves o t.0 q give_has mine.stands))
              (ap (λ (m : Me (Slot L D) (View L D)). m.1) t.2.is ∙ rest_none give_has)))
              (λ j h with. let z : true ≡ false = sym with ∙ no_work in absurd (cc)))

          pub gave_played : OwnHasPlayed log_seen data_seen seat.me.0 o step x × KeepsOwnSeat seat.me.0 after.me.0
          gave_played = (
            answers.has_played log_seen data_seen table seat.me.0 after o q H x step x_is
                (T.ends ∙ ap (λ (k : LogWork). own_step_of o k q) same_t),
            answers.keeps_seat log_seen data_seen table seat.me.0 after o q H,
          )

  -- A CALL of the log part
  module _ (a : Op) (is_call : IsWorkCall a) (asks : OwnAsks seat.me.0 o a) where
    pub call_has : has_work o.errand ≡ true
    call_has = calls.call_work o k0 (stepping.go mine).in_hand a is_call
        (stepping.its_op mine a asks)

    abbrev c : (desk : Desk L) × (k : LogWork) × (desk.work ≡ Some k) × (seat.me.1 ≡ (0, slot.Log desk) ∷ [])
        × (seat.me.0.held ≡ Some (slot.Log desk))
    c = w call_has

    pub its_call : own_next o c.1 ≡ a
    its_call = asks c.1 (has_w call_has)

    pub go_call : OwnMayGo seat.me.0.layout seat.me.0.held o c.1
    go_call = mine.may c.1 (has_w call_has)

    pub ready : (l : Lent) → Lends l (own_lends o c.1) → LogReady c.0.part l a
    ready l lends = subst (LogReady c.0.part l) its_call (go_call.log c.0 c.4 call_has l lends)

    module _ (y : Slot L D) (there : seat.me.1 ≡ (0, y) ∷ rest seat.me.1) (z : Slot L D) (p q : Desk L) (y_is : y ≡ slot.Log p)
        (z_is : z ≡ slot.Log q) where
      p_is : ◌≡◌ {A = Desk L} p c.0
      p_is = same_desk p c.0 (sym y_is ∙ the_slot call_has y there)

      pub p_work : p.work ≡ Some c.1
      p_work = ap (λ (e : Desk L). e.work) p_is ∙ c.2

      p_held : seat.me.0.held ≡ Some (slot.Log p)
      p_held = c.4 ∙ ap (λ (e : Desk L). Some (slot.Log e)) (sym p_is)

      abbrev me_called : Me (Slot L D) (View L D)
      me_called = (seat.me.0, (0, z) ∷ rest seat.me.1)

      bare_called : me_called.1 ≡ (0, slot.Log q) ∷ []
      bare_called = carried_with call_has z q z_is

      pub call_ok : (log_seen : L → Seen) (log_gives : L → Call → L → Type 0) (data_seen : D → Seen)
          (data_gives : D → Call → D → Type 0) (about : About L D)
          → ((faults start : ℕ) (first : log.Part L)
          → LogServed (log_part.log_side log_seen faults first.marks.number (log_part.HasBegun log_seen start first)) p.part
          (own_lends o c.1) a (call_code Log q.part.failed) q.part)
          → MakesCalls log_gives p.part.dev q.part.dev (EndWith q.part.failed) → p.part.failed ≡ None
          → (seat.table_id ≡ table) × (0 < table.words)
          × Allows (Ruled log_seen log_gives data_seen data_gives about) table.slots seat.id me_called 0 (λ n. n)
          (own_called log_seen data_seen me_called)
      call_ok log_seen log_gives data_seen data_gives about served makes live = (
        mine.of,
        (let w = mine.words in omega arith),
        own_calls log_seen log_gives data_seen data_gives about table.slots seat.id me_called mine.who mine.one o mine.own 0
            a is_call p q c.1 asks p_held p_work bare_called
            (λ run. served (log_seen run.first_log.dev).faults (lsn run.setup.base) run.first_log) makes live,
      )

      pub called : (log_seen : L → Seen) (data_seen : D → Seen) (after : Seat (Slot L D) (View L D))
          → after.table_id ≡ seat.table_id → (n : ℕ) → own_called log_seen data_seen me_called n after.me
          → q.work ≡ p.work → (r : Answer) → r ≡ answer_by q a
          → IsAnswering log_seen data_seen table true seat.me.0 after o r
      called log_seen data_seen after same n told stays r r_is =
          let t = told mine.who o q mine.one mine.own bare_called in
          let op_is : own_next o t.0 ≡ a = asks t.0 t.1 in
          let s : Answer = answer_by q (own_next o t.0) in
          let said : s ≡ r = ap (λ (e : Op). answer_by q e) op_is ∙ sym r_is in
          subst (λ (e : Answer). IsAnswering log_seen data_seen table true seat.me.0 after o e) said
          (record {
            step = stepping.has_stepped mine log_seen data_seen after same t.0 s
                (Some (slot.Log (with_work q (own_goes_on o t.0 s).1))) me_called.1 t.2;
            has = (
              q,
              stays ∙ p_work ∙ ap (λ (k : LogWork). Some k) (sym (only_work call_has t.0 t.1)),
              bare_called,
              refl,
              calls.call_keeps o t.0 (mine.may t.0 t.1).in_hand a is_call op_is s,
            );
          })

  -- what a write and a sync ask of the part
  pub write_takes : (t : ℕ) (asks : OwnAsks seat.me.0 o (op.WriteTo t)) (y : Slot L D) → seat.me.1 ≡ (0, y) ∷ rest seat.me.1
      → MayWriteIn y o t
  write_takes t asks y there =
      let h = call_has (op.WriteTo t) tt asks in
      record {
        desk = (w h).0;
        is = the_slot h y there;
        may = record { work = (w h).1; its = (w h).2; may = ready (op.WriteTo t) tt asks };
      }

  pub sync_takes : (asks : OwnAsks seat.me.0 o op.Sync) (y : Slot L D) → seat.me.1 ≡ (0, y) ∷ rest seat.me.1
      → IsLog y (λ p. p.failed ≡ None)
  sync_takes asks y there =
      let h = call_has op.Sync tt asks in
      let is = ops.sync_errand o (w h).1 (mine.may (w h).1 (has_w h)).in_hand (asks (w h).1 (has_w h)) in (
        (w h).0,
        the_slot h y there,
        ready op.Sync tt asks lent.Nothing
            (subst (λ (x : ErrandStep). Lends lent.Nothing (errand_lends (w h).1 x)) (sym is) tt),
      )

  pub sync_live : (asks : OwnAsks seat.me.0 o op.Sync) (y : Slot L D) → seat.me.1 ≡ (0, y) ∷ rest seat.me.1 → (p : Desk L)
      → y ≡ slot.Log p → p.part.failed ≡ None
  sync_live asks y there p is =
      let s = sync_takes asks y there in
      ap (λ (e : Desk L). e.part.failed) (same_desk p s.0 (sym is ∙ s.1)) ∙ s.2
