-- What each step of a user that writes for itself asks of the table and leaves of its seat.
use Rattle.std.proofs.Common.{Bool, List, Option, Some, [], ap, arith, cond, eqb, false, refl, subst, sym, true, ℕ, ◌%◌, ◌+◌, ◌<◌, ◌==◌, ◌^◌, ◌∙◌, ◌∷◌, ◌≡◌}
use prog.Atomic.{either}
use Rattle.atomic_table.specs.Seated.{TableId}
use Rattle.atomic_table.specs.Table.{Allows, Me}
use Rattle.atomic_table.specs.declared.shared.Seat.{Seat}
use Rattle.model_core.proofs.TurnWords.{IsOffTurns, next_off}
use Rattle.model_core.proofs.WordNumbers.{index_below}
use Rattle.model_core.specs.{flusher_op, index, IsWord, new_flusher, new_writer, OnWord, OpWords, user_op, writer_op, AnswerFits, hand}
use Rattle.model_core.specs.States as model
use Rattle.model_core.specs.declared.ops.Answer.{Answer}
use Rattle.model_core.specs.declared.ops.Answer.TheVariants as answer
use Rattle.model_core.specs.declared.ops.Op.{Op}
use Rattle.model_core.specs.declared.ops.Op.TheVariants as op
use Rattle.model_core.specs.declared.words.Word.{Word}
use Rattle.model_core.specs.declared.words.Word.TheVariants as word
use Rattle.model_own.specs.{errand_op, LogWork, own_goes_on, own_next, OwnUser, has_work}
use Rattle.model_own.specs.declared.errand.ErrandStep.{ErrandStep}
use Rattle.model_own.specs.declared.errand.ErrandStep.TheVariants as errand_step
use Rattle.redo_disk.specs.{Call, Seen}
use Rattle.redo_ownrule.proofs.OwnAllowed.{held_aside, held_hand, own_word}
use Rattle.redo_ownrule.proofs.OwnOps as ops
use Rattle.redo_ownrule.proofs.OwnUserHands as hands
use Rattle.redo_ownrule.proofs.OwnWords.{keeps_work, stays_aside}
use Rattle.redo_ownrule.specs.OwnMine.{CarriesWork, HasStepped, IsAnswering, OwnMine}
use Rattle.redo_ownrule.specs.OwnPlays.{HasWork, held_behind, own_saw, OwnMayGo, OwnStepped, with_work}
use Rattle.redo_ownrule.specs.Playing.{OwnAsks}
use Rattle.redo_ownuser.specs.OwnFits.{AloneErrandFits, AloneFits, ErrandAnswerFits, IsNotTaken, OwnAnswerFits, WorkGoesOn}
use Rattle.redo_rule.proofs.Kept.{same_desk, same_slot}
use Rattle.redo_rule.proofs.Stepping.{carries_same}
use Rattle.redo_rule.proofs.Words.{plain_off, swapped}
use Rattle.redo_rule.specs.Plays.{Carries}
use Rattle.redo_rule.specs.Ruled.{Ruled}
use Rattle.redo_rule.specs.declared.law.About.{About}
use Rattle.redo_rule.specs.declared.law.Desk.{Desk}
use Rattle.redo_rule.specs.declared.law.Slot.{Slot}
use Rattle.redo_rule.specs.declared.law.Slot.TheVariants as slot
use Rattle.redo_rule.specs.declared.law.View.{View}
use Rattle.std.proofs.lemmas.List.{set-get_or}
use Rattle.std.specs.Prelude.{slice_index, slice_set}

-- which answers it takes without the log's work
pub alone_fits : (o : OwnUser) (k : LogWork) (r : Answer) → has_work o.errand ≡ false
    → (o.errand ≡ errand_step.TakeDevice → o.user.checks ≡ false → IsNotTaken r) → OwnAnswerFits o k r → AloneFits o r
alone_fits o k r none takes fits = by o.user.checks o.errand refl refl none fits
  where
    by : (b : Bool) (x : ErrandStep) → o.user.checks ≡ b → o.errand ≡ x → has_work x ≡ false
        → cond b (AnswerFits (model.User o.user) r) (ErrandAnswerFits o k r x)
        → cond b (AnswerFits (model.User o.user) r) (AloneErrandFits o r x)
    by true x c is none fits = fits
    by false errand_step.Done c is none fits = fits
    by false errand_step.TakeDevice c is none fits = takes is c
    by false _ c is none fits = absurd (cc)

-- none of its Ops is on a turn word
own_off : (o : OwnUser) (k : LogWork) → WorkGoesOn o.errand k → IsOffTurns (own_next o k)
own_off o k on = by o.user.checks o.errand refl on
  where
    by : (b : Bool) (x : ErrandStep) → o.user.checks ≡ b → WorkGoesOn x k
        → IsOffTurns (cond b (op.Load word.Failed) (errand_op o k x))
    by true x c on = tt
    by false errand_step.Done c on = subst (λ (b : Bool). IsOffTurns (cond b (op.Load word.Failed)
        (user_op o.user o.user.step))) c (next_off (model.User o.user))
    by false errand_step.TakeDevice c on = tt
    by false errand_step.GiveBroken c on = tt
    by false errand_step.Write c on = subst (λ (b : Bool). IsOffTurns (cond b (op.Load word.Failed)
        (writer_op k.writer k.writer.step))) on (next_off (model.Writer k.writer))
    by false errand_step.Flush c on = subst (λ (b : Bool). IsOffTurns (cond b (op.Load word.Failed)
        (flusher_op k.flusher k.flusher.step))) on (next_off (model.Flusher k.flusher))

module _ {L D : Type 0} {table : TableId} {seat : Seat (Slot L D) (View L D)} {o : OwnUser}
    (mine : OwnMine table seat o) where
  -- what it carries
  pub work_there : has_work o.errand ≡ true → (desk : Desk L) × (k : LogWork) × (desk.work ≡ Some k)
      × (seat.me.1 ≡ (0, slot.Log desk) ∷ []) × (seat.me.0.held ≡ Some (slot.Log desk))
  work_there has = subst (λ (b : Bool). CarriesWork b (model.User o.user) seat.me) has mine.carries

  pub list_there : has_work o.errand ≡ false → Carries (hand (model.User o.user)) seat.me
  list_there none = subst (λ (b : Bool). CarriesWork b (model.User o.user) seat.me) none mine.carries

  -- some log's work that it may have in hand
  pub some_work : (k : LogWork) × HasWork seat.me.0.held o k
  some_work = by (has_work o.errand) refl
    where
      by : (b : Bool) → has_work o.errand ≡ b → (k : LogWork) × HasWork seat.me.0.held o k
      by true has = let d = work_there has in (d.1, λ _. (d.0, d.4, d.2))
      by false none = (
        record { writer = new_writer 0 0; flusher = new_flusher 0 },
        λ has. let z : true ≡ false = sym has ∙ none in absurd (cc),
      )

  pub go : OwnMayGo seat.me.0.layout seat.me.0.held o some_work.0
  go = mine.may some_work.0 some_work.1

  module _ (a : Op) (asks : OwnAsks seat.me.0 o a) where
    pub its_op : own_next o some_work.0 ≡ a
    its_op = asks some_work.0 some_work.1

    pub word_below : (w : Word) → (OpWords seat.me.0.layout a → IsWord seat.me.0.layout w) → index seat.me.0.layout w < table.words
    word_below w names = subst (λ (n : ℕ). index seat.me.0.layout w < n) (sym mine.words)
        (index_below seat.me.0.layout w (names (subst (OpWords seat.me.0.layout) its_op go.there)))

    off_turns : IsOffTurns a
    off_turns = subst IsOffTurns its_op (own_off o some_work.0 go.goes_on)

    module _ (log_seen : L → Seen) (log_gives : L → Call → L → Type 0) (data_seen : D → Seen)
        (data_gives : D → Call → D → Type 0) (about : About L D) where
      abbrev pub Asks : ℕ → (ℕ → ℕ) → (ℕ → Me (Slot L D) (View L D) → Type 0) → Type 0
      Asks i f then = (seat.table_id ≡ table) × (i < table.words)
          × Allows (Ruled log_seen log_gives data_seen data_gives about) table.slots seat.id seat.me i f then

      at_word : (w : Word) (i : ℕ) (f : ℕ → ℕ) → (OpWords seat.me.0.layout a → IsWord seat.me.0.layout w) → i ≡ index seat.me.0.layout w
          → Allows (Ruled log_seen log_gives data_seen data_gives about) table.slots seat.id seat.me (index seat.me.0.layout w) f
          (own_saw log_seen data_seen seat.me)
          → Asks i f (own_saw log_seen data_seen seat.me)
      at_word w i f names e allows = (
        mine.of,
        (let b = word_below w names in omega arith),
        subst (λ (k : ℕ). Allows (Ruled log_seen log_gives data_seen data_gives about) table.slots seat.id seat.me k f
            (own_saw log_seen data_seen seat.me)) (sym e) allows,
      )

  module _ (log_seen : L → Seen) (log_gives : L → Call → L → Type 0) (data_seen : D → Seen)
      (data_gives : D → Call → D → Type 0) (about : About L D) where
    pub load_ok : (w : Word) (i : ℕ) (asks : OwnAsks seat.me.0 o (op.Load w)) → i ≡ index seat.me.0.layout w
        → Asks (op.Load w) asks log_seen log_gives data_seen data_gives about i (λ n. n) (own_saw log_seen data_seen seat.me)
    load_ok w i asks e = at_word (op.Load w) asks log_seen log_gives data_seen data_gives about w i (λ n. n) (λ z. z) e
        (own_word log_seen log_gives data_seen data_gives about table.slots seat.id seat.me mine.who mine.one o mine.own
        (op.Load w) (index seat.me.0.layout w) (λ n. n) asks tt (plain_off seat.me.0.layout w (off_turns (op.Load w) asks))
        (λ ws _. set-get_or ws (index seat.me.0.layout w) 0) (λ ws. refl))

    pub store_ok : (w : Word) (x i : ℕ) (asks : OwnAsks seat.me.0 o (op.Store w x)) → i ≡ index seat.me.0.layout w
        → Asks (op.Store w x) asks log_seen log_gives data_seen data_gives about i (λ _. x)
        (own_saw log_seen data_seen seat.me)
    store_ok w x i asks e = at_word (op.Store w x) asks log_seen log_gives data_seen data_gives about w i (λ _. x) (λ z. z)
        e (own_word log_seen log_gives data_seen data_gives about table.slots seat.id seat.me mine.who mine.one o mine.own
        (op.Store w x) (index seat.me.0.layout w) (λ _. x) asks tt (plain_off seat.me.0.layout w (off_turns (op.Store w x) asks))
        (λ ws _. refl) (λ ws. refl))

    pub add_ok : (w : Word) (x i : ℕ) (asks : OwnAsks seat.me.0 o (op.Add w x)) → i ≡ index seat.me.0.layout w
        → Asks (op.Add w x) asks log_seen log_gives data_seen data_gives about i (λ n. (n + x) % 2 ^ 64)
        (own_saw log_seen data_seen seat.me)
    add_ok w x i asks e = at_word (op.Add w x) asks log_seen log_gives data_seen data_gives about w i
        (λ n. (n + x) % 2 ^ 64) (λ z. z) e
        (own_word log_seen log_gives data_seen data_gives about table.slots seat.id seat.me mine.who mine.one o mine.own
        (op.Add w x) (index seat.me.0.layout w) (λ n. (n + x) % 2 ^ 64) asks tt (plain_off seat.me.0.layout w (off_turns (op.Add w x) asks))
        (λ ws sum. ap (slice_set ws (index seat.me.0.layout w)) (let e : (slice_index ws (index seat.me.0.layout w) + x) % 2 ^ 64 ≡ slice_index ws (index seat.me.0.layout w) + x
        = omega arith in e)) (λ ws. refl))

    pub swap_ok : (w : Word) (x y i : ℕ) (asks : OwnAsks seat.me.0 o (op.Swap w x y)) → i ≡ index seat.me.0.layout w
        → Asks (op.Swap w x y) asks log_seen log_gives data_seen data_gives about i (λ n. either (n == x) y n)
        (own_saw log_seen data_seen seat.me)
    swap_ok w x y i asks e = at_word (op.Swap w x y) asks log_seen log_gives data_seen data_gives about w i
        (λ n. either (n == x) y n) (λ z. z) e
        (own_word log_seen log_gives data_seen data_gives about table.slots seat.id seat.me mine.who mine.one o mine.own
        (op.Swap w x y) (index seat.me.0.layout w) (λ n. either (eqb n x) y n) asks tt (plain_off seat.me.0.layout w (off_turns (op.Swap w x y) asks))
        (λ ws _. swapped ws (index seat.me.0.layout w) x y) (λ ws. refl))

  module _ (log_seen : L → Seen) (data_seen : D → Seen) (after : Seat (Slot L D) (View L D))
      (same : after.table_id ≡ seat.table_id) where
    abbrev pub has_stepped : (k : LogWork) (r : Answer) (held : Option (Slot L D)) (carried : List (ℕ × Slot L D))
        → OwnStepped log_seen data_seen mine.who o k r held carried seat.me.0 after.me
        → HasStepped log_seen data_seen table seat.me.0 after o r
    has_stepped k r held carried stepped = record {
      of = same ∙ mine.of;
      slots = mine.slots;
      words = mine.words;
      who = mine.who;
      was = mine.one;
      stands = mine.stands;
      work = k;
      held = held;
      carried = carried;
      stepped = stepped;
    }

    -- AFTER AN OP ON A WORD
    pub sees : (a : Op) → OwnAsks seat.me.0 o a → OnWord a → (n : ℕ) → own_saw log_seen data_seen seat.me n after.me
        → IsAnswering log_seen data_seen table (has_work o.errand) seat.me.0 after o (answer.Old n)
    sees a asks on n told =
        let t = told mine.who o mine.one mine.own in
        record {
          step = has_stepped t.0 (answer.Old n) (held_behind seat.me.0.held o (own_goes_on o t.0 (answer.Old n)).1)
              seat.me.1 t.2;
          has = by t.0 t.1 t.2 (has_work o.errand) refl;
        }
      where
        by : (k : LogWork) (has : HasWork seat.me.0.held o k)
            → OwnStepped log_seen data_seen mine.who o k (answer.Old n)
            (held_behind seat.me.0.held o (own_goes_on o k (answer.Old n)).1) seat.me.1 seat.me.0 after.me
            → (b : Bool) → has_work o.errand ≡ b → cond b
            ((desk : Desk L) × (desk.work ≡ Some k) × (seat.me.1 ≡ (0, slot.Log desk) ∷ [])
            × (held_behind seat.me.0.held o (own_goes_on o k (answer.Old n)).1
            ≡ Some (slot.Log (with_work desk (own_goes_on o k (answer.Old n)).1)))
            × (has_work (own_goes_on o k (answer.Old n)).0.errand ≡ true))
            (AloneFits o (answer.Old n) × Carries (hand (model.User (own_goes_on o k (answer.Old n)).0.user)) after.me
            × (has_work (own_goes_on o k (answer.Old n)).0.errand ≡ false))
        by k has stepped true is =
            let d = has is in
            let w = work_there is in
            let go_k = mine.may k has in
            let same_d : ◌≡◌ {A = Desk L} w.0 d.0 = same_desk w.0 d.0 (same_slot (slot.Log w.0) (slot.Log d.0) (sym w.4 ∙ d.1)) in (
              d.0,
              d.2,
              w.3 ∙ ap (λ (q : Desk L). (0, slot.Log q) ∷ []) same_d,
              held_hand seat.me.0.held d.0 o (own_goes_on o k (answer.Old n)).1 is d.1,
              keeps_work o k n is (ops.no_check o k go_k.in_hand is mine.stands) (ops.no_look o k go_k.in_hand)
                  (subst OnWord (sym (asks k has)) on),
            )
        by k has stepped false is =
            let on_k = subst OnWord (sym (asks k has)) on in (
              alone_fits o k (answer.Old n) is (λ e c. tt) stepped.fits,
              subst (λ (h : Option ℕ). Carries h after.me) (sym (hands.word_holds o k n mine.free is on_k))
                  (carries_same (hand (model.User o.user)) seat.me after.me
                  (sym (ap (λ (m : Me (Slot L D) (View L D)). m.1) stepped.is))
                  (sym (ap (λ (m : Me (Slot L D) (View L D)). m.0.held) stepped.is
                  ∙ held_aside seat.me.0.held o (own_goes_on o k (answer.Old n)).1 is))
                  (list_there is)),
              (stays_aside o k n is on_k).0,
            )
