-- The taking of DEVICE by a user that writes for itself, with the log's work, keeps the rule.
use Rattle.std.proofs.Common.{Bool, List, None, Option, Some, [], ap, arith, cond, eq-eqb, eqb, false, get_or-set_other, get_or-set_same, inl, inr, is_some, length-set, ne_eqb, refl, subst, suc, sym, true, ℕ, ◌+◌, ◌<◌, ◌==◌, ◌∙◌, ◌∷◌, ◌≡◌, ◌≢◌, ◌⊎◌}
use Rattle.std.specs.Prelude.{slice_index, slice_set}
use lib.ListN.{get_elem?}
use mathlib.Core.Option as maybe
use native.Mathlib.Decide.{ℕ_discrete}
use prog.Atomic.{either}
use Rattle.atomic_table.specs.Table.{Allows, keeps, Me, State, takes}
use Rattle.model_core.proofs.Lists.{set_else}
use Rattle.model_core.specs.{old_of, hand}
use Rattle.model_core.specs.States as model
use Rattle.model_core.specs.declared.ops.Answer.{Answer}
use Rattle.model_core.specs.declared.ops.Answer.TheVariants as answer
use Rattle.model_core.specs.declared.ops.Op.{Op}
use Rattle.model_core.specs.declared.ops.Op.TheVariants as op
use Rattle.model_own.specs.{LogWork, own_checked, own_goes_on, own_lends, own_next, OwnUser, errand_took, waiting, has_work}
use Rattle.model_own.specs.ErrandFits.{ErrandFits}
use Rattle.model_own.specs.declared.errand.ErrandStep.{ErrandStep}
use Rattle.model_own.specs.declared.errand.ErrandStep.TheVariants as errand_step
use Rattle.redo_disk.specs.{Call, Seen}
use Rattle.redo_drive.proofs.Played as played
use Rattle.redo_drive.specs.{HasSamePages, IsPlayed}
use Rattle.redo_drive.specs.declared.parts.Parts.{Parts}
use Rattle.redo_ownrule.proofs.OwnOps as ops
use Rattle.redo_ownrule.proofs.OwnTurns as turns
use Rattle.redo_ownrule.proofs.OwnUserHands as hands
use Rattle.redo_ownrule.specs.OwnPlays.{HasWork, IsOwn, own_seized, own_view, WorkInHand, OwnStepped, with_work}
use Rattle.redo_rule.proofs.Kept as kept
use Rattle.redo_rule.proofs.Words.{swapped}
use Rattle.redo_rule.specs.OwnSide.{Beside, desk_with}
use Rattle.redo_rule.specs.Plays.{taking}
use Rattle.redo_rule.specs.Ruled.{Ruled, slot_content}
use Rattle.redo_rule.specs.declared.law.About.{About}
use Rattle.redo_rule.specs.declared.law.Desk.{Desk}
use Rattle.redo_rule.specs.declared.law.Numbered.{Numbered}
use Rattle.redo_rule.specs.declared.law.Slot.{Slot}
use Rattle.redo_rule.specs.declared.law.Slot.TheVariants as slot
use Rattle.redo_rule.specs.declared.law.View.{View}
use Rattle.redo_ownrule.proofs.OwnAllowed as allowed
use Rattle.redo_ownrule.proofs.OwnAllowed.{by_slot}
use Rattle.redo_ownrule.proofs.OwnTurns.{many}

-- what DEVICE's answer leads to: it has the work then, as it is taken up
pub took : (o : OwnUser) (k : LogWork) (b : Bool) → o.user.checks ≡ false → o.errand ≡ errand_step.TakeDevice
    → (has_work (own_goes_on o k (taking b)).0.errand ≡ true)
took o k b asks is =
    ap (λ (c : Bool). has_work (cond c (own_checked o (old_of (taking b)), k) (errand_took o k (taking b) o.errand)).0.errand)
    asks
    ∙ ap (λ (x : ErrandStep). has_work (errand_took o k (taking b) x).0.errand) is ∙ by b
  where
    by : (b : Bool) → has_work (errand_took o k (taking b) errand_step.TakeDevice).0.errand ≡ true
    by true = refl
    by false = refl

-- and where it is held, it waits
pub waits : (o : OwnUser) (k : LogWork) → o.user.checks ≡ false → o.errand ≡ errand_step.TakeDevice
    → own_goes_on o k answer.Held ≡ (waiting o, k)
waits o k asks is = ap (λ (c : Bool). cond c (own_checked o 0, k) (errand_took o k answer.Held o.errand)) asks
    ∙ ap (λ (x : ErrandStep). errand_took o k answer.Held x) is

module _ {L D : Type 0} (log_seen : L → Seen) (log_gives : L → Call → L → Type 0) (data_seen : D → Seen)
    (data_gives : D → Call → D → Type 0) (about : About L D) (slots id : ℕ) (me : Me (Slot L D) (View L D))
    (x : Numbered) (one : me.0.seats ≡ x ∷ []) (o : OwnUser) (its : IsOwn x o) where
  abbrev Law : State (Slot L D) (View L D) → Type 0
  Law = Ruled log_seen log_gives data_seen data_gives about

  module _ (asks : (k : LogWork) → HasWork me.0.held o k → own_next o k ≡ op.TakeDevice)
      (s : State (Slot L D) (View L D)) (R : Law s) (at : get_elem? s.views id ≡ maybe.some me.0) where
    abbrev W : LogWork
    W = allowed.Work log_seen log_gives data_seen data_gives about slots id me x one o its s R at

    abbrev ws : List ℕ
    ws = slice_set s.words 7 (either (eqb (slice_index s.words 7) 0) 1 (slice_index s.words 7))

    abbrev new : Parts L D
    new = record {
      words = record { layout = R.parts.words.layout; words = ws };
      log = R.parts.log;
      store = R.parts.store;
      lists = R.parts.lists;
    }

    abbrev same : HasSamePages R.parts new
    same = record { words = refl; lists = refl }

    its_op : own_next o W ≡ op.TakeDevice
    its_op = asks W (turns.has_it log_seen log_gives data_seen data_gives about s R id me.0 x one at o its)

    hold : WorkInHand o.errand W
    hold = allowed.serves_hand log_seen log_gives data_seen data_gives about slots id me x one o its s R at

    is_there : o.errand ≡ errand_step.TakeDevice
    is_there = (ops.takes_it o W hold its_op).0

    no_checks : o.user.checks ≡ false
    no_checks = (ops.takes_it o W hold its_op).1

    fit : ErrandFits o.user o.errand
    fit = (turns.serves log_seen log_gives data_seen data_gives about s R id me.0 x one at o its).stands

    swapped_words : ws ≡ cond (slice_index R.parts.words.words 7 == 0) (slice_set R.parts.words.words 7 1)
        R.parts.words.words
    swapped_words = swapped s.words 7 0 1
        ∙ ap (λ (y : List ℕ). cond (slice_index y 7 == 0) (slice_set y 7 1) y) (sym R.words_are)

    played_as : (r : Answer) → r ≡ cond (slice_index R.parts.words.words 7 == 0) (taking (is_some R.parts.log.failed)) answer.Held
        → IsPlayed log_seen data_seen R.run (own_next o W) (own_lends o W) R.parts r new
    played_as r is = subst (λ (p : Op). IsPlayed log_seen data_seen R.run p (own_lends o W) R.parts r new) (sym its_op)
        (played.took_device log_seen data_seen R.run (own_lends o W) R.parts new r (record { log = refl; data_part = refl })
        refl op.TakeDevice refl swapped_words refl (λ code mark. is))

    -- free
    module _ (free : slice_index s.words 7 ≡ 0) where
      abbrev r : Answer
      r = taking (is_some R.parts.log.failed)

      is_free : slice_index R.parts.words.words 7 ≡ 0
      is_free = ap (λ (y : List ℕ). slice_index y 7) R.words_are ∙ free

      abbrev done : IsPlayed log_seen data_seen R.run (own_next o W) (own_lends o W) R.parts r new
      done = played_as r (sym (ap (λ (b : Bool). cond b (taking (is_some R.parts.log.failed)) answer.Held)
          (eq-eqb (slice_index R.parts.words.words 7) 0 is_free)))

      abbrev then : OwnUser
      then = (own_goes_on o W r).0

      abbrev left : LogWork
      left = (own_goes_on o W r).1

      abbrev desk : Desk L
      desk = desk_with R.parts.log R.beside

      abbrev held : Option (Slot L D)
      held = Some (slot.Log (with_work desk left))

      abbrev beside : Beside
      beside = turns.beside log_seen log_gives data_seen data_gives about s R id me.0 x one at o its r new same done
          R.beside.block

      has_now : has_work then.errand ≡ true
      has_now = took o W (is_some R.parts.log.failed) no_checks is_there

      words : ws ≡ slice_set s.words 7 1
      words = swapped s.words 7 0 1
          ∙ ap (λ (b : Bool). cond b (slice_set s.words 7 1) s.words) (eq-eqb (slice_index s.words 7) 0 free)

      taken_word : slice_index ws 7 ≡ 1
      taken_word = ap (λ (y : List ℕ). slice_index y 7) words
          ∙ get_or-set_same s.words 7 1 0 (many log_seen log_gives data_seen data_gives about s R 0 (omega arith))

      still : (j : ℕ) → slice_index ws (7 + suc j) ≡ slice_index s.words (7 + suc j)
      still j = ap (λ (y : List ℕ). slice_index y (7 + suc j)) words
          ∙ get_or-set_other s.words 7 (7 + suc j) 1 0 (λ e. omega arith)

      none_then : hand (model.User then.user) ≡ None
      none_then = hands.device_leaves o W r no_checks is_there fit

      none_now : hand (model.User o.user) ≡ None
      none_now = hands.device_holds o W is_there fit

      content : (i : ℕ) → ◌≡◌ {A = Slot L D} (slot_content R.parts R.beside (suc i)) (slot_content new beside (suc i))
      content = allowed.list_content log_seen log_gives data_seen data_gives about slots id me x one o its s R at new beside refl

      abbrev Free : Type 0
      Free = Law (record {
        words = ws;
        homes = slice_set s.homes 0 maybe.none;
        views = slice_set s.views id (own_view me.0 x then held);
      }) × OwnStepped log_seen data_seen x o W r held ((0, slot.Log desk) ∷ me.1) me.0
          (own_view me.0 x then held, (0, slot.Log desk) ∷ me.1)

      pub finds_free : Free
      finds_free = (
        turns.own_kept log_seen log_gives data_seen data_gives about s R id me.0 x one at o its r new same done
            R.beside.block (inl refl) held
            (λ k h. let z : None ≡ Some k = sym none_then ∙ h in absurd (cc))
            (λ _. refl)
            (λ k. by_slot (λ (j : ℕ). (◌≡◌ {A = Slot L D} (slot_content R.parts R.beside j) (slot_content new beside j))
            ⊎ turns.Alone log_seen log_gives data_seen data_gives about s R id me.0 x one at o its j)
            (inr (turns.free_alone log_seen log_gives data_seen data_gives about s R id me.0 x one at o its 0 free))
            (λ i. inl (content i)) k)
            (inr (turns.free_work log_seen log_gives data_seen data_gives about s R id me.0 x one at o its free))
            refl (slice_set s.homes 0 maybe.none) R.lists_are R.log_calls refl
            (length-set s.homes 0 maybe.none ∙ R.slots)
            (λ k l z. by_slot (λ (j : ℕ). j < 5 → slice_index ws (7 + j) ≡ 0
            → get_elem? (slice_set s.homes 0 maybe.none) j ≡ maybe.some (maybe.some (slot_content new beside j)))
            (λ l z. let t = taken_word in absurd (omega arith))
            (λ i l z. set_else s.homes 0 (suc i) maybe.none (λ e. omega arith) ∙ R.home (suc i) l (sym (still i) ∙ z)
            ∙ ap (λ (y : Slot L D). maybe.some (maybe.some y)) (content i)) k l z)
            (λ z. set_else s.homes 0 5 maybe.none (λ e. omega arith) ∙ R.data_home z)
            (λ k l busy. by_slot (λ (j : ℕ). slice_index ws (7 + j) ≢ 0
            → turns.Turned log_seen log_gives data_seen data_gives about s R id me.0 x one at o its r new same done
            R.beside.block j)
            (λ busy. taken_word)
            (λ i busy. inr ((λ z. busy (still i ∙ z)), λ h. let z : None ≡ Some (suc i) = sym none_now ∙ h in absurd (cc)))
            k busy),
        turns.steps log_seen log_gives data_seen data_gives about s R id me.0 x one at o its r new same done
            R.beside.block held ((0, slot.Log desk) ∷ me.1)
            (λ d is has. kept.same_log d (with_work desk left)
            (kept.same_slot (slot.Log d) (slot.Log (with_work desk left)) (sym is))),
      )

    -- held
    module _ (busy : slice_index s.words 7 ≢ 0) where
      is_busy : slice_index R.parts.words.words 7 ≢ 0
      is_busy z = busy (sym (ap (λ (y : List ℕ). slice_index y 7) R.words_are) ∙ z)

      abbrev done_held : IsPlayed log_seen data_seen R.run (own_next o W) (own_lends o W) R.parts answer.Held new
      done_held = played_as answer.Held (sym (ap (λ (b : Bool). cond b (taking (is_some R.parts.log.failed)) answer.Held)
          (ne_eqb (slice_index R.parts.words.words 7) 0 is_busy)))

      abbrev then_held : OwnUser
      then_held = (own_goes_on o W answer.Held).0

      abbrev beside_held : Beside
      beside_held = turns.beside log_seen log_gives data_seen data_gives about s R id me.0 x one at o its answer.Held new
          same done_held R.beside.block

      same_words : ws ≡ s.words
      same_words = swapped s.words 7 0 1
          ∙ ap (λ (b : Bool). cond b (slice_set s.words 7 1) s.words) (ne_eqb (slice_index s.words 7) 0 busy)

      word_still : (k : ℕ) → slice_index ws (7 + k) ≡ slice_index s.words (7 + k)
      word_still k = ap (λ (y : List ℕ). slice_index y (7 + k)) same_words

      has_none : has_work then_held.errand ≡ false
      has_none = ap (λ (z : OwnUser × LogWork). has_work z.0.errand) (waits o W no_checks is_there)

      content_held : (k : ℕ) → ◌≡◌ {A = Slot L D} (slot_content R.parts R.beside k) (slot_content new beside_held k)
      content_held = allowed.same_content log_seen log_gives data_seen data_gives about slots id me x one o its s R at new
          beside_held refl refl refl
          (ap (λ (z : OwnUser × LogWork). Some z.1) (waits o W no_checks is_there)
          ∙ sym (turns.beside_work log_seen log_gives data_seen data_gives about s R id me.0 x one at o its))

      none_left : hand (model.User then_held.user) ≡ None
      none_left = hands.device_leaves o W answer.Held no_checks is_there fit

      none_before : hand (model.User o.user) ≡ None
      none_before = hands.device_holds o W is_there fit

      abbrev Busy : Type 0
      Busy = Law (record {
        words = ws;
        homes = s.homes;
        views = slice_set s.views id (own_view me.0 x then_held me.0.held);
      }) × OwnStepped log_seen data_seen x o W answer.Held me.0.held me.1 me.0 (own_view me.0 x then_held me.0.held, me.1)

      pub finds_held : Busy
      finds_held = (
        turns.own_kept log_seen log_gives data_seen data_gives about s R id me.0 x one at o its answer.Held new same
            done_held R.beside.block (inl refl) me.0.held
            (λ k h. let z : None ≡ Some k = sym none_left ∙ h in absurd (cc))
            (λ has. let z : true ≡ false = sym has ∙ has_none in absurd (cc))
            (λ k. inl (content_held k)) (inl (content_held 0)) refl s.homes R.lists_are R.log_calls refl R.slots
            (λ k l z. R.home k l (sym (word_still k) ∙ z)
            ∙ ap (λ (y : Slot L D). maybe.some (maybe.some y)) (content_held k))
            R.data_home
            (λ k l b. by_slot (λ (j : ℕ). slice_index ws (7 + j) ≢ 0
            → turns.Turned log_seen log_gives data_seen data_gives about s R id me.0 x one at o its answer.Held new same
            done_held R.beside.block j)
            (λ b. word_still 0 ∙ allowed.busy_device log_seen log_gives data_seen data_gives about slots id me x one o its
            s R at busy)
            (λ i b. inr (
              (λ z. b (word_still (suc i) ∙ z)),
              λ h. let z : None ≡ Some (suc i) = sym none_before ∙ h in absurd (cc),
            )) k b),
        turns.steps log_seen log_gives data_seen data_gives about s R id me.0 x one at o its answer.Held new same
            done_held R.beside.block me.0.held me.1
            (λ d is has. let z : true ≡ false = sym has ∙ has_none in absurd (cc)),
      )

  pub own_take : ((k : LogWork) → HasWork me.0.held o k → own_next o k ≡ op.TakeDevice)
      → Allows Law slots id me 7 (λ n. either (eqb n 0) 1 n) (own_seized log_seen data_seen me)
  own_take asks s R wide at small = elim (ℕ_discrete (slice_index s.words 7) 0) [
    | yes free ↦ (
        let h = finds_free asks s R at free in
        let k : LogWork = W asks s R at in
        let q : Answer = taking (is_some R.parts.log.failed) in
        let d : Desk L = desk_with R.parts.log R.beside in
        let w : View L D = own_view me.0 x (own_goes_on o k q).0 (Some (slot.Log (with_work d (own_goes_on o k q).1))) in (
          w,
          takes 0 (slot.Log d),
          R.home 0 (omega arith) free,
          h.0,
          λ y p seats is. (
            (λ _. (
              d,
              k,
              turns.beside_work log_seen log_gives data_seen data_gives about s R id me.0 x one at o its,
              allowed.of_own log_seen log_gives data_seen data_gives about slots id me x one o its
                  (λ (z : Numbered) (u : OwnUser). OwnStepped log_seen data_seen z u k q
                  (Some (slot.Log (with_work d (own_goes_on u k q).1))) ((0, slot.Log d) ∷ me.1) me.0
                  (w, (0, slot.Log d) ∷ me.1)) h.1 y p seats is,
            )),
            λ busy. absurd (busy free),
          ),
        ))
    | no busy ↦ (
        let h = finds_held asks s R at busy in
        let k : LogWork = W asks s R at in
        let w : View L D = own_view me.0 x (own_goes_on o k answer.Held).0 me.0.held in (
          w,
          keeps,
          tt,
          h.0,
          λ y p seats is. (
            (λ free. absurd (busy free)),
            λ _. (
              k,
              allowed.of_own log_seen log_gives data_seen data_gives about slots id me x one o its
                  (λ (z : Numbered) (u : OwnUser). OwnStepped log_seen data_seen z u k answer.Held me.0.held me.1 me.0 (w, me.1))
                  h.1 y p seats is,
            ),
          ),
        ))
  ]
