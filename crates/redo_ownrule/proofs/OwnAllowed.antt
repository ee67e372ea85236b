-- Steps on words, and the taking of DEVICE, by a user that writes for itself keep the rule.
use Rattle.std.proofs.Common.{Bool, List, None, Option, Some, [], ap, arith, cond, false, get_or-set_other, inl, inr, is_some, refl, subst, suc, sym, true, zero, ℕ, ◌+◌, ◌<◌, ◌∙◌, ◌∷◌, ◌≡◌, ◌≢◌, ◌⊎◌}
use Rattle.std.proofs.lemmas.List.{set-get_or}
use Rattle.std.specs.Prelude.{slice_index, slice_set}
use lib.ListN.{get_elem?}
use mathlib.Core.Option as maybe
use Rattle.atomic_table.specs.Table.{Allows, keeps, Me, State}
use Rattle.model_core.proofs.Lists.{set_again}
use Rattle.model_core.specs.{OnWord, word_found, words_after, hand, IsFreeToCheck}
use Rattle.model_core.specs.States as model
use Rattle.model_core.specs.declared.words.Layout.{Layout}
use Rattle.model_core.specs.declared.ops.Answer.{Answer}
use Rattle.model_core.specs.declared.ops.Answer.TheVariants as answer
use Rattle.model_core.specs.declared.ops.Op.{Op}
use Rattle.model_own.specs.{LogWork, own_goes_on, own_lends, own_next, OwnUser, has_work}
use Rattle.model_own.specs.ErrandFits.{ErrandFits}
use Rattle.redo_disk.specs.{Call, Seen}
use Rattle.redo_drive.proofs.MayTurn.{holds_sum}
use Rattle.redo_drive.proofs.Played as played
use Rattle.redo_drive.specs.{listing_at, Listings, lists_of, HasSamePages, IsPlayed}
use Rattle.redo_drive.specs.declared.parts.Parts.{Parts}
use Rattle.redo_logdev.specs.Part as log
use Rattle.redo_ownrule.proofs.OwnMay as may
use Rattle.redo_ownrule.proofs.OwnOps as ops
use Rattle.redo_ownrule.proofs.OwnTurns as turns
use Rattle.redo_ownrule.proofs.OwnUserHands as hands
use Rattle.redo_ownrule.proofs.OwnWords.{stays_aside}
use Rattle.redo_ownrule.specs.OwnPlays.{errand_of, HasWork, held_behind, IsOwn, own_looked, own_saw, own_view, OwnMayGo, WorkInHand, OwnStepped, with_work}
use Rattle.redo_rule.proofs.Holders as holders
use Rattle.redo_rule.proofs.Kept as kept
use Rattle.redo_rule.proofs.Retook.{one_head}
use Rattle.redo_rule.specs.OwnSide.{Beside, desk_with, work_of}
use Rattle.redo_rule.specs.Ruled.{Ruled, slot_content}
use Rattle.redo_rule.specs.declared.law.About.{About}
use Rattle.redo_rule.specs.declared.law.Desk.{Desk}
use Rattle.redo_rule.specs.declared.law.Errand.{Errand}
use Rattle.redo_rule.specs.declared.law.Numbered.{Numbered}
use Rattle.redo_rule.specs.declared.law.Slot.{Slot}
use Rattle.redo_rule.specs.declared.law.Slot.TheVariants as slot
use Rattle.redo_rule.specs.declared.law.View.{View}
use Rattle.redo_words.specs.{HoldsSum}

-- whose seat it is
abbrev user_or : OwnUser → model.Actor → OwnUser
user_or d (model.User u) = record d { user = u }
user_or d _ = d

pub same_user : (x : Numbered) (o p : OwnUser) → IsOwn x o → IsOwn x p → o ≡ p
same_user x o p is q =
    let state : ◌≡◌ {A = model.Actor} (model.User o.user) (model.User p.user) = sym is.state ∙ q.state in
    let errand : ◌≡◌ {A = Errand} (errand_of o) (errand_of p) =
    ap (λ (z : Option Errand). turns.errand_or (errand_of o) z) (sym is.errand ∙ q.errand) in
    ap (λ (a : model.Actor). user_or o a) state
    ∙ ap (λ (e : Errand). record { user = p.user; errand = e.step; helped = e.helped }) errand

-- the log part's slot, or that of a list
pub by_slot : (P : ℕ → Type 0) → P 0 → ((i : ℕ) → P (suc i)) → (k : ℕ) → P k
by_slot P p q zero = p
by_slot P p q (suc i) = q i

-- a held slot after an Op on a word
pub held_aside : {L D : Type 0} (held : Option (Slot L D)) (o : OwnUser) (k : LogWork) → has_work o.errand ≡ false
    → held_behind held o k ≡ held
held_aside None o k none = refl
held_aside (Some (slot.Log desk)) o k none =
    ap (λ (b : Bool). cond b (Some (slot.Log (with_work desk k))) (Some (slot.Log desk))) none
held_aside (Some (slot.Pages l)) o k none = refl
held_aside (Some (slot.Data d)) o k none = refl

pub held_hand : {L D : Type 0} (held : Option (Slot L D)) (desk : Desk L) (o : OwnUser) (k : LogWork)
    → has_work o.errand ≡ true → held ≡ Some (slot.Log desk)
    → held_behind held o k ≡ Some (slot.Log (with_work desk k))
held_hand {L} {D} held desk o k has is = ap (λ (z : Option (Slot L D)). held_behind z o k) is
    ∙ ap (λ (b : Bool). cond b (Some (slot.Log (with_work desk k))) (Some (slot.Log desk))) has

module _ {L D : Type 0} (log_seen : L → Seen) (log_gives : L → Call → L → Type 0) (data_seen : D → Seen)
    (data_gives : D → Call → D → Type 0) (about : About L D) (slots id : ℕ) (me : Me (Slot L D) (View L D))
    (x : Numbered) (one : me.0.seats ≡ x ∷ []) (o : OwnUser) (its : IsOwn x o) where
  abbrev pub Law : State (Slot L D) (View L D) → Type 0
  Law = Ruled log_seen log_gives data_seen data_gives about

  -- what holds of this seat holds of whatever it is said to be
  pub of_own : (P : Numbered → OwnUser → Type 0) → P x o → (y : Numbered) (p : OwnUser) → me.0.seats ≡ y ∷ []
      → IsOwn y p → P y p
  of_own P h y p seats is =
      let same : ◌≡◌ {A = Numbered} x y = one_head me.0.seats x y one seats in
      subst (λ (z : Numbered). P z p) same
      (subst (λ (q : OwnUser). P x q)
      (same_user x o p its (subst (λ (z : Numbered). IsOwn z p) (sym same) is)) h)

  module _ (s : State (Slot L D) (View L D)) (R : Law s) (at : get_elem? s.views id ≡ maybe.some me.0) where
    abbrev pub Work : LogWork
    Work = turns.work log_seen log_gives data_seen data_gives about s R id me.0 x one at o its

    pub serves_hand : WorkInHand o.errand Work
    serves_hand = may.its_hand log_seen data_seen R.run R.parts
        (turns.seats log_seen log_gives data_seen data_gives about s R id me.0 x one at o its)
        (turns.before log_seen log_gives data_seen data_gives about s R id me.0 x one at o its) x.number o
        (turns.there log_seen log_gives data_seen data_gives about s R id me.0 x one at o its)

    pub user_free : IsFreeToCheck (model.User o.user)
    user_free = subst IsFreeToCheck its.state
        (kept.is_free log_seen log_gives data_seen data_gives about s R id me.0 x one at)

    pub its_sum : HoldsSum R.parts.words.layout (own_next o Work) R.parts.words.words
    its_sum = ops.own_sum o Work serves_hand R.parts.words.layout R.parts.words.words
        (holds_sum R.parts.words.layout (lists_of R.parts.lists) (is_some R.parts.log.failed) 0 0 R.parts.words.words (model.User o.user)
        ((may.as_user log_seen data_seen R.run R.parts
        (turns.seats log_seen log_gives data_seen data_gives about s R id me.0 x one at o its)
        (turns.before log_seen log_gives data_seen data_gives about s R id me.0 x one at o its) x.number o
        (turns.there log_seen log_gives data_seen data_gives about s R id me.0 x one at o its)).fits 0 0).log)

    -- DEVICE's word is 1 where it isn't 0
    pub busy_device : slice_index s.words 7 ≢ 0 → slice_index s.words 7 ≡ 1
    busy_device busy =
        let t = R.taken 0 (omega arith) busy in
        sym (ap (λ (ws : List ℕ). slice_index ws 7) R.words_are)
        ∙ (holders.holding log_seen data_seen R.run R.parts R.actors R.runs t.0 t.1 t.2 0 t.3).word_is

    -- there are words enough
    pub same_content : (new : Parts L D) (beside : Beside) → ◌≡◌ {A = log.Part L} new.log R.parts.log
        → ◌≡◌ {A = Listings} new.lists R.parts.lists → beside.block ≡ R.beside.block
        → ◌≡◌ {A = Option LogWork} (work_of beside.own) (work_of R.beside.own) → (k : ℕ)
        → ◌≡◌ {A = Slot L D} (slot_content R.parts R.beside k) (slot_content new beside k)
    same_content new beside log_same lists_same block work zero =
        ap (λ (p : log.Part L). slot.Log (desk_with p R.beside)) (sym log_same)
        ∙ ap (λ (b : List ℕ). slot.Log (record { part = new.log; block = b; work = work_of R.beside.own })) (sym block)
        ∙ ap (λ (w : Option LogWork). slot.Log (record { part = new.log; block = beside.block; work = w })) (sym work)
    same_content new beside log_same lists_same block work (suc i) =
        ap (λ (z : Listings). slot.Pages (listing_at z.lists i)) (sym lists_same)

    pub list_content : (new : Parts L D) (beside : Beside) → ◌≡◌ {A = Listings} new.lists R.parts.lists → (i : ℕ)
        → ◌≡◌ {A = Slot L D} (slot_content R.parts R.beside (suc i)) (slot_content new beside (suc i))
    list_content new beside lists_same i = ap (λ (z : Listings). slot.Pages (listing_at z.lists i)) (sym lists_same)

  -- A LOOK
  pub own_look : (i : ℕ) → Allows Law slots id me i (λ n. n) (own_looked log_seen data_seen me)
  own_look i s R wide at small =
      let e : slice_set s.words i (slice_index s.words i) ≡ s.words = set-get_or s.words i 0 in
      let f : ◌≡◌ {A = List (View L D)} (slice_set s.views id me.0) s.views = set_again s.views id me.0 at in
      let seats = turns.seats log_seen log_gives data_seen data_gives about s R id me.0 x one at o its in
      let W : LogWork = Work s R at in
      let go : OwnMayGo me.0.layout me.0.held o W = may.may_go log_seen data_seen R.run R.parts seats
      (turns.before log_seen log_gives data_seen data_gives about s R id me.0 x one at o its) x.number o
      (turns.there log_seen log_gives data_seen data_gives about s R id me.0 x one at o its) me.0.layout me.0.held
      (turns.count log_seen log_gives data_seen data_gives about s R id me.0 x one at o its)
      (λ desk is has. kept.same_log desk (desk_with R.parts.log R.beside)
      (kept.same_slot (slot.Log desk) (slot.Log (desk_with R.parts.log R.beside)) (sym is
      ∙ turns.has_desk log_seen log_gives data_seen data_gives about s R id me.0 x one at o its has))) in (
        me.0,
        keeps,
        tt,
        subst (λ (ws : List ℕ). Law (record { words = ws; homes = s.homes; views = slice_set s.views id me.0 })) (sym e)
            (subst (λ (vs : List (View L D)). Law (record { words = s.words; homes = s.homes; views = vs })) (sym f) R),
        (
          refl,
          of_own (λ (y : Numbered) (p : OwnUser). ErrandFits p.user p.errand
              × ((k : LogWork) → HasWork me.0.held p k → OwnMayGo me.0.layout me.0.held p k)) (
                go.stands,
                λ k has. ops.any_work o W k me.0.layout me.0.held go
                    (λ with. turns.the_work log_seen log_gives data_seen data_gives about s R id me.0 x one at o its k has with),
              ),
        ),
      )

  -- A STEP ON A WORD
  module _ (a : Op) (i : ℕ) (f : ℕ → ℕ) (asks : (k : LogWork) → HasWork me.0.held o k → own_next o k ≡ a) (on : OnWord a)
      (off : (k : ℕ) → k < 5 → 7 + k ≢ i)
      (words : (ws : List ℕ) → HoldsSum me.0.layout a ws
      → slice_set ws i (f (slice_index ws i)) ≡ words_after me.0.layout a ws)
      (found : (ws : List ℕ) → word_found me.0.layout a ws ≡ slice_index ws i) where
    module _ (s : State (Slot L D) (View L D)) (R : Law s) (at : get_elem? s.views id ≡ maybe.some me.0) where
      abbrev n : ℕ
      n = slice_index s.words i

      abbrev r : Answer
      r = answer.Old n

      abbrev W : LogWork
      W = Work s R at

      abbrev new : Parts L D
      new = record {
        words = record { layout = R.parts.words.layout; words = slice_set s.words i (f n) };
        log = R.parts.log;
        store = R.parts.store;
        lists = R.parts.lists;
      }

      abbrev same : HasSamePages R.parts new
      same = record { words = refl; lists = refl }

      layout_is : me.0.layout ≡ R.parts.words.layout
      layout_is = turns.count log_seen log_gives data_seen data_gives about s R id me.0 x one at o its

      its_op : own_next o W ≡ a
      its_op = asks W (turns.has_it log_seen log_gives data_seen data_gives about s R id me.0 x one at o its)

      pub done : IsPlayed log_seen data_seen R.run (own_next o W) (own_lends o W) R.parts r new
      done = subst (λ (p : Op). IsPlayed log_seen data_seen R.run p (own_lends o W) R.parts r new) (sym its_op)
          (played.word_played log_seen data_seen R.run (own_lends o W) R.parts a new.words r on refl
          (words s.words (subst (λ (l : Layout). HoldsSum l a s.words) (sym layout_is)
          (subst (λ (ws : List ℕ). HoldsSum R.parts.words.layout a ws) R.words_are
          (subst (λ (p : Op). HoldsSum R.parts.words.layout p R.parts.words.words) its_op (its_sum s R at))))
          ∙ ap (λ (l : Layout). words_after l a s.words) layout_is
          ∙ ap (words_after R.parts.words.layout a) (sym R.words_are))
          (ap answer.Old (sym (found s.words) ∙ ap (λ (l : Layout). word_found l a s.words) layout_is
          ∙ ap (word_found R.parts.words.layout a) (sym R.words_are))))

      abbrev then : OwnUser
      then = (own_goes_on o W r).0

      abbrev left : LogWork
      left = (own_goes_on o W r).1

      abbrev held : Option (Slot L D)
      held = held_behind me.0.held o left

      abbrev beside : Beside
      beside = turns.beside log_seen log_gives data_seen data_gives about s R id me.0 x one at o its r new same done
          R.beside.block

      abbrev After : Type 0
      After = Law (record { words = new.words.words; homes = s.homes; views = slice_set s.views id (own_view me.0 x then held) })
          × OwnStepped log_seen data_seen x o W r held me.1 me.0 (own_view me.0 x then held, me.1)

      still : (k : ℕ) → k < 5 → slice_index new.words.words (7 + k) ≡ slice_index s.words (7 + k)
      still k l = get_or-set_other s.words i (7 + k) (f n) 0 (off k l)

      turned : ((j : ℕ) → hand (model.User o.user) ≡ Some (suc j) → hand (model.User then.user) ≡ Some (suc j))
          → (k : ℕ) → k < 5 → slice_index new.words.words (7 + k) ≢ 0
          → turns.Turned log_seen log_gives data_seen data_gives about s R id me.0 x one at o its r new same done
          R.beside.block k
      turned holds zero l busy = still 0 l ∙ busy_device s R at (λ z. busy (still 0 l ∙ z))
      turned holds (suc j) l busy = inr ((λ z. busy (still (suc j) l ∙ z)), holds j)

      after_by : (keeps_log : has_work then.errand ≡ true
          → ◌≡◌ {A = Option (Slot L D)} held (Some (slot_content new beside 0)))
          (holds : (k : ℕ) → hand (model.User then.user) ≡ Some k → held ≡ Some (slot_content new beside k))
          (contents : (k : ℕ) → (◌≡◌ {A = Slot L D} (slot_content R.parts R.beside k) (slot_content new beside k))
          ⊎ turns.Alone log_seen log_gives data_seen data_gives about s R id me.0 x one at o its k)
          (its_content : (◌≡◌ {A = Slot L D} (slot_content R.parts R.beside 0) (slot_content new beside 0))
          ⊎ turns.AloneAtWork log_seen log_gives data_seen data_gives about s R id me.0 x one at o its)
          (home : (k : ℕ) → k < 5 → slice_index s.words (7 + k) ≡ 0
          → ◌≡◌ {A = Slot L D} (slot_content R.parts R.beside k) (slot_content new beside k))
          (keeps_list : (j : ℕ) → hand (model.User o.user) ≡ Some (suc j) → hand (model.User then.user) ≡ Some (suc j))
          → After
      after_by keeps_log holds contents its_content home keeps_list = (
        turns.own_kept log_seen log_gives data_seen data_gives about s R id me.0 x one at o its r new same done
            R.beside.block (inl refl) held holds keeps_log contents its_content refl s.homes R.lists_are R.log_calls refl
            R.slots
            (λ k l z. let was : slice_index s.words (7 + k) ≡ 0 = sym (still k l) ∙ z in
            R.home k l was ∙ ap (λ (y : Slot L D). maybe.some (maybe.some y)) (home k l was))
            R.data_home (turned keeps_list),
        turns.steps log_seen log_gives data_seen data_gives about s R id me.0 x one at o its r new same done
            R.beside.block held me.1
            (λ desk is has. kept.same_log desk (desk_with new.log beside)
            (kept.same_slot (slot.Log desk) (slot.Log (desk_with new.log beside)) (sym is ∙ keeps_log has))),
      )

      aside : has_work o.errand ≡ false → After
      aside none =
          let stays = stays_aside o W n none (subst OnWord (sym its_op) on) in
          let content : (k : ℕ) → ◌≡◌ {A = Slot L D} (slot_content R.parts R.beside k) (slot_content new beside k) =
          same_content s R at new beside refl refl refl
          (ap (λ (k : LogWork). Some k) stays.1
          ∙ sym (turns.beside_work log_seen log_gives data_seen data_gives about s R id me.0 x one at o its)) in
          let hands_same = hands.word_holds o W n (user_free s R at) none (subst OnWord (sym its_op) on) in
          after_by (λ has. let z : true ≡ false = sym has ∙ stays.0 in absurd (cc))
          (λ k h. held_aside me.0.held o left none
          ∙ turns.holds_list log_seen log_gives data_seen data_gives about s R id me.0 x one at o its k (sym hands_same ∙ h)
          ∙ ap (λ (y : Slot L D). Some y) (content k))
          (λ k. inl (content k)) (inl (content 0)) (λ k l z. content k) (λ j h. hands_same ∙ h)

      in_hand : has_work o.errand ≡ true → After
      in_hand has =
          let fit = (turns.serves log_seen log_gives data_seen data_gives about s R id me.0 x one at o its).stands in
          let none_now = hands.work_holds o W has fit in
          let none_then = hands.work_leaves o W r has fit in
          let content : (i : ℕ) → ◌≡◌ {A = Slot L D} (slot_content R.parts R.beside (suc i)) (slot_content new beside (suc i)) =
          list_content s R at new beside refl in
          let busy : slice_index s.words (7 + 0) ≡ 0 → ⊥ = λ free.
          let none : has_work o.errand ≡ false =
          turns.free_none log_seen log_gives data_seen data_gives about s R id me.0 x one at o its free in
          let z : true ≡ false = sym has ∙ none in absurd (cc) in
          after_by
          (λ _. held_hand me.0.held (desk_with R.parts.log R.beside) o left has
          (turns.has_desk log_seen log_gives data_seen data_gives about s R id me.0 x one at o its has))
          (λ k h. let z : None ≡ Some k = sym none_then ∙ h in absurd (cc))
          (λ k. by_slot (λ (j : ℕ). (◌≡◌ {A = Slot L D} (slot_content R.parts R.beside j) (slot_content new beside j))
          ⊎ turns.Alone log_seen log_gives data_seen data_gives about s R id me.0 x one at o its j)
          (inr (turns.in_hand_alone log_seen log_gives data_seen data_gives about s R id me.0 x one at o its has))
          (λ i. inl (content i)) k)
          (inr (turns.in_hand_work log_seen log_gives data_seen data_gives about s R id me.0 x one at o its has))
          (λ k l z. by_slot (λ (j : ℕ). slice_index s.words (7 + j) ≡ 0
          → ◌≡◌ {A = Slot L D} (slot_content R.parts R.beside j) (slot_content new beside j))
          (λ z. absurd (busy z)) (λ i z. content i) k z)
          (λ j h. let z : None ≡ Some (suc j) = sym none_now ∙ h in absurd (cc))

      pub after_word : After
      after_word = by (has_work o.errand) refl
        where
          by : (b : Bool) → has_work o.errand ≡ b → After
          by true has = in_hand has
          by false none = aside none

    pub own_word : Allows Law slots id me i f (own_saw log_seen data_seen me)
    own_word s R wide at small =
        let h = after_word s R at in
        let W : LogWork = Work s R at in
        let r : Answer = answer.Old (slice_index s.words i) in
        let held : Option (Slot L D) = held_behind me.0.held o (own_goes_on o W r).1 in
        let w : View L D = own_view me.0 x (own_goes_on o W r).0 held in (
          w,
          keeps,
          tt,
          h.0,
          of_own (λ (y : Numbered) (p : OwnUser). (k : LogWork) × HasWork me.0.held p k
              × OwnStepped log_seen data_seen y p k r (held_behind me.0.held p (own_goes_on p k r).1) me.1 me.0 (w, me.1))
              (W, turns.has_it log_seen log_gives data_seen data_gives about s R id me.0 x one at o its, h.1),
        )
