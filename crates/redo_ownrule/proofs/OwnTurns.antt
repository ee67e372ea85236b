-- A turn of a user that writes for itself, on the shared table: what it knows, what keeps the rule, and what the turn tells
-- its seat.
use Rattle.std.proofs.Common.{Bool, List, None, Option, Some, ap, arith, false, length, length-append, refl, set, subst, suc, sym, true, zero, ℕ, ⊎_elim, ◌++◌, ◌+◌, ◌<◌, ◌∙◌, ◌∷◌, ◌≡◌, ◌≢◌, ◌≤◌, ◌⊎◌}
use Rattle.std.specs.Prelude.{slice_index, slice_set, []}
use lib.ListN.{get_elem?}
use mathlib.Core.Option as maybe
use native.Mathlib.Decide.{ℕ_discrete}
use Rattle.atomic_table.specs.Table.{State}
use Rattle.model_core.proofs.FailedCalls.{gives_hand}
use Rattle.model_core.proofs.Lists.{set_at}
use Rattle.model_core.specs.{flat, flat_page_words, GivesFailed, hand, LogSide}
use Rattle.model_core.specs.States as model
use Rattle.model_core.specs.declared.ops.Answer.{Answer}
use Rattle.model_own.specs.{LogWork, own_goes_on, own_lends, own_next, own_step_of, OwnUser, has_work}
use Rattle.model_ownrun.proofs.Seats.{user_there}
use Rattle.redo_disk.specs.{Call, Seen}
use Rattle.redo_drive.specs.{CallsOn, AreLists, HasSamePages, IsPlayed, run_log_side}
use Rattle.redo_drive.specs.declared.parts.Parts.{Parts}
use Rattle.redo_logdev.specs.Part as log
use Rattle.redo_ownmachine.specs.OwnSeats.{actors_of, OwnSeats}
use Rattle.redo_ownmachine.specs.OwnStore.{OwnRunsWith}
use Rattle.redo_ownmachine.specs.Serving.{MayServeUser}
use Rattle.redo_ownrule.proofs.OwnDesk.{same_work}
use Rattle.redo_ownrule.proofs.OwnFailing.{errand_gives}
use Rattle.redo_ownrule.proofs.OwnFree.{own_free}
use Rattle.redo_ownrule.proofs.OwnHands.{held_still, holder_has}
use Rattle.redo_ownrule.proofs.OwnKept as turns
use Rattle.redo_ownrule.proofs.OwnMay as may
use Rattle.redo_ownrule.proofs.OwnWords.{holds_no_log}
use Rattle.redo_ownrule.specs.OwnPlays.{errand_of, HasWork, IsOwn, own_behind, own_view, OwnStepped}
use Rattle.redo_ownuser.specs.OwnFits.{OwnAnswerFits}
use Rattle.redo_rule.proofs.Holders as holders
use Rattle.redo_rule.proofs.Kept as kept
use Rattle.redo_rule.proofs.OwnStays.{worker_holds, WorkerHolds}
use Rattle.redo_rule.specs.OwnSide.{Beside, desk_with, OwnSide, SitsAs, work_of}
use Rattle.redo_rule.specs.Ruled.{IsSlotHeld, Knows, Ruled, slot_content}
use Rattle.redo_rule.specs.declared.law.About.{About}
use Rattle.redo_rule.specs.declared.law.Desk.{Desk}
use Rattle.redo_rule.specs.declared.law.Errand.{Errand}
use Rattle.redo_rule.specs.declared.law.Keeping.{Keeping}
use Rattle.redo_rule.specs.declared.law.Numbered.{Numbered}
use Rattle.redo_rule.specs.declared.law.Slot.{Slot}
use Rattle.redo_rule.specs.declared.law.Slot.TheVariants as slot
use Rattle.redo_rule.specs.declared.law.View.{View}
use Rattle.redo_store.specs.Part as store

abbrev pub errand_or : Errand → Option Errand → Errand
errand_or d None = d
errand_or d (Some e) = e

-- there are words enough
pub many : {L D : Type 0} (log_seen : L → Seen) (log_gives : L → Call → L → Type 0) (data_seen : D → Seen)
    (data_gives : D → Call → D → Type 0) (about : About L D) (s : State (Slot L D) (View L D))
    (R : Ruled log_seen log_gives data_seen data_gives about s) (k : ℕ) → k < 5 → 7 + k < length s.words
many log_seen log_gives data_seen data_gives about s R k below =
    let m = R.runs.running.shared in
    let n : length s.words ≡ length (flat m) = ap length (sym R.words_are ∙ R.runs.running.flat_is) in
    let after_cells : List ℕ = m.firsts ++ (m.places ++ flat_page_words m.page_words) in
    let rows = length-append m.lists (m.wlinks ++ (m.clinks ++ (m.cells ++ after_cells))) in
    let lists = R.runs.running.both.logged.sized.lists in
    omega arith

module _ {L D : Type 0} (log_seen : L → Seen) (log_gives : L → Call → L → Type 0) (data_seen : D → Seen)
    (data_gives : D → Call → D → Type 0) (about : About L D) (s : State (Slot L D) (View L D))
    (R : Ruled log_seen log_gives data_seen data_gives about s) (id : ℕ) (v : View L D) (x : Numbered)
    (one : v.seats ≡ x ∷ []) (at : get_elem? s.views id ≡ maybe.some v) (o : OwnUser) (its : IsOwn x o) where
  abbrev A : LogSide
  A = run_log_side log_seen data_seen R.run

  abbrev pub known : Knows about R.parts R.beside R.actors R.heard R.seat_of R.keeper R.out id v
  known = kept.known log_seen log_gives data_seen data_gives about s R id v x one at

  pub first : get_elem? v.seats 0 ≡ maybe.some x
  first = kept.first log_seen log_gives data_seen data_gives about s R id v x one at

  pub count : v.layout ≡ R.parts.words.layout
  count = kept.count log_seen log_gives data_seen data_gives about s R id v x one at

  pub here : get_elem? R.actors x.number ≡ maybe.some (model.User o.user)
  here = kept.here log_seen log_gives data_seen data_gives about s R id v x one at
      ∙ ap (λ (z : model.Actor). maybe.some z) its.state

  abbrev seat : turns.IsSeated R.beside.own x.number o
  seat = turns.seat_of_user A R.parts.log R.beside.own R.actors R.own x.number o here
      (subst (λ (z : Option Errand). SitsAs R.beside.own z x.number) its.errand (known.errand 0 x first))

  abbrev pub side : OwnSide
  side = seat.side

  abbrev pub own_is : ◌≡◌ {A = Option OwnSide} R.beside.own (Some side)
  own_is = seat.own_is

  abbrev pub there : get_elem? side.users x.number ≡ maybe.some o
  there = seat.there

  abbrev pub work : LogWork
  work = side.work

  abbrev pub seats : OwnSeats
  seats = turns.seats log_seen log_gives data_seen data_gives about s R id v x one at side own_is o there

  abbrev pub before : OwnRunsWith log_seen data_seen R.run about.plan.archive R.parts seats
  before = turns.before log_seen log_gives data_seen data_gives about s R id v x one at side own_is o there

  pub serves : MayServeUser R.parts o work
  serves = may.serves log_seen data_seen R.run R.parts seats before x.number o there

  pub holds_list : (k : ℕ) → hand (model.User o.user) ≡ Some k → v.held ≡ Some (slot_content R.parts R.beside k)
  holds_list k e = kept.holds_content log_seen log_gives data_seen data_gives about s R id v x one at k
      (ap hand its.state ∙ e)

  -- with the log's work in hand it has what lies in the log part's slot
  pub has_desk : has_work o.errand ≡ true → v.held ≡ Some (slot.Log (desk_with R.parts.log R.beside))
  has_desk has = known.work 0 x (errand_of o) first its.errand has

  pub beside_work : work_of R.beside.own ≡ Some work
  beside_work = ap work_of own_is

  pub has_it : HasWork v.held o work
  has_it has = (desk_with R.parts.log R.beside, has_desk has, beside_work)

  pub the_work : (k : LogWork) → HasWork v.held o k → has_work o.errand ≡ true → k ≡ work
  the_work k h has =
      let d = h has in
      same_work k work (sym d.2
      ∙ ap (λ (z : Desk L). z.work) (kept.same_desk d.0 (desk_with R.parts.log R.beside)
      (kept.same_slot (slot.Log d.0) (slot.Log (desk_with R.parts.log R.beside)) (sym d.1 ∙ has_desk has)))
      ∙ beside_work)

  -- nobody else that has a seat holds this slot, and no other user has the log's work in hand
  abbrev pub Alone : ℕ → Type 0
  Alone k = (n : ℕ) (c : model.Actor) (e : Option Errand) → n ≢ x.number → SitsAs R.beside.own e n
      → get_elem? R.actors n ≡ maybe.some c → hand c ≡ Some k → ⊥

  abbrev pub AloneAtWork : Type 0
  AloneAtWork = (n : ℕ) (g : Errand) → n ≢ x.number → SitsAs R.beside.own (Some g) n → has_work g.step ≡ true → ⊥

  worker : (n : ℕ) (y : OwnUser) → get_elem? side.users n ≡ maybe.some y → has_work y.errand ≡ true
      → WorkerHolds A side R.actors
  worker n y seated has = worker_holds A R.parts.log side R.actors
      (turns.worked log_seen log_gives data_seen data_gives about s R id v x one at side own_is o there) n y seated has

  abbrev sat : Option Errand → ℕ → Type 0
  sat e n = SitsAs (Some side) e n

  sits_in : (e : Option Errand) (n : ℕ) → SitsAs R.beside.own e n → sat e n
  sits_in e n sits = subst (λ (z : Option OwnSide). SitsAs z e n) own_is sits

  no_seat : (e : Option Errand) (n : ℕ) (c : model.Actor) → sat e n → get_elem? R.actors n ≡ maybe.some c
      → hand c ≡ Some 0 → (w : ℕ) → w < length side.users + 2 → n ≡ w → ⊥
  no_seat None n c far at_n holds w low same = omega arith
  no_seat (Some g) n c sits at_n holds w low same =
      let y : OwnUser = record { user = sits.0; errand = g.step; helped = g.helped } in
      let user : get_elem? R.actors n ≡ maybe.some (model.User sits.0) =
      ap (λ (l : List model.Actor). get_elem? l n)
      (turns.worked log_seen log_gives data_seen data_gives about s R id v x one at side own_is o there).are
      ∙ user_there side.users side.work
      (turns.worked log_seen log_gives data_seen data_gives about s R id v x one at side own_is o there).others n y sits.1
      in
      holds_no_log sits.0 sits.0.step
      (ap hand (maybe.some-injective (model.User sits.0) c (sym user ∙ at_n)) ∙ holds)

  pub in_hand_alone : has_work o.errand ≡ true → Alone 0
  in_hand_alone has n c e ne sits at_n holds =
      let w = worker x.number o there has in
      no_seat e n c (sits_in e n sits) at_n holds w.seat w.worker
      (holders.one_holder log_seen data_seen R.run R.parts R.actors R.runs n w.seat c w.who 0 at_n w.there holds w.holds)

  pub in_hand_work : has_work o.errand ≡ true → AloneAtWork
  in_hand_work has n g ne sits has_g =
      let z = sits_in (Some g) n sits in
      ne (before.errands.alone n x.number (record { user = z.0; errand = g.step; helped = g.helped }) o z.1 there has_g has)

  pub free_alone : (j : ℕ) → slice_index s.words (7 + j) ≡ 0 → Alone j
  free_alone j free n c e ne sits at_n holds =
      let t = (holders.holding log_seen data_seen R.run R.parts R.actors R.runs n c at_n j holds).word_is in
      let z : slice_index R.parts.words.words (7 + j) ≡ 0 = ap (λ (y : List ℕ). slice_index y (7 + j)) R.words_are ∙ free in
      omega arith

  pub free_work : slice_index s.words 7 ≡ 0 → AloneAtWork
  free_work free n g ne sits has_g =
      let z = sits_in (Some g) n sits in
      let w = worker n (record { user = z.0; errand = g.step; helped = g.helped }) z.1 has_g in
      let t = (holders.holding log_seen data_seen R.run R.parts R.actors R.runs w.seat w.who w.there 0 w.holds).word_is in
      let z : slice_index R.parts.words.words (7 + 0) ≡ 0 = ap (λ (y : List ℕ). slice_index y 7) R.words_are ∙ free in
      omega arith

  -- where the word of DEVICE is 0 this user hasn't the work either
  pub free_none : slice_index s.words 7 ≡ 0 → has_work o.errand ≡ false
  free_none free = by (has_work o.errand) refl
    where
      by : (b : Bool) → has_work o.errand ≡ b → has_work o.errand ≡ false
      by true has =
          let w = worker x.number o there has in
          let t = (holders.holding log_seen data_seen R.run R.parts R.actors R.runs w.seat w.who w.there 0 w.holds).word_is in
          let z : slice_index R.parts.words.words (7 + 0) ≡ 0 = ap (λ (y : List ℕ). slice_index y 7) R.words_are ∙ free in
          absurd (omega arith)
      by false has = has

  module _ (r : Answer) (new : Parts L D) (same : HasSamePages R.parts new)
      (played : IsPlayed log_seen data_seen R.run (own_next o work) (own_lends o work) R.parts r new)
      (block : List ℕ) where
    abbrev pub then : OwnUser
    then = (own_goes_on o work r).0

    abbrev pub left : LogWork
    left = (own_goes_on o work r).1

    abbrev pub now : OwnSide
    now = record { users = set side.users x.number then; work = left }

    abbrev pub beside : Beside
    beside = record { block = block; own = Some now }

    abbrev pub after : OwnSeats
    after = turns.after log_seen log_gives data_seen data_gives about s R id v x one at side own_is o there r new same
        played block

    abbrev pub runs_behind : OwnRunsWith log_seen data_seen R.run about.plan.archive new after
    runs_behind = turns.runs_behind log_seen log_gives data_seen data_gives about s R id v x one at side own_is o there r
        new same played block

    pub then_there : get_elem? now.users x.number ≡ maybe.some then
    then_there = set_at side.users x.number o then there

    then_here : get_elem? (actors_of after) x.number ≡ maybe.some (model.User then.user)
    then_here = user_there now.users left after.others x.number then then_there

    -- the log part is as it was, or the user has it in hand
    abbrev pub Keeps : Type 0
    Keeps = (◌≡◌ {A = log.Part L} new.log R.parts.log) ⊎ (has_work o.errand ≡ true)

    told_still : Keeps → (n : ℕ) (c : model.Actor) (code : ℕ) → length side.users + 2 ≤ n
        → get_elem? R.actors n ≡ maybe.some c → GivesFailed c code → A.Cause R.parts.log code → A.Cause new.log code
    told_still keeps n c code far at_n gives cause = ⊎_elim
        (λ e. subst (λ (p : log.Part L). A.Cause p code) (sym e) cause)
        (λ has. absurd (in_hand_alone has n c None (λ e. let low = past side.users x.number o there in omega arith)
        (subst (λ (z : Option OwnSide). SitsAs z None n) (sym own_is) far) at_n (gives_hand c code gives)))
        keeps
      where
        past : (l : List OwnUser) (i : ℕ) (y : OwnUser) → get_elem? l i ≡ maybe.some y → i < length l
        past [] i y e = absurd (maybe.some-ne-none y (sym e))
        past (z ∷ zs) zero y e = omega arith
        past (z ∷ zs) (suc i) y e = let r = past zs i y e in omega arith

    leaves : Keeps → kept.Leaves log_seen log_gives data_seen data_gives about s R id v x one at (own_behind x then) new
        beside (actors_of after) R.heard
    leaves keeps = turns.leaves log_seen log_gives data_seen data_gives about s R id v x one at side own_is o there r
        new same played block (own_free o work r serves.stands)
        (λ none. ⊎_elim (λ e. e) (λ has. let z : true ≡ false = sym has ∙ none in absurd (cc)) keeps) (told_still keeps)

    -- WHAT THE TURN TELLS
    pub steps : (held : Option (Slot L D)) (carried : List (ℕ × Slot L D))
        → ((desk : Desk L) → held ≡ Some (slot.Log desk) → has_work then.errand ≡ true
        → ◌≡◌ {A = log.Part L} desk.part new.log)
        → OwnStepped log_seen data_seen x o work r held carried v (own_view v x then held, carried)
    steps held carried with_log = record {
      fits = subst (OwnAnswerFits o work) (sym played.answered) (serves.fits played.code new.log.marks.stable);
      shown = record {
        about = about;
        about_is = known.told 0 x first;
        run = R.run;
        is_about = R.is_about;
        old = R.parts;
        seats = seats;
        runs = before;
        new = new;
        after = after;
        runs_on = runs_behind;
        at = there;
        work = refl;
        has_cause = λ code gives. turns.work_told log_seen log_gives data_seen data_gives about s R id v x one at side
            own_is o there code (errand_gives o.errand work code gives);
        ends = own_step_of o work r;
        turn = turns.turn log_seen log_gives data_seen data_gives about s R id v x one at side own_is o there r new same
            played block;
      };
      is = refl;
      may = may.may_go log_seen data_seen R.run new after runs_behind x.number then then_there v.layout held
          (count ∙ sym same.words) with_log;
    }

    -- who has a slot after it
    device_behind : slice_index new.words.words 7 ≡ 1 → IsSlotHeld (actors_of after) 0
    device_behind taken =
        let W = runs_behind.runs.running in
        let t = W.both.logged.taken (sym (ap (λ (ws : List ℕ). slice_index ws 7) W.flat_is) ∙ taken) in
        (W.log_ghost.holder, t.0, t.1, holder_has t.0 t.2)

    list_behind : (j : ℕ) → IsSlotHeld R.actors (suc j)
        → (hand (model.User o.user) ≡ Some (suc j) → hand (model.User then.user) ≡ Some (suc j))
        → IsSlotHeld (actors_of after) (suc j)
    list_behind j t keeps = elim (ℕ_discrete t.0 x.number) [
      | yes is ↦ (
        x.number,
        model.User then.user,
        then_here,
        keeps (ap hand (maybe.some-injective (model.User o.user) t.1
            (sym here ∙ ap (get_elem? R.actors) (sym is) ∙ t.2)) ∙ t.3),
      )
      | no far ↦ (
        t.0,
        t.1,
        held_still work left after.others j t.1 t.3 side.users x.number then t.0 far
            (sym (ap (λ (l : List model.Actor). get_elem? l t.0)
            (turns.worked log_seen log_gives data_seen data_gives about s R id v x one at side own_is o there).are)
            ∙ t.2),
        t.3,
      )
    ]

    -- what has become of a turn word
    abbrev pub Turned : ℕ → Type 0
    Turned zero = slice_index new.words.words 7 ≡ 1
    Turned (suc j) = (hand (model.User then.user) ≡ Some (suc j))
        ⊎ ((slice_index s.words (7 + suc j) ≢ 0)
        × (hand (model.User o.user) ≡ Some (suc j) → hand (model.User then.user) ≡ Some (suc j)))

    taken_by : (k : ℕ) → k < 5 → Turned k → IsSlotHeld (actors_of after) k
    taken_by zero l t = device_behind t
    taken_by (suc j) l t = ⊎_elim
        (λ h. (x.number, model.User then.user, then_here, h))
        (λ h. list_behind j (R.taken (suc j) l h.0) h.1) t

    -- THE RULE AFTER THE TURN
    module _ (keeps : Keeps) (held : Option (Slot L D))
        (own : (k : ℕ) → hand (model.User then.user) ≡ Some k → held ≡ Some (slot_content new beside k))
        (own_work : has_work then.errand ≡ true → held ≡ Some (slot_content new beside 0))
        (contents : (k : ℕ) → (◌≡◌ {A = Slot L D} (slot_content R.parts R.beside k) (slot_content new beside k)) ⊎ Alone k)
        (its_content : (◌≡◌ {A = Slot L D} (slot_content R.parts R.beside 0) (slot_content new beside 0)) ⊎ AloneAtWork)
        (store_same : ◌≡◌ {A = store.Part D} new.store R.parts.store) where
      abbrev pub w : View L D
      w = own_view v x then held

      stored : (id : ℕ) (d : Keeping D) → (R.keeper ≡ id) × (d.part ≡ R.parts.store) × (R.out ≡ d.out)
          → (R.keeper ≡ id) × ◌≡◌ {A = store.Part D} d.part new.store × (R.out ≡ d.out)
      stored id d t = (t.0, t.1 ∙ sym store_same, t.2)

      pub own_kept : (hs : List (maybe.Option (Slot L D))) → AreLists new.lists
          → CallsOn log_gives about.opened.value.log.dev about.opened.value.log.failed new.log.dev new.log.failed
          → new.log.shape ≡ R.parts.log.shape → length hs ≡ 6
          → ((k : ℕ) → k < 5 → slice_index new.words.words (7 + k) ≡ 0
          → get_elem? hs k ≡ maybe.some (maybe.some (slot_content new beside k)))
          → (R.out ≡ false → get_elem? hs 5 ≡ maybe.some (maybe.some (slot.Data R.parts.store)))
          → ((k : ℕ) → k < 5 → slice_index new.words.words (7 + k) ≢ 0 → Turned k)
          → Ruled log_seen log_gives data_seen data_gives about
          (record { words = new.words.words; homes = hs; views = slice_set s.views id w })
      own_kept hs are log_calls shape long home data_home turned = kept.kept_then log_seen log_gives data_seen data_gives
          about s R id v x one at (own_behind x then) new beside (actors_of after) R.heard (leaves keeps) w R.out refl refl
          refl own
          (λ e is has. own_work (ap (λ (z : Option Errand). has_work (errand_or e z).step) is ∙ has))
          (λ d h. stored id d (known.data_part d h))
          (λ n c k e ne sits at_n holds. ⊎_elim (λ z. z) (λ alone. absurd (alone n c e ne sits at_n holds)) (contents k))
          (λ n g ne sits has. ⊎_elim (λ z. z) (λ alone. absurd (alone n g ne sits has)) its_content)
          (λ j u d ne h is. stored j d ((R.knows j u h).data_part d is))
          hs are log_calls
          (subst (λ (z : store.Part D). CallsOn data_gives about.opened.value.store.dev about.opened.value.store.failed z.dev
          z.failed) (sym store_same) R.data_calls)
          shape long home
          (λ z. data_home z ∙ ap (λ (y : store.Part D). maybe.some (maybe.some (slot.Data y))) (sym store_same))
          (λ k l busy. taken_by k l (turned k l busy))
