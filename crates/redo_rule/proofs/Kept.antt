-- A turn of one actor keeps the rule, whatever it does to the slots.
use Rattle.std.proofs.Common.{Bool, List, None, Option, Some, [], ap, arith, false, length, length-set, refl, set, subst, suc, sym, true, zero, ℕ, ⊎_elim, inl, inr, ◌+◌, ◌<◌, ◌∙◌, ◌∷◌, ◌≡◌, ◌≢◌, ◌⊎◌, is_some}
use Rattle.std.specs.Prelude.{slice_index, slice_set}
use lib.ListN.{get_elem?}
use mathlib.Core.Option as maybe
use native.Mathlib.Decide.{ℕ_discrete}
use Rattle.atomic_table.specs.Table.{State}
use Rattle.model_core.proofs.Lists.{at_set, set_at, set_else}
use Rattle.model_core.specs.{answer_of, filled, Filling, Fills, lent, lsn, next, OpWords, SharedWords, step_of, took, UserState, AnswerFits, LogSide, Setup, LogServed, GivesFailed, hand, IsFreeToCheck}
use Rattle.model_core.specs.States as model
use Rattle.model_core.specs.Program.{Turn}
use Rattle.model_core.specs.declared.words.Layout.{Layout}
use Rattle.model_core.specs.declared.ops.Answer.{Answer}
use Rattle.model_core.specs.declared.ops.Op.{Op}
use Rattle.model_core.specs.declared.ops.Op.TheVariants as op
use Rattle.model_core.specs.declared.steps.UserStep.TheVariants as user_step
use Rattle.model_logcore.proofs.Failures.{stored_cause}
use Rattle.model_logcore.specs.{LogGhost, UserAt, UserFits}
use Rattle.model_logcore.specs.LogLaws.{LogLaws}
use Rattle.model_own.specs.{has_work}
use Rattle.model_pagecore.specs.DataLaws.{DataLaws}
use Rattle.model_running.specs.Appending.{IsNoAppend}
use Rattle.model_running.proofs.Filling.{next_filled}
use Rattle.model_running.proofs.Turns.{next_words}
use Rattle.redo_drive.proofs.DataPartLaws.{data_laws}
use Rattle.redo_drive.specs.DataPartSide as data_part
use Rattle.redo_disk.specs.{Call, Seen}
use Rattle.redo_flushlist.specs.{Listing}
use Rattle.redo_logdev.specs.Part as log
use Rattle.redo_drive.proofs.LogPartLaws.{log_laws}
use Rattle.redo_drive.specs.LogPartSide as log_part
use Rattle.redo_drive.proofs.MayTurn as may_turn
use Rattle.redo_drive.proofs.Told.{has_groups}
use Rattle.redo_drive.proofs.TurnsOf as turns
use Rattle.redo_drive.specs.{CallsOn, AreLists, lists_of, DataReady, HasSamePages, HasWholePages, IsPlayed, LogReady, RunOf, run_data_side, run_log_side, RunsWith, core_of, handed_by, MarkFits}
use Rattle.redo_drive.specs.declared.parts.Parts.{Parts}
use Rattle.model_core.proofs.FailedCalls.{gives_hand, has_stored, stores}
use Rattle.model_core.proofs.Hands.{stays_free}
use Rattle.redo_rule.proofs.Filled.{free_filled, stored_before}
use Rattle.redo_rule.proofs.Hearing.{hears_then, heard_else, heard_here, heard_then}
use Rattle.redo_rule.proofs.Loading.{loaded_then}
use Rattle.redo_rule.proofs.PagesRead.{reads_then}
use Rattle.redo_rule.proofs.OwnStays.{work_stays, worker_holds}
use Rattle.redo_rule.specs.Handing.{appended_by, HaveHandedOn, HaveLoaded, HaveRead, with_more}
use Rattle.redo_rule.specs.OwnSide.{Beside, desk_with, HasItsWork, OwnSide, SitsAs}
use Rattle.redo_rule.specs.Plays.{behind, MayGo, Shown, Stepped, view_behind}
use Rattle.redo_rule.specs.Ruled.{IsRunAbout, IsSlotHeld, Knows, Ruled, slot_content}
use Rattle.redo_rule.specs.declared.law.About.{About}
use Rattle.redo_rule.specs.declared.law.Desk.{Desk}
use Rattle.redo_rule.specs.declared.law.Errand.{Errand}
use Rattle.redo_rule.specs.declared.law.Heard.{Heard}
use Rattle.redo_rule.specs.declared.law.Keeping.{Keeping}
use Rattle.redo_rule.specs.declared.law.Numbered.{Numbered}
use Rattle.redo_rule.specs.declared.law.Slot.{Slot}
use Rattle.redo_rule.specs.declared.law.Slot.TheVariants as slot
use Rattle.redo_rule.specs.declared.law.View.{View}
use Rattle.redo_store.specs.Part as store
use Rattle.redo_words.specs.{Lends}
use Rattle.redo_words.specs.declared.lent.Lent.{Lent}

-- what stands in a list of one
in_one : (x : Numbered) (i : ℕ) (y : Numbered) → get_elem? (x ∷ []) i ≡ maybe.some y → ◌≡◌ {A = Numbered} x y
in_one x zero y e = maybe.some-injective x y e
in_one x (suc i) y e = absurd (maybe.some-ne-none y (sym e))

pub only : (l : List Numbered) (x : Numbered) (i : ℕ) (y : Numbered) → l ≡ x ∷ [] → get_elem? l i ≡ maybe.some y → ◌≡◌ {A = Numbered} x y
only l x i y one e = in_one x i y (sym (ap (λ (z : List Numbered). get_elem? z i) one) ∙ e)

-- two slots that are one, and two parts
abbrev slot_or : {L D : Type 0} → Slot L D → Option (Slot L D) → Slot L D
slot_or d None = d
slot_or d (Some x) = x

pub same_slot : {L D : Type 0} (x y : Slot L D) → Some x ≡ Some y → ◌≡◌ {A = Slot L D} x y
same_slot x y e = ap (slot_or x) e

abbrev desk_or : {L D : Type 0} → Desk L → Slot L D → Desk L
desk_or d (slot.Log desk) = desk
desk_or d (slot.Pages l) = d
desk_or d (slot.Data e) = d

pub same_desk : {L D : Type 0} (p q : Desk L) → ◌≡◌ {A = Slot L D} (slot.Log p) (slot.Log q) → ◌≡◌ {A = Desk L} p q
same_desk p q e = ap (desk_or p) e

pub same_log : {L D : Type 0} (p q : Desk L) → ◌≡◌ {A = Slot L D} (slot.Log p) (slot.Log q)
    → ◌≡◌ {A = log.Part L} p.part q.part
same_log p q e = ap (λ (z : Desk _). z.part) (same_desk p q e)

abbrev pages_or : {L D : Type 0} → Listing → Slot L D → Listing
pages_or d (slot.Log p) = d
pages_or d (slot.Pages l) = l
pages_or d (slot.Data e) = d

pub same_pages : {L D : Type 0} (l m : Listing) → ◌≡◌ {A = Slot L D} (slot.Pages l) (slot.Pages m) → l ≡ m
same_pages l m e = ap (pages_or l) e

abbrev data_or : {L D : Type 0} → store.Part D → Slot L D → store.Part D
data_or d (slot.Log p) = d
data_or d (slot.Pages l) = d
data_or d (slot.Data e) = e

pub same_data : {L D : Type 0} (d e : store.Part D) → ◌≡◌ {A = Slot L D} (slot.Data d) (slot.Data e) → ◌≡◌ {A = store.Part D} d e
same_data d e is = ap (data_or d) is

-- the laws of both parts, in each run
pub laws_of_log : {L D : Type 0} (log_seen : L → Seen) (data_seen : D → Seen) (run : RunOf L D) → LogLaws (run_log_side log_seen data_seen run)
laws_of_log log_seen data_seen run = log_laws log_seen (log_seen run.first_log.dev).faults run.first_log.marks.number (log_part.HasBegun log_seen (lsn run.setup.base) run.first_log)

pub laws_of_data : {L D : Type 0} (log_seen : L → Seen) (data_seen : D → Seen) (run : RunOf L D) → DataLaws (run_data_side log_seen data_seen run)
laws_of_data log_seen data_seen run = data_laws data_seen (data_seen run.first_data.dev).faults run.shape (data_part.HasBegun data_seen run.setup.opened run.first_data)

-- a user that has ended well
pub all_answered : (E : LogSide) (c : Setup) (m : SharedWords) (g : LogGhost) (p : E.Part) (n : ℕ) (u : UserState) → u.step ≡ user_step.Done → UserFits E c m g p n u → u.k ≡ length u.lines
all_answered E c m g p n u at_end fits = (subst (UserAt E c m g p n u) at_end fits.step).1

-- it has reserved as many groups as it has answered
pub none_in_hand : (E : LogSide) (c : Setup) (m : SharedWords) (g : LogGhost) (p : E.Part) (n : ℕ) (u : UserState)
    → u.step ≡ user_step.Done → UserFits E c m g p n u → length u.starts ≡ u.k
none_in_hand E c m g p n u at_end fits = (subst (UserAt E c m g p n u) at_end fits.step).0

pub done_is_free : (E : LogSide) (c : Setup) (m : SharedWords) (g : LogGhost) (p : E.Part) (n : ℕ) (u : UserState) → u.step ≡ user_step.Done → UserFits E c m g p n u → u.checks ≡ false
done_is_free E c m g p n u at_end fits = (subst (UserAt E c m g p n u) at_end fits.step).2

-- an Op appends, or it doesn't
append_or : (o : Op) → IsNoAppend o ⊎ ((mark : ℕ) × (o ≡ op.Append mark))
append_or (op.Append mark) = inr (mark, refl)
append_or _ = inl tt

module _ {L D : Type 0} {archive : Bool} (log_seen : L → Seen) (data_seen : D → Seen) (run : RunOf L D) (parts : Parts L D) (actors :
    List model.Actor) (runs : RunsWith log_seen data_seen run archive parts actors) (n : ℕ) (a : model.Actor) (at : get_elem?
    actors n ≡ maybe.some a) where
  abbrev logs : LogLaws (run_log_side log_seen data_seen run)
  logs = laws_of_log log_seen data_seen run

  abbrev datas : DataLaws (run_data_side log_seen data_seen run)
  datas = laws_of_data log_seen data_seen run

  pub fits_all : (code mark : ℕ) → AnswerFits a
      (answer_of parts.words.layout (lists_of parts.lists) (is_some parts.log.failed) code mark parts.words.words (next a))
  fits_all = may_turn.fits log_seen data_seen run parts actors runs logs datas n a at

  pub marks_fit : (code mark : ℕ) → MarkFits a
      (answer_of parts.words.layout (lists_of parts.lists) (is_some parts.log.failed) code mark parts.words.words (next a))
  marks_fit = may_turn.mark_fits log_seen data_seen run parts actors runs logs datas n a at

  -- an append asks for nothing of the parts, and any other Op may be played on them
  log_ready : (l : Lent) → Lends l (lent a) → LogReady parts.log l (next a)
  log_ready l lends = ⊎_elim
      (λ none. ((may_turn.serves_other log_seen data_seen run parts actors runs logs datas n a at none).playable l lends).log)
      (λ t. subst (LogReady parts.log l) (sym t.1) tt)
      (append_or (next a))

  data_ready : (l : Lent) → Lends l (lent a) → DataReady parts.store l (next a)
  data_ready l lends = ⊎_elim
      (λ none. ((may_turn.serves_other log_seen data_seen run parts actors runs logs datas n a at none).playable l lends).data_part)
      (λ t. subst (DataReady parts.store l) (sym t.1) tt)
      (append_or (next a))

  whole_pages : HasWholePages parts.store.shape (next a) (lent a)
  whole_pages = ⊎_elim
      (λ none. (may_turn.serves_other log_seen data_seen run parts actors runs logs datas n a at none).whole)
      (λ t. subst (λ (o : Op). HasWholePages parts.store.shape o (lent a)) (sym t.1) tt)
      (append_or (next a))

  pub words_there : OpWords parts.words.layout (next a)
  words_there = subst (λ (k : Layout). OpWords k (next a)) (sym runs.running.layout_is)
      (next_words (run_log_side log_seen data_seen run) (run_data_side log_seen data_seen run) run.setup
      runs.running.shared runs.running.log_ghost runs.running.page_ghost (lists_of parts.lists) parts.log
      parts.store actors n runs.running.both a at)

  abbrev answer_to : Op → Answer
  answer_to = answer_of parts.words.layout (lists_of parts.lists) (is_some parts.log.failed) 0 0 parts.words.words

  pub may_go : (layout : Layout) (held : Option (Slot L D)) (stored : Option (Keeping D)) → layout ≡ parts.words.layout →
      ((desk : Desk L) → held ≡ Some (slot.Log desk) → hand a ≡ Some 0 → ◌≡◌ {A = log.Part L} desk.part parts.log)
      → ((d : Keeping D) → stored ≡ Some d → ◌≡◌ {A = store.Part D} d.part parts.store) → IsFreeToCheck a → MayGo layout held stored a
  may_go layout held stored count with_log with_data free = record {
    there = subst (λ (k : Layout). OpWords k (next a)) (sym count) words_there;
    log = λ p is mine l lends. subst (λ (q : log.Part L). LogReady q l (next a)) (sym (with_log p is mine)) (log_ready l lends);
    data_part = λ d is l lends. subst (λ (e : store.Part D). DataReady e l (next a)) (sym (with_data d is)) (data_ready l lends);
    whole = λ d is. subst (λ (e : store.Part D). HasWholePages e.shape (next a) (lent a)) (sym (with_data d is)) whole_pages;
    free = free;
    done = λ u is at_end. all_answered (run_log_side log_seen data_seen run) run.setup runs.running.shared runs.running.log_ghost parts.log n u at_end (runs.running.both.logged.each n (model.User u) (at ∙ ap (λ (z : model.Actor). maybe.some z) is));
    no_more = λ u is at_end. none_in_hand (run_log_side log_seen data_seen run) run.setup runs.running.shared
        runs.running.log_ghost parts.log n u at_end (runs.running.both.logged.each n (model.User u)
        (at ∙ ap (λ (z : model.Actor). maybe.some z) is));
    groups = has_groups log_seen data_seen run parts actors runs n a at;
    rest = λ e. (
      subst (λ (o : Op). AnswerFits a (answer_to o)) e (fits_all 0 0),
      subst (λ (o : Op). MarkFits a
          (answer_to o)) e (marks_fit 0 0),
    );
    give = λ e. (
      subst (λ (o : Op). AnswerFits a (answer_to o)) e (fits_all 0 0),
      subst (λ (o : Op). MarkFits a
          (answer_to o)) e (marks_fit 0 0),
    );
  }

module _ {L D : Type 0} (log_seen : L → Seen) (log_gives : L → Call → L → Type 0) (data_seen : D → Seen) (data_gives : D → Call → D → Type 0) (about : About L D) (s : State (Slot L D) (View L D)) (R : Ruled log_seen log_gives data_seen data_gives about s)
    (id : ℕ) (v : View L D) (x : Numbered) (one : v.seats ≡ x ∷ []) (at : get_elem? s.views id ≡ maybe.some v) where
  abbrev a : model.Actor
  a = x.actor

  pub known : Knows about R.parts R.beside R.actors R.heard R.seat_of R.keeper R.out id v
  known = R.knows id v at

  pub first : get_elem? v.seats 0 ≡ maybe.some x
  first = ap (λ (z : List Numbered). get_elem? z 0) one

  pub count : v.layout ≡ R.parts.words.layout
  count = known.layout 0 x first

  pub here : get_elem? R.actors x.number ≡ maybe.some x.actor
  here = (known.mine 0 x first).1

  pub seated : R.seat_of x.number ≡ id
  seated = (known.mine 0 x first).0

  pub is_free : IsFreeToCheck a
  is_free = known.free 0 x first

  pub holds_content : (k : ℕ) → hand a ≡ Some k → v.held ≡ Some (slot_content R.parts R.beside k)
  holds_content k e = known.held 0 x k first e

  pub fits : (code mark : ℕ) → AnswerFits a (answer_of R.parts.words.layout (lists_of R.parts.lists)
      (is_some R.parts.log.failed) code mark R.parts.words.words (next a))
  fits code mark = fits_all log_seen data_seen R.run R.parts R.actors R.runs x.number a here code mark

  -- WHAT A TURN LEAVES OF THE RUN, by which the seat's actor comes to this state: all but where the slots are.
  pub record Leaves (then : Numbered) (new : Parts L D) (beside : Beside) (after : List model.Actor)
      (heard : ℕ → Heard) : Type 0 where
    pub same : HasSamePages R.parts new
    pub run : RunOf L D
    pub is_about : IsRunAbout log_seen data_seen about run
    pub runs : RunsWith log_seen data_seen run about.plan.archive new after
    pub own_is : is_some beside.own ≡ is_some R.beside.own
    pub own : HasItsWork (run_log_side log_seen data_seen run) new.log beside.own after
    pub hears : HaveHandedOn (run_log_side log_seen data_seen run) run.setup.base new.log heard after
        runs.running.log_ghost.log
    pub reads : HaveRead run.setup new.words.words heard runs.running.log_ghost.log
    pub loaded : HaveLoaded new.words.words after
    pub count : length after ≡ length R.actors
    pub told : (n : ℕ) (c : model.Actor) (code : ℕ) → get_elem? after n ≡ maybe.some c → GivesFailed c code
        → (run_log_side log_seen data_seen run).Cause new.log code
    pub number : then.number ≡ x.number
    pub here : get_elem? after x.number ≡ maybe.some then.actor
    pub its_heard : ◌≡◌ {A = Heard} (heard x.number) then.heard
    pub free : IsFreeToCheck then.actor
    pub sits : SitsAs beside.own then.errand x.number
    -- whoever else has a seat is as it was
    pub others : (n : ℕ) (e : Option Errand) → n ≢ x.number → SitsAs R.beside.own e n
        → (get_elem? after n ≡ get_elem? R.actors n) × (◌≡◌ {A = Heard} (heard n) (R.heard n))
        × SitsAs beside.own e n

  module _ (then : Numbered) (new : Parts L D) (beside : Beside) (after : List model.Actor) (heard : ℕ → Heard)
      (left : Leaves then new beside after heard) (w : View L D) (out : Bool) (about_w : w.about ≡ v.about)
      (layout_w : w.layout ≡ v.layout) (seats_w : w.seats ≡ then ∷ [])
      (own : (k : ℕ) → hand then.actor ≡ Some k → w.held ≡ Some (slot_content new beside k))
      (own_work : (e : Errand) → then.errand ≡ Some e → has_work e.step ≡ true
      → w.held ≡ Some (slot_content new beside 0))
      (data_w : (d : Keeping D) → w.data_part ≡ Some d
      → (R.keeper ≡ id) × ◌≡◌ {A = store.Part D} d.part new.store × (out ≡ d.out)) where
    sits_at : (y : Numbered) → ◌≡◌ {A = Numbered} then y → (R.seat_of y.number ≡ id)
        × (get_elem? after y.number ≡ maybe.some y.actor) × ◌≡◌ {A = Heard} (heard y.number) y.heard
    sits_at y is = subst (λ (z : Numbered). (R.seat_of z.number ≡ id)
        × (get_elem? after z.number ≡ maybe.some z.actor) × ◌≡◌ {A = Heard} (heard z.number) z.heard) is
        (subst (λ (n : ℕ). (R.seat_of n ≡ id) × (get_elem? after n ≡ maybe.some then.actor)
        × ◌≡◌ {A = Heard} (heard n) then.heard) (sym left.number) (seated, left.here, left.its_heard))

    knows_then : Knows about new beside after heard R.seat_of R.keeper out id w
    knows_then = record {
      told = λ i y e. about_w ∙ known.told 0 x first;
      layout = λ i y e. layout_w ∙ count ∙ sym left.same.words;
      mine = λ i y e. sits_at y (only w.seats then i y seats_w e);
      free = λ i y e. subst (λ (z : Numbered). IsFreeToCheck z.actor) (only w.seats then i y seats_w e) left.free;
      held = λ i y k e held. own k (ap (λ (z : Numbered). hand z.actor) (only w.seats then i y seats_w e) ∙ held);
      errand = λ i y e. subst (λ (z : Numbered). SitsAs beside.own z.errand z.number) (only w.seats then i y seats_w e)
          (subst (SitsAs beside.own then.errand) (sym left.number) left.sits);
      work = λ i y g e is has. own_work g (ap (λ (z : Numbered). z.errand) (only w.seats then i y seats_w e) ∙ is) has;
      data_part = data_w;
    }

    module _ (others : (n : ℕ) (c : model.Actor) (k : ℕ) (e : Option Errand) → n ≢ x.number → SitsAs R.beside.own e n
        → get_elem? R.actors n ≡ maybe.some c → hand c ≡ Some k
        → ◌≡◌ {A = Slot L D} (slot_content R.parts R.beside k) (slot_content new beside k))
        (others_work : (n : ℕ) (g : Errand) → n ≢ x.number → SitsAs R.beside.own (Some g) n → has_work g.step ≡ true
        → ◌≡◌ {A = Slot L D} (slot_content R.parts R.beside 0) (slot_content new beside 0))
        (data_others : (j : ℕ) (u : View L D) (d : Keeping D) → j ≢ id → get_elem? s.views j ≡ maybe.some u
        → u.data_part ≡ Some d → (R.keeper ≡ j) × ◌≡◌ {A = store.Part D} d.part new.store × (out ≡ d.out)) where
      knows_others : (j : ℕ) (u : View L D) → j ≢ id → get_elem? s.views j ≡ maybe.some u
          → Knows about new beside after heard R.seat_of R.keeper out j u
      knows_others j u ne e =
          let K = R.knows j u e in
          let far : (i : ℕ) (y : Numbered) → get_elem? u.seats i ≡ maybe.some y → y.number ≢ x.number = λ i y at z.
          ne (sym (K.mine i y at).0 ∙ ap R.seat_of z ∙ seated) in
          let still = λ (i : ℕ) (y : Numbered) (at : get_elem? u.seats i ≡ maybe.some y).
          left.others y.number y.errand (far i y at) (K.errand i y at) in record {
            told = K.told;
            layout = λ i y e. K.layout i y e ∙ sym left.same.words;
            mine = λ i y e. (
              (K.mine i y e).0,
              (still i y e).0 ∙ (K.mine i y e).1,
              (still i y e).1 ∙ (K.mine i y e).2,
            );
            free = K.free;
            held = λ i y k e held. K.held i y k e held ∙ ap (λ (z : Slot L D). Some z) (others y.number y.actor k
                y.errand (far i y e) (K.errand i y e) (K.mine i y e).1 held);
            errand = λ i y e. (still i y e).2;
            work = λ i y g e is has. K.work i y g e is has ∙ ap (λ (z : Slot L D). Some z)
                (others_work y.number g (far i y e)
                (subst (λ (z : Option Errand). SitsAs R.beside.own z y.number) is (K.errand i y e)) has);
            data_part = λ d h. data_others j u d ne e h;
          }

      -- THE RULE after a turn, over any homes of the slots
      pub kept_then : (hs : List (maybe.Option (Slot L D))) → AreLists new.lists
          → CallsOn log_gives about.opened.value.log.dev about.opened.value.log.failed new.log.dev new.log.failed
          → CallsOn data_gives about.opened.value.store.dev about.opened.value.store.failed new.store.dev new.store.failed
          → new.log.shape ≡ R.parts.log.shape → length hs ≡ 6
          → ((k : ℕ) → k < 5 → slice_index new.words.words (7 + k) ≡ 0
          → get_elem? hs k ≡ maybe.some (maybe.some (slot_content new beside k)))
          → (out ≡ false → get_elem? hs 5 ≡ maybe.some (maybe.some (slot.Data new.store)))
          → ((k : ℕ) → k < 5 → slice_index new.words.words (7 + k) ≢ 0 → IsSlotHeld after k)
          → Ruled log_seen log_gives data_seen data_gives about (record { words = new.words.words; homes = hs; views = slice_set s.views id w })
      kept_then hs are log_calls data_calls shape long home data_home taken = record {
        run = left.run;
        is_about = left.is_about;
        parts = new;
        beside = beside;
        actors = after;
        heard = heard;
        words_are = refl;
        lists_are = are;
        own_is = R.own_is ∙ sym left.own_is;
        own = left.own;
        runs = left.runs;
        hears = left.hears;
        reads = left.reads;
        loaded = left.loaded;
        count = left.count ∙ R.count;
        log_calls = log_calls;
        data_calls = data_calls;
        log_shape = shape ∙ R.log_shape;
        slots = long;
        home = home;
        seat_of = R.seat_of;
        keeper = R.keeper;
        out = out;
        data_home = data_home;
        told = left.told;
        taken = taken;
        knows = λ j u e. ⊎_elim (λ t. subst (λ (z : View L D). Knows about new beside after heard R.seat_of R.keeper
            out j z) t.1
            (subst (λ (i : ℕ). Knows about new beside after heard R.seat_of R.keeper out i w) (sym t.0) knows_then))
            (λ t. knows_others j u t.0 t.1) (at_set s.views id j w u e);
      }

  module _ (f : Filling) (fills : Fills a f) (r : Answer) (new : Parts L D) (beside : Beside) (same : HasSamePages
      R.parts new)
      (played : IsPlayed log_seen data_seen R.run (next a) (lent (filled a f)) R.parts r new)
      (plain : ◌≡◌ {A = Option Errand} x.errand None) where
    -- it plays by its own program, and so it sits behind those that have the log's work, if users have that
    pub sits_plain : SitsAs R.beside.own None x.number
    sits_plain = subst (λ (e : Option Errand). SitsAs R.beside.own e x.number) plain (known.errand 0 x first)

    abbrev b : model.Actor
    b = took (filled a f) r

    abbrev after : List model.Actor
    after = set R.actors x.number b

    abbrev heard : ℕ → Heard
    heard = heard_then R.heard x.number (handed_by (filled a f)) (appended_by a)

    abbrev pub turn : Turn (run_log_side log_seen data_seen R.run) (run_data_side log_seen data_seen R.run) (core_of
        log_seen data_seen R.run R.parts R.actors) x.number r (step_of (filled a f) r) (core_of log_seen data_seen
        R.run new after)
    turn = record {
      who = a;
      who_is = here;
      filling = f;
      fills = fills;
      code = played.code;
      log_served = played.log_served;
      data_served = played.data_served;
      own_served = played.own_served;
      layout = played.layout;
      words = played.words;
      lists = played.lists;
      answered = played.answered;
      actors = refl;
      ends = refl;
    }

    abbrev pub runs_behind : RunsWith log_seen data_seen R.run about.plan.archive new after
    runs_behind = turns.goes_on log_seen data_seen R.run R.parts new R.actors after x.number r (step_of (filled a f) r)
        (laws_of_log log_seen data_seen R.run) (laws_of_data log_seen data_seen R.run) same R.runs turn

    abbrev pub shown : Shown log_seen data_seen v.about x.number x.heard a r
    shown = record {
      about = about;
      about_is = known.told 0 x first;
      run = R.run;
      is_about = R.is_about;
      old = R.parts;
      actors = R.actors;
      runs = R.runs;
      new = new;
      after = after;
      runs_on = runs_behind;
      at = here;
      hears = λ told. sym (ap (λ (h : Heard). h.groups) (known.mine 0 x first).2) ∙ (R.hears told x.number a here).groups;
      has_cause = λ code gives. R.told x.number a code here gives;
      ends = step_of (filled a f) r;
      turn = turn;
    }

    -- this actor, if it has stored its code now
    told_here : (code : ℕ) → GivesFailed b code → (run_log_side log_seen data_seen R.run).Cause new.log code
    told_here code gives =
        let h = has_stored (filled a f) r code (free_filled a f is_free) gives in
        let asks : next a ≡ next (filled a f) = sym (next_filled a f) in
        let same_part : new.log ≡ R.parts.log = subst (λ (o : Op). LogServed (run_log_side log_seen data_seen R.run)
        R.parts.log (lent (filled a f)) o played.code new.log) (asks ∙ stores (filled a f) code h.0 h.1)
        played.log_served in
        subst (λ (p : log.Part L). (run_log_side log_seen data_seen R.run).Cause p code) (sym same_part)
        (stored_cause (run_log_side log_seen data_seen R.run) R.run.setup R.runs.running.shared
        R.runs.running.log_ghost R.parts.log x.number a code (stored_before a f code h.1)
        (R.runs.running.both.logged.each x.number a here))

    pub here_behind : get_elem? after x.number ≡ maybe.some b
    here_behind = set_at R.actors x.number a b here

    -- an actor after the turn, and who it was
    was : (n : ℕ) (c : model.Actor) → get_elem? after n ≡ maybe.some c
        → (d : model.Actor) × (get_elem? R.actors n ≡ maybe.some d)
    was n c e = ⊎_elim (λ t. (a, ap (get_elem? R.actors) t.0 ∙ here)) (λ t. (c, t.1)) (at_set R.actors x.number n b c e)

    hears_behind : HaveHandedOn (run_log_side log_seen data_seen R.run) R.run.setup.base new.log heard after
        runs_behind.running.log_ghost.log
    hears_behind = hears_then log_seen data_seen R.run R.parts new R.actors after x.number r (step_of (filled a f) r)
        (laws_of_log log_seen data_seen R.run) (laws_of_data log_seen data_seen R.run) same R.runs turn R.heard was
        R.hears

    -- who holds a slot after the turn
    holds_behind : (k : ℕ) → hand b ≡ Some k → IsSlotHeld after k
    holds_behind k e = (x.number, b, here_behind, e)

    held_still : (k : ℕ) → IsSlotHeld R.actors k → (hand a ≡ Some k → hand b ≡ Some k) → IsSlotHeld after k
    held_still k t keeps = elim (ℕ_discrete t.0 x.number) [
      | yes same ↦ holds_behind k (keeps (ap hand (maybe.some-injective a t.1 (sym here ∙ ap (get_elem? R.actors) (sym
          same) ∙ t.2)) ∙ t.3))
      | no far ↦ (t.0, t.1, set_else R.actors x.number t.0 b far ∙ t.2, t.3)
    ]

    pub goes_on : (held : Option (Slot L D)) (stored : Option (Keeping D)) → ((desk : Desk L) → held ≡ Some (slot.Log
        desk) → hand b ≡ Some 0 → ◌≡◌ {A = log.Part L} desk.part new.log) → ((d : Keeping D) → stored ≡ Some d → ◌≡◌
        {A = store.Part D} d.part new.store)
        → MayGo v.layout held stored b
    goes_on held stored with_log with_data = may_go log_seen data_seen R.run new after runs_behind x.number b
        here_behind v.layout held stored (count ∙ sym same.words) with_log with_data (stays_free (filled a f) r)

    module _ (w : View L D) (out : Bool) (about_w : w.about ≡ v.about) (layout_w : w.layout ≡ v.layout)
        (seats_w : w.seats ≡ behind x f r ∷ [])
        (same_own : ◌≡◌ {A = Option OwnSide} beside.own R.beside.own) (own : (k : ℕ) → hand b ≡ Some k → w.held ≡ Some (slot_content new
        beside k))
        (data_w : (d : Keeping D) → w.data_part ≡ Some d → (R.keeper ≡ id) × ◌≡◌ {A = store.Part D} d.part new.store × (out ≡ d.out)) where
      own_behind : HasItsWork (run_log_side log_seen data_seen R.run) new.log beside.own after
      own_behind = subst (λ (z : Option OwnSide). HasItsWork (run_log_side log_seen data_seen R.run) new.log z after)
          (sym same_own)
          (work_stays log_seen data_seen R.run R.parts R.actors R.runs (laws_of_log log_seen data_seen R.run)
          (laws_of_data log_seen data_seen R.run) x.number a b here (lent (filled a f)) played.code new.log
          played.log_served R.beside.own sits_plain R.own)

      no_work : (e : Errand) → x.errand ≡ Some e → has_work e.step ≡ true → w.held ≡ Some (slot_content new beside 0)
      no_work e is has = let none : Some e ≡ None = sym is ∙ plain in absurd (cc)

      module _ (others : (n : ℕ) (c : model.Actor) (k : ℕ) → n ≢ x.number → get_elem? R.actors n ≡ maybe.some c → hand
          c ≡ Some k → ◌≡◌ {A = Slot L D} (slot_content R.parts R.beside k) (slot_content new beside k))
          (data_others : (j : ℕ) (u : View L D) (d : Keeping D) → j ≢ id → get_elem? s.views j ≡ maybe.some u → u.data_part ≡ Some d → (R.keeper ≡ j) × ◌≡◌ {A = store.Part D} d.part new.store × (out ≡ d.out)) where
        -- whoever has the log's work in hand has the log part as it was: one of the others holds that, for these actors
        in_hand_still : (o : Option OwnSide)
            → HasItsWork (run_log_side log_seen data_seen R.run) R.parts.log o R.actors → SitsAs o None x.number
            → (n : ℕ) (g : Errand) → n ≢ x.number → SitsAs o (Some g) n → has_work g.step ≡ true
            → ◌≡◌ {A = Slot L D} (slot_content R.parts R.beside 0) (slot_content new beside 0)
        in_hand_still None W far n g ne sits has = absurd sits
        in_hand_still (Some side) W far n g ne sits has =
            let h = worker_holds (run_log_side log_seen data_seen R.run) R.parts.log side R.actors W n
            (record { user = sits.0; errand = g.step; helped = g.helped }) sits.1 has in
            let low = h.worker in
            others h.seat h.who 0 (λ e. omega arith) h.there h.holds

        told_behind : (n : ℕ) (c : model.Actor) (code : ℕ) → get_elem? after n ≡ maybe.some c → GivesFailed c code
            → (run_log_side log_seen data_seen R.run).Cause new.log code
        told_behind n c code e gives = ⊎_elim
            (λ t. told_here code (subst (λ (z : model.Actor). GivesFailed z code) (sym t.1) gives))
            (λ t. subst (λ (p : log.Part L). (run_log_side log_seen data_seen R.run).Cause p code)
            (same_log (desk_with R.parts.log R.beside) (desk_with new.log beside)
            (others n c 0 t.0 t.1 (gives_hand c code gives)))
            (R.told n c code t.1 gives))
            (at_set R.actors x.number n b c e)

        leaves : Leaves (behind x f r) new beside after heard
        leaves = record {
          same = same;
          run = R.run;
          is_about = R.is_about;
          runs = runs_behind;
          own_is = ap (λ (z : Option OwnSide). is_some z) same_own;
          own = own_behind;
          hears = hears_behind;
          reads = reads_then log_seen data_seen R.run R.parts new R.actors after x.number r (step_of (filled a f) r)
              (laws_of_log log_seen data_seen R.run) (laws_of_data log_seen data_seen R.run) same R.runs turn R.heard
              (handed_by (filled a f)) (appended_by a) R.reads;
          loaded = loaded_then log_seen data_seen R.run R.parts new R.actors after x.number r (step_of (filled a f) r) R.runs
              turn R.loaded;
          count = length-set R.actors x.number b;
          told = told_behind;
          number = refl;
          here = here_behind;
          its_heard = heard_here R.heard x.number (handed_by (filled a f)) (appended_by a)
              ∙ ap (λ (h : Heard). with_more h (handed_by (filled a f)) (appended_by a)) (known.mine 0 x first).2;
          free = stays_free (filled a f) r;
          sits = subst (λ (z : Option OwnSide). SitsAs z x.errand x.number) (sym same_own) (known.errand 0 x first);
          others = λ n e far sits. (
            set_else R.actors x.number n b far,
            heard_else R.heard x.number (handed_by (filled a f)) (appended_by a) n far,
            subst (λ (z : Option OwnSide). SitsAs z e n) (sym same_own) sits,
          );
        }

        pub kept : (hs : List (maybe.Option (Slot L D))) → AreLists new.lists
            → CallsOn log_gives about.opened.value.log.dev about.opened.value.log.failed new.log.dev new.log.failed → CallsOn data_gives about.opened.value.store.dev about.opened.value.store.failed new.store.dev new.store.failed
            → new.log.shape ≡ R.parts.log.shape → length hs ≡ 6 → ((k : ℕ) → k < 5 → slice_index new.words.words (7 +
            k) ≡ 0 → get_elem? hs k ≡ maybe.some (maybe.some (slot_content new beside k)))
            → (out ≡ false → get_elem? hs 5 ≡ maybe.some (maybe.some (slot.Data new.store)))
            → ((k : ℕ) → k < 5 → slice_index new.words.words (7 + k) ≢ 0 → (hand b ≡ Some k) ⊎ ((slice_index s.words (7 + k) ≢ 0) × (hand a ≡ Some k → hand b ≡ Some k)))
            → Ruled log_seen log_gives data_seen data_gives about (record { words = new.words.words; homes = hs; views = slice_set s.views id w })
        kept hs are log_calls data_calls shape long home data_home turned = kept_then (behind x f r) new beside after heard
            leaves w out about_w layout_w seats_w own no_work data_w (λ n c k e ne sits at held. others n c k ne at held)
            (in_hand_still R.beside.own R.own sits_plain) data_others hs are log_calls data_calls shape long home
            data_home
            (λ k l busy. ⊎_elim (λ t. holds_behind k t) (λ t. held_still k (R.taken k l t.0) t.1) (turned k l busy))

    -- what the step tells
    pub steps : (carried : List (ℕ × Slot L D)) (held : Option (Slot L D)) (stored : Option (Keeping D))
        (after_carried : List (ℕ × Slot L D)) → ((k : ℕ) → hand b ≡ Some k → held ≡ Some (slot_content new beside k)) →
        ((d : Keeping D) → stored ≡ Some d → ◌≡◌ {A = store.Part D} d.part new.store)
        → Stepped log_seen data_seen x f r held stored after_carried (v, carried)
        (view_behind v x f r held stored, after_carried)
    steps carried held stored after_carried own data_is =
        record {
          fits = subst (AnswerFits a) (sym played.answered) (fits played.code new.log.marks.stable);
          mark = subst (MarkFits a) (sym played.answered)
              (marks_fit log_seen data_seen R.run R.parts R.actors R.runs x.number a here played.code new.log.marks.stable);
          shown = shown;
          filling = refl;
          is = refl;
          may = goes_on held stored (λ desk e mine. same_log desk (desk_with new.log beside)
              (same_slot (slot.Log desk) (slot.Log (desk_with new.log beside)) (sym e ∙ own 0 mine)))
              data_is;
        }
