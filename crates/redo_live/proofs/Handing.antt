-- The seat of a user that was handed in a line is its seat still.
use Rattle.std.proofs.Common.{List, None, Option, Some, [], ap, arith, false, length, length-append, refl, subst, sym, ℕ, ◌+◌, ◌<◌, ◌^◌, ◌∙◌, ◌∷◌, ◌≡◌}
use Rattle.std.proofs.Math.ListN.{get_or-append}
use Rattle.std.specs.Prelude.{slice_index}
use Rattle.atomic_table.specs.Seated.{TableId}
use Rattle.atomic_table.specs.Table.{Me}
use Rattle.atomic_table.specs.declared.shared.Seat.{Seat}
use Rattle.model_core.specs.{holds_tail, Line, UserState, word_count, hand, user_hand}
use Rattle.model_core.specs.States as model
use Rattle.model_core.specs.declared.ops.Op.TheVariants as op
use Rattle.model_core.specs.declared.steps.UserStep.{UserStep}
use Rattle.model_core.specs.declared.steps.UserStep.TheVariants as user_step
use Rattle.model_core.specs.declared.words.Layout.{Layout}
use Rattle.model_core.specs.declared.words.LinkBuffer.{LinkBuffer}
use Rattle.model_core.specs.declared.words.LinkBuffer.TheVariants as link_buffer
use Rattle.model_core.specs.declared.words.Word.TheVariants as word
use Rattle.redo_drive.specs.Reserved.{HasReserved}
use Rattle.redo_rule.specs.HandIn.{handed_in, numbered_with, view_with, with_line}
use Rattle.redo_rule.specs.Mine.{heard_in, heard_of, number_in, number_of}
use Rattle.redo_rule.specs.Plays.{Carries, MayGo}
use Rattle.redo_rule.specs.Seating.{IsSeatOf}
use Rattle.redo_rule.specs.declared.law.Keeping.{Keeping}
use Rattle.redo_rule.specs.declared.law.Numbered.{Numbered}
use Rattle.redo_rule.specs.declared.law.Slot.{Slot}
use Rattle.redo_rule.specs.declared.law.View.{View}

-- the step of a user
abbrev step_in : model.Actor → UserStep
step_in (model.User u) = u.step
step_in _ = user_step.Done

goes_on : (u v : UserState) (line : Line) → model.User (with_line u line) ≡ model.User v → v.step ≡ user_step.Done → ⊥
goes_on u v line is done =
    let e : user_step.LoadCheckpoint ≡ user_step.Done = ap step_in is ∙ done in cc

-- its groups end at sns still
still_reserved : (u : UserState) (line : Line) (k : ℕ) → HasReserved u k → HasReserved (with_line u line) k
still_reserved u line k r = record {
  start = r.start;
  line = (let n = length-append u.lines (line ∷ []) in let l = r.line in omega arith);
  small = subst (λ (x : Line). slice_index u.starts k + length x.bytes < 2 ^ 61)
      (sym (get_or-append u.lines (line ∷ []) (record { mode = 0; bytes = []; changes = [] }) k r.line)) r.small;
}

tail_free : (u : UserState) (line : Line) (b : LinkBuffer) → holds_tail b (model.User (with_line u line)) ≡ false
tail_free u line link_buffer.Written = refl
tail_free u line link_buffer.Closed = refl

module _ {L D : Type 0} where
  -- it may go on to the line
  may_go_on : (layout : Layout) (held : Option (Slot L D)) (stored : Option (Keeping D)) (u : UserState) (line : Line)
      → MayGo layout held stored (model.User u) → MayGo layout held stored (model.User (with_line u line))
  may_go_on layout held stored u line may = record {
    there = tt;
    log = λ desk is mine l lends. let z : ◌≡◌ {A = Option ℕ} None (Some 0) = mine in absurd (cc);
    data_part = λ d is l lends. tt;
    whole = λ d is. tt;
    free = λ checks. record { no_slot = refl; no_tail = tail_free u line };
    rest = λ e. let z : op.Load word.Failed ≡ op.Rest = e in absurd (cc);
    give = λ e. let z : op.Load word.Failed ≡ op.GiveDevice = e in absurd (cc);
    done = λ v is done. absurd (goes_on u v line is done);
    no_more = λ v is done. absurd (goes_on u v line is done);
    groups = λ k l. still_reserved u line k (may.groups k l);
  }

  -- a user that has done all its lines carries nothing
  carries_none : (u : UserState) (me : Me (Slot L D) (View L D)) → u.step ≡ user_step.Done
      → Carries (hand (model.User u)) me → me.1 ≡ []
  carries_none u me done c = subst (λ (s : UserStep). Carries (user_hand u s) me) done c

  -- THE SEAT OF THE USER WITH ITS LINE
  module _ (table : TableId) (u : UserState) (line : Line) (old new : Seat (Slot L D) (View L D))
      (was : IsSeatOf table old (model.User u)) (done : u.step ≡ user_step.Done) (of : new.table_id ≡ old.table_id)
      (given : handed_in line old.me 0 new.me) where
    abbrev who : Numbered
    who = was.mine.who

    me_is : new.me ≡ (view_with old.me.0 who u line, old.me.1)
    me_is = given who u was.mine.one was.mine.state

    view_is : new.me.0 ≡ view_with old.me.0 who u line
    view_is = ap (λ (m : Me (Slot L D) (View L D)). m.0) me_is

    pub layout_is : new.me.0.layout ≡ old.me.0.layout
    layout_is = ap (λ (v : View L D). v.layout) view_is

    pub number_is : number_of new.me.0 ≡ number_of old.me.0
    number_is = ap (λ (v : View L D). number_of v) view_is
        ∙ sym (ap (λ (l : List Numbered). number_in l) was.mine.one)

    pub heard_is : heard_of new.me.0 ≡ heard_of old.me.0
    heard_is = ap (λ (v : View L D). heard_of v) view_is
        ∙ sym (ap (λ (l : List Numbered). heard_in l) was.mine.one)

    pub seat_with : IsSeatOf table new (model.User (with_line u line))
    seat_with = record {
      mine = record {
        of = of ∙ was.mine.of;
        slots = was.mine.slots;
        words = was.mine.words ∙ ap word_count (sym layout_is);
        who = numbered_with who u line;
        one = ap (λ (v : View L D). v.seats) view_is;
        state = refl;
        plain = was.mine.plain;
        carries = ap (λ (m : Me (Slot L D) (View L D)). m.1) me_is ∙ carries_none u old.me done was.mine.carries;
        may = subst (λ (v : View L D). MayGo v.layout v.held v.data_part (model.User (with_line u line))) (sym view_is)
            (may_go_on old.me.0.layout old.me.0.held old.me.0.data_part u line was.mine.may);
      };
      home = λ d has. was.home d (sym (ap (λ (v : View L D). v.data_part) view_is) ∙ has);
      cleaner = λ is. absurd is;
    }
