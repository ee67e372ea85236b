-- A line is given to a user in its seat.
use Rattle.std.proofs.Common.{Bool, List, ap, subst, sym, ◌∙◌, ◌≡◌}
use Rattle.atomic_table.specs.Seated.{TableId}
use Rattle.atomic_table.specs.declared.shared.Seat.{Seat}
use Rattle.model_base.specs.declared.shape.Shape.{Shape}
use Rattle.model_core.specs.{Line, line_of, UserState}
use Rattle.model_core.specs.States as model
use Rattle.model_log.specs.declared.rec.Rec.{Rec}
use Rattle.model_script.specs.{group_of}
use Rattle.model_script.specs.declared.script.ScriptLine.{ScriptLine}
use Rattle.redo_live.proofs.Answered.{seat_of_user}
use Rattle.redo_live.proofs.Handing.{heard_is, layout_is, number_is, seat_with}
use Rattle.redo_live.specs.Giving.{HasLine, MayGive}
use Rattle.redo_live.specs.Holding.{IsPlayedBy}
use Rattle.redo_ownrule.specs.Playing.{IsPlayerSeat}
use Rattle.redo_ownrule.specs.declared.player.Player.{Player}
use Rattle.redo_rule.specs.HandIn.{handed_in, line_about, with_line}
use Rattle.redo_rule.specs.Seating.{IsSeatOf}
use Rattle.redo_rule.specs.declared.law.About.{About}
use Rattle.redo_rule.specs.declared.law.Slot.{Slot}
use Rattle.redo_rule.specs.declared.law.View.{View}

-- the line as its user runs it, by what the store has
same_line : {L D : Type 0} (about : About L D) (line : ScriptLine) (group : List Rec) (shape : Shape) (log_only : Bool)
    → about.opened.value.shape ≡ shape → about.plan.log_only ≡ log_only
    → ◌≡◌ {A = List Rec} group (group_of about.opened.value.shape.space line)
    → line_of log_only shape line.mode group ≡ line_about about line
same_line about line group shape log_only shape_is only_is group_is =
    ap (λ (s : Shape). line_of log_only s line.mode group) (sym shape_is)
    ∙ ap (λ (b : Bool). line_of b about.opened.value.shape line.mode group) (sym only_is)
    ∙ ap (λ (recs : List Rec). line_of about.plan.log_only about.opened.value.shape line.mode recs) group_is

module _ {L D R : Type 0} (table : TableId) (about : About L D) (u : UserState) (line : ScriptLine) (group : List Rec)
    (shape : Shape) (log_only : Bool) (old new : Seat (Slot L D) (View L D)) (p q : Player R)
    (may : MayGive table about u line group old p) (shape_is : about.opened.value.shape ≡ shape)
    (only_is : about.plan.log_only ≡ log_only)
    (plays : IsPlayedBy (with_line u (line_of log_only shape line.mode group)) q)
    (of : new.table_id ≡ old.table_id) (given : handed_in (line_about about line) old.me 0 new.me) where
  its_line : IsPlayedBy (with_line u (line_about about line)) q
  its_line = subst (λ (l : Line). IsPlayedBy (with_line u l) q)
      (same_line about line group shape log_only shape_is only_is may.group_is) plays

  was : IsSeatOf table old (model.User u)
  was = seat_of_user table old u p may.plays may.sits

  -- IT HAS THE LINE
  pub has_line : HasLine table about u line old new q
  has_line = record {
    plays = its_line;
    sits = subst (λ (z : Player R). IsPlayerSeat table new z) (sym its_line)
        (seat_with table u (line_about about line) old new was may.done of given);
    layout = layout_is table u (line_about about line) old new was may.done of given;
    number = number_is table u (line_about about line) old new was may.done of given;
    heard = heard_is table u (line_about about line) old new was may.done of given;
  }
