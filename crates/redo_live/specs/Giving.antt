-- A line is given to a user in its seat.
use Rattle.std.specs.Prelude.{List, Option, Some, length, ◌+◌, ◌≡◌, ◌≤◌}
use Rattle.atomic_table.specs.Seated.{TableId}
use Rattle.atomic_table.specs.declared.shared.Seat.{Seat}
use Rattle.model_core.specs.{UserState}
use Rattle.model_core.specs.declared.steps.UserStep.TheVariants as user_step
use Rattle.model_log.specs.declared.rec.Rec.{Rec}
use Rattle.model_logcore.specs.{lengths}
use Rattle.model_script.specs.{group_of, IsScriptLine, LineFits}
use Rattle.model_script.specs.declared.script.ScriptLine.{ScriptLine}
use Rattle.redo_live.specs.Holding.{IsPlayedBy}
use Rattle.redo_ownrule.specs.Playing.{IsPlayerSeat}
use Rattle.redo_ownrule.specs.declared.player.Player.{Player}
use Rattle.redo_rule.specs.HandIn.{line_about, with_line}
use Rattle.redo_rule.specs.Mine.{heard_of, number_of}
use Rattle.redo_rule.specs.declared.law.About.{About}
use Rattle.redo_rule.specs.declared.law.Live.{Live}
use Rattle.redo_rule.specs.declared.law.Slot.{Slot}
use Rattle.redo_rule.specs.declared.law.View.{View}

module _ {L D R : Type 0} where
  -- THE LINE MAY BE GIVEN to this user, which has done all its lines, plays by its own program in this seat, and has
  -- room for it; and this is its group.
  pub record MayGive (table : TableId) (about : About L D) (u : UserState) (line : ScriptLine) (group : List Rec)
      (seat : Seat (Slot L D) (View L D)) (p : Player R) : Type 0 where
    pub plays : IsPlayedBy u p
    pub sits : IsPlayerSeat table seat p
    pub done : u.step ≡ user_step.Done
    pub live : Live
    pub is_live : ◌≡◌ {A = Option Live} about.live (Some live)
    pub number : line.user ≡ u.user
    pub in_range : IsScriptLine line
    pub fits : LineFits about.opened.value.shape line
    pub room : lengths u.lines + length (line_about about line).bytes ≤ live.quota
    pub group_is : ◌≡◌ {A = List Rec} group (group_of about.opened.value.shape.space line)

  -- the user that plays has the line, in the seat that it had, which has heard no more
  pub record HasLine (table : TableId) (about : About L D) (u : UserState) (line : ScriptLine)
      (old new : Seat (Slot L D) (View L D)) (p : Player R) : Type 0 where
    pub plays : IsPlayedBy (with_line u (line_about about line)) p
    pub sits : IsPlayerSeat table new p
    pub layout : new.me.0.layout ≡ old.me.0.layout
    pub number : number_of new.me.0 ≡ number_of old.me.0
    pub heard : heard_of new.me.0 ≡ heard_of old.me.0
