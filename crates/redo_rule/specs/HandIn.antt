-- A line that is handed in to a user, in a run that goes on.
use Rattle.std.specs.Prelude.{List, None, Option, Some, [], length, true, ℕ, ◌++◌, ◌+◌, ◌∷◌, ◌≡◌, ◌≤◌}
use Rattle.atomic_table.specs.Seated.{TableId}
use Rattle.atomic_table.specs.Table.{Me}
use Rattle.atomic_table.specs.declared.shared.Seat.{Seat}
use Rattle.model_core.specs.{Line, line_of, UserState, word_count}
use Rattle.model_core.specs.States as model
use Rattle.model_core.specs.declared.steps.UserStep.TheVariants as user_step
use Rattle.model_logcore.specs.{lengths}
use Rattle.model_script.specs.{group_of, IsScriptLine, LineFits}
use Rattle.model_script.specs.declared.script.ScriptLine.{ScriptLine}
pub use Rattle.redo_useractor.specs.Handing.{with_line}
use Rattle.redo_rule.specs.declared.law.About.{About}
use Rattle.redo_rule.specs.declared.law.Errand.{Errand}
use Rattle.redo_rule.specs.declared.law.Live.{Live}
use Rattle.redo_rule.specs.declared.law.Numbered.{Numbered}
use Rattle.redo_rule.specs.declared.law.Slot.{Slot}
use Rattle.redo_rule.specs.declared.law.View.{View}

-- a line as its user runs it, in the run that the table is about
abbrev pub line_about : {L D : Type 0} → About L D → ScriptLine → Line
line_about about one = line_of about.plan.log_only about.opened.value.shape one.mode (group_of about.opened.value.shape.space one)

abbrev pub numbered_with : Numbered → UserState → Line → Numbered
numbered_with x u line = record {
  number = x.number;
  actor = model.User (with_line u line);
  heard = x.heard;
  errand = x.errand;
}

module _ {L D : Type 0} where
  -- the seat's user has the line, and all else is as it was
  abbrev pub view_with : View L D → Numbered → UserState → Line → View L D
  view_with v x u line = record {
    about = v.about;
    layout = v.layout;
    seats = numbered_with x u line ∷ [];
    held = v.held;
    data_part = v.data_part;
  }

  abbrev pub handed_in : Line → Me (Slot L D) (View L D) → ℕ → Me (Slot L D) (View L D) → Type 0
  handed_in line m n m' = (x : Numbered) (u : UserState) → m.0.seats ≡ x ∷ [] → x.actor ≡ model.User u
      → m' ≡ (view_with m.0 x u line, m.1)

  -- THE LINE MAY BE HANDED IN: the run is a live one, the seat is of the user that the line names, which has done all its
  -- lines, the line fits the store, and with it the user has no more bytes than its quota.
  pub record MayHandIn (table : TableId) (about : About L D) (seat : Seat (Slot L D) (View L D)) (one : ScriptLine)
      : Type 0 where
    pub of : seat.table_id ≡ table
    pub words : table.words ≡ word_count seat.me.0.layout
    pub who : Numbered
    pub sits : seat.me.0.seats ≡ who ∷ []
    pub plain : ◌≡◌ {A = Option Errand} who.errand None
    pub user : UserState
    pub is : who.actor ≡ model.User user
    pub done : user.step ≡ user_step.Done
    pub live : Live
    pub is_live : about.live ≡ Some live
    pub number : one.user ≡ user.user
    pub in_range : IsScriptLine one
    pub fits : LineFits about.opened.value.shape one
    pub room : lengths user.lines + length (line_about about one).bytes ≤ live.quota
