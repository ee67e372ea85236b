-- What a commit comes to.
use Rattle.std.specs.Prelude.{List, Option, Some, [], length, ℕ, ◌++◌, ◌+◌, ◌<◌, ◌∷◌, ◌≡◌, ◌≤◌, ◌⊎◌}
use Rattle.model_core.specs.{Line, UserState}
use Rattle.model_core.specs.declared.steps.UserStep.TheVariants as user_step
use Rattle.model_logcore.specs.{lengths}
use Rattle.model_running.specs.Schedule.{HasEnded}
use Rattle.model_script.specs.{line_misfit, LineFits}
use Rattle.model_script.specs.declared.item.Item.{Item}
use Rattle.model_script.specs.declared.misfit.Misfit.{Misfit}
use Rattle.model_script.specs.declared.script.ScriptLine.{ScriptLine}
use Rattle.redo_live.specs.Holding.{about_of, IsPlayedBy, line_by, reads_of, shape_of, state_of}
use Rattle.redo_live.specs.Later.{HasGoneOn}
use Rattle.redo_live.specs.Telling.{last_end}
use Rattle.redo_live.specs.declared.refused.Refused.{Refused}
use Rattle.redo_live.specs.declared.refused.Refused.TheVariants.{Device, Full, LogOnly, NoMemory, Unfit}
use Rattle.redo_live.specs.declared.store.Store.{Store}
use Rattle.redo_live.specs.declared.user.User.{User}
use Rattle.redo_ownrule.specs.Playing.{IsPlayerSeat}
use Rattle.redo_ownrule.specs.Sharing.{table_of}
use Rattle.redo_rule.specs.HandIn.{line_about, with_line}
use Rattle.redo_rule.specs.Mine.{number_of}

module _ {L D : Type 0} where
  -- the line as the user runs it
  abbrev pub program_line : Store L D → ScriptLine → Line
  program_line store line = line_about (about_of store) line

  -- the user, which had done its lines, has the line, which fits the store, and goes on to it
  pub record HasTaken (store : Store L D) (old : User L D) (line : ScriptLine) (new : User L D) : Type 0 where
    pub plays : IsPlayedBy (with_line (state_of old) (program_line store line)) new.player
    pub sits : IsPlayerSeat (table_of store.shared) new.seat new.player
    pub layout : new.seat.me.0.layout ≡ old.seat.me.0.layout
    pub number : number_of new.seat.me.0 ≡ number_of old.seat.me.0
    pub reads : reads_of new ≡ reads_of old
    pub used : new.used ≡ lengths (state_of old).lines + length (program_line store line).bytes
    pub within : new.used ≤ store.quota
    pub fits : LineFits (shape_of store) line
    pub done : (state_of old).step ≡ user_step.Done

  -- the user plays in its seat at the store's table
  pub record MayPlay (store : Store L D) (u : UserState) (user : User L D) : Type 0 where
    pub plays : IsPlayedBy u user.player
    pub sits : IsPlayerSeat (table_of store.shared) user.seat user.player
    pub layout : user.seat.me.0.layout ≡ store.shared.layout

  -- it has played to its end: it keeps its lines, its number, its groups, its answers, its seat and what its reads came
  -- to, and has done all lines or has failed
  pub record HasPlayed (store : Store L D) (u : UserState) (old new : User L D) : Type 0 where
    pub state : UserState
    pub now : MayPlay store state new
    pub ended : HasEnded state
    pub number : state.user ≡ u.user
    pub lines : state.lines ≡ u.lines
    pub answered : u.k ≤ state.k
    pub starts : (more : List ℕ) × (state.starts ≡ u.starts ++ more)
    pub seat_number : number_of new.seat.me.0 ≡ number_of old.seat.me.0
    pub reads : reads_of new ≡ reads_of old
    pub used : new.used ≡ old.used

  -- the groups of the user have no room for the line
  abbrev pub LacksRoom : Store L D → User L D → ScriptLine → Type 0
  LacksRoom store user line = store.quota < user.used + length (program_line store line).bytes

  -- why the line isn't taken: what of it doesn't fit, or the user's room; memory may run out at any line
  abbrev pub IsRefusedFor : Store L D → User L D → ScriptLine → Refused → Type 0
  IsRefusedFor store user line (Unfit misfit) = ◌≡◌ {A = Option Misfit} (line_misfit (shape_of store) line)
      (Some misfit)
  IsRefusedFor store user line Full = LacksRoom store user line
  IsRefusedFor store user line NoMemory = Unit {0}
  IsRefusedFor store user line LogOnly = ⊥
  IsRefusedFor store user line (Device code) = ⊥

  -- THE GROUP IS COMMITTED: the user, which hadn't failed, has gone on by its line and by the group of that, and has done
  -- all its lines; and as the user is told the group ends here.
  pub record HasCommitted (store : Store L D) (old : User L D) (mode : ℕ) (items : List Item) (new : User L D) (end : ℕ)
      : Type 0 where
    pub was_done : (state_of old).step ≡ user_step.Done
    pub fits : LineFits (shape_of store) (line_by old mode items)
    pub lines : (state_of new).lines ≡ (state_of old).lines ++ program_line store (line_by old mode items) ∷ []
    pub done : (state_of new).step ≡ user_step.Done
    pub answered : (state_of new).k ≡ length (state_of new).lines
    pub goes_on : HasGoneOn old new
    pub starts : (start : ℕ) × ((state_of new).starts ≡ (state_of old).starts ++ start ∷ [])
    pub reserved : length (state_of new).starts ≡ length (state_of new).lines
    pub end_is : end ≡ last_end (state_of new)

  -- the user has failed with this code: it has the line; or it had failed before, and is as it was
  pub record HasFailed (store : Store L D) (old : User L D) (line : ScriptLine) (code : ℕ)
      (new : User L D) : Type 0 where
    pub failed : (state_of new).step ≡ user_step.Failed
    pub code_is : (state_of new).code ≡ code
    pub goes_on : HasGoneOn old new
    pub lines : ((new ≡ old) × ((state_of old).step ≡ user_step.Failed))
        ⊎ (((state_of old).step ≡ user_step.Done)
        × ((state_of new).lines ≡ (state_of old).lines ++ program_line store line ∷ []))

  -- WHY NOTHING IS COMMITTED, and how the user is then: as it was, or failed. Once it has failed it is refused by its code.
  abbrev pub IsRefusedSo : Store L D → User L D → (mode : ℕ) → List Item → Refused → User L D → Type 0
  IsRefusedSo store old mode items (Device code) new = HasFailed store old (line_by old mode items) code new
  IsRefusedSo store old mode items refused new =
      (new ≡ old) × ((state_of old).step ≡ user_step.Done) × IsRefusedFor store old (line_by old mode items) refused
