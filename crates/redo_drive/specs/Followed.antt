-- What followers are left with by a run.
use Rattle.std.specs.Prelude.{IfSome, List, [], cond, nat_le, ℕ, ◌∷◌, ◌≡◌, ◌≤◌}
use Rattle.std.specs.List.{AllZip}
use Rattle.model_core.specs.{Given}
use Rattle.model_log.specs.{group_text, IsBoundary}
use Rattle.model_log.specs.declared.group.Whole.{Whole}
use Rattle.model_report.specs.{entry_spans, wholes_of}
use Rattle.model_script.specs.declared.script.ScriptLine.{ScriptLine}
use Rattle.redo_disk.specs.{Seen}
use Rattle.redo_drive.specs.Drive.{WhereStarted}
use Rattle.redo_drive.specs.History.{followers_in}
use Rattle.redo_drive.specs.declared.actor.Actor.{Actor}
use Rattle.redo_drive.specs.declared.closed.Closed.{Closed}
use Rattle.redo_follow.specs.{StandsFor}
use Rattle.redo_follow.specs.Following.{Following}
use Rattle.redo_store.specs.declared.opened.Opened.{Opened}

-- a group as a receiver gets it, and those that end at or below an lsn, in their order
abbrev pub given_of : Whole → Given
given_of whole = record { start = whole.start; end = whole.end; text = group_text whole.group }

abbrev pub given_upto : ℕ → List Whole → List Given
given_upto lsn [] = []
given_upto lsn (whole ∷ wholes) = cond (nat_le whole.end lsn) (given_of whole ∷ given_upto lsn wholes) (given_upto lsn wholes)

-- A FOLLOWER, as a run leaves it. Its place stands between groups, at or below FLUSHED, and its word FOLLOW isn't above
-- that; no checkpoint that was made or asked for is above FOLLOW; and its receiver got just the groups of the history that
-- end at or below its place.
pub record HasFollowed {L D R : Type 0} (stands : R → List Given → Type 0) (opened : Opened L D) (script : List ScriptLine)
    (closed : Closed L D) (before after : Following R) : Type 0 where
  pub place : IsBoundary opened.start (entry_spans closed.history) after.state.place
  pub flushed : after.state.place ≤ closed.marks.flushed
  pub stored : after.state.own ≤ after.state.place
  pub made : closed.marks.ckpt ≤ after.state.own
  pub asked : closed.log.marks.asked ≤ after.state.own
  pub got : StandsFor stands before.receiver
      (given_upto after.state.place (wholes_of script opened.shape.space closed.history)) after.receiver

-- the same number, later
abbrev pub HasSameNumber : {R : Type 0} → Following R → Following R → Type 0
HasSameNumber before after = after.state.number ≡ before.state.number

-- WHAT A DRIVE LEAVES OF THESE FOLLOWERS: they are the followers among its actors, each with its number; and where both
-- devices told before the run, of a store that was ready, and the log device tells after it, each has followed.
pub record HaveFollowed {L D R : Type 0} (log_seen : L → Seen) (data_seen : D → Seen) (stands : R → List Given → Type 0)
    (opened : Opened L D) (script : List ScriptLine) (followers : List (Following R)) (actors : List (Actor R)) (closed : Closed L D) : Type 0 where
  pub same : AllZip HasSameNumber followers (followers_in actors)
  pub each : WhereStarted log_seen data_seen opened script (λ was.
      IfSome (log_seen closed.log.dev).tells (λ log_now.
      AllZip (HasFollowed stands opened script closed) followers (followers_in actors)))
