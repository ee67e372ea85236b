-- A follower of a machine in its run.
use Rattle.std.specs.Prelude.{List, slice_index, ℕ, ◌≡◌, ◌≤◌}
use Rattle.model_core.specs.{Entry, flushed_at, Given, index, IsBound, lsn}
use Rattle.model_core.specs.declared.words.Word.TheVariants as word
use Rattle.model_running.specs.ReadHalf.{groups_upto}
use Rattle.redo_drive.specs.declared.parts.Parts.{Parts}
use Rattle.redo_follow.specs.{StandsFor}
use Rattle.redo_follow.specs.Following.{Following}

-- It follows the log of a run that starts at the sn `base`, and which has these groups. Its place stands between
-- groups, at or below FLUSHED; its word FOLLOW isn't above that place, and no checkpoint that was asked for is above the
-- word; and since the run began its receiver got just the groups of the log that end at or below its place, in the log's
-- order, each once.
pub record FollowsLog {L D R : Type 0} (stands : R → List Given → Type 0) (base : ℕ) (log : List Entry)
    (parts : Parts L D)
    (before after : Following R) : Type 0 where
  pub place : after.state.place ≡ lsn after.state.at
  pub bound : IsBound base log after.state.at
  pub flushed : after.state.place ≤ slice_index parts.words.words flushed_at
  pub stored : slice_index parts.words.words (index parts.words.layout (word.Place after.state.number))
      ≤ after.state.place
  pub asked : parts.log.marks.asked
      ≤ slice_index parts.words.words (index parts.words.layout (word.Place after.state.number))
  pub got : StandsFor stands before.receiver (groups_upto after.state.at log) after.receiver
