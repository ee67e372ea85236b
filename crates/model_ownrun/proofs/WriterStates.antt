-- The writer after an answer of which it depends how it goes on.
use Rattle.std.proofs.Common.{Bool, cond, true, ℕ, ◌++◌, ◌-◌}
use Rattle.model_core.specs.{Advance, lane_of, left_in_word, lsn, read_place, writer_took, WriterState}
unfoldable use Rattle.model_core.specs.{lanes}
use Rattle.model_core.specs.declared.steps.AdvanceStep.{AdvanceStep}
use Rattle.model_core.specs.declared.ops.Answer.TheVariants as answer
use Rattle.model_core.specs.declared.steps.AdvanceStep.TheVariants as advance_step
use Rattle.model_core.specs.declared.steps.WriterStep.TheVariants as writer_step

module _ (s : WriterState) where
  -- it goes on with its advance, or that has ended, with something new or nothing
  abbrev pub with_advance : Advance → ℕ → Bool → Bool → AdvanceStep → WriterState
  with_advance v tail none ended next = record s {
    advance = v;
    tail = tail;
    checks = none;
    step = cond none (writer_step.Advance advance_step.LoadTail)
        (cond ended writer_step.LoadCheckpoint (writer_step.Advance next));
  }

  -- it has loaded CKPT, and finds room in the log
  abbrev pub with_room : ℕ → Bool → Bool → WriterState
  with_room ckpt room outside = cond room
      (record s { ckpt = ckpt; step = cond outside writer_step.LoadFirst writer_step.LoadCell })
      (record s { ckpt = ckpt; checks = true; step = writer_step.LoadCheckpoint })

  -- it has loaded a word of the log buffer, whole or the last part
  abbrev pub with_word : ℕ → Bool → WriterState
  with_word n whole = cond whole
      (record s { word = n; step = writer_step.ClearCell })
      (record s {
        kept = s.kept ++ lanes (lane_of (read_place s)) (s.tail - lsn (read_place s)) n;
        step =
            writer_step.TakeDevice;
      })

  -- it has cleared one: the last, or the last of a block
  abbrev pub with_cleared : Bool → Bool → WriterState
  with_cleared last block = record s {
    kept = s.kept ++ lanes (lane_of (read_place s)) (left_in_word (read_place s)) s.word;
    word = 0;
    step = cond last writer_step.TakeDevice (cond block writer_step.LoadFirst writer_step.LoadCell);
  }

  -- it has written, or has failed to
  abbrev pub with_write : ℕ → Bool → WriterState
  with_write code good = writer_took s (cond good (answer.Called 0) (answer.Failed code)) writer_step.WriteTo
