-- The checkpoint lies within the device.
use Rattle.std.proofs.Common.{◌≡◌, ℕ, Result, subst}
use Rattle.model_base.specs.declared.shape.Shape.{Shape}
use Rattle.model_log.specs.{checkpoint_text, layout_of, place_of}
use Rattle.model_log.specs.declared.head.Format.{Format}
use Rattle.model_log.specs.declared.layout.Layout.{Layout}
use Rattle.model_parts.specs.{next_number}
use Rattle.redo_disk.specs.{Seen}
use Rattle.redo_disk.specs.declared.error.DevError.{DevError}
use Rattle.redo_open.specs.Mark.{next_text}
use Rattle.redo_open.specs.Put.{PutStep}
use Rattle.redo_open.proofs.Lengths.{checkpoint-within}
use Rattle.redo_open.proofs.Puts.{put_served}
use Rattle.redo_open.proofs.mark.mark.Goals as goal

-- the checkpoint by the layout that the code has
there : (format : Format) (shape : Shape) (layout : Layout) (number lsn : ℕ) (old : Seen) (result : Result (Unit {0}) DevError) (new : Seen) → layout ≡ layout_of format shape
    → PutStep (place_of (next_number number)) (checkpoint_text (next_number number) lsn layout) old result new
    → PutStep (place_of (next_number number)) (next_text format shape number lsn) old result new
there format shape layout number lsn old result new is =
    subst (λ (l : Layout). PutStep (place_of (next_number number)) (checkpoint_text (next_number number) lsn l) old result new) is

pub returns-clause-step : goal.returns-clause-step
returns-clause-step g c =
    there c.args.format c.args.shape.now c.layout_of.result c.args.number c.args.lsn (g.L.Sectors.seen c.args.log.now)
    c.put_checkpoint.result (g.L.Sectors.seen c.put_checkpoint.new.log) c.layout_of.ensures.is
    c.put_checkpoint.ensures.step

pub returns-clause-calls : goal.returns-clause-calls
returns-clause-calls g c =
    put_served (checkpoint-within c.args.shape.now (next_number c.args.number) c.args.lsn c.layout_of.result)
    c.put_checkpoint.ensures.calls
