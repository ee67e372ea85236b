use Rattle.redo_block.proofs.FrameRound.{unframed-framed}
use Rattle.redo_block.proofs.framing.unframe_of_frame.Goals as goal

pub returns : goal.returns
returns c = unframed-framed
