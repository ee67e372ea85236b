use Rattle.std.proofs.Common.{ap}
use Rattle.model_core.specs.{WriterState}
use Rattle.redo_logactors.proofs.WordEnds.{clears}
use Rattle.redo_logactors.proofs.writer.Writer.clears_word.Goals as goal

pub returns-clause-state : goal.returns-clause-state
returns-clause-state c = clears c.args.self.now _ _ _ _ _ _ c.args.answer c.read_spot-spot.ensures.lane c.read_spot-spot.ensures.left (ap (λ (v : WriterState). v.word) c.keeps.view_is) c.keeps-2.ensures c.self.view_is c.after_word.ensures.state
