use Rattle.redo_useractor.proofs.Places.{step_end, step_part, step_whole}
use Rattle.redo_useractor.proofs.line.Place.step.Goals as goal

pub returns-then-self-eq-WORDS_END : goal.returns-then-self-eq-WORDS_END
returns-then-self-eq-WORDS_END c = λ cells number here. step_end cells c.args.self.word c.args.self.count number here c.if-self-eq-WORDS_END.true

pub returns-then-self : goal.returns-then-self
returns-then-self c = λ cells number here. step_part cells c.args.self.word c.args.self.count number here c.if-self-eq-WORDS_END.false c.if-self.true

pub returns-else-self : goal.returns-else-self
returns-else-self c = λ cells number here. step_whole cells c.args.self.word c.args.self.count number here c.if-self-eq-WORDS_END.false c.if-self.false
