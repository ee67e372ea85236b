use Rattle.std.proofs.Common.{sym, ◌∙◌}
use Rattle.std.proofs.lemmas.Bool.{false≢true}
use Rattle.redo_lab.proofs.playing.play_unarchived.Goals as goal

pub play-ran-requires-clause-archives : goal.play-ran-requires-clause-archives
play-ran-requires-clause-archives g c = λ κs live. sym c.requires.unarchived

pub returns-clause-comes_to : goal.returns-clause-comes_to
returns-clause-comes_to g c = λ handed command running.
    c.play-ran.ensures.comes_to handed command running
    (λ archived. absurd (false≢true (sym c.requires.unarchived ∙ archived))) (rw c.in-None.is tt)
