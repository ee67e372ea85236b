use Rattle.std.proofs.Common.{ap, ◌∙◌}
use Rattle.atomic_table.specs.Table.{Me}
use Rattle.redo_rule.specs.Mine.{number_of}
use Rattle.redo_rule.specs.declared.law.Slot.{Slot}
use Rattle.redo_rule.specs.declared.law.View.{View}
use Rattle.tests_threads.proofs.seats.turns.turn.Goals as goal

pub returns-clause-number : goal.returns-clause-number
returns-clause-number g c = c.play.ensures.same.number
    ∙ ap (λ (m : Me (Slot _ _) (View _ _)). number_of m.0) c.ask-op.ensures.same

pub returns-clause-layout : goal.returns-clause-layout
returns-clause-layout g c = c.play.ensures.same.layout
    ∙ ap (λ (m : Me (Slot _ _) (View _ _)). m.0.layout) c.ask-op.ensures.same

pub play-requires-clause-layout : goal.play-requires-clause-layout
play-requires-clause-layout g c = ap (λ (m : Me (Slot _ _) (View _ _)). m.0.layout) c.ask-op.ensures.same
    ∙ c.requires.layout
