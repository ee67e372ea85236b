use Rattle.std.proofs.Common.{ap, sym, ◌∙◌}
use Rattle.std.specs.Slots.{slots_items}
use lib.ListN.{get_elem?}
use Rattle.model_core.specs.{index}
use Rattle.redo_rule.proofs.Finishing.{read_at}
use Rattle.redo_rule.specs.Seats.{no_pages}
use Rattle.redo_rule.proofs.closing.word_in.Goals as goal

pub returns : goal.returns
returns g c = read_at (slots_items c.args.closed.now.words) (index no_pages c.args.word) c.word.result (ap (get_elem? (slots_items c.args.closed.now.words)) (sym c.number_of.ensures) ∙ c.word.ensures)
