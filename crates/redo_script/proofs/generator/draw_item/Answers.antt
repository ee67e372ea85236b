use Rattle.std.proofs.Common.{rules}
use Rattle.redo_script.proofs.Drawing.{item_at_text}
use Rattle.redo_script.proofs.generator.draw_item.Goals as goal

pub returns-in_ok-draw_bytes-in_default-clause-item :
    goal.returns-in_ok-draw_bytes-in_default-clause-item
returns-in_ok-draw_bytes-in_default-clause-item c =
    item_at_text c.args.draws.now _ _ c.new.result (search rules) (search rules) (search rules) (search rules) (search rules) (search rules) (search rules) (search rules)
