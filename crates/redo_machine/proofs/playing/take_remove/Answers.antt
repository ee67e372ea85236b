use Rattle.std.proofs.Common.{Bool, ap, cond, rules, sym, true, ◌%◌, ◌==◌, ◌∙◌, ◌≡◌}
use Rattle.model_core.specs.{list_word}
use Rattle.redo_drive.proofs.Listings.{remove_left, found_free}
use Rattle.redo_drive.specs.{Listings, removed}
use Rattle.redo_machine.proofs.playing.take_remove.Goals as goal

pub returns-clause-lists : goal.returns-clause-lists
returns-clause-lists g c =
    let old : Listings = c.args.parts.now.lists in
    let turn = rw c.list_of.ensures at c.take_turn_word.ensures.free in
    let yes : c.take_turn_word.result ≡ true = (let h = c.if-not-take_turn_word.false in search (rules, found_free, h)) in
    let free : (list_word c.args.parts.now.words.words (c.args.page % 4) == 0) ≡ true = sym turn ∙ yes in
    remove_left old c.remove.new.self (list_word c.args.parts.now.words.words) c.args.page c.remove.ensures.are_lists
    (c.remove.ensures.removed ∙ sym (ap (λ (b : Bool). let z : Listings = cond b (removed c.args.parts.now.lists c.args.page) old in z) free))
