use Rattle.std.proofs.Common.{subst, sym, ◌∙◌}
use Rattle.std.specs.Prelude.{IsSome}
use Rattle.redo_flushlist.specs.{Listing}
use Rattle.redo_flushlist.specs.InOrder as inorder
use Rattle.redo_drive.proofs.Listings.{some_there}
use Rattle.redo_rule.proofs.Kept.{same_pages}
use Rattle.redo_rule.proofs.slots.remove_slot.Goals as goal

pub remove-requires : goal.remove-requires
remove-requires g c = subst (λ (z : Listing). IsSome (inorder.listed_oldest z.entries c.args.page)) (same_pages c.requires.0 c.in-Pages.list (sym c.requires.1 ∙ c.in-Pages.is)) (some_there c.requires.0.entries c.args.page c.requires.2)
