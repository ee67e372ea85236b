use Rattle.std.proofs.Common.{None, subst, sym, ◌∙◌, ◌≡◌}
use Rattle.std.specs.Prelude.{All}
use Rattle.redo_flushlist.specs.{Listing, MayFollow}
use Rattle.redo_flushlist.specs.InOrder as inorder
use Rattle.redo_flushlist.specs.declared.dirty.Dirty.{Dirty}
use Rattle.redo_drive.proofs.Listings.{may_follow, none_there}
use Rattle.redo_rule.proofs.Kept.{same_pages}
use Rattle.redo_rule.proofs.slots.add_slot.Goals as goal

pub add-requires-clause-unlisted : goal.add-requires-clause-unlisted
add-requires-clause-unlisted g c = let f = c.requires.2 in
    subst (λ (z : Listing). inorder.listed_oldest z.entries c.args.page ≡ None) (same_pages c.requires.0 c.in-Pages.list (sym c.requires.1 ∙ c.in-Pages.is)) (none_there c.requires.0.entries c.args.page f.3 f.1)

pub add-requires-clause-order : goal.add-requires-clause-order
add-requires-clause-order g c = let f = c.requires.2 in
    subst (λ (z : Listing). All (λ (earlier : Dirty). MayFollow earlier (record { page = c.args.page; oldest = c.args.oldest })) z.entries) (same_pages c.requires.0 c.in-Pages.list (sym c.requires.1 ∙ c.in-Pages.is)) (may_follow c.requires.0.entries c.args.oldest f.2)
