use Rattle.std.proofs.Common.{List, None, arith, subst, sym, ◌%◌, ◌+◌, ◌<◌, ◌∙◌, ◌≡◌}
use Rattle.std.specs.Prelude.{All}
use Rattle.model_core.specs.{Each, Listed, oldest_of}
use Rattle.redo_flushlist.specs.{Listing, MayFollow}
use Rattle.redo_flushlist.specs.InOrder as inorder
use Rattle.redo_flushlist.specs.declared.dirty.Dirty.{Dirty}
use Rattle.redo_flushlist.specs.declared.dirty.TheConstants.{FLUSH_ORDER_LAG}
use Rattle.redo_drive.proofs.Listings.{any_default, may_follow, none_there}
use Rattle.redo_drive.specs.Lists.{Listings, listing_at, lists_of, no_list}
use Rattle.redo_drive.proofs.lists.FlushLists.add.Goals as goal

pub add-requires-clause-unlisted : goal.add-requires-clause-unlisted
add-requires-clause-unlisted c =
    let items : List Listing = c.self.inside.lists.items in
    let real = subst (λ (z : Listings). Each (λ (y : Listed). 0 < y.oldest) (lists_of z (c.args.page % 4))) (sym c.self.view_is) c.requires.real in
    let none = subst (λ (z : Listings). oldest_of c.args.page (lists_of z (c.args.page % 4)) ≡ 0) (sym c.self.view_is) c.requires.unlisted in
    let here : c.index_mut-list.result.now ≡ listing_at items (c.args.page % 4) = c.index_mut-list.ensures.value ∙ any_default items (c.args.page % 4) _ no_list (let n = c.self.invariant.count in omega arith) in
    subst (λ (z : Listing). inorder.listed_oldest z.entries c.args.page ≡ None) (sym here) (none_there (listing_at items (c.args.page % 4)).entries c.args.page real none)

pub add-requires-clause-order : goal.add-requires-clause-order
add-requires-clause-order c =
    let items : List Listing = c.self.inside.lists.items in
    let order = subst (λ (z : Listings). Each (λ (y : Listed). y.oldest < c.args.oldest + FLUSH_ORDER_LAG) (lists_of z (c.args.page % 4))) (sym c.self.view_is) c.requires.order in
    let here : c.index_mut-list.result.now ≡ listing_at items (c.args.page % 4) = c.index_mut-list.ensures.value ∙ any_default items (c.args.page % 4) _ no_list (let n = c.self.invariant.count in omega arith) in
    subst (λ (z : Listing). All (λ (earlier : Dirty). MayFollow earlier (record { page = c.args.page; oldest = c.args.oldest })) z.entries) (sym here) (may_follow (listing_at items (c.args.page % 4)).entries c.args.oldest order)
