use Rattle.std.proofs.Common.{List, arith, subst, sym, ◌%◌, ◌<◌, ◌∙◌, ◌≡◌}
use Rattle.std.specs.Prelude.{IsSome}
use Rattle.model_core.specs.{oldest_of}
use Rattle.redo_flushlist.specs.{Listing}
use Rattle.redo_flushlist.specs.InOrder as inorder
use Rattle.redo_drive.proofs.Listings.{any_default, some_there}
use Rattle.redo_drive.specs.Lists.{Listings, listing_at, lists_of, no_list}
use Rattle.redo_drive.proofs.lists.FlushLists.remove.Goals as goal

pub remove-requires : goal.remove-requires
remove-requires c =
    let items : List Listing = c.self.inside.lists.items in
    let some = subst (λ (z : Listings). 0 < oldest_of c.args.page (lists_of z (c.args.page % 4))) (sym c.self.view_is) c.requires in
    let here : c.index_mut-list.result.now ≡ listing_at items (c.args.page % 4) = c.index_mut-list.ensures.value ∙ any_default items (c.args.page % 4) _ no_list (let n = c.self.invariant.count in omega arith) in
    subst (λ (z : Listing). IsSome (inorder.listed_oldest z.entries c.args.page)) (sym here) (some_there (listing_at items (c.args.page % 4)).entries c.args.page some)
