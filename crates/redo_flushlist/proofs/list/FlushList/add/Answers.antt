use Rattle.std.proofs.Common.{◌≡◌, ◌<◌, sym, subst, List, None, arith}
use Rattle.std.specs.Prelude.{All}
use Rattle.redo_flushlist.specs.declared.dirty.Dirty.{Dirty}
use Rattle.redo_flushlist.specs.Order.{Listing}
use Rattle.redo_flushlist.specs.InOrder.{IsInOrder, MayFollow, listed_oldest}
use Rattle.redo_flushlist.proofs.Orders.{room, order-added}
use Rattle.redo_flushlist.proofs.list.FlushList.add.Goals as goal

pub unreachable-requires : goal.unreachable-requires
unreachable-requires c =
    let m = c.self.inside in
    let listing : Listing = record { pages = m.pages; entries = m.entries.items } in
    let below : c.args.page < listing.pages = subst (λ (l : Listing). c.args.page < l.pages) (sym c.self.view_is) c.requires.below in
    let none : listed_oldest listing.entries c.args.page ≡ None = subst (λ (l : Listing). listed_oldest l.entries c.args.page ≡ None) (sym c.self.view_is) c.requires.unlisted in
    omega (arith, room listing c.args.page c.self.invariant.0 below none, m.entries.ok.0, c.in-Err.ensures.full, c.self.invariant.1)

pub invariant_of-self : goal.invariant_of-self
invariant_of-self c =
    let m = c.self.inside in
    let listing : Listing = record { pages = m.pages; entries = m.entries.items } in
    let dirty : Dirty = record { page = c.args.page; oldest = c.args.oldest } in
    let below : c.args.page < listing.pages = subst (λ (l : Listing). c.args.page < l.pages) (sym c.self.view_is) c.requires.below in
    let none : listed_oldest listing.entries c.args.page ≡ None = subst (λ (l : Listing). listed_oldest l.entries c.args.page ≡ None) (sym c.self.view_is) c.requires.unlisted in
    let relaxed = subst (λ (l : Listing). All (λ (earlier : Dirty). MayFollow earlier dirty) l.entries) (sym c.self.view_is) c.requires.order in
    let order = order-added listing dirty c.self.invariant.0 below none relaxed in (
      subst (λ (entries : List Dirty). IsInOrder (record { pages = m.pages; entries = entries })) (sym c.in-Ok.ensures.items) order,
      omega (arith, c.self.invariant.1, c.in-Ok.ensures.capacity),
    )
