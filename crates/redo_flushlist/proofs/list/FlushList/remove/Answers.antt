use Rattle.std.proofs.Common.{◌∙◌, ap, sym, subst, List, rules, arith, ◌==◌}
use Rattle.std.specs.Prelude.{not}
use Rattle.std.proofs.lemmas.Fn.{filter_same}
use Rattle.redo_flushlist.specs.declared.dirty.Dirty.{Dirty}
use Rattle.redo_flushlist.specs.Order.{Listing, without_page}
use Rattle.redo_flushlist.specs.InOrder.{IsInOrder}
use Rattle.redo_flushlist.proofs.Orders.{order-removed}
use Rattle.redo_flushlist.proofs.list.FlushList.remove.Goals as goal

pub returns : goal.returns
returns c =
    let kept = filter_same _ (λ (dirty : Dirty). not (dirty.page == c.args.page)) _ (λ x b f called. search rules) _ _ c.retain.ensures.filtered in
    ap (λ (entries : List Dirty). (let listing : Listing = record { pages = c.self.inside.pages; entries = entries } in listing)) kept
    ∙ ap (λ (listing : Listing). (let next : Listing = record { pages = listing.pages; entries = without_page c.args.page listing.entries } in next)) c.self.view_is

pub invariant_of-self : goal.invariant_of-self
invariant_of-self c =
    let m = c.self.inside in
    let kept = filter_same _ (λ (dirty : Dirty). not (dirty.page == c.args.page)) _ (λ x b f called. search rules) _ _ c.retain.ensures.filtered in (
      subst (λ (entries : List Dirty). IsInOrder (record { pages = m.pages; entries = entries })) (sym kept)
          (order-removed (record { pages = m.pages; entries = m.entries.items }) c.args.page c.self.invariant.0),
      omega (arith, c.self.invariant.1, c.retain.ensures.capacity),
    )
