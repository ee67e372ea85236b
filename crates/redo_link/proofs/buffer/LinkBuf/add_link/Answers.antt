-- The buffer with a link more.
use Rattle.std.proofs.Common.{◌≡◌, ◌≤◌, ◌<◌, ◌+◌, ◌%◌, length, set, sym, ap, subst, ◌∙◌}
use Rattle.redo_link.specs.Links.{Links, IsFree, IsAdded, capacity_of}
use Rattle.redo_link.proofs.Steps.{added-at, sound-added}
use Rattle.redo_link.proofs.buffer.LinkBuf.add_link.Goals as goal

pub invariant_of-self : goal.invariant_of-self
invariant_of-self c =
    let old : Links = record { tail = c.self.inside.tail; slots = c.self.inside.slots.items } in
    let new : Links = record { tail = old.tail; slots = set old.slots c.slot_of-slot.result c.args.to } in
    let slot : c.slot_of-slot.result ≡ c.args.from % length old.slots = c.slot_of-slot.ensures.slot ∙ ap (λ (l : Links). c.args.from % length l.slots) (sym c.self.view_is) in
    let low : old.tail ≤ c.args.from = subst (λ (l : Links). l.tail ≤ c.args.from) (sym c.self.view_is) c.requires.behind in
    let high : c.args.from < old.tail + capacity_of old = subst (λ (l : Links). c.args.from < l.tail + capacity_of l) (sym c.self.view_is) c.requires.space in
    let free : IsFree old c.args.from c.args.to = subst (λ (l : Links). IsFree l c.args.from c.args.to) (sym c.self.view_is) c.requires.free in
    sound-added old new c.args.from c.args.to c.self.invariant free c.requires.forward (added-at old c.slot_of-slot.result c.args.from c.args.to slot c.self.invariant.some low high)

pub returns : goal.returns
returns c =
    let old : Links = record { tail = c.self.inside.tail; slots = c.self.inside.slots.items } in
    let new : Links = record { tail = old.tail; slots = set old.slots c.slot_of-slot.result c.args.to } in
    let slot : c.slot_of-slot.result ≡ c.args.from % length old.slots = c.slot_of-slot.ensures.slot ∙ ap (λ (l : Links). c.args.from % length l.slots) (sym c.self.view_is) in
    let low : old.tail ≤ c.args.from = subst (λ (l : Links). l.tail ≤ c.args.from) (sym c.self.view_is) c.requires.behind in
    let high : c.args.from < old.tail + capacity_of old = subst (λ (l : Links). c.args.from < l.tail + capacity_of l) (sym c.self.view_is) c.requires.space in
    subst (λ (l : Links). IsAdded l c.args.from c.args.to new) c.self.view_is (added-at old c.slot_of-slot.result c.args.from c.args.to slot c.self.invariant.some low high)
