-- The buffer whose link at the tail is followed.
use Rattle.std.proofs.Common.{◌≡◌, ◌<◌, ◌%◌, ℕ, length, get_or, set, sym, ap, subst, ◌∙◌}
use Rattle.std.proofs.lemmas.List.{get_or_default}
use Rattle.redo_link.specs.Links.{Links, IsFollowed}
use Rattle.redo_link.proofs.Steps.{followed-at, sound-followed}
use Rattle.redo_link.proofs.buffer.LinkBuf.follow.Goals as goal

pub invariant_of-self : goal.invariant_of-self
invariant_of-self c =
    let old : Links = record { tail = c.self.inside.tail; slots = c.self.inside.slots.items } in
    let end : ℕ = c.index-end.result.now in
    let new : Links = record { tail = end; slots = set old.slots c.slot_of-slot.result 0 } in
    let slot : c.slot_of-slot.result ≡ old.tail % length old.slots = c.slot_of-slot.ensures.slot ∙ ap (λ (l : Links). old.tail % length l.slots) (sym c.self.view_is) in
    let below : c.slot_of-slot.result < length old.slots = subst (λ (l : Links). c.slot_of-slot.result < length l.slots) (sym c.self.view_is) c.slot_of-slot.ensures.below in
    let stands : get_or old.slots c.slot_of-slot.result 0 ≡ end = get_or_default old.slots c.slot_of-slot.result 0 end below ∙ sym c.index-end.ensures in
    sound-followed old new c.self.invariant (followed-at old c.slot_of-slot.result end slot c.self.invariant stands c.if-end-eq0.false)

pub returns-clause-link : goal.returns-clause-link
returns-clause-link c =
    let old : Links = record { tail = c.self.inside.tail; slots = c.self.inside.slots.items } in
    let end : ℕ = c.index-end.result.now in
    let new : Links = record { tail = end; slots = set old.slots c.slot_of-slot.result 0 } in
    let slot : c.slot_of-slot.result ≡ old.tail % length old.slots = c.slot_of-slot.ensures.slot ∙ ap (λ (l : Links). old.tail % length l.slots) (sym c.self.view_is) in
    let below : c.slot_of-slot.result < length old.slots = subst (λ (l : Links). c.slot_of-slot.result < length l.slots) (sym c.self.view_is) c.slot_of-slot.ensures.below in
    let stands : get_or old.slots c.slot_of-slot.result 0 ≡ end = get_or_default old.slots c.slot_of-slot.result 0 end below ∙ sym c.index-end.ensures in
    subst (λ (l : Links). IsFollowed l new) c.self.view_is (followed-at old c.slot_of-slot.result end slot c.self.invariant stands c.if-end-eq0.false)
