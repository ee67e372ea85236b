-- A buffer with no link.
use Rattle.std.proofs.Common.{◌≡◌, ◌<◌, ℕ, List, replicate, rules, sym, subst}
use Rattle.std.proofs.lemmas.Nat.{pow_pos}
use Rattle.redo_link.specs.Links.{IsSound}
use Rattle.redo_link.proofs.Steps.{sound-none}
use Rattle.redo_link.proofs.buffer.LinkBuf.new.Goals as goal

pub invariant_of-result : goal.invariant_of-result
invariant_of-result c =
    let some : 0 < c.args.capacity = subst (λ (n : ℕ). 0 < n) (sym c.requires.1) (pow_pos c.requires.0) in
    let items : c.in_ok-slots.slots.items ≡ replicate c.args.capacity 0 = search rules in
    subst (λ (slots : List ℕ). IsSound (record { tail = c.args.tail; slots = slots })) (sym items) (sound-none c.args.capacity c.args.tail some)
