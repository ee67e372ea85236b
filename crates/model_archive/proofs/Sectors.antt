-- Stretches of whole sectors, and where those of an archive stand.
use Rattle.std.proofs.Common.{◌≡◌, ◌≤◌, ◌<◌, ◌+◌, ◌*◌, ◌/◌, ◌%◌, ℕ, List, length, take, drop, get_or, sym, ap, ◌∙◌, length-take, length-drop, arith}
use Rattle.std.proofs.lemmas.List.{same_lists, get_or-take, get_or-drop}
use Rattle.model_device.specs.{sector}

-- stretches of the same sectors are the same
pub stretch-sectors : (size o : ℕ) (xs ys : List ℕ) → length xs ≡ length ys → o % 512 ≡ 0
    → ((k : ℕ) → o ≤ 512 * k → 512 * k < o + size → 512 * k < length ys → sector k xs ≡ sector k ys)
    → take size (drop o xs) ≡ take size (drop o ys)
stretch-sectors size o xs ys same aligned each =
    same_lists (take size (drop o xs)) (take size (drop o ys))
    (omega (arith, length-take size (drop o xs), length-take size (drop o ys), length-drop o xs, length-drop o ys))
    (λ i d inside.
    let below : i < size = omega (arith, length-take size (drop o xs)) in
    let short : o + i < length ys = omega (arith, length-take size (drop o xs), length-drop o xs) in
    let k = (o + i) / 512 in
    let r = (o + i) % 512 in
    let split : 512 * k + r ≡ o + i = omega arith in
    let small : r < 512 = omega arith in
    let here : (zs : List ℕ) → get_or (take size (drop o zs)) i d ≡ get_or (sector k zs) r d = λ zs.
    get_or-take size (drop o zs) i d below ∙ get_or-drop o zs i d ∙ ap (λ n. get_or zs n d) (sym split)
    ∙ sym (get_or-drop (512 * k) zs r d) ∙ sym (get_or-take 512 (drop (512 * k) zs) r d small) in
    here xs ∙ ap (λ s. get_or s r d) (each k (omega arith) (omega arith) (omega arith)) ∙ sym (here ys))
