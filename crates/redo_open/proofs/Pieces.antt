-- So many bytes from an offset on.
use Rattle.std.proofs.Common.{◌≡◌, ◌≤◌, ◌<◌, ◌+◌, ◌-◌, ◌*◌, ◌/◌, ◌%◌, ℕ, List, length, take, drop, replicate, get_or, sym, ap, ◌∙◌, length-take, length-drop, arith}
use Rattle.std.proofs.lemmas.List.{drop-replicate, get_or-drop, get_or-take, same_lists, take-replicate}
use Rattle.model_device.specs.{sector}

-- so many zeros among more
pub zeros-piece : (size at count : ℕ) → at + size ≤ count → take size (drop at (replicate {A = ℕ} count 0)) ≡ replicate
    size 0
zeros-piece size at count within = ap (take size) (drop-replicate at count 0) ∙ take-replicate size (count - at) 0
    (omega arith)

-- they are the same where each sector of them is
pub same-piece : (size o : ℕ) (xs ys : List ℕ) → length xs ≡ length ys → o % 512 ≡ 0
    → ((k : ℕ) → o ≤ 512 * k → 512 * k < o + size → 512 * k < length ys → sector k xs ≡ sector k ys)
    → take size (drop o xs) ≡ take size (drop o ys)
same-piece size o xs ys same aligned each =
    same_lists (take size (drop o xs)) (take size (drop o ys))
    (omega (arith, length-take size (drop o xs), length-take size (drop o ys), length-drop o xs, length-drop o ys))
    (λ i d inside. (
    let below : i < size = omega (arith, length-take size (drop o xs)) in
    let short : o + i < length ys = omega (arith, length-take size (drop o xs), length-drop o xs) in
    let k = (o + i) / 512 in
    let r = (o + i) % 512 in
    let split : 512 * k + r ≡ o + i = omega arith in
    let small : r < 512 = omega arith in
    let here : (zs : List ℕ) → get_or (take size (drop o zs)) i d ≡ get_or (sector k zs) r d = λ zs.
    get_or-take size (drop o zs) i d below ∙ get_or-drop o zs i d ∙ ap (λ n. get_or zs n d) (sym split)
    ∙ sym (get_or-drop (512 * k) zs r d) ∙ sym (get_or-take 512 (drop (512 * k) zs) r d small) in
    here xs ∙ ap (λ s. get_or s r d) (each k (omega arith) (omega arith) (omega arith)) ∙ sym (here ys)))
