-- The pages that lsns and joined user bytes come to, one by one.
use Rattle.std.proofs.Common.{◌≡◌, ◌≤◌, ◌<◌, ◌+◌, ◌*◌, ℕ, zero, suc, List, [], ◌∷◌, ◌++◌, length, take, drop, set, get_or, refl, sym, ap, ap₂, ◌∙◌, arith, append_assoc, length-append, length-drop}
use Rattle.std.specs.Prelude.{Some, slice_get, replicate}
use Rattle.std.proofs.lemmas.List.{take_at, drop_at, drop-drop, length-take-le, drop_all, take_all, append-nil, length-replicate, replicate-append-replicate}
use Rattle.std.proofs.Math.Seq.{take-add}
use Rattle.std.proofs.Math.Nat.{mul-le-mul_left}
use borrow.Rule.Slice.PartMut.{put_mid}
use Rattle.model_page.specs.declared.content.Content.{Content}
use Rattle.redo_apply.specs.Frames.{contents}

pub length-contents : (size : ℕ) (lsns users : List ℕ) → length (contents size lsns users) ≡ length lsns
length-contents size [] users = refl
length-contents size (lsn ∷ lsns) users = ap suc (length-contents size lsns (drop size users))

-- one of the pages
pub slice_get-contents : (size : ℕ) (lsns users : List ℕ) (i d : ℕ) → i < length lsns
    → slice_get (contents size lsns users) i ≡ Some (record { lsn = get_or lsns i d; user = take size (drop (i * size) users) })
slice_get-contents size [] users i d below = absurd (omega arith)
slice_get-contents size (lsn ∷ lsns) users zero d below = let none : 0 * size ≡ 0 = omega arith in ap (λ n. Some (let x : Content = record { lsn = lsn; user = take size (drop n users) } in x)) (sym none)
slice_get-contents size (lsn ∷ lsns) users (suc i) d below =
    let further : size + i * size ≡ suc i * size = omega arith in
    slice_get-contents size lsns (drop size users) i d (omega arith)
    ∙ ap (λ text. Some (let x : Content = record { lsn = get_or lsns i d; user = take size text } in x)) (drop-drop (i * size) size users ∙ ap (λ n. drop n users) further)

-- what stands in front of a part that is written stays
further-put : (size at : ℕ) (users new : List ℕ) → put_mid (size + at) size users new ≡ take size users ++ put_mid at size (drop size users) new
further-put size at users new =
    ap₂ (λ front back. front ++ (new ++ drop size back)) (take-add size at users) (sym (drop-drop at size users))
    ∙ append_assoc (take size users) (take at (drop size users)) (new ++ drop size (drop at (drop size users)))

-- a frame is written and its lsn set
pub contents-put : (size p end : ℕ) (lsns users new : List ℕ) → p < length lsns → length users ≡ size * length lsns → length new ≡ size
    → contents size (set lsns p end) (put_mid (p * size) size users new) ≡ set (contents size lsns users) p (record { lsn = end; user = new })
contents-put size p end [] users new below long whole = absurd (omega arith)
contents-put size zero end (lsn ∷ lsns) users new below long whole =
    let none : 0 * size ≡ 0 = omega arith in
    ap (λ n. contents size (end ∷ lsns) (put_mid n size users new)) none
    ∙ ap₂ (λ first rest. (let x : Content = record { lsn = end; user = first } in x) ∷ contents size lsns rest)
    (take_at new (drop size users) size whole) (drop_at new (drop size users) size whole)
contents-put size (suc p) end (lsn ∷ lsns) users new below long whole =
    let further : suc p * size ≡ size + p * size = omega arith in
    let more : size * suc (length lsns) ≡ size + size * length lsns = omega arith in
    let front : length (take size users) ≡ size = length-take-le size users (omega arith) in
    let behind : length (drop size users) ≡ size * length lsns = omega (arith, length-drop size users) in
    let inside : List ℕ = put_mid (p * size) size (drop size users) new in
    let put : put_mid (suc p * size) size users new ≡ take size users ++ inside = ap (λ n. put_mid n size users new) further ∙ further-put size (p * size) users new in
    ap (λ text. (let x : Content = record { lsn = lsn; user = take size text } in x) ∷ contents size (set lsns p end) (drop size text)) put
    ∙ ap₂ (λ first rest. (let x : Content = record { lsn = lsn; user = first } in x) ∷ contents size (set lsns p end) rest)
    (take_at (take size users) inside size front) (drop_at (take size users) inside size front)
    ∙ ap (λ rest. (let x : Content = record { lsn = lsn; user = take size users } in x) ∷ rest)
    (contents-put size p end lsns (drop size users) new (omega arith) behind whole)

pub contents-replicate : (size count : ℕ) → contents size (replicate count 0) (replicate (size * count) 0) ≡ replicate count (record { lsn = 0; user = replicate size 0 })
contents-replicate size zero = refl
contents-replicate size (suc count) =
    let more : size * suc count ≡ size + size * count = omega arith in
    let long : length (replicate {A = ℕ} size 0) ≡ size = length-replicate size 0 in
    ap (λ text. (let x : Content = record { lsn = 0; user = take size text } in x) ∷ contents size (replicate count 0) (drop size text))
    (ap (λ n. replicate {A = ℕ} n 0) more ∙ sym (replicate-append-replicate size (size * count) 0))
    ∙ ap₂ (λ first rest. (let x : Content = record { lsn = 0; user = first } in x) ∷ contents size (replicate count 0) rest)
    (take_at (replicate size 0) (replicate (size * count) 0) size long) (drop_at (replicate size 0) (replicate (size * count) 0) size long)
    ∙ ap (λ rest. (let x : Content = record { lsn = 0; user = replicate size 0 } in x) ∷ rest) (contents-replicate size count)

-- a frame lies within the user bytes of all pages
pub frame-within : (size page count long : ℕ) → page < count → long ≡ size * count → page * size + size ≤ long
frame-within size page count long below whole =
    let most : size * suc page ≤ size * count = mul-le-mul_left size (omega arith) in
    let one : size * suc page ≡ page * size + size = omega arith in
    omega arith

-- a page that these are has its frame among the user bytes
pub frame-bound : (size page long count : ℕ) (lsns users : List ℕ) (pages : List Content) → contents size lsns users ≡ pages → page < length pages
    → long ≡ size * count → count ≡ length lsns → page * size + size ≤ long
frame-bound size page long count lsns users pages are below whole same =
    let fewer : length pages ≡ count = sym (ap length are) ∙ length-contents size lsns users ∙ sym same in
    frame-within size page count long (omega arith) whole

-- a slice that was lent keeps its length, so what is left in it is all
pub written-all : (long : ℕ) (old new : List ℕ) → long ≡ length old → length new ≡ length old → take long (new ++ drop (length new) old) ≡ new
written-all long old new all same =
    let none : drop (length new) old ≡ [] = drop_all (length new) old (omega arith) in
    ap (λ rest. take long (new ++ rest)) none ∙ ap (take long) (append-nil new) ∙ take_all long new (omega arith)

-- a part that is written over keeps the length
pub length-put_mid : (at count : ℕ) (users new : List ℕ) → at + count ≤ length users → length new ≡ count → length (put_mid at count users new) ≡ length users
length-put_mid at count users new within sized =
    let front = length-take-le at users (omega arith) in
    let back = length-append new (drop count (drop at users)) in
    let rest = length-drop count (drop at users) in
    let behind = length-drop at users in
    length-append (take at users) (new ++ drop count (drop at users)) ∙ omega arith
