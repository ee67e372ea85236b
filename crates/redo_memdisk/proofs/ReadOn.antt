-- What a read adds to the bytes that were read before it.
use Rattle.std.proofs.Common.{List, Option, ap, arith, drop_at, le_refl, length, length-take-le, slice_range, subst, sym, take, ℕ, ◌++◌, ◌+◌, ◌-◌, ◌∙◌, ◌≡◌, ◌≤◌}
use Rattle.std.proofs.KnownBytes.{Consumes-kept, Consumes-trans}
use Rattle.std.proofs.lemmas.Slice.{take-put_mid_below}
use Rattle.std.specs.Io.KnownBytes.{Consumes, Keeps}
use borrow.Rule.Slice.PartMut.{post_of, put_mid}
use lib.Seq.{take-add, take-append-le}

take_split : (a b : ℕ) (old new : List ℕ) → a ≤ b → take a new ≡ take a old → take a old ++ slice_range new a b ≡ take b new
take_split a b old new h front =
    let same : a + (b - a) ≡ b = omega arith in
    ap (λ l. l ++ slice_range new a b) (sym front) ∙ sym (take-add a (b - a) new) ∙ ap (λ n. take n new) same

put_range : (a k n : ℕ) (xs ys : List ℕ) → a ≤ length xs → n ≤ length ys → slice_range (put_mid a k xs ys) a (a + n) ≡ take n ys
put_range a k n xs ys within fits =
    let same : (a + n) - a ≡ n = omega arith in
    let after = post_of a k xs in
    ap (take ((a + n) - a)) (drop_at (take a xs) (ys ++ after) a (length-take-le a xs within)) ∙ ap (λ m. take m (ys ++ after)) same ∙ take-append-le n ys after fits

-- some bytes
pub reads_on : (before now after : Option (List ℕ)) (at count : ℕ) (out part : List ℕ) → at ≤ length out → count ≤ length part
    → Consumes before now (take at out) → Consumes now after (take count part) → Consumes before after (take (at + count) (put_mid at (length out - at) out part))
reads_on before now after at count out part within fits front back =
    let room = length out - at in
    let joined = take_split at (at + count) out (put_mid at room out part) (omega arith) (take-put_mid_below _ _ _ _ _ (le_refl _) within) in
    subst (Consumes before after) (ap (λ l. take at out ++ l) (sym (put_range at room count out part within fits)) ∙ joined) (Consumes-trans _ _ _ _ _ front back)

-- none, since it failed
pub reads_none : (before now after : Option (List ℕ)) (at : ℕ) (out part : List ℕ) → at ≤ length out
    → Consumes before now (take at out) → Keeps now after → Consumes before after (take at (put_mid at (length out - at) out part))
reads_none before now after at out part within front stays =
    subst (Consumes before after) (sym (take-put_mid_below _ _ _ _ _ (le_refl _) within)) (Consumes-kept _ _ _ _ front stays)
