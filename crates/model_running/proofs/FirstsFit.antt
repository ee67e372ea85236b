-- The first offset of each block that the writer hands over fits the data that the block holds.
use Rattle.std.proofs.Common.{◌≡◌, ℕ, zero, suc, ◌+◌, ◌*◌, ◌/◌, ◌%◌, ◌<◌, ◌≤◌, ◌⊎◌, List, [], ◌∷◌, length, min, IsTrue, inl, inr, sym, refl, ap, ◌∙◌, subst, ⊎_elim, arith}
use Rattle.std.proofs.lemmas.Bool.Decides.{nat_tests}
use lib.ListN.{get_elem?}
use mathlib.Core.Option as maybe
use native.Mathlib.Decide.{ℕ_discrete}
use Rattle.model_log.specs.{is_first, length_of}
use Rattle.model_log.specs.declared.layout.TheConstants.{BLOCK_DATA}
use Rattle.model_core.proofs.Groups.{crosses_is, first_base, first_from, tiles_at}
use Rattle.model_core.specs.{end_of, first_of, IsBound, Tiles}
use Rattle.model_core.specs.States as core

-- a group that starts below a place between groups ends at or below it
pub bound_above : (log : List core.Entry) (s end n i : ℕ) (e : core.Entry) → Tiles s log end → IsBound s log n → get_elem? log i ≡ maybe.some e → e.start < n → end_of e ≤ n
bound_above [] s end n i e tiles bound is below = absurd (maybe.some-ne-none e (sym is))
bound_above (x ∷ xs) s end n zero e tiles bound is below =
    let same : end_of x ≡ end_of e = ap end_of (maybe.some-injective x e is) in
    let start : x.start ≡ e.start = ap (λ (z : core.Entry). z.start) (maybe.some-injective x e is) in
    let at = tiles.0 in
    ⊎_elim (λ z. absurd (omega arith)) (λ z. let from = bound_from xs (s + length x.bytes) end n tiles.3 z in omega arith) bound
  where
    bound_from : (log : List core.Entry) (s end n : ℕ) → Tiles s log end → IsBound s log n → s ≤ n
    bound_from [] s end n tiles bound = omega arith
    bound_from (x ∷ xs) s end n tiles bound = ⊎_elim (λ z. omega arith) (λ z. let r = bound_from xs (s + length x.bytes) end n tiles.3 z in omega arith) bound
bound_above (x ∷ xs) s end n (suc i) e tiles bound is below =
    let from = tiles_at xs (s + length x.bytes) end i e tiles.3 is in let from0 = from.0 in
    ⊎_elim (λ z. absurd (omega arith)) (λ z. bound_above xs (s + length x.bytes) end n i e tiles.3 z is below) bound

-- the first offset of a block that holds a byte below the mark n: none, or one among its bytes below n, or at their end
pub first_place : (base : ℕ) (log : List core.Entry) (end n q : ℕ) → base % BLOCK_DATA ≡ 0 → Tiles base log end → IsBound base log n → BLOCK_DATA * q < n → (first_of base log q ≡ 0) ⊎ ((12 ≤ first_of base log q) × (first_of base log q < 508) × (BLOCK_DATA * q + first_of base log q ≤ n + 12))
first_place base log end n q even tiles bound below = elim (ℕ_discrete q (base / BLOCK_DATA)) [
  | yes e ↦ (let v : first_of base log q ≡ 12 = ap (first_of base log) e ∙ first_base base log in inr (omega arith, omega arith, omega arith))
  | no ne ↦ ⊎_elim (λ z. inl z) (λ z.
      let e : core.Entry = z.1 in
      let c = crosses_is q e z.3 in let c0 = c.0 in let c1 = c.1 in
      let value = z.4 in
      let under = bound_above log base end n z.0 e tiles bound z.2 (omega arith) in
      inr (omega arith, omega arith, omega arith)) (first_from base log q ne)
]

pub first_fits : (f k : ℕ) → 0 < k → (f ≡ 0) ⊎ ((12 ≤ f) × (f < 508) × (f ≤ k + 12)) → IsTrue (is_first (length_of (min BLOCK_DATA k)) f)
first_fits f k some (inl none) = subst (λ (z : ℕ). IsTrue (is_first (length_of (min BLOCK_DATA k)) z)) (sym none) refl
first_fits f k some (inr there) = starts_fit f k some there.0 there.1 there.2
  where
    starts_fit : (f k : ℕ) → 0 < k → 12 ≤ f → f < 508 → f ≤ k + 12 → IsTrue (is_first (length_of (min BLOCK_DATA k)) f)
    starts_fit f k some low high near = grind (arith, nat_tests)
