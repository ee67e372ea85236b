use Rattle.std.proofs.Common.{List, Some, [], ap, arith, length, subst, suc, sym, zero, ℕ, ◌<◌, ◌^◌, ◌∷◌, ◌≡◌}
use Rattle.std.specs.List.{slice_get}
use Rattle.model_base.specs.{default_shape, user_length}
use Rattle.model_base.specs.declared.limits.TheConstants.{EARLY_SLOTS}
use Rattle.model_base.specs.declared.shape.Shape.{Shape}
use Rattle.model_parts.specs.{IsWritable}
use Rattle.tests_devices.proofs.calls.write_one.Goals as goal

abbrev one : ℕ → List (ℕ × ℕ)
one lsn = (3, lsn) ∷ []

in-one : (lsn i : ℕ) (pair : ℕ × ℕ) → slice_get (one lsn) i ≡ Some pair → (i ≡ 0) × (pair.0 ≡ 3) × (pair.1 ≡ lsn)
in-one lsn zero pair at =
    let same : (let x : ℕ × ℕ = (3, lsn) in x) ≡ pair = cc in
    (omega arith, sym (ap (λ (x : ℕ × ℕ). x.0) same), sym (ap (λ (x : ℕ × ℕ). x.1) same))
in-one lsn (suc i) pair at = absurd cc

-- the default sizes of a store of format 2
abbrev early : Shape
early = record default_shape { slots = EARLY_SLOTS }

one-writable : (lsn : ℕ) (users : List ℕ) → lsn < 2 ^ 60 → length users ≡ user_length early
    → IsWritable early (one lsn) users
one-writable lsn users small count = record {
  few = omega arith;
  count = count;
  below = λ i pair at. let is = (in-one lsn i pair at).1 in omega arith;
  small_lsn = λ i pair at. let is = (in-one lsn i pair at).2 in omega arith;
  different = λ i j pair other at at_other same. let is = (in-one lsn i pair at).0 in let also = (in-one lsn j other at_other).0 in omega arith;
}

pub write_batch-requires-clause-batch : goal.write_batch-requires-clause-batch
write_batch-requires-clause-batch g c =
    subst (λ (s : Shape). IsWritable s (one c.args.lsn) c.args.users.now) (sym c.requires.shape)
    (one-writable c.args.lsn c.args.users.now c.requires.small_lsn c.requires.count)
