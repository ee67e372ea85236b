-- The numbers of pages' words stay small.
use Rattle.std.proofs.Common.{arith, ℕ, ◌*◌, ◌<◌, ◌^◌, ◌≤◌}
use Rattle.std.proofs.Math.Nat.{mul-le-mul_right}

pub few_words : (page words : ℕ) → page < 2 ^ 32 → words < 2 ^ 30 → page * words < 2 ^ 62
few_words page words low few = let h : page * words ≤ 2 ^ 32 * words = mul-le-mul_right words (omega arith) in omega arith
