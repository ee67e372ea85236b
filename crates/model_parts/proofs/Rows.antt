-- Rows of the same length, side by side.
use Rattle.std.proofs.Common.{◌≡◌, ◌<◌, ◌+◌, ◌*◌, ◌%◌, ◌≤◌, ℕ, zero, suc, ap, arith}
use Rattle.std.proofs.Math.Nat.{mul-le-mul_right, suc-mul, zero-mul}
use Rattle.model_base.specs.declared.limits.TheConstants.{BLOCK_SIZE}

-- a row ends before each later one begins
pub row_ends : (i j n : ℕ) → i < j → i * n + n ≤ j * n
row_ends i j n less = let all : suc i * n ≤ j * n = mul-le-mul_right n less in omega (arith, suc-mul i n)

-- one more row before a row
pub one-more-row : (i n : ℕ) → suc i * n ≡ n + i * n
one-more-row i n = omega (arith, suc-mul i n)

-- rows of whole sectors begin with sectors
pub row-sector : (i n : ℕ) → n % BLOCK_SIZE ≡ 0 → (i * n) % BLOCK_SIZE ≡ 0
row-sector zero n whole = ap (λ (m : ℕ). m % BLOCK_SIZE) (zero-mul n)
row-sector (suc i) n whole = let before : (i * n) % BLOCK_SIZE ≡ 0 = row-sector i n whole in omega (arith, suc-mul i n)
