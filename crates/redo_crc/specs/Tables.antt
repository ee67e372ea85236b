-- What the tables have.
use Rattle.std.specs.Prelude.{ℕ, zero, suc}
use Rattle.model_base.specs.{after_eight_bits}

-- the register after so many zero bytes
unfoldable pub after_zeros : ℕ → ℕ → ℕ
after_zeros zero register = register
after_zeros (suc n) register = after_eight_bits (after_zeros n register)
