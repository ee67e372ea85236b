-- A text that comes in parts.
use Rattle.std.specs.Prelude.{ℕ, ◌≡◌, List}
use Rattle.model_base.specs.{all_ones, register_after}

-- the register is that of a checksum that has taken this text, in whatever parts it came
abbrev pub HasTaken : ℕ → List ℕ → Type 0
HasTaken register text = register ≡ register_after all_ones text
