-- What bounds the numbers of a run: pages and changed cells hold bytes, and codes have 32 bits.
use Rattle.std.specs.Prelude.{get_or, slice_index, ℕ, ◌<◌, ◌^◌}
use Rattle.model_core.specs.{DataSide, LogSide, Setup, change_at, line_at}

pub record HasBytes (c : Setup) : Type 0 where
  pub opened : (p i : ℕ) → slice_index (c.opened p).bytes i < 256
  pub cells : (user j k i : ℕ) → (get_or (change_at (line_at (c.script user) j).changes k).cells i (record { at = 0; value = 0 })).value < 256

pub record HaveSmallCodes (D : LogSide) (E : DataSide) : Type 0 where
  pub log : (p : D.Part) (x : ℕ) → D.Cause p x → x < 2 ^ 32
  pub data_part : (d : E.Part) (x : ℕ) → E.Cause d x → x < 2 ^ 32
