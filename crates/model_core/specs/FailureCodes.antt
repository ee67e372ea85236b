-- What a call of the log part may fail with, and one of the data part.
use Rattle.std.specs.Prelude.{ℕ, ◌≡◌, ◌⊎◌}
use Rattle.model_core.specs.ActorProgram.{data_device_code, log_device_code, no_memory_code}

abbrev pub IsLogCode : ℕ → Type 0
IsLogCode code = (code ≡ log_device_code) ⊎ (code ≡ no_memory_code)

abbrev pub IsDataCode : ℕ → Type 0
IsDataCode code = (code ≡ data_device_code) ⊎ (code ≡ no_memory_code)
