-- Counts of a program's events, as the faults of a device, a source or a sink. They are kept in 64 bits.
use Rattle.std.specs.Prelude.{ℕ, ◌≤◌, ◌<◌, ◌-◌, ◌^◌, ◌⊎◌}

-- how many a 64-bit counter counts at the most: it stands still there
abbrev pub last_count : ℕ
last_count = 2 ^ 64 - 1

-- the count rose in the call, or stands at its last value and can't tell
abbrev pub HasRisen : ℕ → ℕ → Type 0
HasRisen before now = (before < now) ⊎ (last_count ≤ before)
