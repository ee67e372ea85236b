-- The compressed spelling of a number: `mach_write_compressed` of InnoDB for 32 bits below 0xFF000000, and
-- rows of this project's own from there on. Each number has one spelling.
use Rattle.std.specs.Prelude.{ℕ, ◌+◌, ◌/◌, ◌%◌, ◌^◌, nat_lt, if◌then◌else◌, List, ◌∷◌, ◌++◌}
use Rattle.std.specs.Int.{bytes_high_first}

-- The one spelling of a number below 2^32, a line for each row of the table. The marks in the first byte
-- (80, C0, E0, F0, FE, FC, F8) tell the rows apart.
unfoldable pub spelling32 : ℕ → List ℕ
spelling32 n =
    if nat_lt n 0x80 then bytes_high_first 1 n
    else (if nat_lt n 0x4000 then bytes_high_first 2 (0x8000 + n)
    else (if nat_lt n 0x20_0000 then bytes_high_first 3 (0xC0_0000 + n)
    else (if nat_lt n 0x1000_0000 then bytes_high_first 4 (0xE000_0000 + n)
    else (if nat_lt n 0xFF00_0000 then 0xF0 ∷ bytes_high_first 4 n
    else (if nat_lt n 0xFFFE_0000 then bytes_high_first 4 (0xFE00_0000 + n % 0x100_0000)
    else (if nat_lt n 0xFFFF_FC00 then bytes_high_first 3 (0xFC_0000 + n % 0x2_0000)
    else bytes_high_first 2 (0xF800 + n % 0x400)))))))

-- A number below 2^64: its high 32 bits in that spelling, and then its low 32 bits in four bytes.
unfoldable pub spelling64 : ℕ → List ℕ
spelling64 n = spelling32 (n / 2 ^ 32) ++ bytes_high_first 4 (n % 2 ^ 32)
