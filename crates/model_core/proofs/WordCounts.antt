-- How many words the bytes of a group fill. Words that hold bytes of the stream are counted without those of a block's header.
use Rattle.std.proofs.Common.{arith, ℕ, ◌%◌, ◌*◌, ◌+◌, ◌-◌, ◌/◌, ◌<◌, ◌≡◌, ◌≤◌}
use Rattle.model_log.specs.declared.layout.TheConstants.{BLOCK_DATA}
use Rattle.model_core.specs.Lanes.{left_in_word, lsn}

abbrev pub data_word : ℕ → ℕ
data_word x = x / BLOCK_DATA * 63 + (x % BLOCK_DATA + 4) / 8

-- two places have one number where they are in one word
pub same_number : (x y : ℕ) → lsn x / 8 ≡ lsn y / 8 → data_word x ≡ data_word y
unfolding lsn
same_number x y h = omega arith

pub same_word_of : (x y : ℕ) → data_word x ≡ data_word y → lsn x / 8 ≡ lsn y / 8
unfolding lsn
same_word_of x y h = omega arith

-- after the bytes of a word the next number comes, and within them none
pub next_number : (x : ℕ) → data_word (x + left_in_word x) ≡ data_word x + 1
unfolding lsn
next_number x = omega arith

pub last_number : (x n : ℕ) → 0 < n → n ≤ left_in_word x → data_word (x + n - 1) ≡ data_word x
unfolding lsn
last_number x n some few = omega arith

pub numbers_grow : (x y : ℕ) → x ≤ y → data_word x ≤ data_word y
numbers_grow x y h = omega arith
