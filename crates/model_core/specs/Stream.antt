-- The stream of the bytes of a run's groups, and the first offsets of its blocks. All places are sns, counted from the run's first, which is the start of a block.
use Rattle.std.specs.Prelude.{Bool, List, [], cond, false, length, nat_lt, slice_index, ℕ, ◌%◌, ◌*◌, ◌++◌, ◌+◌, ◌-◌, ◌/◌, ◌<◌, ◌==◌, ◌∷◌, ◌≡◌, ◌≤◌, ◌⊎◌}
use Rattle.model_base.specs.declared.limits.TheConstants.{MAX_GROUP}
use Rattle.model_log.specs.declared.layout.TheConstants.{BLOCK_DATA, BLOCK_HEADER}
use Rattle.model_core.specs.States.{end_of, Entry}

-- the entries follow each other from s to n, and none is empty or over the limit
abbrev pub Tiles : ℕ → List Entry → ℕ → Type 0
Tiles s [] n = s ≡ n
Tiles s (e ∷ es) n = (e.start ≡ s) × (0 < length e.bytes) × (length e.bytes ≤ MAX_GROUP) × Tiles (s + length e.bytes) es n

-- their bytes, joined
abbrev pub stream : List Entry → List ℕ
stream [] = []
stream (e ∷ es) = e.bytes ++ stream es

-- the byte at x
abbrev pub byte_at : ℕ → List Entry → ℕ → ℕ
byte_at base log x = slice_index (stream log) (x - base)

-- x is the run's start or the end of a group
abbrev pub IsBound : ℕ → List Entry → ℕ → Type 0
IsBound s [] x = x ≡ s
IsBound s (e ∷ es) x = (x ≡ s) ⊎ IsBound (s + length e.bytes) es x

-- the group ends in block q and starts in an earlier one
abbrev pub crosses : ℕ → Entry → Bool
crosses q e = cond (end_of e / BLOCK_DATA == q) (nat_lt (e.start / BLOCK_DATA) q) false

-- the offset in block q at which that group ends, or 0
abbrev pub crossing : ℕ → List Entry → ℕ
crossing q [] = 0
crossing q (e ∷ es) = cond (crosses q e) (end_of e % BLOCK_DATA + BLOCK_HEADER) (crossing q es)

-- the first offset of block q: in the run's first block its first data byte, else after the group that crosses into it
abbrev pub first_of : ℕ → List Entry → ℕ → ℕ
first_of base log q = cond (q == base / BLOCK_DATA) BLOCK_HEADER (crossing q log)

-- What the writer hands to the device with the mark n, w being the mark written so far: the stream from the start of
-- w's block to n, and the first offset of each of its blocks.
pub record IsLent (base : ℕ) (log : List Entry) (w n : ℕ) (bytes firsts : List ℕ) : Type 0 where
  pub long : w / BLOCK_DATA * BLOCK_DATA + length bytes ≡ n
  pub bytes_are : (j : ℕ) → j < length bytes → slice_index bytes j ≡ byte_at base log (w / BLOCK_DATA * BLOCK_DATA + j)
  pub enough : length bytes ≤ BLOCK_DATA * length firsts
  pub few : BLOCK_DATA * length firsts < length bytes + BLOCK_DATA
  pub firsts_are : (i : ℕ) → i < length firsts → slice_index firsts i ≡ first_of base log (w / BLOCK_DATA + i)

-- a number of each group, added up
abbrev pub sum_of : (Entry → ℕ) → List Entry → ℕ
sum_of h [] = 0
sum_of h (x ∷ xs) = h x + sum_of h xs
