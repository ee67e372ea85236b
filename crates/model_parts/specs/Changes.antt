-- What a step of opening or formatting does to the sectors of a log device: what a fair image holds while it goes on, and
-- what the device holds once it is done.
use Rattle.std.specs.Prelude.{ℕ, ◌≡◌, ◌≢◌, ◌⊎◌, false, List, length}
use Rattle.model_device.specs.{sector}
use Rattle.model_log.specs.{fits_checksum}

-- no header, checkpoint or log block is read of such bytes; zeros are such
abbrev pub IsUnsealed : List ℕ → Type 0
IsUnsealed bytes = fits_checksum bytes ≡ false

-- each sector is as it was, or is one of those that are erased, and nothing is read of it
pub record IsErasing (Erased : ℕ → Type 0) (old new : List ℕ) : Type 0 where
  pub same_length : length new ≡ length old
  pub each : (k : ℕ) → (sector k new ≡ sector k old) ⊎ (Erased k × IsUnsealed (sector k new))

-- nothing is read of those that are erased, and each other sector is as it was
pub record IsErased (Erased : ℕ → Type 0) (old new : List ℕ) : Type 0 where
  pub same_length : length new ≡ length old
  pub gone : (k : ℕ) → Erased k → IsUnsealed (sector k new)
  pub others : (k : ℕ) → (Erased k → ⊥) → sector k new ≡ sector k old

-- the sector is as it was, or nothing is read of it, or it holds these bytes; each other one is as it was
pub record IsPutting (k : ℕ) (bytes old new : List ℕ) : Type 0 where
  pub same_length : length new ≡ length old
  pub at : (sector k new ≡ sector k old) ⊎ IsUnsealed (sector k new) ⊎ (sector k new ≡ bytes)
  pub others : (j : ℕ) → j ≢ k → sector j new ≡ sector j old

-- the sector holds these bytes, and each other one is as it was
pub record IsPut (k : ℕ) (bytes old new : List ℕ) : Type 0 where
  pub same_length : length new ≡ length old
  pub at : sector k new ≡ bytes
  pub others : (j : ℕ) → j ≢ k → sector j new ≡ sector j old
