-- What a reader of a source sees of it, and what reads take away; what a writer to a sink sees of it, and what it has taken
-- then. One that doesn't tell never does. Both count their faults, by counts that stand still at their last value.
use Rattle.std.specs.Prelude.{ℕ, ◌≡◌, ◌≤◌, List, length, drop, Option, None, Some, ◌<◌, ◌++◌, take, ◌+◌, min, Bool, if◌then◌else◌}
use Rattle.model_base.specs.{last_count}

-- a source, as its readers see it
pub record SourceSeen : Type 0 where
  -- the bytes left to read, where it tells
  pub left : Option (List ℕ)
  -- how often it has failed
  pub faults : ℕ

-- bytes are gone from the front of what was left, and at most so many
abbrev pub TakesAtMost : ℕ → Option (List ℕ) → Option (List ℕ) → Type 0
TakesAtMost most None new = new ≡ None
TakesAtMost most (Some bytes) new = (n : ℕ) × (n ≤ most) × (n ≤ length bytes) × (new ≡ Some (drop n bytes))

-- a sink, as its writers see it
pub record SinkSeen : Type 0 where
  -- the bytes taken so far, where it tells
  pub taken : Option (List ℕ)
  -- how often it has failed
  pub faults : ℕ

-- what a sink has taken once it takes these too
abbrev pub with_taken : Option (List ℕ) → List ℕ → Option (List ℕ)
with_taken None bytes = None
with_taken (Some taken) bytes = Some (taken ++ bytes)

-- the sink took some of these bytes off the front, and not all
abbrev pub TakesPart : Option (List ℕ) → List ℕ → Option (List ℕ) → Type 0
TakesPart old bytes new = (n : ℕ) × (n < length bytes) × (new ≡ with_taken old (take n bytes))

-- one more, where 64 bits hold it
abbrev pub saturating_next : ℕ → ℕ
saturating_next count = min (count + 1) last_count

-- the count after one more that counts or not
abbrev pub next_count_if : Bool → ℕ → ℕ
next_count_if counts count = if counts then saturating_next count else count
