-- What one read of a source does, and one write to a sink.
use Rattle.std.specs.Prelude.{ℕ, ◌≡◌, ◌≤◌, ◌<◌, List, [], length, take, drop, Option, None, Some, Result, IfOk, OnErr, IfSome}
use Rattle.model_base.specs.{HasRisen}
use Rattle.redo_io.specs.declared.fault.IoFault.{IoFault}
use Rattle.redo_io.specs.Ends.{SourceSeen, SinkSeen, with_taken}

-- A write of these bytes, of which the sink takes some off the front. To take none of some bytes is a fault.
pub record SinkStep (bytes : List ℕ) (old : SinkSeen) (result : Result ℕ IoFault) (new : SinkSeen) : Type 0 where
  pub count : IfOk result (λ n. n ≤ length bytes)
  pub some : IfOk result (λ n. 0 < length bytes → 0 < n)
  pub bytes_taken : IfOk result (λ n. new.taken ≡ with_taken old.taken (take n bytes))
  pub err : OnErr result (new.taken ≡ old.taken)
  pub later : old.faults ≤ new.faults
  pub cause : OnErr result (HasRisen old.faults new.faults)

-- the first n bytes that were left are gone, and now stand at the front of the buffer
abbrev pub TakesFront : Option (List ℕ) → Option (List ℕ) → ℕ → List ℕ → Type 0
TakesFront None new n buffer = new ≡ None
TakesFront (Some bytes) new n buffer = (n ≤ length bytes) × (take n buffer ≡ take n bytes) × (new ≡ Some (drop n bytes))

-- The text is all that was left, at most so many bytes, and nothing is left.
pub record IsAllOf (limit : ℕ) (old new : Option (List ℕ)) (text : List ℕ) : Type 0 where
  pub all : IfSome old (λ bytes. text ≡ bytes)
  pub none_left : IfSome new (λ bytes. bytes ≡ [])
  pub short : length text ≤ limit

-- A read into a buffer with room for so many bytes; `out` is what stands in the buffer after it. To read nothing into
-- some room is the end of input.
pub record SourceStep (room : ℕ) (old : SourceSeen) (result : Result ℕ IoFault) (out : List ℕ) (new : SourceSeen) : Type 0 where
  pub count : IfOk result (λ n. n ≤ room)
  pub bytes : IfOk result (λ n. TakesFront old.left new.left n out)
  pub end : IfOk result (λ n. n ≡ 0 → 0 < room → IfSome old.left (λ bytes. bytes ≡ []))
  pub err : OnErr result (new.left ≡ old.left)
  pub later : old.faults ≤ new.faults
  pub cause : OnErr result (HasRisen old.faults new.faults)
