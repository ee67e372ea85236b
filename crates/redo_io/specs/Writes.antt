-- Writes to a sink, one after another, up to the one that ends them.
use Rattle.std.specs.Prelude.{ℕ, ◌≡◌, ◌<◌, List, [], drop, Result, Ok, Err}
use Rattle.std.specs.List.{FoldsTo}
use Rattle.redo_io.specs.declared.fault.IoFault.{IoFault}

-- What one write gives: the sink before, the bytes, the answer and the sink after.
abbrev pub Writing : Type 0 → Type 1
Writing S = S → List ℕ → Result ℕ IoFault → S → Type 0

-- a write of the bytes that are left took so many of them, and some
abbrev pub TakesSome : {S : Type 0} → Writing S → S × List ℕ → ℕ → S × List ℕ → Type 0
TakesSome gives old count new = gives old.0 old.1 (Ok count) new.0 × (new.1 ≡ drop count old.1) × (0 < count)

-- How the writes end: nothing is left, or a write of what is left failed.
abbrev pub LastWrite : {S : Type 0} → Writing S → S → List ℕ → Result (Unit {0}) IoFault → S → Type 0
LastWrite gives old rest (Ok done) new = (rest ≡ []) × (new ≡ old)
LastWrite gives old rest (Err fault) new = gives old rest (Err fault) new

-- Bytes are written whole: each write is of what the ones before it left, and there is none after the end or a failure.
pub record IsPutThrough {S : Type 0} (gives : Writing S) (old : S) (bytes : List ℕ) (result : Result (Unit {0}) IoFault) (new : S) : Type 0 where
  pub counts : List ℕ
  pub before_last : S
  pub rest : List ℕ
  pub writes : FoldsTo (TakesSome gives) (old, bytes) counts (before_last, rest)
  pub last : LastWrite gives before_last rest result new
