-- Reads of a source, one after another, up to the one that ends them.
use Rattle.std.specs.Prelude.{ℕ, ◌≡◌, ◌<◌, List, length, take, Result, Ok, Err, IfOk}
use Rattle.std.specs.List.{FoldsTo, concat}
use Rattle.redo_io.specs.declared.fault.IoFault.{IoFault}
use Rattle.redo_io.specs.declared.fault.IoFault.TheVariants.{Failed}
use Rattle.redo_io.specs.declared.fault.ReadFault.{ReadFault}
use Rattle.redo_io.specs.declared.fault.ReadFault.TheVariants.{Fault, TooLong, NoMemory}

-- What one read gives: the source before, the room in the buffer, the answer, the buffer after and the source after.
abbrev pub ReadRelation : Type 0 → Type 1
ReadRelation S = S → ℕ → Result ℕ IoFault → List ℕ → S → Type 0

-- a read into so much room gave this piece, which isn't empty
abbrev pub GivesPiece : {S : Type 0} → ReadRelation S → ℕ → S → List ℕ → S → Type 0
GivesPiece gives room old piece new =
    (out : List ℕ) × gives old room (Ok (length piece)) out new × (piece ≡ take (length piece) out) × (0 < length piece)

-- The read that ends the reads of a whole text: it found the end, or failed. A text that is too long, or for which there
-- is no memory, is given up after a read that gave a piece, or before any.
abbrev pub LastRead : {S : Type 0} → ReadRelation S → ℕ → S → Result (List ℕ) ReadFault → S → Type 0
LastRead gives room old (Ok text) new = (out : List ℕ) × gives old room (Ok 0) out new
LastRead gives room old (Err Fault) new = (out : List ℕ) × gives old room (Err Failed) out new
LastRead gives room old (Err TooLong) new = new ≡ old
LastRead gives room old (Err NoMemory) new = new ≡ old

-- A text is read whole: reads that gave pieces of it, and then the one that ended them, after which there is no other.
pub record IsReadThrough {S : Type 0} (gives : ReadRelation S) (room : ℕ) (old : S) (result : Result (List ℕ) ReadFault) (new : S) : Type 0 where
  pub pieces : List (List ℕ)
  pub before_last : S
  pub reads : FoldsTo (GivesPiece gives room) old pieces before_last
  pub last : LastRead gives room before_last result new
  pub text : IfOk result (λ text. text ≡ concat pieces)
