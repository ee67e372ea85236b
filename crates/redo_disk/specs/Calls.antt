-- The calls that code makes of a device, as a list in their order, what is told of such a list, and which of them were made.
-- `gives` is what the device's own contract says of one call: the device before, the call, and the device after.
use Rattle.std.specs.Prelude.{ℕ, ◌≡◌, ◌+◌, List, [], ◌∷◌, ◌++◌, length, map, Option, Some, None, Result, Ok, Err}
use Rattle.model_device.specs.declared.write.Write.{Write}
use Rattle.redo_disk.specs.declared.error.DevError.{DevError}

-- what a call answers
abbrev pub Answer : Type 0
Answer = Result (Unit {0}) DevError

-- one call, with what it was given and what it gave
pub data Call : Type 0 where
  Reads : (at : ℕ) → (before : List ℕ) → (answer : Answer) → (after : List ℕ) → Call
  Writes : (write : Write) → (answer : Answer) → Call
  Syncs : (answer : Answer) → Call

abbrev pub device_answer : Call → Answer
device_answer (Reads at before answer after) = answer
device_answer (Writes write answer) = answer
device_answer (Syncs answer) = answer

-- the error that an answer is, if it is one
abbrev pub error_of : {T : Type 0} → Result T DevError → Option DevError
error_of (Ok value) = None
error_of (Err error) = Some error

-- what a call asks for
pub data Request : Type 0 where
  ToRead : (at : ℕ) → (count : ℕ) → Request
  ToWrite : (write : Write) → Request
  ToSync : Request

abbrev pub request_of : Call → Request
request_of (Reads at before answer after) = ToRead at (length before)
request_of (Writes write answer) = ToWrite write
request_of (Syncs answer) = ToSync

-- Every call but the last answered Ok, and the last, if it answered an error, answered this one. So code whose answer is
-- this error neither forgot an error nor made one up, and did nothing after it.
abbrev pub EndWith : Option DevError → List Call → Type 0
EndWith error [] = error ≡ None
EndWith error (call ∷ []) = error_of (device_answer call) ≡ error
EndWith error (call ∷ second ∷ calls) = (error_of (device_answer call) ≡ None) × EndWith error (second ∷ calls)

-- The calls ask for these things in this order, for all of them or up to the one that answered this error.
pub record Serve (requests : List Request) (error : Option DevError) (calls : List Call) : Type 0 where
  pub ends : EndWith error calls
  -- what isn't asked for any more, after an error
  pub rest : List Request
  pub asked : requests ≡ map request_of calls ++ rest
  pub all : error ≡ None → rest ≡ []

-- what makes a write survive every crash: the write, and a sync after it
abbrev pub put_requests : Write → List Request
put_requests write = ToWrite write ∷ ToSync ∷ []

-- the device went from the one to the other by this call
pub record MakesCall {D : Type 0} (gives : D → Call → D → Type 0) (old : D) (call : Call) (new : D) : Type 0 where
  pub given : gives old call new

-- the device went from the one to the other by exactly these calls, in their order
abbrev pub Makes : {D : Type 0} → (D → Call → D → Type 0) → D → List Call → D → Type 0
Makes gives old [] new = new ≡ old
Makes {D = D} gives old (call ∷ calls) new = (middle : D) × MakesCall gives old call middle × Makes gives middle calls new

-- the device went from the one to the other by calls that are so
pub record MakesCalls {D : Type 0} (gives : D → Call → D → Type 0) (old new : D) (Are : List Call → Type 0) : Type 0 where
  pub calls : List Call
  pub made : Makes gives old calls new
  pub are : Are calls
