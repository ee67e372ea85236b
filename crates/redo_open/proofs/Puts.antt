-- Calls that read nothing.
use Rattle.std.proofs.Common.{◌++◌, List, [], ◌∷◌, map, Option, None, refl, subst}
use Rattle.std.specs.List.{AllByRecursion}
use Rattle.model_device.specs.declared.write.Write.{Write}
use Rattle.redo_disk.specs.{Call, device_answer, error_of, MakesCall, MakesCalls, put_requests, Reads, Request, Serve, Syncs, ToRead, ToSync, ToWrite, Writes}
use Rattle.redo_disk.specs.Calls.{request_of}
use Rattle.redo_disk.specs.declared.error.DevError.{DevError}
use Rattle.redo_disk.proofs.Calls.{EndWith-append}
use Rattle.redo_disk.proofs.Made.{EndWith-one, joined_calls, no_calls, one_call, weaker_calls}
use Rattle.redo_open.specs.Puts.{IsWriteOrSync, PutsWhere}

pub puts-append : (IsSuch : Write → Type 0) (xs ys : List Call) → AllByRecursion (IsWriteOrSync IsSuch) xs → AllByRecursion (IsWriteOrSync IsSuch) ys
    → AllByRecursion (IsWriteOrSync IsSuch) (xs ++ ys)
puts-append IsSuch [] ys front back = back
puts-append IsSuch (call ∷ xs) ys front back = (front.0, puts-append IsSuch xs ys front.1 back)

-- no call
pub put_nothing : {D : Type 0} {IsSuch : Write → Type 0} (gives : D → Call → D → Type 0) (dev : D) → MakesCalls gives dev dev (PutsWhere IsSuch None)
put_nothing {IsSuch = IsSuch} gives dev = no_calls gives dev (PutsWhere IsSuch None) (record { puts = tt; ends = refl })

-- one call
pub put_one : {D : Type 0} {gives : D → Call → D → Type 0} {old new : D} {IsSuch : Write → Type 0} {call : Call} → IsWriteOrSync IsSuch call → MakesCall gives old call new
    → MakesCalls gives old new (PutsWhere IsSuch (error_of (device_answer call)))
put_one {IsSuch = IsSuch} {call = call} is given =
    one_call {call = call} (PutsWhere IsSuch (error_of (device_answer call))) (record { puts = (is, tt); ends = EndWith-one call }) given

-- calls, and others after them
pub puts_then : {D : Type 0} {gives : D → Call → D → Type 0} {old middle new : D} {IsSuch : Write → Type 0} {error : Option DevError}
    → MakesCalls gives old middle (PutsWhere IsSuch None) → MakesCalls gives middle new (PutsWhere IsSuch error) → MakesCalls gives old new (PutsWhere IsSuch error)
puts_then {IsSuch = IsSuch} {error = error} = joined_calls (λ xs ys front back. record {
  puts = puts-append IsSuch xs ys front.puts back.puts;
  ends = EndWith-append error xs ys front.ends back.ends;
})

-- such writes are others too
pub put-weaker : (One Both : Write → Type 0) → ((write : Write) → One write → Both write) → (calls : List Call) → AllByRecursion (IsWriteOrSync One) calls
    → AllByRecursion (IsWriteOrSync Both) calls
put-weaker One Both weaker [] are = tt
put-weaker One Both weaker (Reads at before answer after ∷ calls) are = absurd are.0
put-weaker One Both weaker (Writes write answer ∷ calls) are = (weaker write are.0, put-weaker One Both weaker calls are.1)
put-weaker One Both weaker (Syncs answer ∷ calls) are = (tt, put-weaker One Both weaker calls are.1)

pub put_weaker : {D : Type 0} {gives : D → Call → D → Type 0} {old new : D} {One Both : Write → Type 0} {error : Option DevError} → ((write : Write) → One write → Both write)
    → MakesCalls gives old new (PutsWhere One error) → MakesCalls gives old new (PutsWhere Both error)
put_weaker {One = One} {Both = Both} weaker = weaker_calls (λ calls are. record { puts = put-weaker One Both weaker calls are.puts; ends = are.ends })

-- CALLS THAT WERE ASKED FOR.

abbrev pub IsToPut : (Write → Type 0) → Request → Type 0
IsToPut IsSuch (ToRead at count) = ⊥
IsToPut IsSuch (ToWrite write) = IsSuch write
IsToPut IsSuch ToSync = Unit {0}

asked-puts : (IsSuch : Write → Type 0) (calls : List Call) (rest : List Request) → AllByRecursion (IsToPut IsSuch) (map request_of calls ++ rest)
    → AllByRecursion (IsWriteOrSync IsSuch) calls
asked-puts IsSuch [] rest are = tt
asked-puts IsSuch (Reads at before answer after ∷ calls) rest are = absurd are.0
asked-puts IsSuch (Writes write answer ∷ calls) rest are = (are.0, asked-puts IsSuch calls rest are.1)
asked-puts IsSuch (Syncs answer ∷ calls) rest are = (tt, asked-puts IsSuch calls rest are.1)

serve-puts : (IsSuch : Write → Type 0) (requests : List Request) (error : Option DevError) (calls : List Call) → AllByRecursion (IsToPut IsSuch) requests
    → Serve requests error calls → PutsWhere IsSuch error calls
serve-puts IsSuch requests error calls are serve = record {
  puts = asked-puts IsSuch calls serve.rest (subst (AllByRecursion (IsToPut IsSuch)) serve.asked are);
  ends = serve.ends;
}

pub served : {D : Type 0} {gives : D → Call → D → Type 0} {old new : D} {IsSuch : Write → Type 0} {error : Option DevError} (requests : List Request)
    → AllByRecursion (IsToPut IsSuch) requests → MakesCalls gives old new (Serve requests error) → MakesCalls gives old new (PutsWhere IsSuch error)
served {IsSuch = IsSuch} {error = error} requests are = weaker_calls (λ calls. serve-puts IsSuch requests error calls are)

pub put_served : {D : Type 0} {gives : D → Call → D → Type 0} {old new : D} {IsSuch : Write → Type 0} {error : Option DevError} {write : Write} → IsSuch write
    → MakesCalls gives old new (Serve (put_requests write) error) → MakesCalls gives old new (PutsWhere IsSuch error)
put_served {write = write} is = served (put_requests write) (is, (tt, tt))
