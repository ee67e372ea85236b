-- What calls were made of a device by code that makes some, and then others.
use Rattle.std.proofs.Common.{List, [], ◌∷◌, ◌++◌, Option, Some, None, Ok, Err, refl, subst}
use Rattle.model_device.specs.declared.write.Write.{Write}
use Rattle.redo_disk.specs.declared.error.DevError.{DevError}
use Rattle.redo_disk.specs.declared.error.DevError.TheVariants.{NoMemory}
use Rattle.redo_disk.specs.Calls.{Answer, Call, Reads, Writes, Syncs, device_answer, error_of, Request, ToSync, request_of, put_requests, EndWith, Serve, Makes, MakesCall, MakesCalls}
use Rattle.redo_disk.specs.ReadCalls.{MayEndWith}
use Rattle.redo_disk.proofs.Calls.{EndWith-append, MayEndWith-ends, MayEndWith-no_memory, Serve-append, Serve-cut}

pub Makes-append : {D : Type 0} (gives : D → Call → D → Type 0) (old middle new : D) (xs ys : List Call) → Makes gives old xs middle → Makes gives middle ys new → Makes gives old (xs ++ ys) new
Makes-append gives old middle new [] ys front back = subst (λ d. Makes gives d ys new) front back
Makes-append gives old middle new (call ∷ xs) ys front back = (front.0, front.1, Makes-append gives front.0 middle new xs ys front.2 back)

-- calls of which less is told
pub weaker_calls : {D : Type 0} {gives : D → Call → D → Type 0} {old new : D} {Are Like : List Call → Type 0} → ((calls : List Call) → Are calls → Like calls)
    → MakesCalls gives old new Are → MakesCalls gives old new Like
weaker_calls weaker made = record { calls = made.calls; made = made.made; are = weaker made.calls made.are }

-- calls, and others after them
pub joined_calls : {D : Type 0} {gives : D → Call → D → Type 0} {old middle new : D} {Front Back Are : List Call → Type 0}
    → ((xs ys : List Call) → Front xs → Back ys → Are (xs ++ ys)) → MakesCalls gives old middle Front → MakesCalls gives middle new Back → MakesCalls gives old new Are
joined_calls {D} {gives} {old} {middle} {new} joins front back = record {
  calls = front.calls ++ back.calls;
  made = Makes-append gives old middle new front.calls back.calls front.made back.made;
  are = joins front.calls back.calls front.are back.are;
}

pub ends_then : {D : Type 0} {gives : D → Call → D → Type 0} {old middle new : D} {error : Option DevError}
    → MakesCalls gives old middle (EndWith None) → MakesCalls gives middle new (EndWith error) → MakesCalls gives old new (EndWith error)
ends_then {error = error} = joined_calls (EndWith-append error)

pub serves_then : {D : Type 0} {gives : D → Call → D → Type 0} {old middle new : D} {first then : List Request} {error : Option DevError}
    → MakesCalls gives old middle (Serve first None) → MakesCalls gives middle new (Serve then error) → MakesCalls gives old new (Serve (first ++ then) error)
serves_then {first = first} {then = then} {error = error} = joined_calls (Serve-append first then error)

pub serves_cut : {D : Type 0} {gives : D → Call → D → Type 0} {old new : D} {first : List Request} {error : DevError} (then : List Request)
    → MakesCalls gives old new (Serve first (Some error)) → MakesCalls gives old new (Serve (first ++ then) (Some error))
serves_cut {first = first} {error = error} then = weaker_calls (Serve-cut first then error)

-- what is told in one way, told in a weaker one
pub may_end : {D : Type 0} {gives : D → Call → D → Type 0} {old new : D} {error : Option DevError}
    → MakesCalls gives old new (EndWith error) → MakesCalls gives old new (MayEndWith error)
may_end {error = error} = weaker_calls (MayEndWith-ends error)

pub serves_end : {D : Type 0} {gives : D → Call → D → Type 0} {old new : D} {requests : List Request} {error : Option DevError}
    → MakesCalls gives old new (Serve requests error) → MakesCalls gives old new (EndWith error)
serves_end = weaker_calls (λ calls serve. serve.ends)

-- memory ran out after the calls
pub out_of_memory : {D : Type 0} {gives : D → Call → D → Type 0} {old new : D} → MakesCalls gives old new (MayEndWith None) → MakesCalls gives old new (MayEndWith (Some NoMemory))
out_of_memory = weaker_calls MayEndWith-no_memory

-- no call
pub no_calls : {D : Type 0} (gives : D → Call → D → Type 0) (device : D) (Are : List Call → Type 0) → Are [] → MakesCalls gives device device Are
no_calls gives device Are are = record { calls = []; made = refl; are = are }

-- one call
pub one_call : {D : Type 0} {gives : D → Call → D → Type 0} {old new : D} {call : Call} (Are : List Call → Type 0) → Are (call ∷ []) → MakesCall gives old call new → MakesCalls gives old new Are
one_call {new = new} {call = call} Are are given = record { calls = call ∷ []; made = (new, given, refl); are = are }

pub EndWith-one : (call : Call) → EndWith (error_of (device_answer call)) (call ∷ [])
EndWith-one call = refl

pub Serve-one : (call : Call) → Serve (request_of call ∷ []) (error_of (device_answer call)) (call ∷ [])
Serve-one call = record { ends = EndWith-one call; rest = []; asked = refl; all = λ none. refl }

pub call_ends : {D : Type 0} {gives : D → Call → D → Type 0} {old new : D} {call : Call} → MakesCall gives old call new → MakesCalls gives old new (EndWith (error_of (device_answer call)))
call_ends {call = call} given = one_call {call = call} (EndWith (error_of (device_answer call))) (EndWith-one call) given

pub call_serves : {D : Type 0} {gives : D → Call → D → Type 0} {old new : D} {call : Call} → MakesCall gives old call new → MakesCalls gives old new (Serve (request_of call ∷ []) (error_of (device_answer call)))
call_serves {call = call} given = one_call {call = call} (Serve (request_of call ∷ []) (error_of (device_answer call))) (Serve-one call) given

-- no call, and no error
pub none_ends : {D : Type 0} (gives : D → Call → D → Type 0) (device : D) → MakesCalls gives device device (EndWith None)
none_ends gives device = no_calls gives device (EndWith None) refl

pub none_may_end : {D : Type 0} (gives : D → Call → D → Type 0) (device : D) → MakesCalls gives device device (MayEndWith None)
none_may_end gives device = may_end (none_ends gives device)

-- a write that failed, after which there is no sync
pub put_cut : {D : Type 0} {gives : D → Call → D → Type 0} {old new : D} {write : Write} {error : DevError}
    → MakesCall gives old (Writes write (Err error)) new → MakesCalls gives old new (Serve (put_requests write) (Some error))
put_cut given = serves_cut (ToSync ∷ []) (call_serves given)

-- a write, and a sync after it
pub put_synced : {D : Type 0} {gives : D → Call → D → Type 0} {old middle new : D} {write : Write} {done : Unit {0}} {answer : Answer}
    → MakesCall gives old (Writes write (Ok done)) middle → MakesCall gives middle (Syncs answer) new → MakesCalls gives old new (Serve (put_requests write) (error_of answer))
put_synced first then = serves_then (call_serves first) (call_serves then)
