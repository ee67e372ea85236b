-- What is told of calls, over joined lists of them.
use Rattle.std.proofs.Common.{◌≡◌, ◌+◌, ◌⊎◌, List, [], ◌∷◌, ◌++◌, map, Option, Some, None, Ok, Err, refl, sym, ap, ◌∙◌, inl, inr, ⊎_elim, arith, append_assoc}
use Rattle.std.proofs.lemmas.List.{append-nil, map-append}
use Rattle.redo_disk.specs.declared.error.DevError.{DevError}
use Rattle.redo_disk.specs.declared.error.DevError.TheVariants.{NoMemory}
use Rattle.redo_disk.specs.Calls.{Answer, Call, Reads, Writes, Syncs, device_answer, error_of, Request, request_of, EndWith, Serve}
use Rattle.redo_disk.specs.ReadCalls.{AreReads, failures, failed_calls, changing_calls, MayEndWith}

pub failed_calls-append : (xs ys : List Call) → failed_calls (xs ++ ys) ≡ failed_calls xs + failed_calls ys
failed_calls-append [] ys = omega arith
failed_calls-append (call ∷ xs) ys = omega (arith, failed_calls-append xs ys)

pub changing_calls-append : (xs ys : List Call) → changing_calls (xs ++ ys) ≡ changing_calls xs + changing_calls ys
changing_calls-append [] ys = omega arith
changing_calls-append (call ∷ xs) ys = omega (arith, changing_calls-append xs ys)

pub AreReads-append : (xs ys : List Call) → AreReads xs → AreReads ys → AreReads (xs ++ ys)
AreReads-append [] ys front back = back
AreReads-append (call ∷ xs) ys front back = (front.0, AreReads-append xs ys front.1 back)

pub changing_calls-reads : (calls : List Call) → AreReads calls → changing_calls calls ≡ 0
changing_calls-reads [] reads = refl
changing_calls-reads (Reads at before answer after ∷ calls) reads = omega (arith, changing_calls-reads calls reads.1)
changing_calls-reads (Writes write answer ∷ calls) reads = absurd reads.0
changing_calls-reads (Syncs answer ∷ calls) reads = absurd reads.0

pub EndWith-append : (error : Option DevError) (xs ys : List Call) → EndWith None xs → EndWith error ys → EndWith error (xs ++ ys)
EndWith-append error [] ys front back = back
EndWith-append error (call ∷ []) [] front back = front ∙ sym back
EndWith-append error (call ∷ []) (next ∷ ys) front back = (front, back)
EndWith-append error (call ∷ second ∷ xs) ys front back = (front.0, EndWith-append error (second ∷ xs) ys front.1 back)

pub MayEndWith-good : (calls : List Call) → MayEndWith None calls → EndWith None calls
MayEndWith-good calls ends = ⊎_elim (λ same. same) (λ own. own.0) ends

pub MayEndWith-append : (error : Option DevError) (xs ys : List Call) → MayEndWith None xs → MayEndWith error ys → MayEndWith error (xs ++ ys)
MayEndWith-append error xs ys front back =
    let good = MayEndWith-good xs front in
    ⊎_elim (λ told. inl (EndWith-append error xs ys good told)) (λ own. inr (EndWith-append None xs ys good own.0, own.1)) back

pub MayEndWith-ends : (error : Option DevError) (calls : List Call) → EndWith error calls → MayEndWith error calls
MayEndWith-ends error calls ends = inl ends

-- memory ran out after calls that all answered Ok
pub MayEndWith-no_memory : (calls : List Call) → MayEndWith None calls → MayEndWith (Some NoMemory) calls
MayEndWith-no_memory calls ends = inr (MayEndWith-good calls ends, refl)

-- of calls that stop at an error at most one failed
failed_calls-ends : (error : Option DevError) (calls : List Call) → EndWith error calls → failed_calls calls ≡ failures error
failed_calls-ends error [] ends = ap failures (sym ends)
failed_calls-ends error (call ∷ []) ends = omega (arith, ap failures ends)
failed_calls-ends error (call ∷ second ∷ calls) ends =
    let first : failures (error_of (device_answer call)) ≡ 0 = ap failures ends.0 in
    omega (arith, first, failed_calls-ends error (second ∷ calls) ends.1)

pub failed_calls-may_end : (error : Option DevError) (calls : List Call) → MayEndWith error calls → failed_calls calls ≡ failures error
failed_calls-may_end error calls ends =
    ⊎_elim (failed_calls-ends error calls) (λ own. failed_calls-ends None calls own.0 ∙ sym (ap failures own.1)) ends

pub Serve-append : (first then : List Request) (error : Option DevError) (xs ys : List Call) → Serve first None xs → Serve then error ys
    → Serve (first ++ then) error (xs ++ ys)
Serve-append first then error xs ys front back =
    let front_is : first ≡ map request_of xs = front.asked ∙ ap (λ rest. map request_of xs ++ rest) (front.all refl) ∙ append-nil (map request_of xs) in
    record {
      ends = EndWith-append error xs ys front.ends back.ends;
      rest = back.rest;
      asked = ap (λ l. l ++ then) front_is ∙ ap (λ l. map request_of xs ++ l) back.asked
          ∙ sym (append_assoc (map request_of xs) (map request_of ys) back.rest)
          ∙ ap (λ l. l ++ back.rest) (sym (map-append request_of xs ys));
      all = back.all;
    }

-- after an error nothing more is asked for
pub Serve-cut : (first then : List Request) (error : DevError) (calls : List Call) → Serve first (Some error) calls → Serve (first ++ then) (Some error) calls
Serve-cut first then error calls front = record {
  ends = front.ends;
  rest = front.rest ++ then;
  asked = ap (λ l. l ++ then) front.asked ∙ append_assoc (map request_of calls) front.rest then;
  all = λ none. cc;
}
