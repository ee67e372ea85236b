-- What calls through a fuse leave: one call, then calls in a row.
use Rattle.std.proofs.Common.{ℕ, ◌≡◌, ◌≤◌, ◌<◌, ◌+◌, Bool, true, false, List, [], ◌∷◌, length, Ok, Err, IsErrOf, refl, sym, ap, subst, ◌∙◌, inl, inr, ⊎_elim, arith}
use Rattle.std.proofs.lemmas.Bool.{cases_lt}
use Rattle.model_base.specs.{HasRisen}
use Rattle.model_device.specs.declared.write.Write.{Write}
use Rattle.redo_disk.specs.declared.error.DevError.TheVariants.{Failed, NoMemory}
use Rattle.redo_disk.specs.{Answer, Call, call_changes, changing_calls, device_answer, error_of, failed_calls, failures, Makes, MakesCalls, Reads, Syncs, Writes, Seen}
use Rattle.redo_memdisk.specs.Before.{fused-before}
use Rattle.redo_memdisk.specs.Counted.{CountsCalls, KeepsBehind, Through, after_calls, after_one}
use Rattle.redo_memdisk.specs.Fused.{fails_next, CallsThrough, ReadsThrough, SyncsThrough, WritesThrough}
use Rattle.redo_memdisk.specs.declared.fused.Fused.{Fused}
use Rattle.redo_memdisk.proofs.Counted.{CountsCalls-change, CountsCalls-none, CountsCalls-read, CountsCalls-then}

counts-one : {D : Type 0} (seen : D → Seen) (gives : D → Call → D → Type 0) (old new : Fused D) (call : Call) → CallsThrough seen gives old call new
    → CountsCalls old.fuse 1 (failures (error_of (device_answer call))) (call_changes call) new.fuse
counts-one seen gives old new (Reads at before answer after) through = CountsCalls-read old.fuse new.fuse answer through.failed through.counts
counts-one seen gives old new (Writes write answer) through = CountsCalls-change old.fuse new.fuse answer through.failed through.counts
counts-one seen gives old new (Syncs answer) through = CountsCalls-change old.fuse new.fuse answer through.failed through.counts

after-one : {D : Type 0} (seen : D → Seen) (gives : D → Call → D → Type 0) (old new : Fused D) (call : Call) → CallsThrough seen gives old call new → new.fuse ≡ after_one old.fuse call
after-one seen gives old new (Reads at before answer after) through = through.counts
after-one seen gives old new (Writes write answer) through = through.counts
after-one seen gives old new (Syncs answer) through = through.counts

-- some failures are an answer that the device failed
answer-failed : (answer : Answer) → 0 < failures (error_of answer) → IsErrOf answer Failed
answer-failed (Ok done) some = absurd (omega arith)
answer-failed (Err Failed) some = refl
answer-failed (Err NoMemory) some = absurd (omega arith)

read-behind : {D : Type 0} (seen : D → Seen) (gives : D → Call → D → Type 0) (old new : Fused D) (at : ℕ) (before after : List ℕ) (answer : Answer) (fails : Bool)
    → fails_next old.fuse ≡ fails → ReadsThrough seen gives old at before answer after new → KeepsBehind seen old (failures (error_of answer)) new
read-behind seen gives old new at before after answer true is through = record {
  size = ap (λ device. (seen device).size) (through.same_inner is);
  told = fused-before seen gives old new (Reads at before answer after) through;
  armed = through.same_armed;
  entry = through.same_entry;
  later = omega (arith, ap (λ device. (seen device).faults) (through.same_inner is));
  cause = λ some. inr ((counts-one seen gives old new (Reads at before answer after) through).stays is);
}
read-behind seen gives old new at before after answer false is through = record {
  size = (through.passed_step is).size;
  told = fused-before seen gives old new (Reads at before answer after) through;
  armed = through.same_armed;
  entry = through.same_entry;
  later = (through.passed_step is).cause.later;
  cause = λ some. inl ((through.passed_step is).cause.failed (answer-failed answer some));
}

write-behind : {D : Type 0} (seen : D → Seen) (gives : D → Call → D → Type 0) (old new : Fused D) (write : Write) (answer : Answer) (fails : Bool)
    → fails_next old.fuse ≡ fails → WritesThrough seen gives old write answer new → KeepsBehind seen old (failures (error_of answer)) new
write-behind seen gives old new write answer true is through = record {
  size = ⊎_elim
      (λ later. ap (λ device. (seen device).size) (through.later is later))
      (λ first. (through.first is (omega arith)).2.size)
      (cases_lt 0 old.fuse.own);
  told = fused-before seen gives old new (Writes write answer) through;
  armed = through.same_armed;
  entry = through.same_entry;
  later = ⊎_elim
      (λ later. omega (arith, ap (λ device. (seen device).faults) (through.later is later)))
      (λ first. (through.first is (omega arith)).2.cause.later)
      (cases_lt 0 old.fuse.own);
  cause = λ some. inr ((counts-one seen gives old new (Writes write answer) through).stays is);
}
write-behind seen gives old new write answer false is through = record {
  size = (through.passed_step is).size;
  told = fused-before seen gives old new (Writes write answer) through;
  armed = through.same_armed;
  entry = through.same_entry;
  later = (through.passed_step is).cause.later;
  cause = λ some. inl ((through.passed_step is).cause.failed (answer-failed answer some));
}

sync-behind : {D : Type 0} (seen : D → Seen) (gives : D → Call → D → Type 0) (old new : Fused D) (answer : Answer) (fails : Bool)
    → fails_next old.fuse ≡ fails → SyncsThrough seen gives old answer new → KeepsBehind seen old (failures (error_of answer)) new
sync-behind seen gives old new answer true is through = record {
  size = ap (λ device. (seen device).size) (through.same_inner is);
  told = fused-before seen gives old new (Syncs answer) through;
  armed = through.same_armed;
  entry = through.same_entry;
  later = omega (arith, ap (λ device. (seen device).faults) (through.same_inner is));
  cause = λ some. inr ((counts-one seen gives old new (Syncs answer) through).stays is);
}
sync-behind seen gives old new answer false is through = record {
  size = (through.passed_step is).size;
  told = fused-before seen gives old new (Syncs answer) through;
  armed = through.same_armed;
  entry = through.same_entry;
  later = (through.passed_step is).cause.later;
  cause = λ some. inl ((through.passed_step is).cause.failed (answer-failed answer some));
}

pub behind-one : {D : Type 0} (seen : D → Seen) (gives : D → Call → D → Type 0) (old new : Fused D) (call : Call)
    → CallsThrough seen gives old call new → KeepsBehind seen old (failures (error_of (device_answer call))) new
behind-one seen gives old new (Reads at before answer after) through = read-behind seen gives old new at before after answer (fails_next old.fuse) refl through
behind-one seen gives old new (Writes write answer) through = write-behind seen gives old new write answer (fails_next old.fuse) refl through
behind-one seen gives old new (Syncs answer) through = sync-behind seen gives old new answer (fails_next old.fuse) refl through

-- a count that has risen in a part of a run has risen in all of it
HasRisen-part : (a b c d : ℕ) → a ≤ b → c ≤ d → HasRisen b c → b ≤ c → HasRisen a d
HasRisen-part a b c d front back risen between =
    ⊎_elim (λ rises. inl (omega arith)) (λ stands. ⊎_elim (λ rises. inl rises) (λ same. inr (omega arith)) (cases_lt a d)) risen

-- some calls, and then others
pub KeepsBehind-then : {D : Type 0} (seen : D → Seen) (old middle new : Fused D) (n failed failed' changing : ℕ) → KeepsBehind seen old failed middle
    → CountsCalls middle.fuse n failed' changing new.fuse → KeepsBehind seen middle failed' new → KeepsBehind seen old (failed + failed') new
KeepsBehind-then seen old middle new n failed failed' changing first counts second =
    let first_later = first.later in
    let second_later = second.later in
    record {
      size = second.size ∙ first.size;
      armed = second.armed ∙ first.armed;
      entry = second.entry ∙ first.entry;
      told = λ now. first.told (second.told now);
      later = omega arith;
      cause = λ some.
          ⊎_elim
          (λ early. ⊎_elim
          (λ risen. inl (HasRisen-part _ _ _ _ (omega arith) second_later risen first_later))
          (λ fails. inr (counts.stays fails))
          (first.cause early))
          (λ none. ⊎_elim
          (λ risen. inl (HasRisen-part _ _ _ _ first_later (omega arith) risen second_later))
          (λ fails. inr fails)
          (second.cause (omega arith)))
          (cases_lt 0 failed);
    }

KeepsBehind-none : {D : Type 0} (seen : D → Seen) (old : Fused D) → KeepsBehind seen old 0 old
KeepsBehind-none seen old = record {
  size = refl;
  armed = refl;
  entry = refl;
  told = λ now. now;
  later = omega arith;
  cause = λ some. absurd (omega arith);
}

pub counts-calls : {D : Type 0} (seen : D → Seen) (gives : D → Call → D → Type 0) (old new : Fused D) (calls : List Call) → Makes (CallsThrough seen gives) old calls new
    → CountsCalls old.fuse (length calls) (failed_calls calls) (changing_calls calls) new.fuse
counts-calls {D} seen gives old new [] made = subst (λ (fused : Fused D). CountsCalls old.fuse 0 0 0 fused.fuse) (sym made) (CountsCalls-none old.fuse)
counts-calls seen gives old new (call ∷ calls) made =
    let one = counts-one seen gives old made.0 call made.1.given in
    let rest = counts-calls seen gives made.0 new calls made.2 in
    let n : 1 + length calls ≡ length (call ∷ calls) = omega arith in
    subst (λ count. CountsCalls old.fuse count (failed_calls (call ∷ calls)) (changing_calls (call ∷ calls)) new.fuse) n
    (CountsCalls-then old.fuse made.0.fuse new.fuse 1 (length calls) _ _ _ _ one rest)

pub keeps-behind : {D : Type 0} (seen : D → Seen) (gives : D → Call → D → Type 0) (old new : Fused D) (calls : List Call) → Makes (CallsThrough seen gives) old calls new
    → KeepsBehind seen old (failed_calls calls) new
keeps-behind {D} seen gives old new [] made = subst (λ (fused : Fused D). KeepsBehind seen old 0 fused) (sym made) (KeepsBehind-none seen old)
keeps-behind seen gives old new (call ∷ calls) made =
    KeepsBehind-then seen old made.0 new (length calls) (failures (error_of (device_answer call))) (failed_calls calls) (changing_calls calls)
    (behind-one seen gives old made.0 call made.1.given) (counts-calls seen gives made.0 new calls made.2) (keeps-behind seen gives made.0 new calls made.2)

pub after-calls : {D : Type 0} (seen : D → Seen) (gives : D → Call → D → Type 0) (old new : Fused D) (calls : List Call) → Makes (CallsThrough seen gives) old calls new
    → new.fuse ≡ after_calls old.fuse calls
after-calls {D} seen gives old new [] made = ap (λ (fused : Fused D). fused.fuse) made
after-calls seen gives old new (call ∷ calls) made =
    after-calls seen gives made.0 new calls made.2 ∙ ap (λ fuse. after_calls fuse calls) (after-one seen gives old made.0 call made.1.given)

pub through : {D : Type 0} {seen : D → Seen} {gives : D → Call → D → Type 0} {old new : Fused D} {Are : List Call → Type 0}
    → MakesCalls (CallsThrough seen gives) old new Are → Through seen old new Are
through {seen = seen} {gives = gives} {old = old} {new = new} made = record {
  calls = made.calls;
  are = made.are;
  counts = counts-calls seen gives old new made.calls made.made;
  behind = keeps-behind seen gives old new made.calls made.made;
}
