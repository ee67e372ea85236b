-- A device behind its fuse, from one stage to the next.
use Rattle.std.proofs.Common.{ℕ, ◌≡◌, ◌≤◌, true, List, [], ◌∷◌, length, Option, Some, None, IfSome, IsTrue, refl, sym, ap, subst, ◌∙◌, inl, inr, ⊎_elim, arith}
use Rattle.std.proofs.lemmas.Bool.{false≢true}
use Rattle.std.specs.Option.{option_and_then}
use Rattle.model_base.specs.{HasRisen}
use Rattle.redo_io.specs.{next_count_if, saturating_next}
use Rattle.redo_disk.specs.{Call, changing_calls, failed_calls, failures, Makes, MakesCalls, MayEndWith, Reads, ReadsMayEndWith, Syncs, Writes, Seen}
use Rattle.redo_disk.specs.declared.error.DevError.{DevError}
use Rattle.redo_disk.specs.declared.error.DevError.TheVariants.{Failed, NoMemory}
use Rattle.redo_disk.proofs.Calls.{changing_calls-reads, failed_calls-may_end}
use Rattle.redo_memdisk.proofs.Behind.{after-calls, counts-calls, keeps-behind}
use Rattle.redo_memdisk.specs.{after_calls, after_crash, armed, armed_at, armed_from, before_arming, CallsThrough, counted, crashed_with, CrashesThrough, fails_next, fresh, fuse_of, has_passed_all, inner_of, is_failed, while_stopping}
use Rattle.redo_memdisk.specs.declared.fuse.Fuse.{Fuse}
use Rattle.redo_memdisk.specs.declared.fuse.Stage.{Stage}
use Rattle.redo_memdisk.specs.declared.fuse.Stage.TheVariants.{Before, Stopping, Crashed}
use Rattle.redo_memdisk.specs.declared.fused.Fused.{Fused}
use Rattle.redo_lab.proofs.Printed.{risen-later}
use Rattle.redo_lab.proofs.Told.{where-back}
use Rattle.redo_lab.specs.Call.{guarded}
use Rattle.redo_lab.specs.Devices.{IsArmed, IsSame, IsUnarmed}

-- a device just put behind a fuse
pub unarmed-fresh : {D : Type 0} (seen : D → Seen) (device : D) (fused : Fused D) → inner_of fused ≡ device → fuse_of fused ≡ fresh
    → IsUnarmed 0 (guarded seen device fused)
unarmed-fresh seen device fused inner fuse = record {
  same = record {
    size = ap (λ d. (seen d).size) inner;
    later = omega (arith, ap (λ d. (seen d).faults) inner);
    tells = λ tells none. tells (ap (λ d. (seen d).tells) inner ∙ none);
  };
  stage = ap (λ (fuse : Fuse). fuse.stage) fuse;
  passed = ap (λ (fuse : Fuse). fuse.passed) fuse;
  early = ap (λ (fuse : Fuse). fuse.early) fuse;
  mid = ap (λ (fuse : Fuse). fuse.mid) fuse;
  late = ap (λ (fuse : Fuse). fuse.late) fuse;
  late_changes = ap (λ (fuse : Fuse). fuse.late_changes) fuse;
  risen = λ some. absurd (omega arith);
}

-- before it is armed a fuse counts no call as passed
abbrev before : Fuse → Fuse
before fuse = record fuse { stage = Before }

passed-before : (calls : List Call) (fuse : Fuse) → (after_calls (before fuse) calls).passed ≡ fuse.passed
passed-before [] fuse = refl
passed-before (Reads at old answer new ∷ calls) fuse =
    passed-before calls (record fuse { early_calls = saturating_next fuse.early_calls; early = next_count_if (is_failed answer) fuse.early })
passed-before (Writes write answer ∷ calls) fuse =
    passed-before calls (record fuse { changes = saturating_next fuse.changes; early_calls = saturating_next fuse.early_calls; early = next_count_if (is_failed answer) fuse.early })
passed-before (Syncs answer ∷ calls) fuse =
    passed-before calls (record fuse { changes = saturating_next fuse.changes; early_calls = saturating_next fuse.early_calls; early = next_count_if (is_failed answer) fuse.early })

passed-unarmed : (calls : List Call) (fuse : Fuse) → fuse.stage ≡ Before → (after_calls fuse calls).passed ≡ fuse.passed
passed-unarmed calls fuse is = ap (λ stage. (after_calls (record fuse { stage = stage }) calls).passed) is ∙ passed-before calls fuse

-- one failure at the most is counted as what it is
counted-failures : (error : Option DevError) → counted (failures error) 0 ≡ failures error
counted-failures None = refl
counted-failures (Some Failed) = refl
counted-failures (Some NoMemory) = refl

unarmed-passes : (fuse : Fuse) → fuse.stage ≡ Before → IsTrue (fails_next fuse) → ⊥
unarmed-passes fuse is fails = false≢true (sym (ap (λ stage. has_passed_all stage fuse.limit fuse.passed) is) ∙ fails)

none-passed : (limit : Option ℕ) (passed : ℕ) → passed ≡ 0 → IfSome limit (λ limit. passed ≤ limit)
none-passed None passed none = tt
none-passed (Some limit) passed none = omega arith

still-within : (limit old_limit : Option ℕ) (old new : ℕ) → old_limit ≡ limit → IfSome old_limit (λ limit. old ≤ limit → new ≤ limit)
    → IfSome limit (λ limit. old ≤ limit) → IfSome limit (λ limit. new ≤ limit)
still-within None old_limit old new same keeps within = tt
still-within (Some limit) old_limit old new same keeps within =
    subst (λ (found : Option ℕ). IfSome found (λ limit. old ≤ limit → new ≤ limit)) same keeps within

-- a fuse that fails the next call has passed on as many as it was to
has-passed : (limit : Option ℕ) (stage : Stage) (found : Option ℕ) (passed : ℕ) → stage ≡ Stopping → found ≡ limit
    → IsTrue (has_passed_all stage found passed) → IsTrue (has_passed_all Stopping limit passed)
has-passed limit stage found passed is same fails =
    sym (ap (λ stage. has_passed_all stage found passed) is ∙ ap (λ found. has_passed_all Stopping found passed) same) ∙ fails

risen-more : (a b c : ℕ) → b ≤ c → HasRisen a b → HasRisen a c
risen-more a b c later risen = ⊎_elim (λ more. inl (omega arith)) (λ last. inr last) risen

crashed-passes : (fuse : Fuse) → fuse.stage ≡ Crashed → IsTrue (fails_next fuse) → ⊥
crashed-passes fuse is fails = false≢true (sym (ap (λ stage. has_passed_all stage fuse.limit fuse.passed) is) ∙ fails)

-- after the crash a fuse counts no call as passed
abbrev crashed : Fuse → Fuse
crashed fuse = record fuse { stage = Crashed }

passed-behind : (calls : List Call) (fuse : Fuse) → (after_calls (crashed fuse) calls).passed ≡ fuse.passed
passed-behind [] fuse = refl
passed-behind (Reads at old answer new ∷ calls) fuse = passed-behind calls (record fuse { late = next_count_if (is_failed answer) fuse.late })
passed-behind (Writes write answer ∷ calls) fuse =
    passed-behind calls (record fuse { changes = saturating_next fuse.changes; late_changes = saturating_next fuse.late_changes; late = next_count_if (is_failed answer) fuse.late })
passed-behind (Syncs answer ∷ calls) fuse =
    passed-behind calls (record fuse { changes = saturating_next fuse.changes; late_changes = saturating_next fuse.late_changes; late = next_count_if (is_failed answer) fuse.late })

pub after-crashed : {D : Type 0} (seen : D → Seen) (gives : D → Call → D → Type 0) (old new : Fused D) (calls : List Call) → old.fuse.stage ≡ Crashed
    → Makes (CallsThrough seen gives) old calls new → new.fuse.passed ≡ old.fuse.passed
after-crashed seen gives old new calls is made =
    ap (λ (fuse : Fuse). fuse.passed) (after-calls seen gives old new calls made)
    ∙ ap (λ stage. (after_calls (record old.fuse { stage = stage }) calls).passed) is ∙ passed-behind calls old.fuse

pub armed-kept : {D : Type 0} (seen : D → Seen) (old new : Fused D) → armed_at new ≡ armed_at old → armed_from seen new ≡ armed_from seen old
armed-kept seen old new same = ap (option_and_then (λ device. (seen device).tells)) same

-- what calls through the fuse leave of the device
same-calls : {D : Type 0} (seen : D → Seen) (gives : D → Call → D → Type 0) (device : D) (old new : Fused D) (calls : List Call)
    → IsSame (guarded seen device old) → Makes (CallsThrough seen gives) old calls new → IsSame (guarded seen device new)
same-calls seen gives device old new calls same made =
    let kept = keeps-behind seen gives old new calls made in
    record {
      size = kept.size ∙ same.size;
      later = omega (arith, kept.later, same.later);
      tells = λ told. same.tells (kept.told told);
    }

-- THE ARMING.
pub armed-now : {D : Type 0} (seen : D → Seen) (device : D) (old new : Fused D) (limit : Option ℕ) → IsUnarmed 0 (guarded seen device old) → inner_of new ≡ inner_of old → fuse_of new ≡ armed limit (fuse_of old)
    → armed_from seen new ≡ (seen (inner_of old)).tells → IsArmed limit Stopping 0 (guarded seen device new)
armed-now seen device old new limit was inner fuse found = record {
  same = record {
    size = ap (λ d. (seen d).size) inner ∙ was.same.size;
    later = omega (arith, ap (λ d. (seen d).faults) inner, was.same.later);
    tells = λ told. was.same.tells (λ gone. told (ap (λ d. (seen d).tells) inner ∙ gone));
  };
  stage_is = ap (λ (fuse : Fuse). fuse.stage) fuse;
  limit_is = ap (λ (fuse : Fuse). fuse.limit) fuse;
  within = none-passed limit new.fuse.passed (ap (λ (fuse : Fuse). fuse.passed) fuse ∙ was.passed);
  early = ap (λ (fuse : Fuse). fuse.early) fuse ∙ was.early;
  late = ap (λ (fuse : Fuse). fuse.late) fuse ∙ was.late;
  late_changes = ap (λ (fuse : Fuse). fuse.late_changes) fuse ∙ was.late_changes;
  cause = λ some. absurd (omega (arith, ap (λ (fuse : Fuse). fuse.mid) fuse, was.mid));
  risen = λ some. absurd (omega arith);
  told = λ told none. told (ap (λ d. (seen d).tells) inner ∙ sym found ∙ none);
}

-- what such calls leave of the calls before
pub early-kept : {D : Type 0} {seen : D → Seen} {gives : D → Call → D → Type 0} {old new : Fused D} {Are : List Call → Type 0} → old.fuse.stage ≡ Stopping → MakesCalls (CallsThrough seen gives) old new Are → new.fuse.early_calls ≡ old.fuse.early_calls
early-kept {seen = seen} {gives = gives} {old = old} {new = new} stage made =
    let counts = counts-calls seen gives old new made.calls made.made in
    counts.early_calls ∙ ap (λ stage. counted (before_arming stage (length made.calls)) old.fuse.early_calls) stage

module _ {D : Type 0} {seen : D → Seen} {gives : D → Call → D → Type 0} {device : D} {old new : Fused D} where
  -- CALLS BEFORE THE FUSE IS ARMED.
  pub unarmed-calls : {error : Option DevError} → IsUnarmed 0 (guarded seen device old) → MakesCalls (CallsThrough seen gives) old new (MayEndWith error)
      → IsUnarmed (failures error) (guarded seen device new)
  unarmed-calls {error = error} was made =
      let counts = counts-calls seen gives old new made.calls made.made in
      let kept = keeps-behind seen gives old new made.calls made.made in
      let failed = failed_calls-may_end error made.calls made.are in
      record {
        same = same-calls seen gives device old new made.calls was.same made.made;
        stage = counts.stage ∙ was.stage;
        passed = ap (λ (fuse : Fuse). fuse.passed) (after-calls seen gives old new made.calls made.made)
            ∙ passed-unarmed made.calls old.fuse was.stage ∙ was.passed;
        early = counts.early ∙ ap (λ stage. counted (before_arming stage (failed_calls made.calls)) old.fuse.early) was.stage
            ∙ ap (λ n. counted n old.fuse.early) failed ∙ ap (counted (failures error)) was.early ∙ counted-failures error;
        mid = counts.mid ∙ ap (λ stage. counted (while_stopping stage (failed_calls made.calls)) old.fuse.mid) was.stage ∙ was.mid;
        late = counts.late ∙ ap (λ stage. counted (after_crash stage (failed_calls made.calls)) old.fuse.late) was.stage ∙ was.late;
        late_changes = counts.late_changes
            ∙ ap (λ stage. counted (after_crash stage (changing_calls made.calls)) old.fuse.late_changes) was.stage ∙ was.late_changes;
        risen = λ some. ⊎_elim
            (λ risen. risen-later (seen device).faults (seen old.inner).faults (seen new.inner).faults was.same.later kept.later risen)
            (λ fails. absurd (unarmed-passes new.fuse (counts.stage ∙ was.stage) fails))
            (kept.cause (omega (arith, failed)));
      }

  -- CALLS FROM THEN TO THE CRASH: so many failed.
  pub armed-calls : {limit : Option ℕ} {error : Option DevError} → IsArmed limit Stopping 0 (guarded seen device old) → old.fuse.mid ≡ 0
      → MakesCalls (CallsThrough seen gives) old new (MayEndWith error)
      → IsArmed limit Stopping 0 (guarded seen device new) × (new.fuse.mid ≡ failures error)
  armed-calls {limit = limit} {error = error} was none made =
      let counts = counts-calls seen gives old new made.calls made.made in
      let kept = keeps-behind seen gives old new made.calls made.made in
      let failed = failed_calls-may_end error made.calls made.are in
      let mid : new.fuse.mid ≡ failures error =
      counts.mid ∙ ap (λ stage. counted (while_stopping stage (failed_calls made.calls)) old.fuse.mid) was.stage_is
      ∙ ap (λ n. counted n old.fuse.mid) failed ∙ ap (counted (failures error)) none ∙ counted-failures error in (
        record {
          same = same-calls seen gives device old new made.calls was.same made.made;
          stage_is = counts.stage ∙ was.stage_is;
          limit_is = counts.limit ∙ was.limit_is;
          within = still-within limit old.fuse.limit old.fuse.passed new.fuse.passed was.limit_is counts.within was.within;
          early = counts.early ∙ ap (λ stage. counted (before_arming stage (failed_calls made.calls)) old.fuse.early) was.stage_is ∙ was.early;
          late = counts.late ∙ ap (λ stage. counted (after_crash stage (failed_calls made.calls)) old.fuse.late) was.stage_is ∙ was.late;
          late_changes = counts.late_changes
              ∙ ap (λ stage. counted (after_crash stage (changing_calls made.calls)) old.fuse.late_changes) was.stage_is ∙ was.late_changes;
          cause = λ some. ⊎_elim
              (λ risen. inl (risen-later (seen device).faults (seen old.inner).faults (seen new.inner).faults was.same.later kept.later risen))
              (λ fails. inr (has-passed limit new.fuse.stage new.fuse.limit new.fuse.passed (counts.stage ∙ was.stage_is) (counts.limit ∙ was.limit_is) fails))
              (kept.cause (omega (arith, failed, mid)));
          risen = λ some. absurd (omega arith);
          told = λ told none. was.told (kept.told told) (sym (armed-kept seen old new kept.armed) ∙ none);
        },
        mid,
      )

  -- READS AFTER THE CRASH.
  pub crashed-reads : {limit : Option ℕ} {error : Option DevError} → IsArmed limit Crashed 0 (guarded seen device old)
      → MakesCalls (CallsThrough seen gives) old new (ReadsMayEndWith error) → IsArmed limit Crashed (failures error) (guarded seen device new)
  crashed-reads {limit = limit} {error = error} was made =
      let stage = was.stage_is in
      let counts = counts-calls seen gives old new made.calls made.made in
      let kept = keeps-behind seen gives old new made.calls made.made in
      let failed = failed_calls-may_end error made.calls made.are.ends in
      let none = changing_calls-reads made.calls made.are.reads in
      let mid : new.fuse.mid ≡ old.fuse.mid = counts.mid ∙ ap (λ stage. counted (while_stopping stage (failed_calls made.calls)) old.fuse.mid) stage in
      record {
        same = same-calls seen gives device old new made.calls was.same made.made;
        stage_is = counts.stage ∙ stage;
        limit_is = counts.limit ∙ was.limit_is;
        within = still-within limit old.fuse.limit old.fuse.passed new.fuse.passed was.limit_is counts.within was.within;
        early = counts.early ∙ ap (λ stage. counted (before_arming stage (failed_calls made.calls)) old.fuse.early) stage ∙ was.early;
        late = counts.late ∙ ap (λ stage. counted (after_crash stage (failed_calls made.calls)) old.fuse.late) stage
            ∙ ap (λ n. counted n old.fuse.late) failed ∙ ap (counted (failures error)) was.late ∙ counted-failures error;
        late_changes = counts.late_changes
            ∙ ap (λ stage. counted (after_crash stage (changing_calls made.calls)) old.fuse.late_changes) stage
            ∙ ap (λ n. counted n old.fuse.late_changes) none ∙ was.late_changes;
        cause = λ some. ⊎_elim
            (λ risen. inl (risen-more (seen device).faults _ _ kept.later risen))
            (λ passed. inr (subst (λ (n : ℕ). IsTrue (has_passed_all Stopping limit n)) (sym (after-crashed seen gives old new made.calls stage made.made)) passed))
            (was.cause (omega (arith, mid, some)));
        risen = λ some. ⊎_elim
            (λ risen. risen-later (seen device).faults (seen old.inner).faults (seen new.inner).faults was.same.later kept.later risen)
            (λ fails. absurd (crashed-passes new.fuse (counts.stage ∙ stage) fails))
            (kept.cause (omega (arith, failed)));
        told = λ told none. was.told (kept.told told) (sym (armed-kept seen old new kept.armed) ∙ none);
      }

-- THE CRASH.
pub crashed-now : {D : Type 0} {seen : D → Seen} {crash_gives : D → ℕ → D → Type 0} {device : D} {old new : Fused D} {limit : Option ℕ} {pick : ℕ}
    → IsArmed limit Stopping 0 (guarded seen device old)
    → CrashesThrough seen crash_gives old pick new → IsArmed limit Crashed 0 (guarded seen device new)
crashed-now {seen = seen} {device = device} {old = old} {new = new} {limit = limit} {pick = pick} was crash =
    let notes = crash.notes ∙ ap (λ stage. crashed_with pick (record old.fuse { stage = stage })) was.stage_is in
    let passed : new.fuse.passed ≡ old.fuse.passed = ap (λ (fuse : Fuse). fuse.passed) notes in
    record {
      same = record {
        size = crash.passed_step.size ∙ was.same.size;
        later = omega (arith, crash.passed_step.later, was.same.later);
        tells = λ told. was.same.tells (where-back _ _ _ crash.passed_step.left told);
      };
      stage_is = ap (λ (fuse : Fuse). fuse.stage) notes;
      limit_is = ap (λ (fuse : Fuse). fuse.limit) notes ∙ was.limit_is;
      within = subst (λ passed. IfSome limit (λ limit. passed ≤ limit)) (sym passed) was.within;
      early = ap (λ (fuse : Fuse). fuse.early) notes ∙ was.early;
      late = ap (λ (fuse : Fuse). fuse.late) notes ∙ was.late;
      late_changes = ap (λ (fuse : Fuse). fuse.late_changes) notes ∙ was.late_changes;
      cause = λ some. ⊎_elim
          (λ risen. inl (risen-more (seen device).faults _ _ crash.passed_step.later risen))
          (λ all. inr (subst (λ (n : ℕ). IsTrue (has_passed_all Stopping limit n)) (sym passed) all))
          (was.cause (omega (arith, ap (λ (fuse : Fuse). fuse.mid) notes, some)));
      risen = λ some. absurd (omega arith);
      told = λ told none. was.told (where-back _ _ _ crash.passed_step.left told) (sym (armed-kept seen old new crash.same_armed) ∙ none);
    }
