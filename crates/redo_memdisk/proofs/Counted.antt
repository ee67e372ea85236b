-- What a fuse counts, one call and then the others.
use Rattle.std.proofs.Common.{ℕ, zero, suc, ◌≡◌, ◌≤◌, ◌<◌, ◌+◌, Bool, true, false, if◌then◌else◌, Option, Some, None, Ok, Err, IfSome, refl, sym, ap, subst, ◌∙◌, ⊎_elim, arith, zero-add}
use Rattle.std.proofs.lemmas.Bool.{cases_lt, false≢true}
use Rattle.redo_io.specs.{saturating_next}
use Rattle.redo_disk.specs.declared.error.DevError.TheVariants.{Failed, NoMemory}
use Rattle.redo_disk.specs.{Answer, error_of, failures}
use Rattle.redo_memdisk.specs.Counted.{CountsCalls, counted, before_arming, while_stopping, after_crash}
use Rattle.redo_memdisk.specs.Fused.{after_call, after_change, after_own, after_passed, fails_next, has_passed_all, is_failed, with_change}
use Rattle.redo_memdisk.specs.declared.fuse.Fuse.{Fuse}
use Rattle.redo_memdisk.specs.declared.fuse.Stage.{Stage}
use Rattle.redo_memdisk.specs.declared.fuse.Stage.TheVariants.{Before, Stopping, Crashed}
use borrow.Author.Tests.{leb-false}

abbrev pub one_if : Bool → ℕ
one_if true = 1
one_if false = 0

pub failures-answer : (answer : Answer) → failures (error_of answer) ≡ one_if (is_failed answer)
failures-answer (Ok done) = refl
failures-answer (Err Failed) = refl
failures-answer (Err NoMemory) = refl

counted-more : (m n count : ℕ) → counted (m + n) count ≡ counted n (counted m count)
counted-more zero n count = ap (λ k. counted k count) (zero-add n)
counted-more (suc m) n count =
    let one_out : suc m + n ≡ suc (m + n) = omega arith in
    ap (λ k. counted k count) one_out ∙ counted-more m n (saturating_next count)

counted-positive : (n count : ℕ) → 0 < count → 0 < counted n count
counted-positive zero count some = some
counted-positive (suc n) count some = counted-positive n (saturating_next count) (omega arith)

abbrev at_stage : Stage → Fuse → Fuse
at_stage stage fuse = record fuse { stage = stage }

-- the fuse after so many changes are noted
abbrev noted : Stage → ℕ → Fuse → Fuse
noted stage changing fuse =
    record fuse { late_changes = counted (after_crash stage changing) fuse.late_changes; changes = counted changing fuse.changes }

keeps-within : (limit : Option ℕ) (passed : ℕ) → IfSome limit (λ most. passed ≤ most → passed ≤ most)
keeps-within None passed = tt
keeps-within (Some most) passed = λ within. within

passes-within : (limit : Option ℕ) (passed : ℕ) → has_passed_all Stopping limit passed ≡ false → IfSome limit (λ most. passed ≤ most → saturating_next passed ≤ most)
passes-within None passed passes = tt
passes-within (Some most) passed passes = λ within. let below : passed < most = leb-false most passed passes in omega arith

passed-counts : (stage : Stage) (fuse : Fuse) (failed : Bool) (changing : ℕ) → fails_next (at_stage stage fuse) ≡ false
    → CountsCalls (at_stage stage fuse) 1 (one_if failed) changing (after_passed stage (noted stage changing (at_stage stage fuse)) failed)
passed-counts Before fuse true changing passes = record { stage = refl; limit = refl; pick = refl; early_calls = refl; early = refl; mid = refl; late = refl; late_changes = refl; changes = refl; within = keeps-within fuse.limit fuse.passed; passed = λ some. some; stays = λ fails. fails; own = λ none. refl; some = λ some. absurd (omega arith) }
passed-counts Before fuse false changing passes = record { stage = refl; limit = refl; pick = refl; early_calls = refl; early = refl; mid = refl; late = refl; late_changes = refl; changes = refl; within = keeps-within fuse.limit fuse.passed; passed = λ some. some; stays = λ fails. fails; own = λ none. refl; some = λ some. absurd (omega arith) }
passed-counts Stopping fuse true changing passes = record { stage = refl; limit = refl; pick = refl; early_calls = refl; early = refl; mid = refl; late = refl; late_changes = refl; changes = refl; within = passes-within fuse.limit fuse.passed passes; passed = λ some. omega arith; stays = λ fails. absurd (false≢true (sym passes ∙ fails)); own = λ none. refl; some = λ some. omega arith }
passed-counts Stopping fuse false changing passes = record { stage = refl; limit = refl; pick = refl; early_calls = refl; early = refl; mid = refl; late = refl; late_changes = refl; changes = refl; within = passes-within fuse.limit fuse.passed passes; passed = λ some. omega arith; stays = λ fails. absurd (false≢true (sym passes ∙ fails)); own = λ none. refl; some = λ some. omega arith }
passed-counts Crashed fuse true changing passes = record { stage = refl; limit = refl; pick = refl; early_calls = refl; early = refl; mid = refl; late = refl; late_changes = refl; changes = refl; within = keeps-within fuse.limit fuse.passed; passed = λ some. some; stays = λ fails. fails; own = λ none. refl; some = λ some. absurd (omega arith) }
passed-counts Crashed fuse false changing passes = record { stage = refl; limit = refl; pick = refl; early_calls = refl; early = refl; mid = refl; late = refl; late_changes = refl; changes = refl; within = keeps-within fuse.limit fuse.passed; passed = λ some. some; stays = λ fails. fails; own = λ none. refl; some = λ some. absurd (omega arith) }

own-counts : (stage : Stage) (fuse : Fuse) (changing : ℕ) → fails_next (at_stage stage fuse) ≡ true
    → CountsCalls (at_stage stage fuse) 1 1 changing (after_own (noted stage changing (at_stage stage fuse)))
own-counts Before fuse changing fails = absurd (false≢true fails)
own-counts Stopping fuse changing fails = record { stage = refl; limit = refl; pick = refl; early_calls = refl; early = refl; mid = refl; late = refl; late_changes = refl; changes = refl; within = keeps-within fuse.limit fuse.passed; passed = λ some. some; stays = λ fails. fails; own = λ none. absurd (none fails); some = λ some. omega arith }
own-counts Crashed fuse changing fails = absurd (false≢true fails)

call-by : (stage : Stage) (fuse : Fuse) (failed : Bool) (changing : ℕ) (fails : Bool) → fails_next (at_stage stage fuse) ≡ fails → (fails ≡ true → failed ≡ true)
    → CountsCalls (at_stage stage fuse) 1 (one_if failed) changing
    (if fails then after_own (noted stage changing (at_stage stage fuse)) else after_passed stage (noted stage changing (at_stage stage fuse)) failed)
call-by stage fuse failed changing true is failing = rw (failing refl) (own-counts stage fuse changing is)
call-by stage fuse failed changing false is failing = passed-counts stage fuse failed changing is

call-counts : (fuse : Fuse) (failed : Bool) (changing : ℕ) → (fails_next fuse ≡ true → failed ≡ true)
    → CountsCalls fuse 1 (one_if failed) changing (after_call (noted fuse.stage changing fuse) failed)
call-counts fuse failed changing failing = call-by fuse.stage fuse failed changing (fails_next fuse) refl failing

noted-none : (stage : Stage) (fuse : Fuse) → noted stage 0 fuse ≡ fuse
noted-none Before fuse = refl
noted-none Stopping fuse = refl
noted-none Crashed fuse = refl

noted-one : (stage : Stage) (fuse : Fuse) → noted stage 1 fuse ≡ with_change stage fuse
noted-one Before fuse = refl
noted-one Stopping fuse = refl
noted-one Crashed fuse = refl

-- a read
pub CountsCalls-read : (fuse new : Fuse) (answer : Answer) → (fails_next fuse ≡ true → answer ≡ Err Failed) → new ≡ after_call fuse (is_failed answer)
    → CountsCalls fuse 1 (failures (error_of answer)) 0 new
CountsCalls-read fuse new answer failing is =
    let counts = call-counts fuse (is_failed answer) 0 (λ fails. ap is_failed (failing fails)) in
    rw (is, failures-answer answer) (subst (λ f. CountsCalls fuse 1 (one_if (is_failed answer)) 0 (after_call f (is_failed answer))) (noted-none fuse.stage fuse) counts)

-- a write or a sync
pub CountsCalls-change : (fuse new : Fuse) (answer : Answer) → (fails_next fuse ≡ true → answer ≡ Err Failed) → new ≡ after_change fuse (is_failed answer)
    → CountsCalls fuse 1 (failures (error_of answer)) 1 new
CountsCalls-change fuse new answer failing is =
    let counts = call-counts fuse (is_failed answer) 1 (λ fails. ap is_failed (failing fails)) in
    rw (is, failures-answer answer) (subst (λ f. CountsCalls fuse 1 (one_if (is_failed answer)) 1 (after_call f (is_failed answer))) (noted-one fuse.stage fuse) counts)

none-at : (stage : Stage) (fuse : Fuse) → CountsCalls (at_stage stage fuse) 0 0 0 (at_stage stage fuse)
none-at Before fuse = record { stage = refl; limit = refl; pick = refl; early_calls = refl; early = refl; mid = refl; late = refl; late_changes = refl; changes = refl; within = keeps-within fuse.limit fuse.passed; passed = λ some. some; stays = λ fails. fails; own = λ none. refl; some = λ some. absurd (omega arith) }
none-at Stopping fuse = record { stage = refl; limit = refl; pick = refl; early_calls = refl; early = refl; mid = refl; late = refl; late_changes = refl; changes = refl; within = keeps-within fuse.limit fuse.passed; passed = λ some. some; stays = λ fails. fails; own = λ none. refl; some = λ some. absurd (omega arith) }
none-at Crashed fuse = record { stage = refl; limit = refl; pick = refl; early_calls = refl; early = refl; mid = refl; late = refl; late_changes = refl; changes = refl; within = keeps-within fuse.limit fuse.passed; passed = λ some. some; stays = λ fails. fails; own = λ none. refl; some = λ some. absurd (omega arith) }

-- no call
pub CountsCalls-none : (fuse : Fuse) → CountsCalls fuse 0 0 0 fuse
CountsCalls-none fuse = none-at fuse.stage fuse

before_arming-sum : (stage : Stage) (m n : ℕ) → before_arming stage (m + n) ≡ before_arming stage m + before_arming stage n
before_arming-sum Before m n = refl
before_arming-sum Stopping m n = omega arith
before_arming-sum Crashed m n = omega arith

while_stopping-sum : (stage : Stage) (m n : ℕ) → while_stopping stage (m + n) ≡ while_stopping stage m + while_stopping stage n
while_stopping-sum Before m n = omega arith
while_stopping-sum Stopping m n = refl
while_stopping-sum Crashed m n = omega arith

after_crash-sum : (stage : Stage) (m n : ℕ) → after_crash stage (m + n) ≡ after_crash stage m + after_crash stage n
after_crash-sum Before m n = omega arith
after_crash-sum Stopping m n = omega arith
after_crash-sum Crashed m n = refl

-- a count goes on by m, and then by n
goes-on : (part : Stage → ℕ → ℕ) → ((stage : Stage) (m n : ℕ) → part stage (m + n) ≡ part stage m + part stage n)
    → (stage stage' : Stage) (m n count count' count'' : ℕ) → stage' ≡ stage → count' ≡ counted (part stage m) count → count'' ≡ counted (part stage' n) count'
    → count'' ≡ counted (part stage (m + n)) count
goes-on part sum stage stage' m n count count' count'' same first second =
    second ∙ ap (λ s. counted (part s n) count') same ∙ ap (counted (part stage n)) first
    ∙ sym (counted-more (part stage m) (part stage n) count) ∙ ap (λ k. counted k count) (sym (sum stage m n))

within-then : (limit : Option ℕ) (a b c : ℕ) → IfSome limit (λ most. a ≤ most → b ≤ most) → IfSome limit (λ most. b ≤ most → c ≤ most) → IfSome limit (λ most. a ≤ most → c ≤ most)
within-then None a b c first second = tt
within-then (Some most) a b c first second = λ within. second (first within)

-- of a call that was passed on or failed, it stays so
some-stays : (middle new : Fuse) (n failed changing : ℕ) → CountsCalls middle n failed changing new → 0 < middle.passed + middle.mid → 0 < new.passed + new.mid
some-stays middle new n failed changing counts some =
    ⊎_elim
    (λ passed. let stays = counts.passed passed in omega arith)
    (λ none. let failed_some : 0 < new.mid = rw counts.mid (counted-positive (while_stopping middle.stage failed) middle.mid (omega arith)) in omega arith)
    (cases_lt 0 middle.passed)

-- some calls, and then others
pub CountsCalls-then : (old middle new : Fuse) (m n failed failed' changing changing' : ℕ) → CountsCalls old m failed changing middle → CountsCalls middle n failed' changing' new
    → CountsCalls old (m + n) (failed + failed') (changing + changing') new
CountsCalls-then old middle new m n failed failed' changing changing' first second = record {
  stage = second.stage ∙ first.stage;
  limit = second.limit ∙ first.limit;
  pick = second.pick ∙ first.pick;
  early_calls = goes-on before_arming before_arming-sum _ _ m n _ _ _ first.stage first.early_calls second.early_calls;
  early = goes-on before_arming before_arming-sum _ _ failed failed' _ _ _ first.stage first.early second.early;
  mid = goes-on while_stopping while_stopping-sum _ _ failed failed' _ _ _ first.stage first.mid second.mid;
  late = goes-on after_crash after_crash-sum _ _ failed failed' _ _ _ first.stage first.late second.late;
  late_changes = goes-on after_crash after_crash-sum _ _ changing changing' _ _ _ first.stage first.late_changes second.late_changes;
  changes = second.changes ∙ ap (counted changing') first.changes ∙ sym (counted-more changing changing' old.changes);
  within = within-then old.limit old.passed middle.passed new.passed first.within (subst (λ o. IfSome o (λ most. middle.passed ≤ most → new.passed ≤ most)) first.limit second.within);
  passed = λ some. second.passed (first.passed some);
  stays = λ fails. second.stays (first.stays fails);
  own = λ none. second.own none ∙ first.own (λ fails. none (second.stays fails));
  some = λ some.
      ⊎_elim
      (λ later. second.some (subst (λ stage. 0 < while_stopping stage n) (sym first.stage) later))
      (λ none. some-stays middle new n failed' changing' second (first.some (omega (arith, while_stopping-sum old.stage m n))))
      (cases_lt 0 (while_stopping old.stage n));
}
