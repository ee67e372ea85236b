-- A count of faults that is made of two: a device's own, and that of the fuse round it.
use Rattle.std.proofs.Common.{Bool, true, refl, ap, ◌∙◌, ◌≡◌, ◌+◌, ◌≤◌, ℕ, Result, inl, inr, ⊎_elim, arith}
use Rattle.std.proofs.lemmas.Bool.{cases_lt}
use Rattle.model_base.specs.{HasRisen, last_count}
use Rattle.redo_io.specs.{saturating_next}
use Rattle.redo_disk.specs.declared.error.DevError.{DevError}
use Rattle.redo_disk.specs.{HasCause}
use Rattle.redo_memdisk.specs.declared.fuse.Fuse.{Fuse}
use Rattle.redo_memdisk.specs.Fused.{after_call, after_change, fails_next, with_change}
use Rattle.redo_memdisk.specs.declared.fuse.Stage.{Stage}
use Rattle.redo_memdisk.specs.declared.fuse.Stage.TheVariants.{Before, Stopping, Crashed}

HasRisen-next_count : (count : ℕ) → HasRisen count (saturating_next count)
HasRisen-next_count count = ⊎_elim (λ below. inl (omega arith)) (λ stands. inr stands) (cases_lt count last_count)

-- a sum of two counts rises with the second
HasRisen-right : (before now own own' : ℕ) → before ≤ now → HasRisen own own' → HasRisen (before + own) (now + own')
HasRisen-right before now own own' keeps risen = ⊎_elim (λ rises. inl (omega arith)) (λ stands. inr (omega arith)) risen

-- a failure of the fuse itself
pub HasCause-own : {T : Type 0} (before now own own' : ℕ) (result : Result T DevError) → before ≤ now → own' ≡ saturating_next own
    → own ≤ own' → HasCause (before + own) (now + own') result
HasCause-own before now own own' result later same rises = record {
  later = omega arith;
  failed = λ _. HasRisen-right before now own own' later (rw same (HasRisen-next_count own));
}

-- the fuse counts a failure of its own
pub own-after_failed_call : (fuse new : Fuse) (failed : Bool) → fails_next fuse ≡ true → new ≡ after_call fuse failed → new.own ≡ saturating_next fuse.own
own-after_failed_call fuse new failed fails new_is = ap (λ (f : Fuse). f.own) new_is ∙ rw fails refl

-- counting a change changes nothing of what the fuse fails
same-fails_next : (stage : Stage) (fuse : Fuse) → fails_next (with_change stage fuse) ≡ fails_next fuse
same-fails_next Before fuse = refl
same-fails_next Stopping fuse = refl
same-fails_next Crashed fuse = refl

same-own : (stage : Stage) (fuse : Fuse) → (with_change stage fuse).own ≡ fuse.own
same-own Before fuse = refl
same-own Stopping fuse = refl
same-own Crashed fuse = refl

-- so it is at a write or a sync
pub own-after_failed_change : (fuse new : Fuse) (failed : Bool) → fails_next fuse ≡ true → new ≡ after_change fuse failed → new.own ≡ saturating_next fuse.own
own-after_failed_change fuse new failed fails new_is =
    own-after_failed_call (with_change fuse.stage fuse) new failed (same-fails_next fuse.stage fuse ∙ fails) new_is ∙ ap saturating_next (same-own fuse.stage fuse)
