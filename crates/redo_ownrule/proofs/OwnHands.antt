-- Who holds the log part or a list, where the log's work goes on.
use Rattle.std.proofs.Common.{List, Some, [], ap, arith, refl, set, subst, suc, sym, true, zero, ℕ, ◌∷◌, ◌≡◌, ◌≢◌}
use lib.ListN.{get_elem?}
use mathlib.Core.Option as maybe
use Rattle.model_core.specs.States as model
use Rattle.model_core.specs.{checkpointer_hand, flusher_hand, hand, reader_hand, writer_hand, holds, checkpointer_holds, CheckpointerState, flusher_holds, reader_holds, writer_holds}
use Rattle.model_core.specs.declared.steps.CheckpointerStep.{CheckpointerStep}
use Rattle.model_core.specs.declared.steps.CheckpointerStep.TheVariants as checkpointer_step
use Rattle.model_core.specs.declared.steps.FlusherStep.{FlusherStep}
use Rattle.model_core.specs.declared.steps.FlusherStep.TheVariants as flusher_step
use Rattle.model_core.specs.declared.steps.ReaderStep.{ReaderStep}
use Rattle.model_core.specs.declared.steps.ReaderStep.TheVariants as reader_step
use Rattle.model_core.specs.declared.steps.WriterStep.{WriterStep}
use Rattle.model_core.specs.declared.steps.WriterStep.TheVariants as writer_step
use Rattle.model_own.specs.{all_actors, LogWork, OwnUser}
use Rattle.model_running.proofs.SlotHolders.{same_number}

-- whoever holds the log part has its slot
writer_has : (w : WriterStep) → writer_holds w ≡ true → writer_hand w ≡ Some 0
writer_has writer_step.GiveBroken h = refl
writer_has writer_step.WriteTo h = refl
writer_has writer_step.StoreWrite h = refl
writer_has writer_step.GiveDevice h = refl
writer_has writer_step.StoreFailed h = refl
writer_has writer_step.GiveFailed h = refl
writer_has _ h = absurd (cc)

flusher_has : (f : FlusherStep) → flusher_holds f ≡ true → flusher_hand f ≡ Some 0
flusher_has flusher_step.GiveBroken h = refl
flusher_has flusher_step.Sync h = refl
flusher_has flusher_step.StoreFlushed h = refl
flusher_has flusher_step.GiveDevice h = refl
flusher_has flusher_step.StoreFailed h = refl
flusher_has flusher_step.GiveFailed h = refl
flusher_has _ h = absurd (cc)

checkpointer_has : (t : CheckpointerState) (f : CheckpointerStep) → checkpointer_holds f ≡ true
    → checkpointer_hand t f ≡ Some 0
checkpointer_has t checkpointer_step.GiveBroken h = refl
checkpointer_has t checkpointer_step.Checkpoint h = refl
checkpointer_has t checkpointer_step.StoreCheckpoint h = refl
checkpointer_has t checkpointer_step.GiveDevice h = refl
checkpointer_has t checkpointer_step.StoreFailed h = refl
checkpointer_has t checkpointer_step.GiveFailed h = refl
checkpointer_has t _ h = absurd (cc)

reader_has : (f : ReaderStep) → reader_holds f ≡ true → reader_hand f ≡ Some 0
reader_has reader_step.GiveBroken h = refl
reader_has reader_step.ReadBlock h = refl
reader_has reader_step.GiveDevice h = refl
reader_has reader_step.StoreFailed h = refl
reader_has reader_step.GiveFailed h = refl
reader_has _ h = absurd (cc)

pub holder_has : (a : model.Actor) → holds a ≡ true → hand a ≡ Some 0
holder_has (model.Writer s) h = writer_has s.step h
holder_has (model.Flusher t) h = flusher_has t.step h
holder_has (model.Checkpointer t) h = checkpointer_has t t.step h
holder_has (model.Reader r) h = reader_has r.step h
holder_has _ h = absurd (cc)

-- neither the writer nor the flusher holds a list
writer_no_list : (w : WriterStep) (j : ℕ) → writer_hand w ≡ Some (suc j) → ⊥
writer_no_list writer_step.GiveBroken j e = let n = same_number 0 (suc j) e in omega arith
writer_no_list writer_step.WriteTo j e = let n = same_number 0 (suc j) e in omega arith
writer_no_list writer_step.StoreWrite j e = let n = same_number 0 (suc j) e in omega arith
writer_no_list writer_step.GiveDevice j e = let n = same_number 0 (suc j) e in omega arith
writer_no_list writer_step.StoreFailed j e = let n = same_number 0 (suc j) e in omega arith
writer_no_list writer_step.GiveFailed j e = let n = same_number 0 (suc j) e in omega arith
writer_no_list _ j e = absurd (cc)

flusher_no_list : (f : FlusherStep) (j : ℕ) → flusher_hand f ≡ Some (suc j) → ⊥
flusher_no_list flusher_step.GiveBroken j e = let n = same_number 0 (suc j) e in omega arith
flusher_no_list flusher_step.Sync j e = let n = same_number 0 (suc j) e in omega arith
flusher_no_list flusher_step.StoreFlushed j e = let n = same_number 0 (suc j) e in omega arith
flusher_no_list flusher_step.GiveDevice j e = let n = same_number 0 (suc j) e in omega arith
flusher_no_list flusher_step.StoreFailed j e = let n = same_number 0 (suc j) e in omega arith
flusher_no_list flusher_step.GiveFailed j e = let n = same_number 0 (suc j) e in omega arith
flusher_no_list _ j e = absurd (cc)

-- so whoever holds one is as it was, where a user and the log's work have changed
module _ (k k' : LogWork) (os : List model.Actor) (j : ℕ) (c : model.Actor) (holds_it : hand c ≡ Some (suc j)) where
  work_still : (users : List OwnUser) (n : ℕ) → get_elem? (all_actors users k os) n ≡ maybe.some c
      → get_elem? (all_actors users k' os) n ≡ maybe.some c
  work_still [] zero at = absurd (writer_no_list k.writer.step j
      (subst (λ (z : model.Actor). hand z ≡ Some (suc j)) (sym (maybe.some-injective (model.Writer k.writer) c at)) holds_it))
  work_still [] (suc zero) at = absurd (flusher_no_list k.flusher.step j
      (subst (λ (z : model.Actor). hand z ≡ Some (suc j)) (sym (maybe.some-injective (model.Flusher k.flusher) c at)) holds_it))
  work_still [] (suc (suc n)) at = at
  work_still (x ∷ xs) zero at = at
  work_still (x ∷ xs) (suc n) at = work_still xs n at

  pub held_still : (users : List OwnUser) (i : ℕ) (y : OwnUser) (n : ℕ) → n ≢ i
      → get_elem? (all_actors users k os) n ≡ maybe.some c
      → get_elem? (all_actors (set users i y) k' os) n ≡ maybe.some c
  held_still [] i y n ne at = work_still [] n at
  held_still (x ∷ xs) zero y zero ne at = absurd (ne refl)
  held_still (x ∷ xs) zero y (suc n) ne at = work_still xs n at
  held_still (x ∷ xs) (suc i) y zero ne at = at
  held_still (x ∷ xs) (suc i) y (suc n) ne at = held_still xs i y n (λ e. ne (ap suc e)) at
