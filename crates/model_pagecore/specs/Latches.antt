-- Which latches an actor holds, as the step that it takes next says.
use Rattle.std.specs.Prelude.{List, length, ℕ, ◌<◌, ◌≡◌, ◌≤◌, ◌⊎◌}
use lib.ListN.{get_elem?}
use mathlib.Core.Option.{some}
use Rattle.model_core.specs.{Actor, BatchPage, change_at, changes, CleanerState, PageChange, UserState}
use Rattle.model_core.specs.declared.steps.CleanerStep.{CleanerStep}
use Rattle.model_core.specs.declared.steps.UserStep.{UserStep}
use Rattle.model_core.specs.States as actor
use Rattle.model_core.specs.declared.steps.CleanerStep.TheVariants as cleaner_step
use Rattle.model_core.specs.declared.steps.UserStep.TheVariants as user_step

-- page p is one of those that a group changes, from the one numbered `from` to below the one numbered `to`
abbrev pub IsAmong : List PageChange → ℕ → ℕ → ℕ → Type 0
IsAmong cs from to p = (k : ℕ) × (from ≤ k) × (k < to) × ((change_at cs k).page ≡ p)

-- A user before this step holds the latch of page p: it takes them in the order of its group's pages before it reserves, and
-- frees them so after it has closed the group. One that has failed is told by another step.
abbrev pub UserHasLatch : UserState → UserStep → ℕ → Type 0
UserHasLatch u user_step.LoadCheckpoint p = ⊥
UserHasLatch u user_step.LoadSn p = ⊥
UserHasLatch u user_step.TakeLatch p = IsAmong (changes u) 0 u.page p
UserHasLatch u user_step.ReleaseLatch p = IsAmong (changes u) u.page (length (changes u)) p
UserHasLatch u user_step.AwaitMark p = ⊥
UserHasLatch u user_step.Done p = ⊥
UserHasLatch u user_step.Failed p = ⊥
UserHasLatch u _ p = IsAmong (changes u) 0 (length (changes u)) p

abbrev pub IsInBatch : List BatchPage → ℕ → Type 0
IsInBatch batch p = (i : ℕ) × (x : BatchPage) × (get_elem? batch i ≡ some x) × (x.page ≡ p)

-- The cleaner before this step holds the latch of page p: of each page of its batch, and of the one that it reads.
abbrev pub CleanerHasLatch : CleanerState → CleanerStep → ℕ → Type 0
CleanerHasLatch v cleaner_step.LoadFlushed p = ⊥
CleanerHasLatch v cleaner_step.LoadNewest p = (v.page ≡ p) ⊎ IsInBatch v.batch p
CleanerHasLatch v cleaner_step.ReleaseSkipped p = (v.page ≡ p) ⊎ IsInBatch v.batch p
CleanerHasLatch v cleaner_step.LoadFrame p = (v.page ≡ p) ⊎ IsInBatch v.batch p
CleanerHasLatch v cleaner_step.Failed p = ⊥
CleanerHasLatch v _ p = IsInBatch v.batch p

-- an actor holds the latch, or has failed; no other than a user and the cleaner takes one
abbrev pub HasLatch : Actor → ℕ → Type 0
HasLatch (actor.User u) p = (u.step ≡ user_step.Failed) ⊎ UserHasLatch u u.step p
HasLatch (actor.Cleaner v) p = (v.step ≡ cleaner_step.Failed) ⊎ CleanerHasLatch v v.step p
HasLatch _ p = ⊥
