-- What a failed actor holds: what it held before the step at which it met the failure.
use Rattle.std.proofs.Common.{List, ℕ, ⊎_elim, ◌≡◌, ◌⊎◌}
use Rattle.model_core.specs.{DataSide, CleanerState, Entry, Listed, SharedWords, UserState, Setup}
use Rattle.model_core.specs.declared.steps.CleanerStep.{CleanerStep}
use Rattle.model_core.specs.declared.steps.UserStep.{UserStep}
use Rattle.model_pagecore.specs.Latches.{CleanerHasLatch, UserHasLatch}
use Rattle.model_pagecore.specs.PageFacts.{PageGhost}
use Rattle.model_pagecore.specs.PageHalf.{CleanerAt, HoldsOnly, UserPagesAt}
use Rattle.model_core.specs.declared.steps.CleanerStep.TheVariants as cleaner_step
use Rattle.model_core.specs.declared.steps.UserStep.TheVariants as user_step

module _ (E : DataSide) (c : Setup) (m : SharedWords) (log : List Entry) (h : PageGhost) (ls : ℕ → List Listed) (d : E.Part) (seat : ℕ) where
  pub user_still_holds : (u : UserState) (f : UserStep) → HoldsOnly E c m log h ls d seat (λ p. (f ≡ user_step.Failed) ⊎ UserHasLatch u f p) → UserPagesAt E c m log h ls d seat u f → UserPagesAt E c m log h ls d seat u user_step.Failed
  user_still_holds u user_step.Failed only o = o
  user_still_holds u f only o = (f, o, λ p there latched mine. ⊎_elim (λ z. absurd (cc)) (λ z. z) (only p there latched mine))

  pub cleaner_still_holds : (v : CleanerState) (f : CleanerStep) → HoldsOnly E c m log h ls d seat (λ p. (f ≡ cleaner_step.Failed) ⊎ CleanerHasLatch v f p) → CleanerAt E c m log h ls d seat v f → CleanerAt E c m log h ls d seat v cleaner_step.Failed
  cleaner_still_holds v cleaner_step.Failed only o = o
  cleaner_still_holds v f only o = (f, o, λ p there latched mine. ⊎_elim (λ z. absurd (cc)) (λ z. z) (only p there latched mine))
