-- A turn that ends by a failure leaves a code in FAILED, and that has a cause.
use Rattle.std.proofs.Common.{List, ap, subst, sym, ℕ, ◌<◌, ◌∙◌, ◌≡◌, ◌⊎◌}
use Rattle.std.specs.Prelude.{slice_index}
use lib.ListN.{get_elem?}
use mathlib.Core.Option.{some}
use Rattle.model_core.specs.{Actor, Core, filled, HasLost, took, DataSide, LogSide, Setup}
use Rattle.model_core.specs.Program.{Turn}
use Rattle.model_core.specs.declared.ops.Answer.{Answer}
use Rattle.model_core.specs.declared.ops.Step.{Step}
use Rattle.model_core.specs.declared.ops.Step.TheVariants as step
use Rattle.model_core.proofs.Lists.{set_at}
use Rattle.model_logcore.specs.LogLaws.{LogLaws}
use Rattle.model_logcore.proofs.Failures.{met}
use Rattle.model_pagecore.specs.DataLaws.{DataLaws}
use Rattle.model_running.proofs.Watermarks.{has_watermarks}
use Rattle.model_running.specs.{IsRunning}

module _ (D : LogSide) (L : LogLaws D) (E : DataSide) (EL : DataLaws E) (c : Setup) (old new : Core D E) (seat : ℕ) (answer : Answer) (ends : Step) (running : IsRunning D E c new) (t : Turn D E old seat answer ends new) where
  -- the cause is a call of a part, or an append
  pub failed_turn_has_some : (code : ℕ) → ends ≡ step.Failed code
      → D.Cause new.log_part (slice_index new.words 6) ⊎ E.Cause new.data_part (slice_index new.words 6)
      ⊎ HasLost new.actors (slice_index new.words 6)
  failed_turn_has_some code is =
      let W = has_watermarks D L E EL c new running in
      let with : Actor = filled t.who t.filling in
      let who = took with answer in
      let there : get_elem? new.actors seat ≡ some who =
      subst (λ (actors : List Actor). get_elem? actors seat ≡ some who) (sym t.actors) (set_at old.actors seat t.who who t.who_is) in
      let shown : 0 < W.0.failed = W.2.of_log.failures_show seat who there (met with answer code (sym t.ends ∙ is)) in
      let same : slice_index new.words 6 ≡ W.0.failed = ap (λ (ws : List ℕ). slice_index ws 6) W.1 in
      subst (λ (n : ℕ). D.Cause new.log_part n ⊎ E.Cause new.data_part n ⊎ HasLost new.actors n) (sym same)
      (W.2.failure_has_cause.cause shown)
