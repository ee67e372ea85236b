-- A run of users that write for themselves, as it begins.
use Rattle.std.specs.Prelude.{[], ℕ, ◌+◌, ◌<◌, ◌≡◌}
use Rattle.model_base.specs.declared.limits.TheConstants.{LSN_LIMIT}
use Rattle.model_core.specs.{flat, layout_of, lsn, SharedWords, DataSide, LogSide, Setup}
use Rattle.model_logcore.specs.LogFacts.{sum_over_actors}
use Rattle.model_logcore.specs.{left_to_reserve}
use Rattle.model_logcore.specs.Start.{flusher_start, writer_start}
use Rattle.model_own.specs.{OwnCore, all_actors}
use Rattle.model_ownrun.specs.OwnRuns.{AreAtHome}
use Rattle.model_running.specs.StartStore.{StartStore}

pub record OwnStart (D : LogSide) (E : DataSide) (c : Setup) (s : OwnCore D E) : Type 0 where
  pub shared : SharedWords
  pub layout_is : s.layout ≡ layout_of c
  pub flat_is : s.words ≡ flat shared
  pub lists_are : s.lists ≡ (λ _. [])
  pub seat_of : ℕ → ℕ
  pub writer : ℕ
  pub store : StartStore D E c shared s.log_part s.data_part seat_of writer (all_actors s.users s.work s.others)
  -- DEVICE's slot has both states as they are at the start, and no user is on an errand
  pub work : s.work ≡ record { writer = writer_start c; flusher = flusher_start c }
  pub users : AreAtHome s.users
  pub room : lsn (c.base + sum_over_actors left_to_reserve (all_actors s.users s.work s.others)) < LSN_LIMIT
