-- The calls of something in memory that fail, by their numbers from 0, and counts that stand still at their last value.
use Rattle.std.specs.Prelude.{ℕ, ◌==◌, Bool, if◌then◌else◌, List}
use Rattle.std.specs.List.{list_any}
use Rattle.redo_io.specs.Ends.{saturating_next}

-- which calls fail, and how far they have come
pub record Planned : Type 0 where
  -- the numbers of the calls that fail
  pub failing : List ℕ
  -- the number of the next call
  pub calls : ℕ
  -- how many calls have failed
  pub faults : ℕ

-- a plan of which no call is made yet
abbrev pub unused : List ℕ → Planned
unused failing = record { failing = failing; calls = 0; faults = 0 }

-- the next call fails
abbrev pub fails_now : Planned → Bool
fails_now plan = list_any (λ number. number == plan.calls) plan.failing

-- the plan after a call that didn't fail
abbrev pub after_ok : Planned → Planned
after_ok plan = record plan { calls = saturating_next plan.calls }

-- the plan after a call that failed
abbrev pub after_failure : Planned → Planned
after_failure plan = record plan { calls = saturating_next plan.calls; faults = saturating_next plan.faults }

-- the plan after the next call
abbrev pub plan_after_call : Planned → Planned
plan_after_call plan = if fails_now plan then after_failure plan else after_ok plan

-- the plan with a fault that it doesn't name
abbrev pub with_fault : Planned → Planned
with_fault plan = record plan { faults = saturating_next plan.faults }
