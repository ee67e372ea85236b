-- Why a run ends by a failure, as the word FAILED has it. What the program of an actor consists of, over the actor's state, what it
-- reads off an answer, and how a check of FAILED goes: for all actors alike.
use Rattle.std.specs.Prelude.{ℕ, ◌≡◌, ◌⊎◌, Bool, None, Option, false, true, cond, ◌==◌}
use Rattle.model_core.specs.declared.ops.Answer.{Answer}
use Rattle.model_core.specs.declared.ops.Answer.TheVariants as answer
use Rattle.model_core.specs.declared.ops.Op.{Op}
use Rattle.model_core.specs.declared.ops.Step.{Step}

-- a call of the log device failed, one of the data device did, a device had no memory, one of the archive's device failed
abbrev pub log_device_code : ℕ
log_device_code = 1

abbrev pub data_device_code : ℕ
data_device_code = 2

abbrev pub no_memory_code : ℕ
no_memory_code = 3

abbrev pub archive_device_code : ℕ
archive_device_code = 4

-- what a call of the archive may fail with
abbrev pub IsArchiveCode : ℕ → Type 0
IsArchiveCode code = (code ≡ archive_device_code) ⊎ (code ≡ no_memory_code)

-- the number in an answer, or 0
abbrev pub old_of : Answer → ℕ
old_of (answer.Old n) = n
old_of (answer.Called n) = n
old_of _ = 0

-- the code of a device call that failed, or 0
abbrev pub code_of : Answer → ℕ
code_of (answer.Failed c) = c
code_of _ = 0

-- what a user hears: the number in an answer, 1 where a list is held
abbrev pub heard : Answer → ℕ
heard answer.Held = 1
heard a = old_of a

-- what an answer to TakeDevice leads to: taken, taken but broken, held
abbrev pub on_take : {A : Type 0} → Answer → A → A → A → A
on_take (answer.Taken n) a b c = a
on_take answer.Broken a b c = b
on_take _ a b c = c

-- what an answer to a device call leads to: Ok, failed
abbrev pub on_call : {A : Type 0} → Answer → A → A → A
on_call (answer.Failed c) a b = b
on_call _ a b = a

-- a flush list was taken
abbrev pub has_taken : Answer → Bool
has_taken (answer.Taken n) = true
has_taken _ = false

-- the oldest modification that was read off it
abbrev pub oldest_in : Answer → Option ℕ
oldest_in (answer.Taken n) = n
oldest_in _ = None

-- Whether the actor checks, so that its next Op is a load of FAILED; its state as it goes on from there, and as a code that it
-- finds there ends it. The Op of its step, its state after an answer to that, and whether it then waits. Whether it has ended,
-- and how.
pub record ActorProgram (S : Type 0) : Type 0 where
  pub checks : S → Bool
  pub goes_on : S → S
  pub fails : S → ℕ → S
  pub op : S → Op
  pub took : S → Answer → S
  pub waits : S → Answer → Bool
  pub ending : S → Step

-- its state after a load of FAILED, and after its next Op
abbrev pub checked_of : {S : Type 0} → ActorProgram S → S → ℕ → S
checked_of p s n = cond (n == 0) (p.goes_on s) (p.fails (p.goes_on s) n)

abbrev pub after_of : {S : Type 0} → ActorProgram S → S → Answer → S
after_of p s a = cond (p.checks s) (checked_of p s (old_of a)) (p.took s a)

abbrev pub opposite : Bool → Bool
opposite b = cond b false true
