-- Users that write for themselves: no writer and no flusher takes turns. DEVICE's slot has the states of both beside
-- the log part. A user that would wait for the log goes on an errand first: it takes DEVICE and does the log's work
-- itself, by their programs.
-- One turn of a store whose users write for themselves.
use Rattle.std.specs.Prelude.{Bool, cond, false, nat_lt, true, ℕ, ◌==◌, List, length, map, slice_set, ◌++◌, ◌+◌, ◌∷◌, ◌≡◌, ◌≤◌, ◌⊎◌}
use Rattle.model_core.specs.ActorProgram.{checked_of, opposite, heard, old_of, on_take}
use Rattle.model_core.specs.{Blocks, Lent, Nothing, FlusherState, UserState, WriterState, Actor, DataSide, LogSide, Listed, Core, DataServed, LogServed, list_word, answer_of, lists_left, words_left}
use Rattle.model_core.specs.LogPrograms.{flusher_op, flusher_took, writer_op, writer_took}
use Rattle.model_core.specs.UserProgram.{mode, user_ending, user_op, user_program, user_took, user_waits}
use Rattle.model_core.specs.declared.ops.Answer.{Answer}
use Rattle.model_core.specs.declared.ops.Op.{Op}
use Rattle.model_core.specs.declared.ops.Step.{Step}
use Rattle.model_own.specs.declared.errand.ErrandStep.{ErrandStep}
use Rattle.model_core.specs.declared.steps.FlusherStep.{FlusherStep}
use Rattle.model_core.specs.declared.steps.UserStep.{UserStep}
use Rattle.model_core.specs.declared.steps.WriterStep.{WriterStep}
use Rattle.model_core.specs.declared.ops.Op.TheVariants as op
use Rattle.model_core.specs.declared.ops.Step.TheVariants as step
use Rattle.model_core.specs.declared.steps.AdvanceStep.TheVariants as advance_step
use Rattle.model_own.specs.declared.errand.ErrandStep.TheVariants as errand_step
use Rattle.model_core.specs.declared.steps.FlusherStep.TheVariants as flusher_step
use Rattle.model_core.specs.declared.steps.UserStep.TheVariants as user_step
use Rattle.model_core.specs.declared.steps.WriterStep.TheVariants as writer_step
use Rattle.model_core.specs.declared.words.Word.TheVariants as word
use lib.ListN.{get_elem?}
use mathlib.Core.Option.{some}
use Rattle.model_core.specs.Program.{Turn}
use Rattle.model_core.specs.declared.words.Layout.{Layout}
use Rattle.model_core.specs.States as actor

-- The log's work: how far the writer and the flusher have come. It is in DEVICE's slot, or in the hand of the user that
-- has taken DEVICE. There the flusher has the log part, but the writer from its write to its store of WRITE.
pub record LogWork : Type 0 where
  pub writer : WriterState
  pub flusher : FlusherState

-- A user that writes for itself: the user as any other, where it is on its errand, and whether it has been on one for
-- the condition at which it stands.
pub record OwnUser : Type 0 where
  pub user : UserState
  pub errand : ErrandStep
  pub helped : Bool

-- The waits in whose place it goes on an errand: for space in the log, for room in the log buffer and in the
-- recent-written buffer, for its mark.
abbrev pub helps_at : UserStep → Bool
helps_at user_step.LoadSn = true
helps_at user_step.LoadWrite = true
helps_at (user_step.AdvanceWritten s) = true
helps_at user_step.ReloadWtail = true
helps_at user_step.AwaitMark = true
helps_at _ = false

-- It would wait after this answer, and sets out on an errand instead.
abbrev pub sets_out : OwnUser → ℕ → Bool
sets_out o n = cond (user_waits o.user n o.user.step) (cond (helps_at o.user.step) (opposite o.helped) false) false

-- the load with which it goes on after an errand, without a second advance; and the one with which it begins anew
-- after a wait
abbrev pub loads_again : UserStep → UserStep
loads_again user_step.LoadWtail = user_step.ReloadWtail
loads_again s = s

abbrev pub begins_again : UserStep → UserStep
begins_again user_step.ReloadWtail = user_step.LoadWtail
begins_again s = s

-- The free-space check has two loads, and between them it keeps whether it has been on an errand.
abbrev pub keeps_helped : UserStep → Bool
keeps_helped user_step.LoadCheckpoint = true
keeps_helped _ = false

-- It flushes too: where the log is short of space, or for a commit that waits for the flush.
abbrev pub flushes_at : UserState → UserStep → Bool
flushes_at u user_step.LoadCheckpoint = true
flushes_at u user_step.AwaitMark = mode u == 1
flushes_at u _ = false

-- the errand's Op, and what it lends to a device call
abbrev pub errand_op : OwnUser → LogWork → ErrandStep → Op
errand_op o k errand_step.Done = user_op o.user o.user.step
errand_op o k errand_step.TakeDevice = op.TakeDevice
errand_op o k errand_step.GiveBroken = op.GiveDevice
errand_op o k errand_step.Write = writer_op k.writer k.writer.step
errand_op o k errand_step.Flush = flusher_op k.flusher k.flusher.step

abbrev pub errand_lends : LogWork → ErrandStep → Lent
errand_lends k errand_step.Write = Blocks k.writer.kept k.writer.firsts
errand_lends k _ = Nothing

-- the writer before a round
abbrev pub rested_writer : WriterState → WriterState
rested_writer s = record s { checks = false; step = writer_step.Advance advance_step.LoadTail }

-- it waits, and begins anew with its condition
abbrev pub waiting : OwnUser → OwnUser
waiting o = record o {
  user = record o.user { checks = true; step = begins_again o.user.step };
  errand = errand_step.Done;
  helped = false;
}

-- it has got a part that has failed, and asks for DEVICE again after a check for the failure
abbrev pub asks_again : OwnUser → OwnUser
asks_again o = record o { user = record o.user { checks = true }; errand = errand_step.TakeDevice }

-- a call of its errand has failed with this code, and so has it
abbrev pub has_failed : OwnUser → ℕ → OwnUser
has_failed o n = record {
  user = record o.user { code = n; checks = false; step = user_step.Failed };
  errand = errand_step.Done;
  helped = false;
}

-- The writer's part is over: what is written is flushed, if it is to be and isn't.
abbrev pub flusher_from : Bool → FlusherState → ℕ → FlusherState
flusher_from flushes f write = cond (cond flushes (nat_lt f.last write) false)
    (record f { write = write; checks = false; step = flusher_step.Sync })
    (record f { checks = false; step = flusher_step.GiveDevice })

abbrev pub written : OwnUser → LogWork → WriterState → OwnUser × LogWork
written o k s = (
  record o { errand = errand_step.Flush },
  record {
    writer = rested_writer s;
    flusher = flusher_from (flushes_at o.user o.user.step) k.flusher s.write;
  },
)

-- How it goes on with the writer at this step. Where the writer would wait, since nothing is new or the log has no
-- room, its part is over. It has the log part from its write on.
abbrev pub after_writer : OwnUser → LogWork → WriterState → WriterStep → OwnUser × LogWork
after_writer o k s (writer_step.Advance v) = cond s.checks (written o k s) (o, record k { writer = s })
after_writer o k s writer_step.LoadCheckpoint = cond s.checks (written o k s) (o, record k { writer = s })
after_writer o k s writer_step.TakeDevice = (
  o,
  record {
    writer = record s { step = writer_step.WriteTo };
    flusher = record k.flusher { step = flusher_step.LoadWrite };
  },
)
after_writer o k s writer_step.GiveDevice = written o k s
after_writer o k s writer_step.Failed = (has_failed o s.code, record k { writer = s })
after_writer o k s _ = (o, record k { writer = s })

-- and with the flusher: once it has given DEVICE back the errand is done
abbrev pub after_flusher : OwnUser → LogWork → FlusherState → FlusherStep → OwnUser × LogWork
after_flusher o k f flusher_step.LoadWrite = (
  record o { errand = errand_step.Done; helped = true },
  record k { flusher = f },
)
after_flusher o k f flusher_step.Failed = (has_failed o f.code, record k { flusher = f })
after_flusher o k f _ = (o, record k { flusher = f })

-- DEVICE with the log's work, taken and given back
abbrev pub taken_up : LogWork → LogWork
taken_up k = record k { flusher = record k.flusher { checks = false; step = flusher_step.GiveDevice } }

abbrev pub given_back : LogWork → LogWork
given_back k = record k { flusher = record k.flusher { step = flusher_step.LoadWrite } }

-- its state after an answer to its own step
abbrev pub own_stepped : OwnUser → ℕ → OwnUser
own_stepped o n = cond (sets_out o n)
    (record o {
      user = record (user_took o.user n o.user.step) {
        checks = false;
        step = loads_again (user_took o.user n o.user.step).step;
      };
      errand = errand_step.TakeDevice;
    })
    (record o {
      user = user_took o.user n o.user.step;
      helped = cond (keeps_helped o.user.step) o.helped false;
    })

-- Its state and the log's work after an answer. Who finds DEVICE held waits and begins anew with its condition.
abbrev pub errand_took : OwnUser → LogWork → Answer → ErrandStep → OwnUser × LogWork
errand_took o k a errand_step.Done = (own_stepped o (heard a), k)
errand_took o k a errand_step.TakeDevice = on_take a
    (record o { errand = errand_step.Write }, taken_up k)
    (record o { errand = errand_step.GiveBroken }, taken_up k)
    (waiting o, k)
errand_took o k a errand_step.GiveBroken = (asks_again o, given_back k)
errand_took o k a errand_step.Write =
    after_writer o k (writer_took k.writer a k.writer.step) (writer_took k.writer a k.writer.step).step
errand_took o k a errand_step.Flush =
    after_flusher o k (flusher_took k.flusher a k.flusher.step) (flusher_took k.flusher a k.flusher.step).step

-- a load of FAILED: a code there ends the errand too
abbrev pub own_checked : OwnUser → ℕ → OwnUser
own_checked o n = record o {
  user = checked_of user_program o.user n;
  errand = cond (n == 0) o.errand errand_step.Done;
}

-- its next Op, what it lends, its state and the log's work after the answer, whether it waits, and how the step ends
abbrev pub own_next : OwnUser → LogWork → Op
own_next o k = cond o.user.checks (op.Load word.Failed) (errand_op o k o.errand)

abbrev pub own_lends : OwnUser → LogWork → Lent
own_lends o k = errand_lends k o.errand

abbrev pub own_goes_on : OwnUser → LogWork → Answer → OwnUser × LogWork
own_goes_on o k a = cond o.user.checks (own_checked o (old_of a), k) (errand_took o k a o.errand)

abbrev pub errand_waits : OwnUser → Answer → ErrandStep → Bool
errand_waits o a errand_step.Done = cond (sets_out o (heard a)) false (user_waits o.user (heard a) o.user.step)
errand_waits o a errand_step.TakeDevice = on_take a false false true
errand_waits o a _ = false

abbrev pub own_step_of : OwnUser → LogWork → Answer → Step
own_step_of o k a = cond o.user.checks (cond (old_of a == 0) step.Moved (step.Failed (old_of a)))
    (cond (errand_waits o a o.errand) step.Idle
    (user_ending (own_goes_on o k a).0.user.code (own_goes_on o k a).0.user.step))

-- the state of such a store: the log's work is in DEVICE's slot, or in the hand of the user that has taken it
pub record OwnCore (D : LogSide) (E : DataSide) : Type 0 where
  pub layout : Layout
  pub words : List ℕ
  pub log_part : D.Part
  pub data_part : E.Part
  pub lists : ℕ → List Listed
  pub users : List OwnUser
  pub work : LogWork
  -- the actors of the pages, and the readers of the log
  pub others : List Actor

-- The same store as one whose writer and flusher are actors, as far as they have come: what holds of a running store
-- between any two turns is said of that.
abbrev pub all_actors : List OwnUser → LogWork → List Actor → List Actor
all_actors users work others =
    map (λ o. actor.User o.user) users ++ actor.Writer work.writer ∷ actor.Flusher work.flusher ∷ others

abbrev pub with_writer : {D : LogSide} {E : DataSide} → OwnCore D E → Core D E
with_writer s = record {
  layout = s.layout;
  words = s.words;
  log_part = s.log_part;
  data_part = s.data_part;
  lists = s.lists;
  actors = all_actors s.users s.work s.others;
}

-- A user's turn. Its Op is that of its own step or of the log's work, and nothing is put into it before.
pub record UserTurn (D : LogSide) (E : DataSide) (old : OwnCore D E) (seat : ℕ) (answer : Answer) (step : Step)
    (new : OwnCore D E) : Type 0 where
  pub who : OwnUser
  pub who_is : get_elem? old.users seat ≡ some who
  pub code : ℕ
  pub log_served : LogServed D old.log_part (own_lends who old.work) (own_next who old.work) code new.log_part
  pub data_served : DataServed E old.data_part (own_lends who old.work) (own_next who old.work) code new.data_part
  pub layout : new.layout ≡ old.layout
  pub words : new.words ≡ words_left old.layout old.words (own_next who old.work)
  pub lists : new.lists ≡ lists_left old.lists (list_word old.words) (own_next who old.work)
  pub answered : answer
      ≡ answer_of old.layout old.lists (D.failed old.log_part) code (D.stable new.log_part) old.words
      (own_next who old.work)
  pub users : new.users ≡ slice_set old.users seat (own_goes_on who old.work answer).0
  pub work : new.work ≡ (own_goes_on who old.work answer).1
  pub others : new.others ≡ old.others
  pub ends : step ≡ own_step_of who old.work answer

-- The turn of another actor, which sits after the users, is the one that it has in the store with a writer and a
-- flusher.
pub record OtherTurn (D : LogSide) (E : DataSide) (old : OwnCore D E) (seat : ℕ) (answer : Answer) (step : Step)
    (new : OwnCore D E) : Type 0 where
  pub after : length old.users ≤ seat
  pub turn : Turn D E (with_writer old) (seat + 2) answer step (with_writer new)
  pub users : new.users ≡ old.users
  pub work : new.work ≡ old.work

abbrev pub OwnTurn : (D : LogSide) (E : DataSide) → OwnCore D E → ℕ → Answer → Step → OwnCore D E → Type 0
OwnTurn D E old seat answer step new = UserTurn D E old seat answer step new ⊎ OtherTurn D E old seat answer step new
