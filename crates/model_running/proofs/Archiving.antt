-- A failed append of the archiver stays the cause that it is.
use Rattle.std.proofs.Common.{Bool, List, ap, arith, cond, eqb-true, false, refl, set, subst, sym, true, ℕ, ⊎_elim, ◌<◌, ◌==◌, ◌^◌, ◌∙◌, ◌≡◌}
use lib.ListN.{get_elem?}
use mathlib.Core.Option.{some, some-injective}
use native.Mathlib.Decide.{ℕ_discrete}
use Rattle.model_core.proofs.Later.{took_later}
use Rattle.model_core.proofs.Lists.{set_at, set_else}
use Rattle.model_core.specs.{Actor, after_of, archives, checkpointer_op, CheckpointerState, cleaner_op, CleanerState, closer_op, CloserState, flusher_op, FlusherState, followed, has_all, HasLost, IsArchiveCode, IsLosing, LostAt, next, old_of, OwnServed, reader_program, reader_took, ReaderState, to_append, took, user_op, UserState, writer_op, WriterState, Setup}
use Rattle.model_core.specs.declared.ops.Answer.{Answer}
use Rattle.model_core.specs.declared.ops.Op.{Op}
use Rattle.model_core.specs.declared.ops.Op.TheVariants as op
use Rattle.model_core.specs.declared.steps.AdvanceStep.TheVariants as advance_step
use Rattle.model_core.specs.declared.steps.CheckpointerStep.{CheckpointerStep}
use Rattle.model_core.specs.declared.steps.CheckpointerStep.TheVariants as checkpointer_step
use Rattle.model_core.specs.declared.steps.CleanerStep.{CleanerStep}
use Rattle.model_core.specs.declared.steps.CleanerStep.TheVariants as cleaner_step
use Rattle.model_core.specs.declared.steps.CloserStep.{CloserStep}
use Rattle.model_core.specs.declared.steps.CloserStep.TheVariants as closer_step
use Rattle.model_core.specs.declared.steps.FlusherStep.{FlusherStep}
use Rattle.model_core.specs.declared.steps.FlusherStep.TheVariants as flusher_step
use Rattle.model_core.specs.declared.steps.UserStep.{UserStep}
use Rattle.model_core.specs.declared.steps.UserStep.TheVariants as user_step
use Rattle.model_core.specs.declared.steps.WriterStep.{WriterStep}
use Rattle.model_core.specs.declared.steps.WriterStep.TheVariants as writer_step
use Rattle.model_core.specs.declared.words.Word.TheVariants as word
use Rattle.model_core.specs.declared.steps.ReaderStep.{ReaderStep}
use Rattle.model_core.specs.declared.steps.ReaderStep.TheVariants as reader_step
use Rattle.model_core.specs.States as actor
use Rattle.model_running.specs.Appending.{IsNoAppend}
use Rattle.model_running.specs.ReadHalf.{ReadsInRun, StaysInRun}

-- a reader that has lost an append is at its end
pub losing_at : (r : ReaderState) (st : ReaderStep) → LostAt r st → 0 < r.lost → IsLosing r
losing_at r reader_step.Append k some_code = let none = k.1 in absurd (omega arith)
losing_at r reader_step.StoreLost k some_code = k
losing_at r reader_step.Failed k some_code = ⊎_elim (λ none. absurd (omega arith)) (λ z. z) k
losing_at r reader_step.LoadFlushed k some_code = absurd (omega arith)
losing_at r reader_step.TakeDevice k some_code = absurd (omega arith)
losing_at r reader_step.GiveBroken k some_code = absurd (omega arith)
losing_at r reader_step.ReadBlock k some_code = absurd (omega arith)
losing_at r reader_step.GiveDevice k some_code = absurd (omega arith)
losing_at r reader_step.StorePlace k some_code = absurd (omega arith)
losing_at r reader_step.StoreFailed k some_code = absurd (omega arith)
losing_at r reader_step.GiveFailed k some_code = absurd (omega arith)

-- it loses it for good
lost_for_good : (r : ReaderState) (a : Answer) → LostAt r r.step → 0 < r.lost
    → (after_of reader_program r a).lost ≡ r.lost
lost_for_good r a k some_code = by r.checks (old_of a == 0)
  where
    goes_on : ReaderState
    goes_on = record r { checks = false }

    fails : ReaderState
    fails = record r { checks = false; code = old_of a; step = reader_step.Failed }

    own : (st : ReaderStep) → LostAt r st → (reader_took r a st).lost ≡ r.lost
    own reader_step.StoreLost k = refl
    own reader_step.Failed k = refl
    own reader_step.Append k = let none = k.1 in absurd (omega arith)
    own reader_step.LoadFlushed k = absurd (omega arith)
    own reader_step.TakeDevice k = absurd (omega arith)
    own reader_step.GiveBroken k = absurd (omega arith)
    own reader_step.ReadBlock k = absurd (omega arith)
    own reader_step.GiveDevice k = absurd (omega arith)
    own reader_step.StorePlace k = absurd (omega arith)
    own reader_step.StoreFailed k = absurd (omega arith)
    own reader_step.GiveFailed k = absurd (omega arith)

    by : (b n : Bool) → (cond b (cond n goes_on fails) (reader_took r a r.step)).lost ≡ r.lost
    by true true = refl
    by true false = refl
    by false n = own r.step k

-- a reader's turn, as its program has it
pub took_reader : (r : ReaderState) (a : Answer)
    → ◌≡◌ {A = Actor} (took (actor.Reader r) a) (actor.Reader (after_of reader_program r a))
took_reader r a = by r.checks (cond (old_of a == 0) goes_on fails) (reader_took r a r.step)
  where
    goes_on : ReaderState
    goes_on = record r { checks = false }

    fails : ReaderState
    fails = record r { checks = false; code = old_of a; step = reader_step.Failed }

    by : (b : Bool) (x z : ReaderState)
        → ◌≡◌ {A = Actor} (cond b (actor.Reader x) (actor.Reader z)) (actor.Reader (cond b x z))
    by true x z = refl
    by false x z = refl

abbrev pub IsNoReader : Actor → Type 0
IsNoReader (actor.Reader r) = ⊥
IsNoReader _ = Unit {0}

-- THE ARCHIVER ALONE APPENDS: any other Op calls no device of its actor's own
pub served_none : (o : Op) → IsNoAppend o → (code : ℕ) → OwnServed o code
served_none (op.Append x) other code = absurd other
served_none (op.Load w) other code = tt
served_none _ other code = tt

user_appends : (u : UserState) (f : UserStep) → IsNoAppend (user_op u f)
user_appends u (user_step.AdvanceWritten advance_step.LoadTail) = tt
user_appends u (user_step.AdvanceClosed advance_step.LoadTail) = tt
user_appends u _ = tt

writer_appends : (s : WriterState) (f : WriterStep) → IsNoAppend (writer_op s f)
writer_appends s (writer_step.Advance advance_step.LoadTail) = tt
writer_appends s _ = tt

flusher_appends : (t : FlusherState) (f : FlusherStep) → IsNoAppend (flusher_op t f)
flusher_appends t flusher_step.LoadWrite = tt
flusher_appends t _ = tt

closer_appends : (t : CloserState) (f : CloserStep) → IsNoAppend (closer_op t f)
closer_appends t (closer_step.Advance advance_step.LoadTail) = tt
closer_appends t _ = tt

cleaner_appends : (v : CleanerState) (f : CleanerStep) → IsNoAppend (cleaner_op v f)
cleaner_appends v cleaner_step.LoadFlushed = tt
cleaner_appends v _ = tt

checkpointer_appends : (t : CheckpointerState) (f : CheckpointerStep) → IsNoAppend (checkpointer_op t f)
checkpointer_appends t checkpointer_step.LoadCtail = tt
checkpointer_appends t _ = tt

checking_appends : (b : Bool) (o : Op) → IsNoAppend o → IsNoAppend (cond b (op.Load word.Failed) o)
checking_appends true o none = tt
checking_appends false o none = none

-- neither does an actor that is no reader, nor a follower
pub others_append_not : (a : Actor) → IsNoReader a → IsNoAppend (next a)
others_append_not (actor.User u) other = checking_appends u.checks (user_op u u.step) (user_appends u u.step)
others_append_not (actor.Writer s) other = checking_appends s.checks (writer_op s s.step) (writer_appends s s.step)
others_append_not (actor.Flusher t) other = checking_appends t.checks (flusher_op t t.step) (flusher_appends t t.step)
others_append_not (actor.Closer t) other = checking_appends t.checks (closer_op t t.step) (closer_appends t t.step)
others_append_not (actor.Cleaner v) other = checking_appends v.checks (cleaner_op v v.step) (cleaner_appends v v.step)
others_append_not (actor.Checkpointer t) other =
    checking_appends t.checks (checkpointer_op t t.step) (checkpointer_appends t t.step)
others_append_not (actor.Reader r) other = absurd other

-- no other actor becomes a reader
pub stays_other : (a : Actor) (y : Answer) → IsNoReader a → (r : ReaderState) → took a y ≡ actor.Reader r → ⊥
stays_other (actor.Reader x) y other r same = other
stays_other (actor.User u) y other r same = subst IsNoReader (sym (took_later (actor.User u) y).1 ∙ same) tt
stays_other (actor.Writer s) y other r same = subst IsNoReader (sym (took_later (actor.Writer s) y).1 ∙ same) tt
stays_other (actor.Flusher s) y other r same = subst IsNoReader (sym (took_later (actor.Flusher s) y).1 ∙ same) tt
stays_other (actor.Closer s) y other r same = subst IsNoReader (sym (took_later (actor.Closer s) y).1 ∙ same) tt
stays_other (actor.Cleaner s) y other r same = subst IsNoReader (sym (took_later (actor.Cleaner s) y).1 ∙ same) tt
stays_other (actor.Checkpointer s) y other r same =
    subst IsNoReader (sym (took_later (actor.Checkpointer s) y).1 ∙ same) tt

-- a reader's number stays
pub number_stays : (r : ReaderState) (a : Answer) → (after_of reader_program r a).number ≡ r.number
number_stays r a = by r.checks (old_of a == 0)
  where
    goes_on : ReaderState
    goes_on = record r { checks = false }

    fails : ReaderState
    fails = record r { checks = false; code = old_of a; step = reader_step.Failed }

    either : (b : Bool) (x y : ReaderState) → x.number ≡ r.number → y.number ≡ r.number → (cond b x y).number ≡ r.number
    either true x y one two = one
    either false x y one two = two

    own : (st : ReaderStep) → (reader_took r a st).number ≡ r.number
    own reader_step.LoadFlushed = either (has_all r (old_of a)) _ _ refl refl
    own reader_step.GiveDevice = either (archives r) (to_append r) (followed r) refl refl
    own _ = refl

    by : (b n : Bool) → (cond b (cond n goes_on fails) (reader_took r a r.step)).number ≡ r.number
    by true true = refl
    by true false = refl
    by false n = own r.step

pub reader_is : (x y : ReaderState) → actor.Reader x ≡ actor.Reader y → ◌≡◌ {A = ReaderState} x y
reader_is x y e = cc

-- among actors that stay in the run
module _ (c : Setup) (actors : List Actor)
    (in_run : (j : ℕ) (x : Actor) → get_elem? actors j ≡ some x → StaysInRun c x) where
  pub has_lost : (code : ℕ) (l : HasLost actors code) → IsLosing l.archiver
  has_lost code l =
      let I : ReadsInRun c l.archiver = in_run l.seat (actor.Reader l.archiver) l.at in
      let is = l.lost in
      let some_code = l.some_code in
      losing_at l.archiver l.archiver.step I.lost (omega arith)

  pub lost_code : (code : ℕ) → HasLost actors code → IsArchiveCode code
  lost_code code l = subst IsArchiveCode l.lost (has_lost code l).why

  pub lost_small : (code : ℕ) → HasLost actors code → code < 2 ^ 32
  lost_small code l = ⊎_elim (λ e. omega arith) (λ e. omega arith) (lost_code code l)

  -- without an archiver none is lost
  pub none_loses : 0 < c.first_reader → (code : ℕ) → HasLost actors code → ⊥
  none_loses followers code l =
      let I : ReadsInRun c l.archiver = in_run l.seat (actor.Reader l.archiver) l.at in
      let first = I.first in
      let same = eqb-true l.archiver.number 0 (has_lost code l).archiver in
      omega arith

  -- no turn takes it back
  pub lost_stays : (seat : ℕ) (a : Actor) → get_elem? actors seat ≡ some a → (said : Answer) (code : ℕ)
      → HasLost actors code → HasLost (set actors seat (took a said)) code
  lost_stays seat a at said code l = elim (ℕ_discrete l.seat seat) [
    | yes same ↦ (let I : ReadsInRun c l.archiver = in_run l.seat (actor.Reader l.archiver) l.at in
        let is = l.lost in
        let some_code = l.some_code in
        let who : ◌≡◌ {A = Actor} a (actor.Reader l.archiver) =
        some-injective a (actor.Reader l.archiver) (sym at ∙ ap (get_elem? actors) (sym same) ∙ l.at) in
        record {
          seat = seat;
          archiver = after_of reader_program l.archiver said;
          at = set_at actors seat a (took a said) at ∙ ap (λ (x : Actor). some (took x said)) who
              ∙ ap some (took_reader l.archiver said);
          lost = lost_for_good l.archiver said I.lost (omega arith) ∙ is;
          some_code = some_code;
        })
    | no other ↦ record {
      seat = l.seat;
      archiver = l.archiver;
      at = set_else actors seat l.seat (took a said) other ∙ l.at;
      lost = l.lost;
      some_code = l.some_code;
    }
  ]
