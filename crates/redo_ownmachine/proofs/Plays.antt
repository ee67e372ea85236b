-- Whose Op a user plays that writes for itself: its own, or one of the writer or the flusher, had the store these. Else it
-- takes or gives DEVICE, or loads FAILED.
use Rattle.std.proofs.Common.{Bool, List, ap, cond, false, get_or-set_other, inl, inr, refl, subst, sym, true, ℕ, ◌==◌, ◌∙◌, ◌≡◌, ◌⊎◌, []}
use Rattle.std.specs.Prelude.{slice_index, slice_set}
use lib.ListN.{get_elem?}
use mathlib.Core.Option.{some}
use Rattle.model_core.specs.{Actor, filled, Fills, flusher_op, lent, next, words_left, writer_op, LogSide}
use Rattle.model_core.specs.States as actor
use Rattle.model_core.specs.ReaderProgram.{Filling}
use Rattle.model_core.specs.declared.ops.Op.{Op}
use Rattle.model_core.specs.declared.ops.Op.TheVariants as op
use Rattle.model_core.specs.declared.words.Layout.{Layout}
use Rattle.model_core.specs.declared.words.Word.TheVariants as word
use Rattle.model_own.specs.{all_actors, errand_lends, errand_op, LogWork, own_lends, own_next, OwnUser, has_work}
use Rattle.model_own.specs.declared.errand.ErrandStep.{ErrandStep}
use Rattle.model_own.specs.declared.errand.ErrandStep.TheVariants as errand_step
use Rattle.model_ownrun.proofs.Errands.{in_hand}
use Rattle.model_ownrun.proofs.Seats.{flusher_seat, flusher_there, user_there, writer_seat, writer_there}
use Rattle.model_ownrun.specs.OwnRunning.{Errands, WorkFits}
use Rattle.model_running.proofs.Archiving.{IsNoReader}

-- nothing is put into who plays it
abbrev pub nothing : Filling
nothing = record { block = []; texts = [] }

-- The Op, and what is lent for it, are those of this actor.
pub record IsOpOf (users : List OwnUser) (k : LogWork) (others : List Actor) (o : OwnUser) : Type 0 where
  pub seat : ℕ
  pub who : Actor
  pub there : get_elem? (all_actors users k others) seat ≡ some who
  pub fills : Fills who nothing
  pub no_reader : IsNoReader who
  pub ops : own_next o k ≡ next who
  pub lends : own_lends o k ≡ lent (filled who nothing)

-- the word at this place stays
abbrev pub LeavesWord : Layout → List ℕ → ℕ → Op → Type 0
LeavesWord layout ws i o = slice_index (words_left layout ws o) i ≡ slice_index ws i

-- DEVICE's turn is another word
module _ (ws : List ℕ) (i : ℕ) (other : i ≡ 7 → ⊥) where
  device_aside : (x : ℕ) → slice_index (slice_set ws 7 x) i ≡ slice_index ws i
  device_aside x = get_or-set_other ws 7 i x 0 other

  taken_aside : (b : Bool) → slice_index (cond b (slice_set ws 7 1) ws) i ≡ slice_index ws i
  taken_aside true = device_aside 1
  taken_aside false = refl

module _ (D : LogSide) (p : D.Part) (users : List OwnUser) (k : LogWork) (others : List Actor)
    (errands : Errands D p users k) (seat : ℕ) (o : OwnUser) (at : get_elem? users seat ≡ some o) (layout : Layout)
    (ws : List ℕ) (i : ℕ) (other : i ≡ 7 → ⊥) where
  abbrev asked : Bool → Op → Op
  asked b x = cond b (op.Load word.Failed) x

  work_in : (x : ErrandStep) → o.errand ≡ x → has_work x ≡ true → WorkFits D p x k
  work_in x is has = subst (λ (y : ErrandStep). WorkFits D p y k) is
      (in_hand D p users k errands seat o at (ap has_work is ∙ has))

  by_errand : o.user.checks ≡ false → (x : ErrandStep) → o.errand ≡ x
      → LeavesWord layout ws i (own_next o k) ⊎ IsOpOf users k others o
  by_errand asks errand_step.Done is = inr (record {
    seat = seat;
    who = actor.User o.user;
    there = user_there users k others seat o at;
    fills = tt;
    no_reader = tt;
    ops = ap (λ (x : ErrandStep). asked o.user.checks (errand_op o k x)) is;
    lends = ap (errand_lends k) is;
  })
  by_errand asks errand_step.TakeDevice is = inl
      (ap (λ (b : Bool). slice_index (words_left layout ws (asked b (errand_op o k o.errand))) i) asks
      ∙ ap (λ (x : ErrandStep). slice_index (words_left layout ws (errand_op o k x)) i) is
      ∙ taken_aside ws i other (slice_index ws 7 == 0))
  by_errand asks errand_step.GiveBroken is = inl
      (ap (λ (b : Bool). slice_index (words_left layout ws (asked b (errand_op o k o.errand))) i) asks
      ∙ ap (λ (x : ErrandStep). slice_index (words_left layout ws (errand_op o k x)) i) is
      ∙ device_aside ws i other 0)
  by_errand asks errand_step.Write is = inr (record {
    seat = writer_seat users;
    who = actor.Writer k.writer;
    there = writer_there users k others;
    fills = tt;
    no_reader = tt;
    ops = ap (λ (x : ErrandStep). asked o.user.checks (errand_op o k x)) is
        ∙ ap (λ (b : Bool). asked b (writer_op k.writer k.writer.step))
        (asks ∙ sym (work_in errand_step.Write is refl).writer_goes_on);
    lends = ap (errand_lends k) is;
  })
  by_errand asks errand_step.Flush is = inr (record {
    seat = flusher_seat users;
    who = actor.Flusher k.flusher;
    there = flusher_there users k others;
    fills = tt;
    no_reader = tt;
    ops = ap (λ (x : ErrandStep). asked o.user.checks (errand_op o k x)) is
        ∙ ap (λ (b : Bool). asked b (flusher_op k.flusher k.flusher.step))
        (asks ∙ sym (work_in errand_step.Flush is refl).flusher_goes_on);
    lends = ap (errand_lends k) is;
  })

  -- A USER'S OP leaves each word but DEVICE's turn, or it is an actor's.
  pub plays_as : LeavesWord layout ws i (own_next o k) ⊎ IsOpOf users k others o
  plays_as = by o.user.checks refl
    where
      by : (b : Bool) → o.user.checks ≡ b → LeavesWord layout ws i (own_next o k) ⊎ IsOpOf users k others o
      by true asks = inl (ap (λ (b : Bool). slice_index (words_left layout ws (asked b (errand_op o k o.errand))) i) asks)
      by false asks = by_errand asks o.errand refl
