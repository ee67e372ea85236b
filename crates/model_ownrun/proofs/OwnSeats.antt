-- Each turn of a store whose users write for themselves leaves each user, and the other actors, in their seats.
use Rattle.std.proofs.Common.{Bool, List, cond, false, refl, set, subst, sym, true, ℕ, ⊎_elim, ◌+◌, ◌==◌, ◌≡◌}
use lib.ListN.{get_elem?}
use mathlib.Core.Option.{some}
use Rattle.model_core.proofs.Later.{Keeps, still, took_keeps}
use Rattle.model_core.specs.{Actor, flusher_took, FlusherState, heard, old_of, user_took, writer_took, UserState, WriterState, DataSide, LogSide, Setup}
use Rattle.model_core.specs.declared.ops.Answer.{Answer}
use Rattle.model_core.specs.declared.ops.Step.{Step}
use Rattle.model_core.specs.declared.steps.FlusherStep.{FlusherStep}
use Rattle.model_core.specs.declared.steps.WriterStep.{WriterStep}
use Rattle.model_core.specs.declared.ops.Answer.TheVariants as answer
use Rattle.model_core.specs.declared.steps.FlusherStep.TheVariants as flusher_step
use Rattle.model_core.specs.declared.steps.UserStep.TheVariants as user_step
use Rattle.model_core.specs.declared.steps.WriterStep.TheVariants as writer_step
use Rattle.model_core.specs.States as actor
use Rattle.model_own.specs.{OwnCore, OwnTurn, UserTurn, all_actors, with_writer, LogWork, OwnUser, after_flusher, after_writer, errand_took, loads_again, own_checked, own_goes_on, own_stepped, sets_out, written, keeps_helped}
use Rattle.model_own.specs.declared.errand.ErrandStep.{ErrandStep}
use Rattle.model_own.specs.declared.errand.ErrandStep.TheVariants as errand_step
use Rattle.model_ownrun.proofs.Seats.{flusher_put, flusher_seat, flusher_there, user_put, user_there, writer_put, writer_seat, writer_there}
use Rattle.model_running.proofs.SeatsKeep.{seats_keep, turn_keeps_seats}
use Rattle.model_running.specs.Seated.{AreSeated}

abbrev SameUser : OwnUser → OwnUser → Type 0
SameUser o x = Keeps o.user x.user

module _ (o : OwnUser) (k : LogWork) where
  either : (b : Bool) (x y : OwnUser × LogWork) → SameUser o x.0 → SameUser o y.0 → SameUser o (cond b x y).0
  either true x y p q = p
  either false x y p q = q

  one_of : (b : Bool) (x y : OwnUser) → SameUser o x → SameUser o y → SameUser o (cond b x y)
  one_of true x y p q = p
  one_of false x y p q = q

  waits_same : (s : WriterState) → SameUser o (cond s.checks (written o k s) (o, record k { writer = s })).0
  waits_same s = either s.checks (written o k s) (o, record k { writer = s }) (still o.user) (still o.user)

  writer_same : (s : WriterState) (st : WriterStep) → SameUser o (after_writer o k s st).0
  writer_same s (writer_step.Advance v) = waits_same s
  writer_same s writer_step.LoadCheckpoint = waits_same s
  writer_same s _ = still o.user

  flusher_same : (f : FlusherState) (st : FlusherStep) → SameUser o (after_flusher o k f st).0
  flusher_same f flusher_step.LoadWrite = still o.user
  flusher_same f flusher_step.Failed = still o.user
  flusher_same f _ = still o.user

  take_same : (a : Answer) → SameUser o (errand_took o k a errand_step.TakeDevice).0
  take_same (answer.Taken n) = still o.user
  take_same answer.Broken = still o.user
  take_same _ = still o.user

  abbrev stepped : ℕ → UserState
  stepped n = user_took o.user n o.user.step

  stepped_same : (n : ℕ) → SameUser o (own_stepped o n)
  stepped_same n =
      let kept : Keeps o.user (stepped n) = took_keeps o.user n o.user.step in
      let u : UserState = record (stepped n) { checks = false; step = loads_again (stepped n).step } in
      let set_out : OwnUser = record o { user = u; errand = errand_step.TakeDevice } in
      let gone_on : OwnUser = record o { user = stepped n; helped = cond (keeps_helped o.user.step) o.helped false } in
      one_of (sets_out o n) set_out gone_on kept kept

  errand_same : (a : Answer) (x : ErrandStep) → SameUser o (errand_took o k a x).0
  errand_same a errand_step.Done = stepped_same (heard a)
  errand_same a errand_step.TakeDevice = take_same a
  errand_same a errand_step.GiveBroken = still o.user
  errand_same a errand_step.Write = writer_same (writer_took k.writer a k.writer.step)
      (writer_took k.writer a k.writer.step).step
  errand_same a errand_step.Flush = flusher_same (flusher_took k.flusher a k.flusher.step)
      (flusher_took k.flusher a k.flusher.step).step

  checked_same : (n : ℕ) → SameUser o (own_checked o n)
  checked_same n = by (n == 0)
    where
      by : (b : Bool) → SameUser o (record o {
        user = cond b (record o.user { checks = false })
            (record o.user { checks = false; code = n; step = user_step.Failed });
        errand = cond b o.errand errand_step.Done;
      })
      by true = still o.user
      by false = still o.user

  pub own_same : (a : Answer) → SameUser o (own_goes_on o k a).0
  own_same a = either o.user.checks (own_checked o (old_of a), k) (errand_took o k a o.errand) (checked_same (old_of a))
      (errand_same a o.errand)

module _ {live : Bool} (c : Setup) (users : List OwnUser) (k : LogWork) (others : List Actor)
    (seated : AreSeated live c (all_actors users k others)) where
  user_seated : (i : ℕ) (o x : OwnUser) (k' : LogWork) → get_elem? users i ≡ some o → SameUser o x
      → AreSeated live c (all_actors (set users i x) k' others)
  user_seated i o x k' at same =
      let us : List OwnUser = set users i x in
      let with_user = seats_keep c (all_actors users k others) seated i (actor.User o.user) (actor.User x.user)
      (user_there users k others i o at)
      (x.user, refl, same.0, same.1, same.2, same.3, same.4, same.5) in
      let s1 : AreSeated live c (all_actors us k others) =
      subst (AreSeated live c) (user_put users k others i o x at) with_user in
      let writer_in = seats_keep c (all_actors us k others) s1 (writer_seat us) (actor.Writer k.writer)
      (actor.Writer k'.writer) (writer_there us k others) (k'.writer, refl) in
      let k1 : LogWork = record k { writer = k'.writer } in
      let s2 : AreSeated live c (all_actors us k1 others) =
      subst (AreSeated live c) (writer_put us k others k'.writer) writer_in in
      let with_flusher = seats_keep c (all_actors us k1 others) s2 (flusher_seat us) (actor.Flusher k.flusher)
      (actor.Flusher k'.flusher) (flusher_there us k1 others) (k'.flusher, refl) in
      subst (AreSeated live c) (flusher_put us k1 others k'.flusher) with_flusher

module _ (D : LogSide) (E : DataSide) (c : Setup) where
  abbrev Seated : Bool → OwnCore D E → Type 0
  Seated live s = AreSeated live c (all_actors s.users s.work s.others)

  pub own_turn_keeps_seats : {live : Bool} (old new : OwnCore D E) (seat : ℕ) (answer : Answer) (step : Step)
      → Seated live old → OwnTurn D E old seat answer step new → Seated live new
  own_turn_keeps_seats {live} old new seat answer step seated t = ⊎_elim of_user
      (λ u. turn_keeps_seats D E c (with_writer old) (with_writer new) (seat + 2) answer step seated u.turn) t
    where
      of_user : UserTurn D E old seat answer step new → Seated live new
      of_user u =
          let x = own_goes_on u.who old.work answer in
          let us : List OwnUser = set old.users seat x.0 in
          let left = user_seated c old.users old.work old.others seated seat u.who x.0 x.1 u.who_is
          (own_same u.who old.work answer) in
          subst (λ (l : List OwnUser). AreSeated live c (all_actors l new.work new.others)) (sym u.users)
          (subst (λ (k : LogWork). AreSeated live c (all_actors us k new.others)) (sym u.work)
          (subst (λ (l : List Actor). AreSeated live c (all_actors us x.1 l)) (sym u.others) left))
