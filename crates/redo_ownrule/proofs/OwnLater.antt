-- The same player, later.
use Rattle.std.proofs.Common.{Bool, List, [], ap, append-nil, cond, false, refl, subst, sym, true, ⊎_elim, ◌∙◌, ◌≡◌}
use Rattle.model_core.proofs.Later.{checked_keeps, Keeps, later_refl, still, took_keeps}
use Rattle.model_core.specs.{FlusherState, flusher_took, Given, heard, old_of, user_took, UserState, writer_took, WriterState, IsSameActor}
use Rattle.model_core.specs.States as model
use Rattle.model_core.specs.declared.ops.Answer.{Answer}
use Rattle.model_core.specs.declared.ops.Answer.TheVariants as answer
use Rattle.model_core.specs.declared.ops.Step.{Step}
use Rattle.model_core.specs.declared.steps.FlusherStep.{FlusherStep}
use Rattle.model_core.specs.declared.steps.FlusherStep.TheVariants as flusher_step
use Rattle.model_core.specs.declared.steps.WriterStep.{WriterStep}
use Rattle.model_core.specs.declared.steps.WriterStep.TheVariants as writer_step
use Rattle.model_own.specs.{after_flusher, after_writer, errand_took, keeps_helped, loads_again, LogWork, own_checked, own_goes_on, own_stepped, OwnUser, sets_out, written}
use Rattle.model_own.specs.declared.errand.ErrandStep.{ErrandStep}
use Rattle.model_own.specs.declared.errand.ErrandStep.TheVariants as errand_step
use Rattle.redo_disk.specs.{Seen}
use Rattle.redo_drive.specs.{view_of}
use Rattle.redo_drive.specs.declared.actor.Actor.{Actor}
use Rattle.redo_drive.specs.declared.actor.Actor.TheVariants as own
use Rattle.redo_ownrule.specs.OwnMine.{KeepsOwnSeat, OwnHasGone}
use Rattle.redo_ownrule.specs.Players.{actor_of, IsSamePlayer}
use Rattle.redo_ownrule.specs.declared.player.Player.{Player}
use Rattle.redo_ownrule.specs.declared.player.Player.TheVariants as player
use Rattle.redo_rule.proofs.Behind.{played_later}
use Rattle.redo_rule.specs.Mine.{HasGone, heard_of, IsSameSeat}
use Rattle.redo_rule.specs.declared.law.Heard.{Heard}
use Rattle.redo_rule.specs.declared.law.View.{View}

-- what a turn on the table makes of an actor
gone_later : {L D : Type 0} (log_seen : L → Seen) (data_seen : D → Seen) {v : View L D} (a : model.Actor) (step : Step)
    (b : model.Actor) → HasGone log_seen data_seen v a step b → IsSameActor a b
gone_later log_seen data_seen a step b gone = ⊎_elim
    (λ rests. subst (λ (x : model.Actor). IsSameActor a x) (sym rests.1) (later_refl a))
    (λ played. played_later log_seen data_seen a b step played)
    gone

-- a user that writes for itself keeps what any user does
module _ (o : OwnUser) (k : LogWork) (r : Answer) where
  abbrev Same : OwnUser → Type 0
  Same x = Keeps o.user x.user

  two : (b : Bool) (x y : OwnUser) → Same x → Same y → Same (cond b x y)
  two true x y p q = p
  two false x y p q = q

  either : (b : Bool) (x y : OwnUser × LogWork) → Same x.0 → Same y.0 → Same (cond b x y).0
  either true x y p q = p
  either false x y p q = q

  steps_same : Same (own_stepped o (heard r))
  steps_same =
      let then : UserState = user_took o.user (heard r) o.user.step in
      let same : Keeps o.user then = took_keeps o.user (heard r) o.user.step in
      two (sets_out o (heard r))
      (record o { user = record then { checks = false; step = loads_again then.step }; errand = errand_step.TakeDevice })
      (record o { user = then; helped = cond (keeps_helped o.user.step) o.helped false }) same same

  writer_same : (s : WriterState) (w : WriterStep) → Same (after_writer o k s w).0
  writer_same s (writer_step.Advance v) =
      either s.checks (written o k s) (o, record k { writer = s }) (still o.user) (still o.user)
  writer_same s writer_step.LoadCheckpoint =
      either s.checks (written o k s) (o, record k { writer = s }) (still o.user) (still o.user)
  writer_same s _ = still o.user

  flusher_same : (f : FlusherState) (w : FlusherStep) → Same (after_flusher o k f w).0
  flusher_same f flusher_step.LoadWrite = still o.user
  flusher_same f _ = still o.user

  takes_same : (a : Answer) → Same (errand_took o k a errand_step.TakeDevice).0
  takes_same (answer.Taken n) = still o.user
  takes_same answer.Broken = still o.user
  takes_same _ = still o.user

  errand_same : (x : ErrandStep) → Same (errand_took o k r x).0
  errand_same errand_step.Done = steps_same
  errand_same errand_step.TakeDevice = takes_same r
  errand_same errand_step.GiveBroken = still o.user
  errand_same errand_step.Write = let s = writer_took k.writer r k.writer.step in writer_same s s.step
  errand_same errand_step.Flush = let f = flusher_took k.flusher r k.flusher.step in flusher_same f f.step

  pub own_same : Same (own_goes_on o k r).0
  own_same = either o.user.checks (own_checked o (old_of r), k) (errand_took o k r o.errand)
      (checked_keeps o.user (old_of r)) (errand_same o.errand)

own_later : {L D : Type 0} (log_seen : L → Seen) (data_seen : D → Seen) {v : View L D} (o : OwnUser) (step : Step)
    (x : OwnUser) → OwnHasGone log_seen data_seen v o step x → IsSameActor (model.User o.user) (model.User x.user)
own_later log_seen data_seen o step x gone = ⊎_elim
    (λ rests. subst (λ (y : OwnUser). IsSameActor (model.User o.user) (model.User y.user)) (sym rests.1)
    (later_refl (model.User o.user)))
    (λ played. let same = own_same o played.work played.answer in
    subst (λ (y : OwnUser). IsSameActor (model.User o.user) (model.User y.user)) (sym played.is)
    ((own_goes_on o played.work played.answer).0.user, refl, same.0, same.1, same.2, same.3, same.4, same.5))
    gone

module _ {L D R : Type 0} (log_seen : L → Seen) (data_seen : D → Seen) {v : View L D} (p : Player R) (step : Step) where
  pub plain_later : (a b : Actor R) → p ≡ player.Plain a → HasGone log_seen data_seen v (view_of a) step (view_of b)
      → IsSamePlayer p (player.Plain b)
  plain_later a b is gone = subst (λ (q : Player R). IsSamePlayer q (player.Plain b)) (sym is)
      (gone_later log_seen data_seen (view_of a) step (view_of b) gone)

  pub user_later : (o x : OwnUser) → p ≡ player.Own o → OwnHasGone log_seen data_seen v o step x
      → IsSamePlayer p (player.Own x)
  user_later o x is gone = subst (λ (q : Player R). IsSamePlayer q (player.Own x)) (sym is)
      (own_later log_seen data_seen o step x gone)

-- and its seat hears nothing by its turn
pub same_seat : {L D R : Type 0} (stands : R → List Given → Type 0) (v w : View L D) (p : Player R) (o x : OwnUser)
    → p ≡ player.Own o → KeepsOwnSeat v w → IsSameSeat stands v (actor_of p) w (own.User x.user)
same_seat {L} {D} {R} stands v w p o x is keeps =
    subst (λ (q : Player R). IsSameSeat stands v (actor_of q) w (own.User x.user)) (sym is) (record {
      about = keeps.about;
      number = keeps.number;
      layout = keeps.layout;
      same = tt;
      since = [];
      heard = ap (λ (h : Heard). h.groups) keeps.heard ∙ sym (append-nil (heard_of v).groups);
      appended = [];
      blocks = ap (λ (h : Heard). h.blocks) keeps.heard ∙ sym (append-nil (heard_of v).blocks);
      got = tt;
      reads = ap (λ (h : Heard). h.reads) keeps.heard;
    })
