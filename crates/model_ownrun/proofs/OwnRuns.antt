-- From its start on a run of users that write for themselves is a running store; with one alone none of its turns is
-- idle.
use Rattle.std.proofs.Common.{List, [], ap, arith, false, get_or, inl, length, refl, subst, suc, sym, true, zero, ℕ, ⊎_elim, ◌*◌, ◌+◌, ◌∙◌, ◌∷◌, ◌≡◌, ◌≤◌}
use Rattle.std.proofs.lemmas.List.{length-set}
use lib.ListN.{get_elem?}
use mathlib.Core.Option.{some}
use Rattle.model_base.specs.declared.limits.TheConstants.{BLOCK_SIZE}
use Rattle.model_core.specs.{Actor, filled, Listed, lsn, SharedWords, took, DataSide, LogSide, Setup, start_checkpoint}
use Rattle.model_core.specs.declared.limits.TheConstants.{FREE_MARGIN}
use Rattle.model_core.specs.declared.ops.Answer.{Answer}
use Rattle.model_core.specs.declared.ops.Step.{Step}
use Rattle.model_core.specs.declared.ops.Step.TheVariants as step
use Rattle.model_core.specs.declared.steps.UserStep.{UserStep}
use Rattle.model_core.specs.States as actor
use Rattle.model_logcore.proofs.NewUsers.{new_step}
use Rattle.model_logcore.specs.{left_to_reserve}
use Rattle.model_logcore.specs.LogLaws.{LogLaws}
use Rattle.model_own.specs.{OtherTurn, OwnCore, OwnTurn, all_actors, with_writer, LogWork, OwnUser, own_goes_on, has_work}
use Rattle.model_own.specs.ErrandFits.{ErrandFits}
use Rattle.model_own.specs.declared.errand.ErrandStep.{ErrandStep}
use Rattle.model_own.specs.declared.errand.ErrandStep.TheVariants as errand_step
use Rattle.model_ownrun.proofs.AloneKeeps.{alone_turns}
use Rattle.model_ownrun.proofs.OwnKeeps.{own_turn_keeps}
use Rattle.model_ownrun.proofs.Seats.{seats_count}
use Rattle.model_ownrun.specs.OwnRunning.{Alone, AloneRunning, ErrandAlone, UserAlone, OwnRunning, WorkFits}
use Rattle.model_ownrun.specs.OwnRuns.{AskAtSeat, AskOrGo, own_store}
use Rattle.model_ownrun.specs.OwnStart.{OwnStart}
use Rattle.model_pagecore.specs.DataLaws.{DataLaws}
use Rattle.model_running.proofs.StartRunning.{both_start, start_pages}
use Rattle.model_logcore.proofs.StartHolds.{start}
use Rattle.model_running.proofs.TurnsAs.{turns_as}
use Rattle.model_running.proofs.Watermarks.{has_watermarks}
use Rattle.model_running.specs.{Asks, TakesTurns, tells_nothing}
use Rattle.model_running.specs.Watermarks.{RunningStore, HasWatermarks}

one_user : (users : List OwnUser) → length users ≡ 1 → (o : OwnUser) × (users ≡ o ∷ [])
one_user [] long = absurd (omega arith)
one_user (o ∷ []) long = (o, refl)
one_user (o ∷ x ∷ xs) long = absurd (omega arith)

no_actor : (others : List Actor) → length others ≡ 0 → ◌≡◌ {A = List Actor} others []
no_actor [] long = refl
no_actor (a ∷ others) long = absurd (omega arith)

-- no turn changes how many users and how many others there are
own_turn_keeps_count : (D : LogSide) (E : DataSide) (old new : OwnCore D E) (seat : ℕ) (answer : Answer) (how : Step)
    → OwnTurn D E old seat answer how new
    → (length new.users ≡ length old.users) × (length new.others ≡ length old.others)
own_turn_keeps_count D E old new seat answer how t = ⊎_elim
    (λ u. (
      ap (λ (l : List OwnUser). length l) u.users
          ∙ length-set old.users seat (own_goes_on u.who old.work answer).0,
      ap (λ (l : List Actor). length l) u.others,
    ))
    (λ o. (ap (λ (l : List OwnUser). length l) o.users, of_other o)) t
  where
    of_other : OtherTurn D E old seat answer how new → length new.others ≡ length old.others
    of_other o =
        let users = ap (λ (l : List OwnUser). length l) o.users in
        let all : length (all_actors new.users new.work new.others) ≡ length (all_actors old.users old.work old.others)
        = ap (λ (l : List Actor). length l) o.turn.actors
        ∙ length-set (all_actors old.users old.work old.others) (seat + 2)
        (took (filled o.turn.who o.turn.filling) answer) in
        let now = seats_count new.users new.work new.others in
        let was = seats_count old.users old.work old.others in omega arith

module _ (D : LogSide) (L : LogLaws D) (E : DataSide) (EL : DataLaws E) (c : Setup) where
  -- the store as the run begins
  started : (s : OwnCore D E) (S : OwnStart D E c s)
      → (r : RunningStore D E c s.layout s.words s.lists s.log_part s.data_part (all_actors s.users s.work s.others))
      × (r.shared ≡ S.shared)
  started s S =
      subst (λ (ls : ℕ → List Listed).
      (r : RunningStore D E c s.layout s.words ls s.log_part s.data_part (all_actors s.users s.work s.others))
      × (r.shared ≡ S.shared)) (sym S.lists_are) (
        record {
          shared = S.shared;
          log_ghost = start D c S.shared s.log_part S.seat_of S.writer S.store.words S.store.log_part;
          page_ghost = start_pages c;
          layout_is = S.layout_is;
          flat_is = S.flat_is;
          both = both_start D E c S.shared s.log_part s.data_part S.seat_of S.writer
              (all_actors s.users s.work s.others) S.store S.room;
        },
        refl,
      )

  pub own_starts : (s : OwnCore D E) → OwnStart D E c s → OwnRunning D E c s
  own_starts s S = record {
    running = (started s S).0;
    errands = record {
      fits = λ seat o at. subst (λ (x : ErrandStep). ErrandFits o.user x) (sym (S.users seat o at).0) tt;
      alone = λ i j o x at there has too. let z : false ≡ true = sym (ap has_work (S.users i o at).0) ∙ has in
          absurd (cc);
      work = inl (
        (λ seat o at. ap has_work (S.users seat o at).0),
        subst
            (λ (k : LogWork). WorkFits D s.log_part errand_step.Done k) (sym S.work)
            (record { writer_goes_on = refl; flusher_goes_on = refl; step = (tt, tt) }),
      );
    };
  }

  pub own_run_keeps : (seed max n : ℕ) (first last : OwnCore D E) → OwnRunning D E c first
      → TakesTurns (own_store D E tells_nothing) seed max n first last → OwnRunning D E c last
  own_run_keeps seed max zero first last before is = subst (OwnRunning D E c) (sym is) before
  own_run_keeps seed max (suc n) first last before r =
      own_turn_keeps D L E EL c r.before last _ r.turn.answer r.step
      (own_run_keeps seed max n first r.before before r.earlier) r.turn.turn

  -- so each of the watermarks holds between any two turns
  pub own_watermarks : (s : OwnCore D E) → OwnRunning D E c s → HasWatermarks D E c (with_writer s)
  own_watermarks s r = has_watermarks D L E EL c (with_writer s) r.running

  -- one user, the log alone, space for all its groups, and no other actor
  pub alone_starts : (s : OwnCore D E) (S : OwnStart D E c s) (o : OwnUser) → c.log_only ≡ true
      → s.users ≡ o ∷ [] → ◌≡◌ {A = List Actor} s.others []
      → lsn (c.base + left_to_reserve (actor.User o.user)) + FREE_MARGIN ≤ start_checkpoint c + BLOCK_SIZE * c.blocks
      → AloneRunning D E c s
  unfolding own_starts started
  alone_starts s S o log_only one none room =
      let there : get_elem? s.users 0 ≡ some o = ap (λ (us : List OwnUser). get_elem? us 0) one in
      let seat : get_elem? (all_actors s.users s.work s.others) 0 ≡ some (actor.User o.user) =
      ap (λ (us : List OwnUser). get_elem? (all_actors us s.work s.others) 0) one in
      let off = (S.users 0 o there).0 in
      let unhelped = (S.users 0 o there).1 in
      let w = S.store.words in
      record {
        log_only = log_only;
        own = own_starts s S;
        who = o;
        users = one;
        others = none;
        alone = subst (λ (m : SharedWords). Alone c m o s.work) (sym (started s S).1) (record {
          room = (let sn = w.sn in let ckpt = w.ckpt in
              subst (λ (x : ℕ). lsn (x + left_to_reserve (actor.User o.user)) + FREE_MARGIN ≤ S.shared.ckpt
              + BLOCK_SIZE * c.blocks) (sym sn) (omega arith));
          user = new_step c o.user (S.store.each 0 (actor.User o.user) seat).1
              (λ (t : UserStep). UserAlone S.shared o.user t) tt tt;
          errand = subst (λ (x : ErrandStep). ErrandAlone S.shared o.user s.work x) (sym off) tt;
          out = inl off;
          helped = λ h. let z : false ≡ true = sym unhelped ∙ h in absurd (cc);
        });
      }

  -- one user and no other actor are so as a run of these begins
  abbrev pub AloneFrom : OwnCore D E → Type 0
  AloneFrom s = (user : OwnUser) → s.users ≡ user ∷ [] → ◌≡◌ {A = List Actor} s.others [] → AloneRunning D E c s

  -- THE law of own writes: a user that is alone is never idle
  pub never_idle : (old new : OwnCore D E) (seat : ℕ) (answer : Answer) (how : Step) → AloneFrom old
      → OwnTurn D E old seat answer how new
      → ((user : OwnUser) → old.users ≡ user ∷ [] → ◌≡◌ {A = List Actor} old.others [] → how ≡ step.Idle → ⊥)
      × AloneFrom new
  never_idle old new seat answer how before t = (
    (λ user one none. (law user one none).1),
    λ user one none.
        let count = own_turn_keeps_count D E old new seat answer how t in
        let was = one_user old.users (sym count.0 ∙ ap (λ (l : List OwnUser). length l) one) in
        (law was.0 was.1 (no_actor old.others (sym count.1 ∙ ap (λ (l : List Actor). length l) none))).0,
  )
    where
      law : (user : OwnUser) → old.users ≡ user ∷ [] → ◌≡◌ {A = List Actor} old.others []
          → AloneRunning D E c new × (how ≡ step.Idle → ⊥)
      law user one none = let alone = before user one none in
          alone_turns D L E EL c alone.log_only old new seat answer how alone t

-- each of the watermarks holds after any turns from its start on
pub runs_have_watermarks : (D : LogSide) → LogLaws D → (E : DataSide) → DataLaws E
    → (c : Setup) (seed max n : ℕ) (first last : OwnCore D E) → OwnStart D E c first
    → TakesTurns (own_store D E tells_nothing) seed max n first last
    → HasWatermarks D E c (with_writer last)
runs_have_watermarks D L E EL c seed max n first last S turns =
    own_watermarks D L E EL c last
    (own_run_keeps D L E EL c seed max n first last (own_starts D L E EL c first S) turns)

-- and where one user is alone none of them is idle
pub alone_never_idle : (D : LogSide) → LogLaws D → (E : DataSide) → DataLaws E → (Ask : Asks D E)
    → (c : Setup) (seed max n : ℕ) (first last : OwnCore D E) (user : OwnUser) → OwnStart D E c first
    → c.log_only ≡ true → first.users ≡ user ∷ [] → ◌≡◌ {A = List Actor} first.others []
    → lsn (c.base + left_to_reserve (actor.User user.user)) + FREE_MARGIN ≤ start_checkpoint c + BLOCK_SIZE * c.blocks
    → TakesTurns (own_store D E (AskAtSeat D E Ask)) seed max n first last
    → TakesTurns (own_store D E (AskOrGo D E Ask)) seed max n first last
alone_never_idle D L E EL Ask c seed max n first last user S log_only one none room turns =
    (turns_as (own_store D E (AskAtSeat D E Ask)) (own_store D E (AskOrGo D E Ask)) (λ (s : OwnCore D E). s)
    (AloneFrom D L E EL c) (λ s. refl) (λ s. refl)
    (λ old new seat how alone t.
    let law = never_idle D L E EL c old new seat t.answer how alone t.turn in
    (record { answer = t.answer; turn = t.turn; told = record { asked = t.told; alone = law.0 } }, law.1))
    seed max first
    (λ o its none. alone_starts D L E EL c first S o log_only its none
    (subst (λ (x : OwnUser). lsn (c.base + left_to_reserve (actor.User x.user)) + FREE_MARGIN ≤ start_checkpoint c
    + BLOCK_SIZE * c.blocks) (ap (λ (us : List OwnUser). get_or us 0 user) (sym one ∙ its)) room))
    n last turns).0
