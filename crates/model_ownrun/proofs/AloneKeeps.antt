-- With one user that writes for itself, the log alone and no other actor, no turn is idle, and that stays so.
use Rattle.std.proofs.Common.{Bool, List, [], ap, arith, cond, eqb, false, inl, inr, length, refl, set, subst, suc, sym, true, zero, ℕ, ⊎_elim, ◌+◌, ◌-◌, ◌∙◌, ◌∷◌, ◌≡◌, ◌≤◌}
use Rattle.std.proofs.lemmas.Bool.{eqb-false}
use Rattle.std.specs.Prelude.{None}
use lib.ListN.{get_elem?}
use mathlib.Core.Option.{some, some-injective, some-ne-none}
use Rattle.model_core.specs.ActorProgram.{opposite}
use Rattle.model_core.specs.{writer_holds_tail, Actor, flusher_holds, heard, holds, Listed, LogServed, lsn, old_of, shared_left, SharedWords, user_ending, user_op, user_took, user_waits, UserState, writer_holds, DataSide, LogSide, Setup}
use Rattle.model_core.specs.declared.ops.Answer.{Answer}
use Rattle.model_core.specs.declared.ops.Op.{Op}
use Rattle.model_core.specs.declared.ops.Step.{Step}
use Rattle.model_core.specs.declared.steps.FlusherStep.{FlusherStep}
use Rattle.model_core.specs.declared.steps.UserStep.{UserStep}
use Rattle.model_core.specs.declared.steps.WriterStep.{WriterStep}
use Rattle.model_core.specs.declared.ops.Answer.TheVariants as answer
use Rattle.model_core.specs.declared.ops.Op.TheVariants as op
use Rattle.model_core.specs.declared.ops.Step.TheVariants as step
use Rattle.model_core.specs.declared.steps.AdvanceStep.TheVariants as advance_step
use Rattle.model_core.specs.declared.steps.FlusherStep.TheVariants as flusher_step
use Rattle.model_core.specs.declared.steps.UserStep.TheVariants as user_step
use Rattle.model_core.specs.declared.steps.WriterStep.TheVariants as writer_step
use Rattle.model_core.specs.declared.words.LinkBuffer.TheVariants as link_buffer
use Rattle.model_core.specs.declared.words.Word.TheVariants as word
use Rattle.model_core.specs.States as actor
use Rattle.model_logcore.specs.LogLaws.{LogLaws}
use Rattle.model_own.specs.{OtherTurn, OwnCore, OwnTurn, UserTurn, all_actors, LogWork, OwnUser, errand_lends, errand_op, errand_took, errand_waits, helps_at, keeps_helped, loads_again, own_checked, own_goes_on, own_lends, own_next, own_step_of, sets_out, taken_up, has_work}
use Rattle.model_own.specs.ErrandFits.{ErrandFits}
use Rattle.model_own.specs.declared.errand.ErrandStep.{ErrandStep}
use Rattle.model_own.specs.declared.errand.ErrandStep.TheVariants as errand_step
use Rattle.model_ownrun.proofs.AloneErrand.{flush_goes, on, out_knows, write_goes}
use Rattle.model_ownrun.proofs.AloneUser.{Goes, user_goes}
use Rattle.model_ownrun.proofs.Errands.{in_hand}
use Rattle.model_ownrun.proofs.Moves.{answer_to, Runs}
use Rattle.model_ownrun.proofs.OwnKeeps.{answered_by_name, own_user_turn, shared_is}
use Rattle.model_ownrun.specs.OwnRunning.{Alone, AloneRunning, ErrandAlone, HasHelped, OutAt, UserAlone, WriterAlone, top, Errands, IsFlusherAtRest, IsWriterAtRest, SomebodyAtWork, WorkFits}
use Rattle.model_pagecore.specs.DataLaws.{DataLaws}
use Rattle.model_running.specs.Watermarks.{BothHalves}

-- how a step ends that doesn't wait
ends_moved : (code : ℕ) (s : UserStep) → user_ending code s ≡ step.Idle → ⊥
ends_moved code user_step.Done e = absurd (cc)
ends_moved code user_step.Failed e = absurd (cc)
ends_moved code _ e = absurd (cc)

moves : (waits : Bool) (code : ℕ) (s : UserStep) → waits ≡ false
    → cond waits step.Idle (user_ending code s) ≡ step.Idle → ⊥
moves true code s w e = absurd (cc)
moves false code s w e = ends_moved code s e

checks_moved : (b : Bool) (n : ℕ) → cond b step.Moved (step.Failed n) ≡ step.Idle → ⊥
checks_moved true n e = absurd (cc)
checks_moved false n e = absurd (cc)

-- the user with another flag or code knows the same
checks_same : (m : SharedWords) (u : UserState) (b : Bool) (s : UserStep) → UserAlone m u s
    → UserAlone m (record u { checks = b }) s
checks_same m u b (user_step.AdvanceWritten advance_step.LoadTail) z = z
checks_same m u b (user_step.AdvanceWritten advance_step.TakeTail) z = z
checks_same m u b (user_step.AdvanceWritten advance_step.LoadLink) z = z
checks_same m u b (user_step.AdvanceWritten advance_step.ClearLink) z = z
checks_same m u b (user_step.AdvanceWritten advance_step.FreeTail) z = z
checks_same m u b _ z = z

out_again : (s : UserStep) → OutAt s → loads_again s ≡ s
out_again user_step.LoadCheckpoint z = refl
out_again user_step.LoadWrite z = refl
out_again user_step.AwaitMark z = refl
out_again _ z = absurd z

-- the writer and the flusher at rest hold nothing
rest_free : (D : LogSide) (p : D.Part) (w : WriterStep) → IsWriterAtRest D p w
    → (writer_holds_tail link_buffer.Written w ≡ false) × (writer_holds w ≡ false)
rest_free D p (writer_step.Advance advance_step.LoadTail) z = (refl, refl)
rest_free D p writer_step.Failed z = (refl, refl)
rest_free D p (writer_step.Advance advance_step.TakeTail) z = absurd z
rest_free D p (writer_step.Advance advance_step.LoadLink) z = absurd z
rest_free D p (writer_step.Advance advance_step.ClearLink) z = absurd z
rest_free D p (writer_step.Advance advance_step.FreeTail) z = absurd z
rest_free D p _ z = absurd z

flusher_free : (D : LogSide) (p : D.Part) (f : FlusherStep) → IsFlusherAtRest D p f → flusher_holds f ≡ false
flusher_free D p flusher_step.LoadWrite z = refl
flusher_free D p flusher_step.Failed z = refl
flusher_free D p _ z = absurd z

module _ (D : LogSide) (L : LogLaws D) (E : DataSide) (EL : DataLaws E) (c : Setup)
    (alone_log : c.log_only ≡ true) where
  module _ (m : SharedWords) (ls : ℕ → List Listed) (p : D.Part) (d : E.Part) (o : OwnUser) (k : LogWork)
      (runs : Runs D E c m ls p d (all_actors (o ∷ []) k [])) (errands : Errands D p (o ∷ []) k)
      (alone : Alone c m o k) (code : ℕ) (q : D.Part) where
    fits : ErrandFits o.user o.errand
    fits = errands.fits 0 o refl

    abbrev told : Op → Answer
    told a = answer_to D p code q m ls a

    -- an Op leaves it alone, and isn't idle
    abbrev Left : Op → (Answer → OwnUser × LogWork) → Type 0
    Left a f = Alone c (shared_left m a) (f (told a)).0 (f (told a)).1

    -- its check for a failure
    checking : o.user.checks ≡ true → Alone c m (own_checked o m.failed) k
    checking asks = by (eqb m.failed 0)
      where
        unhelped : o.helped ≡ true → ⊥
        unhelped h = let z : true ≡ false = sym asks ∙ (alone.helped h).1 in absurd (cc)

        same : (x : ErrandStep) → ErrandFits o.user x → ErrandAlone m o.user k x
            → ErrandAlone m (record o.user { checks = false }) k x
        same errand_step.Done f z = tt
        same errand_step.TakeDevice f z = tt
        same errand_step.GiveBroken f z = tt
        same errand_step.Write f z = let n : true ≡ false = sym asks ∙ f.1 in absurd (cc)
        same errand_step.Flush f z = let n : true ≡ false = sym asks ∙ f.1 in absurd (cc)

        by : (b : Bool) → Alone c m (record o {
          user = cond b (record o.user { checks = false })
              (record o.user { checks = false; code = m.failed; step = user_step.Failed });
          errand = cond b o.errand errand_step.Done;
        }) k
        by true = record {
          room = alone.room;
          user = checks_same m o.user false o.user.step alone.user;
          errand = same o.errand fits alone.errand;
          out = alone.out;
          helped = λ h. absurd (unhelped h);
        }
        by false = record {
          room = alone.room;
          user = tt;
          errand = tt;
          out = inl refl;
          helped = λ h. absurd (unhelped h);
        }

    -- with nothing in hand the log's work is at rest
    idle : has_work o.errand ≡ false → WorkFits D p errand_step.Done k
    idle none = ⊎_elim (λ z. z.1) somebody errands.work
      where
        which : (seat : ℕ) (x : OwnUser) → get_elem? (o ∷ []) seat ≡ some x → has_work x.errand ≡ true → ⊥
        which zero x at has =
            let same = ap (λ (y : OwnUser). has_work y.errand) (some-injective o x at) in
            let z : false ≡ true = sym none ∙ same ∙ has in absurd (cc)
        which (suc n) x at has = absurd (some-ne-none x (sym at))

        somebody : SomebodyAtWork D p (o ∷ []) k → WorkFits D p errand_step.Done k
        somebody (seat, x, there, has, work) = absurd (which seat x there has)

    -- so the log part is free
    part_free : WorkFits D p errand_step.Done k → (b : Bool) → eqb m.device 0 ≡ b → b ≡ true
    part_free work true e = refl
    part_free work false e =
        let isnt = eqb-false m.device 0 e in
        let one = runs.2.logged.global.part.turn_word in
        let t = runs.2.logged.taken (omega arith) in
        absurd (which runs.0.holder t.0 t.1 t.2)
      where
        which : (seat : ℕ) (a : Actor) → get_elem? (all_actors (o ∷ []) k []) seat ≡ some a → holds a ≡ true → ⊥
        which zero a at h =
            let z : false ≡ true = ap holds (some-injective (actor.User o.user) a at) ∙ h in absurd (cc)
        which (suc zero) a at h =
            let none = (rest_free D p k.writer.step work.step.0).1 in
            let z : false ≡ true = sym none ∙ ap holds (some-injective (actor.Writer k.writer) a at) ∙ h in absurd (cc)
        which (suc (suc zero)) a at h =
            let none = flusher_free D p k.flusher.step work.step.1 in
            let z : false ≡ true = sym none ∙ ap holds (some-injective (actor.Flusher k.flusher) a at) ∙ h in
            absurd (cc)
        which (suc (suc (suc n))) a at h = absurd (some-ne-none a (sym at))

    module _ (asks : o.user.checks ≡ false) where
      abbrev asked : Op
      asked = user_op o.user o.user.step

      abbrev heard_by : ℕ
      heard_by = heard (told asked)

      abbrev stepped : UserState
      stepped = user_took o.user heard_by o.user.step

      abbrev waits : Bool
      waits = user_waits o.user heard_by o.user.step

      abbrev set_out : OwnUser
      set_out = record o {
        user = record stepped { checks = false; step = loads_again stepped.step };
        errand = errand_step.TakeDevice;
      }

      abbrev gone_on : OwnUser
      gone_on = record o { user = stepped; helped = cond (keeps_helped o.user.step) o.helped false }

      -- it goes on as this user, and doesn't wait
      abbrev Stepped : Bool → Type 0
      Stepped out = Alone c (shared_left m asked) (cond out set_out gone_on) k × (cond out false waits ≡ false)

      -- its own step
      stepping : o.errand ≡ errand_step.Done → Stepped (sets_out o heard_by)
      stepping off = ⊎_elim goes_on sets goes.0
        where
          work : WorkFits D p errand_step.Done k
          work = idle (ap has_work off)

          free : writer_holds_tail link_buffer.Written k.writer.step ≡ false
          free = (rest_free D p k.writer.step (idle (ap has_work off)).step.0).0

          goes : Goes D E c m ls p d o k runs alone_log alone asks code q free o.user.step waits
              (shared_left m asked) stepped
          goes = user_goes D E c m ls p d o k runs alone_log alone asks code q free

          goes_on : (waits ≡ false) × UserAlone (shared_left m asked) stepped stepped.step
              → Stepped (sets_out o heard_by)
          goes_on (quiet, knows) =
              let stays_in : sets_out o heard_by ≡ false =
              ap (λ (w : Bool). cond w (cond (helps_at o.user.step) (opposite o.helped) false) false) quiet in
              subst Stepped (sym stays_in) (
                record {
                  room = goes.1;
                  user = knows;
                  errand = subst (λ (x : ErrandStep). ErrandAlone (shared_left m asked) stepped k x) (sym off) tt;
                  out = inl off;
                  helped = λ h. still (keeps_helped o.user.step) refl h;
                },
                quiet,
              )
            where
              still : (b : Bool) → keeps_helped o.user.step ≡ b → cond b o.helped false ≡ true
                  → HasHelped (shared_left m asked) stepped stepped.step × (stepped.checks ≡ false)
              still true e h = let r = goes.2 e (alone.helped h).0 in (r.0, r.1 ∙ asks)
              still false e h = absurd (cc)

          sets : (waits ≡ true) × (helps_at o.user.step ≡ true) × (o.helped ≡ false) × OutAt stepped.step
              → Stepped (sets_out o heard_by)
          sets (would_wait, helps, unhelped, out) =
              let goes_out : sets_out o heard_by ≡ true =
              ap (λ (w : Bool). cond w (cond (helps_at o.user.step) (opposite o.helped) false) false) would_wait
              ∙ ap (λ (w : Bool). cond w (opposite o.helped) false) helps ∙ ap opposite unhelped in
              let again : OutAt (loads_again stepped.step) = subst OutAt (sym (out_again stepped.step out)) out in
              subst Stepped (sym goes_out) (
                record {
                  room = goes.1;
                  user = out_knows (shared_left m asked) set_out.user (loads_again stepped.step) again;
                  errand = tt;
                  out = inr (again, unhelped);
                  helped = λ h. let z : false ≡ true = sym unhelped ∙ h in absurd (cc);
                },
                refl,
              )

      is_out : (x : ErrandStep) → o.errand ≡ x → (x ≡ errand_step.Done → ⊥) → OutAt o.user.step × (o.helped ≡ false)
      is_out x is isnt = ⊎_elim (λ z. absurd (isnt (sym is ∙ z))) (λ z. z) alone.out

      work_in : (x : ErrandStep) → o.errand ≡ x → has_work x ≡ true → WorkFits D p x k
      work_in x is has = subst (λ (y : ErrandStep). WorkFits D p y k) is
          (in_hand D p (o ∷ []) k errands 0 o refl (ap has_work is ∙ has))

      knows_at : (x : ErrandStep) → o.errand ≡ x → ErrandAlone m o.user k x
      knows_at x is = subst (λ (y : ErrandStep). ErrandAlone m o.user k y) is alone.errand

      -- it asks for DEVICE: free and sound, free and failed, or held
      abbrev answered : Bool → Bool → Answer
      answered free broken = cond free (cond broken answer.Broken (answer.Taken None)) answer.Held

      abbrev took : Bool → Bool → OwnUser × LogWork
      took free broken = errand_took o k (answered free broken) errand_step.TakeDevice

      -- the writer before a round knows nothing yet
      begins : (m1 : SharedWords) (n : ℕ) (w : WriterStep) → IsWriterAtRest D p w → WriterAlone m1 n k.writer w
      begins m1 n (writer_step.Advance advance_step.LoadTail) z = tt
      begins m1 n writer_step.Failed z = tt
      begins m1 n (writer_step.Advance advance_step.TakeTail) z = absurd z
      begins m1 n (writer_step.Advance advance_step.LoadLink) z = absurd z
      begins m1 n (writer_step.Advance advance_step.ClearLink) z = absurd z
      begins m1 n (writer_step.Advance advance_step.FreeTail) z = absurd z
      begins m1 n _ z = absurd z

      errand_by : (x : ErrandStep) → o.errand ≡ x → LogServed D p (errand_lends k x) (errand_op o k x) code q
          → Left (errand_op o k x) (λ a. errand_took o k a x) × (errand_waits o (told (errand_op o k x)) x ≡ false)
      errand_by errand_step.Done is served = stepping is
      errand_by errand_step.TakeDevice is served =
          by (eqb m.device 0) (part_free work (eqb m.device 0) refl) (D.failed p)
        where
          work : WorkFits D p errand_step.Done k
          work = idle (ap has_work is)

          u : OutAt o.user.step × (o.helped ≡ false)
          u = is_out errand_step.TakeDevice is (λ e. absurd (cc))

          takes_up : (errand : ErrandStep) → ErrandAlone (record m { device = 1 }) o.user (taken_up k) errand
              → Alone c (record m { device = 1 }) (record o { errand = errand }) (taken_up k)
          takes_up errand knows = on D L E c m ls p d o k runs alone asks u.0 u.1 code q
              (record m { device = 1 }) errand
              (taken_up k) refl refl knows

          by : (b : Bool) → b ≡ true → (broken : Bool)
              → Alone c (cond b (record m { device = 1 }) m) (took b broken).0 (took b broken).1
              × (errand_waits o (answered b broken) errand_step.TakeDevice ≡ false)
          by true e true = (takes_up errand_step.GiveBroken tt, refl)
          by true e false =
              let m1 : SharedWords = record m { device = 1 } in
              (takes_up errand_step.Write (begins m1 (lsn (top m1 o.user o.user.step)) k.writer.step work.step.0), refl)
          by false e broken = absurd (cc)
      errand_by errand_step.GiveBroken is served =
          let u = is_out errand_step.GiveBroken is (λ e. absurd (cc)) in (
            record {
              room = alone.room;
              user = out_knows (record m { device = 0 }) (record o.user { checks = true }) o.user.step u.0;
              errand = tt;
              out = inr u;
              helped = λ h. let z : false ≡ true = sym u.1 ∙ h in absurd (cc);
            },
            refl,
          )
      errand_by errand_step.Write is served =
          let u = is_out errand_step.Write is (λ e. absurd (cc)) in
          let work = work_in errand_step.Write is refl in
          let knows = knows_at errand_step.Write is in
          let gone = write_goes D L E c m ls p d o k runs alone asks u.0 u.1 code q is k.writer.step refl
          work.step knows in
          (gone, refl)
      errand_by errand_step.Flush is served =
          let u = is_out errand_step.Flush is (λ e. absurd (cc)) in
          let work = work_in errand_step.Flush is refl in
          let knows = knows_at errand_step.Flush is in
          let gone = flush_goes D L E c m ls p d o k runs alone asks u.0 u.1 code q is work.step.0 knows.0
          k.flusher.step refl work.step.1 knows.1 served in
          (gone, refl)

    abbrev next_op : Bool → Op
    next_op b = cond b (op.Load word.Failed) (errand_op o k o.errand)

    abbrev next_state : Bool → OwnUser × LogWork
    next_state b = cond b (own_checked o (old_of (told (next_op b))), k) (errand_took o k (told (next_op b)) o.errand)

    abbrev next_step : Bool → Step
    next_step b = cond b (cond (eqb (old_of (told (next_op b))) 0) step.Moved (step.Failed (old_of (told (next_op b)))))
        (cond (errand_waits o (told (next_op b)) o.errand) step.Idle
        (user_ending (next_state b).0.user.code (next_state b).0.user.step))

    next_by : (b : Bool) → o.user.checks ≡ b → LogServed D p (own_lends o k) (next_op b) code q
        → Alone c (shared_left m (next_op b)) (next_state b).0 (next_state b).1 × (next_step b ≡ step.Idle → ⊥)
    next_by true asks served = (checking asks, checks_moved (eqb m.failed 0) m.failed)
    next_by false asks served = let r = errand_by asks o.errand refl served in (r.0, moves _ _ _ r.1)

    -- THE law, over the words by name: its Op isn't idle
    own_alone : LogServed D p (own_lends o k) (own_next o k) code q
        → Left (own_next o k) (λ a. own_goes_on o k a) × (own_step_of o k (told (own_next o k)) ≡ step.Idle → ⊥)
    own_alone served = next_by o.user.checks refl served

  -- the same of a store's turn
  module _ (old new : OwnCore D E) (seat : ℕ) (answer : Answer) (ended : Step)
      (before : AloneRunning D E c old) where
    abbrev m : SharedWords
    m = before.own.running.shared

    abbrev Both : List Actor → Type 0
    Both actors = BothHalves D E c m before.own.running.log_ghost before.own.running.page_ghost old.lists
        old.log_part old.data_part actors

    -- after the turn of this user and its answer
    abbrev AloneAfter : OwnUser → Answer → Type 0
    AloneAfter o r = Alone c (shared_left m (own_next o old.work)) (own_goes_on o old.work r).0
        (own_goes_on o old.work r).1

    abbrev answer_given : OwnUser → ℕ → Answer
    answer_given o code = answer_to D old.log_part code new.log_part m old.lists (own_next o old.work)

    of_user : UserTurn D E old seat answer ended new → AloneRunning D E c new × (ended ≡ step.Idle → ⊥)
    of_user t = (
      record {
        log_only = alone_log;
        own = own_user_turn D L E EL c old new seat answer ended before.own t;
        who = (own_goes_on t.who old.work answer).0;
        users = t.users ∙ seat_is.1 (own_goes_on t.who old.work answer).0;
        others = t.others ∙ before.others;
        alone = subst (λ (s : SharedWords). Alone c s (own_goes_on t.who old.work answer).0 new.work)
            (sym (shared_is D L E EL c old new seat answer ended before.own t)) alone_then;
      },
      (λ is. law.1 (sym (ap (own_step_of t.who old.work) said) ∙ sym t.ends ∙ is)),
    )
      where
        by : (s : ℕ) → get_elem? (before.who ∷ []) s ≡ some t.who
            → (t.who ≡ before.who) × ((x : OwnUser) → set (before.who ∷ []) s x ≡ x ∷ [])
        by zero there = (sym (some-injective before.who t.who there), (λ x. refl))
        by (suc s) there = absurd (some-ne-none t.who (sym there))

        -- it is the one user, in the first seat
        seat_is : (t.who ≡ before.who) × ((x : OwnUser) → set old.users seat x ≡ x ∷ [])
        seat_is = let here =
            by seat (subst (λ (us : List OwnUser). get_elem? us seat ≡ some t.who) before.users t.who_is) in
            (here.0, (λ x. ap (λ (us : List OwnUser). set us seat x) before.users ∙ here.1 x))

        users_are : old.users ≡ t.who ∷ []
        users_are = before.users ∙ ap (λ (o : OwnUser). o ∷ []) (sym seat_is.0)

        said : ◌≡◌ {A = Answer} answer (answer_given t.who t.code)
        said = answered_by_name D L E EL c old new seat answer ended before.own t

        both : Both (all_actors (t.who ∷ []) old.work [])
        both = subst (λ (l : List Actor). Both (all_actors (t.who ∷ []) old.work l)) before.others
            (subst (λ (us : List OwnUser). Both (all_actors us old.work old.others)) users_are
            before.own.running.both)

        law : AloneAfter t.who (answer_given t.who t.code)
            × (own_step_of t.who old.work (answer_given t.who t.code) ≡ step.Idle → ⊥)
        law =
            let errands = subst (λ (us : List OwnUser). Errands D old.log_part us old.work) users_are
            before.own.errands in
            let alone = subst (λ (o : OwnUser). Alone c m o old.work) (sym seat_is.0) before.alone in
            own_alone m old.lists old.log_part old.data_part t.who old.work
            (before.own.running.log_ghost, before.own.running.page_ghost, both) errands alone t.code new.log_part
            t.log_served

        alone_then : Alone c (shared_left m (own_next t.who old.work)) (own_goes_on t.who old.work answer).0 new.work
        alone_then =
            let after = subst (AloneAfter t.who) (sym said) law.0 in
            subst (λ (k : LogWork). Alone c (shared_left m (own_next t.who old.work))
            (own_goes_on t.who old.work answer).0 k) (sym t.work) after

    of_other : OtherTurn D E old seat answer ended new → AloneRunning D E c new × (ended ≡ step.Idle → ⊥)
    of_other t = absurd (nobody old.users old.others before.users before.others t.after t.turn.who_is)
      where
        past : (i : ℕ) (a : Actor) → get_elem? (all_actors (before.who ∷ []) old.work []) (suc (suc (suc i))) ≡ some a
            → ⊥
        past i a at = absurd (some-ne-none a (sym at))

        nobody : (users : List OwnUser) (others : List Actor) → users ≡ before.who ∷ []
            → ◌≡◌ {A = List Actor} others []
            → length users ≤ seat → get_elem? (all_actors users old.work others) (seat + 2) ≡ some t.turn.who → ⊥
        nobody users others one none after at =
            let some_user : 1 ≤ seat = subst (λ (us : List OwnUser). length us ≤ seat) one after in
            let third : seat + 2 ≡ suc (suc (suc (seat - 1))) = omega arith in
            let alone_at =
            subst (λ (us : List OwnUser). get_elem? (all_actors us old.work others) (seat + 2) ≡ some t.turn.who)
            one at in
            let there =
            subst (λ (l : List Actor). get_elem? (all_actors (before.who ∷ []) old.work l) (seat + 2)
            ≡ some t.turn.who) none alone_at in
            past (seat - 1) t.turn.who
            (subst (λ (j : ℕ). get_elem? (all_actors (before.who ∷ []) old.work []) j ≡ some t.turn.who) third
            there)

    -- THE law: no turn is idle
    pub alone_turns : OwnTurn D E old seat answer ended new → AloneRunning D E c new × (ended ≡ step.Idle → ⊥)
    alone_turns t = ⊎_elim of_user of_other t
