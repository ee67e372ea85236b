-- Each turn of a store whose users write for themselves keeps what holds between any two.
use Rattle.std.proofs.Common.{Bool, List, ap, arith, cond, eqb, eqb-true, false, refl, set, subst, sym, true, ℕ, ⊎_elim, ◌+◌, ◌∙◌, ◌≡◌, ◌≢◌}
use Rattle.std.specs.Prelude.{None}
use lib.ListN.{get_elem?}
use mathlib.Core.Option.{some}
use Rattle.model_core.specs.{Actor, DataServed, filled, flat, layout_of, flusher_op, lent, Listed, LogServed, next, old_of, OpWords, shared_left, SharedWords, user_op, writer_op, DataSide, LogSide, Setup}
use Rattle.model_core.specs.declared.ops.Answer.{Answer}
use Rattle.model_core.specs.declared.ops.Op.{Op}
use Rattle.model_core.specs.declared.ops.Step.{Step}
use Rattle.model_core.specs.declared.steps.WriterStep.{WriterStep}
use Rattle.model_core.specs.declared.ops.Answer.TheVariants as answer
use Rattle.model_core.specs.declared.ops.Op.TheVariants as op
use Rattle.model_core.specs.declared.steps.AdvanceStep.TheVariants as advance_step
use Rattle.model_core.specs.declared.steps.FlusherStep.TheVariants as flusher_step
use Rattle.model_core.specs.declared.steps.WriterStep.TheVariants as writer_step
use Rattle.model_core.specs.declared.words.Word.TheVariants as word
use Rattle.model_core.specs.States as actor
use Rattle.model_logcore.specs.LogLaws.{LogLaws}
use Rattle.model_own.specs.{OtherTurn, OwnCore, OwnTurn, UserTurn, all_actors, with_writer, LogWork, OwnUser, errand_lends, errand_op, errand_took, own_checked, own_goes_on, own_lends, own_next, taken_up, waiting, has_work}
use Rattle.model_own.specs.ErrandFits.{ErrandFits}
use Rattle.model_own.specs.declared.errand.ErrandStep.{ErrandStep}
use Rattle.model_own.specs.declared.errand.ErrandStep.TheVariants as errand_step
use Rattle.model_ownrun.proofs.ByName.{answer_by_name, lists_by_name, words_by_name}
use Rattle.model_ownrun.proofs.Errands.{aside, in_hand, mine, nobody_has, other_keeps, others_have_none}
use Rattle.model_ownrun.proofs.FlusherPart.{flush_by}
use Rattle.model_ownrun.proofs.Moves.{answer_to, lists_after, Runs}
use Rattle.model_ownrun.proofs.Seats.{flusher_seat, flusher_there, user_there, writer_seat, writer_there}
use Rattle.model_ownrun.proofs.UserPart.{Aside, checks, finds_held, gives_broken, none_checking, steps, takes, user_keeps_part}
use Rattle.model_ownrun.proofs.WriterPart.{Leaves, write_by}
use Rattle.model_ownrun.specs.OwnRunning.{Errands, IsWriterAtRest, NobodyAtWork, OwnRunning, WorkFits, WritesAt}
use Rattle.model_pagecore.specs.DataLaws.{DataLaws}
use Rattle.model_running.proofs.EachTurn.{turn_keeps}
use Rattle.model_running.proofs.Turns.{next_words}
use Rattle.model_running.specs.Watermarks.{BothHalves}

-- no Op of the log's work writes pages
data_same : (E : DataSide) (d e : E.Part) (code : ℕ) (k : LogWork) (x : ErrandStep) (o : Op)
    → DataServed E d (errand_lends k x) o code e
    → ◌≡◌ {A = E.Part} e d
data_same E d e code k errand_step.Write o z = z
data_same E d e code k errand_step.Done o z = z
data_same E d e code k errand_step.TakeDevice o z = z
data_same E d e code k errand_step.GiveBroken o z = z
data_same E d e code k errand_step.Flush o z = z

module _ (D : LogSide) (L : LogLaws D) (E : DataSide) (EL : DataLaws E) (c : Setup) where
  module _ (m : SharedWords) (ls : ℕ → List Listed) (p : D.Part) (d : E.Part) (users : List OwnUser) (k : LogWork)
      (others : List Actor) (runs : Runs D E c m ls p d (all_actors users k others))
      (errands : Errands D p users k) (i : ℕ) (o : OwnUser) (at : get_elem? users i ≡ some o) (code : ℕ) (q : D.Part)
      (e : E.Part) where
    -- a store with this user and the log's work so
    abbrev Store : SharedWords → (ℕ → List Listed) → D.Part → E.Part → OwnUser → LogWork → Type 0
    Store m' ls' q' e' x k' = Runs D E c m' ls' q' e' (all_actors (set users i x) k' others)

    abbrev Kept : SharedWords → (ℕ → List Listed) → OwnUser → LogWork → Type 0
    Kept m' ls' x k' = Store m' ls' q e x k' × Errands D q (set users i x) k'

    -- after an Op and its answer
    abbrev pub Left : Op → (Answer → OwnUser × LogWork) → Type 0
    Left a f = Kept (shared_left m a) (lists_after m ls a) (f (answer_to D p code q m ls a)).0
        (f (answer_to D p code q m ls a)).1

    abbrev OthersIdle : Type 0
    OthersIdle = (j : ℕ) (y : OwnUser) → j ≢ i → get_elem? users j ≡ some y → has_work y.errand ≡ false

    -- the parts are as they were
    same_parts : (m' : SharedWords) (x : OwnUser) (k' : LogWork) → ◌≡◌ {A = D.Part} q p → ◌≡◌ {A = E.Part} e d
        → Store m' ls p d x k' → Store m' ls q e x k'
    same_parts m' x k' v w r = subst (λ (y : D.Part). Store m' ls y e x k') (sym v)
        (subst (λ (y : E.Part). Store m' ls p y x k') (sym w) r)

    fits : ErrandFits o.user o.errand
    fits = errands.fits i o at

    fits_at : (x : ErrandStep) → o.errand ≡ x → ErrandFits o.user x
    fits_at x is = subst (λ (y : ErrandStep). ErrandFits o.user y) is fits

    -- the work stays where it was; its Op was one of the log's work
    stood_aside : (m' : SharedWords) (x : OwnUser) → has_work o.errand ≡ false → ◌≡◌ {A = D.Part} q p
        → ◌≡◌ {A = E.Part} e d
        → Aside D L E EL c m ls p d users k others runs i o at m' ls p d x → Kept m' ls x k
    stood_aside m' x none v w a = (same_parts m' x k v w a.0, aside D p users k errands i o at q x a.1 none a.2 v)

    worked_here : (m' : SharedWords) (x : OwnUser × LogWork) → OthersIdle → ◌≡◌ {A = D.Part} q p → ◌≡◌ {A = E.Part} e d
        → Leaves D L E EL c users others i o at m' ls p d x → Kept m' ls x.0 x.1
    worked_here m' x none v w a = (
      same_parts m' x.0 x.1 v w a.0,
      subst (λ (y : D.Part). Errands D y (set users i x.0) x.1) (sym v)
          (mine D p users k errands i o at p x.0 a.1 none x.1 a.2),
    )

    work_in : (x : ErrandStep) → o.errand ≡ x → has_work x ≡ true → WorkFits D p x k
    work_in x is has = subst (λ (y : ErrandStep). WorkFits D p y k) is
        (in_hand D p users k errands i o at (ap has_work is ∙ has))

    alone_in : (x : ErrandStep) → o.errand ≡ x → has_work x ≡ true → OthersIdle
    alone_in x is has = others_have_none D p users k errands i o at (ap has_work is ∙ has)

    -- it asks for DEVICE: free and sound, free and failed, or held
    abbrev took : Bool → Bool → OwnUser × LogWork
    took free broken = errand_took o k (cond free (cond broken answer.Broken (answer.Taken None)) answer.Held)
        errand_step.TakeDevice

    takes_by : o.errand ≡ errand_step.TakeDevice → o.user.checks ≡ false → ◌≡◌ {A = D.Part} q p → ◌≡◌ {A = E.Part} e d
        → (b : Bool) → eqb m.device 0 ≡ b → (broken : Bool) → D.failed p ≡ broken
        → Kept (cond b (record m { device = 1 }) m) ls (took b broken).0 (took b broken).1
    takes_by is asks same_log same_data true free broken failed = by broken failed
      where
        none : NobodyAtWork D p users k
        none = nobody_has D L E EL c m ls p d users k others runs errands (eqb-true m.device 0 free)

        takes_up : (errand : ErrandStep) → ErrandFits o.user errand → WorkFits D p errand (taken_up k)
            → Kept (record m { device = 1 }) ls (record o { errand = errand }) (taken_up k)
        takes_up errand may work = worked_here (record m { device = 1 }) (record o { errand = errand }, taken_up k)
            (λ j y ne there. none.0 j y there) same_log same_data
            (takes D L E EL c m ls p d users k others runs i o at asks (fits_at errand_step.TakeDevice is)
            (eqb-true m.device 0 free) errand may work)

        by : (b : Bool) → D.failed p ≡ b → Kept (record m { device = 1 }) ls (took true b).0 (took true b).1
        by true f = takes_up errand_step.GiveBroken (fits_at errand_step.TakeDevice is, asks) (record {
          writer_goes_on = none.1.writer_goes_on;
          flusher_goes_on = refl;
          step = (none.1.step.0, refl);
        })
        by false f = takes_up errand_step.Write (fits_at errand_step.TakeDevice is, asks) (record {
          writer_goes_on = none.1.writer_goes_on;
          flusher_goes_on = refl;
          step = reads k.writer.step none.1.step.0;
        })
          where
            reads : (w : WriterStep) → IsWriterAtRest D p w → WritesAt D p w flusher_step.GiveDevice
            reads (writer_step.Advance advance_step.LoadTail) z = (refl, f)
            reads writer_step.Failed z = let n : true ≡ false = sym z ∙ f in absurd (cc)
            reads (writer_step.Advance advance_step.TakeTail) z = absurd z
            reads (writer_step.Advance advance_step.LoadLink) z = absurd z
            reads (writer_step.Advance advance_step.ClearLink) z = absurd z
            reads (writer_step.Advance advance_step.FreeTail) z = absurd z
            reads _ z = absurd z
    takes_by is asks same_log same_data false held broken failed =
        stood_aside m (waiting o) (ap has_work is) same_log same_data
        (finds_held D L E EL c m ls p d users k others runs i o at asks (fits_at errand_step.TakeDevice is))

    errand_by : (x : ErrandStep) → o.errand ≡ x → o.user.checks ≡ false
        → LogServed D p (errand_lends k x) (errand_op o k x) code q
        → DataServed E d (errand_lends k x) (errand_op o k x) code e → Left (errand_op o k x) (λ a. errand_took o k a x)
    errand_by errand_step.Done is asks served stored =
        let a = steps D L E EL c m ls p d users k others runs i o at asks code q e is served stored in
        let same = user_keeps_part D p q code o.user o.user.step served in
        (a.0, aside D p users k errands i o at q _ a.1 (ap has_work is) a.2 same)
    errand_by errand_step.TakeDevice is asks served stored =
        takes_by is asks served stored (eqb m.device 0) refl (D.failed p) refl
    errand_by errand_step.GiveBroken is asks served stored =
        let may = (fits_at errand_step.GiveBroken is).0 in
        worked_here (record m { device = 0 }) _ (alone_in errand_step.GiveBroken is refl) served stored
        (gives_broken D L E EL c m ls p d users k others runs i o at asks may
        (work_in errand_step.GiveBroken is refl))
    errand_by errand_step.Write is asks served stored =
        let may = (fits_at errand_step.Write is).0 in
        let work = work_in errand_step.Write is refl in
        let a = write_by D L E EL c users others i o at may asks is m ls p d k runs work.writer_goes_on
        work.flusher_goes_on code q e k.writer.step refl work.step served stored in
        (a.0, mine D p users k errands i o at q _ a.1 (alone_in errand_step.Write is refl) _ a.2)
    errand_by errand_step.Flush is asks served stored =
        let may = (fits_at errand_step.Flush is).0 in
        let work = work_in errand_step.Flush is refl in
        let a = flush_by D L E EL c users others i o at may asks is m ls p d k runs work.writer_goes_on
        work.flusher_goes_on work.step.0 code q e k.flusher.step refl work.step.1 served stored in
        (a.0, mine D p users k errands i o at q _ a.1 (alone_in errand_step.Flush is refl) _ a.2)

    abbrev asked : Bool → Op
    asked b = cond b (op.Load word.Failed) (errand_op o k o.errand)

    next_by : (b : Bool) → o.user.checks ≡ b → LogServed D p (own_lends o k) (asked b) code q
        → DataServed E d (own_lends o k) (asked b) code e
        → Left (asked b) (λ a. cond b (own_checked o (old_of a), k) (errand_took o k a o.errand))
    next_by true asks served stored =
        let none = none_checking D L E EL c m ls p d users k others runs i o at o.errand asks fits in
        let same = data_same E d e code k o.errand (op.Load word.Failed) stored in
        stood_aside m (own_checked o m.failed) none served same
        (checks D L E EL c m ls p d users k others runs i o at asks fits)
    next_by false asks served stored = errand_by o.errand refl asks served stored

    -- THE step lemma of a user that writes for itself, over the words by name
    pub user_keeps : LogServed D p (own_lends o k) (own_next o k) code q
        → DataServed E d (own_lends o k) (own_next o k) code e
        → Left (own_next o k) (λ a. own_goes_on o k a)
    user_keeps served stored = next_by o.user.checks refl served stored

    -- its Op names words that there are
    actor_words : (seat : ℕ) (a : Actor) → get_elem? (all_actors users k others) seat ≡ some a
        → OpWords (layout_of c) (next a)
    actor_words seat a there = next_words D E c m runs.0 runs.1 ls p d (all_actors users k others) seat runs.2 a
        there

    errand_words : (x : ErrandStep) → o.errand ≡ x → o.user.checks ≡ false → OpWords (layout_of c) (errand_op o k x)
    errand_words errand_step.Done is asks =
        subst (λ (b : Bool). OpWords (layout_of c) (cond b (op.Load word.Failed) (user_op o.user o.user.step))) asks
        (actor_words i (actor.User o.user) (user_there users k others i o at))
    errand_words errand_step.TakeDevice is asks = tt
    errand_words errand_step.GiveBroken is asks = tt
    errand_words errand_step.Write is asks =
        subst (λ (b : Bool). OpWords (layout_of c) (cond b (op.Load word.Failed) (writer_op k.writer k.writer.step)))
        (work_in errand_step.Write is refl).writer_goes_on
        (actor_words (writer_seat users) (actor.Writer k.writer) (writer_there users k others))
    errand_words errand_step.Flush is asks =
        subst (λ (b : Bool). OpWords (layout_of c) (cond b (op.Load word.Failed) (flusher_op k.flusher k.flusher.step)))
        (work_in errand_step.Flush is refl).flusher_goes_on
        (actor_words (flusher_seat users) (actor.Flusher k.flusher) (flusher_there users k others))

    words_by : (b : Bool) → o.user.checks ≡ b → OpWords (layout_of c) (asked b)
    words_by true asks = tt
    words_by false asks = errand_words o.errand refl asks

    pub own_words : OpWords (layout_of c) (own_next o k)
    own_words = words_by o.user.checks refl

  module _ (old new : OwnCore D E) (seat : ℕ) (answer : Answer) (step : Step)
      (before : OwnRunning D E c old) where
    abbrev m : SharedWords
    m = before.running.shared

    runs_before : Runs D E c m old.lists old.log_part old.data_part (all_actors old.users old.work old.others)
    runs_before = (before.running.log_ghost, before.running.page_ghost, before.running.both)

    abbrev actors_before : List Actor
    actors_before = all_actors old.users old.work old.others

    module _ (t : UserTurn D E old seat answer step new) where
      abbrev its_op : Op
      its_op = own_next t.who old.work

      abbrev said : Answer
      said = answer_to D old.log_part t.code new.log_part m old.lists its_op

      abbrev then : Answer → OwnUser × LogWork
      then r = own_goes_on t.who old.work r

      names : OpWords (layout_of c) its_op
      names = own_words m old.lists old.log_part old.data_part old.users old.work old.others runs_before
          before.errands seat t.who t.who_is t.code new.log_part new.data_part

      abbrev lists_then : ℕ → List Listed
      lists_then = lists_after m old.lists its_op

      abbrev users_then : Answer → List OwnUser
      users_then r = set old.users seat (then r).0

      kept : Runs D E c (shared_left m its_op) lists_then new.log_part new.data_part
          (all_actors (users_then said) (then said).1 old.others)
          × Errands D new.log_part (users_then said) (then said).1
      kept = user_keeps m old.lists old.log_part old.data_part old.users old.work old.others runs_before
          before.errands seat t.who t.who_is t.code new.log_part new.data_part t.log_served t.data_served

      pub answered_by_name : ◌≡◌ {A = Answer} answer said
      answered_by_name = t.answered ∙ answer_by_name D E c old.layout old.words old.lists old.log_part old.data_part
          actors_before before.running its_op names t.code new.log_part

      lists_are : ◌≡◌ {A = ℕ → List Listed} new.lists lists_then
      lists_are = t.lists ∙ lists_by_name D E c old.layout old.words old.lists old.log_part old.data_part actors_before
          before.running its_op names

      words_are : new.words ≡ flat (shared_left m its_op)
      words_are = t.words ∙ words_by_name D E c old.layout old.words old.lists old.log_part old.data_part actors_before
          before.running its_op names

      users_are : new.users ≡ users_then said
      users_are = t.users ∙ ap users_then answered_by_name

      work_is : new.work ≡ (then said).1
      work_is = t.work ∙ ap (λ (r : Answer). (then r).1) answered_by_name

      actors_are : ◌≡◌ {A = List Actor} (all_actors new.users new.work new.others)
          (all_actors (users_then said) (then said).1 old.others)
      actors_are = ap (λ (us : List OwnUser). all_actors us new.work new.others) users_are
          ∙ ap (λ (k : LogWork). all_actors (users_then said) k new.others) work_is
          ∙ ap (λ (l : List Actor). all_actors (users_then said) (then said).1 l) t.others

      -- The turn of a user leaves a running store, over the words that its Op leaves.
      abbrev Halves : (ℕ → List Listed) → List Actor → Type 0
      Halves ls actors = BothHalves D E c (shared_left m its_op) kept.0.0 kept.0.1 ls new.log_part new.data_part
          actors

      both : Halves new.lists (all_actors new.users new.work new.others)
      both = subst (λ (ls : ℕ → List Listed). Halves ls (all_actors new.users new.work new.others)) (sym lists_are)
          (subst (Halves lists_then) (sym actors_are) kept.0.2)

      pub own_user_turn : OwnRunning D E c new
      own_user_turn = record {
        running = record {
          shared = shared_left m its_op;
          log_ghost = kept.0.0;
          page_ghost = kept.0.1;
          layout_is = t.layout ∙ before.running.layout_is;
          flat_is = words_are;
          both = both;
        };
        errands = subst (λ (us : List OwnUser). Errands D new.log_part us new.work) (sym users_are)
            (subst (λ (k : LogWork). Errands D new.log_part (users_then said) k) (sym work_is) kept.1);
      }

      pub shared_is : own_user_turn.running.shared ≡ shared_left m its_op
      unfolding own_user_turn
      shared_is = refl

    module _ (t : OtherTurn D E old seat answer step new) where
      work_stays : Errands D new.log_part old.users old.work
      work_stays = let after = t.after in
          other_keeps D L E EL c m old.lists old.log_part old.data_part old.users old.work old.others
          runs_before before.errands (seat + 2) t.turn.who t.turn.who_is (omega arith)
          (lent (filled t.turn.who t.turn.filling)) t.turn.code new.log_part t.turn.log_served

      own_other_turn : OwnRunning D E c new
      own_other_turn = record {
        running = turn_keeps D L E EL c (with_writer old) (with_writer new) (seat + 2) answer step
            before.running t.turn;
        errands = subst (λ (us : List OwnUser). Errands D new.log_part us new.work) (sym t.users)
            (subst (λ (k : LogWork). Errands D new.log_part old.users k) (sym t.work) work_stays);
      }

    -- THE step lemma
    pub own_turn_keeps : OwnTurn D E old seat answer step new → OwnRunning D E c new
    own_turn_keeps t = ⊎_elim own_user_turn own_other_turn t
