-- The turn of a user, the writer or the flusher, as one of a running store; and a user that ends by a failure.
use Rattle.std.proofs.Common.{Bool, List, ap, arith, cond, eqb, eqb-true, false, inl, inr, refl, set, subst, true, ℕ, ⊎_elim, ◌<◌, ◌∙◌, ◌≡◌}
use Rattle.std.proofs.lemmas.List.{set-set}
use lib.ListN.{get_elem?}
use mathlib.Core.Option.{some}
use Rattle.model_core.proofs.Lists.{set_at}
use Rattle.model_core.specs.{Actor, Batch, Blocks, checked, checked_of, DataServed, flusher_op, flusher_took, heard, is_checking, Lent, lent, Listed, LogServed, next, Nothing, old_of, own_op, own_took, SharedWords, user_op, user_program, user_took, UserState, writer_op, writer_took, DataSide, LogSide, Setup}
use Rattle.model_core.specs.declared.ops.Answer.{Answer}
use Rattle.model_core.specs.declared.ops.Op.{Op}
use Rattle.model_core.specs.declared.steps.UserStep.{UserStep}
use Rattle.model_core.specs.declared.ops.Op.TheVariants as op
use Rattle.model_core.specs.declared.words.Word.TheVariants as word
use Rattle.model_core.specs.States as actor
use Rattle.model_logcore.specs.LogFacts.{LogGhost}
use Rattle.model_logcore.specs.{UserAt, UserFits}
use Rattle.model_logcore.specs.LogLaws.{LogLaws}
use Rattle.model_own.specs.{all_actors, LogWork, OwnUser, has_failed, MayHelpAt}
use Rattle.model_own.specs.declared.errand.ErrandStep.TheVariants as errand_step
use Rattle.model_ownrun.proofs.Moves.{answer_to, Runs, RunsAfter, user_moves}
use Rattle.model_ownrun.proofs.Restated.{restated}
use Rattle.model_ownrun.proofs.Seats.{flusher_put, flusher_seat, flusher_there, user_put, user_there, writer_put, writer_seat, writer_there}
use Rattle.model_ownrun.proofs.UserAlike.{again_same}
use Rattle.model_pagecore.specs.{PageGhost, UserHasLatch}
use Rattle.model_pagecore.specs.DataLaws.{DataLaws}
use Rattle.model_pagecore.specs.PageHalf.{UserPageFits, UserPagesAt}
use Rattle.model_running.proofs.Archiving.{IsNoReader, others_append_not, served_none}
use Rattle.model_running.proofs.BothKeep.{keeps_both}
use Rattle.model_running.proofs.ReadStays.{IsFilled}
use Rattle.model_running.specs.Watermarks.{BothHalves, HandIsClosed, UserClosed}

data_kept : (E : DataSide) (d : E.Part) (l : Lent) → DataServed E d l (op.Load word.Failed) 0 d
data_kept E d (Batch b) = refl
data_kept E d _ = refl

module _ (D : LogSide) (L : LogLaws D) (E : DataSide) (EL : DataLaws E) (c : Setup) where
  module _ (m : SharedWords) (ls : ℕ → List Listed) (p : D.Part) (d : E.Part) (actors : List Actor)
      (runs : Runs D E c m ls p d actors) (seat : ℕ) (a : Actor) (at : get_elem? actors seat ≡ some a) where
    abbrev asked : Bool → Op
    asked b = cond b (op.Load word.Failed) (own_op a)

    abbrev said : Bool → ℕ → D.Part → Answer
    said b code q = answer_to D p code q m ls (asked b)

    -- what a turn leaves
    abbrev Taken : Bool → ℕ → D.Part → E.Part → Type 0
    Taken b code q e = LogServed D p (lent a) (asked b) code q → DataServed E d (lent a) (asked b) code e
        → RunsAfter D E c (asked b) m ls q e
        (set actors seat (cond b (checked a (old_of (said b code q))) (own_took a (said b code q))))

    taken : IsFilled a → IsNoReader a → (code : ℕ) (q : D.Part) (e : E.Part) → Taken (is_checking a) code q e
    taken full other code q e served stored =
        let left = keeps_both D L E EL c m runs.0 runs.1 ls p d actors seat runs.2 code q e a at full served
        stored (served_none (next a) (others_append_not a other) code) in
        (left.log_ghost, left.page_ghost, left.both)

    -- the turn of an actor that doesn't check for a failure
    goes_on : IsFilled a → IsNoReader a → is_checking a ≡ false → (code : ℕ) (q : D.Part) (e : E.Part) → Taken false code q e
    goes_on full other quiet code q e = subst (λ (b : Bool). Taken b code q e) quiet (taken full other code q e)

    -- its check for a failure
    checks : IsFilled a → IsNoReader a → is_checking a ≡ true → Runs D E c m ls p d (set actors seat (checked a m.failed))
    checks full other asks = subst (λ (b : Bool). Taken b 0 p d) asks (taken full other 0 p d) refl (data_kept E d (lent a))

  -- a user that has another code
  module _ (m : SharedWords) (g : LogGhost) (h : PageGhost) (ls : ℕ → List Listed) (p : D.Part) (d : E.Part)
      (actors : List Actor) (both : BothHalves D E c m g h ls p d actors) (seat : ℕ) (u : UserState)
      (at : get_elem? actors seat ≡ some (actor.User u)) (n : ℕ) where
    abbrev coded : UserState
    coded = record u { code = n }

    same_at : (s : UserStep) → UserAt D c m g p seat u s → UserAt D c m g p seat coded s
    same_at _ z = z

    same_pages : (s : UserStep) → UserPagesAt E c m g.log h ls d seat u s → UserPagesAt E c m g.log h ls d seat coded s
    same_pages _ z = z

    same_hand : (s : UserStep) → HandIsClosed h.closed u s → HandIsClosed h.closed coded s
    same_hand _ z = z

    same_latch : (s : UserStep) (k : ℕ) → UserHasLatch u s k → UserHasLatch coded s k
    same_latch _ k z = z

    abbrev of_user : Actor → UserState
    of_user (actor.User v) = v
    of_user _ = u

    log_fits : UserFits D c m g p seat u → UserFits D c m g p seat coded
    log_fits f = record {
      own_seat = f.own_seat;
      blocks = f.blocks;
      lines = f.lines;
      sound = f.sound;
      are_bytes = f.are_bytes;
      counted = f.counted;
      answers = f.answers;
      loaded = f.loaded;
      step = same_at u.step f.step;
    }

    page_fits : UserPageFits E c m g.log h ls d seat u → UserPageFits E c m g.log h ls d seat coded
    page_fits f = record {
      there = f.there;
      apart = f.apart;
      within = f.within;
      ascending = f.ascending;
      are_bytes = f.are_bytes;
      loaded = f.loaded;
      closing = f.closing;
      step = same_pages u.step f.step;
    }

    closed_by : (v : UserState) → ◌≡◌ {A = Actor} (actor.User coded) (actor.User v) → UserClosed g.log h.closed v
    closed_by v is = let old = both.closed seat u at in
        let new : UserClosed g.log h.closed coded =
        record { answered = old.answered; in_hand = same_hand u.step old.in_hand } in
        subst (UserClosed g.log h.closed) (ap of_user is) new

    recoded : BothHalves D E c m g h ls p d (set actors seat (actor.User coded))
    recoded = restated D E c m g h ls p d actors both seat (actor.User u) (actor.User coded) at (record {
      fits = log_fits (both.logged.each seat (actor.User u) at);
      entries_same = refl;
      left = omega arith;
      tails = λ b. refl;
      free = both.logged.without_tail seat (actor.User u) at;
      pages = page_fits (both.paged.each seat (actor.User u) at);
      other = (tt, tt);
      latches = λ k. ⊎_elim (λ z. inl z) (λ z. inr (same_latch u.step k z));
      closed = closed_by;
      in_run = tt;
      reads = tt;
    }) refl

  module _ (m : SharedWords) (ls : ℕ → List Listed) (p : D.Part) (d : E.Part) (users : List OwnUser) (k : LogWork)
      (others : List Actor) (runs : Runs D E c m ls p d (all_actors users k others)) where
    abbrev seated : List Actor
    seated = all_actors users k others

    -- the writer's turn
    abbrev write : Op
    write = writer_op k.writer k.writer.step

    abbrev with_answer : Answer → LogWork
    with_answer r = record k { writer = writer_took k.writer r k.writer.step }

    pub writer_goes_on : k.writer.checks ≡ false → (code : ℕ) (q : D.Part) (e : E.Part)
        → LogServed D p (Blocks k.writer.kept k.writer.firsts) write code q
        → DataServed E d (Blocks k.writer.kept k.writer.firsts) write code e
        → RunsAfter D E c write m ls q e (all_actors users (with_answer (answer_to D p code q m ls write)) others)
    writer_goes_on quiet code q e served stored =
        let r : Answer = answer_to D p code q m ls write in
        let left = goes_on m ls p d seated runs (writer_seat users) (actor.Writer k.writer)
        (writer_there users k others) tt tt quiet code q e served stored in
        subst (RunsAfter D E c write m ls q e) (writer_put users k others (with_answer r).writer) left

    -- the flusher's turn
    abbrev flush : Op
    flush = flusher_op k.flusher k.flusher.step

    abbrev with_flush : Answer → LogWork
    with_flush r = record k { flusher = flusher_took k.flusher r k.flusher.step }

    pub flusher_goes_on : k.flusher.checks ≡ false → (code : ℕ) (q : D.Part) (e : E.Part)
        → LogServed D p Nothing flush code q → DataServed E d Nothing flush code e
        → RunsAfter D E c flush m ls q e (all_actors users (with_flush (answer_to D p code q m ls flush)) others)
    flusher_goes_on quiet code q e served stored =
        let r : Answer = answer_to D p code q m ls flush in
        let left = goes_on m ls p d seated runs (flusher_seat users) (actor.Flusher k.flusher)
        (flusher_there users k others) tt tt quiet code q e served stored in
        subst (RunsAfter D E c flush m ls q e) (flusher_put users k others (with_flush r).flusher) left

    -- a user's turn, its check for a failure, and the user with another code
    module _ (i : ℕ) (o : OwnUser) (at : get_elem? users i ≡ some o) where
      there : get_elem? seated i ≡ some (actor.User o.user)
      there = user_there users k others i o at

      -- the user's state is this one's
      put : (u : UserState) (x : OwnUser) → ◌≡◌ {A = UserState} u x.user
          → ◌≡◌ {A = List Actor} (set seated i (actor.User u)) (all_actors (set users i x) k others)
      put u x is = ap (λ (v : UserState). set seated i (actor.User v)) is ∙ user_put users k others i o x at

      abbrev step : Op
      step = user_op o.user o.user.step

      abbrev heard_by : ℕ → D.Part → ℕ
      heard_by code q = heard (answer_to D p code q m ls step)

      pub user_goes_on : o.user.checks ≡ false → (code : ℕ) (q : D.Part) (e : E.Part)
          → LogServed D p Nothing step code q → DataServed E d Nothing step code e
          → (x : OwnUser) → ◌≡◌ {A = UserState} (user_took o.user (heard_by code q) o.user.step) x.user
          → RunsAfter D E c step m ls q e (all_actors (set users i x) k others)
      user_goes_on quiet code q e served stored x is =
          let left = goes_on m ls p d seated runs i (actor.User o.user) there tt tt quiet code q e served stored in
          subst (RunsAfter D E c step m ls q e) (put (user_took o.user (heard_by code q) o.user.step) x is) left

      pub user_checks : o.user.checks ≡ true
          → (x : OwnUser) → ◌≡◌ {A = UserState} (checked_of user_program o.user m.failed) x.user
          → Runs D E c m ls p d (all_actors (set users i x) k others)
      user_checks asks x is =
          let left = checks m ls p d seated runs i (actor.User o.user) there tt tt asks in
          subst (Runs D E c m ls p d) (put (checked_of user_program o.user m.failed) x is) left

      user_coded : (n : ℕ) (x : OwnUser) → ◌≡◌ {A = UserState} (record o.user { code = n }) x.user
          → Runs D E c m ls p d (all_actors (set users i x) k others)
      user_coded n x is =
          let left = recoded m runs.0 runs.1 ls p d seated runs.2 i o.user there n in
          let both = subst (BothHalves D E c m runs.0 runs.1 ls p d) (put (record o.user { code = n }) x is)
          left in
          (runs.0, runs.1, both)

  -- A user ends by a failure, where FAILED has a code: by a check for it, and then with the code of its own call.
  module _ (m : SharedWords) (ls : ℕ → List Listed) (p : D.Part) (d : E.Part) (users : List OwnUser) (k : LogWork)
      (others : List Actor) (runs : Runs D E c m ls p d (all_actors users k others)) (i : ℕ) (o : OwnUser)
      (at : get_elem? users i ≡ some o) where
    abbrev asking : OwnUser
    asking = record {
      user = record o.user { code = o.user.code; checks = true; step = o.user.step };
      errand = errand_step.Done;
      helped = false;
    }

    pub user_fails : MayHelpAt o.user.step → 0 < m.failed → (n : ℕ)
        → Runs D E c m ls p d (all_actors (set users i (has_failed o n)) k others)
    user_fails may some_code n =
        let heard_code : OwnUser = has_failed o m.failed in
        let asked = user_moves D E c m ls p d users k others i o at o.user.code true o.user.step
        (again_same o.user.step may) errand_step.Done false runs in
        let asked_at = set_at users i o asking at in
        let failed_is = ap (λ (b : Bool). cond b (record asking.user { checks = false }) heard_code.user)
        (nonzero m.failed some_code) in
        let failed = user_checks m ls p d (set users i asking) k others asked i asking asked_at refl heard_code
        failed_is in
        let failed_at = set_at (set users i asking) i asking heard_code asked_at in
        let coded = user_coded m ls p d (set (set users i asking) i heard_code) k others failed i heard_code failed_at n
        (has_failed o n) refl in
        let same : ◌≡◌ {A = List OwnUser} (set (set (set users i asking) i heard_code) i (has_failed o n))
        (set users i (has_failed o n)) =
        set-set (set users i asking) i heard_code (has_failed o n) ∙ set-set users i asking (has_failed o n) in
        subst (λ (l : List OwnUser). Runs D E c m ls p d (all_actors l k others)) same coded
      where
        nonzero : (n : ℕ) → 0 < n → eqb n 0 ≡ false
        nonzero n pos = by (eqb n 0) refl
          where
            by : (b : Bool) → eqb n 0 ≡ b → eqb n 0 ≡ false
            by true is = let z = eqb-true n 0 is in absurd (omega arith)
            by false is = is
