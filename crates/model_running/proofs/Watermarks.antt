-- The invariant gives each of the watermarks.
use Rattle.std.proofs.Common.{List, arith, refl, subst, sym, ℕ, ⊎_elim, ◌<◌, ◌≡◌, ◌⊎◌, Bool, false, true, ◌∙◌}
use lib.ListN.{get_elem?}
use mathlib.Core.Option.{some}
use Rattle.model_core.specs.{Actor, CheckpointerState, CleanerState, CloserState, Core, Entry, Listed, SharedWords, UserState, Advance, advance_holds, advance_of, holds_tail, DataSide, LogSide, Setup, closer_holds_tail, user_holds_tail}
use Rattle.model_core.specs.declared.steps.CleanerStep.{CleanerStep}
use Rattle.model_core.specs.declared.steps.UserStep.{UserStep}
use Rattle.model_logcore.proofs.Watermarks.{log_watermarks, watermarks_log}
use Rattle.model_logcore.specs.{LogGhost, TailWordIs}
use Rattle.model_logcore.specs.LogLaws.{LogLaws}
use Rattle.model_pagecore.specs.DataLaws.{DataLaws}
use Rattle.model_pagecore.specs.{CheckpointerPageFits, CleanerAt, CleanerFits, CleanerHasLatch, CloserFits, HoldsOnly, PageGhost, Passed, UserHasLatch, UserPageFits, UserPagesAt, CloserAt, ClosingAt, HoldsCtail, UserClosingAt}
use Rattle.model_running.proofs.Archiving.{lost_code}
use Rattle.model_running.proofs.LatchesKeep.{held_by}
use Rattle.model_running.specs.Watermarks.{BothHalves, IsRunning, CleanerTells, ClosedChangesAreListedOrKept, FailureHasCause, FramesAreApplied, HasWatermarks, KeptPagesArePrefixes, ListsAreRelaxed, UserTells, Watermarks}
use Rattle.model_core.specs.declared.steps.AdvanceStep.TheVariants as advance_step
use Rattle.model_core.specs.declared.words.LinkBuffer.TheVariants as link_buffer
use Rattle.model_core.specs.declared.steps.CloserStep.TheVariants as closer_step
use Rattle.model_core.specs.declared.steps.CloserStep.{CloserStep}
use Rattle.model_core.specs.declared.steps.AdvanceStep.{AdvanceStep}
use Rattle.model_core.specs.States as actor
use Rattle.model_core.specs.declared.steps.CleanerStep.TheVariants as cleaner_step
use Rattle.model_core.specs.declared.steps.UserStep.TheVariants as user_step

module _ (D : LogSide) (L : LogLaws D) (E : DataSide) (EL : DataLaws E) (c : Setup) (m : SharedWords) (g : LogGhost) (h : PageGhost) (ls : ℕ → List Listed) (p : D.Part) (d : E.Part) (actors : List Actor) (both : BothHalves D E c m g h ls p d actors) where
  user_pages : (seat : ℕ) (u : UserState) → get_elem? actors seat ≡ some (actor.User u) → UserPageFits E c m g.log h ls d seat u
  user_pages seat u at = both.paged.each seat (actor.User u) at

  cleaner_pages : (seat : ℕ) (v : CleanerState) → get_elem? actors seat ≡ some (actor.Cleaner v) → CleanerFits E c m g.log h ls d seat v
  cleaner_pages seat v at = both.paged.each seat (actor.Cleaner v) at

  checkpointer_pages : (seat : ℕ) (t : CheckpointerState) → get_elem? actors seat ≡ some (actor.Checkpointer t) → CheckpointerPageFits E c m g.log h ls d seat t
  checkpointer_pages seat t at = both.paged.each seat (actor.Checkpointer t) at

  closer_pages : (seat : ℕ) (t : CloserState) → get_elem? actors seat ≡ some (actor.Closer t) → CloserFits E c m g.log h ls d seat t
  closer_pages seat t at = both.paged.each seat (actor.Closer t) at

  user_tells : (seat : ℕ) (u : UserState) (f : UserStep) → HoldsOnly E c m g.log h ls d seat (λ q. (f ≡ user_step.Failed) ⊎ UserHasLatch u f q) → UserPagesAt E c m g.log h ls d seat u f → UserTells E c m g.log h ls d seat u f
  user_tells seat u user_step.Failed only o = record { met = o.0; own = λ other. absurd (other refl); holds = o.1; all = o.2 }
  user_tells seat u f only o = record { met = f; own = λ _. refl; holds = o; all = λ q there latched mine. ⊎_elim (λ z. absurd (cc)) (λ z. z) (only q there latched mine) }

  cleaner_tells : (seat : ℕ) (v : CleanerState) (f : CleanerStep) → HoldsOnly E c m g.log h ls d seat (λ q. (f ≡ cleaner_step.Failed) ⊎ CleanerHasLatch v f q) → CleanerAt E c m g.log h ls d seat v f → CleanerTells E c m g.log h ls d seat v f
  cleaner_tells seat v cleaner_step.Failed only o = record { met = o.0; own = λ other. absurd (other refl); holds = o.1; all = o.2 }
  cleaner_tells seat v f only o = record { met = f; own = λ _. refl; holds = o; all = λ q there latched mine. ⊎_elim (λ z. absurd (cc)) (λ z. z) (only q there latched mine) }

  frames_are_applied : FramesAreApplied E c m g.log h ls d actors
  frames_are_applied = record {
    latch = λ q there. (both.paged.paged.each_page q there).latch;
    free = λ q there. (both.paged.paged.each_page q there).free;
    held = both.latches;
    user_held = λ seat u at. user_tells seat u u.step (held_by D E c m g h ls p d actors seat both (actor.User u) at) (user_pages seat u at).step;
    cleaner_held = λ seat v at. cleaner_tells seat v v.step (held_by D E c m g h ls p d actors seat both (actor.Cleaner v) at) (cleaner_pages seat v at).step;
  }

  -- an actor that advances CTAIL, from the step on at which it has taken it
  at_advance : (seat : ℕ) (v : Advance) (s : AdvanceStep) → ClosingAt E c m g.log h ls d seat v s → advance_holds s ≡ true → HoldsCtail E c m g.log h ls d seat v
  at_advance seat v advance_step.LoadTail o holds = absurd (cc)
  at_advance seat v advance_step.TakeTail o holds = absurd (cc)
  at_advance seat v advance_step.LoadLink o holds = o
  at_advance seat v advance_step.ClearLink o holds = o.0
  at_advance seat v advance_step.FreeTail o holds = o

  user_advances : (seat : ℕ) (v : Advance) (f : UserStep) → UserClosingAt E c m g.log h ls d seat v f → user_holds_tail link_buffer.Closed f ≡ true → HoldsCtail E c m g.log h ls d seat v
  user_advances seat v (user_step.AdvanceClosed s) o holds = at_advance seat v s o holds
  user_advances seat v _ o holds = absurd (cc)

  closer_advances : (seat : ℕ) (v : Advance) (f : CloserStep) → CloserAt E c m g.log h ls d seat v f → closer_holds_tail link_buffer.Closed f ≡ true → HoldsCtail E c m g.log h ls d seat v
  closer_advances seat v (closer_step.Advance s) o holds = at_advance seat v s o holds
  closer_advances seat v closer_step.Failed o holds = absurd (cc)

  holds_ctail : (seat : ℕ) (a : Actor) → get_elem? actors seat ≡ some a → holds_tail link_buffer.Closed a ≡ true → HoldsCtail E c m g.log h ls d seat (advance_of a)
  holds_ctail seat (actor.User u) at holds = user_advances seat u.advance u.step (user_pages seat u at).closing holds
  holds_ctail seat (actor.Closer t) at holds = closer_advances seat t.advance t.step (closer_pages seat t at).step holds
  holds_ctail seat _ at holds = absurd (cc)

  ctail_word : TailWordIs link_buffer.Closed m.ctail m.cheld h.tail actors
  ctail_word = record {
    free = λ free. (both.paged.paged.closed_links.free free, λ seat a at. none free seat a at (holds_tail link_buffer.Closed a) refl);
    taken = λ held. let k = both.advanced held in let o = holds_ctail k.0 k.1 k.2 k.3 in
        (k.0, record { who = k.1; who_is = k.2; holds = k.3; loaded = o.tail; place = o.place; alone = λ other a at holds. sym (holds_ctail other a at holds).mine ∙ o.mine });
  }
    where
      none : m.cheld ≡ false → (seat : ℕ) (a : Actor) → get_elem? actors seat ≡ some a → (b : Bool) → holds_tail link_buffer.Closed a ≡ b → b ≡ false
      none free seat a at true holds = let held = (holds_ctail seat a at holds).held in absurd (cc)
      none free seat a at false holds = refl

  closed_changes : ClosedChangesAreListedOrKept c m g.log h ls actors
  closed_changes = let C = both.paged.paged.closed_links in record {
    change = λ q there. (both.paged.paged.each_page q there).change;
    oldest = λ q there. (both.paged.paged.each_page q there).oldest;
    link = C.links_are;
    below_tail = C.below;
    standing = λ i e is closed since. (C.standing i e is closed since, C.window i e is closed);
    ctail_tail = C.order;
    tail_sn = C.bound;
    word = ctail_word;
    users = both.closed;
    loaded = λ seat u at. (user_pages seat u at).loaded;
    closer_loaded = λ seat t at. (closer_pages seat t at).loaded;
  }

  lists_are_relaxed : ListsAreRelaxed ls m.ctail
  lists_are_relaxed = record { relaxed = both.paged.paged.lists.relaxed; near = both.paged.paged.lists.near }

  passed : (q : ℕ) → q < c.pages → Passed q g.log (h.kept_page q).lsn (D.asked p)
  passed q there i e is touched below = let asked = both.asked in (both.paged.paged.each_page q there).passed i e is touched (omega arith)

  kept_pages : KeptPagesArePrefixes E c m g.log (D.asked p) (D.stable p) h ls d actors
  kept_pages = record {
    stored = both.paged.paged.stored;
    unfinished = both.paged.paged.unfinished;
    prefix = λ q there. (both.paged.paged.each_page q there).fold;
    ends = λ q there. (both.paged.paged.each_page q there).ends;
    stable_kept = λ q there. (both.paged.paged.each_page q there).behind;
    passed = passed;
    candidate = λ seat t at. (checkpointer_pages seat t at).step;
    loaded = λ seat t at. (checkpointer_pages seat t at).loaded;
    cleaner_loaded = λ seat v at. (cleaner_pages seat v at).flushed;
  }

  failure_has_cause : FailureHasCause D E m.failed p d actors
  failure_has_cause = record {
    cause = both.cause;
    of_log = λ cause. (L.codes p m.failed cause, L.broken p m.failed cause);
    of_data = λ cause. (EL.codes d m.failed cause, EL.broken d m.failed cause);
    of_archive = lost_code c actors both.in_run m.failed;
  }

  pub watermarks : Watermarks D E c m ls p d actors
  watermarks =
      let log = watermarks_log D c m g p actors both.logged in
      record {
        of_log = log_watermarks D c m g p actors both.logged;
        pages = h;
        frames_are_applied = subst (λ (l : List Entry). FramesAreApplied E c m l h ls d actors) (sym log) frames_are_applied;
        closed_changes_are_listed_or_kept = subst (λ (l : List Entry). ClosedChangesAreListedOrKept c m l h ls actors) (sym log) closed_changes;
        lists_are_relaxed = lists_are_relaxed;
        kept_pages_are_prefixes = subst (λ (l : List Entry). KeptPagesArePrefixes E c m l (D.asked p) (D.stable p) h ls d actors) (sym log) kept_pages;
        checkpoint_stays = both.stays;
        failure_has_cause = failure_has_cause;
      }

-- so a running store has them
pub has_watermarks : (D : LogSide) → LogLaws D → (E : DataSide) → DataLaws E → (c : Setup) (s : Core D E) → IsRunning D E c s → HasWatermarks D E c s
has_watermarks D L E EL c s running = (running.shared, running.flat_is, watermarks D L E EL c running.shared running.log_ghost running.page_ghost s.lists s.log_part s.data_part s.actors running.both)
