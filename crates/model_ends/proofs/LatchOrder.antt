-- Latches make no ring: each line names its pages in ascending order, and a user takes their latches so. From a user that
-- waits for one the holders lead, by ever greater pages, to an actor that waits for none: the cleaner tries a latch once, and
-- never waits for one while it holds another.
use Rattle.std.proofs.Common.{Bool, List, [], arith, cond, eqb, eqb-true, false, inl, inr, length, refl, suc, sym, true, zero, ℕ, ⊎_elim, ◌+◌, ◌<◌, ◌∙◌, ◌≡◌, ◌≤◌, ◌⊎◌, subst}
use lib.ListN.{get_elem?}
use mathlib.Core.Option.{some}
use native.Mathlib.Decide.{ℕ_discrete}
use Rattle.model_core.proofs.Groups.{at_less}
use Rattle.model_core.specs.{Actor, changes, CleanerState, current_page, Listed, page_words_at, SharedWords, UserState, Core, flat, layout_of, lsn, DataSide, LogSide, Setup}
use Rattle.model_core.specs.Program.{waits}
use Rattle.model_core.specs.declared.steps.CleanerStep.{CleanerStep}
use Rattle.model_core.specs.declared.steps.UserStep.{UserStep}
use Rattle.model_logcore.specs.{LogGhost, sum_over_actors, left_to_reserve}
use Rattle.model_pagecore.specs.{CleanerHasLatch, HasLatch, IsInBatch, PageGhost, UserPageFits}
use Rattle.model_pagecore.specs.Latches.{UserHasLatch}
use Rattle.model_pagecore.specs.PageHalf.{UserPagesAt}
use Rattle.model_running.specs.Watermarks.{BothHalves}
use Rattle.model_base.specs.declared.limits.TheConstants.{LSN_LIMIT, MIN_LOG_BLOCKS}
use Rattle.model_logcore.specs.LogLaws.{LogLaws}
use Rattle.model_pagecore.specs.DataLaws.{DataLaws}
use Rattle.model_running.specs.StartStore.{StartStore}
use Rattle.model_ends.proofs.Beside.{Ascend, Ascends, reached}
use Rattle.model_ends.proofs.Margin.{is_user}
use Rattle.model_ends.specs.Alone.{CanReach}
use Rattle.model_core.specs.States as actor
use Rattle.model_core.specs.declared.ops.Answer.TheVariants as answer
use Rattle.model_core.specs.declared.steps.CleanerStep.TheVariants as cleaner_step
use Rattle.model_core.specs.declared.steps.UserStep.TheVariants as user_step

-- the actor is at a latch, and waits for it where that is held
abbrev pub IsAtLatch : Actor → Type 0
IsAtLatch (actor.User u) = u.step ≡ user_step.TakeLatch
IsAtLatch (actor.Cleaner v) = (v.step ≡ cleaner_step.TakeLatch) × (waits (actor.Cleaner v) (answer.Old 1) ≡ true)
IsAtLatch _ = ⊥

-- the latch of its page is free
abbrev pub FindsFree : SharedWords → Actor → Type 0
FindsFree m (actor.User u) = (page_words_at m.page_words (current_page u)).latch ≡ 0
FindsFree m _ = ⊥

-- it is at a latch that is free; or it holds one, and is at none
pub record WaitsForNone (m : SharedWords) (actors : List Actor) : Type 0 where
  pub seat : ℕ
  pub who : Actor
  pub at : get_elem? actors seat ≡ some who
  pub none : (IsAtLatch who × FindsFree m who) ⊎ ((IsAtLatch who → ⊥) × ((p : ℕ) × HasLatch who p))

at_latch : (f : UserStep) → (f ≡ user_step.TakeLatch) ⊎ (f ≡ user_step.TakeLatch → ⊥)
at_latch user_step.TakeLatch = inl refl
at_latch _ = inr (λ e. absurd (cc))

-- the cleaner that holds a latch waits for none: where it tries one with a batch in hand it goes on
pub cleaner_goes_on : (v : CleanerState) (p : ℕ) → HasLatch (actor.Cleaner v) p → IsAtLatch (actor.Cleaner v) → ⊥
cleaner_goes_on v p has at = ⊎_elim
    (λ e. let z : cleaner_step.TakeLatch ≡ cleaner_step.Failed = sym at.0 ∙ e in absurd (cc))
    (λ held. by (subst (λ (f : CleanerStep). CleanerHasLatch v f p) at.0 held) (subst (λ (f : CleanerStep). waits (actor.Cleaner (record v { step = f })) (answer.Old 1) ≡ true) at.0 at.1)) has
  where
    some_batch : (n : IsInBatch v.batch p) (b : Bool) → cond b (eqb (length v.batch) 0) false ≡ true → ⊥
    some_batch n true e = let less = at_less v.batch n.0 n.1 n.2 in let none = eqb-true (length v.batch) 0 e in absurd (omega arith)
    some_batch n false e = absurd (cc)

    by : IsInBatch v.batch p → waits (actor.Cleaner (record v { step = cleaner_step.TakeLatch })) (answer.Old 1) ≡ true → ⊥
    by n e = some_batch n (eqb v.left 1) e

module _ (D : LogSide) (E : DataSide) (c : Setup) (m : SharedWords) (g : LogGhost) (h : PageGhost) (ls : ℕ → List Listed) (p : D.Part) (d : E.Part) (actors : List Actor) (both : BothHalves D E c m g h ls p d actors) (ascend : (seat : ℕ) (a : Actor) → get_elem? actors seat ≡ some a → Ascends a) where
  module _ (seat : ℕ) (u : UserState) (at : get_elem? actors seat ≡ some (actor.User u)) (waits : u.step ≡ user_step.TakeLatch) where
    fits : UserPageFits E c m g.log h ls d seat u
    fits = both.paged.each seat (actor.User u) at

    within : u.page < length (changes u)
    within = (subst (UserPagesAt E c m g.log h ls d seat u) waits fits.step).1

    pub there : current_page u < c.pages
    there = fits.there u.k u.page within

    -- the user holds latches of smaller pages only
    pub holds_smaller : (q : ℕ) → HasLatch (actor.User u) q → q < current_page u
    holds_smaller q has = ⊎_elim (λ e. let z : user_step.TakeLatch ≡ user_step.Failed = sym waits ∙ e in absurd (cc))
        (λ among. by (subst (λ (f : UserStep). UserHasLatch u f q) waits among)) has
      where
        by : UserHasLatch u user_step.TakeLatch q → q < current_page u
        by n = (let up : Ascend u.lines = ascend seat (actor.User u) at in let less = up u.k n.0 u.page n.2 within in let is = n.3 in omega arith)

  -- so the holders lead, within as many steps as there are greater pages, to one that waits for none
  pub latches_end : (n seat : ℕ) (u : UserState) → get_elem? actors seat ≡ some (actor.User u) → u.step ≡ user_step.TakeLatch → c.pages ≤ current_page u + n → WaitsForNone m actors
  latches_end zero seat u at waits few = (let z = there seat u at waits in absurd (omega arith))
  latches_end (suc n) seat u at waits few = elim (ℕ_discrete (page_words_at m.page_words (current_page u)).latch 0) [
    | yes free ↦ record { seat = seat; who = actor.User u; at = at; none = inl (waits, free) }
    | no held ↦ (
        let low = there seat u at waits in
        let one = (both.paged.paged.each_page (current_page u) low).latch in
        let k = both.latches (current_page u) low (omega arith) in
        by (λ v at' is few'. latches_end n (h.holder (current_page u)) v at' is few') k.0 k.1 k.2)
  ]
    where
      by : ((v : UserState) → get_elem? actors (h.holder (current_page u)) ≡ some (actor.User v) → v.step ≡ user_step.TakeLatch → c.pages ≤ current_page v + n → WaitsForNone m actors) → (a : Actor) → get_elem? actors (h.holder (current_page u)) ≡ some a → HasLatch a (current_page u) → WaitsForNone m actors
      by again (actor.User v) there_is has = ⊎_elim
          (λ is. again v there_is is (let less = holds_smaller (h.holder (current_page u)) v there_is is (current_page u) has in omega arith))
          (λ other. record { seat = h.holder (current_page u); who = actor.User v; at = there_is; none = inr (other, (current_page u, has)) })
          (at_latch v.step)
      by again (actor.Cleaner v) there_is has = record { seat = h.holder (current_page u); who = actor.Cleaner v; at = there_is; none = inr (cleaner_goes_on v (current_page u) has, (current_page u, has)) }
      by again (actor.Writer v) there_is has = absurd has
      by again (actor.Flusher v) there_is has = absurd has
      by again (actor.Closer v) there_is has = absurd has
      by again (actor.Checkpointer v) there_is has = absurd has
      by again (actor.Reader v) there_is has = absurd has

-- in each state that any turns reach from the start of a run whose lines name their pages in ascending order
module _ (D : LogSide) (E : DataSide) (c : Setup) (L : LogLaws D) (EL : DataLaws E) (words : SharedWords) (seat_of : ℕ → ℕ) (writer : ℕ) (first : Core D E) (S : StartStore D E c words first.log_part first.data_part seat_of writer first.actors) (layout_is : first.layout ≡ layout_of c) (flat_is : first.words ≡ flat words) (lists : ◌≡◌ {A = ℕ → List Listed} first.lists (λ _. []))
    (short : lsn (c.base + sum_over_actors left_to_reserve first.actors) < LSN_LIMIT) (few : sum_over_actors is_user first.actors ≤ 16) (long : MIN_LOG_BLOCKS ≤ c.blocks) (ascend : (user : ℕ) → Ascend (c.script user)) where
  pub latches_end_in_run : (k : ℕ) (s : Core D E) (r : CanReach D E k first s) (seat : ℕ) (u : UserState) → get_elem? s.actors seat ≡ some (actor.User u) → u.step ≡ user_step.TakeLatch
      → WaitsForNone (reached D E c L EL words seat_of writer first S layout_is flat_is lists short few long ascend k s r).words s.actors
  latches_end_in_run k s r seat u at waits =
      let A = reached D E c L EL words seat_of writer first S layout_is flat_is lists short few long ascend k s r in
      latches_end D E c A.words A.log_ghost A.page_ghost s.lists s.log_part s.data_part s.actors A.both A.holds.ascend c.pages seat u at waits (omega arith)
