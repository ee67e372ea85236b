-- The closer advances CTAIL.
use Rattle.std.proofs.Common.{List, arith, length, set, subst, ℕ, ◌≡◌}
use lib.ListN.{get_elem?}
use mathlib.Core.Option.{some}
use Rattle.model_core.specs.{Actor, advance_op, after, closer_took, CloserState, Entry, found, Listed, lsn, SharedWords, UserState, DataSide, Setup}
use Rattle.model_core.specs.declared.steps.AdvanceStep.{AdvanceStep}
use Rattle.model_pagecore.proofs.AdvanceSteps.{keeps_advance, tail_low}
use Rattle.model_pagecore.specs.PageFacts.{Grows, PageGhost}
use Rattle.model_pagecore.specs.PageHalf.{CloserAt, CloserFits, PageHalf}
use Rattle.model_pagecore.specs.Pages.{Laid}
use Rattle.model_core.specs.declared.ops.Answer.TheVariants as answer
use Rattle.model_core.specs.declared.steps.CloserStep.TheVariants as closer_step
use Rattle.model_core.specs.declared.words.LinkBuffer.TheVariants as link_buffer
use Rattle.model_core.specs.States as actor
use Rattle.model_core.specs.declared.limits.TheConstants.{CLOSED_LINKS}

module _ (E : DataSide) (c : Setup) (seat_of : ℕ → ℕ) (m : SharedWords) (log : List Entry) (stable : ℕ) (h : PageGhost) (ls : ℕ → List Listed) (d : E.Part) (actors : List Actor) (seat : ℕ) (before : PageHalf E c m log stable h ls d actors)
    (mates : (j : ℕ) (u : UserState) → get_elem? actors j ≡ some (actor.User u) → seat_of u.user ≡ j) (W : Laid (lsn c.base) (lsn m.sn) log) where
  pub keeps_closer_advance : (t : CloserState) → get_elem? actors seat ≡ some (actor.Closer t) → (s : AdvanceStep) → t.step ≡ closer_step.Advance s → length m.clinks ≡ CLOSED_LINKS
      → (k : PageGhost) × PageHalf E c (after (advance_op link_buffer.Closed t.advance s) m) log stable k ls d (set actors seat (actor.Closer (closer_took t (answer.Old (found (advance_op link_buffer.Closed t.advance s) m)) (closer_step.Advance s)))) × Grows m h k
  keeps_closer_advance t at s ph long =
      let F : CloserFits E c m log h ls d seat t = before.each seat (actor.Closer t) at in
      keeps_advance E c seat_of m log stable h ls d actors seat before mates W (actor.Closer (closer_took t (answer.Old (found (advance_op link_buffer.Closed t.advance s) m)) (closer_step.Advance s))) t.advance s
      (subst (CloserAt E c m log h ls d seat t.advance) ph F.step) long
      (λ links ctail cheld tail advancer low o. record { alone = F.alone; loaded = (let z = tail_low E c seat_of m log stable h ls d actors seat before mates W t.advance s F.loaded in omega arith); step = o })
