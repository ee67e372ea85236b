-- A user looks for room in the recent-closed buffer, and advances CTAIL where there is none.
use Rattle.std.proofs.Common.{Bool, List, arith, cond, eqb, false, length, ltb, ltb-true, refl, set, subst, sym, true, ℕ, ◌+◌, ◌<◌, ◌≡◌}
use lib.ListN.{get_elem?}
use mathlib.Core.Option.{some}
use Rattle.model_core.proofs.Tails.{tail_in}
use Rattle.model_core.specs.{Actor, advance_next, advance_op, advance_took, after, can_close, cells_of, changes, Entry, found, frees, Listed, lsn, SharedWords, stays_put, tail_of, tail_word, user_took, UserState, with_close_room, without_close_room, DataSide, Setup, Advance}
use Rattle.model_core.specs.declared.steps.AdvanceStep.{AdvanceStep}
use Rattle.model_core.specs.declared.steps.UserStep.{UserStep}
use Rattle.model_pagecore.proofs.AdvanceSteps.{keeps_advance, loaded_low}
use Rattle.model_pagecore.proofs.PageStep.{page_quiet}
use Rattle.model_pagecore.proofs.UserPageSteps.{framed, word_closing}
use Rattle.model_pagecore.specs.PageFacts.{Grows, PageGhost}
use Rattle.model_pagecore.specs.PageHalf.{ClosingAt, HasPagesInHand, HasUntouchedPages, PageHalf, UserClosingAt, UserPageFits, UserPagesAt}
use Rattle.model_pagecore.specs.Pages.{Before, AgreeBelow, Cells, Laid}
use Rattle.model_core.specs.declared.steps.AdvanceStep.TheVariants as advance_step
use Rattle.model_core.specs.declared.steps.UserStep.TheVariants as user_step
use Rattle.model_core.specs.declared.words.LinkBuffer.TheVariants as link_buffer
use Rattle.model_core.specs.States as actor
use Rattle.model_core.specs.declared.limits.TheConstants.{CLOSED_LINKS}

-- a user's step after one of its advance of CTAIL: it waits (w), has freed the tail (f), or goes on
abbrev closing_step : Bool → Bool → AdvanceStep → UserStep
closing_step w f s = cond w user_step.LoadCtail (cond f user_step.ReloadCtail (user_step.AdvanceClosed s))

module _ (E : DataSide) (c : Setup) (seat_of : ℕ → ℕ) (m : SharedWords) (log : List Entry) (stable : ℕ) (h : PageGhost) (ls : ℕ → List Listed) (d : E.Part) (actors : List Actor) (seat : ℕ) (before : PageHalf E c m log stable h ls d actors)
    (mates : (j : ℕ) (u : UserState) → get_elem? actors j ≡ some (actor.User u) → seat_of u.user ≡ j) (W : Laid (lsn c.base) (lsn m.sn) log) where
  module _ (u : UserState) (at : get_elem? actors seat ≡ some (actor.User u)) where
    own : UserPageFits E c m log h ls d seat u
    own = before.each seat (actor.User u) at

    abbrev Waits : SharedWords → PageGhost → UserState → Type 0
    Waits m' h' x = HasUntouchedPages E c m' log h' ls d seat x × (0 < length (changes x))

    abbrev pub Now : UserState → Type 0
    Now x = PageHalf E c m log stable h ls d (set actors seat (actor.User x))

    -- It loads CTAIL. Where its group is too far ahead it goes on with a step that knows the same of its pages.
    looks : (n : ℕ) → tail_of n ≡ m.ctail → Waits m h u → (waits : Bool) (s : UserStep) → UserPagesAt E c m log h ls d seat (without_close_room u n waits s) s → UserClosingAt E c m log h ls d seat u.advance s
        → Now (cond (can_close u (tail_of n)) (with_close_room u n) (without_close_room u n waits s))
    looks n loads o waits s again closing = by (ltb (lsn u.start) (tail_of n + CLOSED_LINKS)) refl
      where
        still : (x : UserState) → UserPageFits E c m log h ls d seat x → Now x
        still x fits = page_quiet E c seat_of m log stable h ls d actors seat before mates (actor.User x) fits

        by : (b : Bool) → ltb (lsn u.start) (tail_of n + CLOSED_LINKS) ≡ b → Now (cond b (with_close_room u n) (without_close_room u n waits s))
        by true e = let z = o.0.2 in let y = o.0.1 in let l = o.1 in let near = ltb-true (lsn u.start) (tail_of n + CLOSED_LINKS) e in
            still (with_close_room u n)
            (record {
              there = own.there;
              apart = own.apart;
              within = own.within;
              ascending = own.ascending;
              are_bytes = own.are_bytes;
              loaded = omega arith;
              closing = word_closing E c m log h ls d seat u.advance (eqb u.cell (length (cells_of u))) (cells_of u) u.cell;
              step = framed E c seat_of m log stable h ls d actors seat before mates W u at m h ls (with_close_room u n) (subst (λ (k : ℕ). HasPagesInHand E c m log h ls d seat (with_close_room u n) (Cells k) Before AgreeBelow) (sym z) o.0.0) ((omega arith), (omega arith)) (omega arith) (eqb u.cell (length (cells_of u))) refl;
            })
        by false e = still (without_close_room u n waits s) (record { there = own.there; apart = own.apart; within = own.within; ascending = own.ascending; are_bytes = own.are_bytes; loaded = omega arith; closing = closing; step = again })

    pub keeps_load_ctail : u.step ≡ user_step.LoadCtail → Now (user_took u (tail_word m.ctail m.cheld) user_step.LoadCtail)
    keeps_load_ctail ph = let o : UserPagesAt E c m log h ls d seat u user_step.LoadCtail = subst (UserPagesAt E c m log h ls d seat u) ph own.step in
        looks (tail_word m.ctail m.cheld) (tail_in m.ctail m.cheld) o false (user_step.AdvanceClosed advance_step.LoadTail) o tt

    pub keeps_reload_ctail : u.step ≡ user_step.ReloadCtail → Now (user_took u (tail_word m.ctail m.cheld) user_step.ReloadCtail)
    keeps_reload_ctail ph = let o : UserPagesAt E c m log h ls d seat u user_step.ReloadCtail = subst (UserPagesAt E c m log h ls d seat u) ph own.step in
        looks (tail_word m.ctail m.cheld) (tail_in m.ctail m.cheld) o true user_step.LoadCtail o tt

    -- its state after a step of its advance, at which n stood in the word
    abbrev advanced : ℕ → AdvanceStep → UserState
    advanced n s = user_took u n (user_step.AdvanceClosed s)

    -- whatever such a step leaves of CTAIL and its links, the user knows the same of its pages
    module _ (links : List ℕ) (ctail : ℕ) (cheld : Bool) (tail advancer : ℕ) where
      abbrev m' : SharedWords
      m' = record m { clinks = links; ctail = ctail; cheld = cheld }

      abbrev h' : PageGhost
      h' = record h { tail = tail; advancer = advancer }

      fresh : (n : ℕ) (s : AdvanceStep) → Waits m h u → Waits m' h' (advanced n s)
      fresh n s o = ((record { at = o.0.0.at; is = o.0.0.is; not_closed = o.0.0.not_closed; last = o.0.0.last; before = o.0.0.before; here = o.0.0.here; after = o.0.0.after }, o.0.1, o.0.2), o.1)

      step_of : (n : ℕ) (s : AdvanceStep) → Waits m h u → (w f : Bool) (r : AdvanceStep) → UserPagesAt E c m' log h' ls d seat (advanced n s) (closing_step w f r)
      step_of n s o true f r = fresh n s o
      step_of n s o false true r = fresh n s o
      step_of n s o false false r = fresh n s o

      closing_of : (v : Advance) (w f : Bool) (r : AdvanceStep) → ClosingAt E c m' log h' ls d seat v (cond (cond f true w) advance_step.LoadTail r) → UserClosingAt E c m' log h' ls d seat v (closing_step w f r)
      closing_of v true f r o = tt
      closing_of v false true r o = tt
      closing_of v false false r o = o

    -- it advances CTAIL
    pub keeps_advance_closed : (s : AdvanceStep) → u.step ≡ user_step.AdvanceClosed s → length m.clinks ≡ CLOSED_LINKS
        → (k : PageGhost) × PageHalf E c (after (advance_op link_buffer.Closed u.advance s) m) log stable k ls d (set actors seat (actor.User (advanced (found (advance_op link_buffer.Closed u.advance s) m) s))) × Grows m h k
    keeps_advance_closed s ph long =
        let n : ℕ = found (advance_op link_buffer.Closed u.advance s) m in
        let w : Bool = stays_put u.advance n s in
        let next : AdvanceStep = advance_next u.advance n s in
        keeps_advance E c seat_of m log stable h ls d actors seat before mates W (actor.User (advanced n s)) u.advance s (subst (UserClosingAt E c m log h ls d seat u.advance) ph own.closing) long
        (λ links ctail cheld tail advancer low o. record {
          there = own.there;
          apart = own.apart;
          within = own.within;
          ascending = own.ascending;
          are_bytes = own.are_bytes;
          loaded = (let z = loaded_low E c seat_of m log stable h ls d actors seat before mates W u.advance u.loaded.ctail s own.loaded in omega arith);
          closing = closing_of links ctail cheld tail advancer (advance_took u.advance n s) w (frees s) next o;
          step = step_of links ctail cheld tail advancer n s (subst (UserPagesAt E c m log h ls d seat u) ph own.step) w (frees s) next;
        })
