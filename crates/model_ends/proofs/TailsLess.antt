-- An advance of either tail leaves no more to do of the words: it clears links, and moves its tail up.
use Rattle.std.proofs.Common.{Bool, List, ap, arith, cond, eqb, eqb-true, false, refl, sym, true, ℕ, ◌%◌, ◌+◌, ◌∙◌, ◌≡◌, ◌≤◌}
use Rattle.std.specs.Prelude.{slice_index}
use Rattle.model_core.proofs.Tails.{tail_in}
use Rattle.model_core.specs.{Advance, advance_op, Listed, lsn, shared_left, SharedWords, tail_of, tail_word, wrote, DataSide, LogSide, Setup, Actor}
use Rattle.model_core.specs.declared.limits.TheConstants.{CLOSED_LINKS, WRITTEN_LINKS}
use Rattle.model_core.specs.declared.steps.AdvanceStep.{AdvanceStep}
use Rattle.model_logcore.proofs.AdvanceSteps.{tails}
use Rattle.model_logcore.specs.{AdvanceAt, LogGhost, LogHalf}
use Rattle.model_pagecore.specs.{PageGhost}
use Rattle.model_pagecore.specs.PageFacts.{ClosedLinks}
use Rattle.model_pagecore.specs.PageHalf.{ClosingAt}
use Rattle.model_ends.proofs.Links.{links_less}
use Rattle.model_ends.proofs.PageCost.{words_steps}
use Rattle.model_core.specs.declared.steps.AdvanceStep.TheVariants as advance_step
use Rattle.model_core.specs.declared.words.LinkBuffer.TheVariants as link_buffer
use Rattle.model_core.specs.declared.words.Word.TheVariants as word

-- a link that is cleared counts two
abbrev pub cleared_by : AdvanceStep → ℕ
cleared_by advance_step.ClearLink = 2
cleared_by _ = 0

same_tail : (a b : ℕ) (x y : Bool) → tail_word a x ≡ tail_word b y → a ≡ b
same_tail a b x y e = sym (tail_in a x) ∙ ap tail_of e ∙ tail_in b y

module _ (last : ℕ) (m : SharedWords) (ls : ℕ → List Listed) where
  module _ (D : LogSide) (c : Setup) (g : LogGhost) (p : D.Part) (actors : List Actor) (half : LogHalf D c m g p actors) where
    pub written_less : (seat : ℕ) (v : Advance) (s : AdvanceStep) → AdvanceAt D c m g p seat v s → words_steps last (shared_left m (advance_op link_buffer.Written v s)) ls + cleared_by s ≤ words_steps last m ls
    written_less seat v advance_step.LoadTail h = omega arith
    written_less seat v advance_step.TakeTail h = by (eqb (tail_word m.wtail m.wheld) (tail_word v.tail false)) refl
      where
        by : (b : Bool) → eqb (tail_word m.wtail m.wheld) (tail_word v.tail false) ≡ b → words_steps last (cond b (wrote m word.Wtail (tail_word v.tail true)) m) ls + 0 ≤ words_steps last m ls
        by true e = let is = same_tail m.wtail v.tail m.wheld false (eqb-true (tail_word m.wtail m.wheld) (tail_word v.tail false) e) in let t = tail_in v.tail true in omega arith
        by false e = omega arith
    written_less seat v advance_step.LoadLink h = omega arith
    written_less seat v advance_step.ClearLink h = let some = h.1 in let is = h.2 in let z = links_less m.wlinks (v.place % WRITTEN_LINKS) (omega arith) in omega arith
    written_less seat v advance_step.FreeTail h = let t = tail_in v.place false in let place = h.place in let low = tails D c m g p actors half in omega arith

  module _ (E : DataSide) (c : Setup) (g : LogGhost) (h : PageGhost) (d : E.Part) (K : ClosedLinks g.log h.closed m.ctail m.cheld h.tail (lsn m.sn) m.clinks) where
    pub closing_less : (seat : ℕ) (v : Advance) (s : AdvanceStep) → ClosingAt E c m g.log h ls d seat v s → words_steps last (shared_left m (advance_op link_buffer.Closed v s)) ls + cleared_by s ≤ words_steps last m ls
    closing_less seat v advance_step.LoadTail k = omega arith
    closing_less seat v advance_step.TakeTail k = by (eqb (tail_word m.ctail m.cheld) (tail_word v.tail false)) refl
      where
        by : (b : Bool) → eqb (tail_word m.ctail m.cheld) (tail_word v.tail false) ≡ b → words_steps last (cond b (wrote m word.Ctail (tail_word v.tail true)) m) ls + 0 ≤ words_steps last m ls
        by true e = let is = same_tail m.ctail v.tail m.cheld false (eqb-true (tail_word m.ctail m.cheld) (tail_word v.tail false) e) in let t = tail_in v.tail true in omega arith
        by false e = omega arith
    closing_less seat v advance_step.LoadLink k = omega arith
    closing_less seat v advance_step.ClearLink k =
        let held = k.0 in
        let found = k.1 in
        let place = held.place in
        let start = found.4 in
        let stands = K.standing found.0 found.1 found.2 found.3 (omega arith) in
        let here : slice_index m.clinks (lsn found.1.start % CLOSED_LINKS) ≡ slice_index m.clinks (v.place % CLOSED_LINKS) = ap (λ (n : ℕ). slice_index m.clinks (n % CLOSED_LINKS)) start in
        let z = links_less m.clinks (v.place % CLOSED_LINKS) (omega arith) in
        omega arith
    closing_less seat v advance_step.FreeTail k = let t = tail_in v.place false in let place = k.place in let low = K.order in omega arith
