-- The writer's advance of WTAIL keeps the invariant: it goes on with the tail that it finds, or leaves.
use Rattle.std.proofs.Common.{Bool, List, ap, arith, cond, eqb, eqb-true, false, leb-false, ltb, refl, set, sym, true, ℕ, ◌%◌, ◌+◌, ◌<◌, ◌∙◌, ◌≡◌}
use Rattle.std.proofs.lemmas.Bool.{eqb-false}
use Rattle.std.specs.Prelude.{nat_le, slice_index, slice_set}
use lib.ListN.{get_elem?}
use native.Mathlib.Decide.{dec_le}
use Rattle.model_core.proofs.Lsns.{lsn_le}
use Rattle.model_core.proofs.Tails.{held_in, tail_in}
use Rattle.model_core.specs.{Actor, Advance, Entry, is_held, lsn, SharedWords, tail_of, tail_word, writer_holds, writer_took, WriterState, LogSide, Setup}
use Rattle.model_core.specs.declared.steps.WriterStep.{WriterStep}
use Rattle.model_core.specs.declared.limits.TheConstants.{ADVANCE_PLACES, WRITTEN_LINKS}
use Rattle.model_logcore.proofs.AdvanceSteps.{clears_link, frees_tail, holds_it, is_free, Moves, stays, takes_tail}
use Rattle.model_logcore.proofs.Frame.{unchanged, Kept}
use Rattle.model_logcore.proofs.Same.{later_marks, order_on, writer_same}
use Rattle.model_logcore.proofs.WriterSteps.{own, wsteps}
use Rattle.model_logcore.specs.LogFacts.{LogGhost}
use Rattle.model_logcore.specs.LogFits.{AdvanceAt, HoldsWtail, IsIdle, WriterAt, WriterFits, LogHalf}
use mathlib.Core.Option as maybe
use Rattle.model_core.specs.declared.ops.Answer.TheVariants as answer
use Rattle.model_core.specs.declared.steps.AdvanceStep.TheVariants as advance_step
use Rattle.model_core.specs.declared.steps.WriterStep.TheVariants as writer_step
use Rattle.model_core.specs.States as actor

module _ (D : LogSide) (c : Setup) (m : SharedWords) (g : LogGhost) (p : D.Part) (actors : List Actor) (seat : ℕ) (s : WriterState) (before : LogHalf D c m g p actors) (at : get_elem? actors seat ≡ maybe.some (actor.Writer s)) where
  mine : WriterFits D c m g p seat s
  mine = own D c m g p actors seat s before at

  -- a step of it
  module _ (wtail : ℕ) (wheld : Bool) (wlinks : List ℕ) (gwtail gtail advancer target : ℕ) where
    abbrev words : SharedWords
    words = record m { wtail = wtail; wheld = wheld; wlinks = wlinks }

    abbrev ghosts : LogGhost
    ghosts = record g { wtail = gwtail; tail = gtail; advancer = advancer; target = target }

    advances : Moves D c m g p seat words ghosts → (t : ℕ) (advance : Advance) (checks : Bool) (st : WriterStep) → t ≡ lsn target → writer_holds st ≡ false → writer_holds s.step ≡ false
        → WriterAt D c words ghosts p seat (record s { tail = t; advance = advance; checks = checks; step = st }) st → Kept D c words ghosts p (set actors seat (actor.Writer (record s { tail = t; advance = advance; checks = checks; step = st })))
    advances M t advance checks st t_is off free h = wsteps D c m g p actors seat s before at words ghosts p refl (record s { tail = t; advance = advance; checks = checks; step = st }) M.sized M.facts (writer_same D c m g p mine t_is mine.ckpt (λ _. off) h) M.later
        refl refl refl refl refl refl (off ∙ sym free) (λ z. refl)

    -- the advance ends: the writer waits where its tail isn't above WRITE
    ended : Moves D c m g p seat words ghosts → (t : ℕ) (advance : Advance) (low : Bool) → t ≡ lsn target → nat_le t s.write ≡ low → writer_holds s.step ≡ false → IsIdle D c m g p s
        → Kept D c words ghosts p (set actors seat (actor.Writer (record s { tail = t; advance = advance; checks = low; step = cond low (writer_step.Advance advance_step.LoadTail) writer_step.LoadCheckpoint })))
    ended M t advance true t_is e free h = advances M t advance true (writer_step.Advance advance_step.LoadTail) t_is refl free (h, tt)
    ended M t advance false t_is e free h = advances M t advance false writer_step.LoadCheckpoint t_is refl free ((above, h.1), h.0)
      where
        above : g.write < target
        above = let n = leb-false t s.write e in let w = mine.write in let i = before.global.order.write_is in elim (dec_le target g.write) [
          | yes d ↦ (let l = lsn_le target g.write d in absurd (omega arith))
          | no d ↦ omega arith
        ]

  -- it loads the tail
  load_by : (t : ℕ) (held low : Bool) → t ≡ m.wtail → nat_le t s.write ≡ low → writer_holds s.step ≡ false → IsIdle D c m g p s
      → Kept D c m (record g { target = g.wtail }) p (set actors seat (actor.Writer (record s { tail = t; advance = record s.advance { tail = t }; checks = cond held low false; step = cond (cond held low false) (writer_step.Advance advance_step.LoadTail) (cond held writer_step.LoadCheckpoint (writer_step.Advance advance_step.TakeTail)) })))
  load_by t held low t_is e free h = by held
    where
      M : Moves D c m g p seat m (record g { target = g.wtail })
      M = let G = before.global in let O = G.order in let a = O.read_target in let b = O.target_wtail in let d = O.entered_target in record {
        sized = before.sized;
        facts = record { tiled = G.tiled; order = order_on D c m g p O O.write_read (omega arith) (omega arith) O.read_entered (omega arith) O.wtail_bound; ring_cells = G.ring_cells; first_offsets = G.first_offsets; written_links = G.written_links; commits = G.commits; part = G.part };
        later = later_marks D c m g p (omega arith) (omega arith) (omega arith) (omega arith) (λ z. z) (λ _ _. unchanged);
      }

      by : (held : Bool) → Kept D c m (record g { target = g.wtail }) p (set actors seat (actor.Writer (record s { tail = t; advance = record s.advance { tail = t }; checks = cond held low false; step = cond (cond held low false) (writer_step.Advance advance_step.LoadTail) (cond held writer_step.LoadCheckpoint (writer_step.Advance advance_step.TakeTail)) })))
      by true = ended m.wtail m.wheld m.wlinks g.wtail g.tail g.advancer g.wtail M t (record s.advance { tail = t }) low (t_is ∙ before.global.order.wtail_is) e free h
      by false = advances m.wtail m.wheld m.wlinks g.wtail g.tail g.advancer g.wtail M t (record s.advance { tail = t }) false (writer_step.Advance advance_step.TakeTail) (t_is ∙ before.global.order.wtail_is) refl free (h, tt)

  abbrev Advanced : SharedWords → WriterState → Type 0
  Advanced m' w = (h : LogGhost) × Kept D c m' h p (set actors seat (actor.Writer w)) × (◌≡◌ {A = List Entry} (h.log) (g.log))

  pub keeps_load_tail : s.step ≡ writer_step.Advance advance_step.LoadTail → IsIdle D c m g p s → Advanced m (writer_took s (answer.Old (tail_word m.wtail m.wheld)) (writer_step.Advance advance_step.LoadTail))
  keeps_load_tail is h = (record g { target = g.wtail }, load_by (tail_of (tail_word m.wtail m.wheld)) (is_held (tail_word m.wtail m.wheld)) (nat_le (tail_of (tail_word m.wtail m.wheld)) s.write) (tail_in m.wtail m.wheld) refl (ap writer_holds is) h, refl)

  -- it takes the tail, or finds another word
  pub keeps_take_tail : s.step ≡ writer_step.Advance advance_step.TakeTail → IsIdle D c m g p s
      → Advanced (cond (eqb (tail_word m.wtail m.wheld) (tail_word s.advance.tail false)) (record m { wtail = tail_of (tail_word s.advance.tail true); wheld = is_held (tail_word s.advance.tail true) }) m) (writer_took s (answer.Old (tail_word m.wtail m.wheld)) (writer_step.Advance advance_step.TakeTail))
  keeps_take_tail is h = by (eqb (tail_word m.wtail m.wheld) (tail_word s.advance.tail false)) refl (nat_le s.tail s.write) refl
    where
      by : (b : Bool) → eqb (tail_word m.wtail m.wheld) (tail_word s.advance.tail false) ≡ b → (low : Bool) → nat_le s.tail s.write ≡ low
          → Advanced (cond b (record m { wtail = tail_of (tail_word s.advance.tail true); wheld = is_held (tail_word s.advance.tail true) }) m)
          (record s { advance = record s.advance { place = s.advance.tail }; checks = cond (cond b false true) low false; step = cond (cond (cond b false true) low false) (writer_step.Advance advance_step.LoadTail) (cond (cond b false true) writer_step.LoadCheckpoint (writer_step.Advance advance_step.LoadLink)) })
      by true e low f =
          let k = is_free m s.advance.tail (eqb-true (tail_word m.wtail m.wheld) (tail_word s.advance.tail false) e) in
          let t : ℕ = tail_of (tail_word s.advance.tail true) in
          let held : Bool = is_held (tail_word s.advance.tail true) in
          let t_is : t ≡ m.wtail = tail_in s.advance.tail true ∙ k.1 in
          let held_is : held ≡ true = held_in s.advance.tail true in (
            record g { advancer = seat },
            advances t held m.wlinks g.wtail g.tail seat g.target (takes_tail D c m g p actors before seat s.advance t held t_is held_is k.0) s.tail (record s.advance { place = s.advance.tail }) false (writer_step.Advance advance_step.LoadLink) mine.tail refl (ap writer_holds is)
                (h, holds_it D c m g p actors before seat s.advance t held t_is held_is k.0 k.1),
            refl,
          )
      by false e low f = (g, ended m.wtail m.wheld m.wlinks g.wtail g.tail g.advancer g.target (stays D c m g p actors before seat) s.tail (record s.advance { place = s.advance.tail }) low mine.tail f (ap writer_holds is) h, refl)

  pub keeps_load_link : s.step ≡ writer_step.Advance advance_step.LoadLink → WriterAt D c m g p seat s (writer_step.Advance advance_step.LoadLink) → Advanced m (writer_took s (answer.Old (slice_index m.wlinks (s.advance.place % WRITTEN_LINKS))) (writer_step.Advance advance_step.LoadLink))
  keeps_load_link is h = by (slice_index m.wlinks (s.advance.place % WRITTEN_LINKS)) refl (eqb (slice_index m.wlinks (s.advance.place % WRITTEN_LINKS)) 0) refl
    where
      by : (n : ℕ) → slice_index m.wlinks (s.advance.place % WRITTEN_LINKS) ≡ n → (b : Bool) → eqb n 0 ≡ b → Advanced m (record s { advance = record s.advance { link = n }; checks = false; step = writer_step.Advance (cond b advance_step.FreeTail advance_step.ClearLink) })
      by n v true e = (g, advances m.wtail m.wheld m.wlinks g.wtail g.tail g.advancer g.target (stays D c m g p actors before seat) s.tail (record s.advance { link = n }) false (writer_step.Advance advance_step.FreeTail) mine.tail refl (ap writer_holds is) h, refl)
      by n v false e = (g, advances m.wtail m.wheld m.wlinks g.wtail g.tail g.advancer g.target (stays D c m g p actors before seat) s.tail (record s.advance { link = n }) false (writer_step.Advance advance_step.ClearLink) mine.tail refl (ap writer_holds is) (h.0, (h.1, (let k = eqb-false n 0 e in omega arith), v)), refl)

  pub keeps_clear_link : s.step ≡ writer_step.Advance advance_step.ClearLink → WriterAt D c m g p seat s (writer_step.Advance advance_step.ClearLink)
      → Advanced (record m { wlinks = slice_set m.wlinks (s.advance.place % WRITTEN_LINKS) 0 }) (writer_took s (answer.Old (slice_index m.wlinks (s.advance.place % WRITTEN_LINKS))) (writer_step.Advance advance_step.ClearLink))
  keeps_clear_link is h = by (ltb (s.advance.place + s.advance.link) (s.advance.tail + ADVANCE_PLACES))
    where
      by : (b : Bool) → Advanced (record m { wlinks = slice_set m.wlinks (s.advance.place % WRITTEN_LINKS) 0 }) (record s { advance = record s.advance { place = s.advance.place + s.advance.link; link = 0 }; checks = false; step = writer_step.Advance (cond b advance_step.LoadLink advance_step.FreeTail) })
      by b = let k = clears_link D c m g p actors before seat s.advance (s.advance.place % WRITTEN_LINKS) refl h.1.0 h.1.1 h.1.2 in
          (record g { tail = k.0 }, advances m.wtail m.wheld (slice_set m.wlinks (s.advance.place % WRITTEN_LINKS) 0) g.wtail k.0 g.advancer g.target k.1 s.tail (record s.advance { place = s.advance.place + s.advance.link; link = 0 }) false (writer_step.Advance (cond b advance_step.LoadLink advance_step.FreeTail)) mine.tail refl (ap writer_holds is) (h.0, next b k.0 k.2), refl)
        where
          next : (b : Bool) (to : ℕ) → HoldsWtail D c (record m { wlinks = slice_set m.wlinks (s.advance.place % WRITTEN_LINKS) 0 }) (record g { tail = to }) p seat (record s.advance { place = s.advance.place + s.advance.link; link = 0 })
              → AdvanceAt D c (record m { wlinks = slice_set m.wlinks (s.advance.place % WRITTEN_LINKS) 0 }) (record g { tail = to }) p seat (record s.advance { place = s.advance.place + s.advance.link; link = 0 }) (cond b advance_step.LoadLink advance_step.FreeTail)
          next true to k = k
          next false to k = k

  -- it frees the tail, and goes on with its place
  pub keeps_free_tail : s.step ≡ writer_step.Advance advance_step.FreeTail → WriterAt D c m g p seat s (writer_step.Advance advance_step.FreeTail)
      → Advanced (record m { wtail = tail_of (tail_word s.advance.place false); wheld = is_held (tail_word s.advance.place false) }) (writer_took s (answer.Old (tail_word m.wtail m.wheld)) (writer_step.Advance advance_step.FreeTail))
  keeps_free_tail is h =
      let t : ℕ = tail_of (tail_word s.advance.place false) in
      let held : Bool = is_held (tail_word s.advance.place false) in
      let O = before.global.order in let r1 = O.target_wtail in let r2 = O.wtail_tail in
      let M = frees_tail D c m g p actors before seat s.advance t held g.tail (tail_in s.advance.place false) (held_in s.advance.place false) h.1 (omega arith) (omega arith) O.tail_bound in
      (record g { wtail = g.tail; target = g.tail }, ended t held m.wlinks g.tail g.tail g.advancer g.tail M s.advance.place s.advance (nat_le s.advance.place s.write) h.1.place refl (ap writer_holds is) h.0, refl)
