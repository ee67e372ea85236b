-- What each step of the writer keeps.
use Rattle.std.proofs.Common.{Bool, List, arith, false, refl, set, sym, true, ℕ, ◌+◌, ◌<◌, ◌∙◌, ◌≡◌, ◌≢◌, ◌≤◌}
use lib.ListN.{get_elem?}
use Rattle.model_core.proofs.Lsns.{lsn_le}
use Rattle.model_core.specs.{Actor, floor, holds, IsSized, layout_of, SharedWords, writer_holds, WriterState, LogSide, Setup}
use Rattle.model_core.specs.declared.steps.WriterStep.{WriterStep}
use Rattle.model_core.specs.declared.limits.TheConstants.{LOG_BUFFER}
use Rattle.model_logcore.proofs.Frame.{unchanged, Kept, Later, others_writer, moved_on}
use Rattle.model_logcore.proofs.Same.{later_marks, writer_same}
use Rattle.model_logcore.specs.LogFacts.{LogGhost, LogFacts}
use Rattle.model_logcore.specs.LogFits.{WriterAt, WriterFits, LogHalf}
use mathlib.Core.Option as maybe
use Rattle.model_core.specs.States as actor

module _ (D : LogSide) (c : Setup) (m : SharedWords) (g : LogGhost) (p : D.Part) (actors : List Actor) (seat : ℕ) (s : WriterState) (before : LogHalf D c m g p actors) (at : get_elem? actors seat ≡ maybe.some (actor.Writer s)) where
  pub own : WriterFits D c m g p seat s
  own = before.each seat (actor.Writer s) at

  -- while the writer holds the part, nobody else does
  pub part_by : (q : D.Part) → (writer_holds s.step ≡ false → ◌≡◌ {A = D.Part} q p) → (j : ℕ) (a : Actor) → j ≢ seat → get_elem? actors j ≡ maybe.some a → holds a ≡ true → ◌≡◌ {A = D.Part} q p
  part_by q same j a n e h = by (writer_holds s.step) refl
    where
      by : (b : Bool) → writer_holds s.step ≡ b → ◌≡◌ {A = D.Part} q p
      by true held = absurd (n ((before.turns j a e h).1 ∙ sym (before.turns seat (actor.Writer s) at held).1))
      by false free = same free

  -- the writer moves, and holds what it held
  pub wsteps : (m' : SharedWords) (g' : LogGhost) (q : D.Part) (point : D.ckpt q ≡ D.ckpt p) (w : WriterState) → IsSized (layout_of c) m' → LogFacts D c m' g' q → WriterFits D c m' g' q seat w → Later D c m g m' g' seat → m'.flushed ≡ m.flushed → m'.ckpt ≡ m.ckpt → m'.device ≡ m.device → g'.holder ≡ g.holder → g'.log ≡ g.log → m'.sn ≡ m.sn
      → writer_holds w.step ≡ writer_holds s.step → (writer_holds s.step ≡ false → ◌≡◌ {A = D.Part} q p) → Kept D c m' g' q (set actors seat (actor.Writer w))
  wsteps m' g' q point w sized global f later flushed ckpt device holder log sn keep same = moved_on D c m m' g g' p q actors seat (actor.Writer s) (actor.Writer w) before at sized global f
      (λ j a n e. others_writer D c m m' g g' p q seat own.alone before.global later (record { writer = sym f.alone ∙ own.alone; flushed = flushed; ckpt_word = ckpt; failed = later.failed; point = point }) j a n (part_by q same j a n e) (before.each j a e))
      device holder log sn keep refl (omega arith)

  -- nothing but these of the writer's own state changes
  pub staged : (first ckpt code : ℕ) (checks : Bool) (st : WriterStep) → ckpt ≤ m.ckpt → (checks ≡ true → writer_holds st ≡ false) → WriterAt D c m g p seat (record s { first = first; ckpt = ckpt; code = code; checks = checks; step = st }) st
      → WriterFits D c m g p seat (record s { first = first; ckpt = ckpt; code = code; checks = checks; step = st })
  staged first ckpt code checks st le no_device_while_checking h = writer_same D c m g p own own.tail le no_device_while_checking h

  pub wquiet : (first ckpt code : ℕ) (checks : Bool) (st : WriterStep) → ckpt ≤ m.ckpt → (checks ≡ true → writer_holds st ≡ false) → writer_holds st ≡ writer_holds s.step → WriterAt D c m g p seat (record s { first = first; ckpt = ckpt; code = code; checks = checks; step = st }) st
      → Kept D c m g p (set actors seat (actor.Writer (record s { first = first; ckpt = ckpt; code = code; checks = checks; step = st })))
  wquiet first ckpt code checks st le no_device_while_checking keep h = wsteps m g p refl (record s { first = first; ckpt = ckpt; code = code; checks = checks; step = st }) before.sized before.global (staged first ckpt code checks st le no_device_while_checking h)
      (later_marks D c m g p (omega arith) (omega arith) (omega arith) (omega arith) (λ z. z) (λ _ _. unchanged)) refl refl refl refl refl refl keep (λ z. refl)

  abbrev pub WNow : WriterState → Type 0
  WNow w = Kept D c m g p (set actors seat (actor.Writer w))

  pub ranks : (g.write ≤ g.read) × (g.read ≤ g.target) × (g.target ≤ g.tail) × (g.target ≤ m.sn) × (c.base ≤ g.write)
  ranks = let O = before.global.order in let a = O.target_wtail in let b = O.wtail_tail in let d = O.tail_sn in (O.write_read, O.read_target, (omega arith), (omega arith), O.base_write)

  -- its tail is less than the log buffer past the block of WRITE
  pub tail_near : s.tail < floor m.write + LOG_BUFFER
  tail_near = let O = before.global.order in let near = O.near in let t = own.tail in let r = ranks in let r2 = r.2 in let l = lsn_le g.target g.tail (omega arith) in omega arith
