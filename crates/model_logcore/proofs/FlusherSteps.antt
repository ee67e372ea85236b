-- The flusher's steps.
use Rattle.std.proofs.Common.{Bool, List, ap, arith, cond, eqb, false, refl, set, sym, true, ℕ, ◌<◌, ◌∙◌, ◌≡◌, ◌≢◌, ◌≤◌}
use Rattle.std.proofs.lemmas.Bool.{eqb-false}
use lib.ListN.{get_elem?}
use Rattle.model_core.specs.{Actor, Entry, flusher_holds, flusher_took, FlusherState, holds, IsSized, layout_of, SharedWords, LogSide, Setup}
use Rattle.model_logcore.proofs.DeviceSteps.{stays}
use Rattle.model_logcore.proofs.Frame.{unchanged, Kept, Later, Still, others_flusher, moved_on}
use Rattle.model_logcore.proofs.Same.{facts_same, later_marks, numbers_sized, part_kept, part_same, still_same}
use Rattle.model_logcore.specs.LogFacts.{LogGhost, LogFacts, LogPartFacts}
use Rattle.model_logcore.specs.LogFits.{FlusherAt, FlusherFits, LogHalf}
use Rattle.model_logcore.specs.LogLaws.{AfterSync, LogLaws}
use mathlib.Core.Option as maybe
use Rattle.model_core.specs.declared.ops.Answer.TheVariants as answer
use Rattle.model_core.specs.declared.steps.FlusherStep.TheVariants as flusher_step
use Rattle.model_core.specs.States as actor

module _ (D : LogSide) (L : LogLaws D) (c : Setup) (m : SharedWords) (g : LogGhost) (p : D.Part) (actors : List Actor) (seat : ℕ) (f : FlusherState) (before : LogHalf D c m g p actors) (at : get_elem? actors seat ≡ maybe.some (actor.Flusher f)) where
  hers : FlusherFits D c m g p seat f
  hers = before.each seat (actor.Flusher f) at

  others_by : (q : D.Part) → (flusher_holds f.step ≡ false → ◌≡◌ {A = D.Part} q p) → (j : ℕ) (a : Actor) → j ≢ seat → get_elem? actors j ≡ maybe.some a → holds a ≡ true → ◌≡◌ {A = D.Part} q p
  others_by q same j a n e h = by (flusher_holds f.step) refl
    where
      by : (b : Bool) → flusher_holds f.step ≡ b → ◌≡◌ {A = D.Part} q p
      by true held = absurd (n ((before.turns j a e h).1 ∙ sym (before.turns seat (actor.Flusher f) at held).1))
      by false free = same free

  -- the flusher moves, and holds what it held
  fsteps : (m' : SharedWords) (g' : LogGhost) (q : D.Part) (point : D.ckpt q ≡ D.ckpt p) (w : FlusherState) → IsSized (layout_of c) m' → LogFacts D c m' g' q → FlusherFits D c m' g' q seat w → Later D c m g m' g' seat → Still D c m m' g g' p q → m'.ckpt ≡ m.ckpt → m'.device ≡ m.device → g'.holder ≡ g.holder → g'.log ≡ g.log → m'.sn ≡ m.sn
      → flusher_holds w.step ≡ flusher_holds f.step → (flusher_holds f.step ≡ false → ◌≡◌ {A = D.Part} q p) → Kept D c m' g' q (set actors seat (actor.Flusher w))
  fsteps m' g' q point w sized global fit later still ckpt device holder log sn keep same = moved_on D c m m' g g' p q actors seat (actor.Flusher f) (actor.Flusher w) before at sized global fit
      (λ j a n e. others_flusher D c m m' g g' p q seat hers.alone before.global later still (record { ckpt_word = ckpt; failed = later.failed; ckpt = point }) j a n (others_by q same j a n e) (before.each j a e))
      device holder log sn keep refl (omega arith)

  never_asks : flusher_holds f.step ≡ true → f.checks ≡ true → ⊥
  never_asks held z = let y = hers.no_device_while_checking z in let x : true ≡ false = sym held ∙ y in cc

  look_by : (b : Bool) → flusher_holds f.step ≡ false → Kept D c m g p (set actors seat (actor.Flusher (cond b (record f { write = m.write; checks = true; step = flusher_step.LoadWrite }) (record f { write = m.write; step = flusher_step.TakeDevice }))))
  look_by true free = stays D c m g p actors seat (actor.Flusher f) before at (actor.Flusher (record f { write = m.write; checks = true; step = flusher_step.LoadWrite })) (sym free) (record { alone = hers.alone; last = hers.last; write = omega arith; no_device_while_checking = λ z. refl; step = tt }) refl (omega arith)
  look_by false free = stays D c m g p actors seat (actor.Flusher f) before at (actor.Flusher (record f { write = m.write; step = flusher_step.TakeDevice })) (sym free) (record { alone = hers.alone; last = hers.last; write = omega arith; no_device_while_checking = λ z. refl; step = tt }) refl (omega arith)

  -- it loads WRITE
  pub keeps_watch : f.step ≡ flusher_step.LoadWrite → Kept D c m g p (set actors seat (actor.Flusher (flusher_took f (answer.Old m.write) flusher_step.LoadWrite)))
  keeps_watch is = look_by (eqb m.write f.last) (ap flusher_holds is)

  -- it stores FLUSHED
  pub keeps_flushed : f.step ≡ flusher_step.StoreFlushed → FlusherAt D c m g p f flusher_step.StoreFlushed → (h : LogGhost) × Kept D c (record m { flushed = f.mark }) h p (set actors seat (actor.Flusher (flusher_took f (answer.Old 0) flusher_step.StoreFlushed))) × (◌≡◌ {A = List Entry} (h.log) (g.log))
  keeps_flushed is h =
      let G = before.global in let O = G.order in let P = G.part in
      let m' : SharedWords = record m { flushed = f.mark } in
      let g' : LogGhost = record g { flushed = P.stable } in
      let up : m.flushed ≤ f.mark = (let z = P.flushed_stable in omega arith) in
      let held : flusher_holds f.step ≡ true = ap flusher_holds is in (
        g',
        fsteps m' g' p refl (record f { last = f.mark; step = flusher_step.GiveDevice })
            (numbers_sized before.sized)
            (record {
              tiled = G.tiled;
              order = record {
                base_even = O.base_even;
                write_is = O.write_is;
                wtail_is = O.wtail_is;
                flushed_is = h ∙ P.stable_is;
                base_write = O.base_write;
                write_read = O.write_read;
                read_target = O.read_target;
                target_wtail = O.target_wtail;
                wtail_tail = O.wtail_tail;
                free = O.free;
                tail_sn = O.tail_sn;
                near = O.near;
                read_entered = O.read_entered;
                entered_target = O.entered_target;
                write_bound = O.write_bound;
                wtail_bound = O.wtail_bound;
                tail_bound = O.tail_bound;
                target_bound = O.target_bound;
                flushed_bound = P.stable_bound;
              };
              ring_cells = G.ring_cells;
              first_offsets = G.first_offsets;
              written_links = G.written_links;
              commits = record { flush = λ i e a b d. let o = G.commits.flush i e a b d in omega arith; wrote = G.commits.wrote; linked = G.commits.linked; last = G.commits.last };
              part = part_same D c m g p P P.write_written P.given_wtail (omega arith) P.ckpt_part P.turn_word;
            })
            (record { alone = hers.alone; last = refl; write = hers.write; no_device_while_checking = λ z. absurd (never_asks held z); step = tt })
            (later_marks D c m g p (omega arith) (omega arith) (omega arith) up (λ z. z) (λ _ _. unchanged))
            (still_same D c m g p (omega arith) (λ z. z) refl)
            refl refl refl refl refl (sym held) (λ z. refl),
        refl,
      )

  -- it stores FAILED
  pub keeps_fault : f.step ≡ flusher_step.StoreFailed → FlusherAt D c m g p f flusher_step.StoreFailed → Kept D c (record m { failed = f.code }) g p (set actors seat (actor.Flusher (flusher_took f (answer.Old 0) flusher_step.StoreFailed)))
  keeps_fault is h =
      let G = before.global in let P = G.part in let h0 = h.0 in
      let m' : SharedWords = record m { failed = f.code } in
      let held : flusher_holds f.step ≡ true = ap flusher_holds is in
      fsteps m' g p refl (record f { step = flusher_step.GiveFailed })
      (numbers_sized before.sized)
      (facts_same D c m g p G.part G)
      (record { alone = hers.alone; last = hers.last; write = hers.write; no_device_while_checking = λ z. absurd (never_asks held z); step = h0 })
      (later_marks D c m g p (omega arith) (omega arith) (omega arith) (omega arith) (λ z. h0) (λ _ _. unchanged))
      (still_same D c m g p (omega arith) (λ z. h0) refl)
      refl refl refl refl refl (sym held) (λ z. refl)

  pub syncs_by : (q : D.Part) (code : ℕ) (b : Bool) → eqb code 0 ≡ b → f.step ≡ flusher_step.Sync → AfterSync D c.blocks c.base g.log code p q
      → Kept D c m g q (set actors seat (actor.Flusher (flusher_took f (cond b (answer.Called (D.stable q)) (answer.Failed code)) flusher_step.Sync)))
  syncs_by q code b b_is is A =
      let P = before.global.part in
      fsteps m g q A.ckpt (flusher_took f (cond b (answer.Called (D.stable q)) (answer.Failed code)) flusher_step.Sync) before.sized (facts_same D c m g p (parted b b_is) before.global) (fit b b_is)
      (later_marks D c m g p (omega arith) (omega arith) (omega arith) (omega arith) (λ z. z) (λ _ _. unchanged))
      (still_same D c m g p (omega arith) (λ z. z) A.written)
      refl refl refl refl refl (keep b) (λ e. let z : true ≡ false = sym (ap flusher_holds is) ∙ e in absurd (cc))
    where
      stable_by : (b : Bool) → eqb code 0 ≡ b → D.stable q ≡ cond b (D.written p) (D.stable p)
      stable_by b e = A.stable ∙ ap (λ (z : Bool). cond z (D.written p) (D.stable p)) e

      keep : (b : Bool) → flusher_holds (flusher_took f (cond b (answer.Called (D.stable q)) (answer.Failed code)) flusher_step.Sync).step ≡ flusher_holds f.step
      keep true = sym (ap flusher_holds is)
      keep false = sym (ap flusher_holds is)

      parted : (b : Bool) → eqb code 0 ≡ b → LogPartFacts D c m.write m.wtail m.flushed m.ckpt m.device g.log q
      parted true e = let P = before.global.part in let st = stable_by true e in let wr = A.written in let gi = A.given in let ck = A.ckpt in let s1 = P.stable_written in record {
        holds = A.holds;
        written = P.written;
        stable = P.written;
        written_is = wr ∙ P.written_is;
        stable_is = st ∙ P.written_is;
        written_bound = P.written_bound;
        stable_bound = P.written_bound;
        write_written = (let z = P.write_written in omega arith);
        written_wtail = (let z = P.written_wtail in omega arith);
        given_wtail = (let z = P.given_wtail in omega arith);
        flushed_stable = (let z = P.flushed_stable in omega arith);
        stable_written = omega arith;
        ckpt_part = (let z = P.ckpt_part in omega arith);
        written_given = (let z = P.written_given in omega arith);
        ckpt_asked = (let z = P.ckpt_asked in let y = A.asked in omega arith);
        asked_stable = (let z = P.asked_stable in let y = A.asked in let x = P.stable_written in omega arith);
        turn_word = P.turn_word;
      }
      parted false e = let P = before.global.part in let gi = A.given in let ck = A.ckpt in let y = A.asked in
          part_kept D c m g p P A.holds A.written (stable_by false e) (let z = P.written_given in omega arith) (let z = P.given_wtail in omega arith) (let z = P.ckpt_part in omega arith) (let z = P.ckpt_asked in omega arith) (let z = P.asked_stable in omega arith)

      fit : (b : Bool) → eqb code 0 ≡ b → FlusherFits D c m g q seat (flusher_took f (cond b (answer.Called (D.stable q)) (answer.Failed code)) flusher_step.Sync)
      fit true e = record { alone = hers.alone; last = hers.last; write = hers.write; no_device_while_checking = λ z. absurd (never_asks (ap flusher_holds is) z); step = refl }
      fit false e = let n = eqb-false code 0 e in let pos : 0 < code = omega arith in record { alone = hers.alone; last = hers.last; write = hers.write; no_device_while_checking = λ z. absurd (never_asks (ap flusher_holds is) z); step = (pos, A.cause pos) }

  -- it loads FAILED
  pub flusher_checked : f.checks ≡ true → Kept D c m g p (set actors seat (actor.Flusher (cond (eqb m.failed 0) (record f { checks = false }) (record f { checks = false; code = m.failed; step = flusher_step.Failed }))))
  flusher_checked checks = by (eqb m.failed 0) refl
    where
      by : (b : Bool) → eqb m.failed 0 ≡ b → Kept D c m g p (set actors seat (actor.Flusher (cond b (record f { checks = false }) (record f { checks = false; code = m.failed; step = flusher_step.Failed }))))
      by true e = stays D c m g p actors seat (actor.Flusher f) before at (actor.Flusher (record f { checks = false })) refl (record { alone = hers.alone; last = hers.last; write = hers.write; no_device_while_checking = λ z. absurd (cc); step = hers.step }) refl (omega arith)
      by false e = stays D c m g p actors seat (actor.Flusher f) before at (actor.Flusher (record f { checks = false; code = m.failed; step = flusher_step.Failed })) (sym (hers.no_device_while_checking checks)) (record { alone = hers.alone; last = hers.last; write = hers.write; no_device_while_checking = λ z. refl; step = (let n = eqb-false m.failed 0 e in omega arith) }) refl (omega arith)
