-- Taking and giving the part, and the writer's call on it.
use Rattle.std.proofs.Common.{Bool, List, ap, arith, cond, eqb, false, refl, set, suc, sym, true, ℕ, ◌+◌, ◌<◌, ◌∙◌, ◌≡◌, ◌≤◌}
use Rattle.std.proofs.lemmas.Bool.{eqb-false}
use lib.ListN.{get_elem?}
use Rattle.model_base.specs.declared.limits.TheConstants.{LSN_LIMIT}
use Rattle.model_core.proofs.Lists.{set_at}
use Rattle.model_core.proofs.Lsns.{lsn_le, lsn_below}
use Rattle.model_core.specs.{Actor, ceiling, entries, Entry, floor, holds, lsn, SharedWords, writer_holds, writer_took, WriterState, LogSide, Setup}
use Rattle.model_logcore.proofs.Frame.{unchanged, Kept, budget_same, counted_same, moved, others_later, moved_on}
use Rattle.model_logcore.proofs.Same.{facts_same, later_marks, numbers_sized, part_kept, part_same, still_same, writer_same}
use Rattle.model_logcore.proofs.WriterCells.{lends}
use Rattle.model_logcore.proofs.WriterSteps.{tail_near, wsteps}
use Rattle.model_logcore.specs.LogFacts.{LogGhost, LogFacts, LogPartFacts, sum_over_actors}
use Rattle.model_logcore.specs.LogFits.{LogFits, WriterAt, WriterFits, LogHalf, left_to_reserve}
use Rattle.model_logcore.specs.LogLaws.{AfterWrite, CanWrite, LogLaws}
use mathlib.Core.Option as maybe
use Rattle.model_core.specs.declared.ops.Answer.TheVariants as answer
use Rattle.model_core.specs.declared.steps.WriterStep.TheVariants as writer_step
use Rattle.model_core.specs.States as actor

module _ (D : LogSide) (c : Setup) (m : SharedWords) (g : LogGhost) (p : D.Part) where
  -- the turn word and its holder are no matter of an actor's own facts
  fits_moot : (d q j : ℕ) (a : Actor) → LogFacts D c m g p → LogFits D c m g p j a → LogFits D c (record m { device = d }) (record g { holder = q }) p j a
  fits_moot d q j a G h = others_later D c m (record m { device = d }) g (record g { holder = q }) p p (suc j) G
      (later_marks D c m g p (omega arith) (omega arith) (omega arith) (omega arith) (λ z. z) (λ _ _. unchanged))
      (still_same D c m g p (omega arith) (λ z. z) refl)
      (record { writer = refl; flushed = refl; ckpt_word = refl; failed = λ z. z; point = refl })
      j a (λ e. omega arith) (λ _. refl) h

  global_moot : (d q : ℕ) → d ≤ 1 → LogFacts D c m g p → LogFacts D c (record m { device = d }) (record g { holder = q }) p
  global_moot d q le G = let P = G.part in facts_same D c m g p (part_same D c m g p P P.write_written P.given_wtail P.flushed_stable P.ckpt_part le) G

module _ (D : LogSide) (c : Setup) (m : SharedWords) (g : LogGhost) (p : D.Part) (actors : List Actor) (seat : ℕ) (a : Actor) (before : LogHalf D c m g p actors) (at : get_elem? actors seat ≡ maybe.some a) where
  -- an actor that finds the part free takes it
  pub takes : (b : Actor) → m.device ≡ 0 → holds b ≡ true → LogFits D c m g p seat b → ◌≡◌ {A = List Entry} (entries b) (entries a) → left_to_reserve b ≤ left_to_reserve a → (h : LogGhost) × Kept D c (record m { device = 1 }) h p (set actors seat b) × (◌≡◌ {A = List Entry} (h.log) (g.log))
  takes b free hold f same le = (
    record g { holder = seat },
    moved D c m (record m { device = 1 }) g (record g { holder = seat }) p p actors seat b before (numbers_sized before.sized) (global_moot D c m g p 1 seat (omega arith) before.global)
        (fits_moot D c m g p 1 seat seat b before.global f)
        (λ j x n e. fits_moot D c m g p 1 seat j x before.global (before.each j x e))
        (λ _. (refl, refl))
        (λ j x n e h. let t = (before.turns j x e h).0 in absurd (omega arith))
        (counted_same actors g.log seat a b at same before.counted)
        (budget_same actors seat m.sn a b at le before.room)
        (λ _. (b, set_at actors seat a b at, hold)),
    refl,
  )

  -- its holder gives it back
  pub gives : (b : Actor) → holds a ≡ true → holds b ≡ false → LogFits D c m g p seat b → ◌≡◌ {A = List Entry} (entries b) (entries a) → left_to_reserve b ≤ left_to_reserve a → (h : LogGhost) × Kept D c (record m { device = 0 }) h p (set actors seat b) × (◌≡◌ {A = List Entry} (h.log) (g.log))
  gives b had free f same le = (
    record g { holder = 0 },
    moved D c m (record m { device = 0 }) g (record g { holder = 0 }) p p actors seat b before (numbers_sized before.sized) (global_moot D c m g p 0 0 (omega arith) before.global)
        (fits_moot D c m g p 0 0 seat b before.global f)
        (λ j x n e. fits_moot D c m g p 0 0 j x before.global (before.each j x e))
        (λ e. let z : true ≡ false = sym e ∙ free in absurd (cc))
        (λ j x n e h. let t = (before.turns j x e h).1 in let u = (before.turns seat a at had).1 in absurd (n (t ∙ sym u)))
        (counted_same actors g.log seat a b at same before.counted)
        (budget_same actors seat m.sn a b at le before.room)
        (λ d. absurd (omega arith)),
    refl,
  )

  -- an actor's own state alone changes, and it holds what it held
  pub stays : (b : Actor) → holds b ≡ holds a → LogFits D c m g p seat b → ◌≡◌ {A = List Entry} (entries b) (entries a) → left_to_reserve b ≤ left_to_reserve a → Kept D c m g p (set actors seat b)
  stays b keep f same le = moved_on D c m m g g p p actors seat a b before at before.sized before.global f (λ j x n e. before.each j x e) refl refl refl refl keep same le

  -- no other actor holds the part
  pub alone : holds a ≡ true → (j : ℕ) (b : Actor) → get_elem? actors j ≡ maybe.some b → holds b ≡ true → j ≡ seat
  alone h j b e k = (before.turns j b e k).1 ∙ sym (before.turns seat a at h).1

-- write_to

module _ (D : LogSide) (L : LogLaws D) (c : Setup) (m : SharedWords) (g : LogGhost) (p : D.Part) (actors : List Actor) (seat : ℕ) (s : WriterState) (before : LogHalf D c m g p actors) (at : get_elem? actors seat ≡ maybe.some (actor.Writer s)) where
  mine : WriterFits D c m g p seat s
  mine = before.each seat (actor.Writer s) at

  -- the conditions of write_to hold
  pub can_write : WriterAt D c m g p seat s writer_step.WriteTo → CanWrite D c.blocks c.base g.log g.write g.target s.kept s.firsts p
  can_write h = let O = before.global.order in let P = before.global.part in record {
    sound = h.3;
    even = O.base_even;
    end = m.sn;
    tiles = before.global.tiled.tiles;
    base_w = O.base_write;
    n_end = (let a = O.target_wtail in let b = O.wtail_tail in let d = O.tail_sn in omega arith);
    at = h.0.1 ∙ O.write_is;
    on = h.0.0;
    low = O.write_bound;
    high = O.target_bound;
    lent = lends D c m g p actors seat s before at h.1;
    fits = (let a = h.2 in let k = mine.ckpt in let q = P.ckpt_part in let b = mine.blocks in let t : ceiling s.tail ≡ ceiling (lsn g.target) = ap ceiling mine.tail in omega arith);
    small = lsn_below g.target (m.sn + sum_over_actors left_to_reserve actors) LSN_LIMIT (let a = O.target_wtail in let b = O.wtail_tail in let d = O.tail_sn in omega arith) before.room;
    near = (let z = tail_near D c m g p actors seat s before at in let t = mine.tail in let w : floor m.write ≡ floor (lsn g.write) = ap floor O.write_is in omega arith);
  }

  pub writes_by : (q : D.Part) (code : ℕ) (b : Bool) → eqb code 0 ≡ b → s.step ≡ writer_step.WriteTo → WriterAt D c m g p seat s writer_step.WriteTo → AfterWrite D c.blocks c.base g.log (lsn g.target) code p q
      → Kept D c m g q (set actors seat (actor.Writer (writer_took s (cond b (answer.Called 0) (answer.Failed code)) writer_step.WriteTo)))
  writes_by q code b b_is is h A = wsteps D c m g p actors seat s before at m g q A.ckpt (writer_took s (cond b (answer.Called 0) (answer.Failed code)) writer_step.WriteTo) before.sized (facts_same D c m g p (parted b b_is) G) (fit b b_is)
      (later_marks D c m g p (omega arith) (omega arith) (omega arith) (omega arith) (λ z. z) (λ _ _. unchanged))
      refl refl refl refl refl refl (keep b) (λ e. let z : true ≡ false = sym (ap writer_holds is) ∙ e in absurd (cc))
    where
      G : LogFacts D c m g p
      G = before.global

      written_by : (b : Bool) → eqb code 0 ≡ b → D.written q ≡ cond b (lsn g.target) (D.written p)
      written_by b e = A.written ∙ ap (λ (z : Bool). cond z (lsn g.target) (D.written p)) e

      keep : (b : Bool) → writer_holds (writer_took s (cond b (answer.Called 0) (answer.Failed code)) writer_step.WriteTo).step ≡ writer_holds s.step
      keep true = sym (ap writer_holds is)
      keep false = sym (ap writer_holds is)

      below_wtail : lsn g.target ≤ m.wtail
      below_wtail = let a = G.order.wtail_is in let b = lsn_le g.target g.wtail G.order.target_wtail in omega arith

      parted : (b : Bool) → eqb code 0 ≡ b → LogPartFacts D c m.write m.wtail m.flushed m.ckpt m.device g.log q
      parted true e = let w = written_by true e in let P = G.part in let O = G.order in let t = below_wtail in let st = A.stable in let gi = A.given in let ck = A.ckpt in
          let up : m.write ≤ lsn g.target = (let z = O.write_is in let y = lsn_le g.write g.target (let k = h.0.0 in omega arith) in omega arith) in
          let w1 = P.written_wtail in let w2 = P.stable_written in record {
            holds = A.holds;
            written = g.target;
            stable = P.stable;
            written_is = w;
            stable_is = st ∙ P.stable_is;
            written_bound = O.target_bound;
            stable_bound = P.stable_bound;
            write_written = omega arith;
            written_wtail = omega arith;
            given_wtail = omega arith;
            flushed_stable = (let z = P.flushed_stable in omega arith);
            stable_written = omega arith;
            ckpt_part = (let z = P.ckpt_part in omega arith);
            written_given = (let z = P.written_given in omega arith);
            ckpt_asked = (let z = P.ckpt_asked in let y = A.asked in omega arith);
            asked_stable = (let z = P.asked_stable in let y = A.asked in let x = P.stable_written in omega arith);
            turn_word = P.turn_word;
          }
      parted false e = let P = G.part in let O = G.order in let gi = A.given in let ck = A.ckpt in let y = A.asked in let t = below_wtail in
          part_kept D c m g p P A.holds (written_by false e) A.stable (let z = h.0.1 in let w = O.write_is in let v = lsn_le g.write g.target (let k = h.0.0 in omega arith) in omega arith) (omega arith) (let z = P.ckpt_part in omega arith) (let z = P.ckpt_asked in omega arith) (let z = P.asked_stable in omega arith)

      never : s.checks ≡ true → ⊥
      never z = let y = mine.no_device_while_checking z in let x : true ≡ false = sym (ap writer_holds is) ∙ y in cc

      fit : (b : Bool) → eqb code 0 ≡ b → WriterFits D c m g q seat (writer_took s (cond b (answer.Called 0) (answer.Failed code)) writer_step.WriteTo)
      fit true e = writer_same D c m g p mine mine.tail mine.ckpt (λ z. absurd (never z)) (h.0.0, written_by true e ∙ sym mine.tail, h.1)
      fit false e = let n = eqb-false code 0 e in let pos : 0 < code = omega arith in writer_same D c m g p mine mine.tail mine.ckpt (λ z. absurd (never z)) (pos, A.cause pos)
