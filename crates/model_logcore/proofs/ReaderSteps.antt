-- The steps of a reader of the log, as the log half sees them.
use Rattle.std.proofs.Common.{Bool, List, ap, arith, cond, eqb, false, refl, set, sym, true, ℕ, ◌<◌, ◌∙◌, ◌≡◌}
use Rattle.std.proofs.lemmas.Bool.{eqb-false}
use Rattle.std.specs.Prelude.{slice_set}
use lib.ListN.{get_elem?}
use Rattle.model_core.specs.{Actor, holds, reader_holds, reader_took, ReaderState, SharedWords, LogSide, Setup}
use Rattle.model_logcore.proofs.DeviceSteps.{stays}
use Rattle.model_logcore.proofs.Frame.{unchanged, Kept, others_later, moved_on}
use Rattle.model_logcore.proofs.Same.{facts_same, later_marks, numbers_sized, part_kept, places_sized, still_same}
use Rattle.model_logcore.specs.LogFacts.{LogGhost}
use Rattle.model_logcore.specs.LogFits.{ReaderAt, ReaderFits, LogHalf}
use Rattle.model_logcore.specs.LogLaws.{AfterRead}
use mathlib.Core.Option as maybe
use Rattle.model_core.specs.declared.ops.Answer.TheVariants as answer
use Rattle.model_core.specs.declared.steps.ReaderStep.TheVariants as reader_step
use Rattle.model_core.specs.States as actor

module _ (D : LogSide) (c : Setup) (m : SharedWords) (g : LogGhost) (p : D.Part) (actors : List Actor) (seat : ℕ) (r : ReaderState) (before : LogHalf D c m g p actors) (at : get_elem? actors seat ≡ maybe.some (actor.Reader r)) where
  its : ReaderFits D c m g p seat r
  its = before.each seat (actor.Reader r) at

  -- its own state alone changes
  pub reads_on : (w : ReaderState) → reader_holds w.step ≡ reader_holds r.step → ReaderFits D c m g p seat w → Kept D c m g p (set actors seat (actor.Reader w))
  reads_on w keep fit = stays D c m g p actors seat (actor.Reader r) before at (actor.Reader w) keep fit refl (omega arith)

  never_asks : reader_holds r.step ≡ true → r.checks ≡ true → ⊥
  never_asks held z = let y = its.no_device_while_checking z in let x : true ≡ false = sym held ∙ y in cc

  -- it stores its place
  pub keeps_place : r.step ≡ reader_step.StorePlace → Kept D c (record m { places = slice_set m.places r.number r.place }) g p (set actors seat (actor.Reader (record r { own = r.place; step = reader_step.LoadFlushed })))
  keeps_place is =
      let m' : SharedWords = record m { places = slice_set m.places r.number r.place } in
      let G = before.global in
      moved_on D c m m' g g p p actors seat (actor.Reader r) (actor.Reader (record r { own = r.place; step = reader_step.LoadFlushed })) before at (places_sized r.number r.place before.sized)
      (facts_same D c m g p G.part G)
      (record { no_device_while_checking = λ z. refl; step = tt })
      (λ j x n e. others_later D c m m' g g p p seat G
      (later_marks D c m g p (omega arith) (omega arith) (omega arith) (omega arith) (λ z. z) (λ _ _. unchanged))
      (still_same D c m g p (omega arith) (λ z. z) refl)
      (record { writer = refl; flushed = refl; ckpt_word = refl; failed = λ z. z; point = refl })
      j x n (λ _. refl) (before.each j x e))
      refl refl refl refl (sym (ap reader_holds is)) refl (omega arith)

  -- it stores FAILED
  pub keeps_code : r.step ≡ reader_step.StoreFailed → ReaderAt D c m g p r reader_step.StoreFailed → Kept D c (record m { failed = r.code }) g p (set actors seat (actor.Reader (record r { step = reader_step.GiveFailed })))
  keeps_code is h =
      let m' : SharedWords = record m { failed = r.code } in
      let G = before.global in let h0 = h.0 in
      let held : reader_holds r.step ≡ true = ap reader_holds is in
      moved_on D c m m' g g p p actors seat (actor.Reader r) (actor.Reader (record r { step = reader_step.GiveFailed })) before at (numbers_sized before.sized)
      (facts_same D c m g p G.part G)
      (record { no_device_while_checking = λ z. absurd (never_asks held z); step = h0 })
      (λ j x n e. others_later D c m m' g g p p seat G
      (later_marks D c m g p (omega arith) (omega arith) (omega arith) (omega arith) (λ z. h0) (λ _ _. unchanged))
      (still_same D c m g p (omega arith) (λ z. h0) refl)
      (record { writer = refl; flushed = refl; ckpt_word = refl; failed = λ z. h0; point = refl })
      j x n (λ _. refl) (before.each j x e))
      refl refl refl refl (sym held) refl (omega arith)

  -- it stores FAILED after an append that failed
  pub keeps_lost : r.step ≡ reader_step.StoreLost → 0 < r.lost → Kept D c (record m { failed = r.lost }) g p (set actors seat (actor.Reader (record r { step = reader_step.Failed })))
  keeps_lost is some =
      let m' : SharedWords = record m { failed = r.lost } in
      let G = before.global in
      let free : reader_holds r.step ≡ false = ap reader_holds is in
      moved_on D c m m' g g p p actors seat (actor.Reader r) (actor.Reader (record r { step = reader_step.Failed })) before at (numbers_sized before.sized)
      (facts_same D c m g p G.part G)
      (record { no_device_while_checking = λ z. refl; step = some })
      (λ j x n e. others_later D c m m' g g p p seat G
      (later_marks D c m g p (omega arith) (omega arith) (omega arith) (omega arith) (λ z. some) (λ _ _. unchanged))
      (still_same D c m g p (omega arith) (λ z. some) refl)
      (record { writer = refl; flushed = refl; ckpt_word = refl; failed = λ z. some; point = refl })
      j x n (λ _. refl) (before.each j x e))
      refl refl refl refl (sym free) refl (omega arith)

  -- it has appended its block, or has failed to
  pub appends_by : (code : ℕ) (b : Bool) → eqb code 0 ≡ b → r.step ≡ reader_step.Append
      → Kept D c m g p (set actors seat (actor.Reader (reader_took r (cond b (answer.Called 0) (answer.Failed code)) reader_step.Append)))
  appends_by code true e is = reads_on (reader_took r (answer.Called 0) reader_step.Append) (sym (ap reader_holds is))
      (record { no_device_while_checking = λ _. refl; step = tt })
  appends_by code false e is = reads_on (reader_took r (answer.Failed code) reader_step.Append) (sym (ap reader_holds is))
      (record { no_device_while_checking = λ _. refl; step = (let n = eqb-false code 0 e in omega arith) })

  -- it has read a block, or has failed to
  pub reads_by : (q : D.Part) (code : ℕ) (b : Bool) → eqb code 0 ≡ b → r.step ≡ reader_step.ReadBlock → AfterRead D c.blocks c.base g.log code p q
      → Kept D c m g q (set actors seat (actor.Reader (reader_took r (cond b (answer.Called 0) (answer.Failed code)) reader_step.ReadBlock)))
  reads_by q code b b_is is A =
      let G = before.global in let P = G.part in
      let gi = A.given in let ck = A.ckpt in let ak = A.asked in
      let held : reader_holds r.step ≡ true = ap reader_holds is in
      moved_on D c m m g g p q actors seat (actor.Reader r) (actor.Reader (reader_took r (cond b (answer.Called 0) (answer.Failed code)) reader_step.ReadBlock)) before at before.sized
      (facts_same D c m g p (part_kept D c m g p P A.holds A.written A.stable (let z = P.written_given in omega arith) (let z = P.given_wtail in omega arith) (let z = P.ckpt_part in omega arith) (let z = P.ckpt_asked in omega arith) (let z = P.asked_stable in omega arith)) G)
      (fit b b_is)
      (λ j x n e. others_later D c m m g g p q seat G
      (later_marks D c m g p (omega arith) (omega arith) (omega arith) (omega arith) (λ z. z) (λ _ _. unchanged))
      (still_same D c m g p (omega arith) (λ z. z) A.written)
      (record { writer = refl; flushed = refl; ckpt_word = refl; failed = λ z. z; point = ck })
      j x n (λ h. absurd (n ((before.turns j x e h).1 ∙ sym (before.turns seat (actor.Reader r) at held).1))) (before.each j x e))
      refl refl refl refl (keep b ∙ sym held) refl (omega arith)
    where
      keep : (b : Bool) → holds (actor.Reader (reader_took r (cond b (answer.Called 0) (answer.Failed code)) reader_step.ReadBlock)) ≡ true
      keep true = refl
      keep false = refl

      fit : (b : Bool) → eqb code 0 ≡ b → ReaderFits D c m g q seat (reader_took r (cond b (answer.Called 0) (answer.Failed code)) reader_step.ReadBlock)
      fit true e = record { no_device_while_checking = λ z. absurd (never_asks (ap reader_holds is) z); step = tt }
      fit false e = let n = eqb-false code 0 e in let pos : 0 < code = omega arith in record { no_device_while_checking = λ z. absurd (never_asks (ap reader_holds is) z); step = (pos, A.cause pos) }

  -- it loads FAILED
  pub reader_checked : r.checks ≡ true → Kept D c m g p (set actors seat (actor.Reader (cond (eqb m.failed 0) (record r { checks = false }) (record r { checks = false; code = m.failed; step = reader_step.Failed }))))
  reader_checked checks = by (eqb m.failed 0) refl
    where
      by : (b : Bool) → eqb m.failed 0 ≡ b → Kept D c m g p (set actors seat (actor.Reader (cond b (record r { checks = false }) (record r { checks = false; code = m.failed; step = reader_step.Failed }))))
      by true e = reads_on (record r { checks = false }) refl (record { no_device_while_checking = λ z. absurd (cc); step = its.step })
      by false e = reads_on (record r { checks = false; code = m.failed; step = reader_step.Failed }) (sym (its.no_device_while_checking checks)) (record { no_device_while_checking = λ z. refl; step = (let n = eqb-false m.failed 0 e in omega arith) })
