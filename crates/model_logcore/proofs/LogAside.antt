-- Steps of the page actors, as the log half sees them.
use Rattle.std.proofs.Common.{Bool, List, ap, arith, cond, eqb, false, refl, set, sym, true, ℕ, ⊎_elim, ◌<◌, ◌∙◌, ◌≡◌, ◌≤◌, ◌⊎◌}
use Rattle.std.proofs.lemmas.Bool.{eqb-false}
use lib.ListN.{get_elem?}
use Rattle.model_core.specs.{Actor, checkpointer_holds, checkpointer_took, CheckpointerState, entries, Entry, holds, IsSized, layout_of, PageWords, SharedWords, LogSide, Setup}
use Rattle.model_logcore.proofs.Frame.{unchanged, Kept, others_later, others_pointer, moved_on}
use Rattle.model_logcore.proofs.Same.{facts_same, later_marks, part_kept, part_same, still_same}
use Rattle.model_logcore.specs.LogFacts.{LogGhost}
use Rattle.model_logcore.specs.LogFits.{LogFits, CheckpointerFits, LogHalf, left_to_reserve}
use Rattle.model_logcore.specs.LogLaws.{AfterCheckpoint}
use mathlib.Core.Option as maybe
use Rattle.model_core.specs.declared.ops.Answer.TheVariants as answer
use Rattle.model_core.specs.declared.steps.CheckpointerStep.TheVariants as checkpointer_step
use Rattle.model_core.specs.States as actor

module _ (D : LogSide) (c : Setup) (m : SharedWords) (g : LogGhost) (p : D.Part) (actors : List Actor) (seat : ℕ) (a : Actor) (before : LogHalf D c m g p actors) (at : get_elem? actors seat ≡ maybe.some a) where
  -- words that the log half doesn't read change, FAILED to a code, or CKPT up to the newest checkpoint
  pub page_aside : (lists clinks : List ℕ) (page_words : List PageWords) (ctail : ℕ) (cheld : Bool) (ckpt failed : ℕ) (b : Actor) → IsSized (layout_of c) (record m { lists = lists; clinks = clinks; page_words = page_words; ctail = ctail; cheld = cheld; ckpt = ckpt; failed = failed })
      → m.ckpt ≤ ckpt → ckpt ≤ D.ckpt p → (0 < m.failed → 0 < failed) → (ckpt ≡ m.ckpt) ⊎ (seat ≡ c.checkpointer)
      → LogFits D c (record m { lists = lists; clinks = clinks; page_words = page_words; ctail = ctail; cheld = cheld; ckpt = ckpt; failed = failed }) g p seat b → holds b ≡ holds a → ◌≡◌ {A = List Entry} (entries b) (entries a) → left_to_reserve b ≤ left_to_reserve a
      → Kept D c (record m { lists = lists; clinks = clinks; page_words = page_words; ctail = ctail; cheld = cheld; ckpt = ckpt; failed = failed }) g p (set actors seat b)
  page_aside lists clinks page_words ctail cheld ckpt failed b sized up low fails who f keep same le =
      let m' : SharedWords = record m { lists = lists; clinks = clinks; page_words = page_words; ctail = ctail; cheld = cheld; ckpt = ckpt; failed = failed } in
      let G = before.global in let P = G.part in
      moved_on D c m m' g g p p actors seat a b before at sized
      (facts_same D c m g p (part_same D c m g p P P.write_written P.given_wtail P.flushed_stable low P.turn_word) G)
      f
      (λ j x n e. ⊎_elim
      (λ z. others_later D c m m' g g p p seat G
      (later_marks D c m g p (omega arith) (omega arith) up (omega arith) fails (λ _ _. unchanged))
      (still_same D c m g p up fails refl)
      (record { writer = refl; flushed = refl; ckpt_word = z; failed = fails; point = refl })
      j x n (λ _. refl) (before.each j x e))
      (λ z. others_pointer D c m m' g g p p seat z G
      (later_marks D c m g p (omega arith) (omega arith) up (omega arith) fails (λ _ _. unchanged))
      (still_same D c m g p up fails refl)
      refl j x n (λ _. refl) (before.each j x e))
      who)
      refl refl refl refl keep same le

-- a checkpoint is written, or fails
module _ (D : LogSide) (c : Setup) (m : SharedWords) (g : LogGhost) (p : D.Part) (actors : List Actor) (seat : ℕ) (t : CheckpointerState) (before : LogHalf D c m g p actors) (at : get_elem? actors seat ≡ maybe.some (actor.Checkpointer t)) where
  his : CheckpointerFits D c m g p seat t
  his = before.each seat (actor.Checkpointer t) at

  pub points_by : (q : D.Part) (code : ℕ) (b : Bool) → eqb code 0 ≡ b → t.step ≡ checkpointer_step.Checkpoint → D.ckpt p ≡ t.own → D.ckpt p < t.to → t.to ≤ D.stable p → AfterCheckpoint D c.blocks c.base g.log t.to code p q
      → Kept D c m g q (set actors seat (actor.Checkpointer (checkpointer_took t (cond b (answer.Called 0) (answer.Failed code)) checkpointer_step.Checkpoint)))
  points_by q code b b_is is own more below A =
      let G = before.global in let P = G.part in
      let held : checkpointer_holds t.step ≡ true = ap checkpointer_holds is in
      let w3 = A.given in
      let keep : (b : Bool) → holds (actor.Checkpointer (checkpointer_took t (cond b (answer.Called 0) (answer.Failed code)) checkpointer_step.Checkpoint)) ≡ true = λ b. elim b as (λ (x : Bool). holds (actor.Checkpointer (checkpointer_took t (cond x (answer.Called 0) (answer.Failed code)) checkpointer_step.Checkpoint)) ≡ true) [ true ↦ refl | false ↦ refl ] in
      let never : t.checks ≡ true → ⊥ = λ z. let y = his.no_device_while_checking z in let x : true ≡ false = sym held ∙ y in cc in
      let ckpt_by : (b : Bool) → eqb code 0 ≡ b → D.ckpt q ≡ cond b t.to (D.ckpt p) = λ b e. A.ckpt ∙ ap (λ (z : Bool). cond z t.to (D.ckpt p)) e in
      let span : (b : Bool) → eqb code 0 ≡ b → (D.ckpt p ≤ D.ckpt q) × (D.ckpt q ≤ t.to) = λ b. elim b as (λ (x : Bool). eqb code 0 ≡ x → (D.ckpt p ≤ D.ckpt q) × (D.ckpt q ≤ t.to)) [
        | true ↦ (λ e. let k = ckpt_by true e in (omega arith, omega arith))
        | false ↦ (λ e. let k = ckpt_by false e in (omega arith, omega arith))
      ] in
      let sp = span b b_is in let s0 = sp.0 in let s1 = sp.1 in
      let fit : (b : Bool) → eqb code 0 ≡ b → CheckpointerFits D c m g q seat (checkpointer_took t (cond b (answer.Called 0) (answer.Failed code)) checkpointer_step.Checkpoint) = λ b. elim b as (λ (x : Bool). eqb code 0 ≡ x → CheckpointerFits D c m g q seat (checkpointer_took t (cond x (answer.Called 0) (answer.Failed code)) checkpointer_step.Checkpoint)) [
        | true ↦ (λ e. record { alone = his.alone; own = his.own; no_device_while_checking = λ z. absurd (never z); step = ckpt_by true e })
        | false ↦ (λ e. let n = eqb-false code 0 e in let pos : 0 < code = omega arith in record { alone = his.alone; own = his.own; no_device_while_checking = λ z. absurd (never z); step = (pos, A.cause pos) })
      ] in
      moved_on D c m m g g p q actors seat (actor.Checkpointer t) (actor.Checkpointer (checkpointer_took t (cond b (answer.Called 0) (answer.Failed code)) checkpointer_step.Checkpoint)) before at before.sized
      (facts_same D c m g p (part_kept D c m g p P A.holds A.written A.stable (let z = P.written_given in omega arith) (let z = P.given_wtail in omega arith) (let z = P.ckpt_part in omega arith) (let z = A.asked in omega arith) (let z = A.asked in omega arith)) G)
      (fit b b_is)
      (λ j x n e. others_pointer D c m m g g p q seat his.alone G
      (later_marks D c m g p (omega arith) (omega arith) (omega arith) (omega arith) (λ z. z) (λ _ _. unchanged))
      (still_same D c m g p (omega arith) (λ z. z) A.written)
      refl j x n (λ h. absurd (n ((before.turns j x e h).1 ∙ sym (before.turns seat (actor.Checkpointer t) at held).1))) (before.each j x e))
      refl refl refl refl (keep b ∙ sym held) refl (omega arith)
