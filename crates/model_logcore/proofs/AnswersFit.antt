-- The answer to an actor's Op is one that it can take: no number of its own wraps, no byte is lost, and no list outgrows its
-- room.
use Rattle.model_core.specs.ReaderProgram.{reader_op}
use Rattle.std.proofs.Common.{Bool, List, [], ap, arith, cond, drop, false, leb-false, length, refl, subst, suc, sym, true, zero, ℕ, ⊎_elim, ◌%◌, ◌*◌, ◌+◌, ◌-◌, ◌/◌, ◌<◌, ◌∙◌, ◌∷◌, ◌≡◌, ◌≤◌}
use Rattle.std.specs.Prelude.{slice_index}
use lib.ListN.{get_elem?}
use native.Mathlib.Decide.{dec_le, ℕ_discrete}
use Rattle.model_base.specs.declared.limits.TheConstants.{LSN_LIMIT}
use Rattle.model_log.specs.declared.layout.TheConstants.{BLOCK_DATA}
use Rattle.model_core.proofs.Groups.{first_base, first_from, tiles_at}
use Rattle.model_core.proofs.Lanes.{part_word}
use Rattle.model_core.proofs.Lsns.{floor_lsn, lsn_below, lsn_block, lsn_le, sn_below}
use Rattle.model_core.proofs.Tails.{tail_in}
use Rattle.model_core.specs.{Actor, Advance, advance_op, answer_limit, checkpointer_op, cleaner_op, closer_op, end_of, first_of, floor, flusher_op, group_bytes, left_in_word, Listed, lsn, next, old_of, read_place, shared_answer, SharedWords, tail_of, tail_word, user_fits, user_op, UserState, writer_fits, writer_op, WriterState, advance_fits, LogSide, Setup}
use Rattle.model_core.specs.Fitting.{Fitting}
use Rattle.model_core.specs.declared.ops.Op.{Op}
use Rattle.model_core.specs.declared.steps.AdvanceStep.{AdvanceStep}
use Rattle.model_core.specs.declared.steps.UserStep.{UserStep}
use Rattle.model_core.specs.declared.steps.WriterStep.{WriterStep}
use Rattle.model_core.specs.declared.limits.TheConstants.{WRITTEN_LINKS}
use Rattle.model_logcore.proofs.RingSteps.{sum_small}
use Rattle.model_logcore.proofs.UserGroups.{lengths_step}
use Rattle.model_logcore.proofs.WriterCells.{block_is, first_true}
use Rattle.model_logcore.proofs.AdvanceSteps.{link_here}
use Rattle.model_logcore.proofs.WriterSteps.{tail_near}
use Rattle.model_logcore.specs.LogFacts.{LogGhost, sum_over_actors}
use Rattle.model_logcore.specs.LogFits.{AdvanceAt, UserAt, UserFits, WriterAt, WriterFits, LogHalf, left_to_reserve, lengths}
use Rattle.model_core.specs.declared.words.Word.TheVariants as word
use Rattle.model_core.specs.declared.ops.Op.TheVariants as op
use Rattle.model_core.specs.declared.steps.AdvanceStep.TheVariants as advance_step
use Rattle.model_core.specs.declared.words.LinkBuffer.TheVariants as link_buffer
use Rattle.model_core.specs.declared.steps.UserStep.TheVariants as user_step
use Rattle.model_core.specs.declared.steps.WriterStep.TheVariants as writer_step
use Rattle.model_core.specs.States as actor
use mathlib.Core.Option as maybe

sum_at : {V : Type 0} (f : V → ℕ) (vs : List V) (i : ℕ) (v : V) → get_elem? vs i ≡ maybe.some v → f v ≤ sum_over_actors f vs
sum_at f [] i v e = absurd (maybe.some-ne-none v (sym e))
sum_at f (x ∷ xs) zero v e = let s : f x ≡ f v = ap f (maybe.some-injective x v e) in omega arith
sum_at f (x ∷ xs) (suc i) v e = let r = sum_at f xs i v e in omega arith

module _ (D : LogSide) (c : Setup) (m : SharedWords) (g : LogGhost) (p : D.Part) (actors : List Actor) (seat : ℕ) (before : LogHalf D c m g p actors) where
  pub small_sn : lsn m.sn < LSN_LIMIT
  small_sn = lsn_below m.sn (m.sn + sum_over_actors left_to_reserve actors) LSN_LIMIT (omega arith) before.room

  small_wtail : m.wtail < LSN_LIMIT
  small_wtail = let O = before.global.order in let a = O.wtail_is in let b = lsn_le g.wtail m.sn (let x = O.wtail_tail in let y = O.tail_sn in omega arith) in let s = small_sn in omega arith

  small_write : m.write < LSN_LIMIT
  small_write = let P = before.global.part in let a = P.write_written in let b = P.written_wtail in let s = small_wtail in omega arith

  small_ckpt : m.ckpt < LSN_LIMIT
  small_ckpt = let P = before.global.part in let a = P.ckpt_part in let b = P.ckpt_asked in let d = P.asked_stable in let e = P.stable_written in let f = P.written_wtail in let s = small_wtail in omega arith

  -- the tail in the word
  tail_small_in : tail_of (tail_word m.wtail m.wheld) < answer_limit
  tail_small_in = let e = tail_in m.wtail m.wheld in let s = small_wtail in omega arith

  -- a link at the place of an advance leads no further than SN
  linked_small : (place n : ℕ) → place ≡ lsn g.tail → slice_index m.wlinks (place % WRITTEN_LINKS) ≡ n → place + n < answer_limit
  linked_small place n t e = let O = before.global.order in let sm = small_sn in let le = lsn_le g.tail m.sn O.tail_sn in elim (dec_le 1 n) [
    | yes d ↦ (let v : slice_index m.wlinks (lsn g.tail % WRITTEN_LINKS) ≡ n = ap (λ (k : ℕ). slice_index m.wlinks (k % WRITTEN_LINKS)) (sym t) ∙ e in
        let o = link_here D c m g p actors before n v (omega arith) in
        let w = (tiles_at g.log c.base m.sn o.0.at o.0.group before.global.tiled.tiles o.0.is).1 in
        let k = lsn_le (end_of o.0.group) m.sn w in
        let z = o.0.size in let y : lsn o.0.group.start ≡ lsn g.tail = ap lsn o.1 in
        omega arith)
    | no d ↦ omega arith
  ]

  advance_can : (v : Advance) (s : AdvanceStep) → AdvanceAt D c m g p seat v s → (ls : ℕ → List Listed) (broken : Bool) (code mark : ℕ) → advance_fits v (old_of (shared_answer ls broken code mark m (advance_op link_buffer.Written v s))) s
  advance_can v advance_step.LoadTail h ls broken code mark = tail_small_in
  advance_can v advance_step.LoadLink h ls broken code mark = linked_small v.place (slice_index m.wlinks (v.place % WRITTEN_LINKS)) h.place refl
  advance_can v _ h ls broken code mark = tt

  user_can : (u : UserState) → get_elem? actors seat ≡ maybe.some (actor.User u) → (f : UserStep) → UserAt D c m g p seat u f → (ls : ℕ → List Listed) (broken : Bool) (code mark : ℕ) → user_fits u (old_of (shared_answer ls broken code mark m (user_op u f))) f
  user_can u at user_step.LoadCheckpoint h ls broken code mark = let s = small_ckpt in omega arith
  user_can u at user_step.LoadSn h ls broken code mark = let s = sn_below m.sn m.sn LSN_LIMIT (omega arith) small_sn in omega arith
  user_can u at user_step.Reserve h ls broken code mark =
      let t = sum_at left_to_reserve actors seat (actor.User u) at in
      let z : lengths (drop (length u.starts) u.lines) ≡ length (group_bytes u) + lengths (drop (u.k + 1) u.lines) = ap (λ (j : ℕ). lengths (drop j u.lines)) h.0 ∙ lengths_step u.lines u.k h.1 in
      let s = sn_below (m.sn + length (group_bytes u)) (m.sn + sum_over_actors left_to_reserve actors) LSN_LIMIT (omega arith) before.room in
      omega arith
  user_can u at user_step.LoadWrite h ls broken code mark = let s = small_write in omega arith
  user_can u at user_step.AddCell h ls broken code mark = sum_small D c m g p actors seat u before at h
  user_can u at user_step.LoadWtail h ls broken code mark = tail_small_in
  user_can u at (user_step.AdvanceWritten s) h ls broken code mark = advance_can u.advance s h.1 ls broken code mark
  user_can u at user_step.ReloadWtail h ls broken code mark = tail_small_in
  user_can u at _ h ls broken code mark = tt

  module _ (s : WriterState) (at : get_elem? actors seat ≡ maybe.some (actor.Writer s)) where
    mine : WriterFits D c m g p seat s
    mine = before.each seat (actor.Writer s) at

    -- what the writer keeps and hasn't read is small
    tail_small : g.target < s.from + 63488
    tail_small = let O = before.global.order in let near = tail_near D c m g p actors seat s before at in let t = mine.tail in let from = mine.from in
        let f : floor m.write ≡ floor (lsn g.write) = ap floor O.write_is in
        let w = floor_lsn g.write in
        let q = lsn_block g.target in
        omega arith

    kept_small : g.read < g.target → length s.kept < 63488
    kept_small l = let a = mine.long in let t = tail_small in omega arith

    first_small : length s.kept ≡ BLOCK_DATA * length s.firsts → g.read < g.target → slice_index m.firsts (lsn (read_place s) / 512 % 128) < 512
    first_small e l =
        let value : slice_index m.firsts (lsn (read_place s) / 512 % 128) ≡ first_of c.base g.log g.entered =
        ap (λ (k : ℕ). slice_index m.firsts (k % 128)) (block_is D c m g p actors seat s before at e) ∙ before.global.first_offsets.slots_are g.entered (omega arith) (omega arith) ∙ first_true D c m g p actors seat s before at e l in
        elim (ℕ_discrete g.entered (c.base / BLOCK_DATA)) [
          | yes z ↦ (let k : first_of c.base g.log g.entered ≡ 12 = ap (first_of c.base g.log) z ∙ first_base c.base g.log in omega arith)
          | no n ↦ ⊎_elim (λ z. omega arith) (λ z. let v = z.4 in omega arith) (first_from c.base g.log g.entered n)
        ]

    writer_can : (f : WriterStep) → WriterAt D c m g p seat s f → (ls : ℕ → List Listed) (broken : Bool) (code mark : ℕ) → writer_fits s (old_of (shared_answer ls broken code mark m (writer_op s f))) f
    writer_can (writer_step.Advance v) h ls broken code mark = advance_can s.advance v h.1 ls broken code mark
    writer_can writer_step.LoadCheckpoint h ls broken code mark = let s = small_ckpt in omega arith
    writer_can writer_step.LoadFirst h ls broken code mark = first_small h.3 h.1
    writer_can writer_step.ClearFirst h ls broken code mark = let k = kept_small h.1 in let e = h.3 in omega arith
    writer_can writer_step.LoadCell h ls broken code mark = λ part. let a = mine.long in let k = tail_small in let z = h.1 in
        let few = leb-false (left_in_word (read_place s)) (s.tail - lsn (read_place s)) part in
        let is : read_place s + (lsn g.target - lsn (read_place s)) ≡ g.target = part_word (read_place s) g.target (omega arith) (subst (λ (t : ℕ). t - lsn (read_place s) < left_in_word (read_place s)) mine.tail few) in
        subst (λ (t : ℕ). length s.kept + (t - lsn (read_place s)) ≤ 63488) (sym mine.tail) (small_of (length s.kept) (lsn g.target - lsn (read_place s)) is)
      where
        small_of : (k n : ℕ) → s.from + k + n ≡ g.target → k + n ≤ 63488
        small_of k n e = let t = tail_small in omega arith
    writer_can writer_step.ClearCell h ls broken code mark = small_of (length s.kept) (left_in_word (read_place s)) h.4
      where
        small_of : (k n : ℕ) → s.from + k + n ≤ g.target → k + n ≤ 63488
        small_of k n e = let t = tail_small in omega arith
    writer_can writer_step.StoreWrite h ls broken code mark = let O = before.global.order in let a = mine.long in let b = mine.wide in let r = O.read_entered in let w = O.read_target in let v = O.target_wtail in let x = O.wtail_tail in let y = O.tail_sn in let z = sn_below m.sn m.sn LSN_LIMIT (omega arith) small_sn in (omega arith, omega arith)
    writer_can _ h ls broken code mark = tt

  checking_fits : (b : Bool) (o : Op) (P : ℕ → Type 0) (ls : ℕ → List Listed) (broken : Bool) (code mark : ℕ) → P (old_of (shared_answer ls broken code mark m o)) → cond b (Unit {0}) (P (old_of (shared_answer ls broken code mark m (cond b (op.Load word.Failed) o))))
  checking_fits true o P ls broken code mark h = tt
  checking_fits false o P ls broken code mark h = h

  -- the answer to an actor's Op is one that it can take
  pub can_take : (a : Actor) → get_elem? actors seat ≡ maybe.some a → (ls : ℕ → List Listed) (broken : Bool) (code mark : ℕ) → Fitting a (shared_answer ls broken code mark m (next a))
  can_take (actor.User u) at ls broken code mark = let h : UserFits D c m g p seat u = before.each seat (actor.User u) at in checking_fits u.checks (user_op u u.step) (λ n. user_fits u n u.step) ls broken code mark (user_can u at u.step h.step ls broken code mark)
  can_take (actor.Writer s) at ls broken code mark = checking_fits s.checks (writer_op s s.step) (λ n. writer_fits s n s.step) ls broken code mark (writer_can s at s.step (mine s at).step ls broken code mark)
  can_take (actor.Flusher f) at ls broken code mark = checking_fits f.checks (flusher_op f f.step) (λ n. Unit {0}) ls broken code mark tt
  can_take (actor.Closer t) at ls broken code mark = checking_fits t.checks (closer_op t t.step) (λ n. Unit {0}) ls broken code mark tt
  can_take (actor.Cleaner v) at ls broken code mark = checking_fits v.checks (cleaner_op v v.step) (λ n. Unit {0}) ls broken code mark tt
  can_take (actor.Checkpointer t) at ls broken code mark = checking_fits t.checks (checkpointer_op t t.step) (λ n. Unit {0}) ls broken code mark tt
  can_take (actor.Reader f) at ls broken code mark = checking_fits f.checks (reader_op f f.step) (λ n. Unit {0}) ls broken code mark tt
