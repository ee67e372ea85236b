-- The writer stores WRITE, or FAILED.
use Rattle.std.proofs.Common.{List, ap, arith, false, inl, length-drop, refl, set, sym, true, ℕ, ◌%◌, ◌*◌, ◌+◌, ◌-◌, ◌/◌, ◌∙◌, ◌≡◌, ◌≤◌}
use Rattle.std.proofs.lemmas.List.{get_or-drop}
use lib.ListN.{get_elem?}
use native.Mathlib.Decide.{dec_le}
use Rattle.std.specs.Prelude.{slice_index}
use Rattle.model_log.specs.declared.layout.TheConstants.{BLOCK_DATA}
use Rattle.model_core.proofs.Lanes.{turn_before, turned_far}
use Rattle.model_core.proofs.Lsns.{floor_grows, lsn_le}
unfoldable use Rattle.model_core.specs.{lane}
use Rattle.model_core.specs.{Actor, byte_at, byte_in, Entry, first_of, floor, full_blocks, lsn, SharedWords, writer_holds, writer_took, WriterState, LogSide, Setup}
use Rattle.model_core.specs.declared.limits.TheConstants.{BUFFER_WORDS, LOG_BUFFER}
use Rattle.model_logcore.proofs.Same.{facts_same, later_marks, numbers_sized, part_same, writer_same}
use Rattle.model_logcore.proofs.WriterSteps.{own, ranks, tail_near, wsteps}
use Rattle.model_logcore.proofs.Frame.{unchanged, Kept}
use Rattle.model_logcore.specs.LogFacts.{LogGhost}
use Rattle.model_logcore.specs.LogFits.{WriterAt, WriterFits, LogHalf}
use mathlib.Core.Option as maybe
use Rattle.model_core.specs.declared.ops.Answer.TheVariants as answer
use Rattle.model_core.specs.declared.steps.WriterStep.TheVariants as writer_step
use Rattle.model_core.specs.States as actor

module _ (D : LogSide) (c : Setup) (m : SharedWords) (g : LogGhost) (p : D.Part) (actors : List Actor) (seat : ℕ) (s : WriterState) (before : LogHalf D c m g p actors) (at : get_elem? actors seat ≡ maybe.some (actor.Writer s)) where
  fit : WriterFits D c m g p seat s
  fit = own D c m g p actors seat s before at

  order : (g.write ≤ g.read) × (g.read ≤ g.target) × (g.target ≤ g.tail) × (g.target ≤ m.sn) × (c.base ≤ g.write)
  order = ranks D c m g p actors seat s before at

  lane_turned : (cells : List ℕ) (a b : ℕ) → a + LOG_BUFFER ≡ b
      → lane (a % 8) (slice_index cells (a / 8 % BUFFER_WORDS)) ≡ lane (b % 8) (slice_index cells (b / 8 % BUFFER_WORDS))
  lane_turned cells a b e = (λ i. lane (lanes_same i) (slice_index cells (words_same i)))
    where
      lanes_same : a % 8 ≡ b % 8
      lanes_same = omega arith

      words_same : a / 8 % BUFFER_WORDS ≡ b / 8 % BUFFER_WORDS
      words_same = omega arith

  -- it stores WRITE, and keeps the last block, where that isn't full
  pub keeps_store_write : s.step ≡ writer_step.StoreWrite → WriterAt D c m g p seat s writer_step.StoreWrite → (h : LogGhost) × Kept D c (record m { write = s.tail }) h p (set actors seat (actor.Writer (writer_took s (answer.Old 0) writer_step.StoreWrite))) × (◌≡◌ {A = List Entry} (h.log) (g.log))
  keeps_store_write is h =
      let m' : SharedWords = record m { write = s.tail } in
      let g' : LogGhost = record g { write = g.target } in
      let w : WriterState = writer_took s (answer.Old 0) writer_step.StoreWrite in
      let G = before.global in let O = G.order in let P = G.part in
      let r = order in let r0 = r.0 in let r1 = r.1 in let r2 = r.2 in let r4 = r.4 in
      let lg = fit.long in let wi = fit.wide in let fr = fit.from in let re = O.read_entered in
      let k2 = h.1 in let k3 = h.2 in
      let up : m.write ≤ s.tail = (let a = O.write_is in let b = lsn_le g.write g.target (omega arith) in let t = fit.tail in omega arith) in
      let floors : floor m.write ≤ floor s.tail = floor_grows m.write s.tail up in (
        g',
        wsteps D c m g p actors seat s before at m' g' p refl w
            (numbers_sized before.sized)
            (record {
              tiled = G.tiled;
              order = record {
                base_even = O.base_even;
                write_is = fit.tail;
                wtail_is = O.wtail_is;
                flushed_is = O.flushed_is;
                base_write = omega arith;
                write_read = omega arith;
                read_target = O.read_target;
                target_wtail = O.target_wtail;
                wtail_tail = O.wtail_tail;
                free = O.free;
                tail_sn = O.tail_sn;
                near = (let z = O.near in omega arith);
                read_entered = O.read_entered;
                entered_target = O.entered_target;
                write_bound = O.target_bound;
                wtail_bound = O.wtail_bound;
                tail_bound = O.tail_bound;
                target_bound = O.target_bound;
                flushed_bound = O.flushed_bound;
              };
              ring_cells = record {
                wide = G.ring_cells.wide;
                stands = λ x l q z. let o = G.ring_cells.stands x l q z in let o1 = o.1 in (o.0, omega arith);
                bare = λ x lo hi z. elim (dec_le (floor m.write + LOG_BUFFER) (lsn x)) [
                  | no d ↦ G.ring_cells.bare x (omega arith) (omega arith) z
                  | yes d ↦ (let far = turned_far x m.write d in
                      let y : ℕ = x - 63488 in
                      let back = turn_before x far in
                      let sm = tail_near D c m g p actors seat s before at in let wr = fit.write in let tl = fit.tail in
                      let same_mark : floor s.tail ≡ floor (lsn g.target) = ap floor tl in
                      let step : floor s.tail ≤ floor m.write + LOG_BUFFER = (let z : floor s.tail ≤ s.tail = omega arith in omega arith) in
                      let read_is : lsn g.read ≡ lsn g.target = ap lsn k3 in
                      let one : byte_in m.cells y ≡ byte_in m.cells x = lane_turned m.cells (lsn y) (lsn x) back in
                      sym one ∙ G.ring_cells.bare y (omega arith) (omega arith) (inl (omega arith)))
                ];
              };
              first_offsets = record { slots_are = G.first_offsets.slots_are; near = λ q z. let o = G.first_offsets.near q z in omega arith; true_first = G.first_offsets.true_first; stored = G.first_offsets.stored; begun = G.first_offsets.begun };
              written_links = G.written_links;
              commits = record { flush = G.commits.flush; wrote = λ i e a b d. let o = G.commits.wrote i e a b d in omega arith; linked = G.commits.linked; last = G.commits.last };
              part = part_same D c m g p P (omega arith) P.given_wtail P.flushed_stable P.ckpt_part P.turn_word;
            })
            (record {
              alone = fit.alone;
              blocks = fit.blocks;
              tail = fit.tail;
              write = refl;
              from = omega arith;
              long = omega (arith, length-drop (BLOCK_DATA * full_blocks s) s.kept);
              kept = λ j l. get_or-drop (BLOCK_DATA * full_blocks s) s.kept j 0 ∙ fit.kept (BLOCK_DATA * full_blocks s + j) (omega (arith, length-drop (BLOCK_DATA * full_blocks s) s.kept)) ∙ ap (byte_at c.base g.log) (let z : s.from + (BLOCK_DATA * full_blocks s + j) ≡ s.from + BLOCK_DATA * full_blocks s + j = omega arith in z);
              wide = omega (arith, length-drop (full_blocks s) s.firsts);
              firsts = λ i l. get_or-drop (full_blocks s) s.firsts i 0 ∙ fit.firsts (full_blocks s + i) (omega (arith, length-drop (full_blocks s) s.firsts)) ∙ ap (first_of c.base g.log) (let z : g.write / BLOCK_DATA + (full_blocks s + i) ≡ g.target / BLOCK_DATA + i = omega arith in z);
              ckpt = fit.ckpt;
              no_device_while_checking = λ z. let y = fit.no_device_while_checking z in let x : true ≡ false = sym (ap writer_holds is) ∙ y in absurd (cc);
              step = ((k3, k2), refl);
            })
            (later_marks D c m g p up (omega arith) (omega arith) (omega arith) (λ z. z) (λ _ _. unchanged))
            refl refl refl refl refl refl (sym (ap writer_holds is)) (λ z. refl),
        refl,
      )

  -- it stores FAILED
  pub keeps_store_failed : s.step ≡ writer_step.StoreFailed → WriterAt D c m g p seat s writer_step.StoreFailed → Kept D c (record m { failed = s.code }) g p (set actors seat (actor.Writer (writer_took s (answer.Old 0) writer_step.StoreFailed)))
  keeps_store_failed is h =
      let m' : SharedWords = record m { failed = s.code } in
      let G = before.global in let h0 = h.0 in
      wsteps D c m g p actors seat s before at m' g p refl (record s { step = writer_step.GiveFailed })
      (numbers_sized before.sized)
      (facts_same D c m g p G.part G)
      (writer_same D c m g p fit fit.tail fit.ckpt (λ z. let y = fit.no_device_while_checking z in let x : true ≡ false = sym (ap writer_holds is) ∙ y in absurd (cc)) h0)
      (later_marks D c m g p (omega arith) (omega arith) (omega arith) (omega arith) (λ z. h0) (λ _ _. unchanged))
      refl refl refl refl refl refl (sym (ap writer_holds is)) (λ z. refl)
