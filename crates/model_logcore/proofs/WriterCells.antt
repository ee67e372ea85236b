-- The writer loads CKPT, enters blocks, loads and clears the words of the log buffer, and loads FAILED.
use Rattle.std.proofs.Common.{Bool, List, [], ap, arith, cond, eqb, eqb-true, false, inl, inr, leb-true, length, length-append, refl, set, subst, sym, true, ℕ, ⊎_elim, ◌%◌, ◌*◌, ◌++◌, ◌+◌, ◌-◌, ◌/◌, ◌<◌, ◌^◌, ◌∙◌, ◌∷◌, ◌≡◌, ◌≢◌, ◌≤◌}
use Rattle.std.proofs.lemmas.Bool.{eqb-false, leb-false}
use Rattle.std.specs.Prelude.{nat_le, slice_index, slice_set}
use lib.ListN.{get_elem?}
use native.Mathlib.Decide.{dec_le, ℕ_discrete}
use Rattle.model_log.specs.declared.layout.TheConstants.{BLOCK_DATA}
use Rattle.model_core.proofs.Groups.{back, crosses_is, first_from, front, tiles_at}
use Rattle.model_core.proofs.Lanes.{cell_word, in_later_word, lane_of_zero, lanes_are, lanes_long, later_word, left_block, next_lanes, part_word, same_word, whole_word, word_grows, word_up}
use Rattle.model_core.proofs.Lsns.{floor_grows, floor_lsn, lsn_block, lsn_le, lsn_same, ring_same}
unfoldable use Rattle.model_core.specs.{lane, lanes}
use Rattle.model_core.specs.{Actor, byte_at, ceiling, cell_of, end_of, Entry, first_of, floor, has_whole_word, IsLent, lane_of, left_in_word, lsn, read_place, SharedWords, stands_outside, word_end, writer_holds, writer_took, WriterState, LogSide, Setup}
use Rattle.model_core.specs.declared.steps.WriterStep.{WriterStep}
use Rattle.model_core.specs.declared.limits.TheConstants.{BUFFER_WORDS, LOG_BUFFER}
use Rattle.model_logcore.proofs.Same.{cells_sized, firsts_sized, later_marks, order_on, stored_here, stored_else}
use Rattle.model_logcore.proofs.WriterSteps.{WNow, own, ranks, wquiet, wsteps}
use Rattle.model_logcore.proofs.Frame.{unchanged, Kept}
use Rattle.model_logcore.specs.LogFacts.{LogGhost, RingCells}
use Rattle.model_logcore.specs.LogFits.{WriterAt, WriterFits, LogHalf}
use mathlib.Core.Option as maybe
use Rattle.model_core.specs.declared.ops.Answer.TheVariants as answer
use Rattle.model_core.specs.declared.steps.WriterStep.TheVariants as writer_step
use Rattle.model_core.specs.States as actor

module _ (D : LogSide) (c : Setup) (m : SharedWords) (g : LogGhost) (p : D.Part) (actors : List Actor) (seat : ℕ) (s : WriterState) (before : LogHalf D c m g p actors) (at : get_elem? actors seat ≡ maybe.some (actor.Writer s)) where
  fit : WriterFits D c m g p seat s
  fit = own D c m g p actors seat s before at

  order : (g.write ≤ g.read) × (g.read ≤ g.target) × (g.target ≤ g.tail) × (g.target ≤ m.sn) × (c.base ≤ g.write)
  order = ranks D c m g p actors seat s before at

  quiet : (first ckpt code : ℕ) (checks : Bool) (st : WriterStep) → ckpt ≤ m.ckpt → (checks ≡ true → writer_holds st ≡ false) → writer_holds st ≡ writer_holds s.step → WriterAt D c m g p seat (record s { first = first; ckpt = ckpt; code = code; checks = checks; step = st }) st
      → Kept D c m g p (set actors seat (actor.Writer (record s { first = first; ckpt = ckpt; code = code; checks = checks; step = st })))
  quiet = wquiet D c m g p actors seat s before at

  limit_by : (b d : Bool) → nat_le (ceiling s.tail) (m.ckpt + 512 * s.blocks) ≡ b → stands_outside s ≡ d → writer_holds s.step ≡ false → WriterAt D c m g p seat s writer_step.LoadCheckpoint
      → WNow D c m g p actors seat s before at (cond b (record s { ckpt = m.ckpt; step = cond d writer_step.LoadFirst writer_step.LoadCell }) (record s { ckpt = m.ckpt; checks = true; step = writer_step.LoadCheckpoint }))
  limit_by true true e f free h = quiet s.first m.ckpt s.code s.checks writer_step.LoadFirst (omega arith) (λ z. refl) (sym free)
      (h.0, (let a = h.0.0 in let z = h.1 in omega arith), leb-true (ceiling s.tail) (m.ckpt + 512 * s.blocks) e, eqb-true (length s.kept) (BLOCK_DATA * length s.firsts) f)
  limit_by true false e f free h = quiet s.first m.ckpt s.code s.checks writer_step.LoadCell (omega arith) (λ z. refl) (sym free) (
    h.0,
    (let a = h.0.0 in let z = h.1 in omega arith),
    leb-true (ceiling s.tail) (m.ckpt + 512 * s.blocks) e,
    (let n = eqb-false (length s.kept) (BLOCK_DATA * length s.firsts) f in let a = fit.long in let w = fit.wide in let r = before.global.order.read_entered in omega arith),
  )
  limit_by false d e f free h = quiet s.first m.ckpt s.code true writer_step.LoadCheckpoint (omega arith) (λ z. refl) (sym free) h

  -- it loads CKPT
  pub keeps_load_checkpoint : s.step ≡ writer_step.LoadCheckpoint → WriterAt D c m g p seat s writer_step.LoadCheckpoint → WNow D c m g p actors seat s before at (writer_took s (answer.Old m.ckpt) writer_step.LoadCheckpoint)
  keeps_load_checkpoint is h = limit_by (nat_le (ceiling s.tail) (m.ckpt + 512 * s.blocks)) (stands_outside s) refl refl (ap writer_holds is) h

  -- where it enters a block
  at_block : length s.kept ≡ BLOCK_DATA * length s.firsts → (read_place s ≡ g.read) × (g.read ≡ BLOCK_DATA * g.entered)
  at_block e = let a = fit.long in let w = fit.wide in (a, omega arith)

  pub block_is : length s.kept ≡ BLOCK_DATA * length s.firsts → lsn (read_place s) / 512 ≡ g.entered
  block_is e = let b = at_block e in let a = b.0 in let z = b.1 in let k = lsn_block (read_place s) in omega arith

  -- FIRST of the block that the writer enters is the block's first offset: all groups that start below it are linked
  pub first_true : length s.kept ≡ BLOCK_DATA * length s.firsts → g.read < g.target → g.first g.entered ≡ first_of c.base g.log g.entered
  first_true e l =
      let q : ℕ = g.entered in
      let G = before.global in
      let b = at_block e in let b1 = b.1 in
      elim (dec_le 1 (g.first q)) [
        | yes d ↦ G.first_offsets.true_first q (omega arith)
        | no d ↦ elim (ℕ_discrete q (c.base / BLOCK_DATA)) [
          | yes z ↦ (let k : 0 < g.first q = subst (λ (x : ℕ). 0 < g.first x) (sym z) G.first_offsets.begun in absurd (omega arith))
          | no n ↦ ⊎_elim (λ z. omega arith)
              (λ z. let k = crosses_is q z.1 z.3 in let k0 = k.0 in let k1 = k.1 in
              let w = tiles_at g.log c.base m.sn z.0 z.1 G.tiled.tiles z.2 in let w0 = w.0 in
              let two = G.written_links.linked z.1.start w0 (let up = order.2 in omega arith) in
              let some_first = G.first_offsets.stored z.0 z.1 z.2 two (omega arith) in
              let same : g.first (end_of z.1 / BLOCK_DATA) ≡ g.first q = ap g.first k0 in
              absurd (omega arith))
              (first_from c.base g.log q n)
        ]
      ]

  -- it loads the first offset of the block that it enters
  pub keeps_load_first : s.step ≡ writer_step.LoadFirst → WriterAt D c m g p seat s writer_step.LoadFirst → WNow D c m g p actors seat s before at (writer_took s (answer.Old (slice_index m.firsts (lsn (read_place s) / 512 % 128))) writer_step.LoadFirst)
  keeps_load_first is h =
      let value : slice_index m.firsts (lsn (read_place s) / 512 % 128) ≡ first_of c.base g.log g.entered =
      ap (λ (k : ℕ). slice_index m.firsts (k % 128)) (block_is h.3) ∙ before.global.first_offsets.slots_are g.entered (omega arith) (omega arith) ∙ first_true h.3 h.1 in
      quiet (slice_index m.firsts (lsn (read_place s) / 512 % 128)) s.ckpt s.code s.checks writer_step.ClearFirst fit.ckpt (λ z. refl) (sym (ap writer_holds is)) (h.0, h.1, h.2, h.3, value)

  -- it clears that first offset, and has entered the block
  pub keeps_clear_first : s.step ≡ writer_step.ClearFirst → WriterAt D c m g p seat s writer_step.ClearFirst
      → (h : LogGhost) × Kept D c (record m { firsts = slice_set m.firsts (lsn (read_place s) / 512 % 128) 0 }) h p (set actors seat (actor.Writer (writer_took s (answer.Old 0) writer_step.ClearFirst))) × (◌≡◌ {A = List Entry} (h.log) (g.log))
  keeps_clear_first is h = wiped (lsn (read_place s) / 512 % 128) (ap (λ (k : ℕ). k % 128) (block_is h.3))
    where
      wiped : (i : ℕ) → i ≡ g.entered % 128 → (h : LogGhost) × Kept D c (record m { firsts = slice_set m.firsts i 0 }) h p (set actors seat (actor.Writer (writer_took s (answer.Old 0) writer_step.ClearFirst))) × (◌≡◌ {A = List Entry} (h.log) (g.log))
      wiped i i_is =
          let m' : SharedWords = record m { firsts = slice_set m.firsts i 0 } in
          let g' : LogGhost = record g { entered = g.entered + 1 } in
          let w : WriterState = record s { firsts = s.firsts ++ s.first ∷ []; first = 0; step = writer_step.LoadCell } in
          let G = before.global in let O = G.order in let H = G.first_offsets in
          let r = order in let r0 = r.0 in
          let b = at_block h.3 in let b0 = b.0 in let b1 = b.1 in
          let less = h.1 in
          let fr = fit.from in let wi = fit.wide in
          let slot : i < length m.firsts = omega (arith, before.sized.firsts) in
          let ahead : g.first (g.entered + 128) ≡ 0 = elim (dec_le 1 (g.first (g.entered + 128))) [
            | yes d ↦ (let z = H.near (g.entered + 128) (omega arith) in let f = floor_lsn g.write in let k : floor m.write ≡ floor (lsn g.write) = ap floor O.write_is in absurd (omega arith))
            | no d ↦ omega arith
          ] in (
            g',
            wsteps D c m g p actors seat s before at m' g' p refl w
                (firsts_sized i 0 before.sized)
                (record {
                  tiled = G.tiled;
                  order = order_on D c m g p O O.write_read O.read_target O.target_wtail (omega arith) (omega arith) O.target_bound;
                  ring_cells = G.ring_cells;
                  first_offsets = record {
                    slots_are = λ q l k. elim (ℕ_discrete q (g.entered + 128)) [
                      | yes z ↦ (let e : q % 128 ≡ i = omega arith in stored_here m.firsts i 0 (q % 128) e slot ∙ sym (ap g.first z ∙ ahead))
                      | no n ↦ (let ne : q % 128 ≢ i = (λ e. let same : q ≡ g.entered = ring_same q g.entered g.entered 128 (omega arith) (omega arith) (omega arith) (omega arith) (e ∙ i_is) in omega arith) in
                          stored_else m.firsts i 0 (q % 128) ne ∙ H.slots_are q (omega arith) (omega arith))
                    ];
                    near = H.near;
                    true_first = H.true_first;
                    stored = H.stored;
                    begun = H.begun;
                  };
                  written_links = G.written_links;
                  commits = G.commits;
                  part = G.part;
                })
                (record {
                  alone = fit.alone;
                  blocks = fit.blocks;
                  tail = fit.tail;
                  write = fit.write;
                  from = fit.from;
                  long = fit.long;
                  kept = fit.kept;
                  wide = omega (arith, length-append s.firsts (s.first ∷ []));
                  firsts = λ j l. elim (dec_le (length s.firsts) j) [
                    | yes d ↦ (let z : j ≡ length s.firsts + 0 = omega (arith, length-append s.firsts (s.first ∷ [])) in
                        subst (λ (y : ℕ). slice_index (s.firsts ++ s.first ∷ []) y ≡ first_of c.base g.log (g.write / BLOCK_DATA + y)) (sym z)
                        (back s.firsts (s.first ∷ []) (length s.firsts) 0 refl ∙ h.4 ∙ ap (first_of c.base g.log) (let k : g.entered ≡ g.write / BLOCK_DATA + (length s.firsts + 0) = omega arith in k)))
                    | no d ↦ front s.firsts (s.first ∷ []) j (omega arith) ∙ fit.firsts j (omega arith)
                  ];
                  ckpt = fit.ckpt;
                  no_device_while_checking = λ z. refl;
                  step = (h.0, h.1, h.2, (let z = h.3 in omega (arith, length-append s.firsts (s.first ∷ []))));
                })
                (later_marks D c m g p (omega arith) (omega arith) (omega arith) (omega arith) (λ z. z) (λ _ _. unchanged))
                refl refl refl refl refl refl (sym (ap writer_holds is)) (λ z. refl),
            refl,
          )

  -- a block that it has entered ends at or before the first one that it hasn't
  from_even : s.from % BLOCK_DATA ≡ 0
  from_even = let f = fit.from in even_of (g.write / BLOCK_DATA) s.from f
    where
      even_of : (q n : ℕ) → n ≡ q * BLOCK_DATA → n % BLOCK_DATA ≡ 0
      even_of q n e = omega arith

  end_before : (k n entered kept firsts from : ℕ) → k ≡ from + kept → from + BLOCK_DATA * firsts ≡ BLOCK_DATA * entered → kept < BLOCK_DATA * firsts → from % BLOCK_DATA ≡ 0 → k + n ≤ (k / BLOCK_DATA + 1) * BLOCK_DATA → k + n ≤ BLOCK_DATA * entered
  end_before k n entered kept firsts from k_is wide room even le = omega arith

  end_within : (k n left entered kept firsts from : ℕ) → k ≡ from + kept → from + BLOCK_DATA * firsts ≡ BLOCK_DATA * entered → kept < BLOCK_DATA * firsts → from % BLOCK_DATA ≡ 0 → n < left → k + left ≤ (k / BLOCK_DATA + 1) * BLOCK_DATA → k + n ≡ g.target → g.target ≤ BLOCK_DATA * entered
  end_within k n left entered kept firsts from k_is wide room even few le is = let z = end_before k left entered kept firsts from k_is wide room even le in omega arith

  -- the lanes of the word at the read place hold the stream's bytes, up to the tail
  pub word_true : (j : ℕ) → j < left_in_word (read_place s) → read_place s + j < g.target → lane (lane_of (read_place s) + j) (slice_index m.cells (cell_of (read_place s))) ≡ byte_at c.base g.log (read_place s + j)
  word_true j l below = true_of (read_place s) fit.long l below
    where
      true_of : (k : ℕ) → k ≡ g.read → j < left_in_word k → k + j < g.target → lane (lane_of k + j) (slice_index m.cells (cell_of k)) ≡ byte_at c.base g.log (k + j)
      true_of k k_is l below = let r = order in let r0 = r.0 in let r3 = r.3 in let r4 = r.4 in
          let two = before.global.written_links.linked (k + j) (omega arith) (let up = r.2 in omega arith) in
          let z = before.global.ring_cells.stands (k + j) (word_grows g.read (k + j) (omega arith)) (omega arith) (omega arith) in
          ap (λ (y : ℕ). lane y (slice_index m.cells (cell_of k))) (sym (next_lanes k j l))
          ∙ ap (λ (y : ℕ). lane (lane_of (k + j)) (slice_index m.cells (y % BUFFER_WORDS))) (sym (same_word k j l)) ∙ z.0

  -- it keeps so many bytes more, from the lanes of a word that has them
  kept_on : (n w : ℕ) → ((j : ℕ) → j < n → lane (lane_of (read_place s) + j) w ≡ byte_at c.base g.log (read_place s + j)) → (i : ℕ) → i < length (s.kept ++ lanes (lane_of (read_place s)) n w)
      → slice_index (s.kept ++ lanes (lane_of (read_place s)) n w) i ≡ byte_at c.base g.log (s.from + i)
  kept_on n w true_lanes i l = elim (dec_le (length s.kept) i) [
    | yes q ↦ (let j : ℕ = i - length s.kept in
        let z : length s.kept + j ≡ i = omega arith in
        let lt : j < n = omega (arith, l, length-append s.kept (lanes (lane_of (read_place s)) n w), lanes_long (lane_of (read_place s)) n w) in
        subst (λ (y : ℕ). slice_index (s.kept ++ lanes (lane_of (read_place s)) n w) y ≡ byte_at c.base g.log (s.from + y)) z
        (back s.kept (lanes (lane_of (read_place s)) n w) (length s.kept) j refl ∙ lanes_are (lane_of (read_place s)) n w j lt ∙ true_lanes j lt ∙ ap (byte_at c.base g.log) (let f : read_place s + j ≡ s.from + (length s.kept + j) = omega arith in f)))
    | no q ↦ front s.kept (lanes (lane_of (read_place s)) n w) i (omega arith) ∙ fit.kept i (omega arith)
  ]

  kept_long : (n w : ℕ) → s.from + length (s.kept ++ lanes (lane_of (read_place s)) n w) ≡ read_place s + n
  kept_long n w = omega (arith, length-append s.kept (lanes (lane_of (read_place s)) n w), lanes_long (lane_of (read_place s)) n w)

  -- the read place goes on within its word
  read_within : (e : ℕ) → lsn e / 8 ≡ lsn g.read / 8 → RingCells c.base m.sn m.cells m.write g.log g.state e
  read_within e same = record {
    wide = before.global.ring_cells.wide;
    stands = λ x l. before.global.ring_cells.stands x (omega arith);
    bare = λ x lo hi b. before.global.ring_cells.bare x lo hi (⊎_elim (λ z. inl (omega arith)) (λ z. inr z) b);
  }

  -- it loads the word of its read place. Where that ends beyond the tail, it keeps what is below, and the word stays
  pub keeps_load_cell : s.step ≡ writer_step.LoadCell → WriterAt D c m g p seat s writer_step.LoadCell
      → (h : LogGhost) × Kept D c m h p (set actors seat (actor.Writer (writer_took s (answer.Old (slice_index m.cells (cell_of (read_place s)))) writer_step.LoadCell))) × (◌≡◌ {A = List Entry} (h.log) (g.log))
  keeps_load_cell is h = by (has_whole_word s) refl
    where
      w : ℕ
      w = slice_index m.cells (cell_of (read_place s))

      le_tail : read_place s ≤ g.target
      le_tail = let a = fit.long in let b = h.1 in omega arith

      below : (j n : ℕ) → j < n → read_place s + n ≤ g.target → read_place s + j < g.target
      below j n l le = omega arith

      whole : has_whole_word s ≡ true → word_end s ≤ g.target
      whole e = whole_word (read_place s) g.target le_tail (subst (λ (t : ℕ). left_in_word (read_place s) ≤ t - lsn (read_place s)) fit.tail (leb-true (left_in_word (read_place s)) (s.tail - lsn (read_place s)) e))

      part : (n : ℕ) → n ≡ s.tail - lsn (read_place s) → nat_le (left_in_word (read_place s)) n ≡ false → (n < left_in_word (read_place s)) × (read_place s + n ≡ g.target)
      part n n_is e =
          let few = leb-false (left_in_word (read_place s)) n e in
          let is_lsn : n ≡ lsn g.target - lsn (read_place s) = n_is ∙ ap (λ (t : ℕ). t - lsn (read_place s)) fit.tail in
          (few, ap (λ (y : ℕ). read_place s + y) is_lsn ∙ part_word (read_place s) g.target le_tail (subst (λ (y : ℕ). y < left_in_word (read_place s)) is_lsn few))

      by : (b : Bool) → has_whole_word s ≡ b
          → (h : LogGhost) × Kept D c m h p (set actors seat (actor.Writer (cond b (record s { word = slice_index m.cells (cell_of (read_place s)); step = writer_step.ClearCell }) (record s { kept = s.kept ++ lanes (lane_of (read_place s)) (s.tail - lsn (read_place s)) (slice_index m.cells (cell_of (read_place s))); step = writer_step.TakeDevice })))) × (◌≡◌ {A = List Entry} (h.log) (g.log))
      by true e = (
        g,
        wsteps D c m g p actors seat s before at m g p refl (record s { word = slice_index m.cells (cell_of (read_place s)); step = writer_step.ClearCell }) before.sized before.global
            (record {
              alone = fit.alone;
              blocks = fit.blocks;
              tail = fit.tail;
              write = fit.write;
              from = fit.from;
              long = fit.long;
              kept = fit.kept;
              wide = fit.wide;
              firsts = fit.firsts;
              ckpt = fit.ckpt;
              no_device_while_checking = λ z. refl;
              step = (h.0, h.1, h.2, h.3, whole e, λ j l. word_true j l (below j (left_in_word (read_place s)) l (whole e)));
            })
            (later_marks D c m g p (omega arith) (omega arith) (omega arith) (omega arith) (λ z. z) (λ _ _. unchanged))
            refl refl refl refl refl refl (sym (ap writer_holds is)) (λ z. refl),
        refl,
      )
      by false e = kept_part (s.tail - lsn (read_place s)) (part (s.tail - lsn (read_place s)) refl e)
        where
          kept_part : (n : ℕ) → (n < left_in_word (read_place s)) × (read_place s + n ≡ g.target)
              → (h : LogGhost) × Kept D c m h p (set actors seat (actor.Writer (record s { kept = s.kept ++ lanes (lane_of (read_place s)) n (slice_index m.cells (cell_of (read_place s))); step = writer_step.TakeDevice }))) × (◌≡◌ {A = List Entry} (h.log) (g.log))
          kept_part n q =
              let g' : LogGhost = record g { read = g.target } in
              let G = before.global in let O = G.order in
              let r = order in let r0 = r.0 in let r1 = r.1 in let r2 = r.2 in
              let k0 = h.0.0 in
              let same : lsn g.target / 8 ≡ lsn g.read / 8 = ap (λ (x : ℕ). lsn x / 8) (sym q.1) ∙ same_word (read_place s) n q.0 ∙ ap (λ (x : ℕ). lsn x / 8) fit.long in
              let in_block = left_block (read_place s) in
              let wi = fit.wide in let k3 = h.3 in let q0 = q.0 in let q1 = q.1 in
              let to : g.target ≤ BLOCK_DATA * g.entered = end_within (read_place s) n (left_in_word (read_place s)) g.entered (length s.kept) (length s.firsts) s.from refl wi k3 (from_even) q0 in_block q1 in (
                g',
                wsteps D c m g p actors seat s before at m g' p refl (record s { kept = s.kept ++ lanes (lane_of (read_place s)) n (slice_index m.cells (cell_of (read_place s))); step = writer_step.TakeDevice }) before.sized
                    (record {
                      tiled = G.tiled;
                      order = order_on D c m g p O (omega arith) (omega arith) O.target_wtail to O.entered_target O.target_bound;
                      ring_cells = read_within g.target same;
                      first_offsets = G.first_offsets;
                      written_links = G.written_links;
                      commits = G.commits;
                      part = G.part;
                    })
                    (record {
                      alone = fit.alone;
                      blocks = fit.blocks;
                      tail = fit.tail;
                      write = fit.write;
                      from = fit.from;
                      long = kept_long n (slice_index m.cells (cell_of (read_place s))) ∙ q.1;
                      kept = kept_on n (slice_index m.cells (cell_of (read_place s))) (λ j l. word_true j (omega arith) (below j n l (omega arith)));
                      wide = wi;
                      firsts = fit.firsts;
                      ckpt = fit.ckpt;
                      no_device_while_checking = λ z. refl;
                      step = (h.0, refl, h.2);
                    })
                    (later_marks D c m g p (omega arith) (omega arith) (omega arith) (omega arith) (λ z. z) (λ _ _. unchanged))
                    refl refl refl refl refl refl (sym (ap writer_holds is)) (λ z. refl),
                refl,
              )

  -- what it does once it has read on to a place
  abbrev after_word : Bool → Bool → WriterStep
  after_word b d = cond b writer_step.TakeDevice (cond d writer_step.LoadFirst writer_step.LoadCell)

  free_word : (b d : Bool) → writer_holds (after_word b d) ≡ false
  free_word true d = refl
  free_word false true = refl
  free_word false false = refl

  -- it clears the word that it has loaded, and keeps its bytes
  pub keeps_clear_cell : s.step ≡ writer_step.ClearCell → WriterAt D c m g p seat s writer_step.ClearCell
      → (h : LogGhost) × Kept D c (record m { cells = slice_set m.cells (cell_of (read_place s)) 0 }) h p (set actors seat (actor.Writer (writer_took s (answer.Old 0) writer_step.ClearCell))) × (◌≡◌ {A = List Entry} (h.log) (g.log))
  keeps_clear_cell is h = cleared (left_in_word (read_place s)) refl (eqb (lsn (word_end s)) s.tail) (eqb (length s.kept + left_in_word (read_place s)) (BLOCK_DATA * length s.firsts)) refl refl
    where
      slot : cell_of (read_place s) < length m.cells
      slot = let z = before.sized.cells in subst (λ (n : ℕ). cell_of (read_place s) < n) (sym z) (small_of (lsn (read_place s) / 8))
        where
          small_of : (n : ℕ) → n % BUFFER_WORDS < BUFFER_WORDS
          small_of n = omega arith

      entered_end : word_end s ≤ BLOCK_DATA * g.entered
      entered_end = end_before (read_place s) (left_in_word (read_place s)) g.entered (length s.kept) (length s.firsts) s.from refl fit.wide h.3 from_even (left_block (read_place s))

      low : floor m.write ≤ lsn (read_place s)
      low = let O = before.global.order in let a = O.write_is in let w = lsn_le g.write g.read O.write_read in let e : lsn (read_place s) ≡ lsn g.read = ap lsn fit.long in omega arith

      here_near : lsn (read_place s) < floor m.write + LOG_BUFFER
      here_near = let r = order in let r0 = r.0 in let r3 = r.3 in let r4 = r.4 in let l = h.1 in
          let two = before.global.written_links.linked g.read (omega arith) (let up = r.2 in omega arith) in
          let e : lsn (read_place s) ≡ lsn g.read = ap lsn fit.long in
          let z = (before.global.ring_cells.stands g.read (omega arith) (omega arith) (omega arith)).1 in omega arith

      cleared_cells : RingCells c.base m.sn (slice_set m.cells (cell_of (read_place s)) 0) m.write g.log g.state (word_end s)
      cleared_cells = record {
        wide = λ i. elim (ℕ_discrete i (cell_of (read_place s))) [
          | yes e ↦ (let z = stored_here m.cells (cell_of (read_place s)) 0 i e slot in omega arith)
          | no n ↦ subst (λ (v : ℕ). v < 2 ^ 64) (sym (stored_else m.cells (cell_of (read_place s)) 0 i n)) (before.global.ring_cells.wide i)
        ];
        stands = λ x l r t.
            let next = later_word (read_place s) (word_end s) (omega arith) in
            let e : lsn (read_place s) ≡ lsn g.read = ap lsn fit.long in
            let o = before.global.ring_cells.stands x (omega arith) r t in
            let up = word_up (read_place s) x (omega arith) in
            let fl = floor_grows m.write (lsn (read_place s)) (let O = before.global.order in let a = O.write_is in let w = lsn_le g.write g.read O.write_read in omega arith) in
            (ap (lane (lane_of x)) (stored_else m.cells (cell_of (read_place s)) 0 (cell_of x) (λ same. let w = cell_word x (read_place s) m.write (omega arith) low o.1 here_near same in omega arith)) ∙ o.0, o.1);
        bare = λ x lo hi b. elim (ℕ_discrete (cell_of x) (cell_of (read_place s))) [
          | yes e ↦ ap (lane (lane_of x)) (stored_here m.cells (cell_of (read_place s)) 0 (cell_of x) e slot) ∙ lane_of_zero (lane_of x)
          | no n ↦ (let e : lsn (read_place s) ≡ lsn g.read = ap lsn fit.long in
              ap (lane (lane_of x)) (stored_else m.cells (cell_of (read_place s)) 0 (cell_of x) n) ∙ before.global.ring_cells.bare x lo hi (⊎_elim
              (λ z. inl (elim (dec_le (lsn (read_place s) / 8) (lsn x / 8)) [
                | no d ↦ omega arith
                | yes d ↦ elim (ℕ_discrete (lsn x / 8) (lsn (read_place s) / 8)) [
                  | yes q ↦ absurd (n (ap (λ (y : ℕ). y % BUFFER_WORDS) q))
                  | no q ↦ (let past = in_later_word (read_place s) x (omega arith) in let w = word_grows (word_end s) x past in absurd (omega arith))
                ]
              ]))
              (λ z. inr z) b))
        ];
      }

      cleared : (n : ℕ) → n ≡ left_in_word (read_place s) → (b d : Bool) → eqb (lsn (word_end s)) s.tail ≡ b → eqb (length s.kept + left_in_word (read_place s)) (BLOCK_DATA * length s.firsts) ≡ d
          → (h : LogGhost) × Kept D c (record m { cells = slice_set m.cells (cell_of (read_place s)) 0 }) h p (set actors seat (actor.Writer (record s { kept = s.kept ++ lanes (lane_of (read_place s)) (left_in_word (read_place s)) s.word; word = 0; step = after_word b d }))) × (◌≡◌ {A = List Entry} (h.log) (g.log))
      cleared n n_is b d e f =
          let g' : LogGhost = record g { read = word_end s } in
          let m' : SharedWords = record m { cells = slice_set m.cells (cell_of (read_place s)) 0 } in
          let G = before.global in let O = G.order in
          let r = order in let r0 = r.0 in let r1 = r.1 in let r2 = r.2 in
          let k0 = h.0.0 in let k3 = h.3 in let k4 = h.4 in
          let lg = fit.long in let wi = fit.wide in
          let end_is : read_place s + n ≡ word_end s = ap (λ (y : ℕ). read_place s + y) n_is in
          let up : read_place s + n ≤ g.target = subst (λ (y : ℕ). y ≤ g.target) (sym end_is) h.4 in (
            g',
            wsteps D c m g p actors seat s before at m' g' p refl (record s { kept = s.kept ++ lanes (lane_of (read_place s)) (left_in_word (read_place s)) s.word; word = 0; step = after_word b d })
                (cells_sized (cell_of (read_place s)) 0 before.sized)
                (record {
                  tiled = G.tiled;
                  order = order_on D c m g p O (subst (λ (y : ℕ). g.write ≤ y) end_is (omega arith)) h.4 O.target_wtail entered_end O.entered_target O.target_bound;
                  ring_cells = cleared_cells;
                  first_offsets = G.first_offsets;
                  written_links = G.written_links;
                  commits = G.commits;
                  part = G.part;
                })
                (record {
                  alone = fit.alone;
                  blocks = fit.blocks;
                  tail = fit.tail;
                  write = fit.write;
                  from = fit.from;
                  long = kept_long (left_in_word (read_place s)) s.word;
                  kept = kept_on (left_in_word (read_place s)) s.word h.5;
                  wide = wi;
                  firsts = fit.firsts;
                  ckpt = fit.ckpt;
                  no_device_while_checking = λ z. free_word b d;
                  step = goes b d e f;
                })
                (later_marks D c m g p (omega arith) (omega arith) (omega arith) (omega arith) (λ z. z) (λ _ _. unchanged))
                refl refl refl refl refl refl (free_word b d ∙ sym (ap writer_holds is)) (λ z. refl),
            refl,
          )
        where
          further : eqb (lsn (word_end s)) s.tail ≡ false → word_end s < g.target
          further e = let ne = eqb-false (lsn (word_end s)) s.tail e in elim (ℕ_discrete (word_end s) g.target) [
            | yes z ↦ absurd (ne (ap lsn z ∙ sym fit.tail))
            | no z ↦ below_of (word_end s) g.target h.4 z
          ]
            where
              below_of : (a b : ℕ) → a ≤ b → a ≢ b → a < b
              below_of a b l n = omega arith

          kept_count : length (s.kept ++ lanes (lane_of (read_place s)) (left_in_word (read_place s)) s.word) ≡ length s.kept + left_in_word (read_place s)
          kept_count = length-append s.kept (lanes (lane_of (read_place s)) (left_in_word (read_place s)) s.word) ∙ ap (λ (y : ℕ). length s.kept + y) (lanes_long (lane_of (read_place s)) (left_in_word (read_place s)) s.word)

          room : (n l : ℕ) → l ≡ length s.kept + n → length s.kept + n ≢ BLOCK_DATA * length s.firsts
              → read_place s + n ≤ BLOCK_DATA * g.entered → l < BLOCK_DATA * length s.firsts
          room n l l_is ne le = let w = fit.wide in omega arith

          goes : (b d : Bool) → eqb (lsn (word_end s)) s.tail ≡ b → eqb (length s.kept + left_in_word (read_place s)) (BLOCK_DATA * length s.firsts) ≡ d
              → WriterAt D c (record m { cells = slice_set m.cells (cell_of (read_place s)) 0 }) (record g { read = word_end s }) p seat (record s { kept = s.kept ++ lanes (lane_of (read_place s)) (left_in_word (read_place s)) s.word; word = 0; step = after_word b d }) (after_word b d)
          goes true d e f = (h.0, lsn_same (word_end s) g.target (eqb-true (lsn (word_end s)) s.tail e ∙ fit.tail), h.2)
          goes false true e f = (h.0, further e, h.2, kept_count ∙ eqb-true (length s.kept + left_in_word (read_place s)) (BLOCK_DATA * length s.firsts) f)
          goes false false e f = (h.0, further e, h.2, (let z = eqb-false (length s.kept + left_in_word (read_place s)) (BLOCK_DATA * length s.firsts) f in room (left_in_word (read_place s)) (length (s.kept ++ lanes (lane_of (read_place s)) (left_in_word (read_place s)) s.word)) kept_count z entered_end))

  -- what it hands to write_to
  pub lends : g.read ≡ g.target → IsLent c.base g.log g.write g.target s.kept s.firsts
  lends e = let fr = fit.from in let lg = fit.long in let wi = fit.wide in let r = before.global.order.read_entered in let t = before.global.order.entered_target in record {
    long = omega arith;
    bytes_are = λ j l. fit.kept j l ∙ ap (λ (k : ℕ). byte_at c.base g.log (k + j)) fr;
    enough = omega arith;
    few = omega arith;
    firsts_are = fit.firsts;
  }

  -- it loads FAILED
  pub writer_checked : s.checks ≡ true → WNow D c m g p actors seat s before at (cond (eqb m.failed 0) (record s { checks = false }) (record s { checks = false; code = m.failed; step = writer_step.Failed }))
  writer_checked checks = by (eqb m.failed 0) refl
    where
      by : (b : Bool) → eqb m.failed 0 ≡ b → WNow D c m g p actors seat s before at (cond b (record s { checks = false }) (record s { checks = false; code = m.failed; step = writer_step.Failed }))
      by true e = quiet s.first s.ckpt s.code false s.step fit.ckpt (λ z. absurd (cc)) refl fit.step
      by false e = quiet s.first s.ckpt m.failed false writer_step.Failed fit.ckpt (λ z. refl) (sym (fit.no_device_while_checking checks)) (let n = eqb-false m.failed 0 e in omega arith)
