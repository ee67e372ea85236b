-- A user adds its next bytes onto a word, and stores the first offset of the block in which its group ends.
use Rattle.std.proofs.Common.{Bool, List, ap, arith, cond, eqb, eqb-true, false, inl, inr, length, ltb, ltb-false, ltb-true, refl, set, subst, sym, true, ℕ, ⊎_elim, ◌%◌, ◌*◌, ◌+◌, ◌-◌, ◌/◌, ◌<◌, ◌^◌, ◌∙◌, ◌≡◌, ◌≢◌, ◌≤◌, ◌⊎◌}
use Rattle.std.proofs.lemmas.Bool.{eqb-false}
use Rattle.std.specs.Prelude.{slice_index, slice_set}
use lib.ListN.{get_elem?}
use mathlib.Core.Option.{some}
use native.Mathlib.Decide.{dec_le, ℕ_discrete}
use Rattle.model_log.specs.declared.layout.TheConstants.{BLOCK_DATA}
use Rattle.model_core.proofs.Groups.{changed, changed_else, changed_here, entry_byte, is_crosses, ranged, ranged_in, ranged_out, tiles_at}
use Rattle.model_core.proofs.Lanes.{add_else, add_here, add_wide, cell_word, left_fits, next_are, next_few, next_lanes, next_long, next_some, next_within, same_word, word_grows, word_up}
use Rattle.model_core.proofs.Lsns.{block_below, block_window, floor_grows, lsn_block, lsn_le, lsn_less, lsn_offset, lsn_wide, ring_same}
unfoldable use Rattle.model_core.specs.{lane, packed}
use Rattle.model_core.specs.{Actor, Advance, byte_at, byte_in, cell_of, copy_place, end_of, entries, Entry, entry, first_of, floor, group_bytes, group_end, IsSized, layout_of, lane_of, line, LoadedMarks, lsn, next_bytes, next_count, SharedWords, user_took, UserState, LogSide, Setup}
use Rattle.model_core.specs.declared.steps.UserStep.{UserStep}
use Rattle.model_core.specs.declared.limits.TheConstants.{BUFFER_WORDS, LOG_BUFFER}
use Rattle.model_base.specs.declared.limits.TheConstants.{MAX_GROUP}
use Rattle.model_logcore.proofs.UserGroups.{crossing_same, first_is}
use Rattle.model_logcore.proofs.Frame.{unchanged, Kept, Later, Still, others_later, moved_on}
use Rattle.model_logcore.proofs.Same.{cells_sized, firsts_sized, stored_here, stored_else}
use Rattle.model_logcore.specs.LogFacts.{WrittenLinks, HasZeroLane, LogGhost, LogFacts, FirstOffsets, InHand, RingCells, count_of, Commits}
use Rattle.model_logcore.specs.LogFits.{AreBelow, Hand, UserAt, UserFits, LogHalf, left_to_reserve}
use Rattle.model_core.specs.declared.steps.UserStep.TheVariants as user_step
use Rattle.model_core.specs.States as actor

-- what speaks of linked places alone stays, where these stay
pub heads_states : {base write entered : ℕ} {slots : List ℕ} {log : List Entry} {first : ℕ → ℕ} (s t : ℕ → ℕ) → ((x : ℕ) → t x ≡ 2 → s x ≡ 2) → FirstOffsets base slots write log first s entered → FirstOffsets base slots write log first t entered
heads_states s t old h = record { slots_are = h.slots_are; near = h.near; true_first = h.true_first; stored = λ i e is two. h.stored i e is (old e.start two); begun = h.begun }

pub chain_states : {base wtail tail : ℕ} {links : List ℕ} {log : List Entry} (s t : ℕ → ℕ) → ((x : ℕ) → t x ≡ 2 → s x ≡ 2) → ((x : ℕ) → s x ≡ 2 → t x ≡ 2) → WrittenLinks base links wtail log s tail → WrittenLinks base links wtail log t tail
chain_states s t old new h = record {
  linked = λ x l r. new x (h.linked x l r);
  links_are = λ i l n. let o = h.links_are i l n in record { at = o.at; group = o.group; is = o.is; slot = o.slot; size = o.size; since = o.since; near = o.near; whole = λ x l r. new x (o.whole x l r) };
  standing = λ i e is two. h.standing i e is (old e.start two);
}

pub commits_states : {c : Setup} {write flushed : ℕ} {log : List Entry} {answered : ℕ → ℕ} (s t : ℕ → ℕ) → ((x : ℕ) → s x ≡ 2 → t x ≡ 2) → Commits c write flushed log s answered → Commits c write flushed log t answered
commits_states s t new h = record { flush = h.flush; wrote = h.wrote; linked = λ i e is k x lo hi. new x (h.linked i e is k x lo hi); last = h.last }

module _ (D : LogSide) (c : Setup) (m : SharedWords) (g : LogGhost) (p : D.Part) (actors : List Actor) (seat : ℕ) (u : UserState) (before : LogHalf D c m g p actors) (at : get_elem? actors seat ≡ some (actor.User u)) where
  pub fits : UserFits D c m g p seat u
  fits = before.each seat (actor.User u) at

  abbrev pub shifted : ℕ → ℕ → ℕ → LoadedMarks → ℕ → Bool → UserStep → UserState
  shifted page cell copied loaded code checks ph = record u { page = page; cell = cell; copied = copied; loaded = loaded; code = code; checks = checks; step = ph }

  -- a user whose line and groups are as before fits, if its phase does
  pub refit : (m' : SharedWords) (g' : LogGhost) (page cell copied : ℕ) (loaded : LoadedMarks) (code : ℕ) (checks : Bool) (ph : UserStep) → g'.seat_of u.user ≡ g.seat_of u.user → count_of u.user g'.log ≡ count_of u.user g.log → g'.answered u.user ≡ g.answered u.user
      → AreBelow loaded m'.ckpt m'.write m'.wtail m'.flushed → UserAt D c m' g' p seat (shifted page cell copied loaded code checks ph) ph → UserFits D c m' g' p seat (shifted page cell copied loaded code checks ph)
  refit m' g' page cell copied loaded code checks ph a b d le h = record {
    own_seat = a ∙ fits.own_seat;
    blocks = fits.blocks;
    lines = fits.lines;
    sound = fits.sound;
    are_bytes = fits.are_bytes;
    counted = b ∙ fits.counted;
    answers = d ∙ fits.answers;
    loaded = le;
    step = h;
  }

  -- the same where its advance goes on
  pub refit_advance : (m' : SharedWords) (g' : LogGhost) (loaded : LoadedMarks) (advance : Advance) (checks : Bool) (ph : UserStep) → g'.seat_of u.user ≡ g.seat_of u.user → count_of u.user g'.log ≡ count_of u.user g.log → g'.answered u.user ≡ g.answered u.user
      → AreBelow loaded m'.ckpt m'.write m'.wtail m'.flushed → UserAt D c m' g' p seat (record u { loaded = loaded; advance = advance; checks = checks; step = ph }) ph → UserFits D c m' g' p seat (record u { loaded = loaded; advance = advance; checks = checks; step = ph })
  refit_advance m' g' loaded advance checks ph a b d le h = record {
    own_seat = a ∙ fits.own_seat;
    blocks = fits.blocks;
    lines = fits.lines;
    sound = fits.sound;
    are_bytes = fits.are_bytes;
    counted = b ∙ fits.counted;
    answers = d ∙ fits.answers;
    loaded = le;
    step = h;
  }

  -- the user moves, and words other than SN and DEVICE, or places of its own, change
  pub steps : (m' : SharedWords) (g' : LogGhost) (w : UserState) → IsSized (layout_of c) m' → LogFacts D c m' g' p → UserFits D c m' g' p seat w → Later D c m g m' g' seat → Still D c m m' g g' p p
      → m'.flushed ≡ m.flushed → m'.ckpt ≡ m.ckpt → m'.device ≡ m.device → g'.holder ≡ g.holder → g'.log ≡ g.log → m'.sn ≡ m.sn
      → ◌≡◌ {A = List Entry} (entries (actor.User w)) (entries (actor.User u)) → left_to_reserve (actor.User w) ≤ left_to_reserve (actor.User u)
      → Kept D c m' g' p (set actors seat (actor.User w))
  steps m' g' w sized global f later still flushed ckpt device holder log sn same le = moved_on D c m m' g g' p p actors seat (actor.User u) (actor.User w) before at sized global f
      (λ j a n e. others_later D c m m' g g' p p seat before.global later still (record { writer = still.writer; flushed = flushed; ckpt_word = ckpt; failed = later.failed; point = refl }) j a n (λ h. refl) (before.each j a e))
      device holder log sn refl same le

  -- where the group in hand lies
  pub hand_lies : (h : Hand D c m g p seat u) → (c.base ≤ u.start) × (group_end u ≤ m.sn) × (0 < length (group_bytes u)) × (length (group_bytes u) ≤ MAX_GROUP)
  hand_lies h = tiles_at g.log c.base m.sn h.at _ before.global.tiled.tiles h.is

  -- a place that isn't linked isn't below the writer's tail
  pub above_tail : (x : ℕ) → c.base ≤ x → g.state x ≢ 2 → g.tail ≤ x
  above_tail x lo ne = elim (dec_le g.tail x) [ yes d ↦ d | no d ↦ absurd (ne (before.global.written_links.linked x lo (omega arith))) ]

  -- nothing of what the writer sees changes
  pub still_words : (m' : SharedWords) (g' : LogGhost) → g'.writer ≡ g.writer → g'.write ≡ g.write → g'.target ≡ g.target → g'.read ≡ g.read → g'.entered ≡ g.entered → g'.log ≡ g.log
      → m'.write ≡ m.write → m'.ckpt ≡ m.ckpt → m'.failed ≡ m.failed → Still D c m m' g g' p p
  still_words m' g' a b e f h i j k l = record {
    writer = a;
    gwrite = b;
    target = e;
    read = f;
    entered = h;
    write = j;
    ckpt = omega arith;
    failed = λ z. omega arith;
    bytes = λ x _ _. ap (λ (z : List Entry). byte_at c.base z x) i;
    firsts = λ q _. ap (λ (z : List Entry). first_of c.base z q) i;
    written = refl;
  }

  copy_tested : (m' : SharedWords) (g' : LogGhost) (b d : Bool) → eqb (u.copied + next_count u) (length (group_bytes u)) ≡ b → ltb (u.start / BLOCK_DATA) (group_end u / BLOCK_DATA) ≡ d → m'.write ≡ m.write → u.copied + next_count u ≤ length (group_bytes u)
      → ((q : ℕ) → g'.first q ≡ g.first q) → InHand g'.log g'.place g'.state seat u.user u.k u.start (u.copied + next_count u) (line u) → UserAt D c m g p seat u user_step.AddCell
      → UserAt D c m' g' p seat (record u { copied = u.copied + next_count u; step = cond b (cond d user_step.StoreFirst user_step.LoadWtail) user_step.AddCell }) (cond b (cond d user_step.StoreFirst user_step.LoadWtail) user_step.AddCell)
  copy_tested m' g' true true e f w few firsts i h = (h.0, h.1, i, eqb-true (u.copied + next_count u) (length (group_bytes u)) e, subst (λ (k : ℕ). lsn (group_end u) < floor k + LOG_BUFFER) (sym w) h.4, ltb-true (u.start / BLOCK_DATA) (group_end u / BLOCK_DATA) f, (λ cross. firsts (group_end u / BLOCK_DATA) ∙ h.5 cross), h.6)
  copy_tested m' g' true false e f w few firsts i h = (h.0, h.1, i, eqb-true (u.copied + next_count u) (length (group_bytes u)) e, λ l. let n = ltb-false (u.start / BLOCK_DATA) (group_end u / BLOCK_DATA) f in absurd (omega arith))
  copy_tested m' g' false d e f w few firsts i h = (h.0, h.1, i, (let n = eqb-false (u.copied + next_count u) (length (group_bytes u)) e in below_of (u.copied + next_count u) (length (group_bytes u)) few n), subst (λ (k : ℕ). lsn (group_end u) < floor k + LOG_BUFFER) (sym w) h.4, (λ cross. firsts (group_end u / BLOCK_DATA) ∙ h.5 cross), h.6)
    where
      below_of : (a b : ℕ) → a ≤ b → a ≢ b → a < b
      below_of a b l n = omega arith

  -- ADDING THE NEXT BYTES ONTO THEIR WORD. Each of their lanes is 0, since their places aren't copied; and all other places of
  -- the window keep their bytes
  module _ (h : UserAt D c m g p seat u user_step.AddCell) where
    -- where they go, and how many they are
    abbrev place : ℕ
    place = copy_place u

    abbrev count : ℕ
    count = next_count u

    abbrev old_word : ℕ
    old_word = slice_index m.cells (cell_of place)

    abbrev new_cells : List ℕ
    new_cells = slice_set m.cells (cell_of place) (slice_index m.cells (cell_of place) + packed (lane_of place) (next_bytes u))

    pub copies : ℕ → ℕ
    copies = ranged g.state place (place + count) 1

    count_few : u.copied + count ≤ length (group_bytes u)
    count_few = next_few u (let l = h.3 in omega arith)

    count_some : 0 < count
    count_some = next_some u h.3

    long : length (next_bytes u) ≡ count
    long = next_long u (let l = h.3 in omega arith)

    lies : (c.base ≤ u.start) × (group_end u ≤ m.sn) × (0 < length (group_bytes u)) × (length (group_bytes u) ≤ MAX_GROUP)
    lies = hand_lies h.2

    up : g.tail ≤ place
    up = let w = lies.0 in let l = h.3 in let z = h.2.bare place (omega arith) (omega arith) in above_tail place (omega arith) (λ e. omega arith)

    from_read : g.read ≤ place
    from_read = let o2 = before.global.order.read_target in let o4 = before.global.order.target_wtail in let o3 = before.global.order.wtail_tail in let z = up in omega arith

    low : floor m.write ≤ lsn place
    low = let O = before.global.order in let a = O.write_is in let w = lsn_le g.write place (let o1 = O.write_read in let z = from_read in omega arith) in omega arith

    inside_sn : (x : ℕ) → x < place + count → x < m.sn
    inside_sn x l = let f = count_few in let w = lies.1 in omega arith

    near : (x : ℕ) → x < place + count → lsn x < floor m.write + LOG_BUFFER
    near x l = let f = count_few in let z = lsn_le x (group_end u) (omega arith) in let e = h.4 in omega arith

    low_at : (x : ℕ) → place ≤ x → floor m.write ≤ lsn x
    low_at x l = let z = lsn_le place x l in let k = low in omega arith

    slot : cell_of place < length m.cells
    slot = let z = before.sized.cells in subst (λ (n : ℕ). cell_of place < n) (sym z) (small_of (lsn place / 8))
      where
        small_of : (n : ℕ) → n % BUFFER_WORDS < BUFFER_WORDS
        small_of n = omega arith

    in_cell : (j : ℕ) → j < count → cell_of (place + j) ≡ cell_of place
    in_cell j l = ap (λ (n : ℕ). n % BUFFER_WORDS) (same_word place j (let w = next_within u in omega arith))

    in_lane : (j : ℕ) → j < count → lane_of (place + j) ≡ lane_of place + j
    in_lane j l = next_lanes place j (let w = next_within u in omega arith)

    bare_lane : (j : ℕ) → j < length (next_bytes u) → lane (lane_of place + j) old_word ≡ 0
    bare_lane j l =
        let n = long in let f = count_few in let lt : j < count = omega arith in
        let zero_at : g.state (place + j) ≡ 0 = h.2.bare (place + j) (omega arith) (omega arith) in
        let z = before.global.ring_cells.bare (place + j) (low_at (place + j) (omega arith)) (near (place + j) (omega arith)) (inr (inr zero_at)) in
        ap (λ (k : ℕ). lane k (slice_index m.cells (cell_of place))) (sym (in_lane j lt)) ∙ ap (λ (k : ℕ). lane (lane_of (place + j)) (slice_index m.cells k)) (sym (in_cell j lt)) ∙ z

    few_lanes : lane_of place + length (next_bytes u) ≤ 8
    few_lanes = let n = long in let w = next_within u in let f = left_fits place in omega arith

    next_bytes_small : (i : ℕ) → i < length (next_bytes u) → slice_index (next_bytes u) i < 256
    next_bytes_small i l = let n = long in let f = count_few in let z = next_are u i (omega arith) in let b = fits.are_bytes u.k (u.copied + i) (omega arith) in omega arith

    wide_word : old_word < 2 ^ 64
    wide_word = before.global.ring_cells.wide (cell_of place)

    pub sum_small : slice_index m.cells (cell_of place) + packed (lane_of place) (next_bytes u) < 2 ^ 64
    sum_small = add_wide old_word (lane_of place) (next_bytes u) wide_word few_lanes next_bytes_small bare_lane

    wide_cells : (i : ℕ) → slice_index new_cells i < 2 ^ 64
    wide_cells i = elim (ℕ_discrete i (cell_of place)) [
      | yes e ↦ subst (λ (n : ℕ). n < 2 ^ 64) (sym (stored_here m.cells (cell_of place) (slice_index m.cells (cell_of place) + packed (lane_of place) (next_bytes u)) i e slot)) sum_small
      | no n ↦ subst (λ (n : ℕ). n < 2 ^ 64) (sym (stored_else m.cells (cell_of place) (slice_index m.cells (cell_of place) + packed (lane_of place) (next_bytes u)) i n)) (before.global.ring_cells.wide i)
    ]

    -- what stands in any lane of that word
    lane_then : (x : ℕ) → cell_of x ≡ cell_of place → byte_in new_cells x ≡ lane (lane_of x) (old_word + packed (lane_of place) (next_bytes u))
    lane_then x e = ap (lane (lane_of x)) (stored_here m.cells (cell_of place) (slice_index m.cells (cell_of place) + packed (lane_of place) (next_bytes u)) (cell_of x) e slot)

    copied_here : (j : ℕ) → j < count → byte_in new_cells (place + j) ≡ byte_at c.base g.log (place + j)
    copied_here j l =
        let f = count_few in let n = long in
        let sum = add_here old_word (lane_of place) (next_bytes u) wide_word few_lanes next_bytes_small bare_lane j (omega arith) in
        let byte = entry_byte g.log c.base m.sn h.2.at _ (u.copied + j) before.global.tiled.tiles h.2.is (omega arith) in
        lane_then (place + j) (in_cell j l) ∙ ap (λ (k : ℕ). lane k (old_word + packed (lane_of place) (next_bytes u))) (in_lane j l) ∙ sum ∙ next_are u j l ∙ sym byte ∙ ap (byte_at c.base g.log) (let z : u.start + (u.copied + j) ≡ place + j = omega arith in z)

    copied_else : (x : ℕ) → floor m.write ≤ lsn x → lsn x < floor m.write + LOG_BUFFER → (place ≤ x → x < place + count → ⊥) → byte_in new_cells x ≡ byte_in m.cells x
    copied_else x lo hi out = elim (ℕ_discrete (cell_of x) (cell_of place)) [
      | no n ↦ ap (lane (lane_of x)) (stored_else m.cells (cell_of place) (slice_index m.cells (cell_of place) + packed (lane_of place) (next_bytes u)) (cell_of x) n)
      | yes e ↦ (let w : lsn x / 8 ≡ lsn place / 8 = cell_word x place m.write lo low hi (near place (let s = count_some in omega arith)) e in
          lane_then x e ∙ add_else old_word (lane_of place) (next_bytes u) wide_word few_lanes next_bytes_small bare_lane (lane_of x) (omega arith) (outside w) ∙ there e)
    ]
      where
        outside : lsn x / 8 ≡ lsn place / 8 → (lane_of x < lane_of place) ⊎ (lane_of place + length (next_bytes u) ≤ lane_of x)
        outside w = elim (dec_le place x) [
          | yes d ↦ elim (dec_le (place + count) x) [
            | yes q ↦ (let a = lsn_wide place count in let b = lsn_le (place + count) x q in let n = long in inr (omega arith))
            | no q ↦ absurd (out d (omega arith))
          ]
          | no d ↦ (let a = lsn_less x place (omega arith) in inl (omega arith))
        ]

        there : cell_of x ≡ cell_of place → lane (lane_of x) old_word ≡ byte_in m.cells x
        there e = ap (λ (k : ℕ). lane (lane_of x) (slice_index m.cells k)) (sym e)

    copies_in : (x : ℕ) → place ≤ x → x < place + count → copies x ≡ 1
    unfolding copies
    copies_in x l r = ranged_in g.state place (place + count) 1 x l r

    copies_out : (x : ℕ) → (place ≤ x → x < place + count → ⊥) → copies x ≡ g.state x
    unfolding copies
    copies_out x n = ranged_out g.state place (place + count) 1 x n

    pub added_cells : RingCells c.base m.sn new_cells m.write g.log copies g.read
    added_cells = record {
      wide = wide_cells;
      stands = λ x l r s. by x l r s (dec_le place x) (dec_le (place + count) x);
      bare = λ x lo hi b. bare_by x lo hi b (dec_le place x) (dec_le (place + count) x);
    }
      where
        old_stands : (x : ℕ) → lsn g.read / 8 ≤ lsn x / 8 → x < m.sn → 0 < copies x → (place ≤ x → x < place + count → ⊥) → (byte_in new_cells x ≡ byte_at c.base g.log x) × (lsn x < floor m.write + LOG_BUFFER)
        old_stands x l r s out =
            let o = before.global.ring_cells.stands x l r (let z = copies_out x out in omega arith) in
            let O = before.global.order in
            let z = word_up g.read x l in let a = O.write_is in let w = lsn_le g.write g.read O.write_read in
            (copied_else x (let y = floor_grows (lsn g.write) (lsn g.read) w in let v : floor m.write ≡ floor (lsn g.write) = ap floor a in omega arith) o.1 out ∙ o.0, o.1)

        by : (x : ℕ) → lsn g.read / 8 ≤ lsn x / 8 → x < m.sn → 0 < copies x → Dec (place ≤ x) → Dec (place + count ≤ x) → (byte_in new_cells x ≡ byte_at c.base g.log x) × (lsn x < floor m.write + LOG_BUFFER)
        by x l r s (yes d) (no q) =
            let j : ℕ = x - place in let is : place + j ≡ x = omega arith in
            (subst (λ (y : ℕ). byte_in new_cells y ≡ byte_at c.base g.log y) is (copied_here j (omega arith)), near x (omega arith))
        by x l r s (yes d) (yes q) = old_stands x l r s (λ a b. omega arith)
        by x l r s (no d) q = old_stands x l r s (λ a b. omega arith)

        old_bare : (x : ℕ) → floor m.write ≤ lsn x → lsn x < floor m.write + LOG_BUFFER → HasZeroLane m.sn copies g.read x → (place ≤ x → x < place + count → ⊥) → byte_in new_cells x ≡ 0
        old_bare x lo hi b out = copied_else x lo hi out ∙ before.global.ring_cells.bare x lo hi (⊎_elim (λ z. inl z) (λ z. ⊎_elim (λ y. inr (inl y)) (λ y. inr (inr (sym (copies_out x out) ∙ y))) z) b)

        bare_by : (x : ℕ) → floor m.write ≤ lsn x → lsn x < floor m.write + LOG_BUFFER → HasZeroLane m.sn copies g.read x → Dec (place ≤ x) → Dec (place + count ≤ x) → byte_in new_cells x ≡ 0
        bare_by x lo hi b (yes d) (no q) =
            let one = copies_in x d (omega arith) in let less = inside_sn x (omega arith) in let w = word_grows g.read x (let f = from_read in omega arith) in
            absurd (⊎_elim (λ z. omega arith) (λ z. ⊎_elim (λ y. omega arith) (λ y. omega arith) z) b)
        bare_by x lo hi b (yes d) (yes q) = old_bare x lo hi b (λ a e. omega arith)
        bare_by x lo hi b (no d) q = old_bare x lo hi b (λ a e. omega arith)

  -- it adds its next bytes
  pub keeps_add_cell : u.step ≡ user_step.AddCell → UserAt D c m g p seat u user_step.AddCell
      → (h : LogGhost) × Kept D c (record m { cells = slice_set m.cells (cell_of (copy_place u)) (slice_index m.cells (cell_of (copy_place u)) + packed (lane_of (copy_place u)) (next_bytes u)) }) h p (set actors seat (actor.User (user_took u 0 user_step.AddCell))) × (◌≡◌ {A = List Entry} (h.log) (g.log))
  keeps_add_cell is h =
      let k : ℕ = copy_place u in
      let n : ℕ = next_count u in
      let m' : SharedWords = record m { cells = slice_set m.cells (cell_of k) (slice_index m.cells (cell_of k) + packed (lane_of k) (next_bytes u)) } in
      let g' : LogGhost = record g { state = copies h } in
      let b : Bool = eqb (u.copied + n) (length (group_bytes u)) in
      let d : Bool = ltb (u.start / BLOCK_DATA) (group_end u / BLOCK_DATA) in
      let G = before.global in
      let hand = h.2 in
      let few = count_few h in
      let some_new = count_some h in
      let old_two : (x : ℕ) → g'.state x ≡ 2 → g.state x ≡ 2 = λ x two. elim (dec_le k x) [
        | yes l ↦ elim (dec_le (k + n) x) [
          | yes r ↦ sym (copies_out h x (λ a e. omega arith)) ∙ two
          | no r ↦ (let z = copies_in h x l (omega arith) in absurd (omega arith))
        ]
        | no l ↦ sym (copies_out h x (λ a e. omega arith)) ∙ two
      ] in
      let new_two : (x : ℕ) → g.state x ≡ 2 → g'.state x ≡ 2 = λ x two. copies_out h x (λ l r. let z = hand.bare x (omega arith) (omega arith) in omega arith) ∙ two in
      let in_hand : InHand g'.log g'.place g'.state seat u.user u.k u.start (u.copied + n) (line u) = record {
        at = hand.at;
        is = hand.is;
        own = hand.own;
        done = λ x l r. elim (dec_le k x) [
          | yes d ↦ copies_in h x d (omega arith)
          | no d ↦ copies_out h x (λ a e. omega arith) ∙ hand.done x l (omega arith)
        ];
        bare = λ x l r. copies_out h x (λ a e. omega arith) ∙ hand.bare x (omega arith) r;
      } in (
        g',
        steps m' g' (user_took u 0 user_step.AddCell)
            (cells_sized (cell_of k) (slice_index m.cells (cell_of k) + packed (lane_of k) (next_bytes u)) before.sized)
            (record {
              tiled = G.tiled;
              order = G.order;
              ring_cells = added_cells h;
              first_offsets = heads_states g.state g'.state old_two G.first_offsets;
              written_links = chain_states g.state g'.state old_two new_two G.written_links;
              commits = commits_states g.state g'.state new_two G.commits;
              part = G.part;
            })
            (refit m' g' u.page u.cell (u.copied + n) u.loaded u.code u.checks (cond b (cond d user_step.StoreFirst user_step.LoadWtail) user_step.AddCell) refl refl refl fits.loaded (copy_tested m' g' b d refl refl refl few (λ _. refl) in_hand h))
            (record {
              write = omega arith;
              wtail = omega arith;
              ckpt = omega arith;
              flushed = omega arith;
              failed = λ z. z;
              logs = λ i e z. z;
              places = λ x l o. refl;
              linked = λ x l two. new_two x two;
              states = λ x l o. copies_out h x (λ a e. o (hand.own x (omega arith) (omega arith)));
              firsts = λ q z. z;
              bare = λ _ _ _ _ _ z. z;
              seats = λ v. refl;
              counts = λ v n. refl;
              answers = λ v n. refl;
              holder = λ _ _. unchanged;
            })
            (still_words m' g' refl refl refl refl refl refl refl refl refl)
            refl refl refl refl refl refl refl (omega arith),
        refl,
      )

  -- it stores the first offset of the block in which the group ends
  pub keeps_store_first : u.step ≡ user_step.StoreFirst → UserAt D c m g p seat u user_step.StoreFirst
      → (h : LogGhost) × Kept D c (record m { firsts = slice_set m.firsts (lsn (group_end u) / 512 % 128) (lsn (group_end u) % 512) }) h p (set actors seat (actor.User (user_took u 0 user_step.StoreFirst))) × (◌≡◌ {A = List Entry} (h.log) (g.log))
  keeps_store_first is h = stored (lsn (group_end u) / 512 % 128) (lsn (group_end u) % 512) (ap (λ (k : ℕ). k % 128) (lsn_block (group_end u))) (lsn_offset (group_end u))
    where
      stored : (i v : ℕ) → i ≡ group_end u / BLOCK_DATA % 128 → v ≡ group_end u % BLOCK_DATA + 12 → (h : LogGhost) × Kept D c (record m { firsts = slice_set m.firsts i v }) h p (set actors seat (actor.User (user_took u 0 user_step.StoreFirst))) × (◌≡◌ {A = List Entry} (h.log) (g.log))
      stored i v i_is v_is =
          let q : ℕ = group_end u / BLOCK_DATA in
          let m' : SharedWords = record m { firsts = slice_set m.firsts i v } in
          let g' : LogGhost = record g { first = changed g.first q v } in
          let G = before.global in
          let O = G.order in
          let H = G.first_offsets in
          let hand = h.2 in
          let all = h.3 in
          let hi = h.4 in
          let over_block = h.5 in
          let lies = hand_lies hand in
          let lies0 = lies.0 in let lies1 = lies.1 in let lies2 = lies.2 in
          let one : g.state u.start ≡ 1 = hand.done u.start (omega arith) (omega arith) in
          let up : g.tail ≤ u.start = above_tail u.start (omega arith) (λ z. omega arith) in
          let o0 = O.entered_target in let o3 = O.target_wtail in let o4 = O.wtail_tail in let o1 = O.write_read in let o2 = O.read_entered in
          let from : g.entered ≤ q = omega arith in
          let to : q < g.entered + 128 = block_window (group_end u) g.write m.write g.entered O.write_is (omega arith) hi in
          let here : (x : ℕ) → x ≡ q → g'.first x ≡ v = λ x e. changed_here g.first q v x e in
          let else : (x : ℕ) → x ≢ q → g'.first x ≡ g.first x = λ x n. changed_else g.first q v x n in
          let near : q * 512 < floor m.write + LOG_BUFFER = subst (λ (k : ℕ). lsn (group_end u) < floor k + LOG_BUFFER → q * 512 < floor k + LOG_BUFFER) (sym O.write_is) (block_below (group_end u) g.write) hi in
          let more : (x : ℕ) → 0 < g.first x → 0 < g'.first x = λ x s. elim (ℕ_discrete x q) [
            | yes e ↦ (let z = here x e in omega arith)
            | no n ↦ (let z = else x n in omega arith)
          ] in
          let slot : i < length m.firsts = omega (arith, before.sized.firsts) in (
            g',
            steps m' g' (user_took u 0 user_step.StoreFirst)
                (firsts_sized i v before.sized)
                (record {
                  tiled = G.tiled;
                  order = O;
                  ring_cells = G.ring_cells;
                  first_offsets = record {
                    slots_are = λ x l r. elim (ℕ_discrete (x % 128) i) [
                      | yes e ↦ (let same : x ≡ q = ring_same x q g.entered 128 l from r to (e ∙ i_is) in stored_here m.firsts i v (x % 128) e slot ∙ sym (here x same))
                      | no n ↦ stored_else m.firsts i v (x % 128) n ∙ H.slots_are x l r ∙ sym (else x (λ e. n (ap (λ (k : ℕ). k % 128) e ∙ sym i_is)))
                    ];
                    near = λ x s. elim (ℕ_discrete x q) [
                      | yes e ↦ subst (λ (k : ℕ). k * 512 < floor m.write + LOG_BUFFER) (sym e) near
                      | no n ↦ H.near x (let z = else x n in omega arith)
                    ];
                    true_first = λ x s. elim (ℕ_discrete x q) [
                      | yes e ↦ here x e ∙ v_is ∙ sym (first_is c m.sn g.log g.place hand.at (entry u.user u.k u.start (line u)) q G.tiled hand.is (is_crosses q (entry u.user u.k u.start (line u)) refl over_block)) ∙ ap (first_of c.base g.log) (sym e)
                      | no n ↦ else x n ∙ H.true_first x (let z = else x n in omega arith)
                    ];
                    stored = λ j e e_is two k. more (end_of e / BLOCK_DATA) (H.stored j e e_is two k);
                    begun = more (c.base / BLOCK_DATA) H.begun;
                  };
                  written_links = G.written_links;
                  commits = G.commits;
                  part = G.part;
                })
                (refit m' g' u.page u.cell u.copied u.loaded u.code u.checks user_step.LoadWtail refl refl refl fits.loaded (h.0, h.1, record { at = hand.at; is = hand.is; own = hand.own; done = hand.done; bare = hand.bare }, all, (λ _. let z = here q refl in omega arith)))
                (record {
                  write = omega arith;
                  wtail = omega arith;
                  ckpt = omega arith;
                  flushed = omega arith;
                  failed = λ z. z;
                  logs = λ j e z. z;
                  places = λ x l o. refl;
                  states = λ x l o. refl;
                  linked = λ x l two. two;
                  firsts = more;
                  bare = λ j e e_is other cross none. elim (ℕ_discrete (end_of e / BLOCK_DATA) q) [
                    | yes same ↦ (let start = crossing_same c m.sn g.log g.place j hand.at e (entry u.user u.k u.start (line u)) q G.tiled e_is hand.is same (omega arith) refl over_block in
                        absurd (other (ap (λ (x : ℕ). (g.place x).owner) start ∙ hand.own u.start (omega arith) (omega arith))))
                    | no n ↦ else (end_of e / BLOCK_DATA) n ∙ none
                  ];
                  seats = λ x. refl;
                  counts = λ x n. refl;
                  answers = λ x n. refl;
                  holder = λ _ _. unchanged;
                })
                (still_words m' g' refl refl refl refl refl refl refl refl refl)
                refl refl refl refl refl refl refl (omega arith),
            refl,
          )
