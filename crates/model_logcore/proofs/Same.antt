-- What holds of words, ghosts or a part of the log still holds where they change in what it doesn't speak of.
use Rattle.std.proofs.Common.{Bool, List, ap, arith, false, get_or-set_other, get_or-set_same, length, length-set, refl, set, subst, sym, true, ℕ, ◌*◌, ◌+◌, ◌<◌, ◌∙◌, ◌≡◌, ◌≤◌, ◌≢◌}
use Rattle.std.specs.Prelude.{slice_set, slice_index}
use native.Mathlib.Decide.{ℕ_discrete}
use Rattle.model_core.specs.{Advance, blank_words, frame_words, IsBound, IsSized, lsn, page_words_at, PageWords, SharedWords, with_page_words, writer_holds, WriterState, LogSide, Setup}
use Rattle.model_core.specs.declared.words.Layout.{Layout}
use Rattle.model_log.specs.declared.layout.TheConstants.{BLOCK_DATA}
use Rattle.model_core.specs.declared.steps.WriterStep.{WriterStep}
use Rattle.model_logcore.proofs.Frame.{Later, Still, StillHeld}
use Rattle.model_logcore.specs.LogFacts.{LogFacts, LogGhost, LogPartFacts, MarkOrder}
use Rattle.model_logcore.specs.LogFits.{WriterAt, WriterFits}

-- a number of a list is stored, and the others stay
pub stored_here : (l : List ℕ) (i v j : ℕ) → j ≡ i → i < length l → slice_index (slice_set l i v) j ≡ v
stored_here l i v j e lt = subst (λ (y : ℕ). slice_index (slice_set l i v) y ≡ v) (sym e) (get_or-set_same l i v 0 lt)

pub stored_else : (l : List ℕ) (i v j : ℕ) → j ≢ i → slice_index (slice_set l i v) j ≡ slice_index l j
stored_else l i v j n = rw get_or-set_other refl

-- numbers change, and lists to lists as long as before
pub sized_same : {layout : Layout} {m : SharedWords} {sn write wtail flushed ckpt ctail failed device : ℕ} {wheld cheld : Bool} {lists wlinks clinks cells firsts places : List ℕ}
    → length lists ≡ length m.lists → length wlinks ≡ length m.wlinks → length clinks ≡ length m.clinks → length cells ≡ length m.cells → length firsts ≡ length m.firsts → length places ≡ length m.places → IsSized layout m
    → IsSized layout (record { sn = sn; write = write; wtail = wtail; wheld = wheld; flushed = flushed; ckpt = ckpt; ctail = ctail; cheld = cheld; failed = failed; device = device; lists = lists; wlinks = wlinks; clinks = clinks; cells = cells; firsts = firsts; places = places; page_words = m.page_words })
sized_same a b d e f h z = record { lists = a ∙ z.lists; wlinks = b ∙ z.wlinks; clinks = d ∙ z.clinks; cells = e ∙ z.cells; firsts = f ∙ z.firsts; places = h ∙ z.places; page_words = z.page_words; frames = z.frames }

pub numbers_sized : {layout : Layout} {m : SharedWords} {sn write wtail flushed ckpt ctail failed device : ℕ} {wheld cheld : Bool} → IsSized layout m
    → IsSized layout (record m { sn = sn; write = write; wtail = wtail; wheld = wheld; flushed = flushed; ckpt = ckpt; ctail = ctail; cheld = cheld; failed = failed; device = device })
numbers_sized z = sized_same refl refl refl refl refl refl z

pub lists_sized : {layout : Layout} {m : SharedWords} (i x : ℕ) → IsSized layout m → IsSized layout (record m { lists = slice_set m.lists i x })
lists_sized {m = m} i x z = sized_same (length-set m.lists i x) refl refl refl refl refl z

pub wlinks_sized : {layout : Layout} {m : SharedWords} (i x : ℕ) → IsSized layout m → IsSized layout (record m { wlinks = slice_set m.wlinks i x })
wlinks_sized {m = m} i x z = sized_same refl (length-set m.wlinks i x) refl refl refl refl z

pub clinks_sized : {layout : Layout} {m : SharedWords} (i x : ℕ) → IsSized layout m → IsSized layout (record m { clinks = slice_set m.clinks i x })
clinks_sized {m = m} i x z = sized_same refl refl (length-set m.clinks i x) refl refl refl z

pub cells_sized : {layout : Layout} {m : SharedWords} (i x : ℕ) → IsSized layout m → IsSized layout (record m { cells = slice_set m.cells i x })
cells_sized {m = m} i x z = sized_same refl refl refl (length-set m.cells i x) refl refl z

pub firsts_sized : {layout : Layout} {m : SharedWords} (i x : ℕ) → IsSized layout m → IsSized layout (record m { firsts = slice_set m.firsts i x })
firsts_sized {m = m} i x z = sized_same refl refl refl refl (length-set m.firsts i x) refl z

pub places_sized : {layout : Layout} {m : SharedWords} (i x : ℕ) → IsSized layout m → IsSized layout (record m { places = slice_set m.places i x })
places_sized {m = m} i x z = sized_same refl refl refl refl refl (length-set m.places i x) z

-- the words of a page change, and its frame to one as long as before
pub page_sized : {layout : Layout} {m : SharedWords} (p : ℕ) (w : PageWords) → length w.frame ≡ length (page_words_at m.page_words p).frame → IsSized layout m → IsSized layout (with_page_words m p w)
page_sized {layout = layout} {m = m} p w e z = record {
  lists = z.lists;
  wlinks = z.wlinks;
  clinks = z.clinks;
  cells = z.cells;
  firsts = z.firsts;
  places = z.places;
  page_words = length-set m.page_words p w ∙ z.page_words;
  frames = λ q l. elim (ℕ_discrete q p) [
    | yes y ↦ subst (λ (r : ℕ). length (page_words_at (set m.page_words p w) r).frame ≡ frame_words layout.page_size) (sym y) (ap (λ (x : PageWords). length x.frame) (get_or-set_same m.page_words p w blank_words (let k = z.page_words in omega arith)) ∙ e ∙ ap (λ (r : ℕ). length (page_words_at m.page_words r).frame) (sym y) ∙ z.frames q l)
    | no n ↦ ap (λ (x : PageWords). length x.frame) (get_or-set_other m.page_words p q w blank_words n) ∙ z.frames q l
  ];
}

module _ (D : LogSide) (c : Setup) (m : SharedWords) (g : LogGhost) (p : D.Part) where
  -- the words beside the part's facts change
  pub part_same : {write wtail flushed ckpt device : ℕ} → LogPartFacts D c m.write m.wtail m.flushed m.ckpt m.device g.log p → write ≤ D.written p → D.given p ≤ wtail → flushed ≤ D.stable p → ckpt ≤ D.ckpt p → device ≤ 1 → LogPartFacts D c write wtail flushed ckpt device g.log p
  part_same P low given fl ck dev = record {
    holds = P.holds;
    written = P.written;
    stable = P.stable;
    written_is = P.written_is;
    stable_is = P.stable_is;
    written_bound = P.written_bound;
    stable_bound = P.stable_bound;
    write_written = low;
    written_wtail = (let z = P.written_given in omega arith);
    given_wtail = given;
    flushed_stable = fl;
    stable_written = P.stable_written;
    ckpt_part = ck;
    written_given = P.written_given;
    ckpt_asked = P.ckpt_asked;
    asked_stable = P.asked_stable;
    turn_word = dev;
  }

  -- a call leaves what the part has written and what is stable
  pub part_kept : {q : D.Part} → LogPartFacts D c m.write m.wtail m.flushed m.ckpt m.device g.log p → D.Holds c.blocks c.base g.log q → D.written q ≡ D.written p → D.stable q ≡ D.stable p → D.written p ≤ D.given q → D.given q ≤ m.wtail
      → m.ckpt ≤ D.ckpt q → D.ckpt q ≤ D.asked q → D.asked q ≤ D.stable p → LogPartFacts D c m.write m.wtail m.flushed m.ckpt m.device g.log q
  part_kept P holds w1 w2 more given ck asked under = record {
    holds = holds;
    written = P.written;
    stable = P.stable;
    written_is = w1 ∙ P.written_is;
    stable_is = w2 ∙ P.stable_is;
    written_bound = P.written_bound;
    stable_bound = P.stable_bound;
    write_written = (let z = P.write_written in omega arith);
    written_wtail = omega arith;
    given_wtail = given;
    flushed_stable = (let z = P.flushed_stable in omega arith);
    stable_written = (let z = P.stable_written in omega arith);
    ckpt_part = ck;
    written_given = omega arith;
    ckpt_asked = asked;
    asked_stable = omega arith;
    turn_word = P.turn_word;
  }

  -- the tail with which the writer goes on, its read place and the blocks that it has entered go on
  pub order_on : {target read entered : ℕ} → MarkOrder c.base g.log m.sn m.write m.wtail m.wheld m.flushed g.write g.wtail g.flushed g.tail g.target g.read g.entered
      → g.write ≤ read → read ≤ target → target ≤ g.wtail → read ≤ BLOCK_DATA * entered → BLOCK_DATA * entered < target + BLOCK_DATA
      → IsBound c.base g.log target
      → MarkOrder c.base g.log m.sn m.write m.wtail m.wheld m.flushed g.write g.wtail g.flushed g.tail target read entered
  order_on O low high up within next bound = record {
    base_even = O.base_even;
    write_is = O.write_is;
    wtail_is = O.wtail_is;
    flushed_is = O.flushed_is;
    base_write = O.base_write;
    write_read = low;
    read_target = high;
    target_wtail = up;
    wtail_tail = O.wtail_tail;
    free = O.free;
    tail_sn = O.tail_sn;
    near = O.near;
    read_entered = within;
    entered_target = next;
    write_bound = O.write_bound;
    wtail_bound = O.wtail_bound;
    tail_bound = O.tail_bound;
    target_bound = bound;
    flushed_bound = O.flushed_bound;
  }

  -- the words that only the part's facts speak of change, or the part itself
  pub facts_same : {ckpt ctail failed device holder : ℕ} {cheld : Bool} {lists clinks places : List ℕ} {page_words : List PageWords} {q : D.Part} → LogPartFacts D c m.write m.wtail m.flushed ckpt device g.log q → LogFacts D c m g p
      → LogFacts D c (record m { ckpt = ckpt; ctail = ctail; cheld = cheld; failed = failed; device = device; lists = lists; clinks = clinks; places = places; page_words = page_words }) (record g { holder = holder }) q
  facts_same part G = record { tiled = G.tiled; order = G.order; ring_cells = G.ring_cells; first_offsets = G.first_offsets; written_links = G.written_links; commits = G.commits; part = part }

  -- the marks go on
  pub later_marks : {m' : SharedWords} {seat write wtail flushed tail advancer target read entered writer holder : ℕ} → m.write ≤ m'.write → m.wtail ≤ m'.wtail → m.ckpt ≤ m'.ckpt → m.flushed ≤ m'.flushed → (0 < m.failed → 0 < m'.failed)
      → (g.advancer ≢ seat → m.wheld ≡ true → StillHeld m.wheld m'.wheld g.advancer advancer m.wtail m'.wtail g.tail tail m.wlinks m'.wlinks)
      → Later D c m g m' (record g { write = write; wtail = wtail; flushed = flushed; tail = tail; advancer = advancer; target = target; read = read; entered = entered; writer = writer; holder = holder }) seat
  later_marks a b d f e h = record { write = a; wtail = b; ckpt = d; flushed = f; failed = e; logs = λ _ _ z. z; places = λ _ _ _. refl; states = λ _ _ _. refl; linked = λ _ _ two. two; firsts = λ _ z. z; bare = λ _ _ _ _ _ z. z; seats = λ _. refl; counts = λ _ _. refl; answers = λ _ _. refl; holder = h }

  -- the words that the writer doesn't read change
  pub still_same : {wtail flushed ckpt ctail failed device gwtail gflushed tail advancer holder : ℕ} {wheld cheld : Bool} {lists wlinks clinks places : List ℕ} {page_words : List PageWords} {q : D.Part} → m.ckpt ≤ ckpt → (0 < m.failed → 0 < failed) → D.written q ≡ D.written p
      → Still D c m (record m { wtail = wtail; wheld = wheld; flushed = flushed; ckpt = ckpt; ctail = ctail; cheld = cheld; failed = failed; device = device; lists = lists; wlinks = wlinks; clinks = clinks; places = places; page_words = page_words }) g (record g { wtail = gwtail; flushed = gflushed; tail = tail; advancer = advancer; holder = holder }) p q
  still_same up fails written = record { writer = refl; gwrite = refl; target = refl; read = refl; entered = refl; write = refl; ckpt = up; failed = fails; bytes = λ _ _ _. refl; firsts = λ _ _. refl; written = written }

  -- of the writer's own state what it has gathered stays
  pub writer_same : {seat : ℕ} {s : WriterState} {wtail failed gwtail gtail advancer target tail first ckpt code : ℕ} {wheld checks : Bool} {wlinks : List ℕ} {advance : Advance} {st : WriterStep} {q : D.Part}
      → WriterFits D c m g p seat s → tail ≡ lsn target → ckpt ≤ m.ckpt → (checks ≡ true → writer_holds st ≡ false)
      → WriterAt D c (record m { wtail = wtail; wheld = wheld; wlinks = wlinks; failed = failed }) (record g { wtail = gwtail; tail = gtail; advancer = advancer; target = target }) q seat (record s { tail = tail; advance = advance; first = first; ckpt = ckpt; code = code; checks = checks; step = st }) st
      → WriterFits D c (record m { wtail = wtail; wheld = wheld; wlinks = wlinks; failed = failed }) (record g { wtail = gwtail; tail = gtail; advancer = advancer; target = target }) q seat (record s { tail = tail; advance = advance; first = first; ckpt = ckpt; code = code; checks = checks; step = st })
  writer_same h is le no_device_while_checking step = record {
    alone = h.alone;
    blocks = h.blocks;
    tail = is;
    write = h.write;
    from = h.from;
    long = h.long;
    kept = h.kept;
    wide = h.wide;
    firsts = h.firsts;
    ckpt = le;
    no_device_while_checking = no_device_while_checking;
    step = step;
  }
