-- The words of a store while its pages are written into them one by one, and what they are then for a run.
use Rattle.std.proofs.Common.{Bool, List, ap, arith, cond, eq-eqb, get_or, length, map, ne_eqb, refl, subst, suc, sym, ℕ, ⊎_elim, ◌%◌, ◌*◌, ◌+◌, ◌-◌, ◌/◌, ◌<◌, ◌==◌, ◌∙◌, ◌≡◌, ◌≤◌}
use Rattle.std.specs.Prelude.{slice_index, slice_set}
use Rattle.std.proofs.lemmas.Bool.{cases_eq}
use Rattle.std.proofs.lemmas.List.{ext_get_or, get_or-map, get_or-set_other, get_or-set_same, length-map}
use Rattle.std.proofs.lemmas.Option.{slice_get-get_or}
use Rattle.model_base.proofs.ShapeLimits.{whole_sectors}
use Rattle.model_base.specs.{IsWithinLimits}
use Rattle.model_base.specs.declared.limits.TheConstants.{BLOCK_SIZE}
use Rattle.model_base.specs.declared.shape.Shape.{Shape}
use Rattle.model_core.proofs.Lists.{one_turn}
use Rattle.model_core.proofs.Lsns.{lsn_block, lsn_offset}
use Rattle.model_core.specs.{blank_words, flat, framed_page, frame_words, IsSized, KeptPage, layout_of, lsn, page_words_at, PageWords, SharedWords, Setup, start_checkpoint}
use Rattle.model_core.specs.declared.limits.TheConstants.{BUFFER_BLOCKS, READERS}
use Rattle.model_core.specs.declared.words.Layout.{Layout}
use Rattle.model_log.specs.{data_before, IsAtDataStart, sn_of}
use Rattle.model_log.specs.declared.layout.TheConstants.{BLOCK_DATA, BLOCK_HEADER}
use Rattle.model_page.specs.{blank_page}
use Rattle.model_page.specs.declared.content.Content.{Content}
use Rattle.redo_apply.specs.{ArePagesOf}
use Rattle.redo_drive.proofs.StartWordsPacked.{page_frame-bytes}
use Rattle.redo_drive.proofs.StartWordsPages.{user_at}
use Rattle.redo_drive.proofs.StartWordsPlaces.{first_place}
use Rattle.redo_drive.proofs.StartWordsZero.{zero_page, zero_page_at, zero_words, zeros-length, zeros-zero}
use Rattle.redo_drive.specs.Setups.{first_places, first_words, free_page, page_frame, zeros}
use Rattle.redo_drive.specs.StartWords.{AreNamed, AreStartWords, IsBlankFrame, StartsOn, with_frame, with_log}
use Rattle.redo_words.specs.Plain.{Plain, shape_layout}

-- the words of a run that starts at this lsn, with these of the pages
abbrev begun_words : ℕ → Layout → List PageWords → SharedWords
begun_words start layout ws = record (with_log start (zero_words layout)) { page_words = ws }

-- so many of the pages have their cells and hold bytes, and the others' cells are 0
pub record AreSetUpTo (shape : Shape) (start : ℕ) (pages : List Content) (k : ℕ) (words : Plain) : Type 0 where
  pub layout : words.layout ≡ shape_layout shape
  pub count : shape.pages ≡ length pages
  pub page_words : List PageWords
  pub named : AreNamed words (begun_words start (shape_layout shape) page_words)
  pub done : (p : ℕ) → p < k → p < length pages → ◌≡◌ {A = PageWords} (page_words_at page_words p) (free_page (page_frame shape.page_size (get_or pages p (blank_page shape)).user))
  pub left : (p : ℕ) → k ≤ p → p < length pages → ◌≡◌ {A = PageWords} (page_words_at page_words p) (zero_page (frame_words shape.page_size))
  pub bytes : (p : ℕ) → p < k → p < length pages → (i : ℕ) → slice_index (get_or pages p (blank_page shape)).user i < 256

module _ (shape : Shape) (start : ℕ) (pages : List Content) where
  -- the words of the log are set, on words that were all 0
  pub set_none : (words : Plain) → shape.pages ≡ length pages → words.layout ≡ shape_layout shape
      → AreNamed words (with_log start (zero_words (shape_layout shape))) → AreSetUpTo shape start pages 0 words
  set_none words count layout named = record {
    layout = layout;
    count = count;
    page_words = (zero_words (shape_layout shape)).page_words;
    named = named;
    done = λ p below there. absurd (omega arith);
    left = λ p from there. zero_page_at (shape_layout shape) p (omega arith);
    bytes = λ p below there. absurd (omega arith);
  }

  -- one more page has its cells
  pub set_more : (mid new : Plain) (k : ℕ) (user : List ℕ) → AreSetUpTo shape start pages k mid → k < length pages → user ≡ (get_or pages k (blank_page shape)).user → ((i : ℕ) → slice_index user i < 256)
      → new.layout ≡ mid.layout
      → ((m : SharedWords) → AreNamed mid m → IsBlankFrame k m
      → AreNamed new (with_frame k (page_frame shape.page_size user) m)) → AreSetUpTo shape start pages (suc k) new
  set_more mid new k user before there is small same step = record {
    layout = same ∙ before.layout;
    count = before.count;
    page_words = slice_set before.page_words k framed;
    named = step (begun_words start (shape_layout shape) before.page_words) before.named (λ i. ap (λ (w : PageWords). slice_index w.frame i) blank ∙ zeros-zero _ i);
    done = λ p below there'. ⊎_elim
        (λ e. ap (page_words_at (slice_set before.page_words k framed)) e ∙ get_or-set_same before.page_words k framed blank_words long
        ∙ ap (λ (w : PageWords). let v : PageWords = record w { frame = page_frame shape.page_size user } in v) blank
        ∙ ap (λ (us : List ℕ). free_page (page_frame shape.page_size us)) is ∙ ap (λ (q : ℕ). free_page (page_frame shape.page_size (get_or pages q (blank_page shape)).user)) (sym e))
        (λ other. get_or-set_other before.page_words k p framed blank_words other ∙ before.done p (omega arith) there')
        (cases_eq p k);
    left = λ p from there'. get_or-set_other before.page_words k p framed blank_words (λ e. omega arith) ∙ before.left p (omega arith) there';
    bytes = λ p below there'. ⊎_elim
        (λ e. λ i. subst (λ (q : ℕ). slice_index (get_or pages q (blank_page shape)).user i < 256) (sym e) (subst (λ (us : List ℕ). slice_index us i < 256) is (small i)))
        (λ other. before.bytes p (omega arith) there')
        (cases_eq p k);
  }
    where
      framed : PageWords
      framed = record (page_words_at before.page_words k) { frame = page_frame shape.page_size user }

      blank : ◌≡◌ {A = PageWords} (page_words_at before.page_words k) (zero_page (frame_words shape.page_size))
      blank = before.left k (omega arith) there

      long : k < length before.page_words
      long = omega (arith, before.named.sized.page_words, ap (λ (l : Layout). l.pages) before.layout, before.count)

  -- so in the end they are the words of a run that begins there
  pub set_first : (words : Plain) (k : ℕ) → AreSetUpTo shape start pages k words → length pages ≤ k
      → words.words ≡ flat (first_words shape.page_size start pages)
  set_first words k up_to all = up_to.named.in_order
      ∙ ap (λ (ws : List PageWords). flat (begun_words start (shape_layout shape) ws)) same
    where
      same : ◌≡◌ {A = List PageWords} up_to.page_words
          (map (λ (page : Content). free_page (page_frame shape.page_size page.user)) pages)
      same = ext_get_or blank_words up_to.page_words (map (λ (page : Content). free_page (page_frame shape.page_size page.user)) pages)
          (omega (
            arith,
            up_to.named.sized.page_words,
            ap (λ (l : Layout). l.pages) up_to.layout,
            up_to.count,
            length-map pages (λ (page : Content). free_page (page_frame shape.page_size page.user)),
          ))
          (λ p below. let there : p < length pages = omega (
            arith,
            up_to.named.sized.page_words,
            ap (λ (l : Layout). l.pages) up_to.layout,
            up_to.count,
          ) in
          up_to.done p (omega arith) there
          ∙ sym (get_or-map (λ (page : Content). free_page (page_frame shape.page_size page.user)) pages p (blank_page shape)
          blank_words there))

  -- a run that starts there, at the first data byte of a block, has these words
  module _ (c : Setup) (limits : IsWithinLimits shape) (its_pages : ArePagesOf shape pages) (place : IsAtDataStart start) (on : StartsOn start shape pages c) where
    -- its first block, its first sn, and the first offsets of the blocks that the log buffer spans
    block : start / BLOCK_SIZE ≡ c.base / BLOCK_DATA
    block = ap (λ (n : ℕ). n / BLOCK_SIZE) (sym on.begins) ∙ lsn_block c.base

    even : c.base % BLOCK_DATA ≡ 0
    even = let e : lsn c.base % BLOCK_SIZE ≡ start % BLOCK_SIZE = ap (λ (n : ℕ). n % BLOCK_SIZE) on.begins in let o = lsn_offset c.base in omega arith

    sn : sn_of start ≡ c.base
    sn = ap (λ (n : ℕ). start / BLOCK_SIZE * BLOCK_DATA + data_before n) place ∙ ap (λ (n : ℕ). n * BLOCK_DATA + data_before BLOCK_HEADER) block ∙ (let e : c.base / BLOCK_DATA * BLOCK_DATA + 0 ≡ c.base = omega (arith, even) in e)

    firsts : (q : ℕ) → c.base / BLOCK_DATA ≤ q → q < c.base / BLOCK_DATA + BUFFER_BLOCKS → slice_index (slice_set (zeros BUFFER_BLOCKS) (start / BLOCK_SIZE % BUFFER_BLOCKS) BLOCK_HEADER) (q % BUFFER_BLOCKS) ≡ cond (q == c.base / BLOCK_DATA) BLOCK_HEADER 0
    firsts q from below = ap (λ (n : ℕ). slice_index (slice_set (zeros BUFFER_BLOCKS) (n % BUFFER_BLOCKS) BLOCK_HEADER) (q % BUFFER_BLOCKS)) block ∙ ⊎_elim
        (λ e. ap (λ (n : ℕ). slice_index (slice_set (zeros BUFFER_BLOCKS) (b % BUFFER_BLOCKS) BLOCK_HEADER) (n % BUFFER_BLOCKS)) e
        ∙ get_or-set_same (zeros BUFFER_BLOCKS) (b % BUFFER_BLOCKS) BLOCK_HEADER 0 (omega (arith, zeros-length BUFFER_BLOCKS)) ∙ sym (ap (λ (t : Bool). cond t BLOCK_HEADER 0) (eq-eqb q b e)))
        (λ other. get_or-set_other (zeros BUFFER_BLOCKS) (b % BUFFER_BLOCKS) (q % BUFFER_BLOCKS) BLOCK_HEADER 0 (λ e. other (sym (one_turn b q BUFFER_BLOCKS from below (sym e))))
        ∙ zeros-zero BUFFER_BLOCKS (q % BUFFER_BLOCKS) ∙ sym (ap (λ (t : Bool). cond t BLOCK_HEADER 0) (ne_eqb q b other)))
        (cases_eq q b)
      where
        b : ℕ
        b = c.base / BLOCK_DATA

    places : (i : ℕ) → i < READERS
        → slice_index (first_places start) i ≡ cond (i == 0) (start_checkpoint c) (lsn c.base)
    places i few =
        subst (λ (n : ℕ). slice_index (first_places start) i ≡ cond (i == 0) (n - BLOCK_HEADER) n) (sym on.begins)
        (first_place start i few)

    same_layout : shape.pages ≡ length pages → ◌≡◌ {A = Layout} (shape_layout shape) (layout_of c)
    same_layout count = ap (λ (n : ℕ). let l : Layout = record { pages = n; page_size = shape.page_size } in l)
        (count ∙ sym on.count)
        ∙ ap (λ (n : ℕ). let l : Layout = record { pages = c.pages; page_size = n } in l) (sym on.page_size)

    pub set_all : (words : Plain) (k : ℕ) → AreSetUpTo shape start pages k words → length pages ≤ k → AreStartWords words.words c
    set_all words k up_to all = record {
      by_name = begun_words start (shape_layout shape) up_to.page_words;
      in_order = up_to.named.in_order;
      of_log = record {
        sized = subst (λ (l : Layout). IsSized l (begun_words start (shape_layout shape) up_to.page_words))
            (up_to.layout ∙ same_layout up_to.count) up_to.named.sized;
        even = even;
        sn = sn;
        write = sym on.begins;
        wtail = sym on.begins;
        wheld = refl;
        flushed = sym on.begins;
        ckpt = ap (λ (n : ℕ). n - BLOCK_HEADER) (sym on.begins);
        failed = refl;
        device = refl;
        lists = zeros-zero _;
        wlinks = zeros-zero _;
        cells = zeros-zero _;
        firsts = firsts;
        places = places;
      };
      of_pages = record {
        page_words = λ p below. let there : p < length pages = omega (arith, on.count) in
            up_to.done p (omega arith) there ∙ ap (λ (w : PageWords). free_page w.frame) (sym (up_to.done p (omega arith) there));
        frames = λ p below. let there : p < length pages = omega (arith, on.count) in
            ap (λ (w : PageWords). framed_page c.page_size w.frame) (up_to.done p (omega arith) there)
            ∙ ap (λ (n : ℕ). framed_page n (page_frame shape.page_size (get_or pages p (blank_page shape)).user)) on.page_size
            ∙ page_frame-bytes shape.page_size (get_or pages p (blank_page shape)).user limits.page_size
            (omega (arith, user_at shape limits pages its_pages p, (whole_sectors shape limits).least)) (up_to.bytes p (omega arith) there)
            ∙ ap (λ (kept : KeptPage). kept.bytes) (sym (on.opened p there));
        early = λ p below. let there : p < length pages = omega (arith, on.count) in
            let e : (c.opened p).lsn ≡ (get_or pages p (blank_page shape)).lsn = ap (λ (kept : KeptPage). kept.lsn) (on.opened p there) in
            let old = on.early p (get_or pages p (blank_page shape)) (slice_get-get_or pages p (blank_page shape) there) in omega (arith, on.begins);
        ctail = sym on.begins;
        cheld = refl;
        clinks = zeros-zero _;
      };
    }
