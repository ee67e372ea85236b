-- Words that are all 0, by name.
use Rattle.std.proofs.Common.{List, [], ap, arith, length, refl, replicate, suc, suc-mul, sym, zero, zero-mul, ℕ, ◌*◌, ◌++◌, ◌+◌, ◌<◌, ◌∙◌, ◌∷◌, ◌≡◌, false}
use Rattle.std.specs.Prelude.{slice_index}
use Rattle.std.proofs.lemmas.List.{get_or-replicate, length-replicate}
use Rattle.model_core.specs.{blank_words, flat, flat_page_words, frame_words, page_stride, page_words_at, PageWords, rows, SharedWords, word_count}
use Rattle.model_core.specs.declared.limits.TheConstants.{BUFFER_BLOCKS, CLOSED_LINKS, FLUSH_LISTS, BUFFER_WORDS, READERS, WRITTEN_LINKS}
use Rattle.model_core.specs.declared.words.Layout.{Layout}
use Rattle.redo_drive.specs.Setups.{free_page, zeros}
use Rattle.redo_drive.specs.StartWords.{AreNamed}
use Rattle.redo_words.specs.Plain.{Plain}

pub zeros-length : (n : ℕ) → length (zeros n) ≡ n
unfolding zeros
zeros-length zero = refl
zeros-length (suc n) = ap suc (zeros-length n)

pub zeros-zero : (n i : ℕ) → slice_index (zeros n) i ≡ 0
unfolding zeros
zeros-zero zero i = refl
zeros-zero (suc n) zero = refl
zeros-zero (suc n) (suc i) = zeros-zero n i

zeros-append : (m n : ℕ) → zeros m ++ zeros n ≡ zeros (m + n)
unfolding zeros
zeros-append zero n = ap zeros (let e : n ≡ 0 + n = omega arith in e)
zeros-append (suc m) n = ap (λ (xs : List ℕ). 0 ∷ xs) (zeros-append m n) ∙ ap zeros (let e : suc (m + n) ≡ suc m + n = omega arith in e)

zeros-none : (stride : ℕ) → [] ≡ zeros (0 * stride)
unfolding zeros
zeros-none stride = ap (λ (n : ℕ). replicate n 0) (sym (zero-mul stride))

zeros-three : (n : ℕ) → 0 ∷ 0 ∷ 0 ∷ zeros n ≡ zeros (suc (suc (suc n)))
unfolding zeros
zeros-three n = refl

zeros-eight : (n : ℕ) → 0 ∷ 0 ∷ 0 ∷ 0 ∷ 0 ∷ 0 ∷ 0 ∷ 0 ∷ zeros n ≡ zeros (suc (suc (suc (suc (suc (suc (suc (suc n))))))))
unfolding zeros
zeros-eight n = refl

-- zeros before so many others
longer : (m n : ℕ) (xs : List ℕ) → xs ≡ zeros n → zeros m ++ xs ≡ zeros (m + n)
longer m n xs are = ap (λ (ys : List ℕ). zeros m ++ ys) are ∙ zeros-append m n

-- a list whose numbers are all 0
are_zeros : (xs : List ℕ) → ((i : ℕ) → slice_index xs i ≡ 0) → xs ≡ zeros (length xs)
unfolding zeros
are_zeros [] each = refl
are_zeros (x ∷ xs) each = ap (λ (y : ℕ). y ∷ xs) (each zero) ∙ ap (λ (ys : List ℕ). 0 ∷ ys) (are_zeros xs (λ i. each (suc i)))

-- a page that is free and in no list, and whose frame of so many words is empty
abbrev pub zero_page : ℕ → PageWords
zero_page words = free_page (zeros words)

-- the words of a store, each 0
abbrev pub zero_words : Layout → SharedWords
zero_words layout = record {
  sn = 0;
  write = 0;
  wtail = 0;
  wheld = false;
  flushed = 0;
  ckpt = 0;
  ctail = 0;
  cheld = false;
  failed = 0;
  device = 0;
  lists = zeros FLUSH_LISTS;
  wlinks = zeros WRITTEN_LINKS;
  clinks = zeros CLOSED_LINKS;
  cells = zeros BUFFER_WORDS;
  firsts = zeros BUFFER_BLOCKS;
  places = zeros READERS;
  page_words = replicate layout.pages (zero_page (frame_words layout.page_size));
}

-- the words of so many such pages, and of their store, in order
zero_pages : (words pages : ℕ) → flat_page_words (replicate pages (zero_page words)) ≡ zeros (pages * (3 + words))
zero_pages words zero = zeros-none (3 + words)
zero_pages words (suc pages) = ap (λ (xs : List ℕ). 0 ∷ 0 ∷ 0 ∷ xs)
    (ap (λ (xs : List ℕ). zeros words ++ xs) (zero_pages words pages) ∙ zeros-append words (pages * (3 + words)))
    ∙ zeros-three (words + pages * (3 + words))
    ∙ ap zeros (let e : suc (suc (suc (words + pages * (3 + words)))) ≡ suc pages * (3 + words) =
    omega (arith, suc-mul pages (3 + words)) in e)

zero_flat : (layout : Layout) → flat (zero_words layout) ≡ zeros (word_count layout)
zero_flat layout =
    let paged : ℕ = layout.pages * page_stride layout in
    let places : ℕ = READERS + paged in
    let firsts : ℕ = BUFFER_BLOCKS + places in
    let cells : ℕ = BUFFER_WORDS + firsts in
    let closed : ℕ = CLOSED_LINKS + cells in
    let written : ℕ = WRITTEN_LINKS + closed in
    let all : ℕ = FLUSH_LISTS + written in
    let are : rows (zero_words layout) ≡ zeros all =
    longer FLUSH_LISTS written _ (longer WRITTEN_LINKS closed _ (longer CLOSED_LINKS cells _
    (longer BUFFER_WORDS firsts _ (longer BUFFER_BLOCKS places _
    (longer READERS paged _ (zero_pages (frame_words layout.page_size) layout.pages)))))) in
    ap (λ (xs : List ℕ). 0 ∷ 0 ∷ 0 ∷ 0 ∷ 0 ∷ 0 ∷ 0 ∷ 0 ∷ xs) are ∙ zeros-eight all
    ∙ ap zeros (let e : suc (suc (suc (suc (suc (suc (suc (suc all))))))) ≡ word_count layout = omega arith in e)

-- each of its pages
pub zero_page_at : (layout : Layout) (p : ℕ) → p < layout.pages
    → page_words_at (zero_words layout).page_words p ≡ zero_page (frame_words layout.page_size)
zero_page_at layout p there =
    get_or-replicate layout.pages p (zero_page (frame_words layout.page_size)) blank_words there

-- words that are all 0 are these
pub zero_named : (words : Plain) → length words.words ≡ word_count words.layout
    → ((i : ℕ) → slice_index words.words i ≡ 0) → AreNamed words (zero_words words.layout)
zero_named words count each = record {
  sized = record {
    lists = zeros-length FLUSH_LISTS;
    wlinks = zeros-length WRITTEN_LINKS;
    clinks = zeros-length CLOSED_LINKS;
    cells = zeros-length BUFFER_WORDS;
    firsts = zeros-length BUFFER_BLOCKS;
    places = zeros-length READERS;
    page_words = length-replicate {A = PageWords} words.layout.pages (zero_page (frame_words words.layout.page_size));
    frames = λ p there. ap (λ (w : PageWords). length w.frame) (zero_page_at words.layout p there)
        ∙ zeros-length (frame_words words.layout.page_size);
  };
  in_order = are_zeros words.words each ∙ ap zeros count ∙ sym (zero_flat words.layout);
}
