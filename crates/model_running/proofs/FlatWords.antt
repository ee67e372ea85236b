-- The words by name and the list of words; and the one step lemma over the list.
use Rattle.model_core.specs.{places_at, answer_of, cells_at, closed_links_at, firsts_at, flat, flat_page_words, frame_words, index, IsSized, IsWord, list_answer, Listed, oldest_end, OpWords, page_stride, page_words_at, pages_at, PageWords, read, rows, shared_answer, shared_left, SharedWords, tail_word, with_page_words, words_left, wrote}
use Rattle.std.proofs.Common.{Bool, List, [], ap, arith, cond, eqb, false, length, refl, set, suc, suc-mul, sym, true, zero, zero-mul, ℕ, ◌%◌, ◌*◌, ◌++◌, ◌+◌, ◌<◌, ◌∙◌, ◌∷◌, ◌≡◌}
use Rattle.std.specs.Prelude.{None, slice_index, slice_set}
use Rattle.model_core.proofs.Groups.{back, front}
use Rattle.model_core.proofs.Tails.{word_of}
use Rattle.model_core.specs.declared.ops.Answer.{Answer}
use Rattle.model_core.specs.declared.ops.Op.{Op}
use Rattle.model_core.specs.declared.words.Layout.{Layout}
use Rattle.model_core.specs.declared.words.Word.{Word}
use Rattle.model_core.specs.declared.words.Word.TheVariants as word
use Rattle.model_core.specs.declared.ops.Op.TheVariants as op
use Rattle.model_core.specs.declared.ops.Answer.TheVariants as answer
use Rattle.model_core.specs.declared.limits.TheConstants.{BUFFER_BLOCKS, CLOSED_LINKS, BUFFER_WORDS, READERS, WRITTEN_LINKS}

set_front : (xs ys : List ℕ) (i v : ℕ) → i < length xs → set (xs ++ ys) i v ≡ set xs i v ++ ys
set_front [] ys i v h = absurd (omega arith)
set_front (x ∷ xs) ys zero v h = refl
set_front (x ∷ xs) ys (suc i) v h = ap (λ z. x ∷ z) (set_front xs ys i v (omega arith))

set_back : (xs ys : List ℕ) (n i v : ℕ) → n ≡ length xs → set (xs ++ ys) (n + i) v ≡ xs ++ set ys i v
set_back [] ys n i v h = ap (λ (k : ℕ). set ys k v) (omega arith)
set_back (x ∷ xs) ys n i v h = ap (λ (k : ℕ). set (x ∷ (xs ++ ys)) k v) (let e : n + i ≡ suc (length xs + i) = omega arith in e) ∙ ap (λ z. x ∷ z) (set_back xs ys (length xs) i v refl)

abbrev leaf_words : PageWords → List ℕ
leaf_words w = w.latch ∷ w.newest ∷ w.oldest ∷ w.frame

-- the words of a page among those of all
leaf_read : (words : ℕ) (ls : List PageWords) (p k : ℕ) → ((q : ℕ) → q < length ls → length (page_words_at ls q).frame ≡ words) → p < length ls → k < (3 + words) → slice_index (flat_page_words ls) (p * (3 + words) + k) ≡ slice_index (leaf_words (page_words_at ls p)) k
leaf_read words [] p k sizes l lt = absurd (omega arith)
leaf_read words (w ∷ ws) zero k sizes l lt = ap (slice_index (flat_page_words (w ∷ ws))) (let e : zero * (3 + words) + k ≡ k = omega (arith, zero-mul (3 + words)) in e) ∙ front (leaf_words w) (flat_page_words ws) k (let s = sizes zero (omega arith) in omega arith)
leaf_read words (w ∷ ws) (suc p) k sizes l lt = ap (slice_index (flat_page_words (w ∷ ws))) (let e : suc p * (3 + words) + k ≡ (3 + words) + (p * (3 + words) + k) = omega (arith, suc-mul p (3 + words)) in e)
    ∙ back (leaf_words w) (flat_page_words ws) (3 + words) (p * (3 + words) + k) (let s = sizes zero (omega arith) in omega arith) ∙ leaf_read words ws p k (λ q z. sizes (suc q) (omega arith)) (omega arith) lt

leaf_wrote : (words : ℕ) (ls : List PageWords) (p k x : ℕ) (v : PageWords) → ((q : ℕ) → q < length ls → length (page_words_at ls q).frame ≡ words) → p < length ls → k < (3 + words) → slice_set (leaf_words (page_words_at ls p)) k x ≡ leaf_words v → slice_set (flat_page_words ls) (p * (3 + words) + k) x ≡ flat_page_words (slice_set ls p v)
leaf_wrote words [] p k x v sizes l lt e = absurd (omega arith)
leaf_wrote words (w ∷ ws) zero k x v sizes l lt e = ap (λ (j : ℕ). slice_set (flat_page_words (w ∷ ws)) j x) (let e : zero * (3 + words) + k ≡ k = omega (arith, zero-mul (3 + words)) in e) ∙ set_front (leaf_words w) (flat_page_words ws) k x (let s = sizes zero (omega arith) in omega arith) ∙ ap (λ z. z ++ flat_page_words ws) e
leaf_wrote words (w ∷ ws) (suc p) k x v sizes l lt e = ap (λ (j : ℕ). slice_set (flat_page_words (w ∷ ws)) j x) (let e : suc p * (3 + words) + k ≡ (3 + words) + (p * (3 + words) + k) = omega (arith, suc-mul p (3 + words)) in e)
    ∙ set_back (leaf_words w) (flat_page_words ws) (3 + words) (p * (3 + words) + k) x (let s = sizes zero (omega arith) in omega arith) ∙ ap (λ z. leaf_words w ++ z) (leaf_wrote words ws p k x v (λ q z. sizes (suc q) (omega arith)) (omega arith) lt e)

module _ (layout : Layout) (m : SharedWords) (s : IsSized layout m) where
  past : (k j : ℕ) → k ≡ 8 + j → slice_index (flat m) k ≡ slice_index (rows m) j
  past k j h = ap (slice_index (flat m)) (let e : k ≡ suc (suc (suc (suc (suc (suc (suc (suc j))))))) = omega arith in e)

  past_set : (k j x : ℕ) → k ≡ 8 + j → slice_set (flat m) k x ≡ m.sn ∷ m.write ∷ tail_word m.wtail m.wheld ∷ m.flushed ∷ m.ckpt ∷ tail_word m.ctail m.cheld ∷ m.failed ∷ m.device ∷ slice_set (rows m) j x
  past_set k j x h = ap (λ (z : ℕ). slice_set (flat m) z x) (let e : k ≡ suc (suc (suc (suc (suc (suc (suc (suc j))))))) = omega arith in e)

  abbrev r1 : List ℕ
  r1 = m.wlinks ++ (m.clinks ++ (m.cells ++ (m.firsts ++ (m.places ++ flat_page_words m.page_words))))

  abbrev r2 : List ℕ
  r2 = m.clinks ++ (m.cells ++ (m.firsts ++ (m.places ++ flat_page_words m.page_words)))

  abbrev r3 : List ℕ
  r3 = m.cells ++ (m.firsts ++ (m.places ++ flat_page_words m.page_words))

  abbrev r4 : List ℕ
  r4 = m.firsts ++ (m.places ++ flat_page_words m.page_words)

  abbrev r5 : List ℕ
  r5 = m.places ++ flat_page_words m.page_words

  to1 : (i : ℕ) → slice_index (rows m) (4 + i) ≡ slice_index r1 i
  to1 i = back m.lists r1 4 i (sym s.lists)

  to2 : (i : ℕ) → slice_index (rows m) (4 + (WRITTEN_LINKS + i)) ≡ slice_index r2 i
  to2 i = to1 (WRITTEN_LINKS + i) ∙ back m.wlinks r2 WRITTEN_LINKS i (sym s.wlinks)

  to3 : (i : ℕ) → slice_index (rows m) (4 + (WRITTEN_LINKS + (CLOSED_LINKS + i))) ≡ slice_index r3 i
  to3 i = to2 (CLOSED_LINKS + i) ∙ back m.clinks r3 CLOSED_LINKS i (sym s.clinks)

  to4 : (i : ℕ) → slice_index (rows m) (4 + (WRITTEN_LINKS + (CLOSED_LINKS + (BUFFER_WORDS + i)))) ≡ slice_index r4 i
  to4 i = to3 (BUFFER_WORDS + i) ∙ back m.cells r4 BUFFER_WORDS i (sym s.cells)

  to5 : (i : ℕ) → slice_index (rows m) (4 + (WRITTEN_LINKS + (CLOSED_LINKS + (BUFFER_WORDS + (BUFFER_BLOCKS + i))))) ≡ slice_index r5 i
  to5 i = to4 (BUFFER_BLOCKS + i) ∙ back m.firsts r5 BUFFER_BLOCKS i (sym s.firsts)

  to6 : (i : ℕ) → slice_index (rows m) (4 + (WRITTEN_LINKS + (CLOSED_LINKS + (BUFFER_WORDS + (BUFFER_BLOCKS + (READERS + i)))))) ≡ slice_index (flat_page_words m.page_words) i
  to6 i = to5 (READERS + i) ∙ back m.places (flat_page_words m.page_words) READERS i (sym s.places)

  paged_read : (k i : ℕ) → k ≡ pages_at + i → slice_index (flat m) k ≡ slice_index (flat_page_words m.page_words) i
  paged_read k i h = past k (4 + (WRITTEN_LINKS + (CLOSED_LINKS + (BUFFER_WORDS + (BUFFER_BLOCKS + (READERS + i)))))) (omega arith) ∙ to6 i

  sizes : (q : ℕ) → q < length m.page_words → length (page_words_at m.page_words q).frame ≡ frame_words layout.page_size
  sizes q l = s.frames q (let k = s.page_words in omega arith)

  long : (p : ℕ) → p < layout.pages → p < length m.page_words
  long p l = let k = s.page_words in omega arith

  pub flat_read : (w : Word) → IsWord layout w → slice_index (flat m) (index layout w) ≡ read m w
  flat_read word.Sn h = refl
  flat_read word.Write h = refl
  flat_read word.Wtail h = refl
  flat_read word.Flushed h = refl
  flat_read word.Ckpt h = refl
  flat_read word.Ctail h = refl
  flat_read word.Failed h = refl
  flat_read word.Device h = refl
  flat_read (word.List i) h = past (8 + i) i refl ∙ front m.lists r1 i (omega (arith, s.lists))
  flat_read (word.Wlink i) h = past (12 + i) (4 + i) (omega arith) ∙ to1 i ∙ front m.wlinks r2 i (omega (arith, s.wlinks))
  flat_read (word.Clink i) h = past (closed_links_at + i) (4 + (WRITTEN_LINKS + i)) (omega arith) ∙ to2 i ∙ front m.clinks r3 i (omega (arith, s.clinks))
  flat_read (word.Cell i) h = past (cells_at + i) (4 + (WRITTEN_LINKS + (CLOSED_LINKS + i))) (omega arith) ∙ to3 i ∙ front m.cells r4 i (omega (arith, s.cells))
  flat_read (word.First i) h = past (firsts_at + i) (4 + (WRITTEN_LINKS + (CLOSED_LINKS + (BUFFER_WORDS + i)))) (omega arith) ∙ to4 i ∙ front m.firsts r5 i (omega (arith, s.firsts))
  flat_read (word.Place i) h = past (places_at + i) (4 + (WRITTEN_LINKS + (CLOSED_LINKS + (BUFFER_WORDS + (BUFFER_BLOCKS + i))))) (omega arith) ∙ to5 i ∙ front m.places (flat_page_words m.page_words) i (omega (arith, s.places))
  flat_read (word.Latch p) h = paged_read (pages_at + p * page_stride layout) (p * page_stride layout) refl ∙ ap (slice_index (flat_page_words m.page_words)) (let e : p * page_stride layout ≡ p * page_stride layout + 0 = omega arith in e) ∙ leaf_read (frame_words layout.page_size) m.page_words p 0 sizes (long p h) (omega arith)
  flat_read (word.Newest p) h = paged_read (pages_at + (p * page_stride layout + 1)) (p * page_stride layout + 1) refl ∙ leaf_read (frame_words layout.page_size) m.page_words p 1 sizes (long p h) (omega arith)
  flat_read (word.Oldest p) h = paged_read (pages_at + (p * page_stride layout + 2)) (p * page_stride layout + 2) refl ∙ leaf_read (frame_words layout.page_size) m.page_words p 2 sizes (long p h) (omega arith)
  flat_read (word.Frame p i) h = paged_read (pages_at + (p * page_stride layout + (3 + i))) (p * page_stride layout + (3 + i)) refl ∙ leaf_read (frame_words layout.page_size) m.page_words p (3 + i) sizes (long p h.0) (let z = h.1 in omega arith) ∙ ap (slice_index (leaf_words (page_words_at m.page_words p))) (let e : 3 + i ≡ suc (suc (suc i)) = omega arith in e)

  abbrev first_offsets : List ℕ → List ℕ
  first_offsets z = m.sn ∷ m.write ∷ tail_word m.wtail m.wheld ∷ m.flushed ∷ m.ckpt ∷ tail_word m.ctail m.cheld ∷ m.failed ∷ m.device ∷ z

  set1 : (i x : ℕ) → slice_set (rows m) (4 + i) x ≡ m.lists ++ slice_set r1 i x
  set1 i x = set_back m.lists r1 4 i x (sym s.lists)

  set2 : (i x : ℕ) → slice_set (rows m) (4 + (WRITTEN_LINKS + i)) x ≡ m.lists ++ (m.wlinks ++ slice_set r2 i x)
  set2 i x = set1 (WRITTEN_LINKS + i) x ∙ ap (λ z. m.lists ++ z) (set_back m.wlinks r2 WRITTEN_LINKS i x (sym s.wlinks))

  set3 : (i x : ℕ) → slice_set (rows m) (4 + (WRITTEN_LINKS + (CLOSED_LINKS + i))) x ≡ m.lists ++ (m.wlinks ++ (m.clinks ++ slice_set r3 i x))
  set3 i x = set2 (CLOSED_LINKS + i) x ∙ ap (λ z. m.lists ++ (m.wlinks ++ z)) (set_back m.clinks r3 CLOSED_LINKS i x (sym s.clinks))

  set4 : (i x : ℕ) → slice_set (rows m) (4 + (WRITTEN_LINKS + (CLOSED_LINKS + (BUFFER_WORDS + i)))) x ≡ m.lists ++ (m.wlinks ++ (m.clinks ++ (m.cells ++ slice_set r4 i x)))
  set4 i x = set3 (BUFFER_WORDS + i) x ∙ ap (λ z. m.lists ++ (m.wlinks ++ (m.clinks ++ z))) (set_back m.cells r4 BUFFER_WORDS i x (sym s.cells))

  set5 : (i x : ℕ) → slice_set (rows m) (4 + (WRITTEN_LINKS + (CLOSED_LINKS + (BUFFER_WORDS + (BUFFER_BLOCKS + i))))) x ≡ m.lists ++ (m.wlinks ++ (m.clinks ++ (m.cells ++ (m.firsts ++ slice_set r5 i x))))
  set5 i x = set4 (BUFFER_BLOCKS + i) x ∙ ap (λ z. m.lists ++ (m.wlinks ++ (m.clinks ++ (m.cells ++ z)))) (set_back m.firsts r5 BUFFER_BLOCKS i x (sym s.firsts))

  set6 : (i x : ℕ) → slice_set (rows m) (4 + (WRITTEN_LINKS + (CLOSED_LINKS + (BUFFER_WORDS + (BUFFER_BLOCKS + (READERS + i)))))) x ≡ m.lists ++ (m.wlinks ++ (m.clinks ++ (m.cells ++ (m.firsts ++ (m.places ++ slice_set (flat_page_words m.page_words) i x)))))
  set6 i x = set5 (READERS + i) x ∙ ap (λ z. m.lists ++ (m.wlinks ++ (m.clinks ++ (m.cells ++ (m.firsts ++ z))))) (set_back m.places (flat_page_words m.page_words) READERS i x (sym s.places))

  paged_wrote : (k p j x : ℕ) (v : PageWords) → k ≡ pages_at + (p * page_stride layout + j) → p < layout.pages → j < page_stride layout → slice_set (leaf_words (page_words_at m.page_words p)) j x ≡ leaf_words v → slice_set (flat m) k x ≡ flat (with_page_words m p v)
  paged_wrote k p j x v h l lt e = past_set k (4 + (WRITTEN_LINKS + (CLOSED_LINKS + (BUFFER_WORDS + (BUFFER_BLOCKS + (READERS + (p * page_stride layout + j))))))) x (omega arith) ∙ ap first_offsets (set6 (p * page_stride layout + j) x ∙ ap (λ z. m.lists ++ (m.wlinks ++ (m.clinks ++ (m.cells ++ (m.firsts ++ (m.places ++ z)))))) (leaf_wrote (frame_words layout.page_size) m.page_words p j x v sizes (long p l) lt e))

  pub flat_wrote : (w : Word) → IsWord layout w → (x : ℕ) → slice_set (flat m) (index layout w) x ≡ flat (wrote m w x)
  flat_wrote word.Sn h x = refl
  flat_wrote word.Write h x = refl
  flat_wrote word.Wtail h x = ap (λ (n : ℕ). m.sn ∷ m.write ∷ n ∷ m.flushed ∷ m.ckpt ∷ tail_word m.ctail m.cheld ∷ m.failed ∷ m.device ∷ rows m) (sym (word_of x))
  flat_wrote word.Flushed h x = refl
  flat_wrote word.Ckpt h x = refl
  flat_wrote word.Ctail h x = ap (λ (n : ℕ). m.sn ∷ m.write ∷ tail_word m.wtail m.wheld ∷ m.flushed ∷ m.ckpt ∷ n ∷ m.failed ∷ m.device ∷ rows m) (sym (word_of x))
  flat_wrote word.Failed h x = refl
  flat_wrote word.Device h x = refl
  flat_wrote (word.List i) h x = past_set (8 + i) i x refl ∙ ap first_offsets (set_front m.lists r1 i x (omega (arith, s.lists)))
  flat_wrote (word.Wlink i) h x = past_set (12 + i) (4 + i) x (omega arith) ∙ ap first_offsets (set1 i x ∙ ap (λ z. m.lists ++ z) (set_front m.wlinks r2 i x (omega (arith, s.wlinks))))
  flat_wrote (word.Clink i) h x = past_set (closed_links_at + i) (4 + (WRITTEN_LINKS + i)) x (omega arith) ∙ ap first_offsets (set2 i x ∙ ap (λ z. m.lists ++ (m.wlinks ++ z)) (set_front m.clinks r3 i x (omega (arith, s.clinks))))
  flat_wrote (word.Cell i) h x = past_set (cells_at + i) (4 + (WRITTEN_LINKS + (CLOSED_LINKS + i))) x (omega arith) ∙ ap first_offsets (set3 i x ∙ ap (λ z. m.lists ++ (m.wlinks ++ (m.clinks ++ z))) (set_front m.cells r4 i x (omega (arith, s.cells))))
  flat_wrote (word.First i) h x = past_set (firsts_at + i) (4 + (WRITTEN_LINKS + (CLOSED_LINKS + (BUFFER_WORDS + i)))) x (omega arith) ∙ ap first_offsets (set4 i x ∙ ap (λ z. m.lists ++ (m.wlinks ++ (m.clinks ++ (m.cells ++ z)))) (set_front m.firsts r5 i x (omega (arith, s.firsts))))
  flat_wrote (word.Place i) h x = past_set (places_at + i) (4 + (WRITTEN_LINKS + (CLOSED_LINKS + (BUFFER_WORDS + (BUFFER_BLOCKS + i))))) x (omega arith) ∙ ap first_offsets (set5 i x ∙ ap (λ z. m.lists ++ (m.wlinks ++ (m.clinks ++ (m.cells ++ (m.firsts ++ z))))) (set_front m.places (flat_page_words m.page_words) i x (omega (arith, s.places))))
  flat_wrote (word.Latch p) h x = paged_wrote (pages_at + p * page_stride layout) p 0 x (record (page_words_at m.page_words p) { latch = x }) (omega arith) h (omega arith) refl
  flat_wrote (word.Newest p) h x = paged_wrote (pages_at + (p * page_stride layout + 1)) p 1 x (record (page_words_at m.page_words p) { newest = x }) refl h (omega arith) refl
  flat_wrote (word.Oldest p) h x = paged_wrote (pages_at + (p * page_stride layout + 2)) p 2 x (record (page_words_at m.page_words p) { oldest = x }) refl h (omega arith) refl
  flat_wrote (word.Frame p i) h x = paged_wrote (pages_at + (p * page_stride layout + (3 + i))) p (3 + i) x (record (page_words_at m.page_words p) { frame = slice_set (page_words_at m.page_words p).frame i x }) refl h.0 (let z = h.1 in omega arith)
      (ap (λ (j : ℕ). slice_set (leaf_words (page_words_at m.page_words p)) j x) (let e : 3 + i ≡ suc (suc (suc i)) = omega arith in e))

  take_list : (i : ℕ) → i < 4 → cond (eqb (slice_index (flat m) (8 + i)) 0) (slice_set (flat m) (8 + i) 1) (flat m) ≡ flat (cond (eqb (slice_index m.lists i) 0) (record m { lists = slice_set m.lists i 1 }) m)
  take_list i h = ap (λ (n : ℕ). cond (eqb n 0) (slice_set (flat m) (8 + i) 1) (flat m)) (flat_read (word.List i) h) ∙ ap (λ (z : List ℕ). cond (eqb (slice_index m.lists i) 0) z (flat m)) (flat_wrote (word.List i) h 1) ∙ by (eqb (slice_index m.lists i) 0)
    where
      by : (t : Bool) → cond t (flat (record m { lists = slice_set m.lists i 1 })) (flat m) ≡ flat (cond t (record m { lists = slice_set m.lists i 1 }) m)
      by true = refl
      by false = refl

  pub flat_left : (o : Op) → OpWords layout o → words_left layout (flat m) o ≡ flat (shared_left m o)
  flat_left (op.Load w) h = refl
  flat_left (op.Store w x) h = flat_wrote w h x
  flat_left (op.Add w k) h = ap (λ (n : ℕ). slice_set (flat m) (index layout w) (n + k)) (flat_read w h) ∙ flat_wrote w h (read m w + k)
  flat_left op.TakeDevice h = by (eqb m.device 0)
    where
      by : (b : Bool) → cond b (slice_set (flat m) 7 1) (flat m) ≡ flat (cond b (record m { device = 1 }) m)
      by true = refl
      by false = refl
  flat_left op.GiveDevice h = refl
  flat_left (op.Swap w a b) h = ap (λ (n : ℕ). cond (eqb n a) (slice_set (flat m) (index layout w) b) (flat m)) (flat_read w h) ∙ ap (λ (z : List ℕ). cond (eqb (read m w) a) z (flat m)) (flat_wrote w h b) ∙ by (eqb (read m w) a)
    where
      by : (t : Bool) → cond t (flat (wrote m w b)) (flat m) ≡ flat (cond t (wrote m w b) m)
      by true = refl
      by false = refl
  flat_left (op.TakeAdd p x) h = take_list (p % 4) (omega arith)
  flat_left (op.TakeRemove p) h = take_list (p % 4) (omega arith)
  flat_left (op.TakeOldest i) h = take_list i h
  flat_left (op.GiveList i) h = flat_wrote (word.List i) h 0
  flat_left _ h = refl

  pub flat_answer : (ls : ℕ → List Listed) (broken : Bool) (code mark : ℕ) (o : Op) → OpWords layout o → ◌≡◌ {A = Answer} (answer_of layout ls broken code mark (flat m) o) (shared_answer ls broken code mark m o)
  flat_answer ls broken code mark (op.Load w) h = ap answer.Old (flat_read w h)
  flat_answer ls broken code mark (op.Store w x) h = ap answer.Old (flat_read w h)
  flat_answer ls broken code mark (op.Add w k) h = ap answer.Old (flat_read w h)
  flat_answer ls broken code mark (op.Swap w a b) h = ap answer.Old (flat_read w h)
  flat_answer ls broken code mark (op.TakeAdd p x) h = ap (λ (n : ℕ). list_answer n None) (flat_read (word.List (p % 4)) (omega arith))
  flat_answer ls broken code mark (op.TakeRemove p) h = ap (λ (n : ℕ). list_answer n None) (flat_read (word.List (p % 4)) (omega arith))
  flat_answer ls broken code mark (op.TakeOldest i) h = ap (λ (n : ℕ). list_answer n (oldest_end (ls i))) (flat_read (word.List i) h)
  flat_answer ls broken code mark _ h = refl
