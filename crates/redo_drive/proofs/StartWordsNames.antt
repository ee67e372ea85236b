-- The words by name while their first numbers are written.
use Rattle.std.proofs.Common.{List, ap, arith, length, refl, subst, sym, ℕ, ◌<◌, ◌∙◌, ◌≡◌, ⊎_elim}
use Rattle.std.specs.Prelude.{slice_set}
use Rattle.std.proofs.lemmas.Bool.{cases_eq}
use Rattle.std.proofs.lemmas.List.{get_or-set_other, get_or-set_same, length-set}
use Rattle.model_core.specs.{blank_words, frame_words, index, IsSized, IsWord, page_words_at, PageWords, SharedWords, with_page_words, wrote}
use Rattle.model_core.specs.declared.words.Layout.{Layout}
use Rattle.model_core.specs.declared.words.Word.{Word}
use Rattle.model_core.specs.declared.words.Word.TheVariants as word
use Rattle.model_running.proofs.FlatWords.{flat_wrote}
use Rattle.redo_drive.specs.StartWords.{AreNamed}
use Rattle.redo_words.specs.Plain.{Plain}

module _ (layout : Layout) (m : SharedWords) (s : IsSized layout m) where
  -- other words of a page, whose frame is as long
  pub page_sized : (p : ℕ) (w : PageWords) → p < layout.pages → length w.frame ≡ frame_words layout.page_size → IsSized layout (with_page_words m p w)
  page_sized p w there long = record {
    lists = s.lists;
    wlinks = s.wlinks;
    clinks = s.clinks;
    cells = s.cells;
    firsts = s.firsts;
    places = s.places;
    page_words = length-set m.page_words p w ∙ s.page_words;
    frames = λ q below. ⊎_elim
        (λ e. ap (λ (k : ℕ). length (page_words_at (slice_set m.page_words p w) k).frame) e ∙ ap (λ (v : PageWords). length v.frame) (get_or-set_same m.page_words p w blank_words (omega (arith, s.page_words))) ∙ long)
        (λ other. ap (λ (v : PageWords). length v.frame) (get_or-set_other m.page_words p q w blank_words other) ∙ s.frames q below)
        (cases_eq q p);
  }

  -- words of which each row is as long, and whose pages are the same
  rows_sized : (n : SharedWords) → length n.lists ≡ length m.lists → length n.wlinks ≡ length m.wlinks
      → length n.clinks ≡ length m.clinks → length n.cells ≡ length m.cells → length n.firsts ≡ length m.firsts
      → length n.places ≡ length m.places → n.page_words ≡ m.page_words → IsSized layout n
  rows_sized n lists wlinks clinks cells firsts places page_words = record {
    lists = lists ∙ s.lists;
    wlinks = wlinks ∙ s.wlinks;
    clinks = clinks ∙ s.clinks;
    cells = cells ∙ s.cells;
    firsts = firsts ∙ s.firsts;
    places = places ∙ s.places;
    page_words = ap length page_words ∙ s.page_words;
    frames = λ p below. ap (λ (ws : List PageWords). length (page_words_at ws p).frame) page_words ∙ s.frames p below;
  }

  -- a word that is written leaves how many there are of each kind
  pub wrote_sized : (w : Word) → IsWord layout w → (x : ℕ) → IsSized layout (wrote m w x)
  wrote_sized word.Sn h x = rows_sized (wrote m word.Sn x) refl refl refl refl refl refl refl
  wrote_sized word.Write h x = rows_sized (wrote m word.Write x) refl refl refl refl refl refl refl
  wrote_sized word.Wtail h x = rows_sized (wrote m word.Wtail x) refl refl refl refl refl refl refl
  wrote_sized word.Flushed h x = rows_sized (wrote m word.Flushed x) refl refl refl refl refl refl refl
  wrote_sized word.Ckpt h x = rows_sized (wrote m word.Ckpt x) refl refl refl refl refl refl refl
  wrote_sized word.Ctail h x = rows_sized (wrote m word.Ctail x) refl refl refl refl refl refl refl
  wrote_sized word.Failed h x = rows_sized (wrote m word.Failed x) refl refl refl refl refl refl refl
  wrote_sized word.Device h x = rows_sized (wrote m word.Device x) refl refl refl refl refl refl refl
  wrote_sized (word.List i) h x =
      rows_sized (wrote m (word.List i) x) (length-set m.lists i x) refl refl refl refl refl refl
  wrote_sized (word.Wlink i) h x =
      rows_sized (wrote m (word.Wlink i) x) refl (length-set m.wlinks i x) refl refl refl refl refl
  wrote_sized (word.Clink i) h x =
      rows_sized (wrote m (word.Clink i) x) refl refl (length-set m.clinks i x) refl refl refl refl
  wrote_sized (word.Cell i) h x =
      rows_sized (wrote m (word.Cell i) x) refl refl refl (length-set m.cells i x) refl refl refl
  wrote_sized (word.First i) h x =
      rows_sized (wrote m (word.First i) x) refl refl refl refl (length-set m.firsts i x) refl refl
  wrote_sized (word.Place i) h x =
      rows_sized (wrote m (word.Place i) x) refl refl refl refl refl (length-set m.places i x) refl
  wrote_sized (word.Latch p) h x = page_sized p (record (page_words_at m.page_words p) { latch = x }) h (s.frames p h)
  wrote_sized (word.Newest p) h x = page_sized p (record (page_words_at m.page_words p) { newest = x }) h (s.frames p h)
  wrote_sized (word.Oldest p) h x = page_sized p (record (page_words_at m.page_words p) { oldest = x }) h (s.frames p h)
  wrote_sized (word.Frame p i) h x = page_sized p (record (page_words_at m.page_words p) { frame = slice_set (page_words_at m.page_words p).frame i x }) h.0 (length-set (page_words_at m.page_words p).frame i x ∙ s.frames p h.0)

-- the words stay named where one is written
pub named_wrote : (old new : Plain) (m : SharedWords) (w : Word) (x : ℕ) → AreNamed old m → IsWord old.layout w
    → new.layout ≡ old.layout → new.words ≡ slice_set old.words (index old.layout w) x → AreNamed new (wrote m w x)
named_wrote old new m w x named there layout words = record {
  sized = subst (λ (l : Layout). IsSized l (wrote m w x)) (sym layout) (wrote_sized old.layout m named.sized w there x);
  in_order = words ∙ ap (λ (ws : List ℕ). slice_set ws (index old.layout w) x) named.in_order
      ∙ flat_wrote old.layout m named.sized w there x;
}
