-- Which words a store has, how many of each kind, and one of them read and written by name.
use Rattle.std.specs.Prelude.{List, [], get_or, length, ℕ, ◌<◌, ◌≡◌, slice_index, slice_set, ◌*◌, ◌+◌}
use Rattle.model_core.specs.declared.limits.TheConstants.{BUFFER_BLOCKS, BUFFER_WORDS, WRITTEN_LINKS, CLOSED_LINKS, FLUSH_LISTS, READERS}
use Rattle.model_core.specs.declared.words.Layout.{Layout}
use Rattle.model_core.specs.Layout.{frame_words, PageWords, SharedWords, page_stride, pages_at}
use Rattle.model_core.specs.Lanes.{is_held, tail_of, tail_word}
use Rattle.model_core.specs.declared.words.Word.{Word}
use Rattle.model_core.specs.declared.words.Word.TheVariants as word

abbrev pub blank_words : PageWords
blank_words = record { latch = 0; newest = 0; oldest = 0; frame = [] }

abbrev pub page_words_at : List PageWords → ℕ → PageWords
page_words_at ls p = get_or ls p blank_words

pub record IsSized (layout : Layout) (m : SharedWords) : Type 0 where
  pub lists : length m.lists ≡ FLUSH_LISTS
  pub wlinks : length m.wlinks ≡ WRITTEN_LINKS
  pub clinks : length m.clinks ≡ CLOSED_LINKS
  pub cells : length m.cells ≡ BUFFER_WORDS
  pub firsts : length m.firsts ≡ BUFFER_BLOCKS
  pub places : length m.places ≡ READERS
  pub page_words : length m.page_words ≡ layout.pages
  pub frames : (p : ℕ) → p < layout.pages → length (page_words_at m.page_words p).frame ≡ frame_words layout.page_size

-- how many words a store has
abbrev pub word_count : Layout → ℕ
word_count layout = pages_at + layout.pages * page_stride layout

-- the word is one of the store's
abbrev pub IsWord : Layout → Word → Type 0
IsWord layout (word.List i) = i < FLUSH_LISTS
IsWord layout (word.Wlink i) = i < WRITTEN_LINKS
IsWord layout (word.Clink i) = i < CLOSED_LINKS
IsWord layout (word.Cell i) = i < BUFFER_WORDS
IsWord layout (word.First i) = i < BUFFER_BLOCKS
IsWord layout (word.Place i) = i < READERS
IsWord layout (word.Latch p) = p < layout.pages
IsWord layout (word.Newest p) = p < layout.pages
IsWord layout (word.Oldest p) = p < layout.pages
IsWord layout (word.Frame p i) = (p < layout.pages) × (i < frame_words layout.page_size)
IsWord layout _ = Unit {0}

abbrev pub read : SharedWords → Word → ℕ
read m word.Sn = m.sn
read m word.Write = m.write
read m word.Wtail = tail_word m.wtail m.wheld
read m word.Flushed = m.flushed
read m word.Ckpt = m.ckpt
read m word.Ctail = tail_word m.ctail m.cheld
read m word.Failed = m.failed
read m word.Device = m.device
read m (word.List i) = slice_index m.lists i
read m (word.Wlink i) = slice_index m.wlinks i
read m (word.Clink i) = slice_index m.clinks i
read m (word.Cell i) = slice_index m.cells i
read m (word.First i) = slice_index m.firsts i
read m (word.Place i) = slice_index m.places i
read m (word.Latch p) = (page_words_at m.page_words p).latch
read m (word.Newest p) = (page_words_at m.page_words p).newest
read m (word.Oldest p) = (page_words_at m.page_words p).oldest
read m (word.Frame p i) = slice_index (page_words_at m.page_words p).frame i

abbrev pub with_page_words : SharedWords → ℕ → PageWords → SharedWords
with_page_words m p w = record m { page_words = slice_set m.page_words p w }

abbrev pub wrote : SharedWords → Word → ℕ → SharedWords
wrote m word.Sn x = record m { sn = x }
wrote m word.Write x = record m { write = x }
wrote m word.Wtail x = record m { wtail = tail_of x; wheld = is_held x }
wrote m word.Flushed x = record m { flushed = x }
wrote m word.Ckpt x = record m { ckpt = x }
wrote m word.Ctail x = record m { ctail = tail_of x; cheld = is_held x }
wrote m word.Failed x = record m { failed = x }
wrote m word.Device x = record m { device = x }
wrote m (word.List i) x = record m { lists = slice_set m.lists i x }
wrote m (word.Wlink i) x = record m { wlinks = slice_set m.wlinks i x }
wrote m (word.Clink i) x = record m { clinks = slice_set m.clinks i x }
wrote m (word.Cell i) x = record m { cells = slice_set m.cells i x }
wrote m (word.First i) x = record m { firsts = slice_set m.firsts i x }
wrote m (word.Place i) x = record m { places = slice_set m.places i x }
wrote m (word.Latch p) x = with_page_words m p (record (page_words_at m.page_words p) { latch = x })
wrote m (word.Newest p) x = with_page_words m p (record (page_words_at m.page_words p) { newest = x })
wrote m (word.Oldest p) x = with_page_words m p (record (page_words_at m.page_words p) { oldest = x })
wrote m (word.Frame p i) x = with_page_words m p (record (page_words_at m.page_words p) { frame = slice_set (page_words_at m.page_words p).frame i x })
