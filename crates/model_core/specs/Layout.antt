-- Where each word stands in the list of words.
use Rattle.std.specs.Prelude.{Bool, List, [], ℕ, ◌*◌, ◌++◌, ◌+◌, ◌/◌, ◌∷◌}
use Rattle.model_core.specs.Lanes.{tail_word}
use Rattle.model_core.specs.declared.words.Layout.{Layout}
use Rattle.model_core.specs.declared.words.Word.{Word}
use Rattle.model_core.specs.declared.words.Word.TheVariants as word
use Rattle.model_core.specs.declared.limits.TheConstants.{BUFFER_BLOCKS, BUFFER_WORDS, WRITTEN_LINKS, CLOSED_LINKS, FLUSH_LISTS, READERS, WORD_LANES}

-- where each word stands of which there is one, and where each kind of word begins
abbrev pub sn_at : ℕ
sn_at = 0

abbrev pub write_at : ℕ
write_at = 1

abbrev pub wtail_at : ℕ
wtail_at = 2

abbrev pub flushed_at : ℕ
flushed_at = 3

abbrev pub ckpt_at : ℕ
ckpt_at = 4

abbrev pub failed_at : ℕ
failed_at = 6

abbrev pub device_at : ℕ
device_at = 7

abbrev pub lists_at : ℕ
lists_at = 8

abbrev pub written_links_at : ℕ
written_links_at = lists_at + FLUSH_LISTS

abbrev pub closed_links_at : ℕ
closed_links_at = written_links_at + WRITTEN_LINKS

abbrev pub cells_at : ℕ
cells_at = closed_links_at + CLOSED_LINKS

abbrev pub firsts_at : ℕ
firsts_at = cells_at + BUFFER_WORDS

abbrev pub places_at : ℕ
places_at = firsts_at + BUFFER_BLOCKS

abbrev pub pages_at : ℕ
pages_at = places_at + READERS

-- among a page's words, where its frame begins; how many words the frame of a page of so many bytes has, and how many a page
abbrev pub frame_at : ℕ
frame_at = 3

abbrev pub frame_words : ℕ → ℕ
frame_words page_size = page_size / WORD_LANES

abbrev pub page_stride : Layout → ℕ
page_stride layout = frame_at + frame_words layout.page_size

abbrev pub index : Layout → Word → ℕ
index layout word.Sn = sn_at
index layout word.Write = write_at
index layout word.Wtail = wtail_at
index layout word.Flushed = flushed_at
index layout word.Ckpt = ckpt_at
index layout word.Ctail = 5
index layout word.Failed = failed_at
index layout word.Device = device_at
index layout (word.List i) = lists_at + i
index layout (word.Wlink i) = written_links_at + i
index layout (word.Clink i) = closed_links_at + i
index layout (word.Cell i) = cells_at + i
index layout (word.First i) = firsts_at + i
index layout (word.Place i) = places_at + i
index layout (word.Latch p) = pages_at + p * page_stride layout
index layout (word.Newest p) = pages_at + (p * page_stride layout + 1)
index layout (word.Oldest p) = pages_at + (p * page_stride layout + 2)
index layout (word.Frame p i) = pages_at + (p * page_stride layout + (frame_at + i))

pub record PageWords : Type 0 where
  pub latch : ℕ
  pub newest : ℕ
  pub oldest : ℕ
  pub frame : List ℕ

abbrev pub flat_page_words : List PageWords → List ℕ
flat_page_words [] = []
flat_page_words (w ∷ ws) = w.latch ∷ w.newest ∷ w.oldest ∷ (w.frame ++ flat_page_words ws)

-- The words by name, the two tails each with whether it is held. A change of one leaves the others as they are by computation
-- alone.
pub record SharedWords : Type 0 where
  pub sn : ℕ
  pub write : ℕ
  pub wtail : ℕ
  pub wheld : Bool
  pub flushed : ℕ
  pub ckpt : ℕ
  pub ctail : ℕ
  pub cheld : Bool
  pub failed : ℕ
  pub device : ℕ
  pub lists : List ℕ
  pub wlinks : List ℕ
  pub clinks : List ℕ
  pub cells : List ℕ
  pub firsts : List ℕ
  pub places : List ℕ
  pub page_words : List PageWords

abbrev pub rows : SharedWords → List ℕ
rows m = m.lists ++ (m.wlinks ++ (m.clinks ++ (m.cells ++ (m.firsts ++ (m.places ++ flat_page_words m.page_words)))))

abbrev pub flat : SharedWords → List ℕ
flat m = m.sn ∷ m.write ∷ tail_word m.wtail m.wheld ∷ m.flushed ∷ m.ckpt ∷ tail_word m.ctail m.cheld ∷ m.failed ∷ m.device ∷ rows m
