-- What never changes in a run, and the words of a store as it begins.
use Rattle.std.specs.Prelude.{Bool, List, [], false, get_or, length, true, ℕ, ◌<◌, ◌≡◌, ◌≢◌, ◌≤◌, cond, slice_index, ◌%◌, ◌+◌, ◌-◌, ◌/◌, ◌==◌}
use Rattle.model_base.specs.{IsPageSize}
use Rattle.model_core.specs.States.{KeptPage, PageChange, Line}
use Rattle.model_core.specs.UserProgram.{change_at, line_at}
use Rattle.model_core.specs.ReaderProgram.{IsText}
use Rattle.model_core.specs.declared.words.Layout.{Layout}
use Rattle.model_core.specs.declared.limits.TheConstants.{READERS, BUFFER_BLOCKS}
use Rattle.model_core.specs.Packing.{framed_page}
use Rattle.model_core.specs.Layout.{PageWords, SharedWords}
use Rattle.model_core.specs.NamedWords.{IsSized, page_words_at}
use Rattle.model_core.specs.Lanes.{lsn}
use Rattle.model_log.specs.declared.layout.TheConstants.{BLOCK_DATA, BLOCK_HEADER}

-- the sn of the run's start, the blocks of the log's ring, the pages and their size, how many of
-- them the cleaner writes at once at most, whether the log runs alone, and the lines of each user
pub record Setup : Type 0 where
  pub base : ℕ
  pub blocks : ℕ
  pub pages : ℕ
  pub page_size : ℕ
  pub slots : ℕ
  pub log_only : Bool
  pub script : ℕ → List Line
  -- each page as the run found it
  pub opened : ℕ → KeptPage
  -- the seats of the three actors of the pages
  pub closer : ℕ
  pub cleaner : ℕ
  pub checkpointer : ℕ
  -- the readers of the log have the numbers from `first_reader` to below `last_reader`, and these seats
  pub first_reader : ℕ
  pub last_reader : ℕ
  pub reader_at : ℕ → ℕ

-- which words there are
abbrev pub layout_of : Setup → Layout
layout_of c = record { pages = c.pages; page_size = c.page_size }

-- Which pages the lines name: with the log alone none; else each line names pages of the store, at least one.
pub record IsScripted (c : Setup) : Type 0 where
  pub alone : c.log_only ≡ true → (user j : ℕ) → ◌≡◌ {A = List PageChange} (line_at (c.script user) j).changes []
  pub some_page : c.log_only ≡ false → (user j : ℕ) → j < length (c.script user) → 0 < length (line_at (c.script user) j).changes
  pub there : (user j k : ℕ) → k < length (line_at (c.script user) j).changes → (change_at (line_at (c.script user) j).changes k).page < c.pages
  pub page_size : IsPageSize c.page_size
  -- the cleaner writes at least one at once
  pub slots : 1 ≤ c.slots
  -- each page once, and bytes of it
  pub apart : (user j i k : ℕ) → i < k → k < length (line_at (c.script user) j).changes → (change_at (line_at (c.script user) j).changes i).page ≢ (change_at (line_at (c.script user) j).changes k).page
  pub within : (user j k i : ℕ) → k < length (line_at (c.script user) j).changes → (get_or (change_at (line_at (c.script user) j).changes k).cells i (record { at = 0; value = 0 })).at < c.page_size
  -- ascending
  pub ascending : (user j k a b : ℕ) → a < b → b < length (change_at (line_at (c.script user) j).changes k).cells → (get_or (change_at (line_at (c.script user) j).changes k).cells a (record { at = 0; value = 0 })).at < (get_or (change_at (line_at (c.script user) j).changes k).cells b (record { at = 0; value = 0 })).at
  -- each value is a byte
  pub are_bytes : (user j k i : ℕ) → (get_or (change_at (line_at (c.script user) j).changes k).cells i (record { at = 0; value = 0 })).value < 256
  -- each line is the text of a group
  pub texts : (user j : ℕ) → j < length (c.script user) → IsText (line_at (c.script user) j).bytes
  -- the readers' numbers don't end before they begin
  pub readers : c.first_reader ≤ c.last_reader
  -- each of those numbers has a word
  pub few_readers : c.last_reader ≤ READERS

-- the newest checkpoint stands a block's header below the run's start
abbrev pub start_checkpoint : Setup → ℕ
start_checkpoint c = lsn c.base - BLOCK_HEADER

-- the words of the log: nothing is written, linked or held
pub record StartWords (c : Setup) (m : SharedWords) : Type 0 where
  pub sized : IsSized (layout_of c) m
  pub even : c.base % BLOCK_DATA ≡ 0
  pub sn : m.sn ≡ c.base
  pub write : m.write ≡ lsn c.base
  pub wtail : m.wtail ≡ lsn c.base
  pub wheld : m.wheld ≡ false
  pub flushed : m.flushed ≡ lsn c.base
  pub ckpt : m.ckpt ≡ start_checkpoint c
  pub failed : m.failed ≡ 0
  pub device : m.device ≡ 0
  pub lists : (i : ℕ) → slice_index m.lists i ≡ 0
  pub wlinks : (i : ℕ) → slice_index m.wlinks i ≡ 0
  pub cells : (i : ℕ) → slice_index m.cells i ≡ 0
  pub places : (i : ℕ) → i < READERS → slice_index m.places i ≡ cond (i == 0) (start_checkpoint c) (lsn c.base)
  pub firsts : (q : ℕ) → c.base / BLOCK_DATA ≤ q → q < c.base / BLOCK_DATA + BUFFER_BLOCKS → slice_index m.firsts (q % BUFFER_BLOCKS) ≡ cond (q == c.base / BLOCK_DATA) BLOCK_HEADER 0

-- the words of the pages: each page is free, unlisted, and as it was opened
pub record StartPageWords (c : Setup) (m : SharedWords) : Type 0 where
  pub page_words : (p : ℕ) → p < c.pages → ◌≡◌ {A = PageWords} (page_words_at m.page_words p) (record { latch = 0; newest = 0; oldest = 0; frame = (page_words_at m.page_words p).frame })
  pub frames : (p : ℕ) → p < c.pages → framed_page c.page_size (page_words_at m.page_words p).frame ≡ (c.opened p).bytes
  pub early : (p : ℕ) → p < c.pages → (c.opened p).lsn ≤ lsn c.base
  pub ctail : m.ctail ≡ lsn c.base
  pub cheld : m.cheld ≡ false
  pub clinks : (i : ℕ) → slice_index m.clinks i ≡ 0
