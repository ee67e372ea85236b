-- The words of a store as a run begins on its pages, and what never changes in the run.
use Rattle.std.specs.Prelude.{Bool, List, Some, get_or, length, slice_get, slice_index, slice_set, ℕ, ◌%◌, ◌+◌, ◌-◌, ◌/◌, ◌<◌, ◌≡◌, ◌≤◌, false, if◌then◌else◌, drop, take, ◌*◌}
use Rattle.model_base.specs.declared.limits.TheConstants.{BLOCK_SIZE}
use Rattle.model_core.specs.{flat, IsSized, KeptPage, lsn, page_words_at, SharedWords, with_page_words, packed, Setup, StartPageWords, StartWords}
use Rattle.model_core.specs.declared.limits.TheConstants.{BUFFER_BLOCKS, WORD_LANES}
use Rattle.model_log.specs.{run_layout, sn_of}
use Rattle.model_log.specs.declared.layout.TheConstants.{BLOCK_HEADER}
use Rattle.model_page.specs.{blank_page}
use Rattle.model_page.specs.declared.content.Content.{Content}
use Rattle.model_base.specs.declared.shape.Shape.{Shape}
use Rattle.model_script.specs.declared.script.ScriptLine.{ScriptLine}
use Rattle.redo_drive.specs.Setups.{first_places, page_cells, first_reader, programs_of}
use Rattle.redo_drive.specs.declared.plan.Plan.{Plan}
use Rattle.redo_drive.specs.declared.seating.TheConstants.{FIRST_FOLLOWER}
use Rattle.redo_words.specs.Plain.{Plain}

-- one of the words into which a page's cells are packed
unfoldable pub cells_word : List ℕ → ℕ → ℕ
cells_word user q = packed 0 (take WORD_LANES (drop (WORD_LANES * q) (page_cells user)))

-- a page as the running store keeps it
abbrev pub kept_page_of : Content → KeptPage
kept_page_of page = record { lsn = page.lsn; bytes = page_cells page.user }

-- each page as a run finds it; a number that no page has counts as a page that was never written
abbrev pub opened_page : Shape → List Content → ℕ → KeptPage
opened_page shape pages p = kept_page_of (get_or pages p (blank_page shape))

-- each cell of the opened pages holds a byte
abbrev pub HoldBytes : Shape → List Content → Type 0
HoldBytes shape pages = (p i : ℕ) → slice_index (opened_page shape pages p).bytes i < 256

-- the run starts at this lsn on a store of this shape with these pages, none of which has a group past the start
pub record StartsOn (start : ℕ) (shape : Shape) (pages : List Content) (c : Setup) : Type 0 where
  pub begins : lsn c.base ≡ start
  pub count : c.pages ≡ length pages
  pub page_size : c.page_size ≡ shape.page_size
  pub opened : (p : ℕ) → p < length pages → c.opened p ≡ opened_page shape pages p
  pub early : (p : ℕ) (page : Content) → slice_get pages p ≡ Some page → page.lsn ≤ start

-- these are the words by name, all of them and in their order
pub record AreNamed (words : Plain) (m : SharedWords) : Type 0 where
  pub sized : IsSized words.layout m
  pub in_order : words.words ≡ flat m

-- the words in their order are those of a store as the run begins
pub record AreStartWords (words : List ℕ) (c : Setup) : Type 0 where
  pub by_name : SharedWords
  pub in_order : words ≡ flat by_name
  pub of_log : StartWords c by_name
  pub of_pages : StartPageWords c by_name

-- the words once those of the log are what a run has that starts at this lsn
abbrev pub with_log : ℕ → SharedWords → SharedWords
with_log start m = record m {
  sn = sn_of start;
  write = start;
  wtail = start;
  wheld = false;
  flushed = start;
  ckpt = start - BLOCK_HEADER;
  ctail = start;
  cheld = false;
  firsts = slice_set m.firsts (start / BLOCK_SIZE % BUFFER_BLOCKS) BLOCK_HEADER;
  places = first_places start;
}

-- the words once a page's frame has these
abbrev pub with_frame : ℕ → List ℕ → SharedWords → SharedWords
with_frame page frame m = with_page_words m page (record (page_words_at m.page_words page) { frame = frame })

-- each word of a page's frame is 0
abbrev pub IsBlankFrame : ℕ → SharedWords → Type 0
IsBlankFrame page m = (i : ℕ) → slice_index (page_words_at m.page_words page).frame i ≡ 0

-- how many actors have their seats before the readers of the log: the writer, the flusher, and those of the pages, behind so
-- many users
abbrev pub seats_before : (users : ℕ) → (log_only : Bool) → ℕ
seats_before users log_only = users + (if log_only then 2 else 5)

-- The run of a script on these pages of a store, with so many users and by this plan, which starts at this lsn. The closer, the
-- cleaner and the checkpointer have their seats after the users, the writer and the flusher, and the readers of the log theirs
-- at the end.
abbrev pub setup_of : Shape → List Content → (start : ℕ) → List ScriptLine → (users : ℕ) → Plan → Setup
setup_of shape pages start script users plan = record {
  base = sn_of start;
  blocks = (run_layout shape).blocks;
  pages = shape.pages;
  page_size = shape.page_size;
  slots = shape.slots;
  log_only = plan.log_only;
  script = programs_of shape plan.log_only script;
  opened = opened_page shape pages;
  closer = users + 2;
  cleaner = users + 3;
  checkpointer = users + 4;
  first_reader = first_reader plan.archive;
  last_reader = FIRST_FOLLOWER + plan.followers;
  reader_at = λ number. seats_before users plan.log_only + (number - first_reader plan.archive);
}
