-- What holds of a page that is being read, and of what a read came to, between any two turns. Marks are lsns.
use Rattle.std.specs.Prelude.{List, length, slice_index, take, true, ℕ, ◌*◌, ◌<◌, ◌≡◌, ◌≤◌, ◌⊎◌}
use Rattle.std.specs.List.{AllByRecursion}
use Rattle.model_core.specs.{Entry, failed_at, index, layout_of, lsn, sn_at, frame_bytes, Setup}
use Rattle.model_core.specs.declared.limits.TheConstants.{WORD_LANES}
use Rattle.model_core.specs.declared.words.Word.TheVariants as word
use Rattle.model_page.specs.{user_part}
use Rattle.model_pagecore.specs.{applied_all, applied_upto}
use Rattle.model_pagecore.specs.Pages.{last_end}
use Rattle.model_reads.specs.declared.read.Glance.{Glance}
use Rattle.model_reads.specs.declared.read.PageRead.{PageRead}
use Rattle.model_reads.specs.declared.read.ReadEnd.{ReadEnd}
use Rattle.model_reads.specs.declared.read.ReadEnd.TheVariants.{Failed, Page}

-- NEWEST of a page in the list of words, and where the log ends
abbrev pub newest_in : Setup → List ℕ → ℕ → ℕ
newest_in c ws p = slice_index ws (index (layout_of c) (word.Newest p))

abbrev pub top_in : List ℕ → ℕ
top_in ws = lsn (slice_index ws sn_at)

-- these are the first words of a frame that holds these bytes
abbrev pub HasWords : List ℕ → List ℕ → Type 0
HasWords words bytes = frame_bytes words ≡ take (WORD_LANES * length words) bytes

module _ (c : Setup) (ws : List ℕ) (log : List Entry) where
  -- A PAGE THAT IS BEING READ. NEWEST never falls, so it is at least as it was loaded first. While the log has no group
  -- on the page behind that one, the words are those of the page with all its groups. And where the page was seen free
  -- behind them, they are those of the page as of `upto`, or NEWEST has risen since it was loaded.
  pub record GlanceFits (g : Glance) : Type 0 where
    pub there : g.page < c.pages
    pub newest : g.newest ≤ newest_in c ws g.page
    pub since : g.newest ≤ g.upto
    pub upto : g.upto ≤ top_in ws
    pub words : last_end g.page log 0 ≡ g.newest → HasWords g.words (applied_all g.page log (c.opened g.page).bytes)
    pub free : g.seen_free ≡ true
        → HasWords g.words (applied_upto g.page g.upto log (c.opened g.page).bytes)
        ⊎ (g.newest < newest_in c ws g.page)

  -- A PAGE THAT WAS READ: its user bytes are those that the groups leave which end at or below its lsn.
  pub record IsRead (r : PageRead) : Type 0 where
    pub there : r.page < c.pages
    pub upto : r.lsn ≤ top_in ws
    pub bytes : r.bytes ≡ user_part (take c.page_size (applied_upto r.page r.lsn log (c.opened r.page).bytes))

  -- A READ CAME TO THAT: to a page that was read, or to a code other than 0, and FAILED isn't 0.
  abbrev pub ReadEndFits : ReadEnd → Type 0
  ReadEndFits (Page r) = IsRead r
  ReadEndFits (Failed code) = (0 < code) × (0 < slice_index ws failed_at)

  abbrev pub AreRead : List ReadEnd → Type 0
  AreRead reads = AllByRecursion ReadEndFits reads
