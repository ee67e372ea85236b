-- One page in the history, and what its words are at a moment. Here marks are lsns.
use Rattle.std.specs.Prelude.{Bool, List, [], cond, false, nat_le, slice_set, take, true, ℕ, ◌<◌, ◌==◌, ◌∷◌, ◌≡◌, ◌≤◌, ◌⊎◌}
use lib.ListN.{get_elem?}
use mathlib.Core.Option.{some}
use Rattle.model_core.specs.{CellWrite, end_of, Entry, framed_page, KeptPage, lsn, PageChange, PageWords, Setup}

-- where a group starts and ends
abbrev pub start_lsn : Entry → ℕ
start_lsn e = lsn e.start

abbrev pub end_lsn : Entry → ℕ
end_lsn e = lsn (end_of e)

abbrev pub is_changed_page : ℕ → List PageChange → Bool
is_changed_page p [] = false
is_changed_page p (c ∷ cs) = cond (c.page == p) true (is_changed_page p cs)

abbrev pub cells_on : ℕ → List PageChange → List CellWrite
cells_on p [] = []
cells_on p (c ∷ cs) = cond (c.page == p) c.cells (cells_on p cs)

-- a group applied to a page: its cells stored in turn
abbrev pub write_cells : List CellWrite → List ℕ → List ℕ
write_cells [] b = b
write_cells (x ∷ xs) b = write_cells xs (slice_set b x.at x.value)

-- page p, of bytes b when the run began, with all groups, and with those that end at or below q
abbrev pub applied_all : ℕ → List Entry → List ℕ → List ℕ
applied_all p [] b = b
applied_all p (e ∷ es) b = applied_all p es (write_cells (cells_on p e.changes) b)

abbrev pub applied_upto : ℕ → ℕ → List Entry → List ℕ → List ℕ
applied_upto p q [] b = b
applied_upto p q (e ∷ es) b = applied_upto p q es (cond (nat_le (end_lsn e) q) (write_cells (cells_on p e.changes) b) b)

-- the end of the last group on p, else n
abbrev pub last_end : ℕ → List Entry → ℕ → ℕ
last_end p [] n = n
last_end p (e ∷ es) n = last_end p es (cond (is_changed_page p e.changes) (end_lsn e) n)

abbrev pub StartsAt : ℕ → List Entry → ℕ → Type 0
StartsAt p log a = (i : ℕ) × (e : Entry) × (get_elem? log i ≡ some e) × (is_changed_page p e.changes ≡ true) × (start_lsn e ≡ a)

abbrev pub EndsAt : ℕ → List Entry → ℕ → Type 0
EndsAt p log q = (i : ℕ) × (e : Entry) × (get_elem? log i ≡ some e) × (is_changed_page p e.changes ≡ true) × (end_lsn e ≡ q)

-- a page that is kept with the lsn q lacks nothing that starts below x
abbrev pub Passed : ℕ → List Entry → ℕ → ℕ → Type 0
Passed p log q x = (i : ℕ) (e : Entry) → get_elem? log i ≡ some e → is_changed_page p e.changes ≡ true → start_lsn e < x → end_lsn e ≤ q

-- the groups follow each other from an lsn to another
pub record Laid (from top : ℕ) (log : List Entry) : Type 0 where
  pub wide : (i : ℕ) (e : Entry) → get_elem? log i ≡ some e → start_lsn e < end_lsn e
  pub over : (i : ℕ) (e : Entry) → get_elem? log i ≡ some e → from ≤ start_lsn e
  pub under : (i : ℕ) (e : Entry) → get_elem? log i ≡ some e → end_lsn e ≤ top
  pub apart : (i j : ℕ) (e f : Entry) → get_elem? log i ≡ some e → get_elem? log j ≡ some f → i < j → end_lsn e ≤ start_lsn f
  pub early : from ≤ top

-- stages of a page: its frame's bytes have all groups, or all before the one in hand and so many cells of that
pub data FrameStage : Type 0 where
  All : FrameStage
  Cells : ℕ → FrameStage

-- NEWEST is the last one's end, or that of the last before the one in hand
pub data NewestStage : Type 0 where
  Last : NewestStage
  Before : NewestStage

-- OLDEST and what stands in the list: the same; the same and below the group in hand; nothing; listed alone; both; OLDEST alone
pub data ListingStage : Type 0 where
  Agree : ListingStage
  AgreeBelow : ListingStage
  Unlisted : ListingStage
  InListOnly : ListingStage
  IsListed : ListingStage
  InWordOnly : ListingStage

-- what is in hand: its place in the history, its start, its changes
pub record GroupInHand : Type 0 where
  pub at : ℕ
  pub from : ℕ
  pub changes : List PageChange

abbrev pub none_in_hand : GroupInHand
none_in_hand = record { at = 0; from = 0; changes = [] }

abbrev pub FrameIs : ℕ → List ℕ → List Entry → GroupInHand → List ℕ → FrameStage → Type 0
FrameIs p b log k f All = f ≡ applied_all p log b
FrameIs p b log k f (Cells j) = f ≡ write_cells (take j (cells_on p k.changes)) (applied_all p (take k.at log) b)

abbrev pub NewestIs : ℕ → List Entry → GroupInHand → ℕ → NewestStage → Type 0
NewestIs p log k n Last = n ≡ last_end p log 0
NewestIs p log k n Before = n ≡ last_end p (take k.at log) 0

abbrev pub ListingIs : GroupInHand → ℕ → ℕ → ListingStage → Type 0
ListingIs k o l Agree = o ≡ l
ListingIs k o l AgreeBelow = (o ≡ l) × (l < k.from)
ListingIs k o l Unlisted = (o ≡ 0) × (l ≡ 0)
ListingIs k o l InListOnly = (o ≡ 0) × (l ≡ k.from)
ListingIs k o l IsListed = (o ≡ l) × (0 < l) × (l ≤ k.from)
ListingIs k o l InWordOnly = (0 < o) × (l ≡ 0)

pub record PageIs (c : Setup) (p : ℕ) (log : List Entry) (k : GroupInHand) (w : PageWords) (l : ℕ) (f : FrameStage) (n : NewestStage) (t : ListingStage) : Type 0 where
  pub frame : FrameIs p (c.opened p).bytes log k (framed_page c.page_size w.frame) f
  pub newest : NewestIs p log k w.newest n
  pub listing : ListingIs k w.oldest l t

-- what holds of each page: `l` is what stands in its list, `k` what a store read now would keep
pub record OnePage (c : Setup) (p : ℕ) (log : List Entry) (closed : ℕ → Bool) (given stable : ℕ) (w : PageWords) (l : ℕ) (k : KeptPage) : Type 0 where
  pub latch : w.latch ≤ 1
  pub free : w.latch ≡ 0 → PageIs c p log none_in_hand w l All Last Agree
  pub oldest : 0 < w.oldest → StartsAt p log w.oldest
  pub fold : k.bytes ≡ applied_upto p k.lsn log (c.opened p).bytes
  pub ends : (k.lsn ≡ (c.opened p).lsn) ⊎ EndsAt p log k.lsn
  pub early : (c.opened p).lsn ≤ lsn c.base
  pub behind : k.lsn ≤ stable
  pub change : (i : ℕ) (e : Entry) → get_elem? log i ≡ some e → is_changed_page p e.changes ≡ true → closed e.start ≡ true → ((0 < l) × (l ≤ start_lsn e)) ⊎ (end_lsn e ≤ k.lsn)
  pub passed : Passed p log k.lsn given
