-- The order of a flush list.
use Rattle.std.specs.Prelude.{ℕ, ◌≢◌, ◌<◌, ◌+◌, ◌==◌, List, [], ◌∷◌, Option, Some, None, All, AllPairs, find, option_map}
use Rattle.redo_flushlist.specs.declared.dirty.Dirty.{Dirty}
use Rattle.redo_flushlist.specs.declared.dirty.TheConstants.{FLUSH_ORDER_LAG}
use Rattle.redo_flushlist.specs.Order.{Listing}

-- the oldest lsn of a page, if it is listed
abbrev pub listed_oldest : List Dirty → ℕ → Option ℕ
listed_oldest entries page = option_map (λ dirty. dirty.oldest) (find (λ dirty. dirty.page == page) entries)

-- the oldest lsn of the page that entered first
abbrev pub first_oldest : List Dirty → Option ℕ
first_oldest [] = None
first_oldest (dirty ∷ later) = Some dirty.oldest

-- a page that entered after another has an oldest lsn that is at most so much lower
abbrev pub MayFollow : Dirty → Dirty → Type 0
MayFollow earlier later = earlier.oldest < later.oldest + FLUSH_ORDER_LAG

abbrev pub IsOtherPage : Dirty → Dirty → Type 0
IsOtherPage a b = a.page ≢ b.page

-- The order of a flush list: each page is one of the store's and is listed once, and the order is relaxed.
pub record IsInOrder (listing : Listing) : Type 0 where
  pub below : All (λ dirty. dirty.page < listing.pages) listing.entries
  pub once : AllPairs IsOtherPage listing.entries
  pub relaxed : AllPairs MayFollow listing.entries
