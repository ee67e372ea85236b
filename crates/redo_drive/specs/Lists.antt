-- The flush lists of a store.
use Rattle.std.specs.Prelude.{List, [], get_or, length, map, slice_set, ℕ, ◌%◌, ◌++◌, ◌<◌, ◌∷◌, ◌≡◌}
use Rattle.model_core.specs.{Listed}
use Rattle.model_core.specs.declared.limits.TheConstants.{FLUSH_LISTS}
use Rattle.redo_flushlist.specs.{Listing, without_page}
use Rattle.redo_flushlist.specs.declared.dirty.Dirty.{Dirty}

-- the lists of a store with so many pages
pub record Listings : Type 0 where
  pub pages : ℕ
  pub lists : List Listing

abbrev pub no_list : Listing
no_list = record { pages = 0; entries = [] }

abbrev pub listing_at : List Listing → ℕ → Listing
listing_at lists i = get_or lists i no_list

-- a page of a list, and the pages of each list, as the definition of a turn has them
abbrev pub listed_of : Dirty → Listed
listed_of dirty = record { page = dirty.page; oldest = dirty.oldest }

abbrev pub lists_of : Listings → ℕ → List Listed
lists_of listings i = map listed_of (listing_at listings.lists i).entries

-- there are as many lists as there are to be, each of the store's pages
pub record AreLists (listings : Listings) : Type 0 where
  pub count : length listings.lists ≡ FLUSH_LISTS
  pub its_pages : (i : ℕ) → i < FLUSH_LISTS → (listing_at listings.lists i).pages ≡ listings.pages

abbrev pub empty_list : ℕ → Listing
empty_list pages = record { pages = pages; entries = [] }

abbrev pub empty_lists : ℕ → Listings
empty_lists pages = record { pages = pages; lists = empty_list pages ∷ empty_list pages ∷ empty_list pages ∷ empty_list pages ∷ [] }

-- the lists where a page has entered its own, and where it has left it
abbrev pub with_list : Listings → ℕ → List Dirty → Listings
with_list listings i entries = record {
  pages = listings.pages;
  lists = slice_set listings.lists i (record { pages = (listing_at listings.lists i).pages; entries = entries });
}

abbrev pub added : Listings → ℕ → ℕ → Listings
added listings page oldest =
    with_list listings (page % FLUSH_LISTS) ((listing_at listings.lists (page % FLUSH_LISTS)).entries ++ (record { page = page; oldest = oldest }) ∷ [])

abbrev pub removed : Listings → ℕ → Listings
removed listings page = with_list listings (page % FLUSH_LISTS) (without_page page (listing_at listings.lists (page % FLUSH_LISTS)).entries)
