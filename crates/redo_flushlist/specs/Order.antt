-- What a flush list holds, and its order.
use Rattle.std.specs.Prelude.{ℕ, ◌==◌, not, List, filter}
use Rattle.redo_flushlist.specs.declared.dirty.Dirty.{Dirty}

-- a flush list: the pages that are listed, in order of entry, of a store with so many pages
pub record Listing : Type 0 where
  pub pages : ℕ
  pub entries : List Dirty

-- the pages but this one, in their order
abbrev pub without_page : ℕ → List Dirty → List Dirty
without_page page entries = filter (λ dirty. not (dirty.page == page)) entries
