-- What the fields of a book stand for.
use Rattle.std.specs.Prelude.{false, length, true, vec_capacity, ◌++◌, ◌+◌, ◌<◌, ◌≡◌, ◌≤◌}
use Rattle.redo_useractor.specs.Books.{BookState}
use Rattle.redo_useractor.specs.declared.book.Book.TheInside.{Inside}

-- what is forgotten stands before what is kept
abbrev pub book_view : Inside → BookState
book_view b = record {
  keeps = b.keeps;
  lines = b.past_lines.items ++ b.lines.items;
  starts = b.past_starts.items ++ b.starts.items;
  k = length b.past_lines.items + b.k;
}

pub record IsBook (b : Inside) : Type 0 where
  pub room : length b.lines.items ≤ vec_capacity b.starts
  -- the group of each line that is forgotten has started, and unless none is the last line is kept
  pub started : length b.past_starts.items ≡ length b.past_lines.items
  pub all : b.keeps ≡ true → length b.past_lines.items ≡ 0
  pub last : 0 < length b.past_lines.items → 0 < length b.lines.items
  -- and that alone is held, however many were done: only `lines` and `starts` have bytes
  pub one : b.keeps ≡ false → (length b.lines.items ≤ 1) × (length b.starts.items ≤ 1)
