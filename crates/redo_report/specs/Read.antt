-- What was read after a crash.
use Rattle.std.specs.Prelude.{ℕ, List, Option, Some, None}
use Rattle.std.specs.Borrow.{Bor}
use Rattle.model_page.specs.declared.content.Content.{Content}

-- the log's end and the pages, behind their reference
abbrev pub read_of : Option (ℕ × Bor (List Content)) → Option (ℕ × List Content)
read_of None = None
read_of (Some read) = Some (read.0, read.1.now)
