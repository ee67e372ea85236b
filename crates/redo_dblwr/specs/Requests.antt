-- What the reads of the data device ask for.
use Rattle.std.specs.Prelude.{ℕ, ◌*◌}
use Rattle.model_base.specs.declared.shape.Shape.{Shape}
use Rattle.redo_disk.specs.{Request, ToRead}

-- one stretch of page size: the slots come first, and then the places
abbrev pub stretch_read : Shape → ℕ → Request
stretch_read shape n = ToRead (n * shape.page_size) shape.page_size

-- all slots, which lie side by side
abbrev pub slots_read : Shape → Request
slots_read shape = ToRead 0 (shape.slots * shape.page_size)
