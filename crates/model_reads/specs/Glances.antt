-- How a page is read, load by load: NEWEST, each word of its frame in turn, SN, its latch, and NEWEST again.
use Rattle.std.specs.Prelude.{[], false, true, ℕ, ◌++◌, ◌∷◌}
use Rattle.model_core.specs.{lsn, frame_bytes}
use Rattle.model_page.specs.{user_part}
use Rattle.model_reads.specs.declared.read.Glance.{Glance}
use Rattle.model_reads.specs.declared.read.PageRead.{PageRead}

-- page p, whose NEWEST is this
abbrev pub begun : (p n : ℕ) → Glance
begun p n = record { page = p; newest = n; words = []; upto = n; seen_free = false }

-- the next word of its frame is this
abbrev pub added : Glance → ℕ → Glance
added g n = record { page = g.page; newest = g.newest; words = g.words ++ n ∷ []; upto = g.upto; seen_free = false }

-- SN is this: the page is read as of there
abbrev pub dated : Glance → ℕ → Glance
dated g n = record { page = g.page; newest = g.newest; words = g.words; upto = lsn n; seen_free = false }

-- its latch is free
abbrev pub freed : Glance → Glance
freed g = record { page = g.page; newest = g.newest; words = g.words; upto = g.upto; seen_free = true }

-- what was read, once NEWEST is found as it was
abbrev pub read_of : Glance → PageRead
read_of g = record { page = g.page; lsn = g.upto; bytes = user_part (frame_bytes g.words) }
