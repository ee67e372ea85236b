-- Which block is taken at an lsn, and where it stands: in its place, or in one of the two tail blocks.
use Rattle.std.specs.Prelude.{ℕ, ◌≡◌, ◌≢◌, ◌+◌, nat_lt, if◌then◌else◌, List, Option, Some, None}
use Rattle.model_base.specs.declared.limits.TheConstants.{BLOCK_SIZE, LSN_LIMIT}
use Rattle.model_log.specs.{read_block, sector_at}
use Rattle.model_log.specs.declared.block.BlockView.{BlockView}
use Rattle.model_log.specs.declared.head.Format.{Format}
use Rattle.model_log.specs.declared.head.Format.TheVariants.{One, Two, Three}
use Rattle.model_log.specs.declared.layout.TheConstants.{HEADER_BLOCKS, HEADER_BYTES}
use Rattle.model_store.specs.{read_full, read_tail, Taken, taken_from}
use Rattle.model_store.specs.declared.tail.Tail.{Tail}
use Rattle.redo_disk.specs.{part}
use Rattle.redo_recover.specs.declared.taking.Stand.{Stand}
use Rattle.redo_recover.specs.declared.taking.Stand.TheVariants.{Place, Four, Five}
use Rattle.redo_recover.specs.declared.taking.TheConstants.{TAILS}

-- of the bytes of the two tail blocks those of each
abbrev pub four_of : List ℕ → List ℕ
four_of tails = sector_at 0 tails

abbrev pub five_of : List ℕ → List ℕ
five_of tails = sector_at BLOCK_SIZE tails

-- in formats 2 and 3 these are the bytes of the two tail blocks
abbrev pub AreTailsOf : Format → List ℕ → List ℕ → Type 0
AreTailsOf format tails content = format ≢ One → tails ≡ part content HEADER_BYTES TAILS

-- a block that is read in its place
abbrev pub in_place : Option BlockView → Option (Stand × BlockView) → Option (Stand × BlockView)
in_place None tail = tail
in_place (Some view) tail = Some (Place, view)

-- of two tail blocks the one with the greater length, the first on a tie
abbrev pub chosen : Option BlockView → Option BlockView → Option (Stand × BlockView)
chosen None None = None
chosen None (Some second) = Some (Five, second)
chosen (Some first) None = Some (Four, first)
chosen (Some first) (Some second) = if nat_lt first.length second.length then Some (Five, second) else Some (Four, first)

-- the block that is taken, and where it stands
abbrev pub found_among : Format → ℕ → List ℕ → List ℕ → List ℕ → Option (Stand × BlockView)
found_among One lsn place four five = in_place (read_block lsn place) None
found_among Two lsn place four five = in_place (read_full lsn place) (chosen (read_tail lsn four) (read_tail lsn five))
found_among Three lsn place four five = in_place (read_full lsn place) (chosen (read_tail lsn four) (read_tail lsn five))

abbrev pub found_at : Format → ℕ → List ℕ → List ℕ → List ℕ → Option (Stand × BlockView)
found_at format lsn place four five = if nat_lt lsn LSN_LIMIT then found_among format lsn place four five else None

-- the bytes that stand there
abbrev pub bytes_at : List ℕ → List ℕ → Stand → List ℕ
bytes_at place tails Place = place
bytes_at place tails Four = four_of tails
bytes_at place tails Five = five_of tails

-- the block with its data
abbrev pub block_at : List ℕ → List ℕ → Option (Stand × BlockView) → Option Taken
block_at place tails None = None
block_at place tails (Some found) = taken_from (bytes_at place tails found.0) (Some found.1)

-- the tail block in which the block of the lsn stands
abbrev pub tail_block_at : ℕ → Stand → Option Tail
tail_block_at lsn Place = None
tail_block_at lsn Four = Some (record { which = HEADER_BLOCKS; lsn = lsn })
tail_block_at lsn Five = Some (record { which = HEADER_BLOCKS + 1; lsn = lsn })
