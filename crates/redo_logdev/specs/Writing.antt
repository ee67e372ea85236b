-- What the writes of blocks leave of a device.
use Rattle.std.specs.Prelude.{ℕ, ◌⊎◌, List, [], ◌∷◌}
use Rattle.model_device.specs.{Disk, FailsWrite, written}
use Rattle.model_log.specs.{place_in, ring_start}
use Rattle.model_log.specs.declared.layout.Layout.{Layout}
use Rattle.redo_disk.specs.{write_at}
use Rattle.redo_logdev.specs.Part.{front_of, back_of}

-- a write of no bytes isn't made
abbrev pub written_if : ℕ → List ℕ → Disk → Disk
written_if at [] disk = disk
written_if at (byte ∷ bytes) disk = written disk (write_at at (byte ∷ bytes))

-- The bytes are written from the block's place on: up to the ring's end, and what is left at the ring's start.
abbrev pub written_round : Layout → ℕ → List ℕ → Disk → Disk
written_round layout b bytes old =
    written_if (ring_start layout) (back_of layout b bytes) (written_if (place_in layout b) (front_of layout b bytes) old)

-- one of these two writes failed
abbrev pub FailsRound : Layout → ℕ → List ℕ → Disk → Disk → Type 0
FailsRound layout b bytes old new =
    FailsWrite (write_at (place_in layout b) (front_of layout b bytes)) old new
    ⊎ FailsWrite (write_at (ring_start layout) (back_of layout b bytes)) (written_if (place_in layout b) (front_of layout b bytes) old) new

-- full blocks are written to their places, and then the bytes of an incomplete one at this offset
abbrev pub written_blocks : Layout → ℕ → List ℕ → ℕ → List ℕ → Disk → Disk
written_blocks layout b full at last old = written_if at last (written_round layout b full old)

-- one of these writes failed
abbrev pub FailsBlocks : Layout → ℕ → List ℕ → ℕ → List ℕ → Disk → Disk → Type 0
FailsBlocks layout b full at last old new = FailsRound layout b full old new ⊎ FailsWrite (write_at at last) (written_round layout b full old) new
