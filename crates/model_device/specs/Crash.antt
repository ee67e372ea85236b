-- A crash that picks which sector writes survive, by the bits of a number.
use Rattle.std.specs.Prelude.{ℕ, zero, suc, ◌+◌, ◌/◌, ◌%◌, ◌^◌, ◌==◌, if◌then◌else◌, List, [], ◌∷◌, length, take, drop, Bool}
use Rattle.std.specs.List.{flat_map}
use Rattle.model_base.specs.declared.limits.TheConstants.{BLOCK_SIZE}
use Rattle.model_device.specs.Disks.{Disk, after_writes, settled}
use Rattle.model_device.specs.declared.write.Write.{Write}

-- the writes of one sector each that n sectors of bytes from an offset on come to
abbrev pub sectors_from : ℕ → ℕ → List ℕ → List Write
sectors_from zero at bytes = []
sectors_from (suc n) at bytes =
    (record { at = at; bytes = take BLOCK_SIZE bytes }) ∷ sectors_from n (at + BLOCK_SIZE) (drop BLOCK_SIZE bytes)

-- the sector writes of a write, in order
abbrev pub sector_writes : Write → List Write
sector_writes write = sectors_from (length write.bytes / BLOCK_SIZE) write.at write.bytes

-- the i-th write survives where bit `i mod 64` of the pick is 1
abbrev pub survives : ℕ → ℕ → Bool
survives pick i = pick / 2 ^ (i % 64) % 2 == 1

-- the write of its first so many bytes alone
abbrev pub cut_to : ℕ → Write → Write
cut_to cut write = record write { bytes = take cut write.bytes }

-- what is left of these sector writes, the first of which has the number i: all of one that survives, and of each other
-- one its first bytes
abbrev pub left_of : ℕ → ℕ → ℕ → List Write → List Write
left_of cut pick i [] = []
left_of cut pick i (write ∷ writes) =
    (if survives pick i then write else cut_to cut write) ∷ left_of cut pick (i + 1) writes

-- What a crash with this pick leaves: the sector writes since the last good sync, of which those that don't survive are
-- torn after so many bytes. Where that is 0, nothing is left of them.
abbrev pub crash_image : ℕ → ℕ → Disk → List ℕ
crash_image cut pick disk = after_writes disk.base (left_of cut pick 0 (flat_map sector_writes disk.writes))

-- the device after a crash with this pick
abbrev pub crashed : ℕ → ℕ → Disk → Disk
crashed cut pick disk = settled (crash_image cut pick disk)
