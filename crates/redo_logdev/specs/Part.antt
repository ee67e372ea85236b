-- A log part as its callers see it, what each of its calls leaves, and from where a block of the run is read back.
-- The writes of a log part: of blocks round the ring, and of a checkpoint.
use Rattle.std.specs.Prelude.{◌≡◌, Option, None, Result, ℕ, ◌+◌, ◌*◌, nat_le, if◌then◌else◌, ◌-◌, ◌/◌, min, List, [], ◌∷◌, ◌++◌, length, take, drop}
use Rattle.model_base.specs.declared.shape.Shape.{Shape}
use Rattle.model_parts.specs.declared.marks.LogMarks.{LogMarks}
use Rattle.model_parts.specs.declared.marks.TailMarks.{TailMarks}
use Rattle.redo_disk.specs.{error_of, HasCause, Request, ToWrite, write_at, Seen}
use Rattle.redo_disk.specs.declared.error.DevError.{DevError}
use Rattle.model_base.specs.declared.limits.TheConstants.{BLOCK_SIZE}
use Rattle.model_log.specs.{place_in, run_layout, checkpoint_text, framed, place_of, ring_start, round_of, turn_of}
use Rattle.model_parts.specs.Marks.{NEXT_DATA}
use Rattle.model_device.specs.declared.write.Write.{Write}
use Rattle.model_log.specs.declared.layout.Layout.{Layout}
use Rattle.model_log.specs.declared.layout.TheConstants.{BLOCK_DATA}

-- a log part, over a device of any type
pub record Part (L : Type 0) : Type 0 where
  pub dev : L
  pub shape : Shape
  pub marks : LogMarks
  pub tails : TailMarks
  -- what the call answered that failed
  pub failed : Option DevError

-- What each call leaves, whatever it answers: the shape and the device's size are as before, the device failed if the
-- call says so, the part tells what the call answered, and a device that tells nothing goes on telling nothing.
pub record Stays {L : Type 0} (seen : L → Seen) (old : Part L) (result : Result (Unit {0}) DevError) (new : Part L) : Type 0 where
  pub shape : new.shape ≡ old.shape
  pub size : (seen new.dev).size ≡ (seen old.dev).size
  pub cause : HasCause (seen old.dev).faults (seen new.dev).faults result
  pub failed : new.failed ≡ error_of result
  pub silent : (seen old.dev).tells ≡ None → (seen new.dev).tells ≡ None

-- Where on the device a block stands: in its place, where the run is written up to the first data byte of the next one, else
-- in the tail block that was written last.
abbrev pub block_place : {L : Type 0} → Part L → ℕ → ℕ
block_place part lsn =
    if nat_le (lsn + NEXT_DATA) part.marks.written then place_in (run_layout part.shape) lsn
    else BLOCK_SIZE * part.tails.newest

-- how many bytes of the ring there are from the block's place on, up to the ring's end
abbrev pub rest_of_round : Layout → ℕ → ℕ
rest_of_round layout b = ring_start layout + round_of layout - place_in layout b

-- of bytes for the ring from the block's place on, those up to the ring's end, and the others
abbrev pub front_of : Layout → ℕ → List ℕ → List ℕ
front_of layout b bytes = take (min (length bytes) (rest_of_round layout b)) bytes

abbrev pub back_of : Layout → ℕ → List ℕ → List ℕ
back_of layout b bytes = drop (min (length bytes) (rest_of_round layout b)) bytes

abbrev pub checkpoint_write : Layout → ℕ → ℕ → Write
checkpoint_write layout number lsn = write_at (BLOCK_SIZE * place_of number) (checkpoint_text number lsn layout)

-- the write of bytes, if there are any
abbrev pub some_write : ℕ → List ℕ → List Request
some_write at [] = []
some_write at (byte ∷ bytes) = ToWrite (write_at at (byte ∷ bytes)) ∷ []

-- the writes of bytes from the block's place on: one up to the ring's end, and one at the ring's start if bytes are left
abbrev pub round_writes : Layout → ℕ → List ℕ → List Request
round_writes layout b bytes =
    some_write (place_in layout b) (front_of layout b bytes) ++ some_write (ring_start layout) (back_of layout b bytes)

-- the writes of full blocks, and of the bytes of an incomplete one at this offset
abbrev pub block_writes : Layout → ℕ → List ℕ → ℕ → List ℕ → List Request
block_writes layout b full at last = round_writes layout b full ++ some_write at last

-- how many blocks a stream fills
abbrev pub full_count : List ℕ → ℕ
full_count stream = length stream / BLOCK_DATA

-- those blocks, the first of them at the lsn `from`, written under this checkpoint
abbrev pub framed_full_blocks : ℕ → List ℕ → List ℕ → ℕ → List ℕ
framed_full_blocks from stream firsts ckpt = framed (take (BLOCK_DATA * full_count stream) stream) from (take (full_count stream) firsts) ckpt

-- the incomplete block after them, which names the turn of its lsn in place of a checkpoint; nothing where the stream
-- ends with a full one
abbrev pub last_block : ℕ → List ℕ → List ℕ → List ℕ
last_block from stream firsts =
    framed (drop (BLOCK_DATA * full_count stream) stream) (from + BLOCK_SIZE * full_count stream) (drop (full_count stream) firsts)
    (turn_of (from + BLOCK_SIZE * full_count stream))
