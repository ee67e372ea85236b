-- The marks of a log device and of its tail blocks, and how each call moves them.
use Rattle.std.specs.Prelude.{ℕ, ◌+◌, ◌-◌, ◌%◌, ◌^◌, nat_lt, if◌then◌else◌}
use Rattle.model_log.specs.declared.layout.TheConstants.{BLOCK_HEADER, HEADER_BLOCKS}
use Rattle.model_parts.specs.declared.marks.LogMarks.{LogMarks}
use Rattle.model_parts.specs.declared.marks.TailMarks.{TailMarks}
use Rattle.model_base.specs.declared.limits.TheConstants.{BLOCK_SIZE}
use Rattle.model_log.specs.{block_of, other_tail}

-- from the start of a block to the first data byte of the next one
abbrev pub NEXT_DATA : ℕ
NEXT_DATA = BLOCK_SIZE + BLOCK_HEADER

-- those of a part that starts a run there
abbrev pub first_marks : ℕ → ℕ → LogMarks
first_marks start number = record {
  stable = start;
  written = start;
  given = start;
  number = number;
  ckpt = start - BLOCK_HEADER;
  asked = start - BLOCK_HEADER;
}

-- after a mark was given to `write_to`, and once that answered Ok
abbrev pub after_given : ℕ → LogMarks → LogMarks
after_given mark marks = record marks { given = mark }

abbrev pub after_written : ℕ → LogMarks → LogMarks
after_written mark marks = record marks { written = mark; given = mark }

-- after a sync that answered Ok
abbrev pub after_synced : LogMarks → LogMarks
after_synced marks = record marks { stable = marks.written }

-- after an lsn was given to `checkpoint`, and once that answered Ok and made the one of this number
abbrev pub after_asked : ℕ → LogMarks → LogMarks
after_asked lsn marks = record marks { asked = lsn }

abbrev pub after_checkpoint : ℕ → ℕ → LogMarks → LogMarks
after_checkpoint number lsn marks = record marks { number = number; ckpt = lsn; asked = lsn }

-- the tail marks of a part that starts a run there: the next tail is block 4
abbrev pub first_tails : ℕ → TailMarks
first_tails start = record { kept = start; tail = HEADER_BLOCKS + 1; newest = HEADER_BLOCKS + 1 }

-- the number of the checkpoint after the one of this number, which goes round
abbrev pub next_number : ℕ → ℕ
next_number number = (number + 1) % 2 ^ 64

-- after `write_to` with this mark answered Ok: where the mark has an incomplete block, that went to the other tail block
-- than the one that holds the newest version made stable
abbrev pub tails_written : ℕ → TailMarks → TailMarks
tails_written mark tails =
    if nat_lt (block_of mark + BLOCK_HEADER) mark then record tails { newest = other_tail tails.tail } else tails

-- after a good sync, be it a checkpoint's
abbrev pub tails_synced : ℕ → TailMarks → TailMarks
tails_synced written tails = record { kept = written; tail = tails.newest; newest = tails.newest }
