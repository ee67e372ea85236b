-- What the fields of the writer stand for.
use Rattle.std.specs.Prelude.{cond, length, vec_capacity, ◌+◌, ◌<◌, ◌==◌, ◌^◌, ◌≤◌}
use Rattle.model_core.specs.{Advance, lsn, read_place, stands_outside, WriterState}
use Rattle.model_core.specs.declared.steps.WriterStep.{WriterStep}
use Rattle.model_core.specs.declared.steps.WriterStep.TheVariants as writer_step
use Rattle.redo_link.specs.{LeadsToLsn}
use Rattle.redo_logactors.specs.declared.writer.TheConstants.{KEPT_BLOCKS, KEPT_BYTES}
use Rattle.redo_logactors.specs.declared.writer.Writer.TheInside.{Inside}

abbrev pub writer_view : Inside → WriterState
writer_view s = record {
  blocks = s.blocks;
  tail = s.tail;
  write = s.write;
  from = s.from;
  kept = s.kept.items;
  firsts = s.firsts.items;
  advance = s.advance;
  first = s.first;
  word = s.word;
  ckpt = s.ckpt;
  code = s.code;
  checks = s.checks;
  step = s.step;
}

-- where it goes on once it has read a whole word
abbrev pub after_word : WriterState → WriterStep
after_word s = cond (lsn (read_place s) == s.tail) writer_step.TakeDevice (cond (stands_outside s) writer_step.LoadFirst writer_step.LoadCell)

-- its advance may stand at this step
abbrev pub WriterLeadsToLsn : Advance → WriterStep → Type 0
WriterLeadsToLsn v (writer_step.Advance s) = LeadsToLsn v s
WriterLeadsToLsn v _ = Unit {0}

pub record IsWriter (s : Inside) : Type 0 where
  pub few_blocks : s.blocks < 2 ^ 32
  pub tail : s.tail < 2 ^ 61
  pub advance : WriterLeadsToLsn s.advance s.step
  pub write : s.write < 2 ^ 61
  pub from : s.from + KEPT_BYTES + 1 < 2 ^ 61
  pub kept : length s.kept.items ≤ KEPT_BYTES
  pub firsts : length s.firsts.items ≤ KEPT_BLOCKS
  pub kept_room : KEPT_BYTES ≤ vec_capacity s.kept
  pub firsts_room : KEPT_BLOCKS ≤ vec_capacity s.firsts
