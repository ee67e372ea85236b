-- The actors as a run begins, with nothing done. The run starts at an lsn that is the place of a block's first data byte.
use Rattle.std.specs.Prelude.{List, [], cond, false, length, replicate, true, ℕ, ◌*◌, ◌-◌, ◌/◌, ◌==◌}
use Rattle.model_base.specs.declared.limits.TheConstants.{BLOCK_SIZE}
use Rattle.model_core.specs.States.{CheckpointerState, CleanerState, CloserState, FlusherState, Line, ReaderState, UserState, WriterState, no_advance, none_loaded}
use Rattle.model_core.specs.declared.steps.AdvanceStep.TheVariants as advance_step
use Rattle.model_core.specs.declared.steps.CheckpointerStep.TheVariants as checkpointer_step
use Rattle.model_core.specs.declared.steps.CleanerStep.TheVariants as cleaner_step
use Rattle.model_core.specs.declared.steps.CloserStep.TheVariants as closer_step
use Rattle.model_core.specs.declared.steps.FlusherStep.TheVariants as flusher_step
use Rattle.model_core.specs.declared.steps.ReaderStep.TheVariants as reader_step
use Rattle.model_core.specs.declared.steps.UserStep.TheVariants as user_step
use Rattle.model_core.specs.declared.steps.WriterStep.TheVariants as writer_step
use Rattle.model_log.specs.declared.layout.TheConstants.{BLOCK_DATA, BLOCK_HEADER}

-- a user that has no line is done, and keeps none of those that it may get
abbrev pub new_user : ℕ → ℕ → List Line → UserState
new_user user blocks lines = record {
  user = user;
  blocks = blocks;
  keeps = cond (length lines == 0) false true;
  lines = lines;
  starts = [];
  k = 0;
  start = 0;
  copied = 0;
  page = 0;
  cell = 0;
  word = 0;
  loaded = none_loaded;
  advance = no_advance;
  code = 0;
  checks = cond (length lines == 0) false true;
  step = cond (length lines == 0) user_step.Done user_step.LoadCheckpoint;
}

-- it has read up to the start
abbrev pub new_writer : ℕ → ℕ → WriterState
new_writer blocks start = record {
  blocks = blocks;
  tail = start;
  write = start;
  from = start / BLOCK_SIZE * BLOCK_DATA;
  kept = [];
  firsts = [];
  advance = no_advance;
  first = 0;
  word = 0;
  ckpt = 0;
  code = 0;
  checks = false;
  step = writer_step.Advance advance_step.LoadTail;
}

abbrev pub new_flusher : ℕ → FlusherState
new_flusher start = record { last = start; write = 0; mark = 0; code = 0; checks = false; step = flusher_step.LoadWrite }

abbrev pub new_closer : CloserState
new_closer = record { advance = no_advance; code = 0; checks = false; step = closer_step.Advance advance_step.LoadTail }

abbrev pub new_cleaner : ℕ → ℕ → ℕ → CleanerState
new_cleaner pages page_size slots = record {
  pages = pages;
  page_size = page_size;
  slots = slots;
  flushed = 0;
  page = 0;
  left = 0;
  newest = 0;
  kept = [];
  batch = [];
  code = 0;
  checks = false;
  step = cleaner_step.LoadFlushed;
}

-- the newest checkpoint stands at the start's block; the readers of the log have these numbers
abbrev pub new_checkpointer : ℕ → ℕ → ℕ → CheckpointerState
new_checkpointer start first last = record {
  own = start - BLOCK_HEADER;
  ctail = 0;
  flushed = 0;
  to = 0;
  list = 0;
  first = first;
  last = last;
  reader = 0;
  code = 0;
  checks = false;
  step = checkpointer_step.LoadCtail;
}

-- a reader has the log below the start: the archiver below its block
abbrev pub new_reader : ℕ → ℕ → ReaderState
new_reader number start = record {
  number = number;
  own = cond (number == 0) (start - BLOCK_HEADER) start;
  place = cond (number == 0) (start - BLOCK_HEADER) start;
  mark = 0;
  block = replicate BLOCK_SIZE 0;
  at = start / BLOCK_SIZE * BLOCK_DATA;
  kept = [];
  texts = [];
  lost = 0;
  code = 0;
  checks = false;
  step = reader_step.LoadFlushed;
}
