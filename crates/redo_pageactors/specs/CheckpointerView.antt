-- What the fields of the checkpointer stand for.
use Rattle.std.specs.Prelude.{ℕ, ◌<◌, ◌≤◌}
use Rattle.model_core.specs.{CheckpointerState}
use Rattle.model_core.specs.declared.steps.CheckpointerStep.{CheckpointerStep}
use Rattle.model_core.specs.declared.steps.CheckpointerStep.TheVariants as checkpointer_step
use Rattle.model_core.specs.declared.limits.TheConstants.{FLUSH_LISTS, READERS}
use Rattle.redo_pageactors.specs.declared.checkpointer.Checkpointer.TheInside.{Inside}

abbrev pub checkpointer_view : Inside → CheckpointerState
checkpointer_view t = record {
  own = t.own;
  ctail = t.ctail;
  flushed = t.flushed;
  to = t.to;
  list = t.list;
  first = t.first;
  last = t.last;
  reader = t.reader;
  code = t.code;
  checks = t.checks;
  step = t.step;
}

-- while it reads a list, that is one
abbrev pub IsAtList : ℕ → CheckpointerStep → Type 0
IsAtList list checkpointer_step.LoadPlace = list < FLUSH_LISTS
IsAtList list checkpointer_step.ReadList = list < FLUSH_LISTS
IsAtList list checkpointer_step.GiveList = list < FLUSH_LISTS
IsAtList list _ = Unit {0}

-- while it loads a reader's word, that is one of them
abbrev pub IsAtPlace : ℕ → ℕ → CheckpointerStep → Type 0
IsAtPlace reader last checkpointer_step.LoadPlace = reader < last
IsAtPlace reader last _ = Unit {0}

abbrev pub IsCheckpointer : Inside → Type 0
IsCheckpointer t = IsAtList t.list t.step × IsAtPlace t.reader t.last t.step × (t.first ≤ t.last) × (t.last ≤ READERS)
