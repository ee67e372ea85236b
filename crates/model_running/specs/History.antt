-- The history of a run: each reserved group, and how its commit stands by the marks. And what a page is to its data device.
use Rattle.std.specs.Prelude.{List, cond, nat_lt, slice_index, ℕ}
use Rattle.model_core.specs.{answered, ckpt_at, end_of, flushed_at, lsn, tail_of, write_at, wtail_at, BatchPage}
use Rattle.model_report.specs.{state_by}
use Rattle.model_report.specs.declared.entry.Entry.{Entry}
use Rattle.model_report.specs.declared.entry.Marks.{Marks}
use Rattle.model_report.specs.declared.entry.State.{State}
use Rattle.model_report.specs.declared.entry.State.TheVariants.{Lost}
use Rattle.model_core.specs.States as core
use Rattle.model_page.specs.{user_part}
use Rattle.model_page.specs.declared.content.Content.{Content}

-- a commit that isn't answered is lost
abbrev pub state_of : ℕ → Marks → core.Entry → State
state_of answered marks e = cond (nat_lt e.k answered) (state_by marks (lsn (end_of e))) Lost

abbrev pub history_entry : (ℕ → ℕ) → Marks → core.Entry → Entry
history_entry answered marks e = record { user = e.user; k = e.k; start = lsn e.start; end = lsn (end_of e); state = state_of (answered e.user) marks e }

-- the same in the list of words
abbrev pub marks_in : List ℕ → Marks
marks_in ws = record {
  wtail = tail_of (slice_index ws (wtail_at));
  write = slice_index ws (write_at);
  flushed = slice_index ws (flushed_at);
  ckpt = slice_index ws (ckpt_at);
}

-- what a page of a batch is to hold
abbrev pub new_content : BatchPage → Content
new_content x = record { lsn = x.lsn; user = user_part x.bytes }
