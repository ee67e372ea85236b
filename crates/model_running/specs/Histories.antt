-- The history of all groups of a log.
-- What a run comes to, by the ghost of its log.
use Rattle.std.specs.Prelude.{List, map, ℕ, [], ◌∷◌, ◌≡◌}
use Rattle.model_core.specs.{answered, SharedWords, end_of, lsn, Setup}
use Rattle.model_report.specs.declared.entry.Entry.{Entry}
use Rattle.model_report.specs.declared.entry.Marks.{Marks}
use Rattle.model_log.specs.{Span, group_text, span_of}
use Rattle.model_core.specs.States as core
use Rattle.model_running.specs.History.{history_entry}
use Rattle.model_log.specs.declared.group.Whole.{Whole}
use Rattle.model_logcore.specs.{LogGhost}
use Rattle.model_theorem.specs.{Ran}

-- where each group of the log stands, in lsns
abbrev pub log_span : core.Entry → Span
log_span e = record { start = lsn e.start; end = lsn (end_of e) }

-- the group is this one, with its place
pub record IsWholeOf (e : core.Entry) (whole : Whole) : Type 0 where
  pub place : span_of whole ≡ log_span e
  pub text : group_text whole.group ≡ e.bytes

-- the groups of the log, each with its place
abbrev pub AreWholesOf : List core.Entry → List Whole → Type 0
AreWholesOf [] [] = Unit {0}
AreWholesOf (e ∷ log) (whole ∷ wholes) = IsWholeOf e whole × AreWholesOf log wholes
AreWholesOf _ _ = ⊥

abbrev pub history_of : (ℕ → ℕ) → Marks → List core.Entry → List Entry
history_of answered marks log = map (history_entry answered marks) log

-- the words' marks
abbrev pub word_marks : SharedWords → Marks
word_marks m = record { wtail = m.wtail; write = m.write; flushed = m.flushed; ckpt = m.ckpt }

abbrev pub log_spans : List core.Entry → List Span
log_spans log = map log_span log

abbrev pub run_of : Setup → LogGhost → SharedWords → Ran
run_of c g m = record { start = lsn c.base; entries = history_of g.answered (word_marks m) g.log; marks = word_marks m }
