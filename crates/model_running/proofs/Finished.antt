-- What the log half of the invariant says of a run that has ended.
use Rattle.std.proofs.Common.{List, Some, ap, arith, subst, sym, ℕ, ◌<◌, ◌≡◌, ◌≤◌, ◌∙◌}
use Rattle.model_base.specs.declared.limits.TheConstants.{LSN_LIMIT}
use Rattle.model_base.specs.declared.shape.Shape.{Shape}
use Rattle.model_core.proofs.Lsns.{lsn_le}
use Rattle.model_core.specs.{Actor, flat, IsBound, lsn, SharedWords, LogSide, Setup}
use Rattle.model_core.proofs.Tails.{tail_in}
use Rattle.model_report.specs.declared.entry.Marks.{Marks}
use Rattle.model_running.proofs.Groups.{history_wholes}
use Rattle.model_running.proofs.Legality.{legal_log}
use Rattle.model_running.proofs.Losses.{left_lines, lost_entry}
use Rattle.model_running.proofs.Places.{bound_spans, history_spans}
use Rattle.model_running.specs.Schedule.{HaveEnded}
use Rattle.model_running.specs.History.{marks_in}
use Rattle.model_running.specs.Histories.{AreWholesOf, history_of, log_spans, word_marks, run_of}
use Rattle.model_running.specs.Script.{HasSeats, IsOfScript}
use Rattle.model_report.specs.{entry_spans, IsLeft, wholes_of}
use Rattle.model_log.specs.{IsBoundary, Span, start_after}
use Rattle.model_logcore.proofs.AnswersFit.{small_sn}
use Rattle.model_logcore.specs.{LogGhost, LogHalf}
use Rattle.model_script.specs.declared.script.ScriptLine.{ScriptLine}
use Rattle.model_theorem.specs.{IsRun, LosesOnlyByFailure, Opened}

-- the marks by name are those in the list of words
pub marks_same : (ws : List ℕ) (m : SharedWords) → ws ≡ flat m → marks_in ws ≡ word_marks m
marks_same ws m is = ap marks_in is ∙ ap (λ (n : ℕ). let marks : Marks = record { wtail = n; write = m.write; flushed = m.flushed; ckpt = m.ckpt } in marks) (tail_in m.wtail m.wheld)

module _ (D : LogSide) (c : Setup) (m : SharedWords) (g : LogGhost) (p : D.Part) (actors : List Actor) (half : LogHalf D c m g p actors) where
  boundary : (x mark : ℕ) → mark ≡ lsn x → IsBound c.base g.log x → IsBoundary (lsn c.base) (entry_spans (history_of g.answered (word_marks m) g.log)) mark
  boundary x mark is bound =
      subst (λ (z : List Span). IsBoundary (lsn c.base) z mark) (sym (history_spans g.answered (word_marks m) g.log))
      (subst (IsBoundary (lsn c.base) (log_spans g.log)) (sym is) (bound_spans g.log c.base m.sn x half.global.tiled.tiles bound))

  -- at any moment, so at the end, the groups and the marks are a run of the script
  pub finished_run : (script : List ScriptLine) (opened : Opened) → IsOfScript c script opened.shape → lsn c.base ≡ start_after opened.end → IsRun script opened (run_of c g m)
  finished_run script opened S start = let G = half.global in let O = G.order in record {
    start = start;
    legal = legal_log c script opened.shape m.sn g.log g.place g.state g.answered (word_marks m) G.tiled G.commits S;
    wtail = boundary g.wtail m.wtail O.wtail_is O.wtail_bound;
    write = boundary g.write m.write O.write_is O.write_bound;
    flushed = boundary g.flushed m.flushed O.flushed_is O.flushed_bound;
    write_within = (let a = O.write_is in let b = O.wtail_is in let l = lsn_le g.write g.wtail (let x = O.write_read in let y = O.read_target in let z = O.target_wtail in omega arith) in omega arith);
  }

  -- its groups are those of the log
  pub finished_groups : (script : List ScriptLine) (shape : Shape) → IsOfScript c script shape → AreWholesOf g.log (wholes_of script shape.space (run_of c g m).entries)
  finished_groups script shape S = history_wholes c script shape g.answered (word_marks m) g.log S (λ i e is. let l = half.global.tiled.lines i e is in (l.0, l.1))

  -- once all users have ended, it loses something only where FAILED has a code, and so a call has failed
  pub finished_losses : (script : List ScriptLine) (shape : Shape) (failures : ℕ) (left : List (ℕ × ℕ)) → HaveEnded actors → IsOfScript c script shape → HasSeats script actors → (0 < m.failed → 0 < failures)
      → IsLeft script (run_of c g m).entries left → LosesOnlyByFailure failures (Some (run_of c g m)) left
  finished_losses script shape failures left ended S seats cause is = record {
    lost = λ i entry found lost. cause (lost_entry D c m g p actors half ended (word_marks m) i entry found lost);
    left = λ some_left. cause (left_lines D c m g p actors half ended (word_marks m) script shape left S seats is some_left);
    stopped = λ none. absurd (cc);
  }

  -- the marks are no further than those of the log part, and those are below the limit
  pub finished_marks : (m.flushed ≤ D.stable p) × (m.ckpt ≤ D.ckpt p) × (D.given p < LSN_LIMIT)
  finished_marks = let P = half.global.part in let O = half.global.order in (
    P.flushed_stable,
    P.ckpt_part,
    (let a = P.given_wtail in let b = O.wtail_is in let l = lsn_le g.wtail m.sn (let x = O.wtail_tail in let y = O.tail_sn in omega arith) in let s = small_sn D c m g p actors 0 half in omega arith),
  )
