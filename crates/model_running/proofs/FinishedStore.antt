-- A running store stands for a run.
use Rattle.std.proofs.Common.{List, subst, sym, ℕ, ◌≡◌, ap}
use Rattle.std.specs.Prelude.{slice_index}
use Rattle.model_core.specs.{DataSide, LogSide, Core, lsn, Tiles, Setup}
use Rattle.model_running.proofs.Finished.{finished_groups, finished_marks, finished_run, marks_same}
use Rattle.model_running.specs.Finished.{StandsForRun}
use Rattle.model_running.specs.Histories.{run_of, history_of}
use Rattle.model_running.specs.Script.{IsOfScript}
use Rattle.model_report.specs.declared.entry.Marks.{Marks}
use Rattle.model_log.specs.{start_after}
use Rattle.model_logcore.specs.{UserFits}
use Rattle.model_running.specs.Watermarks.{IsRunning}
use Rattle.model_script.specs.declared.script.ScriptLine.{ScriptLine}
use Rattle.model_theorem.specs.{Opened}
use Rattle.model_core.specs.States as actor

-- at any moment the store stands for a run of the script
unfoldable pub stands_for_run : (D : LogSide) (E : DataSide) (c : Setup) (script : List ScriptLine) (opened : Opened) (s : Core D E) → IsRunning D E c s → IsOfScript c script opened.shape → lsn c.base ≡ start_after opened.end → StandsForRun D E c script opened s
stands_for_run D E c script opened s running of_script start =
    let m = running.shared in let g = running.log_ghost in let half = running.both.logged in
    let behind = finished_marks D c m g s.log_part s.actors half in
    record {
      run = run_of c g m;
      marks = sym (marks_same s.words m running.flat_is);
      is_run = finished_run D c m g s.log_part s.actors half script opened of_script start;
      log = g.log;
      tiles = subst (Tiles c.base g.log) (sym (ap (λ (ws : List ℕ). slice_index ws 0) running.flat_is)) half.global.tiled.tiles;
      are_of_actors = half.counted;
      answered = g.answered;
      answers = λ seat u at. let f : UserFits D c m g s.log_part seat u = half.each seat (actor.User u) at in f.answers;
      entries = ap (λ (marks : Marks). history_of g.answered marks g.log) (sym (marks_same s.words m running.flat_is));
      holds = half.global.part.holds;
      groups = finished_groups D c m g s.log_part s.actors half script opened.shape of_script;
      flushed = behind.0;
      ckpt = behind.1;
      small = behind.2;
    }
