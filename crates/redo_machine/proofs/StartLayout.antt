-- Which words a run begins with is told by the shape of the opened store.
use Rattle.std.proofs.Common.{List, ◌≡◌}
use Rattle.model_core.specs.{Given}
use Rattle.model_core.specs.declared.words.Layout.{Layout}
use Rattle.model_script.specs.declared.script.ScriptLine.{ScriptLine}
use Rattle.redo_disk.specs.{Seen}
use Rattle.redo_drive.specs.Begins.{BeginsWith}
use Rattle.redo_drive.specs.declared.making.Beginning.{Beginning}
use Rattle.redo_drive.specs.declared.plan.Plan.{Plan}
use Rattle.redo_follow.specs.Following.{Following}
use Rattle.redo_store.specs.declared.opened.Opened.{Opened}
use Rattle.redo_words.specs.Plain.{shape_layout}

module _ {L D R : Type 0} (log_seen : L → Seen) (data_seen : D → Seen) (stands : R → List Given → Type 0)
    (opened : Opened L D) (script : List ScriptLine) (plan : Plan) (followers : List (Following R))
    (start : Beginning L D R)
    (B : BeginsWith log_seen data_seen stands opened script plan followers start) where
  pub start_layout : ◌≡◌ {A = Layout} start.parts.words.layout (shape_layout opened.shape)
  start_layout =
      let pages = B.from.runs.its_pages in let size = B.from.runs.its_page_size in
      let is = B.from.runs.running.layout_is in let shape = B.is_run.shape in cc
