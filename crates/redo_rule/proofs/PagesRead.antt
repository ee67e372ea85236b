-- What was read of pages lasts, through a turn of any actor, and once a line is handed in.
use Rattle.std.proofs.Common.{Bool, List, None, Option, Some, [], cond, eqb, false, subst, sym, true, ℕ, ⊎_elim, inl, inr, ◌==◌, ◌∷◌, ◌≡◌}
use Rattle.std.specs.Prelude.{IfSome}
use Rattle.model_core.specs.{Entry, Given, Line, DataSide, LogSide, Setup}
use Rattle.model_core.specs.States as model
use Rattle.model_core.specs.Program.{Turn}
use Rattle.model_core.specs.declared.ops.Answer.{Answer}
use Rattle.model_core.specs.declared.ops.Step.{Step}
use Rattle.model_logcore.proofs.TakesLine.{grown}
use Rattle.model_logcore.specs.LogLaws.{LogLaws}
use Rattle.model_pagecore.specs.DataLaws.{DataLaws}
use Rattle.model_reads.proofs.Lasting.{glance_if, HasGoneOn, reads_last}
use Rattle.model_reads.proofs.Turning.{turn_goes_on}
use Rattle.model_reads.specs.{AreRead, GlanceFits, ReadEndFits}
use Rattle.model_reads.specs.declared.read.Glance.{Glance}
use Rattle.model_reads.specs.declared.read.ReadEnd.{ReadEnd}
use Rattle.model_reads.specs.declared.read.ReadEnd.TheVariants.{Failed, Page}
use Rattle.redo_disk.specs.{Seen}
use Rattle.redo_drive.proofs.TurnsOf.{goes_on, runs_then}
use Rattle.redo_drive.specs.{HasSamePages, RunOf, run_data_side, run_log_side, RunsWith, core_of}
use Rattle.redo_drive.specs.declared.parts.Parts.{Parts}
use Rattle.redo_rule.proofs.Hearing.{heard_then}
use Rattle.redo_rule.specs.Handing.{HasRead, HaveRead, with_more}
use Rattle.redo_rule.specs.declared.law.Block.{Block}
use Rattle.redo_rule.specs.declared.law.Heard.{Heard}

pub has_read_on : (c : Setup) (ws ws' : List ℕ) (log log' : List Entry) → HasGoneOn c ws ws' log log' → (heard : Heard)
    → HasRead c ws log heard → HasRead c ws' log' heard
has_read_on c ws ws' log log' on heard has = record {
  done = reads_last c ws ws' log log' on heard.reads has.done;
  now = glance_if c ws ws' log log' on heard.glance has.now;
}

module _ {L D : Type 0} {archive : Bool} (log_seen : L → Seen) (data_seen : D → Seen) (run : RunOf L D)
    (old new : Parts L D) (actors after : List model.Actor) (seat : ℕ) (answer : Answer) (step : Step)
    (log_laws : LogLaws (run_log_side log_seen data_seen run))
    (data_laws : DataLaws (run_data_side log_seen data_seen run)) (same : HasSamePages old new)
    (runs : RunsWith log_seen data_seen run archive old actors)
    (t : Turn (run_log_side log_seen data_seen run) (run_data_side log_seen data_seen run)
    (core_of log_seen data_seen run old actors) seat answer step (core_of log_seen data_seen run new after)) where
  abbrev log_was : List Entry
  log_was = runs.running.log_ghost.log

  abbrev log_now : List Entry
  log_now = (goes_on log_seen data_seen run old new actors after seat answer step log_laws data_laws same runs
      t).running.log_ghost.log

  -- the run has gone on, for whoever reads
  pub run_goes_on : HasGoneOn run.setup old.words.words new.words.words log_was log_now
  run_goes_on = subst (HasGoneOn run.setup old.words.words new.words.words log_was)
      (sym (runs_then log_seen data_seen run old new actors after seat answer step log_laws data_laws same runs t).log_is)
      (turn_goes_on (run_log_side log_seen data_seen run) log_laws (run_data_side log_seen data_seen run) data_laws
      run.setup (core_of log_seen data_seen run old actors) (core_of log_seen data_seen run new after) seat answer step
      runs.running t)

  pick : (b : Bool) (heard : Heard) (groups : List Given) (blocks : List Block)
      → HasRead run.setup new.words.words log_now heard
      → HasRead run.setup new.words.words log_now (cond b (with_more heard groups blocks) heard)
  pick true heard groups blocks has = record { done = has.done; now = has.now }
  pick false heard groups blocks has = has

  -- after the turn, by which its actor may hand something on
  pub reads_then : (heard : ℕ → Heard) (groups : List Given) (blocks : List Block)
      → HaveRead run.setup old.words.words heard log_was
      → HaveRead run.setup new.words.words (heard_then heard seat groups blocks) log_now
  reads_then heard groups blocks have n = pick (eqb n seat) (heard n) groups blocks
      (has_read_on run.setup old.words.words new.words.words log_was log_now run_goes_on (heard n) (have n))

-- a line that is handed in changes no page
module _ (c : Setup) (user : ℕ) (more : List Line) (ws : List ℕ) (log : List Entry) where
  end_still : (r : ReadEnd) → ReadEndFits c ws log r → ReadEndFits (grown c user more) ws log r
  end_still (Page r) o = record { there = o.there; upto = o.upto; bytes = o.bytes }
  end_still (Failed code) o = o

  reads_still : (reads : List ReadEnd) → AreRead c ws log reads → AreRead (grown c user more) ws log reads
  reads_still [] all = tt
  reads_still (r ∷ rs) all = (end_still r all.0, reads_still rs all.1)

  glance_still : (g : Option Glance) → IfSome g (GlanceFits c ws log) → IfSome g (GlanceFits (grown c user more) ws log)
  glance_still None fits = tt
  glance_still (Some g) fits = record {
    there = fits.there;
    newest = fits.newest;
    since = fits.since;
    upto = fits.upto;
    words = fits.words;
    free = fits.free;
  }

  pub reads_grown : (heard : Heard) → HasRead c ws log heard → HasRead (grown c user more) ws log heard
  reads_grown heard has = record {
    done = reads_still heard.reads has.done;
    now = glance_still heard.glance has.now;
  }
