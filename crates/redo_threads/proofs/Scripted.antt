-- The actors of a run are those of its script.
use Rattle.std.proofs.Common.{Bool, List, ap, arith, length, map, subst, ℕ, ◌∙◌, ◌∷◌, ◌≡◌}
use lib.ListN.{get_elem?}
use mathlib.Core.Option as maybe
use Rattle.atomic_table.proofs.Lists.{at_longer}
use Rattle.model_core.specs.States as model
use Rattle.model_core.specs.{Given, UserState}
use Rattle.model_running.specs.Schedule.{ArePageActors}
use Rattle.model_script.specs.declared.script.ScriptLine.{ScriptLine}
use Rattle.redo_disk.specs.{Call, Seen}
use Rattle.redo_drive.specs.Leaving.{LeavesWith}
use Rattle.redo_drive.specs.{views_of}
use Rattle.redo_drive.specs.declared.actor.Actor.{Actor}
use Rattle.redo_drive.specs.declared.closed.Closed.{Closed}
use Rattle.redo_drive.specs.declared.plan.Plan.{Plan}
use Rattle.redo_store.specs.declared.opened.Opened.{Opened}
use Rattle.redo_rule.proofs.Retook.{at_map}
use Rattle.redo_threads.specs.InThreads.{AreActorsOf}

module _ {L D F : Type 0} (log_seen : L → Seen) (log_gives : L → Call → L → Type 0) (data_seen : D → Seen)
    (data_gives : D → Call → D → Type 0) (stands : F → List Given → Type 0) (opened : Opened L D)
    (script : List ScriptLine) (plan : Plan) (starts actors : List (Actor F)) (closed : Closed L D)
    (left : LeavesWith log_seen log_gives data_seen data_gives stands opened script plan starts actors
    closed) where
  user_at : (i : ℕ) (u : UserState) → get_elem? left.from.runs.seated.users i ≡ maybe.some u → get_elem? (views_of actors) i ≡ maybe.some (model.User u)
  user_at i u at = ap (λ (l : List model.Actor). get_elem? l i) left.from.runs.seated.are
      ∙ at_longer (map model.User left.from.runs.seated.users) (model.Writer left.from.runs.seated.writer ∷ model.Flusher left.from.runs.seated.flusher ∷ left.from.runs.seated.others) i (model.User u) (at_map model.User left.from.runs.seated.users i u at)

  its_lines : (i : ℕ) (u : UserState) → get_elem? left.from.runs.seated.users i ≡ maybe.some u → u.lines ≡ left.run.setup.script u.user
  its_lines i u at = (left.from.runs.running.both.logged.each i (model.User u) (user_at i u at)).lines

  pub are_of_script : AreActorsOf script plan.log_only (views_of actors)
  are_of_script = record {
    users = left.from.runs.seated.users;
    writer = left.from.runs.seated.writer;
    flusher = left.from.runs.seated.flusher;
    others = left.from.runs.seated.others;
    are = left.from.runs.seated.are;
    page_actors = subst (λ (b : Bool). ArePageActors b left.from.runs.seated.others) left.is_run.log_only_is left.from.runs.seated.page_actors;
    ascending = left.from.runs.seated.ascending;
    has_lines = λ i u at.
        let h = left.from.runs.seated.have_lines left.is_run.live_is i u at in
        let e = ap length (its_lines i u at) in omega arith;
    lines = λ i u at. ap length (its_lines i u at) ∙ left.is_run.of_script.count u.user;
    all = λ user some. left.from.runs.seated.all user (let e = left.is_run.of_script.count user in omega arith);
  }
