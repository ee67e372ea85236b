-- What was told of a run at its start, as its table is told.
use Rattle.std.proofs.Common.{Bool, List, None, Option, ap, false, is_some, subst, sym, ◌≡◌}
use Rattle.model_core.specs.{Given}
use Rattle.model_script.specs.declared.script.ScriptLine.{ScriptLine}
use Rattle.redo_disk.specs.{Seen}
use Rattle.redo_drive.specs.Beginning.{IsRunWith}
use Rattle.redo_drive.specs.{RunOf, MayBegin}
use Rattle.redo_drive.specs.Begins.{BeginsWith}
use Rattle.redo_drive.specs.declared.making.Beginning.{Beginning}
use Rattle.redo_drive.specs.declared.plan.Plan.{Plan}
use Rattle.redo_store.specs.declared.opened.Opened.{Opened}
use Rattle.redo_follow.specs.Following.{Following}
use Rattle.redo_rule.specs.Ruled.{IsRunAbout}
use Rattle.redo_rule.specs.declared.law.About.{About}
use Rattle.redo_rule.specs.declared.law.Live.{Live}

module _ {L D R : Type 0} (log_seen : L → Seen) (data_seen : D → Seen) (stands : R → List Given → Type 0) (about :
    About L D) (followers : List (Following R)) (opened : Opened L D) (script : List ScriptLine) (plan : Plan)
    (opened_is : about.opened.value ≡ opened) (script_is : about.script.value ≡ script) (plan_is : about.plan ≡ plan)
  where
    pub about_begins : (start : Beginning L D R)
        → BeginsWith log_seen data_seen stands opened script plan followers start
        → BeginsWith log_seen data_seen stands about.opened.value about.script.value about.plan followers start
    about_begins start B = subst (λ (o : Opened L D). BeginsWith log_seen data_seen stands o about.script.value
        about.plan followers start) (sym opened_is)
        (subst (λ (s : List ScriptLine). BeginsWith log_seen data_seen stands opened s about.plan followers start)
        (sym script_is) (subst (λ (p : Plan). BeginsWith log_seen data_seen stands opened script p followers start)
        (sym plan_is) B))

    pub about_may : MayBegin opened script plan.log_only → MayBegin about.opened.value about.script.value
        about.plan.log_only
    about_may M = subst (λ (o : Opened L D). MayBegin o about.script.value about.plan.log_only) (sym opened_is)
        (subst (λ (s : List ScriptLine). MayBegin opened s about.plan.log_only) (sym script_is) (subst (λ
        (p : Plan). MayBegin opened script p.log_only) (sym plan_is) M))

-- unless it is a live one, a table's run is that of the script that the table was told
pub fixed_run : {L D : Type 0} (log_seen : L → Seen) (data_seen : D → Seen) (about : About L D) (run : RunOf L D)
    → about.live ≡ None → IsRunAbout log_seen data_seen about run
    → IsRunWith about.opened.value about.script.value false about.plan run
fixed_run log_seen data_seen about run none is =
    subst (λ (s : List ScriptLine).
    IsRunWith about.opened.value s false about.plan run)
    (is.fixed none)
    (subst (λ (b : Bool). IsRunWith about.opened.value is.script b about.plan run)
    (ap (λ (o : Option Live). is_some o) none) is.is_run)
