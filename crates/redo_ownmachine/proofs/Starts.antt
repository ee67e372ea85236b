-- A machine at the beginning of its run, with what its followers have got, and with its archive; and its room at the end.
use Rattle.std.proofs.Common.{Bool, List, Option, [], ℕ, ◌≤◌, arith, is_some, refl, subst, sym, ◌∙◌, ◌≡◌, ap, length, vec_capacity, Global, Vec}
use Rattle.std.specs.Prelude.{IfSome}
use Rattle.model_core.specs.States as model
use Rattle.model_core.specs.{Given}
use Rattle.model_report.specs.declared.entry.Entry.{Entry}
use Rattle.model_script.specs.declared.script.ScriptLine.{ScriptLine}
use Rattle.redo_archive.specs.Part.{Part}
use Rattle.redo_disk.specs.{Call, Seen}
use Rattle.redo_drive.specs.{IsBeside, AreNewFollowers, IsNewArchive, MayBegin, views_of, plan_with}
use Rattle.redo_drive.specs.declared.actor.Actor.{Actor}
use Rattle.redo_drive.specs.declared.parts.Parts.{Parts}
use Rattle.redo_drive.specs.declared.plan.Plan.{Plan}
use Rattle.redo_follow.specs.Following.{Following}
use Rattle.redo_machine.proofs.ArchiveStarts as starts
use Rattle.redo_machine.specs.Reading.{AreNumbered}
use Rattle.redo_ownmachine.proofs.Comes.{HasComeWith}
use Rattle.redo_ownmachine.proofs.Places.{crew_views}
use Rattle.redo_ownmachine.specs.OwnStore.{OwnBeginsRun, OwnComesFrom, OwnIsOnRun, OwnRunsWith}
use Rattle.redo_ownmachine.specs.OwnCrew.{HasRoom, HasSameSeats, crew_of, seats_of}
use Rattle.redo_ownmachine.specs.declared.machine.OwnMachine.{OwnMachine}
use Rattle.redo_store.specs.declared.opened.Opened.{Opened}

module _ {L D A R : Type 0} (log_seen : L → Seen) (data_seen : D → Seen) (seen : A → Seen)
    (gives : A → Call → A → Type 0) (stands : R → List Given → Type 0) (opened : Opened L D) (script : List ScriptLine)
    (log_only : Bool)
    (before : Option (Part A)) (followers : List (Following R)) (m : OwnMachine L D A R)
    (B : OwnBeginsRun log_seen data_seen stands opened script (plan_with log_only before followers) followers m)
    (may : MayBegin opened script log_only) (archived : IfSome before (IsNewArchive seen opened script))
    (is : m.archive ≡ before) where
  abbrev Has : Parts L D → List (Actor R) → Option (Part A) → Type 0
  Has parts actors part = HasComeWith log_seen data_seen seen gives stands B.begins.run (is_some before)
      B.start.actors.items before parts actors part

  came : Has m.parts (crew_of m) m.archive
  came = subst (λ (p : Parts L D). Has p (crew_of m) m.archive) (sym B.parts)
      (subst (λ (l : List (Actor R)). Has B.start.parts l m.archive) (sym B.crew)
      (subst (λ (a : Option (Part A)). Has B.start.parts B.start.actors.items a) (sym is) (
        B.begins.from,
        starts.comes log_seen data_seen seen stands opened script (plan_with log_only before followers)
            followers B.start B.begins may gives before refl archived,
      )))

  -- SO THE RUN HAS COME TO THE MACHINE.
  pub from_start : OwnComesFrom log_seen data_seen seen gives stands B.begins.run (is_some before)
      B.start.actors.items before m
  from_start = let C = came in record { from = C.0; errands = B.runs.errands; come = C.1 }

  pub on_its_run : AreNewFollowers opened.start followers → OwnIsOnRun log_seen data_seen seen m
  on_its_run new = record {
    run = B.begins.run;
    runs = subst (λ (a : Option (Part A)). OwnRunsWith log_seen data_seen B.begins.run (is_some a) m.parts (seats_of m))
        (sym is) B.runs;
    beside = subst (λ (l : List model.Actor). IsBeside seen B.begins.run.setup m.parts.words.words l m.archive)
        (crew_views m.work m.users.items m.others.items)
        (let C = came in starts.beside_of log_seen data_seen seen gives B.begins.run m.parts (views_of (crew_of m)) C.0.runs before
        m.archive C.1);
    numbered = subst AreNumbered (sym B.crew) (starts.numbered log_seen data_seen seen stands opened script
        (plan_with log_only before followers) followers B.start B.begins may new);
  }

pub has_still_room : {L D A R : Type 0} (old new : OwnMachine L D A R) → HasRoom old → HasSameSeats old new → HasRoom new
has_still_room {L} {D} {A} {R} old new had same = record {
  empty = ap (λ (v : Vec (Actor R) Global). v.items) same.room ∙ had.empty;
  enough =
      let enough = had.enough in
      let users = same.users in
      let others = same.others in
      let room = ap (λ (v : Vec (Actor R) Global). vec_capacity v) same.room in
      omega arith;
}

-- and its room for the history
module _ {L D A R : Type 0} (log_seen : L → Seen) (data_seen : D → Seen) (stands : R → List Given → Type 0)
    (opened : Opened L D) (script : List ScriptLine) (plan : Plan) (followers : List (Following R))
    (old new : OwnMachine L D A R)
    (B : OwnBeginsRun log_seen data_seen stands opened script plan followers old)
    (same : HasSameSeats old new) where
  pub no_entries : new.entries.items ≡ []
  no_entries = ap (λ (v : Vec Entry Global). v.items) (same.entries ∙ B.entries) ∙ B.begins.no_entries

  pub for_all : (n : ℕ) → n ≤ length script → n ≤ vec_capacity new.entries
  for_all n few =
      let room = ap (λ (v : Vec Entry Global). vec_capacity v) (same.entries ∙ B.entries) in
      let enough = B.begins.room in omega arith
