-- What a turn of a store whose users write for themselves asks of both devices, over its parts and seats.
-- The invariant of a running store whose users write for themselves, over its parts and seats, in a run that is its own;
-- and one turn of it.
-- A run whose users write for themselves, at its beginning.
use Rattle.std.specs.Prelude.{ℕ, Bool, List, Option, is_some, [], ◌∷◌, ◌≡◌}
use Rattle.model_core.specs.declared.ops.Step.{Step}
use Rattle.model_own.specs.{OwnCore, OwnTurn, OwnUser}
use Rattle.model_ownrun.specs.OwnRuns.{AskAtSeat}
use Rattle.redo_disk.specs.{Call, Seen}
use Rattle.redo_drive.specs.{AskOfParts, lists_of, HasComeTo, IsBeside, RunsFromWith, RunsWith, views_of}
use Rattle.redo_drive.specs.Sides.{RunOf, run_data_side, run_log_side}
use Rattle.redo_drive.specs.declared.parts.Parts.{Parts}
use Rattle.redo_ownmachine.specs.OwnSeats.{OwnSeats, actors_of, AreAtHome}
use Rattle.model_core.specs.{Given}
use Rattle.model_core.specs.declared.ops.Answer.{Answer}
use Rattle.model_ownrun.specs.OwnRunning.{AloneRunning, Errands}
use Rattle.redo_archive.specs.Part.{Part}
use Rattle.redo_drive.specs.declared.actor.Actor.{Actor}
use Rattle.redo_machine.specs.Reading.{AreNumbered}
use Rattle.redo_ownmachine.specs.OwnCrew.{crew_of, seats_of, HasRoom}
use Rattle.redo_ownmachine.specs.declared.machine.OwnMachine.{OwnMachine}
use Rattle.model_core.specs.States as model
use Rattle.model_script.specs.declared.script.ScriptLine.{ScriptLine}
use Rattle.redo_drive.specs.Begins.{BeginsWith}
use Rattle.redo_drive.specs.declared.making.Beginning.{Beginning}
use Rattle.redo_drive.specs.declared.plan.Plan.{Plan}
use Rattle.redo_follow.specs.Following.{Following}
use Rattle.redo_store.specs.declared.opened.Opened.{Opened}

-- such a store, as the definitions see it
abbrev pub own_core_of : {L D : Type 0} (log_seen : L → Seen) (data_seen : D → Seen) (run : RunOf L D) → Parts L D
    → OwnSeats → OwnCore (run_log_side log_seen data_seen run) (run_data_side log_seen data_seen run)
own_core_of log_seen data_seen run parts seats = record {
  layout = parts.words.layout;
  words = parts.words.words;
  log_part = parts.log;
  data_part = parts.store;
  lists = lists_of parts.lists;
  users = seats.users;
  work = seats.work;
  others = seats.others;
}

-- Both devices were asked for what the Op of the one at the seat asks of them, or up to an error, and for nothing else.
abbrev pub AskInRun : {L D : Type 0} (log_seen : L → Seen) (log_gives : L → Call → L → Type 0) (data_seen : D → Seen)
    (data_gives : D → Call → D → Type 0) (run : RunOf L D)
    → OwnCore (run_log_side log_seen data_seen run) (run_data_side log_seen data_seen run) → ℕ → Step
    → OwnCore (run_log_side log_seen data_seen run) (run_data_side log_seen data_seen run) → Type 0
AskInRun log_seen log_gives data_seen data_gives run = AskAtSeat (run_log_side log_seen data_seen run)
    (run_data_side log_seen data_seen run) (AskOfParts log_gives data_gives)

module _ {L D : Type 0} (log_seen : L → Seen) (data_seen : D → Seen) (run : RunOf L D) where
  -- The invariant of a running store holds, had the store a writer and a flusher, in a run that is this one; and one
  -- user at most has the log's work in hand. Unless it is archived no archiver is among the actors.
  pub record OwnRunsWith (archive : Bool) (parts : Parts L D) (seats : OwnSeats) : Type 0 where
    pub runs : RunsWith log_seen data_seen run archive parts (actors_of seats)
    pub errands : Errands (run_log_side log_seen data_seen run) parts.log seats.users seats.work

  -- one user, the log alone and no other actor
  abbrev pub OwnAlone : Parts L D → OwnSeats → Type 0
  OwnAlone parts seats = AloneRunning (run_log_side log_seen data_seen run) (run_data_side log_seen data_seen run)
      run.setup (own_core_of log_seen data_seen run parts seats)

-- A machine on some run, with its archive beside its actors, if it has one.
pub record OwnIsOnRun {L D A R : Type 0} (log_seen : L → Seen) (data_seen : D → Seen) (arch_seen : A → Seen)
    (machine : OwnMachine L D A R) : Type 0 where
  pub run : RunOf L D
  pub runs : OwnRunsWith log_seen data_seen run (is_some machine.archive) machine.parts (seats_of machine)
  pub beside : IsBeside arch_seen run.setup machine.parts.words.words (actors_of (seats_of machine)) machine.archive
  pub numbered : AreNumbered (crew_of machine)

-- The run that began with the first of these actors, and with this archive, has come to the machine, with what
-- followers' receivers have got.
pub record OwnComesFrom {L D A R : Type 0} (log_seen : L → Seen) (data_seen : D → Seen) (arch_seen : A → Seen)
    (arch_gives : A → Call → A → Type 0) (stands : R → List Given → Type 0) (run : RunOf L D) (archive : Bool)
    (starts : List (Actor R)) (before : Option (Part A)) (machine : OwnMachine L D A R) : Type 0 where
  pub from : RunsFromWith log_seen data_seen stands run archive starts machine.parts (crew_of machine)
  pub errands : Errands (run_log_side log_seen data_seen run) machine.parts.log machine.users.items machine.work
  pub come : HasComeTo log_seen data_seen arch_seen arch_gives run machine.parts (views_of (crew_of machine)) from.runs
      before machine.archive

module _ {L D : Type 0} (log_seen : L → Seen) (log_gives : L → Call → L → Type 0) (data_seen : D → Seen)
    (data_gives : D → Call → D → Type 0) (run : RunOf L D) where
  -- one turn of the definition, with some answer, and what it asked of both devices
  pub record TakesOwnTurn (old : Parts L D) (seats : OwnSeats) (seat : ℕ) (step : Step) (new : Parts L D)
      (after : OwnSeats) : Type 0 where
    pub answer : Answer
    pub turn : OwnTurn (run_log_side log_seen data_seen run) (run_data_side log_seen data_seen run)
        (own_core_of log_seen data_seen run old seats) seat answer step (own_core_of log_seen data_seen run new after)
    pub asked : AskInRun log_seen log_gives data_seen data_gives run (own_core_of log_seen data_seen run old seats) seat
        step (own_core_of log_seen data_seen run new after)

-- THE MACHINE STANDS AT THE BEGINNING of the run of this script on this store, by this plan, and with these followers: its
-- actors are those of any run, but the users write for themselves, and none is on an errand.
pub record OwnBeginsRun {L D A R : Type 0} (log_seen : L → Seen) (data_seen : D → Seen)
    (stands : R → List Given → Type 0) (opened : Opened L D) (script : List ScriptLine) (plan : Plan)
    (followers : List (Following R)) (machine : OwnMachine L D A R) : Type 0 where
  pub start : Beginning L D R
  pub begins : BeginsWith log_seen data_seen stands opened script plan followers start
  pub parts : machine.parts ≡ start.parts
  pub entries : machine.entries ≡ start.entries
  pub crew : crew_of machine ≡ start.actors.items
  pub at_home : AreAtHome machine.users.items
  pub has_room : HasRoom machine
  pub runs : OwnRunsWith log_seen data_seen begins.run plan.archive machine.parts (seats_of machine)
  -- a user with no other actor, so that it has the log for itself
  pub alone : (user : OwnUser) → machine.users.items ≡ user ∷ []
      → ◌≡◌ {A = List model.Actor} (views_of machine.others.items) []
      → OwnAlone log_seen data_seen begins.run machine.parts (seats_of machine)
