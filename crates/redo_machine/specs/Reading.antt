-- Playing what an actor asks for, where that may be a read of the log.
-- Turns of a machine that has an archive.
use Rattle.std.specs.Prelude.{List, ℕ, ◌≡◌, ◌≢◌, ◌⊎◌, Bool, None, Option, Some, is_some, ◌<◌}
use Rattle.model_core.specs.{lent, next, answer_of, Given, ReaderState, AnswerFits}
use Rattle.model_core.specs.States as model
use Rattle.model_core.specs.declared.ops.Answer.{Answer}
use Rattle.model_core.specs.declared.ops.Op.TheVariants as op
use Rattle.redo_archiver.specs.Lending as archiving
use Rattle.redo_disk.specs.{Seen, Call}
use Rattle.redo_drive.specs.{IsPlayed, RunOf, RunsFromWith, RunsWith, IsServed, MayServe, view_of, views_of, Appends, HasComeTo, IsBeside, lists_of, MarkFits}
use Rattle.redo_drive.specs.declared.actor.Actor.{Actor}
use Rattle.redo_drive.specs.declared.actor.Actor.TheVariants as own
use Rattle.redo_drive.specs.declared.parts.Parts.{Parts}
use Rattle.redo_follow.specs.Lending as following
use lib.ListN.{get_elem?}
use mathlib.Core.Option.{some}
use Rattle.model_core.specs.declared.ops.Step.{Step}
use Rattle.model_running.specs.{IsNoAppend}
use Rattle.redo_archive.specs.Part.{Part}
use Rattle.redo_archiver.specs.{MayAppendBlock}
use Rattle.redo_disk.specs.declared.error.DevError.{DevError}
use Rattle.redo_follow.specs.Following.{Following}
use Rattle.redo_machine.specs.declared.machine.Machine.{Machine}

-- the actor is a reader of the log, and has these bytes as its block then; nothing else of it changed
abbrev pub HasBlock : {R : Type 0} → List ℕ → Actor R → Actor R → Type 0
HasBlock {R} bytes (own.Archiver archiver) after =
    ◌≡◌ {A = Actor R} after (own.Archiver (archiving.with_block archiver bytes))
HasBlock {R} bytes (own.Follower follower) after =
    ◌≡◌ {A = Actor R} after (own.Follower (following.with_block follower bytes))
HasBlock bytes _ after = ⊥

-- THE BLOCK AT AN LSN WAS READ FOR AN ACTOR, which asked for that, and which has what the read gave as its block. In each
-- run the read of these bytes was played, with this answer.
pub record HasRead {L D R : Type 0} (log_seen : L → Seen) (data_seen : D → Seen) (lsn : ℕ)
    (old : Parts L D) (actor : Actor R) (answer : Answer) (new : Parts L D) (after : Actor R) : Type 0 where
  pub asks : next (view_of actor) ≡ op.ReadBlock lsn
  pub bytes : List ℕ
  pub has : HasBlock bytes actor after
  pub played : (run : RunOf L D) → IsPlayed log_seen data_seen run (op.ReadBlock lsn) (model.Room bytes) old answer new

-- ANOTHER OP WAS PLAYED FOR AN ACTOR, with what the actor lends, in each run. The actor is the same.
pub record HasPlayedOther {L D R : Type 0} (log_seen : L → Seen) (data_seen : D → Seen)
    (old : Parts L D) (actor : Actor R) (answer : Answer) (new : Parts L D) (after : Actor R) : Type 0 where
  pub other : (lsn : ℕ) → next (view_of actor) ≢ op.ReadBlock lsn
  pub same : after ≡ actor
  pub played : (run : RunOf L D) → IsPlayed log_seen data_seen run (next (view_of actor)) (lent (view_of actor)) old
      answer new

-- the Op that an actor asks for was played for it
abbrev pub HasPlayed : {L D R : Type 0} → (L → Seen) → (D → Seen) → Parts L D → Actor R → Answer → Parts L D → Actor R
    → Type 0
HasPlayed log_seen data_seen old actor answer new after =
    ((lsn : ℕ) × HasRead log_seen data_seen lsn old actor answer new after)
    ⊎ HasPlayedOther log_seen data_seen old actor answer new after

-- there is an archive, to which a block may be appended up to this mark
abbrev pub MayAppendTo : {A : Type 0} → (A → Seen) → Option (Part A) → ℕ → Type 0
MayAppendTo seen None mark = ⊥
MayAppendTo seen (Some part) mark = MayAppendBlock seen part mark

-- it is the archiver
abbrev pub IsArchiver : {R : Type 0} → Actor R → Type 0
IsArchiver (own.Archiver archiver) = Unit {0}
IsArchiver _ = ⊥

-- An actor may have its turn beside an archive: what it asks for may be played, or appended, and any answer to it is one
-- that it may take.
pub record MayServeWith {L D A R : Type 0} (seen : A → Seen) (parts : Parts L D) (archive : Option (Part A)) (actor : Actor R) : Type 0 where
  pub other : IsNoAppend (next (view_of actor)) → MayServe parts (view_of actor)
  pub append : (mark : ℕ) → next (view_of actor) ≡ op.Append mark → MayAppendTo seen archive mark × IsArchiver actor
  pub fits : (code mark : ℕ) → AnswerFits (view_of actor)
      (answer_of parts.words.layout (lists_of parts.lists) (is_some parts.log.failed) code mark parts.words.words
      (next (view_of actor)))
  pub mark : (code mark : ℕ) → MarkFits (view_of actor)
      (answer_of parts.words.layout (lists_of parts.lists) (is_some parts.log.failed) code mark parts.words.words
      (next (view_of actor)))

-- THE BLOCK THAT THE ARCHIVER HAS READ WAS APPENDED, with this answer.
pub record HasAppended {A R : Type 0} (seen : A → Seen) (gives : A → Call → A → Type 0) (old : Option (Part A))
    (actor : Actor R) (answer : Answer) (new : Option (Part A)) : Type 0 where
  pub archiver : ReaderState
  pub is : ◌≡◌ {A = Actor R} actor (own.Archiver archiver)
  pub before : Part A
  pub before_is : old ≡ Some before
  pub after : Part A
  pub after_is : new ≡ Some after
  pub appends : Appends seen gives archiver before answer after

-- the archive was appended to for an actor, with this answer; or the actor asked for something else, and the archive is the same
abbrev pub ServesArchive : {A R : Type 0} → (A → Seen) → (A → Call → A → Type 0) → Option (Part A) → Actor R → Answer
    → Option (Part A) → Type 0
ServesArchive seen gives old actor answer new =
    HasAppended seen gives old actor answer new ⊎ (IsNoAppend (next (view_of actor)) × (new ≡ old))

-- An actor has had its turn beside an archive.
pub record IsServedWith {L D A R : Type 0} (log_seen : L → Seen) (data_seen : D → Seen) (arch_seen : A → Seen)
    (arch_gives : A → Call → A → Type 0) (stands : R → List Given → Type 0) (run : RunOf L D) (old : Parts L D)
    (before : Option (Part A)) (actor : Actor R) (step : Step)
    (new : Parts L D) (archive : Option (Part A)) (after : Actor R) : Type 0 where
  pub served : IsServed log_seen data_seen stands run old actor step new after
  pub archives : ServesArchive arch_seen arch_gives before actor served.answer archive

-- what a call of the archive answered that failed, if there is one
abbrev pub lost_by : {A : Type 0} → Option (Part A) → Option DevError
lost_by None = None
lost_by (Some part) = part.failed

-- each follower has a number of its own
abbrev pub AreNumbered : {R : Type 0} → List (Actor R) → Type 0
AreNumbered {R} actors = (seat : ℕ) (follower : Following R) → get_elem? actors seat ≡ some (own.Follower follower)
    → 0 < follower.state.number

-- A machine on some run, with its archive beside its actors, if it has one.
pub record IsOnRun {L D A R : Type 0} (log_seen : L → Seen) (data_seen : D → Seen) (arch_seen : A → Seen) (machine : Machine L D A R) : Type 0 where
  pub run : RunOf L D
  pub runs : RunsWith log_seen data_seen run (is_some machine.archive) machine.parts (views_of machine.actors.items)
  pub beside : IsBeside arch_seen run.setup machine.parts.words.words (views_of machine.actors.items) machine.archive
  pub numbered : AreNumbered machine.actors.items

-- The run that began with the first of these actors, and with this archive, has come to this machine.
pub record ComesFrom {L D A R : Type 0} (log_seen : L → Seen) (data_seen : D → Seen) (arch_seen : A → Seen)
    (arch_gives : A → Call → A → Type 0) (stands : R → List Given → Type 0) (run : RunOf L D) (archive : Bool)
    (starts : List (Actor R)) (before : Option (Part A))
    (machine : Machine L D A R) : Type 0 where
  pub from : RunsFromWith log_seen data_seen stands run archive starts machine.parts machine.actors.items
  pub come : HasComeTo log_seen data_seen arch_seen arch_gives run machine.parts (views_of machine.actors.items)
      from.runs before machine.archive
