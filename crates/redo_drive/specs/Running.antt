-- What playing an Op asks for, and what it does; one turn of an actor, and FAILED after it; and the invariant of a running store
-- over its parts and actors, in a run that is its own, with what followers' receivers have got.
use Rattle.std.specs.Prelude.{None, length, ℕ, ◌<◌, ◌≡◌, is_some, List, slice_index, ◌⊎◌, Bool, [], cond, ◌≤◌}
use lib.ListN.{get_elem?}
use mathlib.Core.Option.{some}
use Rattle.model_base.specs.declared.shape.Shape.{Shape}
use Rattle.model_core.specs.States as model
use Rattle.model_core.specs.{answer_of, BatchPage, DataServed, Each, list_word, lists_left, LogServed, OpWords, OwnServed, words_left, filled, Filling, Fills, Given, lent, next, step_of, took, archives, Entry, lsn, AnswerFits, failed_at}
use Rattle.model_core.specs.declared.ops.Answer.{Answer}
use Rattle.model_core.specs.declared.ops.Op.{Op}
use Rattle.model_core.specs.declared.ops.Op.TheVariants as op
use Rattle.model_parts.specs.{IsWritable, MayBeNext}
use Rattle.model_running.specs.Appending.{IsNoAppend}
use Rattle.model_running.specs.Ready.{ListReady}
use Rattle.redo_disk.specs.{Seen}
use Rattle.redo_logdev.specs.{MayRead, MayWrite}
use Rattle.redo_logdev.specs.Part as log
use Rattle.redo_drive.specs.Lists.{lists_of}
pub use Rattle.redo_drive.specs.Sides.{RunOf, run_data_side, run_log_side, core_of}
use Rattle.redo_drive.specs.declared.parts.Parts.{Parts}
use Rattle.redo_store.specs.Part as store
use Rattle.redo_words.specs.{HoldsSum, Lends}
use Rattle.redo_words.specs.declared.lent.Lent.{Lent}
use Rattle.redo_words.specs.declared.lent.Lent.TheVariants as lends
use Rattle.model_core.specs.Program.{Turn}
use Rattle.model_core.specs.declared.ops.Step.{Step}
use Rattle.redo_drive.specs.Receiving.{follower_of, handed_by, HasGot, IsSameFollower, MarkFits}
use Rattle.redo_drive.specs.History.{view_of, views_of}
use Rattle.redo_drive.specs.declared.actor.Actor.{Actor}
use Rattle.model_base.specs.{IsWithinLimits}
use Rattle.model_base.specs.declared.limits.TheConstants.{START_LSN}
use Rattle.model_running.specs.{AreSeated, HasBytes, IsRunning}
use Rattle.model_running.specs.ReadHalf.{groups_upto}

-- a write of the log may be made with what is lent, and the writing of a batch
abbrev pub MayWriteLent : {L : Type 0} → log.Part L → ℕ → Lent → Type 0
MayWriteLent part mark (lends.Blocks bytes firsts) = MayWrite part mark bytes.now firsts.now
MayWriteLent part mark _ = ⊥

abbrev pub MayBatchLent : {D : Type 0} → store.Part D → Lent → Type 0
MayBatchLent part (lends.Batch pages frames) = (part.failed ≡ None) × IsWritable part.shape pages.now frames.now
MayBatchLent part _ = ⊥

-- the conditions of a call of the log part, and of the data part
abbrev pub LogReady : {L : Type 0} → log.Part L → Lent → Op → Type 0
LogReady part l (op.WriteTo mark) = MayWriteLent part mark l
LogReady part l op.Sync = part.failed ≡ None
LogReady part l (op.Checkpoint x) = (part.failed ≡ None) × MayBeNext part.marks x
LogReady part l (op.ReadBlock x) = MayRead part x
LogReady part l _ = Unit {0}

abbrev pub DataReady : {D : Type 0} → store.Part D → Lent → Op → Type 0
DataReady part l op.WriteBatch = MayBatchLent part l
DataReady part l _ = Unit {0}

-- an Op that may be played on the parts, with what its actor lends
pub record IsPlayable {L D : Type 0} (parts : Parts L D) (o : Op) (l : Lent) : Type 0 where
  pub there : OpWords parts.words.layout o
  pub sum : HoldsSum parts.words.layout o parts.words.words
  pub listing : ListReady parts.lists.pages (lists_of parts.lists) o
  pub real : (i : ℕ) → Each (λ listed. 0 < listed.oldest) (lists_of parts.lists i)
  pub log : LogReady parts.log l o
  pub data_part : DataReady parts.store l o
  -- there is no archive to append to
  pub own : IsNoAppend o

-- what the log part's call tells
abbrev pub told_by : Op → ℕ → ℕ
told_by op.Sync stable = stable
told_by _ stable = 0

-- the pages of a batch that is written have all their bytes
abbrev pub HasWholePages : Shape → Op → model.Lent → Type 0
HasWholePages shape op.WriteBatch (model.Batch batch) = (i : ℕ) (x : BatchPage) → get_elem? batch i ≡ some x → length x.bytes ≡ shape.page_size
HasWholePages shape _ _ = Unit {0}

-- An Op was played, with what its actor lends as the definition of a turn has it.
pub record IsPlayed {L D : Type 0} (log_seen : L → Seen) (data_seen : D → Seen) (run : RunOf L D) (o : Op) (l : model.Lent) (old : Parts L D) (answer : Answer) (new : Parts L D) : Type 0 where
  pub code : ℕ
  pub log_served : LogServed (run_log_side log_seen data_seen run) old.log l o code new.log
  pub data_served : DataServed (run_data_side log_seen data_seen run) old.store l o code new.store
  pub own_served : OwnServed o code
  pub layout : new.words.layout ≡ old.words.layout
  pub words : new.words.words ≡ words_left old.words.layout old.words.words o
  pub lists : lists_of new.lists ≡ lists_left (lists_of old.lists) (list_word old.words.words) o
  pub answered : answer ≡ answer_of old.words.layout (lists_of old.lists) (is_some old.log.failed) code new.log.marks.stable
      old.words.words o

-- which words there are stays, and how many pages
pub record HasSamePages {L D : Type 0} (old new : Parts L D) : Type 0 where
  pub words : new.words.layout ≡ old.words.layout
  pub lists : new.lists.pages ≡ old.lists.pages

-- no device was called
pub record HasSameDevices {L D : Type 0} (old new : Parts L D) : Type 0 where
  pub log : new.log ≡ old.log
  pub data_part : new.store ≡ old.store

-- An actor may have its turn: what it asks for may be played, and any answer to it is one that it may take.
pub record MayServe {L D : Type 0} (parts : Parts L D) (who : model.Actor) : Type 0 where
  pub playable : (l : Lent) → Lends l (lent who) → IsPlayable parts (next who) l
  pub whole : HasWholePages parts.store.shape (next who) (lent who)
  pub fits : (code mark : ℕ) → AnswerFits who
      (answer_of parts.words.layout (lists_of parts.lists) (is_some parts.log.failed) code mark parts.words.words (next who))
  pub mark : (code mark : ℕ) → MarkFits who
      (answer_of parts.words.layout (lists_of parts.lists) (is_some parts.log.failed) code mark parts.words.words (next who))

-- An actor has had its turn, with what that put into it and with this answer; and what a follower hands on by it, its
-- receiver got.
pub record IsServed {L D R : Type 0} (log_seen : L → Seen) (data_seen : D → Seen) (stands : R → List Given → Type 0) (run : RunOf L D)
    (old : Parts L D) (actor : Actor R) (step : Step) (new : Parts L D) (after : Actor R) : Type 0 where
  pub filling : Filling
  pub fills : Fills (view_of actor) filling
  pub answer : Answer
  pub played : IsPlayed log_seen data_seen run (next (view_of actor)) (lent (filled (view_of actor) filling)) old answer new
  pub took : view_of after ≡ took (filled (view_of actor) filling) answer
  pub ends : step ≡ step_of (filled (view_of actor) filling) answer
  pub same : IsSameFollower (follower_of actor) (follower_of after)
  pub got : HasGot stands (follower_of actor) (handed_by (filled (view_of actor) filling)) (follower_of after)

module _ {L D : Type 0} (log_seen : L → Seen) (data_seen : D → Seen) (run : RunOf L D) where
  -- one turn of the definition, with some answer
  pub record TakesTurn (old : Parts L D) (actors : List model.Actor) (seat : ℕ) (step : Step) (new : Parts L D) (after : List model.Actor) : Type 0 where
    pub answer : Answer
    pub turn : Turn (run_log_side log_seen data_seen run) (run_data_side log_seen data_seen run)
        (core_of log_seen data_seen run old actors) seat answer step (core_of log_seen data_seen run new after)

-- the code in FAILED
abbrev pub code_in : {L D : Type 0} → Parts L D → ℕ
code_in parts = slice_index parts.words.words failed_at

-- FAILED's code has a cause: a call of a part answered an error that has this code.
abbrev pub FailedHasCause : {L D : Type 0} (log_seen : L → Seen) (data_seen : D → Seen) → RunOf L D → Parts L D → Type 0
FailedHasCause log_seen data_seen run parts =
    (run_log_side log_seen data_seen run).Cause parts.log (code_in parts) ⊎ (run_data_side log_seen data_seen run).Cause parts.store (code_in parts)

module _ {L D : Type 0} (log_seen : L → Seen) (data_seen : D → Seen) (run : RunOf L D) where
  -- The invariant of a running store holds, in a run that is this one. Unless it is archived no archiver is among the actors.
  pub record RunsWith (archive : Bool) (parts : Parts L D) (actors : List model.Actor) : Type 0 where
    pub limits : IsWithinLimits run.shape
    pub started : START_LSN ≤ lsn run.setup.base
    pub its_pages : run.shape.pages ≡ run.setup.pages
    pub its_page_size : run.shape.page_size ≡ run.setup.page_size
    pub followers : cond archive (Unit {0}) (0 < run.setup.first_reader)
    pub bytes : HasBytes run.setup
    pub its_slots : run.shape.slots ≡ run.setup.slots
    pub list_pages : parts.lists.pages ≡ run.setup.pages
    pub running : IsRunning (run_log_side log_seen data_seen run) (run_data_side log_seen data_seen run) run.setup (core_of log_seen data_seen run parts actors)
    pub seated : AreSeated run.live run.setup actors

-- they are on some run
pub record AreOnRun {L D : Type 0} (log_seen : L → Seen) (data_seen : D → Seen) (parts : Parts L D) (actors : List model.Actor) : Type 0 where
  pub run : RunOf L D
  pub archive : Bool
  pub runs : RunsWith log_seen data_seen run archive parts actors

-- the groups of a log up to a follower's place
abbrev pub groups_of : model.Actor → List Entry → List Given
groups_of (model.Reader r) log = cond (archives r) [] (groups_upto r.at log)
groups_of _ log = []

-- The run that began with the first of these actors has come to the others. The invariant holds; and where the log device
-- tells, each follower's receiver has got just the groups of the log up to the follower's place, in the log's order.
pub record RunsFromWith {L D R : Type 0} (log_seen : L → Seen) (data_seen : D → Seen) (stands : R → List Given → Type 0) (run : RunOf L D)
    (archive : Bool) (starts : List (Actor R)) (parts : Parts L D) (actors : List (Actor R)) : Type 0 where
  pub runs : RunsWith log_seen data_seen run archive parts (views_of actors)
  pub count : length actors ≡ length starts
  pub same : (seat : ℕ) (a b : Actor R) → get_elem? starts seat ≡ some a → get_elem? actors seat ≡ some b
      → IsSameFollower (follower_of a) (follower_of b)
  pub got : (run_log_side log_seen data_seen run).Tells parts.log
      → (seat : ℕ) (a b : Actor R) → get_elem? starts seat ≡ some a → get_elem? actors seat ≡ some b
      → HasGot stands (follower_of a) (groups_of (view_of b) runs.running.log_ghost.log) (follower_of b)
