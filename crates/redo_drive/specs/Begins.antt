-- A run at its beginning: what it takes memory for, and all that the invariant starts from.
use Rattle.std.specs.Prelude.{Bool, Err, List, Ok, Result, [], drop, false, length, map, suc, true, vec_capacity, ℕ, ◌-◌, ◌∷◌, ◌≡◌, ◌≤◌, IfSome}
use Rattle.model_base.specs.declared.shape.Shape.{Shape}
use Rattle.model_core.specs.{flat, new_reader, Given, Listed, SharedWords, Setup}
use Rattle.model_core.specs.States as model
use Rattle.model_page.specs.declared.content.Content.{Content}
use Rattle.redo_drive.specs.Lists.{empty_lists, lists_of}
use Rattle.redo_drive.specs.Setups.{first_words, seated_actors}
use Rattle.redo_drive.specs.StartWords.{AreStartWords, HoldBytes, StartsOn}
use Rattle.redo_drive.specs.History.{views_of}
use Rattle.redo_drive.specs.declared.actor.Actor.{Actor}
use Rattle.redo_drive.specs.declared.actor.Actor.TheVariants as own
use Rattle.redo_drive.specs.declared.making.Beginning.{Beginning}
use Rattle.redo_drive.specs.declared.memory.Own.{Own}
use Rattle.redo_drive.specs.declared.plan.Plan.{Plan}
use Rattle.redo_follow.specs.Following.{Following}
use Rattle.redo_store.specs.declared.opened.Opened.{Opened}
use Rattle.redo_words.specs.{shape_layout}
use Rattle.model_theorem.specs.{IsStart}
use Rattle.model_running.specs.StartStore.{StartStore}
use Rattle.model_script.specs.declared.script.ScriptLine.{ScriptLine}
use Rattle.model_store.specs.{Reading}
use Rattle.redo_disk.specs.{Seen}
use Rattle.redo_drive.specs.Beginning.{HaveBegun, IsRunWith, StandsOn}
use Rattle.redo_drive.specs.Startable.{HasReading}
use Rattle.redo_drive.specs.LiveActors.{live_actors, live_plan}
use Rattle.redo_drive.specs.Running.{RunOf, run_data_side, run_log_side, RunsFromWith}

-- the last actors are these followers, in their order
abbrev pub EndsWithFollowers : {R : Type 0} → List (Actor R) → List (Following R) → Type 0
EndsWithFollowers {R} actors followers =
    ◌≡◌ {A = List (Actor R)} (drop (length actors - length followers) actors) (map own.Follower followers)

-- a new archiver, if the run is archived
abbrev pub new_archiver : {R : Type 0} → (start : ℕ) → (archive : Bool) → List (Actor R)
new_archiver start true = own.Archiver (new_reader 0 start) ∷ []
new_archiver start false = []

-- the last actors are the readers of the log: a new archiver, if the run is archived, and these followers
abbrev pub EndsWithReaders : {R : Type 0} → (start : ℕ) → (archive : Bool) → List (Actor R) → List (Following R) → Type 0
EndsWithReaders {R} start true actors followers =
    ◌≡◌ {A = List (Actor R)} (drop (length actors - suc (length followers)) actors)
    (own.Archiver (new_reader 0 start) ∷ map own.Follower followers)
EndsWithReaders start false actors followers = EndsWithFollowers actors followers

-- The words of the run's start, empty lists, these actors in their seats, the last of which read the log, and room for so many
-- entries.
pub record IsOwnOf {R : Type 0} (shape : Shape) (pages : List Content) (start : ℕ) (firsts : List model.Actor) (archive : Bool)
    (new_followers : List (Following R)) (lines : ℕ) (own : Own R) : Type 0 where
  pub layout : own.words.layout ≡ shape_layout shape
  pub bytes : HoldBytes shape pages
  pub first : own.words.words ≡ flat (first_words shape.page_size start pages)
  pub words : (c : Setup) → StartsOn start shape pages c → AreStartWords own.words.words c
  pub lists : own.lists ≡ empty_lists shape.pages
  pub actors : views_of own.actors.items ≡ firsts
  pub readers : EndsWithReaders start archive own.actors.items new_followers
  pub no_entries : own.entries.items ≡ []
  pub room : lines ≤ vec_capacity own.entries

-- the run as it begins with that on a store
abbrev pub begun_on : {L D R : Type 0} → Opened L D → Own R → Beginning L D R
begun_on opened own = record {
  parts = record { words = own.words; log = opened.log; store = opened.store; lists = own.lists };
  actors = own.actors;
  entries = own.entries;
}

-- there was memory for it, and the run begins so
abbrev pub BeginsSo : {L D R E : Type 0} → Opened L D → Result (Own R) E → Beginning L D R → Type 0
BeginsSo opened (Ok own) start = start ≡ begun_on opened own
BeginsSo opened (Err e) start = ⊥

-- The store stands as the invariant wants it at the start: words, parts and actors, and no page is listed.
pub record IsAtStart {L D R : Type 0} (log_seen : L → Seen) (data_seen : D → Seen) (run : RunOf L D) (start : Beginning L D R) : Type 0 where
  pub words : SharedWords
  pub words_are : start.parts.words.words ≡ flat words
  pub seat_of : ℕ → ℕ
  pub writer : ℕ
  pub starts : StartStore (run_log_side log_seen data_seen run) (run_data_side log_seen data_seen run) run.setup words
      start.parts.log start.parts.store seat_of writer (views_of start.actors.items)
  pub none_listed : (i : ℕ) → ◌≡◌ {A = List Listed} (lists_of start.parts.lists i) []

-- PARTS AND ACTORS STAND AT THE BEGINNING of the run of this script on this store, a live one or not, by this plan, and with
-- these followers. These are the actors with which it begins.
pub record BeginsOn {L D R : Type 0} (log_seen : L → Seen) (data_seen : D → Seen) (stands_for : R → List Given → Type 0) (opened : Opened L D)
    (script : List ScriptLine) (live : Bool) (plan : Plan) (new_followers : List (Following R)) (firsts : List model.Actor)
    (start : Beginning L D R) : Type 0 where
  pub run : RunOf L D
  pub is_run : IsRunWith opened script live plan run
  pub at_start : IsAtStart log_seen data_seen run start
  pub stands : StandsOn opened firsts run start.parts (views_of start.actors.items)
  pub from : RunsFromWith log_seen data_seen stands_for run plan.archive start.actors.items start.parts start.actors.items
  pub many : plan.followers ≡ length new_followers
  pub followers : EndsWithReaders opened.start plan.archive start.actors.items new_followers
  pub words : start.parts.words.words ≡ flat (first_words opened.shape.page_size opened.start opened.pages)
  pub log : start.parts.log ≡ opened.log
  pub data_part : start.parts.store ≡ opened.store
  -- there is room for the history
  pub no_entries : start.entries.items ≡ []
  pub room : length script ≤ vec_capacity start.entries
  -- where the devices tell, and the store was ready, they hold what was opened
  pub begun : (reading : Reading) → HasReading reading opened
      → IfSome (log_seen opened.log.dev).tells (λ log_disk. IfSome (data_seen opened.store.dev).tells (λ data_disk.
      IsStart reading script log_disk data_disk → HaveBegun log_seen data_seen run))

-- THE RUN OF A SCRIPT BEGINS, whose users that have lines come first.
abbrev pub BeginsWith : {L D R : Type 0} → (L → Seen) → (D → Seen) → (R → List Given → Type 0) → Opened L D → List ScriptLine
    → Plan → List (Following R) → Beginning L D R → Type 0
BeginsWith log_seen data_seen stands_for opened script plan followers start =
    BeginsOn log_seen data_seen stands_for opened script false plan followers
    (seated_actors opened.shape script opened.start plan) start

-- A LIVE RUN BEGINS, whose users, so many, have no lines yet.
abbrev pub BeginsLive : {L D R : Type 0} → (L → Seen) → (D → Seen) → (R → List Given → Type 0) → Opened L D → (users : ℕ)
    → (log_only : Bool) → Beginning L D R → Type 0
BeginsLive log_seen data_seen stands_for opened users log_only start =
    BeginsOn log_seen data_seen stands_for opened [] true (live_plan log_only) []
    (live_actors opened.shape users opened.start (live_plan log_only)) start

-- the same where nothing is archived
abbrev pub BeginsRun : {L D R : Type 0} → (L → Seen) → (D → Seen) → (R → List Given → Type 0) → Opened L D → List ScriptLine
    → (log_only : Bool) → List (Following R) → Beginning L D R → Type 0
BeginsRun log_seen data_seen stands_for opened script log_only followers start =
    BeginsWith log_seen data_seen stands_for opened script
    (record { log_only = log_only; archive = false; followers = length followers }) followers start
