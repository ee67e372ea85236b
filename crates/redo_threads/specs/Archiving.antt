-- The archive beside its archiver, which has a seat among others.
use Rattle.std.specs.Prelude.{IfSome, List, [], None, Option, Some, is_some, length, ℕ, ◌++◌, ◌≡◌, ◌≤◌}
use Rattle.std.specs.List.{AllByRecursion}
use lib.ListN.{get_elem?}
use mathlib.Core.Option.{some}
use Rattle.atomic_table.specs.Seated.{TableId}
use Rattle.atomic_table.specs.declared.shared.Seat.{Seat}
use Rattle.model_core.specs.{Given, next, ReaderState, took}
use Rattle.model_core.specs.States as model
use Rattle.model_core.specs.declared.ops.Op.TheVariants as op
use Rattle.model_core.specs.declared.words.Layout.{Layout}
use Rattle.model_log.specs.{IsRunOf}
use Rattle.model_log.specs.declared.group.Whole.{Whole}
use Rattle.model_own.specs.{LogWork}
use Rattle.model_page.specs.declared.content.Content.{Content}
use Rattle.model_script.specs.{script_end}
use Rattle.redo_archive.specs.Part.{Part, PartArchives}
use Rattle.redo_archiver.specs.{append_answer, IsFullBlock, KeepsPace}
use Rattle.redo_disk.specs.{Call, Seen}
use Rattle.redo_disk.specs.declared.error.DevError.{DevError}
use Rattle.redo_drive.specs.{Appends, IsSameArchive, AreNewFollowers, MayBegin, view_of, views_of}
use Rattle.redo_drive.specs.Begins.{EndsWithReaders}
use Rattle.redo_drive.specs.declared.actor.Actor.{Actor}
use Rattle.redo_drive.specs.declared.actor.Actor.TheVariants as actor
use Rattle.redo_follow.specs.Following.{Following}
use Rattle.redo_ownrule.specs.Players.{crew}
use Rattle.redo_ownrule.specs.Playing.{IsPlayerSeat}
use Rattle.redo_ownrule.specs.Sharing.{opened_of, own_of, starts_of}
use Rattle.redo_ownrule.specs.declared.player.Player.{Player}
use Rattle.redo_ownrule.specs.declared.player.Player.TheVariants as player
use Rattle.redo_ownrule.specs.declared.shared.Shared.{Shared}
use Rattle.redo_rule.specs.Handing.{appended_by}
use Rattle.redo_rule.specs.Mine.{heard_of, IsSameSeat}
use Rattle.redo_rule.specs.Seating.{IsSeatOf}
use Rattle.redo_rule.specs.declared.law.About.{About}
use Rattle.redo_rule.specs.declared.law.Block.{Block}
use Rattle.redo_rule.specs.declared.law.Slot.{Slot}
use Rattle.redo_rule.specs.declared.law.View.{View}
use Rattle.redo_threads.specs.Working.{AtEnd, GoesOn}
use Rattle.redo_threads.specs.declared.crew.Crew.{Crew}
use Rattle.redo_threads.specs.declared.crew.Worker.{Worker}

-- the block is one of a run in full, by its groups at an earlier time
pub record IsFullIn (start : ℕ) (wholes : List Whole) (b : Block) : Type 0 where
  pub early : List Whole
  pub late : List Whole
  pub are : wholes ≡ early ++ late
  pub full : IsFullBlock start early b.place b.bytes

-- where the last group of a table's script ends
abbrev pub end_about : {L D : Type 0} → About L D → ℕ
end_about about = script_end about.opened.value.shape about.opened.value.start about.script.value

-- AN ARCHIVE BESIDE ITS ARCHIVER, whose seat knows this of its table. It is the same archive as before, and as far as the
-- archiver. Of each run of which all blocks that the seat has handed on are full ones it archives the groups, if it was begun
-- as an archive.
pub record Archives {L D A : Type 0} (seen : A → Seen) (gives : A → Call → A → Type 0) (about : About L D)
    (before : Part A) (v : View L D) (r : ReaderState) (part : Part A) : Type 0 where
  pub told : v.about ≡ Some about
  -- the run is that of the script that its table was told
  pub fixed : about.live ≡ None
  pub may : MayBegin about.opened.value about.script.value about.plan.log_only
  pub same : IsSameArchive seen gives before part
  pub flushed : ℕ
  pub pace : KeepsPace seen (end_about about) flushed r part
  -- what it was asked for last is its newest mark, or, once that has failed, at most what the archiver has loaded
  pub later : part.marks.mark ≤ part.marks.asked
  pub live : part.failed ≡ None → part.marks.asked ≡ part.marks.mark
  pub over : (part.failed ≡ None → ⊥) → part.marks.asked ≤ r.mark
  pub archives : (pages : List Content) → PartArchives seen pages [] before
      → (wholes : List Whole) → IsRunOf part.start wholes → AllByRecursion (IsFullIn part.start wholes) (heard_of v).blocks
      → PartArchives seen pages wholes part

-- it is the archiver
abbrev pub IsArchiver : {F : Type 0} → Actor F → Type 0
IsArchiver (actor.Archiver r) = Unit {0}
IsArchiver _ = ⊥

-- THE BLOCK THAT THE ARCHIVER HAS READ WAS APPENDED: its archive tells what that met, and its seat has heard of the block.
pub record HasAppended {L D A F : Type 0} (seen : A → Seen) (gives : A → Call → A → Type 0)
    (stands : F → List Given → Type 0) (table : TableId) (mark : ℕ) (s : Seat (Slot L D) (View L D)) (a : Actor F)
    (old : Part A) (t : Seat (Slot L D) (View L D)) (b : Actor F)
    (new : Part A) : Type 0 where
  pub archiver : ReaderState
  pub is : ◌≡◌ {A = Actor F} a (actor.Archiver archiver)
  pub asks : next (model.Reader archiver) ≡ op.Append mark
  pub appends : Appends seen gives archiver old (append_answer new.failed) new
  pub sits : IsSeatOf table t (view_of b)
  pub same : IsSameSeat stands s.me.0 a t.me.0 b
  pub took : view_of b ≡ took (view_of a) (append_answer new.failed)
  pub blocks : (heard_of t.me.0).blocks ≡ (heard_of s.me.0).blocks ++ appended_by (view_of a)

abbrev pub IsArchiving : {F : Type 0} → Player F → Type 0
IsArchiving (player.Plain a) = IsArchiver a
IsArchiving (player.Own o) = ⊥

-- what an archive has met that failed, if there is one
abbrev pub lost_of : {A : Type 0} → Option (Part A) → Option DevError
lost_of None = None
lost_of (Some part) = part.failed

-- THE LAST OF THE PLAYERS READ THE LOG: a new archiver, if the run is archived, and new followers.
pub record BeginsWithReaders {L D F : Type 0} (shared : Shared L D F) (players : List (Player F)) : Type 0 where
  pub followers : List (Following F)
  pub new : AreNewFollowers (opened_of shared).start followers
  pub many : shared.board.shared.key.plan.followers ≡ length followers
  pub work : Option LogWork
  pub works : is_some work ≡ own_of shared
  pub actors_are : starts_of shared ≡ views_of (crew work players)
  pub readers : EndsWithReaders (opened_of shared).start shared.board.shared.key.plan.archive (crew work players) followers

-- a worker's seat has these words, if there is one
abbrev pub IsLaidOut : {L D A F : Type 0} → Layout → Option (Worker L D A F) → Type 0
IsLaidOut layout worker = IfSome worker (λ w. w.seat.me.0.layout ≡ layout)

-- a worker has come to its end, if there is one
abbrev pub AtItsEnd : {L D A F : Type 0} → Option (Worker L D A F) → Type 0
AtItsEnd worker = IfSome worker (λ w. AtEnd w.player)

module _ {L D A F : Type 0} (seen : A → Seen) (gives : A → Call → A → Type 0) where
  -- the player is the archiver, and this its archive
  abbrev pub KeepsArchive : About L D → Part A → View L D → Player F → Option (Part A) → Type 0
  KeepsArchive about before v (player.Plain (actor.Archiver r)) (Some part) = Archives seen gives about before v r part
  KeepsArchive about before v _ _ = ⊥

  -- if there is an archive, it is so
  abbrev pub MayArchive : View L D → Player F → Option (Part A) → Type 0
  MayArchive v p archive =
      IfSome archive (λ part. (about : About L D) × (before : Part A) × KeepsArchive about before v p archive)

  -- an archive stays one, later
  pub record ArchiveGoesOn (v : View L D) (p : Player F) (old : Option (Part A)) (w : View L D) (q : Player F)
      (new : Option (Part A)) : Type 0 where
    pub none : old ≡ None → new ≡ None
    pub some : (about : About L D) (before : Part A) → KeepsArchive about before v p old → KeepsArchive about before w q new

  -- the same player, later, in the same seat of this table, and its archive
  pub record GoesOnWith (stands : F → List Given → Type 0) (table : TableId) (s : Seat (Slot L D) (View L D)) (p : Player F)
      (old : Option (Part A)) (t : Seat (Slot L D) (View L D)) (q : Player F) (new : Option (Part A)) : Type 0 where
    pub player : GoesOn stands table s p t q
    pub archive : ArchiveGoesOn s.me.0 p old t.me.0 q new

  -- a worker may play, if there is one, and has gone on
  abbrev pub MayWork : TableId → Option (Worker L D A F) → Type 0
  MayWork table worker = IfSome worker (λ w. IsPlayerSeat table w.seat w.player × MayArchive w.seat.me.0 w.player w.archive)

  abbrev pub WorksOn : (F → List Given → Type 0) → TableId → Option (Worker L D A F) → Option (Worker L D A F) → Type 0
  WorksOn stands table None None = Unit {0}
  WorksOn stands table (Some w) (Some v) = GoesOnWith stands table w.seat w.player w.archive v.seat v.player v.archive
  WorksOn stands table _ _ = ⊥

  -- ONE OF THE PLAYERS IS THE ARCHIVER, and whichever is has this archive beside it.
  pub record MayBeArchived (about : About L D) (before : Part A) (crew : Crew L D F) (part : Part A) : Type 0 where
    pub place : ℕ
    pub one : Player F
    pub at : get_elem? crew.players.items place ≡ some one
    pub archives : IsArchiving one
    pub each : (i : ℕ) (s : Seat (Slot L D) (View L D)) (p : Player F) → get_elem? crew.seats.items i ≡ some s
        → get_elem? crew.players.items i ≡ some p → IsArchiving p → KeepsArchive about before s.me.0 p (Some part)

  -- the player at some place is the archiver, then and later, and has its archive beside it
  pub record ArchiveStays (old : Crew L D F) (part : Part A) (new : Crew L D F) (later : Option (Part A)) : Type 0 where
    pub place : ℕ
    pub one : Player F
    pub at : get_elem? old.players.items place ≡ some one
    pub archives : IsArchiving one
    pub seat : Seat (Slot L D) (View L D)
    pub then : Player F
    pub sits : get_elem? new.seats.items place ≡ some seat
    pub then_at : get_elem? new.players.items place ≡ some then
    pub keeps : (about : About L D) (before : Part A) → MayBeArchived about before old part
        → KeepsArchive about before seat.me.0 then later

  -- the same where there is an archive; else there is none then
  abbrev pub LeavesArchive : (old : Crew L D F) → Option (Part A) → (new : Crew L D F) → Option (Part A) → Type 0
  LeavesArchive old None new later = later ≡ None
  LeavesArchive old (Some part) new later = ArchiveStays old part new later
