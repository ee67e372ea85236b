-- The archive of a run in threads, from its begin to what the run leaves.
use Rattle.std.proofs.Common.{Bool, List, None, Option, Some, ap, is_some, length, map, subst, sym, true, ◌∙◌, ◌≡◌}
use Rattle.atomic_table.specs.Seated.{TableId}
use Rattle.model_core.specs.{Given}
use Rattle.model_own.specs.{LogWork}
use Rattle.redo_archive.specs.Part.{Part}
use Rattle.redo_archiver.specs.{append_code}
use Rattle.redo_disk.specs.{Call, Seen}
use Rattle.redo_disk.specs.declared.error.DevError.{DevError}
use Rattle.redo_drive.specs.{HaveArchived, IsNewArchive, MayBegin, views_of}
use Rattle.redo_drive.specs.declared.actor.Actor.{Actor}
use Rattle.redo_drive.specs.declared.closed.Closed.{Closed}
use Rattle.redo_ownrule.specs.Leaving.{LeavesHeard}
use Rattle.redo_ownrule.specs.Players.{actor_of, crew}
use Rattle.redo_ownrule.specs.Sharing.{opened_of, own_of, shared_script}
use Rattle.redo_ownrule.specs.declared.player.Player.{Player}
use Rattle.redo_ownrule.specs.declared.shared.Shared.{Shared}
use Rattle.redo_rule.specs.Closing.{TellsLoss}
use Rattle.redo_rule.specs.Sharing.{AreFresh}
use Rattle.redo_rule.specs.declared.law.About.{About}
use Rattle.redo_threads.proofs.ArchiveBegins.{its_place, may_be, only_there, Owner, owner, stands_there, tells_loss}
use Rattle.redo_threads.proofs.ArchiveEnds.{left_archived}
use Rattle.redo_threads.specs.Archiving.{ArchiveStays, BeginsWithReaders, lost_of}
use Rattle.redo_threads.specs.Working.{KeepOn}
use Rattle.redo_threads.specs.declared.crew.Crew.{Crew}

module _ {L D A F : Type 0} {gives : A → Call → A → Type 0} (seen : A → Seen) (shared : Shared L D F)
    (players : List (Player F)) (B : BeginsWithReaders shared players)
    (fixed : shared.board.shared.key.live ≡ None) (stands : F → List Given → Type 0) (table : TableId)
    (x y : Crew L D F) (is : x.players.items ≡ players) (many : length x.seats.items ≡ length x.players.items) (keep : KeepOn stands table x y)
    (fresh : AreFresh (Some shared.board.shared.key) x.seats.items) (part : Part A)
    (new : IsNewArchive seen (opened_of shared) (shared_script shared) part)
    (may : MayBegin (opened_of shared) (shared_script shared) shared.board.shared.key.plan.log_only)
    (archived : shared.board.shared.key.plan.archive ≡ true) (later : Option (Part A))
    (st : ArchiveStays seen gives x part y later) where
  abbrev key : About L D
  key = shared.board.shared.key

  o : Owner seen gives key part st.seat.me.0 st.then later
  o = owner seen gives key part st.seat.me.0 st.then later
      (st.keeps key part (may_be seen shared players B fixed gives part new may x is fresh archived))

  lost_is : (lost : Option DevError) → lost ≡ lost_of later → lost ≡ o.part.failed
  lost_is lost told = told ∙ ap (λ (a : Option (Part A)). lost_of a) o.archive_is

  -- the archiver knows what its archive has met
  pub tells : (lost : Option DevError) → lost ≡ lost_of later
      → TellsLoss key.plan.archive (views_of (map actor_of y.players.items)) lost
  tells lost told = subst (λ (b : Bool). TellsLoss b (views_of (map actor_of y.players.items)) lost) (sym archived)
      (tells_loss seen shared players B fixed stands table x y is many keep st.place st.then st.then_at o.state
      o.player_is o.archives.pace.kind lost (o.archives.pace.lost ∙ ap append_code (sym (lost_is lost told))))

  -- SO THE RUN LEAVES ITS ARCHIVE.
  module _ (log_seen : L → Seen) (log_gives : L → Call → L → Type 0) (data_seen : D → Seen)
      (data_gives : D → Call → D → Type 0) (work : Option LogWork) (works : is_some work ≡ own_of shared)
      (actors : List (Actor F)) (actors_are : ◌≡◌ {A = List (Actor F)} actors (crew work y.players.items)) (closed : Closed L D)
      (left : LeavesHeard log_seen log_gives data_seen data_gives stands key.opened.value key.script.value
      key.plan (crew work players) actors y.seats.items closed) (told : closed.lost ≡ lost_of later) where
    pub leaves_archive : HaveArchived log_seen data_seen seen gives (opened_of shared) (shared_script shared) closed
        (views_of actors) (Some part) later
    leaves_archive = subst (λ (a : Option (Part A)). HaveArchived log_seen data_seen seen gives (opened_of shared)
        (shared_script shared) closed (views_of actors) (Some part) a) (sym o.archive_is)
        (left_archived log_seen log_gives data_seen data_gives seen stands key (crew work players) actors y.seats.items
        closed left st.place st.seat st.sits
        (its_place seen shared players B fixed stands table x y is many keep st.place st.then st.then_at o.state
        o.player_is o.archives.pace.kind work works actors actors_are) o.state
        (stands_there seen shared players B fixed stands table x y is many keep st.place st.then st.then_at o.state
        o.player_is o.archives.pace.kind work works actors actors_are)
        (only_there seen shared players B fixed stands table x y is many keep st.place st.then st.then_at o.state
        o.player_is o.archives.pace.kind work works actors actors_are) part o.part o.archives new.start
        (sym (lost_is closed.lost told)))
