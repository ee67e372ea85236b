-- A player with an archive plays its Op.
use Rattle.std.proofs.Common.{List, None, Option, Some, ap, refl, subst, sym, ℕ, ⊎_elim, ◌++◌, ◌∙◌, ◌≡◌}
use Rattle.std.specs.List.{AllByRecursion}
use Rattle.atomic_table.specs.Seated.{TableId}
use Rattle.atomic_table.specs.declared.shared.Seat.{Seat}
use Rattle.model_core.proofs.Later.{took_later}
use Rattle.model_core.specs.{Given, ReaderState, took, IsSameActor}
use Rattle.model_core.specs.States as model
use Rattle.model_core.specs.declared.ops.Op.{Op}
use Rattle.model_core.specs.declared.ops.Op.TheVariants as op
use Rattle.model_core.specs.declared.ops.Step.{Step}
use Rattle.model_running.specs.{IsNoAppend}
use Rattle.redo_archive.specs.Part.{Part}
use Rattle.redo_archiver.specs.{append_answer}
use Rattle.redo_disk.specs.{Call, Seen}
use Rattle.redo_drive.proofs.ArchiveTurns.{one_reader}
use Rattle.redo_drive.specs.{follower_of, IsSameFollower, view_of}
use Rattle.redo_drive.specs.declared.actor.Actor.{Actor}
use Rattle.redo_drive.specs.declared.actor.Actor.TheVariants as own
use Rattle.redo_ownrule.specs.Players.{actor_of, IsSamePlayer}
use Rattle.redo_ownrule.specs.Playing.{IsPlayerSeat, PlayerAsks, PlayerHasGone}
use Rattle.redo_ownrule.specs.declared.player.Player.{Player}
use Rattle.redo_ownrule.specs.declared.player.Player.TheVariants as player
use Rattle.redo_rule.specs.Handing.{appended_by}
use Rattle.redo_rule.specs.Mine.{HasPlayed, heard_of, IsSameSeat}
use Rattle.redo_rule.specs.declared.law.About.{About}
use Rattle.redo_rule.specs.declared.law.Block.{Block}
use Rattle.redo_rule.specs.declared.law.Slot.{Slot}
use Rattle.redo_rule.specs.declared.law.View.{View}
use Rattle.redo_threads.proofs.Archivers.{all_front, archive_appended, archive_turned}
use Rattle.redo_threads.proofs.StaysReader.{still_archiver}
use Rattle.redo_threads.specs.Archiving.{Archives, GoesOnWith, HasAppended, IsArchiver, IsFullIn, KeepsArchive, MayArchive}

-- an Op that is no append appends nothing
pub no_append : (o : Op) → ((x : ℕ) → o ≡ op.Append x → ⊥) → IsNoAppend o
no_append (op.Append x) none = none x refl
no_append _ none = tt

no_part : {A : Type 0} (x : Part A) → ◌≡◌ {A = Option (Part A)} (Some x) None → ⊥
no_part x e = absurd (cc)

module _ {L D A F : Type 0} (log_seen : L → Seen) (data_seen : D → Seen) (seen : A → Seen)
    (gives : A → Call → A → Type 0) (stands : F → List Given → Type 0) (table : TableId) where
  -- AN APPEND
  module _ (s t : Seat (Slot L D) (View L D)) (a b : Actor F) (mark : ℕ) (old new : Part A)
      (H : HasAppended seen gives stands table mark s a old t b new) where
    abbrev r : ReaderState
    r = H.archiver

    took_is : view_of b ≡ took (model.Reader r) (append_answer new.failed)
    took_is = H.took ∙ ap (λ (z : Actor F). took (view_of z) (append_answer new.failed)) H.is

    later : IsSameActor (model.Reader r) (view_of b)
    later = subst (IsSameActor (model.Reader r)) (sym took_is) (took_later (model.Reader r) (append_answer new.failed))

    became : (x : ReaderState) × ◌≡◌ {A = Actor F} b (own.Archiver x)
    became = still_archiver r b later
        (subst (λ (z : Actor F). IsSameFollower (follower_of z) (follower_of b)) H.is H.same.same)

    archives_then : (about : About L D) (before : Part A)
        → KeepsArchive seen gives about before s.me.0 (player.Plain a) (Some old)
        → KeepsArchive seen gives about before t.me.0 (player.Plain b) (Some new)
    archives_then about before keeps =
        let S : Archives seen gives about before s.me.0 r old =
        subst (λ (z : Actor F). KeepsArchive seen gives about before s.me.0 (player.Plain z) (Some old)) H.is keeps in
        let x = became in
        subst (λ (z : Actor F). KeepsArchive seen gives about before t.me.0 (player.Plain z) (Some new)) (sym x.1)
        (archive_appended log_seen data_seen seen about before old s.me.0 t.me.0 r x.0 S H.same.about new mark H.asks H.appends
        (sym (ap view_of x.1) ∙ took_is)
        (H.blocks ∙ ap (λ (z : Actor F). (heard_of s.me.0).blocks ++ appended_by (view_of z)) H.is))

    pub with_appended : GoesOnWith seen gives stands table s (player.Plain a) (Some old) t (player.Plain b) (Some new)
    with_appended = record {
      player = record {
        seat = H.sits;
        same = H.same;
        player = subst (λ (z : Actor F). IsSameActor (view_of z) (view_of b)) (sym H.is) later;
      };
      archive = record { none = λ e. absurd (no_part old e); some = archives_then };
    }

  -- ANOTHER OP leaves the archive as it is.
  module _ (s t : Seat (Slot L D) (View L D)) (step : Step) (o : Op) where
    -- it appends nothing, or there is no archive
    archive_kept : (p q : Player F) (archive : Option (Part A)) → IsSameSeat stands s.me.0 (actor_of p) t.me.0 (actor_of q)
        → IsSamePlayer p q → PlayerHasGone log_seen data_seen s.me.0 p step q → PlayerAsks s.me.0 p o → IsNoAppend o
        → (about : About L D) (before : Part A) → KeepsArchive seen gives about before s.me.0 p archive
        → KeepsArchive seen gives about before t.me.0 q archive
    archive_kept (player.Plain (own.Archiver r)) (player.Plain b) (Some part) same alike gone asks none about before S =
        let x = still_archiver r b alike same.same in
        subst (λ (z : Actor F). KeepsArchive seen gives about before t.me.0 (player.Plain z) (Some part)) (sym x.1)
        (⊎_elim
        (λ rests. let is : ◌≡◌ {A = ReaderState} r x.0 = one_reader r x.0 (sym rests.1 ∙ ap view_of x.1) in
        subst (λ (z : ReaderState). Archives seen gives about before t.me.0 z part) is (record {
          told = same.about ∙ S.told;
          fixed = S.fixed;
          may = S.may;
          same = S.same;
          flushed = S.flushed;
          pace = S.pace;
          later = S.later;
          live = S.live;
          over = S.over;
          archives = λ pages begun wholes run all. S.archives pages begun wholes run
              (all_front (IsFullIn part.start wholes) (heard_of s.me.0).blocks same.appended
              (subst (λ (l : List Block). AllByRecursion (IsFullIn part.start wholes) l) same.blocks all));
        }))
        (λ played. archive_turned log_seen data_seen seen about before part s.me.0 t.me.0 r x.0 S same.about step
        (subst (λ (z : Actor F). HasPlayed log_seen data_seen s.me.0 (model.Reader r) step (view_of z))
        x.1 played)
        (subst IsNoAppend (sym asks) none) same.appended same.blocks)
        gone)
    archive_kept (player.Plain (own.Archiver r)) (player.Own u) (Some part) same alike gone asks none about before S =
        absurd alike
    archive_kept _ _ _ same alike gone asks none about before S = absurd S

    pub with_played : (p q : Player F) (archive : Option (Part A)) → IsPlayerSeat table t q
        → IsSameSeat stands s.me.0 (actor_of p) t.me.0 (actor_of q) → IsSamePlayer p q
        → PlayerHasGone log_seen data_seen s.me.0 p step q → PlayerAsks s.me.0 p o → IsNoAppend o
        → GoesOnWith seen gives stands table s p archive t q archive
    with_played p q archive seat same alike gone asks none = record {
      player = record { seat = seat; same = same; player = alike };
      archive = record { none = λ e. e; some = archive_kept p q archive same alike gone asks none };
    }

    pub with_none : (p q : Player F) (archive : Option (Part A)) → IsPlayerSeat table t q
        → IsSameSeat stands s.me.0 (actor_of p) t.me.0 (actor_of q) → IsSamePlayer p q → archive ≡ None
        → GoesOnWith seen gives stands table s p archive t q archive
    with_none p q archive seat same alike is = record {
      player = record { seat = seat; same = same; player = alike };
      archive = record {
        none = λ e. e;
        some = λ about before keeps.
            absurd (none_kept about before p (subst (KeepsArchive seen gives about before s.me.0 p) is keeps));
      };
    }
      where
        none_kept : (about : About L D) (before : Part A) (p : Player F)
            → KeepsArchive seen gives about before s.me.0 p None → ⊥
        none_kept about before (player.Plain (own.Archiver r)) keeps = keeps
        none_kept about before (player.Plain (own.User r)) keeps = keeps
        none_kept about before (player.Plain (own.Writer r)) keeps = keeps
        none_kept about before (player.Plain (own.Flusher r)) keeps = keeps
        none_kept about before (player.Plain (own.Closer r)) keeps = keeps
        none_kept about before (player.Plain (own.Cleaner r)) keeps = keeps
        none_kept about before (player.Plain (own.Checkpointer r)) keeps = keeps
        none_kept about before (player.Plain (own.Follower r)) keeps = keeps
        none_kept about before (player.Own u) keeps = keeps

  -- WHO HAS AN ARCHIVE and asks for an append is the archiver, and may have it.
  pub is_archiver : (s : Seat (Slot L D) (View L D)) (p : Player F) (a : Actor F) (part : Part A) → p ≡ player.Plain a
      → MayArchive seen gives s.me.0 p (Some part) → IsArchiver a
  is_archiver s p a part is may =
      by a (subst (λ (z : Player F). KeepsArchive seen gives may.0 may.1 s.me.0 z (Some part)) is may.2)
    where
      by : (a : Actor F) → KeepsArchive seen gives may.0 may.1 s.me.0 (player.Plain a) (Some part) → IsArchiver a
      by (own.Archiver r) keeps = tt
      by _ keeps = absurd keeps
