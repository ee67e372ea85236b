-- A player in its seat that goes on.
use Rattle.std.proofs.Common.{List, None, Option, Some, [], ap, append_assoc, append-nil, refl, subst, sym, ◌++◌, ◌∙◌, ◌≡◌}
use Rattle.atomic_table.specs.Seated.{TableId}
use Rattle.atomic_table.specs.declared.shared.Seat.{Seat}
use Rattle.model_core.proofs.Later.{later_refl, later_trans}
use Rattle.model_core.specs.{Given}
use Rattle.model_core.specs.States as model
use Rattle.redo_disk.specs.{Call, Seen}
use Rattle.redo_drive.specs.{follower_of, HasGot, IsSameFollower, view_of}
use Rattle.redo_drive.specs.declared.actor.Actor.{Actor}
use Rattle.redo_follow.specs.Following.{Following}
use Rattle.redo_ownrule.specs.Players.{actor_of, IsSamePlayer}
use Rattle.redo_ownrule.specs.Playing.{IsPlayerSeat}
use Rattle.redo_ownrule.specs.declared.player.Player.{Player}
use Rattle.redo_ownrule.specs.declared.player.Player.TheVariants as player
use Rattle.redo_rule.specs.Mine.{heard_of, IsSameSeat}
use Rattle.redo_rule.specs.declared.law.Slot.{Slot}
use Rattle.redo_rule.specs.declared.law.View.{View}
use Rattle.redo_archive.specs.Part.{Part}
use Rattle.redo_rule.specs.declared.law.Block.{Block}
use Rattle.redo_threads.specs.Archiving.{GoesOnWith, KeepsArchive, MayArchive, MayWork, WorksOn}
use Rattle.redo_threads.specs.Working.{GoesOn}
use Rattle.redo_threads.specs.declared.crew.Seated.{Seated}
use Rattle.redo_threads.specs.declared.crew.Worker.{Worker}

-- a follower is the same, and its receiver got nothing; and then it is the same again, and its receiver got more
module _ {F : Type 0} where
  follower_refl : (f : Option (Following F)) → IsSameFollower f f
  follower_refl None = tt
  follower_refl (Some f) = refl

  follower_trans : (f g h : Option (Following F)) → IsSameFollower f g → IsSameFollower g h → IsSameFollower f h
  follower_trans None None None one two = tt
  follower_trans None None (Some h) one two = absurd two
  follower_trans None (Some g) h one two = absurd one
  follower_trans (Some f) None h one two = absurd one
  follower_trans (Some f) (Some g) None one two = absurd two
  follower_trans (Some f) (Some g) (Some h) one two = two ∙ one

  module _ (stands : F → List Given → Type 0) where
    got_none : (f : Option (Following F)) → HasGot stands f [] f
    got_none None = tt
    got_none (Some f) = λ before is. subst (λ (l : List Given). stands f.receiver l) (sym (append-nil before)) is

    got_more : (f g h : Option (Following F)) (groups more : List Given) → IsSameFollower f g → IsSameFollower g h
        → HasGot stands f groups g → HasGot stands g more h → HasGot stands f (groups ++ more) h
    got_more None None None groups more one two got then = tt
    got_more None None (Some h) groups more one two got then = absurd two
    got_more None (Some g) h groups more one two got then = absurd one
    got_more (Some f) None h groups more one two got then = absurd one
    got_more (Some f) (Some g) None groups more one two got then = absurd two
    got_more (Some f) (Some g) (Some h) groups more one two got then =
        λ before is. subst (λ (l : List Given). stands h.receiver l) (append_assoc before groups more)
        (then (before ++ groups) (got before is))

-- the same player, later
module _ {F : Type 0} where
  same_refl : (p : Player F) → IsSamePlayer p p
  same_refl (player.Plain a) = later_refl (view_of a)
  same_refl (player.Own o) = later_refl (model.User o.user)

  same_trans : (p q r : Player F) → IsSamePlayer p q → IsSamePlayer q r → IsSamePlayer p r
  same_trans (player.Plain a) (player.Plain b) (player.Plain c) h k = later_trans (view_of a) (view_of b) (view_of c) h k
  same_trans (player.Plain a) (player.Plain b) (player.Own c) h k = absurd k
  same_trans (player.Plain a) (player.Own b) r h k = absurd h
  same_trans (player.Own a) (player.Plain b) r h k = absurd h
  same_trans (player.Own a) (player.Own b) (player.Plain c) h k = absurd k
  same_trans (player.Own a) (player.Own b) (player.Own c) h k =
      later_trans (model.User a.user) (model.User b.user) (model.User c.user) h k

-- its seat is at this table
module _ {L D F : Type 0} (table : TableId) where
  at_table : (s : Seat (Slot L D) (View L D)) (p : Player F) → IsPlayerSeat table s p → s.table_id ≡ table
  at_table s (player.Plain a) h = h.mine.of
  at_table s (player.Own o) h = h.mine.of

module _ {L D F : Type 0} (stands : F → List Given → Type 0) where
  seat_refl : (v : View L D) (a : Actor F) → IsSameSeat stands v a v a
  seat_refl v a = record {
    about = refl;
    number = refl;
    layout = refl;
    same = follower_refl (follower_of a);
    since = [];
    heard = sym (append-nil (heard_of v).groups);
    appended = [];
    blocks = sym (append-nil (heard_of v).blocks);
    got = got_none stands (follower_of a);
    reads = refl;
  }

  seat_trans : (v w x : View L D) (a b c : Actor F) → IsSameSeat stands v a w b → IsSameSeat stands w b x c
      → IsSameSeat stands v a x c
  seat_trans v w x a b c h k = record {
    about = k.about ∙ h.about;
    number = k.number ∙ h.number;
    layout = k.layout ∙ h.layout;
    same = follower_trans (follower_of a) (follower_of b) (follower_of c) h.same k.same;
    since = h.since ++ k.since;
    heard = k.heard ∙ ap (λ (l : List Given). l ++ k.since) h.heard ∙ append_assoc (heard_of v).groups h.since k.since;
    appended = h.appended ++ k.appended;
    blocks = k.blocks ∙ ap (λ (l : List Block). l ++ k.appended) h.blocks
        ∙ append_assoc (heard_of v).blocks h.appended k.appended;
    got = got_more stands (follower_of a) (follower_of b) (follower_of c) h.since k.since h.same k.same h.got k.got;
    reads = k.reads ∙ h.reads;
  }

  module _ (table : TableId) where
    pub goes_refl : (s : Seat (Slot L D) (View L D)) (p : Player F) → IsPlayerSeat table s p
        → GoesOn stands table s p s p
    goes_refl s p h = record { seat = h; same = seat_refl s.me.0 (actor_of p); player = same_refl p }

    -- it has been asked for its Op
    pub goes_asked : (s t : Seat (Slot L D) (View L D)) (p : Player F) → IsPlayerSeat table t p → t.me ≡ s.me
        → GoesOn stands table s p t p
    goes_asked s t p h e = record {
      seat = h;
      same = subst (λ m. IsSameSeat stands s.me.0 (actor_of p) m.0 (actor_of p)) (sym e) (seat_refl s.me.0 (actor_of p));
      player = same_refl p;
    }

    pub goes_trans : (s t u : Seat (Slot L D) (View L D)) (p q r : Player F) → GoesOn stands table s p t q
        → GoesOn stands table t q u r → GoesOn stands table s p u r
    goes_trans s t u p q r h k = record {
      seat = k.seat;
      same = seat_trans s.me.0 t.me.0 u.me.0 (actor_of p) (actor_of q) (actor_of r) h.same k.same;
      player = same_trans p q r h.player k.player;
    }

    -- what the promise of a player's thread says
    pub goes_promised : (p w v : Seated L D F) → p ≡ w → IsPlayerSeat table w.seat w.player
        → GoesOn stands p.seat.table_id p.seat p.player v.seat v.player
        → GoesOn stands table w.seat w.player v.seat v.player
    goes_promised p w v e sits h =
        subst (λ (m : TableId). GoesOn stands m w.seat w.player v.seat v.player)
        (at_table table w.seat w.player sits)
        (subst (λ (q : Seated L D F). GoesOn stands q.seat.table_id q.seat q.player v.seat v.player) e h)

    -- THE SAME WITH AN ARCHIVE, or without
    module _ {A : Type 0} (seen : A → Seen) (gives : A → Call → A → Type 0) where
      pub with_refl : (s : Seat (Slot L D) (View L D)) (p : Player F) (a : Option (Part A)) → IsPlayerSeat table s p
          → GoesOnWith seen gives stands table s p a s p a
      with_refl s p a h = record {
        player = goes_refl s p h;
        archive = record { none = λ e. e; some = λ about before keeps. keeps };
      }

      pub with_asked : (s t : Seat (Slot L D) (View L D)) (p : Player F) (a : Option (Part A)) → IsPlayerSeat table t p
          → t.me ≡ s.me → GoesOnWith seen gives stands table s p a t p a
      with_asked s t p a h e = record {
        player = goes_asked s t p h e;
        archive = record {
          none = λ e. e;
          some = λ about before keeps. subst (λ m. KeepsArchive seen gives about before m.0 p a) (sym e) keeps;
        };
      }

      pub with_trans : (s t u : Seat (Slot L D) (View L D)) (p q r : Player F) (a b c : Option (Part A))
          → GoesOnWith seen gives stands table s p a t q b → GoesOnWith seen gives stands table t q b u r c
          → GoesOnWith seen gives stands table s p a u r c
      with_trans s t u p q r a b c h k = record {
        player = goes_trans s t u p q r h.player k.player;
        archive = record {
          none = λ e. k.archive.none (h.archive.none e);
          some = λ about before keeps. k.archive.some about before (h.archive.some about before keeps);
        };
      }

      -- it may go on playing
      pub may_still : (s t : Seat (Slot L D) (View L D)) (p q : Player F) (a b : Option (Part A))
          → MayArchive seen gives s.me.0 p a → GoesOnWith seen gives stands table s p a t q b
          → MayArchive seen gives t.me.0 q b
      may_still s t p q None None may on = tt
      may_still s t p q None (Some part) may on = absurd (let z : Some part ≡ None = on.archive.none refl in cc)
      may_still s t p q (Some part) None may on = tt
      may_still s t p q (Some part) (Some later) may on = (may.0, may.1, on.archive.some may.0 may.1 may.2)

      -- a worker, if there is one
      pub works_refl : (w : Option (Worker L D A F)) → MayWork seen gives table w → WorksOn seen gives stands table w w
      works_refl None may = tt
      works_refl (Some w) may = with_refl w.seat w.player w.archive may.0

      pub works_trans : (w v u : Option (Worker L D A F)) → WorksOn seen gives stands table w v
          → WorksOn seen gives stands table v u → WorksOn seen gives stands table w u
      works_trans None None None h k = tt
      works_trans None None (Some u) h k = absurd k
      works_trans None (Some v) u h k = absurd h
      works_trans (Some w) None u h k = absurd h
      works_trans (Some w) (Some v) None h k = absurd k
      works_trans (Some w) (Some v) (Some u) h k =
          with_trans w.seat v.seat u.seat w.player v.player u.player w.archive v.archive u.archive h k

      pub work_still : (w v : Option (Worker L D A F)) → MayWork seen gives table w
          → WorksOn seen gives stands table w v → MayWork seen gives table v
      work_still None None may on = tt
      work_still None (Some v) may on = absurd on
      work_still (Some w) None may on = absurd on
      work_still (Some w) (Some v) may on =
          (on.player.seat, may_still w.seat v.seat w.player v.player w.archive v.archive may.1 on)
