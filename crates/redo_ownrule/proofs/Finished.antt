-- A store is finished: its seats are taken in, its table is closed, and its players leave their actors.
use Rattle.std.proofs.Common.{Bool, List, None, Option, [], ap, arith, drop, get_or, is_some, length, map, refl, subst, sym, true, ℕ, ◌+◌, ◌<◌, ◌∙◌, ◌≡◌, ◌≤◌}
use lib.ListN.{get_elem?}
use mathlib.Core.Option as maybe
use Rattle.atomic_table.specs.Seated.{TableId}
use Rattle.atomic_table.specs.Table.{Final, Seen as SeenBy}
use Rattle.atomic_table.specs.declared.shared.Seat.{Seat}
use Rattle.model_core.specs.States as model
use Rattle.model_own.specs.{LogWork}
use Rattle.model_report.specs.declared.entry.Entry.{Entry}
use Rattle.redo_disk.specs.{Call, Seen}
use Rattle.redo_drive.specs.{all_listed, ListsInOrder, view_of, views_of}
use Rattle.redo_drive.specs.Reserved.{HasGroups, KeepsAll}
use Rattle.redo_drive.specs.declared.actor.Actor.{Actor}
use Rattle.redo_ownrule.proofs.Ended.{ends_as, EndsAs}
use Rattle.redo_ownrule.proofs.Left.{many_workers}
use Rattle.redo_ownrule.proofs.Placed.{length_crew}
use Rattle.redo_ownrule.specs.Gathering.{AreHandedOut}
use Rattle.redo_ownrule.specs.Players.{actor_of, crew, place, seated, workers}
use Rattle.redo_ownrule.specs.Sharing.{AllAtRest, AreActorsOf, AreSeatsOf}
use Rattle.redo_ownrule.specs.declared.player.Player.{Player}
use Rattle.redo_rule.proofs.Finishing.{groups, has_room, keep_all, nothing_left}
use Rattle.redo_rule.proofs.Gathered.{heard_at}
use Rattle.redo_rule.specs.Closing.{LeavesParts, LeavesTable}
use Rattle.redo_rule.specs.Cutting.{HoldNothing, IsFirst}
use Rattle.redo_rule.specs.Ruled.{Ruled, starts_about}
use Rattle.redo_rule.specs.Seating.{HasPart, IsCleaner}
use Rattle.redo_rule.specs.Sharing.{heard_by}
use Rattle.redo_rule.specs.declared.closing.Left.{Left}
use Rattle.redo_rule.specs.declared.law.About.{About}
use Rattle.redo_rule.specs.declared.law.Heard.{Heard}
use Rattle.redo_rule.specs.declared.law.Slot.{Slot}
use Rattle.redo_rule.specs.declared.law.View.{View}

-- all seats are out
pub all_out : {L D R : Type 0} (table : TableId) (own : Bool) (players slice : List (Player R)) (is : slice ≡ players)
    (seats : List (Seat (Slot L D) (View L D))) (first : Seat (Slot L D) (View L D))
    → AreSeatsOf table own seats players → IsFirst table first → first.me.0.seats ≡ []
    → AreHandedOut table (place own slice) (heard_by seats) slice first seats
all_out {L} {D} {R} table own players slice is seats first S is_first none =
    subst (λ (l : List (Player R)). AreHandedOut table (place own l) (heard_by seats) l first seats) (sym is) (record {
      is_first = is_first;
      few = (let n = S.count in omega arith);
      others = none ∙ sym (ap (λ (l : List (Player R)). seated (place own players) (heard_by seats) (length seats) l)
          (ap (λ (n : ℕ). drop n players) S.count ∙ nothing_left players));
      each = λ i seat p at there. let e = S.each i seat p at there in (e.0, e.1, heard_at seats i seat at);
    })

-- and all are in again
pub closes : {L D R : Type 0} (log_seen : L → Seen) (log_gives : L → Call → L → Type 0) (data_seen : D → Seen)
    (data_gives : D → Call → D → Type 0) (about : About L D) (heard : ℕ → Heard) (players slice : List (Player R))
    (is : slice ≡ players) (first : Seat (Slot L D) (View L D))
    → first.me.0.seats ≡ seated (place about.own_writes slice) heard 0 slice
    → length players + workers about.own_writes ≡ length (starts_about about) → AllAtRest players
    → ((i : ℕ) (a : model.Actor) → get_elem? (views_of (map actor_of slice)) i ≡ maybe.some a → IsCleaner a
    → HasPart first.me.0)
    → (about.plan.log_only ≡ true → HasPart first.me.0)
    → (ws : List ℕ) (xs : List (Slot L D))
    → Final (SeenBy (Ruled log_seen log_gives data_seen data_gives about) first.id first.me.0) ws xs
    → EndsAs log_seen log_gives data_seen data_gives about about.own_writes heard players ws xs
closes {L} {D} {R} log_seen log_gives data_seen data_gives about heard players slice is first all count rest cleaner
    alone ws xs final =
    ends_as log_seen log_gives data_seen data_gives about about.own_writes refl heard players first.id first.me.0 ws xs
    final
    (subst (λ (l : List (Player R)). first.me.0.seats ≡ seated (place about.own_writes l) heard 0 l) is all)
    count rest
    (subst (λ (l : List (Player R)). (i : ℕ) (a : model.Actor) → get_elem? (views_of (map actor_of l)) i ≡ maybe.some a
    → IsCleaner a → HasPart first.me.0) is cleaner)
    alone

-- WHAT IS LEFT of the players: these actors
pub record Finished {L D R : Type 0} (log_seen : L → Seen) (log_gives : L → Call → L → Type 0) (data_seen : D → Seen)
    (data_gives : D → Call → D → Type 0) (about : About L D) (own : Bool) (heard : ℕ → Heard)
    (players : List (Player R)) (left : Left L D) (actors : List (Actor R)) : Type 0 where
  pub all_heard : ℕ → Heard
  pub heard_is : (i : ℕ) (p : Player R) → get_elem? players i ≡ maybe.some p
      → ◌≡◌ {A = Heard} (all_heard (place own players i)) (heard i)
  pub work : Option LogWork
  pub works : is_some work ≡ own
  pub are : ◌≡◌ {A = List (Actor R)} actors (crew work players)
  pub parts : LeavesParts log_seen log_gives data_seen data_gives about all_heard (views_of actors) left
  pub rest : HoldNothing (views_of actors)

module _ {L D R : Type 0} (log_seen : L → Seen) (log_gives : L → Call → L → Type 0) (data_seen : D → Seen)
    (data_gives : D → Call → D → Type 0) (about : About L D) (own : Bool) (heard : ℕ → Heard)
    (players : List (Player R)) where
  module _ (first : Seat (Slot L D) (View L D)) (left : Left L D)
      (T : LeavesTable log_seen log_gives data_seen data_gives about first left)
      (E : EndsAs log_seen log_gives data_seen data_gives about own heard players T.words T.slots) where
    work_left : ◌≡◌ {A = Option LogWork} left.work E.work
    work_left = T.work E.all_heard (views_of (crew E.work players)) E.reaches ∙ E.work_is

    -- there is room for them
    pub actors_fit : (count room : ℕ) → length players + workers own ≡ count → count ≤ room
        → length (crew left.work players) ≤ room
    actors_fit count room all enough =
        let n = length_crew left.work players in
        let k = many_workers R left.work in
        let same = ap (λ (w : Option LogWork). workers (is_some w)) work_left ∙ ap workers E.works in omega arith

    pub finished : (actors : List (Actor R)) → actors ≡ crew left.work players
        → Finished log_seen log_gives data_seen data_gives about own heard players left actors
    finished actors is =
        let are : ◌≡◌ {A = List (Actor R)} actors (crew E.work players) =
        is ∙ ap (λ (k : Option LogWork). crew k players) work_left in record {
          all_heard = E.all_heard;
          heard_is = E.heard_is;
          work = E.work;
          works = E.works;
          are = are;
          parts = subst (λ (l : List (Actor R)). LeavesParts log_seen log_gives data_seen data_gives about E.all_heard
              (views_of l) left) (sym are) (T.leaves E.all_heard (views_of (crew E.work players)) E.reaches);
          rest = subst (λ (l : List (Actor R)). HoldNothing (views_of l)) (sym are) E.rest;
        }

  module _ (left : Left L D) (actors : List (Actor R))
      (F : Finished log_seen log_gives data_seen data_gives about own heard players left actors) where
    pub actors_of : AreActorsOf own players actors
    actors_of = record { work = F.work; works = F.works; are = F.are }

    pub all_groups : (slice : List (Actor R)) → slice ≡ actors → (seat : ℕ) (a : Actor R) → seat < length slice
        → HasGroups (view_of (get_or slice seat a))
    all_groups slice is = subst (λ (l : List (Actor R)). (seat : ℕ) (a : Actor R) → seat < length l
        → HasGroups (view_of (get_or l seat a))) (sym is)
        (groups log_seen log_gives data_seen data_gives about F.all_heard actors left F.parts)

    pub all_kept : about.live ≡ None → (slice : List (Actor R)) → slice ≡ actors → (seat : ℕ) (a : Actor R)
        → seat < length slice → KeepsAll (view_of (get_or slice seat a))
    all_kept fixed slice is = subst (λ (l : List (Actor R)). (seat : ℕ) (a : Actor R) → seat < length l
        → KeepsAll (view_of (get_or l seat a))) (sym is)
        (keep_all log_seen log_gives data_seen data_gives about F.all_heard actors left F.parts fixed)

    -- the history is listed, as there is room for it
    pub its_list : about.live ≡ None → (slice : List (Actor R)) → slice ≡ actors → (room : ℕ)
        → length about.script.value ≤ room → (history : List Entry)
        → (length (all_listed left.marks (views_of slice)) ≤ room → ListsInOrder left.marks (views_of slice) history)
        → ListsInOrder left.marks (views_of actors) history
    its_list fixed slice is room enough history lists =
        subst (λ (l : List (Actor R)). length (all_listed left.marks (views_of l)) ≤ room
        → ListsInOrder left.marks (views_of l) history) is lists
        (has_room log_seen log_gives data_seen data_gives about F.all_heard (views_of actors) left F.parts fixed room
        enough)
