-- A live run whose table is closed, some of whose users were dropped: what it has come to.
use Rattle.std.proofs.Common.{Bool, List, None, Some, [], ap, arith, drop, false, length, map, refl}
use Rattle.std.proofs.Common.{subst, suc, sym, true, zero, ℕ, ◌+◌, ◌<◌, ◌∙◌, ◌∷◌, ◌≡◌, ◌≤◌}
use Rattle.std.specs.Prelude.{slice_index}
use lib.ListN.{get_elem?}
use mathlib.Core.Option as maybe
use native.Mathlib.Decide.{dec_le, ℕ_discrete}
use Rattle.atomic_table.specs.Seated.{TableId}
use Rattle.atomic_table.specs.Table.{Final, Seen as SeenBy}
use Rattle.atomic_table.specs.declared.shared.Seat.{Seat}
use Rattle.model_core.specs.{UserState}
use Rattle.model_core.specs.States as model
use Rattle.model_core.specs.Hands.{hand, HoldsNothing, user_hand}
use Rattle.model_core.specs.declared.steps.UserStep.{UserStep}
use Rattle.model_core.specs.declared.steps.UserStep.TheVariants as user_step
use Rattle.model_running.proofs.Seated.{has_cleaner}
use Rattle.redo_disk.specs.{Call}
use Rattle.redo_disk.specs.Sight.{Seen}
use Rattle.redo_drive.specs.LiveActors.{live_actors, live_plan}
use Rattle.redo_drive.specs.Setups.{first_reader}
use Rattle.redo_drive.specs.History.{view_of, views_of}
use Rattle.redo_drive.specs.declared.actor.Actor.{Actor}
use Rattle.redo_drive.specs.declared.actor.Actor.TheVariants as actor
use Rattle.redo_drive.specs.declared.plan.Plan.{Plan}
use Rattle.redo_ownrule.proofs.LiveCount.{are_users, its_place, many_actors, no_others, others}
use Rattle.redo_ownrule.proofs.LiveLeft.{leaves_live}
use Rattle.redo_ownrule.proofs.Matched.{seated_there}
use Rattle.redo_ownrule.specs.Gathering.{AreHandedOut}
use Rattle.redo_ownrule.specs.LiveLeaving.{LeavesLive}
use Rattle.redo_ownrule.specs.LiveClosing.{AreTheirSeats, HaveAllFrom, LeavesGiven, users_in}
use Rattle.redo_ownrule.specs.Players.{actor_of, IsAtRest, numbered_as, seated}
use Rattle.redo_ownrule.specs.Sharing.{AllAtRest}
use Rattle.redo_ownrule.specs.declared.player.Player.{Player}
use Rattle.redo_ownrule.specs.declared.player.Player.TheVariants as player
use Rattle.redo_rule.proofs.Finishing.{nothing_left}
use Rattle.redo_rule.proofs.Gathered.{heard_at, there}
use Rattle.redo_rule.specs.Closing.{LeavesParts, LeavesTable}
use Rattle.redo_rule.specs.Cutting.{IsFirst}
use Rattle.redo_rule.specs.Ending.{RunReaches}
use Rattle.redo_rule.specs.Mine.{number_of}
use Rattle.redo_rule.specs.OwnSide.{desk_with}
use Rattle.redo_rule.specs.Ruled.{Knows, Ruled, starts_about, starts_with}
use Rattle.redo_rule.specs.Seating.{HasPart, IsCleaner}
use Rattle.redo_rule.specs.Sharing.{heard_by}
use Rattle.redo_rule.specs.declared.closing.Left.{Left}
use Rattle.redo_rule.specs.declared.law.About.{About}
use Rattle.redo_rule.specs.declared.law.Heard.{Heard}
use Rattle.redo_rule.specs.declared.law.Live.{Live}
use Rattle.redo_rule.specs.declared.law.Numbered.{Numbered}
use Rattle.redo_rule.specs.declared.law.Slot.{Slot}
use Rattle.redo_rule.specs.declared.law.Slot.TheVariants as slot
use Rattle.redo_rule.specs.declared.law.View.{View}
use Rattle.redo_store.specs.{IsRunnable}

-- the numbers that these seats have
abbrev pub number_by : {L D : Type 0} → List (Seat (Slot L D) (View L D)) → ℕ → ℕ
number_by [] n = 0
number_by (seat ∷ seats) zero = number_of seat.me.0
number_by (seat ∷ seats) (suc n) = number_by seats n

number_at : {L D : Type 0} (seats : List (Seat (Slot L D) (View L D))) (i : ℕ) (seat : Seat (Slot L D) (View L D))
    → get_elem? seats i ≡ maybe.some seat → number_of seat.me.0 ≡ number_by seats i
number_at [] i seat e = absurd (maybe.some-ne-none seat (sym e))
number_at (x ∷ xs) zero seat e = ap (λ (z : Seat _ _). number_of z.me.0) (sym (maybe.some-injective x seat e))
number_at (x ∷ xs) (suc i) seat e = number_at xs i seat e

-- all these seats are out
pub given_out : {L D R : Type 0} (table : TableId) (players slice : List (Player R)) (is : slice ≡ players)
    (seats : List (Seat (Slot L D) (View L D))) (first : Seat (Slot L D) (View L D))
    → AreTheirSeats table seats players → IsFirst table first → first.me.0.seats ≡ []
    → AreHandedOut table (number_by seats) (heard_by seats) slice first seats
given_out {L} {D} {R} table players slice is seats first S is_first none =
    subst (λ (l : List (Player R)). AreHandedOut table (number_by seats) (heard_by seats) l first seats) (sym is)
    (record {
      is_first = is_first;
      few = (let n = S.count in omega arith);
      others = none ∙ sym (ap (λ (l : List (Player R)). seated (number_by seats) (heard_by seats) (length seats) l)
          (ap (λ (n : ℕ). drop n players) S.count ∙ nothing_left players));
      each = λ i seat p at there. (S.each i seat p at there, number_at seats i seat at, heard_at seats i seat at);
    })

rests : {R : Type 0} (p : Player R) → IsAtRest p → HoldsNothing (view_of (actor_of p))
rests (player.Plain a) rest = rest
rests (player.Own o) rest = rest.0

-- A USER HOLDS NO DEVICE PART, but at most a flush list
no_part : (u : UserState) → hand (model.User u) ≡ Some 0 → ⊥
no_part u holds = by u.step holds
  where
    by : (s : UserStep) → user_hand u s ≡ Some 0 → ⊥
    by user_step.StoreOldest e = cc
    by user_step.GiveList e = cc
    by _ e = cc

at_views : {R : Type 0} (ps : List (Player R)) (i : ℕ) (p : Player R) → get_elem? ps i ≡ maybe.some p
    → get_elem? (views_of (map actor_of ps)) i ≡ maybe.some (view_of (actor_of p))
at_views [] i p at = absurd (maybe.some-ne-none p (sym at))
at_views (q ∷ ps) zero p at = ap (λ (x : Player _). maybe.some (view_of (actor_of x))) (maybe.some-injective q p at)
at_views (q ∷ ps) (suc i) p at = at_views ps i p at

either_way : (b : Bool) (P : Type 0) → (b ≡ true → P) → (b ≡ false → P) → P
either_way true P one other = one refl
either_way false P one other = other refl

-- The run has come to some actors, among which each player stands at its number, and only the first so many are users.
pub record EndsLive {L D R : Type 0} (log_seen : L → Seen) (log_gives : L → Call → L → Type 0) (data_seen : D → Seen)
    (data_gives : D → Call → D → Type 0) (about : About L D) (users : ℕ) (number : ℕ → ℕ) (heard : ℕ → Heard)
    (ps : List (Player R)) (ws : List ℕ) (xs : List (Slot L D)) : Type 0 where
  pub all_heard : ℕ → Heard
  pub actors : List model.Actor
  pub reaches : RunReaches log_seen log_gives data_seen data_gives about all_heard actors ws xs
  pub given : (i : ℕ) (p : Player R) → get_elem? ps i ≡ maybe.some p
      → get_elem? actors (number i) ≡ maybe.some (view_of (actor_of p))
  pub heard_is : (i : ℕ) (p : Player R) → get_elem? ps i ≡ maybe.some p
      → ◌≡◌ {A = Heard} (all_heard (number i)) (heard i)
  pub no_other : (n : ℕ) (u : UserState) → get_elem? actors n ≡ maybe.some (model.User u) → n < users

-- how many actors there are
module _ {L D : Type 0} (about : About L D) (live : Live) (is_live : about.live ≡ Some live)
    (kept : about.plan ≡ live_plan about.plan.log_only) where
  starts_count : length (starts_about about) ≡ live.users + others about.plan.log_only
  starts_count =
      ap (λ (l : List model.Actor). length l)
      (ap (starts_with about) is_live
      ∙ ap (live_actors about.opened.value.shape live.users about.opened.value.start) kept)
      ∙ many_actors about.opened.value.shape live.users about.opened.value.start about.plan.log_only

module _ {L D R : Type 0} (log_seen : L → Seen) (log_gives : L → Call → L → Type 0) (data_seen : D → Seen)
    (data_gives : D → Call → D → Type 0) (about : About L D) (live : Live) (is_live : about.live ≡ Some live)
    (kept : about.plan ≡ live_plan about.plan.log_only) where
  module _ (number : ℕ → ℕ) (heard : ℕ → Heard) (ps : List (Player R)) (id : ℕ) (v : View L D) (ws : List ℕ)
      (xs : List (Slot L D)) (final : Final (SeenBy (Ruled log_seen log_gives data_seen data_gives about) id v) ws xs)
      (all : v.seats ≡ seated number heard 0 ps) (rest : AllAtRest ps)
      (workers : (n : ℕ) → live.users ≤ n → n < length (starts_about about)
      → (i : ℕ) × (p : Player R) × (get_elem? ps i ≡ maybe.some p) × (number i ≡ n))
      (cleaner : (i : ℕ) (a : model.Actor) → get_elem? (views_of (map actor_of ps)) i ≡ maybe.some a → IsCleaner a
      → HasPart v)
      (alone_part : about.plan.log_only ≡ true → HasPart v) where
    abbrev Q : Ruled log_seen log_gives data_seen data_gives about final.0
    Q = final.1.0

    K : Knows about Q.parts Q.beside Q.actors Q.heard Q.seat_of Q.keeper Q.out id v
    K = Q.knows id v final.1.1

    seat_at : (i : ℕ) (p : Player R) → get_elem? ps i ≡ maybe.some p
        → get_elem? v.seats i ≡ maybe.some (numbered_as (number i) (heard i) p)
    seat_at i p at = ap (λ (l : List Numbered). get_elem? l i) all ∙ seated_there number heard 0 ps i p at
        ∙ ap (λ (n : ℕ). maybe.some (numbered_as (number n) (heard n) p)) (let z : 0 + i ≡ i = omega arith in z)

    -- what the seats know of each
    abbrev IsKnown : ℕ → Player R → Type 0
    IsKnown i p = (get_elem? Q.actors (number i) ≡ maybe.some (view_of (actor_of p)))
        × ◌≡◌ {A = Heard} (Q.heard (number i)) (heard i)

    known : (i : ℕ) (p : Player R) → get_elem? ps i ≡ maybe.some p → IsKnown i p
    known i (player.Plain a) at =
        let m = K.mine i (numbered_as {R = R} (number i) (heard i) (player.Plain a)) (seat_at i (player.Plain a) at) in
        (m.1, m.2)
    known i (player.Own o) at =
        let m = K.mine i (numbered_as {R = R} (number i) (heard i) (player.Own o)) (seat_at i (player.Own o) at) in
        (m.1, m.2)

    count : length Q.actors ≡ live.users + others Q.run.setup.log_only
    count = Q.count ∙ starts_count about live is_live kept
        ∙ ap (λ (b : Bool). live.users + others b) (sym Q.is_about.is_run.log_only_is)

    nobody_reads : Q.run.setup.last_reader ≤ Q.run.setup.first_reader
    nobody_reads =
        let last = Q.is_about.is_run.last_reader in
        let none = ap (λ (p : Plan). p.followers) kept in
        let first = Q.is_about.is_run.first_is ∙ ap (λ (p : Plan). first_reader p.archive) kept in omega arith

    user_below : (n : ℕ) (a : model.Actor) → get_elem? Q.actors n ≡ maybe.some a → n < live.users
        → (u : UserState) × ◌≡◌ {A = model.Actor} a (model.User u)
    user_below = are_users Q.run.setup Q.actors Q.runs.seated Q.runs.running.both.in_run nobody_reads live.users count

    no_other : (n : ℕ) (u : UserState) → get_elem? Q.actors n ≡ maybe.some (model.User u) → n < live.users
    no_other = no_others Q.run.setup Q.actors Q.runs.seated Q.runs.running.both.in_run nobody_reads live.users count

    -- whoever is no user was given back
    given_back : (n : ℕ) (a : model.Actor) → get_elem? Q.actors n ≡ maybe.some a → live.users ≤ n
        → (i : ℕ) × (p : Player R) × (get_elem? ps i ≡ maybe.some p) × ◌≡◌ {A = model.Actor} (view_of (actor_of p)) a
    given_back n a at far =
        let below = its_place Q.actors n a at in
        let c = Q.count in
        let w = workers n far (omega arith) in (
          w.0,
          w.1,
          w.2,
          maybe.some-injective (view_of (actor_of w.1)) a
              (sym (known w.0 w.1 w.2).0 ∙ ap (get_elem? Q.actors) w.3 ∙ at),
        )

    -- so nobody holds the log part
    log_free : slice_index final.0.words 7 ≡ 0
    log_free = elim (ℕ_discrete (slice_index final.0.words 7) 0) [
      | yes z ↦ z
      | no busy ↦ absurd (let t = Q.taken 0 (omega arith) busy in held t.0 t.1 t.2 t.3)
    ]
      where
        held : (n : ℕ) (a : model.Actor) → get_elem? Q.actors n ≡ maybe.some a → hand a ≡ Some 0 → ⊥
        held n a at holds = elim (dec_le (n + 1) live.users) [
          | yes low ↦ (let u = user_below n a at (omega arith) in
              no_part u.0 (sym (ap hand u.1) ∙ holds))
          | no far ↦ (let g = given_back n a at (omega arith) in
              let none : hand a ≡ None = sym (ap hand g.3) ∙ (rests g.1 (rest g.0 g.1 g.2)).no_slot in cc)
        ]

    -- and the data part is at home
    part : HasPart v
    part = either_way about.plan.log_only (HasPart v) alone_part (λ pages.
        let c = has_cleaner Q.run.setup Q.actors Q.runs.seated (Q.is_about.is_run.log_only_is ∙ pages) in
        elim (dec_le (c.0 + 1) live.users) [
          | yes low ↦ (let u = user_below c.0 (model.Cleaner c.1) c.2 (omega arith) in
              let is = u.1 in absurd (cc))
          | no far ↦ (let g = given_back c.0 (model.Cleaner c.1) c.2 (omega arith) in
              cleaner g.0 (model.Cleaner c.1) (at_views ps g.0 g.1 g.2 ∙ ap maybe.some g.3) tt)
        ])

    pub ends_live : EndsLive log_seen log_gives data_seen data_gives about live.users number heard ps ws xs
    ends_live = record {
      all_heard = Q.heard;
      actors = Q.actors;
      reaches = record {
        run = Q.run;
        is_about = Q.is_about;
        parts = Q.parts;
        runs = Q.runs;
        hears = Q.hears;
        reads = Q.reads;
        loaded = Q.loaded;
        words_are = Q.words_are ∙ final.2;
        beside = Q.beside;
        log = final.4 0 (slot.Log (desk_with Q.parts.log Q.beside)) (Q.home 0 (omega arith) log_free);
        data_part = final.4 5 (slot.Data Q.parts.store)
            (Q.data_home (K.data_part (record { part = part.0; out = false }) part.1).2);
        log_calls = Q.log_calls;
        data_calls = Q.data_calls;
        log_shape = Q.log_shape;
      };
      given = λ i p at. (known i p at).0;
      heard_is = λ i p at. (known i p at).1;
      no_other = no_other;
    }

-- SUCH ACTORS THERE ARE, as a drive has them
abbrev as_actor : model.Actor → Actor (Unit {0})
as_actor (model.User u) = actor.User u
as_actor (model.Writer s) = actor.Writer s
as_actor (model.Flusher s) = actor.Flusher s
as_actor (model.Closer s) = actor.Closer s
as_actor (model.Cleaner s) = actor.Cleaner s
as_actor (model.Checkpointer s) = actor.Checkpointer s
as_actor (model.Reader r) = actor.Archiver r

one_view : (a : model.Actor) → view_of (as_actor a) ≡ a
one_view (model.User u) = refl
one_view (model.Writer s) = refl
one_view (model.Flusher s) = refl
one_view (model.Closer s) = refl
one_view (model.Cleaner s) = refl
one_view (model.Checkpointer s) = refl
one_view (model.Reader r) = refl

all_views : (actors : List model.Actor) → ◌≡◌ {A = List model.Actor} (views_of (map as_actor actors)) actors
all_views [] = refl
all_views (a ∷ actors) = ap (λ (x : model.Actor). x ∷ views_of (map as_actor actors)) (one_view a)
    ∙ ap (λ (l : List model.Actor). a ∷ l) (all_views actors)

module _ {L D R : Type 0} (log_seen : L → Seen) (log_gives : L → Call → L → Type 0) (data_seen : D → Seen)
    (data_gives : D → Call → D → Type 0) (about : About L D) (live : Live) (is_live : about.live ≡ Some live)
    (no_script : about.script.value ≡ []) (kept : about.plan ≡ live_plan about.plan.log_only)
    (runnable : IsRunnable about.opened.value) (table : TableId) (seats : List (Seat (Slot L D) (View L D)))
    (players slice : List (Player R)) (is : slice ≡ players) (S : AreTheirSeats table seats players)
    (others : HaveAllFrom (users_in about.live) (length (starts_about about)) seats) (rest : AllAtRest players)
    (first : Seat (Slot L D) (View L D))
    (all : first.me.0.seats ≡ seated (number_by seats) (heard_by seats) 0 slice)
    (cleaner : (i : ℕ) (a : model.Actor) → get_elem? (views_of (map actor_of slice)) i ≡ maybe.some a → IsCleaner a
    → HasPart first.me.0)
    (alone_part : about.plan.log_only ≡ true → HasPart first.me.0) where
  users_are : users_in about.live ≡ live.users
  users_are = ap users_in is_live

  -- each of the others plays
  workers : (n : ℕ) → live.users ≤ n → n < length (starts_about about)
      → (i : ℕ) × (p : Player R) × (get_elem? players i ≡ maybe.some p) × (number_by seats i ≡ n)
  workers n far below =
      let same_users = users_are in
      let w = others n (omega arith) below in
      let place = its_place seats w.0 w.1 w.2 in
      let same = S.count in
      let p = there players w.0 (omega arith) in (w.0, p.0, p.1, sym (number_at seats w.0 w.1 w.2) ∙ w.3)

  pub ends_given : (ws : List ℕ) (xs : List (Slot L D))
      → Final (SeenBy (Ruled log_seen log_gives data_seen data_gives about) first.id first.me.0) ws xs
      → EndsLive log_seen log_gives data_seen data_gives about live.users (number_by seats)
      (heard_by seats) players ws xs
  ends_given ws xs final =
      ends_live log_seen log_gives data_seen data_gives about live is_live kept (number_by seats)
      (heard_by seats) players first.id first.me.0 ws xs final
      (subst (λ (l : List (Player R)). first.me.0.seats ≡ seated (number_by seats) (heard_by seats) 0 l) is all) rest
      workers
      (subst (λ (l : List (Player R)). (i : ℕ) (a : model.Actor) → get_elem? (views_of (map actor_of l)) i
      ≡ maybe.some a → IsCleaner a → HasPart first.me.0) is cleaner)
      alone_part

  -- WHAT IT LEAVES
  pub leaves_given : (left : Left L D) → LeavesTable log_seen log_gives data_seen data_gives about first left
      → LeavesGiven log_seen log_gives data_seen data_gives about.opened.value about.plan.log_only (users_in about.live)
      seats players left
  leaves_given left T =
      let E = ends_given T.words T.slots T.final in
      let same = all_views E.actors in record {
        actors = E.actors;
        given = λ i seat p at bt. ap (get_elem? E.actors) (number_at seats i seat at) ∙ E.given i p bt;
        reads = λ n. (E.all_heard n).reads;
        of_reads = λ i seat at.
            let place = its_place seats i seat at in
            let same_count = S.count in
            let p = there players i (omega arith) in
            ap (λ (h : Heard). h.reads) (ap E.all_heard (number_at seats i seat at) ∙ E.heard_is i p.0 p.1
            ∙ sym (heard_at seats i seat at));
        no_other = λ n u at. subst (λ (k : ℕ). n < k) (sym users_are) (E.no_other n u at);
        leaves = subst (λ (l : List model.Actor). LeavesLive log_seen log_gives data_seen data_gives
            about.opened.value about.plan.log_only l (λ n. (E.all_heard n).reads) left) same
            (leaves_live log_seen log_gives data_seen data_gives about live is_live no_script
            (ap (λ (p : Plan). p.archive) kept) runnable E.all_heard
            (map as_actor E.actors) left
            (subst (λ (l : List model.Actor). LeavesParts log_seen log_gives data_seen data_gives about E.all_heard l
            left) (sym same) (T.leaves E.all_heard E.actors E.reaches)));
      }
