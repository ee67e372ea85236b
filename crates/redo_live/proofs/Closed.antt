-- The users and the workers of a store that is closed, in their seats.
use Rattle.std.proofs.Common.{Bool, List, None, [], ap, append_assoc, arith, false, length, length-append, map, refl}
use Rattle.std.proofs.Common.{subst, suc, sym, zero, ℕ, ⊎_elim, ◌++◌, ◌+◌, ◌-◌, ◌∙◌, ◌∷◌, ◌≡◌}
use Rattle.std.proofs.lemmas.List.{length-map}
use lib.ListN.{get_elem?}
use mathlib.Core.Option as maybe
use Rattle.atomic_table.proofs.Lists.{at_longer, at_map}
use Rattle.atomic_table.specs.declared.shared.Seat.{Seat}
use Rattle.model_core.specs.{UserState}
use Rattle.model_core.specs.States as model
use Rattle.model_core.specs.Hands.{HoldsNothing, user_hand, user_holds_tail}
use Rattle.model_core.specs.declared.steps.UserStep.TheVariants as user_step
use Rattle.model_core.specs.declared.words.LinkBuffer.{LinkBuffer}
use Rattle.model_core.specs.declared.words.LinkBuffer.TheVariants as link_buffer
use Rattle.model_running.specs.Schedule.{HasEnded}
use Rattle.redo_disk.specs.{Call}
use Rattle.redo_disk.specs.Sight.{Seen}
use Rattle.redo_drive.specs.History.{view_of}
use Rattle.redo_follow.specs.declared.tally.Tally.{Tally}
use Rattle.redo_live.specs.Closing.{HaveEnded, LeavesStore, MayClose, players_of, seats_of, worker_players, worker_seats}
use Rattle.redo_live.specs.Holding.{state_of}
use Rattle.redo_live.specs.declared.store.Store.{Store}
use Rattle.redo_live.specs.declared.user.User.{User}
use Rattle.redo_live.specs.declared.worker.Worker.{Worker}
use Rattle.redo_ownrule.specs.LiveClosing.{AreTheirSeats, HaveAllFrom, LeavesGiven, user_count}
use Rattle.redo_ownrule.specs.LiveLeaving.{LeavesLive}
use Rattle.redo_ownrule.specs.Players.{actor_of, IsAtRest}
use Rattle.redo_ownrule.specs.Playing.{IsPlayerSeat}
use Rattle.redo_ownrule.specs.Sharing.{AllAtRest, opened_of, starts_of, table_of}
use Rattle.redo_ownrule.specs.declared.player.Player.{Player}
use Rattle.redo_rule.proofs.Gathered.{there}
use Rattle.redo_rule.specs.declared.closing.Left.{Left}
use Rattle.redo_rule.specs.declared.law.Slot.{Slot}
use Rattle.redo_rule.specs.declared.law.View.{View}

done_free : (b : LinkBuffer) → user_holds_tail b user_step.Done ≡ false
done_free link_buffer.Written = refl
done_free link_buffer.Closed = refl

failed_free : (b : LinkBuffer) → user_holds_tail b user_step.Failed ≡ false
failed_free link_buffer.Written = refl
failed_free link_buffer.Closed = refl

-- a user that has ended holds nothing
pub user_rests : (u : UserState) → HasEnded u → HoldsNothing (model.User u)
user_rests u ended = ⊎_elim
    (λ done. record {
      no_slot = ap (user_hand u) done;
      no_tail = λ b. ap (user_holds_tail b) done ∙ done_free b;
    })
    (λ failed. record {
      no_slot = ap (user_hand u) failed;
      no_tail = λ b. ap (user_holds_tail b) failed ∙ failed_free b;
    })
    ended

-- what stands behind others
pub at_behind : {A : Type 0} (xs ys : List A) (i n : ℕ) → n ≡ length xs + i → get_elem? (xs ++ ys) n ≡ get_elem? ys i
at_behind [] ys i n is = ap (get_elem? ys) (let e : n ≡ i = omega arith in e)
at_behind (x ∷ xs) ys i zero is = absurd (omega arith)
at_behind (x ∷ xs) ys i (suc n) is = at_behind xs ys i n (omega arith)

module _ {L D : Type 0} where
  -- what holds of each user and of each worker, in its seat
  module _ (P : Seat (Slot L D) (View L D) → Player Tally → Type 0) where
    in_place : (s t : Seat (Slot L D) (View L D)) (p q : Player Tally) → maybe.some s ≡ maybe.some t
        → maybe.some p ≡ maybe.some q → P s p → P t q
    in_place s t p q e f holds = subst (λ (x : Player Tally). P t x) (maybe.some-injective p q f)
        (subst (λ (z : Seat (Slot L D) (View L D)). P z p) (maybe.some-injective s t e) holds)

    workers_sit : (workers : List (Worker L D))
        → ((i : ℕ) (w : Worker L D) → get_elem? workers i ≡ maybe.some w → P w.seat w.player)
        → (i : ℕ) (seat : Seat (Slot L D) (View L D)) (p : Player Tally)
        → get_elem? (worker_seats workers) i ≡ maybe.some seat
        → get_elem? (worker_players workers) i ≡ maybe.some p → P seat p
    workers_sit [] each i seat p at bt = absurd (maybe.some-ne-none seat (sym at))
    workers_sit (w ∷ ws) each zero seat p at bt = in_place w.seat seat w.player p at bt (each 0 w refl)
    workers_sit (w ∷ ws) each (suc i) seat p at bt = workers_sit ws (λ j v it. each (suc j) v it) i seat p at bt

    pub all_sit : (users : List (User L D)) (workers : List (Worker L D))
        → ((i : ℕ) (u : User L D) → get_elem? users i ≡ maybe.some u → P u.seat u.player)
        → ((i : ℕ) (w : Worker L D) → get_elem? workers i ≡ maybe.some w → P w.seat w.player)
        → (i : ℕ) (seat : Seat (Slot L D) (View L D)) (p : Player Tally)
        → get_elem? (seats_of users ++ worker_seats workers) i ≡ maybe.some seat
        → get_elem? (players_of users ++ worker_players workers) i ≡ maybe.some p → P seat p
    all_sit [] workers each more i seat p at bt = workers_sit workers more i seat p at bt
    all_sit (u ∷ us) workers each more zero seat p at bt = in_place u.seat seat u.player p at bt (each 0 u refl)
    all_sit (u ∷ us) workers each more (suc i) seat p at bt =
        all_sit us workers (λ j v it. each (suc j) v it) more i seat p at bt

  -- what holds of the player of each holds of each player
  workers_all : (P : Player Tally → Type 0) (workers : List (Worker L D))
      → ((i : ℕ) (w : Worker L D) → get_elem? workers i ≡ maybe.some w → P w.player)
      → (i : ℕ) (p : Player Tally) → get_elem? (worker_players workers) i ≡ maybe.some p → P p
  workers_all P [] all i p at = absurd (maybe.some-ne-none p (sym at))
  workers_all P (w ∷ ws) all zero p at = subst P (maybe.some-injective w.player p at) (all 0 w refl)
  workers_all P (w ∷ ws) all (suc i) p at = workers_all P ws (λ j v it. all (suc j) v it) i p at

  pub players_all : (P : Player Tally → Type 0) (users : List (User L D)) (workers : List (Worker L D))
      → ((i : ℕ) (u : User L D) → get_elem? users i ≡ maybe.some u → P u.player)
      → ((i : ℕ) (w : Worker L D) → get_elem? workers i ≡ maybe.some w → P w.player)
      → (i : ℕ) (p : Player Tally) → get_elem? (players_of users ++ worker_players workers) i ≡ maybe.some p → P p
  players_all P [] workers all more i p at = workers_all P workers more i p at
  players_all P (u ∷ us) workers all more zero p at = subst P (maybe.some-injective u.player p at) (all 0 u refl)
  players_all P (u ∷ us) workers all more (suc i) p at =
      players_all P us workers (λ j v it. all (suc j) v it) more i p at

map_snoc : {A B : Type 0} (f : A → B) (xs : List A) (x : A) → map f (xs ++ x ∷ []) ≡ map f xs ++ f x ∷ []
map_snoc f [] x = refl
map_snoc f (y ∷ ys) x = ap (λ l. f y ∷ l) (map_snoc f ys x)

-- one more is put behind those that were put behind the first ones
pub one_more : {A B : Type 0} (f : A → B) (first old new : List B) (xs : List A) (x : A) → old ≡ first ++ map f xs
    → new ≡ old ++ f x ∷ [] → new ≡ first ++ map f (xs ++ x ∷ [])
one_more {A} {B} f first old new xs x so then =
    then ∙ ap (λ (l : List B). l ++ f x ∷ []) so ∙ append_assoc first (map f xs) (f x ∷ [])
    ∙ ap (λ (l : List B). first ++ l) (sym (map_snoc f xs x))

-- how many they are
pub many_more : {A B : Type 0} (f : A → B) (first old : List B) (xs : List A) → old ≡ first ++ map f xs
    → length old ≡ length first + length xs
many_more {A} {B} f first old xs so =
    let a = ap (λ (l : List B). length l) so in
    let b = length-append first (map f xs) in
    let c = length-map xs f in omega arith

-- some are put behind none, and others behind those
pub both_put : {A B C : Type 0} (f : A → C) (g : B → C) (none first last : List C) (xs : List A) (ys zs : List B)
    → none ≡ [] → first ≡ none ++ map f xs → last ≡ first ++ map g ys → ys ≡ zs → last ≡ map f xs ++ map g zs
both_put {A} {B} {C} f g none first last xs ys zs empty one two same =
    two ∙ ap (λ (l : List C). l ++ map g ys) (one ∙ ap (λ (l : List C). l ++ map f xs) empty)
    ∙ ap (λ (l : List B). map f xs ++ map g l) same

module _ {L D : Type 0} where
  -- users and all workers of the store are back in these seats, and the workers have come to their ends
  pub record AreBack (store : Store L D) (users : List (User L D)) (workers : List (Worker L D))
      (seats : List (Seat (Slot L D) (View L D))) (players : List (Player Tally)) : Type 0 where
    pub may_close : MayClose store users workers
    pub ended : HaveEnded workers
    pub seats_are : ◌≡◌ {A = List (Seat (Slot L D) (View L D))} seats (seats_of users ++ worker_seats workers)
    pub players_are : ◌≡◌ {A = List (Player Tally)} players (players_of users ++ worker_players workers)

module _ {L D : Type 0} (store : Store L D) (users : List (User L D)) (workers : List (Worker L D))
    (seats : List (Seat (Slot L D) (View L D))) (players : List (Player Tally))
    (back : AreBack store users workers seats players) where
  abbrev may : MayClose store users workers
  may = back.may_close

  many_players : length players ≡ length users + length workers
  many_players =
      let e = ap (λ (l : List (Player Tally)). length l) back.players_are in
      let a = length-append (players_of users) (worker_players workers) in
      let m = length-map users (λ (u : User L D). u.player) in
      let n = length-map workers (λ (w : Worker L D). w.player) in omega arith

  many_seats : length seats ≡ length users + length workers
  many_seats =
      let e = ap (λ (l : List (Seat (Slot L D) (View L D))). length l) back.seats_are in
      let a = length-append (seats_of users) (worker_seats workers) in
      let m = length-map users (λ (u : User L D). u.seat) in
      let n = length-map workers (λ (w : Worker L D). w.seat) in omega arith

  -- THEY ARE IN THEIR SEATS
  pub seats_so : AreTheirSeats (table_of store.shared) seats players
  seats_so = record {
    count = (let s = many_seats in let p = many_players in omega arith);
    each = λ i seat p at bt.
        all_sit (IsPlayerSeat (table_of store.shared)) users workers (λ j u it. (may.users_are j u it).sits)
        (λ j w it. (may.workers_are j w it).0.sits) i seat p
        (ap (λ (l : List (Seat (Slot L D) (View L D))). get_elem? l i) (sym back.seats_are) ∙ at)
        (ap (λ (l : List (Player Tally)). get_elem? l i) (sym back.players_are) ∙ bt);
  }

  -- ALL WORKERS ARE THERE, behind the users
  pub others_so : HaveAllFrom (user_count store.shared) (length (starts_of store.shared)) seats
  others_so n far below =
      let all = may.all_workers in
      let j = n - user_count store.shared in
      let w = there workers j (omega arith) in (
        length users + j,
        w.0.seat,
        ap (λ (l : List (Seat (Slot L D) (View L D))). get_elem? l (length users + j)) back.seats_are
            ∙ at_behind (seats_of users) (worker_seats workers) j (length users + j)
            (let m = length-map users (λ (u : User L D). u.seat) in omega arith)
            ∙ at_map (λ (v : Worker L D). v.seat) workers j w.0 w.1,
        (may.workers_are j w.0 w.1).1 ∙ (let e : user_count store.shared + j ≡ n = omega arith in e),
      )

  -- AND ARE AT REST
  pub rest_so : AllAtRest players
  rest_so i p at = players_all IsAtRest users workers
      (λ j u it. let U = may.users_are j u it in
      subst (λ (q : Player Tally). IsAtRest q) (sym U.plays) (user_rests (state_of u) U.ended))
      (λ j w it. (back.ended j w it).rests) i p
      (ap (λ (l : List (Player Tally)). get_elem? l i) (sym back.players_are) ∙ at)

  seat_there : (i : ℕ) (user : User L D) → get_elem? users i ≡ maybe.some user
      → get_elem? seats i ≡ maybe.some user.seat
  seat_there i user at = ap (λ (l : List (Seat (Slot L D) (View L D))). get_elem? l i) back.seats_are
      ∙ at_longer (seats_of users) (worker_seats workers) i user.seat
      (at_map (λ (u : User L D). u.seat) users i user at)

  player_there : (i : ℕ) (user : User L D) → get_elem? users i ≡ maybe.some user
      → get_elem? players i ≡ maybe.some user.player
  player_there i user at = ap (λ (l : List (Player Tally)). get_elem? l i) back.players_are
      ∙ at_longer (players_of users) (worker_players workers) i user.player
      (at_map (λ (u : User L D). u.player) users i user at)

  -- WHAT THE STORE LEAVES
  pub leaves_so : (log_seen : L → Seen) (log_gives : L → Call → L → Type 0) (data_seen : D → Seen)
      (data_gives : D → Call → D → Type 0) (left : Left L D)
      → LeavesGiven log_seen log_gives data_seen data_gives (opened_of store.shared)
      store.shared.board.shared.key.plan.log_only (user_count store.shared) seats players left
      → LeavesStore log_seen log_gives data_seen data_gives store users left
  leaves_so log_seen log_gives data_seen data_gives left given = record {
    actors = given.actors;
    of_users = λ i user at.
        given.given i user.seat user.player (seat_there i user at) (player_there i user at)
        ∙ ap (λ (p : Player Tally). maybe.some (view_of (actor_of p))) (may.users_are i user at).plays;
    no_other = given.no_other;
    reads = given.reads;
    of_reads = λ i user at. given.of_reads i user.seat (seat_there i user at);
    leaves = subst (λ (b : Bool). LeavesLive log_seen log_gives data_seen data_gives (opened_of store.shared) b
        given.actors given.reads left) (sym may.is_open.log_only_is) given.leaves;
  }
