-- A store as it is opened: its users and its workers in their seats.
use Rattle.std.proofs.Common.{append-nil, Some, true}
use Rattle.std.proofs.Common.{Bool, List, [], ap, arith, false, inl, length, map, refl, subst, suc, sym, zero, ℕ}
use Rattle.std.proofs.Common.{◌++◌, ◌+◌, ◌<◌, ◌^◌, ◌∙◌, ◌∷◌, ◌≡◌, ◌≤◌}
use Rattle.std.proofs.lemmas.List.{length-map}
use Rattle.std.specs.Prelude.{vec_capacity}
use lib.ListN.{get_elem?}
use mathlib.Core.Option as maybe
use native.Mathlib.Decide.{ℕ_discrete}
use Rattle.atomic_table.proofs.Lists.{at_last, at_longer, at_map}
use Rattle.atomic_table.specs.declared.shared.Seat.{Seat}
use Rattle.model_base.specs.{IsWithinLimits}
use Rattle.model_base.specs.declared.shape.Shape.{Shape}
use Rattle.model_core.specs.{new_user, UserState}
use Rattle.model_core.specs.States as model
use Rattle.model_log.specs.{run_layout}
use Rattle.model_logcore.specs.{lengths}
use Rattle.model_running.specs.Schedule.{HasEnded}
use Rattle.model_script.specs.declared.misfit.TheConstants.{MAX_USERS}
use Rattle.redo_drive.proofs.Viewed.{length_views}
use Rattle.redo_drive.specs.LiveActors.{idle_users, live_actors, live_plan}
use Rattle.redo_drive.specs.Setups.{other_actors}
use Rattle.redo_drive.specs.History.{view_of}
use Rattle.redo_drive.specs.declared.actor.Actor.{Actor}
use Rattle.redo_follow.specs.declared.tally.Tally.{Tally}
use Rattle.redo_live.proofs.Later.{plays_as, state_is}
use Rattle.redo_live.proofs.Workers.{past}
use Rattle.redo_live.specs.Holding.{AreUsersOf, AreWorkersOf, IsOpen, IsPlayedBy, state_of}
use Rattle.redo_live.specs.Opening.{IsNewlyOpened}
use Rattle.redo_live.specs.Quota.{share_of}
use Rattle.redo_live.specs.Seating.{AreSeatedFrom, AreSeatedUsers, AreSeatedWorkers, idle_at, IsPlain, Plan}
use Rattle.redo_live.specs.declared.store.Store.{Store}
use Rattle.redo_live.specs.declared.user.User.{User}
use Rattle.redo_live.specs.declared.worker.Worker.{Worker}
use Rattle.redo_ownrule.proofs.LiveCount.{many_actors, many_idle, others}
use Rattle.redo_ownrule.specs.LiveClosing.{users_in}
use Rattle.redo_ownrule.specs.LiveSharing.{IsNewlyLive}
use Rattle.redo_ownrule.specs.Players.{actor_of, AreInOrder, ArePlain, place, workers}
use Rattle.redo_ownrule.specs.Playing.{IsPlayerSeat}
use Rattle.redo_ownrule.specs.Sharing.{AreSeatsOf, IsSeated, opened_of, own_of, starts_of, table_of}
use Rattle.redo_ownrule.specs.declared.player.Player.{Player}
use Rattle.redo_ownrule.specs.declared.player.Player.TheVariants as player
use Rattle.redo_ownrule.specs.declared.shared.Shared.{Shared}
use Rattle.redo_rule.specs.Mine.{number_of}
use Rattle.redo_rule.specs.Ruled.{starts_about}
use Rattle.redo_rule.specs.Sharing.{AreLaidOut}
use Rattle.redo_rule.specs.declared.law.Live.{Live}
use Rattle.redo_rule.specs.declared.law.Slot.{Slot}
use Rattle.redo_rule.specs.declared.law.View.{View}
use Rattle.redo_store.specs.declared.opened.Opened.{Opened}
use Rattle.redo_words.specs.{shape_layout}

-- each user without lines stands by its number
idle_there : (blocks users i : ℕ) → i < users
    → get_elem? (idle_users blocks users) i ≡ maybe.some (new_user (i + 1) blocks [])
idle_there blocks zero i low = absurd (omega arith)
idle_there blocks (suc n) i low = elim (ℕ_discrete i n) [
  | yes last ↦ (let e : suc n ≡ i + 1 = omega arith in
      ap (get_elem? (idle_users blocks n ++ new_user (suc n) blocks [] ∷ [])) last
      ∙ at_last (idle_users blocks n) (new_user (suc n) blocks []) n (many_idle blocks n)
      ∙ ap (λ (k : ℕ). maybe.some (new_user k blocks [])) e)
  | no far ↦ at_longer (idle_users blocks n) (new_user (suc n) blocks [] ∷ []) i (new_user (i + 1) blocks [])
      (idle_there blocks n i (omega arith))
]

-- so do they among the actors
idle_actor : (shape : Shape) (users start : ℕ) (log_only : Bool) (i : ℕ) → i < users
    → get_elem? (live_actors shape users start (live_plan log_only)) i
    ≡ maybe.some (model.User (new_user (i + 1) (run_layout shape).blocks []))
idle_actor shape users start log_only i low =
    let blocks = (run_layout shape).blocks in
    let idle : List UserState = idle_users blocks users in
    let one : UserState = new_user (i + 1) blocks [] in
    let here = at_map model.User idle i one (idle_there blocks users i low) in
    at_longer (map model.User idle ++ other_actors shape start (live_plan log_only)) [] i (model.User one)
    (at_longer (map model.User idle) (other_actors shape start (live_plan log_only)) i (model.User one) here)

-- behind so many users of whom none has the number stands none
behind_users : (us : List UserState) (rest : List model.Actor) → ((j : ℕ) (u : UserState)
    → get_elem? rest j ≡ maybe.some (model.User u) → ⊥) → (i : ℕ) (u : UserState) → length us ≤ i
    → get_elem? (map model.User us ++ rest) i ≡ maybe.some (model.User u) → ⊥
behind_users [] rest none i u far at = none i u at
behind_users (x ∷ us) rest none zero u far at = absurd (omega arith)
behind_users (x ∷ us) rest none (suc i) u far at = behind_users us rest none i u (omega arith) at

-- none of the others is a user
other_user : (shape : Shape) (start : ℕ) (log_only : Bool) (j : ℕ) (u : UserState)
    → get_elem? (other_actors shape start (live_plan log_only)) j ≡ maybe.some (model.User u) → ⊥
other_user shape start log_only zero u at = absurd (cc)
other_user shape start log_only (suc zero) u at = absurd (cc)
other_user shape start true (suc (suc j)) u at = maybe.some-ne-none (model.User u) (sym at)
other_user shape start false (suc (suc zero)) u at = absurd (cc)
other_user shape start false (suc (suc (suc zero))) u at = absurd (cc)
other_user shape start false (suc (suc (suc (suc zero)))) u at = absurd (cc)
other_user shape start false (suc (suc (suc (suc (suc j))))) u at = maybe.some-ne-none (model.User u) (sym at)

no_idle_user : (shape : Shape) (users start : ℕ) (log_only : Bool) (i : ℕ) (u : UserState) → users ≤ i
    → get_elem? (live_actors shape users start (live_plan log_only)) i ≡ maybe.some (model.User u) → ⊥
no_idle_user shape users start log_only i u far at =
    let blocks = (run_layout shape).blocks in
    let m = many_idle blocks users in
    let all : List model.Actor = map model.User (idle_users blocks users) ++ other_actors shape start
    (live_plan log_only) in
    behind_users (idle_users blocks users) (other_actors shape start (live_plan log_only))
    (other_user shape start log_only) i u (omega arith)
    (ap (λ (l : List model.Actor). get_elem? l i) (sym (append-nil all)) ∙ at)

-- one of some that all play by their own programs
plain_at : {R : Type 0} (ps : List (Player R)) → ArePlain ps → (i : ℕ) (p : Player R)
    → get_elem? ps i ≡ maybe.some p → IsPlain p
plain_at [] are i p at = absurd (maybe.some-ne-none p (sym at))
plain_at (player.Plain a ∷ ps) are zero p at = (a, sym (maybe.some-injective (player.Plain a) p at))
plain_at (player.Plain a ∷ ps) are (suc i) p at = plain_at ps are i p at
plain_at (player.Own o ∷ ps) are i p at = absurd are

-- the players of a live run are all its actors
pub many_players : {L D : Type 0} (opened : Opened L D) (live : Live) (log_only : Bool) (shared : Shared L D Tally)
    (players : List (Player Tally)) → IsNewlyLive opened live log_only shared players
    → length players ≡ live.users + others log_only
many_players opened live log_only shared players new =
    let a = ap (λ (l : List model.Actor). length l) new.actors_are in
    let v = length_views (map actor_of players) in
    let m = length-map players actor_of in
    let n = many_actors opened.shape live.users opened.start log_only in omega arith

module _ {L D : Type 0} (opened : Opened L D) (live : Live) (log_only : Bool) (before shared : Shared L D Tally)
    (players : List (Player Tally)) (new : IsNewlyLive opened live log_only before players)
    (same : shared.board ≡ before.board) (kept_layout : shared.layout ≡ before.layout)
    (seats : List (Seat (Slot L D) (View L D)))
    (sit : AreSeatsOf (table_of shared) (own_of shared) seats players) (laid : AreLaidOut shared.layout seats) where
  abbrev plan : Plan
  plan = record {
    table = table_of shared;
    layout = shared.layout;
    blocks = (run_layout opened.shape).blocks;
    users = live.users;
  }

  own_none : own_of shared ≡ false
  own_none = ap (λ b. b.shared.key.own_writes) same ∙ new.own_is

  all_plain : ArePlain players
  all_plain = subst (λ (b : Bool). AreInOrder b players) new.own_is new.unseated.order

  -- THE PLAYERS SIT in their seats
  are_seated : AreSeatedFrom plan 0 seats players
  are_seated = record {
    count = sit.count;
    each = λ i seat p at bt.
        let plain = plain_at players all_plain i p bt in
        let n : i ≡ 0 + i = omega arith in record {
          sits = (sit.each i seat p at bt).0;
          layout_is = laid i seat at;
          number_is = (sit.each i seat p at bt).1 ∙ ap (λ (b : Bool). place b players i) own_none ∙ n;
          plain = plain;
          user = λ low. plays_as p (idle_at plan (0 + i)) plain
              (maybe.some-injective (view_of (actor_of p)) (model.User (idle_at plan (0 + i)))
              (sym (at_map view_of (map actor_of players) i (actor_of p) (at_map actor_of players i p bt))
              ∙ ap (λ (l : List model.Actor). get_elem? l i) new.actors_are
              ∙ ap (get_elem? (live_actors opened.shape live.users opened.start (live_plan log_only))) n
              ∙ idle_actor opened.shape live.users opened.start log_only (0 + i) low));
          no_user = λ far u plays. no_idle_user opened.shape live.users opened.start log_only i u (omega arith)
              (ap (λ (l : List model.Actor). get_elem? l i) (sym new.actors_are)
              ∙ at_map view_of (map actor_of players) i (actor_of p) (at_map actor_of players i p bt)
              ∙ ap (λ (q : Player Tally). maybe.some (view_of (actor_of q))) plays);
        };
  }

  all_start : length players ≡ length (starts_of shared)
  all_start =
      let c = new.unseated.count in
      let w = ap workers new.own_is in
      let k = ap (λ b. length (starts_about b.shared.key)) same in omega arith

  module _ (store : Store L D) (shared_is : ◌≡◌ {A = Shared L D Tally} store.shared shared)
      (quota_is : store.quota ≡ live.quota) (quota_small : store.quota < 2 ^ 64) (seated : IsSeated shared)
      (only_is : store.log_only ≡ log_only) (shape_is : store.shape ≡ opened.shape)
      (limits : IsWithinLimits opened.shape) (no_seats : store.seats.items ≡ [])
      (seats_fit : live.users + others log_only ≤ vec_capacity store.seats) (no_players : store.players.items ≡ [])
      (players_fit : live.users + others log_only ≤ vec_capacity store.players) where
    live_is : store.shared.board.shared.key.live ≡ Some live
    live_is = ap (λ (s : Shared L D Tally). s.board.shared.key.live) shared_is
        ∙ ap (λ b. b.shared.key.live) same ∙ new.is_live

    planned : store.shared.board.shared.key.plan ≡ live_plan log_only
    planned = ap (λ (s : Shared L D Tally). s.board.shared.key.plan) shared_is
        ∙ ap (λ b. b.shared.key.plan) same ∙ new.plan_is

    -- THE STORE IS OPEN
    is_open : IsOpen store
    is_open = record {
      seated = subst (λ (s : Shared L D Tally). IsSeated s) (sym shared_is) seated;
      alive = record {
        live = live;
        is_live = live_is;
        no_script = ap (λ (s : Shared L D Tally). s.board.shared.key.script.value) shared_is
            ∙ ap (λ b. b.shared.key.script.value) same ∙ new.no_script;
        plan_is = planned ∙ ap live_plan (sym (ap (λ p. p.log_only) planned));
      };
      quota_is = quota_is;
      quota_small = quota_small;
      plain = ap (λ (s : Shared L D Tally). own_of s) shared_is ∙ own_none;
      log_only_is = only_is ∙ sym (ap (λ p. p.log_only) planned);
      shape_is = shape_is ∙ sym (ap (λ (s : Shared L D Tally). (opened_of s).shape) shared_is
          ∙ ap (λ b. b.shared.key.opened.value.shape) same
          ∙ ap (λ (o : Opened L D). o.shape) new.opened_is);
      limits = subst IsWithinLimits (sym shape_is) limits;
      layout_is = ap (λ (s : Shared L D Tally). s.layout) shared_is ∙ kept_layout ∙ new.layout_is
          ∙ sym (ap (λ (s : Shared L D Tally). shape_layout (opened_of s).shape) shared_is
          ∙ ap (λ b. shape_layout b.shared.key.opened.value.shape) same
          ∙ ap (λ (o : Opened L D). shape_layout o.shape) new.opened_is);
      no_seats = no_seats;
      seats_fit = (let m = many_players opened live log_only before players new in let a = all_start in
          let s = ap (λ (s : Shared L D Tally). length (starts_of s)) shared_is in omega arith);
      no_players = no_players;
      players_fit = (let m = many_players opened live log_only before players new in let a = all_start in
          let s = ap (λ (s : Shared L D Tally). length (starts_of s)) shared_is in omega arith);
    }

    module _ (most : live.users ≤ MAX_USERS) (users : List (User L D)) (workers_are : List (Worker L D))
        (count : length users ≡ live.users) (all : live.users + length workers_are ≡ length players)
        (all_sit : (p : Plan) → AreSeatedFrom p 0 seats players
        → AreSeatedUsers p users × AreSeatedWorkers p live.users workers_are)
        (share : store.quota ≡ share_of opened.shape opened.start log_only (live.users + others log_only)) where
      seated_users : AreSeatedUsers plan users
      seated_users = (all_sit plan are_seated).0

      seated_workers : AreSeatedWorkers plan live.users workers_are
      seated_workers = (all_sit plan are_seated).1

      below : (i : ℕ) (u : User L D) → get_elem? users i ≡ maybe.some u → i < live.users
      below i u at = let l = past users i u at in omega arith

      -- each is a user of the store, without lines
      idle_user : (i : ℕ) (u : User L D) → get_elem? users i ≡ maybe.some u → state_of u ≡ idle_at plan i
      idle_user i u at =
          state_is (idle_at plan i) u.player ((seated_users i u at).0.user (below i u at))

      users_of : AreUsersOf store users
      users_of i u at =
          let S = seated_users i u at in
          let s = idle_user i u at in
          let low = below i u at in
          let number : number_of u.seat.me.0 ≡ i = S.0.number_is in (
            record {
              is_open = is_open;
              plays = subst (λ (z : UserState). IsPlayedBy z u.player) (sym s) (S.0.user low);
              sits = subst (λ (z : Shared L D Tally). IsPlayerSeat (table_of z) u.seat u.player) (sym shared_is)
                  S.0.sits;
              layout = S.0.layout_is ∙ sym (ap (λ (z : Shared L D Tally). z.layout) shared_is);
              number = (let k = ap (λ (z : UserState). z.user) s in omega arith);
              few = (let k = ap (λ (z : UserState). z.user) s in omega arith);
              ended = subst HasEnded (sym s) (inl refl);
              used = S.1 ∙ sym (ap (λ (z : UserState). lengths z.lines) s);
              within = (let z = S.1 in omega arith);
            },
            number,
          )

      workers_of : AreWorkersOf store live.users workers_are
      workers_of i w at =
          let S = seated_workers i w at in (
            record {
              is_open = is_open;
              plain = S.plain;
              no_user = S.no_user (omega arith);
              sits = subst (λ (z : Shared L D Tally). IsPlayerSeat (table_of z) w.seat w.player) (sym shared_is) S.sits;
              layout = S.layout_is ∙ sym (ap (λ (z : Shared L D Tally). z.layout) shared_is);
            },
            S.number_is,
          )

      -- IT IS NEWLY OPENED
      pub newly_opened : IsNewlyOpened opened live.users log_only store users workers_are
      newly_opened = record {
        is_open = is_open;
        opened_is = ap (λ (s : Shared L D Tally). opened_of s) shared_is
            ∙ ap (λ b. b.shared.key.opened.value) same ∙ new.opened_is;
        log_only_is = only_is;
        user_count_is = ap users_in live_is;
        count = count;
        users_are = users_of;
        idle = idle_user;
        workers_are = workers_of;
        all = all ∙ all_start ∙ sym (ap (λ (s : Shared L D Tally). length (starts_of s)) shared_is);
        share = share ∙ ap (λ (n : ℕ). share_of opened.shape opened.start log_only n)
            (let m = many_players opened live log_only before players new in
            let e : live.users + others log_only ≡ live.users + length workers_are = omega arith in e);
      }
