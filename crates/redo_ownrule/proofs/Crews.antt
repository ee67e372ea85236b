-- The players of a table, later, and the actors that they leave.
use Rattle.std.proofs.Common.{Bool, List, None, Option, Some, [], ap, false, map, refl, suc, sym, true, zero, ℕ, ◌++◌, ◌∙◌, ◌∷◌, ◌≡◌}
use Rattle.std.specs.List.{AllZip}
use Rattle.std.specs.Prelude.{is_some}
use Rattle.atomic_table.specs.Seated.{TableId}
use Rattle.atomic_table.specs.declared.shared.Seat.{Seat}
use Rattle.model_core.specs.States as model
use Rattle.model_core.specs.{IsSameActor}
use Rattle.model_own.specs.{all_actors, LogWork, OwnUser}
use Rattle.redo_drive.specs.{view_of, views_of}
use Rattle.redo_drive.specs.declared.actor.Actor.{Actor}
use Rattle.redo_ownrule.specs.Players.{actor_of, AreInOrder, ArePlain, crew, IsSamePlayer, MayRest, place, place_behind, UsersFirst, workers_of}
use Rattle.redo_ownrule.specs.Playing.{IsPlayerSeat}
use Rattle.redo_ownrule.specs.declared.player.Player.{Player}
use Rattle.redo_ownrule.specs.declared.player.Player.TheVariants as player
use Rattle.redo_rule.specs.declared.law.Slot.{Slot}
use Rattle.redo_rule.specs.declared.law.View.{View}

-- who has a seat may rest, once it has ended or checks for a failure
pub may_rest : {L D R : Type 0} (table : TableId) (seat : Seat (Slot L D) (View L D)) (p : Player R)
    → IsPlayerSeat table seat p → MayRest p
may_rest table seat (player.Plain a) sits = sits.mine.may.free
may_rest table seat (player.Own o) sits = sits.mine.stands

-- the log's work later
workers_alone : (R : Type 0) (j k : Option LogWork) → is_some j ≡ is_some k
    → AllZip IsSameActor (views_of (workers_of {R = R} j)) (views_of (workers_of {R = R} k))
workers_alone R None None same = tt
workers_alone R None (Some k) same = absurd (cc)
workers_alone R (Some j) None same = absurd (cc)
workers_alone R (Some j) (Some k) same = ((k.writer, refl), ((k.flusher, refl), tt))

module _ {R : Type 0} where
  -- the same players have the same kinds, and so the same order and the same places
  same_plain : (ps qs : List (Player R)) → AllZip IsSamePlayer ps qs → ArePlain ps → ArePlain qs
  same_plain [] [] same plain = tt
  same_plain [] (q ∷ qs) same plain = absurd same
  same_plain (p ∷ ps) [] same plain = absurd same
  same_plain (player.Plain a ∷ ps) (player.Plain b ∷ qs) same plain = same_plain ps qs same.1 plain
  same_plain (player.Plain a ∷ ps) (player.Own x ∷ qs) same plain = absurd same.0
  same_plain (player.Own o ∷ ps) (q ∷ qs) same plain = absurd plain

  users_still_first : (ps qs : List (Player R)) → AllZip IsSamePlayer ps qs → UsersFirst ps → UsersFirst qs
  users_still_first [] [] same first = tt
  users_still_first [] (q ∷ qs) same first = absurd same
  users_still_first (p ∷ ps) [] same first = absurd same
  users_still_first (player.Plain a ∷ ps) (player.Plain b ∷ qs) same first = same_plain ps qs same.1 first
  users_still_first (player.Plain a ∷ ps) (player.Own x ∷ qs) same first = absurd same.0
  users_still_first (player.Own o ∷ ps) (player.Plain b ∷ qs) same first = absurd same.0
  users_still_first (player.Own o ∷ ps) (player.Own x ∷ qs) same first = users_still_first ps qs same.1 first

  pub same_order : (own : Bool) (ps qs : List (Player R)) → AllZip IsSamePlayer ps qs → AreInOrder own ps
      → AreInOrder own qs
  same_order true ps qs same order = users_still_first ps qs same order
  same_order false ps qs same order = same_plain ps qs same order

  same_place_behind : (ps qs : List (Player R)) → AllZip IsSamePlayer ps qs → (i : ℕ)
      → place_behind ps i ≡ place_behind qs i
  same_place_behind [] [] same i = refl
  same_place_behind [] (q ∷ qs) same i = absurd same
  same_place_behind (p ∷ ps) [] same i = absurd same
  same_place_behind (player.Plain a ∷ ps) (player.Plain b ∷ qs) same i = refl
  same_place_behind (player.Plain a ∷ ps) (player.Own x ∷ qs) same i = absurd same.0
  same_place_behind (player.Own o ∷ ps) (player.Plain b ∷ qs) same i = absurd same.0
  same_place_behind (player.Own o ∷ ps) (player.Own x ∷ qs) same zero = refl
  same_place_behind (player.Own o ∷ ps) (player.Own x ∷ qs) same (suc i) = ap suc (same_place_behind ps qs same.1 i)

  pub same_place : (own : Bool) (ps qs : List (Player R)) → AllZip IsSamePlayer ps qs → (i : ℕ)
      → place own ps i ≡ place own qs i
  same_place true ps qs same i = same_place_behind ps qs same i
  same_place false ps qs same i = refl

  -- THE ACTORS THAT THEY LEAVE are the same actors too, with the log's work later
  same_actor : (p q : Player R) → IsSamePlayer p q → IsSameActor (view_of (actor_of p)) (view_of (actor_of q))
  same_actor (player.Plain a) (player.Plain b) same = same
  same_actor (player.Plain a) (player.Own x) same = absurd same
  same_actor (player.Own o) (player.Plain b) same = absurd same
  same_actor (player.Own o) (player.Own x) same = same

  pub actors_later : (ps qs : List (Player R)) → AllZip IsSamePlayer ps qs
      → AllZip IsSameActor (views_of (map actor_of ps)) (views_of (map actor_of qs))
  actors_later [] [] same = tt
  actors_later [] (q ∷ qs) same = absurd same
  actors_later (p ∷ ps) [] same = absurd same
  actors_later (p ∷ ps) (q ∷ qs) same = (same_actor p q same.0, actors_later ps qs same.1)

  workers_later : (j k : Option LogWork) → is_some j ≡ is_some k → (xs ys : List (Actor R))
      → AllZip IsSameActor (views_of xs) (views_of ys)
      → AllZip IsSameActor (views_of (workers_of j ++ xs)) (views_of (workers_of k ++ ys))
  workers_later None None same xs ys rest = rest
  workers_later None (Some k) same xs ys rest = absurd (cc)
  workers_later (Some j) None same xs ys rest = absurd (cc)
  workers_later (Some j) (Some k) same xs ys rest = ((k.writer, refl), ((k.flusher, refl), rest))

  pub crew_later : (j k : Option LogWork) → is_some j ≡ is_some k → (ps qs : List (Player R))
      → AllZip IsSamePlayer ps qs → AllZip IsSameActor (views_of (crew j ps)) (views_of (crew k qs))
  crew_later j k works [] [] same = workers_alone R j k works
  crew_later j k works [] (q ∷ qs) same = absurd same
  crew_later j k works (p ∷ ps) [] same = absurd same
  crew_later j k works (player.Plain a ∷ ps) (player.Plain b ∷ qs) same =
      workers_later j k works (a ∷ map actor_of ps) (b ∷ map actor_of qs) (same.0, actors_later ps qs same.1)
  crew_later j k works (player.Plain a ∷ ps) (player.Own x ∷ qs) same = absurd same.0
  crew_later j k works (player.Own o ∷ ps) (player.Plain b ∷ qs) same = absurd same.0
  crew_later j k works (player.Own o ∷ ps) (player.Own x ∷ qs) same = (same.0, crew_later j k works ps qs same.1)

  -- where users write for themselves, they and the others, as the definitions see them
  abbrev pub own_users : List (Player R) → List OwnUser
  own_users [] = []
  own_users (player.Own o ∷ ps) = o ∷ own_users ps
  own_users (player.Plain a ∷ ps) = own_users ps

  abbrev pub others_of : List (Player R) → List model.Actor
  others_of [] = []
  others_of (player.Own o ∷ ps) = others_of ps
  others_of (player.Plain a ∷ ps) = view_of a ∷ others_of ps

  pub plain_users : (ps : List (Player R)) → ArePlain ps → own_users ps ≡ []
  plain_users [] plain = refl
  plain_users (player.Plain a ∷ ps) plain = plain_users ps plain
  plain_users (player.Own o ∷ ps) plain = absurd plain

  plain_others : (ps : List (Player R)) → ArePlain ps
      → ◌≡◌ {A = List model.Actor} (views_of (map actor_of ps)) (others_of ps)
  plain_others [] plain = refl
  plain_others (player.Plain a ∷ ps) plain = ap (λ (l : List model.Actor). view_of a ∷ l) (plain_others ps plain)
  plain_others (player.Own o ∷ ps) plain = absurd plain

  pub own_views : (k : LogWork) (ps : List (Player R)) → UsersFirst ps
      → ◌≡◌ {A = List model.Actor} (views_of (crew (Some k) ps)) (all_actors (own_users ps) k (others_of ps))
  own_views k [] first = refl
  own_views k (player.Plain a ∷ ps) first =
      ap (λ (l : List model.Actor). model.Writer k.writer ∷ model.Flusher k.flusher ∷ view_of a ∷ l)
      (plain_others ps first)
      ∙ ap (λ (l : List OwnUser). all_actors l k (view_of a ∷ others_of ps)) (sym (plain_users ps first))
  own_views k (player.Own o ∷ ps) first = ap (λ (l : List model.Actor). model.User o.user ∷ l) (own_views k ps first)
