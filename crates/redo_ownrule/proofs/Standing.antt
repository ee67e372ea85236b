-- Players as a run begins: who sits in the first seat, and where each is among the actors of the run.
use Rattle.std.proofs.Common.{Bool, List, None, Option, Some, [], ap, arith, cond, false, is_some, length, map, refl, subst, suc, sym, true, zero, ℕ, ◌+◌, ◌∙◌, ◌∷◌, ◌≡◌, ◌≤◌}
use lib.ListN.{get_elem?}
use mathlib.Core.Option as maybe
use Rattle.model_core.specs.States as model
use Rattle.model_own.specs.{LogWork, OwnUser, has_work}
use Rattle.model_own.specs.declared.errand.ErrandStep.{ErrandStep}
use Rattle.model_own.specs.declared.errand.ErrandStep.TheVariants as errand_step
use Rattle.redo_drive.specs.{view_of, views_of}
use Rattle.redo_drive.specs.declared.actor.Actor.{Actor}
use Rattle.redo_drive.specs.declared.actor.Actor.TheVariants as actor
use Rattle.redo_ownmachine.specs.OwnCrew.{IsOther}
use Rattle.redo_ownmachine.specs.OwnCrew as own_crew
use Rattle.redo_ownmachine.specs.OwnSeats.{AreAtHome}
use Rattle.redo_ownrule.proofs.Crews.{own_users, plain_users}
use Rattle.redo_ownrule.proofs.Placed.{alone}
use Rattle.redo_ownrule.specs.Players.{actor_of, AreInOrder, ArePlain, crew, numbered_as, place, place_behind, seated, UsersFirst}
use Rattle.redo_ownrule.specs.Staffing.{HaveOthers, StandAtHome}
use Rattle.redo_ownrule.specs.declared.player.Player.{Player}
use Rattle.redo_ownrule.specs.declared.player.Player.TheVariants as player
use Rattle.redo_rule.proofs.Opens.{AllStand, Stands}
use Rattle.redo_rule.specs.Handing.{nothing}
use Rattle.redo_rule.specs.OwnSide.{OwnSide, work_of}
use Rattle.redo_rule.specs.Ruled.{none_heard, numbered, own_numbered}
use Rattle.redo_rule.specs.declared.law.Numbered.{Numbered}

-- users that write for themselves lie beside the log part with its work
abbrev pub side_of : {R : Type 0} → Option LogWork → List (Player R) → Option OwnSide
side_of None ps = None
side_of (Some k) ps = Some (record { users = own_users ps; work = k })

pub work_back : {R : Type 0} (work : Option LogWork) (ps : List (Player R))
    → ◌≡◌ {A = Option LogWork} (work_of (side_of work ps)) work
work_back None ps = refl
work_back (Some k) ps = refl

pub side_is : {R : Type 0} (work : Option LogWork) (ps : List (Player R)) → is_some (side_of work ps) ≡ is_some work
side_is None ps = refl
side_is (Some k) ps = refl

-- who plays by its own program
abbrev pub plain_actors : {R : Type 0} → List (Player R) → List (Actor R)
plain_actors [] = []
plain_actors (player.Own o ∷ ps) = plain_actors ps
plain_actors (player.Plain a ∷ ps) = a ∷ plain_actors ps

-- as its seat has a user that is on an errand
abbrev on_errand : ℕ → OwnUser → ErrandStep → Bool → Numbered
on_errand n o step helped = record {
  number = n;
  actor = model.User o.user;
  heard = nothing;
  errand = Some (record { step = step; helped = helped });
}

home_is : (R : Type 0) (n : ℕ) (o : OwnUser) → o.errand ≡ errand_step.Done → o.helped ≡ false
    → ◌≡◌ {A = Numbered} (on_errand n o errand_step.Done false) (numbered_as {R = R} n nothing (player.Own o))
home_is R n o done none =
    ap (λ (e : ErrandStep). on_errand n o e false) (sym done) ∙ ap (on_errand n o o.errand) (sym none)

-- the user, if it is one
abbrev user_or : {R : Type 0} → OwnUser → Player R → OwnUser
user_or d (player.Own o) = o
user_or d (player.Plain a) = d

module _ {R : Type 0} where
  -- THE CREW is that of a machine whose users write for themselves
  plain_same : (ps : List (Player R)) → ArePlain ps → ◌≡◌ {A = List (Actor R)} (map actor_of ps) (plain_actors ps)
  plain_same [] plain = refl
  plain_same (player.Plain a ∷ ps) plain = ap (λ (l : List (Actor R)). a ∷ l) (plain_same ps plain)
  plain_same (player.Own o ∷ ps) plain = absurd plain

  pub same_crew : (k : LogWork) (ps : List (Player R)) → UsersFirst ps
      → ◌≡◌ {A = List (Actor R)} (crew (Some k) ps) (own_crew.crew (own_users ps) k (plain_actors ps))
  same_crew k [] first = refl
  same_crew k (player.Own o ∷ ps) first = ap (λ (l : List (Actor R)). actor.User o.user ∷ l) (same_crew k ps first)
  same_crew k (player.Plain a ∷ ps) first =
      ap (λ (l : List (Actor R)). actor.Writer k.writer ∷ actor.Flusher k.flusher ∷ a ∷ l) (plain_same ps first)
      ∙ ap (λ (l : List OwnUser). own_crew.crew l k (a ∷ plain_actors ps)) (sym (plain_users ps first))

  pub users_home : (ps : List (Player R)) → StandAtHome ps → AreAtHome (own_users ps)
  users_home [] home n o at = absurd (maybe.some-ne-none o (sym at))
  users_home (player.Own x ∷ ps) home zero o at =
      subst (λ (z : OwnUser). (z.errand ≡ errand_step.Done) × (z.helped ≡ false)) (maybe.some-injective x o at)
      (home.0, home.1)
  users_home (player.Own x ∷ ps) home (suc n) o at = users_home ps home.2 n o at
  users_home (player.Plain a ∷ ps) home n o at = users_home ps home n o at

  -- PLACES: each player is the actor of its number
  all_there : (ps : List (Player R)) (i : ℕ) (p : Player R) → get_elem? ps i ≡ maybe.some p
      → get_elem? (views_of (map actor_of ps)) i ≡ maybe.some (view_of (actor_of p))
  all_there [] i p at = absurd (maybe.some-ne-none p (sym at))
  all_there (q ∷ ps) zero p at =
      ap (λ (x : Player R). maybe.some (view_of (actor_of x))) (maybe.some-injective q p at)
  all_there (q ∷ ps) (suc i) p at = all_there ps i p at

  behind_there : (k : LogWork) (ps : List (Player R)) (i : ℕ) (p : Player R) → get_elem? ps i ≡ maybe.some p
      → get_elem? (views_of (crew (Some k) ps)) (place_behind ps i) ≡ maybe.some (view_of (actor_of p))
  behind_there k [] i p at = absurd (maybe.some-ne-none p (sym at))
  behind_there k (player.Plain a ∷ ps) i p at = all_there (player.Plain a ∷ ps) i p at
  behind_there k (player.Own o ∷ ps) zero p at =
      ap (λ (x : Player R). maybe.some (view_of (actor_of x))) (maybe.some-injective (player.Own o) p at)
  behind_there k (player.Own o ∷ ps) (suc i) p at = behind_there k ps i p at

  pub crew_there : (own : Bool) (work : Option LogWork) → is_some work ≡ own → (ps : List (Player R)) (i : ℕ)
      (p : Player R) → get_elem? ps i ≡ maybe.some p
      → get_elem? (views_of (crew work ps)) (place own ps i) ≡ maybe.some (view_of (actor_of p))
  crew_there true None works ps i p at = absurd (cc)
  crew_there true (Some k) works ps i p at = behind_there k ps i p at
  crew_there false None works ps i p at =
      ap (λ (l : List (Actor R)). get_elem? (views_of l) i) (sym (alone ps)) ∙ all_there ps i p at
  crew_there false (Some k) works ps i p at = absurd (cc)

  apart_behind : (ps : List (Player R)) (i j : ℕ) → place_behind ps i ≡ place_behind ps j → i ≡ j
  apart_behind [] i j e = omega arith
  apart_behind (player.Plain a ∷ ps) i j e = omega arith
  apart_behind (player.Own o ∷ ps) zero zero e = refl
  apart_behind (player.Own o ∷ ps) zero (suc j) e = absurd (omega arith)
  apart_behind (player.Own o ∷ ps) (suc i) zero e = absurd (omega arith)
  apart_behind (player.Own o ∷ ps) (suc i) (suc j) e = ap suc (apart_behind ps i j (omega arith))

  pub places_apart : (own : Bool) (ps : List (Player R)) (i j : ℕ) → place own ps i ≡ place own ps j → i ≡ j
  places_apart true ps i j e = apart_behind ps i j e
  places_apart false ps i j e = e

  -- THE FIRST SEAT
  numbered_plain : (k : ℕ) (ps : List (Player R)) → ArePlain ps → ◌≡◌ {A = List Numbered}
      (numbered none_heard k (views_of (map actor_of ps))) (seated (λ n. n) none_heard k ps)
  numbered_plain k [] plain = refl
  numbered_plain k (player.Plain a ∷ ps) plain =
      ap (λ (l : List Numbered). numbered_as k nothing (player.Plain a) ∷ l) (numbered_plain (k + 1) ps plain)
  numbered_plain k (player.Own o ∷ ps) plain = absurd plain

  one_other : (n : ℕ) (a : Actor R) (xs : List model.Actor) → IsOther a → ◌≡◌ {A = List Numbered}
      (own_numbered n (view_of a ∷ xs)) (numbered_as n nothing (player.Plain a) ∷ own_numbered (n + 1) xs)
  one_other n (actor.User u) xs other = absurd other
  one_other n (actor.Writer w) xs other = absurd other
  one_other n (actor.Flusher f) xs other = absurd other
  one_other n _ xs other = refl

  others_numbered : (number : ℕ → ℕ) (n k : ℕ) (ps : List (Player R)) → ArePlain ps → HaveOthers ps
      → ((i : ℕ) → number (k + i) ≡ n + i) → ◌≡◌ {A = List Numbered}
      (own_numbered n (views_of (map actor_of ps))) (seated number none_heard k ps)
  others_numbered number n k [] plain others by = refl
  others_numbered number n k (player.Plain a ∷ ps) plain others by =
      one_other n a (views_of (map actor_of ps)) others.0
      ∙ ap (λ (m : ℕ). numbered_as m nothing (player.Plain a) ∷ own_numbered (n + 1) (views_of (map actor_of ps)))
      (let z = by 0 in let same : number (k + 0) ≡ number k = ap number (let e : k + 0 ≡ k = omega arith in e) in
      let e : n ≡ number k = omega arith in e)
      ∙ ap (λ (l : List Numbered). numbered_as (number k) nothing (player.Plain a) ∷ l)
      (others_numbered number (n + 1) (k + 1) ps plain others.1 (λ i.
      let z = by (suc i) in
      let same : number (k + suc i) ≡ number (k + 1 + i) =
      ap number (let e : k + suc i ≡ k + 1 + i = omega arith in e) in
      omega arith))
  others_numbered number n k (player.Own o ∷ ps) plain others by = absurd plain

  own_is_numbered : (w : LogWork) (number : ℕ → ℕ) (n k : ℕ) (ps : List (Player R)) → UsersFirst ps → HaveOthers ps
      → StandAtHome ps → ((i : ℕ) → number (k + i) ≡ n + place_behind ps i) → ◌≡◌ {A = List Numbered}
      (own_numbered n (views_of (crew (Some w) ps))) (seated number none_heard k ps)
  own_is_numbered w number n k [] first others home by = refl
  own_is_numbered w number n k (player.Plain a ∷ ps) first others home by =
      others_numbered number (n + 1 + 1) k (player.Plain a ∷ ps) first others (λ i. let z = by i in omega arith)
  own_is_numbered w number n k (player.Own o ∷ ps) first others home by =
      ap (λ (x : Numbered). x ∷ own_numbered (n + 1) (views_of (crew (Some w) ps))) (home_is R n o home.0 home.1)
      ∙ ap (λ (m : ℕ). numbered_as {R = R} m nothing (player.Own o) ∷ own_numbered (n + 1) (views_of (crew (Some w) ps)))
      (let z = by 0 in let same : number (k + 0) ≡ number k = ap number (let e : k + 0 ≡ k = omega arith in e) in
      let e : n ≡ number k = omega arith in e)
      ∙ ap (λ (l : List Numbered). numbered_as {R = R} (number k) nothing (player.Own o) ∷ l)
      (own_is_numbered w number (n + 1) (k + 1) ps first others home.2 (λ i.
      let z = by (suc i) in
      let same : number (k + suc i) ≡ number (k + 1 + i) =
      ap number (let e : k + suc i ≡ k + 1 + i = omega arith in e) in
      omega arith))

  pub first_seated : (own : Bool) (work : Option LogWork) → is_some work ≡ own → (ps : List (Player R))
      → AreInOrder own ps → (own ≡ true → HaveOthers ps) → StandAtHome ps → ◌≡◌ {A = List Numbered}
      (cond own (own_numbered 0 (views_of (crew work ps))) (numbered none_heard 0 (views_of (crew work ps))))
      (seated (place own ps) none_heard 0 ps)
  first_seated true None works ps order others home = absurd (cc)
  first_seated true (Some k) works ps order others home =
      own_is_numbered k (place_behind ps) 0 0 ps order (others refl) home
      (λ i. let same : place_behind ps (0 + i) ≡ place_behind ps i =
      ap (place_behind ps) (let e : 0 + i ≡ i = omega arith in e) in
      omega arith)
  first_seated false None works ps order others home =
      ap (λ (l : List (Actor R)). numbered none_heard 0 (views_of l)) (sym (alone ps)) ∙ numbered_plain 0 ps order
  first_seated false (Some k) works ps order others home = absurd (cc)

  -- so each who sits there stands as it should
  seat_is : (number : ℕ → ℕ) (k : ℕ) (ps : List (Player R)) (i : ℕ) (x : Numbered)
      → get_elem? (seated number none_heard k ps) i ≡ maybe.some x
      → (p : Player R) × (get_elem? ps i ≡ maybe.some p) × ◌≡◌ {A = Numbered} (numbered_as (number (k + i)) nothing p) x
  seat_is number k [] i x at = absurd (maybe.some-ne-none x (sym at))
  seat_is number k (q ∷ ps) zero x at = (
    q,
    refl,
    ap (λ (n : ℕ). numbered_as (number n) nothing q) (let e : k + 0 ≡ k = omega arith in e)
        ∙ maybe.some-injective (numbered_as (number k) nothing q) x at,
  )
  seat_is number k (q ∷ ps) (suc i) x at =
      let r = seat_is number (k + 1) ps i x at in (
        r.0,
        r.1,
        ap (λ (n : ℕ). numbered_as (number n) nothing r.0) (let e : k + suc i ≡ k + 1 + i = omega arith in e) ∙ r.2,
      )

  sits_first : (ps : List (Player R)) → UsersFirst ps → (i : ℕ) (a : Actor R)
      → get_elem? ps i ≡ maybe.some (player.Plain a) → length (own_users ps) + 2 ≤ place_behind ps i
  sits_first [] first i a at = absurd (maybe.some-ne-none (player.Plain a) (sym at))
  sits_first (player.Plain b ∷ ps) first i a at =
      let none = ap (λ (l : List OwnUser). length l) (plain_users ps first) in omega arith
  sits_first (player.Own o ∷ ps) first zero a at =
      absurd (let e = maybe.some-injective (player.Own o) (player.Plain a) at in cc)
  sits_first (player.Own o ∷ ps) first (suc i) a at = let l = sits_first ps first i a at in omega arith

  no_user : (ps : List (Player R)) → ArePlain ps → (i : ℕ) (o : OwnUser)
      → get_elem? ps i ≡ maybe.some (player.Own o) → ⊥
  no_user [] plain i o at = maybe.some-ne-none (player.Own o) (sym at)
  no_user (player.Plain b ∷ ps) plain zero o at =
      let e = maybe.some-injective (player.Plain b) (player.Own o) at in cc
  no_user (player.Plain b ∷ ps) plain (suc i) o at = no_user ps plain i o at
  no_user (player.Own x ∷ ps) plain i o at = plain

  user_first : (ps : List (Player R)) → UsersFirst ps → (i : ℕ) (o : OwnUser)
      → get_elem? ps i ≡ maybe.some (player.Own o)
      → get_elem? (own_users ps) (place_behind ps i) ≡ maybe.some o
  user_first [] first i o at = absurd (maybe.some-ne-none (player.Own o) (sym at))
  user_first (player.Plain b ∷ ps) first zero o at =
      absurd (let e = maybe.some-injective (player.Plain b) (player.Own o) at in cc)
  user_first (player.Plain b ∷ ps) first (suc i) o at = absurd (no_user ps first i o at)
  user_first (player.Own x ∷ ps) first zero o at =
      ap (λ (p : Player R). maybe.some (user_or x p)) (maybe.some-injective (player.Own x) (player.Own o) at)
  user_first (player.Own x ∷ ps) first (suc i) o at = user_first ps first i o at

  idle : (ps : List (Player R)) → StandAtHome ps → (i : ℕ) (o : OwnUser) → get_elem? ps i ≡ maybe.some (player.Own o)
      → has_work o.errand ≡ false
  idle [] home i o at = absurd (maybe.some-ne-none (player.Own o) (sym at))
  idle (player.Plain b ∷ ps) home zero o at =
      absurd (let e = maybe.some-injective (player.Plain b) (player.Own o) at in cc)
  idle (player.Plain b ∷ ps) home (suc i) o at = idle ps home i o at
  idle (player.Own x ∷ ps) home zero o at =
      let e = maybe.some-injective (player.Own x) (player.Own o) at in
      ap (λ (p : Player R). has_work (user_or x p).errand) (sym e) ∙ ap has_work home.0
  idle (player.Own x ∷ ps) home (suc i) o at = idle ps home.2 i o at

  stands_at : (own : Bool) (work : Option LogWork) → is_some work ≡ own → (ps : List (Player R)) → AreInOrder own ps
      → StandAtHome ps → (i : ℕ) (p : Player R) → get_elem? ps i ≡ maybe.some p
      → Stands (side_of work ps) (views_of (crew work ps)) (numbered_as (place own ps i) nothing p)
  stands_at true None works ps order home i p at = absurd (cc)
  stands_at false (Some k) works ps order home i p at = absurd (cc)
  stands_at false None works ps order home i (player.Plain a) at = record {
    here = crew_there false None works ps i (player.Plain a) at;
    silent = refl;
    sits = tt;
    idle = tt;
  }
  stands_at false None works ps order home i (player.Own o) at = absurd (no_user ps order i o at)
  stands_at true (Some k) works ps order home i (player.Plain a) at = record {
    here = crew_there true (Some k) works ps i (player.Plain a) at;
    silent = refl;
    sits = sits_first ps order i a at;
    idle = tt;
  }
  stands_at true (Some k) works ps order home i (player.Own o) at = record {
    here = crew_there true (Some k) works ps i (player.Own o) at;
    silent = refl;
    sits = (o.user, user_first ps order i o at);
    idle = idle ps home i o at;
  }

  pub all_stand : (own : Bool) (work : Option LogWork) → is_some work ≡ own → (ps : List (Player R)) → AreInOrder own ps
      → StandAtHome ps → (actors : List model.Actor) → ◌≡◌ {A = List model.Actor} actors (views_of (crew work ps))
      → (seats : List Numbered) → ◌≡◌ {A = List Numbered} seats (seated (place own ps) none_heard 0 ps)
      → AllStand (side_of work ps) actors seats
  all_stand own work works ps order home actors are seats seated_is i x at =
      let r = seat_is (place own ps) 0 ps i x (ap (λ (l : List Numbered). get_elem? l i) (sym seated_is) ∙ at) in
      subst (Stands (side_of work ps) actors)
      (ap (λ (n : ℕ). numbered_as (place own ps n) nothing r.0) (let e : i ≡ 0 + i = omega arith in e) ∙ r.2)
      (subst (λ (l : List model.Actor). Stands (side_of work ps) l (numbered_as (place own ps i) nothing r.0)) (sym are)
      (stands_at own work works ps order home i r.0 r.1))
