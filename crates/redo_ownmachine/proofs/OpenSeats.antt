-- Which users haven't ended, among all actors.
use Rattle.std.proofs.Common.{Bool, List, [], ap, map, refl, subst, suc, sym, zero, ℕ, ◌++◌, ◌∙◌, ◌∷◌, ◌≡◌}
use lib.ListN.{get_elem?}
use mathlib.Core.Option.{some, some-injective, some-ne-none}
use Rattle.model_core.specs.{Actor, UserState, WriterState, Setup}
use Rattle.model_core.specs.States as actor
use Rattle.model_own.specs.{all_actors, LogWork, OwnUser}
use Rattle.model_ownrun.proofs.Seats.{user_there}
use Rattle.model_running.proofs.Seated.{user_seat}
use Rattle.model_running.specs.{AreSeated, HasEnded, HaveEnded}
use Rattle.redo_machine.specs.OpenUsers.{IsFirstOpen}
use Rattle.redo_ownmachine.specs.OpenOwn.{IsFirstOpenUser, UsersHaveEnded}

abbrev users_of : List OwnUser → List UserState
users_of users = map (λ o. o.user) users

abbrev seated_with : List UserState → WriterState → List Actor → List Actor
seated_with users w rest = map actor.User users ++ actor.Writer w ∷ rest

abbrev first_of : List Actor → Actor → Actor
first_of [] d = d
first_of (x ∷ xs) d = x

abbrev pub tail_of : List Actor → List Actor
tail_of [] = []
tail_of (x ∷ xs) = xs

abbrev user_of : UserState → Actor → UserState
user_of d (actor.User u) = u
user_of d _ = d

-- the users before the first writer are those that are seated
same_users : (us : List OwnUser) (vs : List UserState) (w x : WriterState) (rest others : List Actor)
    → ◌≡◌ {A = List Actor} (map (λ o. actor.User o.user) us ++ actor.Writer w ∷ rest) (seated_with vs x others)
    → users_of us ≡ vs
same_users [] [] w x rest others e = refl
same_users [] (v ∷ vs) w x rest others e =
    let z : ◌≡◌ {A = Actor} (actor.Writer w) (actor.User v) = ap (λ (l : List Actor). first_of l (actor.User v)) e in
    absurd (cc)
same_users (u ∷ us) [] w x rest others e =
    let z : ◌≡◌ {A = Actor} (actor.User u.user) (actor.Writer x) =
    ap (λ (l : List Actor). first_of l (actor.Writer x)) e in absurd (cc)
same_users (u ∷ us) (v ∷ vs) w x rest others e =
    let z : u.user ≡ v = ap (λ (l : List Actor). user_of v (first_of l (actor.User v))) e in
    let r = same_users us vs w x rest others (ap tail_of e) in
    ap (λ (y : UserState). y ∷ users_of us) z ∙ ap (λ (l : List UserState). v ∷ l) r

-- and so are the writer and those behind it
abbrev writer_of : WriterState → Actor → WriterState
writer_of d (actor.Writer w) = w
writer_of d _ = d

pub same_rest : (us : List OwnUser) (vs : List UserState) (w x : WriterState) (rest others : List Actor)
    → ◌≡◌ {A = List Actor} (map (λ o. actor.User o.user) us ++ actor.Writer w ∷ rest) (seated_with vs x others)
    → (w ≡ x) × ◌≡◌ {A = List Actor} rest others
same_rest [] [] w x rest others e =
    (ap (λ (l : List Actor). writer_of x (first_of l (actor.Writer x))) e, ap tail_of e)
same_rest [] (v ∷ vs) w x rest others e =
    let z : ◌≡◌ {A = Actor} (actor.Writer w) (actor.User v) = ap (λ (l : List Actor). first_of l (actor.User v)) e in
    absurd (cc)
same_rest (u ∷ us) [] w x rest others e =
    let z : ◌≡◌ {A = Actor} (actor.User u.user) (actor.Writer x) =
    ap (λ (l : List Actor). first_of l (actor.Writer x)) e in absurd (cc)
same_rest (u ∷ us) (v ∷ vs) w x rest others e = same_rest us vs w x rest others (ap tail_of e)

abbrev IsIn : List OwnUser → ℕ → UserState → Type 0
IsIn users seat u = (o : OwnUser) × (get_elem? users seat ≡ some o) × (o.user ≡ u)

in_users : (users : List OwnUser) (seat : ℕ) (u : UserState) → get_elem? (users_of users) seat ≡ some u
    → IsIn users seat u
in_users [] seat u at = absurd (some-ne-none u (sym at))
in_users (x ∷ xs) zero u at = (x, refl, some-injective x.user u at)
in_users (x ∷ xs) (suc seat) u at = in_users xs seat u at

module _ {live : Bool} (c : Setup) (users : List OwnUser) (k : LogWork) (others : List Actor)
    (seated : AreSeated live c (all_actors users k others)) where
  is_in : (seat : ℕ) (u : UserState) → get_elem? (all_actors users k others) seat ≡ some (actor.User u)
      → IsIn users seat u
  is_in seat u at = in_users users seat u
      (ap (λ (l : List UserState). get_elem? l seat)
      (same_users users seated.users k.writer seated.writer (actor.Flusher k.flusher ∷ others)
      (actor.Flusher seated.flusher ∷ seated.others) seated.are)
      ∙ user_seat c (all_actors users k others) seated seat u at)

  pub all_ended : UsersHaveEnded users → HaveEnded (all_actors users k others)
  all_ended ended seat u at = let i = is_in seat u at in subst HasEnded i.2 (ended seat i.0 i.1)

  pub first_open : (user : ℕ) → IsFirstOpenUser users user → IsFirstOpen (all_actors users k others) user
  first_open user first = record {
    seat = first.seat;
    state = first.who.user;
    is = user_there users k others first.seat first.who first.is;
    open_user = first.open_user;
    before = λ j u l at. let i = is_in j u at in subst HasEnded i.2 (first.before j i.0 l i.1);
  }

pub users_ended : (users : List OwnUser) (k : LogWork) (others : List Actor) → HaveEnded (all_actors users k others)
    → UsersHaveEnded users
users_ended users k others ended j o at = ended j o.user (user_there users k others j o at)
