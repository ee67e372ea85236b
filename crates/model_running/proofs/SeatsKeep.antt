-- Each turn leaves each actor in its seat.
use Rattle.model_core.specs.{ReaderState, filled, Filling, Actor, Core, FlusherState, took, UserState, WriterState, DataSide, LogSide, IsSameActor, Setup}
use Rattle.model_core.specs.ReaderProgram.{reader_filled}
use Rattle.std.proofs.Common.{Bool, List, [], ap, arith, false, inl, inr, length, map, refl, set, subst, suc, sym, true, zero, ℕ, ⊎_elim, ◌++◌, ◌<◌, ◌∙◌, ◌∷◌, ◌≡◌, ◌⊎◌}
use lib.ListN.{get_elem?}
use Rattle.model_core.proofs.Later.{later_refl, later_trans, took_later}
use Rattle.model_core.specs.Program.{Turn}
use Rattle.model_core.specs.declared.ops.Answer.{Answer}
use Rattle.model_core.specs.declared.ops.Step.{Step}
use Rattle.model_running.proofs.Seated.{user_seat}
use Rattle.model_running.specs.Seated.{AreSeated}
use Rattle.model_running.specs.Schedule.{ArePageActors, PageActors}
use Rattle.model_core.specs.States as actor
use mathlib.Core.Option as maybe

-- users of the same numbers, each of which keeps all its lines if it did so
abbrev SameUsers : List UserState → List UserState → Type 0
SameUsers [] [] = Unit {0}
SameUsers (x ∷ xs) (y ∷ ys) = (y.user ≡ x.user) × (y.keeps ≡ x.keeps) × SameUsers xs ys
SameUsers _ _ = ⊥

users_refl : (us : List UserState) → SameUsers us us
users_refl [] = tt
users_refl (x ∷ xs) = (refl, refl, users_refl xs)

users_length : (us vs : List UserState) → SameUsers us vs → length us ≡ length vs
users_length [] [] same = refl
users_length [] (y ∷ ys) same = absurd same
users_length (x ∷ xs) [] same = absurd same
users_length (x ∷ xs) (y ∷ ys) same = let r = users_length xs ys same.2 in omega arith

users_back : (us vs : List UserState) (i : ℕ) (v : UserState) → SameUsers us vs → get_elem? vs i ≡ maybe.some v
    → (u : UserState) × (get_elem? us i ≡ maybe.some u) × (v.user ≡ u.user) × (v.keeps ≡ u.keeps)
users_back [] [] i v same at = absurd (maybe.some-ne-none v (sym at))
users_back [] (y ∷ ys) i v same at = absurd same
users_back (x ∷ xs) [] i v same at = absurd same
users_back (x ∷ xs) (y ∷ ys) zero v same at = let is = sym (maybe.some-injective y v at) in
    (x, refl, ap (λ (z : UserState). z.user) is ∙ same.0, ap (λ (z : UserState). z.keeps) is ∙ same.1)
users_back (x ∷ xs) (y ∷ ys) (suc i) v same at = users_back xs ys i v same.2 at

users_forth : (us vs : List UserState) (i : ℕ) (u : UserState) → SameUsers us vs → get_elem? us i ≡ maybe.some u → (v : UserState) × (get_elem? vs i ≡ maybe.some v) × (v.user ≡ u.user)
users_forth [] [] i u same at = absurd (maybe.some-ne-none u (sym at))
users_forth [] (y ∷ ys) i u same at = absurd same
users_forth (x ∷ xs) [] i u same at = absurd same
users_forth (x ∷ xs) (y ∷ ys) zero u same at = (y, refl, same.0 ∙ ap (λ (z : UserState). z.user) (maybe.some-injective x u at))
users_forth (x ∷ xs) (y ∷ ys) (suc i) u same at = users_forth xs ys i u same.2 at

-- one user among them later, of the same number
set_users : (users : List UserState) (rest : List Actor) (seat : ℕ) (u v : UserState) → get_elem? users seat ≡ maybe.some u
    → ◌≡◌ {A = List Actor} (set (map actor.User users ++ rest) seat (actor.User v)) (map actor.User (set users seat v) ++ rest)
set_users [] rest seat u v at = absurd (maybe.some-ne-none u (sym at))
set_users (x ∷ xs) rest zero u v at = refl
set_users (x ∷ xs) rest (suc i) u v at = ap (λ (l : List Actor). actor.User x ∷ l) (set_users xs rest i u v at)

same_set : (users : List UserState) (seat : ℕ) (u v : UserState) → get_elem? users seat ≡ maybe.some u
    → v.user ≡ u.user → v.keeps ≡ u.keeps → SameUsers users (set users seat v)
same_set [] seat u v at own keeps = absurd (maybe.some-ne-none u (sym at))
same_set (x ∷ xs) zero u v at own keeps = let is = sym (maybe.some-injective x u at) in
    (own ∙ ap (λ (z : UserState). z.user) is, keeps ∙ ap (λ (z : UserState). z.keeps) is, users_refl xs)
same_set (x ∷ xs) (suc i) u v at own keeps = (refl, refl, same_set xs i u v at own keeps)

-- a seat among the users, or after them
pub record AtUser (users : List UserState) (rest : List Actor) (seat : ℕ) (b : Actor) : Type 0 where
  pub after : List UserState
  pub are : ◌≡◌ {A = List Actor} (set (map actor.User users ++ rest) seat b) (map actor.User after ++ rest)
  pub same : SameUsers users after

pub record AtOther (users : List UserState) (rest : List Actor) (seat : ℕ) (a b : Actor) : Type 0 where
  pub place : ℕ
  pub at : get_elem? rest place ≡ maybe.some a
  pub are : ◌≡◌ {A = List Actor} (set (map actor.User users ++ rest) seat b) (map actor.User users ++ set rest place b)

user_there : (x : UserState) (xs : List UserState) (rest : List Actor) (b : Actor) → IsSameActor (actor.User x) b → AtUser (x ∷ xs) rest 0 b
user_there x xs rest b later = subst (AtUser (x ∷ xs) rest 0) (sym later.1) (record { after = later.0 ∷ xs; are = refl; same = (later.2, later.7, users_refl xs) })

seat_in : (users : List UserState) (rest : List Actor) (seat : ℕ) (a b : Actor) → get_elem? (map actor.User users ++ rest) seat ≡ maybe.some a → IsSameActor a b → AtUser users rest seat b ⊎ AtOther users rest seat a b
seat_in [] rest seat a b at same = inr (record { place = seat; at = at; are = refl })
seat_in (x ∷ xs) rest zero a b at same = inl (user_there x xs rest b (subst (λ (z : Actor). IsSameActor z b) (sym (maybe.some-injective (actor.User x) a at)) same))
seat_in (x ∷ xs) rest (suc seat) a b at same = ⊎_elim
    (λ z. inl (record { after = x ∷ z.after; are = ap (λ (l : List Actor). actor.User x ∷ l) z.are; same = (refl, refl, z.same) }))
    (λ z. inr (record { place = z.place; at = z.at; are = ap (λ (l : List Actor). actor.User x ∷ l) z.are }))
    (seat_in xs rest seat a b at same)

readers_there : (readers : List ReaderState) (place : ℕ) (a b : Actor) → get_elem? (map actor.Reader readers) place ≡ maybe.some a → IsSameActor a b
    → (after : List ReaderState) × ◌≡◌ {A = List Actor} (set (map actor.Reader readers) place b) (map actor.Reader after)
readers_there [] place a b at later = absurd (maybe.some-ne-none a (sym at))
readers_there (r ∷ rs) zero a b at later =
    let z = subst (λ (z : Actor). IsSameActor z b) (sym (maybe.some-injective (actor.Reader r) a at)) later in
    (z.0 ∷ rs, ap (λ (y : Actor). y ∷ map actor.Reader rs) z.1)
readers_there (r ∷ rs) (suc place) a b at later = let z = readers_there rs place a b at later in (r ∷ z.0, ap (λ (l : List Actor). actor.Reader r ∷ l) z.1)

pages_there : (w : PageActors) (readers : List ReaderState) (place : ℕ) (a b : Actor) → get_elem? (actor.Closer w.closer ∷ actor.Cleaner w.cleaner ∷ actor.Checkpointer w.checkpointer ∷ map actor.Reader readers) place ≡ maybe.some a → IsSameActor a b
    → ArePageActors false (set (actor.Closer w.closer ∷ actor.Cleaner w.cleaner ∷ actor.Checkpointer w.checkpointer ∷ map actor.Reader readers) place b)
pages_there w readers zero a b at later =
    let z = subst (λ (z : Actor). IsSameActor z b) (sym (maybe.some-injective (actor.Closer w.closer) a at)) later in
    (record w { closer = z.0 }, readers, ap (λ (y : Actor). y ∷ actor.Cleaner w.cleaner ∷ actor.Checkpointer w.checkpointer ∷ map actor.Reader readers) z.1)
pages_there w readers (suc zero) a b at later =
    let z = subst (λ (z : Actor). IsSameActor z b) (sym (maybe.some-injective (actor.Cleaner w.cleaner) a at)) later in
    (record w { cleaner = z.0 }, readers, ap (λ (y : Actor). actor.Closer w.closer ∷ y ∷ actor.Checkpointer w.checkpointer ∷ map actor.Reader readers) z.1)
pages_there w readers (suc (suc zero)) a b at later =
    let z = subst (λ (z : Actor). IsSameActor z b) (sym (maybe.some-injective (actor.Checkpointer w.checkpointer) a at)) later in
    (record w { checkpointer = z.0 }, readers, ap (λ (y : Actor). actor.Closer w.closer ∷ actor.Cleaner w.cleaner ∷ y ∷ map actor.Reader readers) z.1)
pages_there w readers (suc (suc (suc place))) a b at later =
    let z = readers_there readers place a b at later in
    (w, z.0, ap (λ (l : List Actor). actor.Closer w.closer ∷ actor.Cleaner w.cleaner ∷ actor.Checkpointer w.checkpointer ∷ l) z.1)

others_there : (log_only : Bool) (others : List Actor) (place : ℕ) (a b : Actor) → ArePageActors log_only others → get_elem? others place ≡ maybe.some a → IsSameActor a b → ArePageActors log_only (set others place b)
others_there true others place a b are at same =
    subst (λ (l : List Actor). ArePageActors true (set l place b)) (sym are.1) (readers_there are.0 place a b (sym (ap (λ (l : List Actor). get_elem? l place) are.1) ∙ at) same)
others_there false others place a b are at same =
    subst (λ (l : List Actor). ArePageActors false (set l place b)) (sym are.2) (pages_there are.0 are.1 place a b (sym (ap (λ (l : List Actor). get_elem? l place) are.2) ∙ at) same)

module _ {live : Bool} (c : Setup) (actors : List Actor) (seated : AreSeated live c actors) where
  with_users : (after : List UserState) (writer : WriterState) (flusher : FlusherState) (others actors' : List Actor) → SameUsers seated.users after → ◌≡◌ {A = List Actor} actors' (map actor.User after ++ actor.Writer writer ∷ actor.Flusher flusher ∷ others) → ArePageActors c.log_only others → AreSeated live c actors'
  with_users after writer flusher others actors' same are pages = let n = users_length seated.users after same in record {
    users = after;
    writer = writer;
    flusher = flusher;
    others = others;
    are = are;
    page_actors = pages;
    ascending = λ i u v at next.
        let a = users_back seated.users after i u same at in
        let b = users_back seated.users after (suc i) v same next in
        let l = seated.ascending i a.0 b.0 a.1 b.1 in let a2 = a.2 in let b2 = b.2 in omega arith;
    have_lines = λ fixed i u at. let a = users_back seated.users after i u same at in
        subst (λ (k : ℕ). 0 < length (c.script k)) (sym a.2) (seated.have_lines fixed i a.0 a.1);
    keep = λ fixed i u at. let a = users_back seated.users after i u same at in a.3 ∙ seated.keep fixed i a.0 a.1;
    all = λ user lines. let r = seated.all user lines in let v = users_forth seated.users after r.0 r.1 same r.2 in (r.0, v.0, v.1, v.2 ∙ r.3);
    closer = (let z = seated.closer in omega arith);
    cleaner = (let z = seated.cleaner in omega arith);
    checkpointer = (let z = seated.checkpointer in omega arith);
  }

  -- a user may become another one of its number, that keeps all its lines if it did so
  pub user_keeps : (seat : ℕ) (u v : UserState) → get_elem? actors seat ≡ maybe.some (actor.User u) → v.user ≡ u.user
      → v.keeps ≡ u.keeps → AreSeated live c (set actors seat (actor.User v))
  user_keeps seat u v at own keeps =
      let here = user_seat c actors seated seat u at in
      let rest : List Actor = actor.Writer seated.writer ∷ actor.Flusher seated.flusher ∷ seated.others in
      with_users (set seated.users seat v) seated.writer seated.flusher seated.others (set actors seat (actor.User v))
      (same_set seated.users seat u v here own keeps)
      (ap (λ (l : List Actor). set l seat (actor.User v)) seated.are ∙ set_users seated.users rest seat u v here)
      seated.page_actors

  other_seat : (seat place : ℕ) (a b : Actor) → get_elem? (actor.Writer seated.writer ∷ actor.Flusher seated.flusher ∷ seated.others) place ≡ maybe.some a → IsSameActor a b
      → (actors' : List Actor) → ◌≡◌ {A = List Actor} actors' (map actor.User seated.users ++ set (actor.Writer seated.writer ∷ actor.Flusher seated.flusher ∷ seated.others) place b) → AreSeated live c actors'
  other_seat seat zero a b at same actors' are =
      let w = subst (λ (z : Actor). IsSameActor z b) (sym (maybe.some-injective (actor.Writer seated.writer) a at)) same in
      with_users seated.users w.0 seated.flusher seated.others actors' (users_refl seated.users) (are ∙ ap (λ (z : Actor). map actor.User seated.users ++ z ∷ actor.Flusher seated.flusher ∷ seated.others) w.1) seated.page_actors
  other_seat seat (suc zero) a b at same actors' are =
      let w = subst (λ (z : Actor). IsSameActor z b) (sym (maybe.some-injective (actor.Flusher seated.flusher) a at)) same in
      with_users seated.users seated.writer w.0 seated.others actors' (users_refl seated.users) (are ∙ ap (λ (z : Actor). map actor.User seated.users ++ actor.Writer seated.writer ∷ z ∷ seated.others) w.1) seated.page_actors
  other_seat seat (suc (suc place)) a b at same actors' are =
      with_users seated.users seated.writer seated.flusher (set seated.others place b) actors' (users_refl seated.users) are (others_there c.log_only seated.others place a b seated.page_actors at same)

  pub seats_keep : (seat : ℕ) (a b : Actor) → get_elem? actors seat ≡ maybe.some a → IsSameActor a b → AreSeated live c (set actors seat b)
  seats_keep seat a b at same =
      let rest : List Actor = actor.Writer seated.writer ∷ actor.Flusher seated.flusher ∷ seated.others in
      let at' : get_elem? (map actor.User seated.users ++ rest) seat ≡ maybe.some a = sym (ap (λ (l : List Actor). get_elem? l seat) seated.are) ∙ at in
      let are : ◌≡◌ {A = List Actor} (set actors seat b) (set (map actor.User seated.users ++ rest) seat b) = ap (λ (l : List Actor). set l seat b) seated.are in
      ⊎_elim (λ z. with_users z.after seated.writer seated.flusher seated.others (set actors seat b) z.same (are ∙ z.are) seated.page_actors)
      (λ z. other_seat seat z.place a b z.at same (set actors seat b) (are ∙ z.are))
      (seat_in seated.users rest seat a b at' same)

-- what a turn puts into an actor leaves it the same
pub filled_later : (a : Actor) (f : Filling) → IsSameActor a (filled a f)
filled_later (actor.Reader r) f = (reader_filled r f r.step, refl)
filled_later (actor.User u) f = later_refl (actor.User u)
filled_later (actor.Writer s) f = (s, refl)
filled_later (actor.Flusher s) f = (s, refl)
filled_later (actor.Closer s) f = (s, refl)
filled_later (actor.Cleaner s) f = (s, refl)
filled_later (actor.Checkpointer s) f = (s, refl)

-- a turn, and so a run of turns, leaves the actors in their seats
pub turn_keeps_seats : {live : Bool} (D : LogSide) (E : DataSide) (c : Setup) (old new : Core D E) (seat : ℕ) (answer : Answer) (step : Step) → AreSeated live c old.actors → Turn D E old seat answer step new → AreSeated live c new.actors
turn_keeps_seats {live} D E c old new seat answer step seated t = subst (AreSeated live c) (sym t.actors) (seats_keep c old.actors seated seat t.who (took (filled t.who t.filling) answer) t.who_is
    (later_trans t.who (filled t.who t.filling) (took (filled t.who t.filling) answer) (filled_later t.who t.filling) (took_later (filled t.who t.filling) answer)))
