-- The seats of a store whose users write for themselves, had it a writer and a flusher: the users, these two, the
-- others.
use Rattle.std.proofs.Common.{List, [], ap, arith, length, map, refl, set, suc, sym, zero, ℕ, ◌++◌, ◌+◌, ◌∷◌, ◌≡◌}
use lib.ListN.{get_elem?}
use mathlib.Core.Option.{some, some-injective, some-ne-none}
use Rattle.model_core.specs.{Actor, FlusherState, WriterState}
use Rattle.model_core.specs.States as actor
use Rattle.model_own.specs.{all_actors, LogWork, OwnUser}

abbrev seated : OwnUser → Actor
seated o = actor.User o.user

user_at : (users : List OwnUser) (rest : List Actor) (i : ℕ) (o : OwnUser) → get_elem? users i ≡ some o
    → get_elem? (map seated users ++ rest) i ≡ some (actor.User o.user)
user_at [] rest i o e = absurd (some-ne-none o (sym e))
user_at (x ∷ xs) rest zero o e = ap (λ (y : OwnUser). some (actor.User y.user)) (some-injective x o e)
user_at (x ∷ xs) rest (suc i) o e = user_at xs rest i o e

user_set : (users : List OwnUser) (rest : List Actor) (i : ℕ) (o x : OwnUser) → get_elem? users i ≡ some o
    → set (map seated users ++ rest) i (actor.User x.user) ≡ map seated (set users i x) ++ rest
user_set [] rest i o x e = absurd (some-ne-none o (sym e))
user_set (y ∷ ys) rest zero o x e = refl
user_set (y ∷ ys) rest (suc i) o x e = ap (λ (l : List Actor). actor.User y.user ∷ l) (user_set ys rest i o x e)

-- as many as users and others, and two
pub seats_count : (users : List OwnUser) (k : LogWork) (others : List Actor)
    → length (all_actors users k others) ≡ length users + 2 + length others
seats_count [] k others = omega arith
seats_count (o ∷ users) k others = let z = seats_count users k others in omega arith

-- the seat of this number after the users
abbrev seat_after : List OwnUser → ℕ → ℕ
seat_after [] i = i
seat_after (x ∷ xs) i = suc (seat_after xs i)

after_at : (users : List OwnUser) (rest : List Actor) (i : ℕ) (a : Actor) → get_elem? rest i ≡ some a
    → get_elem? (map seated users ++ rest) (seat_after users i) ≡ some a
after_at [] rest i a e = e
after_at (x ∷ xs) rest i a e = after_at xs rest i a e

after_set : (users : List OwnUser) (rest : List Actor) (i : ℕ) (a : Actor)
    → set (map seated users ++ rest) (seat_after users i) a ≡ map seated users ++ set rest i a
after_set [] rest i a = refl
after_set (x ∷ xs) rest i a = ap (λ (l : List Actor). actor.User x.user ∷ l) (after_set xs rest i a)

after_is : (users : List OwnUser) (i : ℕ) → seat_after users i ≡ length users + i
after_is [] i = omega arith
after_is (x ∷ xs) i = let e = after_is xs i in omega arith

-- THE TWO SEATS after the users
abbrev pub writer_seat : List OwnUser → ℕ
writer_seat users = seat_after users zero

abbrev pub flusher_seat : List OwnUser → ℕ
flusher_seat users = seat_after users (suc zero)

pub writer_seat_is : (users : List OwnUser) → writer_seat users ≡ length users
writer_seat_is users = let e = after_is users zero in omega arith

pub flusher_seat_is : (users : List OwnUser) → flusher_seat users ≡ length users + 1
flusher_seat_is users = after_is users (suc zero)

-- who sits there, and what the list is once one of them has changed
module _ (users : List OwnUser) (k : LogWork) (others : List Actor) where
  abbrev rest : List Actor
  rest = actor.Writer k.writer ∷ actor.Flusher k.flusher ∷ others

  abbrev actors : List Actor
  actors = all_actors users k others

  pub user_there : (i : ℕ) (o : OwnUser) → get_elem? users i ≡ some o → get_elem? actors i ≡ some (actor.User o.user)
  user_there i o at = user_at users rest i o at

  pub user_put : (i : ℕ) (o x : OwnUser) → get_elem? users i ≡ some o
      → ◌≡◌ {A = List Actor} (set actors i (actor.User x.user)) (all_actors (set users i x) k others)
  user_put i o x at = user_set users rest i o x at

  pub writer_there : get_elem? actors (writer_seat users) ≡ some (actor.Writer k.writer)
  writer_there = after_at users rest zero (actor.Writer k.writer) refl

  pub writer_put : (s : WriterState)
      → ◌≡◌ {A = List Actor} (set actors (writer_seat users) (actor.Writer s))
      (all_actors users (record k { writer = s }) others)
  writer_put s = after_set users rest zero (actor.Writer s)

  pub flusher_there : get_elem? actors (flusher_seat users) ≡ some (actor.Flusher k.flusher)
  flusher_there = after_at users rest (suc zero) (actor.Flusher k.flusher) refl

  pub flusher_put : (f : FlusherState)
      → ◌≡◌ {A = List Actor} (set actors (flusher_seat users) (actor.Flusher f))
      (all_actors users (record k { flusher = f }) others)
  flusher_put f = after_set users rest (suc zero) (actor.Flusher f)
