-- The seats of a store whose users write for themselves, and those that it would have with a writer and a flusher.
use Rattle.std.proofs.Common.{List, [], ap, arith, get_or, inl, inr, length, refl, set, subst, suc, sym, zero, ℕ, ◌+◌, ◌-◌, ◌<◌, ◌∷◌, ◌≡◌, ◌≤◌, ◌⊎◌}
use Rattle.std.specs.Prelude.{None, Option}
use lib.ListN.{get_elem?}
use mathlib.Core.Option.{some, some-injective, some-ne-none}
use Rattle.model_core.specs.States as model
use Rattle.model_own.specs.{all_actors, LogWork, OwnUser}
use Rattle.redo_drive.specs.{follower_of, views_of}
use Rattle.redo_drive.specs.declared.actor.Actor.{Actor}
use Rattle.redo_drive.specs.declared.actor.Actor.TheVariants as own
use Rattle.redo_follow.specs.Following.{Following}
use Rattle.redo_ownmachine.specs.OwnCrew.{crew}

-- whoever sits there
pub sits : {A : Type 0} (xs : List A) (i : ℕ) (d : A) → i < length xs → get_elem? xs i ≡ some (get_or xs i d)
sits [] i d l = absurd (omega arith)
sits (x ∷ xs) zero d l = refl
sits (x ∷ xs) (suc i) d l = sits xs i d (omega arith)

pub sits_below : {A : Type 0} (xs : List A) (i : ℕ) (x : A) → get_elem? xs i ≡ some x → i < length xs
sits_below [] i x at = absurd (some-ne-none x (sym at))
sits_below (y ∷ ys) zero x at = omega arith
sits_below (y ∷ ys) (suc i) x at = let r = sits_below ys i x at in omega arith

-- the seat of this number behind the users, the writer and the flusher
abbrev pub behind : List OwnUser → ℕ → ℕ
behind [] j = suc (suc j)
behind (x ∷ xs) j = suc (behind xs j)

behind_is : (users : List OwnUser) (j : ℕ) → behind users j ≡ length users + j + 2
behind_is [] j = omega arith
behind_is (x ∷ xs) j = let e = behind_is xs j in omega arith

pub behind_seat : (users : List OwnUser) (seat : ℕ) → length users ≤ seat
    → behind users (seat - length users) ≡ seat + 2
behind_seat users seat l = let e = behind_is users (seat - length users) in omega arith

module _ (k : LogWork) where
  pub other_at : (users : List OwnUser) (os : List model.Actor) (j : ℕ)
      → get_elem? (all_actors users k os) (behind users j) ≡ get_elem? os j
  other_at [] os j = refl
  other_at (x ∷ xs) os j = other_at xs os j

  pub other_put : (users : List OwnUser) (os : List model.Actor) (j : ℕ) (a : model.Actor)
      → ◌≡◌ {A = List model.Actor} (set (all_actors users k os) (behind users j) a) (all_actors users k (set os j a))
  other_put [] os j a = refl
  other_put (x ∷ xs) os j a = ap (λ (l : List model.Actor). model.User x.user ∷ l) (other_put xs os j a)

  module _ {R : Type 0} where
    pub crew_views : (users : List OwnUser) (others : List (Actor R))
        → ◌≡◌ {A = List model.Actor} (views_of (crew users k others)) (all_actors users k (views_of others))
    crew_views [] others = refl
    crew_views (x ∷ xs) others = ap (λ (l : List model.Actor). model.User x.user ∷ l) (crew_views xs others)

    pub crew_length : (users : List OwnUser) (others : List (Actor R))
        → length (crew users k others) ≡ length users + 2 + length others
    crew_length [] others = omega arith
    crew_length (x ∷ xs) others = let e = crew_length xs others in omega arith

    pub crew_get : (users : List OwnUser) (others : List (Actor R)) (j : ℕ) (d : Actor R)
        → ◌≡◌ {A = Actor R} (get_or (crew users k others) (behind users j) d) (get_or others j d)
    crew_get [] others j d = refl
    crew_get (x ∷ xs) others j d = crew_get xs others j d

    pub crew_put : (users : List OwnUser) (others : List (Actor R)) (j : ℕ) (a : Actor R)
        → ◌≡◌ {A = List (Actor R)} (set (crew users k others) (behind users j) a) (crew users k (set others j a))
    crew_put [] others j a = refl
    crew_put (x ∷ xs) others j a = ap (λ (l : List (Actor R)). own.User x.user ∷ l) (crew_put xs others j a)

-- What a turn of a user leaves of the actors: whoever follows the log is as it was.
abbrev pub Stays : {R : Type 0} → Actor R → Actor R → Type 0
Stays {R} a b = (◌≡◌ {A = Option (Following R)} (follower_of a) None × ◌≡◌ {A = Option (Following R)} (follower_of b) None)
    ⊎ ◌≡◌ {A = Actor R} b a

abbrev pub StaysAt : {R : Type 0} → List (Actor R) → ℕ → Actor R → Type 0
StaysAt {R} actors j b = (a : Actor R) × (get_elem? actors j ≡ some a) × Stays a b

no_follower : {R : Type 0} (a b : Actor R) → ◌≡◌ {A = Option (Following R)} (follower_of a) None → some a ≡ some b
    → ◌≡◌ {A = Option (Following R)} (follower_of b) None
no_follower {R} a b none at =
    subst (λ (z : Actor R). ◌≡◌ {A = Option (Following R)} (follower_of z) None) (some-injective a b at) none

pub stays_at : {R : Type 0} (users left : List OwnUser) (k k' : LogWork) (others : List (Actor R))
    → length left ≡ length users → (j : ℕ) (b : Actor R) → get_elem? (crew left k' others) j ≡ some b
    → StaysAt (crew users k others) j b
stays_at [] [] k k' others same zero b at =
    (own.Writer k.writer, refl, inl (refl, no_follower (own.Writer k'.writer) b refl at))
stays_at [] [] k k' others same (suc zero) b at =
    (own.Flusher k.flusher, refl, inl (refl, no_follower (own.Flusher k'.flusher) b refl at))
stays_at [] [] k k' others same (suc (suc j)) b at = (b, at, inr refl)
stays_at [] (y ∷ ys) k k' others same j b at = absurd (omega arith)
stays_at (x ∷ xs) [] k k' others same j b at = absurd (omega arith)
stays_at (x ∷ xs) (y ∷ ys) k k' others same zero b at =
    (own.User x.user, refl, inl (refl, no_follower (own.User y.user) b refl at))
stays_at (x ∷ xs) (y ∷ ys) k k' others same (suc j) b at = stays_at xs ys k k' others (omega arith) j b at
