-- One of the actors archives: the one that began as a new archiver.
use Rattle.std.proofs.Common.{Bool, List, [], ap, arith, drop, eqb-true, false, length, length-append, map, refl, suc, sym, true, zero, ℕ, ◌++◌, ◌+◌, ◌-◌, ◌<◌, ◌∙◌, ◌∷◌, ◌≡◌, ◌≤◌}
use native.Mathlib.Decide.{dec_le}
use lib.ListN.{get_elem?}
use mathlib.Core.Option as maybe
use Rattle.model_base.specs.declared.shape.Shape.{Shape}
use Rattle.model_core.specs.States as model
use Rattle.model_core.specs.{archives, new_reader, ReaderState, UserState}
use Rattle.model_script.specs.declared.script.ScriptLine.{ScriptLine}
use Rattle.redo_drive.proofs.Viewed.{length_views, views_at}
use Rattle.redo_drive.specs.Begins.{EndsWithReaders}
use Rattle.redo_drive.specs.Setups.{followers_from, page_actors, readers_of, seated_actors, users_of}
use Rattle.redo_drive.specs.LiveActors.{seated_before}
use Rattle.redo_drive.specs.{views_of}
use Rattle.redo_drive.specs.declared.actor.Actor.{Actor}
use Rattle.redo_drive.specs.declared.actor.Actor.TheVariants as own
use Rattle.redo_drive.specs.declared.seating.TheConstants.{FIRST_FOLLOWER}
use Rattle.redo_drive.specs.declared.plan.Plan.{Plan}
use Rattle.redo_follow.specs.Following.{Following}

-- a place in the front of a list, and one behind it
in_front : {A : Type 0} (xs ys : List A) (m : ℕ) (a : A) → m < length xs → get_elem? (xs ++ ys) m ≡ maybe.some a
    → get_elem? xs m ≡ maybe.some a
in_front [] ys m a less at = absurd (omega arith)
in_front (x ∷ xs) ys zero a less at = at
in_front (x ∷ xs) ys (suc m) a less at = in_front xs ys m a (omega arith) at

record Behind {A : Type 0} (xs ys : List A) (m : ℕ) (a : A) : Type 0 where
  pub place : ℕ
  pub is : m ≡ length xs + place
  pub there : get_elem? ys place ≡ maybe.some a

behind : {A : Type 0} (xs ys : List A) (m : ℕ) (a : A) → length xs ≤ m → get_elem? (xs ++ ys) m ≡ maybe.some a
    → Behind xs ys m a
behind [] ys m a more at = record { place = m; is = (let z : m ≡ 0 + m = omega arith in z); there = at }
behind (x ∷ xs) ys zero a more at = absurd (omega arith)
behind (x ∷ xs) ys (suc m) a more at = let b = behind xs ys m a (omega arith) at in record {
  place = b.place;
  is = (let e = b.is in let z : suc m ≡ suc (length xs) + b.place = omega arith in z);
  there = b.there;
}

dropped : {A : Type 0} (xs : List A) (k m : ℕ) (a : A) → k ≤ m → get_elem? xs m ≡ maybe.some a
    → get_elem? (drop k xs) (m - k) ≡ maybe.some a
dropped xs zero m a more at = ap (get_elem? xs) (let e : m - 0 ≡ m = omega arith in e) ∙ at
dropped [] (suc k) m a more at = absurd (maybe.some-ne-none a (sym at))
dropped (x ∷ xs) (suc k) zero a more at = absurd (omega arith)
dropped (x ∷ xs) (suc k) (suc m) a more at =
    ap (get_elem? (drop k xs)) (let e : suc m - suc k ≡ m - k = omega arith in e) ∙ dropped xs k m a (omega arith) at

-- nobody before the readers of the log is one
no_user : (users : List UserState) (ys : List model.Actor) (m : ℕ) (s : ReaderState)
    → ((i : ℕ) → get_elem? ys i ≡ maybe.some (model.Reader s) → ⊥)
    → get_elem? (map model.User users ++ ys) m ≡ maybe.some (model.Reader s) → ⊥
no_user [] ys m s none at = none m at
no_user (u ∷ us) ys zero s none at =
    let e = maybe.some-injective (model.User u) (model.Reader s) at in absurd (cc)
no_user (u ∷ us) ys (suc m) s none at = no_user us ys m s none at

no_page : (shape : Shape) (start : ℕ) (plan : Plan) (i : ℕ) (s : ReaderState)
    → get_elem? (page_actors shape start plan) i ≡ maybe.some (model.Reader s) → ⊥
no_page shape start plan = by plan.log_only
  where
    by : (b : Bool) (i : ℕ) (s : ReaderState)
        → get_elem? (page_actors shape start (record plan { log_only = b })) i ≡ maybe.some (model.Reader s) → ⊥
    by true i s at = maybe.some-ne-none (model.Reader s) (sym at)
    by false zero s at = let e = maybe.some-injective _ (model.Reader s) at in absurd (cc)
    by false (suc zero) s at = let e = maybe.some-injective _ (model.Reader s) at in absurd (cc)
    by false (suc (suc zero)) s at = let e = maybe.some-injective _ (model.Reader s) at in absurd (cc)
    by false (suc (suc (suc i))) s at = maybe.some-ne-none (model.Reader s) (sym at)

no_other : (shape : Shape) (start : ℕ) (plan : Plan) (w f : model.Actor)
    → ((s : ReaderState) → w ≡ model.Reader s → ⊥) → ((s : ReaderState) → f ≡ model.Reader s → ⊥) → (i : ℕ) (s : ReaderState)
    → get_elem? (w ∷ f ∷ page_actors shape start plan) i ≡ maybe.some (model.Reader s) → ⊥
no_other shape start plan w f one two zero s at = one s (maybe.some-injective w (model.Reader s) at)
no_other shape start plan w f one two (suc zero) s at = two s (maybe.some-injective f (model.Reader s) at)
no_other shape start plan w f one two (suc (suc i)) s at = no_page shape start plan i s at

-- followers have numbers from this one on
followers_at : (start number n i : ℕ) (s : ReaderState)
    → get_elem? (followers_from start number n) i ≡ maybe.some (model.Reader s) → number ≤ s.number
followers_at start number zero i s at = absurd (maybe.some-ne-none (model.Reader s) (sym at))
followers_at start number (suc n) zero s at =
    let e : ◌≡◌ {A = ReaderState} (new_reader number start) s = same (maybe.some-injective _ (model.Reader s) at) in
    let same_number : number ≡ s.number = ap (λ (r : ReaderState). r.number) e in omega arith
  where
    same : {x y : ReaderState} → model.Reader x ≡ model.Reader y → ◌≡◌ {A = ReaderState} x y
    same e = cc
followers_at start number (suc n) (suc i) s at =
    let r = followers_at start (number + 1) n i s at in omega arith

long_followers : (start number n : ℕ) → length (followers_from start number n) ≡ n
long_followers start number zero = refl
long_followers start number (suc n) = ap suc (long_followers start (number + 1) n)

-- who archives stands first behind the others
archives_first : (start : ℕ) (plan : Plan) (i : ℕ) (s : ReaderState)
    → get_elem? (readers_of start plan) i ≡ maybe.some (model.Reader s) → archives s ≡ true → i ≡ 0
archives_first start plan = by plan.archive
  where
    by : (b : Bool) (i : ℕ) (s : ReaderState)
        → get_elem? (readers_of start (record plan { archive = b })) i ≡ maybe.some (model.Reader s)
        → archives s ≡ true → i ≡ 0
    by true zero s at kind = refl
    by true (suc i) s at kind =
        let low = followers_at start FIRST_FOLLOWER plan.followers i s at in
        let none = eqb-true s.number 0 kind in absurd (omega arith)
    by false i s at kind =
        let low = followers_at start FIRST_FOLLOWER plan.followers i s at in
        let none = eqb-true s.number 0 kind in absurd (omega arith)

no_archiver : {R : Type 0} (fs : List (Following R)) (i : ℕ) (s : ReaderState)
    → get_elem? (map own.Follower fs) i ≡ maybe.some (own.Archiver s) → ⊥
no_archiver [] i s at = maybe.some-ne-none _ (sym at)
no_archiver (f ∷ fs) zero s at = let e = maybe.some-injective (own.Follower f) (own.Archiver s) at in absurd (cc)
no_archiver (f ∷ fs) (suc i) s at = no_archiver fs i s at

one_archiver : {R : Type 0} (x y : ReaderState) → ◌≡◌ {A = Actor R} (own.Archiver x) (own.Archiver y)
    → ◌≡◌ {A = ReaderState} x y
one_archiver x y e = cc

module _ {R : Type 0} (shape : Shape) (script : List ScriptLine) (start : ℕ) (plan : Plan) (cs : List (Actor R)) where
  abbrev pub front : List model.Actor
  front = seated_before shape script start plan

  before : (m : ℕ) (s : ReaderState) → get_elem? front m ≡ maybe.some (model.Reader s) → ⊥
  before m s at = no_user (users_of shape plan.log_only script) _ m s
      (λ i here. no_other shape start plan _ _ (λ x e. absurd (cc)) (λ x e. absurd (cc)) i s here) at

  -- WHO ARCHIVES has its place among the actors of a run's start.
  pub archives_at : views_of cs ≡ seated_actors shape script start plan
      → (m : ℕ) (s : ReaderState) → get_elem? (views_of cs) m ≡ maybe.some (model.Reader s) → archives s ≡ true
      → m ≡ length front
  archives_at are m s at kind =
      let there : get_elem? (front ++ readers_of start plan) m ≡ maybe.some (model.Reader s) =
      ap (λ (l : List model.Actor). get_elem? l m) (sym are) ∙ at in
      elim (dec_le (length front) m) [
        | yes more ↦ (let b = behind front (readers_of start plan) m (model.Reader s) more there in
            let first = archives_first start plan b.place s b.there kind in
            let is = b.is in omega arith)
        | no less ↦ absurd (before m s (in_front front (readers_of start plan) m (model.Reader s) (omega arith) there))
      ]

  module _ (fs : List (Following R)) (many : plan.followers ≡ length fs) where
    -- the readers where there is an archiver, or none
    abbrev its_readers : Bool → List model.Actor
    its_readers b = readers_of start (record plan { archive = b })

    -- in front of them nobody archives
    less_front : (b : Bool) → views_of cs ≡ front ++ its_readers b → (m : ℕ) (s : ReaderState)
        → get_elem? cs m ≡ maybe.some (own.Archiver s) → m < length front → ⊥
    less_front b are m s at less = before m s (in_front front (its_readers b) m (model.Reader s) less
        (ap (λ (l : List model.Actor). get_elem? l m) (sym are) ∙ views_at cs m (own.Archiver s) at))

    count : (b : Bool) → views_of cs ≡ front ++ its_readers b → length cs ≡ length front + length (its_readers b)
    count b are = sym (length_views cs) ∙ ap length are ∙ length-append front (its_readers b)

    -- and the archiver is new
    pub archiver_is : views_of cs ≡ seated_actors shape script start plan → EndsWithReaders start plan.archive cs fs
        → (m : ℕ) (s : ReaderState) → get_elem? cs m ≡ maybe.some (own.Archiver s)
        → ◌≡◌ {A = ReaderState} s (new_reader 0 start)
    archiver_is = by plan.archive
      where
        one : (s : ReaderState) (i : ℕ)
            → get_elem? (own.Archiver (new_reader 0 start) ∷ map own.Follower fs) i ≡ maybe.some (own.Archiver s)
            → ◌≡◌ {A = ReaderState} s (new_reader 0 start)
        one s zero e = sym (one_archiver {R = R} (new_reader 0 start) s (maybe.some-injective _ (own.Archiver s) e))
        one s (suc i) e = absurd (no_archiver fs i s e)

        by : (b : Bool) → views_of cs ≡ front ++ its_readers b → EndsWithReaders start b cs fs
            → (m : ℕ) (s : ReaderState) → get_elem? cs m ≡ maybe.some (own.Archiver s)
            → ◌≡◌ {A = ReaderState} s (new_reader 0 start)
        by true are ends m s at =
            let n = count true are in
            let few = long_followers start FIRST_FOLLOWER plan.followers in
            let k : ℕ = length cs - suc (length fs) in
            elim (dec_le (length front) m) [
              | yes more ↦ one s (m - k) (ap (λ (l : List (Actor R)). get_elem? l (m - k)) (sym ends)
                  ∙ dropped cs k m (own.Archiver s) (omega arith) at)
              | no less ↦ absurd (less_front true are m s at (omega arith))
            ]
        by false are ends m s at =
            let n = count false are in
            let few = long_followers start FIRST_FOLLOWER plan.followers in
            let k : ℕ = length cs - length fs in
            elim (dec_le (length front) m) [
              | yes more ↦ absurd (no_archiver fs (m - k) s (ap (λ (l : List (Actor R)). get_elem? l (m - k)) (sym ends)
                  ∙ dropped cs k m (own.Archiver s) (omega arith) at))
              | no less ↦ absurd (less_front false are m s at (omega arith))
            ]

-- WHERE THE RUN IS ARCHIVED there is one.
module _ {R : Type 0} (start : ℕ) (fs : List (Following R)) (cs : List (Actor R)) where
  pub archiver_there : EndsWithReaders start true cs fs
      → get_elem? cs (length cs - suc (length fs)) ≡ maybe.some (own.Archiver (new_reader 0 start))
  archiver_there = at_first cs (length cs - suc (length fs))
    where
      at_first : (l : List (Actor R)) (k : ℕ) → ◌≡◌ {A = List (Actor R)} (drop k l)
          (own.Archiver (new_reader 0 start) ∷ map own.Follower fs)
          → get_elem? l k ≡ maybe.some (own.Archiver (new_reader 0 start))
      at_first l zero e = ap (λ (z : List (Actor R)). get_elem? z 0) e
      at_first [] (suc k) e = absurd (cc)
      at_first (x ∷ xs) (suc k) e = at_first xs k e
