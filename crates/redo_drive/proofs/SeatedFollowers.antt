-- The followers in their seats, after the other actors.
use Rattle.std.proofs.Common.{Bool, Err, List, Ok, Result, [], ap, append-nil, append_assoc, arith, false, length, length-append, map, refl, suc, true, subst, sym, ℕ, ◌++◌, ◌+◌, ◌-◌, ◌∙◌, ◌∷◌, ◌≡◌}
use Rattle.std.specs.Prelude.{IfOk}
use Rattle.std.proofs.lemmas.List.{drop_at, length-map, map-append}
use lib.ListN.{get_elem?}
use mathlib.Core.Option.{some}
use Rattle.model_base.specs.declared.shape.Shape.{Shape}
use Rattle.model_core.specs.States as model
use Rattle.model_core.specs.{new_reader}
use Rattle.redo_drive.specs.Begins.{EndsWithFollowers, EndsWithReaders, new_archiver}
use Rattle.redo_drive.specs.Setups.{followers_from, other_actors, with_others}
use Rattle.redo_drive.specs.Startable.{HasNewFollowers}
use Rattle.redo_drive.specs.History.{view_of, views_of}
use Rattle.redo_drive.specs.declared.actor.Actor.{Actor}
use Rattle.redo_drive.specs.declared.actor.Actor.TheVariants as own
use Rattle.redo_drive.specs.declared.seating.TheConstants.{FIRST_FOLLOWER}
use Rattle.redo_drive.specs.declared.plan.Plan.{Plan}
use Rattle.redo_follow.specs.Following.{Following}

followers_seen : {R : Type 0} (start number : ℕ) (fs : List (Following R))
    → ((i : ℕ) (f : Following R) → get_elem? fs i ≡ some f → f.state ≡ new_reader (number + i) start)
    → ◌≡◌ {A = List model.Actor} (views_of (map own.Follower fs)) (followers_from start number (length fs))
followers_seen start number [] each = refl
followers_seen start number (f ∷ fs) each =
    let first : f.state ≡ new_reader number start =
    each 0 f refl ∙ ap (λ (n : ℕ). new_reader n start) (let e : number + 0 ≡ number = omega arith in e) in
    ap (λ r. model.Reader r ∷ views_of (map own.Follower fs)) first
    ∙ ap (λ (l : List model.Actor). model.Reader (new_reader number start) ∷ l)
    (followers_seen start (number + 1) fs (λ i g at. each (suc i) g at
    ∙ ap (λ (n : ℕ). new_reader n start) (let e : number + suc i ≡ number + 1 + i = omega arith in e)))

module _ {R : Type 0} (users : List model.Actor) (before : List (Actor R)) (fs : List (Following R)) where
  all_seen : (start : ℕ) (plan : Plan) → HasNewFollowers plan start fs
      → ◌≡◌ {A = List model.Actor} (views_of (map own.Follower fs))
      (followers_from start FIRST_FOLLOWER plan.followers)
  all_seen start plan new = followers_seen start FIRST_FOLLOWER fs new.new.each
      ∙ ap (followers_from start FIRST_FOLLOWER) (sym new.many)

  -- the followers sit right behind the other actors,
  pub all_seated : (shape : Shape) (start : ℕ) (plan : Plan) → HasNewFollowers plan start fs
      → views_of before ≡ users ++ other_actors shape start plan
      → views_of (before ++ map own.Follower fs)
      ≡ (users ++ other_actors shape start plan) ++ followers_from start FIRST_FOLLOWER plan.followers
  all_seated shape start plan new are =
      map-append view_of before (map own.Follower fs)
      ∙ ap (λ (l : List model.Actor). l ++ views_of (map own.Follower fs)) are
      ∙ ap (λ (l : List model.Actor). (users ++ other_actors shape start plan) ++ l)
      (all_seen start plan new)

  -- or behind the archiver
  pub seated_behind : (shape : Shape) (start : ℕ) (plan : Plan) → HasNewFollowers plan start fs
      → views_of before ≡ users ++ other_actors shape start plan
      → views_of ((before ++ own.Archiver (new_reader 0 start) ∷ []) ++ map own.Follower fs)
      ≡ (users ++ other_actors shape start plan)
      ++ model.Reader (new_reader 0 start) ∷ followers_from start FIRST_FOLLOWER plan.followers
  seated_behind shape start plan new are =
      ap views_of (append_assoc before (own.Archiver (new_reader 0 start) ∷ []) (map own.Follower fs))
      ∙ map-append view_of before (own.Archiver (new_reader 0 start) ∷ map own.Follower fs)
      ∙ ap (λ (l : List model.Actor). l ++ views_of (own.Archiver (new_reader 0 start) ∷ map own.Follower fs)) are
      ∙ ap (λ (l : List model.Actor). (users ++ other_actors shape start plan)
      ++ model.Reader (new_reader 0 start) ∷ l)
      (all_seen start plan new)

  ends_so : EndsWithFollowers (before ++ map own.Follower fs) fs
  ends_so =
      let both = length-append before (map own.Follower fs) in
      let long = length-map fs own.Follower in
      drop_at before (map own.Follower fs) (length (before ++ map own.Follower fs) - length fs) (omega arith)

-- all actors in their seats
pub record AreSeatedSo {R : Type 0} (users : List model.Actor) (shape : Shape) (start : ℕ) (plan : Plan)
    (fs : List (Following R)) (actors : List (Actor R)) : Type 0 where
  pub are : views_of actors ≡ with_others users shape start plan
  pub ends : EndsWithReaders start plan.archive actors fs

pub seated_so : {R : Type 0} (users : List model.Actor) (shape : Shape) (start : ℕ) (plan : Plan)
    (before : List (Actor R)) (fs : List (Following R)) → HasNewFollowers plan start fs
    → views_of before ≡ users ++ other_actors shape start plan
    → AreSeatedSo users shape start plan fs ((before ++ new_archiver start plan.archive) ++ map own.Follower fs)
seated_so {R} users shape start plan before fs new are = by plan.archive new are
  where
    by : (b : Bool) → let p : Plan = record plan { archive = b } in HasNewFollowers p start fs
        → views_of before ≡ users ++ other_actors shape start p
        → AreSeatedSo users shape start p fs ((before ++ new_archiver start b) ++ map own.Follower fs)
    by true new are =
        let archiver : Actor R = own.Archiver (new_reader 0 start) in
        let joined : ◌≡◌ {A = List (Actor R)} ((before ++ archiver ∷ []) ++ map own.Follower fs)
        (before ++ archiver ∷ map own.Follower fs) = append_assoc before (archiver ∷ []) (map own.Follower fs) in
        let both = length-append before (archiver ∷ map own.Follower fs) in
        let long = length-map fs own.Follower in
        record {
          are = seated_behind users before fs shape start (record plan { archive = true }) new are;
          ends = subst (λ (l : List (Actor R)). EndsWithReaders start true l fs) (sym joined)
              (drop_at before (archiver ∷ map own.Follower fs)
              (length (before ++ archiver ∷ map own.Follower fs) - suc (length fs)) (omega arith));
        }
    by false new are =
        let p : Plan = record plan { archive = false } in
        subst (λ (l : List (Actor R)). AreSeatedSo users shape start p fs (l ++ map own.Follower fs))
        (sym (append-nil before))
        (record { are = all_seated users before fs shape start p new are; ends = ends_so users before fs })

-- what holds of what is seated holds where there was memory
pub if_seated : {A E : Type 0} (result : Result A E) (P Q : A → Type 0) → ((x : A) → P x → Q x) → IfOk result P
    → IfOk result Q
if_seated (Ok x) P Q all is = all x is
if_seated (Err e) P Q all is = tt
