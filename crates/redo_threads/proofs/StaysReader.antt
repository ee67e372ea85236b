-- The archiver of a run stays the archiver, and nobody else becomes one.
use Rattle.std.proofs.Common.{Bool, List, None, Option, Some, [], ap, false, is_some, map, refl, suc, sym, true, zero, ℕ, inl, inr, ◌==◌, ◌∙◌, ◌∷◌, ◌≡◌, ◌⊎◌}
use lib.ListN.{get_elem?}
use mathlib.Core.Option as maybe
use Rattle.model_core.specs.States as model
use Rattle.model_core.specs.{IsSameActor, archives, ReaderState}
use Rattle.model_own.specs.{LogWork}
use Rattle.redo_drive.specs.{follower_of, IsSameFollower, view_of}
use Rattle.redo_drive.specs.declared.actor.Actor.{Actor}
use Rattle.redo_drive.specs.declared.actor.Actor.TheVariants as own
use Rattle.redo_ownrule.proofs.Placed.{alone}
use Rattle.redo_ownrule.specs.Players.{actor_of, crew, IsSamePlayer, place, place_behind}
use Rattle.redo_ownrule.specs.declared.player.Player.{Player}
use Rattle.redo_ownrule.specs.declared.player.Player.TheVariants as player
use Rattle.redo_rule.proofs.Retook.{at_map}

-- it is a reader of the log, which archives or is the archiver
pub record Was {R : Type 0} (a : Actor R) : Type 0 where
  pub state : ReaderState
  pub is : view_of a ≡ model.Reader state
  pub kind : (archives state ≡ true) ⊎ (◌≡◌ {A = Actor R} a (own.Archiver state))

pub one_state : (x y : ReaderState) → model.Reader x ≡ model.Reader y → ◌≡◌ {A = ReaderState} x y
one_state x y e = cc

module _ {R : Type 0} where
  -- a reader that archives was one
  pub was_reader : (a b : Actor R) (x : ReaderState) → view_of b ≡ model.Reader x → archives x ≡ true
      → IsSameActor (view_of a) (view_of b) → IsSameFollower (follower_of a) (follower_of b) → Was a
  was_reader (own.Archiver s) b x is kind same alike = record { state = s; is = refl; kind = inr refl }
  was_reader (own.Follower f) (own.Follower g) x is kind same alike = record {
    state = f.state;
    is = refl;
    kind = inl (ap (λ (n : ℕ). n == 0) (sym alike)
        ∙ ap (λ (r : ReaderState). r.number == 0) (one_state g.state x is) ∙ kind);
  }
  was_reader (own.Follower f) (own.Archiver s) x is kind same alike = absurd alike
  was_reader (own.Follower f) (own.User u) x is kind same alike = absurd alike
  was_reader (own.Follower f) (own.Writer s) x is kind same alike = absurd alike
  was_reader (own.Follower f) (own.Flusher s) x is kind same alike = absurd alike
  was_reader (own.Follower f) (own.Closer s) x is kind same alike = absurd alike
  was_reader (own.Follower f) (own.Cleaner s) x is kind same alike = absurd alike
  was_reader (own.Follower f) (own.Checkpointer s) x is kind same alike = absurd alike
  was_reader (own.User u) b x is kind same alike = absurd (let e = sym is ∙ same.1 in cc)
  was_reader (own.Writer s) b x is kind same alike = absurd (let e = sym is ∙ same.1 in cc)
  was_reader (own.Flusher s) b x is kind same alike = absurd (let e = sym is ∙ same.1 in cc)
  was_reader (own.Closer s) b x is kind same alike = absurd (let e = sym is ∙ same.1 in cc)
  was_reader (own.Cleaner s) b x is kind same alike = absurd (let e = sym is ∙ same.1 in cc)
  was_reader (own.Checkpointer s) b x is kind same alike = absurd (let e = sym is ∙ same.1 in cc)

  -- and the archiver stays that
  pub still_archiver : (r : ReaderState) (b : Actor R) → IsSameActor (model.Reader r) (view_of b)
      → IsSameFollower None (follower_of b) → (x : ReaderState) × ◌≡◌ {A = Actor R} b (own.Archiver x)
  still_archiver r (own.Archiver s) same alike = (s, refl)
  still_archiver r (own.Follower g) same alike = absurd alike
  still_archiver r (own.User u) same alike = absurd (let e = same.1 in cc)
  still_archiver r (own.Writer s) same alike = absurd (let e = same.1 in cc)
  still_archiver r (own.Flusher s) same alike = absurd (let e = same.1 in cc)
  still_archiver r (own.Closer s) same alike = absurd (let e = same.1 in cc)
  still_archiver r (own.Cleaner s) same alike = absurd (let e = same.1 in cc)
  still_archiver r (own.Checkpointer s) same alike = absurd (let e = same.1 in cc)

  pub same_actor : (p q : Player R) → IsSamePlayer p q → IsSameActor (view_of (actor_of p)) (view_of (actor_of q))
  same_actor (player.Plain a) (player.Plain b) same = same
  same_actor (player.Plain a) (player.Own x) same = absurd same
  same_actor (player.Own o) (player.Plain b) same = absurd same
  same_actor (player.Own o) (player.Own x) same = same

  -- each player is the actor of its place
  mapped_at : (ps : List (Player R)) (i : ℕ) (p : Player R) → get_elem? ps i ≡ maybe.some p
      → get_elem? (map actor_of ps) i ≡ maybe.some (actor_of p)
  mapped_at ps i p at = at_map actor_of ps i p at

  behind_at : (k : LogWork) (ps : List (Player R)) (i : ℕ) (p : Player R) → get_elem? ps i ≡ maybe.some p
      → get_elem? (crew (Some k) ps) (place_behind ps i) ≡ maybe.some (actor_of p)
  behind_at k [] i p at = absurd (maybe.some-ne-none p (sym at))
  behind_at k (player.Plain a ∷ ps) i p at = mapped_at (player.Plain a ∷ ps) i p at
  behind_at k (player.Own o ∷ ps) zero p at =
      ap (λ (x : Player R). maybe.some (actor_of x)) (maybe.some-injective (player.Own o) p at)
  behind_at k (player.Own o ∷ ps) (suc i) p at = behind_at k ps i p at

  pub crew_at : (b : Bool) (work : Option LogWork) → is_some work ≡ b → (ps : List (Player R)) (i : ℕ) (p : Player R)
      → get_elem? ps i ≡ maybe.some p → get_elem? (crew work ps) (place b ps i) ≡ maybe.some (actor_of p)
  crew_at true None works ps i p at = absurd (cc)
  crew_at true (Some k) works ps i p at = behind_at k ps i p at
  crew_at false None works ps i p at =
      ap (λ (l : List (Actor R)). get_elem? l i) (sym (alone ps)) ∙ mapped_at ps i p at
  crew_at false (Some k) works ps i p at = absurd (cc)
