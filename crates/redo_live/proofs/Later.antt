-- A user that plays, later.
use Rattle.std.proofs.Common.{List, ap, subst, sym, ℕ, ◌++◌, ◌∙◌, ◌≡◌, ◌≤◌}
use Rattle.model_core.specs.{UserState}
use Rattle.model_core.specs.States as model
use Rattle.redo_drive.specs.{view_of}
use Rattle.redo_drive.specs.declared.actor.Actor.{Actor}
use Rattle.redo_drive.specs.declared.actor.Actor.TheVariants as actor
use Rattle.redo_live.specs.Holding.{IsPlayedBy, state_in}
use Rattle.redo_live.specs.Seating.{IsPlain}
use Rattle.redo_ownrule.specs.Players.{actor_of, IsSamePlayer}
use Rattle.redo_ownrule.specs.declared.player.Player.{Player}
use Rattle.redo_ownrule.specs.declared.player.Player.TheVariants as player

-- the user that an actor is, by its state
pub actor_is : {R : Type 0} (b : Actor R) (v : UserState) → view_of b ≡ model.User v → ◌≡◌ {A = Actor R} b
    (actor.User v)
actor_is (actor.User w) v is = cc
actor_is (actor.Writer w) v is = absurd (cc)
actor_is (actor.Flusher w) v is = absurd (cc)
actor_is (actor.Closer w) v is = absurd (cc)
actor_is (actor.Cleaner w) v is = absurd (cc)
actor_is (actor.Checkpointer w) v is = absurd (cc)
actor_is (actor.Archiver w) v is = absurd (cc)
actor_is (actor.Follower w) v is = absurd (cc)

-- who plays by its own program, and is a user in this state, plays so
pub plays_as : {R : Type 0} (p : Player R) (u : UserState) → IsPlain p → view_of (actor_of p) ≡ model.User u
    → IsPlayedBy u p
plays_as {R} p u plain is =
    plain.1 ∙ ap (λ (a : Actor R). player.Plain a)
    (actor_is plain.0 u (ap (λ (q : Player R). view_of (actor_of q)) (sym plain.1) ∙ is))

-- it keeps its number, its lines, its groups and its answers
pub record IsUserLater {R : Type 0} (u : UserState) (q : Player R) : Type 0 where
  pub state : UserState
  pub plays : IsPlayedBy state q
  pub number : state.user ≡ u.user
  pub lines : state.lines ≡ u.lines
  pub answered : u.k ≤ state.k
  pub starts : (more : List ℕ) × (state.starts ≡ u.starts ++ more)

later_plain : {R : Type 0} (u : UserState) (q : Player R) → IsSamePlayer (player.Plain (actor.User u)) q
    → IsUserLater u q
later_plain u (player.Plain b) same = record {
  state = same.0;
  plays = ap (λ (a : Actor _). player.Plain a) (actor_is b same.0 same.1);
  number = same.2;
  lines = same.3;
  answered = same.4;
  starts = (same.5, same.6);
}
later_plain u (player.Own o) same = absurd same

pub user_later : {R : Type 0} (u : UserState) (p q : Player R) → IsPlayedBy u p → IsSamePlayer p q → IsUserLater u q
user_later {R} u p q is same = later_plain u q (subst (λ (z : Player R). IsSamePlayer z q) is same)

-- the state of the one that plays is that
pub state_is : {R : Type 0} (u : UserState) (p : Player R) → IsPlayedBy u p → state_in p ≡ u
state_is {R} u p is = ap (λ (z : Player R). state_in z) is
