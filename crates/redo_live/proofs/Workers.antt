-- A worker works to its end.
use Rattle.std.proofs.Common.{List, [], ap, arith, get_or, length, refl, set, subst, suc, sym, zero, ℕ, ⊎_elim, ◌+◌, ◌<◌, ◌∙◌, ◌∷◌, ◌≡◌}
use lib.ListN.{get_elem?}
use mathlib.Core.Option as maybe
use Rattle.atomic_table.proofs.Lists.{at_index, at_set}
use Rattle.atomic_table.specs.Seated.{TableId}
use Rattle.model_core.specs.{Given, UserState, IsSameActor}
use Rattle.model_core.specs.States as model
use Rattle.redo_drive.specs.{view_of}
use Rattle.redo_drive.specs.declared.actor.Actor.{Actor}
use Rattle.redo_drive.specs.declared.actor.Actor.TheVariants as actor
use Rattle.redo_follow.specs.declared.tally.Tally.{Tally}
use Rattle.redo_live.specs.Holding.{AreWorkersOf, IsPlayedBy, IsSameWorker, IsWorkerOf}
use Rattle.redo_live.specs.Seating.{IsPlain}
use Rattle.redo_live.specs.declared.store.Store.{Store}
use Rattle.redo_live.specs.declared.worker.Worker.{Worker}
use Rattle.redo_ownrule.specs.Players.{IsSamePlayer}
use Rattle.redo_ownrule.specs.Playing.{IsPlayerSeat}
use Rattle.redo_ownrule.specs.Sharing.{table_of}
use Rattle.redo_ownrule.specs.declared.player.Player.{Player}
use Rattle.redo_ownrule.specs.declared.player.Player.TheVariants as player
use Rattle.redo_rule.specs.Mine.{number_of}
use Rattle.redo_threads.specs.Working.{AtEnd, GoesOn}

-- who plays by its own program does so later
plain_later : {R : Type 0} (p q : Player R) → IsPlain p → IsSamePlayer p q → IsPlain q
plain_later p (player.Plain b) plain same = (b, refl)
plain_later {R} p (player.Own o) plain same =
    absurd (subst (λ (z : Player R). IsSamePlayer z (player.Own o)) plain.1 same)

-- who is no user is none later
no_user_later : {R : Type 0} (p q : Player R) → IsPlain p → ((u : UserState) → IsPlayedBy u p → ⊥) → IsSamePlayer p q
    → (u : UserState) → IsPlayedBy u q → ⊥
no_user_later {R} p q plain none same u plays =
    by plain.0 plain.1 (subst (λ (z : Player R). IsSamePlayer z (player.Plain (actor.User u))) plain.1
    (subst (λ (z : Player R). IsSamePlayer p z) plays same))
  where
    by : (a : Actor R) → p ≡ player.Plain a → IsSameActor (view_of a) (model.User u) → ⊥
    by (actor.User v) is later = none v is
    by (actor.Writer w) is later = let e = later.1 in absurd (cc)
    by (actor.Flusher w) is later = let e = later.1 in absurd (cc)
    by (actor.Closer w) is later = let e = later.1 in absurd (cc)
    by (actor.Cleaner w) is later = let e = later.1 in absurd (cc)
    by (actor.Checkpointer w) is later = let e = later.1 in absurd (cc)
    by (actor.Archiver w) is later = let e = later.1 in absurd (cc)
    by (actor.Follower w) is later = let e = later.1 in absurd (cc)

module _ {L D : Type 0} (stands : Tally → List Given → Type 0) (store : Store L D) (old new : Worker L D)
    (table : TableId) (table_is : table ≡ table_of store.shared) (was : IsWorkerOf store old) where
  pub its_seat : IsPlayerSeat table old.seat old.player
  its_seat = subst (λ (t : TableId). IsPlayerSeat t old.seat old.player) (sym table_is) was.sits

  pub is_worker : GoesOn stands table old.seat old.player new.seat new.player → IsWorkerOf store new
  is_worker goes = record {
    is_open = was.is_open;
    plain = plain_later old.player new.player was.plain goes.player;
    no_user = no_user_later old.player new.player was.plain was.no_user goes.player;
    sits = subst (λ (t : TableId). IsPlayerSeat t new.seat new.player) table_is goes.seat;
    layout = goes.same.layout ∙ was.layout;
  }

  pub is_same : GoesOn stands table old.seat old.player new.seat new.player → IsSameWorker old new
  is_same goes = record { player = goes.player; number = goes.same.number }

module _ {L D : Type 0} (store : Store L D) (workers : List (Worker L D)) (n : ℕ) (old new : Worker L D)
    (there : get_elem? workers n ≡ maybe.some old) where
  -- with one that has worked, they are workers of the store still
  pub set_still : (first : ℕ) → AreWorkersOf store first workers → IsWorkerOf store new → IsSameWorker old new
      → AreWorkersOf store first (set workers n new)
  set_still first are now same i w at = ⊎_elim
      (λ t. subst (λ (v : Worker L D). IsWorkerOf store v × (number_of v.seat.me.0 ≡ first + i)) t.1
      (now, same.number ∙ (are n old there).1 ∙ ap (λ (k : ℕ). first + k) (sym t.0)))
      (λ t. are i w t.1)
      (at_set workers n i new w at)

  -- and those up to it have come to their ends
  pub set_ended : ((i : ℕ) (w : Worker L D) → i < n → get_elem? workers i ≡ maybe.some w → AtEnd w.player)
      → AtEnd new.player → (i : ℕ) (w : Worker L D) → i < n + 1 → get_elem? (set workers n new) i ≡ maybe.some w
      → AtEnd w.player
  set_ended below ends i w low at = ⊎_elim
      (λ t. subst (λ (v : Worker L D). AtEnd v.player) t.1 ends)
      (λ t. let far = t.0 in below i w (omega arith) t.1)
      (at_set workers n i new w at)

pub past : {A : Type 0} (l : List A) (i : ℕ) (a : A) → get_elem? l i ≡ maybe.some a → i < length l
past [] i a at = absurd (maybe.some-ne-none a (sym at))
past (x ∷ xs) zero a at = omega arith
past (x ∷ xs) (suc i) a at = let l = past xs i a at in omega arith

-- the element at a place of a list
pub at_place : {A : Type 0} (l : List A) (i : ℕ) (a : A) → i < length l → a ≡ get_or l i a
    → get_elem? l i ≡ maybe.some (get_or l i a)
at_place {A} l i a low is = subst (λ (b : A). get_elem? l i ≡ maybe.some b) is (at_index l i a low is)
