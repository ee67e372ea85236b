-- The players of a store take their seats one after the other.
use Rattle.std.proofs.Common.{List, [], ap, arith, length, length-append, refl, subst, suc, sym, ℕ, ⊎_elim, ◌++◌, ◌+◌}
use Rattle.std.proofs.Common.{◌∙◌, ◌∷◌, ◌≡◌}
use lib.ListN.{get_elem?}
use mathlib.Core.Option as maybe
use Rattle.atomic_table.specs.declared.shared.Seat.{Seat}
use Rattle.redo_follow.specs.declared.tally.Tally.{Tally}
use Rattle.redo_live.specs.Seating.{AreSeatedFrom, AreSeatedUsers, AreSeatedWorkers, IsSeatedAt, Plan}
use Rattle.redo_live.specs.declared.user.User.{User}
use Rattle.redo_live.specs.declared.worker.Worker.{Worker}
use Rattle.redo_ownrule.specs.declared.player.Player.{Player}
use Rattle.redo_rule.proofs.Seated.{at_end}
use Rattle.redo_rule.specs.declared.law.Slot.{Slot}
use Rattle.redo_rule.specs.declared.law.View.{View}

module _ {L D R : Type 0} (plan : Plan) (first : ℕ) (s : Seat (Slot L D) (View L D)) (ss : List (Seat (Slot L D)
    (View L D)))
    (p : Player R) (ps : List (Player R)) (are : AreSeatedFrom plan first (s ∷ ss) (p ∷ ps)) where
  -- the first of these players, and those after it
  pub head_seated : IsSeatedAt plan first s p
  head_seated = subst (λ (n : ℕ). IsSeatedAt plan n s p) (let e : first + 0 ≡ first = omega arith in e)
      (are.each 0 s p refl refl)

  pub tail_seated : AreSeatedFrom plan (first + 1) ss ps
  tail_seated = record {
    count = (let n = are.count in omega arith);
    each = λ i t q at bt. subst (λ (n : ℕ). IsSeatedAt plan n t q)
        (let e : first + suc i ≡ first + 1 + i = omega arith in e) (are.each (suc i) t q at bt);
  }

module _ {L D : Type 0} (plan : Plan) where
  -- one user more, and one worker more
  pub user_more : (users : List (User L D)) (user : User L D) → AreSeatedUsers plan users
      → IsSeatedAt plan (length users) user.seat user.player → user.used ≡ 0 → AreSeatedUsers plan (users ++ user ∷ [])
  user_more users user are sits none i u at = ⊎_elim
      (λ t. are i u t.1)
      (λ t. subst (λ (v : User L D). IsSeatedAt plan i v.seat v.player × (v.used ≡ 0)) t.1
      (subst (λ (n : ℕ). IsSeatedAt plan n user.seat user.player) (sym t.0) sits, none))
      (at_end users user u i at)

  pub worker_more : (first : ℕ) (workers : List (Worker L D)) (worker : Worker L D)
      → AreSeatedWorkers plan first workers → IsSeatedAt plan (first + length workers) worker.seat worker.player
      → AreSeatedWorkers plan first (workers ++ worker ∷ [])
  worker_more first workers worker are sits i w at = ⊎_elim
      (λ t. are i w t.1)
      (λ t. subst (λ (v : Worker L D). IsSeatedAt plan (first + i) v.seat v.player) t.1
      (subst (λ (n : ℕ). IsSeatedAt plan (first + n) worker.seat worker.player) (sym t.0) sits))
      (at_end workers worker w i at)

module _ {L D R : Type 0} (plan : Plan) (first : ℕ) (s : Seat (Slot L D) (View L D))
    (seats ss : List (Seat (Slot L D) (View L D))) (p : Player R) (players ps : List (Player R))
    (seats_are : ◌≡◌ {A = List (Seat (Slot L D) (View L D))} seats (s ∷ ss))
    (players_are : ◌≡◌ {A = List (Player R)} players (p ∷ ps))
    (are : AreSeatedFrom plan first seats players) where
  both : AreSeatedFrom plan first (s ∷ ss) (p ∷ ps)
  both = subst (λ (l : List (Seat (Slot L D) (View L D))). AreSeatedFrom plan first l (p ∷ ps)) seats_are
      (subst (λ (l : List (Player R)). AreSeatedFrom plan first seats l) players_are are)

  -- who was taken first, and who is left
  pub taken_seated : IsSeatedAt plan first s p × AreSeatedFrom plan (first + 1) ss ps
  taken_seated = (head_seated plan first s ss p ps both, tail_seated plan first s ss p ps both)

module _ {L D : Type 0} (plan : Plan) where
  -- a user that was taken, and those that are left
  pub user_taken : (s : Seat (Slot L D) (View L D)) (seats ss : List (Seat (Slot L D) (View L D)))
      (p : Player Tally) (players ps : List (Player Tally))
      → ◌≡◌ {A = List (Seat (Slot L D) (View L D))} seats (s ∷ ss) → ◌≡◌ {A = List (Player Tally)} players (p ∷ ps)
      → (users more : List (User L D)) → more ≡ users ++ (record { seat = s; player = p; used = 0 }) ∷ []
      → AreSeatedUsers plan users × AreSeatedFrom plan (length users) seats players
      → AreSeatedUsers plan more × AreSeatedFrom plan (length more) ss ps
  user_taken s seats ss p players ps seats_are players_are users more is are =
      let t = taken_seated plan (length users) s seats ss p players ps seats_are players_are are.1 in
      let n : length users + 1 ≡ length more =
      sym (ap (λ (l : List (User L D)). length l) is ∙ length-append users _) in (
        subst (λ (l : List (User L D)). AreSeatedUsers plan l) (sym is) (user_more plan users _ are.0 t.0 refl),
        subst (λ (k : ℕ). AreSeatedFrom plan k ss ps) n t.1,
      )

  -- the same of a worker
  pub worker_taken : (first : ℕ) (s : Seat (Slot L D) (View L D)) (seats ss : List (Seat (Slot L D) (View L D)))
      (p : Player Tally) (players ps : List (Player Tally))
      → ◌≡◌ {A = List (Seat (Slot L D) (View L D))} seats (s ∷ ss) → ◌≡◌ {A = List (Player Tally)} players (p ∷ ps)
      → (workers more : List (Worker L D)) → more ≡ workers ++ (record { seat = s; player = p }) ∷ []
      → AreSeatedWorkers plan first workers × AreSeatedFrom plan (first + length workers) seats players
      → AreSeatedWorkers plan first more × AreSeatedFrom plan (first + length more) ss ps
  worker_taken first s seats ss p players ps seats_are players_are workers more is are =
      let t = taken_seated plan (first + length workers) s seats ss p players ps seats_are players_are are.1 in
      let m : length more ≡ length workers + 1 =
      ap (λ (l : List (Worker L D)). length l) is ∙ length-append workers _ in
      let n : first + length workers + 1 ≡ first + length more = omega arith in (
        subst (λ (l : List (Worker L D)). AreSeatedWorkers plan first l) (sym is)
            (worker_more plan first workers _ are.0 t.0),
        subst (λ (k : ℕ). AreSeatedFrom plan k ss ps) n t.1,
      )

  -- none are seated yet
  pub no_users : (users : List (User L D)) → users ≡ [] → AreSeatedUsers plan users
  no_users users none i user at = absurd (maybe.some-ne-none user
      (sym at ∙ ap (λ (l : List (User L D)). get_elem? l i) none))

  pub no_workers : (first : ℕ) (workers : List (Worker L D)) → workers ≡ [] → AreSeatedWorkers plan first workers
  no_workers first workers none i worker at = absurd (maybe.some-ne-none worker
      (sym at ∙ ap (λ (l : List (Worker L D)). get_elem? l i) none))
