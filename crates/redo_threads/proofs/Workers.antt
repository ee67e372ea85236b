-- Players in their seats, as workers: what is done to both lists is done to the workers.
use Rattle.std.proofs.Common.{List, [], ap, arith, get_or, length, refl, set, suc, sym, zero, ℕ, ◌<◌, ◌∷◌, ◌≡◌}
use Rattle.std.specs.List.{insert, remove}
use lib.ListN.{get_elem?}
use mathlib.Core.Option as maybe
use Rattle.atomic_table.specs.declared.shared.Seat.{Seat}
use Rattle.redo_ownrule.specs.declared.player.Player.{Player}
use Rattle.redo_rule.specs.declared.law.Slot.{Slot}
use Rattle.redo_rule.specs.declared.law.View.{View}
use Rattle.redo_threads.specs.Working.{Sitting, workers}

module _ {L D F : Type 0} where
  abbrev pub worker : Seat (Slot L D) (View L D) → Player F → Sitting L D F
  worker s a = record { seat = s; player = a }

  pub long_workers : (seats : List (Seat (Slot L D) (View L D))) (players : List (Player F))
      → length seats ≡ length players → length (workers seats players) ≡ length players
  long_workers [] [] e = refl
  long_workers [] (y ∷ players) e = absurd (omega arith)
  long_workers (x ∷ seats) [] e = absurd (omega arith)
  long_workers (x ∷ seats) (y ∷ players) e = ap suc (long_workers seats players (omega arith))

  pub set_workers : (seats : List (Seat (Slot L D) (View L D))) (players : List (Player F)) (n : ℕ)
      (s : Seat (Slot L D) (View L D)) (a : Player F) → length seats ≡ length players
      → set (workers seats players) n (worker s a) ≡ workers (set seats n s) (set players n a)
  set_workers [] [] n s a e = refl
  set_workers [] (y ∷ players) n s a e = absurd (omega arith)
  set_workers (x ∷ seats) [] n s a e = absurd (omega arith)
  set_workers (x ∷ seats) (y ∷ players) zero s a e = refl
  set_workers (x ∷ seats) (y ∷ players) (suc n) s a e =
      ap (λ (l : List (Sitting L D F)). worker x y ∷ l) (set_workers seats players n s a (omega arith))

  pub remove_workers : (seats : List (Seat (Slot L D) (View L D))) (players : List (Player F)) (n : ℕ)
      → length seats ≡ length players → remove (workers seats players) n ≡ workers (remove seats n) (remove players n)
  remove_workers [] [] zero e = refl
  remove_workers [] [] (suc n) e = refl
  remove_workers [] (y ∷ players) n e = absurd (omega arith)
  remove_workers (x ∷ seats) [] n e = absurd (omega arith)
  remove_workers (x ∷ seats) (y ∷ players) zero e = refl
  remove_workers (x ∷ seats) (y ∷ players) (suc n) e =
      ap (λ (l : List (Sitting L D F)). worker x y ∷ l) (remove_workers seats players n (omega arith))

  pub insert_workers : (seats : List (Seat (Slot L D) (View L D))) (players : List (Player F)) (n : ℕ)
      (s : Seat (Slot L D) (View L D)) (a : Player F) → length seats ≡ length players
      → insert (workers seats players) n (worker s a) ≡ workers (insert seats n s) (insert players n a)
  insert_workers seats players zero s a e = refl
  insert_workers [] [] (suc n) s a e = refl
  insert_workers [] (y ∷ players) (suc n) s a e = absurd (omega arith)
  insert_workers (x ∷ seats) [] (suc n) s a e = absurd (omega arith)
  insert_workers (x ∷ seats) (y ∷ players) (suc n) s a e =
      ap (λ (l : List (Sitting L D F)). worker x y ∷ l) (insert_workers seats players n s a (omega arith))

  -- the worker at a place
  pub worker_at : (seats : List (Seat (Slot L D) (View L D))) (players : List (Player F)) (n : ℕ)
      (s : Seat (Slot L D) (View L D)) (a : Player F) → length seats ≡ length players → n < length players
      → s ≡ get_or seats n s → a ≡ get_or players n a → worker s a ≡ get_or (workers seats players) n (worker s a)
  worker_at [] [] n s a e less p q = absurd (omega arith)
  worker_at [] (y ∷ players) n s a e less p q = absurd (omega arith)
  worker_at (x ∷ seats) [] n s a e less p q = absurd (omega arith)
  worker_at (x ∷ seats) (y ∷ players) zero s a e less p q = λ j. record { seat = p j; player = q j }
  worker_at (x ∷ seats) (y ∷ players) (suc n) s a e less p q =
      worker_at seats players n s a (omega arith) (omega arith) p q

  pub worker_there : (seats : List (Seat (Slot L D) (View L D))) (players : List (Player F)) (n : ℕ)
      (s : Seat (Slot L D) (View L D)) (a : Player F) → get_elem? seats n ≡ maybe.some s
      → get_elem? players n ≡ maybe.some a → get_elem? (workers seats players) n ≡ maybe.some (worker s a)
  worker_there [] players n s a p q = absurd (maybe.some-ne-none s (sym p))
  worker_there (x ∷ seats) [] n s a p q = absurd (maybe.some-ne-none a (sym q))
  worker_there (x ∷ seats) (y ∷ players) zero s a p q =
      let e = maybe.some-injective x s p in
      let f = maybe.some-injective y a q in
      λ j. maybe.some (worker (e j) (f j))
  worker_there (x ∷ seats) (y ∷ players) (suc n) s a p q = worker_there seats players n s a p q

  pub has_both : (seats : List (Seat (Slot L D) (View L D))) (players : List (Player F)) (n : ℕ) (w : Sitting L D F)
      → get_elem? (workers seats players) n ≡ maybe.some w
      → (get_elem? seats n ≡ maybe.some w.seat) × (get_elem? players n ≡ maybe.some w.player)
  has_both [] players n w p = absurd (maybe.some-ne-none w (sym p))
  has_both (x ∷ seats) [] n w p = absurd (maybe.some-ne-none w (sym p))
  has_both (x ∷ seats) (y ∷ players) zero w p =
      let e : ◌≡◌ {A = Sitting L D F} (worker x y) w = maybe.some-injective (worker x y) w p in
      (ap (λ (z : Sitting L D F). maybe.some z.seat) e, ap (λ (z : Sitting L D F). maybe.some z.player) e)
  has_both (x ∷ seats) (y ∷ players) (suc n) w p = has_both seats players n w p
