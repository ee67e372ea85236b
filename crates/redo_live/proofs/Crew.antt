-- The users and the workers of a store while they work beside one another.
use Rattle.std.proofs.Common.{Bool, List, [], ap, arith, drop, get_or, length, subst, suc, sym, take, zero, ℕ, ◌+◌, ◌++◌, ◌<◌}
use Rattle.std.proofs.Common.{◌≤◌, ◌∙◌, ◌∷◌, ◌≡◌}
use Rattle.std.proofs.lemmas.List.{take_all, take-append-le}
use lib.ListN.{get_elem?}
use mathlib.Core.Option as maybe
use Rattle.redo_live.specs.Closing.{AreAllOf}
use Rattle.redo_live.specs.Holding.{AreUsersOf, AreWorkersOf, IsSameWorker, IsUserOf, IsWorkerOf}
use Rattle.redo_live.proofs.Workers.{past}
use Rattle.redo_live.specs.Opening.{IsNewlyOpened}
use Rattle.redo_live.specs.Serving.{Stays}
use Rattle.redo_live.specs.declared.store.Store.{Store}
use Rattle.redo_live.specs.declared.user.User.{User}
use Rattle.redo_live.specs.declared.worker.Worker.{Worker}
use Rattle.redo_ownrule.specs.LiveClosing.{user_count}
use Rattle.redo_rule.proofs.Gathered.{at_or}
use Rattle.redo_rule.specs.Mine.{number_of}
use Rattle.redo_store.specs.declared.opened.Opened.{Opened}

module _ {A : Type 0} (P : A → ℕ → Type 0) where
  -- what holds of each element at its place holds of each that a call has left in its place
  each_left : (old new : List A) → length new ≡ length old
      → ((i : ℕ) (a : A) → get_elem? old i ≡ maybe.some a → P a i)
      → ((i : ℕ) (d : A) → i < length old → P (get_or old i d) i → P (get_or new i d) i)
      → (i : ℕ) (a : A) → get_elem? new i ≡ maybe.some a → P a i
  each_left old new len was left i a at =
      let there = past new i a at in
      let low : i < length old = omega (arith, len, there) in
      let now : P (get_or new i a) i = left i a low (was i (get_or old i a) (at_or old i a low)) in
      let same : maybe.some (get_or new i a) ≡ maybe.some a = sym (at_or new i a there) ∙ at in
      let is : get_or new i a ≡ a = cc in
      subst (λ (b : A). P b i) is now

module _ {L D : Type 0} (store : Store L D) where
  pub stays_on : (one two three : User L D) → Stays store one two → Stays store two three → Stays store one three
  stays_on one two three early late = record { user = late.user; place = late.place ∙ early.place }

  pub users_stay : (old new : List (User L D)) → length new ≡ length old → AreUsersOf store old
      → ((i : ℕ) (d : User L D) → i < length old → IsUserOf store (get_or old i d)
      → Stays store (get_or old i d) (get_or new i d))
      → AreUsersOf store new
  users_stay old new len are left = each_left
      (λ (u : User L D) (i : ℕ). IsUserOf store u × (number_of u.seat.me.0 ≡ i)) old new len are
      (λ i d low was. let now = left i d low was.0 in (now.user, now.place ∙ was.1))

  pub workers_stay : (first : ℕ) (old new : List (Worker L D)) → length new ≡ length old
      → AreWorkersOf store first old
      → ((i : ℕ) (d : Worker L D) → i < length old → IsWorkerOf store (get_or old i d)
      → IsWorkerOf store (get_or new i d) × IsSameWorker (get_or old i d) (get_or new i d))
      → AreWorkersOf store first new
  workers_stay first old new len are left = each_left
      (λ (w : Worker L D) (i : ℕ). IsWorkerOf store w × (number_of w.seat.me.0 ≡ first + i)) old new len are
      (λ i d low was. let now = left i d low was.0 in (now.0, now.1.number ∙ was.1))

  -- all users are numbered in their order
  pub all_users : (users : List (User L D)) (workers : List (Worker L D)) → AreAllOf store users workers
      → AreUsersOf store users
  all_users users workers all i u at = (all.may_close.users_are i u at, all.in_order i u at)

  pub all_stay : (old_users new_users : List (User L D)) (old_workers new_workers : List (Worker L D))
      → length new_users ≡ length old_users → length new_workers ≡ length old_workers
      → AreAllOf store old_users old_workers → AreUsersOf store new_users
      → AreWorkersOf store (user_count store.shared) new_workers → AreAllOf store new_users new_workers
  all_stay old_users new_users old_workers new_workers users workers all users_are workers_are = record {
    may_close = record {
      is_open = all.may_close.is_open;
      users_are = λ i u at. (users_are i u at).0;
      few = (let f = all.may_close.few in omega arith);
      workers_are = workers_are;
      all_workers = (let a = all.may_close.all_workers in omega arith);
    };
    in_order = λ i u at. (users_are i u at).1;
    all_users = users ∙ all.all_users;
  }

  pub opened_all : (opened : Opened L D) (count : ℕ) (log_only : Bool) (users : List (User L D))
      (workers : List (Worker L D)) → IsNewlyOpened opened count log_only store users workers
      → AreAllOf store users workers
  opened_all opened count log_only users workers made = record {
    may_close = record {
      is_open = made.is_open;
      users_are = λ i u at. (made.users_are i u at).0;
      few = (let c = made.count in let n = made.user_count_is in omega arith);
      workers_are = subst (λ (k : ℕ). AreWorkersOf store k workers) (sym made.user_count_is) made.workers_are;
      all_workers = (let n = made.user_count_is in let a = made.all in omega arith);
    };
    in_order = λ i u at. (made.users_are i u at).1;
    all_users = made.count ∙ sym made.user_count_is;
  }

  pub user_at : (users : List (User L D)) (i : ℕ) (u : User L D) → AreUsersOf store users → i < length users
      → u ≡ get_or users i u → IsUserOf store u
  user_at users i u are low is = subst (λ (v : User L D). IsUserOf store v) (sym is)
      (are i (get_or users i u) (at_or users i u low)).0

  pub worker_at : (first : ℕ) (workers : List (Worker L D)) (i : ℕ) (w : Worker L D) → AreWorkersOf store first workers
      → i < length workers → w ≡ get_or workers i w → IsWorkerOf store w
  worker_at first workers i w are low is = subst (λ (v : Worker L D). IsWorkerOf store v) (sym is)
      (are i (get_or workers i w) (at_or workers i w low)).0

-- what a slice that was lent out of a list leaves in it
pub lent_back : {A : Type 0} (n : ℕ) (new old : List A) → length new ≡ n → take n (new ++ drop (length new) old) ≡ new
lent_back n new old len =
    let low : n ≤ length new = omega (arith, len) in
    take-append-le n new (drop (length new) old) low ∙ take_all n new (omega (arith, len))
