-- How many actors a live run has, and which of them are users.
use Rattle.std.proofs.Common.{Bool, List, ap, arith, false, length, length-append, map, refl, sym, true, zero}
use Rattle.std.proofs.Common.{suc, ℕ, ◌++◌, ◌+◌, ◌<◌, ◌∙◌, ◌∷◌, ◌≡◌, ◌≤◌, []}
use Rattle.std.proofs.lemmas.List.{length-map}
use lib.ListN.{get_elem?}
use mathlib.Core.Option as maybe
use Rattle.model_base.specs.declared.shape.Shape.{Shape}
use Rattle.model_core.specs.{Actor, new_user, ReaderState, UserState}
use Rattle.model_core.specs.States as actor
use Rattle.model_core.specs.Setups.{Setup}
use Rattle.model_log.specs.{run_layout}
use Rattle.model_running.proofs.Seated.{user_seat}
use Rattle.model_running.specs.ReadHalf.{ReadsInRun, StaysInRun}
use Rattle.model_running.specs.Seated.{AreSeated}
use Rattle.model_running.specs.Schedule.{ArePageActors}
use Rattle.redo_drive.specs.LiveActors.{idle_users, live_actors, live_plan}
use Rattle.redo_drive.specs.Setups.{other_actors}

pub many_idle : (blocks users : ℕ) → length (idle_users blocks users) ≡ users
many_idle blocks zero = omega arith
many_idle blocks (suc n) =
    let r = many_idle blocks n in
    let a = length-append (idle_users blocks n) (new_user (suc n) blocks [] ∷ []) in omega arith

-- beside the users a writer and a flusher, and the actors of the pages
abbrev pub others : Bool → ℕ
others true = 2
others false = 5

many_others : (shape : Shape) (start : ℕ) (log_only : Bool)
    → length (other_actors shape start (live_plan log_only)) ≡ others log_only
many_others shape start true = omega arith
many_others shape start false = omega arith

pub many_actors : (shape : Shape) (users start : ℕ) (log_only : Bool)
    → length (live_actors shape users start (live_plan log_only)) ≡ users + others log_only
many_actors shape users start log_only =
    let idle : List UserState = idle_users (run_layout shape).blocks users in
    let u = many_idle (run_layout shape).blocks users in
    let m = length-map idle actor.User in
    let o = many_others shape start log_only in
    let all : List Actor = other_actors shape start (live_plan log_only) in
    let a = length-append (map actor.User idle) all in
    let b = length-append (map actor.User idle ++ all) [] in omega arith

-- among users and others behind them
user_at : (us : List UserState) (zs : List Actor) (n : ℕ) (a : Actor)
    → get_elem? (map actor.User us ++ zs) n ≡ maybe.some a → n < length us
    → (u : UserState) × ◌≡◌ {A = Actor} a (actor.User u)
user_at [] zs n a at below = absurd (omega arith)
user_at (u ∷ us) zs zero a at below = (u, sym (maybe.some-injective (actor.User u) a at))
user_at (u ∷ us) zs (suc n) a at below = user_at us zs n a at (omega arith)

behind_users : (us : List UserState) (zs : List Actor) (i n : ℕ) → n ≡ length us + i
    → get_elem? (map actor.User us ++ zs) n ≡ get_elem? zs i
behind_users [] zs i n is = ap (get_elem? zs) (let e : n ≡ i = omega arith in e)
behind_users (u ∷ us) zs i zero is = absurd (omega arith)
behind_users (u ∷ us) zs i (suc n) is = behind_users us zs i n (omega arith)

pub its_place : {A : Type 0} (l : List A) (i : ℕ) (a : A) → get_elem? l i ≡ maybe.some a → i < length l
its_place [] i a at = absurd (maybe.some-ne-none a (sym at))
its_place (x ∷ xs) zero a at = omega arith
its_place (x ∷ xs) (suc i) a at = let r = its_place xs i a at in omega arith

-- where nobody reads the log
many_pages : (b : Bool) (os : List Actor) → ArePageActors b os
    → ((i : ℕ) (r : ReaderState) → get_elem? os i ≡ maybe.some (actor.Reader r) → ⊥) → length os + 2 ≡ others b
many_pages true os are none = by are.0 are.1
  where
    by : (rs : List ReaderState) → ◌≡◌ {A = List Actor} os (map actor.Reader rs) → length os + 2 ≡ 2
    by [] is = (let n = ap (λ (l : List Actor). length l) is in omega arith)
    by (r ∷ rs) is = absurd (none 0 r (ap (λ (l : List Actor). get_elem? l 0) is))
many_pages false os are none = by are.1 are.2
  where
    by : (rs : List ReaderState) → ◌≡◌ {A = List Actor} os
        (actor.Closer are.0.closer ∷ actor.Cleaner are.0.cleaner ∷ actor.Checkpointer are.0.checkpointer
        ∷ map actor.Reader rs) → length os + 2 ≡ 5
    by [] is = (let n = ap (λ (l : List Actor). length l) is in omega arith)
    by (r ∷ rs) is = absurd (none 3 r (ap (λ (l : List Actor). get_elem? l 3) is))

-- EXACTLY THE FIRST SO MANY ACTORS ARE USERS, where there are as many as in a live run with so many that nobody reads.
module _ {live : Bool} (c : Setup) (actors : List Actor) (seated : AreSeated live c actors)
    (in_run : (seat : ℕ) (a : Actor) → get_elem? actors seat ≡ maybe.some a → StaysInRun c a)
    (alone : c.last_reader ≤ c.first_reader) (users : ℕ) (count : length actors ≡ users + others c.log_only) where
  abbrev behind : List Actor
  behind = actor.Writer seated.writer ∷ actor.Flusher seated.flusher ∷ seated.others

  no_reader : (i : ℕ) (r : ReaderState) → get_elem? seated.others i ≡ maybe.some (actor.Reader r) → ⊥
  no_reader i r at =
      let stays : ReadsInRun c r = in_run (length seated.users + suc (suc i)) (actor.Reader r)
      (ap (λ (l : List Actor). get_elem? l (length seated.users + suc (suc i))) seated.are
      ∙ behind_users seated.users behind (suc (suc i)) (length seated.users + suc (suc i)) refl ∙ at) in
      let low = stays.first in
      let high = stays.few in absurd (omega arith)

  many_users : length seated.users ≡ users
  many_users =
      let n = ap (λ (l : List Actor). length l) seated.are in
      let a = length-append (map actor.User seated.users) behind in
      let m = length-map seated.users actor.User in
      let o = many_pages c.log_only seated.others seated.page_actors no_reader in omega arith

  pub are_users : (n : ℕ) (a : Actor) → get_elem? actors n ≡ maybe.some a → n < users
      → (u : UserState) × ◌≡◌ {A = Actor} a (actor.User u)
  are_users n a at below =
      let m = many_users in
      user_at seated.users behind n a (sym (ap (λ (l : List Actor). get_elem? l n) seated.are) ∙ at) (omega arith)

  pub no_others : (n : ℕ) (u : UserState) → get_elem? actors n ≡ maybe.some (actor.User u) → n < users
  no_others n u at =
      let m = many_users in
      let l = its_place seated.users n u (user_seat c actors seated n u at) in omega arith
