-- Where each actor has its seat, each user with a line has one.
use Rattle.std.proofs.Common.{Bool, List, [], ap, arith, false, length, map, subst, suc, sym, true, zero, ℕ, ◌++◌, ◌+◌, ◌∙◌, ◌∷◌, ◌≡◌}
use lib.ListN.{get_elem?}
use Rattle.model_base.specs.declared.shape.Shape.{Shape}
use Rattle.model_core.proofs.Lists.{at_longer}
use Rattle.model_core.specs.{Actor, CleanerState, ReaderState, UserState, Setup}
use Rattle.model_running.specs.Script.{HasSeats, IsOfScript}
use Rattle.model_running.specs.Seated.{AreSeated}
use Rattle.model_running.specs.Schedule.{ArePageActors}
use Rattle.model_script.specs.declared.script.ScriptLine.{ScriptLine}
use Rattle.model_core.specs.States as actor
use mathlib.Core.Option as maybe

user_at : (users : List UserState) (i : ℕ) (u : UserState) → get_elem? users i ≡ maybe.some u → get_elem? (map actor.User users) i ≡ maybe.some (actor.User u)
user_at [] i u at = absurd (maybe.some-ne-none u (sym at))
user_at (x ∷ xs) zero u at = ap maybe.some (ap actor.User (maybe.some-injective x u at))
user_at (x ∷ xs) (suc i) u at = user_at xs i u at

-- after the users' seats there is no user
abbrev NoUsers : List Actor → Type 0
NoUsers actors = (seat : ℕ) (u : UserState) → get_elem? actors seat ≡ maybe.some (actor.User u) → ⊥

among_users : (users : List UserState) (others : List Actor) → NoUsers others → (seat : ℕ) (u : UserState) → get_elem? (map actor.User users ++ others) seat ≡ maybe.some (actor.User u) → get_elem? users seat ≡ maybe.some u
among_users [] others none seat u at = absurd (none seat u at)
among_users (x ∷ xs) others none zero u at = let z = maybe.some-injective (actor.User x) (actor.User u) at in let same : x ≡ u = cc in cc
among_users (x ∷ xs) others none (suc seat) u at = among_users xs others none seat u at

no_reader_user : (readers : List ReaderState) → NoUsers (map actor.Reader readers)
no_reader_user [] seat u at = maybe.some-ne-none (actor.User u) (sym at)
no_reader_user (r ∷ rs) zero u at = let z = maybe.some-injective (actor.Reader r) (actor.User u) at in cc
no_reader_user (r ∷ rs) (suc i) u at = no_reader_user rs i u at

no_page_user : (log_only : Bool) (others : List Actor) → ArePageActors log_only others → NoUsers others
no_page_user true others are = subst NoUsers (sym are.1) (no_reader_user are.0)
no_page_user false others are = subst NoUsers (sym are.2) three
  where
    three : NoUsers (actor.Closer are.0.closer ∷ actor.Cleaner are.0.cleaner ∷ actor.Checkpointer are.0.checkpointer ∷ map actor.Reader are.1)
    three zero u at = let z = maybe.some-injective (actor.Closer are.0.closer) (actor.User u) at in cc
    three (suc zero) u at = let z = maybe.some-injective (actor.Cleaner are.0.cleaner) (actor.User u) at in cc
    three (suc (suc zero)) u at = let z = maybe.some-injective (actor.Checkpointer are.0.checkpointer) (actor.User u) at in cc
    three (suc (suc (suc i))) u at = no_reader_user are.1 i u at

-- nor a cleaner, where the log runs alone
abbrev NoCleaner : List Actor → Type 0
NoCleaner actors = (seat : ℕ) (v : CleanerState) → get_elem? actors seat ≡ maybe.some (actor.Cleaner v) → ⊥

no_reader_cleaner : (readers : List ReaderState) → NoCleaner (map actor.Reader readers)
no_reader_cleaner [] seat v at = maybe.some-ne-none (actor.Cleaner v) (sym at)
no_reader_cleaner (r ∷ rs) zero v at = let z = maybe.some-injective (actor.Reader r) (actor.Cleaner v) at in cc
no_reader_cleaner (r ∷ rs) (suc i) v at = no_reader_cleaner rs i v at

no_cleaner_after : (users : List UserState) (others : List Actor) → NoCleaner others → NoCleaner (map actor.User users ++ others)
no_cleaner_after [] others none seat v at = none seat v at
no_cleaner_after (x ∷ xs) others none zero v at = let z = maybe.some-injective (actor.User x) (actor.Cleaner v) at in cc
no_cleaner_after (x ∷ xs) others none (suc seat) v at = no_cleaner_after xs others none seat v at

at_after : (users : List UserState) (others : List Actor) (i : ℕ) → get_elem? (map actor.User users ++ others) (length users + i) ≡ get_elem? others i
at_after [] others i = ap (get_elem? others) (let z : 0 + i ≡ i = omega arith in z)
at_after (u ∷ users) others i = ap (get_elem? (actor.User u ∷ (map actor.User users ++ others))) (let z : suc (length users) + i ≡ suc (length users + i) = omega arith in z) ∙ at_after users others i

module _ {live : Bool} (c : Setup) (actors : List Actor) (seated : AreSeated live c actors) where
  pub user_seat : (seat : ℕ) (u : UserState) → get_elem? actors seat ≡ maybe.some (actor.User u) → get_elem? seated.users seat ≡ maybe.some u
  user_seat seat u at = among_users seated.users others after seat u (subst (λ (l : List Actor). get_elem? l seat ≡ maybe.some (actor.User u)) seated.are at)
    where
      others : List Actor
      others = actor.Writer seated.writer ∷ actor.Flusher seated.flusher ∷ seated.others

      after : NoUsers others
      after zero u at = let z = maybe.some-injective (actor.Writer seated.writer) (actor.User u) at in cc
      after (suc zero) u at = let z = maybe.some-injective (actor.Flusher seated.flusher) (actor.User u) at in cc
      after (suc (suc i)) u at = no_page_user c.log_only seated.others seated.page_actors i u at

  pub no_cleaner : c.log_only ≡ true → (seat : ℕ) (v : CleanerState) → get_elem? actors seat ≡ maybe.some (actor.Cleaner v) → ⊥
  no_cleaner alone = subst NoCleaner (sym seated.are) (no_cleaner_after seated.users (actor.Writer seated.writer ∷ actor.Flusher seated.flusher ∷ seated.others) two)
    where
      none : ArePageActors true seated.others
      none = subst (λ (b : Bool). ArePageActors b seated.others) alone seated.page_actors

      two : NoCleaner (actor.Writer seated.writer ∷ actor.Flusher seated.flusher ∷ seated.others)
      two zero v at = let z = maybe.some-injective (actor.Writer seated.writer) (actor.Cleaner v) at in cc
      two (suc zero) v at = let z = maybe.some-injective (actor.Flusher seated.flusher) (actor.Cleaner v) at in cc
      two (suc (suc i)) v at = no_reader_cleaner none.0 i v (sym (ap (λ (l : List Actor). get_elem? l i) none.1) ∙ at)

  -- and else there is one
  pub has_cleaner : c.log_only ≡ false → (seat : ℕ) × (v : CleanerState) × (get_elem? actors seat ≡ maybe.some (actor.Cleaner v))
  has_cleaner with_pages =
      let p : ArePageActors false seated.others = subst (λ (b : Bool). ArePageActors b seated.others) with_pages seated.page_actors in (
        length seated.users + 3,
        p.0.cleaner,
        ap (λ (l : List Actor). get_elem? l (length seated.users + 3)) seated.are
            ∙ at_after seated.users (actor.Writer seated.writer ∷ actor.Flusher seated.flusher ∷ seated.others) 3 ∙ ap (λ (l : List Actor). get_elem? l 1) p.2,
      )

  pub seated_seats : (script : List ScriptLine) (shape : Shape) → IsOfScript c script shape → HasSeats script actors
  seated_seats script shape S user some =
      let n = S.count user in
      let r = seated.all user (omega arith) in (
        r.0,
        r.1,
        subst (λ (z : List Actor). get_elem? z r.0 ≡ maybe.some (actor.User r.1)) (sym seated.are)
            (at_longer (map actor.User seated.users) (actor.Writer seated.writer ∷ actor.Flusher seated.flusher ∷ seated.others) r.0 (actor.User r.1) (user_at seated.users r.0 r.1 r.2)),
        r.3,
      )
