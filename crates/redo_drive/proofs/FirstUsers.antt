-- The users of a run as it begins: those of a script, or those of a live run, which have no lines yet.
use Rattle.std.proofs.Common.{Bool, List, [], ap, arith, false, length, length-append, refl, subst, suc, sym, true, zero, ℕ, ⊎_elim, ◌+◌, ◌-◌, ◌<◌, ◌∙◌, ◌∷◌, ◌≡◌}
use Rattle.std.specs.List.{AllByRecursion}
use lib.ListN.{get_elem?}
use mathlib.Core.Option.{some, some-ne-none}
use native.Mathlib.Decide.{dec_le}
use Rattle.model_base.specs.declared.shape.Shape.{Shape}
use Rattle.model_core.specs.{Line, new_user, UserState}
use Rattle.model_log.specs.{run_layout}
use Rattle.model_script.specs.{IsScriptLine, LineFits}
use Rattle.model_script.specs.declared.misfit.TheConstants.{MAX_USERS}
use Rattle.model_script.specs.declared.script.ScriptLine.{ScriptLine}
use Rattle.redo_drive.proofs.Seats.{HasSeat, ascend, at_more, has_seat, seated}
use Rattle.redo_drive.proofs.UserLines.{no_program}
use Rattle.redo_drive.specs.LiveActors.{idle_users}
use Rattle.redo_drive.specs.Setups.{programs_of, users_below, users_of}

-- THE USERS OF A RUN AS IT BEGINS: new, in the seats that belong to their numbers, and all that have lines are among
-- them.
pub record AreFirstUsers (live : Bool) (blocks : ℕ) (programs : ℕ → List Line) (seat_of : ℕ → ℕ)
    (users : List UserState) : Type 0 where
  pub each : (seat : ℕ) (u : UserState) → get_elem? users seat ≡ some u
      → (seat_of u.user ≡ seat) × ◌≡◌ {A = UserState} u (new_user u.user blocks (programs u.user))
  pub ascending : (i : ℕ) (u v : UserState) → get_elem? users i ≡ some u → get_elem? users (suc i) ≡ some v
      → u.user < v.user
  pub have_lines : live ≡ false → (i : ℕ) (u : UserState) → get_elem? users i ≡ some u → 0 < length (programs u.user)
  pub all : (user : ℕ) → 0 < length (programs user)
      → (i : ℕ) × (u : UserState) × (get_elem? users i ≡ some u) × (u.user ≡ user)

-- the seat of the user of a number: as many users have lesser numbers
abbrev pub seat_of_user : Shape → Bool → List ScriptLine → ℕ → ℕ
seat_of_user shape log_only script user =
    length (users_below (run_layout shape).blocks (programs_of shape log_only script) user)

-- the users of a script are those that have lines
pub script_users : (shape : Shape) (script : List ScriptLine) (log_only : Bool) → AllByRecursion IsScriptLine script
    → AllByRecursion (LineFits shape) script
    → AreFirstUsers false (run_layout shape).blocks (programs_of shape log_only script)
    (seat_of_user shape log_only script) (users_of shape log_only script)
script_users shape script log_only lines fits =
    let blocks : ℕ = (run_layout shape).blocks in
    let programs : ℕ → List Line = programs_of shape log_only script in
    record {
      each = λ seat u at.
          let own : HasSeat blocks programs (MAX_USERS + 1) seat u = seated blocks programs (MAX_USERS + 1) seat u at in
          (own.before, own.is);
      ascending = ascend blocks programs (MAX_USERS + 1);
      have_lines = λ _ i u at. (seated blocks programs (MAX_USERS + 1) i u at).some_lines;
      all = λ user some_lines. elim (dec_le user MAX_USERS) [
        | yes low ↦ (
          seat_of_user shape log_only script user,
          new_user user blocks (programs user),
          has_seat blocks programs (MAX_USERS + 1) user (omega arith) some_lines,
          refl,
        )
        | no high ↦ absurd (let none = no_program shape script lines fits log_only user
            (λ range. let to = range.1 in omega arith) in omega arith)
      ];
    }

-- the idle users are as many as that,
pub idle_count : (blocks n : ℕ) → length (idle_users blocks n) ≡ n
idle_count blocks zero = refl
idle_count blocks (suc n) =
    let before = idle_count blocks n in
    let more = length-append (idle_users blocks n) (new_user (suc n) blocks [] ∷ []) in omega arith

-- and each has the number behind its seat's
pub idle_at : (blocks n seat : ℕ) (u : UserState) → get_elem? (idle_users blocks n) seat ≡ some u
    → ◌≡◌ {A = UserState} (new_user (suc seat) blocks []) u
idle_at blocks zero seat u at = absurd (some-ne-none u (sym at))
idle_at blocks (suc n) seat u at = ⊎_elim
    (λ before. idle_at blocks n seat u before)
    (λ last. ap (λ (k : ℕ). new_user (suc k) blocks []) (last.0 ∙ idle_count blocks n) ∙ last.1)
    (at_more (idle_users blocks n) (new_user (suc n) blocks []) u seat at)

-- the seat of an idle user
abbrev pub idle_seat : ℕ → ℕ
idle_seat user = user - 1

-- the users of a live run have no lines yet
pub are_idle : (shape : Shape) (users : ℕ) (log_only : Bool)
    → AreFirstUsers true (run_layout shape).blocks (programs_of shape log_only []) idle_seat
    (idle_users (run_layout shape).blocks users)
are_idle shape users log_only =
    let blocks : ℕ = (run_layout shape).blocks in
    record {
      each = λ seat u at.
          let is = idle_at blocks users seat u at in (
            (let number = ap (λ (z : UserState). z.user) is in omega arith),
            subst (λ (z : UserState). ◌≡◌ {A = UserState} z (new_user z.user blocks [])) is refl,
          );
      ascending = λ i u v at next.
          let first = ap (λ (z : UserState). z.user) (idle_at blocks users i u at) in
          let second = ap (λ (z : UserState). z.user) (idle_at blocks users (suc i) v next) in omega arith;
      have_lines = λ fixed. absurd (cc);
      all = λ user some_lines. absurd (omega arith);
    }
