-- The write of bytes, if there are any.
use Rattle.std.proofs.Common.{ℕ, ◌≡◌, ◌≤◌, List, [], ◌∷◌, length, Option, None, subst, arith}
use Rattle.model_log.specs.{place_in, ring_start}
use Rattle.model_log.specs.declared.layout.Layout.{Layout}
use Rattle.redo_disk.specs.declared.error.DevError.{DevError}
use Rattle.redo_disk.specs.{Answer, Call, error_of, MakesCall, MakesCalls, Serve, write_at, Writes}
use Rattle.redo_disk.proofs.Made.{call_serves, serves_then}
use Rattle.redo_logdev.specs.Part.{back_of, front_of, round_writes, some_write}

pub some_served : {D : Type 0} {gives : D → Call → D → Type 0} {old new : D} {answer : Answer} (at : ℕ) (bytes : List ℕ) → 1 ≤ length bytes
    → MakesCall gives old (Writes (write_at at bytes) answer) new → MakesCalls gives old new (Serve (some_write at bytes) (error_of answer))
some_served at [] some given = absurd (omega arith)
some_served at (byte ∷ bytes) some given = call_serves given

-- the bytes up to the ring's end, and what is left at its start
pub round_served : {D : Type 0} {gives : D → Call → D → Type 0} {old middle new : D} {error : Option DevError} (layout : Layout) (b at start : ℕ) (bytes front back : List ℕ)
    → at ≡ place_in layout b → start ≡ ring_start layout → front ≡ front_of layout b bytes → back ≡ back_of layout b bytes
    → MakesCalls gives old middle (Serve (some_write at front) None) → MakesCalls gives middle new (Serve (some_write start back) error)
    → MakesCalls gives old new (Serve (round_writes layout b bytes) error)
round_served {gives = gives} {old = old} {middle = middle} {new = new} {error = error} layout b at start bytes front back at_is start_is front_is back_is first then =
    serves_then
    (subst (λ (p : ℕ). MakesCalls gives old middle (Serve (some_write p (front_of layout b bytes)) None)) at_is
    (subst (λ (l : List ℕ). MakesCalls gives old middle (Serve (some_write at l) None)) front_is first))
    (subst (λ (p : ℕ). MakesCalls gives middle new (Serve (some_write p (back_of layout b bytes)) error)) start_is
    (subst (λ (l : List ℕ). MakesCalls gives middle new (Serve (some_write start l) error)) back_is then))
