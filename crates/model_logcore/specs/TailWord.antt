-- What the word of a tail says of the actors.
use Rattle.std.specs.Prelude.{Bool, List, false, true, ℕ, ◌≡◌}
use lib.ListN.{get_elem?}
use mathlib.Core.Option.{some}
use Rattle.model_core.specs.{Actor, advance_of, holds_tail}
use Rattle.model_core.specs.declared.words.LinkBuffer.{LinkBuffer}

-- this seat's actor alone holds the tail; it has loaded it, and has cleared the links up to a place
pub record IsHeldBy (b : LinkBuffer) (tail cleared : ℕ) (actors : List Actor) (seat : ℕ) : Type 0 where
  pub who : Actor
  pub who_is : get_elem? actors seat ≡ some who
  pub holds : holds_tail b who ≡ true
  pub loaded : (advance_of who).tail ≡ tail
  pub place : (advance_of who).place ≡ cleared
  pub alone : (other : ℕ) (a : Actor) → get_elem? actors other ≡ some a → holds_tail b a ≡ true → other ≡ seat

-- Where the word is free no actor holds the tail, and the links below it are cleared; where it is held, one does.
pub record TailWordIs (b : LinkBuffer) (tail : ℕ) (held : Bool) (cleared : ℕ) (actors : List Actor) : Type 0 where
  pub free : held ≡ false → (cleared ≡ tail) × ((seat : ℕ) (a : Actor) → get_elem? actors seat ≡ some a → holds_tail b a ≡ false)
  pub taken : held ≡ true → (seat : ℕ) × IsHeldBy b tail cleared actors seat
