-- What becomes of a follower's room for a block, which is lent to be written.
use Rattle.std.specs.Prelude.{List, ℕ}
use Rattle.std.specs.Borrow.{Array, Fml, Lends, MutBor, RattleType, u8}
use Rattle.redo_follow.specs.Following.{Following}
use Rattle.redo_follow.specs.contracts.follower.Follower.{the_row}
use Rattle.redo_follow.specs.declared.receiver.Receiver.{Ghosts}

-- the follower with these bytes as its block: nothing else of it changes
abbrev pub with_block : {R : Type 0} → Following R → List ℕ → Following R
with_block follower bytes = record follower { state = record follower.state { block = bytes } }

-- the follower ends with what is left in the room as its block
abbrev pub LendsRoom : (R : RattleType) → Ghosts R.Denot → MutBor (Following R.Denot) → MutBor (List ℕ) → Fml
LendsRoom R receiver follower room = Lends (the_row R receiver) (Array u8 512) follower room (with_block follower.now)
