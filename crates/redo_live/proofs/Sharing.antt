-- A seat may be shared: a `&` to it shows what it owns, which any thread may have.
use denote.Param.Send.{IsSend, IsSync, part_keyless}
use denote.RattleType.{RattleType}
use Rattle.atomic_table.proofs.shared.Seat.TheSendSync.{the_send}
use Rattle.atomic_table.specs.contracts.shared.Seat.{the_row}

pub seat_sync : (S V : RattleType) → IsSend S → IsSync (the_row S V)
seat_sync S V s = record { shared = λ d b o κ q. part_keyless (the_row S V) (the_send S V s) q d b o }
