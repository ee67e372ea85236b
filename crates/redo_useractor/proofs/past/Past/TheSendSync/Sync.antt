-- Any thread may share it.
use denote.RattleType.{RattleType}
use denote.Param.Send.{IsSync, part_keyless}
use Rattle.redo_useractor.proofs.past.Past.TheSendSync.Send.{send}
use Rattle.redo_useractor.specs.contracts.past.Past.{the_row}

pub sync : (A : RattleType) → IsSync (the_row A)
sync A = record { shared = λ d b o κ q. part_keyless (the_row A) (send A) q d b o }
