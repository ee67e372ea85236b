-- A record owns nothing, so threads may share it.
use denote.Param.Send.{IsSend, IsSync, owning_send, part_keyless, sendable}
use Rattle.redo_memdisk.specs.contracts.record.Record.{the_row, the_type}

pub sync : IsSync the_row
sync = let sent : IsSend the_row = owning_send the_type (search sendable, tt) (λ d. tt) (λ k x w. tt) in
    record { shared = λ d b o κ q. part_keyless the_row sent q d b o }
