use Rattle.model_device.proofs.Valid.{IsValid-crashed, IsValid-failed, IsValid-settled, IsValid-synced, IsValid-written}
use Rattle.model_device.proofs.laws.calls_keep_a_device_valid.Goals as goal

pub returns-clause-settled : goal.returns-clause-settled
returns-clause-settled c = IsValid-settled

pub returns-clause-write : goal.returns-clause-write
returns-clause-write c = IsValid-written

pub returns-clause-failed_write : goal.returns-clause-failed_write
returns-clause-failed_write c = IsValid-failed

pub returns-clause-sync : goal.returns-clause-sync
returns-clause-sync c = IsValid-synced

pub returns-clause-crash : goal.returns-clause-crash
returns-clause-crash c = IsValid-crashed
