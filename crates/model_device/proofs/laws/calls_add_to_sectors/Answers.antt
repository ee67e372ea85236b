use Rattle.model_device.proofs.MayHold.{adds-failed, adds-written, one-sector, synced-holds, written-keeps, written-puts}
use Rattle.model_device.proofs.laws.calls_add_to_sectors.Goals as goal

pub returns-clause-adds : goal.returns-clause-adds
returns-clause-adds c = λ disk write. adds-written write disk

pub returns-clause-keeps : goal.returns-clause-keeps
returns-clause-keeps c = λ disk write. written-keeps write disk

pub returns-clause-puts : goal.returns-clause-puts
returns-clause-puts c = λ disk write. written-puts write disk

pub returns-clause-failed : goal.returns-clause-failed
returns-clause-failed c = λ old new write. adds-failed write old new

pub returns-clause-synced : goal.returns-clause-synced
returns-clause-synced c = synced-holds

pub returns-clause-one_image : goal.returns-clause-one_image
returns-clause-one_image c = λ disk k bytes valid one. one-sector disk k bytes one valid.reads
