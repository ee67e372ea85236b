use Rattle.model_device.proofs.MayHold.{covered-stands, sector-stands}
use Rattle.model_device.proofs.laws.sectors_stand_in_images.Goals as goal

pub returns-clause-torn : goal.returns-clause-torn
returns-clause-torn c = λ disk k bytes valid. covered-stands disk k bytes valid.reads

pub returns-clause-whole : goal.returns-clause-whole
returns-clause-whole c = λ disk k bytes valid. sector-stands disk k bytes valid.reads
