use Rattle.redo_memdisk.proofs.Applied.{HasSize-sectors}
use Rattle.redo_memdisk.proofs.memory.MemDiskSectors.len.Goals as goal

pub returns-clause-told : goal.returns-clause-told
returns-clause-told c = rw (← c.self.view_is) (HasSize-sectors c.self.inside.medium.base.items c.self.inside.medium.pending.items c.self.invariant.0)
