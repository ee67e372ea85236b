use Rattle.redo_memdisk.proofs.Filed.{replay-size}
use Rattle.redo_memdisk.proofs.file.FileDiskSectors.len.Goals as goal

pub returns-clause-told : goal.returns-clause-told
returns-clause-told g c = replay-size g.S.Contents.bytes c.args.self.now.calls.notes
