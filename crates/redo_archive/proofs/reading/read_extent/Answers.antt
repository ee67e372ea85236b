use Rattle.std.proofs.Common.{arith}
use Rattle.std.proofs.lemmas.Result.{err_from_is_err_and}
use Rattle.redo_disk.specs.{HasSize}
use Rattle.redo_disk.proofs.Told.{still-known}
use Rattle.redo_recover.proofs.Only.{only-one}
use Rattle.redo_archive.proofs.Heads.{device-extent, extent-is, front-of, long-missing, none-missing, short-missing}
use Rattle.redo_archive.proofs.Restores.{only-fault}
use Rattle.redo_archive.proofs.reading.read_extent.Goals as goal

pub returns-in_err-read-clause-reads : goal.returns-in_err-read-clause-reads
returns-in_err-read-clause-reads g c =
    let p = err_from_is_err_and c.from_residual.result c.from_residual.ensures.1 in
    rw (p.1, p.2) (only-fault _ _ _ (only-one _ _ _ _ _ _ _ c.in_err-read.ensures.step c.in_err-read.ensures.gives))

pub returns-in_err-read-clause-fault : goal.returns-in_err-read-clause-fault
returns-in_err-read-clause-fault g c =
    let p = err_from_is_err_and c.from_residual.result c.from_residual.ensures.1 in
    rw (p.1, p.2) (device-extent (g.A.Sectors.seen c.read.new.self).tells _)

pub returns-then-length-lt-ARCHIVE_HEADER-clause-fault : goal.returns-then-length-lt-ARCHIVE_HEADER-clause-fault
returns-then-length-lt-ARCHIVE_HEADER-clause-fault g c =
    let device = g.A.Sectors.seen c.args.device.now in
    short-missing device.tells device.size c.len-length.ensures.told
    (omega (arith, c.if-length-lt-ARCHIVE_HEADER.true, c.len-length.ensures.size))

pub returns-in_default-clause-fault : goal.returns-in_default-clause-fault
returns-in_default-clause-fault g c =
    let device = g.A.Sectors.seen c.args.device.now in
    let now = g.A.Sectors.seen c.read.new.self in
    let sized = still-known device.tells now.tells (HasSize device.size) c.in_ok-read.ensures.step.same
    c.len-length.ensures.told in
    none-missing now.tells device.size c.read.new.out
    (front-of now.tells device.size 1536 c.read.new.out sized c.in_ok-read.ensures.step.bytes)
    (omega (arith, c.if-length-lt-ARCHIVE_HEADER.false, c.len-length.ensures.size)) c.in_default.ensures.names

pub returns-in_default-clause-reads : goal.returns-in_default-clause-reads
returns-in_default-clause-reads g c = only-one _ _ _ _ _ _ _ c.in_ok-read.ensures.step c.in_ok-read.ensures.gives

pub returns-then-length-archive_length-clause-fault : goal.returns-then-length-archive_length-clause-fault
returns-then-length-archive_length-clause-fault g c =
    let device = g.A.Sectors.seen c.args.device.now in
    let now = g.A.Sectors.seen c.read.new.self in
    let sized = still-known device.tells now.tells (HasSize device.size) c.in_ok-read.ensures.step.same
    c.len-length.ensures.told in
    long-missing now.tells device.size c.read.new.out c.in-Some.extent
    (front-of now.tells device.size 1536 c.read.new.out sized c.in_ok-read.ensures.step.bytes)
    (omega (arith, c.if-length-lt-ARCHIVE_HEADER.false, c.len-length.ensures.size)) c.in-Some.ensures.names
    (omega (arith, c.if-length-archive_length.true, c.len-length.ensures.size, c.archive_length.ensures))

pub returns-then-length-archive_length-clause-reads : goal.returns-then-length-archive_length-clause-reads
returns-then-length-archive_length-clause-reads g c =
    only-one _ _ _ _ _ _ _ c.in_ok-read.ensures.step c.in_ok-read.ensures.gives

pub returns-clause-extent : goal.returns-clause-extent
returns-clause-extent g c =
    let device = g.A.Sectors.seen c.args.device.now in
    let now = g.A.Sectors.seen c.read.new.self in
    let sized = still-known device.tells now.tells (HasSize device.size) c.in_ok-read.ensures.step.same
    c.len-length.ensures.told in
    extent-is now.tells device.size c.read.new.out c.in-Some.extent
    (front-of now.tells device.size 1536 c.read.new.out sized c.in_ok-read.ensures.step.bytes)
    (omega (arith, c.if-length-lt-ARCHIVE_HEADER.false, c.len-length.ensures.size)) c.in-Some.ensures.names
    (omega (arith, c.if-length-archive_length.false, c.len-length.ensures.size, c.archive_length.ensures))

pub returns-clause-reads : goal.returns-clause-reads
returns-clause-reads g c = only-one _ _ _ _ _ _ _ c.in_ok-read.ensures.step c.in_ok-read.ensures.gives
