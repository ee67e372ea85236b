use Rattle.redo_crc.proofs.Sectors.{with_checksum-by_steps}
use Rattle.redo_crc.proofs.sector.seal.Goals as goal

pub returns : goal.returns
returns c =
    with_checksum-by_steps c.args.sector.now c.fill.new.self c.put.new.sector c.to_be_bytes.result c.args.at c.crc32c-checksum.result
    c.requires c.told-sector (c.fill.ensures.after (λ y same. same)) c.crc32c-checksum.ensures c.to_be_bytes.ensures c.put.array_long c.put.result c.put.ensures.next c.put.ensures.front
