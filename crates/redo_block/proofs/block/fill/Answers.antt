use Rattle.std.proofs.Common.{◌≡◌, ◌++◌, length, take, refl, ◌∙◌}
use Rattle.std.specs.Int.{bytes_high_first}
use Rattle.model_log.specs.{block_number, length_of}
use Rattle.model_log.proofs.Blocks.{block_text-from}
use Rattle.redo_block.proofs.block.fill.Goals as goal

pub returns : goal.returns
returns c =
    let content = c.args.bytes.now in
    let joined : take c.put-at-5.result c.put-at-5.new.sector
    ≡ bytes_high_first 4 (block_number c.args.lsn) ++ bytes_high_first 2 (length_of (length content)) ++ bytes_high_first 2 c.args.first ++ bytes_high_first 4 c.args.ckpt ++ content
    = rw (c.put-at-5.ensures.front, c.put-at-4.ensures.front, c.put-at-3.ensures.front, c.put-at-2.ensures.front, c.put-at.ensures.front, c.to_be_bytes.ensures, c.to_be_bytes-2.ensures, c.to_be_bytes-3.ensures, c.to_be_bytes-4.ensures, c.number_of.ensures, c.length_of.ensures) refl in
    c.seal.ensures ∙ block_text-from c.args.lsn content c.args.first c.args.ckpt _ joined
