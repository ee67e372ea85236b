use Rattle.std.proofs.Common.{◌≡◌, take, refl, ◌∙◌}
use Rattle.model_log.specs.{place_in}
use Rattle.model_log.proofs.Checkpoints.{checkpoint_fields, checkpoint_text-from}
use Rattle.redo_header.proofs.checkpoint.fill_ckpt.Goals as goal

pub returns : goal.returns
unfolding checkpoint_fields
returns c =
    let layout = c.args.layout.now in
    let joined : take c.put-at-4.result c.put-at-4.new.sector ≡ checkpoint_fields c.args.number c.args.lsn (place_in layout c.args.lsn)
    = rw (c.put-at-4.ensures.front, c.put-at-3.ensures.front, c.put-at-2.ensures.front, c.put-at.ensures.front, c.to_be_bytes.ensures, c.to_be_bytes-2.ensures, c.to_be_bytes-3.ensures, c.to_be_bytes-4.ensures, c.offset_of.ensures) refl in
    c.seal.ensures ∙ checkpoint_text-from c.args.number c.args.lsn layout _ joined
