use Rattle.std.proofs.Common.{◌≡◌, take, refl, ◌∙◌}
use Rattle.model_archive.proofs.RoundTrips.{archive_head_fields, archive_head_text-from}
use Rattle.redo_archive.proofs.head.fill_archive_head.Goals as goal

pub returns : goal.returns
unfolding archive_head_fields
returns c =
    let joined : take c.put-at-9.result c.put-at-9.new.sector ≡ archive_head_fields c.args.start c.args.shape.now
    = rw (
      c.put-at-9.ensures.front,
      c.put-at-8.ensures.front,
      c.put-at-7.ensures.front,
      c.put-at-6.ensures.front,
      c.put-at-5.ensures.front,
      c.put-at-4.ensures.front,
      c.put-at-3.ensures.front,
      c.put-at-2.ensures.front,
      c.put-at.ensures.front,
      c.to_be_bytes.ensures,
      c.to_be_bytes-2.ensures,
      c.to_be_bytes-3.ensures,
      c.to_be_bytes-4.ensures,
      c.to_be_bytes-5.ensures,
      c.to_be_bytes-6.ensures,
      c.to_be_bytes-7.ensures,
      c.to_be_bytes-8.ensures,
    ) refl in
    c.seal.ensures ∙ archive_head_text-from c.args.start c.args.shape.now _ joined
