-- The page size is one that a page may have, and there is room for each byte of a batch.
use Rattle.std.proofs.Common.{arith, rules}
use Rattle.model_base.proofs.ShapeLimits.{slots_within, whole_sectors}
use Rattle.redo_pageactors.proofs.cleaner.Cleaner.new.Goals as goal

pub overflow_sub-page : goal.overflow_sub-page
overflow_sub-page c = let size = whole_sectors c.args.shape.now c.requires in omega arith

pub invariant_of-result : goal.invariant_of-result
invariant_of-result c = let size = whole_sectors c.args.shape.now c.requires in record {
  page = omega arith;
  page_size = size;
  some_slots = (slots_within c.args.shape.now c.requires).some;
  kept = search rules;
  batch = search rules;
  users = search rules;
  rims = search rules;
  kept_room = omega (arith, c.in_ok-kept.ensures.capacity);
  batch_room = omega (arith, c.in_ok-batch.ensures.capacity);
  users_room = omega (arith, c.in_ok-users.ensures.capacity);
  rims_room = omega (arith, c.in_ok-rims.ensures.capacity);
  step = tt;
}
