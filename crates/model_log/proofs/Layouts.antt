-- The layout of a store whose number of log blocks is within the limits.
use Rattle.std.proofs.Common.{◌≤◌, arith}
use Rattle.model_base.specs.declared.shape.Shape.{Shape}
use Rattle.model_base.specs.declared.limits.TheConstants.{MAX_LOG_BLOCKS, MIN_LOG_BLOCKS}
use Rattle.model_log.specs.Device.{layout_of}
use Rattle.model_log.specs.Ring.{IsLayout}
use Rattle.model_log.specs.declared.head.Format.{Format}
use Rattle.model_log.specs.declared.head.Format.TheVariants.{One, Two, Three}
use Rattle.model_log.specs.declared.layout.Layout.{Layout}
use Rattle.model_log.proofs.Places.{HasBlocks}

pub is_layout_of : (format : Format) (shape : Shape) → MIN_LOG_BLOCKS ≤ shape.log_blocks → shape.log_blocks ≤ MAX_LOG_BLOCKS → IsLayout (layout_of format shape)
is_layout_of One shape many few = record { after_header = omega arith; few_before = omega arith; many_blocks = omega arith; few_blocks = omega arith }
is_layout_of Two shape many few = record { after_header = omega arith; few_before = omega arith; many_blocks = omega arith; few_blocks = omega arith }
is_layout_of Three shape many few = record { after_header = omega arith; few_before = omega arith; many_blocks = omega arith; few_blocks = omega arith }

-- such a layout has blocks
pub has-blocks : (layout : Layout) → IsLayout layout → HasBlocks layout
has-blocks layout is_layout = record {
  some = omega (arith, is_layout.many_blocks);
  few = omega (arith, is_layout.few_blocks);
}
