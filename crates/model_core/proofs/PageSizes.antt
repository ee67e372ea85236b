-- A page is of whole words, so that its frame has room for it.
use Rattle.std.proofs.Common.{arith, ℕ, ◌%◌, ◌*◌, ◌≡◌}
use Rattle.model_base.proofs.ShapeLimits.{page_size_facts}
use Rattle.model_base.specs.{IsPageSize}
use Rattle.model_core.specs.declared.limits.TheConstants.{WORD_LANES}
use Rattle.model_core.specs.Layout.{frame_words}

pub whole_words : (n : ℕ) → IsPageSize n → n % WORD_LANES ≡ 0
whole_words n size = let s = (page_size_facts n size).sectors in omega arith

pub frame_fills : (n : ℕ) → IsPageSize n → 8 * frame_words n ≡ n
frame_fills n size = let w = whole_words n size in omega arith
