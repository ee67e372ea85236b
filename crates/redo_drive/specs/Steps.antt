-- How many steps of an actor come to nothing.
use Rattle.std.specs.Prelude.{ℕ, ◌*◌, ◌+◌, ◌-◌}
use Rattle.model_core.specs.{frame_words}
use Rattle.model_core.specs.States as model
use Rattle.model_core.specs.declared.limits.TheConstants.{FLUSH_LISTS}

-- how many steps an actor takes at most from one wait to the next where it comes to nothing
abbrev pub steps_in_vain : model.Actor → ℕ
steps_in_vain (model.Cleaner v) = frame_words v.page_size - 1
steps_in_vain (model.Checkpointer t) = 2 + (t.last - t.first) + 2 * FLUSH_LISTS
steps_in_vain (model.Reader r) = 2
steps_in_vain _ = 5
