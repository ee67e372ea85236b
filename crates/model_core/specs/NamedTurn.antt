-- What an Op leaves of the words by name, and its answer.
use Rattle.std.specs.Prelude.{Bool, List, None, cond, slice_index, slice_set, ℕ, ◌%◌, ◌+◌, ◌<◌, ◌==◌}
use Rattle.model_core.specs.Program.{Listed, oldest_end, list_answer}
use Rattle.model_core.specs.Layout.{SharedWords}
use Rattle.model_core.specs.NamedWords.{IsWord, read, wrote}
use Rattle.model_core.specs.declared.ops.Answer.{Answer}
use Rattle.model_core.specs.declared.ops.Op.{Op}
use Rattle.model_core.specs.declared.ops.Op.TheVariants as op
use Rattle.model_core.specs.declared.ops.Answer.TheVariants as answer
use Rattle.model_core.specs.declared.limits.TheConstants.{FLUSH_LISTS}
use Rattle.model_core.specs.declared.words.Layout.{Layout}

-- an Op on a word, over the words by name
abbrev pub after : Op → SharedWords → SharedWords
after (op.Store w x) m = wrote m w x
after (op.Add w k) m = wrote m w (read m w + k)
after (op.Swap w a b) m = cond (read m w == a) (wrote m w b) m
after _ m = m

-- what stood in its word
abbrev pub found : Op → SharedWords → ℕ
found (op.Load w) m = read m w
found (op.Store w x) m = read m w
found (op.Add w k) m = read m w
found (op.Swap w a b) m = read m w
found _ m = 0

-- the Op is one on a word
abbrev pub OnWord : Op → Type 0
OnWord (op.Load w) = Unit {0}
OnWord (op.Store w x) = Unit {0}
OnWord (op.Add w k) = Unit {0}
OnWord (op.Swap w a b) = Unit {0}
OnWord _ = ⊥

-- the words and lists that it names are those of the store
abbrev pub OpWords : Layout → Op → Type 0
OpWords layout (op.Load w) = IsWord layout w
OpWords layout (op.Store w x) = IsWord layout w
OpWords layout (op.Add w k) = IsWord layout w
OpWords layout (op.Swap w a b) = IsWord layout w
OpWords layout (op.TakeOldest i) = i < FLUSH_LISTS
OpWords layout (op.GiveList i) = i < FLUSH_LISTS
OpWords layout _ = Unit {0}

-- the words by name after any Op
abbrev pub shared_left : SharedWords → Op → SharedWords
shared_left m op.TakeDevice = cond (m.device == 0) (record m { device = 1 }) m
shared_left m op.GiveDevice = record m { device = 0 }
shared_left m (op.TakeAdd p x) = cond (slice_index m.lists (p % FLUSH_LISTS) == 0) (record m { lists = slice_set m.lists (p % FLUSH_LISTS) 1 }) m
shared_left m (op.TakeRemove p) = cond (slice_index m.lists (p % FLUSH_LISTS) == 0) (record m { lists = slice_set m.lists (p % FLUSH_LISTS) 1 }) m
shared_left m (op.TakeOldest i) = cond (slice_index m.lists i == 0) (record m { lists = slice_set m.lists i 1 }) m
shared_left m (op.GiveList i) = record m { lists = slice_set m.lists i 0 }
shared_left m o = after o m

-- Its answer: `broken` is whether the part has failed, `code` how a device call ended (0 for Ok), `mark` the part's stable mark
-- after it.
abbrev pub shared_answer : (ℕ → List Listed) → Bool → ℕ → ℕ → SharedWords → Op → Answer
shared_answer ls broken code mark m op.TakeDevice = cond (m.device == 0) (cond broken answer.Broken (answer.Taken None)) answer.Held
shared_answer ls broken code mark m op.GiveDevice = answer.Taken None
shared_answer ls broken code mark m (op.TakeAdd p x) = list_answer (slice_index m.lists (p % FLUSH_LISTS)) None
shared_answer ls broken code mark m (op.TakeRemove p) = list_answer (slice_index m.lists (p % FLUSH_LISTS)) None
shared_answer ls broken code mark m (op.TakeOldest i) = list_answer (slice_index m.lists i) (oldest_end (ls i))
shared_answer ls broken code mark m (op.GiveList i) = answer.Taken None
shared_answer ls broken code mark m (op.Checkpoint x) = cond (code == 0) (answer.Called 0) (answer.Failed code)
shared_answer ls broken code mark m (op.ReadBlock b) = cond (code == 0) (answer.Called 0) (answer.Failed code)
shared_answer ls broken code mark m op.WriteBatch = cond (code == 0) (answer.Called 0) (answer.Failed code)
shared_answer ls broken code mark m (op.Append x) = cond (code == 0) (answer.Called 0) (answer.Failed code)
shared_answer ls broken code mark m (op.WriteTo t) = cond (code == 0) (answer.Called 0) (answer.Failed code)
shared_answer ls broken code mark m op.Sync = cond (code == 0) (answer.Called mark) (answer.Failed code)
shared_answer ls broken code mark m op.Rest = answer.Rested
shared_answer ls broken code mark m o = answer.Old (found o m)
