-- How many Ops a user has to go up to the store of its group's link, where none of them waits and the link has room at once.
use Rattle.std.specs.Prelude.{Bool, cond, false, length, nat_lt, suc, true, zero, ℕ, ◌%◌, ◌*◌, ◌+◌, ◌-◌, ◌/◌, ◌==◌}
use Rattle.model_core.specs.{copy_place, group_bytes, group_end, lsn, UserState}
use Rattle.model_core.specs.declared.limits.TheConstants.{WORD_LANES}
use Rattle.model_core.specs.declared.steps.UserStep.{UserStep}
use Rattle.model_core.specs.declared.steps.UserStep.TheVariants as user_step
use Rattle.model_log.specs.declared.layout.TheConstants.{BLOCK_DATA, BLOCK_HEADER}

-- 1 where the group ends in another block than it starts in: its first offset is stored
abbrev pub first_stores : UserState → ℕ
first_stores u = cond (nat_lt (u.start / BLOCK_DATA) (group_end u / BLOCK_DATA)) 1 0

-- the number of a place's word among those that have bytes of the stream: of each block all but the first, which holds the
-- header alone
abbrev pub data_word : ℕ → ℕ
data_word x = x / BLOCK_DATA * 63 + (x % BLOCK_DATA + BLOCK_HEADER % WORD_LANES) / WORD_LANES

-- in how many words of the log buffer a byte of the stream and so many after it stand: so many different lsns / 8 they have
unfoldable pub words_spanned : ℕ → ℕ → ℕ
words_spanned x zero = 1
words_spanned x (suc n) = words_spanned x n + cond (lsn (x + n) / WORD_LANES == lsn (x + n + 1) / WORD_LANES) 0 1

-- how many words those of its bytes fill that aren't copied
abbrev pub words_to_copy : UserState → ℕ
words_to_copy u = words_spanned (copy_place u) (length (group_bytes u) - u.copied - 1)

abbrev pub to_link_at : UserState → UserStep → ℕ
to_link_at u user_step.LoadWrite = words_to_copy u + first_stores u + 3
to_link_at u user_step.AddCell = words_to_copy u + first_stores u + 2
to_link_at u user_step.StoreFirst = 3
to_link_at u user_step.LoadWtail = 2
to_link_at u (user_step.AdvanceWritten s) = 2
to_link_at u user_step.ReloadWtail = 2
to_link_at u user_step.StoreLink = 1
to_link_at u _ = 0

abbrev pub to_link : UserState → ℕ
to_link u = to_link_at u u.step

-- it has found no room in the recent-written buffer, and advances the tail
abbrev pub lacks_room_at : UserStep → Bool
lacks_room_at (user_step.AdvanceWritten s) = true
lacks_room_at user_step.ReloadWtail = true
lacks_room_at _ = false

abbrev pub lacks_room : UserState → Bool
lacks_room u = lacks_room_at u.step

-- how many Ops a group takes from its reservation to its link: four, one for each word that its bytes fill, and one where
-- its first offset is stored
abbrev pub linking_steps : UserState → ℕ
linking_steps u = words_spanned u.start (length (group_bytes u) - 1) + 4 + first_stores u
