-- The script that `gen` prints: a function of a seed, the number of users and the number of groups.
use Rattle.std.specs.Prelude.{ℕ, zero, suc, ◌+◌, ◌*◌, ◌/◌, ◌%◌, ◌^◌, ◌==◌, nat_lt, if◌then◌else◌, List, [], ◌∷◌}
use Rattle.model_script.specs.Grammar.{script_text}
use Rattle.model_script.specs.declared.item.Item.{Item}
use Rattle.model_script.specs.declared.item.Item.TheVariants.{Num, Text, Init}
use Rattle.model_script.specs.declared.script.ScriptLine.{ScriptLine}

-- A seed's states: the linear congruential generator of the C standard's example, without its unsigned overflow.
abbrev pub first_state : ℕ → ℕ
first_state seed = seed % 2 ^ 31

abbrev pub next_state : ℕ → ℕ
next_state state = (state * 1103515245 + 12345) % 2 ^ 31

-- the state so many draws on
abbrev pub state_after : ℕ → ℕ → ℕ
state_after zero state = state
state_after (suc n) state = state_after n (next_state state)

-- the n-th draw from a state on, counted from 1: the upper bits of the n-th next state
abbrev pub draw : ℕ → ℕ → ℕ
draw n state = state_after n state / 65536

-- Draws in order: an operation's kind and page; for all but `i` its offset; for a number its value; for a string its
-- length and then its bytes. All of these are told by the state before the operation.
abbrev pub drawn_kind : ℕ → ℕ
drawn_kind state = draw 1 state % 6

abbrev pub drawn_page : ℕ → ℕ
drawn_page state = draw 2 state % 8

abbrev pub drawn_offset : ℕ → ℕ
drawn_offset state = 38 + draw 3 state % 4000

abbrev pub drawn_length : ℕ → ℕ
drawn_length state = 1 + draw 4 state % 40

-- so many bytes, a draw each
abbrev pub drawn_bytes : ℕ → ℕ → List ℕ
drawn_bytes zero state = []
drawn_bytes (suc n) state = draw 1 state % 256 ∷ drawn_bytes n (next_state state)

-- kinds 0 to 3 are b1, b2, b4 and b8; 5 is i, and 4 is s
abbrev pub drawn_item : ℕ → Item
drawn_item state =
    if drawn_kind state == 5 then Init (drawn_page state)
    else (if drawn_kind state == 0 then Num 1 (drawn_page state) (drawn_offset state) (draw 4 state % 256)
    else (if drawn_kind state == 1 then Num 2 (drawn_page state) (drawn_offset state) (draw 4 state)
    else (if drawn_kind state == 2 then Num 4 (drawn_page state) (drawn_offset state) (draw 4 state)
    else (if drawn_kind state == 3 then Num 8 (drawn_page state) (drawn_offset state) (draw 4 state)
    else Text (drawn_page state) (drawn_offset state) (drawn_bytes (drawn_length state) (state_after 4 state))))))

-- how many draws the operation takes
abbrev pub item_draws : ℕ → ℕ
item_draws state = if drawn_kind state == 5 then 2 else (if nat_lt (drawn_kind state) 4 then 4 else 4 + drawn_length state)

-- so many operations
abbrev pub drawn_items : ℕ → ℕ → List Item
drawn_items zero state = []
drawn_items (suc n) state = drawn_item state ∷ drawn_items n (state_after (item_draws state) state)

-- the state after so many operations
abbrev pub state_after_items : ℕ → ℕ → ℕ
state_after_items zero state = state
state_after_items (suc n) state = state_after_items n (state_after (item_draws state) state)

-- A line's draws: its mode, where 0 is f, 1 is w and 2 is n; how many operations it has; then these.
abbrev pub drawn_mode : ℕ → ℕ
drawn_mode state = if draw 1 state % 3 == 0 then 1 else (if draw 1 state % 3 == 1 then 2 else 0)

abbrev pub drawn_count : ℕ → ℕ
drawn_count state = 1 + draw 2 state % 3

abbrev pub drawn_line : ℕ → ℕ → ScriptLine
drawn_line user state = record { user = user; mode = drawn_mode state; items = drawn_items (drawn_count state) (state_after 2 state) }

abbrev pub state_after_line : ℕ → ℕ
state_after_line state = state_after_items (drawn_count state) (state_after 2 state)

-- so many lines, of which the first has the number j; the users take turns
abbrev pub drawn_lines : (users j count state : ℕ) → List ScriptLine
drawn_lines users j zero state = []
drawn_lines users j (suc count) state = drawn_line (1 + j % users) state ∷ drawn_lines users (j + 1) count (state_after_line state)

unfoldable pub generated_lines : (seed users groups : ℕ) → List ScriptLine
generated_lines seed users groups = drawn_lines users 0 groups (first_state seed)

-- The text that `gen` prints.
unfoldable pub generated_text : (seed users groups : ℕ) → List ℕ
generated_text seed users groups = script_text (generated_lines seed users groups)
