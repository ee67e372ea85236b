-- Draws, one on: of n things that are drawn i are done.
use Rattle.std.proofs.Common.{ℕ, suc, ◌≡◌, ◌≢◌, ◌+◌, ◌-◌, ◌%◌, ◌<◌, ◌≤◌, List, [], ◌∷◌, ◌++◌, refl, ap, sym, ◌∙◌, append_assoc, append-nil, arith}
use Rattle.std.proofs.lemmas.Bool.{ne_eqb}
use Rattle.std.proofs.lemmas.Bool.Decides.{nat_tests}
use Rattle.model_script.specs.{draw, drawn_bytes, drawn_item, drawn_items, drawn_kind, drawn_length, drawn_line, drawn_lines, drawn_offset, drawn_page, item_draws, next_state, script_line_text, script_text, state_after, state_after_items, state_after_line}
use Rattle.model_script.specs.declared.item.Item.{Item}
use Rattle.model_script.specs.declared.item.Item.TheVariants.{Text}
use Rattle.model_script.specs.declared.script.ScriptLine.{ScriptLine}

one_left : (n i : ℕ) → i < n → n - i ≡ suc (n - (i + 1))
one_left n i below = omega arith

none_left : (n i : ℕ) → n ≤ i → n - i ≡ 0
none_left n i over = omega arith

pub state_after_step : (n i state : ℕ) → i < n → state_after (n - (i + 1)) (next_state state) ≡ state_after (n - i) state
state_after_step n i state below = rw (one_left n i below) refl

pub state_after_end : (n i state : ℕ) → n ≤ i → state_after (n - i) state ≡ state
state_after_end n i state over = rw (none_left n i over) refl

pub bytes_at_step : (done : List ℕ) (n i state : ℕ) → i < n → (done ++ (draw 1 state % 256) ∷ []) ++ drawn_bytes (n - (i + 1)) (next_state state) ≡ done ++ drawn_bytes (n - i) state
bytes_at_step done n i state below =
    rw (one_left n i below) (append_assoc done ((draw 1 state % 256) ∷ []) (drawn_bytes (n - (i + 1)) (next_state state)))

pub bytes_at_end : (done : List ℕ) (n i state : ℕ) → n ≤ i → done ++ drawn_bytes (n - i) state ≡ done
bytes_at_end done n i state over = rw (none_left n i over) (append-nil done)

pub ruleset bytes = (state_after_step, state_after_end, bytes_at_step, bytes_at_end)

-- the state after the bytes of a string
pub state_after-length : (n state : ℕ) → state_after n (state_after 4 state) ≡ state_after (4 + n) state
state_after-length n state = let e : 4 + n ≡ suc (suc (suc (suc n))) = omega arith in rw e refl

pub ruleset operations = (state_after-length, nat_tests)

-- the kind that is none of the others
pub item_at_text : (state page offset : ℕ) (text : List ℕ) → drawn_kind state ≢ 5 → drawn_kind state ≢ 0 → drawn_kind state ≢ 1 → drawn_kind state ≢ 2 → drawn_kind state ≢ 3
    → page ≡ drawn_page state → offset ≡ drawn_offset state → text ≡ drawn_bytes (drawn_length state) (state_after 4 state) → Text page offset text ≡ drawn_item state
item_at_text state page offset text five zero one two three page_is offset_is text_is =
    let kind = drawn_kind state in
    rw (ne_eqb kind 5 five, ne_eqb kind 0 zero, ne_eqb kind 1 one, ne_eqb kind 2 two, ne_eqb kind 3 three, page_is, offset_is, text_is) refl

pub state_after_items_step : (n i state : ℕ) → i < n → state_after_items (n - (i + 1)) (state_after (item_draws state) state) ≡ state_after_items (n - i) state
state_after_items_step n i state below = rw (one_left n i below) refl

pub state_after_items_end : (n i state : ℕ) → n ≤ i → state_after_items (n - i) state ≡ state
state_after_items_end n i state over = rw (none_left n i over) refl

pub items_at_step : (done : List Item) (n i state : ℕ) → i < n → (done ++ drawn_item state ∷ []) ++ drawn_items (n - (i + 1)) (state_after (item_draws state) state) ≡ done ++ drawn_items (n - i) state
items_at_step done n i state below =
    rw (one_left n i below) (append_assoc done (drawn_item state ∷ []) (drawn_items (n - (i + 1)) (state_after (item_draws state) state)))

pub items_at_end : (done : List Item) (n i state : ℕ) → n ≤ i → done ++ drawn_items (n - i) state ≡ done
items_at_end done n i state over = rw (none_left n i over) (append-nil done)

pub ruleset items = (state_after_items_step, state_after_items_end, items_at_step, items_at_end)

-- a line, and those that are left
pub some_lines_step : (done : List ScriptLine) (users n i state : ℕ) → i < n
    → (done ++ drawn_line (1 + i % users) state ∷ []) ++ drawn_lines users (i + 1) (n - (i + 1)) (state_after_line state)
    ≡ done ++ drawn_lines users i (n - i) state
some_lines_step done users n i state below =
    rw (one_left n i below) (append_assoc done (drawn_line (1 + i % users) state ∷ []) (drawn_lines users (i + 1) (n - (i + 1)) (state_after_line state)))

pub some_lines_end : (done : List ScriptLine) (users n i state : ℕ) → n ≤ i → done ++ drawn_lines users i (n - i) state ≡ done
some_lines_end done users n i state over = rw (none_left n i over) (append-nil done)

pub ruleset scripts = (some_lines_step, some_lines_end)

-- the text of a line, its line feed and those of the lines that are left
pub lines_at_step : (done : List ℕ) (users n i state : ℕ) → i < n
    → ((done ++ script_line_text (drawn_line (1 + i % users) state)) ++ 10 ∷ []) ++ script_text (drawn_lines users (i + 1) (n - (i + 1)) (state_after_line state))
    ≡ done ++ script_text (drawn_lines users i (n - i) state)
unfolding script_text
lines_at_step done users n i state below =
    let line = script_line_text (drawn_line (1 + i % users) state) in
    let others = script_text (drawn_lines users (i + 1) (n - (i + 1)) (state_after_line state)) in
    rw (one_left n i below) (append_assoc (done ++ line) (10 ∷ []) others ∙ append_assoc done line (10 ∷ others) ∙ ap (λ text. done ++ text) (sym (append_assoc line (10 ∷ []) others)))

pub lines_at_end : (done : List ℕ) (users n i state : ℕ) → n ≤ i → done ++ script_text (drawn_lines users i (n - i) state) ≡ done
unfolding script_text
lines_at_end done users n i state over = rw (none_left n i over) (append-nil done)

pub ruleset lines = (lines_at_step, lines_at_end)
