-- The lines of a generated script are in their ranges.
use Rattle.std.proofs.Common.{ℕ, zero, suc, ◌≡◌, ◌≢◌, ◌==◌, ◌+◌, ◌%◌, ◌^◌, ◌<◌, ◌≤◌, inl, inr, Bool, true, false, [], length, Ok, refl, ap, arith}
use Rattle.std.specs.Prelude.{if◌then◌else◌}
use Rattle.std.specs.List.{All, AllByRecursion}
use Rattle.std.proofs.lemmas.List.Elements.{All-cons, All-nil}
use Rattle.model_log.specs.{IsByte, IsWidth}
use Rattle.model_script.specs.{draw, drawn_bytes, drawn_count, drawn_item, drawn_items, drawn_kind, drawn_length, drawn_line, drawn_lines, drawn_offset, drawn_page, first_state, generated_lines, generated_text, IsInRange, IsScriptLine, item_draws, next_state, script_of, state_after, state_after_line}
use Rattle.model_script.specs.declared.item.Item.{Item}
use Rattle.model_script.specs.declared.item.Item.TheVariants.{Num, Text, Init}
use Rattle.model_script.specs.declared.misfit.TheConstants.{MAX_USERS}
use Rattle.redo_script.proofs.PrintedLines.{IsMode}
use Rattle.redo_script.proofs.PrintedScripts.{script_of-text}

either_ranged : (first : Bool) (item other : Item) → IsInRange item → IsInRange other
    → IsInRange (if first then item else other)
either_ranged true item other ranged otherwise = ranged
either_ranged false item other ranged otherwise = otherwise

-- a draw has 15 bits
draw_small : (state : ℕ) → draw 1 state < 2 ^ 15
draw_small state = omega arith

length-bytes_at : (n state : ℕ) → length (drawn_bytes n state) ≡ n
length-bytes_at zero state = refl
length-bytes_at (suc n) state = ap (λ n. suc n) (length-bytes_at n (next_state state))

bytes_are : (n state : ℕ) → All IsByte (drawn_bytes n state)
bytes_are zero state = All-nil IsByte
bytes_are (suc n) state =
    let others = bytes_are n (next_state state) in
    All-cons IsByte (draw 1 state % 256) (drawn_bytes n (next_state state)) (omega arith) others

number_ranged : (state width value : ℕ) → IsWidth width → value < 256 ^ width
    → IsInRange (Num width (drawn_page state) (drawn_offset state) value)
number_ranged state width value is below = (is, omega arith, omega arith, below)

text_ranged : (state : ℕ)
    → IsInRange (Text (drawn_page state) (drawn_offset state) (drawn_bytes (drawn_length state) (state_after 4 state)))
text_ranged state =
    let long = length-bytes_at (drawn_length state) (state_after 4 state) in
    (omega arith, omega arith, omega (arith, long), bytes_are (drawn_length state) (state_after 4 state))

init_ranged : (state : ℕ) → IsInRange (Init (drawn_page state))
init_ranged state = omega arith

item_ranged : (state : ℕ) → IsInRange (drawn_item state)
item_ranged state =
    let small : draw 4 state < 2 ^ 15 = draw_small (next_state (next_state (next_state state))) in
    either_ranged (drawn_kind state == 5) _ _ (init_ranged state)
    (either_ranged (drawn_kind state == 0) _ _ (number_ranged state 1 (draw 4 state % 256) (inl refl) (omega arith))
    (either_ranged (drawn_kind state == 1) _ _ (number_ranged state 2 (draw 4 state) (inr (inl refl)) (omega (arith, small)))
    (either_ranged (drawn_kind state == 2) _ _ (number_ranged state 4 (draw 4 state) (inr (inr (inl refl))) (omega (arith, small)))
    (either_ranged (drawn_kind state == 3) _ _ (number_ranged state 8 (draw 4 state) (inr (inr (inr refl))) (omega (arith, small)))
    (text_ranged state)))))

items_ranged : (n state : ℕ) → AllByRecursion IsInRange (drawn_items n state)
items_ranged zero state = tt
items_ranged (suc n) state = (item_ranged state, items_ranged n (state_after (item_draws state) state))

some_items : (n state : ℕ) → 1 ≤ n → drawn_items n state ≢ []
some_items zero state some = absurd (omega arith)
some_items (suc n) state some = λ none. cc

mode_is : (flushed written : Bool) → IsMode (if flushed then 1 else (if written then 2 else 0))
mode_is true written = inl refl
mode_is false true = inr (inl refl)
mode_is false false = inr (inr refl)

line_ranged : (user state : ℕ) → user < 2 ^ 32 → IsScriptLine (drawn_line user state)
line_ranged user state small = record {
  user = small;
  mode = mode_is (draw 1 state % 3 == 0) (draw 1 state % 3 == 1);
  some = some_items (drawn_count state) (state_after 2 state) (omega arith);
  each = items_ranged (drawn_count state) (state_after 2 state);
}

lines_ranged : (users j count state : ℕ) → 1 ≤ users → users ≤ MAX_USERS
    → AllByRecursion IsScriptLine (drawn_lines users j count state)
lines_ranged users j zero state some few = tt
lines_ranged users j (suc count) state some few =
    (line_ranged (1 + j % users) state (omega arith), lines_ranged users (j + 1) count (state_after_line state) some few)

pub generated_lines-ranged : (seed users groups : ℕ) → 1 ≤ users → users ≤ MAX_USERS
    → AllByRecursion IsScriptLine (generated_lines seed users groups)
unfolding generated_lines
generated_lines-ranged seed users groups some few = lines_ranged users 0 groups (first_state seed) some few

pub script_of-generated_text : (seed users groups : ℕ) → 1 ≤ users → users ≤ MAX_USERS
    → script_of (generated_text seed users groups) ≡ Ok (generated_lines seed users groups)
unfolding generated_text generated_lines
script_of-generated_text seed users groups some few =
    script_of-text (drawn_lines users 0 groups (first_state seed)) (lines_ranged users 0 groups (first_state seed) some few)
