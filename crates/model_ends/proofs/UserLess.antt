-- What a user has left to do after the ends of its lines, links and pages.
use Rattle.std.proofs.Common.{Bool, List, [], ap, arith, cond, drop, eq-eqb, eqb, false, length, refl, suc, true, ℕ, ◌*◌, ◌+◌, ◌<◌, ◌==◌, ◌∙◌, ◌∷◌, ◌≡◌, ◌≤◌}
use Rattle.std.proofs.lemmas.Bool.{eqb-false}
use Rattle.std.proofs.lemmas.List.{drop_more}
use Rattle.model_core.specs.{after_link, answered, cells_of, change_at, changes, frame_count, frame_word, is_whole, Line, line_at, mode, PageChange, to_next_page, UserState, word_step, CellWrite}
use Rattle.model_core.specs.UserProgram.{same_word, with_close_room}
use Rattle.model_core.specs.declared.steps.AdvanceStep.{AdvanceStep}
use Rattle.model_ends.proofs.PageCost.{after_page, cells_left, from_pages, later_steps, line_steps, pages_steps, user_steps}
use Rattle.model_core.specs.declared.steps.AdvanceStep.TheVariants as advance_step
use Rattle.model_core.specs.declared.steps.UserStep.TheVariants as user_step

abbrev pub left : UserState → ℕ
left u = user_steps u u.step

pub lines_from : (lines : List Line) (k : ℕ) → k < length lines
    → line_steps (drop k lines) ≡ 16 + length (line_at lines k).bytes + 2 * length (line_at lines k).changes + pages_steps (line_at lines k).changes + line_steps (drop (k + 1) lines)
lines_from lines k h = ap line_steps (drop_more lines k (record { mode = 0; bytes = []; changes = [] }) h)

pub pages_from : (cs : List PageChange) (k : ℕ) → k < length cs → pages_steps (drop k cs) ≡ 7 + 2 * length (change_at cs k).cells + pages_steps (drop (k + 1) cs)
pages_from cs k h = ap pages_steps (drop_more cs k (record { page = 0; cells = [] }) h)

pages_all : (cs : List PageChange) (k : ℕ) → k ≡ 0 → pages_steps (drop k cs) ≡ pages_steps cs
pages_all cs k is = ap (λ (n : ℕ). pages_steps (drop n cs)) is ∙ by cs
  where
    by : (cs : List PageChange) → pages_steps (drop 0 cs) ≡ pages_steps cs
    by [] = refl
    by (x ∷ xs) = refl

-- the next line is no more than what is left after the one in hand
pub answered_less : (v : UserState) → v.k < length v.lines → left (answered v) ≤ later_steps v
answered_less v less = by (v.k + 1 == length v.lines) refl
  where
    by : (b : Bool) → (v.k + 1 == length v.lines) ≡ b → left (record v { k = v.k + 1; checks = cond b false true; step = cond b user_step.Done user_step.LoadCheckpoint }) ≤ later_steps v
    by true e = omega arith
    by false e = let ne = eqb-false (v.k + 1) (length v.lines) e in let more = lines_from v.lines (v.k + 1) (omega arith) in omega arith

pub linked_less : (v : UserState) → v.k < length v.lines → left (after_link v) ≤ later_steps v + 1
linked_less v less = by (mode v == 0)
  where
    by : (b : Bool) → left (cond b (answered v) (record v { step = user_step.AwaitMark })) ≤ later_steps v + 1
    by true = let z = answered_less v less in omega arith
    by false = omega arith

-- a word of a page, from a cell on
word_less : (w : UserState) (cells : List CellWrite) (i : ℕ) → user_steps w (word_step cells i) ≤ after_page w + 7 + cells_left w
word_less w cells i = by (is_whole cells i)
  where
    by : (b : Bool) → user_steps w (cond b user_step.StoreFrame user_step.LoadFrame) ≤ after_page w + 7 + cells_left w
    by true = omega arith
    by false = omega arith

newest_or : (w : UserState) (b : Bool) (cells : List CellWrite) (i : ℕ) → user_steps w (cond b user_step.StoreNewest (word_step cells i)) ≤ after_page w + 7 + cells_left w
newest_or w true cells i = omega arith
newest_or w false cells i = word_less w cells i

-- the next page
pub turned_less : (u : UserState) → u.page < length (changes u) → left (to_next_page u) ≤ after_page u
turned_less u less = by (u.page + 1 == length (changes u)) refl
  where
    by : (b : Bool) → (u.page + 1 == length (changes u)) ≡ b → left (record u { page = u.page + 1; cell = 0; step = cond b user_step.StoreClosedLink (cond (0 == length (change_at (changes u) (u.page + 1)).cells) user_step.StoreNewest (word_step (change_at (changes u) (u.page + 1)).cells 0)) }) ≤ after_page u
    by true e = omega arith
    by false e =
        let ne = eqb-false (u.page + 1) (length (changes u)) e in
        let more = pages_from (changes u) (u.page + 1) (omega arith) in
        let low = newest_or (record u { page = u.page + 1; cell = 0 }) (0 == length (change_at (changes u) (u.page + 1)).cells) (change_at (changes u) (u.page + 1)).cells 0 in
        omega arith

-- the first page, once the group may be closed
pub closing_less : (u : UserState) (n : ℕ) → u.page ≡ 0 → u.cell ≡ 0 → 0 < length (changes u) → left (with_close_room u n) ≤ from_pages u
closing_less u n page cell some =
    let all = pages_all (changes u) u.page page in
    let more = pages_from (changes u) u.page (omega arith) in
    let low = newest_or (with_close_room u n) (u.cell == length (cells_of u)) (cells_of u) u.cell in
    omega arith

-- a store of a frame's word has some of the cells
count_some : (u : UserState) → u.cell < length (cells_of u) → 0 < frame_count u
count_some u less =
    let rest : ℕ = same_word (frame_word u) (drop (u.cell + 1) (cells_of u)) in
    let is : frame_count u ≡ cond (eqb (frame_word u) (frame_word u)) (suc rest) 0 = ap (same_word (frame_word u)) (drop_more (cells_of u) u.cell (record { at = 0; value = 0 }) less) in
    let more : frame_count u ≡ suc rest = is ∙ ap (λ (b : Bool). cond b (suc rest) 0) (eq-eqb (frame_word u) (frame_word u) refl) in
    omega arith

pub stored_less : (u : UserState) → u.cell < length (cells_of u) → (b : Bool) → left (record u { cell = u.cell + frame_count u; word = 0; step = cond b user_step.StoreNewest (word_step (cells_of u) (u.cell + frame_count u)) }) < after_page u + 6 + cells_left u
stored_less u less true = omega arith
stored_less u less false =
    let some = count_some u less in
    let low = word_less (record u { cell = u.cell + frame_count u; word = 0 }) (cells_of u) (u.cell + frame_count u) in
    omega arith

-- after a step of an advance
pub advanced_less : (w : UserState) (b d : Bool) (r : AdvanceStep) → user_steps w (cond b user_step.LoadWtail (cond d user_step.ReloadWtail (user_step.AdvanceWritten r))) ≤ from_pages w + 7
advanced_less w true d r = omega arith
advanced_less w false true r = omega arith
advanced_less w false false advance_step.ClearLink = omega arith
advanced_less w false false _ = omega arith

pub closed_less : (w : UserState) (b d : Bool) (r : AdvanceStep) → user_steps w (cond b user_step.LoadCtail (cond d user_step.ReloadCtail (user_step.AdvanceClosed r))) ≤ from_pages w + 2
closed_less w true d r = omega arith
closed_less w false true r = omega arith
closed_less w false false advance_step.ClearLink = omega arith
closed_less w false false _ = omega arith
