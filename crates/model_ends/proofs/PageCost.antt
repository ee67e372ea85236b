-- What is left to do of a run with pages: of a user, and of the words and lists.
use Rattle.std.proofs.Common.{Bool, List, [], arith, cond, drop, eqb, length, refl, suc, zero, ℕ, ◌*◌, ◌+◌, ◌-◌, ◌<◌, ◌∷◌, ◌≡◌, ◌≤◌, false, true, length-append, ap}
use Rattle.std.specs.Prelude.{slice_set}
use Rattle.model_core.specs.{appended, cells_of, changes, group_bytes, Line, Listed, PageChange, PageWords, page_words_at, SharedWords, UserState, without}
use Rattle.model_core.specs.declared.steps.UserStep.{UserStep}
use Rattle.model_ends.proofs.Links.{links, one_if}
use Rattle.model_core.specs.declared.steps.AdvanceStep.TheVariants as advance_step
use Rattle.model_core.specs.declared.steps.UserStep.TheVariants as user_step

-- the steps of changed pages: of each cell two at most, and seven more
abbrev pub pages_steps : List PageChange → ℕ
pages_steps [] = 0
pages_steps (x ∷ xs) = 7 + 2 * length x.cells + pages_steps xs

-- the steps of lines, waits apart: of each byte and changed page, and 16 more
abbrev pub line_steps : List Line → ℕ
line_steps [] = 0
line_steps (l ∷ ls) = 16 + length l.bytes + 2 * length l.changes + pages_steps l.changes + line_steps ls

-- of the lines after the one in hand; from the store of the link of a closed group on; of the pages after the one in hand
abbrev pub later_steps : UserState → ℕ
later_steps u = line_steps (drop (u.k + 1) u.lines)

abbrev pub closing_steps : UserState → ℕ
closing_steps u = later_steps u + length (changes u) + 4

abbrev pub after_page : UserState → ℕ
after_page u = closing_steps u + pages_steps (drop (u.page + 1) (changes u))

-- from the first of its pages on
abbrev pub from_pages : UserState → ℕ
from_pages u = closing_steps u + pages_steps (changes u)

abbrev pub cells_left : UserState → ℕ
cells_left u = 2 * (length (cells_of u) - u.cell)

-- the steps that a user still goes on by: a wait is none
abbrev pub user_steps : UserState → UserStep → ℕ
user_steps u user_step.LoadCheckpoint = from_pages u + (12 + length (group_bytes u) + length (changes u))
user_steps u user_step.LoadSn = from_pages u + (12 + length (group_bytes u) + length (changes u))
user_steps u user_step.TakeLatch = from_pages u + (11 + length (group_bytes u) + (length (changes u) - u.page))
user_steps u user_step.Reserve = from_pages u + (11 + length (group_bytes u))
user_steps u user_step.LoadWrite = from_pages u + (10 + length (group_bytes u))
user_steps u user_step.AddCell = from_pages u + (9 + (length (group_bytes u) - u.copied))
user_steps u user_step.StoreFirst = from_pages u + 8
user_steps u user_step.LoadWtail = from_pages u + 7
user_steps u (user_step.AdvanceWritten advance_step.ClearLink) = from_pages u + 6
user_steps u (user_step.AdvanceWritten _) = from_pages u + 7
user_steps u user_step.ReloadWtail = from_pages u + 7
user_steps u user_step.StoreLink = from_pages u + 5
user_steps u user_step.LoadCtail = from_pages u + 2
user_steps u (user_step.AdvanceClosed advance_step.ClearLink) = from_pages u + 1
user_steps u (user_step.AdvanceClosed _) = from_pages u + 2
user_steps u user_step.ReloadCtail = from_pages u + 2
user_steps u user_step.LoadFrame = after_page u + 7 + cells_left u
user_steps u user_step.StoreFrame = after_page u + 6 + cells_left u
user_steps u user_step.StoreNewest = after_page u + 7
user_steps u user_step.LoadOldest = after_page u + 6
user_steps u user_step.AddToList = after_page u + 5
user_steps u user_step.StoreOldest = after_page u + 3
user_steps u user_step.GiveList = after_page u + 1
user_steps u user_step.StoreClosedLink = closing_steps u
user_steps u user_step.ReleaseLatch = later_steps u + 1 + (length (changes u) - u.page)
user_steps u user_step.AwaitMark = later_steps u + 1
user_steps u _ = 0

-- how many pages are listed, and how many words OLDEST aren't 0
abbrev pub listed : (ℕ → List Listed) → ℕ
listed ls = length (ls 0) + length (ls 1) + length (ls 2) + length (ls 3)

unfoldable pub marked : List PageWords → ℕ
marked [] = 0
marked (w ∷ ws) = one_if w.oldest + marked ws

-- of words and lists: the links that stand, how far both tails and the checkpoint still go, and the pages to clean
abbrev pub words_steps : ℕ → SharedWords → (ℕ → List Listed) → ℕ
words_steps last m ls = 2 * links m.wlinks + (last - m.wtail) + (2 * links m.clinks + (last - m.ctail)) + (last - m.ckpt) + (listed ls + marked m.page_words)

one_most : (n : ℕ) → one_if n ≤ 1
one_most zero = omega arith
one_most (suc n) = omega arith

pub marked_more : (l : List PageWords) (p : ℕ) (w : PageWords) → marked (slice_set l p w) ≤ marked l + 1
unfolding marked
marked_more [] p w = omega arith
marked_more (x ∷ xs) zero w = let a = one_most w.oldest in omega arith
marked_more (x ∷ xs) (suc p) w = let a = marked_more xs p w in omega arith

pub marked_same : (l : List PageWords) (p : ℕ) (w : PageWords) → w.oldest ≡ (page_words_at l p).oldest → marked (slice_set l p w) ≡ marked l
unfolding marked
marked_same [] p w same = refl
marked_same (x ∷ xs) zero w same = let a = ap one_if same in omega arith
marked_same (x ∷ xs) (suc p) w same = let a = marked_same xs p w same in omega arith

pub marked_clear : (l : List PageWords) (p : ℕ) (w : PageWords) → w.oldest ≡ 0 → marked (slice_set l p w) ≤ marked l
unfolding marked
marked_clear [] p w none = omega arith
marked_clear (x ∷ xs) zero w none = let a = ap one_if none in omega arith
marked_clear (x ∷ xs) (suc p) w none = let a = marked_clear xs p w none in omega arith

-- a change of one list
pub listed_by : (ls : ℕ → List Listed) (f : List Listed → List Listed) (n j : ℕ) → j < 4 → ((l : List Listed) → length (f l) ≤ length l + n) → listed (λ i. cond (eqb i j) (f (ls i)) (ls i)) ≤ listed ls + n
listed_by ls f n zero few h = let a = h (ls 0) in omega arith
listed_by ls f n (suc zero) few h = let a = h (ls 1) in omega arith
listed_by ls f n (suc (suc zero)) few h = let a = h (ls 2) in omega arith
listed_by ls f n (suc (suc (suc zero))) few h = let a = h (ls 3) in omega arith
listed_by ls f n (suc (suc (suc (suc j)))) few h = absurd (omega arith)

pub appended_more : (b : Bool) (p x : ℕ) (l : List Listed) → length (cond b (appended l p x) l) ≤ length l + 1
appended_more true p x l = let z = length-append l (record { page = p; oldest = x } ∷ []) in omega arith
appended_more false p x l = omega arith

without_fewer : (p : ℕ) (l : List Listed) → length (without p l) ≤ length l
without_fewer p [] = omega arith
without_fewer p (x ∷ xs) = by (eqb x.page p) (without_fewer p xs)
  where
    by : (b : Bool) → length (without p xs) ≤ length xs → length (cond b (without p xs) (x ∷ without p xs)) ≤ suc (length xs)
    by true z = omega arith
    by false z = omega arith

pub removed_fewer : (b : Bool) (p : ℕ) (l : List Listed) → length (cond b (without p l) l) ≤ length l + 0
removed_fewer true p l = let z = without_fewer p l in omega arith
removed_fewer false p l = omega arith
