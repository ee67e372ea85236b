-- The cells that a line changes get bytes.
use Rattle.std.proofs.Common.{Bool, List, [], arith, cond, drop, eqb, false, get_or, length, replicate, subst, suc, sym, take, true, zero, ℕ, ◌++◌, ◌+◌, ◌-◌, ◌<◌, ◌∷◌}
use Rattle.std.proofs.Math.ListN.{get_or-append}
use Rattle.std.proofs.Math.Seq.{get_or-append_right}
use Rattle.std.proofs.lemmas.List.{get_or_past}
use Rattle.std.specs.Int.{bytes_high_first}
use Rattle.std.specs.List.{All, AllByRecursion}
use Rattle.std.specs.Prelude.{slice_index}
use native.Mathlib.Decide.{dec_le}
use Rattle.model_base.specs.{overwritten, user_length}
use Rattle.model_base.specs.declared.limits.TheConstants.{USER_START}
use Rattle.model_base.specs.declared.shape.Shape.{Shape}
use Rattle.model_core.specs.{after_from, cell_where_same, changed_cells, change_on, changes_of, collected, CellWrite, change_at, PageChange}
use Rattle.model_base.proofs.ByteLemmas.{AreBytes, AreBytes-append, AreBytes-cons, AreBytes-drop, AreBytes-of_number, AreBytes-take}
use Rattle.model_log.specs.{HasText, IsByte, page_of}
use Rattle.model_log.specs.declared.rec.Rec.{Rec}
use Rattle.model_log.specs.declared.rec.Rec.TheVariants.{Init, Num, Text}
use Rattle.model_store.specs.{touches, user_after, user_after_own}

-- what holds of each that is collected, and of a default, holds at each index
pub collected_each : {A : Type 0} (P : A → Type 0) (f : ℕ → List A) (d : A) → P d → ((j i : ℕ) → P (get_or (f j) i d)) → (n i : ℕ) → P (get_or (collected f n) i d)
unfolding collected
collected_each P f d none each zero i = none
collected_each P f d none each (suc n) i = elim (dec_le (length (collected f n)) i) [
  | yes behind ↦ subst P (sym (get_or-append_right (collected f n) (f n) i d behind)) (each n (i - length (collected f n)))
  | no there ↦ subst P (sym (get_or-append (collected f n) (f n) d i (omega arith))) (collected_each P f d none each n i)
]

-- one that is collected under a condition
pub if_one : {A : Type 0} (P : A → Type 0) (x d : A) → P x → P d → (b : Bool) (i : ℕ) → P (get_or (cond b (x ∷ []) []) i d)
if_one P x d one none true zero = one
if_one P x d one none true (suc i) = none
if_one P x d one none false i = none

zeros : (n : ℕ) → AreBytes (replicate n 0)
zeros zero i = omega arith
zeros (suc n) i = AreBytes-cons 0 (replicate n 0) (omega arith) (zeros n) i

written_over : (at : ℕ) (bytes user : List ℕ) → AreBytes bytes → AreBytes user → AreBytes (overwritten at bytes user)
written_over at bytes user new old =
    AreBytes-append (take at user ++ bytes) (drop (at + length bytes) user)
    (AreBytes-append (take at user) bytes (AreBytes-take at user old) new) (AreBytes-drop (at + length bytes) user old)

from_all : (bytes : List ℕ) → All IsByte bytes → AreBytes bytes
from_all bytes all i = elim (dec_le (length bytes) i) [
  | yes past ↦ subst (λ (n : ℕ). n < 256) (sym (get_or_past bytes i 0 past)) (omega arith)
  | no there ↦ all i 0 (omega arith)
]

-- a record leaves bytes of bytes
own_bytes : (rec : Rec) (user : List ℕ) → HasText rec → AreBytes user → AreBytes (user_after_own rec user)
own_bytes (Num width space page offset value) user has old = written_over (offset - USER_START) (bytes_high_first width value) user (AreBytes-of_number width value) old
own_bytes (Text space page offset bytes) user has old = written_over (offset - USER_START) bytes user (from_all bytes has.5) old
own_bytes (Init space page) user has old = zeros (length user)

-- and so does a group
group_bytes : (p : ℕ) (group : List Rec) (user : List ℕ) → AllByRecursion HasText group → AreBytes user → AreBytes (user_after p group user)
group_bytes p [] user has old = old
group_bytes p (rec ∷ recs) user has old = group_bytes p recs (cond (eqb (page_of rec) p) (user_after_own rec user) user) has.1 (by (eqb (page_of rec) p))
  where
    by : (b : Bool) → AreBytes (cond b (user_after_own rec user) user)
    by true = own_bytes rec user has.0 old
    by false = old

abbrev pub no_cell : CellWrite
no_cell = record { at = 0; value = 0 }

-- each cell that is changed gets a byte
abbrev pub GetsBytes : PageChange → Type 0
GetsBytes change = (i : ℕ) → (get_or change.cells i no_cell).value < 256

page_gets : (shape : Shape) (p : ℕ) (group : List Rec) → AllByRecursion HasText group
    → (i : ℕ) → (get_or (changed_cells shape p group) i no_cell).value < 256
page_gets shape p group has i =
    let n : ℕ = user_length shape in
    let low : List ℕ = after_from shape 0 p group in
    let high : List ℕ = after_from shape 255 p group in
    let bytes : AreBytes low = group_bytes p group (replicate n 0) has (zeros n) in
    collected_each (λ (z : CellWrite). z.value < 256) (cell_where_same low high) no_cell (omega arith)
    (λ j k. if_one (λ (z : CellWrite). z.value < 256) (record { at = USER_START + j; value = slice_index low j }) no_cell (bytes j) (omega arith) (eqb (slice_index low j) (slice_index high j)) k) n i

pub changes_get_bytes : (shape : Shape) (group : List Rec) → AllByRecursion HasText group
    → (k : ℕ) → GetsBytes (change_at (changes_of shape group) k)
changes_get_bytes shape group has k =
    collected_each GetsBytes (change_on shape group) (record { page = 0; cells = [] }) (λ i. omega arith)
    (λ p j. if_one GetsBytes (record { page = p; cells = changed_cells shape p group }) (record { page = 0; cells = [] }) (page_gets shape p group has) (λ i. omega arith) (touches p group) j) shape.pages k
