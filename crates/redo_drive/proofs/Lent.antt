-- The pages that an actor lends to the call are its batch.
use Rattle.std.proofs.Common.{List, [], ap, arith, length, length-append, refl, suc, sym, take, zero, ℕ, ◌*◌, ◌++◌, ◌∙◌, ◌∷◌, ◌≡◌}
use Rattle.std.proofs.Math.Nat.{suc-mul, zero-mul}
use Rattle.std.proofs.lemmas.List.{drop_at, take_at}
use Rattle.std.specs.List.{flat_map}
use Rattle.std.specs.Prelude.{map}
use lib.ListN.{get_elem?}
use mathlib.Core.Option.{some}
use Rattle.model_base.specs.{user_length}
use Rattle.model_base.specs.declared.shape.Shape.{Shape}
use Rattle.model_core.specs.{BatchPage}
use Rattle.model_parts.specs.{batch_of, Fresh}
use Rattle.model_running.proofs.CellsApply.{user_part_long}
use Rattle.model_page.specs.{user_part}
use Rattle.redo_drive.specs.DataPartSide.{IsBatchOf, fresh_batch, fresh_page}

abbrev pairs_of : List BatchPage → List (ℕ × ℕ)
pairs_of batch = map (λ (b : BatchPage). (b.page, b.lsn)) batch

abbrev users_of : List BatchPage → List ℕ
users_of batch = flat_map (λ (b : BatchPage). user_part b.bytes) batch

abbrev AreWhole : Shape → List BatchPage → Type 0
AreWhole shape batch = (i : ℕ) (x : BatchPage) → get_elem? batch i ≡ some x → length x.bytes ≡ shape.page_size

same_pages : (shape : Shape) (batch : List BatchPage) → AreWhole shape batch
    → ◌≡◌ {A = List Fresh} (fresh_batch batch) (batch_of shape (pairs_of batch) (users_of batch))
same_pages shape [] whole = refl
same_pages shape (x ∷ xs) whole =
    let n : ℕ = user_length shape in
    let user : List ℕ = user_part x.bytes in
    let long : length user ≡ n = user_part_long shape x.bytes (whole zero x refl) in
    let with_user : List ℕ → Fresh = λ u. record { page = x.page; content = record { lsn = x.lsn; user = u } } in
    let rest : ◌≡◌ {A = List Fresh} (fresh_batch xs) (batch_of shape (pairs_of xs) (users_of xs)) = same_pages shape xs (λ i y at. whole (suc i) y at) in
    let first : ◌≡◌ {A = Fresh} (fresh_page x) (with_user (take n (user ++ users_of xs))) = ap with_user (sym (take_at user (users_of xs) n long)) in
    ap (λ (z : Fresh). z ∷ fresh_batch xs) first
    ∙ ap (λ (z : List Fresh). with_user (take n (user ++ users_of xs)) ∷ z)
    (rest ∙ ap (batch_of shape (pairs_of xs)) (sym (drop_at user (users_of xs) n long)))

users_long : (shape : Shape) (batch : List BatchPage) → AreWhole shape batch → length (users_of batch) ≡ length (pairs_of batch) * user_length shape
users_long shape [] whole = sym (zero-mul (user_length shape))
users_long shape (x ∷ xs) whole =
    let long : length (user_part x.bytes) ≡ user_length shape = user_part_long shape x.bytes (whole zero x refl) in
    let rest = users_long shape xs (λ i y at. whole (suc i) y at) in
    length-append (user_part x.bytes) (users_of xs) ∙ omega (arith, suc-mul (length (pairs_of xs)) (user_length shape))

-- its pairs of page and lsn, and the user bytes of its pages, each of which has all its bytes
pub lent_batch : (shape : Shape) (batch : List BatchPage) (pairs : List (ℕ × ℕ)) (users : List ℕ) → AreWhole shape batch
    → pairs ≡ pairs_of batch → users ≡ users_of batch → IsBatchOf shape pairs users batch
lent_batch shape batch pairs users whole pairs_are users_are = record {
  pages = same_pages shape batch whole ∙ ap (λ (z : List (ℕ × ℕ)). batch_of shape z (users_of batch)) (sym pairs_are) ∙ ap (batch_of shape pairs) (sym users_are);
  count = ap length users_are ∙ users_long shape batch whole ∙ ap (λ (z : List (ℕ × ℕ)). length z * user_length shape) (sym pairs_are);
}
