-- The batch that pairs of page and lsn and joined user bytes come to.
use Rattle.std.proofs.Common.{◌≡◌, ◌<◌, ◌+◌, ◌*◌, ℕ, zero, suc, List, [], ◌∷◌, length, take, drop, Some, refl, sym, ap, subst, ◌∙◌, get_or, ⊎_elim, length-take, length-drop, arith}
use Rattle.std.specs.List.{slice_get}
use Rattle.std.proofs.lemmas.List.{drop-drop, get_or-take, get_or-drop, get_or_past}
use Rattle.std.proofs.lemmas.Option.{slice_get_within}
use Rattle.std.proofs.lemmas.Bool.{cases_lt}
use Rattle.std.proofs.Math.Nat.{zero-mul}
use Rattle.model_base.specs.{user_length}
use Rattle.model_base.specs.declared.shape.Shape.{Shape}
use Rattle.model_parts.specs.Batch.{Fresh}
use Rattle.model_parts.specs.Stored.{batch_of}
use Rattle.model_parts.specs.BatchFits.{IsFreshPage, IsBatch, IsWritable}
use Rattle.model_parts.proofs.Rows.{one-more-row, row_ends}

-- what a pair becomes
abbrev pub fresh_of : (ℕ × ℕ) → List ℕ → Fresh
fresh_of pair user = record { page = pair.0; content = record { lsn = pair.1; user = user } }

-- which user bytes a pair takes: so many, after those of the pairs before it
abbrev pub nth_user : Shape → ℕ → List ℕ → List ℕ
nth_user shape i users = take (user_length shape) (drop (i * user_length shape) users)

first-user : (shape : Shape) (users : List ℕ) → take (user_length shape) users ≡ nth_user shape 0 users
first-user shape users = ap (λ (k : ℕ). take (user_length shape) (drop k users)) (sym (zero-mul (user_length shape)))

later-user : (shape : Shape) (i : ℕ) (users : List ℕ)
    → nth_user shape i (drop (user_length shape) users) ≡ nth_user shape (suc i) users
later-user shape i users =
    let n : ℕ = user_length shape in
    ap (take n) (drop-drop (i * n) n users ∙ ap (λ (k : ℕ). drop k users) (sym (one-more-row i n)))

pub batch-at : (shape : Shape) (pairs : List (ℕ × ℕ)) (users : List ℕ) (i : ℕ) (pair : ℕ × ℕ)
    → slice_get pairs i ≡ Some pair
    → slice_get (batch_of shape pairs users) i ≡ Some (fresh_of pair (nth_user shape i users))
batch-at shape [] users i pair at = absurd cc
batch-at shape (first ∷ pairs) users zero pair at =
    let same : first ≡ pair = cc in
    ap (λ (x : ℕ × ℕ). Some (fresh_of x (take (user_length shape) users))) same
    ∙ ap (λ (u : List ℕ). Some (fresh_of pair u)) (first-user shape users)
batch-at shape (first ∷ pairs) users (suc i) pair at =
    batch-at shape pairs (drop (user_length shape) users) i pair at
    ∙ ap (λ (u : List ℕ). Some (fresh_of pair u)) (later-user shape i users)

-- and back
pub record IsPairAt (shape : Shape) (pairs : List (ℕ × ℕ)) (users : List ℕ) (i : ℕ) (new : Fresh) : Type 0 where
  pub pair : ℕ × ℕ
  pub at : slice_get pairs i ≡ Some pair
  pub is : new ≡ fresh_of pair (nth_user shape i users)

pub pair-at : (shape : Shape) (pairs : List (ℕ × ℕ)) (users : List ℕ) (i : ℕ) (new : Fresh)
    → slice_get (batch_of shape pairs users) i ≡ Some new → IsPairAt shape pairs users i new
pair-at shape [] users i new at = absurd cc
pair-at shape (first ∷ pairs) users zero new at = record {
  pair = first;
  at = refl;
  is = (let same : fresh_of first (take (user_length shape) users) ≡ new = cc in
      sym same ∙ ap (fresh_of first) (first-user shape users));
}
pair-at shape (first ∷ pairs) users (suc i) new at =
    let others : List ℕ = drop (user_length shape) users in
    let rest : IsPairAt shape pairs others i new = pair-at shape pairs others i new at in
    record { pair = rest.pair; at = rest.at; is = rest.is ∙ ap (fresh_of rest.pair) (later-user shape i users) }

pub length-batch_of : (shape : Shape) (pairs : List (ℕ × ℕ)) (users : List ℕ)
    → length (batch_of shape pairs users) ≡ length pairs
length-batch_of shape [] users = refl
length-batch_of shape (first ∷ pairs) users = ap suc (length-batch_of shape pairs (drop (user_length shape) users))

get_or-take-byte : (n k i : ℕ) (users : List ℕ) → ((j : ℕ) → get_or users j 0 < 256) → get_or (take n (drop k users)) i 0 < 256
get_or-take-byte n k i users bytes =
    ⊎_elim (λ inside. let here : get_or (take n (drop k users)) i 0 ≡ get_or users (k + i) 0 = get_or-take n (drop k users) i 0 inside ∙ get_or-drop k users i 0 in
    let byte : get_or users (k + i) 0 < 256 = bytes (k + i) in omega arith)
    (λ beyond. let none : get_or (take n (drop k users)) i 0 ≡ 0 = get_or_past (take n (drop k users)) i 0 (omega (arith, length-take n (drop k users))) in omega arith) (cases_lt i n)

pub length-nth : (i count n : ℕ) (users : List ℕ) → i < count → length users ≡ count * n
    → length (take n (drop (i * n) users)) ≡ n
length-nth i count n users below long =
    length-take n (drop (i * n) users) ∙ omega (arith, length-drop (i * n) users, row_ends i count n below)

pub batch-from : (shape : Shape) (pairs : List (ℕ × ℕ)) (users : List ℕ) → IsWritable shape pairs users
    → ((j : ℕ) → get_or users j 0 < 256) → IsBatch shape (batch_of shape pairs users)
batch-from shape pairs users is bytes = record {
  few = omega (arith, length-batch_of shape pairs users, is.few);
  each = λ i new at.
      let one : IsPairAt shape pairs users i new = pair-at shape pairs users i new at in
      let below : i < length pairs = slice_get_within pairs i one.pair one.at in
      subst (λ (x : Fresh). IsFreshPage shape x) (sym one.is) (record {
        below = is.below i one.pair one.at;
        small_lsn = omega (arith, is.small_lsn i one.pair one.at);
        long = length-nth i (length pairs) (user_length shape) users below is.count;
        bytes = λ j. get_or-take-byte (user_length shape) (i * user_length shape) j users bytes;
      });
  different = λ i j new other at at_other page.
      let one : IsPairAt shape pairs users i new = pair-at shape pairs users i new at in
      let two : IsPairAt shape pairs users j other = pair-at shape pairs users j other at_other in
      is.different i j one.pair two.pair one.at two.at (sym (ap (λ (x : Fresh). x.page) one.is) ∙ page ∙ ap (λ (x : Fresh). x.page) two.is);
}
