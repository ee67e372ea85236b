-- The pages of a store, one after another.
use Rattle.std.proofs.Common.{ℕ, zero, suc, ◌≡◌, ◌<◌, ◌+◌, List, [], ◌∷◌, ◌++◌, length, take, slice_get, IfSome, ap, ◌∙◌, arith}
use Rattle.model_page.specs.declared.content.Content.{Content}

-- some pages and the next one
push_content : (pages : List Content) (i lsn : ℕ) (user bytes : List ℕ) → i < length pages → user ≡ bytes
    → IfSome (slice_get pages i) (λ content. lsn ≡ content.lsn) → IfSome (slice_get pages i) (λ content. bytes ≡ content.user)
    → take i pages ++ (record { lsn = lsn; user = user }) ∷ [] ≡ take (suc i) pages
push_content [] i lsn user bytes below same lsn_is user_is = absurd (omega arith)
push_content (page ∷ pages) zero lsn user bytes below same lsn_is user_is =
    ap (λ (content : Content). content ∷ []) (λ j. record { lsn = lsn_is j; user = (same ∙ user_is) j })
push_content (page ∷ pages) (suc i) lsn user bytes below same lsn_is user_is =
    ap (λ (contents : List Content). page ∷ contents) (push_content pages i lsn user bytes (omega arith) same lsn_is user_is)

pub take_content : (pages : List Content) (i lsn : ℕ) (user bytes : List ℕ) (front : List Content) → i < length pages → front ≡ take i pages → user ≡ bytes
    → IfSome (slice_get pages i) (λ content. lsn ≡ content.lsn) → IfSome (slice_get pages i) (λ content. bytes ≡ content.user)
    → front ++ (record { lsn = lsn; user = user }) ∷ [] ≡ take (i + 1) pages
take_content pages i lsn user bytes front below front_is same lsn_is user_is =
    let next : suc i ≡ i + 1 = omega arith in
    ap (λ (contents : List Content). contents ++ (record { lsn = lsn; user = user }) ∷ []) front_is
    ∙ push_content pages i lsn user bytes below same lsn_is user_is ∙ ap (λ n. take n pages) next
