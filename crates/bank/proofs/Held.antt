-- The user bytes of a bank's page.
use Rattle.std.proofs.Common.{List, [], ap, arith, get_or, length, subst, ℕ, ◌<◌, ◌∙◌, ◌≡◌}
use Rattle.std.proofs.lemmas.Option.{slice_get-get_or}
use Rattle.std.specs.Prelude.{IfSome, slice_get}
use Rattle.model_base.specs.{default_shape, user_length}
use Rattle.model_page.specs.declared.content.Content.{Content}
use Rattle.redo_apply.specs.{ArePagesOf}

blank : Content
blank = record { lsn = 0; user = [] }

pub user_long : (pages : List Content) (p : ℕ) (bytes : List ℕ) → ArePagesOf default_shape pages → p < length pages
    → IfSome (slice_get pages p) (λ (content : Content). bytes ≡ content.user)
    → length bytes ≡ user_length default_shape
user_long pages p bytes its low is =
    let page = get_or pages p blank in
    let at = slice_get-get_or pages p blank low in
    let user : bytes ≡ page.user = subst (λ o. IfSome o (λ (content : Content). bytes ≡ content.user)) at is in
    ap length user ∙ its.sizes p page at
