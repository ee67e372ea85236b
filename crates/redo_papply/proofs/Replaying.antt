-- One more record of a group, and one more group, at the end of those that were applied.
use Rattle.std.proofs.Common.{◌≡◌, ℕ, List, [], ◌∷◌, ◌++◌, cond, refl, sym, ap, ◌∙◌}
use Rattle.std.specs.Prelude.{nat_le}
use Rattle.model_log.specs.declared.rec.Rec.{Rec}
use Rattle.model_log.specs.declared.group.Whole.{Whole}
use Rattle.model_page.specs.declared.content.Content.{Content}
use Rattle.model_store.specs.{page_after, replayed}
use Rattle.redo_apply.proofs.Records.{page_after-cons}

-- some records, and then others
pub page_after-append : (p : ℕ) (xs ys : List Rec) (end : ℕ) (page : Content)
    → page_after p (xs ++ ys) end page ≡ page_after p ys end (page_after p xs end page)
page_after-append p [] ys end page = refl
page_after-append p (x ∷ xs) ys end page =
    page_after-cons p x (xs ++ ys) end page ∙ page_after-append p xs ys end (page_after p (x ∷ []) end page)
    ∙ ap (page_after p ys end) (sym (page_after-cons p x xs end page))

-- a group after others
pub replayed-more : (p q : ℕ) (wholes : List Whole) (whole : Whole) (page : Content)
    → replayed p q (wholes ++ whole ∷ []) page
    ≡ cond (nat_le q whole.start) (page_after p whole.group whole.end (replayed p q wholes page)) (replayed p q wholes page)
replayed-more p q [] whole page = refl
replayed-more p q (first ∷ wholes) whole page =
    replayed-more p q wholes whole (cond (nat_le q first.start) (page_after p first.group first.end page) page)
