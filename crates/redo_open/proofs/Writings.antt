-- Pages written as they were read.
use Rattle.std.proofs.Common.{◌≡◌, ◌<◌, ◌+◌, ◌∙◌, ℕ, List, length, Option, Some, None, ap, subst, ⊎_elim, arith}
use Rattle.std.specs.Prelude.{IfSome, Result, Ok, Err, OnOk}
use Rattle.std.specs.List.{slice_get}
use Rattle.std.proofs.lemmas.Bool.{cases_lt}
use Rattle.model_base.specs.declared.shape.Shape.{Shape}
use Rattle.model_base.specs.{user_length}
use Rattle.model_page.specs.declared.content.Content.{Content}
use Rattle.model_store.proofs.Places.{has_place}
use Rattle.redo_apply.specs.{ArePagesOf}
use Rattle.redo_disk.specs.declared.error.DevError.{DevError}
use Rattle.redo_disk.specs.{error_of}

pub below-next : (P : ℕ → Type 0) (k : ℕ) → ((p : ℕ) → p < k → P p) → P k → (p : ℕ) → p < k + 1 → P p
below-next P k below here p less = ⊎_elim (λ under. below p under) (λ not_under. (let same : k ≡ p = omega arith in subst P same here)) (cases_lt p k)

-- THE PAGE AS IT WAS READ.

pub record PageRead (shape : Shape) (pages : List Content) (page lsn : ℕ) (user : List ℕ) : Type 0 where
  pub content : Content
  pub at : slice_get pages page ≡ Some content
  pub same_lsn : lsn ≡ content.lsn
  pub same_user : user ≡ content.user
  pub long : length user ≡ user_length shape

at-some : {X : Type 0} (o : Option X) (x : X) (P : X → Type 0) → o ≡ Some x → IfSome o P → P x
at-some o x P is known = subst (λ (o : Option _). IfSome o P) is known

-- its lsn alone
pub lsn-read : (shape : Shape) (pages : List Content) (page lsn : ℕ) → ArePagesOf shape pages → page < shape.pages
    → IfSome (slice_get pages page) (λ (content : Content). lsn ≡ content.lsn) → (content : Content) × (slice_get pages page ≡ Some content) × (lsn ≡ content.lsn)
lsn-read shape pages page lsn its below lsns =
    let there = has_place pages page (omega (arith, its.count)) in
    (there.0, there.1, at-some (slice_get pages page) there.0 (λ (content : Content). lsn ≡ content.lsn) there.1 lsns)

pub page-read : (shape : Shape) (pages : List Content) (page lsn : ℕ) (user : List ℕ) → ArePagesOf shape pages → page < shape.pages
    → IfSome (slice_get pages page) (λ (content : Content). lsn ≡ content.lsn) → IfSome (slice_get pages page) (λ (content : Content). user ≡ content.user)
    → PageRead shape pages page lsn user
page-read shape pages page lsn user its below lsns users =
    let found = has_place pages page (omega (arith, its.count)) in
    let user_is : user ≡ found.0.user = at-some (slice_get pages page) found.0 (λ (content : Content). user ≡ content.user) found.1 users in
    record {
      content = found.0;
      at = found.1;
      same_lsn = at-some (slice_get pages page) found.0 (λ (content : Content). lsn ≡ content.lsn) found.1 lsns;
      same_user = user_is;
      long = ap length user_is ∙ its.sizes page found.0 found.1;
    }

-- WHAT AN ANSWER TELLS.

pub live-ok : (result : Result (Unit {0}) DevError) (failed : Option DevError) → failed ≡ error_of result → OnOk result (failed ≡ None)
live-ok (Ok value) failed is = is
live-ok (Err error) failed is = tt

pub on-ok-both : {T E A B C : Type 0} (result : Result T E) → (A → B → C) → OnOk result A → OnOk result B → OnOk result C
on-ok-both (Ok value) both first second = both first second
on-ok-both (Err error) both first second = tt
