-- Groups that end after their starts, and the lsn that a page gets of them.
use Rattle.std.proofs.Common.{◌≡◌, ◌≤◌, ◌<◌, ◌+◌, ◌⊎◌, ◌∙◌, ℕ, inl, inr, Bool, true, false, cond, List, [], ◌∷◌, refl, ap, arith}
use Rattle.std.specs.Prelude.{nat_le}
use Rattle.std.specs.List.{AllByRecursion}
use Rattle.std.proofs.lemmas.Bool.Decides.{nat_tests}
use Rattle.model_base.specs.declared.shape.Shape.{Shape}
use Rattle.model_log.specs.{group_length, groups_of, HasItsLength, lsn_of, sn_of}
use Rattle.model_page.specs.declared.content.Content.{Content}
use Rattle.model_log.specs.declared.group.Whole.{Whole}
use Rattle.model_store.specs.{IsStorable, page_after, replayed, touches, user_after}
use Rattle.redo_recover.proofs.Grouping.{group_text-some}
use Rattle.redo_recover.specs.Groups.{EndBehindStarts}

-- THE GROUPS.

-- where at least one byte more precedes, the lsn is a later one
lsn-behind : (start len : ℕ) → 1 ≤ len → start < lsn_of (sn_of start + len)
lsn-behind start len some = grind (arith, nat_tests)

-- a group that has a byte ends after its start
pub each-behind : (shape : Shape) (wholes : List Whole) → AllByRecursion HasItsLength wholes → AllByRecursion (IsStorable shape) (groups_of wholes)
    → EndBehindStarts wholes
each-behind shape [] lengths each = tt
each-behind shape (whole ∷ wholes) lengths each =
    let behind : whole.start < lsn_of (sn_of whole.start + group_length whole.group) =
    lsn-behind whole.start (group_length whole.group) (group_text-some whole.group each.0.has_text.some) in
    (omega (arith, lengths.0, behind), each-behind shape wholes lengths.1 each.1)

-- A PAGE.

-- the page is as it was, or its lsn is above this one
abbrev pub IsSameOrAbove : ℕ → Content → Content → Type 0
IsSameOrAbove q old new = (new ≡ old) ⊎ (q < new.lsn)

low-enough : (q start : ℕ) → nat_le q start ≡ true → q ≤ start
low-enough q start test = grind (arith, nat_tests)

after-above : (p q : ℕ) (whole : Whole) (page : Content) (b : Bool) → touches p whole.group ≡ b → q < whole.end
    → IsSameOrAbove q page (page_after p whole.group whole.end page)
after-above p q whole page true found above =
    let own = ap (λ b. (cond b (record { lsn = whole.end; user = user_after p whole.group page.user }) page).lsn) found in
    inr (omega (arith, own, above))
after-above p q whole page false none above =
    inl (ap (λ b. cond b (record { lsn = whole.end; user = user_after p whole.group page.user }) page) none)

-- a group that is applied, or isn't
step-above : (p q : ℕ) (whole : Whole) (page : Content) (b : Bool) → nat_le q whole.start ≡ b → whole.start < whole.end
    → IsSameOrAbove q page (cond b (page_after p whole.group whole.end page) page)
step-above p q whole page true test behind =
    let low : q ≤ whole.start = low-enough q whole.start test in
    after-above p q whole page (touches p whole.group) refl (omega (arith, low, behind))
step-above p q whole page false test behind = inl refl

above-then : (q : ℕ) (old middle new : Content) → IsSameOrAbove q old middle → IsSameOrAbove q middle new → IsSameOrAbove q old new
above-then q old middle new first (inr above) = inr above
above-then q old middle new (inl same) (inl still) = inl (still ∙ same)
above-then q old middle new (inr above) (inl still) = inr (let lsn = ap (λ (c : Content). c.lsn) still in omega (arith, lsn, above))

-- replayed from its lsn on, a page that has another lsn has a greater one, and one that has the same is as it was
pub replayed-above : (p q : ℕ) (wholes : List Whole) (old page : Content) → EndBehindStarts wholes → IsSameOrAbove q old page
    → IsSameOrAbove q old (replayed p q wholes page)
replayed-above p q [] old page behind is = is
replayed-above p q (whole ∷ wholes) old page behind is =
    let next : Content = cond (nat_le q whole.start) (page_after p whole.group whole.end page) page in
    replayed-above p q wholes old next behind.1
    (above-then q old page next is (step-above p q whole page (nat_le q whole.start) refl behind.0))
