-- A page with the groups up to an lsn, as the running store has it, is a prefix of the run.
use Rattle.std.proofs.Common.{Bool, List, [], ap, arith, cond, false, length, refl, suc, sym, true, zero, ℕ, ◌+◌, ◌<◌, ◌∙◌, ◌∷◌, ◌≡◌, ◌≤◌}
use Rattle.std.specs.List.{AllByRecursion}
use Rattle.std.specs.Prelude.{nat_le}
use lib.ListN.{get_elem?}
use Rattle.model_base.specs.{IsWithinLimits}
use Rattle.model_base.specs.declared.shape.Shape.{Shape}
use Rattle.model_core.specs.{changes_of, end_of, lsn, PageChange, Tiles}
use Rattle.model_core.proofs.Lsns.{lsn_less}
use Rattle.model_running.proofs.CellsApply.{cells_apply, change_of_page, writes_long}
use Rattle.model_running.specs.Histories.{AreWholesOf}
use Rattle.model_log.specs.{GroupFits, Span}
use Rattle.model_page.specs.{user_part}
use Rattle.model_page.specs.declared.content.Content.{Content}
use Rattle.model_pagecore.specs.{applied_upto, cells_on, end_lsn, Passed, start_lsn, write_cells}
use Rattle.model_log.specs.declared.group.Whole.{Whole}
use Rattle.model_theorem.proofs.Pages.{left, taken, upto-none}
use Rattle.model_theorem.specs.{HasPassed}
use Rattle.model_store.specs.{page_after, upto, user_after}
use Rattle.model_core.specs.States as core
use Rattle.model_pagecore.specs.Pages as pages_of
use Rattle.model_store.specs.Apply as apply
use mathlib.Core.Option as maybe

-- the group changes of the pages what its records say
pub record IsPageGroup (shape : Shape) (e : core.Entry) (whole : Whole) : Type 0 where
  pub changes : ◌≡◌ {A = List PageChange} e.changes (changes_of shape whole.group)
  pub fits : GroupFits shape whole.group

abbrev pub ArePageGroups : Shape → List core.Entry → List Whole → Type 0
ArePageGroups shape [] [] = Unit {0}
ArePageGroups shape (e ∷ log) (whole ∷ wholes) = IsPageGroup shape e whole × ArePageGroups shape log wholes
ArePageGroups shape _ _ = ⊥

start_is : (e : core.Entry) (whole : Whole) (log : List core.Entry) (wholes : List Whole) → AreWholesOf (e ∷ log) (whole ∷ wholes) → whole.start ≡ start_lsn e
start_is e whole log wholes are = ap (λ (z : Span). z.start) are.0.place

end_is : (e : core.Entry) (whole : Whole) (log : List core.Entry) (wholes : List Whole) → AreWholesOf (e ∷ log) (whole ∷ wholes) → whole.end ≡ end_lsn e
end_is e whole log wholes are = ap (λ (z : Span). z.end) are.0.place

-- the end of the first group of a log is above its start
above : (e : core.Entry) (log : List core.Entry) (s n : ℕ) → Tiles s (e ∷ log) n → (lsn s < end_lsn e) × (lsn (s + length e.bytes) ≡ end_lsn e)
above e log s n tiles =
    let same : end_of e ≡ s + length e.bytes = ap (λ (k : ℕ). k + length e.bytes) tiles.0 in
    let end : end_lsn e ≡ lsn (s + length e.bytes) = ap lsn same in
    let l = lsn_less s (s + length e.bytes) (let some = tiles.1 in omega arith) in (omega arith, sym end)

-- no group of a log ends at or below its start
pub ends_above : (log : List core.Entry) (s n q : ℕ) (wholes : List Whole) → Tiles s log n → AreWholesOf log wholes → q ≤ lsn s → AllByRecursion (λ (whole : Whole). q < whole.end) wholes
ends_above [] s n q [] tiles are low = tt
ends_above [] s n q (w ∷ ws) tiles are low = absurd are
ends_above (e ∷ es) s n q [] tiles are low = absurd are
ends_above (e ∷ es) s n q (w ∷ ws) tiles are low =
    let a = above e es s n tiles in let a0 = a.0 in let a1 = a.1 in let end = end_is e w es ws are in
    (omega arith, ends_above es (s + length e.bytes) n q ws tiles.3 are.1 (omega arith))

pub applied_none : (p q : ℕ) (log : List core.Entry) (s n : ℕ) (b : List ℕ) → Tiles s log n → q ≤ lsn s → applied_upto p q log b ≡ b
applied_none p q [] s n b tiles low = refl
applied_none p q (e ∷ es) s n b tiles low =
    let a = above e es s n tiles in let a0 = a.0 in let a1 = a.1 in
    ap (applied_upto p q es) (left (end_lsn e) q (write_cells (cells_on p e.changes) b) b (omega arith)) ∙ applied_none p q es (s + length e.bytes) n b tiles.3 (omega arith)

-- where no group starts below a checkpoint nothing is lacking
pub passed_start : (p q x : ℕ) (log : List core.Entry) (s n : ℕ) (wholes : List Whole) → Tiles s log n → AreWholesOf log wholes → x ≤ lsn s → HasPassed p wholes x q
passed_start p q x [] s n [] tiles are low = tt
passed_start p q x [] s n (w ∷ ws) tiles are low = absurd are
passed_start p q x (e ∷ es) s n [] tiles are low = absurd are
passed_start p q x (e ∷ es) s n (w ∷ ws) tiles are low =
    let start : w.start ≡ lsn s = start_is e w es ws are ∙ ap lsn tiles.0 in
    let a = above e es s n tiles in let a0 = a.0 in let a1 = a.1 in
    ((λ found below. absurd (omega arith)), passed_start p q x es (s + length e.bytes) n ws tiles.3 are.1 (omega arith))

module _ (shape : Shape) (limits : IsWithinLimits shape) (p : ℕ) (there : p < shape.pages) where
  pub touched : (e : core.Entry) (whole : Whole) → IsPageGroup shape e whole → pages_of.is_changed_page p e.changes ≡ apply.touches p whole.group
  touched e whole of = ap (pages_of.is_changed_page p) of.changes ∙ (change_of_page shape whole.group p shape.pages there).touched

  -- what holds below the bound holds below a lower one
  pub passed_by : (q x y : ℕ) (log : List core.Entry) (wholes : List Whole) → ArePageGroups shape log wholes → AreWholesOf log wholes → y ≤ x → Passed p log q x → HasPassed p wholes y q
  passed_by q x y [] [] are places low passed = tt
  passed_by q x y [] (w ∷ ws) are places low passed = absurd are
  passed_by q x y (e ∷ es) [] are places low passed = absurd are
  passed_by q x y (e ∷ es) (w ∷ ws) are places low passed =
      let start = start_is e w es ws places in let end = end_is e w es ws places in
      ((λ found below. let z = passed zero e refl (touched e w are.0 ∙ found) (omega arith) in omega arith), passed_by q x y es ws are.1 places.1 low (λ i f is. passed (suc i) f is))

  step_user : (e : core.Entry) (whole : Whole) (b : List ℕ) (page : Content) → IsPageGroup shape e whole → length b ≡ shape.page_size → user_part b ≡ page.user → (d : Bool)
      → user_part (cond d (write_cells (cells_on p e.changes) b) b) ≡ (cond d (page_after p whole.group whole.end page) page).user
  step_user e whole b page of long same true =
      ap (λ (cs : List PageChange). user_part (write_cells (cells_on p cs) b)) of.changes ∙ cells_apply shape whole.group p b limits of.fits there long ∙ by (apply.touches p whole.group)
    where
      by : (t : Bool) → cond t (user_after p whole.group (user_part b)) (user_part b) ≡ (cond t (record { lsn = whole.end; user = user_after p whole.group page.user }) page).user
      by true = ap (user_after p whole.group) same
      by false = same
  step_user e whole b page of long same false = same

  step_long : (e : core.Entry) (b : List ℕ) → length b ≡ shape.page_size → (d : Bool) → length (cond d (write_cells (cells_on p e.changes) b) b) ≡ shape.page_size
  step_long e b long true = writes_long (cells_on p e.changes) b ∙ long
  step_long e b long false = long

  pub user_upto : (q : ℕ) (log : List core.Entry) (wholes : List Whole) (b : List ℕ) (page : Content) → ArePageGroups shape log wholes → AreWholesOf log wholes → length b ≡ shape.page_size → user_part b ≡ page.user
      → user_part (applied_upto p q log b) ≡ (upto p q wholes page).user
  user_upto q [] [] b page are places long same = same
  user_upto q [] (w ∷ ws) b page are places long same = absurd are
  user_upto q (e ∷ es) [] b page are places long same = absurd are
  user_upto q (e ∷ es) (w ∷ ws) b page are places long same =
      let d : Bool = nat_le (end_lsn e) q in
      user_upto q es ws (cond d (write_cells (cells_on p e.changes) b) b) (cond d (page_after p w.group w.end page) page) are.1 places.1 (step_long e b long d) (step_user e w b page are.0 long same d)
      ∙ sym (ap (λ (n : ℕ). (upto p q ws (cond (nat_le n q) (page_after p w.group w.end page) page)).user) (end_is e w es ws places))

  -- where a group on the page ends at q, that is the lsn of the page with the groups up to q
  pub lsn_upto : (q : ℕ) (log : List core.Entry) (s n : ℕ) (wholes : List Whole) (page : Content) → Tiles s log n → ArePageGroups shape log wholes → AreWholesOf log wholes
      → (i : ℕ) (e : core.Entry) → get_elem? log i ≡ maybe.some e → pages_of.is_changed_page p e.changes ≡ true → end_lsn e ≡ q → (upto p q wholes page).lsn ≡ q
  lsn_upto q [] s n wholes page tiles are places i e at on end = absurd (maybe.some-ne-none e (sym at))
  lsn_upto q (x ∷ xs) s n [] page tiles are places i e at on end = absurd are
  lsn_upto q (x ∷ xs) s n (w ∷ ws) page tiles are places zero e at on end =
      let same : ◌≡◌ {A = core.Entry} x e = maybe.some-injective x e at in
      let a1 = (above x xs s n tiles).1 in
      let last : end_lsn x ≡ q = ap end_lsn same ∙ end in
      let w_end : w.end ≡ q = end_is x w xs ws places ∙ last in
      let found : apply.touches p w.group ≡ true = sym (touched x w are.0) ∙ ap (λ (z : core.Entry). pages_of.is_changed_page p z.changes) same ∙ on in
      ap (λ (z : Content). z.lsn) (ap (upto p q ws) (taken w.end q (page_after p w.group w.end page) page (omega arith)) ∙ upto-none p q ws (page_after p w.group w.end page) (ends_above xs (s + length x.bytes) n q ws tiles.3 places.1 (omega arith)))
      ∙ ap (λ (t : Bool). let z : ℕ = (cond t (record { lsn = w.end; user = user_after p w.group page.user }) page).lsn in z) found ∙ w_end
  lsn_upto q (x ∷ xs) s n (w ∷ ws) page tiles are places (suc i) e at on end =
      lsn_upto q xs (s + length x.bytes) n ws (cond (nat_le w.end q) (page_after p w.group w.end page) page) tiles.3 are.1 places.1 i e at on end
