-- A page that is found broken, with a copy that passes, may be repaired.
use Rattle.std.proofs.Common.{◌≡◌, ℕ, List, Option, Some, None, IfSome, MatchOption, sym, ap, subst, ◌∙◌}
use Rattle.model_base.specs.declared.shape.Shape.{Shape}
use Rattle.model_page.specs.{HasNoCopy, IsBestCopy, page_check, place_bytes, place_lsn_by}
use Rattle.model_page.specs.declared.page.PageState.TheVariants.{Broken}
use Rattle.model_device.specs.{Disk}
use Rattle.model_parts.specs.{IsRepairable}
use Rattle.redo_disk.proofs.Told.{still-known}
use Rattle.tests_devices.proofs.data.repair_broken.Goals as goal

-- by what was read, the place of a page holds these bytes
abbrev Shows : Shape → ℕ → List ℕ → Disk → Type 0
Shows shape page out disk = out ≡ place_bytes shape page disk.reads

-- by what reads give, this is what was found of the copies of a page
abbrev Finds : Shape → ℕ → Option (ℕ × ℕ) → Disk → Type 0
Finds shape page found disk =
    MatchOption found (HasNoCopy shape disk.reads page)
    (λ (best : ℕ × ℕ). IsBestCopy shape disk.reads page best.0 best.1)

repairable : (shape : Shape) (page : ℕ) (told : Option Disk) (out : List ℕ) (best : ℕ × ℕ)
    → IfSome told (Shows shape page out) → page_check out ≡ Broken → IfSome told (Finds shape page (Some best))
    → IfSome told (IsRepairable shape page)
repairable shape page None out best bytes broken found = tt
repairable shape page (Some disk) out best bytes broken found = record {
  broken = ap (place_lsn_by shape page) (ap page_check (sym bytes) ∙ broken);
  slot = best.0;
  lsn = best.1;
  below = found.below;
  passes = found.passes;
}

pub repair-requires-clause-repairable : goal.repair-requires-clause-repairable
repair-requires-clause-repairable g c =
    let shape = c.args.part.now.shape in
    let middle = c.read_page.new.self in
    let after = c.best_copy.new.self in
    let page = c.args.page in
    let out = c.read_page.new.out in
    let best = c.in-Broken-Some.field-0-1 in
    let told = (g.D.Sectors.seen after.dev).tells in
    let shape_then : middle.shape ≡ shape = c.in_ok-read_page.ensures.step.shape in
    let shape_now : after.shape ≡ shape = c.in_ok-best_copy.ensures.step.shape ∙ shape_then in
    let bytes : IfSome told (Shows shape page out) =
    still-known (g.D.Sectors.seen middle.dev).tells told (Shows shape page out) c.in_ok-best_copy.ensures.same
    c.in_ok-read_page.ensures.bytes in
    let found : IfSome told (Finds middle.shape page (Some best)) =
    subst (λ (one : Option (ℕ × ℕ)). IfSome told (Finds middle.shape page one)) c.in-Broken-Some.is-1
    c.in_ok-best_copy.ensures.found in
    subst (λ (s : Shape). IfSome told (IsRepairable s page)) (sym shape_now) (repairable shape page told out best bytes
    (sym c.in-Broken-Some.ensures) (subst (λ (s : Shape). IfSome told (Finds s page (Some best))) shape_then found))
