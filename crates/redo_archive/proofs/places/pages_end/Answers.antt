use Rattle.std.proofs.Common.{◌≡◌, ◌≤◌, ◌*◌, ap₂, arith}
use Rattle.std.proofs.Math.Nat.{mul-le-mul_right}
use Rattle.model_base.proofs.ShapeLimits.{whole_sectors}
use Rattle.model_base.specs.declared.limits.TheConstants.{MAX_PAGES}
use Rattle.redo_archive.proofs.places.pages_end.Goals as goal

pub returns-clause-small : goal.returns-clause-small
returns-clause-small c =
    let shape = c.args.shape.now in
    let sizes = whole_sectors shape c.requires in
    let product : c.from.result * c.from-2.result ≡ shape.pages * shape.page_size =
    ap₂ (λ a b. a * b) c.from.ensures c.from-2.ensures in
    let most : shape.pages * shape.page_size ≤ MAX_PAGES * shape.page_size =
    mul-le-mul_right shape.page_size c.requires.few_pages in
    omega (arith, sizes.most)
