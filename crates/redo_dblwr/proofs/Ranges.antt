-- Stretches of page size are whole sectors, within the device.
use Rattle.std.proofs.Common.{◌≡◌, ◌≤◌, ◌<◌, ◌+◌, ◌-◌, ◌*◌, ℕ, List, length, take, drop, length-take, length-drop, refl, sym, subst, ◌∙◌, arith}
use Rattle.std.proofs.Math.Nat.{mul-le-mul_right}
use Rattle.model_base.proofs.ShapeLimits.{page_size_facts}
use Rattle.model_base.specs.{IsPageSize}
use Rattle.model_base.specs.declared.shape.Shape.{Shape}
use Rattle.model_page.specs.{data_device_length}
use Rattle.model_parts.specs.{place_at}
use Rattle.model_parts.proofs.Rows.{row-sector, row_ends}
use Rattle.redo_disk.specs.{IsRange}

-- the first so many
pub front-range : (shape : Shape) (size count : ℕ) → IsPageSize shape.page_size → data_device_length shape ≤ size
    → count ≤ shape.slots + shape.pages → IsRange size 0 (count * shape.page_size)
front-range shape size count page long few =
    let within : count * shape.page_size ≤ (shape.slots + shape.pages) * shape.page_size =
    mul-le-mul_right shape.page_size few in
    record {
      from_sector = refl;
      whole_sectors = row-sector count shape.page_size (page_size_facts shape.page_size page).sectors;
      within = omega arith;
    }

-- one of them
pub stretch-range : (shape : Shape) (size n : ℕ) → IsPageSize shape.page_size → data_device_length shape ≤ size
    → n < shape.slots + shape.pages → IsRange size (n * shape.page_size) shape.page_size
stretch-range shape size n page long below =
    let whole = page_size_facts shape.page_size page in
    record {
      from_sector = row-sector n shape.page_size whole.sectors;
      whole_sectors = whole.sectors;
      within = omega (arith, row_ends n (shape.slots + shape.pages) shape.page_size below);
    }

-- the place of a page, and bytes that fill it
pub place-range : (shape : Shape) (size page at count : ℕ) → IsPageSize shape.page_size
    → data_device_length shape ≤ size
    → page < shape.pages → at ≡ place_at shape page → count ≡ shape.page_size → IsRange size at count
place-range shape size page at count whole long below at_is count_is =
    subst (λ (o : ℕ). IsRange size o count) (sym at_is)
    (subst (λ (n : ℕ). IsRange size (place_at shape page) n) (sym count_is)
    (stretch-range shape size (shape.slots + page) whole long (omega arith)))

-- one of rows of so many bytes, as a loop cuts it
pub length-row : (i count n : ℕ) (rows : List ℕ) → i < count → count * n ≤ length rows
    → length (take (i * n + n - i * n) (drop (i * n) rows)) ≡ n
length-row i count n rows below long =
    length-take (i * n + n - i * n) (drop (i * n) rows) ∙ omega (arith, length-drop (i * n) rows, row_ends i count n below)
