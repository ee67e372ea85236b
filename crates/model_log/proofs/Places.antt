-- Where the blocks of a log stand on its device.
use Rattle.std.proofs.Common.{◌≡◌, ◌≤◌, ◌<◌, ◌+◌, ◌-◌, ◌*◌, ◌/◌, ◌%◌, ℕ, sym, ap, ◌∙◌, ⊎_elim, arith}
use Rattle.std.proofs.lemmas.Bool.{cases_lt}
use Rattle.std.proofs.lemmas.Nat.{div-add-mod', mod-mul-add, mod_below, mul-le}
use Rattle.model_base.specs.declared.limits.TheConstants.{START_LSN}
use Rattle.model_log.specs.Device.{place_in, ring_start, round_of}
use Rattle.model_log.specs.Ring.{IsInRound, sector_of}
use Rattle.model_log.specs.declared.layout.Layout.{Layout}
use Rattle.model_log.specs.Block.{block_of}

-- a log has blocks
pub record HasBlocks (layout : Layout) : Type 0 where
  pub some : 1 ≤ layout.blocks
  pub few : layout.blocks < 1073741824

whole-sectors : (x l : ℕ) → x % 512 ≡ 0 → (x % (512 * l)) % 512 ≡ 0
whole-sectors x l aligned =
    let q : ℕ = x / (512 * l) in
    let parts : x / (512 * l) * (512 * l) + x % (512 * l) ≡ x = div-add-mod' x (512 * l) in
    omega arith

rest-below : (x l : ℕ) → 1 ≤ l → x % 512 ≡ 0 → x % (512 * l) + 512 ≤ 512 * l
rest-below x l some aligned =
    let below : x % (512 * l) < 512 * l = mod_below x (512 * l) (omega arith) in
    let whole : (x % (512 * l)) % 512 ≡ 0 = whole-sectors x l aligned in
    omega arith

from-start : (b : ℕ) → (block_of b - START_LSN) % 512 ≡ 0
from-start b = omega arith

pub sector-place : (layout : Layout) (b : ℕ) → 512 * sector_of layout b ≡ place_in layout b
sector-place layout b =
    let whole : ((block_of b - START_LSN) % round_of layout) % 512 ≡ 0 = whole-sectors (block_of b - START_LSN) layout.blocks (from-start b) in
    omega arith

pub place-within : (layout : Layout) (b : ℕ) → HasBlocks layout → place_in layout b + 512 ≤ ring_start layout + round_of layout
place-within layout b blocks =
    let below : (block_of b - START_LSN) % round_of layout + 512 ≤ round_of layout =
    rest-below (block_of b - START_LSN) layout.blocks blocks.some (from-start b) in
    omega arith

pub place-from : (layout : Layout) (b : ℕ) → ring_start layout ≤ place_in layout b
place-from layout b = omega arith

-- two numbers with one rest, less than the divisor apart
same-rest : (x y n : ℕ) → x % n ≡ y % n → x ≤ y → y < x + n → x ≡ y
same-rest x y n same low near =
    let x_parts : x / n * n + x % n ≡ x = div-add-mod' x n in
    let y_parts : y / n * n + y % n ≡ y = div-add-mod' y n in
    ⊎_elim (λ less. let more : (x / n + 1) * n ≤ y / n * n = mul-le (x / n + 1) n (y / n) n (omega arith) (omega arith) in absurd (omega arith))
    (λ not_less. let more : y / n * n ≤ x / n * n = mul-le (y / n) n (x / n) n not_less (omega arith) in omega arith) (cases_lt (x / n) (y / n))

-- in one round of the log each block has a place of its own
pub one-place_each : (layout : Layout) (ckpt b c : ℕ) → START_LSN ≤ ckpt → IsInRound layout ckpt b → IsInRound layout ckpt c
    → place_in layout b ≡ place_in layout c → b ≡ c
one-place_each layout ckpt b c started b_in c_in same =
    let n : ℕ = round_of layout in
    let b_is : block_of b ≡ b = omega (arith, b_in.aligned) in
    let c_is : block_of c ≡ c = omega (arith, c_in.aligned) in
    let rests : (block_of b - START_LSN) % n ≡ (block_of c - START_LSN) % n = omega arith in
    let b_low : START_LSN ≤ b = omega (arith, b_in.from) in
    let c_low : START_LSN ≤ c = omega (arith, c_in.from) in
    let b_near : b < ckpt + n = b_in.below in
    let c_near : c < ckpt + n = c_in.below in
    ⊎_elim (λ less. let is : block_of b - START_LSN ≡ block_of c - START_LSN = same-rest (block_of b - START_LSN) (block_of c - START_LSN) n rests (omega arith) (omega (arith, b_in.from)) in omega arith)
    (λ not_less. let is : block_of c - START_LSN ≡ block_of b - START_LSN = same-rest (block_of c - START_LSN) (block_of b - START_LSN) n (sym rests) (omega arith) (omega (arith, c_in.from)) in omega arith) (cases_lt b c)

rest-on : (x k n : ℕ) → x % n + k < n → (x + k) % n ≡ x % n + k
rest-on x k n within =
    let parts : x / n * n + x % n ≡ x = div-add-mod' x n in
    let same : x + k ≡ x / n * n + (x % n + k) = omega arith in
    ap (λ m. m % n) same ∙ mod-mul-add (x / n) n (x % n + k) within

-- blocks stand side by side up to the end of the device's log
pub place-on : (layout : Layout) (b i count : ℕ) → b % 512 ≡ 0 → START_LSN ≤ b → i < count
    → place_in layout b + 512 * count ≤ ring_start layout + round_of layout
    → place_in layout (b + 512 * i) ≡ place_in layout b + 512 * i
place-on layout b i count aligned started below within =
    let n : ℕ = round_of layout in
    let next : block_of (b + 512 * i) - START_LSN ≡ (block_of b - START_LSN) + 512 * i = omega arith in
    let rest : ((block_of b - START_LSN) + 512 * i) % n ≡ (block_of b - START_LSN) % n + 512 * i = rest-on (block_of b - START_LSN) (512 * i) n (omega arith) in
    let all : (block_of (b + 512 * i) - START_LSN) % n ≡ (block_of b - START_LSN) % n + 512 * i = ap (λ m. m % n) next ∙ rest in
    omega arith

rest-round : (x n : ℕ) → 1 ≤ n → (x + n) % n ≡ x % n
rest-round x n some =
    let parts : x / n * n + x % n ≡ x = div-add-mod' x n in
    let same : x + n ≡ (x / n + 1) * n + x % n = omega arith in
    ap (λ m. m % n) same ∙ mod-mul-add (x / n + 1) n (x % n) (mod_below x n (omega arith))

-- one round on the log is at the same place again
pub place-round : (layout : Layout) (b : ℕ) → HasBlocks layout → b % 512 ≡ 0 → START_LSN ≤ b
    → place_in layout (b + round_of layout) ≡ place_in layout b
place-round layout b blocks aligned started =
    let n : ℕ = round_of layout in
    let next : block_of (b + n) - START_LSN ≡ (block_of b - START_LSN) + n = omega arith in
    let rest : ((block_of b - START_LSN) + n) % n ≡ (block_of b - START_LSN) % n = rest-round (block_of b - START_LSN) n (omega (arith, blocks.some)) in
    let all : (block_of (b + n) - START_LSN) % n ≡ (block_of b - START_LSN) % n = ap (λ m. m % n) next ∙ rest in
    omega arith
