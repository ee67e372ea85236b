-- Facts on lsns and sns that know nothing of actors: the order, blocks, the windows of the three rings.
use Rattle.std.proofs.Common.{ap, arith, subst, sym, ℕ, ◌%◌, ◌*◌, ◌+◌, ◌/◌, ◌<◌, ◌∙◌, ◌≡◌, ◌≤◌}
use mathlib.Core.Logic.{dite}
use native.Mathlib.Decide.{dec_le}
use Rattle.model_core.proofs.Lists.{one_turn}
use Rattle.model_core.specs.Lanes.{floor, lsn}
use Rattle.model_log.specs.declared.layout.TheConstants.{BLOCK_DATA}
use Rattle.model_core.specs.declared.limits.TheConstants.{BUFFER_BLOCKS, LOG_BUFFER, WRITTEN_LINKS}
use Rattle.model_base.specs.declared.limits.TheConstants.{BLOCK_SIZE, MAX_GROUP}

pub lsn_less : (x y : ℕ) → x < y → lsn x < lsn y
unfolding lsn
lsn_less x y h = omega arith

pub lsn_le : (x y : ℕ) → x ≤ y → lsn x ≤ lsn y
unfolding lsn
lsn_le x y h = omega arith

pub lsn_same : (x y : ℕ) → lsn x ≡ lsn y → x ≡ y
unfolding lsn
lsn_same x y h = omega arith

-- a distance of sns is at most that of lsns, and a group is no longer than 8,464 in lsns
pub lsn_wide : (x n : ℕ) → lsn x + n ≤ lsn (x + n)
unfolding lsn
lsn_wide x n = omega arith

pub lsn_near : (x n : ℕ) → n ≤ MAX_GROUP → lsn (x + n) ≤ lsn x + 8464
unfolding lsn
lsn_near x n h = omega arith

-- an sn is below the limit of the lsns if a later one's lsn is, and so is its own lsn
pub lsn_below : (x y limit : ℕ) → x ≤ y → lsn y < limit → lsn x < limit
lsn_below x y limit le h = let l = lsn_le x y le in omega arith

pub sn_below : (x y limit : ℕ) → x ≤ y → lsn y < limit → x < limit
unfolding lsn
sn_below x y limit le h = omega arith

pub lsn_block : (x : ℕ) → lsn x / BLOCK_SIZE ≡ x / BLOCK_DATA
unfolding lsn
lsn_block x = omega arith

pub lsn_offset : (x : ℕ) → lsn x % BLOCK_SIZE ≡ x % BLOCK_DATA + 12
unfolding lsn
lsn_offset x = omega arith

pub floor_lsn : (x : ℕ) → floor (lsn x) ≡ x / BLOCK_DATA * BLOCK_SIZE
unfolding lsn
floor_lsn x = omega arith

-- a floor grows with its mark
pub floor_grows : (x y : ℕ) → x ≤ y → floor x ≤ floor y
floor_grows x y h = omega arith

-- a place is below a block's end if its block is below
pub block_below : (x w : ℕ) → lsn x < floor (lsn w) + LOG_BUFFER → x / BLOCK_DATA * BLOCK_SIZE < floor (lsn w) + LOG_BUFFER
unfolding lsn
block_below x w h = omega arith

-- in one window of a ring two numbers at one place are one
pub ring_same : (a b lo n : ℕ) → lo ≤ a → lo ≤ b → a < lo + n → b < lo + n → a % n ≡ b % n → a ≡ b
ring_same a b lo n la lb ha hb e = dite (dec_le a b) (λ le. one_turn a b n le (omega arith) e) (λ more. sym (one_turn b a n (omega arith) (omega arith) (sym e)))

-- two sns at one link slot are one, if both are from t on and below a mark at or below t, plus 32,768
pub link_same : (x y t mark : ℕ) → mark ≤ lsn t → t ≤ x → t ≤ y → lsn x < mark + WRITTEN_LINKS → lsn y < mark + WRITTEN_LINKS → lsn x % WRITTEN_LINKS ≡ lsn y % WRITTEN_LINKS → x ≡ y
link_same x y t mark is lx ly hx hy e =
    let a = lsn_le t x lx in let b = lsn_le t y ly in
    lsn_same x y (ring_same (lsn x) (lsn y) mark WRITTEN_LINKS (omega arith) (omega arith) hx hy e)

-- a block is within the 128 from the first that isn't entered
pub block_window : (x w mark entered : ℕ) → mark ≡ lsn w → w ≤ BLOCK_DATA * entered → lsn x < floor mark + LOG_BUFFER → x / BLOCK_DATA < entered + BUFFER_BLOCKS
block_window x w mark entered is le h =
    let f : floor (lsn w) ≡ w / BLOCK_DATA * BLOCK_SIZE = floor_lsn w in
    let f' : floor mark ≡ w / BLOCK_DATA * BLOCK_SIZE = ap floor is ∙ f in
    let b : x / BLOCK_DATA * BLOCK_SIZE < floor mark + LOG_BUFFER = subst (λ (k : ℕ). lsn x < floor k + LOG_BUFFER → x / BLOCK_DATA * BLOCK_SIZE < floor k + LOG_BUFFER) (sym is) (block_below x w) h in
    omega arith

pub lsn_some : (x : ℕ) → 0 < lsn x
unfolding lsn
lsn_some x = omega arith
