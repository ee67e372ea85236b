-- What a part of a row of bytes is after a write into the row.
use Rattle.std.proofs.Common.{◌≡◌, ℕ, ◌+◌, ◌-◌, ◌≤◌, List, length, take, drop, rules, arith}
use Rattle.std.proofs.lemmas.List.{places, same_lists}
use Rattle.model_base.specs.{overwritten}

pub length-overwritten : (at : ℕ) (new old : List ℕ) → at + length new ≤ length old → length (overwritten at new old) ≡ length old
length-overwritten at new old fits = search (rules, places)

-- a part before the write
pub part-overwritten_before : (n m at : ℕ) (new old : List ℕ) → m + n ≤ at → at + length new ≤ length old → take n (drop m (overwritten at new old)) ≡ take n (drop m old)
part-overwritten_before n m at new old before fits = same_lists _ _ (search (rules, places)) (λ k d h. grind (arith, places))

-- a part past the write
pub part-overwritten_behind : (n m at : ℕ) (new old : List ℕ) → at + length new ≤ m → at + length new ≤ length old → take n (drop m (overwritten at new old)) ≡ take n (drop m old)
part-overwritten_behind n m at new old behind fits = same_lists _ _ (search (rules, places)) (λ k d h. grind (arith, places))

-- a part of what is written
pub part-overwritten_inside : (n m at : ℕ) (new old : List ℕ) → at ≤ m → m + n ≤ at + length new → at + length new ≤ length old → take n (drop m (overwritten at new old)) ≡ take n (drop (m - at) new)
part-overwritten_inside n m at new old from up_to fits = same_lists _ _ (search (rules, places)) (λ k d h. grind (arith, places))
