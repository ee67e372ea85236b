-- What a part of a row shows of a write into the row.
use Rattle.std.proofs.Common.{◌≡◌, ◌+◌, ◌-◌, ◌<◌, ◌≤◌, ℕ, List, length, get_or, take, drop, max, min, ap, ◌∙◌, arith, rules}
use Rattle.std.proofs.lemmas.List.{places, same_lists, get_or-take, get_or-drop}
use Rattle.model_base.specs.{overwritten}
use Rattle.redo_disk.specs.{part}
use borrow.Rule.Slice.PartMut.{put_mid}

-- the part and the write have something in common, from one offset up to another
pub part-overwritten : (row bytes out : List ℕ) (at start from to : ℕ) → at + length out ≤ length row → start + length bytes ≤ length row
    → out ≡ part row at (length out) → from ≡ max start at → to ≡ min (start + length bytes) (at + length out) → from < to
    → put_mid (from - at) (to - at - (from - at)) out (take (to - start - (from - start)) (drop (from - start) bytes))
    ≡ part (overwritten start bytes row) at (length out)
part-overwritten row bytes out at start from to here there shows from_is to_is some =
    let same : (k d : ℕ) → k < length out → get_or out k d ≡ get_or row (at + k) d = λ k d below. ap (λ l. get_or l k d) shows ∙ get_or-take (length out) (drop at row) k d below ∙ get_or-drop at row k d in
    same_lists _ _ (search (rules, places)) (λ k d h. grind (arith, places, same k d))

-- the part and the write have nothing in common
pub part-overwritten_apart : (row bytes out : List ℕ) (at start from to : ℕ) → at + length out ≤ length row → start + length bytes ≤ length row
    → out ≡ part row at (length out) → from ≡ max start at → to ≡ min (start + length bytes) (at + length out) → to ≤ from
    → out ≡ part (overwritten start bytes row) at (length out)
part-overwritten_apart row bytes out at start from to here there shows from_is to_is none =
    let same : (k d : ℕ) → k < length out → get_or out k d ≡ get_or row (at + k) d =
    λ k d below. ap (λ l. get_or l k d) shows ∙ get_or-take (length out) (drop at row) k d below ∙ get_or-drop at row k d in
    same_lists _ _ (search (rules, places)) (λ k d h. grind (arith, places, same k d))
