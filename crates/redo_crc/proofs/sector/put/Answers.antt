use Rattle.std.proofs.Common.{◌≡◌, ◌≤◌, ◌+◌, ◌-◌, ℕ, List, ◌++◌, length, take, drop, sym, ap, ◌∙◌, append_assoc, length-append, arith}
use Rattle.std.proofs.lemmas.List.{drop_at, drop-drop, length-take-le}
use borrow.Rule.Slice.PartMut.{put_mid}
use Rattle.redo_crc.proofs.sector.put.Goals as goal

-- what stands after bytes that were put
drop-put_mid : (at count : ℕ) (bytes old : List ℕ) → count ≡ length bytes → at ≤ length old
    → drop (at + length bytes) (put_mid at count old bytes) ≡ drop (at + length bytes) old
drop-put_mid at count bytes old same within =
    let head : List ℕ = take at old ++ bytes in
    let size : length head ≡ at + length bytes = length-append (take at old) bytes ∙ ap (λ (n : ℕ). n + length bytes) (length-take-le at old within) in
    ap (drop (at + length bytes)) (sym (append_assoc (take at old) bytes (drop count (drop at old))))
    ∙ drop_at head (drop count (drop at old)) (at + length bytes) size
    ∙ drop-drop count at old
    ∙ ap (λ (n : ℕ). drop (at + n) old) same

pub returns-clause-behind : goal.returns-clause-behind
returns-clause-behind c =
    rw c.copy_from_slice.ensures.after (drop-put_mid c.args.at (c.args.at + length c.args.bytes.now - c.args.at) c.args.bytes.now c.args.sector.now (omega arith) (omega (arith, c.requires, c.told-sector)))
