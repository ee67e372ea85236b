-- The parts of the eight bytes.
use Rattle.std.proofs.Common.{◌≡◌, ◌/◌, ◌%◌, ◌<◌, ℕ, get_or, ap, ◌∙◌, sym, arith}
use Rattle.model_base.specs.{register_after}
use Rattle.redo_crc.proofs.TableLemmas.{eight-parts, eight-places}
use Rattle.redo_crc.proofs.step.after_eight.Goals as goal

pub returns : goal.returns
returns c =
    let r = c.args.register in
    let bytes = c.args.bytes.now in
    let small : (i : ℕ) → get_or bytes i 0 < 256 = c.fits-bytes in
    let r0 : get_or c.to_le_bytes.result 0 0 ≡ r % 256 = ap (λ s. get_or s 0 0) c.to_le_bytes.ensures ∙ omega arith in
    let r1 : get_or c.to_le_bytes.result 1 0 ≡ r / 256 % 256 = ap (λ s. get_or s 1 0) c.to_le_bytes.ensures ∙ omega arith in
    let r2 : get_or c.to_le_bytes.result 2 0 ≡ r / 256 / 256 % 256 = ap (λ s. get_or s 2 0) c.to_le_bytes.ensures ∙ omega arith in
    let r3 : get_or c.to_le_bytes.result 3 0 ≡ r / 256 / 256 / 256 % 256 = ap (λ s. get_or s 3 0) c.to_le_bytes.ensures ∙ omega arith in
    rw (c.followed.ensures, c.followed-2.ensures, c.followed-3.ensures, c.followed-4.ensures, c.followed-5.ensures, c.followed-6.ensures, c.followed-7.ensures, c.followed-8.ensures, r0, r1, r2, r3) (
    eight-parts r (get_or bytes 0 0) (get_or bytes 1 0) (get_or bytes 2 0) (get_or bytes 3 0) (get_or bytes 4 0) (get_or bytes 5 0) (get_or bytes 6 0) (get_or bytes 7 0)
    (omega arith) (small 0) (small 1) (small 2) (small 3) (small 4) (small 5) (small 6) (small 7)
    ∙ ap (register_after r) (sym (eight-places bytes c.told-bytes))
    )
