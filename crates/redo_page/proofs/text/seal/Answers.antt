use Rattle.std.proofs.Common.{◌≡◌, ◌-◌, ◌++◌, length, take, drop, ◌∙◌, ap, sym, arith, refl}
use Rattle.std.specs.Int.{bytes_high_first}
use Rattle.model_base.specs.{crc_of}
use Rattle.redo_page.proofs.Seals.{page-by-steps, joined-six, head_text}
use Rattle.redo_page.proofs.text.seal.Goals as goal

pub returns : goal.returns
returns c =
    let old = c.args.page.now in
    let r6 : c.put.result ≡ 38 = omega (arith, c.put-at.ensures.next, c.put-at-2.ensures.next, c.put-at-3.ensures.next, c.put-at-4.ensures.next, c.put-at-5.ensures.next, c.put.ensures.next) in
    let front6 : take 38 c.put.new.page ≡ take 4 old ++ head_text c.args.number c.args.space c.args.lsn =
    ap (λ k. take k c.put.new.page) (sym r6) ∙ c.put.ensures.front
    ∙ ap (λ l. l ++ c.to_be_bytes-3.result) c.put-at-5.ensures.front
    ∙ ap (λ l. (l ++ bytes_high_first 8 0) ++ c.to_be_bytes-3.result) c.put-at-4.ensures.front
    ∙ ap (λ l. ((l ++ bytes_high_first 2 0) ++ bytes_high_first 8 0) ++ c.to_be_bytes-3.result) c.put-at-3.ensures.front
    ∙ ap (λ l. (((l ++ c.to_be_bytes-2.result) ++ bytes_high_first 2 0) ++ bytes_high_first 8 0) ++ c.to_be_bytes-3.result) c.put-at-2.ensures.front
    ∙ ap (λ l. ((((l ++ bytes_high_first 8 0) ++ c.to_be_bytes-2.result) ++ bytes_high_first 2 0) ++ bytes_high_first 8 0) ++ c.to_be_bytes-3.result) c.put-at.ensures.front
    ∙ joined-six (take 4 old) c.to_be_bytes.result (bytes_high_first 8 0) c.to_be_bytes-2.result (bytes_high_first 2 0) (bytes_high_first 8 0) c.to_be_bytes-3.result
    ∙ ap (λ l. take 4 old ++ (((((l ++ bytes_high_first 8 0) ++ c.to_be_bytes-2.result) ++ bytes_high_first 2 0) ++ bytes_high_first 8 0) ++ c.to_be_bytes-3.result)) c.to_be_bytes.ensures
    ∙ ap (λ l. take 4 old ++ (((((bytes_high_first 4 c.args.number ++ bytes_high_first 8 0) ++ l) ++ bytes_high_first 2 0) ++ bytes_high_first 8 0) ++ c.to_be_bytes-3.result)) c.to_be_bytes-2.ensures
    ∙ ap (λ l. take 4 old ++ (((((bytes_high_first 4 c.args.number ++ bytes_high_first 8 0) ++ bytes_high_first 8 c.args.lsn) ++ bytes_high_first 2 0) ++ bytes_high_first 8 0) ++ l)) c.to_be_bytes-3.ensures in
    let behind6 : drop 38 c.put.new.page ≡ drop 38 old =
    c.put.ensures.behind 38 (omega arith) ∙ c.put-at-5.ensures.behind 38 (omega (arith, c.put.ensures.next)) ∙ c.put-at-4.ensures.behind 38 (omega (arith, c.put.ensures.next, c.put-at-5.ensures.next))
    ∙ c.put-at-3.ensures.behind 38 (omega (arith, c.put.ensures.next, c.put-at-5.ensures.next, c.put-at-4.ensures.next))
    ∙ c.put-at-2.ensures.behind 38 (omega (arith, c.put-at-2.ensures.next, c.put-at.ensures.next)) ∙ c.put-at.ensures.behind 38 (omega (arith, c.put-at.ensures.next)) in
    let p6_long : length c.put.new.page ≡ length old =
    omega (arith, c.put-at.auto.page, c.put-at-2.auto.page, c.put-at-3.auto.page, c.put-at-4.auto.page, c.put-at-5.auto.page, c.put.auto.page) in
    let long : length c.put.new.page - 8 - 4 ≡ length old - 8 - 4 = omega (arith, p6_long) in
    let at8 : length c.put.new.page - 8 ≡ length old - 8 = omega (arith, p6_long) in
    let r7 : c.put-2.result ≡ 4 = omega (arith, c.put-2.ensures.next) in
    let r8 : length old - 4 ≡ c.put-at-6.result = omega (arith, c.put-at-6.ensures.next, p6_long, c.requires) in
    let r9 : length old ≡ c.put-3.result = omega (arith, c.put-3.ensures.next, r8, c.requires) in
    page-by-steps old c.put.new.page c.put-2.new.page c.put-at-6.new.page c.put-3.new.page c.args.number c.args.space c.args.lsn (length old) c.crc32c.result
    c.requires refl
    (omega (arith, c.put-at.auto.page, c.put-at-2.auto.page, c.put-at-3.auto.page, c.put-at-4.auto.page, c.put-at-5.auto.page, c.put.auto.page))
    (omega (arith, c.put-2.auto.page, c.put-at.auto.page, c.put-at-2.auto.page, c.put-at-3.auto.page, c.put-at-4.auto.page, c.put-at-5.auto.page, c.put.auto.page))
    (omega (arith, c.put-3.auto.page, c.put-at-6.auto.page, c.put-2.auto.page, c.put-at.auto.page, c.put-at-2.auto.page, c.put-at-3.auto.page, c.put-at-4.auto.page, c.put-at-5.auto.page, c.put.auto.page))
    front6 behind6
    (c.crc32c.ensures ∙ ap (λ k. crc_of (take k (drop 4 c.put.new.page))) long)
    (ap (λ k. take k c.put-2.new.page) (sym r7) ∙ c.put-2.ensures.front ∙ c.to_be_bytes-checksum.ensures)
    (c.put-2.ensures.behind 4 (omega (arith, c.put-2.ensures.next)))
    (ap (λ k. take k c.put-at-6.new.page) r8 ∙ c.put-at-6.ensures.front ∙ ap (λ k. take k c.put-2.new.page ++ c.to_be_bytes-checksum.result) at8 ∙ ap (λ l. take (length old - 8) c.put-2.new.page ++ l) c.to_be_bytes-checksum.ensures)
    (ap (λ k. take k c.put-3.new.page) r9 ∙ c.put-3.ensures.front ∙ ap (λ k. take k c.put-at-6.new.page ++ c.to_be_bytes-4.result) (sym r8) ∙ ap (λ l. take (length old - 4) c.put-at-6.new.page ++ l) c.to_be_bytes-4.ensures)
